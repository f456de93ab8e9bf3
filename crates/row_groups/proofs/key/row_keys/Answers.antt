-- The rows are those of the range, each in its place.
use Rattle.std.proofs.Common.{◌≡◌, ◌-◌, ◌<◌, ℕ, [], length, map, ap, sym, ◌∙◌, arith}
use Rattle.std.specs.List.{range_with_len}
use Rattle.std.proofs.lemmas.List.{get_or-map, length-map}
use Rattle.std.proofs.lemmas.List.FromFn.{fill_by_all}
use Rattle.std.proofs.lemmas.Slice.Zip.{AllZip-map}
use Rattle.rayon.specs.Numbers.{nat_range}
use Rattle.rayon.proofs.ToStd.{nat_range-All}
use Rattle.sgl_values.specs.World.{Row, row_at}
use Rattle.row_groups.specs.Keys.{four_of, row_values}
use Rattle.row_groups.proofs.key.row_keys.Goals as goal

pub collect-requires-clause-ready : goal.collect-requires-clause-ready
collect-requires-clause-ready g c κs within =
    let ends = c.into_par_iter.ensures in
    let inside = nat_range-All (λ i. i < length c.args.world.now.world.rows) 0 c.len.result (λ i low high. omega (arith, high, c.len.ensures.value)) in
    rw (c.map.ensures.base, c.map.ensures.f, c.with_min_len.ensures.base, ends.0, ends.1) (λ k d lt. (inside k d lt, λ y p. tt))

pub returns : goal.returns
returns g c =
    let ends = c.into_par_iter.ensures in
    let rows = c.args.world.now.world.rows in
    let none : Row = record { key = 0; values = [] } in
    let key = λ (row : Row). four_of (row_values c.args.attrs.now row) in
    let key_at = λ (i : ℕ). four_of (row_values c.args.attrs.now (row_at c.args.world.now.world i)) in
    let whole : c.len.result - 0 ≡ length rows = omega (arith, c.len.ensures.value) in
    let h = c.in_ok-keys.ensures in
    let chain = rw (c.map.ensures.base, c.map.ensures.f, c.with_min_len.ensures.base) at h.1 in
    let places = chain.1 ∙ (λ i. nat_range (ends.0 i) (ends.1 i)) ∙ ap (range_with_len 0) whole in
    h.2 ∙ AllZip-map key_at chain.0 h.0 chain.2 ∙ ap (map key_at) places
    ∙ sym (fill_by_all key_at (map key rows) (length rows) (key none) (length-map rows key) (λ k below. get_or-map key rows k none (key none) below))
