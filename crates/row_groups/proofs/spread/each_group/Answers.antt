-- The groups are those of the range, each in its place.
use Rattle.std.proofs.Common.{◌≡◌, ◌-◌, ◌<◌, ℕ, List, Result, Ok, ap, subst, ◌∙◌, arith, of_calls}
use Rattle.std.specs.List.{AllZip, range_with_len}
use Rattle.rayon.specs.Numbers.{nat_range}
use Rattle.rayon.proofs.ToStd.{nat_range-All}
use Rattle.sgl_values.proofs.Gathered.{each_made, gathered}
use Rattle.sgl_values.specs.declared.memory.Memory.{Memory}
use Rattle.row_groups.specs.Made.{AreMade}
use Rattle.row_groups.proofs.Making.{each_told}
use Rattle.row_groups.proofs.spread.each_group.Goals as goal

pub collect-requires-clause-ready : goal.collect-requires-clause-ready
collect-requires-clause-ready g c κs within =
    let ends = c.into_par_iter.ensures in
    let inside = nat_range-All (λ i. i < c.args.groups) 0 c.args.groups (λ i low high. high) in
    rw (c.map.ensures.base, c.map.ensures.f, c.with_min_len.ensures.base, ends.0, ends.1)
    (λ k d below. let may = c.requires _ (inside k d below) in (search (of_calls, may), λ y p. tt))

pub returns : goal.returns
returns g c =
    let ends = c.into_par_iter.ensures in
    let count = c.args.groups in
    let whole : count - 0 ≡ count = omega arith in
    let h = c.in_ok-made.ensures in
    let chain = rw (c.map.ensures.base, c.map.ensures.f, c.with_min_len.ensures.base) at h.1 in
    let places : chain.0 ≡ range_with_len 0 count = chain.1 ∙ (λ i. nat_range (ends.0 i) (ends.1 i)) ∙ ap (range_with_len 0) whole in
    let Told : ℕ → Result g.row.T.Denot Memory → Type 0 = λ group made. g.F.Fn.post c.args.make (group, tt) made in
    let Made : ℕ → g.row.T.Denot → Type 0 = λ group one. Told group (Ok one) in
    let all = subst (λ (groups : List ℕ). AllZip Told groups h.0) places chain.2 in
    gathered Made (λ v. v.items) (AreMade Made count) (range_with_len 0 count) h.0 c.in_ok-made.made
    (λ made each. let both = each_made Made count made each in record { full = both.0; each = both.1 }) (each_told Told (range_with_len 0 count) h.0 all) h.2
