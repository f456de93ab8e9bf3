-- All rows ask for the one group.
use Rattle.std.proofs.Common.{◌≡◌, ◌<◌, ◌∙◌, ℕ, ap, get_or, length, arith}
use Rattle.std.specs.List.{range_with_len}
use Rattle.std.proofs.lemmas.List.FromFn.{get_or-range_with_len, length-range_with_len}
use Rattle.group_sweeps.specs.Finds.{point_by}
use Rattle.group_sweeps.proofs.Rounds.{sole_found}
use Rattle.group_sweeps.proofs.group_sweep.sweep_sole.Goals as goal

pub find_among-requires-clause-few : goal.find_among-requires-clause-few
find_among-requires-clause-few g c κs within =
    let count : ℕ = length c.args.of.now.asks.now in
    omega (arith, ap length c.as_slice.ensures.value, ap length c.in_ok-rows.ensures, length-range_with_len 0 count, c.requires.few)

pub find_among-requires-clause-asks : goal.find_among-requires-clause-asks
find_among-requires-clause-asks g c κs within = λ k d below.
    let count : ℕ = length c.args.of.now.asks.now in
    let all : c.as_slice.result.now ≡ range_with_len 0 count = c.as_slice.ensures.value ∙ c.in_ok-rows.ensures in
    let inside : k < count = omega (arith, below, ap length all, length-range_with_len 0 count) in
    omega (arith, inside, ap (λ l. get_or l k d) all, get_or-range_with_len 0 count k d inside)

pub returns : goal.returns
returns g c =
    let of = c.args.of.now in
    let world = of.world.now.world in
    let found = sole_found world (point_by of.sides world) of.groups.now.lists of.asks.now c.as_slice.result.now c.in_ok-found.found.items c.requires.sole
    (c.as_slice.ensures.value ∙ c.in_ok-rows.ensures) c.in_ok-found.ensures in
    record { size = found.0; each = found.1 }
