-- A block of which nothing is asked for is left behind.
use Rattle.std.proofs.Common.{◌+◌, ◌-◌, ◌≡◌, ℕ, List, length, take, drop, ap, sym, ◌∙◌, arith}
use Rattle.std.specs.Prelude.{filter}
use Rattle.row_groups.specs.Strips.{is_held}
use Rattle.row_groups.proofs.Stripping.{past_more}
use Rattle.row_groups.proofs.strip.skip.Goals as goal

pub loop-place-preserved : goal.loop-place-preserved
loop-place-preserved c =
    let ranks : List ℕ = c.args.ranks.now in
    let place : ℕ = c.loop-place.place in
    let held = is_held c.args.low (c.args.last + 1) in
    let block : place + 16 - place ≡ 16 = omega arith in
    let none : length (filter held (take 16 (drop place ranks))) ≡ 0 =
    ap (λ (n : ℕ). length (filter held (take n (drop place ranks)))) (sym block) ∙ sym c.count_held.ensures ∙ c.if-count_held-eq0.true in
    record { within = omega arith; past = past_more held ranks place 16 (omega arith) c.loop-place.invariant.past none }
