-- A row more is between the new bounds, as those before are.
use mir.Syntax.{w64}
use Rattle.std.proofs.Common.{ℤ, ◌≤ℤ◌, arith, subst, to_z, of_z}
use Rattle.std.specs.Prelude.{All}
use Rattle.std.proofs.lemmas.Int.{clamps, ints}
use Rattle.std.proofs.lemmas.List.{take_all}
use Rattle.row_groups.specs.declared.ranked.Ranked.{Ranked}
use Rattle.row_groups.proofs.Scaling.{all_more}
use Rattle.row_groups.proofs.ends.scale_of.Goals as goal

pub loop-ranked-preserved : goal.loop-ranked-preserved
loop-ranked-preserved c =
    let least : ℤ = to_z w64 (of_z w64 c.min-least.result) in
    let greatest : ℤ = to_z w64 (of_z w64 c.max-greatest.result) in
    let old_least : ℤ = to_z w64 c.loop-ranked.least-bits in
    let old_greatest : ℤ = to_z w64 c.loop-ranked.greatest-bits in
    let Old : Ranked → Type 0 = λ ranked. (old_least ≤ℤ ranked.value) × (ranked.value ≤ℤ old_greatest) in
    let New : Ranked → Type 0 = λ ranked. (least ≤ℤ ranked.value) × (ranked.value ≤ℤ greatest) in
    let under : to_z w64 (of_z w64 c.min-least.result) ≤ℤ to_z w64 c.loop-ranked.least-bits = omega (arith, ints) in
    let over : to_z w64 c.loop-ranked.greatest-bits ≤ℤ to_z w64 (of_z w64 c.max-greatest.result) = omega (arith, ints) in
    let low : to_z w64 (of_z w64 c.min-least.result) ≤ℤ c.ranked-item.result.value = omega (arith, ints) in
    let high : c.ranked-item.result.value ≤ℤ to_z w64 (of_z w64 c.max-greatest.result) = omega (arith, ints) in
    record {
      low = omega (arith, ints, clamps);
      order = omega (arith, ints);
      high = omega (arith, ints, clamps);
      within = all_more Old New c.args.all.now c.loop-ranked.ranked-index c.ranked-item.result c.loop-ranked-test.true
          (λ r h. let a = h.0 in let b = h.1 in (omega (arith, ints), omega (arith, ints))) c.loop-ranked.invariant.within (subst New c.ranked-item.is (low, high));
    }

pub returns-clause-within : goal.returns-clause-within
returns-clause-within c =
    let Old : Ranked → Type 0 = λ ranked. (to_z w64 c.loop-ranked.least-bits ≤ℤ ranked.value) × (ranked.value ≤ℤ to_z w64 c.loop-ranked.greatest-bits) in
    subst (All Old) (take_all c.loop-ranked.ranked-index c.args.all.now (omega (arith, c.loop-ranked-test.false))) c.loop-ranked.invariant.within
