use mir.Syntax.{w64}
use mir.Val.{SFits, of_z, to_z}
use Rattle.std.proofs.Common.{◌≡◌, ◌≤◌, ℤ, ◌-ℤ◌, ◌∙◌, ap, arith, Option, subst, sym}
use Rattle.std.specs.Prelude.{unsigned_abs}
use Rattle.std.proofs.lemmas.Int.{ints, to_z-of_z}
use Rattle.sgl_evaluate.specs.Frame.{context_of}
use Rattle.sgl_evaluate.specs.Rights.{right_of}
use Rattle.test_boxes.proofs.Shapes.{boxed_no_circle}
use Rattle.test_boxes.proofs.TakenOff.{sum_off, sum_without}
use Rattle.group_boxes.specs.declared.ranged.GroupBoxes.{GroupBoxes}
use Rattle.group_boxes.specs.Ranged.{AreTurned}
use Rattle.group_boxes.proofs.ranged.sum.Goals as goal

narrow : (z : ℤ) → unsigned_abs z ≤ 65536000000000000 → to_z w64 (of_z w64 z) ≡ z
narrow z bound = to_z-of_z w64 z (omega (arith, ints, bound))

difference-fits : (a b : ℤ) → unsigned_abs a ≤ 65536000000000000 → unsigned_abs b ≤ 65536000000000000 → SFits w64 (a -ℤ b)
difference-fits a b first second = omega (arith, ints, first, second)

pub returns-in-None : goal.returns-in-None
returns-in-None c =
    let tests = c.args.tests.now in
    let rows = c.args.asking.now.frame.now.tick.world.now.world.rows in
    let P : Option GroupBoxes → Type 0 = λ o. AreTurned o tests rows in
    narrow c.group_sum-all.result c.group_sum-all.ensures.small ∙ c.group_sum-all.ensures.sum
    ∙ sum_without (context_of c.args.asking.now.frame.now) tests rows (boxed_no_circle tests c.requires.asked.boxed) c.args.attr (subst P c.in-None.is c.requires.ranged.turned)

parts : (c : goal.After-group_sum) → (to_z w64 (of_z w64 c.group_sum-all.result) -ℤ to_z w64 (of_z w64 c.group_sum.result)) ≡ (c.group_sum-all.result -ℤ c.group_sum.result)
parts c = λ i. narrow c.group_sum-all.result c.group_sum-all.ensures.small i -ℤ narrow c.group_sum.result c.group_sum.ensures.small i

pub overflow_sub-result : goal.overflow_sub-result
overflow_sub-result c =
    let P : ℤ → Type 0 = SFits w64 in
    subst P (sym (parts c)) (difference-fits c.group_sum-all.result c.group_sum.result c.group_sum-all.ensures.small c.group_sum.ensures.small)

pub returns-in-Some : goal.returns-in-Some
returns-in-Some c =
    let tests = c.args.tests.now in
    let rows = c.args.asking.now.frame.now.tick.world.now.world.rows in
    let right = right_of (context_of c.args.asking.now.frame.now) in
    let P : Option GroupBoxes → Type 0 = λ o. AreTurned o tests rows in
    ap (λ z. to_z w64 (of_z w64 z)) (parts c)
    ∙ to_z-of_z w64 (c.group_sum-all.result -ℤ c.group_sum.result) (difference-fits c.group_sum-all.result c.group_sum.result c.group_sum-all.ensures.small c.group_sum.ensures.small)
    ∙ (λ i. c.group_sum-all.ensures.sum i -ℤ c.group_sum.ensures.sum i)
    ∙ sum_off (context_of c.args.asking.now.frame.now) tests rows (boxed_no_circle tests c.requires.asked.boxed) c.args.attr (subst P c.in-Some.is c.requires.ranged.turned).0
