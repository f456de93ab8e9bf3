use mir.Syntax.{w64, w128}
use mir.Val.{SFits, of_z, to_z}
use Rattle.std.proofs.Common.{◌≡◌, ◌≤◌, ℤ, ◌∙◌, ap, arith, subst, sym}
use Rattle.std.specs.Prelude.{filter, length, unsigned_abs}
use Rattle.std.proofs.lemmas.Int.{ints, to_z-of_z}
use Rattle.range_aggregate.specs.Boxes.{sum_of as weight_in}
use Rattle.sgl_typed.specs.Aggregate.{sum_of}
use Rattle.sgl_evaluate.specs.Frame.{context_of}
use Rattle.sgl_evaluate.specs.Rights.{right_of}
use Rattle.test_boxes.specs.Readings.{passes_read}
use Rattle.group_boxes.specs.Points.{points_under}
use Rattle.group_boxes.proofs.Answering.{read_sum}
use Rattle.group_boxes.proofs.Smallness.{sum_small, total_small}
use Rattle.group_boxes.proofs.ranged.group_sum.Goals as goal

sum-is : (c : goal.After-sum) → c.sum.result ≡ sum_of c.args.attr (filter (passes_read c.args.how (right_of (context_of c.args.asking.now.frame.now)) c.args.tests.now) c.args.asking.now.frame.now.tick.world.now.world.rows)
sum-is c =
    let part = c.args.part.now in
    let asked = c.args.asked in
    let world = c.args.asking.now.frame.now.tick.world.now in
    c.sum.ensures
    ∙ ap (λ key. weight_in asked.across.low asked.across.high asked.down.low asked.down.high (points_under part.groups.now part.boxes.now key)) c.asked_key-key.ensures
    ∙ read_sum part c.args.how (right_of (context_of c.args.asking.now.frame.now)) c.args.tests.now world.world.rows world.width asked c.requires.how c.requires.asked.few c.requires.asked.boxed c.requires.asked.spans
    c.requires.part c.len.ensures.table.fits.rows_fit c.args.attr c.requires.weighed

small : (c : goal.After-sum) → unsigned_abs c.sum.result ≤ 65536000000000000
small c =
    let world = c.args.asking.now.frame.now.tick.world.now in
    let passes = passes_read c.args.how (right_of (context_of c.args.asking.now.frame.now)) c.args.tests.now in
    let P : ℤ → Type 0 = λ z. unsigned_abs z ≤ 65536000000000000 in
    subst P (sym (sum-is c))
    (total_small (length world.world.rows) _ c.len.ensures.table.fits.few (sum_small world.width c.args.attr passes world.world.rows c.len.ensures.table.fits.rows_fit))

fits : (c : goal.After-sum) → SFits w64 c.sum.result
fits c = let bound : unsigned_abs c.sum.result ≤ 65536000000000000 = small c in omega (arith, ints, bound)

wide : (c : goal.After-sum) → to_z w128 (of_z w128 c.sum.result) ≡ c.sum.result
wide c = to_z-of_z w128 c.sum.result (record { sfits = c.sum.type_inv })

pub overflow_cast-result : goal.overflow_cast-result
overflow_cast-result c = let P : ℤ → Type 0 = SFits w64 in subst P (sym (wide c)) (fits c)

cast : (c : goal.After-sum) → to_z w64 (of_z w64 (to_z w128 (of_z w128 c.sum.result))) ≡ c.sum.result
cast c = ap (λ z. to_z w64 (of_z w64 z)) (wide c) ∙ to_z-of_z w64 c.sum.result (fits c)

pub returns-clause-sum : goal.returns-clause-sum
returns-clause-sum c = cast c ∙ sum-is c

pub returns-clause-small : goal.returns-clause-small
returns-clause-small c = let P : ℤ → Type 0 = λ z. unsigned_abs z ≤ 65536000000000000 in subst P (sym (cast c)) (small c)
