-- One row more.
use mir.Syntax.{w64}
use mir.Val.{SFits, of_z, to_z}
use Rattle.std.proofs.Common.{◌≡◌, ◌++◌, ◌∷◌, [], ◌+◌, ◌*◌, ◌+ℤ◌, ◌≤ℤ◌, ◌∙◌, ℤ, pos, ap, arith, length, map, subst, sym, true, false}
use Rattle.std.specs.Prelude.{filter}
use Rattle.std.proofs.lemmas.Int.{ints, to_z-of_z}
use Rattle.std.proofs.lemmas.List.{length-append}
use Rattle.sgl_values.specs.World.{row_at}
use Rattle.sgl_typed.specs.Aggregate.{sum_of}
use Rattle.sgl_typed.specs.Value.{attribute}
use Rattle.sgl_evaluate.specs.Frame.{context_of}
use Rattle.index_set.specs.Walks.{row_passes}
use Rattle.index_set.proofs.Rounding.{among, sum-more, sum-of, walked_all, walked_more}
use Rattle.index_set.proofs.round.sum.Goals as goal

pub overflow_add-sum : goal.overflow_add-sum
overflow_add-sum c =
    let few = among c.loop-row.invariant.walked c.in-Some.ensures.steps in
    omega (arith, ints, few, c.requires.few, c.loop-row.invariant.low, c.loop-row.invariant.high, c.get-sum.ensures.low, c.get-sum.ensures.high)

pub loop-row-preserved-then-passes : goal.loop-row-preserved-then-passes
loop-row-preserved-then-passes c =
    let row = c.in-Some.row in
    let before = c.loop-row.yielded in
    let old : ℤ = to_z w64 c.loop-row.sum-bits in
    let x : ℤ = to_z w64 (of_z w64 c.get-sum.result) in
    let x-is : x ≡ c.get-sum.result = to_z-of_z w64 c.get-sum.result (omega (arith, ints, c.get-sum.ensures.low, c.get-sum.ensures.high)) in
    let few = among c.loop-row.invariant.walked c.in-Some.ensures.steps in
    let fits : SFits w64 (old +ℤ x) = omega (arith, ints, few, c.requires.few, c.loop-row.invariant.low, c.loop-row.invariant.high, c.get-sum.ensures.low, c.get-sum.ensures.high) in
    let new-is : to_z w64 (of_z w64 (old +ℤ x)) ≡ (old +ℤ x) = to_z-of_z w64 (old +ℤ x) fits in
    let long : length (before ++ row ∷ []) ≡ length before + 1 = length-append before (row ∷ []) in
    let context = context_of c.args.frame.now in
    let one = sum-more context c.args.tests.now c.args.attr before row true c.if-passes.ensures in
    let value : x ≡ attribute c.args.attr (row_at context.world row) = x-is ∙ c.get-sum.ensures.value ∙ c.attribute_of.ensures in
    let Added : ℤ → Type 0 = λ z. z ≡ sum_of c.args.attr (map (row_at context.world) (filter (row_passes context c.args.tests.now) (before ++ row ∷ []))) in
    let Low : ℤ → Type 0 = λ z. pos 0 ≤ℤ (z +ℤ pos (length (before ++ row ∷ []) * 1000000000000)) in
    let High : ℤ → Type 0 = λ z. z ≤ℤ pos (length (before ++ row ∷ []) * 1000000000000) in
    record {
      added = subst Added (sym new-is) ((λ i. c.loop-row.invariant.added i +ℤ value i) ∙ sym one);
      low = subst Low (sym new-is) (omega (arith, ints, long, x-is, c.loop-row.invariant.low, c.get-sum.ensures.low));
      high = subst High (sym new-is) (omega (arith, ints, long, x-is, c.loop-row.invariant.high, c.get-sum.ensures.high));
      walked = walked_more c.loop-row.invariant.walked c.in-Some.ensures.steps;
    }

pub loop-row-preserved : goal.loop-row-preserved
loop-row-preserved c =
    let row = c.in-Some.row in
    let before = c.loop-row.yielded in
    let more = length-append before (row ∷ []) in
    let added = sum-more (context_of c.args.frame.now) c.args.tests.now c.args.attr before row false c.if-passes.ensures in
    record {
      added = omega (arith, ints, c.loop-row.invariant.added, added);
      low = omega (arith, ints, more, c.loop-row.invariant.low);
      high = omega (arith, ints, more, c.loop-row.invariant.high);
      walked = walked_more c.loop-row.invariant.walked c.in-Some.ensures.steps;
    }

pub returns : goal.returns
returns c =
    let context = context_of c.args.frame.now in
    let tests = c.args.tests.now in
    c.loop-row.invariant.added ∙ ap (λ rows. sum_of c.args.attr (map (row_at context.world) (filter (row_passes context tests) rows))) (sym (walked_all c.loop-row.invariant.walked c.in-None.ensures.steps.0))
    ∙ sum-of context tests c.args.attr (filter (row_passes context tests) c.args.rows) c.requires.rows
