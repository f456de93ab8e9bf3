use Rattle.std.proofs.Common.{◌≡◌, ◌∙◌, ◌&&◌, arith, of_z, pos, rules, to_z, w64}
use Rattle.std.specs.Prelude.{int_le, negsuc}
use Rattle.std.specs.Prelude.{FitsSigned as SFits}
use Rattle.std.proofs.lemmas.Int.{ints}
use Rattle.sgl_values.specs.Range.{in_range}
use Rattle.sgl_evaluate.specs.Rights.{right_of}
use Rattle.test_boxes.specs.Forms.{passes_high, passes_low}
use Rattle.test_boxes.proofs.Steps.{between, in_range_is}
use Rattle.test_boxes.proofs.span_form.SpanForm.ends.Goals as goal

pub returns : goal.returns
returns c = λ context tests d v below rights.
    let right = right_of context in
    let low = c.low_of.result in
    let high = c.high_of.result in
    let low_fits : SFits w64 low = search rules in
    let high_fits : SFits w64 high = search rules in
    let own_low : to_z w64 (of_z w64 low) ≡ low = omega (arith, ints) in
    let own_high : to_z w64 (of_z w64 high) ≡ high = omega (arith, ints) in
    (λ j. int_le (own_low j) v && int_le v (own_high j))
    ∙ (λ j. c.low_of.ensures context tests d v below.low rights j && c.high_of.ensures context tests d v below.high rights j)
    ∙ between (passes_low right tests d v c.args.self.now.low) (int_le (negsuc 999999999999) v) (passes_high right tests d v c.args.self.now.high) (int_le v (pos 1000000000000)) (in_range v)
    (in_range_is v)
