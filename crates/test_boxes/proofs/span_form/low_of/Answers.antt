use Rattle.std.proofs.Common.{◌≡◌, ◌∙◌, ◌&&◌, ap, arith, of_z, pos, rules, sym, to_z, w64}
use Rattle.std.specs.Prelude.{◌+ℤ◌, int_le, negsuc}
use Rattle.std.specs.Prelude.{FitsSigned as SFits}
use Rattle.std.proofs.lemmas.Int.{ints}
use Rattle.sgl_evaluate.specs.Rights.{right_of}
use Rattle.test_boxes.specs.Forms.{passes_low}
use Rattle.test_boxes.proofs.Steps.{end_is, low_end}
use Rattle.test_boxes.proofs.span_form.low_of.Goals as goal

pub returns-in-Some : goal.returns-in-Some
returns-in-Some c = λ context tests d v inside rights.
    let end = c.in-Some.end in
    let z = c.raised.result in
    let fits : SFits w64 z = search rules in
    let own : to_z w64 (of_z w64 z) ≡ z = omega (arith, ints) in
    end_is (λ z. int_le z v) (λ z. z +ℤ pos end.away) (int_le (negsuc 999999999999) v) _ z _ _ own (low_end z v c.raised.ensures.least)
    c.raised.ensures.value (c.one.ensures context tests d rights (inside end c.in-Some.is))
    ∙ ap (λ o. passes_low (right_of context) tests d v o && int_le (negsuc 999999999999) v) (sym c.in-Some.is)
