use Rattle.std.proofs.Common.{◌≡◌, ◌∙◌, ◌&&◌, ap, arith, of_z, pos, rules, sym, to_z, w64}
use Rattle.std.specs.Prelude.{◌-ℤ◌, int_le}
use Rattle.std.specs.Prelude.{FitsSigned as SFits}
use Rattle.std.proofs.lemmas.Int.{ints}
use Rattle.sgl_evaluate.specs.Rights.{right_of}
use Rattle.test_boxes.specs.Forms.{passes_high}
use Rattle.test_boxes.proofs.Steps.{end_is, high_end}
use Rattle.test_boxes.proofs.span_form.high_of.Goals as goal

pub returns-in-Some : goal.returns-in-Some
returns-in-Some c = λ context tests d v inside rights.
    let end = c.in-Some.end in
    let z = c.lowered.result in
    let fits : SFits w64 z = search rules in
    let own : to_z w64 (of_z w64 z) ≡ z = omega (arith, ints) in
    end_is (λ z. int_le v z) (λ z. z -ℤ pos end.away) (int_le v (pos 1000000000000)) _ z _ _ own (high_end z v c.lowered.ensures.most)
    c.lowered.ensures.value (c.one.ensures context tests d rights (inside end c.in-Some.is))
    ∙ ap (λ o. passes_high (right_of context) tests d v o && int_le v (pos 1000000000000)) (sym c.in-Some.is)
