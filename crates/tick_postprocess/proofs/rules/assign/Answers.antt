use Rattle.std.proofs.Common.{◌≡◌, ◌+◌, ◌-◌, ◌<◌, ◌∷◌, [], length, drop, ap, sym, ◌∙◌, arith}
use Rattle.sgl_values.specs.ItemOrder.{fault_cmp}
use Rattle.sgl_values.specs.Least.{least_of, lesser_of}
use Rattle.sgl_values.specs.declared.fault.Val.{Val}
use Rattle.sgl_typed.specs.Aggregate.{simple_value}
use Rattle.sgl_typed.specs.Tick.{assigned, fault_of, faults_of, with_values}
use Rattle.tick_postprocess.specs.Unit.{context_of}
use Rattle.tick_postprocess.proofs.BlockSteps.{assigned_next, least_next, values_next}
use Rattle.tick_postprocess.proofs.rules.assign.Goals as goal

pub loop-at-preserved : goal.loop-at-preserved
loop-at-preserved c =
    let unit = context_of c.args.unit.now in
    let rules = c.args.rules.now in
    let i = c.loop-at.at - 1 in
    let rule = c.index-rules-at.result in
    let value = c.right_side-value.result in
    let start = c.args.values.now in
    let lt : i < length rules = omega (arith, c.loop-at-test.true, c.loop-at.auto.at) in
    let back : i + 1 ≡ c.loop-at.at = omega (arith, c.loop-at-test.true) in
    let is : value ≡ simple_value unit rule.value = c.right_side-value.ensures (λ below known. c.requires.known i known rule below lt c.index-rules-at.is) in
    let all = assigned_next unit rules i rule lt c.index-rules-at.is
    ∙ ap (λ n. (rule.attr, simple_value unit rule.value) ∷ assigned unit (drop n rules)) back
    ∙ ap (λ (v : Val). (rule.attr, v) ∷ assigned unit (drop c.loop-at.at rules)) (sym is) in
    record {
      values =
          c.take_value-least.ensures.values
          ∙ ap (with_values ((rule.attr, value) ∷ [])) c.loop-at.invariant.values
          ∙ sym (ap (λ pairs. with_values pairs start) all ∙ values_next rule.attr value (assigned unit (drop c.loop-at.at rules)) start);
      least =
          c.take_value-least.ensures.fault
          ∙ ap (lesser_of fault_cmp (least_of fault_cmp (fault_of value))) c.loop-at.invariant.least
          ∙ sym (ap (λ pairs. least_of fault_cmp (faults_of pairs)) all ∙ least_next rule.attr value (assigned unit (drop c.loop-at.at rules)));
    }
