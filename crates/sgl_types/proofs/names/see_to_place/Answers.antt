use Rattle.std.proofs.Common.{Some, is_some, bytes_eq, length, ap, sym, ◌∙◌}
use Rattle.std.specs.Map.{update}
use Rattle.indexmap.specs.IndexMap.{get_by_text}
use Rattle.sgl_types.proofs.Places.{push-known, push-new, on-ok}
use Rattle.sgl_types.proofs.names.see_to_place.Goals as goal

pub returns-then-is_some-clause-next : goal.returns-then-is_some-clause-next
returns-then-is_some-clause-next c =
    push-known (get_by_text c.args.index.now) c.args.names.now c.args.name.now c.requires (ap is_some (sym c.find.ensures) ∙ sym c.is_some.ensures ∙ c.if-is_some.true)

pub returns-clause-next : goal.returns-clause-next
returns-clause-next c =
    on-ok c.set_place.result
    (λ p. push-new (get_by_text c.args.index.now) (get_by_text c.set_place.new.index) c.args.names.now c.args.name.now c.requires (ap is_some (sym c.find.ensures) ∙ sym c.is_some.ensures ∙ c.if-is_some.false)
    (λ q. p q ∙ (λ i. update bytes_eq (get_by_text c.args.index.now) ((c.in_ok-key.ensures.ok ∙ c.as_str.ensures) i) (Some (length c.args.names.now)) q)))
    c.set_place.ensures.ok
