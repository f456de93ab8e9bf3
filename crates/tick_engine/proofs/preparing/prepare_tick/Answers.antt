use Rattle.std.proofs.Common.{◌≡◌, ◌≤◌, ◌∙◌, sym, ap, length, subst}
use Rattle.std.proofs.lemmas.List.{length-map}
use Rattle.tick_postprocess.specs.Answer.{tags_of}
use Rattle.sgl_plain.proofs.Limits.{few_effects}
use Rattle.tick_engine.proofs.preparing.prepare_tick.Goals as goal

pub board_for-requires : goal.board_for-requires
board_for-requires g c =
    let effects = c.args.script.now.schema.effects in
    let is : c.in_ok-tags.tags ≡ tags_of effects = c.in_ok-tags.ensures ∙ ap tags_of c.as_slice.ensures in
    record { narrow = subst (λ ts. length ts ≤ 16) (sym is) (subst (λ n. n ≤ 16) (sym (length-map effects (λ effect. effect.tag))) (few_effects c.args.script.now)) }
