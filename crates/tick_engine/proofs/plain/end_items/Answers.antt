use Rattle.std.proofs.Common.{◌≡◌, ◌≤◌, ◌∙◌, length, subst, sym, ap}
use Rattle.std.proofs.lemmas.List.{length-map}
use Rattle.sgl_plain.proofs.Limits.{few_effects}
use Rattle.sgl_typed.specs.Tick.{after_cells, combined_from}
use Rattle.tick_postprocess.specs.Answer.{tags_of, told}
use Rattle.tick_engine.proofs.Words.{refused_so, words_stand}
use Rattle.tick_engine.proofs.plain.end_items.Goals as goal

pub combine_items-requires-clause-narrow : goal.combine_items-requires-clause-narrow
combine_items-requires-clause-narrow c =
    let effects = c.args.script.now.schema.effects in
    let is : c.in-Ok.tags ≡ tags_of effects = c.in-Ok.ensures ∙ ap tags_of c.as_slice.ensures in
    subst (λ ts. length ts ≤ 16) (sym is) (subst (λ n. n ≤ 16) (sym (length-map effects (λ effect. effect.tag))) (few_effects c.args.script.now))

pub returns-in-Ok-post-clause-next : goal.returns-in-Ok-post-clause-next
returns-in-Ok-post-clause-next c =
    sym (c.in-Ok-post.ensures.told c.args.items.now
    (words_stand c.combined_words_stand.ensures c.len.result c.args.script.now.schema.effects c.in-Ok.tags c.args.items.now c.in-Ok-combine_items.combined
    (c.in-Ok.ensures ∙ ap tags_of c.as_slice.ensures) c.in-Ok-combine_items.ensures c.requires.few))

pub returns-clause-fault : goal.returns-clause-fault
returns-clause-fault c = λ free.
    refused_so (after_cells c.args.script.now c.args.world.now.world c.args.seed (combined_from c.args.script.now c.args.items.now 0 c.args.world.now.world.rows))
    (told c.in-Err.fault) c.told.result
    (c.in-Err.ensures.told c.args.items.now
    (words_stand c.combined_words_stand.ensures c.len.result c.args.script.now.schema.effects c.in-Ok.tags c.args.items.now c.in-Ok-combine_items.combined
    (c.in-Ok.ensures ∙ ap tags_of c.as_slice.ensures) c.in-Ok-combine_items.ensures c.requires.few))
    c.told.ensures.told
