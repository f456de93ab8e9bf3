use Rattle.std.proofs.Common.{ap, sym, ◌∙◌, subst, slice_set}
use Rattle.battle_algebra.specs.Meaning.{is_taken, is_other}
use Rattle.battle_algebra.specs.Tree.{Computed, Called}
use Rattle.battle_algebra.specs.declared.plan.Node.{Node as NodeOf}
use Rattle.task_scratch.specs.Scratch.{slots_in}
use Rattle.plan_executor.specs.Running.{base_of, IsInside}
use Rattle.plan_executor.specs.Steps.{Steps, IsSet}
use Rattle.plan_executor.proofs.Insides.{inside_set, inside_part, node_is}
use Rattle.plan_executor.proofs.step.step.Goals as goal

pub returns-in-Extend-clause-inside : goal.returns-in-Extend-clause-inside
returns-in-Extend-clause-inside c =
    inside_set c.args.run.now c.args.room.now.masks.items c.put.new.masks.items c.in-Extend.then c.mask_of-mask.result c.put.ensures.small c.requires.inside
    (subst (IsInside c.args.run.now) (sym c.mask_of-mask.ensures) (c.requires.inside.is c.args.node)) c.put.ensures.set

pub returns-in-Extend-clause-steps : goal.returns-in-Extend-clause-steps
returns-in-Extend-clause-steps c =
    let base = base_of c.args.run.now in
    let old = c.args.room.now in
    let is = node_is c.args.run.now.nodes.now c.args.node _ _ c.requires.node c.in-Extend.is in
    let set = c.set_rows.ensures.set (Computed c.in-Extend.value c.in-Extend.place) c.in-Extend.then is in
    subst (λ (n : NodeOf). Steps base c.args.node old.masks.items (slots_in old.rows) n c.put.new.masks.items (slots_in c.set_rows.new.rows)) (sym is) (
      c.put.ensures.set ∙ ap (slice_set old.masks.items c.in-Extend.then) c.mask_of-mask.ensures,
      subst (λ m. IsSet base c.in-Extend.slot (Computed c.in-Extend.value c.in-Extend.place) m (slots_in old.rows) (slots_in c.set_rows.new.rows)) c.mask_of-mask.ensures set,
    )

pub returns-in-Agg-clause-inside : goal.returns-in-Agg-clause-inside
returns-in-Agg-clause-inside c =
    inside_set c.args.run.now c.args.room.now.masks.items c.put-in-Agg.new.masks.items c.in-Agg.then c.mask_of-mask.result c.put-in-Agg.ensures.small c.requires.inside
    (subst (IsInside c.args.run.now) (sym c.mask_of-mask.ensures) (c.requires.inside.is c.args.node)) c.put-in-Agg.ensures.set

pub returns-in-Agg-clause-steps : goal.returns-in-Agg-clause-steps
returns-in-Agg-clause-steps c =
    let base = base_of c.args.run.now in
    let old = c.args.room.now in
    let is = node_is c.args.run.now.nodes.now c.args.node _ _ c.requires.node c.in-Agg.is in
    let set = c.set_rows-in-Agg.ensures.set (Called c.in-Agg.call c.in-Agg.way) c.in-Agg.then is in
    subst (λ (n : NodeOf). Steps base c.args.node old.masks.items (slots_in old.rows) n c.put-in-Agg.new.masks.items (slots_in c.set_rows-in-Agg.new.rows)) (sym is) (
      c.put-in-Agg.ensures.set ∙ ap (slice_set old.masks.items c.in-Agg.then) c.mask_of-mask.ensures,
      subst (λ m. IsSet base c.in-Agg.slot (Called c.in-Agg.call c.in-Agg.way) m (slots_in old.rows) (slots_in c.set_rows-in-Agg.new.rows)) c.mask_of-mask.ensures set,
    )

pub returns-in-Split-clause-inside : goal.returns-in-Split-clause-inside
returns-in-Split-clause-inside c =
    let run = c.args.run.now in
    let own = subst (IsInside run) (sym c.mask_of-mask.ensures) (c.requires.inside.is c.args.node) in
    let base = base_of run in
    let slots = slots_in c.args.room.now.rows in
    let parts = c.split_rows-parts.result in
    inside_set run c.put-in-Split.new.masks.items c.put-in-Split-2.new.masks.items c.in-Split.no parts.other c.put-in-Split-2.ensures.small
    (inside_set run c.args.room.now.masks.items c.put-in-Split.new.masks.items c.in-Split.yes parts.taken c.put-in-Split.ensures.small c.requires.inside
    (inside_part run base slots c.in-Split.cond is_taken c.mask_of-mask.result parts.taken own c.split_rows-parts.ensures.taken) c.put-in-Split.ensures.set)
    (inside_part run base slots c.in-Split.cond is_other c.mask_of-mask.result parts.other own c.split_rows-parts.ensures.other) c.put-in-Split-2.ensures.set

pub returns-in-Both-clause-inside : goal.returns-in-Both-clause-inside
returns-in-Both-clause-inside c =
    let run = c.args.run.now in
    let own = subst (IsInside run) (sym c.mask_of-mask.ensures) (c.requires.inside.is c.args.node) in
    inside_set run c.put-in-Both.new.masks.items c.put-in-Both-2.new.masks.items c.in-Both.right c.mask_of-mask.result c.put-in-Both-2.ensures.small
    (inside_set run c.args.room.now.masks.items c.put-in-Both.new.masks.items c.in-Both.left c.mask_of-mask.result c.put-in-Both.ensures.small c.requires.inside own c.put-in-Both.ensures.set)
    own c.put-in-Both-2.ensures.set
