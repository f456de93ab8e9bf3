use Rattle.std.proofs.Common.{◌≡◌, ◌∙◌, ◌≤◌, List, length, sym, ap, subst}
use Rattle.sgl_values.specs.declared.fault.Tag.{Tag}
use Rattle.tick_core.specs.Core.{start_words}
use Rattle.tick_core.proofs.Steps.{IsCore-start}
use Rattle.tick_core.proofs.core_tick.CoreTick.new.Goals as goal

pub invariant_of-result : goal.invariant_of-result
invariant_of-result c =
    let tags : c.in_ok-tags.tags.items ≡ c.args.tags.now = c.in_ok-tags.ensures.items ∙ c.as_slice.ensures in
    IsCore-start c.args.tasks c.args.rows c.in_ok-tags.tags.items c.in_ok-words.words.items c.in_ok-workers.workers.items c.requires.few
    (subst (λ (l : List Tag). length l ≤ 16) (sym tags) c.requires.narrow) (c.in_ok-words.ensures ∙ ap (start_words c.args.rows) c.as_slice-2.ensures.value) c.in_ok-workers.ensures
