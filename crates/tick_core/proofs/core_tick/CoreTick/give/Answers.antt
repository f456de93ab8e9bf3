use Rattle.std.proofs.Common.{◌∙◌, List, get_or, set, ap}
use Rattle.sgl_values.specs.declared.fault.Tag.{Tag}
use Rattle.effect_combine.specs.Words.{merged}
use Rattle.tick_core.specs.Core.{tag_of}
use Rattle.tick_core.proofs.Steps.{IsCore-given}
use Rattle.tick_core.proofs.core_tick.CoreTick.give.Goals as goal

pub invariant_of-self-2 : goal.invariant_of-self-2
invariant_of-self-2 c =
    let words = c.self.inside.words.items in
    IsCore-given _ c.self.invariant c.args.worker c.args.word c.args.amount c.merge_amount.new.words.items c.note_deed.new.workers.items (rw (← c.self.view_is) at c.requires.lives) (rw (← c.self.view_is) at c.requires.word)
    (c.merge_amount.ensures ∙ ap (λ (tags : List Tag). set words c.args.word (merged (tag_of tags c.args.word) (get_or words c.args.word 0) c.args.amount)) c.as_slice.ensures.value)
    c.in_ok-note_deed.ensures.ok

pub returns-clause-fair : goal.returns-clause-fair
returns-clause-fair c = (invariant_of-self-2 c).fair
