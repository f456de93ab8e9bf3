use Rattle.std.proofs.Common.{◌∙◌}
use Rattle.battle_maker.specs.Sample.{sample_script}
use Rattle.battle_maker.proofs.script.script_text.Goals as goal

pub returns-clause-text : goal.returns-clause-text
unfolding sample_script
returns-clause-text c = c.from_vec.ensures ∙ c.in_ok-from_slice.ensures.items
