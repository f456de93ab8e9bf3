use Rattle.battle_host.proofs.Runs.{line_written, with_line}
use Rattle.battle_host.proofs.run.run_battle.Goals as goal

pub returns-clause-run : goal.returns-clause-run
returns-clause-run g c = λ told.
    with_line _ _ c.run_words-ended.result.status c.run_words-ended.result.schema _ _ _ _ _ _ (c.run_words-ended.ensures.run told) (line_written c.write_line.result _ _ _ _ _ c.write_line.ensures)

pub returns-clause-line : goal.returns-clause-line
returns-clause-line g c = (c.run_words-ended.result.schema, line_written c.write_line.result _ _ _ _ _ c.write_line.ensures)
