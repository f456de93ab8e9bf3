use Rattle.tick_postprocess.proofs.RowSteps.{narrow}
use Rattle.tick_postprocess.proofs.next_world.post.Goals as goal

pub put_rows-requires-clause-ending : goal.put_rows-requires-clause-ending
put_rows-requires-clause-ending c = record { rows = c.requires.rows; width = c.requires.effects; narrow = narrow c.args.script.now }
