-- A run is its ticks, by the lemmas.
use Rattle.sgl_typed.proofs.Runs.{runs_tick}
use Rattle.sgl_typed.proofs.law.runs_are_ticks.Goals as goal

pub returns : goal.returns
returns c = runs_tick
