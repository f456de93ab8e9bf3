use Rattle.std.proofs.Common.{[], None, ◌∙◌}
use Rattle.sgl_typed.specs.WellFormed.{is_well_formed}
use Rattle.engine_tests.specs.Samples.{no_attributes}
use Rattle.engine_tests.proofs.TowersFit.{two_calls-fit}
use Rattle.engine_tests.proofs.tests.writing_out.two_calls.Goals as goal

pub script_of-requires : goal.script_of-requires
script_of-requires c = (λ i. is_well_formed no_attributes [] [] (c.in_ok-routines.ensures i) (c.in_ok-main.ensures i) 2 [] None None) ∙ two_calls-fit
