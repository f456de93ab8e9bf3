use Rattle.std.proofs.Common.{[], None, ap, ◌∙◌}
use Rattle.sgl_typed.specs.WellFormed.{is_well_formed}
use Rattle.engine_tests.specs.Towers.{tower}
use Rattle.engine_tests.specs.Samples.{no_attributes}
use Rattle.engine_tests.proofs.TowersFit.{towering-fit}
use Rattle.engine_tests.proofs.tests.towers.towering_script.Goals as goal

pub script_of-requires : goal.script_of-requires
script_of-requires c = (λ i. is_well_formed no_attributes [] [] ((c.in_ok-routines.ensures ∙ ap (λ first. tower first 10 19) c.in_ok-a_let.ensures) i) (c.in_ok-calls.ensures i) 1 [] None None) ∙ towering-fit
