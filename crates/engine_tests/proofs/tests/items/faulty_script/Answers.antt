use Rattle.std.proofs.Common.{◌∙◌}
use Rattle.engine_tests.proofs.SamplesFit.{faulty_fits, faulty_written}
use Rattle.engine_tests.proofs.tests.items.faulty_script.Goals as goal

pub script_of-requires : goal.script_of-requires
script_of-requires c = faulty_fits _ _ c.new.ensures c.in_ok-main.ensures

pub returns-clause-written_out : goal.returns-clause-written_out
returns-clause-written_out c =
    faulty_written _ (c.script_of.ensures.routines ∙ c.new.ensures) (c.script_of.ensures.main ∙ c.in_ok-main.ensures) c.script_of.ensures.slots
