use mir.Syntax.{w64}
use Rattle.std.proofs.Common.{sym, subst, ◌∙◌}
use Rattle.std.specs.Int.{FitsUnsignedBits}
use Rattle.std.proofs.lemmas.Int.{to_z-of_z}
use Rattle.index_set.proofs.Keying.{none_wide}
use Rattle.plan_executor.proofs.aiming.row_with.Goals as goal

pub returns-in-Err-clause-missing : goal.returns-in-Err-clause-missing
returns-in-Err-clause-missing c =
    none_wide c.args.run.now.tick.world.now.world.rows c.args.run.now.tick.world.now.width c.args.key c.len.ensures.table.fits.rows_fit
    (λ fits. c.in-Err.ensures (subst (FitsUnsignedBits 32) (sym (to_z-of_z w64 c.get.result (record { sfits = c.get.type_inv }) ∙ c.get.ensures.value)) fits))
