use Rattle.std.proofs.Common.{sym, ◌∙◌}
use Rattle.sgl_types.proofs.Found.{no-local, local-at}
use Rattle.sgl_types.proofs.bodies.find_local.Goals as goal

pub returns-in-None : goal.returns-in-None
returns-in-None c = sym (no-local c.args.name.now c.args.locals.now (sym c.position.ensures ∙ c.in-None.is))

pub returns-in-Some : goal.returns-in-Some
returns-in-Some c = c.get.ensures ∙ local-at c.in-Some.at c.args.name.now c.args.locals.now (sym c.position.ensures ∙ c.in-Some.is)
