use Rattle.std.proofs.Common.{sym, ◌∙◌}
use Rattle.sgl_types.proofs.Found.{no-definition, definition-at, some-definition}
use Rattle.sgl_types.proofs.declared.find_definition.Goals as goal

pub returns-in-None : goal.returns-in-None
returns-in-None c = sym (no-definition c.args.name.now c.args.definitions.now (sym c.position.ensures ∙ c.in-None.is))

pub returns-in-None-get : goal.returns-in-None-get
returns-in-None-get c =
    absurd (some-definition c.in-Some.at c.args.name.now c.args.definitions.now (sym c.in-None-get.ensures) (sym c.position.ensures ∙ c.in-Some.is))

pub returns-in-Some-get : goal.returns-in-Some-get
returns-in-Some-get c =
    sym (definition-at c.in-Some.at c.args.name.now c.args.definitions.now c.in-Some-get.found.now (sym c.in-Some-get.ensures) (sym c.position.ensures ∙ c.in-Some.is))
