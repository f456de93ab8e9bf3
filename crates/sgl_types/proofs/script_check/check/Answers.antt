use Rattle.sgl_types.proofs.Whole.{walk-found, walk-attributes, walk-fits, walk-typed, no-faults, first-fault}
use Rattle.sgl_types.proofs.script_check.check.Goals as goal

pub assemble-requires-clause-attributes : goal.assemble-requires-clause-attributes
assemble-requires-clause-attributes c = walk-attributes c.args.script.now c.in_ok-typing.typing c.requires.short_names c.in_ok-typing.ensures c.in-None.is

pub assemble-requires-clause-parts : goal.assemble-requires-clause-parts
assemble-requires-clause-parts c = walk-fits c.args.script.now c.in_ok-typing.typing c.requires.clauses c.in_ok-typing.ensures c.in-None.is

pub returns-in-None-clause-typed : goal.returns-in-None-clause-typed
returns-in-None-clause-typed c =
    walk-typed c.args.script.now c.in_ok-typing.typing c.assemble.result c.in_ok-typing.ensures c.assemble.ensures.consts c.assemble.ensures.effects c.assemble.ensures.aggs c.assemble.ensures.actions c.assemble.ensures.routines
    c.assemble.ensures.main c.assemble.ensures.slots c.assemble.ensures.rules c.assemble.ensures.spawn c.assemble.ensures.removal

pub returns-in-None-clause-none : goal.returns-in-None-clause-none
returns-in-None-clause-none c =
    no-faults c.args.script.now c.in_ok-typing.typing.found (walk-found c.args.script.now c.in_ok-typing.typing c.in_ok-typing.ensures) c.in-None.is

pub returns-in-Some-clause-first : goal.returns-in-Some-clause-first
returns-in-Some-clause-first c =
    first-fault c.args.script.now c.in_ok-typing.typing.found c.in-Some.finding (walk-found c.args.script.now c.in_ok-typing.typing c.in_ok-typing.ensures) c.in-Some.is
