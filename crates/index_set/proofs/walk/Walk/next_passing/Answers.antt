use Rattle.std.proofs.Common.{◌<◌, ◌∙◌, length}
use Rattle.std.proofs.lemmas.List.Elements.{All-rest}
use Rattle.sgl_evaluate.specs.Frame.{context_of}
use Rattle.index_set.specs.Walks.{walk_rest, row_passes}
use Rattle.index_set.proofs.Walks.{asks_next, asks_stay, left_out}
use Rattle.index_set.proofs.walk.Walk.next_passing.Goals as goal

pub walk-preserved : goal.walk-preserved
walk-preserved c = record {
  within = All-rest (λ row. row < length c.args.frame.now.tick.world.now.world.rows) c.in-Some.row (walk_rest c.step.new.self) (walk_rest c.walk.self) c.in-Some.ensures.yields c.walk.invariant.within;
  rest = c.walk.invariant.rest
      ∙ left_out (row_passes (context_of c.args.frame.now) c.args.tests.now) c.in-Some.row (walk_rest c.step.new.self) (walk_rest c.walk.self) c.in-Some.ensures.yields c.if-does_pass.ensures;
  enough = asks_stay (context_of c.args.frame.now) c.args.tests.now c.walk.self c.step.new.self c.step.result c.step.ensures.exact c.step.ensures.sole c.step.ensures.yields c.walk.invariant.enough;
  sole = c.step.ensures.sole ∙ c.walk.invariant.sole;
}

pub does_pass-requires-clause-enough : goal.does_pass-requires-clause-enough
does_pass-requires-clause-enough c = λ number is.
    asks_next (context_of c.args.frame.now) c.args.tests.now c.walk.self c.step.new.self c.in-Some.row number c.in-Some.ensures.yields c.walk.invariant.enough (c.walk.invariant.sole ∙ is)

pub returns-then-does_pass-clause-enough : goal.returns-then-does_pass-clause-enough
returns-then-does_pass-clause-enough c =
    asks_stay (context_of c.args.frame.now) c.args.tests.now c.walk.self c.step.new.self c.step.result c.step.ensures.exact c.step.ensures.sole c.step.ensures.yields c.walk.invariant.enough
