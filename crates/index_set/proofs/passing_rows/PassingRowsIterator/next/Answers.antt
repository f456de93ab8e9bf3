use Rattle.std.proofs.Common.{refl}
use Rattle.sgl_evaluate.specs.Frame.{context_of}
use Rattle.index_set.specs.declared.walk.Walk.TheVariants.{Exact, Others}
use Rattle.index_set.proofs.Walks.{step_asks, step_within}
use Rattle.index_set.proofs.passing_rows.PassingRowsIterator.next.Goals as goal

pub invariant_of-self-clause-within : goal.invariant_of-self-clause-within
invariant_of-self-clause-within c =
    step_within (context_of c.args.self.now.frame) c.args.self.now.walk (Exact c.in-Exact.strip) (Exact c.next.new.self) c.next.result c.in-Exact.is c.next.ensures.steps c.args.self.now.within

pub invariant_of-self-clause-enough : goal.invariant_of-self-clause-enough
invariant_of-self-clause-enough c =
    step_asks (context_of c.args.self.now.frame) c.args.self.now.tests.now c.args.self.now.walk (Exact c.in-Exact.strip) (Exact c.next.new.self) c.next.result c.in-Exact.is refl refl c.next.ensures.steps c.args.self.now.enough

pub invariant_of-self-in-Others-clause-within : goal.invariant_of-self-in-Others-clause-within
invariant_of-self-in-Others-clause-within c =
    step_within (context_of c.args.self.now.frame) c.args.self.now.walk (Others c.in-Others.others) (Others c.step.new.self) c.step.result c.in-Others.is c.step.ensures c.args.self.now.within

pub invariant_of-self-in-Others-clause-enough : goal.invariant_of-self-in-Others-clause-enough
invariant_of-self-in-Others-clause-enough c =
    step_asks (context_of c.args.self.now.frame) c.args.self.now.tests.now c.args.self.now.walk (Others c.in-Others.others) (Others c.step.new.self) c.step.result c.in-Others.is refl refl c.step.ensures c.args.self.now.enough
