use Rattle.plan_translate.proofs.Written.{plan_is_of}
use Rattle.tick_engine.proofs.Plans.{gives_rewritten}
use Rattle.tick_engine.proofs.battle.Battle.new.Goals as goal

pub rewrite-requires : goal.rewrite-requires
rewrite-requires c = plan_is_of c.args.compiled.script c.args.compiled.plan.nodes c.args.compiled.nodes

pub invariant_of-result : goal.invariant_of-result
invariant_of-result c =
    let compiled = c.args.compiled in
    let told = c.in_ok-plan.ensures in
    record {
      width = c.requires.width;
      workers = c.requires.workers;
      few = c.requires.items;
      written = compiled.small;
      of = told.rewrites.normal.of;
      gives = gives_rewritten compiled.script compiled.plan.nodes c.in_ok-plan.plan.plan.nodes compiled.plan.slots c.in_ok-plan.plan.plan.slots compiled.nodes compiled.slots told.slots told.rewrites;
      ready = tt;
    }
