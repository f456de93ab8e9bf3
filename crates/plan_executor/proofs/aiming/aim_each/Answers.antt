-- Each row goes to itself.
use Rattle.std.proofs.Common.{map, subst, sym}
use Rattle.sgl_typed.specs.declared.script.TExpr.{TExpr}
use Rattle.plan_executor.specs.Clauses.{aims_of, arg_at, with_args, AreAims}
use Rattle.plan_executor.specs.Running.{base_of}
use Rattle.plan_executor.proofs.Own.{own_aims}
use Rattle.plan_executor.proofs.aiming.aim_each.Goals as goal

pub returns-then-is_own_key : goal.returns-then-is_own_key
returns-then-is_own_key c = λ yes.
    let run = c.args.run.now in
    subst (λ (right : TExpr). AreAims run.tick.world.now.world (with_args (base_of run) c.args.args.now) right c.args.mask (aims_of c.args.mask run.own.now))
    (sym (c.is_own_key.ensures.0 c.if-is_own_key.true)) (own_aims run c.args.mask (λ k. map (arg_at k) c.args.args.now) c.requires.inside)
