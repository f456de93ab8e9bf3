use Rattle.std.proofs.Common.{ℕ, List, length, map, take, ap, sym, subst, arith, ◌∙◌}
use Rattle.sgl_typed.specs.declared.script.TExpr.{TExpr}
use Rattle.sgl_lanes.specs.declared.values.LaneValues.{LaneValues}
use Rattle.task_scratch.specs.Scratch.{slots_in}
use Rattle.plan_executor.specs.Clauses.{arg_at, AreArgs}
use Rattle.plan_executor.specs.Running.{base_of}
use Rattle.plan_executor.proofs.Clauses.{gift_given}
use Rattle.plan_executor.proofs.lane_giving.gift_in.Goals as goal

pub returns-then-read_args-clause-gift : goal.returns-then-read_args-clause-gift
returns-then-read_args-clause-gift c =
    let run = c.args.run.now in
    let slots = slots_in c.args.rows.now in
    let args = subst (λ (read : List TExpr × (ℕ × List LaneValues)). AreArgs (base_of run) slots read.0 c.args.mask (take read.1.0 read.1.1))
    (λ i. (c.as_slice-2.ensures i, ((ap length c.as_slice-2.ensures ∙ sym c.len-count.ensures) i, sym c.deref.ensures.value i))) (c.read_args.ensures.args c.if-read_args.true) in
    gift_given run slots c.args.act.now c.args.mask c.args.clause.now (λ k. map (arg_at k) (take _ _)) c.requires.clause args.values (λ writing. writing.now) c.in_ok-key.key.now c.gift_at.result c.gift_at.new.aims c.gift_at.new.amounts.items
    (sym c.as_slice.ensures ∙ c.in_ok-key.ensures.key) c.len.ensures.table.fits.rising (omega (arith, c.gift_at.ensures.length, c.requires.amounts, c.if-len-gt-EFFECTS_MAX.false, c.len-else-count-gt-PARAMS_MAX.ensures))
    c.gift_at.ensures.writes c.gift_at.ensures.aims c.gift_at.ensures.numbers
