use Rattle.std.proofs.Common.{◌≡◌, ℕ, List, true, arith, refl, subst, sym}
use Rattle.sgl_typed.specs.declared.script.Attr.TheVariants.{Key}
use Rattle.sgl_typed.specs.declared.script.TExpr.{TExpr}
use Rattle.sgl_typed.specs.declared.script.TExpr.TheVariants.{Unit as OfUnit}
use Rattle.sgl_typed.specs.declared.script.TWrite.{TWrite}
use Rattle.sgl_lanes.specs.Lanes.{has}
use Rattle.task_scratch.specs.Scratch.{slots_in}
use Rattle.plan_executor.specs.Clauses.{aims_of, target_of, values_of, with_target, GiveBy, GiveNumbers}
use Rattle.plan_executor.specs.Frames.{with_slots}
use Rattle.plan_executor.specs.Running.{base_of}
use Rattle.plan_executor.proofs.Clauses.{given_by}
use Rattle.plan_executor.proofs.Own.{own_aims}
use Rattle.plan_executor.proofs.lane_giving.own_gift.Goals as goal

pub returns-then-read_each_given-clause-gift : goal.returns-then-read_each_given-clause-gift
returns-then-read_each_given-clause-gift c =
    let run = c.args.run.now in
    let base = base_of run in
    let slots = slots_in c.args.rows.now in
    let act = c.args.act.now in
    let mask = c.args.mask in
    let aims = aims_of mask run.own.now in
    let amounts = c.read_each_given.new.amounts.items in
    let given = subst (λ (of : List TWrite × List TExpr). (k : ℕ) → has mask k ≡ true
    → GiveNumbers (with_target run.tick.world.now.world (with_slots base (values_of base slots of.1) k) (target_of aims.targets k)) (target_of aims.targets k) k of.0 amounts)
    (λ i. (c.as_slice-writes.ensures i, c.as_slice-args.ensures i)) (λ k own. c.read_each_given.ensures.numbers c.if-read_each_given.true k (target_of aims.targets k) own) in
    subst (λ (writing : List TWrite). GiveBy run slots act mask writing aims amounts) (sym c.as_slice-writes.ensures)
    (given_by run slots act mask c.args.clause.now (values_of base slots act.args) c.requires.clause (λ k own. refl) (OfUnit Key) aims amounts c.requires.sole c.len.ensures.table.fits.rising
    (omega (arith, c.read_each_given.ensures.length, c.requires.room)) (own_aims run mask (values_of base slots act.args) c.requires.inside) given)
