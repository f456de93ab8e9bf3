use Rattle.std.proofs.Common.{ℕ, refl, arith, ◌≡◌, ◌∙◌, subst}
use Rattle.battle_algebra.specs.Meaning.{is_taken, is_other}
use Rattle.sgl_lanes.specs.Lanes.{has, HoldEach}
use Rattle.task_scratch.specs.Scratch.{slots_in}
use Rattle.plan_executor.specs.Running.{base_of}
use Rattle.plan_executor.specs.Sinking.{bounds_of, state_of}
use Rattle.plan_executor.specs.Steps.{condition_of}
use Rattle.sgl_lanes.proofs.LaneSets.{has_zero}
use Rattle.plan_executor.proofs.Rows.{part_start, part_more, leads_start, leads_more, leads_end}
use Rattle.sgl_lanes.specs.declared.values.LaneValues.{LaneValues}
use Rattle.sgl_values.specs.declared.fault.Val.{Val}
use Rattle.sgl_lanes.specs.declared.kind.Lanes.{Lanes}
use Rattle.sgl_lanes.specs.declared.kind.Lanes.TheVariants.{Truths}
use Rattle.plan_executor.proofs.EmptySets.{no_part, no_pushes}
use Rattle.plan_executor.proofs.Parting.{truths_silent}
use Rattle.plan_executor.proofs.splitting.split_rows.Goals as goal

pub returns-then-mask-eq0-clause-taken : goal.returns-then-mask-eq0-clause-taken
returns-then-mask-eq0-clause-taken c = no_part c.args.mask c.if-mask-eq0.true (base_of c.args.run.now) (slots_in c.args.rows.now) c.args.cond.now is_taken

pub returns-then-mask-eq0-clause-other : goal.returns-then-mask-eq0-clause-other
returns-then-mask-eq0-clause-other c = no_part c.args.mask c.if-mask-eq0.true (base_of c.args.run.now) (slots_in c.args.rows.now) c.args.cond.now is_other

pub returns-then-mask-eq0-clause-pushes : goal.returns-then-mask-eq0-clause-pushes
returns-then-mask-eq0-clause-pushes c =
    no_pushes c.args.mask c.if-mask-eq0.true (base_of c.args.run.now) (slots_in c.args.rows.now) (condition_of c.args.cond.now)
    (bounds_of c.args.run.now.out) (state_of c.args.sink.now c.args.seat.now)

-- the lanes hold truths
truths : (value : ℕ → Val) (mask : ℕ) (values : LaneValues) → values.kind ≡ Truths → HoldEach values.kind mask values.numbers value → HoldEach Truths mask values.numbers value
truths value mask values is hold = subst (λ (kind : Lanes). HoldEach kind mask values.numbers value) is hold

pub returns-in-Truths-clause-taken : goal.returns-in-Truths-clause-taken
returns-in-Truths-clause-taken c = record { is = c.split_truths.ensures.taken _ (truths _ c.args.mask c.read_values.new.values c.in-Truths.is c.read_values.ensures) }

pub returns-in-Truths-clause-other : goal.returns-in-Truths-clause-other
returns-in-Truths-clause-other c = record { is = c.split_truths.ensures.other _ (truths _ c.args.mask c.read_values.new.values c.in-Truths.is c.read_values.ensures) }

pub returns-in-Truths-clause-pushes : goal.returns-in-Truths-clause-pushes
returns-in-Truths-clause-pushes c =
    truths_silent c.args.run.now (slots_in c.args.rows.now) c.args.cond.now c.args.mask c.read_values.new.values.numbers (bounds_of c.args.run.now.out) (state_of c.args.sink.now c.args.seat.now)
    c.requires.inside (truths _ c.args.mask c.read_values.new.values c.in-Truths.is c.read_values.ensures)

pub loop-row-init : goal.loop-row-init
loop-row-init c =
    let base = base_of c.args.run.now in
    let slots = slots_in c.args.rows.now in
    record {
      frame = refl;
      ready = c.requires.ready;
      taken = part_start base slots c.args.cond.now is_taken c.args.mask has_zero;
      other = part_start base slots c.args.cond.now is_other c.args.mask has_zero;
      leads = leads_start base slots (condition_of c.args.cond.now) c.args.mask (bounds_of c.args.run.now.out) (state_of c.args.sink.now c.args.seat.now);
    }

pub loop-row-preserved : goal.loop-row-preserved
loop-row-preserved c =
    let base = base_of c.args.run.now in
    let slots = slots_in c.args.rows.now in
    let row = c.loop-row.row in
    record {
      frame = c.split_row.ensures.frame ∙ c.loop-row.invariant.frame;
      ready = c.split_row.ensures.ready;
      taken = part_more base slots c.args.cond.now is_taken c.args.mask row c.loop-row.parts.taken c.split_row.new.parts.taken _ (has c.args.mask row) refl refl c.loop-row.invariant.taken c.split_row.ensures.taken;
      other = part_more base slots c.args.cond.now is_other c.args.mask row c.loop-row.parts.other c.split_row.new.parts.other _ (has c.args.mask row) refl refl c.loop-row.invariant.other c.split_row.ensures.other;
      leads = leads_more base slots (condition_of c.args.cond.now) c.args.mask row (has c.args.mask row) c.loop-row-test.true refl c.loop-row.invariant.leads c.split_row.ensures.pushes;
    }

pub returns-clause-pushes : goal.returns-clause-pushes
returns-clause-pushes c =
    let last : c.loop-row.row ≡ 64 = omega (arith, c.loop-row-test.false, c.loop-row.auto.row-end) in
    leads_end (base_of c.args.run.now) (slots_in c.args.rows.now) (condition_of c.args.cond.now) c.args.mask c.loop-row.row last c.loop-row.invariant.leads
