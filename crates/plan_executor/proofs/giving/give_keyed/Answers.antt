use Rattle.std.proofs.Common.{◌∙◌, ◌∷◌, [], ℕ, refl, ap}
use Rattle.std.specs.Prelude.{None, Some, Option}
use Rattle.sgl_typed.specs.Items.{writes}
use Rattle.sgl_evaluate.specs.Frame.{context_of}
use Rattle.index_set.specs.declared.aim.KeyedAim.TheVariants.{Row as AimRow}
use Rattle.plan_executor.specs.Sinking.{bounds_of, state_of}
use Rattle.plan_executor.specs.Targets.{writes_at}
use Rattle.plan_executor.proofs.Pushing.{Leads-start}
use Rattle.plan_executor.proofs.TargetRows.{aim_fault, aim_inside, aim_rows, rows_end, rows_more}
use Rattle.plan_executor.proofs.giving.give_keyed.Goals as goal

pub with_target-frame-requires : goal.with_target-frame-requires
with_target-frame-requires c =
    aim_inside (context_of c.args.frame.now) c.args.clause.now c.args.aim c.in-Row.found c.in-Some.row c.in-Row.is c.in-Some.is c.requires.aim

pub returns-in-Faulty-clause-pushes : goal.returns-in-Faulty-clause-pushes
returns-in-Faulty-clause-pushes c =
    aim_fault (context_of c.args.frame.now) c.args.clause.now c.args.aim c.in-Faulty.fault (bounds_of c.args.out.now)
    (state_of c.args.sink.now c.args.seat.now) (state_of c.push_faulty.new.sink c.push_faulty.new.seat) c.in-Faulty.is c.requires.aim c.push_faulty.ensures.pushes

pub returns-in-Some-clause-pushes : goal.returns-in-Some-clause-pushes
returns-in-Some-clause-pushes c =
    let start = state_of c.args.sink.now c.args.seat.now in
    let end = state_of c.push_writes.new.sink c.push_writes.new.seat in
    let row = c.in-Some.row in
    let give = writes_at (context_of c.args.frame.now) c.args.clause.now.writes in
    aim_rows (context_of c.args.frame.now) c.args.clause.now c.args.aim (Some row) (bounds_of c.args.out.now) start end (c.in-Row.is ∙ ap (λ (o : Option ℕ). AimRow o) c.in-Some.is) c.requires.aim
    (rows_end give [] refl (rows_more give (row ∷ []) [] row refl (Leads-start (bounds_of c.args.out.now) start _)
    (λ i. writes (c.with_target-frame.ensures.context i) (c.with_target-frame.ensures.target i) (c.as_slice.ensures i)) c.push_writes.ensures.pushes))

pub returns-in_default-clause-pushes : goal.returns-in_default-clause-pushes
returns-in_default-clause-pushes c =
    let start = state_of c.args.sink.now c.args.seat.now in
    let give = writes_at (context_of c.args.frame.now) c.args.clause.now.writes in
    aim_rows (context_of c.args.frame.now) c.args.clause.now c.args.aim None (bounds_of c.args.out.now) start start (c.in-Row.is ∙ ap (λ (o : Option ℕ). AimRow o) c.in_default.is) c.requires.aim
    (rows_end give [] refl (Leads-start (bounds_of c.args.out.now) start _))
