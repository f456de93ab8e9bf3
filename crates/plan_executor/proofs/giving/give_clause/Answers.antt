use Rattle.std.proofs.Common.{◌≡◌, List, map, sym, subst}
use Rattle.std.specs.Prelude.{Ok, Err}
use Rattle.std.specs.List.Sorted.{IsPermutation}
use Rattle.sgl_typed.specs.Aggregate.{right_sides}
use Rattle.sgl_typed.specs.Value.{Context}
use Rattle.sgl_typed.specs.declared.script.TTest.{TTest}
use Rattle.sgl_evaluate.specs.Frame.{context_of}
use Rattle.sgl_evaluate.specs.Rights.{right_of}
use Rattle.sgl_evaluate.proofs.RightSides.{rights_fault, rights_numbers}
use Rattle.index_set.specs.Targets.{passing_rows, passing_rows_rest}
use Rattle.plan_executor.specs.Sinking.{bounds_of, state_of, Pushes}
use Rattle.plan_executor.proofs.Answering.{built}
use Rattle.plan_executor.proofs.TargetRows.{clause_fault, clause_rows, rows_inside}
use Rattle.plan_executor.proofs.giving.give_clause.Goals as goal

pub give_rows-requires-clause-inside : goal.give_rows-requires-clause-inside
give_rows-requires-clause-inside c =
    let rows = passing_rows_rest c.passing_rows-rows.result in
    let tests = c.as_slice-tests.result.now in
    rows_inside (context_of c.args.frame.now) tests rows
    (subst (λ (x : Context). IsPermutation (passing_rows x tests) rows) c.with_slots-own.ensures.context c.passing_rows-rows.ensures)

pub returns-in-Ok-clause-pushes : goal.returns-in-Ok-clause-pushes
returns-in-Ok-clause-pushes c =
    let ctx = context_of c.args.frame.now in
    let rows = passing_rows_rest c.passing_rows-rows.result in
    clause_rows ctx c.args.clause.now rows (bounds_of c.args.run.now.out)
    (state_of c.args.sink.now c.args.seat.now) (state_of c.give_rows.new.sink c.give_rows.new.seat)
    (subst (λ (tests : List TTest). right_sides ctx tests ≡ Ok (map (right_of ctx) tests)) c.as_slice-tests.ensures
    (rights_numbers ctx c.as_slice-tests.result.now (sym c.in-Ok.ensures.whole)))
    (subst (λ (tests : List TTest). IsPermutation (passing_rows ctx tests) rows) c.as_slice-tests.ensures
    (subst (λ (x : Context). IsPermutation (passing_rows x c.as_slice-tests.result.now) rows) c.with_slots-own.ensures.context c.passing_rows-rows.ensures))
    c.give_rows.ensures.pushes

pub returns-in-Err-clause-pushes : goal.returns-in-Err-clause-pushes
returns-in-Err-clause-pushes c =
    let ctx = context_of c.args.frame.now in
    subst (Pushes (bounds_of c.args.run.now.out) (state_of c.args.sink.now c.args.seat.now) (state_of c.push_faulty.new.sink c.push_faulty.new.seat))
    (clause_fault ctx c.args.clause.now c.in-Err.fault
    (subst (λ (tests : List TTest). right_sides ctx tests ≡ Err c.in-Err.fault) c.as_slice-tests.ensures
    (rights_fault ctx c.as_slice-tests.result.now c.in-Err.fault (sym c.in-Err.ensures.fault))))
    c.push_faulty.ensures.pushes

pub passing_rows-rows-requires-clause-built : goal.passing_rows-rows-requires-clause-built
passing_rows-rows-requires-clause-built c = built c.args.run.now c.of.result c.requires.can c.of.ensures
