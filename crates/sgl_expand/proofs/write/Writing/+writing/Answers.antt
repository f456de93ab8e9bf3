use Rattle.std.proofs.Common.{◌+◌, [], ◌∷◌, ◌∙◌, ap, sym, subst, reverse}
use Rattle.sgl_typed.specs.declared.script.TStmt.TheVariants.{Call}
use Rattle.sgl_expand.specs.Steps.{Begins, stand_of}
use Rattle.sgl_expand.specs.Written.{lets, writers_of, written_all}
use Rattle.sgl_expand.proofs.Stepping.{walked, goes-through, goes-out, goes-on, if-next, if-written, call-begins}
use Rattle.sgl_expand.proofs.write.Writing.+writing.Goals as goal

pub write_block-loop-statement-preserved : goal.write_block-loop-statement-preserved
write_block-loop-statement-preserved t c =
    walked c.args.routines.now c.args.statements.now c.loop-statement.statement-index c.args.self.now.numbering.known.items c.args.self.now.numbering.next c.statement-item.result
    (stand_of c.loop-statement.self) (stand_of c.write_statement.new.self) (stand_of c.write_calls.new.self)
    c.loop-statement-test.true c.statement-item.is c.loop-statement.invariant c.in_ok-write_statement.ensures c.in_ok-write_calls.ensures.goes c.in_ok-write_calls.ensures.over

pub write_calls-returns-then-branch-clause-goes : goal.write_calls-returns-then-branch-clause-goes
write_calls-returns-then-branch-clause-goes t c =
    goes-through c.args.routines.now (stand_of c.args.self.now) (stand_of c.loop.self) (stand_of c.write_next.new.self) c.loop.invariant c.in_ok-write_next.ensures.goes

pub write_calls-loop-preserved : goal.write_calls-loop-preserved
write_calls-loop-preserved t c =
    goes-through c.args.routines.now (stand_of c.args.self.now) (stand_of c.loop.self) (stand_of c.write_next.new.self) c.loop.invariant c.in_ok-write_next.ensures.goes

pub write_next-returns-in-None-statement_at-clause-goes :
    goal.write_next-returns-in-None-statement_at-clause-goes
write_next-returns-in-None-statement_at-clause-goes t c =
    let s = stand_of c.args.self.now in
    let outer = reverse c.end_call.new.calls.items in
    goes-out c.args.routines.now s.made s.known s.next c.in-Some.frame outer s
    (record s { known = c.truncate.new.self.items; calls = outer })
    (λ i. record s { calls = sym c.in-Some.ensures i })
    (λ i. record s { known = sym c.truncate.ensures.items i; calls = outer })
    (sym c.in-None-statement_at.ensures) c.requires.marked

pub write_next-returns-in_ok-write_statement-in-Some-statement_at-clause-goes :
    goal.write_next-returns-in_ok-write_statement-in-Some-statement_at-clause-goes
write_next-returns-in_ok-write_statement-in-Some-statement_at-clause-goes t c =
    let s = stand_of c.args.self.now in
    let frame = c.in-Some.frame in
    let outer = reverse c.end_call.new.calls.items in
    let u = stand_of c.write_statement.new.self in
    goes-on c.args.routines.now c.in-Some-statement_at.statement.now s.made s.known s.next frame outer s u
    (λ i. record s { calls = sym c.in-Some.ensures i })
    (sym c.in-Some-statement_at.ensures) c.requires.marked
    (subst (λ calls. Begins c.args.routines.now c.in-Some-statement_at.statement.now (record s { calls = calls }) u)
    (c.in_ok-begin_call-in-Some-statement_at.ensures ∙ (λ i. record { routine = frame.routine; at = c.in_ok-at-in-Some-statement_at.ensures i; known = frame.known } ∷ outer))
    c.in_ok-write_statement-in-Some-statement_at.ensures)

pub write_statement-returns-in_ok-write_call-in-Call :
    goal.write_statement-returns-in_ok-write_call-in-Call
write_statement-returns-in_ok-write_call-in-Call t c =
    let s = stand_of c.args.self.now in
    let u = stand_of c.write_call.new.self in
    subst (λ statement. Begins c.args.routines.now statement s u)
    ((λ i. Call c.in-Call.routine (c.as_slice-in-Call.ensures i) (c.as_slice-in-Call-2.ensures i)) ∙ sym c.in-Call.is)
    (call-begins c.args.routines.now c.requires c.in-Call.routine c.as_slice-in-Call.result.now c.as_slice-in-Call-2.result.now s u
    (λ i. record {
      made = sym c.in_ok-write_call-in-Call.ensures.made i;
      known = sym c.in_ok-write_call-in-Call.ensures.known i;
      next = sym c.in_ok-write_call-in-Call.ensures.next i;
      calls = sym c.in_ok-write_call-in-Call.ensures.calls i;
    }))

pub write_if-returns-clause-made : goal.write_if-returns-clause-made
write_if-returns-clause-made t c =
    let writers = writers_of [] c.args.routines.now in
    let known = c.args.self.now.numbering.known.items in
    let next = c.args.self.now.numbering.next in
    if-written writers c.args.cond.now c.args.place c.args.yes.now c.args.no.now known next c.in_ok-cond.cond c.in_ok-yes.yes c.in_ok-no.no
    c.in_ok-cond.ensures c.in_ok-yes.ensures.made
    (c.in_ok-no.ensures.made ∙ (λ i. written_all writers c.args.no.now (c.in_ok-yes.ensures.known i) (c.in_ok-yes.ensures.next i)))

pub write_if-returns-clause-next : goal.write_if-returns-clause-next
write_if-returns-clause-next t c =
    c.in_ok-no.ensures.next ∙ ap (λ n. n + lets c.in_ok-no.no) c.in_ok-yes.ensures.next
    ∙ if-next c.args.self.now.numbering.next c.in_ok-cond.cond c.args.place c.in_ok-yes.yes c.in_ok-no.no
