use Rattle.std.proofs.Common.{◌≡◌, ◌+◌, ◌*◌, ◌++◌, drop, length}
use Rattle.plan_translate.specs.Translation.{clauses}
use Rattle.battle_algebra.specs.Tree.{numbered}
use Rattle.plan_translate.proofs.emission.emit_clauses.Given as goal

abbrev pub invariant-loop-clause : goal.invariant-loop-clause
invariant-loop-clause l = record {
  next : l.out.next ≡ l.initial.out.next;
  count : length l.out.nodes ≡ length l.initial.out.nodes + 2 * l.clause;
  rest : l.out.nodes ++ numbered (clauses (drop l.clause l.ons) l.clause l.call.action l.call.args l.call.place) (length l.out.nodes)
      ≡ l.initial.out.nodes ++ numbered (clauses l.ons 0 l.call.action l.call.args l.call.place) (length l.initial.out.nodes);
}
