use Rattle.std.proofs.Common.{◌≡◌, ◌+◌, ◌++◌, drop, length}
use Rattle.plan_translate.specs.Translation.{calls_of_all, translated}
use Rattle.battle_algebra.specs.Tree.{numbered}
use Rattle.plan_translate.proofs.emission.+emitting.Given as goal

abbrev pub invariant-emit_block-loop-at : goal.invariant-emit_block-loop-at
invariant-emit_block-loop-at l = record {
  next : l.out.next + calls_of_all (drop l.at l.block) ≡ l.initial.out.next + calls_of_all l.block;
  rest : l.out.nodes ++ numbered (translated l.actions (drop l.at l.block) l.out.next) (length l.out.nodes)
      ≡ l.initial.out.nodes ++ numbered (translated l.actions l.block l.initial.out.next) (length l.initial.out.nodes);
}
