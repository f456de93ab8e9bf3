use Rattle.std.proofs.Common.{◌≡◌, ◌∙◌, ◌+◌, ◌++◌, [], ◌∷◌, map, sym, ap, arith}
use Rattle.std.proofs.lemmas.List.FromFn.{map-range_with_len_more}
use Rattle.std.specs.List.{range_with_len}
use Rattle.task_scratch.specs.Scratch.{reach_at}
use Rattle.battle_host.proofs.explain.counts_of.Goals as goal

pub loop-node-preserved : goal.loop-node-preserved
loop-node-preserved c =
    let reached = c.args.battle.now.reached in
    let node = c.loop-node.node in
    let same : 0 + node ≡ node = omega arith in
    let count : c.count_or_zero.result ≡ reach_at reached node = c.count_or_zero.ensures ∙ ap (λ xs. reach_at xs node) c.counts-reached.ensures in
    c.in_ok-push.ensures.items
    ∙ (ap (λ xs. xs ++ c.count_or_zero.result ∷ []) c.loop-node.invariant
    ∙ (ap (λ n. map (reach_at reached) (range_with_len 0 node) ++ n ∷ []) count ∙ sym (map-range_with_len_more (reach_at reached) 0 node node same)))
