use Rattle.std.proofs.Common.{◌≡◌, ◌∙◌, ◌+◌, ◌++◌, ◌∷◌, [], ℤ, List, None, ◌<◌, ◌^◌, pos, rules, length, get_or, ap, sym, subst, take, arith}
use Rattle.std.proofs.Math.Seq.{take-length}
use mir.Val.{SFits}
use mir.Syntax.{w64}
use Rattle.std.proofs.lemmas.Int.{to_z-of_z}
use Rattle.std.proofs.lemmas.List.{map-append, take_more}
use Rattle.extreme_sweep.specs.declared.node.Node.{Node}
use Rattle.extreme_sweep.specs.declared.rank_node.RankNode.{RankNode}
use Rattle.extreme_sweep.specs.Nodes.{leaf_of, Joins}
use Rattle.extreme_sweep.specs.Ranks.{placed_entry, rank_entry, rank_entries, unpacked, IsPacked}
use Rattle.extreme_sweep.specs.Tree.{StandsFor}
use Rattle.extreme_sweep.proofs.Blocks.{stands-empty, stands-push}
use Rattle.extreme_sweep.proofs.Packing.{joins-unpacked, placed-there, sound-unpacked}
use Rattle.extreme_sweep.proofs.rank_tree.node_of_places.Goals as goal
use Rattle.extreme_sweep.proofs.rank_tree.node_of_places.Goals.{then-rank, else-rank}

pub loop-place-preserved : goal.loop-place-preserved
loop-place-preserved c =
    let places = c.args.places.now in let i = c.loop-place.place in let rank = get_or places i 0 in let node = c.loop-place.node in
    let old = c.loop-place.invariant in
    let more : (all : List ℤ) → rank_entries all (take (i + 1) places) ≡ rank_entries all (take i places) ++ rank_entry all rank ∷ [] =
    λ all. ap (rank_entries all) (take_more places i 0 c.loop-place-test.true) ∙ map-append (rank_entry all) (take i places) (rank ∷ []) in
    let So : List ℤ → RankNode → Type 0 = λ all n. StandsFor (unpacked n) (rank_entries all (take (i + 1) places)) in
    elim c.if-rank.branch [
      | then-rank w ↦
          let with = w.joined-node.result in
          record {
            packed = subst IsPacked (sym w.node-is) w.joined-node.ensures.packed;
            stands = λ all placed.
                let group = get_or c.args.groups.now i (pos 0) in
                let fits : SFits w64 group = search rules in
                let narrow : rank < 2 ^ 32 = search rules in
                let leaf : unpacked w.single.result ≡ leaf_of (rank_entry all rank) =
                simp to_z-of_z at w.single.ensures.leaf
                ∙ ap leaf_of (sym (placed.each i c.loop-place-test.true ∙ placed-there group rank (omega (arith, narrow, w.if-rank.true)))) in
                let joins : Joins (unpacked node) (leaf_of (rank_entry all rank)) (unpacked with) = subst (λ (n : Node). Joins (unpacked node) n (unpacked with)) leaf
                (joins-unpacked node w.single.result with old.packed w.single.ensures.packed w.joined-node.ensures.packed w.joined-node.ensures.joins) in
                subst (So all) (sym w.node-is) (subst (StandsFor (unpacked with)) (sym (more all))
                (stands-push (unpacked node) (unpacked with) (rank_entries all (take i places)) (rank_entry all rank) (old.stands all placed)
                (sound-unpacked with w.joined-node.ensures.packed) joins));
          }
      | else-rank w ↦
          record {
            packed = subst IsPacked (sym w.node-is) old.packed;
            stands = λ all placed.
                let none : rank_entry all rank ≡ None = placed.each i c.loop-place-test.true ∙ ap (placed_entry (get_or c.args.groups.now i (pos 0))) w.if-rank.false in
                subst (So all) (sym w.node-is) (subst (StandsFor (unpacked node)) (sym (more all ∙ ap (λ e. rank_entries all (take i places) ++ e ∷ []) none))
                (stands-empty (unpacked node) (rank_entries all (take i places)) (old.stands all placed)));
          }
    ]

pub returns-clause-stands : goal.returns-clause-stands
returns-clause-stands c = λ all placed.
    let places = c.args.places.now in let node = c.loop-place.node in
    let whole : c.loop-place.place ≡ length places = omega (arith, c.loop-place-test.false, c.loop-place.auto.place-end) in
    subst (λ l. StandsFor (unpacked node) (rank_entries all l)) (ap (λ n. take n places) whole ∙ take-length places) (c.loop-place.invariant.stands all placed)
