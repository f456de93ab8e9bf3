use Rattle.std.proofs.Common.{◌≡◌, ◌∙◌, ◌∷◌, [], get_or, ap, pos, rules, sym, take}
use mir.Val.{SFits}
use mir.Syntax.{w64}
use Rattle.std.proofs.lemmas.Int.{to_z-of_z}
use Rattle.std.proofs.lemmas.List.{map-append, take_more}
use Rattle.extreme_sweep.specs.Nodes.{leaf_of, least_below}
use Rattle.extreme_sweep.specs.Ranks.{pair_of_rank, rank_entry, rank_entries, lesser_counted}
use Rattle.extreme_sweep.proofs.Blocks.{least_at, least-push}
use Rattle.extreme_sweep.proofs.Packing.{counted-above}
use Rattle.extreme_sweep.proofs.PairLaws.{lesser}
use Rattle.extreme_sweep.proofs.rank_tree.least_of_places.Goals as goal
use Rattle.extreme_sweep.proofs.rank_tree.least_of_places.Goals.{then-rank-least, else-rank-least}

pub loop-place-preserved : goal.loop-place-preserved
loop-place-preserved c = λ all placed.
    let places = c.args.places.now in let other = c.args.other_than in let i = c.loop-place.place in let rank = get_or places i 0 in
    let more = ap (rank_entries all) (take_more places i 0 c.loop-place-test.true) ∙ map-append (rank_entry all) (take i places) (rank ∷ []) in
    let group = get_or c.args.groups.now i (pos 0) in
    let counted : pair_of_rank c.if-rank-least.least ≡ lesser_counted c.loop-place.least rank group other = elim c.if-rank-least.branch [
      | then-rank-least w ↦
          let fits : SFits w64 group = search rules in
          ap pair_of_rank w.least-is ∙ simp to_z-of_z at w.lesser_rank-least.ensures
      | else-rank-least w ↦ ap pair_of_rank w.least-is ∙ counted-above c.loop-place.least rank group other w.if-rank-least.false
    ] in
    counted ∙ (λ k. lesser (c.loop-place.invariant all placed k) (least_below other (leaf_of (sym (placed.each i c.loop-place-test.true) k))))
    ∙ sym (ap (least_at other) more ∙ least-push other (rank_entries all (take i places)) (rank_entry all rank))
