use Rattle.std.proofs.Common.{◌∙◌, ◌+◌, set, sym, ap, subst, refl, arith}
use Rattle.std.proofs.lemmas.List.{length-map, map-set}
use Rattle.extreme_sweep.specs.declared.placing.Entrant.{Entrant}
use Rattle.extreme_sweep.specs.Ranking.{entry_of, entries_at}
use Rattle.extreme_sweep.specs.Ranks.{no_rank, IsRankTree}
use Rattle.extreme_sweep.specs.Sweeping.{groups_of, laid_points, Holds}
use Rattle.extreme_sweep.proofs.Holding.{entrant-read, holds-leave}
use Rattle.extreme_sweep.proofs.RankOrder.{no-point}
use Rattle.extreme_sweep.proofs.sweeper.Sweeper.leave.Goals as goal

pub leave-requires-clause-place : goal.leave-requires-clause-place
leave-requires-clause-place c =
    let s = c.args.self.now in let layout = c.args.layout.now in let old = c.requires.sweeper in let laid = old.laid in
    let read = entrant-read layout laid s.from c.index.result.now (omega (arith, old.last, c.requires.held)) c.index.ensures in
    omega (arith, ap (λ (e : Entrant). e.place) read.1, laid.are_slots.inside s.from read.0, old.holds.count, length-map s.tree.places.items (entry_of layout.ranked.items))

pub leave-requires-clause-tree : goal.leave-requires-clause-tree
leave-requires-clause-tree c =
    let layout = c.args.layout.now in
    (groups_of layout, subst (λ groups. IsRankTree (groups_of layout) groups c.args.self.now.tree) (sym c.as_slice.ensures.value) c.requires.sweeper.tree_is)

pub returns : goal.returns
returns c =
    let s = c.args.self.now in let layout = c.args.layout.now in let old = c.requires.sweeper in let laid = old.laid in let place = c.index.result.now.place in
    let ranked = layout.ranked.items in let places = s.tree.places.items in
    let read = entrant-read layout laid s.from c.index.result.now (omega (arith, old.last, c.requires.held)) c.index.ensures in
    let entries = map-set (entry_of ranked) places place no_rank ∙ ap (set (entries_at ranked places) place) (no-point ranked no_rank (omega (arith, laid.all, laid.few))) in
    record {
      keeps = record {
        laid = laid;
        order = omega (arith, c.requires.held);
        last = old.last;
        tree_is = subst (λ groups. IsRankTree (groups_of layout) groups c.leave.new.self) c.as_slice.ensures.value
            (c.leave.ensures.tree (groups_of layout) (subst (λ groups. IsRankTree (groups_of layout) groups s.tree) (sym c.as_slice.ensures.value) old.tree_is));
        holds = subst (Holds (laid_points layout) laid.rank (s.from + 1) s.to) (sym (ap (entries_at ranked) c.leave.ensures.places ∙ entries))
            (holds-leave (laid_points layout) laid.slots laid.rank (entries_at ranked places) laid.are_slots s.from s.to place old.holds read.0 (ap (λ (e : Entrant). e.place) read.1));
      };
      from_is = refl;
      to_is = refl;
    }
