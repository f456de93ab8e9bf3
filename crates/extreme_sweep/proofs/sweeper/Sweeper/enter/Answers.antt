-- A point that enters is the one at its place, with its own rank and group.
use Rattle.std.proofs.Common.{◌≡◌, ◌∙◌, ◌+◌, ◌<◌, ℕ, ℤ, List, get_or, length, pos, set, sym, ap, subst, refl, rules, arith, w64}
use Rattle.std.proofs.lemmas.Int.{to_z-of_z}
use Rattle.std.proofs.lemmas.List.{get_or-map, length-map, map-set}
use Rattle.std.proofs.lemmas.Option.{slice_get-get_or}
use Rattle.std.specs.Option.{option_map}
use Rattle.std.specs.Prelude.{Some, None}
use Rattle.extreme_sweep.specs.declared.layout.Layout.{Layout}
use Rattle.extreme_sweep.specs.declared.placing.Entrant.{Entrant}
use Rattle.extreme_sweep.specs.declared.sweeper.Sweeper.{Sweeper}
use Rattle.extreme_sweep.specs.declared.window.SweepPoint.{SweepPoint}
use Rattle.extreme_sweep.specs.Laying.{entrant_at}
use Rattle.extreme_sweep.specs.Ranking.{entry_of, entries_at}
use Rattle.extreme_sweep.specs.Ranks.{rank_entry, ranked as named, CanEnter}
use Rattle.extreme_sweep.specs.Slots.{point_at, slot_at}
use Rattle.extreme_sweep.specs.Sweeping.{groups_of, laid_points, Holds, IsLayout, IsSweeper}
use Rattle.extreme_sweep.proofs.Holding.{entrant-read, holds-enter, holds-not}
use Rattle.extreme_sweep.proofs.RankOrder.{laid-entry, no-rank-entry}
use Rattle.extreme_sweep.proofs.sweeper.Sweeper.enter.Goals as goal

-- the point that enters
module _ (layout : Layout) (s : Sweeper) (old : IsSweeper layout s) (entrant : Entrant) (more : s.to < length layout.entrants.items) (is : entrant ≡ get_or layout.entrants.items s.to entrant) where
  abbrev laid : IsLayout layout
  laid = old.laid

  abbrev nowhere : SweepPoint
  nowhere = record { x = pos 0; y = pos 0; entry = record { pair = record { value = pos 0; key = 0 }; group = pos 0 } }

  abbrev ranked : List SweepPoint
  ranked = layout.ranked.items

  abbrev places : List ℕ
  places = s.tree.places.items

  inside : s.to < length laid.slots
  inside = (entrant-read layout laid s.to entrant more is).0

  read : entrant ≡ entrant_at layout.ranks.items (groups_of layout) (slot_at laid.slots s.to)
  read = (entrant-read layout laid s.to entrant more is).1

  at : entrant.place ≡ (slot_at laid.slots s.to).place
  at = ap (λ (e : Entrant). e.place) read

  in-points : entrant.place < length layout.ranks.items
  in-points = omega (arith, at, laid.are_slots.inside s.to inside, length-map layout.ranks.items (λ (rank : ℕ). point_at ranked rank))

  in-places : entrant.place < length places
  in-places = omega (arith, at, laid.are_slots.inside s.to inside, old.holds.count, length-map places (entry_of ranked))

  rank-is : entrant.rank ≡ get_or layout.ranks.items entrant.place 0
  rank-is = ap (λ (e : Entrant). e.rank) read ∙ ap (λ p. get_or layout.ranks.items p 0) (sym at)

  in-ranked : entrant.rank < length ranked
  in-ranked = omega (arith, rank-is, laid.inside entrant.place 0 in-points)

  group-is : entrant.group ≡ get_or (groups_of layout) entrant.rank (pos 0)
  group-is = ap (λ (e : Entrant). e.group) read ∙ ap (λ r. get_or (groups_of layout) r (pos 0)) (sym (ap (λ (e : Entrant). e.rank) read))

  -- the group of the place is that of the rank
  group-at : get_or layout.groups.items entrant.place (pos 0) ≡ entrant.group
  group-at =
      let group : SweepPoint → ℤ = λ p. p.entry.group in
      let ranks = layout.ranks.items in
      ap (λ l. get_or l entrant.place (pos 0)) laid.groups
      ∙ get_or-map group (laid_points layout) entrant.place nowhere (pos 0) (omega (arith, in-points, length-map ranks (point_at ranked)))
      ∙ ap group (get_or-map (point_at ranked) ranks entrant.place 0 nowhere in-points ∙ ap (point_at ranked) (sym rank-is))
      ∙ sym (group-is ∙ get_or-map group ranked entrant.rank nowhere (pos 0) in-ranked)

  can-enter : CanEnter (groups_of layout) layout.groups.items places entrant.place entrant.rank entrant.group
  can-enter =
      let groups = groups_of layout in
      let size = length-map ranked (λ (p : SweepPoint). p.entry.group) in
      let empty = holds-not (laid_points layout) laid.slots laid.rank (entries_at ranked places) laid.are_slots s.from s.to entrant.place old.holds inside at in
      record {
        entry = ap (option_map (λ group. named group entrant.rank)) (slice_get-get_or groups entrant.rank (pos 0) (omega (arith, in-ranked, size)))
            ∙ ap (λ group. Some (named group entrant.rank)) (sym group-is);
        at = group-at;
        empty = get_or-map (rank_entry groups) places entrant.place 0 None in-places
            ∙ no-rank-entry ranked groups (get_or places entrant.place 0) refl (sym (get_or-map (entry_of ranked) places entrant.place 0 None in-places) ∙ empty);
      }

pub enter-requires-clause-tree : goal.enter-requires-clause-tree
enter-requires-clause-tree c = (groups_of c.args.layout.now, (c.args.layout.now.groups.items, c.requires.sweeper.tree_is))

pub enter-requires-clause-place : goal.enter-requires-clause-place
enter-requires-clause-place c = in-places c.args.layout.now c.args.self.now c.requires.sweeper c.index.result.now c.requires.more c.index.ensures

pub enter-requires-clause-rank : goal.enter-requires-clause-rank
enter-requires-clause-rank c =
    let laid = c.requires.sweeper.laid in
    omega (arith, in-ranked c.args.layout.now c.args.self.now c.requires.sweeper c.index.result.now c.requires.more c.index.ensures, laid.all, laid.few)

pub returns : goal.returns
returns c =
    let s = c.args.self.now in let layout = c.args.layout.now in let old = c.requires.sweeper in let laid = old.laid in let entrant = c.index.result.now in let place = entrant.place in
    let ranked = layout.ranked.items in let ranks = layout.ranks.items in let places = s.tree.places.items in
    let more = c.requires.more in let is = c.index.ensures in
    let entries = map-set (entry_of ranked) places place entrant.rank
    ∙ ap (set (entries_at ranked places) place) (laid-entry ranked ranks place entrant.rank (in-points layout s old entrant more is) (rank-is layout s old entrant more is) laid.inside) in
    record {
      keeps = record {
        laid = laid;
        order = omega (arith, old.order);
        last = omega (arith, c.requires.more);
        tree_is = c.enter.ensures.tree (groups_of layout) layout.groups.items old.tree_is
            (subst (CanEnter (groups_of layout) layout.groups.items places place entrant.rank) (sym (to_z-of_z w64 entrant.group (search rules))) (can-enter layout s old entrant more is));
        holds = subst (Holds (laid_points layout) laid.rank s.from (s.to + 1)) (sym (ap (entries_at ranked) c.enter.ensures.places ∙ entries))
            (holds-enter (laid_points layout) laid.slots laid.rank (entries_at ranked places) laid.are_slots s.from s.to place (point_at (laid_points layout) place).entry old.holds old.order
            (inside layout s old entrant more is) (at layout s old entrant more is) refl);
      };
      from_is = refl;
      to_is = refl;
    }
