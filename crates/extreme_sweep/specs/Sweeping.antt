-- What a sweeper keeps, and how it moves.
use Rattle.std.specs.Prelude.{◌≡◌, ℕ, ℤ, ◌<◌, ◌≤◌, List, All, Option, Some, None, length, map, slice_index_or, IsPermutation, if◌then◌else◌}
use Rattle.rank_table.specs.Ranks.{IsRising}
use Rattle.sgl_values.specs.Range.{is_between}
use Rattle.extreme_sweep.specs.declared.axis.Axis.TheVariants.{X}
use Rattle.extreme_sweep.specs.declared.pair.Entry.{Entry}
use Rattle.extreme_sweep.specs.declared.layout.Layout.{Layout}
use Rattle.extreme_sweep.specs.declared.layout.Span.{Span}
use Rattle.extreme_sweep.specs.declared.sweeper.Sweeper.{Sweeper}
use Rattle.extreme_sweep.specs.declared.window.SweepPoint.{SweepPoint}
use Rattle.extreme_sweep.specs.declared.window.Window.{Window}
use Rattle.extreme_sweep.specs.Laying.{entrant_at}
use Rattle.extreme_sweep.specs.Ranking.{points_of, entries_at, PairsRise}
use Rattle.extreme_sweep.specs.Ranks.{IsRankTree}
use Rattle.extreme_sweep.specs.Slots.{point_at, is_among, Slot, AreSlots, IsRange}
use Rattle.sgl_values.specs.declared.limit.TheConstants.{ROWS_MAX}

-- at each place stands the entry of its point, where its slot is one of those from `from` to before `to`
pub record Holds (points : List SweepPoint) (rank : ℕ → ℕ) (from to : ℕ) (places : List (Option Entry)) : Type 0 where
  pub count : length places ≡ length points
  pub entry : (p : ℕ) → p < length points → slice_index_or places p None ≡ (if is_among from to (rank p) then Some (point_at points p).entry else None)

-- the points of a layout, place by place
abbrev pub laid_points : Layout → List SweepPoint
laid_points layout = points_of layout.ranked.items layout.ranks.items

-- the groups of the points of a layout, by rank
abbrev pub groups_of : Layout → List ℤ
groups_of layout = map (λ point. point.entry.group) layout.ranked.items

-- what every layout meets
pub record IsLayout (layout : Layout) : Type 0 where
  pub few : length layout.ranks.items ≤ ROWS_MAX
  pub all : length layout.ranked.items ≡ length layout.ranks.items
  pub moved : IsPermutation layout.ranked.items (laid_points layout)
  pub pairs_rise : PairsRise layout.ranked.items
  pub groups : layout.groups.items ≡ map (λ point. point.entry.group) (laid_points layout)
  pub inside : All (λ rank. rank < length layout.ranked.items) layout.ranks.items
  pub ys : layout.ys ≡ map (λ point. point.y) (laid_points layout)
  pub ys_rise : IsRising layout.ys
  pub slots : List Slot
  pub rank : ℕ → ℕ
  pub are_slots : AreSlots X (laid_points layout) slots rank
  pub entrants : layout.entrants.items ≡ map (entrant_at layout.ranks.items (groups_of layout)) slots
  pub xs : layout.xs ≡ map (λ slot. slot.coordinate) slots
  pub xs_rise : IsRising layout.xs

-- where a window lies among the points of a layout
pub record IsSpan (layout : Layout) (window : Window) (span : Span) : Type 0 where
  pub across : IsRange (is_between window.x1 window.x2) layout.xs span.from span.to
  pub along : IsRange (λ point. is_between window.y1 window.y2 point.y) (laid_points layout) span.low span.high
  pub other : span.other_than ≡ window.other_than

-- what every sweeper over a layout meets
pub record IsSweeper (layout : Layout) (sweeper : Sweeper) : Type 0 where
  pub laid : IsLayout layout
  pub order : sweeper.from ≤ sweeper.to
  pub last : sweeper.to ≤ length layout.entrants.items
  pub tree_is : IsRankTree (groups_of layout) layout.groups.items sweeper.tree
  pub holds : Holds (laid_points layout) laid.rank sweeper.from sweeper.to (entries_at layout.ranked.items sweeper.tree.places.items)

-- its tree holds the points with the slots from `from` to before `to`
pub record IsAt (layout : Layout) (sweeper : Sweeper) (from to : ℕ) : Type 0 where
  pub keeps : IsSweeper layout sweeper
  pub from_is : sweeper.from ≡ from
  pub to_is : sweeper.to ≡ to
