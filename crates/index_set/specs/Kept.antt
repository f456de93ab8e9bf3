-- What is kept for an aggregate.
use Rattle.std.specs.Prelude.{◌≡◌, ◌<◌, ℕ, ⊤, true, List, [], length, map, slice_get, slice_index_or, Option, None, Some}
use Rattle.sgl_values.specs.World.{Row}
use Rattle.sgl_values.specs.declared.operator.FoldKind.{FoldKind}
use Rattle.sgl_values.specs.declared.operator.FoldKind.TheVariants.{Count, Sum}
use Rattle.sgl_typed.specs.declared.script.Attr.{Attr}
use Rattle.sgl_typed.specs.declared.script.TAgg.{TAgg}
use Rattle.sgl_typed.specs.declared.script.TScript.{TScript}
use Rattle.battle_algebra.specs.Ways.{attr_of, few_groups, is_boxed, x_of, y_of}
use Rattle.test_boxes.specs.Readings.{grouping, unequals}
use Rattle.test_boxes.specs.declared.reading.Reading.TheVariants.{Away, Alike}
use Rattle.group_boxes.specs.declared.axes.Axes.{Axes}
use Rattle.group_boxes.specs.Ranged.{is_total, AreOthers, AreWeighed, IsRanged}
use Rattle.index_set.specs.Shelves.{IsPart}
use Rattle.index_set.specs.declared.ranged.FoundAt.{FoundAt}
use Rattle.index_set.specs.declared.ranged.FoundAt.TheVariants.{Nothing, Parts as Found, Others as FoundOthers}
use Rattle.index_set.specs.declared.ranged.RangedAt.{RangedAt}
use Rattle.index_set.specs.declared.ranged.RangedAt.TheVariants.{Parts, Others}
use Rattle.index_set.specs.declared.shelf.Shelf.{Shelf}

-- the attribute that a fold adds up
abbrev pub weight_by : FoldKind → Attr → Option Attr
weight_by Sum attr = Some attr
weight_by kind attr = None

-- the attributes of the range tests, and the one that is added up
abbrev pub axes_of : TAgg → Axes
axes_of agg = record { x = x_of agg.tests; y = y_of agg.tests; weigh = weight_by agg.kind agg.attr }

-- with an unequal test there are range indices by its value too
abbrev pub IsTurnedAt : Shelf → Option ℕ → TAgg → List Row → Type 0
IsTurnedAt shelf None agg rows = length (unequals agg.tests) ≡ 0
IsTurnedAt shelf (Some number) agg rows = (length (unequals agg.tests) ≡ 1) × IsPart shelf number (map attr_of (grouping Alike agg.tests)) (axes_of agg) rows

-- those without the unequal test of the aggregate, and those with it turned into an equal one
pub record ArePartsAt (shelf : Shelf) (number : ℕ) (other : Option ℕ) (agg : TAgg) (rows : List Row) : Type 0 where
  pub away : IsPart shelf number (map attr_of (grouping Away agg.tests)) (axes_of agg) rows
  pub turned : IsTurnedAt shelf other agg rows

-- those by the value of the unequal test of a count, which has no equal one
pub record AreOthersAt (shelf : Shelf) (number : ℕ) (agg : TAgg) (rows : List Row) : Type 0 where
  pub counts : agg.kind ≡ Count
  pub one : length (unequals agg.tests) ≡ 1
  pub alone : grouping Away agg.tests ≡ []
  pub part : IsPart shelf number (map attr_of (grouping Alike agg.tests)) (axes_of agg) rows

abbrev pub HasParts : Shelf → RangedAt → TAgg → List Row → Type 0
HasParts shelf (Parts away turned) agg rows = ArePartsAt shelf away turned agg rows
HasParts shelf (Others number) agg rows = AreOthersAt shelf number agg rows

-- the aggregate is a count or sum that range indices answer, and these are its own
pub record IsRangedAt (shelf : Shelf) (at : RangedAt) (agg : TAgg) (rows : List Row) : Type 0 where
  pub total : is_total agg.kind ≡ true
  pub few : few_groups agg.tests ≡ true
  pub boxed : is_boxed agg.tests ≡ true
  pub parts : HasParts shelf at agg rows

-- what was found answers the aggregate
abbrev pub IsFoundAt : FoundAt → TAgg → List Row → Type 0
IsFoundAt Nothing agg rows = ⊤
IsFoundAt (Found ranged) agg rows = IsRanged ranged agg.tests rows × (agg.kind ≡ Sum → AreWeighed ranged agg.attr)
IsFoundAt (FoundOthers part) agg rows = (agg.kind ≡ Count) × AreOthers part agg.tests rows

-- what is kept for an aggregate is its own
abbrev pub IsKept : Shelf → Option RangedAt → TAgg → List Row → Type 0
IsKept shelf None agg rows = ⊤
IsKept shelf (Some at) agg rows = IsRangedAt shelf at agg rows

-- of these many aggregates of a script what is kept is their own
pub record AreKept (shelf : Shelf) (kept : List (Option RangedAt)) (count : ℕ) (script : TScript) (rows : List Row) : Type 0 where
  pub all : length kept ≡ count
  pub own : (number : ℕ) (agg : TAgg) → number < count → slice_get script.aggs number ≡ Some agg → IsKept shelf (slice_index_or kept number None) agg rows
