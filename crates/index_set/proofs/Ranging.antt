-- The range indices of an aggregate, by what its tests ask.
use Rattle.std.proofs.Common.{◌≡◌, ◌≤◌, ℕ, ◌+◌, Bool, true, false, cond, List, [], ◌∷◌, ◌++◌, map, length, Option, Some, None, inl, inr, refl, ap, sym, ◌∙◌, subst, arith}
use Rattle.std.specs.Prelude.{◌||◌, filter, slice_get, slice_index_or}
use Rattle.std.specs.List.{list_any}
use Rattle.std.proofs.lemmas.Bool.{cases_lt, false≢true}
use Rattle.std.proofs.lemmas.List.{get_or_append_left, get_or_push, length_push}
use Rattle.sgl_values.specs.World.{Row}
use Rattle.sgl_typed.specs.declared.script.TAgg.{TAgg}
use Rattle.sgl_typed.specs.declared.script.TScript.{TScript}
use Rattle.sgl_typed.specs.declared.script.TTest.{TTest}
use Rattle.battle_algebra.specs.Ways.{attr_of, few_groups, is_unequal_test}
use Rattle.test_boxes.specs.Readings.{grouping, groups_by, unequals}
use Rattle.test_boxes.specs.declared.reading.Reading.TheVariants.{Away, Alike}
use Rattle.test_boxes.proofs.Shapes.{one_unequal}
use Rattle.index_set.specs.Kept.{AreKept, HasParts, IsKept, IsTurnedAt, axes_of}
use Rattle.index_set.specs.Shelves.{Grows}
use Rattle.index_set.specs.declared.ranged.RangedAt.{RangedAt}
use Rattle.index_set.specs.declared.ranged.RangedAt.TheVariants.{Parts, Others}
use Rattle.index_set.specs.declared.shelf.Shelf.{Shelf}
use Rattle.index_set.proofs.Shelving.{part_stays}

-- ---- whether there is an unequal test

none_kept : (p : TTest → Bool) (tests : List TTest) → list_any p tests ≡ false → length (filter p tests) ≡ 0
none_kept p [] h = refl
none_kept p (test ∷ tests) h = step (p test) (none_kept p tests) h
  where
    step : (b : Bool) → (list_any p tests ≡ false → length (filter p tests) ≡ 0) → (b || list_any p tests) ≡ false → length (cond b (test ∷ filter p tests) (filter p tests)) ≡ 0
    step true later h = absurd (false≢true (sym h))
    step false later h = later h

some_kept : (p : TTest → Bool) (tests : List TTest) → list_any p tests ≡ true → 1 ≤ length (filter p tests)
some_kept p [] h = absurd (false≢true h)
some_kept p (test ∷ tests) h = step (p test) (some_kept p tests) h
  where
    step : (b : Bool) → (list_any p tests ≡ true → 1 ≤ length (filter p tests)) → (b || list_any p tests) ≡ true → 1 ≤ length (cond b (test ∷ filter p tests) (filter p tests))
    step true later h = omega arith
    step false later h = later h

-- no test numbers groups where none does
pub none_groups : (tests : List TTest) → list_any (groups_by Away) tests ≡ false → grouping Away tests ≡ []
none_groups tests h = none_left (grouping Away tests) (none_kept (groups_by Away) tests h)
  where
    none_left : (kept : List TTest) → length kept ≡ 0 → kept ≡ []
    none_left [] h = refl
    none_left (test ∷ kept) h = absurd (omega (arith, h))

-- with an unequal test, and few that number groups, there is one
pub only_unequal : (tests : List TTest) → list_any is_unequal_test tests ≡ true → few_groups tests ≡ true → length (unequals tests) ≡ 1
only_unequal tests some few =
    let least : 1 ≤ length (unequals tests) = some_kept is_unequal_test tests some in
    omega (arith, least, one_unequal tests few)

pub none_unequal : (tests : List TTest) → list_any is_unequal_test tests ≡ false → length (unequals tests) ≡ 0
none_unequal tests none = none_kept is_unequal_test tests none

-- ---- what is kept for the aggregates of a script

turned_stays : (old new : Shelf) (turned : Option ℕ) (agg : TAgg) (rows : List Row) → Grows old new → IsTurnedAt old turned agg rows → IsTurnedAt new turned agg rows
turned_stays old new None agg rows grows at = at
turned_stays old new (Some number) agg rows grows at =
    (at.0, part_stays old new number (map attr_of (grouping Alike agg.tests)) (axes_of agg) rows grows at.1)

parts_stay : (old new : Shelf) (at : RangedAt) (agg : TAgg) (rows : List Row) → Grows old new → HasParts old at agg rows → HasParts new at agg rows
parts_stay old new (Parts away turned) agg rows grows parts = record {
  away = part_stays old new away (map attr_of (grouping Away agg.tests)) (axes_of agg) rows grows parts.away;
  turned = turned_stays old new turned agg rows grows parts.turned;
}
parts_stay old new (Others number) agg rows grows parts = record {
  counts = parts.counts;
  one = parts.one;
  alone = parts.alone;
  part = part_stays old new number (map attr_of (grouping Alike agg.tests)) (axes_of agg) rows grows parts.part;
}

pub kept_stays : (old new : Shelf) (kept : Option RangedAt) (agg : TAgg) (rows : List Row) → Grows old new → IsKept old kept agg rows → IsKept new kept agg rows
kept_stays old new None agg rows grows kept = tt
kept_stays old new (Some at) agg rows grows kept = record {
  total = kept.total;
  few = kept.few;
  boxed = kept.boxed;
  parts = parts_stay old new at agg rows grows kept.parts;
}

pub kept_more : (old new : Shelf) (script : TScript) (rows : List Row) (kept : List (Option RangedAt)) (number : ℕ) (one : Option RangedAt) → Grows old new
    → AreKept old kept number script rows → ((agg : TAgg) → slice_get script.aggs number ≡ Some agg → IsKept new one agg rows) → AreKept new (kept ++ one ∷ []) (number + 1) script rows
kept_more old new script rows kept number one grows before here = record {
  all = length_push kept one ∙ ap (λ n. n + 1) before.all;
  own = λ n agg below is. elim (cases_lt n number) [
    | inl lt ↦ subst (λ (o : Option RangedAt). IsKept new o agg rows) (sym (get_or_append_left kept (one ∷ []) None n (omega (arith, lt, before.all))))
        (kept_stays old new (slice_index_or kept n None) agg rows grows (before.own n agg lt is))
    | inr le ↦ let last : n ≡ number = omega (arith, below, le) in
        let here_is : slice_get script.aggs number ≡ Some agg = ap (slice_get script.aggs) (sym last) ∙ is in
        subst (λ (m : ℕ). IsKept new (slice_index_or (kept ++ one ∷ []) m None) agg rows) (sym last)
        (subst (λ (o : Option RangedAt). IsKept new o agg rows) (sym (get_or_push kept one None number before.all)) (here agg here_is))
  ];
}
