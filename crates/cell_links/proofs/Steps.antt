-- The arrays of groups without rows, and those after a call.
use Rattle.std.proofs.Common.{◌≡◌, ℕ, zero, suc, ◌+◌, ◌<◌, ◌≤◌, ⊎_elim, List, [], ◌∷◌, ◌++◌, length, get_or, set, map, refl, sym, ap, ◌∙◌, subst, arith}
use Rattle.std.specs.Prelude.{Contains, IfSome, Option, Some, None, replicate, slice_get}
use Rattle.std.specs.List.{range_with_len}
use Rattle.std.proofs.lemmas.Bool.{cases_lt}
use Rattle.std.proofs.lemmas.List.{get_or-replicate, get_or_past, length-replicate}
use Rattle.std.proofs.lemmas.List.FromFn.{get_or-range_with_len, length-range_with_len}
use Rattle.std.proofs.lemmas.Option.{none-some, get_or_from_slice_get, slice_get_within, slice_get_read, IfSome_then}
use Rattle.cell_links.specs.Links.{Links, IsLinks, rows_of, without, IsLinked, with_row, without_row, empty_links, IsGroupOf}
use Rattle.cell_links.specs.Circles.{lists_of, links_of, Path, Holds, IsStored, Ties}
use Rattle.cell_links.specs.declared.circles.Circles.{Circles}
use Rattle.cell_links.proofs.Paths.{row_at, first-Path, after-Path}
use Rattle.cell_links.proofs.Rows.{without-none, Contains-nil, Contains-split, All-from_Contains, Apart, none_apart}
use Rattle.cell_links.proofs.Storing.{row_below, group_below, same_group, lists-Holds, last_below, Holds-linked, Holds-cut, without-cut, before_below, after_below}

abbrev links : ℕ → List ℕ → Links
links rows next = record { rows = rows; lists = lists_of rows next }

-- arrays that hold some lists hold those that are read along the next nodes
stored : (rows : ℕ) (next previous : List ℕ) (groups : List (Option ℕ)) (lists : List (List ℕ)) → Holds rows next previous groups lists → Holds rows next previous groups (lists_of rows next)
stored rows next previous groups lists holds = subst (Holds rows next previous groups) (sym (lists-Holds rows next previous groups lists holds)) holds

-- what arrays hold, other arrays hold that are the same
abbrev pub Arrays : Type 0
Arrays = ℕ × List ℕ × List ℕ × List (Option ℕ)

abbrev pub arrays : ℕ → List ℕ → List ℕ → List (Option ℕ) → Arrays
arrays rows next previous groups = (rows, next, previous, groups)

held : (a b : Arrays) (lists : List (List ℕ)) → b ≡ a → Holds a.0 a.1 a.2 a.3 lists → Holds b.0 b.1 b.2 b.3 lists
held a b lists same holds = subst (λ (t : Arrays). Holds t.0 t.1 t.2 t.3 lists) (sym same) holds

-- what a call leaves
pub record Leaves (a : Arrays) (is : Links) : Type 0 where
  pub holds : Holds a.0 a.1 a.2 a.3 (lists_of a.0 a.1)
  pub links_are : links a.0 a.1 ≡ is

leaves : (a b : Arrays) (lists : List (List ℕ)) → b ≡ a → Holds a.0 a.1 a.2 a.3 lists → Leaves b record { rows = a.0; lists = lists }
leaves a b lists same holds =
    let now = held a b lists same holds in
    let read = lists-Holds b.0 b.1 b.2 b.3 lists now in
    record {
      holds = stored b.0 b.1 b.2 b.3 lists now;
      links_are = λ k. record { rows = (ap (λ (t : Arrays). t.0) same) k; lists = read k };
    }

module _ (rows : ℕ) (next previous : List ℕ) (groups : List (Option ℕ)) (holds : Holds rows next previous groups (lists_of rows next)) where
  -- ---- what every value meets

  pub IsLinks-stored : IsLinks (links rows next)
  IsLinks-stored = record {
    few = holds.few;
    few_groups = holds.few_groups;
    within = λ group. All-from_Contains (λ row. row < rows) (rows_of (links rows next) group) (row_below rows next previous groups (lists_of rows next) holds group);
    one_list = same_group rows next previous groups (lists_of rows next) holds;
    once = holds.once;
  }

  -- ---- a row is put into a list

  module _ (row group last : ℕ) (row_in : row < rows) (group_in : group < length (lists_of rows next)) (free : ¬ IsLinked (links rows next) row)
      (is : last ≡ get_or previous (rows + group) 0) where
    pub last_inside : last < length next
    last_inside = let below = last_below rows next previous groups (lists_of rows next) holds row group row_in group_in (λ other there. free (other, there)) in omega (arith, below, is, holds.next_full)

    pub leaves-link : (b : Arrays)
        → b ≡ arrays rows (set (set next last row) row (rows + group)) (set (set previous row last) (rows + group) row) (set groups row (Some group))
        → Leaves b (with_row (links rows next) row group)
    leaves-link b same =
        let first : ℕ = get_or previous (rows + group) 0 in
        let a : Arrays = arrays rows (set (set next first row) row (rows + group)) (set (set previous row first) (rows + group) row) (set groups row (Some group)) in
        let told : b ≡ a = same ∙ ap (λ (l : ℕ). arrays rows (set (set next l row) row (rows + group)) (set (set previous row l) (rows + group) row) (set groups row (Some group))) is in
        leaves a b (with_row (links rows next) row group).lists told
        (Holds-linked rows next previous groups (lists_of rows next) holds row group row_in group_in (λ other there. free (other, there)))

  -- ---- a row is taken out

  module _ (row : ℕ) (linked : IsLinked (links rows next) row) where
    abbrev of : ℕ
    of = linked.0

    pub row_inside : row < rows
    row_inside = row_below rows next previous groups (lists_of rows next) holds of row linked.1

    pub before_inside : get_or previous row 0 < length next
    before_inside = let s = Contains-split (rows_of (links rows next) of) row linked.1 in
        let below = before_below rows next previous groups (lists_of rows next) holds row of s.0 s.1 s.2 in omega (arith, below, holds.next_full)

    pub after_inside : get_or next row 0 < length previous
    after_inside = let s = Contains-split (rows_of (links rows next) of) row linked.1 in
        let below = after_below rows next previous groups (lists_of rows next) holds row of s.0 s.1 s.2 in omega (arith, below, holds.previous_full)

    pub leaves-unlink : (before after : ℕ) (b : Arrays) → before ≡ get_or previous row 0 → after ≡ get_or next row 0
        → b ≡ arrays rows (set next before after) (set previous after before) (set groups row None)
        → Leaves b (without_row (links rows next) row)
    leaves-unlink before after b before_is after_is same =
        let s = Contains-split (rows_of (links rows next) of) row linked.1 in
        let old : ℕ × ℕ = (get_or previous row 0, get_or next row 0) in
        let both : ◌≡◌ {A = ℕ × ℕ} (before, after) old = λ k. (before_is k, after_is k) in
        let a : Arrays = arrays rows (set next old.0 old.1) (set previous old.1 old.0) (set groups row None) in
        let told : b ≡ a = same ∙ ap (λ (t : ℕ × ℕ). arrays rows (set next t.0 t.1) (set previous t.1 t.0) (set groups row None)) both in
        subst (λ (l : List (List ℕ)). Leaves b record { rows = rows; lists = l }) (sym (without-cut rows next previous groups (lists_of rows next) holds row of s.0 s.1 s.2))
        (leaves a b (set (lists_of rows next) of (s.0 ++ s.1)) told (Holds-cut rows next previous groups (lists_of rows next) holds row of s.0 s.1 s.2))

    -- ---- what is read

    -- the place of the row in its list
    pub place_of : (place : ℕ) × (slice_get (rows_of (links rows next) of) place ≡ Some row)
    place_of = let there = linked.1 in
        (there.0, slice_get_read (rows_of (links rows next) of) (length (rows_of (links rows next) of)) there.0 row refl there.1 (sym there.2))

    pub after-stored : (group place : ℕ) → slice_get (rows_of (links rows next) group) place ≡ Some row
        → row_at (get_or next row 0) rows ≡ slice_get (rows_of (links rows next) group) (place + 1)
    after-stored group place at =
        let there : Contains (rows_of (links rows next) group) row = (place, slice_get_within (rows_of (links rows next) group) place row at, get_or_from_slice_get (rows_of (links rows next) group) place row row at) in
        after-Path rows next previous (rows + group) (rows_of (links rows next) group) (rows + group) place row
        (All-from_Contains (λ x. x < rows) (rows_of (links rows next) group) (row_below rows next previous groups (lists_of rows next) holds group)) (omega arith) at
        (holds.circles group (group_below rows next previous groups (lists_of rows next) holds group row there))

  at_contains : (xs : List ℕ) (place : ℕ) (o : Option ℕ) → o ≡ slice_get xs place → IfSome o (Contains xs)
  at_contains xs place None is = tt
  at_contains xs place (Some x) is = (place, slice_get_within xs place x (sym is), get_or_from_slice_get xs place x x (sym is))

  -- a row that stands in a list is linked
  pub linked_at : (group place : ℕ) (o : Option ℕ) → o ≡ slice_get (rows_of (links rows next) group) place → IfSome o (IsLinked (links rows next))
  linked_at group place o is = IfSome_then o (at_contains (rows_of (links rows next) group) place o is) (λ x there. (group, there))

  pub first-stored : (group : ℕ) → group < length (lists_of rows next) → row_at (get_or next (rows + group) 0) rows ≡ slice_get (rows_of (links rows next) group) 0
  first-stored group inside =
      first-Path rows next previous (rows + group) (rows_of (links rows next) group) (rows + group)
      (All-from_Contains (λ x. x < rows) (rows_of (links rows next) group) (row_below rows next previous groups (lists_of rows next) holds group)) (omega arith) (holds.circles group inside)

  group_cases : (row : ℕ) (group : Option ℕ) → get_or groups row None ≡ group → IsGroupOf (links rows next) row group
  group_cases row (Some group) is = holds.in_group group row is
  group_cases row None is = λ linked. none-some linked.0 (sym is ∙ holds.grouped linked.0 row linked.1)

  group_inside : (row : ℕ) (group : Option ℕ) → IsGroupOf (links rows next) row group → IfSome group (λ of. of < length (lists_of rows next))
  group_inside row (Some group) is = group_below rows next previous groups (lists_of rows next) holds group row is
  group_inside row None is = tt

  pub group_below-stored : (row : ℕ) → IfSome (get_or groups row None) (λ of. of < length (lists_of rows next))
  group_below-stored row = group_inside row (get_or groups row None) (group_cases row (get_or groups row None) refl)

  pub group-stored : (row : ℕ) → IsGroupOf (links rows next) row (get_or groups row None)
  group-stored row = group_cases row (get_or groups row None) refl

-- ---- the same in the words of contracts

pub links_stored : (circles : Circles) → IsStored circles → IsLinks (links_of circles)
links_stored circles is = IsLinks-stored circles.rows circles.next.items circles.previous.items circles.groups.items is

at_without : (lists : List (List ℕ)) (row group : ℕ) → get_or (map (without row) lists) group [] ≡ without row (get_or lists group [])
at_without [] row group = refl
at_without (rows ∷ lists) row zero = refl
at_without (rows ∷ lists) row (suc group) = at_without lists row group

-- the lists that a row is not in stay without it
pub others_stay : (is : Links) (row group : ℕ) → ¬ Contains (rows_of is group) row → rows_of (without_row is row) group ≡ rows_of is group
others_stay is row group none = at_without is.lists row group ∙ without-none row (rows_of is group) (λ x there same. none (subst (Contains (rows_of is group)) same there))

-- ---- the same of the arrays as the code ties their nodes

pub link_ties : (old middle new : Circles) (row group last : ℕ) → IsStored old → row < old.rows → group < length (links_of old).lists → ¬ IsLinked (links_of old) row
    → last ≡ get_or old.previous.items (old.rows + group) 0 → Ties old middle last row → Ties middle new row (old.rows + group)
    → Leaves (arrays new.rows new.next.items new.previous.items (set new.groups.items row (Some group))) (with_row (links_of old) row group)
link_ties old middle new row group last is row_in group_in free read first second =
    let node : ℕ = old.rows + group in
    let b : Arrays = arrays new.rows new.next.items new.previous.items (set new.groups.items row (Some group)) in
    let same : b ≡ arrays old.rows (set (set old.next.items last row) row node) (set (set old.previous.items row last) node row) (set old.groups.items row (Some group))
    = λ k. (
      (second.rows ∙ first.rows) k,
      (second.next ∙ ap (λ (l : List ℕ). set l row node) first.next) k,
      (second.previous ∙ ap (λ (l : List ℕ). set l node row) first.previous) k,
      set ((second.groups ∙ first.groups) k) row (Some group),
    ) in
    leaves-link old.rows old.next.items old.previous.items old.groups.items is row group last row_in group_in free read b same

pub unlink_ties : (old new : Circles) (row before after : ℕ) → IsStored old → IsLinked (links_of old) row
    → before ≡ get_or old.previous.items row 0 → after ≡ get_or old.next.items row 0 → Ties old new before after
    → Leaves (arrays new.rows new.next.items new.previous.items (set new.groups.items row None)) (without_row (links_of old) row)
unlink_ties old new row before after is linked before_is after_is tie =
    let b : Arrays = arrays new.rows new.next.items new.previous.items (set new.groups.items row None) in
    let same : b ≡ arrays old.rows (set old.next.items before after) (set old.previous.items after before) (set old.groups.items row None)
    = λ k. (tie.rows k, tie.next k, tie.previous k, set (tie.groups k) row None) in
    leaves-unlink old.rows old.next.items old.previous.items old.groups.items is row linked before after b before_is after_is same

-- ---- groups without rows

alone : (nodes node : ℕ) → node < nodes → get_or (range_with_len 0 nodes) node 0 ≡ node
alone nodes node inside = get_or-range_with_len 0 nodes node 0 inside ∙ omega arith

abbrev no_lists : ℕ → List (List ℕ)
no_lists groups = replicate groups []

no_rows : (groups group : ℕ) → get_or (no_lists groups) group [] ≡ []
no_rows groups group =
    ⊎_elim (λ (inside : group < groups). get_or-replicate groups group [] [] inside)
    (λ (past : groups ≤ group). get_or_past (no_lists groups) group [] (omega (arith, past, length-replicate {A = List ℕ} groups []))) (cases_lt group groups)

abbrev ungrouped : ℕ → List (Option ℕ)
ungrouped rows = replicate rows None

no_group : (rows row group : ℕ) → get_or (ungrouped rows) row None ≡ Some group → ⊥
no_group rows row group is =
    none-some group (sym (⊎_elim (λ (inside : row < rows). get_or-replicate rows row None None inside)
    (λ (past : rows ≤ row). get_or_past (ungrouped rows) row None (omega (arith, past, length-replicate {A = Option ℕ} rows None))) (cases_lt row rows)) ∙ is)

Holds-empty : (rows groups : ℕ) → rows ≤ 65536 → groups ≤ 65536
    → Holds rows (range_with_len 0 (rows + groups)) (range_with_len 0 (rows + groups)) (ungrouped rows) (no_lists groups)
Holds-empty rows groups few few_groups =
    let count : length (no_lists groups) ≡ groups = length-replicate {A = List ℕ} groups [] in
    record {
      few = few;
      few_groups = omega (arith, count, few_groups);
      next_full = omega (arith, count, length-range_with_len 0 (rows + groups));
      previous_full = omega (arith, count, length-range_with_len 0 (rows + groups));
      groups_full = length-replicate {A = Option ℕ} rows None;
      circles = λ group inside. let below : rows + group < rows + groups = omega (arith, inside, count) in
          subst (λ (l : List ℕ). Path (range_with_len 0 (rows + groups)) (range_with_len 0 (rows + groups)) (rows + group) l (rows + group)) (sym (no_rows groups group))
          (alone (rows + groups) (rows + group) below, alone (rows + groups) (rows + group) below);
      in_group = λ group row is. absurd (no_group rows row group is);
      grouped = λ group row there. absurd (Contains-nil row (subst (λ (l : List ℕ). Contains l row) (no_rows groups group) there));
      once = λ group. subst Apart (sym (no_rows groups group)) none_apart;
    }

pub leaves-new : (rows groups : ℕ) (b : Arrays) → rows ≤ 65536 → groups ≤ 65536
    → b ≡ arrays rows (range_with_len 0 (rows + groups)) (range_with_len 0 (rows + groups)) (ungrouped rows) → Leaves b (empty_links rows groups)
leaves-new rows groups b few few_groups same =
    leaves (arrays rows (range_with_len 0 (rows + groups)) (range_with_len 0 (rows + groups)) (ungrouped rows)) b (no_lists groups) same (Holds-empty rows groups few few_groups)
