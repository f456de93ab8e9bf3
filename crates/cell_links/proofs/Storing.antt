-- What the arrays hold after a row is put into a list, and after one is taken out.
use Rattle.std.proofs.Common.{◌≡◌, ◌≢◌, ℕ, ◌+◌, ◌<◌, ◌≤◌, ◌⊎◌, inl, inr, ⊎_elim, List, [], ◌∷◌, ◌++◌, length, get_or, drop, set, map, refl, sym, ap, ◌∙◌, subst, arith}
use Rattle.std.specs.Prelude.{Contains, Option, Some, None}
use Rattle.std.proofs.Math.ListN.{length-set}
use Rattle.std.proofs.lemmas.Bool.{cases_eq, cases_lt}
use Rattle.std.proofs.lemmas.List.{append-nil, get_or-set_same, get_or-set_other, get_or-map, get_or-drop, get_or_default, get_or_past, same_lists, length-map, length-drop}
use Rattle.std.proofs.lemmas.List.Elements.{Contains-get_or, Contains-append_left, Contains-append_right, Contains-append_cases, Contains-push, Contains-push_cases}
use Rattle.std.proofs.lemmas.List.Quantifiers.{all_pairs_push}
use Rattle.std.proofs.lemmas.Option.{none-some, same_Some}
use Rattle.cell_links.specs.Links.{without}
use Rattle.cell_links.specs.Circles.{walk, lists_of, Path, Holds}
use Rattle.cell_links.proofs.Paths.{Path-join, Path-front, Path-back, Path-first, Path-last, Path-same, Path-turned, walk-Path}
use Rattle.cell_links.proofs.Rows.{Contains-head, Contains-tail, Contains-nil, Contains-cons_cases, Contains-without, Contains-others, All-from_Contains, Apart, Apart-head, Apart-tail, Apart-cons, Apart-parts, Apart-front, Apart-back, Apart-without, length-Apart, set_cases, map-without}

module _ (rows : ℕ) (next previous : List ℕ) (groups : List (Option ℕ)) (lists : List (List ℕ)) (holds : Holds rows next previous groups lists) where
  abbrev rows_at : ℕ → List ℕ
  rows_at group = get_or lists group []

  -- ---- what the arrays say

  pub row_below : (group row : ℕ) → Contains (rows_at group) row → row < rows
  row_below group row there =
      ⊎_elim (λ (inside : row < rows). inside)
      (λ (past : rows ≤ row). absurd (none-some group (sym (get_or_past groups row None (omega (arith, past, holds.groups_full))) ∙ holds.grouped group row there))) (cases_lt row rows)

  pub group_below : (group row : ℕ) → Contains (rows_at group) row → group < length lists
  group_below group row there =
      ⊎_elim (λ (inside : group < length lists). inside)
      (λ (past : length lists ≤ group). absurd (Contains-nil row (subst (λ (l : List ℕ). Contains l row) (get_or_past lists group [] past) there))) (cases_lt group (length lists))

  -- a row is in one list
  pub same_group : (group other row : ℕ) → Contains (rows_at group) row → Contains (rows_at other) row → group ≡ other
  same_group group other row here there = same_Some group other (sym (holds.grouped group row here) ∙ holds.grouped other row there)

  -- the node of the group and its rows
  pub circle_apart : (group : ℕ) → Apart ((rows + group) ∷ rows_at group)
  circle_apart group = Apart-cons (rows + group) (rows_at group) (λ y there same. let below = row_below group y there in omega (arith, below, same)) (holds.once group)

  -- the lists are those that are read along the next nodes
  pub lists-Holds : lists_of rows next ≡ lists
  lists-Holds =
      let count : length (map (walk rows rows next) (drop rows next)) ≡ length lists = omega (arith, length-map (drop rows next) (walk rows rows next), length-drop rows next, holds.next_full) in
      same_lists (map (walk rows rows next) (drop rows next)) lists count (λ k d below.
      let inside : k < length lists = omega (arith, below, count) in
      get_or-map (walk rows rows next) (drop rows next) k 0 d (omega (arith, inside, length-drop rows next, holds.next_full))
      ∙ ap (walk rows rows next) (get_or-drop rows next k 0)
      ∙ walk-Path rows rows next previous (rows + k) (rows_at k) (rows + k) (All-from_Contains (λ x. x < rows) (rows_at k) (row_below k)) (omega arith)
      (length-Apart (rows_at k) rows (holds.once k) (row_below k)) (holds.circles k inside)
      ∙ get_or_default lists k [] d inside)

  -- ---- a row is put behind the others of a group

  module _ (row group : ℕ) (row_in : row < rows) (group_in : group < length lists) (free : (other : ℕ) → Contains (rows_at other) row → ⊥) where
    abbrev head : ℕ
    head = rows + group

    abbrev last : ℕ
    last = get_or previous head 0

    abbrev linked_next : List ℕ
    linked_next = set (set next last row) row head

    abbrev linked_previous : List ℕ
    linked_previous = set (set previous row last) head row

    abbrev longer : List ℕ
    longer = rows_at group ++ row ∷ []

    last_there : Contains (head ∷ rows_at group) last
    last_there = Path-last next previous head (rows_at group) head (holds.circles group group_in)

    last_cases : (head ≡ last) ⊎ Contains (rows_at group) last
    last_cases = Contains-cons_cases head (rows_at group) last last_there

    pub last_below : last < rows + length lists
    last_below = ⊎_elim (λ (same : head ≡ last). omega (arith, same, group_in)) (λ (there : Contains (rows_at group) last). let below = row_below group last there in omega (arith, below)) last_cases

    -- the new row is no node of a circle
    row_apart : (other x : ℕ) → Contains ((rows + other) ∷ rows_at other) x → x ≢ row
    row_apart other x there same =
        ⊎_elim (λ (node : rows + other ≡ x). omega (arith, node, same, row_in))
        (λ (in' : Contains (rows_at other) x). free other (subst (Contains (rows_at other)) same in')) (Contains-cons_cases (rows + other) (rows_at other) x there)

    -- the last one and the group's node are none of another circle
    last_apart : (other x : ℕ) → other ≢ group → Contains ((rows + other) ∷ rows_at other) x → x ≢ last
    last_apart other x away there same =
        ⊎_elim
        (λ (node : rows + other ≡ x).
        ⊎_elim (λ (is : head ≡ last). away (omega (arith, node, same, is)))
        (λ (in' : Contains (rows_at group) last). let below = row_below group last in' in omega (arith, node, same, below)) last_cases)
        (λ (in' : Contains (rows_at other) x).
        ⊎_elim (λ (is : head ≡ last). let below = row_below other x in' in omega (arith, same, is, below))
        (λ (here : Contains (rows_at group) last). away (same_group other group last (subst (Contains (rows_at other)) same in') here)) last_cases)
        (Contains-cons_cases (rows + other) (rows_at other) x there)

    next_kept : (x : ℕ) → x ≢ last → x ≢ row → get_or linked_next x 0 ≡ get_or next x 0
    next_kept x first second = get_or-set_other (set next last row) row x head 0 second ∙ get_or-set_other next last x row 0 first

    previous_kept : (x : ℕ) → x ≢ row → x ≢ head → get_or linked_previous x 0 ≡ get_or previous x 0
    previous_kept x first second = get_or-set_other (set previous row last) head x row 0 second ∙ get_or-set_other previous row x last 0 first

    circle_linked : Path linked_next linked_previous head longer head
    circle_linked =
        let below : row < length (set next last row) = omega (arith, row_in, holds.next_full, length-set next last row) in
        let inside : head < length (set previous row last) = omega (arith, group_in, holds.previous_full, length-set previous row last) in
        let last_next : get_or linked_next last 0 ≡ row = get_or-set_other (set next last row) row last head 0 (row_apart group last last_there)
        ∙ get_or-set_same next last row 0 (omega (arith, last_below, holds.next_full)) in
        let row_previous : get_or linked_previous row 0 ≡ last = get_or-set_other (set previous row last) head row row 0 (omega (arith, row_in))
        ∙ get_or-set_same previous row last 0 (omega (arith, row_in, holds.previous_full)) in
        Path-join linked_next linked_previous head (rows_at group) row [] head
        (Path-turned next previous linked_next linked_previous head (rows_at group) head row (circle_apart group)
        (λ x there away. next_kept x away (row_apart group x there))
        (All-from_Contains (λ x. get_or linked_previous x 0 ≡ get_or previous x 0) (rows_at group) (λ x there.
        previous_kept x (row_apart group x (Contains-tail head (rows_at group) x there)) (let lower = row_below group x there in omega (arith, lower))))
        last_next row_previous (holds.circles group group_in))
        (get_or-set_same (set next last row) row head 0 below, get_or-set_same (set previous row last) head row 0 inside)

    circle_other : (other : ℕ) → other ≢ group → other < length lists → Path linked_next linked_previous (rows + other) (rows_at other) (rows + other)
    circle_other other away inside =
        let node = Contains-head (rows + other) (rows_at other) in
        Path-same next previous linked_next linked_previous (rows + other) (rows_at other) (rows + other)
        (next_kept (rows + other) (last_apart other (rows + other) away node) (row_apart other (rows + other) node))
        (All-from_Contains (λ x. (get_or linked_next x 0 ≡ get_or next x 0) × (get_or linked_previous x 0 ≡ get_or previous x 0)) (rows_at other) (λ x there.
        let among = Contains-tail (rows + other) (rows_at other) x there in
        let lower = row_below other x there in (
          next_kept x (last_apart other x away among) (row_apart other x among),
          previous_kept x (row_apart other x among) (omega (arith, lower)),
        )))
        (previous_kept (rows + other) (row_apart other (rows + other) node) (omega (arith, away)))
        (holds.circles other inside)

    in_group_linked : (other x : ℕ) → get_or (set groups row (Some group)) x None ≡ Some other → Contains (get_or (set lists group longer) other []) x
    in_group_linked other x is =
        ⊎_elim
        (λ (same : x ≡ row).
        let here : group ≡ other =
        same_Some group other (sym (get_or-set_same groups row (Some group) None (omega (arith, row_in, holds.groups_full))) ∙ ap (λ (y : ℕ). get_or (set groups row (Some group)) y None) (sym same) ∙ is) in
        subst (λ (o : ℕ). Contains (get_or (set lists group longer) o []) x) here
        (subst (λ (l : List ℕ). Contains l x) (sym (get_or-set_same lists group longer [] group_in))
        (subst (Contains longer) (sym same) (Contains-push (rows_at group) row))))
        (λ (away : x ≢ row).
        let old : Contains (rows_at other) x = holds.in_group other x (sym (get_or-set_other groups row x (Some group) None away) ∙ is) in
        set_cases lists group longer (λ (o : ℕ) (l : List ℕ). Contains (rows_at o) x → Contains l x) group_in
        (Contains-append_left (rows_at group) (row ∷ []) x) (λ o apart there. there) other old)
        (cases_eq x row)

    grouped_linked : (other x : ℕ) → Contains (get_or (set lists group longer) other []) x → get_or (set groups row (Some group)) x None ≡ Some other
    grouped_linked other x there =
        let old : (o : ℕ) → Contains (rows_at o) x → get_or (set groups row (Some group)) x None ≡ Some o =
        λ o in'. get_or-set_other groups row x (Some group) None (row_apart o x (Contains-tail (rows + o) (rows_at o) x in')) ∙ holds.grouped o x in' in
        set_cases lists group longer (λ (o : ℕ) (l : List ℕ). Contains l x → get_or (set groups row (Some group)) x None ≡ Some o) group_in
        (λ in'.
        ⊎_elim (old group)
        (λ (same : row ≡ x).
        ap (λ (y : ℕ). get_or (set groups row (Some group)) y None) (sym same) ∙ get_or-set_same groups row (Some group) None (omega (arith, row_in, holds.groups_full)))
        (Contains-push_cases (rows_at group) row x in'))
        (λ o apart in'. old o in') other there

    pub Holds-linked : Holds rows linked_next linked_previous (set groups row (Some group)) (set lists group longer)
    Holds-linked =
        let count = length-set lists group longer in
        record {
          few = holds.few;
          few_groups = omega (arith, count, holds.few_groups);
          next_full = omega (arith, count, holds.next_full, length-set (set next last row) row head, length-set next last row);
          previous_full = omega (arith, count, holds.previous_full, length-set (set previous row last) head row, length-set previous row last);
          groups_full = length-set groups row (Some group) ∙ holds.groups_full;
          circles = λ other inside. let within : other < length lists = omega (arith, inside, count) in
              set_cases lists group longer (λ (o : ℕ) (l : List ℕ). o < length lists → Path linked_next linked_previous (rows + o) l (rows + o)) group_in
              (λ _. circle_linked) circle_other other within;
          in_group = in_group_linked;
          grouped = grouped_linked;
          once = set_cases lists group longer (λ (o : ℕ) (l : List ℕ). Apart l) group_in
              (all_pairs_push (λ x y. x ≢ y) (rows_at group) row (holds.once group)
              (λ k d inside. row_apart group (get_or (rows_at group) k d) (Contains-tail head (rows_at group) (get_or (rows_at group) k d) (Contains-get_or (rows_at group) k d inside))))
              (λ other away. holds.once other);
        }

  -- ---- a row is taken out of its list

  module _ (row group : ℕ) (front back : List ℕ) (is : rows_at group ≡ front ++ row ∷ back) where
    abbrev before : ℕ
    before = get_or previous row 0

    abbrev after : ℕ
    after = get_or next row 0

    abbrev node : ℕ
    node = rows + group

    abbrev cut_next : List ℕ
    cut_next = set next before after

    abbrev cut_previous : List ℕ
    cut_previous = set previous after before

    there : (x : ℕ) → Contains (front ++ row ∷ back) x → Contains (rows_at group) x
    there x in' = subst (λ (l : List ℕ). Contains l x) (sym is) in'

    row_there : Contains (rows_at group) row
    row_there = there row (Contains-append_right front (row ∷ back) row (Contains-head row back))

    group_in : group < length lists
    group_in = group_below group row row_there

    row_in : row < rows
    row_in = row_below group row row_there

    circle : Path next previous node (front ++ row ∷ back) node
    circle = subst (λ (l : List ℕ). Path next previous node l node) is (holds.circles group group_in)

    apart : Apart (node ∷ front ++ row ∷ back)
    apart = subst (λ (l : List ℕ). Apart (node ∷ l)) is (circle_apart group)

    rows_apart : Apart (front ++ row ∷ back)
    rows_apart = Apart-tail node (front ++ row ∷ back) apart

    front_path : Path next previous node front row
    front_path = Path-front next previous node front row back node circle

    back_path : Path next previous row back node
    back_path = Path-back next previous node front row back node circle

    before_there : Contains (node ∷ front) before
    before_there = Path-last next previous node front row front_path

    after_there : Contains (back ++ node ∷ []) after
    after_there = Path-first next previous row back node back_path

    -- a node of the group, or one of its rows
    abbrev nodes : ℕ → Type 0
    nodes x = (node ≡ x) ⊎ Contains (rows_at group) x

    before_among : nodes before
    before_among = ⊎_elim inl (λ (in' : Contains front before). inr (there before (Contains-append_left front (row ∷ back) before in'))) (Contains-cons_cases node front before before_there)

    after_among : nodes after
    after_among =
        ⊎_elim (λ (in' : Contains back after). inr (there after (Contains-append_right front (row ∷ back) after (Contains-tail row back after in'))))
        (λ (same : node ≡ after). inl same) (Contains-push_cases back node after after_there)

    among_below : (x : ℕ) → nodes x → x < rows + length lists
    among_below x among =
        ⊎_elim (λ (same : node ≡ x). let inside = group_in in omega (arith, same, inside)) (λ (in' : Contains (rows_at group) x). let below = row_below group x in' in omega (arith, below)) among

    pub before_below : before < rows + length lists
    before_below = among_below before before_among

    pub after_below : after < rows + length lists
    after_below = among_below after after_among

    next_other : (x : ℕ) → x ≢ before → get_or cut_next x 0 ≡ get_or next x 0
    next_other x away = get_or-set_other next before x after 0 away

    previous_other : (x : ℕ) → x ≢ after → get_or cut_previous x 0 ≡ get_or previous x 0
    previous_other x away = get_or-set_other previous after x before 0 away

    next_before : get_or cut_next before 0 ≡ after
    next_before = get_or-set_same next before after 0 (omega (arith, before_below, holds.next_full))

    previous_after : get_or cut_previous after 0 ≡ before
    previous_after = get_or-set_same previous after before 0 (omega (arith, after_below, holds.previous_full))

    -- the rows in front are none of those behind
    front_back : (x y : ℕ) → Contains (node ∷ front) x → Contains (row ∷ back) y → x ≢ y
    front_back x y first second = Apart-parts (node ∷ front) (row ∷ back) x y apart first second

    not_after : (x : ℕ) → Contains front x → x ≢ after
    not_after x in' same =
        ⊎_elim
        (λ (behind : Contains back after). front_back x after (Contains-tail node front x in') (Contains-tail row back after behind) same)
        (λ (end : node ≡ after). let below = row_below group x (there x (Contains-append_left front (row ∷ back) x in')) in omega (arith, below, same, end)) (Contains-push_cases back node after after_there)

    front_turned : Path cut_next cut_previous node front after
    front_turned =
        Path-turned next previous cut_next cut_previous node front row after (Apart-front (node ∷ front) (row ∷ back) apart)
        (λ x in' away. next_other x away) (All-from_Contains (λ x. get_or cut_previous x 0 ≡ get_or previous x 0) front (λ x in'. previous_other x (not_after x in')))
        next_before previous_after front_path

    circle_cut : (rest : List ℕ) → rest ≡ back → Path cut_next cut_previous node (front ++ rest) node
    circle_cut [] same =
        let end : after ≡ node = (subst (λ (l : List ℕ). Path next previous row l node) (sym same) back_path).0 in
        subst (λ (l : List ℕ). Path cut_next cut_previous node l node) (sym (append-nil front)) (subst (Path cut_next cut_previous node front) end front_turned)
    circle_cut (x ∷ rest) same =
        let path : Path next previous row (x ∷ rest) node = subst (λ (l : List ℕ). Path next previous row l node) (sym same) back_path in
        let behind : (y : ℕ) → Contains (x ∷ rest) y → Contains back y = λ y in'. subst (λ (l : List ℕ). Contains l y) same in' in
        let not_before : (y : ℕ) → Contains (x ∷ rest) y → y ≢ before = λ y in' is'. front_back before y before_there (Contains-tail row back y (behind y in')) (sym is') in
        let below : (y : ℕ) → Contains (x ∷ rest) y → y < rows = λ y in'. row_below group y (there y (Contains-append_right front (row ∷ back) y (Contains-tail row back y (behind y in')))) in
        let rest_apart : Apart (x ∷ rest) = subst Apart (sym same) (Apart-tail row back (Apart-back front (row ∷ back) rows_apart)) in
        let lower = below x (Contains-head x rest) in
        Path-join cut_next cut_previous node front x rest node (subst (Path cut_next cut_previous node front) path.0 front_turned)
        (Path-same next previous cut_next cut_previous x rest node (next_other x (not_before x (Contains-head x rest)))
        (All-from_Contains (λ y. (get_or cut_next y 0 ≡ get_or next y 0) × (get_or cut_previous y 0 ≡ get_or previous y 0)) rest (λ y in'. (
          next_other y (not_before y (Contains-tail x rest y in')),
          previous_other y (λ same'. Apart-head x rest y rest_apart in' (sym (same' ∙ path.0))),
        )))
        (previous_other node (λ same'. let end = path.0 in omega (arith, same', end, lower))) path.2)

    -- another circle is left alone
    other_apart : (other x y : ℕ) → other ≢ group → Contains ((rows + other) ∷ rows_at other) x → nodes y → x ≢ y
    other_apart other x y away in' among same =
        ⊎_elim
        (λ (node' : rows + other ≡ x).
        ⊎_elim (λ (is' : node ≡ y). away (omega (arith, node', same, is'))) (λ (here : Contains (rows_at group) y). let below = row_below group y here in omega (arith, node', same, below)) among)
        (λ (within : Contains (rows_at other) x).
        ⊎_elim (λ (is' : node ≡ y). let below = row_below other x within in omega (arith, same, is', below))
        (λ (here : Contains (rows_at group) y). away (same_group other group y (subst (Contains (rows_at other)) same within) here)) among)
        (Contains-cons_cases (rows + other) (rows_at other) x in')

    circle_left : (other : ℕ) → other ≢ group → other < length lists → Path cut_next cut_previous (rows + other) (rows_at other) (rows + other)
    circle_left other away inside =
        let first = Contains-head (rows + other) (rows_at other) in
        Path-same next previous cut_next cut_previous (rows + other) (rows_at other) (rows + other)
        (next_other (rows + other) (other_apart other (rows + other) before away first before_among))
        (All-from_Contains (λ x. (get_or cut_next x 0 ≡ get_or next x 0) × (get_or cut_previous x 0 ≡ get_or previous x 0)) (rows_at other) (λ x in'.
        let among = Contains-tail (rows + other) (rows_at other) x in' in (
          next_other x (other_apart other x before away among before_among),
          previous_other x (other_apart other x after away among after_among),
        )))
        (previous_other (rows + other) (other_apart other (rows + other) after away first after_among))
        (holds.circles other inside)

    in_group_cut : (other x : ℕ) → get_or (set groups row None) x None ≡ Some other → Contains (get_or (set lists group (front ++ back)) other []) x
    in_group_cut other x told =
        ⊎_elim
        (λ (same : x ≡ row).
        absurd (none-some other (sym (get_or-set_same groups row None None (omega (arith, row_in, holds.groups_full))) ∙ ap (λ (y : ℕ). get_or (set groups row None) y None) (sym same) ∙ told)))
        (λ (away : x ≢ row).
        let old : Contains (rows_at other) x = holds.in_group other x (sym (get_or-set_other groups row x None None away) ∙ told) in
        set_cases lists group (front ++ back) (λ (o : ℕ) (l : List ℕ). Contains (rows_at o) x → Contains l x) group_in
        (λ in'. Contains-others front row back x (λ same. away (sym same)) (subst (λ (l : List ℕ). Contains l x) is in')) (λ o apart' in'. in') other old)
        (cases_eq x row)

    grouped_cut : (other x : ℕ) → Contains (get_or (set lists group (front ++ back)) other []) x → get_or (set groups row None) x None ≡ Some other
    grouped_cut other x in' =
        let old : (o : ℕ) → x ≢ row → Contains (rows_at o) x → get_or (set groups row None) x None ≡ Some o =
        λ o away within. get_or-set_other groups row x None None away ∙ holds.grouped o x within in
        set_cases lists group (front ++ back) (λ (o : ℕ) (l : List ℕ). Contains l x → get_or (set groups row None) x None ≡ Some o) group_in
        (λ within. old group (gone x within) (there x (Contains-without front row back x within)))
        (λ o away within. old o (λ same. away (same_group o group row (subst (Contains (rows_at o)) same within) row_there)) within) other in'
      where
        gone : (x : ℕ) → Contains (front ++ back) x → x ≢ row
        gone x within same =
            ⊎_elim (λ (in' : Contains front x). front_back x row (Contains-tail node front x in') (Contains-head row back) same)
            (λ (in' : Contains back x). Apart-head row back x (Apart-back front (row ∷ back) rows_apart) in' (sym same)) (Contains-append_cases front back x within)

    pub Holds-cut : Holds rows cut_next cut_previous (set groups row None) (set lists group (front ++ back))
    Holds-cut =
        let count = length-set lists group (front ++ back) in
        record {
          few = holds.few;
          few_groups = omega (arith, count, holds.few_groups);
          next_full = omega (arith, count, holds.next_full, length-set next before after);
          previous_full = omega (arith, count, holds.previous_full, length-set previous after before);
          groups_full = length-set groups row None ∙ holds.groups_full;
          circles = λ other inside. let within : other < length lists = omega (arith, inside, count) in
              set_cases lists group (front ++ back) (λ (o : ℕ) (l : List ℕ). o < length lists → Path cut_next cut_previous (rows + o) l (rows + o)) group_in
              (λ _. circle_cut back refl) circle_left other within;
          in_group = in_group_cut;
          grouped = grouped_cut;
          once = set_cases lists group (front ++ back) (λ (o : ℕ) (l : List ℕ). Apart l) group_in (Apart-without front row back rows_apart) (λ other away. holds.once other);
        }

    -- all lists without the row
    pub without-cut : map (without row) lists ≡ set lists group (front ++ back)
    without-cut =
        map-without lists group row front back group_in is rows_apart (λ other x away in' same. away (same_group other group row (subst (Contains (rows_at other)) same in') row_there))
