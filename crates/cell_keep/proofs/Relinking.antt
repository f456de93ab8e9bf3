-- What is left of the lists where one row is put into another list.
use Rattle.std.proofs.Common.{◌≡◌, ◌≢◌, ◌∙◌, ◌<◌, ℕ, zero, suc, true, not, eqb, eq-eqb, List, [], ◌∷◌, ◌++◌, map, replicate, length, get_or, refl, sym, ap, subst, inl, inr, ⊎_elim, ◌⊎◌}
use Rattle.std.specs.Prelude.{Contains}
use Rattle.std.proofs.lemmas.Bool.{cases_eq, ne_eqb}
use Rattle.std.proofs.lemmas.List.{get_or-set_same, get_or-set_other}
use Rattle.std.proofs.lemmas.List.Elements.{Contains-append_left, Contains-append_right, Contains-append_cases}
use Rattle.cell_links.specs.Links.{empty_links, IsLinked, Links, rows_of, with_row, without, without_row}
use Rattle.cell_links.proofs.Rows.{Contains-head, Contains-cons_cases, Contains-nil}
use Rattle.cell_keep.proofs.Members.{Contains-filter, Contains-from_filter}

-- ---- without a row

without-lists : (row : ℕ) (lists : List (List ℕ)) (list : ℕ) → get_or (map (without row) lists) list [] ≡ without row (get_or lists list [])
without-lists row [] list = refl
without-lists row (rows ∷ lists) zero = refl
without-lists row (rows ∷ lists) (suc list) = without-lists row lists list

module _ (links : Links) (row : ℕ) where
  pub without-of : (list : ℕ) → rows_of (without_row links row) list ≡ without row (rows_of links list)
  without-of list = without-lists row links.lists list

  other_passes : (other : ℕ) → other ≢ row → not (eqb other row) ≡ true
  other_passes other apart = ap not (ne_eqb other row apart)

  pub out : IsLinked (without_row links row) row → ⊥
  out linked =
      let there : Contains (without row (rows_of links linked.0)) row = subst (λ (l : List ℕ). Contains l row) (without-of linked.0) linked.1 in
      let found = Contains-from_filter (λ other. not (eqb other row)) (rows_of links linked.0) row there in
      never (sym (ap not (eq-eqb row row refl)) ∙ found.1)
    where
      never : not true ≡ true → ⊥
      never h = cc

  -- another row stays where it is
  pub stays_out : (other list : ℕ) → other ≢ row → Contains (rows_of links list) other → Contains (rows_of (without_row links row) list) other
  stays_out other list apart there =
      subst (λ (l : List ℕ). Contains l other) (sym (without-of list)) (Contains-filter (λ r. not (eqb r row)) (rows_of links list) other (other_passes other apart) there)

  -- what is linked was linked
  pub was_linked : (other : ℕ) → IsLinked (without_row links row) other → IsLinked links other
  was_linked other linked =
      (linked.0, (Contains-from_filter (λ r. not (eqb r row)) (rows_of links linked.0) other (subst (λ (l : List ℕ). Contains l other) (without-of linked.0) linked.1)).0)

-- ---- with a row

module _ (links : Links) (row list : ℕ) (inside : list < length links.lists) where
  with-here : rows_of (with_row links row list) list ≡ rows_of links list ++ row ∷ []
  with-here = get_or-set_same links.lists list (rows_of links list ++ row ∷ []) [] inside

  with-other : (other : ℕ) → other ≢ list → rows_of (with_row links row list) other ≡ rows_of links other
  with-other other apart = get_or-set_other links.lists list other (rows_of links list ++ row ∷ []) [] apart

  pub put : Contains (rows_of (with_row links row list) list) row
  put = subst (λ (l : List ℕ). Contains l row) (sym with-here) (Contains-append_right (rows_of links list) (row ∷ []) row (Contains-head row []))

  pub kept_in : (r other : ℕ) → Contains (rows_of links other) r → Contains (rows_of (with_row links row list) other) r
  kept_in r other there = ⊎_elim
      (λ (same : other ≡ list). subst (λ (o : ℕ). Contains (rows_of (with_row links row list) o) r) (sym same)
      (subst (λ (l : List ℕ). Contains l r) (sym with-here) (Contains-append_left (rows_of links list) (row ∷ []) r (subst (λ (o : ℕ). Contains (rows_of links o) r) same there))))
      (λ (apart : other ≢ list). subst (λ (l : List ℕ). Contains l r) (sym (with-other other apart)) there) (cases_eq other list)

  only_row : (r : ℕ) → r ≢ row → Contains (rows_of links list ++ row ∷ []) r → Contains (rows_of links list) r
  only_row r apart there = ⊎_elim (λ (front : Contains (rows_of links list) r). front)
      (λ (back : Contains (row ∷ []) r). ⊎_elim (λ (same : row ≡ r). absurd (apart (sym same))) (λ (none : Contains [] r). absurd (Contains-nil r none)) (Contains-cons_cases row [] r back))
      (Contains-append_cases (rows_of links list) (row ∷ []) r there)

  was_in : (r other : ℕ) → r ≢ row → Contains (rows_of (with_row links row list) other) r → Contains (rows_of links other) r
  was_in r other apart there = ⊎_elim
      (λ (same : other ≡ list). subst (λ (o : ℕ). Contains (rows_of links o) r) (sym same)
      (only_row r apart (subst (λ (l : List ℕ). Contains l r) with-here (subst (λ (o : ℕ). Contains (rows_of (with_row links row list) o) r) same there))))
      (λ (away : other ≢ list). subst (λ (l : List ℕ). Contains l r) (with-other other away) there) (cases_eq other list)

  -- what is linked is the row or was linked
  pub linked_cases : (other : ℕ) → IsLinked (with_row links row list) other → (other ≡ row) ⊎ IsLinked links other
  linked_cases other linked = ⊎_elim (λ (same : other ≡ row). inl same)
      (λ (apart : other ≢ row). inr (linked.0, was_in other linked.0 apart linked.1)) (cases_eq other row)

-- no row is in a list of none
none_in : (lists list row : ℕ) → Contains (get_or (replicate lists []) list []) row → ⊥
none_in zero list row there = Contains-nil row there
none_in (suc lists) zero row there = Contains-nil row there
none_in (suc lists) (suc list) row there = none_in lists list row there

pub none_linked : (rows lists row : ℕ) → IsLinked (empty_links rows lists) row → ⊥
none_linked rows lists row linked = none_in lists linked.0 row linked.1
