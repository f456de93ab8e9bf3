-- Rows linked one after another.
use Rattle.std.proofs.Common.{◌≡◌, ℕ, ◌+◌, ◌<◌, ◌≤◌, cond, List, [], ◌∷◌, ◌++◌, length, take, get_or, inl, inr, ap, sym, ◌∙◌, arith, ◌==◌}
use Rattle.std.specs.Prelude.{Contains, slice_set}
use Rattle.std.proofs.lemmas.Bool.{cases_eq, eq-eqb, ne_eqb}
use Rattle.std.proofs.lemmas.List.{take_more, length-set, length-take-le, get_or-set_same, get_or-set_other, append-nil}
use Rattle.std.proofs.lemmas.List.Elements.{All-contains}
use Rattle.cell_links.specs.Links.{Links, rows_of, with_row, IsLinked}
use Rattle.row_groups.specs.Places.{places, AreLinked}
use Rattle.row_groups.proofs.Placing.{places-push, places-within}

-- a row that comes later is in no list
pub not_linked : (links : Links) (groups : List ℕ) (size count row : ℕ) → row ≤ length groups → AreLinked links (take row groups) size count → IsLinked links row → ⊥
not_linked links groups size count row bound are linked =
    let long : length (take row groups) ≡ row = length-take-le row groups bound in
    let inside : Contains (places (λ number. number == linked.0) (take row groups) 0) row = let P : List ℕ → Type 0 = λ l. Contains l row in rw (← are.linked linked.0) linked.1 in
    let below = All-contains (λ n. n < 0 + length (take row groups)) (places (λ number. number == linked.0) (take row groups) 0) row (places-within (λ number. number == linked.0) (take row groups) 0) inside in
    omega (arith, below, long)

-- the next row
pub linked_more : (links new : Links) (groups : List ℕ) (size count row number : ℕ) → row < length groups → number < count → number ≡ get_or groups row 0
    → AreLinked links (take row groups) size count → new ≡ with_row links row number → AreLinked new (take (row + 1) groups) size count
linked_more links new groups size count row number lt below is are step = record {
  rows = ap (λ (l : Links). l.rows) step ∙ are.rows;
  lists = ap (λ (l : Links). length l.lists) step ∙ length-set links.lists number (rows_of links number ++ row ∷ []) ∙ are.lists;
  linked = λ group. ap (λ (l : Links). rows_of l group) step ∙ at group ∙ sym (ap (λ l. places (λ n. n == group) l 0) (take_more groups row 0 lt) ∙ places-push (λ n. n == group) (take row groups) (get_or groups row 0) 0);
}
  where
    long : length (take row groups) ≡ row
    long = length-take-le row groups (omega (arith, lt))

    within : number < length links.lists
    within = omega (arith, below, are.lists)

    at : (group : ℕ) → rows_of (with_row links row number) group
        ≡ places (λ n. n == group) (take row groups) 0 ++ cond (get_or groups row 0 == group) ((0 + length (take row groups)) ∷ []) []
    at group = elim (cases_eq number group) [
      | inl same ↦
          ap (λ g. get_or (slice_set links.lists number (rows_of links number ++ row ∷ [])) g []) (sym same)
          ∙ get_or-set_same links.lists number (rows_of links number ++ row ∷ []) [] within
          ∙ ap (λ g. rows_of links g ++ row ∷ []) same
          ∙ ap (λ l. l ++ row ∷ []) (are.linked group)
          ∙ ap (λ (n : ℕ). places (λ m. m == group) (take row groups) 0 ++ n ∷ []) (omega (arith, long))
          ∙ ap (λ b. places (λ m. m == group) (take row groups) 0 ++ cond b ((0 + length (take row groups)) ∷ []) []) (sym (eq-eqb (get_or groups row 0) group (sym is ∙ same)))
      | inr other ↦
          get_or-set_other links.lists number group (rows_of links number ++ row ∷ []) [] (λ e. other (sym e))
          ∙ are.linked group
          ∙ sym (append-nil (places (λ m. m == group) (take row groups) 0))
          ∙ ap (λ b. places (λ m. m == group) (take row groups) 0 ++ cond b ((0 + length (take row groups)) ∷ []) []) (sym (ne_eqb (get_or groups row 0) group (λ e. other (is ∙ e))))
    ]
