-- A list for each group has under each key what is made of the rows with it.
use Rattle.std.proofs.Common.{◌≡◌, ℕ, ℤ, List, [], ◌∷◌, map, length, get_or, Option, None, Some, inl, inr, refl, ap, sym, ◌∙◌, subst, arith}
use Rattle.std.specs.Prelude.{filter, slice_get, MatchOption}
use Rattle.std.specs.Borrow.{Bor}
use Rattle.std.specs.Option.{option_copied}
use Rattle.std.specs.List.Sorted.{IsPermutation}
use Rattle.std.proofs.lemmas.Bool.{cases_lt}
use Rattle.std.proofs.lemmas.List.{get_or_past}
use Rattle.std.proofs.lemmas.Option.{get_or_from_slice_get, none-some, slice_get-get_or}
use Rattle.std.proofs.lemmas.List.Sorted.{IsPermutation-refl}
use Rattle.sgl_values.specs.World.{Row, World, row_at}
use Rattle.row_groups.specs.Groups.{Grouping, number_of, rows_if, rows_in, IsGroups}
use Rattle.row_groups.specs.Keys.{has_key}
use Rattle.row_groups.specs.Listed.{list_if, made_of, AreListed, IsListOf}
use Rattle.row_groups.specs.Made.{AreMade}
use Rattle.row_groups.specs.Places.{places}
use Rattle.row_groups.proofs.Placing.{at_places}

module _ {A : Type 0} (make : Row → A) (world : World) where
  made-over : (rows : List ℕ) → made_of make world rows ≡ map make (map (λ row. row_at world row) rows)
  made-over [] = refl
  made-over (row ∷ rows) = ap (λ l. make (row_at world row) ∷ l) (made-over rows)

  module _ (groups : Grouping) (lists : List (List A)) (is : IsGroups groups groups.attrs world.rows) (are : AreListed make world groups (length groups.lists) lists) where
    key-made : (key : List ℤ) → made_of make world (places (has_key groups.attrs key) world.rows 0) ≡ map make (filter (has_key groups.attrs key) world.rows)
    key-made key =
        made-over (places (has_key groups.attrs key) world.rows 0)
        ∙ ap (map make) (at_places (has_key groups.attrs key) [] world.rows record { key = 0; values = [] })

    listed-at : (key : List ℤ) (o : Option ℕ) → number_of groups key ≡ o → rows_if groups.lists o ≡ places (has_key groups.attrs key) world.rows 0
        → IsPermutation (map make (filter (has_key groups.attrs key) world.rows)) (list_if lists o)
    listed-at key None number rows =
        let P : List A → Type 0 = λ xs. IsPermutation xs [] in
        subst P (ap (made_of make world) rows ∙ key-made key) (IsPermutation-refl [])
    listed-at key (Some group) number rows =
        let P : List A → Type 0 = λ xs. IsPermutation xs (get_or lists group []) in
        subst P (ap (made_of make world) rows ∙ key-made key) (are.held group (is.inside key group number))

    -- under each key, also one that no row has
    pub listed-under : (key : List ℤ) → IsPermutation (map make (filter (has_key groups.attrs key) world.rows)) (list_if lists (number_of groups key))
    listed-under key = listed-at key (number_of groups key) refl (is.held key)

    -- and under each number, also one that no group has
    pub listed-in : (group : ℕ) → IsPermutation (made_of make world (rows_in groups group)) (get_or lists group [])
    listed-in group = elim (cases_lt group (length groups.lists)) [
      | inl lt ↦ are.held group lt
      | inr le ↦
          let none : rows_in groups group ≡ [] = get_or_past groups.lists group [] le in
          let empty : get_or lists group [] ≡ [] = get_or_past lists group [] (omega (arith, le, are.full)) in
          subst (λ (rows : List ℕ). IsPermutation (made_of make world rows) (get_or lists group [])) (sym none)
          (subst (λ (items : List A). IsPermutation [] items) (sym empty) (IsPermutation-refl []))
    ]

  -- the lists that threads have made
  pub lists_made : (groups : Grouping) (count : ℕ) (lists : List (List A)) → count ≡ length groups.lists → AreMade (IsListOf make world groups) count lists
      → AreListed make world groups (length groups.lists) lists
  lists_made groups count lists all are = record { full = are.full ∙ all; held = λ group below. are.each group [] (omega (arith, below, all)) }

-- the list of the group that was found
pub found_list : {A : Type 0} (lists : List (List A)) (group : ℕ) (found : Option (Bor (List A))) → option_copied found ≡ slice_get lists group
    → MatchOption found (get_or lists group [] ≡ []) (λ list. list.now ≡ get_or lists group [])
found_list lists group None at = elim (cases_lt group (length lists)) [
  | inl lt ↦ absurd (none-some _ (at ∙ slice_get-get_or lists group [] lt))
  | inr le ↦ get_or_past lists group [] le
]
found_list lists group (Some list) at = sym (get_or_from_slice_get lists group list.now [] (sym at))
