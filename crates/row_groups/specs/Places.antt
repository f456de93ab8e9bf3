-- The places of elements that pass, and rows linked by group.
use Rattle.std.specs.Prelude.{◌≡◌, ◌≢◌, ℕ, ◌+◌, ◌==◌, AllPairs, Bool, Contains, List, [], ◌∷◌, length, slice_index_or, if◌then◌else◌}
use Rattle.cell_links.specs.Links.{Links, rows_of}

-- the places of the elements that pass; the first element has this place
abbrev pub places : {A : Type 0} → (A → Bool) → List A → ℕ → List ℕ
places p [] place = []
places p (x ∷ xs) place = if p x then place ∷ places p xs (place + 1) else places p xs (place + 1)

-- so many rows, of which the first have these group numbers; those are linked by group, in their order
pub record AreLinked (links : Links) (groups : List ℕ) (size count : ℕ) : Type 0 where
  pub rows : links.rows ≡ size
  pub lists : length links.lists ≡ count
  pub linked : (group : ℕ) → rows_of links group ≡ places (λ number. number == group) groups 0

-- each row is in at most one of the lists, and there once
pub record AreApart (lists : List (List ℕ)) : Type 0 where
  pub one_list : (group other row : ℕ) → Contains (slice_index_or lists group []) row → Contains (slice_index_or lists other []) row → group ≡ other
  pub once : (group : ℕ) → AllPairs (λ row other. row ≢ other) (slice_index_or lists group [])
