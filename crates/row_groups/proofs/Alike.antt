-- Rows that all have the key of four zeros.
use Rattle.std.proofs.Common.{◌≡◌, ◌<◌, ◌≤◌, ℕ, zero, suc, ℤ, List, [], ◌∷◌, length, map, min, take, replicate, refl, sym, subst, arith}
use Rattle.std.specs.Prelude.{All, IsSome}
use Rattle.std.specs.BTreeMap.{BTreeMap, get, btree_map_len}
use Rattle.std.specs.Cmp.Lexicographic.{slice_cmp}
use Rattle.std.specs.Ordering.{int_cmp}
use Rattle.std.proofs.lemmas.List.{length-map}
use Rattle.std.proofs.lemmas.List.Elements.{All-map}
use Rattle.sgl_values.specs.World.{Row}
use Rattle.row_groups.specs.Keys.{four_of, row_values, IsNumbering}
use Rattle.row_groups.proofs.Holding.{number_in, some_is}

abbrev pub zeros : List ℤ
zeros = four_of []

-- the keys of rows where no attribute is named
abbrev pub keys_alike : List Row → List (List ℤ)
keys_alike rows = map (λ row. four_of (row_values [] row)) rows

-- of one key so many, and no more than one
pub one_taken : (n rows : ℕ) (key : List ℤ) → n ≡ min 1 rows → (length (take n (key ∷ [])) ≤ rows) × (0 < rows → take n (key ∷ []) ≡ key ∷ [])
one_taken zero rows key is = (omega arith, λ more. absurd (omega (arith, is, more)))
one_taken (suc zero) rows key is = (omega (arith, is), λ more. refl)
one_taken (suc (suc n)) rows key is = absurd (omega (arith, is))

module _ (numbers : BTreeMap (List ℤ) ℕ) where
  abbrev HasNumber : List ℤ → Type 0
  HasNumber key = IsSome (get (slice_cmp int_cmp) numbers key)

  -- the numbers of a key are those of any number of rows that have it
  pub numbered_alike : (some : List (List ℤ)) (rows : List Row) → length some ≤ length rows → (0 < length rows → some ≡ zeros ∷ []) → IsNumbering numbers some → IsNumbering numbers (keys_alike rows)
  numbered_alike some rows fewer all is = record {
    numbered = All-map HasNumber (λ (row : Row). four_of (row_values [] row)) rows (λ k d inside.
        subst (All HasNumber) (all (omega (arith, inside))) is.numbered 0 zeros (omega arith));
    few = omega (arith, is.few, fewer, length-map rows (λ (row : Row). four_of (row_values [] row)));
    below = is.below;
    apart = is.apart;
  }

  zeros_for : (rows : List Row) → (0 < length rows → number_in numbers zeros ≡ 0) → replicate (length rows) 0 ≡ map (number_in numbers) (keys_alike rows)
  zeros_for [] none = refl
  zeros_for (row ∷ rows) none = λ i. sym (none (omega arith)) i ∷ zeros_for rows (λ more. none (omega arith)) i

  -- where there is one number, all have it
  pub groups_alike : (rows : List Row) → btree_map_len numbers ≤ 1 → IsNumbering numbers (keys_alike rows) → replicate (length rows) 0 ≡ map (number_in numbers) (keys_alike rows)
  groups_alike [] one is = refl
  groups_alike (row ∷ rows) one is =
      let there : IsSome (get (slice_cmp int_cmp) numbers zeros) = is.numbered 0 zeros (omega arith) in
      let low = is.below zeros (number_in numbers zeros) (some_is (get (slice_cmp int_cmp) numbers zeros) there) in
      zeros_for (row ∷ rows) (λ more. omega (arith, low, one))
