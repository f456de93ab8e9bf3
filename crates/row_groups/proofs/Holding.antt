-- Numbered keys and linked groups hold the rows with each key.
use Rattle.std.proofs.Common.{◌≡◌, ℕ, ℤ, ◌<◌, List, map, length, get_or, Option, Some, None, refl, ap, sym, subst, ◌∙◌, arith, Decides, ◌==◌}
use Rattle.std.specs.Prelude.{All, IfSome, IsSome}
use Rattle.std.specs.BTreeMap.{BTreeMap, get, btree_map_len}
use Rattle.std.specs.Cmp.Lexicographic.{slice_cmp, pointwise, pointwise_decides}
use Rattle.std.specs.Option.{unwrap_or}
use Rattle.std.specs.Ordering.{int_cmp, int_eq}
use Rattle.std.proofs.lemmas.Bool.{false≢true, false_from_ne_true}
use Rattle.std.proofs.lemmas.Bool.Decides.{Decides-int_eq, Decides-eqb, same_from_decides}
use Rattle.std.proofs.lemmas.List.{length-map, get_or-map}
use Rattle.std.proofs.lemmas.List.Elements.{All-map}
use Rattle.cell_links.specs.Links.{Links}
use Rattle.row_groups.specs.Groups.{rows_if}
use Rattle.row_groups.specs.Keys.{IsNumbering}
use Rattle.row_groups.specs.Places.{places, AreLinked}
use Rattle.row_groups.proofs.Placing.{no_place, places_agree, places-map}

-- the number of a key, and 0 where it has none
abbrev pub number_in : BTreeMap (List ℤ) ℕ → List ℤ → ℕ
number_in numbers key = unwrap_or (get (slice_cmp int_cmp) numbers key) 0

decides_key : (xs ys : List ℤ) → Decides (pointwise int_eq xs ys) (xs ≡ ys)
decides_key = pointwise_decides Decides-int_eq

pub some_is : (o : Option ℕ) → IsSome o → o ≡ Some (unwrap_or o 0)
some_is None h = absurd (false≢true h)
some_is (Some n) h = refl

-- the groups of keys are below their number
groups_below : (numbers : BTreeMap (List ℤ) ℕ) (keys : List (List ℤ)) → IsNumbering numbers keys → All (λ group. group < btree_map_len numbers) (map (number_in numbers) keys)
groups_below numbers keys is =
    All-map (λ group. group < btree_map_len numbers) (number_in numbers) keys
    (λ k d inside. is.below (get_or keys k d) (number_in numbers (get_or keys k d)) (some_is (get (slice_cmp int_cmp) numbers (get_or keys k d)) (is.numbered k d inside)))

-- also where they are told
pub told_below : (numbers : BTreeMap (List ℤ) ℕ) (keys : List (List ℤ)) (given : List ℕ) (count : ℕ) → given ≡ map (number_in numbers) keys → count ≡ btree_map_len numbers
    → IsNumbering numbers keys → All (λ group. group < count) given
told_below numbers keys given count are is numbered =
    let P : List ℕ → Type 0 = λ l. All (λ g. g < count) l in
    let Q : ℕ → Type 0 = λ n. All (λ g. g < n) (map (number_in numbers) keys) in
    subst P (sym are) (subst Q (sym is) (groups_below numbers keys numbered))

module _ {A : Type 0} (rows : List A) (key_of : A → List ℤ) (numbers : BTreeMap (List ℤ) ℕ) (links : Links) (size : ℕ)
    (numbered : IsNumbering numbers (map key_of rows))
    (linked : AreLinked links (map (number_in numbers) (map key_of rows)) size (btree_map_len numbers)) where
  clash : {n : ℕ} → None ≡ Some n → ⊥
  clash h = cc

  has_number : (k : ℕ) (d : A) → k < length rows → get (slice_cmp int_cmp) numbers (key_of (get_or rows k d)) ≡ Some (number_in numbers (key_of (get_or rows k d)))
  has_number k d inside =
      let there : IsSome (get (slice_cmp int_cmp) numbers (get_or (map key_of rows) k (key_of (get_or rows k d)))) =
      numbered.numbered k (key_of (get_or rows k d)) (omega (arith, inside, length-map rows key_of)) in
      let same : get_or (map key_of rows) k (key_of (get_or rows k d)) ≡ key_of (get_or rows k d) = get_or-map key_of rows k d (key_of (get_or rows k d)) inside in
      some_is (get (slice_cmp int_cmp) numbers (key_of (get_or rows k d))) (rw same at there)

  held_at : (key : List ℤ) (o : Option ℕ) → get (slice_cmp int_cmp) numbers key ≡ o → rows_if links.lists o ≡ places (λ row. pointwise int_eq (key_of row) key) rows 0
  held_at key None missing = sym (no_place (λ row. pointwise int_eq (key_of row) key) rows 0 (λ k d inside.
      false_from_ne_true (pointwise int_eq (key_of (get_or rows k d)) key) (λ same.
      let e : key_of (get_or rows k d) ≡ key = (decides_key (key_of (get_or rows k d)) key).0 same in
      clash (sym missing ∙ ap (get (slice_cmp int_cmp) numbers) (sym e) ∙ has_number k d inside))))
  held_at key (Some group) there =
      linked.linked group
      ∙ places-map (number_in numbers) (λ n. n == group) (map key_of rows) 0
      ∙ places-map key_of (λ k. number_in numbers k == group) rows 0
      ∙ places_agree (λ row. number_in numbers (key_of row) == group) (λ row. pointwise int_eq (key_of row) key) rows 0 (λ k d inside.
      let row = get_or rows k d in
      same_from_decides (number_in numbers (key_of row) == group) (pointwise int_eq (key_of row) key) (
        (λ e. numbered.apart (key_of row) key group (has_number k d inside ∙ ap Some ((Decides-eqb (number_in numbers (key_of row)) group).0 e)) there),
        λ e. (Decides-eqb (number_in numbers (key_of row)) group).1 (ap (number_in numbers) e ∙ ap (λ o. unwrap_or o 0) there),
      )
      (decides_key (key_of row) key))

  -- the rows with any key
  pub all_held : (key : List ℤ) → rows_if links.lists (get (slice_cmp int_cmp) numbers key) ≡ places (λ row. pointwise int_eq (key_of row) key) rows 0
  all_held key = held_at key (get (slice_cmp int_cmp) numbers key) refl

-- what is below a number wherever it is there
pub if_below : (o : Option ℕ) (count : ℕ) → ((number : ℕ) → o ≡ Some number → number < count) → IfSome o (λ number. number < count)
if_below None count below = tt
if_below (Some number) count below = below number refl
