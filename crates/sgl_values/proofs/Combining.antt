-- A cell does not depend on the order of its items.
use Rattle.std.proofs.Common.{◌≡◌, ℕ, ℤ, Bool, true, false, List, [], ◌∷◌, Option, Some, None, sym, refl, ap, ◌∙◌, arith}
use Rattle.std.specs.Prelude.{◌==◌, ◌&&◌, ◌+ℤ◌, if◌then◌else◌}
use Rattle.std.proofs.lemmas.Int.{ints}
use Rattle.std.specs.Int.{int_min, int_max}
use Rattle.std.specs.List.Sorted.{IsPermutation}
use Rattle.std.specs.declared.cmp.Ordering.{Ordering}
use Rattle.sgl_values.specs.declared.fault.Tag.{Tag}
use Rattle.sgl_values.specs.declared.fault.Tag.TheVariants.{Sum, Min, Max, Top}
use Rattle.sgl_values.specs.declared.item.Item.{Item}
use Rattle.sgl_values.specs.declared.item.Item.TheVariants.{Effect, Faulty}
use Rattle.sgl_values.specs.Amounts.{Amount, falling_cmp}
use Rattle.sgl_values.specs.Cells.{amounts, cell, value_or}
use Rattle.sgl_values.specs.Least.{lesser_of, least_of}
use Rattle.sgl_values.specs.Totals.{total}
use Rattle.sgl_values.proofs.LeastLaws.{amount_laws}
use Rattle.sgl_values.proofs.Permutations.{steps, steps-IsPermutation}

plus_free : (a b z : ℤ) → a +ℤ (b +ℤ z) ≡ b +ℤ (a +ℤ z)
plus_free a b z = omega (arith, ints)

min_free : (a b z : ℤ) → int_min a (int_min b z) ≡ int_min b (int_min a z)
min_free a b z = grind (arith, ints)

max_free : (a b z : ℤ) → int_max a (int_max b z) ≡ int_max b (int_max a z)
max_free a b z = grind (arith, ints)

greater_free : (a b z : Option Amount) → lesser_of falling_cmp a (lesser_of falling_cmp b z) ≡ lesser_of falling_cmp b (lesser_of falling_cmp a z)
greater_free a b z =
    sym (amount_laws.assoc a b z) ∙ ap (λ (l : Option Amount). lesser_of falling_cmp l z) (amount_laws.comm a b) ∙ amount_laws.assoc b a z

-- the least of a list is what its elements come to
least-total : {A : Type 0} (cmp : A → A → Ordering) (xs : List A) → least_of cmp xs ≡ total (lesser_of cmp) None Some xs
least-total cmp [] = refl
least-total cmp (x ∷ xs) = ap (lesser_of cmp (Some x)) (least-total cmp xs)

-- what the amounts of a cell come to, by an operation whose operands may change places
module _ {B : Type 0} (op : B → B → B) (end : B) (worth : Amount → B) (free : (a b z : B) → op a (op b z) ≡ op b (op a z)) (row attr : ℕ) where
  -- what an item makes of the cell
  abbrev put : Item → B → B
  put (Effect r a amount) z = if (r == row) && (a == attr) then op (worth amount) z else z
  put (Faulty fault) z = z

  where_it_goes : (b : Bool) (amount : Amount) (rest : List Amount)
      → total op end worth (if b then amount ∷ rest else rest) ≡ (if b then op (worth amount) (total op end worth rest) else total op end worth rest)
  where_it_goes true amount rest = refl
  where_it_goes false amount rest = refl

  total-steps : (items : List Item) → total op end worth (amounts items row attr) ≡ steps put end items
  total-steps [] = refl
  total-steps (Effect r a amount ∷ items) =
      where_it_goes ((r == row) && (a == attr)) amount (amounts items row attr) ∙ ap (put (Effect r a amount)) (total-steps items)
  total-steps (Faulty fault ∷ items) = total-steps items

  tests_free : (b d : Bool) (v w z : B) → (if b then op v (if d then op w z else z) else (if d then op w z else z))
      ≡ (if d then op w (if b then op v z else z) else (if b then op v z else z))
  tests_free true true v w z = free v w z
  tests_free true false v w z = refl
  tests_free false true v w z = refl
  tests_free false false v w z = refl

  put_free : (x y : Item) (z : B) → put x (put y z) ≡ put y (put x z)
  put_free (Effect r a v) (Effect s b w) z = tests_free ((r == row) && (a == attr)) ((s == row) && (b == attr)) (worth v) (worth w) z
  put_free (Effect r a v) (Faulty fault) z = refl
  put_free (Faulty fault) (Effect s b w) z = refl
  put_free (Faulty fault) (Faulty other) z = refl

  pub amounts-IsPermutation : (items others : List Item) → IsPermutation items others
      → total op end worth (amounts items row attr) ≡ total op end worth (amounts others row attr)
  amounts-IsPermutation items others p = total-steps items ∙ sym (steps-IsPermutation put end put_free items others p) ∙ sym (total-steps others)

pub cell-IsPermutation : (tag : Tag) (init : ℤ) (row attr : ℕ) (items others : List Item) → IsPermutation items others
    → cell tag init items row attr ≡ cell tag init others row attr
cell-IsPermutation Sum init row attr items others p = amounts-IsPermutation (λ x y. x +ℤ y) init (λ amount. amount.value) plus_free row attr items others p
cell-IsPermutation Min init row attr items others p = amounts-IsPermutation int_min init (λ amount. amount.value) min_free row attr items others p
cell-IsPermutation Max init row attr items others p = amounts-IsPermutation int_max init (λ amount. amount.value) max_free row attr items others p
cell-IsPermutation Top init row attr items others p =
    ap (value_or init)
    (least-total falling_cmp (amounts items row attr)
    ∙ amounts-IsPermutation (lesser_of falling_cmp) None Some greater_free row attr items others p
    ∙ sym (least-total falling_cmp (amounts others row attr)))
