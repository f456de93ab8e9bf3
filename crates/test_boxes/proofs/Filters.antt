-- Filters by two tests, one of them turned round.
use Rattle.std.proofs.Common.{◌≡◌, ◌+◌, ◌+ℤ◌, Bool, true, false, not, ◌&&◌, cond, List, [], ◌∷◌, length, refl, arith}
use Rattle.std.specs.Prelude.{filter}
use Rattle.std.proofs.lemmas.Int.{ints}
use Rattle.sgl_values.specs.World.{Row}
use Rattle.sgl_typed.specs.declared.script.Attr.{Attr}
use Rattle.sgl_typed.specs.Aggregate.{sum_of}

module _ {A : Type 0} where
  split-count : (p q : Bool) (x : A) (xs ys zs : List A) → length xs + length ys ≡ length zs
      → length (cond (p && q) (x ∷ xs) xs) + length (cond (p && not q) (x ∷ ys) ys) ≡ length (cond p (x ∷ zs) zs)
  split-count true true x xs ys zs h = omega (arith, h)
  split-count true false x xs ys zs h = omega (arith, h)
  split-count false q x xs ys zs h = h

  -- a test and another one, or the other one turned round, keep as many together as the first alone
  pub count_split : (p q : A → Bool) (xs : List A) → length (filter (λ x. p x && q x) xs) + length (filter (λ x. p x && not (q x)) xs) ≡ length (filter p xs)
  count_split p q [] = refl
  count_split p q (x ∷ xs) = split-count (p x) (q x) x _ _ _ (count_split p q xs)

split-sum : (attr : Attr) (p q : Bool) (x : Row) (xs ys zs : List Row) → sum_of attr xs +ℤ sum_of attr ys ≡ sum_of attr zs
    → sum_of attr (cond (p && q) (x ∷ xs) xs) +ℤ sum_of attr (cond (p && not q) (x ∷ ys) ys) ≡ sum_of attr (cond p (x ∷ zs) zs)
split-sum attr true true x xs ys zs h = omega (arith, ints, h)
split-sum attr true false x xs ys zs h = omega (arith, ints, h)
split-sum attr false q x xs ys zs h = h

-- and the same for sums
pub sum_split : (attr : Attr) (p q : Row → Bool) (xs : List Row)
    → sum_of attr (filter (λ x. p x && q x) xs) +ℤ sum_of attr (filter (λ x. p x && not (q x)) xs) ≡ sum_of attr (filter p xs)
sum_split attr p q [] = refl
sum_split attr p q (x ∷ xs) = split-sum attr (p x) (q x) x _ _ _ (sum_split attr p q xs)
