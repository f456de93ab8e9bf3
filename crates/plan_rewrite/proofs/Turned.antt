-- Lists from the last element to the first.
use Rattle.std.proofs.Common.{◌≡◌, ℕ, ◌+◌, ◌<◌, List, [], ◌∷◌, ◌++◌, length, take, drop, get_or, reverse, ap, sym, ◌∙◌, arith, append_assoc}
use Rattle.std.specs.List.{insert, remove_range}
use Rattle.std.proofs.lemmas.List.{length-append, length-reverse, length-take-le, reverse-append, take-append-drop, take_more}
use Rattle.std.proofs.Math.Seq.{take-append_seam, drop-append_seam}
use Rattle.plan_rewrite.specs.Bare.{inserted, without}

pub take_pre : {A : Type 0} (pre xs : List A) (n : ℕ) → length pre ≡ n → take n (pre ++ xs) ≡ pre
take_pre pre xs n own = ap (λ k. take k (pre ++ xs)) (sym own) ∙ take-append_seam pre xs

pub drop_pre : {A : Type 0} (pre xs : List A) (n : ℕ) → length pre ≡ n → drop n (pre ++ xs) ≡ xs
drop_pre pre xs n own = ap (λ k. drop k (pre ++ xs)) (sym own) ∙ drop-append_seam pre xs

-- the two parts of a list, and of its elements from the last to the first
parts : {A : Type 0} (xs : List A) (i : ℕ) → reverse xs ≡ reverse (drop i xs) ++ reverse (take i xs)
parts xs i = ap reverse (sym (take-append-drop i xs)) ∙ reverse-append (take i xs) (drop i xs)

length_behind : {A : Type 0} (xs : List A) (i k : ℕ) → i + k ≡ length xs → length (reverse (drop i xs)) ≡ k
length_behind xs i k whole =
    omega (arith, whole, length-reverse (drop i xs), ap length (take-append-drop i xs), length-append (take i xs) (drop i xs), length-take-le i xs (omega (arith, whole)))

take_reverse : {A : Type 0} (xs : List A) (i k : ℕ) → i + k ≡ length xs → take k (reverse xs) ≡ reverse (drop i xs)
take_reverse xs i k whole = ap (take k) (parts xs i) ∙ take_pre (reverse (drop i xs)) (reverse (take i xs)) k (length_behind xs i k whole)

drop_reverse : {A : Type 0} (xs : List A) (i k : ℕ) → i + k ≡ length xs → drop k (reverse xs) ≡ reverse (take i xs)
drop_reverse xs i k whole = ap (drop k) (parts xs i) ∙ drop_pre (reverse (drop i xs)) (reverse (take i xs)) k (length_behind xs i k whole)

-- an element more
pub insert_turned : {A : Type 0} (xs : List A) (at place : ℕ) (x : A) → at + place ≡ length xs → reverse (insert xs at x) ≡ inserted place x (reverse xs)
insert_turned xs at place x whole =
    reverse-append (take at xs) (x ∷ drop at xs)
    ∙ ap (λ more. more ++ reverse (take at xs)) (reverse-append (x ∷ []) (drop at xs))
    ∙ append_assoc (reverse (drop at xs)) (x ∷ []) (reverse (take at xs))
    ∙ (λ i. sym (take_reverse xs at place whole) i ++ x ∷ sym (drop_reverse xs at place whole) i)

-- some elements less
pub remove_turned : {A : Type 0} (xs : List A) (start ends from count : ℕ) → ends + from ≡ length xs → start + count ≡ ends → reverse (remove_range xs start ends) ≡ without from count (reverse xs)
remove_turned xs start ends from count whole within =
    reverse-append (take start xs) (drop ends xs)
    ∙ (λ i. sym (take_reverse xs ends from whole) i ++ sym (drop_reverse xs start (from + count) (omega (arith, whole, within))) i)

-- one element more from the front
pub one_turned : {A : Type 0} (xs : List A) (i : ℕ) (x : A) → i < length xs → x ≡ get_or xs i x → reverse (take (i + 1) xs) ≡ x ∷ reverse (take i xs)
one_turned xs i x lt is =
    ap reverse (take_more xs i x lt ∙ ap (λ y. take i xs ++ y ∷ []) (sym is)) ∙ reverse-append (take i xs) (x ∷ [])
