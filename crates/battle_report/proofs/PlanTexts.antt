-- The lines of a plan's nodes that were written, and one more.
use Rattle.std.proofs.Common.{◌≡◌, ◌∙◌, ◌+◌, ◌<◌, ◌≤◌, ℕ, List, Option, Result, Ok, Err, length, take, get_or, sym, subst, arith}
use Rattle.std.specs.List.{enumerate_from, flat_map}
use Rattle.std.proofs.lemmas.List.{take_all}
use Rattle.std.proofs.lemmas.List.FromFn.{length-enumerate_from, get_or-enumerate_from}
use Rattle.sgl_outside.specs.Sinks.{Writes}
use Rattle.battle_report.proofs.ElementTexts.{writes_more, writes_part}

module _ {A : Type 0} (text : ℕ × A → List ℕ) (xs : List A) where
  inside : (i : ℕ) → i < length xs → i < length (enumerate_from 0 xs)
  inside i h = omega (arith, h, length-enumerate_from 0 xs)

  -- an element with its number
  entry : (i : ℕ) (x : A) → i < length xs → x ≡ get_or xs i x → get_or (enumerate_from 0 xs) i (0, x) ≡ (i, x)
  entry i x h is =
      let at : 0 + i ≡ i = omega arith in
      get_or-enumerate_from 0 xs i (0, x) h ∙ (λ k. (at k, sym is k))

  module _ (a b c : Option (List ℕ)) (i j k n : ℕ) (x : A) (h : n < length xs) (is : x ≡ get_or xs n x) {T E : Type 0} where
    -- the texts of the first elements with their numbers were written, and then that of one more
    pub writes_numbered : (u v : T) → Writes {E = E} a b i j (Ok u) (flat_map text (take n (enumerate_from 0 xs))) → Writes {E = E} b c j k (Ok v) (text (n, x))
        → Writes {E = E} a c i k (Ok u) (flat_map text (take (n + 1) (enumerate_from 0 xs)))
    writes_numbered = writes_more text (enumerate_from 0 xs) a b c i j k n (0, x) (n, x) (inside n h) (sym (entry n x h is))

    -- and then a part of it
    pub part_numbered : (u : T) (e f : E) → Writes {E = E} a b i j (Ok u) (flat_map text (take n (enumerate_from 0 xs))) → Writes {T = T} b c j k (Err e) (text (n, x))
        → Writes {T = T} a c i k (Err f) (flat_map text (enumerate_from 0 xs))
    part_numbered = writes_part text (enumerate_from 0 xs) a b c i j k n (0, x) (n, x) (inside n h) (sym (entry n x h is))

  -- the texts of all were written
  pub writes_all : {T E : Type 0} (a b : Option (List ℕ)) (i j n : ℕ) (r : Result T E) → length xs ≤ n
      → Writes a b i j r (flat_map text (take n (enumerate_from 0 xs))) → Writes a b i j r (flat_map text (enumerate_from 0 xs))
  writes_all a b i j n r h all =
      subst (λ ys. Writes a b i j r (flat_map text ys)) (take_all n (enumerate_from 0 xs) (omega (arith, h, length-enumerate_from 0 xs))) all
