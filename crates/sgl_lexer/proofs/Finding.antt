-- Tables whose entries have texts: where a text stands in one, and what a test of the whole table says of an entry.
use Rattle.std.proofs.Common.{◌≡◌, ℕ, zero, suc, Bool, true, false, cond, List, [], ◌∷◌, ◌<◌, ◌≤◌, length, eqb, leb, ltb, not, arith, get_or, subst, sym, ◌∙◌, ap, refl, ◌&&◌}
use Rattle.std.proofs.lemmas.Bool.{leb-true, ltb-true, not-true}
use Rattle.std.proofs.lemmas.List.Folds.{list_all_at}
use Rattle.std.specs.List.{list_all}
use Rattle.std.specs.Prelude.{slice_index}

-- whether two texts are the same
abbrev pub same_bytes : List ℕ → List ℕ → Bool
same_bytes [] [] = true
same_bytes [] (y ∷ ys) = false
same_bytes (x ∷ xs) [] = false
same_bytes (x ∷ xs) (y ∷ ys) = cond (eqb x y) (same_bytes xs ys) false

-- the place of the first entry with this text, or the end of the table
abbrev pub index_of : {T : Type 0} → (T → List ℕ) → List T → List ℕ → ℕ
index_of f [] bytes = 0
index_of f (t ∷ ts) bytes = cond (same_bytes (f t) bytes) 0 (suc (index_of f ts bytes))

left_true : (a b : Bool) → (a && b) ≡ true → a ≡ true
left_true true b e = refl
left_true false b e = e

right_true : (a b : Bool) → (a && b) ≡ true → b ≡ true
right_true true b e = e
right_true false b e = absurd (let f : true ≡ false = cc in cc)

-- A test that all of a table passes, and what stands for an entry beyond its end, is passed at each place.
passed_at : {T : Type 0} (test : T → Bool) (table : List T) (beyond : T) → test beyond ≡ true → list_all test table ≡ true → (i : ℕ) → test (get_or table i beyond) ≡ true
passed_at test [] beyond e all i = e
passed_at test (t ∷ ts) beyond e all zero = left_true (test t) (list_all test ts) all
passed_at test (t ∷ ts) beyond e all (suc i) = passed_at test ts beyond e (right_true (test t) (list_all test ts) all) i

-- where an entry stands in a table
abbrev pub place : {T : Type 0} → (T → List ℕ) → List T → T → ℕ
place text table t = index_of text table (text t)

-- an entry stands there, within the table
abbrev pub Stands : {T : Type 0} → (T → List ℕ) → T → List T → T → Type 0
Stands text beyond table t = (get_or table (place text table t) beyond ≡ t) × (place text table t < length table)

-- Each entry stands in the table at the place of its text.
module _ {T : Type 0} (text : T → List ℕ) (beyond : T) (table : List T) (stands : (t : T) → Stands text beyond table t) where
  -- so a test that the whole table passes is passed by each entry
  pub each : (test : T → Bool) → list_all test (beyond ∷ table) ≡ true → (t : T) → test t ≡ true
  each test all t = subst (λ u. test u ≡ true) (stands t).0 (passed_at test table beyond (left_true (test beyond) (list_all test table) all) (right_true (test beyond) (list_all test table) all) (index_of text table (text t)))

  -- each text has a byte
  pub nonempty : list_all (λ u. ltb 0 (length (text u))) (beyond ∷ table) ≡ true → (t : T) → 0 < length (text t)
  nonempty all t = ltb-true 0 (length (text t)) (each (λ u. ltb 0 (length (text u))) all t)

  -- no text begins with a byte that passes a test
  pub begins_otherwise : (test : ℕ → Bool) → list_all (λ u. not (test (slice_index (text u) 0))) (beyond ∷ table) ≡ true → (t : T) → test (slice_index (text t) 0) ≡ false
  begins_otherwise test all t = not-true _ (each (λ u. not (test (slice_index (text u) 0))) all t)

  -- and entries with one text are one
  pub one_entry : (bytes : List ℕ) (t u : T) → bytes ≡ text t → bytes ≡ text u → t ≡ u
  one_entry bytes t u e f = sym (stands t).0 ∙ ap (λ l. get_or table (index_of text table l) beyond) (sym e ∙ f) ∙ (stands u).0

not_false : (b : Bool) → (b ≡ false → ⊥) → b ≡ true
not_false true h = refl
not_false false h = absurd (h refl)

module _ {T : Type 0} (text : T → List ℕ) where
  -- whether no text of a table is longer than one before it
  abbrev pub falls : List T → Bool
  falls [] = true
  falls (t ∷ ts) = list_all (λ u. leb (length (text u)) (length (text t))) ts && falls ts

  -- so it is at any two places
  pub falls_at : (ts : List T) (d e : T) → falls ts ≡ true → (i j : ℕ) → i ≤ j → j < length ts → length (text (get_or ts j d)) ≤ length (text (get_or ts i e))
  falls_at [] d e f i j le within = absurd (omega arith)
  falls_at (t ∷ ts) d e f zero zero le within = omega arith
  falls_at (t ∷ ts) d e f zero (suc j) le within =
      let shorter : T → Bool = λ u. leb (length (text u)) (length (text t)) in
      let all = left_true (list_all shorter ts) (falls ts) f in
      leb-true _ _ (not_false (shorter (get_or ts j d)) (λ no. let none = list_all_at shorter ts j d (omega arith) no in cc))
  falls_at (t ∷ ts) d e f (suc i) zero le within = absurd (omega arith)
  falls_at (t ∷ ts) d e f (suc i) (suc j) le within = falls_at ts d e (right_true (list_all (λ u. leb (length (text u)) (length (text t))) ts) (falls ts) f) i j (omega arith) (omega arith)
