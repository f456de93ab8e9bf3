-- Texts that were written one after the other.
use Rattle.std.proofs.Common.{◌≡◌, ◌∙◌, ◌+◌, ◌<◌, ◌++◌, ℕ, List, [], ◌∷◌, Option, Result, Ok, Err, length, take, drop, get_or, sym, ap, subst, append-nil}
use Rattle.std.proofs.lemmas.List.{take_more, take-append-drop}
use Rattle.std.proofs.lemmas.Grind.{flat_map-append}
use Rattle.std.proofs.KnownBytes.{Appends-trans}
use Rattle.std.specs.List.{flat_map}
use Rattle.std.specs.Io.KnownBytes.{Appends}
use Rattle.sgl_outside.specs.Sinks.{AppendsPrefix, Writes}
use Rattle.sgl_outside.proofs.Writes.{prefix_after, prefix_more, writes_then, writes_cut}

module _ {A : Type 0} (text : A → List ℕ) (xs : List A) where
  -- the text of one element more
  text_more : (i : ℕ) (d : A) → i < length xs → flat_map text (take (i + 1) xs) ≡ flat_map text (take i xs) ++ text (get_or xs i d)
  text_more i d inside =
      ap (flat_map text) (take_more xs i d inside)
      ∙ (flat_map-append text (take i xs) (get_or xs i d ∷ []) ∙ ap (λ zs. flat_map text (take i xs) ++ zs) (append-nil (text (get_or xs i d))))

  -- the texts of the first elements were written, and then that of one more
  pub wrote_more : (a b c : Option (List ℕ)) (i : ℕ) (d : A) → i < length xs
      → Appends a b (flat_map text (take i xs)) → Appends b c (text (get_or xs i d)) → Appends a c (flat_map text (take (i + 1) xs))
  wrote_more a b c i d inside before one =
      subst (Appends a c) (sym (text_more i d inside)) (Appends-trans a b c (flat_map text (take i xs)) (text (get_or xs i d)) before one)

  -- and then a prefix of it
  pub cut_more : (a b c : Option (List ℕ)) (i : ℕ) (d : A) → i < length xs
      → Appends a b (flat_map text (take i xs)) → AppendsPrefix b c (text (get_or xs i d)) → AppendsPrefix a c (flat_map text xs)
  cut_more a b c i d inside before cut =
      let front : AppendsPrefix a c (flat_map text (take (i + 1) xs)) =
      subst (AppendsPrefix a c) (sym (text_more i d inside)) (prefix_after a b c (flat_map text (take i xs)) (text (get_or xs i d)) before cut) in
      subst (AppendsPrefix a c) (sym (flat_map-append text (take (i + 1) xs) (drop (i + 1) xs)) ∙ ap (flat_map text) (take-append-drop (i + 1) xs))
      (prefix_more a c (flat_map text (take (i + 1) xs)) (flat_map text (drop (i + 1) xs)) front)

-- three texts, one after the other
pub three_texts : {T : Type 0} {E : Type 0} (a b c d : Option (List ℕ)) (i j k l : ℕ) (xs ys zs : List ℕ) (x y : T) (r : Result T E)
    → Writes {E = E} a b i j (Ok x) xs → Writes {E = E} b c j k (Ok y) ys → Writes c d k l r zs → Writes a d i l r (xs ++ (ys ++ zs))
three_texts {T} {E} a b c d i j k l xs ys zs x y r first second third =
    writes_then {D = E} a b d i j l xs (ys ++ zs) x r first (writes_then {D = E} b c d j k l ys zs y r second third)

pub second_of_three : {T U : Type 0} {E : Type 0} (a b c : Option (List ℕ)) (i j k : ℕ) (xs ys zs : List ℕ) (x : T) (e : E)
    → Writes {E = E} a b i j (Ok x) xs → Writes {T = T} b c j k (Err e) ys → Writes {T = U} a c i k (Err e) (xs ++ (ys ++ zs))
second_of_three {T} {U} {E} a b c i j k xs ys zs x e first second =
    writes_then {D = E} a b c i j k xs (ys ++ zs) x (Err e) first (writes_cut {T = T} {U = U} b c j k ys zs e e second)
