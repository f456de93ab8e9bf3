-- Texts that are written one after the other.
use Rattle.std.proofs.Common.{◌∙◌, ◌≤◌, ◌++◌, ℕ, List, [], Option, Result, Ok, Err, refl, sym, ap, arith, append_assoc}
use Rattle.std.proofs.KnownBytes.{Appends-kept, Appends-nil, Appends-trans}
use Rattle.std.specs.Io.KnownBytes.{Appends, Keeps}
use Rattle.sgl_outside.specs.Causes.{Rose}
use Rattle.sgl_outside.specs.Sinks.{AppendsPrefix, Writes}

-- nothing is a prefix of any text
pub prefix_nothing : (a b : Option (List ℕ)) (xs : List ℕ) → Keeps a b → AppendsPrefix a b xs
prefix_nothing a b xs h = record { taken = []; rest = xs; whole = refl; appends = Appends-kept a a b [] (Appends-nil a) h }

-- a text is a prefix of itself with more
pub prefix_whole : (a b : Option (List ℕ)) (xs ys : List ℕ) → Appends a b xs → AppendsPrefix a b (xs ++ ys)
prefix_whole a b xs ys h = record { taken = xs; rest = ys; whole = refl; appends = h }

-- a prefix of a text is one of the text with more
pub prefix_more : (a b : Option (List ℕ)) (xs ys : List ℕ) → AppendsPrefix a b xs → AppendsPrefix a b (xs ++ ys)
prefix_more a b xs ys p = record {
  taken = p.taken;
  rest = p.rest ++ ys;
  whole = sym (append_assoc p.taken p.rest ys) ∙ ap (λ zs. zs ++ ys) p.whole;
  appends = p.appends;
}

-- a text, and then a prefix of another
pub prefix_after : (a b c : Option (List ℕ)) (xs ys : List ℕ) → Appends a b xs → AppendsPrefix b c ys → AppendsPrefix a c (xs ++ ys)
prefix_after a b c xs ys h p = record {
  taken = xs ++ p.taken;
  rest = p.rest;
  whole = append_assoc xs p.taken p.rest ∙ ap (λ zs. xs ++ zs) p.whole;
  appends = Appends-trans a b c xs p.taken h p.appends;
}

-- a count that rose later rose over all
pub rose_later : (a b c : ℕ) → a ≤ b → Rose b c → Rose a c
rose_later a b c h r = omega arith

-- a count that rose and then stayed or rose again rose over all
pub rose_kept : (a b c : ℕ) → Rose a b → b ≤ c → Rose a c
rose_kept a b c r h = omega arith

-- a text that was written, and then another
pub writes_then : {S T D E : Type 0} (a b c : Option (List ℕ)) (i j k : ℕ) (xs ys : List ℕ) (x : S) (r : Result T E)
    → Writes {E = D} a b i j (Ok x) xs → Writes b c j k r ys → Writes a c i k r (xs ++ ys)
writes_then a b c i j k xs ys x (Ok y) v w = record {
  later = omega (arith, v.later, w.later);
  whole = Appends-trans a b c xs ys v.whole w.whole;
  cut = tt;
}
writes_then a b c i j k xs ys x (Err e) v w = record {
  later = omega (arith, v.later, w.later);
  whole = tt;
  cut = (rose_later i j k v.later w.cut.0, prefix_after a b c xs ys v.whole w.cut.1);
}

-- a text that was cut is a cut of the text with more
pub writes_cut : {T U D E : Type 0} (a b : Option (List ℕ)) (i j : ℕ) (xs ys : List ℕ) (d : D) (e : E)
    → Writes {T = T} a b i j (Err d) xs → Writes {T = U} a b i j (Err e) (xs ++ ys)
writes_cut a b i j xs ys d e w = record {
  later = w.later;
  whole = tt;
  cut = (w.cut.0, prefix_more a b xs ys w.cut.1);
}

-- nothing was written, and that is the empty text
pub writes_nothing : {T E : Type 0} (a : Option (List ℕ)) (i : ℕ) (x : T) → Writes {E = E} a a i i (Ok x) []
writes_nothing a i x = record { later = omega arith; whole = Appends-nil a; cut = tt }

-- what a call answers beside a text that was written whole
pub writes_ok : {T U D E : Type 0} (a b : Option (List ℕ)) (i j : ℕ) (xs : List ℕ) (x : T) (y : U)
    → Writes {E = D} a b i j (Ok x) xs → Writes {E = E} a b i j (Ok y) xs
writes_ok a b i j xs x y w = record { later = w.later; whole = w.whole; cut = tt }

-- what a call answers beside a text that was cut
pub writes_err : {T U D E : Type 0} (a b : Option (List ℕ)) (i j : ℕ) (xs : List ℕ) (d : D) (e : E)
    → Writes {T = T} a b i j (Err d) xs → Writes {T = U} a b i j (Err e) xs
writes_err a b i j xs d e w = record { later = w.later; whole = tt; cut = w.cut }
