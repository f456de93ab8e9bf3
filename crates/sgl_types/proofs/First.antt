-- The first of a list.
use Rattle.std.proofs.Common.{◌≡◌, ℕ, ◌==◌, ◌&&◌, ◌||◌, nat_lt, Bool, true, false, List, [], ◌∷◌, Some, None, inl, inr, if◌then◌else◌, subst, refl, sym, arith}
use Rattle.sgl_types.specs.declared.finding.Finding.{Finding}
use Rattle.sgl_types.specs.Findings.{is_before, kind_number, noted, earlier, IsOneOf, IsFirst}

-- a number decides, and of equal ones what stands behind it
abbrev lex : ℕ → ℕ → Bool → Bool
lex a b behind = nat_lt a b || ((a == b) && behind)

lex_through : (a d g : ℕ) (x y z : Bool) → (y ≡ true → x ≡ false → z ≡ true) → lex a g y ≡ true → lex a d x ≡ false → lex d g z ≡ true
lex_through a d g true true true h p q = grind (arith)
lex_through a d g true true false h p q = grind (arith)
lex_through a d g true false true h p q = grind (arith)
lex_through a d g true false false h p q = grind (arith)
lex_through a d g false true true h p q = grind (arith)
lex_through a d g false true false h p q = absurd (let e : false ≡ true = h refl refl in cc)
lex_through a d g false false true h p q = grind (arith)
lex_through a d g false false false h p q = grind (arith)

last : (a b c : ℕ) → nat_lt a c ≡ true → nat_lt a b ≡ false → nat_lt b c ≡ true
last a b c p q = grind (arith)

never_both : (a b c d e f : ℕ) → lex a d (lex b e (nat_lt c f)) ≡ true → lex d a (lex e b (nat_lt f c)) ≡ false
never_both a b c d e f p = grind (arith)

never_self : (a b c : ℕ) → lex a a (lex b b (nat_lt c c)) ≡ false
never_self a b c = grind (arith)

-- where one stands before another, and not before a third, the third stands before the other
before-through : (f g h : Finding) → is_before f h ≡ true → is_before f g ≡ false → is_before g h ≡ true
before-through f g h =
    lex_through f.place.line g.place.line h.place.line _ _ _
    (lex_through f.place.col g.place.col h.place.col _ _ _
    (λ p q. last (kind_number f.kind) (kind_number g.kind) (kind_number h.kind) p q))

before-not : (f g : Finding) → is_before f g ≡ true → is_before g f ≡ false
before-not f g p = never_both f.place.line f.place.col (kind_number f.kind) g.place.line g.place.col (kind_number g.kind) p

not-self : (f : Finding) → is_before f f ≡ false
not-self f = never_self f.place.line f.place.col (kind_number f.kind)

none-before : (x y : Bool) → (x ≡ true → y ≡ true) → y ≡ false → x ≡ false
none-before true true h p = p
none-before true false h p = absurd (let e : false ≡ true = h refl in cc)
none-before false y h p = refl

in-second : (f g h : Finding) (fs : List Finding) → IsOneOf f (h ∷ fs) → IsOneOf f (g ∷ h ∷ fs)
in-second f g h fs is = inr is

in-first : (f g h : Finding) (fs : List Finding) → IsOneOf f (g ∷ fs) → IsOneOf f (g ∷ h ∷ fs)
in-first f g h fs (inl is) = inl is
in-first f g h fs (inr is) = inr (inr is)

second : (f g h : Finding) (fs : List Finding) (b : Bool) → is_before h g ≡ b → IsFirst f ((if b then h else g) ∷ fs) → IsFirst f (g ∷ h ∷ fs)
second f g h fs true before is = record {
  among = in-second f g h fs is.among;
  first = (none-before (is_before g f) (is_before h f) (λ p. before-through g h f p (before-not h g before)) is.first.0, is.first);
}
second f g h fs false before is = record {
  among = in-first f g h fs is.among;
  first = (is.first.0, (none-before (is_before h f) (is_before g f) (λ p. before-through h g f p before) is.first.0, is.first.1));
}

first-of : (g : Finding) (fs : List Finding) (f : Finding) → noted (Some g) fs ≡ Some f → IsFirst f (g ∷ fs)
first-of g [] f is =
    let e : f ≡ g = cc in
    record { among = inl e; first = (subst (λ x. is_before g x ≡ false) (sym e) (not-self g), tt) }
first-of g (h ∷ fs) f is = second f g h fs (is_before h g) refl (first-of (earlier (Some g) h) fs f is)

-- what is kept is the first
pub is_first : (fs : List Finding) (f : Finding) → noted None fs ≡ Some f → IsFirst f fs
is_first [] f is = absurd (cc)
is_first (g ∷ fs) f is = first-of g fs f is

kept : (g : Finding) (fs : List Finding) → noted (Some g) fs ≡ None → ⊥
kept g [] is = absurd (cc)
kept g (h ∷ fs) is = kept (earlier (Some g) h) fs is

-- nothing is kept of nothing alone
pub is_none : (fs : List Finding) → noted None fs ≡ None → fs ≡ []
is_none [] is = refl
is_none (g ∷ fs) is = absurd (kept g fs is)
