-- The mark of one point, and that of one point more.
use Rattle.std.proofs.Common.{◌≡◌, ◌∙◌, ℤ, Bool, true, false, cond, List, [], ◌∷◌, ◌++◌, refl, sym, subst, arith}
use Rattle.std.proofs.lemmas.Int.{ints}
use Rattle.std.proofs.lemmas.List.Elements.{All-cons, All-nil, All-push, All-weaker, Contains-append_left, Contains-push}
use Rattle.std.specs.List.{Contains}
use Rattle.std.specs.Prelude.{◌≤ℤ◌, int_lt}
use Rattle.nearest_tree.specs.declared.mark.Mark.{Mark}
use Rattle.nearest_tree.specs.declared.point.NearPoint.{NearPoint}
use Rattle.nearest_tree.specs.Keys.{AreLeastKeys}
use Rattle.nearest_tree.specs.Marks.{IsLeastOf, IsGreatestOf, StandsFor, lesser_of_two, greater_of_two}

lesser-first : (a b : ℤ) → lesser_of_two a b ≤ℤ a
lesser-first a b = grind (arith, ints)

lesser-second : (a b : ℤ) → lesser_of_two a b ≤ℤ b
lesser-second a b = grind (arith, ints)

greater-first : (a b : ℤ) → a ≤ℤ greater_of_two a b
greater-first a b = grind (arith, ints)

greater-second : (a b : ℤ) → b ≤ℤ greater_of_two a b
greater-second a b = grind (arith, ints)

same-is-least : (a : ℤ) → a ≤ℤ a
same-is-least a = omega (arith, ints)

module _ (number : NearPoint → ℤ) where
  abbrev IsMet : List NearPoint → ℤ → Type 0
  IsMet points n = (point : NearPoint) × Contains points point × (number point ≡ n)

  met-still : (points : List NearPoint) (point : NearPoint) (n : ℤ) → IsMet points n → IsMet (points ++ point ∷ []) n
  met-still points point n met = (met.0, Contains-append_left points (point ∷ []) met.0 met.1, met.2)

  met-now : (points : List NearPoint) (point : NearPoint) → IsMet (points ++ point ∷ []) (number point)
  met-now points point = (point, Contains-push points point, refl)

  met-either : (points : List NearPoint) (point : NearPoint) (n : ℤ) → IsMet points n → (b : Bool) → IsMet (points ++ point ∷ []) (cond b (number point) n)
  met-either points point n met true = met-now points point
  met-either points point n met false = met-still points point n met

  least-one : (point : NearPoint) → IsLeastOf number (point ∷ []) (number point)
  least-one point = record {
    bound = All-cons (λ p. number point ≤ℤ number p) point [] (same-is-least (number point)) (All-nil (λ p. number point ≤ℤ number p));
    met = met-now [] point;
  }

  greatest-one : (point : NearPoint) → IsGreatestOf number (point ∷ []) (number point)
  greatest-one point = record {
    bound = All-cons (λ p. number p ≤ℤ number point) point [] (same-is-least (number point)) (All-nil (λ p. number p ≤ℤ number point));
    met = met-now [] point;
  }

  least-push : (points : List NearPoint) (point : NearPoint) (low : ℤ) → IsLeastOf number points low
      → IsLeastOf number (points ++ point ∷ []) (lesser_of_two low (number point))
  least-push points point low least =
      let new = lesser_of_two low (number point) in
      record {
        bound = All-push (λ p. new ≤ℤ number p) points point
            (All-weaker (λ p. low ≤ℤ number p) (λ p. new ≤ℤ number p) (λ p above. omega (arith, ints, above, lesser-first low (number point))) points least.bound)
            (lesser-second low (number point));
        met = met-either points point low least.met (int_lt (number point) low);
      }

  greatest-push : (points : List NearPoint) (point : NearPoint) (high : ℤ) → IsGreatestOf number points high
      → IsGreatestOf number (points ++ point ∷ []) (greater_of_two high (number point))
  greatest-push points point high greatest =
      let new = greater_of_two high (number point) in
      record {
        bound = All-push (λ p. number p ≤ℤ new) points point
            (All-weaker (λ p. number p ≤ℤ high) (λ p. number p ≤ℤ new) (λ p below. omega (arith, ints, below, greater-first high (number point))) points greatest.bound)
            (greater-second high (number point));
        met = met-either points point high greatest.met (int_lt high (number point));
      }

pub stands-one : (mark : Mark) (point : NearPoint) → mark.west ≡ point.x → mark.east ≡ point.x → mark.south ≡ point.y → mark.north ≡ point.y → AreLeastKeys mark.keys (point ∷ [])
    → StandsFor mark (point ∷ [])
stands-one mark point west east south north keys = record {
  west = subst (IsLeastOf (λ p. p.x) (point ∷ [])) (sym west) (least-one (λ p. p.x) point);
  east = subst (IsGreatestOf (λ p. p.x) (point ∷ [])) (sym east) (greatest-one (λ p. p.x) point);
  south = subst (IsLeastOf (λ p. p.y) (point ∷ [])) (sym south) (least-one (λ p. p.y) point);
  north = subst (IsGreatestOf (λ p. p.y) (point ∷ [])) (sym north) (greatest-one (λ p. p.y) point);
  keys = keys;
}

pub stands-more : (old new : Mark) (point : NearPoint) (points : List NearPoint) → StandsFor old points
    → new.west ≡ lesser_of_two old.west point.x → new.east ≡ greater_of_two old.east point.x
    → new.south ≡ lesser_of_two old.south point.y → new.north ≡ greater_of_two old.north point.y
    → AreLeastKeys new.keys (points ++ point ∷ [])
    → StandsFor new (points ++ point ∷ [])
stands-more old new point points stands west east south north keys =
    let all : List NearPoint = points ++ point ∷ [] in
    record {
      west = subst (IsLeastOf (λ p. p.x) all) (sym west) (least-push (λ p. p.x) points point old.west stands.west);
      east = subst (IsGreatestOf (λ p. p.x) all) (sym east) (greatest-push (λ p. p.x) points point old.east stands.east);
      south = subst (IsLeastOf (λ p. p.y) all) (sym south) (least-push (λ p. p.y) points point old.south stands.south);
      north = subst (IsGreatestOf (λ p. p.y) all) (sym north) (greatest-push (λ p. p.y) points point old.north stands.north);
      keys = keys;
    }
