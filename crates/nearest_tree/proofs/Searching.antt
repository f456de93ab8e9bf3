-- The nearest of points: point by point, side by side, and in any order.
use Rattle.std.proofs.Common.{◌≡◌, ◌∙◌, ℤ, Bool, true, false, cond, List, [], ◌∷◌, ◌++◌, map, refl, sym, ap}
use Rattle.std.specs.List.{filter}
use Rattle.std.specs.List.Sorted.{IsPermutation}
use Rattle.std.specs.Prelude.{Option, Some, None}
use Rattle.std.specs.declared.cmp.Ordering.{Ordering}
use Rattle.sgl_values.proofs.LeastLaws.{LesserLaws}
use Rattle.sgl_values.proofs.Permutations.{steps, steps-IsPermutation}
use Rattle.sgl_values.specs.Least.{least_of, lesser_of}
use Rattle.nearest_tree.specs.declared.near.Near.{Near}
use Rattle.nearest_tree.specs.declared.point.NearPoint.{NearPoint}
use Rattle.nearest_tree.specs.Nearest.{near_cmp, is_other_than, near_of, near_other_than, nearest_of}
use Rattle.nearest_tree.proofs.NearLaws.{near_laws, nearer}

-- the least of what is made of the points that are not of a group
module _ {A : Type 0} {cmp : A → A → Ordering} (laws : LesserLaws cmp) (make : NearPoint → A) (other : Option ℤ) where
  abbrev least : List NearPoint → Option A
  least points = least_of cmp (map make (filter (is_other_than other) points))

  abbrev one : NearPoint → Option A
  one point = cond (is_other_than other point) (Some (make point)) None

  -- a point before the others
  least-cons : (point : NearPoint) (points : List NearPoint) → least (point ∷ points) ≡ lesser_of cmp (one point) (least points)
  least-cons point points = by (is_other_than other point)
    where
      by : (b : Bool) → least_of cmp (map make (cond b (point ∷ filter (is_other_than other) points) (filter (is_other_than other) points)))
          ≡ lesser_of cmp (cond b (Some (make point)) None) (least points)
      by true = refl
      by false = refl

  -- some points before others
  least-append : (points others : List NearPoint) → least (points ++ others) ≡ lesser_of cmp (least points) (least others)
  least-append [] others = refl
  least-append (point ∷ points) others =
      least-cons point (points ++ others) ∙ ap (lesser_of cmp (one point)) (least-append points others)
      ∙ sym (laws.assoc (one point) (least points) (least others))
      ∙ ap (λ n. lesser_of cmp n (least others)) (sym (least-cons point points))

  -- a point behind the others
  pub least-push : (points : List NearPoint) (point : NearPoint) → least (points ++ point ∷ []) ≡ lesser_of cmp (least points) (one point)
  least-push points point = least-append points (point ∷ []) ∙ ap (lesser_of cmp (least points)) (least-cons point [] ∙ laws.none-right (one point))

module _ (x y : ℤ) (other : Option ℤ) where
  abbrev nearest : List NearPoint → Option Near
  nearest = nearest_of x y other

  abbrev near : NearPoint → Option Near
  near = near_other_than x y other

  nearest-cons : (point : NearPoint) (points : List NearPoint) → nearest (point ∷ points) ≡ nearer (near point) (nearest points)
  nearest-cons = least-cons near_laws (near_of x y) other

  -- the root first
  nearest-root : (before behind : List NearPoint) (point : NearPoint)
      → nearest (before ++ point ∷ behind) ≡ nearer (near point) (nearer (nearest before) (nearest behind))
  nearest-root before behind point =
      least-append near_laws (near_of x y) other before (point ∷ behind) ∙ ap (nearer (nearest before)) (nearest-cons point behind)
      ∙ sym (near_laws.assoc (nearest before) (near point) (nearest behind))
      ∙ ap (λ n. nearer n (nearest behind)) (near_laws.comm (nearest before) (near point))
      ∙ near_laws.assoc (near point) (nearest before) (nearest behind)

  module _ (found : Option Near) (before behind : List NearPoint) (point : NearPoint) where
    -- the root, then the side before it, and then the one behind it
    pub searched-forward : nearer (nearer (nearer found (near point)) (nearest before)) (nearest behind) ≡ nearer found (nearest (before ++ point ∷ behind))
    searched-forward =
        near_laws.assoc (nearer found (near point)) (nearest before) (nearest behind)
        ∙ near_laws.assoc found (near point) (nearer (nearest before) (nearest behind))
        ∙ ap (nearer found) (sym (nearest-root before behind point))

    -- the other side first
    pub searched-backward : nearer (nearer (nearer found (near point)) (nearest behind)) (nearest before) ≡ nearer found (nearest (before ++ point ∷ behind))
    searched-backward =
        near_laws.assoc (nearer found (near point)) (nearest behind) (nearest before)
        ∙ ap (nearer (nearer found (near point))) (near_laws.comm (nearest behind) (nearest before))
        ∙ near_laws.assoc found (near point) (nearer (nearest before) (nearest behind))
        ∙ ap (nearer found) (sym (nearest-root before behind point))

  abbrev step : NearPoint → Option Near → Option Near
  step point = nearer (near point)

  nearest-steps : (points : List NearPoint) → nearest points ≡ steps step None points
  nearest-steps [] = refl
  nearest-steps (point ∷ points) = nearest-cons point points ∙ ap (step point) (nearest-steps points)

  -- the points in any order
  pub nearest-IsPermutation : (points others : List NearPoint) → IsPermutation points others → nearest points ≡ nearest others
  nearest-IsPermutation points others moved =
      nearest-steps points
      ∙ sym (steps-IsPermutation step None
      (λ a b n. sym (near_laws.assoc (near a) (near b) n) ∙ ap (λ m. nearer m n) (near_laws.comm (near a) (near b)) ∙ near_laws.assoc (near b) (near a) n)
      points others moved)
      ∙ sym (nearest-steps others)
