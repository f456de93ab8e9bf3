-- The least pair of the points in a window, point by point, and in any order of the points.
use Rattle.std.proofs.Common.{◌≡◌, ◌∙◌, ℤ, Bool, true, false, cond, ◌&&◌, ◌||◌, List, [], ◌∷◌, ◌++◌, map, refl, sym, ap}
use Rattle.std.proofs.Math.Bool.{and-false}
use Rattle.std.specs.List.{filter}
use Rattle.std.specs.List.Sorted.{IsPermutation}
use Rattle.std.specs.Prelude.{Option, Some, None, int_lt}
use Rattle.sgl_values.proofs.Permutations.{steps, steps-IsPermutation}
use Rattle.sgl_values.specs.Least.{least_of}
use Rattle.sgl_values.specs.Range.{is_between}
use Rattle.extreme_sweep.specs.declared.pair.Pair.{Pair}
use Rattle.extreme_sweep.specs.declared.pair.Entry.{Entry}
use Rattle.extreme_sweep.specs.declared.window.SweepPoint.{SweepPoint}
use Rattle.extreme_sweep.specs.declared.window.Window.{Window}
use Rattle.extreme_sweep.specs.Pairs.{pair_cmp, is_other_than, least_other_than, pair_other_than}
use Rattle.extreme_sweep.specs.Windows.{is_inside, is_reversed, least_inside, pair_inside}
use Rattle.extreme_sweep.proofs.Ints.{between-reversed}
use Rattle.extreme_sweep.proofs.PairLaws.{pair_laws, lesser}

-- the least of an entry and of entries behind it
pub least-entry : (other : Option ℤ) (entry : Entry) (entries : List Entry)
    → least_other_than other (entry ∷ entries) ≡ lesser (pair_other_than other entry) (least_other_than other entries)
least-entry other entry entries = by (is_other_than other entry)
  where
    by : (b : Bool) → least_of pair_cmp (map (λ e. e.pair) (cond b (entry ∷ filter (is_other_than other) entries) (filter (is_other_than other) entries)))
        ≡ lesser (cond b (Some entry.pair) None) (least_other_than other entries)
    by true = refl
    by false = refl

module _ (window : Window) where
  least-cons : (point : SweepPoint) (points : List SweepPoint) → least_inside (point ∷ points) window ≡ lesser (pair_inside window point) (least_inside points window)
  least-cons point points = by (is_inside window point)
    where
      by : (b : Bool) → least_other_than window.other_than (map (λ p. p.entry) (cond b (point ∷ filter (is_inside window) points) (filter (is_inside window) points)))
          ≡ lesser (cond b (pair_other_than window.other_than point.entry) None) (least_inside points window)
      by true = least-entry window.other_than point.entry (map (λ p. p.entry) (filter (is_inside window) points))
      by false = refl

  -- a point behind the others
  pub least-push : (points : List SweepPoint) (point : SweepPoint) → least_inside (points ++ point ∷ []) window ≡ lesser (least_inside points window) (pair_inside window point)
  least-push [] point = least-cons point [] ∙ pair_laws.none-right (pair_inside window point)
  least-push (first ∷ points) point =
      least-cons first (points ++ point ∷ []) ∙ ap (lesser (pair_inside window first)) (least-push points point)
      ∙ sym (pair_laws.assoc (pair_inside window first) (least_inside points window) (pair_inside window point))
      ∙ ap (λ p. lesser p (pair_inside window point)) (sym (least-cons first points))

  abbrev step : SweepPoint → Option Pair → Option Pair
  step point = lesser (pair_inside window point)

  least-steps : (points : List SweepPoint) → least_inside points window ≡ steps step None points
  least-steps [] = refl
  least-steps (point ∷ points) = least-cons point points ∙ ap (step point) (least-steps points)

  -- the points in any order
  pub least-IsPermutation : (points others : List SweepPoint) → IsPermutation points others → least_inside others window ≡ least_inside points window
  least-IsPermutation points others moved =
      least-steps others
      ∙ steps-IsPermutation step None
      (λ x y b. sym (pair_laws.assoc (pair_inside window x) (pair_inside window y) b) ∙ ap (λ a. lesser a b) (pair_laws.comm (pair_inside window x) (pair_inside window y)) ∙ pair_laws.assoc (pair_inside window y) (pair_inside window x) b)
      points others moved
      ∙ sym (least-steps points)

  none-inside : is_reversed window ≡ true → (point : SweepPoint) → is_inside window point ≡ false
  none-inside reversed point = by (int_lt window.x2 window.x1) refl reversed
    where
      by : (b : Bool) → int_lt window.x2 window.x1 ≡ b → (b || int_lt window.y2 window.y1) ≡ true → is_inside window point ≡ false
      by true x e = ap (λ (t : Bool). t && is_between window.y1 window.y2 point.y) (between-reversed window.x1 window.x2 point.x x)
      by false x e = ap (λ (t : Bool). is_between window.x1 window.x2 point.x && t) (between-reversed window.y1 window.y2 point.y e) ∙ and-false (is_between window.x1 window.x2 point.x)

  -- no point is in a window of which an end is before its begin
  pub least-reversed : is_reversed window ≡ true → (points : List SweepPoint) → least_inside points window ≡ None
  least-reversed reversed [] = refl
  least-reversed reversed (point ∷ points) =
      least-cons point points ∙ ap (λ (b : Bool). lesser (cond b (pair_other_than window.other_than point.entry) None) (least_inside points window)) (none-inside reversed point)
      ∙ least-reversed reversed points

-- for all windows
pub least-moved : (points others : List SweepPoint) (windows : List Window) → IsPermutation points others → map (least_inside others) windows ≡ map (least_inside points) windows
least-moved points others [] moved = refl
least-moved points others (window ∷ windows) moved = λ i. least-IsPermutation window points others moved i ∷ least-moved points others windows moved i
