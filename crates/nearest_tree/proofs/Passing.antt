-- Points that a mark stands for, where it tells that none is nearer than what was found.
use Rattle.std.proofs.Common.{◌≡◌, ◌≢◌, ◌∙◌, ◌≤◌, ℕ, ℤ, Bool, true, false, cond, not, List, get_or, [], ◌∷◌, map, refl, sym, ap, arith, true≢false}
use Rattle.std.proofs.lemmas.Cmp.{nat_cmp_total, upto}
use Rattle.std.proofs.lemmas.Int.{ints}
use Rattle.std.proofs.lemmas.List.Elements.{All-cons, All-filter, All-head, All-map, All-nil, All-tail}
use Rattle.std.specs.List.{All, filter}
use Rattle.std.specs.Ordering.{is_gt, nat_cmp}
use Rattle.std.specs.Prelude.{Option, Some, None, ◌≤ℤ◌, option_map}
use Rattle.std.specs.declared.cmp.Ordering.TheVariants.{Less}
use Rattle.sgl_values.specs.Distance.{squared_distance}
use Rattle.sgl_values.specs.Least.{least_of}
use Rattle.sgl_values.proofs.LeastLaws.{least_is, least_none}
use Rattle.nearest_tree.specs.declared.mark.Mark.{Mark}
use Rattle.nearest_tree.specs.declared.near.Near.{Near}
use Rattle.nearest_tree.specs.declared.point.NearPoint.{NearPoint}
use Rattle.nearest_tree.specs.declared.query.Query.{Query}
use Rattle.nearest_tree.specs.Keys.{key_without, least_key_of}
use Rattle.nearest_tree.specs.Marks.{StandsFor, box_distance}
use Rattle.nearest_tree.specs.Nearest.{near_cmp, is_other_than, near_of, nearest_of}
use Rattle.nearest_tree.specs.Queries.{answer_of, bound_of, is_passed}
use Rattle.nearest_tree.proofs.Measuring.{box-below}
use Rattle.nearest_tree.proofs.NearLaws.{near_laws, nearer}

pub map-none : {A B : Type 0} (f : A → B) (xs : List A) → map f xs ≡ [] → xs ≡ []
map-none f [] none = refl
map-none f (x ∷ xs) none = cc

unmapped : {A B : Type 0} (P : B → Type 0) (f : A → B) (xs : List A) → All P (map f xs) → All (λ x. P (f x)) xs
unmapped P f [] all = All-nil (λ x. P (f x))
unmapped P f (x ∷ xs) all = All-cons (λ y. P (f y)) x xs (All-head P (f x) (map f xs) all) (unmapped P f xs (All-tail P (f x) (map f xs) all))

-- none of some is nearer than what was found
none-nearer : (found : Near) (nears : List Near) → All (λ near. is_gt (near_cmp found near) ≡ false) nears → nearer (Some found) (least_of near_cmp nears) ≡ Some found
none-nearer found [] far = refl
none-nearer found (near ∷ nears) far =
    sym (near_laws.assoc (Some found) (Some near) (least_of near_cmp nears))
    ∙ ap (λ (b : Bool). nearer (cond b (Some near) (Some found)) (least_of near_cmp nears)) (All-head (λ (n : Near). is_gt (near_cmp found n) ≡ false) near nears far)
    ∙ none-nearer found nears (All-tail (λ (n : Near). is_gt (near_cmp found n) ≡ false) near nears far)

-- as near at least, with a key that is not greater
not-above : (a b : Near) → a.distance ≤ℤ b.distance → nat_cmp b.key a.key ≢ Less → is_gt (near_cmp a b) ≡ false
not-above a b near key = grind (arith, ints)

module _ (query : Query) (mark : Mark) (points : List NearPoint) (stands : StandsFor mark points) where
  abbrev left : List NearPoint
  left = filter (is_other_than query.other_than) points

  abbrev bound : ℕ → Near
  bound key = record { distance = box_distance query.x query.y mark; key = key }

  -- all points are left out
  none-left : least_key_of query.other_than points ≡ None → answer_of query points ≡ None
  none-left none = ap (λ ps. least_of near_cmp (map (near_of query.x query.y) ps)) (map-none (λ p. p.key) left (least_none nat_cmp (map (λ p. p.key) left) none))

  box : All (λ p. box_distance query.x query.y mark ≤ℤ squared_distance query.x query.y p.x p.y) points
  box k d below =
      box-below query.x query.y mark (get_or points k d) (stands.west.bound k d below) (stands.east.bound k d below) (stands.south.bound k d below) (stands.north.bound k d below)

  -- each point is beyond the bound
  beyond : (key : ℕ) → least_key_of query.other_than points ≡ Some key → All (λ p. is_gt (near_cmp (bound key) (near_of query.x query.y p)) ≡ false) left
  beyond key least =
      let keys = unmapped (λ (k : ℕ). nat_cmp k key ≢ Less) (λ (p : NearPoint). p.key) left ((least_is nat_cmp nat_cmp_total (map (λ p. p.key) left) key least).lowest) in
      let boxed = All-filter (is_other_than query.other_than) (λ p. box_distance query.x query.y mark ≤ℤ squared_distance query.x query.y p.x p.y) points box in
      λ k d below. not-above (bound key) (near_of query.x query.y (get_or left k d)) (boxed k d below) (keys k d below)

  -- where the bound is not nearer, nothing nearer is among the points
  not-nearer : (found : Near) (key : ℕ) → least_key_of query.other_than points ≡ Some key → is_gt (near_cmp found (bound key)) ≡ false
      → nearer (Some found) (answer_of query points) ≡ Some found
  not-nearer found key least far =
      let each = beyond key least in
      none-nearer found (map (near_of query.x query.y) left)
      (All-map (λ (n : Near). is_gt (near_cmp found n) ≡ false) (near_of query.x query.y) left
      (λ k d below. upto near_laws.total found (bound key) (near_of query.x query.y (get_or left k d)) far (each k d below)))

  pub passed-over : (found : Option Near) → is_passed found (bound_of query mark) ≡ true → nearer found (answer_of query points) ≡ found
  passed-over found passed = by found (key_without query.other_than mark.keys) (sym (stands.keys.told query.other_than)) passed
    where
      by : (found : Option Near) (key : Option ℕ) → least_key_of query.other_than points ≡ key → is_passed found (option_map bound key) ≡ true
          → nearer found (answer_of query points) ≡ found
      by found None least passed = ap (nearer found) (none-left least) ∙ near_laws.none-right found
      by None (Some key) least passed = absurd (true≢false (sym passed))
      by (Some near) (Some key) least passed = not-nearer near key least (opened (is_gt (near_cmp near (bound key))) passed)
        where
          opened : (b : Bool) → not b ≡ true → b ≡ false
          opened true is = absurd (true≢false (sym is))
          opened false is = refl
