-- The least keys of one point, and of one point more.
use Rattle.std.proofs.Common.{◌≡◌, ◌≢◌, ◌∙◌, ◌<◌, ◌≤◌, ℕ, ℤ, Bool, true, false, cond, not, List, [], ◌∷◌, ◌++◌, refl, sym, ap, arith}
use Rattle.std.proofs.lemmas.Cmp.{nat_cmp_total}
use Rattle.std.proofs.lemmas.Int.{ints}
use Rattle.std.specs.Ordering.{int_eq, is_gt, nat_cmp}
use Rattle.std.specs.Prelude.{Option, Some, None}
use Rattle.sgl_values.specs.Least.{lesser_of}
use Rattle.sgl_values.proofs.LeastLaws.{LesserLaws, lesser_laws, nat-equal, int-same}
use Rattle.nearest_tree.specs.declared.keys.LeastKeys.{LeastKeys}
use Rattle.nearest_tree.specs.declared.point.NearPoint.{NearPoint}
use Rattle.nearest_tree.specs.Keys.{AreLeastKeys, key_without, least_key_of}
use Rattle.nearest_tree.specs.Nearest.{is_other_than}
use Rattle.nearest_tree.proofs.Searching.{least-push}

abbrev lesser_key : Option ℕ → Option ℕ → Option ℕ
lesser_key = lesser_of nat_cmp

key_laws : LesserLaws nat_cmp
key_laws = lesser_laws nat_cmp nat_cmp_total nat-equal

-- the key of a point that is not of the group
abbrev kept : Option ℤ → NearPoint → Option ℕ
kept other point = cond (is_other_than other point) (Some point.key) None

first-stays : (a b : ℕ) → a ≤ b → lesser_key (Some a) (Some b) ≡ Some a
first-stays a b below = grind arith

second-comes : (a b : ℕ) → b < a → lesser_key (Some a) (Some b) ≡ Some b
second-comes a b below = grind arith

inside : (a b : ℕ) → Some a ≡ Some b → a ≡ b
inside a b same = cc

int-turned : (a b : ℤ) → int_eq a b ≡ int_eq b a
int-turned a b = grind (arith, ints)

module _ (old new : LeastKeys) (point : NearPoint) where
  -- what keys tell with one point more
  abbrev Tells : Type 0
  Tells = (other : Option ℤ) → key_without other new ≡ lesser_key (key_without other old) (kept other point)

  -- the first of new keys is not above the other
  abbrev IsFirst : Type 0
  IsFirst = (key : ℕ) → new.other ≡ Some key → new.first ≤ key

  keys-more : (points : List NearPoint) → AreLeastKeys old points → Tells → IsFirst → AreLeastKeys new (points ++ point ∷ [])
  keys-more points are tells first = record {
    told = λ other. tells other ∙ ap (λ o. lesser_key o (kept other point)) (are.told other) ∙ sym (least-push key_laws (λ (p : NearPoint). p.key) other points point);
    first = first;
  }

  -- what is told without a group, by whether it is that of the new keys, of the old ones and of the point
  told-at : (group : ℤ) (a b c : Bool) → int_eq group new.group ≡ a → int_eq group old.group ≡ b → int_eq group point.group ≡ c
      → cond a new.other (Some new.first) ≡ lesser_key (cond b old.other (Some old.first)) (cond (not c) (Some point.key) None)
      → key_without (Some group) new ≡ lesser_key (key_without (Some group) old) (kept (Some group) point)
  told-at group a b c new-is old-is point-is same =
      ap (λ (t : Bool). cond t new.other (Some new.first)) new-is ∙ same
      ∙ sym (λ i. lesser_key (cond (old-is i) old.other (Some old.first)) (cond (not ((int-turned point.group group ∙ point-is) i)) (Some point.key) None))

  -- a point of the group of the first
  pub keys-same : (points : List NearPoint) → AreLeastKeys old points → point.group ≡ old.group → new.group ≡ old.group
      → lesser_key (Some old.first) (Some point.key) ≡ Some new.first → new.first ≤ old.first → new.other ≡ old.other
      → AreLeastKeys new (points ++ point ∷ [])
  keys-same points are point-is group-is first-is below other-is = keys-more points are tells first
    where
      tells : Tells
      tells None = sym first-is
      tells (Some group) = by (int_eq group old.group) refl
        where
          by : (b : Bool) → int_eq group old.group ≡ b → key_without (Some group) new ≡ lesser_key (key_without (Some group) old) (kept (Some group) point)
          by true is = told-at group true true true (ap (int_eq group) group-is ∙ is) is (ap (int_eq group) point-is ∙ is) (other-is ∙ sym (key_laws.none-right old.other))
          by false is = told-at group false false false (ap (int_eq group) group-is ∙ is) is (ap (int_eq group) point-is ∙ is) (sym first-is)

      first : IsFirst
      first key is = let old-first : old.first ≤ key = are.first key (sym other-is ∙ is) in omega (arith, old-first, below)

  -- in both ways that a point of another group comes: the new group is that of the point or the old one, as `pick` takes of the two tests
  another-tells : point.group ≢ old.group → (pick : Bool → Bool → Bool)
      → ((group : ℤ) → int_eq group new.group ≡ pick (int_eq group old.group) (int_eq group point.group))
      → Some new.first ≡ lesser_key (Some old.first) (Some point.key)
      → cond (pick true false) new.other (Some new.first) ≡ lesser_key old.other (Some point.key)
      → cond (pick false true) new.other (Some new.first) ≡ Some old.first
      → pick false false ≡ false → Tells
  another-tells another pick picked both of-old of-point neither None = both
  another-tells another pick picked both of-old of-point neither (Some group) = by (int_eq group old.group) refl (int_eq group point.group) refl
    where
      at : (b c : Bool) → int_eq group old.group ≡ b → int_eq group point.group ≡ c
          → cond (pick b c) new.other (Some new.first) ≡ lesser_key (cond b old.other (Some old.first)) (cond (not c) (Some point.key) None)
          → key_without (Some group) new ≡ lesser_key (key_without (Some group) old) (kept (Some group) point)
      at b c is point-is = told-at group (pick b c) b c (picked group ∙ λ i. pick (is i) (point-is i)) is point-is

      by : (b : Bool) → int_eq group old.group ≡ b → (c : Bool) → int_eq group point.group ≡ c
          → key_without (Some group) new ≡ lesser_key (key_without (Some group) old) (kept (Some group) point)
      by true is true point-is = absurd (another (sym (int-same group point.group point-is) ∙ int-same group old.group is))
      by true is false point-is = at true false is point-is of-old
      by false is true point-is = at false true is point-is of-point
      by false is false point-is = at false false is point-is (ap (λ (t : Bool). cond t new.other (Some new.first)) neither ∙ both)

  -- a point of another group, with a lesser key
  pub keys-new-first : (points : List NearPoint) → AreLeastKeys old points → point.group ≢ old.group → point.key < old.first → new.group ≡ point.group
      → new.first ≡ point.key → new.other ≡ Some old.first → AreLeastKeys new (points ++ point ∷ [])
  keys-new-first points are another lesser group-is first-is other-is =
      keys-more points are (another-tells another (λ of-old of-point. of-point) (λ group. ap (int_eq group) group-is) both (rest old.other refl) other-is refl) first
    where
      both : Some new.first ≡ lesser_key (Some old.first) (Some point.key)
      both = ap Some first-is ∙ sym (second-comes old.first point.key lesser)

      rest : (other : Option ℕ) → old.other ≡ other → Some new.first ≡ lesser_key other (Some point.key)
      rest None is = ap Some first-is
      rest (Some key) is =
          let above : old.first ≤ key = are.first key is in
          ap Some first-is ∙ sym (second-comes key point.key (omega (arith, above, lesser)))

      first : IsFirst
      first key is =
          let same : old.first ≡ key = inside old.first key (sym other-is ∙ is) in
          omega (arith, same, lesser, first-is)

  -- a point of another group, with a key that is not less
  pub keys-stay : (points : List NearPoint) → AreLeastKeys old points → point.group ≢ old.group → old.first ≤ point.key → new.group ≡ old.group
      → new.first ≡ old.first → new.other ≡ lesser_key old.other (Some point.key) → AreLeastKeys new (points ++ point ∷ [])
  keys-stay points are another above group-is first-is other-is =
      keys-more points are (another-tells another (λ of-old of-point. of-old) (λ group. ap (int_eq group) group-is) both other-is (ap Some first-is) refl) first
    where
      both : Some new.first ≡ lesser_key (Some old.first) (Some point.key)
      both = ap Some first-is ∙ sym (first-stays old.first point.key above)

      not-below : (other : Option ℕ) → old.other ≡ other → (key : ℕ) → lesser_key other (Some point.key) ≡ Some key → old.first ≤ key
      not-below None is key told = let same = inside point.key key told in omega (arith, same, above)
      not-below (Some old-key) is key told = by (is_gt (nat_cmp old-key point.key)) told
        where
          by : (b : Bool) → cond b (Some point.key) (Some old-key) ≡ Some key → old.first ≤ key
          by true same = let e = inside point.key key same in omega (arith, e, above)
          by false same = let e = inside old-key key same in omega (arith, e, are.first old-key is)

      first : IsFirst
      first key is = let h : old.first ≤ key = not-below old.other refl key (sym other-is ∙ is) in omega (arith, h, first-is)
