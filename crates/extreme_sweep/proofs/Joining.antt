-- What stands below the node that joins two.
use Rattle.std.proofs.Common.{◌≡◌, ◌∙◌, ℤ, Bool, true, false, cond, not, refl, sym, ap, inl, inr, ⊎_elim}
use Rattle.std.specs.Prelude.{Option, Some, None, ◌⊎◌}
use Rattle.std.specs.Option.{option_map}
use Rattle.std.specs.Cmp.{tied_itself}
use Rattle.std.specs.Ordering.{int_eq, is_gt}
use Rattle.sgl_values.proofs.LeastLaws.{int-same}
use Rattle.extreme_sweep.specs.declared.pair.Pair.{Pair}
use Rattle.extreme_sweep.specs.declared.pair.Entry.{Entry}
use Rattle.extreme_sweep.specs.declared.node.Node.{Node}
use Rattle.extreme_sweep.specs.declared.node.Node.TheVariants.{Empty, Single, Double}
use Rattle.extreme_sweep.specs.Pairs.{pair_cmp}
use Rattle.extreme_sweep.specs.Nodes.{entry_below, least_below, lesser_entry, node_of, IsSound, Joins}
use Rattle.extreme_sweep.proofs.PairLaws.{pair_laws, lesser, lesser-first}

abbrev pair_of : Option Entry → Option Pair
pair_of = option_map (λ entry. entry.pair)

inside : {A : Type 0} (x y : A) → Some x ≡ Some y → x ≡ y
inside x y same = cc

-- the pair of the lesser entry is the lesser pair
pair-lesser : (a b : Option Entry) → pair_of (lesser_entry a b) ≡ lesser (pair_of a) (pair_of b)
pair-lesser None b = refl
pair-lesser (Some x) None = refl
pair-lesser (Some x) (Some y) = by (is_gt (pair_cmp x.pair y.pair))
  where
    by : (g : Bool) → pair_of (cond g (Some y) (Some x)) ≡ cond g (Some y.pair) (Some x.pair)
    by true = refl
    by false = refl

-- the lesser entry is one of the two
one-lesser : (a b : Option Entry) (e : Entry) → lesser_entry a b ≡ Some e → (a ≡ Some e) ⊎ (b ≡ Some e)
one-lesser None b e is = inr is
one-lesser (Some x) None e is = inl is
one-lesser (Some x) (Some y) e is = by (is_gt (pair_cmp x.pair y.pair)) is
  where
    by : (g : Bool) → cond g (Some y) (Some x) ≡ Some e → (Some x ≡ Some e) ⊎ (Some y ≡ Some e)
    by true is = inr is
    by false is = inl is

lesser-self : (p : Pair) → lesser (Some p) (Some p) ≡ Some p
lesser-self p = by (is_gt (pair_cmp p p))
  where
    by : (g : Bool) → cond g (Some p) (Some p) ≡ Some p
    by true = refl
    by false = refl

not-above : (p q : Pair) → lesser (Some p) (Some q) ≡ Some p → is_gt (pair_cmp p q) ≡ false
not-above p q is = by (is_gt (pair_cmp p q)) refl is
  where
    by : (g : Bool) → is_gt (pair_cmp p q) ≡ g → cond g (Some q) (Some p) ≡ Some p → is_gt (pair_cmp p q) ≡ false
    by true above is = ap (λ (r : Pair). is_gt (pair_cmp p r)) (inside q p is) ∙ ap is_gt (tied_itself pair_laws.total p)
    by false above is = above

-- nothing below a node is below its first
absorbs : (node : Node) → IsSound node → (other : Option ℤ) → lesser (least_below None node) (least_below other node) ≡ least_below None node
absorbs Empty sound other = refl
absorbs (Single e) sound None = lesser-self e.pair
absorbs (Single e) sound (Some g) = by (not (int_eq e.group g))
  where
    by : (b : Bool) → lesser (Some e.pair) (pair_of (cond b (Some e) None)) ≡ Some e.pair
    by true = lesser-self e.pair
    by false = refl
absorbs (Double f s) sound None = lesser-self f.pair
absorbs (Double f s) sound (Some g) = by (not (int_eq f.group g))
  where
    by : (b : Bool) → lesser (Some f.pair) (pair_of (cond b (Some f) (Some s))) ≡ Some f.pair
    by true = lesser-self f.pair
    by false = lesser-first f.pair s.pair sound.1

-- the first of a node, where it is of another group
first-below : (node : Node) (e : Entry) (g : ℤ) → entry_below None node ≡ Some e → int_eq e.group g ≡ false → least_below (Some g) node ≡ Some e.pair
first-below Empty e g is away = cc
first-below (Single f) e g is away =
    let same = inside f e is in
    ap (λ (x : Entry). pair_of (cond (not (int_eq x.group g)) (Some x) None)) same ∙ ap (λ (b : Bool). pair_of (cond (not b) (Some e) None)) away
first-below (Double f s) e g is away =
    let same = inside f e is in
    ap (λ (x : Entry). pair_of (cond (not (int_eq x.group g)) (Some x) (Some s))) same ∙ ap (λ (b : Bool). pair_of (cond (not b) (Some e) (Some s))) away

-- what is found of other groups is of another group
other-below : (node : Node) (e : Entry) (g : ℤ) → IsSound node → entry_below (Some g) node ≡ Some e → int_eq e.group g ≡ false
other-below Empty e g sound is = cc
other-below (Single f) e g sound is = by (int_eq f.group g) refl is
  where
    by : (b : Bool) → int_eq f.group g ≡ b → cond (not b) (Some f) None ≡ Some e → int_eq e.group g ≡ false
    by true same is = cc
    by false away is = ap (λ (x : Entry). int_eq x.group g) (sym (inside f e is)) ∙ away
other-below (Double f s) e g sound is = by (int_eq f.group g) refl is
  where
    by : (b : Bool) → int_eq f.group g ≡ b → cond (not b) (Some f) (Some s) ≡ Some e → int_eq e.group g ≡ false
    by true same is = ap (λ (x : Entry). int_eq x.group g) (sym (inside s e is)) ∙ ap (λ (h : ℤ). int_eq s.group h) (sym (int-same f.group g same)) ∙ sound.0
    by false away is = ap (λ (x : Entry). int_eq x.group g) (sym (inside f e is)) ∙ away

-- below a node that has a first and a second
below-first : (first : Entry) (second : Option Entry) → least_below None (node_of first second) ≡ Some first.pair
below-first first None = refl
below-first first (Some s) = refl

below-away : (first : Entry) (second : Option Entry) (g : ℤ) → int_eq first.group g ≡ false → least_below (Some g) (node_of first second) ≡ Some first.pair
below-away first None g away = first-below (Single first) first g refl away
below-away first (Some s) g away = first-below (Double first s) first g refl away

below-same : (first : Entry) (second : Option Entry) (g : ℤ) → int_eq first.group g ≡ true → least_below (Some g) (node_of first second) ≡ pair_of second
below-same first None g same = ap (λ (b : Bool). pair_of (cond (not b) (Some first) None)) same
below-same first (Some s) g same = ap (λ (b : Bool). pair_of (cond (not b) (Some first) (Some s))) same

module _ (left right : Node) (left-sound : IsSound left) (right-sound : IsSound right) (first : Entry) (is : lesser_entry (entry_below None left) (entry_below None right) ≡ Some first) where
  abbrev second_of : ℤ → Option Entry
  second_of g = lesser_entry (entry_below (Some g) left) (entry_below (Some g) right)

  least : Some first.pair ≡ lesser (least_below None left) (least_below None right)
  least = sym (ap pair_of is) ∙ pair-lesser (entry_below None left) (entry_below None right)

  absorbs-right : (other : Option ℤ) → lesser (Some first.pair) (least_below other right) ≡ Some first.pair
  absorbs-right other =
      ap (λ (p : Option Pair). lesser p (least_below other right)) least
      ∙ pair_laws.assoc (least_below None left) (least_below None right) (least_below other right)
      ∙ ap (lesser (least_below None left)) (absorbs right right-sound other) ∙ sym least

  absorbs-left : (other : Option ℤ) → lesser (Some first.pair) (least_below other left) ≡ Some first.pair
  absorbs-left other =
      ap (λ (p : Option Pair). lesser p (least_below other left)) (least ∙ pair_laws.comm (least_below None left) (least_below None right))
      ∙ pair_laws.assoc (least_below None right) (least_below None left) (least_below other left)
      ∙ ap (lesser (least_below None right)) (absorbs left left-sound other) ∙ pair_laws.comm (least_below None right) (least_below None left) ∙ sym least

  absorbs-both : (other : Option ℤ) → lesser (Some first.pair) (lesser (least_below other left) (least_below other right)) ≡ Some first.pair
  absorbs-both other =
      sym (pair_laws.assoc (Some first.pair) (least_below other left) (least_below other right))
      ∙ ap (λ (p : Option Pair). lesser p (least_below other right)) (absorbs-left other) ∙ absorbs-right other

  joins-away : (g : ℤ) → int_eq first.group g ≡ false → Some first.pair ≡ lesser (least_below (Some g) left) (least_below (Some g) right)
  joins-away g away = ⊎_elim
      (λ here. sym (ap (λ (p : Option Pair). lesser p (least_below (Some g) right)) (first-below left first g here away) ∙ absorbs-right (Some g)))
      (λ here. sym (ap (lesser (least_below (Some g) left)) (first-below right first g here away) ∙ pair_laws.comm (least_below (Some g) left) (Some first.pair) ∙ absorbs-left (Some g)))
      (one-lesser (entry_below None left) (entry_below None right) first is)

  joins-other : (second : Option Entry) (g : ℤ) (b : Bool) → int_eq first.group g ≡ b → second ≡ second_of first.group
      → least_below (Some g) (node_of first second) ≡ lesser (least_below (Some g) left) (least_below (Some g) right)
  joins-other second g true same from =
      below-same first second g same ∙ ap pair_of from ∙ ap (λ (h : ℤ). pair_of (second_of h)) (int-same first.group g same)
      ∙ pair-lesser (entry_below (Some g) left) (entry_below (Some g) right)
  joins-other second g false away from = below-away first second g away ∙ joins-away g away

  pub joins : (second : Option Entry) → second ≡ second_of first.group → Joins left right (node_of first second)
  joins second from None = below-first first second ∙ least
  joins second from (Some g) = joins-other second g (int_eq first.group g) refl from

  pub sound : (second : Option Entry) → second ≡ second_of first.group → IsSound (node_of first second)
  sound None from = tt
  sound (Some s) from =
      let other = ⊎_elim
      (λ here. other-below left s first.group left-sound here)
      (λ here. other-below right s first.group right-sound here)
      (one-lesser (entry_below (Some first.group) left) (entry_below (Some first.group) right) s (sym from)) in
      let pair : Some s.pair ≡ lesser (least_below (Some first.group) left) (least_below (Some first.group) right) =
      ap pair_of from ∙ pair-lesser (entry_below (Some first.group) left) (entry_below (Some first.group) right) in
      (other, not-above first.pair s.pair (ap (lesser (Some first.pair)) pair ∙ absorbs-both (Some first.group)))
