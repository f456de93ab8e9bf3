-- The lesser of two is associative, and commutative where equals are one; the least of a list is one of it, and none is below it.
use Rattle.std.proofs.Common.{◌≡◌, ◌≢◌, ℕ, ℤ, ◌<ℤ◌, List, [], ◌∷◌, ◌<◌, arith, cond, Bool, true, false, sym, refl, ap, ◌∙◌, subst, true≢false}
use Rattle.std.specs.Prelude.{Option, Some, None}
use Rattle.std.specs.Cmp.{IsTotalOrder, tied_itself}
use Rattle.std.specs.List.{All, Contains}
use Rattle.std.proofs.lemmas.List.Elements.{All-nil, All-cons, All-same, All-weaker, Contains-append_right}
use Rattle.std.specs.Ordering.{is_gt, is_lt, nat_cmp, int_cmp, int_eq, on, then_cmp, ordering_then, ordering_reverse, MatchOrdering}
use Rattle.std.specs.declared.cmp.Ordering.{Ordering}
use Rattle.std.specs.declared.cmp.Ordering.TheVariants.{Less, Equal, Greater}
use Rattle.std.proofs.lemmas.Int.{ints}
use Rattle.std.proofs.lemmas.Cmp.{upto, ranked, int_ranked, nat_cmp_total, int_cmp_total, on_total, then_total, back_total}
use Rattle.sgl_values.specs.declared.fault.ArithFault.{ArithFault}
use Rattle.sgl_values.specs.declared.fault.ArithFault.TheVariants.{Overflow, ZeroDivisor, Priority}
use Rattle.sgl_values.specs.declared.fault.Fault.{Fault}
use Rattle.sgl_values.specs.declared.place.Place.{Place}
use Rattle.sgl_values.specs.declared.item.ItemFault.{ItemFault}
use Rattle.sgl_values.specs.Amounts.{Amount, amount_cmp, falling_cmp}
use Rattle.sgl_values.specs.ItemOrder.{kind_number, place_cmp, fault_cmp, item_fault_cmp}
use Rattle.sgl_values.specs.Least.{lesser_of, least_of}
use Rattle.sgl_values.specs.Laws.{IsLeast}
use Rattle.sgl_values.specs.Totals.{IsAssociative, IsCommutative}

inside : {A : Type 0} (x y : A) → Some x ≡ Some y → x ≡ y
inside x y same = cc

nothing : {A : Type 0} (x : A) → None ≡ Some x → ⊥
nothing x same = cc

module _ {A : Type 0} (cmp : A → A → Ordering) where
  there-is : (x : A) (rest : Option A) → lesser_of cmp (Some x) rest ≡ None → ⊥
  there-is x None h = nothing x (sym h)
  there-is x (Some y) h = by (is_gt (cmp x y)) h
    where
      by : (g : Bool) → cond g (Some y) (Some x) ≡ None → ⊥
      by true e = nothing y (sym e)
      by false e = nothing x (sym e)

  -- a list without a least is empty
  pub least_none : (xs : List A) → least_of cmp xs ≡ None → xs ≡ []
  least_none [] h = refl
  least_none (x ∷ xs) h = absurd (there-is x (least_of cmp xs) h)

module _ {A : Type 0} (cmp : A → A → Ordering) (order : IsTotalOrder cmp) where
  gt-back : (o p : Ordering) → o ≡ ordering_reverse p → is_gt o ≡ true → is_gt p ≡ false
  gt-back o Less e h = refl
  gt-back o Equal e h = refl
  gt-back o Greater e h = absurd (true≢false (sym h ∙ ap is_gt e))

  back : (x y : A) → is_gt (cmp x y) ≡ true → is_gt (cmp y x) ≡ false
  back x y h = gt-back (cmp x y) (cmp y x) (order.antisymm x y) h

  gt-cases : (o p : Ordering) → o ≡ ordering_reverse p → is_gt o ≡ false → is_gt p ≡ false → o ≡ Equal
  gt-cases o Less e h k = absurd (true≢false (sym (ap is_gt e) ∙ h))
  gt-cases o Equal e h k = e
  gt-cases o Greater e h k = absurd (true≢false k)

  through : (x y z : A) → is_gt (cmp x y) ≡ true → is_gt (cmp y z) ≡ true → (b : Bool) → is_gt (cmp x z) ≡ b → is_gt (cmp x z) ≡ true
  through x y z h k true is = is
  through x y z h k false is = absurd (true≢false (sym h ∙ upto order x z y is (back y z k)))

  abbrev chosen : A → A → Bool → Option A
  chosen x y true = Some y
  chosen x y false = Some x

  lesser-is : (x y : A) (b : Bool) → is_gt (cmp x y) ≡ b → lesser_of cmp (Some x) (Some y) ≡ chosen x y b
  lesser-is x y b is = ap (λ (g : Bool). cond g (Some y) (Some x)) is ∙ by b
    where
      by : (g : Bool) → cond g (Some y) (Some x) ≡ chosen x y g
      by true = refl
      by false = refl

  -- of three, by what the tests answer
  assoc-case : (x y z : A) (b : Bool) → is_gt (cmp x y) ≡ b → (d : Bool) → is_gt (cmp y z) ≡ d → (e : Bool) → is_gt (cmp x z) ≡ e
      → lesser_of cmp (lesser_of cmp (Some x) (Some y)) (Some z) ≡ lesser_of cmp (Some x) (lesser_of cmp (Some y) (Some z))
  assoc-case x y z true xy true yz e xz =
      ap (λ (l : Option A). lesser_of cmp l (Some z)) (lesser-is x y true xy) ∙ lesser-is y z true yz
      ∙ sym (ap (lesser_of cmp (Some x)) (lesser-is y z true yz) ∙ lesser-is x z true (through x y z xy yz e xz))
  assoc-case x y z true xy false yz e xz =
      ap (λ (l : Option A). lesser_of cmp l (Some z)) (lesser-is x y true xy) ∙ lesser-is y z false yz
      ∙ sym (ap (lesser_of cmp (Some x)) (lesser-is y z false yz) ∙ lesser-is x y true xy)
  assoc-case x y z false xy true yz e xz =
      ap (λ (l : Option A). lesser_of cmp l (Some z)) (lesser-is x y false xy)
      ∙ sym (ap (lesser_of cmp (Some x)) (lesser-is y z true yz))
  assoc-case x y z false xy false yz e xz =
      ap (λ (l : Option A). lesser_of cmp l (Some z)) (lesser-is x y false xy) ∙ lesser-is x z false (upto order x y z xy yz)
      ∙ sym (ap (lesser_of cmp (Some x)) (lesser-is y z false yz) ∙ lesser-is x y false xy)

  pub none-right : (a : Option A) → lesser_of cmp a None ≡ a
  none-right None = refl
  none-right (Some x) = refl

  pub lesser_assoc : (a b c : Option A) → lesser_of cmp (lesser_of cmp a b) c ≡ lesser_of cmp a (lesser_of cmp b c)
  lesser_assoc None b c = refl
  lesser_assoc (Some x) None c = refl
  lesser_assoc (Some x) (Some y) None = none-right (lesser_of cmp (Some x) (Some y))
  lesser_assoc (Some x) (Some y) (Some z) = assoc-case x y z (is_gt (cmp x y)) refl (is_gt (cmp y z)) refl (is_gt (cmp x z)) refl

  -- one of the list, and not above any
  record Found (xs : List A) (x : A) : Type 0 where
    among : Contains xs x
    lowest : All (λ y. is_gt (cmp x y) ≡ false) xs

  found-alone : (x y : A) (xs : List A) → xs ≡ [] → Some x ≡ Some y → Found (x ∷ xs) y
  found-alone x y xs empty same = subst (Found (x ∷ xs)) (inside x y same) record {
    among = (0, omega arith, refl);
    lowest = All-cons (λ z. is_gt (cmp x z) ≡ false) x xs (ap is_gt (tied_itself order x)) (All-same (λ z. is_gt (cmp x z) ≡ false) xs [] empty (All-nil (λ z. is_gt (cmp x z) ≡ false)));
  }

  found-more : (x z y : A) (xs : List A) → Found xs z → (b : Bool) → is_gt (cmp x z) ≡ b → chosen x z b ≡ Some y → Found (x ∷ xs) y
  found-more x z y xs found true is same = subst (Found (x ∷ xs)) (inside z y same) record {
    among = Contains-append_right (x ∷ []) xs z found.among;
    lowest = All-cons (λ w. is_gt (cmp z w) ≡ false) x xs (back x z is) found.lowest;
  }
  found-more x z y xs found false is same = subst (Found (x ∷ xs)) (inside x y same) record {
    among = (0, omega arith, refl);
    lowest = All-cons (λ w. is_gt (cmp x w) ≡ false) x xs (ap is_gt (tied_itself order x))
        (All-weaker (λ w. is_gt (cmp z w) ≡ false) (λ w. is_gt (cmp x w) ≡ false) (λ w h. upto order x z w is h) xs found.lowest);
  }

  found-first : (x y : A) (xs : List A) (rest : Option A) → least_of cmp xs ≡ rest → ((z : A) → rest ≡ Some z → Found xs z) → lesser_of cmp (Some x) rest ≡ Some y → Found (x ∷ xs) y
  found-first x y xs None is found same = found-alone x y xs (least_none cmp xs is) same
  found-first x y xs (Some z) is found same = found-more x z y xs (found z refl) (is_gt (cmp x z)) refl (sym (lesser-is x z (is_gt (cmp x z)) refl) ∙ same)

  found : (xs : List A) (y : A) → least_of cmp xs ≡ Some y → Found xs y
  found [] y same = absurd (nothing y same)
  found (x ∷ xs) y same = found-first x y xs (least_of cmp xs) refl (found xs) same

  -- the least of a list is one of it, and none is below it
  pub least_is : (xs : List A) (x : A) → least_of cmp xs ≡ Some x → IsLeast cmp xs x
  least_is xs x same = record {
    among = (found xs x same).among;
    lowest = All-weaker (λ y. is_gt (cmp x y) ≡ false) (λ y. cmp y x ≢ Less)
        (λ y h below. true≢false (sym (ap is_gt (order.antisymm x y ∙ ap ordering_reverse below)) ∙ h)) xs (found xs x same).lowest;
  }

  module _ (same : (x y : A) → cmp x y ≡ Equal → x ≡ y) where
    comm-case : (x y : A) (b : Bool) → is_gt (cmp x y) ≡ b → (d : Bool) → is_gt (cmp y x) ≡ d → lesser_of cmp (Some x) (Some y) ≡ lesser_of cmp (Some y) (Some x)
    comm-case x y true xy d yx = lesser-is x y true xy ∙ sym (lesser-is y x false (back x y xy))
    comm-case x y false xy true yx = lesser-is x y false xy ∙ sym (lesser-is y x true yx)
    comm-case x y false xy false yx = lesser-is x y false xy ∙ ap Some (same x y (gt-cases (cmp x y) (cmp y x) (order.antisymm x y) xy yx)) ∙ sym (lesser-is y x false yx)

    pub lesser_comm : (a b : Option A) → lesser_of cmp a b ≡ lesser_of cmp b a
    lesser_comm None b = sym (none-right b)
    lesser_comm (Some x) None = refl
    lesser_comm (Some x) (Some y) = comm-case x y (is_gt (cmp x y)) refl (is_gt (cmp y x)) refl

-- what holds of the lesser of two by a total order in which equals are one
pub record LesserLaws {A : Type 0} (cmp : A → A → Ordering) : Type 0 where
  pub total : IsTotalOrder cmp
  pub assoc : IsAssociative (lesser_of cmp)
  pub comm : IsCommutative (lesser_of cmp)
  pub none-right : (a : Option A) → lesser_of cmp a None ≡ a

pub lesser_laws : {A : Type 0} (cmp : A → A → Ordering) → IsTotalOrder cmp → ((x y : A) → cmp x y ≡ Equal → x ≡ y) → LesserLaws cmp
lesser_laws cmp order same = record {
  total = order;
  assoc = lesser_assoc cmp order;
  comm = lesser_comm cmp order same;
  none-right = none-right cmp order;
}

-- ---- orders by one number and then by another

pub then-equal : (o p : Ordering) → ordering_then o p ≡ Equal → (o ≡ Equal) × (p ≡ Equal)
then-equal Less p h = absurd (true≢false (ap is_lt h))
then-equal Equal p h = (refl, h)
then-equal Greater p h = absurd (true≢false (ap is_gt h))

pub nat-equal : (x y : ℕ) → nat_cmp x y ≡ Equal → x ≡ y
nat-equal x y h = subst (λ (o : Ordering). MatchOrdering o (x < y) (x ≡ y) (y < x)) h (ranked x y (nat_cmp x y) refl)

pub int-equal : (x y : ℤ) → int_cmp x y ≡ Equal → x ≡ y
int-equal x y h = subst (λ (o : Ordering). MatchOrdering o (x <ℤ y) (x ≡ y) (y <ℤ x)) h (int_ranked x y (int_cmp x y) refl)

-- numbers that are found equal are one
pub int-same : (x y : ℤ) → int_eq x y ≡ true → x ≡ y
int-same x y h = grind (arith, ints)

-- of elements that a number and a key make, in the order of these
pub keyed_laws : {A : Type 0} (number : A → ℤ) (key : A → ℕ) → ((x y : A) → number x ≡ number y → key x ≡ key y → x ≡ y)
    → LesserLaws (then_cmp (on number int_cmp) (on key nat_cmp))
keyed_laws {A} number key made = lesser_laws _ (then_total (on_total number int_cmp_total) (on_total key nat_cmp_total)) same
  where
    same : (x y : A) → then_cmp (on number int_cmp) (on key nat_cmp) x y ≡ Equal → x ≡ y
    same x y h =
        let parts = then-equal (int_cmp (number x) (number y)) _ h in
        made x y (int-equal (number x) (number y) parts.0) (nat-equal (key x) (key y) parts.1)

-- ---- the order of faults

kinds-same : (a b : ArithFault) → kind_number a ≡ kind_number b → a ≡ b
kinds-same Overflow Overflow h = refl
kinds-same Overflow ZeroDivisor h = absurd (omega (arith, h))
kinds-same ZeroDivisor Overflow h = absurd (omega (arith, h))
kinds-same ZeroDivisor ZeroDivisor h = refl
kinds-same Overflow Priority h = absurd (omega (arith, h))
kinds-same ZeroDivisor Priority h = absurd (omega (arith, h))
kinds-same Priority Overflow h = absurd (omega (arith, h))
kinds-same Priority ZeroDivisor h = absurd (omega (arith, h))
kinds-same Priority Priority h = refl

place_total : IsTotalOrder place_cmp
place_total = then_total (on_total (λ (place : Place). place.line) nat_cmp_total) (on_total (λ (place : Place). place.col) nat_cmp_total)

pub item_fault_total : IsTotalOrder item_fault_cmp
item_fault_total = then_total (on_total (λ (f : ItemFault). f.key) nat_cmp_total)
    (then_total (on_total (λ (f : ItemFault). f.fault.place) place_total)
    (then_total (on_total (λ (f : ItemFault). f.target) nat_cmp_total) (on_total (λ (f : ItemFault). kind_number f.fault.kind) nat_cmp_total)))

pub fault_total : IsTotalOrder fault_cmp
fault_total = then_total (on_total (λ (f : Fault). f.place) place_total) (on_total (λ (f : Fault). kind_number f.kind) nat_cmp_total)

places_same : (p q : Place) → place_cmp p q ≡ Equal → p ≡ q
places_same p q h =
    let parts = then-equal (nat_cmp p.line q.line) _ h in
    let line = nat-equal p.line q.line parts.0 in
    let col = nat-equal p.col q.col parts.1 in
    λ i. record { line = line i; col = col i }

pub item_faults_same : (a b : ItemFault) → item_fault_cmp a b ≡ Equal → a ≡ b
item_faults_same a b h =
    let one = then-equal (nat_cmp a.key b.key) _ h in
    let two = then-equal (place_cmp a.fault.place b.fault.place) _ one.1 in
    let three = then-equal (nat_cmp a.target b.target) _ two.1 in
    let key = nat-equal a.key b.key one.0 in
    let place = places_same a.fault.place b.fault.place two.0 in
    let target = nat-equal a.target b.target three.0 in
    let kind = kinds-same a.fault.kind b.fault.kind (nat-equal (kind_number a.fault.kind) (kind_number b.fault.kind) three.1) in
    λ i. record { key = key i; fault = record { kind = kind i; place = place i }; target = target i }

pub fault_assoc : IsAssociative (lesser_of item_fault_cmp)
fault_assoc = lesser_assoc item_fault_cmp item_fault_total

pub fault_comm : IsCommutative (lesser_of item_fault_cmp)
fault_comm = lesser_comm item_fault_cmp item_fault_total item_faults_same

-- ---- the order of amounts

amount_total : IsTotalOrder amount_cmp
amount_total = then_total (on_total (λ (a : Amount). a.priority) nat_cmp_total) (on_total (λ (a : Amount). a.value) int_cmp_total)

pub falling_total : IsTotalOrder falling_cmp
falling_total = back_total amount_total

amounts_same : (a b : Amount) → falling_cmp a b ≡ Equal → a ≡ b
amounts_same a b h =
    let parts = then-equal (nat_cmp b.priority a.priority) _ h in
    let priority = nat-equal b.priority a.priority parts.0 in
    let value = int-equal b.value a.value parts.1 in
    sym (λ i. record { value = value i; priority = priority i })

pub amount_laws : LesserLaws falling_cmp
amount_laws = lesser_laws falling_cmp falling_total amounts_same
