-- One number for the group and the value of a row: it stands to others as the row does.
use Rattle.std.proofs.Common.{◌≡◌, ℕ, suc, ℤ, pos, ◌+◌, ◌*◌, ◌<◌, ◌≤◌, ◌+ℤ◌, ◌-ℤ◌, ◌≤ℤ◌, ◌<ℤ◌, inl, inr, Bool, true, false, ◌&&◌, ◌||◌, ◌==◌, nat_lt, int_lt, int_le, min, List, [], ◌∷◌, length, map, take, get_or, refl, ap, sym, subst, ◌∙◌, arith}
use Rattle.std.specs.Prelude.{filter, All}
use Rattle.std.specs.List.{range_with_len}
use Rattle.std.specs.List.Sorted.{IsPartitionedBy, IsPartitionPoint, IsPermutation}
use Rattle.std.proofs.lemmas.List.Sorted.{All-permutation}
use Rattle.std.proofs.lemmas.Bool.{cases_order, eq-eqb, le-ltb, lt-ltb, ne_eqb}
use Rattle.std.proofs.lemmas.Int.{ints, by_lt_z, to_z-of_z}
use Rattle.std.proofs.lemmas.List.{get_or-map, length-map, take_more}
use Rattle.std.proofs.lemmas.List.Elements.{All-push, All-weaker}
use Rattle.std.proofs.lemmas.Nat.{row_fits}
use Rattle.std.specs.Cmp.{ranks}
use Rattle.std.specs.Ordering.{int_cmp, is_lt, nat_cmp, ordering_then, MatchOrdering}
use Rattle.std.specs.declared.cmp.Ordering.{Ordering}
use Rattle.std.specs.declared.cmp.Ordering.TheVariants.{Less, Equal, Greater}
use mir.Syntax.{w64}
use mir.Val.{SFits, of_z, to_z}
use Rattle.rank_table.specs.Orders.{number_at, IsOrder}
use Rattle.rank_table.specs.Ranks.{IsRising}
use Rattle.rank_table.proofs.Ordering.{gathered, not_less, order-inside, order-length, order-rises}
use Rattle.rank_table.proofs.Ranking.{bounded, le_true, lt_true, parted}
use Rattle.row_groups.specs.declared.ends.Ends.{Ends}
use Rattle.row_groups.specs.declared.ends.Scale.{Scale}
use Rattle.row_groups.specs.declared.ranked.Ranked.{Ranked}
use Rattle.row_groups.specs.Ends.{AreEnds, IsBetween, IsEnd, IsScale, place_in, place_of}
use Rattle.row_groups.specs.Ranked.{ranked_in, AreInOrder}
use Rattle.row_groups.proofs.Filters.{filter-map, filter_agree_on}
use Rattle.row_groups.proofs.Ranking.{Goes, goes_at, is_bounded, IsPartitionedBy-bound}

-- ---- tests of integers

lt_false : (a b : ℤ) → b ≤ℤ a → int_lt a b ≡ false
lt_false a b h = grind (arith, ints)

le_false : (a b : ℤ) → b <ℤ a → int_le a b ≡ false
le_false a b h = grind (arith, ints)

lt_weak : (a b : ℤ) → a <ℤ b → a ≤ℤ b
lt_weak a b h = omega (arith, ints)

-- ---- numbers of two groups, of which the one begins at a and the other at b

module _ (a b w : ℕ) (v x least greatest : ℤ) (wide : pos w ≡ (greatest -ℤ least) +ℤ pos 2) (over : a + w ≤ b) where
  later : v ≤ℤ greatest → (least -ℤ pos 1) ≤ℤ x → (pos a +ℤ (v -ℤ least)) <ℤ (pos b +ℤ (x -ℤ least))
  later high low = omega (arith, ints)

  sooner : least ≤ℤ v → x ≤ℤ (greatest +ℤ pos 1) → (pos a +ℤ (x -ℤ least)) <ℤ (pos b +ℤ (v -ℤ least))
  sooner low high = omega (arith, ints)

rise-same : (a : ℕ) (v x least : ℤ) → v ≤ℤ x → (pos a +ℤ (v -ℤ least)) ≤ℤ (pos a +ℤ (x -ℤ least))
rise-same a v x least rise = omega (arith, ints)

moved-lt : (a : ℕ) (v x least : ℤ) → v <ℤ x → (pos a +ℤ (v -ℤ least)) <ℤ (pos a +ℤ (x -ℤ least))
moved-lt a v x least h = omega (arith, ints)

-- a test that tells what is less from what is greater, and numbers of a group as their values
pub record Orders (test : ℤ → ℤ → Bool) : Type 0 where
  pub less : (a b : ℤ) → a <ℤ b → test a b ≡ true
  pub more : (a b : ℤ) → b <ℤ a → test a b ≡ false
  pub same : (a : ℕ) (v x least : ℤ) → test (pos a +ℤ (v -ℤ least)) (pos a +ℤ (x -ℤ least)) ≡ test v x
  pub falls : (a b t : ℤ) → a ≤ℤ b → test b t ≡ true → test a t ≡ true

pub lt_orders : Orders int_lt
lt_orders = record {
  less = lt_true;
  more = λ a b greater. lt_false a b (lt_weak b a greater);
  same = λ a v x least. by_lt_z v x (λ less. lt_true _ _ (moved-lt a v x least less) ∙ sym (lt_true v x less))
      (λ most. lt_false _ _ (rise-same a x v least most) ∙ sym (lt_false v x most));
  falls = λ a b t rise below. grind (arith, ints);
}

pub le_orders : Orders int_le
le_orders = record {
  less = λ a b less. le_true a b (lt_weak a b less);
  more = le_false;
  same = λ a v x least. by_lt_z x v (λ less. le_false _ _ (moved-lt a x v least less) ∙ sym (le_false v x less))
      (λ most. le_true _ _ (rise-same a v x least most) ∙ sym (le_true v x most));
  falls = λ a b t rise below. grind (arith, ints);
}

rise-later : (a b w : ℕ) (v x least greatest : ℤ) → pos w ≡ (greatest -ℤ least) +ℤ pos 2 → a + w ≤ b → v ≤ℤ greatest → least ≤ℤ x
    → (pos a +ℤ (v -ℤ least)) ≤ℤ (pos b +ℤ (x -ℤ least))
rise-later a b w v x least greatest wide over high low = omega (arith, ints)

-- ---- a test of the group, and then of the value

first : (g k : ℕ) (c : Bool) → g < k → (nat_lt g k || ((g == k) && c)) ≡ true
first g k c lt = ap (λ d. d || ((g == k) && c)) (lt-ltb g k lt)

here : (g k : ℕ) (c : Bool) → g ≡ k → (nat_lt g k || ((g == k) && c)) ≡ c
here g k c same = ap (λ d. d || ((g == k) && c)) (le-ltb g k (omega (arith, same))) ∙ ap (λ d. false || (d && c)) (eq-eqb g k same)

behind : (g k : ℕ) (c : Bool) → k < g → (nat_lt g k || ((g == k) && c)) ≡ false
behind g k c lt =
    ap (λ d. d || ((g == k) && c)) (le-ltb g k (omega (arith, lt)))
    ∙ ap (λ d. false || (d && c)) (ne_eqb g k (λ same. omega (arith, lt, same)))

-- ---- the number of a row and that of a bound

module _ (scale : Scale) (is : IsScale scale) (group : ℕ) (ranked : Ranked) (few : ranked.group < 65536) (between : IsBetween scale ranked) where
  agree : (test : ℤ → ℤ → Bool) → Orders test → (t x : ℤ) → (scale.least -ℤ pos 1) ≤ℤ x → x ≤ℤ (scale.greatest +ℤ pos 1) → test ranked.value x ≡ test ranked.value t
      → test (place_in scale ranked) (place_of scale (min group 65536) x) ≡ is_bounded test group t ranked
  agree test orders t x above below same = elim (cases_order ranked.group (min group 65536)) [
    | inl one ↦
        ap (λ g. test (place_of scale g ranked.value) (place_of scale (min group 65536) x)) one
        ∙ orders.same (min group 65536 * scale.width) ranked.value x scale.least
        ∙ same
        ∙ sym (here ranked.group group (test ranked.value t) (omega (arith, one, few)))
    | inr (inl less) ↦
        orders.less _ _ (later (ranked.group * scale.width) (min group 65536 * scale.width) scale.width ranked.value x scale.least scale.greatest is.width
        (row_fits ranked.group scale.width (min group 65536) scale.width less (omega arith)) between.1 above)
        ∙ sym (first ranked.group group (test ranked.value t) (omega (arith, less, few)))
    | inr (inr more) ↦
        orders.more _ _ (sooner (min group 65536 * scale.width) (ranked.group * scale.width) scale.width ranked.value x scale.least scale.greatest is.width
        (row_fits (min group 65536) scale.width ranked.group scale.width more (omega arith)) between.0 below)
        ∙ sym (behind ranked.group group (test ranked.value t) (omega (arith, more, few)))
  ]

-- ---- counts of numbers are counts of rows

count_map : (p : Ranked → Bool) (q : ℤ → Bool) (f : Ranked → ℤ) (all : List Ranked) → All (λ ranked. q (f ranked) ≡ p ranked) all
    → length (filter q (map f all)) ≡ length (filter p all)
count_map p q f all agree =
    ap length (filter-map f q all) ∙ length-map (filter (λ ranked. q (f ranked)) all) f ∙ ap length (filter_agree_on (λ ranked. q (f ranked)) p all agree)

end_at : (p : Ranked → Bool) (q : ℤ → Bool) (f : Ranked → ℤ) (all : List Ranked) (places : List ℤ) (end : ℕ) → places ≡ map f all → All (λ ranked. q (f ranked) ≡ p ranked) all
    → IsPartitionedBy p all → end ≡ length (filter q places) → IsEnd p all end
end_at p q f all places end are agree cut is =
    let counted : end ≡ length (filter p all) = is ∙ ap (λ zs. length (filter q zs)) are ∙ count_map p q f all agree in
    let long : length places ≡ length all = ap length are ∙ length-map all f in
    (omega (arith, is, bounded q places, long), subst (λ n. IsPartitionPoint (λ ranked. p ranked ≡ true) (λ ranked. p ranked ≡ false) all n) (sym counted) (parted p all cut))

-- how many of the numbers pass a test of the place of a bound is an end of the rows of a group
end_by : (test : ℤ → ℤ → Bool) → Orders test → (ends : Ends) (all : List Ranked) → AreInOrder all → AreEnds ends all → (group clipped : ℕ) (t x place : ℤ) (end : ℕ)
    → clipped ≡ min group 65536 → (ends.scale.least -ℤ pos 1) ≤ℤ x → x ≤ℤ (ends.scale.greatest +ℤ pos 1)
    → ((value : ℤ) → ends.scale.least ≤ℤ value → value ≤ℤ ends.scale.greatest → test value x ≡ test value t)
    → place ≡ place_of ends.scale clipped x → end ≡ length (filter (λ z. test z place) ends.places) → IsEnd (is_bounded test group t) all end
end_by test orders ends all order are group clipped t x place end clip above below same at counted =
    end_at (is_bounded test group t) (λ z. test z (place_of ends.scale (min group 65536) x)) (place_in ends.scale) all ends.places end are.places
    (λ k d inside. agree ends.scale are.scale group (get_or all k d) (are.groups k d inside) (are.within k d inside) test orders t x above below
    (same (get_or all k d).value (are.within k d inside).0 (are.within k d inside).1))
    (IsPartitionedBy-bound all order test orders.falls group t)
    (counted ∙ ap (λ b. length (filter (λ z. test z b) ends.places)) (at ∙ ap (λ g. place_of ends.scale g x) clip))

-- the same of numbers that are told as words keep them
pub end_told : (test : ℤ → ℤ → Bool) → Orders test → (ends : Ends) (all : List Ranked) → AreInOrder all → AreEnds ends all → (group clipped : ℕ) (t x place : ℤ) (end : ℕ)
    → SFits w64 t → SFits w64 x → SFits w64 place → clipped ≡ min group 65536 → (ends.scale.least -ℤ pos 1) ≤ℤ x → x ≤ℤ (ends.scale.greatest +ℤ pos 1)
    → ((value : ℤ) → ends.scale.least ≤ℤ value → value ≤ℤ ends.scale.greatest → test value x ≡ test value (to_z w64 (of_z w64 t)))
    → place ≡ place_of ends.scale clipped (to_z w64 (of_z w64 x)) → end ≡ length (filter (λ z. test z (to_z w64 (of_z w64 place))) ends.places) → IsEnd (is_bounded test group t) all end
end_told test orders ends all order are group clipped t x place end fits fits_x fits_place clip above below same at counted =
    end_by test orders ends all order are group clipped t x place end clip above below (simp to_z-of_z at same) (simp to_z-of_z at at) (simp to_z-of_z at counted)

-- ---- the numbers of rows in order rise

place-rises : (scale : Scale) (g h : ℕ) (v w : ℤ) → IsScale scale → v ≤ℤ scale.greatest → scale.least ≤ℤ w → Goes g h v w
    → place_of scale g v ≤ℤ place_of scale h w
place-rises scale g h v w is high low (inl less) =
    rise-later (g * scale.width) (h * scale.width) scale.width v w scale.least scale.greatest is.width (row_fits g scale.width h scale.width less (omega arith)) high low
place-rises scale g h v w is high low (inr same) =
    subst (λ k. place_of scale g v ≤ℤ place_of scale k w) same.0 (rise-same (g * scale.width) v w scale.least same.1)

pub places-rise : (scale : Scale) (all : List Ranked) → IsScale scale → All (IsBetween scale) all → AreInOrder all → IsRising (map (place_in scale) all)
places-rise scale all is within order i j d before below =
    let none : Ranked = record { group = 0; value = pos 0; across = pos 0; row = 0 } in
    let inside : j < length all = omega (arith, below, length-map all (place_in scale)) in
    let early : i < length all = omega (arith, before, inside) in
    subst (λ z. z ≤ℤ get_or (map (place_in scale) all) j d) (sym (get_or-map (place_in scale) all i none d early))
    (subst (λ z. place_in scale (get_or all i none) ≤ℤ z) (sym (get_or-map (place_in scale) all j none d inside))
    (place-rises scale (get_or all i none).group (get_or all j none).group (get_or all i none).value (get_or all j none).value is
    (within i none early).1 (within j none inside).0 (goes_at all order i j none before inside)))

-- what holds of the rows before a row and of the row holds of so many and one
pub all_more : (P Q : Ranked → Type 0) (all : List Ranked) (i : ℕ) (d : Ranked) → i < length all → ((ranked : Ranked) → P ranked → Q ranked)
    → All P (take i all) → Q (get_or all i d) → All Q (take (i + 1) all)
all_more P Q all i d inside weaker before at =
    subst (All Q) (sym (take_more all i d inside)) (All-push Q (take i all) (get_or all i d) (All-weaker P Q weaker (take i all) before) at)

-- ---- rows of which the numbers rise are in order

one-of : (g h : ℕ) (o rest : Ordering) → MatchOrdering o (h < g) (h ≡ g) (g < h) → (h < g → ⊥) → (h ≡ g → is_lt rest ≡ false) → is_lt (ordering_then o rest) ≡ false
one-of g h Less rest less none same = absurd (none less)
one-of g h Equal rest equal none same = same equal
one-of g h Greater rest more none same = refl

same-rise : (a : ℕ) (v x least : ℤ) → (pos a +ℤ (v -ℤ least)) ≤ℤ (pos a +ℤ (x -ℤ least)) → v ≤ℤ x
same-rise a v x least rise = omega (arith, ints)

not-under : (a b : ℤ) → a ≤ℤ b → b <ℤ a → ⊥
not-under a b rise under = omega (arith, ints)

ranks-rise : (scale : Scale) (g h : ℕ) (v w : ℤ) → IsScale scale → scale.least ≤ℤ v → w ≤ℤ scale.greatest → place_of scale g v ≤ℤ place_of scale h w
    → is_lt (ordering_then (nat_cmp h g) (int_cmp w v)) ≡ false
ranks-rise scale g h v w is low high rise =
    one-of g h (nat_cmp h g) (int_cmp w v) (ranks h g)
    (λ less. not-under (place_of scale g v) (place_of scale h w) rise
    (later (h * scale.width) (g * scale.width) scale.width w v scale.least scale.greatest is.width (row_fits h scale.width g scale.width less (omega arith)) high (omega (arith, ints))))
    (λ same. not_less v w (same-rise (g * scale.width) v w scale.least (subst (λ k. place_of scale g v ≤ℤ place_of scale k w) same rise)))

pub order-by_places : (scale : Scale) (all : List Ranked) → IsScale scale → All (IsBetween scale) all → IsRising (map (place_in scale) all) → AreInOrder all
order-by_places scale all is within rise k d from below =
    let early : k < length all = omega arith in
    let at = get_or-map (place_in scale) all k d (place_in scale d) early in
    let at2 = get_or-map (place_in scale) all (k + 1) d (place_in scale d) below in
    let places : place_in scale (get_or all k d) ≤ℤ place_in scale (get_or all (k + 1) d) =
    subst (λ z. z ≤ℤ place_in scale (get_or all (k + 1) d)) at
    (subst (λ z. get_or (map (place_in scale) all) k (place_in scale d) ≤ℤ z) at2
    (rise k (k + 1) (place_in scale d) (omega arith) (omega (arith, below, length-map all (place_in scale))))) in
    ranks-rise scale (get_or all k d).group (get_or all (k + 1) d).group (get_or all k d).value (get_or all (k + 1) d).value is
    (within k d early).0 (within (k + 1) d below).1 places

-- the numbers of rows at places are the numbers at these places
pub places-at : (f : Ranked → ℤ) (all : List Ranked) (places : List ℕ) → All (λ place. place < length all) places → map f (map (ranked_in all) places) ≡ map (number_at (map f all)) places
places-at f all [] inside = refl
places-at f all (place ∷ places) inside =
    let own : number_at (map f all) place ≡ f (ranked_in all place) = get_or-map f all place record { group = 0; value = pos 0; across = pos 0; row = 0 } (pos 0) (inside 0 0 (omega arith)) in
    (λ i. sym own i ∷ places-at f all places (λ k d below. inside (suc k) d (omega (arith, below))) i)

-- rows and their numbers, both gathered by the order of the numbers
module _ (scale : Scale) (is : IsScale scale) (all : List Ranked) (within : All (IsBetween scale) all) (order : List ℕ) (ordered : IsOrder (map (place_in scale) all) order) where
  abbrev rows : List Ranked
  rows = map (ranked_in all) order

  abbrev numbers : List ℤ
  numbers = map (number_at (map (place_in scale) all)) order

  pub rows-inside : All (λ place. place < length all) order
  rows-inside = subst (λ n. All (λ place. place < n) order) (length-map all (place_in scale)) (order-inside (map (place_in scale) all) order ordered)

  pub rows-permute : IsPermutation all rows
  rows-permute = gathered all _ order (subst (λ n. IsPermutation (range_with_len 0 n) order) (length-map all (place_in scale)) ordered.places)

  pub numbers-many : length numbers ≡ length all
  numbers-many = length-map order (number_at (map (place_in scale) all)) ∙ order-length (map (place_in scale) all) order ordered ∙ length-map all (place_in scale)

  pub numbers-rise : IsRising numbers
  numbers-rise = order-rises (map (place_in scale) all) order ordered

  pub rows-numbers : map (place_in scale) rows ≡ numbers
  rows-numbers = places-at (place_in scale) all order rows-inside

  pub rows-within : All (IsBetween scale) rows
  rows-within = All-permutation (IsBetween scale) all rows rows-permute within

  pub rows-in_order : AreInOrder rows
  rows-in_order = order-by_places scale rows is rows-within (subst IsRising (sym rows-numbers) numbers-rise)
