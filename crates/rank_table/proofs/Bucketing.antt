-- Buckets, and how many of rising numbers are in those before each.
use Rattle.std.proofs.Common.{◌≡◌, ℕ, ℤ, ◌+◌, ◌-◌, ◌/◌, ◌^◌, ◌<◌, ◌≤◌, ◌-ℤ◌, ◌≤ℤ◌, Bool, true, false, int_lt, int_le, List, length, get_or, set, refl, sym, ap, subst, ◌∙◌, inl, inr, arith}
use Rattle.std.specs.Prelude.{unsigned_abs, slice_range, filter}
use Rattle.std.specs.List.{AllWithin}
use Rattle.std.specs.List.Sorted.{IsPartitionPoint, IsPartitionedBy}
use Rattle.std.proofs.lemmas.List.Edits.{length-between, get_or-between}
use Rattle.std.proofs.Math.Nat.{div-mul-le_self}
use Rattle.std.proofs.lemmas.Nat.{le-div, pow_pos}
use Rattle.std.proofs.lemmas.Bool.{cases_eq, cases_lt}
use Rattle.std.proofs.lemmas.Int.{ints, by_lt_z, to_z-of_z}
use Rattle.std.proofs.lemmas.List.{get_or-set_other, get_or-set_same, get_or_default, length-set}
use Rattle.rank_table.specs.Ranks.{IsRising, count_below, count_through}
use Rattle.rank_table.proofs.Ranking.{lt_true, not_less, count_front, IsPartitionedBy-lt, IsPartitionedBy-le}
use Rattle.rank_table.specs.Buckets.{bucket_of, AreAbove, IsStart, AreStarts, AreBuckets, IsNear, IsWhole, AreEnds, IsGreatest, AreGreatest}
use Rattle.rank_table.specs.declared.buckets.Buckets.{Buckets}
use Rattle.rank_table.specs.declared.span.Span.{Span}
use mir.Val.{SFits, of_z, to_z}
use mir.Syntax.{w64}

farther : (least a b : ℤ) → least ≤ℤ a → a ≤ℤ b → unsigned_abs (a -ℤ least) ≤ unsigned_abs (b -ℤ least)
farther least a b above rise = grind (arith, ints)

-- the greater number is in no bucket before that of the less
pub bucket_rises : (least : ℤ) (shift : ℕ) (a b : ℤ) → 0 < 2 ^ shift → least ≤ℤ a → a ≤ℤ b → bucket_of least shift a ≤ bucket_of least shift b
bucket_rises least shift a b wide above rise =
    let within = div-mul-le_self (unsigned_abs (a -ℤ least)) (2 ^ shift) in
    le-div (bucket_of least shift a) (unsigned_abs (b -ℤ least)) (2 ^ shift) wide (omega (arith, within, farther least a b above rise))

-- so a number of an earlier bucket is less
pub less_by_bucket : (least : ℤ) (shift : ℕ) (a b : ℤ) → 0 < 2 ^ shift → least ≤ℤ b → bucket_of least shift a < bucket_of least shift b → int_lt a b ≡ true
less_by_bucket least shift a b wide above earlier =
    by_lt_z a b (λ less. lt_true a b less) (λ rise. absurd (omega (arith, earlier, bucket_rises least shift b a wide above rise)))

-- one bucket of width one has one number
alike : (least a b : ℤ) (shift : ℕ) → shift ≡ 0 → least ≤ℤ a → least ≤ℤ b → bucket_of least shift a ≡ bucket_of least shift b → a ≡ b
alike least a b shift narrow from_a from_b same =
    let one : 2 ^ shift ≡ 1 = ap (λ n. 2 ^ n) narrow in
    let far_a : bucket_of least shift a ≡ unsigned_abs (a -ℤ least) = ap (λ n. unsigned_abs (a -ℤ least) / n) one ∙ omega arith in
    let far_b : bucket_of least shift b ≡ unsigned_abs (b -ℤ least) = ap (λ n. unsigned_abs (b -ℤ least) / n) one ∙ omega arith in
    let far : unsigned_abs (a -ℤ least) ≡ unsigned_abs (b -ℤ least) = sym far_a ∙ same ∙ far_b in
    grind (arith, ints)

-- ---- the part near a number

module _ (zs : List ℤ) (buckets : Buckets) (lies : AreBuckets zs buckets) (number : ℤ) (above : buckets.least ≤ℤ number) where
  abbrev bucket : ℤ → ℕ
  bucket z = bucket_of buckets.least buckets.shift z

  before_start : (n start : ℕ) → n ≤ bucket number → IsStart zs buckets.least buckets.shift n start → AllWithin (λ z. int_lt z number ≡ true) zs 0 start
  before_start n start at first k d low high =
      less_by_bucket buckets.least buckets.shift (get_or zs k d) number (pow_pos buckets.shift) above (omega (arith, at, first.before k d low high))

  -- what is in the bucket of a number
  pub IsNear-bucket : (n d e : ℕ) → n ≡ bucket number → n + 1 < length buckets.starts.items
      → IsNear zs number record { from = get_or buckets.starts.items n d; to = get_or buckets.starts.items (n + 1) e }
  IsNear-bucket n d e here bound =
      let first = lies.starts.each n d (omega (arith, bound)) in
      let next = lies.starts.each (n + 1) e bound in
      let from : ℕ = get_or buckets.starts.items n d in
      let to : ℕ = get_or buckets.starts.items (n + 1) e in
      record {
        ordered = elim (cases_lt to from) [
          | inl lt ↦ absurd (omega (arith, first.before to number (omega arith) lt, next.from to number (omega arith) (omega (arith, lt, first.bound))))
          | inr le ↦ le
        ];
        bound = next.bound;
        before = before_start n from (omega (arith, here)) first;
        behind = λ k z low high. less_by_bucket buckets.least buckets.shift number (get_or zs k z) (pow_pos buckets.shift)
            (lies.above k z (omega arith) high) (omega (arith, here, next.from k z low high));
      }

  -- and what is in it is the number, where buckets are one number wide
  pub IsWhole-bucket : (n d e : ℕ) → buckets.shift ≡ 0 → n ≡ bucket number → n + 1 < length buckets.starts.items
      → IsWhole zs number record { from = get_or buckets.starts.items n d; to = get_or buckets.starts.items (n + 1) e }
  IsWhole-bucket n d e narrow here bound k z low high =
      let first = lies.starts.each n d (omega (arith, bound)) in
      let next = lies.starts.each (n + 1) e bound in
      let inside : k < length zs = omega (arith, high, next.bound) in
      let same : bucket (get_or zs k z) ≡ bucket number = omega (arith, here, first.from k z low inside, next.before k z (omega arith) high) in
      alike buckets.least (get_or zs k z) number buckets.shift narrow (lies.above k z (omega arith) inside) above same

  -- behind all buckets stands nothing
  pub IsNear-behind : (n d : ℕ) → n ≤ bucket number → n + 1 ≡ length buckets.starts.items
      → IsNear zs number record { from = get_or buckets.starts.items n d; to = get_or buckets.starts.items n d }
  IsNear-behind n d here last =
      let first = lies.starts.each n d (omega (arith, last)) in
      let from : ℕ = get_or buckets.starts.items n d in
      record {
        ordered = omega arith;
        bound = first.bound;
        before = before_start n from here first;
        behind = λ k z low high. absurd (omega (arith, last, first.from k z low high, lies.starts.within k z (omega arith) high));
      }

-- ---- the starts, from the ends

module _ (zs : List ℤ) (least : ℤ) (shift : ℕ) (rising : IsRising zs) (above : AreAbove least zs) where
  abbrev bucket_in : ℤ → ℕ
  bucket_in z = bucket_of least shift z

  -- no number is in a bucket behind that of the last one
  pub within-last : (spread : ℕ) (greatest : ℤ) → greatest ≡ get_or zs (length zs - 1) least → spread ≡ unsigned_abs (greatest -ℤ least)
      → AllWithin (λ z. bucket_in z < spread / 2 ^ shift + 1) zs 0 (length zs)
  within-last spread greatest is far k z low high =
      let last : length zs - 1 < length zs = omega (arith, high) in
      let rise : get_or zs k z ≤ℤ greatest = subst (λ n. get_or zs k z ≤ℤ n) (get_or_default zs (length zs - 1) z least last ∙ sym is) (rising k (length zs - 1) z (omega (arith, high)) last) in
      omega (arith, bucket_rises least shift (get_or zs k z) greatest (pow_pos shift) (above k z low high) rise, ap (λ n. n / 2 ^ shift) far)

  -- one number more
  pub AreEnds-more : (ends : List ℕ) (i n : ℕ) (x : ℤ) → AreEnds zs least shift i ends → i < length zs → n ≡ bucket_in (get_or zs i x) → n + 1 < length ends
      → AreEnds zs least shift (i + 1) (set ends (n + 1) (i + 1))
  AreEnds-more ends i n x sofar inside here held =
      let size = length-set ends (n + 1) (i + 1) in
      record {
        bound = λ b d below. elim (cases_eq b (n + 1)) [
          | inl same ↦ omega (arith, ap (λ j. get_or (set ends (n + 1) (i + 1)) j d) same, get_or-set_same ends (n + 1) (i + 1) d held)
          | inr other ↦ omega (arith, get_or-set_other ends (n + 1) b (i + 1) d other, sofar.bound b d (omega (arith, below, size)))
        ];
        before = λ b d below k z low high. elim (cases_eq b (n + 1)) [
          | inl same ↦
              let until : k < i + 1 = omega (arith, high, ap (λ j. get_or (set ends (n + 1) (i + 1)) j d) same, get_or-set_same ends (n + 1) (i + 1) d held) in
              omega (
                arith,
                same,
                here,
                bucket_rises least shift (get_or zs k z) (get_or zs i z) (pow_pos shift) (above k z (omega arith) (omega (arith, until, inside))) (rising k i z (omega (arith, until)) inside),
                ap bucket_in (get_or_default zs i x z inside),
              )
          | inr other ↦ sofar.before b d (omega (arith, below, size)) k z low (subst (λ e. k < e) (get_or-set_other ends (n + 1) b (i + 1) d other) high)
        ];
        reached = λ p d z below.
            let at : ℕ = bucket_in (get_or zs p z) + 1 in
            elim (cases_eq at (n + 1)) [
              | inl same ↦ omega (arith, below, ap (λ j. get_or (set ends (n + 1) (i + 1)) j d) same, get_or-set_same ends (n + 1) (i + 1) d held)
              | inr other ↦ elim (cases_lt p i) [
                | inl lt ↦ omega (arith, get_or-set_other ends (n + 1) at (i + 1) d other, sofar.reached p d z lt)
                | inr le ↦
                    let last : p ≡ i = omega (arith, below, le) in
                    absurd (other (omega (arith, here, ap (λ j. bucket_in (get_or zs j z)) last, ap bucket_in (get_or_default zs i x z inside))))
              ]
            ];
      }

  -- the greatest end up to a bucket is its start
  module _ (ends : List ℕ) (bucket start : ℕ) (are : AreEnds zs least shift (length zs) ends) (inside : bucket < length ends) (is : IsGreatest ends (bucket + 1) start) where
    start-bound : start ≤ length zs
    start-bound = is.least (length zs) (λ b d low high. are.bound b d (omega (arith, high, inside)))

    start-before : AllWithin (λ z. bucket_in z < bucket) zs 0 start
    start-before k z low high = elim (cases_lt (bucket_in (get_or zs k z)) bucket) [
      | inl lt ↦ lt
      | inr le ↦ absurd (omega (
        arith,
        high,
        is.least k (λ b d low2 high2. elim (cases_lt k (get_or ends b d)) [
          | inl lt ↦ absurd (omega (arith, le, high2, are.before b d (omega (arith, high2, inside)) k z low lt))
          | inr most ↦ most
        ]),
      ))
    ]

    start-from : AllWithin (λ z. bucket ≤ bucket_in z) zs start (length zs)
    start-from k z low high = elim (cases_lt (bucket_in (get_or zs k z)) bucket) [
      | inl lt ↦ absurd (omega (arith, low, are.reached k 0 z high, is.most (bucket_in (get_or zs k z) + 1) 0 (omega arith) (omega (arith, lt))))
      | inr le ↦ le
    ]

    IsStart-greatest : IsStart zs least shift bucket start
    IsStart-greatest = record { bound = start-bound; before = start-before; from = start-from }

  pub AreStarts-greatest : (buckets : ℕ) (ends starts : List ℕ) → length ends ≡ buckets + 1 → AllWithin (λ z. bucket_in z < buckets) zs 0 (length zs)
      → AreEnds zs least shift (length zs) ends → AreGreatest ends starts → AreStarts zs least shift starts
  AreStarts-greatest buckets ends starts size within are greatest = record {
    some = omega (arith, size, greatest.long);
    each = λ b d below. let inside : b < length ends = omega (arith, below, greatest.long) in
        IsStart-greatest ends b (get_or starts b d) are inside (greatest.each b d inside);
    within = λ k z low high. omega (arith, size, greatest.long, within k z low high);
  }

-- ---- the greatest number so far

-- the first numbers have become the greatest of those up to them, and this is the greatest of all of them
pub record AreGreatestTo (old : List ℕ) (count greatest : ℕ) (now : List ℕ) : Type 0 where
  pub long : length now ≡ length old
  pub each : (k d : ℕ) → k < count → IsGreatest old (k + 1) (get_or now k d)
  pub kept : (k d : ℕ) → count ≤ k → get_or now k d ≡ get_or old k d
  pub last : IsGreatest old count greatest

pub AreGreatestTo-none : (old : List ℕ) → AreGreatestTo old 0 0 old
AreGreatestTo-none old = record {
  long = refl;
  each = λ k d below. absurd (omega (arith, below));
  kept = λ k d from. refl;
  last = record { most = λ k d low high. absurd (omega (arith, low, high)); least = λ bound all. omega arith };
}

pub AreGreatestTo-more : (old now : List ℕ) (i most more n : ℕ) → i < length old → n ≡ get_or now i n → AreGreatestTo old i most now → most ≤ more → n ≤ more
    → ((bound : ℕ) → most ≤ bound → n ≤ bound → more ≤ bound) → AreGreatestTo old (i + 1) more (set now i more)
AreGreatestTo-more old now i most more n inside is sofar rise here no_more =
    let held : i < length now = omega (arith, inside, sofar.long) in
    let read : (d : ℕ) → get_or old i d ≡ n = λ d. sym (sofar.kept i d (omega arith)) ∙ get_or_default now i d n held ∙ sym is in
    let greatest : IsGreatest old (i + 1) more = record {
      most = λ k d low high. elim (cases_lt k i) [
        | inl lt ↦ omega (arith, rise, sofar.last.most k d low lt)
        | inr le ↦ let same : k ≡ i = omega (arith, high, le) in omega (arith, here, read d, ap (λ j. get_or old j d) same)
      ];
      least = λ bound all. no_more bound (sofar.last.least bound (λ k d low high. all k d low (omega (arith, high)))) (omega (arith, read 0, all i 0 (omega arith) (omega arith)));
    } in
    record {
      long = length-set now i more ∙ sofar.long;
      each = λ k d below. elim (cases_eq k i) [
        | inl same ↦ subst (λ j. IsGreatest old (j + 1) (get_or (set now i more) j d)) (sym same) (subst (IsGreatest old (i + 1)) (sym (get_or-set_same now i more d held)) greatest)
        | inr other ↦ subst (IsGreatest old (k + 1)) (sym (get_or-set_other now i k more d other)) (sofar.each k d (omega (arith, below, other)))
      ];
      kept = λ k d from. get_or-set_other now i k more d (λ same. absurd (omega (arith, same, from))) ∙ sofar.kept k d (omega (arith, from));
      last = greatest;
    }

-- ---- the rank of a number, in the part near it

IsRising-part : (zs : List ℤ) (from to : ℕ) → to ≤ length zs → IsRising zs → IsRising (slice_range zs from to)
IsRising-part zs from to bound rise i j d order below =
    let inside : from + j < to = omega (arith, length-between zs from to bound, below) in
    subst (λ z. z ≤ℤ get_or (slice_range zs from to) j d) (sym (get_or-between zs from to i d (omega (arith, order, inside))))
    (subst (λ z. get_or zs (from + i) d ≤ℤ z) (sym (get_or-between zs from to j d inside)) (rise (from + i) (from + j) d (omega (arith, order)) (omega (arith, inside, bound))))

-- a list is parted where a part of it is, where all before the part pass and none behind it does
module _ (p : ℤ → Bool) (zs : List ℤ) (from to i : ℕ) (ordered : from ≤ to) (bound : to ≤ length zs)
    (before : AllWithin (λ z. p z ≡ true) zs 0 from) (behind : AllWithin (λ z. p z ≡ false) zs to (length zs))
    (inside : i ≤ length (slice_range zs from to)) (parted : IsPartitionPoint (λ z. p z ≡ true) (λ z. p z ≡ false) (slice_range zs from to) i) where
  width : length (slice_range zs from to) ≡ to - from
  width = length-between zs from to bound

  at : (k : ℕ) (d : ℤ) → from ≤ k → k < to → get_or (slice_range zs from to) (k - from) d ≡ get_or zs k d
  at k d low high = let here : from + (k - from) ≡ k = omega (arith, low) in get_or-between zs from to (k - from) d (omega (arith, here, high)) ∙ ap (λ n. get_or zs n d) here

  first : AllWithin (λ z. p z ≡ true) zs 0 (from + i)
  first k d low high = elim (cases_lt k from) [
    | inl lt ↦ before k d low lt
    | inr le ↦ subst (λ z. p z ≡ true) (at k d le (omega (arith, high, inside, width))) (parted.0 (k - from) d (omega arith) (omega (arith, le, high)))
  ]

  last : AllWithin (λ z. p z ≡ false) zs (from + i) (length zs)
  last k d low high = elim (cases_lt k to) [
    | inl lt ↦ subst (λ z. p z ≡ false) (at k d (omega (arith, low)) lt) (parted.1 (k - from) d (omega (arith, low)) (omega (arith, width, low, lt)))
    | inr le ↦ behind k d le high
  ]

  pub count_part : length (filter p zs) ≡ from + i
  count_part = count_front p zs (from + i) (omega (arith, inside, width, ordered, bound)) (first, last)

less_through : (z number : ℤ) → int_lt z number ≡ true → int_le z number ≡ true
less_through z number less = grind (arith, ints)

greater_below : (z number : ℤ) → int_lt number z ≡ true → int_lt z number ≡ false
greater_below z number greater = grind (arith, ints)

greater_through : (z number : ℤ) → int_lt number z ≡ true → int_le z number ≡ false
greater_through z number greater = grind (arith, ints)

is_at_most : (z : ℤ) → int_le z z ≡ true
is_at_most z = grind (arith, ints)

-- numbers, and the part near one of them
module _ (zs numbers : List ℤ) (are : zs ≡ numbers) (number : ℤ) (part : Span) (near : IsNear zs number part) where
  -- where the part is the number alone, its ends are the ranks
  pub count_below_whole : IsWhole zs number part → part.from ≡ count_below number numbers
  count_below_whole whole =
      sym (count_front (λ z. int_lt z number) zs part.from (omega (arith, near.ordered, near.bound)) (
        near.before,
        λ k d low high. elim (cases_lt k part.to) [
          | inl lt ↦ subst (λ z. int_lt z number ≡ false) (sym (whole k d low lt)) (not_less number)
          | inr le ↦ greater_below _ number (near.behind k d le high)
        ],
      )) ∙ ap (count_below number) are

  pub count_through_whole : IsWhole zs number part → part.to ≡ count_through number numbers
  count_through_whole whole =
      sym (count_front (λ z. int_le z number) zs part.to near.bound (
        λ k d low high. elim (cases_lt k part.from) [
          | inl lt ↦ less_through _ number (near.before k d low lt)
          | inr le ↦ subst (λ z. int_le z number ≡ true) (sym (whole k d le high)) (is_at_most number)
        ],
        λ k d low high. greater_through _ number (near.behind k d low high),
      )) ∙ ap (count_through number) are

-- a test that the numbers below this one pass, those above it fail, and none passes where one that is no greater fails
pub record PartsAt (number : ℤ) (p : ℤ → Bool) : Type 0 where
  pub before : (z : ℤ) → int_lt z number ≡ true → p z ≡ true
  pub behind : (z : ℤ) → int_lt number z ≡ true → p z ≡ false
  pub falls : (zs : List ℤ) → IsRising zs → IsPartitionedBy p zs

pub lt_parts : (number : ℤ) → PartsAt number (λ z. int_lt z number)
lt_parts number = record {
  before = λ z less. less;
  behind = λ z greater. greater_below z number greater;
  falls = λ zs rise. IsPartitionedBy-lt zs number rise;
}

pub le_parts : (number : ℤ) → PartsAt number (λ z. int_le z number)
le_parts number = record {
  before = λ z less. less_through z number less;
  behind = λ z greater. greater_through z number greater;
  falls = λ zs rise. IsPartitionedBy-le zs number rise;
}

-- where the part near a number is parted by such a test, all numbers are
module _ (zs numbers : List ℤ) (are : zs ≡ numbers) (number : ℤ) (part : Span) (near : IsNear zs number part) (rise : IsRising zs) (p : ℤ → Bool) (parts : PartsAt number p) where
  pub count_near : (read : List ℤ) (i : ℕ) → read ≡ zs → i ≤ length (slice_range read part.from part.to)
      → (IsPartitionedBy p (slice_range read part.from part.to) → IsPartitionPoint (λ z. p z ≡ true) (λ z. p z ≡ false) (slice_range read part.from part.to) i)
      → part.from + i ≡ length (filter p numbers)
  count_near read i same inside parted =
      let cut : List ℤ = slice_range zs part.from part.to in
      let cut_is : slice_range read part.from part.to ≡ cut = ap (λ l. slice_range l part.from part.to) same in
      let rising : IsPartitionedBy p cut = parts.falls cut (IsRising-part zs part.from part.to near.bound rise) in
      sym (count_part p zs part.from part.to i near.ordered near.bound (λ k d low high. parts.before _ (near.before k d low high)) (λ k d low high. parts.behind _ (near.behind k d low high))
      (subst (λ l. i ≤ length l) cut_is inside)
      (subst (λ l. IsPartitionPoint (λ z. p z ≡ true) (λ z. p z ≡ false) l i) cut_is (parted (subst (IsPartitionedBy p) (sym cut_is) rising))))
      ∙ ap (λ l. length (filter p l)) are

-- what is told of a number as a word keeps it is so of the number
pub near_kept : {zs : List ℤ} {number : ℤ} {part : Span} → SFits w64 number → IsNear zs (to_z w64 (of_z w64 number)) part → IsNear zs number part
near_kept fits near = simp to_z-of_z at near

pub whole_kept : (zs : List ℤ) (number : ℤ) (part : Span) → SFits w64 number → IsWhole zs (to_z w64 (of_z w64 number)) part → IsWhole zs number part
whole_kept zs number part fits whole = simp to_z-of_z at whole
