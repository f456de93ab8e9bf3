-- A word that stands for amounts is finished to their combination.
use Rattle.std.proofs.Common.{◌≡◌, ℕ, ℤ, pos, negsuc, ◌+◌, ◌*◌, ◌<◌, ◌≤◌, min, max, cond, nat_le, unsigned_abs, ◌+ℤ◌, ◌-ℤ◌, ◌≤ℤ◌, Bool, true, false, ◌&&◌, ◌/◌, ◌%◌, List, [], ◌∷◌, length, Option, Some, None, sym, refl, ap, subst, ◌∙◌, arith, true≢false}
use Rattle.std.proofs.lemmas.Bool.Decides.{nat_tests}
use Rattle.std.proofs.lemmas.Int.{ints, clamps, to_z-of_z, wrapping_add-bits, int_wrap_fits, wrapping_add_is}
use Rattle.std.proofs.lemmas.Cmp.{ranked, int_ranked}
use Rattle.std.specs.List.{list_all}
use Rattle.std.specs.Ordering.{is_gt, nat_cmp, int_cmp, ordering_then}
use Rattle.std.specs.declared.cmp.Ordering.{Ordering}
use Rattle.std.specs.declared.cmp.Ordering.TheVariants.{Less, Equal, Greater}
use Rattle.std.specs.Int.{cast_unsigned, cast_signed, int_wrap, int_wrapping_add, int_min, int_max}
use Rattle.std.specs.Int.RustNames.{FitsSigned}
use mir.Syntax.{w64}
use Rattle.sgl_values.specs.Amounts.{Amount, is_amount, falling_cmp}
use Rattle.sgl_values.specs.Least.{lesser_of}
use Rattle.sgl_values.specs.Range.{in_range}
use Rattle.sgl_values.specs.declared.fault.Tag.TheVariants.{Sum, Min, Max, Top}
use Rattle.sgl_values.specs.Cells.{combination, greatest, value_or}
use Rattle.effect_combine.specs.Words.{word_for, word_of}
use Rattle.effect_combine.specs.Standing.{StandsFor, TellsGreatest, least_in, greatest_in, top_in}

pub both : (a b : Bool) → (a && b) ≡ true → (a ≡ true) × (b ≡ true)
both true b h = (refl, h)
both false b h = absurd (true≢false (sym h))

small : (z : ℤ) → in_range z ≡ true → unsigned_abs z ≤ 1000000000000
small z h = grind (arith, nat_tests, h)

small_value : (a : Amount) → is_amount a ≡ true → unsigned_abs a.value ≤ 1000000000000
small_value a h = small a.value (both (in_range a.value) (nat_le a.priority 1000000) h).0

fits-64 : (z : ℤ) → unsigned_abs z ≤ 1000000000000 → FitsSigned w64 z
fits-64 (pos n) h = record { sfits = omega (arith, h) }
fits-64 (negsuc n) h = record { sfits = omega (arith, h) }

within : (z : ℤ) → pos 0 ≤ℤ (z +ℤ pos 9223372036854775807) → z ≤ℤ pos 9223372036854775807 → FitsSigned w64 z
within (pos n) low high = record { sfits = omega (arith, ints, high) }
within (negsuc n) low high = record { sfits = omega (arith, ints, low) }

pub near : (z : ℤ) → negsuc 999999999999 ≤ℤ z → z ≤ℤ pos 1000000000000 → unsigned_abs z ≤ 1000000000000
near (pos n) low high = omega (arith, ints, high)
near (negsuc n) low high = omega (arith, ints, low)

-- the sum of at most as many amounts
pub record Sums (amounts : List Amount) : Type 0 where
  pub low : pos 0 ≤ℤ (combination Sum (pos 0) amounts +ℤ pos (length amounts * 1000000000000))
  pub high : combination Sum (pos 0) amounts ≤ℤ pos (length amounts * 1000000000000)
  pub fits : word_for Sum amounts < 18446744073709551616
  pub word : cast_signed w64 (word_for Sum amounts) ≡ combination Sum (pos 0) amounts

pub sums : (amounts : List Amount) → length amounts ≤ 8000000 → list_all is_amount amounts ≡ true → Sums amounts
sums [] few fit = record { low = omega (arith, ints); high = omega (arith, ints); fits = omega arith; word = refl }
sums (a ∷ more) few fit =
    let parts = both (is_amount a) (list_all is_amount more) fit in
    let rest = sums more (omega (arith, few)) parts.1 in
    let one = small_value a parts.0 in
    let low = rest.low in
    let high = rest.high in
    let total : ℤ = combination Sum (pos 0) more in
    let fits : FitsSigned w64 a.value = fits-64 a.value one in
    let all_fit : FitsSigned w64 (a.value +ℤ total) = within (a.value +ℤ total) (omega (arith, ints, one, low, high, few)) (omega (arith, ints, one, low, high, few)) in
    record {
      low = omega (arith, ints, one, low);
      high = omega (arith, ints, one, high);
      fits = omega arith;
      word = wrapping_add-bits w64 (cast_unsigned w64 a.value) (word_for Sum more) (omega (arith, ints, one)) rest.fits
          ∙ ap (int_wrap w64) (λ i. to_z-of_z w64 a.value fits i +ℤ rest.word i)
          ∙ int_wrap_fits w64 (a.value +ℤ total) all_fit;
    }

-- the starting value counts once
pub from_init : (init : ℤ) (amounts : List Amount) → combination Sum init amounts ≡ init +ℤ combination Sum (pos 0) amounts
from_init init [] = omega (arith, ints)
from_init init (a ∷ more) = let rest = from_init init more in omega (arith, ints, rest)

pub sum_is : (init : ℤ) (word : ℕ) (amounts : List Amount) → unsigned_abs init ≤ 1000000000000 → StandsFor Sum word amounts → int_wrapping_add w64 init (cast_signed w64 word) ≡ combination Sum init amounts
sum_is init word amounts fit stands =
    let bounds = sums amounts stands.few stands.numbers in
    let few = stands.few in
    let low = bounds.low in
    let high = bounds.high in
    let total : ℤ = combination Sum (pos 0) amounts in
    let fits : FitsSigned w64 init = fits-64 init fit in
    let all_fit : FitsSigned w64 (init +ℤ total) = within (init +ℤ total) (omega (arith, ints, fit, low, high, few)) (omega (arith, ints, fit, low, high, few)) in
    let at : cast_signed w64 word ≡ total = ap (cast_signed w64) stands.is ∙ bounds.word in
    let sum_fits : FitsSigned w64 total = within total (omega (arith, ints, low, high, few)) (omega (arith, ints, low, high, few)) in
    ap (int_wrapping_add w64 init) at
    ∙ wrapping_add_is w64 init total fits sum_fits
    ∙ int_wrap_fits w64 (init +ℤ total) all_fit
    ∙ sym (from_init init amounts)

-- ---- the least and the greatest

least-at : (init : ℤ) (w : ℕ) (b : Bool) → nat_le w 2000000000000 ≡ b → least_in init w ≡ cond b (int_min init (pos w -ℤ pos 1000000000000)) init
least-at init w b e = ap (λ (t : Bool). cond t (int_min init (pos w -ℤ pos 1000000000000)) init) e

least-step : (init a c : ℤ) (w : ℕ) → unsigned_abs a ≤ 1000000000000 → least_in init w ≡ c → (b : Bool) → nat_le w 2000000000000 ≡ b → least_in init (min (unsigned_abs (a +ℤ pos 1000000000000)) w) ≡ int_min a c
least-step init a c w fit is true e =
    let at = sym (least-at init w true e) ∙ is in
    least-at init (min (unsigned_abs (a +ℤ pos 1000000000000)) w) true (grind (arith, ints, nat_tests, fit)) ∙ omega (arith, ints, clamps, at, fit)
least-step init a c w fit is false e =
    let at = sym (least-at init w false e) ∙ is in
    let far : 2000000000000 < w = grind (arith, nat_tests, e) in
    least-at init (min (unsigned_abs (a +ℤ pos 1000000000000)) w) true (grind (arith, ints, nat_tests, fit)) ∙ omega (arith, ints, clamps, at, fit, far)

pub least_is : (init : ℤ) (amounts : List Amount) → list_all is_amount amounts ≡ true → least_in init (word_for Min amounts) ≡ combination Min init amounts
least_is init [] fit = refl
least_is init (a ∷ more) fit =
    let parts = both (is_amount a) (list_all is_amount more) fit in
    least-step init a.value (combination Min init more) (word_for Min more) (small_value a parts.0) (least_is init more parts.1) (nat_le (word_for Min more) 2000000000000) refl

greatest-at : (init : ℤ) (w : ℕ) (b : Bool) → (nat_le 1 w && nat_le w 2000000000001) ≡ b → greatest_in init w ≡ cond b (int_max init (pos w -ℤ pos 1000000000001)) init
greatest-at init w b e = ap (λ (t : Bool). cond t (int_max init (pos w -ℤ pos 1000000000001)) init) e

greatest-step : (init a c : ℤ) (w : ℕ) → unsigned_abs a ≤ 1000000000000 → w ≤ 2000000000001 → greatest_in init w ≡ c → (b : Bool) → (nat_le 1 w && nat_le w 2000000000001) ≡ b
    → greatest_in init (max (unsigned_abs (a +ℤ pos 1000000000001)) w) ≡ int_max a c
greatest-step init a c w fit low is true e =
    let at = sym (greatest-at init w true e) ∙ is in
    greatest-at init (max (unsigned_abs (a +ℤ pos 1000000000001)) w) true (grind (arith, ints, nat_tests, fit, low)) ∙ omega (arith, ints, clamps, at, fit)
greatest-step init a c w fit low is false e =
    let at = sym (greatest-at init w false e) ∙ is in
    let none : w ≡ 0 = grind (arith, nat_tests, e, low) in
    greatest-at init (max (unsigned_abs (a +ℤ pos 1000000000001)) w) true (grind (arith, ints, nat_tests, fit, low)) ∙ omega (arith, ints, clamps, at, fit, none)

most : (amounts : List Amount) → list_all is_amount amounts ≡ true → word_for Max amounts ≤ 2000000000001
most [] fit = omega arith
most (a ∷ more) fit =
    let parts = both (is_amount a) (list_all is_amount more) fit in
    let one = small_value a parts.0 in
    let rest = most more parts.1 in
    omega (arith, ints, one, rest)

pub greatest_is : (init : ℤ) (amounts : List Amount) → list_all is_amount amounts ≡ true → greatest_in init (word_for Max amounts) ≡ combination Max init amounts
greatest_is init [] fit = refl
greatest_is init (a ∷ more) fit =
    let parts = both (is_amount a) (list_all is_amount more) fit in
    greatest-step init a.value (combination Max init more) (word_for Max more) (small_value a parts.0) (most more parts.1) (greatest_is init more parts.1) (nat_le 1 (word_for Max more) && nat_le (word_for Max more) 2000000000001) refl

-- ---- the top

-- the word of an amount that may be there
abbrev word_or : Option Amount → ℕ
word_or None = 0
word_or (Some a) = word_of Top a

abbrev Fits : Option Amount → Type 0
Fits None = Unit {0}
Fits (Some a) = is_amount a ≡ true

-- of two amounts the greater has the greater word
top-case : (a b : Amount) → unsigned_abs a.value ≤ 1000000000000 → unsigned_abs b.value ≤ 1000000000000
    → (o p : Ordering) → o ≡ nat_cmp b.priority a.priority → p ≡ int_cmp b.value a.value
    → max (word_of Top a) (word_of Top b) ≡ word_or (cond (is_gt (ordering_then o p)) (Some b) (Some a))
top-case a b fit fit' Less p e k = let less = ranked b.priority a.priority Less e in omega (arith, ints, fit, fit', less)
top-case a b fit fit' Greater p e k = let less = ranked b.priority a.priority Greater e in omega (arith, ints, fit, fit', less)
top-case a b fit fit' Equal Less e k =
    let same = ranked b.priority a.priority Equal e in
    let less = int_ranked b.value a.value Less k in
    omega (arith, ints, fit, fit', same, less)
top-case a b fit fit' Equal Equal e k =
    let same = ranked b.priority a.priority Equal e in
    let equal = int_ranked b.value a.value Equal k in
    omega (arith, ints, fit, fit', same, equal)
top-case a b fit fit' Equal Greater e k =
    let same = ranked b.priority a.priority Equal e in
    let less = int_ranked b.value a.value Greater k in
    omega (arith, ints, fit, fit', same, less)

top-step : (a : Amount) (o : Option Amount) → is_amount a ≡ true → Fits o → max (word_of Top a) (word_or o) ≡ word_or (lesser_of falling_cmp (Some a) o)
top-step a None fit fit' = omega arith
top-step a (Some b) fit fit' =
    top-case a b (small_value a fit) (small_value b fit') (nat_cmp b.priority a.priority) (int_cmp b.value a.value) refl refl

fits-case : (a b : Amount) → is_amount a ≡ true → is_amount b ≡ true → (g : Bool) → Fits (cond g (Some b) (Some a))
fits-case a b fit fit' true = fit'
fits-case a b fit fit' false = fit

fits-step : (a : Amount) (o : Option Amount) → is_amount a ≡ true → Fits o → Fits (lesser_of falling_cmp (Some a) o)
fits-step a None fit fit' = fit
fits-step a (Some b) fit fit' = fits-case a b fit fit' (is_gt (falling_cmp a b))

-- the word of amounts is that of the greatest
top-word : (amounts : List Amount) → list_all is_amount amounts ≡ true → (word_for Top amounts ≡ word_or (greatest amounts)) × Fits (greatest amounts)
top-word [] fit = (refl, tt)
top-word (a ∷ more) fit =
    let parts = both (is_amount a) (list_all is_amount more) fit in
    let rest = top-word more parts.1 in (
      ap (max (word_of Top a)) rest.0 ∙ top-step a (greatest more) parts.0 rest.1,
      fits-step a (greatest more) parts.0 rest.1,
    )

low-is : (p n : ℕ) → n < 2199023255552 → (p * 2199023255552 + n) % 2199023255552 ≡ n
low-is p n below = omega (arith, below)

top-at : (init : ℤ) (w low : ℕ) → w % 2199023255552 ≡ low → (nat_le 1 low && nat_le low 2000000000001) ≡ true → top_in init w ≡ pos low -ℤ pos 1000000000001
top-at init w low e test =
    ap (λ (n : ℕ). cond (nat_le 1 n && nat_le n 2000000000001) (pos n -ℤ pos 1000000000001) init) e
    ∙ ap (λ (t : Bool). cond t (pos low -ℤ pos 1000000000001) init) test

top-value : (init : ℤ) (o : Option Amount) → Fits o → top_in init (word_or o) ≡ value_or init o
top-value init None fit = refl
top-value init (Some a) fit =
    let one = small_value a fit in
    let low : ℕ = unsigned_abs (a.value +ℤ pos 1000000000001) in
    top-at init (word_of Top a) low (low-is a.priority low (omega (arith, ints, one))) (grind (arith, ints, nat_tests, one)) ∙ omega (arith, ints, one)

pub top_is : (init : ℤ) (amounts : List Amount) → list_all is_amount amounts ≡ true → top_in init (word_for Top amounts) ≡ combination Top init amounts
top_is init amounts fit = let word = top-word amounts fit in ap (top_in init) word.0 ∙ top-value init (greatest amounts) word.1

high-is : (p n : ℕ) → n < 2199023255552 → (p * 2199023255552 + n) / 2199023255552 ≡ p
high-is p n below = omega (arith, below)

small_priority : (a : Amount) → is_amount a ≡ true → a.priority ≤ 1000000
small_priority a h = let fit = (both (in_range a.value) (nat_le a.priority 1000000) h).1 in grind (arith, nat_tests, fit)

tells : (o : Option Amount) → Fits o → TellsGreatest (word_or o) o
tells None fit = refl
tells (Some a) fit =
    let one = small_value a fit in
    let few = small_priority a fit in
    let low : ℕ = unsigned_abs (a.value +ℤ pos 1000000000001) in
    let below : low < 2199023255552 = omega (arith, ints, one) in (
      omega (arith, ints, one),
      omega (arith, ints, one, few),
      ap (λ (n : ℕ). pos n -ℤ pos 1000000000001) (low-is a.priority low below) ∙ omega (arith, ints, one),
      high-is a.priority low below,
    )

pub top_tells : (word : ℕ) (amounts : List Amount) → StandsFor Top word amounts → TellsGreatest word (greatest amounts)
top_tells word amounts stands =
    let parts = top-word amounts stands.numbers in
    subst (λ (w : ℕ). TellsGreatest w (greatest amounts)) (sym (stands.is ∙ parts.0)) (tells (greatest amounts) parts.1)
