-- Sums over points: over parts, and in another order.
use Rattle.std.proofs.Common.{◌≡◌, ◌∙◌, ◌+◌, ◌<◌, ◌≤◌, ◌+ℤ◌, ℕ, ℤ, Bool, true, false, cond, List, [], ◌∷◌, ◌++◌, length, take, get_or, refl, sym, ap, arith}
use Rattle.std.specs.Prelude.{◌&&◌, ◌||◌, filter, pos}
use Rattle.std.specs.List.Sorted.{IsPermutation}
use Rattle.std.proofs.lemmas.Int.{ints}
use Rattle.std.proofs.lemmas.List.Elements.{filter_agree, filter_more}
use Rattle.std.proofs.lemmas.List.Sorted.{length_permutation}
use Rattle.sgl_values.proofs.Permutations.{steps, steps-IsPermutation}
use Rattle.cell_keep.specs.declared.point.Cell.{Cell}
use Rattle.cell_keep.specs.declared.point.KeepPoint.{KeepPoint}
use Rattle.cell_keep.specs.declared.point.Sums.{Sums}
use Rattle.cell_keep.specs.Circles.{joined, sums_of, weight_of}
use Rattle.cell_keep.specs.Covers.{IsBounded}

abbrev sums : ℕ → ℤ → Sums
sums count sum = record { count = count; sum = sum }

pub same_sums : (a b : Sums) → a.count ≡ b.count → a.sum ≡ b.sum → a ≡ b
same_sums a b count sum = ap (λ (n : ℕ). sums n a.sum) count ∙ ap (λ (z : ℤ). sums b.count z) sum

-- ---- in another order

weight_steps : (points : List KeepPoint) → weight_of points ≡ steps (λ (point : KeepPoint) (z : ℤ). point.weight +ℤ z) (pos 0) points
weight_steps [] = refl
weight_steps (point ∷ points) = ap (λ (z : ℤ). point.weight +ℤ z) (weight_steps points)

free : (x y : KeepPoint) (z : ℤ) → x.weight +ℤ (y.weight +ℤ z) ≡ y.weight +ℤ (x.weight +ℤ z)
free x y z = omega (arith, ints)

pub sums-IsPermutation : (points others : List KeepPoint) → IsPermutation points others → sums_of others ≡ sums_of points
sums-IsPermutation points others p =
    same_sums (sums_of others) (sums_of points) (length_permutation points others p)
    (weight_steps others ∙ (steps-IsPermutation (λ (point : KeepPoint) (z : ℤ). point.weight +ℤ z) (pos 0) free points others p ∙ sym (weight_steps points)))

-- ---- of two parts

-- a point more in one of the parts
part_step : (a b : Bool) → (a && b) ≡ false → (point : KeepPoint) (ps qs rs : List KeepPoint) → sums_of rs ≡ joined (sums_of ps) (sums_of qs)
    → sums_of (cond (a || b) (point ∷ rs) rs) ≡ joined (sums_of (cond a (point ∷ ps) ps)) (sums_of (cond b (point ∷ qs) qs))
part_step true true apart point ps qs rs inner = absurd (both apart)
  where
    both : true ≡ false → ⊥
    both h = cc
part_step true false apart point ps qs rs inner =
    let count = ap (λ (s : Sums). s.count) inner in
    let sum = ap (λ (s : Sums). s.sum) inner in
    same_sums (sums_of (point ∷ rs)) (joined (sums_of (point ∷ ps)) (sums_of qs)) (omega (arith, count)) (omega (arith, ints, sum))
part_step false true apart point ps qs rs inner =
    let count = ap (λ (s : Sums). s.count) inner in
    let sum = ap (λ (s : Sums). s.sum) inner in
    same_sums (sums_of (point ∷ rs)) (joined (sums_of ps) (sums_of (point ∷ qs))) (omega (arith, count)) (omega (arith, ints, sum))
part_step false false apart point ps qs rs inner = inner

either_sums : (p q : KeepPoint → Bool) → ((point : KeepPoint) → (p point && q point) ≡ false) → (points : List KeepPoint)
    → sums_of (filter (λ point. p point || q point) points) ≡ joined (sums_of (filter p points)) (sums_of (filter q points))
either_sums p q apart [] = refl
either_sums p q apart (point ∷ points) =
    part_step (p point) (q point) (apart point) point (filter p points) (filter q points) (filter (λ x. p x || q x) points) (either_sums p q apart points)

-- the points of both parts, where each point is of one at most
pub parts_sums : (p q r : KeepPoint → Bool) → ((point : KeepPoint) → r point ≡ (p point || q point)) → ((point : KeepPoint) → (p point && q point) ≡ false)
    → (points : List KeepPoint) → sums_of (filter r points) ≡ joined (sums_of (filter p points)) (sums_of (filter q points))
parts_sums p q r is apart points = ap sums_of (filter_agree r (λ point. p point || q point) is points) ∙ either_sums p q apart points

-- no point passes
pub none_sums : (p : KeepPoint → Bool) → ((point : KeepPoint) → p point ≡ false) → (points : List KeepPoint) → sums_of (filter p points) ≡ sums 0 (pos 0)
none_sums p none [] = refl
none_sums p none (point ∷ points) = ap (λ (b : Bool). sums_of (cond b (point ∷ filter p points) (filter p points))) (none point) ∙ none_sums p none points

-- ---- one point after the other

pub joined_none : (a : Sums) → joined (sums 0 (pos 0)) a ≡ a
joined_none a = same_sums (joined (sums 0 (pos 0)) a) a (omega arith) (omega (arith, ints))

pub joined-assoc : (a b c : Sums) → joined (joined a b) c ≡ joined a (joined b c)
joined-assoc a b c = same_sums (joined (joined a b) c) (joined a (joined b c)) (omega arith) (omega (arith, ints))

pub sums-append : (xs ys : List KeepPoint) → sums_of (xs ++ ys) ≡ joined (sums_of xs) (sums_of ys)
sums-append [] ys = sym (joined_none (sums_of ys))
sums-append (x ∷ xs) ys =
    let count = ap (λ (s : Sums). s.count) (sums-append xs ys) in
    let sum = ap (λ (s : Sums). s.sum) (sums-append xs ys) in
    same_sums (sums_of (x ∷ (xs ++ ys))) (joined (sums_of (x ∷ xs)) (sums_of ys)) (omega (arith, count)) (omega (arith, ints, sum))

-- the first point apart
pub first_sums : (b : Bool) (x : KeepPoint) (xs : List KeepPoint) → sums_of (cond b (x ∷ xs) xs) ≡ joined (sums_of (cond b (x ∷ []) [])) (sums_of xs)
first_sums true x xs = sums-append (x ∷ []) xs
first_sums false x xs = sym (joined_none (sums_of xs))

-- one point more of a list
pub take_sums : (test : KeepPoint → Bool) (points : List KeepPoint) (i : ℕ) (d : KeepPoint) → i < length points
    → sums_of (filter test (take (i + 1) points)) ≡ joined (sums_of (filter test (take i points))) (sums_of (cond (test (get_or points i d)) (get_or points i d ∷ []) []))
take_sums test points i d inside =
    ap sums_of (filter_more test points i d inside) ∙ sums-append (filter test (take i points)) (cond (test (get_or points i d)) (get_or points i d ∷ []) [])

-- no more points are counted than there are
pub few_counted : (test : KeepPoint → Bool) (points : List KeepPoint) → (sums_of (filter test points)).count ≤ length points
few_counted test [] = omega arith
few_counted test (x ∷ xs) = step (test x) (filter test xs) (few_counted test xs)
  where
    step : (b : Bool) (ys : List KeepPoint) → length ys ≤ length xs → length (cond b (x ∷ ys) ys) ≤ length (x ∷ xs)
    step true ys h = omega (arith, h)
    step false ys h = omega (arith, h)

one_at_most : (b : Bool) (point : KeepPoint) → length (cond b (point ∷ []) []) ≤ 1
one_at_most true point = omega arith
one_at_most false point = omega arith

-- a loop's step: one point more, which is counted where it passes
pub next_sums : (test : KeepPoint → Bool) (points : List KeepPoint) (i : ℕ) (point : KeepPoint) (passes : Bool) (old new : Sums) → i < length points → point ≡ get_or points i point
    → passes ≡ test point → old ≡ sums_of (filter test (take i points)) → new ≡ joined old (sums_of (cond passes (point ∷ []) []))
    → (new ≡ sums_of (filter test (take (i + 1) points))) × (new.count ≤ old.count + 1)
next_sums test points i point passes old new inside is tested before added = (
  added ∙ (ap (λ (s : Sums). joined s (sums_of (cond passes (point ∷ []) []))) before
      ∙ (ap (λ (b : Bool). joined (sums_of (filter test (take i points))) (sums_of (cond b (point ∷ []) []))) tested
      ∙ (ap (λ (p : KeepPoint). joined (sums_of (filter test (take i points))) (sums_of (cond (test p) (p ∷ []) []))) is
      ∙ sym (take_sums test points i point inside)))),
  omega (arith, ap (λ (s : Sums). s.count) added, one_at_most passes point),
)

-- what a loop has added up: the sums over the points that pass
pub record AreSums (points : List KeepPoint) (passes : KeepPoint → Bool) (sums : Sums) : Type 0 where
  pub value : sums ≡ sums_of (filter passes points)
  pub bounded : IsBounded sums

-- a loop's step: the sums over the points that pass, of a part more
pub record GoesOn (points : List KeepPoint) (passes : KeepPoint → Bool) (old part : Sums) : Type 0 where
  pub few : old.count + part.count ≤ 65536
  pub sums : (new : Sums) → new ≡ joined old part → IsBounded new → AreSums points passes new

module _ (points : List KeepPoint) (few : length points ≤ 65536) where
  goes_on : (before more passes : KeepPoint → Bool) (old part : Sums) → old ≡ sums_of (filter before points) → part ≡ sums_of (filter more points)
      → sums_of (filter passes points) ≡ joined (sums_of (filter before points)) (sums_of (filter more points)) → GoesOn points passes old part
  goes_on before more passes old part had adds is = record {
    few = omega (arith, ap (λ (s : Sums). s.count) had, ap (λ (s : Sums). s.count) adds, ap (λ (s : Sums). s.count) is, few_counted passes points, few);
    sums = λ new added bounded.
        record { value = added ∙ (ap (λ (s : Sums). joined s part) had ∙ ap (joined (sums_of (filter before points))) adds) ∙ sym is; bounded = bounded };
  }

  -- a part that is told by a cell
  pub goes_on_at : (before passes : KeepPoint → Bool) (more : Cell → KeepPoint → Bool) (next cell : Cell) (old part : Sums) → AreSums points before old
      → cell ≡ next → part ≡ sums_of (filter (more cell) points) → sums_of (filter passes points) ≡ joined (sums_of (filter before points)) (sums_of (filter (more next) points))
      → GoesOn points passes old part
  goes_on_at before passes more next cell old part had same adds is =
      goes_on before (more next) passes old part had.value (adds ∙ ap (λ (c : Cell). sums_of (filter (more c) points)) same) is
