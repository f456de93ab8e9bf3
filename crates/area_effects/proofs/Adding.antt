-- An amount is added at the nodes whose places have the place among them.
use Rattle.std.proofs.Common.{◌≡◌, ◌∙◌, ℕ, ℤ, pos, neg_ℤ, ◌+ℤ◌, ◌<◌, ◌≤◌, Bool, true, false, cond, leb, ltb, refl, ◌&&◌, List, length, get_or, set, ap, ⊎_elim, arith, get_or-set_other}
use Rattle.std.proofs.lemmas.Bool.{cases_eq, cases_lt}
use Rattle.std.proofs.lemmas.Bool.Decides.{nat_tests}
use Rattle.std.proofs.lemmas.Grind.{get_or-set_at}
use Rattle.std.proofs.lemmas.Int.{ints}
use Rattle.std.proofs.lemmas.List.{length-set}
use Rattle.area_effects.specs.Fenwick.{start_of, StandsFor, IsWithin, plus_at, plus_between}
use Rattle.area_effects.proofs.Starts.{after, after-above, start-below, starts-between, starts-after}

-- what a node gets
abbrev pub share : ℕ → ℤ → ℕ → ℤ
share place amount i = cond (leb (start_of i) place && ltb place i) amount (pos 0)

-- the nodes below this one have got their shares, and the others are as they were
pub record Adding (place : ℕ) (amount : ℤ) (old now : List ℤ) (at : ℕ) : Type 0 where
  pub long : length now ≡ length old
  pub starts : start_of at ≤ place
  pub behind : place < at
  pub done : (i : ℕ) (d : ℤ) → i < at → i < length old → get_or now i d ≡ get_or old i d +ℤ share place amount i
  pub rest : (i : ℕ) (d : ℤ) → at ≤ i → get_or now i d ≡ get_or old i d

share-none : (place : ℕ) (amount : ℤ) (i : ℕ) → place < start_of i → share place amount i ≡ pos 0
share-none place amount i behind = grind (arith, nat_tests)

share-all : (place : ℕ) (amount : ℤ) (i : ℕ) → start_of i ≤ place → place < i → share place amount i ≡ amount
share-all place amount i starts behind = grind (arith, nat_tests)

pub adding-more : (place : ℕ) (amount : ℤ) (old now : List ℤ) (at : ℕ) (value : ℤ) → Adding place amount old now at → at < length old
    → ((d : ℤ) → value ≡ get_or now at d +ℤ amount) → Adding place amount old (set now at value) (after at)
adding-more place amount old now at value so-far inside value-is =
    let positive : 0 < at = omega (arith, so-far.behind) in
    let above : at < after at = after-above at positive in
    let all : share place amount at ≡ amount = share-all place amount at so-far.starts so-far.behind in
    record {
      long = length-set now at value ∙ so-far.long;
      starts = omega (arith, starts-after at at (omega arith) positive, so-far.starts);
      behind = omega (arith, so-far.behind, above);
      done = λ i d before i-inside. ⊎_elim
          (λ here. get_or-set_at now at i value d here (omega (arith, inside, so-far.long)) ∙ omega (arith, ints, value-is d, so-far.rest at d (omega arith), all, ap (λ k. get_or old k d) here, ap (share place amount) here))
          (λ other. get_or-set_other now at i value d other ∙ ⊎_elim
          (λ lower. so-far.done i d lower i-inside)
          (λ higher.
          let late : at ≤ start_of i = starts-between at at i (omega arith) positive (omega (arith, higher, other)) before in
          omega (arith, ints, so-far.rest i d higher, share-none place amount i (omega (arith, late, so-far.behind))))
          (cases_lt i at))
          (cases_eq i at);
      rest = λ i d later. get_or-set_other now at i value d (λ same. absurd (omega (arith, same, later, above))) ∙ so-far.rest i d (omega (arith, later, above));
    }

-- what a sum gets
abbrev step : ℕ → ℤ → ℕ → ℤ
step place amount end = cond (ltb place end) amount (pos 0)

step-none : (place : ℕ) (amount : ℤ) → step place amount 0 ≡ pos 0
step-none place amount = grind (arith, nat_tests)

-- the nodes that have got their shares stand for the sums with the amount
shares-add : (place : ℕ) (amount : ℤ) (i : ℕ) → 0 < i → cond (ltb place i) amount (pos 0) ≡ cond (ltb place (start_of i)) amount (pos 0) +ℤ share place amount i
shares-add place amount i positive = by (ltb place (start_of i)) (leb (start_of i) place) (ltb place i)
    (let below = start-below i positive in grind (arith, nat_tests, below))
    (let below = start-below i positive in grind (arith, nat_tests, below))
  where
    by : (early late reached : Bool) → (early ≡ true → (late ≡ false) × (reached ≡ true)) → (early ≡ false → late ≡ true)
        → cond reached amount (pos 0) ≡ cond early amount (pos 0) +ℤ cond (late && reached) amount (pos 0)
    by true true reached first second = cc ((first refl).0)
    by true false true first second = omega (arith, ints)
    by true false false first second = cc ((first refl).1)
    by false false reached first second = cc (second refl)
    by false true true first second = omega (arith, ints)
    by false true false first second = omega (arith, ints)

pub adding-all : (place : ℕ) (amount : ℤ) (old now : List ℤ) (at : ℕ) → Adding place amount old now at → length old ≤ at → (before : ℕ → ℤ)
    → StandsFor before old → StandsFor (plus_at place amount before) now
adding-all place amount old now at so-far all before stands = record {
  none = omega (arith, ints, stands.none, step-none place amount);
  node = λ i d positive inside.
      let i-inside : i < length old = omega (arith, inside, so-far.long) in
      omega (arith, ints, stands.node i d positive i-inside, so-far.done i d (omega (arith, i-inside, all)) i-inside, shares-add place amount i positive);
}

-- sums that are the same number by number
pub StandsFor-same : (before other : ℕ → ℤ) (nodes : List ℤ) → StandsFor before nodes → ((end : ℕ) → before end ≡ other end) → StandsFor other nodes
StandsFor-same before other nodes stands same = record {
  none = omega (arith, ints, same 0, stands.none);
  node = λ i d positive inside. omega (arith, ints, same i, same (start_of i), stands.node i d positive inside);
}

-- an amount that is added at one place and taken away at another
pub steps-between : (low high : ℕ) (amount taken : ℤ) (before : ℕ → ℤ) (end : ℕ) → low ≤ high → taken ≡ neg_ℤ amount
    → plus_at high taken (plus_at low amount before) end ≡ plus_between low high amount before end
steps-between low high amount taken before end order taken-is = by (ltb low end) (leb end high) (ltb high end) (grind (arith, nat_tests)) (grind (arith, nat_tests)) (grind (arith, nat_tests))
  where
    by : (above reached over : Bool) → (above ≡ false → over ≡ false) → (reached ≡ true → over ≡ false) → (reached ≡ false → over ≡ true)
        → (before end +ℤ cond above amount (pos 0)) +ℤ cond over taken (pos 0) ≡ before end +ℤ cond (above && reached) amount (pos 0)
    by true true true first second third = cc (second refl)
    by true true false first second third = omega (arith, ints)
    by true false true first second third = omega (arith, ints)
    by true false false first second third = cc (third refl)
    by false reached true first second third = cc (first refl)
    by false reached false first second third = omega (arith, ints)

pub cond-within : (bound : ℕ) (amount : ℤ) (b : Bool) → IsWithin bound amount → IsWithin bound (cond b amount (pos 0))
cond-within bound amount true within = within
cond-within bound amount false within = record { low = omega (arith, ints); high = omega (arith, ints) }
