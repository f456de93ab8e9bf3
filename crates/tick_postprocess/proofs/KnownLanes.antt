-- Sets of lanes, lane by lane.
use Rattle.std.proofs.Common.{◌≡◌, ◌≢◌, ◌+◌, ◌<◌, ◌≤◌, ◌∙◌, ◌==◌, ◌&&◌, ◌||◌, not, ◌⊎◌, inl, inr, ℕ, Bool, true, false, ap, refl, sym, arith}
use Rattle.std.proofs.lemmas.Bool.{cases_eq, eq-eqb, ne_eqb}
use Rattle.sgl_lanes.specs.Lanes.{has}

and_true : (b : Bool) → (b && true) ≡ b
and_true true = refl
and_true false = refl

and_false : (b : Bool) → (b && false) ≡ false
and_false true = refl
and_false false = refl

or_false : (b : Bool) → (b || false) ≡ b
or_false true = refl
or_false false = refl

-- one more lane, where it holds there
pub lane_more : (lanes one more lane : ℕ) (holds : ℕ → Bool) → ((k : ℕ) → has more k ≡ (has lanes k || has one k)) → ((k : ℕ) → has one k ≡ (holds lane && k == lane))
    → ((k : ℕ) → k < lane → has lanes k ≡ holds k) → ((k : ℕ) → lane ≤ k → has lanes k ≡ false) → (k : ℕ) → k < lane + 1 → has more k ≡ holds k
lane_more lanes one more lane holds both this before rest k below = both k ∙ ap (λ b. has lanes k || b) (this k) ∙ split (cases_eq k lane)
  where
    split : (k ≡ lane) ⊎ (k ≢ lane) → (has lanes k || (holds lane && k == lane)) ≡ holds k
    split (inl same) =
        ap (λ b. has lanes k || (holds lane && b)) (eq-eqb k lane same)
        ∙ ap (λ b. has lanes k || b) (and_true (holds lane))
        ∙ ap (λ b. b || holds lane) (rest k (omega (arith, same)))
        ∙ ap holds (sym same)
    split (inr apart) =
        ap (λ b. has lanes k || (holds lane && b)) (ne_eqb k lane apart)
        ∙ ap (λ b. has lanes k || b) (and_false (holds lane))
        ∙ or_false (has lanes k)
        ∙ before k (omega (arith, below, apart))

-- and none behind it
pub lane_rest : (lanes one more lane : ℕ) (holds : Bool) → ((k : ℕ) → has more k ≡ (has lanes k || has one k)) → ((k : ℕ) → has one k ≡ (holds && k == lane))
    → ((k : ℕ) → lane ≤ k → has lanes k ≡ false) → (k : ℕ) → lane + 1 ≤ k → has more k ≡ false
lane_rest lanes one more lane holds both this rest k behind =
    both k ∙ ap (λ b. has lanes k || b) (this k)
    ∙ ap (λ b. has lanes k || (holds && b)) (ne_eqb k lane (omega (arith, behind)))
    ∙ ap (λ b. has lanes k || b) (and_false holds)
    ∙ or_false (has lanes k)
    ∙ rest k (omega (arith, behind))

-- a lane of a set that another one has not is the same lane
pub lane_without : (all removed stay k : ℕ) → has all k ≡ true → has stay k ≡ (has all k && not (has removed k)) → has stay k ≡ not (has removed k)
lane_without all removed stay k inside is = is ∙ ap (λ b. b && not (has removed k)) inside

-- where two sets have no lane in common, a lane of one is none of the other
pub lane_apart : (all spawning k : ℕ) → has all k ≡ true → false ≡ (has all k && has spawning k) → has spawning k ≡ false
lane_apart all spawning k inside is = sym (is ∙ ap (λ b. b && has spawning k) inside)
