-- The nodes of a tree under other tests.
use Rattle.std.proofs.Common.{◌≡◌, ℕ, true, refl}
use Rattle.std.specs.Prelude.{◌&&◌}
use Rattle.std.proofs.lemmas.Bool.{and_parts}
use Rattle.sgl_typed.specs.declared.script.TExpr.{TExpr}
use Rattle.battle_algebra.specs.Tree.{Source, Tree, Nothing, Setting, Parted, Acting, Joined, Parts, each}
use Rattle.battle_algebra.specs.declared.plan.EffectUse.{EffectUse}
use Rattle.battle_algebra.specs.declared.plan.EffectWay.{EffectWay}
use Rattle.battle_algebra.proofs.Bools.{both_true}

-- what passes two tests passes a third one
pub record PartsGive (p r q : Parts) : Type 0 where
  pub sets : (slot : ℕ) (source : Source) → p.sets slot source ≡ true → r.sets slot source ≡ true → q.sets slot source ≡ true
  pub splits : (cond : TExpr) → p.splits cond ≡ true → r.splits cond ≡ true → q.splits cond ≡ true
  pub acts : (act : EffectUse) (way : EffectWay) → p.acts act way ≡ true → r.acts act way ≡ true → q.acts act way ≡ true

pub each-from : (t : Tree) (p r q : Parts) → PartsGive p r q → each p t ≡ true → each r t ≡ true → each q t ≡ true
each-from Nothing p r q law a b = refl
each-from (Setting slot source below) p r q law a b =
    let first : (p.sets slot source ≡ true) × (each p below ≡ true) = and_parts _ _ a in
    let second : (r.sets slot source ≡ true) × (each r below ≡ true) = and_parts _ _ b in
    both_true _ _ (law.sets slot source first.0 second.0) (each-from below p r q law first.1 second.1)
each-from (Parted cond place taken other) p r q law a b =
    let first : (p.splits cond ≡ true) × (each p taken && each p other ≡ true) = and_parts _ _ a in
    let second : (r.splits cond ≡ true) × (each r taken && each r other ≡ true) = and_parts _ _ b in
    let first' : (each p taken ≡ true) × (each p other ≡ true) = and_parts _ _ first.1 in
    let second' : (each r taken ≡ true) × (each r other ≡ true) = and_parts _ _ second.1 in
    both_true _ _ (law.splits cond first.0 second.0)
    (both_true _ _ (each-from taken p r q law first'.0 second'.0) (each-from other p r q law first'.1 second'.1))
each-from (Acting act way) p r q law a b = law.acts act way a b
each-from (Joined left right) p r q law a b =
    let first : (each p left ≡ true) × (each p right ≡ true) = and_parts _ _ a in
    let second : (each r left ≡ true) × (each r right ≡ true) = and_parts _ _ b in
    both_true _ _ (each-from left p r q law first.0 second.0) (each-from right p r q law first.1 second.1)
