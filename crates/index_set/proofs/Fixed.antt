-- Right sides that the acting row alone decides do not depend on the slots.
use Rattle.std.proofs.Common.{◌≡◌, ℕ, zero, suc, pos, Bool, true, false, List, [], ◌∷◌, map, refl, ap, sym}
use Rattle.std.specs.Prelude.{slice_get, slice_index_or}
use Rattle.std.proofs.lemmas.Bool.{and_parts, false≢true}
use Rattle.sgl_values.specs.declared.fault.Val.{Val}
use Rattle.sgl_values.specs.declared.fault.Val.TheVariants.{N}
use Rattle.sgl_typed.specs.declared.script.TAgg.{TAgg}
use Rattle.sgl_typed.specs.declared.script.TExpr.{TExpr, end_of-TExpr, more_of-TExpr}
use Rattle.sgl_typed.specs.declared.script.TExpr.TheVariants.{Number, Truth, Slot, Unit as OfUnit, Target, Combined, Random, Agg', Neg', Not', Binary'}
use Rattle.sgl_typed.specs.declared.script.TTest.{TTest}
use Rattle.sgl_typed.specs.Aggregate.{aggregate, number_in, right_side, right_sides, scanned, simple_value, with_first}
use Rattle.sgl_typed.specs.Laws.{AgreeOn}
use Rattle.sgl_typed.specs.Reads.{reads_only}
use Rattle.sgl_typed.specs.Value.{Context}
use Rattle.sgl_typed.proofs.Reading.{simple-reads}
use Rattle.battle_algebra.specs.Ways.{all_fixed, arg_fixed, fixed_with}
use Rattle.battle_algebra.proofs.Bools.{both_true}

-- a fixed expression reads no slot but the fixed ones
fixed-reads : (e : TExpr) (p : ℕ → Bool) → fixed_with e p ≡ true → reads_only e p ≡ true
fixed-reads (Number n) p h = refl
fixed-reads (Truth b) p h = absurd (false≢true h)
fixed-reads (Slot i) p h = h
fixed-reads (OfUnit attr) p h = refl
fixed-reads (Target attr) p h = absurd (false≢true h)
fixed-reads (Combined i) p h = absurd (false≢true h)
fixed-reads (Random i) p h = refl
fixed-reads (Agg' agg shape args place) p h = absurd (false≢true h)
fixed-reads (Neg' shape (more_of-TExpr inner end_of-TExpr)) p h = fixed-reads inner p h
fixed-reads (Not' shape (more_of-TExpr inner end_of-TExpr)) p h = absurd (false≢true h)
fixed-reads (Binary' op shape (more_of-TExpr left end_of-TExpr) shape' (more_of-TExpr right end_of-TExpr) place) p h =
    let parts = and_parts (fixed_with left p) (fixed_with right p) h in
    both_true _ _ (fixed-reads left p parts.0) (fixed-reads right p parts.1)

none-read : (slots others : List Val) → AgreeOn (λ i. false) slots others
none-read slots others = record { agree = λ slot passes. absurd (false≢true passes) }

module _ (c : Context) (slots : List Val) where
  abbrev with_slots : TExpr → Val
  with_slots e = simple_value (record c { slots = slots }) e

  abbrev without : TExpr → Val
  without e = simple_value (record c { slots = [] }) e

  -- the values of fixed arguments do not depend on the slots
  args-agree : (args : List TExpr) (i : ℕ) → arg_fixed (slice_get args i) ≡ true → slice_index_or (map with_slots args) i (N (pos 0)) ≡ slice_index_or (map without args) i (N (pos 0))
  args-agree [] i h = absurd (false≢true h)
  args-agree (e ∷ args) zero h = simple-reads e (λ i. false) c slots [] (fixed-reads e (λ i. false) h) (none-read slots [])
  args-agree (e ∷ args) (suc i) h = args-agree args i h

  module _ (args : List TExpr) where
    sides-agree : (tests : List TTest) → all_fixed tests args ≡ true
        → right_sides (record c { slots = map with_slots args }) tests ≡ right_sides (record c { slots = map without args }) tests
    sides-agree [] h = refl
    sides-agree (test ∷ tests) h =
        let parts = and_parts (fixed_with (right_side test) (λ i. arg_fixed (slice_get args i))) (all_fixed tests args) h in
        let here = simple-reads (right_side test) (λ i. arg_fixed (slice_get args i)) c (map with_slots args) (map without args)
        (fixed-reads (right_side test) (λ i. arg_fixed (slice_get args i)) parts.0) (record { agree = λ slot passes. args-agree args slot passes }) in
        λ i. with_first (number_in (here i)) (sides-agree tests parts.1 i)

    pub fixed_value : (agg : TAgg) → all_fixed agg.tests args ≡ true
        → aggregate agg (record c { slots = [] }) (map (simple_value (record c { slots = [] })) args) ≡ aggregate agg (record c { slots = slots }) (map (simple_value (record c { slots = slots })) args)
    fixed_value agg h = sym (ap (scanned agg c.unit c.world.rows) (sides-agree agg.tests h))
