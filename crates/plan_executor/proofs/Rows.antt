-- Loops over rows, one row further.
use Rattle.std.proofs.Common.{◌≡◌, ◌≢◌, ℕ, ℤ, suc, ◌+◌, ◌-◌, ◌<◌, ◌==◌, nat_lt, cond, Bool, true, false, ◌&&◌, ◌||◌, List, [], ◌∷◌, refl, ap, sym, ◌∙◌, subst, arith, Decides}
use Rattle.std.specs.Prelude.{slice_set, flat_map}
use Rattle.std.specs.List.{filter, range_with_len}
use Rattle.std.proofs.lemmas.Bool.{false≢true}
use Rattle.std.proofs.lemmas.Bool.Decides.{nat_tests, Decides-eqb}
use Rattle.sgl_values.specs.declared.fault.Val.{Val}
use Rattle.sgl_values.specs.declared.item.Item.{Item}
use Rattle.sgl_typed.specs.Aggregate.{simple_value}
use Rattle.sgl_typed.specs.declared.script.TExpr.{TExpr}
use Rattle.battle_algebra.specs.Meaning.{Frame, source_value}
use Rattle.battle_algebra.specs.Tree.{Source}
use Rattle.plan_executor.specs.Below.{PartBelow, IsMarked, rest_rows, given_if}
use Rattle.sgl_lanes.specs.Lanes.{has, lane_of, HoldEach}
use Rattle.sgl_lanes.specs.declared.kind.Lanes.{Lanes}
use Rattle.sgl_lanes.specs.declared.kind.Lanes.TheVariants.{Unknown}
use Rattle.sgl_lanes.proofs.Held.{held-is}
use Rattle.plan_executor.specs.Frames.{Slots, with_slots, frames, members, all_rows}
use Rattle.plan_executor.specs.RowSets.{IsWith}
use Rattle.task_scratch.specs.Scratch.{slots_in, AreLanesSet}
use Rattle.plan_executor.specs.Running.{IsInside}
use Rattle.plan_executor.specs.Sinking.{Bounds, State, Pushes, Leads}
use Rattle.plan_executor.specs.Steps.{IsPart, IsSet}
use Rattle.plan_executor.specs.declared.run.Run.{Run}
use Rattle.plan_executor.proofs.Pushing.{Leads-more, Leads-end}

-- ---- a slot is set

module _ (base : ℕ → Frame) (slot : ℕ) (source : Source) (mask : ℕ) where
  -- all rows at once, by lanes
  pub set_by_lanes : (run : Run) (kind : Lanes) (numbers : List ℤ) (old new : List (List Val)) → IsInside run mask → kind ≢ Unknown
      → HoldEach kind mask numbers (λ k. source_value (with_slots base (slots_in old) k) source) → AreLanesSet slot mask kind numbers old new → IsSet base slot source mask (slots_in old) (slots_in new)
  set_by_lanes run kind numbers old new within known hold set = record {
    inside = λ k is.
        let below = within.below k is in
        set.inside k below is ∙ ap (slice_set (slots_in old k) slot) (held-is kind (lane_of numbers k) (source_value (with_slots base (slots_in old) k) source) (hold k below is) known);
    outside = set.outside;
  }

-- ---- a set is parted

pub marked : (old row new : ℕ) → IsWith old row new → IsMarked true old row new
marked old row new is = record { is = λ k. step k (k == row) (Decides-eqb k row) }
  where
    step : (k : ℕ) (t : Bool) → Decides t (k ≡ row) → has new k ≡ ((t && true) || has old k)
    step k true d = ap (has new) (d.0 refl) ∙ is.same
    step k false d = is.other k (λ e. false≢true (d.1 e))

and_false : (t : Bool) → (t && false) ≡ false
and_false true = refl
and_false false = refl

pub unmarked : (old row : ℕ) → IsMarked false old row old
unmarked old row = record { is = λ k. ap (λ t. t || has old k) (sym (and_false (k == row))) }

-- another row is below this one where it is below the next
below_next : (k row : ℕ) → k ≢ row → nat_lt k row ≡ nat_lt k (row + 1)
below_next k row apart = same (nat_lt k row) (nat_lt k (row + 1)) refl refl
  where
    same : (t u : Bool) → nat_lt k row ≡ t → nat_lt k (row + 1) ≡ u → nat_lt k row ≡ nat_lt k (row + 1)
    same true true p q = p ∙ sym q
    same true false p q = absurd (grind (arith, nat_tests, p, q))
    same false true p q = absurd (grind (arith, nat_tests, p, q, apart))
    same false false p q = p ∙ sym q

module _ (base : ℕ → Frame) (slots : Slots) (e : TExpr) (passes : Val → Bool) (mask : ℕ) where
  abbrev Value : ℕ → Bool
  Value k = passes (simple_value (with_slots base slots k) e)

  pub part_start : ((k : ℕ) → has 0 k ≡ false) → PartBelow base slots e passes mask 0 0
  part_start zero = record { is = λ k. zero k ∙ sym (none k (nat_lt k 0) refl) }
    where
      none : (k : ℕ) (t : Bool) → nat_lt k 0 ≡ t → (nat_lt k 0 && (has mask k && Value k)) ≡ false
      none k true is = absurd (grind (arith, nat_tests, is))
      none k false is = ap (λ t. t && (has mask k && Value k)) is

  pub part_skipped : (row part : ℕ) → has mask row ≡ false → PartBelow base slots e passes mask row part → PartBelow base slots e passes mask (row + 1) part
  part_skipped row part skip before = record { is = λ k. before.is k ∙ step k (k == row) (Decides-eqb k row) }
    where
      out : (t u : Bool) → (t && (false && u)) ≡ false
      out true u = refl
      out false u = refl

      step : (k : ℕ) (t : Bool) → Decides t (k ≡ row) → (nat_lt k row && (has mask k && Value k)) ≡ (nat_lt k (row + 1) && (has mask k && Value k))
      step k true d =
          let free : has mask k ≡ false = ap (has mask) (d.0 refl) ∙ skip in
          ap (λ t. nat_lt k row && (t && Value k)) free ∙ out (nat_lt k row) (Value k) ∙ sym (ap (λ t. nat_lt k (row + 1) && (t && Value k)) free ∙ out (nat_lt k (row + 1)) (Value k))
      step k false d = ap (λ t. t && (has mask k && Value k)) (below_next k row (λ e. false≢true (d.1 e)))

  pub part_done : (row part new : ℕ) (value : Val) → has mask row ≡ true → value ≡ simple_value (record (base row) { slots = slots row }) e → PartBelow base slots e passes mask row part
      → IsMarked (passes value) part row new → PartBelow base slots e passes mask (row + 1) new
  part_done row part new value own is before mark = record { is = λ k. mark.is k ∙ step k (k == row) (Decides-eqb k row) }
    where
      or_false : (t : Bool) → (t || false) ≡ t
      or_false true = refl
      or_false false = refl

      at_row : (t u : Bool) → nat_lt row row ≡ t → nat_lt row (row + 1) ≡ u → ((true && passes value) || (nat_lt row row && (has mask row && Value row))) ≡ (nat_lt row (row + 1) && (has mask row && Value row))
      at_row true u p q = absurd (grind (arith, nat_tests, p))
      at_row false false p q = absurd (grind (arith, nat_tests, q))
      at_row false true p q =
          ap (λ t. (true && passes value) || (t && (has mask row && Value row))) p
          ∙ or_false (passes value)
          ∙ ap passes is
          ∙ sym ((λ i. q i && (own i && Value row)))

      step : (k : ℕ) (t : Bool) → Decides t (k ≡ row) → ((t && passes value) || has part k) ≡ (nat_lt k (row + 1) && (has mask k && Value k))
      step k true d =
          subst (λ j. ((true && passes value) || has part j) ≡ (nat_lt j (row + 1) && (has mask j && Value j))) (sym (d.0 refl))
          (ap (λ t. (true && passes value) || t) (before.is row) ∙ at_row (nat_lt row row) (nat_lt row (row + 1)) refl refl)
      step k false d = before.is k ∙ ap (λ t. t && (has mask k && Value k)) (below_next k row (λ e. false≢true (d.1 e)))

  pub part_more : (row part new : ℕ) (value : Val) (t : Bool) → has mask row ≡ t → value ≡ simple_value (record (base row) { slots = slots row }) e → PartBelow base slots e passes mask row part
      → IsMarked (t && passes value) part row new → PartBelow base slots e passes mask (row + 1) new
  part_more row part new value true own is before mark = part_done row part new value own is before mark
  part_more row part new value false own is before mark = part_skipped row new own record { is = λ k. mark.is k ∙ ap (λ b. b || has part k) (and_false (k == row)) ∙ before.is k }

  pub part_end : (run : Run) (part : ℕ) → IsInside run mask → PartBelow base slots e passes mask 64 part → IsPart base slots e passes mask part
  part_end run part within done = record { is = λ k. done.is k ∙ step k (has mask k) refl }
    where
      out : (t u : Bool) → (t && (false && u)) ≡ false
      out true u = refl
      out false u = refl

      step : (k : ℕ) (t : Bool) → has mask k ≡ t → (nat_lt k 64 && (has mask k && Value k)) ≡ (has mask k && Value k)
      step k true is =
          let small : nat_lt k 64 ≡ true = grind (arith, nat_tests, within.below k is) in
          ap (λ t. t && (has mask k && Value k)) small
      step k false is = ap (λ t. nat_lt k 64 && (t && Value k)) is ∙ out (nat_lt k 64) (Value k) ∙ sym (ap (λ t. t && Value k) is)

-- ---- items, row by row

pub rest_all : (mask : ℕ) → members mask ≡ rest_rows mask 0
unfolding members all_rows rest_rows
rest_all mask = refl

pub rest_none : (mask : ℕ) → rest_rows mask 64 ≡ []
unfolding rest_rows
rest_none mask = refl

pub rest_more : (mask row : ℕ) (t : Bool) → row < 64 → has mask row ≡ t → rest_rows mask row ≡ cond t (row ∷ rest_rows mask (row + 1)) (rest_rows mask (row + 1))
unfolding rest_rows
rest_more mask row t lt is =
    let left : (64 - row) ≡ suc (64 - (row + 1)) = omega (arith, lt) in
    ap (λ n. filter (has mask) (range_with_len row n)) left ∙ ap (λ b. cond b (row ∷ rest_rows mask (row + 1)) (rest_rows mask (row + 1))) is

module _ (base : ℕ → Frame) (slots : Slots) (give : Frame → List Item) (mask : ℕ) where
  abbrev pub left_of : ℕ → List Item
  left_of row = flat_map give (frames base slots (rest_rows mask row))

  pub leads_start : (bounds : Bounds) (state : State) → Leads bounds state state (left_of 0) (flat_map give (frames base slots (members mask)))
  leads_start bounds state = subst (λ rows. Leads bounds state state (left_of 0) (flat_map give (frames base slots rows))) (sym (rest_all mask)) (Rattle.plan_executor.proofs.Pushing.Leads-start bounds state (left_of 0))

  pub leads_more : {bounds : Bounds} {start now next : State} {whole : List Item} (row : ℕ) (t : Bool) → row < 64 → has mask row ≡ t → Leads bounds start now (left_of row) whole
      → Pushes bounds now next (given_if t (give (with_slots base slots row))) → Leads bounds start next (left_of (row + 1)) whole
  leads_more {bounds = bounds} {start = start} {now = now} {whole = whole} row false lt is before pushes =
      Leads-more (subst (λ rows. Leads bounds start now (flat_map give (frames base slots rows)) whole) (rest_more mask row false lt is) before) pushes
  leads_more {bounds = bounds} {start = start} {now = now} {whole = whole} row true lt is before pushes =
      Leads-more (subst (λ rows. Leads bounds start now (flat_map give (frames base slots rows)) whole) (rest_more mask row true lt is) before) pushes

  pub leads_end : {bounds : Bounds} {start now : State} {whole : List Item} (row : ℕ) → row ≡ 64 → Leads bounds start now (left_of row) whole → Pushes bounds start now whole
  leads_end {bounds = bounds} {start = start} {now = now} {whole = whole} row last before =
      Leads-end (subst (λ rows. Leads bounds start now (flat_map give (frames base slots rows)) whole) (ap (rest_rows mask) last ∙ rest_none mask) before)
