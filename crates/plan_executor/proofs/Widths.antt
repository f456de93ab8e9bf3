-- Rows keep the number of their slots.
use Rattle.std.proofs.Common.{◌≡◌, ℕ, ℤ, ◌<◌, Bool, true, false, List, length, refl, ap, sym, ◌∙◌, subst, arith, Decides, ◌==◌}
use Rattle.std.proofs.lemmas.Bool.{false≢true}
use Rattle.std.proofs.lemmas.Bool.Decides.{Decides-eqb}
use Rattle.std.proofs.lemmas.List.{length-set}
use Rattle.sgl_values.specs.declared.fault.Val.{Val}
use Rattle.sgl_lanes.specs.Lanes.{has, held, lane_of}
use Rattle.sgl_lanes.specs.declared.kind.Lanes.{Lanes}
use Rattle.task_scratch.specs.Scratch.{slots_in, AreLanesSet, AreWide, IsRowSet}
use Rattle.plan_executor.specs.Running.{KeepWidth}

pub width_refl : (rows : List (List Val)) → KeepWidth rows rows
width_refl rows = record { is = λ width all. all }

pub width_trans : {a b c : List (List Val)} → KeepWidth a b → KeepWidth b c → KeepWidth a c
width_trans first second = record { is = λ width all. second.is width (first.is width all) }

-- a row is set, or a column
pub width_row : {old new : List (List Val)} (row slot : ℕ) (v : Val) → IsRowSet row slot v old new → length new ≡ length old → row < length old → KeepWidth old new
width_row {old = old} {new = new} row slot v set long within = record { is = λ width all. record { is = λ k lt. step width all k (k == row) (Decides-eqb k row) (omega (arith, lt, long)) } }
  where
    step : (width : ℕ) → AreWide width old → (k : ℕ) (t : Bool) → Decides t (k ≡ row) → k < length old → length (slots_in new k) ≡ width
    step width all k true d lt =
        subst (λ j. length (slots_in new j) ≡ width) (sym (d.0 refl)) (ap length set.same ∙ length-set (slots_in old row) slot v ∙ all.is row within)
    step width all k false d lt = ap length (set.other k (λ e. false≢true (d.1 e))) ∙ all.is k lt

pub width_lanes : {old new : List (List Val)} (slot mask : ℕ) (kind : Lanes) (numbers : List ℤ) → AreLanesSet slot mask kind numbers old new → length new ≡ length old → length old ≡ 64 → KeepWidth old new
width_lanes {old = old} {new = new} slot mask kind numbers set long rows = record { is = λ width all. record { is = λ k lt. step width all k (has mask k) refl (omega (arith, lt, long)) } }
  where
    step : (width : ℕ) → AreWide width old → (k : ℕ) (t : Bool) → has mask k ≡ t → k < length old → length (slots_in new k) ≡ width
    step width all k true own lt = ap length (set.inside k (omega (arith, lt, rows)) own) ∙ length-set (slots_in old k) slot (held kind (lane_of numbers k)) ∙ all.is k lt
    step width all k false own lt = ap length (set.outside k own) ∙ all.is k lt
