-- Slots set back to what a log says.
use Rattle.std.proofs.Common.{◌≡◌, ℕ, zero, suc, ◌+◌, ◌<◌, ◌≤◌, List, [], ◌∷◌, ◌++◌, length, take, drop, get_or, refl, ap, sym, ◌∙◌, arith, length-append, append_assoc}
use Rattle.std.proofs.lemmas.List.{append-nil}
use Rattle.std.specs.Prelude.{slice_set}
use Rattle.sgl_values.specs.declared.fault.Val.{Val}
use Rattle.sgl_plain.specs.declared.slots.Earlier.{Earlier}
use Rattle.sgl_plain.specs.declared.slots.Slots.{Slots}
use Rattle.sgl_plain.specs.Restored.{restored, IsLogged}

-- a slot set, and set back to what it held
pub set_back : (xs : List Val) (i : ℕ) (v w : Val) → i < length xs → w ≡ get_or xs i w → slice_set (slice_set xs i v) i w ≡ xs
set_back [] i v w lt is = absurd (omega (arith, lt))
set_back (x ∷ xs) zero v w lt is = ap (λ y. y ∷ xs) is
set_back (x ∷ xs) (suc i) v w lt is = ap (λ ys. x ∷ ys) (set_back xs i v w (omega (arith, lt)) is)

restored-append : (log more : List Earlier) (slots : List Val) → restored (log ++ more) slots ≡ restored log (restored more slots)
restored-append [] more slots = refl
restored-append (earlier ∷ log) more slots = ap (λ xs. slice_set xs earlier.slot earlier.value) (restored-append log more slots)

-- nothing was set
pub logged_same : (old new : Slots) → new.values.items ≡ old.values.items → new.log.items ≡ old.log.items → IsLogged old new
logged_same old new values log = record { more = []; log = log ∙ sym (append-nil old.log.items); undone = values }

-- one after the other
pub logged_then : {a b c : Slots} → IsLogged a b → IsLogged b c → IsLogged a c
logged_then {a = a} first second = record {
  more = first.more ++ second.more;
  log = second.log ∙ ap (λ log. log ++ second.more) first.log ∙ append_assoc a.log.items first.more second.more;
  undone = restored-append first.more second.more _ ∙ ap (restored first.more) second.undone ∙ first.undone;
}

drop-append : (xs ys : List Earlier) → drop (length xs) (xs ++ ys) ≡ ys
drop-append [] ys = refl
drop-append (x ∷ xs) ys = drop-append xs ys

take-append : (xs ys : List Earlier) → take (length xs) (xs ++ ys) ≡ xs
take-append [] ys = refl
take-append (x ∷ xs) ys = ap (λ zs. x ∷ zs) (take-append xs ys)

-- the log is no shorter
pub mark_within : (old new : Slots) → IsLogged old new → length old.log.items ≤ length new.log.items
mark_within old new logged =
    let long : length new.log.items ≡ length old.log.items + length logged.more = ap length logged.log ∙ length-append old.log.items logged.more in
    omega (arith, long)

-- the slots are as before
pub values_back : (old new : Slots) → IsLogged old new → restored (drop (length old.log.items) new.log.items) new.values.items ≡ old.values.items
values_back old new logged =
    ap (λ log. restored (drop (length old.log.items) log) new.values.items) logged.log
    ∙ ap (λ log. restored log new.values.items) (drop-append old.log.items logged.more)
    ∙ logged.undone

-- and so is the log
pub log_back : (old new : Slots) → IsLogged old new → take (length old.log.items) new.log.items ≡ old.log.items
log_back old new logged = ap (take (length old.log.items)) logged.log ∙ take-append old.log.items logged.more
