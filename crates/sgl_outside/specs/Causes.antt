-- Faults of the outside are counted, and a call that answers a fault has a count that rose.
use Rattle.std.specs.Prelude.{ℕ, ◌+◌, ◌-◌, ◌^◌, ◌≤◌, min, List, Result, Ok, Err, OnErr}

-- the number after this one, up to the last value of a count
abbrev pub next_count : ℕ → ℕ
next_count n = min (n + 1) (2 ^ 64 - 1)

-- a count rose, or stands at its last value
abbrev pub Rose : ℕ → ℕ → Type 0
Rose before now = next_count before ≤ now

-- a count of the calls that failed, after one more call
abbrev pub count_after : {T E : Type 0} → ℕ → Result T E → ℕ
count_after before (Ok value) = before
count_after before (Err fault) = next_count before

-- the count never falls, and a fault is answered only where it rose
pub record HasCause {T E : Type 0} (before now : ℕ) (result : Result T E) : Type 0 where
  pub later : before ≤ now
  pub failed : OnErr result (Rose before now)

-- the same of a call on one name, where each name has a count
pub record HasCauseAt {T E : Type 0} (before now : List ℕ → ℕ) (name : List ℕ) (result : Result T E) : Type 0 where
  pub later : (other : List ℕ) → before other ≤ now other
  pub failed : OnErr result (Rose (before name) (now name))
