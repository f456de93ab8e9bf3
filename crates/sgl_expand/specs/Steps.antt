-- Writing out step by step, with the calls that are being written on a stack.
use Rattle.std.specs.Prelude.{◌≡◌, ◌≤◌, ℕ, ◌+◌, List, [], ◌∷◌, ◌++◌, length, drop, take, reverse, slice_get, Option, Some, None}
use Rattle.sgl_typed.specs.declared.script.TRoutine.{TRoutine}
use Rattle.sgl_typed.specs.declared.script.TStmt.{TStmt}
use Rattle.sgl_expand.specs.declared.numbers.Numbered.{Numbered}
use Rattle.sgl_expand.specs.declared.write.Frame.{Frame}
use Rattle.sgl_expand.specs.declared.write.Writing.{Writing}
use Rattle.sgl_expand.specs.Written.{lets, numbered_from, known_behind, written, written_all, written_call, writers_of}

-- ---- routines by their numbers

-- the statements of a routine; a routine that is not there has none
abbrev pub body_of : Option TRoutine → List TStmt
body_of None = []
body_of (Some routine) = routine.body

-- the slots of its parameters
abbrev pub params_of : Option TRoutine → List ℕ
params_of None = []
params_of (Some routine) = routine.params

-- each routine is written out as its own statements are, by all routines
pub record IsClosed (routines : List TRoutine) : Type 0 where
  pub same : (routine : ℕ) (known : List Numbered) (first next : ℕ)
      → written_call (slice_get (writers_of [] routines) routine) known first next
      ≡ written_all (writers_of [] routines) (body_of (slice_get routines routine)) (known ++ numbered_from first (params_of (slice_get routines routine))) next

-- ---- the stack of calls, the innermost first

-- what is left to write of a call
abbrev pub left_of : List TRoutine → Frame → List Numbered → ℕ → List TStmt
left_of routines frame known next = written_all (writers_of [] routines) (drop frame.at (body_of (slice_get routines frame.routine))) known next

-- what is left to write of all calls; behind a call its caller knows what it knew before
abbrev pub left_of_all : List TRoutine → List Frame → List Numbered → ℕ → List TStmt
left_of_all routines [] known next = []
left_of_all routines (frame ∷ outer) known next =
    let first = left_of routines frame known next in
    first ++ left_of_all routines outer (take frame.known known) (next + lets first)

-- what is known behind all calls
abbrev pub known_at_end : List Frame → List Numbered → List Numbered
known_at_end [] known = known
known_at_end (frame ∷ outer) known = known_at_end outer (take frame.known known)

-- each call began when no more was known than now
abbrev pub Marked : List Frame → List Numbered → Type 0
Marked [] known = Unit {0}
Marked (frame ∷ outer) known = (frame.known ≤ length known) × Marked outer (take frame.known known)

-- ---- steps

-- what was made, what is known, the next number, and the calls that are being written
pub record Stand : Type 0 where
  pub made : List TStmt
  pub known : List Numbered
  pub next : ℕ
  pub calls : List Frame

-- where the code stands
abbrev pub stand_of : Writing → Stand
stand_of w = record { made = w.made; known = w.numbering.known.items; next = w.numbering.next; calls = reverse w.calls.items }

-- so much was made that what was left to write is this and what is left now
pub record Goes (routines : List TRoutine) (s t : Stand) : Type 0 where
  pub what : List TStmt
  pub made : t.made ≡ s.made ++ what
  pub next : t.next ≡ s.next + lets what
  pub left : left_of_all routines s.calls s.known s.next ≡ what ++ left_of_all routines t.calls t.known t.next
  pub ends : known_at_end t.calls t.known ≡ known_at_end s.calls s.known
  pub marked : Marked t.calls t.known

-- so much of a statement was made that it and what was left to write behind it are this and what is left now
pub record Begins (routines : List TRoutine) (statement : TStmt) (s t : Stand) : Type 0 where
  pub what : List TStmt
  pub made : t.made ≡ s.made ++ what
  pub next : t.next ≡ s.next + lets what
  pub left : (let first = written (writers_of [] routines) statement s.known s.next in first ++ left_of_all routines s.calls (known_behind statement s.known s.next) (s.next + lets first))
      ≡ what ++ left_of_all routines t.calls t.known t.next
  pub ends : known_at_end t.calls t.known ≡ known_at_end s.calls (known_behind statement s.known s.next)
  pub marked : Marked s.calls (known_behind statement s.known s.next) → Marked t.calls t.known
