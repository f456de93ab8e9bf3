-- Statements in which the routines are written out: each call is a `let` for each argument, and then the statements of the routine.
use Rattle.std.specs.Prelude.{ℕ, ◌+◌, ◌==◌, List, [], ◌∷◌, ◌++◌, map, length, drop, slice_get, Option, Some, None, if◌then◌else◌}
use Rattle.sgl_values.specs.declared.place.Place.{Place}
use Rattle.sgl_typed.specs.declared.script.TExpr.{TExpr}
use Rattle.sgl_typed.specs.declared.script.TRoutine.{TRoutine}
use Rattle.sgl_typed.specs.declared.script.TStmt.{TStmt, Row_of-TStmt, end_of-TStmt, more_of-TStmt}
use Rattle.sgl_typed.specs.declared.script.TStmt.TheVariants.{Let, If, If', Act, Call}
use Rattle.sgl_typed.specs.WellFormed.{slots_of_all}
use Rattle.sgl_typed.specs.Renamed.{renamed}
use Rattle.sgl_expand.specs.declared.numbers.Numbered.{Numbered}

-- ---- slots and their new numbers

-- the number of the last of these with this slot; the first argument is the number where there is none
abbrev pub number_from : ℕ → List Numbered → ℕ → ℕ
number_from number [] slot = number
number_from number (first ∷ rest) slot = number_from (if first.slot == slot then first.number else number) rest slot

-- the number of the last `let` that was written out for a slot
abbrev pub number_of : List Numbered → ℕ → ℕ
number_of = number_from 0

-- these slots, numbered from a number on
abbrev pub numbered_from : ℕ → List ℕ → List Numbered
numbered_from first [] = []
numbered_from first (slot ∷ rest) = record { slot = slot; number = first } ∷ numbered_from (first + 1) rest

-- an expression that reads the new numbers
abbrev pub renumbered : List Numbered → TExpr → TExpr
renumbered known = renamed (number_of known)

-- ---- calls

-- how many lets statements have, which is how many slots they set
abbrev pub lets : List TStmt → ℕ
lets statements = length (slots_of_all statements)

-- no argument of a script lacks a place
abbrev pub nowhere : Place
nowhere = record { line = 0; col = 0 }

-- the place of the first argument, where there is one
abbrev pub first_place : List Place → Place
first_place [] = nowhere
first_place (place ∷ rest) = place

-- a `let` for each argument, numbered from a number on, at the place of its value
abbrev pub argument_lets : List Place → ℕ → List TExpr → List TStmt
argument_lets places next [] = []
argument_lets places next (e ∷ rest) = Let next e (first_place places) ∷ argument_lets (drop 1 places) (next + 1) rest

-- The body of a routine, written out: by what is known where it is called, the number of the `let` of the first argument, and
-- the number that the first `let` of the body gets.
abbrev pub Writer : Type 0
Writer = List Numbered → ℕ → ℕ → List TStmt

-- no script calls a routine that it lacks
abbrev pub written_call : Option Writer → Writer
written_call None known first next = []
written_call (Some writer) known first next = writer known first next

-- ---- statements

-- what is known behind a statement
abbrev pub known_behind : TStmt → List Numbered → ℕ → List Numbered
known_behind (Let slot e place) known next = known ++ record { slot = slot; number = next } ∷ []
known_behind statement known next = known

-- a statement written out, with its lets numbered in their order; what an inner block makes known is known in it alone
abbrev mutual
  pub written : List Writer → TStmt → List Numbered → ℕ → List TStmt
  written writers (Let slot e place) known next = Let next (renumbered known e) place ∷ []
  written writers (If' cond place shape taken shape' other) known next =
      let first = written_block writers taken known next in
      If (renumbered known cond) place first (written_block writers other known (next + lets first)) ∷ []
  written writers (Act action args place) known next = Act action (map (renumbered known) args) place ∷ []
  written writers (Call routine args places) known next =
      argument_lets places next (map (renumbered known) args)
      ++ written_call (slice_get writers routine) known next (next + length args)

  pub written_block : {m : _} → List Writer → Row_of-TStmt m → List Numbered → ℕ → List TStmt
  written_block writers end_of-TStmt known next = []
  written_block writers (more_of-TStmt statement rest) known next =
      let first = written writers statement known next in
      first ++ written_block writers rest (known_behind statement known next) (next + lets first)

-- a list of statements written out
abbrev pub written_all : List Writer → List TStmt → List Numbered → ℕ → List TStmt
written_all writers [] known next = []
written_all writers (statement ∷ rest) known next =
    let first = written writers statement known next in
    first ++ written_all writers rest (known_behind statement known next) (next + lets first)

-- ---- routines and `main`

-- the body of a routine, whose parameters have the numbers of the lets of the arguments
abbrev pub writer_of : List Writer → TRoutine → Writer
writer_of writers routine known first next = written_all writers routine.body (known ++ numbered_from first routine.params) next

-- the writers of routines, behind those of the routines before
abbrev pub writers_of : List Writer → List TRoutine → List Writer
writers_of writers [] = writers
writers_of writers (routine ∷ rest) = writers_of (writers ++ writer_of writers routine ∷ []) rest

-- `main` written out, with its lets numbered from 0
abbrev pub written_main : List TRoutine → List TStmt → List TStmt
written_main routines main = written_all (writers_of [] routines) main [] 0
