-- Routines without calls of routines that write nothing, and without calls of routines that only call another one.
use Rattle.std.specs.Prelude.{ℕ, List, [], ◌∷◌, ◌++◌, slice_get, unwrap_or, Option, Some, None}
use Rattle.sgl_typed.specs.declared.script.TRoutine.{TRoutine}
use Rattle.sgl_typed.specs.declared.script.TStmt.{TStmt, Row_of-TStmt, end_of-TStmt, more_of-TStmt}
use Rattle.sgl_typed.specs.declared.script.TStmt.TheVariants.{Let, If, If', Act, Call}

-- a statement before others, where there is one
abbrev pub before : Option TStmt → List TStmt → List TStmt
before None rest = rest
before (Some statement) rest = statement ∷ rest

-- the routine that these statements call without arguments, where they do nothing else
abbrev pub only_call : List TStmt → Option ℕ
only_call (Call inner [] places ∷ []) = Some inner
only_call statements = None

-- what stands for a call without arguments, by the number of the routine, its parameters and its pruned body
abbrev pub short_call : ℕ → List ℕ → List TStmt → Option TStmt
short_call routine params [] = None
short_call routine [] (s ∷ rest) = Some (Call (unwrap_or (only_call (s ∷ rest)) routine) [] [])
short_call routine (param ∷ params) (s ∷ rest) = Some (Call routine [] [])

-- the same, by the routine, where it is there
abbrev pub pruned_call : ℕ → Option TRoutine → Option TStmt
pruned_call routine None = Some (Call routine [] [])
pruned_call routine (Some r) = short_call routine r.params r.body

-- a statement pruned, by routines that are pruned already
abbrev mutual
  pub pruned : List TRoutine → TStmt → Option TStmt
  pruned done (Let slot e place) = Some (Let slot e place)
  pruned done (If' cond place shape taken shape' other) = Some (If cond place (pruned_block done taken) (pruned_block done other))
  pruned done (Act action args place) = Some (Act action args place)
  pruned done (Call routine [] places) = pruned_call routine (slice_get done routine)
  pruned done (Call routine (e ∷ args) places) = Some (Call routine (e ∷ args) places)

  pub pruned_block : {m : _} → List TRoutine → Row_of-TStmt m → List TStmt
  pruned_block done end_of-TStmt = []
  pruned_block done (more_of-TStmt statement rest) = before (pruned done statement) (pruned_block done rest)

-- a list of statements pruned
abbrev pub pruned_all : List TRoutine → List TStmt → List TStmt
pruned_all done [] = []
pruned_all done (statement ∷ rest) = before (pruned done statement) (pruned_all done rest)

-- routines pruned one after the other, behind those that are pruned already
abbrev pub pruned_routines : List TRoutine → List TRoutine → List TRoutine
pruned_routines done [] = done
pruned_routines done (routine ∷ rest) = pruned_routines (done ++ record { params = routine.params; body = pruned_all done routine.body } ∷ []) rest
