-- Scripts in which routines call one another.
use Rattle.std.specs.Prelude.{ℕ, true, pos, List, [], ◌∷◌, ◌++◌}
use Rattle.sgl_values.specs.declared.place.Place.{Place}
use Rattle.sgl_typed.specs.declared.script.TExpr.TheVariants.{Number, Slot, Truth}
use Rattle.sgl_typed.specs.declared.script.TRoutine.{TRoutine}
use Rattle.sgl_typed.specs.declared.script.TStmt.{TStmt}
use Rattle.sgl_typed.specs.declared.script.TStmt.TheVariants.{Let, If, Call}

-- ---- a routine of one argument, and two calls of it

-- `routine R(u, d) { let e = d; }`
abbrev pub copies : List TRoutine
copies = record { params = 0 ∷ []; body = Let 1 (Slot 0) record { line = 1; col = 3 } ∷ [] } ∷ []

-- `perform R(u, 5); perform R(u, 6);`
abbrev pub calls_twice : List TStmt
calls_twice =
    Call 0 (Number (pos 5) ∷ []) (record { line = 1; col = 7 } ∷ []) ∷ Call 0 (Number (pos 6) ∷ []) (record { line = 1; col = 9 } ∷ []) ∷ []

-- ---- routines without arguments

-- so many calls of a routine without arguments
abbrev pub calls_of : ℕ → ℕ → List TStmt
calls_of routine ℕ.zero = []
calls_of routine (ℕ.suc times) = calls_of routine times ++ Call routine [] [] ∷ []

-- so many routines above a first one, each of so many calls of the one before it
abbrev pub tower : List TStmt → ℕ → ℕ → List TRoutine
tower first times ℕ.zero = record { params = []; body = first } ∷ []
tower first times (ℕ.suc levels) = tower first times levels ++ record { params = []; body = calls_of levels times } ∷ []

-- a call of the last of so many routines
abbrev pub last_call : ℕ → List TStmt
last_call ℕ.zero = []
last_call (ℕ.suc routine) = Call routine [] [] ∷ []

abbrev pub corner : Place
corner = record { line = 1; col = 1 }

-- so many routines, each with a block in which it calls the one before it
abbrev pub ladder : ℕ → List TRoutine
ladder ℕ.zero = []
ladder (ℕ.suc levels) = ladder levels ++ record { params = []; body = If (Truth true) corner (last_call levels) [] ∷ [] } ∷ []
