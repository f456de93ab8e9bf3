-- The one row that a clause goes to.
use Rattle.std.specs.Prelude.{◌≡◌, ℕ, ◌<◌, List, [], ◌∷◌, length, map, Option, None, Some, Ok, Err, IfSome}
use Rattle.sgl_typed.specs.declared.script.TTest.{TTest}
use Rattle.sgl_typed.specs.Value.{Context}
use Rattle.sgl_typed.specs.Aggregate.{right_sides}
use Rattle.sgl_evaluate.specs.Rights.{right_of}
use Rattle.index_set.specs.Targets.{passing_rows}
use Rattle.index_set.specs.declared.aim.KeyedAim.{KeyedAim}
use Rattle.index_set.specs.declared.aim.KeyedAim.TheVariants.{Faulty, Row}

-- the row, or none
abbrev pub rows_of : Option ℕ → List ℕ
rows_of None = []
rows_of (Some row) = row ∷ []

-- the rows that pass are this one, which is in the world, or none
pub record IsRowAim (found : Option ℕ) (c : Context) (tests : List TTest) : Type 0 where
  pub sound : right_sides c tests ≡ Ok (map (right_of c) tests)
  pub rows : passing_rows c tests ≡ rows_of found
  pub within : IfSome found (λ row. row < length c.world.rows)

-- the first fault of the right sides, or the one row that passes
abbrev pub IsAim : KeyedAim → Context → List TTest → Type 0
IsAim (Faulty fault) c tests = right_sides c tests ≡ Err fault
IsAim (Row found) c tests = IsRowAim found c tests
