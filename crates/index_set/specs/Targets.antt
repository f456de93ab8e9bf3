-- The rows that an effect goes to.
use Rattle.std.specs.Prelude.{◌≡◌, ℕ, ◌<◌, All, List, [], length, map, Ok, Err}
use Rattle.std.specs.List.Sorted.{IsPermutation}
use Rattle.sgl_typed.specs.declared.script.TTest.{TTest}
use Rattle.sgl_typed.specs.Value.{Context}
use Rattle.sgl_typed.specs.Aggregate.{right_sides}
use Rattle.sgl_evaluate.specs.Frame.{context_of}
use Rattle.sgl_evaluate.specs.Rights.{passes_each, right_of}
use Rattle.row_groups.specs.Places.{places}
use Rattle.index_set.specs.Frames.{clause_context_of}
use Rattle.index_set.specs.declared.targets.Targets.{Targets}
use Rattle.index_set.specs.declared.targets.Targets.TheVariants.{Faulty, Rows}
use Rattle.index_set.specs.declared.passing_rows.PassingRows.{PassingRows}
use Rattle.index_set.specs.declared.row_iter.RowIter.{RowIter}
use Rattle.index_set.specs.declared.walk.Walk.{Walk}
use Rattle.index_set.specs.Walks.{passing_rest, walk_rest, AsksEnough}

-- the numbers of the rows that pass, in their order
abbrev pub passing_rows : Context → List TTest → List ℕ
passing_rows c tests = places (passes_each c tests) c.world.rows 0

-- the context of its clause
abbrev pub clause_context : RowIter → Context
clause_context it = clause_context_of it.tick.script.now it.tick.world.now.world it.tick.seed it.unit it.args it.count

-- what an iterator still gives
abbrev pub row_iter_rest : RowIter → List ℕ
row_iter_rest it = passing_rest (clause_context it) it.tests.now it.walk

-- so does one whose frame and right sides are lent
abbrev pub passing_rows_rest : PassingRows → List ℕ
passing_rows_rest it = passing_rest (context_of it.frame) it.tests.now it.walk

-- the walk leaves the rows that pass, each once
abbrev pub LeavesPassing : Context → List TTest → Walk → Type 0
LeavesPassing c tests walk = IsPermutation (passing_rows c tests) (passing_rest c tests walk)

-- the rows of the walk are rows of the world, it leaves those that pass, and it asks each row enough
pub record IsWalkOf (c : Context) (tests : List TTest) (walk : Walk) : Type 0 where
  pub within : All (λ row. row < length c.world.rows) (walk_rest walk)
  pub rest : LeavesPassing c tests walk
  pub enough : AsksEnough c tests walk

-- the first fault of the right sides, or the rows that pass, each once
abbrev pub AreTargets : Targets → Context → List TTest → Type 0
AreTargets (Faulty fault) c tests = right_sides c tests ≡ Err fault
AreTargets (Rows it) c tests = (right_sides c tests ≡ Ok (map (right_of c) tests)) × IsPermutation (passing_rows c tests) (row_iter_rest it)

-- no row, and no fault
abbrev pub GivesNothing : Targets → Type 0
GivesNothing (Faulty fault) = ⊥
GivesNothing (Rows it) = row_iter_rest it ≡ []
