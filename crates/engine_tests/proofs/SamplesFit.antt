-- The sample scripts are well-formed, and the first is written out.
use Rattle.std.proofs.Common.{◌≡◌, true, List, [], refl, ◌∙◌, None, Option}
use denote.Hole.Carrier.{hidden}
use Rattle.sgl_typed.specs.declared.schema.Schema.{Schema}
use Rattle.sgl_typed.specs.declared.script.TAction.{TAction}
use Rattle.sgl_typed.specs.declared.script.TAgg.{TAgg}
use Rattle.sgl_typed.specs.declared.script.TExpr.{TExpr}
use Rattle.sgl_typed.specs.declared.script.TExpr.TheBlock.{shape-the_row-TExpr-0, hidden-the_row-TExpr-0, shape-the_row-TExpr-1, hidden-the_row-TExpr-1}
use Rattle.sgl_typed.specs.declared.script.TRoutine.{TRoutine}
use Rattle.sgl_typed.specs.declared.script.TRule.{TRule}
use Rattle.sgl_typed.specs.declared.script.TScript.{TScript}
use Rattle.sgl_typed.specs.declared.script.TSpawn.{TSpawn}
use Rattle.sgl_typed.specs.declared.script.TStmt.{TStmt}
use Rattle.sgl_typed.specs.declared.script.TStmt.TheBlock.{shape-the_row-TStmt-0, hidden-the_row-TStmt-0}
use Rattle.sgl_typed.specs.WellFormed.{is_well_formed}
use Rattle.sgl_typed.specs.WrittenOut.{is_written_out}
use Rattle.engine_tests.specs.Samples.{branches, losses, lost, no_attributes, one_attribute, spread}

branches-fit : is_well_formed no_attributes [] [] [] branches 0 [] None None ≡ true
unfolding is_well_formed shape-the_row-TExpr-0 hidden-the_row-TExpr-0 shape-the_row-TExpr-1 hidden-the_row-TExpr-1 shape-the_row-TStmt-0 hidden-the_row-TStmt-0 hidden
branches-fit = refl

-- a script of this `main` is well-formed
pub faulty_fits : (routines : List TRoutine) (main : List TStmt) → routines ≡ [] → main ≡ branches → is_well_formed no_attributes [] [] routines main 0 [] None None ≡ true
faulty_fits routines main none is = (λ i. is_well_formed no_attributes [] [] (none i) (is i) 0 [] None None) ∙ branches-fit

-- and it is written out
pub faulty_written : (s : TScript) → s.routines ≡ [] → s.main ≡ branches → s.slots ≡ 0 → is_written_out s ≡ true
unfolding is_written_out shape-the_row-TExpr-0 hidden-the_row-TExpr-0 shape-the_row-TExpr-1 hidden-the_row-TExpr-1 shape-the_row-TStmt-0 hidden-the_row-TStmt-0 hidden
faulty_written s routines main slots = rw (routines, main, slots) refl

losses-fit : is_well_formed one_attribute [] [] [] [] 0 losses spread lost ≡ true
unfolding is_well_formed shape-the_row-TExpr-0 hidden-the_row-TExpr-0 shape-the_row-TExpr-1 hidden-the_row-TExpr-1 hidden
losses-fit = refl

-- a script of these parts is well-formed
pub losing_fits : (schema : Schema) (aggs : List TAgg) (actions : List TAction) (routines : List TRoutine) (main : List TStmt)
    (rules : List TRule) (spawn : Option TSpawn) (removal : Option TExpr)
    → schema ≡ one_attribute → aggs ≡ [] → actions ≡ [] → routines ≡ [] → main ≡ [] → rules ≡ losses → spawn ≡ spread → removal ≡ lost
    → is_well_formed schema aggs actions routines main 0 rules spawn removal ≡ true
losing_fits schema aggs actions routines main rules spawn removal named no_aggs no_actions no_routines no_main losing more gone =
    (λ i. is_well_formed (named i) (no_aggs i) (no_actions i) (no_routines i) (no_main i) 0 (losing i) (more i) (gone i)) ∙ losses-fit
