-- Scripts with routines are well-formed.
use Rattle.std.proofs.Common.{◌≡◌, true, List, [], ◌∷◌, pos, None, refl}
use denote.Hole.Carrier.{hidden}
use Rattle.sgl_typed.specs.declared.script.TExpr.TheVariants.{Number}
use Rattle.sgl_typed.specs.declared.script.TStmt.{TStmt}
use Rattle.sgl_typed.specs.declared.script.TStmt.TheVariants.{Let}
use Rattle.sgl_typed.specs.declared.script.TExpr.TheBlock.{shape-the_row-TExpr-0, hidden-the_row-TExpr-0, shape-the_row-TExpr-1, hidden-the_row-TExpr-1}
use Rattle.sgl_typed.specs.declared.script.TStmt.TheBlock.{shape-the_row-TStmt-0, hidden-the_row-TStmt-0}
use Rattle.sgl_typed.specs.WellFormed.{is_well_formed}
use Rattle.engine_tests.specs.Samples.{no_attributes}
use Rattle.engine_tests.specs.Towers.{calls_of, calls_twice, copies, corner, ladder, last_call, tower}

abbrev pub a_let : List TStmt
a_let = Let 0 (Number (pos 1)) corner ∷ []

pub two_calls-fit : is_well_formed no_attributes [] [] copies calls_twice 2 [] None None ≡ true
unfolding shape-the_row-TExpr-0 hidden-the_row-TExpr-0 shape-the_row-TExpr-1 hidden-the_row-TExpr-1 shape-the_row-TStmt-0 hidden-the_row-TStmt-0 hidden is_well_formed
two_calls-fit = refl

pub full-fit : is_well_formed no_attributes [] [] (tower a_let 10 3) (calls_of 3 10) 1 [] None None ≡ true
unfolding shape-the_row-TExpr-0 hidden-the_row-TExpr-0 shape-the_row-TExpr-1 hidden-the_row-TExpr-1 shape-the_row-TStmt-0 hidden-the_row-TStmt-0 hidden is_well_formed
full-fit = refl

pub towering-fit : is_well_formed no_attributes [] [] (tower a_let 10 19) (calls_of 19 1) 1 [] None None ≡ true
unfolding shape-the_row-TExpr-0 hidden-the_row-TExpr-0 shape-the_row-TExpr-1 hidden-the_row-TExpr-1 shape-the_row-TStmt-0 hidden-the_row-TStmt-0 hidden is_well_formed
towering-fit = refl

pub hollow-fit : is_well_formed no_attributes [] [] (tower [] 10 19) (calls_of 19 1) 0 [] None None ≡ true
unfolding shape-the_row-TExpr-0 hidden-the_row-TExpr-0 shape-the_row-TExpr-1 hidden-the_row-TExpr-1 shape-the_row-TStmt-0 hidden-the_row-TStmt-0 hidden is_well_formed
hollow-fit = refl

pub deep-fit : is_well_formed no_attributes [] [] (ladder 256) (last_call 256) 0 [] None None ≡ true
unfolding shape-the_row-TExpr-0 hidden-the_row-TExpr-0 shape-the_row-TExpr-1 hidden-the_row-TExpr-1 shape-the_row-TStmt-0 hidden-the_row-TStmt-0 hidden is_well_formed
deep-fit = refl
