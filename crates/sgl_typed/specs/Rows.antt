-- The expressions that stand in a row, as a list.
use Rattle.std.specs.Prelude.{List, [], ◌∷◌}
use Rattle.sgl_typed.specs.declared.script.TExpr.{TExpr, Row_of-TExpr, end_of-TExpr, more_of-TExpr}

abbrev pub row_items : {m : _} → Row_of-TExpr m → List TExpr
row_items end_of-TExpr = []
row_items (more_of-TExpr e rest) = e ∷ row_items rest
