-- An operation over other sides.
use Rattle.sgl_typed.specs.declared.script.TExpr.{TExpr}
use Rattle.sgl_typed.specs.declared.script.TExpr.TheVariants.{Binary, Binary'}

-- the operation of these sides, where the expression is one
abbrev pub over_sides : TExpr → TExpr → TExpr → TExpr
over_sides (Binary' op shape left shape' right place) l r = Binary op l r place
over_sides e l r = e
