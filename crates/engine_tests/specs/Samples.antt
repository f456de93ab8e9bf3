-- Parts of the scripts of the tests.
use Rattle.std.specs.Prelude.{pos, List, [], ◌∷◌, codes, Option, Some, refl}
use Rattle.sgl_values.specs.declared.operator.BinOp.TheVariants.{Sub, Mul, Div, Cmp}
use Rattle.sgl_values.specs.declared.operator.CmpOp.TheVariants.{Lt, Gt}
use Rattle.sgl_typed.specs.declared.schema.Schema.{Schema}
use Rattle.sgl_typed.specs.declared.script.Attr.TheVariants.{Const}
use Rattle.sgl_typed.specs.declared.script.TExpr.{TExpr}
use Rattle.sgl_typed.specs.declared.script.TExpr.TheVariants.{Number, Binary, Unit as OfUnit}
use Rattle.sgl_typed.specs.declared.script.TRule.{TRule}
use Rattle.sgl_typed.specs.declared.script.TSpawn.{TSpawn}
use Rattle.sgl_typed.specs.declared.script.TStmt.{TStmt}
use Rattle.sgl_typed.specs.declared.script.TStmt.TheVariants.{If}

abbrev pub no_attributes : Schema
no_attributes = record { consts = []; effects = []; fits = refl }

-- ---- a script whose units all have a fault

-- `5 / 0 > 0`
abbrev pub divided_by_zero : TExpr
divided_by_zero =
    Binary (Cmp Gt) (Binary Div (Number (pos 5)) (Number (pos 0)) record { line = 1; col = 17 }) (Number (pos 0)) record { line = 1; col = 21 }

-- `if 5 / 0 > 0 { }`
abbrev pub branches : List TStmt
branches = If divided_by_zero record { line = 1; col = 13 } [] [] ∷ []

-- ---- a script whose units lose something in each tick, and of which those with much have a child

-- `attr x const;`
abbrev pub one_attribute : Schema
one_attribute = record { consts = codes "x" ∷ []; effects = []; fits = refl }

-- `x = x - 1;`
abbrev pub losses : List TRule
losses = record { attr = 0; value = Binary Sub (OfUnit (Const 0)) (Number (pos 1)) record { line = 1; col = 7 } } ∷ []

-- `spawn when x > 3 { x = x * 10; }`
abbrev pub spread : Option TSpawn
spread = Some record {
  cond = Binary (Cmp Gt) (OfUnit (Const 0)) (Number (pos 3)) record { line = 1; col = 14 };
  rules = record { attr = 0; value = Binary Mul (OfUnit (Const 0)) (Number (pos 10)) record { line = 1; col = 26 } } ∷ [];
}

-- `remove when x < 1;`
abbrev pub lost : Option TExpr
lost = Some (Binary (Cmp Lt) (OfUnit (Const 0)) (Number (pos 1)) record { line = 1; col = 15 })
