-- The value of an expression.
use Rattle.std.specs.Prelude.{ℕ, ℤ, pos, neg_ℤ, not, int_lt, int_le, Bool, true, false, List, [], ◌∷◌, slice_index_or, Result, Ok, Err}
use Rattle.std.specs.Ordering.{int_eq}
use Rattle.sgl_values.specs.Values.{sum, difference, product, quotient, remainder}
use Rattle.sgl_values.specs.World.{Row, World}
use Rattle.sgl_values.specs.declared.fault.ArithFault.{ArithFault}
use Rattle.sgl_values.specs.declared.place.Place.{Place}
use Rattle.sgl_values.specs.declared.fault.Val.{Val}
use Rattle.sgl_values.specs.declared.fault.Val.TheVariants.{N, B, F}
use Rattle.sgl_values.specs.declared.operator.BinOp.{BinOp}
use Rattle.sgl_values.specs.declared.operator.BinOp.TheVariants.{Add, Sub, Mul, Div, Rem, Cmp, And, Or}
use Rattle.sgl_values.specs.declared.operator.CmpOp.{CmpOp}
use Rattle.sgl_values.specs.declared.operator.CmpOp.TheVariants.{Eq, Ne, Lt, Le, Gt, Ge}
use Rattle.sgl_typed.specs.declared.script.Attr.{Attr}
use Rattle.sgl_typed.specs.declared.script.Attr.TheVariants.{Key, Const}
use Rattle.sgl_typed.specs.declared.script.TExpr.{TExpr, Row_of-TExpr, end_of-TExpr, more_of-TExpr}
use Rattle.sgl_typed.specs.declared.script.TExpr.TheVariants.{Number, Truth, Slot, Unit as OfUnit, Target, Combined, Random, Agg', Neg', Not', Binary'}
use Rattle.sgl_typed.specs.declared.script.TScript.{TScript}
use Rattle.sgl_typed.specs.Draw.{draw}

-- What an expression may read. Only `post` reads `combined`, and only amounts read `target`.
pub record Context : Type 0 where
  pub script : TScript
  pub world : World
  pub seed : ℕ
  pub unit : Row
  pub slots : List Val
  pub target : Row
  pub combined : List ℤ

-- ---- operations

-- a result at the place of its operator
abbrev pub at_place : Place → Result ℤ ArithFault → Val
at_place place (Ok z) = N z
at_place place (Err kind) = F record { kind = kind; place = place }

-- two numbers give a value; the first fault passes. A truth stands there in no script.
abbrev pub on_numbers : (ℤ → ℤ → Val) → Val → Val → Val
on_numbers f (N a) (N b) = f a b
on_numbers f (N a) w = w
on_numbers f v w = v

-- a comparison of two numbers
abbrev pub compares : CmpOp → ℤ → ℤ → Bool
compares Eq a b = int_eq a b
compares Ne a b = not (int_eq a b)
compares Lt a b = int_lt a b
compares Le a b = int_le a b
compares Gt a b = int_lt b a
compares Ge a b = int_le b a

-- false where the left side is false, its fault where it is one, and else the right side
abbrev pub both : Val → Val → Val
both (B true) w = w
both v w = v

-- true where the left side is true, its fault where it is one, and else the right side
abbrev pub either : Val → Val → Val
either (B false) w = w
either v w = v

-- an operation on two values, at its place
abbrev pub operated : BinOp → Place → Val → Val → Val
operated Add place v w = on_numbers (λ a b. at_place place (sum a b)) v w
operated Sub place v w = on_numbers (λ a b. at_place place (difference a b)) v w
operated Mul place v w = on_numbers (λ a b. at_place place (product a b)) v w
operated Div place v w = on_numbers (λ a b. at_place place (quotient a b)) v w
operated Rem place v w = on_numbers (λ a b. at_place place (remainder a b)) v w
operated (Cmp op) place v w = on_numbers (λ a b. B (compares op a b)) v w
operated And place v w = both v w
operated Or place v w = either v w

-- the negative of a number; a fault passes
abbrev pub negated : Val → Val
negated (N z) = N (neg_ℤ z)
negated v = v

-- the contrary of a truth; a fault passes
abbrev pub inverted : Val → Val
inverted (B b) = B (not b)
inverted v = v

-- an attribute of a row, which is 0 where the row lacks it
abbrev pub attribute : Attr → Row → ℤ
attribute Key row = pos row.key
attribute (Const i) row = slice_index_or row.values i (pos 0)

-- ---- expressions

-- what a call of an aggregate gives: by its number and the values of its arguments
abbrev pub Calls : Type 0
Calls = ℕ → List Val → Val

-- the value of an expression, by what calls give; a slot that is not there reads 0
abbrev mutual
  pub value_with : Calls → Context → TExpr → Val
  value_with calls c (Number n) = N n
  value_with calls c (Truth b) = B b
  value_with calls c (Slot i) = slice_index_or c.slots i (N (pos 0))
  value_with calls c (OfUnit attr) = N (attribute attr c.unit)
  value_with calls c (Target attr) = N (attribute attr c.target)
  value_with calls c (Combined i) = N (slice_index_or c.combined i (pos 0))
  value_with calls c (Random i) = N (draw c.seed c.world.tick c.unit.key i)
  value_with calls c (Agg' agg shape args place) = calls agg (values_with calls c args)
  value_with calls c (Neg' shape (more_of-TExpr inner end_of-TExpr)) = negated (value_with calls c inner)
  value_with calls c (Not' shape (more_of-TExpr inner end_of-TExpr)) = inverted (value_with calls c inner)
  value_with calls c (Binary' op shape (more_of-TExpr left end_of-TExpr) shape' (more_of-TExpr right end_of-TExpr) place) =
      operated op place (value_with calls c left) (value_with calls c right)

  pub values_with : {m : _} → Calls → Context → Row_of-TExpr m → List Val
  values_with calls c end_of-TExpr = []
  values_with calls c (more_of-TExpr e rest) = value_with calls c e ∷ values_with calls c rest
