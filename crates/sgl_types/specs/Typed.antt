-- Expressions with their names resolved. What is broken reads as 0.
use Rattle.std.specs.Prelude.{ℕ, pos, bytes_eq, nat_le, Bool, true, false, List, [], ◌∷◌, Option, Some, None, if◌then◌else◌}
use Rattle.sgl_tree.specs.declared.expression.Expr.{Expr, Row_of-Expr, end_of-Expr, more_of-Expr}
use Rattle.sgl_tree.specs.declared.expression.Expr.TheVariants.{Number, Truth, Local as Named, Field, Call', Random, Neg', Not', Binary'}
use Rattle.sgl_typed.specs.declared.script.Attr.{Attr}
use Rattle.sgl_typed.specs.declared.script.Attr.TheVariants as attrs
use Rattle.sgl_typed.specs.declared.script.TExpr.{TExpr}
use Rattle.sgl_typed.specs.declared.script.TExpr.TheVariants as made
use Rattle.sgl_types.specs.declared.bodies.Local.{Local}
use Rattle.sgl_types.specs.declared.bodies.Part.{Part}
use Rattle.sgl_types.specs.declared.bodies.Part.TheVariants.{Post}
use Rattle.sgl_types.specs.declared.declared.AttrName.{AttrName}
use Rattle.sgl_types.specs.declared.declared.AttrName.TheVariants.{Const, Effect}
use Rattle.sgl_types.specs.declared.declared.Callee.{Callee}
use Rattle.sgl_types.specs.declared.declared.Callee.TheVariants.{Known}
use Rattle.sgl_types.specs.Scope.{Scope, find_local, attribute_of, callee_of}
use Rattle.sgl_values.specs.declared.limit.TheConstants.{RANDOM_INDEX_MAX}

abbrev pub within_or_zero : ℕ → ℕ → ℕ
within_or_zero most n = if nat_le n most then n else 0

abbrev pub attr : AttrName → Attr
attr (Const i) = attrs.Const i
attr name = attrs.Key

abbrev pub bare : AttrName → TExpr
bare (Effect i) = made.Combined i
bare name = made.Unit (attr name)

abbrev pub slot : Option Local → TExpr
slot None = made.Number (pos 0)
slot (Some local) = made.Slot local.slot

abbrev pub named : Part → AttrName → Option Local → TExpr
named Post name local = bare name
named part name local = slot local

abbrev pub read : Bool → Attr → TExpr
read true attr = made.Unit attr
read false attr = made.Target attr

abbrev pub callee_number : Callee → ℕ
callee_number (Known number params) = number
callee_number callee = 0

abbrev mutual
  pub typed : Scope → Expr → TExpr
  typed s (Number value place) = made.Number (pos (within_or_zero 1000000000000 value))
  typed s (Truth value place) = made.Truth value
  typed s (Named name) = named s.part (attribute_of s.all s.earlier name.text) (find_local name.text s.locals)
  typed s (Field of name) = read (bytes_eq of.text s.unit) (attr (attribute_of s.all s.earlier name.text))
  typed s (Call' name unit shape args) =
      made.Agg record { agg = callee_number (callee_of s.all.aggs s.earlier.aggs name.text); args = all_typed s args; place = name.place }
  typed s (Random place index index_place) = made.Random (within_or_zero RANDOM_INDEX_MAX index)
  typed s (Neg' shape (more_of-Expr inner end_of-Expr) place) = made.Neg (typed s inner)
  typed s (Not' shape (more_of-Expr inner end_of-Expr) place) = made.Not (typed s inner)
  typed s (Binary' op shape (more_of-Expr left end_of-Expr) shape' (more_of-Expr right end_of-Expr) place) =
      made.Binary op (typed s left) (typed s right) place

  pub all_typed : {m : _} → Scope → Row_of-Expr m → List TExpr
  all_typed s end_of-Expr = []
  all_typed s (more_of-Expr e rest) = typed s e ∷ all_typed s rest
