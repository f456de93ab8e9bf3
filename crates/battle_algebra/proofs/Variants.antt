-- Plain expressions and the slots that they read, by the variants of expressions.
use Rattle.std.specs.Prelude.{◌&&◌}
use Rattle.std.proofs.Common.{◌≡◌, ap}
use Rattle.sgl_values.specs.declared.place.Place.{Place}
use Rattle.sgl_values.specs.declared.operator.BinOp.{BinOp}
use Rattle.sgl_typed.specs.declared.script.TExpr.{TExpr}
use Rattle.sgl_typed.specs.declared.script.TExpr.TheVariants.{Neg, Not, Binary}
use Rattle.sgl_typed.proofs.Equations.{reads-Neg, reads-Not, reads-Binary, reads-Agg}
use Rattle.battle_algebra.specs.Fit.{is_plain}
use Rattle.sgl_typed.proofs.Built.{neg_is, not_is, binary_is}

pub plain-Neg : (e : TExpr) → is_plain (Neg e) ≡ is_plain e
plain-Neg e = ap is_plain (neg_is tt e)

pub plain-Not : (e : TExpr) → is_plain (Not e) ≡ is_plain e
plain-Not e = ap is_plain (not_is tt e)

pub plain-Binary : (op : BinOp) (l r : TExpr) (place : Place) → is_plain (Binary op l r place) ≡ (is_plain l && is_plain r)
plain-Binary op l r place = ap is_plain (binary_is op tt tt l r place)

-- slots that expressions read
pub ruleset read_equations = (reads-Neg, reads-Not, reads-Binary, reads-Agg)
