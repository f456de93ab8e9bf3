-- The broken rules and the resolved form of expressions by their variants, over plain lists.
use Rattle.std.proofs.Common.{◌≡◌, List, [], ◌∷◌, ◌++◌, map, length, suc, bytes_eq, Option, Some, refl, ap}
use denote.Hole.Carrier.{hidden}
use Rattle.sgl_values.specs.declared.place.Place.{Place}
use Rattle.sgl_values.specs.declared.operator.BinOp.{BinOp}
use Rattle.sgl_tree.specs.declared.expression.Name.{Name}
use Rattle.sgl_tree.specs.declared.expression.Expr.{Expr}
use Rattle.sgl_tree.specs.declared.expression.Expr.TheVariants.{Call, Neg, Not, Binary}
use Rattle.sgl_tree.specs.declared.expression.Expr.TheBlock.{shape-the_row-Expr-0, hidden-the_row-Expr-0, shape-the_row-Expr-1, hidden-the_row-Expr-1}
use Rattle.sgl_typed.specs.declared.script.Kind.TheVariants.{Numeric, Logical}
use Rattle.sgl_typed.specs.declared.script.TExpr.TheVariants as made
use Rattle.sgl_types.specs.declared.finding.Finding.{Finding}
use Rattle.sgl_types.specs.declared.finding.TypeKind.TheVariants.{UnknownName}
use Rattle.sgl_types.specs.Findings.{noted, earlier}
use Rattle.sgl_types.specs.Scope.{Scope, callee_of}
use Rattle.sgl_types.specs.Faults.{faults, args_faults, numbers_faults, operand_faults, operand_kind, call_faults, row_length}
use Rattle.sgl_types.specs.Rules.{fault_unless}
use Rattle.sgl_types.specs.Typed.{typed, all_typed, callee_number}

pub noted-append : (first : Option Finding) (fs gs : List Finding) → noted first (fs ++ gs) ≡ noted (noted first fs) gs
noted-append first [] gs = refl
noted-append first (f ∷ fs) gs = noted-append (Some (earlier first f)) fs gs

pub faults-Neg : (s : Scope) (e : Expr) (place : Place) → faults s (Neg e place) ≡ operand_faults Numeric s e
unfolding shape-the_row-Expr-0 hidden-the_row-Expr-0 shape-the_row-Expr-1 hidden-the_row-Expr-1 hidden
faults-Neg s e place = refl

pub faults-Not : (s : Scope) (e : Expr) (place : Place) → faults s (Not e place) ≡ operand_faults Logical s e
unfolding shape-the_row-Expr-0 hidden-the_row-Expr-0 shape-the_row-Expr-1 hidden-the_row-Expr-1 hidden
faults-Not s e place = refl

pub faults-Binary : (s : Scope) (op : BinOp) (l r : Expr) (place : Place) → faults s (Binary op l r place) ≡ operand_faults (operand_kind op) s l ++ operand_faults (operand_kind op) s r
unfolding shape-the_row-Expr-0 hidden-the_row-Expr-0 shape-the_row-Expr-1 hidden-the_row-Expr-1 hidden
faults-Binary s op l r place = refl

args-hidden : (s : Scope) (es : List Expr) → args_faults s (hidden-the_row-Expr-0 es) ≡ numbers_faults s es
unfolding shape-the_row-Expr-0 hidden-the_row-Expr-0 hidden
args-hidden s [] = refl
args-hidden s (e ∷ es) = ap (λ fs. operand_faults Numeric s e ++ fs) (args-hidden s es)

length-hidden : (es : List Expr) → row_length (hidden-the_row-Expr-0 es) ≡ length es
unfolding shape-the_row-Expr-0 hidden-the_row-Expr-0 hidden
length-hidden [] = refl
length-hidden (e ∷ es) = ap suc (length-hidden es)

typed-hidden : (s : Scope) (es : List Expr) → all_typed s (hidden-the_row-Expr-0 es) ≡ map (typed s) es
unfolding shape-the_row-Expr-0 hidden-the_row-Expr-0 hidden
typed-hidden s [] = refl
typed-hidden s (e ∷ es) = ap (λ es. typed s e ∷ es) (typed-hidden s es)

pub faults-Call : (s : Scope) (name unit : Name) (args : List Expr) → faults s (Call name unit args) ≡ call_faults s name (length args) ++ fault_unless (bytes_eq unit.text s.unit) UnknownName unit.place ++ numbers_faults s args
unfolding shape-the_row-Expr-0 hidden-the_row-Expr-0 shape-the_row-Expr-1 hidden-the_row-Expr-1 hidden
faults-Call s name unit args = λ i. call_faults s name (length-hidden args i) ++ fault_unless (bytes_eq unit.text s.unit) UnknownName unit.place ++ args-hidden s args i

pub typed-Neg : (s : Scope) (e : Expr) (place : Place) → typed s (Neg e place) ≡ made.Neg (typed s e)
unfolding shape-the_row-Expr-0 hidden-the_row-Expr-0 shape-the_row-Expr-1 hidden-the_row-Expr-1 hidden
typed-Neg s e place = refl

pub typed-Not : (s : Scope) (e : Expr) (place : Place) → typed s (Not e place) ≡ made.Not (typed s e)
unfolding shape-the_row-Expr-0 hidden-the_row-Expr-0 shape-the_row-Expr-1 hidden-the_row-Expr-1 hidden
typed-Not s e place = refl

pub typed-Binary : (s : Scope) (op : BinOp) (l r : Expr) (place : Place) → typed s (Binary op l r place) ≡ made.Binary op (typed s l) (typed s r) place
unfolding shape-the_row-Expr-0 hidden-the_row-Expr-0 shape-the_row-Expr-1 hidden-the_row-Expr-1 hidden
typed-Binary s op l r place = refl

pub typed-Call : (s : Scope) (name unit : Name) (args : List Expr) → typed s (Call name unit args) ≡ made.Agg record { agg = callee_number (callee_of s.all.aggs s.earlier.aggs name.text); args = map (typed s) args; place = name.place }
unfolding shape-the_row-Expr-0 hidden-the_row-Expr-0 shape-the_row-Expr-1 hidden-the_row-Expr-1 hidden
typed-Call s name unit args = λ i. made.Agg record { agg = callee_number (callee_of s.all.aggs s.earlier.aggs name.text); args = typed-hidden s args i; place = name.place }

pub ruleset expression_equations = (noted-append, faults-Neg, faults-Not, faults-Binary, faults-Call, typed-Neg, typed-Not, typed-Binary, typed-Call)

-- that on what is found in two parts
pub ruleset joining = noted-append
