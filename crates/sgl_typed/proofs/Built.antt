-- An expression is built of its parts.
use Rattle.std.proofs.Common.{◌≡◌, ℕ, List, [], ◌∷◌, refl, ap}
use denote.Hole.Carrier.{hidden}
use mathlib.Core.Former.{arity, this}
use Rattle.sgl_values.specs.formers.list.List.{the_former}
use Rattle.sgl_values.specs.declared.operator.BinOp.{BinOp}
use Rattle.sgl_values.specs.declared.place.Place.{Place}
use Rattle.sgl_typed.specs.declared.script.AggUse.{AggUse}
use Rattle.sgl_typed.specs.declared.script.TExpr.{TExpr, Row_of-TExpr, end_of-TExpr, more_of-TExpr}
use Rattle.sgl_typed.specs.declared.script.TExpr.TheVariants.{Agg, Neg, Not, Binary, Agg', Neg', Not', Binary'}
use Rattle.sgl_typed.specs.declared.script.TExpr.TheBlock.{shape-the_row-TExpr-0, hidden-the_row-TExpr-0, shape-the_row-TExpr-1, hidden-the_row-TExpr-1}
use Rattle.sgl_typed.specs.Rows.{row_items}

abbrev pub RowFor : List (Unit {0}) → Type 0
RowFor shape = Row_of-TExpr (arity (the_former (this {0})) shape)

abbrev pub Rows : Type 0
Rows = (shape : List (Unit {0})) × RowFor shape

row_is : (shape : List (Unit {0})) (args : RowFor shape) → ◌≡◌ {A = Rows} (shape, args) (shape-the_row-TExpr-0 (row_items args), hidden-the_row-TExpr-0 (row_items args))
unfolding shape-the_row-TExpr-0 hidden-the_row-TExpr-0 shape-the_row-TExpr-1 hidden-the_row-TExpr-1 hidden
row_is [] end_of-TExpr = refl
row_is (u ∷ us) (more_of-TExpr e rest) = ap (λ p. (tt ∷ p.0, more_of-TExpr e p.1)) (row_is us rest)

pub agg_is : (agg : ℕ) (shape : List (Unit {0})) (args : RowFor shape) (place : Place) → Agg' agg shape args place ≡ Agg record { agg = agg; args = row_items args; place = place }
unfolding shape-the_row-TExpr-0 hidden-the_row-TExpr-0 shape-the_row-TExpr-1 hidden-the_row-TExpr-1 hidden
agg_is agg shape args place = ap (λ p. Agg' agg p.0 p.1 place) (row_is shape args)

pub neg_is : (shape : Unit {0}) (inner : TExpr) → Neg inner ≡ Neg' shape (more_of-TExpr inner end_of-TExpr)
unfolding shape-the_row-TExpr-0 hidden-the_row-TExpr-0 shape-the_row-TExpr-1 hidden-the_row-TExpr-1 hidden
neg_is shape inner = refl

pub not_is : (shape : Unit {0}) (inner : TExpr) → Not inner ≡ Not' shape (more_of-TExpr inner end_of-TExpr)
unfolding shape-the_row-TExpr-0 hidden-the_row-TExpr-0 shape-the_row-TExpr-1 hidden-the_row-TExpr-1 hidden
not_is shape inner = refl

pub binary_is : (op : BinOp) (shape shape' : Unit {0}) (left right : TExpr) (place : Place)
    → Binary op left right place ≡ Binary' op shape (more_of-TExpr left end_of-TExpr) shape' (more_of-TExpr right end_of-TExpr) place
unfolding shape-the_row-TExpr-0 hidden-the_row-TExpr-0 shape-the_row-TExpr-1 hidden-the_row-TExpr-1 hidden
binary_is op shape shape' left right place = refl

pub agg_of : (call : AggUse) → Agg call ≡ Agg' call.agg (shape-the_row-TExpr-0 call.args) (hidden-the_row-TExpr-0 call.args) call.place
unfolding shape-the_row-TExpr-0 hidden-the_row-TExpr-0 shape-the_row-TExpr-1 hidden-the_row-TExpr-1 hidden
agg_of call = refl
