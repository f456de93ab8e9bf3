-- Other slots, by the variants of expressions, over plain lists.
use Rattle.std.proofs.Common.{◌≡◌, ℕ, List, [], ◌∷◌, map, refl, ap, sym, ◌∙◌}
use denote.Hole.Carrier.{hidden}
use Rattle.sgl_values.specs.declared.operator.BinOp.{BinOp}
use Rattle.sgl_values.specs.declared.place.Place.{Place}
use Rattle.sgl_typed.specs.declared.script.AggUse.{AggUse}
use Rattle.sgl_typed.specs.declared.script.TExpr.{TExpr, Row_of-TExpr, end_of-TExpr, more_of-TExpr}
use Rattle.sgl_typed.specs.declared.script.TExpr.TheVariants.{Number, Truth, Slot, Unit as OfUnit, Target, Combined, Random, Agg, Neg, Not, Binary, Agg', Neg', Not', Binary'}
use Rattle.sgl_typed.specs.declared.script.TExpr.TheBlock.{shape-the_row-TExpr-0, hidden-the_row-TExpr-0, shape-the_row-TExpr-1, hidden-the_row-TExpr-1}
use Rattle.sgl_typed.specs.Renamed.{renamed, all_renamed}
use Rattle.sgl_typed.specs.Rows.{row_items}
use Rattle.sgl_typed.proofs.Built.{agg_is, neg_is, not_is, binary_is}

pub renamed-Neg : (to : ℕ → ℕ) (e : TExpr) → renamed to (Neg e) ≡ Neg (renamed to e)
unfolding shape-the_row-TExpr-0 hidden-the_row-TExpr-0 shape-the_row-TExpr-1 hidden-the_row-TExpr-1 hidden
renamed-Neg to e = refl

pub renamed-Not : (to : ℕ → ℕ) (e : TExpr) → renamed to (Not e) ≡ Not (renamed to e)
unfolding shape-the_row-TExpr-0 hidden-the_row-TExpr-0 shape-the_row-TExpr-1 hidden-the_row-TExpr-1 hidden
renamed-Not to e = refl

pub renamed-Binary : (to : ℕ → ℕ) (op : BinOp) (l r : TExpr) (place : Place) → renamed to (Binary op l r place) ≡ Binary op (renamed to l) (renamed to r) place
unfolding shape-the_row-TExpr-0 hidden-the_row-TExpr-0 shape-the_row-TExpr-1 hidden-the_row-TExpr-1 hidden
renamed-Binary to op l r place = refl

pub all-renamed : (to : ℕ → ℕ) (es : List TExpr) → all_renamed to (hidden-the_row-TExpr-0 es) ≡ map (renamed to) es
unfolding shape-the_row-TExpr-0 hidden-the_row-TExpr-0 hidden
all-renamed to [] = refl
all-renamed to (e ∷ es) = ap (λ rest. renamed to e ∷ rest) (all-renamed to es)

pub renamed-Agg : (to : ℕ → ℕ) (use' : AggUse) → renamed to (Agg use') ≡ Agg record { agg = use'.agg; args = map (renamed to) use'.args; place = use'.place }
unfolding shape-the_row-TExpr-0 hidden-the_row-TExpr-0 shape-the_row-TExpr-1 hidden-the_row-TExpr-1 hidden
renamed-Agg to use' = ap (λ args. Agg record { agg = use'.agg; args = args; place = use'.place }) (all-renamed to use'.args)

pub ruleset renamed_equations = (renamed-Neg, renamed-Not, renamed-Binary, renamed-Agg)

-- ---- where each slot stays, so does the expression

mutual
  pub renamed-same : (e : TExpr) → renamed (λ slot. slot) e ≡ e
  renamed-same (Number n) = refl
  renamed-same (Truth t) = refl
  renamed-same (Slot i) = refl
  renamed-same (OfUnit attr) = refl
  renamed-same (Target attr) = refl
  renamed-same (Combined i) = refl
  renamed-same (Random i) = refl
  renamed-same (Agg' agg shape args place) =
      ap (λ es. Agg record { agg = agg; args = es; place = place }) (row-same args) ∙ sym (agg_is agg shape args place)
  renamed-same (Neg' shape (more_of-TExpr inner end_of-TExpr)) = ap Neg (renamed-same inner) ∙ neg_is shape inner
  renamed-same (Not' shape (more_of-TExpr inner end_of-TExpr)) = ap Not (renamed-same inner) ∙ not_is shape inner
  renamed-same (Binary' op shape (more_of-TExpr left end_of-TExpr) shape' (more_of-TExpr right end_of-TExpr) place) =
      (λ i. Binary op (renamed-same left i) (renamed-same right i) place) ∙ binary_is op shape shape' left right place

  row-same : {m : _} (es : Row_of-TExpr m) → all_renamed (λ slot. slot) es ≡ row_items es
  row-same end_of-TExpr = refl
  row-same (more_of-TExpr e rest) = λ i. renamed-same e i ∷ row-same rest i

pub renamed-all_same : (es : List TExpr) → map (renamed (λ slot. slot)) es ≡ es
renamed-all_same [] = refl
renamed-all_same (e ∷ es) = λ i. renamed-same e i ∷ renamed-all_same es i

pub ruleset same_slots = (renamed-same, renamed-all_same)
