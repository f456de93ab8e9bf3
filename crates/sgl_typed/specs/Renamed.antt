-- Expressions that read other slots.
use Rattle.std.specs.Prelude.{ℕ, List, [], ◌∷◌}
use Rattle.sgl_typed.specs.declared.script.TExpr.{TExpr, Row_of-TExpr, end_of-TExpr, more_of-TExpr}
use Rattle.sgl_typed.specs.declared.script.TExpr.TheVariants.{Slot, Neg, Not, Binary, Agg, Agg', Neg', Not', Binary'}

-- an expression in which each slot is another one
abbrev mutual
  pub renamed : (ℕ → ℕ) → TExpr → TExpr
  renamed to (Slot i) = Slot (to i)
  renamed to (Agg' agg shape args place) = Agg record { agg = agg; args = all_renamed to args; place = place }
  renamed to (Neg' shape (more_of-TExpr inner end_of-TExpr)) = Neg (renamed to inner)
  renamed to (Not' shape (more_of-TExpr inner end_of-TExpr)) = Not (renamed to inner)
  renamed to (Binary' op shape (more_of-TExpr left end_of-TExpr) shape' (more_of-TExpr right end_of-TExpr) place) =
      Binary op (renamed to left) (renamed to right) place
  renamed to e = e

  pub all_renamed : {m : _} → (ℕ → ℕ) → Row_of-TExpr m → List TExpr
  all_renamed to end_of-TExpr = []
  all_renamed to (more_of-TExpr e rest) = renamed to e ∷ all_renamed to rest
