-- What is told of each result holds of what is made.
use Rattle.std.proofs.Common.{ℕ, List, [], ◌∷◌, Result, Ok, Err}
use Rattle.std.specs.List.{AllZip}
use Rattle.sgl_values.proofs.Gathered.{IsMade}

module _ {A E : Type 0} (P : ℕ → Result A E → Type 0) where
  one_told : (n : ℕ) (made : Result A E) → P n made → IsMade (λ n one. P n (Ok one)) n made
  one_told n (Ok one) is = is
  one_told n (Err e) is = tt

  pub each_told : (ns : List ℕ) (made : List (Result A E)) → AllZip P ns made → AllZip (IsMade (λ n one. P n (Ok one))) ns made
  each_told [] [] all = all
  each_told [] (one ∷ made) all = absurd all
  each_told (n ∷ ns) [] all = absurd all
  each_told (n ∷ ns) (one ∷ made) all = (one_told n one all.0, each_told ns made all.1)
