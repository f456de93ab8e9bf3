-- What a row asks for.
use Rattle.std.proofs.Common.{◌≡◌, ℕ, ◌≤◌, List, length, take, map, min, ap, ◌∙◌, arith}
use Rattle.std.proofs.lemmas.List.{take_all}
use Rattle.sgl_values.specs.declared.fault.Val.{Val}
use Rattle.sgl_typed.specs.declared.script.TExpr.{TExpr}

-- a buffer whose front has the values of at most sixteen expressions
pub filled : (f : TExpr → Val) (args : List TExpr) (buffer : List Val) (count : ℕ) → count ≡ length args → length args ≤ 16
    → take (min 16 (length args)) buffer ≡ map f (take 16 args) → take count buffer ≡ map f args
filled f args buffer count counted few is =
    let same : count ≡ min 16 (length args) = omega (arith, counted, few) in
    ap (λ (n : ℕ). take n buffer) same ∙ is ∙ ap (map f) (take_all 16 args few)
