-- What a loop over arguments keeps.
use Rattle.std.specs.Prelude.{ℕ, ◌+◌, ◌≡◌, List, take}
use Rattle.sgl_typed.specs.declared.script.TExpr.{TExpr}
use Rattle.plan_translate.specs.Emission.{Emits}
use Rattle.plan_translate.specs.Translation.{calls_in_list, lifted_list, lifted_calls_list}
use Rattle.plan_translate.specs.declared.translation.Emitted.{Emitted}

pub record LiftsAll (start now : Emitted) (es : List TExpr) (i : ℕ) (done : List TExpr) : Type 0 where
  pub done_is : done ≡ lifted_list (take i es) start.next
  pub emits : Emits start now (lifted_calls_list (take i es) start.next)
  pub next : now.next ≡ start.next + calls_in_list (take i es)
