-- What is kept for the aggregates of a script, for each its own.
use Rattle.std.specs.Prelude.{◌≡◌, ◌<◌, ℕ, ⊤, List, length, slice_get, slice_index_or, Option, None, Some}
use Rattle.sgl_typed.specs.declared.script.TAgg.{TAgg}
use Rattle.sgl_typed.specs.declared.script.TScript.{TScript}

-- what is kept for an aggregate, where there is anything, is its own
abbrev pub IsOwn : {K : Type 0} → (K → TAgg → Type 0) → Option K → TAgg → Type 0
IsOwn is None agg = ⊤
IsOwn is (Some kept) agg = is kept agg

-- so it is for these many aggregates of a script
pub record AreOwn {K : Type 0} (is : K → TAgg → Type 0) (kept : List (Option K)) (count : ℕ) (script : TScript) : Type 0 where
  pub all : length kept ≡ count
  pub own : (number : ℕ) (agg : TAgg) → number < count → slice_get script.aggs number ≡ Some agg → IsOwn is (slice_index_or kept number None) agg
