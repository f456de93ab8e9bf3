-- What is kept for the aggregates of a script, one by one.
use Rattle.std.proofs.Common.{◌≡◌, ℕ, ◌+◌, List, [], ◌∷◌, ◌++◌, Option, Some, None, inl, inr, ap, sym, ◌∙◌, subst, arith}
use Rattle.std.specs.Prelude.{slice_get, slice_index_or}
use Rattle.std.proofs.lemmas.Bool.{cases_lt}
use Rattle.std.proofs.lemmas.List.{get_or_append_left, get_or_push, length_push}
use Rattle.sgl_typed.specs.declared.script.TAgg.{TAgg}
use Rattle.sgl_typed.specs.declared.script.TScript.{TScript}
use Rattle.index_set.specs.Owned.{AreOwn, IsOwn}

pub own_more : {K : Type 0} (is : K → TAgg → Type 0) (script : TScript) (kept : List (Option K)) (number : ℕ) (one : Option K)
    → AreOwn is kept number script → ((agg : TAgg) → slice_get script.aggs number ≡ Some agg → IsOwn is one agg) → AreOwn is (kept ++ one ∷ []) (number + 1) script
own_more {K} is script kept number one before here = record {
  all = length_push kept one ∙ ap (λ n. n + 1) before.all;
  own = λ n agg below at. elim (cases_lt n number) [
    | inl lt ↦ subst (λ (o : Option K). IsOwn is o agg) (sym (get_or_append_left kept (one ∷ []) None n (omega (arith, lt, before.all)))) (before.own n agg lt at)
    | inr le ↦ let last : n ≡ number = omega (arith, below, le) in
        subst (λ (m : ℕ). IsOwn is (slice_index_or (kept ++ one ∷ []) m None) agg) (sym last)
        (subst (λ (o : Option K). IsOwn is o agg) (sym (get_or_push kept one None number before.all)) (here agg (ap (slice_get script.aggs) (sym last) ∙ at)))
  ];
}
