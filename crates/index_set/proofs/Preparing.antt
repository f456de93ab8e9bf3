-- Uses made ready to be swept, one use more.
use Rattle.std.proofs.Common.{◌≡◌, ℕ, List, [], ◌∷◌, ◌++◌, Some, inl, inr, ap, sym, ◌∙◌, subst}
use Rattle.std.specs.Prelude.{slice_get}
use Rattle.sgl_values.specs.World.{World}
use Rattle.sgl_typed.specs.declared.script.AggUse.{AggUse}
use Rattle.sgl_typed.specs.declared.script.TAgg.{TAgg}
use Rattle.sgl_typed.specs.declared.script.TScript.{TScript}
use Rattle.battle_algebra.specs.declared.plan.Node.{Node}
use Rattle.index_set.specs.Prepared.{ArePrepared, IsPreparedUse, IsUseOf}
use Rattle.index_set.specs.Sweeps.{call_in}
use Rattle.index_set.specs.declared.prepared.PreparedUse.{PreparedUse}
use Rattle.index_set.specs.declared.shelf.Shelf.{Shelf}
use Rattle.index_set.proofs.Shelving.{old_or_last}

same-some : {A : Type 0} (x y : A) → Some x ≡ Some y → x ≡ y
same-some x y h = cc

module _ (shelf : Shelf) (script : TScript) (world : World) (seed : ℕ) (nodes : List Node) where
  pub none_ready : ArePrepared [] shelf script world seed nodes
  none_ready = λ number kept call agg there is at. absurd (cc there)

  pub ready_more : (old new : List PreparedUse) (more : PreparedUse) (call : AggUse) (agg : TAgg) → new ≡ old ++ more ∷ [] → ArePrepared old shelf script world seed nodes
      → call_in nodes more.node ≡ Some call → slice_get script.aggs call.agg ≡ Some agg → IsPreparedUse more shelf script world seed call agg → ArePrepared new shelf script world seed nodes
  ready_more old new more call agg pushed are asked at here = λ number found other by there is has.
      elim (old_or_last old more number found (ap (λ l. slice_get l number) (sym pushed) ∙ there)) [
        | inl before ↦ are number found other by before is has
        | inr same ↦
            let one : call ≡ other = same-some call other (sym asked ∙ ap (λ (k : PreparedUse). call_in nodes k.node) (sym same) ∙ is) in
            let two : agg ≡ by = same-some agg by (sym at ∙ ap (λ (u : AggUse). slice_get script.aggs u.agg) one ∙ has) in
            subst (λ (a : TAgg). IsPreparedUse found shelf script world seed other a) two
            (subst (λ (u : AggUse). IsPreparedUse found shelf script world seed u agg) one
            (subst (λ (k : PreparedUse). IsPreparedUse k shelf script world seed call agg) (sym same) here))
      ]

  -- the use of a node is its call, ready
  pub ready_for : (uses : List PreparedUse) (kept : PreparedUse) (node : ℕ) (call : AggUse) (agg : TAgg) → ArePrepared uses shelf script world seed nodes → IsUseOf uses kept node
      → call_in nodes node ≡ Some call → slice_get script.aggs call.agg ≡ Some agg → IsPreparedUse kept shelf script world seed call agg
  ready_for uses kept node call agg are found asked at = are found.number kept call agg found.at (ap (call_in nodes) found.of ∙ asked) at
