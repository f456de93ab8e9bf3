-- The answers of uses of extremes, one use more and one node more.
use Rattle.std.proofs.Common.{◌≡◌, true, ℕ, ◌+◌, List, [], ◌∷◌, ◌++◌, map, length, Option, Some, None, inl, inr, refl, ap, sym, ◌∙◌, subst, arith}
use Rattle.std.specs.Prelude.{slice_get, slice_index_or}
use Rattle.std.specs.Option.{option_map}
use Rattle.std.proofs.lemmas.Bool.{cases_lt}
use Rattle.std.proofs.lemmas.List.{get_or_append_left, get_or_push, length_push, get_or_past}
use Rattle.std.proofs.lemmas.Option.{none-some}
use Rattle.sgl_values.specs.World.{World, row_at}
use Rattle.sgl_typed.specs.declared.script.AggUse.{AggUse}
use Rattle.sgl_typed.specs.declared.script.TAgg.{TAgg}
use Rattle.sgl_typed.specs.declared.script.TScript.{TScript}
use Rattle.sgl_typed.specs.Aggregate.{call_of, simple_value}
use Rattle.battle_algebra.specs.Ways.{all_fixed}
use Rattle.battle_algebra.specs.declared.plan.Node.{Node}
use Rattle.group_sweeps.specs.Swept.{AreAnswers, swept_value}
use Rattle.group_sweeps.specs.declared.swept.Swept.{Swept}
use Rattle.index_set.specs.Frames.{frame_of}
use Rattle.index_set.specs.Sweeps.{AnswersNodes, AreOwn, AreSameCalls, AreSwept, AreUses, IsSameAt, IsSameCall, IsSweptAt, IsSweptFor, KeepsUses, answers_in, call_in}
use Rattle.index_set.specs.declared.sweeps.Sweeps.{Sweeps}
use Rattle.index_set.specs.declared.swept_use.SweptUse.{SweptUse}
use Rattle.index_set.proofs.Fixed.{fixed_value}
use Rattle.index_set.proofs.Shelving.{kept, last, old_or_last}

same-some : {A : Type 0} (x y : A) → Some x ≡ Some y → x ≡ y
same-some x y h = cc

-- the answers of a sweep are the values of the call, whatever the slots are
pub swept_for : (swept : Swept) (script : TScript) (world : World) (seed : ℕ) (call : AggUse) (agg : TAgg) → slice_get script.aggs call.agg ≡ Some agg
    → all_fixed agg.tests call.args ≡ true → AreAnswers swept agg script world seed call.args → IsSweptFor swept script world seed call
swept_for swept script world seed call agg at fixed are = λ other row slots found inside.
    let same : agg ≡ other = same-some agg other (sym at ∙ found) in
    let frame = frame_of script world seed (row_at world row) slots in
    ap (λ (a : TAgg). swept_value swept a world row) (sym same)
    ∙ are.each row inside
    ∙ fixed_value frame slots call.args agg fixed
    ∙ ap (λ (o : Option TAgg). call_of frame o (map (simple_value frame) call.args)) (sym at)

-- equal calls have the same answers
same-for : (swept : Swept) (script : TScript) (world : World) (seed : ℕ) (call other : AggUse) → AreSameCalls call other → IsSweptFor swept script world seed call → IsSweptFor swept script world seed other
same-for swept script world seed call other same are = λ agg row slots found inside.
    let frame = frame_of script world seed (row_at world row) slots in
    are agg row slots (ap (slice_get script.aggs) same.agg ∙ found) inside
    ∙ (λ i. call_of frame (slice_get script.aggs (same.agg i)) (map (simple_value frame) (same.args i)))

pub same_at : (uses : List SweptUse) (number : ℕ) (script : TScript) (world : World) (seed : ℕ) (nodes : List Node) (call : AggUse) → AreUses uses script world seed nodes
    → IsSameAt uses number nodes call → IsSweptAt uses number script world seed call
same_at uses number script world seed nodes call are found = record {
  kept = found.kept;
  at = found.at;
  own = by (call_in nodes found.kept.node) refl found.same;
}
  where
    by : (o : Option AggUse) → call_in nodes found.kept.node ≡ o → IsSameCall o call → IsSweptFor found.kept.swept script world seed call
    by None is same = absurd same
    by (Some other) is same = same-for found.kept.swept script world seed other call same (are number found.kept other found.at is)

-- the answers of a call are those of its node
pub own_at : (uses : List SweptUse) (number : ℕ) (script : TScript) (world : World) (seed : ℕ) (nodes : List Node) (node : ℕ) (call : AggUse) → call_in nodes node ≡ Some call
    → IsSweptAt uses number script world seed call → AreOwn uses (Some number) script world seed (call_in nodes node)
own_at uses number script world seed nodes node call asked at = λ other found is there.
    let n : number ≡ other = same-some number other is in
    let one : call ≡ found = same-some call found (sym asked ∙ there) in
    subst (λ (m : ℕ). IsSweptAt uses m script world seed found) n (subst (λ (u : AggUse). IsSweptAt uses number script world seed u) one at)

-- one use more
pub use_more : (old new : List SweptUse) (kept' : SweptUse) (script : TScript) (world : World) (seed : ℕ) (nodes : List Node) (call : AggUse) → new ≡ old ++ kept' ∷ []
    → AreUses old script world seed nodes → call_in nodes kept'.node ≡ Some call → IsSweptFor kept'.swept script world seed call → AreUses new script world seed nodes
use_more old new kept' script world seed nodes call pushed are at here = λ number found other there is.
    elim (old_or_last old kept' number found (ap (λ l. slice_get l number) (sym pushed) ∙ there)) [
      | inl before ↦ are number found other before is
      | inr same ↦
          let one : call ≡ other = same-some call other (sym at ∙ ap (λ (k : SweptUse). call_in nodes k.node) (sym same) ∙ is) in
          subst (λ (u : AggUse). IsSweptFor found.swept script world seed u) one (subst (λ (k : SweptUse). IsSweptFor k.swept script world seed call) (sym same) here)
    ]

pub use_at : (old new : List SweptUse) (kept' : SweptUse) (number : ℕ) (script : TScript) (world : World) (seed : ℕ) (call : AggUse) → new ≡ old ++ kept' ∷ [] → number ≡ length old
    → IsSweptFor kept'.swept script world seed call → IsSweptAt new number script world seed call
use_at old new kept' number script world seed call pushed is here = record {
  kept = kept';
  at = (λ i. slice_get (pushed i) (is i)) ∙ last old kept';
  own = here;
}

pub uses_stay : (old new : List SweptUse) (kept' : SweptUse) → new ≡ old ++ kept' ∷ [] → (number : ℕ) (found : SweptUse) → slice_get old number ≡ Some found → slice_get new number ≡ Some found
uses_stay old new kept' pushed number found h = ap (λ l. slice_get l number) pushed ∙ kept old (kept' ∷ []) number found h

at-stays : (old new : List SweptUse) (number : ℕ) (script : TScript) (world : World) (seed : ℕ) (call : AggUse)
    → ((n : ℕ) (found : SweptUse) → slice_get old n ≡ Some found → slice_get new n ≡ Some found) → IsSweptAt old number script world seed call → IsSweptAt new number script world seed call
at-stays old new number script world seed call keeps at = record { kept = at.kept; at = keeps number at.kept at.at; own = at.own }

-- one node more
pub node_more : (old mid new : Sweeps) (script : TScript) (world : World) (seed : ℕ) (nodes : List Node) (node : ℕ) (one : Option ℕ) → KeepsUses old mid
    → AreUses mid.uses script world seed nodes → new.uses ≡ mid.uses → new.nodes.items ≡ mid.nodes.items ++ one ∷ [] → AreSwept old script world seed nodes node
    → ((number : ℕ) (call : AggUse) → one ≡ Some number → call_in nodes node ≡ Some call → IsSweptAt mid.uses number script world seed call)
    → AreSwept new script world seed nodes (node + 1)
node_more old mid new script world seed nodes node one keeps uses same pushed before here = record {
  all = ap length items ∙ length_push old.nodes.items one ∙ ap (λ n. n + 1) before.all;
  uses = subst (λ (us : List SweptUse). AreUses us script world seed nodes) (sym same) uses;
  own = λ n number call at is. subst (λ (us : List SweptUse). IsSweptAt us number script world seed call) (sym same)
      (elim (cases_lt n node) [
        | inl lt ↦ at-stays old.uses mid.uses number script world seed call keeps.uses
            (before.own n number call (sym (get_or_append_left old.nodes.items (one ∷ []) None n (omega (arith, lt, before.all))) ∙ ap (λ l. slice_index_or l n None) (sym items) ∙ at) is)
        | inr le ↦ elim (cases_lt node n) [
          | inl past ↦ absurd (none-some number (sym (get_or_past (old.nodes.items ++ one ∷ []) n None (omega (arith, past, before.all, length_push old.nodes.items one))) ∙ ap (λ l. slice_index_or l n None) (sym items) ∙ at))
          | inr most ↦ let last' : n ≡ node = omega (arith, le, most) in
              let this : one ≡ Some number = sym (get_or_push old.nodes.items one None n (before.all ∙ sym last')) ∙ ap (λ l. slice_index_or l n None) (sym items) ∙ at in
              here number call this (ap (call_in nodes) (sym last') ∙ is)
        ]
      ]);
}
  where
    items : new.nodes.items ≡ old.nodes.items ++ one ∷ []
    items = pushed ∙ ap (λ l. l ++ one ∷ []) keeps.nodes

-- what the nodes have are the values of their calls
pub answers_nodes : (sweeps : Sweeps) (script : TScript) (world : World) (seed : ℕ) (nodes : List Node) (count : ℕ) → AreSwept sweeps script world seed nodes count
    → AnswersNodes sweeps script world seed nodes
answers_nodes sweeps script world seed nodes count are = λ node call swept is has. by node call swept is (slice_index_or sweeps.nodes.items node None) refl has
  where
    by : (node : ℕ) (call : AggUse) (swept : Swept) → call_in nodes node ≡ Some call → (o : Option ℕ) → slice_index_or sweeps.nodes.items node None ≡ o
        → answers_in sweeps.uses o ≡ Some swept → IsSweptFor swept script world seed call
    by node call swept is None at has = absurd (none-some swept has)
    by node call swept is (Some number) at has =
        let own = are.own node number call at is in
        let same : own.kept.swept ≡ swept = same-some own.kept.swept swept (sym (ap (option_map (λ (k : SweptUse). k.swept)) own.at) ∙ has) in
        subst (λ (s : Swept). IsSweptFor s script world seed call) same own.own
