-- Calls whose first sixteen arguments stand in a buffer.
use Rattle.std.proofs.Common.{◌≡◌, ◌≤◌, ℕ, min, List, map, length, take, refl, ap, sym, ◌∙◌, arith}
use Rattle.std.specs.Prelude.{slice_get, Option, None, Some}
use Rattle.std.proofs.lemmas.List.{take-map, take_all}
use Rattle.sgl_values.specs.declared.fault.Val.{Val}
use Rattle.sgl_typed.specs.declared.script.AggUse.{AggUse}
use Rattle.sgl_typed.specs.declared.script.TAgg.{TAgg}
use Rattle.sgl_typed.specs.declared.script.TExpr.{TExpr}
use Rattle.sgl_typed.specs.Aggregate.{call_of, simple_value}
use Rattle.sgl_typed.specs.Value.{Context}
use Rattle.battle_algebra.specs.Meaning.{call_value}
use Rattle.sgl_values.specs.World.{World, row_at}
use Rattle.sgl_typed.specs.declared.script.TScript.{TScript}
use Rattle.battle_algebra.specs.declared.plan.EffectUse.{EffectUse}
use Rattle.sgl_evaluate.proofs.Sixteen.{calls_read_sixteen}
use Rattle.index_set.specs.Frames.{clause_context_of, frame_of}
use Rattle.index_set.specs.Sets.{acting}

-- the value of an aggregate is the same whatever the slots of the calling frame are
pub slots_free : (c : Context) (slots : List Val) (agg : Option TAgg) (args : List Val) → call_of (record c { slots = slots }) agg args ≡ call_of c agg args
slots_free c slots None args = refl
slots_free c slots (Some agg) args = refl

-- the value of a call, by its first sixteen arguments
pub called : (c : Context) (call : AggUse) (args : List Val) (result : Val) → args ≡ map (simple_value c) (take 16 call.args)
    → result ≡ call_of (record c { slots = args }) (slice_get c.script.aggs call.agg) args → result ≡ call_value c call
called c call args result passed answered =
    let agg = slice_get c.script.aggs call.agg in
    answered ∙ slots_free c args agg args
    ∙ ap (call_of c agg) (passed ∙ sym (take-map (simple_value c) 16 call.args))
    ∙ calls_read_sixteen c call.agg (map (simple_value c) call.args)

-- the context of an effect, whose arguments stand in a buffer
pub acted : (script : TScript) (world : World) (seed row : ℕ) (slots : List Val) (act : EffectUse) (c : Context) (exprs : List TExpr) (buffer : List Val) (count : ℕ)
    → c ≡ frame_of script world seed (row_at world row) slots → exprs ≡ act.args → count ≡ length act.args → length act.args ≤ 16
    → take (min 16 (length exprs)) buffer ≡ map (simple_value c) (take 16 exprs)
    → clause_context_of script world seed row buffer count ≡ acting script world seed row slots act
acted script world seed row slots act c exprs buffer count framed is counted few filled =
    let same : count ≡ min 16 (length exprs) = omega (arith, counted, few, ap length is) in
    let whole : length exprs ≤ 16 = omega (arith, few, ap length is) in
    ap (frame_of script world seed (row_at world row))
    (ap (λ (n : ℕ). take n buffer) same ∙ filled ∙ ap (map (simple_value c)) (take_all 16 exprs whole) ∙ ap (map (simple_value c)) is
    ∙ ap (λ (x : Context). map (simple_value x) act.args) framed)

-- the first sixteen arguments of a call stand in a buffer
pub called_values : (c : Context) (args exprs : List TExpr) (buffer : List Val) (count : ℕ) → exprs ≡ args → count ≡ min (length exprs) 16
    → take (min 16 (length exprs)) buffer ≡ map (simple_value c) (take 16 exprs) → take count buffer ≡ map (simple_value c) (take 16 args)
called_values c args exprs buffer count is counted filled =
    let same : count ≡ min 16 (length exprs) = omega (arith, counted) in
    ap (λ (n : ℕ). take n buffer) same ∙ filled ∙ ap (λ (es : List TExpr). map (simple_value c) (take 16 es)) is
