use Rattle.std.proofs.Common.{rules, ◌≡◌, ◌∙◌, ◌++◌, ◌∷◌, pos, FitsSigned, w64, get_or, ap, append_assoc, arith, sym}
use Rattle.std.proofs.lemmas.Int.{to_z-of_z}
use Rattle.std.specs.Fmt.{signed_decimal}
use Rattle.sgl_typed.specs.Aggregate.{sum_of}
use Rattle.sgl_typed.specs.declared.script.Attr.TheVariants.{Const}
use Rattle.battle_report.specs.RunLines.{sum_text, sums_text, units_text}
use Rattle.battle_report.proofs.Sums.{sums_more}
use Rattle.battle_report.proofs.summary_line.summary_line.Goals as goal

pub loop-sum-preserved : goal.loop-sum-preserved
loop-sum-preserved c =
    let held = c.loop-sum.invariant in
    let world = c.args.world.now.world in
    let attr = c.loop-sum.sum-index in
    let sum = get_or c.put_sums.new.sums attr (pos 0) in
    let fits : FitsSigned w64 sum = search rules in
    let is : sum ≡ sum_of (Const attr) world.rows = c.put_sums.ensures attr (omega arith) in
    record {
      text = c.push_signed_behind.ensures.text
          ∙ ((λ i. held.text i ++ 32 ∷ signed_decimal ((to_z-of_z w64 sum fits ∙ is) i))
          ∙ (append_assoc (units_text world) (sums_text attr world.rows) (sum_text world.rows attr)
          ∙ ap (λ xs. units_text world ++ xs) (sym (sums_more world.rows attr))));
      short = omega (arith, held.short, c.push_signed_behind.ensures.length);
    }
