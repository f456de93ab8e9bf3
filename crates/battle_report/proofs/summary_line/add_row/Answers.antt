use Rattle.std.proofs.Common.{rules, ◌∙◌, ◌+ℤ◌, ◌≤◌, ◌≡◌, FitsSigned, w64, pos, get_or, subst, sym, unsigned_abs, arith, ℤ}
use Rattle.std.proofs.lemmas.Int.{to_z-of_z}
use Rattle.sgl_values.specs.World.{row_at}
use Rattle.battle_report.proofs.Sums.{one_added, others_stay}
use Rattle.battle_report.proofs.summary_line.add_row.Goals as goal

pub loop-attr-preserved : goal.loop-attr-preserved
loop-attr-preserved c =
    let sums = c.loop-attr.sums in
    let old = c.args.sums.now in
    let attr = c.loop-attr.attr in
    let sum = get_or sums attr (pos 0) in
    let values = (row_at c.args.world.now.world c.args.row).values in
    let inv = c.loop-attr.invariant in
    let here : sum ≡ get_or old attr (pos 0) = inv.ahead attr (omega arith) in
    let room : unsigned_abs sum ≤ 65536000000000000 = subst (λ (z : ℤ). unsigned_abs z ≤ 65536000000000000) (sym here) (c.requires.room attr (pos 0) (omega arith)) in
    let fits : FitsSigned w64 sum = search rules in
    let whole : FitsSigned w64 c.plus.result = search rules in
    let is = to_z-of_z w64 c.plus.result whole ∙ c.plus.ensures ∙ (λ i. to_z-of_z w64 sum fits i +ℤ c.at.ensures i) in
    record {
      added = λ k below. one_added sums old values attr _ (omega arith) is inv.added here k (omega (arith, below));
      ahead = λ k past. others_stay sums old attr _ inv.ahead k (omega (arith, past));
    }
