use Rattle.std.proofs.Common.{◌≡◌, ◌≢◌, ◌<◌, ◌+◌, ◌==◌, ℕ, Bool, true, false, Decides, refl, ap, ◌∙◌, arith, length, slice_set}
use Rattle.std.proofs.lemmas.Bool.{false≢true}
use Rattle.std.proofs.lemmas.Bool.Decides.{Decides-eqb}
use Rattle.std.proofs.lemmas.List.{get_or-set_same, get_or-set_other, length-set}
use Rattle.plan_executor.specs.Clauses.{target_of}
use Rattle.plan_executor.proofs.aiming.own_rows.Goals as goal

pub loop-row-preserved : goal.loop-row-preserved
loop-row-preserved c = record {
  long = length-set c.loop-row.rows c.loop-row.row c.saturating_add.result ∙ c.loop-row.invariant.long;
  done = λ k lt inside. step c k lt inside (k == c.loop-row.row) (Decides-eqb k c.loop-row.row);
}
  where
    step : (c : goal.After-saturating_add) (k : ℕ) → k < c.loop-row.row + 1 → c.args.first + k < 4294967296 → (t : Bool) → Decides t (k ≡ c.loop-row.row)
        → target_of (slice_set c.loop-row.rows c.loop-row.row c.saturating_add.result) k ≡ c.args.first + k
    step c k lt inside true d =
        let same : k ≡ c.loop-row.row = d.0 refl in
        ap (target_of (slice_set c.loop-row.rows c.loop-row.row c.saturating_add.result)) same
        ∙ get_or-set_same c.loop-row.rows c.loop-row.row c.saturating_add.result 0 (omega (arith, c.loop-row-test.true, c.loop-row.invariant.long))
        ∙ omega (arith, c.saturating_add.ensures, same, inside)
    step c k lt inside false d =
        let apart : k ≢ c.loop-row.row = λ e. false≢true (d.1 e) in
        get_or-set_other c.loop-row.rows c.loop-row.row k c.saturating_add.result 0 apart ∙ c.loop-row.invariant.done k (omega (arith, lt, apart)) inside
