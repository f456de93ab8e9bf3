use Rattle.std.proofs.Common.{◌≡◌, ◌<◌, ℕ, length}
use Rattle.std.specs.Prelude.{slice_index_or}
use Rattle.sgl_typed.specs.declared.script.TTest.{TTest}
use Rattle.sgl_typed.specs.Aggregate.{right_side}
use Rattle.sgl_evaluate.specs.Forms.{IsFormOf}
use Rattle.sgl_evaluate.specs.declared.forms.Form.{Form}
use Rattle.sgl_evaluate.proofs.forms.RightForms.of.Given as goal

abbrev pub invariant-loop-number : goal.invariant-loop-number
invariant-loop-number l = record {
  size : length l.forms ≡ 16;
  each : (i : ℕ) (d : Form) (e : TTest) → i < l.number → IsFormOf (slice_index_or l.forms i d) l.args (right_side (slice_index_or l.tests i e));
}
