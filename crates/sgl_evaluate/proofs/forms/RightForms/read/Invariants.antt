use Rattle.std.proofs.Common.{◌≡◌, ◌<◌, ℕ, ℤ, length}
use Rattle.std.specs.Prelude.{slice_index_or}
use Rattle.sgl_values.specs.declared.fault.Val.TheVariants.{N}
use Rattle.sgl_evaluate.specs.Forms.{form_value, IsRecent}
use Rattle.sgl_evaluate.specs.Frame.{context_of}
use Rattle.sgl_evaluate.specs.declared.forms.Form.{Form}
use Rattle.sgl_evaluate.proofs.forms.RightForms.read.Given as goal

abbrev pub invariant-loop-number : goal.invariant-loop-number
invariant-loop-number l = record {
  recent : IsRecent l.recent (context_of l.frame).unit;
  size : length l.rights.numbers ≡ 16;
  each : (i : ℕ) (d : Form) (e : ℤ) → i < l.number → form_value (slice_index_or l.self.forms i d) (context_of l.frame).unit ≡ N (slice_index_or l.rights.numbers i e);
}
