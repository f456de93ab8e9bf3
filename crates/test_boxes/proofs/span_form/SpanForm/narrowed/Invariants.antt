use Rattle.std.proofs.Common.{◌≡◌, ◌≤◌, ◌&&◌, ℤ, List, Option, min, take}
use Rattle.std.specs.List.{list_all}
use Rattle.sgl_typed.specs.Value.{Context}
use Rattle.sgl_typed.specs.declared.script.Attr.{Attr}
use Rattle.sgl_typed.specs.declared.script.TTest.{TTest}
use Rattle.sgl_evaluate.specs.Rights.{AreRights, right_of}
use Rattle.test_boxes.specs.Forms.{IsSpanForm, passes_bound}
use Rattle.test_boxes.specs.Ranges.{holds}
use Rattle.test_boxes.proofs.span_form.SpanForm.narrowed.Given as goal

abbrev pub invariant-loop-place : goal.invariant-loop-place
invariant-loop-place l = record {
  count : l.place ≤ min l.self.count 16;
  so_far : (c : Context) (tests : List TTest) (axis : Option Attr) (d : TTest) (v : ℤ) → IsSpanForm l.self axis tests → AreRights c tests l.rights
      → holds l.span v ≡ (holds l.fn.ends v && list_all (passes_bound (right_of c) tests d v) (take l.place l.self.others));
}
