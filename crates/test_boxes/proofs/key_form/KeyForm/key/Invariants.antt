use Rattle.std.proofs.Common.{◌≡◌, ◌≤◌, List, length, map, min, take}
use Rattle.sgl_typed.specs.Value.{Context}
use Rattle.sgl_typed.specs.declared.script.TTest.{TTest}
use Rattle.row_groups.specs.Keys.{four_of}
use Rattle.sgl_evaluate.specs.Rights.{AreRights, right_of}
use Rattle.test_boxes.specs.declared.reading.Reading.{Reading}
use Rattle.test_boxes.specs.Forms.{IsKeyForm}
use Rattle.test_boxes.specs.Readings.{grouping}
use Rattle.test_boxes.proofs.key_form.KeyForm.key.Given as goal

abbrev pub invariant-loop-place : goal.invariant-loop-place
invariant-loop-place l = record {
  size : length l.self.numbers ≡ 4;
  count : l.place ≤ min l.self.count 4;
  so_far : (c : Context) (tests : List TTest) (how : Reading) → IsKeyForm l.self how tests → AreRights c tests l.rights
      → l.key ≡ four_of (map (right_of c) (take l.place (grouping how tests)));
}
