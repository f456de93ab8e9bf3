use Rattle.std.proofs.Common.{◌≡◌, ◌≤◌, drop, length, map, min, take}
use Rattle.sgl_evaluate.specs.Frame.{context_of}
use Rattle.sgl_evaluate.specs.Rights.{first_fault_of, right_of}
use Rattle.sgl_evaluate.proofs.rights.Rights.fill.Given as goal

abbrev pub invariant-loop-number : goal.invariant-loop-number
invariant-loop-number l = record {
  size : length l.self.numbers ≡ 16;
  few : l.number ≤ min (length l.tests) 16;
  read : take l.number l.self.numbers ≡ map (right_of (context_of l.frame)) (take l.number l.tests);
  first : first_fault_of (context_of l.frame) (drop l.number l.tests) ≡ first_fault_of (context_of l.frame) l.tests;
}
