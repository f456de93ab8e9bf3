use Rattle.std.proofs.Common.{◌≡◌, ◌-◌, ◌++◌, [], None}
use Rattle.index_set.specs.Aims.{rows_of}
use Rattle.index_set.specs.Others.{others_rest}
use Rattle.index_set.proofs.others.Others.step.Given as goal

abbrev pub invariant-groups : goal.invariant-groups
invariant-groups l = record {
  rest : rows_of l.row ++ others_rest l.self ≡ rows_of l.initial.row ++ others_rest l.initial.self;
  spent : l.row ≡ None → l.self.strip ≡ [];
}

abbrev pub decreases-groups : goal.decreases-groups
decreases-groups l = l.self.end - l.self.next
