use Rattle.extreme_sweep.proofs.along.columns_of.Goals as goal

pub returns : goal.returns
returns c = record {
  along = c.in_ok-ranks.ensures;
  groups_are = c.in_ok-groups.ensures;
}
