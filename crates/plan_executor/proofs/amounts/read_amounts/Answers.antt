use Rattle.plan_executor.proofs.amounts.read_amounts.Goals as goal

pub read_amount-requires : goal.read_amount-requires
read_amount-requires c = λ k below own. record {
  below = below;
  row = c.requires.inside.is k own;
  target = c.requires.targets k own;
  held = c.requires.held k own;
}
