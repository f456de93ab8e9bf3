use Rattle.std.proofs.Common.{ap, sym, ◌∙◌}
use Rattle.std.specs.Option.{option_copied}
use Rattle.index_set.proofs.prepared.use_at.Goals as goal

pub returns-then-found-node : goal.returns-then-found-node
returns-then-found-node c = record {
  number = c.args.number;
  at = sym c.get.ensures ∙ ap option_copied c.in-Some.is;
  of = c.if-found-node.true;
}
