use Rattle.std.proofs.Common.{pos, map, ap, ◌∙◌}
use Rattle.key_table.proofs.Told.{told_keys}
use Rattle.key_table.proofs.table.KeyTable.without_ranks.Goals as goal

pub returns : goal.returns
returns c = ap (map pos) c.of.ensures ∙ told_keys c.args.world.now.world
