use Rattle.std.proofs.Common.{pos, map, ap, sym, ◌∙◌}
use Rattle.key_table.proofs.Told.{told_keys}
use Rattle.key_table.proofs.table.KeyTable.build.Goals as goal

pub invariant_of-result : goal.invariant_of-result
invariant_of-result c =
    c.in_ok-ranks.ensures
    ∙ c.in_ok-keys_in.ensures.keys
    ∙ sym (ap (map pos) c.of.ensures ∙ told_keys c.args.world.now.world)

pub returns : goal.returns
returns c = ap (map pos) c.of.ensures ∙ told_keys c.args.world.now.world
