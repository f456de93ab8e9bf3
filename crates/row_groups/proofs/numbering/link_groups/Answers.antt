use Rattle.std.proofs.Common.{◌<◌, length, refl, arith}
use Rattle.std.proofs.lemmas.List.Elements.{All-get_or}
use Rattle.row_groups.proofs.Linking.{not_linked, linked_more}
use Rattle.row_groups.proofs.numbering.link_groups.Goals as goal

pub link-requires-clause-free : goal.link-requires-clause-free
link-requires-clause-free c = λ linked.
    not_linked c.loop-row.links c.args.groups.now (length c.args.groups.now) c.args.count c.loop-row.row (omega arith) c.loop-row.invariant linked

pub loop-row-preserved : goal.loop-row-preserved
loop-row-preserved c =
    linked_more c.loop-row.links c.link.new.self c.args.groups.now (length c.args.groups.now) c.args.count c.loop-row.row _ c.loop-row-test.true
    (All-get_or (λ g. g < c.args.count) c.args.groups.now c.loop-row.row 0 c.loop-row-test.true c.requires.below) refl c.loop-row.invariant c.link.ensures
