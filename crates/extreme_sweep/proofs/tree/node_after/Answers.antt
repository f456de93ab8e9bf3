use Rattle.std.proofs.lemmas.List.{get_or_read}
use Rattle.std.specs.Prelude.{Option, None, IfSome}
use Rattle.std.proofs.Common.{subst}
use Rattle.extreme_sweep.specs.declared.node.Node.{Node}
use Rattle.extreme_sweep.specs.Tree.{Replaces}
use Rattle.extreme_sweep.proofs.Blocks.{block-replaced}
use Rattle.extreme_sweep.proofs.tree.node_after.Goals as goal

pub returns-in-Some : goal.returns-in-Some
returns-in-Some c =
    let places = c.args.places.now in let i = c.args.i in
    let at = get_or_read places i c.index-places-i.result c.requires.inside c.index-places-i.is None in
    let replaces = subst (λ (o : Option Node). IfSome o (Replaces c.args.node.now c.args.left c.index-places-i.result)) c.in-Some.is c.replaced.ensures in
    block-replaced places i c.args.left c.index-places-i.result c.args.node.now c.in-Some.node c.requires.inside at replaces c.requires.before
