use Rattle.std.proofs.Common.{ap, length, sym}
use Rattle.std.proofs.lemmas.Nat.{mod-mul-add}
use Rattle.effect_combine.specs.Combined.{tag_at}
use Rattle.effect_board.proofs.words.tag_of.Goals as goal

pub returns : goal.returns
returns c =
    let tags = c.args.tags.now in
    sym (ap (tag_at tags) (mod-mul-add c.args.row (length tags) c.args.attr c.requires))
