use Rattle.std.proofs.Common.{map, take, ap, ◌∙◌, sym}
use Rattle.std.proofs.lemmas.List.{take-map}
use Rattle.sgl_types.proofs.table.Table.truncate.Goals as goal

pub invariant_of-self : goal.invariant_of-self
invariant_of-self g c =
    c.truncate.ensures ∙ ap (take c.args.count) c.self.invariant ∙ take-map g.T.Named.name_of c.args.count c.self.inside.entries.items ∙ ap (map g.T.Named.name_of) (sym c.truncate-2.ensures.items)
