use Rattle.std.proofs.Common.{◌++◌, drop, sym, ◌∙◌, ap}
use Rattle.std.proofs.lemmas.List.{take-append-drop}
use Rattle.indexmap.specs.IndexMap.{get_by_text}
use Rattle.sgl_types.proofs.Places.{fewer}
use Rattle.sgl_types.proofs.names.Names.truncate.Goals as goal

pub invariant_of-self : goal.invariant_of-self
invariant_of-self c =
    fewer (get_by_text c.self.inside.index) c.self.inside.names.items c.truncate.new.self.items (drop c.args.count c.self.inside.names.items)
    (sym (take-append-drop c.args.count c.self.inside.names.items) ∙ ap (λ few. few ++ drop c.args.count c.self.inside.names.items) (sym c.truncate.ensures.items)) c.self.invariant
