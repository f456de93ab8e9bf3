use Rattle.std.proofs.Common.{sym, ◌∙◌}
use Rattle.indexmap.specs.IndexMap.{get_by_text}
use Rattle.sgl_types.proofs.Places.{told-place, told-stale}
use Rattle.sgl_types.proofs.names.find.Goals as goal

pub returns-then-stands_at : goal.returns-then-stands_at
returns-then-stands_at c =
    told-place (get_by_text c.args.index.now) c.args.names.now c.args.name.now c.in-Some.at c.requires (sym c.hint.ensures ∙ c.in-Some.is) (sym c.stands_at.ensures ∙ c.if-stands_at.true)

pub returns-else-stands_at : goal.returns-else-stands_at
returns-else-stands_at c =
    told-stale (get_by_text c.args.index.now) c.args.names.now c.args.name.now c.in-Some.at c.requires (sym c.hint.ensures ∙ c.in-Some.is) (sym c.stands_at.ensures ∙ c.if-stands_at.false)
