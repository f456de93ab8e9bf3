-- The world that is published is the next entry; where it was refused, it waits there.
use Rattle.std.proofs.Common.{◌≡◌, ◌+◌, ◌∙◌, List, [], ◌∷◌, ◌++◌, drop, refl, sym, subst}
use Rattle.std.specs.Prelude.{All}
use Rattle.std.proofs.lemmas.List.Elements.{All-push}
use Rattle.left_right.specs.Sides.{view}
use Rattle.sgl_values.specs.World.{World}
use Rattle.world_publish.specs.declared.showing.Showing.{Showing}
use Rattle.world_publish.specs.Showing.{IsEntry, IsShown, Waits}
use Rattle.world_publish.proofs.Publishing.{publishes, refused}
use Rattle.world_publish.proofs.publisher.Publisher.published.Goals as goal

pub publish_as-writer-requires : goal.publish_as-writer-requires
publish_as-writer-requires g c next is =
    let old = c.self.inside in
    let writer = c.append.new.self in
    let all : List World = g.C.Course.worlds in
    let op : Showing = record { world = c.in-Ok.world; position = old.next } in
    let entry : IsEntry all old.next c.args.world.world = rw c.self.view_is c.requires in
    let counted : writer.desk.shown.value.position + 1 ≡ old.next = rw c.in-Ok-append.ensures.desk c.self.invariant.0 in
    publishes all writer.desk.place.id (view writer.desk.place) writer.desk.shown.value next op c.args.world (drop old.writer.behind old.writer.log.items) (drop writer.behind writer.log.items)
    entry c.in-Ok.ensures.ok counted c.in-Ok-append.ensures.pending is

pub of-requires-in-Err-published-clause-pending : goal.of-requires-in-Err-published-clause-pending
of-requires-in-Err-published-clause-pending g c =
    let old = c.self.inside in
    let kept = c.self.invariant in
    let all : List World = g.C.Course.worlds in
    let writer = c.publish_as-writer.result.0 in
    let op : Showing = record { world = c.in-Ok.world; position = old.next } in
    let values = refused _ _ c.publish_as-writer.result.1 c.in-Err-published.error c.in-Err-published.is c.publish_as-writer.ensures.values in
    let entry : IsEntry all old.next c.args.world.world = rw c.self.view_is c.requires in
    let shows : IsShown all op = subst (λ t. IsEntry all old.next t.world) (sym c.in-Ok.ensures.ok) entry in
    let list : drop writer.behind writer.log.items ≡ drop old.writer.behind old.writer.log.items ++ op ∷ [] = values.1 ∙ c.in-Ok-append.ensures.pending in
    subst (All (Waits all old.next)) (sym list) (All-push (Waits all old.next) (drop old.writer.behind old.writer.log.items) op kept.2 (refl, shows))
