-- One row of the group more.
use Rattle.std.proofs.Common.{◌++◌, ◌∷◌, [], ◌<◌, ◌∙◌, List, ℕ, ap, append_assoc, length, subst, sym}
use Rattle.std.specs.Prelude.{All}
use Rattle.std.proofs.lemmas.List.{map-append}
use Rattle.std.proofs.lemmas.List.Elements.{All-tail}
use Rattle.sgl_values.specs.World.{row_at}
use Rattle.row_groups.proofs.points.group_points.Goals as goal

pub loop-row-preserved : goal.loop-row-preserved
loop-row-preserved g c =
    let row = c.in-Some.row in
    let before = c.loop-row.yielded in
    let point = λ (n : ℕ). g.P.PointAttrs.make c.args.attrs.now (row_at c.args.world.now.world n) in
    let Within : List ℕ → Type 0 = λ l. All (λ n. n < length c.args.world.now.world.rows) l in
    record {
      made = c.in_ok-push.ensures.items
          ∙ (λ i. c.loop-row.invariant.made i ++ c.point_at.ensures i ∷ [])
          ∙ sym (map-append point before (row ∷ []));
      split = c.loop-row.invariant.split ∙ ap (λ l. before ++ l) c.in-Some.ensures.steps ∙ sym (append_assoc before (row ∷ []) c.next.new.self);
      within = All-tail (λ n. n < length c.args.world.now.world.rows) row c.next.new.self (subst Within c.in-Some.ensures.steps c.loop-row.invariant.within);
    }
