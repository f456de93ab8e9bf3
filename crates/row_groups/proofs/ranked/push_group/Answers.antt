-- One row of the group more.
use Rattle.std.proofs.Common.{◌++◌, ◌∷◌, [], ◌<◌, ◌∙◌, List, ℕ, ap, append_assoc, length, map, subst, sym}
use Rattle.std.specs.Prelude.{All}
use Rattle.std.proofs.lemmas.List.{map-append}
use Rattle.std.proofs.lemmas.List.Elements.{All-head, All-push, All-tail}
use Rattle.row_groups.specs.declared.ranked.Ranked.{Ranked}
use Rattle.row_groups.specs.Ranked.{IsAcross, ranked_row}
use Rattle.row_groups.proofs.ranked.push_group.Goals as goal

pub loop-row-preserved : goal.loop-row-preserved
loop-row-preserved c =
    let row = c.in-Some.row in
    let before = c.loop-row.yielded in
    let first = c.args.ranked.now.items in
    let ranked = ranked_row c.args.axis c.args.across c.args.world.now.world c.args.group in
    let Within : List ℕ → Type 0 = λ l. All (λ n. n < length c.args.world.now.world.rows) l in
    let Each : List Ranked → Type 0 = λ l. All (IsAcross c.args.across c.args.world.now.world) l in
    let here = subst Within c.in-Some.ensures.steps c.loop-row.invariant.within in
    record {
      made = c.in_ok-push.ensures.items
          ∙ (λ i. c.loop-row.invariant.made i ++ record { group = c.args.group; value = c.along-value.ensures i; across = c.along-across.ensures i; row = row } ∷ [])
          ∙ append_assoc first (map ranked before) (ranked row ∷ [])
          ∙ ap (λ l. first ++ l) (sym (map-append ranked before (row ∷ [])));
      each = subst Each (sym c.in_ok-push.ensures.items) (All-push (IsAcross c.args.across c.args.world.now.world) c.loop-row.ranked.items _ c.loop-row.invariant.each (All-head (λ n. n < length c.args.world.now.world.rows) row c.next.new.self here, c.along-across.ensures));
      split = c.loop-row.invariant.split ∙ ap (λ l. before ++ l) c.in-Some.ensures.steps ∙ sym (append_assoc before (row ∷ []) c.next.new.self);
      within = All-tail (λ n. n < length c.args.world.now.world.rows) row c.next.new.self here;
    }
