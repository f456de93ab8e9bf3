-- What is put at its place is put among all cells.
use Rattle.std.proofs.Common.{◌≡◌, ◌∙◌, ◌<◌, ◌++◌, ◌∷◌, List, true, false, length, take, drop, sym, ap, subst, arith}
use Rattle.std.proofs.lemmas.Grind.{common_steps}
use Rattle.effect_combine.specs.Places.{Puts, is_held_at}
use Rattle.effect_combine.specs.declared.cell.Cell.{Cell}
use Rattle.effect_combine.specs.declared.cell.Added.TheVariants.{Kept}
use Rattle.effect_combine.proofs.Putting.{put_held, put_full, put_new}
use Rattle.effect_combine.proofs.places.put_word.Goals as goal

pub returns-then-stands_at-clause-put : goal.returns-then-stands_at-clause-put
returns-then-stands_at-clause-put c =
    let cells = c.args.cells.now.items in
    let held : is_held_at cells c.args.put.row c.args.put.attr c.args.place ≡ true =
    ap (λ (l : List Cell). is_held_at l c.args.put.row c.args.put.attr c.args.place) (sym c.as_slice.ensures.value) ∙ sym c.stands_at.ensures ∙ c.if-stands_at.true in
    put_held c.args.tag c.args.put.row c.args.put.attr c.args.put.word cells c.args.place c.requires.place c.merge-word.result c.index.result.now held c.index.ensures c.merge-word.ensures

pub returns-then-len-clause-put : goal.returns-then-len-clause-put
returns-then-len-clause-put c =
    let cells = c.args.cells.now.items in
    let away : is_held_at cells c.args.put.row c.args.put.attr c.args.place ≡ false =
    ap (λ (l : List Cell). is_held_at l c.args.put.row c.args.put.attr c.args.place) (sym c.as_slice.ensures.value) ∙ sym c.stands_at.ensures ∙ c.if-stands_at.false in
    put_full c.args.tag c.args.put.row c.args.put.attr c.args.put.word cells c.args.place c.requires.place c.requires.rising away c.requires.few (omega arith)

pub returns-clause-put : goal.returns-clause-put
returns-clause-put c =
    let cells = c.args.cells.now.items in
    let away : is_held_at cells c.args.put.row c.args.put.attr c.args.place ≡ false =
    ap (λ (l : List Cell). is_held_at l c.args.put.row c.args.put.attr c.args.place) (sym c.as_slice.ensures.value) ∙ sym c.stands_at.ensures ∙ c.if-stands_at.false in
    let few : length cells < 256 = omega arith in
    let ok = c.insert.ensures.succeeds (omega arith) in
    let items : c.insert.new.self.items ≡ take c.args.place cells ++ c.args.put ∷ drop c.args.place cells = grind (arith, common_steps, ok) in
    subst (Puts cells c.args.tag c.args.put Kept) (sym items)
    (put_new c.args.tag c.args.put.row c.args.put.attr c.args.put.word cells c.args.place c.requires.place away few)
