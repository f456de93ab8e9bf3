-- Gives that stand for items, and the words of cells.
use Rattle.std.proofs.Common.{◌≡◌, ℕ, ◌==◌, ◌&&◌, cond, Bool, true, false, List, [], ◌∷◌, ◌++◌, length, sym, refl, ap, ◌∙◌}
use Rattle.std.proofs.lemmas.Nat.{mod-mul-add}
use Rattle.sgl_values.specs.Amounts.{Amount}
use Rattle.sgl_values.specs.Cells.{amounts}
use Rattle.sgl_values.specs.declared.fault.Tag.{Tag}
use Rattle.sgl_values.specs.declared.item.Item.{Item}
use Rattle.sgl_values.specs.declared.item.Item.TheVariants.{Effect, Faulty}
use Rattle.effect_combine.specs.Words.{merged, word_of, word_for}
use Rattle.effect_combine.specs.Combined.{tag_at}
use Rattle.tick_core.specs.Core.{word_number}
use Rattle.tick_core.specs.Laws.{CellsHaveWords, GivesJoin}
use Rattle.tick_core.proofs.Gathering.{gathered-append, total_merged-append}

pub tag_of-word_number : CellsHaveWords
tag_of-word_number tags row attr inside = ap (tag_at tags) (mod-mul-add row (length tags) attr inside)

cond-append : (b : Bool) (amount : Amount) (xs ys : List Amount) → cond b (amount ∷ (xs ++ ys)) (xs ++ ys) ≡ cond b (amount ∷ xs) xs ++ ys
cond-append true amount xs ys = refl
cond-append false amount xs ys = refl

pub amounts-append : (items more : List Item) (row attr : ℕ) → amounts (items ++ more) row attr ≡ amounts items row attr ++ amounts more row attr
amounts-append [] more row attr = refl
amounts-append (Effect r a amount ∷ items) more row attr =
    ap (λ (l : List Amount). cond ((r == row) && (a == attr)) (amount ∷ l) l) (amounts-append items more row attr)
    ∙ cond-append ((r == row) && (a == attr)) amount (amounts items row attr) (amounts more row attr)
amounts-append (Faulty fault ∷ items) more row attr = amounts-append items more row attr

pub gives-joined : GivesJoin
gives-joined rows tags gives others items more first second row attr row_in attr_in =
    let tag : Tag = tag_at tags attr in
    gathered-append tag (word_number tags row attr) gives others
    ∙ (λ k. merged tag (first row attr row_in attr_in k) (second row attr row_in attr_in k))
    ∙ sym (total_merged-append tag (word_of tag) (amounts items row attr) (amounts more row attr))
    ∙ ap (word_for tag) (sym (amounts-append items more row attr))
