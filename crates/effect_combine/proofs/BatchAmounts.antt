-- What a batch holds for each cell where the amounts of items were added to it.
use Rattle.std.proofs.Common.{◌≡◌, ℕ, ◌==◌, ◌&&◌, cond, Bool, true, false, List, [], ◌∷◌, refl, sym, ap, ◌∙◌, arith}
use Rattle.std.proofs.lemmas.Bool.Decides.{nat_tests}
use Rattle.sgl_values.specs.Amounts.{Amount}
use Rattle.sgl_values.specs.Cells.{amounts}
use Rattle.sgl_values.specs.declared.fault.Tag.{Tag}
use Rattle.sgl_values.specs.declared.item.Item.{Item}
use Rattle.sgl_values.specs.declared.item.Item.TheVariants.{Effect, Faulty}
use Rattle.effect_combine.specs.Words.{start_of, merged, word_of, word_for}
use Rattle.effect_combine.specs.Batch.{is_at, with_word, with_items, held_for}
use Rattle.effect_combine.specs.Combined.{tag_at}
use Rattle.effect_combine.specs.Laws.{BatchesHoldAmounts}
use Rattle.effect_combine.specs.declared.cell.Cell.{Cell}
use Rattle.effect_combine.proofs.BatchLemmas.{held_for-taken, held_for-others}
use Rattle.effect_combine.proofs.Merging.{merged_assoc, merged_free, start_start, start_merged}

same_row : (r a row attr : ℕ) → ((r == row) && (a == attr)) ≡ true → r ≡ row
same_row r a row attr same = grind (arith, nat_tests)

same_attr : (r a row attr : ℕ) → ((r == row) && (a == attr)) ≡ true → a ≡ attr
same_attr r a row attr same = grind (arith, nat_tests)

-- the start adds nothing to what is held
start_cases : (tag : Tag) (word held : ℕ) (b : Bool) → merged tag (start_of tag) held ≡ held → merged tag (start_of tag) (cond b (merged tag word held) held) ≡ cond b (merged tag word held) held
start_cases tag word held true none = start_merged tag word held none
start_cases tag word held false none = none

pub start-held : (tag : Tag) (cells : List Cell) (row attr : ℕ) → merged tag (start_of tag) (held_for tag cells row attr) ≡ held_for tag cells row attr
start-held tag [] row attr = start_start tag
start-held tag (cell ∷ cells) row attr = start_cases tag cell.word (held_for tag cells row attr) (is_at row attr cell) (start-held tag cells row attr)

-- one more word for a cell, and for no other
pub held-more : (tags : List Tag) (r a word : ℕ) (cells : List Cell) (row attr : ℕ) (b : Bool) → ((r == row) && (a == attr)) ≡ b
    → held_for (tag_at tags attr) (with_word (tag_at tags a) r a word cells) row attr
    ≡ cond b (merged (tag_at tags attr) word (held_for (tag_at tags attr) cells row attr)) (held_for (tag_at tags attr) cells row attr)
held-more tags r a word cells row attr true is =
    let row_is = same_row r a row attr is in
    let attr_is = same_attr r a row attr is in
    (λ i. held_for (tag_at tags (sym attr_is i)) (with_word (tag_at tags a) r a word cells) (sym row_is i) (sym attr_is i))
    ∙ held_for-taken (tag_at tags a) r a word cells
    ∙ (λ i. merged (tag_at tags (attr_is i)) word (held_for (tag_at tags (attr_is i)) cells (row_is i) (attr_is i)))
held-more tags r a word cells row attr false is = held_for-others (tag_at tags a) r a word (tag_at tags attr) row attr is cells

-- an amount for the cell, or for another
one_more : (tags : List Tag) (r a row attr : ℕ) (amount : Amount) (rest : List Amount) (held : ℕ) (b : Bool) → ((r == row) && (a == attr)) ≡ b
    → merged (tag_at tags attr) (word_for (tag_at tags attr) rest) (cond b (merged (tag_at tags attr) (word_of (tag_at tags a) amount) held) held)
    ≡ merged (tag_at tags attr) (word_for (tag_at tags attr) (cond b (amount ∷ rest) rest)) held
one_more tags r a row attr amount rest held true is =
    let tag : Tag = tag_at tags attr in
    let word : ℕ = word_of (tag_at tags a) amount in
    merged_free tag (word_for tag rest) word held
    ∙ sym (merged_assoc tag word (word_for tag rest) held)
    ∙ ap (λ (n : ℕ). merged tag (merged tag (word_of (tag_at tags n) amount) (word_for tag rest)) held) (same_attr r a row attr is)
one_more tags r a row attr amount rest held false is = refl

held_with : (tags : List Tag) (items : List Item) (cells : List Cell) (row attr : ℕ)
    → held_for (tag_at tags attr) (with_items tags items cells) row attr
    ≡ merged (tag_at tags attr) (word_for (tag_at tags attr) (amounts items row attr)) (held_for (tag_at tags attr) cells row attr)
held_with tags [] cells row attr = sym (start-held (tag_at tags attr) cells row attr)
held_with tags (Effect r a amount ∷ items) cells row attr =
    let tag : Tag = tag_at tags attr in
    let word : ℕ = word_of (tag_at tags a) amount in
    let b : Bool = (r == row) && (a == attr) in
    held_with tags items (with_word (tag_at tags a) r a word cells) row attr
    ∙ ap (merged tag (word_for tag (amounts items row attr))) (held-more tags r a word cells row attr b refl)
    ∙ one_more tags r a row attr amount (amounts items row attr) (held_for tag cells row attr) b refl
held_with tags (Faulty fault ∷ items) cells row attr = held_with tags items cells row attr

-- the start is what no cell holds
word_start : (tag : Tag) (amounts : List Amount) → merged tag (word_for tag amounts) (start_of tag) ≡ word_for tag amounts
word_start tag [] = start_start tag
word_start tag (amount ∷ amounts) = merged_assoc tag (word_of tag amount) (word_for tag amounts) (start_of tag) ∙ ap (merged tag (word_of tag amount)) (word_start tag amounts)

pub held_is : BatchesHoldAmounts
held_is tags items row attr = held_with tags items [] row attr ∙ word_start (tag_at tags attr) (amounts items row attr)
