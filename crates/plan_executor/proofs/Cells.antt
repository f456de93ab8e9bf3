-- Cells of a batch, and the gives that they become.
use Rattle.std.proofs.Common.{◌≡◌, ℕ, zero, suc, ◌<◌, get_or, ◌==◌, ◌&&◌, cond, Bool, true, false, true≢false, List, [], ◌∷◌, ◌++◌, length, map, sym, ap, ◌∙◌, refl, subst, arith, append_assoc}
use Rattle.std.proofs.lemmas.Bool.Decides.{nat_tests}
use Rattle.std.proofs.lemmas.List.{append-nil}
use Rattle.std.proofs.lemmas.List.Elements.{All-same}
use Rattle.sgl_values.specs.Amounts.{Amount}
use Rattle.sgl_values.specs.Cells.{amounts}
use Rattle.sgl_values.specs.declared.fault.Tag.{Tag}
use Rattle.sgl_values.specs.declared.item.Item.{Item}
use Rattle.sgl_values.specs.declared.item.Item.TheVariants.{Effect}
use Rattle.effect_combine.specs.Batch.{Held, Takes, held_for, is_full_for, with_word}
use Rattle.effect_combine.specs.Combined.{tag_at}
use Rattle.effect_combine.specs.Words.{start_of, merged, word_of, word_for}
use Rattle.effect_combine.specs.declared.cell.Added.{Added}
use Rattle.effect_combine.specs.declared.cell.Added.TheVariants.{Kept, Full}
use Rattle.effect_combine.specs.declared.cell.Cell.{Cell}
use Rattle.effect_combine.proofs.BatchAmounts.{held-more}
use Rattle.effect_combine.proofs.BatchLemmas.{All-with_word}
use Rattle.effect_combine.proofs.Merging.{merged_assoc, merged_comm}
use Rattle.tick_core.specs.Core.{word_number}
use Rattle.tick_core.specs.Fair.{gathered}
use Rattle.tick_core.specs.Standing.{StandForItems}
use Rattle.tick_core.specs.declared.event.Give.{Give}
use Rattle.tick_core.proofs.Gathering.{gathered-append, start-gathered, total_merged-append}
use Rattle.tick_core.proofs.Standing.{amounts-append}
use Rattle.effect_board.specs.Views.{IsOnBoard, cell_of, give_of_cell, giving, giving_all}
use Rattle.effect_board.specs.declared.view.View.{View}
use Rattle.effect_board.proofs.Deposits.{cells_given}
use Rattle.plan_executor.specs.Giving.{StandTogether, IsGiven}

-- more gives behind those that there are
gave_more : (rows : ℕ) (tags : List Tag) (start old new : View) (cells left : List Cell) (items all : List Item) (more : List Give) → new ≡ giving_all old more
    → (given : IsGiven rows tags start old cells items) → StandTogether rows tags (given.gives ++ more) left all → IsGiven rows tags start new left all
gave_more rows tags start old new cells left items all more is given stand = record {
  gives = given.gives ++ more;
  added = is ∙ ap (λ (v : View). giving_all v more) given.added ∙ ap (λ (l : List Give). record start { gives = l }) (append_assoc start.gives given.gives more);
  stand = stand;
}

-- a deposit
pub deposited : (rows : ℕ) (tags : List Tag) (start old new : View) (cells : List Cell) (items : List Item) → IsOnBoard rows tags cells
    → new ≡ giving_all old (map (give_of_cell tags) cells) → IsGiven rows tags start old cells items → IsGiven rows tags start new [] items
deposited rows tags start old new cells items on is given =
    let more : List Give = map (give_of_cell tags) cells in
    gave_more rows tags start old new cells [] items items more is given (λ row attr row_in attr_in.
    let tag : Tag = tag_at tags attr in
    let word : ℕ = word_number tags row attr in
    merged_comm tag (gathered tag word (given.gives ++ more)) (start_of tag)
    ∙ start-gathered tag word (given.gives ++ more)
    ∙ gathered-append tag word given.gives more
    ∙ ap (merged tag (gathered tag word given.gives)) (cells_given tags cells row attr (λ i d below. (on i d below).1) attr_in)
    ∙ given.stand row attr row_in attr_in)

same_attr : (r row a attr : ℕ) → ((r == row) && (a == attr)) ≡ true → a ≡ attr
same_attr r row a attr same = grind (arith, nat_tests, same)

-- words that are merged in another order
by_one : (tag : Tag) (base held word : ℕ) (amount : Amount) (xs : List Amount) → merged tag base held ≡ word_for tag xs → (b : Bool) → (b ≡ true → word ≡ word_of tag amount)
    → merged tag base (cond b (merged tag word held) held) ≡ word_for tag (xs ++ cond b (amount ∷ []) [])
by_one tag base held word amount xs old true is =
    let w : ℕ = word_of tag amount in
    sym (merged_assoc tag base word held)
    ∙ ap (λ (z : ℕ). merged tag z held) (merged_comm tag base word)
    ∙ merged_assoc tag word base held
    ∙ (λ i. merged tag (is refl i) (old i))
    ∙ total_merged-append tag (word_of tag) (amount ∷ []) xs
    ∙ merged_comm tag (word_for tag (amount ∷ [])) (word_for tag xs)
    ∙ sym (total_merged-append tag (word_of tag) xs (amount ∷ []))
by_one tag base held word amount xs old false is = old ∙ ap (word_for tag) (sym (append-nil xs))

-- the word of one cell
by_cell : (tag : Tag) (word : ℕ) (amount : Amount) (b : Bool) → (b ≡ true → word ≡ word_of tag amount) → cond b (merged tag word (start_of tag)) (start_of tag) ≡ word_for tag (cond b (amount ∷ []) [])
by_cell tag word amount true same = ap (λ (w : ℕ). merged tag w (start_of tag)) (same refl)
by_cell tag word amount false same = refl

-- one more amount in the batch
added_one : (rows : ℕ) (tags : List Tag) (start now : View) (cells : List Cell) (items : List Item) (r a : ℕ) (amount : Amount)
    → IsGiven rows tags start now cells items → IsGiven rows tags start now (with_word (tag_at tags a) r a (word_of (tag_at tags a) amount) cells) (items ++ Effect r a amount ∷ [])
added_one rows tags start now cells items r a amount given = record {
  gives = given.gives;
  added = given.added;
  stand = λ row attr row_in attr_in.
      let tag : Tag = tag_at tags attr in
      let base : ℕ = gathered tag (word_number tags row attr) given.gives in
      let held : ℕ = held_for tag cells row attr in
      let word : ℕ = word_of (tag_at tags a) amount in
      let b : Bool = (r == row) && (a == attr) in
      let old = given.stand row attr row_in attr_in in
      ap (merged tag base) (held-more tags r a word cells row attr b refl)
      ∙ by_one tag base held word amount (amounts items row attr) old b (λ same. ap (λ (t : Tag). word_of t amount) (ap (tag_at tags) (same_attr r row a attr same)))
      ∙ ap (word_for tag) (sym (amounts-append items (Effect r a amount ∷ []) row attr));
}

-- one more amount that is given at once
pub given_one : (rows : ℕ) (tags : List Tag) (start old new : View) (cells : List Cell) (items : List Item) (r a : ℕ) (amount : Amount) → a < length tags
    → new ≡ giving old (give_of_cell tags (cell_of tags r a amount)) → IsGiven rows tags start old cells items → IsGiven rows tags start new cells (items ++ Effect r a amount ∷ [])
given_one rows tags start old new cells items r a amount attr_is is given =
    let cell : Cell = cell_of tags r a amount in
    let more : List Give = give_of_cell tags cell ∷ [] in
    gave_more rows tags start old new cells cells items (items ++ Effect r a amount ∷ []) more is given (λ row attr row_in attr_in.
    let tag : Tag = tag_at tags attr in
    let base : ℕ = gathered tag (word_number tags row attr) given.gives in
    let held : ℕ = held_for tag cells row attr in
    let one : ℕ = held_for tag (cell ∷ []) row attr in
    let b : Bool = (r == row) && (a == attr) in
    let same : b ≡ true → word_of (tag_at tags a) amount ≡ word_of tag amount = λ is. ap (λ (t : Tag). word_of t amount) (ap (tag_at tags) (same_attr r row a attr is)) in
    ap (λ (z : ℕ). merged tag z held) (gathered-append tag (word_number tags row attr) given.gives more ∙ ap (merged tag base) (cells_given tags (cell ∷ []) row attr (λ i d below. alone_in i d below) attr_in))
    ∙ merged_assoc tag base one held
    ∙ ap (merged tag base) (merged_comm tag one held)
    ∙ sym (merged_assoc tag base held one)
    ∙ (λ i. merged tag (given.stand row attr row_in attr_in i) (by_cell tag (word_of (tag_at tags a) amount) amount b same i))
    ∙ sym (total_merged-append tag (word_of tag) (amounts items row attr) (cond b (amount ∷ []) []))
    ∙ ap (word_for tag) (sym (amounts-append items (Effect r a amount ∷ []) row attr)))
  where
    alone_in : (i : ℕ) (d : Cell) → i < 1 → (get_or (cell_of tags r a amount ∷ []) i d).attr < length tags
    alone_in zero d below = attr_is
    alone_in (suc i) d below = absurd (omega (arith, below))

-- ---- a batch that takes an amount

module _ (rows : ℕ) (tags : List Tag) (old new : Held) (r a : ℕ) (amount : Amount) (is : old.tags ≡ tags) where
  cells_are : Takes old r a amount Kept new → new.cells ≡ with_word (tag_at tags a) r a (word_of (tag_at tags a) amount) old.cells
  cells_are takes = ap (λ (h : Held). h.cells) takes.1 ∙ ap (λ (ts : List Tag). with_word (tag_at ts a) r a (word_of (tag_at ts a) amount) old.cells) is

  pub kept_cells : r < rows → a < length tags → Takes old r a amount Kept new → IsOnBoard rows tags old.cells → IsOnBoard rows tags new.cells
  kept_cells row_in attr_in takes on =
      All-same (λ cell. (cell.row < rows) × (cell.attr < length tags)) new.cells (with_word (tag_at tags a) r a (word_of (tag_at tags a) amount) old.cells) (cells_are takes)
      (All-with_word (tag_at tags a) r a (word_of (tag_at tags a) amount) (λ cell. (cell.row < rows) × (cell.attr < length tags)) (λ w. (row_in, attr_in)) old.cells on)

  pub kept_given : Takes old r a amount Kept new → (start now : View) (items : List Item) → IsGiven rows tags start now old.cells items → IsGiven rows tags start now new.cells (items ++ Effect r a amount ∷ [])
  kept_given takes start now items given =
      subst (λ (cells : List Cell). IsGiven rows tags start now cells (items ++ Effect r a amount ∷ [])) (sym (cells_are takes))
      (added_one rows tags start now old.cells items r a amount given)

-- an empty batch takes each amount
pub taken_empty : (tags : List Tag) (old new : Held) (r a : ℕ) (amount : Amount) (added : Added) → old ≡ record { tags = tags; cells = [] } → Takes old r a amount added new → Takes old r a amount Kept new
taken_empty tags old new r a amount Kept empty takes = takes
taken_empty tags old new r a amount Full empty takes = absurd (true≢false (sym takes.0 ∙ ap (λ (h : Held). is_full_for h r a) empty))

-- at the end of a task, where the batch is empty
pub alone : (rows : ℕ) (tags : List Tag) (gives : List Give) (items : List Item) → StandTogether rows tags gives [] items → StandForItems rows tags gives items
alone rows tags gives items stand row attr row_in attr_in =
    let tag : Tag = tag_at tags attr in
    let word : ℕ = word_number tags row attr in
    sym (merged_comm tag (gathered tag word gives) (start_of tag) ∙ start-gathered tag word gives) ∙ stand row attr row_in attr_in
