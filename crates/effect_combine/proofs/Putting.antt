-- How a word is put among the cells of a batch.
use Rattle.std.proofs.Common.{◌≡◌, ℕ, ◌<◌, ◌≤◌, Bool, true, false, nat_lt, not, ◌&&◌, List, ◌∷◌, ◌++◌, length, get_or, take, drop, refl, sym, ap, ◌∙◌, subst, arith}
use Rattle.std.specs.Prelude.{◌==◌}
use Rattle.std.specs.List.{list_any}
use Rattle.std.proofs.Math.ListN.{set}
use Rattle.std.proofs.lemmas.Bool.Decides.{nat_tests}
use Rattle.std.proofs.lemmas.List.{get_or_default}
use Rattle.std.proofs.lemmas.List.Elements.{All-same}
use Rattle.sgl_values.specs.declared.fault.Tag.{Tag}
use Rattle.effect_combine.specs.Words.{merged}
use Rattle.effect_combine.specs.Batch.{IsBatch, CellsRise, is_at, with_word}
use Rattle.effect_combine.specs.Places.{IsPlace, Puts, is_held_at}
use Rattle.effect_combine.specs.declared.cell.Cell.{Cell}
use Rattle.effect_combine.specs.declared.cell.Added.{Added}
use Rattle.effect_combine.specs.declared.cell.Added.TheVariants.{Kept, Full}
use Rattle.effect_combine.proofs.BatchLemmas.{with_word-insert, with_word-set, none_held, some_held, All-with_word, CellsRise-with_word}
use Rattle.effect_combine.proofs.Finishing.{both}

below_is : (i n : ℕ) → nat_lt i n ≡ true → i < n
below_is i n h = grind (arith, nat_tests)

is_below : (i n : ℕ) → i < n → nat_lt i n ≡ true
is_below i n h = grind (arith, nat_tests)

no_more : (x b : Bool) → b ≡ true → (x && not b) ≡ false
no_more true b h = ap not h
no_more false b h = refl

full_is : (n : ℕ) (b : Bool) → n ≤ 256 → 256 ≤ n → b ≡ false → ((n == 256) && not b) ≡ true
full_is n b few many h = let at : (n == 256) ≡ true = grind (arith, nat_tests) in (λ i. at i && not (h i))

room_is : (n : ℕ) (b : Bool) → n < 256 → ((n == 256) && not b) ≡ false
room_is n b few = let at : (n == 256) ≡ false = grind (arith, nat_tests) in ap (λ (t : Bool). t && not b) at

module _ (tag : Tag) (row attr word : ℕ) (cells : List Cell) (place : ℕ) (is : IsPlace cells row attr place) where
  -- a held cell
  pub put_held : (w : ℕ) (e : Cell) → is_held_at cells row attr place ≡ true → e ≡ get_or cells place e → w ≡ merged tag word e.word
      → Puts cells tag record { row = row; attr = attr; word = word } Kept (set cells place record { row = row; attr = attr; word = w })
  put_held w e held read merges =
      let zero_cell : Cell = record { row = 0; attr = 0; word = 0 } in
      let parts = both (nat_lt place (length cells)) (is_at row attr (get_or cells place zero_cell)) held in
      let inside : place < length cells = below_is place (length cells) parts.0 in
      let same : e ≡ get_or cells place zero_cell = read ∙ get_or_default cells place e zero_cell inside in (
        no_more (length cells == 256) (list_any (is_at row attr) cells) (some_held tag row attr word cells place zero_cell inside parts.1),
        ap (λ (v : ℕ). set cells place record { row = row; attr = attr; word = v }) (merges ∙ ap (λ (cell : Cell). merged tag word cell.word) same)
            ∙ with_word-set tag row attr word cells place zero_cell inside (λ k d less. is.below k d (omega arith) less) (is.above place zero_cell (omega arith) inside) parts.1,
      )

  apart_from : is_held_at cells row attr place ≡ false → (d : Cell) → place < length cells → is_at row attr (get_or cells place d) ≡ false
  apart_from away d inside =
      let zero_cell : Cell = record { row = 0; attr = 0; word = 0 } in
      ap (is_at row attr) (get_or_default cells place d zero_cell inside)
      ∙ ap (λ (t : Bool). t && is_at row attr (get_or cells place zero_cell)) (sym (is_below place (length cells) inside)) ∙ away

  none_is : CellsRise cells → is_held_at cells row attr place ≡ false → list_any (is_at row attr) cells ≡ false
  none_is rise away =
      none_held tag row attr word cells place rise (λ k d less. is.below k d (omega arith) less) (λ d inside. is.above place d (omega arith) inside) (apart_from away)

  -- no room
  pub put_full : CellsRise cells → is_held_at cells row attr place ≡ false → length cells ≤ 256 → 256 ≤ length cells
      → Puts cells tag record { row = row; attr = attr; word = word } Full cells
  put_full rise away few many = (full_is (length cells) (list_any (is_at row attr) cells) few many (none_is rise away), refl)

  -- a new cell
  pub put_new : is_held_at cells row attr place ≡ false → length cells < 256
      → Puts cells tag record { row = row; attr = attr; word = word } Kept (take place cells ++ record { row = row; attr = attr; word = word } ∷ drop place cells)
  put_new away few = (
    room_is (length cells) (list_any (is_at row attr) cells) few,
    with_word-insert tag row attr word cells place is.bound (λ k d less. is.below k d (omega arith) less) (λ d inside. is.above place d (omega arith) inside) (apart_from away),
  )

-- a batch stays one
pub IsBatch-put : (tags : List Tag) (tag : Tag) (row attr word : ℕ) (added : Added) (old new : List Cell) → IsBatch record { tags = tags; cells = old } → attr < length tags
    → length new ≤ 256 → Puts old tag record { row = row; attr = attr; word = word } added new → IsBatch record { tags = tags; cells = new }
IsBatch-put tags tag row attr word Kept old new batch inside few puts = record {
  few = few;
  rising = subst CellsRise (sym puts.1) (CellsRise-with_word tag row attr word old batch.rising);
  within = All-same (λ cell. cell.attr < length tags) new (with_word tag row attr word old) puts.1
      (All-with_word tag row attr word (λ cell. cell.attr < length tags) (λ w. inside) old batch.within);
}
IsBatch-put tags tag row attr word Full old new batch inside few puts = record {
  few = few;
  rising = subst CellsRise (sym puts.1) batch.rising;
  within = All-same (λ cell. cell.attr < length tags) new old puts.1 batch.within;
}
