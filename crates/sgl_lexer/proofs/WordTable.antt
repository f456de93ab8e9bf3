-- The table of reserved words has each of them once.
use Rattle.std.proofs.Common.{◌≡◌, ℕ, ◌<◌, List, [], ◌∷◌, length, refl, true, false, arith}
use Rattle.std.proofs.lemmas.Grind.{common_steps}
use Rattle.std.specs.List.{list_all}
use Rattle.std.specs.Prelude.{slice_index}
use Rattle.std.specs.Char.{is_ascii_digit}
use Rattle.sgl_lexer.specs.declared.vocabulary.Word.{Word}
use Rattle.sgl_lexer.specs.declared.vocabulary.Word.TheVariants.{Attr, Const, Sum, Min, Max, Aggregate, Action, Routine, Main, Post, Count, Lowest, Highest, Where, Else, On, Let, If, Perform, Remove, When, And, Or, Not, True, False, Random, Top, By, Spawn, Nearest, Within}
use Rattle.sgl_lexer.specs.Kinds.{word_text, begins_name, continues_name}
use Rattle.sgl_lexer.proofs.Finding.{Stands, each, nonempty, begins_otherwise, one_entry}

-- the table of the code
abbrev pub all_words : List Word
all_words = Attr ∷ Const ∷ Sum ∷ Min ∷ Max ∷ Aggregate ∷ Action ∷ Routine ∷ Main ∷ Post ∷ Count ∷ Lowest ∷ Highest ∷ Where ∷ Else ∷ On ∷ Let ∷ If ∷ Perform ∷ Remove ∷ When ∷ And ∷ Or ∷ Not ∷ True ∷ False ∷ Random ∷ Top ∷ By ∷ Spawn ∷ Nearest ∷ Within ∷ []

-- each word stands in it
pub word_at : (w : Word) → Stands word_text Attr all_words w
word_at w = (grind (arith, common_steps), grind (arith, common_steps))

-- a word begins as a name
pub word_begins : (w : Word) → begins_name (slice_index (word_text w) 0) ≡ true
word_begins = each word_text Attr all_words word_at (λ w. begins_name (slice_index (word_text w) 0)) refl

-- a word begins with no digit
pub word_no_digit : (w : Word) → is_ascii_digit (slice_index (word_text w) 0) ≡ false
word_no_digit = begins_otherwise word_text Attr all_words word_at is_ascii_digit refl

-- a word goes on as a name
pub word_continues : (w : Word) → list_all continues_name (word_text w) ≡ true
word_continues = each word_text Attr all_words word_at (λ w. list_all continues_name (word_text w)) refl

-- a word has a byte
pub word_nonempty : (w : Word) → 0 < length (word_text w)
word_nonempty = nonempty word_text Attr all_words word_at refl

-- words with one text are one
pub one_word : (bytes : List ℕ) (w v : Word) → bytes ≡ word_text w → bytes ≡ word_text v → w ≡ v
one_word = one_entry word_text Attr all_words word_at
