-- Words may be merged in any order.
use Rattle.std.proofs.Common.{◌≡◌, ℕ, ◌+◌, ◌%◌, min, max, List, refl, sym, ap, ◌∙◌, arith}
use Rattle.std.specs.List.Sorted.{IsPermutation}
use Rattle.sgl_values.specs.Amounts.{Amount}
use Rattle.sgl_values.specs.declared.fault.Tag.{Tag}
use Rattle.sgl_values.specs.declared.fault.Tag.TheVariants.{Sum, Min, Max, Top}
use Rattle.sgl_values.proofs.Permutations.{total-IsPermutation}
use Rattle.effect_combine.specs.Words.{start_of, merged, word_of, word_for}

sum_assoc : (a b c : ℕ) → ((a + b) % 18446744073709551616 + c) % 18446744073709551616 ≡ (a + (b + c) % 18446744073709551616) % 18446744073709551616
sum_assoc a b c = omega arith

sum_comm : (a b : ℕ) → (a + b) % 18446744073709551616 ≡ (b + a) % 18446744073709551616
sum_comm a b = omega arith

min_assoc : (a b c : ℕ) → min (min a b) c ≡ min a (min b c)
min_assoc a b c = omega arith

min_comm : (a b : ℕ) → min a b ≡ min b a
min_comm a b = omega arith

max_assoc : (a b c : ℕ) → max (max a b) c ≡ max a (max b c)
max_assoc a b c = omega arith

max_comm : (a b : ℕ) → max a b ≡ max b a
max_comm a b = omega arith

pub merged_assoc : (tag : Tag) (a b c : ℕ) → merged tag (merged tag a b) c ≡ merged tag a (merged tag b c)
merged_assoc Sum = sum_assoc
merged_assoc Min = min_assoc
merged_assoc Max = max_assoc
merged_assoc Top = max_assoc

pub merged_comm : (tag : Tag) (a b : ℕ) → merged tag a b ≡ merged tag b a
merged_comm Sum = sum_comm
merged_comm Min = min_comm
merged_comm Max = max_comm
merged_comm Top = max_comm

-- words may change places
pub merged_free : (tag : Tag) (a b c : ℕ) → merged tag a (merged tag b c) ≡ merged tag b (merged tag a c)
merged_free tag a b c =
    sym (merged_assoc tag a b c) ∙ ap (λ (w : ℕ). merged tag w c) (merged_comm tag a b) ∙ merged_assoc tag b a c

-- the start adds nothing to a start, nor to a word that it has been merged into
pub start_start : (tag : Tag) → merged tag (start_of tag) (start_of tag) ≡ start_of tag
start_start Sum = refl
start_start Min = refl
start_start Max = refl
start_start Top = refl

pub start_merged : (tag : Tag) (a b : ℕ) → merged tag (start_of tag) b ≡ b → merged tag (start_of tag) (merged tag a b) ≡ merged tag a b
start_merged tag a b none =
    sym (merged_assoc tag (start_of tag) a b) ∙ ap (λ (z : ℕ). merged tag z b) (merged_comm tag (start_of tag) a) ∙ merged_assoc tag a (start_of tag) b ∙ ap (merged tag a) none

pub word_for-IsPermutation : (tag : Tag) (amounts others : List Amount) → IsPermutation amounts others → word_for tag amounts ≡ word_for tag others
word_for-IsPermutation tag amounts others p =
    sym (total-IsPermutation (merged tag) (start_of tag) (word_of tag) (merged_assoc tag) (merged_comm tag) amounts others p)
