-- What a word stands for, and the least, the greatest and the top in it.
use Rattle.std.specs.Prelude.{◌≡◌, ℕ, ℤ, pos, ◌-ℤ◌, ◌<◌, ◌≤◌, ◌/◌, ◌%◌, Option, Some, None, nat_le, ◌&&◌, true, List, length, if◌then◌else◌}
use Rattle.std.specs.List.{list_all}
use Rattle.std.specs.Int.{int_min, int_max}
use Rattle.sgl_values.specs.Amounts.{Amount, is_amount}
use Rattle.sgl_values.specs.declared.fault.Tag.{Tag}
use Rattle.effect_combine.specs.Words.{word_for}
use Rattle.sgl_values.specs.declared.limit.TheConstants.{ITEMS_MAX}

-- the word stands for these amounts
pub record StandsFor (tag : Tag) (word : ℕ) (amounts : List Amount) : Type 0 where
  pub few : length amounts ≤ ITEMS_MAX
  pub numbers : list_all is_amount amounts ≡ true
  pub is : word ≡ word_for tag amounts

-- a starting value, or the least amount that a word stands for, where it is less
abbrev pub least_in : ℤ → ℕ → ℤ
least_in init word = if nat_le word 2000000000000 then int_min init (pos word -ℤ pos 1000000000000) else init

-- the same for the greatest
abbrev pub greatest_in : ℤ → ℕ → ℤ
greatest_in init word = if nat_le 1 word && nat_le word 2000000000001 then int_max init (pos word -ℤ pos 1000000000001) else init

-- the value of the top amount that a word stands for, which is below the priority in it, and a starting value where it stands for none
abbrev pub top_in : ℤ → ℕ → ℤ
top_in init word = let low = word % 2199023255552 in if nat_le 1 low && nat_le low 2000000000001 then pos low -ℤ pos 1000000000001 else init

-- the word of a greatest amount, from which its value and its priority are read, and which is 0 exactly where there is none
abbrev pub TellsGreatest : ℕ → Option Amount → Type 0
TellsGreatest word None = word ≡ 0
TellsGreatest word (Some most) =
    (0 < word) × (word < 2305843009213693952) × (pos (word % 2199023255552) -ℤ pos 1000000000001 ≡ most.value) × (word / 2199023255552 ≡ most.priority)
