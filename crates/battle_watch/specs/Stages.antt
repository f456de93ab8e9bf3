-- What a stage has shown.
use Rattle.std.specs.Prelude.{◌≡◌, ℕ, ◌+◌, Option, MatchOption, option_map}

-- what was published last, of so many positions: the last of them, or nothing where that is the first, which has no receipt
abbrev pub IsLastOf : ℕ → Option ℕ → Type 0
IsLastOf count last = MatchOption last (count ≡ 1) (λ position. position + 1 ≡ count)

-- the same stage, where there is one, that has shown one world more
abbrev pub one_more : Option ℕ → Option ℕ
one_more stage = option_map (λ shown. shown + 1) stage

-- the same stage, where there is one, that has shown so many worlds
abbrev pub with_shown : ℕ → Option ℕ → Option ℕ
with_shown count stage = option_map (λ _. count) stage
