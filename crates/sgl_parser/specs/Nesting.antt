-- How deep the tokens of a script nest.
use Rattle.std.specs.Prelude.{ℕ, suc, ◌+◌, ◌<◌, ◌≤◌, List, [], ◌∷◌, length, take, sum}
use Rattle.sgl_lexer.specs.declared.lexeme.TokenKind.{TokenKind}
use Rattle.sgl_lexer.specs.declared.lexeme.TokenKind.TheVariants as kinds
use Rattle.sgl_lexer.specs.declared.vocabulary.Word.TheVariants as words
use Rattle.sgl_lexer.specs.declared.vocabulary.Sign.TheVariants as signs
use Rattle.sgl_parser.specs.declared.depth.Step.{Step}
use Rattle.sgl_parser.specs.declared.depth.Step.TheVariants.{Counts, Resets, OpensParen, OpensBrace, ClosesParen, ClosesBrace, Rests}
use Rattle.sgl_values.specs.declared.limit.TheConstants.{NESTING_MAX}

-- Levels form a stack, each with a counter: that of the top level, and those below it, the upper ones first.
pub record Levels : Type 0 where
  pub top : ℕ
  pub below : List ℕ

-- one level, with its counter at 0
abbrev pub ground_level : Levels
ground_level = record { top = 0; below = [] }

-- what a kind of token does to the nesting
abbrev pub step_of : TokenKind → Step
step_of (kinds.Sign signs.Plus) = Counts
step_of (kinds.Sign signs.Minus) = Counts
step_of (kinds.Sign signs.Star) = Counts
step_of (kinds.Sign signs.Slash) = Counts
step_of (kinds.Sign signs.Percent) = Counts
step_of (kinds.Sign signs.Equal) = Counts
step_of (kinds.Sign signs.NotEqual) = Counts
step_of (kinds.Sign signs.Less) = Counts
step_of (kinds.Sign signs.LessEqual) = Counts
step_of (kinds.Sign signs.Greater) = Counts
step_of (kinds.Sign signs.GreaterEqual) = Counts
step_of (kinds.Word words.And) = Counts
step_of (kinds.Word words.Or) = Counts
step_of (kinds.Word words.Not) = Counts
step_of (kinds.Sign signs.Comma) = Resets
step_of (kinds.Sign signs.Semicolon) = Resets
step_of (kinds.Sign signs.ParenOpen) = OpensParen
step_of (kinds.Sign signs.BraceOpen) = OpensBrace
step_of (kinds.Sign signs.ParenClose) = ClosesParen
step_of (kinds.Sign signs.BraceClose) = ClosesBrace
step_of _ = Rests

-- the levels without the top one, where it is not the only one
abbrev pub popped : ℕ → List ℕ → Levels
popped top [] = record { top = top; below = [] }
popped top (under ∷ below) = record { top = under; below = below }

-- the levels behind a token
abbrev pub counted : Step → Levels → Levels
counted Counts l = record { top = l.top + 1; below = l.below }
counted Resets l = record { top = 0; below = l.below }
counted OpensParen l = record { top = 0; below = l.top ∷ l.below }
counted OpensBrace l = record { top = 0; below = 0 ∷ l.below }
counted ClosesParen l = popped l.top l.below
counted ClosesBrace l = record { top = 0; below = (popped l.top l.below).below }
counted Rests l = l

-- all counters, and 1 for each level but the first
abbrev pub nesting : Levels → ℕ
nesting l = l.top + (sum l.below + length l.below)

-- the levels behind tokens
abbrev pub levels_behind : Levels → List TokenKind → Levels
levels_behind l [] = l
levels_behind l (k ∷ ks) = levels_behind (counted (step_of k) l) ks

-- the nesting at a token, by its number from 0, after it is counted
abbrev pub nesting_at : List TokenKind → ℕ → ℕ
nesting_at ks n = nesting (levels_behind ground_level (take (suc n) ks))

-- No token has nesting above 64.
abbrev pub IsShallow : List TokenKind → Type 0
IsShallow ks = (n : ℕ) → n < length ks → nesting_at ks n ≤ NESTING_MAX

-- This token is the first with nesting above 64.
abbrev pub IsFirstDeep : List TokenKind → ℕ → Type 0
IsFirstDeep ks n = (n < length ks) × (NESTING_MAX < nesting_at ks n) × ((m : ℕ) → m < n → nesting_at ks m ≤ NESTING_MAX)
