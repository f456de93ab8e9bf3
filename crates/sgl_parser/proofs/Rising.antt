-- How levels go on from token to token.
use Rattle.std.proofs.Common.{◌≡◌, ℕ, suc, ◌+◌, ◌<◌, ◌≤◌, List, [], ◌∷◌, length, take, get_or, arith, refl, subst, sym, ◌∙◌, below_more}
use Rattle.sgl_lexer.specs.declared.lexeme.Token.{Token}
use Rattle.sgl_parser.specs.declared.depth.Step.{Step}
use Rattle.sgl_parser.specs.Nesting.{Levels, ground_level, step_of, counted, nesting, nesting_at, levels_behind, IsFirstDeep}
use Rattle.sgl_parser.specs.Shape.{kinds_of}
use Rattle.sgl_parser.proofs.TokenKinds.{kinds-length}

levels_more : (l : Levels) (ts : List Token) (n : ℕ) (d : Token) → n < length ts → levels_behind l (take (suc n) (kinds_of ts)) ≡ counted (step_of (get_or ts n d).kind) (levels_behind l (take n (kinds_of ts)))
levels_more l [] n d h = absurd (omega arith)
levels_more l (u ∷ us) ℕ.zero d h = refl
levels_more l (u ∷ us) (ℕ.suc n) d h = levels_more (counted (step_of u.kind) l) us n d (omega arith)

-- the levels behind one more token
pub levels_here : (ts : List Token) (n : ℕ) (d : Token) (step : Step) (before after : Levels) → n < length ts → step ≡ step_of (get_or ts n d).kind → before ≡ levels_behind ground_level (take n (kinds_of ts)) → after ≡ counted step before → after ≡ levels_behind ground_level (take (suc n) (kinds_of ts))
levels_here ts n d step before after h is was now = now ∙ (λ i. counted (is i) (was i)) ∙ sym (levels_more ground_level ts n d h)

-- a token too deep behind tokens that are not
pub deep_here : (ts : List Token) (n : ℕ) (levels : Levels) → n < length ts → levels ≡ levels_behind ground_level (take (suc n) (kinds_of ts)) → 64 < nesting levels → ((m : ℕ) → m < n → nesting_at (kinds_of ts) m ≤ 64) → IsFirstDeep (kinds_of ts) n
deep_here ts n levels h is deep before = (omega (arith, kinds-length ts), subst (λ l. 64 < nesting l) is deep, before)

-- one more token that is not
pub shallow_here : (ts : List Token) (n : ℕ) (levels : Levels) → levels ≡ levels_behind ground_level (take (suc n) (kinds_of ts)) → nesting levels ≤ 64 → ((m : ℕ) → m < n → nesting_at (kinds_of ts) m ≤ 64) → (m : ℕ) → m < suc n → nesting_at (kinds_of ts) m ≤ 64
shallow_here ts n levels is low before =
    let more : (m : ℕ) → m < n + 1 → nesting_at (kinds_of ts) m ≤ 64 = below_more _ _ before (subst (λ l. nesting l ≤ 64) is low) in
    λ m h. more m (omega arith)
