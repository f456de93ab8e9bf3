-- One turn of the lexer's loop.
use Rattle.std.proofs.Common.{◌≡◌, ℕ, ◌+◌, ◌-◌, ◌≤◌, true, false, cond, List, [], ◌∷◌, ◌++◌, length, take, drop, refl, sym, ◌∙◌, ap, subst, arith, append_assoc, append-nil, eqb, length-take}
use Rattle.sgl_lexer.specs.declared.fault.LexFault.{LexFault}
use Rattle.sgl_lexer.specs.declared.fault.LexFault.TheVariants.{BadByte, LongName, LongNumber, Memory}
use Rattle.std.proofs.Math.Seq.{take-add}
use Rattle.std.proofs.lemmas.List.{drop-drop, length-drop}
use Rattle.sgl_values.specs.declared.place.Place.{Place}
use Rattle.sgl_lexer.specs.declared.lexeme.Token.{Token}
use Rattle.sgl_lexer.specs.Places.{place_behind, place_after}
use Rattle.sgl_lexer.specs.Lexing.{mark_len, place_at, start, Ending, Whole, Faulty, LexesFrom, Lexes, behind_gap, IsFaulty, HasFault, Stands}

pub place_after-append : (p : Place) (xs ys : List ℕ) → place_after p (xs ++ ys) ≡ place_after (place_after p xs) ys
place_after-append p [] ys = refl
place_after-append p (x ∷ xs) ys = place_after-append (place_behind p x) xs ys

behind_line : (p : Place) (b : ℕ) → (place_behind p b).line ≤ p.line + 1
behind_line p b = elim (eqb b 10) as (λ t. cond t (p.line + 1) p.line ≤ p.line + 1) [ true ↦ omega arith | false ↦ omega arith ]

behind_col : (p : Place) (b : ℕ) → (place_behind p b).col ≤ p.col + 1
behind_col p b = elim (eqb b 10) as (λ t. cond t 1 (p.col + 1) ≤ p.col + 1) [ true ↦ omega arith | false ↦ omega arith ]

-- each byte adds at most one to the line and to the column
pub place_bound : (p : Place) (bs : List ℕ) → ((place_after p bs).line ≤ p.line + length bs) × ((place_after p bs).col ≤ p.col + length bs)
place_bound p [] = (omega arith, omega arith)
place_bound p (b ∷ bs) =
    let rest = place_bound (place_behind p b) bs in
    let line = behind_line p b in
    let col = behind_col p b in
    (omega arith, omega arith)

-- the place some bytes on
pub place_at_more : (text : List ℕ) (from n : ℕ) → mark_len text ≤ from → place_at text (from + n) ≡ place_after (place_at text from) (take n (drop from text))
place_at_more text from n behind =
    let m = mark_len text in
    let rest = drop m text in
    let split : from + n - m ≡ (from - m) + n = omega arith in
    let there : m + (from - m) ≡ from = omega arith in
    ap (λ k. place_after start (take k rest)) split
    ∙ ap (place_after start) (take-add (from - m) n rest)
    ∙ place_after-append start (take (from - m) rest) (take n (drop (from - m) rest))
    ∙ ap (λ l. place_after (place_at text from) (take n l)) (drop-drop (from - m) m text ∙ ap (λ k. drop k text) there)

pub place_at_start : (text : List ℕ) → place_at text (mark_len text) ≡ start
place_at_start text = let none : mark_len text - mark_len text ≡ 0 = omega arith in ap (λ k. place_after start (take k (drop (mark_len text) text))) none

-- The tokens so far, and then those of the rest, are those of the text.
pub record Passed (text : List ℕ) (list : List Token) (at : ℕ) (place : Place) : Type 0 where
  pub within : at ≤ length text
  pub behind_mark : mark_len text ≤ at
  pub here : place ≡ place_at text at
  pub joins : (rest : List Token) (ending : Ending) → LexesFrom text at rest ending → Lexes text (list ++ rest) ending

-- lines and columns fit their type
pub place_small : (text : List ℕ) (n : ℕ) → ((place_at text n).line ≤ length text + 1) × ((place_at text n).col ≤ length text + 1)
place_small text n =
    let front = take (n - mark_len text) (drop (mark_len text) text) in
    let bound = place_bound start front in
    let short : length front ≤ length text = omega (arith, length-take (n - mark_len text) (drop (mark_len text) text), length-drop (mark_len text) text) in
    (omega (arith, bound.0), omega (arith, bound.1))

module _ {text : List ℕ} {list : List Token} {at : ℕ} {place : Place} (passed : Passed text list at place) where
  -- the place behind the next bytes
  pub place_more : (n : ℕ) → place_after place (take n (drop at text)) ≡ place_at text (at + n)
  place_more n = ap (λ p. place_after p (take n (drop at text))) passed.here ∙ sym (place_at_more text at n passed.behind_mark)

  pub ended : behind_gap text at ≡ length text → Lexes text list (Whole (place_at text (behind_gap text at)))
  ended e = subst (λ l. Lexes text l (Whole (place_at text (behind_gap text at)))) (append-nil list) (passed.joins [] (Whole (place_at text (behind_gap text at))) (e, ap (place_at text) e))

  faulty : (fault : LexFault) → IsFaulty (drop (behind_gap text at) text) (place_at text (behind_gap text at)) fault → (tokens : List Token) × Lexes text tokens (Faulty fault)
  faulty fault h = (list ++ [], passed.joins [] (Faulty fault) h)

  pub has_fault : (fault : LexFault) → IsFaulty (drop (behind_gap text at) text) (place_at text (behind_gap text at)) fault → HasFault text fault
  has_fault (BadByte p) h = faulty (BadByte p) h
  has_fault (LongName p) h = faulty (LongName p) h
  has_fault (LongNumber p) h = faulty (LongNumber p) h
  has_fault Memory h = tt

  -- one more token
  pub passed_more : (t : Token) → Stands text at t → t.end ≤ length text → Passed text (list ++ t ∷ []) t.end (place_at text t.end)
  passed_more t stands within = record {
    within = within;
    behind_mark = omega (arith, passed.behind_mark, stands.starts, stands.ends);
    here = refl;
    joins = λ rest ending h. subst (λ l. Lexes text l ending) (sym (append_assoc list (t ∷ []) rest)) (passed.joins (t ∷ rest) ending (stands, h));
  }
