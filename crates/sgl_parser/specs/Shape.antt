-- The grammar of expressions over kinds of tokens alone, and where no expression can go on.
use Rattle.std.specs.Prelude.{◌≡◌, ℕ, Bool, true, false, List, [], ◌∷◌, ◌++◌, Some, length, map}
use Rattle.sgl_lexer.specs.declared.lexeme.Token.{Token}
use Rattle.sgl_lexer.specs.declared.lexeme.TokenKind.{TokenKind}
use Rattle.sgl_lexer.specs.declared.lexeme.TokenKind.TheVariants as kinds
use Rattle.sgl_lexer.specs.declared.vocabulary.Word.TheVariants as words
use Rattle.sgl_lexer.specs.declared.vocabulary.Sign.TheVariants as signs
use Rattle.sgl_values.specs.declared.operator.BinOp.{BinOp}
use Rattle.sgl_values.specs.declared.operator.CmpOp.{CmpOp}
use Rattle.sgl_parser.specs.declared.precedence.Chain.{Chain}
use Rattle.sgl_parser.specs.declared.reading.Stop.{Stop}
use Rattle.sgl_parser.specs.declared.reading.Stop.TheVariants as stops
use Rattle.sgl_parser.specs.Breaks.{Agrees, Breaks, HasBroken}
use Rattle.sgl_parser.specs.Operators.{operator, comparison}
use Rattle.sgl_parser.specs.Grammar.{Part, Chained, Negation, Comparison, Unary, Primary, sum, expression, operand}
use Rattle.sgl_parser.specs.Follow.{continues, opens_more}

-- a number, "true" or "false"
abbrev pub is_literal : TokenKind → Bool
is_literal (kinds.Number n) = true
is_literal (kinds.Word words.True) = true
is_literal (kinds.Word words.False) = true
is_literal _ = false

mutual
  -- The kinds of the first list up to the second have the shape of this part.
  pub data Shape : Part → List TokenKind → List TokenKind → Type 0 where
    chained : {c : Chain} {ks ls ms : List TokenKind} → Shape (operand c) ks ls → GoesOn c ls ms → Shape (Chained c) ks ms
    negated : {ks ls : List TokenKind} → Shape Negation ks ls → Shape Negation (kinds.Word words.Not ∷ ks) ls
    not_negated : {ks ls : List TokenKind} → Shape Comparison ks ls → Shape Negation ks ls
    compared : {k : TokenKind} {op : CmpOp} {ks ls ms : List TokenKind} → Shape sum ks (k ∷ ls) → comparison k ≡ Some op → Shape sum ls ms → Shape Comparison ks ms
    not_compared : {ks ls : List TokenKind} → Shape sum ks ls → Shape Comparison ks ls
    minus : {ks ls : List TokenKind} → Shape Unary ks ls → Shape Unary (kinds.Sign signs.Minus ∷ ks) ls
    no_minus : {ks ls : List TokenKind} → Shape Primary ks ls → Shape Unary ks ls
    a_literal : {k : TokenKind} {ks : List TokenKind} → is_literal k ≡ true → Shape Primary (k ∷ ks) ks
    a_local : {ks : List TokenKind} → Shape Primary (kinds.Name ∷ ks) ks
    a_field : {ks : List TokenKind} → Shape Primary (kinds.Name ∷ kinds.Sign signs.Dot ∷ kinds.Name ∷ ks) ks
    a_call : {ks ls : List TokenKind} → Arguments ks (kinds.Sign signs.ParenClose ∷ ls) → Shape Primary (kinds.Name ∷ kinds.Sign signs.ParenOpen ∷ kinds.Name ∷ ks) ls
    a_random : {n : ℕ} {ks : List TokenKind} → Shape Primary (kinds.Word words.Random ∷ kinds.Sign signs.ParenOpen ∷ kinds.Number n ∷ kinds.Sign signs.ParenClose ∷ ks) ks
    bracketed : {ks ls : List TokenKind} → Shape expression ks (kinds.Sign signs.ParenClose ∷ ls) → Shape Primary (kinds.Sign signs.ParenOpen ∷ ks) ls

  -- Operators of a chain with their operands.
  pub data GoesOn : Chain → List TokenKind → List TokenKind → Type 0 where
    ends : {c : Chain} {ks : List TokenKind} → GoesOn c ks ks
    goes_on : {c : Chain} {k : TokenKind} {op : BinOp} {ks ls ms : List TokenKind} → operator c k ≡ Some op → Shape (operand c) ks ls → GoesOn c ls ms → GoesOn c (k ∷ ks) ms

  -- Expressions, each behind a comma.
  pub data Arguments : List TokenKind → List TokenKind → Type 0 where
    no_more : {ks : List TokenKind} → Arguments ks ks
    one_more : {ks ls ms : List TokenKind} → Shape expression ks ls → Arguments ls ms → Arguments (kinds.Sign signs.Comma ∷ ks) ms

-- the kind of a token
abbrev pub kind_of : Token → TokenKind
kind_of t = t.kind

-- the kinds of tokens
abbrev pub kinds_of : List Token → List TokenKind
kinds_of ts = map kind_of ts

-- No kind goes on with the part.
abbrev pub StopsAt : Part → List TokenKind → Type 0
StopsAt part [] = Unit {0}
StopsAt part (k ∷ ks) = continues part k ≡ false

-- Some front of the kinds begins a part, and no part begins with it and the kind behind it, or ends behind it at the end.
abbrev pub Fails : Part → List TokenKind → ℕ → Type 0
Fails part ks left = Breaks (Shape part) (StopsAt part) ks left

-- why reading a part stopped
abbrev pub HasStopped : Part → List TokenKind → Stop → Type 0
HasStopped part ks stop = HasBroken (Shape part) (StopsAt part) ks stop

-- Arguments were read up to the rest, whatever is behind the next kind.
pub record Listed (ks rest : List TokenKind) : Type 0 where
  pub front : List TokenKind
  pub split : ks ≡ front ++ rest
  pub shape : (zs to : List TokenKind) → Arguments zs to → Arguments (front ++ zs) to
  pub only : (zs to : List TokenKind) → Agrees rest zs → Arguments (front ++ zs) (kinds.Sign signs.ParenClose ∷ to) → Arguments zs (kinds.Sign signs.ParenClose ∷ to)

-- Some front of the kinds begins arguments, and no arguments up to a closing bracket begin with it and the kind behind it.
pub record ListFails (ks : List TokenKind) (left : ℕ) : Type 0 where
  pub front : List TokenKind
  pub behind : List TokenKind
  pub split : ks ≡ front ++ behind
  pub length : length behind ≡ left
  pub finish : List TokenKind
  pub alive : (zs to : List TokenKind) → Arguments zs to → Arguments (front ++ (finish ++ zs)) to
  pub dead : (zs to : List TokenKind) → Agrees behind zs → Arguments (front ++ zs) (kinds.Sign signs.ParenClose ∷ to) → ⊥

-- why reading arguments stopped
abbrev pub ListHasStopped : List TokenKind → Stop → Type 0
ListHasStopped ks (stops.Syntax left) = ListFails ks left
ListHasStopped ks stops.Memory = Unit {0}

-- A dot or a bracket stands at the front.
abbrev pub Opens : List Token → Type 0
Opens [] = ⊥
Opens (t ∷ ts) = opens_more t.kind ≡ true
