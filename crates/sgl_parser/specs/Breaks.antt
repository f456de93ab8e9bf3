-- Where kinds of tokens cease to begin anything.
use Rattle.std.specs.Prelude.{◌≡◌, ◌≢◌, ℕ, Bool, true, false, List, [], ◌∷◌, ◌++◌, length}
use Rattle.sgl_lexer.specs.declared.lexeme.TokenKind.{TokenKind}
use Rattle.sgl_lexer.specs.declared.lexeme.TokenKind.TheVariants as kinds
use Rattle.sgl_lexer.specs.declared.vocabulary.Word.{Word}
use Rattle.sgl_lexer.specs.declared.vocabulary.Sign.TheVariants as signs
use Rattle.sgl_parser.specs.declared.reading.Stop.{Stop}
use Rattle.sgl_parser.specs.declared.reading.Stop.TheVariants as stops

-- A part of the grammar relates kinds of tokens to those behind the part.
abbrev pub Relation : Type 1
Relation = List TokenKind → List TokenKind → Type 0

-- Two lists agree in their first kind, or are both at the end.
abbrev pub Agrees : List TokenKind → List TokenKind → Type 0
Agrees [] [] = Unit {0}
Agrees [] (z ∷ zs) = ⊥
Agrees (k ∷ ks) [] = ⊥
Agrees (k ∷ ks) (z ∷ zs) = k ≡ z

-- Kinds begin a part: with a finishing list behind them they are one, whatever follows.
abbrev pub Lives : Relation → List TokenKind → Type 0
Lives G front = (finish : List TokenKind) × ((zs : List TokenKind) → G (front ++ (finish ++ zs)) zs)

-- Some front of the kinds begins a part that may end only before certain kinds. No such part begins with it and the kind behind it, or ends behind it at the end.
pub record Breaks (G : Relation) (MayEnd : List TokenKind → Type 0) (ks : List TokenKind) (left : ℕ) : Type 0 where
  pub front : List TokenKind
  pub behind : List TokenKind
  pub split : ks ≡ front ++ behind
  pub length : length behind ≡ left
  pub alive : Lives G front
  pub dead : (zs to : List TokenKind) → Agrees behind zs → G (front ++ zs) to → MayEnd to → ⊥

-- A part was read up to the rest, whatever is behind the next kind.
pub record Passes (G : Relation) (MayEnd : List TokenKind → Type 0) (ks rest : List TokenKind) : Type 0 where
  pub front : List TokenKind
  pub split : ks ≡ front ++ rest
  pub shape : (zs : List TokenKind) → G (front ++ zs) zs
  pub only : (zs to : List TokenKind) → Agrees rest zs → G (front ++ zs) to → MayEnd to → to ≡ zs

-- why reading a part stopped
abbrev pub HasBroken : Relation → (List TokenKind → Type 0) → List TokenKind → Stop → Type 0
HasBroken G MayEnd ks (stops.Syntax left) = Breaks G MayEnd ks left
HasBroken G MayEnd ks stops.Memory = Unit {0}

-- ---- parts put together

-- nothing
pub data Done : List TokenKind → List TokenKind → Type 0 where
  done : {ks : List TokenKind} → Done ks ks

-- a kind, and then a part
pub record Then (k : TokenKind) (G : Relation) (ks ms : List TokenKind) : Type 0 where
  pub rest : List TokenKind
  pub list : ks ≡ k ∷ rest
  pub behind : G rest ms

-- a kind of a class, and then a part
pub record OneOf (is : TokenKind → Bool) (G : Relation) (ks ms : List TokenKind) : Type 0 where
  pub kind : TokenKind
  pub rest : List TokenKind
  pub list : ks ≡ kind ∷ rest
  pub of : is kind ≡ true
  pub behind : G rest ms

-- a part, and then another
pub record Before (G H : Relation) (ks ms : List TokenKind) : Type 0 where
  pub middle : List TokenKind
  pub first : G ks middle
  pub second : H middle ms

-- one of two parts
pub data Either (G H : Relation) : List TokenKind → List TokenKind → Type 0 where
  this : {ks ls : List TokenKind} → G ks ls → Either G H ks ls
  that : {ks ls : List TokenKind} → H ks ls → Either G H ks ls

-- a word, and then what belongs to it
pub record ByWord (body : Word → Relation) (ks ms : List TokenKind) : Type 0 where
  pub word : Word
  pub rest : List TokenKind
  pub list : ks ≡ kinds.Word word ∷ rest
  pub behind : body word rest ms

-- a part once or not at all
pub data Maybe (G : Relation) : List TokenKind → List TokenKind → Type 0 where
  omitted : {ks : List TokenKind} → Maybe G ks ks
  given : {ks ls : List TokenKind} → G ks ls → Maybe G ks ls

-- a part any number of times
pub data Many (G : Relation) : List TokenKind → List TokenKind → Type 0 where
  none : {ks : List TokenKind} → Many G ks ks
  more : {ks ls ms : List TokenKind} → G ks ls → Many G ls ms → Many G ks ms

-- a part that ends by itself
abbrev pub Anywhere : List TokenKind → Type 0
Anywhere ks = Unit {0}

-- No such kind stands at the front.
abbrev pub NotAt : TokenKind → List TokenKind → Type 0
NotAt k [] = Unit {0}
NotAt k (j ∷ js) = j ≡ k → ⊥

-- This kind stands at the front.
abbrev pub At : TokenKind → List TokenKind → Type 0
At k [] = ⊥
At k (j ∷ js) = j ≡ k

-- No kind of the class stands at the front.
abbrev pub NoneAt : (TokenKind → Bool) → List TokenKind → Type 0
NoneAt is [] = Unit {0}
NoneAt is (k ∷ ks) = is k ≡ false

-- A closing brace stands at the front, or no kinds are left.
abbrev pub EndsBlock : List TokenKind → Type 0
EndsBlock [] = Unit {0}
EndsBlock (k ∷ ks) = k ≡ kinds.Sign signs.BraceClose

-- Another kind stands at the front.
abbrev pub GoesOnInBlock : List TokenKind → Type 0
GoesOnInBlock [] = ⊥
GoesOnInBlock (k ∷ ks) = k ≢ kinds.Sign signs.BraceClose

-- No kinds are left.
abbrev pub AtEnd : List TokenKind → Type 0
AtEnd [] = Unit {0}
AtEnd (k ∷ ks) = ⊥
