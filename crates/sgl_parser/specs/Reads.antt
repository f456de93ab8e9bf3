-- What reading a part of the grammar gives.
use Rattle.std.specs.Prelude.{◌≡◌, ℕ, ◌+◌, ◌<◌, ◌≤◌, List, ◌++◌, Result, MatchResult, length}
use Rattle.std.specs.Borrow.{Bor}
use Rattle.sgl_tree.specs.declared.expression.Expr.{Expr}
use Rattle.sgl_tree.specs.declared.expression.Name.{Name}
use Rattle.sgl_tree.specs.declared.statement.Stmt.TheVariants as statements
use Rattle.sgl_lexer.specs.declared.lexeme.Token.{Token}
use Rattle.sgl_lexer.specs.declared.lexeme.TokenKind.{TokenKind}
use Rattle.sgl_lexer.specs.Slices.{AreSlicesOf}
use Rattle.sgl_parser.specs.declared.reading.Stop.{Stop}
use Rattle.sgl_parser.specs.Breaks.{Relation, Passes, HasBroken}
use Rattle.sgl_parser.specs.Follow.{Stops}
use Rattle.sgl_parser.specs.Grammar.{Part, Spells}
use Rattle.sgl_parser.specs.Scripts.{Listing, SpellsRule}
use Rattle.sgl_parser.specs.Statements.{SpellsLet}
use Rattle.sgl_parser.specs.Shape.{HasStopped, kinds_of}

-- A part was read up to the rest, with at least so many tokens. They spell the value, and the rest are tokens of the text.
pub record IsRead {A : Type 0} (G : Relation) (MayEnd : List TokenKind → Type 0) (least : ℕ) (Spells : List Token → List Token → A → Type 0) (text : List ℕ) (tokens rest : List Token) (value : A) : Type 0 where
  pub passes : Passes G MayEnd (kinds_of tokens) (kinds_of rest)
  pub spells : Spells tokens rest value
  pub shorter : least + length rest ≤ length tokens
  pub of : AreSlicesOf text rest

-- A part was read, with the tokens behind it, or reading it stopped.
abbrev pub Reads : {A : Type 0} → Relation → (List TokenKind → Type 0) → ℕ → (List Token → List Token → A → Type 0) → List ℕ → List Token → Result (A × Bor (List Token)) Stop → Type 0
Reads G MayEnd least Spells text tokens result = MatchResult result (λ found. IsRead G MayEnd least Spells text tokens found.1.now found.0) (HasBroken G MayEnd (kinds_of tokens))

-- A part of an expression was read up to the rest, and no token goes on with it. The rest are tokens of the text.
pub record IsReadPart (part : Part) (text : List ℕ) (tokens rest : List Token) (e : Expr) : Type 0 where
  pub spells : Spells text part tokens rest e
  pub stops : Stops part rest
  pub shorter : length rest < length tokens
  pub of : AreSlicesOf text rest

-- A part of an expression was read, with the tokens behind it, or reading it stopped.
abbrev pub ReadsPart : Part → List ℕ → List Token → Result (Expr × Bor (List Token)) Stop → Type 0
ReadsPart part text tokens result = MatchResult result (λ found. IsReadPart part text tokens found.1.now found.0) (HasStopped part (kinds_of tokens))

-- Parts were read one by one, and their values stand behind those from before.
abbrev pub ListingBehind : {A : Type 0} → List A → (List Token → List Token → A → Type 0) → List Token → List Token → List A → Type 0
ListingBehind {A} before Part tokens rest all = (read : List A) × (all ≡ before ++ read) × Listing Part tokens rest read

-- A name and a value with an equal sign between them are a "let" behind its word, and an assignment to an attribute.
abbrev pub SpellsAssignment : List ℕ → List Token → List Token → Name × Expr → Type 0
SpellsAssignment text tokens rest a = SpellsLet text tokens rest (statements.Let a.0 a.1) × SpellsRule text tokens rest (record { attr = a.0; value = a.1 })
