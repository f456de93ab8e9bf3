-- The grammar of blocks and statements over kinds of tokens alone.
use Rattle.std.specs.Prelude.{List, ◌∷◌}
use Rattle.sgl_lexer.specs.declared.lexeme.TokenKind.{TokenKind}
use Rattle.sgl_lexer.specs.declared.lexeme.TokenKind.TheVariants as kinds
use Rattle.sgl_lexer.specs.declared.vocabulary.Word.{Word}
use Rattle.sgl_lexer.specs.declared.vocabulary.Word.TheVariants as words
use Rattle.sgl_lexer.specs.declared.vocabulary.Sign.TheVariants as signs
use Rattle.sgl_parser.specs.Breaks.{Relation, Done, Then, Before}
use Rattle.sgl_parser.specs.Grammar.{expression}
use Rattle.sgl_parser.specs.Shape.{Shape, Arguments}

-- expr ";"
abbrev pub ValueShape : Relation
ValueShape = Before (Shape expression) (Then (kinds.Sign signs.Semicolon) Done)

-- NAME "=" value
abbrev pub LetShape : Relation
LetShape = Then kinds.Name (Then (kinds.Sign signs.Equal) ValueShape)

-- NAME "(" NAME { "," expr } ")" ";"
abbrev pub PerformShape : Relation
PerformShape = Then kinds.Name (Then (kinds.Sign signs.ParenOpen) (Then kinds.Name (Before Arguments (Then (kinds.Sign signs.ParenClose) (Then (kinds.Sign signs.Semicolon) Done)))))

mutual
  -- The kinds of the first list up to the second are "{" { stmt } "}".
  pub data BlockShape : List TokenKind → List TokenKind → Type 0 where
    a_block : {ks ls : List TokenKind} → StatementsShape ks (kinds.Sign signs.BraceClose ∷ ls) → BlockShape (kinds.Sign signs.BraceOpen ∷ ks) ls

  -- { stmt }
  pub data StatementsShape : List TokenKind → List TokenKind → Type 0 where
    no_statements : {ks : List TokenKind} → StatementsShape ks ks
    more_statements : {ks ls ms : List TokenKind} → StatementShape ks ls → StatementsShape ls ms → StatementsShape ks ms

  -- "let" .. | "if" expr block [ "else" block ] | "perform" ..
  pub data StatementShape : List TokenKind → List TokenKind → Type 0 where
    a_let : {ks ls : List TokenKind} → LetShape ks ls → StatementShape (kinds.Word words.Let ∷ ks) ls
    an_if : {ks ls ms ns : List TokenKind} → Shape expression ks ls → BlockShape ls ms → BranchShape ms ns → StatementShape (kinds.Word words.If ∷ ks) ns
    a_perform : {ks ls : List TokenKind} → PerformShape ks ls → StatementShape (kinds.Word words.Perform ∷ ks) ls

  -- [ "else" block ]
  pub data BranchShape : List TokenKind → List TokenKind → Type 0 where
    no_else : {ks : List TokenKind} → BranchShape ks ks
    an_else : {ks ls : List TokenKind} → BlockShape ks ls → BranchShape (kinds.Word words.Else ∷ ks) ls

-- expr block [ "else" block ]
abbrev pub IfShape : Relation
IfShape = Before (Shape expression) (Before BlockShape BranchShape)

-- what stands behind the first word of a statement
abbrev pub StatementBody : Word → Relation
StatementBody words.Let = LetShape
StatementBody words.If = IfShape
StatementBody words.Perform = PerformShape
StatementBody _ = λ ks ls. ⊥
