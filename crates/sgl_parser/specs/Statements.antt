-- The grammar of blocks and statements: which tokens spell which tree.
use Rattle.std.specs.Prelude.{◌≡◌, ℕ, List, [], ◌∷◌}
use Rattle.sgl_values.specs.declared.place.Place.{Place}
use Rattle.sgl_tree.specs.declared.expression.Expr.{Expr}
use Rattle.sgl_tree.specs.declared.statement.Stmt.{Stmt}
use Rattle.sgl_tree.specs.declared.statement.Stmt.TheVariants as statements
use Rattle.sgl_lexer.specs.declared.lexeme.Token.{Token}
use Rattle.sgl_lexer.specs.declared.lexeme.TokenKind.TheVariants as kinds
use Rattle.sgl_lexer.specs.declared.vocabulary.Word.TheVariants as words
use Rattle.sgl_lexer.specs.declared.vocabulary.Sign.TheVariants as signs
use Rattle.sgl_parser.specs.Grammar.{Spells, SpellsArguments, expression, name_of}

-- The tokens of the first list up to the second spell a value: expr ";"
pub data SpellsValue (text : List ℕ) : List Token → List Token → Expr → Type 0 where
  a_value : {c : Token} {ts us : List Token} {x : Expr} → Spells text expression ts (c ∷ us) x → c.kind ≡ kinds.Sign signs.Semicolon → SpellsValue text ts us x

-- Behind "let": NAME "=" value
pub data SpellsLet (text : List ℕ) : List Token → List Token → Stmt → Type 0 where
  a_let : {n e : Token} {ts us : List Token} {x : Expr} → n.kind ≡ kinds.Name → e.kind ≡ kinds.Sign signs.Equal → SpellsValue text ts us x → SpellsLet text (n ∷ e ∷ ts) us (statements.Let (name_of text n) x)

-- Behind "perform" at this place: NAME "(" NAME { "," expr } ")" ";"
pub data SpellsPerform (text : List ℕ) (place : Place) : List Token → List Token → Stmt → Type 0 where
  a_perform : {n o u c s : Token} {ts us : List Token} {args : List Expr} → n.kind ≡ kinds.Name → o.kind ≡ kinds.Sign signs.ParenOpen → u.kind ≡ kinds.Name → SpellsArguments text ts (c ∷ s ∷ us) args → c.kind ≡ kinds.Sign signs.ParenClose → s.kind ≡ kinds.Sign signs.Semicolon → SpellsPerform text place (n ∷ o ∷ u ∷ ts) us (statements.Perform place (name_of text n) (name_of text u) args)

mutual
  -- "{" { stmt } "}"
  pub data SpellsBlock (text : List ℕ) : List Token → List Token → List Stmt → Type 0 where
    a_block : {o c : Token} {ts us : List Token} {body : List Stmt} → o.kind ≡ kinds.Sign signs.BraceOpen → SpellsStatements text ts (c ∷ us) body → c.kind ≡ kinds.Sign signs.BraceClose → SpellsBlock text (o ∷ ts) us body

  -- { stmt }
  pub data SpellsStatements (text : List ℕ) : List Token → List Token → List Stmt → Type 0 where
    no_statements : {ts : List Token} → SpellsStatements text ts ts []
    more_statements : {ts us vs : List Token} {x : Stmt} {xs : List Stmt} → SpellsStatement text ts us x → SpellsStatements text us vs xs → SpellsStatements text ts vs (x ∷ xs)

  -- "let" .. | "if" .. | "perform" ..
  pub data SpellsStatement (text : List ℕ) : List Token → List Token → Stmt → Type 0 where
    by_let : {t : Token} {ts us : List Token} {x : Stmt} → t.kind ≡ kinds.Word words.Let → SpellsLet text ts us x → SpellsStatement text (t ∷ ts) us x
    by_if : {t : Token} {ts us : List Token} {x : Stmt} → t.kind ≡ kinds.Word words.If → SpellsIf text ts us x → SpellsStatement text (t ∷ ts) us x
    by_perform : {t : Token} {ts us : List Token} {x : Stmt} → t.kind ≡ kinds.Word words.Perform → SpellsPerform text t.place ts us x → SpellsStatement text (t ∷ ts) us x

  -- expr block [ "else" block ]
  pub data SpellsIf (text : List ℕ) : List Token → List Token → Stmt → Type 0 where
    an_if : {ts us vs ws : List Token} {c : Expr} {yes no : List Stmt} → Spells text expression ts us c → SpellsBlock text us vs yes → SpellsBranch text vs ws no → SpellsIf text ts ws (statements.If c yes no)

  -- [ "else" block ]
  pub data SpellsBranch (text : List ℕ) : List Token → List Token → List Stmt → Type 0 where
    no_else : {ts : List Token} → SpellsBranch text ts ts []
    an_else : {t : Token} {ts us : List Token} {body : List Stmt} → t.kind ≡ kinds.Word words.Else → SpellsBlock text ts us body → SpellsBranch text (t ∷ ts) us body
