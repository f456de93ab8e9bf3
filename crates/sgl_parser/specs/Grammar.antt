-- The grammar of expressions: which tokens spell which tree.
use Rattle.std.specs.Prelude.{◌≡◌, ℕ, ◌-◌, true, false, List, [], ◌∷◌, Option, Some, None, take, drop}
use Rattle.sgl_values.specs.declared.operator.BinOp.{BinOp}
use Rattle.sgl_values.specs.declared.operator.BinOp.TheVariants as ops
use Rattle.sgl_values.specs.declared.operator.CmpOp.{CmpOp}
use Rattle.sgl_values.specs.declared.place.Place.{Place}
use Rattle.sgl_tree.specs.declared.expression.Name.{Name}
use Rattle.sgl_tree.specs.declared.expression.Expr.{Expr}
use Rattle.sgl_tree.specs.declared.expression.Expr.TheVariants as trees
use Rattle.sgl_lexer.specs.declared.lexeme.Token.{Token}
use Rattle.sgl_lexer.specs.declared.lexeme.TokenKind.{TokenKind}
use Rattle.sgl_lexer.specs.declared.lexeme.TokenKind.TheVariants as kinds
use Rattle.sgl_lexer.specs.declared.vocabulary.Word.TheVariants as words
use Rattle.sgl_lexer.specs.declared.vocabulary.Sign.TheVariants as signs
use Rattle.sgl_parser.specs.declared.precedence.Chain.{Chain}
use Rattle.sgl_parser.specs.declared.precedence.Chain.TheVariants as chains
use Rattle.sgl_parser.specs.declared.precedence.Prefix.{Prefix}
use Rattle.sgl_parser.specs.declared.precedence.Prefix.TheVariants as prefixes
use Rattle.sgl_parser.specs.Operators.{operator, comparison}

-- the parts of an expression, from the whole down to names and numbers
pub data Part : Type 0 where
  Chained : Chain → Part
  Negation : Part
  Comparison : Part
  Unary : Part
  Primary : Part

-- a whole expression: a chain of the loosest operators
abbrev pub expression : Part
expression = Chained chains.Or

-- what stands on each side of a comparison
abbrev pub sum : Part
sum = Chained chains.Sum

-- what the operators of a chain stand between
abbrev pub operand : Chain → Part
operand chains.Or = Chained chains.And
operand chains.And = Negation
operand chains.Sum = Chained chains.Product
operand chains.Product = Unary

-- a prefix any number of times, with its operand
abbrev pub prefixed : Prefix → Part
prefixed prefixes.Not = Negation
prefixed prefixes.Minus = Unary

-- what a prefix stands before
abbrev pub unprefixed : Prefix → Part
unprefixed prefixes.Not = Comparison
unprefixed prefixes.Minus = Primary

-- the tree of a prefix, at its place, and of what it stands before
abbrev pub prefix_tree : Prefix → Expr → Place → Expr
prefix_tree prefixes.Not e place = trees.Not e place
prefix_tree prefixes.Minus e place = trees.Neg e place

-- the name that a token is in a text
abbrev pub name_of : List ℕ → Token → Name
name_of text t = record { text = take (t.end - t.start) (drop t.start text); place = t.place }

-- the expression that a token alone is: NUMBER | "true" | "false"
abbrev pub literal : TokenKind → Place → Option Expr
literal (kinds.Number n) place = Some (trees.Number n place)
literal (kinds.Word words.True) place = Some (trees.Truth true place)
literal (kinds.Word words.False) place = Some (trees.Truth false place)
literal _ place = None

mutual
  -- The tokens of the first list up to the second spell a tree as this part of an expression.
  pub data Spells (text : List ℕ) : Part → List Token → List Token → Expr → Type 0 where
    -- an operand, and operators with operands behind it
    chained : {c : Chain} {ts us vs : List Token} {x e : Expr} → Spells text (operand c) ts us x → Continues text c x us vs e → Spells text (Chained c) ts vs e
    -- "not" neg | compare
    negated : {t : Token} {ts us : List Token} {e : Expr} → t.kind ≡ kinds.Word words.Not → Spells text Negation ts us e → Spells text Negation (t ∷ ts) us (trees.Not e t.place)
    not_negated : {ts us : List Token} {e : Expr} → Spells text Comparison ts us e → Spells text Negation ts us e
    -- sum [ cmp sum ]
    compared : {t : Token} {op : CmpOp} {ts us vs : List Token} {x y : Expr} → Spells text sum ts (t ∷ us) x → comparison t.kind ≡ Some op → Spells text sum us vs y → Spells text Comparison ts vs (trees.Binary (ops.Cmp op) x y t.place)
    not_compared : {ts us : List Token} {e : Expr} → Spells text sum ts us e → Spells text Comparison ts us e
    -- "-" unary | primary
    minus : {t : Token} {ts us : List Token} {e : Expr} → t.kind ≡ kinds.Sign signs.Minus → Spells text Unary ts us e → Spells text Unary (t ∷ ts) us (trees.Neg e t.place)
    no_minus : {ts us : List Token} {e : Expr} → Spells text Primary ts us e → Spells text Unary ts us e
    -- NUMBER | "true" | "false"
    a_literal : {t : Token} {us : List Token} {e : Expr} → literal t.kind t.place ≡ Some e → Spells text Primary (t ∷ us) us e
    -- NAME
    a_local : {t : Token} {us : List Token} → t.kind ≡ kinds.Name → Spells text Primary (t ∷ us) us (trees.Local (name_of text t))
    -- NAME "." NAME
    a_field : {t d n : Token} {us : List Token} → t.kind ≡ kinds.Name → d.kind ≡ kinds.Sign signs.Dot → n.kind ≡ kinds.Name → Spells text Primary (t ∷ d ∷ n ∷ us) us (trees.Field (name_of text t) (name_of text n))
    -- NAME "(" NAME { "," expr } ")"
    a_call : {t o u c : Token} {ts us : List Token} {args : List Expr} → t.kind ≡ kinds.Name → o.kind ≡ kinds.Sign signs.ParenOpen → u.kind ≡ kinds.Name → SpellsArguments text ts (c ∷ us) args → c.kind ≡ kinds.Sign signs.ParenClose → Spells text Primary (t ∷ o ∷ u ∷ ts) us (trees.Call (name_of text t) (name_of text u) args)
    -- "random" "(" NUMBER ")"
    a_random : {t o n c : Token} {index : ℕ} {us : List Token} → t.kind ≡ kinds.Word words.Random → o.kind ≡ kinds.Sign signs.ParenOpen → n.kind ≡ kinds.Number index → c.kind ≡ kinds.Sign signs.ParenClose → Spells text Primary (t ∷ o ∷ n ∷ c ∷ us) us (trees.Random t.place index n.place)
    -- "(" expr ")"
    bracketed : {o c : Token} {ts us : List Token} {e : Expr} → o.kind ≡ kinds.Sign signs.ParenOpen → Spells text expression ts (c ∷ us) e → c.kind ≡ kinds.Sign signs.ParenClose → Spells text Primary (o ∷ ts) us e

  -- Behind a tree, the tokens up to the second list are operators of a chain with their operands, grouped to the left.
  pub data Continues (text : List ℕ) : Chain → Expr → List Token → List Token → Expr → Type 0 where
    ends : {c : Chain} {x : Expr} {ts : List Token} → Continues text c x ts ts x
    goes_on : {c : Chain} {x y e : Expr} {t : Token} {op : BinOp} {ts us vs : List Token} → operator c t.kind ≡ Some op → Spells text (operand c) ts us y → Continues text c (trees.Binary op x y t.place) us vs e → Continues text c x (t ∷ ts) vs e

  -- { "," expr }
  pub data SpellsArguments (text : List ℕ) : List Token → List Token → List Expr → Type 0 where
    no_more : {ts : List Token} → SpellsArguments text ts ts []
    one_more : {t : Token} {ts us vs : List Token} {e : Expr} {es : List Expr} → t.kind ≡ kinds.Sign signs.Comma → Spells text expression ts us e → SpellsArguments text us vs es → SpellsArguments text (t ∷ ts) vs (e ∷ es)
