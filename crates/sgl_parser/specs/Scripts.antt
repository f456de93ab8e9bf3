-- The grammar of items and scripts: which tokens spell which tree.
use Rattle.std.specs.Prelude.{◌≡◌, ℕ, true, false, List, [], ◌∷◌, Option, Some, None}
use Rattle.sgl_values.specs.declared.fault.Tag.{Tag}
use Rattle.sgl_values.specs.declared.operator.CmpOp.{CmpOp}
use Rattle.sgl_values.specs.declared.operator.FoldKind.{FoldKind}
use Rattle.sgl_values.specs.declared.operator.FoldKind.TheVariants as folds
use Rattle.sgl_values.specs.declared.place.Place.{Place}
use Rattle.sgl_tree.specs.declared.expression.Expr.{Expr}
use Rattle.sgl_tree.specs.declared.expression.Name.{Name}
use Rattle.sgl_tree.specs.declared.item.Fold.{Fold}
use Rattle.sgl_tree.specs.declared.item.Item.{Item}
use Rattle.sgl_tree.specs.declared.item.Item.TheVariants as items
use Rattle.sgl_tree.specs.declared.item.Literal.{Literal}
use Rattle.sgl_tree.specs.declared.item.OnClause.{OnClause}
use Rattle.sgl_tree.specs.declared.item.Rule.{Rule}
use Rattle.sgl_tree.specs.declared.item.Script.{Script}
use Rattle.sgl_tree.specs.declared.item.Spawn.{Spawn}
use Rattle.sgl_tree.specs.declared.item.Test.{Test}
use Rattle.sgl_tree.specs.declared.item.Test.TheVariants.{Compare, Within}
use Rattle.sgl_tree.specs.declared.item.Write.{Write}
use Rattle.sgl_tree.specs.declared.statement.Stmt.{Stmt}
use Rattle.sgl_lexer.specs.declared.lexeme.Token.{Token}
use Rattle.sgl_lexer.specs.declared.lexeme.Tokens.{Tokens}
use Rattle.sgl_lexer.specs.declared.lexeme.TokenKind.TheVariants as kinds
use Rattle.sgl_lexer.specs.declared.vocabulary.Word.{Word}
use Rattle.sgl_lexer.specs.declared.vocabulary.Word.TheVariants as words
use Rattle.sgl_lexer.specs.declared.vocabulary.Sign.TheVariants as signs
use Rattle.sgl_parser.specs.Grammar.{Spells, expression, sum, name_of}
use Rattle.sgl_parser.specs.Operators.{comparison, tag, fold}
use Rattle.sgl_parser.specs.Statements.{SpellsBlock, SpellsValue}

-- The tokens of the first list up to the second spell a list, part by part.
pub data Listing {A : Type 0} (Part : List Token → List Token → A → Type 0) : List Token → List Token → List A → Type 0 where
  none : {ts : List Token} → Listing Part ts ts []
  more : {ts us vs : List Token} {x : A} {xs : List A} → Part ts us x → Listing Part us vs xs → Listing Part ts vs (x ∷ xs)

-- ---- attributes

-- [ "-" ] NUMBER
pub data SpellsLiteral : List Token → List Token → Literal → Type 0 where
  plain : {n : Token} {value : ℕ} {us : List Token} → n.kind ≡ kinds.Number value → SpellsLiteral (n ∷ us) us (record { negative = false; value = value; place = n.place })
  negative : {m n : Token} {value : ℕ} {us : List Token} → m.kind ≡ kinds.Sign signs.Minus → n.kind ≡ kinds.Number value → SpellsLiteral (m ∷ n ∷ us) us (record { negative = true; value = value; place = n.place })

-- "const" ";" | tag "=" literal ";"
pub data SpellsSort : List Token → List Token → Option Tag → Option Literal → Type 0 where
  a_const : {k c : Token} {us : List Token} → k.kind ≡ kinds.Word words.Const → c.kind ≡ kinds.Sign signs.Semicolon → SpellsSort (k ∷ c ∷ us) us None None
  an_effect : {k e c : Token} {t : Tag} {ts us : List Token} {init : Literal} → tag k.kind ≡ Some t → e.kind ≡ kinds.Sign signs.Equal → SpellsLiteral ts (c ∷ us) init → c.kind ≡ kinds.Sign signs.Semicolon → SpellsSort (k ∷ e ∷ ts) us (Some t) (Some init)

-- Behind "attr": NAME sort
pub data SpellsAttribute (text : List ℕ) : List Token → List Token → Item → Type 0 where
  an_attribute : {n : Token} {ts us : List Token} {t : Option Tag} {init : Option Literal} → n.kind ≡ kinds.Name → SpellsSort ts us t init → SpellsAttribute text (n ∷ ts) us (items.Attr (name_of text n) t init)

-- ---- aggregates

-- "," NAME
pub data SpellsMoreName (text : List ℕ) : List Token → List Token → Name → Type 0 where
  one_name : {c n : Token} {us : List Token} → c.kind ≡ kinds.Sign signs.Comma → n.kind ≡ kinds.Name → SpellsMoreName text (c ∷ n ∷ us) us (name_of text n)

-- "(" NAME { "," NAME } ")"
pub data SpellsParameters (text : List ℕ) : List Token → List Token → List Name → Type 0 where
  parameters : {o n c : Token} {ts us : List Token} {names : List Name} → o.kind ≡ kinds.Sign signs.ParenOpen → n.kind ≡ kinds.Name → Listing (SpellsMoreName text) ts (c ∷ us) names → c.kind ≡ kinds.Sign signs.ParenClose → SpellsParameters text (o ∷ n ∷ ts) us (name_of text n ∷ names)

-- NAME params
pub data SpellsHeading (text : List ℕ) : List Token → List Token → Name × List Name → Type 0 where
  a_heading : {n : Token} {ts us : List Token} {params : List Name} → n.kind ≡ kinds.Name → SpellsParameters text ts us params → SpellsHeading text (n ∷ ts) us (name_of text n, params)

-- "(" NAME "," NAME
pub data SpellsPoint (text : List ℕ) : List Token → List Token → Name × Name → Type 0 where
  a_point : {o x m y : Token} {us : List Token} → o.kind ≡ kinds.Sign signs.ParenOpen → x.kind ≡ kinds.Name → m.kind ≡ kinds.Sign signs.Comma → y.kind ≡ kinds.Name → SpellsPoint text (o ∷ x ∷ m ∷ y ∷ us) us (name_of text x, name_of text y)

-- Behind "count" at this place: NAME
pub data SpellsCount (text : List ℕ) (place : Place) : List Token → List Token → Fold → Type 0 where
  a_count : {n : Token} {us : List Token} → n.kind ≡ kinds.Name → SpellsCount text place (n ∷ us) us (record { kind = folds.Count; place = place; row = name_of text n; attr = None; second = None })

-- Behind "nearest" at this place: NAME point ")"
pub data SpellsNearest (text : List ℕ) (place : Place) : List Token → List Token → Fold → Type 0 where
  a_nearest : {n c : Token} {ts us : List Token} {point : Name × Name} → n.kind ≡ kinds.Name → SpellsPoint text ts (c ∷ us) point → c.kind ≡ kinds.Sign signs.ParenClose → SpellsNearest text place (n ∷ ts) us (record { kind = folds.Nearest; place = place; row = name_of text n; attr = Some point.0; second = Some point.1 })

-- fold NAME "." NAME
pub data SpellsMeasure (text : List ℕ) : List Token → List Token → Fold → Type 0 where
  a_measure : {t n d a : Token} {k : FoldKind} {us : List Token} → fold t.kind ≡ Some k → n.kind ≡ kinds.Name → d.kind ≡ kinds.Sign signs.Dot → a.kind ≡ kinds.Name → SpellsMeasure text (t ∷ n ∷ d ∷ a ∷ us) us (record { kind = k; place = t.place; row = name_of text n; attr = Some (name_of text a); second = None })

-- "count" .. | "nearest" .. | measure
pub data SpellsFold (text : List ℕ) : List Token → List Token → Fold → Type 0 where
  by_count : {t : Token} {ts us : List Token} {x : Fold} → t.kind ≡ kinds.Word words.Count → SpellsCount text t.place ts us x → SpellsFold text (t ∷ ts) us x
  by_nearest : {t : Token} {ts us : List Token} {x : Fold} → t.kind ≡ kinds.Word words.Nearest → SpellsNearest text t.place ts us x → SpellsFold text (t ∷ ts) us x
  by_measure : {ts us : List Token} {x : Fold} → SpellsMeasure text ts us x → SpellsFold text ts us x

-- Behind "within" at this place: point "," sum ")"
pub data SpellsCircle (text : List ℕ) (place : Place) : List Token → List Token → Test → Type 0 where
  a_circle : {n c : Token} {ts us vs : List Token} {point : Name × Name} {radius : Expr} → SpellsPoint text ts (n ∷ us) point → n.kind ≡ kinds.Sign signs.Comma → Spells text sum us (c ∷ vs) radius → c.kind ≡ kinds.Sign signs.ParenClose → SpellsCircle text place ts vs (Within place point.0 point.1 radius)

-- NAME "." NAME cmp sum
pub data SpellsComparison (text : List ℕ) : List Token → List Token → Test → Type 0 where
  a_comparison : {n d a k : Token} {op : CmpOp} {ts us : List Token} {x : Expr} → n.kind ≡ kinds.Name → d.kind ≡ kinds.Sign signs.Dot → a.kind ≡ kinds.Name → comparison k.kind ≡ Some op → Spells text sum ts us x → SpellsComparison text (n ∷ d ∷ a ∷ k ∷ ts) us (Compare (name_of text n) (name_of text a) op x)

-- "within" .. | comparison
pub data SpellsTest (text : List ℕ) : List Token → List Token → Test → Type 0 where
  by_circle : {t : Token} {ts us : List Token} {x : Test} → t.kind ≡ kinds.Word words.Within → SpellsCircle text t.place ts us x → SpellsTest text (t ∷ ts) us x
  by_comparison : {ts us : List Token} {x : Test} → SpellsComparison text ts us x → SpellsTest text ts us x

-- "and" test
pub data SpellsMoreTest (text : List ℕ) : List Token → List Token → Test → Type 0 where
  one_test : {t : Token} {ts us : List Token} {x : Test} → t.kind ≡ kinds.Word words.And → SpellsTest text ts us x → SpellsMoreTest text (t ∷ ts) us x

-- test { "and" test }
pub data SpellsTests (text : List ℕ) : List Token → List Token → List Test → Type 0 where
  tests : {ts us vs : List Token} {x : Test} {xs : List Test} → SpellsTest text ts us x → Listing (SpellsMoreTest text) us vs xs → SpellsTests text ts vs (x ∷ xs)

-- [ "where" tests ]
pub data SpellsWhere (text : List ℕ) : List Token → List Token → List Test → Type 0 where
  no_where : {ts : List Token} → SpellsWhere text ts ts []
  a_where : {t : Token} {ts us : List Token} {xs : List Test} → t.kind ≡ kinds.Word words.Where → SpellsTests text ts us xs → SpellsWhere text (t ∷ ts) us xs

-- [ "else" literal ]
pub data SpellsOtherwise : List Token → List Token → Option (Place × Literal) → Type 0 where
  no_otherwise : {ts : List Token} → SpellsOtherwise ts ts None
  an_otherwise : {t : Token} {ts us : List Token} {x : Literal} → t.kind ≡ kinds.Word words.Else → SpellsLiteral ts us x → SpellsOtherwise (t ∷ ts) us (Some (t.place, x))

-- Behind "aggregate": heading "=" fold [ "where" tests ] [ "else" literal ] ";"
pub data SpellsAggregate (text : List ℕ) : List Token → List Token → Item → Type 0 where
  an_aggregate : {e c : Token} {ts us vs ws xs : List Token} {heading : Name × List Name} {f : Fold} {tests : List Test} {other : Option (Place × Literal)} → SpellsHeading text ts (e ∷ us) heading → e.kind ≡ kinds.Sign signs.Equal → SpellsFold text us vs f → SpellsWhere text vs ws tests → SpellsOtherwise ws (c ∷ xs) other → c.kind ≡ kinds.Sign signs.Semicolon → SpellsAggregate text ts xs (items.Aggregate heading.0 heading.1 f tests other)

-- ---- actions

-- [ "by" expr ]
pub data SpellsPriority (text : List ℕ) : List Token → List Token → Option (Place × Expr) → Type 0 where
  no_priority : {ts : List Token} → SpellsPriority text ts ts None
  a_priority : {t : Token} {ts us : List Token} {x : Expr} → t.kind ≡ kinds.Word words.By → Spells text expression ts us x → SpellsPriority text (t ∷ ts) us (Some (t.place, x))

-- NAME "<-" expr [ "by" expr ] ";"
pub data SpellsWrite (text : List ℕ) : List Token → List Token → Write → Type 0 where
  a_write : {n e c : Token} {ts us vs : List Token} {x : Expr} {by : Option (Place × Expr)} → n.kind ≡ kinds.Name → e.kind ≡ kinds.Sign signs.Arrow → Spells text expression ts us x → SpellsPriority text us (c ∷ vs) by → c.kind ≡ kinds.Sign signs.Semicolon → SpellsWrite text (n ∷ e ∷ ts) vs (record { attr = name_of text n; value = x; by = by })

-- Behind "on" at this place: NAME [ "where" tests ] "{" write { write } "}"
pub data SpellsOn (text : List ℕ) (place : Place) : List Token → List Token → OnClause → Type 0 where
  a_clause : {n o c : Token} {ts us vs ws : List Token} {tests : List Test} {x : Write} {xs : List Write} → n.kind ≡ kinds.Name → SpellsWhere text ts (o ∷ us) tests → o.kind ≡ kinds.Sign signs.BraceOpen → SpellsWrite text us vs x → Listing (SpellsWrite text) vs (c ∷ ws) xs → c.kind ≡ kinds.Sign signs.BraceClose → SpellsOn text place (n ∷ ts) ws (record { place = place; row = name_of text n; tests = tests; writes = x ∷ xs })

-- "on" ..
pub data SpellsMoreOn (text : List ℕ) : List Token → List Token → OnClause → Type 0 where
  one_on : {t : Token} {ts us : List Token} {x : OnClause} → t.kind ≡ kinds.Word words.On → SpellsOn text t.place ts us x → SpellsMoreOn text (t ∷ ts) us x

-- Behind "action": heading onclause { onclause }
pub data SpellsAction (text : List ℕ) : List Token → List Token → Item → Type 0 where
  an_action : {ts us vs ws : List Token} {heading : Name × List Name} {x : OnClause} {xs : List OnClause} → SpellsHeading text ts us heading → SpellsMoreOn text us vs x → Listing (SpellsMoreOn text) vs ws xs → SpellsAction text ts ws (items.Action heading.0 heading.1 (x ∷ xs))

-- ---- the other items

-- Behind "routine": heading block
pub data SpellsRoutine (text : List ℕ) : List Token → List Token → Item → Type 0 where
  a_routine : {ts us vs : List Token} {heading : Name × List Name} {body : List Stmt} → SpellsHeading text ts us heading → SpellsBlock text us vs body → SpellsRoutine text ts vs (items.Routine heading.0 heading.1 body)

-- Behind "main" at this place: "(" NAME ")" block
pub data SpellsMain (text : List ℕ) (place : Place) : List Token → List Token → Item → Type 0 where
  a_main : {o n c : Token} {ts us : List Token} {body : List Stmt} → o.kind ≡ kinds.Sign signs.ParenOpen → n.kind ≡ kinds.Name → c.kind ≡ kinds.Sign signs.ParenClose → SpellsBlock text ts us body → SpellsMain text place (o ∷ n ∷ c ∷ ts) us (items.Main place (name_of text n) body)

-- NAME "=" value
pub data SpellsRule (text : List ℕ) : List Token → List Token → Rule → Type 0 where
  a_rule : {n e : Token} {ts us : List Token} {x : Expr} → n.kind ≡ kinds.Name → e.kind ≡ kinds.Sign signs.Equal → SpellsValue text ts us x → SpellsRule text (n ∷ e ∷ ts) us (record { attr = name_of text n; value = x })

-- "when" expr "{" { rule } "}"
pub data SpellsChild (text : List ℕ) : List Token → List Token → Spawn → Type 0 where
  a_child : {w o c : Token} {ts us vs : List Token} {x : Expr} {rules : List Rule} → w.kind ≡ kinds.Word words.When → Spells text expression ts (o ∷ us) x → o.kind ≡ kinds.Sign signs.BraceOpen → Listing (SpellsRule text) us (c ∷ vs) rules → c.kind ≡ kinds.Sign signs.BraceClose → SpellsChild text (w ∷ ts) vs (record { cond = x; rules = rules })

-- [ "spawn" child ]
pub data SpellsSpawn (text : List ℕ) : List Token → List Token → Option Spawn → Type 0 where
  no_spawn : {ts : List Token} → SpellsSpawn text ts ts None
  a_spawn : {s : Token} {ts us : List Token} {x : Spawn} → s.kind ≡ kinds.Word words.Spawn → SpellsChild text ts us x → SpellsSpawn text (s ∷ ts) us (Some x)

-- [ "remove" "when" value ]
pub data SpellsRemoval (text : List ℕ) : List Token → List Token → Option Expr → Type 0 where
  no_removal : {ts : List Token} → SpellsRemoval text ts ts None
  a_removal : {r w : Token} {ts us : List Token} {x : Expr} → r.kind ≡ kinds.Word words.Remove → w.kind ≡ kinds.Word words.When → SpellsValue text ts us x → SpellsRemoval text (r ∷ w ∷ ts) us (Some x)

-- Behind "post" at this place: "{" { rule } [ spawn ] [ removal ] "}"
pub data SpellsPost (text : List ℕ) (place : Place) : List Token → List Token → Item → Type 0 where
  a_post : {o c : Token} {ts us vs ws : List Token} {rules : List Rule} {spawn : Option Spawn} {removal : Option Expr} → o.kind ≡ kinds.Sign signs.BraceOpen → Listing (SpellsRule text) ts us rules → SpellsSpawn text us vs spawn → SpellsRemoval text vs (c ∷ ws) removal → c.kind ≡ kinds.Sign signs.BraceClose → SpellsPost text place (o ∷ ts) ws (items.Post place rules spawn removal)

-- What stands behind the first word of an item, which is at this place.
abbrev pub SpellsBody : List ℕ → Word → Place → List Token → List Token → Item → Type 0
SpellsBody text words.Attr place = SpellsAttribute text
SpellsBody text words.Aggregate place = SpellsAggregate text
SpellsBody text words.Action place = SpellsAction text
SpellsBody text words.Routine place = SpellsRoutine text
SpellsBody text words.Main place = SpellsMain text place
SpellsBody text words.Post place = SpellsPost text place
SpellsBody text _ place = λ ts us x. ⊥

-- an item: a word, and what stands behind it
pub data SpellsItem (text : List ℕ) : List Token → List Token → Item → Type 0 where
  an_item : {t : Token} {word : Word} {ts us : List Token} {x : Item} → t.kind ≡ kinds.Word word → SpellsBody text word t.place ts us x → SpellsItem text (t ∷ ts) us x

-- All tokens of a text spell this script, which ends where the text does.
pub record IsScript (text : List ℕ) (tokens : Tokens) (script : Script) : Type 0 where
  pub items : Listing (SpellsItem text) tokens.list [] script.items
  pub end : script.end ≡ tokens.end
