-- What each script has that a text spells: what is left of tokens behind a part are tokens of the same text.
use Rattle.std.proofs.Common.{◌≡◌, ℕ, ◌-◌, ◌≤◌, true, List, ◌∷◌, Option, length, take, drop, refl, subst, arith}
use Rattle.std.proofs.lemmas.Bool.Decides.{nat_tests}
use Rattle.std.proofs.lemmas.List.{length-take}
use Rattle.std.specs.List.{list_all}
use Rattle.sgl_values.specs.declared.place.Place.{Place}
use Rattle.sgl_values.specs.declared.fault.Tag.{Tag}
use Rattle.sgl_lexer.specs.Slices.{IsSliceOf, AreSlicesOf}
use Rattle.sgl_lexer.specs.Lexing.{Fits}
use Rattle.sgl_lexer.specs.declared.lexeme.Token.{Token}
use Rattle.sgl_lexer.specs.declared.lexeme.TokenKind.TheVariants as kinds
use Rattle.sgl_lexer.specs.declared.vocabulary.Word.{Word}
use Rattle.sgl_lexer.specs.declared.vocabulary.Word.TheVariants as words
use Rattle.sgl_tree.specs.declared.expression.Expr.{Expr}
use Rattle.sgl_tree.specs.declared.expression.Name.{Name}
use Rattle.sgl_tree.specs.declared.item.Fold.{Fold}
use Rattle.sgl_tree.specs.declared.item.Item.{Item}
use Rattle.sgl_tree.specs.declared.item.Literal.{Literal}
use Rattle.sgl_tree.specs.declared.item.OnClause.{OnClause}
use Rattle.sgl_tree.specs.declared.item.Rule.{Rule}
use Rattle.sgl_tree.specs.declared.item.Spawn.{Spawn}
use Rattle.sgl_tree.specs.declared.item.Test.{Test}
use Rattle.sgl_tree.specs.declared.item.Write.{Write}
use Rattle.sgl_tree.specs.declared.statement.Stmt.{Stmt}
use Rattle.sgl_parser.specs.declared.precedence.Chain.{Chain}
use Rattle.sgl_parser.specs.Grammar as grammar
use Rattle.sgl_parser.specs.Grammar.{Part, Spells, Continues, SpellsArguments, name_of}
use Rattle.sgl_parser.specs.Scripts as scripts
use Rattle.sgl_parser.specs.Scripts.{Listing, SpellsLiteral, SpellsSort, SpellsAttribute, SpellsMoreName, SpellsParameters, SpellsHeading, SpellsPoint, SpellsCount, SpellsNearest, SpellsMeasure, SpellsFold, SpellsCircle, SpellsComparison, SpellsTest, SpellsMoreTest, SpellsTests, SpellsWhere, SpellsOtherwise, SpellsAggregate, SpellsPriority, SpellsWrite, SpellsOn, SpellsMoreOn, SpellsAction, SpellsRoutine, SpellsMain, SpellsRule, SpellsChild, SpellsSpawn, SpellsRemoval, SpellsPost, SpellsBody, SpellsItem}
use Rattle.sgl_parser.specs.Statements as statements
use Rattle.sgl_parser.specs.Statements.{SpellsValue, SpellsLet, SpellsPerform, SpellsBlock, SpellsStatements, SpellsStatement, SpellsIf, SpellsBranch}
use Rattle.sgl_tree.specs.Plain.{has_short_name, has_clause}
use Rattle.sgl_parser.proofs.EachItem.{OfEach, of_body}

-- The first tokens are those behind a front of the second.
data Behind : List Token → List Token → Type 0 where
  here : {ts : List Token} → Behind ts ts
  past : {t : Token} {us ts : List Token} → Behind us ts → Behind us (t ∷ ts)

both : {ts us vs : List Token} → Behind us ts → Behind vs us → Behind vs ts
both here q = q
both (past p) q = past (both p q)

slices_behind : (text : List ℕ) {us ts : List Token} → Behind us ts → AreSlicesOf text ts → AreSlicesOf text us
slices_behind text here h = h
slices_behind text (past p) h = slices_behind text p h.1

-- past the first of these
past_first : {t : Token} {us vs : List Token} → Behind (t ∷ vs) us → Behind vs us
past_first p = both p (past here)

listing_behind : {A : Type 0} (P : List Token → List Token → A → Type 0) {ts us : List Token} {xs : List A} → ((vs ws : List Token) (x : A) → P vs ws x → Behind ws vs) → Listing P ts us xs → Behind us ts
listing_behind P h scripts.none = here
listing_behind P h (scripts.more {ts} {us} {vs} {x} p q) = both (h ts us x p) (listing_behind P h q)

-- ---- expressions

module _ {text : List ℕ} where
  mutual
    expression_behind : {part : Part} {ts us : List Token} {e : Expr} → Spells text part ts us e → Behind us ts
    expression_behind (grammar.chained p q) = both (expression_behind p) (chain_behind q)
    expression_behind (grammar.negated k p) = past (expression_behind p)
    expression_behind (grammar.not_negated p) = expression_behind p
    expression_behind (grammar.compared p e q) = both (past_first (expression_behind p)) (expression_behind q)
    expression_behind (grammar.not_compared p) = expression_behind p
    expression_behind (grammar.minus k p) = past (expression_behind p)
    expression_behind (grammar.no_minus p) = expression_behind p
    expression_behind (grammar.a_literal h) = past here
    expression_behind (grammar.a_local k) = past here
    expression_behind (grammar.a_field k d n) = past (past (past here))
    expression_behind (grammar.a_call k o u args c) = past (past (past (past_first (arguments_behind args))))
    expression_behind (grammar.a_random k o n c) = past (past (past (past here)))
    expression_behind (grammar.bracketed k p c) = past (past_first (expression_behind p))

    chain_behind : {c : Chain} {x e : Expr} {ts us : List Token} → Continues text c x ts us e → Behind us ts
    chain_behind grammar.ends = here
    chain_behind (grammar.goes_on h p q) = past (both (expression_behind p) (chain_behind q))

    arguments_behind : {ts us : List Token} {es : List Expr} → SpellsArguments text ts us es → Behind us ts
    arguments_behind grammar.no_more = here
    arguments_behind (grammar.one_more k p q) = past (both (expression_behind p) (arguments_behind q))

  -- ---- statements

  value_behind : {ts us : List Token} {x : Expr} → SpellsValue text ts us x → Behind us ts
  value_behind (statements.a_value q c) = past_first (expression_behind q)

  let_behind : {ts us : List Token} {x : Stmt} → SpellsLet text ts us x → Behind us ts
  let_behind (statements.a_let n e q) = past (past (value_behind q))

  perform_behind : {place : Place} {ts us : List Token} {x : Stmt} → SpellsPerform text place ts us x → Behind us ts
  perform_behind (statements.a_perform n o u q c s) = past (past (past (past_first (past_first (arguments_behind q)))))

  mutual
    block_behind : {ts us : List Token} {xs : List Stmt} → SpellsBlock text ts us xs → Behind us ts
    block_behind (statements.a_block o q c) = past (past_first (statements_behind q))

    statements_behind : {ts us : List Token} {xs : List Stmt} → SpellsStatements text ts us xs → Behind us ts
    statements_behind statements.no_statements = here
    statements_behind (statements.more_statements p q) = both (statement_behind p) (statements_behind q)

    statement_behind : {ts us : List Token} {x : Stmt} → SpellsStatement text ts us x → Behind us ts
    statement_behind (statements.by_let h q) = past (let_behind q)
    statement_behind (statements.by_if h q) = past (if_behind q)
    statement_behind (statements.by_perform h q) = past (perform_behind q)

    if_behind : {ts us : List Token} {x : Stmt} → SpellsIf text ts us x → Behind us ts
    if_behind (statements.an_if p q r) = both (expression_behind p) (both (block_behind q) (branch_behind r))

    branch_behind : {ts us : List Token} {xs : List Stmt} → SpellsBranch text ts us xs → Behind us ts
    branch_behind statements.no_else = here
    branch_behind (statements.an_else h q) = past (block_behind q)

-- ---- items

literal_behind : {ts us : List Token} {x : Literal} → SpellsLiteral ts us x → Behind us ts
literal_behind (scripts.plain n) = past here
literal_behind (scripts.negative m n) = past (past here)

sort_behind : {ts us : List Token} {t : Option Tag} {init : Option Literal} → SpellsSort ts us t init → Behind us ts
sort_behind (scripts.a_const k c) = past (past here)
sort_behind (scripts.an_effect k e q c) = past (past (past_first (literal_behind q)))

otherwise_behind : {ts us : List Token} {x : Option (Place × Literal)} → SpellsOtherwise ts us x → Behind us ts
otherwise_behind scripts.no_otherwise = here
otherwise_behind (scripts.an_otherwise h q) = past (literal_behind q)

module _ {text : List ℕ} where
  attribute_behind : {ts us : List Token} {x : Item} → SpellsAttribute text ts us x → Behind us ts
  attribute_behind (scripts.an_attribute n q) = past (sort_behind q)

  more_name_behind : {ts us : List Token} {x : Name} → SpellsMoreName text ts us x → Behind us ts
  more_name_behind (scripts.one_name c n) = past (past here)

  parameters_behind : {ts us : List Token} {xs : List Name} → SpellsParameters text ts us xs → Behind us ts
  parameters_behind (scripts.parameters o n q c) = past (past (past_first (listing_behind (SpellsMoreName text) (λ vs ws x p. more_name_behind p) q)))

  heading_behind : {ts us : List Token} {x : Name × List Name} → SpellsHeading text ts us x → Behind us ts
  heading_behind (scripts.a_heading n p) = past (parameters_behind p)

  point_behind : {ts us : List Token} {x : Name × Name} → SpellsPoint text ts us x → Behind us ts
  point_behind (scripts.a_point o x m y) = past (past (past (past here)))

  count_behind : {place : Place} {ts us : List Token} {x : Fold} → SpellsCount text place ts us x → Behind us ts
  count_behind (scripts.a_count n) = past here

  nearest_behind : {place : Place} {ts us : List Token} {x : Fold} → SpellsNearest text place ts us x → Behind us ts
  nearest_behind (scripts.a_nearest n p c) = past (past_first (point_behind p))

  measure_behind : {ts us : List Token} {x : Fold} → SpellsMeasure text ts us x → Behind us ts
  measure_behind (scripts.a_measure h n d a) = past (past (past (past here)))

  fold_behind : {ts us : List Token} {x : Fold} → SpellsFold text ts us x → Behind us ts
  fold_behind (scripts.by_count h q) = past (count_behind q)
  fold_behind (scripts.by_nearest h q) = past (nearest_behind q)
  fold_behind (scripts.by_measure q) = measure_behind q

  circle_behind : {place : Place} {ts us : List Token} {x : Test} → SpellsCircle text place ts us x → Behind us ts
  circle_behind (scripts.a_circle p n q c) = both (past_first (point_behind p)) (past_first (expression_behind q))

  comparison_behind : {ts us : List Token} {x : Test} → SpellsComparison text ts us x → Behind us ts
  comparison_behind (scripts.a_comparison n d a k q) = past (past (past (past (expression_behind q))))

  test_behind : {ts us : List Token} {x : Test} → SpellsTest text ts us x → Behind us ts
  test_behind (scripts.by_circle h q) = past (circle_behind q)
  test_behind (scripts.by_comparison q) = comparison_behind q

  more_test_behind : {ts us : List Token} {x : Test} → SpellsMoreTest text ts us x → Behind us ts
  more_test_behind (scripts.one_test h q) = past (test_behind q)

  tests_behind : {ts us : List Token} {xs : List Test} → SpellsTests text ts us xs → Behind us ts
  tests_behind (scripts.tests p q) = both (test_behind p) (listing_behind (SpellsMoreTest text) (λ vs ws x h. more_test_behind h) q)

  where_behind : {ts us : List Token} {xs : List Test} → SpellsWhere text ts us xs → Behind us ts
  where_behind scripts.no_where = here
  where_behind (scripts.a_where h q) = past (tests_behind q)

  aggregate_behind : {ts us : List Token} {x : Item} → SpellsAggregate text ts us x → Behind us ts
  aggregate_behind (scripts.an_aggregate h e f w o c) = both (past_first (heading_behind h)) (both (fold_behind f) (both (where_behind w) (past_first (otherwise_behind o))))

  priority_behind : {ts us : List Token} {x : Option (Place × Expr)} → SpellsPriority text ts us x → Behind us ts
  priority_behind scripts.no_priority = here
  priority_behind (scripts.a_priority h q) = past (expression_behind q)

  write_behind : {ts us : List Token} {x : Write} → SpellsWrite text ts us x → Behind us ts
  write_behind (scripts.a_write n e q p c) = past (past (both (expression_behind q) (past_first (priority_behind p))))

  on_behind : {place : Place} {ts us : List Token} {x : OnClause} → SpellsOn text place ts us x → Behind us ts
  on_behind (scripts.a_clause n w o p q c) = past (both (past_first (where_behind w)) (both (write_behind p) (past_first (listing_behind (SpellsWrite text) (λ vs ws x h. write_behind h) q))))

  more_on_behind : {ts us : List Token} {x : OnClause} → SpellsMoreOn text ts us x → Behind us ts
  more_on_behind (scripts.one_on h q) = past (on_behind q)

  action_behind : {ts us : List Token} {x : Item} → SpellsAction text ts us x → Behind us ts
  action_behind (scripts.an_action h o q) = both (heading_behind h) (both (more_on_behind o) (listing_behind (SpellsMoreOn text) (λ vs ws x i. more_on_behind i) q))

  routine_behind : {ts us : List Token} {x : Item} → SpellsRoutine text ts us x → Behind us ts
  routine_behind (scripts.a_routine h q) = both (heading_behind h) (block_behind q)

  main_behind : {place : Place} {ts us : List Token} {x : Item} → SpellsMain text place ts us x → Behind us ts
  main_behind (scripts.a_main o n c q) = past (past (past (block_behind q)))

  rule_behind : {ts us : List Token} {x : Rule} → SpellsRule text ts us x → Behind us ts
  rule_behind (scripts.a_rule n e q) = past (past (value_behind q))

  rules_behind : {ts us : List Token} {xs : List Rule} → Listing (SpellsRule text) ts us xs → Behind us ts
  rules_behind q = listing_behind (SpellsRule text) (λ vs ws x h. rule_behind h) q

  child_behind : {ts us : List Token} {x : Spawn} → SpellsChild text ts us x → Behind us ts
  child_behind (scripts.a_child w q o p c) = past (both (past_first (expression_behind q)) (past_first (rules_behind p)))

  spawn_behind : {ts us : List Token} {x : Option Spawn} → SpellsSpawn text ts us x → Behind us ts
  spawn_behind scripts.no_spawn = here
  spawn_behind (scripts.a_spawn s q) = past (child_behind q)

  removal_behind : {ts us : List Token} {x : Option Expr} → SpellsRemoval text ts us x → Behind us ts
  removal_behind scripts.no_removal = here
  removal_behind (scripts.a_removal r w q) = past (past (value_behind q))

  post_behind : {place : Place} {ts us : List Token} {x : Item} → SpellsPost text place ts us x → Behind us ts
  post_behind (scripts.a_post o p s r c) = past (both (rules_behind p) (both (spawn_behind s) (past_first (removal_behind r))))

body_behind : (text : List ℕ) (w : Word) (place : Place) (ts us : List Token) (x : Item) → SpellsBody text w place ts us x → Behind us ts
body_behind text =
    let each : OfEach text (λ w ts us. Behind us ts) = record { attribute = λ ts us x q. attribute_behind q; aggregate = λ ts us x q. aggregate_behind q; action = λ ts us x q. action_behind q; routine = λ ts us x q. routine_behind q; main = λ place ts us x q. main_behind q; post = λ place ts us x q. post_behind q } in
    of_body text (λ w ts us. Behind us ts) each

-- ---- what a spelled item keeps

-- the bytes of a name are those of a token
name_fits : (text : List ℕ) (n : Token) → n.kind ≡ kinds.Name → IsSliceOf text n → length (take (n.end - n.start) (drop n.start text)) ≤ 31
name_fits text n kind s =
    let few : n.end - n.start ≤ 31 = subst (λ k. Fits k (n.end - n.start)) kind s.fits in
    omega (arith, few, length-take (n.end - n.start) (drop n.start text))

attribute_short : (text : List ℕ) {ts us : List Token} {x : Item} → SpellsAttribute text ts us x → AreSlicesOf text ts → has_short_name x ≡ true
attribute_short text (scripts.an_attribute {n} kind q) h = let few = name_fits text n kind h.0 in grind (arith, nat_tests, few)

body_short : (text : List ℕ) (w : Word) (place : Place) (ts us : List Token) (x : Item) → SpellsBody text w place ts us x → AreSlicesOf text ts → has_short_name x ≡ true
body_short text words.Attr place ts us x q h = attribute_short text q h
body_short text words.Aggregate place ts us x (scripts.an_aggregate d e f w o c) h = refl
body_short text words.Action place ts us x (scripts.an_action d o q) h = refl
body_short text words.Routine place ts us x (scripts.a_routine d q) h = refl
body_short text words.Main place ts us x (scripts.a_main o n c q) h = refl
body_short text words.Post place ts us x (scripts.a_post o p s r c) h = refl
body_short text _ place ts us x q h = absurd q

body_clauses : (text : List ℕ) (w : Word) (place : Place) (ts us : List Token) (x : Item) → SpellsBody text w place ts us x → has_clause x ≡ true
body_clauses text words.Attr place ts us x (scripts.an_attribute n q) = refl
body_clauses text words.Aggregate place ts us x (scripts.an_aggregate d e f w o c) = refl
body_clauses text words.Action place ts us x (scripts.an_action d o q) = grind (arith, nat_tests)
body_clauses text words.Routine place ts us x (scripts.a_routine d q) = refl
body_clauses text words.Main place ts us x (scripts.a_main o n c q) = refl
body_clauses text words.Post place ts us x (scripts.a_post o p s r c) = refl
body_clauses text _ place ts us x q = absurd q

item_short : (text : List ℕ) (ts us : List Token) (x : Item) → SpellsItem text ts us x → AreSlicesOf text ts → has_short_name x ≡ true
item_short text _ us x (scripts.an_item {t} {word} {ts} k q) h = body_short text word t.place ts us x q h.1

item_clauses : (text : List ℕ) (ts us : List Token) (x : Item) → SpellsItem text ts us x → has_clause x ≡ true
item_clauses text _ us x (scripts.an_item {t} {word} {ts} k q) = body_clauses text word t.place ts us x q

item_behind : (text : List ℕ) (ts us : List Token) (x : Item) → SpellsItem text ts us x → Behind us ts
item_behind text _ us x (scripts.an_item {t} {word} {ts} k q) = past (body_behind text word t.place ts us x q)

-- the names of the attributes of a script that a text spells are short
pub names_short : (text : List ℕ) {ts us : List Token} {xs : List Item} → Listing (SpellsItem text) ts us xs → AreSlicesOf text ts → list_all has_short_name xs ≡ true
names_short text scripts.none h = refl
names_short text (scripts.more {ts} {us} {vs} {x} {xs} p q) h =
    let first = item_short text ts us x p h in
    let rest = names_short text q (slices_behind text (item_behind text ts us x p) h) in
    rw (first, rest) refl

-- and its actions have clauses
pub actions_have_clauses : (text : List ℕ) {ts us : List Token} {xs : List Item} → Listing (SpellsItem text) ts us xs → list_all has_clause xs ≡ true
actions_have_clauses text scripts.none = refl
actions_have_clauses text (scripts.more {ts} {us} {vs} {x} {xs} p q) =
    let first = item_clauses text ts us x p in
    let rest = actions_have_clauses text q in
    rw (first, rest) refl
