-- What spells a script has the shape of one.
use Rattle.std.proofs.Common.{◌≡◌, ℕ, Bool, true, List, [], ◌∷◌, Option, refl, ap}
use Rattle.std.specs.Option.{is_some}
use Rattle.sgl_values.specs.declared.place.Place.{Place}
use Rattle.sgl_values.specs.declared.fault.Tag.{Tag}
use Rattle.sgl_tree.specs.declared.expression.Expr.{Expr}
use Rattle.sgl_tree.specs.declared.expression.Name.{Name}
use Rattle.sgl_tree.specs.declared.item.Fold.{Fold}
use Rattle.sgl_tree.specs.declared.item.Item.{Item}
use Rattle.sgl_tree.specs.declared.item.Literal.{Literal}
use Rattle.sgl_tree.specs.declared.item.OnClause.{OnClause}
use Rattle.sgl_tree.specs.declared.item.Rule.{Rule}
use Rattle.sgl_tree.specs.declared.item.Spawn.{Spawn}
use Rattle.sgl_tree.specs.declared.item.Test.{Test}
use Rattle.sgl_tree.specs.declared.item.Write.{Write}
use Rattle.sgl_tree.specs.declared.statement.Stmt.{Stmt}
use Rattle.sgl_lexer.specs.declared.lexeme.Token.{Token}
use Rattle.sgl_lexer.specs.declared.lexeme.TokenKind.{TokenKind}
use Rattle.sgl_lexer.specs.declared.lexeme.TokenKind.TheVariants as kinds
use Rattle.sgl_lexer.specs.declared.vocabulary.Word.{Word}
use Rattle.sgl_lexer.specs.declared.vocabulary.Word.TheVariants as words
use Rattle.sgl_parser.specs.Breaks.{Relation, Then, OneOf, Before, Many, done, this, that, omitted, given, none, more}
use Rattle.sgl_parser.specs.ItemShape.{LiteralShape, SortShape, MoreNameShape, ParametersShape, HeadingShape, PointShape, CountShape, NearestShape, MeasureShape, FoldShape, CircleShape, ComparisonShape, TestShape, MoreTestShape, TestsShape, WhereShape, OtherwiseShape, AggregateShape, PriorityShape, WriteShape, OnShape, ActionShape, RoutineShape, MainShape, RuleShape, ChildShape, SpawnShape, RemovalShape, PostShape, AttributeShape, ItemBody, ItemShape}
use Rattle.sgl_parser.specs.Operators.{is_number}
use Rattle.sgl_parser.specs.Scripts as scripts
use Rattle.sgl_parser.specs.Scripts.{Listing, SpellsLiteral, SpellsSort, SpellsAttribute, SpellsMoreName, SpellsParameters, SpellsHeading, SpellsPoint, SpellsCount, SpellsNearest, SpellsMeasure, SpellsFold, SpellsCircle, SpellsComparison, SpellsTest, SpellsMoreTest, SpellsTests, SpellsWhere, SpellsOtherwise, SpellsAggregate, SpellsPriority, SpellsWrite, SpellsOn, SpellsMoreOn, SpellsAction, SpellsRoutine, SpellsMain, SpellsRule, SpellsChild, SpellsSpawn, SpellsRemoval, SpellsPost, SpellsBody, SpellsItem}
use Rattle.sgl_parser.specs.Shape.{kinds_of}
use Rattle.sgl_parser.specs.StatementShape.{BlockShape, StatementsShape, StatementShape, BranchShape, ValueShape, LetShape, IfShape, PerformShape, no_statements, more_statements, no_else}
use Rattle.sgl_parser.specs.Statements as statements
use Rattle.sgl_parser.specs.Statements.{SpellsValue, SpellsLet, SpellsPerform, SpellsBlock, SpellsStatements, SpellsStatement, SpellsIf, SpellsBranch}
use Rattle.sgl_parser.proofs.Blocks.{block_same, statement_same, branch_same}
use Rattle.sgl_parser.proofs.EachItem.{OfEach, of_body}
use Rattle.sgl_parser.proofs.Shapes.{shape_of, shape_of_arguments}

-- ---- parts put together

one : {j k : TokenKind} {G : Relation} {ks ms : List TokenKind} → j ≡ k → G ks ms → Then k G (j ∷ ks) ms
one {ks = ks} h g = record { rest = ks; list = ap (λ w. w ∷ ks) h; behind = g }

some : {is : TokenKind → Bool} {G : Relation} {j : TokenKind} {ks ms : List TokenKind} → is j ≡ true → G ks ms → OneOf is G (j ∷ ks) ms
some {j = j} {ks = ks} h g = record { kind = j; rest = ks; list = refl; of = h; behind = g }

both : {G H : Relation} {ks ms : List TokenKind} (ls : List TokenKind) → G ks ls → H ls ms → Before G H ks ms
both ls g h = record { middle = ls; first = g; second = h }

listing_shape : {A : Type 0} (Part : List Token → List Token → A → Type 0) (G : Relation) {ts us : List Token} {xs : List A} → ((vs ws : List Token) (x : A) → Part vs ws x → G (kinds_of vs) (kinds_of ws)) → Listing Part ts us xs → Many G (kinds_of ts) (kinds_of us)
listing_shape Part G h scripts.none = none
listing_shape Part G h (scripts.more {ts} {us} {vs} {x} p q) = more (h ts us x p) (listing_shape Part G h q)

-- ---- statements

module _ {text : List ℕ} where
  value_shape : {ts us : List Token} {x : Expr} → SpellsValue text ts us x → ValueShape (kinds_of ts) (kinds_of us)
  value_shape (statements.a_value q c) = both _ (shape_of q) (one c done)

  let_shape : {ts us : List Token} {x : Stmt} → SpellsLet text ts us x → LetShape (kinds_of ts) (kinds_of us)
  let_shape (statements.a_let n e q) = one n (one e (value_shape q))

  perform_shape : {place : Place} {ts us : List Token} {x : Stmt} → SpellsPerform text place ts us x → PerformShape (kinds_of ts) (kinds_of us)
  perform_shape (statements.a_perform n o u q c s) = one n (one o (one u (both _ (shape_of_arguments q) (one c (one s done)))))

  mutual
    pub block_shape : {ts us : List Token} {xs : List Stmt} → SpellsBlock text ts us xs → BlockShape (kinds_of ts) (kinds_of us)
    block_shape (statements.a_block o q c) = (block_same []).into _ _ (one o (both _ (statements_shape q) (one c done)))

    statements_shape : {ts us : List Token} {xs : List Stmt} → SpellsStatements text ts us xs → StatementsShape (kinds_of ts) (kinds_of us)
    statements_shape statements.no_statements = no_statements
    statements_shape (statements.more_statements p q) = more_statements (statement_shape p) (statements_shape q)

    statement_shape : {ts us : List Token} {x : Stmt} → SpellsStatement text ts us x → StatementShape (kinds_of ts) (kinds_of us)
    statement_shape (statements.by_let {t} {ts} h q) = (statement_same []).into _ _ (record { word = words.Let; rest = kinds_of ts; list = ap (λ w. w ∷ kinds_of ts) h; behind = let_shape q })
    statement_shape (statements.by_if {t} {ts} h q) = (statement_same []).into _ _ (record { word = words.If; rest = kinds_of ts; list = ap (λ w. w ∷ kinds_of ts) h; behind = if_shape q })
    statement_shape (statements.by_perform {t} {ts} h q) = (statement_same []).into _ _ (record { word = words.Perform; rest = kinds_of ts; list = ap (λ w. w ∷ kinds_of ts) h; behind = perform_shape q })

    if_shape : {ts us : List Token} {x : Stmt} → SpellsIf text ts us x → IfShape (kinds_of ts) (kinds_of us)
    if_shape (statements.an_if p q r) = both _ (shape_of p) (both _ (block_shape q) (branch_shape r))

    branch_shape : {ts us : List Token} {xs : List Stmt} → SpellsBranch text ts us xs → BranchShape (kinds_of ts) (kinds_of us)
    branch_shape statements.no_else = no_else
    branch_shape (statements.an_else h q) = (branch_same []).into _ _ (given (one h (block_shape q)))

-- ---- items

literal_shape : {ts us : List Token} {x : Literal} → SpellsLiteral ts us x → LiteralShape (kinds_of ts) (kinds_of us)
literal_shape (scripts.plain n) = that (some (ap is_number n) done)
literal_shape (scripts.negative m n) = this (one m (some (ap is_number n) done))

sort_shape : {ts us : List Token} {t : Option Tag} {init : Option Literal} → SpellsSort ts us t init → SortShape (kinds_of ts) (kinds_of us)
sort_shape (scripts.a_const k c) = this (one k (one c done))
sort_shape (scripts.an_effect k e q c) = that (some (ap is_some k) (one e (both _ (literal_shape q) (one c done))))

otherwise_shape : {ts us : List Token} {x : Option (Place × Literal)} → SpellsOtherwise ts us x → OtherwiseShape (kinds_of ts) (kinds_of us)
otherwise_shape scripts.no_otherwise = omitted
otherwise_shape (scripts.an_otherwise h q) = given (one h (literal_shape q))

module _ {text : List ℕ} where
  attribute_shape : {ts us : List Token} {x : Item} → SpellsAttribute text ts us x → AttributeShape (kinds_of ts) (kinds_of us)
  attribute_shape (scripts.an_attribute n q) = one n (sort_shape q)

  more_name_shape : {ts us : List Token} {x : Name} → SpellsMoreName text ts us x → MoreNameShape (kinds_of ts) (kinds_of us)
  more_name_shape (scripts.one_name c n) = one c (one n done)

  parameters_shape : {ts us : List Token} {xs : List Name} → SpellsParameters text ts us xs → ParametersShape (kinds_of ts) (kinds_of us)
  parameters_shape (scripts.parameters o n q c) = one o (one n (both _ (listing_shape (SpellsMoreName text) MoreNameShape (λ vs ws x p. more_name_shape p) q) (one c done)))

  heading_shape : {ts us : List Token} {x : Name × List Name} → SpellsHeading text ts us x → HeadingShape (kinds_of ts) (kinds_of us)
  heading_shape (scripts.a_heading n p) = one n (parameters_shape p)

  point_shape : {ts us : List Token} {x : Name × Name} → SpellsPoint text ts us x → PointShape (kinds_of ts) (kinds_of us)
  point_shape (scripts.a_point o x m y) = one o (one x (one m (one y done)))

  count_shape : {place : Place} {ts us : List Token} {x : Fold} → SpellsCount text place ts us x → CountShape (kinds_of ts) (kinds_of us)
  count_shape (scripts.a_count n) = one n done

  nearest_shape : {place : Place} {ts us : List Token} {x : Fold} → SpellsNearest text place ts us x → NearestShape (kinds_of ts) (kinds_of us)
  nearest_shape (scripts.a_nearest n p c) = one n (both _ (point_shape p) (one c done))

  measure_shape : {ts us : List Token} {x : Fold} → SpellsMeasure text ts us x → MeasureShape (kinds_of ts) (kinds_of us)
  measure_shape (scripts.a_measure h n d a) = some (ap is_some h) (one n (one d (one a done)))

  fold_shape : {ts us : List Token} {x : Fold} → SpellsFold text ts us x → FoldShape (kinds_of ts) (kinds_of us)
  fold_shape (scripts.by_count h q) = this (one h (count_shape q))
  fold_shape (scripts.by_nearest h q) = that (this (one h (nearest_shape q)))
  fold_shape (scripts.by_measure q) = that (that (measure_shape q))

  circle_shape : {place : Place} {ts us : List Token} {x : Test} → SpellsCircle text place ts us x → CircleShape (kinds_of ts) (kinds_of us)
  circle_shape (scripts.a_circle p n q c) = both _ (point_shape p) (one n (both _ (shape_of q) (one c done)))

  comparison_shape : {ts us : List Token} {x : Test} → SpellsComparison text ts us x → ComparisonShape (kinds_of ts) (kinds_of us)
  comparison_shape (scripts.a_comparison n d a k q) = one n (one d (one a (some (ap is_some k) (shape_of q))))

  test_shape : {ts us : List Token} {x : Test} → SpellsTest text ts us x → TestShape (kinds_of ts) (kinds_of us)
  test_shape (scripts.by_circle h q) = this (one h (circle_shape q))
  test_shape (scripts.by_comparison q) = that (comparison_shape q)

  more_test_shape : {ts us : List Token} {x : Test} → SpellsMoreTest text ts us x → MoreTestShape (kinds_of ts) (kinds_of us)
  more_test_shape (scripts.one_test h q) = one h (test_shape q)

  tests_shape : {ts us : List Token} {xs : List Test} → SpellsTests text ts us xs → TestsShape (kinds_of ts) (kinds_of us)
  tests_shape (scripts.tests p q) = both _ (test_shape p) (listing_shape (SpellsMoreTest text) MoreTestShape (λ vs ws x h. more_test_shape h) q)

  where_shape : {ts us : List Token} {xs : List Test} → SpellsWhere text ts us xs → WhereShape (kinds_of ts) (kinds_of us)
  where_shape scripts.no_where = omitted
  where_shape (scripts.a_where h q) = given (one h (tests_shape q))

  aggregate_shape : {ts us : List Token} {x : Item} → SpellsAggregate text ts us x → AggregateShape (kinds_of ts) (kinds_of us)
  aggregate_shape (scripts.an_aggregate h e f w o c) = both _ (heading_shape h) (one e (both _ (fold_shape f) (both _ (where_shape w) (both _ (otherwise_shape o) (one c done)))))

  priority_shape : {ts us : List Token} {x : Option (Place × Expr)} → SpellsPriority text ts us x → PriorityShape (kinds_of ts) (kinds_of us)
  priority_shape scripts.no_priority = omitted
  priority_shape (scripts.a_priority h q) = given (one h (shape_of q))

  write_shape : {ts us : List Token} {x : Write} → SpellsWrite text ts us x → WriteShape (kinds_of ts) (kinds_of us)
  write_shape (scripts.a_write n e q p c) = one n (one e (both _ (shape_of q) (both _ (priority_shape p) (one c done))))

  on_shape : {place : Place} {ts us : List Token} {x : OnClause} → SpellsOn text place ts us x → OnShape (kinds_of ts) (kinds_of us)
  on_shape (scripts.a_clause n w o p q c) =
      one n (both _ (where_shape w) (one o (both _ (write_shape p) (both _ (listing_shape (SpellsWrite text) WriteShape (λ vs ws x h. write_shape h) q) (one c done)))))

  more_on_shape : {ts us : List Token} {x : OnClause} → SpellsMoreOn text ts us x → Then (kinds.Word words.On) OnShape (kinds_of ts) (kinds_of us)
  more_on_shape (scripts.one_on h q) = one h (on_shape q)

  action_shape : {ts us : List Token} {x : Item} → SpellsAction text ts us x → ActionShape (kinds_of ts) (kinds_of us)
  action_shape (scripts.an_action h o q) =
      let first = more_on_shape o in
      both _ (heading_shape h) (record { rest = first.rest; list = first.list; behind = both _ first.behind (listing_shape (SpellsMoreOn text) (Then (kinds.Word words.On) OnShape) (λ vs ws x i. more_on_shape i) q) })

  routine_shape : {ts us : List Token} {x : Item} → SpellsRoutine text ts us x → RoutineShape (kinds_of ts) (kinds_of us)
  routine_shape (scripts.a_routine h q) = both _ (heading_shape h) (block_shape q)

  main_shape : {place : Place} {ts us : List Token} {x : Item} → SpellsMain text place ts us x → MainShape (kinds_of ts) (kinds_of us)
  main_shape (scripts.a_main o n c q) = one o (one n (one c (block_shape q)))

  rule_shape : {ts us : List Token} {x : Rule} → SpellsRule text ts us x → RuleShape (kinds_of ts) (kinds_of us)
  rule_shape (scripts.a_rule n e q) = one n (one e (value_shape q))

  rules_shape : {ts us : List Token} {xs : List Rule} → Listing (SpellsRule text) ts us xs → Many RuleShape (kinds_of ts) (kinds_of us)
  rules_shape q = listing_shape (SpellsRule text) RuleShape (λ vs ws x h. rule_shape h) q

  child_shape : {ts us : List Token} {x : Spawn} → SpellsChild text ts us x → ChildShape (kinds_of ts) (kinds_of us)
  child_shape (scripts.a_child w q o p c) = one w (both _ (shape_of q) (one o (both _ (rules_shape p) (one c done))))

  spawn_shape : {ts us : List Token} {x : Option Spawn} → SpellsSpawn text ts us x → SpawnShape (kinds_of ts) (kinds_of us)
  spawn_shape scripts.no_spawn = omitted
  spawn_shape (scripts.a_spawn s q) = given (one s (child_shape q))

  removal_shape : {ts us : List Token} {x : Option Expr} → SpellsRemoval text ts us x → RemovalShape (kinds_of ts) (kinds_of us)
  removal_shape scripts.no_removal = omitted
  removal_shape (scripts.a_removal r w q) = given (one r (one w (value_shape q)))

  post_shape : {place : Place} {ts us : List Token} {x : Item} → SpellsPost text place ts us x → PostShape (kinds_of ts) (kinds_of us)
  post_shape (scripts.a_post o p s r c) = one o (both _ (rules_shape p) (both _ (spawn_shape s) (both _ (removal_shape r) (one c done))))

body_shape : (text : List ℕ) (w : Word) (place : Place) (ts us : List Token) (x : Item) → SpellsBody text w place ts us x → ItemBody w (kinds_of ts) (kinds_of us)
body_shape text =
    let each : OfEach text (λ w ts us. ItemBody w (kinds_of ts) (kinds_of us)) = record { attribute = λ ts us x q. attribute_shape q; aggregate = λ ts us x q. aggregate_shape q; action = λ ts us x q. action_shape q; routine = λ ts us x q. routine_shape q; main = λ place ts us x q. main_shape q; post = λ place ts us x q. post_shape q } in
    of_body text (λ w ts us. ItemBody w (kinds_of ts) (kinds_of us)) each

module _ {text : List ℕ} where
  pub item_shape : (ts us : List Token) (x : Item) → SpellsItem text ts us x → ItemShape (kinds_of ts) (kinds_of us)
  item_shape _ us x (scripts.an_item {t} {word} {ts} h q) = record { word = word; rest = kinds_of ts; list = ap (λ w. w ∷ kinds_of ts) h; behind = body_shape text word t.place ts us x q }

  pub items_shape : {ts us : List Token} {xs : List Item} → Listing (SpellsItem text) ts us xs → Many ItemShape (kinds_of ts) (kinds_of us)
  items_shape q = listing_shape (SpellsItem text) ItemShape item_shape q
