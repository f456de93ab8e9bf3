-- Tokens whose kinds have the shape of a script spell one.
use Rattle.std.proofs.Common.{◌≡◌, ℕ, Bool, true, List, [], ◌∷◌, Option, Some, None, sym, refl, ap, subst, ◌∙◌}
use Rattle.std.specs.Option.{is_some}
use Rattle.sgl_values.specs.declared.place.Place.{Place}
use Rattle.sgl_values.specs.declared.fault.Tag.{Tag}
use Rattle.sgl_tree.specs.declared.item.Item.{Item}
use Rattle.sgl_tree.specs.declared.item.Literal.{Literal}
use Rattle.sgl_tree.specs.declared.item.Rule.{Rule}
use Rattle.sgl_tree.specs.declared.statement.Stmt.{Stmt}
use Rattle.sgl_lexer.specs.declared.lexeme.Token.{Token}
use Rattle.sgl_lexer.specs.declared.lexeme.TokenKind.{TokenKind}
use Rattle.sgl_lexer.specs.declared.lexeme.TokenKind.TheVariants as kinds
use Rattle.sgl_lexer.specs.declared.vocabulary.Word.{Word}
use Rattle.sgl_lexer.specs.declared.vocabulary.Word.TheVariants as words
use Rattle.sgl_parser.specs.Breaks.{Relation, Then, OneOf, Many, this, that, omitted, given, none, more}
use Rattle.sgl_parser.specs.Grammar.{Spells, SpellsArguments, expression, sum, name_of}
use Rattle.sgl_parser.specs.ItemShape.{LiteralShape, SortShape, MoreNameShape, ParametersShape, HeadingShape, PointShape, CountShape, NearestShape, MeasureShape, FoldShape, CircleShape, ComparisonShape, TestShape, MoreTestShape, TestsShape, WhereShape, OtherwiseShape, AggregateShape, PriorityShape, WriteShape, OnShape, ActionShape, RoutineShape, MainShape, RuleShape, ChildShape, SpawnShape, RemovalShape, PostShape, AttributeShape, ItemBody, ItemShape}
use Rattle.sgl_parser.specs.Operators.{tag, fold, comparison}
use Rattle.sgl_parser.specs.Scripts.{Listing, SpellsLiteral, SpellsSort, SpellsAttribute, SpellsMoreName, SpellsParameters, SpellsHeading, SpellsPoint, SpellsCount, SpellsNearest, SpellsMeasure, SpellsFold, SpellsCircle, SpellsComparison, SpellsTest, SpellsMoreTest, SpellsTests, SpellsWhere, SpellsOtherwise, SpellsAggregate, SpellsPriority, SpellsWrite, SpellsOn, SpellsMoreOn, SpellsAction, SpellsRoutine, SpellsMain, SpellsRule, SpellsChild, SpellsSpawn, SpellsRemoval, SpellsPost, SpellsBody, SpellsItem}
use Rattle.sgl_parser.specs.Scripts as scripts
use Rattle.sgl_parser.specs.Shape.{kinds_of}
use Rattle.sgl_parser.specs.StatementShape.{BlockShape, StatementsShape, StatementShape, BranchShape, ValueShape, LetShape, PerformShape, a_block, no_statements, more_statements, a_let, an_if, a_perform, no_else, an_else}
use Rattle.sgl_parser.specs.Statements.{SpellsValue, SpellsLet, SpellsPerform, SpellsBlock, SpellsStatements, SpellsStatement, SpellsBranch}
use Rattle.sgl_parser.specs.Statements as statements
use Rattle.sgl_parser.proofs.Blocks.{same_done}
use Rattle.sgl_parser.proofs.Randoms.{number_of}
use Rattle.sgl_parser.proofs.Shapes.{first_token, spelled, spelled_arguments}

-- ---- token by token

-- A token of a kind stands at the front of tokens, and behind it a part.
record Stands (k : TokenKind) (G : Relation) (ts : List Token) (ls : List TokenKind) : Type 0 where
  token : Token
  rest : List Token
  list : ts ≡ token ∷ rest
  kind : token.kind ≡ k
  behind : G (kinds_of rest) ls

stands : {k : TokenKind} {G : Relation} (ts : List Token) {ks ls : List TokenKind} → kinds_of ts ≡ ks → Then k G ks ls → Stands k G ts ls
stands {G = G} ts {ls = ls} e q =
    let f = first_token ts (e ∙ q.list) in
    record { token = f.0; rest = f.1; list = f.2; kind = f.3; behind = subst (λ l. G l ls) (sym f.4) q.behind }

-- the same for a token of a class
record StandsOne (is : TokenKind → Bool) (G : Relation) (ts : List Token) (ls : List TokenKind) : Type 0 where
  token : Token
  rest : List Token
  list : ts ≡ token ∷ rest
  of : is token.kind ≡ true
  behind : G (kinds_of rest) ls

stands_one : {is : TokenKind → Bool} {G : Relation} (ts : List Token) {ks ls : List TokenKind} → kinds_of ts ≡ ks → OneOf is G ks ls → StandsOne is G ts ls
stands_one {is} {G} ts {ls = ls} e q =
    let f = first_token ts (e ∙ q.list) in
    record { token = f.0; rest = f.1; list = f.2; of = subst (λ w. is w ≡ true) (sym f.3) q.of; behind = subst (λ l. G l ls) (sym f.4) q.behind }

-- Tokens up to others spell something as this part.
record Spelt {A : Type 0} (Part : List Token → List Token → A → Type 0) (ts : List Token) (ls : List TokenKind) : Type 0 where
  rest : List Token
  kinds : kinds_of rest ≡ ls
  tree : A
  spells : Part ts rest tree

-- Tokens spell what others do that equal them.
spelt_as : {A : Type 0} {Part : List Token → List Token → A → Type 0} {ts us : List Token} {ls : List TokenKind} (rest : List Token) (tree : A) → ts ≡ us → kinds_of rest ≡ ls → Part us rest tree → Spelt Part ts ls
spelt_as {Part = Part} rest tree list kinds spells = record { rest = rest; kinds = kinds; tree = tree; spells = subst (λ l. Part l rest tree) (sym list) spells }

-- They spell it up to tokens that equal the rest.
spells_to : {A : Type 0} {Part : List Token → List Token → A → Type 0} {ts us : List Token} {ls : List TokenKind} (x : Spelt Part ts ls) → x.rest ≡ us → Part ts us x.tree
spells_to {Part = Part} {ts = ts} x e = subst (λ l. Part ts l x.tree) e x.spells

-- a token, and those behind it by an equation
next : {t : Token} {ts us vs : List Token} → ts ≡ t ∷ us → us ≡ vs → ts ≡ t ∷ vs
next {t = t} e f = e ∙ ap (λ l. t ∷ l) f

-- Tokens of three kinds stand at the front of tokens, and behind them a part.
record StandsThree (i j k : TokenKind) (G : Relation) (ts : List Token) (ls : List TokenKind) : Type 0 where
  first : Token
  second : Token
  third : Token
  rest : List Token
  list : ts ≡ first ∷ second ∷ third ∷ rest
  first_kind : first.kind ≡ i
  second_kind : second.kind ≡ j
  third_kind : third.kind ≡ k
  behind : G (kinds_of rest) ls

stands_three : {i j k : TokenKind} {G : Relation} (ts : List Token) {ks ls : List TokenKind} → kinds_of ts ≡ ks → Then i (Then j (Then k G)) ks ls → StandsThree i j k G ts ls
stands_three ts e q =
    let a = stands ts e q in
    let b = stands a.rest refl a.behind in
    let c = stands b.rest refl b.behind in
    record {
      first = a.token;
      second = b.token;
      third = c.token;
      rest = c.rest;
      list = next a.list (next b.list c.list);
      first_kind = a.kind;
      second_kind = b.kind;
      third_kind = c.kind;
      behind = c.behind;
    }

next_three : {i j k : TokenKind} {G : Relation} {ts us : List Token} {ls : List TokenKind} (p : StandsThree i j k G ts ls) → p.rest ≡ us → ts ≡ p.first ∷ p.second ∷ p.third ∷ us
next_three p e = p.list ∙ ap (λ l. p.first ∷ p.second ∷ p.third ∷ l) e

-- A token of a kind and a part behind it spell what the part does, with the token.
spelt_then : {A B : Type 0} {Part : List Token → List Token → A → Type 0} {Whole : List Token → List Token → B → Type 0} {k : TokenKind} {G : Relation} (tree : Token → A → B) → ((t : Token) (us vs : List Token) (x : A) → t.kind ≡ k → Part us vs x → Whole (t ∷ us) vs (tree t x)) → ((us : List Token) (ms : List TokenKind) → G (kinds_of us) ms → Spelt Part us ms) → (ts : List Token) {ks ls : List TokenKind} → kinds_of ts ≡ ks → Then k G ks ls → Spelt Whole ts ls
spelt_then tree spells part ts {ls = ls} e q =
    let t = stands ts e q in
    let x = part t.rest ls t.behind in
    spelt_as x.rest (tree t.token x.tree) t.list x.kinds (spells t.token t.rest x.rest x.tree t.kind x.spells)

some_value : {A : Type 0} (o : Option A) → is_some o ≡ true → (x : A) × (o ≡ Some x)
some_value None h = absurd (cc)
some_value (Some x) h = (x, refl)

spelt_listing : {A : Type 0} (Part : List Token → List Token → A → Type 0) (G : Relation) {ks ls : List TokenKind} → ((ts : List Token) (ms : List TokenKind) → G (kinds_of ts) ms → Spelt Part ts ms) → Many G ks ls → (ts : List Token) → kinds_of ts ≡ ks → Spelt (Listing Part) ts ls
spelt_listing Part G h none ts e = record { rest = ts; kinds = e; tree = []; spells = scripts.none }
spelt_listing Part G h (more {ls = ms} g m) ts e =
    let x = h ts ms (subst (λ l. G l ms) (sym e) g) in
    let xs = spelt_listing Part G h m x.rest x.kinds in
    record { rest = xs.rest; kinds = xs.kinds; tree = x.tree ∷ xs.tree; spells = scripts.more x.spells xs.spells }

-- ---- statements

module _ (text : List ℕ) where
  spelt_value : (ts : List Token) {ks ls : List TokenKind} → kinds_of ts ≡ ks → ValueShape ks ls → Spelt (SpellsValue text) ts ls
  spelt_value ts e q =
      let x = spelled text q.first ts e in
      let c = stands x.0 x.1 q.second in
      record { rest = c.rest; kinds = same_done c.behind; tree = x.2; spells = statements.a_value (subst (λ l. Spells text expression ts l x.2) c.list x.3) c.kind }

  spelt_let : (ts : List Token) {ks ls : List TokenKind} → kinds_of ts ≡ ks → LetShape ks ls → Spelt (SpellsLet text) ts ls
  spelt_let ts e q =
      let n = stands ts e q in
      let i = stands n.rest refl n.behind in
      let x = spelt_value i.rest refl i.behind in
      spelt_as x.rest _ (next n.list i.list) x.kinds (statements.a_let n.kind i.kind x.spells)

  spelt_perform : (place : Place) (ts : List Token) {ks ls : List TokenKind} → kinds_of ts ≡ ks → PerformShape ks ls → Spelt (SpellsPerform text place) ts ls
  spelt_perform place ts e q =
      let p = stands_three ts e q in
      let x = spelled_arguments text p.behind.first p.rest refl in
      let c = stands x.0 x.1 p.behind.second in
      let s = stands c.rest refl c.behind in
      spelt_as s.rest _ p.list (same_done s.behind) (statements.a_perform p.first_kind p.second_kind p.third_kind (subst (λ l. SpellsArguments text p.rest l x.2) (next c.list s.list) x.3) c.kind s.kind)

  mutual
    spelt_block : (ts : List Token) {ks ls : List TokenKind} → kinds_of ts ≡ ks → BlockShape ks ls → Spelt (SpellsBlock text) ts ls
    spelt_block ts e (a_block q) =
        let o = first_token ts e in
        let x = spelt_statements o.1 o.4 q in
        let c = first_token x.rest x.kinds in
        spelt_as c.1 _ o.2 c.4 (statements.a_block o.3 (spells_to x c.2) c.3)

    spelt_statements : (ts : List Token) {ks ls : List TokenKind} → kinds_of ts ≡ ks → StatementsShape ks ls → Spelt (SpellsStatements text) ts ls
    spelt_statements ts e no_statements = record { rest = ts; kinds = e; tree = []; spells = statements.no_statements }
    spelt_statements ts e (more_statements q m) =
        let x = spelt_statement ts e q in
        let xs = spelt_statements x.rest x.kinds m in
        record { rest = xs.rest; kinds = xs.kinds; tree = x.tree ∷ xs.tree; spells = statements.more_statements x.spells xs.spells }

    spelt_statement : (ts : List Token) {ks ls : List TokenKind} → kinds_of ts ≡ ks → StatementShape ks ls → Spelt (SpellsStatement text) ts ls
    spelt_statement ts e (a_let q) =
        let w = first_token ts e in
        let x = spelt_let w.1 w.4 q in
        spelt_as x.rest _ w.2 x.kinds (statements.by_let w.3 x.spells)
    spelt_statement ts e (an_if p b r) =
        let w = first_token ts e in
        let x = spelled text p w.1 w.4 in
        let y = spelt_block x.0 x.1 b in
        let z = spelt_branch y.rest y.kinds r in
        spelt_as z.rest _ w.2 z.kinds (statements.by_if w.3 (statements.an_if x.3 y.spells z.spells))
    spelt_statement ts e (a_perform q) =
        let w = first_token ts e in
        let x = spelt_perform w.0.place w.1 w.4 q in
        spelt_as x.rest _ w.2 x.kinds (statements.by_perform w.3 x.spells)

    spelt_branch : (ts : List Token) {ks ls : List TokenKind} → kinds_of ts ≡ ks → BranchShape ks ls → Spelt (SpellsBranch text) ts ls
    spelt_branch ts e no_else = record { rest = ts; kinds = e; tree = []; spells = statements.no_else }
    spelt_branch ts e (an_else q) =
        let w = first_token ts e in
        let x = spelt_block w.1 w.4 q in
        spelt_as x.rest _ w.2 x.kinds (statements.an_else w.3 x.spells)

-- ---- attributes

spelt_literal : (ts : List Token) {ks ls : List TokenKind} → kinds_of ts ≡ ks → LiteralShape ks ls → Spelt SpellsLiteral ts ls
spelt_literal ts e (this q) =
    let m = stands ts e q in
    let n = stands_one m.rest refl m.behind in
    let value = number_of n.token.kind n.of in
    spelt_as n.rest _ (next m.list n.list) (same_done n.behind) (scripts.negative m.kind value.1)
spelt_literal ts e (that q) =
    let n = stands_one ts e q in
    let value = number_of n.token.kind n.of in
    spelt_as n.rest _ n.list (same_done n.behind) (scripts.plain value.1)

-- what stands behind the name of an attribute
SpellsSorts : List Token → List Token → Option Tag × Option Literal → Type 0
SpellsSorts ts us x = SpellsSort ts us x.0 x.1

spelt_sort : (ts : List Token) {ks ls : List TokenKind} → kinds_of ts ≡ ks → SortShape ks ls → Spelt SpellsSorts ts ls
unfolding SpellsSorts
spelt_sort ts e (this q) =
    let k = stands ts e q in
    let c = stands k.rest refl k.behind in
    spelt_as c.rest (None, None) (next k.list c.list) (same_done c.behind) (scripts.a_const k.kind c.kind)
spelt_sort ts e (that q) =
    let k = stands_one ts e q in
    let t = some_value (tag k.token.kind) k.of in
    let i = stands k.rest refl k.behind in
    let x = spelt_literal i.rest refl i.behind.first in
    let c = stands x.rest x.kinds i.behind.second in
    spelt_as c.rest (Some t.0, Some x.tree) (next k.list i.list) (same_done c.behind) (scripts.an_effect t.1 i.kind (spells_to x c.list) c.kind)

spelt_otherwise : (ts : List Token) {ks ls : List TokenKind} → kinds_of ts ≡ ks → OtherwiseShape ks ls → Spelt SpellsOtherwise ts ls
spelt_otherwise ts e omitted = record { rest = ts; kinds = e; tree = None; spells = scripts.no_otherwise }
spelt_otherwise ts e (given q) = spelt_then (λ w x. Some (w.place, x)) (λ w us vs x kind p. scripts.an_otherwise kind p) (λ us ms g. spelt_literal us refl g) ts e q

module _ (text : List ℕ) where
  spelt_attribute : (ts : List Token) {ks ls : List TokenKind} → kinds_of ts ≡ ks → AttributeShape ks ls → Spelt (SpellsAttribute text) ts ls
  unfolding SpellsSorts
  spelt_attribute ts e q =
      let n = stands ts e q in
      let x = spelt_sort n.rest refl n.behind in
      spelt_as x.rest _ n.list x.kinds (scripts.an_attribute n.kind x.spells)

  -- ---- aggregates

  spelt_more_name : (ts : List Token) (ls : List TokenKind) → MoreNameShape (kinds_of ts) ls → Spelt (SpellsMoreName text) ts ls
  spelt_more_name ts ls q =
      let c = stands ts refl q in
      let n = stands c.rest refl c.behind in
      spelt_as n.rest _ (next c.list n.list) (same_done n.behind) (scripts.one_name c.kind n.kind)

  spelt_parameters : (ts : List Token) {ks ls : List TokenKind} → kinds_of ts ≡ ks → ParametersShape ks ls → Spelt (SpellsParameters text) ts ls
  spelt_parameters ts e q =
      let o = stands ts e q in
      let n = stands o.rest refl o.behind in
      let x = spelt_listing (SpellsMoreName text) MoreNameShape spelt_more_name n.behind.first n.rest refl in
      let c = stands x.rest x.kinds n.behind.second in
      spelt_as c.rest _ (next o.list n.list) (same_done c.behind) (scripts.parameters o.kind n.kind (spells_to x c.list) c.kind)

  spelt_heading : (ts : List Token) {ks ls : List TokenKind} → kinds_of ts ≡ ks → HeadingShape ks ls → Spelt (SpellsHeading text) ts ls
  spelt_heading ts e q = spelt_then (λ n params. (name_of text n, params)) (λ n us vs x kind p. scripts.a_heading kind p) (λ us ms g. spelt_parameters us refl g) ts e q

  spelt_point : (ts : List Token) {ks ls : List TokenKind} → kinds_of ts ≡ ks → PointShape ks ls → Spelt (SpellsPoint text) ts ls
  spelt_point ts e q =
      let p = stands_three ts e q in
      let y = stands p.rest refl p.behind in
      spelt_as y.rest _ (next_three p y.list) (same_done y.behind) (scripts.a_point p.first_kind p.second_kind p.third_kind y.kind)

  spelt_count : (place : Place) (ts : List Token) {ks ls : List TokenKind} → kinds_of ts ≡ ks → CountShape ks ls → Spelt (SpellsCount text place) ts ls
  spelt_count place ts e q =
      let n = stands ts e q in
      spelt_as n.rest _ n.list (same_done n.behind) (scripts.a_count n.kind)

  spelt_nearest : (place : Place) (ts : List Token) {ks ls : List TokenKind} → kinds_of ts ≡ ks → NearestShape ks ls → Spelt (SpellsNearest text place) ts ls
  spelt_nearest place ts e q =
      let n = stands ts e q in
      let p = spelt_point n.rest refl n.behind.first in
      let c = stands p.rest p.kinds n.behind.second in
      spelt_as c.rest _ n.list (same_done c.behind) (scripts.a_nearest n.kind (spells_to p c.list) c.kind)

  spelt_measure : (ts : List Token) {ks ls : List TokenKind} → kinds_of ts ≡ ks → MeasureShape ks ls → Spelt (SpellsMeasure text) ts ls
  spelt_measure ts e q =
      let w = stands_one ts e q in
      let k = some_value (fold w.token.kind) w.of in
      let p = stands_three w.rest refl w.behind in
      spelt_as p.rest _ (next w.list p.list) (same_done p.behind) (scripts.a_measure k.1 p.first_kind p.second_kind p.third_kind)

  spelt_fold : (ts : List Token) {ks ls : List TokenKind} → kinds_of ts ≡ ks → FoldShape ks ls → Spelt (SpellsFold text) ts ls
  spelt_fold ts e (this q) =
      let w = stands ts e q in
      let x = spelt_count w.token.place w.rest refl w.behind in
      spelt_as x.rest _ w.list x.kinds (scripts.by_count w.kind x.spells)
  spelt_fold ts e (that (this q)) =
      let w = stands ts e q in
      let x = spelt_nearest w.token.place w.rest refl w.behind in
      spelt_as x.rest _ w.list x.kinds (scripts.by_nearest w.kind x.spells)
  spelt_fold ts e (that (that q)) =
      let x = spelt_measure ts e q in
      record { rest = x.rest; kinds = x.kinds; tree = x.tree; spells = scripts.by_measure x.spells }

  spelt_circle : (place : Place) (ts : List Token) {ks ls : List TokenKind} → kinds_of ts ≡ ks → CircleShape ks ls → Spelt (SpellsCircle text place) ts ls
  spelt_circle place ts e q =
      let p = spelt_point ts e q.first in
      let n = stands p.rest p.kinds q.second in
      let r = spelled text n.behind.first n.rest refl in
      let c = stands r.0 r.1 n.behind.second in
      record { rest = c.rest; kinds = same_done c.behind; tree = _; spells = scripts.a_circle (spells_to p n.list) n.kind (subst (λ l. Spells text sum n.rest l r.2) c.list r.3) c.kind }

  spelt_comparison : (ts : List Token) {ks ls : List TokenKind} → kinds_of ts ≡ ks → ComparisonShape ks ls → Spelt (SpellsComparison text) ts ls
  spelt_comparison ts e q =
      let p = stands_three ts e q in
      let k = stands_one p.rest refl p.behind in
      let op = some_value (comparison k.token.kind) k.of in
      let x = spelled text k.behind k.rest refl in
      spelt_as x.0 _ (next_three p k.list) x.1 (scripts.a_comparison p.first_kind p.second_kind p.third_kind op.1 x.3)

  spelt_test : (ts : List Token) {ks ls : List TokenKind} → kinds_of ts ≡ ks → TestShape ks ls → Spelt (SpellsTest text) ts ls
  spelt_test ts e (this q) =
      let w = stands ts e q in
      let x = spelt_circle w.token.place w.rest refl w.behind in
      spelt_as x.rest _ w.list x.kinds (scripts.by_circle w.kind x.spells)
  spelt_test ts e (that q) =
      let x = spelt_comparison ts e q in
      record { rest = x.rest; kinds = x.kinds; tree = x.tree; spells = scripts.by_comparison x.spells }

  spelt_more_test : (ts : List Token) (ls : List TokenKind) → MoreTestShape (kinds_of ts) ls → Spelt (SpellsMoreTest text) ts ls
  spelt_more_test ts ls q = spelt_then (λ w x. x) (λ w us vs x kind p. scripts.one_test kind p) (λ us ms g. spelt_test us refl g) ts refl q

  spelt_tests : (ts : List Token) {ks ls : List TokenKind} → kinds_of ts ≡ ks → TestsShape ks ls → Spelt (SpellsTests text) ts ls
  spelt_tests ts e q =
      let x = spelt_test ts e q.first in
      let xs = spelt_listing (SpellsMoreTest text) MoreTestShape spelt_more_test q.second x.rest x.kinds in
      record { rest = xs.rest; kinds = xs.kinds; tree = x.tree ∷ xs.tree; spells = scripts.tests x.spells xs.spells }

  spelt_where : (ts : List Token) {ks ls : List TokenKind} → kinds_of ts ≡ ks → WhereShape ks ls → Spelt (SpellsWhere text) ts ls
  spelt_where ts e omitted = record { rest = ts; kinds = e; tree = []; spells = scripts.no_where }
  spelt_where ts e (given q) = spelt_then (λ w xs. xs) (λ w us vs xs kind p. scripts.a_where kind p) (λ us ms g. spelt_tests us refl g) ts e q

  spelt_aggregate : (ts : List Token) {ks ls : List TokenKind} → kinds_of ts ≡ ks → AggregateShape ks ls → Spelt (SpellsAggregate text) ts ls
  spelt_aggregate ts e q =
      let h = spelt_heading ts e q.first in
      let i = stands h.rest h.kinds q.second in
      let f = spelt_fold i.rest refl i.behind.first in
      let w = spelt_where f.rest f.kinds i.behind.second.first in
      let o = spelt_otherwise w.rest w.kinds i.behind.second.second.first in
      let c = stands o.rest o.kinds i.behind.second.second.second in
      record { rest = c.rest; kinds = same_done c.behind; tree = _; spells = scripts.an_aggregate (spells_to h i.list) i.kind f.spells w.spells (spells_to o c.list) c.kind }

  -- ---- actions

  spelt_priority : (ts : List Token) {ks ls : List TokenKind} → kinds_of ts ≡ ks → PriorityShape ks ls → Spelt (SpellsPriority text) ts ls
  spelt_priority ts e omitted = record { rest = ts; kinds = e; tree = None; spells = scripts.no_priority }
  spelt_priority ts e (given q) =
      let w = stands ts e q in
      let x = spelled text w.behind w.rest refl in
      spelt_as x.0 _ w.list x.1 (scripts.a_priority w.kind x.3)

  spelt_write : (ts : List Token) {ks ls : List TokenKind} → kinds_of ts ≡ ks → WriteShape ks ls → Spelt (SpellsWrite text) ts ls
  spelt_write ts e q =
      let n = stands ts e q in
      let i = stands n.rest refl n.behind in
      let x = spelled text i.behind.first i.rest refl in
      let p = spelt_priority x.0 x.1 i.behind.second.first in
      let c = stands p.rest p.kinds i.behind.second.second in
      spelt_as c.rest _ (next n.list i.list) (same_done c.behind) (scripts.a_write n.kind i.kind x.3 (spells_to p c.list) c.kind)

  spelt_on : (place : Place) (ts : List Token) {ks ls : List TokenKind} → kinds_of ts ≡ ks → OnShape ks ls → Spelt (SpellsOn text place) ts ls
  spelt_on place ts e q =
      let n = stands ts e q in
      let w = spelt_where n.rest refl n.behind.first in
      let o = stands w.rest w.kinds n.behind.second in
      let x = spelt_write o.rest refl o.behind.first in
      let xs = spelt_listing (SpellsWrite text) WriteShape (λ us ms g. spelt_write us refl g) o.behind.second.first x.rest x.kinds in
      let c = stands xs.rest xs.kinds o.behind.second.second in
      spelt_as c.rest _ n.list (same_done c.behind) (scripts.a_clause n.kind (spells_to w o.list) o.kind x.spells (spells_to xs c.list) c.kind)

  spelt_more_on : (ts : List Token) (ls : List TokenKind) → Then (kinds.Word words.On) OnShape (kinds_of ts) ls → Spelt (SpellsMoreOn text) ts ls
  spelt_more_on ts ls q =
      let w = stands ts refl q in
      let x = spelt_on w.token.place w.rest refl w.behind in
      spelt_as x.rest _ w.list x.kinds (scripts.one_on w.kind x.spells)

  spelt_action : (ts : List Token) {ks ls : List TokenKind} → kinds_of ts ≡ ks → ActionShape ks ls → Spelt (SpellsAction text) ts ls
  spelt_action ts e q =
      let h = spelt_heading ts e q.first in
      let w = stands h.rest h.kinds q.second in
      let x = spelt_on w.token.place w.rest refl w.behind.first in
      let first = subst (λ l. SpellsMoreOn text l x.rest x.tree) (sym w.list) (scripts.one_on w.kind x.spells) in
      let xs = spelt_listing (SpellsMoreOn text) (Then (kinds.Word words.On) OnShape) spelt_more_on w.behind.second x.rest x.kinds in
      record { rest = xs.rest; kinds = xs.kinds; tree = _; spells = scripts.an_action h.spells first xs.spells }

  -- ---- the other items

  spelt_routine : (ts : List Token) {ks ls : List TokenKind} → kinds_of ts ≡ ks → RoutineShape ks ls → Spelt (SpellsRoutine text) ts ls
  spelt_routine ts e q =
      let h = spelt_heading ts e q.first in
      let b = spelt_block text h.rest h.kinds q.second in
      record { rest = b.rest; kinds = b.kinds; tree = _; spells = scripts.a_routine h.spells b.spells }

  spelt_main : (place : Place) (ts : List Token) {ks ls : List TokenKind} → kinds_of ts ≡ ks → MainShape ks ls → Spelt (SpellsMain text place) ts ls
  spelt_main place ts e q =
      let p = stands_three ts e q in
      let b = spelt_block text p.rest refl p.behind in
      spelt_as b.rest _ p.list b.kinds (scripts.a_main p.first_kind p.second_kind p.third_kind b.spells)

  -- a name and a value with an equal sign between them are an assignment too
  rule_of : {ts us : List Token} {x : Stmt} → SpellsLet text ts us x → (rule : Rule) × SpellsRule text ts us rule
  rule_of (statements.a_let {n = n} {x = x} name equal value) = (record { attr = name_of text n; value = x }, scripts.a_rule name equal value)

  spelt_rule : (ts : List Token) {ks ls : List TokenKind} → kinds_of ts ≡ ks → RuleShape ks ls → Spelt (SpellsRule text) ts ls
  spelt_rule ts e q =
      let x = spelt_let text ts e q in
      let rule = rule_of x.spells in
      record { rest = x.rest; kinds = x.kinds; tree = rule.0; spells = rule.1 }

  spelt_rules : (ts : List Token) {ks ls : List TokenKind} → kinds_of ts ≡ ks → Many RuleShape ks ls → Spelt (Listing (SpellsRule text)) ts ls
  spelt_rules ts e q = spelt_listing (SpellsRule text) RuleShape (λ us ms g. spelt_rule us refl g) q ts e

  spelt_child : (ts : List Token) {ks ls : List TokenKind} → kinds_of ts ≡ ks → ChildShape ks ls → Spelt (SpellsChild text) ts ls
  spelt_child ts e q =
      let w = stands ts e q in
      let x = spelled text w.behind.first w.rest refl in
      let o = stands x.0 x.1 w.behind.second in
      let xs = spelt_rules o.rest refl o.behind.first in
      let c = stands xs.rest xs.kinds o.behind.second in
      spelt_as c.rest _ w.list (same_done c.behind) (scripts.a_child w.kind (subst (λ l. Spells text expression w.rest l x.2) o.list x.3) o.kind (spells_to xs c.list) c.kind)

  spelt_spawn : (ts : List Token) {ks ls : List TokenKind} → kinds_of ts ≡ ks → SpawnShape ks ls → Spelt (SpellsSpawn text) ts ls
  spelt_spawn ts e omitted = record { rest = ts; kinds = e; tree = None; spells = scripts.no_spawn }
  spelt_spawn ts e (given q) = spelt_then (λ s x. Some x) (λ s us vs x kind p. scripts.a_spawn kind p) (λ us ms g. spelt_child us refl g) ts e q

  spelt_removal : (ts : List Token) {ks ls : List TokenKind} → kinds_of ts ≡ ks → RemovalShape ks ls → Spelt (SpellsRemoval text) ts ls
  spelt_removal ts e omitted = record { rest = ts; kinds = e; tree = None; spells = scripts.no_removal }
  spelt_removal ts e (given q) =
      let r = stands ts e q in
      let w = stands r.rest refl r.behind in
      let x = spelt_value text w.rest refl w.behind in
      spelt_as x.rest _ (next r.list w.list) x.kinds (scripts.a_removal r.kind w.kind x.spells)

  spelt_post : (place : Place) (ts : List Token) {ks ls : List TokenKind} → kinds_of ts ≡ ks → PostShape ks ls → Spelt (SpellsPost text place) ts ls
  spelt_post place ts e q =
      let o = stands ts e q in
      let xs = spelt_rules o.rest refl o.behind.first in
      let s = spelt_spawn xs.rest xs.kinds o.behind.second.first in
      let r = spelt_removal s.rest s.kinds o.behind.second.second.first in
      let c = stands r.rest r.kinds o.behind.second.second.second in
      spelt_as c.rest _ o.list (same_done c.behind) (scripts.a_post o.kind xs.spells s.spells (spells_to r c.list) c.kind)

  spelt_body : (w : Word) (place : Place) (ts : List Token) (ls : List TokenKind) → ItemBody w (kinds_of ts) ls → Spelt (SpellsBody text w place) ts ls
  spelt_body words.Attr place ts ls q = spelt_attribute ts refl q
  spelt_body words.Aggregate place ts ls q = spelt_aggregate ts refl q
  spelt_body words.Action place ts ls q = spelt_action ts refl q
  spelt_body words.Routine place ts ls q = spelt_routine ts refl q
  spelt_body words.Main place ts ls q = spelt_main place ts refl q
  spelt_body words.Post place ts ls q = spelt_post place ts refl q
  spelt_body _ place ts ls q = absurd q

  spelt_item : (ts : List Token) (ls : List TokenKind) → ItemShape (kinds_of ts) ls → Spelt (SpellsItem text) ts ls
  spelt_item ts ls q =
      let t = first_token ts q.list in
      let x = spelt_body q.word t.0.place t.1 ls (subst (λ l. ItemBody q.word l ls) (sym t.4) q.behind) in
      spelt_as x.rest _ t.2 x.kinds (scripts.an_item {word = q.word} t.3 x.spells)

no_tokens : (ts : List Token) → kinds_of ts ≡ [] → ts ≡ []
no_tokens [] e = refl
no_tokens (t ∷ ts) e = absurd (cc)

-- tokens with the shape of a script spell its items
pub spelt_items : (text : List ℕ) (ts : List Token) → Many ItemShape (kinds_of ts) [] → (xs : List Item) × Listing (SpellsItem text) ts [] xs
spelt_items text ts q =
    let x = spelt_listing (SpellsItem text) ItemShape (spelt_item text) q ts refl in
    (x.tree, subst (λ l. Listing (SpellsItem text) ts l x.tree) (no_tokens x.rest x.kinds) x.spells)
