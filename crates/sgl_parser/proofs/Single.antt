-- Tokens spell one script.
use Rattle.std.proofs.Common.{◌≡◌, ℕ, true, false, Some, None, Option, List, [], ◌∷◌, sym, refl, ap, subst, ◌∙◌}
use Rattle.sgl_values.specs.declared.place.Place.{Place}
use Rattle.sgl_values.specs.declared.fault.Tag.{Tag}
use Rattle.sgl_values.specs.declared.operator.FoldKind.TheVariants as folds
use Rattle.sgl_tree.specs.declared.expression.Expr.{Expr}
use Rattle.sgl_tree.specs.declared.expression.Name.{Name}
use Rattle.sgl_tree.specs.declared.item.Fold.{Fold}
use Rattle.sgl_tree.specs.declared.item.Item.{Item}
use Rattle.sgl_tree.specs.declared.item.Item.TheVariants as items
use Rattle.sgl_tree.specs.declared.item.Literal.{Literal}
use Rattle.sgl_tree.specs.declared.item.OnClause.{OnClause}
use Rattle.sgl_tree.specs.declared.item.Script.{Script}
use Rattle.sgl_tree.specs.declared.item.Spawn.{Spawn}
use Rattle.sgl_tree.specs.declared.item.Test.{Test}
use Rattle.sgl_tree.specs.declared.item.Test.TheVariants.{Compare, Within}
use Rattle.sgl_tree.specs.declared.statement.Stmt.{Stmt}
use Rattle.sgl_tree.specs.declared.statement.Stmt.TheVariants as trees
use Rattle.sgl_lexer.specs.declared.lexeme.Token.{Token}
use Rattle.sgl_lexer.specs.declared.lexeme.Tokens.{Tokens}
use Rattle.sgl_lexer.specs.declared.lexeme.TokenKind.{TokenKind}
use Rattle.sgl_lexer.specs.declared.lexeme.TokenKind.TheVariants as kinds
use Rattle.sgl_lexer.specs.declared.vocabulary.Word.{Word}
use Rattle.sgl_lexer.specs.declared.vocabulary.Word.TheVariants as words
use Rattle.sgl_lexer.specs.declared.vocabulary.Sign.TheVariants as signs
use Rattle.sgl_parser.specs.Follow.{Stops, IsNotAt, continues, continues_arguments}
use Rattle.sgl_parser.specs.Grammar.{Part, Spells, expression, sum, name_of}
use Rattle.sgl_parser.specs.Operators.{tag, fold, comparison}
use Rattle.sgl_parser.specs.Scripts.{Listing, SpellsLiteral, SpellsSort, SpellsAttribute, SpellsMoreName, SpellsParameters, SpellsHeading, SpellsPoint, SpellsCount, SpellsNearest, SpellsMeasure, SpellsFold, SpellsCircle, SpellsComparison, SpellsTest, SpellsMoreTest, SpellsTests, SpellsWhere, SpellsOtherwise, SpellsAggregate, SpellsPriority, SpellsWrite, SpellsOn, SpellsMoreOn, SpellsAction, SpellsRoutine, SpellsMain, SpellsRule, SpellsChild, SpellsSpawn, SpellsRemoval, SpellsPost, SpellsBody, SpellsItem, IsScript, none, more, plain, negative, a_const, an_effect, an_attribute, one_name, parameters, a_heading, a_point, a_count, a_nearest, a_measure, by_count, by_nearest, by_measure, a_circle, a_comparison, by_circle, by_comparison, one_test, tests, no_where, a_where, no_otherwise, an_otherwise, an_aggregate, no_priority, a_priority, a_write, a_clause, one_on, an_action, a_routine, a_main, a_rule, a_child, no_spawn, a_spawn, no_removal, a_removal, a_post, an_item}
use Rattle.sgl_parser.specs.Statements.{SpellsValue, SpellsLet, SpellsPerform, SpellsBlock, SpellsStatements, SpellsStatement, SpellsIf, SpellsBranch, a_value, a_let, a_perform, a_block, no_statements, more_statements, by_let, by_if, by_perform, an_if, no_else, an_else}
use Rattle.sgl_parser.proofs.Unique.{unique, unique_arguments, tail_of, some_of, nothing}

-- a token of a kind that goes on with no part stops it
stops_at : (part : Part) (k : TokenKind) (t : Token) (ts : List Token) → continues part k ≡ false → t.kind ≡ k → Stops part (t ∷ ts)
stops_at part k t ts h e = subst (λ w. continues part w ≡ false) (sym e) h

-- a token of another kind
not_at : (j k : TokenKind) (t : Token) (ts : List Token) → t.kind ≡ k → (k ≡ j → ⊥) → IsNotAt j (t ∷ ts)
not_at j k t ts e h = λ i. h (sym e ∙ i)

stops_and : (t : Token) (ts : List Token) → t.kind ≡ kinds.Word words.And → Stops sum (t ∷ ts)
stops_and t ts h = stops_at sum (kinds.Word words.And) t ts refl h

-- ---- lists

-- Two readings of a part from one list are one.
abbrev OneReading : {A : Type 0} → (List Token → List Token → A → Type 0) → Type 0
OneReading {A} Part = (ts us vs : List Token) (x y : A) → Part ts us x → Part ts vs y → (us ≡ vs) × (x ≡ y)

-- A part begins with a token of a kind.
abbrev BeginsAt : {A : Type 0} → (List Token → List Token → A → Type 0) → TokenKind → Type 0
BeginsAt {A} Part k = (ts us : List Token) (x : A) → Part ts us x → IsNotAt k ts → ⊥

unique_listing : {A : Type 0} (Part : List Token → List Token → A → Type 0) (k : TokenKind) {ts us vs : List Token} {xs ys : List A} → OneReading Part → BeginsAt Part k → Listing Part ts us xs → Listing Part ts vs ys → IsNotAt k us → IsNotAt k vs → (us ≡ vs) × (xs ≡ ys)
unique_listing Part k one begins none none n n' = (refl, refl)
unique_listing Part k one begins none (more {ts} {us} {vs} {x} p q) n n' = absurd (begins ts us x p n)
unique_listing Part k one begins (more {ts} {us} {vs} {x} p q) none n n' = absurd (begins ts us x p n')
unique_listing Part k one begins (more {ts} {us} {vs} {x} p q) (more {us = us'} {vs = vs'} {x = x'} {xs = xs'} p' q') n n' =
    let same = one ts us us' x x' p p' in
    let rest = unique_listing Part k one begins q (subst (λ l. Listing Part l vs' xs') (sym same.0) q') n n' in
    (rest.0, λ i. same.1 i ∷ rest.1 i)

-- ---- statements

module _ {text : List ℕ} where
  unique_value : {ts us vs : List Token} {x y : Expr} → SpellsValue text ts us x → SpellsValue text ts vs y → (us ≡ vs) × (x ≡ y)
  unique_value (a_value {c} {us = us} q s) (a_value {c = c'} {us = us'} q' s') =
      let same = unique q q' (stops_at expression (kinds.Sign signs.Semicolon) c us refl s) (stops_at expression (kinds.Sign signs.Semicolon) c' us' refl s') in
      ((tail_of same.0).1, same.1)

  unique_let : {ts us vs : List Token} {x y : Stmt} → SpellsLet text ts us x → SpellsLet text ts vs y → (us ≡ vs) × (x ≡ y)
  unique_let (a_let {n} h i q) (a_let h' i' q') = let same = unique_value q q' in (same.0, ap (trees.Let (name_of text n)) same.1)

  unique_perform : {place : Place} {ts us vs : List Token} {x y : Stmt} → SpellsPerform text place ts us x → SpellsPerform text place ts vs y → (us ≡ vs) × (x ≡ y)
  unique_perform {place} (a_perform {n} {o} {u} {c} {s} {us = us} h i j q k l) (a_perform {c = c'} {s = s'} {us = us'} h' i' j' q' k' l') =
      let shut = kinds.Sign signs.ParenClose in
      let same = unique_arguments q q' (stops_at expression shut c (s ∷ us) refl k) (stops_at expression shut c' (s' ∷ us') refl k') (subst (λ w. continues_arguments w ≡ false) (sym k) refl) (subst (λ w. continues_arguments w ≡ false) (sym k') refl) in
      ((tail_of (tail_of same.0).1).1, ap (trees.Perform place (name_of text n) (name_of text u)) same.1)

  block_opens : {ts us : List Token} {xs : List Stmt} → SpellsBlock text ts us xs → Stops expression ts
  block_opens (a_block {o} {c} {ts} h q s) = stops_at expression (kinds.Sign signs.BraceOpen) o ts refl h

  -- no statement begins with a closing brace or with `else`
  statement_begins : {t : Token} {ts us : List Token} {x : Stmt} → SpellsStatement text (t ∷ ts) us x → t.kind ≡ kinds.Sign signs.BraceClose → ⊥
  statement_begins (by_let h q) e = cc
  statement_begins (by_if h q) e = cc
  statement_begins (by_perform h q) e = cc

  no_else_first : {ts us : List Token} {x : Stmt} → SpellsStatement text ts us x → IsNotAt (kinds.Word words.Else) ts
  no_else_first (by_let h q) = λ e. cc
  no_else_first (by_if h q) = λ e. cc
  no_else_first (by_perform h q) = λ e. cc

  no_else_behind : {c : Token} {ts us : List Token} {xs : List Stmt} → SpellsStatements text ts (c ∷ us) xs → c.kind ≡ kinds.Sign signs.BraceClose → IsNotAt (kinds.Word words.Else) ts
  no_else_behind no_statements e = λ i. cc
  no_else_behind (more_statements p q) e = no_else_first p

  mutual
    unique_block : {ts us vs : List Token} {xs ys : List Stmt} → SpellsBlock text ts us xs → SpellsBlock text ts vs ys → (us ≡ vs) × (xs ≡ ys)
    unique_block (a_block o q c) (a_block o' q' c') =
        let same = unique_statements q q' c c' in ((tail_of same.0).1, same.1)

    unique_statements : {c d : Token} {ts us vs : List Token} {xs ys : List Stmt} → SpellsStatements text ts (c ∷ us) xs → SpellsStatements text ts (d ∷ vs) ys → c.kind ≡ kinds.Sign signs.BraceClose → d.kind ≡ kinds.Sign signs.BraceClose → (c ∷ us ≡ d ∷ vs) × (xs ≡ ys)
    unique_statements no_statements no_statements e e' = (refl, refl)
    unique_statements no_statements (more_statements p q) e e' = absurd (statement_begins p e)
    unique_statements (more_statements p q) no_statements e e' = absurd (statement_begins p e')
    unique_statements {d = d} {vs = vs} (more_statements p q) (more_statements {xs = xs'} p' q') e e' =
        let same = unique_statement p p' (no_else_behind q e) (no_else_behind q' e') in
        let rest = unique_statements q (subst (λ l. SpellsStatements text l (d ∷ vs) xs') (sym same.0) q') e e' in
        (rest.0, λ i. same.1 i ∷ rest.1 i)

    unique_statement : {ts us vs : List Token} {x y : Stmt} → SpellsStatement text ts us x → SpellsStatement text ts vs y → IsNotAt (kinds.Word words.Else) us → IsNotAt (kinds.Word words.Else) vs → (us ≡ vs) × (x ≡ y)
    unique_statement (by_let h q) (by_let h' q') n n' = unique_let q q'
    unique_statement (by_let h q) (by_if h' q') n n' = absurd (cc)
    unique_statement (by_let h q) (by_perform h' q') n n' = absurd (cc)
    unique_statement (by_if h q) (by_let h' q') n n' = absurd (cc)
    unique_statement (by_if h q) (by_if h' q') n n' = unique_if q q' n n'
    unique_statement (by_if h q) (by_perform h' q') n n' = absurd (cc)
    unique_statement (by_perform h q) (by_let h' q') n n' = absurd (cc)
    unique_statement (by_perform h q) (by_if h' q') n n' = absurd (cc)
    unique_statement (by_perform h q) (by_perform h' q') n n' = unique_perform q q'

    unique_if : {ts us vs : List Token} {x y : Stmt} → SpellsIf text ts us x → SpellsIf text ts vs y → IsNotAt (kinds.Word words.Else) us → IsNotAt (kinds.Word words.Else) vs → (us ≡ vs) × (x ≡ y)
    unique_if (an_if p b r) (an_if {us = us'} {vs = vs'} {ws = ws'} {yes = yes'} {no = no'} p' b' r') n n' =
        let condition = unique p p' (block_opens b) (block_opens b') in
        let taken = unique_block b (subst (λ l. SpellsBlock text l vs' yes') (sym condition.0) b') in
        let other = unique_branch r (subst (λ l. SpellsBranch text l ws' no') (sym taken.0) r') n n' in
        (other.0, λ i. trees.If (condition.1 i) (taken.1 i) (other.1 i))

    unique_branch : {ts us vs : List Token} {xs ys : List Stmt} → SpellsBranch text ts us xs → SpellsBranch text ts vs ys → IsNotAt (kinds.Word words.Else) us → IsNotAt (kinds.Word words.Else) vs → (us ≡ vs) × (xs ≡ ys)
    unique_branch no_else no_else n n' = (refl, refl)
    unique_branch no_else (an_else h q) n n' = absurd (n h)
    unique_branch (an_else h q) no_else n n' = absurd (n' h)
    unique_branch (an_else h q) (an_else h' q') n n' = unique_block q q'

-- ---- attributes

some_number : {m n : ℕ} (t : Token) → t.kind ≡ kinds.Number m → t.kind ≡ kinds.Number n → m ≡ n
some_number t h i = cc

unique_literal : {ts us vs : List Token} {x y : Literal} → SpellsLiteral ts us x → SpellsLiteral ts vs y → (us ≡ vs) × (x ≡ y)
unique_literal (plain {n} h) (plain h') = let e = some_number n h h' in (refl, λ i. record { negative = false; value = e i; place = n.place })
unique_literal (plain h) (negative m' h') = absurd (cc)
unique_literal (negative m h) (plain h') = absurd (cc)
unique_literal (negative {n = n} m h) (negative m' h') = let e = some_number n h h' in (refl, λ i. record { negative = true; value = e i; place = n.place })

unique_sort : {ts us vs : List Token} {t u : Option Tag} {x y : Option Literal} → SpellsSort ts us t x → SpellsSort ts vs u y → (us ≡ vs) × (t ≡ u) × (x ≡ y)
unique_sort (a_const k c) (a_const k' c') = (refl, refl, refl)
unique_sort (a_const {k} h c) (an_effect h' e' q' c') = nothing (tag k.kind) (ap tag h) h'
unique_sort (an_effect {k} h e q c) (a_const h' c') = nothing (tag k.kind) (ap tag h') h
unique_sort (an_effect {k} h e q c) (an_effect h' e' q' c') =
    let same = unique_literal q q' in
    ((tail_of same.0).1, ap Some (some_of (tag k.kind) h h'), ap Some same.1)

unique_otherwise : {ts us vs : List Token} {x y : Option (Place × Literal)} → SpellsOtherwise ts us x → SpellsOtherwise ts vs y → IsNotAt (kinds.Word words.Else) us → IsNotAt (kinds.Word words.Else) vs → (us ≡ vs) × (x ≡ y)
unique_otherwise no_otherwise no_otherwise n n' = (refl, refl)
unique_otherwise no_otherwise (an_otherwise h q) n n' = absurd (n h)
unique_otherwise (an_otherwise h q) no_otherwise n n' = absurd (n' h)
unique_otherwise (an_otherwise {t} h q) (an_otherwise h' q') n n' = let same = unique_literal q q' in (same.0, λ i. Some (t.place, same.1 i))

module _ {text : List ℕ} where
  unique_attribute : {ts us vs : List Token} {x y : Item} → SpellsAttribute text ts us x → SpellsAttribute text ts vs y → (us ≡ vs) × (x ≡ y)
  unique_attribute (an_attribute {n} h q) (an_attribute h' q') = let same = unique_sort q q' in (same.0, λ i. items.Attr (name_of text n) (same.1 i) (same.2 i))

  -- ---- aggregates

  one_more_name : OneReading (SpellsMoreName text)
  one_more_name _ _ _ _ _ (one_name c n) (one_name c' n') = (refl, refl)

  begins_more_name : BeginsAt (SpellsMoreName text) (kinds.Sign signs.Comma)
  begins_more_name _ _ _ (one_name c n) h = h c

  unique_parameters : {ts us vs : List Token} {xs ys : List Name} → SpellsParameters text ts us xs → SpellsParameters text ts vs ys → (us ≡ vs) × (xs ≡ ys)
  unique_parameters (parameters {o} {n} {c} {us = us} h i q s) (parameters {c = c'} {us = us'} h' i' q' s') =
      let comma = kinds.Sign signs.Comma in
      let same = unique_listing (SpellsMoreName text) comma one_more_name begins_more_name q q' (not_at comma (kinds.Sign signs.ParenClose) c us s (λ e. cc)) (not_at comma (kinds.Sign signs.ParenClose) c' us' s' (λ e. cc)) in
      ((tail_of same.0).1, ap (λ l. name_of text n ∷ l) same.1)

  unique_heading : {ts us vs : List Token} {x y : Name × List Name} → SpellsHeading text ts us x → SpellsHeading text ts vs y → (us ≡ vs) × (x ≡ y)
  unique_heading (a_heading {n} h p) (a_heading h' p') = let same = unique_parameters p p' in (same.0, λ i. (name_of text n, same.1 i))

  unique_point : {ts us vs : List Token} {x y : Name × Name} → SpellsPoint text ts us x → SpellsPoint text ts vs y → (us ≡ vs) × (x ≡ y)
  unique_point (a_point o x m y) (a_point o' x' m' y') = (refl, refl)

  unique_count : {place : Place} {ts us vs : List Token} {x y : Fold} → SpellsCount text place ts us x → SpellsCount text place ts vs y → (us ≡ vs) × (x ≡ y)
  unique_count (a_count n) (a_count n') = (refl, refl)

  unique_nearest : {place : Place} {ts us vs : List Token} {x y : Fold} → SpellsNearest text place ts us x → SpellsNearest text place ts vs y → (us ≡ vs) × (x ≡ y)
  unique_nearest {place} (a_nearest {n} h p c) (a_nearest h' p' c') =
      let same = unique_point p p' in
      ((tail_of same.0).1, λ i. record { kind = folds.Nearest; place = place; row = name_of text n; attr = Some (same.1 i).0; second = Some (same.1 i).1 })

  unique_measure : {ts us vs : List Token} {x y : Fold} → SpellsMeasure text ts us x → SpellsMeasure text ts vs y → (us ≡ vs) × (x ≡ y)
  unique_measure (a_measure {t} {n} {d} {a} h i j k) (a_measure h' i' j' k') =
      let e = some_of (fold t.kind) h h' in
      (refl, λ i. record { kind = e i; place = t.place; row = name_of text n; attr = Some (name_of text a); second = None })

  -- no measure begins with a word that is no fold of one attribute
  measure_begins : {t : Token} {ts us : List Token} {x : Fold} → SpellsMeasure text (t ∷ ts) us x → fold t.kind ≡ None → ⊥
  measure_begins (a_measure {t} h n d a) e = nothing (fold t.kind) e h

  unique_fold : {ts us vs : List Token} {x y : Fold} → SpellsFold text ts us x → SpellsFold text ts vs y → (us ≡ vs) × (x ≡ y)
  unique_fold (by_count h q) (by_count h' q') = unique_count q q'
  unique_fold (by_count h q) (by_nearest h' q') = absurd (cc)
  unique_fold (by_count h q) (by_measure q') = absurd (measure_begins q' (ap fold h))
  unique_fold (by_nearest h q) (by_count h' q') = absurd (cc)
  unique_fold (by_nearest h q) (by_nearest h' q') = unique_nearest q q'
  unique_fold (by_nearest h q) (by_measure q') = absurd (measure_begins q' (ap fold h))
  unique_fold (by_measure q) (by_count h' q') = absurd (measure_begins q (ap fold h'))
  unique_fold (by_measure q) (by_nearest h' q') = absurd (measure_begins q (ap fold h'))
  unique_fold (by_measure q) (by_measure q') = unique_measure q q'

  unique_circle : {place : Place} {ts us vs : List Token} {x y : Test} → SpellsCircle text place ts us x → SpellsCircle text place ts vs y → (us ≡ vs) × (x ≡ y)
  unique_circle {place} (a_circle {c = c} {vs = vs} p n q s) (a_circle {c = c'} {vs = vs'} {radius = r'} p' n' q' s') =
      let shut = kinds.Sign signs.ParenClose in
      let point = unique_point p p' in
      let same = unique q (subst (λ l. Spells text sum l (c' ∷ vs') r') (sym (tail_of point.0).1) q') (stops_at sum shut c vs refl s) (stops_at sum shut c' vs' refl s') in
      ((tail_of same.0).1, λ i. Within place (point.1 i).0 (point.1 i).1 (same.1 i))

  unique_comparison : {ts us vs : List Token} {x y : Test} → SpellsComparison text ts us x → SpellsComparison text ts vs y → Stops sum us → Stops sum vs → (us ≡ vs) × (x ≡ y)
  unique_comparison (a_comparison {n} {d} {a} {k} h i j l q) (a_comparison h' i' j' l' q') s s' =
      let same = unique q q' s s' in
      let e = some_of (comparison k.kind) l l' in
      (same.0, λ i. Compare (name_of text n) (name_of text a) (e i) (same.1 i))

  comparison_begins : {t : Token} {ts us : List Token} {x : Test} → SpellsComparison text (t ∷ ts) us x → t.kind ≡ kinds.Word words.Within → ⊥
  comparison_begins (a_comparison h i j l q) e = cc

  unique_test : {ts us vs : List Token} {x y : Test} → SpellsTest text ts us x → SpellsTest text ts vs y → Stops sum us → Stops sum vs → (us ≡ vs) × (x ≡ y)
  unique_test (by_circle h q) (by_circle h' q') s s' = unique_circle q q'
  unique_test (by_circle h q) (by_comparison q') s s' = absurd (comparison_begins q' h)
  unique_test (by_comparison q) (by_circle h' q') s s' = absurd (comparison_begins q h')
  unique_test (by_comparison q) (by_comparison q') s s' = unique_comparison q q' s s'

  -- a sum stops before further tests where it stops behind them
  stops_tests : {ts us : List Token} {xs : List Test} → Listing (SpellsMoreTest text) ts us xs → Stops sum us → Stops sum ts
  stops_tests none s = s
  stops_tests (more (one_test {t} {ts} h p) q) s = stops_and t ts h

  unique_more_tests : {ts us vs : List Token} {xs ys : List Test} → Listing (SpellsMoreTest text) ts us xs → Listing (SpellsMoreTest text) ts vs ys → Stops sum us → Stops sum vs → IsNotAt (kinds.Word words.And) us → IsNotAt (kinds.Word words.And) vs → (us ≡ vs) × (xs ≡ ys)
  unique_more_tests none none s s' n n' = (refl, refl)
  unique_more_tests none (more (one_test h p) q) s s' n n' = absurd (n h)
  unique_more_tests (more (one_test h p) q) none s s' n n' = absurd (n' h)
  unique_more_tests (more (one_test h p) q) (more {vs = vs'} {xs = xs'} (one_test h' p') q') s s' n n' =
      let same = unique_test p p' (stops_tests q s) (stops_tests q' s') in
      let rest = unique_more_tests q (subst (λ l. Listing (SpellsMoreTest text) l vs' xs') (sym same.0) q') s s' n n' in
      (rest.0, λ i. same.1 i ∷ rest.1 i)

  unique_tests : {ts us vs : List Token} {xs ys : List Test} → SpellsTests text ts us xs → SpellsTests text ts vs ys → Stops sum us → Stops sum vs → IsNotAt (kinds.Word words.And) us → IsNotAt (kinds.Word words.And) vs → (us ≡ vs) × (xs ≡ ys)
  unique_tests (tests p q) (tests {vs = vs'} {xs = xs'} p' q') s s' n n' =
      let same = unique_test p p' (stops_tests q s) (stops_tests q' s') in
      let rest = unique_more_tests q (subst (λ l. Listing (SpellsMoreTest text) l vs' xs') (sym same.0) q') s s' n n' in
      (rest.0, λ i. same.1 i ∷ rest.1 i)

-- A token that stands behind tests: "else", ";" or "{".
abbrev IsBehindTests : TokenKind → Type 0
IsBehindTests (kinds.Word words.Else) = Unit {0}
IsBehindTests (kinds.Sign signs.Semicolon) = Unit {0}
IsBehindTests (kinds.Sign signs.BraceOpen) = Unit {0}
IsBehindTests _ = ⊥

behind_stops : (k : TokenKind) → IsBehindTests k → (continues sum k ≡ false) × (k ≡ kinds.Word words.And → ⊥) × (k ≡ kinds.Word words.Where → ⊥)
behind_stops (kinds.Word words.Else) h = (refl, λ e. cc, λ e. cc)
behind_stops (kinds.Sign signs.Semicolon) h = (refl, λ e. cc, λ e. cc)
behind_stops (kinds.Sign signs.BraceOpen) h = (refl, λ e. cc, λ e. cc)
behind_stops _ h = absurd h

abbrev BehindAt : List Token → Type 0
BehindAt [] = ⊥
BehindAt (t ∷ ts) = IsBehindTests t.kind

otherwise_behind : {c : Token} {ts us : List Token} {x : Option (Place × Literal)} → SpellsOtherwise ts (c ∷ us) x → c.kind ≡ kinds.Sign signs.Semicolon → BehindAt ts
otherwise_behind no_otherwise h = subst IsBehindTests (sym h) tt
otherwise_behind (an_otherwise i q) h = subst IsBehindTests (sym i) tt

module _ {text : List ℕ} where
  unique_where : {ts us vs : List Token} {xs ys : List Test} → SpellsWhere text ts us xs → SpellsWhere text ts vs ys → BehindAt us → BehindAt vs → (us ≡ vs) × (xs ≡ ys)
  unique_where no_where no_where b b' = (refl, refl)
  unique_where no_where (a_where {t} h q) b b' = absurd ((behind_stops t.kind b).2 h)
  unique_where (a_where {t} h q) no_where b b' = absurd ((behind_stops t.kind b').2 h)
  unique_where (a_where {us = []} h q) (a_where h' q') b b' = absurd b
  unique_where (a_where {us = u ∷ us} h q) (a_where {us = []} h' q') b b' = absurd b'
  unique_where (a_where {us = u ∷ us} h q) (a_where {us = v ∷ vs} h' q') b b' =
      let s = behind_stops u.kind b in let s' = behind_stops v.kind b' in unique_tests q q' s.0 s'.0 s.1 s'.1

  unique_aggregate : {ts us vs : List Token} {x y : Item} → SpellsAggregate text ts us x → SpellsAggregate text ts vs y → (us ≡ vs) × (x ≡ y)
  unique_aggregate (an_aggregate {c = c} {xs = xs} h i f w o s) (an_aggregate {c = c'} {us = us'} {vs = vs'} {ws = ws'} {xs = xs'} {f = x'} {tests = t'} {other = o'} h' i' f' w' q' s') =
      let otherwise = kinds.Word words.Else in
      let heading = unique_heading h h' in
      let folded = unique_fold f (subst (λ l. SpellsFold text l vs' x') (sym (tail_of heading.0).1) f') in
      let tested = unique_where w (subst (λ l. SpellsWhere text l ws' t') (sym folded.0) w') (otherwise_behind o s) (otherwise_behind q' s') in
      let last = unique_otherwise o (subst (λ l. SpellsOtherwise l (c' ∷ xs') o') (sym tested.0) q') (not_at otherwise (kinds.Sign signs.Semicolon) c xs s (λ e. cc)) (not_at otherwise (kinds.Sign signs.Semicolon) c' xs' s' (λ e. cc)) in
      ((tail_of last.0).1, λ i. items.Aggregate (heading.1 i).0 (heading.1 i).1 (folded.1 i) (tested.1 i) (last.1 i))

  -- ---- actions

  -- an amount stops before its priority, or before what stands behind it
  stops_priority : {c : Token} {ts us : List Token} {x : Option (Place × Expr)} → SpellsPriority text ts (c ∷ us) x → c.kind ≡ kinds.Sign signs.Semicolon → Stops expression ts
  stops_priority {c} {us = us} no_priority s = stops_at expression (kinds.Sign signs.Semicolon) c us refl s
  stops_priority (a_priority {t} {ts} h q) s = stops_at expression (kinds.Word words.By) t ts refl h

  unique_priority : {c d : Token} {ts us vs : List Token} {x y : Option (Place × Expr)} → SpellsPriority text ts (c ∷ us) x → SpellsPriority text ts (d ∷ vs) y → c.kind ≡ kinds.Sign signs.Semicolon → d.kind ≡ kinds.Sign signs.Semicolon → (c ∷ us ≡ d ∷ vs) × (x ≡ y)
  unique_priority no_priority no_priority s s' = (refl, refl)
  unique_priority no_priority (a_priority h q) s s' = absurd (cc)
  unique_priority (a_priority h q) no_priority s s' = absurd (cc)
  unique_priority {c} {d} {us = us} {vs = vs} (a_priority {t} h q) (a_priority h' q') s s' =
      let same = unique q q' (stops_at expression (kinds.Sign signs.Semicolon) c us refl s) (stops_at expression (kinds.Sign signs.Semicolon) d vs refl s') in
      (same.0, λ i. Some (t.place, same.1 i))

  one_write : OneReading (SpellsWrite text)
  one_write _ _ _ _ _ (a_write {n} {vs = vs} h i q p s) (a_write {c = c'} {us = us'} {vs = vs'} {by = by'} h' i' q' p' s') =
      let value = unique q q' (stops_priority p s) (stops_priority p' s') in
      let priority = unique_priority p (subst (λ l. SpellsPriority text l (c' ∷ vs') by') (sym value.0) p') s s' in
      ((tail_of priority.0).1, λ i. record { attr = name_of text n; value = value.1 i; by = priority.1 i })

  begins_write : BeginsAt (SpellsWrite text) kinds.Name
  begins_write _ _ _ (a_write h i q p s) n = n h

  unique_on : {place : Place} {ts us vs : List Token} {x y : OnClause} → SpellsOn text place ts us x → SpellsOn text place ts vs y → (us ≡ vs) × (x ≡ y)
  unique_on {place} (a_clause {n} {o} {c} {us = us} {vs = vs} {ws = ws} {x = x} h w i p q s) (a_clause {o = o'} {c = c'} {us = us'} {vs = vs'} {ws = ws'} {x = x'} {xs = xs'} h' w' i' p' q' s') =
      let tested = unique_where w w' (subst IsBehindTests (sym i) tt) (subst IsBehindTests (sym i') tt) in
      let first = one_write us vs vs' x x' p (subst (λ l. SpellsWrite text l vs' x') (sym (tail_of tested.0).1) p') in
      let brace = kinds.Sign signs.BraceClose in
      let rest = unique_listing (SpellsWrite text) kinds.Name one_write begins_write q (subst (λ l. Listing (SpellsWrite text) l (c' ∷ ws') xs') (sym first.0) q') (not_at kinds.Name brace c ws s (λ e. cc)) (not_at kinds.Name brace c' ws' s' (λ e. cc)) in
      ((tail_of rest.0).1, λ i. record { place = place; row = name_of text n; tests = tested.1 i; writes = first.1 i ∷ rest.1 i })

  one_more_on : OneReading (SpellsMoreOn text)
  one_more_on _ _ _ _ _ (one_on h q) (one_on h' q') = unique_on q q'

  begins_more_on : BeginsAt (SpellsMoreOn text) (kinds.Word words.On)
  begins_more_on _ _ _ (one_on h q) n = n h

  unique_action : {ts us vs : List Token} {x y : Item} → SpellsAction text ts us x → SpellsAction text ts vs y → IsNotAt (kinds.Word words.On) us → IsNotAt (kinds.Word words.On) vs → (us ≡ vs) × (x ≡ y)
  unique_action (an_action {us = us} {vs = vs} {ws = ws} {x = x} h o q) (an_action {us = us'} {vs = vs'} {ws = ws'} {x = x'} {xs = xs'} h' o' q') i i' =
      let heading = unique_heading h h' in
      let first = one_more_on us vs vs' x x' o (subst (λ l. SpellsMoreOn text l vs' x') (sym heading.0) o') in
      let rest = unique_listing (SpellsMoreOn text) (kinds.Word words.On) one_more_on begins_more_on q (subst (λ l. Listing (SpellsMoreOn text) l ws' xs') (sym first.0) q') i i' in
      (rest.0, λ i. items.Action (heading.1 i).0 (heading.1 i).1 (first.1 i ∷ rest.1 i))

  -- ---- the other items

  unique_routine : {ts us vs : List Token} {x y : Item} → SpellsRoutine text ts us x → SpellsRoutine text ts vs y → (us ≡ vs) × (x ≡ y)
  unique_routine (a_routine h q) (a_routine {us = us'} {vs = vs'} {body = body'} h' q') =
      let heading = unique_heading h h' in
      let body = unique_block q (subst (λ l. SpellsBlock text l vs' body') (sym heading.0) q') in
      (body.0, λ i. items.Routine (heading.1 i).0 (heading.1 i).1 (body.1 i))

  unique_main : {place : Place} {ts us vs : List Token} {x y : Item} → SpellsMain text place ts us x → SpellsMain text place ts vs y → (us ≡ vs) × (x ≡ y)
  unique_main {place} (a_main {n = n} h i j q) (a_main h' i' j' q') = let same = unique_block q q' in (same.0, ap (items.Main place (name_of text n)) same.1)

  one_rule : OneReading (SpellsRule text)
  one_rule _ _ _ _ _ (a_rule {n} h i q) (a_rule h' i' q') = let same = unique_value q q' in (same.0, λ i. record { attr = name_of text n; value = same.1 i })

  begins_rule : BeginsAt (SpellsRule text) kinds.Name
  begins_rule _ _ _ (a_rule h i q) n = n h

  unique_child : {ts us vs : List Token} {x y : Spawn} → SpellsChild text ts us x → SpellsChild text ts vs y → (us ≡ vs) × (x ≡ y)
  unique_child (a_child {o = t} {c = c} {us = us} {vs = vs} i q o p s) (a_child {o = t'} {c = c'} {us = us'} {vs = vs'} {rules = xs'} i' q' o' p' s') =
      let opening = kinds.Sign signs.BraceOpen in
      let brace = kinds.Sign signs.BraceClose in
      let condition = unique q q' (stops_at expression opening t us refl o) (stops_at expression opening t' us' refl o') in
      let rules = unique_listing (SpellsRule text) kinds.Name one_rule begins_rule p (subst (λ l. Listing (SpellsRule text) l (c' ∷ vs') xs') (sym (tail_of condition.0).1) p') (not_at kinds.Name brace c vs s (λ e. cc)) (not_at kinds.Name brace c' vs' s' (λ e. cc)) in
      ((tail_of rules.0).1, λ i. record { cond = condition.1 i; rules = rules.1 i })

  unique_spawn : {ts us vs : List Token} {x y : Option Spawn} → SpellsSpawn text ts us x → SpellsSpawn text ts vs y → IsNotAt (kinds.Word words.Spawn) us → IsNotAt (kinds.Word words.Spawn) vs → (us ≡ vs) × (x ≡ y)
  unique_spawn no_spawn no_spawn n n' = (refl, refl)
  unique_spawn no_spawn (a_spawn h q) n n' = absurd (n h)
  unique_spawn (a_spawn h q) no_spawn n n' = absurd (n' h)
  unique_spawn (a_spawn h q) (a_spawn h' q') n n' = let same = unique_child q q' in (same.0, ap Some same.1)

  unique_removal : {ts us vs : List Token} {x y : Option Expr} → SpellsRemoval text ts us x → SpellsRemoval text ts vs y → IsNotAt (kinds.Word words.Remove) us → IsNotAt (kinds.Word words.Remove) vs → (us ≡ vs) × (x ≡ y)
  unique_removal no_removal no_removal n n' = (refl, refl)
  unique_removal no_removal (a_removal h i q) n n' = absurd (n h)
  unique_removal (a_removal h i q) no_removal n n' = absurd (n' h)
  unique_removal (a_removal h i q) (a_removal h' i' q') n n' = let same = unique_value q q' in (same.0, ap Some same.1)

  spawn_ends : {c : Token} {ts us : List Token} {x : Option Expr} → SpellsRemoval text ts (c ∷ us) x → c.kind ≡ kinds.Sign signs.BraceClose → IsNotAt (kinds.Word words.Spawn) ts
  spawn_ends no_removal s = λ e. cc
  spawn_ends (a_removal h i q) s = λ e. cc

  rules_end : {c : Token} {ts us vs : List Token} {x : Option Spawn} {y : Option Expr} → SpellsSpawn text ts us x → SpellsRemoval text us (c ∷ vs) y → c.kind ≡ kinds.Sign signs.BraceClose → IsNotAt kinds.Name ts
  rules_end no_spawn no_removal s = λ e. cc
  rules_end no_spawn (a_removal h i q) s = λ e. cc
  rules_end (a_spawn h q) r s = λ e. cc

  unique_post : {place : Place} {ts us vs : List Token} {x y : Item} → SpellsPost text place ts us x → SpellsPost text place ts vs y → (us ≡ vs) × (x ≡ y)
  unique_post {place} (a_post {c = c} {ws = ws} h p b r s) (a_post {c = c'} {us = us'} {vs = vs'} {ws = ws'} {spawn = spawn'} {removal = removal'} h' p' b' r' s') =
      let brace = kinds.Sign signs.BraceClose in
      let remove = kinds.Word words.Remove in
      let rules = unique_listing (SpellsRule text) kinds.Name one_rule begins_rule p p' (rules_end b r s) (rules_end b' r' s') in
      let born = unique_spawn b (subst (λ l. SpellsSpawn text l vs' spawn') (sym rules.0) b') (spawn_ends r s) (spawn_ends r' s') in
      let removed = unique_removal r (subst (λ l. SpellsRemoval text l (c' ∷ ws') removal') (sym born.0) r') (not_at remove brace c ws s (λ e. cc)) (not_at remove brace c' ws' s' (λ e. cc)) in
      ((tail_of removed.0).1, λ i. items.Post place (rules.1 i) (born.1 i) (removed.1 i))

unique_body : (text : List ℕ) (w : Word) (place : Place) (ts us vs : List Token) (x y : Item) → SpellsBody text w place ts us x → SpellsBody text w place ts vs y → IsNotAt (kinds.Word words.On) us → IsNotAt (kinds.Word words.On) vs → (us ≡ vs) × (x ≡ y)
unique_body text words.Attr place ts us vs x y q q' n n' = unique_attribute q q'
unique_body text words.Aggregate place ts us vs x y q q' n n' = unique_aggregate q q'
unique_body text words.Action place ts us vs x y q q' n n' = unique_action q q' n n'
unique_body text words.Routine place ts us vs x y q q' n n' = unique_routine q q'
unique_body text words.Main place ts us vs x y q q' n n' = unique_main q q'
unique_body text words.Post place ts us vs x y q q' n n' = unique_post q q'
unique_body text _ place ts us vs x y q q' n n' = absurd q

same_word : (t : Token) (v w : Word) → t.kind ≡ kinds.Word v → t.kind ≡ kinds.Word w → v ≡ w
same_word t v w h i = cc

no_on : (text : List ℕ) (w : Word) (place : Place) (ts us : List Token) (x : Item) → SpellsBody text w place ts us x → w ≡ words.On → ⊥
no_on text words.On place ts us x q e = q
no_on text words.Attr place ts us x q e = cc
no_on text words.Aggregate place ts us x q e = cc
no_on text words.Action place ts us x q e = cc
no_on text words.Routine place ts us x q e = cc
no_on text words.Main place ts us x q e = cc
no_on text words.Post place ts us x q e = cc
no_on text _ place ts us x q e = q

module _ {text : List ℕ} where
  unique_item : {ts us vs : List Token} {x y : Item} → SpellsItem text ts us x → SpellsItem text ts vs y → IsNotAt (kinds.Word words.On) us → IsNotAt (kinds.Word words.On) vs → (us ≡ vs) × (x ≡ y)
  unique_item {us = us} {vs = vs} {x = x} {y = y} (an_item {t} {word} {ts} h q) (an_item {word = word'} h' q') n n' =
      unique_body text word t.place ts us vs x y q (subst (λ w. SpellsBody text w t.place ts vs y) (sym (same_word t word word' h h')) q') n n'

  -- no item begins with `on`
  item_begins : {ts us : List Token} {x : Item} → SpellsItem text ts us x → IsNotAt (kinds.Word words.On) ts
  item_begins {us = us} {x = x} (an_item {t} {word} {ts} h q) = λ e. no_on text word t.place ts us x q (same_word t word words.On h e)

  items_begin : {ts us : List Token} {xs : List Item} → Listing (SpellsItem text) ts us xs → us ≡ [] → IsNotAt (kinds.Word words.On) ts
  items_begin none e = subst (IsNotAt (kinds.Word words.On)) (sym e) tt
  items_begin (more p q) e = item_begins p

  item_here : {ts us : List Token} {x : Item} → SpellsItem text ts us x → ts ≡ [] → ⊥
  item_here (an_item h q) e = cc

  unique_items : {ts us vs : List Token} {xs ys : List Item} → Listing (SpellsItem text) ts us xs → Listing (SpellsItem text) ts vs ys → us ≡ [] → vs ≡ [] → xs ≡ ys
  unique_items none none e e' = refl
  unique_items none (more p q) e e' = absurd (item_here p e)
  unique_items (more p q) none e e' = absurd (item_here p e')
  unique_items (more p q) (more {vs = vs'} {xs = xs'} p' q') e e' =
      let same = unique_item p p' (items_begin q e) (items_begin q' e') in
      let rest = unique_items q (subst (λ l. Listing (SpellsItem text) l vs' xs') (sym same.0) q') e e' in
      λ i. same.1 i ∷ rest i

-- two scripts of one list of tokens are one
pub one_script : (text : List ℕ) (tokens : Tokens) (s r : Script) → IsScript text tokens s → IsScript text tokens r → s ≡ r
one_script text tokens s r p q =
    let items = unique_items p.items q.items refl refl in
    let end = p.end ∙ sym q.end in
    λ i. record { items = items i; end = end i }
