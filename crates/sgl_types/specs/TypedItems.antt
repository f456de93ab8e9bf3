-- A script with its names resolved.
use Rattle.std.specs.Prelude.{ℕ, ◌≡◌, ℤ, pos, neg_ℤ, List, [], ◌∷◌, map, length, Bool, true, false, Option, Some, None}
use Rattle.std.specs.List.{sum_by}
use Rattle.std.specs.Option.{option_map}
use Rattle.sgl_tree.specs.declared.expression.Expr.{Expr}
use Rattle.sgl_tree.specs.declared.item.Fold.{Fold}
use Rattle.sgl_tree.specs.declared.item.Item.{Item}
use Rattle.sgl_tree.specs.declared.item.Item.TheVariants.{Attr as AttrItem, Aggregate, Action, Routine, Main, Post as PostItem}
use Rattle.sgl_tree.specs.declared.item.Literal.{Literal}
use Rattle.sgl_tree.specs.declared.expression.Name.{Name}
use Rattle.sgl_tree.specs.declared.item.OnClause.{OnClause}
use Rattle.sgl_tree.specs.declared.item.Rule.{Rule}
use Rattle.sgl_tree.specs.declared.item.Script.{Script}
use Rattle.sgl_tree.specs.declared.item.Spawn.{Spawn}
use Rattle.sgl_tree.specs.declared.item.Test.{Test}
use Rattle.sgl_tree.specs.declared.item.Test.TheVariants.{Compare, Within}
use Rattle.sgl_tree.specs.declared.item.Write.{Write}
use Rattle.sgl_tree.specs.declared.statement.Stmt.{Stmt}
use Rattle.sgl_values.specs.declared.fault.Tag.{Tag}
use Rattle.sgl_values.specs.declared.operator.FoldKind.{FoldKind}
use Rattle.sgl_values.specs.declared.operator.FoldKind.TheVariants.{Count}
use Rattle.sgl_values.specs.declared.place.Place.{Place}
use Rattle.sgl_typed.specs.declared.script.Attr.{Attr}
use Rattle.sgl_typed.specs.declared.script.Attr.TheVariants as attrs
use Rattle.sgl_typed.specs.declared.schema.EffectAttr.{EffectAttr}
use Rattle.sgl_typed.specs.declared.script.TAction.{TAction}
use Rattle.sgl_typed.specs.declared.script.TAgg.{TAgg}
use Rattle.sgl_typed.specs.declared.script.TExpr.{TExpr}
use Rattle.sgl_typed.specs.declared.script.TOn.{TOn}
use Rattle.sgl_typed.specs.declared.script.TRoutine.{TRoutine}
use Rattle.sgl_typed.specs.declared.script.TRule.{TRule}
use Rattle.sgl_typed.specs.declared.script.TScript.{TScript}
use Rattle.sgl_typed.specs.declared.script.TSpawn.{TSpawn}
use Rattle.sgl_typed.specs.declared.script.TStmt.{TStmt}
use Rattle.sgl_typed.specs.declared.script.TTest.{TTest}
use Rattle.sgl_typed.specs.declared.script.TTest.TheVariants as tests
use Rattle.sgl_typed.specs.declared.script.TWrite.{TWrite}
use Rattle.sgl_types.specs.declared.declared.AttrName.{AttrName}
use Rattle.sgl_types.specs.declared.declared.AttrName.TheVariants.{Const, Effect}
use Rattle.sgl_types.specs.declared.bodies.Part.TheVariants.{Test as TestSide, Amount}
use Rattle.sgl_types.specs.Scope.{Scope, attribute_of}
use Rattle.sgl_types.specs.Typed.{typed, attr, within_or_zero}
use Rattle.sgl_types.specs.Statements.{typed_statements}
use Rattle.sgl_types.specs.Declarations.{after_unit, declared}
use Rattle.sgl_types.specs.Items.{Setting, attribute, param_locals, definition_scope, post_scope, routine_start, main_start, in_script, second_of, slots_of}

abbrev pub signed : Bool → ℤ → ℤ
signed true n = neg_ℤ n
signed false n = n

abbrev pub literal_number : Literal → ℤ
literal_number literal = signed literal.negative (pos (within_or_zero 1000000000000 literal.value))

abbrev pub literal_or_zero : Option Literal → ℤ
literal_or_zero None = pos 0
literal_or_zero (Some literal) = literal_number literal

abbrev pub otherwise_number : Option (Place × Literal) → ℤ
otherwise_number None = pos 0
otherwise_number (Some p) = literal_number p.1

abbrev pub effect_number : AttrName → ℕ
effect_number (Effect i) = i
effect_number name = 0

abbrev pub const_number : AttrName → ℕ
const_number (Const i) = i
const_number name = 0

abbrev pub column : Scope → Name → Attr
column s name = attr (attribute_of s.all s.earlier name.text)

abbrev pub typed_test : Scope → Test → TTest
typed_test s (Compare row attr op right) = tests.Compare (column s attr) op (typed s right)
typed_test s (Within place x y radius) = tests.Within (column s x) (column s y) (typed s radius)

abbrev pub attr_or_key : Setting → Option Name → Attr
attr_or_key g None = attrs.Key
attr_or_key g (Some name) = attr (attribute g name)

-- a count reads no attribute, which is said by the key
abbrev pub fold_attr : Setting → FoldKind → Option Name → Attr
fold_attr g Count name = attrs.Key
fold_attr g kind name = attr_or_key g name

abbrev pub typed_priority : Scope → Option (Place × Expr) → Option (Place × TExpr)
typed_priority s None = None
typed_priority s (Some by) = Some (by.0, typed s by.1)

abbrev pub typed_write : Scope → Write → TWrite
typed_write s write = record {
  effect = effect_number (attribute_of s.all s.earlier write.attr.text);
  amount = typed s write.value;
  by = typed_priority s write.by;
}

abbrev pub typed_clause : Setting → List Name → OnClause → TOn
typed_clause g params clause = record {
  tests = map (typed_test (definition_scope g TestSide params clause.row.text)) clause.tests;
  writes = map (typed_write (definition_scope g Amount params clause.row.text)) clause.writes;
}

abbrev pub typed_rule : Scope → Rule → TRule
typed_rule s rule = record { attr = const_number (attribute_of s.all s.earlier rule.attr.text); value = typed s rule.value }

-- ---- items

abbrev pub typed_effect : Name → Tag → Option Literal → EffectAttr
typed_effect name tag init = record { name = name.text; tag = tag; init = literal_or_zero init }

abbrev pub typed_aggregate : Setting → Name → List Name → Fold → List Test → Option (Place × Literal) → TAgg
typed_aggregate g name params fold tests otherwise = record {
  name = name.text;
  params = length (after_unit params);
  kind = fold.kind;
  place = fold.place;
  attr = fold_attr g fold.kind fold.attr;
  second = attr_or_key g (second_of fold.kind fold.second);
  tests = map (typed_test (definition_scope g TestSide params fold.row.text)) tests;
  otherwise = otherwise_number otherwise;
}

abbrev pub typed_action : Setting → Name → List Name → List OnClause → TAction
typed_action g name params ons = record { name = name.text; params = length (after_unit params); ons = map (typed_clause g params) ons }

abbrev pub typed_routine : Setting → List Name → List Stmt → TRoutine
typed_routine g params body = record {
  params = map (λ local. local.slot) (param_locals g.slots (after_unit params));
  body = typed_statements body (routine_start g params);
}

abbrev pub typed_main : Setting → Name → List Stmt → List TStmt
typed_main g unit body = typed_statements body (main_start g unit)

abbrev pub rules_in : Scope → List Rule → List TRule
rules_in s rules = map (typed_rule s) rules

abbrev pub typed_rules : Setting → List Rule → List TRule
typed_rules g rules = rules_in (post_scope g) rules

abbrev pub typed_child : Scope → Spawn → TSpawn
typed_child s spawn = record { cond = typed s spawn.cond; rules = rules_in s spawn.rules }

abbrev pub spawn_in : Scope → Option Spawn → Option TSpawn
spawn_in s spawn = option_map (typed_child s) spawn

abbrev pub typed_spawn : Setting → Option Spawn → Option TSpawn
typed_spawn g spawn = spawn_in (post_scope g) spawn

abbrev pub removal_in : Scope → Option Expr → Option TExpr
removal_in s removal = option_map (typed s) removal

abbrev pub typed_removal : Setting → Option Expr → Option TExpr
typed_removal g removal = removal_in (post_scope g) removal

-- ---- what each item adds

abbrev pub effects_of : Setting → Item → List EffectAttr
effects_of g (AttrItem name (Some tag) init) = typed_effect name tag init ∷ []
effects_of g item = []

abbrev pub aggs_of : Setting → Item → List TAgg
aggs_of g (Aggregate name params fold tests otherwise) = typed_aggregate g name params fold tests otherwise ∷ []
aggs_of g item = []

abbrev pub actions_of : Setting → Item → List TAction
actions_of g (Action name params ons) = typed_action g name params ons ∷ []
actions_of g item = []

abbrev pub routines_of : Setting → Item → List TRoutine
routines_of g (Routine name params body) = typed_routine g params body ∷ []
routines_of g item = []

abbrev pub mains_of : Setting → Item → List (List TStmt)
mains_of g (Main place unit body) = typed_main g unit body ∷ []
mains_of g item = []

abbrev pub rules_of : Setting → Item → List (List TRule)
rules_of g (PostItem place rules spawn removal) = typed_rules g rules ∷ []
rules_of g item = []

abbrev pub spawns_of : Setting → Item → List (Option TSpawn)
spawns_of g (PostItem place rules spawn removal) = typed_spawn g spawn ∷ []
spawns_of g item = []

abbrev pub removals_of : Setting → Item → List (Option TExpr)
removals_of g (PostItem place rules spawn removal) = typed_removal g removal ∷ []
removals_of g item = []

-- ---- a script

-- a well-typed script has one `main`, and at most one `post`
abbrev pub last_or : {A : Type 0} → A → List A → A
last_or other [] = other
last_or other (x ∷ xs) = last_or x xs

-- t is the script with its names resolved
pub record IsTyped (script : Script) (t : TScript) : Type 0 where
  pub consts : t.schema.consts ≡ (declared script.items).consts
  pub effects : t.schema.effects ≡ in_script effects_of script
  pub aggs : t.aggs ≡ in_script aggs_of script
  pub actions : t.actions ≡ in_script actions_of script
  pub routines : t.routines ≡ in_script routines_of script
  pub main : t.main ≡ last_or [] (in_script mains_of script)
  pub slots : t.slots ≡ sum_by slots_of script.items
  pub rules : t.rules ≡ last_or [] (in_script rules_of script)
  pub spawn : t.spawn ≡ last_or None (in_script spawns_of script)
  pub removal : t.removal ≡ last_or None (in_script removals_of script)
