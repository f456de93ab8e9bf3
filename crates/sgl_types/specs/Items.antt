-- The broken rules of a whole script.
use Rattle.std.specs.Prelude.{ℕ, ◌+◌, ◌==◌, ◌||◌, bytes_eq, is_some, Bool, true, false, List, [], ◌∷◌, ◌++◌, map, flat_map, length, slice_get, Option, Some, None}
use Rattle.std.specs.List.{sum_by}
use Rattle.std.specs.Option.{option_map_or}
use Rattle.sgl_values.specs.declared.place.Place.{Place}
use Rattle.sgl_values.specs.declared.fault.Tag.{Tag}
use Rattle.sgl_values.specs.declared.operator.FoldKind.{FoldKind}
use Rattle.sgl_values.specs.declared.operator.FoldKind.TheVariants.{Nearest}
use Rattle.sgl_tree.specs.declared.expression.Expr.{Expr}
use Rattle.sgl_tree.specs.declared.expression.Name.{Name}
use Rattle.sgl_tree.specs.declared.item.Fold.{Fold}
use Rattle.sgl_tree.specs.declared.item.Item.{Item}
use Rattle.sgl_tree.specs.declared.item.Item.TheVariants.{Attr, Aggregate, Action, Routine, Main, Post as PostItem}
use Rattle.sgl_tree.specs.declared.item.Literal.{Literal}
use Rattle.sgl_tree.specs.declared.item.OnClause.{OnClause}
use Rattle.sgl_tree.specs.declared.item.Rule.{Rule}
use Rattle.sgl_tree.specs.declared.item.Script.{Script}
use Rattle.sgl_tree.specs.declared.item.Spawn.{Spawn}
use Rattle.sgl_tree.specs.declared.item.Test.{Test}
use Rattle.sgl_tree.specs.declared.item.Test.TheVariants.{Compare, Within}
use Rattle.sgl_tree.specs.declared.item.Write.{Write}
use Rattle.sgl_tree.specs.declared.statement.Stmt.{Stmt}
use Rattle.sgl_typed.specs.declared.script.Kind.TheVariants.{Numeric, Logical}
use Rattle.sgl_types.specs.declared.bodies.Context.{Context}
use Rattle.sgl_types.specs.declared.bodies.Local.{Local}
use Rattle.sgl_types.specs.declared.bodies.Part.{Part}
use Rattle.sgl_types.specs.declared.bodies.Part.TheVariants.{Statements, Test as TestSide, Amount, Post}
use Rattle.sgl_types.specs.declared.declared.AttrName.{AttrName}
use Rattle.sgl_types.specs.declared.declared.AttrName.TheVariants.{Effect}
use Rattle.sgl_types.specs.declared.declared.Declared.{Declared}
use Rattle.sgl_types.specs.declared.finding.Finding.{Finding}
use Rattle.sgl_types.specs.Declarations.{after_unit, unit_of, declared}
use Rattle.sgl_types.specs.Rules.{unknown_name, twice, const_written, not_const_target, no_main, two_mains, else_missing, else_unwanted, literal_range, too_many, by_missing, by_unwanted}
use Rattle.sgl_types.specs.Index.{position}
use Rattle.sgl_types.specs.Scope.{Scope, is_key, defines, declares_attribute, attribute_of}
use Rattle.sgl_types.specs.Faults.{undeclared_faults, dotted_faults, operand_faults}
use Rattle.sgl_types.specs.Statements.{Standing, lets, is_local, statements_faults}
use Rattle.sgl_values.specs.declared.limit.TheConstants.{AGGREGATES_MAX, CLAUSES_MAX, CONSTS_MAX, EFFECTS_MAX, PARAMS_MAX}

-- the slots of an item
abbrev pub slots_of : Item → ℕ
slots_of (Routine name params body) = length (after_unit params) + lets body
slots_of (Main place unit body) = lets body
slots_of item = 0

-- ---- names

abbrev pub is_in : List ℕ → List (List ℕ) → Bool
is_in name names = is_some (position name names)

-- a name that equals one of these before it
abbrev pub repeated : List (List ℕ) → List Name → List Finding
repeated before [] = []
repeated before (name ∷ more) = twice (is_in name.text before) name.place ++ repeated (before ++ name.text ∷ []) more

abbrev pub at_name : Option Name → List Finding
at_name None = []
at_name (Some name) = too_many true name.place

-- counted from 0 and with the unit as the first, one parameter behind it too many has this number
abbrev pub params_faults : List Name → List Finding
params_faults params = repeated [] params ++ at_name (slice_get params (1 + PARAMS_MAX))

-- parameters are locals with the slots from this one on
abbrev pub param_locals : ℕ → List Name → List Local
param_locals slot [] = []
param_locals slot (name ∷ more) = record { name = name.text; slot = slot; kind = Numeric } ∷ param_locals (1 + slot) more

-- where an item stands: what the script declares, what the items before it declare, and the number of their slots
pub record Setting : Type 0 where
  pub all : Declared
  pub earlier : Declared
  pub slots : ℕ

abbrev pub setting : Declared → Declared → ℕ → Setting
setting all earlier slots = record { all = all; earlier = earlier; slots = slots }

abbrev pub setting_of : Context → Setting
setting_of context = setting context.all.now context.earlier.now context.slots

abbrev pub scope_in : Setting → Part → List ℕ → List ℕ → List Local → Scope
scope_in g part unit row locals = record {
  all = g.all;
  earlier = g.earlier;
  part = part;
  unit = unit;
  target = row;
  locals = locals;
}

-- what tests and amounts of a definition may name: its parameters have the slots from 0 on
abbrev pub definition_scope : Setting → Part → List Name → List ℕ → Scope
definition_scope g part params row = scope_in g part (unit_of params) row (param_locals 0 (after_unit params))

abbrev pub post_scope : Setting → Scope
post_scope g = scope_in g Post [] [] []

abbrev pub attribute : Setting → Name → AttrName
attribute g name = attribute_of g.all g.earlier name.text

abbrev pub definition_faults : Setting → Name → List Name → List Finding
definition_faults g name params = twice (defines g.earlier name.text) name.place ++ params_faults params

-- ---- attributes

abbrev pub literal_faults : Literal → List Finding
literal_faults literal = literal_range 1000000000000 literal.value literal.place

abbrev pub init_faults : Option Literal → List Finding
init_faults None = []
init_faults (Some literal) = literal_faults literal

-- as many attributes of a kind as may be
abbrev pub is_full : Declared → Bool → Bool
is_full d true = length d.effects == EFFECTS_MAX
is_full d false = length d.consts == CONSTS_MAX

abbrev pub attr_faults : Setting → Name → Bool → Option Literal → List Finding
attr_faults g name is_effect init =
    twice (is_key name.text || declares_attribute g.earlier name.text) name.place
    ++ too_many (is_full g.earlier is_effect) name.place ++ init_faults init

-- ---- aggregates

-- a name of an attribute that is read of the scanned row
abbrev pub column_faults : Scope → Name → List Finding
column_faults s attr = dotted_faults (attribute_of s.all s.earlier attr.text) attr.place

abbrev pub test_faults : Scope → Test → List Finding
test_faults s (Compare row attr op right) =
    unknown_name (bytes_eq row.text s.target) row.place ++ column_faults s attr ++ operand_faults Numeric s right
test_faults s (Within place x y radius) = column_faults s x ++ column_faults s y ++ operand_faults Numeric s radius

abbrev pub tests_faults : Scope → List Test → List Finding
tests_faults s tests = flat_map (test_faults s) tests

abbrev pub else_faults : FoldKind → Place → Option (Place × Literal) → List Finding
else_faults kind place None = else_missing kind place
else_faults kind place (Some p) = else_unwanted kind p.0 ++ literal_faults p.1

abbrev pub fold_attr_faults : Setting → Option Name → List Finding
fold_attr_faults g None = []
fold_attr_faults g (Some name) = dotted_faults (attribute g name) name.place

-- the nearest alone has a second attribute
abbrev pub second_of : FoldKind → Option Name → Option Name
second_of Nearest name = name
second_of kind name = None

abbrev pub fold_attrs_faults : Setting → Fold → List Finding
fold_attrs_faults g fold = fold_attr_faults g fold.attr ++ fold_attr_faults g (second_of fold.kind fold.second)

-- a scanned row that goes by the name of the unit or of a parameter
abbrev pub row_faults : Scope → Name → List Finding
row_faults s row = twice (is_local s row.text) row.place

abbrev pub aggregate_faults : Setting → Name → List Name → Fold → List Test → Option (Place × Literal) → List Finding
aggregate_faults g name params fold tests otherwise =
    let s = definition_scope g TestSide params fold.row.text in
    definition_faults g name params
    ++ too_many (length g.earlier.aggs == AGGREGATES_MAX) name.place
    ++ row_faults s fold.row
    ++ fold_attrs_faults g fold
    ++ else_faults fold.kind fold.place otherwise
    ++ tests_faults s tests

-- ---- actions

-- a name of an attribute left of `<-`
abbrev pub written_faults : AttrName → Place → List Finding
written_faults name place = undeclared_faults name place ++ const_written name place

-- how the amounts of an effect attribute are combined, where the name stands for one
abbrev pub tag_of_name : Declared → AttrName → Option Tag
tag_of_name d (Effect i) = slice_get d.tags i
tag_of_name d name = None

abbrev pub priority_faults : Scope → Option Tag → Place → Option (Place × Expr) → List Finding
priority_faults s tag place None = by_missing tag place
priority_faults s tag place (Some by) = by_unwanted tag by.0 ++ operand_faults Numeric s by.1

abbrev pub write_faults : Scope → Write → List Finding
write_faults s write =
    let name = attribute_of s.all s.earlier write.attr.text in
    written_faults name write.attr.place
    ++ operand_faults Numeric s write.value
    ++ priority_faults s (tag_of_name s.earlier name) write.attr.place write.by

abbrev pub writes_faults : Scope → List Write → List Finding
writes_faults s writes = flat_map (write_faults s) writes

abbrev pub clause_faults : Setting → List Name → OnClause → List Finding
clause_faults g params clause =
    row_faults (definition_scope g TestSide params clause.row.text) clause.row
    ++ tests_faults (definition_scope g TestSide params clause.row.text) clause.tests
    ++ writes_faults (definition_scope g Amount params clause.row.text) clause.writes

-- behind so many clauses of this and earlier actions, one more than may be is one too many
abbrev pub clauses_faults : Setting → List Name → ℕ → List OnClause → List Finding
clauses_faults g params before [] = []
clauses_faults g params before (clause ∷ more) =
    (too_many (before == CLAUSES_MAX) clause.place ++ clause_faults g params clause) ++ clauses_faults g params (before + 1) more

abbrev pub action_faults : Setting → Name → List Name → List OnClause → List Finding
action_faults g name params ons = definition_faults g name params ++ clauses_faults g params g.earlier.ons ons

-- ---- post

-- a name of an attribute left of `=`
abbrev pub assigned_faults : AttrName → Place → List Finding
assigned_faults name place = undeclared_faults name place ++ not_const_target name place

abbrev pub rule_faults : Scope → Rule → List Finding
rule_faults s rule = assigned_faults (attribute_of s.all s.earlier rule.attr.text) rule.attr.place ++ operand_faults Numeric s rule.value

abbrev pub rules_faults : Scope → List Rule → List Finding
rules_faults s rules = flat_map (rule_faults s) rules

abbrev pub removal_faults : Scope → Option Expr → List Finding
removal_faults s removal = option_map_or (operand_faults Logical s) removal []

abbrev pub assigned_names : List Rule → List Name
assigned_names rules = map (λ rule. rule.attr) rules

-- the rules of one block, which assign no attribute twice
abbrev pub assignments_faults : Scope → List Rule → List Finding
assignments_faults s rules = repeated [] (assigned_names rules) ++ rules_faults s rules

-- the condition and the rules of a child
abbrev pub child_faults : Scope → Spawn → List Finding
child_faults s spawn = operand_faults Logical s spawn.cond ++ assignments_faults s spawn.rules

abbrev pub spawn_faults : Scope → Option Spawn → List Finding
spawn_faults s spawn = option_map_or (child_faults s) spawn []

abbrev pub post_faults : Setting → Place → List Rule → Option Spawn → Option Expr → List Finding
post_faults g place rules spawn removal =
    twice g.earlier.has_post place
    ++ assignments_faults (post_scope g) rules
    ++ spawn_faults (post_scope g) spawn
    ++ removal_faults (post_scope g) removal

-- ---- routines and main

abbrev pub routine_start : Setting → List Name → Standing
routine_start g params = record {
  scope = scope_in g Statements (unit_of params) [] (param_locals g.slots (after_unit params));
  next = length (after_unit params) + g.slots;
}

abbrev pub main_start : Setting → Name → Standing
main_start g unit = record { scope = scope_in g Statements unit.text [] []; next = g.slots }

abbrev pub routine_faults : Setting → Name → List Name → List Stmt → List Finding
routine_faults g name params body = definition_faults g name params ++ statements_faults body (routine_start g params)

abbrev pub main_faults : Setting → Place → Name → List Stmt → List Finding
main_faults g place unit body = two_mains g.earlier.has_main place ++ statements_faults body (main_start g unit)

-- ---- a script

abbrev pub item_faults : Setting → Item → List Finding
item_faults g (Attr name tag init) = attr_faults g name (is_some tag) init
item_faults g (Aggregate name params fold tests otherwise) = aggregate_faults g name params fold tests otherwise
item_faults g (Action name params ons) = action_faults g name params ons
item_faults g (Routine name params body) = routine_faults g name params body
item_faults g (Main place unit body) = main_faults g place unit body
item_faults g (PostItem place rules spawn removal) = post_faults g place rules spawn removal

-- an item behind these, in a script of all
abbrev pub setting_behind : List Item → List Item → Setting
setting_behind all earlier = setting (declared all) (declared earlier) (sum_by slots_of earlier)

-- what the items of a script add, each where it stands
abbrev pub gathered : {A : Type 0} → (Setting → Item → List A) → List Item → List Item → List Item → List A
gathered add all earlier [] = []
gathered add all earlier (item ∷ rest) = add (setting_behind all earlier) item ++ gathered add all (earlier ++ item ∷ []) rest

abbrev pub in_script : {A : Type 0} → (Setting → Item → List A) → Script → List A
in_script add script = gathered add script.items [] script.items

-- every broken rule of a script
abbrev pub type_faults : Script → List Finding
type_faults script = in_script item_faults script ++ no_main (declared script.items).has_main script.end
