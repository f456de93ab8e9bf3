-- What items declare.
use Rattle.std.specs.Prelude.{ℕ, ◌+◌, Bool, true, false, List, [], ◌∷◌, ◌++◌, flat_map, length, Some, None}
use Rattle.std.specs.List.{list_any, sum_by}
use Rattle.sgl_values.specs.declared.fault.Tag.{Tag}
use Rattle.sgl_tree.specs.declared.expression.Name.{Name}
use Rattle.sgl_tree.specs.declared.item.Item.{Item}
use Rattle.sgl_tree.specs.declared.item.Item.TheVariants.{Attr, Aggregate, Action, Routine, Main, Post}
use Rattle.sgl_types.specs.declared.declared.Declared.{Declared}
use Rattle.sgl_types.specs.declared.declared.Definition.{Definition}

-- the first name of a definition is its unit
abbrev pub unit_of : List Name → List ℕ
unit_of [] = []
unit_of (unit ∷ params) = unit.text

-- the parameters behind the unit
abbrev pub after_unit : List Name → List Name
after_unit [] = []
after_unit (unit ∷ params) = params

abbrev pub definition : Name → List Name → Definition
definition name params = record { name = name.text; params = length (after_unit params) }

abbrev pub const_of : Item → List (List ℕ)
const_of (Attr name None init) = name.text ∷ []
const_of item = []

abbrev pub effect_of : Item → List (List ℕ)
effect_of (Attr name (Some tag) init) = name.text ∷ []
effect_of item = []

abbrev pub tag_of : Item → List Tag
tag_of (Attr name (Some tag) init) = tag ∷ []
tag_of item = []

abbrev pub agg_of : Item → List Definition
agg_of (Aggregate name params fold tests otherwise) = definition name params ∷ []
agg_of item = []

abbrev pub action_of : Item → List Definition
action_of (Action name params ons) = definition name params ∷ []
action_of item = []

abbrev pub routine_of : Item → List Definition
routine_of (Routine name params body) = definition name params ∷ []
routine_of item = []

-- the `on` clauses of an item
abbrev pub ons_of : Item → ℕ
ons_of (Action name params ons) = length ons
ons_of item = 0

abbrev pub is_main : Item → Bool
is_main (Main place unit body) = true
is_main item = false

abbrev pub is_post : Item → Bool
is_post (Post place rules spawn removal) = true
is_post item = false

-- all that items declare
abbrev pub declared : List Item → Declared
declared items = record {
  consts = flat_map const_of items;
  effects = flat_map effect_of items;
  tags = flat_map tag_of items;
  aggs = flat_map agg_of items;
  actions = flat_map action_of items;
  routines = flat_map routine_of items;
  ons = sum_by ons_of items;
  has_main = list_any is_main items;
  has_post = list_any is_post items;
}

-- what one more item declares besides
abbrev pub with_item : Declared → Item → Declared
with_item d (Attr name None init) = record d { consts = d.consts ++ name.text ∷ [] }
with_item d (Attr name (Some tag) init) = record d { effects = d.effects ++ name.text ∷ []; tags = d.tags ++ tag ∷ [] }
with_item d (Aggregate name params fold tests otherwise) = record d { aggs = d.aggs ++ definition name params ∷ [] }
with_item d (Action name params ons) = record d { ons = d.ons + length ons; actions = d.actions ++ definition name params ∷ [] }
with_item d (Routine name params body) = record d { routines = d.routines ++ definition name params ∷ [] }
with_item d (Main place unit body) = record d { has_main = true }
with_item d (Post place rules spawn removal) = record d { has_post = true }
