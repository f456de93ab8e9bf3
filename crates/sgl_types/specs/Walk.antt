-- What the check has made and found behind some items of a script.
use Rattle.std.specs.Prelude.{◌+◌, List, [], ◌∷◌, ◌++◌, Some, None}
use Rattle.sgl_tree.specs.declared.item.Item.{Item}
use Rattle.sgl_tree.specs.declared.item.Item.TheVariants.{Attr, Aggregate, Action, Routine, Main, Post}
use Rattle.sgl_tree.specs.declared.item.Script.{Script}
use Rattle.sgl_types.specs.declared.declared.Declared.{Declared}
use Rattle.sgl_types.specs.declared.items.Typing.{Typing}
use Rattle.sgl_types.specs.Declarations.{declared, with_item}
use Rattle.sgl_types.specs.Findings.{noted}
use Rattle.sgl_types.specs.Items.{Setting, setting, slots_of, item_faults}
use Rattle.sgl_types.specs.Rules.{no_main}
use Rattle.sgl_types.specs.TypedItems.{typed_effect, typed_aggregate, typed_action, typed_routine, typed_main, typed_rules, typed_spawn, typed_removal}

-- where the next item stands
abbrev pub setting_at : Declared → Typing → Setting
setting_at all t = setting all t.earlier t.slots

-- what an item adds to what was made
abbrev pub with_made : Setting → Item → Typing → Typing
with_made g (Attr name None init) t = t
with_made g (Attr name (Some tag) init) t = record t { effects = t.effects ++ typed_effect name tag init ∷ [] }
with_made g (Aggregate name params fold tests otherwise) t = record t { aggs = t.aggs ++ typed_aggregate g name params fold tests otherwise ∷ [] }
with_made g (Action name params ons) t = record t { actions = t.actions ++ typed_action g name params ons ∷ [] }
with_made g (Routine name params body) t = record t { routines = t.routines ++ typed_routine g params body ∷ [] }
with_made g (Main place unit body) t = record t { main = typed_main g unit body }
with_made g (Post place rules spawn removal) t = record t { rules = typed_rules g rules; spawn = typed_spawn g spawn; removal = typed_removal g removal }

-- and to what was found
abbrev pub with_checked : Setting → Item → Typing → Typing
with_checked g item t = record (with_made g item t) { slots = t.slots + slots_of item; found = noted t.found (item_faults g item) }

abbrev pub after_item : Declared → Item → Typing → Typing
after_item all item t = record (with_checked (setting_at all t) item t) { earlier = with_item t.earlier item }

abbrev pub after_items : Declared → List Item → Typing → Typing
after_items all [] t = t
after_items all (item ∷ rest) t = after_items all rest (after_item all item t)

-- what there is before the first item
abbrev pub nothing : Typing
nothing = record {
  earlier = declared [];
  slots = 0;
  effects = [];
  aggs = [];
  actions = [];
  routines = [];
  main = [];
  rules = [];
  spawn = None;
  removal = None;
  found = None;
}

-- what there is at the end of a script
abbrev pub walk : Script → Typing
walk script =
    let t = after_items (declared script.items) script.items nothing in
    record t { found = noted t.found (no_main (declared script.items).has_main script.end) }
