-- A script that breaks no rule is well-formed once resolved.
use Rattle.std.proofs.Common.{◌≡◌, ℕ, ◌+◌, ◌≤◌, ◌&&◌, nat_le, Bool, true, List, [], ◌∷◌, ◌++◌, map, length, Option, Some, None, suc, subst, refl, ap, sym, ◌∙◌, arith}
use Rattle.std.specs.List.{list_all, sum_by}
use Rattle.std.proofs.lemmas.List.{append-nil, map-append}
use Rattle.std.proofs.lemmas.List.Folds.{list_all-append}
use Rattle.std.proofs.lemmas.List.Sums.{sum_by-append, sum_by-cons}
use Rattle.sgl_tree.specs.declared.item.Item.{Item}
use Rattle.sgl_tree.specs.declared.item.Item.TheVariants.{Attr, Aggregate, Action, Routine, Main, Post}
use Rattle.sgl_values.specs.declared.place.Place.{Place}
use Rattle.sgl_tree.specs.declared.expression.Expr.{Expr}
use Rattle.sgl_tree.specs.declared.item.OnClause.{OnClause}
use Rattle.sgl_tree.specs.declared.item.Rule.{Rule}
use Rattle.sgl_tree.specs.declared.item.Spawn.{Spawn}
use Rattle.sgl_tree.specs.declared.expression.Name.{Name}
use Rattle.sgl_tree.specs.declared.item.Script.{Script}
use Rattle.sgl_typed.specs.declared.schema.EffectAttr.{EffectAttr}
use Rattle.sgl_typed.specs.declared.schema.Schema.{Schema}
use Rattle.sgl_typed.specs.declared.script.TAction.{TAction}
use Rattle.sgl_typed.specs.declared.script.TAgg.{TAgg}
use Rattle.sgl_typed.specs.declared.script.TRoutine.{TRoutine}
use Rattle.sgl_typed.specs.declared.script.TScript.{TScript}
use Rattle.sgl_typed.specs.SchemaForm.{differ_by, is_same_name, name_fits, names_of, attributes_fit}
use Rattle.sgl_typed.specs.WellFormed.{Callees, agg_fits, action_fits, routines_fit, statements_fit, main_body, rules_fit, spawn_fits, removal_fits, is_well_formed}
use Rattle.sgl_types.specs.declared.declared.Declared.{Declared}
use Rattle.sgl_types.specs.declared.finding.Finding.{Finding}
use Rattle.sgl_types.specs.declared.finding.TypeKind.TheVariants.{TwoMains, NoMain}
use Rattle.sgl_types.specs.declared.items.Typing.{Typing}
use Rattle.sgl_types.specs.Declarations.{declared, with_item, definition, effect_of, agg_of, action_of, routine_of, ons_of}
use Rattle.sgl_types.specs.Rules.{fault_if, fault_unless}
use Rattle.sgl_types.specs.Findings.{noted, IsFirst}
use Rattle.sgl_types.specs.Items.{Setting, setting_behind, gathered, in_script, slots_of, item_faults, main_start, type_faults}
use Rattle.sgl_tree.specs.Plain.{has_short_name, has_clause, HasShortNames, HasClauses}
use Rattle.sgl_types.specs.Statements.{statements_faults}
use Rattle.sgl_types.specs.TypedItems.{effects_of, aggs_of, actions_of, routines_of, mains_of, rules_of, spawns_of, removals_of, last_or, IsTyped, typed_clause, typed_routine}
use Rattle.sgl_types.specs.Walk.{after_items, nothing, walk}
use Rattle.sgl_types.proofs.Declaring.{declared-more}
use Rattle.sgl_types.proofs.Differ.{and-left, and-right}
use Rattle.sgl_types.proofs.Equations.{noted-append}
use Rattle.sgl_types.proofs.First.{is_first, is_none}
use Rattle.sgl_types.proofs.Fits.{neither}
use Rattle.sgl_types.proofs.Fronts.{fronts}
use Rattle.sgl_types.proofs.Gathered.{each-passes, along, columns, last-passes, split-more, Follows, follows-items}
use Rattle.sgl_types.proofs.ItemFits.{aggregate-fits, action-fits, routine-few, routine-long, routine-fits, main-fits}
use Rattle.sgl_types.proofs.Limits.{IsWithin, within-more}
use Rattle.sgl_types.proofs.Parts.{Calls}
use Rattle.sgl_types.proofs.PostFits.{PostParts, post-fits}
use Rattle.sgl_types.proofs.SchemaFits.{NamesFit, named-more}
use Rattle.sgl_types.proofs.SlotsFit.{SlotsBehind, slots-more}

-- ---- columns

effect-names : (g : Setting) (item : Item) → map (λ effect. effect.name) (effects_of g item) ≡ map (λ name. name) (effect_of item)
effect-names g (Attr name None init) = refl
effect-names g item = refl

agg-counts : (g : Setting) (item : Item) → map (λ agg. agg.params) (aggs_of g item) ≡ map (λ d. d.params) (agg_of item)
agg-counts g (Aggregate name params fold tests otherwise) = refl
agg-counts g item = refl

action-counts : (g : Setting) (item : Item) → map (λ action. action.params) (actions_of g item) ≡ map (λ d. d.params) (action_of item)
action-counts g (Action name params ons) = refl
action-counts g item = refl

routine-counts : (g : Setting) (item : Item) → map (λ routine. length routine.params) (routines_of g item) ≡ map (λ d. d.params) (routine_of item)
routine-counts g (Routine name params body) = ap (λ n. n ∷ []) (routine-long g params body)
routine-counts g item = refl

map-same : {A : Type 0} (xs : List A) → map (λ x. x) xs ≡ xs
map-same [] = refl
map-same (x ∷ xs) = ap (λ ys. x ∷ ys) (map-same xs)

length-map : {A B : Type 0} (f : A → B) (xs : List A) → length (map f xs) ≡ length xs
length-map f [] = refl
length-map f (x ∷ xs) = ap suc (length-map f xs)

-- lists with one column are as long
as-long : {A B C : Type 0} (f : A → C) (h : B → C) (xs : List A) (ys : List B) → map f xs ≡ map h ys → length xs ≡ length ys
as-long f h xs ys e = sym (length-map f xs) ∙ ap length e ∙ length-map h ys

-- ---- the parts of the typed script

abbrev effects_in : List Item → List EffectAttr
effects_in all = gathered effects_of all [] all

-- a schema of the attributes that items declare
record IsSchema (schema : Schema) (all : List Item) : Type 0 where
  consts : schema.consts ≡ (declared all).consts
  effects : schema.effects ≡ effects_in all

abbrev aggs_in : List Item → List TAgg
aggs_in all = gathered aggs_of all [] all

abbrev actions_in : List Item → List TAction
actions_in all = gathered actions_of all [] all

abbrev routines_in : List Item → List TRoutine
routines_in all = gathered routines_of all [] all

abbrev callees_with : List Item → List ℕ → Callees
callees_with all routines = record { actions = map (λ action. action.params) (actions_in all); routines = routines }

effects-long : (all : List Item) → length (effects_in all) ≡ length (declared all).effects
effects-long all = as-long (λ effect. effect.name) (λ name. name) (effects_in all) (declared all).effects (columns (λ effect. effect.name) (λ name. name) effects_of effect_of effect-names all [] all)

long-consts : (schema : Schema) (all : List Item) → IsSchema schema all → length schema.consts ≡ length (declared all).consts
long-consts schema all is = ap length is.consts

long-effects : (schema : Schema) (all : List Item) → IsSchema schema all → length schema.effects ≡ length (declared all).effects
long-effects schema all is = ap length is.effects ∙ effects-long all

le-of : (n most : ℕ) → n ≤ most → nat_le n most ≡ true
le-of n most le = grind (arith)

all-item : (p : Item → Bool) (all earlier rest : List Item) (item : Item) → list_all p all ≡ true → all ≡ earlier ++ item ∷ rest → p item ≡ true
all-item p all earlier rest item passes e =
    and-left (p item) (list_all p rest) (and-right (list_all p earlier) (p item && list_all p rest) (sym (list_all-append p earlier (item ∷ rest)) ∙ sym (ap (list_all p) e) ∙ passes))

-- ---- schema and limits

attributes-whole : (all : List Item) → IsWithin (declared all) → NamesFit (declared all) → attributes_fit (declared all).consts (effects_in all) ≡ true
attributes-whole all w n =
    let effects : map (λ effect. effect.name) (effects_in all) ≡ (declared all).effects =
    columns (λ effect. effect.name) (λ name. name) effects_of effect_of effect-names all [] all ∙ map-same (declared all).effects in
    let names : names_of (declared all).consts (effects_in all) ≡ (declared all).consts ++ (declared all).effects = ap (λ more. (declared all).consts ++ more) effects in
    λ i. le-of (length (declared all).consts) 32 w.consts i
    && (ap (λ n. nat_le n 16) (effects-long all) ∙ le-of (length (declared all).effects) 16 w.effects) i
    && (ap (list_all name_fits) names ∙ n.short) i
    && (ap (differ_by is_same_name) names ∙ n.apart) i

clauses-long : (g : Setting) (params : List Name) (ons : List OnClause) → length (map (typed_clause g params) ons) ≡ length ons
clauses-long g params ons = length-map (typed_clause g params) ons

action-ons : (g : Setting) (item : Item) → sum_by (λ action. length action.ons) (actions_of g item) ≡ ons_of item
action-ons g (Action name params ons) = let plain : 0 + length (map (typed_clause g params) ons) ≡ length (map (typed_clause g params) ons) = omega arith in plain ∙ clauses-long g params ons
action-ons g item = refl

all-ons : (all earlier rest : List Item) → sum_by (λ action. length action.ons) (gathered actions_of all earlier rest) ≡ sum_by ons_of rest
all-ons all earlier [] = refl
all-ons all earlier (item ∷ rest) =
    sum_by-append (λ action. length action.ons) (actions_of (setting_behind all earlier) item) (gathered actions_of all (earlier ++ item ∷ []) rest)
    ∙ (λ i. action-ons (setting_behind all earlier) item i + all-ons all (earlier ++ item ∷ []) rest i)
    ∙ sym (sum_by-cons ons_of item rest)

-- ---- items

aggs-item : (schema : Schema) (all : List Item) → IsSchema schema all → (earlier rest : List Item) (item : Item) → all ≡ earlier ++ item ∷ rest → item_faults (setting_behind all earlier) item ≡ [] → list_all (agg_fits schema) (aggs_of (setting_behind all earlier) item) ≡ true
aggs-item schema all is earlier rest (Aggregate name params fold tests otherwise) e none =
    λ i. aggregate-fits (setting_behind all earlier) schema (fronts all earlier (Aggregate name params fold tests otherwise ∷ rest) e) (long-consts schema all is) name params fold tests otherwise none i && true
aggs-item schema all is earlier rest item e none = refl

actions-item : (schema : Schema) (all : List Item) → IsSchema schema all → list_all has_clause all ≡ true → (earlier rest : List Item) (item : Item) → all ≡ earlier ++ item ∷ rest → item_faults (setting_behind all earlier) item ≡ []
    → list_all (action_fits schema) (actions_of (setting_behind all earlier) item) ≡ true
actions-item schema all is some earlier rest (Action name params ons) e none =
    λ i. action-fits (setting_behind all earlier) schema (fronts all earlier (Action name params ons ∷ rest) e) (long-consts schema all is) (long-effects schema all is) name params ons
    (all-item has_clause all earlier rest (Action name params ons) some e) none i && true
actions-item schema all is some earlier rest item e none = refl

calls-of : (schema : Schema) (all : List Item) → IsSchema schema all → (earlier rest : List Item) (routines more : List ℕ) → all ≡ earlier ++ rest → routines ≡ map (λ d. d.params) (declared earlier).routines ++ more
    → Calls (setting_behind all earlier) schema (aggs_in all) (callees_with all routines)
calls-of schema all of earlier rest routines more e is = record {
  fronts = fronts all earlier rest e;
  consts = long-consts schema all of;
  aggs-are = columns (λ agg. agg.params) (λ d. d.params) aggs_of agg_of agg-counts all [] all;
  actions-are = columns (λ action. action.params) (λ d. d.params) actions_of action_of action-counts all [] all;
  more = more;
  routines-are = is;
}

routines-item : (schema : Schema) (all : List Item) → IsSchema schema all → (earlier rest : List Item) (item : Item) (before : List ℕ) (made : List TRoutine) → all ≡ earlier ++ item ∷ rest → item_faults (setting_behind all earlier) item ≡ []
    → before ≡ map (λ d. d.params) (declared earlier).routines
    → routines_fit schema (aggs_in all) (actions_in all) (map (λ d. d.params) (with_item (declared earlier) item).routines) made ≡ true
    → routines_fit schema (aggs_in all) (actions_in all) before (routines_of (setting_behind all earlier) item ++ made) ≡ true
routines-item schema all of earlier rest (Attr name None init) before made e none is h = ap (λ b. routines_fit schema (aggs_in all) (actions_in all) b made) is ∙ h
routines-item schema all of earlier rest (Routine name params body) before made e none is h =
    let g = setting_behind all earlier in
    let next : before ++ length (typed_routine g params body).params ∷ [] ≡ map (λ d. d.params) ((declared earlier).routines ++ definition name params ∷ []) =
    (λ i. is i ++ routine-long g params body i ∷ []) ∙ sym (map-append (λ d. d.params) (declared earlier).routines (definition name params ∷ [])) in
    λ i. routine-few g name params body none i
    && routine-fits g schema (aggs_in all) (callees_with all before)
    (calls-of schema all of earlier (Routine name params body ∷ rest) before [] e (is ∙ sym (append-nil (map (λ d. d.params) (declared earlier).routines)))) name params body none i
    && (ap (λ b. routines_fit schema (aggs_in all) (actions_in all) b made) next ∙ h) i
routines-item schema all of earlier rest item before made e none is h = ap (λ b. routines_fit schema (aggs_in all) (actions_in all) b made) is ∙ h

routines-whole : (schema : Schema) (all : List Item) → IsSchema schema all → (earlier rest : List Item) (before : List ℕ) → all ≡ earlier ++ rest → gathered item_faults all earlier rest ≡ [] → before ≡ map (λ d. d.params) (declared earlier).routines
    → routines_fit schema (aggs_in all) (actions_in all) before (gathered routines_of all earlier rest) ≡ true
routines-whole schema all of earlier [] before e none is = refl
routines-whole schema all of earlier (item ∷ rest) before e none is =
    let parts = neither (item_faults (setting_behind all earlier) item) (gathered item_faults all (earlier ++ item ∷ []) rest) none in
    routines-item schema all of earlier rest item before (gathered routines_of all (earlier ++ item ∷ []) rest) e parts.0 is
    (routines-whole schema all of (earlier ++ item ∷ []) rest (map (λ d. d.params) (with_item (declared earlier) item).routines) (split-more all earlier rest item e) parts.1
    (ap (λ d. map (λ d. d.params) d.routines) (sym (declared-more earlier item))))

main-item : (schema : Schema) (all : List Item) → IsSchema schema all → (earlier rest : List Item) (item : Item) → all ≡ earlier ++ item ∷ rest → item_faults (setting_behind all earlier) item ≡ []
    → list_all (λ main. statements_fit (callees_with all (map (λ routine. length routine.params) (routines_in all))) main (main_body schema (aggs_in all) [])) (mains_of (setting_behind all earlier) item) ≡ true
main-item schema all of earlier rest (Main place unit body) e none =
    let g = setting_behind all earlier in
    let routines = map (λ routine. length routine.params) (routines_in all) in
    let front = (fronts all earlier (Main place unit body ∷ rest) e).routines in
    let is : routines ≡ map (λ d. d.params) (declared earlier).routines ++ map (λ d. d.params) front.behind =
    columns (λ routine. length routine.params) (λ d. d.params) routines_of routine_of routine-counts all [] all
    ∙ ap (map (λ d. d.params)) front.joined ∙ map-append (λ d. d.params) (declared earlier).routines front.behind in
    λ i. main-fits g schema (aggs_in all) (callees_with all routines) (calls-of schema all of earlier (Main place unit body ∷ rest) routines (map (λ d. d.params) front.behind) e is) unit body
    (neither (fault_if g.earlier.has_main TwoMains place) (statements_faults body (main_start g unit)) none).1 i && true
main-item schema all of earlier rest item e none = refl

post-item : (schema : Schema) (all : List Item) → IsSchema schema all → (earlier rest : List Item) (place : Place) (rules : List Rule) (spawn : Option Spawn) (removal : Option Expr)
    → all ≡ earlier ++ Post place rules spawn removal ∷ rest → item_faults (setting_behind all earlier) (Post place rules spawn removal) ≡ [] → PostParts (setting_behind all earlier) schema rules spawn removal
post-item schema all is earlier rest place rules spawn removal e none =
    post-fits (setting_behind all earlier) schema (fronts all earlier (Post place rules spawn removal ∷ rest) e) (long-consts schema all is) (long-effects schema all is) place rules spawn removal none

-- what the `post` of an item adds fits
record PostFits (schema : Schema) (g : Setting) (item : Item) : Type 0 where
  rules : list_all (rules_fit schema) (rules_of g item) ≡ true
  spawn : list_all (spawn_fits schema) (spawns_of g item) ≡ true
  removal : list_all (removal_fits schema) (removals_of g item) ≡ true

posts-item : (schema : Schema) (all : List Item) → IsSchema schema all → (earlier rest : List Item) (item : Item) → all ≡ earlier ++ item ∷ rest → item_faults (setting_behind all earlier) item ≡ []
    → PostFits schema (setting_behind all earlier) item
posts-item schema all is earlier rest (Post place rules spawn removal) e none =
    let parts = post-item schema all is earlier rest place rules spawn removal e none in
    record { rules = λ i. parts.rules-fit i && true; spawn = λ i. parts.spawn-fit i && true; removal = λ i. parts.removal-fit i && true }
posts-item schema all is earlier rest item e none = record { rules = refl; spawn = refl; removal = refl }

-- ---- the whole script

nothing-within : IsWithin (declared [])
nothing-within = record { consts = omega arith; effects = omega arith; aggs = omega arith; ons = omega arith }

within-all : (all : List Item) → gathered item_faults all [] all ≡ [] → IsWithin (declared all)
within-all all none = along (λ items. IsWithin (declared items)) all (λ earlier rest item e f w. within-more all earlier item f w) [] all refl none nothing-within

nothing-named : NamesFit (declared [])
nothing-named = record { apart = refl; short = refl }

nothing-slots : (all : List Item) → SlotsBehind all []
nothing-slots all = record { fit = record { apart-all = refl; below-all = refl }; alone = λ e. refl }

attributes-formed : (all : List Item) → list_all has_short_name all ≡ true → gathered item_faults all [] all ≡ [] → attributes_fit (declared all).consts (effects_in all) ≡ true
attributes-formed all short none =
    attributes-whole all (within-all all none)
    (along (λ items. NamesFit (declared items)) all (λ earlier rest item e f n. named-more all earlier item (all-item has_short_name all earlier rest item short e) f n) [] all refl none nothing-named)

well-formed : (schema : Schema) (all : List Item) → IsSchema schema all → list_all has_clause all ≡ true → gathered item_faults all [] all ≡ []
    → is_well_formed schema (aggs_in all) (actions_in all) (routines_in all) (last_or [] (gathered mains_of all [] all)) (sum_by slots_of all)
    (last_or [] (gathered rules_of all [] all)) (last_or None (gathered spawns_of all [] all)) (last_or None (gathered removals_of all [] all)) ≡ true
unfolding is_well_formed
well-formed schema all of some none =
    let within = within-all all none in
    let slots = along (SlotsBehind all) all (λ earlier rest item e f s. slots-more all earlier item f s) [] all refl none (nothing-slots all) in
    let callees = callees_with all (map (λ routine. length routine.params) (routines_in all)) in
    let body = main_body schema (aggs_in all) [] in
    let posts = posts-item schema all of in
    let aggs-long : length (aggs_in all) ≡ length (declared all).aggs =
    as-long (λ agg. agg.params) (λ d. d.params) (aggs_in all) (declared all).aggs (columns (λ agg. agg.params) (λ d. d.params) aggs_of agg_of agg-counts all [] all) in
    λ i. (ap (λ n. nat_le n 64) aggs-long ∙ le-of (length (declared all).aggs) 64 within.aggs) i
    && (ap (λ n. nat_le n 64) (all-ons all [] all) ∙ le-of (declared all).ons 64 within.ons) i
    && each-passes (agg_fits schema) aggs_of all (aggs-item schema all of) [] all refl none i
    && each-passes (action_fits schema) actions_of all (actions-item schema all of some) [] all refl none i
    && routines-whole schema all of [] all [] refl none refl i
    && last-passes (λ main. statements_fit callees main body) [] (gathered mains_of all [] all) refl (each-passes (λ main. statements_fit callees main body) mains_of all (main-item schema all of) [] all refl none) i
    && (slots.fit.apart-all i && slots.fit.below-all i)
    && last-passes (rules_fit schema) [] (gathered rules_of all [] all) refl (each-passes (rules_fit schema) rules_of all (λ earlier rest item e none. (posts earlier rest item e none).rules) [] all refl none) i
    && last-passes (spawn_fits schema) None (gathered spawns_of all [] all) refl (each-passes (spawn_fits schema) spawns_of all (λ earlier rest item e none. (posts earlier rest item e none).spawn) [] all refl none) i
    && last-passes (removal_fits schema) None (gathered removals_of all [] all) refl (each-passes (removal_fits schema) removals_of all (λ earlier rest item e none. (posts earlier rest item e none).removal) [] all refl none) i

-- ---- what the check knows at its end

pub walked : (script : Script) (t : Typing) → t ≡ after_items (declared script.items) script.items nothing → Follows script.items script.items t
walked script t is =
    subst (Follows script.items script.items) (sym is) (follows-items script.items [] script.items nothing refl
    record { earlier-is = refl; slots-is = refl; effects-is = refl; aggs-is = refl; actions-is = refl; routines-is = refl; main-is = refl; rules-is = refl; spawn-is = refl; removal-is = refl; found-is = refl })

pub found-all : (script : Script) (t : Typing) (found : Option Finding) → t ≡ after_items (declared script.items) script.items nothing
    → found ≡ noted t.found (fault_unless (declared script.items).has_main NoMain script.end) → found ≡ noted None (type_faults script)
found-all script t found is found-is =
    found-is ∙ ap (λ f. noted f (fault_unless (declared script.items).has_main NoMain script.end)) (walked script t is).found-is
    ∙ sym (noted-append None (in_script item_faults script) (fault_unless (declared script.items).has_main NoMain script.end))

pub no-faults : (script : Script) (found : Option Finding) → found ≡ noted None (type_faults script) → found ≡ None → type_faults script ≡ []
no-faults script found found-is none = is_none (type_faults script) (sym found-is ∙ none)

pub first-fault : (script : Script) (found : Option Finding) (f : Finding) → found ≡ noted None (type_faults script) → found ≡ Some f → IsFirst f (type_faults script)
first-fault script found f found-is some = is_first (type_faults script) f (sym found-is ∙ some)

-- no item of a script without faults has one
no-item-faults : (script : Script) → type_faults script ≡ [] → in_script item_faults script ≡ []
no-item-faults script none = (neither (in_script item_faults script) (fault_unless (declared script.items).has_main NoMain script.end) none).0

-- ---- the parts of the check, put together

abbrev behind_all : Script → Typing
behind_all script = after_items (declared script.items) script.items nothing

pub walk-of : (script : Script) (items : List Item) (all : Declared) (start t now : Typing) (found : Option Finding)
    → items ≡ script.items → all ≡ declared items → start ≡ nothing → t ≡ after_items all items start → found ≡ noted t.found (fault_unless all.has_main NoMain script.end)
    → now ≡ record t { found = found } → now ≡ walk script
walk-of script items all start t now found items-are all-is start-is t-is found-is now-is =
    let all-are : all ≡ declared script.items = all-is ∙ ap declared items-are in
    let t-are : t ≡ behind_all script = t-is ∙ (λ i. after_items (all-are i) (items-are i) (start-is i)) in
    now-is ∙ ap (λ f. record t { found = f }) found-is ∙ (λ i. record (t-are i) { found = noted (t-are i).found (fault_unless (all-are i).has_main NoMain script.end) })

pub walk-found : (script : Script) (t : Typing) → t ≡ walk script → t.found ≡ noted None (type_faults script)
walk-found script t is = ap (λ t. t.found) is ∙ found-all script (behind_all script) (walk script).found refl refl

pub walk-attributes : (script : Script) (t : Typing) → HasShortNames script → t ≡ walk script → t.found ≡ None → attributes_fit t.earlier.consts t.effects ≡ true
walk-attributes script t short is none =
    let w = walked script (behind_all script) refl in
    (λ i. attributes_fit (is i).earlier.consts (is i).effects) ∙ (λ i. attributes_fit (w.earlier-is i).consts (w.effects-is i))
    ∙ attributes-formed script.items short (no-item-faults script (no-faults script t.found (walk-found script t is) none))

pub walk-fits : (script : Script) (t : Typing) → HasClauses script → t ≡ walk script → t.found ≡ None → (schema : Schema) → schema.consts ≡ t.earlier.consts → schema.effects ≡ t.effects
    → is_well_formed schema t.aggs t.actions t.routines t.main t.slots t.rules t.spawn t.removal ≡ true
walk-fits script t some is none schema consts effects =
    let w = walked script (behind_all script) refl in
    let of : IsSchema schema script.items = record {
      consts = consts ∙ ap (λ t. t.earlier.consts) is ∙ ap (λ d. d.consts) w.earlier-is;
      effects = effects ∙ ap (λ t. t.effects) is ∙ w.effects-is;
    } in
    (λ i. is_well_formed schema (is i).aggs (is i).actions (is i).routines (is i).main (is i).slots (is i).rules (is i).spawn (is i).removal)
    ∙ (λ i. is_well_formed schema (w.aggs-is i) (w.actions-is i) (w.routines-is i) (w.main-is i) (w.slots-is i) (w.rules-is i) (w.spawn-is i) (w.removal-is i))
    ∙ well-formed schema script.items of some (no-item-faults script (no-faults script t.found (walk-found script t is) none))

-- a typed script of what the walk made
pub walk-typed : (script : Script) (t : Typing) (made : TScript) → t ≡ walk script
    → made.schema.consts ≡ t.earlier.consts → made.schema.effects ≡ t.effects → made.aggs ≡ t.aggs → made.actions ≡ t.actions → made.routines ≡ t.routines
    → made.main ≡ t.main → made.slots ≡ t.slots → made.rules ≡ t.rules → made.spawn ≡ t.spawn → made.removal ≡ t.removal → IsTyped script made
walk-typed script t made is consts effects aggs actions routines main slots rules spawn removal =
    let w = walked script (behind_all script) refl in
    record {
      consts = consts ∙ ap (λ t. t.earlier.consts) is ∙ ap (λ d. d.consts) w.earlier-is;
      effects = effects ∙ ap (λ t. t.effects) is ∙ w.effects-is;
      aggs = aggs ∙ ap (λ t. t.aggs) is ∙ w.aggs-is;
      actions = actions ∙ ap (λ t. t.actions) is ∙ w.actions-is;
      routines = routines ∙ ap (λ t. t.routines) is ∙ w.routines-is;
      main = main ∙ ap (λ t. t.main) is ∙ w.main-is;
      slots = slots ∙ ap (λ t. t.slots) is ∙ w.slots-is;
      rules = rules ∙ ap (λ t. t.rules) is ∙ w.rules-is;
      spawn = spawn ∙ ap (λ t. t.spawn) is ∙ w.spawn-is;
      removal = removal ∙ ap (λ t. t.removal) is ∙ w.removal-is;
    }
