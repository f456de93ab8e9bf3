-- What the items of a script add, one after the other.
use Rattle.std.proofs.Common.{◌≡◌, ◌+◌, ◌&&◌, Bool, true, false, List, [], ◌∷◌, ◌++◌, map, flat_map, Some, None, subst, refl, ap, sym, ◌∙◌}
use Rattle.std.specs.List.{list_all, sum_by}
use Rattle.std.proofs.lemmas.List.{append-nil, append_assoc, map-append}
use Rattle.std.proofs.lemmas.List.Folds.{list_all-append}
use Rattle.std.proofs.lemmas.List.Sums.{sum_by_push}
use Rattle.sgl_tree.specs.declared.item.Item.{Item}
use Rattle.sgl_tree.specs.declared.item.Item.TheVariants.{Attr, Aggregate, Action, Routine}
use Rattle.sgl_types.specs.declared.items.Typing.{Typing}
use Rattle.sgl_types.specs.Declarations.{declared, with_item}
use Rattle.sgl_types.specs.Findings.{noted}
use Rattle.sgl_types.specs.Items.{Setting, setting, setting_behind, gathered, item_faults, slots_of}
use Rattle.sgl_types.specs.TypedItems.{effects_of, aggs_of, actions_of, routines_of, mains_of, rules_of, spawns_of, removals_of, last_or}
use Rattle.sgl_types.specs.Walk.{setting_at, with_made, after_item, after_items}
use Rattle.sgl_types.proofs.Declaring.{declared-more}
use Rattle.sgl_types.proofs.Equations.{noted-append}
use Rattle.sgl_types.proofs.Fits.{neither}

-- ---- lists that items add

pub gathered-more : {A : Type 0} (add : Setting → Item → List A) (all before items : List Item) (item : Item)
    → gathered add all before (items ++ item ∷ []) ≡ gathered add all before items ++ add (setting_behind all (before ++ items)) item
gathered-more add all before [] item =
    append-nil (add (setting_behind all before) item) ∙ ap (λ items. add (setting_behind all items) item) (sym (append-nil before))
gathered-more add all before (x ∷ items) item =
    ap (λ more. add (setting_behind all before) x ++ more) (gathered-more add all (before ++ x ∷ []) items item)
    ∙ sym (append_assoc (add (setting_behind all before) x) (gathered add all (before ++ x ∷ []) items) (add (setting_behind all ((before ++ x ∷ []) ++ items)) item))
    ∙ ap (λ items'. (add (setting_behind all before) x ++ gathered add all (before ++ x ∷ []) items) ++ add (setting_behind all items') item) (append_assoc before (x ∷ []) items)

pub split-more : (all earlier rest : List Item) (item : Item) → all ≡ earlier ++ item ∷ rest → all ≡ (earlier ++ item ∷ []) ++ rest
split-more all earlier rest item e = e ∙ sym (append_assoc earlier (item ∷ []) rest)

-- a test that passes on what each sound item adds passes on what all add
pub each-passes : {A : Type 0} (p : A → Bool) (add : Setting → Item → List A) (all : List Item)
    → ((earlier rest : List Item) (item : Item) → all ≡ earlier ++ item ∷ rest → item_faults (setting_behind all earlier) item ≡ [] → list_all p (add (setting_behind all earlier) item) ≡ true)
    → (earlier rest : List Item) → all ≡ earlier ++ rest → gathered item_faults all earlier rest ≡ [] → list_all p (gathered add all earlier rest) ≡ true
each-passes p add all h earlier [] e none = refl
each-passes p add all h earlier (item ∷ rest) e none =
    let parts = neither (item_faults (setting_behind all earlier) item) (gathered item_faults all (earlier ++ item ∷ []) rest) none in
    list_all-append p (add (setting_behind all earlier) item) (gathered add all (earlier ++ item ∷ []) rest)
    ∙ (λ i. h earlier rest item e parts.0 i && each-passes p add all h (earlier ++ item ∷ []) rest (split-more all earlier rest item e) parts.1 i)

-- what each sound item keeps holds behind all
pub along : (P : List Item → Type 0) (all : List Item)
    → ((earlier rest : List Item) (item : Item) → all ≡ earlier ++ item ∷ rest → item_faults (setting_behind all earlier) item ≡ [] → P earlier → P (earlier ++ item ∷ []))
    → (earlier rest : List Item) → all ≡ earlier ++ rest → gathered item_faults all earlier rest ≡ [] → P earlier → P all
along P all h earlier [] e none p = subst P (sym (e ∙ append-nil earlier)) p
along P all h earlier (item ∷ rest) e none p =
    let parts = neither (item_faults (setting_behind all earlier) item) (gathered item_faults all (earlier ++ item ∷ []) rest) none in
    along P all h (earlier ++ item ∷ []) rest (split-more all earlier rest item e) parts.1 (h earlier rest item e parts.0 p)

-- a column of what items add is a column of what they declare
pub columns : {A B C : Type 0} (f : A → C) (h : B → C) (add : Setting → Item → List A) (of : Item → List B)
    → ((g : Setting) (item : Item) → map f (add g item) ≡ map h (of item))
    → (all earlier rest : List Item) → map f (gathered add all earlier rest) ≡ map h (flat_map of rest)
columns f h add of same all earlier [] = refl
columns f h add of same all earlier (item ∷ rest) =
    map-append f (add (setting_behind all earlier) item) (gathered add all (earlier ++ item ∷ []) rest)
    ∙ (λ i. same (setting_behind all earlier) item i ++ columns f h add of same all (earlier ++ item ∷ []) rest i)
    ∙ sym (map-append h (of item) (flat_map of rest))

pub last-append : {A : Type 0} (other : A) (xs ys : List A) → last_or other (xs ++ ys) ≡ last_or (last_or other xs) ys
last-append other [] ys = refl
last-append other (x ∷ xs) ys = last-append x xs ys

pub last-passes : {A : Type 0} (p : A → Bool) (other : A) (xs : List A) → p other ≡ true → list_all p xs ≡ true → p (last_or other xs) ≡ true
last-passes p other [] e all = e
last-passes p other (x ∷ xs) e all = last-passes p x xs (first (p x) (list_all p xs) all) (second (p x) (list_all p xs) all) where
  first : (b c : Bool) → (b && c) ≡ true → b ≡ true
  first true c e = refl
  first false c e = absurd (cc)

  second : (b c : Bool) → (b && c) ≡ true → c ≡ true
  second true c e = e
  second false c e = absurd (cc)

-- ---- the walk

-- what the walk has behind these items of a script
pub record Follows (all earlier : List Item) (t : Typing) : Type 0 where
  pub earlier-is : t.earlier ≡ declared earlier
  pub slots-is : t.slots ≡ sum_by slots_of earlier
  pub effects-is : t.effects ≡ gathered effects_of all [] earlier
  pub aggs-is : t.aggs ≡ gathered aggs_of all [] earlier
  pub actions-is : t.actions ≡ gathered actions_of all [] earlier
  pub routines-is : t.routines ≡ gathered routines_of all [] earlier
  pub main-is : t.main ≡ last_or [] (gathered mains_of all [] earlier)
  pub rules-is : t.rules ≡ last_or [] (gathered rules_of all [] earlier)
  pub spawn-is : t.spawn ≡ last_or None (gathered spawns_of all [] earlier)
  pub removal-is : t.removal ≡ last_or None (gathered removals_of all [] earlier)
  pub found-is : t.found ≡ noted None (gathered item_faults all [] earlier)

grown : {A : Type 0} (add : Setting → Item → List A) (all earlier : List Item) (item : Item) (g : Setting) {before now : List A}
    → g ≡ setting_behind all earlier → before ≡ gathered add all [] earlier → now ≡ before ++ add g item → now ≡ gathered add all [] (earlier ++ item ∷ [])
grown add all earlier item g is before-is now-is =
    now-is ∙ (λ i. before-is i ++ add (is i) item) ∙ sym (gathered-more add all [] earlier item)

turned : {A : Type 0} (add : Setting → Item → List A) (other : A) (all earlier : List Item) (item : Item) (g : Setting) {before now : A}
    → g ≡ setting_behind all earlier → before ≡ last_or other (gathered add all [] earlier) → now ≡ last_or before (add g item) → now ≡ last_or other (gathered add all [] (earlier ++ item ∷ []))
turned add other all earlier item g is before-is now-is =
    now-is ∙ (λ i. last_or (before-is i) (add (is i) item)) ∙ sym (last-append other (gathered add all [] earlier) (add (setting_behind all earlier) item))
    ∙ ap (last_or other) (sym (gathered-more add all [] earlier item))

effects-made : (g : Setting) (item : Item) (t : Typing) → (with_made g item t).effects ≡ t.effects ++ effects_of g item
effects-made g (Attr name (Some tag) init) t = refl
effects-made g item t = sym (append-nil t.effects)

aggs-made : (g : Setting) (item : Item) (t : Typing) → (with_made g item t).aggs ≡ t.aggs ++ aggs_of g item
aggs-made g (Attr name None init) t = sym (append-nil t.aggs)
aggs-made g (Aggregate name params fold tests otherwise) t = refl
aggs-made g item t = sym (append-nil t.aggs)

actions-made : (g : Setting) (item : Item) (t : Typing) → (with_made g item t).actions ≡ t.actions ++ actions_of g item
actions-made g (Attr name None init) t = sym (append-nil t.actions)
actions-made g (Action name params ons) t = refl
actions-made g item t = sym (append-nil t.actions)

routines-made : (g : Setting) (item : Item) (t : Typing) → (with_made g item t).routines ≡ t.routines ++ routines_of g item
routines-made g (Attr name None init) t = sym (append-nil t.routines)
routines-made g (Routine name params body) t = refl
routines-made g item t = sym (append-nil t.routines)

-- what an item sets
record Sets (g : Setting) (item : Item) (t now : Typing) : Type 0 where
  main : now.main ≡ last_or t.main (mains_of g item)
  rules : now.rules ≡ last_or t.rules (rules_of g item)
  spawn : now.spawn ≡ last_or t.spawn (spawns_of g item)
  removal : now.removal ≡ last_or t.removal (removals_of g item)

parts-set : (g : Setting) (item : Item) (t : Typing) → Sets g item t (with_made g item t)
parts-set g (Attr name None init) t = record { main = refl; rules = refl; spawn = refl; removal = refl }
parts-set g item t = record { main = refl; rules = refl; spawn = refl; removal = refl }

follows-item : (all earlier : List Item) (item : Item) (t : Typing) → Follows all earlier t → Follows all (earlier ++ item ∷ []) (after_item (declared all) item t)
follows-item all earlier item t f =
    let g = setting_at (declared all) t in
    let is : g ≡ setting_behind all earlier = (λ i. setting (declared all) (f.earlier-is i) (f.slots-is i)) in
    let set = parts-set g item t in
    record {
      earlier-is = ap (λ d. with_item d item) f.earlier-is ∙ sym (declared-more earlier item);
      slots-is = ap (λ n. n + slots_of item) f.slots-is ∙ sym (sum_by_push slots_of earlier item);
      effects-is = grown effects_of all earlier item g is f.effects-is (effects-made g item t);
      aggs-is = grown aggs_of all earlier item g is f.aggs-is (aggs-made g item t);
      actions-is = grown actions_of all earlier item g is f.actions-is (actions-made g item t);
      routines-is = grown routines_of all earlier item g is f.routines-is (routines-made g item t);
      main-is = turned mains_of [] all earlier item g is f.main-is set.main;
      rules-is = turned rules_of [] all earlier item g is f.rules-is set.rules;
      spawn-is = turned spawns_of None all earlier item g is f.spawn-is set.spawn;
      removal-is = turned removals_of None all earlier item g is f.removal-is set.removal;
      found-is = (λ i. noted (f.found-is i) (item_faults (is i) item))
          ∙ sym (noted-append None (gathered item_faults all [] earlier) (item_faults (setting_behind all earlier) item))
          ∙ ap (noted None) (sym (gathered-more item_faults all [] earlier item));
    }

-- behind all of them
pub follows-items : (all earlier rest : List Item) (t : Typing) → all ≡ earlier ++ rest → Follows all earlier t → Follows all all (after_items (declared all) rest t)
follows-items all earlier [] t e f = subst (λ items. Follows all items t) (sym (e ∙ append-nil earlier)) f
follows-items all earlier (item ∷ rest) t e f =
    follows-items all (earlier ++ item ∷ []) rest (after_item (declared all) item t) (split-more all earlier rest item e) (follows-item all earlier item t f)
