-- What items declare, one after the other.
use Rattle.std.proofs.Common.{◌≡◌, ℕ, ◌+◌, ◌<◌, ◌||◌, Bool, true, false, List, [], ◌∷◌, ◌++◌, flat_map, length, take, get_or, Some, None, refl, ap, sym, ◌∙◌}
use Rattle.std.specs.List.{list_any}
use Rattle.std.proofs.lemmas.List.{take_more, append-nil}
use Rattle.std.proofs.lemmas.List.Folds.{list_any-append}
use Rattle.std.proofs.lemmas.List.Sums.{sum_by_push}
use Rattle.std.proofs.lemmas.Grind.{flat_map-append}
use Rattle.std.proofs.Math.Bool.{or-false}
use Rattle.std.proofs.Math.Nat.{add-zero}
use Rattle.sgl_tree.specs.declared.item.Item.{Item}
use Rattle.sgl_tree.specs.declared.item.Item.TheVariants.{Attr, Aggregate, Action, Routine, Main, Post}
use Rattle.sgl_types.specs.declared.declared.Declared.{Declared}
use Rattle.sgl_types.specs.Declarations.{declared, with_item, const_of, effect_of, tag_of, agg_of, action_of, routine_of, ons_of, is_main, is_post}

one : {X A : Type 0} (f : X → List A) (xs : List X) (x : X) → flat_map f (xs ++ x ∷ []) ≡ flat_map f xs ++ f x
one f xs x = flat_map-append f xs (x ∷ []) ∙ ap (λ more. flat_map f xs ++ more) (append-nil (f x))

any : {X : Type 0} (p : X → Bool) (xs : List X) (x : X) → list_any p (xs ++ x ∷ []) ≡ (list_any p xs || p x)
any p xs x = list_any-append p xs (x ∷ []) ∙ ap (λ b. list_any p xs || b) (or-false (p x))

or-true : (b : Bool) → (b || true) ≡ true
or-true true = refl
or-true false = refl

-- ---- each column with what one more item adds

consts-with : (d : Declared) (item : Item) → d.consts ++ const_of item ≡ (with_item d item).consts
consts-with d (Attr name None init) = refl
consts-with d item = append-nil d.consts

effects-with : (d : Declared) (item : Item) → d.effects ++ effect_of item ≡ (with_item d item).effects
effects-with d (Attr name (Some tag) init) = refl
effects-with d item = append-nil d.effects

tags-with : (d : Declared) (item : Item) → d.tags ++ tag_of item ≡ (with_item d item).tags
tags-with d (Attr name (Some tag) init) = refl
tags-with d item = append-nil d.tags

aggs-with : (d : Declared) (item : Item) → d.aggs ++ agg_of item ≡ (with_item d item).aggs
aggs-with d (Attr name None init) = append-nil d.aggs
aggs-with d (Aggregate name params fold tests otherwise) = refl
aggs-with d item = append-nil d.aggs

actions-with : (d : Declared) (item : Item) → d.actions ++ action_of item ≡ (with_item d item).actions
actions-with d (Attr name None init) = append-nil d.actions
actions-with d (Action name params ons) = refl
actions-with d item = append-nil d.actions

routines-with : (d : Declared) (item : Item) → d.routines ++ routine_of item ≡ (with_item d item).routines
routines-with d (Attr name None init) = append-nil d.routines
routines-with d (Routine name params body) = refl
routines-with d item = append-nil d.routines

ons-with : (d : Declared) (item : Item) → d.ons + ons_of item ≡ (with_item d item).ons
ons-with d (Attr name None init) = add-zero d.ons
ons-with d (Action name params ons) = refl
ons-with d item = add-zero d.ons

main-with : (d : Declared) (item : Item) → (d.has_main || is_main item) ≡ (with_item d item).has_main
main-with d (Attr name None init) = or-false d.has_main
main-with d (Main place unit body) = or-true d.has_main
main-with d item = or-false d.has_main

post-with : (d : Declared) (item : Item) → (d.has_post || is_post item) ≡ (with_item d item).has_post
post-with d (Attr name None init) = or-false d.has_post
post-with d (Post place rules spawn removal) = or-true d.has_post
post-with d item = or-false d.has_post

pub declared-more : (items : List Item) (item : Item) → declared (items ++ item ∷ []) ≡ with_item (declared items) item
declared-more items item =
    let d = declared items in
    λ i. record {
      consts = (one const_of items item ∙ consts-with d item) i;
      effects = (one effect_of items item ∙ effects-with d item) i;
      tags = (one tag_of items item ∙ tags-with d item) i;
      aggs = (one agg_of items item ∙ aggs-with d item) i;
      actions = (one action_of items item ∙ actions-with d item) i;
      routines = (one routine_of items item ∙ routines-with d item) i;
      ons = (sum_by_push ons_of items item ∙ ons-with d item) i;
      has_main = (any is_main items item ∙ main-with d item) i;
      has_post = (any is_post items item ∙ post-with d item) i;
    }

-- one more item of a list, at this index
pub declared-next : (items : List Item) (at : ℕ) (item : Item) (before after : Declared) → at < length items → item ≡ get_or items at item
    → after ≡ with_item before item → before ≡ declared (take at items) → after ≡ declared (take (at + 1) items)
declared-next items at item before after lt is after-is before-is =
    after-is ∙ ap (λ d. with_item d item) before-is ∙ sym (declared-more (take at items) item)
    ∙ ap declared (ap (λ x. take at items ++ x ∷ []) is ∙ sym (take_more items at item lt))
