-- The attributes of a script that breaks no rule differ, and have names that fit.
use Rattle.std.proofs.Common.{◌≡◌, ℕ, ◌+◌, ◌&&◌, ◌||◌, not, Bool, true, false, List, [], ◌∷◌, ◌++◌, length, is_some, nat_le, bytes_eq, Option, Some, None, if◌then◌else◌, subst, refl, ap, sym, ◌∙◌}
use Rattle.std.specs.Bool.{one_answer}
use Rattle.std.specs.List.{list_all, list_any}
use Rattle.std.proofs.lemmas.List.{append_assoc}
use Rattle.std.proofs.lemmas.List.Folds.{list_all-append}
use Rattle.std.proofs.lemmas.Slice.Eq.{bytes_eq-Decides}
use Rattle.sgl_values.specs.declared.fault.Tag.{Tag}
use Rattle.sgl_tree.specs.declared.item.Item.{Item}
use Rattle.sgl_tree.specs.declared.item.Item.TheVariants.{Attr}
use Rattle.sgl_typed.specs.SchemaForm.{differ_by, is_same_name, name_fits}
use Rattle.sgl_types.specs.declared.declared.Declared.{Declared}
use Rattle.sgl_types.specs.Declarations.{declared, with_item}
use Rattle.sgl_types.specs.Items.{Setting, setting_behind, item_faults}
use Rattle.sgl_tree.specs.Plain.{has_short_name}
use Rattle.sgl_types.specs.Index.{position_from, position}
use Rattle.sgl_types.specs.Scope.{is_key, declares_attribute}
use Rattle.sgl_types.proofs.Declaring.{declared-more}
use Rattle.sgl_types.proofs.Differ.{apart, and-left, and-right, differ_by-append, inserted}
use Rattle.sgl_types.proofs.Limits.{attr-fits}

-- ---- a name that is not in a list

apart-at : (b : Bool) (k : ℕ) (rest : Option ℕ) (others : Bool) → (is_some rest ≡ false → others ≡ true) → is_some (if b then Some k else rest) ≡ false → (not (b || false) && others) ≡ true
apart-at true k rest others h e = absurd (cc)
apart-at false k rest others h e = h e

apart-new : (k : ℕ) (name : List ℕ) (names : List (List ℕ)) → is_some (position_from k name names) ≡ false → apart is_same_name names (name ∷ []) ≡ true
apart-new k name [] e = refl
apart-new k name (other ∷ more) e =
    apart-at (bytes_eq other name) k (position_from (k + 1) name more) (apart is_same_name more (name ∷ [])) (apart-new (k + 1) name more) e

same-both : (xs ys : List ℕ) → bytes_eq xs ys ≡ bytes_eq ys xs
same-both xs ys =
    one_answer (bytes_eq xs ys) (bytes_eq ys xs) (bytes_eq-Decides xs ys) ((λ e. sym ((bytes_eq-Decides ys xs).0 e)), (λ e. (bytes_eq-Decides ys xs).1 (sym e)))

none-at : (b c : Bool) (k : ℕ) (rest : Option ℕ) (others : Bool) → c ≡ b → (is_some rest ≡ false → others ≡ false) → is_some (if b then Some k else rest) ≡ false → (c || others) ≡ false
none-at true c k rest others same h e = absurd (cc)
none-at false c k rest others same h e = λ i. same i || h e i

none-same : (k : ℕ) (name : List ℕ) (names : List (List ℕ)) → is_some (position_from k name names) ≡ false → list_any (is_same_name name) names ≡ false
none-same k name [] e = refl
none-same k name (other ∷ more) e =
    none-at (bytes_eq other name) (bytes_eq name other) k (position_from (k + 1) name more) (list_any (is_same_name name) more) (same-both name other) (none-same (k + 1) name more) e

or-left : (a b : Bool) → (a || b) ≡ false → a ≡ false
or-left true b e = absurd (cc)
or-left false b e = refl

or-right : (a b : Bool) → (a || b) ≡ false → b ≡ false
or-right true b e = absurd (cc)
or-right false b e = e

-- ---- the names of attributes

pub record NamesFit (d : Declared) : Type 0 where
  pub apart : differ_by is_same_name (d.consts ++ d.effects) ≡ true
  pub short : list_all name_fits (d.consts ++ d.effects) ≡ true

new-fits : (name : List ℕ) → nat_le (length name) 31 ≡ true → is_key name ≡ false → name_fits name ≡ true
new-fits name short new = λ i. short i && not (new i)

-- a name that no attribute has, and that is not `key`
record IsNew (d : Declared) (name : List ℕ) : Type 0 where
  key : is_key name ≡ false
  const : is_some (position name d.consts) ≡ false
  effect : is_some (position name d.effects) ≡ false

new-of : (d : Declared) (name : List ℕ) → (is_key name || declares_attribute d name) ≡ false → IsNew d name
new-of d name e =
    let declares = or-right (is_key name) (declares_attribute d name) e in
    record {
      key = or-left (is_key name) (declares_attribute d name) e;
      const = or-left (is_some (position name d.consts)) (is_some (position name d.effects)) declares;
      effect = or-right (is_some (position name d.consts)) (is_some (position name d.effects)) declares;
    }

with-const : (d : Declared) (name : List ℕ) → NamesFit d → nat_le (length name) 31 ≡ true → IsNew d name → NamesFit (record d { consts = d.consts ++ name ∷ [] })
with-const d name h short new = record {
  apart = inserted is_same_name d.consts (name ∷ []) d.effects h.apart refl (apart-new 0 name d.consts new.const) (λ i. not (none-same 0 name d.effects new.effect i) && true);
  short =
      let parts = sym (list_all-append name_fits d.consts d.effects) ∙ h.short in
      list_all-append name_fits (d.consts ++ name ∷ []) d.effects
      ∙ (λ i. (list_all-append name_fits d.consts (name ∷ []) ∙ (λ j. and-left (list_all name_fits d.consts) (list_all name_fits d.effects) parts j && (new-fits name short new.key j && true))) i
      && and-right (list_all name_fits d.consts) (list_all name_fits d.effects) parts i);
}

with-effect : (d : Declared) (name : List ℕ) (tag : Tag) → NamesFit d → nat_le (length name) 31 ≡ true → IsNew d name → NamesFit (record d { effects = d.effects ++ name ∷ []; tags = d.tags ++ tag ∷ [] })
with-effect d name tag h short new =
    let all = d.consts ++ d.effects in
    let grouped : d.consts ++ (d.effects ++ name ∷ []) ≡ all ++ name ∷ [] = sym (append_assoc d.consts d.effects (name ∷ [])) in
    let apart-all : apart is_same_name all (name ∷ []) ≡ true =
    list_all-append (λ x. not (list_any (is_same_name x) (name ∷ []))) d.consts d.effects ∙ (λ i. apart-new 0 name d.consts new.const i && apart-new 0 name d.effects new.effect i) in
    record {
      apart = ap (differ_by is_same_name) grouped ∙ differ_by-append is_same_name all (name ∷ []) ∙ (λ i. (h.apart i && apart-all i) && true);
      short = ap (list_all name_fits) grouped ∙ list_all-append name_fits all (name ∷ []) ∙ (λ i. h.short i && (new-fits name short new.key i && true));
    }

named-item : (g : Setting) (item : Item) → has_short_name item ≡ true → NamesFit g.earlier → item_faults g item ≡ [] → NamesFit (with_item g.earlier item)
named-item g (Attr name None init) short h none = with-const g.earlier name.text h short (new-of g.earlier name.text (attr-fits g name false init none).new)
named-item g (Attr name (Some tag) init) short h none = with-effect g.earlier name.text tag h short (new-of g.earlier name.text (attr-fits g name true init none).new)
named-item g item short h none = record { apart = h.apart; short = h.short }

pub named-more : (all earlier : List Item) (item : Item) → has_short_name item ≡ true → item_faults (setting_behind all earlier) item ≡ [] → NamesFit (declared earlier) → NamesFit (declared (earlier ++ item ∷ []))
named-more all earlier item short none h = subst NamesFit (sym (declared-more earlier item)) (named-item (setting_behind all earlier) item short h none)
