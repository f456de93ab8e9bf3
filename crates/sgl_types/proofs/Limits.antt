-- A script that breaks no rule keeps the limits.
use Rattle.std.proofs.Common.{◌≡◌, ℕ, ◌+◌, ◌≤◌, ◌==◌, ◌||◌, Bool, true, false, List, [], ◌∷◌, ◌++◌, length, Option, Some, None, subst, sym, arith}
use Rattle.std.proofs.lemmas.List.{length-append}
use Rattle.sgl_values.specs.declared.place.Place.{Place}
use Rattle.sgl_tree.specs.declared.expression.Name.{Name}
use Rattle.sgl_tree.specs.declared.item.Fold.{Fold}
use Rattle.sgl_tree.specs.declared.item.Item.{Item}
use Rattle.sgl_tree.specs.declared.item.Item.TheVariants.{Attr, Aggregate, Action}
use Rattle.sgl_tree.specs.declared.item.Literal.{Literal}
use Rattle.sgl_tree.specs.declared.item.OnClause.{OnClause}
use Rattle.sgl_tree.specs.declared.item.Test.{Test}
use Rattle.sgl_types.specs.declared.declared.Declared.{Declared}
use Rattle.sgl_types.specs.declared.finding.TypeKind.TheVariants.{Twice, TooMany}
use Rattle.sgl_types.specs.Declarations.{declared, with_item, definition}
use Rattle.sgl_types.specs.Rules.{fault_if}
use Rattle.sgl_types.specs.Items.{Setting, setting_behind, definition_faults, aggregate_faults, clause_faults, clauses_faults, init_faults, attr_faults, is_full, item_faults}
use Rattle.sgl_types.specs.Scope.{is_key, declares_attribute}
use Rattle.sgl_types.proofs.Declaring.{declared-more}
use Rattle.sgl_types.proofs.Fits.{neither}
use Rattle.sgl_types.proofs.ItemFits.{fails, aggregate-parts}

-- ---- what an item without faults says

aggs-not-full : (g : Setting) (name : Name) (params : List Name) (fold : Fold) (tests : List Test) (otherwise : Option (Place × Literal))
    → aggregate_faults g name params fold tests otherwise ≡ [] → length g.earlier.aggs == 64 ≡ false
aggs-not-full g name params fold tests otherwise none = fails (length g.earlier.aggs == 64) TooMany name.place (aggregate-parts g name params fold tests otherwise none).room

one-more : (n most : ℕ) → n ≤ most → n == most ≡ false → n + 1 ≤ most
one-more n most le ne = grind (arith)

clauses-few : (g : Setting) (params : List Name) (before : ℕ) (ons : List OnClause) → before ≤ 64 → clauses_faults g params before ons ≡ [] → before + length ons ≤ 64
clauses-few g params before [] le none = omega arith
clauses-few g params before (clause ∷ more) le none =
    let two = neither (fault_if (before == 64) TooMany clause.place ++ clause_faults g params clause) (clauses_faults g params (before + 1) more) none in
    let ne = fails (before == 64) TooMany clause.place (neither (fault_if (before == 64) TooMany clause.place) (clause_faults g params clause) two.0).0 in
    let rest : (before + 1) + length more ≤ 64 = clauses-few g params (before + 1) more (one-more before 64 le ne) two.1 in
    omega arith

pub record AttrFits (g : Setting) (name : Name) (is_effect : Bool) : Type 0 where
  pub new : (is_key name.text || declares_attribute g.earlier name.text) ≡ false
  pub room : is_full g.earlier is_effect ≡ false

pub attr-fits : (g : Setting) (name : Name) (is_effect : Bool) (init : Option Literal) → attr_faults g name is_effect init ≡ [] → AttrFits g name is_effect
attr-fits g name is_effect init none =
    let twice = fault_if (is_key name.text || declares_attribute g.earlier name.text) Twice name.place in
    let full = fault_if (is_full g.earlier is_effect) TooMany name.place in
    let two = neither (twice ++ full) (init_faults init) none in
    let one = neither twice full two.0 in
    record { new = fails (is_key name.text || declares_attribute g.earlier name.text) Twice name.place one.0; room = fails (is_full g.earlier is_effect) TooMany name.place one.1 }

-- ---- the limits

pub record IsWithin (d : Declared) : Type 0 where
  pub consts : length d.consts ≤ 32
  pub effects : length d.effects ≤ 16
  pub aggs : length d.aggs ≤ 64
  pub ons : d.ons ≤ 64

longer : {A : Type 0} (xs : List A) (x : A) (most : ℕ) → length xs ≤ most → length xs == most ≡ false → length (xs ++ x ∷ []) ≤ most
longer xs x most le ne =
    let one = one-more (length xs) most le ne in
    let e : length (xs ++ x ∷ []) ≡ length xs + 1 = length-append xs (x ∷ []) in
    omega arith

within-item : (g : Setting) (item : Item) → IsWithin g.earlier → item_faults g item ≡ [] → IsWithin (with_item g.earlier item)
within-item g (Attr name None init) w none =
    record { consts = longer g.earlier.consts name.text 32 w.consts (attr-fits g name false init none).room; effects = w.effects; aggs = w.aggs; ons = w.ons }
within-item g (Attr name (Some tag) init) w none =
    record { consts = w.consts; effects = longer g.earlier.effects name.text 16 w.effects (attr-fits g name true init none).room; aggs = w.aggs; ons = w.ons }
within-item g (Aggregate name params fold tests otherwise) w none =
    record { consts = w.consts; effects = w.effects; aggs = longer g.earlier.aggs (definition name params) 64 w.aggs (aggs-not-full g name params fold tests otherwise none); ons = w.ons }
within-item g (Action name params ons) w none =
    record { consts = w.consts; effects = w.effects; aggs = w.aggs; ons = clauses-few g params g.earlier.ons ons w.ons (neither (definition_faults g name params) (clauses_faults g params g.earlier.ons ons) none).1 }
within-item g item w none = record { consts = w.consts; effects = w.effects; aggs = w.aggs; ons = w.ons }

pub within-more : (all earlier : List Item) (item : Item) → item_faults (setting_behind all earlier) item ≡ [] → IsWithin (declared earlier) → IsWithin (declared (earlier ++ item ∷ []))
within-more all earlier item none w = subst IsWithin (sym (declared-more earlier item)) (within-item (setting_behind all earlier) item w none)
