-- What each part of a script may name is there in the typed script.
use Rattle.std.proofs.Common.{◌≡◌, ℕ, ◌+◌, ◌<◌, ◌≤◌, Bool, true, false, List, [], ◌∷◌, ◌++◌, map, length, nat_lt, Option, Some, bytes_eq, suc, if◌then◌else◌, refl, ap, sym, ◌∙◌, arith}
use Rattle.std.proofs.lemmas.Bool.{eq-eqb, ne_eqb}
use Rattle.sgl_tree.specs.declared.expression.Name.{Name}
use Rattle.sgl_typed.specs.declared.script.Kind.TheVariants.{Numeric}
use Rattle.sgl_typed.specs.declared.schema.Schema.{Schema}
use Rattle.sgl_typed.specs.declared.script.TAgg.{TAgg}
use Rattle.sgl_typed.specs.WellFormed.{Callees, slot_kind, params_from, definition_body, main_body, post_body}
use Rattle.sgl_types.specs.declared.bodies.Local.{Local}
use Rattle.sgl_types.specs.declared.bodies.Part.TheVariants.{Test as TestSide, Amount}
use Rattle.sgl_types.specs.Declarations.{after_unit}
use Rattle.sgl_types.specs.Items.{Setting, param_locals, definition_scope, post_scope, routine_start, main_start}
use Rattle.sgl_types.proofs.Matches.{Matches}
use Rattle.sgl_types.specs.Scope.{find_local}
use Rattle.sgl_types.proofs.Blocks.{Stands}
use Rattle.sgl_types.proofs.Fronts.{Fronts, const-below, effect-below, agg-params, action-params, routine-params}

-- ---- parameters

record IsParam (n many : ℕ) (l : Local) : Type 0 where
  kind : l.kind ≡ Numeric
  low : n ≤ l.slot
  high : l.slot < many + n
  found : slot_kind l.slot (params_from n many) ≡ Some Numeric

less_not : (a b : ℕ) → 1 + b ≤ a → a ≡ b → ⊥
less_not a b le e = omega arith

param-first : (n m : ℕ) (name : List ℕ) (l : Local) → l ≡ record { name = name; slot = n; kind = Numeric } → IsParam n (suc m) l
param-first n m name l e =
    let slot : l.slot ≡ n = ap (λ l. l.slot) e in
    record {
      kind = ap (λ l. l.kind) e;
      low = omega arith;
      high = omega arith;
      found = ap (λ is. if is then Some Numeric else slot_kind l.slot (params_from (n + 1) m)) (eq-eqb l.slot n slot);
    }

param-behind : (n m : ℕ) (l : Local) → IsParam (1 + n) m l → IsParam n (suc m) l
param-behind n m l p =
    let low : 1 + n ≤ l.slot = p.low in
    let high : l.slot < m + (1 + n) = p.high in
    let next : n + 1 ≡ 1 + n = omega arith in
    record {
      kind = p.kind;
      low = omega arith;
      high = omega arith;
      found = ap (λ is. if is then Some Numeric else slot_kind l.slot (params_from (n + 1) m)) (ne_eqb l.slot n (λ e. less_not l.slot n low e))
          ∙ ap (λ k. slot_kind l.slot (params_from k m)) next ∙ p.found;
    }

param-at : (b : Bool) (n m : ℕ) (name : List ℕ) (l : Local) (rest : Option Local) → (rest ≡ Some l → IsParam (1 + n) m l)
    → (if b then Some (record { name = name; slot = n; kind = Numeric }) else rest) ≡ Some l → IsParam n (suc m) l
param-at true n m name l rest h e = param-first n m name l (cc)
param-at false n m name l rest h e = param-behind n m l (h e)

param-found : (name : List ℕ) (n : ℕ) (ps : List Name) (l : Local) → find_local name (param_locals n ps) ≡ Some l → IsParam n (length ps) l
param-found name n [] l e = absurd (cc)
param-found name n (p ∷ ps) l e = param-at (bytes_eq p.text name) n (length ps) p.text l (find_local name (param_locals (1 + n) ps)) (param-found name (1 + n) ps l) e

param-kind : (name : List ℕ) (n : ℕ) (ps : List Name) (l : Local) → find_local name (param_locals n ps) ≡ Some l → slot_kind l.slot (params_from n (length ps)) ≡ Some l.kind
param-kind name n ps l e =
    let p = param-found name n ps l e in
    p.found ∙ ap (λ k. Some k) (sym p.kind)

-- the slots of parameters with their kinds
pub param-slots : (n : ℕ) (ps : List Name) → map (λ slot. (slot, Numeric)) (map (λ l. l.slot) (param_locals n ps)) ≡ params_from n (length ps)
param-slots n [] = refl
param-slots n (p ∷ ps) =
    let next : 1 + n ≡ n + 1 = omega arith in
    ap (λ more. (n, Numeric) ∷ more) (param-slots (1 + n) ps ∙ ap (λ k. params_from k (length ps)) next)

-- ---- definitions and post

pub test-matches : (g : Setting) (schema : Schema) (params : List Name) (row : List ℕ) → Fronts g.earlier g.all → length schema.consts ≡ length g.all.consts
    → Matches (definition_scope g TestSide params row) (definition_body schema (length (after_unit params)))
test-matches g schema params row f long = record {
  consts = λ name i e. ap (nat_lt i) long ∙ const-below g.all g.earlier name i f e;
  effects = λ name i p e. absurd (cc);
  target = λ p. absurd (cc);
  slots = λ name l e. param-kind name 0 (after_unit params) l e;
  aggs = λ name number count p e. absurd (cc);
}

pub amount-matches : (g : Setting) (schema : Schema) (params : List Name) (row : List ℕ) → Fronts g.earlier g.all → length schema.consts ≡ length g.all.consts
    → Matches (definition_scope g Amount params row) (record (definition_body schema (length (after_unit params))) { has_target = true })
amount-matches g schema params row f long = record {
  consts = λ name i e. ap (nat_lt i) long ∙ const-below g.all g.earlier name i f e;
  effects = λ name i p e. absurd (cc);
  target = λ p. refl;
  slots = λ name l e. param-kind name 0 (after_unit params) l e;
  aggs = λ name number count p e. absurd (cc);
}

pub post-matches : (g : Setting) (schema : Schema) → Fronts g.earlier g.all → length schema.consts ≡ length g.all.consts → length schema.effects ≡ length g.all.effects
    → Matches (post_scope g) (post_body schema)
post-matches g schema f long many = record {
  consts = λ name i e. ap (nat_lt i) long ∙ const-below g.all g.earlier name i f e;
  effects = λ name i p e. ap (nat_lt i) many ∙ effect-below g.all g.earlier name i f e;
  target = λ p. absurd (cc);
  slots = λ name l e. absurd (cc);
  aggs = λ name number count p e. absurd (cc);
}

-- ---- routines and main

-- what the statements of an item may call is there
pub record Calls (g : Setting) (schema : Schema) (aggs : List TAgg) (callees : Callees) : Type 0 where
  pub fronts : Fronts g.earlier g.all
  pub consts : length schema.consts ≡ length g.all.consts
  pub aggs-are : map (λ agg. agg.params) aggs ≡ map (λ d. d.params) g.all.aggs
  pub actions-are : callees.actions ≡ map (λ d. d.params) g.all.actions
  pub more : List ℕ
  pub routines-are : callees.routines ≡ map (λ d. d.params) g.earlier.routines ++ more

pub routine-stands : (g : Setting) (schema : Schema) (aggs : List TAgg) (callees : Callees) (params : List Name) → Calls g schema aggs callees
    → Stands (routine_start g params) (main_body schema aggs (map (λ slot. (slot, Numeric)) (map (λ l. l.slot) (param_locals g.slots (after_unit params))))) callees
routine-stands g schema aggs callees params c = record {
  matches = record {
    consts = λ name i e. ap (nat_lt i) c.consts ∙ const-below g.all g.earlier name i c.fronts e;
    effects = λ name i p e. absurd (cc);
    target = λ p. absurd (cc);
    slots = λ name l e. ap (slot_kind l.slot) (param-slots g.slots (after_unit params)) ∙ param-kind name g.slots (after_unit params) l e;
    aggs = λ name number count p e. agg-params g.all g.earlier (map (λ agg. agg.params) aggs) name number count c.fronts c.aggs-are e;
  };
  below = λ name l e. (param-found name g.slots (after_unit params) l e).high;
  actions = λ name number count e. action-params g.all g.earlier callees.actions name number count c.fronts c.actions-are e;
  routines = λ name number count e. routine-params g.all g.earlier callees.routines c.more name number count c.routines-are e;
}

pub main-stands : (g : Setting) (schema : Schema) (aggs : List TAgg) (callees : Callees) (unit : Name) → Calls g schema aggs callees
    → Stands (main_start g unit) (main_body schema aggs []) callees
main-stands g schema aggs callees unit c = record {
  matches = record {
    consts = λ name i e. ap (nat_lt i) c.consts ∙ const-below g.all g.earlier name i c.fronts e;
    effects = λ name i p e. absurd (cc);
    target = λ p. absurd (cc);
    slots = λ name l e. absurd (cc);
    aggs = λ name number count p e. agg-params g.all g.earlier (map (λ agg. agg.params) aggs) name number count c.fronts c.aggs-are e;
  };
  below = λ name l e. absurd (cc);
  actions = λ name number count e. action-params g.all g.earlier callees.actions name number count c.fronts c.actions-are e;
  routines = λ name number count e. routine-params g.all g.earlier callees.routines c.more name number count c.routines-are e;
}
