-- What names stand for stays in the front of what a whole script declares.
use Rattle.std.proofs.Common.{◌≡◌, ℕ, ◌+◌, ◌<◌, Bool, true, false, List, [], ◌∷◌, ◌++◌, map, flat_map, length, nat_lt, slice_get, Option, Some, None, is_some, bytes_eq, suc, if◌then◌else◌, ap, sym, ◌∙◌, arith}
use Rattle.std.proofs.lemmas.Grind.{flat_map-append}
use Rattle.std.proofs.lemmas.List.{length-append, map-append}
use Rattle.sgl_tree.specs.declared.item.Item.{Item}
use Rattle.sgl_types.specs.declared.declared.AttrName.TheVariants.{Key, Const, Effect, Later, Unknown}
use Rattle.sgl_types.specs.declared.declared.Callee.TheVariants.{Known, Later as CalledLater, Unknown as CalledUnknown}
use Rattle.sgl_types.specs.declared.declared.Declared.{Declared}
use Rattle.sgl_types.specs.declared.declared.Definition.{Definition}
use Rattle.sgl_types.specs.declared.statements.Performed.TheVariants.{Action, Routine, Later as PerformedLater, Unknown as PerformedUnknown}
use Rattle.sgl_types.specs.Declarations.{declared, const_of, effect_of, agg_of, action_of, routine_of}
use Rattle.sgl_types.specs.Index.{position_from, position}
use Rattle.sgl_types.specs.Scope.{is_key, definition_from, definition_of, declares_attribute, may_be_performed, const_or, effect_or, attribute_of, known_or, callee_of}
use Rattle.sgl_types.specs.Statements.{routine_or, action_or, performed_of}

-- ---- look-ups in lists

less-here : (n i m : ℕ) → n ≡ i → i < n + suc m
less-here n i m e = omega arith

less-there : (n i m : ℕ) → i < (n + 1) + m → i < n + suc m
less-there n i m lt = omega arith

below-at : (b : Bool) (n i m : ℕ) (rest : Option ℕ) → (rest ≡ Some i → i < (n + 1) + m) → (if b then Some n else rest) ≡ Some i → i < n + suc m
below-at true n i m rest h e = less-here n i m (cc)
below-at false n i m rest h e = less-there n i m (h e)

position_from-below : (n : ℕ) (name : List ℕ) (names : List (List ℕ)) (i : ℕ) → position_from n name names ≡ Some i → i < n + length names
position_from-below n name [] i e = absurd (cc)
position_from-below n name (other ∷ more) i e = below-at (bytes_eq other name) n i (length more) (position_from (n + 1) name more) (position_from-below (n + 1) name more i) e

pub position-below : (name : List ℕ) (names : List (List ℕ)) (i : ℕ) → position name names ≡ Some i → i < length names
position-below name names i e = let lt : i < 0 + length names = position_from-below 0 name names i e in omega arith

-- a number found behind this one, at a place of the list
record Found (A : Type 0) (xs : List A) (n : ℕ) (number : ℕ) (x : A) : Type 0 where
  place : ℕ
  number-is : number ≡ n + place
  here : slice_get xs place ≡ Some x

found-here : {A : Type 0} (n number : ℕ) (x y : A) (xs : List A) → number ≡ n → y ≡ x → Found A (y ∷ xs) n number x
found-here n number x y xs e f = record { place = 0; number-is = omega arith; here = ap (λ z. Some z) f }

found-there : {A : Type 0} (n number : ℕ) (x y : A) (xs : List A) → Found A xs (n + 1) number x → Found A (y ∷ xs) n number x
found-there n number x y xs f = record { place = suc f.place; number-is = (let e : number ≡ (n + 1) + f.place = f.number-is in omega arith); here = f.here }

found-at : (b : Bool) (n : ℕ) (p : ℕ × ℕ) (d : Definition) (ds : List Definition) (rest : Option (ℕ × ℕ))
    → (rest ≡ Some p → Found ℕ (map (λ d. d.params) ds) (n + 1) p.0 p.1) → (if b then Some (n, d.params) else rest) ≡ Some p → Found ℕ (map (λ d. d.params) (d ∷ ds)) n p.0 p.1
found-at true n p d ds rest h e =
    let first : (n, d.params) ≡ p = cc in
    found-here n p.0 p.1 d.params (map (λ d. d.params) ds) (sym (ap (λ q. q.0) first)) (ap (λ q. q.1) first)
found-at false n p d ds rest h e = found-there n p.0 p.1 d.params (map (λ d. d.params) ds) (h e)

definition_from-found : (n : ℕ) (name : List ℕ) (ds : List Definition) (p : ℕ × ℕ) → definition_from n name ds ≡ Some p → Found ℕ (map (λ d. d.params) ds) n p.0 p.1
definition_from-found n name [] p e = absurd (cc)
definition_from-found n name (d ∷ ds) p e = found-at (bytes_eq d.name name) n p d ds (definition_from (n + 1) name ds) (definition_from-found (n + 1) name ds p) e

-- the parameters of a definition that is found
definition_of-params : (name : List ℕ) (ds : List Definition) (p : ℕ × ℕ) → definition_of name ds ≡ Some p → slice_get (map (λ d. d.params) ds) p.0 ≡ Some p.1
definition_of-params name ds p e =
    let f = definition_from-found 0 name ds p e in
    let same : p.0 ≡ f.place = omega (arith, f.number-is) in
    ap (slice_get (map (λ d. d.params) ds)) same ∙ f.here

slice_get-front : {A : Type 0} (xs ys : List A) (k : ℕ) (x : A) → slice_get xs k ≡ Some x → slice_get (xs ++ ys) k ≡ Some x
slice_get-front [] ys k x e = absurd (cc)
slice_get-front (y ∷ xs) ys ℕ.zero x e = e
slice_get-front (y ∷ xs) ys (ℕ.suc k) x e = slice_get-front xs ys k x e

-- ---- fronts

pub record IsFront (A : Type 0) (xs zs : List A) : Type 0 where
  pub behind : List A
  pub joined : zs ≡ xs ++ behind

pub record Fronts (d all : Declared) : Type 0 where
  pub consts : IsFront (List ℕ) d.consts all.consts
  pub effects : IsFront (List ℕ) d.effects all.effects
  pub aggs : IsFront Definition d.aggs all.aggs
  pub actions : IsFront Definition d.actions all.actions
  pub routines : IsFront Definition d.routines all.routines

front-of : {X A : Type 0} (f : X → List A) (xs ys zs : List X) → zs ≡ xs ++ ys → IsFront A (flat_map f xs) (flat_map f zs)
front-of f xs ys zs e = record { behind = flat_map f ys; joined = ap (flat_map f) e ∙ flat_map-append f xs ys }

pub fronts : (all earlier rest : List Item) → all ≡ earlier ++ rest → Fronts (declared earlier) (declared all)
fronts all earlier rest e = record {
  consts = front-of const_of earlier rest all e;
  effects = front-of effect_of earlier rest all e;
  aggs = front-of agg_of earlier rest all e;
  actions = front-of action_of earlier rest all e;
  routines = front-of routine_of earlier rest all e;
}

below-front : {A : Type 0} (xs zs : List A) (i : ℕ) → IsFront A xs zs → i < length xs → nat_lt i (length zs) ≡ true
below-front xs zs i f lt =
    let long : length zs ≡ length xs + length f.behind = ap length f.joined ∙ length-append xs f.behind in
    grind (arith)

params-front : (ds all : List Definition) (p : ℕ × ℕ) (params : List ℕ) (name : List ℕ) → IsFront Definition ds all → params ≡ map (λ d. d.params) all
    → definition_of name ds ≡ Some p → slice_get params p.0 ≡ Some p.1
params-front ds all p params name f params-is e =
    ap (λ ps. slice_get ps p.0) (params-is ∙ ap (map (λ d. d.params)) f.joined ∙ map-append (λ d. d.params) ds f.behind)
    ∙ slice_get-front (map (λ d. d.params) ds) (map (λ d. d.params) f.behind) p.0 p.1 (definition_of-params name ds p e)

-- ---- what a name stands for

const-found : (key declares : Bool) (const effect : Option ℕ) (i : ℕ)
    → (if key then Key else const_or (effect_or (if declares then Later else Unknown) effect) const) ≡ Const i → const ≡ Some i
const-found true declares const effect i e = absurd (cc)
const-found false declares (Some j) effect i e = cc
const-found false declares None (Some j) i e = absurd (cc)
const-found false true None None i e = absurd (cc)
const-found false false None None i e = absurd (cc)

effect-found : (key declares : Bool) (const effect : Option ℕ) (i : ℕ)
    → (if key then Key else const_or (effect_or (if declares then Later else Unknown) effect) const) ≡ Effect i → effect ≡ Some i
effect-found true declares const effect i e = absurd (cc)
effect-found false declares (Some j) effect i e = absurd (cc)
effect-found false declares None (Some j) i e = cc
effect-found false true None None i e = absurd (cc)
effect-found false false None None i e = absurd (cc)

pub const-position : (all earlier : Declared) (name : List ℕ) (i : ℕ) → attribute_of all earlier name ≡ Const i → position name earlier.consts ≡ Some i
const-position all earlier name i e = const-found (is_key name) (declares_attribute all name) (position name earlier.consts) (position name earlier.effects) i e

pub const-below : (all earlier : Declared) (name : List ℕ) (i : ℕ) → Fronts earlier all → attribute_of all earlier name ≡ Const i → nat_lt i (length all.consts) ≡ true
const-below all earlier name i f e =
    below-front earlier.consts all.consts i f.consts (position-below name earlier.consts i (const-position all earlier name i e))

pub effect-below : (all earlier : Declared) (name : List ℕ) (i : ℕ) → Fronts earlier all → attribute_of all earlier name ≡ Effect i → nat_lt i (length all.effects) ≡ true
effect-below all earlier name i f e =
    below-front earlier.effects all.effects i f.effects (position-below name earlier.effects i
    (effect-found (is_key name) (declares_attribute all name) (position name earlier.consts) (position name earlier.effects) i e))

known-found : (later : Bool) (found : Option (ℕ × ℕ)) (number params : ℕ) → known_or (if later then CalledLater else CalledUnknown) found ≡ Known number params → found ≡ Some (number, params)
known-found later (Some p) number params e = λ i. Some ((let first : p.0 ≡ number = cc in first i), (let second : p.1 ≡ params = cc in second i))
known-found true None number params e = absurd (cc)
known-found false None number params e = absurd (cc)

pub agg-params : (all earlier : Declared) (aggs : List ℕ) (name : List ℕ) (number params : ℕ) → Fronts earlier all → aggs ≡ map (λ d. d.params) all.aggs
    → callee_of all.aggs earlier.aggs name ≡ Known number params → slice_get aggs number ≡ Some params
agg-params all earlier aggs name number params f is e =
    params-front earlier.aggs all.aggs (number, params) aggs name f.aggs is
    (known-found (is_some (definition_of name all.aggs)) (definition_of name earlier.aggs) number params e)

action-found : (later : Bool) (action routine : Option (ℕ × ℕ)) (number params : ℕ)
    → action_or (routine_or (if later then PerformedLater else PerformedUnknown) routine) action ≡ Action number params → action ≡ Some (number, params)
action-found later (Some p) routine number params e = λ i. Some ((let first : p.0 ≡ number = cc in first i), (let second : p.1 ≡ params = cc in second i))
action-found later None (Some p) number params e = absurd (cc)
action-found true None None number params e = absurd (cc)
action-found false None None number params e = absurd (cc)

routine-found : (later : Bool) (action routine : Option (ℕ × ℕ)) (number params : ℕ)
    → action_or (routine_or (if later then PerformedLater else PerformedUnknown) routine) action ≡ Routine number params → routine ≡ Some (number, params)
routine-found later (Some p) routine number params e = absurd (cc)
routine-found later None (Some p) number params e = λ i. Some ((let first : p.0 ≡ number = cc in first i), (let second : p.1 ≡ params = cc in second i))
routine-found true None None number params e = absurd (cc)
routine-found false None None number params e = absurd (cc)

pub action-params : (all earlier : Declared) (actions : List ℕ) (name : List ℕ) (number params : ℕ) → Fronts earlier all → actions ≡ map (λ d. d.params) all.actions
    → performed_of all earlier name ≡ Action number params → slice_get actions number ≡ Some params
action-params all earlier actions name number params f is e =
    params-front earlier.actions all.actions (number, params) actions name f.actions is
    (action-found (may_be_performed all name) (definition_of name earlier.actions) (definition_of name earlier.routines) number params e)

-- a routine is one of the earlier ones, whatever stands behind them
pub routine-params : (all earlier : Declared) (routines more : List ℕ) (name : List ℕ) (number params : ℕ) → routines ≡ map (λ d. d.params) earlier.routines ++ more
    → performed_of all earlier name ≡ Routine number params → slice_get routines number ≡ Some params
routine-params all earlier routines more name number params is e =
    ap (λ ps. slice_get ps number) is
    ∙ slice_get-front (map (λ d. d.params) earlier.routines) more number params (definition_of-params name earlier.routines (number, params)
    (routine-found (may_be_performed all name) (definition_of name earlier.actions) (definition_of name earlier.routines) number params e))
