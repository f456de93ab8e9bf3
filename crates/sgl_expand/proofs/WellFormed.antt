-- A script that is written out is well-formed, and each of its routines is written out by all of them.
use Rattle.std.proofs.Common.{◌≡◌, ℕ, ◌+◌, ◌==◌, ◌<◌, ◌≤◌, Decides, Bool, true, false, List, [], ◌∷◌, ◌++◌, map, length, Some, refl, ap, sym, ◌∙◌, subst, arith, ◌⊎◌, inl, inr}
use Rattle.std.specs.List.{list_all, list_any}
use Rattle.std.specs.Prelude.{◌&&◌, ◌||◌, not, nat_lt, nat_le, if◌then◌else◌}
use Rattle.std.proofs.lemmas.Bool.{and_parts, eq-eqb, ne_eqb, lt-ltb}
use Rattle.std.proofs.lemmas.Bool.Decides.{Decides-eqb}
use Rattle.sgl_typed.specs.declared.script.Kind.{Kind}
use Rattle.sgl_typed.specs.declared.script.Kind.TheVariants.{Numeric}
use Rattle.sgl_typed.specs.declared.schema.Schema.{Schema}
use Rattle.sgl_typed.specs.declared.script.TAction.{TAction}
use Rattle.sgl_typed.specs.declared.script.TAgg.{TAgg}
use Rattle.sgl_typed.specs.declared.script.TRoutine.{TRoutine}
use Rattle.sgl_typed.specs.declared.script.TScript.{TScript}
use Rattle.sgl_typed.specs.Sizes.{routines_nodes, routines_depth}
use Rattle.sgl_typed.specs.SchemaForm.{differ}
use Rattle.sgl_typed.specs.WellFormed.{Body, Callees, slot_kind, statements_fit, routines_fit, main_body, is_well_formed}
use Rattle.sgl_typed.proofs.Forms.{form_of}
use Rattle.sgl_typed.proofs.Scope.{both_true}
use Rattle.sgl_expand.specs.declared.numbers.Numbered.{Numbered}
use Rattle.sgl_expand.specs.Written.{number_from, number_of, numbered_from, lets, Writer, writer_of, writers_of, written_main}
use Rattle.sgl_expand.proofs.Counted.{numbers, zero-behind, join-assoc, nil-behind, AllSized, sized, all-sized, main-counted}
use Rattle.sgl_expand.proofs.KeptKinds.{SameBut, Below, Matches}
use Rattle.sgl_expand.proofs.Fits.{WriterFits, AllFit, fit-more, Setting, all-written}

-- ---- parameters

-- one of so many numbers from the first on
pub record IsParam (first many number : ℕ) : Type 0 where
  pub at : ℕ
  pub within : at < many
  pub is : number ≡ first + at

one-more : (first many number : ℕ) → IsParam (first + 1) many number → IsParam first (ℕ.suc many) number
one-more first many number p = record { at = ℕ.suc p.at; within = (let lt = p.within in omega arith); is = (let e = p.is in omega arith) }

-- the number of a slot that is none of the parameters, or that of one of them
abbrev Either : ℕ → ℕ → List ℕ → ℕ → ℕ → Type 0
Either d first params slot start = (number_from start (numbered_from first params) slot ≡ d) ⊎ IsParam first (length params) (number_from start (numbered_from first params) slot)

later-or : (d first : ℕ) (params : List ℕ) (slot : ℕ) → Either d first params slot d
later-or d first [] slot = inl refl
later-or d first (param ∷ rest) slot = step (param == slot) (later-or first (first + 1) rest slot) (later-or d (first + 1) rest slot)
  where
    step : (t : Bool) → Either first (first + 1) rest slot first → Either d (first + 1) rest slot d
        → (number_from (if t then first else d) (numbered_from (first + 1) rest) slot ≡ d) ⊎ IsParam first (ℕ.suc (length rest)) (number_from (if t then first else d) (numbered_from (first + 1) rest) slot)
    step true (inl e) there = inr (record { at = 0; within = omega arith; is = e ∙ sym (zero-behind first) })
    step true (inr p) there = inr (one-more first (length rest) (number_from first (numbered_from (first + 1) rest) slot) p)
    step false here (inl e) = inl e
    step false here (inr p) = inr (one-more first (length rest) (number_from d (numbered_from (first + 1) rest) slot) p)

-- the slots of parameters hold numbers
abbrev pub slots_with_numbers : List ℕ → List (ℕ × Kind)
slots_with_numbers params = map (λ slot. (slot, Numeric)) params

pub record FoundParam (first many number : ℕ) (kind : Kind) : Type 0 where
  pub param : IsParam first many number
  pub numeric : Some Numeric ≡ Some kind

pub param-found : (d first : ℕ) (params : List ℕ) (slot : ℕ) (kind : Kind) → slot_kind slot (slots_with_numbers params) ≡ Some kind → FoundParam first (length params) (number_from d (numbered_from first params) slot) kind
param-found d first [] slot kind found = absurd (cc)
param-found d first (param ∷ rest) slot kind found =
    step (slot == param) (Decides-eqb slot param) found (later-or first (first + 1) rest slot) (param-found (if param == slot then first else d) (first + 1) rest slot kind)
  where
    here : Either first (first + 1) rest slot first → Some Numeric ≡ Some kind → FoundParam first (ℕ.suc (length rest)) (number_from first (numbered_from (first + 1) rest) slot) kind
    here (inl same) is = record { param = record { at = 0; within = omega arith; is = same ∙ sym (zero-behind first) }; numeric = is }
    here (inr p) is = record { param = one-more first (length rest) (number_from first (numbered_from (first + 1) rest) slot) p; numeric = is }

    step : (t : Bool) → Decides t (slot ≡ param) → (if t then Some Numeric else slot_kind slot (slots_with_numbers rest)) ≡ Some kind
        → Either first (first + 1) rest slot first
        → (slot_kind slot (slots_with_numbers rest) ≡ Some kind → FoundParam (first + 1) (length rest) (number_from (if param == slot then first else d) (numbered_from (first + 1) rest) slot) kind)
        → FoundParam first (ℕ.suc (length rest)) (number_from (if param == slot then first else d) (numbered_from (first + 1) rest) slot) kind
    step true e is either deeper =
        subst (λ t. FoundParam first (ℕ.suc (length rest)) (number_from (if t then first else d) (numbered_from (first + 1) rest) slot) kind) (sym (eq-eqb param slot (sym (e.0 refl)))) (here either is)
    step false e is either deeper =
        let f = deeper is in
        record { param = one-more first (length rest) (number_from (if param == slot then first else d) (numbered_from (first + 1) rest) slot) f.param; numeric = f.numeric }

number-join : (d : ℕ) (xs ys : List Numbered) (slot : ℕ) → number_from d (xs ++ ys) slot ≡ number_from (number_from d xs slot) ys slot
number-join d [] ys slot = refl
number-join d (x ∷ xs) ys slot = number-join (if x.slot == slot then x.number else d) xs ys slot

params-match : (schema : Schema) (aggs : List TAgg) (known : List Numbered) (first next : ℕ) (params : List ℕ) (b' : Body)
    → SameBut (main_body schema aggs []) b' → Below next b'.slots → ((i : ℕ) → i < length params → slot_kind (first + i) b'.slots ≡ Some Numeric)
    → Matches (main_body schema aggs []) (known ++ numbered_from first params) (main_body schema aggs (slots_with_numbers params)) b' next
params-match schema aggs known first next params b' same below numbers = record {
  old = record { consts = refl; effects = refl; target = refl; aggs = refl };
  new = same;
  slots = λ slot kind found.
      let f = param-found (number_of known slot) first params slot kind found in
      ap (λ n. slot_kind n b'.slots) (number-join 0 known (numbered_from first params) slot ∙ f.param.is) ∙ numbers f.param.at f.param.within ∙ f.numeric;
  below = below;
}

-- ---- routines

routines-fit : (schema : Schema) (aggs : List TAgg) (actions : List TAction) (routines : List TRoutine) (ws : List Writer) (counts sizes depths : List ℕ)
    → AllFit (map (λ action. action.params) actions) (main_body schema aggs []) ws counts → AllSized ws sizes depths → routines_fit schema aggs actions counts routines ≡ true
    → AllFit (map (λ action. action.params) actions) (main_body schema aggs []) (writers_of ws routines) (counts ++ map (λ routine. length routine.params) routines)
routines-fit schema aggs actions [] ws counts sizes depths all many h = subst (λ counts. AllFit (map (λ action. action.params) actions) (main_body schema aggs []) ws counts) (sym (nil-behind counts)) all
routines-fit schema aggs actions (routine ∷ rest) ws counts sizes depths all many h =
    let callees : Callees = record { actions = map (λ action. action.params) actions; routines = counts } in
    let body = main_body schema aggs (slots_with_numbers routine.params) in
    let parts : (nat_le (length routine.params) 16 && statements_fit callees routine.body body ≡ true) × (routines_fit schema aggs actions (counts ++ length routine.params ∷ []) rest ≡ true) = and_parts _ _ h in
    let fits : (nat_le (length routine.params) 16 ≡ true) × (statements_fit callees routine.body body ≡ true) = and_parts _ _ parts.0 in
    let setting : Setting (map (λ action. action.params) actions) (main_body schema aggs []) ws counts sizes depths = record { fit = all; size = sized ws sizes depths many } in
    let one : WriterFits (map (λ action. action.params) actions) (main_body schema aggs []) (writer_of ws routine) (length routine.params) =
    λ known first next b' same below numbers.
    all-written (map (λ action. action.params) actions) (main_body schema aggs []) ws counts sizes depths setting routine.body (known ++ numbered_from first routine.params) body b' next
    (params-match schema aggs known first next routine.params b' same below numbers) fits.1 in
    let more = all-sized (routine ∷ []) ws sizes depths many in
    subst (λ counts. AllFit (map (λ action. action.params) actions) (main_body schema aggs []) (writers_of (ws ++ writer_of ws routine ∷ []) rest) counts)
    (join-assoc counts (length routine.params ∷ []) (map (λ routine. length routine.params) rest))
    (routines-fit schema aggs actions rest (ws ++ writer_of ws routine ∷ []) (counts ++ length routine.params ∷ []) (routines_nodes sizes (routine ∷ [])) (routines_depth depths (routine ∷ []))
    (fit-more (map (λ action. action.params) actions) (main_body schema aggs []) ws counts (writer_of ws routine) (length routine.params) all one) more parts.1)

-- ---- slots

none-among : (n next many : ℕ) → n < next → list_any (λ m. n == m) (numbers next many) ≡ false
none-among n next ℕ.zero lt = refl
none-among n next (ℕ.suc many) lt =
    ap (λ is. is || list_any (λ m. n == m) (numbers (next + 1) many)) (ne_eqb n next (λ e. other n next lt e)) ∙ none-among n (next + 1) many (omega arith)
  where
    other : (a b : ℕ) → a < b → a ≡ b → ⊥
    other a b lt e = omega arith

numbers-differ : (next many : ℕ) → differ (numbers next many) ≡ true
numbers-differ next ℕ.zero = refl
numbers-differ next (ℕ.suc many) = both_true _ _ (ap not (none-among next (next + 1) many (omega arith))) (numbers-differ (next + 1) many)

numbers-below : (end next many : ℕ) → next + many ≤ end → list_all (λ slot. nat_lt slot end) (numbers next many) ≡ true
numbers-below end next ℕ.zero le = refl
numbers-below end next (ℕ.suc many) le = both_true (nat_lt next end) _ (lt-ltb next end (omega arith)) (numbers-below end (next + 1) many (omega arith))

-- ---- the whole script

pub written-well-formed : (s : TScript) → is_well_formed s.schema s.aggs s.actions [] (written_main s.routines s.main) (lets (written_main s.routines s.main)) s.rules s.spawn s.removal ≡ true
unfolding is_well_formed
written-well-formed s =
    let form = form_of s in
    let actions = map (λ action. action.params) s.actions in
    let base = main_body s.schema s.aggs [] in
    let many = all-sized s.routines [] [] [] tt in
    let fits = routines-fit s.schema s.aggs s.actions s.routines [] [] [] [] tt tt form.routines in
    let counted = main-counted s.routines s.main in
    let total = lets (written_main s.routines s.main) in
    let start : Matches base [] base base 0 = record {
      old = record { consts = refl; effects = refl; target = refl; aggs = refl };
      new = record { consts = refl; effects = refl; target = refl; aggs = refl };
      slots = λ slot kind found. absurd (cc);
      below = λ slot kind found. absurd (cc);
    } in
    let main = all-written actions base (writers_of [] s.routines) (map (λ routine. length routine.params) s.routines) (routines_nodes [] s.routines) (routines_depth [] s.routines)
    (record { fit = fits; size = sized (writers_of [] s.routines) (routines_nodes [] s.routines) (routines_depth [] s.routines) many }) s.main [] base base 0 start form.main in
    let set = counted.numbered in
    both_true _ _ (both_true _ _ (both_true _ _ (both_true _ _ (both_true _ _ (both_true _ _ (both_true _ _ (both_true _ _ (both_true _ _
    form.few_aggs form.few_clauses) form.aggs) form.actions) refl) main)
    (both_true _ _ (ap differ set ∙ numbers-differ 0 total) (ap (list_all (λ slot. nat_lt slot total)) set ∙ numbers-below total 0 total (omega arith))))
    form.rules) form.spawn) form.removal
