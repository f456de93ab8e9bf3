-- `main` written out gives the items that `main` gives with its calls.
use Rattle.std.proofs.Common.{◌≡◌, ℕ, ◌+◌, ◌==◌, ◌<◌, ◌≤◌, ◌≢◌, pos, Decides, Bool, true, false, List, [], ◌∷◌, ◌++◌, map, length, drop, slice_get, slice_set, slice_index_or, replicate, Option, Some, None, refl, ap, sym, ◌∙◌, subst, arith}
use Rattle.std.specs.List.{list_all}
use Rattle.std.specs.Prelude.{◌&&◌, nat_lt, nat_le, if◌then◌else◌}
use Rattle.std.proofs.lemmas.Bool.{and_parts, false≢true, eq-eqb, ne_eqb, leb-true, ltb-true}
use Rattle.std.proofs.lemmas.Bool.Decides.{Decides-eqb}
use Rattle.std.proofs.lemmas.List.{get_or-set_same, get_or-set_other, length-set}
use Rattle.std.proofs.lemmas.List.Folds.{list_all-append}
use Rattle.sgl_values.specs.declared.fault.Val.{Val}
use Rattle.sgl_values.specs.declared.fault.Val.TheVariants.{N}
use Rattle.sgl_values.specs.declared.item.Item.{Item}
use Rattle.sgl_values.specs.declared.place.Place.{Place}
use Rattle.sgl_typed.specs.declared.script.Kind.{Kind}
use Rattle.sgl_typed.specs.declared.script.TExpr.{TExpr, Row_of-TExpr, end_of-TExpr, more_of-TExpr}
use Rattle.sgl_typed.specs.declared.script.TExpr.TheVariants.{Number, Truth, Slot, Unit as OfUnit, Target, Combined, Random, Agg', Neg', Not', Binary'}
use Rattle.sgl_typed.specs.declared.script.TStmt.{TStmt, Row_of-TStmt, end_of-TStmt, more_of-TStmt}
use Rattle.sgl_typed.specs.declared.script.TStmt.TheVariants.{Let, If, If', Act, Call}
use Rattle.sgl_typed.specs.Aggregate.{value, call_of}
use Rattle.sgl_typed.specs.Items.{items, statement_items, after, chosen, action_items}
use Rattle.sgl_typed.specs.Value.{Calls, Context, value_with, values_with, operated, negated, inverted}
use Rattle.sgl_typed.specs.WellFormed.{Body, Callees, slot_kind, slots_with, is_formed, is_number, is_truth, fit, kind_of, kinds_of, body_behind, statement_fits, block_fits, statements_fit, routines_fit, main_body, slots_set, slots_set_in, slots_of_all, slots_of_routines}
use Rattle.sgl_typed.specs.declared.schema.Schema.{Schema}
use Rattle.sgl_typed.specs.declared.script.TAction.{TAction}
use Rattle.sgl_typed.specs.declared.script.TAgg.{TAgg}
use Rattle.sgl_typed.specs.declared.script.TRoutine.{TRoutine}
use Rattle.sgl_typed.specs.declared.script.Kind.TheVariants.{Numeric, Logical}
use Rattle.sgl_typed.proofs.Equations.{value-Neg, value-Not, value-Binary, value-Agg, items-If}
use Rattle.sgl_expand.specs.declared.numbers.Numbered.{Numbered}
use Rattle.sgl_expand.specs.Meaning.{Meaning, KeepsMeaning, with_params, called, meant, meant_block, meant_all, meaning_of, meanings_of}
use Rattle.sgl_typed.specs.Renamed.{all_renamed}
use Rattle.sgl_expand.specs.Written.{number_from, number_of, numbered_from, renumbered, lets, argument_lets, first_place, Writer, written_call, known_behind, written, written_block, written_all, writer_of, writers_of}
use Rattle.sgl_values.specs.declared.fault.Val.TheVariants.{B, F}
use Rattle.sgl_expand.proofs.Counted.{numbers, join-assoc, nil-behind, zero-behind, length-map, lets-join, lets-arguments, Sized, AllSized, sized, all-sized, counted, arguments-counted}
use Rattle.sgl_typed.specs.Sizes.{routines_nodes, routines_depth}
use Rattle.sgl_typed.proofs.Forms.{form_of}
use Rattle.sgl_expand.specs.Expand.{main_of}
use Rattle.sgl_expand.proofs.Fits.{above-numbers, number-join, fit-params}
use Rattle.sgl_typed.proofs.Scope.{formed_if, number_formed, truth_formed, BothFormed, both_formed, fit_numbers}
use Rattle.sgl_expand.proofs.KeptKinds.{kind-of-formed}
use Rattle.sgl_expand.proofs.Stepping.{lets-If}
use Rattle.sgl_expand.proofs.WellFormed.{param-found, slots_with_numbers}

abbrev unset : Val
unset = N (pos 0)

-- a context with these slots
abbrev within : Context → List Val → Context
within c slots = record c { slots = slots }

-- ---- slots of the two scripts

-- a slot in scope has a number below the next one, which holds the same value
pub record Holds (b : Body) (known : List Numbered) (next : ℕ) (xs ys : List Val) : Type 0 where
  pub below : (slot : ℕ) (kind : Kind) → slot_kind slot b.slots ≡ Some kind → number_of known slot < next
  pub same : (slot : ℕ) (kind : Kind) → slot_kind slot b.slots ≡ Some kind → slice_index_or ys (number_of known slot) unset ≡ slice_index_or xs slot unset

mutual
  value-same : (b : Body) (known : List Numbered) (next : ℕ) (xs ys : List Val) → Holds b known next xs ys → (calls : Calls) (c : Context) (e : TExpr) → is_formed (kind_of b e) ≡ true
      → value_with calls (within c ys) (renumbered known e) ≡ value_with calls (within c xs) e
  value-same b known next xs ys h calls c (Number n) f = refl
  value-same b known next xs ys h calls c (Truth t) f = refl
  value-same b known next xs ys h calls c (Slot j) f = let found = kind-of-formed (slot_kind j b.slots) f in h.same j found.0 found.1
  value-same b known next xs ys h calls c (OfUnit attr) f = refl
  value-same b known next xs ys h calls c (Target attr) f = refl
  value-same b known next xs ys h calls c (Combined j) f = refl
  value-same b known next xs ys h calls c (Random j) f = refl
  value-same b known next xs ys h calls c (Agg' agg shape args place) f =
      value-Agg calls (within c ys) record { agg = agg; args = all_renamed (number_of known) args; place = place }
      ∙ ap (calls agg) (values-same b known next xs ys h calls c args (fit_numbers (slice_get b.aggs agg) (kinds_of b args) (formed_if _ Numeric f)))
  value-same b known next xs ys h calls c (Neg' shape (more_of-TExpr inner end_of-TExpr)) f =
      value-Neg calls (within c ys) (renumbered known inner) ∙ ap negated (value-same b known next xs ys h calls c inner (number_formed (kind_of b inner) (formed_if _ Numeric f)))
  value-same b known next xs ys h calls c (Not' shape (more_of-TExpr inner end_of-TExpr)) f =
      value-Not calls (within c ys) (renumbered known inner) ∙ ap inverted (value-same b known next xs ys h calls c inner (truth_formed (kind_of b inner) (formed_if _ Logical f)))
  value-same b known next xs ys h calls c (Binary' op shape (more_of-TExpr left end_of-TExpr) shape' (more_of-TExpr right end_of-TExpr) place) f =
      let formed : BothFormed (kind_of b left) (kind_of b right) = both_formed op (kind_of b left) (kind_of b right) f in
      value-Binary calls (within c ys) op (renumbered known left) (renumbered known right) place
      ∙ (λ i. operated op place (value-same b known next xs ys h calls c left formed.0 i) (value-same b known next xs ys h calls c right formed.1 i))

  values-same : {m : _} → (b : Body) (known : List Numbered) (next : ℕ) (xs ys : List Val) → Holds b known next xs ys → (calls : Calls) (c : Context) (row : Row_of-TExpr m)
      → list_all is_number (kinds_of b row) ≡ true → map (value_with calls (within c ys)) (all_renamed (number_of known) row) ≡ values_with calls (within c xs) row
  values-same b known next xs ys h calls c end_of-TExpr f = refl
  values-same b known next xs ys h calls c (more_of-TExpr e rest) f =
      let parts : (is_number (kind_of b e) ≡ true) × (list_all is_number (kinds_of b rest) ≡ true) = and_parts _ _ f in
      λ i. value-same b known next xs ys h calls c e (number_formed (kind_of b e) parts.0) i ∷ values-same b known next xs ys h calls c rest parts.1 i

call-same : (c : Context) (xs ys : List Val) (o : Option TAgg) (args : List Val) → call_of (within c ys) o args ≡ call_of (within c xs) o args
call-same c xs ys None args = refl
call-same c xs ys (Some agg) args = refl

-- the value of an expression in scope is the same
same-value : (b : Body) (known : List Numbered) (next : ℕ) (xs ys : List Val) → Holds b known next xs ys → (c : Context) (e : TExpr) → is_formed (kind_of b e) ≡ true
    → value (within c ys) (renumbered known e) ≡ value (within c xs) e
same-value b known next xs ys h c e f =
    (λ i. value_with (λ agg args. call-same c xs ys (slice_get c.script.aggs agg) args i) (within c ys) (renumbered known e))
    ∙ value-same b known next xs ys h (λ agg args. call_of (within c xs) (slice_get c.script.aggs agg) args) c e f

same-values : (b : Body) (known : List Numbered) (next : ℕ) (xs ys : List Val) → Holds b known next xs ys → (c : Context) (es : List TExpr) → list_all is_number (map (kind_of b) es) ≡ true
    → map (value (within c ys)) (map (renumbered known) es) ≡ map (value (within c xs)) es
same-values b known next xs ys h c [] f = refl
same-values b known next xs ys h c (e ∷ es) f =
    let parts : (is_number (kind_of b e) ≡ true) × (list_all is_number (map (kind_of b) es) ≡ true) = and_parts _ _ f in
    λ i. same-value b known next xs ys h c e (number_formed (kind_of b e) parts.0) i ∷ same-values b known next xs ys h c es parts.1 i

-- ---- slots behind statements

abbrev after_all : List TStmt → Context → Context
after_all [] c = c
after_all (s ∷ rest) c = after_all rest (after s c)

items-join : (xs ys : List TStmt) (c : Context) → items (xs ++ ys) c ≡ items xs c ++ items ys (after_all xs c)
items-join [] ys c = refl
items-join (x ∷ xs) ys c = ap (λ rest. statement_items x c ++ rest) (items-join xs ys (after x c)) ∙ sym (join-assoc (statement_items x c) (items xs (after x c)) (items ys (after_all xs (after x c))))

-- the slots behind statements
abbrev slots_after : List TStmt → Context → List Val
slots_after ss c = (after_all ss c).slots

after-within : (ss : List TStmt) (c : Context) (ys : List Val) → after_all ss (within c ys) ≡ within c (slots_after ss (within c ys))
after-within [] c ys = refl
after-within (Let slot e place ∷ rest) c ys = after-within rest c (slice_set ys slot (value (within c ys) e))
after-within (If' cond place shape taken shape' other ∷ rest) c ys = after-within rest c ys
after-within (Act action args place ∷ rest) c ys = after-within rest c ys
after-within (Call routine args places ∷ rest) c ys = after-within rest c ys

long-after : (ss : List TStmt) (c : Context) (ys : List Val) → length (slots_after ss (within c ys)) ≡ length ys
long-after [] c ys = refl
long-after (Let slot e place ∷ rest) c ys = long-after rest c (slice_set ys slot (value (within c ys) e)) ∙ length-set ys slot (value (within c ys) e)
long-after (If' cond place shape taken shape' other ∷ rest) c ys = long-after rest c ys
long-after (Act action args place ∷ rest) c ys = long-after rest c ys
long-after (Call routine args places ∷ rest) c ys = long-after rest c ys

less-other : (a b : ℕ) → a < b → a ≢ b
less-other a b lt e = omega arith

-- statements that set only slots from a number on keep the values of those before
kept-values : (ss : List TStmt) (n slot : ℕ) (c : Context) (ys : List Val) → list_all (nat_le n) (slots_of_all ss) ≡ true → slot < n
    → slice_index_or (slots_after ss (within c ys)) slot unset ≡ slice_index_or ys slot unset
kept-values [] n slot c ys h lt = refl
kept-values (Let other e place ∷ rest) n slot c ys h lt =
    let parts : (nat_le n other ≡ true) × (list_all (nat_le n) (slots_of_all rest) ≡ true) = and_parts _ _ h in
    let le : n ≤ other = leb-true n other parts.0 in
    let less : slot < other = omega arith in
    kept-values rest n slot c (slice_set ys other (value (within c ys) e)) parts.1 lt ∙ get_or-set_other ys other slot (value (within c ys) e) unset (less-other slot other less)
kept-values (If' cond place shape taken shape' other ∷ rest) n slot c ys h lt =
    kept-values rest n slot c ys (and_parts _ _ (sym (list_all-append (nat_le n) (slots_set (If' cond place shape taken shape' other)) (slots_of_all rest)) ∙ h)).1 lt
kept-values (Act action args place ∷ rest) n slot c ys h lt = kept-values rest n slot c ys h lt
kept-values (Call routine args places ∷ rest) n slot c ys h lt = kept-values rest n slot c ys h lt

numbered-keeps : (ss : List TStmt) (next slot : ℕ) (c : Context) (ys : List Val) → slots_of_all ss ≡ numbers next (lets ss) → slot < next
    → slice_index_or (slots_after ss (within c ys)) slot unset ≡ slice_index_or ys slot unset
numbered-keeps ss next slot c ys is lt = kept-values ss next slot c ys (ap (list_all (nat_le next)) is ∙ above-numbers next next (lets ss) (omega arith)) lt

-- what holds still does, behind statements that are numbered from the next number on
grown : (b : Body) (known : List Numbered) (next : ℕ) (xs ys : List Val) (ss : List TStmt) (c : Context) → slots_of_all ss ≡ numbers next (lets ss) → Holds b known next xs ys
    → Holds b known (next + lets ss) xs (slots_after ss (within c ys))
grown b known next xs ys ss c is h = record {
  below = λ slot kind found. let lt = h.below slot kind found in omega arith;
  same = λ slot kind found. numbered-keeps ss next (number_of known slot) c ys is (h.below slot kind found) ∙ h.same slot kind found;
}

later : (b : Body) (known : List Numbered) (next end : ℕ) (xs ys : List Val) → next ≤ end → Holds b known next xs ys → Holds b known end xs ys
later b known next end xs ys le h = record { below = λ slot kind found. let lt = h.below slot kind found in omega arith; same = h.same }

-- a `let` sets the same value in both
let-holds : (b : Body) (known : List Numbered) (next : ℕ) (xs ys : List Val) (slot : ℕ) (kind : Kind) (v : Val) → Holds b known next xs ys → slot < length xs → next < length ys
    → Holds (record b { slots = (slot, kind) ∷ b.slots }) (known ++ record { slot = slot; number = next } ∷ []) (next + 1) (slice_set xs slot v) (slice_set ys next v)
let-holds b known next xs ys slot kind v h in_xs in_ys = record {
  below = λ other kind' found. subst (λ number. number < next + 1) (sym (joined other)) (low other kind' (other == slot) (Decides-eqb other slot) found);
  same = λ other kind' found. subst (λ number. slice_index_or (slice_set ys next v) number unset ≡ slice_index_or (slice_set xs slot v) other unset) (sym (joined other)) (step other kind' (other == slot) (Decides-eqb other slot) found);
}
  where
    joined : (other : ℕ) → number_of (known ++ record { slot = slot; number = next } ∷ []) other ≡ (if slot == other then next else number_of known other)
    joined other = number-join 0 known (record { slot = slot; number = next } ∷ []) other

    low : (other : ℕ) (kind' : Kind) (t : Bool) → Decides t (other ≡ slot) → (if t then Some kind else slot_kind other b.slots) ≡ Some kind' → (if slot == other then next else number_of known other) < next + 1
    low other kind' true d found = subst (λ t. (if t then next else number_of known other) < next + 1) (sym (eq-eqb slot other (sym (d.0 refl)))) (omega arith)
    low other kind' false d found =
        subst (λ t. (if t then next else number_of known other) < next + 1) (sym (ne_eqb slot other (λ e. false≢true (d.1 (sym e))))) (let lt = h.below other kind' found in omega arith)

    step : (other : ℕ) (kind' : Kind) (t : Bool) → Decides t (other ≡ slot) → (if t then Some kind else slot_kind other b.slots) ≡ Some kind'
        → slice_index_or (slice_set ys next v) (if slot == other then next else number_of known other) unset ≡ slice_index_or (slice_set xs slot v) other unset
    step other kind' true d found =
        ap (λ t. slice_index_or (slice_set ys next v) (if t then next else number_of known other) unset) (eq-eqb slot other (sym (d.0 refl)))
        ∙ get_or-set_same ys next v unset in_ys ∙ sym (get_or-set_same xs slot v unset in_xs) ∙ ap (λ n. slice_index_or (slice_set xs slot v) n unset) (sym (d.0 refl))
    step other kind' false d found =
        ap (λ t. slice_index_or (slice_set ys next v) (if t then next else number_of known other) unset) (ne_eqb slot other (λ e. false≢true (d.1 (sym e))))
        ∙ get_or-set_other ys next (number_of known other) v unset (less-other (number_of known other) next (h.below other kind' found))
        ∙ h.same other kind' found ∙ sym (get_or-set_other xs slot other v unset (λ e. false≢true (d.1 e)))

-- ---- arguments

arguments-give : (places : List Place) (next : ℕ) (es : List TExpr) (c : Context) → items (argument_lets places next es) c ≡ []
arguments-give places next [] c = refl
arguments-give places next (e ∷ es) c = arguments-give (drop 1 places) (next + 1) es (after (Let next e (first_place places)) c)

arguments-set : (b : Body) (known : List Numbered) (next : ℕ) (xs ys : List Val) → Holds b known next xs ys → (c : Context) (places : List Place) (es : List TExpr)
    → list_all is_number (map (kind_of b) es) ≡ true → next + length es ≤ length ys → (i : ℕ) → i < length es
    → slice_index_or (slots_after (argument_lets places next (map (renumbered known) es)) (within c ys)) (next + i) unset ≡ slice_index_or (map (value (within c xs)) es) i unset
arguments-set b known next xs ys h c places [] f room i lt = absurd (omega arith)
arguments-set b known next xs ys h c places (e ∷ es) f room ℕ.zero lt =
    let parts : (is_number (kind_of b e) ≡ true) × (list_all is_number (map (kind_of b) es) ≡ true) = and_parts _ _ f in
    let v = value (within c ys) (renumbered known e) in
    let rest = argument_lets (drop 1 places) (next + 1) (map (renumbered known) es) in
    let in_ys : next < length ys = omega arith in
    ap (λ n. slice_index_or (slots_after rest (within c (slice_set ys next v))) n unset) (zero-behind next)
    ∙ numbered-keeps rest (next + 1) next c (slice_set ys next v) (arguments-counted (drop 1 places) (next + 1) (map (renumbered known) es)).numbered (omega arith)
    ∙ get_or-set_same ys next v unset in_ys
    ∙ same-value b known next xs ys h c e (number_formed (kind_of b e) parts.0)
arguments-set b known next xs ys h c places (e ∷ es) f room (ℕ.suc i) lt =
    let parts : (is_number (kind_of b e) ≡ true) × (list_all is_number (map (kind_of b) es) ≡ true) = and_parts _ _ f in
    let v = value (within c ys) (renumbered known e) in
    let rest = argument_lets (drop 1 places) (next + 1) (map (renumbered known) es) in
    let at : next + ℕ.suc i ≡ (next + 1) + i = omega arith in
    let long : length (slice_set ys next v) ≡ length ys = length-set ys next v in
    ap (λ n. slice_index_or (slots_after rest (within c (slice_set ys next v))) n unset) at
    ∙ arguments-set b known (next + 1) xs (slice_set ys next v) (grown b known next xs ys (Let next (renumbered known e) (first_place places) ∷ []) c refl h) c (drop 1 places) es parts.1
    (omega arith) i (omega arith)

-- ---- parameters

-- the numbers from the first on hold these values
abbrev HoldAt : List Val → ℕ → List Val → Type 0
HoldAt ys first vals = (i : ℕ) → i < length vals → slice_index_or ys (first + i) unset ≡ slice_index_or vals i unset

hold-rest : (ys : List Val) (first : ℕ) (v : Val) (vals : List Val) → HoldAt ys first (v ∷ vals) → HoldAt ys (first + 1) vals
hold-rest ys first v vals h i lt =
    let at : (first + 1) + i ≡ first + ℕ.suc i = omega arith in
    ap (λ n. slice_index_or ys n unset) at ∙ h (ℕ.suc i) (omega arith)

hold-first : (ys : List Val) (first : ℕ) (v : Val) (vals : List Val) → HoldAt ys first (v ∷ vals) → slice_index_or ys first unset ≡ v
hold-first ys first v vals h = ap (λ n. slice_index_or ys n unset) (sym (zero-behind first)) ∙ h 0 (omega arith)

param-step : (xs ys : List Val) (first d param slot : ℕ) (v : Val) → param < length xs → slice_index_or ys first unset ≡ v → slice_index_or ys d unset ≡ slice_index_or xs slot unset
    → (t : Bool) → Decides t (param ≡ slot) → slice_index_or ys (if t then first else d) unset ≡ slice_index_or (slice_set xs param v) slot unset
param-step xs ys first d param slot v lt here old true e =
    here ∙ sym (get_or-set_same xs param v unset lt) ∙ ap (λ n. slice_index_or (slice_set xs param v) n unset) (e.0 refl)
param-step xs ys first d param slot v lt here old false e = old ∙ sym (get_or-set_other xs param slot v unset (λ same. false≢true (e.1 (sym same))))

carry : (params : List ℕ) (vals xs ys : List Val) (first d slot : ℕ) → length vals ≡ length params → list_all (λ p. nat_lt p (length xs)) params ≡ true → HoldAt ys first vals
    → slice_index_or ys d unset ≡ slice_index_or xs slot unset
    → slice_index_or ys (number_from d (numbered_from first params) slot) unset ≡ slice_index_or (with_params params vals xs) slot unset
carry [] vals xs ys first d slot many low h old = old
carry (p ∷ ps) [] xs ys first d slot many low h old = absurd (omega arith)
carry (p ∷ ps) (v ∷ vs) xs ys first d slot many low h old =
    let parts : (nat_lt p (length xs) ≡ true) × (list_all (λ p. nat_lt p (length xs)) ps ≡ true) = and_parts _ _ low in
    carry ps vs (slice_set xs p v) ys (first + 1) (if p == slot then first else d) slot (omega arith)
    (subst (λ n. list_all (λ p. nat_lt p n) ps ≡ true) (sym (length-set xs p v)) parts.1) (hold-rest ys first v vs h)
    (param-step xs ys first d p slot v (ltb-true p (length xs) parts.0) (hold-first ys first v vs h) old (p == slot) (Decides-eqb p slot))

param-holds : (params : List ℕ) (vals xs ys : List Val) (first d slot : ℕ) (kind : Kind) → length vals ≡ length params → list_all (λ p. nat_lt p (length xs)) params ≡ true → HoldAt ys first vals
    → slot_kind slot (slots_with_numbers params) ≡ Some kind
    → slice_index_or ys (number_from d (numbered_from first params) slot) unset ≡ slice_index_or (with_params params vals xs) slot unset
param-holds [] vals xs ys first d slot kind many low h found = absurd (cc)
param-holds (p ∷ ps) [] xs ys first d slot kind many low h found = absurd (omega arith)
param-holds (p ∷ ps) (v ∷ vs) xs ys first d slot kind many low h found =
    let parts : (nat_lt p (length xs) ≡ true) × (list_all (λ p. nat_lt p (length xs)) ps ≡ true) = and_parts _ _ low in
    let lows : list_all (λ q. nat_lt q (length (slice_set xs p v))) ps ≡ true = subst (λ n. list_all (λ p. nat_lt p n) ps ≡ true) (sym (length-set xs p v)) parts.1 in
    step (slot == p) (Decides-eqb slot p) found (ltb-true p (length xs) parts.0)
    (carry ps vs (slice_set xs p v) ys (first + 1) (if p == slot then first else d) slot (omega arith) lows (hold-rest ys first v vs h))
    (param-holds ps vs (slice_set xs p v) ys (first + 1) (if p == slot then first else d) slot kind (omega arith) lows (hold-rest ys first v vs h))
  where
    step : (t : Bool) → Decides t (slot ≡ p) → (if t then Some Numeric else slot_kind slot (slots_with_numbers ps)) ≡ Some kind → p < length xs
        → (slice_index_or ys (if p == slot then first else d) unset ≡ slice_index_or (slice_set xs p v) slot unset
        → slice_index_or ys (number_from (if p == slot then first else d) (numbered_from (first + 1) ps) slot) unset ≡ slice_index_or (with_params ps vs (slice_set xs p v)) slot unset)
        → (slot_kind slot (slots_with_numbers ps) ≡ Some kind
        → slice_index_or ys (number_from (if p == slot then first else d) (numbered_from (first + 1) ps) slot) unset ≡ slice_index_or (with_params ps vs (slice_set xs p v)) slot unset)
        → slice_index_or ys (number_from (if p == slot then first else d) (numbered_from (first + 1) ps) slot) unset ≡ slice_index_or (with_params ps vs (slice_set xs p v)) slot unset
    step true e is lt carried deeper =
        carried
        (ap (λ t. slice_index_or ys (if t then first else d) unset) (eq-eqb p slot (sym (e.0 refl)))
        ∙ hold-first ys first v vs h ∙ sym (get_or-set_same xs p v unset lt) ∙ ap (λ n. slice_index_or (slice_set xs p v) n unset) (sym (e.0 refl)))
    step false e is lt carried deeper = deeper is

long-params : (params : List ℕ) (vals xs : List Val) → length (with_params params vals xs) ≡ length xs
long-params [] vals xs = refl
long-params (p ∷ ps) [] xs = refl
long-params (p ∷ ps) (v ∷ vs) xs = long-params ps vs (slice_set xs p v) ∙ length-set xs p v

-- ---- calls

-- the body of a routine, written out, gives what the routine means, where its parameters hold the values
abbrev pub MeansSame : ℕ → Writer → Meaning → ℕ → Type 0
MeansSame total w m params = (known : List Numbered) (first next : ℕ) (c : Context) (xs ys vals : List Val) → length vals ≡ params → length xs ≡ total → first + params ≤ next
    → next + lets (w known first next) ≤ length ys → HoldAt ys first vals → items (w known first next) (within c ys) ≡ m (within c xs) vals

abbrev pub AllMean : ℕ → List Writer → List Meaning → List ℕ → Type 0
AllMean total [] [] [] = Unit {0}
AllMean total [] [] (n ∷ ns) = ⊥
AllMean total [] (m ∷ ms) ns = ⊥
AllMean total (w ∷ ws) [] ns = ⊥
AllMean total (w ∷ ws) (m ∷ ms) [] = ⊥
AllMean total (w ∷ ws) (m ∷ ms) (n ∷ ns) = MeansSame total w m n × AllMean total ws ms ns

mean-get : (total : ℕ) (ws : List Writer) (ms : List Meaning) (ns : List ℕ) → AllMean total ws ms ns → (routine params : ℕ) → slice_get ns routine ≡ Some params
    → (known : List Numbered) (first next : ℕ) (c : Context) (xs ys vals : List Val) → length vals ≡ params → length xs ≡ total → first + params ≤ next
    → next + lets (written_call (slice_get ws routine) known first next) ≤ length ys → HoldAt ys first vals
    → items (written_call (slice_get ws routine) known first next) (within c ys) ≡ called (slice_get ms routine) (within c xs) vals
mean-get total [] [] [] all routine params is known first next c xs ys vals many long le room h = refl
mean-get total [] [] (n ∷ ns) all routine params is known first next c xs ys vals many long le room h = absurd all
mean-get total [] (m ∷ ms) ns all routine params is known first next c xs ys vals many long le room h = absurd all
mean-get total (w ∷ ws) [] ns all routine params is known first next c xs ys vals many long le room h = absurd all
mean-get total (w ∷ ws) (m ∷ ms) [] all routine params is known first next c xs ys vals many long le room h = absurd all
mean-get total (w ∷ ws) (m ∷ ms) (n ∷ ns) all ℕ.zero params is known first next c xs ys vals many long le room h =
    let e : params ≡ n = cc in all.0 known first next c xs ys vals (many ∙ e) long (subst (λ n. first + n ≤ next) e le) room h
mean-get total (w ∷ ws) (m ∷ ms) (n ∷ ns) all (ℕ.suc routine) params is known first next c xs ys vals many long le room h =
    mean-get total ws ms ns all.1 routine params is known first next c xs ys vals many long le room h

mean-more : (total : ℕ) (ws : List Writer) (ms : List Meaning) (ns : List ℕ) (w : Writer) (m : Meaning) (n : ℕ) → AllMean total ws ms ns → MeansSame total w m n → AllMean total (ws ++ w ∷ []) (ms ++ m ∷ []) (ns ++ n ∷ [])
mean-more total [] [] [] w m n all one = (one, tt)
mean-more total [] [] (n' ∷ ns) w m n all one = absurd all
mean-more total [] (m' ∷ ms) ns w m n all one = absurd all
mean-more total (w' ∷ ws) [] ns w m n all one = absurd all
mean-more total (w' ∷ ws) (m' ∷ ms) [] w m n all one = absurd all
mean-more total (w' ∷ ws) (m' ∷ ms) (n' ∷ ns) w m n all one = (all.0, mean-more total ws ms ns w m n all.1 one)

-- ---- statements

-- writers and the meanings of their routines
pub record Telling (total : ℕ) (ws : List Writer) (ms : List Meaning) (counts sizes depths : List ℕ) : Type 0 where
  pub mean : AllMean total ws ms counts
  pub size : Sized ws sizes depths

-- the slots that are set are below the number of slots
abbrev Low : ℕ → List ℕ → Type 0
Low total slots = list_all (λ slot. nat_lt slot total) slots ≡ true

low-front : (total : ℕ) (xs ys : List ℕ) → Low total (xs ++ ys) → Low total xs
low-front total xs ys h = (and_parts _ _ (sym (list_all-append (λ slot. nat_lt slot total) xs ys) ∙ h)).0

low-back : (total : ℕ) (xs ys : List ℕ) → Low total (xs ++ ys) → Low total ys
low-back total xs ys h = (and_parts _ _ (sym (list_all-append (λ slot. nat_lt slot total) xs ys) ∙ h)).1

chosen-same : (c : Context) (xs ys : List Val) (v : Val) (taken other : List Item) → chosen (within c ys) v taken other ≡ chosen (within c xs) v taken other
chosen-same c xs ys (F fault) taken other = refl
chosen-same c xs ys (B true) taken other = refl
chosen-same c xs ys (B false) taken other = refl
chosen-same c xs ys (N z) taken other = refl

-- what a context has behind a statement, but for the slots
one-after : (s : TStmt) (c : Context) (xs : List Val) → after s (within c xs) ≡ within c (after s (within c xs)).slots
one-after (Let slot e place) c xs = refl
one-after (If' cond place shape taken shape' other) c xs = refl
one-after (Act action args place) c xs = refl
one-after (Call routine args places) c xs = refl

one-long : (s : TStmt) (c : Context) (xs : List Val) → length (after s (within c xs)).slots ≡ length xs
one-long (Let slot e place) c xs = length-set xs slot (value (within c xs) e)
one-long (If' cond place shape taken shape' other) c xs = refl
one-long (Act action args place) c xs = refl
one-long (Call routine args places) c xs = refl

behind-holds : (actions : List ℕ) (total : ℕ) (ws : List Writer) (ms : List Meaning) (counts sizes depths : List ℕ) → Telling total ws ms counts sizes depths
    → (s : TStmt) (b : Body) (known : List Numbered) (next : ℕ) (c : Context) (xs ys : List Val) → Holds b known next xs ys
    → statement_fits (record { actions = actions; routines = counts }) s b ≡ true → Low total (slots_set s) → length xs ≡ total → next + lets (written ws s known next) ≤ length ys
    → Holds (body_behind s b) (known_behind s known next) (next + lets (written ws s known next)) (after s (within c xs)).slots (slots_after (written ws s known next) (within c ys))
behind-holds actions total ws ms counts sizes depths all (Let slot e place) b known next c xs ys h f low long room =
    let found = kind-of-formed (kind_of b e) f in
    let same : value (within c ys) (renumbered known e) ≡ value (within c xs) e = same-value b known next xs ys h c e f in
    let less : slot < total = ltb-true slot total (and_parts _ _ low).0 in
    let in_xs : slot < length xs = omega arith in
    let in_ys : next < length ys = omega arith in
    subst (λ k. Holds (record b { slots = slots_with slot k b.slots }) (known ++ record { slot = slot; number = next } ∷ []) (next + 1) (slice_set xs slot (value (within c xs) e)) (slice_set ys next (value (within c ys) (renumbered known e)))) (sym found.1)
    (subst (λ v. Holds (record b { slots = (slot, found.0) ∷ b.slots }) (known ++ record { slot = slot; number = next } ∷ []) (next + 1) (slice_set xs slot (value (within c xs) e)) (slice_set ys next v)) (sym same)
    (let-holds b known next xs ys slot found.0 (value (within c xs) e) h in_xs in_ys))
behind-holds actions total ws ms counts sizes depths all (If' cond place shape taken shape' other) b known next c xs ys h f low long room =
    grown b known next xs ys (written ws (If' cond place shape taken shape' other) known next) c (counted ws sizes depths all.size (If' cond place shape taken shape' other) known next).numbered h
behind-holds actions total ws ms counts sizes depths all (Act action args place) b known next c xs ys h f low long room =
    grown b known next xs ys (written ws (Act action args place) known next) c (counted ws sizes depths all.size (Act action args place) known next).numbered h
behind-holds actions total ws ms counts sizes depths all (Call routine args places) b known next c xs ys h f low long room =
    grown b known next xs ys (written ws (Call routine args places) known next) c (counted ws sizes depths all.size (Call routine args places) known next).numbered h

call-gives : (total : ℕ) (ws : List Writer) (ms : List Meaning) (counts sizes depths : List ℕ) → Telling total ws ms counts sizes depths
    → (routine : ℕ) (args : List TExpr) (places : List Place) (b : Body) (known : List Numbered) (next : ℕ) (c : Context) (xs ys : List Val) → Holds b known next xs ys
    → fit (slice_get counts routine) (map (kind_of b) args) ≡ true → length xs ≡ total → next + lets (written ws (Call routine args places) known next) ≤ length ys
    → items (written ws (Call routine args places) known next) (within c ys) ≡ called (slice_get ms routine) (within c xs) (map (value (within c xs)) args)
call-gives total ws ms counts sizes depths all routine args places b known next c xs ys h f long room =
    let numbers = fit_numbers (slice_get counts routine) (map (kind_of b) args) f in
    let params = fit-params (slice_get counts routine) (map (kind_of b) args) f in
    let args' = map (renumbered known) args in
    let front = argument_lets places next args' in
    let back = written_call (slice_get ws routine) known next (next + length args) in
    let vals = map (value (within c xs)) args in
    let many : lets front ≡ length args = lets-arguments places next args' ∙ length-map (renumbered known) args in
    let parts : lets (front ++ back) ≡ lets front + lets back = lets-join front back in
    let count : params.many ≡ length args = params.same ∙ length-map (kind_of b) args in
    let ys' = slots_after front (within c ys) in
    let long' : length ys' ≡ length ys = long-after front c ys in
    let wide : next + length args ≤ length ys = omega arith in
    let deep : (next + length args) + lets back ≤ length ys' = omega arith in
    let upto : next + params.many ≤ next + length args = omega arith in
    let same-many : length vals ≡ params.many = length-map (value (within c xs)) args ∙ sym count in
    items-join front back (within c ys)
    ∙ (λ i. arguments-give places next args' (within c ys) i ++ items back (after-within front c ys i))
    ∙ mean-get total ws ms counts all.mean routine params.many params.is known next (next + length args) c xs ys' vals same-many long upto deep
    (λ i lt. arguments-set b known next xs ys h c places args numbers wide i (subst (λ n. i < n) (length-map (value (within c xs)) args) lt))

-- where a statement gives its items, and what stands behind it gives its own, both give them one after the other
joined-give : (actions : List ℕ) (total : ℕ) (ws : List Writer) (ms : List Meaning) (counts sizes depths : List ℕ) → Telling total ws ms counts sizes depths
    → (s : TStmt) (b : Body) (known : List Numbered) (next : ℕ) (c : Context) (xs ys : List Val) → Holds b known next xs ys
    → statement_fits (record { actions = actions; routines = counts }) s b ≡ true → Low total (slots_set s) → length xs ≡ total
    → (more : List TStmt) (rest : Context → List Item) → next + lets (written ws s known next ++ more) ≤ length ys
    → (next + lets (written ws s known next) ≤ length ys → items (written ws s known next) (within c ys) ≡ meant ms s (within c xs))
    → ((xs' ys' : List Val) → Holds (body_behind s b) (known_behind s known next) (next + lets (written ws s known next)) xs' ys' → length xs' ≡ total
    → (next + lets (written ws s known next)) + lets more ≤ length ys' → items more (within c ys') ≡ rest (within c xs'))
    → items (written ws s known next ++ more) (within c ys) ≡ meant ms s (within c xs) ++ rest (after s (within c xs))
joined-give actions total ws ms counts sizes depths all s b known next c xs ys h f low long more rest room first-gives more-give =
    let first = written ws s known next in
    let joined : lets (first ++ more) ≡ lets first + lets more = lets-join first more in
    let same : length (slots_after first (within c ys)) ≡ length ys = long-after first c ys in
    let room-first : next + lets first ≤ length ys = omega arith in
    let room-more : (next + lets first) + lets more ≤ length (slots_after first (within c ys)) = omega arith in
    let holds = behind-holds actions total ws ms counts sizes depths all s b known next c xs ys h f low long room-first in
    items-join first more (within c ys)
    ∙ (λ i. first-gives room-first i ++ items more (after-within first c ys i))
    ∙ ap (λ behind. meant ms s (within c xs) ++ behind) (more-give _ _ holds (one-long s c xs ∙ long) room-more ∙ ap rest (sym (one-after s c xs)))

mutual
  gives : (actions : List ℕ) (total : ℕ) (ws : List Writer) (ms : List Meaning) (counts sizes depths : List ℕ) → Telling total ws ms counts sizes depths
      → (s : TStmt) (b : Body) (known : List Numbered) (next : ℕ) (c : Context) (xs ys : List Val) → Holds b known next xs ys
      → statement_fits (record { actions = actions; routines = counts }) s b ≡ true → Low total (slots_set s) → length xs ≡ total → next + lets (written ws s known next) ≤ length ys
      → items (written ws s known next) (within c ys) ≡ meant ms s (within c xs)
  gives actions total ws ms counts sizes depths all (Let slot e place) b known next c xs ys h f low long room = refl
  gives actions total ws ms counts sizes depths all (If' cond place shape taken shape' other) b known next c xs ys h f low long room =
      let two : (is_truth (kind_of b cond) && block_fits (record { actions = actions; routines = counts }) taken b ≡ true) × (block_fits (record { actions = actions; routines = counts }) other b ≡ true) = and_parts _ _ f in
      let one : (is_truth (kind_of b cond) ≡ true) × (block_fits (record { actions = actions; routines = counts }) taken b ≡ true) = and_parts _ _ two.0 in
      let first = written_block ws taken known next in
      let second = written_block ws other known (next + lets first) in
      let both-lets : lets (If (renumbered known cond) place first second ∷ []) ≡ lets first + lets second = lets-If (renumbered known cond) place first second in
      let room-first : next + lets first ≤ length ys = omega arith in
      let room-second : (next + lets first) + lets second ≤ length ys = omega arith in
      let more : next ≤ next + lets first = omega arith in
      nil-behind (statement_items (If (renumbered known cond) place first second) (within c ys))
      ∙ items-If (within c ys) (renumbered known cond) place first second
      ∙ (λ i. chosen (within c ys) (same-value b known next xs ys h c cond (truth_formed (kind_of b cond) one.0) i)
      (block-gives actions total ws ms counts sizes depths all taken b known next c xs ys h one.1 (low-front total (slots_set_in taken) (slots_set_in other) low) long room-first i)
      (block-gives actions total ws ms counts sizes depths all other b known (next + lets first) c xs ys (later b known next (next + lets first) xs ys more h) two.1 (low-back total (slots_set_in taken) (slots_set_in other) low) long room-second i))
      ∙ chosen-same c xs ys (value (within c xs) cond) (meant_block ms taken (within c xs)) (meant_block ms other (within c xs))
  gives actions total ws ms counts sizes depths all (Act action args place) b known next c xs ys h f low long room =
      nil-behind (action_items (within c (map (value (within c ys)) (map (renumbered known) args))) (slice_get c.script.actions action))
      ∙ ap (λ vals. action_items (within c vals) (slice_get c.script.actions action)) (same-values b known next xs ys h c args (fit_numbers (slice_get actions action) (map (kind_of b) args) f))
  gives actions total ws ms counts sizes depths all (Call routine args places) b known next c xs ys h f low long room =
      call-gives total ws ms counts sizes depths all routine args places b known next c xs ys h (and_parts _ _ f).0 long room

  block-gives : {m' : _} → (actions : List ℕ) (total : ℕ) (ws : List Writer) (ms : List Meaning) (counts sizes depths : List ℕ) → Telling total ws ms counts sizes depths
      → (row : Row_of-TStmt m') (b : Body) (known : List Numbered) (next : ℕ) (c : Context) (xs ys : List Val) → Holds b known next xs ys
      → block_fits (record { actions = actions; routines = counts }) row b ≡ true → Low total (slots_set_in row) → length xs ≡ total → next + lets (written_block ws row known next) ≤ length ys
      → items (written_block ws row known next) (within c ys) ≡ meant_block ms row (within c xs)
  block-gives actions total ws ms counts sizes depths all end_of-TStmt b known next c xs ys h f low long room = refl
  block-gives actions total ws ms counts sizes depths all (more_of-TStmt s rest) b known next c xs ys h f low long room =
      let parts : (statement_fits (record { actions = actions; routines = counts }) s b ≡ true) × (block_fits (record { actions = actions; routines = counts }) rest (body_behind s b) ≡ true) = and_parts _ _ f in
      let low-s = low-front total (slots_set s) (slots_set_in rest) low in
      joined-give actions total ws ms counts sizes depths all s b known next c xs ys h parts.0 low-s long _ (meant_block ms rest) room
      (gives actions total ws ms counts sizes depths all s b known next c xs ys h parts.0 low-s long)
      (λ xs' ys' holds. block-gives actions total ws ms counts sizes depths all rest (body_behind s b) (known_behind s known next) _ c xs' ys' holds parts.1 (low-back total (slots_set s) (slots_set_in rest) low))

all-gives : (actions : List ℕ) (total : ℕ) (ws : List Writer) (ms : List Meaning) (counts sizes depths : List ℕ) → Telling total ws ms counts sizes depths
    → (ss : List TStmt) (b : Body) (known : List Numbered) (next : ℕ) (c : Context) (xs ys : List Val) → Holds b known next xs ys
    → statements_fit (record { actions = actions; routines = counts }) ss b ≡ true → Low total (slots_of_all ss) → length xs ≡ total → next + lets (written_all ws ss known next) ≤ length ys
    → items (written_all ws ss known next) (within c ys) ≡ meant_all ms ss (within c xs)
all-gives actions total ws ms counts sizes depths all [] b known next c xs ys h f low long room = refl
all-gives actions total ws ms counts sizes depths all (s ∷ rest) b known next c xs ys h f low long room =
    let parts : (statement_fits (record { actions = actions; routines = counts }) s b ≡ true) × (statements_fit (record { actions = actions; routines = counts }) rest (body_behind s b) ≡ true) = and_parts _ _ f in
    let low-s = low-front total (slots_set s) (slots_of_all rest) low in
    joined-give actions total ws ms counts sizes depths all s b known next c xs ys h parts.0 low-s long _ (meant_all ms rest) room
    (gives actions total ws ms counts sizes depths all s b known next c xs ys h parts.0 low-s long)
    (λ xs' ys' holds. all-gives actions total ws ms counts sizes depths all rest (body_behind s b) (known_behind s known next) _ c xs' ys' holds parts.1 (low-back total (slots_set s) (slots_of_all rest) low))

-- ---- routines and `main`

-- what a routine means is what it is written out to
routine-means : (schema : Schema) (aggs : List TAgg) (actions : List ℕ) (total : ℕ) (ws : List Writer) (ms : List Meaning) (counts sizes depths : List ℕ) → Telling total ws ms counts sizes depths
    → (routine : TRoutine) → statements_fit (record { actions = actions; routines = counts }) routine.body (main_body schema aggs (slots_with_numbers routine.params)) ≡ true
    → Low total routine.params → Low total (slots_of_all routine.body) → MeansSame total (writer_of ws routine) (meaning_of ms routine) (length routine.params)
routine-means schema aggs actions total ws ms counts sizes depths all routine f low-params low known first next c xs ys vals many long le room hold =
    let b = main_body schema aggs (slots_with_numbers routine.params) in
    let low-xs : list_all (λ p. nat_lt p (length xs)) routine.params ≡ true = subst (λ n. list_all (λ p. nat_lt p n) routine.params ≡ true) (sym long) low-params in
    all-gives actions total ws ms counts sizes depths all routine.body b (known ++ numbered_from first routine.params) next c (with_params routine.params vals xs) ys
    (record {
      below = λ slot kind found.
          let p = param-found (number_of known slot) first routine.params slot kind found in
          let e : number_of (known ++ numbered_from first routine.params) slot ≡ first + p.param.at = number-join 0 known (numbered_from first routine.params) slot ∙ p.param.is in
          let lt = p.param.within in
          let less : first + p.param.at < next = omega arith in
          subst (λ n. n < next) (sym e) less;
      same = λ slot kind found.
          ap (λ n. slice_index_or ys n unset) (number-join 0 known (numbered_from first routine.params) slot)
          ∙ param-holds routine.params vals xs ys first (number_of known slot) slot kind many low-xs hold found;
    }) f low (long-params routine.params vals xs ∙ long) room

routines-mean : (schema : Schema) (aggs : List TAgg) (actions : List TAction) (total : ℕ) (routines : List TRoutine) (ws : List Writer) (ms : List Meaning) (counts sizes depths : List ℕ)
    → AllMean total ws ms counts → AllSized ws sizes depths → routines_fit schema aggs actions counts routines ≡ true → Low total (slots_of_routines routines)
    → AllMean total (writers_of ws routines) (meanings_of ms routines) (counts ++ map (λ routine. length routine.params) routines)
routines-mean schema aggs actions total [] ws ms counts sizes depths all many f low = subst (λ counts. AllMean total ws ms counts) (sym (nil-behind counts)) all
routines-mean schema aggs actions total (routine ∷ rest) ws ms counts sizes depths all many f low =
    let callees : Callees = record { actions = map (λ action. action.params) actions; routines = counts } in
    let body = main_body schema aggs (slots_with_numbers routine.params) in
    let parts : (nat_le (length routine.params) 16 && statements_fit callees routine.body body ≡ true) × (routines_fit schema aggs actions (counts ++ length routine.params ∷ []) rest ≡ true) = and_parts _ _ f in
    let fits : (nat_le (length routine.params) 16 ≡ true) × (statements_fit callees routine.body body ≡ true) = and_parts _ _ parts.0 in
    let own : Low total (routine.params ++ slots_of_all routine.body) = low-front total (routine.params ++ slots_of_all routine.body) (slots_of_routines rest) low in
    let one : MeansSame total (writer_of ws routine) (meaning_of ms routine) (length routine.params) =
    routine-means schema aggs (map (λ action. action.params) actions) total ws ms counts sizes depths (record { mean = all; size = sized ws sizes depths many }) routine fits.1
    (low-front total routine.params (slots_of_all routine.body) own) (low-back total routine.params (slots_of_all routine.body) own) in
    subst (λ counts. AllMean total (writers_of (ws ++ writer_of ws routine ∷ []) rest) (meanings_of (ms ++ meaning_of ms routine ∷ []) rest) counts)
    (join-assoc counts (length routine.params ∷ []) (map (λ routine. length routine.params) rest))
    (routines-mean schema aggs actions total rest (ws ++ writer_of ws routine ∷ []) (ms ++ meaning_of ms routine ∷ []) (counts ++ length routine.params ∷ [])
    (routines_nodes sizes (routine ∷ [])) (routines_depth depths (routine ∷ []))
    (mean-more total ws ms counts (writer_of ws routine) (meaning_of ms routine) (length routine.params) all one) (all-sized (routine ∷ []) ws sizes depths many) parts.1
    (low-back total (routine.params ++ slots_of_all routine.body) (slots_of_routines rest) low))

length-copies : (n : ℕ) (v : Val) → length (replicate n v) ≡ n
length-copies ℕ.zero v = refl
length-copies (ℕ.suc n) v = ap (λ n. ℕ.suc n) (length-copies n v)

-- a script gives the same items once it is written out
pub keeps-meaning : KeepsMeaning
keeps-meaning s c =
    let form = form_of s in
    let total = s.slots in
    let many = lets (main_of s) in
    let low : Low total (slots_of_routines s.routines ++ slots_of_all s.main) = (and_parts _ _ form.slots).1 in
    let sizes = routines_nodes [] s.routines in
    let depths = routines_depth [] s.routines in
    let mean = routines-mean s.schema s.aggs s.actions total s.routines [] [] [] [] [] tt tt form.routines (low-front total (slots_of_routines s.routines) (slots_of_all s.main) low) in
    let long : length (replicate many unset) ≡ many = length-copies many unset in
    let room : 0 + many ≤ length (replicate many unset) = omega arith in
    all-gives (map (λ action. action.params) s.actions) total (writers_of [] s.routines) (meanings_of [] s.routines) (map (λ routine. length routine.params) s.routines) sizes depths
    (record { mean = mean; size = sized (writers_of [] s.routines) sizes depths (all-sized s.routines [] [] [] tt) })
    s.main (main_body s.schema s.aggs []) [] 0 c (replicate total unset) (replicate many unset)
    (record { below = λ slot kind found. absurd (cc); same = λ slot kind found. absurd (cc) })
    form.main (low-back total (slots_of_routines s.routines) (slots_of_all s.main) low) (length-copies total unset) room
