-- Calls that are made above are taken out.
use Rattle.std.proofs.Common.{◌≡◌, ℕ, ◌+◌, ◌≤◌, Bool, true, false, List, [], ◌∷◌, refl, ap, ◌∙◌, arith, Option, Some, None}
use Rattle.std.specs.Prelude.{◌&&◌, not, if◌then◌else◌}
use Rattle.std.proofs.lemmas.Bool.{and_parts, false≢true}
use Rattle.sgl_values.specs.declared.place.Place.{Place}
use Rattle.sgl_typed.specs.Reads.{below}
use Rattle.sgl_typed.specs.declared.script.AggUse.{AggUse}
use Rattle.sgl_typed.specs.declared.script.TExpr.{TExpr}
use Rattle.battle_algebra.specs.Fit.{sets_once, is_apart}
use Rattle.battle_algebra.specs.Normal.{calls_only, none_again, calling, source_calls}
use Rattle.battle_algebra.specs.Reads.{sets_only, setting, all_but}
use Rattle.plan_rewrite.specs.Rewrite.{Renaming, moved, moved_call, moved_act, Known, slot_of, or_known, unified, with_ways}
use Rattle.battle_algebra.specs.Tree.{Computed, Called, Tree, Nothing, Setting, Parted, Acting, Joined, Parts, each, size, Source}
use Rattle.battle_algebra.specs.declared.plan.EffectUse.{EffectUse}
use Rattle.battle_algebra.specs.declared.plan.EffectWay.{EffectWay}
use Rattle.battle_algebra.specs.declared.plan.Way.{Way}
use Rattle.battle_algebra.proofs.Bools.{both_true}
use Rattle.battle_algebra.proofs.Slots.{sets-wider}
use Rattle.battle_algebra.specs.ChosenWays.{Ways}
use Rattle.battle_algebra.proofs.Passing.{each-from}

-- what is made of a call that is known above or not
pub known_way : (o : Option ℕ) (known : ℕ → Tree) (t : Tree) (P : Tree → Type 0) → ((slot : ℕ) → o ≡ Some slot → P (known slot)) → (o ≡ None → P t) → P (or_known o known t)
known_way None known t P first second = second refl
known_way (Some slot) known t P first second = first slot refl

abbrev pub is_absent : Option ℕ → Bool
is_absent None = true
is_absent (Some slot) = false

-- ---- no more nodes, and no more slots that are set

pub size-unified : (same : AggUse → AggUse → Bool) (ways : Ways) (t : Tree) (rs : List Renaming) (above : List Known) → size (unified same ways t rs above) ≤ size t
size-unified same ways Nothing rs above = omega arith
size-unified same ways (Setting slot (Computed e place) below) rs above = omega (arith, size-unified same ways below rs above)
size-unified same ways (Setting slot (Called call way) below) rs above =
    known_way (slot_of same (moved_call rs call) above) _ _ (λ u. size u ≤ 1 + size below)
    (λ other is. omega (arith, size-unified same ways below (record { from = slot; to = other } ∷ rs) above))
    (λ none. omega (arith, size-unified same ways below rs (record { slot = slot; call = moved_call rs call } ∷ above)))
size-unified same ways (Parted cond place taken other) rs above = omega (arith, size-unified same ways taken rs above, size-unified same ways other rs above)
size-unified same ways (Acting act way) rs above = omega arith
size-unified same ways (Joined left right) rs above = omega (arith, size-unified same ways left rs above, size-unified same ways right rs above)

-- what each node passes that does not look at the slots that are read
pub record Movable (p q : Parts) (ways : Ways) : Type 0 where
  pub computed : (rs : List Renaming) (slot : ℕ) (e : TExpr) (place : Place) → p.sets slot (Computed e place) ≡ true → q.sets slot (Computed (moved rs e) place) ≡ true
  pub called : (rs : List Renaming) (slot : ℕ) (call : AggUse) (way : Way) → p.sets slot (Called call way) ≡ true
      → q.sets slot (Called (moved_call rs call) (ways.of_call (moved_call rs call))) ≡ true
  pub splits : (rs : List Renaming) (cond : TExpr) → p.splits cond ≡ true → q.splits (moved rs cond) ≡ true
  pub acts : (rs : List Renaming) (act : EffectUse) (way : EffectWay) → p.acts act way ≡ true → q.acts (moved_act rs act) (ways.of_act (moved_act rs act)) ≡ true

pub each-unified : (same : AggUse → AggUse → Bool) (ways : Ways) (p q : Parts) → Movable p q ways → (t : Tree) (rs : List Renaming) (above : List Known) → each p t ≡ true → each q (unified same ways t rs above) ≡ true
each-unified same ways p q law Nothing rs above h = refl
each-unified same ways p q law (Setting slot (Computed e place) below) rs above h =
    let parts : (p.sets slot (Computed e place) ≡ true) × (each p below ≡ true) = and_parts _ _ h in
    both_true _ _ (law.computed rs slot e place parts.0) (each-unified same ways p q law below rs above parts.1)
each-unified same ways p q law (Setting slot (Called call way) below) rs above h =
    let parts : (p.sets slot (Called call way) ≡ true) × (each p below ≡ true) = and_parts _ _ h in
    known_way (slot_of same (moved_call rs call) above) _ _ (λ u. each q u ≡ true)
    (λ other is. each-unified same ways p q law below (record { from = slot; to = other } ∷ rs) above parts.1)
    (λ none. both_true _ _ (law.called rs slot call way parts.0) (each-unified same ways p q law below rs (record { slot = slot; call = moved_call rs call } ∷ above) parts.1))
each-unified same ways p q law (Parted cond place taken other) rs above h =
    let parts : (p.splits cond ≡ true) × (each p taken && each p other ≡ true) = and_parts _ _ h in
    let parts' : (each p taken ≡ true) × (each p other ≡ true) = and_parts _ _ parts.1 in
    both_true _ _ (law.splits rs cond parts.0) (both_true _ _ (each-unified same ways p q law taken rs above parts'.0) (each-unified same ways p q law other rs above parts'.1))
each-unified same ways p q law (Acting act way) rs above h = law.acts rs act way h
each-unified same ways p q law (Joined left right) rs above h =
    let parts : (each p left ≡ true) × (each p right ≡ true) = and_parts _ _ h in
    both_true _ _ (each-unified same ways p q law left rs above parts.0) (each-unified same ways p q law right rs above parts.1)

movable_sets : (p : ℕ → Bool) (ways : Ways) → Movable (setting p) (setting p) ways
movable_sets p ways = record {
  computed = λ rs slot e place h. h;
  called = λ rs slot call way h. h;
  splits = λ rs cond h. h;
  acts = λ rs act way h. h;
}

pub sets-unified : (same : AggUse → AggUse → Bool) (ways : Ways) (p : ℕ → Bool) (t : Tree) (rs : List Renaming) (above : List Known) → sets_only t p ≡ true → sets_only (unified same ways t rs above) p ≡ true
sets-unified same ways p t rs above h = each-unified same ways (setting p) (setting p) (movable_sets p ways) t rs above h

apart-unified : (same : AggUse → AggUse → Bool) (ways : Ways) (t u : Tree) (rs : List Renaming) (above : List Known) → is_apart t u ≡ true → is_apart (unified same ways t rs above) (unified same ways u rs above) ≡ true
apart-unified same ways t u rs above h =
    sets-unified same ways (λ s. sets_only (unified same ways u rs above) (all_but s)) t rs above
    (sets-wider t (λ s. sets_only u (all_but s)) (λ s. sets_only (unified same ways u rs above) (all_but s)) (λ i is. sets-unified same ways (all_but i) u rs above is) h)

pub sets_once-unified : (same : AggUse → AggUse → Bool) (ways : Ways) (t : Tree) (rs : List Renaming) (above : List Known) → sets_once t ≡ true → sets_once (unified same ways t rs above) ≡ true
sets_once-unified same ways Nothing rs above once = refl
sets_once-unified same ways (Setting slot (Computed e place) below) rs above once =
    let o : (sets_only below (all_but slot) ≡ true) × (sets_once below ≡ true) = and_parts _ _ once in
    both_true _ _ (sets-unified same ways (all_but slot) below rs above o.0) (sets_once-unified same ways below rs above o.1)
sets_once-unified same ways (Setting slot (Called call way) below) rs above once =
    let o : (sets_only below (all_but slot) ≡ true) × (sets_once below ≡ true) = and_parts _ _ once in
    let more : List Known = record { slot = slot; call = moved_call rs call } ∷ above in
    known_way (slot_of same (moved_call rs call) above) _ _ (λ u. sets_once u ≡ true)
    (λ other is. sets_once-unified same ways below (record { from = slot; to = other } ∷ rs) above o.1)
    (λ none. both_true _ _ (sets-unified same ways (all_but slot) below rs more o.0) (sets_once-unified same ways below rs more o.1))
sets_once-unified same ways (Parted cond place taken other) rs above once =
    let o : (is_apart taken other ≡ true) × (sets_once taken && sets_once other ≡ true) = and_parts _ _ once in
    let o' : (sets_once taken ≡ true) × (sets_once other ≡ true) = and_parts _ _ o.1 in
    both_true _ _ (apart-unified same ways taken other rs above o.0) (both_true _ _ (sets_once-unified same ways taken rs above o'.0) (sets_once-unified same ways other rs above o'.1))
sets_once-unified same ways (Acting act way) rs above once = refl
sets_once-unified same ways (Joined left right) rs above once =
    let o : (is_apart left right ≡ true) × (sets_once left && sets_once right ≡ true) = and_parts _ _ once in
    let o' : (sets_once left ≡ true) × (sets_once right ≡ true) = and_parts _ _ o.1 in
    both_true _ _ (apart-unified same ways left right rs above o.0) (both_true _ _ (sets_once-unified same ways left rs above o'.0) (sets_once-unified same ways right rs above o'.1))

-- ---- no call is made again

calls-both : (t : Tree) (p r q : AggUse → Bool) → ((call : AggUse) → p call ≡ true → r call ≡ true → q call ≡ true) → calls_only t p ≡ true → calls_only t r ≡ true → calls_only t q ≡ true
calls-both t p r q law h k =
    each-from t (calling p) (calling r) (calling q)
    (record { sets = λ slot source. source_both source; splits = λ cond x y. refl; acts = λ act way x y. refl }) h k
  where
    source_both : (source : Source) → source_calls source p ≡ true → source_calls source r ≡ true → source_calls source q ≡ true
    source_both (Computed e place) x y = refl
    source_both (Called call way) x y = law call x y

calls-wider : (t : Tree) (p q : AggUse → Bool) → ((call : AggUse) → p call ≡ true → q call ≡ true) → calls_only t p ≡ true → calls_only t q ≡ true
calls-wider t p q law h = calls-both t p p q (λ call x y. law call x) h h

-- a call is none of those above
abbrev pub is_new : (AggUse → AggUse → Bool) → List Known → AggUse → Bool
is_new same above call = is_absent (slot_of same call above)

new_parts : (b : Bool) (slot : ℕ) (o : Option ℕ) → is_absent (if b then Some slot else o) ≡ true → (not b ≡ true) × (is_absent o ≡ true)
new_parts true slot o h = absurd (false≢true h)
new_parts false slot o h = (refl, h)

new_of : (b : Bool) (slot : ℕ) (o : Option ℕ) → not b ≡ true → is_absent o ≡ true → is_absent (if b then Some slot else o) ≡ true
new_of true slot o h k = absurd (false≢true h)
new_of false slot o h k = k

pub calls-unified : (same : AggUse → AggUse → Bool) (ways : Ways) (t : Tree) (rs : List Renaming) (above : List Known) → calls_only (unified same ways t rs above) (is_new same above) ≡ true
calls-unified same ways Nothing rs above = refl
calls-unified same ways (Setting slot (Computed e place) below) rs above = calls-unified same ways below rs above
calls-unified same ways (Setting slot (Called call way) below) rs above =
    let more : List Known = record { slot = slot; call = moved_call rs call } ∷ above in
    known_way (slot_of same (moved_call rs call) above) _ _ (λ u. calls_only u (is_new same above) ≡ true)
    (λ other is. calls-unified same ways below (record { from = slot; to = other } ∷ rs) above)
    (λ none. both_true _ _ (ap is_absent none)
    (calls-wider (unified same ways below rs more) (is_new same more) (is_new same above)
    (λ c new. (new_parts (same c (moved_call rs call)) slot (slot_of same c above) new).1) (calls-unified same ways below rs more)))
calls-unified same ways (Parted cond place taken other) rs above = both_true _ _ (calls-unified same ways taken rs above) (calls-unified same ways other rs above)
calls-unified same ways (Acting act way) rs above = refl
calls-unified same ways (Joined left right) rs above = both_true _ _ (calls-unified same ways left rs above) (calls-unified same ways right rs above)

pub none_again-unified : (same : AggUse → AggUse → Bool) (ways : Ways) (t : Tree) (rs : List Renaming) (above : List Known) → none_again same (unified same ways t rs above) ≡ true
none_again-unified same ways Nothing rs above = refl
none_again-unified same ways (Setting slot (Computed e place) below) rs above = none_again-unified same ways below rs above
none_again-unified same ways (Setting slot (Called call way) below) rs above =
    let more : List Known = record { slot = slot; call = moved_call rs call } ∷ above in
    known_way (slot_of same (moved_call rs call) above) _ _ (λ u. none_again same u ≡ true)
    (λ other is. none_again-unified same ways below (record { from = slot; to = other } ∷ rs) above)
    (λ none. both_true _ _
    (calls-wider (unified same ways below rs more) (is_new same more) (λ c. not (same c (moved_call rs call)))
    (λ c new. (new_parts (same c (moved_call rs call)) slot (slot_of same c above) new).0) (calls-unified same ways below rs more))
    (none_again-unified same ways below rs more))
none_again-unified same ways (Parted cond place taken other) rs above = both_true _ _ (none_again-unified same ways taken rs above) (none_again-unified same ways other rs above)
none_again-unified same ways (Acting act way) rs above = refl
none_again-unified same ways (Joined left right) rs above = both_true _ _ (none_again-unified same ways left rs above) (none_again-unified same ways right rs above)

-- ---- a plan without such calls stays as it is, with its ways set

absent_is : (o : Option ℕ) → is_absent o ≡ true → o ≡ None
absent_is None h = refl
absent_is (Some slot) h = absurd (false≢true h)

pub unified-same : (same : AggUse → AggUse → Bool) (ways : Ways) (t : Tree) (above : List Known) → none_again same (with_ways ways t) ≡ true → calls_only (with_ways ways t) (is_new same above) ≡ true
    → unified same ways t [] above ≡ with_ways ways t
unified-same same ways Nothing above none new = refl
unified-same same ways (Setting slot (Computed e place) below) above none new = ap (Setting slot (Computed e place)) (unified-same same ways below above none new)
unified-same same ways (Setting slot (Called call way) below) above none new =
    let n : (calls_only (with_ways ways below) (λ c. not (same c call)) ≡ true) × (none_again same (with_ways ways below) ≡ true) = and_parts _ _ none in
    let w : (is_new same above call ≡ true) × (calls_only (with_ways ways below) (is_new same above) ≡ true) = and_parts _ _ new in
    let more : List Known = record { slot = slot; call = call } ∷ above in
    ap (λ o. or_known o (λ other. unified same ways below (record { from = slot; to = other } ∷ []) above)
    (Setting slot (Called call (ways.of_call call)) (unified same ways below [] more))) (absent_is _ w.0)
    ∙ ap (Setting slot (Called call (ways.of_call call)))
    (unified-same same ways below more n.1
    (calls-both (with_ways ways below) (λ c. not (same c call)) (is_new same above) (is_new same more)
    (λ c apart absent. new_of (same c call) slot (slot_of same c above) apart absent) n.0 w.1))
unified-same same ways (Parted cond place taken other) above none new =
    let n : (none_again same (with_ways ways taken) ≡ true) × (none_again same (with_ways ways other) ≡ true) = and_parts _ _ none in
    let w : (calls_only (with_ways ways taken) (is_new same above) ≡ true) × (calls_only (with_ways ways other) (is_new same above) ≡ true) = and_parts _ _ new in
    λ i. Parted cond place (unified-same same ways taken above n.0 w.0 i) (unified-same same ways other above n.1 w.1 i)
unified-same same ways (Acting act way) above none new = refl
unified-same same ways (Joined left right) above none new =
    let n : (none_again same (with_ways ways left) ≡ true) × (none_again same (with_ways ways right) ≡ true) = and_parts _ _ none in
    let w : (calls_only (with_ways ways left) (is_new same above) ≡ true) × (calls_only (with_ways ways right) (is_new same above) ≡ true) = and_parts _ _ new in
    λ i. Joined (unified-same same ways left above n.0 w.0 i) (unified-same same ways right above n.1 w.1 i)

-- where nothing is above, every call is new
pub all_new : (same : AggUse → AggUse → Bool) (t : Tree) → calls_only t (is_new same []) ≡ true
all_new same Nothing = refl
all_new same (Setting slot (Computed e place) below) = all_new same below
all_new same (Setting slot (Called call way) below) = all_new same below
all_new same (Parted cond place taken other) = both_true _ _ (all_new same taken) (all_new same other)
all_new same (Acting act way) = refl
all_new same (Joined left right) = both_true _ _ (all_new same left) (all_new same right)
