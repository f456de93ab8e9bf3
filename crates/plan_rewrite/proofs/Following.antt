-- What a plan gives whose repeated calls were taken out.
use Rattle.std.proofs.Common.{Decides, ◌==◌, ◌≡◌, ℕ, ◌<◌, Bool, true, false, List, [], ◌∷◌, map, length, set, refl, ap, sym, ◌∙◌, arith, Some, None}
use Rattle.std.specs.Prelude.{◌&&◌, ◌||◌, not, if◌then◌else◌}
use Rattle.std.proofs.lemmas.Bool.{and_parts, false≢true, ltb-true}
use Rattle.std.proofs.lemmas.Bool.Decides.{Decides-eqb}
use Rattle.std.proofs.lemmas.List.{length-set, get_or-set_same, get_or-set_other}
use Rattle.sgl_values.specs.declared.fault.Val.{Val}
use Rattle.sgl_typed.proofs.Reading.{list-reads}
use Rattle.sgl_typed.specs.Aggregate.{simple_value}
use Rattle.sgl_typed.specs.Laws.{AgreeOn}
use Rattle.sgl_typed.specs.Reads.{below, reads_only, list_reads_only}
use Rattle.sgl_typed.specs.Value.{Context}
use Rattle.sgl_typed.specs.declared.script.AggUse.{AggUse}
use Rattle.battle_algebra.specs.Fit.{sets_once, is_apart, reads_fit}
use Rattle.battle_algebra.specs.Meaning.{call_value}
use Rattle.battle_algebra.specs.Reads.{sets_only, all_but, adding}
use Rattle.plan_rewrite.specs.Rewrite.{Renaming, slot_for, moved, all_moved, moved_call, Known, slot_of, unified}
use Rattle.battle_algebra.specs.Tree.{Computed, Called, Tree, Nothing, Setting, Parted, Acting, Joined}
use Rattle.battle_algebra.proofs.Bools.{both_true, to_not, by_cases}
use Rattle.plan_rewrite.proofs.Moving.{Follows, reads-moved, list-reads-moved, value-moved, values-moved, call-moved}
use Rattle.battle_algebra.proofs.Slots.{list-reads-from, sets-from, adding-wider, or_added, apart_of, unset, unset_added}
use Rattle.plan_rewrite.proofs.Unifying.{known_way}
use Rattle.battle_algebra.proofs.Walks.{Walk, walk, Laws, as_same, at_slot, called, differs}
use Rattle.battle_algebra.specs.ChosenWays.{Ways}
use Rattle.battle_algebra.proofs.Sameness.{Tells}
use Rattle.std.proofs.lemmas.Option.{none-some, same_Some}

-- ---- the slots that are set above, in the plan and in what is made of it

-- the slot of each known call is set, and the call reads only what is set
abbrev pub knowns_fit : (ℕ → Bool) → List Known → Bool
knowns_fit set [] = true
knowns_fit set (known ∷ more) = (set known.slot && list_reads_only known.call.args set) && knowns_fit set more

-- slots that are set in the plan, and in what is made of it
pub record Env (old new : ℕ → Bool) (rs : List Renaming) (above : List Known) : Type 0 where
  pub into : (i : ℕ) → old i ≡ true → new (slot_for rs i) ≡ true
  pub still : (i : ℕ) → not (old i) ≡ true → slot_for rs i ≡ i
  pub fewer : (i : ℕ) → new i ≡ true → old i ≡ true
  pub knowns : knowns_fit new above ≡ true

knowns-wider : (above : List Known) (p q : ℕ → Bool) → ((i : ℕ) → p i ≡ true → q i ≡ true) → knowns_fit p above ≡ true → knowns_fit q above ≡ true
knowns-wider [] p q law h = refl
knowns-wider (known ∷ more) p q law h =
    let parts : (p known.slot && list_reads_only known.call.args p ≡ true) × (knowns_fit p more ≡ true) = and_parts _ _ h in
    let own : (p known.slot ≡ true) × (list_reads_only known.call.args p ≡ true) = and_parts _ _ parts.0 in
    both_true _ _ (both_true _ _ (law known.slot own.0) (list-reads-from known.call.args p p q (λ i a b. law i a) own.1 own.1)) (knowns-wider more p q law parts.1)

-- a slot is among those and itself
own_added : (slot : ℕ) (set : ℕ → Bool) → adding slot set slot ≡ true
own_added slot set = ap (λ b. b || set slot) ((Decides-eqb slot slot).1 refl)

-- what is not among more is not among these
less_unset : (slot : ℕ) (set : ℕ → Bool) (i : ℕ) → not (adding slot set i) ≡ true → (not (i == slot) ≡ true) × (not (set i) ≡ true)
less_unset slot set i h = step (i == slot) (set i) h
  where
    step : (b x : Bool) → not (b || x) ≡ true → (not b ≡ true) × (not x ≡ true)
    step true x h = absurd (false≢true h)
    step false x h = (refl, h)

-- a slot that is set in both
env_kept : {old new : ℕ → Bool} {rs : List Renaming} {above : List Known} (slot : ℕ) → not (old slot) ≡ true → Env old new rs above → Env (adding slot old) (adding slot new) rs above
env_kept {old} {new} {rs} {above} slot free env = record {
  into = λ i is. step i (i == slot) (Decides-eqb i slot) is;
  still = λ i out. env.still i (less_unset slot old i out).1;
  fewer = λ i is. adding-wider slot new old i (env.fewer i) is;
  knowns = knowns-wider above new (adding slot new) (or_added slot new) env.knowns;
}
  where
    step : (i : ℕ) (b : Bool) → Decides b (i ≡ slot) → (b || old i) ≡ true → adding slot new (slot_for rs i) ≡ true
    step i true d is = ap (adding slot new) (ap (slot_for rs) (d.0 refl) ∙ env.still slot free) ∙ own_added slot new
    step i false d is = or_added slot new (slot_for rs i) (env.into i is)

-- and whose call is known now
env_known : {old new : ℕ → Bool} {rs : List Renaming} {above : List Known} (known : Known) → new known.slot ≡ true → list_reads_only known.call.args new ≡ true → Env old new rs above → Env old new rs (known ∷ above)
env_known known own reads env = record {
  into = env.into;
  still = env.still;
  fewer = env.fewer;
  knowns = both_true _ _ (both_true _ _ own reads) env.knowns;
}

-- a slot that is set in the plan alone, and read from another one
env_moved : {old new : ℕ → Bool} {rs : List Renaming} {above : List Known} (slot other : ℕ) → not (old slot) ≡ true → new other ≡ true → Env old new rs above → Env (adding slot old) new (record { from = slot; to = other } ∷ rs) above
env_moved {old} {new} {rs} {above} slot other free own env = record {
  into = λ i is. step i (i == slot) is;
  still = λ i out. still' i (i == slot) (less_unset slot old i out);
  fewer = λ i is. or_added slot old i (env.fewer i is);
  knowns = env.knowns;
}
  where
    step : (i : ℕ) (b : Bool) → (b || old i) ≡ true → new (if b then other else slot_for rs i) ≡ true
    step i true is = own
    step i false is = env.into i is

    still' : (i : ℕ) (b : Bool) → (not b ≡ true) × (not (old i) ≡ true) → (if b then other else slot_for rs i) ≡ i
    still' i true out = absurd (false≢true out.0)
    still' i false out = env.still i out.1

-- a slot that is set nowhere above is not set in what is made
fresh : {old new : ℕ → Bool} {rs : List Renaming} {above : List Known} → Env old new rs above → (slot : ℕ) → not (old slot) ≡ true → not (new slot) ≡ true
fresh {old} {new} env slot free = by_cases (new slot) (not (new slot) ≡ true) (λ is. absurd (false≢true (ap not (sym (env.fewer slot is)) ∙ free))) (λ out. to_not _ out)

found_set : (same : AggUse → AggUse → Bool) (above : List Known) (call : AggUse) (set : ℕ → Bool) (slot : ℕ) → knowns_fit set above ≡ true → slot_of same call above ≡ Some slot → set slot ≡ true
found_set same [] call set slot fits h = absurd (none-some slot h)
found_set same (known ∷ more) call set slot fits h =
    let parts : (set known.slot && list_reads_only known.call.args set ≡ true) × (knowns_fit set more ≡ true) = and_parts _ _ fits in
    step (same call known.call) h (and_parts _ _ parts.0).0 (found_set same more call set slot parts.1)
  where
    step : (b : Bool) → (if b then Some known.slot else slot_of same call more) ≡ Some slot → set known.slot ≡ true → (slot_of same call more ≡ Some slot → set slot ≡ true) → set slot ≡ true
    step true h own later = ap set (sym (same_Some known.slot slot h)) ∙ own
    step false h own later = later h

-- ---- slots that are read are set above

pub reads_fit-unified : (same : AggUse → AggUse → Bool) (ways : Ways) (t : Tree) (rs : List Renaming) (above : List Known) (old new : ℕ → Bool)
    → Env old new rs above → reads_fit t old ≡ true → sets_only t (unset old) ≡ true → sets_once t ≡ true → reads_fit (unified same ways t rs above) new ≡ true
reads_fit-unified same ways Nothing rs above old new env reads free once = refl
reads_fit-unified same ways (Setting slot (Computed e place) below) rs above old new env reads free once =
    let r : (reads_only e old ≡ true) × (reads_fit below (adding slot old) ≡ true) = and_parts _ _ reads in
    let n : (unset old slot ≡ true) × (sets_only below (unset old) ≡ true) = and_parts _ _ free in
    let o : (sets_only below (all_but slot) ≡ true) × (sets_once below ≡ true) = and_parts _ _ once in
    both_true _ _ (reads-moved rs e old new env.into r.0)
    (reads_fit-unified same ways below rs above (adding slot old) (adding slot new) (env_kept slot n.0 env) r.1
    (sets-from below (unset old) (all_but slot) (unset (adding slot old)) (unset_added slot old) n.1 o.0) o.1)
reads_fit-unified same ways (Setting slot (Called call way) below) rs above old new env reads free once =
    let r : (list_reads_only call.args old ≡ true) × (reads_fit below (adding slot old) ≡ true) = and_parts _ _ reads in
    let n : (unset old slot ≡ true) × (sets_only below (unset old) ≡ true) = and_parts _ _ free in
    let o : (sets_only below (all_but slot) ≡ true) × (sets_once below ≡ true) = and_parts _ _ once in
    let free' : sets_only below (unset (adding slot old)) ≡ true = sets-from below (unset old) (all_but slot) (unset (adding slot old)) (unset_added slot old) n.1 o.0 in
    let own : list_reads_only (all_moved rs call.args) new ≡ true = list-reads-moved rs call.args old new env.into r.0 in
    known_way (slot_of same (moved_call rs call) above) _ _ (λ u. reads_fit u new ≡ true)
    (λ other is. reads_fit-unified same ways below (record { from = slot; to = other } ∷ rs) above (adding slot old) new
    (env_moved slot other n.0 (found_set same above (moved_call rs call) new other env.knowns is) env) r.1 free' o.1)
    (λ none. both_true _ _ own
    (reads_fit-unified same ways below rs (record { slot = slot; call = moved_call rs call } ∷ above) (adding slot old) (adding slot new)
    (env_known (record { slot = slot; call = moved_call rs call }) (own_added slot new)
    (list-reads-from (all_moved rs call.args) new new (adding slot new) (λ i a b. or_added slot new i a) own own) (env_kept slot n.0 env)) r.1 free' o.1))
reads_fit-unified same ways (Parted cond place taken other) rs above old new env reads free once =
    let r : (reads_only cond old ≡ true) × (reads_fit taken old && reads_fit other old ≡ true) = and_parts _ _ reads in
    let r' : (reads_fit taken old ≡ true) × (reads_fit other old ≡ true) = and_parts _ _ r.1 in
    let n : (sets_only taken (unset old) ≡ true) × (sets_only other (unset old) ≡ true) = and_parts _ _ free in
    let o : (is_apart taken other ≡ true) × (sets_once taken && sets_once other ≡ true) = and_parts _ _ once in
    let o' : (sets_once taken ≡ true) × (sets_once other ≡ true) = and_parts _ _ o.1 in
    both_true _ _ (reads-moved rs cond old new env.into r.0)
    (both_true _ _ (reads_fit-unified same ways taken rs above old new env r'.0 n.0 o'.0) (reads_fit-unified same ways other rs above old new env r'.1 n.1 o'.1))
reads_fit-unified same ways (Acting act way) rs above old new env reads free once = list-reads-moved rs act.args old new env.into reads
reads_fit-unified same ways (Joined left right) rs above old new env reads free once =
    let r : (reads_fit left old ≡ true) × (reads_fit right old ≡ true) = and_parts _ _ reads in
    let n : (sets_only left (unset old) ≡ true) × (sets_only right (unset old) ≡ true) = and_parts _ _ free in
    let o : (is_apart left right ≡ true) × (sets_once left && sets_once right ≡ true) = and_parts _ _ once in
    let o' : (sets_once left ≡ true) × (sets_once right ≡ true) = and_parts _ _ o.1 in
    both_true _ _ (reads_fit-unified same ways left rs above old new env r.0 n.0 o'.0) (reads_fit-unified same ways right rs above old new env r.1 n.1 o'.1)

-- ---- what it gives

-- each known slot has the value of its call
abbrev pub Valid : Context → List Val → List Known → Type 0
Valid c ys [] = Unit {0}
Valid c ys (known ∷ more) = (at_slot ys known.slot ≡ call_value (record c { slots = ys }) known.call) × Valid c ys more

found_valid : (same : AggUse → AggUse → Bool) → Tells same → (above : List Known) (call : AggUse) (c : Context) (ys : List Val) (slot : ℕ) → Valid c ys above → slot_of same call above ≡ Some slot
    → at_slot ys slot ≡ call_value (record c { slots = ys }) call
found_valid same tells [] call c ys slot valid h = absurd (none-some slot h)
found_valid same tells (known ∷ more) call c ys slot valid h = step (same call known.call) refl h (found_valid same tells more call c ys slot valid.1)
  where
    step : (b : Bool) → same call known.call ≡ b → (if b then Some known.slot else slot_of same call more) ≡ Some slot
        → (slot_of same call more ≡ Some slot → at_slot ys slot ≡ call_value (record c { slots = ys }) call) → at_slot ys slot ≡ call_value (record c { slots = ys }) call
    step true is h later =
        let equal : (call.agg ≡ known.call.agg) × (call.args ≡ known.call.args) = tells.equal call known.call is in
        ap (at_slot ys) (sym (same_Some known.slot slot h)) ∙ valid.0
        ∙ (λ i. called c (sym equal.0 i) (map (simple_value (record c { slots = ys })) (sym equal.1 i)))
    step false is h later = later h

agree_fresh : (set' : ℕ → Bool) (slot : ℕ) (ys : List Val) (v : Val) → not (set' slot) ≡ true → AgreeOn set' (set ys slot v) ys
agree_fresh set' slot ys v free = record {
  agree = λ i is. get_or-set_other ys slot i v _ (λ e. differs slot i (apart_of set' slot i free is) (sym e));
}

valid_set : (above : List Known) (set' : ℕ → Bool) (slot : ℕ) (c : Context) (ys : List Val) (v : Val) → not (set' slot) ≡ true → knowns_fit set' above ≡ true → Valid c ys above → Valid c (set ys slot v) above
valid_set [] set' slot c ys v free fits valid = valid
valid_set (known ∷ more) set' slot c ys v free fits valid =
    let parts : (set' known.slot && list_reads_only known.call.args set' ≡ true) × (knowns_fit set' more ≡ true) = and_parts _ _ fits in
    let own : (set' known.slot ≡ true) × (list_reads_only known.call.args set' ≡ true) = and_parts _ _ parts.0 in
    let agree : AgreeOn set' (set ys slot v) ys = agree_fresh set' slot ys v free in (
      agree.agree known.slot own.0 ∙ valid.0 ∙ ap (called c known.call.agg) (sym (list-reads known.call.args set' c (set ys slot v) ys own.1 agree)),
      valid_set more set' slot c ys v free parts.1 valid.1,
    )

-- a slot that is set to the same value in both
follows_set : (old new : ℕ → Bool) (rs : List Renaming) (slot : ℕ) (xs ys : List Val) (v u : Val) → slot < length xs → slot < length ys → u ≡ v
    → slot_for rs slot ≡ slot → not (new slot) ≡ true → ((i : ℕ) → old i ≡ true → new (slot_for rs i) ≡ true)
    → Follows old (slot_for rs) xs ys → Follows (adding slot old) (slot_for rs) (set xs slot v) (set ys slot u)
follows_set old new rs slot xs ys v u inside inside' same own free into s = record { follow = λ i is. step i (i == slot) (Decides-eqb i slot) is }
  where
    step : (i : ℕ) (b : Bool) → Decides b (i ≡ slot) → (b || old i) ≡ true → at_slot (set ys slot u) (slot_for rs i) ≡ at_slot (set xs slot v) i
    step i true d is =
        ap (at_slot (set ys slot u)) (ap (slot_for rs) (d.0 refl) ∙ own) ∙ get_or-set_same ys slot u _ inside' ∙ same
        ∙ sym (get_or-set_same xs slot v _ inside) ∙ ap (at_slot (set xs slot v)) (sym (d.0 refl))
    step i false d is =
        get_or-set_other ys slot (slot_for rs i) u _ (λ e. differs slot (slot_for rs i) (apart_of new slot (slot_for rs i) free (into i is)) (sym e))
        ∙ s.follow i is ∙ sym (get_or-set_other xs slot i v _ (λ e. false≢true (d.1 e)))

-- a slot that is set in the plan alone, to the value of the other one
follows_moved : (old : ℕ → Bool) (rs : List Renaming) (slot other : ℕ) (xs ys : List Val) (v : Val) → slot < length xs → at_slot ys other ≡ v
    → Follows old (slot_for rs) xs ys → Follows (adding slot old) (slot_for (record { from = slot; to = other } ∷ rs)) (set xs slot v) ys
follows_moved old rs slot other xs ys v inside same s = record { follow = λ i is. step i (i == slot) (Decides-eqb i slot) is }
  where
    step : (i : ℕ) (b : Bool) → Decides b (i ≡ slot) → (b || old i) ≡ true → at_slot ys (if b then other else slot_for rs i) ≡ at_slot (set xs slot v) i
    step i true d is = same ∙ sym (get_or-set_same xs slot v _ inside) ∙ ap (at_slot (set xs slot v)) (sym (d.0 refl))
    step i false d is = s.follow i is ∙ sym (get_or-set_other xs slot i v _ (λ e. false≢true (d.1 e)))

pub walk-unified : (w : Walk) (laws : Laws w) (same : AggUse → AggUse → Bool) → Tells same → (ways : Ways) (t : Tree) (rs : List Renaming) (above : List Known) (old new : ℕ → Bool) (slots : ℕ) (c : Context) (xs ys : List Val)
    → Env old new rs above → reads_fit t old ≡ true → sets_only t (unset old) ≡ true → sets_once t ≡ true → sets_only t (below slots) ≡ true
    → length xs ≡ slots → length ys ≡ slots → Follows old (slot_for rs) xs ys → Valid c ys above
    → w.Le (walk w (unified same ways t rs above) (record c { slots = ys })) (walk w t (record c { slots = xs }))
walk-unified w laws same tells ways Nothing rs above old new slots c xs ys env reads free once inside long long' fol val = laws.same _
walk-unified w laws same tells ways (Setting slot (Computed e place) below') rs above old new slots c xs ys env reads free once inside long long' fol val =
    let r : (reads_only e old ≡ true) × (reads_fit below' (adding slot old) ≡ true) = and_parts _ _ reads in
    let n : (unset old slot ≡ true) × (sets_only below' (unset old) ≡ true) = and_parts _ _ free in
    let o : (sets_only below' (all_but slot) ≡ true) × (sets_once below' ≡ true) = and_parts _ _ once in
    let b : (below slots slot ≡ true) × (sets_only below' (below slots) ≡ true) = and_parts _ _ inside in
    let lt : slot < slots = ltb-true _ _ b.0 in
    laws.sets_le None _ _
    (walk-unified w laws same tells ways below' rs above (adding slot old) (adding slot new) slots c (set xs slot (simple_value (record c { slots = xs }) e)) (set ys slot (simple_value (record c { slots = ys }) (moved rs e)))
    (env_kept slot n.0 env) r.1 (sets-from below' (unset old) (all_but slot) (unset (adding slot old)) (unset_added slot old) n.1 o.0) o.1 b.1
    (length-set xs slot _ ∙ long) (length-set ys slot _ ∙ long')
    (follows_set old new rs slot xs ys _ _ (omega (arith, long, lt)) (omega (arith, long', lt)) (value-moved rs e old c xs ys r.0 fol) (env.still slot n.0) (fresh env slot n.0) env.into fol)
    (valid_set above new slot c ys _ (fresh env slot n.0) env.knowns val))
walk-unified w laws same tells ways (Setting slot (Called call way) below') rs above old new slots c xs ys env reads free once inside long long' fol val =
    let r : (list_reads_only call.args old ≡ true) × (reads_fit below' (adding slot old) ≡ true) = and_parts _ _ reads in
    let n : (unset old slot ≡ true) × (sets_only below' (unset old) ≡ true) = and_parts _ _ free in
    let o : (sets_only below' (all_but slot) ≡ true) × (sets_once below' ≡ true) = and_parts _ _ once in
    let b : (below slots slot ≡ true) × (sets_only below' (below slots) ≡ true) = and_parts _ _ inside in
    let lt : slot < slots = ltb-true _ _ b.0 in
    let free' : sets_only below' (unset (adding slot old)) ≡ true = sets-from below' (unset old) (all_but slot) (unset (adding slot old)) (unset_added slot old) n.1 o.0 in
    let made : AggUse = moved_call rs call in
    let v : Val = call_value (record c { slots = xs }) call in
    let u : Val = call_value (record c { slots = ys }) made in
    let same_value : u ≡ v = call-moved rs call old c xs ys r.0 fol in
    let own : list_reads_only made.args new ≡ true = list-reads-moved rs call.args old new env.into r.0 in
    let out : not (new slot) ≡ true = fresh env slot n.0 in
    let agree : AgreeOn new (set ys slot u) ys = agree_fresh new slot ys u out in
    known_way (slot_of same made above) _ _ (λ t'. w.Le (walk w t' (record c { slots = ys })) (walk w (Setting slot (Called call way) below') (record c { slots = xs })))
    (λ other is. laws.onward _ _ _
    (walk-unified w laws same tells ways below' (record { from = slot; to = other } ∷ rs) above (adding slot old) new slots c (set xs slot v) ys
    (env_moved slot other n.0 (found_set same above made new other env.knowns is) env) r.1 free' o.1 b.1
    (length-set xs slot v ∙ long) long'
    (follows_moved old rs slot other xs ys v (omega (arith, long, lt)) (found_valid same tells above made c ys other val is ∙ same_value) fol) val)
    (laws.more (Some call.agg) _))
    (λ none. laws.sets_le (Some call.agg) _ _
    (walk-unified w laws same tells ways below' rs (record { slot = slot; call = made } ∷ above) (adding slot old) (adding slot new) slots c (set xs slot v) (set ys slot u)
    (env_known (record { slot = slot; call = made }) (own_added slot new) (list-reads-from made.args new new (adding slot new) (λ i x y. or_added slot new i x) own own) (env_kept slot n.0 env))
    r.1 free' o.1 b.1 (length-set xs slot v ∙ long) (length-set ys slot u ∙ long')
    (follows_set old new rs slot xs ys v u (omega (arith, long, lt)) (omega (arith, long', lt)) same_value (env.still slot n.0) out env.into fol)
    (get_or-set_same ys slot u _ (omega (arith, long', lt)) ∙ ap (called c made.agg) (sym (list-reads made.args new c (set ys slot u) ys own agree)), valid_set above new slot c ys u out env.knowns val)))
walk-unified w laws same tells ways (Parted cond place taken other) rs above old new slots c xs ys env reads free once inside long long' fol val =
    let r : (reads_only cond old ≡ true) × (reads_fit taken old && reads_fit other old ≡ true) = and_parts _ _ reads in
    let r' : (reads_fit taken old ≡ true) × (reads_fit other old ≡ true) = and_parts _ _ r.1 in
    let n : (sets_only taken (unset old) ≡ true) × (sets_only other (unset old) ≡ true) = and_parts _ _ free in
    let o : (is_apart taken other ≡ true) × (sets_once taken && sets_once other ≡ true) = and_parts _ _ once in
    let o' : (sets_once taken ≡ true) × (sets_once other ≡ true) = and_parts _ _ o.1 in
    let b : (sets_only taken (below slots) ≡ true) × (sets_only other (below slots) ≡ true) = and_parts _ _ inside in
    laws.onward _ _ _
    (as_same laws _ _
    (ap (λ v. w.picks c.unit.key v (walk w (unified same ways taken rs above) (record c { slots = ys })) (walk w (unified same ways other rs above) (record c { slots = ys }))) (value-moved rs cond old c xs ys r.0 fol)))
    (laws.picks_le c.unit.key (simple_value (record c { slots = xs }) cond) _ _ _ _
    (walk-unified w laws same tells ways taken rs above old new slots c xs ys env r'.0 n.0 o'.0 b.0 long long' fol val)
    (walk-unified w laws same tells ways other rs above old new slots c xs ys env r'.1 n.1 o'.1 b.1 long long' fol val))
walk-unified w laws same tells ways (Acting act way) rs above old new slots c xs ys env reads free once inside long long' fol val =
    as_same laws _ _ (ap (λ args. w.acts act.action act.clause (record c { slots = args })) (values-moved rs act.args old c xs ys reads fol))
walk-unified w laws same tells ways (Joined left right) rs above old new slots c xs ys env reads free once inside long long' fol val =
    let r : (reads_fit left old ≡ true) × (reads_fit right old ≡ true) = and_parts _ _ reads in
    let n : (sets_only left (unset old) ≡ true) × (sets_only right (unset old) ≡ true) = and_parts _ _ free in
    let o : (is_apart left right ≡ true) × (sets_once left && sets_once right ≡ true) = and_parts _ _ once in
    let o' : (sets_once left ≡ true) × (sets_once right ≡ true) = and_parts _ _ o.1 in
    let b : (sets_only left (below slots) ≡ true) × (sets_only right (below slots) ≡ true) = and_parts _ _ inside in
    laws.both_le _ _ _ _
    (walk-unified w laws same tells ways left rs above old new slots c xs ys env r.0 n.0 o'.0 b.0 long long' fol val)
    (walk-unified w laws same tells ways right rs above old new slots c xs ys env r.1 n.1 o'.1 b.1 long long' fol val)
