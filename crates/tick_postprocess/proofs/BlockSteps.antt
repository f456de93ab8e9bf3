-- Blocks of rows in front of `post`: lanes, and the right sides in them.
use Rattle.std.proofs.Common.{◌≡◌, ℕ, ℤ, ◌+◌, ◌<◌, ◌≤◌, ◌≢◌, ◌⊎◌, inl, inr, nat_eq, true, false, List, [], ◌∷◌, length, take, drop, slice_index_or, slice_set, Option, None, refl, ap, sym, subst, ◌∙◌, arith}
use Rattle.std.proofs.lemmas.Bool.{cases_Bool}
use Rattle.std.proofs.lemmas.Bool.Decides.{nat_tests}
use Rattle.std.proofs.lemmas.Grind.{get_or-set_at}
use Rattle.std.proofs.lemmas.List.{at_drop_more, get_or_default, get_or-set_other}
use Rattle.env_table.specs.Table.{numbers_in}
use Rattle.sgl_values.specs.ItemOrder.{fault_cmp}
use Rattle.sgl_values.specs.Least.{least_of, lesser_of}
use Rattle.sgl_values.specs.declared.fault.Fault.{Fault}
use Rattle.sgl_values.specs.declared.fault.Val.{Val}
use Rattle.sgl_values.specs.declared.fault.Val.TheVariants.{N, B, F}
use Rattle.sgl_typed.specs.Aggregate.{simple_value}
use Rattle.sgl_typed.specs.Tick.{assigned, fault_of, faults_of, with_values}
use Rattle.sgl_typed.specs.Value.{Context}
use Rattle.sgl_typed.specs.declared.script.TRule.{TRule}
use Rattle.sgl_lanes.specs.Lanes.{lane_of, Holds}
use Rattle.tick_postprocess.specs.Blocks.{context_in, values_in, AreAssigned, AreKnown, AreNumbers, IsAssigned, IsBlock}
use Rattle.tick_postprocess.specs.declared.block.Block.{Block}
use Rattle.tick_postprocess.specs.declared.row.Ending.{Ending}
use Rattle.sgl_lanes.specs.declared.values.LaneValues.{LaneValues}

-- ---- new values

-- one more lane has the new values of its row
pub assigned_more : (e : Ending) (first lane : ℕ) (cells old new : List (List ℤ)) (faults : List (Option Fault)) (fault : Option Fault) → lane < length faults
    → AreAssigned e first (first + lane) cells old faults → ((k : ℕ) → k ≢ lane → numbers_in new k ≡ numbers_in old k)
    → IsAssigned e.tick.script.now.rules (context_in e first cells lane) (values_in e new lane) fault
    → AreAssigned e first (first + (lane + 1)) cells new (slice_set faults lane fault)
assigned_more e first lane cells old new faults fault place before other here k below = split (cases_Bool (nat_eq k lane))
  where
    held : List ℤ → Option Fault → Type 0
    held vs f = IsAssigned e.tick.script.now.rules (context_in e first cells k) vs f

    split : (nat_eq k lane ≡ true) ⊎ (nat_eq k lane ≡ false) → held (values_in e new k) (slice_index_or (slice_set faults lane fault) k None)
    split (inl same) =
        let at : k ≡ lane = grind (arith, nat_tests, same) in
        subst (held (values_in e new k)) (sym (get_or-set_at faults lane k fault None at place))
        (subst (λ n. IsAssigned e.tick.script.now.rules (context_in e first cells n) (values_in e new n) fault) (sym at) here)
    split (inr distinct) =
        let apart : k ≢ lane = grind (arith, nat_tests, distinct) in
        subst (held (values_in e new k)) (sym (get_or-set_other faults lane k fault None apart))
        (subst (λ vs. held vs (slice_index_or faults k None)) (sym (ap (take e.tick.world.now.width) (other k apart)))
        (before k (omega (arith, below, apart))))

-- ---- blocks

-- a block without rows
pub empty_block : (e : Ending) (b : Block) → b.end ≡ b.first → b.end ≤ length e.tick.world.now.world.rows → IsBlock e b
empty_block e b none inside = record {
  inside = inside;
  few = omega (arith, none);
  cells = λ lane below. absurd (omega (arith, below, none));
  assigned = λ lane below. absurd (omega (arith, below, none));
  quiet = λ clear lane below. absurd (omega (arith, below, none));
  spawning = λ lane below. absurd (omega (arith, below, none));
  removal = λ lane below. absurd (omega (arith, below, none));
}

-- ---- right sides

-- what is known of the right sides before this number is their values
abbrev pub AreKnownTo : ℕ → List LaneValues → ℕ → Context → List TRule → Type 0
AreKnownTo n values lane c rules =
    (at : ℕ) (known : LaneValues) (rule : TRule) → at < n → at < length rules → rule ≡ slice_index_or rules at rule
    → Holds (slice_index_or values at known).kind (lane_of (slice_index_or values at known).numbers lane) (simple_value c rule.value)

-- one more right side
pub known_more : (n lane : ℕ) (values : List LaneValues) (new : LaneValues) (c : Context) (rules : List TRule) (rule : TRule) → n < length values → rule ≡ slice_index_or rules n rule
    → AreKnownTo n values lane c rules → Holds new.kind (lane_of new.numbers lane) (simple_value c rule.value) → AreKnownTo (n + 1) (slice_set values n new) lane c rules
known_more n lane values new c rules rule inside is before here at known other below within that = split (cases_Bool (nat_eq at n))
  where
    held : LaneValues → TRule → Type 0
    held v r = Holds v.kind (lane_of v.numbers lane) (simple_value c r.value)

    split : (nat_eq at n ≡ true) ⊎ (nat_eq at n ≡ false) → held (slice_index_or (slice_set values n new) at known) other
    split (inl same) =
        let is_at : at ≡ n = grind (arith, nat_tests, same) in
        let both : rule ≡ other = is ∙ ap (λ i. slice_index_or rules i rule) (sym is_at) ∙ get_or_default rules at rule other within ∙ sym that in
        subst (λ v. held v other) (sym (get_or-set_at values n at new known is_at inside)) (subst (held new) both here)
    split (inr apart) =
        let is_not : at ≢ n = grind (arith, nat_tests, apart) in
        subst (λ v. held v other) (sym (get_or-set_other values n at new known is_not)) (before at known other (omega (arith, below, is_not)) within that)

-- one more right side that is a number
pub number_known : (lane : ℕ) (values : List LaneValues) (c : Context) (rules : List TRule) (i : ℕ) (rule : TRule) (known : LaneValues) → AreNumbers values (length rules) → AreKnown values lane c rules
    → i < length rules → rule ≡ slice_index_or rules i rule → known ≡ slice_index_or values i known → simple_value c rule.value ≡ N (lane_of known.numbers lane)
number_known lane values c rules i rule known numbers holds lt is at =
    let long = numbers.long in
    let held : Holds known.kind (lane_of known.numbers lane) (simple_value c rule.value) =
    subst (λ (v : LaneValues). Holds v.kind (lane_of v.numbers lane) (simple_value c rule.value)) (sym at) (holds i known rule (omega (arith, lt, long)) lt is) in
    subst (λ kind. Holds kind (lane_of known.numbers lane) (simple_value c rule.value)) (ap (λ (v : LaneValues). v.kind) at ∙ numbers.numbers i known lt) held

-- the assignments from a rule on
pub assigned_next : (c : Context) (rules : List TRule) (i : ℕ) (rule : TRule) → i < length rules → rule ≡ slice_index_or rules i rule
    → assigned c (drop i rules) ≡ (rule.attr, simple_value c rule.value) ∷ assigned c (drop (i + 1) rules)
assigned_next c rules i rule lt is =
    at_drop_more (assigned c) rules i rule lt ∙ ap (λ (r : TRule). (r.attr, simple_value c r.value) ∷ assigned c (drop (i + 1) rules)) (sym is)

-- an assignment before others
pub values_next : (attr : ℕ) (v : Val) (more : List (ℕ × Val)) (values : List ℤ) → with_values ((attr, v) ∷ more) values ≡ with_values ((attr, v) ∷ []) (with_values more values)
values_next attr (N z) more values = refl
values_next attr (B b) more values = refl
values_next attr (F f) more values = refl

-- its fault before those of others
pub least_next : (attr : ℕ) (v : Val) (more : List (ℕ × Val)) → least_of fault_cmp (faults_of ((attr, v) ∷ more)) ≡ lesser_of fault_cmp (least_of fault_cmp (fault_of v)) (least_of fault_cmp (faults_of more))
least_next attr (N z) more = refl
least_next attr (B b) more = refl
least_next attr (F f) more = refl
