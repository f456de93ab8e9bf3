-- The frames that reach a node are the rows of its set.
use Rattle.std.proofs.Common.{◌≡◌, ◌≢◌, ℕ, zero, suc, ◌+◌, ◌<◌, ◌≤◌, ◌==◌, nat_lt, cond, Bool, true, false, List, [], ◌∷◌, ◌++◌, length, drop, refl, ap, sym, ◌∙◌, subst, arith, Decides}
use Rattle.std.specs.Int.{bit_at}
use Rattle.std.specs.List.{range_with_len}
use Rattle.std.specs.Prelude.{◌^◌, map, count_ones, slice_index_or, slice_set}
use Rattle.std.specs.Simd.Lanes.{mask_l}
use Rattle.std.proofs.lemmas.List.FromFn.{get_or-map-range_with_len, length-range_with_len}
use Rattle.std.proofs.lemmas.List.Sums.{count_by-le-length, length-filter}
use Rattle.std.proofs.lemmas.Nat.Bits.{bit_at-lt, same_from_bits_below}
use Rattle.std.proofs.lemmas.Simd.{bit_mask_l, mask_l-lt, ones-mask_l}
use Rattle.std.proofs.lemmas.Bool.{false≢true}
use Rattle.std.proofs.lemmas.Bool.Decides.{Decides-eqb, nat_tests}
use Rattle.std.proofs.lemmas.List.{length-map, length-drop, get_or-set_same, get_or-set_other, get_or_past}
use Rattle.sgl_values.specs.declared.item.Item.{Item}
use Rattle.battle_algebra.specs.Meaning.{Frame, reached}
use Rattle.battle_algebra.specs.Tree.{Tree, Nothing, Setting, Parted, Acting, Joined}
use Rattle.plan_executor.specs.Numbered.{numbered_all}
use Rattle.battle_algebra.specs.declared.plan.Node.{Node}
use Rattle.task_scratch.specs.Job.{capped}
use Rattle.task_scratch.specs.Scratch.{reach_at}
use Rattle.plan_executor.specs.Counting.{Counted}
use Rattle.sgl_lanes.specs.Lanes.{has}
use Rattle.plan_executor.specs.Frames.{Slots, with_slots, frames, members, all_rows, mask_at, Entry, trees, pending_reach, Running}
use Rattle.plan_executor.proofs.Stepping.{head_at}

-- ---- the rows of a set, counted

bit_is : (n : ℕ) → n < 2 → n ≡ cond (n == 1) 1 0
bit_is zero lt = refl
bit_is (suc zero) lt = refl
bit_is (suc (suc n)) lt = absurd (omega (arith, lt))

-- the number of a set is that of its bits
set_is : (mask : ℕ) → mask < 2 ^ 64 → mask ≡ mask_l (map (has mask) (range_with_len 0 64))
unfolding has
set_is mask small =
    let bits = map (has mask) (range_with_len 0 64) in
    let long : length bits ≡ 64 = length-map (range_with_len 0 64) (has mask) ∙ length-range_with_len 0 64 in
    same_from_bits_below 64 mask (mask_l bits) small (subst (λ n. mask_l bits < 2 ^ n) long (mask_l-lt bits))
    (λ i lt. bit_is (bit_at mask i) (bit_at-lt mask i)
    ∙ ap (λ t. cond t 1 0) (sym (get_or-map-range_with_len (has mask) 0 64 i i false lt (omega arith)))
    ∙ sym (bit_mask_l bits i))

pub count_members : (mask : ℕ) → mask < 2 ^ 64 → count_ones mask ≡ length (members mask)
unfolding members all_rows
count_members mask small =
    ap count_ones (set_is mask small) ∙ ones-mask_l (has mask) (range_with_len 0 64) ∙ sym (length-filter (has mask) (range_with_len 0 64))

-- a task has 64 rows
pub few_members : (mask : ℕ) → length (members mask) ≤ 64
unfolding members all_rows
few_members mask =
    let most = count_by-le-length (has mask) (range_with_len 0 64) in
    omega (arith, length-filter (has mask) (range_with_len 0 64), most, length-range_with_len 0 64)

-- ---- the count of a node

module _ (base : ℕ → Frame) (nodes : List Node) (whole : List Item) (counts : List ℕ) where
  first_of : (t : Tree) (fs : List Frame) (more : List ℕ) → drop 0 counts ≡ drop 0 counts → (at : ℕ) → drop at counts ≡ reached t fs ++ more → slice_index_or counts at 0 ≡ length fs
  first_of Nothing fs more _ at is = head_at counts at (length fs) 0 _ is
  first_of (Setting slot source below) fs more _ at is = head_at counts at (length fs) 0 _ is
  first_of (Parted cond place taken other) fs more _ at is = head_at counts at (length fs) 0 _ is
  first_of (Acting act way) fs more _ at is = head_at counts at (length fs) 0 _ is
  first_of (Joined left right) fs more _ at is = head_at counts at (length fs) 0 _ is

  at_entries : (es : List Entry) (at : ℕ) (masks : List ℕ) (slots : Slots) → at < length nodes → drop at nodes ≡ numbered_all (trees es) at → drop at counts ≡ pending_reach base slots masks es at
      → slice_index_or counts at 0 ≡ length (members (mask_at masks at))
  at_entries [] at masks slots within are is =
      let none : length (drop at nodes) ≡ 0 = ap length are in
      absurd (omega (arith, within, none, length-drop at nodes))
  at_entries (e ∷ es) at masks slots within are is =
      first_of e.tree (frames base slots (members (mask_at masks at))) _ refl at is ∙ length-map (members (mask_at masks at)) (with_slots base slots)

  pub count_here : (at : ℕ) (masks : List ℕ) (slots : Slots) (given : List Item) → at < length nodes → Running base nodes whole counts at masks slots given
      → slice_index_or counts at 0 ≡ length (members (mask_at masks at))
  count_here at masks slots given within r = at_entries r.entries at masks slots within r.are r.reach

pub counted_start : (counts reach : List ℕ) → Counted counts 0 reach reach
counted_start counts reach = record { done = λ i lt. absurd (omega (arith, lt)); later = λ i le. refl }

pub counted_more : (counts old now new : List ℕ) (at n : ℕ) → at < length now → Counted counts at old now → slice_index_or counts at 0 ≡ n → new ≡ slice_set now at (capped (reach_at now at + n)) → Counted counts (at + 1) old new
counted_more counts old now new at n within before own is = record {
  done = λ i lt. step i (i == at) (Decides-eqb i at) lt;
  later = λ i le. other i (λ e. omega (arith, e, le)) ∙ before.later i (omega (arith, le));
}
  where
    other : (i : ℕ) → i ≢ at → reach_at new i ≡ reach_at now i
    other i apart = ap (λ xs. reach_at xs i) is ∙ get_or-set_other now at i _ 0 apart

    step : (i : ℕ) (t : Bool) → Decides t (i ≡ at) → i < at + 1 → reach_at new i ≡ capped (reach_at old i + slice_index_or counts i 0)
    step i true d lt =
        subst (λ j. reach_at new j ≡ capped (reach_at old j + slice_index_or counts j 0)) (sym (d.0 refl))
        (ap (λ xs. reach_at xs at) is ∙ get_or-set_same now at _ 0 within ∙ (λ k. capped (before.later at (omega arith) k + sym own k)))
    step i false d lt =
        let apart : i ≢ at = λ e. false≢true (d.1 e) in
        other i apart ∙ before.done i (omega (arith, lt, apart))

-- the count of each node, also past the last
pub counted_all : (counts old new : List ℕ) (n : ℕ) → Counted counts n old new → length old ≡ n → length counts ≡ n → (node : ℕ) → reach_at new node ≡ capped (reach_at old node + slice_index_or counts node 0)
counted_all counts old new n counted old_long long node = step (nat_lt node n) refl
  where
    step : (t : Bool) → nat_lt node n ≡ t → reach_at new node ≡ capped (reach_at old node + slice_index_or counts node 0)
    step true h = counted.done node (grind (arith, nat_tests, h))
    step false h =
        let past : n ≤ node = grind (arith, nat_tests, h) in
        let none : reach_at old node ≡ 0 = get_or_past old node 0 (omega (arith, past, old_long)) in
        let no_more : slice_index_or counts node 0 ≡ 0 = get_or_past counts node 0 (omega (arith, past, long)) in
        counted.later node past ∙ none ∙ (λ i. capped (sym none i + sym no_more i))
