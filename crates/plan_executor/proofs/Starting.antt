-- A task at its start: its rows are at the root, and nothing is given.
use Rattle.std.proofs.Common.{◌≡◌, ℕ, suc, zero, pos, ◌+◌, ◌<◌, ◌≤◌, nat_lt, cond, true, false, ◌&&◌, List, [], ◌∷◌, ◌++◌, map, length, drop, take, replicate, refl, ap, sym, ◌∙◌, arith}
use Rattle.std.specs.List.{filter, range_with_len}
use Rattle.std.proofs.lemmas.Bool.{and_parts}
use Rattle.std.proofs.lemmas.Bool.Decides.{nat_tests}
use Rattle.std.proofs.lemmas.List.{append-nil, drop_more, length-replicate}
use Rattle.sgl_values.specs.World.{Row, World, row_at}
use Rattle.sgl_values.specs.declared.fault.Val.{Val}
use Rattle.sgl_values.specs.declared.fault.Val.TheVariants.{N}
use Rattle.sgl_typed.specs.Items.{start_with}
use Rattle.sgl_typed.specs.Reads.{below}
use Rattle.battle_algebra.specs.Fit.{tree_fits, reads_fit, sets_once, none_set, plain}
use Rattle.battle_algebra.specs.Meaning.{tree_items, reached, rows_items}
use Rattle.battle_algebra.specs.Reads.{sets_only}
use Rattle.battle_algebra.specs.Tree.{Tree, each, numbered}
use Rattle.battle_algebra.proofs.Slots.{sets-wider}
use Rattle.sgl_lanes.specs.Lanes.{has}
use Rattle.plan_executor.specs.Frames.{Slots, with_slots, frames, members, all_rows, mask_at, Running}
use Rattle.task_scratch.specs.Scratch.{slots_in, AreWide}
use Rattle.plan_executor.specs.Running.{base_of}
use Rattle.plan_executor.specs.declared.run.Run.{Run}
use Rattle.plan_executor.proofs.Agreeing.{Agree, items-agree, reached-agree}

-- ---- the rows below a number

none_below : (n b j : ℕ) → n ≤ b → filter (λ k. nat_lt k n) (range_with_len b j) ≡ []
none_below n b zero le = refl
none_below n b (suc j) le =
    let out : nat_lt b n ≡ false = grind (arith, nat_tests, le) in
    ap (λ t. cond t (b ∷ filter (λ k. nat_lt k n) (range_with_len (b + 1) j)) (filter (λ k. nat_lt k n) (range_with_len (b + 1) j))) out ∙ none_below n (b + 1) j (omega (arith, le))

below_all : (n a r : ℕ) → n ≤ r → filter (λ k. nat_lt k (a + n)) (range_with_len a r) ≡ range_with_len a n
below_all zero a r le = none_below (a + 0) a r (omega arith)
below_all (suc n) a zero le = absurd (omega (arith, le))
below_all (suc n) a (suc r) le =
    let own : nat_lt a (a + suc n) ≡ true = grind (arith, nat_tests) in
    let place : a + suc n ≡ a + 1 + n = omega arith in
    ap (λ t. cond t (a ∷ filter (λ k. nat_lt k (a + suc n)) (range_with_len (a + 1) r)) (filter (λ k. nat_lt k (a + suc n)) (range_with_len (a + 1) r))) own
    ∙ ap (λ xs. a ∷ xs) (ap (λ b. filter (λ k. nat_lt k b) (range_with_len (a + 1) r)) place ∙ below_all n (a + 1) r (omega (arith, le)))

pub first_members : (mask count : ℕ) → count ≤ 64 → ((k : ℕ) → has mask k ≡ nat_lt k count) → members mask ≡ range_with_len 0 count
unfolding members all_rows
first_members mask count le is =
    let start : 0 + count ≡ count = omega arith in
    (λ i. filter (λ k. is k i) (range_with_len 0 64)) ∙ ap (λ b. filter (λ k. nat_lt k b) (range_with_len 0 64)) (sym start) ∙ below_all count 0 64 le

-- ---- the frames of rows

rows_map : {B : Type 0} (h : Row → B) (world : World) (first a n : ℕ) → first + a + n ≤ length world.rows → map (λ k. h (row_at world (first + k))) (range_with_len a n) ≡ map h (take n (drop (first + a) world.rows))
rows_map h world first a zero le = refl
rows_map h world first a (suc n) le =
    let place : first + (a + 1) ≡ first + a + 1 = omega arith in
    ap (λ xs. h (row_at world (first + a)) ∷ xs) (rows_map h world first (a + 1) n (omega (arith, le)) ∙ ap (λ b. map h (take n (drop b world.rows))) place)
    ∙ ap (λ xs. map h (take (suc n) xs)) (sym (drop_more world.rows (first + a) _ (omega (arith, le))))

map_range : {B : Type 0} (f g : ℕ → B) (a n : ℕ) → ((k : ℕ) → k < a + n → f k ≡ g k) → map f (range_with_len a n) ≡ map g (range_with_len a n)
map_range f g a zero law = refl
map_range f g a (suc n) law = λ i. law a (omega arith) i ∷ map_range f g (a + 1) n (λ k lt. law k (omega (arith, lt))) i

-- none of the slots is set
abbrev blank : Slots → Slots
blank slots k = replicate (length (slots k)) (N (pos 0))

blank-agree : (slots : Slots) → Agree none_set slots (blank slots)
blank-agree slots = record { long = λ k. sym (length-replicate (length (slots k)) (N (pos 0))); agree = λ k. record { agree = λ i set. absurd (Rattle.std.proofs.lemmas.Bool.false≢true set) } }

start_frames : (run : Run) (rows : List (List Val)) (width count : ℕ) → length rows ≡ 64 → AreWide width rows → count ≤ 64 → run.first + count ≤ length run.tick.world.now.world.rows
    → frames (base_of run) (blank (slots_in rows)) (range_with_len 0 count) ≡ map (start_with width run.tick.script.now run.tick.world.now.world run.tick.seed) (take count (drop run.first run.tick.world.now.world.rows))
start_frames run rows width count long wide few within =
    let place : run.first + 0 ≡ run.first = omega arith in
    map_range (with_slots (base_of run) (blank (slots_in rows))) (λ k. start_with width run.tick.script.now run.tick.world.now.world run.tick.seed (row_at run.tick.world.now.world (run.first + k))) 0 count
    (λ k lt i. start_with (wide.is k (omega (arith, lt, few, long)) i) run.tick.script.now run.tick.world.now.world run.tick.seed (row_at run.tick.world.now.world (run.first + k)))
    ∙ rows_map (start_with width run.tick.script.now run.tick.world.now.world run.tick.seed) run.tick.world.now.world run.first 0 count (omega (arith, within))
    ∙ ap (λ b. map (start_with width run.tick.script.now run.tick.world.now.world run.tick.seed) (take count (drop b run.tick.world.now.world.rows))) place

-- the loop may begin
pub task_starts : (run : Run) (rows : List (List Val)) (width count mask : ℕ) (masks : List ℕ) (tree : Tree) → length rows ≡ 64 → AreWide width rows → count ≤ 64 → run.first + count ≤ length run.tick.world.now.world.rows
    → ((k : ℕ) → has mask k ≡ nat_lt k count) → mask_at masks 0 ≡ mask → run.nodes.now ≡ numbered tree 0 → tree_fits width tree ≡ true
    → Running (base_of run) run.nodes.now (rows_items tree width run.tick.script.now (take count (drop run.first run.tick.world.now.world.rows)) run.tick.world.now.world run.tick.seed)
    (reached tree (frames (base_of run) (slots_in rows) (members (mask_at masks 0))) ++ []) 0 masks (slots_in rows) []
task_starts run rows width count mask masks tree long wide few within first root are fits =
    let one : (each plain tree ≡ true) × ((sets_only tree (below width) && (sets_once tree && reads_fit tree none_set)) ≡ true) = and_parts _ _ fits in
    let two : (sets_only tree (below width) ≡ true) × ((sets_once tree && reads_fit tree none_set) ≡ true) = and_parts _ _ one.1 in
    let three : (sets_once tree ≡ true) × (reads_fit tree none_set ≡ true) = and_parts _ _ two.1 in
    record {
      entries = record { tree = tree; set = none_set } ∷ [];
      are = are ∙ sym (append-nil (numbered tree 0));
      valid = (record { reads = three.1; once = three.0; free = sets-wider tree (below width) (λ slot. true) (λ i h. refl) two.0 }, (tt, tt));
      items = append-nil _ ∙ items-agree (base_of run) tree none_set (slots_in rows) (blank (slots_in rows)) (blank-agree (slots_in rows)) three.1 (members (mask_at masks 0))
          ∙ ap (λ m. tree_items tree (frames (base_of run) (blank (slots_in rows)) (members m))) root
          ∙ ap (λ ks. tree_items tree (frames (base_of run) (blank (slots_in rows)) ks)) (first_members mask count few first)
          ∙ ap (tree_items tree) (start_frames run rows width count long wide few within);
      reach = refl;
    }

-- the frames that reach the nodes are those of the rows
pub task_reach : (run : Run) (rows : List (List Val)) (width count mask : ℕ) (masks : List ℕ) (tree : Tree) → length rows ≡ 64 → AreWide width rows → count ≤ 64 → run.first + count ≤ length run.tick.world.now.world.rows
    → ((k : ℕ) → has mask k ≡ nat_lt k count) → mask_at masks 0 ≡ mask → tree_fits width tree ≡ true
    → reached tree (frames (base_of run) (slots_in rows) (members (mask_at masks 0))) ++ [] ≡ reached tree (map (start_with width run.tick.script.now run.tick.world.now.world run.tick.seed) (take count (drop run.first run.tick.world.now.world.rows)))
task_reach run rows width count mask masks tree long wide few within first root fits =
    let one : (each plain tree ≡ true) × ((sets_only tree (below width) && (sets_once tree && reads_fit tree none_set)) ≡ true) = and_parts _ _ fits in
    let two : (sets_only tree (below width) ≡ true) × ((sets_once tree && reads_fit tree none_set) ≡ true) = and_parts _ _ one.1 in
    let three : (sets_once tree ≡ true) × (reads_fit tree none_set ≡ true) = and_parts _ _ two.1 in
    append-nil _ ∙ reached-agree (base_of run) tree none_set (slots_in rows) (blank (slots_in rows)) (blank-agree (slots_in rows)) three.1 (members (mask_at masks 0))
    ∙ ap (λ m. reached tree (frames (base_of run) (blank (slots_in rows)) (members m))) root
    ∙ ap (λ ks. reached tree (frames (base_of run) (blank (slots_in rows)) ks)) (first_members mask count few first)
    ∙ ap (reached tree) (start_frames run rows width count long wide few within)
