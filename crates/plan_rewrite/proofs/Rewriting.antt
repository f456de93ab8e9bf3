-- The whole of rewriting.
use Rattle.std.proofs.Common.{◌≡◌, ℕ, ◌+◌, ◌≤◌, pos, Bool, true, false, List, [], ◌∷◌, ◌++◌, map, length, refl, ap, sym, ◌∙◌, subst, arith}
use Rattle.std.specs.Prelude.{slice_get, if◌then◌else◌}
use Rattle.std.specs.List.Sorted.{IsPermutation}
use Rattle.std.specs.List.{flat_map}
use Rattle.std.proofs.lemmas.List.Sorted.{IsPermutation-sym, IsPermutation-trans}
use Rattle.std.proofs.lemmas.List.{append-nil, length-replicate}
use Rattle.sgl_values.specs.World.{Row, World}
use Rattle.sgl_values.specs.declared.fault.Val.{Val}
use Rattle.sgl_values.specs.declared.fault.Val.TheVariants.{N, B, F}
use Rattle.sgl_values.specs.declared.item.Item.{Item}
use Rattle.sgl_typed.specs.Aggregate.{simple_value}
use Rattle.sgl_typed.specs.Items.{chosen, faulty, start_with}
use Rattle.sgl_typed.specs.Reads.{below}
use Rattle.sgl_typed.specs.declared.script.AggUse.{AggUse}
use Rattle.sgl_typed.specs.declared.script.TScript.{TScript}
use Rattle.battle_algebra.specs.Fit.{plain, tree_fits, none_set}
use Rattle.battle_algebra.specs.Meaning.{Frame, set_slot, agg_of, is_agg, items_of_clause, clause_of, frame_items, frame_calls, picked, tree_items}
use Rattle.battle_algebra.specs.Normal.{IsNormal}
use Rattle.battle_algebra.specs.Reads.{sets_only, setting}
use Rattle.plan_rewrite.specs.Rewrite.{unified, tidied, rewritten, with_ways}
use Rattle.battle_algebra.specs.Tree.{Tree, Nothing, Setting, Parted, Acting, Joined, Parts, each, size}
use Rattle.battle_algebra.proofs.Bools.{both_true}
use Rattle.plan_rewrite.proofs.Following.{Env, walk-unified, reads_fit-unified}
use Rattle.plan_rewrite.proofs.Moving.{plain-moved, list-plain-moved}
use Rattle.plan_rewrite.proofs.Reached.{summed, calls_by_frame}
use Rattle.battle_algebra.proofs.Rows.{items_by_frame}
use Rattle.battle_algebra.proofs.Slots.{unset, clear_of}
use Rattle.plan_rewrite.proofs.Tidying.{each-tidied, size-tidied, walk-tidied, all_read-tidied, is_low-tidied, is_lean-tidied, none_again-tidied, tidied-same, sets_once-tidied, reads_fit-tidied}
use Rattle.plan_rewrite.proofs.Unifying.{Movable, size-unified, each-unified, sets-unified, sets_once-unified, none_again-unified, unified-same, all_new}
use Rattle.battle_algebra.proofs.Walks.{Walk, walk, Laws}
use Rattle.plan_rewrite.specs.Rewritten.{StandsFor}
use Rattle.battle_algebra.specs.ChosenWays.{Ways}
use Rattle.battle_algebra.proofs.Sameness.{Tells}
use Rattle.battle_algebra.proofs.Shapes.{Fits, fits_of, to_fits}

-- ---- two walks: the items, and the calls of an aggregate

abbrev chosen_by : ℕ → Val → List Item → List Item → List Item
chosen_by key (F fault) taken other = faulty key fault 0 ∷ []
chosen_by key (B true) taken other = taken
chosen_by key (N z) taken other = other
chosen_by key (B false) taken other = other

chosen-by : (f : Frame) (v : Val) (taken other : List Item) → chosen f v taken other ≡ chosen_by f.unit.key v taken other
chosen-by f (F fault) taken other = refl
chosen-by f (B true) taken other = refl
chosen-by f (B false) taken other = refl
chosen-by f (N z) taken other = refl

abbrev items_walk : Walk
items_walk = record {
  Out = List Item;
  none = [];
  acts = λ action clause f. items_of_clause f (clause_of (slice_get f.script.actions action) clause);
  both = λ a b. a ++ b;
  picks = chosen_by;
  sets = λ o a. a;
  Le = λ a b. a ≡ b;
}

picks-items : (key : ℕ) (v : Val) (a a' b b' : List Item) → a ≡ a' → b ≡ b' → chosen_by key v a b ≡ chosen_by key v a' b'
picks-items key v a a' b b' p q = λ i. chosen_by key v (p i) (q i)

items_laws : Laws items_walk
items_laws = record {
  same = λ x. refl;
  onward = λ x y z p q. p ∙ q;
  both_le = λ a a' b b' p q. (λ i. p i ++ q i);
  picks_le = picks-items;
  sets_le = λ o a a' p. p;
  more = λ o a. refl;
  none_left = λ a. refl;
  none_right = λ a. append-nil a;
  true_picks = λ key a b. refl;
  false_picks = λ key a b. refl;
  sets_swap = λ o o' a. refl;
  sets_taken = λ o key v a b. refl;
  sets_other = λ o key v a b. refl;
}

items-walk : (t : Tree) (f : Frame) → frame_items t f ≡ walk items_walk t f
items-walk Nothing f = refl
items-walk (Setting slot source below) f = items-walk below (set_slot slot source f)
items-walk (Parted cond place taken other) f =
    chosen-by f (simple_value f cond) (frame_items taken f) (frame_items other f) ∙ (λ i. chosen_by f.unit.key (simple_value f cond) (items-walk taken f i) (items-walk other f i))
items-walk (Acting act way) f = refl
items-walk (Joined left right) f = λ i. items-walk left f i ++ items-walk right f i

abbrev picked_by : ℕ → Val → ℕ → ℕ → ℕ
picked_by key v taken other = picked v taken other

abbrev calls_walk : ℕ → Walk
calls_walk agg = record {
  Out = ℕ;
  none = 0;
  acts = λ action clause f. 0;
  both = λ a b. a + b;
  picks = picked_by;
  sets = λ o a. (if is_agg agg o then 1 else 0) + a;
  Le = λ a b. a ≤ b;
}

picked-le : (v : Val) (a a' b b' : ℕ) → a ≤ a' → b ≤ b' → picked v a b ≤ picked v a' b'
picked-le (N z) a a' b b' p q = q
picked-le (B true) a a' b b' p q = p
picked-le (B false) a a' b b' p q = q
picked-le (F fault) a a' b b' p q = omega arith

picked-taken : (one : ℕ) (v : Val) (a b : ℕ) → picked v (one + a) b ≤ one + picked v a b
picked-taken one (N z) a b = omega arith
picked-taken one (B true) a b = omega arith
picked-taken one (B false) a b = omega arith
picked-taken one (F fault) a b = omega arith

picked-other : (one : ℕ) (v : Val) (a b : ℕ) → picked v a (one + b) ≤ one + picked v a b
picked-other one (N z) a b = omega arith
picked-other one (B true) a b = omega arith
picked-other one (B false) a b = omega arith
picked-other one (F fault) a b = omega arith

le_both : (a a' b b' : ℕ) → a ≤ a' → b ≤ b' → a + b ≤ a' + b'
le_both a a' b b' p q = omega arith

le_trans : (a b c : ℕ) → a ≤ b → b ≤ c → a ≤ c
le_trans a b c p q = omega arith

le_same : (a : ℕ) → a ≤ a
le_same a = omega arith

le_more : (one a : ℕ) → a ≤ one + a
le_more one a = omega arith

le_behind : (one a b : ℕ) → a ≤ b → one + a ≤ one + b
le_behind one a b p = omega arith

plus_swap : (m n a : ℕ) → m + (n + a) ≡ n + (m + a)
plus_swap m n a = omega arith

plus_none : (a : ℕ) → a + 0 ≡ a
plus_none a = omega arith

none_plus : (a : ℕ) → 0 + a ≡ a
none_plus a = omega arith

calls_laws : (agg : ℕ) → Laws (calls_walk agg)
calls_laws agg = record {
  same = le_same;
  onward = le_trans;
  both_le = le_both;
  picks_le = λ key v a a' b b' p q. picked-le v a a' b b' p q;
  sets_le = λ o a a' p. le_behind (if is_agg agg o then 1 else 0) a a' p;
  more = λ o a. le_more (if is_agg agg o then 1 else 0) a;
  none_left = none_plus;
  none_right = plus_none;
  true_picks = λ key a b. refl;
  false_picks = λ key a b. refl;
  sets_swap = λ o o' a. plus_swap (if is_agg agg o then 1 else 0) (if is_agg agg o' then 1 else 0) a;
  sets_taken = λ o key v a b. picked-taken (if is_agg agg o then 1 else 0) v a b;
  sets_other = λ o key v a b. picked-other (if is_agg agg o then 1 else 0) v a b;
}

calls-walk : (agg : ℕ) (t : Tree) (f : Frame) → frame_calls agg t f ≡ walk (calls_walk agg) t f
calls-walk agg Nothing f = refl
calls-walk agg (Setting slot source below) f = ap (λ n. (if is_agg agg (agg_of source) then 1 else 0) + n) (calls-walk agg below (set_slot slot source f))
calls-walk agg (Parted cond place taken other) f = λ i. picked (simple_value f cond) (calls-walk agg taken f i) (calls-walk agg other f i)
calls-walk agg (Acting act way) f = refl
calls-walk agg (Joined left right) f = λ i. calls-walk agg left f i + calls-walk agg right f i

none_unset : (t : Tree) → sets_only t (unset none_set) ≡ true
none_unset Nothing = refl
none_unset (Setting slot source below) = none_unset below
none_unset (Parted cond place taken other) = both_true _ _ (none_unset taken) (none_unset other)
none_unset (Acting act way) = refl
none_unset (Joined left right) = both_true _ _ (none_unset left) (none_unset right)

start_env : Env none_set none_set [] []
start_env = record { into = λ i is. is; still = λ i out. refl; fewer = λ i is. is; knowns = refl }

movable_plain : (ways : Ways) → Movable plain plain ways
movable_plain ways = record {
  computed = λ rs slot e place h. plain-moved rs e h;
  called = λ rs slot call way h. list-plain-moved rs call.args h;
  splits = λ rs cond h. plain-moved rs cond h;
  acts = λ rs act way h. list-plain-moved rs act.args h;
}

fits-unified : (same : AggUse → AggUse → Bool) (ways : Ways) (slots : ℕ) (t : Tree) → Fits slots t → Fits slots (unified same ways t [] [])
fits-unified same ways slots t h = record {
  plain = each-unified same ways plain plain (movable_plain ways) t [] [] h.plain;
  inside = sets-unified same ways (below slots) t [] [] h.inside;
  once = sets_once-unified same ways t [] [] h.once;
  reads = reads_fit-unified same ways t [] [] none_set none_set start_env h.reads (none_unset t) h.once;
}

fits-tidied : (slots : ℕ) (t : Tree) → Fits slots t → Fits slots (tidied t)
fits-tidied slots t h = record {
  plain = each-tidied plain t h.plain;
  inside = each-tidied (setting (below slots)) t h.inside;
  once = sets_once-tidied t h.once;
  reads = reads_fit-tidied t none_set h.reads;
}

-- ---- the whole

-- a plan stays a plan
pub rewritten-fits : (same : AggUse → AggUse → Bool) (ways : Ways) (slots : ℕ) (t : Tree) → tree_fits slots t ≡ true → tree_fits slots (rewritten same ways t) ≡ true
rewritten-fits same ways slots t h = to_fits slots (rewritten same ways t) (fits-tidied slots (unified same ways t [] []) (fits-unified same ways slots t (fits_of slots t h)))

-- it is normal
pub rewritten-normal : (same : AggUse → AggUse → Bool) → Tells same → (ways : Ways) (t : Tree) → IsNormal same (rewritten same ways t)
rewritten-normal same tells ways t = record {
  read = all_read-tidied (unified same ways t [] []);
  alone = none_again-tidied same tells.symmetric (unified same ways t [] []) (none_again-unified same ways t [] []);
  lean = is_lean-tidied (unified same ways t [] []);
  low = is_low-tidied (unified same ways t [] []);
}

-- what every node passes, it passes still
pub rewritten-each : (same : AggUse → AggUse → Bool) (ways : Ways) (p q : Parts) → Movable p q ways → (t : Tree) → each p t ≡ true → each q (rewritten same ways t) ≡ true
rewritten-each same ways p q law t h = each-tidied q (unified same ways t [] []) (each-unified same ways p q law t [] [] h)

-- it has no more nodes
pub rewritten-size : (same : AggUse → AggUse → Bool) (ways : Ways) (t : Tree) → size (rewritten same ways t) ≤ size t
rewritten-size same ways t = omega (arith, size-tidied (unified same ways t [] []), size-unified same ways t [] [])

-- a walk gives no more
pub rewritten-walk : (w : Walk) → Laws w → (same : AggUse → AggUse → Bool) → Tells same → (ways : Ways) (slots : ℕ) (t : Tree) → tree_fits slots t ≡ true → (f : Frame) → length f.slots ≡ slots
    → w.Le (walk w (rewritten same ways t) f) (walk w t f)
rewritten-walk w laws same tells ways slots t fits f long =
    let h : Fits slots t = fits_of slots t fits in
    let u : Fits slots (unified same ways t [] []) = fits-unified same ways slots t h in
    laws.onward _ _ _
    (walk-tidied w laws (unified same ways t [] []) (clear_of (unified same ways t [] []) none_set u.reads (none_unset (unified same ways t [] [])) u.once) f)
    (walk-unified w laws same tells ways t [] [] none_set none_set slots f f.slots f.slots start_env h.reads (none_unset t) h.once h.inside long long
    (record { follow = λ i is. refl }) tt)

-- each frame has the same items
pub rewritten-items : (same : AggUse → AggUse → Bool) → Tells same → (ways : Ways) (slots : ℕ) (t : Tree) → tree_fits slots t ≡ true → (f : Frame) → length f.slots ≡ slots
    → frame_items (rewritten same ways t) f ≡ frame_items t f
rewritten-items same tells ways slots t fits f long =
    items-walk (rewritten same ways t) f ∙ rewritten-walk items_walk items_laws same tells ways slots t fits f long ∙ sym (items-walk t f)

-- and calls no aggregate more often
pub rewritten-calls : (agg : ℕ) (same : AggUse → AggUse → Bool) → Tells same → (ways : Ways) (slots : ℕ) (t : Tree) → tree_fits slots t ≡ true → (f : Frame) → length f.slots ≡ slots
    → frame_calls agg (rewritten same ways t) f ≤ frame_calls agg t f
rewritten-calls agg same tells ways slots t fits f long =
    omega (arith, calls-walk agg (rewritten same ways t) f, calls-walk agg t f, rewritten-walk (calls_walk agg) (calls_laws agg) same tells ways slots t fits f long)

-- a plan that is normal but for its ways stays that plan
pub rewritten-same : (same : AggUse → AggUse → Bool) (ways : Ways) (t : Tree) → IsNormal same (with_ways ways t) → rewritten same ways t ≡ with_ways ways t
rewritten-same same ways t n =
    ap tidied (unified-same same ways t [] n.alone (all_new same (with_ways ways t))) ∙ tidied-same (with_ways ways t) n.read n.lean n.low

-- ---- all rows of a world

over-rows : (tree other : Tree) (slots : ℕ) (s : TScript) (world : World) (seed : ℕ) → ((f : Frame) → length f.slots ≡ slots → frame_items tree f ≡ frame_items other f)
    → (rows : List Row) → flat_map (frame_items tree) (map (start_with slots s world seed) rows) ≡ flat_map (frame_items other) (map (start_with slots s world seed) rows)
over-rows tree other slots s world seed same [] = refl
over-rows tree other slots s world seed same (row ∷ rows) =
    λ i. same (start_with slots s world seed row) (length-replicate slots (N (pos 0))) i ++ over-rows tree other slots s world seed same rows i

calls-over-rows : (agg : ℕ) (tree other : Tree) (slots : ℕ) (s : TScript) (world : World) (seed : ℕ) → ((f : Frame) → length f.slots ≡ slots → frame_calls agg tree f ≤ frame_calls agg other f)
    → (rows : List Row) → summed (frame_calls agg tree) (map (start_with slots s world seed) rows) ≤ summed (frame_calls agg other) (map (start_with slots s world seed) rows)
calls-over-rows agg tree other slots s world seed fewer [] = omega arith
calls-over-rows agg tree other slots s world seed fewer (row ∷ rows) =
    omega (arith, fewer (start_with slots s world seed row) (length-replicate slots (N (pos 0))), calls-over-rows agg tree other slots s world seed fewer rows)

-- what is rewritten stands for the plan
pub rewritten-stands : (script : TScript) (same : AggUse → AggUse → Bool) → Tells same → (ways : Ways) (slots : ℕ) (t : Tree) → tree_fits slots t ≡ true → StandsFor script slots t (rewritten same ways t)
rewritten-stands script same tells ways slots t fits = record {
  fits = rewritten-fits same ways slots t fits;
  items = λ rows world seed.
      let fs : List Frame = map (start_with slots script world seed) rows in
      IsPermutation-trans _ _ _ (items_by_frame (rewritten same ways t) fs)
      (subst (λ xs. IsPermutation xs (tree_items t fs))
      (sym (over-rows (rewritten same ways t) t slots script world seed (rewritten-items same tells ways slots t fits) rows))
      (IsPermutation-sym _ _ (items_by_frame t fs)));
  size = rewritten-size same ways t;
  calls = λ agg rows world seed.
      let fs : List Frame = map (start_with slots script world seed) rows in
      omega (
        arith,
        calls_by_frame agg (rewritten same ways t) fs,
        calls_by_frame agg t fs,
        calls-over-rows agg (rewritten same ways t) t slots script world seed (rewritten-calls agg same tells ways slots t fits) rows,
      );
}
