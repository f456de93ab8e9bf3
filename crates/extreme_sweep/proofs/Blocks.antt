-- The least at places: place by place, and block by block.
use Rattle.std.proofs.Common.{◌≡◌, ◌∙◌, ◌+◌, ◌-◌, ◌*◌, ◌/◌, ◌<◌, ◌≤◌, ℕ, zero, suc, ℤ, Bool, true, false, cond, List, [], ◌∷◌, ◌++◌, length, get_or, set, take, drop, replicate, map, refl, sym, ap, subst, arith, ⊎_elim, inl, inr}
use Rattle.std.proofs.Math.Seq.{take-add, take-set-lt}
use Rattle.std.proofs.lemmas.Bool.{cases_eq, cases_lt}
use Rattle.std.proofs.lemmas.List.{length-set, length-replicate, length-take, length-drop, drop-drop, drop-replicate, drop-set-lt, drop-set-add, take-set-le, get_or-drop, get_or-take, get_or-set_same, set-set, set-get_or}
use Rattle.std.proofs.lemmas.Option.{same_Some as some-same}
use Rattle.std.specs.List.{filter}
use Rattle.std.specs.Option.{option_map}
use Rattle.std.specs.Ordering.{is_gt}
use Rattle.std.specs.Prelude.{Option, Some, None, slice_range, ◌⊎◌}
use Rattle.sgl_values.specs.Least.{least_of}
use Rattle.extreme_sweep.specs.declared.pair.Pair.{Pair}
use Rattle.extreme_sweep.specs.declared.pair.Entry.{Entry}
use Rattle.extreme_sweep.specs.declared.node.Node.{Node}
use Rattle.extreme_sweep.specs.declared.node.Node.TheVariants.{Empty, Single, Double}
use Rattle.extreme_sweep.specs.Nodes.{IsSound, leaf_of, least_below, Joins, Lacks}
use Rattle.extreme_sweep.specs.Pairs.{pair_cmp, is_other_than, least_other_than}
use Rattle.extreme_sweep.specs.Places.{entries_of}
use Rattle.extreme_sweep.specs.Tree.{node_at, least_of_run, StandsFor, Replaces, block_at, IsTree, IsTournament}
use Rattle.extreme_sweep.proofs.Mending.{Joins-same, at-same, at-other}
use Rattle.extreme_sweep.proofs.PairLaws.{pair_laws, lesser}

abbrev pub least_at : Option ℤ → List (Option Entry) → Option Pair
least_at other places = least_other_than other (entries_of places)

-- a place and those behind it
pub least-place : (other : Option ℤ) (place : Option Entry) (places : List (Option Entry)) → least_at other (place ∷ places) ≡ lesser (least_below other (leaf_of place)) (least_at other places)
least-place other None places = refl
least-place other (Some e) places = by (is_other_than other e)
  where
    by : (b : Bool) → least_of pair_cmp (map (λ entry. entry.pair) (cond b (e ∷ filter (is_other_than other) (entries_of places)) (filter (is_other_than other) (entries_of places))))
        ≡ lesser (option_map (λ entry. entry.pair) (cond b (Some e) None)) (least_at other places)
    by true = refl
    by false = refl

least-append : (other : Option ℤ) (xs ys : List (Option Entry)) → least_at other (xs ++ ys) ≡ lesser (least_at other xs) (least_at other ys)
least-append other [] ys = refl
least-append other (x ∷ xs) ys =
    let first = least_below other (leaf_of x) in
    least-place other x (xs ++ ys) ∙ ap (lesser first) (least-append other xs ys)
    ∙ sym (pair_laws.assoc first (least_at other xs) (least_at other ys)) ∙ ap (λ p. lesser p (least_at other ys)) (sym (least-place other x xs))

-- a place behind the others
pub least-push : (other : Option ℤ) (places : List (Option Entry)) (place : Option Entry) → least_at other (places ++ place ∷ []) ≡ lesser (least_at other places) (least_below other (leaf_of place))
least-push other places place =
    least-append other places (place ∷ []) ∙ ap (lesser (least_at other places)) (least-place other place [] ∙ pair_laws.none-right (least_below other (leaf_of place)))

pub stands-push : (node with : Node) (places : List (Option Entry)) (place : Option Entry) → StandsFor node places → IsSound with → Joins node (leaf_of place) with → StandsFor with (places ++ place ∷ [])
stands-push node with places place stands sound joins = record {
  sound = sound;
  least = λ other. joins other ∙ ap (λ p. lesser p (least_below other (leaf_of place))) (stands.least other) ∙ sym (least-push other places place);
}

pub stands-empty : (node : Node) (places : List (Option Entry)) → StandsFor node places → StandsFor node (places ++ None ∷ [])
stands-empty node places stands = stands-push node node places None stands stands.sound (λ other. sym (pair_laws.none-right (least_below other node)))

-- ---- one place is written

least-fill : (other : Option ℤ) (places : List (Option Entry)) (k : ℕ) (place : Option Entry) → k < length places → get_or places k None ≡ None
    → least_at other (set places k place) ≡ lesser (least_at other places) (least_below other (leaf_of place))
least-fill other [] k place inside empty = absurd (omega arith)
least-fill other (first ∷ places) zero place inside empty =
    least-place other place places ∙ pair_laws.comm (least_below other (leaf_of place)) (least_at other places)
    ∙ ap (λ (p : Option Entry). lesser (least_at other (p ∷ places)) (least_below other (leaf_of place))) (sym empty)
least-fill other (first ∷ places) (suc k) place inside empty =
    least-place other first (set places k place)
    ∙ ap (lesser (least_below other (leaf_of first))) (least-fill other places k place (omega arith) empty)
    ∙ sym (pair_laws.assoc (least_below other (leaf_of first)) (least_at other places) (least_below other (leaf_of place)))
    ∙ ap (λ p. lesser p (least_below other (leaf_of place))) (sym (least-place other first places))

-- an empty place is filled, or stays empty
pub replaces-none : (node with : Node) (place : Option Entry) → IsSound with → Joins node (leaf_of place) with → Replaces node None place with
replaces-none node with place sound joins places k inside empty stands = record {
  sound = sound;
  least = λ other. joins other ∙ ap (λ p. lesser p (least_below other (leaf_of place))) (stands.least other) ∙ sym (least-fill other places k place inside empty);
}

pub replaces-empty : (node : Node) → IsSound node → Replaces node None None node
replaces-empty node sound = replaces-none node node None sound (λ other. sym (pair_laws.none-right (least_below other node)))

-- a pair that is not the least is not missed
unmissed : (rest least : Option Pair) (p : Pair) → least ≡ lesser rest (Some p) → (least ≡ Some p → ⊥) → least ≡ rest
unmissed None least p is other = absurd (other is)
unmissed (Some q) least p is other = by (is_gt (pair_cmp q p)) is
  where
    by : (g : Bool) → least ≡ cond g (Some p) (Some q) → least ≡ Some q
    by true e = absurd (other e)
    by false e = e

lacking : (other : Option ℤ) (node : Node) (p : Pair) → Lacks node p → least_below other node ≡ Some p → ⊥
lacking other Empty p lacks is = cc
lacking other (Single e) p lacks is = by (is_other_than other e) is
  where
    by : (b : Bool) → option_map (λ entry. entry.pair) (cond b (Some e) None) ≡ Some p → ⊥
    by true same = lacks (some-same e.pair p same)
    by false same = cc
lacking other (Double f s) p lacks is = by (is_other_than other f) is
  where
    by : (b : Bool) → option_map (λ entry. entry.pair) (cond b (Some f) (Some s)) ≡ Some p → ⊥
    by true same = lacks.0 (some-same f.pair p same)
    by false same = lacks.1 (some-same s.pair p same)

-- an entry that a node does not keep is not missed below it
pub not-missed : (node : Node) (e : Entry) (other : Option ℤ) (rest : Option Pair) → Lacks node e.pair → least_below other node ≡ lesser rest (least_below other (leaf_of (Some e))) → least_below other node ≡ rest
not-missed node e other rest lacks is = by (is_other_than other e) is
  where
    by : (b : Bool) → least_below other node ≡ lesser rest (option_map (λ entry. entry.pair) (cond b (Some e) None)) → least_below other node ≡ rest
    by true is = unmissed rest (least_below other node) e.pair is (lacking other node e.pair lacks)
    by false is = is ∙ pair_laws.none-right rest

-- what stands at places, by what is left when one of them is emptied
least-emptied : (other : Option ℤ) (places : List (Option Entry)) (k : ℕ) → k < length places
    → least_at other places ≡ lesser (least_at other (set places k None)) (least_below other (leaf_of (get_or places k None)))
least-emptied other places k inside =
    let rest = set places k None in
    let size : length rest ≡ length places = length-set places k None in
    let back : set rest k (get_or places k None) ≡ places = set-set places k None (get_or places k None) ∙ set-get_or places k None in
    ap (least_at other) (sym back) ∙ least-fill other rest k (get_or places k None) (omega (arith, size, inside)) (get_or-set_same places k None None inside)

-- an entry leaves that the node does not keep
pub replaces-other : (node : Node) (e : Entry) → Lacks node e.pair → Replaces node (Some e) None node
replaces-other node e lacks places k inside at stands = record {
  sound = stands.sound;
  least = λ other. not-missed node e other (least_at other (set places k None)) lacks
      (stands.least other ∙ least-emptied other places k inside ∙ ap (λ (o : Option Entry). lesser (least_at other (set places k None)) (least_below other (leaf_of o))) at);
}

-- ---- parts of a row of places

part-split : {A : Type 0} (xs : List A) (low middle high : ℕ) → low ≤ middle → middle ≤ high → slice_range xs low high ≡ slice_range xs low middle ++ slice_range xs middle high
part-split xs low middle high before behind =
    let count : high - low ≡ (middle - low) + (high - middle) = omega arith in
    let place : low + (middle - low) ≡ middle = omega arith in
    ap (λ n. take n (drop low xs)) count ∙ take-add (middle - low) (high - middle) (drop low xs)
    ∙ ap (λ l. take (middle - low) (drop low xs) ++ take (high - middle) l) (drop-drop (middle - low) low xs ∙ ap (λ n. drop n xs) place)

part-set : {A : Type 0} (xs : List A) (low high i : ℕ) (x : A) → (i < low) ⊎ (high ≤ i) → low ≤ high → slice_range (set xs i x) low high ≡ slice_range xs low high
part-set xs low high i x (inl before) order = ap (take (high - low)) (drop-set-lt low xs i x before)
part-set xs low high i x (inr behind) order =
    let place : i ≡ low + (i - low) = omega arith in
    ap (λ n. take (high - low) (drop low (set xs n x))) place ∙ ap (take (high - low)) (drop-set-add low xs (i - low) x) ∙ take-set-le (high - low) (drop low xs) (i - low) x (omega arith)

-- a run of places: those before the whole blocks, the whole blocks, and those behind
pub least-parts : (other : Option ℤ) (places : List (Option Entry)) (low first last high : ℕ) → low ≤ first → first ≤ last → last ≤ high
    → lesser (lesser (least_at other (slice_range places low first)) (least_at other (slice_range places first last))) (least_at other (slice_range places last high)) ≡ least_at other (slice_range places low high)
least-parts other places low first last high one two three =
    ap (λ p. lesser p (least_at other (slice_range places last high)))
    (sym (least-append other (slice_range places low first) (slice_range places first last)) ∙ ap (least_at other) (sym (part-split places low first last one two)))
    ∙ sym (least-append other (slice_range places low last) (slice_range places last high)) ∙ ap (least_at other) (sym (part-split places low last high (omega arith) three))

part-set-inside : {A : Type 0} (xs : List A) (low high i : ℕ) (x : A) → low ≤ i → i < high → slice_range (set xs i x) low high ≡ set (slice_range xs low high) (i - low) x
part-set-inside xs low high i x first last =
    let place : i ≡ low + (i - low) = omega arith in
    ap (λ n. take (high - low) (drop low (set xs n x))) place ∙ ap (take (high - low)) (drop-set-add low xs (i - low) x)
    ∙ take-set-lt (high - low) (drop low xs) (i - low) x (omega arith)

-- the block of a place when what stands there is replaced
pub block-replaced : (places : List (Option Entry)) (i : ℕ) (left entry : Option Entry) (node with : Node) → i < length places → entry ≡ get_or places i None → Replaces node left entry with
    → StandsFor node (block_at (set places i left) (i / 16)) → StandsFor with (block_at places (i / 16))
block-replaced places i left entry node with inside at replaces stands =
    let low = 16 * (i / 16) in
    let k = i - low in
    let old = block_at (set places i left) (i / 16) in
    let block : old ≡ set (block_at places (i / 16)) k left = part-set-inside places low (low + 16) i left (omega arith) (omega arith) in
    let in-block : k < length (block_at places (i / 16)) = omega (arith, length-take ((low + 16) - low) (drop low places), length-drop low places) in
    let size : length old ≡ length (block_at places (i / 16)) = ap length block ∙ length-set (block_at places (i / 16)) k left in
    let is : set old k entry ≡ block_at places (i / 16) =
    sym (part-set-inside (set places i left) low (low + 16) i entry (omega arith) (omega arith))
    ∙ ap (λ l. block_at l (i / 16)) (set-set places i left entry ∙ ap (set places i) at ∙ set-get_or places i None) in
    subst (StandsFor with) is
    (replaces old k (omega (arith, size, in-block)) (ap (λ l. get_or l k None) block ∙ get_or-set_same (block_at places (i / 16)) k left None in-block) stands)

-- the same from what stood there before
pub block-set : (places : List (Option Entry)) (i : ℕ) (entry : Option Entry) (node with : Node) → i < length places → Replaces node (get_or places i None) entry with
    → StandsFor node (block_at places (i / 16)) → StandsFor with (block_at (set places i entry) (i / 16))
block-set places i entry node with inside replaces stands =
    let now = set places i entry in
    let before : set now i (get_or places i None) ≡ places = set-set places i entry (get_or places i None) ∙ set-get_or places i None in
    block-replaced now i (get_or places i None) entry node with (omega (arith, inside, length-set places i entry)) (sym (get_or-set_same places i entry None inside)) replaces
    (subst (λ (l : List (Option Entry)). StandsFor node (block_at l (i / 16))) (sym before) stands)

-- the nodes of a block before and after a place is emptied
pub block-emptied : (places : List (Option Entry)) (i : ℕ) (before after : Node) → i < length places → StandsFor before (block_at places (i / 16)) → StandsFor after (block_at (set places i None) (i / 16))
    → Joins after (leaf_of (get_or places i None)) before
block-emptied places i before after inside old now other =
    let low = 16 * (i / 16) in
    let k = i - low in
    let block = block_at places (i / 16) in
    let in-block : k < length block = omega (arith, length-take ((low + 16) - low) (drop low places), length-drop low places) in
    let emptied : block_at (set places i None) (i / 16) ≡ set block k None = part-set-inside places low (low + 16) i None (omega arith) (omega arith) in
    let place : low + k ≡ i = omega arith in
    let entry : get_or block k None ≡ get_or places i None =
    get_or-take ((low + 16) - low) (drop low places) k None (omega arith) ∙ get_or-drop low places k None ∙ ap (λ n. get_or places n None) place in
    old.least other ∙ least-emptied other block k in-block
    ∙ (λ i. lesser (least_at other (sym emptied i)) (least_below other (leaf_of (entry i)))) ∙ ap (λ p. lesser p (least_below other (leaf_of (get_or places i None)))) (sym (now.least other))

outside : (i block : ℕ) → (block ≡ i / 16 → ⊥) → (i < 16 * block) ⊎ (16 * block + 16 ≤ i)
outside i block other = ⊎_elim (λ before. inl before) (λ behind. inr (omega (arith, other))) (cases_lt i (16 * block))

-- ---- the leaves of a tournament tree

module _ (blocks : ℕ) (places : List (Option Entry)) (nodes : List Node) (tournament : IsTournament blocks places nodes) where
  pub least-blocks : (other : Option ℤ) (first count : ℕ) → first + count ≤ blocks
      → least_of_run (λ k. least_below other (node_at nodes k)) (blocks + first) count ≡ least_at other (slice_range places (16 * first) (16 * (first + count)))
  least-blocks other first zero inside =
      let none : 16 * (first + 0) - 16 * first ≡ 0 = omega arith in
      ap (λ n. least_at other (take n (drop (16 * first) places))) (sym none)
  least-blocks other first (suc count) inside =
      let next : (blocks + first) + 1 ≡ blocks + suc first = omega arith in
      let end : 16 * first + 16 ≡ 16 * suc first = omega arith in
      let last : 16 * (suc first + count) ≡ 16 * (first + suc count) = omega arith in
      (λ i. lesser ((tournament.leaves first (omega arith)).least other i) (least_of_run (λ k. least_below other (node_at nodes k)) (next i) count))
      ∙ ap (lesser (least_at other (block_at places first))) (least-blocks other (suc first) count (omega arith))
      ∙ (λ i. lesser (least_at other (slice_range places (16 * first) (end i))) (least_at other (slice_range places (16 * suc first) (last i))))
      ∙ sym (least-append other (slice_range places (16 * first) (16 * suc first)) (slice_range places (16 * suc first) (16 * (first + suc count))))
      ∙ ap (least_at other) (sym (part-split places (16 * first) (16 * suc first) (16 * (first + suc count)) (omega arith) (omega arith)))

  -- a place is written, and the node of its block anew
  pub tournament-set : (i : ℕ) (entry : Option Entry) (node : Node) (mended : List Node) → i < length places → StandsFor node (block_at (set places i entry) (i / 16)) → IsTree blocks mended
      → drop blocks mended ≡ drop blocks (set nodes (blocks + i / 16) node) → IsTournament blocks (set places i entry) mended
  tournament-set i entry node mended inside stands tree leaves = record {
    covered = omega (arith, length-set places i entry, tournament.covered);
    tree = tree;
    leaves = λ block block-inside.
        let at-block : blocks + i / 16 < length nodes = omega (arith, tournament.tree.size, tournament.covered) in
        let is : node_at mended (blocks + block) ≡ node_at (set nodes (blocks + i / 16) node) (blocks + block) =
        sym (get_or-drop blocks mended block Empty) ∙ ap (λ l. get_or l block Empty) leaves ∙ get_or-drop blocks (set nodes (blocks + i / 16) node) block Empty in
        ⊎_elim
        (λ same. subst (λ n. StandsFor n (block_at (set places i entry) block)) (sym (is ∙ at-same blocks (blocks + i / 16) nodes node at-block (blocks + block) (omega (arith, same))))
        (subst (λ b. StandsFor node (block_at (set places i entry) b)) (sym same) stands))
        (λ other. subst (λ n. StandsFor n (block_at (set places i entry) block)) (sym (is ∙ at-other blocks (blocks + i / 16) nodes node at-block (blocks + block) (λ e. other (omega (arith, e)))))
        (subst (StandsFor (node_at nodes (blocks + block))) (sym (part-set places (16 * block) (16 * block + 16) i entry (outside i block other) (omega arith))) (tournament.leaves block block-inside)))
        (cases_eq block (i / 16));
  }

-- ---- a tree without entries

pub replicate-at : {A : Type 0} (n k : ℕ) (x : A) → get_or (replicate n x) k x ≡ x
replicate-at zero k x = refl
replicate-at (suc n) zero x = refl
replicate-at (suc n) (suc k) x = replicate-at n k x

no-least : (other : Option ℤ) (m n : ℕ) → least_at other (take m (replicate n None)) ≡ None
no-least other zero n = refl
no-least other (suc m) zero = refl
no-least other (suc m) (suc n) = no-least other m n

pub tournament-empty : (blocks n : ℕ) (places : List (Option Entry)) (nodes : List Node) → places ≡ replicate n None → nodes ≡ replicate (2 * blocks) Empty → n ≤ 16 * blocks
    → IsTournament blocks places nodes
tournament-empty blocks n places nodes places-are nodes-are covered =
    let empty : (k : ℕ) → node_at nodes k ≡ Empty = λ k. ap (λ l. get_or l k Empty) nodes-are ∙ replicate-at (2 * blocks) k Empty in
    record {
      covered = omega (arith, ap length places-are, length-replicate n (let none : Option Entry = None in none), covered);
      tree = record {
        size = ap length nodes-are ∙ length-replicate (2 * blocks) Empty;
        sound = λ k. subst IsSound (sym (empty k)) tt;
        joined = λ k first last away. Joins-same Empty Empty Empty _ _ _ (empty (2 * k)) (empty (2 * k + 1)) (empty k) (λ other. refl);
      };
      leaves = λ block inside. record {
        sound = subst IsSound (sym (empty (blocks + block))) tt;
        least = λ other. ap (least_below other) (empty (blocks + block))
            ∙ sym (ap (λ l. least_at other (block_at l block)) places-are ∙ ap (λ l. least_at other (take (16 * block + 16 - 16 * block) l)) (drop-replicate (16 * block) n None)
            ∙ no-least other (16 * block + 16 - 16 * block) (n - 16 * block));
      };
    }
