-- A node is done: the items given and those to come are the same items.
use Rattle.std.proofs.Common.{◌≡◌, ◌≢◌, ℕ, ◌+◌, ◌<◌, ◌≤◌, ◌==◌, Bool, true, false, cond, List, [], ◌∷◌, ◌++◌, map, length, length-append, drop, get_or, refl, ap, sym, ◌∙◌, subst, arith, append_assoc}
use Rattle.std.specs.Prelude.{◌||◌, ◌&&◌, not, pos, slice_index_or, slice_set, flat_map}
use Rattle.std.specs.List.{filter}
use Rattle.std.proofs.lemmas.Bool.{and_parts, false≢true}
use Rattle.std.proofs.lemmas.Bool.Decides.{Decides-eqb}
use Rattle.std.proofs.lemmas.List.{length-set, get_or-set_same, get_or-set_other, append-nil, drop_all, drop-drop, get_or-drop, length-drop}
use Rattle.sgl_values.specs.declared.fault.Val.{Val}
use Rattle.sgl_values.specs.declared.fault.Val.TheVariants.{N}
use Rattle.sgl_values.specs.declared.item.Item.{Item}
use Rattle.sgl_values.specs.declared.place.Place.{Place}
use Rattle.sgl_typed.specs.Aggregate.{simple_value}
use Rattle.sgl_typed.specs.Reads.{reads_only}
use Rattle.sgl_typed.specs.declared.script.TExpr.{TExpr}
use Rattle.plan_executor.specs.Numbered.{numbered_all}
use Rattle.battle_algebra.specs.Fit.{reads_fit, sets_once, is_apart}
use Rattle.battle_algebra.specs.Meaning.{Frame, set_slot, effects, is_taken, is_other, condition_items, tree_items, reached}
use Rattle.battle_algebra.specs.Reads.{source_reads_only, adding, all_but, sets_only}
use Rattle.battle_algebra.specs.Tree.{Source, Computed, Called, Tree, Nothing, Setting, Parted, Acting, Joined, size, node_of, numbered}
use Rattle.battle_algebra.specs.declared.plan.Node.{Node}
use Rattle.battle_algebra.specs.declared.plan.Node.TheVariants.{Empty, Split, Effect, Both}
use Rattle.battle_algebra.proofs.Shapes.{length-numbered}
use Rattle.battle_algebra.proofs.Slots.{sets-from}
use Rattle.sgl_lanes.specs.Lanes.{has}
use Rattle.plan_executor.specs.Frames.{Slots, with_slots, frames, all_rows, members, mask_at, Entry, trees, pending, pending_reach, sets_none_of, Fits, Clear, Valid, Running}
use Rattle.plan_executor.specs.Steps.{IsPart, IsSet, IsParted, Steps, node_items}
use Rattle.plan_executor.proofs.Agreeing.{Agree, setting_slot, frames-set, frames-filter, items-agree, reached-agree}

abbrev entry : Tree → (ℕ → Bool) → Entry
entry tree set = record { tree = tree; set = set }

-- ---- lists

module _ {A B : Type 0} where
  kept_step : (p : A → Bool) (f g : A → B) (t : Bool) (x : A) (xs : List A) → p x ≡ t → ((x : A) → p x ≡ true → f x ≡ g x) → map f (filter p xs) ≡ map g (filter p xs)
      → map f (cond t (x ∷ filter p xs) (filter p xs)) ≡ map g (cond t (x ∷ filter p xs) (filter p xs))
  kept_step p f g true x xs is law more = λ i. law x is i ∷ more i
  kept_step p f g false x xs is law more = more

  map-kept : (p : A → Bool) (f g : A → B) → ((x : A) → p x ≡ true → f x ≡ g x) → (xs : List A) → map f (filter p xs) ≡ map g (filter p xs)
  map-kept p f g law [] = refl
  map-kept p f g law (x ∷ xs) = kept_step p f g (p x) x xs refl law (map-kept p f g law xs)

filter_step : {A : Type 0} (p q : A → Bool) (t : Bool) (x : A) (xs ys : List A) → filter q xs ≡ ys → filter q (cond t (x ∷ xs) xs) ≡ cond (t && q x) (x ∷ ys) ys
filter_step p q true x xs ys more = ap (λ zs. cond (q x) (x ∷ zs) zs) more
filter_step p q false x xs ys more = more

filter-filter : {A : Type 0} (p q : A → Bool) (xs : List A) → filter q (filter p xs) ≡ filter (λ x. p x && q x) xs
filter-filter p q [] = refl
filter-filter p q (x ∷ xs) = filter_step p q (p x) x (filter p xs) _ (filter-filter p q xs)

frames-members : (base : ℕ → Frame) (a b : Slots) (mask : ℕ) → ((k : ℕ) → has mask k ≡ true → a k ≡ b k) → frames base a (members mask) ≡ frames base b (members mask)
unfolding members
frames-members base a b mask law = map-kept (has mask) (with_slots base a) (with_slots base b) (λ k is i. record (base k) { slots = law k is i }) all_rows

members-part : (base : ℕ → Frame) (slots : Slots) (e : TExpr) (p : Val → Bool) (mask part : ℕ) → IsPart base slots e p mask part
    → filter (λ k. p (simple_value (with_slots base slots k) e)) (members mask) ≡ members part
unfolding members
members-part base slots e p mask part is =
    filter-filter (has mask) (λ k. p (simple_value (with_slots base slots k) e)) all_rows ∙ (λ i. filter (λ k. sym (is.is k) i) all_rows)

-- ---- other sets of rows, and other slots

abbrev Outside : ℕ → List Entry → Type 0
Outside slot [] = Unit {0}
Outside slot (e ∷ es) = (not (e.set slot) ≡ true) × Outside slot es

outside_of : (slot : ℕ) (source : Source) (below : Tree) (es : List Entry) → Clear (Setting slot source below) es → Outside slot es
outside_of slot source below [] clear = tt
outside_of slot source below (e ∷ es) clear =
    let parts : (not (e.set slot) ≡ true) × (sets_only below (λ s. not (e.set s)) ≡ true) = and_parts _ _ clear.0 in
    (parts.0, outside_of slot source below es clear.1)

clear_below : (slot : ℕ) (source : Source) (below : Tree) (es : List Entry) → Clear (Setting slot source below) es → Clear below es
clear_below slot source below [] clear = tt
clear_below slot source below (e ∷ es) clear =
    let parts : (not (e.set slot) ≡ true) × (sets_only below (λ s. not (e.set s)) ≡ true) = and_parts _ _ clear.0 in
    (parts.1, clear_below slot source below es clear.1)

-- of two trees that set no more than one
clear_both : (t u v : Tree) → ((set : ℕ → Bool) → sets_none_of t set → sets_none_of u set × sets_none_of v set) → (es : List Entry) → Clear t es → Clear u es × Clear v es
clear_both t u v law [] clear = (tt, tt)
clear_both t u v law (e ∷ es) clear =
    let first = law e.set clear.0 in
    let rest = clear_both t u v law es clear.1 in
    ((first.0, rest.0), (first.1, rest.1))

agree-set : (base : ℕ → Frame) (slot : ℕ) (source : Source) (mask : ℕ) (old new : Slots) → IsSet base slot source mask old new → (set : ℕ → Bool) → not (set slot) ≡ true → Agree set old new
agree-set base slot source mask old new is set free = record {
  long = λ k. long k (has mask k) refl;
  agree = λ k. record { agree = λ i passes. agree k i passes (has mask k) refl };
}
  where
    long : (k : ℕ) (t : Bool) → has mask k ≡ t → length (old k) ≡ length (new k)
    long k true h = sym (ap length (is.inside k h) ∙ length-set (old k) slot _)
    long k false h = sym (ap length (is.outside k h))

    other : (i : ℕ) → set i ≡ true → i ≢ slot
    other i passes e = false≢true (ap not (sym (ap set (sym e) ∙ passes)) ∙ free)

    agree : (k i : ℕ) → set i ≡ true → (t : Bool) → has mask k ≡ t → slice_index_or (old k) i (N (pos 0)) ≡ slice_index_or (new k) i (N (pos 0))
    agree k i passes true h = sym (ap (λ xs. slice_index_or xs i (N (pos 0))) (is.inside k h) ∙ get_or-set_other (old k) slot i _ _ (other i passes))
    agree k i passes false h = sym (ap (λ xs. slice_index_or xs i (N (pos 0))) (is.outside k h))

-- the sets of later nodes stay, and slots that are set for none of them may change
abbrev AgreeAll : Slots → Slots → List Entry → Type 0
AgreeAll a b [] = Unit {0}
AgreeAll a b (e ∷ es) = Agree e.set a b × AgreeAll a b es

agree_all-set : (base : ℕ → Frame) (slot : ℕ) (source : Source) (mask : ℕ) (old new : Slots) → IsSet base slot source mask old new → (es : List Entry) → Outside slot es → AgreeAll old new es
agree_all-set base slot source mask old new is [] out = tt
agree_all-set base slot source mask old new is (e ∷ es) out =
    (agree-set base slot source mask old new is e.set out.0, agree_all-set base slot source mask old new is es out.1)

agree_all-refl : (slots : Slots) (es : List Entry) → AgreeAll slots slots es
agree_all-refl slots [] = tt
agree_all-refl slots (e ∷ es) = (record { long = λ k. refl; agree = λ k. record { agree = λ i p. refl } }, agree_all-refl slots es)

abbrev From : List ℕ → List ℕ → ℕ → Type 0
From masks masks' at = (j : ℕ) → at ≤ j → mask_at masks j ≡ mask_at masks' j

pending-same : (base : ℕ → Frame) (a b : Slots) (masks masks' : List ℕ) (es : List Entry) (at : ℕ) → Valid es → AgreeAll a b es → From masks masks' at
    → (pending base a masks es at ≡ pending base b masks' es at) × (pending_reach base a masks es at ≡ pending_reach base b masks' es at)
pending-same base a b masks masks' [] at valid agree from = (refl, refl)
pending-same base a b masks masks' (e ∷ es) at valid agree from =
    let own : mask_at masks at ≡ mask_at masks' at = from at (omega arith) in
    let rest = pending-same base a b masks masks' es (at + size e.tree) valid.1.1 agree.1 (λ j le. from j (omega (arith, le))) in
    let items = items-agree base e.tree e.set a b agree.0 valid.0.reads (members (mask_at masks at)) ∙ ap (λ m. tree_items e.tree (frames base b (members m))) own in
    let reach = reached-agree base e.tree e.set a b agree.0 valid.0.reads (members (mask_at masks at)) ∙ ap (λ m. reached e.tree (frames base b (members m))) own in
    (λ i. items i ++ rest.0 i, λ i. reach i ++ rest.1 i)

-- ---- the nodes

pub size-some : (t : Tree) → 1 ≤ size t
size-some Nothing = omega arith
size-some (Setting slot source below) = omega arith
size-some (Parted cond place taken other) = omega arith
size-some (Acting act way) = omega arith
size-some (Joined left right) = omega arith

-- a place whose rest is not empty is inside
inside : (nodes : List Node) (at n : ℕ) → length (drop at nodes) ≡ n → 1 ≤ n → at < length nodes
inside nodes at n long some = by_case (Rattle.std.specs.Prelude.nat_lt at (length nodes)) refl
  where
    by_case : (t : Bool) → Rattle.std.specs.Prelude.nat_lt at (length nodes) ≡ t → at < length nodes
    by_case true h = grind (arith, Rattle.std.proofs.lemmas.Bool.Decides.nat_tests, h)
    by_case false h =
        let past : length nodes ≤ at = grind (arith, Rattle.std.proofs.lemmas.Bool.Decides.nat_tests, h) in
        let none : length (drop at nodes) ≡ 0 = ap length (drop_all at nodes past) in
        absurd (omega (arith, long, some, none))

-- what stands at a place, and behind it
pub head_at : {A : Type 0} (xs : List A) (at : ℕ) (y d : A) (ys : List A) → drop at xs ≡ y ∷ ys → get_or xs at d ≡ y
head_at xs at y d ys h =
    let place : at + 0 ≡ at = omega arith in
    ap (get_or xs at) refl ∙ ap (λ n. get_or xs n d) (sym place) ∙ sym (get_or-drop at xs 0 d) ∙ ap (λ zs. get_or zs 0 d) h

pub tail_at : {A : Type 0} (xs : List A) (at : ℕ) (y : A) (ys : List A) → drop at xs ≡ y ∷ ys → drop (at + 1) xs ≡ ys
tail_at xs at y ys h = sym (drop-drop 1 at xs) ∙ ap (drop 1) h

setting_steps : (base : ℕ → Frame) (at : ℕ) (masks masks' : List ℕ) (slots slots' : Slots) (slot : ℕ) (source : Source) (child : ℕ)
    → Steps base at masks slots (node_of slot source child) masks' slots' → (masks' ≡ slice_set masks child (mask_at masks at)) × IsSet base slot source (mask_at masks at) slots slots'
setting_steps base at masks masks' slots slots' slot (Computed e place) child st = st
setting_steps base at masks masks' slots slots' slot (Called call way) child st = st

setting_items : (base : ℕ → Frame) (slots : Slots) (mask slot : ℕ) (source : Source) (child : ℕ) → node_items base slots mask (node_of slot source child) ≡ []
setting_items base slots mask slot (Computed e place) child = refl
setting_items base slots mask slot (Called call way) child = refl

-- ---- what stays right of the trees below

below_free : (slot : ℕ) (set : ℕ → Bool) (i : ℕ) → all_but slot i ≡ true → not (set i) ≡ true → not (adding slot set i) ≡ true
below_free slot set i other free = step (i == slot) (set i) other free
  where
    step : (b x : Bool) → not b ≡ true → not x ≡ true → not (b || x) ≡ true
    step true x h k = h
    step false x h k = k

fits_below : (slot : ℕ) (source : Source) (below : Tree) (set : ℕ → Bool) → Fits (entry (Setting slot source below) set) → Fits (entry below (adding slot set))
fits_below slot source below set fits =
    let reads : (source_reads_only source set ≡ true) × (reads_fit below (adding slot set) ≡ true) = and_parts _ _ fits.reads in
    let once : (sets_only below (all_but slot) ≡ true) × (sets_once below ≡ true) = and_parts _ _ fits.once in
    let free : (not (set slot) ≡ true) × (sets_only below (λ s. not (set s)) ≡ true) = and_parts _ _ fits.free in
    record { reads = reads.1; once = once.1; free = sets-from below (all_but slot) (λ s. not (set s)) (λ s. not (adding slot set s)) (λ i a b. below_free slot set i a b) once.0 free.1 }

fits_parted : (e : TExpr) (place : Place) (t u : Tree) (set : ℕ → Bool) → Fits (entry (Parted e place t u) set) → Fits (entry t set) × Fits (entry u set)
fits_parted e place t u set fits =
    let reads : (reads_only e set ≡ true) × ((reads_fit t set && reads_fit u set) ≡ true) = and_parts _ _ fits.reads in
    let both : (reads_fit t set ≡ true) × (reads_fit u set ≡ true) = and_parts _ _ reads.1 in
    let once : (is_apart t u ≡ true) × ((sets_once t && sets_once u) ≡ true) = and_parts _ _ fits.once in
    let each : (sets_once t ≡ true) × (sets_once u ≡ true) = and_parts _ _ once.1 in
    let free : sets_none_of t set × sets_none_of u set = and_parts _ _ fits.free in
    (record { reads = both.0; once = each.0; free = free.0 }, record { reads = both.1; once = each.1; free = free.1 })

fits_joined : (t u : Tree) (set : ℕ → Bool) → Fits (entry (Joined t u) set) → Fits (entry t set) × Fits (entry u set)
fits_joined t u set fits =
    let both : (reads_fit t set ≡ true) × (reads_fit u set ≡ true) = and_parts _ _ fits.reads in
    let once : (is_apart t u ≡ true) × ((sets_once t && sets_once u) ≡ true) = and_parts _ _ fits.once in
    let each : (sets_once t ≡ true) × (sets_once u ≡ true) = and_parts _ _ once.1 in
    let free : sets_none_of t set × sets_none_of u set = and_parts _ _ fits.free in
    (record { reads = both.0; once = each.0; free = free.0 }, record { reads = both.1; once = each.1; free = free.1 })

valid_two : (t u : Tree) (set : ℕ → Bool) (es : List Entry) → Fits (entry t set) × Fits (entry u set) → Clear t es × Clear u es → Valid es → Valid (entry t set ∷ entry u set ∷ es)
valid_two t u set es fits clear valid = (fits.0, ((fits.0.free, clear.0), (fits.1, (clear.1, valid))))

module _ (base : ℕ → Frame) (nodes : List Node) (whole : List Item) (counts : List ℕ) (at : ℕ) (masks masks' : List ℕ) (slots slots' : Slots) (given : List Item)
    (long : length masks ≡ length nodes) where
  abbrev Next : List Item → Type 0
  Next more = Running base nodes whole counts (at + 1) masks' slots' (given ++ more)

  abbrev mask : ℕ
  mask = mask_at masks at

  abbrev own : List Frame
  own = frames base slots (members mask)

  two : (t u : Tree) (set : ℕ → Bool) (es : List Entry) (l r : ℕ) (more : List Item)
      → drop (at + 1) nodes ≡ numbered t (at + 1) ++ (numbered u (at + 1 + size t) ++ numbered_all (trees es) (at + 1 + size t + size u))
      → Valid (entry t set ∷ entry u set ∷ es) → masks' ≡ slice_set (slice_set masks (at + 1) l) (at + 1 + size t) r → slots' ≡ slots
      → (given ++ more) ++ (tree_items t (frames base slots (members l)) ++ (tree_items u (frames base slots (members r)) ++ pending base slots masks es (at + 1 + size t + size u))) ≡ whole
      → drop (at + 1) counts ≡ reached t (frames base slots (members l)) ++ (reached u (frames base slots (members r)) ++ pending_reach base slots masks es (at + 1 + size t + size u))
      → Next more
  two t u set es l r more are valid ms ss items reach =
      let some : 1 ≤ size t = size-some t in
      let room : length (drop (at + 1) nodes) ≡ size t + (size u + length (numbered_all (trees es) (at + 1 + size t + size u)))
      = ap length are ∙ length-append (numbered t (at + 1)) _ ∙ (λ i. length-numbered t (at + 1) i + length-append (numbered u (at + 1 + size t)) (numbered_all (trees es) (at + 1 + size t + size u)) i)
      ∙ ap (λ n. size t + (n + length (numbered_all (trees es) (at + 1 + size t + size u)))) (length-numbered u (at + 1 + size t)) in
      let some_more : 1 ≤ size u = size-some u in
      let place : at + 1 + size t < length nodes = omega (arith, room, length-drop (at + 1) nodes, some, some_more) in
      let first : mask_at masks' (at + 1) ≡ l
      = ap (λ ns. mask_at ns (at + 1)) ms ∙ get_or-set_other (slice_set masks (at + 1) l) (at + 1 + size t) (at + 1) r 0 (λ e. omega (arith, e, some))
      ∙ get_or-set_same masks (at + 1) l 0 (omega (arith, place, long)) in
      let second : mask_at masks' (at + 1 + size t) ≡ r
      = ap (λ ns. mask_at ns (at + 1 + size t)) ms ∙ get_or-set_same (slice_set masks (at + 1) l) (at + 1 + size t) r 0 (omega (arith, place, long, length-set masks (at + 1) l)) in
      let from : From masks masks' (at + 1 + size t + size u)
      = λ j le. sym (ap (λ ns. mask_at ns j) ms ∙ get_or-set_other (slice_set masks (at + 1) l) (at + 1 + size t) j r 0 (λ e. omega (arith, e, le, some_more))
      ∙ get_or-set_other masks (at + 1) j l 0 (λ e. omega (arith, e, le, some))) in
      let rest = pending-same base slots slots' masks masks' es (at + 1 + size t + size u) valid.1.1.1.1 (subst (λ z. AgreeAll slots z es) (sym ss) (agree_all-refl slots es)) from in
      record {
        entries = entry t set ∷ entry u set ∷ es;
        are = are;
        valid = valid;
        items = sym (λ i. (given ++ more) ++ (tree_items t (frames base (sym ss i) (members (sym first i))) ++ (tree_items u (frames base (sym ss i) (members (sym second i))) ++ rest.0 i))) ∙ items;
        reach = reach ∙ (λ i. reached t (frames base (sym ss i) (members (sym first i))) ++ (reached u (frames base (sym ss i) (members (sym second i))) ++ rest.1 i));
      }

  abbrev Step : Tree → (ℕ → Bool) → List Entry → Type 0
  Step t set es = drop at nodes ≡ numbered_all (t ∷ trees es) at → Valid (entry t set ∷ es)
      → given ++ (tree_items t own ++ pending base slots masks es (at + size t)) ≡ whole
      → drop at counts ≡ reached t own ++ pending_reach base slots masks es (at + size t)
      → Steps base at masks slots (get_or nodes at Empty) masks' slots'
      → Next (node_items base slots mask (get_or nodes at Empty))

  -- a node without children
  one : (node : Node) (t : Tree) (es : List Entry) (more : List Item) → drop at nodes ≡ node ∷ numbered_all (trees es) (at + 1) → Valid es
      → given ++ (more ++ pending base slots masks es (at + 1)) ≡ whole → drop at counts ≡ length own ∷ pending_reach base slots masks es (at + 1)
      → masks' ≡ masks → slots' ≡ slots → Next more
  one node t es more are valid items reach ms ss = record {
    entries = es;
    are = tail_at nodes at node _ are;
    valid = valid;
    items = append_assoc given more _ ∙ sym (λ i. given ++ (more ++ pending base (sym ss i) (sym ms i) es (at + 1))) ∙ items;
    reach = tail_at counts at (length own) _ reach ∙ (λ i. pending_reach base (sym ss i) (sym ms i) es (at + 1));
  }

  at_setting : (slot : ℕ) (source : Source) (below : Tree) (set : ℕ → Bool) (es : List Entry) → Step (Setting slot source below) set es
  at_setting slot source below set es are valid items reach st =
      let node : get_or nodes at Empty ≡ node_of slot source (at + 1) = head_at nodes at _ Empty _ are in
      let steps = setting_steps base at masks masks' slots slots' slot source (at + 1) (subst (λ n. Steps base at masks slots n masks' slots') node st) in
      let none : node_items base slots mask (get_or nodes at Empty) ≡ [] = ap (node_items base slots mask) node ∙ setting_items base slots mask slot source (at + 1) in
      let number : (at + (1 + size below)) ≡ (at + 1 + size below) = omega arith in
      let some : 1 ≤ size below = size-some below in
      let rest_are = tail_at nodes at _ _ are in
      let room : length (drop (at + 1) nodes) ≡ size below + length (numbered_all (trees es) (at + (1 + size below)))
      = ap length rest_are ∙ length-append (numbered below (at + 1)) _ ∙ ap (λ n. n + length (numbered_all (trees es) (at + (1 + size below)))) (length-numbered below (at + 1)) in
      let place : at + 1 < length masks = omega (arith, room, length-drop (at + 1) nodes, some, long) in
      let first : mask_at masks' (at + 1) ≡ mask = ap (λ ns. mask_at ns (at + 1)) steps.0 ∙ get_or-set_same masks (at + 1) mask 0 place in
      let from : From masks masks' (at + 1 + size below)
      = λ j le. sym (ap (λ ns. mask_at ns j) steps.0 ∙ get_or-set_other masks (at + 1) j mask 0 (λ e. omega (arith, e, le, some))) in
      let rest = pending-same base slots slots' masks masks' es (at + 1 + size below) valid.1.1 (agree_all-set base slot source mask slots slots' steps.1 es (outside_of slot source below es valid.1.0)) from in
      let sub : map (set_slot slot source) own ≡ frames base slots' (members (mask_at masks' (at + 1)))
      = frames-set base slot source slots (members mask)
      ∙ sym (frames-members base slots' (setting_slot base slot source slots) mask (λ k is. steps.1.inside k is))
      ∙ ap (λ m. frames base slots' (members m)) (sym first) in
      subst Next (sym none) record {
        entries = entry below (adding slot set) ∷ es;
        are = rest_are ∙ ap (λ n. numbered below (at + 1) ++ numbered_all (trees es) n) number;
        valid = (fits_below slot source below set valid.0, (clear_below slot source below es valid.1.0, valid.1.1));
        items = ap (λ xs. xs ++ (tree_items below (frames base slots' (members (mask_at masks' (at + 1)))) ++ pending base slots' masks' es (at + 1 + size below))) (append-nil given)
            ∙ sym (λ i. given ++ (tree_items below (sub i) ++ rest.0 i)) ∙ ap (λ n. given ++ (tree_items below (map (set_slot slot source) own) ++ pending base slots masks es n)) (sym number) ∙ items;
        reach = tail_at counts at _ _ reach ∙ ap (λ n. reached below (map (set_slot slot source) own) ++ pending_reach base slots masks es n) number ∙ (λ i. reached below (sub i) ++ rest.1 i);
      }

  at_parted : (e : TExpr) (place : Place) (t u : Tree) (set : ℕ → Bool) (es : List Entry) → Step (Parted e place t u) set es
  at_parted e place t u set es are valid items reach st =
      let node : get_or nodes at Empty ≡ Split e place (at + 1) (at + 1 + size t) = head_at nodes at _ Empty _ are in
      let steps : IsParted base slots e mask (at + 1) (at + 1 + size t) masks masks' × (slots' ≡ slots) = subst (λ n. Steps base at masks slots n masks' slots') node st in
      let number : (at + (1 + (size t + size u))) ≡ (at + 1 + size t + size u) = omega arith in
      let faults : List Item = flat_map (λ f. condition_items f (simple_value f e)) own in
      let taken : filter (λ f. is_taken (simple_value f e)) own ≡ frames base slots (members steps.0.taken)
      = frames-filter base slots (λ f. is_taken (simple_value f e)) (members mask) ∙ ap (frames base slots) (members-part base slots e is_taken mask steps.0.taken steps.0.takes) in
      let other : filter (λ f. is_other (simple_value f e)) own ≡ frames base slots (members steps.0.other)
      = frames-filter base slots (λ f. is_other (simple_value f e)) (members mask) ∙ ap (frames base slots) (members-part base slots e is_other mask steps.0.other steps.0.leaves) in
      subst Next (ap (node_items base slots mask) (sym node))
      (two t u set es steps.0.taken steps.0.other faults
      (tail_at nodes at _ _ are ∙ append_assoc (numbered t (at + 1)) (numbered u (at + 1 + size t)) _ ∙ ap (λ n. numbered t (at + 1) ++ (numbered u (at + 1 + size t) ++ numbered_all (trees es) n)) number)
      (valid_two t u set es (fits_parted e place t u set valid.0) (clear_both (Parted e place t u) t u (λ s free. and_parts _ _ free) es valid.1.0) valid.1.1)
      steps.0.is steps.1
      (sym (λ i. (given ++ faults) ++ (tree_items t (taken i) ++ (tree_items u (other i) ++ pending base slots masks es (number i))))
      ∙ append_assoc given faults _
      ∙ ap (λ xs. given ++ (faults ++ xs)) (sym (append_assoc (tree_items t (filter (λ f. is_taken (simple_value f e)) own)) (tree_items u (filter (λ f. is_other (simple_value f e)) own)) (pending base slots masks es (at + (1 + (size t + size u))))))
      ∙ ap (λ xs. given ++ xs) (sym (append_assoc faults _ (pending base slots masks es (at + (1 + (size t + size u))))))
      ∙ items)
      (tail_at counts at _ _ reach
      ∙ append_assoc (reached t (filter (λ f. is_taken (simple_value f e)) own)) (reached u (filter (λ f. is_other (simple_value f e)) own)) (pending_reach base slots masks es (at + (1 + (size t + size u))))
      ∙ (λ i. reached t (taken i) ++ (reached u (other i) ++ pending_reach base slots masks es (number i)))))

  at_joined : (t u : Tree) (set : ℕ → Bool) (es : List Entry) → Step (Joined t u) set es
  at_joined t u set es are valid items reach st =
      let node : get_or nodes at Empty ≡ Both (at + 1) (at + 1 + size t) = head_at nodes at _ Empty _ are in
      let steps : (masks' ≡ slice_set (slice_set masks (at + 1) mask) (at + 1 + size t) mask) × (slots' ≡ slots) = subst (λ n. Steps base at masks slots n masks' slots') node st in
      let number : (at + (1 + (size t + size u))) ≡ (at + 1 + size t + size u) = omega arith in
      subst Next (ap (node_items base slots mask) (sym node))
      (two t u set es mask mask []
      (tail_at nodes at _ _ are ∙ append_assoc (numbered t (at + 1)) (numbered u (at + 1 + size t)) _ ∙ ap (λ n. numbered t (at + 1) ++ (numbered u (at + 1 + size t) ++ numbered_all (trees es) n)) number)
      (valid_two t u set es (fits_joined t u set valid.0) (clear_both (Joined t u) t u (λ s free. and_parts _ _ free) es valid.1.0) valid.1.1)
      steps.0 steps.1
      (ap (λ xs. xs ++ (tree_items t own ++ (tree_items u own ++ pending base slots masks es (at + 1 + size t + size u)))) (append-nil given)
      ∙ sym (λ i. given ++ (tree_items t own ++ (tree_items u own ++ pending base slots masks es (number i))))
      ∙ ap (λ xs. given ++ xs) (sym (append_assoc (tree_items t own) (tree_items u own) _))
      ∙ items)
      (tail_at counts at _ _ reach
      ∙ append_assoc (reached t own) (reached u own) (pending_reach base slots masks es (at + (1 + (size t + size u))))
      ∙ (λ i. reached t own ++ (reached u own ++ pending_reach base slots masks es (number i)))))

  at_tree : (t : Tree) (set : ℕ → Bool) (es : List Entry) → Step t set es
  at_tree Nothing set es are valid items reach st =
      let node : get_or nodes at Empty ≡ Empty = head_at nodes at _ Empty _ are in
      let steps : (masks' ≡ masks) × (slots' ≡ slots) = subst (λ n. Steps base at masks slots n masks' slots') node st in
      subst Next (ap (node_items base slots mask) (sym node)) (one Empty Nothing es [] are valid.1.1 items reach steps.0 steps.1)
  at_tree (Setting slot source below) set es are valid items reach st = at_setting slot source below set es are valid items reach st
  at_tree (Parted e place t u) set es are valid items reach st = at_parted e place t u set es are valid items reach st
  at_tree (Acting act way) set es are valid items reach st =
      let node : get_or nodes at Empty ≡ Effect act way = head_at nodes at _ Empty _ are in
      let steps : (masks' ≡ masks) × (slots' ≡ slots) = subst (λ n. Steps base at masks slots n masks' slots') node st in
      subst Next (ap (node_items base slots mask) (sym node)) (one (Effect act way) (Acting act way) es (flat_map (effects act) own) are valid.1.1 items reach steps.0 steps.1)
  at_tree (Joined t u) set es are valid items reach st = at_joined t u set es are valid items reach st

  at_entries : (es : List Entry) → at < length nodes → drop at nodes ≡ numbered_all (trees es) at → Valid es → given ++ pending base slots masks es at ≡ whole
      → drop at counts ≡ pending_reach base slots masks es at → Steps base at masks slots (get_or nodes at Empty) masks' slots' → Next (node_items base slots mask (get_or nodes at Empty))
  at_entries [] within are valid items reach st =
      let none : length (drop at nodes) ≡ 0 = ap length are in
      absurd (omega (arith, within, none, length-drop at nodes))
  at_entries (e ∷ es) within are valid items reach st = at_tree e.tree e.set es are valid items reach st

  -- a node is done
  pub advance : at < length nodes → Running base nodes whole counts at masks slots given → Steps base at masks slots (get_or nodes at Empty) masks' slots'
      → Running base nodes whole counts (at + 1) masks' slots' (given ++ node_items base slots (mask_at masks at) (get_or nodes at Empty))
  advance within r st = at_entries r.entries within r.are r.valid r.items r.reach st
