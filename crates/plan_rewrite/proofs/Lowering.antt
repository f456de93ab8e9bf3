-- A node that is taken down to where its slot is read.
use Rattle.std.proofs.Common.{◌≡◌, ℕ, ◌+◌, Bool, true, false, refl, ap, sym, ◌∙◌, arith}
use Rattle.std.specs.Prelude.{◌&&◌, not, if◌then◌else◌}
use Rattle.std.proofs.lemmas.Bool.{and_parts, false≢true}
use Rattle.sgl_values.specs.declared.place.Place.{Place}
use Rattle.sgl_typed.proofs.Reading.{simple-reads}
use Rattle.sgl_typed.specs.Aggregate.{simple_value}
use Rattle.sgl_typed.specs.Reads.{reads_only}
use Rattle.sgl_typed.specs.declared.script.AggUse.{AggUse}
use Rattle.sgl_typed.specs.declared.script.TExpr.{TExpr}
use Rattle.battle_algebra.specs.Meaning.{Frame, set_slot, source_value, agg_of}
use Rattle.battle_algebra.specs.Normal.{all_read, source_calls, calling, calls_only, is_alone, none_again, is_lean, is_none, literal, stays_above, is_low}
use Rattle.battle_algebra.specs.Reads.{source_reads_only, tree_reads_only, sets_only, all_but, is_read_in}
use Rattle.plan_rewrite.specs.Rewrite.{lowered}
use Rattle.battle_algebra.specs.Tree.{Source, Computed, Called, Tree, Nothing, Setting, Parted, Acting, Joined, Parts, each, size}
use Rattle.battle_algebra.proofs.Bools.{both_true, and_swap, and_push, not_and, past_true, if_true, if_false, if_way, by_cases, true_of}
use Rattle.battle_algebra.proofs.Walks.{Walk, walk, Laws, as_same, walk-unread, is_free, swapped, agree_unset}
use Rattle.battle_algebra.proofs.Sameness.{Symmetric}

-- ---- why a node goes on down

-- it does not stay above a node that sets another slot, which does not read its own
pub past_setting : (other : ℕ) (from : Source) (below : Tree) (slot : ℕ) → stays_above (Setting other from below) slot ≡ false
    → (source_reads_only from (all_but slot) ≡ true) × (stays_above below slot ≡ false)
past_setting other from below slot h = if_false (source_reads_only from (all_but slot)) (stays_above below slot) h

-- the condition of a split does not read it, and one branch does not
pub past_split : (cond : TExpr) (place : Place) (taken other : Tree) (slot : ℕ) → stays_above (Parted cond place taken other) slot ≡ false
    → (reads_only cond (all_but slot) ≡ true) × (is_read_in taken slot && is_read_in other slot ≡ false)
past_split cond place taken other slot h = if_false (reads_only cond (all_but slot)) (is_read_in taken slot && is_read_in other slot) h

pub other_unread : (x y : Bool) → not x ≡ true → not x && not y ≡ false → y ≡ true
other_unread true y h both = absurd (false≢true h)
other_unread false true h both = refl
other_unread false false h both = absurd (false≢true (sym both))

-- ---- what each node passes

pub each-lowered : (p : Parts) (t : Tree) (slot : ℕ) (source : Source) → each p (lowered t slot source) ≡ (p.sets slot source && each p t)
each-lowered p Nothing slot source = refl
each-lowered p (Setting other from below) slot source =
    if_way (stays_above (Setting other from below) slot) _ _ (λ u. each p u ≡ (p.sets slot source && each p (Setting other from below)))
    (λ yes. refl)
    (λ no. ap (λ b. p.sets other from && b) (each-lowered p below slot source) ∙ and_swap (p.sets other from) (p.sets slot source) (each p below))
each-lowered p (Parted cond place taken other) slot source =
    if_way (stays_above (Parted cond place taken other) slot) _ _ (λ u. each p u ≡ (p.sets slot source && each p (Parted cond place taken other)))
    (λ yes. refl)
    (λ no. if_way (is_read_in taken slot) _ _ (λ u. each p u ≡ (p.sets slot source && each p (Parted cond place taken other)))
    (λ yes.
    ap (λ b. p.splits cond && (b && each p other)) (each-lowered p taken slot source)
    ∙ ap (λ b. p.splits cond && b) (and_push (p.sets slot source) (each p taken) (each p other))
    ∙ and_swap (p.splits cond) (p.sets slot source) (each p taken && each p other))
    (λ no'.
    ap (λ b. p.splits cond && (each p taken && b)) (each-lowered p other slot source)
    ∙ ap (λ b. p.splits cond && b) (and_swap (each p taken) (p.sets slot source) (each p other))
    ∙ and_swap (p.splits cond) (p.sets slot source) (each p taken && each p other)))
each-lowered p (Acting act way) slot source = refl
each-lowered p (Joined left right) slot source = refl

pub size-lowered : (t : Tree) (slot : ℕ) (source : Source) → size (lowered t slot source) ≡ 1 + size t
size-lowered Nothing slot source = refl
size-lowered (Setting other from below) slot source =
    if_way (stays_above (Setting other from below) slot) _ _ (λ u. size u ≡ 1 + size (Setting other from below))
    (λ yes. refl) (λ no. ap (λ n. 1 + n) (size-lowered below slot source))
size-lowered (Parted cond place taken other) slot source =
    if_way (stays_above (Parted cond place taken other) slot) _ _ (λ u. size u ≡ 1 + size (Parted cond place taken other))
    (λ yes. refl)
    (λ no. if_way (is_read_in taken slot) _ _ (λ u. size u ≡ 1 + size (Parted cond place taken other))
    (λ yes. omega (arith, size-lowered taken slot source)) (λ no'. omega (arith, size-lowered other slot source)))
size-lowered (Acting act way) slot source = refl
size-lowered (Joined left right) slot source = refl

-- what is read in the tree is read still
pub still_read : (t : Tree) (slot : ℕ) (source : Source) (other : ℕ) → is_read_in t other ≡ true → is_read_in (lowered t slot source) other ≡ true
still_read t slot source other h =
    ap not (each-lowered _ t slot source) ∙ not_and (source_reads_only source (all_but other)) (tree_reads_only t (all_but other)) h

-- ---- the normal form

pub all_read-lowered : (t : Tree) (slot : ℕ) (source : Source) → all_read t ≡ true → is_read_in t slot ≡ true → all_read (lowered t slot source) ≡ true
all_read-lowered Nothing slot source all read = both_true _ _ read all
all_read-lowered (Setting other from below) slot source all read =
    let parts : (is_read_in below other ≡ true) × (all_read below ≡ true) = and_parts _ _ all in
    if_way (stays_above (Setting other from below) slot) _ _ (λ u. all_read u ≡ true)
    (λ yes. both_true _ _ read all)
    (λ no.
    let past : (source_reads_only from (all_but slot) ≡ true) × (stays_above below slot ≡ false) = past_setting other from below slot no in
    both_true _ _ (still_read below slot source other parts.0)
    (all_read-lowered below slot source parts.1 (past_true (source_reads_only from (all_but slot)) (tree_reads_only below (all_but slot)) past.0 read)))
all_read-lowered (Parted cond place taken other) slot source all read =
    let parts : (all_read taken ≡ true) × (all_read other ≡ true) = and_parts _ _ all in
    if_way (stays_above (Parted cond place taken other) slot) _ _ (λ u. all_read u ≡ true)
    (λ yes. both_true _ _ read all)
    (λ no.
    let past : (reads_only cond (all_but slot) ≡ true) × (is_read_in taken slot && is_read_in other slot ≡ false) = past_split cond place taken other slot no in
    if_way (is_read_in taken slot) _ _ (λ u. all_read u ≡ true)
    (λ yes. both_true _ _ (all_read-lowered taken slot source parts.0 yes) parts.1)
    (λ no'. both_true _ _ parts.0
    (all_read-lowered other slot source parts.1
    (past_true (tree_reads_only taken (all_but slot)) (tree_reads_only other (all_but slot)) (true_of (tree_reads_only taken (all_but slot)) no')
    (past_true (reads_only cond (all_but slot)) (tree_reads_only taken (all_but slot) && tree_reads_only other (all_but slot)) past.0 read)))))
all_read-lowered (Acting act way) slot source all read = both_true _ _ read all
all_read-lowered (Joined left right) slot source all read = both_true _ _ read all

-- a node above stays there
stays-lowered : (t : Tree) (slot : ℕ) (source : Source) (above : ℕ) → stays_above t above ≡ true → stays_above (lowered t slot source) above ≡ true
stays-lowered Nothing slot source above h = if_true (source_reads_only source (all_but above)) true refl
stays-lowered (Setting other from below) slot source above h =
    if_way (stays_above (Setting other from below) slot) _ _ (λ u. stays_above u above ≡ true)
    (λ yes. if_true (source_reads_only source (all_but above)) _ h)
    (λ no. by_cases (source_reads_only from (all_but above)) (stays_above (Setting other from (lowered below slot source)) above ≡ true)
    (λ free. chosen free (stays-lowered below slot source above (sym (taken_is free) ∙ h)))
    (λ reads. left_out reads))
  where
    taken_is : source_reads_only from (all_but above) ≡ true → stays_above (Setting other from below) above ≡ stays_above below above
    taken_is free = ap (λ b. if b then stays_above below above else true) free

    chosen : source_reads_only from (all_but above) ≡ true → stays_above (lowered below slot source) above ≡ true → stays_above (Setting other from (lowered below slot source)) above ≡ true
    chosen free rest = ap (λ b. if b then stays_above (lowered below slot source) above else true) free ∙ rest

    left_out : source_reads_only from (all_but above) ≡ false → stays_above (Setting other from (lowered below slot source)) above ≡ true
    left_out reads = ap (λ b. if b then stays_above (lowered below slot source) above else true) reads
stays-lowered (Parted cond place taken other) slot source above h =
    if_way (stays_above (Parted cond place taken other) slot) _ _ (λ u. stays_above u above ≡ true)
    (λ yes. if_true (source_reads_only source (all_but above)) _ h)
    (λ no. if_way (is_read_in taken slot) _ _ (λ u. stays_above u above ≡ true)
    (λ yes. both_still (reads_only cond (all_but above)) (is_read_in taken above) (is_read_in other above) (is_read_in (lowered taken slot source) above) (is_read_in other above)
    (still_read taken slot source above) (λ same. same) h)
    (λ no'. both_still (reads_only cond (all_but above)) (is_read_in taken above) (is_read_in other above) (is_read_in taken above) (is_read_in (lowered other slot source) above)
    (λ same. same) (still_read other slot source above) h))
  where
    both_still : (b x y x' y' : Bool) → (x ≡ true → x' ≡ true) → (y ≡ true → y' ≡ true) → (if b then x && y else true) ≡ true → (if b then x' && y' else true) ≡ true
    both_still true x y x' y' first second h = let parts : (x ≡ true) × (y ≡ true) = and_parts _ _ h in both_true _ _ (first parts.0) (second parts.1)
    both_still false x y x' y' first second h = refl
stays-lowered (Acting act way) slot source above h = if_true (source_reads_only source (all_but above)) true refl
stays-lowered (Joined left right) slot source above h = if_true (source_reads_only source (all_but above)) true refl

pub is_low-lowered : (t : Tree) (slot : ℕ) (source : Source) → is_low t ≡ true → is_low (lowered t slot source) ≡ true
is_low-lowered Nothing slot source low = refl
is_low-lowered (Setting other from below) slot source low =
    let parts : (stays_above below other ≡ true) × (is_low below ≡ true) = and_parts _ _ low in
    if_way (stays_above (Setting other from below) slot) _ _ (λ u. is_low u ≡ true)
    (λ yes. both_true _ _ yes low)
    (λ no. both_true _ _ (stays-lowered below slot source other parts.0) (is_low-lowered below slot source parts.1))
is_low-lowered (Parted cond place taken other) slot source low =
    let parts : (is_low taken ≡ true) × (is_low other ≡ true) = and_parts _ _ low in
    if_way (stays_above (Parted cond place taken other) slot) _ _ (λ u. is_low u ≡ true)
    (λ yes. both_true _ _ yes low)
    (λ no. if_way (is_read_in taken slot) _ _ (λ u. is_low u ≡ true)
    (λ yes. both_true _ _ (is_low-lowered taken slot source parts.0) parts.1)
    (λ no'. both_true _ _ parts.0 (is_low-lowered other slot source parts.1)))
is_low-lowered (Acting act way) slot source low = refl
is_low-lowered (Joined left right) slot source low = low

pub is_lean-lowered : (t : Tree) (slot : ℕ) (source : Source) → is_lean t ≡ true → is_lean (lowered t slot source) ≡ true
is_lean-lowered Nothing slot source lean = refl
is_lean-lowered (Setting other from below) slot source lean =
    if_way (stays_above (Setting other from below) slot) _ _ (λ u. is_lean u ≡ true)
    (λ yes. lean) (λ no. is_lean-lowered below slot source lean)
is_lean-lowered (Parted cond place taken other) slot source lean =
    let parts : (is_none (literal cond) ≡ true) × (is_lean taken && is_lean other ≡ true) = and_parts _ _ lean in
    let parts' : (is_lean taken ≡ true) × (is_lean other ≡ true) = and_parts _ _ parts.1 in
    if_way (stays_above (Parted cond place taken other) slot) _ _ (λ u. is_lean u ≡ true)
    (λ yes. lean)
    (λ no. if_way (is_read_in taken slot) _ _ (λ u. is_lean u ≡ true)
    (λ yes. both_true _ _ parts.0 (both_true _ _ (is_lean-lowered taken slot source parts'.0) parts'.1))
    (λ no'. both_true _ _ parts.0 (both_true _ _ parts'.0 (is_lean-lowered other slot source parts'.1))))
is_lean-lowered (Acting act way) slot source lean = refl
is_lean-lowered (Joined left right) slot source lean = lean

-- a call above is made neither in the tree nor by the node
alone-lowered : (same : AggUse → AggUse → Bool) (t : Tree) (slot other : ℕ) (source from : Source) → Symmetric same
    → is_alone same source (Setting other from Nothing) ≡ true → is_alone same from t ≡ true → is_alone same from (lowered t slot source) ≡ true
alone-lowered same t slot other source (Computed e place) law above h = refl
alone-lowered same t slot other (Computed e place) (Called call way) law above h = each-lowered (calling (λ c. not (same c call))) t slot (Computed e place) ∙ h
alone-lowered same t slot other (Called own way') (Called call way) law above h =
    each-lowered (calling (λ c. not (same c call))) t slot (Called own way') ∙ both_true _ _ (ap not (law own call) ∙ (and_parts _ _ above).0) h

-- a node alone over another and what is below
alone_parts : (same : AggUse → AggUse → Bool) (source : Source) (other : ℕ) (from : Source) (below : Tree) → is_alone same source (Setting other from below) ≡ true
    → (is_alone same source (Setting other from Nothing) ≡ true) × (is_alone same source below ≡ true)
alone_parts same (Computed e place) other from below h = (refl, refl)
alone_parts same (Called call way) other from below h =
    let parts = and_parts (source_calls from (λ c. not (same c call))) (calls_only below (λ c. not (same c call))) h in
    (both_true _ _ parts.0 refl, parts.1)

alone_sides : (same : AggUse → AggUse → Bool) (source : Source) (cond : TExpr) (place : Place) (taken other : Tree) → is_alone same source (Parted cond place taken other) ≡ true
    → (is_alone same source taken ≡ true) × (is_alone same source other ≡ true)
alone_sides same (Computed e place') cond place taken other h = (refl, refl)
alone_sides same (Called call way) cond place taken other h = and_parts (calls_only taken (λ c. not (same c call))) (calls_only other (λ c. not (same c call))) h

pub none_again-lowered : (same : AggUse → AggUse → Bool) (t : Tree) (slot : ℕ) (source : Source) → Symmetric same
    → is_alone same source t ≡ true → none_again same t ≡ true → none_again same (lowered t slot source) ≡ true
none_again-lowered same Nothing slot source law alone none = both_true _ _ alone none
none_again-lowered same (Setting other from below) slot source law alone none =
    let parts : (is_alone same from below ≡ true) × (none_again same below ≡ true) = and_parts _ _ none in
    let own : (is_alone same source (Setting other from Nothing) ≡ true) × (is_alone same source below ≡ true) = alone_parts same source other from below alone in
    if_way (stays_above (Setting other from below) slot) _ _ (λ u. none_again same u ≡ true)
    (λ yes. both_true _ _ alone none)
    (λ no. both_true _ _ (alone-lowered same below slot other source from law own.0 parts.0) (none_again-lowered same below slot source law own.1 parts.1))
none_again-lowered same (Parted cond place taken other) slot source law alone none =
    let parts : (none_again same taken ≡ true) × (none_again same other ≡ true) = and_parts _ _ none in
    let own : (is_alone same source taken ≡ true) × (is_alone same source other ≡ true) = alone_sides same source cond place taken other alone in
    if_way (stays_above (Parted cond place taken other) slot) _ _ (λ u. none_again same u ≡ true)
    (λ yes. both_true _ _ alone none)
    (λ no. if_way (is_read_in taken slot) _ _ (λ u. none_again same u ≡ true)
    (λ yes. both_true _ _ (none_again-lowered same taken slot source law own.0 parts.0) parts.1)
    (λ no'. both_true _ _ parts.0 (none_again-lowered same other slot source law own.1 parts.1)))
none_again-lowered same (Acting act way) slot source law alone none = both_true _ _ alone none
none_again-lowered same (Joined left right) slot source law alone none = both_true _ _ alone none

-- a node that stays is put there
pub lowered-stays : (t : Tree) (slot : ℕ) (source : Source) → stays_above t slot ≡ true → lowered t slot source ≡ Setting slot source t
lowered-stays Nothing slot source h = refl
lowered-stays (Setting other from below) slot source h = ap (λ b. if b then Setting slot source (Setting other from below) else Setting other from (lowered below slot source)) h
lowered-stays (Parted cond place taken other) slot source h =
    ap (λ b. if b then Setting slot source (Parted cond place taken other)
    else if is_read_in taken slot then Parted cond place (lowered taken slot source) other else Parted cond place taken (lowered other slot source)) h
lowered-stays (Acting act way) slot source h = refl
lowered-stays (Joined left right) slot source h = refl

-- ---- what it gives

pub walk-lowered : (w : Walk) (laws : Laws w) (t : Tree) (slot : ℕ) (source : Source) → sets_only t (is_free slot source) ≡ true → (f : Frame)
    → w.Le (walk w (lowered t slot source) f) (walk w (Setting slot source t) f)
walk-lowered w laws Nothing slot source clear f = laws.same _
walk-lowered w laws (Setting other from below) slot source clear f =
    let parts : (is_free slot source other ≡ true) × (sets_only below (is_free slot source) ≡ true) = and_parts _ _ clear in
    if_way (stays_above (Setting other from below) slot) _ _ (λ u. w.Le (walk w u f) (walk w (Setting slot source (Setting other from below)) f))
    (λ yes. laws.same _)
    (λ no.
    let past : (source_reads_only from (all_but slot) ≡ true) × (stays_above below slot ≡ false) = past_setting other from below slot no in
    laws.onward _ _ _
    (laws.sets_le (agg_of from) _ _ (walk-lowered w laws below slot source parts.1 (set_slot other from f)))
    (as_same laws _ _
    (laws.sets_swap (agg_of from) (agg_of source) (walk w below (set_slot slot source (set_slot other from f)))
    ∙ ap (λ g. w.sets (agg_of source) (w.sets (agg_of from) (walk w below g))) (sym (swapped slot other source from f parts.0 past.0)))))
walk-lowered w laws (Parted cond place taken other) slot source clear f =
    let parts : (sets_only taken (is_free slot source) ≡ true) × (sets_only other (is_free slot source) ≡ true) = and_parts _ _ clear in
    if_way (stays_above (Parted cond place taken other) slot) _ _ (λ u. w.Le (walk w u f) (walk w (Setting slot source (Parted cond place taken other)) f))
    (λ yes. laws.same _)
    (λ no.
    let past : (reads_only cond (all_but slot) ≡ true) × (is_read_in taken slot && is_read_in other slot ≡ false) = past_split cond place taken other slot no in
    let g : Frame = set_slot slot source f in
    let v : simple_value f cond ≡ simple_value g cond = sym (simple-reads cond (all_but slot) f g.slots f.slots past.0 (agree_unset slot f.slots (source_value f source))) in
    if_way (is_read_in taken slot) _ _ (λ u. w.Le (walk w u f) (walk w (Setting slot source (Parted cond place taken other)) f))
    (λ yes.
    laws.onward _ _ _
    (laws.picks_le f.unit.key (simple_value f cond) _ _ _ _ (walk-lowered w laws taken slot source parts.0 f)
    (as_same laws _ _ (sym (walk-unread w slot source other f (other_unread _ _ yes past.1)))))
    (laws.onward _ _ _
    (laws.sets_taken (agg_of source) f.unit.key (simple_value f cond) (walk w taken g) (walk w other g))
    (as_same laws _ _ (ap (λ x. w.sets (agg_of source) (w.picks f.unit.key x (walk w taken g) (walk w other g))) v))))
    (λ no'.
    laws.onward _ _ _
    (laws.picks_le f.unit.key (simple_value f cond) _ _ _ _
    (as_same laws _ _ (sym (walk-unread w slot source taken f (true_of (tree_reads_only taken (all_but slot)) no'))))
    (walk-lowered w laws other slot source parts.1 f))
    (laws.onward _ _ _
    (laws.sets_other (agg_of source) f.unit.key (simple_value f cond) (walk w taken g) (walk w other g))
    (as_same laws _ _ (ap (λ x. w.sets (agg_of source) (w.picks f.unit.key x (walk w taken g) (walk w other g))) v)))))
walk-lowered w laws (Acting act way) slot source clear f = laws.same _
walk-lowered w laws (Joined left right) slot source clear f = laws.same _
