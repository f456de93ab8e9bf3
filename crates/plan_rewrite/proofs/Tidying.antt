-- The pass from the leaves up.
use Rattle.std.proofs.Common.{◌≡◌, ℕ, ◌+◌, ◌≤◌, Bool, true, false, refl, ap, sym, ◌∙◌, subst, arith, Option, Some, None}
use Rattle.std.specs.Prelude.{◌&&◌, not, if◌then◌else◌}
use Rattle.std.proofs.lemmas.Bool.{and_parts, false≢true}
use Rattle.sgl_values.specs.declared.place.Place.{Place}
use Rattle.sgl_values.specs.declared.fault.Val.TheVariants.{B}
use Rattle.sgl_typed.specs.Aggregate.{simple_value}
use Rattle.sgl_typed.specs.Reads.{reads_only}
use Rattle.sgl_typed.specs.declared.script.AggUse.{AggUse}
use Rattle.sgl_typed.specs.declared.script.TExpr.{TExpr}
use Rattle.sgl_typed.specs.declared.script.TExpr.TheVariants.{Number, Truth, Slot, Unit as OfUnit, Target, Combined, Random, Agg', Neg', Not', Binary'}
use Rattle.battle_algebra.specs.Fit.{sets_once, is_apart, reads_fit}
use Rattle.battle_algebra.specs.Meaning.{Frame, set_slot, agg_of}
use Rattle.battle_algebra.specs.Normal.{all_read, calling, is_alone, none_again, is_lean, is_nothing, is_none, literal, stays_above, is_low, each_setting}
use Rattle.battle_algebra.specs.Reads.{source_reads_only, tree_reads_only, sets_only, setting, all_but, adding, is_read_in}
use Rattle.plan_rewrite.specs.Rewrite.{lowered, placed, parted, joined, tidied}
use Rattle.battle_algebra.specs.Tree.{Source, Computed, Called, Tree, Nothing, Setting, Parted, Acting, Joined, Parts, each, size}
use Rattle.battle_algebra.proofs.Bools.{both_true, from_not, to_not, if_way, true_of}
use Rattle.plan_rewrite.proofs.Lowering.{past_setting, past_split, other_unread, each-lowered, size-lowered, all_read-lowered, is_low-lowered, is_lean-lowered, none_again-lowered, lowered-stays, walk-lowered}
use Rattle.battle_algebra.proofs.Slots.{reads-from, source-wider, sets-from, sets-wider, without_added, source_without, adding_swap, or_added, all_but-swap, reads_fit-from, is_clear}
use Rattle.battle_algebra.proofs.Walks.{Walk, walk, Laws, as_same, walk-unread, is_free}
use Rattle.battle_algebra.proofs.Sameness.{Symmetric}
use Rattle.std.proofs.lemmas.Option.{same_Some}

-- ---- single nodes

pub parted_way : (o : Option Bool) (cond : TExpr) (place : Place) (taken other : Tree) (P : Tree → Type 0)
    → (o ≡ None → P (Parted cond place taken other)) → (o ≡ Some true → P taken) → (o ≡ Some false → P other) → P (parted o cond place taken other)
parted_way None cond place taken other P first second third = first refl
parted_way (Some true) cond place taken other P first second third = second refl
parted_way (Some false) cond place taken other P first second third = third refl

pub joined_way : (left right : Tree) (P : Tree → Type 0)
    → (is_nothing left ≡ true → P right) → (is_nothing right ≡ true → P left) → (is_nothing left ≡ false → is_nothing right ≡ false → P (Joined left right)) → P (joined left right)
joined_way left right P first second third =
    if_way (is_nothing left) _ _ P first (λ no. if_way (is_nothing right) _ _ P second (λ no'. third no no'))

nothing_is : (t : Tree) → is_nothing t ≡ true → t ≡ Nothing
nothing_is Nothing h = refl
nothing_is (Setting slot source below) h = absurd (false≢true h)
nothing_is (Parted cond place taken other) h = absurd (false≢true h)
nothing_is (Acting act way) h = absurd (false≢true h)
nothing_is (Joined left right) h = absurd (false≢true h)

literal-value : (e : TExpr) (b : Bool) (f : Frame) → literal e ≡ Some b → simple_value f e ≡ B b
literal-value (Truth t) b f h = ap B (same_Some t b h)
literal-value (Number n) b f h = absurd (false≢true (sym (ap is_none h)))
literal-value (Slot j) b f h = absurd (false≢true (sym (ap is_none h)))
literal-value (OfUnit attr) b f h = absurd (false≢true (sym (ap is_none h)))
literal-value (Target attr) b f h = absurd (false≢true (sym (ap is_none h)))
literal-value (Combined j) b f h = absurd (false≢true (sym (ap is_none h)))
literal-value (Random j) b f h = absurd (false≢true (sym (ap is_none h)))
literal-value (Agg' agg shape args at) b f h = absurd (false≢true (sym (ap is_none h)))
literal-value (Neg' shape inner) b f h = absurd (false≢true (sym (ap is_none h)))
literal-value (Not' shape inner) b f h = absurd (false≢true (sym (ap is_none h)))
literal-value (Binary' op shape left shape' right at) b f h = absurd (false≢true (sym (ap is_none h)))

-- ---- what each node passes

pub each-tidied : (p : Parts) (t : Tree) → each p t ≡ true → each p (tidied t) ≡ true
each-tidied p Nothing h = refl
each-tidied p (Setting slot source below) h =
    let parts : (p.sets slot source ≡ true) × (each p below ≡ true) = and_parts _ _ h in
    let rest : each p (tidied below) ≡ true = each-tidied p below parts.1 in
    if_way (tree_reads_only (tidied below) (all_but slot)) _ _ (λ u. each p u ≡ true)
    (λ yes. rest) (λ no. each-lowered p (tidied below) slot source ∙ both_true _ _ parts.0 rest)
each-tidied p (Parted cond place taken other) h =
    let parts : (p.splits cond ≡ true) × (each p taken && each p other ≡ true) = and_parts _ _ h in
    let parts' : (each p taken ≡ true) × (each p other ≡ true) = and_parts _ _ parts.1 in
    let first : each p (tidied taken) ≡ true = each-tidied p taken parts'.0 in
    let second : each p (tidied other) ≡ true = each-tidied p other parts'.1 in
    parted_way (literal cond) cond place (tidied taken) (tidied other) (λ u. each p u ≡ true)
    (λ none. both_true _ _ parts.0 (both_true _ _ first second)) (λ yes. first) (λ yes. second)
each-tidied p (Acting act way) h = h
each-tidied p (Joined left right) h =
    let parts : (each p left ≡ true) × (each p right ≡ true) = and_parts _ _ h in
    let first : each p (tidied left) ≡ true = each-tidied p left parts.0 in
    let second : each p (tidied right) ≡ true = each-tidied p right parts.1 in
    joined_way (tidied left) (tidied right) (λ u. each p u ≡ true) (λ yes. second) (λ yes. first) (λ no no'. both_true _ _ first second)

pub size-tidied : (t : Tree) → size (tidied t) ≤ size t
size-tidied Nothing = omega arith
size-tidied (Setting slot source below) =
    if_way (tree_reads_only (tidied below) (all_but slot)) _ _ (λ u. size u ≤ 1 + size below)
    (λ yes. omega (arith, size-tidied below)) (λ no. omega (arith, size-tidied below, size-lowered (tidied below) slot source))
size-tidied (Parted cond place taken other) =
    parted_way (literal cond) cond place (tidied taken) (tidied other) (λ u. size u ≤ 1 + (size taken + size other))
    (λ none. omega (arith, size-tidied taken, size-tidied other)) (λ yes. omega (arith, size-tidied taken)) (λ yes. omega (arith, size-tidied other))
size-tidied (Acting act way) = omega arith
size-tidied (Joined left right) =
    joined_way (tidied left) (tidied right) (λ u. size u ≤ 1 + (size left + size right))
    (λ yes. omega (arith, size-tidied right)) (λ yes. omega (arith, size-tidied left)) (λ no no'. omega (arith, size-tidied left, size-tidied right))

-- ---- what it gives

pub walk-tidied : (w : Walk) (laws : Laws w) (t : Tree) → is_clear t ≡ true → (f : Frame) → w.Le (walk w (tidied t) f) (walk w t f)
walk-tidied w laws Nothing clear f = laws.same _
walk-tidied w laws (Setting slot source below) clear f =
    let parts : (sets_only below (is_free slot source) ≡ true) × (is_clear below ≡ true) = and_parts _ _ clear in
    let rest : w.Le (walk w (tidied below) (set_slot slot source f)) (walk w below (set_slot slot source f)) = walk-tidied w laws below parts.1 (set_slot slot source f) in
    if_way (tree_reads_only (tidied below) (all_but slot)) _ _ (λ u. w.Le (walk w u f) (walk w (Setting slot source below) f))
    (λ yes.
    laws.onward _ _ _ (as_same laws _ _ (sym (walk-unread w slot source (tidied below) f yes)))
    (laws.onward _ _ _ rest (laws.more (agg_of source) _)))
    (λ no.
    laws.onward _ _ _ (walk-lowered w laws (tidied below) slot source (each-tidied (setting (is_free slot source)) below parts.0) f)
    (laws.sets_le (agg_of source) _ _ rest))
walk-tidied w laws (Parted cond place taken other) clear f =
    let parts : (is_clear taken ≡ true) × (is_clear other ≡ true) = and_parts _ _ clear in
    let first : w.Le (walk w (tidied taken) f) (walk w taken f) = walk-tidied w laws taken parts.0 f in
    let second : w.Le (walk w (tidied other) f) (walk w other f) = walk-tidied w laws other parts.1 f in
    parted_way (literal cond) cond place (tidied taken) (tidied other) (λ u. w.Le (walk w u f) (walk w (Parted cond place taken other) f))
    (λ none. laws.picks_le f.unit.key (simple_value f cond) _ _ _ _ first second)
    (λ yes.
    laws.onward _ _ _ first
    (as_same laws _ _ (sym (ap (λ v. w.picks f.unit.key v (walk w taken f) (walk w other f)) (literal-value cond true f yes) ∙ laws.true_picks f.unit.key _ _))))
    (λ yes.
    laws.onward _ _ _ second
    (as_same laws _ _ (sym (ap (λ v. w.picks f.unit.key v (walk w taken f) (walk w other f)) (literal-value cond false f yes) ∙ laws.false_picks f.unit.key _ _))))
walk-tidied w laws (Acting act way) clear f = laws.same _
walk-tidied w laws (Joined left right) clear f =
    let parts : (is_clear left ≡ true) × (is_clear right ≡ true) = and_parts _ _ clear in
    let both : w.Le (w.both (walk w (tidied left) f) (walk w (tidied right) f)) (walk w (Joined left right) f) =
    laws.both_le _ _ _ _ (walk-tidied w laws left parts.0 f) (walk-tidied w laws right parts.1 f) in
    joined_way (tidied left) (tidied right) (λ u. w.Le (walk w u f) (walk w (Joined left right) f))
    (λ yes. laws.onward _ _ _
    (as_same laws _ _ (sym (ap (λ u. w.both (walk w u f) (walk w (tidied right) f)) (nothing_is (tidied left) yes) ∙ laws.none_left _))) both)
    (λ yes. laws.onward _ _ _
    (as_same laws _ _ (sym (ap (λ u. w.both (walk w (tidied left) f) (walk w u f)) (nothing_is (tidied right) yes) ∙ laws.none_right _))) both)
    (λ no no'. both)

-- ---- the normal form

-- each node that sets a slot passes in the end, where a node that goes down keeps that
each_setting-tidied : (given passes : ℕ → Source → Tree → Bool)
    → ((slot : ℕ) (source : Source) (below : Tree) → given slot source below ≡ true → is_read_in (tidied below) slot ≡ true → each_setting passes (tidied below) ≡ true
    → each_setting passes (lowered (tidied below) slot source) ≡ true)
    → (t : Tree) → each_setting given t ≡ true → each_setting passes (tidied t) ≡ true
each_setting-tidied given passes kept Nothing h = refl
each_setting-tidied given passes kept (Setting slot source below) h =
    let parts : (given slot source below ≡ true) × (each_setting given below ≡ true) = and_parts _ _ h in
    let rest : each_setting passes (tidied below) ≡ true = each_setting-tidied given passes kept below parts.1 in
    if_way (tree_reads_only (tidied below) (all_but slot)) _ _ (λ u. each_setting passes u ≡ true)
    (λ yes. rest) (λ no. kept slot source below parts.0 (to_not _ no) rest)
each_setting-tidied given passes kept (Parted cond place taken other) h =
    let parts : (each_setting given taken ≡ true) × (each_setting given other ≡ true) = and_parts _ _ h in
    let first : each_setting passes (tidied taken) ≡ true = each_setting-tidied given passes kept taken parts.0 in
    let second : each_setting passes (tidied other) ≡ true = each_setting-tidied given passes kept other parts.1 in
    parted_way (literal cond) cond place (tidied taken) (tidied other) (λ u. each_setting passes u ≡ true)
    (λ none. both_true _ _ first second) (λ yes. first) (λ yes. second)
each_setting-tidied given passes kept (Acting act way) h = refl
each_setting-tidied given passes kept (Joined left right) h =
    let parts : (each_setting given left ≡ true) × (each_setting given right ≡ true) = and_parts _ _ h in
    let first : each_setting passes (tidied left) ≡ true = each_setting-tidied given passes kept left parts.0 in
    let second : each_setting passes (tidied right) ≡ true = each_setting-tidied given passes kept right parts.1 in
    joined_way (tidied left) (tidied right) (λ u. each_setting passes u ≡ true) (λ yes. second) (λ yes. first) (λ no no'. both_true _ _ first second)

-- no test at all
abbrev any : ℕ → Source → Tree → Bool
any slot source below = true

each_setting-any : (t : Tree) → each_setting any t ≡ true
each_setting-any Nothing = refl
each_setting-any (Setting slot source below) = each_setting-any below
each_setting-any (Parted cond place taken other) = both_true _ _ (each_setting-any taken) (each_setting-any other)
each_setting-any (Acting act way) = refl
each_setting-any (Joined left right) = both_true _ _ (each_setting-any left) (each_setting-any right)

pub all_read-tidied : (t : Tree) → all_read (tidied t) ≡ true
all_read-tidied t =
    each_setting-tidied any (λ slot source below. is_read_in below slot)
    (λ slot source below given read rest. all_read-lowered (tidied below) slot source rest read) t (each_setting-any t)

pub is_low-tidied : (t : Tree) → is_low (tidied t) ≡ true
is_low-tidied t =
    each_setting-tidied any (λ slot source below. stays_above below slot)
    (λ slot source below given read rest. is_low-lowered (tidied below) slot source rest) t (each_setting-any t)

pub is_lean-tidied : (t : Tree) → is_lean (tidied t) ≡ true
is_lean-tidied Nothing = refl
is_lean-tidied (Setting slot source below) =
    if_way (tree_reads_only (tidied below) (all_but slot)) _ _ (λ u. is_lean u ≡ true)
    (λ yes. is_lean-tidied below) (λ no. is_lean-lowered (tidied below) slot source (is_lean-tidied below))
is_lean-tidied (Parted cond place taken other) =
    parted_way (literal cond) cond place (tidied taken) (tidied other) (λ u. is_lean u ≡ true)
    (λ none. both_true _ _ (ap is_none none) (both_true _ _ (is_lean-tidied taken) (is_lean-tidied other))) (λ yes. is_lean-tidied taken) (λ yes. is_lean-tidied other)
is_lean-tidied (Acting act way) = refl
is_lean-tidied (Joined left right) =
    joined_way (tidied left) (tidied right) (λ u. is_lean u ≡ true)
    (λ yes. is_lean-tidied right) (λ yes. is_lean-tidied left)
    (λ no no'. both_true _ _ (to_not _ no) (both_true _ _ (to_not _ no') (both_true _ _ (is_lean-tidied left) (is_lean-tidied right))))

alone-tidied : (same : AggUse → AggUse → Bool) (source : Source) (t : Tree) → is_alone same source t ≡ true → is_alone same source (tidied t) ≡ true
alone-tidied same (Computed e place) t h = refl
alone-tidied same (Called call way) t h = each-tidied (calling (λ c. not (same c call))) t h

pub none_again-tidied : (same : AggUse → AggUse → Bool) → Symmetric same → (t : Tree) → none_again same t ≡ true → none_again same (tidied t) ≡ true
none_again-tidied same law t h =
    each_setting-tidied (λ slot source below. is_alone same source below) (λ slot source below. is_alone same source below)
    (λ slot source below alone read rest. none_again-lowered same (tidied below) slot source law (alone-tidied same source below alone) rest) t h

-- a normal tree stays as it is
pub tidied-same : (t : Tree) → all_read t ≡ true → is_lean t ≡ true → is_low t ≡ true → tidied t ≡ t
tidied-same Nothing read lean low = refl
tidied-same (Setting slot source below) read lean low =
    let r : (is_read_in below slot ≡ true) × (all_read below ≡ true) = and_parts _ _ read in
    let l : (stays_above below slot ≡ true) × (is_low below ≡ true) = and_parts _ _ low in
    ap (placed slot source) (tidied-same below r.1 lean l.1)
    ∙ ap (λ b. if b then below else lowered below slot source) (from_not _ r.0)
    ∙ lowered-stays below slot source l.0
tidied-same (Parted cond place taken other) read lean low =
    let r : (all_read taken ≡ true) × (all_read other ≡ true) = and_parts _ _ read in
    let l : (is_low taken ≡ true) × (is_low other ≡ true) = and_parts _ _ low in
    let n : (is_none (literal cond) ≡ true) × (is_lean taken && is_lean other ≡ true) = and_parts _ _ lean in
    let n' : (is_lean taken ≡ true) × (is_lean other ≡ true) = and_parts _ _ n.1 in
    ap (λ o. parted o cond place (tidied taken) (tidied other)) (none_is (literal cond) n.0)
    ∙ (λ i. Parted cond place (tidied-same taken r.0 n'.0 l.0 i) (tidied-same other r.1 n'.1 l.1 i))
  where
    none_is : (o : Option Bool) → is_none o ≡ true → o ≡ None
    none_is None h = refl
    none_is (Some b) h = absurd (false≢true h)
tidied-same (Acting act way) read lean low = refl
tidied-same (Joined left right) read lean low =
    let r : (all_read left ≡ true) × (all_read right ≡ true) = and_parts _ _ read in
    let l : (is_low left ≡ true) × (is_low right ≡ true) = and_parts _ _ low in
    let n : (not (is_nothing left) ≡ true) × (not (is_nothing right) && (is_lean left && is_lean right) ≡ true) = and_parts _ _ lean in
    let n' : (not (is_nothing right) ≡ true) × (is_lean left && is_lean right ≡ true) = and_parts _ _ n.1 in
    let n'' : (is_lean left ≡ true) × (is_lean right ≡ true) = and_parts _ _ n'.1 in
    (λ i. joined (tidied-same left r.0 n''.0 l.0 i) (tidied-same right r.1 n''.1 l.1 i))
    ∙ (λ i. if from_not _ n.0 i then right else if from_not _ n'.0 i then left else Joined left right)

-- ---- what every plan keeps

sets_once-lowered : (t : Tree) (slot : ℕ) (source : Source) → sets_only t (all_but slot) ≡ true → sets_once t ≡ true → sets_once (lowered t slot source) ≡ true
sets_once-lowered Nothing slot source new once = refl
sets_once-lowered (Setting other from below) slot source new once =
    let n : (all_but slot other ≡ true) × (sets_only below (all_but slot) ≡ true) = and_parts _ _ new in
    let o : (sets_only below (all_but other) ≡ true) × (sets_once below ≡ true) = and_parts _ _ once in
    if_way (stays_above (Setting other from below) slot) _ _ (λ u. sets_once u ≡ true)
    (λ yes. both_true _ _ new once)
    (λ no. both_true _ _ (each-lowered (setting (all_but other)) below slot source ∙ both_true _ _ (all_but-swap slot other n.0) o.0) (sets_once-lowered below slot source n.1 o.1))
sets_once-lowered (Parted cond place taken other) slot source new once =
    let n : (sets_only taken (all_but slot) ≡ true) × (sets_only other (all_but slot) ≡ true) = and_parts _ _ new in
    let o : (is_apart taken other ≡ true) × (sets_once taken && sets_once other ≡ true) = and_parts _ _ once in
    let o' : (sets_once taken ≡ true) × (sets_once other ≡ true) = and_parts _ _ o.1 in
    if_way (stays_above (Parted cond place taken other) slot) _ _ (λ u. sets_once u ≡ true)
    (λ yes. both_true _ _ new once)
    (λ no. if_way (is_read_in taken slot) _ _ (λ u. sets_once u ≡ true)
    (λ yes. both_true _ _
    (each-lowered (setting (λ s. sets_only other (all_but s))) taken slot source ∙ both_true _ _ n.1 o.0)
    (both_true _ _ (sets_once-lowered taken slot source n.0 o'.0) o'.1))
    (λ no'. both_true _ _
    (sets-from taken (all_but slot) (λ s. sets_only other (all_but s)) (λ s. sets_only (lowered other slot source) (all_but s))
    (λ i new' apart. each-lowered (setting (all_but i)) other slot source ∙ both_true _ _ (all_but-swap slot i new') apart) n.0 o.0)
    (both_true _ _ o'.0 (sets_once-lowered other slot source n.1 o'.1))))
sets_once-lowered (Acting act way) slot source new once = refl
sets_once-lowered (Joined left right) slot source new once = both_true _ _ new once

apart-tidied : (t u : Tree) → is_apart t u ≡ true → is_apart (tidied t) (tidied u) ≡ true
apart-tidied t u h =
    each-tidied (setting (λ s. sets_only (tidied u) (all_but s))) t
    (sets-wider t (λ s. sets_only u (all_but s)) (λ s. sets_only (tidied u) (all_but s)) (λ i is. each-tidied (setting (all_but i)) u is) h)

pub sets_once-tidied : (t : Tree) → sets_once t ≡ true → sets_once (tidied t) ≡ true
sets_once-tidied Nothing once = refl
sets_once-tidied (Setting slot source below) once =
    let o : (sets_only below (all_but slot) ≡ true) × (sets_once below ≡ true) = and_parts _ _ once in
    let rest : sets_once (tidied below) ≡ true = sets_once-tidied below o.1 in
    if_way (tree_reads_only (tidied below) (all_but slot)) _ _ (λ u. sets_once u ≡ true)
    (λ yes. rest) (λ no. sets_once-lowered (tidied below) slot source (each-tidied (setting (all_but slot)) below o.0) rest)
sets_once-tidied (Parted cond place taken other) once =
    let o : (is_apart taken other ≡ true) × (sets_once taken && sets_once other ≡ true) = and_parts _ _ once in
    let o' : (sets_once taken ≡ true) × (sets_once other ≡ true) = and_parts _ _ o.1 in
    let first : sets_once (tidied taken) ≡ true = sets_once-tidied taken o'.0 in
    let second : sets_once (tidied other) ≡ true = sets_once-tidied other o'.1 in
    parted_way (literal cond) cond place (tidied taken) (tidied other) (λ u. sets_once u ≡ true)
    (λ none. both_true _ _ (apart-tidied taken other o.0) (both_true _ _ first second)) (λ yes. first) (λ yes. second)
sets_once-tidied (Acting act way) once = refl
sets_once-tidied (Joined left right) once =
    let o : (is_apart left right ≡ true) × (sets_once left && sets_once right ≡ true) = and_parts _ _ once in
    let o' : (sets_once left ≡ true) × (sets_once right ≡ true) = and_parts _ _ o.1 in
    let first : sets_once (tidied left) ≡ true = sets_once-tidied left o'.0 in
    let second : sets_once (tidied right) ≡ true = sets_once-tidied right o'.1 in
    joined_way (tidied left) (tidied right) (λ u. sets_once u ≡ true) (λ yes. second) (λ yes. first)
    (λ no no'. both_true _ _ (apart-tidied left right o.0) (both_true _ _ first second))

-- a subtree that does not read the slot does without it
without : (t : Tree) (slot : ℕ) (set : ℕ → Bool) → tree_reads_only t (all_but slot) ≡ true → reads_fit t (adding slot set) ≡ true → reads_fit t set ≡ true
without t slot set unread reads = reads_fit-from t (adding slot set) (all_but slot) set (without_added slot set) reads unread

reads_fit-lowered : (t : Tree) (slot : ℕ) (source : Source) (set : ℕ → Bool) → source_reads_only source set ≡ true → reads_fit t (adding slot set) ≡ true → reads_fit (lowered t slot source) set ≡ true
reads_fit-lowered Nothing slot source set own reads = both_true _ _ own reads
reads_fit-lowered (Setting other from below) slot source set own reads =
    let r : (source_reads_only from (adding slot set) ≡ true) × (reads_fit below (adding other (adding slot set)) ≡ true) = and_parts _ _ reads in
    if_way (stays_above (Setting other from below) slot) _ _ (λ u. reads_fit u set ≡ true)
    (λ yes. both_true _ _ own reads)
    (λ no.
    let past : (source_reads_only from (all_but slot) ≡ true) × (stays_above below slot ≡ false) = past_setting other from below slot no in
    both_true _ _ (source_without from slot set past.0 r.0)
    (reads_fit-lowered below slot source (adding other set) (source-wider source set (adding other set) (λ i is. or_added other set i is) own)
    (subst (λ s. reads_fit below s ≡ true) (adding_swap other slot set) r.1)))
reads_fit-lowered (Parted cond place taken other) slot source set own reads =
    let r : (reads_only cond (adding slot set) ≡ true) × (reads_fit taken (adding slot set) && reads_fit other (adding slot set) ≡ true) = and_parts _ _ reads in
    let r' : (reads_fit taken (adding slot set) ≡ true) × (reads_fit other (adding slot set) ≡ true) = and_parts _ _ r.1 in
    if_way (stays_above (Parted cond place taken other) slot) _ _ (λ u. reads_fit u set ≡ true)
    (λ yes. both_true _ _ own reads)
    (λ no.
    let past : (reads_only cond (all_but slot) ≡ true) × (is_read_in taken slot && is_read_in other slot ≡ false) = past_split cond place taken other slot no in
    let free : reads_only cond set ≡ true = reads-from cond (adding slot set) (all_but slot) set (without_added slot set) r.0 past.0 in
    if_way (is_read_in taken slot) _ _ (λ u. reads_fit u set ≡ true)
    (λ yes. both_true _ _ free (both_true _ _ (reads_fit-lowered taken slot source set own r'.0) (without other slot set (other_unread _ _ yes past.1) r'.1)))
    (λ no'. both_true _ _ free (both_true _ _ (without taken slot set (true_of (tree_reads_only taken (all_but slot)) no') r'.0) (reads_fit-lowered other slot source set own r'.1))))
reads_fit-lowered (Acting act way) slot source set own reads = both_true _ _ own reads
reads_fit-lowered (Joined left right) slot source set own reads = both_true _ _ own reads

pub reads_fit-tidied : (t : Tree) (set : ℕ → Bool) → reads_fit t set ≡ true → reads_fit (tidied t) set ≡ true
reads_fit-tidied Nothing set reads = refl
reads_fit-tidied (Setting slot source below) set reads =
    let r : (source_reads_only source set ≡ true) × (reads_fit below (adding slot set) ≡ true) = and_parts _ _ reads in
    let rest : reads_fit (tidied below) (adding slot set) ≡ true = reads_fit-tidied below (adding slot set) r.1 in
    if_way (tree_reads_only (tidied below) (all_but slot)) _ _ (λ u. reads_fit u set ≡ true)
    (λ yes. without (tidied below) slot set yes rest) (λ no. reads_fit-lowered (tidied below) slot source set r.0 rest)
reads_fit-tidied (Parted cond place taken other) set reads =
    let r : (reads_only cond set ≡ true) × (reads_fit taken set && reads_fit other set ≡ true) = and_parts _ _ reads in
    let r' : (reads_fit taken set ≡ true) × (reads_fit other set ≡ true) = and_parts _ _ r.1 in
    let first : reads_fit (tidied taken) set ≡ true = reads_fit-tidied taken set r'.0 in
    let second : reads_fit (tidied other) set ≡ true = reads_fit-tidied other set r'.1 in
    parted_way (literal cond) cond place (tidied taken) (tidied other) (λ u. reads_fit u set ≡ true)
    (λ none. both_true _ _ r.0 (both_true _ _ first second)) (λ yes. first) (λ yes. second)
reads_fit-tidied (Acting act way) set reads = reads
reads_fit-tidied (Joined left right) set reads =
    let r : (reads_fit left set ≡ true) × (reads_fit right set ≡ true) = and_parts _ _ reads in
    let first : reads_fit (tidied left) set ≡ true = reads_fit-tidied left set r.0 in
    let second : reads_fit (tidied right) set ≡ true = reads_fit-tidied right set r.1 in
    joined_way (tidied left) (tidied right) (λ u. reads_fit u set ≡ true) (λ yes. second) (λ yes. first) (λ no no'. both_true _ _ first second)
