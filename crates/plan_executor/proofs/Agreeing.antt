-- Frames whose slots agree where they are read give the same.
use Rattle.std.proofs.Common.{◌≡◌, ℕ, ◌==◌, Bool, true, false, cond, List, [], ◌∷◌, ◌++◌, map, length, refl, ap, sym, ◌∙◌, subst, arith, Decides}
use Rattle.std.specs.Prelude.{◌||◌, ◌&&◌, slice_index_or, slice_set, flat_map, pos, nat_lt}
use Rattle.std.specs.List.{filter}
use Rattle.std.proofs.lemmas.Bool.{and_parts}
use Rattle.std.proofs.lemmas.Bool.Decides.{Decides-eqb, nat_tests}
use Rattle.std.proofs.lemmas.List.{length-set, length-map, get_or-set_same, get_or-set_other, get_or_past}
use Rattle.std.proofs.lemmas.List.Folds.{flat_map-map}
use Rattle.sgl_values.specs.declared.fault.Val.{Val}
use Rattle.sgl_values.specs.declared.fault.Val.TheVariants.{N}
use Rattle.sgl_typed.specs.Aggregate.{simple_value}
use Rattle.sgl_typed.specs.Laws.{AgreeOn}
use Rattle.sgl_typed.specs.Reads.{reads_only, list_reads_only}
use Rattle.sgl_typed.specs.declared.script.TExpr.{TExpr}
use Rattle.sgl_typed.proofs.Reading.{simple-reads, list-reads}
use Rattle.battle_algebra.specs.Fit.{reads_fit}
use Rattle.battle_algebra.specs.Meaning.{Frame, call_value, source_value, set_slot, effects, is_taken, is_other, condition_items, tree_items, reached}
use Rattle.battle_algebra.specs.Reads.{source_reads_only, adding}
use Rattle.battle_algebra.specs.Tree.{Source, Computed, Called, Tree, Nothing, Setting, Parted, Acting, Joined}
use Rattle.battle_algebra.specs.declared.plan.EffectUse.{EffectUse}
use Rattle.plan_executor.specs.Frames.{Slots, with_slots, frames}

-- slots of rows that agree where a test passes
pub record Agree (set : ℕ → Bool) (a b : Slots) : Type 0 where
  pub long : (k : ℕ) → length (a k) ≡ length (b k)
  pub agree : (k : ℕ) → AgreeOn set (a k) (b k)

-- ---- lists

pub map_map : {A B C : Type 0} (g : B → C) (f : A → B) (xs : List A) → map g (map f xs) ≡ map (λ x. g (f x)) xs
map_map g f [] = refl
map_map g f (x ∷ xs) = ap (λ ys. g (f x) ∷ ys) (map_map g f xs)

filter_step : {A B : Type 0} (f : A → B) (t : Bool) (x : A) (xs : List A) (ys : List B) → ys ≡ map f xs → cond t (f x ∷ ys) ys ≡ map f (cond t (x ∷ xs) xs)
filter_step f true x xs ys same = ap (λ zs. f x ∷ zs) same
filter_step f false x xs ys same = same

pub filter_map : {A B : Type 0} (p : B → Bool) (f : A → B) (xs : List A) → filter p (map f xs) ≡ map f (filter (λ x. p (f x)) xs)
filter_map p f [] = refl
filter_map p f (x ∷ xs) = filter_step f (p (f x)) x (filter (λ x. p (f x)) xs) (filter p (map f xs)) (filter_map p f xs)

-- ---- values

module _ (base : ℕ → Frame) (set : ℕ → Bool) (a b : Slots) (same : Agree set a b) where
  pub value-agree : (e : TExpr) (k : ℕ) → reads_only e set ≡ true → simple_value (with_slots base a k) e ≡ simple_value (with_slots base b k) e
  value-agree e k reads = simple-reads e set (base k) (a k) (b k) reads (same.agree k)

  pub values-agree : (es : List TExpr) (k : ℕ) → list_reads_only es set ≡ true → map (simple_value (with_slots base a k)) es ≡ map (simple_value (with_slots base b k)) es
  values-agree es k reads = list-reads es set (base k) (a k) (b k) reads (same.agree k)

  pub source-agree : (source : Source) (k : ℕ) → source_reads_only source set ≡ true → source_value (with_slots base a k) source ≡ source_value (with_slots base b k) source
  source-agree (Computed e place) k reads = value-agree e k reads
  source-agree (Called call way) k reads = λ i. Rattle.sgl_typed.specs.Aggregate.call_of (base k) (Rattle.std.specs.Prelude.slice_get (base k).script.aggs call.agg) (values-agree call.args k reads i)

  pub effects-agree : (act : EffectUse) (k : ℕ) → list_reads_only act.args set ≡ true → effects act (with_slots base a k) ≡ effects act (with_slots base b k)
  effects-agree act k reads =
      λ i. Rattle.battle_algebra.specs.Meaning.items_of_clause (record (base k) { slots = values-agree act.args k reads i })
      (Rattle.battle_algebra.specs.Meaning.clause_of (Rattle.std.specs.Prelude.slice_get (base k).script.actions act.action) act.clause)

-- the slots behind a node that sets one
abbrev pub setting_slot : (ℕ → Frame) → ℕ → Source → Slots → Slots
setting_slot base slot source slots k = slice_set (slots k) slot (source_value (with_slots base slots k) source)

set-agree : (set : ℕ → Bool) (slot : ℕ) (xs ys : List Val) (v w : Val) → v ≡ w → length xs ≡ length ys → AgreeOn set xs ys → AgreeOn (adding slot set) (slice_set xs slot v) (slice_set ys slot w)
set-agree set slot xs ys v w is long agree = record { agree = λ i passes. step i (i == slot) (Decides-eqb i slot) passes }
  where
    inside : (t : Bool) → nat_lt slot (length xs) ≡ t → slice_index_or (slice_set xs slot v) slot (N (pos 0)) ≡ slice_index_or (slice_set ys slot w) slot (N (pos 0))
    inside true h =
        get_or-set_same xs slot v _ (grind (arith, nat_tests, h)) ∙ is ∙ sym (get_or-set_same ys slot w _ (grind (arith, nat_tests, h, long)))
    inside false h =
        get_or_past (slice_set xs slot v) slot _ (grind (arith, nat_tests, h, length-set xs slot v)) ∙ sym (get_or_past (slice_set ys slot w) slot _ (grind (arith, nat_tests, h, long, length-set ys slot w)))

    step : (i : ℕ) (t : Bool) → Decides t (i ≡ slot) → (t || set i) ≡ true → slice_index_or (slice_set xs slot v) i (N (pos 0)) ≡ slice_index_or (slice_set ys slot w) i (N (pos 0))
    step i true d passes = subst (λ n. slice_index_or (slice_set xs slot v) n (N (pos 0)) ≡ slice_index_or (slice_set ys slot w) n (N (pos 0))) (sym (d.0 refl)) (inside (nat_lt slot (length xs)) refl)
    step i false d passes = get_or-set_other xs slot i v _ (λ e. Rattle.std.proofs.lemmas.Bool.false≢true (d.1 e)) ∙ agree.agree i passes ∙ sym (get_or-set_other ys slot i w _ (λ e. Rattle.std.proofs.lemmas.Bool.false≢true (d.1 e)))

pub setting-agree : (base : ℕ → Frame) (set : ℕ → Bool) (a b : Slots) → Agree set a b → (slot : ℕ) (source : Source) → source_reads_only source set ≡ true
    → Agree (adding slot set) (setting_slot base slot source a) (setting_slot base slot source b)
setting-agree base set a b same slot source reads = record {
  long = λ k. length-set (a k) slot _ ∙ same.long k ∙ sym (length-set (b k) slot _);
  agree = λ k. set-agree set slot (a k) (b k) _ _ (source-agree base set a b same source k reads) (same.long k) (same.agree k);
}

-- ---- frames

pub frames-set : (base : ℕ → Frame) (slot : ℕ) (source : Source) (slots : Slots) (rows : List ℕ) → map (set_slot slot source) (frames base slots rows) ≡ frames base (setting_slot base slot source slots) rows
frames-set base slot source slots rows = map_map (set_slot slot source) (with_slots base slots) rows

pub frames-filter : (base : ℕ → Frame) (slots : Slots) (p : Frame → Bool) (rows : List ℕ) → filter p (frames base slots rows) ≡ frames base slots (filter (λ k. p (with_slots base slots k)) rows)
frames-filter base slots p rows = filter_map p (with_slots base slots) rows

branch-agree : {X : Type 0} (base : ℕ → Frame) (set : ℕ → Bool) (a b : Slots) → Agree set a b → (e : TExpr) → reads_only e set ≡ true
    → (F : List Frame → X) → ((rows : List ℕ) → F (frames base a rows) ≡ F (frames base b rows)) → (p : Val → Bool) (rows : List ℕ)
    → F (filter (λ f. p (simple_value f e)) (frames base a rows)) ≡ F (filter (λ f. p (simple_value f e)) (frames base b rows))
branch-agree base set a b same e reads F law p rows =
    ap F (frames-filter base a (λ f. p (simple_value f e)) rows)
    ∙ law (filter (λ k. p (simple_value (with_slots base a k) e)) rows)
    ∙ (λ i. F (frames base b (filter (λ k. p (value-agree base set a b same e k reads i)) rows)))
    ∙ ap F (sym (frames-filter base b (λ f. p (simple_value f e)) rows))

pub items-agree : (base : ℕ → Frame) (t : Tree) (set : ℕ → Bool) (a b : Slots) → Agree set a b → reads_fit t set ≡ true → (rows : List ℕ)
    → tree_items t (frames base a rows) ≡ tree_items t (frames base b rows)
items-agree base Nothing set a b same fit rows = refl
items-agree base (Setting slot source below) set a b same fit rows =
    let parts : (source_reads_only source set ≡ true) × (reads_fit below (adding slot set) ≡ true) = and_parts _ _ fit in
    ap (tree_items below) (frames-set base slot source a rows)
    ∙ items-agree base below (adding slot set) _ _ (setting-agree base set a b same slot source parts.0) parts.1 rows
    ∙ ap (tree_items below) (sym (frames-set base slot source b rows))
items-agree base (Parted e place taken other) set a b same fit rows =
    let parts : (reads_only e set ≡ true) × ((reads_fit taken set && reads_fit other set) ≡ true) = and_parts _ _ fit in
    let both : (reads_fit taken set ≡ true) × (reads_fit other set ≡ true) = and_parts _ _ parts.1 in
    let value : (k : ℕ) → simple_value (with_slots base a k) e ≡ simple_value (with_slots base b k) e = λ k. value-agree base set a b same e k parts.0 in
    let faults : flat_map (λ f. condition_items f (simple_value f e)) (frames base a rows) ≡ flat_map (λ f. condition_items f (simple_value f e)) (frames base b rows)
    = flat_map-map (λ f. condition_items f (simple_value f e)) (with_slots base a) rows
    ∙ (λ i. flat_map (λ k. condition_items (base k) (value k i)) rows)
    ∙ sym (flat_map-map (λ f. condition_items f (simple_value f e)) (with_slots base b) rows) in
    let first = branch-agree base set a b same e parts.0 (tree_items taken) (λ more. items-agree base taken set a b same both.0 more) is_taken rows in
    let second = branch-agree base set a b same e parts.0 (tree_items other) (λ more. items-agree base other set a b same both.1 more) is_other rows in
    λ i. faults i ++ (first i ++ second i)
items-agree base (Acting act way) set a b same fit rows =
    flat_map-map (effects act) (with_slots base a) rows
    ∙ (λ i. flat_map (λ k. effects-agree base set a b same act k fit i) rows)
    ∙ sym (flat_map-map (effects act) (with_slots base b) rows)
items-agree base (Joined left right) set a b same fit rows =
    let both : (reads_fit left set ≡ true) × (reads_fit right set ≡ true) = and_parts _ _ fit in
    λ i. items-agree base left set a b same both.0 rows i ++ items-agree base right set a b same both.1 rows i

length-frames : (base : ℕ → Frame) (a b : Slots) (rows : List ℕ) → length (frames base a rows) ≡ length (frames base b rows)
length-frames base a b rows = length-map rows (with_slots base a) ∙ sym (length-map rows (with_slots base b))

pub reached-agree : (base : ℕ → Frame) (t : Tree) (set : ℕ → Bool) (a b : Slots) → Agree set a b → reads_fit t set ≡ true → (rows : List ℕ)
    → reached t (frames base a rows) ≡ reached t (frames base b rows)
reached-agree base Nothing set a b same fit rows = λ i. length-frames base a b rows i ∷ []
reached-agree base (Setting slot source below) set a b same fit rows =
    let parts : (source_reads_only source set ≡ true) × (reads_fit below (adding slot set) ≡ true) = and_parts _ _ fit in
    let more : reached below (map (set_slot slot source) (frames base a rows)) ≡ reached below (map (set_slot slot source) (frames base b rows))
    = ap (reached below) (frames-set base slot source a rows)
    ∙ reached-agree base below (adding slot set) _ _ (setting-agree base set a b same slot source parts.0) parts.1 rows
    ∙ ap (reached below) (sym (frames-set base slot source b rows)) in
    λ i. length-frames base a b rows i ∷ more i
reached-agree base (Parted e place taken other) set a b same fit rows =
    let parts : (reads_only e set ≡ true) × ((reads_fit taken set && reads_fit other set) ≡ true) = and_parts _ _ fit in
    let both : (reads_fit taken set ≡ true) × (reads_fit other set ≡ true) = and_parts _ _ parts.1 in
    let first = branch-agree base set a b same e parts.0 (reached taken) (λ more. reached-agree base taken set a b same both.0 more) is_taken rows in
    let second = branch-agree base set a b same e parts.0 (reached other) (λ more. reached-agree base other set a b same both.1 more) is_other rows in
    λ i. length-frames base a b rows i ∷ first i ++ second i
reached-agree base (Acting act way) set a b same fit rows = λ i. length-frames base a b rows i ∷ []
reached-agree base (Joined left right) set a b same fit rows =
    let both : (reads_fit left set ≡ true) × (reads_fit right set ≡ true) = and_parts _ _ fit in
    λ i. length-frames base a b rows i ∷ reached-agree base left set a b same both.0 rows i ++ reached-agree base right set a b same both.1 rows i
