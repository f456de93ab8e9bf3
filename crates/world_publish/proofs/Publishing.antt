-- A publication keeps the rule of the stand.
use Rattle.std.proofs.Common.{◌≡◌, ◌∙◌, ◌+◌, ◌<◌, ℕ, List, [], ◌∷◌, ◌++◌, set, sym, refl, ap, subst, Result, Err, arith}
use Rattle.std.specs.Prelude.{All, MatchResult}
use Rattle.std.specs.List.{fold}
use Rattle.std.specs.Arc.{arc_value}
use Rattle.std.proofs.lemmas.List.Sums.{fold-append}
use Rattle.std.proofs.lemmas.Option.{slice_get_within}
use Rattle.atomic_table.proofs.Lists.{set_again}
use Rattle.crossbeam_utils.specs.Register.{TurnsAt}
use Rattle.env_table.specs.Table.{Table}
use Rattle.sgl_values.specs.World.{World}
use Rattle.world_publish.specs.Showing.{IsEntry, IsShown, Holds, Publishes}
use Rattle.world_publish.specs.declared.showing.Showing.{Showing}

abbrev state : Showing → Table × ℕ
state showing = (arc_value showing.world, showing.position)

-- the next entry may be shown
moves : (all : List World) (seat old : ℕ) (shown next : Showing) → IsShown all next → next.position ≡ shown.position + 1 → TurnsAt (Holds all) seat old shown next (Publishes all)
moves all seat old shown next entry counted seen holds at =
    let kept : set seen seat old ≡ seen = set_again seen seat old at in
    let later : All (λ n. n < next.position + 1) seen = λ k d inside. let below = holds.1.seen_published k d inside in omega (arith, below, counted) in (
      old,
      (
        entry,
        record {
          some = omega arith;
          within = omega (arith, slice_get_within all next.position (arc_value next.world).world entry);
          seen_published = subst (All (λ n. n < next.position + 1)) (sym kept) later;
        },
      ),
      (entry, counted, refl),
    )

-- what is absorbed last is what is left, and it is the next entry
pub publishes : (all : List World) (seat old : ℕ) (shown next op : Showing) (world : Table) (before list : List Showing)
    → IsEntry all op.position world.world → arc_value op.world ≡ world → shown.position + 1 ≡ op.position
    → list ≡ before ++ op ∷ [] → state next ≡ fold (λ _ showing. state showing) (state shown) list
    → TurnsAt (Holds all) seat old shown next (Publishes all)
publishes all seat old shown next op world before list entry holds counted pending is =
    let last : state next ≡ state op = is ∙ ap (fold (λ _ showing. state showing) (state shown)) pending ∙ fold-append (λ _ showing. state showing) (state shown) before (op ∷ []) in
    let place : next.position ≡ op.position = ap (λ (t : Table × ℕ). t.1) last in
    let same : (arc_value next.world).world ≡ world.world = ap (λ (t : Table × ℕ). t.0.world) last ∙ ap (λ (t : Table). t.world) holds in
    let is_shown : IsShown all next = subst (λ n. IsEntry all n (arc_value next.world).world) (sym place) (subst (IsEntry all op.position) (sym same) entry) in
    moves all seat old shown next is_shown (place ∙ sym counted)

-- what a clause says of a refusal
pub refused : {T E : Type 0} (P : T → Type 0) (A : Type 0) (r : Result T E) (e : E) → r ≡ Err e → MatchResult r P (λ _. A) → A
refused P A r e is h = subst (λ x. MatchResult x P (λ _. A)) is h
