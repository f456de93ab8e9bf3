-- The table tells where the rows between the first values begin and end, and ranks tell of the second ones.
use mir.Syntax.{w64}
use Rattle.std.proofs.Common.{◌≡◌, ◌≤◌, ◌-◌, ◌∙◌, ℕ, ℤ, List, ap, arith, drop, length, map, min, subst, sym, take}
use Rattle.std.specs.Prelude.{int_le, slice_range}
use Rattle.std.proofs.lemmas.Int.{to_z-of_z}
use Rattle.std.proofs.lemmas.List.{length-drop, length-map, length-take}
use Rattle.rank_table.specs.Ranks.{count_below, count_through}
use Rattle.rank_table.proofs.Ranking.{bounded, tells_from, tells_to}
use Rattle.row_groups.specs.declared.ranked.Ranked.{Ranked}
use Rattle.row_groups.specs.Across.{rank_in}
use Rattle.row_groups.specs.Ends.{IsEnd}
use Rattle.row_groups.specs.Ranked.{cut_across, is_before, is_through, rows_between}
use Rattle.row_groups.specs.Strips.{rows_held}
use Rattle.row_groups.proofs.Ranking.{rows_cut}
use Rattle.row_groups.proofs.Striking.{strip_cut}
use Rattle.row_groups.proofs.sorted.SortedGroups.strip.Goals as goal

as_long : {A B : Type 0} (n k : ℕ) (xs : List A) (ys : List B) → length xs ≡ length ys → length (take n (drop k xs)) ≡ length (take n (drop k ys))
as_long n k xs ys same =
    length-take n (drop k xs) ∙ ap (λ m. min n m) (length-drop k xs ∙ ap (λ m. m - k) same ∙ sym (length-drop k ys)) ∙ sym (length-take n (drop k ys))

rows-are : (c : goal.After-of) → c.deref.result.now ≡ map (λ (r : Ranked). r.row) c.self.inside.ranked.items
rows-are c = c.deref.ensures.value ∙ c.self.invariant.rows

ranks-are : (c : goal.After-of) → c.deref-2.result.now ≡ map (rank_in c.self.inside.table) c.self.inside.ranked.items
ranks-are c = c.deref-2.ensures.value ∙ c.self.invariant.ranks

pub of-requires-clause-ranks : goal.of-requires-clause-ranks
of-requires-clause-ranks c =
    let all = c.self.inside.ranked.items in
    let rows : c.deref.result.now ≡ map (λ (r : Ranked). r.row) all = c.deref.ensures.value ∙ c.self.invariant.rows in
    let ranks : c.deref-2.result.now ≡ map (rank_in c.self.inside.table) all = c.deref-2.ensures.value ∙ c.self.invariant.ranks in
    as_long (c.max-to.result - c.before-from.result) c.before-from.result c.deref-2.result.now c.deref.result.now
    (ap length ranks ∙ length-map all (rank_in c.self.inside.table) ∙ sym (ap length rows ∙ length-map all (λ (r : Ranked). r.row)))

pub of-requires-clause-end : goal.of-requires-clause-end
of-requires-clause-end c =
    let end : c.through-end.result ≡ count_through c.args.y2 c.self.inside.table =
    c.through-end.ensures ∙ ap (λ z. count_through z c.self.inside.table) (to_z-of_z w64 c.args.y2 (record { sfits = c.ranges.y2.sfits })) in
    let most : count_through c.args.y2 c.self.inside.table ≤ length c.self.inside.table = bounded (λ z. int_le z c.args.y2) c.self.inside.table in
    omega (arith, end, most, c.self.invariant.few)

pub returns : goal.returns
returns c =
    let all = c.self.inside.ranked.items in
    let table = c.self.inside.table in
    let from = c.before-from.result in
    let to = c.max-to.result in
    let First : ℤ → Type 0 = λ z. IsEnd (is_before c.args.group z) all c.before-from.result in
    let Last : ℤ → Type 0 = λ z. IsEnd (is_through c.args.group z) all c.through.result in
    let first = subst First (to_z-of_z w64 c.args.x1 (record { sfits = c.ranges.x1.sfits })) (c.before-from.ensures all c.self.invariant.rising c.self.invariant.ends) in
    let last = subst Last (to_z-of_z w64 c.args.x2 (record { sfits = c.ranges.x2.sfits })) (c.through.ensures all c.self.invariant.rising c.self.invariant.ends) in
    let low = c.below-low.ensures ∙ ap (λ z. count_below z table) (to_z-of_z w64 c.args.y1 (record { sfits = c.ranges.y1.sfits })) in
    let end = c.through-end.ensures ∙ ap (λ z. count_through z table) (to_z-of_z w64 c.args.y2 (record { sfits = c.ranges.y2.sfits })) in
    c.of.ensures
    ∙ (λ i. rows_held (low i) (end i) (slice_range (rows-are c i) from to) (slice_range (ranks-are c i) from to))
    ∙ strip_cut table c.self.invariant.few (λ number zs. (bounded _ zs, bounded _ zs)) tells_from tells_to all from to c.args.y1 c.args.y2 c.self.invariant.among
    ∙ ap (λ (n : ℕ). map (λ (r : Ranked). r.row) (cut_across c.args.y1 c.args.y2 (slice_range all from n))) c.max-to.ensures
    ∙ ap (λ (l : List Ranked). map (λ (r : Ranked). r.row) (cut_across c.args.y1 c.args.y2 l))
    (rows_cut all c.args.group c.args.x1 c.args.x2 from c.through.result first.0 last.0 first.1 last.1)
    ∙ ap (λ (l : List Ranked). rows_between l c.args.group c.args.x1 c.args.x2 c.args.y1 c.args.y2) c.self.view_is
