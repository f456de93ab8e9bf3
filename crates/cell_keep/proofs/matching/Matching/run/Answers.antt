use Rattle.std.proofs.Common.{◌≡◌, ◌∙◌, ◌∷◌, ◌++◌, List, ℕ, ap, arith, get_or, length, subst, sym, take, length-take-le}
use Rattle.std.specs.List.Sorted.{IsPermutation}
use Rattle.std.proofs.lemmas.List.{length-append, take_more}
use Rattle.std.proofs.lemmas.List.Sorted.{IsPermutation-push_more, length_permutation}
use Rattle.cell_keep.specs.Rows.{rows_in}
use Rattle.cell_keep.proofs.matching.Matching.run.Goals as goal

pub pass-requires-clause-room : goal.pass-requires-clause-room
pass-requires-clause-room c =
    let order = c.args.order.now in
    let i = c.loop-place.place in
    let taken = rows_in c.loop-place.self.taken.items in
    let gone = c.loop-place.self.gone.items in
    omega (
      arith,
      c.loop-place-test.true,
      c.requires.few,
      ap length c.pass_below.ensures.gone,
      length_permutation (take i order) (taken ++ gone) c.loop-place.invariant.shared,
      length-append taken gone,
      length-take-le i order (omega (arith, c.loop-place-test.true)),
    )

pub loop-place-preserved : goal.loop-place-preserved
loop-place-preserved c =
    let order = c.args.order.now in
    let i = c.loop-place.place in
    let row = get_or order i 0 in
    let taken = rows_in c.loop-place.self.taken.items in
    let gone = c.loop-place.self.gone.items in
    let now = rows_in c.pass.new.self.taken.items ++ c.pass.new.self.gone.items in
    let same : rows_in c.pass_below.new.self.taken.items ++ c.pass_below.new.self.gone.items ≡ taken ++ gone =
    ap (λ (l : List ℕ). l ++ c.pass_below.new.self.gone.items) c.pass_below.ensures.rows ∙ ap (λ (l : List ℕ). taken ++ l) c.pass_below.ensures.gone in
    record {
      each = c.pass.ensures.each;
      shared = subst (λ (l : List ℕ). IsPermutation l now) (sym (take_more order i 0 c.loop-place-test.true))
          (IsPermutation-push_more (take i order) (taken ++ gone) now row c.loop-place.invariant.shared (subst (λ (l : List ℕ). IsPermutation (row ∷ l) now) same c.pass.ensures.shared));
    }
