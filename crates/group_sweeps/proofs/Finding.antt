-- What sweeps find, row by row.
use Rattle.std.proofs.Common.{◌≡◌, ℕ, ◌+◌, ◌<◌, Global, List, [], ◌∷◌, ◌++◌, length, get_or, Option, Some, Result, Ok, Err, Vec, inl, inr, ap, sym, ◌∙◌, subst, arith, length-append}
use Rattle.std.specs.Prelude.{All, Contains, IfOk, IsPermutation, slice_set}
use Rattle.std.proofs.lemmas.Bool.{cases_eq, cases_lt}
use Rattle.std.proofs.Math.Seq.{get_or-append_seam}
use Rattle.std.proofs.lemmas.List.{get_or_append_left, get_or-set_same, get_or-set_other, get_or_default}
use Rattle.std.proofs.lemmas.List.Elements.{Contains-get_or, All-get_or}
use Rattle.sgl_values.specs.World.{Row, World, row_at, KeysRise}
use Rattle.sgl_values.specs.declared.memory.Memory.{Memory}
use Rattle.env_table.proofs.Keys.{same_row}
use Rattle.extreme_sweep.specs.declared.pair.Pair.{Pair}
use Rattle.extreme_sweep.specs.declared.window.SweepPoint.{SweepPoint}
use Rattle.extreme_sweep.specs.Laws.{LeastInAnyOrder}
use Rattle.extreme_sweep.specs.Windows.{least_inside}
use Rattle.group_sweeps.specs.declared.ask.Ask.{Ask}
use Rattle.group_sweeps.specs.declared.found.Found.{Found}
use Rattle.group_sweeps.specs.declared.found.Found.TheVariants.{Row as ARow, Nothing}
use Rattle.group_sweeps.specs.Asks.{window_at}
use Rattle.group_sweeps.specs.Finds.{AreFoundFor, FindsEach, KeepsOthers, found_at}
use Rattle.group_sweeps.specs.Found.{IsFoundOf}

-- the row with the key of another one is that one
row-is : (world : World) (number : ℕ) (row : Row) → KeysRise 0 world.rows → number < length world.rows → Contains world.rows row → (row_at world number).key ≡ row.key → row_at world number ≡ row
row-is world number row rise inside among same =
    let none : Row = record { key = 0; values = [] } in
    let there : get_or world.rows among.0 none ≡ row = get_or_default world.rows among.0 none row among.1 ∙ among.2 in
    let one = same_row world.rows 0 rise number among.0 none inside among.1 (same ∙ ap (λ (r : Row). r.key) (sym there)) in
    ap (λ n. get_or world.rows n none) one ∙ there

pub found_row : (world : World) (number : ℕ) (pair : Pair) → KeysRise 0 world.rows → number < length world.rows → (row_at world number).key ≡ pair.key → IsFoundOf world (Some pair) (ARow number)
found_row world number pair rise inside key = λ row among same. row-is world number row rise inside among (key ∙ sym same)

module _ (rows : List ℕ) (i : ℕ) (inside : i < length rows) (found : List Found) (value : Found) (within : All (λ row. row < length found) rows) where
  placed-in : get_or rows i 0 < length found
  placed-in = All-get_or (λ row. row < length found) rows i 0 inside within

  -- one row more has found what its window holds
  pub found_more : (world : World) (points : List SweepPoint) (asks : List Ask) → FindsEach world points asks rows i found
      → IsFoundOf world (least_inside points (window_at asks (get_or rows i 0))) value
      → FindsEach world points asks rows (i + 1) (slice_set found (get_or rows i 0) value)
  found_more world points asks before good = λ k below. elim (cases_eq (get_or rows k 0) (get_or rows i 0)) [
    | inl same ↦
        let P : ℕ → Type 0 = λ n. IsFoundOf world (least_inside points (window_at asks n)) (found_at (slice_set found (get_or rows i 0) value) n) in
        let Q : Found → Type 0 = λ f. IsFoundOf world (least_inside points (window_at asks (get_or rows i 0))) f in
        subst P (sym same) (subst Q (sym (get_or-set_same found (get_or rows i 0) value Nothing placed-in)) good)
    | inr other ↦
        let Q : Found → Type 0 = λ f. IsFoundOf world (least_inside points (window_at asks (get_or rows k 0))) f in
        elim (cases_lt k i) [
          | inl lt ↦ subst Q (sym (get_or-set_other found (get_or rows i 0) (get_or rows k 0) value Nothing other)) (before k lt)
          | inr le ↦ let last : k ≡ i = omega (arith, below, le) in absurd (other (ap (λ (n : ℕ). get_or rows n 0) last))
        ]
  ]

  pub others_more : (initial : List Found) → KeepsOthers rows initial found → KeepsOthers rows initial (slice_set found (get_or rows i 0) value)
  others_more initial before = λ row missing.
      let P : ℕ → Type 0 = λ n. Contains rows n in
      get_or-set_other found (get_or rows i 0) row value Nothing (λ same. missing (subst P (sym same) (Contains-get_or rows i 0 inside))) ∙ before row missing

-- for one row more something is found
pub found_pushed : (world : World) (points : List SweepPoint) (asks : List Ask) (rows : List ℕ) (i : ℕ) (own new : List Found) (value : Found) (answer : Option Pair)
    → AreFoundFor world points asks rows i own → new ≡ own ++ value ∷ [] → answer ≡ least_inside points (window_at asks (get_or rows i 0)) → IsFoundOf world answer value
    → AreFoundFor world points asks rows (i + 1) new
found_pushed world points asks rows i own new value answer before pushed right good = record {
  all = ap length pushed ∙ length-append own (value ∷ []) ∙ ap (λ n. n + 1) before.all;
  each = λ k below.
      let Q : Found → Type 0 = λ f. IsFoundOf world (least_inside points (window_at asks (get_or rows k 0))) f in
      elim (cases_lt k i) [
        | inl lt ↦ subst Q (sym (ap (λ l. get_or l k Nothing) pushed ∙ get_or_append_left own (value ∷ []) Nothing k (omega (arith, lt, before.all)))) (before.each k lt)
        | inr le ↦
            let last : i ≡ k = omega (arith, below, le) in
            let end : length own ≡ k = before.all ∙ last in
            let P : Option Pair → Type 0 = λ o. IsFoundOf world o value in
            subst Q (sym (ap (λ l. get_or l k Nothing) pushed ∙ ap (λ n. get_or (own ++ value ∷ []) n Nothing) (sym end) ∙ get_or-append_seam own value [] Nothing))
            (subst P (right ∙ ap (λ (n : ℕ). least_inside points (window_at asks (get_or rows n 0))) last) good)
      ];
}

-- what was found for a row
pub own_is : (world : World) (points : List SweepPoint) (asks : List Ask) (rows : List ℕ) (count i : ℕ) (own : List Found) (d : Found) → AreFoundFor world points asks rows count own
    → i < count → IsFoundOf world (least_inside points (window_at asks (get_or rows i 0))) (get_or own i d)
own_is world points asks rows count i own d are inside =
    let Q : Found → Type 0 = λ f. IsFoundOf world (least_inside points (window_at asks (get_or rows i 0))) f in
    subst Q (get_or_default own i Nothing d (omega (arith, inside, are.all))) (are.each i inside)

-- what was found of the points in another order
found-moved : LeastInAnyOrder → (world : World) (points others : List SweepPoint) (asks : List Ask) (rows : List ℕ) (count : ℕ) (own : List Found) → IsPermutation points others
    → AreFoundFor world others asks rows count own → AreFoundFor world points asks rows count own
found-moved law world points others asks rows count own moved are = record {
  all = are.all;
  each = λ k below. subst (λ (o : Option Pair). IsFoundOf world o (found_at own k)) (law points others (window_at asks (get_or rows k 0)) moved) (are.each k below);
}

pub made_moved : LeastInAnyOrder → (world : World) (points others : List SweepPoint) (asks : List Ask) (rows : List ℕ) (count : ℕ) (made : Result (Vec Found Global) Memory)
    → IsPermutation points others → IfOk made (λ own. AreFoundFor world others asks rows count own.items) → IfOk made (λ own. AreFoundFor world points asks rows count own.items)
made_moved law world points others asks rows count (Ok own) moved are = found-moved law world points others asks rows count own.items moved are
made_moved law world points others asks rows count (Err e) moved are = tt
