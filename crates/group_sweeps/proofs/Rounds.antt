-- One group more is swept.
use Rattle.std.proofs.Common.{◌≡◌, ℕ, ◌+◌, ◌<◌, ◌==◌, true, List, [], map, length, get_or, inl, inr, ap, sym, ◌∙◌, subst, arith}
use Rattle.std.specs.Prelude.{All, Contains}
use Rattle.std.proofs.lemmas.Bool.{cases_lt, eq-eqb, eqb-true}
use Rattle.std.proofs.lemmas.List.Elements.{All-contains}
use Rattle.std.proofs.lemmas.List.FromFn.{get_or-range_with_len, length-range_with_len}
use Rattle.std.specs.List.{range_with_len}
use Rattle.sgl_values.specs.World.{World}
use Rattle.extreme_sweep.specs.declared.window.SweepPoint.{SweepPoint}
use Rattle.extreme_sweep.specs.Windows.{least_inside}
use Rattle.row_groups.specs.Places.{places}
use Rattle.row_groups.proofs.Placing.{place_in, places-within, places_pass, places-map}
use Rattle.group_sweeps.specs.declared.ask.Ask.{Ask}
use Rattle.group_sweeps.specs.declared.found.Found.{Found}
use Rattle.group_sweeps.specs.Asks.{group_at, groups_asked, no_ask, window_at}
use Rattle.group_sweeps.specs.Finds.{AreFoundFor, FindsAll, FindsEach, KeepsOthers, found_at}
use Rattle.group_sweeps.specs.Found.{IsFoundOf}

-- the rows that ask for a group
pub askers_are : (asks : List Ask) (group : ℕ) (rows : List ℕ) → rows ≡ places (λ number. number == group) (groups_asked asks) 0 → rows ≡ places (λ ask. ask.group == group) asks 0
askers_are asks group rows are = are ∙ places-map (λ (ask : Ask). ask.group) (λ number. number == group) asks 0

-- they are rows that ask
pub askers_within : (asks : List Ask) (group : ℕ) (rows : List ℕ) → rows ≡ places (λ ask. ask.group == group) asks 0 → All (λ row. row < length asks) rows
askers_within asks group rows are =
    let whole : 0 + length asks ≡ length asks = omega arith in
    let P : ℕ → Type 0 = λ n. All (λ row. row < n) (places (λ ask. ask.group == group) asks 0) in
    let Q : List ℕ → Type 0 = λ l. All (λ row. row < length asks) l in
    subst Q (sym are) (subst P whole (places-within (λ ask. ask.group == group) asks 0))

pub round : (world : World) (point : ℕ → SweepPoint) (members : List (List ℕ)) (asks : List Ask) (group : ℕ) (rows : List ℕ) (points : List SweepPoint) (old new : List Found)
    → rows ≡ places (λ ask. ask.group == group) asks 0 → points ≡ map point (get_or members group [])
    → FindsAll world point members asks group old → FindsEach world points asks rows (length rows) new → KeepsOthers rows old new
    → FindsAll world point members asks (group + 1) new
round world point members asks group rows points old new are given before each others = λ row inside below. elim (cases_lt (group_at asks row) group) [
  | inl lt ↦
      let Q : Found → Type 0 = λ f. IsFoundOf world (least_inside (map point (get_or members (group_at asks row) [])) (window_at asks row)) f in
      let not_here : Contains rows row → ⊥ = λ among.
      let P : List ℕ → Type 0 = λ l. Contains l row in
      let passes = All-contains (λ n. (group_at asks n == group) ≡ true) (places (λ ask. ask.group == group) asks 0) row (places_pass (λ ask. ask.group == group) [] asks no_ask) (subst P are among) in
      omega (arith, lt, eqb-true (group_at asks row) group passes) in
      subst Q (sym (others row not_here)) (before row inside lt)
  | inr le ↦
      let here : group_at asks row ≡ group = omega (arith, below, le) in
      let there = place_in (λ ask. ask.group == group) asks 0 row no_ask inside (eq-eqb (group_at asks row) group here) in
      let lt : there.0 < length rows = omega (arith, there.1, ap length are) in
      let at : get_or rows there.0 0 ≡ row = ap (λ l. get_or l there.0 0) are ∙ there.2 0 ∙ zero-more row in
      let P : ℕ → Type 0 = λ n. IsFoundOf world (least_inside points (window_at asks n)) (found_at new n) in
      let S : List SweepPoint → Type 0 = λ ps. IsFoundOf world (least_inside ps (window_at asks row)) (found_at new row) in
      subst S (given ∙ ap (λ g. map point (get_or members g [])) (sym here)) (subst P at (each there.0 lt))
]
  where
    zero-more : (n : ℕ) → 0 + n ≡ n
    zero-more n = omega arith

-- where there is one group, all rows ask for it
pub sole_found : (world : World) (point : ℕ → SweepPoint) (members : List (List ℕ)) (asks : List Ask) (rows : List ℕ) (found : List Found) → length members ≡ 1
    → rows ≡ range_with_len 0 (length asks) → AreFoundFor world (map point (get_or members 0 [])) asks rows (length rows) found
    → (length found ≡ length asks) × FindsAll world point members asks (length members) found
sole_found world point members asks rows found sole all are =
    let many : length rows ≡ length asks = ap length all ∙ length-range_with_len 0 (length asks) in (
      are.all ∙ many,
      λ row inside below.
          let own : get_or rows row 0 ≡ row = ap (λ l. get_or l row 0) all ∙ get_or-range_with_len 0 (length asks) row 0 inside ∙ omega arith in
          let first : 0 ≡ group_at asks row = omega (arith, below, sole) in
          let P : ℕ → Type 0 = λ n. IsFoundOf world (least_inside (map point (get_or members 0 [])) (window_at asks n)) (found_at found row) in
          let Q : ℕ → Type 0 = λ g. IsFoundOf world (least_inside (map point (get_or members g [])) (window_at asks row)) (found_at found row) in
          subst Q first (subst P own (are.each row (omega (arith, inside, many)))),
    )
