-- Paths through nodes, and what is left of them where nodes are tied anew.
use Rattle.std.proofs.Common.{◌≡◌, ◌≢◌, ℕ, zero, suc, ◌+◌, ◌<◌, ◌≤◌, nat_lt, cond, Bool, true, false, List, [], ◌∷◌, ◌++◌, length, get_or, refl, sym, ap, ◌∙◌, arith}
use Rattle.std.specs.Prelude.{All, Contains, slice_get, Option, Some, None}
use Rattle.std.proofs.lemmas.Bool.Decides.{nat_tests}
use Rattle.std.proofs.lemmas.List.Elements.{All-head, All-tail}
use Rattle.std.proofs.lemmas.Option.{none-some, same_Some}
use Rattle.cell_links.specs.Circles.{walk, Path}
use Rattle.cell_links.proofs.Rows.{Contains-head, Contains-tail, Apart, Apart-head, Apart-tail}

pub Path-join : (next previous : List ℕ) (from : ℕ) (rows : List ℕ) (at : ℕ) (more : List ℕ) (to : ℕ)
    → Path next previous from rows at → Path next previous at more to → Path next previous from (rows ++ at ∷ more) to
Path-join next previous from [] at more to front back = (front.0, front.1, back)
Path-join next previous from (row ∷ rows) at more to front back = (front.0, front.1, Path-join next previous row rows at more to front.2 back)

pub Path-front : (next previous : List ℕ) (from : ℕ) (rows : List ℕ) (at : ℕ) (more : List ℕ) (to : ℕ)
    → Path next previous from (rows ++ at ∷ more) to → Path next previous from rows at
Path-front next previous from [] at more to path = (path.0, path.1)
Path-front next previous from (row ∷ rows) at more to path = (path.0, path.1, Path-front next previous row rows at more to path.2)

pub Path-back : (next previous : List ℕ) (from : ℕ) (rows : List ℕ) (at : ℕ) (more : List ℕ) (to : ℕ)
    → Path next previous from (rows ++ at ∷ more) to → Path next previous at more to
Path-back next previous from [] at more to path = path.2
Path-back next previous from (row ∷ rows) at more to path = Path-back next previous row rows at more to path.2

-- the node before the end is one of the path
pub Path-last : (next previous : List ℕ) (from : ℕ) (rows : List ℕ) (to : ℕ) → Path next previous from rows to → Contains (from ∷ rows) (get_or previous to 0)
Path-last next previous from [] to path = (0, omega arith, sym path.1)
Path-last next previous from (row ∷ rows) to path = Contains-tail from (row ∷ rows) (get_or previous to 0) (Path-last next previous row rows to path.2)

-- and so is the one behind the start
pub Path-first : (next previous : List ℕ) (from : ℕ) (rows : List ℕ) (to : ℕ) → Path next previous from rows to → Contains (rows ++ to ∷ []) (get_or next from 0)
Path-first next previous from [] to path = (0, omega arith, sym path.0)
Path-first next previous from (row ∷ rows) to path = (0, omega arith, sym path.0)

-- a path whose nodes are tied as they were
pub Path-same : (next previous new_next new_previous : List ℕ) (from : ℕ) (rows : List ℕ) (to : ℕ)
    → get_or new_next from 0 ≡ get_or next from 0
    → All (λ row. (get_or new_next row 0 ≡ get_or next row 0) × (get_or new_previous row 0 ≡ get_or previous row 0)) rows
    → get_or new_previous to 0 ≡ get_or previous to 0
    → Path next previous from rows to → Path new_next new_previous from rows to
Path-same next previous new_next new_previous from [] to first inner last path = (first ∙ path.0, last ∙ path.1)
Path-same next previous new_next new_previous from (row ∷ rows) to first inner last path =
    let same : ℕ → Type 0 = λ x. (get_or new_next x 0 ≡ get_or next x 0) × (get_or new_previous x 0 ≡ get_or previous x 0) in
    let here = All-head same row rows inner in
    (first ∙ path.0, here.1 ∙ path.1, Path-same next previous new_next new_previous row rows to here.0 (All-tail same row rows inner) last path.2)

-- a path whose last node is tied to another end
pub Path-turned : (next previous new_next new_previous : List ℕ) (from : ℕ) (rows : List ℕ) (to other : ℕ)
    → Apart (from ∷ rows)
    → ((row : ℕ) → Contains (from ∷ rows) row → row ≢ get_or previous to 0 → get_or new_next row 0 ≡ get_or next row 0)
    → All (λ row. get_or new_previous row 0 ≡ get_or previous row 0) rows
    → get_or new_next (get_or previous to 0) 0 ≡ other → get_or new_previous other 0 ≡ get_or previous to 0
    → Path next previous from rows to → Path new_next new_previous from rows other
Path-turned next previous new_next new_previous from [] to other apart same back there here path =
    (ap (λ (node : ℕ). get_or new_next node 0) (sym path.1) ∙ there, here ∙ path.1)
Path-turned next previous new_next new_previous from (row ∷ rows) to other apart same back there here path =
    let last = Path-last next previous row rows to path.2 in
    let away : from ≢ get_or previous to 0 = Apart-head from (row ∷ rows) (get_or previous to 0) apart last in
    let kept : ℕ → Type 0 = λ x. get_or new_previous x 0 ≡ get_or previous x 0 in (
      same from (Contains-head from (row ∷ rows)) away ∙ path.0,
      All-head kept row rows back ∙ path.1,
      Path-turned next previous new_next new_previous row rows to other (Apart-tail from (row ∷ rows) apart) (λ x within. same x (Contains-tail from (row ∷ rows) x within)) (All-tail kept row rows back) there here path.2,
    )

-- a walk from a node on finds the rows of its path
walk-node : (far rows : ℕ) (next : List ℕ) (node : ℕ) → rows ≤ node → walk far rows next node ≡ []
walk-node zero rows next node past = refl
walk-node (suc far) rows next node past = let out : nat_lt node rows ≡ false = grind (arith, nat_tests) in ap (λ (b : Bool). cond b (node ∷ walk far rows next (get_or next node 0)) []) out

walk-row : (far rows : ℕ) (next : List ℕ) (node : ℕ) → node < rows → walk (suc far) rows next node ≡ node ∷ walk far rows next (get_or next node 0)
walk-row far rows next node below = let in' : nat_lt node rows ≡ true = grind (arith, nat_tests) in ap (λ (b : Bool). cond b (node ∷ walk far rows next (get_or next node 0)) []) in'

pub walk-Path : (far rows : ℕ) (next previous : List ℕ) (from : ℕ) (xs : List ℕ) (to : ℕ)
    → All (λ x. x < rows) xs → rows ≤ to → length xs ≤ far → Path next previous from xs to → walk far rows next (get_or next from 0) ≡ xs
walk-Path far rows next previous from [] to below past few path = ap (walk far rows next) path.0 ∙ walk-node far rows next to past
walk-Path zero rows next previous from (x ∷ xs) to below past few path = absurd (omega (arith, few))
walk-Path (suc far) rows next previous from (x ∷ xs) to below past few path =
    ap (walk (suc far) rows next) path.0
    ∙ walk-row far rows next x (All-head (λ x. x < rows) x xs below)
    ∙ ap (λ (l : List ℕ). x ∷ l) (walk-Path far rows next previous x xs to (All-tail (λ x. x < rows) x xs below) past (omega (arith, few)) path.2)

-- ---- what is read of a path

-- the row of a node, as the code tells it
abbrev pub row_at : ℕ → ℕ → Option ℕ
row_at node rows = cond (nat_lt node rows) (Some node) None

row_at-row : (node rows : ℕ) → node < rows → row_at node rows ≡ Some node
row_at-row node rows below = let in' : nat_lt node rows ≡ true = grind (arith, nat_tests) in ap (λ (b : Bool). cond b (Some node) None) in'

row_at-node : (node rows : ℕ) → rows ≤ node → row_at node rows ≡ None
row_at-node node rows past = let out : nat_lt node rows ≡ false = grind (arith, nat_tests) in ap (λ (b : Bool). cond b (Some node) None) out

-- the first row of a path
pub first-Path : (limit : ℕ) (next previous : List ℕ) (from : ℕ) (rows : List ℕ) (to : ℕ) → All (λ row. row < limit) rows → limit ≤ to
    → Path next previous from rows to → row_at (get_or next from 0) limit ≡ slice_get rows 0
first-Path limit next previous from [] to below past path = ap (λ (node : ℕ). row_at node limit) path.0 ∙ row_at-node to limit past
first-Path limit next previous from (row ∷ rows) to below past path =
    ap (λ (node : ℕ). row_at node limit) path.0 ∙ row_at-row row limit (All-head (λ row. row < limit) row rows below)

-- the row behind one of a path
pub after-Path : (limit : ℕ) (next previous : List ℕ) (from : ℕ) (rows : List ℕ) (to : ℕ) (place row : ℕ) → All (λ row. row < limit) rows → limit ≤ to
    → slice_get rows place ≡ Some row → Path next previous from rows to → row_at (get_or next row 0) limit ≡ slice_get rows (place + 1)
after-Path limit next previous from [] to place row below past there path = absurd (none-some row there)
after-Path limit next previous from (first ∷ rows) to zero row below past there path =
    ap (λ (node : ℕ). row_at (get_or next node 0) limit) (sym (same_Some first row there))
    ∙ first-Path limit next previous first rows to (All-tail (λ row. row < limit) first rows below) past path.2
after-Path limit next previous from (first ∷ rows) to (suc place) row below past there path =
    let one : suc (place + 1) ≡ suc place + 1 = omega arith in
    after-Path limit next previous first rows to place row (All-tail (λ row. row < limit) first rows below) past there path.2 ∙ ap (slice_get (first ∷ rows)) one
