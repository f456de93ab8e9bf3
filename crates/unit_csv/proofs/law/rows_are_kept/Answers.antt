use Rattle.std.proofs.Common.{List, [], ◌∷◌, ◌++◌, Bool, true, false, cond, append-nil}
use Rattle.std.specs.Prelude.{nat_lt}
use Rattle.std.specs.List.{fold}
use Rattle.std.specs.List.Sorted.{IsPermutation}
use Rattle.std.proofs.lemmas.List.Sorted.{IsPermutation-append_left, IsPermutation-cons, IsPermutation-middle, IsPermutation-refl, IsPermutation-sym, IsPermutation-trans}
use Rattle.sgl_values.specs.World.{Row}
use Rattle.unit_csv.specs.Units.{placed}
use Rattle.unit_csv.proofs.law.rows_are_kept.Goals as goal

placed_here : (b : Bool) (first row : Row) (rows more : List Row) → IsPermutation (row ∷ rows) more → IsPermutation (row ∷ (first ∷ rows)) (cond b (row ∷ (first ∷ rows)) (first ∷ more))
placed_here true first row rows more behind = IsPermutation-refl (row ∷ (first ∷ rows))
placed_here false first row rows more behind =
    IsPermutation-trans (row ∷ (first ∷ rows)) (first ∷ (row ∷ rows)) (first ∷ more)
    (IsPermutation-sym (first ∷ (row ∷ rows)) (row ∷ (first ∷ rows)) (IsPermutation-middle (first ∷ []) row rows))
    (IsPermutation-cons first (row ∷ rows) more behind)

placed-IsPermutation : (rows : List Row) (row : Row) → IsPermutation (row ∷ rows) (placed rows row)
placed-IsPermutation [] row = IsPermutation-refl (row ∷ [])
placed-IsPermutation (first ∷ rows) row = placed_here (nat_lt row.key first.key) first row rows (placed rows row) (placed-IsPermutation rows row)

fold-IsPermutation : (before rows : List Row) → IsPermutation (before ++ rows) (fold placed before rows)
fold-IsPermutation before [] = rw append-nil (IsPermutation-refl before)
fold-IsPermutation before (row ∷ rows) =
    IsPermutation-trans (before ++ (row ∷ rows)) (row ∷ (before ++ rows)) (fold placed (placed before row) rows)
    (IsPermutation-middle before row rows)
    (IsPermutation-trans (row ∷ (before ++ rows)) (placed before row ++ rows) (fold placed (placed before row) rows)
    (IsPermutation-append_left rows (row ∷ before) (placed before row) (placed-IsPermutation before row))
    (fold-IsPermutation (placed before row) rows))

pub returns : goal.returns
returns c = λ rows. fold-IsPermutation [] rows
