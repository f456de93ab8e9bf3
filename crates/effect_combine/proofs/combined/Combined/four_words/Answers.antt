-- The places stand the width apart.
use Rattle.std.proofs.Common.{◌≡◌, ◌+◌, ◌*◌, ◌<◌, ℕ, subst, arith, get_or, List, [], ◌∷◌}
use Rattle.effect_combine.specs.Combined.{word_at, CellWords}
use Rattle.effect_combine.proofs.Grids.{each_of_four, later_inside, later_word}
use Rattle.effect_combine.proofs.combined.Combined.four_words.Goals as goal

pub index-requires-3 : goal.index-requires-3
index-requires-3 c =
    let own = c.self.inside in
    let rows : own.rows ≡ c.args.self.now.rows = λ i. (c.self.view_is i).rows in
    let width : own.width ≡ c.args.self.now.width = λ i. (c.self.view_is i).width in
    let inside = later_inside c.args.row c.args.attr own.width own.rows 2 (omega (arith, rows, c.requires.rows)) (omega (arith, width, c.requires.attr)) in
    omega (arith, inside, c.self.invariant.full)

pub index-requires-4 : goal.index-requires-4
index-requires-4 c =
    let own = c.self.inside in
    let rows : own.rows ≡ c.args.self.now.rows = λ i. (c.self.view_is i).rows in
    let width : own.width ≡ c.args.self.now.width = λ i. (c.self.view_is i).width in
    let inside = later_inside c.args.row c.args.attr own.width own.rows 3 (omega (arith, rows, c.requires.rows)) (omega (arith, width, c.requires.attr)) in
    omega (arith, inside, c.self.invariant.full)

pub returns : goal.returns
returns c =
    let own = c.self.inside in
    let row = c.args.row in
    let attr = c.args.attr in
    let words = own.words.items in
    let rows : own.rows ≡ c.args.self.now.rows = λ i. (c.self.view_is i).rows in
    let width : own.width ≡ c.args.self.now.width = λ i. (c.self.view_is i).width in
    let inside : (k : ℕ) → k < 4 → row * own.width + attr + k * own.width < own.rows * own.width =
    λ k below. later_inside row attr own.width own.rows k (omega (arith, below, rows, c.requires.rows)) (omega (arith, width, c.requires.attr)) in
    let four : List ℕ = c.index.result.now ∷ c.index-2.result.now ∷ c.index-3.result.now ∷ c.index-4.result.now ∷ [] in
    subst (λ (table : CellWords). (k : ℕ) → k < 4 → get_or four k 0 ≡ word_at table (row + k) attr) c.self.view_is
    (each_of_four (λ k word. word ≡ get_or words ((row + k) * own.width + attr) 0) c.index.result.now c.index-2.result.now c.index-3.result.now c.index-4.result.now
    (later_word words row attr own.width 0 _ _ _ c.index.ensures (omega arith) (omega (arith, inside 0 (omega arith), c.self.invariant.full)))
    (later_word words row attr own.width 1 _ _ _ c.index-2.ensures (omega arith) (omega (arith, inside 1 (omega arith), c.self.invariant.full)))
    (later_word words row attr own.width 2 _ _ _ c.index-3.ensures (omega arith) (omega (arith, inside 2 (omega arith), c.self.invariant.full)))
    (later_word words row attr own.width 3 _ _ _ c.index-4.ensures (omega arith) (omega (arith, inside 3 (omega arith), c.self.invariant.full))))
