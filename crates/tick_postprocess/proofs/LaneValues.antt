-- The values of lanes, of which each list has those of an attribute.
use Rattle.std.proofs.Common.{◌≡◌, ◌∙◌, ℕ, ℤ, List, [], length, slice_index_or, sym, arith}
use Rattle.std.proofs.lemmas.List.{get_or-map, length-map, same_lists}
use Rattle.env_table.specs.Table.{numbers_in}
use Rattle.sgl_lanes.specs.Lanes.{lane_of}

-- a lane has the same values where it has the same number in each column
pub same_values : (lane : ℕ) (columns others : List (List ℤ)) → length columns ≡ length others
    → ((a : ℕ) → lane_of (slice_index_or columns a []) lane ≡ lane_of (slice_index_or others a []) lane) → numbers_in columns lane ≡ numbers_in others lane
same_values lane columns others long same =
    let number : List ℤ → ℤ = λ column. lane_of column lane in
    let here = length-map columns number in
    let there = length-map others number in
    same_lists (numbers_in columns lane) (numbers_in others lane) (here ∙ long ∙ sym there) (λ a d lt.
    get_or-map number columns a [] d (omega (arith, lt, here)) ∙ same a ∙ sym (get_or-map number others a [] d (omega (arith, lt, here, long))))
