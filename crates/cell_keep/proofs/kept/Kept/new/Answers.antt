use Rattle.std.proofs.Common.{◌++◌, List, ℕ, arith, subst, sym}
use Rattle.std.specs.List.{range_with_len}
use Rattle.std.specs.List.Sorted.{IsPermutation}
use Rattle.std.proofs.lemmas.List.FromFn.{length-range_with_len}
use Rattle.std.proofs.lemmas.List.Sorted.{IsPermutation-sym, length_permutation}
use Rattle.cell_keep.proofs.Holding.{none_rise}
use Rattle.cell_keep.proofs.kept.Kept.new.Goals as goal

pub invariant_of-result : goal.invariant_of-result
invariant_of-result c =
    let held = c.in_ok-held.held in
    let free = c.in_ok-free.free in
    let rows = range_with_len 0 65536 in
    let all : IsPermutation free.items rows = IsPermutation-sym rows free.items c.in_ok-free.ensures in
    record {
      are_placed = c.in_ok-held.ensures.placed;
      shared = subst (λ (l : List ℕ). IsPermutation (l ++ free.items) rows) (sym c.in_ok-held.ensures.none) all;
      rising = none_rise held c.in_ok-held.ensures.none;
      room = c.in_ok-held.ensures.room;
      room_keys = c.in_ok-held.ensures.room_keys;
      room_free = omega (arith, free.ok, length_permutation rows free.items c.in_ok-free.ensures, length-range_with_len 0 65536);
    }
