-- One place more has its rank.
use Rattle.std.proofs.Common.{◌≡◌, ◌∙◌, ℕ, get_or, set, sym, subst, arith}
use Rattle.std.proofs.lemmas.List.{length-set}
use Rattle.range_aggregate.proofs.Inverse.{AreInverse-told, inside, rank_more}
use Rattle.range_aggregate.proofs.heights.ranks_of.Goals as goal

pub index_mut-requires : goal.index_mut-requires
index_mut-requires c =
    omega (arith, c.from.ensures, c.loop-number.invariant.long, inside c.args.places.now c.requires.all c.loop-number.number c.loop-number-test.true)

pub loop-number-preserved : goal.loop-number-preserved
loop-number-preserved c =
    let places = c.args.places.now in let ranks = c.loop-number.ranks.items in let number = c.loop-number.number in
    record {
      long = length-set ranks c.from.result number ∙ c.loop-number.invariant.long;
      each = λ k below.
          subst (λ (p : ℕ). get_or (set ranks p number) (get_or places k 0) 0 ≡ k) (sym c.from.ensures)
          (rank_more places c.requires.all ranks number c.loop-number.invariant.long c.loop-number-test.true c.loop-number.invariant.each k below);
    }

pub returns : goal.returns
returns c =
    AreInverse-told c.args.places.now c.requires.all c.loop-number.ranks.items c.loop-number.invariant.long
    (λ k below. c.loop-number.invariant.each k (omega (arith, below, c.loop-number-test.false)))
