use Rattle.std.proofs.Common.{◌≡◌, ℕ, List, get_or, set, sym, ◌∙◌, subst, arith}
use Rattle.std.proofs.Math.ListN.{length-set}
use Rattle.std.proofs.lemmas.List.{get_or_default}
use Rattle.sgl_values.specs.declared.fault.Tag.{Tag}
use Rattle.effect_combine.specs.Words.{merged}
use Rattle.tick_core.specs.Core.{tag_of}
use Rattle.effect_board.proofs.Own.{AreOwn, own_more}
use Rattle.effect_board.proofs.handles.Seat.keep.Goals as goal

-- the word is merged with the amount
pub invariant_of-self-clause-own_is : goal.invariant_of-self-clause-own_is
invariant_of-self-clause-own_is c =
    let seat = c.args.self.now in
    let items : List ℕ = seat.own.items in
    let tags : List Tag = seat.place.me.0.tags in
    let word : ℕ = c.args.word in
    let amount : ℕ = c.args.amount in
    let read : c.index.result.now ≡ get_or items word 0 = c.index.ensures ∙ get_or_default items word c.index.result.now 0 c.requires.inside in
    let found : merged (tag_of tags word) (get_or items word 0) amount ≡ c.merge.result
    = (λ k. merged (sym c.requires.tag k) (sym read k) amount) ∙ sym c.merge.ensures in
    subst (λ (p : ℕ × List ℕ). AreOwn tags (set items word p.0) p.1) (λ k. (found k, sym c.told_with.ensures k))
    (own_more tags items seat.told.numbers word amount seat.own_is c.requires.inside)

pub invariant_of-self-clause-shared : goal.invariant_of-self-clause-shared
invariant_of-self-clause-shared c none =
    let inside = c.requires.inside in
    let long = length-set c.args.self.now.own.items c.args.word c.merge.result in
    absurd (omega (arith, inside, long, none))
