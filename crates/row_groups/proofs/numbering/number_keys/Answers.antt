-- One key more has its number.
use Rattle.std.proofs.Common.{◌≡◌, ◌∙◌, ◌+◌, ◌++◌, ◌∷◌, [], take, map, sym, subst, ap}
use Rattle.std.proofs.lemmas.List.{take_more}
use Rattle.row_groups.specs.Keys.{IsNumbering}
use Rattle.row_groups.proofs.Holding.{number_in}
use Rattle.row_groups.proofs.Numbers.{numbers_more}
use Rattle.row_groups.proofs.numbering.number_keys.Goals as goal

pub loop-key-preserved : goal.loop-key-preserved
loop-key-preserved c =
    let keys = c.args.keys.now in let i = c.loop-key.key-index in let key = c.key-item.result in
    let old = c.loop-key.numbers in let new = c.number_key.new.numbers in
    let taken : take (i + 1) keys ≡ take i keys ++ key ∷ [] = take_more keys i key c.loop-key-test.true ∙ ap (λ k. take i keys ++ k ∷ []) (sym c.key-item.is) in
    record {
      keys = subst (IsNumbering new) (sym taken) (c.in_ok-number_key.ensures.keys (take i keys) c.loop-key.invariant.keys);
      each = c.in_ok-push.ensures.items
          ∙ numbers_more old new c.in_ok-number_key.ensures.others (take i keys) key c.loop-key.groups.items c.in_ok-number_key.field-0 c.loop-key.invariant.keys
          c.in_ok-number_key.ensures.number c.loop-key.invariant.each
          ∙ ap (map (number_in new)) (sym taken);
    }
