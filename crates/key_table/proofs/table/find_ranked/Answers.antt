use Rattle.std.proofs.Common.{◌≡◌, pos, [], ap, sym, ◌∙◌, get_or, rules, arith}
use Rattle.std.proofs.lemmas.Int.{to_z-of_z}
use Rattle.std.proofs.lemmas.List.{get_or_default}
use Rattle.rank_table.specs.Ranks.{count_below}
use Rattle.key_table.proofs.Rising.{below-own}
use Rattle.key_table.specs.Keys.{keys_of}
use Rattle.key_table.proofs.table.find_ranked.Goals.{else-row-len-via-then-row-len+else-key, else-row-len-via-else-row-len}
use Rattle.key_table.proofs.table.find_ranked.Goals as goal
use mir.Val.{SFits}
use mir.Syntax.{w64}

pub returns-else-row-len-clause-missing : goal.returns-else-row-len-clause-missing
returns-else-row-len-clause-missing c = λ k d inside same.
    let rows = c.args.world.now.world.rows in
    let fits : SFits w64 c.from.result = search rules in
    let rank : c.below-row.result ≡ count_below c.from.result c.args.ranks.now = simp to_z-of_z at c.below-row.ensures in
    let keys : c.args.ranks.now ≡ keys_of c.args.world.now.world = c.requires in
    let own = below-own rows 0 c.len.ensures.table.fits.rising k d inside in
    let row : c.below-row.result ≡ k =
    rank
    ∙ ap (λ zs. count_below c.from.result zs) keys
    ∙ ap (λ z. count_below z (keys_of c.args.world.now.world)) (c.from.ensures ∙ ap pos (sym same))
    ∙ own in
    elim c.else-row-len.branch [
      | else-row-len-via-then-row-len+else-key w ↦
          w.if-key.false (
          w.key.ensures
          ∙ ap (λ n. (get_or rows n record { key = 0; values = [] }).key) row
          ∙ ap (λ found. found.key) (get_or_default rows k record { key = 0; values = [] } d inside)
          ∙ same
          )
      | else-row-len-via-else-row-len w ↦ omega (arith, row, inside, c.len.ensures.value, w.if-row-len.false)
    ]
