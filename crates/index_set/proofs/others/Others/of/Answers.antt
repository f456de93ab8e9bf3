use Rattle.std.proofs.Common.{ℕ, ◌+◌, ◌-◌, ◌++◌, List, ap, ◌∙◌}
use Rattle.index_set.specs.Others.{rows_asked, rows_but}
use Rattle.index_set.proofs.Apart.{rows_first}
use Rattle.index_set.proofs.others.Others.of.Goals as goal

pub returns : goal.returns
returns c =
    let rows : ℕ → List ℕ = rows_asked c.args.sorted.now c.args.asked in
    let groups : ℕ = c.args.groups in
    let own = c.args.own in
    let first : ℕ = c.first_but-first.result in
    ap (λ l. l ++ rows_but own rows (first + 1) (groups - (first + 1))) c.strip_in.ensures
    ∙ ap (λ k. rows k ++ rows_but own rows (k + 1) (groups - (k + 1))) c.first_but-first.ensures.value
    ∙ rows_first rows own groups c.requires
