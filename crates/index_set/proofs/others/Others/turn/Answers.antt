use Rattle.std.proofs.Common.{ℕ, ◌+◌, ◌-◌, ◌++◌, cond, List, [], ap, sym, ◌∙◌}
use Rattle.index_set.specs.Others.{rows_asked, rows_but}
use Rattle.index_set.proofs.Walks.{others_next, strip_taken}
use Rattle.index_set.proofs.others.Others.turn.Goals as goal

pub returns-then-is_own-clause-rest : goal.returns-then-is_own-clause-rest
returns-then-is_own-clause-rest c =
    let it = c.args.self.now in
    let rows : ℕ → List ℕ = rows_asked it.sorted.now it.asked in
    let behind : List ℕ = rows_but it.own rows (it.next + 1) (it.end - (it.next + 1)) in
    ap (λ l. l ++ behind) c.requires.spent
    ∙ ap (λ b. cond b [] (rows it.next) ++ behind) (sym c.if-is_own.true ∙ c.is_own.ensures)
    ∙ sym (others_next it c.requires.spent c.requires.more)

pub returns-clause-rest : goal.returns-clause-rest
returns-clause-rest c =
    let it = c.args.self.now in
    let rows : ℕ → List ℕ = rows_asked it.sorted.now it.asked in
    let behind : List ℕ = rows_but it.own rows (it.next + 1) (it.end - (it.next + 1)) in
    strip_taken c.strip_in-self.result c.next.result c.next.new.self behind c.next.ensures.steps
    ∙ ap (λ l. l ++ behind) c.strip_in-self.ensures
    ∙ ap (λ b. cond b [] (rows it.next) ++ behind) (sym c.if-is_own.false ∙ c.is_own.ensures)
    ∙ sym (others_next it c.requires.spent c.requires.more)
