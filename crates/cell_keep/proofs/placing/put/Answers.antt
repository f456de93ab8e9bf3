use Rattle.std.proofs.Common.{◌≡◌, ◌<◌, inl, inr, ⊎_elim, arith, length, subst, sym}
use Rattle.std.specs.Prelude.{Contains}
use Rattle.cell_links.specs.Links.{IsLinked, Links, rows_of}
use Rattle.cell_keep.proofs.Relinking.{kept_in, linked_cases}
use Rattle.cell_keep.proofs.placing.put.Goals as goal

pub returns-clause-others : goal.returns-clause-others
returns-clause-others c = λ other group apart there.
    let links = c.take_out.new.links in
    let inside : c.args.list < length links.lists = omega (arith, c.requires.list, c.take_out.ensures.full) in
    subst (λ (l : Links). Contains (rows_of l group) other) (sym c.link.ensures) (kept_in links c.args.row c.args.list inside other group (c.take_out.ensures.others other group apart there))

pub returns-clause-within : goal.returns-clause-within
returns-clause-within c = λ other linked.
    let links = c.take_out.new.links in
    let inside : c.args.list < length links.lists = omega (arith, c.requires.list, c.take_out.ensures.full) in
    ⊎_elim (λ (same : other ≡ c.args.row). inl same) (λ (was : IsLinked links other). inr (c.take_out.ensures.within other was))
    (linked_cases links c.args.row c.args.list inside other (subst (λ (l : Links). IsLinked l other) c.link.ensures linked))
