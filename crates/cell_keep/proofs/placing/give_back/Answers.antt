use Rattle.std.proofs.Common.{◌≡◌, ◌∙◌, ◌+◌, ◌∷◌, ◌++◌, List, [], ℕ, ap, arith, get_or, subst, sym, take, ⊎_elim}
use Rattle.std.specs.Prelude.{Contains}
use Rattle.std.proofs.lemmas.List.{append_assoc, take_all, take_more}
use Rattle.std.proofs.lemmas.List.Elements.{Contains-get_or, Contains-push_cases}
use Rattle.cell_links.specs.Links.{IsLinked}
use Rattle.cell_keep.proofs.placing.give_back.Goals as goal

pub take_out-requires : goal.take_out-requires
take_out-requires c =
    let gone = c.args.gone.now in
    let i = c.loop-row.row-index in
    omega (arith, c.loop-row.invariant.rows, c.requires.rows (get_or gone i 0) (Contains-get_or gone i 0 c.loop-row-test.true))

pub loop-row-preserved : goal.loop-row-preserved
loop-row-preserved c =
    let gone = c.args.gone.now in
    let i = c.loop-row.row-index in
    let row = get_or gone i 0 in
    let was = c.loop-row.invariant in
    let free = c.args.free.now.items in
    let more : take (i + 1) gone ≡ take i gone ++ row ∷ [] = take_more gone i 0 c.loop-row-test.true in
    record {
      rows = c.take_out.ensures.rows ∙ was.rows;
      full = c.take_out.ensures.full ∙ was.full;
      out = λ other linked.
          let before = was.out other (c.take_out.ensures.within other linked) in (
            before.0,
            λ there. ⊎_elim (λ (front : Contains (take i gone) other). before.1 front)
                (λ (same : row ≡ other). c.take_out.ensures.out (subst (IsLinked c.take_out.new.links) (sym same) linked))
                (Contains-push_cases (take i gone) row other (subst (λ (l : List ℕ). Contains l other) more there)),
          );
      free = c.push_reserved.ensures.items ∙ (ap (λ (l : List ℕ). l ++ row ∷ []) was.free
          ∙ (append_assoc free (take i gone) (row ∷ []) ∙ ap (λ (l : List ℕ). free ++ l) (sym more)));
      capacity = c.push_reserved.ensures.capacity ∙ was.capacity;
    }

pub returns-clause-out : goal.returns-clause-out
returns-clause-out c = λ row linked.
    let gone = c.args.gone.now in
    let out = c.loop-row.invariant.out row linked in
    let all : take c.loop-row.row-index gone ≡ gone = take_all c.loop-row.row-index gone (omega (arith, c.loop-row-test.false)) in
    (out.0, λ there. out.1 (subst (λ (l : List ℕ). Contains l row) (sym all) there))
