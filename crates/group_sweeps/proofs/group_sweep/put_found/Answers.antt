use Rattle.std.proofs.Common.{◌<◌, ◌∙◌, ℕ, get_or, length, subst, sym}
use Rattle.std.specs.Prelude.{All}
use Rattle.std.proofs.lemmas.List.{length-set}
use Rattle.group_sweeps.specs.declared.found.Found.TheVariants.{Row as ARow}
use Rattle.group_sweeps.proofs.Finding.{found_more, others_more, own_is}
use Rattle.group_sweeps.proofs.group_sweep.put_found.Goals as goal

pub loop-i-preserved : goal.loop-i-preserved
loop-i-preserved c =
    let rows = c.args.rows.now in
    let own = c.args.own.now in
    let i = c.loop-i.i in
    let found = c.loop-i.found in
    let value = get_or own i (ARow 0) in
    let P : ℕ → Type 0 = λ n. All (λ row. row < n) rows in
    let within = subst P (sym c.loop-i.invariant.size) c.requires.found in
    record {
      size = length-set found (get_or rows i 0) value ∙ c.loop-i.invariant.size;
      each = λ world points asks are.
          found_more rows i c.loop-i-test.true found value within world points asks (c.loop-i.invariant.each world points asks are)
          (own_is world points asks rows (length rows) i own (ARow 0) are c.loop-i-test.true);
      others = others_more rows i c.loop-i-test.true found value within c.args.found.now c.loop-i.invariant.others;
    }
