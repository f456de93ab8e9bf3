use Rattle.std.proofs.Common.{Option, ap, subst, sym, ◌∙◌}
use Rattle.std.proofs.lemmas.Bool.{not-true}
use Rattle.std.proofs.lemmas.List.{get_or_default}
use Rattle.sgl_typed.specs.declared.script.Attr.{Attr}
use Rattle.battle_algebra.specs.Ways.{is_unequal_test, next_range, x_of, y_of}
use Rattle.index_set.specs.Left.{IsSole}
use Rattle.index_set.proofs.Ranging.{none_groups}
use Rattle.index_set.proofs.left.stand_others.Goals as goal

pub returns-then-can_be_few : goal.returns-then-can_be_few
returns-then-can_be_few c = λ none.
    let tests = c.args.tests.now in
    let number = c.in-One.number in
    let sole : IsSole (x_of tests) (y_of tests) tests number =
    subst (λ (axis : Option Attr). IsSole axis (next_range axis tests) tests number) c.first_range-axis.ensures
    (subst (λ (across : Option Attr). IsSole c.first_range-axis.result across tests number) c.next_range-across.ensures c.in-One.ensures) in
    record {
      number = number;
      sole = sole;
      unequal = λ d. ap is_unequal_test (get_or_default tests number d c.index-tests-number.result sole.within ∙ sym c.index-tests-number.is)
          ∙ c.can_be_few.ensures c.if-can_be_few.true;
      alone = none_groups tests (sym c.has_equal.ensures ∙ not-true c.has_equal.result none);
    }
