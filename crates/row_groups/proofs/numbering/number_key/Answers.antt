-- A key keeps its number, and a new one gets the next.
use Rattle.std.proofs.Common.{◌≡◌, false, rules}
use Rattle.std.specs.Prelude.{IsSome}
use Rattle.std.specs.BTreeMap.{get}
use Rattle.std.specs.Cmp.Lexicographic.{slice_cmp}
use Rattle.std.specs.Option.{is_some}
use Rattle.std.specs.Ordering.{int_cmp}
use Rattle.row_groups.proofs.Numbers.{keeps_numbers, numbered_new, numbered_same}
use Rattle.row_groups.proofs.numbering.number_key.Goals as goal

pub returns-in-Some-clause-keys : goal.returns-in-Some-clause-keys
returns-in-Some-clause-keys c = λ keys before.
    let here : IsSome (get (slice_cmp int_cmp) c.args.numbers.now c.args.key.now) = search rules in
    numbered_same c.args.numbers.now keys c.args.key.now here before

pub returns-clause-keys : goal.returns-clause-keys
returns-clause-keys c = λ keys before.
    let absent : false ≡ is_some (get (slice_cmp int_cmp) c.args.numbers.now c.args.key.now) = search rules in
    numbered_new c.args.numbers.now c.insert.new.self keys c.args.key.now c.len-next.result c.in_ok-insert.field-0
    c.len-next.ensures.len c.in_ok-insert.ensures.updates.0 c.in_ok-insert.ensures.old c.in_ok-insert.ensures.len absent before

pub returns-clause-others : goal.returns-clause-others
returns-clause-others c =
    let absent : false ≡ is_some (get (slice_cmp int_cmp) c.args.numbers.now c.args.key.now) = search rules in
    keeps_numbers c.args.numbers.now c.insert.new.self c.args.key.now c.len-next.result c.in_ok-insert.ensures.updates.0 absent
