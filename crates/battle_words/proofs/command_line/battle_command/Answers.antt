use Rattle.battle_words.proofs.Commands.{with_argument}
use Rattle.battle_words.proofs.command_line.battle_command.Goals as goal

pub returns : goal.returns
returns c =
    let ticks = with_argument c.in_ok-arg.ensures c.ticks_argument.ensures c.plain_command.ensures in
    let script = with_argument c.in_ok-arg-2.ensures c.option.ensures ticks in
    let units = with_argument c.in_ok-arg-3.ensures c.option-2.ensures script in
    let sample = with_argument c.in_ok-arg-4.ensures c.option-3.ensures units in
    let workers = with_argument c.in_ok-arg-5.ensures c.option-4.ensures sample in
    let seed = with_argument c.in_ok-arg-6.ensures c.option-5.ensures workers in
    let items = with_argument c.in_ok-arg-7.ensures c.option-6.ensures seed in
    let engine = with_argument c.in_ok-arg-8.ensures c.option-7.ensures items in
    let watch = with_argument c.in_ok-arg-9.ensures c.option-8.ensures engine in
    let looks = with_argument c.in_ok-arg-10.ensures c.option-9.ensures watch in
    let summary = with_argument c.in_ok-arg-11.ensures c.flag.ensures looks in
    with_argument c.in_ok-command.ensures c.flag-2.ensures summary
