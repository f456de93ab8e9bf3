use Rattle.std.proofs.Common.{◌≡◌, ◌+◌, ◌++◌, ◌<◌, ◌≤◌, length, drop, vec_capacity}
use Rattle.tick_core.specs.Core.{splits}
use Rattle.tick_core.specs.Fair.{Fair}
use Rattle.tick_core.specs.Plays.{run, answers_of, first_bad, StandsBehind, SameTable}
use Rattle.tick_core.proofs.core_tick.CoreTick.play.Given as goal

-- what is left of the events leads to the same as all of them
abbrev pub invariant-loop-at : goal.invariant-loop-at
invariant-loop-at l = record {
  state : run (drop l.at l.events) l.self ≡ run l.events l.fn.self;
  told : l.answers.items ++ answers_of (drop l.at l.events) l.self ≡ answers_of l.events l.fn.self;
  bad : first_bad l.at (drop l.at l.events) l.self ≡ first_bad 0 l.events l.fn.self;
  stands : StandsBehind l.events l.at l.fn.self l.self;
  few : length l.events + splits l.self < 4294967295 + l.at;
  room : length l.events ≤ vec_capacity l.answers;
  counted : length l.answers.items ≡ l.at;
  table : SameTable l.fn.self l.self;
  fair : Fair l.self;
}
