use Rattle.std.proofs.Common.{◌≡◌, ◌+◌, length}
use Rattle.battle_watch.proofs.watch.Watch.look_often.Given as goal

abbrev pub invariant-loop-look : goal.invariant-loop-look
invariant-loop-look g l = record {
  looked : length l.self.notes ≡ l.look;
  room : l.self.room + l.look ≡ l.looks + 1;
}
