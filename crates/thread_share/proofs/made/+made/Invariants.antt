use Rattle.std.proofs.Common.{◌+◌, ◌*◌}
use Rattle.thread_share.proofs.made.+made.Given as goal

abbrev pub decreases-join+arg3 : goal.decreases-join+arg3
decreases-join+arg3 g l = 2 * l.before + 1

abbrev pub decreases-make_to : goal.decreases-make_to
decreases-make_to g l = 2 * l.last
