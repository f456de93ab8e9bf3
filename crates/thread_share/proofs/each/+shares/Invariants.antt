use Rattle.std.proofs.Common.{◌+◌, ◌*◌, length}
use Rattle.thread_share.proofs.each.+shares.Given as goal

abbrev pub decreases-each_from : goal.decreases-each_from
decreases-each_from g l = 3 * length l.s.now

abbrev pub decreases-both_parts : goal.decreases-both_parts
decreases-both_parts g l = 3 * length l.rest.now + 2

abbrev pub decreases-both_parts-back : goal.decreases-both_parts-back
decreases-both_parts-back g l = 3 * length l.rest.now + 1
