use Rattle.std.proofs.Common.{◌+◌, ◌*◌, vec_len}
use Rattle.crew.proofs.threads.+starting.Given as goal

abbrev pub decreases-run_from : goal.decreases-run_from
decreases-run_from g l = 3 * vec_len l.all

abbrev pub decreases-scope : goal.decreases-scope
decreases-scope g l = 3 * vec_len l.all + 2

abbrev pub decreases-scope-next : goal.decreases-scope-next
decreases-scope-next g l = 3 * vec_len l.all + 1
