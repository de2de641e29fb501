-- The nesting at each token is the depth of the machine after it.
use Rattle.script_text.specs.Laws.{NestingCountsOpen}
use Rattle.script_text.proofs.Nesting.Follows.{script_traced}

pub nesting_counts_open : NestingCountsOpen
nesting_counts_open tokens fs d = script_traced d
