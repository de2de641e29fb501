use Rattle.script_check.specs.Rules.{most_variables}
use Rattle.script_check.proofs.Tables.SlotIndex.{next-taken, room-for-next}
use Rattle.script_check.proofs.finding.finds.Goals as goal

pub with-requires : goal.with-requires
with-requires c = room-for-next c.as_slice-names.result.now c.loop-name.variables c.loop-name.name-index most_variables c.loop-name.invariant c.loop-name-test.true c.if-names-gt-MOST_VARIABLES.false

pub loop-name-preserved : goal.loop-name-preserved
loop-name-preserved c =
    next-taken c.as_slice-names.result.now c.loop-name.variables c.in_ok-variables.variables c.loop-name.name-index c.name-item.result c.loop-name.invariant c.loop-name-test.true c.name-item.is c.in_ok-variables.ensures
