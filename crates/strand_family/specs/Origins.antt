-- Origins.
use Rattle.loop_range.specs.Range.{Range}
use Rattle.serial_meaning.specs.declared.origin.Origin.{Origin}
use Rattle.serial_meaning.specs.declared.origin.Origin.TheVariants.{Instance, Loop}

-- a loop's origin with only these iterations
abbrev pub loop_part : Origin → Range → Origin
loop_part (Instance function args path) part = Instance function args path
loop_part (Loop function rest first path range) part = Loop function rest first path part
