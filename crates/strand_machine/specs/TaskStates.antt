-- Which origins are loops that are split.
use Rattle.std.specs.Prelude.{◌-◌, Bool, false, nat_lt}
use Rattle.serial_meaning.specs.declared.origin.Origin.{Origin}
use Rattle.serial_meaning.specs.declared.origin.Origin.TheVariants.{Instance, Loop}

abbrev pub is_long : Origin → Bool
is_long (Instance function args path) = false
is_long (Loop function rest first path range) = nat_lt 1 (range.hi - range.lo)
