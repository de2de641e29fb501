-- A fault of a plan that stands before all that an origin could do cuts the origin.
use Rattle.std.proofs.Common.{◌≡◌, Contains, sym, subst}
use Rattle.ped_path.specs.Path.{IsBefore}
use Rattle.serial_meaning.specs.Answer.{IsCut, start_of}
use Rattle.serial_meaning.specs.Open.{faults}
use Rattle.serial_meaning.specs.Plan.{PlanView}
use Rattle.serial_meaning.specs.declared.event.Fault.{Fault}
use Rattle.serial_meaning.specs.declared.origin.Origin.{Origin}

pub is_cut : (reported plan : PlanView) (origin : Origin) (fault by : Fault) → reported ≡ plan → by ≡ fault → Contains (faults reported) fault → IsBefore fault.at (start_of origin) → IsCut plan origin by
is_cut reported plan origin fault by one same known before =
    subst (IsCut plan origin) (sym same) (record { known = subst (λ (p : PlanView). Contains (faults p) fault) one known; before = before })
