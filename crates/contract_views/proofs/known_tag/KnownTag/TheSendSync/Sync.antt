-- And any thread may share it.
use denote.RattleType.{RattleType}
use denote.Param.Send.{IsSync, part_keyless}
use Rattle.contract_views.specs.contracts.known_tag.KnownTag.{the_row}
use Rattle.contract_views.proofs.known_tag.KnownTag.TheSendSync.Send.{send}

pub sync : (T : RattleType) → IsSync (the_row T)
sync T = record { shared = λ d b o κ q. part_keyless (the_row T) (send T) q d b o }
