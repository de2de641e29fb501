use mir.Syntax.{of_param}
use denote.Exit.{yes}
use denote.Param.Send.{Quiet-if}
use Rattle.crew.proofs.Shares.{any_hand_sends}
use Rattle.crew.proofs.run.run_hands.Goals as goal

-- field by field: the two rows are too large to be compared
pub at_each-requires-send-T : goal.at_each-requires-send-T
at_each-requires-send-T g c κs within = record { owned = any_hand_sends.owned; leaving = λ k. Quiet-if (k (of_param 1)) _ _ (any_hand_sends.leaving yes) (λ x w. tt) }
