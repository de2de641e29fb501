use mir.Syntax.{of_param}
use denote.Exit.{yes}
use denote.Param.Send.{Quiet-if}
use Rattle.crew.proofs.Shares.{any_hand_sends}
use Rattle.crew.proofs.all_are_sent.Goals as goal

-- field by field: the two rows are too large to be compared
pub is_sent-requires-send-T : goal.is_sent-requires-send-T
is_sent-requires-send-T c κs = record { owned = any_hand_sends.owned; leaving = λ k. Quiet-if (k (of_param 0)) _ _ (any_hand_sends.leaving yes) (λ x w. tt) }
