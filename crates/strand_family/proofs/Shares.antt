-- What ties a task to others may go to another thread.
use denote.Param.Send.{IsSend, view_send}
use denote.Param.SendFields.{declared_send}
use denote.RattleType.{RattleType}
use mir.Syntax.{Dict}
use Rattle.meet_block.proofs.give.Give.TheSendSync as give_shared
use Rattle.meet_block.proofs.join.Join.TheSendSync as join_shared
use Rattle.meet_block.proofs.join_pool.JoinPool.TheSendSync as join_pool_shared
use Rattle.meet_block.specs.contracts.give.Give as give
use Rattle.meet_block.specs.contracts.join.Join as join
use Rattle.meet_block.specs.contracts.join_pool.JoinPool as join_pool
use Rattle.serial_meaning.proofs.CodeLemmas.Shares.{shared_plan_sends, answer_sends}
use Rattle.serial_meaning.proofs.origin.Origin.TheSendSync as origin_shared
use Rattle.serial_meaning.specs.contracts.answer.Answer as answer
use Rattle.serial_meaning.specs.contracts.answer_key.AnswerKey as key
use Rattle.serial_meaning.specs.contracts.answer_key.AnswerTagged.TheImpl.{ghosts}
use Rattle.serial_meaning.specs.declared.keep.Keep.{Ghosts}
use Rattle.strand_family.specs.contracts.links.Links as links
use Rattle.strand_family.specs.contracts.links.Links.TheInside as links_inside

module _ (K : RattleType) (keeps : Ghosts K.Denot) (dict : Dict) where
  pub give_sends : IsSend (give.the_row (answer.the_row K keeps) key.the_row (ghosts K keeps dict))
  give_sends = give_shared.the_send (answer.the_row K keeps) key.the_row (ghosts K keeps dict) (answer_sends K keeps)

  join_sends : IsSend (join.the_row (answer.the_row K keeps) key.the_row (ghosts K keeps dict))
  join_sends = join_shared.the_send (answer.the_row K keeps) key.the_row (ghosts K keeps dict) (answer_sends K keeps)

  pub join_pool_sends : IsSend (join_pool.the_row (answer.the_row K keeps) key.the_row (ghosts K keeps dict))
  join_pool_sends = join_pool_shared.the_send (answer.the_row K keeps) key.the_row (ghosts K keeps dict) (answer_sends K keeps)

  links_inside_sends : IsSend (links_inside.the_row K keeps)
  links_inside_sends = declared_send (links_inside.the_type K keeps) (shared_plan_sends, (origin_shared.the_send, (give_sends, (join_sends, tt))))

  pub links_sends : IsSend (links.the_row K keeps)
  links_sends = view_send (links_inside.the_row K keeps) _ _ _ _ links_inside_sends
