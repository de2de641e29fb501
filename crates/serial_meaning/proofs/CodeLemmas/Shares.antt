-- Plans, and what is answered under them, may go to other threads and be read by several at once. A plan is reached by all tasks of a
-- run, from an `Arc` each.
use denote.Param.Send.{IsSend, IsSync, view_send, view_sync, sendable}
use denote.Param.SendFields.{declared_send, declared_sync}
use denote.Builtin.{u32}
use denote.RattleType.{RattleType}
use Rattle.std.proofs.Crossing.{Arc-send, Arc-sync}
use Rattle.std.specs.contracts.alloc.Global as global
use Rattle.std.specs.contracts.impls.GlobalAllocator.TheImpl.{ghosts}
use Rattle.std.specs.contracts.sync.Arc as arc
use Rattle.script_check.proofs.Tables.Shares.{checked_sends, checked_syncs}
use Rattle.dotmix.proofs.gamma.Gamma.TheSendSync as gamma_shared
use Rattle.serial_meaning.proofs.answer.Outcome.TheSendSync as outcome_shared
use Rattle.serial_meaning.proofs.event.Fault.TheSendSync as fault_shared
use Rattle.serial_meaning.proofs.origin.Origin.TheSendSync as origin_shared
use Rattle.serial_meaning.proofs.out.Out.TheSendSync as out_shared
use Rattle.serial_meaning.proofs.plan.Limits.TheSendSync as limits_shared
use Rattle.serial_meaning.proofs.plan.Show.TheSendSync as show_shared
use Rattle.serial_meaning.specs.contracts.answer.Answer as answer
use Rattle.serial_meaning.specs.contracts.answer.Answer.TheInside as answer_inside
use Rattle.serial_meaning.specs.contracts.answer_key.AnswerKey as key
use Rattle.serial_meaning.specs.contracts.answer_key.AnswerKey.TheInside as key_inside
use Rattle.serial_meaning.specs.declared.keep.Keep.{Ghosts}
use Rattle.serial_meaning.specs.contracts.known.Known as known
use Rattle.serial_meaning.specs.contracts.known.Known.TheInside as known_inside
use Rattle.serial_meaning.specs.contracts.plan.Plan as plan
use Rattle.serial_meaning.specs.contracts.plan.Plan.TheInside as plan_inside

-- to another thread, and read by several

number_sends : IsSend u32
number_sends = search sendable

number_syncs : IsSync u32
number_syncs = search sendable

plan_inside_sends : IsSend plan_inside.the_row
plan_inside_sends = declared_send plan_inside.the_type (checked_sends, (gamma_shared.the_send, (limits_shared.the_send, (show_shared.the_send, (number_sends, tt)))))

plan_inside_syncs : IsSync plan_inside.the_row
plan_inside_syncs = declared_sync plan_inside.the_type (checked_syncs, (gamma_shared.the_sync, (limits_shared.the_sync, (show_shared.the_sync, (number_syncs, tt)))))

pub plan_sends : IsSend plan.the_row
plan_sends = view_send plan_inside.the_row _ _ _ _ plan_inside_sends

pub plan_syncs : IsSync plan.the_row
plan_syncs = view_sync plan_inside.the_row _ _ _ _ plan_inside_syncs

pub shared_plan_sends : IsSend (arc.the_row plan.the_row global.the_row ghosts)
shared_plan_sends = Arc-send plan.the_row plan_sends plan_syncs

pub shared_plan_syncs : IsSync (arc.the_row plan.the_row global.the_row ghosts)
shared_plan_syncs = Arc-sync plan.the_row plan_sends plan_syncs

module _ (K : RattleType) (keeps : Ghosts K.Denot) where
  answer_inside_sends : IsSend (answer_inside.the_row K keeps)
  answer_inside_sends = declared_send (answer_inside.the_type K keeps) (shared_plan_sends, (origin_shared.the_send, (out_shared.the_send K keeps, (outcome_shared.the_send, tt))))

  answer_inside_syncs : IsSync (answer_inside.the_row K keeps)
  answer_inside_syncs = declared_sync (answer_inside.the_type K keeps) (shared_plan_syncs, (origin_shared.the_sync, (out_shared.the_sync K keeps, (outcome_shared.the_sync, tt))))

  pub answer_sends : IsSend (answer.the_row K keeps)
  answer_sends = view_send (answer_inside.the_row K keeps) _ _ _ _ answer_inside_sends

  pub answer_syncs : IsSync (answer.the_row K keeps)
  answer_syncs = view_sync (answer_inside.the_row K keeps) _ _ _ _ answer_inside_syncs

key_inside_sends : IsSend key_inside.the_row
key_inside_sends = declared_send key_inside.the_type (shared_plan_sends, (origin_shared.the_send, tt))

key_inside_syncs : IsSync key_inside.the_row
key_inside_syncs = declared_sync key_inside.the_type (shared_plan_syncs, (origin_shared.the_sync, tt))

pub key_sends : IsSend key.the_row
key_sends = view_send key_inside.the_row _ _ _ _ key_inside_sends

pub key_syncs : IsSync key.the_row
key_syncs = view_sync key_inside.the_row _ _ _ _ key_inside_syncs

known_inside_sends : IsSend known_inside.the_row
known_inside_sends = declared_send known_inside.the_type (shared_plan_sends, (fault_shared.the_send, tt))

known_inside_syncs : IsSync known_inside.the_row
known_inside_syncs = declared_sync known_inside.the_type (shared_plan_syncs, (fault_shared.the_sync, tt))

pub known_sends : IsSend known.the_row
known_sends = view_send known_inside.the_row _ _ _ _ known_inside_sends

pub known_syncs : IsSync known.the_row
known_syncs = view_sync known_inside.the_row _ _ _ _ known_inside_syncs
