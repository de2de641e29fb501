-- A task may go on in any thread: its plan, its children's answers and its ties to other tasks may go to another thread.
use denote.Param.Send.{IsSend, view_send, sendable}
use denote.Param.SendFields.{declared_send, variants_send}
use denote.RattleType.{RattleType}
use mir.Syntax.{Dict}
use Rattle.contract_views.proofs.known_list.KnownList.TheSendSync as known_list_shared
use Rattle.contract_views.proofs.items.Items.TheSendSync as items_shared
use Rattle.serial_meaning.proofs.CodeLemmas.Shares.{answer_sends}
use Rattle.serial_meaning.proofs.answer.Outcome.TheSendSync as outcome_shared
use Rattle.serial_meaning.proofs.event.Fault.TheSendSync as fault_shared
use Rattle.serial_meaning.proofs.out.Out.TheSendSync as out_shared
use Rattle.serial_meaning.proofs.value.Value.TheSendSync as value_shared
use Rattle.serial_meaning.specs.contracts.event.Fault as fault
use Rattle.serial_meaning.specs.contracts.origin.Origin as origin
use Rattle.serial_meaning.specs.contracts.value.Value as value
use Rattle.serial_meaning.specs.declared.keep.Keep.{Ghosts}
use Rattle.std.proofs.Crossing.{Box-send, Vec-send}
use Rattle.std.specs.contracts.option.Option as option
use Rattle.strand_family.proofs.Shares.{links_sends, give_sends, join_pool_sends}
use Rattle.strand_machine.proofs.remaining.Left.TheSendSync as left_shared
use Rattle.strand_machine.specs.contracts.task_state.TaskState as state
use Rattle.strand_machine.specs.contracts.destination.Destination as destination
use Rattle.strand_machine.specs.contracts.parts.Parts as parts
use Rattle.strand_machine.specs.contracts.stop.Paused as paused
use Rattle.strand_machine.specs.contracts.stop.Resumed as resumed
use Rattle.strand_machine.specs.contracts.stop.Stop as stop
use Rattle.strand_machine.specs.contracts.task.Task as task
use Rattle.strand_machine.specs.contracts.task.Task.TheInside as task_inside
use Rattle.strand_machine.specs.contracts.trace.AfterChild as after
use Rattle.strand_machine.specs.contracts.trace.Trace as trace
use Rattle.strand_machine.specs.contracts.trace.Trace.TheInside as trace_inside
use Rattle.strand_machine.specs.contracts.remaining.Stage as stage
use Rattle.strand_machine.specs.contracts.remaining.Remaining as remaining
use Rattle.spare_memory.proofs.Shares.{empty_box_sends}
use Rattle.spare_memory.proofs.empty_list.EmptyList.TheSendSync as empty_list_shared
use Rattle.spare_memory.proofs.pool.Pool.TheSendSync as pool_shared
use Rattle.strand_machine.specs.contracts.task_pool.TaskPool as task_pool
use Rattle.strand_moves.proofs.Shares.{instance_pool_sends, instance_sends, maybe_target_sends}

place_sends : IsSend destination.the_row
place_sends = variants_send destination.enum ((search sendable, (maybe_target_sends, tt)), ((maybe_target_sends, tt), (tt, tt)))

fault_sends : IsSend (option.the_row fault.the_row)
fault_sends = variants_send (option.enum fault.the_row) (tt, ((fault_shared.the_send, tt), tt))

stage_sends : IsSend stage.the_row
stage_sends = variants_send stage.enum
    ((instance_sends, tt), ((instance_sends, tt), ((instance_sends, tt), ((value_shared.the_send, tt), ((fault_shared.the_send, tt), ((fault_shared.the_send, tt), tt))))))

remaining_sends : IsSend remaining.the_row
remaining_sends = variants_send remaining.enum ((left_shared.the_send, tt), ((stage_sends, tt), ((value_shared.the_send, (search sendable, tt)), ((outcome_shared.the_send, tt), tt))))

module _ (K : RattleType) (keeps : Ghosts K.Denot) (dict : Dict) where
  after_sends : IsSend (after.the_row K keeps)
  after_sends = declared_send (after.the_type K keeps) (place_sends, (out_shared.the_send K keeps, tt))

  trace_inside_sends : IsSend (trace_inside.the_row K keeps)
  trace_inside_sends = declared_send (trace_inside.the_type K keeps)
      (out_shared.the_send K keeps, (fault_sends, (known_list_shared.the_send origin.the_row, (Vec-send (after.the_row K keeps) after_sends, tt))))

  trace_sends : IsSend (trace.the_row K keeps)
  trace_sends = view_send (trace_inside.the_row K keeps) _ _ _ _ trace_inside_sends

  task_state_sends : IsSend (state.the_row K keeps)
  task_state_sends = declared_send (state.the_type K keeps) (links_sends K keeps dict, (trace_sends, (items_shared.the_send value.the_row value_shared.the_send, (search sendable, (search sendable, tt)))))

  parts_sends : IsSend (parts.the_row K keeps)
  parts_sends = declared_send (parts.the_type K keeps) (task_state_sends, (remaining_sends, tt))

  task_inside_sends : IsSend (task_inside.the_row K keeps)
  task_inside_sends = declared_send (task_inside.the_type K keeps) (Box-send (parts.the_row K keeps) parts_sends, tt)

  pub task_sends : IsSend (task.the_row K keeps)
  task_sends = view_send (task_inside.the_row K keeps) _ _ _ _ task_inside_sends

  pub task_pool_sends : IsSend (task_pool.the_row K keeps)
  task_pool_sends = declared_send (task_pool.the_type K keeps)
      (instance_pool_sends, (join_pool_sends K keeps dict, (pool_shared.the_send _ (empty_box_sends (parts.the_row K keeps)), (pool_shared.the_send _ (empty_list_shared.the_send (after.the_row K keeps) after_sends), tt))))

  pub stop_sends : IsSend (stop.the_row K keeps)
  stop_sends = variants_send (stop.enum K keeps) ((task_sends, (task_sends, tt)), ((task_sends, tt), ((answer_sends K keeps, (give_sends K keeps dict, tt)), tt)))

  pub resumed_sends : IsSend (resumed.the_row K keeps)
  resumed_sends = variants_send (resumed.enum K keeps) ((task_sends, tt), ((task_sends, tt), tt))

  pub paused_sends : IsSend (paused.the_row K keeps)
  paused_sends = variants_send (paused.enum K keeps) ((task_sends, (task_sends, tt)), ((task_sends, tt), ((task_sends, tt), tt)))
