-- An instance, and what a move shows, may go to another thread and be read by several at once. The text of a target only contracts
-- know, and the search for these facts ends before that, so they are put together by hand from those that the toolchain writes.
use denote.Builtin.{u32, u64, bool}
use denote.Param.Send.{IsSend, IsSync, view_send, view_sync, sendable}
use denote.Param.SendFields.{declared_send, declared_sync, variants_send, variants_sync}
use Rattle.std.proofs.Crossing.{Box-send, Box-sync, Vec-send, Vec-sync, crosses}
use Rattle.std.specs.contracts.option.Option as option
use Rattle.dotmix.proofs.trail.Trail.TheSendSync as trail_shared
use Rattle.ped_path.proofs.ped.Ped.TheSendSync as ped_shared
use Rattle.ped_path.proofs.pedigree.Pedigree.TheSendSync as pedigree_shared
use Rattle.contract_views.proofs.boxed.Boxed.TheSendSync as boxed_shared
use Rattle.serial_meaning.proofs.event.Event.TheSendSync as event_shared
use Rattle.serial_meaning.proofs.event.Fault.TheSendSync as fault_shared
use Rattle.serial_meaning.proofs.value.Value.TheSendSync as value_shared
use Rattle.serial_meaning.specs.contracts.event.Fault as fault
use Rattle.spare_memory.proofs.Shares.{empty_box_sends}
use Rattle.spare_memory.proofs.empty_list.EmptyList.TheSendSync as empty_list_shared
use Rattle.spare_memory.proofs.pool.Pool.TheSendSync as pool_shared
use Rattle.strand_values.proofs.Shares.{environment_sends, environment_syncs}
use Rattle.strand_values.proofs.environment_pool.EnvironmentPool.TheSendSync as environment_pool_shared
use Rattle.strand_values.specs.contracts.target.Target as target
use Rattle.strand_values.specs.contracts.target.Target.TheInside as target_inside
use Rattle.strand_moves.proofs.cursor.Cursor.TheSendSync as cursor_shared
use Rattle.strand_moves.proofs.effects.Child.TheSendSync as child_shared
use Rattle.strand_moves.proofs.levels.Levels.TheSendSync as levels_shared
use Rattle.strand_moves.specs.contracts.effects.Effects as effects
use Rattle.strand_moves.specs.contracts.effects.LoopedChild as looped
use Rattle.strand_moves.specs.contracts.effects.MoveResult as move_result
use Rattle.strand_moves.specs.contracts.effects.SpawnedChild as spawned
use Rattle.strand_moves.specs.contracts.frame.Frame as frame
use Rattle.strand_moves.specs.contracts.instance.Instance as instance
use Rattle.strand_moves.specs.contracts.instance_parts.InstanceParts as instance_parts
use Rattle.strand_moves.specs.contracts.instance_pool.InstancePool as instance_pool

-- to another thread

number_sends : IsSend u32
number_sends = search sendable

word_sends : IsSend u64
word_sends = search sendable

bool_sends : IsSend bool
bool_sends = search sendable

target_inside_sends : IsSend target_inside.the_row
target_inside_sends = declared_send target_inside.the_type (number_sends, (search crosses, tt))

pub target_sends : IsSend target.the_row
target_sends = view_send target_inside.the_row _ _ _ _ target_inside_sends

pub maybe_target_sends : IsSend (option.the_row target.the_row)
maybe_target_sends = variants_send (option.enum target.the_row) (tt, ((target_sends, tt), tt))

fault_sends : IsSend (option.the_row fault.the_row)
fault_sends = variants_send (option.enum fault.the_row) (tt, ((fault_shared.the_send, tt), tt))

spawned_sends : IsSend spawned.the_row
spawned_sends = declared_send spawned.the_type (child_shared.the_send, (number_sends, (maybe_target_sends, tt)))

looped_sends : IsSend looped.the_row
looped_sends = declared_send looped.the_type (child_shared.the_send, (maybe_target_sends, tt))

effects_sends : IsSend effects.the_row
effects_sends = variants_send effects.enum (
  tt,
  (
    (event_shared.the_send, tt),
    (
      (ped_shared.the_send, tt),
      (
        (pedigree_shared.the_send, tt),
        (
          (event_shared.the_send, (boxed_shared.the_send spawned.the_row spawned_sends, tt)),
          ((event_shared.the_send, tt), ((event_shared.the_send, (boxed_shared.the_send looped.the_row looped_sends, tt)), tt)),
        ),
      ),
    ),
  ),
)

pub moved_sends : IsSend move_result.the_row
moved_sends = variants_send move_result.enum ((effects_sends, tt), ((value_shared.the_send, tt), ((fault_shared.the_send, tt), tt)))

frame_sends : IsSend frame.the_row
frame_sends = declared_send frame.the_type
    (number_sends, (bool_sends, (bool_sends, (levels_shared.the_send, (cursor_shared.the_send, (environment_sends, (fault_sends, (maybe_target_sends, tt))))))))

parts_send : IsSend instance_parts.the_row
parts_send = declared_send instance_parts.the_type (trail_shared.the_send, (word_sends, (word_sends, (bool_sends, (frame_sends, (Vec-send frame.the_row frame_sends, tt))))))

pub instance_sends : IsSend instance.the_row
instance_sends = declared_send instance.the_type (Box-send instance_parts.the_row parts_send, tt)

pub instance_pool_sends : IsSend instance_pool.the_row
instance_pool_sends = declared_send instance_pool.the_type (
  pool_shared.the_send _ (empty_box_sends instance_parts.the_row),
  (
    environment_pool_shared.the_send,
    (pool_shared.the_send _ (empty_list_shared.the_send frame.the_row frame_sends), (pool_shared.the_send _ (empty_list_shared.the_send _ value_shared.the_send), tt)),
  ),
)

-- read by several

number_syncs : IsSync u32
number_syncs = search sendable

word_syncs : IsSync u64
word_syncs = search sendable

bool_syncs : IsSync bool
bool_syncs = search sendable

target_inside_syncs : IsSync target_inside.the_row
target_inside_syncs = declared_sync target_inside.the_type (number_syncs, (search crosses, tt))

pub target_syncs : IsSync target.the_row
target_syncs = view_sync target_inside.the_row _ _ _ _ target_inside_syncs

pub maybe_target_syncs : IsSync (option.the_row target.the_row)
maybe_target_syncs = variants_sync (option.enum target.the_row) (tt, ((target_syncs, tt), tt))

fault_syncs : IsSync (option.the_row fault.the_row)
fault_syncs = variants_sync (option.enum fault.the_row) (tt, ((fault_shared.the_sync, tt), tt))

spawned_syncs : IsSync spawned.the_row
spawned_syncs = declared_sync spawned.the_type (child_shared.the_sync, (number_syncs, (maybe_target_syncs, tt)))

looped_syncs : IsSync looped.the_row
looped_syncs = declared_sync looped.the_type (child_shared.the_sync, (maybe_target_syncs, tt))

effects_syncs : IsSync effects.the_row
effects_syncs = variants_sync effects.enum (
  tt,
  (
    (event_shared.the_sync, tt),
    (
      (ped_shared.the_sync, tt),
      (
        (pedigree_shared.the_sync, tt),
        (
          (event_shared.the_sync, (boxed_shared.the_sync spawned.the_row spawned_syncs, tt)),
          ((event_shared.the_sync, tt), ((event_shared.the_sync, (boxed_shared.the_sync looped.the_row looped_syncs, tt)), tt)),
        ),
      ),
    ),
  ),
)

pub moved_syncs : IsSync move_result.the_row
moved_syncs = variants_sync move_result.enum ((effects_syncs, tt), ((value_shared.the_sync, tt), ((fault_shared.the_sync, tt), tt)))

frame_syncs : IsSync frame.the_row
frame_syncs = declared_sync frame.the_type
    (number_syncs, (bool_syncs, (bool_syncs, (levels_shared.the_sync, (cursor_shared.the_sync, (environment_syncs, (fault_syncs, (maybe_target_syncs, tt))))))))

parts_sync : IsSync instance_parts.the_row
parts_sync = declared_sync instance_parts.the_type (trail_shared.the_sync, (word_syncs, (word_syncs, (bool_syncs, (frame_syncs, (Vec-sync frame.the_row frame_syncs, tt))))))

pub instance_syncs : IsSync instance.the_row
instance_syncs = declared_sync instance.the_type (Box-sync instance_parts.the_row parts_sync, tt)
