-- An empty box may go to any thread, whatever it was for: it has memory and no value.
use Prim.Native.Nat.{ℕ}
use mir.Syntax.{Ty}
use mir.Raw.{raw}
use base.Shift.{Keyless}
use denote.Builtin.{RawPtr}
use denote.Memory.{lone}
use denote.Param.Send.{IsSend, Frees, owning_send, struct_send, sendable}
use denote.Param.SendFields.{as_row_send, declared_send}
use denote.RattleType.{RattleType}
use denote.RawPtr.{Ptr, block_ptr, null_ptr, room_for}
use denote.Struct.Owning.{shape, fields, to}
use denote.Struct.Struct.{exits_of}
use Rattle.core.specs.declared.alloc.Allocator.{Ghosts}
use Rattle.std.proofs.Crossing.{frees, send}
use Rattle.std_alloc.proofs.SendSync.{quiet}
use Rattle.std_alloc.specs.contracts.room.vacant.Vacant as vacant
use Rattle.std_heap.specs.contracts.Global as heap
use Rattle.std_heap.specs.contracts.GlobalAllocator.TheImpl.{ghosts}
use Rattle.spare_memory.specs.contracts.empty_box.EmptyBox as empty_box

room : (τ : Ty) (p : Ptr) → Keyless (room_for τ p)
room τ (block_ptr b o) = tt
room τ null_ptr = tt

vacant_sends : (T A : RattleType) (g : Ghosts A.Denot) → IsSend A → Frees g g.dealloc_token → IsSend (vacant.the_row T A g)
vacant_sends T A g sa f = let O = vacant.the_type T A g in let ps : IsSend RawPtr = search sendable in
    owning_send O (ps, (sa, tt)) (λ d. (room (raw (lone T.mir)) d.ptr, f.frees d.alloc (raw (lone T.mir)) d.ptr))
    (λ k. quiet (to O) (exits_of k (fields O)) ((struct_send (shape O) (ps, (sa, tt))).leaving k))

pub any_empty_box_sends : (T A : RattleType) (g : Ghosts A.Denot) → IsSend A → Frees g g.dealloc_token → IsSend (empty_box.the_row T A g)
any_empty_box_sends T A g sa f = declared_send (empty_box.the_type T A g) (as_row_send (vacant.the_field T A g) (vacant_sends T A g sa f), tt)

-- One of the heap.
pub empty_box_sends : (T : RattleType) → IsSend (empty_box.the_row T heap.the_row ghosts)
empty_box_sends T = any_empty_box_sends T heap.the_row ghosts send frees
