-- A hand may go to another thread, with the tasks that it has.
use denote.Param.Send.{IsSend, IsSync, sendable, view_send}
use denote.Param.SendFields.{declared_send}
use denote.RattleType.{RattleType}
use mir.Syntax.{Dict}
use Rattle.once_cell.proofs.race.once_box.OnceBox.TheSendSync as cell_shared
use Rattle.once_cell.specs.contracts.race.once_box.OnceBox as cell
use Rattle.contract_views.proofs.known_list.KnownList.TheSendSync as known_list_shared
use Rattle.std.proofs.Crossing.{Arc-send, Arc-sync, Vec-send, Vec-sync, Deque-send}
use Rattle.std.proofs.option.Option.TheSendSync as option_shared
use Rattle.crossbeam_utils.proofs.cache_padded.CachePadded.TheSendSync as padded_shared
use Rattle.contract_views.proofs.items.Items.TheSendSync as items_shared
use Rattle.serial_meaning.proofs.CodeLemmas.Shares.{answer_sends, known_sends, known_syncs}
use Rattle.serial_meaning.specs.contracts.answer.Answer as answer
use Rattle.serial_meaning.specs.contracts.known.Known as known
use Rattle.serial_meaning.specs.declared.keep.Keep.{Ghosts}
use Rattle.std_alloc.specs.contracts.arc.Arc as arc
use Rattle.std_heap.specs.contracts.Global as heap
use Rattle.std_heap.specs.contracts.GlobalAllocator.TheImpl.{ghosts as heap_ghosts}
use Rattle.steal_deck.proofs.deck.Deck.TheSendSync as deck_shared
use Rattle.steal_deck.proofs.deck.Refused.TheSendSync as refused_shared
use Rattle.steal_deck.proofs.thief.Thief.TheSendSync as thief_shared
use Rattle.steal_deck.specs.contracts.deck.Refused as refused
use Rattle.steal_deck.specs.contracts.thief.Thief as thief
use Rattle.strand_machine.proofs.CodeLemmas.Shares.{task_pool_sends, task_sends}
use Rattle.parallel_runner.specs.contracts.answered.Answered as answered
use Rattle.parallel_runner.specs.contracts.answered.Answered.TheInside as answered_inside
use Rattle.parallel_runner.specs.contracts.cells.Cells as cells
use Rattle.parallel_runner.specs.contracts.cells.Cells.TheInside as cells_inside
use Rattle.parallel_runner.specs.contracts.entry.Entry as entry
use Rattle.parallel_runner.specs.contracts.entry.Entry.TheInside as entry_inside
use Rattle.parallel_runner.specs.contracts.faults.Faults as faults
use Rattle.parallel_runner.specs.contracts.faults.Faults.TheInside as faults_inside
use Rattle.parallel_runner.specs.contracts.hand.Hand as hand
use Rattle.parallel_runner.specs.contracts.hand.Hand.TheInside as hand_inside
use Rattle.parallel_runner.specs.contracts.hand_state.HandState as hand_state
use Rattle.parallel_runner.specs.contracts.known_faults.KnownFaults as known_faults
use Rattle.parallel_runner.specs.contracts.known_faults.KnownFaults.TheInside as known_faults_inside
use Rattle.parallel_runner.specs.contracts.overflow.Overflow as overflow
use Rattle.parallel_runner.specs.contracts.overflow.Overflow.TheInside as overflow_inside
use Rattle.parallel_runner.specs.contracts.stalled.Stalled as stalled
use Rattle.parallel_runner.specs.contracts.stalled.Stalled.TheInside as stalled_inside

abbrev shared_known : RattleType
shared_known = arc.the_row known.the_row heap.the_row heap_ghosts

shared_sends : IsSend shared_known
shared_sends = Arc-send known.the_row known_sends known_syncs

shared_syncs : IsSync shared_known
shared_syncs = Arc-sync known.the_row known_sends known_syncs

cell_sends : IsSend (cell.the_row shared_known)
cell_sends = cell_shared.the_send shared_known shared_sends

cell_syncs : IsSync (cell.the_row shared_known)
cell_syncs = cell_shared.the_sync shared_known shared_sends shared_syncs

known_faults_inside_sends : IsSend known_faults_inside.the_row
known_faults_inside_sends = declared_send known_faults_inside.the_type (Vec-send shared_known shared_sends, (known_list_shared.the_send known.the_row, tt))

known_faults_sends : IsSend known_faults.the_row
known_faults_sends = view_send known_faults_inside.the_row _ _ _ _ known_faults_inside_sends

cells_inside_sends : IsSend (cells_inside.the_row known.the_row)
cells_inside_sends =
    declared_send (cells_inside.the_type known.the_row) (Arc-send _ (Vec-send _ cell_sends) (Vec-sync _ cell_syncs), (search sendable, (known_list_shared.the_send known.the_row, tt)))

cells_sends : IsSend (cells.the_row known.the_row)
cells_sends = view_send (cells_inside.the_row known.the_row) _ _ _ _ cells_inside_sends

faults_inside_sends : IsSend faults_inside.the_row
faults_inside_sends = declared_send faults_inside.the_type (cells_sends, (known_faults_sends, (search sendable, tt)))

faults_sends : IsSend faults.the_row
faults_sends = view_send faults_inside.the_row _ _ _ _ faults_inside_sends

module _ (K : RattleType) (keeps : Ghosts K.Denot) (dict : Dict) where
  entry_inside_sends : IsSend (entry_inside.the_row K keeps)
  entry_inside_sends = declared_send (entry_inside.the_type K keeps) (task_sends K keeps dict, (option_shared.the_send shared_known shared_sends, tt))

  entry_sends : IsSend (entry.the_row K keeps)
  entry_sends = view_send (entry_inside.the_row K keeps) _ _ _ _ entry_inside_sends

  stalled_inside_sends : IsSend (stalled_inside.the_row K keeps)
  stalled_inside_sends = declared_send (stalled_inside.the_type K keeps) (entry_sends, tt)

  stalled_sends : IsSend (stalled.the_row K keeps)
  stalled_sends = view_send (stalled_inside.the_row K keeps) _ _ _ _ stalled_inside_sends

  overflow_inside_sends : IsSend (overflow_inside.the_row K keeps)
  overflow_inside_sends = declared_send (overflow_inside.the_type K keeps) (
    option_shared.the_send (refused.the_row (entry.the_row K keeps)) (refused_shared.the_send (entry.the_row K keeps) entry_sends),
    (Vec-send (entry.the_row K keeps) entry_sends, tt),
  )

  overflow_sends : IsSend (overflow.the_row K keeps)
  overflow_sends = view_send (overflow_inside.the_row K keeps) _ _ _ _ overflow_inside_sends

  answered_inside_sends : IsSend (answered_inside.the_row (answer.the_row K keeps))
  answered_inside_sends = declared_send (answered_inside.the_type (answer.the_row K keeps)) (known_list_shared.the_send (answer.the_row K keeps), tt)

  answered_sends : IsSend (answered.the_row (answer.the_row K keeps))
  answered_sends = view_send (answered_inside.the_row (answer.the_row K keeps)) _ _ _ _ answered_inside_sends

  hand_state_sends : IsSend (hand_state.the_row K keeps)
  hand_state_sends =
      declared_send (hand_state.the_type K keeps) (
        option_shared.the_send (entry.the_row K keeps) entry_sends,
        (
          overflow_sends,
          (
            deck_shared.the_send (entry.the_row K keeps) entry_sends,
            (
              Deque-send (stalled.the_row K keeps) stalled_sends,
              (
                Vec-send (thief.the_row (entry.the_row K keeps)) (thief_shared.the_send (entry.the_row K keeps) entry_sends),
                (option_shared.the_send _ (items_shared.the_send (answer.the_row K keeps) (answer_sends K keeps)), (faults_sends, (answered_sends, (task_pool_sends K keeps dict, tt)))),
              ),
            ),
          ),
        ),
      )

  hand_inside_sends : IsSend (hand_inside.the_row K keeps)
  hand_inside_sends = declared_send (hand_inside.the_type K keeps) (padded_shared.the_send (hand_state.the_row K keeps) hand_state_sends, tt)

  pub hand_sends : IsSend (hand.the_row K keeps)
  hand_sends = view_send (hand_inside.the_row K keeps) _ _ _ _ hand_inside_sends
