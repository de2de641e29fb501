use Rattle.std.proofs.Common.{◌≡◌, List, length, map}
use Rattle.steal_deck.specs.Ends.{DeckId}
use Rattle.parallel_runner.specs.Crews.{new_hand}
use Rattle.parallel_runner.proofs.Meeting.{IsMeeting}
use Rattle.parallel_runner.proofs.setup.exchange_thieves.Given as goal

abbrev pub invariant-loop-own : goal.invariant-loop-own
invariant-loop-own g l = record {
  count : length l.hands ≡ length l.fn.hands;
  meeting : (decks : List DeckId) → l.fn.hands ≡ map new_hand decks → IsMeeting decks l.own l.hands;
}
