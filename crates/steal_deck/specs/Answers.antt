-- What a steal returns.
use Rattle.std.specs.Prelude.{◌≡◌}
use Rattle.steal_deck.specs.declared.thief.Steal.{Steal}
use Rattle.steal_deck.specs.declared.thief.Steal.TheVariants.{Took, Nothing, Lost}
use Rattle.steal_deck.specs.History.{ThiefFindsFew}
use Rattle.steal_deck.specs.Ends.{ThiefEnd, thief_of, risen, Steals}

-- Nothing and Lost raise the thief's count of misses, and it has taken nothing more
abbrev pub StealAnswers : {T : Type 0} → ThiefEnd T → Steal T → ThiefEnd T → Type 0
StealAnswers old (Took x) new = Steals old x new
StealAnswers old Nothing new = (new ≡ record old { misses = risen old.misses }) × ThiefFindsFew (thief_of old)
StealAnswers old Lost new = new ≡ record old { misses = risen old.misses }
