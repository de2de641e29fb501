-- Where the fault of a strand came from, by what the calls below tell.
use Rattle.std.proofs.Common.{◌≡◌, ℕ, List, Option, Some, None, Result, Ok, IfSome}
use Rattle.serial_meaning.specs.Plan.{PlanView}
use Rattle.ped_words.specs.declared.command.Settings.{Settings}
use Rattle.ped_words.specs.declared.command.Command.{Command}
use Rattle.ped_words.specs.declared.command.Command.TheVariants.{Replay}
use Rattle.ped_words.specs.declared.rule.WordError.{WordError}
use Rattle.replay.specs.FaultPlaces.{FaultsAt}
use Rattle.engine.specs.FaultPlaces.{IsPlaceBy, IsPlaceIn, IsPlaceUnder}
use Rattle.engine.specs.Report.{IsPlanOf}
use Rattle.engine.specs.declared.place.FaultPlace.{FaultPlace}

pub under_settings : (settings : Settings) (j bytes : List ℕ) (plan : PlanView) (number at : ℕ) → IsPlanOf settings bytes plan → FaultsAt plan j number at → (found : Option FaultPlace) → IfSome found (IsPlaceIn plan number at) →
    IfSome found (IsPlaceUnder settings j bytes)
under_settings settings j bytes plan number at of_text is None h = tt
under_settings settings j bytes plan number at of_text is (Some place) h = record { plan = plan; of_text = of_text; number = number; at = at; faults = is; place_is = h }

pub by_words : (read : Result Command WordError) (settings : Settings) (j bytes : List ℕ) → read ≡ Ok (Replay settings j) → (found : Option FaultPlace) → IfSome found (IsPlaceUnder settings j bytes) → IfSome found (IsPlaceBy read bytes)
by_words read settings j bytes e None h = tt
by_words read settings j bytes e (Some place) h = record { settings = settings; j = j; replays = e; place_is = h }
