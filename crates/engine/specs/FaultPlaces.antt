-- Where in a script's text the fault of a strand came from.
use Rattle.std.specs.Prelude.{◌≡◌, ℕ, List, Some, Result, Ok}
use Rattle.script_grammar.specs.declared.tree.Function.{Function}
use Rattle.serial_meaning.specs.Functions.{function_at}
use Rattle.serial_meaning.specs.Plan.{PlanView, functions_of}
use Rattle.ped_words.specs.declared.command.Settings.{Settings}
use Rattle.ped_words.specs.declared.command.Command.{Command}
use Rattle.ped_words.specs.declared.command.Command.TheVariants.{Replay}
use Rattle.ped_words.specs.declared.rule.WordError.{WordError}
use Rattle.replay.specs.FaultPlaces.{FaultsAt}
use Rattle.engine.specs.Report.{IsPlanOf}
use Rattle.engine.specs.declared.place.FaultPlace.{FaultPlace}

-- The place is this offset, in the script's function with this number.
pub record IsPlaceIn (plan : PlanView) (number at : ℕ) (place : FaultPlace) : Type 0 where
  pub function : Function
  pub there : function_at (functions_of plan) number ≡ Some function
  pub named : place.function ≡ function.name.bytes
  pub offset : place.at ≡ at

-- Under the plan of the script with this text, the strand with this pedigree ended at this place by a fault of its own.
pub record IsPlaceUnder (settings : Settings) (j bytes : List ℕ) (place : FaultPlace) : Type 0 where
  pub plan : PlanView
  pub of_text : IsPlanOf settings bytes plan
  pub number : ℕ
  pub at : ℕ
  pub faults : FaultsAt plan j number at
  pub place_is : IsPlaceIn plan number at place

-- The same for the strand that these words replay.
pub record IsPlaceBy (read : Result Command WordError) (bytes : List ℕ) (place : FaultPlace) : Type 0 where
  pub settings : Settings
  pub j : List ℕ
  pub replays : read ≡ Ok (Replay settings j)
  pub place_is : IsPlaceUnder settings j bytes place
