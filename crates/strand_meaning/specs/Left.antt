-- A bound on the stops that a task has left, and on the moves before the next one. The stops are counted in the open tree of what
-- remains: a sync is a wait, and a child is a spawn and, if it is a loop, a wait too.
use Rattle.std.specs.Prelude.{ℕ, ◌+◌, ◌-◌, ◌*◌, Bool, true, false, List, [], ◌∷◌, length, if◌then◌else◌}
use Rattle.serial_meaning.specs.Plan.{PlanView}
use Rattle.serial_meaning.specs.Eval.{Evaluation, path_of}
use Rattle.serial_meaning.specs.Open.{Item, Happened, Child, Opened, Closed}
use Rattle.serial_meaning.specs.declared.event.Event.{Event}
use Rattle.serial_meaning.specs.declared.event.Event.TheVariants as event
use Rattle.serial_meaning.specs.declared.origin.Origin.{Origin}
use Rattle.strand_meaning.specs.Machine.{Frame, Machine}
use Rattle.strand_meaning.specs.Trace.{AwaitedChild}
use Rattle.strand_meaning.specs.Task.{Stage, Running, AtSync, AtLoop, Ended, Remaining, Splits, Runs, Finished, Task, begins_last, own_instance}
use Rattle.strand_meaning.specs.Rest.{children_of, rest_open}

abbrev pub event_stops : Event → ℕ
event_stops (event.Print j v) = 0
event_stops (event.Draw j n) = 0
event_stops (event.New j) = 0
event_stops (event.Spawn j) = 0
event_stops (event.Sync j) = 1
event_stops (event.Loop j) = 0

abbrev pub item_stops : List Item → ℕ
item_stops [] = 0
item_stops (Happened e ∷ items) = event_stops e + item_stops items
item_stops (Child o ∷ items) = 2 + item_stops items
item_stops (Opened j ∷ items) = item_stops items
item_stops (Closed j ∷ items) = item_stops items

-- a wait to come, or under way
abbrev pub at_wait : Bool → ℕ
at_wait true = 0
at_wait false = 1

-- an end, or a wait before it
abbrev pub at_end : Bool → List AwaitedChild → ℕ
at_end true awaiting = 1
at_end false [] = 1
at_end false (p ∷ ps) = 2

module _ (plan : PlanView) (child : Origin → Evaluation) (path : List ℕ) (waiting : Bool) (awaiting : List AwaitedChild) where
  abbrev pub stage_stops : Stage → ℕ
  stage_stops (Running m) = 3 + item_stops (rest_open plan child path awaiting (Running m)).items
  stage_stops (AtSync m) = at_wait waiting + (3 + item_stops (rest_open plan child path awaiting (AtSync m)).items)
  stage_stops (AtLoop m) = at_wait waiting + (3 + item_stops (rest_open plan child path awaiting (AtLoop m)).items)
  stage_stops (Ended e) = at_end waiting awaiting

-- the stops of what remains; of a loop that is still split only its end
abbrev pub remaining_stops : PlanView → Origin → Bool → List AwaitedChild → Remaining → ℕ
remaining_stops plan o waiting awaiting (Splits left) = 1
remaining_stops plan o waiting awaiting (Runs stage) = 2 + stage_stops plan (children_of plan (own_instance o)) (path_of (own_instance o)) waiting awaiting stage
remaining_stops plan o waiting awaiting (Finished v false) = at_wait waiting + 1
remaining_stops plan o waiting awaiting (Finished v true) = 1

abbrev pub stops_of : PlanView → Origin → Bool → List AwaitedChild → Remaining → ℕ
stops_of plan o waiting awaiting (Splits left) = (left.hi - left.lo) + remaining_stops plan o false [] (begins_last plan o)
stops_of plan o waiting awaiting (Runs stage) = remaining_stops plan o waiting awaiting (Runs stage)
stops_of plan o waiting awaiting (Finished v has_waited) = remaining_stops plan o waiting awaiting (Finished v has_waited)

abbrev pub stops_left : Task → ℕ
stops_left t = stops_of t.plan t.origin t.waiting t.trace.unmerged t.remaining

-- Moves

-- the moves by which a frame leaves its open scopes: for each the sync at its end and the way out
abbrev pub ways_out : Frame → ℕ
ways_out a = 2 * length a.levels - (if a.leaving then 1 else 0)

-- those, and one for the end of each frame
abbrev pub all_ways_out : List Frame → ℕ
all_ways_out [] = 0
all_ways_out (a ∷ below) = ways_out a + 1 + all_ways_out below

-- what an instance may still do: a move for each step, two for the scope or one for the call that it may begin, and the ways out of
-- all that is open
abbrev pub moves_of : Machine → ℕ
moves_of m = 3 * m.steps + ways_out m.top + all_ways_out m.below

abbrev pub stage_moves : Stage → ℕ
stage_moves (Running m) = 2 + moves_of m
stage_moves (AtSync m) = 0
stage_moves (AtLoop m) = 0
stage_moves (Ended e) = 1

abbrev pub remaining_moves : PlanView → Remaining → ℕ
remaining_moves plan (Splits left) = 3 + 3 * plan.limits.budget
remaining_moves plan (Runs stage) = stage_moves stage
remaining_moves plan (Finished v has_waited) = 0

abbrev pub moves_left : Task → ℕ
moves_left t = remaining_moves t.plan t.remaining
