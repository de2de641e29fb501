-- A walk along a run's events: what an event does to the open instances.
use Rattle.std.specs.Prelude.{◌-◌, cond, take, reverse, ℕ, List, [], ◌∷◌, Option, Some, None, length}
use Rattle.serial_meaning.specs.Plan.{PlanView}
use Rattle.serial_meaning.specs.Eval.{elision}
use Rattle.serial_meaning.specs.declared.event.Event.{Event}
use Rattle.serial_meaning.specs.declared.event.Event.TheVariants as event
use Rattle.span_report.specs.declared.instance.OpenInstance.{OpenInstance}
use Rattle.span_report.specs.declared.instance.Begun.TheVariants.{Spawned, Iterated}
use Rattle.span_report.specs.declared.walk.Walk.{Walk}
use Rattle.span_report.specs.Series.{IsSpan, pedigree_of}
use Rattle.span_report.specs.Opens.{new_open_instance, after_child_end, is_path_below, after_event, iteration_on}

-- The current instance, and its open ancestors, from its parent on.
pub record OpenInstances : Type 0 where
  pub top : OpenInstance
  pub under : List OpenInstance

abbrev pub open_instances : Walk → OpenInstances
open_instances w = record { top = w.top; under = reverse w.below.items }

-- at the start only main
abbrev pub main_alone : OpenInstances
main_alone = record { top = new_open_instance [] Spawned 0; under = [] }

-- after the end of all instances that don't lead to this path
abbrev pub closed_to : List ℕ → OpenInstance → List OpenInstance → OpenInstances
closed_to path o [] = record { top = o; under = [] }
closed_to path o (p ∷ ps) = cond (is_path_below o path) (record { top = o; under = p ∷ ps }) (closed_to path (after_child_end p o.begun o.within) ps)

-- main's open instance, once all below it have ended
abbrev pub after_ends : OpenInstance → List OpenInstance → OpenInstance
after_ends o [] = o
after_ends o (p ∷ ps) = after_ends (after_child_end p o.begun o.within) ps

abbrev pub pushed : OpenInstances → OpenInstance → OpenInstances
pushed w o = record { top = o; under = w.top ∷ w.under }

abbrev pub pushed_iteration : Option (List ℕ) → OpenInstances → OpenInstances
pushed_iteration None w = w
pushed_iteration (Some path) w = pushed w (new_open_instance path Iterated w.top.before)

-- with the instance of this path as the current one; at most the last iteration on the way isn't open yet
abbrev pub opened_to : List ℕ → OpenInstances → OpenInstances
opened_to path w = pushed_iteration (iteration_on w.top.looping path) w

abbrev pub instances_after : OpenInstances → Event → OpenInstances
instances_after w (event.Print j v) = record w { top = after_event w.top (event.Print j v) }
instances_after w (event.Draw j n) = record w { top = after_event w.top (event.Draw j n) }
instances_after w (event.New j) = record w { top = after_event w.top (event.New j) }
instances_after w (event.Spawn j) = pushed (record w { top = after_event w.top (event.Spawn j) }) (new_open_instance j Spawned (after_event w.top (event.Spawn j)).before)
instances_after w (event.Sync j) = record w { top = after_event w.top (event.Sync j) }
instances_after w (event.Loop j) = record w { top = after_event w.top (event.Loop j) }

-- a pedigree's path: all but its last rank
abbrev pub path_of : Event → List ℕ
path_of e = take (length (pedigree_of e) - 1) (pedigree_of e)

abbrev pub walked : OpenInstances → Event → OpenInstances
walked w e = instances_after (opened_to (path_of e) (closed_to (path_of e) w.top w.under)) e

abbrev pub walked_all : OpenInstances → List Event → OpenInstances
walked_all w [] = w
walked_all w (e ∷ es) = walked_all (walked w e) es

-- the longest chain, as the walk has it once all instances have ended
abbrev pub walked_span : List Event → ℕ
walked_span es = (after_ends (walked_all main_alone es).top (walked_all main_alone es).under).within

-- The walk along the events of a serial elision finds their span.
abbrev pub SpansAreWalked : Type 0
SpansAreWalked = (plan : PlanView) → IsSpan (elision plan).items (walked_span (elision plan).items)
