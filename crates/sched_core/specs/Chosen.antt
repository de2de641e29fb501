-- The choices of a simulation, by kind.
use Rattle.std.specs.Prelude.{ℕ, List, map, filter, flat_map, length, slice_get}
use Rattle.std.specs.List.{range_with_len}
use Rattle.sched_meaning.specs.Core.{Core}
use Rattle.sched_meaning.specs.Simulation.{is_progress, stalled_places}
use Rattle.sched_meaning.specs.declared.event.CoreEvent.{CoreEvent}
use Rattle.sched_meaning.specs.declared.event.CoreEvent.TheVariants.{Run, Pop, Steal, Look}

abbrev pub numbers : Core → List ℕ
numbers c = range_with_len 0 (length c.workers)

abbrev pub progressing : Core → List CoreEvent → List CoreEvent
progressing c events = filter (is_progress c) events

abbrev pub runs : Core → List ℕ → List CoreEvent
runs c ws = progressing c (map (λ w. Run w) ws)

abbrev pub pops : Core → List ℕ → List CoreEvent
pops c ws = progressing c (map (λ w. Pop w) ws)

-- the steals of one thief, and of all of these thieves
abbrev pub steals_by : Core → ℕ → List CoreEvent
steals_by c thief = progressing c (map (λ victim. Steal thief victim) (numbers c))

abbrev pub steals : Core → List ℕ → List CoreEvent
steals c thieves = flat_map (steals_by c) thieves

-- the looks of one worker at these indices, all of one worker, and those of all of these workers
abbrev pub looks_at : Core → ℕ → List ℕ → List CoreEvent
looks_at c w places = progressing c (map (λ place. Look w place) places)

abbrev pub looks_by : Core → ℕ → List CoreEvent
looks_by c w = looks_at c w (stalled_places (slice_get c.workers w))

abbrev pub looks : Core → List ℕ → List CoreEvent
looks c ws = flat_map (looks_by c) ws
