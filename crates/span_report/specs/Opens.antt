-- An open instance: how its own events and the ends of its children change the lengths that it keeps.
use Rattle.std.specs.Prelude.{◌+◌, cond, Bool, max, ℕ, List, [], ◌∷◌, ◌++◌, Option, Some, None, length, slice_get, take}
use Rattle.std.specs.Str.{bytes_eq}
use Rattle.serial_meaning.specs.declared.event.Event.{Event}
use Rattle.serial_meaning.specs.declared.event.Event.TheVariants as event
use Rattle.span_report.specs.declared.instance.OpenInstance.{OpenInstance}
use Rattle.span_report.specs.declared.instance.Begun.{Begun}
use Rattle.span_report.specs.declared.instance.Begun.TheVariants.{Spawned, Iterated}

-- the longest chain that ends in the instance's next event
abbrev pub next_length : OpenInstance → ℕ
next_length o = max o.before o.looped + 1

-- after an event of its own that is no sync and begins no loop
abbrev pub went_on : OpenInstance → OpenInstance
went_on o = record o { before = next_length o; looping = None; looped = 0; within = max o.within (next_length o) }

-- After a sync. What it waits for precedes what follows, but not the sync itself.
abbrev pub synced : OpenInstance → OpenInstance
synced o = record o { before = max (next_length o) o.spawned; looping = None; looped = 0; spawned = 0; within = max o.within (next_length o) }

-- in the loop with this pedigree
abbrev pub looping_at : List ℕ → OpenInstance → OpenInstance
looping_at j o = record o { looping = Some j }

abbrev pub after_event : OpenInstance → Event → OpenInstance
after_event o (event.Print j v) = went_on o
after_event o (event.Draw j n) = went_on o
after_event o (event.New j) = went_on o
after_event o (event.Spawn j) = went_on o
after_event o (event.Sync j) = synced o
after_event o (event.Loop j) = looping_at j (went_on o)

abbrev pub after_child_end : OpenInstance → Begun → ℕ → OpenInstance
after_child_end o Spawned within = record o { spawned = max o.spawned within; within = max o.within within }
after_child_end o Iterated within = record o { looped = max o.looped within; within = max o.within within }

-- an instance that has begun
abbrev pub new_open_instance : List ℕ → Begun → ℕ → OpenInstance
new_open_instance path how before = record { path = path; begun = how; before = before; looping = None; looped = 0; spawned = 0; within = 0 }

-- whether `front` is a prefix of the path
abbrev pub starts : List ℕ → List ℕ → Bool
starts front path = bytes_eq (take (length front) path) front

-- whether a path is that of the instance, also in its open scopes, or of one below it
abbrev pub is_path_below : OpenInstance → List ℕ → Bool
is_path_below o path = starts o.path path

abbrev pub iteration_at : List ℕ → Option ℕ → Option (List ℕ)
iteration_at by None = None
iteration_at by (Some k) = Some (by ++ k ∷ [])

-- where the instance is in a loop: the path of the iteration that this path belongs to, if any
abbrev pub iteration_on : Option (List ℕ) → List ℕ → Option (List ℕ)
iteration_on None path = None
iteration_on (Some by) path = cond (starts by path) (iteration_at by (slice_get path (length by))) None
