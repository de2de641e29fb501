-- What is seen of one pedigree in the items that an instance shows.
use Rattle.std.specs.Prelude.{ℕ, zero, suc, ◌-◌, nat_eq, nat_lt, Bool, true, false, ◌||◌, List, [], ◌∷◌, ◌++◌, Option, Some, None, if◌then◌else◌}
use Rattle.serial_meaning.specs.Open.{Item, Happened, Child, Opened, Closed, raised}
use Rattle.serial_meaning.specs.declared.event.Event.{Event}
use Rattle.serial_meaning.specs.declared.event.Event.TheVariants as event
use Rattle.strand_meaning.specs.Strands.{ended_before, pedigree_of}
use Rattle.strand_machine.specs.declared.probe.StrandProbe.{StrandProbe}

-- by how many rises a rank comes to another one
abbrev pub rises_to : ℕ → ℕ → Option ℕ
rises_to r s = if nat_lt s r then None else Some (s - r)

-- by how many rises of its last rank a strand comes to a pedigree, if it does
abbrev pub ahead_of : List ℕ → List ℕ → Option ℕ
ahead_of [] j = None
ahead_of (r ∷ []) [] = None
ahead_of (r ∷ []) (s ∷ []) = rises_to r s
ahead_of (r ∷ []) (s ∷ t ∷ ts) = None
ahead_of (r ∷ k ∷ ks) [] = None
ahead_of (r ∷ k ∷ ks) (s ∷ []) = None
ahead_of (r ∷ k ∷ ks) (s ∷ t ∷ ts) = if nat_eq r s then ahead_of (k ∷ ks) (t ∷ ts) else None

abbrev pub less : Option ℕ → Option ℕ
less None = None
less (Some zero) = None
less (Some (suc n)) = Some n

abbrev pub is_none_ahead : Option ℕ → Bool
is_none_ahead None = false
is_none_ahead (Some zero) = true
is_none_ahead (Some (suc n)) = false

-- an instance with this path that shows its first item next
abbrev pub new_probe : List ℕ → List ℕ → StrandProbe
new_probe path j = record { came = false; ahead = ahead_of (path ++ 0 ∷ []) j; past = false }

-- the probe at the next strand
abbrev pub goes_to : Option ℕ → StrandProbe → StrandProbe
goes_to ahead probe = record probe { came = probe.came || is_none_ahead probe.ahead; ahead = ahead }

-- a print raises no rank
abbrev pub rises : Event → StrandProbe → StrandProbe
rises (event.Print j v) probe = probe
rises (event.Draw j n) probe = goes_to (less probe.ahead) probe
rises (event.New j) probe = goes_to (less probe.ahead) probe
rises (event.Spawn j) probe = goes_to (less probe.ahead) probe
rises (event.Sync j) probe = goes_to (less probe.ahead) probe
rises (event.Loop j) probe = goes_to (less probe.ahead) probe

abbrev pub probe_after : List ℕ → StrandProbe → List Item → StrandProbe
probe_after j probe [] = probe
probe_after j probe (Happened e ∷ items) = probe_after j (rises e (record probe { past = ended_before (pedigree_of e) j })) items
probe_after j probe (Child o ∷ items) = probe_after j probe items
probe_after j probe (Opened k ∷ items) = probe_after j (goes_to (ahead_of (k ++ 0 ∷ []) j) probe) items
probe_after j probe (Closed k ∷ items) = probe_after j (goes_to (ahead_of (raised k) j) probe) items
