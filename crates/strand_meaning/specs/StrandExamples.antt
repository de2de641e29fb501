-- The strands of small scripts. Each is the contract of a function of the module `strands`, which shows the script.
use Rattle.std.specs.Prelude.{◌≡◌, [], ◌∷◌, Some, None, codes}
use Rattle.std.specs.Prelude.{pos}
use Rattle.script_grammar.specs.declared.tree.Right.TheVariants as right
use Rattle.script_grammar.specs.declared.tree.Act.TheVariants as act
use Rattle.serial_meaning.specs.Trees.{name_node, number, variable, applied, stated, int_param, function}
use Rattle.serial_meaning.specs.Plan.{PlanView}
use Rattle.serial_meaning.specs.Examples.{plan_of, with_depth, bad, plan_of_child}
use Rattle.serial_meaning.specs.declared.value.Value.TheVariants.{Int}
use Rattle.serial_meaning.specs.declared.event.FaultKind.TheVariants as fault
use Rattle.serial_meaning.specs.declared.event.Event.TheVariants as event
use Rattle.strand_meaning.specs.Strands.{FoundStrand, Missing, Blocked, strand_at}

-- with two steps for each instance
abbrev pub spending : PlanView
spending = plan_of (bad ∷ function (codes "main") [] (stated (act.Print (number 7)) ∷ stated (act.Spawn (applied (codes "bad") [])) ∷ []) (number 0) ∷ []) 2

-- A strand has the events of its own rank, and no child's.
abbrev pub FirstStrandPrintsAndSpawns : Type 0
FirstStrandPrintsAndSpawns =
    strand_at spending (0 ∷ []) ≡ FoundStrand (record { events = event.Print (0 ∷ []) (Int (pos 7)) ∷ event.Spawn (0 ∷ []) ∷ []; fault = None })

-- It has its own fault.
abbrev pub ChildsStrandHasItsFault : Type 0
ChildsStrandHasItsFault = strand_at spending (0 ∷ 0 ∷ []) ≡ FoundStrand (record { events = []; fault = Some (record { kind = fault.Divide; at = 0 ∷ 0 ∷ [] }) })

-- The elision doesn't reach the strand after the child that faults.
abbrev pub ParentGoesOnToItsFault : Type 0
ParentGoesOnToItsFault = strand_at spending (1 ∷ []) ≡ FoundStrand (record { events = []; fault = Some (record { kind = fault.Budget; at = 1 ∷ [] }) })

abbrev pub NoStrandAfterAFault : Type 0
NoStrandAfterAFault = strand_at spending (7 ∷ []) ≡ Missing

abbrev pub joining : PlanView
joining =
    plan_of (bad ∷ function (codes "main") [] (stated (act.Spawn (applied (codes "bad") [])) ∷ stated act.Sync ∷ stated (act.Print (number 1)) ∷ []) (number 0) ∷ []) 20

-- A sync is a strand's event also where the instance ends there by a child's fault, which blocks what is after it.
abbrev pub SyncStandsWhereAChildFaulted : Type 0
SyncStandsWhereAChildFaulted = strand_at joining (1 ∷ []) ≡ FoundStrand (record { events = event.Sync (1 ∷ []) ∷ []; fault = None })

abbrev pub ChildsFaultBlocks : Type 0
ChildsFaultBlocks = strand_at joining (2 ∷ []) ≡ Blocked (record { kind = fault.Divide; at = 0 ∷ 0 ∷ [] })

abbrev pub rolling : PlanView
rolling =
    with_depth 3 (0 ∷ 1 ∷ 0 ∷ [])
    (plan_of
    (function (codes "roll") (int_param (codes "i") ∷ []) (stated (act.Let (name_node (codes "x")) (right.Draw 0)) ∷ []) (variable (codes "x"))
    ∷ function (codes "main") [] (stated (act.Pfor (name_node (codes "i")) (number 0) (number 5) None (applied (codes "roll") [])) ∷ []) (number 0)
    ∷ [])
    20)

-- An iteration has ranks of its own after its number.
abbrev pub IterationsHaveStrands : Type 0
IterationsHaveStrands = strand_at rolling (0 ∷ 3 ∷ 0 ∷ []) ≡ FoundStrand (record { events = event.Draw (0 ∷ 3 ∷ 0 ∷ []) 2628 ∷ []; fault = None })

abbrev pub LoopIsAStrandsEvent : Type 0
LoopIsAStrandsEvent = strand_at rolling (0 ∷ []) ≡ FoundStrand (record { events = event.Loop (0 ∷ []) ∷ []; fault = None })

-- The path of an iteration names no strand.
abbrev pub IterationsPathIsNoStrand : Type 0
IterationsPathIsNoStrand = strand_at rolling (0 ∷ 3 ∷ []) ≡ Missing

abbrev pub NoStrandBelowAMissingIteration : Type 0
NoStrandBelowAMissingIteration = strand_at rolling (0 ∷ 5 ∷ 0 ∷ []) ≡ Missing

-- A child is spawned in the scope's first strand, and the sync at the scope's end is in its second.
abbrev pub ScopesFirstStrandSpawns : Type 0
ScopesFirstStrandSpawns = strand_at (plan_of_child 20) (0 ∷ 0 ∷ []) ≡ FoundStrand (record { events = event.Spawn (0 ∷ 0 ∷ []) ∷ []; fault = None })

abbrev pub ScopesSecondStrandSyncs : Type 0
ScopesSecondStrandSyncs = strand_at (plan_of_child 20) (0 ∷ 1 ∷ []) ≡ FoundStrand (record { events = event.Sync (0 ∷ 1 ∷ []) ∷ []; fault = None })

-- The strand after that sync exists, and has no event.
abbrev pub ScopesLastStrandIsThere : Type 0
ScopesLastStrandIsThere = strand_at (plan_of_child 20) (0 ∷ 2 ∷ []) ≡ FoundStrand (record { events = []; fault = None })

abbrev pub NoStrandAfterAScopesLast : Type 0
NoStrandAfterAScopesLast = strand_at (plan_of_child 20) (0 ∷ 3 ∷ []) ≡ Missing

-- The strand after the scope.
abbrev pub StrandAfterAScopePrints : Type 0
StrandAfterAScopePrints = strand_at (plan_of_child 20) (1 ∷ []) ≡ FoundStrand (record { events = event.Print (1 ∷ []) (Int (pos 21)) ∷ event.Sync (1 ∷ []) ∷ []; fault = None })
