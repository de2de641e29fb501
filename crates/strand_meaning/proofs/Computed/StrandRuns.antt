-- Proofs of the examples of strands: what stands at each pedigree is computed.
use Rattle.script_grammar.specs.declared.tree.Act.{out-Act}
use Rattle.serial_meaning.proofs.Equations.Computing.{opened-let, opened-set, opened-print, opened-scope, value_of-number, value_of-variable, value_of-product, spawns-out}
use Rattle.serial_meaning.proofs.RisingPedigrees.Named.{product_part-is}
use Rattle.strand_meaning.specs.StrandExamples.{FirstStrandPrintsAndSpawns, ChildsStrandHasItsFault, ParentGoesOnToItsFault, NoStrandAfterAFault, SyncStandsWhereAChildFaulted, ChildsFaultBlocks, IterationsHaveStrands, LoopIsAStrandsEvent, IterationsPathIsNoStrand, NoStrandBelowAMissingIteration, ScopesFirstStrandSpawns, ScopesSecondStrandSyncs, ScopesLastStrandIsThere, NoStrandAfterAScopesLast, StrandAfterAScopePrints}

pub first_strand_prints_and_spawns : FirstStrandPrintsAndSpawns
unfolding out-Act denote.Hole.Carrier.out
first_strand_prints_and_spawns = simp value_of-number

pub childs_strand_has_its_fault : ChildsStrandHasItsFault
unfolding out-Act denote.Hole.Carrier.out
childs_strand_has_its_fault = simp (value_of-product, product_part-is, value_of-number, value_of-variable, spawns-out)

pub parent_goes_on_to_its_fault : ParentGoesOnToItsFault
unfolding out-Act denote.Hole.Carrier.out
parent_goes_on_to_its_fault = simp value_of-number

pub no_strand_after_a_fault : NoStrandAfterAFault
unfolding out-Act denote.Hole.Carrier.out
no_strand_after_a_fault = simp value_of-number

pub sync_stands_where_a_child_faulted : SyncStandsWhereAChildFaulted
unfolding out-Act denote.Hole.Carrier.out
sync_stands_where_a_child_faulted = simp (value_of-product, product_part-is, value_of-number, value_of-variable, spawns-out)

pub childs_fault_blocks : ChildsFaultBlocks
unfolding out-Act denote.Hole.Carrier.out
childs_fault_blocks = simp (value_of-product, product_part-is, value_of-number, value_of-variable, spawns-out)

pub iterations_have_strands : IterationsHaveStrands
unfolding out-Act denote.Hole.Carrier.out
iterations_have_strands = simp (value_of-number, value_of-variable, spawns-out)

pub loop_is_a_strands_event : LoopIsAStrandsEvent
unfolding out-Act denote.Hole.Carrier.out
loop_is_a_strands_event = simp (value_of-number, value_of-variable, spawns-out)

pub iterations_path_is_no_strand : IterationsPathIsNoStrand
unfolding out-Act denote.Hole.Carrier.out
iterations_path_is_no_strand = simp (value_of-number, value_of-variable, spawns-out)

pub no_strand_below_a_missing_iteration : NoStrandBelowAMissingIteration
unfolding out-Act denote.Hole.Carrier.out
no_strand_below_a_missing_iteration = simp (value_of-number, value_of-variable, spawns-out)

pub scopes_first_strand_spawns : ScopesFirstStrandSpawns
scopes_first_strand_spawns = simp (opened-scope, opened-print, opened-let, opened-set, value_of-number, value_of-variable, spawns-out)

pub scopes_second_strand_syncs : ScopesSecondStrandSyncs
scopes_second_strand_syncs = simp (opened-scope, opened-print, opened-let, opened-set, value_of-number, value_of-variable, spawns-out)

pub scopes_last_strand_is_there : ScopesLastStrandIsThere
scopes_last_strand_is_there = simp (opened-scope, opened-print, opened-let, opened-set, value_of-number, value_of-variable, spawns-out)

pub no_strand_after_a_scopes_last : NoStrandAfterAScopesLast
no_strand_after_a_scopes_last = simp (opened-scope, opened-print, opened-let, opened-set, value_of-number, value_of-variable, spawns-out)

pub strand_after_a_scope_prints : StrandAfterAScopePrints
strand_after_a_scope_prints = simp (opened-scope, opened-print, opened-let, opened-set, value_of-number, value_of-variable, spawns-out)
