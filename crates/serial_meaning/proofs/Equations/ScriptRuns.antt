-- Proofs of the examples: the meaning of each script is computed.
use Rattle.std.proofs.Common.{◌≡◌, ◌+◌, ◌-◌, ℕ, suc, true, nat_lt, refl, arith}
use Rattle.std.proofs.lemmas.Bool.Decides.{nat_tests}
use Rattle.script_grammar.specs.declared.tree.Act.{out-Act}
use Rattle.serial_meaning.specs.Examples.{ThreeStepsAreTooFew, FourStepsAreEnough, ScopeHasStrands, ScopeIsALevel, ScopeNeedsDepthTwo, ScopeRaisesTheRank, ChildStandsInItsScope, SpawnNeedsDepthTwo, DepthTwoIsEnoughForASpawn, EmptyLoopRaisesTheRank, TargetMustHaveRoom, CallsShareTheRank, ImpliedSyncRaisesTheRank, CallsEndAt256}
use Rattle.serial_meaning.proofs.Equations.Computing.{opened-let, opened-set, opened-print, opened-scope, value_of-number, value_of-variable, spawns-out}

no_iteration_fits : (m : ℕ) → nat_lt 0 (m + 1) ≡ true
no_iteration_fits m = grind (arith, nat_tests)

six_iterations_fit : (m : ℕ) → nat_lt 6 (suc (suc (suc (suc (suc (suc m))))) + 1) ≡ true
six_iterations_fit m = grind (arith, nat_tests)

nothing_paid : (m : ℕ) → m - 0 ≡ m
nothing_paid m = omega arith

pub three_steps_are_too_few : ThreeStepsAreTooFew
unfolding out-Act denote.Hole.Carrier.out
three_steps_are_too_few = simp value_of-number

pub four_steps_are_enough : FourStepsAreEnough
unfolding out-Act denote.Hole.Carrier.out
four_steps_are_enough = simp (value_of-number, spawns-out)

pub spawn_needs_depth_two : SpawnNeedsDepthTwo
unfolding out-Act denote.Hole.Carrier.out
spawn_needs_depth_two n = refl

pub depth_two_is_enough_for_a_spawn : DepthTwoIsEnoughForASpawn
unfolding out-Act denote.Hole.Carrier.out
depth_two_is_enough_for_a_spawn n = simp (value_of-number, spawns-out)

pub empty_loop_raises_the_rank : EmptyLoopRaisesTheRank
unfolding out-Act denote.Hole.Carrier.out
empty_loop_raises_the_rank n = simp (value_of-number, value_of-variable, spawns-out, no_iteration_fits, nothing_paid)

pub target_must_have_room : TargetMustHaveRoom
unfolding out-Act denote.Hole.Carrier.out
target_must_have_room n = simp (value_of-number, six_iterations_fit)

pub calls_share_the_rank : CallsShareTheRank
unfolding out-Act denote.Hole.Carrier.out
calls_share_the_rank n = simp (value_of-number, value_of-variable, spawns-out)

pub implied_sync_raises_the_rank : ImpliedSyncRaisesTheRank
unfolding out-Act denote.Hole.Carrier.out
implied_sync_raises_the_rank n = simp (value_of-number, value_of-variable, spawns-out)

pub calls_end_at_256 : CallsEndAt256
unfolding out-Act denote.Hole.Carrier.out
calls_end_at_256 = refl

pub scope_is_a_level : ScopeIsALevel
scope_is_a_level n = simp (opened-scope, opened-print, value_of-number, spawns-out)

pub scope_needs_depth_two : ScopeNeedsDepthTwo
unfolding out-Act denote.Hole.Carrier.out
scope_needs_depth_two n = refl

pub scope_has_strands : ScopeHasStrands
scope_has_strands n = simp (opened-scope, opened-print, value_of-number, spawns-out)

pub scope_raises_the_rank : ScopeRaisesTheRank
scope_raises_the_rank n = simp (opened-scope, opened-print, opened-let, value_of-number, value_of-variable, spawns-out)

pub child_stands_in_its_scope : ChildStandsInItsScope
child_stands_in_its_scope n = simp (opened-scope, opened-print, opened-let, opened-set, value_of-number, value_of-variable, spawns-out)
