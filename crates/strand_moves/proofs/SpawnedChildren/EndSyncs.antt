-- Syncs that no statement is, as moves of an instance: at the end of a scope, and of a return.
use Rattle.std.proofs.Common.{◌≡◌, ℕ, ◌+◌, Bool, true, false, List, [], ◌∷◌, None, Some, Ok, reverse, refl, sym, ap, subst, ◌∙◌, arith}
use Rattle.script_check.specs.Spawns.{spawns_in}
use Rattle.serial_meaning.specs.Functions.{function_at}
use Rattle.serial_meaning.specs.Plan.{PlanView, functions_of}
use Rattle.serial_meaning.specs.declared.event.Event.{Event}
use Rattle.serial_meaning.specs.declared.event.Event.TheVariants as event
use Rattle.strand_meaning.specs.Machine.{Emitted, end_move, move, return_move, sync_effects}
use Rattle.strand_moves.specs.declared.frame.Level.{Level}
use Rattle.strand_moves.specs.declared.instance_parts.InstanceParts.{InstanceParts}
use Rattle.strand_moves.specs.declared.effects.Waits.{Waits}
use Rattle.strand_moves.specs.declared.effects.Effects.TheVariants as effect
use Rattle.strand_moves.specs.declared.effects.MoveResult.TheVariants as move_result
use Rattle.strand_moves.specs.Acts.{IsKept}
use Rattle.strand_moves.specs.Cursors.{statements_left}
use Rattle.strand_moves.specs.StraightRuns.{unpassed}
use Rattle.strand_moves.specs.InstanceParts.{IsInstance, body_of, levels_of, machine_of, path_of, statements_of}
use Rattle.strand_moves.specs.Waits.{HasWaited, sync_waits}
use Rattle.strand_moves.proofs.Cursors.Passing.{end-moves}
use Rattle.strand_moves.proofs.Frames.Ending.{return-synced}
use Rattle.strand_moves.proofs.OpenScopes.Keeping.{here-is, keeps-stays}
use Rattle.strand_moves.proofs.OpenScopes.Levels.{join-kept, join-moves, joined}
use Rattle.strand_moves.proofs.SpawnedChildren.ChildLemmas.{strand_at}
use Rattle.strand_moves.proofs.SpawnedChildren.Waiting.{sync-moved}
use Rattle.strand_moves.proofs.Statements.Equations.{moved}
use Rattle.strand_moves.proofs.Statements.Naming.{top-named}

-- a sync keeps an instance where a step was paid for it
module _ (plan : PlanView) (i : InstanceParts) (sound : IsInstance plan i) (on : i.leaving ≡ false) (n : ℕ) (less : n + 1 ≡ i.steps) (returning : Bool) where
  abbrev pub synced : InstanceParts
  synced = record i { rank = i.rank + 1; steps = n; top = record i.top { returning = returning; spawned = false } }

  pub synced-kept : (new : InstanceParts) → new ≡ synced → IsKept plan i new
  synced-kept new passed =
      let kept = top-named plan i synced refl refl refl refl in
      subst (IsKept plan i) (sym passed) (keeps-stays plan i synced sound on (record { trail = refl; scopes = refl; leaving = refl }) kept (omega (arith, less)) (Ok (move_result.Moved effect.Nothing)))

module _ (plan : PlanView) (i : InstanceParts) (sound : IsInstance plan i) (on : i.leaving ≡ false) (none : statements_left (statements_of plan i.top) i.top.cursor ≡ []) where
  -- at the end of a scope
  module _ (some : i.top.levels.items ≡ [] → ⊥) (new : InstanceParts) (passed : new ≡ joined plan i sound some on) where
    pub scope-waited : {S : Type 0} (after : Event → S → S) (from to : S) (w : Waits) → to ≡ after (event.Sync (strand_at i)) from → w ≡ sync_waits i.top.spawned → HasWaited after plan i from None new to (Some w)
    scope-waited after from to w sent waits = (
      event.Sync (strand_at i),
      sent,
      end-moves plan i None refl none ∙ join-moves plan i sound some on
          ∙ ap (λ (x : InstanceParts). moved (Emitted (event.Sync (strand_at i)) ∷ sync_effects i.top.spawned) (machine_of plan x)) (sym passed)
          ∙ sync-moved (strand_at i) i.top.spawned w (machine_of plan new) waits,
    )

    pub scope-kept : IsKept plan i new
    scope-kept = subst (IsKept plan i) (sym passed) (join-kept plan i sound some on none)

  -- of a return
  module _ (outside : i.top.levels.items ≡ []) (off : i.top.returning ≡ false) (n : ℕ) (less : n + 1 ≡ i.steps) where
    return-ends : move plan (path_of i) (unpassed plan i None) ≡ return_move plan (path_of i) (machine_of plan i) false
    return-ends =
        end-moves plan i None refl none
        ∙ ap (λ (ls : List Level). end_move plan (path_of i) (machine_of plan i) (levels_of (body_of plan i.top.function) (reverse ls))) outside
        ∙ ap (λ (b : Bool). return_move plan (path_of i) (machine_of plan i) b) off

    pub return-waited : (new : InstanceParts) → new ≡ synced plan i sound on n less true → spawns_in (function_at (functions_of plan) i.top.function) ≡ true →
        {S : Type 0} (after : Event → S → S) (from to : S) (w : Waits) → to ≡ after (event.Sync (strand_at i)) from → w ≡ sync_waits i.top.spawned → HasWaited after plan i from None new to (Some w)
    return-waited new passed spawns after from to w sent waits = (
      event.Sync (strand_at i),
      sent,
      return-ends ∙ return-synced plan i (here-is plan i sound) (record i { steps = n }) n refl less new spawns passed
          ∙ sync-moved (strand_at i) i.top.spawned w (machine_of plan new) waits,
    )
