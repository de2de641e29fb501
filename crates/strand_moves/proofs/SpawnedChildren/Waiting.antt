-- Syncs and parallel loops, as moves of an instance.
use Rattle.std.proofs.Common.{◌≡◌, ℕ, ◌+◌, Bool, true, false, List, ◌∷◌, Some, Result, Ok, Err, sym, ap, subst, ◌∙◌, refl}
use Rattle.std.specs.Result.{IsErrAnd}
use Rattle.script_grammar.specs.declared.tree.Stmt.{Stmt, out-Stmt}
use Rattle.script_grammar.specs.declared.tree.Act.{Act, out-Act}
use Rattle.script_grammar.specs.declared.tree.Act.TheOpen as act
use Rattle.script_grammar.specs.declared.tree.Act.TheOpen.{Act-F}
use Rattle.serial_meaning.specs.Plan.{PlanView}
use Rattle.serial_meaning.specs.Runs.{Run}
use Rattle.serial_meaning.specs.declared.event.Event.{Event}
use Rattle.serial_meaning.specs.declared.event.Event.TheVariants as event
use Rattle.serial_meaning.specs.declared.event.Fault.{Fault}
use Rattle.serial_meaning.specs.declared.event.FaultKind.{FaultKind}
use Rattle.strand_meaning.specs.Machine.{Effect, Emitted, Machine, Reached, move, statement_move, sync_effects}
use Rattle.strand_values.specs.Gives.{Calculates}
use Rattle.strand_values.specs.declared.evaluation_error.EvaluationError as values
use Rattle.strand_values.specs.declared.evaluation_error.EvaluationError.TheVariants as error
use Rattle.strand_moves.specs.declared.instance_parts.InstanceParts.{InstanceParts}
use Rattle.strand_moves.specs.declared.effects.Waits.{Waits}
use Rattle.strand_moves.specs.declared.effects.MoveResult.TheVariants as move_result
use Rattle.strand_moves.specs.Acts.{Acts}
use Rattle.strand_moves.specs.Moves.{Makes, acted, run_of, present_pedigree}
use Rattle.strand_moves.specs.StraightRuns.{unpassed}
use Rattle.strand_moves.specs.InstanceParts.{IsInstance, machine_of, path_of, present_of}
use Rattle.strand_moves.specs.Waits.{sync_waits, wait_as_move, waits_after}
use Rattle.strand_moves.proofs.Cursors.Passing.{next-moves}
use Rattle.strand_moves.proofs.OpenScopes.Exits.{shows-exit, shows-fault}
use Rattle.strand_moves.proofs.OpenScopes.Keeping.{here-is}
use Rattle.strand_moves.proofs.SpawnedChildren.ChildLemmas.{strand_at}
use Rattle.strand_moves.proofs.Statements.Equations.{faults, sync, moved}
use Rattle.strand_moves.proofs.Statements.Paying.{statement-paid}

-- a loop that is left by a `?`
module _ (run : Run Effect Fault Reached) (strand : List ℕ) (m : Machine) (shown : Event) where
  pub wait-exit : {A : Type 0} (r : Result Waits values.EvaluationError) (h : values.EvaluationError) (defined : Result A FaultKind) → IsErrAnd r (λ y. y ≡ h) → Calculates (Err h) defined →
      ((kind : FaultKind) → defined ≡ Err kind → run ≡ faults kind strand) → Makes run strand m (wait_as_move shown r)
  wait-exit (Ok w) h defined e g f = absurd e
  wait-exit (Err y) h defined e g f = shows-exit run strand m (Err y) h defined e g f

  pub wait-fault : (r : Result Waits values.EvaluationError) (kind : FaultKind) → IsErrAnd r (λ y. y ≡ error.Fault kind) → run ≡ faults kind strand → Makes run strand m (wait_as_move shown r)
  wait-fault (Ok w) kind e f = absurd e
  wait-fault (Err y) kind e f = shows-fault run strand m (Err y) kind e f

-- a sync that showed its event, as a run
pub sync-moved : (j : List ℕ) (spawned : Bool) (w : Waits) (m : Machine) → w ≡ sync_waits spawned → moved (Emitted (event.Sync j) ∷ sync_effects spawned) m ≡ run_of (move_result.Moved (waits_after (event.Sync j) w)) m
sync-moved j true w m e = ap (λ (x : Waits). run_of (move_result.Moved (waits_after (event.Sync j) x)) m) (sym e)
sync-moved j false w m e = ap (λ (x : Waits). run_of (move_result.Moved (waits_after (event.Sync j) x)) m) (sym e)

pub sync-shows : (plan : PlanView) (st : Stmt) (old new : InstanceParts) (w : Waits) → w ≡ sync_waits old.top.spawned → new ≡ record old { rank = old.rank + 1; top = record old.top { spawned = false } } →
    acted plan (present_of old) (machine_of plan old) st act.Sync ≡ run_of (move_result.Moved (waits_after (event.Sync (strand_at old)) w)) (machine_of plan new)
sync-shows plan st old new w waits passed =
    sync plan (present_of old) (machine_of plan old) st
    ∙ ap (λ (x : InstanceParts). moved (Emitted (event.Sync (strand_at old)) ∷ sync_effects old.top.spawned) (machine_of plan x)) (sym passed)
    ∙ sync-moved (strand_at old) old.top.spawned w (machine_of plan new) waits

-- a sync or a loop after the step of its statement
module _ (i : InstanceParts) (n : ℕ) (less : n + 1 ≡ i.steps) (plan : PlanView) (sound : IsInstance plan i) (st : Stmt) (new : InstanceParts) where
  abbrev paid : InstanceParts
  paid = record i { steps = n }

  pub wait-did : (a : Act-F Act Stmt) → out-Act (out-Stmt st).act ≡ a → (shown : Event) (done : Result Waits values.EvaluationError) (w : Waits) → done ≡ Ok w → Acts plan st a paid new (wait_as_move shown done) →
      move plan (path_of i) (unpassed plan i (Some st)) ≡ run_of (move_result.Moved (waits_after shown w)) (machine_of plan new)
  wait-did a is shown done w e acts =
      let m = machine_of plan i in
      let made = statement-paid plan i paid n refl less (here-is plan i sound) st a new (wait_as_move shown done) is acts in
      next-moves plan i (Some st) st refl
      ∙ subst (λ (d : Result Waits values.EvaluationError). Makes (statement_move plan (path_of i) m st m.top.left) (present_pedigree (present_of i) m) (machine_of plan new) (wait_as_move shown d)) e made
