-- Spawns, as moves of an instance.
use Rattle.std.proofs.Common.{◌≡◌, ℕ, ◌+◌, List, Option, Some, None, Result, Ok, Err, refl, ap, subst, ◌∙◌}
use Rattle.std.specs.Result.{IsErrAnd}
use Rattle.script_grammar.specs.declared.tree.Name.{Name}
use Rattle.script_grammar.specs.declared.tree.CallText.{CallText}
use Rattle.script_grammar.specs.declared.tree.Right.{Right}
use Rattle.script_grammar.specs.declared.tree.Right.TheVariants as right
use Rattle.script_grammar.specs.declared.tree.Stmt.{Stmt, out-Stmt}
use Rattle.script_grammar.specs.declared.tree.Act.{Act, out-Act}
use Rattle.script_grammar.specs.declared.tree.Act.TheOpen as act
use Rattle.script_grammar.specs.declared.tree.Act.TheOpen.{Act-F}
use Rattle.serial_meaning.specs.Plan.{PlanView}
use Rattle.serial_meaning.specs.Runs.{Run}
use Rattle.serial_meaning.specs.declared.event.Event.{Event}
use Rattle.serial_meaning.specs.declared.event.Fault.{Fault}
use Rattle.serial_meaning.specs.declared.event.FaultKind.{FaultKind}
use Rattle.strand_meaning.specs.Machine.{Effect, Machine, Reached, move, statement_move}
use Rattle.strand_values.specs.Gives.{Calculates}
use Rattle.strand_values.specs.declared.evaluation_error.EvaluationError as values
use Rattle.strand_moves.specs.declared.instance_parts.InstanceParts.{InstanceParts}
use Rattle.strand_moves.specs.declared.effects.SpawnedChild.{SpawnedChild}
use Rattle.strand_moves.specs.declared.effects.MoveResult.TheVariants as move_result
use Rattle.strand_moves.specs.declared.effects.Effects.TheVariants as effect
use Rattle.strand_moves.specs.Acts.{Acts, Costs, IsKept, Stays}
use Rattle.strand_moves.specs.Moves.{Makes, acted, run_of, spawn_to, present_pedigree}
use Rattle.strand_moves.specs.StraightRuns.{HasPassedStatement, unpassed}
use Rattle.strand_moves.specs.InstanceParts.{IsInstance, KeepsNames, machine_of, path_of, present_of}
use Rattle.strand_moves.specs.Spawns.{DoesAs, spawn_as_move}
use Rattle.strand_moves.proofs.Cursors.Passing.{next-moves}
use Rattle.strand_moves.proofs.OpenScopes.Exits.{shows-exit}
use Rattle.strand_moves.proofs.OpenScopes.Keeping.{here-is, keeps-paid}
use Rattle.strand_moves.proofs.Statements.Equations.{faults, let-is-set}
use Rattle.strand_moves.proofs.Statements.Paying.{shows-same, spawn-at, statement-paid}

-- a spawn that is left by a `?`
pub boxed-exit : (run : Run Effect Fault Reached) (strand : List ℕ) (m : Machine) (shown : Event) {A : Type 0} (r : Result SpawnedChild values.EvaluationError) (h : values.EvaluationError) (defined : Result A FaultKind) → IsErrAnd r (λ y. y ≡ h) → Calculates (Err h) defined →
    ((kind : FaultKind) → defined ≡ Err kind → run ≡ faults kind strand) → Makes run strand m (spawn_as_move shown r)
boxed-exit run strand m shown (Ok s) h defined e g f = absurd e
boxed-exit run strand m shown (Err y) h defined e g f = shows-exit run strand m (Err y) h defined e g f

-- Statements that are spawns

module _ (st : Stmt) where
  pub does-spawn : (c : CallText) → out-Act (out-Stmt st).act ≡ act.Spawn c → DoesAs st None c
  does-spawn c e = λ plan here m. ap (λ (b : Act-F Act Stmt). acted plan here m st b) e

  module _ (x : Name) (r : Right) (at : ℕ) (c : CallText) (is : r ≡ right.Spawn at c) where
    set-spawns : (plan : PlanView) (here : List ℕ) (m : Machine) → acted plan here m st (act.Set x r) ≡ acted plan here m st (act.Set x (right.Spawn 0 c))
    set-spawns plan here m = ap (λ (s : Right). acted plan here m st (act.Set x s)) is ∙ spawn-at plan here m st x at c

    pub does-set : out-Act (out-Stmt st).act ≡ act.Set x r → DoesAs st (Some x) c
    does-set e = λ plan here m. ap (λ (b : Act-F Act Stmt). acted plan here m st b) e ∙ set-spawns plan here m

    pub does-let : out-Act (out-Stmt st).act ≡ act.Let x r → DoesAs st (Some x) c
    does-let e = λ plan here m. ap (λ (b : Act-F Act Stmt). acted plan here m st b) e ∙ let-is-set plan here m st x r ∙ set-spawns plan here m

-- A spawn after the step of its statement

module _ (i : InstanceParts) (n : ℕ) (less : n + 1 ≡ i.steps) where
  abbrev paid : InstanceParts
  paid = record i { steps = n }

  -- the step is taken back
  pub spawn-undone : (last : InstanceParts) → last ≡ paid → record last { steps = last.steps + 1 } ≡ i
  spawn-undone last e = ap (λ (x : InstanceParts). let r : InstanceParts = record x { steps = x.steps + 1 } in r) e ∙ ap (λ (k : ℕ). let r : InstanceParts = record i { steps = k } in r) less

  module _ (plan : PlanView) (sound : IsInstance plan i) (st : Stmt) (passed : HasPassedStatement plan i (Some st)) (new : InstanceParts) where
    pub spawn-kept : KeepsNames plan paid new → Stays paid new → Costs paid new → IsKept plan i new
    spawn-kept named stays few = keeps-paid plan i paid n sound passed.0 refl less new named stays few (Ok (move_result.Moved effect.Nothing))

    pub spawn-did : (to : Option Name) (c : CallText) → DoesAs st to c → (shown : Event) (done : Result SpawnedChild values.EvaluationError) (s : SpawnedChild) → done ≡ Ok s → Acts plan st (spawn_to to c) paid new (spawn_as_move shown done) →
        move plan (path_of i) (unpassed plan i (Some st)) ≡ run_of (move_result.Moved (effect.Spawned shown s)) (machine_of plan new)
    spawn-did to c does shown done s is acts =
        let m = machine_of plan i in
        let a = out-Act (out-Stmt st).act in
        let alike =
        shows-same (acted plan (present_of paid) (machine_of plan paid) st a) (acted plan (present_of paid) (machine_of plan paid) st (spawn_to to c)) (present_pedigree (present_of paid) (machine_of plan paid)) (machine_of plan new) (spawn_as_move shown done)
        (does plan (present_of paid) (machine_of plan paid)) acts in
        let made = statement-paid plan i paid n refl less (here-is plan i sound) st a new (spawn_as_move shown done) refl alike in
        next-moves plan i (Some st) st refl
        ∙ subst (λ (d : Result SpawnedChild values.EvaluationError). Makes (statement_move plan (path_of i) m st m.top.left) (present_pedigree (present_of i) m) (machine_of plan new) (spawn_as_move shown d)) is made
