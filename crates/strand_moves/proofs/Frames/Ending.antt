-- Frames that end, as changes of an instance.
use Rattle.std.proofs.Common.{◌≡◌, ℕ, suc, ◌+◌, true, false, List, [], ◌∷◌, ◌++◌, Option, Some, None, Ok, Err, map, reverse, refl, sym, ap, ◌∙◌, arith}
use Rattle.std.proofs.lemmas.List.{append-nil}
use Rattle.serial_meaning.specs.Functions.{function_at}
use Rattle.serial_meaning.specs.Plan.{PlanView, functions_of}
use Rattle.serial_meaning.specs.declared.value.Value.{Value}
use Rattle.serial_meaning.specs.declared.event.Event.TheVariants as event
use Rattle.serial_meaning.specs.declared.event.FaultKind.{FaultKind}
use Rattle.script_check.specs.Spawns.{spawns_in}
use Rattle.strand_meaning.specs.Machine.{Stands, Gives, Emitted, back_in_caller, here_of, sync_effects, with_scalar, return_move, Effect, Machine, Reached}
use Rattle.strand_values.specs.Environments.{EnvironmentView}
use Rattle.strand_moves.specs.declared.frame.Frame.{Frame}
use Rattle.strand_moves.specs.declared.instance_parts.InstanceParts.{InstanceParts}
use Rattle.strand_moves.specs.declared.frame.Level.{Level}
use Rattle.strand_moves.specs.Acts.{Stays, result_of}
use Rattle.strand_moves.specs.InstanceParts.{frame_of, machine_of, path_of, present_of, scopes_of}
use Rattle.strand_moves.proofs.Statements.Equations.{faults, moved}
use Rattle.strand_moves.proofs.Frames.CallLemmas.{below-more, scopes-more}
use Rattle.script_grammar.specs.declared.tree.Function.{Function}
use Rattle.serial_meaning.specs.Runs.{Run}
use Rattle.serial_meaning.specs.declared.event.Fault.{Fault}

-- a run that ends here, in which nothing happens
abbrev pub reaches : Reached → Run Effect Fault Reached
reaches r = record { items = []; ending = Ok r }

module _ (plan : PlanView) (path : List ℕ) (m : Machine) where
  by_function : (found : Option Function) → function_at (functions_of plan) m.top.function ≡ found → (v : Value) → result_of found m.top.env ≡ Ok v →
      return_move plan path m true ≡ reaches (back_in_caller m.below m.top.target v m.rank m.steps)
  by_function (Some f) h v k = rw (h, k) refl
  by_function None h v k = rw h (ap (λ (x : Value). reaches (back_in_caller m.below m.top.target x m.rank m.steps)) (cc))

  pub value-known : (v : Value) → result_of (function_at (functions_of plan) m.top.function) m.top.env ≡ Ok v → return_move plan path m true ≡ reaches (back_in_caller m.below m.top.target v m.rank m.steps)
  value-known = by_function (function_at (functions_of plan) m.top.function) refl

  by_fault : (found : Option Function) → function_at (functions_of plan) m.top.function ≡ found → (kind : FaultKind) → result_of found m.top.env ≡ Err kind → return_move plan path m true ≡ faults kind (here_of path m ++ m.rank ∷ [])
  by_fault (Some f) h kind k = rw (h, k) refl
  by_fault None h kind k = absurd (cc)

  -- the step of a return, and the sync that it implies
  synced-return : (n : ℕ) → m.steps ≡ suc n → spawns_in (function_at (functions_of plan) m.top.function) ≡ true →
      return_move plan path m false
      ≡ moved (Emitted (event.Sync (here_of path m ++ m.rank ∷ [])) ∷ sync_effects m.top.spawned) (record m { rank = m.rank + 1; steps = n; top = record m.top { returning = true; spawned = false } })
  synced-return n h s =
      rw (h, s)
      (ap (λ (effects : List Effect). moved (Emitted (event.Sync (here_of path m ++ m.rank ∷ [])) ∷ effects) (record m { rank = m.rank + 1; steps = n; top = record m.top { returning = true; spawned = false } })) (append-nil (sync_effects m.top.spawned)))

module _ (plan : PlanView) (i : InstanceParts) (here : here_of (path_of i) (machine_of plan i) ≡ present_of i) where
  pub value-fault : (kind : FaultKind) → result_of (function_at (functions_of plan) i.top.function) i.top.env.variables ≡ Err kind → return_move plan (path_of i) (machine_of plan i) true ≡ faults kind (present_of i ++ i.rank ∷ [])
  value-fault kind k =
      by_fault plan (path_of i) (machine_of plan i) (function_at (functions_of plan) i.top.function) refl kind k ∙ ap (λ (p : List ℕ). faults kind (p ++ i.rank ∷ [])) here

  module _ (paid : InstanceParts) (n : ℕ) (is-paid : paid ≡ record i { steps = n }) (less : n + 1 ≡ i.steps) where
    one-more : i.steps ≡ suc n
    one-more = omega arith

    pub return-synced : (new : InstanceParts) → spawns_in (function_at (functions_of plan) i.top.function) ≡ true →
        new ≡ record paid { rank = paid.rank + 1; top = record paid.top { returning = true; spawned = false } } →
        return_move plan (path_of i) (machine_of plan i) false ≡ moved (Emitted (event.Sync (present_of paid ++ paid.rank ∷ [])) ∷ sync_effects paid.top.spawned) (machine_of plan new)
    return-synced new spawns p =
        let after = rw is-paid at p in
        let m = machine_of plan i in
        let next = record m { rank = m.rank + 1; steps = n; top = record m.top { returning = true; spawned = false } } in
        let effects = Emitted (event.Sync (present_of i ++ i.rank ∷ [])) ∷ sync_effects i.top.spawned in
        rw is-paid
        (synced-return plan (path_of i) m n one-more spawns ∙ ap (λ (q : List ℕ). moved (Emitted (event.Sync (q ++ i.rank ∷ [])) ∷ sync_effects i.top.spawned) next) here
        ∙ ap (λ (x : InstanceParts). moved effects (machine_of plan x)) (sym after))

module _ (plan : PlanView) (i : InstanceParts) (v : Value) (known : result_of (function_at (functions_of plan) i.top.function) i.top.env.variables ≡ Ok v) where
  pub value-received : (rest : List Frame) (caller : Frame) (env : EnvironmentView) (new : InstanceParts) → i.below.items ≡ rest ++ caller ∷ [] → env.variables ≡ with_scalar i.top.target v caller.env.variables →
      new.rank ≡ i.rank → new.steps ≡ i.steps → new.leaving ≡ false → new.top ≡ record caller { env = env } → new.below.items ≡ rest →
      return_move plan (path_of i) (machine_of plan i) true ≡ reaches (Stands (machine_of plan new))
  value-received rest caller env new b e r s g t l =
      rw (r, s, g, t, l, e)
      (value-known plan (path_of i) (machine_of plan i) v known
      ∙ ap (λ (items : List Frame). reaches (back_in_caller (map (frame_of plan false) (reverse items)) i.top.target v i.rank i.steps)) b
      ∙ ap (λ below. reaches (back_in_caller below i.top.target v i.rank i.steps)) (below-more plan rest caller))

  -- there is no frame below it
  pub value-returned : i.below.items ≡ [] → return_move plan (path_of i) (machine_of plan i) true ≡ reaches (Gives v)
  value-returned none =
      value-known plan (path_of i) (machine_of plan i) v known
      ∙ ap (λ (items : List Frame). reaches (back_in_caller (map (frame_of plan false) (reverse items)) i.top.target v i.rank i.steps)) none

-- the frame below it has the open scopes where it had none
pub ended-stays : (i new : InstanceParts) (rest : List Frame) (caller : Frame) (env : EnvironmentView) → i.top.levels.items ≡ [] → i.below.items ≡ rest ++ caller ∷ [] → new.top ≡ record caller { env = env } → new.below.items ≡ rest →
    new.trail ≡ i.trail → new.leaving ≡ i.leaving → Stays i new
ended-stays i new rest caller env none b t l trail leaving =
    record {
      trail = trail;
      scopes =
          ap (λ (a : Frame). reverse a.levels.items ++ scopes_of (reverse new.below.items)) t ∙ ap (λ (stack : List Frame). reverse caller.levels.items ++ scopes_of (reverse stack)) l
          ∙ sym (scopes-more rest caller) ∙ ap (λ (stack : List Frame). scopes_of (reverse stack)) (sym b) ∙ ap (λ (ls : List Level). reverse ls ++ scopes_of (reverse i.below.items)) (sym none);
      leaving = leaving;
    }
