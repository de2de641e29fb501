-- Children that are begun, as changes of an instance.
use Rattle.std.proofs.Common.{◌≡◌, ℕ, ◌+◌, ◌-◌, ◌<◌, true, List, [], ◌∷◌, ◌++◌, Option, Ok, length, sym, ◌∙◌, arith}
use Rattle.std.proofs.Common.{ℤ, ◌-ℤ◌}
use Rattle.dotmix.specs.declared.trail.Trail.{Trail}
use Rattle.script_grammar.specs.declared.tree.Name.{Name}
use Rattle.script_grammar.specs.declared.tree.Expr.{Expr}
use Rattle.script_grammar.specs.declared.tree.CallText.{CallText}
use Rattle.script_grammar.specs.declared.tree.Stmt.{Stmt}
use Rattle.script_grammar.specs.declared.tree.Act.TheOpen as act
use Rattle.serial_meaning.specs.Values.{value_of, values_of, as_integer}
use Rattle.serial_meaning.specs.Functions.{function_number, function_at}
use Rattle.serial_meaning.specs.Plan.{PlanView, functions_of}
use Rattle.serial_meaning.specs.Exec.{count_of, with_loop_values}
use Rattle.serial_meaning.specs.Open.{answer_placeholder}
use Rattle.serial_meaning.specs.declared.value.Value.{Value}
use Rattle.serial_meaning.specs.declared.event.Event.TheVariants as event
use Rattle.serial_meaning.specs.declared.origin.Origin.TheVariants as origin
use Rattle.strand_meaning.specs.Machine.{Spawned, Emitted, Starts, with_scalar}
use Rattle.strand_values.specs.Environments.{EnvironmentView, with_variables}
use Rattle.strand_moves.specs.declared.instance_parts.InstanceParts.{InstanceParts}
use Rattle.strand_moves.specs.declared.effects.Effects.{Effects}
use Rattle.strand_moves.specs.declared.effects.Effects.TheVariants as effect
use Rattle.strand_moves.specs.Acts.{loop_begins}
use Rattle.strand_moves.specs.InstanceParts.{machine_of, present_of}
use Rattle.strand_moves.specs.Moves.{acted, spawn_to, effects_of}
use Rattle.strand_moves.proofs.Frames.CallLemmas.{is_below, calls-open}
use Rattle.strand_moves.proofs.Statements.Equations.{moved, spawn}
use Rattle.strand_moves.proofs.Statements.LoopEquations.{pfor-none, pfor-some}

-- the pedigree of an instance's strand
abbrev pub strand_at : InstanceParts → List ℕ
strand_at i = present_of i ++ i.rank ∷ []

module _ (plan : PlanView) (i : InstanceParts) (st : Stmt) where
  pub spawned-child : (target : Option Name) (c : CallText) (vs : List Value) (instead : Value) (function height : ℕ) (path : List ℕ) (to : Option Name) (env : EnvironmentView) (received : InstanceParts) →
      values_of c.args i.top.env.variables ≡ Ok vs → length (present_of i) + 1 < plan.limits.depth → function ≡ function_number (functions_of plan) c.name.bytes → path ≡ strand_at i →
      instead ≡ answer_placeholder (function_at (functions_of plan) function) → env.variables ≡ with_scalar target instead i.top.env.variables → received ≡ record i { top = record i.top { env = env } } →
      height ≡ length i.below.items → to ≡ target →
      acted plan (present_of i) (machine_of plan i) st (spawn_to target c)
      ≡ moved (Emitted (event.Spawn (strand_at i)) ∷ Starts (origin.Instance function vs path) (Spawned height to) ∷ []) (machine_of plan (record received { rank = received.rank + 1; top = record received.top { spawned = true } }))
  spawned-child target c vs instead function height path to env received known room as_integer p placeholder e r h t =
      let deep = is_below (length (present_of i) + 1) plan.limits.depth room in
      let put = rw (placeholder, as_integer) at e in
      rw (as_integer, p, r, h ∙ sym (calls-open plan i), t) (spawn plan (present_of i) (machine_of plan i) st target c vs env.variables known deep put)

  module _ (var : Name) (lo hi : Expr) (target : Option Name) (c : CallText) (l h : Value) (vs : List Value) (n steps : ℕ) (begun : InstanceParts)
      (known-lo : value_of lo i.top.env.variables ≡ Ok l) (known-hi : value_of hi i.top.env.variables ≡ Ok h) (known-args : values_of c.args i.top.env.variables ≡ Ok vs)
      (counted : n ≡ count_of (as_integer h -ℤ as_integer l)) (begins : loop_begins plan (present_of i) n target i.top.env.variables i.steps ≡ Ok tt)
      (paid : steps + n ≡ i.steps) (is-begun : begun ≡ record i { steps = steps }) where
    abbrev pub passed_on : InstanceParts
    passed_on = record begun { rank = begun.rank + 1; top = record begun.top { env = with_variables begun.top.env (with_loop_values target [] begun.top.env.variables) } }

    left : i.steps - n ≡ steps
    left = omega arith

    pub looped-none : n ≡ 0 → (s : Effects) (passed : InstanceParts) → s ≡ effect.Emitted (event.Loop (strand_at begun)) → passed ≡ passed_on →
        acted plan (present_of i) (machine_of plan i) st (act.Pfor var lo hi target c) ≡ moved (effects_of s) (machine_of plan passed)
    looped-none none s passed e p =
        rw (e, p, is-begun, ← left) (pfor-none plan (present_of i) (machine_of plan i) st var lo hi target c l h vs n known-lo known-hi known-args counted none begins)

    pub looped-some : 0 < n → (s : Effects) (passed : InstanceParts) (function : ℕ) (first : ℤ) (path : List ℕ) (trail : Trail) → function ≡ function_number (functions_of plan) c.name.bytes → first ≡ as_integer l → path ≡ strand_at begun →
        s ≡ effect.Looped (event.Loop (strand_at begun)) (record { child = record { origin = origin.Loop function vs first path (record { lo = 0; hi = n }); trail = trail }; target = target }) → passed ≡ passed_on →
        acted plan (present_of i) (machine_of plan i) st (act.Pfor var lo hi target c) ≡ moved (effects_of s) (machine_of plan passed)
    looped-some some s passed function first path trail f g a e p =
        rw (e, p, f, g, a, is-begun, ← left) (pfor-some plan (present_of i) (machine_of plan i) st var lo hi target c l h vs n known-lo known-hi known-args counted some begins)
