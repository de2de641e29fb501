-- Each draw of the elision is DotMix of its pedigree.
use Rattle.std.proofs.Common.{◌≡◌, ℕ, zero, suc, ◌+◌, ◌-◌, List, [], refl}
use Rattle.std.proofs.Common.{ℤ}
use Rattle.std.specs.Prelude.{Contains}
use Rattle.serial_meaning.specs.Runs.{done}
use Rattle.serial_meaning.specs.Functions.{function_at}
use Rattle.serial_meaning.specs.Plan.{PlanView, functions_of, drawn}
use Rattle.serial_meaning.specs.Eval.{Evaluation, serial, iteration, loop_evaluation, first_value, eval_with, eval_below, depth_left, main_origin, elision}
use Rattle.serial_meaning.proofs.OriginFaults.Levels.{every}
use Rattle.serial_meaning.proofs.Equations.Each.{Each, each-then, each-contained, Parts, instance-each}
use Rattle.serial_meaning.specs.declared.value.Value.{Value}
use Rattle.serial_meaning.specs.declared.event.Event.{Event}
use Rattle.serial_meaning.specs.declared.event.Event.TheVariants as event
use Rattle.serial_meaning.specs.declared.origin.Origin.{Origin}
use Rattle.serial_meaning.specs.declared.origin.Origin.TheVariants as origin

module _ (plan : PlanView) where
  abbrev pub IsTrueDraw : Event → Type 0
  IsTrueDraw (event.Print j v) = Unit {0}
  IsTrueDraw (event.Draw j n) = n ≡ drawn plan j
  IsTrueDraw (event.New j) = Unit {0}
  IsTrueDraw (event.Spawn j) = Unit {0}
  IsTrueDraw (event.Sync j) = Unit {0}
  IsTrueDraw (event.Loop j) = Unit {0}

  module _ (child : Origin → Evaluation) (fine : (o : Origin) → Each IsTrueDraw (child o).items) where
    parts : Parts (serial child) plan IsTrueDraw
    parts = record {
      print = λ path s v. tt;
      draw = λ path s. refl;
      new = λ path s. tt;
      sync = λ path s. tt;
      spawn = λ path s. tt;
      loop = λ path s. tt;
      opens = λ here. tt;
      closes = λ here. tt;
      at_sync = λ k. tt;
      child = λ path n vs s h. each-then IsTrueDraw (child (origin.Instance n vs _)) (λ vs. done (first_value vs, s.spawned)) (fine _) (λ vs. tt);
      iterations = λ path n vs lo hi s h. fine _;
    }

    turns-each : (function : ℕ) (rest : List Value) (first : ℤ) (path : List ℕ) (k n : ℕ) → Each IsTrueDraw (loop_evaluation child function rest first path k n).items
    turns-each function rest first path k zero = tt
    turns-each function rest first path k (suc n) =
        each-then IsTrueDraw (child (iteration function rest first path k)) _ (fine (iteration function rest first path k))
        (λ vs. each-then IsTrueDraw (loop_evaluation child function rest first path (k + 1) n) _ (turns-each function rest first path (k + 1) n) (λ ws. tt))

    eval_with-each : (o : Origin) → Each IsTrueDraw (eval_with plan child o).items
    eval_with-each (origin.Instance function args path) = instance-each (serial child) plan IsTrueDraw parts path (function_at (functions_of plan) function) args
    eval_with-each (origin.Loop function rest first path range) = turns-each function rest first path range.lo (range.hi - range.lo)

  eval_below-each : (left : ℕ) (o : Origin) → Each IsTrueDraw (eval_below plan left o).items
  eval_below-each = every plan (done []) (eval_with plan) (λ o r. Each IsTrueDraw r.items) (λ o. tt) eval_with-each

pub draws_are_dotmix : (plan : PlanView) (j : List ℕ) (n : ℕ) → Contains (elision plan).items (event.Draw j n) → n ≡ drawn plan j
draws_are_dotmix plan j n c =
    let main = main_origin plan in
    each-contained (IsTrueDraw plan) (elision plan).items (event.Draw j n) (eval_with-each plan (eval_below plan (depth_left plan main)) (eval_below-each plan (depth_left plan main)) main) c
