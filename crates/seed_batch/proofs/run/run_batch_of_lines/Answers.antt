use Rattle.std.proofs.Common.{Result, Ok, Err, IfOk, map}
use Rattle.std.specs.Arc.{arc_value}
use Rattle.seed_batch.proofs.Parts.{all_are_mains}
use Rattle.seed_batch.proofs.run.run_batch_of_lines.Goals as goal

with_more : {A E : Type 0} {P Q : A → Type 0} (r : Result A E) → IfOk r P → ((x : A) → P x → Q x) → IfOk r Q
with_more (Ok x) p more = more x p
with_more (Err e) p more = tt

pub returns : goal.returns
returns g c = with_more c.run_roots_of_lines.result c.run_roots_of_lines.ensures (λ answers are. all_are_mains (map arc_value c.args.plans.now) c.in_ok-roots.roots.0 answers c.args.workers c.in_ok-roots.hands.0 c.in_ok-roots.ensures are)
