-- The plans under the seeds of a batch, and what is written of main's answers.
use Rattle.std.proofs.Common.{◌≡◌, ℕ, Bool, ◌||◌, List, [], ◌∷◌, ◌++◌, map, Result, Ok, Err, refl, sym, ap, ◌∙◌, subst}
use Rattle.std.specs.Prelude.{All}
use Rattle.std.specs.List.{list_any, slice_index_or}
use Rattle.std.proofs.lemmas.List.{map-append}
use Rattle.std.proofs.lemmas.List.Elements.{All-map}
use Rattle.ped_words.specs.declared.command.Settings.{Settings}
use Rattle.script_check.specs.Valid.{IsValid}
use Rattle.script_grammar.specs.Text.{Text}
use Rattle.script_grammar.specs.declared.tree.Script.{Script}
use Rattle.serial_meaning.specs.Answer.{AnswerView, outcome_of}
use Rattle.serial_meaning.specs.Eval.{elision, main_origin}
use Rattle.serial_meaning.specs.KeptLines.{KeepsLines}
use Rattle.serial_meaning.specs.Plan.{PlanView}
use Rattle.serial_meaning.specs.Render.{IsWhole, answer_text}
use Rattle.serial_meaning.specs.declared.event.Event.{Event}
use Rattle.serial_meaning.specs.declared.event.Fault.{Fault}
use Rattle.serial_meaning.specs.declared.origin.Origin.{Origin}
use Rattle.serial_meaning.specs.declared.origin.Origin.TheVariants.{Instance, Loop}
use Rattle.serial_meaning.specs.declared.value.Value.{Value}
use Rattle.seed_batch.specs.Batch.{batch, batch_text, main_answer, seed_lines}
use Rattle.engine.specs.declared.batch.Batch.{Batch}
use Rattle.engine.specs.Batches.{IsBatchOf, batch_ending, batch_report, is_fault, is_faulted, plan_under, written}
use Rattle.engine.specs.Report.{IsPlanIn, Report, report_end_of, plan_of, run_report}

-- A text has one script, and its plan is that script's.
pub only_plan : (settings : Settings) (bytes : List ℕ) (plan : PlanView) (script : Script) → ((first second : Script) → Text bytes first → Text bytes second → first ≡ second) → Text bytes script → plan ≡ plan_of settings script → IsPlanIn settings bytes plan
only_plan settings bytes plan script one text is = λ other read. is ∙ ap (plan_of settings) (one script other text read)

whole_end : (origin : Origin) (ended : Result (List Value) Fault) → IsWhole (outcome_of origin ended)
whole_end (Instance function args path) (Ok vs) = tt
whole_end (Loop function rest first path range) (Ok vs) = tt
whole_end (Instance function args path) (Err fault) = tt
whole_end (Loop function rest first path range) (Err fault) = tt

all_whole : (plans : List PlanView) → All (λ (plan : PlanView). IsWhole (main_answer plan).outcome) plans
all_whole plans = λ k d within. (let plan = slice_index_or plans k d in whole_end (main_origin plan) (elision plan).ending)

pub answers_whole : (plans : List PlanView) (answers : List AnswerView) → answers ≡ map main_answer plans → All (λ (answer : AnswerView). IsWhole answer.outcome) answers
answers_whole plans answers are = subst (All (λ (answer : AnswerView). IsWhole answer.outcome)) (sym are) (All-map (λ (answer : AnswerView). IsWhole answer.outcome) main_answer plans (all_whole plans))

-- What is kept has all lines of each answer, where it has those of each plan.
pub answers_keep : (kept : Event → Bool) (plans : List PlanView) (answers : List AnswerView) → answers ≡ map main_answer plans → All (λ (plan : PlanView). KeepsLines kept plan.show) plans → All (λ (answer : AnswerView). KeepsLines kept answer.plan.show) answers
answers_keep kept plans answers are keep = subst (All (λ (answer : AnswerView). KeepsLines kept answer.plan.show)) (sym are) (All-map (λ (answer : AnswerView). KeepsLines kept answer.plan.show) main_answer plans keep)

same_end : (origin : Origin) (ended : Result (List Value) Fault) → is_fault (outcome_of origin ended) ≡ is_faulted (report_end_of ended)
same_end (Instance function args path) (Ok vs) = refl
same_end (Loop function rest first path range) (Ok vs) = refl
same_end (Instance function args path) (Err fault) = refl
same_end (Loop function rest first path range) (Err fault) = refl

same_ends : (plans : List PlanView) → list_any (λ (answer : AnswerView). is_fault answer.outcome) (map main_answer plans) ≡ list_any (λ (plan : PlanView). is_faulted (run_report plan).ending) plans
same_ends [] = refl
same_ends (plan ∷ plans) =
    ap (λ b. b || list_any (λ (answer : AnswerView). is_fault answer.outcome) (map main_answer plans)) (same_end (main_origin plan) (elision plan).ending) ∙ ap (λ b. is_faulted (run_report plan).ending || b) (same_ends plans)

pub answers_written : (seeds : List ℕ) (plans : List PlanView) (answers : List AnswerView) (report : Report) → answers ≡ map main_answer plans → report.output ≡ batch_text seeds answers → report.ending ≡ batch_ending (list_any (λ (answer : AnswerView). is_fault answer.outcome) answers) →
    report ≡ written seeds plans
answers_written seeds plans answers report are output ending =
    let text : report.output ≡ batch_text seeds (map main_answer plans) = output ∙ ap (batch_text seeds) are in
    let ends : report.ending ≡ batch_ending (list_any (λ (plan : PlanView). is_faulted (run_report plan).ending) plans) =
    ending ∙ ap (λ (l : List AnswerView). batch_ending (list_any (λ (answer : AnswerView). is_fault answer.outcome) l)) are ∙ ap batch_ending (same_ends plans)
    in rw (sym text, sym ends) refl

-- by the plans under the seeds
module _ (b : Batch) (script : Script) where
  parts : (seeds : List ℕ) → batch_text seeds (map main_answer (map (plan_under b script) seeds)) ≡ batch (λ seed. (run_report (plan_under b script seed)).output) seeds
  parts [] = refl
  parts (seed ∷ seeds) = ap (λ text. seed_lines seed (answer_text (main_answer (plan_under b script seed))) ++ text) (parts seeds)

  ends : (seeds : List ℕ) → list_any (λ (plan : PlanView). is_faulted (run_report plan).ending) (map (plan_under b script) seeds) ≡ list_any (λ seed. is_faulted (run_report (plan_under b script seed)).ending) seeds
  ends [] = refl
  ends (seed ∷ seeds) = ap (λ t. is_faulted (run_report (plan_under b script seed)).ending || t) (ends seeds)

  pub written_is : written b.seeds (map (plan_under b script) b.seeds) ≡ batch_report b script
  written_is = rw (parts b.seeds, ends b.seeds) refl

-- The plans of a batch show what it shows.
pub plans_keep : (kept : Event → Bool) (b : Batch) (script : Script) (plans : List PlanView) → KeepsLines kept b.show → plans ≡ map (plan_under b script) b.seeds → All (λ (plan : PlanView). KeepsLines kept plan.show) plans
plans_keep kept b script plans keep are =
    subst (All (λ (plan : PlanView). KeepsLines kept plan.show)) (sym are) (All-map (λ (plan : PlanView). KeepsLines kept plan.show) (plan_under b script) b.seeds (λ k d within. keep))

pub batch_is : (b : Batch) (bytes : List ℕ) (script : Script) (plans : List PlanView) (told : Report) → Text bytes script → IsValid script → plans ≡ map (plan_under b script) b.seeds → told ≡ written b.seeds plans → IsBatchOf b bytes told
batch_is b bytes script plans told text valid are is = (script, text, valid, is ∙ ap (written b.seeds) are ∙ written_is b script)

-- A seed more, and the plan under it.
pub plan_more : (b : Batch) (script : Script) (seeds : List ℕ) (seed : ℕ) (plans : List PlanView) (plan : PlanView) → plans ≡ map (plan_under b script) seeds → plan ≡ plan_under b script seed → plans ++ plan ∷ [] ≡ map (plan_under b script) (seeds ++ seed ∷ [])
plan_more b script seeds seed plans plan are is =
    ap (λ (l : List PlanView). l ++ plan ∷ []) are ∙ ap (λ (p : PlanView). map (plan_under b script) seeds ++ p ∷ []) is ∙ sym (map-append (plan_under b script) seeds (seed ∷ []))
