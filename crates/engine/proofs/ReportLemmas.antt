-- What a run's plan holds, and what an answer prints.
use Rattle.std.proofs.Common.{◌≡◌, ℕ, List, [], ◌++◌, length, Result, Ok, Err, IfOk, refl, sym, ap, ap₂, ◌∙◌, subst}
use Rattle.serial_meaning.specs.Plan.{PlanView}
use Rattle.serial_meaning.specs.Eval.{eval, elision, main_origin}
use Rattle.serial_meaning.specs.Laws.{IsOriginOf, Main}
use Rattle.serial_meaning.specs.Answer.{AnswerView, IsAnswer, IsEval, outcome_of}
use Rattle.serial_meaning.specs.Cuts.{WholeAnswersAreEvals}
use Rattle.serial_meaning.specs.Render.{IsWhole, answer_text, end_line}
use Rattle.serial_meaning.specs.declared.value.Value.{Value}
use Rattle.serial_meaning.specs.declared.event.Event.{Event}
use Rattle.serial_meaning.specs.declared.event.Fault.{Fault}
use Rattle.span_report.specs.Series.{IsSpan}
use Rattle.ped_words.specs.declared.command.Settings.{Settings}
use Rattle.sched_meaning.specs.Simulation.{IsSimWorker}
use Rattle.strand_meaning.specs.Strands.{strand_at}
use Rattle.engine.specs.declared.refusal.Refusal.{Refusal}
use Rattle.engine.specs.declared.report.Report as report
use Rattle.engine.specs.declared.report.ReportEnd.{ReportEnd}
use Rattle.engine.specs.Report.{IsPlanOf, IsReplayOf, IsRunOf, IsSimOf, IsSpanReport, Report, report_end_of, found_report, outcome_ending, plan_of, run_report, report_view, span_lines, worker_line}
use Rattle.serial_meaning.specs.declared.origin.Origin.{Origin}

ends_so : (plan : PlanView) (e : Result (List Value) Fault) → outcome_ending (outcome_of (main_origin plan) e) ≡ report_end_of e
ends_so plan (Ok values) = refl
ends_so plan (Err fault) = refl

-- Main's origin is one of its plan, however the plan is seen.
pub main_is_origin : (plan seen : PlanView) (origin : Origin) → seen ≡ plan → origin ≡ main_origin seen → IsOriginOf plan origin
main_is_origin plan seen origin same main = subst (IsOriginOf plan) (sym (main ∙ ap main_origin same)) Main

-- the answer of main's origin under a plan
module _ (a : AnswerView) (plan : PlanView) (evals : WholeAnswersAreEvals) (is : IsAnswer a.plan a.origin a.out a.outcome) (uncut : IsWhole a.outcome) (same : a.plan ≡ plan) (main : a.origin ≡ main_origin plan) where
  whole : IsEval a.plan a.origin a.out a.outcome
  whole = evals a.plan a.origin a.out a.outcome is uncut

  run : eval a.plan a.origin ≡ elision plan
  run = rw (same, main) refl

  ends : a.outcome ≡ outcome_of (main_origin plan) (elision plan).ending
  ends = whole.ends ∙ ap (λ r. outcome_of a.origin r.ending) run ∙ ap (λ o. outcome_of o (elision plan).ending) main

  pub main_text : answer_text a ≡ (run_report plan).output
  main_text = let events : a.out ≡ (elision plan).items = whole.events ∙ ap (λ r. r.items) run in rw (same, events, ends) refl

  pub main_ending : outcome_ending a.outcome ≡ (run_report plan).ending
  main_ending = ap outcome_ending ends ∙ ends_so plan (elision plan).ending

-- Work and span of main's answer are the elision's.
pub span_reported : (a : AnswerView) (told : Report) (work span : ℕ) → WholeAnswersAreEvals → IsAnswer a.plan a.origin a.out a.outcome → IsWhole a.outcome → a.origin ≡ main_origin a.plan → work ≡ length a.out → IsSpan a.out span →
    told.output ≡ span_lines work span ++ end_line a.outcome → told.ending ≡ outcome_ending a.outcome → IsSpanReport a.plan told
span_reported a told work span evals is uncut main counted longest output ending =
    let events : a.out ≡ (elision a.plan).items = (evals a.plan a.origin a.out a.outcome is uncut).events ∙ ap (λ o. (eval a.plan o).items) main in
    let ended : a.outcome ≡ outcome_of (main_origin a.plan) (elision a.plan).ending = ends a a.plan evals is uncut refl main in
    record {
      span = span;
      longest = subst (λ (es : List Event). IsSpan es span) events longest;
      output = output ∙ ap (λ n. span_lines n span ++ end_line a.outcome) (counted ∙ ap length events) ∙ ap (λ o. span_lines (length (elision a.plan).items) span ++ end_line o) ended;
      ending = ending ∙ main_ending a a.plan evals is uncut refl main;
    }

-- What is written of main's answer under a script's plan is a run of the script.
pub played_of : (settings : Settings) (bytes : List ℕ) (plan seen : PlanView) (told : Report) → IsPlanOf settings bytes plan → seen ≡ plan → told ≡ run_report seen → IsRunOf settings bytes told
played_of settings bytes plan seen told planned same e = (planned.0, planned.1, planned.2, e ∙ ap run_report (same ∙ planned.3))

-- The worker of a simulation under a script's plan, and what is written of main's answer, are a simulation of the script.
pub simulated_of : (settings : Settings) (workers number worker : ℕ) (bytes : List ℕ) (plan seen : PlanView) (told : Report) → IsPlanOf settings bytes plan → seen ≡ plan → IsSimWorker plan workers number worker →
    told.output ≡ worker_line worker ++ (run_report seen).output → told.ending ≡ (run_report seen).ending → IsSimOf settings workers number bytes told
simulated_of settings workers number worker bytes plan seen told planned same answers output ending =
    let is : seen ≡ plan_of settings planned.0 = same ∙ planned.3 in (
      planned.0,
      planned.1,
      planned.2,
      record {
        worker = worker;
        answers = subst (λ (p : PlanView). IsSimWorker p workers number worker) planned.3 answers;
        output = output ∙ ap (λ (p : PlanView). worker_line worker ++ (run_report p).output) is;
        ending = ending ∙ ap (λ (p : PlanView). (run_report p).ending) is;
      },
    )

-- What is written of the strand of a script's plan is a replay of the script.
pub replayed_of : (settings : Settings) (j bytes : List ℕ) (plan seen : PlanView) → IsPlanOf settings bytes plan → seen ≡ plan → (result : Result report.Report Refusal) → IfOk result (λ r. report_view r ≡ found_report j (strand_at seen j)) → IfOk result (λ r. IsReplayOf settings j bytes (report_view r))
replayed_of settings j bytes plan seen planned same (Ok r) e = (planned.0, planned.1, planned.2, e ∙ ap (λ p. found_report j (strand_at p j)) (same ∙ planned.3))
replayed_of settings j bytes plan seen planned same (Err refusal) e = tt
