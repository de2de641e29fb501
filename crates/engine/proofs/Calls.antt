-- A call's promise, and what it left alone, are all that holds of it.
use Rattle.std.proofs.Common.{◌≡◌, Result, IsFalse, refl, sym, subst}
use Rattle.ped_words.specs.declared.command.Command.{Command}
use Rattle.ped_words.specs.declared.rule.WordError.{WordError}
use Rattle.serial_meaning.specs.Plan.{PlanView}
use Rattle.serial_meaning.proofs.RisingPedigrees.Draws.{draws_are_dotmix}
use Rattle.serial_meaning.proofs.LeastFault.Least.{fault_is_least}
use Rattle.serial_meaning.proofs.RisingPedigrees.RisingExec.{elision_rises}
use Rattle.engine.specs.CallEnds.{EndKeeps, TellsEnd, end_status}
use Rattle.engine.specs.Clauses.{FollowsPedigrees, IsTopCall, ObjectChange, watched_change}
use Rattle.engine.specs.Promise.{KeepsPromise, ReadsNone, has_line, has_output}
use Rattle.engine.specs.Report.{plan_of}
use Rattle.engine.specs.declared.call_end.CallEnd.{CallEnd}
use Rattle.engine.specs.declared.status.Status.{Status}
use Rattle.engine.proofs.PromiseLemmas.{words_exactly, read_cause, write_cause, script_refused, report_written, strand_told, completes}

pub lawful : (plan : PlanView) → FollowsPedigrees plan
lawful plan = record { rise = elision_rises plan; draws = draws_are_dotmix plan; least = fault_is_least plan }

pub is_call : {S K E : Type 0} (given : Result Command WordError) (source : ObjectChange S) (out : ObjectChange K) (err : ObjectChange E) (status : Status) → KeepsPromise given (watched_change source) (watched_change out) (watched_change err) status →
    (ReadsNone given → source.new ≡ source.old) → (IsFalse (has_output status) → out.new ≡ out.old) → (IsFalse (has_line status) → err.new ≡ err.old) → IsTopCall given source out err status
is_call given source out err status promise untouched no_output no_line = record {
  promise = promise;
  untouched = untouched;
  no_output = no_output;
  no_line = no_line;
  words = words_exactly (watched_change source) (watched_change out) (watched_change err) given status promise;
  script = script_refused (watched_change source) (watched_change out) (watched_change err) given status promise _ refl;
  report = report_written (watched_change source) (watched_change out) (watched_change err) given status promise _ refl;
  no_strand = strand_told (watched_change source) (watched_change out) (watched_change err) given status promise _ refl;
  read = read_cause (watched_change source) (watched_change out) (watched_change err) given status promise;
  write = write_cause (watched_change source) (watched_change out) (watched_change err) given status promise;
  complete = completes (watched_change source) (watched_change out) (watched_change err) given status promise _ refl;
  events = λ settings tree. lawful (plan_of settings tree);
}

-- The same of a call that ends so, which is told.
pub is_call_end : {S K E : Type 0} (given : Result Command WordError) (source : ObjectChange S) (out : ObjectChange K) (err : ObjectChange E) (status : Status) (end : CallEnd) → status ≡ end_status end →
    EndKeeps given (watched_change source) (watched_change out) end → (ReadsNone given → source.new ≡ source.old) → (IsFalse (has_output (end_status end)) → out.new ≡ out.old) →
    TellsEnd (watched_change err) end → (IsFalse (has_line (end_status end)) → err.new ≡ err.old) → IsTopCall given source out err status
is_call_end given source out err status end is keeps untouched no_output told no_line =
    let P : Status → Type 0 = IsTopCall given source out err in
    subst P (sym is) (is_call given source out err (end_status end) (keeps (watched_change err) told) untouched no_output no_line)
