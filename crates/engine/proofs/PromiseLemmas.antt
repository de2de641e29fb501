-- The parts of the promise follow from it.
use Rattle.std.proofs.Common.{◌≡◌, ℕ, ◌≤◌, ◌<◌, ◌+◌, Bool, true, false, List, ◌++◌, length, length-append, append-nil, Option, Some, None, Result, Ok, Err, IsTrue, IsFalse, ◌⊎◌, inl, inr, refl, sym, ap, ◌∙◌, subst, arith}
use Rattle.std.specs.List.{list_any}
use Rattle.ped_io.specs.Streams.{Appends, Consumes, IsAtEnd}
use Rattle.ped_words.specs.declared.command.Command.{Command}
use Rattle.ped_words.specs.declared.command.Command.TheVariants as command
use Rattle.ped_words.specs.declared.rule.WordError.{WordError}
use Rattle.ped_words.specs.declared.rule.WordError.TheVariants as words
use Rattle.script_grammar.specs.declared.tree.Script.{Script as Tree}
use Rattle.script_grammar.specs.Text.{Text}
use Rattle.engine.specs.declared.status.Status.{Status}
use Rattle.engine.specs.declared.status.Status.TheVariants.{Done, Faulted, Words, Script, Read, Write, Memory, NoStrand}
use Rattle.engine.specs.Batches.{batch_ending, is_faulted, plan_under}
use Rattle.engine.specs.Commands.{AcceptsScript, Reports, takes_script}
use Rattle.engine.specs.Report.{Report, report_end_of, plan_of, run_report, status_of}
use Rattle.engine.specs.Promise.{Watched, HasFailed, ReadWhole, HasNoScript, HasReport, StatusMeans, HasOutput, Refuses, TellsNone, KeepsPromise, most_bytes}
use Rattle.engine.specs.Clauses.{RefusesWords, IsBad, RefusesScript, WroteReport, WritesReport, IsReplay, FindsNoStrand, TellsNoStrand, IsComplete, Completes}
use Rattle.engine.specs.declared.report.ReportEnd.{ReportEnd}
use Rattle.engine.specs.declared.report.ReportEnd.TheVariants as E
use Rattle.serial_meaning.specs.declared.value.Value.{Value}
use Rattle.serial_meaning.specs.declared.event.Fault.{Fault}
use Rattle.serial_meaning.specs.Eval.{elision}

told_whole : (bytes front : List ℕ) (after : Option (List ℕ)) → Consumes (Some bytes) after front → IsAtEnd after → front ≡ bytes
told_whole bytes front None taken end = absurd taken
told_whole bytes front (Some rest) taken end = sym (taken ∙ ap (λ l. front ++ l) end ∙ append-nil front)

told_long : (bytes front : List ℕ) (after : Option (List ℕ)) → Consumes (Some bytes) after front → length front ≡ most_bytes + 1 → most_bytes < length bytes
told_long bytes front None taken long = absurd taken
told_long bytes front (Some rest) taken long =
    let sum : length bytes ≡ length front + length rest = ap length taken ∙ length-append front rest in omega (arith, sum, long)

-- a command that takes a script reports of one
taken_script : (command : Command) → IsTrue (takes_script command) → (bytes : List ℕ) (report : Report) → Reports command bytes report → (script : Tree) × Text bytes script × AcceptsScript command script
taken_script (command.Run settings workers) takes bytes report r = (r.0, r.1, r.2)
taken_script (command.Serial settings) takes bytes report r = (r.0, r.1, r.2)
taken_script (command.Sim settings workers number) takes bytes report r = (r.0, r.1, r.2)
taken_script (command.Replay settings at) takes bytes report r = (r.0, r.1, r.2)
taken_script (command.Hash gamma at rounds) takes bytes report r = absurd (cc)
taken_script command.Check takes bytes report r = (r.0, r.1, r.2)
taken_script command.Fmt takes bytes report r = (r.0, r.1, r.2)
taken_script (command.Gen shape size) takes bytes report r = absurd (cc)
taken_script (command.Stream gamma at count rounds below) takes bytes report r = absurd (cc)
taken_script (command.Span settings) takes bytes report r = (r.0, r.1, r.2)
taken_script (command.Batch seeds limits show rounds workers) takes bytes report r = (r.0, r.1, r.2)

-- what a command that takes none reports has nothing to do with the source
report_needs_no_bytes : (command : Command) → IsFalse (takes_script command) → (bytes other : List ℕ) (report : Report) → Reports command bytes report → Reports command other report
report_needs_no_bytes (command.Run settings workers) takes bytes other report r = absurd (cc)
report_needs_no_bytes (command.Serial settings) takes bytes other report r = absurd (cc)
report_needs_no_bytes (command.Sim settings workers number) takes bytes other report r = absurd (cc)
report_needs_no_bytes (command.Replay settings at) takes bytes other report r = absurd (cc)
report_needs_no_bytes (command.Hash gamma at rounds) takes bytes other report r = r
report_needs_no_bytes command.Check takes bytes other report r = absurd (cc)
report_needs_no_bytes command.Fmt takes bytes other report r = absurd (cc)
report_needs_no_bytes (command.Gen shape size) takes bytes other report r = r
report_needs_no_bytes (command.Stream gamma at count rounds below) takes bytes other report r = r
report_needs_no_bytes (command.Span settings) takes bytes other report r = absurd (cc)
report_needs_no_bytes (command.Batch seeds limits show rounds workers) takes bytes other report r = absurd (cc)

module _ (source out err : Watched) where
  -- where the words give a command
  module _ (command : Command) where
    answer_at : (status other : Status) → StatusMeans command source out err status → status ≡ other → StatusMeans command source out err other
    answer_at status other a h = let P : Status → Type 0 = λ s. StatusMeans command source out err s in subst P h a

    module _ (bytes : List ℕ) (told : source.before ≡ Some bytes) (takes : IsTrue (takes_script command)) where
      whole_bytes : (front : List ℕ) → ReadWhole source front → front ≡ bytes
      whole_bytes front read = let P : Option (List ℕ) → Type 0 = λ before. Consumes before source.after front in told_whole bytes front source.after (subst P told read.taken) read.end

      reported_bytes : (report : Report) → HasReport command source report → Reports command bytes report
      reported_bytes report has = let P : List ℕ → Type 0 = λ b. Reports command b report in subst P (whole_bytes has.0 (has.1 takes)) has.2

      few_bytes : (report : Report) → HasReport command source report → length bytes ≤ most_bytes
      few_bytes report has = let same : length has.0 ≡ length bytes = ap length (whole_bytes has.0 (has.1 takes)) in let few = (has.1 takes).within in omega (arith, same, few)

      bad_script : HasNoScript command source err → IsBad command bytes
      bad_script (inl q) = let P : Option (List ℕ) → Type 0 = λ before. Consumes before source.after q.0.0 in inl (told_long bytes q.0.0 source.after (subst P told q.0.2) q.0.1)
      bad_script (inr q) = let P : List ℕ → Type 0 = λ b. (script : Tree) → Text b script → AcceptsScript command script → ⊥ in inr (subst P (whole_bytes q.0 q.2) q.3.none)

      no_good : (report : Report) → HasReport command source report → IsBad command bytes → ⊥
      no_good report has (inl long) = let few = few_bytes report has in absurd (omega (arith, few, long))
      no_good report has (inr none) = let taken = taken_script command takes bytes report (reported_bytes report has) in none taken.0 taken.1 taken.2

      script_always : (status : Status) → StatusMeans command source out err status → IsBad command bytes → (status ≡ Script) ⊎ ((status ≡ Read) ⊎ (status ≡ Memory))
      script_always Done a bad = absurd (no_good a.0 a.1 bad)
      script_always Faulted a bad = absurd (no_good a.0 a.1 bad)
      script_always Words a bad = absurd a
      script_always Script a bad = inl refl
      script_always Read a bad = inr (inl refl)
      script_always Write a bad = absurd (no_good a.0.0 a.0.1 bad)
      script_always Memory a bad = inr (inr refl)
      script_always NoStrand a bad = absurd (no_good a.0 a.1 bad)

    -- whether or not the command takes a script
    same_report : (bytes : List ℕ) → source.before ≡ Some bytes → (report : Report) → HasReport command source report → (b : Bool) → takes_script command ≡ b → Reports command bytes report
    same_report bytes told report has true e = reported_bytes bytes told e report has
    same_report bytes told report has false e = report_needs_no_bytes command e has.0 bytes report has.2

    written_at : (bytes : List ℕ) → source.before ≡ Some bytes → (status : Status) (report : Report) → HasReport command source report → Appends out.before out.after report.output → status ≡ status_of report.ending → WroteReport command bytes source out status
    written_at bytes told status report has output ends = record {
      report = report;
      reports = same_report bytes told report has (takes_script command) refl;
      end = λ takes. (has.1 takes).end;
      output = output;
      ends = ends;
    }

-- where the words give none
module _ (err : Watched) where
  refused : (error : WordError) (status : Status) → Refuses error err status → (status ≡ Words) ⊎ (status ≡ Memory)
  refused (words.Bad number at) Done r = absurd r
  refused (words.Bad number at) Faulted r = absurd r
  refused (words.Bad number at) Words r = inl refl
  refused (words.Bad number at) Script r = absurd r
  refused (words.Bad number at) Read r = absurd r
  refused (words.Bad number at) Write r = absurd r
  refused (words.Bad number at) Memory r = inr refl
  refused (words.Bad number at) NoStrand r = absurd r
  refused words.Memory Done r = absurd r
  refused words.Memory Faulted r = absurd r
  refused words.Memory Words r = absurd r
  refused words.Memory Script r = absurd r
  refused words.Memory Read r = absurd r
  refused words.Memory Write r = absurd r
  refused words.Memory Memory r = inr refl
  refused words.Memory NoStrand r = absurd r

  differs : (status other : Status) → (status ≡ Words) ⊎ (status ≡ Memory) → (other ≡ Words → ⊥) → (other ≡ Memory → ⊥) → status ≡ other → ⊥
  differs status other (inl w) no_words no_memory h = no_words (sym h ∙ w)
  differs status other (inr m) no_words no_memory h = no_memory (sym h ∙ m)

  refused_other : (error : WordError) (status other : Status) → Refuses error err status → (other ≡ Words → ⊥) → (other ≡ Memory → ⊥) → status ≡ other → ⊥
  refused_other error status other r = differs status other (refused error status r)

-- the parts, whatever the words give
module _ (source out err : Watched) where
  pub read_cause : (given : Result Command WordError) (status : Status) → KeepsPromise given source out err status → status ≡ Read → HasFailed source
  read_cause (Ok command) status a h = (answer_at source out err command status Read a h).1
  read_cause (Err error) status r h = absurd (refused_other err error status Read r (λ e. absurd (cc)) (λ e. absurd (cc)) h)

  pub write_cause : (given : Result Command WordError) (status : Status) → KeepsPromise given source out err status → status ≡ Write → HasFailed out
  write_cause (Ok command) status a h = (answer_at source out err command status Write a h).0.3.failed
  write_cause (Err error) status r h = absurd (refused_other err error status Write r (λ e. absurd (cc)) (λ e. absurd (cc)) h)

  pub words_exactly : (given : Result Command WordError) (status : Status) → KeepsPromise given source out err status → RefusesWords given status
  words_exactly (Ok command) status a = (answer_at source out err command status Words a, λ none. absurd none)
  words_exactly (Err error) status r = (λ h. tt, λ none. refused err error status r)

  pub script_refused : (given : Result Command WordError) (status : Status) → KeepsPromise given source out err status → (told : Option (List ℕ)) → source.before ≡ told → RefusesScript given told status
  script_refused (Ok command) status a (Some bytes) told =
      let at : status ≡ Script → StatusMeans command source out err Script = answer_at source out err command status Script a in (
        λ h. ((at h).0, bad_script source out err command bytes told (at h).0 (at h).1),
        λ takes. script_always source out err command bytes told takes status a,
      )
  script_refused (Ok command) status a None told = λ h. (answer_at source out err command status Script a h).0
  script_refused (Err error) status r told e = refused_other err error status Script r (λ e. absurd (cc)) (λ e. absurd (cc))

  written_of : (command : Command) (status : Status) → StatusMeans command source out err status → (bytes : List ℕ) → source.before ≡ Some bytes → (status ≡ Done) ⊎ (status ≡ Faulted) → WroteReport command bytes source out status
  written_of command status a bytes e (inl h) =
      let b = answer_at source out err command status Done a h in
      written_at source out err command bytes e status b.0 b.1 b.3 (h ∙ ap status_of (sym b.2))
  written_of command status a bytes e (inr h) =
      let b = answer_at source out err command status Faulted a h in
      written_at source out err command bytes e status b.0 b.1 b.3 (h ∙ ap status_of (sym b.2))

  none_written : (error : WordError) (status : Status) → Refuses error err status → (status ≡ Done) ⊎ (status ≡ Faulted) → ⊥
  none_written error status r (inl h) = refused_other err error status Done r (λ e. absurd (cc)) (λ e. absurd (cc)) h
  none_written error status r (inr h) = refused_other err error status Faulted r (λ e. absurd (cc)) (λ e. absurd (cc)) h

  pub report_written : (given : Result Command WordError) (status : Status) → KeepsPromise given source out err status → (told : Option (List ℕ)) → source.before ≡ told → WritesReport given source told out status
  report_written given status a None e = tt
  report_written (Ok command) status a (Some bytes) e = λ h. (command, refl, written_of command status a bytes e h)
  report_written (Err error) status r (Some bytes) e = λ h. absurd (none_written error status r h)

-- which report tells of no strand
module _ (source out err : Watched) where
  no_run_tells : (e : Result (List Value) Fault) → TellsNone err (report_end_of e) → ⊥
  no_run_tells (Ok values) tells = tells
  no_run_tells (Err fault) tells = tells

  no_batch_tells : (b : Bool) → TellsNone err (batch_ending b) → ⊥
  no_batch_tells true tells = tells
  no_batch_tells false tells = tells

  none_ends : (ending : ReportEnd) → TellsNone err ending → status_of ending ≡ NoStrand
  none_ends E.Done tells = absurd tells
  none_ends E.Faulted tells = absurd tells
  none_ends (E.NoStrand j) tells = refl
  none_ends (E.Blocked fault) tells = refl

  not_both_ends : (ending : ReportEnd) → HasOutput ending → status_of ending ≡ NoStrand → ⊥
  not_both_ends E.Done has e = absurd (cc)
  not_both_ends E.Faulted has e = absurd (cc)
  not_both_ends (E.NoStrand j) has e = has
  not_both_ends (E.Blocked fault) has e = has

  tells_at : (report other : Report) → report ≡ other → TellsNone err report.ending → TellsNone err other.ending
  tells_at report other same tells = let P : Report → Type 0 = λ r. TellsNone err r.ending in subst P same tells

  replay_tells : (command : Command) (bytes : List ℕ) (report : Report) → Reports command bytes report → TellsNone err report.ending → IsReplay command
  replay_tells (command.Run settings workers) bytes report r tells = absurd (no_run_tells (elision (plan_of settings r.0)).ending (tells_at report _ r.3 tells))
  replay_tells (command.Serial settings) bytes report r tells = absurd (no_run_tells (elision (plan_of settings r.0)).ending (tells_at report _ r.3 tells))
  replay_tells (command.Sim settings workers number) bytes report r tells = absurd (no_run_tells (elision (plan_of settings r.0)).ending (subst (TellsNone err) r.3.ending tells))
  replay_tells (command.Replay settings at) bytes report r tells = tt
  replay_tells (command.Hash gamma at rounds) bytes report r tells = absurd (tells_at report _ r tells)
  replay_tells command.Check bytes report r tells = absurd (tells_at report _ r.3 tells)
  replay_tells command.Fmt bytes report r tells = absurd (tells_at report _ r.3 tells)
  replay_tells (command.Gen shape size) bytes report r tells = absurd (tells_at report _ r tells)
  replay_tells (command.Stream gamma at count rounds below) bytes report r tells = absurd (tells_at report _ r tells)
  replay_tells (command.Span settings) bytes report r tells = absurd (no_run_tells (elision (plan_of settings r.0)).ending (subst (TellsNone err) r.3.ending tells))
  replay_tells (command.Batch seeds limits show rounds workers) bytes report r tells =
      absurd (no_batch_tells (list_any (λ seed. is_faulted (run_report (plan_under (record { seeds = seeds; limits = limits; show = show; rounds = rounds }) r.0 seed)).ending) seeds) (tells_at report _ r.3 tells))

  -- where the words give a command, and the source tells its bytes
  module _ (command : Command) (bytes : List ℕ) (told : source.before ≡ Some bytes) where
    reports_told : (report : Report) → HasReport command source report → Reports command bytes report
    reports_told report has = same_report source out err command bytes told report has (takes_script command) refl

    finds_none : StatusMeans command source out err NoStrand → FindsNoStrand command bytes
    finds_none a = record {
      replay = replay_tells command a.1.0 a.0 a.1.2 a.2;
      report = a.0;
      reports = reports_told a.0 a.1;
      ends = none_ends a.0.ending a.2;
    }

    module _ (good : IsBad command bytes → ⊥) (none : (report : Report) → Reports command bytes report → status_of report.ending ≡ NoStrand) where
      ends_none : (report : Report) → HasReport command source report → status_of report.ending ≡ NoStrand
      ends_none report has = none report (reports_told report has)

      no_end : (report : Report) (ending : ReportEnd) (status : Status) → HasReport command source report → report.ending ≡ ending → status_of ending ≡ status → status ≡ NoStrand
      no_end report ending status has e s = sym s ∙ ap status_of (sym e) ∙ ends_none report has

      none_always : (status : Status) → StatusMeans command source out err status → (status ≡ NoStrand) ⊎ ((status ≡ Read) ⊎ (status ≡ Memory))
      none_always Done a = let e = no_end a.0 E.Done Done a.1 a.2 refl in absurd (cc)
      none_always Faulted a = let e = no_end a.0 E.Faulted Faulted a.1 a.2 refl in absurd (cc)
      none_always Words a = absurd a
      none_always Script a = absurd (good (bad_script source out err command bytes told a.0 a.1))
      none_always Read a = inr (inl refl)
      none_always Write a = absurd (not_both_ends a.0.0.ending a.0.2 (ends_none a.0.0 a.0.1))
      none_always Memory a = inr (inr refl)
      none_always NoStrand a = inl refl

  pub strand_told : (given : Result Command WordError) (status : Status) → KeepsPromise given source out err status → (told : Option (List ℕ)) → source.before ≡ told → TellsNoStrand given told status
  strand_told (Ok command) status a (Some bytes) told =
      (λ h. finds_none command bytes told (answer_at source out err command status NoStrand a h), λ good none. none_always command bytes told good none status a)
  strand_told (Ok command) status a None told =
      λ h. (let b = answer_at source out err command status NoStrand a h in replay_tells command b.1.0 b.0 b.1.2 b.2)
  strand_told (Err error) status r told e = refused_other err error status NoStrand r (λ e. absurd (cc)) (λ e. absurd (cc))

  module _ (command : Command) (bytes : List ℕ) (told : source.before ≡ Some bytes) (good : IsTrue (takes_script command) → IsBad command bytes → ⊥) (reads : HasFailed source → ⊥) (writes : HasFailed out → ⊥) where
    complete_of : (status : Status) → StatusMeans command source out err status → IsComplete command status
    complete_of Done a = inl refl
    complete_of Faulted a = inr (inl refl)
    complete_of Words a = absurd a
    complete_of Script a = absurd (good a.0 (bad_script source out err command bytes told a.0 a.1))
    complete_of Read a = absurd (reads a.1)
    complete_of Write a = absurd (writes a.0.3.failed)
    complete_of Memory a = inr (inr (inl refl))
    complete_of NoStrand a = inr (inr (inr (refl, replay_tells command a.1.0 a.0 a.1.2 a.2)))

  pub completes : (given : Result Command WordError) (status : Status) → KeepsPromise given source out err status → (told : Option (List ℕ)) → source.before ≡ told → Completes given source told out status
  completes (Ok command) status a (Some bytes) told = λ good reads writes. complete_of command bytes told good reads writes status a
  completes (Ok command) status a None told = tt
  completes (Err error) status a (Some bytes) told = tt
  completes (Err error) status a None told = tt
