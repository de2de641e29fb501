-- What a refusal and a delivered report say of a command.
use Rattle.std.proofs.Common.{◌≡◌, ◌≢◌, ◌≤◌, ℕ, List, [], Option, Some, None, Result, Ok, Err, IfErr, IfSome, IsTrue, inl, inr, refl, string_bytes, sym, subst, arith}
use Rattle.draw_lines.specs.Lines.{CanDraw, stream_text}
use Rattle.ped_words.specs.Commands.{IsLawful}
use Rattle.ped_words.specs.declared.command.Command.{Command}
use Rattle.ped_words.specs.declared.command.Command.TheVariants.{Stream}
use Rattle.ped_words.specs.Rules.{IsUnlessMemory}
use Rattle.ped_words.specs.declared.rule.WordError.{WordError}
use Rattle.ped_words.specs.declared.rule.WordError.TheVariants as words
use Rattle.engine.specs.Commands.{AcceptsScript, takes_script}
use Rattle.engine.specs.CallEnds.{Delivers, EndKeeps, EndMeans, EndRefuses, IsNoStrandLine, Puts, end_status}
use Rattle.engine.specs.Promise.{Watched, HasOutput, HasReport, KeepsPromise, ReadWhole, Refuses, TellsNone, WroteLine}
use Rattle.engine.specs.Refusal.{IsCause, IsRejection}
use Rattle.engine.specs.Report.{Report, done_report}
use Rattle.engine.specs.declared.call_end.CallEnd.{CallEnd}
use Rattle.engine.specs.declared.call_end.CallEnd.TheVariants as C
use Rattle.engine.specs.declared.refusal.Refusal.{Refusal}
use Rattle.engine.specs.declared.refusal.Refusal.TheVariants.{TooLong, Rejected, Read, Memory}
use Rattle.engine.specs.declared.report.ReportEnd.{ReportEnd}
use Rattle.engine.specs.declared.report.ReportEnd.TheVariants as E
use Rattle.engine.specs.declared.status.Status.{Status}
use Rattle.engine.specs.declared.status.Status.TheVariants as S

pub rejection_cause : (command : Command) (source : Watched) (bytes : List ℕ) → IsTrue (takes_script command) → ReadWhole source bytes → {X : Type 0} (result : Result X Refusal) → IfErr result (IsRejection (AcceptsScript command) bytes) → IfErr result (IsCause command source)
rejection_cause command source bytes takes read {X} (Ok x) is = tt
rejection_cause command source bytes takes read {X} (Err TooLong) is = absurd is
rejection_cause command source bytes takes read {X} (Err (Rejected line)) is = (takes, (bytes, read, is))
rejection_cause command source bytes takes read {X} (Err Read) is = absurd is
rejection_cause command source bytes takes read {X} (Err Memory) is = tt

-- The line tells that there is no strand, and it was told.
tells_none : (err : Watched) (line : List ℕ) (ending : ReportEnd) → IsNoStrandLine line ending → WroteLine err line → TellsNone err ending
tells_none err line E.Done is told = absurd is
tells_none err line E.Faulted is told = absurd is
tells_none err line (E.NoStrand j) is told = subst (WroteLine err) is told
tells_none err line (E.Blocked fault) is told = subst (WroteLine err) is told

module _ (command : Command) (source out : Watched) where
  pub delivered_means : (report : Report) → HasReport command source report → (end : CallEnd) → Delivers report.output report.ending out end → EndMeans command source out end
  delivered_means report has C.Done d = λ err told. (report, has, d.0, d.1)
  delivered_means report has C.Faulted d = λ err told. (report, has, d.0, d.1)
  delivered_means report has (C.Words line) d = absurd d
  delivered_means report has (C.Refused TooLong) d = absurd d
  delivered_means report has (C.Refused (Rejected line)) d = absurd d
  delivered_means report has (C.Refused Read) d = absurd d
  delivered_means report has (C.Refused Memory) d = λ err told. told
  delivered_means report has C.Write d = λ err told. ((report, has, d.0, d.1), told)
  delivered_means report has (C.NoStrand line) d = λ err told. (report, has, tells_none err line.items report.ending d told)

  pub refused_means : (refusal : Refusal) → IsCause command source refusal → EndMeans command source out (C.Refused refusal)
  refused_means TooLong is = λ err told. (is.0, inl (is.1, told))
  refused_means (Rejected line) is = λ err told. (is.0, inr (is.1.0, string_bytes line, is.1.1, is.1.2, told))
  refused_means Read is = λ err told. (is.0, is.1, told)
  refused_means Memory is = λ err told. told

-- An output that was put, or wasn't, is a delivered report.
module _ (output : List ℕ) (ending : ReportEnd) (out : Watched) where
  delivers_at : (end other : CallEnd) → end ≡ other → Delivers output ending out end → Delivers output ending out other
  delivers_at end other e d = let P : CallEnd → Type 0 = λ c. Delivers output ending out c in subst P e d

  pub done_delivers : (end : CallEnd) → ending ≡ E.Done → Puts output C.Done out end → Delivers output ending out end
  done_delivers end done (inl p) = delivers_at C.Done end (sym p.0) (done, p.1)
  done_delivers end done (inr p) = delivers_at C.Write end (sym p.0) (subst HasOutput (sym done) tt, p.1)

  pub faulted_delivers : (end : CallEnd) → ending ≡ E.Faulted → Puts output C.Faulted out end → Delivers output ending out end
  faulted_delivers end faulted (inl p) = delivers_at C.Faulted end (sym p.0) (faulted, p.1)
  faulted_delivers end faulted (inr p) = delivers_at C.Write end (sym p.0) (subst HasOutput (sym faulted) tt, p.1)

-- A stream that is lawful can be drawn, and delivered it is its command's report.
module _ (command : Command) (gamma at : List ℕ) (count rounds : ℕ) (below : Option ℕ) (is : command ≡ Stream gamma at count rounds below) where
  not_zero : (o : Option ℕ) → IfSome o (λ m. 1 ≤ m) → IfSome o (λ m. m ≢ 0)
  not_zero None above = tt
  not_zero (Some m) above = λ zero. absurd (omega (arith, above, zero))

  pub can_draw : IsLawful command → CanDraw (record { gamma = gamma; at = at; rounds = rounds; below = below }) count
  can_draw lawful =
      let l : IsLawful (Stream gamma at count rounds below) = subst IsLawful is lawful in
      record { within = omega (arith, l.0.few, l.0.coefficients); rounds = l.0.rounds_limit; ranks = l.1.ranks; below = not_zero below l.2 }

  pub stream_means : (source out : Watched) (end : CallEnd) → Delivers (stream_text gamma at count rounds below) E.Done out end → EndMeans command source out end
  stream_means source out end d =
      let P : Command → Type 0 = λ c. EndMeans c source out end in
      subst P (sym is) (delivered_means (Stream gamma at count rounds below) source out (done_report (stream_text gamma at count rounds below)) ([], (λ takes. absurd (cc)), refl) end d)

-- What was read of words, and the end that it gives.
module _ (given : Result Command WordError) (source out : Watched) where
  pub words_taken : (command : Command) → given ≡ Ok command → (end : CallEnd) → EndMeans command source out end → EndKeeps given source out end
  words_taken command is end means = let P : Result Command WordError → Type 0 = λ g. EndKeeps g source out end in subst P (sym is) means

  without_memory : (r : Result Command WordError) (err : Watched) (status : Status) → Refuses words.Memory err status → KeepsPromise r source out err status
  without_memory r err S.Done refuses = absurd refuses
  without_memory r err S.Faulted refuses = absurd refuses
  without_memory r err S.Words refuses = absurd refuses
  without_memory r err S.Script refuses = absurd refuses
  without_memory r err S.Read refuses = absurd refuses
  without_memory r err S.Write refuses = absurd refuses
  without_memory (Ok command) err S.Memory refuses = refuses
  without_memory (Err (words.Bad number at)) err S.Memory refuses = refuses
  without_memory (Err words.Memory) err S.Memory refuses = refuses
  without_memory r err S.NoStrand refuses = absurd refuses

  pub words_refused : (error : WordError) → IsUnlessMemory {X = Command} given (Err error) → (end : CallEnd) → EndRefuses error end → EndKeeps given source out end
  words_refused (words.Bad number at) is end refuses = let P : Result Command WordError → Type 0 = λ g. EndKeeps g source out end in subst P (sym is) refuses
  words_refused words.Memory is end refuses = λ err told. without_memory given err (end_status end) (refuses err told)
