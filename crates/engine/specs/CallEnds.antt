-- How a call ends: its status, its line on the error output, and what was written by then.
use Rattle.std.specs.Prelude.{◌≡◌, ◌⊎◌, ⊤, ℕ, List, [], Result, codes, string_bytes}
use Rattle.ped_words.specs.declared.command.Command.{Command}
use Rattle.ped_words.specs.declared.rule.WordError.{WordError}
use Rattle.engine.specs.declared.call_end.CallEnd.{CallEnd}
use Rattle.engine.specs.declared.call_end.CallEnd.TheVariants.{Done, Faulted, Words, Refused, Write, NoStrand}
use Rattle.engine.specs.declared.refusal.Refusal.TheVariants.{TooLong, Rejected, Read, Memory}
use Rattle.engine.specs.declared.report.ReportEnd.{ReportEnd}
use Rattle.engine.specs.declared.report.ReportEnd.TheVariants as E
use Rattle.engine.specs.declared.status.Status.{Status}
use Rattle.engine.specs.declared.status.Status.TheVariants as S
use Rattle.engine.specs.Lines.{blocked_line, no_strand_line}
use Rattle.engine.specs.Promise.{Watched, HasOutput, KeepsPromise, Refuses, StatusMeans, WroteLine, Wrote, WroteFront}

abbrev pub end_status : CallEnd → Status
end_status Done = S.Done
end_status Faulted = S.Faulted
end_status (Words line) = S.Words
end_status (Refused TooLong) = S.Script
end_status (Refused (Rejected line)) = S.Script
end_status (Refused Read) = S.Read
end_status (Refused Memory) = S.Memory
end_status Write = S.Write
end_status (NoStrand line) = S.NoStrand

-- The error output got the line of this end, or a prefix of it where that sink failed. Where the whole output was
-- written there is no such line.
abbrev pub TellsEnd : Watched → CallEnd → Type 0
TellsEnd err Done = ⊤
TellsEnd err Faulted = ⊤
TellsEnd err (Words line) = WroteLine err (string_bytes line)
TellsEnd err (Refused TooLong) = WroteLine err (codes "script: too long\n")
TellsEnd err (Refused (Rejected line)) = WroteLine err (string_bytes line)
TellsEnd err (Refused Read) = WroteLine err (codes "read fault\n")
TellsEnd err (Refused Memory) = WroteLine err (codes "out of memory\n")
TellsEnd err Write = WroteLine err (codes "write fault\n")
TellsEnd err (NoStrand line) = WroteLine err line.items

-- The output was written whole and the call ends by `whole`, or the sink failed, a prefix was written and the call ends
-- by `Write`.
abbrev pub Puts : List ℕ → CallEnd → Watched → CallEnd → Type 0
Puts output whole out end = ((end ≡ whole) × Wrote out output) ⊎ ((end ≡ Write) × WroteFront out output)

-- The same, or memory ran out.
abbrev pub PutsWhereRoom : List ℕ → CallEnd → Watched → CallEnd → Type 0
PutsWhereRoom output whole out end = Puts output whole out end ⊎ (end ≡ Refused Memory)

-- The report ends by there being no strand, and the line says why.
abbrev pub IsNoStrandLine : List ℕ → ReportEnd → Type 0
IsNoStrandLine line E.Done = ⊥
IsNoStrandLine line E.Faulted = ⊥
IsNoStrandLine line (E.NoStrand j) = line ≡ no_strand_line j
IsNoStrandLine line (E.Blocked fault) = line ≡ blocked_line fault.at

-- A report was delivered: its output was written whole and the call ends as the report does; or the sink failed and a
-- prefix was written; or there is no strand, and the call ends with the line that says so; or memory ran out.
abbrev pub Delivers : List ℕ → ReportEnd → Watched → CallEnd → Type 0
Delivers output ending out Done = (ending ≡ E.Done) × Wrote out output
Delivers output ending out Faulted = (ending ≡ E.Faulted) × Wrote out output
Delivers output ending out (Words line) = ⊥
Delivers output ending out (Refused TooLong) = ⊥
Delivers output ending out (Refused (Rejected line)) = ⊥
Delivers output ending out (Refused Read) = ⊥
Delivers output ending out (Refused Memory) = ⊤
Delivers output ending out Write = HasOutput ending × WroteFront out output
Delivers output ending out (NoStrand line) = IsNoStrandLine line.items ending

-- A call of the command may end in this way, whether or not its error line can be written.
abbrev pub EndMeans : Command → Watched → Watched → CallEnd → Type 0
EndMeans command source out end = (err : Watched) → TellsEnd err end → StatusMeans command source out err (end_status end)

-- The same for words that aren't a command.
abbrev pub EndRefuses : WordError → CallEnd → Type 0
EndRefuses error end = (err : Watched) → TellsEnd err end → Refuses error err (end_status end)

-- The same for any words.
abbrev pub EndKeeps : Result Command WordError → Watched → Watched → CallEnd → Type 0
EndKeeps given source out end = (err : Watched) → TellsEnd err end → KeepsPromise given source out err (end_status end)
