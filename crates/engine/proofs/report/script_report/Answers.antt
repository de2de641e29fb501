use Rattle.std.proofs.Common.{IfErr, sym, subst}
use Rattle.std.proofs.lemmas.Result.{err_from_is_err_and}
use Rattle.ped_words.specs.declared.command.Command.{Command}
use Rattle.engine.specs.Commands.{AcceptsScript}
use Rattle.engine.specs.Refusal.{IsRejection}
use Rattle.engine.proofs.report.script_report.Goals as goal

pub returns-in-Run-clause-refused : goal.returns-in-Run-clause-refused
returns-in-Run-clause-refused c = let P : Command → Type 0 = λ command. IfErr c.report_serial_run.result (IsRejection (AcceptsScript command) c.args.bytes.now) in subst P (sym c.in-Run.is) c.report_serial_run.ensures.refused

pub returns-in-Serial-clause-refused : goal.returns-in-Serial-clause-refused
returns-in-Serial-clause-refused c = let P : Command → Type 0 = λ command. IfErr c.report_serial_run-in-Serial.result (IsRejection (AcceptsScript command) c.args.bytes.now) in subst P (sym c.in-Serial.is) c.report_serial_run-in-Serial.ensures.refused

pub returns-in-Sim-clause-refused : goal.returns-in-Sim-clause-refused
returns-in-Sim-clause-refused c = let P : Command → Type 0 = λ command. IfErr c.report_simulation.result (IsRejection (AcceptsScript command) c.args.bytes.now) in subst P (sym c.in-Sim.is) c.report_simulation.ensures.refused

pub returns-in_err-script-in-Fmt-clause-refused : goal.returns-in_err-script-in-Fmt-clause-refused
returns-in_err-script-in-Fmt-clause-refused c =
    let P : Command → Type 0 = λ command. IsRejection (AcceptsScript command) c.args.bytes.now c.in_err-script-in-Fmt.field-0.0 in
    let p = err_from_is_err_and c.from_residual.result c.from_residual.ensures.1 in
    rw (p.1, p.2) (subst P (sym c.in-Fmt.is) c.in_err-script-in-Fmt.ensures.refused)

pub returns-in_err-valid_script-in-Check-clause-refused : goal.returns-in_err-valid_script-in-Check-clause-refused
returns-in_err-valid_script-in-Check-clause-refused c =
    let P : Command → Type 0 = λ command. IsRejection (AcceptsScript command) c.args.bytes.now c.in_err-valid_script-in-Check.field-0.0 in
    let p = err_from_is_err_and c.from_residual-in_err-valid_script-in-Check.result c.from_residual-in_err-valid_script-in-Check.ensures.1 in
    rw (p.1, p.2) (subst P (sym c.in-Check.is) c.in_err-valid_script-in-Check.ensures.refused)

pub returns-in-Replay-clause-refused : goal.returns-in-Replay-clause-refused
returns-in-Replay-clause-refused c = let P : Command → Type 0 = λ command. IfErr c.report_replay.result (IsRejection (AcceptsScript command) c.args.bytes.now) in subst P (sym c.in-Replay.is) c.report_replay.ensures.refused

pub returns-in-Span-clause-refused : goal.returns-in-Span-clause-refused
returns-in-Span-clause-refused c = let P : Command → Type 0 = λ command. IfErr c.report_span.result (IsRejection (AcceptsScript command) c.args.bytes.now) in subst P (sym c.in-Span.is) c.report_span.ensures.refused
