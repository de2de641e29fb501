use Rattle.std.specs.Result.{IsErrAnd}
use Rattle.std.proofs.Common.{◌≡◌, Ok, Err, Result, is_some, ap, sym, subst, arith}
use Rattle.script_check.specs.Slots.{has_slot}
use Rattle.serial_meaning.specs.declared.event.FaultKind.{FaultKind}
use Rattle.strand_values.specs.Changes.{called_with}
use Rattle.strand_values.specs.Environments.{entry_content}
use Rattle.strand_values.specs.Gives.{Calculates}
use Rattle.strand_values.specs.declared.evaluation_error.EvaluationError.{EvaluationError}
use Rattle.strand_values.proofs.BoundLemmas.{called-begins, called-ends, called-fails, called-more, called-past, slot_for}
use Rattle.strand_values.proofs.FoundOperands.{at_argument}
use Rattle.strand_values.proofs.environment.Environment.called_with.Goals.{then-i-params, else-i-params+in-Id-1, else-i-params+in-Int-1}
use Rattle.strand_values.proofs.environment.Environment.called_with.Goals as goal

pub loop-i-init : goal.loop-i-init
loop-i-init c = called-begins c.args.names.now c.args.self.now.variables c.args.params.now c.args.args.now c.in_ok-env.env c.in_ok-env.ensures

pub evaluate-requires : goal.evaluate-requires
evaluate-requires c = at_argument (has_slot c.args.slots.now c.args.self.now.names) c.args.args.now c.loop-i.i c.index-args-i.result c.requires.args c.loop-i-test.true c.index-args-i.is

pub put-requires-clause-there : goal.put-requires-clause-there
put-requires-clause-there c = slot_for c.args.names.now c.args.params.now c.loop-i.i c.loop-i.env c.requires.params c.loop-i.invariant.names_are c.if-i-params.true

pub put-requires-clause-some : goal.put-requires-clause-some
put-requires-clause-some c = ap (λ o. is_some o) c.of.ensures

pub loop-i-preserved : goal.loop-i-preserved
loop-i-preserved c =
    let names = c.args.names.now in
    let env = c.args.self.now.variables in
    let ps = c.args.params.now in
    let es = c.args.args.now in
    let i = c.loop-i.i in
    let made = c.loop-i.env in
    let e = c.index-args-i.result in
    let v = c.in_ok-value.value in
    elim c.if-i-params.branch [
      | then-i-params w ↦
          rw w.env-is
          (called-more names env ps es i made c.loop-i.invariant e v c.in_ok-value.ensures c.loop-i-test.true c.index-args-i.is (entry_content w.of.result) w.put.new.self c.requires.params w.if-i-params.true w.of.ensures w.put.ensures)
      | else-i-params+in-Id-1 w ↦ rw w.env-is (called-past names env ps es i made c.loop-i.invariant e v c.in_ok-value.ensures c.loop-i-test.true c.index-args-i.is w.if-i-params.false)
      | else-i-params+in-Int-1 w ↦ rw w.env-is (called-past names env ps es i made c.loop-i.invariant e v c.in_ok-value.ensures c.loop-i-test.true c.index-args-i.is w.if-i-params.false)
    ]

-- the error that is met is the answer
halts : {A : Type 0} (r : Result A EvaluationError) (h : EvaluationError) (defined : Result A FaultKind) → IsErrAnd r (λ y. y ≡ h) → Calculates {A = A} (Err h) defined → Calculates r defined
halts (Ok a) h defined is g = absurd is
halts {A} (Err y) h defined is g = let P : EvaluationError → Type 0 = λ z. Calculates {A = A} (Err z) defined in subst P (sym is) g

pub returns-in_err-value : goal.returns-in_err-value
returns-in_err-value c =
    let names = c.args.names.now in
    let env = c.args.self.now.variables in
    let ps = c.args.params.now in
    let es = c.args.args.now in
    let h = c.in_err-value.field-0.0 in
    halts c.from_residual-in_err-value.result h (called_with names ps es env) c.from_residual-in_err-value.ensures.1
    (called-fails names env ps es c.loop-i.i c.loop-i.env c.loop-i.invariant c.index-args-i.result c.loop-i-test.true c.index-args-i.is h c.in_err-value.ensures)

pub returns : goal.returns
returns c = called-ends c.args.names.now c.args.self.now.variables c.args.params.now c.args.args.now c.loop-i.i c.loop-i.env c.loop-i.invariant (omega arith)
