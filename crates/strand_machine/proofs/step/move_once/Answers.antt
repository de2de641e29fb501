use Rattle.std.proofs.Common.{IfOk, sym, subst}
use Rattle.strand_machine.specs.Made.{IsRun, made}
use Rattle.strand_machine.specs.Tasks.{view_of}
use Rattle.strand_machine.specs.declared.remaining.Remaining.{Remaining}
use Rattle.strand_machine.proofs.Moves.Making.{sound-at}
use Rattle.strand_machine.proofs.step.move_once.Goals as goal

pub go-requires : goal.go-requires
go-requires g c = let p = c.args.parts.now in sound-at p.state p.remaining _ c.in-Some.ensures.some c.requires

pub returns-in-Some-clause-step : goal.returns-in-Some-clause-step
returns-in-Some-clause-step g c =
    subst (λ (x : Remaining). IfOk c.go.result (λ passed. IsRun (view_of c.args.parts.now.state x) (made c.go.new.parts passed))) (sym c.in-Some.ensures.some) c.go.ensures.step

pub move_other-requires : goal.move_other-requires
move_other-requires g c = let p = c.args.parts.now in sound-at p.state p.remaining _ (sym c.in_default.ensures.none) c.requires

pub returns-clause-step : goal.returns-clause-step
returns-clause-step g c =
    subst (λ (x : Remaining). IfOk c.move_other.result (λ passed. IsRun (view_of c.args.parts.now.state x) (made c.move_other.new.parts passed))) c.in_default.ensures.none c.move_other.ensures.step
