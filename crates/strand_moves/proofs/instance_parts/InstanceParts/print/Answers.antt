use Rattle.script_grammar.specs.declared.tree.Act.TheOpen as act
use Rattle.serial_meaning.specs.Values.{value_of}
use Rattle.strand_moves.specs.InstanceParts.{machine_of, present_of}
use Rattle.strand_moves.specs.Moves.{acted, present_pedigree}
use Rattle.strand_moves.proofs.Statements.Equations.{print, print-fault}
use Rattle.strand_moves.proofs.OpenScopes.Exits.{emitted-exit}
use Rattle.strand_moves.proofs.instance_parts.InstanceParts.print.Goals as goal

pub returns-in_err-value : goal.returns-in_err-value
returns-in_err-value c = λ plan st.
    let i = c.args.self.now in
    emitted-exit (acted plan (present_of i) (machine_of plan i) st (act.Print c.args.e.now)) (present_pedigree (present_of i) (machine_of plan i)) _ c.from_residual.result c.in_err-value.field-0.0
    (value_of c.args.e.now i.top.env.variables) c.from_residual.ensures.1 c.in_err-value.ensures (print-fault plan (present_of i) (machine_of plan i) st c.args.e.now)

pub returns : goal.returns
returns c = λ plan st.
    let i = c.args.self.now in
    rw c.in_ok-pedigree.ensures (print plan (present_of i) (machine_of plan i) st c.args.e.now c.in_ok-value.value c.in_ok-value.ensures)
