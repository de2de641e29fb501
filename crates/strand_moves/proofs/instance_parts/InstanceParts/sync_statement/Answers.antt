use Rattle.std.proofs.Common.{[], ◌∷◌, ◌++◌, sym, ap, ◌∙◌}
use Rattle.script_grammar.specs.declared.tree.Act.TheOpen as act
use Rattle.serial_meaning.specs.declared.event.Event.TheVariants as event
use Rattle.strand_meaning.specs.Machine.{Emitted, sync_effects}
use Rattle.strand_moves.specs.declared.instance_parts.InstanceParts.{InstanceParts}
use Rattle.strand_moves.specs.InstanceParts.{machine_of, present_of}
use Rattle.strand_moves.specs.Moves.{acted, present_pedigree}
use Rattle.strand_moves.proofs.OpenScopes.Exits.{shows-made}
use Rattle.strand_moves.proofs.Statements.Equations.{sync, moved}
use Rattle.strand_moves.proofs.instance_parts.InstanceParts.sync_statement.Goals as goal

pub returns-clause-shows : goal.returns-clause-shows
returns-clause-shows c = λ plan st.
    let i = c.args.self.now in
    let s = c.sync.ensures in
    let effects = Emitted (event.Sync (present_of i ++ i.rank ∷ [])) ∷ sync_effects i.top.spawned in
    shows-made (acted plan (present_of i) (machine_of plan i) st act.Sync) (present_pedigree (present_of i) (machine_of plan i)) (machine_of plan c.sync.new.self) effects c.sync.result s.effects s.fine s.passed
    (λ passed. sync plan (present_of i) (machine_of plan i) st ∙ ap (λ (x : InstanceParts). moved effects (machine_of plan x)) (sym passed))

pub returns-clause-named : goal.returns-clause-named
returns-clause-named c = c.sync.ensures.named
