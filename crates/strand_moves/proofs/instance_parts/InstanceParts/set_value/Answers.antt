use Rattle.std.proofs.Common.{refl, ap}
use Rattle.strand_values.specs.Environments.{EnvironmentView}
use Rattle.strand_moves.specs.declared.instance_parts.InstanceParts.{InstanceParts}
use Rattle.strand_moves.proofs.Statements.Assigning.{assigned-acts, on-err}
use Rattle.strand_moves.proofs.Statements.Naming.{top-named}
use Rattle.strand_moves.proofs.instance_parts.InstanceParts.set_value.Goals as goal

pub returns-clause-shows : goal.returns-clause-shows
returns-clause-shows c = λ plan st.
    assigned-acts plan c.args.self.now c.assign.new.self st c.args.x.now c.args.e.now c.assign.result c.assign.ensures.ok c.assign.ensures.fault

pub returns-clause-same : goal.returns-clause-same
returns-clause-same c = λ kind h.
    let i = c.args.self.now in
    ap (λ (env : EnvironmentView). let r : InstanceParts = record i { top = record i.top { env = env } } in r) (on-err c.assign.result _ _ c.assign.ensures.err h)

pub returns-clause-there : goal.returns-clause-there
returns-clause-there c = record { below = refl; function = refl; levels = refl; target = refl; names = c.assign.ensures.names; steps = refl }

pub returns-clause-named : goal.returns-clause-named
returns-clause-named c = λ plan.
    let i = c.args.self.now in
    let new : InstanceParts = record i { top = record i.top { env = c.assign.new.self } } in
    top-named plan i new refl refl refl c.assign.ensures.names
