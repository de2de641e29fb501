use Rattle.std.proofs.Common.{◌+◌, refl}
use Rattle.strand_moves.proofs.Statements.Naming.{names-stay, top-named}
use Rattle.strand_moves.proofs.instance_parts.InstanceParts.pass_loop.Goals as goal

pub clear-requires : goal.clear-requires
clear-requires c = rw c.as_ref.ensures.value c.requires.target

pub returns-clause-named : goal.returns-clause-named
returns-clause-named c = λ plan.
    let i = c.args.self.now in
    let env = c.clear.new.self in
    top-named plan i (record i { rank = i.rank + 1; top = record i.top { env = env } }) refl refl refl (names-stay env i.top.env _ c.clear.ensures)
