use Rattle.std.proofs.Common.{◌+◌, false, refl}
use Rattle.strand_moves.proofs.Statements.Naming.{top-named}
use Rattle.strand_moves.proofs.instance_parts.InstanceParts.pass_sync.Goals as goal

pub returns-clause-named : goal.returns-clause-named
returns-clause-named c = λ plan. let i = c.args.self.now in top-named plan i (record i { rank = i.rank + 1; top = record i.top { spawned = false } }) refl refl refl refl
