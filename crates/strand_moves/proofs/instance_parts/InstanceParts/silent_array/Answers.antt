use Rattle.script_grammar.specs.declared.tree.Act.TheOpen as act
use Rattle.strand_moves.proofs.Statements.FastPathLemmas.{done-is}
use Rattle.strand_moves.proofs.instance_parts.InstanceParts.silent_array.Goals as goal

pub returns-clause-did : goal.returns-clause-did
returns-clause-did c = λ st. done-is st (act.Array c.args.x.now c.args.n) c.args.self.now c.array.new.self c.array.result c.moved.result (λ plan. c.array.ensures.shows plan st) c.array.ensures.same c.moved.ensures

pub returns-clause-named : goal.returns-clause-named
returns-clause-named c = c.array.ensures.named
