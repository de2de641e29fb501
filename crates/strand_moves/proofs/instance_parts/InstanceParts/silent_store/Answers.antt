use Rattle.script_grammar.specs.declared.tree.Act.TheOpen as act
use Rattle.strand_moves.proofs.Statements.FastPathLemmas.{done-is}
use Rattle.strand_moves.proofs.instance_parts.InstanceParts.silent_store.Goals as goal

pub returns-clause-did : goal.returns-clause-did
returns-clause-did c = λ st. done-is st (act.Store c.args.x.now c.args.i.now c.args.e.now) c.args.self.now c.store.new.self c.store.result c.moved.result (λ plan. c.store.ensures.shows plan st) c.store.ensures.same c.moved.ensures

pub returns-clause-named : goal.returns-clause-named
returns-clause-named c = c.store.ensures.named
