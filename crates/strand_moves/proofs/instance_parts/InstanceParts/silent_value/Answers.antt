use Rattle.script_grammar.specs.declared.tree.Act.TheOpen as act
use Rattle.script_grammar.specs.declared.tree.Right.TheVariants as right
use Rattle.strand_moves.proofs.Statements.FastPathLemmas.{done-is}
use Rattle.strand_moves.proofs.instance_parts.InstanceParts.silent_value.Goals as goal

pub returns-clause-did : goal.returns-clause-did
returns-clause-did c = λ st. done-is st (act.Set c.args.x.now (right.Value c.args.e.now)) c.args.self.now c.set_value.new.self c.set_value.result c.moved.result (λ plan. c.set_value.ensures.shows plan st) c.set_value.ensures.same c.moved.ensures

pub returns-clause-named : goal.returns-clause-named
returns-clause-named c = c.set_value.ensures.named
