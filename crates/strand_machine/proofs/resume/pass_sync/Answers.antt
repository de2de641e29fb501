use Rattle.strand_machine.proofs.TakenAnswers.Taking.{joins-none, joins-some}
use Rattle.strand_machine.proofs.resume.pass_sync.Goals as goal

pub returns-in-None : goal.returns-in-None
returns-in-None c = joins-none c.args.instance c.childs_fault.result c.childs_fault.ensures c.in-None.is

pub returns : goal.returns
returns c = joins-some c.args.instance c.childs_fault.result c.in-Some.fault c.in_ok-fault-in-Some.fault c.childs_fault.ensures c.in-Some.is c.in_ok-fault-in-Some.ensures
