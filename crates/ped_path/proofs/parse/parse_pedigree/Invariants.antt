use Rattle.ped_path.proofs.ParseLemmas.{ReadSoFar}
use Rattle.ped_path.proofs.parse.parse_pedigree.Given as goal

abbrev pub invariant-loop-count : goal.invariant-loop-count
invariant-loop-count l = ReadSoFar l.text l.path l._count l.at l.rest
