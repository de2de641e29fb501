use Rattle.ped_path.proofs.OrderLemmas.{is_eq-slice_cmp-decides}
use Rattle.ped_path.proofs.pedigree.Pedigree.same.Goals as goal

pub returns : goal.returns
returns c = rw (c.is_eq.ensures, c.compare.ensures) (is_eq-slice_cmp-decides c.args.self.now c.args.other.now)
