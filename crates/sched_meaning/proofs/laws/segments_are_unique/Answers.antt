use Rattle.serial_meaning.specs.Eval.{main_origin}
use Rattle.strand_meaning.specs.Task.{start}
use Rattle.sched_meaning.proofs.Segments.Counted.{segments_are_unique}
use Rattle.sched_meaning.proofs.laws.segments_are_unique.Goals as goal

pub returns : goal.returns
returns c = λ plan n m. segments_are_unique (start plan (main_origin plan)) n m
