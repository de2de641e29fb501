use Rattle.std.proofs.Common.{◌∙◌, ap}
use Rattle.std.proofs.lemmas.List.{append-nil}
use Rattle.strand_moves.specs.Cursors.{statements_left}
use Rattle.strand_moves.proofs.Cursors.CursorLemmas.{rest_of}
use Rattle.strand_moves.proofs.cursor.Cursor.new.Goals as goal

pub returns : goal.returns
unfolding statements_left
returns c = λ body. ap (λ es. rest_of body es 0) c.new.ensures.items ∙ append-nil body
