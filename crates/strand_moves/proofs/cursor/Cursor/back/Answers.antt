use Rattle.std.proofs.Common.{refl}
use Rattle.strand_moves.proofs.Cursors.CursorLemmas.{left-back}
use Rattle.strand_moves.proofs.cursor.Cursor.back.Goals as goal

pub returns : goal.returns
returns c = λ body st after. left-back body c.args.self.now _ st after refl c.saturating_sub-self.ensures
