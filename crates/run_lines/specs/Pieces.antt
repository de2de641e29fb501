-- The text of a line's pieces.
use Rattle.std.specs.Prelude.{ℕ, List, decimal, flat_map}
use Rattle.std.specs.Fmt.{signed_decimal}
use Rattle.ped_path.specs.Text.{ped_text}
use Rattle.run_lines.specs.declared.line.Piece.{Piece}
use Rattle.run_lines.specs.declared.line.Piece.TheVariants.{Text, Number, Signed, Place}

abbrev pub piece_text : Piece → List ℕ
piece_text (Text text) = text.now
piece_text (Number n) = decimal n
piece_text (Signed n) = signed_decimal n
piece_text (Place j) = ped_text j.now

-- the pieces one after the other
abbrev pub pieces_text : List Piece → List ℕ
pieces_text pieces = flat_map piece_text pieces
