-- The numbers of the faults of a text.
use Rattle.std.specs.Prelude.{ℕ}

abbrev pub not_ascii : ℕ
not_ascii = 1

abbrev pub unexpected_token : ℕ
unexpected_token = 2

abbrev pub number_out_of_range : ℕ
number_out_of_range = 3

abbrev pub name_too_long : ℕ
name_too_long = 4

abbrev pub nested_too_deep : ℕ
nested_too_deep = 5

abbrev pub unexpected_end : ℕ
unexpected_end = 6

abbrev pub too_many_functions : ℕ
too_many_functions = 7
