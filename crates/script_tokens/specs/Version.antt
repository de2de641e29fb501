-- The versions of the language: a text of version 2 begins with a line that says so, and any other text is of version 1.
use Rattle.std.specs.Prelude.{ℕ, List, take, codes, bytes_eq, if◌then◌else◌}
use Rattle.script_tokens.specs.declared.version.Version.{Version}
use Rattle.script_tokens.specs.declared.version.Version.TheVariants.{One, Two}

-- the line that a text of version 2 begins with, its line feed included
abbrev pub version_line : List ℕ
version_line = codes "version 2\n"

abbrev pub version_of : List ℕ → Version
version_of bytes = if bytes_eq (take 10 bytes) version_line then Two else One

-- the offset after the version line
abbrev pub begins_at : Version → ℕ
begins_at One = 0
begins_at Two = 10
