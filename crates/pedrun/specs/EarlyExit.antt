-- How the program answers without a top call.
use Rattle.std.specs.Prelude.{◌≡◌, ℕ, List}
use Rattle.engine.specs.Promise.{WroteLine, Watched}
use Rattle.engine.specs.declared.status.Status.{Status}

-- The status is `wanted`, and this line was written to the error output.
abbrev pub WritesRefusal : Status → List ℕ → Watched → Status → Type 0
WritesRefusal wanted line err status = (status ≡ wanted) × WroteLine err line
