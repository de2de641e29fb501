-- The exit status of the program, by how a call ends.
use Rattle.std.specs.Prelude.{ℕ}
use Rattle.engine.specs.declared.status.Status.{Status}
use Rattle.engine.specs.declared.status.Status.TheVariants.{Done, Faulted, Words, Script, Read, Write, Memory, NoStrand}

abbrev pub code_of : Status → ℕ
code_of Done = 0
code_of Faulted = 1
code_of Words = 2
code_of Script = 3
code_of Read = 4
code_of Write = 5
code_of Memory = 6
code_of NoStrand = 7
