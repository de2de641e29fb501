-- Bytes that were written, and more after them.
use Rattle.std.proofs.Common.{◌++◌, ℕ, List, Option}
use Rattle.std.proofs.KnownBytes.{Appends-trans}
use Rattle.engine.specs.Promise.{watched}
use Rattle.pedrun.specs.Calls.{WroteSome}

module _ {T : Type 0} (told : T → Option (List ℕ)) (faults : T → ℕ) where
  pub some_more : (a b c : T) → WroteSome (watched told faults a b) → WroteSome (watched told faults b c) → WroteSome (watched told faults a c)
  some_more a b c first second = (first.0 ++ second.0, Appends-trans (told a) (told b) (told c) first.0 second.0 first.1 second.1)
