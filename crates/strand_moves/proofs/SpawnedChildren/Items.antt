-- Items that there are and that there aren't.
use Rattle.std.proofs.Common.{◌≡◌, true, false, Option, Some, None, refl}
use Rattle.std.specs.Option.{is_some}

pub missing : {A : Type 0} (o : Option A) → is_some o ≡ false → o ≡ None
missing None h = refl
missing (Some x) h = absurd (cc)

pub there : {A : Type 0} (o : Option A) → is_some o ≡ true → (x : A) × (o ≡ Some x)
there None h = absurd (cc)
there (Some x) h = (x, refl)
