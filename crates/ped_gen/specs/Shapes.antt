-- Which sizes a generated script may have.
use Rattle.std.specs.Prelude.{ℕ, ◌≤◌}
use Rattle.ped_gen.specs.declared.shape.Shape.{Shape}
use Rattle.ped_gen.specs.declared.shape.Shape.TheVariants.{Fib, Tree, Loop}

abbrev pub Fits : Shape → ℕ → Type 0
Fits Fib n = n ≤ 30
Fits Tree n = n ≤ 20
Fits Loop n = (1 ≤ n) × (n ≤ 4096)
