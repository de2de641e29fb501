-- What is defined by the ranks that are left below the depth.
use Rattle.std.proofs.Common.{◌≡◌, ℕ, zero, suc, ◌<◌, Bool, true, false, ◌==◌, if◌then◌else◌, refl, ap, arith}
use Rattle.std.proofs.lemmas.Bool.Decides.{nat_tests}
use Rattle.serial_meaning.specs.Plan.{PlanView}
use Rattle.serial_meaning.specs.Eval.{by_depth, depth_left}
use Rattle.serial_meaning.specs.declared.origin.Origin.{Origin}

module _ {A : Type 0} (plan : PlanView) (none : A) (gives : (Origin → A) → Origin → A) where
  abbrev below : ℕ → Origin → A
  below = by_depth plan none gives

  -- what holds of all that is given
  pub every : (P : Origin → A → Type 0) → ((o : Origin) → P o none) → ((f : Origin → A) → ((c : Origin) → P c (f c)) → (o : Origin) → P o (gives f o)) →
      (left : ℕ) (o : Origin) → P o (below left o)
  every P nothing step zero o = nothing o
  every P nothing step (suc left) o = by_test (depth_left plan o == left) (every P nothing step left)
    where
      by_test : (b : Bool) → ((c : Origin) → P c (below left c)) → P o ((if b then gives (below left) else below left) o)
      by_test true all = step (below left) all o
      by_test false all = all o

  -- Any number above the ranks that are left is enough.
  pub enough : (left : ℕ) (o : Origin) → depth_left plan o < left → below left o ≡ gives (below (depth_left plan o)) o
  enough zero o h = absurd (omega arith)
  enough (suc left) o h = by_test (depth_left plan o == left) refl (enough left o)
    where
      by_test : (b : Bool) → (depth_left plan o == left) ≡ b → (depth_left plan o < left → below left o ≡ gives (below (depth_left plan o)) o) →
          (if b then gives (below left) else below left) o ≡ gives (below (depth_left plan o)) o
      by_test true e later = let same : left ≡ depth_left plan o = grind (arith, nat_tests) in ap (λ n. gives (below n) o) same
      by_test false e later = later (grind (arith, nat_tests))
