-- A test whether two origins are the same.
use Rattle.std.specs.Prelude.{Bool, true, false, ◌&&◌, nat_eq, List, [], ◌∷◌}
use Rattle.std.specs.Ordering.{int_eq}
use Rattle.loop_range.specs.Range.{Range}
use Rattle.serial_meaning.specs.declared.value.Value.{Value}
use Rattle.serial_meaning.specs.declared.value.Value.TheVariants.{Int, Id}
use Rattle.serial_meaning.specs.declared.origin.Origin.{Origin}
use Rattle.serial_meaning.specs.declared.origin.Origin.TheVariants.{Instance, Loop}

abbrev pub same_list : {A : Type 0} → (A → A → Bool) → List A → List A → Bool
same_list same [] [] = true
same_list same [] (y ∷ ys) = false
same_list same (x ∷ xs) [] = false
same_list same (x ∷ xs) (y ∷ ys) = same x y && same_list same xs ys

abbrev pub same_value : Value → Value → Bool
same_value (Int n) (Int m) = int_eq n m
same_value (Int n) (Id q) = false
same_value (Id p) (Int m) = false
same_value (Id p) (Id q) = same_list nat_eq p q

abbrev pub same_range : Range → Range → Bool
same_range r s = nat_eq r.lo s.lo && nat_eq r.hi s.hi

abbrev pub same_origin : Origin → Origin → Bool
same_origin (Instance f args p) (Instance g more q) = nat_eq f g && (same_list same_value args more && same_list nat_eq p q)
same_origin (Instance f args p) (Loop g rest first q s) = false
same_origin (Loop f rest first p r) (Instance g more q) = false
same_origin (Loop f rest first p r) (Loop g more other q s) =
    nat_eq f g && (same_list same_value rest more && (int_eq first other && (same_list nat_eq p q && same_range r s)))
