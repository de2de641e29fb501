-- Where the frames of a task change, the variables of the children that are awaited are still found.
use Rattle.std.proofs.Common.{◌≡◌, ℕ, suc, List, [], ◌∷◌, ◌++◌, length, arith}
use Rattle.serial_meaning.specs.Plan.{PlanView}
use Rattle.strand_meaning.specs.Machine.{Destination, Spawned, Looped, Half}
use Rattle.strand_meaning.specs.Trace.{AwaitedChild}
use Rattle.strand_meaning.specs.Found.{FindsDestination, FindsTargets}
use Rattle.strand_meaning.specs.Sound.{IsDestination, AreDestinations, IsHalf, AreHalves}
use Rattle.strand_meaning.proofs.UnfilledPending.AlikeButEvents.{Alike, End, Next}

module _ (plan : PlanView) where
  -- of no frame
  pub found-nowhere : (ps : List AwaitedChild) → FindsTargets plan [] ps
  found-nowhere [] = tt
  found-nowhere (p ∷ ps) = (from p.destination, found-nowhere ps)
    where
      from : (destination : Destination) → FindsDestination plan [] destination
      from (Spawned owner target) = tt
      from (Looped target) = tt
      from Half = tt

  module _ (functions : List ℕ) where
    pub found-halves : (ps : List AwaitedChild) → AreHalves ps → FindsTargets plan functions ps
    found-halves [] h = tt
    found-halves (p ∷ ps) h = (from p.destination h.0, found-halves ps h.1)
      where
        from : (destination : Destination) → IsHalf destination → FindsDestination plan functions destination
        from (Spawned owner target) g = absurd g
        from (Looped target) g = absurd g
        from Half g = tt

    pub found-append : (ps qs : List AwaitedChild) → FindsTargets plan functions ps → FindsTargets plan functions qs → FindsTargets plan functions (ps ++ qs)
    found-append [] qs h k = k
    found-append (p ∷ ps) qs h k = (h.0, found-append ps qs h.1 k)

    pub found-alike : {ps qs : List AwaitedChild} → Alike ps qs → FindsTargets plan functions ps → FindsTargets plan functions qs
    found-alike End h = tt
    found-alike (Next child destination before after a) h = (h.0, found-alike a h.1)

    -- A frame that begins spawned none of them.
    pub found-called : (function height : ℕ) → suc height ≡ length functions → (ps : List AwaitedChild) → AreDestinations height ps → FindsTargets plan functions ps → FindsTargets plan (function ∷ functions) ps
    found-called function height e [] places h = tt
    found-called function height e (p ∷ ps) places h = (from p.destination places.0 h.0, found-called function height e ps places.1 h.1)
      where
        from : (destination : Destination) → IsDestination height destination → FindsDestination plan functions destination → FindsDestination plan (function ∷ functions) destination
        from (Spawned owner target) g k = (λ same. absurd (omega arith), k)
        from (Looped target) g k = absurd g
        from Half g k = tt

    -- the innermost frame ends
    pub found-ended : (function height : ℕ) (ps : List AwaitedChild) → AreDestinations height ps → FindsTargets plan (function ∷ functions) ps → FindsTargets plan functions ps
    found-ended function height [] places h = tt
    found-ended function height (p ∷ ps) places h = (from p.destination places.0 h.0, found-ended function height ps places.1 h.1)
      where
        from : (destination : Destination) → IsDestination height destination → FindsDestination plan (function ∷ functions) destination → FindsDestination plan functions destination
        from (Spawned owner target) g k = k.1
        from (Looped target) g k = absurd g
        from Half g k = tt
