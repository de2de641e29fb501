-- Each draw of a strand of the open tree is DotMix of its pedigree: so are the draws that each node shows.
use Rattle.std.proofs.Common.{◌≡◌, ℕ, zero, suc, ◌-◌, Bool, true, false, List, [], ◌∷◌, length, Option, Some, None, map, refl, ap, ◌∙◌, subst, if◌then◌else◌}
use Rattle.std.specs.Prelude.{Contains}
use Rattle.std.specs.Str.{bytes_eq}
use Rattle.serial_meaning.specs.Functions.{function_at}
use Rattle.serial_meaning.specs.Plan.{PlanView, functions_of, drawn}
use Rattle.serial_meaning.specs.Eval.{Evaluation, eval_below, depth_left, main_origin}
use Rattle.serial_meaning.specs.Open.{Item, Happened, Child, Opened, Closed, iterations, node_of, deferring, is_empty_loop, strand_pedigrees, unless_child_faulted}
use Rattle.serial_meaning.proofs.Equations.Each.{Each, Parts, each-contained, instance-each}
use Rattle.serial_meaning.proofs.RisingPedigrees.Draws.{IsTrueDraw}
use Rattle.serial_meaning.specs.declared.event.Fault.{Fault}
use Rattle.serial_meaning.specs.declared.event.Event.{Event}
use Rattle.serial_meaning.specs.declared.event.Event.TheVariants as event
use Rattle.serial_meaning.specs.declared.origin.Origin.{Origin}
use Rattle.serial_meaning.specs.declared.origin.Origin.TheVariants.{Instance, Loop}
use Rattle.strand_meaning.specs.StrandLaws.{StrandsDrawDotMix}
use Rattle.strand_meaning.specs.Strands.{pedigree_of, events_at, own_events, own_fault_at, child_on_way, Strand, Found, FoundStrand, Missing, Blocked, strand_of, last_step, blocking_fault, entered_child, next_step, by_child, is_one_of, walk_in, strand_at}
use Rattle.strand_meaning.proofs.Unfilled.Variables.{same-name}

module _ (plan : PlanView) where
  abbrev IsTrueItem : Item → Type 0
  IsTrueItem (Happened e) = IsTrueDraw plan e
  IsTrueItem (Child o) = Unit {0}
  IsTrueItem (Opened j) = Unit {0}
  IsTrueItem (Closed j) = Unit {0}

  sync-shows : (k : Option Fault) → Each IsTrueItem (unless_child_faulted k).items
  sync-shows None = tt
  sync-shows (Some f) = tt

  module _ (child : Origin → Evaluation) where
    loop-shows : (o : Origin) (b : Bool) → is_empty_loop o ≡ b → Each IsTrueItem ((deferring plan child).loop o).items
    loop-shows o true e = rw e tt
    loop-shows o false e = rw e (tt, tt)

    parts : Parts (deferring plan child) plan IsTrueItem
    parts = record {
      print = λ path s v. tt;
      draw = λ path s. refl;
      new = λ path s. tt;
      sync = λ path s. tt;
      spawn = λ path s. tt;
      loop = λ path s. tt;
      opens = λ here. (tt, tt);
      closes = λ here. (tt, tt);
      at_sync = sync-shows;
      child = λ path n vs s h. (tt, tt);
      iterations = λ path n vs lo hi s h. loop-shows (Loop n vs lo _ (record { lo = 0; hi = hi })) _ refl;
    }

  children-show : (os : List Origin) → Each IsTrueItem (map Child os)
  children-show [] = tt
  children-show (o ∷ os) = (tt, children-show os)

  node-shows : (o : Origin) → Each IsTrueItem (node_of plan o).items
  node-shows (Instance function args path) =
      let child : Origin → Evaluation = eval_below plan (depth_left plan (Instance function args path)) in
      instance-each (deferring plan child) plan IsTrueItem (parts child) path (function_at (functions_of plan) function) args
  node-shows (Loop function rest first path range) = children-show (iterations function rest first path range.lo (range.hi - range.lo))

  own-shows : (items : List Item) → Each IsTrueItem items → Each (IsTrueDraw plan) (own_events items)
  own-shows [] h = tt
  own-shows (Happened e ∷ items) h = (h.0, own-shows items h.1)
  own-shows (Child o ∷ items) h = own-shows items h.1
  own-shows (Opened j ∷ items) h = own-shows items h.1
  own-shows (Closed j ∷ items) h = own-shows items h.1

  module _ (j : List ℕ) where
    abbrev IsOfStrand : Event → Type 0
    IsOfStrand e = IsTrueDraw plan e × (pedigree_of e ≡ j)

    events-of : (es : List Event) → Each (IsTrueDraw plan) es → Each IsOfStrand (events_at j es)
    events-of [] h = tt
    events-of (e ∷ es) h = by_test (bytes_eq (pedigree_of e) j) refl (events-of es h.1)
      where
        by_test : (b : Bool) → bytes_eq (pedigree_of e) j ≡ b → Each IsOfStrand (events_at j es) → Each IsOfStrand (if b then e ∷ events_at j es else events_at j es)
        by_test true t later = ((h.0, same-name (pedigree_of e) j t), later)
        by_test false t later = later

    abbrev Shows : Strand → Type 0
    Shows strand = Each IsOfStrand strand.events

    abbrev found-in : Strand → Found → Strand
    found-in other (FoundStrand s) = s
    found-in other Missing = other
    found-in other (Blocked f) = other

    strand-shows : (o : Origin) (strand : Strand) (q : Option Strand) → strand_of o (node_of plan o) j ≡ q → last_step None q ≡ FoundStrand strand → Shows strand
    strand-shows o strand None t e = absurd (cc)
    strand-shows o strand (Some s) t e = subst Shows (ap (found-in strand) e) (by_one (is_one_of j (strand_pedigrees o (node_of plan o))) t)
      where
        own : Strand
        own = record { events = events_at j (own_events (node_of plan o).items); fault = own_fault_at j (node_of plan o).ending }

        or_this : Option Strand → Strand
        or_this None = s
        or_this (Some t) = t

        by_one : (b : Bool) → (if b then Some own else None) ≡ Some s → Shows s
        by_one true h = subst Shows (ap or_this h) (events-of (own_events (node_of plan o).items) (own-shows (node_of plan o).items (node-shows o)))
        by_one false h = absurd (cc)

    last-shows : (o : Origin) (strand : Strand) (f : Option Fault) → last_step f (strand_of o (node_of plan o) j) ≡ FoundStrand strand → Shows strand
    last-shows o strand (Some f) e = absurd (cc)
    last-shows o strand None e = strand-shows o strand (strand_of o (node_of plan o) j) refl e

    walk-shows : (steps : ℕ) (o : Origin) (strand : Strand) → walk_in plan steps j o ≡ FoundStrand strand → Shows strand
    walk-shows zero o strand e = absurd (cc)
    walk-shows (suc steps) o strand e = by_way (λ c. walk-shows steps c strand) (child_on_way j (node_of plan o).items) e
      where
        by_next : ((c : Origin) → walk_in plan steps j c ≡ FoundStrand strand → Shows strand) → (q : Option Origin) → next_step q (walk_in plan steps j) ≡ FoundStrand strand → Shows strand
        by_next later None h = absurd (cc)
        by_next later (Some c) h = later c h

        by_way : ((c : Origin) → walk_in plan steps j c ≡ FoundStrand strand → Shows strand) → (q : Option Origin) →
            by_child q j (last_step (blocking_fault (node_of plan o) j) (strand_of o (node_of plan o) j)) (walk_in plan steps j) ≡ FoundStrand strand → Shows strand
        by_way later None h = last-shows o strand (blocking_fault (node_of plan o) j) h
        by_way later (Some c) h = by_next later (entered_child j c) h

pub strands_draw_dotmix : StrandsDrawDotMix
strands_draw_dotmix plan j k n strand e c =
    let at : IsOfStrand plan j (event.Draw k n) = each-contained (IsOfStrand plan j) strand.events (event.Draw k n) (walk-shows plan j (length j) (main_origin plan) strand e) c in
    (at.1, at.0 ∙ ap (drawn plan) at.1)
