-- Each state of a history is lawful.
use Rattle.std.proofs.Common.{◌≡◌, ℕ, true, false, List, [], ◌∷◌, ◌++◌, length, set, sym, refl, ap, ◌∙◌, subst, arith}
use mathlib.Core.Option.{some}
use lib.ListN.{get_elem?}
use Rattle.crossbeam_deque.proofs.Lists.{at_last}
use Rattle.steal_deck.specs.declared.rule.Party.{Party}
use Rattle.steal_deck.specs.Accounts.{one_if, AreEntriesOf}
use Rattle.steal_deck.specs.History.{DeckEvent, DeckState, push, pop, steal, make_thief, take_back, owner, thief, retired, with_push, with_entry, with_thief, with_back, LeadsBy, IsHistory}
use Rattle.steal_deck.proofs.Weights.{weigh, Rising, IsLawful, Lawful}
use Rattle.steal_deck.proofs.Entries.{below_more, weigh_more, weigh_both, named_longer, all_named_longer, named_more, named_both, named_front, rising_more, rising_front, taken_set, thieves_set, named_at, named_set, idle_set, taken_more, thieves_more, all_named_more, idle_more}

module _ {T : Type 0} where
  begins : IsLawful {T = T} [] (owner [] [] [] 0 0) []
  begins = record { rising = tt; named = (tt, tt, tt, tt); once = λ h. refl; parties = refl; idle = tt; is_owner = refl }

  pushed_on : (r : DeckState T) (x : T) → Lawful r → IsLawful (r.left ++ (length r.owner.pushed, x) ∷ []) (with_push r.owner x) r.others
  pushed_on r x d = let v = r.owner in let n : ℕ = length v.pushed in record {
    rising = rising_more v.pushed r.left x d.rising d.named.0;
    named = (
      named_more (v.pushed ++ x ∷ []) r.left (n, x) (named_longer v.pushed (x ∷ []) r.left d.named.0) (at_last v.pushed x n refl),
      named_longer v.pushed (x ∷ []) v.taken d.named.1,
      named_longer v.pushed (x ∷ []) v.back d.named.2,
      all_named_longer v.pushed (x ∷ []) r.others d.named.3,
    );
    once = λ h. let o = d.once h in omega (arith, weigh_more h r.left (n, x), below_more h v.pushed x);
    parties = d.parties;
    idle = d.idle;
    is_owner = d.is_owner;
  }

  popped_off : (r : DeckState T) (left : List (ℕ × T)) (e : ℕ × T) → r.left ≡ left ++ e ∷ [] → Lawful r → IsLawful left (with_entry r.owner e) r.others
  popped_off r left e q d =
      let v = r.owner in
      let named = named_front v.pushed left e (subst (AreEntriesOf v.pushed) q d.named.0) in record {
        rising = rising_front left e (subst Rising q d.rising);
        named = (named.0, named_more v.pushed v.taken e d.named.1 named.1, d.named.2, d.named.3);
        once = λ h. let o = d.once h in omega (arith, ap (weigh h) q, weigh_more h left e, weigh_more h v.taken e);
        parties = d.parties;
        idle = d.idle;
        is_owner = d.is_owner;
      }

  stolen_off : (r : DeckState T) (left : List (ℕ × T)) (k : ℕ) (e : ℕ × T) (v : Party T) → get_elem? r.others k ≡ some v → v.is_thief ≡ true → r.left ≡ e ∷ left → Lawful r
      → IsLawful left r.owner (set r.others k (with_entry v e))
  stolen_off r left k e v at o q d =
      let boss = r.owner in
      let w : Party T = with_entry v e in
      let named = subst (AreEntriesOf boss.pushed) q d.named.0 in record {
        rising = (subst Rising q d.rising).1;
        named = (named.1, d.named.1, d.named.2, named_set boss.pushed r.others k w d.named.3 (named_more boss.pushed v.taken e (named_at boss.pushed r.others k v at d.named.3) named.0));
        once = λ h. let a = d.once h in omega (arith, ap (weigh h) q, taken_set h r.others k v w at, weigh_more h v.taken e);
        parties = (let a = d.parties in omega (arith, thieves_set r.others k v w at));
        idle = idle_set r.others k w d.idle (λ f. absurd (let c : true ≡ false = sym o ∙ f in (cc)));
        is_owner = d.is_owner;
      }

  thief_more : (r : DeckState T) → Lawful r → IsLawful r.left (with_thief r.owner) (r.others ++ thief [] ∷ [])
  thief_more r d = record {
    rising = d.rising;
    named = (d.named.0, d.named.1, d.named.2, all_named_more r.owner.pushed r.others (thief []) d.named.3 tt);
    once = λ h. let a = d.once h in omega (arith, taken_more h r.others (thief []));
    parties = (let a = d.parties in omega (arith, thieves_more r.others (thief [])));
    idle = idle_more r.others (thief []) d.idle (λ e. refl);
    is_owner = d.is_owner;
  }

  thief_less : (r : DeckState T) (k : ℕ) (u : Party T) → get_elem? r.others k ≡ some u → u.is_thief ≡ true → Lawful r → IsLawful r.left (with_back r.owner u) (set r.others k retired)
  thief_less r k u at o d = let v = r.owner in record {
    rising = d.rising;
    named = (d.named.0, d.named.1, named_both v.pushed v.back u.taken d.named.2 (named_at v.pushed r.others k u at d.named.3), named_set v.pushed r.others k retired d.named.3 tt);
    once = λ h. let a = d.once h in omega (arith, taken_set h r.others k u retired at, weigh_both h v.back u.taken);
    parties = (let a = d.parties in let b = ap one_if o in omega (arith, thieves_set r.others k u retired at));
    idle = idle_set r.others k retired d.idle (λ e. refl);
    is_owner = d.is_owner;
  }

  event_keeps : (e : DeckEvent T) (r s : DeckState T) → LeadsBy e r s → Lawful r → Lawful s
  event_keeps (push x) r s q d = subst Lawful (sym q) (pushed_on r x d)
  event_keeps (pop e) r s q d = subst Lawful (sym q.1) (popped_off r s.left e q.0 d)
  event_keeps (steal k e) r s q d = subst Lawful (sym q.3) (stolen_off r s.left k e q.0 q.1.0 q.1.1 q.2 d)
  event_keeps make_thief r s q d = subst Lawful (sym q) (thief_more r d)
  event_keeps (take_back k) r s q d = subst Lawful (sym q.2) (thief_less r k q.0 q.1.0 q.1.1 d)

  pub lawful : (events : List (DeckEvent T)) (s : DeckState T) → IsHistory events s → Lawful s
  lawful [] s q = subst Lawful (sym q) begins
  lawful (e ∷ events) s h = event_keeps e h.0 s h.2 (lawful events h.0 h.1)
