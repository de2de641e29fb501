-- How the hands of a crew meet.
use Rattle.std.proofs.Common.{◌≡◌, ◌≤◌, ◌+◌, ◌-◌, ◌<◌, ℕ, zero, suc, true, false, List, [], ◌∷◌, ◌++◌, Option, Some, length, map, take, drop, set, get_or, refl, sym, ap, ◌∙◌, ap₂, subst, append_assoc, append-nil, length-append, arith}
use Rattle.std.proofs.lemmas.List.{map_more, map-append, drop_more, get_or_at, length-map, length-take, take_at, drop_at}
use Rattle.std.proofs.lemmas.List.Edits.{map_over_more}
use Rattle.steal_deck.specs.Ends.{DeckId, ThiefEnd, new_owner, new_thief}
use Rattle.serial_meaning.specs.Plan.{PlanView}
use Rattle.std.specs.Prelude.{is_none}
use Rattle.serial_meaning.specs.Answer.{AnswerTag}
use Rattle.serial_meaning.specs.Eval.{main_origin}
use Rattle.serial_meaning.specs.declared.origin.Origin.{Origin}
use Rattle.meet_block.specs.Gives.{GiveView, give_of}
use Rattle.meet_block.specs.Joined.{Joined, JoinView, joined_with}
use Rattle.strand_machine.specs.Links.{AreJoinNames, tag}
use Rattle.strand_machine.specs.Tasks.{TaskView, fresh}
use Rattle.parallel_runner.specs.Crews.{AreIdle, AreNew, HaveMet, IsCrewOf, IsDealt, IsNewCrew, FirstIsDealt, first_begins, idle_hands, new_hand, thief_of, with_thief, AreNewRoots, IsNewRoot}
use Rattle.parallel_runner.specs.Hands.{HandView}

-- a hand while the crew meets: so many thieves of its deck were made, and it has those of these decks
abbrev pub meeting_hand : DeckId → ℕ → List DeckId → HandView
meeting_hand deck made others = record (new_hand deck) { deck = record (new_owner deck) { made = made }; thieves = map new_thief others }

-- the hands of these decks, which have no thieves yet
abbrev pub unmet : ℕ → List DeckId → List HandView
unmet made decks = map (λ deck. meeting_hand deck made []) decks

-- those of these decks, which have theirs, between the decks before them and after them
abbrev pub met : ℕ → List DeckId → List DeckId → List DeckId → List HandView
met made before [] after = []
met made before (deck ∷ decks) after = meeting_hand deck made ((decks ++ after) ++ before) ∷ met made (before ++ deck ∷ []) decks after

-- so many of the hands have met the others
pub record IsMeeting (decks : List DeckId) (own : ℕ) (hands : List HandView) : Type 0 where
  pub front : List DeckId
  pub back : List DeckId
  pub decks_are : decks ≡ front ++ back
  pub count : length front ≡ own
  pub are : hands ≡ met (own - 1) [] front back ++ unmet own back

-- New hands

pub one-more : (workers : ℕ) (hands : List HandView) (h : HandView) → AreNew workers hands → h ≡ new_hand h.deck.deck → AreNew (workers + 1) (hands ++ h ∷ [])
one-more workers hands h (decks, n, are) is = (
  decks ++ h.deck.deck ∷ [],
  length-append decks (h.deck.deck ∷ []) ∙ ap (λ k. k + 1) n,
  ap (λ l. l ++ h ∷ []) are ∙ ap (λ x. map new_hand decks ++ x ∷ []) is ∙ sym (map-append new_hand decks (h.deck.deck ∷ [])),
)

-- One thief more of each

read : {X : Type 0} (f : X → X) (xs ys : List X) (i : ℕ) (d : X) → i < length xs → ys ≡ map f (take i xs) ++ drop i xs → get_or ys i d ≡ get_or xs i d
read f xs ys i d lt h =
    let front = map f (take i xs) in
    let long : length front ≡ i = length-map (take i xs) f ∙ omega (arith, length-take i xs) in
    ap (λ l. get_or l i d) (h ∙ ap (λ l. front ++ l) (drop_more xs i d lt)) ∙ get_or_at front _ _ d i long

pub thieves-more : (xs ys : List HandView) (old now : List (ThiefEnd TaskView)) (i : ℕ) (d : HandView) (t : ThiefEnd TaskView) → i < length xs → ys ≡ map with_thief (take i xs) ++ drop i xs →
    now ≡ old ++ map thief_of (take i xs) → t ≡ thief_of (get_or ys i d) → now ++ t ∷ [] ≡ old ++ map thief_of (take (i + 1) xs)
thieves-more xs ys old now i d t lt h n e =
    ap (λ l. l ++ t ∷ []) n
    ∙ append_assoc old (map thief_of (take i xs)) (t ∷ [])
    ∙ ap (λ l. old ++ l) (ap (λ z. map thief_of (take i xs) ++ z ∷ []) (e ∙ ap thief_of (read with_thief xs ys i d lt h)) ∙ sym (map_more thief_of xs i d lt))

pub hands-more : (xs ys : List HandView) (i : ℕ) (d h : HandView) → i < length xs → ys ≡ map with_thief (take i xs) ++ drop i xs → d ≡ get_or ys i d → h ≡ with_thief (get_or ys i d) →
    set ys i h ≡ map with_thief (take (i + 1) xs) ++ drop (i + 1) xs
hands-more xs ys i d h lt e is made = ap (set ys i) (made ∙ ap with_thief (sym is)) ∙ map_over_more with_thief xs ys i d lt e is

-- What a hand's turn to meet the others makes

thief-made : (made : ℕ) (deck : DeckId) (others : List DeckId) → with_thief (meeting_hand deck made others) ≡ meeting_hand deck (made + 1) others
thief-made made deck others = refl

unmet-thief : (made : ℕ) (decks : List DeckId) → map with_thief (unmet made decks) ≡ unmet (made + 1) decks
unmet-thief made [] = refl
unmet-thief made (d ∷ ds) = ap (λ hs. meeting_hand d (made + 1) [] ∷ hs) (unmet-thief made ds)

met-thief : (made : ℕ) (before decks after : List DeckId) → map with_thief (met made before decks after) ≡ met (made + 1) before decks after
met-thief made before [] after = refl
met-thief made before (d ∷ ds) after = ap (λ hs. meeting_hand d (made + 1) ((ds ++ after) ++ before) ∷ hs) (met-thief made (before ++ d ∷ []) ds after)

unmet-decks : (made : ℕ) (decks : List DeckId) → map thief_of (unmet made decks) ≡ map new_thief decks
unmet-decks made [] = refl
unmet-decks made (d ∷ ds) = ap (λ l. new_thief d ∷ l) (unmet-decks made ds)

met-decks : (made : ℕ) (before decks after : List DeckId) → map thief_of (met made before decks after) ≡ map new_thief decks
met-decks made before [] after = refl
met-decks made before (d ∷ ds) after = ap (λ l. new_thief d ∷ l) (met-decks made (before ++ d ∷ []) ds after)

met-count : (made : ℕ) (before decks after : List DeckId) → length (met made before decks after) ≡ length decks
met-count made before [] after = refl
met-count made before (d ∷ ds) after = ap (λ n. suc n) (met-count made (before ++ d ∷ []) ds after)

-- the next one joins those that have met
met-next : (made : ℕ) (before front : List DeckId) (deck : DeckId) (back : List DeckId) →
    met made before (front ++ deck ∷ []) back ≡ met made before front (deck ∷ back) ++ meeting_hand deck made (back ++ (before ++ front)) ∷ []
met-next made before [] deck back = ap (λ l. meeting_hand deck made (back ++ l) ∷ []) (sym (append-nil before))
met-next made before (d ∷ ds) deck back =
    ap₂ (λ l hs. meeting_hand d made (l ++ before) ∷ hs) (append_assoc ds (deck ∷ []) back)
    (met-next made (before ++ d ∷ []) ds deck back
    ∙ ap (λ l. met made (before ++ d ∷ []) ds (deck ∷ back) ++ meeting_hand deck made (back ++ l) ∷ []) (append_assoc before (d ∷ []) ds))

-- all have met
met-all : (made : ℕ) (before decks : List DeckId) → made ≡ (length before + length decks) - 1 → met made before decks [] ≡ idle_hands before decks
met-all made before [] e = refl
met-all made before (d ∷ ds) e =
    ap₂ (λ h hs. h ∷ hs)
    (ap₂ (λ n l. meeting_hand d n (l ++ before)) (e ∙ omega (arith, length-append ds before)) (append-nil ds))
    (met-all made (before ++ d ∷ []) ds (e ∙ omega (arith, length-append before (d ∷ []))))

-- One hand more has met the others.

pub starts-meeting : (decks : List DeckId) (hands : List HandView) → hands ≡ map new_hand decks → IsMeeting decks 0 hands
starts-meeting decks hands e = record { front = []; back = decks; decks_are = refl; count = refl; are = e ∙ still decks }
  where
    still : (ds : List DeckId) → map new_hand ds ≡ unmet 0 ds
    still [] = refl
    still (d ∷ ds) = ap (λ hs. new_hand d ∷ hs) (still ds)

module _ (own : ℕ) (decks : List DeckId) (hands front rest one back front' back' : List HandView) (d h : HandView) (m : IsMeeting decks own hands) (lt : own < length hands)
    (in-front : front ≡ take own hands) (in-rest : rest ≡ drop own hands) (is-one : one ≡ take 1 rest) (in-back : back ≡ drop 1 rest)
    (front-is : front' ≡ map with_thief front) (hand-is : h ≡ record (get_or one 0 d) { thieves = map thief_of back ++ map thief_of front }) (back-is : back' ≡ map with_thief back) where
  abbrev P : List HandView
  P = met (own - 1) [] m.front m.back

  long : length P ≡ own
  long = met-count (own - 1) [] m.front m.back ∙ m.count

  front-was : front ≡ P
  front-was = in-front ∙ ap (take own) m.are ∙ take_at P (unmet own m.back) own long

  rest-was : rest ≡ unmet own m.back
  rest-was = in-rest ∙ ap (drop own) m.are ∙ drop_at P (unmet own m.back) own long

  -- those before it have one thief more, unless there are none
  made-more : (n : ℕ) (ds : List DeckId) → length ds ≡ n → map with_thief (met (n - 1) [] ds m.back) ≡ met n [] ds m.back
  made-more zero [] e = refl
  made-more zero (x ∷ xs) e = absurd (omega (arith, e))
  made-more (suc n) ds e = met-thief (suc n - 1) [] ds m.back ∙ ap (λ k. met k [] ds m.back) (omega arith)

  from : (b : DeckId) (bs : List DeckId) → m.back ≡ b ∷ bs → IsMeeting decks (own + 1) (front' ++ (set one 0 h ++ back'))
  from b bs e =
      let r : rest ≡ meeting_hand b own [] ∷ unmet own bs = rest-was ∙ ap (unmet own) e in
      let bk : back ≡ unmet own bs = in-back ∙ ap (drop 1) r in
      let on : one ≡ meeting_hand b own [] ∷ [] = is-one ∙ ap (take 1) r in
      let hd : h ≡ meeting_hand b own (bs ++ m.front) =
      hand-is
      ∙ ap₂ (λ (o : List HandView) (l : List (ThiefEnd TaskView)). record (get_or o 0 d) { thieves = l }) on
      (ap₂ (λ (x y : List (ThiefEnd TaskView)). x ++ y) (ap (map thief_of) bk ∙ unmet-decks own bs) (ap (map thief_of) front-was ∙ met-decks (own - 1) [] m.front m.back) ∙ sym (map-append new_thief bs m.front)) in
      let fr : front' ≡ met own [] m.front (b ∷ bs) =
      front-is ∙ ap (map with_thief) front-was ∙ made-more own m.front m.count ∙ ap (met own [] m.front) e in
      let bk' : back' ≡ unmet (own + 1) bs = back-is ∙ ap (map with_thief) bk ∙ unmet-thief own bs in
      record {
        front = m.front ++ b ∷ [];
        back = bs;
        decks_are = m.decks_are ∙ ap (λ l. m.front ++ l) e ∙ sym (append_assoc m.front (b ∷ []) bs);
        count = length-append m.front (b ∷ []) ∙ ap (λ n. n + 1) m.count;
        are =
            ap₂ (λ x y. x ++ y) fr (ap₂ (λ (o : List HandView) y. set o 0 h ++ y) on bk')
            ∙ ap (λ x. met own [] m.front (b ∷ bs) ++ x ∷ unmet (own + 1) bs) hd
            ∙ sym (append_assoc (met own [] m.front (b ∷ bs)) (meeting_hand b own (bs ++ m.front) ∷ []) (unmet (own + 1) bs))
            ∙ ap (λ l. l ++ unmet (own + 1) bs) (sym (met-next own [] m.front b bs))
            ∙ ap (λ k. met k [] (m.front ++ b ∷ []) bs ++ unmet (own + 1) bs) (omega arith);
      }

  pub meets-next : IsMeeting decks (own + 1) (front' ++ (set one 0 h ++ back'))
  meets-next = by_back m.back refl
    where
      by_back : (l : List DeckId) → m.back ≡ l → IsMeeting decks (own + 1) (front' ++ (set one 0 h ++ back'))
      by_back [] e =
          absurd (omega (arith, lt, ap length m.are ∙ length-append P (unmet own m.back) ∙ ap (λ l. length P + length (unmet own l)) e, long))
      by_back (b ∷ bs) e = from b bs e

pub all-exchange_thieves : (own : ℕ) (decks : List DeckId) (hands : List HandView) → IsMeeting decks own hands → length hands ≤ own → hands ≡ idle_hands [] decks
all-exchange_thieves own decks hands m full = by_back m.back refl
  where
    by_back : (l : List DeckId) → m.back ≡ l → hands ≡ idle_hands [] decks
    by_back [] e =
        m.are
        ∙ ap (λ l. met (own - 1) [] m.front l ++ unmet own l) e
        ∙ append-nil (met (own - 1) [] m.front [])
        ∙ met-all (own - 1) [] m.front (omega (arith, m.count))
        ∙ ap (idle_hands []) (sym (m.decks_are ∙ ap (λ l. m.front ++ l) e ∙ append-nil m.front))
    by_back (b ∷ bs) e =
        absurd
        (omega
        (arith, full, ap length m.are ∙ length-append (met (own - 1) [] m.front m.back) (unmet own m.back) ∙ ap (λ l. length (met (own - 1) [] m.front m.back) + length (unmet own l)) e, met-count (own - 1) [] m.front m.back ∙ m.count))

pub are-idle : (workers : ℕ) (new met : List HandView) → AreNew workers new → HaveMet new met → AreIdle workers met
are-idle workers new met (decks, n, are) have = (decks, n, have decks are)

idle-count : (before decks : List DeckId) → length (idle_hands before decks) ≡ length decks
idle-count before [] = refl
idle-count before (d ∷ ds) = ap (λ n. suc n) (idle-count (before ++ d ∷ []) ds)

pub as-many : (workers : ℕ) (hands : List HandView) → AreIdle workers hands → length hands ≡ workers
as-many workers hands (decks, n, are) = ap length are ∙ idle-count [] decks ∙ n

-- The first hand begins

some-are : (workers : ℕ) (hands : List HandView) → AreIdle workers hands → 1 ≤ workers → hands ≡ [] → ⊥
some-are workers hands are few e = omega (arith, few, as-many workers hands are, ap length e)

pub begins : (plan : PlanView) (workers : ℕ) (idle now : List HandView) (d h : HandView) → AreIdle workers idle → now ≡ idle → 1 ≤ workers →
    (root : JoinView AnswerTag) (task : TaskView) → IsNewRoot plan root task → h ≡ record (get_or now 0 d) { current = Some task } → IsNewCrew plan workers root (set now 0 h)
begins plan workers idle now d h are same few root task new is = (task, new, (idle, are, by_hands idle same (some-are workers idle are few)))
  where
    by_hands : (hs : List HandView) → now ≡ hs → (hs ≡ [] → ⊥) → set now 0 h ≡ first_begins task hs
    by_hands [] e some = absurd (some refl)
    by_hands (x ∷ xs) e some = ap₂ (λ (l : List HandView) y. set l 0 y) e (is ∙ ap (λ (l : List HandView). record (get_or l 0 d) { current = Some task }) e)

-- or is dealt the root tasks, when it has none

abbrev HasNone : HandView → Type 0
HasNone h = (h.overflow ≡ []) × (h.deck.pushed ≡ [])

pub first-has-none : (workers : ℕ) (hands : List HandView) (d h : HandView) → AreIdle workers hands → 1 ≤ workers → h ≡ get_or hands 0 d → (h.overflow ≡ []) × (h.deck.pushed ≡ [])
first-has-none workers hands d h (decks, n, are) few is = subst HasNone (sym (is ∙ ap (λ (l : List HandView). get_or l 0 d) are)) (by_decks decks n)
  where
    by_decks : (ds : List DeckId) → length ds ≡ workers → HasNone (get_or (idle_hands [] ds) 0 d)
    by_decks [] m = absurd (omega (arith, few, m))
    by_decks (x ∷ xs) m = (refl, refl)

pub is_dealt : (plans : List PlanView) (workers : ℕ) (tasks : List TaskView) (idle now : List HandView) (d h : HandView) → AreIdle workers idle → now ≡ idle → 1 ≤ workers →
    (roots : List (JoinView AnswerTag)) → AreNewRoots plans roots tasks → IsDealt tasks (get_or now 0 d) h → IsCrewOf plans workers roots (set now 0 h)
is_dealt plans workers tasks idle now d h are same few roots new is = (tasks, new, (idle, are, by_hands idle same (some-are workers idle are few)))
  where
    by_hands : (hs : List HandView) → now ≡ hs → (hs ≡ [] → ⊥) → FirstIsDealt tasks hs (set now 0 h)
    by_hands [] e some = absurd (some refl)
    by_hands (x ∷ xs) e some =
        subst (λ (l : List HandView). FirstIsDealt tasks (x ∷ xs) (set l 0 h)) (sym e)
        (subst (λ (l : List HandView). IsDealt tasks (get_or l 0 d) h) e is, refl)

-- The roots of plans

roots-more : (plans : List PlanView) (roots : List (JoinView AnswerTag)) (tasks : List TaskView) (plan : PlanView) (root : JoinView AnswerTag) (task : TaskView) → AreNewRoots plans roots tasks → IsNewRoot plan root task →
    AreNewRoots (plans ++ plan ∷ []) (roots ++ root ∷ []) (tasks ++ task ∷ [])
roots-more [] [] [] plan root task are new = (new, tt)
roots-more [] [] (t ∷ ts) plan root task are new = absurd are
roots-more [] (r ∷ rs) tasks plan root task are new = absurd are
roots-more (p ∷ ps) [] tasks plan root task are new = absurd are
roots-more (p ∷ ps) (r ∷ rs) [] plan root task are new = absurd are
roots-more (p ∷ ps) (r ∷ rs) (t ∷ ts) plan root task are new = (are.0, roots-more ps rs ts plan root task are.1 new)

pub one-more-root : (plans next : List PlanView) (roots roots' : List (JoinView AnswerTag)) (tasks tasks' : List TaskView) (plan : PlanView) (root : JoinView AnswerTag) (task : TaskView) → AreNewRoots plans roots tasks → IsNewRoot plan root task →
    next ≡ plans ++ plan ∷ [] → roots' ≡ roots ++ root ∷ [] → tasks' ≡ tasks ++ task ∷ [] → AreNewRoots next roots' tasks'
one-more-root plans next roots roots' tasks tasks' plan root task are new n r t = rw (n, r, t) (roots-more plans roots tasks plan root task are new)

-- The one child of a root's join is main, whose task has a give of that join.
pub begins_root : (plan same : PlanView) (o : Origin) (before after : JoinView AnswerTag) (asked : AnswerTag) (give : GiveView AnswerTag) (task : TaskView) → same ≡ plan → o ≡ main_origin same → asked ≡ tag same o →
    before.children ≡ joined_with [] [] true [] → is_none before.name ≡ false → give ≡ give_of asked before.name →
    after.children ≡ joined_with (before.children.tags ++ asked ∷ []) (before.children.taken ++ false ∷ []) false before.children.loads → after.name ≡ before.name →
    task ≡ fresh same o task.joins → AreJoinNames give.join task.joins → IsNewRoot plan after task
begins_root plan same o before after asked give task of main named new whole is began kept begun joins =
    let origin : o ≡ main_origin plan = main ∙ ap main_origin of in
    let key : asked ≡ tag plan (main_origin plan) = named ∙ ap (λ (p : PlanView). tag p o) of ∙ ap (tag plan) origin in
    record {
      child = began ∙ ap (λ (j : Joined AnswerTag). joined_with (j.tags ++ asked ∷ []) (j.taken ++ false ∷ []) false j.loads) new
          ∙ ap (λ (t : AnswerTag). joined_with (t ∷ []) (false ∷ []) false []) key;
      named = ap is_none kept ∙ whole;
      begun = begun ∙ ap (λ (p : PlanView). fresh p o task.joins) of ∙ ap (λ (r : Origin). fresh plan r task.joins) origin;
      joins = subst (λ (name : Option ℕ). AreJoinNames name task.joins) (ap (λ (g : GiveView AnswerTag). g.join) is ∙ sym kept) joins;
    }

pub tag_given : (give : GiveView AnswerTag) (asked : AnswerTag) (name : Option ℕ) → give ≡ give_of asked name → give.tag ≡ asked
tag_given give asked name is = ap (λ (g : GiveView AnswerTag). g.tag) is
