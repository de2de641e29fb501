-- What a look made of a hand, by what became of the task that was stalled.
use Rattle.std.proofs.Common.{◌≡◌, List, [], ◌∷◌, ◌++◌, Some, None, sym, ap, ◌∙◌, subst}
use Rattle.strand_machine.specs.Tasks.{TaskView}
use Rattle.parallel_runner.specs.Hands.{HandView, IsTurnedOver, ResumesFirst, LooksAt, Looks, LooksNewest, LooksOldest}
use Rattle.parallel_runner.specs.declared.hand.Looked.{Looked}
use Rattle.parallel_runner.specs.declared.hand.Looked.TheVariants as looked

-- the middle hand lacks the task alone
abbrev ChangesStalledAlone : HandView → HandView → Type 0
ChangesStalledAlone old mid = mid ≡ record old { stalled = mid.stalled }

with_stalled : (old mid new : HandView) (stalled : List TaskView) → ChangesStalledAlone old mid → new ≡ record mid { stalled = stalled } → new ≡ record old { stalled = new.stalled }
with_stalled old mid new stalled lacks is =
    is ∙ ap (λ (h : HandView). record h { stalled = stalled }) lacks ∙ ap (λ (l : List TaskView). record old { stalled = l }) (sym (ap (λ (h : HandView). h.stalled) is))

with_current : (old mid new : HandView) (t : TaskView) → ChangesStalledAlone old mid → new ≡ record mid { current = Some t } →
    new ≡ record old { current = Some t; stalled = new.stalled }
with_current old mid new t lacks is =
    is ∙ ap (λ (h : HandView). record h { current = Some t }) lacks
    ∙ ap (λ (l : List TaskView). record old { current = Some t; stalled = l }) (sym (ap (λ (h : HandView). h.stalled) is))

pub looks : (old mid : HandView) (t : TaskView) (found : Looked) (new : HandView) → old.stalled ≡ t ∷ mid.stalled → ChangesStalledAlone old mid → LooksAt t mid found new →
    Looks old found new
looks old mid t looked.Nothing new front lacks h = absurd h
looks old mid t looked.Waits new front lacks h = (
  subst (λ (l : List TaskView). IsTurnedOver l new.stalled) (sym front) (h.0, h.1, ap (λ (x : HandView). x.stalled) h.2),
  with_stalled old mid new _ lacks h.2,
)
looks old mid t looked.Resumes new front lacks h = (
  h.0,
  subst (λ (l : List TaskView). ResumesFirst l h.0 new.stalled) (sym front) (h.1, ap (λ (x : HandView). x.stalled) h.2),
  with_current old mid new h.0 lacks h.2,
)

newest_waits : (old mid : HandView) (t : TaskView) (new : HandView) → old.current ≡ None → old.stalled ≡ mid.stalled ++ t ∷ [] → ChangesStalledAlone old mid →
    LooksAt t mid looked.Waits new → LooksNewest old looked.Waits new
newest_waits old mid t new none last lacks h =
    (none, (mid.stalled, t, h.0, last, h.1, ap (λ (x : HandView). x.stalled) h.2), with_stalled old mid new _ lacks h.2)

newest_goes : (old mid : HandView) (t : TaskView) (new : HandView) → old.current ≡ None → old.stalled ≡ mid.stalled ++ t ∷ [] → ChangesStalledAlone old mid →
    LooksAt t mid looked.Resumes new → LooksNewest old looked.Resumes new
newest_goes old mid t new none last lacks h = (
  h.0,
  none,
  (t, last ∙ ap (λ (l : List TaskView). l ++ t ∷ []) (sym (ap (λ (x : HandView). x.stalled) h.2)), h.1),
  with_current old mid new h.0 lacks h.2,
)

pub newest_looks : (old mid : HandView) (t : TaskView) (found : Looked) (new : HandView) → old.current ≡ None → old.stalled ≡ mid.stalled ++ t ∷ [] → ChangesStalledAlone old mid →
    LooksAt t mid found new → LooksNewest old found new
newest_looks old mid t looked.Nothing new none last lacks h = absurd h
newest_looks old mid t looked.Waits new none last lacks h = newest_waits old mid t new none last lacks h
newest_looks old mid t looked.Resumes new none last lacks h = newest_goes old mid t new none last lacks h

pub oldest_looks : (old : HandView) (found : Looked) (new : HandView) → old.current ≡ None → Looks old found new → LooksOldest old found new
oldest_looks old looked.Nothing new none h = (h.1, λ _. h.0)
oldest_looks old looked.Waits new none h = (none, h.0, h.1)
oldest_looks old looked.Resumes new none (t, first, h) = (t, none, first, h)
