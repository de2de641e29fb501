-- Tasks that are put on a deck, or into the private list after it.
use Rattle.std.proofs.Common.{◌≡◌, ◌≤◌, ◌⊎◌, inl, inr, List, [], ◌∷◌, ◌++◌, length, reverse, refl, sym, ap, ap₂, ◌∙◌, subst, append_assoc}
use Rattle.std.proofs.lemmas.List.{reverse-append}
use Rattle.steal_deck.specs.Ends.{OwnerEnd}
use Rattle.strand_machine.specs.Tasks.{TaskView}
use Rattle.parallel_runner.specs.Hands.{IsPut}

module _ (task : TaskView) (overflow overflow' : List TaskView) (deck deck' : OwnerEnd TaskView) where
  put_last : IsPut task overflow deck overflow' deck' → deck'.pushed ++ overflow' ≡ (deck.pushed ++ overflow) ++ task ∷ []
  put_last (inl (none, still, pushes)) =
      ap₂ (λ (xs ys : List TaskView). xs ++ ys) (ap (λ (d : OwnerEnd TaskView). d.pushed) pushes.change) still
      ∙ append_assoc deck.pushed (task ∷ []) []
      ∙ sym (ap (λ (ys : List TaskView). (deck.pushed ++ ys) ++ task ∷ []) none ∙ append_assoc deck.pushed [] (task ∷ []))
  put_last (inr (full, more, same)) = ap₂ (λ (xs ys : List TaskView). xs ++ ys) (ap (λ (d : OwnerEnd TaskView). d.pushed) same) more ∙ sym (append_assoc deck.pushed overflow (task ∷ []))

  -- the tasks that are left, of which this was the last
  pub all-but-one : (left left' all : List TaskView) → left ≡ left' ++ task ∷ [] → IsPut task overflow deck overflow' deck' → (deck.pushed ++ overflow) ++ reverse left ≡ all →
      (deck'.pushed ++ overflow') ++ reverse left' ≡ all
  all-but-one left left' all last put was =
      ap (λ (xs : List TaskView). xs ++ reverse left') (put_last put)
      ∙ append_assoc (deck.pushed ++ overflow) (task ∷ []) (reverse left')
      ∙ ap (λ (xs : List TaskView). (deck.pushed ++ overflow) ++ xs) (sym (ap reverse last ∙ reverse-append left' (task ∷ [])))
      ∙ was

  full-or-none : overflow ≡ [] ⊎ 64 ≤ length deck.pushed → (overflow ≡ [] → 64 ≤ length deck.pushed) → 64 ≤ length deck.pushed
  full-or-none (inl e) f = f e
  full-or-none (inr n) f = n

  pub refused-late : IsPut task overflow deck overflow' deck' → (overflow ≡ []) ⊎ (64 ≤ length deck.pushed) → (overflow' ≡ []) ⊎ (64 ≤ length deck'.pushed)
  refused-late (inl (none, still, pushes)) was = inl still
  refused-late (inr (full, more, same)) was = inr (subst (λ (d : OwnerEnd TaskView). 64 ≤ length d.pushed) (sym same) (full-or-none was full))

  pub pushed-alone : (old : OwnerEnd TaskView) → IsPut task overflow deck overflow' deck' → deck ≡ record old { pushed = deck.pushed } → deck' ≡ record old { pushed = deck'.pushed }
  pushed-alone old (inl (none, still, pushes)) was =
      pushes.change
      ∙ ap (λ (d : OwnerEnd TaskView). record d { pushed = deck.pushed ++ task ∷ [] }) was
      ∙ ap (λ (xs : List TaskView). record old { pushed = xs }) (sym (ap (λ (d : OwnerEnd TaskView). d.pushed) pushes.change))
  pushed-alone old (inr (full, more, same)) was = same ∙ was ∙ ap (λ (xs : List TaskView). record old { pushed = xs }) (sym (ap (λ (d : OwnerEnd TaskView). d.pushed) same))
