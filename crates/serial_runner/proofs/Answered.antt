-- The answers of origins, one after another.
use Rattle.std.proofs.Common.{◌≡◌, ◌<◌, ℕ, zero, suc, ◌+◌, List, [], ◌∷◌, ◌++◌, Some, length, take, refl, sym, ap, ◌∙◌, add-one}
use Rattle.std.specs.Prelude.{slice_get, slice_index_or}
use Rattle.std.proofs.lemmas.Option.{slice_get_read}
use Rattle.serial_meaning.specs.Answer.{AnswerView}
use Rattle.serial_meaning.specs.Plan.{PlanView}
use Rattle.serial_meaning.specs.declared.origin.Origin.{Origin}
use Rattle.strand_machine.specs.Links.{tag, tags}
use Rattle.strand_machine.specs.Stops.{answer_tags}
use Rattle.serial_runner.proofs.Advancing.{answer-tags-append}

tags-more : (plan : PlanView) (os : List Origin) (i : ℕ) (o : Origin) → slice_get os i ≡ Some o → tags plan (take (suc i) os) ≡ tags plan (take i os) ++ tag plan o ∷ []
tags-more plan [] i o h = absurd (cc)
tags-more plan (p ∷ os) zero o h = let e : p ≡ o = cc in ap (λ (q : Origin). tag plan q ∷ []) e
tags-more plan (p ∷ os) (suc i) o h = ap (λ l. tag plan p ∷ l) (tags-more plan os i o h)

-- one answer more
pub tags_next : (plan : PlanView) (os : List Origin) (xs : List AnswerView) (i : ℕ) (o : Origin) (a : AnswerView) →
    answer_tags xs ≡ tags plan (take i os) → i < length os → o ≡ slice_index_or os i o → a.plan ≡ plan → a.origin ≡ o → answer_tags (xs ++ a ∷ []) ≡ tags plan (take (i + 1) os)
tags_next plan os xs i o a before h is same origin =
    answer-tags-append xs (a ∷ []) ∙ ap (λ l. l ++ tag a.plan a.origin ∷ []) before ∙ ap (λ (p : PlanView). tags plan (take i os) ++ tag p a.origin ∷ []) same
    ∙ ap (λ (d : Origin). tags plan (take i os) ++ tag plan d ∷ []) origin ∙ sym (tags-more plan os i o (slice_get_read os (length os) i o refl h is))
    ∙ ap (λ (k : ℕ). tags plan (take k os)) (sym (add-one i))
