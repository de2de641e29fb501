-- Tags of children.
use Rattle.std.proofs.Common.{◌≡◌, ℕ, zero, suc, List, [], ◌∷◌, ◌++◌, Option, Some, length, refl, sym, ap, ◌∙◌}
use Rattle.std.specs.Prelude.{slice_get}
use Rattle.meet_block.specs.Joined.{Joined, JoinView, LookAnswers}
use Rattle.meet_block.specs.declared.join.Look.{Look}
use Rattle.meet_block.specs.declared.join.Look.TheVariants.{Ready, NotYet}
use Rattle.serial_meaning.specs.Answer.{AnswerTag}
use Rattle.serial_meaning.specs.Plan.{PlanView}
use Rattle.serial_meaning.specs.declared.origin.Origin.{Origin}
use Rattle.strand_family.specs.Links.{LinksView, LooksAtChildren, tag, tags, origins}

pub origins_append : (ts us : List AnswerTag) → origins (ts ++ us) ≡ origins ts ++ origins us
origins_append [] us = refl
origins_append (t ∷ ts) us = ap (λ l. t.origin ∷ l) (origins_append ts us)

pub tags_append : (plan : PlanView) (os more : List Origin) → tags plan (os ++ more) ≡ tags plan os ++ tags plan more
tags_append plan [] more = refl
tags_append plan (o ∷ os) more = ap (λ l. tag plan o ∷ l) (tags_append plan os more)

pub length_origins : (ts : List AnswerTag) → length (origins ts) ≡ length ts
length_origins [] = refl
length_origins (t ∷ ts) = ap suc (length_origins ts)

-- one more tag of the plan
pub give_keeps : (plan : PlanView) (ts : List AnswerTag) (t : AnswerTag) → ts ≡ tags plan (origins ts) → t.plan ≡ plan → ts ++ t ∷ [] ≡ tags plan (origins (ts ++ t ∷ []))
give_keeps plan ts t h e =
    ap (λ (l : List AnswerTag). l ++ t ∷ []) h ∙ ap (λ (p : PlanView). tags plan (origins ts) ++ tag p t.origin ∷ []) e
    ∙ sym (tags_append plan (origins ts) (t.origin ∷ [])) ∙ ap (tags plan) (sym (origins_append ts (t ∷ [])))

pub origin_at : (ts : List AnswerTag) (i : ℕ) (t : AnswerTag) → slice_get ts i ≡ Some t → slice_get (origins ts) i ≡ Some t.origin
origin_at [] i t h = absurd (cc)
origin_at (u ∷ ts) zero t h = let e : u ≡ t = cc in ap (λ (w : AnswerTag). Some w.origin) e
origin_at (u ∷ ts) (suc i) t h = origin_at ts i t h

plan_of : (plan : PlanView) (os : List Origin) (i : ℕ) (t : AnswerTag) → slice_get (tags plan os) i ≡ Some t → t.plan ≡ plan
plan_of plan [] i t h = absurd (cc)
plan_of plan (o ∷ os) zero t h = let e : tag plan o ≡ t = cc in ap (λ (w : AnswerTag). w.plan) (sym e)
plan_of plan (o ∷ os) (suc i) t h = plan_of plan os i t h

pub plan_at : (plan : PlanView) (ts : List AnswerTag) (i : ℕ) (t : AnswerTag) → ts ≡ tags plan (origins ts) → slice_get ts i ≡ Some t → t.plan ≡ plan
plan_at plan ts i t h g = plan_of plan (origins ts) i t (ap (λ (l : List AnswerTag). slice_get l i) (sym h) ∙ g)

-- A look

abbrev seen : PlanView → Origin → Option ℕ → JoinView AnswerTag → LinksView
seen plan o give j = record {
  plan = plan;
  origin = o;
  children = origins j.children.tags;
  taken = j.children.taken;
  ready = j.children.ready;
  loads = j.children.loads;
  joins = record { parents = give; own = j.name };
}

pub looked : (plan : PlanView) (o : Origin) (give : Option ℕ) (before after : JoinView AnswerTag) (result : Look) → LookAnswers before.children after.children result → after.name ≡ before.name →
    LooksAtChildren (seen plan o give before) (seen plan o give after) result
looked plan o give before after Ready h e = ((h.0, ap (λ (j : Joined AnswerTag). j.loads) h.1), rw (h.1, e) refl)
looked plan o give before after (NotYet n) h e = ((h.2.0, n, h.0, ap (λ (j : Joined AnswerTag). j.loads) h.2.1), rw (h.2.1, e) refl)
