use Rattle.std.proofs.Common.{◌≡◌, ℕ, suc, ◌+◌, ◌-◌, ◌≤◌, [], ◌∷◌, ◌++◌, length, drop, refl, sym, ap, ◌∙◌, subst, arith}
use Rattle.std.proofs.Math.ListN.{length-set}
use Rattle.std.specs.Prelude.{slice_get}
use Rattle.strand_machine.specs.Links.{LinksView, AwaitsCount, tags}
use Rattle.strand_machine.specs.Stops.{answer_tags}
use Rattle.strand_machine.proofs.TakenAnswers.Answering.{one-more, all-of-them, links-kept, first-there, first-taken, taken-length}
use Rattle.strand_machine.proofs.resume.take_answers.Goals as goal

pub overflow_sub-first : goal.overflow_sub-first
overflow_sub-first g c = omega (arith, c.requires.last.within, c.count.ensures)

pub loop-i-init : goal.loop-i-init
loop-i-init g c =
    let e : c.args.awaited ≡ c.args.awaited - 0 = omega arith in
    record { tags = ap answer_tags (c.room.view_is ∙ c.requires.room); links = refl; last = subst (AwaitsCount c.args.links.now) e c.requires.last }

pub take-requires-clause-ready : goal.take-requires-clause-ready
take-requires-clause-ready g c = ap (λ (f : LinksView). f.ready) c.loop-i.invariant.links ∙ c.requires.ready

pub take-requires-clause-left : goal.take-requires-clause-left
take-requires-clause-left g c =
    let same : length c.loop-i.links.children ≡ length c.args.links.now.children = ap (λ (f : LinksView). length f.children) c.loop-i.invariant.links in
    let within : c.args.awaited ≤ length c.args.links.now.children = c.requires.last.within in
    first-there c.loop-i.links (c.count.result - c.args.awaited + c.loop-i.i) (c.args.awaited - c.loop-i.i) c.loop-i.invariant.last (omega (arith, c.count.ensures)) (omega arith)

pub returns-in_err-push-clause-links : goal.returns-in_err-push-clause-links
returns-in_err-push-clause-links g c = links-kept c.args.links.now c.loop-i.links c.take.new.self _ c.loop-i.invariant.links c.take.ensures.taken

pub returns-in_err-push-clause-length : goal.returns-in_err-push-clause-length
returns-in_err-push-clause-length g c =
    ap (λ (f : LinksView). length f.taken) c.take.ensures.taken ∙ length-set _ _ _ ∙ taken-length c.loop-i.links _ c.loop-i.invariant.last
    ∙ ap (λ (f : LinksView). length f.children) c.loop-i.invariant.links ∙ sym (taken-length c.args.links.now _ c.requires.last)

pub loop-i-preserved : goal.loop-i-preserved
loop-i-preserved g c =
    let was = c.loop-i.invariant in
    let first : ℕ = c.count.result - c.args.awaited in
    let left : ℕ = c.args.awaited - (c.loop-i.i + 1) in
    let same : length c.loop-i.links.children ≡ length c.args.links.now.children = ap (λ (f : LinksView). length f.children) was.links in
    let within : c.args.awaited ≤ length c.args.links.now.children = c.requires.last.within in
    let one : c.args.awaited - c.loop-i.i ≡ suc left = omega arith in
    record {
      tags = ap answer_tags (c.in_ok-push.ensures.items ∙ ap (λ a. c.loop-i.answers.items ++ a ∷ []) c.value_of.ensures.value)
          ∙ one-more c.args.links.now.plan c.args.links.now.children c.loop-i.answers.items c.take.result first (first + c.loop-i.i) c.loop-i.i was.tags refl
          (c.take.ensures.plan ∙ ap (λ (f : LinksView). f.plan) was.links)
          (ap (λ (f : LinksView). slice_get f.children (first + c.loop-i.i)) (sym was.links) ∙ c.take.ensures.origin);
      links = links-kept c.args.links.now c.loop-i.links c.take.new.self _ was.links c.take.ensures.taken;
      last = first-taken c.loop-i.links c.take.new.self (first + c.loop-i.i) left (subst (AwaitsCount c.loop-i.links) one was.last) (omega (arith, c.count.ensures)) c.take.ensures.taken;
    }

pub returns-clause-tags : goal.returns-clause-tags
returns-clause-tags g c =
    let within : c.args.awaited ≤ length c.args.links.now.children = c.requires.last.within in
    let count : c.count.result ≡ length c.args.links.now.children = c.count.ensures in
    let end : c.loop-i.i ≡ c.args.awaited = omega arith in
    c.loop-i.invariant.tags ∙ ap (tags c.args.links.now.plan) (all-of-them c.args.links.now.children (c.count.result - c.args.awaited) c.loop-i.i (omega arith))
    ∙ ap (λ (n : ℕ). tags c.args.links.now.plan (drop (n - c.args.awaited) c.args.links.now.children)) count

pub returns-clause-length : goal.returns-clause-length
returns-clause-length g c =
    taken-length c.loop-i.links _ c.loop-i.invariant.last ∙ ap (λ (f : LinksView). length f.children) c.loop-i.invariant.links ∙ sym (taken-length c.args.links.now _ c.requires.last)
