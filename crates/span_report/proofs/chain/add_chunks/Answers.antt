use Rattle.std.proofs.Common.{◌≡◌, ℕ, suc, ◌+◌, ◌<◌, List, ◌∷◌, length, drop, get_or, ap, sym, ◌∙◌, drop-cons, arith}
use Rattle.serial_meaning.specs.declared.event.Event.{Event}
use Rattle.serial_meaning.specs.Chunks.{joined}
use Rattle.span_report.specs.Walks.{OpenInstances, open_instances, walked_all}
use Rattle.span_report.proofs.LongestChains.Stacks.{walked_append}
use Rattle.span_report.proofs.chain.add_chunks.Goals as goal

-- past a chunk
chunks_next : (w v : OpenInstances) (chunks : List (List Event)) (i : ℕ) (x : List Event) → i < length chunks → x ≡ get_or chunks i x → v ≡ walked_all w x →
    walked_all w (joined (drop i chunks)) ≡ walked_all v (joined (drop (i + 1) chunks))
chunks_next w v chunks i x l is went =
    let s : suc i ≡ i + 1 = omega arith in
    let e : drop i chunks ≡ x ∷ drop (i + 1) chunks = drop-cons chunks i x l ∙ ap (λ (y : List Event). y ∷ drop (suc i) chunks) (sym is) ∙ ap (λ (n : ℕ). x ∷ drop n chunks) s in
    ap (λ (r : List (List Event)). walked_all w (joined r)) e ∙ walked_append w x (joined (drop (i + 1) chunks)) ∙ ap (λ (u : OpenInstances). walked_all u (joined (drop (i + 1) chunks))) (sym went)

pub loop-chunk-preserved : goal.loop-chunk-preserved
loop-chunk-preserved c =
    c.loop-chunk.invariant
    ∙ chunks_next (open_instances c.loop-chunk.walk) (open_instances c.add_chunk.new.walk) c.args.chunks.now c.loop-chunk.chunk-index c.chunk-item.result c.loop-chunk-test.true c.chunk-item.is
    (c.in_ok-add_chunk.ensures ∙ ap (λ (es : List Event). walked_all (open_instances c.loop-chunk.walk) es) c.events.ensures)
