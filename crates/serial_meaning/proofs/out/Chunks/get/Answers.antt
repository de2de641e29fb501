use Rattle.std.proofs.Common.{rules, ◌≡◌, slice_get}
use Rattle.serial_meaning.specs.Chunks.{chunks_events}
use Rattle.serial_meaning.proofs.ChunkLemmas.{found_here, found_later, found_last}
use Rattle.serial_meaning.proofs.out.Chunks.get.Goals as goal

pub returns-then-left-count : goal.returns-then-left-count
returns-then-left-count c =
    let here : slice_get (chunks_events c.args.self.now) c.args.i ≡ slice_get c.chunk-item.result c.loop-chunk.left = found_here _ c.deref-chunk-items.result.now c.loop-chunk.chunk-index c.loop-chunk.left c.chunk-item.result c.args.self.now.last.items c.loop-chunk-test.true c.chunk-item.is c.loop-chunk.invariant (search rules) in
    rw here (search rules)

pub loop-chunk-preserved : goal.loop-chunk-preserved
loop-chunk-preserved c =
    rw c.events-events.ensures (found_later _ c.deref-chunk-items.result.now c.loop-chunk.chunk-index c.loop-chunk.left c.chunk-item.result c.args.self.now.last.items c.loop-chunk-test.true c.chunk-item.is c.loop-chunk.invariant (search rules))

pub returns : goal.returns
returns c =
    let last : slice_get (chunks_events c.args.self.now) c.args.i ≡ slice_get c.args.self.now.last.items c.loop-chunk.left = found_last _ c.deref-chunk-items.result.now c.loop-chunk.chunk-index c.loop-chunk.left c.args.self.now.last.items c.loop-chunk-test.false c.loop-chunk.invariant in
    rw last (search rules)
