use Rattle.std.proofs.Common.{refl, slice_index}
use Rattle.st80_source.proofs.ChunkLaws.{more_read, none_read}
use Rattle.st80_source.proofs.EndLaws.{no_chunk}
use Rattle.st80_source.proofs.chunks.chunk_at.Goals as goal

pub each-init : goal.each-init
each-init c = none_read _ _ _ _ c.new-bytes.ensures.items c.new-places.ensures.items

pub each-preserved : goal.each-preserved
each-preserved c = more_read (slice_index c.args.text.now) _ _ _ _ _ _ _ _ _ c.each.invariant.0 c.in-Some.ensures.some c.in_ok-push.ensures.items c.in_ok-push-2.ensures.items c.each.invariant.1 refl

pub returns-clause-none : goal.returns-clause-none
returns-clause-none c = no_chunk c.args.text.now _ c.args.from c.each.at c.each-test.false c.each.invariant.0
