use Rattle.std.proofs.Common.{ℕ, ◌+◌, List, length, get_or, ap, ◌∙◌, arith}
use Rattle.core_segment.specs.Chunks.{with_chunk}
use Rattle.core_segment.specs.Segment.{chunk_at}
use Rattle.leaf_lambda.proofs.StoreLaws.{run-all, run-chunk, run-words, run-done, run-rest}
use Rattle.leaf_lambda.proofs.RoomLaws.{Room-trans}
use Rattle.std.proofs.lemmas.List.{get_or_default}
use Rattle.std.proofs.Math.ListN.{length-set}
use Rattle.leaf_lambda.proofs.storing.write_run.Goals as goal

pub returns-clause-chunk : goal.returns-clause-chunk
returns-clause-chunk c =
    c.loop-k.invariant.chunk
    ∙ ap (λ (ws : List ℕ). with_chunk (chunk_at c.args.g.now) c.args.at.place (record { owner = (chunk_at c.args.g.now c.args.at.place).owner; words = ws }))
    (run-all (chunk_at c.args.g.now c.args.at.place).words (chunk_at c.loop-k.g c.args.at.place).words c.args.i c.args.run.now c.requires.within c.loop-k.invariant.long
    (λ j low. c.loop-k.invariant.done j (let end = c.loop-k-test.false in let most = c.loop-k.auto.k-end in omega arith)) (λ j far. c.loop-k.invariant.rest j (let end = c.loop-k-test.false in let most = c.loop-k.auto.k-end in omega arith)))

pub loop-k-preserved : goal.loop-k-preserved
loop-k-preserved c =
    let f = chunk_at c.args.g.now in
    let g = chunk_at c.loop-k.g in
    let h = chunk_at c.set_word_from.new.self in
    let p = c.args.at.place in
    let w = get_or c.args.run.now c.loop-k.k 0 in
    let words = run-words g h p (c.args.i + c.loop-k.k) w c.set_word_from.ensures.chunks in
    let test = c.loop-k-test.true in
    record {
      start = c.set_word_from.ensures.start;
      chunk = run-chunk f g h p (c.args.i + c.loop-k.k) w c.loop-k.invariant.chunk c.set_word_from.ensures.chunks;
      long = ap (λ (l : List ℕ). length l) words ∙ length-set (g p).words (c.args.i + c.loop-k.k) w ∙ c.loop-k.invariant.long;
      room = Room-trans c.args.g.now c.loop-k.g c.set_word_from.new.self c.loop-k.invariant.room c.set_word_from.ensures.room;
      done = run-done (f p).words (g p).words (h p).words c.args.run.now c.args.i c.loop-k.k w c.requires.within c.loop-k.invariant.long (omega arith) (get_or_default c.args.run.now c.loop-k.k 0 w (omega arith)) words c.loop-k.invariant.done;
      rest = run-rest (f p).words (g p).words (h p).words c.args.i c.loop-k.k w words c.loop-k.invariant.rest;
    }
