use Rattle.std.proofs.Common.{ℕ, List, ◌≡◌, ◌≢◌, length, sym, ap, ◌∙◌, subst, arith, refl, ⊎_elim}
use Rattle.std.proofs.lemmas.Bool.{cases_eq}
use Rattle.std.proofs.Math.ListN.{length-set}
use Rattle.std.specs.List.{slice_get, slice_set}
use Rattle.object_record.specs.Buffer.{raw_of}
use Rattle.core_segment.specs.Chunks.{Chunk, with_chunk}
use Rattle.core_view.proofs.Core.{put-same}
use Rattle.core_segment.specs.Segment.{chunk_at}
use Rattle.leaf_lambda.specs.Records.{unresolved}
use Rattle.leaf_lambda.proofs.RoomLaws.{Room-refl, Room-trans}
use Rattle.leaf_lambda.proofs.FillLaws.{fill-chunk, written-words, get-set, get-set-other, all-same}
use Rattle.leaf_lambda.proofs.bodies.fill.Goals as goal

pub loop-k-init : goal.loop-k-init
loop-k-init c = record {
  chunk = sym (put-same (chunk_at c.args.g.now) c.args.at.place (record { owner = (chunk_at c.args.g.now c.args.at.place).owner; words = (chunk_at c.args.g.now c.args.at.place).words }) refl);
  room = Room-refl c.args.g.now;
  long = c.requires.long;
  done = λ k low. absurd (omega arith);
}

pub body_word-w-requires-clause-within : goal.body_word-w-requires-clause-within
body_word-w-requires-clause-within c = omega (arith, c.requires.words)

pub set_word-requires : goal.set_word-requires
set_word-requires c = omega (arith, c.loop-k.invariant.long)

pub loop-k-preserved : goal.loop-k-preserved
loop-k-preserved c =
    let w = c.body_word-w.result in
    let words : (chunk_at c.set_word.new.self c.args.at.place).words ≡ slice_set (chunk_at c.loop-k.g c.args.at.place).words c.loop-k.k w = ap (λ (f : ℕ → Chunk). (f c.args.at.place).words) c.set_word.ensures.chunks ∙ written-words (chunk_at c.loop-k.g) c.args.at.place c.loop-k.k w in
    record {
      chunk = fill-chunk (chunk_at c.args.g.now) (chunk_at c.loop-k.g) (chunk_at c.set_word.new.self) c.args.at.place c.loop-k.k w c.loop-k.invariant.chunk c.set_word.ensures.chunks;
      room = Room-trans c.args.g.now c.loop-k.g c.set_word.new.self c.loop-k.invariant.room c.set_word.ensures.room;
      long = ap length words ∙ length-set (chunk_at c.loop-k.g c.args.at.place).words c.loop-k.k w ∙ c.loop-k.invariant.long;
      done = λ j low. ap (λ (ws : List ℕ). slice_get ws j) words ∙ ⊎_elim
          (λ (h : j ≡ c.loop-k.k). subst (λ (z : ℕ). slice_get (slice_set (chunk_at c.loop-k.g c.args.at.place).words c.loop-k.k w) z ≡ slice_get (unresolved (raw_of c.args.buf.now).body) z) (sym h)
          (get-set (chunk_at c.loop-k.g c.args.at.place).words c.loop-k.k w (omega (arith, c.loop-k.invariant.long)) ∙ sym c.body_word-w.ensures))
          (λ (h : j ≢ c.loop-k.k). get-set-other (chunk_at c.loop-k.g c.args.at.place).words c.loop-k.k w j h ∙ c.loop-k.invariant.done j (omega arith)) (cases_eq j c.loop-k.k);
    }

pub returns-clause-chunk : goal.returns-clause-chunk
returns-clause-chunk c =
    c.loop-k.invariant.chunk
    ∙ ap (λ (ws : List ℕ). with_chunk (chunk_at c.args.g.now) c.args.at.place (record { owner = (chunk_at c.args.g.now c.args.at.place).owner; words = ws }))
    (all-same (chunk_at c.loop-k.g c.args.at.place).words (unresolved (raw_of c.args.buf.now).body) (c.loop-k.invariant.long ∙ c.requires.words) (λ k low. c.loop-k.invariant.done k (omega (arith, c.loop-k.invariant.long))))
