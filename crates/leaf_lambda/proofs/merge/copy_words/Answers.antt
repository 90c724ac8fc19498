use Rattle.std.proofs.Common.{ℕ, List, ◌≡◌, ◌≢◌, length, sym, ◌∙◌, ap, subst, arith, ⊎_elim}
use Rattle.std.proofs.lemmas.Bool.{cases_eq}
use Rattle.std.proofs.Math.ListN.{length-set}
use Rattle.std.specs.List.{slice_get, slice_set}
use Rattle.object_record.specs.Raw.{RawRecord, RawBody, raw_words, with_raw}
use Rattle.object_record.specs.Buffer.{raw_of}
use Rattle.core_segment.specs.Segment.{chunk_at}
use Rattle.leaf_lambda.specs.Records.{with_words}
use Rattle.leaf_lambda.proofs.FillLaws.{get-set, get-set-other, all-same}
use Rattle.leaf_lambda.proofs.MergeLaws.{words-set, words-put, words-again, words-same}
use Rattle.leaf_lambda.proofs.merge.copy_words.Goals as goal

pub loop-i-init : goal.loop-i-init
loop-i-init c = record {
  record_there = c.requires.record;
  part = ap (λ (b : RawBody). with_raw (raw_of c.args.buf.now) b) (words-same (raw_of c.args.buf.now).body);
  long = sym c.requires.len;
  done = λ k low. absurd (omega arith);
}

pub word-w-requires : goal.word-w-requires
word-w-requires c = omega (arith, c.requires.words)

pub set_word-requires-clause-record : goal.set_word-requires-clause-record
set_word-requires-clause-record c = c.loop-i.invariant.record_there

pub set_word-requires-clause-word : goal.set_word-requires-clause-word
set_word-requires-clause-word c = omega (arith, c.loop-i.invariant.long)

pub loop-i-preserved : goal.loop-i-preserved
loop-i-preserved c =
    let first = raw_of c.args.buf.now in
    let now = raw_of c.loop-i.buf in
    let next = raw_of c.set_word.new.self in
    let was = raw_words now.body in
    let set_ : raw_words next.body ≡ slice_set was c.loop-i.i c.word-w.result = ap (λ (r : RawRecord). raw_words r.body) c.set_word.ensures.set ∙ words-set now.body c.loop-i.i c.word-w.result in
    let put_ : next ≡ with_raw now (with_words now.body (raw_words next.body)) =
    c.set_word.ensures.set ∙ ap (λ (b : RawBody). with_raw now b) (words-put now.body c.loop-i.i c.word-w.result) ∙ ap (λ (r : RawRecord). with_raw now (with_words now.body (raw_words r.body))) (sym c.set_word.ensures.set) in
    record {
      record_there = c.set_word.ensures.record;
      part = put_ ∙ ap (λ (x : RawRecord). with_raw x (with_words x.body (raw_words next.body))) c.loop-i.invariant.part ∙ ap (λ (b : RawBody). with_raw first b) (words-again first.body was (raw_words next.body));
      long = ap length set_ ∙ length-set was c.loop-i.i c.word-w.result ∙ c.loop-i.invariant.long;
      done = λ k low. ap (λ (xs : List ℕ). slice_get xs k) set_ ∙ ⊎_elim
          (λ (h : k ≡ c.loop-i.i). subst (λ (z : ℕ). slice_get (slice_set was c.loop-i.i c.word-w.result) z ≡ slice_get (chunk_at c.args.g.now c.args.at.place).words z) (sym h)
          (get-set was c.loop-i.i c.word-w.result (omega (arith, c.loop-i.invariant.long)) ∙ sym c.word-w.ensures))
          (λ (h : k ≢ c.loop-i.i). get-set-other was c.loop-i.i c.word-w.result k h ∙ c.loop-i.invariant.done k (omega arith)) (cases_eq k c.loop-i.i);
    }

pub returns-clause-record : goal.returns-clause-record
returns-clause-record c = c.loop-i.invariant.record_there

pub returns-clause-words : goal.returns-clause-words
returns-clause-words c =
    c.loop-i.invariant.part
    ∙ ap (λ (b : RawBody). with_raw (raw_of c.args.buf.now) b) (ap (λ (ws : List ℕ). with_words (raw_of c.args.buf.now).body ws) (all-same (raw_words (raw_of c.loop-i.buf).body) (chunk_at c.args.g.now c.args.at.place).words (omega (arith, c.loop-i.invariant.long, c.requires.words)) (λ k low. c.loop-i.invariant.done k (omega (arith, c.loop-i.invariant.long)))))
