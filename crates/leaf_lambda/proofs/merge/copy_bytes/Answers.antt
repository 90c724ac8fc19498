use Rattle.std.proofs.Common.{ℕ, List, ◌≡◌, ◌≢◌, ◌/◌, Some, length, sym, ◌∙◌, ap, subst, arith, ⊎_elim}
use Rattle.std.proofs.lemmas.Bool.{cases_eq}
use Rattle.std.proofs.Math.ListN.{length-set}
use Rattle.std.specs.List.{slice_get, slice_set}
use Rattle.std.specs.Prelude.{take, drop}
use Rattle.object_record.specs.Raw.{RawRecord, RawBody, raw_bytes, with_raw}
use Rattle.object_record.specs.Buffer.{raw_of}
use Rattle.core_segment.specs.Segment.{chunk_at}
use Rattle.core_view.specs.Words.{bytes_in}
use Rattle.leaf_lambda.specs.Records.{with_bytes}
use Rattle.leaf_lambda.proofs.FillLaws.{get-set, get-set-other, all-same}
use Rattle.leaf_lambda.proofs.MergeLaws.{bytes-set, bytes-put, bytes-again, bytes-same, bytes-get, drop-get, take-at, length-bytes, length-drop-of, length-take-of}
use Rattle.leaf_lambda.proofs.merge.copy_bytes.Goals as goal

pub loop-i-init : goal.loop-i-init
loop-i-init c = record {
  record_there = c.requires.record;
  part = ap (λ (b : RawBody). with_raw (raw_of c.args.buf.now) b) (bytes-same (raw_of c.args.buf.now).body);
  long = sym c.requires.len;
  done = λ k low. absurd (omega arith);
}

pub word-w-requires : goal.word-w-requires
word-w-requires c = omega (arith, c.requires.words)

pub set_byte-requires-clause-record : goal.set_byte-requires-clause-record
set_byte-requires-clause-record c = c.loop-i.invariant.record_there

pub set_byte-requires-clause-byte : goal.set_byte-requires-clause-byte
set_byte-requires-clause-byte c = omega (arith, c.loop-i.invariant.long)

pub loop-i-preserved : goal.loop-i-preserved
loop-i-preserved c =
    let first = raw_of c.args.buf.now in
    let now = raw_of c.loop-i.buf in
    let next = raw_of c.set_byte.new.self in
    let was = raw_bytes now.body in
    let set_ : raw_bytes next.body ≡ slice_set was c.loop-i.i c.byte_of-byte.result = ap (λ (r : RawRecord). raw_bytes r.body) c.set_byte.ensures.set ∙ bytes-set now.body c.loop-i.i c.byte_of-byte.result in
    let put_ : next ≡ with_raw now (with_bytes now.body (raw_bytes next.body)) =
    c.set_byte.ensures.set ∙ ap (λ (b : RawBody). with_raw now b) (bytes-put now.body c.loop-i.i c.byte_of-byte.result) ∙ ap (λ (r : RawRecord). with_raw now (with_bytes now.body (raw_bytes r.body))) (sym c.set_byte.ensures.set) in
    record {
      record_there = c.set_byte.ensures.record;
      part = put_ ∙ ap (λ (x : RawRecord). with_raw x (with_bytes x.body (raw_bytes next.body))) c.loop-i.invariant.part ∙ ap (λ (b : RawBody). with_raw first b) (bytes-again first.body was (raw_bytes next.body));
      long = ap length set_ ∙ length-set was c.loop-i.i c.byte_of-byte.result ∙ c.loop-i.invariant.long;
      done = λ k low. ap (λ (xs : List ℕ). slice_get xs k) set_ ∙ ⊎_elim
          (λ (h : k ≡ c.loop-i.i). subst (λ (z : ℕ). slice_get (slice_set was c.loop-i.i c.byte_of-byte.result) z ≡ slice_get (bytes_in (drop c.args.first (chunk_at c.args.g.now c.args.at.place).words)) z) (sym h)
          (get-set was c.loop-i.i c.byte_of-byte.result (omega (arith, c.loop-i.invariant.long)) ∙ sym (bytes-get (drop c.args.first (chunk_at c.args.g.now c.args.at.place).words) c.loop-i.i c.word-w.result (drop-get c.args.first (chunk_at c.args.g.now c.args.at.place).words (c.loop-i.i / 2) ∙ c.word-w.ensures) ∙ ap Some (sym c.byte_of-byte.ensures))))
          (λ (h : k ≢ c.loop-i.i). get-set-other was c.loop-i.i c.byte_of-byte.result k h ∙ c.loop-i.invariant.done k (omega arith)) (cases_eq k c.loop-i.i);
    }

taken : (c : goal.After-loop-i) → length (take c.args.len (bytes_in (drop c.args.first (chunk_at c.args.g.now c.args.at.place).words))) ≡ c.args.len
taken c =
    let bytes = length-bytes (drop c.args.first (chunk_at c.args.g.now c.args.at.place).words) in
    let rest = length-drop-of c.args.first (chunk_at c.args.g.now c.args.at.place).words in
    length-take-of c.args.len (bytes_in (drop c.args.first (chunk_at c.args.g.now c.args.at.place).words)) (omega (arith, c.requires.words))

pub returns-clause-record : goal.returns-clause-record
returns-clause-record c = c.loop-i.invariant.record_there

pub returns-clause-bytes : goal.returns-clause-bytes
returns-clause-bytes c =
    c.loop-i.invariant.part
    ∙ ap (λ (b : RawBody). with_raw (raw_of c.args.buf.now) b) (ap (λ (bs : List ℕ). with_bytes (raw_of c.args.buf.now).body bs) (all-same (raw_bytes (raw_of c.loop-i.buf).body) (take c.args.len (bytes_in (drop c.args.first (chunk_at c.args.g.now c.args.at.place).words))) (c.loop-i.invariant.long ∙ sym (taken c)) (λ k low. c.loop-i.invariant.done k (omega (arith, c.loop-i.invariant.long)) ∙ sym (take-at c.args.len (bytes_in (drop c.args.first (chunk_at c.args.g.now c.args.at.place).words)) k (omega (arith, c.loop-i.invariant.long))))))
