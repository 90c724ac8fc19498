use Rattle.std.proofs.Common.{◌≡◌, ℕ, List, ◌+◌, Some, map, sym, ◌∙◌, ap, arith}
use Rattle.std.specs.Prelude.{take, drop}
use Rattle.long_names.specs.Words.{literal_count}
use Rattle.long_names.specs.declared.object.Kind.TheVariants as kind
use Rattle.object_record.specs.Raw.{RawRecord, longs_of, with_raw, body_with_header}
use Rattle.object_record.specs.Buffer.{raw_of}
use Rattle.object_record.specs.Objects.{value_in}
use Rattle.core_segment.specs.Segment.{chunk_at}
use Rattle.core_view.specs.Words.{meant, values_by, bytes_in, pointers}
use Rattle.leaf_lambda.specs.Parts.{core_of}
use Rattle.leaf_lambda.specs.Records.{with_longs, with_bytes}
use Rattle.leaf_lambda.proofs.MergeLaws.{header-first, is-method}
use Rattle.leaf_lambda.proofs.CopyLaws.{body-small, long-as, method-some, method-literals, method-merged}
use Rattle.leaf_lambda.proofs.merge.merge_method.Goals as goal

pub word-requires : goal.word-requires
unfolding core_of
word-requires c = method-some (core_of c.args.p.now) c.args.s.0 c.args.at.place c.requires.parts.core c.requires.place (sym c.requires.copy.same_kind ∙ c.requires.method)

pub set_header-requires-clause-states : goal.set_header-requires-clause-states
unfolding core_of
set_header-requires-clause-states c =
    c.number_long-header.ensures.stated ∙ ap (λ z. Some (literal_count z)) (sym (header-first (chunk_at c.args.p.now.segment c.args.at.place).words c.word.result c.word.ensures))
    ∙ ap Some (sym (method-literals (core_of c.args.p.now) c.args.s.0 c.args.at.place c.args.buf.now c.requires.parts.core c.requires.place c.requires.copy c.requires.method))

pub copy_bytes-requires-clause-words : goal.copy_bytes-requires-clause-words
unfolding core_of
copy_bytes-requires-clause-words c =
    let long = long-as (core_of c.args.p.now) c.args.s.0 c.args.at.place kind.Method c.requires.parts.core c.requires.place (sym c.requires.copy.same_kind ∙ c.requires.method) in
    let count = method-literals (core_of c.args.p.now) c.args.s.0 c.args.at.place c.args.buf.now c.requires.parts.core c.requires.place c.requires.copy c.requires.method in
    let same = c.requires.copy.same_len in
    omega (arith, c.literals-count.ensures, c.requires.len)

pub copy_bytes-requires-clause-small : goal.copy_bytes-requires-clause-small
unfolding core_of
copy_bytes-requires-clause-small c = body-small (core_of c.args.p.now) c.args.s.0 c.args.at.place c.requires.parts.core c.requires.place

pub returns : goal.returns
unfolding core_of
returns c =
    let old = raw_of c.args.buf.now in
    let h = c.number_long-header.result in
    let set_ = c.set_header.ensures.set in
    let longs = longs_of (raw_of c.merge_fields.new.buf).body in
    let code = take c.args.len (bytes_in (drop (1 + c.literals-count.result) (chunk_at c.args.p.now.segment c.args.at.place).words)) in
    let fields : raw_of c.merge_fields.new.buf ≡ with_raw old (with_longs (body_with_header old.body h) longs) = c.merge_fields.ensures.longs ∙ ap (λ (r : RawRecord). with_raw r (with_longs r.body longs)) set_ in
    let all : raw_of c.copy_bytes.new.buf ≡ with_raw old (with_bytes (with_longs (body_with_header old.body h) longs) code) = c.copy_bytes.ensures.bytes ∙ ap (λ (r : RawRecord). with_raw r (with_bytes r.body code)) fields in
    let same : longs_of (raw_of c.set_header.new.self).body ≡ longs_of old.body = ap (λ (r : RawRecord). longs_of r.body) set_ ∙ (is-method old.body c.requires.method h longs code).same_longs in
    record {
      merged = method-merged (core_of c.args.p.now) c.args.s.0 c.args.at.place h c.word.result c.literals-count.result c.args.len longs c.args.buf.now c.copy_bytes.new.buf
          c.requires.parts.core c.requires.place c.requires.copy c.requires.method c.copy_bytes.ensures.record c.word.ensures c.number_long-header.ensures.number c.literals-count.ensures c.requires.len all
          (c.merge_fields.ensures.values ∙ ap (λ (xs : List ℕ). values_by (meant (core_of c.args.p.now).entries (map value_in xs)) (pointers ((core_of c.args.p.now).entries c.args.s.0).kind ((core_of c.args.p.now).chunks c.args.at.place).words)) same);
    }
