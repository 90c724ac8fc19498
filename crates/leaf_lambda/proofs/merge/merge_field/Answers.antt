use Rattle.std.proofs.Common.{◌≡◌, ℕ, List, Some, map, get_or, length, sym, ◌∙◌, ap}
use Rattle.std.specs.List.{slice_get, slice_set}
use Rattle.std.proofs.Math.ListN.{length-set}
use Rattle.object_record.specs.Raw.{RawRecord, RawBody, longs_of, with_raw}
use Rattle.object_record.specs.Buffer.{raw_of}
use Rattle.object_record.specs.Objects.{value_in}
use Rattle.core_view.specs.Words.{meant}
use Rattle.core_view.proofs.Core.{word-used, used-live}
use Rattle.leaf_lambda.specs.Parts.{core_of}
use Rattle.leaf_lambda.specs.Records.{with_longs}
use Rattle.leaf_lambda.proofs.FillLaws.{get-set-other}
use Rattle.leaf_lambda.proofs.MergeLaws.{longs-set, longs-put, longs-same, get_or-set, map-or}
use Rattle.leaf_lambda.proofs.merge.merge_field.Goals as goal

some-same : (x y : ℕ) → Some x ≡ Some y → x ≡ y
some-same x y e = cc

pub word_long-long-requires-clause-used : goal.word_long-long-requires-clause-used
word_long-long-requires-clause-used c = λ is. used-live (core_of c.args.p.now) c.requires.parts.core c.field_word-w.result
    (word-used (core_of c.args.p.now) c.requires.parts.core c.args.s.0 c.args.at.place c.args.i c.field_word-w.result c.field_word-w.ensures.place c.field_word-w.ensures.word is)

set_ : (c : goal.After-set_long_field) → longs_of (raw_of c.set_long_field.new.self).body ≡ slice_set (longs_of (raw_of c.args.buf.now).body) c.args.i c.word_long-long.result
set_ c = ap (λ (r : RawRecord). longs_of r.body) c.set_long_field.ensures.set ∙ longs-set (raw_of c.args.buf.now).body c.args.i c.word_long-long.result

pub returns-then-w-ne0-clause-longs : goal.returns-then-w-ne0-clause-longs
returns-then-w-ne0-clause-longs c =
    c.set_long_field.ensures.set
    ∙ ap (λ (b : RawBody). with_raw (raw_of c.args.buf.now) b) (longs-put (raw_of c.args.buf.now).body c.args.i c.word_long-long.result)
    ∙ ap (λ (r : RawRecord). with_raw (raw_of c.args.buf.now) (with_longs (raw_of c.args.buf.now).body (longs_of r.body))) (sym c.set_long_field.ensures.set)

pub returns-then-w-ne0-clause-long : goal.returns-then-w-ne0-clause-long
returns-then-w-ne0-clause-long c = ap length (set_ c) ∙ length-set (longs_of (raw_of c.args.buf.now).body) c.args.i c.word_long-long.result

pub returns-then-w-ne0-clause-here : goal.returns-then-w-ne0-clause-here
returns-then-w-ne0-clause-here c = λ w at.
    let same : c.field_word-w.result ≡ w = some-same c.field_word-w.result w (sym c.field_word-w.ensures.word ∙ at.word) in
    ap (λ (xs : List ℕ). value_in (get_or xs c.args.i 0)) (set_ c) ∙ ap value_in (get_or-set (longs_of (raw_of c.args.buf.now).body) c.args.i c.word_long-long.result c.requires.within)
    ∙ c.word_long-long.ensures (map value_in (longs_of (raw_of c.args.buf.now).body)) c.args.i ∙ ap (λ (x : ℕ). meant (core_of c.args.p.now).entries (map value_in (longs_of (raw_of c.args.buf.now).body)) c.args.i x) same

pub returns-then-w-ne0-clause-others : goal.returns-then-w-ne0-clause-others
returns-then-w-ne0-clause-others c = λ k away. ap (λ (xs : List ℕ). slice_get xs k) (set_ c) ∙ get-set-other (longs_of (raw_of c.args.buf.now).body) c.args.i c.word_long-long.result k away

pub returns-else-w-ne0-clause-longs : goal.returns-else-w-ne0-clause-longs
returns-else-w-ne0-clause-longs c = ap (λ (b : RawBody). with_raw (raw_of c.args.buf.now) b) (longs-same (raw_of c.args.buf.now).body)

pub returns-else-w-ne0-clause-here : goal.returns-else-w-ne0-clause-here
returns-else-w-ne0-clause-here c = λ w at.
    let zero_ : 0 ≡ w = sym c.if-w-ne0.false ∙ some-same c.field_word-w.result w (sym c.field_word-w.ensures.word ∙ at.word) in
    sym (map-or (longs_of (raw_of c.args.buf.now).body) c.args.i c.requires.within)
    ∙ ap (λ (x : ℕ). meant (core_of c.args.p.now).entries (map value_in (longs_of (raw_of c.args.buf.now).body)) c.args.i x) zero_
