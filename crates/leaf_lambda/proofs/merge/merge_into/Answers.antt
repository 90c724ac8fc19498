use Rattle.std.proofs.Common.{sym, ◌∙◌, arith}
use Rattle.long_names.specs.declared.object.Kind.TheVariants as kind
use Rattle.leaf_lambda.specs.Parts.{core_of}
use Rattle.leaf_lambda.proofs.CopyLaws.{body-small, long-as, pointers-merged, words-merged, bytes-merged}
use Rattle.leaf_lambda.proofs.merge.merge_into.Goals as goal

pub copy_words-requires-clause-words : goal.copy_words-requires-clause-words
unfolding core_of
copy_words-requires-clause-words c =
    let long = long-as (core_of c.args.p.now) c.args.s.0 c.args.at.place kind.Words c.requires.parts.core c.requires.place (sym c.requires.copy.same_kind ∙ sym c.in-Words.ensures) in
    c.len-len.ensures ∙ c.requires.copy.same_len ∙ sym long

pub copy_bytes-requires-clause-words : goal.copy_bytes-requires-clause-words
unfolding core_of
copy_bytes-requires-clause-words c =
    let long = long-as (core_of c.args.p.now) c.args.s.0 c.args.at.place kind.Bytes c.requires.parts.core c.requires.place (sym c.requires.copy.same_kind ∙ sym c.in-Bytes.ensures) in
    let same = c.requires.copy.same_len in
    omega (arith, c.len-len.ensures)

pub copy_bytes-requires-clause-small : goal.copy_bytes-requires-clause-small
unfolding core_of
copy_bytes-requires-clause-small c = body-small (core_of c.args.p.now) c.args.s.0 c.args.at.place c.requires.parts.core c.requires.place

pub returns-in-Pointers : goal.returns-in-Pointers
returns-in-Pointers c = record {
  merged = pointers-merged (core_of c.args.p.now) c.args.s.0 c.args.at.place c.args.buf.now c.merge_fields.new.buf c.requires.copy (sym c.in-Pointers.ensures) c.merge_fields.ensures.record c.merge_fields.ensures.longs c.merge_fields.ensures.values;
}

pub returns-in-Words : goal.returns-in-Words
unfolding core_of
returns-in-Words c = record {
  merged = words-merged (core_of c.args.p.now) c.args.s.0 c.args.at.place c.args.buf.now c.copy_words.new.buf c.requires.copy (sym c.in-Words.ensures) c.copy_words.ensures.record c.copy_words.ensures.words;
}

pub returns-in-Bytes : goal.returns-in-Bytes
unfolding core_of
returns-in-Bytes c = record {
  merged = bytes-merged (core_of c.args.p.now) c.args.s.0 c.args.at.place c.len-len.result c.args.buf.now c.copy_bytes.new.buf c.requires.copy (sym c.in-Bytes.ensures) c.copy_bytes.ensures.record c.len-len.ensures c.copy_bytes.ensures.bytes;
}
