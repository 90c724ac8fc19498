use Rattle.std.proofs.Common.{sym, ◌∙◌, ap}
use Rattle.long_names.specs.Words.{literal_count}
use Rattle.long_names.specs.declared.object.Kind.{Kind}
use Rattle.core_segment.specs.Segment.{chunk_at}
use Rattle.core_view.specs.Words.{header_in}
use Rattle.leaf_lambda.specs.Parts.{core_of}
use Rattle.leaf_lambda.specs.Records.{literals_for}
use Rattle.leaf_lambda.proofs.MergeLaws.{header-first}
use Rattle.leaf_lambda.proofs.merge.literals_of.Goals as goal

pub word-requires : goal.word-requires
unfolding core_of
word-requires c = c.requires c.in-Method.is

pub returns-in-Method : goal.returns-in-Method
unfolding core_of
returns-in-Method c = c.literals_by.ensures ∙ ap literal_count (sym (header-first (chunk_at c.args.p.now.segment c.args.at.place).words c.word.result c.word.ensures)) ∙ ap (λ (k : Kind). literals_for k (header_in (chunk_at c.args.p.now.segment c.args.at.place).words)) (sym c.in-Method.is)
