use Rattle.std.proofs.Common.{ℕ, ◌+◌, Some, sym, ◌∙◌, ap}
use Rattle.long_names.specs.declared.object.Kind.{Kind}
use Rattle.object_table.specs.declared.entry.Entry.{Entry}
use Rattle.core_segment.specs.Segment.{chunk_at}
use Rattle.core_view.specs.Words.{header_in}
use Rattle.core_view.proofs.Core.{placed-used}
use Rattle.leaf_lambda.specs.Parts.{core_of}
use Rattle.leaf_lambda.specs.Records.{literals_for}
use Rattle.leaf_lambda.proofs.CopyLaws.{method-some}
use Rattle.loom_memory.specs.Bodies.{bytes_from}
use Rattle.loom_memory.proofs.BodyLaws.{from-none}
use Rattle.loom_memory.proofs.bodies.bytes_first.Goals as goal

pub used_entry-kind-requires : goal.used_entry-kind-requires
unfolding core_of
used_entry-kind-requires c = placed-used ((core_of c.args.p.now).entries c.args.s.0).state c.args.at.place c.requires.place

pub literals_of-requires : goal.literals_of-requires
unfolding core_of
literals_of-requires c = λ is. method-some (core_of c.args.p.now) c.args.s.0 c.args.at.place c.requires.parts.core c.requires.place (ap (λ (e : Entry). e.kind) (sym c.used_entry-kind.ensures) ∙ is)

pub returns-in-Bytes-clause-first : goal.returns-in-Bytes-clause-first
unfolding core_of
returns-in-Bytes-clause-first c = sym (ap (λ (k : Kind). bytes_from k (chunk_at c.args.p.now.segment c.args.at.place).words) (ap (λ (e : Entry). e.kind) (sym c.used_entry-kind.ensures) ∙ c.in-Bytes.is))

pub returns-in-Method-clause-first : goal.returns-in-Method-clause-first
unfolding core_of
returns-in-Method-clause-first c =
    ap (λ (n : ℕ). Some (1 + n)) (c.literals_of.ensures ∙ ap (λ (k : Kind). literals_for k (header_in (chunk_at c.args.p.now.segment c.args.at.place).words)) c.in-Method.is)
    ∙ sym (ap (λ (k : Kind). bytes_from k (chunk_at c.args.p.now.segment c.args.at.place).words) (ap (λ (e : Entry). e.kind) (sym c.used_entry-kind.ensures) ∙ c.in-Method.is))

pub returns-in_default-clause-first : goal.returns-in_default-clause-first
unfolding core_of
returns-in_default-clause-first c = sym (ap (λ (e : Entry). bytes_from e.kind (chunk_at c.args.p.now.segment c.args.at.place).words) (sym c.used_entry-kind.ensures) ∙ from-none c.used_entry-kind.result.kind (chunk_at c.args.p.now.segment c.args.at.place).words c.in_default.not-Bytes c.in_default.not-Method)
