use Rattle.std.proofs.Common.{◌≡◌, ◌+◌, ◌≤◌, length, refl, ap, ◌∙◌, arith}
use Rattle.long_names.specs.Objects.{put_run, with_words as with_run}
use Rattle.object_table.specs.declared.entry.Entry.{Entry}
use Rattle.object_table.specs.Entries.{place_of}
use Rattle.core_segment.specs.declared.segment.Segment.{Segment}
use Rattle.core_segment.specs.Chunks.{with_chunk}
use Rattle.core_segment.specs.Segment.{chunk_at}
use Rattle.core_view.specs.Core.{Core, with_words}
use Rattle.core_view.specs.Steps.{marked_changed}
use Rattle.core_view.proofs.Lists.{put-here}
use Rattle.core_view.proofs.Core.{placed-used, held-at}
use Rattle.leaf_lambda.specs.Parts.{core_of}
use Rattle.leaf_lambda.proofs.CopyLaws.{body-small}
use Rattle.leaf_lambda.proofs.StepLaws.{core-is}
use Rattle.core_view.specs.Held.{held, object_at}
use Rattle.leaf_lambda.proofs.ValuedLaws.{words-valued}
use Rattle.leaf_lambda.proofs.StoreLaws.{IsRewritten, words-long, words-rewritten, words-as-long, words-means, rewritten-core, rewritten-within, rewritten-entry, rewritten-backed, rewritten-held}
use Rattle.leaf_lambda.proofs.storing.put_words.Goals as goal

pub mark_changed-requires-clause-used : goal.mark_changed-requires-clause-used
mark_changed-requires-clause-used c = placed-used ((core_of c.args.p.now).entries c.args.s.0).state c.args.at.place c.requires.place

pub write_run-requires-clause-within : goal.write_run-requires-clause-within
unfolding core_of
write_run-requires-clause-within c =
    let long = words-long (core_of c.args.p.now) c.args.s.0 c.args.at.place c.args.i c.args.run.now c.requires.parts.core c.requires.place c.requires.kind in
    let same : length (chunk_at c.mark_changed.new.p.segment c.args.at.place).words ≡ length (chunk_at c.args.p.now.segment c.args.at.place).words = ap (λ (g : Segment). length (chunk_at g c.args.at.place).words) c.mark_changed.ensures.segment in
    let room = c.requires.within in
    omega arith

pub write_run-requires-clause-small : goal.write_run-requires-clause-small
unfolding core_of
write_run-requires-clause-small c = body-small (core_of c.mark_changed.new.p) c.args.s.0 c.args.at.place c.mark_changed.ensures.parts.core
    (ap (λ (d : Core). place_of (d.entries c.args.s.0).state) c.mark_changed.ensures.core ∙ ap (λ (e : Entry). place_of e.state) (put-here (core_of c.args.p.now).entries c.args.s.0 (marked_changed ((core_of c.args.p.now).entries c.args.s.0))) ∙ c.requires.place)

written : (c : goal.After-write_run) → core_of (record { segment = c.write_run.new.g; names = c.mark_changed.new.p.names }) ≡ with_words (core_of c.mark_changed.new.p) c.args.at.place (put_run ((core_of c.args.p.now).chunks c.args.at.place).words c.args.i c.args.run.now)
unfolding core_of
written c = core-is _ (with_words (core_of c.mark_changed.new.p) c.args.at.place (put_run ((core_of c.args.p.now).chunks c.args.at.place).words c.args.i c.args.run.now)) refl refl
    (c.write_run.ensures.chunk ∙ ap (λ (g : Segment). with_chunk (chunk_at c.mark_changed.new.p.segment) c.args.at.place (record { owner = (chunk_at c.mark_changed.new.p.segment c.args.at.place).owner; words = put_run (chunk_at g c.args.at.place).words c.args.i c.args.run.now })) c.mark_changed.ensures.segment) refl

run : (c : goal.After-write_run) → IsRewritten (core_of c.args.p.now) (core_of c.mark_changed.new.p) (core_of (record { segment = c.write_run.new.g; names = c.mark_changed.new.p.names })) c.args.s.0 c.args.at.place (put_run ((core_of c.args.p.now).chunks c.args.at.place).words c.args.i c.args.run.now)
run c = words-rewritten (core_of c.args.p.now) (core_of c.mark_changed.new.p) (core_of (record { segment = c.write_run.new.g; names = c.mark_changed.new.p.names })) c.args.s.0 c.args.at.place c.args.i c.args.run.now c.requires.parts.core c.requires.place c.requires.kind c.requires.within c.mark_changed.ensures.core (written c)

room : (c : goal.After-write_run) → c.args.i + length c.args.run.now ≤ length ((core_of c.args.p.now).chunks c.args.at.place).words
room c = let long = words-long (core_of c.args.p.now) c.args.s.0 c.args.at.place c.args.i c.args.run.now c.requires.parts.core c.requires.place c.requires.kind in let most = c.requires.within in omega arith

pub returns-clause-core : goal.returns-clause-core
returns-clause-core c = written c ∙ ap (λ (d : Core). with_words d c.args.at.place (put_run ((core_of c.args.p.now).chunks c.args.at.place).words c.args.i c.args.run.now)) c.mark_changed.ensures.core

pub returns-clause-parts : goal.returns-clause-parts
returns-clause-parts c = record { core = rewritten-core (core_of c.args.p.now) (core_of c.mark_changed.new.p) (core_of (record { segment = c.write_run.new.g; names = c.mark_changed.new.p.names })) c.args.s.0 c.args.at.place (put_run ((core_of c.args.p.now).chunks c.args.at.place).words c.args.i c.args.run.now) (run c); room = c.mark_changed.ensures.parts.room }

pub returns-clause-within : goal.returns-clause-within
returns-clause-within c = rewritten-within (core_of c.args.p.now) (core_of c.mark_changed.new.p) (core_of (record { segment = c.write_run.new.g; names = c.mark_changed.new.p.names })) c.args.s.0 c.args.at.place (put_run ((core_of c.args.p.now).chunks c.args.at.place).words c.args.i c.args.run.now) (run c)

pub returns-clause-entry : goal.returns-clause-entry
returns-clause-entry c = rewritten-entry (core_of c.args.p.now) (core_of c.mark_changed.new.p) (core_of (record { segment = c.write_run.new.g; names = c.mark_changed.new.p.names })) c.args.s.0 c.args.at.place (put_run ((core_of c.args.p.now).chunks c.args.at.place).words c.args.i c.args.run.now) (run c)

pub returns-clause-backed : goal.returns-clause-backed
returns-clause-backed c = λ disk. rewritten-backed (core_of c.args.p.now) (core_of c.mark_changed.new.p) (core_of (record { segment = c.write_run.new.g; names = c.mark_changed.new.p.names })) c.args.s.0 c.args.at.place (put_run ((core_of c.args.p.now).chunks c.args.at.place).words c.args.i c.args.run.now) disk (run c) (words-as-long (core_of c.args.p.now) c.args.s.0 c.args.at.place c.args.i c.args.run.now c.requires.kind (room c))

pub returns-clause-held : goal.returns-clause-held
returns-clause-held c = λ disk o backed there. rewritten-held (core_of c.args.p.now) (core_of c.mark_changed.new.p) (core_of (record { segment = c.write_run.new.g; names = c.mark_changed.new.p.names })) c.args.s.0 c.args.at.place (put_run ((core_of c.args.p.now).chunks c.args.at.place).words c.args.i c.args.run.now) disk o (with_run o.body c.args.i c.args.run.now) (run c) backed there (words-means (core_of c.args.p.now) c.args.s.0 c.args.at.place c.args.i c.args.run.now o c.requires.kind)

pub returns-clause-valued : goal.returns-clause-valued
returns-clause-valued c = λ disk backed.
    let there = held-at (core_of c.args.p.now) disk ((core_of c.args.p.now).entries c.args.s.0).name c.args.s.0 c.args.at.place (c.requires.parts.core.found c.args.s.0 (placed-used ((core_of c.args.p.now).entries c.args.s.0).state c.args.at.place c.requires.place)) c.requires.place in
    words-valued (held (core_of c.args.p.now) disk) (held (core_of (record { segment = c.write_run.new.g; names = c.mark_changed.new.p.names })) disk) ((core_of c.args.p.now).entries c.args.s.0).name c.args.i (object_at (core_of c.args.p.now) disk ((core_of c.args.p.now).entries c.args.s.0) c.args.at.place) c.args.run.now
    there (returns-clause-held c disk (object_at (core_of c.args.p.now) disk ((core_of c.args.p.now).entries c.args.s.0) c.args.at.place) backed there)
