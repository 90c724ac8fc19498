use Rattle.std.proofs.Common.{ℕ, List, ◌≡◌, ◌+◌, ◌/◌, ◌<◌, length, [], ◌∷◌, Some, refl, sym, ap, ◌∙◌, subst, arith}
use Rattle.std.specs.List.{slice_get, slice_set}
use Rattle.long_names.specs.Objects.{with_bytes}
use Rattle.core_segment.specs.declared.segment.Segment.{Segment}
use Rattle.core_segment.specs.Chunks.{with_chunk}
use Rattle.core_segment.specs.Segment.{chunk_at}
use Rattle.core_view.specs.Core.{Core, with_words}
use Rattle.core_view.proofs.Core.{placed-used, held-at}
use Rattle.leaf_lambda.specs.Parts.{core_of}
use Rattle.leaf_lambda.specs.Making.{byte_written, first_byte}
use Rattle.leaf_lambda.proofs.StepLaws.{core-is}
use Rattle.core_view.specs.Held.{held, object_at}
use Rattle.leaf_lambda.proofs.ValuedLaws.{bytes-valued}
use Rattle.leaf_lambda.proofs.StoreLaws.{IsRewritten, byte-there, byte-rewritten, byte-as-long, byte-means, rewritten-core, rewritten-within, rewritten-entry, rewritten-backed, rewritten-held}
use Rattle.leaf_lambda.proofs.storing.put_byte.Goals as goal

pub word-w-requires : goal.word-w-requires
unfolding core_of
word-w-requires c = byte-there (core_of c.args.p.now) c.args.s.0 c.args.at.place c.args.i c.first_of-first.result c.requires.parts.core c.requires.place c.requires.kind c.requires.within c.first_of-first.ensures.first

pub mark_changed-requires-clause-used : goal.mark_changed-requires-clause-used
mark_changed-requires-clause-used c = placed-used ((core_of c.args.p.now).entries c.args.s.0).state c.args.at.place c.requires.place

pub set_word-requires : goal.set_word-requires
unfolding core_of
set_word-requires c = subst (λ (g : Segment). c.first_of-first.result + c.args.i / 2 < length (chunk_at g c.args.at.place).words) (sym c.mark_changed.ensures.segment)
    (byte-there (core_of c.args.p.now) c.args.s.0 c.args.at.place c.args.i c.first_of-first.result c.requires.parts.core c.requires.place c.requires.kind c.requires.within c.first_of-first.ensures.first)

written : (c : goal.After-set_word) → core_of (record { segment = c.set_word.new.self; names = c.mark_changed.new.p.names }) ≡ with_words (core_of c.mark_changed.new.p) c.args.at.place (byte_written ((core_of c.args.p.now).entries c.args.s.0).kind ((core_of c.args.p.now).chunks c.args.at.place).words c.args.i c.word-w.result c.args.b)
unfolding core_of
written c = core-is _ (with_words (core_of c.mark_changed.new.p) c.args.at.place (byte_written ((core_of c.args.p.now).entries c.args.s.0).kind ((core_of c.args.p.now).chunks c.args.at.place).words c.args.i c.word-w.result c.args.b)) refl refl
    (c.set_word.ensures.chunks ∙ ap (λ (ws : List ℕ). with_chunk (chunk_at c.mark_changed.new.p.segment) c.args.at.place (record { owner = (chunk_at c.mark_changed.new.p.segment c.args.at.place).owner; words = ws }))
    (ap (λ (g : Segment). slice_set (chunk_at g c.args.at.place).words (c.first_of-first.result + c.args.i / 2) c.byte_put.result) c.mark_changed.ensures.segment
    ∙ ap (λ (n : ℕ). slice_set (chunk_at c.args.p.now.segment c.args.at.place).words (n + c.args.i / 2) c.byte_put.result) c.first_of-first.ensures.first
    ∙ ap (λ (v : ℕ). slice_set (chunk_at c.args.p.now.segment c.args.at.place).words (first_byte ((core_of c.args.p.now).entries c.args.s.0).kind (chunk_at c.args.p.now.segment c.args.at.place).words + c.args.i / 2) v) c.byte_put.ensures)) refl

there : (c : goal.After-set_word) → slice_get ((core_of c.args.p.now).chunks c.args.at.place).words (first_byte ((core_of c.args.p.now).entries c.args.s.0).kind ((core_of c.args.p.now).chunks c.args.at.place).words + c.args.i / 2) ≡ Some c.word-w.result
unfolding core_of
there c = ap (λ (n : ℕ). slice_get (chunk_at c.args.p.now.segment c.args.at.place).words (n + c.args.i / 2)) (sym c.first_of-first.ensures.first) ∙ c.word-w.ensures

run : (c : goal.After-set_word) → IsRewritten (core_of c.args.p.now) (core_of c.mark_changed.new.p) (core_of (record { segment = c.set_word.new.self; names = c.mark_changed.new.p.names })) c.args.s.0 c.args.at.place (byte_written ((core_of c.args.p.now).entries c.args.s.0).kind ((core_of c.args.p.now).chunks c.args.at.place).words c.args.i c.word-w.result c.args.b)
run c = byte-rewritten (core_of c.args.p.now) (core_of c.mark_changed.new.p) (core_of (record { segment = c.set_word.new.self; names = c.mark_changed.new.p.names })) c.args.s.0 c.args.at.place c.args.i c.word-w.result c.args.b c.requires.parts.core c.requires.place c.requires.kind c.mark_changed.ensures.core (written c)

pub returns-clause-parts : goal.returns-clause-parts
returns-clause-parts c = record { core = rewritten-core (core_of c.args.p.now) (core_of c.mark_changed.new.p) (core_of (record { segment = c.set_word.new.self; names = c.mark_changed.new.p.names })) c.args.s.0 c.args.at.place (byte_written ((core_of c.args.p.now).entries c.args.s.0).kind ((core_of c.args.p.now).chunks c.args.at.place).words c.args.i c.word-w.result c.args.b) (run c); room = c.mark_changed.ensures.parts.room }

pub returns-clause-within : goal.returns-clause-within
returns-clause-within c = rewritten-within (core_of c.args.p.now) (core_of c.mark_changed.new.p) (core_of (record { segment = c.set_word.new.self; names = c.mark_changed.new.p.names })) c.args.s.0 c.args.at.place (byte_written ((core_of c.args.p.now).entries c.args.s.0).kind ((core_of c.args.p.now).chunks c.args.at.place).words c.args.i c.word-w.result c.args.b) (run c)

pub returns-clause-entry : goal.returns-clause-entry
returns-clause-entry c = rewritten-entry (core_of c.args.p.now) (core_of c.mark_changed.new.p) (core_of (record { segment = c.set_word.new.self; names = c.mark_changed.new.p.names })) c.args.s.0 c.args.at.place (byte_written ((core_of c.args.p.now).entries c.args.s.0).kind ((core_of c.args.p.now).chunks c.args.at.place).words c.args.i c.word-w.result c.args.b) (run c)

pub returns-clause-find : goal.returns-clause-find
returns-clause-find c = ap (λ (d : Core). d.find) (run c).write ∙ ap (λ (d : Core). d.find) (run c).mark

pub returns-clause-backed : goal.returns-clause-backed
returns-clause-backed c = λ disk. rewritten-backed (core_of c.args.p.now) (core_of c.mark_changed.new.p) (core_of (record { segment = c.set_word.new.self; names = c.mark_changed.new.p.names })) c.args.s.0 c.args.at.place (byte_written ((core_of c.args.p.now).entries c.args.s.0).kind ((core_of c.args.p.now).chunks c.args.at.place).words c.args.i c.word-w.result c.args.b) disk (run c) (byte-as-long (core_of c.args.p.now) c.args.s.0 c.args.at.place c.args.i c.word-w.result c.args.b c.requires.parts.core c.requires.place c.requires.kind)

pub returns-clause-held : goal.returns-clause-held
returns-clause-held c = λ disk o backed at. rewritten-held (core_of c.args.p.now) (core_of c.mark_changed.new.p) (core_of (record { segment = c.set_word.new.self; names = c.mark_changed.new.p.names })) c.args.s.0 c.args.at.place (byte_written ((core_of c.args.p.now).entries c.args.s.0).kind ((core_of c.args.p.now).chunks c.args.at.place).words c.args.i c.word-w.result c.args.b) disk o (with_bytes o.body c.args.i (c.args.b ∷ [])) (run c) backed at
    (byte-means (core_of c.args.p.now) c.args.s.0 c.args.at.place c.args.i c.word-w.result c.args.b o c.requires.parts.core c.requires.place c.requires.kind c.requires.within (there c) (let fits = c.ranges.b.fits in omega arith))

pub returns-clause-valued : goal.returns-clause-valued
returns-clause-valued c = λ disk backed.
    let there = held-at (core_of c.args.p.now) disk ((core_of c.args.p.now).entries c.args.s.0).name c.args.s.0 c.args.at.place (c.requires.parts.core.found c.args.s.0 (placed-used ((core_of c.args.p.now).entries c.args.s.0).state c.args.at.place c.requires.place)) c.requires.place in
    bytes-valued (held (core_of c.args.p.now) disk) (held (core_of (record { segment = c.set_word.new.self; names = c.mark_changed.new.p.names })) disk) ((core_of c.args.p.now).entries c.args.s.0).name c.args.i (object_at (core_of c.args.p.now) disk ((core_of c.args.p.now).entries c.args.s.0) c.args.at.place) (c.args.b ∷ [])
    there (returns-clause-held c disk (object_at (core_of c.args.p.now) disk ((core_of c.args.p.now).entries c.args.s.0) c.args.at.place) backed there)
