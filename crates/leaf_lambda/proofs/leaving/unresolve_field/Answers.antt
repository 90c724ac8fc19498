use Rattle.std.proofs.Common.{ℕ, List, length, subst, sym, ◌∙◌, ap}
use Rattle.std.proofs.Math.ListN.{length-set}
use Rattle.core_segment.specs.Chunks.{Chunk}
use Rattle.core_segment.specs.declared.segment.Segment.{Segment}
use Rattle.core_segment.specs.Segment.{SameRoom}
use Rattle.core_view.specs.Words.{spot}
use Rattle.leaf_lambda.proofs.FillLaws.{written-words}
use Rattle.object_table.specs.Entries.{place_of, with_refs}
use Rattle.object_table.specs.Table.{free_of}
use Rattle.resident_table.specs.declared.Parts2.{Parts2}
use Rattle.core_view.specs.Core.{Core}
use Rattle.leaf_lambda.specs.Parts.{core_of}
use Rattle.leaf_lambda.proofs.LeavingLaws.{unresolve-loose, unresolve-keeps, unresolve-within, unresolve-fields}
use Rattle.leaf_lambda.proofs.leaving.unresolve_field.Goals as goal

pub store_word-requires-clause-there : goal.store_word-requires-clause-there
store_word-requires-clause-there c = (c.field_word-w.result, c.field_word-w.ensures)

pub store_word-requires-clause-held : goal.store_word-requires-clause-held
store_word-requires-clause-held c = λ is. cc

pub drop_word-requires-clause-held : goal.drop_word-requires-clause-held
drop_word-requires-clause-held c = unresolve-loose (core_of c.args.p.now) (core_of c.store_word.new.p) c.args.s.0 c.args.at.place c.args.i c.field_word-w.result c.requires.parts.core c.field_word-w.ensures c.store_word.ensures.core

pub returns-clause-keeps : goal.returns-clause-keeps
returns-clause-keeps c = λ disk backed fresh clean. unresolve-keeps (core_of c.args.p.now) (core_of c.store_word.new.p) (core_of c.drop_word.new.p) disk c.args.s.0 c.args.at.place c.args.i c.field_word-w.result c.requires.parts.core c.field_word-w.ensures c.store_word.ensures.core c.drop_word.ensures.dropped.stays backed fresh clean

pub returns-clause-within : goal.returns-clause-within
returns-clause-within c = unresolve-within (core_of c.args.p.now) (core_of c.store_word.new.p) (core_of c.drop_word.new.p) c.args.s.0 c.args.at.place c.args.i c.field_word-w.result c.requires.parts.core c.field_word-w.ensures c.store_word.ensures.core c.drop_word.ensures.dropped

pub returns-clause-entry : goal.returns-clause-entry
returns-clause-entry c =
    c.drop_word.ensures.dropped.step.bodies c.args.s.0 c.args.at.place (ap (λ (d : Core). place_of (d.entries c.args.s.0).state) c.store_word.ensures.core ∙ c.field_word-w.ensures.place)
    ∙ ap (λ (d : Core). with_refs (d.entries c.args.s.0) ((core_of c.drop_word.new.p).entries c.args.s.0).refs) c.store_word.ensures.core

pub returns-clause-fields : goal.returns-clause-fields
returns-clause-fields c = unresolve-fields (core_of c.args.p.now) (core_of c.store_word.new.p) (core_of c.drop_word.new.p) c.args.s.0 c.args.at.place c.args.i c.field_word-w.result c.field_word-w.ensures c.store_word.ensures.core c.drop_word.ensures.dropped.step

pub returns-clause-spare : goal.returns-clause-spare
returns-clause-spare c = c.drop_word.ensures.spare ∙ ap (λ (n : Parts2). free_of n.table) c.store_word.ensures.same_names

pub returns-clause-find : goal.returns-clause-find
returns-clause-find c = c.drop_word.ensures.dropped.find ∙ ap (λ (d : Core). d.find) c.store_word.ensures.core

pub returns-clause-long : goal.returns-clause-long
returns-clause-long c =
    ap (λ (f : ℕ → Chunk). length (f c.args.at.place).words) c.drop_word.ensures.dropped.step.chunks
    ∙ ap (λ (d : Core). length (d.chunks c.args.at.place).words) c.store_word.ensures.core
    ∙ ap (λ (ws : List ℕ). length ws) (written-words (core_of c.args.p.now).chunks c.args.at.place (spot ((core_of c.args.p.now).entries c.args.s.0).kind c.args.i) 0)
    ∙ length-set ((core_of c.args.p.now).chunks c.args.at.place).words (spot ((core_of c.args.p.now).entries c.args.s.0).kind c.args.i) 0

pub returns-clause-room : goal.returns-clause-room
returns-clause-room c = subst (λ (g : Segment). SameRoom c.args.p.now.segment g) (sym c.drop_word.ensures.segment) c.store_word.ensures.room
