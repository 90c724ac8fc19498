use Rattle.std.proofs.Common.{◌≡◌, ℕ, refl, sym, ◌∙◌, ap, subst, arith}
use Rattle.object_record.specs.Buffer.{raw_of}
use Rattle.long_names.specs.Objects.{body_words}
use Rattle.object_record.specs.Objects.{object_in}
use Rattle.object_record.specs.Raw.{raw_kind, raw_len}
use Rattle.object_table.specs.declared.entry.Entry.{Entry}
use Rattle.object_table.specs.Entries.{is_used}
use Rattle.object_table.specs.Table as table
use Rattle.object_table.specs.Table.{entry_at}
use Rattle.long_names.specs.declared.object.Kind.{Kind}
use Rattle.core_view.specs.Core.{Core, with_entry}
use Rattle.core_view.specs.Steps.{IsOpening}
use Rattle.resident_table.specs.declared.Parts2.{Parts2}
use Rattle.core_segment.specs.Segment.{size_of, free_of as words_free, largest_of}
use Rattle.leaf_lambda.specs.Parts.{core_of, spare_of, TakesRoom}
use Rattle.leaf_lambda.specs.Records.{opened}
use Rattle.leaf_lambda.proofs.RecordLaws.{unresolved-words}
use Rattle.leaf_lambda.proofs.TranslateLaws.{naming-entries, naming-entry}
use Rattle.leaf_lambda.proofs.OpenLaws.{IsOpenRun, after, run-opening, run-within, run-keeps, run-body, run-fields, run-opened}
use Rattle.leaf_lambda.proofs.translate.open_leaf.Goals as goal

pub take_body-at-requires-clause-used : goal.take_body-at-requires-clause-used
take_body-at-requires-clause-used c = (c.hold_class-class.ensures.held.live c.args.s.0 c.requires.leaf.0).0

pub take_body-at-requires-clause-room : goal.take_body-at-requires-clause-room
take_body-at-requires-clause-room c =
    let room = c.requires.room in
    let words = unresolved-words (raw_of c.args.buf.now).body in
    let same : largest_of c.hold_class-class.new.p.segment ≡ largest_of c.args.p.now.segment = ap largest_of c.hold_class-class.ensures.segment in
    omega arith

run-then : (c : goal.After-len) → IsOpenRun (core_of c.args.p.now) (core_of c.hold_class-class.new.p) (core_of c.take_body-at.new.p) c.args.s.0 c.hold_class-class.result.0 c.take_body-at.result.place (raw_of c.args.buf.now)
unfolding core_of
run-then c = record {
  hold = c.hold_class-class.ensures.held;
  core_b = c.hold_class-class.ensures.parts.core;
  move = c.take_body-at.ensures.moves;
  core_m = c.take_body-at.ensures.parts.core;
  entries = ap (λ (n : Parts2). entry_at n.table) c.take_body-at.ensures.same_names;
  chunk = c.take_body-at.ensures.chunk;
  chunks = ap (λ (d : Core). d.chunks) c.take_body-at.ensures.core;
  used = c.requires.leaf.0;
  leaf = c.requires.leaf.1;
  class_used = c.hold_class-class.ensures.class.0;
  class_name = c.hold_class-class.ensures.class.1;
  is_raw = c.requires.record.is;
}

run : (c : goal.After-open_body) → IsOpenRun (core_of c.args.p.now) (core_of c.hold_class-class.new.p) (core_of c.take_body-at.new.p) c.args.s.0 c.hold_class-class.result.0 c.take_body-at.result.place (raw_of c.args.buf.now)
unfolding core_of
run c = record {
  hold = c.hold_class-class.ensures.held;
  core_b = c.hold_class-class.ensures.parts.core;
  move = c.take_body-at.ensures.moves;
  core_m = c.take_body-at.ensures.parts.core;
  entries = ap (λ (n : Parts2). entry_at n.table) c.take_body-at.ensures.same_names;
  chunk = c.take_body-at.ensures.chunk;
  chunks = ap (λ (d : Core). d.chunks) c.take_body-at.ensures.core;
  used = c.requires.leaf.0;
  leaf = c.requires.leaf.1;
  class_used = c.hold_class-class.ensures.class.0;
  class_name = c.hold_class-class.ensures.class.1;
  is_raw = c.requires.record.is;
}

opened-by : (m : Core) (s k p : ℕ) (j l : Kind) (n o : ℕ) → l ≡ j → o ≡ n → opened (m.entries s) p k l o ≡ opened (m.entries s) p k j n
opened-by m s k p j l n o e f = ap (λ (x : Kind). opened (m.entries s) p k x o) e ∙ ap (λ (x : ℕ). opened (m.entries s) p k j x) f

pub open_body-requires-clause-opening : goal.open_body-requires-clause-opening
open_body-requires-clause-opening c = subst (λ (e : Entry). IsOpening (core_of c.take_body-at.new.p) c.args.s.0 c.take_body-at.result.place e)
    (sym (opened-by (core_of c.take_body-at.new.p) c.args.s.0 c.hold_class-class.result.0 c.take_body-at.result.place (raw_kind (raw_of c.args.buf.now).body) c.kind.result (raw_len (raw_of c.args.buf.now).body) c.len.result c.kind.ensures c.len.ensures))
    (run-opening (core_of c.args.p.now) (core_of c.hold_class-class.new.p) (core_of c.take_body-at.new.p) c.args.s.0 c.hold_class-class.result.0 c.take_body-at.result.place (raw_of c.args.buf.now) (run-then c))

is : (c : goal.After-open_body) → core_of c.open_body.new.p ≡ with_entry (core_of c.take_body-at.new.p) c.args.s.0 (after (core_of c.take_body-at.new.p) c.args.s.0 c.hold_class-class.result.0 c.take_body-at.result.place (raw_of c.args.buf.now))
is c = c.open_body.ensures.core ∙ ap (λ (e : Entry). with_entry (core_of c.take_body-at.new.p) c.args.s.0 e)
    (opened-by (core_of c.take_body-at.new.p) c.args.s.0 c.hold_class-class.result.0 c.take_body-at.result.place (raw_kind (raw_of c.args.buf.now).body) c.kind.result (raw_len (raw_of c.args.buf.now).body) c.len.result c.kind.ensures c.len.ensures)

pub returns-clause-keeps : goal.returns-clause-keeps
returns-clause-keeps c = λ disk backed there. run-keeps (core_of c.args.p.now) (core_of c.hold_class-class.new.p) (core_of c.take_body-at.new.p) (core_of c.open_body.new.p) c.args.s.0 c.hold_class-class.result.0 c.take_body-at.result.place (raw_of c.args.buf.now) disk (run c) (is c) backed there

pub returns-clause-fields : goal.returns-clause-fields
returns-clause-fields c = run-fields (core_of c.args.p.now) (core_of c.hold_class-class.new.p) (core_of c.take_body-at.new.p) (core_of c.open_body.new.p) c.args.s.0 c.hold_class-class.result.0 c.take_body-at.result.place (raw_of c.args.buf.now) (run c) (is c)

pub returns-clause-cost : goal.returns-clause-cost
returns-clause-cost c =
    let cost = c.hold_class-class.ensures.cost in
    let same : spare_of c.take_body-at.new.p ≡ spare_of c.hold_class-class.new.p = ap (λ (n : Parts2). table.free_of n.table) c.take_body-at.ensures.same_names in
    let then = c.open_body.ensures.spare in
    (let a = cost.0 in omega arith, let a = cost.1 in omega arith)

took : (c : goal.After-open_body) → TakesRoom (body_words (object_in (raw_of c.args.buf.now)).body) c.args.p.now.segment c.open_body.new.p.segment
took c =
    let words = unresolved-words (raw_of c.args.buf.now).body in
    let t = c.take_body-at.ensures.takes in
    let first = c.hold_class-class.ensures.segment in
    let last = c.open_body.ensures.segment in
    record {
      size = ap size_of last ∙ t.size ∙ ap size_of first;
      free = let a = ap words_free first in let b = ap words_free last in let took = t.free in omega arith;
      largest = let a = ap largest_of first in let b = ap largest_of last in let took = t.largest in omega arith;
    }

pub returns-clause-opens : goal.returns-clause-opens
returns-clause-opens c =
    let r = run c in
    record {
      within = run-within (core_of c.args.p.now) (core_of c.hold_class-class.new.p) (core_of c.take_body-at.new.p) (core_of c.open_body.new.p) c.args.s.0 c.hold_class-class.result.0 c.take_body-at.result.place (raw_of c.args.buf.now) r (is c);
      naming = naming-entry (core_of c.args.p.now) (core_of c.take_body-at.new.p) (core_of c.open_body.new.p) c.args.s.0 (after (core_of c.take_body-at.new.p) c.args.s.0 c.hold_class-class.result.0 c.take_body-at.result.place (raw_of c.args.buf.now))
          (naming-entries (core_of c.args.p.now) (core_of c.hold_class-class.new.p) (core_of c.take_body-at.new.p) r.hold.naming r.entries)
          (ap (λ (f : ℕ → Entry). is_used (f c.args.s.0).state) r.entries ∙ (r.hold.live c.args.s.0 r.used).0) (is c) refl refl;
      body = run-body (core_of c.args.p.now) (core_of c.hold_class-class.new.p) (core_of c.take_body-at.new.p) (core_of c.open_body.new.p) c.args.s.0 c.hold_class-class.result.0 c.take_body-at.result.place (raw_of c.args.buf.now) r (is c);
      opened = run-opened (core_of c.args.p.now) (core_of c.hold_class-class.new.p) (core_of c.take_body-at.new.p) (core_of c.open_body.new.p) c.args.s.0 c.hold_class-class.result.0 c.take_body-at.result.place (raw_of c.args.buf.now) r (is c);
      room = took c;
    }
