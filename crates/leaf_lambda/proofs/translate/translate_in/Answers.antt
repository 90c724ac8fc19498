use Rattle.std.proofs.Common.{◌≡◌, ℕ, Some, replicate, length, sym, ◌∙◌, ap, arith}
use Rattle.std.specs.List.{slice_get}
use Rattle.long_names.specs.declared.object.Kind.{Kind}
use Rattle.object_record.specs.Buffer.{raw_of}
use Rattle.object_table.specs.declared.entry.Entry.{Entry}
use Rattle.object_table.specs.Entries.{place_of, with_refs}
use Rattle.core_view.specs.Words.{pointers}
use Rattle.core_view.specs.Held.{fields_there}
use Rattle.core_view.proofs.Bodies.{leaf-holders}
use Rattle.core_view.proofs.Steps.{Keeps-trans, about-refs}
use Rattle.leaf_lambda.specs.Parts.{core_of}
use Rattle.leaf_lambda.specs.Records.{Opens}
use Rattle.leaf_lambda.proofs.RecordLaws.{fields-values}
use Rattle.leaf_lambda.proofs.TranslateLaws.{Naming-trans, Within-trans, Light-later}
use Rattle.leaf_lambda.proofs.translate.translate_in.Goals as goal

some-same : {A : Type 0} (x y : A) → Some x ≡ Some y → x ≡ y
some-same x y e = cc

pub resolve_fields-requires-clause-light : goal.resolve_fields-requires-clause-light
resolve_fields-requires-clause-light c = Light-later c.args.s.0 (core_of c.args.p.now) (core_of c.open_leaf-at.new.p) c.open_leaf-at.ensures.opens.within c.requires.light

pub resolve_fields-requires-clause-fields : goal.resolve_fields-requires-clause-fields
resolve_fields-requires-clause-fields c =
    ap (λ (k : Kind). pointers k ((core_of c.open_leaf-at.new.p).chunks c.open_leaf-at.result.place).words) c.open_leaf-at.ensures.opens.body.same_kind
    ∙ c.open_leaf-at.ensures.fields ∙ ap (λ (n : ℕ). replicate n 0) (sym c.field_count-count.ensures)

pub resolve_fields-requires-clause-place : goal.resolve_fields-requires-clause-place
resolve_fields-requires-clause-place c = c.open_leaf-at.ensures.opens.body.place

pub returns-clause-keeps : goal.returns-clause-keeps
returns-clause-keeps c = λ disk backed there.
    let first = c.open_leaf-at.ensures.keeps disk backed there in
    Keeps-trans disk (core_of c.args.p.now) (core_of c.open_leaf-at.new.p) (core_of c.resolve_fields.new.p) first
    (c.resolve_fields.ensures.keeps disk first.backed (ap (λ (n : ℕ). fields_there (disk n)) (c.open_leaf-at.ensures.opens.within.live c.args.s.0 c.requires.leaf.0).1 ∙ ap fields_there there ∙ fields-values (raw_of c.args.buf.now).body))

pub returns-clause-lambda : goal.returns-clause-lambda
returns-clause-lambda c = λ at i is.
    let same : at ≡ c.open_leaf-at.result.place = some-same at c.open_leaf-at.result.place (sym is.place ∙ ap (λ (e : Entry). place_of e.state) c.resolve_fields.ensures.resolves.entry ∙ c.open_leaf-at.ensures.opens.body.place) in
    c.resolve_fields.ensures.lambda i (ap (λ (e : Entry). slice_get (pointers e.kind ((core_of c.resolve_fields.new.p).chunks c.open_leaf-at.result.place).words) i) (sym c.resolve_fields.ensures.resolves.entry)
    ∙ ap (λ (z : ℕ). slice_get (pointers ((core_of c.resolve_fields.new.p).entries c.args.s.0).kind ((core_of c.resolve_fields.new.p).chunks z).words) i) (sym same) ∙ is.word)

pub returns-clause-spare : goal.returns-clause-spare
returns-clause-spare c = let cost = c.open_leaf-at.ensures.cost.1 in let least = c.resolve_fields.ensures.resolves.sparing.least in omega arith

pub returns-clause-cost : goal.returns-clause-cost
returns-clause-cost c = let first = c.open_leaf-at.ensures.cost.1 in let then = c.resolve_fields.ensures.resolves.cost in let count = c.field_count-count.ensures in omega arith

came : (c : goal.After-resolve_fields) → Opens c.args.s.0 c.open_leaf-at.result.place (raw_of c.args.buf.now) c.args.p.now c.resolve_fields.new.p
came c =
    let o = c.open_leaf-at.ensures.opens in
    let r = c.resolve_fields.ensures.resolves in
    let a = core_of c.args.p.now in
    let b = core_of c.open_leaf-at.new.p in
    let d = core_of c.resolve_fields.new.p in
    let s = c.args.s.0 in
    record {
      within = Within-trans s a b d o.within r.within;
      naming = Naming-trans a b d o.naming r.naming;
      body = record {
        place = ap (λ (e : Entry). place_of e.state) r.entry ∙ o.body.place;
        same_kind = ap (λ (e : Entry). e.kind) r.entry ∙ o.body.same_kind;
        same_len = ap (λ (e : Entry). e.len) r.entry ∙ o.body.same_len;
        same_fields = ap (λ (e : Entry). length (pointers e.kind (d.chunks c.open_leaf-at.result.place).words)) r.entry ∙ c.resolve_fields.ensures.long ∙ c.field_count-count.ensures;
      };
      opened = record {
        class = o.opened.class;
        used = (r.within.live o.opened.class o.opened.used).0;
        named = (r.within.live o.opened.class o.opened.used).1 ∙ o.opened.named;
        entry = r.entry ∙ ap (λ (e : Entry). with_refs e (d.entries s).refs) o.opened.entry;
      };
      room = record {
        size = r.room.size ∙ o.room.size;
        free = let same = r.room.free in let took = o.room.free in omega arith;
        largest = let same = r.room.largest in let took = o.room.largest in omega arith;
      };
    }

pub returns-clause-opens : goal.returns-clause-opens
returns-clause-opens c = (c.open_leaf-at.result.place, came c)

pub returns-clause-refs : goal.returns-clause-refs
returns-clause-refs c = λ t.
    let within = (came c).within in
    let all = about-refs c.args.s.0 (core_of c.args.p.now) (core_of c.resolve_fields.new.p) t c.requires.parts.core c.resolve_fields.ensures.parts.core within.about (c.requires.parts.core.within c.args.s.0 c.requires.leaf.0) (within.same_outside t) in
    let none = leaf-holders (core_of c.args.p.now) c.args.s.0 t c.requires.leaf.1 in
    omega arith
