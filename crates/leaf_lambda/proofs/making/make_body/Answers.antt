use Rattle.std.proofs.Common.{ℕ, ◌≡◌, ◌∙◌, Some, ap, arith, subst}
use Rattle.core_segment.specs.Segment.{size_of, free_of, largest_of}
use Rattle.object_table.specs.Entries.{put}
use Rattle.leaf_lambda.specs.Parts.{core_of}
use Rattle.leaf_lambda.specs.Making.{IsHoldingMany, IsMade, body_new}
use Rattle.std.specs.Prelude.{[]}
use Rattle.core_view.specs.Words.{meant}
use Rattle.core_view.specs.Held.{held}
use Rattle.leaf_lambda.proofs.ValuedLaws.{new-valued}
use Rattle.leaf_lambda.proofs.MakeLaws.{IsMakeRun, many-held, make-opening, make-within, make-held, make-backed, make-made}
use Rattle.leaf_lambda.proofs.making.make_body.Goals as goal

run-then : (c : goal.After-open_new-arg-1) → IsMakeRun (core_of c.args.p.now) (core_of c.grip.new.p) (core_of c.hold_many.new.p) (core_of c.take_new-at.new.p) c.args.s.0 c.args.class.0 c.take_new-at.result.place c.args.filler c.args.kind c.args.len c.args.header
run-then c = record {
  core_a = c.requires.parts.core;
  class_held = many-held (core_of c.args.p.now) (core_of c.grip.new.p) c.args.class.0 1 c.requires.parts.core c.requires.class c.grip.ensures.core;
  filler_held = subst (λ (n : ℕ). IsHoldingMany c.args.filler n (core_of c.grip.new.p) (core_of c.hold_many.new.p)) c.count_new-fields.ensures c.hold_many.ensures.held;
  core_h = c.hold_many.ensures.parts.core;
  vacant = c.take_new-at.ensures.vacant;
  chunk = c.take_new-at.ensures.core;
  core_m = c.take_new-at.ensures.parts.core;
  used = c.requires.leaf.0;
  leaf = c.requires.leaf.1;
  class_used = c.requires.class;
  filler_used = c.requires.filler;
  some = c.requires.some;
  small = c.requires.len;
}

run : (c : goal.After-open_new) → IsMakeRun (core_of c.args.p.now) (core_of c.grip.new.p) (core_of c.hold_many.new.p) (core_of c.take_new-at.new.p) c.args.s.0 c.args.class.0 c.take_new-at.result.place c.args.filler c.args.kind c.args.len c.args.header
run c = record {
  core_a = c.requires.parts.core;
  class_held = many-held (core_of c.args.p.now) (core_of c.grip.new.p) c.args.class.0 1 c.requires.parts.core c.requires.class c.grip.ensures.core;
  filler_held = subst (λ (n : ℕ). IsHoldingMany c.args.filler n (core_of c.grip.new.p) (core_of c.hold_many.new.p)) c.count_new-fields.ensures c.hold_many.ensures.held;
  core_h = c.hold_many.ensures.parts.core;
  vacant = c.take_new-at.ensures.vacant;
  chunk = c.take_new-at.ensures.core;
  core_m = c.take_new-at.ensures.parts.core;
  used = c.requires.leaf.0;
  leaf = c.requires.leaf.1;
  class_used = c.requires.class;
  filler_used = c.requires.filler;
  some = c.requires.some;
  small = c.requires.len;
}

pub open_new-requires-clause-opening : goal.open_new-requires-clause-opening
open_new-requires-clause-opening c = make-opening (core_of c.args.p.now) (core_of c.grip.new.p) (core_of c.hold_many.new.p) (core_of c.take_new-at.new.p) c.args.s.0 c.args.class.0 c.take_new-at.result.place c.args.filler c.args.kind c.args.len c.args.header (run-then c)

pub returns-clause-within : goal.returns-clause-within
returns-clause-within c = make-within (core_of c.args.p.now) (core_of c.grip.new.p) (core_of c.hold_many.new.p) (core_of c.take_new-at.new.p) (core_of c.open_new.new.p) c.args.s.0 c.args.class.0 c.take_new-at.result.place c.args.filler c.args.kind c.args.len c.args.header (run c) c.open_new.ensures.core

is-made : (c : goal.After-open_new) → IsMade c.args.s.0 c.args.class.0 c.take_new-at.result.place c.args.kind c.args.len c.args.header c.args.filler (core_of c.args.p.now) (core_of c.open_new.new.p)
is-made c = make-made (core_of c.args.p.now) (core_of c.grip.new.p) (core_of c.hold_many.new.p) (core_of c.take_new-at.new.p) (core_of c.open_new.new.p) c.args.s.0 c.args.class.0 c.take_new-at.result.place c.args.filler c.args.kind c.args.len c.args.header (run c) c.open_new.ensures.core

pub returns-clause-body : goal.returns-clause-body
returns-clause-body c = (c.take_new-at.result.place, is-made c)

pub returns-clause-makes : goal.returns-clause-makes
returns-clause-makes c = λ disk backed.
    let made : held (core_of c.open_new.new.p) disk ≡ put (held (core_of c.args.p.now) disk) ((core_of c.args.p.now).entries c.args.s.0).name
    (Some (record { class = ((core_of c.args.p.now).entries c.args.class.0).name; body = body_new c.args.kind c.args.len c.args.header (meant (core_of c.args.p.now).entries [] 0 c.args.filler) })) =
    make-held (core_of c.args.p.now) (core_of c.grip.new.p) (core_of c.hold_many.new.p) (core_of c.take_new-at.new.p) (core_of c.open_new.new.p) c.args.s.0 c.args.class.0 c.take_new-at.result.place c.args.filler c.args.kind c.args.len c.args.header disk (run c) c.open_new.ensures.core backed in
    record {
      backed = λ none. make-backed (core_of c.args.p.now) (core_of c.grip.new.p) (core_of c.hold_many.new.p) (core_of c.take_new-at.new.p) (core_of c.open_new.new.p) c.args.s.0 c.args.class.0 c.take_new-at.result.place c.args.filler c.args.kind c.args.len c.args.header disk (run c) c.open_new.ensures.core backed none;
      heap = made;
      valued = new-valued (held (core_of c.args.p.now) disk) (held (core_of c.open_new.new.p) disk) ((core_of c.args.p.now).entries c.args.s.0).name ((core_of c.args.p.now).entries c.args.class.0).name c.args.kind c.args.len c.args.header (meant (core_of c.args.p.now).entries [] 0 c.args.filler)
          made c.words_mean_values.ensures;
    }

pub returns-clause-takes : goal.returns-clause-takes
returns-clause-takes c =
    let t = c.take_new-at.ensures.takes in
    let held = c.grip.ensures.segment in
    let first = c.hold_many.ensures.segment in
    let last = c.open_new.ensures.segment in
    record {
      size = ap size_of last ∙ t.size ∙ ap size_of first ∙ ap size_of held;
      free = let a = ap free_of held in let b = ap free_of first in let d = ap free_of last in let took = t.free in omega arith;
      largest = let a = ap largest_of held in let b = ap largest_of first in let d = ap largest_of last in let took = t.largest in omega arith;
    }
