use Rattle.std.proofs.Common.{◌∙◌, sym, ap, arith}
use Rattle.std.specs.Option.{is_some}
use Rattle.object_table.specs.declared.entry.Entry.{Entry}
use Rattle.object_table.specs.Entries.{is_used, place_of}
use Rattle.core_segment.specs.Segment.{largest_of, size_of}
use Rattle.leaf_lambda.specs.Parts.{core_of}
use Rattle.loom_memory.proofs.ClassLaws.{short-some}
use Rattle.loom_memory.proofs.NewLaws.{IsOpened, leaf-bare, opened-new, opened-sound}
use Rattle.loom_memory.proofs.new_object.put_new.Goals as goal

pub new_leaf-s-requires-clause-absent : goal.new_leaf-s-requires-clause-absent
unfolding core_of
new_leaf-s-requires-clause-absent c = sym c.in-None.ensures

pub make_body-requires-clause-light : goal.make_body-requires-clause-light
make_body-requires-clause-light c = λ t. let same = c.new_leaf-s.ensures.step.same_outside t in let few = c.requires.light t in omega (arith, same, few)

pub make_body-requires-clause-leaf : goal.make_body-requires-clause-leaf
make_body-requires-clause-leaf c = leaf-bare (core_of c.args.p.now) (core_of c.new_leaf-s.new.p) c.new_leaf-s.result.0 c.args.name c.new_leaf-s.ensures.leaf.1

pub make_body-requires-clause-class : goal.make_body-requires-clause-class
make_body-requires-clause-class c = ap (λ (e : Entry). is_used e.state) (c.new_leaf-s.ensures.step.used c.args.class.0 c.requires.class) ∙ c.requires.class

pub make_body-requires-clause-filler : goal.make_body-requires-clause-filler
make_body-requires-clause-filler c = λ short. ap (λ (e : Entry). is_used e.state) (c.new_leaf-s.ensures.step.used c.args.nil.0 c.requires.nil.0) ∙ c.requires.nil.0

pub make_body-requires-clause-some : goal.make_body-requires-clause-some
make_body-requires-clause-some c = short-some c.args.nil.0 (c.requires.parts.core.short c.args.nil.0 c.requires.nil.0)

pub make_body-requires-clause-room : goal.make_body-requires-clause-room
make_body-requires-clause-room c = let same = ap largest_of c.new_leaf-s.ensures.segment in let room = c.requires.room in omega (arith, same, room)

opened : (c : goal.After-make_body) → IsOpened (core_of c.args.p.now) (core_of c.new_leaf-s.new.p) (core_of c.make_body.new.p) c.args.name c.args.class.0 c.args.nil.0 c.args.kind c.args.len c.args.header c.new_leaf-s.result.0
opened c = record {
  core = c.requires.parts.core;
  core_m = c.new_leaf-s.ensures.parts.core;
  core_d = c.make_body.ensures.parts.core;
  spare = c.new_leaf-s.ensures.leaf.0;
  is = c.new_leaf-s.ensures.leaf.1;
  step = c.new_leaf-s.ensures.step;
  class_used = c.requires.class;
  nil_used = c.requires.nil.0;
  nil_named = c.requires.nil.1;
  within = c.make_body.ensures.within;
  body = c.make_body.ensures.body;
  backed = (λ disk backed. (c.make_body.ensures.makes disk backed).backed);
  heap = (λ disk backed. (c.make_body.ensures.makes disk backed).heap);
  valued = (λ disk backed. (c.make_body.ensures.makes disk backed).valued);
}

pub returns-in-None-clause-made : goal.returns-in-None-clause-made
returns-in-None-clause-made c = opened-new (core_of c.args.p.now) (core_of c.new_leaf-s.new.p) (core_of c.make_body.new.p) c.args.name c.args.class.0 c.args.nil.0 c.args.kind c.args.len c.args.header c.new_leaf-s.result.0 (opened c)

pub returns-in-None-clause-sound : goal.returns-in-None-clause-sound
returns-in-None-clause-sound c = λ t is x next. opened-sound (core_of c.args.p.now) (core_of c.new_leaf-s.new.p) (core_of c.make_body.new.p) c.args.name c.args.class.0 c.args.nil.0 c.args.kind c.args.len c.args.header c.new_leaf-s.result.0 t (opened c) is c.requires.long next x

pub returns-in-None-clause-size : goal.returns-in-None-clause-size
returns-in-None-clause-size c = c.make_body.ensures.takes.size ∙ ap size_of c.new_leaf-s.ensures.segment

pub returns-in-Some-clause-none : goal.returns-in-Some-clause-none
unfolding core_of
returns-in-Some-clause-none c = λ none. (let there = c.in-Some.ensures in let both = sym none ∙ sym there in cc)

pub returns-in-None-clause-body : goal.returns-in-None-clause-body
returns-in-None-clause-body c = ap (λ (e : Entry). is_some (place_of e.state)) c.make_body.ensures.body.1.entry
