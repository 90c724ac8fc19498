use Rattle.std.proofs.Common.{◌≡◌, ◌∙◌, refl, ap, arith}
use Rattle.object_table.specs.declared.entry.Entry.{Entry}
use Rattle.object_table.specs.Entries.{place_of}
use Rattle.core_segment.specs.declared.segment.TheConstants.{HEADER}
use Rattle.core_segment.specs.Segment.{free_of, size_of}
use Rattle.leaf_lambda.specs.Parts.{core_of}
use Rattle.purger.proofs.ForgetLaws.{forgotten-of, left-idle, written-here}
use Rattle.purger.proofs.dying.forget.Goals as goal

pub drop_body-requires-clause-body : goal.drop_body-requires-clause-body
drop_body-requires-clause-body c = (c.requires.body.0, ap (λ (e : Entry). place_of e.state) (written-here (core_of c.args.p.now) (core_of c.set_written.new.p) c.args.s.0 c.set_written.ensures.core) ∙ c.requires.body.1)

pub drop_body-requires-clause-clean : goal.drop_body-requires-clause-clean
drop_body-requires-clause-clean c =
    let here = written-here (core_of c.args.p.now) (core_of c.set_written.new.p) c.args.s.0 c.set_written.ensures.core in
    (ap (λ (e : Entry). e.flags.fresh) here, ap (λ (e : Entry). e.flags.changed) here)

pub free_leaf-requires-clause-idle : goal.free_leaf-requires-clause-idle
free_leaf-requires-clause-idle c = left-idle (core_of c.args.p.now) (core_of c.set_written.new.p) (core_of c.drop_body.new.p) c.args.s.0 c.requires.body.0 c.requires.parts.core c.drop_body.ensures.parts.core c.requires.body.1 c.requires.none c.set_written.ensures.within c.drop_body.ensures.within c.drop_body.ensures.gone

pub returns-clause-forgotten : goal.returns-clause-forgotten
returns-clause-forgotten c = forgotten-of (core_of c.args.p.now) (core_of c.set_written.new.p) (core_of c.drop_body.new.p) (core_of c.free_leaf.new.p) c.args.s.0 c.requires.body.0 c.requires.parts.core c.requires.body.1 c.requires.none
    c.set_written.ensures.core c.set_written.ensures.within c.set_written.ensures.find c.drop_body.ensures.parts.core c.drop_body.ensures.stays c.drop_body.ensures.within c.drop_body.ensures.find c.drop_body.ensures.gone c.free_leaf.ensures.core

pub returns-clause-spare : goal.returns-clause-spare
returns-clause-spare c = let a = c.set_written.ensures.spare in let b = c.drop_body.ensures.spare in let d = c.free_leaf.ensures.spare in omega arith

pub returns-clause-size : goal.returns-clause-size
returns-clause-size c = ap size_of c.free_leaf.ensures.segment ∙ c.drop_body.ensures.size ∙ ap size_of c.set_written.ensures.segment

pub returns-clause-wider : goal.returns-clause-wider
returns-clause-wider c =
    let place = ap (λ (e : Entry). place_of e.state) (written-here (core_of c.args.p.now) (core_of c.set_written.new.p) c.args.s.0 c.set_written.ensures.core) ∙ c.requires.body.1 in
    let more = c.drop_body.ensures.free c.requires.body.0 place in
    let first = ap free_of c.set_written.ensures.segment in
    let last = ap free_of c.free_leaf.ensures.segment in
    let four : HEADER ≡ 4 = refl in
    omega arith
