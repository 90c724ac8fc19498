use Rattle.std.proofs.Common.{ℕ, true, false, Option, is_some, sym, ap, ◌∙◌}
use Rattle.loom_host.specs.Work.{work_of}
use Rattle.disk_objects.specs.Function.{disk_of}
use Rattle.image_writer.proofs.DiskFacts.{not_some, counted_there, held_name, word_none, word_there}
use Rattle.image_writer.proofs.pieces.kept_word.Goals as goal

pub returns-in_default-clause-word : goal.returns-in_default-clause-word
returns-in_default-clause-word g c = λ told.
    word_none (disk_of g.H.Host c.args.disk.now.host.now c.args.disk.now.rest) c.args.word (held_name g.H.Host c.args.disk.now.host.now c.args.disk.now.rest c.args.word c.requires.stands told) (λ name. not_some c.new.result c.in_default.not-Some (c.new.ensures.name.1 name))

pub returns-in-Some-2-clause-word : goal.returns-in-Some-2-clause-word
returns-in-Some-2-clause-word g c = λ told.
    let count = ap (λ (o : Option ℕ). is_some o) (sym c.in-Some-2.is ∙ c.in_ok-count.ensures.found told) in
    let there = sym (counted_there c.args.disk.now.rest (work_of g.H.Host c.args.disk.now.host.now) c.in-Some.name) ∙ sym count in
    word_there (disk_of g.H.Host c.args.disk.now.host.now c.args.disk.now.rest) c.args.word true (rw (← c.in-Some.ensures.value) there)

pub returns-in-None-clause-word : goal.returns-in-None-clause-word
returns-in-None-clause-word g c = λ told.
    let count = ap (λ (o : Option ℕ). is_some o) (sym c.in-None.is ∙ c.in_ok-count.ensures.found told) in
    let there = sym (counted_there c.args.disk.now.rest (work_of g.H.Host c.args.disk.now.host.now) c.in-Some.name) ∙ sym count in
    word_there (disk_of g.H.Host c.args.disk.now.host.now c.args.disk.now.rest) c.args.word false (rw (← c.in-Some.ensures.value) there)
