use Rattle.std.proofs.Common.{refl, sym, ap, arith}
use Rattle.loom_host.specs.declared.outside.Role.TheVariants.{Work}
use Rattle.object_record.specs.Buffer.{raw_of}
use Rattle.object_record.specs.Objects.{object_in}
use Rattle.core_view.specs.Counted.{words_of}
use Rattle.purger.specs.Pager.{core_in}
use Rattle.purger.proofs.DrainLaws.{body-values, words-read-if}
use Rattle.purger.proofs.DyingLaws.{frees-behind, may-read, reads-body, took-frees, took-object, took-sound}
use Rattle.purger.proofs.SoundLaws.{core-at}
use Rattle.purger.proofs.pager.Pager.free_body.Goals as goal

pub lower_words-requires-clause-values : goal.lower_words-requires-clause-values
lower_words-requires-clause-values g c = λ told.
    let s = c.args.s.0 in
    let b = c.make_record.new.self in
    let reads = c.make_record.ensures.reads in
    let may = may-read s c.args.self.now b c.make_record.result reads c.requires.may in
    let x = may.dead told in
    let at = c.requires.may.body in
    body-values x.0 (core_in b) s at.0 (raw_of c.take_out.new.self.out) (core-at g.H.Host b.levels.parts b.levels.disk.host.now b.levels.disk.rest x.0 x.1) x.2 (reads-body s at.0 c.args.self.now b c.make_record.result reads at.1)
    (took-object s at.0 c.args.self.now b c.take_out.new.self c.make_record.result reads c.take_out.ensures.takes.out x.0 (c.in_ok-make_record.ensures.object told x.0 at.0 x.1 x.2 at.1))

pub lower_words-requires-clause-sound : goal.lower_words-requires-clause-sound
lower_words-requires-clause-sound g c =
    let s = c.args.s.0 in
    let a = c.args.self.now in
    let b = c.make_record.new.self in
    let d = c.take_out.new.self in
    let reads = c.make_record.ensures.reads in
    let may = may-read s a b c.make_record.result reads c.requires.may in
    let at = c.requires.may.body in
    took-sound s at.0 b d c.in_ok-take_out.field-0 (words_of (object_in (raw_of d.out))) may (reads-body s at.0 a b c.make_record.result reads at.1) c.in_ok-take_out.ensures.takes
    (λ told t stands z. ap words_of (sym (took-object s at.0 a b d c.make_record.result reads c.take_out.ensures.takes.out t (c.in_ok-make_record.ensures.object told t at.0 stands z at.1))))

pub returns-clause-frees : goal.returns-clause-frees
returns-clause-frees g c =
    let h = g.H.Host in
    let s = c.args.s.0 in
    let a = c.args.self.now in
    let b = c.make_record.new.self in
    let d = c.take_out.new.self in
    let e = c.lower_words in
    let reads = c.make_record.ensures.reads in
    let may = may-read s a b c.make_record.result reads c.requires.may in
    let at = c.requires.may.body in
    frees-behind s a b _ c.make_record.result e.result reads
    (took-frees s at.0 b d _ c.in_ok-take_out.field-0 e.result (words_of (object_in (raw_of d.out))) may (reads-body s at.0 a b c.make_record.result reads at.1) c.in_ok-take_out.ensures.takes
    (λ told t stands z. ap words_of (sym (took-object s at.0 a b d c.make_record.result reads c.take_out.ensures.takes.out t (c.in_ok-make_record.ensures.object told t at.0 stands z at.1))))
    refl e.ensures.leaves e.ensures.keeps (words-read-if (h.tells Work) _ _ _ d.levels.disk.rest (words_of (object_in (raw_of d.out))) _ _ e.result (omega arith) e.ensures.fault))
