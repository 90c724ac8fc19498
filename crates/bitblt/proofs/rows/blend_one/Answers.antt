use Rattle.std.proofs.Common.{ℕ, List, Option, refl, sym, ap, ◌∙◌}
use Rattle.contexts.proofs.ServesLaws.{serves_exit}
use Rattle.bitblt.specs.Transfers.{source_pixel, row_words}
use Rattle.bitblt.specs.Blits.{dest_words, source_words, blit_words}
use Rattle.bitblt.proofs.RunReads.{rooms_looked, source_looked, row_looked, source_then, written_later}
use Rattle.bitblt.proofs.rows.blend_one.Goals as goal

pub returns-in_err-read_source-clause-serves : goal.returns-in_err-read_source-clause-serves
unfolding blit_words
returns-in_err-read_source-clause-serves g c = λ cpu. serves_exit _ _ (c.in_err-read_source.ensures.serves cpu) c.from_residual.ensures.1

pub blend_run-requires-clause-rooms : goal.blend_run-requires-clause-rooms
blend_run-requires-clause-rooms g c = rooms_looked c.args.t.now _ _ c.in_ok-read_source.ensures.fit.ready c.in_ok-read_source.ensures.looks c.requires.rooms

pub blend_run-requires-clause-pixels : goal.blend_run-requires-clause-pixels
blend_run-requires-clause-pixels g c told x hl hr =
    let read = c.in_ok-read_source.ensures in
    let before = sym read.looks.later.tells ∙ told in
    read.pixels before x hl hr ∙ sym (ap (λ (s : Option (List ℕ)). source_pixel c.args.t.now s x c.args.y) (source_looked c.args.t.now.has_source _ _ read.fit.ready read.looks before))

pub returns-clause-serves : goal.returns-clause-serves
returns-clause-serves g c = λ cpu.
    let t = c.args.t.now in
    let m = g.M.ObjectMemory.told c.args.m.now in
    let mid = g.M.ObjectMemory.told c.read_source.new.m in
    let read = c.in_ok-read_source.ensures in
    source_then t.has_source (m.regs 14) (m.regs 13) (row_words t (source_words t.has_source mid) c.args.halftone.now (dest_words mid) c.args.y) (row_words t (source_words t.has_source m) c.args.halftone.now (dest_words m) c.args.y)
    (read.looks.regs 13 refl) (λ told. row_looked t m mid c.args.halftone.now c.args.y read.fit.ready read.looks (sym read.looks.later.tells ∙ told))
    (read.serves cpu) (c.blend_run.ensures.serves cpu)

pub returns-clause-written : goal.returns-clause-written
returns-clause-written g c =
    let t = c.args.t.now in
    let m = g.M.ObjectMemory.told c.args.m.now in
    let mid = g.M.ObjectMemory.told c.read_source.new.m in
    let read = c.in_ok-read_source.ensures in
    written_later c.blend_run.result t m mid (g.M.ObjectMemory.told c.blend_run.new.m) (row_words t (source_words t.has_source mid) c.args.halftone.now (dest_words mid) c.args.y) (row_words t (source_words t.has_source m) c.args.halftone.now (dest_words m) c.args.y)
    read.fit.ready read.looks (row_looked t m mid c.args.halftone.now c.args.y read.fit.ready read.looks) c.blend_run.ensures.written
