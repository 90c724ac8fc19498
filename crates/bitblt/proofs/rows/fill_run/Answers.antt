use Rattle.std.proofs.Common.{rules, ◌≡◌, ◌+◌, ◌*◌, ◌^◌, ◌<◌, ◌≤◌, [], length, refl, ap, arith, IsTrue, Some, None, cond}
use Rattle.std.proofs.lemmas.List.Elements.{All-from_get_or}
use Rattle.long_names.specs.Objects.{words_of, put_run, with_words}
use Rattle.long_names.specs.Access.{ReadWords, WriteWords}
use Rattle.object_memory.specs.Contract.{MayDo}
use Rattle.object_memory.specs.Shape.{Looks}
use Rattle.object_memory.proofs.Callers.{may_set_words}
use Rattle.object_memory.proofs.LooksLaws.{Looks-access}
use Rattle.blue_model.specs.BitBlt.{put_words}
use Rattle.contexts.proofs.ServesLaws.{exits}
use Rattle.contexts.proofs.StoreLaws.{change_refused, change_later}
use Rattle.bitblt.specs.Transfers.{run_start, run_length, row_words}
use Rattle.bitblt.specs.Blits.{words_at, dest_words, source_words, HasRooms}
use Rattle.bitblt.proofs.Runs.{filled-after, filled-none, run-written, row_words-length, tall-dest}
use Rattle.bitblt.proofs.BlitLaws.{rooms_there, run_serves, written_serves}
use Rattle.bitblt.proofs.RunReads.{run_read, weaker, dest_room, rooms_looked, is_written}
use Rattle.bitblt.proofs.rows.fill_run.Goals as goal

pub returns-in_err-read_words-clause-serves : goal.returns-in_err-read_words-clause-serves
unfolding put_words
returns-in_err-read_words-clause-serves g c = λ cpu.
    exits _ c.from_residual.ensures.1 (change_refused words_of (λ b. with_words b 0 _) 13 (ReadWords 13 _ _) refl c.requires.fit.ready c.requires.rooms.dest.name c.in_err-read_words.ensures.access.called)

pub write_words-requires-clause-may : goal.write_words-requires-clause-may
write_words-requires-clause-may g c =
    let t = c.args.t.now in
    let read = c.in_ok-read_words.ensures in
    let looks = Looks-access _ _ (ReadWords 13 _ _) refl read.access.called in
    let rooms = rooms_looked t _ _ read.fit.ready looks c.requires.rooms in
    let len : length c.fill_row.new.row ≡ run_length t = search rules in
    let low = (tall-dest t c.args.y c.requires.fits.columns c.requires.fits.wide c.requires.below).1 in
    may_set_words _ 13 (run_start t c.args.y) c.fill_row.new.row
    (weaker (λ words. t.stride * t.bottom ≤ length words) (λ words. run_start t c.args.y + length c.fill_row.new.row ≤ length words) (λ words room. omega (arith, len, low, room)) rooms.dest)
    (All-from_get_or (λ w. w < 2 ^ 16) c.fill_row.new.row 0 (λ i l. c.fill_row.ensures.fits i))

pub returns-in_err-write_words-clause-serves : goal.returns-in_err-write_words-clause-serves
unfolding put_words
returns-in_err-write_words-clause-serves g c = λ cpu.
    let read = c.in_ok-read_words.ensures in
    let looks = Looks-access _ _ (ReadWords 13 _ _) refl read.access.called in
    let rooms = rooms_looked c.args.t.now _ _ read.fit.ready looks c.requires.rooms in
    exits _ c.from_residual-in_err-write_words.ensures.1
    (change_later words_of (λ b. with_words b 0 _) 13 c.requires.fit.ready read.fit.ready looks
    (change_refused words_of (λ b. with_words b 0 _) 13 (WriteWords 13 _ _) refl read.fit.ready rooms.dest.name c.in_err-write_words.ensures.access.called))

pub returns-clause-serves : goal.returns-clause-serves
returns-clause-serves g c = λ cpu.
    let t = c.args.t.now in
    let m = g.M.ObjectMemory.told c.args.m.now in
    let mid = g.M.ObjectMemory.told c.read_words.new.self in
    let source = source_words t.has_source m in
    let lacks : source ≡ None = ap (λ b. cond b (Some (words_at m.heap (m.regs 14))) None) c.requires.none in
    let words = dest_words m in
    let run = c.fill_row.new.row in
    let read = c.in_ok-read_words.ensures in
    let wrote = c.in_ok-write_words.ensures in
    let looks : Looks [] m mid = Looks-access m mid (ReadWords 13 _ _) refl read.access.called in
    let rooms : HasRooms t mid = rooms_looked t m mid read.fit.ready looks c.requires.rooms in
    let len : length run ≡ run_length t = search rules in
    let low = (tall-dest t c.args.y c.requires.fits.columns c.requires.fits.wide c.requires.below).1 in
    let made : IsTrue m.tells → put_run words (run_start t c.args.y) run ≡ row_words t source c.args.halftone.now words c.args.y = λ told.
    run-written t source c.args.halftone.now words run c.args.y len (dest_room t m c.requires.rooms told (run_start t c.args.y + run_length t) low)
    (filled-none t source c.args.halftone.now words run c.args.y lacks
    (filled-after t c.args.halftone.now words c.read_words.new.out run c.args.y
    c.requires.fits.columns c.requires.fits.wide c.requires.row c.requires.below
    (search rules) (λ i h. run_read m 13 _ _ c.read_words.new.out (read.access.answer told) i (search rules)) (λ n h. c.fill_row.ensures.bits c.args.t.now.rule c.requires.masks n (search rules)) c.fill_row.ensures.fits)) in
    run_serves t.has_source (m.regs 14) (m.regs 13) words run (row_words t source c.args.halftone.now words c.args.y) (run_start t c.args.y)
    (rooms_there t m cpu c.requires.fit.ready c.requires.rooms)
    (λ told. (made told, row_words-length t source c.args.halftone.now words c.args.y))
    (change_later words_of (λ b. with_words b (run_start t c.args.y) run) 13 c.requires.fit.ready read.fit.ready looks
    (written_serves 13 (run_start t c.args.y) run read.fit.ready wrote.fit.ready (λ told. (let it = rooms.dest.there told in (it.0, it.1))) wrote.access.called))

pub returns-clause-written : goal.returns-clause-written
returns-clause-written g c =
    let t = c.args.t.now in
    let m = g.M.ObjectMemory.told c.args.m.now in
    let mid = g.M.ObjectMemory.told c.read_words.new.self in
    let new = g.M.ObjectMemory.told c.write_words.new.self in
    let source = source_words t.has_source m in
    let lacks : source ≡ None = ap (λ b. cond b (Some (words_at m.heap (m.regs 14))) None) c.requires.none in
    let words = dest_words m in
    let run = c.fill_row.new.row in
    let read = c.in_ok-read_words.ensures in
    let wrote = c.in_ok-write_words.ensures in
    let looks : Looks [] m mid = Looks-access m mid (ReadWords 13 _ _) refl read.access.called in
    let rooms : HasRooms t mid = rooms_looked t m mid read.fit.ready looks c.requires.rooms in
    let len : length run ≡ run_length t = search rules in
    let low = (tall-dest t c.args.y c.requires.fits.columns c.requires.fits.wide c.requires.below).1 in
    let may : MayDo mid (WriteWords 13 (run_start t c.args.y) run) =
    may_set_words mid 13 (run_start t c.args.y) run
    (weaker (λ words. t.stride * t.bottom ≤ length words) (λ words. run_start t c.args.y + length run ≤ length words) (λ words room. omega (arith, len, low, room)) rooms.dest)
    (All-from_get_or (λ w. w < 2 ^ 16) run 0 (λ i l. c.fill_row.ensures.fits i)) in
    is_written t m mid new (run_start t c.args.y) run (row_words t source c.args.halftone.now words c.args.y) read.fit.ready wrote.fit.ready looks c.requires.rooms may wrote.access.called
    (λ told.
    run-written t source c.args.halftone.now words run c.args.y len (dest_room t m c.requires.rooms told (run_start t c.args.y + run_length t) low)
    (filled-none t source c.args.halftone.now words run c.args.y lacks
    (filled-after t c.args.halftone.now words c.read_words.new.out run c.args.y
    c.requires.fits.columns c.requires.fits.wide c.requires.row c.requires.below
    (search rules) (λ i h. run_read m 13 _ _ c.read_words.new.out (read.access.answer told) i (search rules)) (λ n h. c.fill_row.ensures.bits c.args.t.now.rule c.requires.masks n (search rules)) c.fill_row.ensures.fits)))
