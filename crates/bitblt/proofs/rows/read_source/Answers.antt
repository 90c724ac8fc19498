use Rattle.std.proofs.Common.{rules, ◌≡◌, ℕ, ◌+◌, ◌-◌, ◌*◌, ◌/◌, ◌<◌, ◌≤◌, List, Some, None, length, replicate, take, refl, ap, sym, ◌∙◌, arith, cond}
use Rattle.blue_model.specs.Forms.{bit}
use Rattle.long_names.specs.Access.{ReadWords}
use Rattle.object_memory.proofs.LooksLaws.{Looks-access}
use Rattle.contexts.proofs.ServesLaws.{exits}
use Rattle.bitblt.specs.Transfers.{source_pixel, skip_of}
use Rattle.bitblt.specs.Blits.{words_at}
use Rattle.bitblt.proofs.Runs.{buffer-bit}
use Rattle.bitblt.proofs.RunReads.{source_refused, source_read, run_read}
use Rattle.bitblt.proofs.rows.read_source.Goals as goal

pub returns-in_err-read_words-clause-serves : goal.returns-in_err-read_words-clause-serves
returns-in_err-read_words-clause-serves g c = λ cpu. exits _ c.from_residual.ensures.1 (source_refused c.args.t.now.has_source 14 _ _ c.requires.some c.requires.fit.ready (c.requires.rooms.source c.requires.some).name c.in_err-read_words.ensures.access.called)

pub returns-clause-serves : goal.returns-clause-serves
returns-clause-serves g c = λ cpu. source_read c.args.t.now.has_source 14 c.requires.some c.requires.fit.ready c.in_ok-read_words.ensures.fit.ready (c.requires.rooms.source c.requires.some).name (Looks-access _ _ (ReadWords 14 _ _) refl c.in_ok-read_words.ensures.access.called)

pub returns-clause-pixels : goal.returns-clause-pixels
unfolding source_pixel
returns-clause-pixels g c told x hl hr =
    let t = c.args.t.now in
    let m = g.M.ObjectMemory.told c.args.m.now in
    let words = words_at m.heap (m.regs 14) in
    let rows = t.source_stride * (c.args.y - t.top + t.source_top) in
    let len : length c.read_words.new.out ≡ (t.source_left + (t.right - 1 - t.left)) / 16 - t.source_left / 16 + 1 = search rules in
    let has : 1 ≤ length c.args.out.now = omega arith in
    let place : 16 * rows + (x - t.left + t.source_left) ≡ 16 * t.source_stride * (c.args.y - t.top + t.source_top) + (x - t.left + t.source_left) = omega arith in
    buffer-bit c.args.out.now c.read_words.new.out words (1 + ((t.source_left + (t.right - 1 - t.left)) / 16 - t.source_left / 16 + 1) - 1) rows t.left t.right t.source_left x
    has len (λ i h. run_read m 14 _ _ c.read_words.new.out (c.in_ok-read_words.ensures.access.answer told) i (search rules)) hl hr
    ∙ ap (bit words) place
    ∙ sym (ap (λ b. source_pixel t (cond b (Some words) None) x c.args.y) c.requires.some)
