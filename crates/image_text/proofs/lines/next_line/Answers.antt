use Rattle.std.proofs.Common.{◌≡◌, ◌≤◌, ℕ, true, false, List, length, sym, ap, subst, ◌∙◌, arith}
use Rattle.std.specs.List.{position_or_len}
use Rattle.loom_host.specs.declared.outside.Role.TheVariants.{Image}
use Rattle.image_reader.proofs.Frames.{reads_then}
use Rattle.image_text.specs.Lines.{Comes, is_newline, line_in}
use Rattle.image_text.proofs.LineReads.{comes, open_by, open_is, still_far}
use Rattle.image_text.proofs.lines.next_line.Goals as goal

pub pieces-preserved : goal.pieces-preserved
pieces-preserved g c =
    let old = c.pieces.window.bytes in
    let new = c.read_more.new.window.bytes in
    let open_now = open_by old c.bytes-in-pieces.result.now c.pieces.len c.pieces.window.ended c.has_ended.result c.is_open.result true c.bytes-in-pieces.ensures c.has_ended.ensures c.is_open.ensures c.pieces-test.true in
    let o = open_is (length old) c.pieces.len c.pieces.window.ended open_now in
    record {
      within = subst (λ (bytes : List ℕ). c.line_len-len-in-pieces.result ≤ length bytes) c.bytes-in-pieces-2.ensures c.line_len-len-in-pieces.ensures.within;
      first = λ told.
          let far : length old ≤ position_or_len is_newline new =
          still_far old new (g.H.Host.roles c.pieces.disk.host.now Image).left (g.H.Host.roles c.read_more.new.disk.host.now Image).left c.read_more.new.window.ended
          (c.in_ok-read_more.ensures.rest told) (c.in_ok-read_more.ensures.ends told) c.in_ok-read_more.ensures.more (sym (c.pieces.invariant.first told) ∙ o.0) in
          subst (λ (bytes : List ℕ). c.pieces.len ≤ position_or_len is_newline bytes → c.line_len-len-in-pieces.result ≡ position_or_len is_newline bytes) c.bytes-in-pieces-2.ensures c.line_len-len-in-pieces.ensures.first (omega (arith, o.0, far));
      rest = λ told. c.in_ok-read_more.ensures.rest told ∙ c.pieces.invariant.rest told;
      ends = c.in_ok-read_more.ensures.ends;
      place = c.in_ok-read_more.ensures.place ∙ c.pieces.invariant.place;
      reads = reads_then g.H.Host c.args.disk.now.host.now c.pieces.disk.host.now c.read_more.new.disk.host.now c.pieces.invariant.reads c.read_more.ensures.reads;
      same_rest = c.read_more.ensures.same_rest ∙ c.pieces.invariant.same_rest;
      same_host = c.read_more.ensures.same_host ∙ c.pieces.invariant.same_host;
    }

pub returns-clause-comes : goal.returns-clause-comes
returns-clause-comes g c = λ told.
    let bytes = c.pieces.window.bytes in
    let left = (g.H.Host.roles c.pieces.disk.host.now Image).left in
    let shut = open_by bytes c.bytes-in-pieces.result.now c.pieces.len c.pieces.window.ended c.has_ended.result c.is_open.result false c.bytes-in-pieces.ensures c.has_ended.ensures c.is_open.ensures c.pieces-test.false in
    subst (Comes bytes left) (sym (c.line_in.ensures ∙ ap (λ (b : List ℕ). line_in (length b) c.pieces.len) c.bytes-2.ensures))
    (comes bytes left c.pieces.len c.pieces.window.ended (c.pieces.invariant.first told) (c.pieces.invariant.ends told) shut)
