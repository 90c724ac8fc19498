use Rattle.std.proofs.Common.{◌≡◌, ◌+◌, ◌-◌, ◌≤◌, IsTrue, length, cond}
use Rattle.std.specs.List.{position_or_len}
use Rattle.loom_host.specs.declared.outside.Role.TheVariants.{Image}
use Rattle.image_reader.specs.Frames.{ReadsImage}
use Rattle.image_reader.specs.Window.{EndsTruly, unused}
use Rattle.text_lines.specs.declared.limits.TheConstants.{LONGEST_LINE}
use Rattle.image_text.specs.Lines.{is_newline}
use Rattle.image_text.proofs.lines.next_line.Given as goal

abbrev pub invariant-pieces : goal.invariant-pieces
invariant-pieces g l = record {
  within : l.len ≤ length l.window.bytes;
  first : IsTrue (g.H.Host.tells Image) → l.len ≡ position_or_len is_newline l.window.bytes;
  rest : IsTrue (g.H.Host.tells Image) → unused l.window (g.H.Host.roles l.disk.host.now Image) ≡ unused l.initial.window (g.H.Host.roles l.initial.disk.host.now Image);
  ends : IsTrue (g.H.Host.tells Image) → EndsTruly l.window (g.H.Host.roles l.disk.host.now Image);
  place : l.window.place ≡ l.initial.window.place;
  reads : ReadsImage g.H.Host l.initial.disk.host.now l.disk.host.now;
  same_rest : l.disk.rest ≡ l.initial.disk.rest;
  same_host : l.disk.host.ghost_name ≡ l.initial.disk.host.ghost_name;
}

abbrev pub decreases-pieces : goal.decreases-pieces
decreases-pieces g l = cond l.window.ended 0 (1 + (LONGEST_LINE + 1 - length l.window.bytes))
