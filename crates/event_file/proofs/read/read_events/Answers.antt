use Rattle.std.proofs.Common.{◌+◌, length, rules, ◌∙◌}
use Rattle.loom_host.specs.declared.outside.Role.TheVariants.{Events}
use Rattle.event_file.specs.Reading.{begun_text}
use Rattle.event_file.specs.declared.limits.TheConstants.{PIECE}
use Rattle.event_file.proofs.PieceLaws.{took-most, took-both, took-more, aligned-more, stops-then}
use Rattle.event_file.proofs.read.read_events.Goals as goal

pub returns-in_err-read_piece-clause-taken : goal.returns-in_err-read_piece-clause-taken
returns-in_err-read_piece-clause-taken g c = λ told.
    let told_of = g.H.Host.roles in
    took-most (length (begun_text c.pieces.reading) + PIECE) (told_of c.args.host.now Events) (told_of c.read_piece.new.host Events)
    (took-both (length (begun_text c.pieces.reading)) PIECE (told_of c.args.host.now Events) (told_of c.pieces.host Events) (told_of c.read_piece.new.host Events)
    (c.pieces.invariant.taken told) (c.in_err-read_piece.ensures.taken told))

pub returns-in_err-read_piece-clause-stops : goal.returns-in_err-read_piece-clause-stops
returns-in_err-read_piece-clause-stops g c = λ told line was.
    let told_of = g.H.Host.roles in
    stops-then c.pieces.reading (told_of c.args.host.now Events) (told_of c.pieces.host Events) (told_of c.read_piece.new.host Events)
    c.pieces.invariant.begun c.pieces.invariant.aligned (c.pieces.invariant.taken told) (c.in_err-read_piece.ensures.taken told) (c.pieces.invariant.text told)

pub pieces-preserved : goal.pieces-preserved
pieces-preserved g c = record {
  text = λ told. c.in_ok-read_piece.ensures.text told ∙ c.pieces.invariant.text told;
  taken = λ told. let told_of = g.H.Host.roles in
      took-more PIECE (begun_text c.pieces.reading) _ (told_of c.args.host.now Events) (told_of c.pieces.host Events) (told_of c.read_piece.new.host Events)
      (c.pieces.invariant.taken told) (c.in_ok-read_piece.ensures.taken told) (c.in_ok-read_piece.ensures.text told);
  begun = search rules;
  aligned = aligned-more c.pieces.reading c.read_piece.new.self c.pieces.invariant.aligned (search rules);
  others = search rules;
}

pub returns-clause-taken : goal.returns-clause-taken
returns-clause-taken g c = λ told.
    let told_of = g.H.Host.roles in
    took-most (length (begun_text c.read_piece.new.self)) (told_of c.args.host.now Events) (told_of c.read_piece.new.host Events)
    (took-more PIECE (begun_text c.pieces.reading) _ (told_of c.args.host.now Events) (told_of c.pieces.host Events) (told_of c.read_piece.new.host Events)
    (c.pieces.invariant.taken told) (c.in_ok-read_piece.ensures.taken told) (c.in_ok-read_piece.ensures.text told))

pub returns-clause-stops : goal.returns-clause-stops
returns-clause-stops g c = λ told line was.
    let told_of = g.H.Host.roles in
    stops-then c.pieces.reading (told_of c.args.host.now Events) (told_of c.pieces.host Events) (told_of c.read_piece.new.host Events)
    c.pieces.invariant.begun c.pieces.invariant.aligned (c.pieces.invariant.taken told) (c.in_ok-read_piece.ensures.taken told) (c.pieces.invariant.text told)
