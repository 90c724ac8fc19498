use Rattle.std.proofs.Common.{refl, arith}
use Rattle.event_file.proofs.TextLaws.{at-space}
use Rattle.event_file.proofs.line.line_in.Goals as goal

pub returns-in_err-count-clause-none : goal.returns-in_err-count-clause-none
returns-in_err-count-clause-none c = λ none l is same.
    let parts = at-space l c.args.text.now c.split_once.result is c.split_once.ensures.cases same in
    rw c.in_err-count.was at parts

pub returns-in_err-count-2-clause-none : goal.returns-in_err-count-2-clause-none
returns-in_err-count-2-clause-none c = λ none l is same.
    let parts = at-space l c.args.text.now c.split_once.result is c.split_once.ensures.cases same in
    let known = rw c.in_ok-count.was at parts in
    let small = is.count in
    c.in_err-count-2.ensures.none refl l.count (omega arith) known.0

pub returns-in_err-event-clause-none : goal.returns-in_err-event-clause-none
returns-in_err-event-clause-none c = λ none l is same.
    let parts = at-space l c.args.text.now c.split_once.result is c.split_once.ensures.cases same in
    let known = rw c.in_ok-count.was at parts in
    c.in_err-event.ensures.none refl l.event is.event known.1
