use Rattle.std.proofs.Common.{arith}
use Rattle.checkpoint.proofs.HistoryLaws.{no-earlier, no-much_later}
use Rattle.checkpoint.proofs.laws.no_stop_loses_an_answered_checkpoint.Goals as goal

pub returns-clause-answered : goal.returns-clause-answered
returns-clause-answered c old new last kept j k late up w may = no-earlier old new last _ kept j k late up w may

pub returns-clause-later : goal.returns-clause-later
returns-clause-later c old new last kept j k late up v w may then =
    let one = no-much_later old new last _ kept j late v may in
    let two = no-earlier old new last _ kept j k (omega arith) up w then in
    omega arith

pub returns-clause-between : goal.returns-clause-between
returns-clause-between c old new last kept j k late up more v w may then =
    let one = no-much_later old new last _ kept j late v may in
    let two = no-earlier old new last _ kept k k (omega arith) (omega arith) w then in
    omega arith
