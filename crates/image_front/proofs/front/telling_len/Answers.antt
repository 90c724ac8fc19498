use Rattle.std.proofs.Common.{sym, ◌∙◌, arith}
use Rattle.std.proofs.lemmas.Bool.{false≢true}
use Rattle.image_front.proofs.Fronts.{broken_tells, full_tells, long_tells, roomy_head}
use Rattle.image_front.proofs.front.telling_len.Goals as goal

pub returns-in_default-clause-tells : goal.returns-in_default-clause-tells
returns-in_default-clause-tells c = λ whole len front range.
    broken_tells c.args.room c.args.front.now whole _ (sym c.read_head.ensures ∙ c.in_default.is) (omega (arith, len, c.requires)) front range

pub returns-then-objects-room-clause-tells : goal.returns-then-objects-room-clause-tells
returns-then-objects-room-clause-tells c = λ whole len front range.
    full_tells c.args.room c.args.front.now whole c.in-Ok.head (sym c.read_head.ensures ∙ c.in-Ok.is) c.if-objects-room.true (omega (arith, len, c.requires)) front range

pub returns-clause-tells : goal.returns-clause-tells
returns-clause-tells c = λ whole len front range.
    long_tells c.args.room c.min.result c.args.front.now whole c.in-Ok.head (sym c.read_head.ensures ∙ c.in-Ok.is) (omega (arith, len, c.requires)) front (omega (arith, len, c.min.ensures)) range

pub returns-clause-full : goal.returns-clause-full
returns-clause-full c = λ full.
    absurd (let none = roomy_head c.args.room c.args.front.now c.in-Ok.head (sym c.read_head.ensures ∙ c.in-Ok.is) (omega (arith, c.if-objects-room.false)) in false≢true (rw none at full))
