use Rattle.std.proofs.Common.{arith}
use Rattle.image_format.proofs.Numbers.{AreBytes}
use Rattle.st80_objects.proofs.ReadLaws.{head_front, plain_length, stated_length}
use Rattle.st80_objects.proofs.reading.read_whole_head.Goals as goal

pub returns-then-head-eq-STATE_VERSION-clause-head : goal.returns-then-head-eq-STATE_VERSION-clause-head
returns-then-head-eq-STATE_VERSION-clause-head c =
    let are : AreBytes c.args.bytes.now = record { below = λ i. omega (arith, c.type_inv.bytes i) } in
    (head_front c.args.bytes.now c.in_ok-head.head 36 are c.in_ok-head.ensures (stated_length c.in_ok-head.head c.if-head-eq-STATE_VERSION.true)).0

pub returns-then-head-eq-STATE_VERSION-clause-within : goal.returns-then-head-eq-STATE_VERSION-clause-within
returns-then-head-eq-STATE_VERSION-clause-within c =
    let are : AreBytes c.args.bytes.now = record { below = λ i. omega (arith, c.type_inv.bytes i) } in
    (head_front c.args.bytes.now c.in_ok-head.head 36 are c.in_ok-head.ensures (stated_length c.in_ok-head.head c.if-head-eq-STATE_VERSION.true)).1

pub returns-else-head-eq-STATE_VERSION-clause-head : goal.returns-else-head-eq-STATE_VERSION-clause-head
returns-else-head-eq-STATE_VERSION-clause-head c =
    let are : AreBytes c.args.bytes.now = record { below = λ i. omega (arith, c.type_inv.bytes i) } in
    (head_front c.args.bytes.now c.in_ok-head.head 16 are c.in_ok-head.ensures (plain_length c.in_ok-head.head c.if-head-eq-STATE_VERSION.false)).0

pub returns-else-head-eq-STATE_VERSION-clause-within : goal.returns-else-head-eq-STATE_VERSION-clause-within
returns-else-head-eq-STATE_VERSION-clause-within c =
    let are : AreBytes c.args.bytes.now = record { below = λ i. omega (arith, c.type_inv.bytes i) } in
    (head_front c.args.bytes.now c.in_ok-head.head 16 are c.in_ok-head.ensures (plain_length c.in_ok-head.head c.if-head-eq-STATE_VERSION.false)).1
