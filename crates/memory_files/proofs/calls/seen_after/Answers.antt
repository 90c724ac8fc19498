use Rattle.memory_files.proofs.Read.{made-apart-at, made-view-at, opens-apart-at, opens-hit-at, view-apart-at, viewed-at}
use Rattle.memory_files.proofs.calls.seen_after.Goals as goal

pub returns-then-number-descriptor : goal.returns-then-number-descriptor
returns-then-number-descriptor c w is = opens-apart-at _ _ _ _ _ _ w c.in-Opened.is c.if-number-descriptor.true is

pub returns-then-file-number : goal.returns-then-file-number
returns-then-file-number c w is = opens-hit-at _ _ _ _ _ w c.in-Opened.is c.if-number-descriptor.false c.if-file-number.true

pub returns-then-number-descriptor-2 : goal.returns-then-number-descriptor-2
returns-then-number-descriptor-2 c w is = made-view-at _ _ _ _ _ w c.in-Made.is c.if-number-descriptor-2.true

pub returns-else-number-descriptor-2 : goal.returns-else-number-descriptor-2
returns-else-number-descriptor-2 c w is = made-apart-at _ _ _ _ _ _ w c.in-Made.is c.if-number-descriptor-2.false is

pub returns-then-on-descriptor : goal.returns-then-on-descriptor
returns-then-on-descriptor c w is = viewed-at _ _ _ _ _ _ _ w c.in-On.is c.if-on-descriptor.true c.seen_changed.ensures is

pub returns-else-on-descriptor : goal.returns-else-on-descriptor
returns-else-on-descriptor c w is = view-apart-at _ _ _ _ _ _ w c.in-On.is c.if-on-descriptor.false is
