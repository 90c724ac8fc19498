use Rattle.checkpoint.proofs.LayoutLaws.{closed-byte, closed-serial, point-closed, whole-closed}
use Rattle.checkpoint.proofs.laws.closed_gates.Goals as goal

pub returns-clause-byte : goal.returns-clause-byte
returns-clause-byte c gate other = closed-byte gate other

pub returns-clause-serial : goal.returns-clause-serial
returns-clause-serial c gate none = closed-serial gate none

pub returns-clause-point : goal.returns-clause-point
returns-clause-point c gate closed = point-closed gate closed

pub returns-clause-whole : goal.returns-clause-whole
returns-clause-whole c s gate closed = whole-closed s gate closed
