use Rattle.blue_model.proofs.RangeLaws.{one_range, bytecode_by}
use Rattle.blue_model.proofs.laws.each_byte_has_one_range.Goals as goal

pub returns-clause-one : goal.returns-clause-one
returns-clause-one c events byte low = one_range events byte low

pub returns-clause-rule : goal.returns-clause-rule
returns-clause-rule c events byte r low row f = bytecode_by events byte row.0 r low row.1 row.2 f
