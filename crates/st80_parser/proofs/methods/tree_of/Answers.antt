use Rattle.st80_parser.proofs.RefusalLaws.{stops_as}
use Rattle.st80_parser.proofs.methods.tree_of.Goals as goal

pub returns-in-Ok : goal.returns-in-Ok
returns-in-Ok c = c.found_at.ensures c.args.is_method c.in-Ok.ensures.reads c.in-Ok.ensures.runs

pub returns-in-Err-Refused : goal.returns-in-Err-Refused
returns-in-Err-Refused c = c.refused_at.ensures c.args.is_method (stops_as _ _ _ _ _ c.in-Err-Refused.field-0-is c.in-Err-Refused.ensures.runs)
