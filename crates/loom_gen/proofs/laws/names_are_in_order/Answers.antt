use Rattle.loom_gen.proofs.TableLaws.{names-are}
use Rattle.loom_gen.proofs.laws.names_are_in_order.Goals as goal

pub returns : goal.returns
returns c = names-are
