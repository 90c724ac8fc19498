use Rattle.method_cache.proofs.CallLaws.{found_was_put}
use Rattle.method_cache.proofs.laws.a_method_found_was_put.Goals as goal

pub returns : goal.returns
returns c = found_was_put
