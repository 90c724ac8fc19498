use Rattle.std.proofs.Common.{arith}
use Rattle.method_cache.specs.Found.{found}
use Rattle.method_cache.proofs.CacheLaws.{none_found}
use Rattle.method_cache.proofs.cache.Cache.new.Goals as goal

pub returns : goal.returns
unfolding found
returns c = λ class selector. none_found 256 class selector (omega arith)
