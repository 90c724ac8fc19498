-- What a system says that tells nothing.
use Rattle.std.specs.Prelude.{◌≢◌, ℕ, List, [], ◌++◌, false, None, length}
use Rattle.std.proofs.Common.{ap, arith, length-append}
use Rattle.file_system.specs.World.{Entry, World, Moments, part_ending}
use Rattle.file_system.specs.declared.system.Kind.TheVariants.{Device}

-- some place, another for each path
abbrev pub anywhere : List ℕ → Entry
anywhere path = record { folder = 0; name = path }

pub apart_everywhere : (path : List ℕ) → anywhere (path ++ part_ending) ≢ anywhere path
apart_everywhere path same = omega (arith, ap (λ (e : Entry). length e.name) same, length-append path part_ending)

abbrev pub nothing : World
nothing = record { files = λ i. record { kind = Device; bytes = []; unsure = []; spoiled = false }; names = λ e. None; earlier = λ e. []; opened = λ d. None }

abbrev pub untold : Moments
untold = record { now = nothing; past = [] }
