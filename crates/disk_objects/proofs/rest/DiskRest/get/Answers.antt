use Rattle.std.proofs.Common.{Bool, sym, subst}
use Rattle.std.specs.FinMap as map
use Rattle.disk_objects.specs.Calls.{IsGot}
use Rattle.disk_objects.proofs.rest.DiskRest.get.Goals as goal

pub returns-clause-got : goal.returns-clause-got
returns-clause-got g c told objects pending disk =
    subst (λ (held : Bool). IsGot c.get_counted.new.buf (map.get objects c.args.name) held) (sym c.is_some.ensures) (c.in_ok-count.ensures.got told objects pending disk)
