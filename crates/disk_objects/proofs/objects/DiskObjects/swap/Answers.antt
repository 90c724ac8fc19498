use Rattle.disk_objects.proofs.FunctionLaws.{swapped-if}
use Rattle.disk_objects.proofs.objects.DiskObjects.swap.Goals as goal
use Rattle.std.proofs.Common.{refl}
use Rattle.std.specs.FinMap as map

pub returns-clause-exchanged : goal.returns-clause-exchanged
returns-clause-exchanged g c told =
    let s = c.requires.stands told in
    swapped-if g.H.Host c.args.self.now.host.now c.swap.new.host c.args.self.now.rest c.swap.new.self s.0 s.1 s.2 c.swap.result c.args.a c.args.b
    (map.get s.0 c.args.a) (map.get s.0 c.args.b) refl refl s.3.0 s.3.1 (c.swap.ensures.swapped told s.0 s.1 s.2)
