-- A disk begins over the host as it is, and is taken apart: each of these leaves the host as it was.
use Rattle.std.proofs.Common.{◌≡◌, rules, subst, sym}
use Rattle.image_memory.specs.Image.{HasImage}
use Rattle.image_memory.proofs.ImageLaws.{image-is}
use Rattle.loom_guard.proofs.resuming.load_over.Goals as goal

same-host : {H : Type 0} (now end : H) (P : H → Type 0) → end ≡ now → P now → P end
same-host now end P same x = subst P (sym same) x

pub returns-in-Ok-clause-image : goal.returns-in-Ok-clause-image
returns-in-Ok-clause-image g c =
    let host = g.H.Host in
    let end = c.load.new.disk.host.now in
    let loaded = c.in-Ok.loaded in
    let x = rw c.begin-disk.ensures.now at c.in-Ok.ensures.loads in
    same-host end _ (λ h. HasImage host h c.apart-host.result.1 loaded) (search rules)
    (rw c.apart-host.ensures.rest (image-is host c.args.host.now end c.args.room c.load.new.disk.rest loaded x.0 x.1 x.3 x.4 c.in-Ok.ensures.heap))
