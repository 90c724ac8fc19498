use Rattle.loom_run.proofs.ConvertLaws.{refused-images}
use Rattle.loom_run.specs.Meanings.{meanings}
use Rattle.loom_run.proofs.converting.read_source.Goals as goal

pub returns-in-Listing-clause-refused : goal.returns-in-Listing-clause-refused
returns-in-Listing-clause-refused g c = rw c.in-Listing.is (refused-images g.H.Host.tells (meanings g.H.Host c.args.disk.now.host.now) (meanings g.H.Host c.read_image.new.disk.host.now) c.read_image.result c.read_image.ensures.refused)
