use Rattle.loom_host.specs.declared.outside.Role.TheVariants.{Work}
use Rattle.work_directory.proofs.ChangeLaws.{found-entry}
use Rattle.loom_host.specs.Work.{work_of}
use Rattle.work_directory.proofs.directory.Directory.seek.Goals as goal

pub returns-clause-found : goal.returns-clause-found
returns-clause-found g c = found-entry c.args.self.now (work_of g.H.Host c.args.host.now) c.args.name (g.H.Host.tells Work) c.search.result c.requires.stands c.search.ensures.name c.search.ensures.found
