use Rattle.memory_files.proofs.Relations.{kind-ok, opens-may, opens-old}
use Rattle.memory_files.proofs.memory.MemoryFilesSystem.open.Goals as goal

pub returns-in-Old-clause-opened : goal.returns-in-Old-clause-opened
returns-in-Old-clause-opened c told = opens-old c.args.self.now.calls c.burns.new.self.calls c.open_old.new.self.calls c.args.making c.args.path.now c.as_bytes.result.now c.in-Some.file c.args.way c.named.result c.open_old.result c.in-Old.is c.burns.ensures.calls c.named.ensures c.in-Some.is c.open_old.ensures.opened

pub returns-in-Old-clause-kind : goal.returns-in-Old-clause-kind
returns-in-Old-clause-kind c told = kind-ok c.open_old.new.self.calls c.open_old.result c.open_old.ensures.kind

pub returns-in-May-clause-opened : goal.returns-in-May-clause-opened
returns-in-May-clause-opened c told = opens-may c.args.self.now.calls c.burns.new.self.calls c.open_old-in-May.new.self.calls c.args.making c.args.path.now c.as_bytes.result.now c.in-Some.file c.args.way c.named.result c.open_old-in-May.result c.in-May.is c.burns.ensures.calls c.named.ensures c.in-Some.is c.open_old-in-May.ensures.opened

pub returns-in-May-clause-kind : goal.returns-in-May-clause-kind
returns-in-May-clause-kind c told = kind-ok c.open_old-in-May.new.self.calls c.open_old-in-May.result c.open_old-in-May.ensures.kind
