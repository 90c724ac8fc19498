use Rattle.std.proofs.Common.{ap, ◌∙◌, arith}
use Rattle.file_system.specs.Calls.{Reads}
use Rattle.memory_files.specs.Memory.{world_of}
use Rattle.memory_files.specs.declared.calls.Call.TheVariants.{On}
use Rattle.memory_files.specs.declared.calls.Calls.{Calls}
use Rattle.memory_files.specs.declared.calls.Change.TheVariants.{Placed}
use Rattle.memory_files.specs.declared.calls.View.{View}
use Rattle.memory_files.proofs.Relations.{noted-from, reads-next, way-of}
use Rattle.memory_files.proofs.memory.MemoryFilesSystem.read.Goals as goal

pub returns-clause-read : goal.returns-clause-read
returns-clause-read c told = λ o is.
    let shown = way-of ((world_of c.burns.new.self.calls).opened c.args.descriptor) o c.in_ok-seen.seen c.in_ok-seen.ensures (ap (λ (x : Calls). (world_of x).opened c.args.descriptor) c.burns.ensures.calls ∙ is) in
    noted-from (Reads c.args.descriptor o c.front_of-n.result) (On c.args.descriptor (Placed c.in-Some.place)) c.args.self.now.calls c.burns.new.self.calls c.on.new.self.calls c.burns.ensures.calls c.in_ok-on.ensures.noted
    (reads-next c.args.self.now.calls c.args.descriptor c.in-Some.place c.front_of-n.result o is (omega (arith, c.in-Some.ensures, ap (λ (v : View). v.place) shown)))
