use Rattle.std.proofs.Common.{◌≡◌, ℕ, Bool, true, false, ap}
use Rattle.object_memory.specs.Told.{Cache}
use Rattle.object_memory.specs.Plain.{cache_of}
use Rattle.object_memory.proofs.RecordLaws.{whole-at}
use Rattle.object_memory.proofs.plain.PlainMemory.from_recs.Goals as goal

pub returns-clause-ready : goal.returns-clause-ready
returns-clause-ready c =
    let unmarked : (n : ℕ) → (cache_of c.new-3.result).marks n ≡ false = λ n. ap (λ (x : Cache). x.marks n) c.new-3.ensures in
    record {
      whole = λ told. whole-at c.args.recs.now c.args.next _ _ _ c.requires c.in_ok-from_recs.ensures c.new.ensures c.new-2.ensures;
      marked = λ told n e. (let no = unmarked n in cc);
      cached = λ i j k e. (let no : ◌≡◌ {A = Bool} false true = e in cc);
    }
