use Rattle.std.proofs.Common.{refl, ap}
use Rattle.leaf_lambda.specs.Parts.{core_of}
use Rattle.loom_memory.specs.Memory.{loom_told, told_of, loom_outside}
use Rattle.loom_memory.specs.declared.ledger.Ledger.{Ledger}
use Rattle.method_cache.specs.Found.{found}
use Rattle.loom_memory.specs.Cache.{cache_of}
use Rattle.loom_memory.specs.Residents.{fetched}
use Rattle.loom_memory.proofs.DeadLaws.{refused-sound}
use Rattle.loom_memory.proofs.GentleLaws.{remains-refl}
use Rattle.loom_memory.specs.Thinned.{is_thinned}
use Rattle.loom_memory.proofs.memory.LoomMemory.refuse.Goals as goal

pub returns-clause-told : goal.returns-clause-told
unfolding loom_told
returns-clause-told g c = let m = c.args.self.now in ap (λ (k : Ledger). told_of g.H.Host m.pager.levels.disk.host.now m.pager.levels.disk.rest (core_of m.pager.levels.parts) m.regs m.pager.pinned k) c.refuse.ensures.refused

pub returns-clause-later : goal.returns-clause-later
unfolding loom_told
returns-clause-later g c = c.refuse.ensures.later

pub returns-clause-outside : goal.returns-clause-outside
unfolding loom_outside
returns-clause-outside g c = refl

pub returns-clause-kept : goal.returns-clause-kept
returns-clause-kept g c = (refl, ap (λ (k : Ledger). k.held) c.refuse.ensures.refused)

pub returns-clause-spared : goal.returns-clause-spared
unfolding loom_told fetched
returns-clause-spared g c =
    let m = c.args.self.now in
    record {
      idle = record { host = refl; rest = refl; fetches = ap (λ (k : Ledger). k.fetches) c.refuse.ensures.refused };
      remains = λ told. remains-refl (core_of m.pager.levels.parts);
      cached = λ told. ap (λ (k : Ledger). cache_of (core_of m.pager.levels.parts) (found k.rows) k.mark k.begun) c.refuse.ensures.refused;
    }

pub returns-clause-brings : goal.returns-clause-brings
unfolding fetched
returns-clause-brings g c = ap (λ (l : Ledger). l.fetches) c.refuse.ensures.refused

pub returns-clause-sound : goal.returns-clause-sound
returns-clause-sound g c = λ sound. refused-sound g.H.Host c.args.self.now c.refuse.new.self _ _ c.refuse.ensures.refused sound

pub returns-clause-thinned : goal.returns-clause-thinned
unfolding is_thinned
returns-clause-thinned g c = refl
