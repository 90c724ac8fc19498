use Rattle.std.proofs.Common.{◌+◌, ◌/◌, ◌≤◌, true, refl, sym, ap, subst}
use Rattle.leaf_lambda.specs.Parts.{core_of}
use Rattle.method_cache.specs.Found.{found}
use Rattle.object_memory.specs.Told.{Told, IsReady}
use Rattle.object_memory.proofs.PlainLaws.{ready-path}
use Rattle.loom_memory.specs.declared.ledger.Ledger.{Ledger}
use Rattle.loom_memory.specs.Cache.{cache_of}
use Rattle.loom_memory.specs.Memory.{loom_told, loom_outside, IsSound}
use Rattle.loom_memory.proofs.ExactLaws.{exact-caching}
use Rattle.loom_memory.proofs.MarkingLaws.{IsCaching, ledger-told, ledger-kept, ledger-over, path-begun}
use Rattle.loom_memory.specs.Residents.{fetched}
use Rattle.loom_memory.proofs.GentleLaws.{remains-refl}
use Rattle.loom_memory.proofs.DeadLaws.{thin-of}
use Rattle.loom_memory.proofs.memory.LoomMemory.begin_path.Goals as goal
use Rattle.loom_memory.proofs.memory.LoomMemory.begin_path.Given as given

pub refresh-requires-clause-parts : goal.refresh-requires-clause-parts
refresh-requires-clause-parts g c = c.args.self.now.pager.levels.whole.parts

pub refresh-requires-clause-cached : goal.refresh-requires-clause-cached
refresh-requires-clause-cached g c = c.requires.kept.cached

caching : (g : given.Over) (c : goal.After-self-1 g) → IsCaching c.args.self.now.ledger (record c.refresh.new.k { begun = true })
caching g c = ap (λ (z : Ledger). record z { begun = true }) c.refresh.ensures.ledger

pub returns-clause-told : goal.returns-clause-told
unfolding loom_told
returns-clause-told g c =
    let m = c.args.self.now in
    let k = c.refresh.new.k in
    ledger-told g.H.Host m.pager.levels.disk.host.now m.pager.levels.disk.rest (core_of m.pager.levels.parts) m.regs m.pager.pinned m.ledger (record k { begun = true }) (record (cache_of (core_of m.pager.levels.parts) (found m.ledger.rows) m.ledger.mark m.ledger.begun) { path = true }) (caching g c)
    (path-begun (core_of m.pager.levels.parts) (found k.rows) k.mark k.begun (cache_of (core_of m.pager.levels.parts) (found m.ledger.rows) m.ledger.mark m.ledger.begun) c.refresh.ensures.fresh c.refresh.ensures.cache)

sound-of : (g : given.Over) (c : goal.After-self-1 g) → IsSound g.H.Host (record c.args.self.now { ledger = record c.refresh.new.k { begun = true } })
sound-of g c =
    let m = c.args.self.now in
    record {
      kept = ledger-kept m.pager.levels.parts m.regs m.pager.pinned m.ledger (record c.refresh.new.k { begun = true }) c.requires.kept (caching g c) c.refresh.ensures.cached;
      over = ledger-over g.H.Host m.pager.levels.disk.host.now m.pager.levels.disk.rest (core_of m.pager.levels.parts) m.ledger (record c.refresh.new.k { begun = true }) c.requires.over (caching g c);
      soon = subst (λ (k : Ledger). m.due ≤ k.next + k.entries / 8) (sym c.refresh.ensures.ledger) c.requires.soon;
      exact = exact-caching g.H.Host m.pager.levels.parts m.pager.levels.disk.host.now m.pager.levels.disk.rest m.ledger (record c.refresh.new.k { begun = true }) c.requires.exact (caching g c);
      thin = thin-of g.H.Host c.args.self.now _ c.requires.thin (λ on. on) (ap (λ (t : Told). t.heap) (returns-clause-told g c)) (ap (λ (t : Told). t.regs) (returns-clause-told g c)) (ap (λ (t : Told). t.slots) (returns-clause-told g c));
    }

pub returns-clause-fit : goal.returns-clause-fit
unfolding loom_outside
returns-clause-fit g c = record {
  sound = sound-of g c;
  ready = λ ready. subst (λ (t : Told). IsReady t) (sym (returns-clause-told g c)) (ready-path (loom_told g.H.Host c.args.self.now) (record (loom_told g.H.Host c.args.self.now).cache { path = true }) refl ready);
  lender = refl;
  outside = refl;
}

pub returns-clause-resting : goal.returns-clause-resting
unfolding fetched
returns-clause-resting g c = record { remains = remains-refl (core_of c.args.self.now.pager.levels.parts); idle = record { host = refl; rest = refl; fetches = ap (λ (z : Ledger). z.fetches) c.refresh.ensures.ledger } }
