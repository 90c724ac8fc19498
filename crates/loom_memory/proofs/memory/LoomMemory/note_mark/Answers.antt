use Rattle.std.proofs.Common.{◌+◌, ◌/◌, ◌≤◌, ◌≡◌, Some, true, refl, sym, ◌∙◌, ap, subst}
use Rattle.object_table.specs.Entries.{is_used}
use Rattle.object_memory.specs.Told.{Told, Cache}
use Rattle.object_memory.specs.Contract.{IsKeptCache, no_names, with_mark}
use Rattle.core_view.specs.Core.{Core}
use Rattle.core_view.proofs.Core.{placed-used}
use Rattle.leaf_lambda.specs.Parts.{core_of}
use Rattle.method_cache.specs.Found.{found}
use Rattle.loom_memory.specs.declared.ledger.Ledger.{Ledger}
use Rattle.loom_memory.specs.Cache.{cache_of, IsCached}
use Rattle.loom_memory.specs.Memory.{loom_told, loom_outside}
use Rattle.loom_memory.proofs.RowLaws.{marking-exact, marking-kept, marking-cached}
use Rattle.loom_memory.proofs.ExactLaws.{mark-exact}
use Rattle.loom_memory.proofs.MarkingLaws.{IsCaching, mark-told, mark-kept, mark-over}
use Rattle.loom_memory.specs.Residents.{fetched}
use Rattle.loom_memory.proofs.GentleLaws.{mark-none, mark-remains}
use Rattle.loom_memory.proofs.DeadLaws.{thin-of}
use Rattle.loom_memory.proofs.WholeLaws.{mark-whole}
use Rattle.loom_memory.proofs.memory.LoomMemory.note_mark.Goals as goal
use Rattle.loom_memory.proofs.memory.LoomMemory.note_mark.Given as given

caching : (g : given.Over) (c : goal.After-self-1 g) → IsCaching c.args.self.now.ledger (record c.refresh.new.k { mark = c.args.s.0 })
caching g c = ap (λ (z : Ledger). record z { mark = c.args.s.0 }) c.refresh.ensures.ledger

used-of : (g : given.Over) (c : goal.After-self-1 g) → is_used ((core_of c.args.self.now.pager.levels.parts).entries c.args.s.0).state ≡ true
used-of g c = placed-used ((core_of c.args.self.now.pager.levels.parts).entries c.args.s.0).state c.requires.there.0 c.requires.there.1

kept-of : (g : given.Over) (c : goal.After-self-1 g)
    → IsKeptCache no_names (cache_of (core_of c.args.self.now.pager.levels.parts) (found c.args.self.now.ledger.rows) c.args.self.now.ledger.mark c.args.self.now.ledger.begun)
    (with_mark (cache_of (core_of c.args.self.now.pager.levels.parts) (found c.args.self.now.ledger.rows) c.args.self.now.ledger.mark c.args.self.now.ledger.begun) (Some ((core_of c.args.self.now.pager.levels.parts).entries c.args.s.0).name))
    (cache_of (core_of c.set_mark.new.p) (found c.refresh.new.k.rows) c.args.s.0 c.refresh.new.k.begun)
kept-of g c =
    let x = core_of c.args.self.now.pager.levels.parts in
    let k = c.refresh.new.k in
    subst (λ (z : Cache). IsKeptCache no_names z (with_mark z (Some (x.entries c.args.s.0).name)) (cache_of (core_of c.set_mark.new.p) (found k.rows) c.args.s.0 k.begun)) c.refresh.ensures.cache
    (subst (λ (y : Core). IsKeptCache no_names (cache_of x (found k.rows) k.mark k.begun) (with_mark (cache_of x (found k.rows) k.mark k.begun) (Some (x.entries c.args.s.0).name)) (cache_of y (found k.rows) c.args.s.0 k.begun)) (sym c.set_mark.ensures.core)
    (marking-kept x (found k.rows) k.mark c.args.s.0 k.begun c.args.self.now.pager.levels.whole.parts.core (used-of g c) c.refresh.ensures.fresh))

pub returns-clause-marked : goal.returns-clause-marked
unfolding loom_told
returns-clause-marked g c =
    let m = c.args.self.now in
    record {
      same = mark-told g.H.Host m.pager.levels.disk.host.now m.pager.levels.disk.rest (core_of m.pager.levels.parts) (core_of c.set_mark.new.p) m.regs m.pager.pinned m.ledger (record c.refresh.new.k { mark = c.args.s.0 }) c.args.s.0 c.args.self.now.pager.levels.whole.parts.core (used-of g c) c.set_mark.ensures.core (caching g c) c.requires.sound.over.backed;
      cache = kept-of g c;
    }

pub returns-clause-leaves : goal.returns-clause-leaves
unfolding loom_outside
returns-clause-leaves g c = record {
  sound =
      let m = c.args.self.now in
      let k = c.refresh.new.k in
      record {
        kept = mark-kept m.pager.levels.parts c.set_mark.new.p m.regs m.pager.pinned m.ledger (record k { mark = c.args.s.0 }) c.args.s.0 c.requires.there.0 m.pager.levels.whole c.requires.sound.kept c.set_mark.ensures.parts c.requires.there.1 c.set_mark.ensures.core c.set_mark.ensures.segment (caching g c)
            (subst (λ (y : Core). IsCached y (found k.rows) c.args.s.0) (sym c.set_mark.ensures.core) (marking-cached (core_of m.pager.levels.parts) (found k.rows) k.mark c.args.s.0 c.args.self.now.pager.levels.whole.parts.core (used-of g c) c.refresh.ensures.fresh c.refresh.ensures.cached));
        over = mark-over g.H.Host m.pager.levels.disk.host.now m.pager.levels.disk.rest (core_of m.pager.levels.parts) (core_of c.set_mark.new.p) m.ledger (record k { mark = c.args.s.0 }) c.args.s.0 c.args.self.now.pager.levels.whole.parts.core (used-of g c) c.set_mark.ensures.core (caching g c) c.requires.sound.over;
        soon = subst (λ (k : Ledger). m.due ≤ k.next + k.entries / 8) (sym c.refresh.ensures.ledger) c.requires.sound.soon;
        exact = mark-exact g.H.Host m.pager.levels.parts c.set_mark.new.p m.pager.levels.disk.host.now m.pager.levels.disk.rest m.ledger (record k { mark = c.args.s.0 }) c.args.s.0 c.args.self.now.pager.levels.whole.parts.core (used-of g c) c.set_mark.ensures.parts c.set_mark.ensures.core (caching g c) c.requires.sound.exact;
        thin = thin-of g.H.Host c.args.self.now _ c.requires.sound.thin (λ on. on) (ap (λ (t : Told). t.heap) (returns-clause-marked g c).same) (ap (λ (t : Told). t.regs) (returns-clause-marked g c).same) (ap (λ (t : Told). t.slots) (returns-clause-marked g c).same);
      };
  lender = refl;
  outside = refl;
}

pub returns-clause-resting : goal.returns-clause-resting
unfolding fetched
returns-clause-resting g c = record {
  remains = mark-remains (core_of c.args.self.now.pager.levels.parts) (core_of c.set_mark.new.p) c.args.s.0 c.set_mark.ensures.core;
  idle = record { host = refl; rest = refl; fetches = ap (λ (k : Ledger). k.fetches) c.refresh.ensures.ledger };
}

pub returns-clause-cached : goal.returns-clause-cached
unfolding loom_told
returns-clause-cached g c =
    let x = core_of c.args.self.now.pager.levels.parts in
    let k = c.refresh.new.k in
    ap (λ (y : Core). cache_of y (found k.rows) c.args.s.0 k.begun) c.set_mark.ensures.core
    ∙ marking-exact x (found k.rows) k.mark c.args.s.0 k.begun c.args.self.now.pager.levels.whole.parts.core (used-of g c) c.refresh.ensures.fresh
    ∙ ap (λ (z : Cache). with_mark z (Some (x.entries c.args.s.0).name)) c.refresh.ensures.cache

pub returns-clause-none : goal.returns-clause-none
returns-clause-none g c = mark-none (core_of c.args.self.now.pager.levels.parts) (core_of c.set_mark.new.p) c.args.s.0 c.set_mark.ensures.core

pub invariant_of-levels : goal.invariant_of-levels
invariant_of-levels g c = let l = c.args.self.now.pager.levels in record { whole = mark-whole l.parts c.set_mark.new.p c.args.s.0 c.requires.there.0 l.whole c.set_mark.ensures.parts c.requires.there.1 c.set_mark.ensures.core }
