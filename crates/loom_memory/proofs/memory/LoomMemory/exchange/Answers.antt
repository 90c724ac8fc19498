use Rattle.std.specs.List.{slice_index_or}
use Rattle.std.proofs.Common.{◌≡◌, ℕ, ◌<◌, true, None, is_some, IsTrue, refl, ◌∙◌, ap}
use Rattle.long_names.specs.State.{IsRef}
use Rattle.long_names.specs.Access.{Swap}
use Rattle.loom_host.specs.declared.outside.Host.{Ghosts}
use Rattle.loom_host.specs.declared.outside.Role.TheVariants.{Work}
use Rattle.object_memory.specs.Told.{IsReady}
use Rattle.object_table.specs.declared.entry.Entry.{Entry}
use Rattle.object_table.specs.Entries.{place_of}
use Rattle.disk_objects.specs.Function.{disk_of}
use Rattle.leaf_lambda.specs.Parts.{core_of}
use Rattle.loom_memory.specs.declared.memory.LoomMemory.{LoomMemory}
use Rattle.loom_memory.specs.Memory.{loom_told, loom_outside, IsSound}
use Rattle.loom_memory.specs.Stores.{IsAway}
use Rattle.loom_memory.proofs.RegLaws.{word-is}
use Rattle.loom_memory.proofs.BringLaws.{IsNamed}
use Rattle.loom_memory.proofs.CalmLaws.{work-outside}
use Rattle.loom_memory.proofs.CallLaws.{purge-refused}
use Rattle.loom_memory.proofs.SwapLaws.{named-now, record-there, both-held, swapped-is, swapped-over, either-purge, swaps-as}
use Rattle.loom_memory.proofs.OwingLaws.{exact-swapped}
use Rattle.loom_memory.specs.Residents.{fetched}
use Rattle.loom_memory.proofs.DeadLaws.{thin-off}
use Rattle.loom_memory.proofs.EffectLaws.{lost-by}
use Rattle.loom_memory.proofs.memory.LoomMemory.exchange.Goals as goal

first-short : {H : Type 0} (host : Ghosts H) (m : LoomMemory H host) (of i : ℕ) → IsSound host m → IsReady (loom_told host m) → IsRef ((loom_told host m).regs of) → i ≡ of → i < 24 → IsNamed host m m of (slice_index_or m.regs i 0)
first-short {H} host m of i sound ready name same low = named-now host m of (slice_index_or m.regs i 0) sound ready name (word-is m.regs i of same low sound.kept.many)

away-of : {H : Type 0} (host : Ghosts H) (m : LoomMemory H host) (of i : ℕ) → IsSound host m → IsAway m of → i ≡ of → i < 24 → place_of ((core_of m.pager.levels.parts).entries (slice_index_or m.regs i 0)).state ≡ None
away-of {H} host m of i sound away same low = ap (λ (w : ℕ). place_of ((core_of m.pager.levels.parts).entries w).state) (word-is m.regs i of same low sound.kept.many) ∙ away

pub used_entry-first-requires : goal.used_entry-first-requires
unfolding core_of
used_entry-first-requires g c = (first-short g.H.Host c.args.self.now c.args.a c.index.result c.requires.fit.sound c.requires.fit.ready c.requires.names.0 c.index.ensures.same c.index.ensures.within).used

pub used_entry-second-requires : goal.used_entry-second-requires
unfolding core_of
used_entry-second-requires g c = (first-short g.H.Host c.args.self.now c.args.b c.index-2.result c.requires.fit.sound c.requires.fit.ready c.requires.names.1 c.index-2.ensures.same c.index-2.ensures.within).used

there : {H : Type 0} (host : Ghosts H) (m : LoomMemory H host) (of i : ℕ) → IsSound host m → IsReady (loom_told host m) → IsRef ((loom_told host m).regs of) → IsAway m of → i ≡ of → i < 24
    → IsTrue (host.tells Work) → is_some (disk_of host m.pager.levels.disk.host.now m.pager.levels.disk.rest ((core_of m.pager.levels.parts).entries (slice_index_or m.regs i 0)).name) ≡ true
unfolding loom_told
there {H} host m of i sound ready name away same low told =
    let named = first-short host m of i sound ready name same low in
    record-there (host.tells Work) (core_of m.pager.levels.parts) (disk_of host m.pager.levels.disk.host.now m.pager.levels.disk.rest) m.ledger.next (slice_index_or m.regs i 0) told m.pager.levels.whole.parts.core named.used (away-of host m of i sound away same low) (named.has told)

pub swap-requires : goal.swap-requires
unfolding core_of
swap-requires g c =
    let m = c.args.self.now in
    record {
      stands = both-held g.H.Host m.pager.levels.disk.host.now m.pager.levels.disk.rest c.used_entry-first.result.name c.used_entry-second.result.name c.a_disk_is_its_objects.ensures.objects c.requires.fit.sound.over.stands
          (λ told. ap (λ (n : ℕ). is_some (disk_of g.H.Host m.pager.levels.disk.host.now m.pager.levels.disk.rest n)) (ap (λ (e : Entry). e.name) c.used_entry-first.ensures) ∙ there g.H.Host m c.args.a c.index.result c.requires.fit.sound c.requires.fit.ready c.requires.names.0 c.requires.away.0 c.index.ensures.same c.index.ensures.within told)
          (λ told. ap (λ (n : ℕ). is_some (disk_of g.H.Host m.pager.levels.disk.host.now m.pager.levels.disk.rest n)) (ap (λ (e : Entry). e.name) c.used_entry-second.ensures) ∙ there g.H.Host m c.args.b c.index-2.result c.requires.fit.sound c.requires.fit.ready c.requires.names.1 c.requires.away.1 c.index-2.ensures.same c.index-2.ensures.within told);
    }

pub returns-in-Ok-clause-swapped : goal.returns-in-Ok-clause-swapped
unfolding loom_told core_of
returns-in-Ok-clause-swapped g c =
    let m = c.args.self.now in
    let one = first-short g.H.Host m c.args.a c.index.result c.requires.fit.sound c.requires.fit.ready c.requires.names.0 c.index.ensures.same c.index.ensures.within in
    let two = first-short g.H.Host m c.args.b c.index-2.result c.requires.fit.sound c.requires.fit.ready c.requires.names.1 c.index-2.ensures.same c.index-2.ensures.within in
    swapped-is g.H.Host m c.swap.new.self.host.now c.swap.new.self.rest (slice_index_or m.regs c.index.result 0) (slice_index_or m.regs c.index-2.result 0) c.args.a c.args.b c.requires.fit.sound one two
    (away-of g.H.Host m c.args.a c.index.result c.requires.fit.sound c.requires.away.0 c.index.ensures.same c.index.ensures.within) (away-of g.H.Host m c.args.b c.index-2.result c.requires.fit.sound c.requires.away.1 c.index-2.ensures.same c.index-2.ensures.within)
    c.swap.ensures.work c.swap.ensures.room (swaps-as g.H.Host m.pager.levels.disk.host.now c.swap.new.self.host.now m.pager.levels.disk.rest c.swap.new.self.rest _ _ c.used_entry-first.result.name c.used_entry-second.result.name (ap (λ (e : Entry). e.name) c.used_entry-first.ensures) (ap (λ (e : Entry). e.name) c.used_entry-second.ensures) c.in-Ok.ensures.exchanged)

pub returns-in-Ok-clause-leaves : goal.returns-in-Ok-clause-leaves
unfolding core_of loom_outside fetched
returns-in-Ok-clause-leaves g c = record {
  sound =
      let m = c.args.self.now in
      let one = first-short g.H.Host m c.args.a c.index.result c.requires.fit.sound c.requires.fit.ready c.requires.names.0 c.index.ensures.same c.index.ensures.within in
      let two = first-short g.H.Host m c.args.b c.index-2.result c.requires.fit.sound c.requires.fit.ready c.requires.names.1 c.index-2.ensures.same c.index-2.ensures.within in
      record {
        kept = c.requires.fit.sound.kept;
        over = swapped-over g.H.Host m c.swap.new.self.host.now c.swap.new.self.rest (slice_index_or m.regs c.index.result 0) (slice_index_or m.regs c.index-2.result 0) c.requires.fit.sound one.used two.used
            (away-of g.H.Host m c.args.a c.index.result c.requires.fit.sound c.requires.away.0 c.index.ensures.same c.index.ensures.within) (away-of g.H.Host m c.args.b c.index-2.result c.requires.fit.sound c.requires.away.1 c.index-2.ensures.same c.index-2.ensures.within)
            c.swap.ensures.room c.swap.ensures.held (swaps-as g.H.Host m.pager.levels.disk.host.now c.swap.new.self.host.now m.pager.levels.disk.rest c.swap.new.self.rest _ _ c.used_entry-first.result.name c.used_entry-second.result.name (ap (λ (e : Entry). e.name) c.used_entry-first.ensures) (ap (λ (e : Entry). e.name) c.used_entry-second.ensures) c.in-Ok.ensures.exchanged);
        soon = c.requires.fit.sound.soon;
        exact = exact-swapped g.H.Host m.pager.levels.parts m.pager.levels.disk.host.now c.swap.new.self.host.now m.pager.levels.disk.rest c.swap.new.self.rest m.ledger.next (slice_index_or m.regs c.index.result 0) (slice_index_or m.regs c.index-2.result 0) c.used_entry-first.result.name c.used_entry-second.result.name c.requires.fit.sound.exact one.used two.used
            (away-of g.H.Host m c.args.a c.index.result c.requires.fit.sound c.requires.away.0 c.index.ensures.same c.index.ensures.within) (away-of g.H.Host m c.args.b c.index-2.result c.requires.fit.sound c.requires.away.1 c.index-2.ensures.same c.index-2.ensures.within)
            (ap (λ (e : Entry). e.name) c.used_entry-first.ensures) (ap (λ (e : Entry). e.name) c.used_entry-second.ensures)
            (λ told. ap (λ (n : ℕ). is_some (disk_of g.H.Host m.pager.levels.disk.host.now m.pager.levels.disk.rest n)) (ap (λ (e : Entry). e.name) c.used_entry-first.ensures) ∙ there g.H.Host m c.args.a c.index.result c.requires.fit.sound c.requires.fit.ready c.requires.names.0 c.requires.away.0 c.index.ensures.same c.index.ensures.within told)
            (λ told. ap (λ (n : ℕ). is_some (disk_of g.H.Host m.pager.levels.disk.host.now m.pager.levels.disk.rest n)) (ap (λ (e : Entry). e.name) c.used_entry-second.ensures) ∙ there g.H.Host m c.args.b c.index-2.result c.requires.fit.sound c.requires.fit.ready c.requires.names.1 c.requires.away.1 c.index-2.ensures.same c.index-2.ensures.within told)
            c.in-Ok.ensures.swapped;
        thin = thin-off g.H.Host _ refl;
      };
  fetches = refl;
  lender = c.swap.ensures.same_host;
  outside = work-outside g.H.Host c.args.self.now.pager.levels.disk.host.now c.swap.new.self.host.now c.swap.ensures.work;
}

pub returns-in-Err-clause-leaves : goal.returns-in-Err-clause-leaves
unfolding loom_outside fetched
returns-in-Err-clause-leaves g c = record {
  sound = lost-by c.in-Err.f c.refusal_of-f.result c.refuse.result _ c.refusal_of-f.ensures c.refuse.ensures.result;
  fetches = c.refuse.ensures.brings;
  lender = c.refuse.ensures.lender ∙ c.swap.ensures.same_host;
  outside = c.refuse.ensures.outside ∙ work-outside g.H.Host c.args.self.now.pager.levels.disk.host.now c.swap.new.self.host.now c.swap.ensures.work;
}

pub returns-in-Err-clause-err : goal.returns-in-Err-clause-err
unfolding loom_told
returns-in-Err-clause-err g c =
    let m = c.args.self.now in
    purge-refused g.H.Host m (record m { pager = record m.pager { levels = record m.pager.levels { disk = c.swap.new.self } }; buf = c.swap.new.buf }) (loom_told g.H.Host c.refuse.new.self) (Swap c.args.a c.args.b) c.in-Err.f c.refusal_of-f.result c.refuse.result refl c.swap.ensures.work c.swap.ensures.room
    (either-purge g.H.Host m.pager.levels.disk.host.now c.swap.new.self.host.now _ c.used_entry-first.result.name c.used_entry-second.result.name c.in-Err.f c.in-Err.ensures.fault)
    c.refusal_of-f.ensures c.refuse.ensures.told c.refuse.ensures.result c.refuse.ensures.later tt refl

pub returns-in-Ok-clause-cached : goal.returns-in-Ok-clause-cached
unfolding loom_told
returns-in-Ok-clause-cached g c = refl
