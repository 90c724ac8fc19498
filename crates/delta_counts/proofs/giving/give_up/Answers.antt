use Rattle.std.proofs.Common.{◌<◌, ℕ, None, sym, ◌∙◌, ap, subst}
use Rattle.std.specs.Prelude.{IsSome}
use Rattle.resident_table.specs.Resident.{short_of}
use Rattle.resident_table.specs.declared.Parts2.{Parts2}
use Rattle.object_table.specs.declared.entry.Entry.{Entry}
use Rattle.object_table.specs.Entries.{put}
use Rattle.delta_counts.proofs.PartLaws.{names-short, names-within}
use Rattle.delta_counts.proofs.LowerLaws.{ok-map, positive, is-known, is-none}
use Rattle.delta_counts.proofs.DrainLaws.{counting-giving}
use Rattle.delta_counts.proofs.GiveLaws.{some-can, idle-can, idle-at, name-is, still-named, joins-named, idle-named, gone-core, gone-giving, others-stay, idle-found}
use Rattle.delta_counts.proofs.FaultLaws.{err-map, fault-again}
use Rattle.delta_counts.proofs.giving.give_up.Goals as goal

pub used_entry-name-requires : goal.used_entry-name-requires
used_entry-name-requires g c = c.requires.idle.used

pub fold-requires-clause-can : goal.fold-requires-clause-can
fold-requires-clause-can g c = some-can g.H.Host c.args.p.now c.args.disk.now.host.now c.args.disk.now.rest c.args.s.0 c.requires.idle c.requires.sound

pub remove-requires : goal.remove-requires
remove-requires g c = record { there = subst (λ (n : ℕ). IsSome (short_of c.fold.new.p.resident n)) (sym (ap (λ (e : Entry). e.name) c.used_entry-name.ensures)) (idle-found c.args.p.now c.fold.new.p c.args.s.0 c.requires.names c.fold.ensures.counting c.requires.idle.used) }

pub give-requires-clause-short : goal.give-requires-clause-short
give-requires-clause-short g c = names-short c.args.p.now c.args.s.0 c.requires.names c.requires.idle.used

pub give-requires-clause-within : goal.give-requires-clause-within
give-requires-clause-within g c = subst (λ (n : ℕ). c.args.s.0 < n) (sym c.fold.ensures.counting.bound) (names-within c.args.p.now c.args.s.0 c.requires.names c.requires.idle.used)

pub returns-then-count-gt0-clause-given : goal.returns-then-count-gt0-clause-given
returns-then-count-gt0-clause-given g c = λ told chunks t at x.
    let q : Parts2 = record { table = c.give.new.self; resident = c.remove.new.self } in
    let idle = idle-at g.H.Host chunks c.args.p.now c.args.disk.now.host.now c.args.disk.now.rest t c.args.s.0 at c.requires.idle in
    still-named g.H.Host chunks c.fold.new.p q c.fold.new.disk.host.now c.fold.new.disk.rest t c.args.s.0 c.in_ok-count.count c.used_entry-name.result.name
    (name-is g.H.Host chunks c.args.p.now c.args.disk.now.host.now c.args.disk.now.rest t c.args.s.0 c.used_entry-name.result at c.used_entry-name.ensures) x idle
    (c.in_ok-count.ensures.folded told chunks t at (idle-can t c.args.s.0 x idle)) (gone-core c.fold.new.p q c.args.s.0 c.used_entry-name.result.name chunks c.give.ensures.entry c.give.ensures.entries c.remove.ensures.find)
    (positive _ c.in_ok-count.count c.if-count-gt0.true)

pub returns-then-count-gt0-clause-giving : goal.returns-then-count-gt0-clause-giving
returns-then-count-gt0-clause-giving g c = gone-giving c.args.p.now c.fold.new.p (record { table = c.give.new.self; resident = c.remove.new.self }) c.args.s.0 c.fold.ensures.counting c.requires.idle c.give.ensures.entry c.give.ensures.entries
    (c.remove.ensures.find ∙ ap (λ (e : Entry). put (short_of c.fold.new.p.resident) e.name None) c.used_entry-name.ensures) c.remove.ensures.held c.give.ensures.free c.remove.ensures.room

pub returns-then-is_known-clause-given : goal.returns-then-is_known-clause-given
returns-then-is_known-clause-given g c = λ told chunks t at x.
    let q : Parts2 = record { table = c.give.new.self; resident = c.remove.new.self } in
    let idle = idle-at g.H.Host chunks c.args.p.now c.args.disk.now.host.now c.args.disk.now.rest t c.args.s.0 at c.requires.idle in
    still-named g.H.Host chunks c.fold.new.p q c.fold.new.disk.host.now c.fold.new.disk.rest t c.args.s.0 c.in_ok-count.count c.used_entry-name.result.name
    (name-is g.H.Host chunks c.args.p.now c.args.disk.now.host.now c.args.disk.now.rest t c.args.s.0 c.used_entry-name.result at c.used_entry-name.ensures) x idle
    (c.in_ok-count.ensures.folded told chunks t at (idle-can t c.args.s.0 x idle)) (gone-core c.fold.new.p q c.args.s.0 c.used_entry-name.result.name chunks c.give.ensures.entry c.give.ensures.entries c.remove.ensures.find)
    (is-known _ c.in_ok-count.count (sym c.if-is_known.ensures))

pub returns-then-is_known-clause-giving : goal.returns-then-is_known-clause-giving
returns-then-is_known-clause-giving g c = gone-giving c.args.p.now c.fold.new.p (record { table = c.give.new.self; resident = c.remove.new.self }) c.args.s.0 c.fold.ensures.counting c.requires.idle c.give.ensures.entry c.give.ensures.entries
    (c.remove.ensures.find ∙ ap (λ (e : Entry). put (short_of c.fold.new.p.resident) e.name None) c.used_entry-name.ensures) c.remove.ensures.held c.give.ensures.free c.remove.ensures.room

pub put_pending-requires : goal.put_pending-requires
put_pending-requires g c = record {
  stands = λ told.
      let x = c.requires.sound told in
      let idle = idle-at g.H.Host x.0 c.args.p.now c.args.disk.now.host.now c.args.disk.now.rest x.1 c.args.s.0 x.2 c.requires.idle in
      let f = c.in_ok-count.ensures.folded told x.0 x.1 x.2 (idle-can x.1 c.args.s.0 x.3 idle) in (
        f.at.disk.objects,
        x.1.pending,
        f.at.disk.disk,
        idle-named g.H.Host x.0 c.fold.new.p c.fold.new.disk.host.now c.fold.new.disk.rest x.1 c.args.s.0 c.in_ok-count.count c.used_entry-name.result.name
            (name-is g.H.Host x.0 c.args.p.now c.args.disk.now.host.now c.args.disk.now.rest x.1 c.args.s.0 c.used_entry-name.result x.2 c.used_entry-name.ensures) x.3 idle f,
      );
}

pub returns-clause-given : goal.returns-clause-given
returns-clause-given g c = λ told chunks t at x.
    let q : Parts2 = record { table = c.give.new.self; resident = c.remove.new.self } in
    let idle = idle-at g.H.Host chunks c.args.p.now c.args.disk.now.host.now c.args.disk.now.rest t c.args.s.0 at c.requires.idle in
    let f = c.in_ok-count.ensures.folded told chunks t at (idle-can t c.args.s.0 x idle) in
    let name = name-is g.H.Host chunks c.args.p.now c.args.disk.now.host.now c.args.disk.now.rest t c.args.s.0 c.used_entry-name.result at c.used_entry-name.ensures in
    ok-map c.put_pending.result
    (λ disk. joins-named g.H.Host chunks c.fold.new.p q c.fold.new.disk.host.now c.put_pending.new.self.host.now c.fold.new.disk.rest c.put_pending.new.self.rest t c.args.s.0 c.in_ok-count.count c.used_entry-name.result.name name x idle f
    (gone-core c.fold.new.p q c.args.s.0 c.used_entry-name.result.name chunks c.give.ensures.entry c.give.ensures.entries c.remove.ensures.find) (is-none _ c.in_ok-count.count (sym c.if-is_known.ensures) c.if-count-gt0.false) disk)
    (c.put_pending.ensures.put told f.at.disk.objects t.pending f.at.disk.disk (idle-named g.H.Host chunks c.fold.new.p c.fold.new.disk.host.now c.fold.new.disk.rest t c.args.s.0 c.in_ok-count.count c.used_entry-name.result.name name x idle f))

pub returns-clause-giving : goal.returns-clause-giving
returns-clause-giving g c = gone-giving c.args.p.now c.fold.new.p (record { table = c.give.new.self; resident = c.remove.new.self }) c.args.s.0 c.fold.ensures.counting c.requires.idle c.give.ensures.entry c.give.ensures.entries
    (c.remove.ensures.find ∙ ap (λ (e : Entry). put (short_of c.fold.new.p.resident) e.name None) c.used_entry-name.ensures) c.remove.ensures.held c.give.ensures.free c.remove.ensures.room

pub returns-in_err-count-clause-giving : goal.returns-in_err-count-clause-giving
returns-in_err-count-clause-giving g c = counting-giving c.args.p.now c.fold.new.p c.fold.ensures.counting

pub returns-clause-fault : goal.returns-clause-fault
returns-clause-fault g c = err-map c.put_pending.result
    (λ f x. fault-again _ _ _ _ c.args.disk.now.rest c.fold.new.disk.rest c.used_entry-name.result.name _ f c.fold.ensures.work.later c.fold.ensures.room (ap (λ (e : Entry). e.name) c.used_entry-name.ensures) x) c.put_pending.ensures.fault

pub returns-then-count-gt0-clause-others : goal.returns-then-count-gt0-clause-others
returns-then-count-gt0-clause-others g c = others-stay c.args.p.now c.fold.new.p (record { table = c.give.new.self; resident = c.remove.new.self }) c.args.s.0 c.fold.ensures.counting c.give.ensures.entry

pub returns-then-is_known-clause-others : goal.returns-then-is_known-clause-others
returns-then-is_known-clause-others g c = others-stay c.args.p.now c.fold.new.p (record { table = c.give.new.self; resident = c.remove.new.self }) c.args.s.0 c.fold.ensures.counting c.give.ensures.entry

pub returns-clause-others : goal.returns-clause-others
returns-clause-others g c = others-stay c.args.p.now c.fold.new.p (record { table = c.give.new.self; resident = c.remove.new.self }) c.args.s.0 c.fold.ensures.counting c.give.ensures.entry

pub returns-in_err-count-clause-others : goal.returns-in_err-count-clause-others
returns-in_err-count-clause-others g c = λ q away. c.fold.ensures.counting.entries q
