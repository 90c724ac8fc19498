use Rattle.std.proofs.Common.{◌≡◌, ℕ, List, Some, false, refl, sym, ◌∙◌, ap, subst, arith, IsTrue}
use Rattle.std.specs.List.{slice_get}
use Rattle.loom_host.specs.declared.outside.Role.TheVariants.{Work}
use Rattle.long_names.specs.declared.value.Value.{Value}
use Rattle.object_record.specs.Raw.{longs_of}
use Rattle.object_record.specs.Buffer.{raw_of}
use Rattle.object_record.specs.Objects.{value_in, object_in}
use Rattle.object_table.specs.declared.entry.Entry.{Entry}
use Rattle.object_table.specs.Entries.{place_of}
use Rattle.disk_objects.specs.Disk.{disk_room, disk_held}
use Rattle.core_view.specs.Words.{pointers}
use Rattle.core_view.specs.Held.{Disk, fields_there, held}
use Rattle.core_view.specs.Kept.{IsBacked, Keeps}
use Rattle.core_view.proofs.Core.{placed-used}
use Rattle.leaf_lambda.specs.Parts.{core_of}
use Rattle.leaf_lambda.proofs.RecordLaws.{fields-values, map-get}
use Rattle.std.proofs.lemmas.Option.{slice_get_within}
use Rattle.disk_objects.specs.Function.{disk_of}
use Rattle.core_view.specs.Purge.{fresh_by}
use Rattle.loom_memory.specs.Memory.{loom_told, loom_outside}
use Rattle.loom_memory.specs.Gentle.{IsCalm}
use Rattle.loom_memory.specs.Numbers.{IsNumbered}
use Rattle.core_view.specs.Kept.{IsValued}
use Rattle.loom_memory.proofs.ExactLaws.{exact-brought}
use Rattle.loom_memory.proofs.RegLaws.{kept-rooted, few-held}
use Rattle.core_view.proofs.Fresh.{fresh-stays}
use Rattle.loom_memory.proofs.CalmLaws.{store-calm, calm-kept, work-outside}
use Rattle.loom_memory.proofs.FieldLaws.{read-only, set-here}
use Rattle.loom_memory.proofs.LambdaLaws.{still-calm, calm-read, fault-after, lambda-below}
use Rattle.method_cache.specs.Found.{found}
use Rattle.purger.proofs.MarkLaws.{within-marks}
use Rattle.loom_memory.proofs.CacheLaws.{cache-same}
use Rattle.loom_memory.proofs.GentleLaws.{fetched-same, store-remains}
use Rattle.loom_memory.specs.Below.{IsBelow}
use Rattle.object_memory.specs.declared.fault.MemFault.TheVariants.{Damaged}
use Rattle.purger.specs.declared.eviction.TheConstants.{NOWHERE}
use Rattle.loom_memory.proofs.DamageLaws.{nowhere-damage, refusal-damage}
use Rattle.loom_memory.proofs.MindLaws.{came-remains, stored-came}
use Rattle.loom_memory.specs.Residents.{fetched}
use Rattle.loom_memory.proofs.DeadLaws.{thin-quiet}
use Rattle.loom_memory.proofs.WholeLaws.{store-whole}
use Rattle.loom_memory.proofs.memory.LoomMemory.read_lambda.Goals as goal
use Rattle.loom_memory.proofs.EffectLaws.{damaged-all, lost-by}
use Rattle.loom_memory.proofs.memory.LoomMemory.read_lambda.Given as given

pub used_entry-e-requires : goal.used_entry-e-requires
unfolding core_of
used_entry-e-requires g c = placed-used ((core_of c.args.self.now.pager.levels.parts).entries c.args.s.0).state c.args.at.place c.requires.lambda.place

fresh-none : (g : given.Over) (c : goal.After-wrong g) → IsTrue (loom_told g.H.Host c.args.self.now).tells → ⊥
unfolding loom_told core_of
fresh-none g c = λ told.
    let m = c.args.self.now in
    ((c.requires.fit.sound.over.backed told).body c.args.s.0 c.args.at.place c.requires.lambda.place).whole (ap (λ (e : Entry). e.flags.fresh) (sym c.used_entry-e.ensures) ∙ c.if-e.true) c.args.i c.requires.lambda.word

pub returns-then-e-clause-err : goal.returns-then-e-clause-err
unfolding loom_told
returns-then-e-clause-err g c = λ a silent none.
    let m = c.args.self.now in
    c.wrong.ensures.err (loom_told g.H.Host m) a
    (calm-read g.H.Host m m.pager.levels.parts c.read_copy.new.disk.host.now c.read_copy.new.disk.rest c.requires.fit.sound c.args.self.now.pager.levels.whole.parts (still-calm m.pager.pinned (core_of m.pager.levels.parts)) c.in-Ok.ensures.read c.in-Ok.ensures.rest c.in-Ok.ensures.same (λ told. refl))
    c.requires.fit.ready silent none (fresh-none g c)

pub returns-then-e-clause-leaves : goal.returns-then-e-clause-leaves
unfolding loom_outside fetched
returns-then-e-clause-leaves g c = record {
  sound = damaged-all c.wrong.result _ _ _ c.wrong.ensures.is;
  fetches = c.wrong.ensures.brings;
  lender = c.wrong.ensures.lender ∙ c.read_copy.ensures.same_host;
  outside = c.wrong.ensures.outside ∙ work-outside g.H.Host c.args.self.now.pager.levels.disk.host.now c.read_copy.new.disk.host.now (read-only g.H.Host c.args.self.now.pager.levels.disk.host.now c.read_copy.new.disk.host.now c.in-Ok.ensures.read);
}

pub long_field-requires-clause-record : goal.long_field-requires-clause-record
unfolding core_of
long_field-requires-clause-record g c = (c.in-Ok.ensures.copy (ap (λ (e : Entry). e.flags.fresh) (sym c.used_entry-e.ensures) ∙ c.if-e.false)).record_there

pub long_field-requires-clause-field : goal.long_field-requires-clause-field
unfolding core_of
long_field-requires-clause-field g c = let many = (c.in-Ok.ensures.copy (ap (λ (e : Entry). e.flags.fresh) (sym c.used_entry-e.ensures) ∙ c.if-e.false)).same_fields in let low = slice_get_within (pointers ((core_of c.args.self.now.pager.levels.parts).entries c.args.s.0).kind ((core_of c.args.self.now.pager.levels.parts).chunks c.args.at.place).words) c.args.i 0 c.requires.lambda.word in omega arith

-- where the heap is told, what a lambda means has its object
above-none : (g : given.Over) (c : goal.After-wrong-then-not-is_below g) → IsTrue (loom_told g.H.Host c.args.self.now).tells → ⊥
unfolding loom_told core_of
above-none g c = λ told.
    let m = c.args.self.now in
    let disk : Disk = disk_of g.H.Host m.pager.levels.disk.host.now m.pager.levels.disk.rest in
    let clean : ((core_of m.pager.levels.parts).entries c.args.s.0).flags.fresh ≡ false = ap (λ (e : Entry). e.flags.fresh) (sym c.used_entry-e.ensures) ∙ c.if-e.false in
    let long : slice_get (fields_there (disk ((core_of m.pager.levels.parts).entries c.args.s.0).name)) c.args.i ≡ Some (value_in c.long_field.result) =
    ap (λ o. slice_get (fields_there o) c.args.i) (c.in-Ok.ensures.there told clean) ∙ ap (λ (vs : List Value). slice_get vs c.args.i) (fields-values (raw_of c.read_copy.new.buf).body)
    ∙ map-get (longs_of (raw_of c.read_copy.new.buf).body) c.args.i (let many = (c.in-Ok.ensures.copy clean).same_fields in let low = slice_get_within (pointers ((core_of m.pager.levels.parts).entries c.args.s.0).kind ((core_of m.pager.levels.parts).chunks c.args.at.place).words) c.args.i 0 c.requires.lambda.word in omega arith)
    ∙ ap (λ (x : ℕ). Some (value_in x)) (sym c.long_field.ensures) in
    let below = lambda-below (g.H.Host.tells Work) (core_of m.pager.levels.parts) disk m.ledger.next c.args.s.0 c.args.at.place c.args.i (value_in c.long_field.result) (loom_told g.H.Host m).regs (loom_told g.H.Host m).slots told c.args.self.now.pager.levels.whole.parts.core (c.requires.fit.ready.whole told) c.requires.lambda long in
    let yes = c.is_below.ensures.1 below in
    let no = c.if-not-is_below.true in
    absurd (cc)

pub returns-then-not-is_below-clause-err : goal.returns-then-not-is_below-clause-err
unfolding loom_told
returns-then-not-is_below-clause-err g c = λ a silent none.
    let m = c.args.self.now in
    c.wrong-then-not-is_below.ensures.err (loom_told g.H.Host m) a
    (calm-read g.H.Host m m.pager.levels.parts c.read_copy.new.disk.host.now c.read_copy.new.disk.rest c.requires.fit.sound c.args.self.now.pager.levels.whole.parts (still-calm m.pager.pinned (core_of m.pager.levels.parts)) c.in-Ok.ensures.read c.in-Ok.ensures.rest c.in-Ok.ensures.same (λ told. refl))
    c.requires.fit.ready silent none (above-none g c)

pub returns-then-not-is_below-clause-leaves : goal.returns-then-not-is_below-clause-leaves
unfolding loom_outside fetched
returns-then-not-is_below-clause-leaves g c = record {
  sound = damaged-all c.wrong-then-not-is_below.result _ _ _ c.wrong-then-not-is_below.ensures.is;
  fetches = c.wrong-then-not-is_below.ensures.brings;
  lender = c.wrong-then-not-is_below.ensures.lender ∙ c.read_copy.ensures.same_host;
  outside = c.wrong-then-not-is_below.ensures.outside ∙ work-outside g.H.Host c.args.self.now.pager.levels.disk.host.now c.read_copy.new.disk.host.now (read-only g.H.Host c.args.self.now.pager.levels.disk.host.now c.read_copy.new.disk.host.now c.in-Ok.ensures.read);
}

pub resolve-requires-clause-light : goal.resolve-requires-clause-light
resolve-requires-clause-light g c = λ t. let m = c.args.self.now in few-held (core_of m.pager.levels.parts) m.regs m.pager.pinned t (kept-rooted m.pager.levels.parts m.regs m.pager.pinned m.ledger m.pager.levels.whole c.requires.fit.sound.kept) c.requires.fit.sound.kept.many

pub resolve-requires-clause-record : goal.resolve-requires-clause-record
unfolding core_of
resolve-requires-clause-record g c = (c.in-Ok.ensures.copy (ap (λ (e : Entry). e.flags.fresh) (sym c.used_entry-e.ensures) ∙ c.if-e.false)).record_there

pub resolve-requires-clause-field : goal.resolve-requires-clause-field
unfolding core_of
resolve-requires-clause-field g c = let many = (c.in-Ok.ensures.copy (ap (λ (e : Entry). e.flags.fresh) (sym c.used_entry-e.ensures) ∙ c.if-e.false)).same_fields in let low = slice_get_within (pointers ((core_of c.args.self.now.pager.levels.parts).entries c.args.s.0).kind ((core_of c.args.self.now.pager.levels.parts).chunks c.args.at.place).words) c.args.i 0 c.requires.lambda.word in omega arith

fresh-is : (g : given.Over) (c : goal.After-levels-in-Ok-2-1 g) → ((core_of c.args.self.now.pager.levels.parts).entries c.args.s.0).flags.fresh ≡ false
unfolding core_of
fresh-is g c = ap (λ (e : Entry). e.flags.fresh) (sym c.used_entry-e.ensures) ∙ c.if-e.false

there-of : (g : given.Over) (c : goal.After-levels-in-Ok-2-1 g) → IsTrue (g.H.Host.tells Work) → disk_of g.H.Host c.args.self.now.pager.levels.disk.host.now c.args.self.now.pager.levels.disk.rest ((core_of c.args.self.now.pager.levels.parts).entries c.args.s.0).name ≡ Some (object_in (raw_of c.read_copy.new.buf))
there-of g c = λ told. c.in-Ok.ensures.there told (fresh-is g c)

keeps-of : (g : given.Over) (c : goal.After-levels-in-Ok-2-1 g) → IsTrue (g.H.Host.tells Work) → Keeps (disk_of g.H.Host c.args.self.now.pager.levels.disk.host.now c.args.self.now.pager.levels.disk.rest) (core_of c.args.self.now.pager.levels.parts) (core_of c.resolve.new.p)
keeps-of g c = λ told. c.resolve.ensures.keeps (disk_of g.H.Host c.args.self.now.pager.levels.disk.host.now c.args.self.now.pager.levels.disk.rest) (c.requires.fit.sound.over.backed told) (there-of g c told)

calm-of : (g : given.Over) (c : goal.After-levels-in-Ok-2-1 g) → IsCalm c.args.self.now.pager.pinned (core_of c.args.self.now.pager.levels.parts) (core_of c.resolve.new.p)
calm-of g c = store-calm c.args.self.now.pager.pinned c.args.s.0 c.args.at.place (core_of c.args.self.now.pager.levels.parts) (core_of c.resolve.new.p) c.args.self.now.pager.levels.whole.parts.core c.resolve.ensures.parts.core c.resolve.ensures.resolves.within c.requires.lambda.place (ap (λ (e : Entry). place_of e.state) c.resolve.ensures.resolves.entry) (ap (λ (e : Entry). e.name) c.resolve.ensures.resolves.entry)

pub returns-else-not-is_below-clause-peeks : goal.returns-else-not-is_below-clause-peeks
unfolding loom_told
returns-else-not-is_below-clause-peeks g c = record {
  quiet = let m = c.args.self.now in calm-read g.H.Host m c.resolve.new.p c.read_copy.new.disk.host.now c.read_copy.new.disk.rest c.requires.fit.sound c.resolve.ensures.parts (calm-of g c) c.in-Ok.ensures.read c.in-Ok.ensures.rest c.in-Ok.ensures.same (λ told. (keeps-of g c told).held);
  peek =
      let m = c.args.self.now in
      let x = core_of m.pager.levels.parts in
      let y = core_of c.resolve.new.p in
      let core = c.args.self.now.pager.levels.whole.parts.core in
      let now = c.resolve.ensures.parts.core in
      record {
        gentle = record {
          remains = store-remains c.args.s.0 x y c.resolve.ensures.resolves.within (ap (λ (e : Entry). place_of e.state) c.resolve.ensures.resolves.entry) (ap (λ (e : Entry). e.name) c.resolve.ensures.resolves.entry);
          read = c.in-Ok.ensures.read;
          cache = cache-same x y (found m.ledger.rows) m.ledger.mark m.ledger.begun core now (within-marks x y c.args.s.0 core now c.resolve.ensures.resolves.within) c.requires.fit.sound.kept.cached;
        };
        fetches = fetched-same m _ refl;
        none = came-remains x y (stored-came x y c.args.s.0 c.resolve.ensures.resolves.within (ap (λ (e : Entry). place_of e.state) c.resolve.ensures.resolves.entry) (ap (λ (e : Entry). e.name) c.resolve.ensures.resolves.entry));
      };
  regs = refl;
  due = refl;
  flag = refl;
}

pub returns-else-not-is_below-clause-leaves : goal.returns-else-not-is_below-clause-leaves
unfolding loom_outside fetched
returns-else-not-is_below-clause-leaves g c = record {
  sound =
      let m = c.args.self.now in
      record {
        kept = calm-kept m.pager.levels.parts c.resolve.new.p m.regs m.pager.pinned m.ledger m.pager.levels.whole c.requires.fit.sound.kept (calm-of g c) c.resolve.ensures.parts c.resolve.ensures.resolves.room.size;
        over = record {
          stands = c.in-Ok.ensures.stands;
          backed = λ told. subst (λ (k : Disk). IsBacked (core_of c.resolve.new.p) k) (sym c.in-Ok.ensures.same) (keeps-of g c told).backed;
          counted = λ told.
              let was = c.requires.fit.sound.over.counted told in
              let same = fresh-stays (core_of m.pager.levels.parts) (core_of c.resolve.new.p) c.args.s.0 c.resolve.ensures.resolves.within.about (ap fresh_by c.resolve.ensures.resolves.entry) in
              let rest : disk_held c.read_copy.new.disk.rest ≡ disk_held m.pager.levels.disk.rest = ap disk_held c.in-Ok.ensures.rest in
              omega (arith, was, same, rest);
          roomy = let was = c.requires.fit.sound.over.roomy in let rest : disk_room c.read_copy.new.disk.rest ≡ disk_room m.pager.levels.disk.rest = ap disk_room c.in-Ok.ensures.rest in omega (arith, was, rest);
          based = subst (λ (n : ℕ). IsNumbered m.ledger.base m.ledger.made m.ledger.held m.ledger.next n) (sym (ap disk_room c.in-Ok.ensures.rest)) c.requires.fit.sound.over.based;
          valued = λ told. subst (λ (d : Disk). IsValued d) (sym (ap (λ (k : Disk). held (core_of c.resolve.new.p) k) c.in-Ok.ensures.same ∙ (keeps-of g c told).held)) (c.requires.fit.sound.over.valued told);
        };
        soon = c.requires.fit.sound.soon;
        exact = exact-brought g.H.Host m.pager.levels.parts c.resolve.new.p m.pager.levels.disk.host.now c.read_copy.new.disk.host.now m.pager.levels.disk.rest c.read_copy.new.disk.rest c.args.s.0 m.ledger.next c.requires.fit.sound.exact c.in-Ok.ensures.rest c.in-Ok.ensures.read c.resolve.ensures.parts (keeps-of g c) c.resolve.ensures.resolves.naming c.resolve.ensures.resolves.within;
        thin = thin-quiet g.H.Host c.args.self.now _ c.requires.fit.sound.thin (λ on. on) (returns-else-not-is_below-clause-peeks g c).quiet;
      };
  fetches = refl;
  lender = c.read_copy.ensures.same_host;
  outside = work-outside g.H.Host c.args.self.now.pager.levels.disk.host.now c.read_copy.new.disk.host.now (read-only g.H.Host c.args.self.now.pager.levels.disk.host.now c.read_copy.new.disk.host.now c.in-Ok.ensures.read);
}

pub returns-else-not-is_below-clause-mark : goal.returns-else-not-is_below-clause-mark
returns-else-not-is_below-clause-mark g c = ap (λ (e : Entry). e.flags.marked) c.resolve.ensures.resolves.entry

pub returns-else-not-is_below-clause-at : goal.returns-else-not-is_below-clause-at
returns-else-not-is_below-clause-at g c =
    let m = c.args.self.now in
    let p = c.args.at.place in
    let k = ((core_of m.pager.levels.parts).entries c.args.s.0).kind in
    let fields = c.resolve.ensures.fields p c.requires.lambda.place in (
      fields.0,
      record {
        place = ap (λ (e : Entry). place_of e.state) c.resolve.ensures.resolves.entry ∙ c.requires.lambda.place;
        word = ap (λ (e : Entry). slice_get (pointers e.kind ((core_of c.resolve.new.p).chunks p).words) c.args.i) c.resolve.ensures.resolves.entry
            ∙ ap (λ (ws : List ℕ). slice_get ws c.args.i) fields.1 ∙ set-here (pointers k ((core_of m.pager.levels.parts).chunks p).words) c.args.i fields.0 0 c.requires.lambda.word;
      },
    )

pub returns-else-not-is_below-clause-long : goal.returns-else-not-is_below-clause-long
returns-else-not-is_below-clause-long g c = λ told.
    ap (λ o. slice_get (fields_there o) c.args.i) (there-of g c told) ∙ ap (λ (vs : List Value). slice_get vs c.args.i) (fields-values (raw_of c.read_copy.new.buf).body)
    ∙ map-get (longs_of (raw_of c.read_copy.new.buf).body) c.args.i (let many = (c.in-Ok.ensures.copy (fresh-is g c)).same_fields in let low = slice_get_within (pointers ((core_of c.args.self.now.pager.levels.parts).entries c.args.s.0).kind ((core_of c.args.self.now.pager.levels.parts).chunks c.args.at.place).words) c.args.i 0 c.requires.lambda.word in omega arith)
    ∙ ap (λ (x : ℕ). Some (value_in x)) (sym c.resolve.ensures.long)

pub returns-in-Err-clause-err : goal.returns-in-Err-clause-err
unfolding loom_told
returns-in-Err-clause-err g c = λ a silent none.
    let m = c.args.self.now in
    fault-after g.H.Host m (loom_told g.H.Host c.refuse.new.self) (core_of m.pager.levels.parts) c.read_copy.new.disk.host.now c.read_copy.new.disk.rest a c.in-Err.f c.refusal_of-f.result c.refuse.result
    (calm-read g.H.Host m m.pager.levels.parts c.read_copy.new.disk.host.now c.read_copy.new.disk.rest c.requires.fit.sound c.args.self.now.pager.levels.whole.parts (still-calm m.pager.pinned (core_of m.pager.levels.parts)) c.in-Err.ensures.read c.in-Err.ensures.rest c.in-Err.ensures.same (λ told. refl))
    c.refuse.ensures.told c.refuse.ensures.result c.requires.fit.ready silent none c.refuse.ensures.later c.in-Err.ensures.fault c.refusal_of-f.ensures

pub returns-in-Err-clause-leaves : goal.returns-in-Err-clause-leaves
unfolding loom_outside fetched
returns-in-Err-clause-leaves g c = record {
  sound = lost-by c.in-Err.f c.refusal_of-f.result c.refuse.result _ c.refusal_of-f.ensures c.refuse.ensures.result;
  fetches = c.refuse.ensures.brings;
  lender = c.refuse.ensures.lender ∙ c.read_copy.ensures.same_host;
  outside = c.refuse.ensures.outside ∙ work-outside g.H.Host c.args.self.now.pager.levels.disk.host.now c.read_copy.new.disk.host.now (read-only g.H.Host c.args.self.now.pager.levels.disk.host.now c.read_copy.new.disk.host.now c.in-Err.ensures.read);
}

pub returns-else-not-is_below-clause-below : goal.returns-else-not-is_below-clause-below
returns-else-not-is_below-clause-below g c = subst (λ (n : ℕ). IsBelow c.args.self.now.ledger.next (value_in n)) (c.long_field.ensures ∙ sym c.resolve.ensures.long) (c.is_below.ensures.0 c.if-not-is_below.false)

pub returns-then-e-clause-damage : goal.returns-then-e-clause-damage
unfolding core_of
returns-then-e-clause-damage g c = nowhere-damage c.wrong.new.self.pager.levels.disk.rest ((core_of c.args.self.now.pager.levels.parts).entries c.args.s.0).name c.wrong.result (c.wrong.ensures.is ∙ ap (λ (e : Entry). Damaged NOWHERE e.name) c.used_entry-e.ensures)

pub returns-then-not-is_below-clause-damage : goal.returns-then-not-is_below-clause-damage
unfolding core_of
returns-then-not-is_below-clause-damage g c = nowhere-damage c.wrong-then-not-is_below.new.self.pager.levels.disk.rest ((core_of c.args.self.now.pager.levels.parts).entries c.args.s.0).name c.wrong-then-not-is_below.result (c.wrong-then-not-is_below.ensures.is ∙ ap (λ (e : Entry). Damaged NOWHERE e.name) c.used_entry-e.ensures)

pub returns-in-Err-clause-damage : goal.returns-in-Err-clause-damage
returns-in-Err-clause-damage g c =
    let m = c.args.self.now in
    refusal-damage (g.H.Host.tells Work) (g.H.Host.faults m.pager.levels.disk.host.now Work) (g.H.Host.faults c.read_copy.new.disk.host.now Work) m.pager.levels.disk.rest c.refuse.new.self.pager.levels.disk.rest ((core_of m.pager.levels.parts).entries c.args.s.0).name c.in-Err.f c.refusal_of-f.result c.refuse.result c.in-Err.ensures.fault c.in-Err.ensures.damage (c.refuse.ensures.rest ∙ c.in-Err.ensures.rest) c.refusal_of-f.ensures c.refuse.ensures.result

pub returns-else-not-is_below-clause-named : goal.returns-else-not-is_below-clause-named
returns-else-not-is_below-clause-named g c = ap (λ (e : Entry). e.name) c.resolve.ensures.resolves.entry

pub invariant_of-levels-in-Ok : goal.invariant_of-levels-in-Ok
invariant_of-levels-in-Ok g c =
    let l = c.args.self.now.pager.levels in
    let entry = c.resolve.ensures.resolves.entry in
    record { whole = store-whole l.parts c.resolve.new.p c.args.s.0 c.args.at.place l.whole c.resolve.ensures.parts c.resolve.ensures.resolves.within c.requires.lambda.place (ap (λ (e : Entry). place_of e.state) entry) (ap (λ (e : Entry). e.name) entry) }
