use Rattle.std.proofs.Common.{◌≡◌, ℕ, List, [], ◌%◌, ◌<◌, true, false, Bool, Option, Some, None, length, get_or, refl, sym, ◌∙◌, ap, subst, arith}
use Rattle.std.proofs.lemmas.Grind.{common_steps}
use Rattle.std.proofs.lemmas.Option.{slice_get-get_or}
use Rattle.long_names.specs.Objects.{with_field}
use Rattle.long_names.specs.declared.object.Object.{Object}
use Rattle.long_names.specs.declared.value.Value.{Value}
use Rattle.object_record.specs.Raw.{longs_of}
use Rattle.object_record.specs.Buffer.{raw_of, HasRecord}
use Rattle.object_record.specs.Objects.{object_in}
use Rattle.object_table.specs.declared.entry.Entry.{Entry}
use Rattle.object_table.specs.Entries.{put, is_short, place_of}
use Rattle.core_view.specs.Core.{Core}
use Rattle.core_view.specs.Words.{meant, pointers}
use Rattle.core_view.specs.Held.{Disk, held, disk_with, object_at}
use Rattle.core_view.specs.Kept.{IsBacked, KeepsOver}
use Rattle.core_view.specs.Steps.{IsAt, written}
use Rattle.core_view.proofs.Core.{held-leaf}
use Rattle.core_view.proofs.Lists.{put-here}
use Rattle.core_view.proofs.Words.{meant-odd}
use Rattle.leaf_lambda.specs.declared.parts.Parts.{Parts}
use Rattle.leaf_lambda.specs.Parts.{core_of}
use Rattle.leaf_lambda.proofs.CopyLaws.{backed-copy}
use Rattle.leaf_lambda.proofs.TranslateLaws.{Light-later}
use Rattle.leaf_lambda.proofs.turn.one_turn.Goals as goal

some-same : {A : Type 0} (x y : A) → Some x ≡ Some y → x ≡ y
some-same x y e = cc

odd-short : (w : ℕ) → w % 2 ≡ 1 → is_short w ≡ true → ⊥
odd-short w odd is = let even : w % 2 ≡ 0 = grind (arith, common_steps) in absurd (omega arith)

-- a field of the body that came in
there : (d : Core) (s q p i n : ℕ) → place_of (d.entries s).state ≡ Some q → place_of (d.entries s).state ≡ Some p → length (pointers (d.entries s).kind (d.chunks q).words) ≡ n → i < n → (old : ℕ) × IsAt d s p i old
there d s q p i n at now long low =
    let same : q ≡ p = some-same q p (sym at ∙ now) in
    (get_or (pointers (d.entries s).kind (d.chunks p).words) i 0, record { place = now; word = slice_get-get_or (pointers (d.entries s).kind (d.chunks p).words) i 0 (subst (λ (z : ℕ). i < length (pointers (d.entries s).kind (d.chunks z).words)) same (omega arith)) })

pub place_of_body-at-requires-clause-there : goal.place_of_body-at-requires-clause-there
place_of_body-at-requires-clause-there c = (c.translate_in.ensures.opens.0, c.translate_in.ensures.opens.1.body.place)

pub put_field-requires-clause-light : goal.put_field-requires-clause-light
put_field-requires-clause-light c = Light-later c.args.s.0 (core_of c.args.p.now) (core_of c.translate_in.new.p) c.translate_in.ensures.opens.1.within c.requires.light

pub put_field-requires-clause-there : goal.put_field-requires-clause-there
put_field-requires-clause-there c = there (core_of c.translate_in.new.p) c.args.s.0 c.translate_in.ensures.opens.0 c.place_of_body-at.result.place c.args.i (length (longs_of (raw_of c.args.buf.now).body)) c.translate_in.ensures.opens.1.body.place c.place_of_body-at.ensures c.translate_in.ensures.opens.1.body.same_fields c.requires.field

pub put_field-requires-clause-held : goal.put_field-requires-clause-held
put_field-requires-clause-held c = λ is. absurd (odd-short c.args.w c.requires.number is)

pub put_field-requires-clause-some : goal.put_field-requires-clause-some
put_field-requires-clause-some c = λ e. let odd = c.requires.number in absurd (omega arith)

-- what a disk that has the record still is after the store
still : (a t f : Core) (disk : Disk) (s : ℕ) (o : Object) → (t.entries s).name ≡ (a.entries s).name → (f.entries s).name ≡ (t.entries s).name → disk (a.entries s).name ≡ Some o → disk (f.entries s).name ≡ Some o
still a t f disk s o e g h = ap disk (g ∙ e) ∙ h

not-fresh : (d : Core) (disk : Disk) (s p : ℕ) (o : Object) → IsBacked d disk → place_of (d.entries s).state ≡ Some p → disk (d.entries s).name ≡ Some o → (d.entries s).flags.fresh ≡ false
not-fresh d disk s p o backed at has = go (d.entries s).flags.fresh refl
  where
    go : (b : Bool) → (d.entries s).flags.fresh ≡ b → (d.entries s).flags.fresh ≡ false
    go false e = e
    go true e = let none = (backed.body s p at).absent e in absurd (let no : None ≡ Some o = sym none ∙ has in cc)

pub merge_out-requires-clause-copy : goal.merge_out-requires-clause-copy
merge_out-requires-clause-copy c =
    let told = c.requires.told in
    let at : place_of ((core_of c.put_field.new.p).entries c.args.s.0).state ≡ Some c.place_of_body-at.result.place = ap (λ (e : Entry). place_of e.state) c.put_field.ensures.entry ∙ c.place_of_body-at.ensures in
    let on = c.requires.leaf.0 in
    let first = c.translate_in.ensures.opens.1.within.live c.args.s.0 on in
    let then = c.put_field.ensures.within.live c.args.s.0 first.0 in
    let backed : IsBacked (core_of c.put_field.new.p) told.disk = c.put_field.ensures.backed told.disk (c.translate_in.ensures.keeps told.disk told.backed told.there).backed in
    let has : told.disk ((core_of c.put_field.new.p).entries c.args.s.0).name ≡ Some (object_in (raw_of c.translate_in.new.buf)) = still (core_of c.args.p.now) (core_of c.translate_in.new.p) (core_of c.put_field.new.p) told.disk c.args.s.0 (object_in (raw_of c.translate_in.new.buf)) first.1 then.1 (told.there ∙ ap (λ (b : List ℕ). Some (object_in (raw_of b))) (sym c.translate_in.ensures.same)) in (
      c.place_of_body-at.result.place,
      at,
      λ fresh. backed-copy (core_of c.put_field.new.p) told.disk c.args.s.0 c.place_of_body-at.result.place c.translate_in.new.buf backed at fresh
          (subst HasRecord (sym c.translate_in.ensures.same) told.record_there)
          (ap (λ (b : List ℕ). (raw_of b).name) c.translate_in.ensures.same ∙ told.name ∙ sym (then.1 ∙ first.1)) has
          (c.put_field.ensures.parts.core.long c.args.s.0 c.place_of_body-at.result.place at),
    )

pub set_written-requires-clause-body : goal.set_written-requires-clause-body
set_written-requires-clause-body c = (
  c.place_of_body-at.result.place,
  ap (λ (p : Parts). place_of ((core_of p).entries c.args.s.0).state) c.merge_out.ensures.same ∙ ap (λ (e : Entry). place_of e.state) c.put_field.ensures.entry ∙ c.place_of_body-at.ensures,
)

pub drop_body-requires-clause-body : goal.drop_body-requires-clause-body
drop_body-requires-clause-body c = (
  c.place_of_body-at.result.place,
  ap (λ (d : Core). place_of (d.entries c.args.s.0).state) c.set_written.ensures.core ∙ ap (λ (e : Entry). place_of e.state) (put-here (core_of c.merge_out.new.p).entries c.args.s.0 (written ((core_of c.merge_out.new.p).entries c.args.s.0)))
      ∙ ap (λ (p : Parts). place_of ((core_of p).entries c.args.s.0).state) c.merge_out.ensures.same ∙ ap (λ (e : Entry). place_of e.state) c.put_field.ensures.entry ∙ c.place_of_body-at.ensures,
)

pub drop_body-requires-clause-clean : goal.drop_body-requires-clause-clean
drop_body-requires-clause-clean c =
    let here : (core_of c.set_written.new.p).entries c.args.s.0 ≡ written ((core_of c.merge_out.new.p).entries c.args.s.0) = ap (λ (d : Core). d.entries c.args.s.0) c.set_written.ensures.core ∙ put-here (core_of c.merge_out.new.p).entries c.args.s.0 (written ((core_of c.merge_out.new.p).entries c.args.s.0)) in
    (ap (λ (e : Entry). e.flags.fresh) here, ap (λ (e : Entry). e.flags.changed) here)

pub returns-clause-stored : goal.returns-clause-stored
returns-clause-stored c = λ disk backed has.
    let s = c.args.s.0 in
    let o = object_in (raw_of c.args.buf.now) in
    let p = c.place_of_body-at.result.place in
    let on = c.requires.leaf.0 in
    let first = c.translate_in.ensures.opens.1.within.live s on in
    let then = c.put_field.ensures.within.live s first.0 in
    let name : ((core_of c.put_field.new.p).entries s).name ≡ ((core_of c.args.p.now).entries s).name = then.1 ∙ first.1 in
    let one_ = c.translate_in.ensures.keeps disk backed has in
    let was : held (core_of c.args.p.now) disk ((core_of c.args.p.now).entries s).name ≡ Some o = held-leaf (core_of c.args.p.now) disk ((core_of c.args.p.now).entries s).name s (c.requires.parts.core.found s on) c.requires.leaf.1 ∙ has in
    let was' : held (core_of c.translate_in.new.p) disk ((core_of c.translate_in.new.p).entries s).name ≡ Some o = ap (held (core_of c.translate_in.new.p) disk) first.1 ∙ ap (λ (f : ℕ → Option Object). f ((core_of c.args.p.now).entries s).name) one_.held ∙ was in
    let backed' : IsBacked (core_of c.put_field.new.p) disk = c.put_field.ensures.backed disk one_.backed in
    let at : place_of ((core_of c.put_field.new.p).entries s).state ≡ Some p = ap (λ (e : Entry). place_of e.state) c.put_field.ensures.entry ∙ c.place_of_body-at.ensures in
    let same_parts = c.merge_out.ensures.same in
    let has' : disk ((core_of c.put_field.new.p).entries s).name ≡ Some (object_in (raw_of c.translate_in.new.buf)) = still (core_of c.args.p.now) (core_of c.translate_in.new.p) (core_of c.put_field.new.p) disk s (object_in (raw_of c.translate_in.new.buf)) first.1 then.1 (has ∙ ap (λ (b : List ℕ). Some (object_in (raw_of b))) (sym c.translate_in.ensures.same)) in
    let made : object_in (raw_of c.merge_out.new.buf) ≡ object_at (core_of c.put_field.new.p) disk ((core_of c.put_field.new.p).entries s) p = c.merge_out.ensures.object disk p backed' at (λ not. has') in
    let over : KeepsOver (core_of c.put_field.new.p) disk (core_of c.set_written.new.p) (disk_with (core_of c.put_field.new.p) disk s p) = subst (λ (q : Parts). KeepsOver (core_of q) disk (core_of c.set_written.new.p) (disk_with (core_of q) disk s p)) same_parts
    (c.set_written.ensures.keeps disk p (subst (λ (q : Parts). IsBacked (core_of q) disk) (sym same_parts) backed') (ap (λ (q : Parts). place_of ((core_of q).entries s).state) same_parts ∙ at)) in
    let disks : disk_with (core_of c.put_field.new.p) disk s p ≡ put disk ((core_of c.args.p.now).entries s).name (Some (object_in (raw_of c.merge_out.new.buf))) = ap (λ (n : ℕ). put disk n (Some (object_at (core_of c.put_field.new.p) disk ((core_of c.put_field.new.p).entries s) p))) name ∙ ap (λ (x : Object). put disk ((core_of c.args.p.now).entries s).name (Some x)) (sym made) in
    let over' : KeepsOver (core_of c.put_field.new.p) disk (core_of c.set_written.new.p) (put disk ((core_of c.args.p.now).entries s).name (Some (object_in (raw_of c.merge_out.new.buf)))) = subst (λ (k : Disk). KeepsOver (core_of c.put_field.new.p) disk (core_of c.set_written.new.p) k) disks over in
    let last = c.drop_body.ensures.stays (put disk ((core_of c.args.p.now).entries s).name (Some (object_in (raw_of c.merge_out.new.buf)))) over'.backed in
    record {
      backed = last.backed;
      held = last.held ∙ over'.held ∙ c.put_field.ensures.held disk o one_.backed was'
          ∙ ap (λ (v : Value). put (held (core_of c.translate_in.new.p) disk) ((core_of c.translate_in.new.p).entries s).name (Some (record { class = o.class; body = with_field o.body c.args.i v }))) (meant-odd (core_of c.translate_in.new.p).entries [] 0 c.args.w c.requires.number ∙ sym (meant-odd (core_of c.args.p.now).entries [] 0 c.args.w c.requires.number))
          ∙ ap (λ (f : ℕ → Option Object). put f ((core_of c.translate_in.new.p).entries s).name (Some (record { class = o.class; body = with_field o.body c.args.i (meant (core_of c.args.p.now).entries [] 0 c.args.w) }))) one_.held
          ∙ ap (λ (n : ℕ). put (held (core_of c.args.p.now) disk) n (Some (record { class = o.class; body = with_field o.body c.args.i (meant (core_of c.args.p.now).entries [] 0 c.args.w) }))) first.1;
    }
