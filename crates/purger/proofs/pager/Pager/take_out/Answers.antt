use Rattle.std.proofs.Common.{◌∙◌, refl, ap}
use Rattle.object_table.specs.declared.entry.Entry.{Entry}
use Rattle.object_table.specs.Entries.{place_of}
use Rattle.core_view.proofs.Core.{placed-used}
use Rattle.leaf_lambda.specs.Parts.{core_of}
use Rattle.purger.specs.Pager.{core_in}
use Rattle.purger.proofs.SoundLaws.{core-at}
use Rattle.purger.proofs.DrainLaws.{entry-at, may-drop}
use Rattle.purger.proofs.DyingLaws.{took-out}
use Rattle.purger.proofs.pager.Pager.take_out.Goals as goal

pub used_entry-e-requires : goal.used_entry-e-requires
unfolding core_of
used_entry-e-requires g c = placed-used ((core_in c.args.self.now).entries c.args.s.0).state c.requires.may.body.0 c.requires.may.body.1

pub drop_record-requires : goal.drop_record-requires
unfolding core_of
drop_record-requires g c = record {
  may = λ told.
      let x = c.requires.may.dead told in
      let l = c.args.self.now.levels in
      let e = c.used_entry-e.result in (
        x.0.stored,
        x.0.pending,
        x.1.disk,
        may-drop x.0 c.args.s.0 c.requires.may.body.0 e.name e.flags.fresh e x.2 (entry-at l.parts x.0 c.args.s.0 e (core-at g.H.Host l.parts l.disk.host.now l.disk.rest x.0 x.1) c.used_entry-e.ensures)
            (ap (λ (y : Entry). place_of y.state) c.used_entry-e.ensures ∙ c.requires.may.body.1) refl refl,
      );
}

pub returns : goal.returns
unfolding core_of
returns g c =
    let l = c.args.self.now.levels in
    let s = c.args.s.0 in
    let e = c.used_entry-e.result in
    let d = c.drop_record.ensures in
    let f = c.forget.ensures in
    record {
      takes = took-out s c.args.self.now _ tt c.requires.may e.name (ap (λ (y : Entry). y.name) c.used_entry-e.ensures) d.disk refl refl f.forgotten f.size f.wider f.spare c.in_ok-drop_record.ensures.held
          (λ told t at z. c.in_ok-drop_record.ensures.dropped told t.stored t.pending at.disk
          (may-drop t s c.requires.may.body.0 e.name e.flags.fresh e z (entry-at l.parts t s e (core-at g.H.Host l.parts l.disk.host.now l.disk.rest t at) c.used_entry-e.ensures)
          (ap (λ (y : Entry). place_of y.state) c.used_entry-e.ensures ∙ c.requires.may.body.1) refl refl));
    }
