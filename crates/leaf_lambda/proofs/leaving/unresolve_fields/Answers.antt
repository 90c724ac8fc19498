use Rattle.std.proofs.Common.{◌≡◌, ◌≢◌, ℕ, List, length, replicate, get_or, refl, sym, ◌∙◌, ap, subst, arith, ⊎_elim}
use Rattle.std.proofs.lemmas.Option.{slice_get-get_or}
use Rattle.std.specs.List.{slice_get, slice_set}
use Rattle.object_table.specs.declared.entry.Entry.{Entry}
use Rattle.object_table.specs.Entries.{place_of, with_refs}
use Rattle.core_view.specs.Words.{pointers}
use Rattle.core_view.proofs.Steps.{Keeps-trans, Keeps-refl}
use Rattle.leaf_lambda.specs.Parts.{core_of}
use Rattle.leaf_lambda.proofs.RoomLaws.{Room-refl, Room-trans}
use Rattle.leaf_lambda.proofs.FillLaws.{get-set, get-set-other, all-same}
use Rattle.leaf_lambda.proofs.RecordLaws.{get-zeros}
use Rattle.leaf_lambda.proofs.TranslateLaws.{Within-refl, Within-trans}
use Rattle.leaf_lambda.proofs.leaving.unresolve_fields.Goals as goal
use Rattle.std.proofs.lemmas.Bool.{cases_eq}
use Rattle.std.proofs.Math.ListN.{length-set, length-replicate}

pub loop-i-init : goal.loop-i-init
loop-i-init c = record {
  parts = c.requires.parts;
  stays = λ disk backed. Keeps-refl disk (core_of c.args.p.now) backed;
  within = Within-refl c.args.s.0 (core_of c.args.p.now);
  entry = refl;
  long = sym c.requires.count;
  zeros = λ j low. absurd (omega arith);
  body = refl;
  room = Room-refl c.args.p.now.segment;
  find = refl;
  spare = refl;
}

pub unresolve_field-requires-clause-there : goal.unresolve_field-requires-clause-there
unresolve_field-requires-clause-there c =
    let ws = pointers ((core_of c.args.p.now).entries c.args.s.0).kind ((core_of c.loop-i.p).chunks c.args.at.place).words in (
      get_or ws c.loop-i.i 0,
      record {
        place = ap (λ (e : Entry). place_of e.state) c.loop-i.invariant.entry ∙ c.requires.place;
        word = ap (λ (e : Entry). slice_get (pointers e.kind ((core_of c.loop-i.p).chunks c.args.at.place).words) c.loop-i.i) c.loop-i.invariant.entry ∙ slice_get-get_or ws c.loop-i.i 0 (omega (arith, c.loop-i.invariant.long));
      },
    )

pub loop-i-preserved : goal.loop-i-preserved
loop-i-preserved c =
    let k = ((core_of c.args.p.now).entries c.args.s.0).kind in
    let was = pointers k ((core_of c.loop-i.p).chunks c.args.at.place).words in
    let r = c.unresolve_field.ensures in
    let fields : pointers k ((core_of c.unresolve_field.new.p).chunks c.args.at.place).words ≡ slice_set was c.loop-i.i 0 =
    subst (λ (e : Entry). pointers e.kind ((core_of c.unresolve_field.new.p).chunks c.args.at.place).words ≡ slice_set (pointers e.kind ((core_of c.loop-i.p).chunks c.args.at.place).words) c.loop-i.i 0) c.loop-i.invariant.entry r.fields in
    record {
      parts = r.parts;
      stays = λ disk backed.
          let first = c.loop-i.invariant.stays disk backed in
          Keeps-trans disk (core_of c.args.p.now) (core_of c.loop-i.p) (core_of c.unresolve_field.new.p) first
          (r.keeps disk first.backed (ap (λ (e : Entry). e.flags.fresh) c.loop-i.invariant.entry ∙ c.requires.clean.0) (ap (λ (e : Entry). e.flags.changed) c.loop-i.invariant.entry ∙ c.requires.clean.1));
      within = Within-trans c.args.s.0 (core_of c.args.p.now) (core_of c.loop-i.p) (core_of c.unresolve_field.new.p) c.loop-i.invariant.within r.within;
      entry = r.entry ∙ ap (λ (e : Entry). with_refs e ((core_of c.unresolve_field.new.p).entries c.args.s.0).refs) c.loop-i.invariant.entry;
      long = ap length fields ∙ length-set was c.loop-i.i 0 ∙ c.loop-i.invariant.long;
      zeros = λ j low. ap (λ (ws : List ℕ). slice_get ws j) fields ∙ ⊎_elim
          (λ (h : j ≡ c.loop-i.i). ap (λ (z : ℕ). slice_get (slice_set was c.loop-i.i 0) z) h ∙ get-set was c.loop-i.i 0 (omega (arith, c.loop-i.invariant.long)))
          (λ (h : j ≢ c.loop-i.i). get-set-other was c.loop-i.i 0 j h ∙ c.loop-i.invariant.zeros j (omega arith)) (cases_eq j c.loop-i.i);
      body = r.long ∙ c.loop-i.invariant.body;
      room = Room-trans c.args.p.now.segment c.loop-i.p.segment c.unresolve_field.new.p.segment c.loop-i.invariant.room r.room;
      find = r.find ∙ c.loop-i.invariant.find;
      spare = r.spare ∙ c.loop-i.invariant.spare;
    }

pub returns-clause-fields : goal.returns-clause-fields
returns-clause-fields c =
    let ws = pointers ((core_of c.args.p.now).entries c.args.s.0).kind ((core_of c.loop-i.p).chunks c.args.at.place).words in
    all-same ws (replicate c.args.count 0) (c.loop-i.invariant.long ∙ sym (length-replicate c.args.count 0)) (λ k low. c.loop-i.invariant.zeros k (omega (arith, c.loop-i.invariant.long)) ∙ sym (get-zeros c.args.count k (omega (arith, c.loop-i.invariant.long))))
