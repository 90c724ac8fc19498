use Rattle.std.proofs.Common.{ℕ, List, ◌≡◌, ◌≢◌, Option, Some, length, get_or, sym, ◌∙◌, ap, subst, arith, ⊎_elim}
use Rattle.std.proofs.lemmas.Bool.{cases_eq}
use Rattle.std.proofs.lemmas.Option.{slice_get_within}
use Rattle.std.proofs.Math.ListN.{length-set, length-replicate}
use Rattle.std.specs.List.{slice_get, slice_set}
use Rattle.long_names.specs.Words.{value_of}
use Rattle.long_names.specs.declared.value.Value.{Value}
use Rattle.object_record.specs.Raw.{longs_of}
use Rattle.object_record.specs.Buffer.{raw_of}
use Rattle.object_record.specs.Objects.{value_in}
use Rattle.object_table.specs.declared.entry.Entry.{Entry}
use Rattle.object_table.specs.Entries.{place_of}
use Rattle.core_view.specs.Words.{pointers}
use Rattle.core_view.specs.Held.{fields_there}
use Rattle.core_view.proofs.Steps.{Keeps-refl, Keeps-trans}
use Rattle.leaf_lambda.specs.Parts.{core_of, spare_of}
use Rattle.leaf_lambda.specs.Records.{MayBeLambda}
use Rattle.leaf_lambda.proofs.FillLaws.{get-set, get-set-other}
use Rattle.leaf_lambda.proofs.RecordLaws.{get-zeros, map-get}
use Rattle.leaf_lambda.proofs.TranslateLaws.{Light-later, Resolves-refl, Resolves-trans, MayBe-later}
use Rattle.leaf_lambda.proofs.translate.resolve_fields.Goals as goal

pub loop-i-init : goal.loop-i-init
loop-i-init c = record {
  parts = c.requires.parts;
  keeps = λ disk backed there. Keeps-refl disk (core_of c.args.p.now) backed;
  resolves = Resolves-refl c.args.s.0 c.args.p.now;
  long = ap length c.requires.fields ∙ length-replicate c.args.count 0;
  rest = λ j low high. ap (λ (ws : List ℕ). slice_get ws j) c.requires.fields ∙ get-zeros c.args.count j high;
  lambdas = λ j low. absurd (omega arith);
}

pub long_field-word-requires-clause-field : goal.long_field-word-requires-clause-field
long_field-word-requires-clause-field c = omega (arith, c.requires.count)

pub resolve_field-requires-clause-there : goal.resolve_field-requires-clause-there
resolve_field-requires-clause-there c = record {
  place = ap (λ (e : Entry). place_of e.state) c.loop-i.invariant.resolves.entry ∙ c.requires.place;
  word = ap (λ (e : Entry). slice_get (pointers e.kind ((core_of c.loop-i.p).chunks c.args.at.place).words) c.loop-i.i) c.loop-i.invariant.resolves.entry ∙ c.loop-i.invariant.rest c.loop-i.i (omega arith) (omega arith);
}

pub resolve_field-requires-clause-light : goal.resolve_field-requires-clause-light
resolve_field-requires-clause-light c = Light-later c.args.s.0 (core_of c.args.p.now) (core_of c.loop-i.p) c.loop-i.invariant.resolves.within c.requires.light

pub loop-i-preserved : goal.loop-i-preserved
loop-i-preserved c =
    let k = ((core_of c.args.p.now).entries c.args.s.0).kind in
    let was = pointers k ((core_of c.loop-i.p).chunks c.args.at.place).words in
    let r = c.resolve_field.ensures in
    let fields : pointers k ((core_of c.resolve_field.new.p).chunks c.args.at.place).words ≡ slice_set was c.loop-i.i c.resolve_field.result =
    subst (λ (e : Entry). pointers e.kind ((core_of c.resolve_field.new.p).chunks c.args.at.place).words ≡ slice_set (pointers e.kind ((core_of c.loop-i.p).chunks c.args.at.place).words) c.loop-i.i c.resolve_field.result) c.loop-i.invariant.resolves.entry r.fields in
    let later = λ (o : Option Value). MayBe-later (core_of c.loop-i.p).find (core_of c.resolve_field.new.p).find (spare_of c.loop-i.p) (spare_of c.resolve_field.new.p) o r.resolves.sparing.few r.resolves.sparing.less in
    record {
      parts = r.parts;
      keeps = λ disk backed there.
          let first = c.loop-i.invariant.keeps disk backed there in
          Keeps-trans disk (core_of c.args.p.now) (core_of c.loop-i.p) (core_of c.resolve_field.new.p) first
          (r.keeps disk first.backed (ap (λ (e : Entry). slice_get (fields_there (disk e.name)) c.loop-i.i) c.loop-i.invariant.resolves.entry
          ∙ ap (λ (vs : List Value). slice_get vs c.loop-i.i) there ∙ map-get (longs_of (raw_of c.args.buf.now).body) c.loop-i.i (omega (arith, c.requires.count)) ∙ ap (λ (x : ℕ). Some (value_in x)) (sym c.long_field-word.ensures)));
      resolves = Resolves-trans c.args.s.0 c.loop-i.i 1 c.args.p.now c.loop-i.p c.resolve_field.new.p c.loop-i.invariant.resolves r.resolves;
      long = ap length fields ∙ length-set was c.loop-i.i c.resolve_field.result ∙ c.loop-i.invariant.long;
      rest = λ j low high. ap (λ (ws : List ℕ). slice_get ws j) fields ∙ get-set-other was c.loop-i.i c.resolve_field.result j (λ e. absurd (omega arith)) ∙ c.loop-i.invariant.rest j (omega arith) high;
      lambdas = λ j low word. ⊎_elim
          (λ (h : j ≡ c.loop-i.i).
          let here : slice_get (slice_set was c.loop-i.i c.resolve_field.result) c.loop-i.i ≡ Some 0 = ap (λ (z : ℕ). slice_get (slice_set was c.loop-i.i c.resolve_field.result) z) (sym h) ∙ ap (λ (ws : List ℕ). slice_get ws j) (sym fields) ∙ word in
          let zero_ : c.resolve_field.result ≡ 0 = same c.resolve_field.result 0 (sym (get-set was c.loop-i.i c.resolve_field.result (omega (arith, c.loop-i.invariant.long))) ∙ here) in
          later (value_of (get_or (longs_of (raw_of c.args.buf.now).body) j 0))
          (subst (λ (x : ℕ). MayBeLambda (core_of c.loop-i.p).find (spare_of c.loop-i.p) (value_of x)) (c.long_field-word.ensures ∙ ap (λ (z : ℕ). get_or (longs_of (raw_of c.args.buf.now).body) z 0) (sym h)) (r.lambda zero_)))
          (λ (h : j ≢ c.loop-i.i). later (value_of (get_or (longs_of (raw_of c.args.buf.now).body) j 0))
          (c.loop-i.invariant.lambdas j (omega arith) (sym (get-set-other was c.loop-i.i c.resolve_field.result j h) ∙ ap (λ (ws : List ℕ). slice_get ws j) (sym fields) ∙ word))) (cases_eq j c.loop-i.i);
    }
  where
    same : (a b : ℕ) → Some a ≡ Some b → a ≡ b
    same a b e = cc

pub returns-clause-lambda : goal.returns-clause-lambda
returns-clause-lambda c = λ i word.
    let low = slice_get_within (pointers ((core_of c.args.p.now).entries c.args.s.0).kind ((core_of c.loop-i.p).chunks c.args.at.place).words) i 0 word in
    c.loop-i.invariant.lambdas i (omega (arith, low, c.loop-i.invariant.long)) word
