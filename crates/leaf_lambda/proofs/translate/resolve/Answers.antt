use Rattle.std.proofs.Common.{◌≡◌, ℕ, List, Some, sym, ◌∙◌, ap, subst}
use Rattle.std.proofs.lemmas.Option.{slice_get_within}
use Rattle.std.specs.List.{slice_get, slice_set}
use Rattle.long_names.specs.declared.value.Value.{Value}
use Rattle.object_record.specs.Raw.{longs_of}
use Rattle.object_record.specs.Buffer.{raw_of}
use Rattle.object_record.specs.Objects.{value_in}
use Rattle.object_table.specs.declared.entry.Entry.{Entry}
use Rattle.object_table.specs.Entries.{place_of}
use Rattle.core_view.specs.Words.{pointers}
use Rattle.core_view.specs.Held.{fields_there}
use Rattle.core_view.specs.Steps.{IsAt}
use Rattle.leaf_lambda.specs.Parts.{core_of}
use Rattle.leaf_lambda.proofs.FillLaws.{get-set}
use Rattle.leaf_lambda.proofs.RecordLaws.{fields-values, map-get}
use Rattle.leaf_lambda.proofs.translate.resolve.Goals as goal

some-same : {A : Type 0} (x y : A) → Some x ≡ Some y → x ≡ y
some-same x y e = cc

pub place_of_body-at-requires-clause-there : goal.place_of_body-at-requires-clause-there
place_of_body-at-requires-clause-there c = (c.requires.lambda.0, c.requires.lambda.1.place)

pub resolve_field-requires-clause-there : goal.resolve_field-requires-clause-there
resolve_field-requires-clause-there c =
    let same : c.requires.lambda.0 ≡ c.place_of_body-at.result.place = some-same c.requires.lambda.0 c.place_of_body-at.result.place (sym c.requires.lambda.1.place ∙ c.place_of_body-at.ensures) in
    subst (λ (z : ℕ). IsAt (core_of c.args.p.now) c.args.s.0 z c.args.i 0) same c.requires.lambda.1

pub returns-clause-keeps : goal.returns-clause-keeps
returns-clause-keeps c = λ disk backed there. c.resolve_field.ensures.keeps disk backed
    (ap (λ o. slice_get (fields_there o) c.args.i) there ∙ ap (λ (vs : List Value). slice_get vs c.args.i) (fields-values (raw_of c.args.buf.now).body) ∙ map-get (longs_of (raw_of c.args.buf.now).body) c.args.i c.requires.field ∙ ap (λ (x : ℕ). Some (value_in x)) (sym c.long_field-long.ensures))

pub returns-clause-lambda : goal.returns-clause-lambda
returns-clause-lambda c = λ at is.
    let k = ((core_of c.args.p.now).entries c.args.s.0).kind in
    let was = pointers k ((core_of c.args.p.now).chunks c.place_of_body-at.result.place).words in
    let here : c.requires.lambda.0 ≡ c.place_of_body-at.result.place = some-same c.requires.lambda.0 c.place_of_body-at.result.place (sym c.requires.lambda.1.place ∙ c.place_of_body-at.ensures) in
    let same : at ≡ c.place_of_body-at.result.place = some-same at c.place_of_body-at.result.place (sym is.place ∙ ap (λ (e : Entry). place_of e.state) c.resolve_field.ensures.resolves.entry ∙ c.place_of_body-at.ensures) in
    let there : slice_get was c.args.i ≡ Some 0 = ap (λ (z : ℕ). slice_get (pointers k ((core_of c.args.p.now).chunks z).words) c.args.i) (sym here) ∙ c.requires.lambda.1.word in
    let low = slice_get_within was c.args.i 0 there in
    let word : slice_get (slice_set was c.args.i c.resolve_field.result) c.args.i ≡ Some 0 =
    ap (λ (ws : List ℕ). slice_get ws c.args.i) (sym c.resolve_field.ensures.fields)
    ∙ ap (λ (e : Entry). slice_get (pointers e.kind ((core_of c.resolve_field.new.p).chunks c.place_of_body-at.result.place).words) c.args.i) (sym c.resolve_field.ensures.resolves.entry)
    ∙ ap (λ (z : ℕ). slice_get (pointers ((core_of c.resolve_field.new.p).entries c.args.s.0).kind ((core_of c.resolve_field.new.p).chunks z).words) c.args.i) (sym same) ∙ is.word in
    c.resolve_field.ensures.lambda (some-same c.resolve_field.result 0 (sym (get-set was c.args.i c.resolve_field.result low) ∙ word))

pub returns-clause-fields : goal.returns-clause-fields
returns-clause-fields c = λ at place.
    let k = ((core_of c.args.p.now).entries c.args.s.0).kind in
    let same : c.place_of_body-at.result.place ≡ at = some-same c.place_of_body-at.result.place at (sym c.place_of_body-at.ensures ∙ place) in (
      c.resolve_field.result,
      subst (λ (z : ℕ). pointers k ((core_of c.resolve_field.new.p).chunks z).words ≡ slice_set (pointers k ((core_of c.args.p.now).chunks z).words) c.args.i c.resolve_field.result)
          same c.resolve_field.ensures.fields,
    )
