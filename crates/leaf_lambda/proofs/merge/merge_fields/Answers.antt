use Rattle.std.proofs.Common.{ℕ, ◌≡◌, ◌≢◌, map, get_or, refl, sym, ◌∙◌, ap, subst, arith, ⊎_elim}
use Rattle.std.proofs.lemmas.Bool.{cases_eq}
use Rattle.std.proofs.lemmas.Option.{slice_get-get_or}
use Rattle.object_record.specs.Raw.{RawRecord, RawBody, longs_of, with_raw}
use Rattle.object_record.specs.Buffer.{raw_of}
use Rattle.object_record.specs.Objects.{value_in}
use Rattle.core_view.specs.Words.{meant, pointers}
use Rattle.core_view.specs.Steps.{IsAt}
use Rattle.leaf_lambda.specs.Parts.{core_of}
use Rattle.leaf_lambda.specs.Records.{with_longs}
use Rattle.leaf_lambda.proofs.MergeLaws.{longs-again, longs-same, get_or-same, meant-at, all-merged}
use Rattle.leaf_lambda.proofs.merge.merge_fields.Goals as goal

pub loop-i-init : goal.loop-i-init
loop-i-init c = record {
  record_there = c.requires.record;
  longs = ap (λ (b : RawBody). with_raw (raw_of c.args.buf.now) b) (longs-same (raw_of c.args.buf.now).body);
  long = refl;
  rest = λ k low. refl;
  done = λ k w low. absurd (omega arith);
}

pub merge_field-requires-clause-there : goal.merge_field-requires-clause-there
merge_field-requires-clause-there c = (
  get_or (pointers ((core_of c.args.p.now).entries c.args.s.0).kind ((core_of c.args.p.now).chunks c.args.at.place).words) c.loop-i.i 0,
  record { place = c.requires.place; word = slice_get-get_or (pointers ((core_of c.args.p.now).entries c.args.s.0).kind ((core_of c.args.p.now).chunks c.args.at.place).words) c.loop-i.i 0 (omega (arith, c.requires.fields)) },
)

pub merge_field-requires-clause-record : goal.merge_field-requires-clause-record
merge_field-requires-clause-record c = c.loop-i.invariant.record_there

pub merge_field-requires-clause-within : goal.merge_field-requires-clause-within
merge_field-requires-clause-within c = omega (arith, c.loop-i.invariant.long, c.requires.count)

pub loop-i-preserved : goal.loop-i-preserved
loop-i-preserved c =
    let first = raw_of c.args.buf.now in
    let now = raw_of c.loop-i.buf in
    let next = raw_of c.merge_field.new.buf in
    let r = c.merge_field.ensures in
    record {
      record_there = r.record;
      longs = r.longs ∙ ap (λ (x : RawRecord). with_raw x (with_longs x.body (longs_of next.body))) c.loop-i.invariant.longs ∙ ap (λ (b : RawBody). with_raw first b) (longs-again first.body (longs_of now.body) (longs_of next.body));
      long = r.long ∙ c.loop-i.invariant.long;
      rest = λ k low. r.others k (λ e. absurd (omega arith)) ∙ c.loop-i.invariant.rest k (omega arith);
      done = λ k w low at. ⊎_elim
          (λ (h : k ≡ c.loop-i.i).
          ap (λ (z : ℕ). value_in (get_or (longs_of next.body) z 0)) h
          ∙ r.here w (subst (λ (z : ℕ). IsAt (core_of c.args.p.now) c.args.s.0 c.args.at.place z w) h at)
          ∙ meant-at (core_of c.args.p.now).entries (longs_of now.body) (longs_of first.body) c.loop-i.i w (omega (arith, c.loop-i.invariant.long, c.requires.count)) (omega (arith, c.requires.count)) (c.loop-i.invariant.rest c.loop-i.i (omega arith))
          ∙ ap (λ (z : ℕ). meant (core_of c.args.p.now).entries (map value_in (longs_of first.body)) z w) (sym h))
          (λ (h : k ≢ c.loop-i.i). ap value_in (get_or-same (longs_of next.body) (longs_of now.body) k (r.others k h)) ∙ c.loop-i.invariant.done k w (omega arith) at) (cases_eq k c.loop-i.i);
    }

pub returns-clause-record : goal.returns-clause-record
returns-clause-record c = c.loop-i.invariant.record_there

pub returns-clause-longs : goal.returns-clause-longs
returns-clause-longs c = c.loop-i.invariant.longs

pub returns-clause-values : goal.returns-clause-values
returns-clause-values c =
    all-merged (meant (core_of c.args.p.now).entries (map value_in (longs_of (raw_of c.args.buf.now).body))) (longs_of (raw_of c.loop-i.buf).body) (pointers ((core_of c.args.p.now).entries c.args.s.0).kind ((core_of c.args.p.now).chunks c.args.at.place).words)
    (omega (arith, c.loop-i.invariant.long, c.requires.count, c.requires.fields)) (λ k w low at. c.loop-i.invariant.done k w (omega (arith, c.requires.fields)) (record { place = c.requires.place; word = at }))
