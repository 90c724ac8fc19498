use Rattle.std.proofs.Common.{◌≡◌, ◌+◌, ℕ, List, map, drop, refl, sym, ◌∙◌, ap, subst, arith}
use Rattle.std.specs.Prelude.{◌∷◌, []}
use Rattle.long_names.specs.declared.value.Value.{Value}
use Rattle.object_record.specs.Raw.{longs_of}
use Rattle.object_record.specs.Buffer.{raw_of}
use Rattle.object_record.specs.Objects.{value_in}
use Rattle.loom_host.proofs.WorkLaws.{work-itself, work-again, exits}
use Rattle.core_view.specs.Counted.{IsSound}
use Rattle.delta_counts.specs.At.{IsReached}
use Rattle.delta_counts.proofs.PartLaws.{counting-refl, counting-trans, counting-names}
use Rattle.delta_counts.proofs.WordLaws.{drop-next, drop-all, reached-then, reached-some, field-value, field-some}
use Rattle.loom_host.specs.declared.outside.Role.TheVariants.{Work}
use Rattle.delta_counts.specs.Faults.{IsWordsFault}
use Rattle.delta_counts.proofs.FaultLaws.{words-again}
use Rattle.delta_counts.proofs.words.lower_fields.Goals as goal

pub loop-i-init : goal.loop-i-init
loop-i-init g c = record {
  told = λ told chunks t at x. record { levels = t; at = at; sound = x; heap = refl };
  counting = counting-refl c.args.p.now;
  held = refl;
  room = refl;
  work = work-itself g.H.Host c.args.disk.now.host.now;
  same_host = refl;
}

pub lower_long-requires-clause-names : goal.lower_long-requires-clause-names
lower_long-requires-clause-names g c = counting-names c.args.p.now c.loop-i.p c.loop-i.invariant.counting c.requires.names

pub lower_long-requires-clause-sound : goal.lower_long-requires-clause-sound
lower_long-requires-clause-sound g c = λ told.
    let x = c.requires.sound told in
    let longs = longs_of (raw_of c.args.buf.now).body in
    reached-some g.H.Host x.0 c.loop-i.p c.loop-i.disk.host.now c.loop-i.disk.rest x.1 (value_in c.long_field.result) (drop (c.loop-i.i + 1) (map value_in longs)) (drop c.loop-i.i (map value_in longs))
    (drop-next longs c.loop-i.i (c.loop-i.i + 1) (let low = c.loop-i-test.true in let e = c.field_count-count.ensures in omega arith) refl ∙ ap (λ (n : ℕ). value_in n ∷ drop (c.loop-i.i + 1) (map value_in longs)) (sym c.long_field.ensures))
    (c.loop-i.invariant.told told x.0 x.1 x.2 x.3)

pub loop-i-preserved : goal.loop-i-preserved
loop-i-preserved g c =
    let longs = longs_of (raw_of c.args.buf.now).body in
    let r = c.in_ok-lower_long.ensures in
    let next : drop c.loop-i.i (map value_in longs) ≡ value_in c.long_field.result ∷ drop (c.loop-i.i + 1) (map value_in longs) =
    drop-next longs c.loop-i.i (c.loop-i.i + 1) (let low = c.loop-i-test.true in let e = c.field_count-count.ensures in omega arith) refl ∙ ap (λ (n : ℕ). value_in n ∷ drop (c.loop-i.i + 1) (map value_in longs)) (sym c.long_field.ensures) in
    record {
      told = λ told chunks t at x.
          let before = c.loop-i.invariant.told told chunks t at x in
          reached-then g.H.Host chunks c.lower_long.new.p c.lower_long.new.disk.host.now c.lower_long.new.disk.rest t before.levels (drop (c.loop-i.i + 1) (map value_in longs)) before.heap
          (r.lowered told chunks before.levels (drop (c.loop-i.i + 1) (map value_in longs)) before.at (subst (λ vs. IsSound before.levels vs) next before.sound));
      counting = counting-trans c.args.p.now c.loop-i.p c.lower_long.new.p c.loop-i.invariant.counting r.counting;
      held = r.held ∙ c.loop-i.invariant.held;
      room = r.room ∙ c.loop-i.invariant.room;
      work = work-again g.H.Host c.args.disk.now.host.now c.loop-i.disk.host.now c.lower_long.new.disk.host.now c.loop-i.invariant.work r.work;
      same_host = r.same_host ∙ c.loop-i.invariant.same_host;
    }

pub returns-clause-lowered : goal.returns-clause-lowered
returns-clause-lowered g c = λ told chunks t at x.
    let longs = longs_of (raw_of c.args.buf.now).body in
    subst (λ (vs : List Value). IsReached g.H.Host chunks c.loop-i.p c.loop-i.disk.host.now c.loop-i.disk.rest t vs)
    (drop-all longs c.loop-i.i (let high = c.loop-i-test.false in let e = c.field_count-count.ensures in omega arith)) (c.loop-i.invariant.told told chunks t at x)

pub lower_long-requires-clause-value : goal.lower_long-requires-clause-value
lower_long-requires-clause-value g c = λ told.
    let longs = longs_of (raw_of c.args.buf.now).body in
    field-value longs c.loop-i.i c.long_field.result (let low = c.loop-i-test.true in let e = c.field_count-count.ensures in omega arith) c.long_field.ensures (c.requires.values told)

pub returns-in_err-lower_long-clause-fault : goal.returns-in_err-lower_long-clause-fault
returns-in_err-lower_long-clause-fault g c =
    let h = g.H.Host in
    let longs = longs_of (raw_of c.args.buf.now).body in
    exits c.from_residual.result c.in_err-lower_long.field-0.0
    (IsWordsFault (h.tells Work) (h.faults c.args.disk.now.host.now Work) (h.faults c.lower_long.new.disk.host.now Work) c.args.disk.now.rest (map value_in longs) c.args.place (raw_of c.args.buf.now).name)
    c.from_residual.ensures.1
    (subst (λ (n : ℕ). IsWordsFault (h.tells Work) (h.faults c.args.disk.now.host.now Work) (h.faults c.lower_long.new.disk.host.now Work) c.args.disk.now.rest (map value_in longs) c.args.place n c.in_err-lower_long.field-0.0) c.name-name.ensures
    (words-again _ _ _ _ c.args.disk.now.rest c.loop-i.disk.rest (value_in c.long_field.result ∷ []) (map value_in longs) c.args.place c.name-name.result c.in_err-lower_long.field-0.0 c.loop-i.invariant.work.later c.loop-i.invariant.room
    (field-some longs c.loop-i.i c.long_field.result (let low = c.loop-i-test.true in let e = c.field_count-count.ensures in omega arith) c.long_field.ensures) c.in_err-lower_long.ensures.fault))
