use Rattle.std.proofs.Common.{List, [], ◌∷◌, ◌+◌, map, take, refl, sym, subst, arith}
use Rattle.std.specs.Prelude.{slice_index}
use Rattle.long_names.specs.declared.value.Value.{Value}
use Rattle.object_table.specs.Table.{entry_at}
use Rattle.delta_counts.specs.Shorts.{Lowers, short_value}
use Rattle.delta_counts.proofs.PartLaws.{counting-trans}
use Rattle.delta_counts.proofs.ShortLaws.{lowers-then, taken, taken-all, value-same}
use Rattle.delta_counts.proofs.shorts.lower_shorts.Goals as goal

pub loop-i-preserved : goal.loop-i-preserved
loop-i-preserved c =
    let p = c.args.p.now in
    let q = c.loop-i.p in
    let r = c.lower_short.new.p in
    let i = c.loop-i.i in
    let ws = c.args.words.now in
    let f = short_value (entry_at p.table) in
    record {
      lowers = subst (λ (vs : List Value). Lowers p r vs) (sym (taken f ws i (i + 1) (let low = c.loop-i-test.true in omega arith) refl))
          (lowers-then p q r (take i (map f ws)) (f (slice_index ws i) ∷ []) c.loop-i.invariant.lowers
          (subst (λ (v : Value). Lowers q r (v ∷ [])) (value-same p q (slice_index ws i) c.loop-i.invariant.counting) c.lower_short.ensures.lowered));
      counting = counting-trans p q r c.loop-i.invariant.counting c.lower_short.ensures.counting;
    }

pub returns-clause-lowered : goal.returns-clause-lowered
returns-clause-lowered c =
    subst (λ (vs : List Value). Lowers c.args.p.now c.loop-i.p vs) (taken-all (short_value (entry_at c.args.p.now.table)) c.args.words.now c.loop-i.i (let high = c.loop-i-test.false in omega arith)) c.loop-i.invariant.lowers
