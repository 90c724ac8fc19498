use Rattle.std.proofs.Common.{◌+◌, ◌*◌, ◌∙◌, sym, arith}
use Rattle.leaf_lambda.specs.Parts.{core_of}
use Rattle.loom_memory.proofs.FreshLaws.{fresh-all, fresh-first, fresh-next, fresh-one}
use Rattle.loom_memory.proofs.settling.count_fresh.Goals as goal

pub loop-i-init : goal.loop-i-init
loop-i-init c = record { sum = sym (fresh-first (core_of c.args.p.now) c.requires.core); few = omega arith; low = omega arith }

pub fresh_at-count-requires-clause-within : goal.fresh_at-count-requires-clause-within
fresh_at-count-requires-clause-within c = let low = c.loop-i-test.true in let all = c.used_end-i-end.ensures.most in omega (arith, low, all)

pub loop-i-preserved : goal.loop-i-preserved
loop-i-preserved c =
    let i = c.loop-i.invariant in
    let here = c.fresh_at-count.ensures in
    let more = fresh-next (core_of c.args.p.now) c.requires.core c.loop-i.i in
    let one = fresh-one (core_of c.args.p.now) (2 * c.loop-i.i + 2) in
    let sum = i.sum in
    let few = i.few in
    let test = c.loop-i-test.true in
    let all = c.used_end-i-end.ensures.most in
    record { sum = omega (arith, sum, here, more); few = omega (arith, few, here, one); low = omega (arith, test, all) }

pub overflow_add-count : goal.overflow_add-count
overflow_add-count c =
    let few = c.loop-i.invariant.few in
    let here = c.fresh_at-count.ensures in
    let one = fresh-one (core_of c.args.p.now) (2 * c.loop-i.i + 2) in
    let low = c.loop-i-test.true in
    omega (arith, few, here, one, low)

pub returns : goal.returns
unfolding core_of
returns c = c.loop-i.invariant.sum ∙ fresh-all c.args.p.now c.loop-i.i c.loop-i.invariant.low (λ s used. let end = c.loop-i-test.false in let low = c.used_end-i-end.ensures.used s used in omega arith)
