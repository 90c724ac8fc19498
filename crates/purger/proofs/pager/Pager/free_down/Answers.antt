use Rattle.std.proofs.Common.{◌-◌, Err, arith}
use Rattle.purger.proofs.DrainLaws.{twice-short}
use Rattle.purger.proofs.FreeingLaws.{free-done, free-exit, free-then, named-entries, named-refl, named-trans, sound-behind, thins-refl, thins-trans}
use Rattle.purger.proofs.pager.Pager.free_down.Goals as goal

pub loop-i-init : goal.loop-i-init
loop-i-init g c = record { leaves = named-refl c.args.self.now; keeps = thins-refl c.args.self.now }

pub free_chain-requires-clause-sound : goal.free_chain-requires-clause-sound
free_chain-requires-clause-sound g c = sound-behind c.args.self.now c.loop-i.self c.requires.sound c.loop-i.invariant.keeps

pub free_chain-requires-clause-within : goal.free_chain-requires-clause-within
free_chain-requires-clause-within g c = let low = c.loop-i-test.true in let all = c.used_end-count.ensures.most in let same = named-entries c.args.self.now c.loop-i.self c.loop-i.invariant.leaves in omega arith

pub free_chain-requires-clause-short : goal.free_chain-requires-clause-short
free_chain-requires-clause-short g c = twice-short (c.used_end-count.result - c.loop-i.i) (let low = c.loop-i-test.true in omega arith)

pub loop-i-preserved : goal.loop-i-preserved
loop-i-preserved g c =
    let a = c.args.self.now in
    let b = c.loop-i.self in
    let n = c.free_chain.new.self in
    let i = c.loop-i.invariant in
    let r = c.in_ok-free_chain.ensures in
    record {
      leaves = named-trans a b n i.leaves r.frees.leaves;
      keeps = thins-trans a b n i.keeps r.frees.keeps;
    }

pub returns-in_err-free_chain : goal.returns-in_err-free_chain
returns-in_err-free_chain g c = record {
  frees = free-exit _ _ c.from_residual.result c.in_err-free_chain.field-0.0 c.from_residual.ensures.1
      (free-then c.args.self.now c.loop-i.self c.free_chain.new.self (Err _) c.loop-i.invariant.leaves c.loop-i.invariant.keeps c.in_err-free_chain.ensures.frees);
}

pub returns : goal.returns
returns g c = record { frees = free-done c.args.self.now c.loop-i.self _ c.loop-i.invariant.leaves c.loop-i.invariant.keeps }
