use Rattle.std.proofs.Common.{◌+◌, ◌*◌, Err, arith}
use Rattle.core_view.proofs.Purge.{body-stays}
use Rattle.leaf_lambda.specs.Parts.{core_of}
use Rattle.purger.specs.Pager.{core_in}
use Rattle.purger.proofs.DrainLaws.{levels-all, levels-then, none-first}
use Rattle.purger.proofs.FreeingLaws.{free-done, free-exit, free-then, named-entries, named-refl, named-trans, sound-behind, thins-refl, thins-trans}
use Rattle.purger.proofs.pager.Pager.free_dead.Goals as goal

pub loop-i-init : goal.loop-i-init
loop-i-init g c = record { leaves = named-refl c.args.self.now; keeps = thins-refl c.args.self.now; none = λ told same t at x. (at, λ s p there. body-stays (core_in c.args.self.now) s p there, none-first t x.core) }

pub free_chain-requires-clause-sound : goal.free_chain-requires-clause-sound
free_chain-requires-clause-sound g c = sound-behind c.args.self.now c.loop-i.self c.requires.sound c.loop-i.invariant.keeps

pub free_chain-requires-clause-within : goal.free_chain-requires-clause-within
free_chain-requires-clause-within g c = let low = c.loop-i-test.true in let all = c.used_end-i-end.ensures.most in let same = named-entries c.args.self.now c.loop-i.self c.loop-i.invariant.leaves in omega arith

pub loop-i-preserved : goal.loop-i-preserved
loop-i-preserved g c =
    let a = c.args.self.now in
    let b = c.loop-i.self in
    let n = c.free_chain.new.self in
    let i = c.loop-i.invariant in
    let r = c.in_ok-free_chain.ensures in
    record {
      leaves = named-trans a b n i.leaves r.frees.leaves;
      keeps = thins-trans a b n i.keeps r.frees.keeps;
      none = λ told same.
          let first = i.leaves.rest.words in
          let then = r.frees.leaves.rest.words in
          levels-then g.H.Host a.levels.parts b.levels.parts n.levels.parts a.levels.disk.host.now b.levels.disk.host.now n.levels.disk.host.now a.levels.disk.rest b.levels.disk.rest n.levels.disk.rest c.loop-i.i
          (i.none told (omega arith)) (r.none told (omega arith));
    }

pub returns-in_err-free_chain-clause-frees : goal.returns-in_err-free_chain-clause-frees
returns-in_err-free_chain-clause-frees g c = free-exit _ _ c.from_residual.result c.in_err-free_chain.field-0.0 c.from_residual.ensures.1
    (free-then c.args.self.now c.loop-i.self c.free_chain.new.self (Err _) c.loop-i.invariant.leaves c.loop-i.invariant.keeps c.in_err-free_chain.ensures.frees)

pub returns-clause-frees : goal.returns-clause-frees
returns-clause-frees g c = free-done c.args.self.now c.loop-i.self _ c.loop-i.invariant.leaves c.loop-i.invariant.keeps

pub returns-clause-none : goal.returns-clause-none
unfolding core_of
returns-clause-none g c = λ told same.
    let a = c.args.self.now.levels in
    let b = c.loop-i.self.levels in
    levels-all g.H.Host a.parts b.parts a.disk.host.now b.disk.host.now a.disk.rest b.disk.rest (2 * c.loop-i.i + 2)
    (λ s used. let low = c.used_end-i-end.ensures.used s used in let end = c.loop-i-test.false in omega arith) (c.loop-i.invariant.none told same)
