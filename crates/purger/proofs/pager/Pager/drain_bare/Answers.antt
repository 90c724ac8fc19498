use Rattle.std.proofs.Common.{Ok, Err, refl, arith}
use Rattle.purger.proofs.FreeingLaws.{free-done, free-exit, free-then, last-bare, levels-free, named-refl, named-trans, sound-behind, thins-refl, thins-trans}
use Rattle.purger.proofs.pager.Pager.drain_bare.Goals as goal

pub loop-init : goal.loop-init
loop-init g c = record { leaves = named-refl c.args.self.now; keeps = thins-refl c.args.self.now }

pub drain_one-requires : goal.drain_one-requires
drain_one-requires g c = record { sound = sound-behind c.args.self.now c.loop.self c.requires.sound c.loop.invariant.keeps }

pub loop-smaller : goal.loop-smaller
loop-smaller g c = let one = c.in_ok-drain_one.ensures.held c.if-not-branch.false in omega arith

pub loop-preserved : goal.loop-preserved
loop-preserved g c =
    let a = c.args.self.now in
    let b = c.loop.self in
    let i = c.loop.invariant in
    let x = levels-free b (record b { levels = c.drain_one.new.self; out = c.drain_one.new.buf }) (Ok c.in_ok-drain_one.field-0) refl c.in_ok-drain_one.ensures.frees in
    record { leaves = named-trans a b _ i.leaves x.leaves; keeps = thins-trans a b _ i.keeps x.keeps }

pub returns-in_err-drain_one-clause-frees : goal.returns-in_err-drain_one-clause-frees
returns-in_err-drain_one-clause-frees g c =
    let b = c.loop.self in
    let n = record b { levels = c.drain_one.new.self; out = c.drain_one.new.buf } in
    free-exit _ _ c.from_residual.result c.in_err-drain_one.field-0.0 c.from_residual.ensures.1
    (free-then c.args.self.now b n (Err _) c.loop.invariant.leaves c.loop.invariant.keeps (levels-free b n (Err _) refl c.in_err-drain_one.ensures.frees))

pub returns-then-not-branch-clause-frees : goal.returns-then-not-branch-clause-frees
returns-then-not-branch-clause-frees g c =
    let b = c.loop.self in
    let n = record b { levels = c.drain_one.new.self; out = c.drain_one.new.buf } in
    let x = levels-free b n (Ok c.in_ok-drain_one.field-0) refl c.in_ok-drain_one.ensures.frees in
    free-done c.args.self.now n _ (named-trans c.args.self.now b n c.loop.invariant.leaves x.leaves) (thins-trans c.args.self.now b n c.loop.invariant.keeps x.keeps)

pub returns-then-not-branch-clause-bare : goal.returns-then-not-branch-clause-bare
returns-then-not-branch-clause-bare g c = λ told. last-bare c.args.self.now c.loop.self (record c.loop.self { levels = c.drain_one.new.self; out = c.drain_one.new.buf }) c.in_ok-drain_one.field-0 (let e = c.if-not-branch.true in e) c.loop.invariant.keeps c.drain_one.ensures.frees.leaves told (λ t at x. c.in_ok-drain_one.ensures.drained told t at x)
