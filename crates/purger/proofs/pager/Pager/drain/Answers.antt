use Rattle.std.proofs.Common.{Err, arith}
use Rattle.purger.proofs.FreeingLaws.{all-free, free-done, free-exit, free-then, named-refl, named-trans, sound-behind, thins-refl, thins-trans}
use Rattle.purger.proofs.pager.Pager.drain.Goals as goal

pub loop-before-init : goal.loop-before-init
loop-before-init g c = record { leaves = named-refl c.args.self.now; keeps = thins-refl c.args.self.now }

pub drain_bare-requires : goal.drain_bare-requires
drain_bare-requires g c = record { sound = sound-behind c.args.self.now c.loop-before.self c.requires.sound c.loop-before.invariant.keeps }

pub free_dead-requires : goal.free_dead-requires
free_dead-requires g c = record { sound = sound-behind c.loop-before.self c.drain_bare.new.self (sound-behind c.args.self.now c.loop-before.self c.requires.sound c.loop-before.invariant.keeps) c.in_ok-drain_bare.ensures.frees.keeps }

pub free_down-requires : goal.free_down-requires
free_down-requires g c = record { sound = sound-behind c.drain_bare.new.self c.free_dead.new.self (sound-behind c.loop-before.self c.drain_bare.new.self (sound-behind c.args.self.now c.loop-before.self c.requires.sound c.loop-before.invariant.keeps) c.in_ok-drain_bare.ensures.frees.keeps) c.in_ok-free_dead.ensures.frees.keeps }

pub loop-before-smaller : goal.loop-before-smaller
loop-before-smaller g c =
    let first = c.drain_bare.ensures.frees.leaves.rest.words in
    let then = c.free_dead.ensures.frees.leaves.rest.words in
    let last = c.free_down.ensures.frees.leaves.rest.words in
    let size = c.free_dead.ensures.frees.leaves.rest.size in
    let was = c.drain_bare.ensures.frees.leaves.rest.size in
    let now = c.free_down.ensures.frees.leaves.rest.size in
    let most = c.chunks_never_overlap.ensures.all in
    let before = c.free_words-before.ensures in
    let after = c.free_words.ensures in
    let more = c.if-free_words-before.false in
    omega arith

pub loop-before-preserved : goal.loop-before-preserved
loop-before-preserved g c =
    let a = c.args.self.now in
    let m = c.drain_bare.new.self in
    let n = c.free_dead.new.self in
    let o = c.free_down.new.self in
    let i = c.loop-before.invariant in
    let x = c.in_ok-drain_bare.ensures.frees in
    let y = c.in_ok-free_dead.ensures.frees in
    let z = c.in_ok-free_down.ensures.frees in
    record {
      leaves = named-trans a n o (named-trans a m n (named-trans a c.loop-before.self m i.leaves x.leaves) y.leaves) z.leaves;
      keeps = thins-trans a n o (thins-trans a m n (thins-trans a c.loop-before.self m i.keeps x.keeps) y.keeps) z.keeps;
    }

pub returns-in_err-drain_bare-clause-frees : goal.returns-in_err-drain_bare-clause-frees
returns-in_err-drain_bare-clause-frees g c = free-exit _ _ c.from_residual.result c.in_err-drain_bare.field-0.0 c.from_residual.ensures.1
    (free-then c.args.self.now c.loop-before.self c.drain_bare.new.self (Err _) c.loop-before.invariant.leaves c.loop-before.invariant.keeps c.in_err-drain_bare.ensures.frees)

pub returns-in_err-free_dead-clause-frees : goal.returns-in_err-free_dead-clause-frees
returns-in_err-free_dead-clause-frees g c =
    let x = c.in_ok-drain_bare.ensures.frees in
    free-exit _ _ c.from_residual-in_err-free_dead.result c.in_err-free_dead.field-0.0 c.from_residual-in_err-free_dead.ensures.1
    (free-then c.args.self.now c.loop-before.self c.free_dead.new.self (Err _) c.loop-before.invariant.leaves c.loop-before.invariant.keeps
    (free-then c.loop-before.self c.drain_bare.new.self c.free_dead.new.self (Err _) x.leaves x.keeps c.in_err-free_dead.ensures.frees))

pub returns-in_err-free_down-clause-frees : goal.returns-in_err-free_down-clause-frees
returns-in_err-free_down-clause-frees g c =
    let x = c.in_ok-drain_bare.ensures.frees in
    let y = c.in_ok-free_dead.ensures.frees in
    free-exit _ _ c.from_residual-in_err-free_down.result c.in_err-free_down.field-0.0 c.from_residual-in_err-free_down.ensures.1
    (free-then c.args.self.now c.loop-before.self c.free_down.new.self (Err _) c.loop-before.invariant.leaves c.loop-before.invariant.keeps
    (free-then c.loop-before.self c.drain_bare.new.self c.free_down.new.self (Err _) x.leaves x.keeps
    (free-then c.drain_bare.new.self c.free_dead.new.self c.free_down.new.self (Err _) y.leaves y.keeps c.in_err-free_down.ensures.frees)))

pub returns-then-free_words-before-clause-frees : goal.returns-then-free_words-before-clause-frees
returns-then-free_words-before-clause-frees g c =
    let a = c.args.self.now in
    let m = c.drain_bare.new.self in
    let n = c.free_dead.new.self in
    let i = c.loop-before.invariant in
    let x = c.in_ok-drain_bare.ensures.frees in
    let y = c.in_ok-free_dead.ensures.frees in
    free-done a n _ (named-trans a m n (named-trans a c.loop-before.self m i.leaves x.leaves) y.leaves) (thins-trans a m n (thins-trans a c.loop-before.self m i.keeps x.keeps) y.keeps)

pub returns-then-free_words-before-clause-drained : goal.returns-then-free_words-before-clause-drained
returns-then-free_words-before-clause-drained g c = λ told. all-free c.args.self.now c.loop-before.self c.drain_bare.new.self c.free_dead.new.self told c.loop-before.invariant.keeps (c.in_ok-drain_bare.ensures.bare told) c.in_ok-free_dead.ensures.frees.keeps
    (c.in_ok-free_dead.ensures.none told (let same = c.if-free_words-before.true in let was = c.free_words-before.ensures in let now = c.free_words.ensures in omega arith))
