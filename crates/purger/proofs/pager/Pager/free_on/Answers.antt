use Rattle.std.proofs.Common.{Err, arith}
use Rattle.purger.proofs.FreeingLaws.{free-done, free-exit, free-then, named-refl, named-trans, sound-behind, thins-refl, thins-trans}
use Rattle.purger.proofs.pager.Pager.free_on.Goals as goal

pub loop-self-init : goal.loop-self-init
loop-self-init g c = record { leaves = named-refl c.args.self.now; keeps = thins-refl c.args.self.now; there = c.requires.record }

pub free_fields-requires-clause-sound : goal.free_fields-requires-clause-sound
free_fields-requires-clause-sound g c = sound-behind c.args.self.now c.loop-self.self c.requires.sound c.loop-self.invariant.keeps

pub free_pending-requires : goal.free_pending-requires
free_pending-requires g c = record { sound = sound-behind c.loop-self.self c.free_fields.new.self (sound-behind c.args.self.now c.loop-self.self c.requires.sound c.loop-self.invariant.keeps) c.in_ok-free_fields.ensures.frees.keeps }

pub loop-self-smaller : goal.loop-self-smaller
loop-self-smaller g c = let less = c.in_ok-free_fields.ensures.held in let one = c.in_ok-free_pending.ensures.held c.if-not-branch.false in omega arith

pub loop-self-preserved : goal.loop-self-preserved
loop-self-preserved g c =
    let a = c.args.self.now in
    let m = c.free_fields.new.self in
    let n = c.free_pending.new.self in
    let i = c.loop-self.invariant in
    let x = c.in_ok-free_fields.ensures.frees in
    let y = c.in_ok-free_pending.ensures.frees in
    record {
      leaves = named-trans a m n (named-trans a c.loop-self.self m i.leaves x.leaves) y.leaves;
      keeps = thins-trans a m n (thins-trans a c.loop-self.self m i.keeps x.keeps) y.keeps;
      there = c.in_ok-free_pending.ensures.record c.if-not-branch.false;
    }

pub returns-in_err-free_fields : goal.returns-in_err-free_fields
returns-in_err-free_fields g c = record {
  frees = free-exit _ _ c.from_residual.result c.in_err-free_fields.field-0.0 c.from_residual.ensures.1
      (free-then c.args.self.now c.loop-self.self c.free_fields.new.self (Err _) c.loop-self.invariant.leaves c.loop-self.invariant.keeps c.in_err-free_fields.ensures.frees);
}

pub returns-in_err-free_pending : goal.returns-in_err-free_pending
returns-in_err-free_pending g c =
    let x = c.in_ok-free_fields.ensures.frees in
    record {
      frees = free-exit _ _ c.from_residual-in_err-free_pending.result c.in_err-free_pending.field-0.0 c.from_residual-in_err-free_pending.ensures.1
          (free-then c.args.self.now c.loop-self.self c.free_pending.new.self (Err _) c.loop-self.invariant.leaves c.loop-self.invariant.keeps
          (free-then c.loop-self.self c.free_fields.new.self c.free_pending.new.self (Err _) x.leaves x.keeps c.in_err-free_pending.ensures.frees));
    }

pub returns-then-not-branch : goal.returns-then-not-branch
returns-then-not-branch g c =
    let a = c.args.self.now in
    let m = c.free_fields.new.self in
    let n = c.free_pending.new.self in
    let i = c.loop-self.invariant in
    let x = c.in_ok-free_fields.ensures.frees in
    let y = c.in_ok-free_pending.ensures.frees in
    record { frees = free-done a n _ (named-trans a m n (named-trans a c.loop-self.self m i.leaves x.leaves) y.leaves) (thins-trans a m n (thins-trans a c.loop-self.self m i.keeps x.keeps) y.keeps) }
