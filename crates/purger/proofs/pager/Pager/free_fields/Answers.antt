use Rattle.std.proofs.Common.{ℕ, List, length, Err, sym, ap, subst, arith}
use Rattle.object_record.specs.Raw.{longs_of}
use Rattle.object_record.specs.Buffer.{raw_of, HasRecord}
use Rattle.purger.proofs.FreeingLaws.{free-done, free-exit, free-then, named-refl, named-trans, sound-behind, thins-refl, thins-trans}
use Rattle.purger.proofs.pager.Pager.free_fields.Goals as goal

pub loop-left-init : goal.loop-left-init
loop-left-init g c = record {
  leaves = named-refl c.args.self.now;
  keeps = thins-refl c.args.self.now;
  there = c.requires.record;
  fields = let all = c.field_count-left.ensures in omega arith;
  held = omega arith;
}

pub free_held-requires-clause-sound : goal.free_held-requires-clause-sound
free_held-requires-clause-sound g c = sound-behind c.args.self.now c.loop-left.self c.requires.sound c.loop-left.invariant.keeps

pub loop-left-preserved-then-branch : goal.loop-left-preserved-then-branch
loop-left-preserved-then-branch g c =
    let i = c.loop-left.invariant in
    let r = c.in_ok-free_held.ensures in
    record {
      leaves = named-trans c.args.self.now c.loop-left.self c.free_held.new.self i.leaves r.frees.leaves;
      keeps = thins-trans c.args.self.now c.loop-left.self c.free_held.new.self i.keeps r.frees.keeps;
      there = r.told.there c.if-branch.true;
      fields = let all = c.field_count-left-then-branch.ensures in omega arith;
      held = let a = i.held in let b = r.held in omega arith;
    }

pub loop-left-smaller-then-branch : goal.loop-left-smaller-then-branch
loop-left-smaller-then-branch g c =
    let wider = c.in_ok-free_held.ensures.told.wider c.if-branch.true in
    let size = c.free_held.ensures.frees.leaves.rest.size in
    let most = c.chunks_never_overlap.ensures.all in
    let all = c.field_count-left-then-branch.ensures in
    omega arith

pub loop-left-preserved : goal.loop-left-preserved
loop-left-preserved g c =
    let i = c.loop-left.invariant in
    let r = c.in_ok-free_held.ensures in
    let still = r.told.still c.if-branch.false in
    record {
      leaves = named-trans c.args.self.now c.loop-left.self c.free_held.new.self i.leaves r.frees.leaves;
      keeps = thins-trans c.args.self.now c.loop-left.self c.free_held.new.self i.keeps r.frees.keeps;
      there = subst (λ (b : List ℕ). HasRecord b) (sym still) i.there;
      fields = let few = i.fields in let same = ap (λ (b : List ℕ). length (longs_of (raw_of b).body)) still in omega arith;
      held = let a = i.held in let b = r.held in omega arith;
    }

pub returns-in_err-free_held-clause-frees : goal.returns-in_err-free_held-clause-frees
returns-in_err-free_held-clause-frees g c = free-exit _ _ c.from_residual.result c.in_err-free_held.field-0.0 c.from_residual.ensures.1
    (free-then c.args.self.now c.loop-left.self c.free_held.new.self (Err _) c.loop-left.invariant.leaves c.loop-left.invariant.keeps c.in_err-free_held.ensures.frees)

pub returns-clause-frees : goal.returns-clause-frees
returns-clause-frees g c = free-done c.args.self.now c.loop-left.self _ c.loop-left.invariant.leaves c.loop-left.invariant.keeps
