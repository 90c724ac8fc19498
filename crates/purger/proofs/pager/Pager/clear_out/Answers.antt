use Rattle.std.proofs.Common.{ℕ, ◌*◌, ◌+◌, ◌/◌, Err, inl, inr, sym, subst, ap, ◌∙◌, arith, ⊎_elim}
use Rattle.object_table.specs.Table.{entries_of}
use Rattle.leaf_lambda.specs.Parts.{core_of}
use Rattle.purger.specs.Pager.{core_in}
use Rattle.purger.specs.Purge.{HasRoom}
use Rattle.purger.specs.Rounds.{IsFewBehind}
use Rattle.purger.specs.declared.pager.Pager.{Pager}
use Rattle.purger.specs.declared.room.TheConstants.{ROUND_PARTS}
use Rattle.purger.proofs.OnlyLaws.{keeps-refl, ok-room, only-trans, still-kept}
use Rattle.purger.proofs.PagerLaws.{clears-disk, clears-then, none-first, none-more, preserves-refl, preserves-trans, purges-then, ready-after, same-entries, spares-refl, spares-trans}
use Rattle.purger.proofs.RoomLaws.{placed-before}
use Rattle.purger.proofs.SweptLaws.{through-more, through-none}
use Rattle.purger.proofs.pager.Pager.clear_out.Goals as goal

pub loop-i-init : goal.loop-i-init
loop-i-init g c =
    let p = c.args.self.now in
    record {
      leaves = spares-refl p;
      keeps = preserves-refl p;
      gone = inr (none-first p);
      through = through-none (entries_of p.levels.parts.names.table / ROUND_PARTS) c.args.words c.args.entries p.levels.parts p.levels.whole.parts c.requires.idle (keeps-refl (core_in p));
    }

pub evict_more-requires-clause-small : goal.evict_more-requires-clause-small
evict_more-requires-clause-small g c = let low = c.loop-i.invariant.through.low in let end = c.loop-i-test.true in let small = c.used_end-i-end.ensures.small in omega arith

pub evict_more-requires-clause-ready : goal.evict_more-requires-clause-ready
evict_more-requires-clause-ready g c = ready-after c.args.self.now c.loop-i.self c.requires.ready c.loop-i.invariant.leaves c.loop-i.invariant.keeps

pub evict_more-requires-clause-within : goal.evict_more-requires-clause-within
evict_more-requires-clause-within g c = let low = c.loop-i-test.true in let all = c.used_end-i-end.ensures.most in let same = same-entries c.args.self.now c.loop-i.self c.loop-i.invariant.leaves in omega arith

pub returns-in-Err-clause-clears : goal.returns-in-Err-clause-clears
returns-in-Err-clause-clears g c = clears-disk _ _ _ (purges-then c.args.self.now c.loop-i.self c.evict_more.new.self (Err _) c.loop-i.invariant.leaves c.loop-i.invariant.keeps c.in-Err.ensures.passes.purges)

pub loop-i-preserved : goal.loop-i-preserved
loop-i-preserved g c =
    let a = c.args.self.now in
    let b = c.loop-i.self in
    let n = c.evict_more.new.self in
    let part = entries_of a.levels.parts.names.table / ROUND_PARTS in
    let i = c.loop-i.invariant in
    let e = c.evict_more.ensures in
    let r = c.in-Ok.ensures in
    record {
      leaves = spares-trans a b n i.leaves e.passes.purges.leaves;
      keeps = preserves-trans a b n i.keeps r.passes.purges.keeps;
      gone = ⊎_elim (λ has. inl (subst (λ (p : Pager _ _). HasRoom p.levels.parts c.args.words c.args.entries) (sym (e.needless has).1) has)) (λ before. ⊎_elim (λ has. inl has) (λ here. inr (none-more b n c.loop-i.i e.passes.purges.leaves before here)) r.gone) i.gone;
      through = through-more part c.args.words c.args.entries c.loop-i.i c.loop-i.behind.left c.in-Ok.then.left (2 * c.loop-i.i + 2) a.levels.parts b.levels.parts n.levels.parts i.through b.levels.whole.parts b.levels.whole.tight i.leaves.size i.keeps.only i.keeps.less i.keeps.minds r.stops e.passes.one
          n.levels.whole.parts (λ t. e.passes.purges.leaves.purged.same_outside t ∙ i.leaves.purged.same_outside t) (only-trans (core_in a) (core_in b) (core_in n) i.keeps.only r.passes.purges.keeps.only) r.passes.purges.keeps.less r.passes.behind
          (subst (λ (k : ℕ). IsFewBehind k c.args.words c.args.entries b.levels.parts c.loop-i.behind.left → IsFewBehind k c.args.words c.args.entries n.levels.parts c.in-Ok.then.left) (ap (λ (k : ℕ). k / ROUND_PARTS) c.entries-part.ensures.entries) r.passes.few);
    }

pub last_room-requires-clause-ready : goal.last_room-requires-clause-ready
last_room-requires-clause-ready g c = ready-after c.args.self.now c.loop-i.self c.requires.ready c.loop-i.invariant.leaves c.loop-i.invariant.keeps

pub last_room-requires-clause-gone : goal.last_room-requires-clause-gone
unfolding core_of
last_room-requires-clause-gone g c = ⊎_elim (λ has. inl has)
    (λ gone. inr (λ s at place.
    let p = c.args.self.now.pinned in
    let low = c.used_end-i-end.ensures.used s (placed-before p.a p.b p.d (core_in c.args.self.now) (core_in c.loop-i.self) s at c.loop-i.invariant.leaves.purged place) in
    let end = c.loop-i-test.false in
    gone s at (omega arith) place)) c.loop-i.invariant.gone

pub returns-clause-clears : goal.returns-clause-clears
returns-clause-clears g c = clears-then c.args.self.now c.loop-i.self c.last_room.new.self c.last_room.result c.loop-i.invariant.leaves c.loop-i.invariant.keeps c.last_room.ensures.clears

pub returns-clause-stops : goal.returns-clause-stops
returns-clause-stops g c = ok-room c.last_room.result (still-kept (entries_of c.args.self.now.levels.parts.names.table / ROUND_PARTS) c.args.words c.args.entries c.args.self.now.levels.parts c.loop-i.self.levels.parts c.last_room.new.self.levels.parts c.loop-i.invariant.through.stops c.last_room.ensures.bodies)
