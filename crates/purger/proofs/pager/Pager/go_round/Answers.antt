use Rattle.std.proofs.Common.{ℕ, ◌/◌, Ok, Err, ◌∙◌, ap, subst, arith}
use Rattle.object_table.specs.Table.{entries_of}
use Rattle.purger.specs.Pager.{core_in}
use Rattle.purger.specs.Rounds.{IsFewBehind}
use Rattle.purger.specs.declared.room.TheConstants.{ROUND_PARTS}
use Rattle.purger.proofs.OnlyLaws.{only-trans}
use Rattle.purger.proofs.PagerLaws.{preserves-refl, preserves-trans, purges-done, purges-exit, purges-hand, purges-then, ready-after, ready-hand, same-entries, spares-refl, spares-trans}
use Rattle.purger.proofs.RoundLaws.{goes-on}
use Rattle.purger.proofs.SweptLaws.{round-more, round-none, round-stops}
use Rattle.purger.proofs.pager.Pager.go_round.Goals as goal

pub loop-i-init : goal.loop-i-init
loop-i-init g c =
    let p = c.args.self.now in
    record {
      leaves = spares-refl p;
      keeps = preserves-refl p;
      round = round-none (entries_of p.levels.parts.names.table / ROUND_PARTS) c.args.words c.args.entries p.levels.parts p.levels.whole.parts c.requires.idle;
    }

pub next_entry-s-requires-clause-some : goal.next_entry-s-requires-clause-some
next_entry-s-requires-clause-some g c = let low = c.loop-i-test.true in omega arith

pub next_entry-s-requires-clause-most : goal.next_entry-s-requires-clause-most
next_entry-s-requires-clause-most g c = c.used_end-end.ensures.small

pub pass-requires-clause-ready : goal.pass-requires-clause-ready
pass-requires-clause-ready g c = ready-hand c.loop-i.self _ (ready-after c.args.self.now c.loop-i.self c.requires.ready c.loop-i.invariant.leaves c.loop-i.invariant.keeps)

pub pass-requires-clause-within : goal.pass-requires-clause-within
pass-requires-clause-within g c =
    let same = same-entries c.args.self.now c.loop-i.self c.loop-i.invariant.leaves in
    omega (arith, c.next_entry-s.ensures.within, c.used_end-end.ensures.most)

pub pass-requires-clause-small : goal.pass-requires-clause-small
pass-requires-clause-small g c = let low = c.loop-i.invariant.round.low in let end = c.loop-i-test.true in let small = c.used_end-end.ensures.small in omega arith

pub loop-i-preserved : goal.loop-i-preserved
loop-i-preserved g c =
    let a = c.args.self.now in
    let b = c.loop-i.self in
    let n = c.pass.new.self in
    let part = entries_of a.levels.parts.names.table / ROUND_PARTS in
    let i = c.loop-i.invariant in
    let r = c.in_ok-behind.ensures.passes in
    let p = purges-hand b n c.next_entry-s.new.hand (Ok _) r.purges in
    let all = ap (λ (n : ℕ). n / ROUND_PARTS) c.entries-part.ensures.entries in
    record {
      leaves = spares-trans a b n i.leaves p.leaves;
      keeps = preserves-trans a b n i.keeps p.keeps;
      round = round-more part c.args.words c.args.entries c.loop-i.i c.loop-i.behind.left c.in_ok-behind.behind.left c.next_entry-s.result.0 a.levels.parts b.levels.parts n.levels.parts i.round b.levels.whole.parts b.levels.whole.tight i.leaves.size i.keeps.only i.keeps.less i.keeps.minds
          (goes-on c.loop-i.i c.round_of-round.result part b.levels.parts c.args.words c.args.entries (let least = c.round_of-round.ensures in omega (arith, least, all)) (c.has_turned.ensures.goes c.if-has_turned.false)) r.one
          n.levels.whole.parts (λ t. p.leaves.purged.same_outside t ∙ i.leaves.purged.same_outside t) (only-trans (core_in a) (core_in b) (core_in n) i.keeps.only p.keeps.only) p.keeps.less r.behind
          (subst (λ (k : ℕ). IsFewBehind k c.args.words c.args.entries b.levels.parts c.loop-i.behind.left → IsFewBehind k c.args.words c.args.entries n.levels.parts c.in_ok-behind.behind.left) all r.few);
    }

pub returns-in_err-behind-clause-purges : goal.returns-in_err-behind-clause-purges
returns-in_err-behind-clause-purges g c = purges-exit _ _ c.from_residual.result c.in_err-behind.field-0.0 c.from_residual.ensures.1
    (purges-then c.args.self.now c.loop-i.self c.pass.new.self (Err _) c.loop-i.invariant.leaves c.loop-i.invariant.keeps (purges-hand c.loop-i.self c.pass.new.self c.next_entry-s.new.hand (Err _) c.in_err-behind.ensures.passes.purges))

pub returns-then-has_turned-clause-purges : goal.returns-then-has_turned-clause-purges
returns-then-has_turned-clause-purges g c = purges-done c.args.self.now c.loop-i.self _ c.loop-i.invariant.leaves c.loop-i.invariant.keeps

pub returns-then-has_turned-clause-stops : goal.returns-then-has_turned-clause-stops
returns-then-has_turned-clause-stops g c = round-stops (entries_of c.args.self.now.levels.parts.names.table / ROUND_PARTS) c.args.words c.args.entries c.loop-i.i c.loop-i.behind.left c.args.self.now.levels.parts c.loop-i.self.levels.parts c.loop-i.invariant.round

pub returns-clause-purges : goal.returns-clause-purges
returns-clause-purges g c = purges-done c.args.self.now c.loop-i.self _ c.loop-i.invariant.leaves c.loop-i.invariant.keeps

pub returns-clause-stops : goal.returns-clause-stops
returns-clause-stops g c = round-stops (entries_of c.args.self.now.levels.parts.names.table / ROUND_PARTS) c.args.words c.args.entries c.loop-i.i c.loop-i.behind.left c.args.self.now.levels.parts c.loop-i.self.levels.parts c.loop-i.invariant.round
