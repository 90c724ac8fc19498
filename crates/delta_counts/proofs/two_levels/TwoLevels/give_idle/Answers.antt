use Rattle.std.proofs.Common.{[], ◌+◌, ◌*◌, Err, arith}
use Rattle.delta_counts.specs.Effects.{Same}
use Rattle.delta_counts.proofs.GiveLaws.{none-below, still-used}
use Rattle.delta_counts.proofs.EffectLaws.{leaves-refl, leaves-trans, keeps-refl, keeps-then, sound-after, counts-exit, counts-then}
use Rattle.delta_counts.proofs.two_levels.TwoLevels.give_idle.Goals as goal

pub loop-k-init : goal.loop-k-init
loop-k-init g c = let m = c.args.self.now in record { leaves = leaves-refl m; keeps = keeps-refl m []; below = λ j low. absurd (omega arith) }

pub give_idle_at-requires-clause-sound : goal.give_idle_at-requires-clause-sound
give_idle_at-requires-clause-sound g c = sound-after Same [] [] c.args.self.now c.loop-k.self c.requires.sound c.loop-k.invariant.keeps

pub loop-k-preserved : goal.loop-k-preserved
loop-k-preserved g c =
    let m = c.args.self.now in
    let i = c.loop-k.invariant in
    let r = c.in_ok-give_idle_at.ensures in
    record {
      leaves = leaves-trans m c.loop-k.self c.give_idle_at.new.self i.leaves r.counts.leaves;
      keeps = keeps-then Same [] [] [] m c.loop-k.self c.give_idle_at.new.self i.keeps r.counts.keeps;
      below = none-below c.loop-k.self.parts.names c.give_idle_at.new.self.parts.names c.loop-k.k r.counts.leaves.giving i.below r.gone;
    }

pub returns-in_err-give_idle_at-clause-counts : goal.returns-in_err-give_idle_at-clause-counts
returns-in_err-give_idle_at-clause-counts g c = counts-exit [] [] _ _ c.from_residual.result c.in_err-give_idle_at.field-0.0 c.from_residual.ensures.1
    (counts-then [] [] [] c.args.self.now c.loop-k.self c.give_idle_at.new.self (Err _) c.loop-k.invariant.leaves c.loop-k.invariant.keeps c.in_err-give_idle_at.ensures.counts)

pub returns-clause-none : goal.returns-clause-none
returns-clause-none g c = λ j low idle.
    let used = still-used c.args.self.now.parts.names c.loop-k.self.parts.names (2 * (j + 1)) c.loop-k.invariant.leaves.giving idle.used in
    let end = c.used_end-count.ensures.used (2 * (j + 1)) used in
    let high = c.loop-k-test.false in
    c.loop-k.invariant.below j (omega arith) idle
