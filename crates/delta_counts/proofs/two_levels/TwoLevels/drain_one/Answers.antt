use Rattle.std.proofs.Common.{Err, [], ◌∙◌}
use Rattle.core_segment.specs.Segment.{chunk_at}
use Rattle.delta_counts.specs.Effects.{Same, Thinner}
use Rattle.delta_counts.proofs.DrainLaws.{first-one, if-map}
use Rattle.delta_counts.proofs.EffectLaws.{counts-frees, drained-then, frees-exit, frees-then, keeps-as-thinner, leaves-as-thinner, sound-after}
use Rattle.delta_counts.proofs.two_levels.TwoLevels.drain_one.Goals as goal

pub give_idle-requires : goal.give_idle-requires
give_idle-requires g c = record { sound = sound-after Thinner [] [] c.args.self.now c.drain_pending.new.self c.requires.sound c.in_ok-drain_pending.ensures.frees.keeps }

pub drain_pending-requires-2 : goal.drain_pending-requires-2
drain_pending-requires-2 g c = record {
  sound = sound-after Same [] [] c.drain_pending.new.self c.give_idle.new.self (sound-after Thinner [] [] c.args.self.now c.drain_pending.new.self c.requires.sound c.in_ok-drain_pending.ensures.frees.keeps) c.in_ok-give_idle.ensures.counts.keeps;
}

pub returns-then-branch-clause-drained : goal.returns-then-branch-clause-drained
returns-then-branch-clause-drained g c = λ told t at x.
    let b = c.drain_pending.new.self in
    first-one g.H.Host (chunk_at b.parts.segment) b.parts.names b.disk.host.now b.disk.rest t c.in_ok-drain_pending.field-0 x c.if-branch.true (c.in_ok-drain_pending.ensures.drained told t at x)

pub returns-in_err-drain_pending-clause-frees : goal.returns-in_err-drain_pending-clause-frees
returns-in_err-drain_pending-clause-frees g c = frees-exit c.args.self.now c.drain_pending.new.self c.from_residual.result c.in_err-drain_pending.field-0.0 c.from_residual.ensures.1 c.in_err-drain_pending.ensures.frees

pub returns-in_err-give_idle-clause-frees : goal.returns-in_err-give_idle-clause-frees
returns-in_err-give_idle-clause-frees g c =
    let a = c.args.self.now in
    let b = c.drain_pending.new.self in
    let f = c.in_err-give_idle.field-0.0 in
    let x = c.in_ok-drain_pending.ensures.frees in
    frees-exit {S = Unit {0}} a c.give_idle.new.self c.from_residual-in_err-give_idle.result f c.from_residual-in_err-give_idle.ensures.1 (frees-then a b c.give_idle.new.self (Err f) x.leaves x.keeps (counts-frees b c.give_idle.new.self (Err f) c.in_err-give_idle.ensures.counts))

pub returns-clause-frees : goal.returns-clause-frees
returns-clause-frees g c =
    let b = c.drain_pending.new.self in
    let d = c.give_idle.new.self in
    let x = c.in_ok-drain_pending.ensures.frees in
    let y = c.in_ok-give_idle.ensures.counts in
    let r = c.drain_pending-2 in
    frees-then c.args.self.now b r.new.self r.result x.leaves x.keeps (frees-then b d r.new.self r.result (leaves-as-thinner b d y.leaves) (keeps-as-thinner [] [] b d y.keeps) r.ensures.frees)

pub returns-clause-drained : goal.returns-clause-drained
returns-clause-drained g c = λ told t at x.
    let y = c.in_ok-give_idle.ensures in
    let r = c.drain_pending-2 in
    drained-then c.drain_pending.new.self c.give_idle.new.self r.new.self c.in_ok-drain_pending.field-0 r.result t c.if-branch.false told x (c.in_ok-drain_pending.ensures.drained told t at x) y.counts.leaves y.counts.keeps y.none r.ensures.frees.leaves.segment
    (λ u stands sound. r.ensures.drained told u stands sound)

pub returns-clause-held : goal.returns-clause-held
returns-clause-held g c = if-map c.drain_pending-2.result (λ k f is. f is ∙ c.give_idle.ensures.counts.leaves.held ∙ c.in_ok-drain_pending.ensures.still c.if-branch.false) c.drain_pending-2.ensures.held
