use Rattle.std.proofs.Common.{[], refl, arith}
use Rattle.delta_counts.proofs.FaultLaws.{err-map, fault-slots}
use Rattle.delta_counts.proofs.LowerLaws.{ok-map}
use Rattle.delta_counts.proofs.GiveLaws.{gone-idle}
use Rattle.delta_counts.proofs.EffectLaws.{names-of, given-whole, counts-none, names-count, some-at}
use Rattle.delta_counts.proofs.two_levels.TwoLevels.give_idle_at.Goals as goal

pub give_up-requires-clause-names : goal.give_up-requires-clause-names
give_up-requires-clause-names g c = names-of c.args.self.now.parts c.args.self.now.whole.parts

pub give_up-requires-clause-sound : goal.give_up-requires-clause-sound
give_up-requires-clause-sound g c = some-at c.args.self.now [] c.requires.sound

pub invariant_of-self : goal.invariant_of-self
invariant_of-self g c =
    let p = c.args.self.now.parts in
    record { whole = given-whole p (record { segment = p.segment; names = c.give_up.new.p }) c.args.self.now.whole refl c.give_up.ensures.giving }

pub returns-then-is_idle-clause-counts : goal.returns-then-is_idle-clause-counts
returns-then-is_idle-clause-counts g c =
    let e = c.give_up.ensures in
    names-count [] [] c.args.self.now _ c.give_up.result refl e.giving (record { work = e.work; lender = e.same_host; limit = e.room }) e.held e.given
    (err-map c.give_up.result (λ f x. fault-slots _ _ _ _ c.args.self.now.disk.rest c.args.self.now.disk.rest _ f (omega arith) refl x) e.fault)

pub returns-then-is_idle-clause-gone : goal.returns-then-is_idle-clause-gone
returns-then-is_idle-clause-gone g c = ok-map c.give_up.result (λ e. gone-idle _ e) c.give_up.ensures.gone

pub returns-clause-counts : goal.returns-clause-counts
returns-clause-counts g c = counts-none c.args.self.now [] _
