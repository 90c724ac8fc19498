use Rattle.std.proofs.Common.{◌≡◌, None, Some, inl, inr, sym, ◌∙◌}
use Rattle.delta_counts.proofs.LowerLaws.{ok-map, ok-of}
use Rattle.purger.specs.Pager.{core_in}
use Rattle.purger.proofs.OnlyLaws.{keeps-refl}
use Rattle.purger.proofs.PagerLaws.{passes-none, passes-one}
use Rattle.purger.proofs.pager.Pager.evict_more.Goals as goal

pub returns-then-has_room-clause-passes : goal.returns-then-has_room-clause-passes
returns-then-has_room-clause-passes g c = passes-none c.args.s.0 c.args.part c.args.words c.args.entries c.args.behind c.args.self.now

pub returns-then-has_room-clause-stops : goal.returns-then-has_room-clause-stops
returns-then-has_room-clause-stops g c = inl (keeps-refl (core_in c.args.self.now))

pub returns-then-has_room-clause-gone : goal.returns-then-has_room-clause-gone
returns-then-has_room-clause-gone g c = inl (c.has_room.ensures.has c.if-has_room.true)

pub returns-then-not-may_leave-clause-passes : goal.returns-then-not-may_leave-clause-passes
returns-then-not-may_leave-clause-passes g c = passes-none c.args.s.0 c.args.part c.args.words c.args.entries c.args.behind c.args.self.now

pub returns-then-not-may_leave-clause-stops : goal.returns-then-not-may_leave-clause-stops
returns-then-not-may_leave-clause-stops g c = inl (keeps-refl (core_in c.args.self.now))

pub returns-then-not-may_leave-clause-gone : goal.returns-then-not-may_leave-clause-gone
returns-then-not-may_leave-clause-gone g c = inr (c.may_leave.ensures.stays c.if-not-may_leave.true)

pub returns-clause-passes : goal.returns-clause-passes
returns-clause-passes g c = passes-one c.args.s.0 c.args.part c.args.words c.args.entries c.args.behind.left c.args.self.now c.evict_one.new.self c.evict_one.result c.evict_one.ensures.purges c.evict_one.ensures.one c.evict_one.ensures.behind c.evict_one.ensures.few

pub returns-clause-stops : goal.returns-clause-stops
returns-clause-stops g c = ok-of c.evict_one.result (inr (c.has_room.ensures.lacks c.if-has_room.false))

pub returns-clause-gone : goal.returns-clause-gone
returns-clause-gone g c = ok-map c.evict_one.result (λ none. inr (λ at place. let both : None ≡ Some at = sym none ∙ place in absurd (cc))) c.evict_one.ensures.gone

pub returns-clause-needless : goal.returns-clause-needless
returns-clause-needless g c = λ has. absurd (c.has_room.ensures.lacks c.if-has_room.false has)
