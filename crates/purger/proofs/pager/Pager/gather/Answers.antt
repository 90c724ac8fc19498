use Rattle.std.proofs.Common.{ℕ, ◌≤◌, sym, subst}
use Rattle.purger.proofs.PagerLaws.{moves-refl}
use Rattle.purger.proofs.pager.Pager.gather.Goals as goal

pub returns-then-is_together-clause-moves : goal.returns-then-is_together-clause-moves
returns-then-is_together-clause-moves g c = moves-refl c.args.self.now

pub returns-then-is_together-clause-room : goal.returns-then-is_together-clause-room
returns-then-is_together-clause-room g c = c.is_together.ensures c.if-is_together.true

pub returns-clause-room : goal.returns-clause-room
returns-clause-room g c = subst (λ (n : ℕ). c.args.words ≤ n) (sym c.compact.ensures.room) c.requires.words
