use Rattle.std.proofs.Common.{refl, sym, arith}
use Rattle.loom_memory.specs.Residents.{fetched}
use Rattle.loom_memory.proofs.GentleLaws.{gentle-refl}
use Rattle.loom_memory.proofs.PagerLaws.{moves-gentle, moves-outside, moves-sound}
use Rattle.loom_memory.proofs.EffectLaws.{moves-pages, pages-refl}
use Rattle.loom_memory.proofs.memory.LoomMemory.gather.Goals as goal

pub returns-then-is_together-clause-pages : goal.returns-then-is_together-clause-pages
returns-then-is_together-clause-pages g c = pages-refl g.H.Host c.args.self.now c.requires.sound

pub returns-then-is_together-clause-gentle : goal.returns-then-is_together-clause-gentle
returns-then-is_together-clause-gentle g c = gentle-refl g.H.Host c.args.self.now

pub returns-clause-pages : goal.returns-clause-pages
returns-clause-pages g c = moves-pages g.H.Host c.args.self.now c.compact.new.self c.requires.sound c.compact.ensures.moves

pub returns-clause-leaves : goal.returns-clause-leaves
unfolding fetched
returns-clause-leaves g c = record {
  sound = moves-sound g.H.Host c.args.self.now c.compact.new.self c.requires.sound c.compact.ensures.moves;
  fetches = refl;
  lender = rw c.compact.ensures.moves.disk refl;
  outside = moves-outside g.H.Host c.args.self.now c.compact.new.self c.compact.ensures.moves;
}

pub returns-clause-room : goal.returns-clause-room
returns-clause-room g c =
    let all = c.compact.ensures.room in
    let spare = c.compact.ensures.moves.spare in
    let words = c.requires.room.0 in
    let entries = c.requires.room.1 in
    (omega (arith, all, words), omega (arith, spare, entries))

pub returns-clause-gentle : goal.returns-clause-gentle
returns-clause-gentle g c = moves-gentle g.H.Host c.args.self.now c.compact.new.self c.requires.sound c.compact.ensures.moves

pub returns-clause-idle : goal.returns-clause-idle
returns-clause-idle g c = λ none. absurd (let both = sym (c.is_together.ensures.none none) in let off = c.if-is_together.false in cc)
