use Rattle.std.proofs.Common.{ℕ, ◌+◌, ◌||◌, Bool, cond, eqb, ◌∙◌, ap}
use Rattle.core_view.proofs.Core.{placed-used}
use Rattle.leaf_lambda.specs.Parts.{core_of}
use Rattle.loom_memory.proofs.memory.LoomMemory.need_beside.Goals as goal

pub room_of_word-requires-clause-used : goal.room_of_word-requires-clause-used
room_of_word-requires-clause-used g c = λ some. let at = c.requires.sound.kept.pinned 1 some in placed-used ((core_of c.args.self.now.pager.levels.parts).entries c.args.self.now.pager.pinned.b).state at.1.0 at.1.1

pub room_of_word-requires-2-clause-used : goal.room_of_word-requires-2-clause-used
room_of_word-requires-2-clause-used g c = λ some. let at = c.requires.sound.kept.pinned 2 some in placed-used ((core_of c.args.self.now.pager.levels.parts).entries c.args.self.now.pager.pinned.d).state at.1.0 at.1.1

pub leaves_of_word-requires-clause-used : goal.leaves_of_word-requires-clause-used
leaves_of_word-requires-clause-used g c = λ some. let at = c.requires.sound.kept.pinned 1 some in placed-used ((core_of c.args.self.now.pager.levels.parts).entries c.args.self.now.pager.pinned.b).state at.1.0 at.1.1

pub leaves_of_word-requires-2-clause-used : goal.leaves_of_word-requires-2-clause-used
leaves_of_word-requires-2-clause-used g c = λ some. let at = c.requires.sound.kept.pinned 2 some in placed-used ((core_of c.args.self.now.pager.levels.parts).entries c.args.self.now.pager.pinned.d).state at.1.0 at.1.1

pub returns : goal.returns
unfolding core_of
returns g c =
    let m = c.args.self.now in
    let first = c.room_of_word-first.ensures.words in
    let second = c.unless-second.ensures.is ∙ ap (λ (n : ℕ). cond (eqb m.pager.pinned.b m.pager.pinned.a) 0 n) c.room_of_word.ensures.words in
    let third = c.unless-third.ensures.is ∙ ap (λ (x : Bool). cond x 0 c.room_of_word-2.result) c.either.ensures ∙ ap (λ (n : ℕ). cond (eqb m.pager.pinned.d m.pager.pinned.a || eqb m.pager.pinned.d m.pager.pinned.b) 0 n) c.room_of_word-2.ensures.words in
    let one_ = c.leaves_of_word-one.ensures.leaves in
    let two = c.unless-two.ensures.is ∙ ap (λ (n : ℕ). cond (eqb m.pager.pinned.b m.pager.pinned.a) 0 n) c.leaves_of_word.ensures.leaves in
    let three = c.unless-three.ensures.is ∙ ap (λ (x : Bool). cond x 0 c.leaves_of_word-2.result) c.either-2.ensures ∙ ap (λ (n : ℕ). cond (eqb m.pager.pinned.d m.pager.pinned.a || eqb m.pager.pinned.d m.pager.pinned.b) 0 n) c.leaves_of_word-2.ensures.leaves in
    record {
      object = c.get.ensures.value;
      all = λ i. c.args.words + (first i + second i + third i);
      entries = λ i. 51 + (one_ i + two i + three i);
    }
