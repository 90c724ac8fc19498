use Rattle.core_segment.specs.Words.{words_of}
use Rattle.std.proofs.Common.{◌≢◌, ℕ, ◌+◌, ◌<◌, ◌⊎◌, inl, inr, refl, subst, sym, arith}
use Rattle.std.proofs.lemmas.Bool.{false≢true}
use Rattle.core_segment.specs.Heads.{size_in, owner_in}
use Rattle.core_segment.specs.Segment.{largest_of}
use Rattle.core_segment.proofs.ScrapLaws.{IsWalk, walk-begins, walk-here, walk-finds, walk-on, walk-ends}
use Rattle.core_segment.proofs.segment.Segment.has_scrap.Goals as goal
use Rattle.core_segment.proofs.segment.Segment.has_scrap.Goals.{else-owner_at-eq0-via-then-owner_at-eq0+else-words-size, else-owner_at-eq0-via-else-owner_at-eq0}

pub loop-place-init : goal.loop-place-init
loop-place-init c = let g = c.args.self.now in walk-begins (words_of g.region) g.lists.firsts g.free c.args.words g.whole

pub size_at-size-requires : goal.size_at-size-requires
size_at-size-requires c =
    let g = c.args.self.now in let sized = g.region.sized in let test = c.loop-place-test.true in
    (walk-here (words_of g.region) c.args.words c.loop-place.place c.loop-place.invariant (omega arith)).head

pub owner_at-requires : goal.owner_at-requires
owner_at-requires c =
    let g = c.args.self.now in let sized = g.region.sized in let test = c.loop-place-test.true in
    (walk-here (words_of g.region) c.args.words c.loop-place.place c.loop-place.invariant (omega arith)).head

pub returns-then-words-size : goal.returns-then-words-size
unfolding largest_of
returns-then-words-size c =
    let g = c.args.self.now in let sized = g.region.sized in let test = c.loop-place-test.true in
    let owner = c.owner_at.ensures in let size = c.size_at-size.ensures in let free = c.if-owner_at-eq0.true in let enough = c.if-words-size.true in
    (λ _. walk-finds (words_of g.region) c.args.words c.loop-place.place c.loop-place.invariant (omega arith) (omega arith) (omega arith), λ _. refl)

pub overflow_add-place : goal.overflow_add-place
overflow_add-place c =
    let g = c.args.self.now in let sized = g.region.sized in let test = c.loop-place-test.true in
    let is = walk-here (words_of g.region) c.args.words c.loop-place.place c.loop-place.invariant (omega arith) in
    let low = is.low in let size = is.sized in let result = c.size_at-size.ensures in let small = g.small in
    omega arith

pub loop-place-smaller : goal.loop-place-smaller
loop-place-smaller c =
    let g = c.args.self.now in let sized = g.region.sized in let test = c.loop-place-test.true in
    let is = walk-here (words_of g.region) c.args.words c.loop-place.place c.loop-place.invariant (omega arith) in
    let some = is.some in let size = is.sized in let result = c.size_at-size.ensures in
    omega arith

pub loop-place-preserved : goal.loop-place-preserved
loop-place-preserved c =
    let g = c.args.self.now in let items = (words_of g.region) in let sized = g.region.sized in let test = c.loop-place-test.true in
    let owner = c.owner_at.ensures in let size = c.size_at-size.ensures in
    let other : (owner_in items c.loop-place.place ≢ 0) ⊎ (size_in items c.loop-place.place < c.args.words) =
    elim c.else-owner_at-eq0.branch [
      | else-owner_at-eq0-via-then-owner_at-eq0+else-words-size w ↦ inr (let few = w.if-words-size.false in omega arith)
      | else-owner_at-eq0-via-else-owner_at-eq0 w ↦ inl (λ e. let used = w.if-owner_at-eq0.false in absurd (omega arith))
    ] in
    subst (λ (z : ℕ). IsWalk items c.args.words (c.loop-place.place + z)) (sym size)
    (walk-on items c.args.words c.loop-place.place c.loop-place.invariant (omega arith) other)

pub returns : goal.returns
unfolding largest_of
returns c =
    let g = c.args.self.now in let sized = g.region.sized in let test = c.loop-place-test.false in
    let small = walk-ends (words_of g.region) c.args.words c.loop-place.place c.loop-place.invariant (omega arith) c.requires in
    (λ h. absurd (false≢true h), λ h. absurd (omega arith))
