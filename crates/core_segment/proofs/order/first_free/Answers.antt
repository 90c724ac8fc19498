use Rattle.core_segment.specs.Words.{words_of}
use Rattle.std.proofs.Common.{ℕ, ◌+◌, sym, ◌∙◌, subst, arith}
use Rattle.core_segment.specs.Layout.{tiles_of}
use Rattle.core_segment.proofs.RelistLaws.{IsSought, seek-none, seek-met, seek-more, seek-found, seek-end}
use Rattle.core_segment.proofs.order.first_free.Goals as goal

pub loop-place-init : goal.loop-place-init
loop-place-init c = seek-none (words_of c.args.region.now) (tiles_of (words_of c.args.region.now)) c.requires

pub owner_at-requires : goal.owner_at-requires
owner_at-requires c =
    let r = c.args.region.now in
    let m = seek-met (words_of r) (tiles_of (words_of r)) c.loop-place.place c.requires c.loop-place.invariant (let a = r.sized in let t = c.loop-place-test.true in omega arith) in
    m.head

pub returns-then-owner_at-eq0 : goal.returns-then-owner_at-eq0
returns-then-owner_at-eq0 c =
    let r = c.args.region.now in
    let m = seek-met (words_of r) (tiles_of (words_of r)) c.loop-place.place c.requires c.loop-place.invariant (let a = r.sized in let t = c.loop-place-test.true in omega arith) in
    let own = m.owned in let is = c.owner_at.ensures in
    seek-found (words_of r) (tiles_of (words_of r)) c.loop-place.place c.loop-place.invariant m (sym own ∙ sym is ∙ c.if-owner_at-eq0.true)

pub size_at-place-requires : goal.size_at-place-requires
size_at-place-requires c =
    let r = c.args.region.now in
    let m = seek-met (words_of r) (tiles_of (words_of r)) c.loop-place.place c.requires c.loop-place.invariant (let a = r.sized in let t = c.loop-place-test.true in omega arith) in
    m.head

pub overflow_add-place : goal.overflow_add-place
overflow_add-place c =
    let r = c.args.region.now in
    let m = seek-met (words_of r) (tiles_of (words_of r)) c.loop-place.place c.requires c.loop-place.invariant (let a = r.sized in let t = c.loop-place-test.true in omega arith) in
    let low = m.low in let is = c.size_at-place.ensures in let size = m.sized in let a = r.sized in
    omega arith

pub loop-place-smaller : goal.loop-place-smaller
loop-place-smaller c =
    let r = c.args.region.now in
    let m = seek-met (words_of r) (tiles_of (words_of r)) c.loop-place.place c.requires c.loop-place.invariant (let a = r.sized in let t = c.loop-place-test.true in omega arith) in
    let low = m.low in let is = c.size_at-place.ensures in let size = m.sized in let a = r.sized in let some = m.some in let t = c.loop-place-test.true in
    omega arith

pub loop-place-preserved : goal.loop-place-preserved
loop-place-preserved c =
    let r = c.args.region.now in
    let m = seek-met (words_of r) (tiles_of (words_of r)) c.loop-place.place c.requires c.loop-place.invariant (let a = r.sized in let t = c.loop-place-test.true in omega arith) in
    let own = m.owned in let is = c.owner_at.ensures in let f = c.if-owner_at-eq0.false in
    subst (λ (z : ℕ). IsSought (words_of r) (tiles_of (words_of r)) (c.loop-place.place + z)) (sym (c.size_at-place.ensures ∙ m.sized))
    (seek-more (words_of r) (tiles_of (words_of r)) c.loop-place.place c.loop-place.invariant m (omega arith))

pub returns : goal.returns
returns c =
    let r = c.args.region.now in
    seek-end (words_of r) (tiles_of (words_of r)) c.loop-place.place c.loop-place.invariant (let a = r.sized in let t = c.loop-place-test.false in omega arith)
