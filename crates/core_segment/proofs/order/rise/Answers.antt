use Rattle.core_segment.specs.Words.{words_of}
use Rattle.std.proofs.Common.{ℕ, ◌≡◌, ◌+◌, ◌-◌, ◌≤◌, List, length, sym, ◌∙◌, ap, subst, arith}
use Rattle.core_segment.specs.Heads.{IsClosed, link_in}
use Rattle.core_segment.specs.Lists.{class_in, first_in, with_first}
use Rattle.core_segment.specs.Layout.{tiles_of}
use Rattle.core_segment.proofs.RelistLaws.{IsRising, rise-none, rise-next, rise-more, rise-falls, rise-end}
use Rattle.core_segment.proofs.order.rise.Goals as goal

pub loop-link-init : goal.loop-link-init
loop-link-init c =
    let old = (words_of c.args.region.now) in
    record {
      rising = subst (λ (fs : List ℕ). IsRising old old fs (tiles_of old) c.args.last) (sym c.none-lists.ensures) (rise-none old (tiles_of old) c.args.last c.requires.tiled c.requires.threaded);
      grown = omega arith;
    }

pub size_at-size-requires : goal.size_at-size-requires
size_at-size-requires c =
    let old = (words_of c.args.region.now) in
    let t = c.loop-link-test.true in
    let n = rise-next old (words_of c.loop-link.region) c.loop-link.lists.firsts (tiles_of old) c.loop-link.link (c.loop-link.link - 1) c.requires.tiled c.loop-link.invariant.rising (omega arith) in
    n.head

pub link_at-link-requires : goal.link_at-link-requires
link_at-link-requires c =
    let old = (words_of c.args.region.now) in
    let t = c.loop-link-test.true in
    let n = rise-next old (words_of c.loop-link.region) c.loop-link.lists.firsts (tiles_of old) c.loop-link.link (c.loop-link.link - 1) c.requires.tiled c.loop-link.invariant.rising (omega arith) in
    let low = n.low in let some = n.some in
    omega arith

pub push-requires-clause-within : goal.push-requires-clause-within
push-requires-clause-within c =
    let old = (words_of c.args.region.now) in
    let t = c.loop-link-test.true in
    let n = rise-next old (words_of c.loop-link.region) c.loop-link.lists.firsts (tiles_of old) c.loop-link.link (c.loop-link.link - 1) c.requires.tiled c.loop-link.invariant.rising (omega arith) in
    let size : c.size_at-size.result ≡ n.tile.size = c.size_at-size.ensures ∙ n.sized in
    subst (λ (z : ℕ). c.loop-link.link - 1 + z ≤ length (words_of c.loop-link.region)) (sym size) n.low

pub push-requires-clause-some : goal.push-requires-clause-some
push-requires-clause-some c =
    let old = (words_of c.args.region.now) in
    let t = c.loop-link-test.true in
    let n = rise-next old (words_of c.loop-link.region) c.loop-link.lists.firsts (tiles_of old) c.loop-link.link (c.loop-link.link - 1) c.requires.tiled c.loop-link.invariant.rising (omega arith) in
    let size : c.size_at-size.result ≡ n.tile.size = c.size_at-size.ensures ∙ n.sized in
    let some = n.some in
    omega arith

pub loop-link-smaller : goal.loop-link-smaller
loop-link-smaller c =
    let old = (words_of c.args.region.now) in
    let new = (words_of c.loop-link.region) in
    let t = c.loop-link-test.true in
    let n = rise-next old new c.loop-link.lists.firsts (tiles_of old) c.loop-link.link (c.loop-link.link - 1) c.requires.tiled c.loop-link.invariant.rising (omega arith) in
    let falls = rise-falls new c.loop-link.lists.firsts (tiles_of old) (c.loop-link.link - 1) n in
    let is = c.link_at-link.ensures in
    omega arith

pub loop-link-preserved : goal.loop-link-preserved
loop-link-preserved c =
    let old = (words_of c.args.region.now) in
    let new = (words_of c.loop-link.region) in
    let t = c.loop-link-test.true in
    let n = rise-next old new c.loop-link.lists.firsts (tiles_of old) c.loop-link.link (c.loop-link.link - 1) c.requires.tiled c.loop-link.invariant.rising (omega arith) in
    let size : c.size_at-size.result ≡ n.tile.size = c.size_at-size.ensures ∙ n.sized in
    let s = rise-more old new (words_of c.push.new.region) c.loop-link.lists.firsts (tiles_of old) (c.loop-link.link - 1) c.requires.tiled c.loop-link.invariant.rising.linked n c.loop-link.lists.many
    (subst (λ (z : ℕ). IsClosed new (words_of c.push.new.region) (c.loop-link.link - 1) z (first_in c.loop-link.lists.firsts (class_in z))) size c.push.ensures.closed) in
    record {
      rising =
          subst (λ (l : ℕ). IsRising old (words_of c.push.new.region) c.push.new.self.firsts (tiles_of old) l) (sym c.link_at-link.ensures)
          (subst (λ (fs : List ℕ). IsRising old (words_of c.push.new.region) fs (tiles_of old) (link_in new (c.loop-link.link - 1)))
          (ap (λ (z : ℕ). with_first c.loop-link.lists.firsts z (c.loop-link.link - 1 + 1)) (sym size) ∙ sym c.push.ensures.firsts) s);
      grown = let before = c.loop-link.invariant.grown in let more = c.push.ensures.grown in omega arith;
    }

pub returns-clause-ordered : goal.returns-clause-ordered
returns-clause-ordered c =
    let old = (words_of c.args.region.now) in
    rise-end old (words_of c.loop-link.region) c.loop-link.lists.firsts (tiles_of old) c.loop-link.link c.loop-link.invariant.rising c.loop-link-test.false
