use Rattle.core_segment.specs.Words.{filled_of, words_of}
use Rattle.std.proofs.Common.{ℕ, ◌≡◌, ◌+◌, List, inl, inr, sym, ◌∙◌, ap, subst, arith}
use Rattle.core_segment.specs.Heads.{IsClosed}
use Rattle.core_segment.specs.Layout.{tiles_of}
use Rattle.core_segment.proofs.RelistLaws.{IsThreading, thread-none, thread-met, thread-skip, thread-more, thread-end}
use Rattle.core_segment.proofs.OrderLaws.{IsLone}
use Rattle.core_segment.proofs.order.thread.Goals as goal
use Rattle.core_segment.proofs.order.thread.Goals.{then-owner-eq0+then-size-ge-FEWEST, else-owner-eq0, else-owner-eq0-via-then-owner-eq0+else-size-ge-FEWEST, else-owner-eq0-via-else-owner-eq0}

pub loop-place-init : goal.loop-place-init
loop-place-init c = record { threading = thread-none (words_of c.args.region.now) (tiles_of (words_of c.args.region.now)) c.requires; grown = omega arith }

pub size_at-size-requires : goal.size_at-size-requires
size_at-size-requires c =
    let old = c.args.region.now in
    let m = thread-met (words_of old) (words_of c.loop-place.region) (tiles_of (words_of old)) c.loop-place.place c.loop-place.link c.loop-place.invariant.threading
    (let a = old.sized in let t = c.loop-place-test.true in omega arith) in
    m.head

pub owner_at-owner-requires : goal.owner_at-owner-requires
owner_at-owner-requires c =
    let old = c.args.region.now in
    let m = thread-met (words_of old) (words_of c.loop-place.region) (tiles_of (words_of old)) c.loop-place.place c.loop-place.link c.loop-place.invariant.threading
    (let a = old.sized in let t = c.loop-place-test.true in omega arith) in
    m.head

pub close-requires-clause-within : goal.close-requires-clause-within
close-requires-clause-within c =
    let old = c.args.region.now in
    let m = thread-met (words_of old) (words_of c.loop-place.region) (tiles_of (words_of old)) c.loop-place.place c.loop-place.link c.loop-place.invariant.threading
    (let a = old.sized in let t = c.loop-place-test.true in omega arith) in
    let low = m.low in let is = c.size_at-size.ensures in let size = m.sized in
    omega arith

pub overflow_add-place : goal.overflow_add-place
overflow_add-place c =
    let old = c.args.region.now in
    let m = thread-met (words_of old) (words_of c.loop-place.region) (tiles_of (words_of old)) c.loop-place.place c.loop-place.link c.loop-place.invariant.threading
    (let a = old.sized in let t = c.loop-place-test.true in omega arith) in
    let low = m.low in let is = c.size_at-size.ensures in let size = m.sized in let a = old.sized in let same = c.loop-place.invariant.threading.linked.same_size in
    omega arith

pub loop-place-smaller : goal.loop-place-smaller
loop-place-smaller c =
    let old = c.args.region.now in
    let m = thread-met (words_of old) (words_of c.loop-place.region) (tiles_of (words_of old)) c.loop-place.place c.loop-place.link c.loop-place.invariant.threading
    (let a = old.sized in let t = c.loop-place-test.true in omega arith) in
    let low = m.low in let is = c.size_at-size.ensures in let size = m.sized in let a = old.sized in let some = m.some in let t = c.loop-place-test.true in
    omega arith

pub loop-place-preserved : goal.loop-place-preserved
loop-place-preserved c =
    let old = c.args.region.now in
    let ts = tiles_of (words_of old) in
    let new = (words_of c.loop-place.region) in
    let m = thread-met (words_of old) new ts c.loop-place.place c.loop-place.link c.loop-place.invariant.threading
    (let a = old.sized in let t = c.loop-place-test.true in omega arith) in
    let size : c.size_at-size.result ≡ m.tile.size = c.size_at-size.ensures ∙ m.sized in
    let owner : c.owner_at-owner.result ≡ m.tile.owner = c.owner_at-owner.ensures ∙ m.owned in
    record {
      threading =
          subst (λ (z : ℕ). IsThreading (words_of old) (words_of c.if-owner-eq0.region) ts (c.loop-place.place + z) c.if-owner-eq0.link) (sym size)
          (elim c.if-owner-eq0.branch [
            | then-owner-eq0+then-size-ge-FEWEST w ↦
                let closed = w.close.ensures.closed in
                let s = thread-more (words_of old) new (words_of w.close.new.region) ts c.loop-place.place c.loop-place.link c.loop-place.invariant.threading m c.requires
                (sym owner ∙ w.if-owner-eq0.true) (let h = w.if-size-ge-FEWEST.true in omega arith)
                (subst (λ (z : ℕ). IsClosed new (words_of w.close.new.region) c.loop-place.place z c.loop-place.link) size closed) in
                subst (λ (l : ℕ). IsThreading (words_of old) (words_of c.if-owner-eq0.region) ts (c.loop-place.place + m.tile.size) l) (sym w.link-is)
                (subst (λ (z : List ℕ). IsThreading (words_of old) z ts (c.loop-place.place + m.tile.size) (c.loop-place.place + 1)) (sym (ap (λ (r : _). (words_of r)) w.region-is)) s)
            | else-owner-eq0 w ↦
                let lone : IsLone m.tile = elim w.else-owner-eq0.branch [
                  | else-owner-eq0-via-then-owner-eq0+else-size-ge-FEWEST v ↦ inr (let h = v.if-size-ge-FEWEST.false in omega arith)
                  | else-owner-eq0-via-else-owner-eq0 v ↦ inl (let h = v.if-owner-eq0.false in omega arith)
                ] in
                subst (λ (l : ℕ). IsThreading (words_of old) (words_of c.if-owner-eq0.region) ts (c.loop-place.place + m.tile.size) l) (sym w.link-is)
                (subst (λ (z : List ℕ). IsThreading (words_of old) z ts (c.loop-place.place + m.tile.size) c.loop-place.link) (sym (ap (λ (r : _). (words_of r)) w.region-is))
                (thread-skip (words_of old) new ts c.loop-place.place c.loop-place.link c.loop-place.invariant.threading m lone))
          ]);
      grown =
          let before = c.loop-place.invariant.grown in
          elim c.if-owner-eq0.branch [
            | then-owner-eq0+then-size-ge-FEWEST w ↦
                let more = w.close.ensures.grown in
                let same = ap filled_of w.region-is in
                omega arith
            | else-owner-eq0 w ↦
                let same = ap filled_of w.region-is in
                omega arith
          ];
    }

pub returns-clause-threaded : goal.returns-clause-threaded
returns-clause-threaded c =
    let old = c.args.region.now in
    thread-end (words_of old) (words_of c.loop-place.region) (tiles_of (words_of old)) c.loop-place.place c.loop-place.link c.loop-place.invariant.threading
    (let a = old.sized in let t = c.loop-place-test.false in omega arith)
