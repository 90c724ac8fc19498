-- One chunk moves down, and its entry says so.
use Rattle.std.proofs.Common.{◌≡◌, ◌≢◌, ℕ, ◌<◌, true, sym, ◌∙◌, ap, subst, arith, Some, None, ⊎_elim}
use Rattle.std.proofs.lemmas.Bool.{cases_eq}
use Rattle.std.proofs.lemmas.Grind.{common_steps}
use Rattle.object_table.specs.declared.entry.Entry.{Entry}
use Rattle.object_table.specs.declared.entry.EntryState.{EntryState}
use Rattle.object_table.specs.Entries.{put, is_short, place_of}
use Rattle.core_segment.specs.declared.segment.Moved.{Moved}
use Rattle.core_segment.specs.Chunks.{Chunk, no_chunk, with_chunk}
use Rattle.core_segment.specs.Segment.{IsMove}
use Rattle.core_view.specs.Core.{Core}
use Rattle.core_view.specs.Steps as steps
use Rattle.core_view.specs.Steps.{at_another}
use Rattle.core_view.proofs.Core.{placed-used}
use Rattle.core_view.proofs.Lists.{put-here, put-there}
use Rattle.core_view.specs.Kept.{IsCore, IsTight}

some-same : (x y : ℕ) → Some x ≡ Some y → x ≡ y
some-same x y e = cc

pub owner-place : (c : Core) (chunks : ℕ → Chunk) (m : Moved) → IsTight c → (move : IsMove c.chunks chunks m) → place_of (c.entries m.owner).state ≡ Some move.from
owner-place c chunks m tight move =
    subst (λ (q : ℕ). place_of (c.entries q).state ≡ Some move.from) move.owner
    (tight.bodies move.from (subst (λ (q : ℕ). 0 < q) (sym move.owner) move.used))

above : (c : Core) (q p : ℕ) → IsCore c → place_of (c.entries q).state ≡ Some p → 0 < (c.chunks p).owner
above c q p core at =
    let short : is_short q ≡ true = core.short q (placed-used (c.entries q).state p at) in
    let own = core.owned q p at in
    let some : 0 < q = grind (arith, common_steps) in
    subst (λ (k : ℕ). 0 < k) (sym own) some

pub move-step : (c d : Core) (m : Moved) → IsCore c → IsTight c → IsMove c.chunks d.chunks m → d.entries ≡ put c.entries m.owner (at_another (c.entries m.owner) m.to.place) → d.find ≡ c.find → d.bound ≡ c.bound → steps.IsMove c d
move-step c d m core tight move entries find bound =
    let from = owner-place c d.chunks m tight move in
    record {
      find = find;
      bound = bound;
      entries = λ q. ⊎_elim (λ (h : q ≡ m.owner). ap (λ (f : ℕ → Entry). f q) entries ∙ here q h) (λ (h : q ≢ m.owner). ap (λ (f : ℕ → Entry). f q) entries ∙ there q h) (cases_eq q m.owner);
      leaves = λ q e. ⊎_elim (λ (h : q ≡ m.owner). absurd (let both : None ≡ Some move.from = sym e ∙ ap (λ (k : ℕ). place_of (c.entries k).state) h ∙ from in cc))
          (λ (h : q ≢ m.owner). ap (λ (f : ℕ → Entry). (f q).state) entries ∙ ap (λ (x : Entry). x.state) (put-there c.entries m.owner (at_another (c.entries m.owner) m.to.place) q h)) (cases_eq q m.owner);
      bodies = λ q p at. ⊎_elim (λ (h : q ≡ m.owner). mine q p at h) (λ (h : q ≢ m.owner). its q p at h) (cases_eq q m.owner);
    }
  where
    from-is : place_of (c.entries m.owner).state ≡ Some move.from
    from-is = owner-place c d.chunks m tight move

    here : (q : ℕ) → q ≡ m.owner → put c.entries m.owner (at_another (c.entries m.owner) m.to.place) q ≡ record (c.entries q) { state = (d.entries q).state }
    here q h = subst (λ (k : ℕ). put c.entries m.owner (at_another (c.entries m.owner) m.to.place) k ≡ record (c.entries k) { state = (d.entries k).state }) (sym h)
        (put-here c.entries m.owner (at_another (c.entries m.owner) m.to.place) ∙ ap (λ (z : EntryState). record (c.entries m.owner) { state = z }) (sym (ap (λ (f : ℕ → Entry). (f m.owner).state) entries ∙ ap (λ (x : Entry). x.state) (put-here c.entries m.owner (at_another (c.entries m.owner) m.to.place)))))

    there : (q : ℕ) → q ≢ m.owner → put c.entries m.owner (at_another (c.entries m.owner) m.to.place) q ≡ record (c.entries q) { state = (d.entries q).state }
    there q h = put-there c.entries m.owner (at_another (c.entries m.owner) m.to.place) q h ∙ ap (λ (z : EntryState). record (c.entries q) { state = z }) (sym (ap (λ (f : ℕ → Entry). (f q).state) entries ∙ ap (λ (x : Entry). x.state) (put-there c.entries m.owner (at_another (c.entries m.owner) m.to.place) q h)))

    to-chunk : d.chunks m.to.place ≡ c.chunks move.from
    to-chunk = ap (λ (f : ℕ → Chunk). f m.to.place) move.moved ∙ put-here (with_chunk c.chunks move.from no_chunk) m.to.place (c.chunks move.from)

    mine : (q p : ℕ) → place_of (c.entries q).state ≡ Some p → q ≡ m.owner → (r : ℕ) × (place_of (d.entries q).state ≡ Some r) × (d.chunks r ≡ c.chunks p)
    mine q p at h = (
      m.to.place,
      ap (λ (f : ℕ → Entry). place_of (f q).state) entries ∙ ap (λ (k : ℕ). place_of (put c.entries m.owner (at_another (c.entries m.owner) m.to.place) k).state) h ∙ ap (λ (x : Entry). place_of x.state) (put-here c.entries m.owner (at_another (c.entries m.owner) m.to.place)),
      to-chunk ∙ ap c.chunks (some-same move.from p (sym from-is ∙ ap (λ (k : ℕ). place_of (c.entries k).state) (sym h) ∙ at)),
    )

    its : (q p : ℕ) → place_of (c.entries q).state ≡ Some p → q ≢ m.owner → (r : ℕ) × (place_of (d.entries q).state ≡ Some r) × (d.chunks r ≡ c.chunks p)
    its q p at h =
        let some = above c q p core at in
        let apart-to : p ≢ m.to.place = (λ e. let none = move.vacant in let own : (c.chunks p).owner ≡ (c.chunks m.to.place).owner = ap (λ (k : ℕ). (c.chunks k).owner) e in absurd (omega arith)) in
        let apart-from : p ≢ move.from = (λ e. h (sym (core.owned q p at) ∙ ap (λ (k : ℕ). (c.chunks k).owner) e ∙ move.owner)) in (
          p,
          ap (λ (f : ℕ → Entry). place_of (f q).state) entries ∙ ap (λ (x : Entry). place_of x.state) (put-there c.entries m.owner (at_another (c.entries m.owner) m.to.place) q h) ∙ at,
          ap (λ (f : ℕ → Chunk). f p) move.moved ∙ put-there (with_chunk c.chunks move.from no_chunk) m.to.place (c.chunks move.from) p apart-to ∙ put-there c.chunks move.from no_chunk p apart-from,
        )

-- each chunk is still a body
pub move-tight : (c d : Core) (m : Moved) → IsCore c → IsTight c → IsMove c.chunks d.chunks m → d.entries ≡ put c.entries m.owner (at_another (c.entries m.owner) m.to.place) → IsTight d
move-tight c d m core tight move entries = record { bodies = λ r some. ⊎_elim (λ (e : r ≡ m.to.place). at-to r some e) (λ (e : r ≢ m.to.place). ⊎_elim (λ (f : r ≡ move.from). at-from r some e f) (λ (f : r ≢ move.from). elsewhere r some e f) (cases_eq r move.from)) (cases_eq r m.to.place) }
  where
    at-to : (r : ℕ) → 0 < (d.chunks r).owner → r ≡ m.to.place → place_of (d.entries (d.chunks r).owner).state ≡ Some r
    at-to r some e =
        let own : (d.chunks r).owner ≡ m.owner = ap (λ (k : ℕ). (d.chunks k).owner) e ∙ ap (λ (f : ℕ → Chunk). (f m.to.place).owner) move.moved ∙ ap (λ (x : Chunk). x.owner) (put-here (with_chunk c.chunks move.from no_chunk) m.to.place (c.chunks move.from)) ∙ move.owner in
        ap (λ (k : ℕ). place_of (d.entries k).state) own ∙ ap (λ (f : ℕ → Entry). place_of (f m.owner).state) entries ∙ ap (λ (x : Entry). place_of x.state) (put-here c.entries m.owner (at_another (c.entries m.owner) m.to.place)) ∙ ap Some (sym e)

    at-from : (r : ℕ) → 0 < (d.chunks r).owner → r ≢ m.to.place → r ≡ move.from → place_of (d.entries (d.chunks r).owner).state ≡ Some r
    at-from r some e f =
        let none : (d.chunks r).owner ≡ 0 = ap (λ (g : ℕ → Chunk). (g r).owner) move.moved ∙ ap (λ (x : Chunk). x.owner) (put-there (with_chunk c.chunks move.from no_chunk) m.to.place (c.chunks move.from) r e)
        ∙ ap (λ (k : ℕ). (with_chunk c.chunks move.from no_chunk k).owner) f ∙ ap (λ (x : Chunk). x.owner) (put-here c.chunks move.from no_chunk) in
        absurd (omega arith)

    elsewhere : (r : ℕ) → 0 < (d.chunks r).owner → r ≢ m.to.place → r ≢ move.from → place_of (d.entries (d.chunks r).owner).state ≡ Some r
    elsewhere r some e f =
        let same : d.chunks r ≡ c.chunks r = ap (λ (g : ℕ → Chunk). g r) move.moved ∙ put-there (with_chunk c.chunks move.from no_chunk) m.to.place (c.chunks move.from) r e ∙ put-there c.chunks move.from no_chunk r f in
        let was : place_of (c.entries (c.chunks r).owner).state ≡ Some r = tight.bodies r (subst (λ (x : Chunk). 0 < x.owner) same some) in
        let other : (c.chunks r).owner ≢ m.owner = (λ h. f (sym (some-same move.from r (sym (owner-place c d.chunks m tight move) ∙ ap (λ (k : ℕ). place_of (c.entries k).state) (sym h) ∙ was)))) in
        ap (λ (x : Chunk). place_of (d.entries x.owner).state) same ∙ ap (λ (g : ℕ → Entry). place_of (g (c.chunks r).owner).state) entries ∙ ap (λ (x : Entry). place_of x.state) (put-there c.entries m.owner (at_another (c.entries m.owner) m.to.place) (c.chunks r).owner other) ∙ was
