-- What goes while room is made, put together.
use Rattle.std.proofs.Common.{◌≡◌, ◌≢◌, ℕ, ◌+◌, ◌*◌, ◌%◌, ◌<◌, ◌≤◌, cond, Bool, true, false, refl, sym, ◌∙◌, ap, subst, arith, Option, Some, None, ⊎_elim}
use Rattle.std.proofs.lemmas.Grind.{common_steps}
use Rattle.std.proofs.lemmas.Bool.{cases_eq}
use Rattle.object_table.specs.declared.entry.Entry.{Entry}
use Rattle.object_table.specs.Entries.{put, is_short, is_used, place_of, free_entry}
use Rattle.core_segment.specs.Chunks.{Chunk}
use Rattle.core_view.specs.Core.{Core, without_leaf}
use Rattle.core_view.specs.Counts.{outside}
use Rattle.core_view.specs.Kept.{IsCore, IsTight}
use Rattle.core_view.specs.Steps.{IsIdle, IsMove, IsAbout}
use Rattle.core_view.proofs.Core.{placed-used}
use Rattle.core_view.proofs.Leaves.{idle-outside}
use Rattle.core_view.proofs.Lists.{put-here, put-there}
use Rattle.core_view.proofs.Moves.{move-outside}
use Rattle.core_view.proofs.Steps.{outside-used}
use Rattle.core_view.specs.Room.{is_among}
use Rattle.core_view.specs.Purge.{IsSameBody, IsPurged, IsFreed, fresh_by, fresh_of}
use Rattle.core_view.proofs.Sums.{sum-out}
use Rattle.core_view.proofs.Fresh.{fresh-placed}

some-same : (x y : ℕ) → Some x ≡ Some y → x ≡ y
some-same x y e = cc

-- ---- bodies that stay

pub body-stays : (c : Core) (s p : ℕ) → place_of (c.entries s).state ≡ Some p → IsSameBody c c s p
body-stays c s p at = record { at = p; place = at; kind = refl; len = refl; name = refl; words = refl }

pub body-then : (a b c : Core) (s p : ℕ) → (x : IsSameBody a b s p) → IsSameBody b c s x.at → IsSameBody a c s p
body-then a b c s p x y = record { at = y.at; place = y.place; kind = y.kind ∙ x.kind; len = y.len ∙ x.len; name = y.name ∙ x.name; words = y.words ∙ x.words }

pub Purged-refl : (a b d : ℕ) (c : Core) → IsPurged a b d c c
Purged-refl a b d c = record { bound = refl; same_outside = λ t. refl; live = λ t some. refl; leaves = λ t e. e; pinned = λ t p among at. body-stays c t p at }

pub Purged-trans : (a b d : ℕ) (x y z : Core) → IsPurged a b d x y → IsPurged a b d y z → IsPurged a b d x z
Purged-trans a b d x y z f g = record {
  bound = g.bound ∙ f.bound;
  same_outside = λ t. g.same_outside t ∙ f.same_outside t;
  live = λ t some. g.live t (let same = f.same_outside t in omega arith) ∙ f.live t some;
  leaves = λ t e. g.leaves t (f.leaves t e);
  pinned = λ t p among at. let first = f.pinned t p among at in body-then x y z t p first (g.pinned t first.at among first.place);
}

-- one body goes that isn't pinned
pub about-purged : (a b d s p : ℕ) (x y : Core) → IsCore x → IsAbout s x y → ((t : ℕ) → outside y t ≡ outside x t) → ((t : ℕ) → is_used (x.entries t).state ≡ true → (y.entries t).name ≡ (x.entries t).name) → place_of (x.entries s).state ≡ Some p → is_among a b d s ≡ false → IsPurged a b d x y
about-purged a b d s p x y core about out live at not_ = record {
  bound = about.bound;
  same_outside = out;
  live = λ t some. live t (outside-used x t core some);
  leaves = λ t e. about.leaves t (λ h. let both : None ≡ Some p = sym e ∙ ap (λ (k : ℕ). place_of (x.entries k).state) h ∙ at in cc) e;
  pinned = λ t r among there.
      let away : t ≢ s = (λ h. let both : true ≡ false = sym among ∙ ap (is_among a b d) h ∙ not_ in cc) in
      let same = about.bodies t r away there in
      record {
        at = r;
        place = ap (λ (e : Entry). place_of e.state) same ∙ there;
        kind = ap (λ (e : Entry). e.kind) same;
        len = ap (λ (e : Entry). e.len) same;
        name = ap (λ (e : Entry). e.name) same;
        words = ap (λ (k : Chunk). k.words) (about.chunks t r away there);
      };
}

pub freed-purged : (a b d : ℕ) (x y : Core) → IsCore y → IsFreed x y → IsPurged a b d x y
freed-purged a b d x y core freed = record {
  bound = freed.bound;
  same_outside = freed.same_outside;
  live = λ t some. ap (λ (e : Entry). e.name) (freed.same t (outside-used y t core (let same = freed.same_outside t in omega arith)));
  leaves = freed.leaves;
  pinned = λ t p among at.
      let same = freed.bodies t p at in
      record { at = p; place = ap (λ (e : Entry). place_of e.state) same ∙ at; kind = ap (λ (e : Entry). e.kind) same; len = ap (λ (e : Entry). e.len) same; name = ap (λ (e : Entry). e.name) same; words = ap (λ (f : ℕ → Chunk). (f p).words) freed.chunks };
}

pub move-purged : (a b d : ℕ) (x y : Core) → IsMove x y → IsPurged a b d x y
move-purged a b d x y move = record {
  bound = move.bound;
  same_outside = λ t. move-outside x y t move;
  live = λ t some. ap (λ (e : Entry). e.name) (move.entries t);
  leaves = λ t e. ap place_of (move.leaves t e) ∙ e;
  pinned = λ t p among at.
      let there = move.bodies t p at in
      record { at = there.0; place = there.1; kind = ap (λ (e : Entry). e.kind) (move.entries t); len = ap (λ (e : Entry). e.len) (move.entries t); name = ap (λ (e : Entry). e.name) (move.entries t); words = ap (λ (k : Chunk). k.words) there.2 };
}

-- ---- leaves that go

free-is : is_used free_entry.state ≡ false
free-is = refl

pub idle-freed : (c d : Core) (s n : ℕ) → IsCore c → IsIdle c s n → d ≡ without_leaf c s n → IsFreed c d
idle-freed c d s n core idle is = subst (λ (x : Core). IsFreed c x) (sym is) (record {
  bound = refl;
  chunks = refl;
  same = λ q on. ⊎_elim (λ (h : q ≡ s). absurd (let off : is_used (put c.entries s free_entry q).state ≡ false = ap (λ (k : ℕ). is_used (put c.entries s free_entry k).state) h ∙ ap (λ (e : Entry). is_used e.state) (put-here c.entries s free_entry) in let both : true ≡ false = sym on ∙ off in cc))
      (λ (h : q ≢ s). put-there c.entries s free_entry q h) (cases_eq q s);
  bodies = λ q p at. put-there c.entries s free_entry q (λ h. let both : None ≡ Some p = sym idle.leaf ∙ ap (λ (k : ℕ). place_of (c.entries k).state) (sym h) ∙ at in cc);
  leaves = λ q e. ⊎_elim (λ (h : q ≡ s). ap (λ (k : ℕ). place_of (put c.entries s free_entry k).state) h ∙ ap (λ (x : Entry). place_of x.state) (put-here c.entries s free_entry))
      (λ (h : q ≢ s). ap (λ (x : Entry). place_of x.state) (put-there c.entries s free_entry q h) ∙ e) (cases_eq q s);
  same_outside = λ t. idle-outside c s n t core idle;
})

pub freed-tight : (c d : Core) → IsFreed c d → IsTight c → IsTight d
freed-tight c d freed tight = record {
  bodies = λ p some.
      let same : d.chunks p ≡ c.chunks p = ap (λ (f : ℕ → Chunk). f p) freed.chunks in
      let was = tight.bodies p (subst (λ (x : Chunk). 0 < x.owner) same some) in
      ap (λ (x : Chunk). place_of (d.entries x.owner).state) same ∙ ap (λ (e : Entry). place_of e.state) (freed.bodies (c.chunks p).owner p was) ∙ was;
}

-- ---- objects without records, and entries

pub fresh-least : (c : Core) (s p : ℕ) → IsCore c → place_of (c.entries s).state ≡ Some p → (c.entries s).flags.fresh ≡ true → 1 ≤ fresh_of c
unfolding fresh_of
fresh-least c s p core at fresh =
    let out = sum-out c.bound (λ q. fresh_by (c.entries q)) s (core.within s (placed-used (c.entries s).state p at)) in
    let here : fresh_by (c.entries s) ≡ 1 = fresh-placed (c.entries s) p at ∙ ap (λ (b : Bool). cond {A = ℕ} b 1 0) fresh in
    omega arith

-- ---- which bodies are left

no-body : (c : Core) (s p : ℕ) → IsCore c → place_of (c.entries s).state ≡ Some p → is_short s ≡ false → ⊥
no-body c s p core at not_ = let is = core.short s (placed-used (c.entries s).state p at) in let both : true ≡ false = sym is ∙ not_ in cc

pub gone-first : (c : Core) (a b d s p : ℕ) → IsCore c → s < 2 → place_of (c.entries s).state ≡ Some p → is_among a b d s ≡ true
gone-first c a b d s p core low at = absurd (no-body c s p core at (lone s low))
  where
    lone : (s : ℕ) → s < 2 → is_short s ≡ false
    lone s low = ⊎_elim (λ (e : s ≡ 0). ap is_short e) (λ (e : s ≢ 0). let one_ : s ≡ 1 = omega arith in ap is_short one_) (cases_eq s 0)

-- one more was looked at
pub gone-more : (a b d i s p : ℕ) (x y : Core) → IsCore y → IsPurged a b d x y → ((s p : ℕ) → s < 2 * i + 2 → place_of (x.entries s).state ≡ Some p → is_among a b d s ≡ true)
    → ((p : ℕ) → place_of (y.entries (2 * i + 2)).state ≡ Some p → is_among a b d (2 * i + 2) ≡ true) → s < 2 * (i + 1) + 2 → place_of (y.entries s).state ≡ Some p → is_among a b d s ≡ true
gone-more a b d i s p x y core purged before here low at = ⊎_elim (λ (e : s ≡ 2 * i + 2). subst (λ (k : ℕ). is_among a b d k ≡ true) (sym e) (here p (ap (λ (k : ℕ). place_of (y.entries k).state) (sym e) ∙ at)))
    (λ (e : s ≢ 2 * i + 2). ⊎_elim (λ (f : s ≡ 2 * i + 3). absurd (no-body y s p core at (odd s i f))) (λ (f : s ≢ 2 * i + 3). early (place_of (x.entries s).state) refl (omega arith)) (cases_eq s (2 * i + 3))) (cases_eq s (2 * i + 2))
  where
    odd : (s i : ℕ) → s ≡ 2 * i + 3 → is_short s ≡ false
    odd s i e = let rest : s % 2 ≡ 1 = omega arith in grind (arith, common_steps)

    early : (o : Option ℕ) → place_of (x.entries s).state ≡ o → s < 2 * i + 2 → is_among a b d s ≡ true
    early None e below = let both : None ≡ Some p = sym (purged.leaves s e) ∙ at in absurd (cc)
    early (Some q) e below = before s q below e
