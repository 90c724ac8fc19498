-- What has a body after a step had the same before it, and no more is in use.
use Rattle.std.proofs.lemmas.Grind.{common_steps}
use Rattle.std.proofs.Common.{false, ◌≢◌, ◌+◌, ◌≡◌, ◌⊎◌, ℕ, ◌≤◌, ◌<◌, refl, sym, ◌∙◌, ap, subst, arith, Option, Some, None, Result, Ok, Err, OnOk, inl, inr, ⊎_elim}
use Rattle.object_table.specs.Entries.{place_of}
use Rattle.core_segment.specs.Segment.{free_of, size_of}
use Rattle.core_view.specs.Core.{Core}
use Rattle.core_view.specs.Counts.{outside}
use Rattle.core_view.specs.Purge.{IsPurged, IsSameBody}
use Rattle.core_view.specs.Room.{is_among}
use Rattle.core_view.proofs.Purge.{body-stays, body-then}
use Rattle.leaf_lambda.specs.declared.parts.Parts.{Parts}
use Rattle.leaf_lambda.specs.Parts.{core_of, spare_of}
use Rattle.purger.specs.Marks.{MindsMarks}
use Rattle.purger.specs.Purge.{KeepsBodies}
use Rattle.purger.specs.declared.room.RoomFault.{RoomFault}
use Rattle.purger.specs.Rounds.{HasOnlyOf, HasNoLess, HasSweptInVain, KeepsAllBut, LosesFew, LostInNeed, StopsInTime}
use Rattle.purger.proofs.RoomLaws.{all-pinned, gone-purged}
use Rattle.purger.proofs.RoundLaws.{few-none, few-part, purged-all}

-- ---- bodies

pub keeps-refl : (c : Core) → KeepsBodies c c
keeps-refl c t p at = body-stays c t p at

pub keeps-trans : (a b c : Core) → KeepsBodies a b → KeepsBodies b c → KeepsBodies a c
keeps-trans a b c x y t p at = let first = x t p at in body-then a b c t p first (y t first.at first.place)

pub only-refl : (c : Core) → HasOnlyOf c c
only-refl c t p at = (p, at, body-stays c t p at)

-- a body that lies at two places lies at one
body-on : (a b c : Core) (t p q : ℕ) → (x : IsSameBody a b t p) → place_of (b.entries t).state ≡ Some q → IsSameBody b c t q → IsSameBody a c t p
body-on a b c t p q x at y = body-then a b c t p x (subst (λ (k : ℕ). IsSameBody b c t k) one y) where
  one : q ≡ x.at
  one = let both : Some q ≡ Some x.at = sym at ∙ x.place in cc

pub only-trans : (a b c : Core) → HasOnlyOf a b → HasOnlyOf b c → HasOnlyOf a c
only-trans a b c x y t p at =
    let later = y t p at in
    let first = x t later.0 later.1 in
    (first.0, first.1, body-on a b c t first.0 later.0 first.2 later.1 later.2)

-- where nothing came, and each body but that of one entry stays, which has none then
pub only-one : (a b k s : ℕ) (c d : Core) → IsPurged a b k c d → KeepsAllBut s c d → place_of (d.entries s).state ≡ None → HasOnlyOf c d
only-one a b k s c d purged keeps gone t p at = go (place_of (c.entries t).state) refl where
  go : (o : Option ℕ) → place_of (c.entries t).state ≡ o → (q : ℕ) × (place_of (c.entries t).state ≡ Some q) × IsSameBody c d t q
  go None e = absurd (gone-purged a b k c d t p purged e at)
  go (Some q) e = (q, e, ⊎_elim (λ (same : t ≡ s). absurd (none same)) (λ (stays : IsSameBody c d t q). stays) (keeps t q e)) where
    none : t ≡ s → ⊥
    none same = let both : Some p ≡ None = sym at ∙ ap (λ (i : ℕ). place_of (d.entries i).state) same ∙ gone in cc

-- an object left that none of three is
pub only-gone : (s : ℕ) (c d : Core) → ((a b k : ℕ) → is_among a b k s ≡ false → IsPurged a b k c d) → place_of (d.entries s).state ≡ None → HasOnlyOf c d
only-gone s c d purged gone = only-one (s + 1) (s + 1) (s + 1) s c d (purged (s + 1) (s + 1) (s + 1) other) (purged-all s c d purged) gone where
  other : is_among (s + 1) (s + 1) (s + 1) s ≡ false
  other = let away : s ≢ s + 1 = (λ e. omega (arith, e)) in grind (arith, common_steps)

pub only-kept : (a b k : ℕ) (c d : Core) → IsPurged a b k c d → KeepsBodies c d → HasOnlyOf c d
only-kept a b k c d purged keeps t p at = go (place_of (c.entries t).state) refl where
  go : (o : Option ℕ) → place_of (c.entries t).state ≡ o → (q : ℕ) × (place_of (c.entries t).state ≡ Some q) × IsSameBody c d t q
  go None e = absurd (gone-purged a b k c d t p purged e at)
  go (Some q) e = (q, e, keeps t q e)

pub only-all : (c d : Core) → ((a b k : ℕ) → IsPurged a b k c d) → HasOnlyOf c d
only-all c d purged = only-kept 0 0 0 c d (purged 0 0 0) (all-pinned c d purged)

-- ---- words and entries

pub less-refl : (p : Parts) → HasNoLess p p
less-refl p = record { words = omega arith; entries = omega arith }

pub less-trans : (p q r : Parts) → HasNoLess p q → HasNoLess q r → HasNoLess p r
less-trans p q r x y = record {
  words = let a = x.words in let b = y.words in omega arith;
  entries = let a = x.entries in let b = y.entries in omega arith;
}

pub less-same : (p q : Parts) → q.segment ≡ p.segment → spare_of p ≤ spare_of q → HasNoLess p q
less-same p q same more = record { words = let e = ap free_of same in omega arith; entries = more }

-- ---- a round that goes on

pub few-kept : (n : ℕ) (a b c : Core) → LosesFew n a b → KeepsBodies b c → LosesFew n a c
few-kept n a b c x y = record {
  gone = x.gone;
  few = x.few;
  stays = λ t p at. ⊎_elim (λ g. inl g) (λ (same : IsSameBody a b t p). inr (body-then a b c t p same (y t same.at same.place))) (x.stays t p at);
}

pub few-behind : (n : ℕ) (a b c : Core) → KeepsBodies a b → LosesFew n b c → LosesFew n a c
few-behind n a b c x y = record {
  gone = y.gone;
  few = y.few;
  stays = λ t p at. let same = x t p at in ⊎_elim (λ g. inl g) (λ then. inr (body-then a b c t p same then)) (y.stays t same.at same.place);
}

vain-kept : (few entries : ℕ) (p q r : Parts) → HasSweptInVain few entries p q → KeepsBodies (core_of q) (core_of r) → HasSweptInVain few entries p r
vain-kept few entries p q r x keeps = record {
  swept = x.swept;
  parts = x.parts;
  same_outside = x.same_outside;
  only = x.only;
  idle = x.idle;
  wanting = x.wanting;
  since = few-kept few (core_of x.swept) (core_of q) (core_of r) x.since keeps;
}

vain-behind : (few entries : ℕ) (p q r : Parts) → HasOnlyOf (core_of p) (core_of q) → ((t : ℕ) → outside (core_of q) t ≡ outside (core_of p) t) → HasSweptInVain few entries q r → HasSweptInVain few entries p r
vain-behind few entries p q r only same x = record {
  swept = x.swept;
  parts = x.parts;
  same_outside = λ t. x.same_outside t ∙ same t;
  only = only-trans (core_of p) (core_of q) (core_of x.swept) only x.only;
  idle = x.idle;
  wanting = x.wanting;
  since = x.since;
}

pub lost-kept : (part words entries : ℕ) (p q r : Parts) → LostInNeed part words entries p q → KeepsBodies (core_of q) (core_of r) → LostInNeed part words entries p r
lost-kept part words entries p q r x keeps = record {
  before = x.before;
  parts = x.parts;
  tight = x.tight;
  size = x.size;
  only = x.only;
  less = x.less;
  out = x.out;
  wanting = x.wanting;
  vain = ⊎_elim (λ (low : free_of x.before.segment < words). inl low) (λ vain. inr (vain-kept (part + 1) entries p q r vain keeps)) x.vain;
  last = x.last;
  stays = λ t i at. ⊎_elim (λ (e : t ≡ x.last). inl e)
      (λ (same : IsSameBody (core_of x.before) (core_of q) t i). inr (body-then (core_of x.before) (core_of q) (core_of r) t i same (keeps t same.at same.place))) (x.stays t i at);
}

pub lost-behind : (part words entries : ℕ) (p q r : Parts) → HasOnlyOf (core_of p) (core_of q) → HasNoLess p q → size_of q.segment ≡ size_of p.segment → MindsMarks (core_of p) (core_of q) → ((t : ℕ) → outside (core_of q) t ≡ outside (core_of p) t)
    → LostInNeed part words entries q r → LostInNeed part words entries p r
lost-behind part words entries p q r only less size minds same x = record {
  before = x.before;
  parts = x.parts;
  tight = x.tight;
  size = x.size ∙ size;
  only = only-trans (core_of p) (core_of q) (core_of x.before) only x.only;
  less = less-trans p q x.before less x.less;
  out = λ n o. x.out n (minds.out n o);
  wanting = x.wanting;
  vain = ⊎_elim (λ (low : free_of x.before.segment < words). inl low) (λ vain. inr (vain-behind (part + 1) entries p q r only same vain)) x.vain;
  last = x.last;
  stays = x.stays;
}

pub stops-kept : (part words entries : ℕ) (p q r : Parts) → StopsInTime part words entries p q → KeepsBodies (core_of q) (core_of r) → StopsInTime part words entries p r
stops-kept part words entries p q r x keeps = ⊎_elim (λ few. inl (few-kept part (core_of p) (core_of q) (core_of r) few keeps)) (λ need. inr (lost-kept part words entries p q r need keeps)) x

pub stops-none : (part words entries : ℕ) (p q : Parts) → KeepsBodies (core_of p) (core_of q) → StopsInTime part words entries p q
stops-none part words entries p q keeps = inl (few-part 0 part (core_of p) (core_of q) (omega arith) (few-kept 0 (core_of p) (core_of p) (core_of q) (few-none (core_of p)) keeps))

pub stops-behind : (part words entries : ℕ) (p q r : Parts) → KeepsBodies (core_of p) (core_of q) → HasOnlyOf (core_of p) (core_of q) → HasNoLess p q → size_of q.segment ≡ size_of p.segment → MindsMarks (core_of p) (core_of q) → ((t : ℕ) → outside (core_of q) t ≡ outside (core_of p) t)
    → StopsInTime part words entries q r → StopsInTime part words entries p r
stops-behind part words entries p q r keeps only less size minds same x =
    ⊎_elim (λ few. inl (few-behind part (core_of p) (core_of q) (core_of r) keeps few)) (λ need. inr (lost-behind part words entries p q r only less size minds same need)) x

pub still-kept : (part words entries : ℕ) (p q r : Parts) → KeepsBodies (core_of p) (core_of q) ⊎ LostInNeed part words entries p q → KeepsBodies (core_of q) (core_of r) → KeepsBodies (core_of p) (core_of r) ⊎ LostInNeed part words entries p r
still-kept part words entries p q r x keeps =
    ⊎_elim (λ (all : KeepsBodies (core_of p) (core_of q)). inl (keeps-trans (core_of p) (core_of q) (core_of r) all keeps)) (λ need. inr (lost-kept part words entries p q r need keeps)) x

-- a round that made no room, and what left behind it
pub stops-then : (part words entries : ℕ) (p q r : Parts) → StopsInTime part words entries p q → HasOnlyOf (core_of p) (core_of q) → HasNoLess p q → size_of q.segment ≡ size_of p.segment → MindsMarks (core_of p) (core_of q) → ((t : ℕ) → outside (core_of q) t ≡ outside (core_of p) t)
    → KeepsBodies (core_of q) (core_of r) ⊎ LostInNeed part words entries q r → StopsInTime part words entries p r
stops-then part words entries p q r x only less size minds same y =
    ⊎_elim (λ (keeps : KeepsBodies (core_of q) (core_of r)). stops-kept part words entries p q r x keeps) (λ (need : LostInNeed part words entries q r). inr (lost-behind part words entries p q r only less size minds same need)) y

pub ok-room : {A : Type 0} (r : Result A RoomFault) {P : Type 0} → P → OnOk r P
ok-room (Ok x) p = p
ok-room (Err f) p = tt

pub room-map : {A P Q : Type 0} (r : Result A RoomFault) → (P → Q) → OnOk r P → OnOk r Q
room-map (Ok x) f p = f p
room-map (Err e) f p = tt
