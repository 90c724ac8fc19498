-- How many objects left since the table was swept for idle leaves, and what that says where the last of them left.
use Rattle.std.proofs.Common.{◌≡◌, ◌⊎◌, inl, inr, ⊎_elim, ℕ, ◌+◌, ◌≤◌, ◌<◌, Result, Ok, Err, refl, sym, ap, subst, arith}
use Rattle.std.specs.Prelude.{IfOk}
use Rattle.std.proofs.lemmas.Bool.{cases_lt}
use Rattle.core_segment.specs.Segment.{free_of, size_of}
use Rattle.core_view.specs.Counts.{outside}
use Rattle.core_view.specs.Kept.{IsTight}
use Rattle.core_view.specs.Purge.{HasNoIdle}
use Rattle.leaf_lambda.specs.declared.parts.Parts.{Parts}
use Rattle.leaf_lambda.specs.Parts.{core_of, spare_of, IsParts}
use Rattle.purger.specs.Marks.{MindsMarks}
use Rattle.purger.specs.Purge.{HasRoom, KeepsBodies}
use Rattle.purger.specs.Rounds.{HasCounted, HasNoLess, HasOnlyOf, HasSweptInVain, IsFewBehind, KeepsAllBut, LosesFew, LostInNeed, StopsInTime}
use Rattle.purger.proofs.OnlyLaws.{few-kept, less-refl, less-trans, only-refl, still-kept}
use Rattle.purger.proofs.RoundLaws.{few-more, few-none, few-part}

-- a sweep of the table, since when so many left
pub record IsSwept (left : ℕ) (old now : Parts) : Type 0 where
  pub swept : Parts
  pub parts : IsParts swept
  pub same_outside : (t : ℕ) → outside (core_of swept) t ≡ outside (core_of old) t
  pub only : HasOnlyOf (core_of old) (core_of swept)
  pub idle : HasNoIdle (core_of swept)
  pub less : HasNoLess swept now
  pub since : LosesFew left (core_of swept) (core_of now)

pub swept-now : (old now : Parts) → IsParts now → ((t : ℕ) → outside (core_of now) t ≡ outside (core_of old) t) → HasOnlyOf (core_of old) (core_of now) → HasNoIdle (core_of now) → IsSwept 0 old now
swept-now old now parts same only idle = record {
  swept = now;
  parts = parts;
  same_outside = same;
  only = only;
  idle = idle;
  less = less-refl now;
  since = few-none (core_of now);
}

pub swept-kept : (left : ℕ) (p q r : Parts) → IsSwept left p q → HasNoLess q r → KeepsBodies (core_of q) (core_of r) → IsSwept left p r
swept-kept left p q r x less keeps = record {
  swept = x.swept;
  parts = x.parts;
  same_outside = x.same_outside;
  only = x.only;
  idle = x.idle;
  less = less-trans x.swept q r x.less less;
  since = few-kept left (core_of x.swept) (core_of q) (core_of r) x.since keeps;
}

pub swept-more : (left s : ℕ) (p q r : Parts) → IsSwept left p q → HasNoLess q r → KeepsAllBut s (core_of q) (core_of r) → IsSwept (left + 1) p r
swept-more left s p q r x less one = record {
  swept = x.swept;
  parts = x.parts;
  same_outside = x.same_outside;
  only = x.only;
  idle = x.idle;
  less = less-trans x.swept q r x.less less;
  since = few-more left s (core_of x.swept) (core_of q) (core_of r) x.since one;
}

-- what is counted behind a step
pub swept-then : (was now s : ℕ) (p q r : Parts) → IsSwept was p q → IsParts r → ((t : ℕ) → outside (core_of r) t ≡ outside (core_of p) t) → HasOnlyOf (core_of p) (core_of r) → HasNoLess q r → KeepsAllBut s (core_of q) (core_of r) → HasCounted was now (core_of q) (core_of r) → IsSwept now p r
swept-then was now s p q r x parts same only less one counted = ⊎_elim
    (λ (kept : (now ≡ was) × KeepsBodies (core_of q) (core_of r)). subst (λ (n : ℕ). IsSwept n p r) (sym kept.0) (swept-kept was p q r x less kept.1))
    (λ (other : (now ≡ was + 1) ⊎ ((now ≡ 0) × HasNoIdle (core_of r))). ⊎_elim
    (λ (more : now ≡ was + 1). subst (λ (n : ℕ). IsSwept n p r) (sym more) (swept-more was s p q r x less one))
    (λ (none : (now ≡ 0) × HasNoIdle (core_of r)). subst (λ (n : ℕ). IsSwept n p r) (sym none.0) (swept-now p r parts same only none.1)) other) counted

pub counted-low : (was now i : ℕ) (p q : Parts) → was ≤ i → HasCounted was now (core_of p) (core_of q) → now ≤ i + 1
counted-low was now i p q low counted = ⊎_elim
    (λ (kept : (now ≡ was) × KeepsBodies (core_of p) (core_of q)). let same = kept.0 in omega arith)
    (λ (other : (now ≡ was + 1) ⊎ ((now ≡ 0) × HasNoIdle (core_of q))). ⊎_elim
    (λ (more : now ≡ was + 1). omega arith)
    (λ (none : (now ≡ 0) × HasNoIdle (core_of q)). let same = none.0 in omega arith) other) counted

-- where there is no room, words are wanting or entries are
pub wants : (p : Parts) (words entries : ℕ) → (HasRoom p words entries → ⊥) → (free_of p.segment < words) ⊎ (spare_of p < entries)
wants p words entries none = ⊎_elim (λ (low : free_of p.segment < words). inl low)
    (λ (words_ : words ≤ free_of p.segment). ⊎_elim (λ (low : spare_of p < entries). inr low) (λ (entries_ : entries ≤ spare_of p). absurd (none (words_, entries_))) (cases_lt (spare_of p) entries))
    (cases_lt (free_of p.segment) words)

-- one more left where there was no room
pub vain-then : (part words entries left s : ℕ) (p q r : Parts) → IsSwept left p q → IsFewBehind part words entries q left → (HasRoom q words entries → ⊥) → KeepsAllBut s (core_of q) (core_of r) → (free_of q.segment < words) ⊎ HasSweptInVain (part + 1) entries p r
vain-then part words entries left s p q r x few none one = ⊎_elim
    (λ (low : left ≤ part). ⊎_elim (λ (short : free_of q.segment < words). inl short) (λ (short : spare_of q < entries). inr record {
      swept = x.swept;
      parts = x.parts;
      same_outside = x.same_outside;
      only = x.only;
      idle = x.idle;
      wanting = let more = x.less.entries in omega arith;
      since = few-part (left + 1) (part + 1) (core_of x.swept) (core_of r) (omega arith) (few-more left s (core_of x.swept) (core_of q) (core_of r) x.since one);
    }) (wants q words entries none))
    (λ (other : HasRoom q words entries ⊎ (free_of q.segment < words)). ⊎_elim (λ (has : HasRoom q words entries). absurd (none has)) (λ (short : free_of q.segment < words). inl short) other) few

pub lost-now : (part words entries left s : ℕ) (p q r : Parts) → IsSwept left p q → IsFewBehind part words entries q left → IsParts q → IsTight (core_of q) → size_of q.segment ≡ size_of p.segment → HasOnlyOf (core_of p) (core_of q) → HasNoLess p q → MindsMarks (core_of p) (core_of q)
    → (HasRoom q words entries → ⊥) → KeepsAllBut s (core_of q) (core_of r) → LostInNeed part words entries p r
lost-now part words entries left s p q r x few parts tight size only less minds none one = record {
  before = q;
  parts = parts;
  tight = tight;
  size = size;
  only = only;
  less = less;
  out = minds.out;
  wanting = none;
  vain = vain-then part words entries left s p q r x few none one;
  last = s;
  stays = one;
}

-- ---- a round

-- a round so far, of which so many entries were passed
pub record IsRound (part words entries i left : ℕ) (old now : Parts) : Type 0 where
  pub few : LosesFew i (core_of old) (core_of now)
  pub low : left ≤ i
  pub swept : IsSwept left old now
  pub behind : IsFewBehind part words entries now left
  pub stops : (i ≤ part) ⊎ LostInNeed part words entries old now

pub round-none : (part words entries : ℕ) (p : Parts) → IsParts p → HasNoIdle (core_of p) → IsRound part words entries 0 0 p p
round-none part words entries p parts idle = record {
  few = few-none (core_of p);
  low = omega arith;
  swept = swept-now p p parts (λ t. refl) (only-refl (core_of p)) idle;
  behind = inl (omega arith);
  stops = inl (omega arith);
}

pub round-stops : (part words entries i left : ℕ) (p q : Parts) → IsRound part words entries i left p q → StopsInTime part words entries p q
round-stops part words entries i left p q r = ⊎_elim (λ (low : i ≤ part). inl (few-part i part (core_of p) (core_of q) low r.few)) (λ need. inr need) r.stops

pub round-more : (part words entries i left now s : ℕ) (p q r : Parts) → IsRound part words entries i left p q → IsParts q → IsTight (core_of q) → size_of q.segment ≡ size_of p.segment → HasOnlyOf (core_of p) (core_of q) → HasNoLess p q → MindsMarks (core_of p) (core_of q)
    → (i < part ⊎ (HasRoom q words entries → ⊥)) → KeepsAllBut s (core_of q) (core_of r) → IsParts r → ((t : ℕ) → outside (core_of r) t ≡ outside (core_of p) t) → HasOnlyOf (core_of p) (core_of r) → HasNoLess q r
    → HasCounted left now (core_of q) (core_of r) → (IsFewBehind part words entries q left → IsFewBehind part words entries r now) → IsRound part words entries (i + 1) now p r
round-more part words entries i left now s p q r x parts tight size only less minds goes one parts_ same only_ less_ counted few = record {
  few = few-more i s (core_of p) (core_of q) (core_of r) x.few one;
  low = counted-low left now i q r x.low counted;
  swept = swept-then left now s p q r x.swept parts_ same only_ less_ one counted;
  behind = few x.behind;
  stops = ⊎_elim (λ (low : i < part). inl (omega arith)) (λ (none : HasRoom q words entries → ⊥). inr (lost-now part words entries left s p q r x.swept x.behind parts tight size only less minds none one)) goes;
}

-- ---- once through the table

pub record IsThrough (part words entries i left : ℕ) (old now : Parts) : Type 0 where
  pub low : left ≤ i
  pub swept : IsSwept left old now
  pub behind : IsFewBehind part words entries now left
  pub stops : KeepsBodies (core_of old) (core_of now) ⊎ LostInNeed part words entries old now

pub through-none : (part words entries : ℕ) (p : Parts) → IsParts p → HasNoIdle (core_of p) → KeepsBodies (core_of p) (core_of p) → IsThrough part words entries 0 0 p p
through-none part words entries p parts idle keeps = record {
  low = omega arith;
  swept = swept-now p p parts (λ t. refl) (only-refl (core_of p)) idle;
  behind = inl (omega arith);
  stops = inl keeps;
}

pub through-more : (part words entries i left now s : ℕ) (p q r : Parts) → IsThrough part words entries i left p q → IsParts q → IsTight (core_of q) → size_of q.segment ≡ size_of p.segment → HasOnlyOf (core_of p) (core_of q) → HasNoLess p q → MindsMarks (core_of p) (core_of q)
    → KeepsBodies (core_of q) (core_of r) ⊎ (HasRoom q words entries → ⊥) → KeepsAllBut s (core_of q) (core_of r) → IsParts r → ((t : ℕ) → outside (core_of r) t ≡ outside (core_of p) t) → HasOnlyOf (core_of p) (core_of r) → HasNoLess q r
    → HasCounted left now (core_of q) (core_of r) → (IsFewBehind part words entries q left → IsFewBehind part words entries r now) → IsThrough part words entries (i + 1) now p r
through-more part words entries i left now s p q r x parts tight size only less minds goes one parts_ same only_ less_ counted few = record {
  low = counted-low left now i q r x.low counted;
  swept = swept-then left now s p q r x.swept parts_ same only_ less_ one counted;
  behind = few x.behind;
  stops = ⊎_elim (λ (keeps : KeepsBodies (core_of q) (core_of r)). still-kept part words entries p q r x.stops keeps)
      (λ (none : HasRoom q words entries → ⊥). inr (lost-now part words entries left s p q r x.swept x.behind parts tight size only less minds none one)) goes;
}

-- ---- what a step leaves of it

-- words and entries are as they were
pub few-same : (part words entries left : ℕ) (p q : Parts) → q.segment ≡ p.segment → spare_of q ≡ spare_of p → IsFewBehind part words entries p left → IsFewBehind part words entries q left
few-same part words entries left p q same spare few = ⊎_elim (λ (low : left ≤ part). inl low)
    (λ (other : HasRoom p words entries ⊎ (free_of p.segment < words)). let free = ap free_of same in ⊎_elim
    (λ (has : HasRoom p words entries). let w = has.0 in let e = has.1 in inr (inl (omega arith, omega arith)))
    (λ (short : free_of p.segment < words). inr (inr (omega arith))) other) few

pub if-ok : {A E : Type 0} {P Q : A → Type 0} (r : Result A E) → ((a : A) → P a → Q a) → IfOk r P → IfOk r Q
if-ok {A} {E} {P} {Q} (Ok a) f p = f a p
if-ok {A} {E} {P} {Q} (Err e) f p = tt
