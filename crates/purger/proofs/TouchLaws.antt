-- One flag of entries differs, and nothing else: what it leaves as it was. All of it is about cores alone, but the last.
use Rattle.std.proofs.Common.{◌≡◌, ℕ, ◌+◌, Bool, true, refl, sym, ◌∙◌, ap, arith, Option, Some, None, count_by}
use Rattle.object_table.specs.declared.entry.Entry.{Entry}
use Rattle.object_table.specs.Entries.{put, is_used, place_of, sum_below, with_touched}
use Rattle.core_segment.specs.Chunks.{Chunk}
use Rattle.core_view.specs.Core.{Core, with_entry}
use Rattle.core_view.specs.Counts.{names, holders_in, holders, outside, marked_by, change_by}
use Rattle.core_view.specs.Kept.{IsCore, IsTight, Stays}
use Rattle.core_view.specs.Purge.{IsPurged, fresh_by, fresh_of}
use Rattle.core_view.proofs.Entries.{IsStep, at-entry, touch-step, touch-held, touch-backed, step-core, step-outside}
use Rattle.core_view.proofs.Sums.{sum-same}
use Rattle.core_view.proofs.Tight.{owners-tight}
use Rattle.purger.specs.Counts.{KeepsCounts}
use Rattle.purger.specs.Marks.{AreHere, KeepsMarks}
use Rattle.purger.specs.Touches.{IsTouching}

-- ---- one entry

step-of : (c : Core) (s : ℕ) (b : Bool) → IsCore c → is_used (c.entries s).state ≡ true → IsStep c s (with_touched (c.entries s) b)
step-of c s b core used = touch-step c s (c.entries s).refs (c.entries s).change (with_touched (c.entries s) b).flags core used (core.counted s)

pub touch-core : (c : Core) (s : ℕ) (b : Bool) → IsCore c → is_used (c.entries s).state ≡ true → IsCore (with_entry c s (with_touched (c.entries s) b))
touch-core c s b core used = step-core c s (with_touched (c.entries s) b) core (step-of c s b core used)

pub touch-stays : (c : Core) (s : ℕ) (b : Bool) → IsCore c → is_used (c.entries s).state ≡ true → Stays c (with_entry c s (with_touched (c.entries s) b))
touch-stays c s b core used disk backed = record {
  backed = touch-backed c disk s (c.entries s).refs (c.entries s).change (with_touched (c.entries s) b).flags core backed (step-of c s b core used) (λ e. e) refl;
  held = touch-held c disk s (c.entries s).refs (c.entries s).change (with_touched (c.entries s) b).flags core (step-of c s b core used);
}

pub touch-outside : (c : Core) (s t : ℕ) (b : Bool) → IsCore c → is_used (c.entries s).state ≡ true → outside (with_entry c s (with_touched (c.entries s) b)) t ≡ outside c t
unfolding holders
touch-outside c s t b core used =
    let all : outside (with_entry c s (with_touched (c.entries s) b)) t + count_by (names t) (holders_in c.chunks (c.entries s) (place_of (c.entries s).state)) + (c.entries t).refs ≡ outside c t + count_by (names t) (holders_in c.chunks (c.entries s) (place_of (c.entries s).state)) + (put c.entries s (with_touched (c.entries s) b) t).refs =
    step-outside c s (with_touched (c.entries s) b) t core (step-of c s b core used) in
    let refs : (put c.entries s (with_touched (c.entries s) b) t).refs ≡ (c.entries t).refs = at-entry c.entries s (with_touched (c.entries s) b) (λ q e. e.refs ≡ (c.entries q).refs) refl (λ q away. refl) t in
    omega arith

pub touch-one : (c : Core) (s : ℕ) (b : Bool) → IsTouching c (with_entry c s (with_touched (c.entries s) b))
touch-one c s b = record {
  find = refl;
  bound = refl;
  chunks = refl;
  entries = at-entry c.entries s (with_touched (c.entries s) b) (λ q e. e ≡ with_touched (c.entries q) e.flags.touched) refl (λ q away. refl);
}

-- ---- nothing but this flag differs

pub Touching-refl : (c : Core) → IsTouching c c
Touching-refl c = record { find = refl; bound = refl; chunks = refl; entries = λ q. refl }

-- what isn't the flag
pub touch-same : {A : Type 0} (c d : Core) (q : ℕ) (f : Entry → A) → IsTouching c d → ((e : Entry) (b : Bool) → f (with_touched e b) ≡ f e) → f (d.entries q) ≡ f (c.entries q)
touch-same {A} c d q f step blind = ap f (step.entries q) ∙ blind (c.entries q) (d.entries q).flags.touched

pub touch-state : (c d : Core) (q : ℕ) → IsTouching c d → (d.entries q).state ≡ (c.entries q).state
touch-state c d q step = touch-same c d q (λ (e : Entry). e.state) step (λ e b. refl)

pub touch-name : (c d : Core) (q : ℕ) → IsTouching c d → (d.entries q).name ≡ (c.entries q).name
touch-name c d q step = touch-same c d q (λ (e : Entry). e.name) step (λ e b. refl)

pub touch-tight : (c d : Core) → IsTouching c d → IsTight c → IsTight d
touch-tight c d step = owners-tight c d (λ p. ap (λ (f : ℕ → Chunk). (f p).owner) step.chunks) (λ q. ap place_of (touch-state c d q step))

pub touch-fresh : (c d : Core) → IsTouching c d → fresh_of d ≡ fresh_of c
unfolding fresh_of
touch-fresh c d step = ap (λ (n : ℕ). sum_below n (λ q. fresh_by (d.entries q))) step.bound ∙ sum-same c.bound (λ q. fresh_by (c.entries q)) (λ q. fresh_by (d.entries q)) (λ q low. touch-same c d q fresh_by step (λ e b. refl))

pub touch-purged : (a b k : ℕ) (c d : Core) → IsTouching c d → ((t : ℕ) → outside d t ≡ outside c t) → IsPurged a b k c d
touch-purged a b k c d step out = record {
  bound = step.bound;
  same_outside = out;
  live = λ t some. touch-name c d t step;
  leaves = λ t e. ap place_of (touch-state c d t step) ∙ e;
  pinned = λ t p among at. record {
    at = p;
    place = ap place_of (touch-state c d t step) ∙ at;
    kind = touch-same c d t (λ (e : Entry). e.kind) step (λ e b. refl);
    len = touch-same c d t (λ (e : Entry). e.len) step (λ e b. refl);
    name = touch-name c d t step;
    words = ap (λ (f : ℕ → Chunk). (f p).words) step.chunks;
  };
}

pub touch-mark : (c d : Core) (q : ℕ) → IsTouching c d → (d.entries q).flags.marked ≡ (c.entries q).flags.marked
touch-mark c d q step = touch-same c d q (λ (e : Entry). e.flags.marked) step (λ e b. refl)

pub touch-here : (c d : Core) → IsTouching c d → AreHere c → AreHere d
touch-here c d step here s on marked =
    let state = touch-state c d s step in
    let body = here s (ap is_used (sym state) ∙ on) (sym (touch-mark c d s step) ∙ marked) in
    (body.0, ap place_of state ∙ body.1)

pub touch-marks : (c d : Core) → IsTouching c d → KeepsMarks c d
touch-marks c d step = record {
  marks = λ n. ap (λ (f : ℕ → Option ℕ). marked_by d.entries (f n)) step.find ∙ go (c.find n);
  found = λ n on. ap (λ (f : ℕ → Option ℕ). f n) step.find;
}
  where
    go : (o : Option ℕ) → marked_by d.entries o ≡ marked_by c.entries o
    go None = refl
    go (Some q) = touch-mark c d q step

pub touch-counts : (c d : Core) → IsTouching c d → KeepsCounts c d
touch-counts c d step = record { find = step.find; changes = λ m. ap (λ (f : ℕ → Option ℕ). change_by d.entries (f m)) step.find ∙ go (c.find m) }
  where
    go : (o : Option ℕ) → change_by d.entries o ≡ change_by c.entries o
    go None = refl
    go (Some q) = touch-same c d q (λ (e : Entry). e.change) step (λ e b. refl)
