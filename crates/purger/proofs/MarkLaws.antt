-- Marks that go or stay. All of it is about cores alone.
use Rattle.std.proofs.Common.{◌≡◌, ◌≢◌, inl, inr, ℕ, ◌+◌, ◌*◌, ◌%◌, ◌<◌, Bool, true, false, refl, sym, ◌∙◌, ap, arith, Option, Some, None, ⊎_elim}
use Rattle.std.proofs.lemmas.Bool.{cases_eq}
use Rattle.std.proofs.lemmas.Grind.{common_steps}
use Rattle.object_table.specs.declared.entry.Entry.{Entry}
use Rattle.object_table.specs.Entries.{put, is_short, is_used, place_of, free_entry, sum_below}
use Rattle.core_segment.specs.Chunks.{Chunk}
use Rattle.core_view.specs.Core.{Core, without_leaf}
use Rattle.core_view.specs.Counts.{outside, marked_by, marked_of}
use Rattle.core_view.specs.Kept.{IsCore, IsTight}
use Rattle.core_view.specs.Purge.{IsPurged, fresh_by, fresh_of}
use Rattle.core_view.specs.Steps.{IsIdle, IsMove}
use Rattle.core_view.proofs.Entries.{at-entry}
use Rattle.core_view.proofs.Lists.{put-here, put-there}
use Rattle.core_view.proofs.Sums.{sum-same}
use Rattle.core_view.proofs.Tight.{owners-tight}
use Rattle.leaf_lambda.specs.Parts.{IsWithin}
use Rattle.purger.specs.Marks.{AreHere, unmarked, IsUnmarking, KeepsMarks, LeavesMarks}

no-both : {A : Type 0} (b : Bool) → b ≡ true → b ≡ false → A
no-both {A} b on off = let both : true ≡ false = sym on ∙ off in absurd (cc)

-- ---- nothing but marks differs

pub Unmarking-refl : (c : Core) → IsUnmarking c c
Unmarking-refl c = record { find = refl; bound = refl; chunks = refl; entries = λ q. inl refl }

-- what isn't the mark
pub unmarked-same : {A : Type 0} (c d : Core) (q : ℕ) (f : Entry → A) → IsUnmarking c d → ((e : Entry) → f (unmarked e) ≡ f e) → f (d.entries q) ≡ f (c.entries q)
unmarked-same {A} c d q f step blind = ⊎_elim (λ same. ap f same) (λ off. ap f off ∙ blind (c.entries q)) (step.entries q)

pub state-same : (c d : Core) (q : ℕ) → IsUnmarking c d → (d.entries q).state ≡ (c.entries q).state
state-same c d q step = unmarked-same c d q (λ (e : Entry). e.state) step (λ e. refl)

pub unmarked-tight : (c d : Core) → IsUnmarking c d → IsTight c → IsTight d
unmarked-tight c d step = owners-tight c d (λ p. ap (λ (f : ℕ → Chunk). (f p).owner) step.chunks) (λ q. ap place_of (state-same c d q step))

pub unmarked-fresh : (c d : Core) → IsUnmarking c d → fresh_of d ≡ fresh_of c
unfolding fresh_of
unmarked-fresh c d step = ap (λ (n : ℕ). sum_below n (λ q. fresh_by (d.entries q))) step.bound ∙ sum-same c.bound (λ q. fresh_by (c.entries q)) (λ q. fresh_by (d.entries q)) (λ q low. unmarked-same c d q fresh_by step (λ e. refl))

pub unmarked-purged : (a b k : ℕ) (c d : Core) → IsUnmarking c d → ((t : ℕ) → outside d t ≡ outside c t) → IsPurged a b k c d
unmarked-purged a b k c d step out = record {
  bound = step.bound;
  same_outside = out;
  live = λ t some. unmarked-same c d t (λ (e : Entry). e.name) step (λ e. refl);
  leaves = λ t e. ap place_of (state-same c d t step) ∙ e;
  pinned = λ t p among at. record {
    at = p;
    place = ap place_of (state-same c d t step) ∙ at;
    kind = unmarked-same c d t (λ (e : Entry). e.kind) step (λ e. refl);
    len = unmarked-same c d t (λ (e : Entry). e.len) step (λ e. refl);
    name = unmarked-same c d t (λ (e : Entry). e.name) step (λ e. refl);
    words = ap (λ (f : ℕ → Chunk). (f p).words) step.chunks;
  };
}

pub unmarked-here : (c d : Core) → IsUnmarking c d → AreHere c → AreHere d
unmarked-here c d step here s on marked =
    let state = state-same c d s step in
    let was : (c.entries s).flags.marked ≡ true = ⊎_elim (λ same. ap (λ (e : Entry). e.flags.marked) (sym same) ∙ marked) (λ off. no-both (d.entries s).flags.marked marked (ap (λ (e : Entry). e.flags.marked) off)) (step.entries s) in
    let body = here s (ap is_used (sym state) ∙ on) was in
    (body.0, ap place_of state ∙ body.1)

-- ---- marks by name

-- the mark of an entry in use is that of its name
pub marked-at : (c : Core) (s : ℕ) → IsCore c → is_used (c.entries s).state ≡ true → marked_of c (c.entries s).name ≡ (c.entries s).flags.marked
marked-at c s core on = ap (marked_by c.entries) (core.found s on)

pub Kept-refl : (c : Core) → KeepsMarks c c
Kept-refl c = record { marks = λ n. refl; found = λ n on. refl }

pub Kept-trans : (a b c : Core) → KeepsMarks a b → KeepsMarks b c → KeepsMarks a c
Kept-trans a b c x y = record { marks = λ n. y.marks n ∙ x.marks n; found = λ n on. y.found n (x.marks n ∙ on) ∙ x.found n on }

pub Marks-same : (c d : Core) → KeepsMarks c d → LeavesMarks c d
Marks-same c d same = inl same

pub Marks-trans : (a b c : Core) → LeavesMarks a b → LeavesMarks b c → LeavesMarks a c
Marks-trans a b c x y = ⊎_elim (λ same. ⊎_elim (λ kept. inl (Kept-trans a b c same kept)) (λ gone. inr ((gone.0.0, sym (same.marks gone.0.0) ∙ gone.0.1), gone.1)) y)
    (λ none. ⊎_elim (λ kept. inr (none.0, λ n. kept.marks n ∙ none.1 n)) (λ gone. inr (none.0, gone.1)) y) x

-- what is in use keeps its name, so a marked name keeps its entry
pub live-found : (c d : Core) → IsCore c → IsCore d → ((t : ℕ) → is_used (c.entries t).state ≡ true → (is_used (d.entries t).state ≡ true) × ((d.entries t).name ≡ (c.entries t).name))
    → (n : ℕ) → marked_of c n ≡ true → d.find n ≡ c.find n
live-found c d core now live n on = go (c.find n) refl
  where
    go : (o : Option ℕ) → c.find n ≡ o → d.find n ≡ c.find n
    go None e = let off : marked_of c n ≡ false = ap (marked_by c.entries) e in no-both (marked_of c n) on off
    go (Some s) e =
        let used = core.used n s e in
        let there = live s used in
        ap d.find (sym (there.1 ∙ core.named n s e)) ∙ now.found s there.0 ∙ sym e

pub within-marks : (c d : Core) (s : ℕ) → IsCore c → IsCore d → IsWithin s c d → KeepsMarks c d
within-marks c d s core now within = record { marks = within.marks; found = live-found c d core now within.live }

-- ---- marked objects are in the core

pub leaf-gone-marks : (c : Core) (s n : ℕ) → IsCore c → IsIdle c s n → AreHere c → KeepsMarks c (without_leaf c s n)
leaf-gone-marks c s n core idle here = record { marks = λ m. ⊎_elim (at-name m) (elsewhere m) (cases_eq m n); found = kept }
  where
    off : (b : Bool) → (c.entries s).flags.marked ≡ b → (c.entries s).flags.marked ≡ false
    off false e = e
    off true e = let body = here s idle.used e in absurd (let both : None ≡ Some body.0 = sym idle.leaf ∙ body.1 in cc)

    at-name : (m : ℕ) → m ≡ n → marked_of (without_leaf c s n) m ≡ marked_of c m
    at-name m e = ap (λ o. marked_by (put c.entries s free_entry) o) (ap (put c.find n None) e ∙ put-here c.find n None)
        ∙ sym (ap (λ o. marked_by c.entries o) (ap c.find (e ∙ sym idle.name) ∙ core.found s idle.used) ∙ off (c.entries s).flags.marked refl)

    elsewhere : (m : ℕ) → m ≢ n → marked_of (without_leaf c s n) m ≡ marked_of c m
    elsewhere m away = ap (λ o. marked_by (put c.entries s free_entry) o) (put-there c.find n None m away) ∙ go (c.find m) refl
      where
        go : (o : Option ℕ) → c.find m ≡ o → marked_by (put c.entries s free_entry) o ≡ marked_by c.entries o
        go None e = refl
        go (Some q) e = ap (λ (x : Entry). x.flags.marked) (put-there c.entries s free_entry q (λ h. away (sym (core.named m q e) ∙ ap (λ (k : ℕ). (c.entries k).name) h ∙ idle.name)))

    kept : (m : ℕ) → marked_of c m ≡ true → put c.find n None m ≡ c.find m
    kept m on = ⊎_elim (λ (e : m ≡ n). no-both (marked_of c m) on (ap (λ o. marked_by c.entries o) (ap c.find (e ∙ sym idle.name) ∙ core.found s idle.used) ∙ off (c.entries s).flags.marked refl)) (λ (away : m ≢ n). put-there c.find n None m away) (cases_eq m n)

pub leaf-gone-here : (c : Core) (s n : ℕ) → AreHere c → AreHere (without_leaf c s n)
leaf-gone-here c s n here = at-entry c.entries s free_entry (λ q e. is_used e.state ≡ true → e.flags.marked ≡ true → (p : ℕ) × (place_of e.state ≡ Some p)) (λ on marked. absurd (cc)) (λ q away. here q)

move-marked : (c d : Core) → IsMove c d → (n : ℕ) → marked_of d n ≡ marked_of c n
move-marked c d move n = ap (λ (f : ℕ → Option ℕ). marked_by d.entries (f n)) move.find ∙ go (c.find n)
  where
    go : (o : Option ℕ) → marked_by d.entries o ≡ marked_by c.entries o
    go None = refl
    go (Some q) = ap (λ (e : Entry). e.flags.marked) (move.entries q)

pub move-marks : (c d : Core) → IsMove c d → KeepsMarks c d
move-marks c d move = record { marks = move-marked c d move; found = λ n on. ap (λ (f : ℕ → Option ℕ). f n) move.find }

-- a call on one object that isn't marked
pub within-here : (c d : Core) (s : ℕ) → IsWithin s c d → (d.entries s).flags.marked ≡ false → AreHere c → AreHere d
within-here c d s within off here t on marked = ⊎_elim (λ (e : t ≡ s). no-both (d.entries t).flags.marked marked (ap (λ (k : ℕ). (d.entries k).flags.marked) e ∙ off)) (λ (away : t ≢ s). go away (is_used (c.entries t).state) refl) (cases_eq t s)
  where
    go : t ≢ s → (b : Bool) → is_used (c.entries t).state ≡ b → (p : ℕ) × (place_of (d.entries t).state ≡ Some p)
    go away false e = no-both (d.entries t).flags.marked marked (ap (λ (x : Entry). x.flags.marked) (within.others.came t away e on))
    go away true e =
        let same = within.others.same t away e in
        let body = here t e (ap (λ (x : Entry). x.flags.marked) (sym same) ∙ marked) in
        (body.0, ap (λ (x : Entry). place_of x.state) same ∙ body.1)

-- ---- entry by entry

pub odd-short : (s i : ℕ) → s ≡ 2 * i + 3 → is_short s ≡ false
odd-short s i e = let rest : s % 2 ≡ 1 = omega arith in grind (arith, common_steps)

pub low-short : (s : ℕ) → s < 2 → is_short s ≡ false
low-short s low = ⊎_elim (λ (e : s ≡ 0). ap is_short e) (λ (e : s ≢ 0). let one_ : s ≡ 1 = omega arith in ap is_short one_) (cases_eq s 0)

-- ---- all marks go

pub Marks-taken : (c d : Core) (s : ℕ) → IsCore c → is_used (c.entries s).state ≡ true → (c.entries s).flags.marked ≡ true → ((n : ℕ) → marked_of d n ≡ false) → LeavesMarks c d
Marks-taken c d s core on marked none = inr (((c.entries s).name, marked-at c s core on ∙ marked), none)

pub gone-at : (c d : Core) (s : ℕ) → IsCore d → is_used (c.entries s).state ≡ true → IsUnmarking c d → ((n : ℕ) → marked_of d n ≡ false) → (d.entries s).flags.marked ≡ false
gone-at c d s core on step none = sym (marked-at d s core (ap is_used (state-same c d s step) ∙ on)) ∙ none (d.entries s).name

-- a call on an object that is in the core afterwards
pub within-body : (c d : Core) (s p : ℕ) → IsWithin s c d → place_of (d.entries s).state ≡ Some p → AreHere c → AreHere d
within-body c d s p within at here t on marked = ⊎_elim (λ (e : t ≡ s). (p, ap (λ (k : ℕ). place_of (d.entries k).state) e ∙ at)) (λ (away : t ≢ s). go away (is_used (c.entries t).state) refl) (cases_eq t s)
  where
    go : t ≢ s → (b : Bool) → is_used (c.entries t).state ≡ b → (p : ℕ) × (place_of (d.entries t).state ≡ Some p)
    go away false e = no-both (d.entries t).flags.marked marked (ap (λ (x : Entry). x.flags.marked) (within.others.came t away e on))
    go away true e =
        let same = within.others.same t away e in
        let body = here t e (ap (λ (x : Entry). x.flags.marked) (sym same) ∙ marked) in
        (body.0, ap (λ (x : Entry). place_of x.state) same ∙ body.1)
