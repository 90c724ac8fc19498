-- How many objects live: a memory that has settled says as many as the machine that it stands for keeps, and where it then has no room
-- for an object, as many live as the model says at that making.
use Rattle.std.proofs.Common.{zero, suc, ◌≡◌, ℕ, pos, ◌+◌, ◌*◌, ◌<◌, ◌≤◌, nat_lt, Bool, true, false, ◌||◌, cond, List, [], ◌∷◌, length, Option, Some, None, IsTrue, inl, inr, ◌⊎◌, is_some, refl, sym, ◌∙◌, ap, ap₂, arith}
use borrow.Author.Tests.{ltb-true, ltb-false}
use Rattle.std.proofs.Math.Path.{fun_ext}
use Rattle.std.specs.List.{slice_get}
use Rattle.std.specs.Option.{option_map_or}
use Rattle.long_names.specs.declared.object.Object.{Object}
use Rattle.long_names.specs.declared.value.Value.{Value}
use Rattle.long_names.specs.declared.value.Value.TheVariants.{Int}
use Rattle.long_names.specs.Names.{is_known}
use Rattle.long_names.specs.Objects.{holds, is_ref}
use Rattle.long_names.specs.Heap.{Heap, Has, IsBounded, objects_below, object_count}
use Rattle.long_names.specs.Kept.{any_below, holds_at, is_left, sweeps, kept}
use Rattle.long_names.specs.Need.{is_pinned}
use Rattle.long_names.specs.declared.limits.TheConstants.{MACHINE_REGISTERS, REGISTERS, SLOTS}
use Rattle.long_names.specs.Thin.{IsThinner, IsClosed}
use Rattle.long_names.proofs.ThinLemmas.{IsWhole-bounded, below}
use Rattle.long_names.proofs.KeptLaws.{kept-thinner}
use Rattle.object_memory.specs.Told.{Told, Bounds, IsReady, is_root}
use Rattle.object_memory.specs.Contract.{ForBounds, IfBounds, CountsKept, Lives, Raised}
use Rattle.object_memory.specs.declared.fault.MemFault.TheVariants.{WorkFull}
use Rattle.blue_model.specs.declared.cpu.Cpu.{Cpu}
use Rattle.blue_model.specs.declared.event.Line.{Line}
use Rattle.blue_model.specs.Machine.{Machine, LogRow, log_of}
use Rattle.blue_model.specs.Cycle.{cycle}
use Rattle.blue_model.specs.Logs.{made_in, names_from, living, lives_after, lives, IsLive}
use Rattle.blue_model.specs.Logs as model
use Rattle.blue_model.proofs.LiveLaws.{few_made, lives_at}
use Rattle.blue_model.proofs.MakingTurns.{few-cycle}
use Rattle.contexts.specs.Serves.{Stands, HasRest, HasMaking, IsCaused}
use Rattle.contexts.proofs.RoomLaws.{root_there}
use Rattle.machine_run.specs.Run.{IsSettled}

-- ---- a heap below its next name

abbrev cut : Heap → Heap
cut h = record { at = λ n. cond (nat_lt n h.next) (h.at n) None; next = h.next }

nat_lt_by : (a b : ℕ) → a < b → nat_lt a b ≡ true
nat_lt_by a b low = go (nat_lt a b) refl
  where
    go : (x : Bool) → nat_lt a b ≡ x → nat_lt a b ≡ true
    go true e = e
    go false e = let high = ltb-false a b e in absurd (omega arith)

inside : (h : Heap) (n : ℕ) → n < h.next → (cut h).at n ≡ h.at n
inside h n low = ap (λ b. cond b (h.at n) None) (nat_lt_by n h.next low)

cut_at : (h : Heap) (n : ℕ) (o : Object) → (cut h).at n ≡ Some o → h.at n ≡ Some o
cut_at h n o e = go (nat_lt n h.next) e
  where
    go : (b : Bool) → cond b (h.at n) None ≡ Some o → h.at n ≡ Some o
    go true f = f
    go false f = let no : ◌≡◌ {A = Option Object} None (Some o) = f in absurd (cc)

cut_bounded : (h : Heap) → IsBounded (cut h)
cut_bounded h = record { bounded = λ n high. go n high (nat_lt n h.next) refl }
  where
    go : (n : ℕ) → h.next ≤ n → (b : Bool) → nat_lt n h.next ≡ b → cond (nat_lt n h.next) (h.at n) None ≡ None
    go n high true e = let low = ltb-true n h.next e in absurd (omega arith)
    go n high false e = ap (λ b. cond b (h.at n) None) e

cut_thinner : (h s : Heap) → IsThinner h s → IsBounded s → IsThinner (cut h) s
cut_thinner h s t bounded = record {
  next = t.next;
  same = λ n o e. (let low = below s n o bounded e in let same = t.next in inside h n (omega arith) ∙ t.same n o e);
  acyclic = λ set c n. t.acyclic set record {
    had = λ k e. has k (c.had k e);
    lost = c.lost;
    held = λ k e. (let x = c.held k e in record { by = x.by; object = x.object; inside = x.inside; there = cut_at h x.by x.object x.there; holds_it = x.holds_it });
  } n;
}
  where
    has : (k : ℕ) → Has (cut h) k → Has h k
    has k e = go ((cut h).at k) refl e
      where
        go : (o : Option Object) → (cut h).at k ≡ o → is_some ((cut h).at k) ≡ true → Has h k
        go None f there = let no = ap is_some (sym f) in absurd (cc)
        go (Some o) f there = ap is_some (cut_at h k o f)

-- two heaps are one below a name that is the next of both
record SameBelow (f g : Heap) (m : ℕ) : Type 0 where
  next : f.next ≡ m
  other : g.next ≡ m
  at : (n : ℕ) → n < m → f.at n ≡ g.at n

same_below : (n : ℕ) (p q : ℕ → Bool) → ((k : ℕ) → k < n → p k ≡ q k) → any_below n p ≡ any_below n q
same_below zero p q e = refl
same_below (suc n) p q e = ap₂ (λ a b. a || b) (e n (omega arith)) (same_below n p q (λ k low. e k (omega arith)))

left_same : (f g : Heap) (m : ℕ) (root : ℕ → Bool) (n : ℕ) → SameBelow f g m → is_left f root n ≡ is_left g root n
left_same f g m root n s = ap (λ x. is_known n || (root n || x)) (
    ap (λ x. any_below x (λ k. holds_at f k n)) s.next
    ∙ same_below m (λ k. holds_at f k n) (λ k. holds_at g k n) (λ k low. ap (λ (o : Option Object). option_map_or (λ (x : Object). holds x n) o false) (s.at k low))
    ∙ ap (λ x. any_below x (λ k. holds_at g k n)) (sym s.other))

sweeps_same : (i : ℕ) (f g : Heap) (m : ℕ) (root : ℕ → Bool) → SameBelow f g m → SameBelow (sweeps i f root) (sweeps i g root) m
sweeps_same zero f g m root s = s
sweeps_same (suc i) f g m root s =
    let before = sweeps_same i f g m root s in
    record { next = before.next; other = before.other; at = λ n low. ap₂ (λ b o. cond b o None) (left_same (sweeps i f root) (sweeps i g root) m root n before) (before.at n low) }

counts_same : (k : ℕ) (f g : Heap) (m : ℕ) → k ≤ m → SameBelow f g m → objects_below f k ≡ objects_below g k
counts_same zero f g m low s = refl
counts_same (suc k) f g m low s = ap₂ (λ n (o : Option Object). n + cond (is_some o) 1 0) (counts_same k f g m (omega arith) s) (s.at k (omega arith))

count_same : (f g : Heap) (m : ℕ) → SameBelow f g m → object_count f ≡ object_count g
unfolding object_count
count_same f g m s = ap (objects_below f) s.next ∙ counts_same m f g m (omega arith) s ∙ ap (objects_below g) (sym s.other)

kept_cut : (h : Heap) (root : ℕ → Bool) → object_count (kept (cut h) root) ≡ object_count (kept h root)
unfolding kept
kept_cut h root =
    let same : SameBelow (cut h) h h.next = record { next = refl; other = refl; at = λ n low. inside h n low } in
    ap (λ n. object_count (sweeps n (cut h) root)) (count_same (cut h) h h.next same)
    ∙ count_same (sweeps (object_count h) (cut h) root) (sweeps (object_count h) h root) h.next (sweeps_same (object_count h) (cut h) h h.next root same)

-- a thinner heap that is whole keeps as many objects
kept_count : (h s : Heap) (root : ℕ → Bool) → IsThinner h s → IsClosed s → ((n : ℕ) → is_known n ≡ true → Has s n) → ((n : ℕ) → root n ≡ true → Has s n) → IsBounded s → object_count (kept s root) ≡ object_count (kept h root)
kept_count h s root t closed known rooted bounded = ap object_count (kept-thinner (cut h) s root (cut_thinner h s t bounded) closed known rooted (cut_bounded h)) ∙ kept_cut h root

-- ---- roots

-- the tests from k on fail
any_drop : (m k : ℕ) (f : ℕ → Bool) → k ≤ m → ((r : ℕ) → k ≤ r → r < m → f r ≡ false) → any_below m f ≡ any_below k f
any_drop zero k f low none = let same : 0 ≡ k = omega arith in ap (λ n. any_below n f) same
any_drop (suc m) k f low none = go (nat_lt m k) refl (λ few. any_drop m k f few (λ r high under. none r high (omega arith)))
  where
    go : (b : Bool) → nat_lt m k ≡ b → (k ≤ m → any_below m f ≡ any_below k f) → any_below (suc m) f ≡ any_below k f
    go true e next = let high = ltb-true m k e in let same : suc m ≡ k = omega arith in ap (λ n. any_below n f) same
    go false e next = let few = ltb-false m k e in ap (λ b. b || any_below m f) (none m (omega arith) (omega arith)) ∙ next (omega arith)

roots_stand : (t : Told) (cpu : Cpu) (m : Machine) → HasRest t → Stands t cpu m → is_root t ≡ model.is_root m
roots_stand t cpu m rest st = fun_ext (λ n. ap₂ (λ a b. a || b) (registers n) (ap (λ (slots : ℕ → Option ℕ). any_below SLOTS (λ i. is_pinned n (slots i))) (sym st.slots)))
  where
    number : (n : ℕ) (v : Value) → v ≡ Int (pos 0) → is_ref n v ≡ false
    number n v e = ap (is_ref n) e

    registers : (n : ℕ) → any_below REGISTERS (λ r. is_ref n (t.regs r)) ≡ any_below MACHINE_REGISTERS (λ r. is_ref n (m.regs r))
    registers n = any_drop REGISTERS MACHINE_REGISTERS (λ r. is_ref n (t.regs r)) (omega arith) (λ r high low. number n (t.regs r) (rest.scratch r high low)) ∙ same_below MACHINE_REGISTERS (λ r. is_ref n (t.regs r)) (λ r. is_ref n (m.regs r)) (λ r low. ap (is_ref n) (sym (st.regs r low)))

-- what a memory keeps with its registers and slots as roots is as much as the machine that it stands for
pub living_stands : (t : Told) (cpu : Cpu) (m : Machine) → IsTrue t.tells → IsReady t → HasRest t → Stands t cpu m → object_count (kept t.heap (is_root t)) ≡ living m
unfolding living
living_stands t cpu m told ready rest st =
    let whole = ready.whole told in
    kept_count m.heap t.heap (is_root t) st.heap whole.closed whole.known (root_there t ready told) (IsWhole-bounded t.heap t.regs t.slots whole)
    ∙ ap (λ root. object_count (kept m.heap root)) (roots_stand t cpu m rest st)

-- ---- makings

-- the log has the making of a name: it is one of those that it makes
pub made_at : (n : ℕ) (log : List LogRow) → HasMaking n log → (i : ℕ) × (slice_get (made_in log) i ≡ Some n)
made_at n [] h = absurd h
made_at n (row ∷ rows) h = go row.makes refl h (λ x. made_at n rows x)
  where
    go : (b : Bool) → row.makes ≡ b → ((row.makes ≡ true) × (row.object ≡ n)) ⊎ HasMaking n rows → (HasMaking n rows → (i : ℕ) × (slice_get (made_in rows) i ≡ Some n)) → (i : ℕ) × (slice_get (cond row.makes (row.object ∷ made_in rows) (made_in rows)) i ≡ Some n)
    go true e (inl x) next = (0, ap (λ b. slice_get (cond b (row.object ∷ made_in rows) (made_in rows)) 0) e ∙ ap (λ (k : ℕ). Some k) x.1)
    go true e (inr x) next = let at = next x in (suc at.0, ap (λ b. slice_get (cond b (row.object ∷ made_in rows) (made_in rows)) (suc at.0)) e ∙ at.1)
    go false e (inl x) next = let no : true ≡ false = sym x.0 ∙ e in absurd (cc)
    go false e (inr x) next = let at = next x in (at.0, ap (λ b. slice_get (cond b (row.object ∷ made_in rows) (made_in rows)) at.0) e ∙ at.1)

names_at : (n k i v : ℕ) → slice_get (names_from n k) i ≡ Some v → (v ≡ n + 2 * i) × (i < k)
names_at n zero i v e = let no : ◌≡◌ {A = Option ℕ} None (Some v) = e in absurd (cc)
names_at n (suc k) zero v e = let same : n ≡ v = cc in (omega arith, omega arith)
names_at n (suc k) (suc i) v e = let rest = names_at (n + 2) k i v e in let is = rest.0 in let low = rest.1 in (omega arith, omega arith)

count_names : (n k : ℕ) → length (names_from n k) ≡ k
count_names n zero = refl
count_names n (suc k) = ap suc (count_names (n + 2) k)

-- nothing is made in a log without makings
pub unmade : (n : ℕ) (log : List LogRow) → made_in log ≡ [] → HasMaking n log → ⊥
unmade n log e h =
    let at = made_at n log h in
    let no : ◌≡◌ {A = Option ℕ} None (Some n) = ap (λ (x : List ℕ). slice_get x at.0) (sym e) ∙ at.1 in
    absurd (cc)

-- ---- no room

-- A memory that has settled before a cycle has no room for an object: as many live as at that making. That eight or more were made
-- since then can't be, since a cycle makes three at most.
pub full_lives : (events : List Line) (mid new : Told) (cpu : Cpu) (m : Machine) (live room : ℕ) → IsTrue mid.tells → IsReady mid → HasRest mid → Stands mid cpu m → IsSettled mid → IsCaused mid new (WorkFull live room) → HasMaking new.heap.next (log_of (cycle events m)) → IsLive live (lives events m)
unfolding lives
full_lives events mid new cpu m live room told ready rest st settled cause making = go mid.bounds new.bounds settled cause.1.1.counts cause.0
  where
    few : (k : ℕ) × (k ≤ 3) × (made_in (log_of (cycle events m)) ≡ names_from m.heap.next k)
    few = few_made 3 (cycle events) m (few-cycle events)

    at : (i : ℕ) × (slice_get (made_in (log_of (cycle events m))) i ≡ Some new.heap.next)
    at = made_at new.heap.next (log_of (cycle events m)) making

    is : (new.heap.next ≡ m.heap.next + 2 * at.0) × (at.0 < few.0)
    is = names_at m.heap.next few.0 at.0 new.heap.next (ap (λ (x : List ℕ). slice_get x at.0) (sym few.2) ∙ at.1)

    before : cause.1.0 ≡ at.0
    before = let next = cause.1.1.next told in let same = st.heap.next in let one = is.0 in omega arith

    inside_log : at.0 < length (made_in (log_of (cycle events m)))
    inside_log = let count = ap length few.2 ∙ count_names m.heap.next few.0 in let low = is.1 in omega arith

    kept_here : (base : ℕ) (b : Option ℕ) → b ≡ Some base → CountsKept mid b → base ≡ living m
    kept_here base None e c = let no : ◌≡◌ {A = Option ℕ} None (Some base) = e in absurd (cc)
    kept_here base (Some x) e c = let same : x ≡ base = cc in sym same ∙ c told ∙ living_stands mid cpu m told ready rest st

    lives_so : (x y : Bounds) → (x.made ≡ 0) × CountsKept mid x.base → (y.base ≡ x.base) × (y.made ≡ x.made + cause.1.0) → Lives new y live → IsLive live (lives_after (living m) (log_of (cycle events m)))
    lives_so x y s r (inl full) =
        let base = kept_here full.0 x.base (sym r.0 ∙ full.1) s.1 in
        let none = s.0 in
        let made = r.1 in
        let same = before in
        let lives = full.2 in
        let sum : living m + at.0 + 1 ≡ live = omega arith in
        (at.0, lives_at (living m) at.0 (log_of (cycle events m)) inside_log ∙ ap (λ (k : ℕ). Some k) sum)
    lives_so x y s r (inr full) = let none = s.0 in let made = r.1 in let same = before in let low = is.1 in let three = few.1 in let many = full.0 in absurd (omega arith)

    go : (a b : Option Bounds) → IfBounds a (λ x. (x.made ≡ 0) × CountsKept mid x.base) → Raised cause.1.0 a b → ForBounds b (λ y. (y.room ≡ room) × (room < live) × Lives new y live) → IsLive live (lives_after (living m) (log_of (cycle events m)))
    go a None s r full = absurd full
    go None (Some y) s r full = absurd r
    go (Some x) (Some y) s r full = lives_so x y s r full.2
