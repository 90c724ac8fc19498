-- Calls of a memory without bounds, as calls of one with bounds over it.
-- A memory over another is proved in three steps. Here is one law for each way a call ends, over what the two tell and over the
-- access: `forwarded` and `answered-over`, `core-full`, `making-refused`, `work-faulted`. `MemoryLaws` says the same of whole
-- memories, so that each answer is one line. The code asks the memory below for a kind, a length and a header first, which
-- changes nothing that is told; so the laws go by that one equation. A memory below without bounds refuses nothing but makings,
-- marks and what is said (`never-refused`): all other calls are forwarded with one exit.
use Rattle.std.proofs.Common.{◌≡◌, ℕ, ◌<◌, ◌≤◌, true, Option, Some, None, Result, Ok, Err, IsTrue, inl, inr, refl, sym, subst, subst₂, add-zero, arith}
use Rattle.std.specs.Result.{OnOk, is_ok}
use Rattle.long_names.specs.Counting.{counted}
use Rattle.long_names.specs.declared.limits.TheConstants.{LAST_NAME}
use Rattle.long_names.specs.Access.{Access, Make, Say, Answer, Nothing}
use Rattle.long_names.specs.Objects.{Making}
use Rattle.long_names.proofs.ThinLemmas.{IsThinner-refl}
use Rattle.object_memory.specs.declared.fault.Need.{Need}
use Rattle.object_memory.specs.declared.fault.MemFault.{MemFault}
use Rattle.object_memory.specs.declared.fault.MemFault.TheVariants.{CoreFull, WorkFull, WorkFault, Damaged, NamesSpent, Said, Memory}
use Rattle.object_memory.specs.Told.{Told, Bounds, IsReady}
use Rattle.object_memory.specs.Contract.{Call, Does, Settles, Thins, MayDo, SameBounds, Raised, makes, Lives, IsLater, Brings, SaysBy, SaysRefused, CacheAfter, Counts, Follows, Called, ForBounds, IsMaking, TakesMemory, HasCause, HasCore, BaseAfter, CountsKept, IsNeedOf, Accessed, need_of_access}
use Rattle.object_memory.specs.Plain.{refused}
use Rattle.object_memory.proofs.PlainLaws.{kept_cache, leaves}
use Rattle.bounded_memory.specs.Bounded.{over, faulted, need_at, IsFull, CannotMake}

-- ---- what is told with bounds

pub ready-over : (t : Told) (n : ℕ) (l : Option MemFault) (b : Bounds) → IsReady t → IsReady (over t n l b)
ready-over t n l b ready = record { whole = ready.whole; marked = ready.marked; cached = ready.cached }

pub ready-under : (t u : Told) (n : ℕ) (l : Option MemFault) (b : Bounds) → over t n l b ≡ u → IsReady u → IsReady t
ready-under t u n l b e ready = (let r : IsReady (over t n l b) = subst (λ (w : Told). IsReady w) (sym e) ready in record { whole = r.whole; marked = r.marked; cached = r.cached })

pub may-under : (t u : Told) (n : ℕ) (l : Option MemFault) (b : Bounds) (a : Access) → over t n l b ≡ u → MayDo u a → MayDo t a
may-under t u n l b a e may = (let m : MayDo (over t n l b) a = subst (λ (w : Told). MayDo w a) (sym e) may in record { heap = m.heap; names = m.names; slots = m.slots; ranges = m.ranges })

pub ready-answered : {A : Type 0} (t : Told) (n : ℕ) (l : Option MemFault) (b : Bounds) (r : Result A MemFault) → OnOk r (IsReady t) → OnOk r (IsReady (over t n l b))
ready-answered t n l b (Ok x) ready = ready-over t n l b ready
ready-answered t n l b (Err f) ready = tt

says-over : (p q : Told) (n m : ℕ) (l k : Option MemFault) (b d : Bounds) (a : Access) → SaysBy (Does a) p q → SaysBy (Does a) (over p n l b) (over q m k d)
says-over p q n m l k b d (Say of) h = h
says-over p q n m l k b d _ h = h

-- ---- an access that is answered

pub answered-over : {A : Type 0} (p q : Told) (n : ℕ) (l : Option MemFault) (b d : Bounds) (a : Access) (spell : A → Answer) (x : A) → SameBounds (Some b) (Some d) → Raised (makes a) (Some b) (Some d) → HasCore (over p n l b) a b → Accessed p q a spell (Ok x) → Accessed (over p n l b) (over q n l d) a spell (Ok x)
answered-over {A} p q n l b d a spell x same raised core access =
    let f = access.called.ok in
    record {
      called = record {
        later = record { tells = access.called.later.tells; speaks = access.called.later.speaks; bounds = same; refusals = omega arith };
        ok = record {
          regs = f.regs;
          brings = f.brings;
          slots = f.slots;
          transcript = says-over p q n n l l b d a f.transcript;
          heap = f.heap;
          cache = f.cache;
          counts = raised;
          base = tt;
          refusals = refl;
          last = refl;
        };
        err = tt;
      };
      answer = access.answer;
      named = access.named;
      core = core;
    }

pub same-bounds : (b : Bounds) → SameBounds (Some b) (Some b)
same-bounds b = (refl, refl, refl, omega arith, omega arith)

raised-none : (b : Bounds) → Raised 0 (Some b) (Some b)
raised-none b = (refl, sym (add-zero b.made))

pub raised-same : (k : ℕ) (b : Bounds) → k ≡ 0 → Raised k (Some b) (Some b)
raised-same k b e = subst (λ k. Raised k (Some b) (Some b)) (sym e) (raised-none b)

none-for : (x : Option Bounds) (P : Bounds → Type 0) → x ≡ None → ForBounds x P → ⊥
none-for None P e h = h
none-for (Some b) P e h = cc

-- a memory that tells its heap and has no bounds refuses no access but a making, a mark and what is said
pub never-refused : (p q : Told) (a : Access) (f : MemFault) → q.bounds ≡ None → IsTrue p.tells → (TakesMemory (Does a) → ⊥) → makes a ≡ 0 → HasCause p q (Does a) f → ⊥
never-refused p q a (CoreFull need) bare told quiet none cause = none-for q.bounds _ bare cause.0
never-refused p q a (WorkFull live room) bare told quiet none cause = none-for q.bounds _ bare cause.0
never-refused p q a (WorkFault count) bare told quiet none cause = none-for q.bounds _ bare cause.0
never-refused p q a (Damaged place name) bare told quiet none cause = cause told
never-refused p q a NamesSpent bare told quiet none cause = (let one = cause.0 in omega arith)
never-refused p q a (Said count) bare told quiet none cause = none-for q.bounds _ bare cause.0
never-refused p q a Memory bare told quiet none cause = quiet cause.1

-- such an access, answered as the memory below does
pub forwarded : {A : Type 0} (p q : Told) (n : ℕ) (l : Option MemFault) (b : Bounds) (a : Access) (spell : A → Answer) (r : Result A MemFault) → q.bounds ≡ None → IsTrue p.tells → (TakesMemory (Does a) → ⊥) → makes a ≡ 0 → HasCore (over p n l b) a b → Accessed p q a spell r → Accessed (over p n l b) (over q n l b) a spell r
forwarded {A} p q n l b a spell (Ok x) bare told quiet none core access = answered-over p q n l b b a spell x (same-bounds b) (raised-same (makes a) b none) core access
forwarded {A} p q n l b a spell (Err f) bare told quiet none core access = absurd (never-refused p q a f bare told quiet none access.called.err.cause)

-- ---- an access that is refused

-- all else is as it was
pub refused-access : {A : Type 0} (t : Told) (b : Bounds) (a : Access) (spell : A → Answer) (f : MemFault) → t.bounds ≡ Some b → IsReady t → t.refusals ≤ counted t.refusals → HasCause t (refused t f) (Does a) f → (IsMaking (Does a) → LAST_NAME ≤ t.heap.next → f ≡ NamesSpent) → SaysRefused (Does a) t (refused t f) f → Accessed {A = A} t (refused t f) a spell (Err f)
refused-access {A} t b a spell f bound ready later cause spent says = record {
  called = record {
    later = record { tells = refl; speaks = refl; bounds = subst (λ x. SameBounds x x) (sym bound) (same-bounds b); refusals = later };
    ok = tt;
    err = record {
      rose = omega arith;
      last = refl;
      cause = cause;
      spent = λ make _ past. spent make past;
      counts = subst (λ x. Raised 0 x x) (sym bound) (raised-none b);
      transcript = says;
      left = leaves f _ record { regs = refl; slots = refl; heap = λ _. IsThinner-refl t.heap; ready = record { whole = ready.whole; marked = ready.marked; cached = ready.cached }; cache = kept_cache t.cache };
    };
  };
  answer = tt;
  named = tt;
  core = tt;
}

-- for want of room in the core
pub core-full : {A : Type 0} (t : Told) (b : Bounds) (a : Access) (of : ℕ) (spell : A → Answer) (f : MemFault) → t.bounds ≡ Some b → makes a ≡ 0 → IsNeedOf t a (need_at t of) → ((need : Need) → SaysRefused (Does a) t (refused t (CoreFull need)) (CoreFull need)) → IsReady t → t.refusals ≤ counted t.refusals → IsFull t (need_at t of) f → Accessed {A = A} t (refused t f) a spell (Err f)
core-full {A} t b a of spell f bound none need says ready later full = subst (λ g. Accessed {A = A} t (refused t g) a spell (Err g)) (sym full.0)
    (refused-access t b a spell (CoreFull (need_at t of)) bound ready later (full.1, λ _. need) (λ make past. absurd (omega arith)) (says (need_at t of)))

-- a making, for each of its causes
pub making-refused : (t : Told) (b : Bounds) (to class : ℕ) (what : Making) (need : Need) (f : MemFault) → t.bounds ≡ Some b → need ≡ need_of_access t (Make to class what) → IsReady t → t.refusals ≤ counted t.refusals → CannotMake t need f → Accessed {A = Unit {0}} t (refused t f) (Make to class what) (λ _. Nothing) (Err f)
making-refused t b to class what need f bound same ready later (inl spent) = subst (λ g. Accessed {A = Unit {0}} t (refused t g) (Make to class what) (λ _. Nothing) (Err g)) (sym spent.0)
    (refused-access t b (Make to class what) (λ _. Nothing) NamesSpent bound ready later (omega arith, λ _. spent.1) (λ _ _. refl) (λ told. refl))
making-refused t b to class what need f bound same ready later (inr (low, inl crowded)) =
    let now : (live : ℕ) × Lives t b live × (b.room < live) × (f ≡ WorkFull live b.room) = subst (λ x. ForBounds x (λ b. (live : ℕ) × Lives t b live × (b.room < live) × (f ≡ WorkFull live b.room))) bound crowded in
    subst (λ g. Accessed {A = Unit {0}} t (refused t g) (Make to class what) (λ _. Nothing) (Err g)) (sym now.3)
    (refused-access t b (Make to class what) (λ _. Nothing) (WorkFull now.0 b.room) bound ready later
    (subst (λ x. ForBounds x (λ c. (c.room ≡ b.room) × (b.room < now.0))) (sym bound) (refl, now.2), subst (λ x. ForBounds x (λ c. Lives t c now.0)) (sym bound) now.1, omega arith)
    (λ make past. absurd (omega arith)) (λ told. refl))
making-refused t b to class what need f bound same ready later (inr (low, inr full)) = subst (λ g. Accessed {A = Unit {0}} t (refused t g) (Make to class what) (λ _. Nothing) (Err g)) (sym full.0)
    (refused-access t b (Make to class what) (λ _. Nothing) (CoreFull need) bound ready later (full.1, λ _. same) (λ make past. absurd (omega arith)) (λ told. refl))

says-faulted : (t u : Told) (a : Access) (count : ℕ) → u.transcript ≡ t.transcript → SaysRefused (Does a) t u (WorkFault count)
says-faulted t u (Say of) count e = λ told. e
says-faulted t u _ count e = λ told. e

-- want of memory below, as a fault of Work
pub work-faulted : {A : Type 0} (p q : Told) (n : ℕ) (l : Option MemFault) (b : Bounds) (a : Access) (spell : A → Answer) (f g : MemFault) → q ≡ refused p g → f ≡ WorkFault (counted b.work_faults) → n ≤ counted n → b.work_faults ≤ counted b.work_faults → (1 ≤ makes a → p.heap.next < LAST_NAME) → Accessed {A = A} (over p n l b) (faulted q n b) a spell (Err f)
work-faulted {A} p q n l b a spell f g e is rose risen named = subst₂ (λ (q : Told) (f : MemFault). Accessed {A = A} (over p n l b) (faulted q n b) a spell (Err f)) (sym e) (sym is)
    record {
      called = record {
        later = record { tells = refl; speaks = refl; bounds = (refl, refl, refl, risen, omega arith); refusals = rose };
        ok = tt;
        err = record {
          rose = omega arith;
          last = refl;
          cause = (refl, omega arith);
          spent = λ make _ past. (let low = named make in absurd (omega arith));
          counts = (refl, sym (add-zero b.made));
          transcript = says-faulted (over p n l b) (faulted (refused p g) n b) a (counted b.work_faults) refl;
          left = tt;
        };
      };
      answer = tt;
      named = tt;
      core = tt;
    }

-- ---- the calls that are no accesses

pub follows-over : (p q : Told) (n : ℕ) (l : Option MemFault) (b d : Bounds) (call : Call) → Brings call (over p n l b) (over q n l d) → SaysBy call (over p n l b) (over q n l d) → CacheAfter (over p n l b) (over q n l d) call → Counts call (Some b) (Some d) → BaseAfter call (over q n l d) → Follows p q call → Follows (over p n l b) (over q n l d) call
follows-over p q n l b d call brings says cache counts base f = record {
  regs = f.regs;
  brings = brings;
  slots = f.slots;
  transcript = says;
  heap = f.heap;
  cache = cache;
  counts = counts;
  base = base;
  refusals = refl;
  last = refl;
}

pub later-over : (p q : Told) (n : ℕ) (l : Option MemFault) (b d : Bounds) → SameBounds (Some b) (Some d) → IsLater p q → IsLater (over p n l b) (over q n l d)
later-over p q n l b d same later = record { tells = later.tells; speaks = later.speaks; bounds = same; refusals = omega arith }

pub settles-over : (p q : Told) (n : ℕ) (l : Option MemFault) (b d : Bounds) (x : Unit {0}) → SameBounds (Some b) (Some d) → d.made ≡ 0 → CountsKept (over q n l d) d.base → Called p q Settles (Ok x) → Called (over p n l b) (over q n l d) Settles (Ok x)
settles-over p q n l b d x same none base called = record {
  later = later-over p q n l b d same called.later;
  ok = follows-over p q n l b d Settles tt called.ok.transcript called.ok.cache none base called.ok;
  err = tt;
}

-- and the settling, which wants memory to count what is kept
pub settling-faulted : (p : Told) (n : ℕ) (l : Option MemFault) (b : Bounds) (f : MemFault) → f ≡ WorkFault (counted b.work_faults) → n ≤ counted n → b.work_faults ≤ counted b.work_faults → Called {A = Unit {0}} (over p n l b) (faulted p n b) Settles (Err f)
settling-faulted p n l b f is rose risen = subst (λ (f : MemFault). Called {A = Unit {0}} (over p n l b) (faulted p n b) Settles (Err f)) (sym is)
    record {
      later = record { tells = refl; speaks = refl; bounds = (refl, refl, refl, risen, omega arith); refusals = rose };
      ok = tt;
      err = record {
        rose = omega arith;
        last = refl;
        cause = (refl, omega arith);
        spent = λ make told past. absurd make;
        counts = tt;
        transcript = λ told. refl;
        left = tt;
      };
    }

pub thins-follow : (p q : Told) (n : ℕ) (l : Option MemFault) (b : Bounds) → Follows p q Thins → Follows (over p n l b) (over q n l b) Thins
thins-follow p q n l b f = follows-over p q n l b b Thins tt f.transcript f.cache (raised-none b) tt f

pub thins-over : (p q : Told) (n : ℕ) (l : Option MemFault) (b : Bounds) (r : Result (Unit {0}) MemFault) → is_ok r ≡ true → Called p q Thins r → Called (over p n l b) (over q n l b) Thins r
thins-over p q n l b (Ok x) ok called = record {
  later = later-over p q n l b b (same-bounds b) called.later;
  ok = thins-follow p q n l b called.ok;
  err = tt;
}
thins-over p q n l b (Err f) ok called = absurd (cc)
