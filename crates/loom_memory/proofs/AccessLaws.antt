-- Accesses of a memory that keeps its heap while objects come and go below.
use Rattle.std.proofs.Common.{◌≡◌, ℕ, ◌≤◌, true, false, Option, Some, None, Ok, Err, IsTrue, refl, sym, ◌∙◌, ap, subst, add-zero, arith, Bool, ⊎_elim}
use Rattle.std.proofs.lemmas.Grind.{common_steps}
use Rattle.long_names.specs.declared.value.Value.{Value}
use Rattle.long_names.specs.declared.object.Kind.{Kind}
use Rattle.long_names.specs.Counting.{counted}
use Rattle.long_names.specs.Heap.{Heap}
use Rattle.long_names.specs.State.{set_register}
use Rattle.long_names.specs.Access.{Access, Known, Class, KindOf, Length, Header, Field, SetField, Word, SetWord, Byte, SetByte, ReadWords, WriteWords, ReadBytes, Make, Pin, Mark, Say, Swap, Answer, Nothing, OfKind, heap_after, brought, answer_of}
use Rattle.long_names.specs.Thin.{IsThinner}
use Rattle.long_names.proofs.ThinLemmas.{IsThinner-refl}
use Rattle.object_memory.specs.declared.fault.MemFault.{MemFault}
use Rattle.object_memory.specs.declared.fault.MemFault.TheVariants.{CoreFull, WorkFull, WorkFault, Damaged, NamesSpent, Said, Memory}
use Rattle.object_memory.specs.Told.{Told, Cache, Bounds, IsReady}
use Rattle.object_memory.specs.Contract.{Does, SameBounds, Raised, makes, IfBounds, HasCause, HasCore, Accessed, IsLater, Refuses, LeavesCache, LeavesAll, IsLeft, IsSaying, SaysRefused, no_names, touched_by, work_faults}
use Rattle.object_memory.specs.Plain.{refused}
use Rattle.loom_memory.proofs.CacheLaws.{left-then, left-trans}
use Rattle.long_names.specs.Need.{words_alone}
use Rattle.loom_memory.specs.Memory.{IsTaken, IsStoredIn, IsSilent, IsRefused}
use Rattle.loom_memory.specs.Gentle.{IsQuiet}

set_here : (regs : ℕ → Value) (to : ℕ) (v : Value) → set_register regs to v to ≡ v
set_here regs to v = grind (arith, common_steps)

-- field i comes into a register, and objects came and went below
pub field-answered : (t : Told) (b : Option Bounds) (c : Cache) (to of i : ℕ) (v : Value) → SameBounds t.bounds b → Raised 0 t.bounds b → LeavesCache no_names None t.cache t.cache c → (IsTrue t.tells → brought t.heap t.regs (Field to of i) ≡ Some v) → IfBounds t.bounds (HasCore t (Field to of i))
    → Accessed {A = Unit {0}} t (record t { bounds = b; cache = c; regs = set_register t.regs to v }) (Field to of i) (λ _. Nothing) (Ok tt)
field-answered t b c to of i v same counts left brings core = record {
  called = record {
    later = record { tells = refl; speaks = refl; bounds = same; refusals = omega arith };
    ok = record {
      regs = ap (λ (w : Value). set_register t.regs to w) (sym (set_here t.regs to v));
      brings = λ told. brings told ∙ ap Some (sym (set_here t.regs to v));
      slots = refl;
      transcript = λ told. refl;
      heap = λ told. IsThinner-refl t.heap;
      cache = left;
      counts = counts;
      base = tt;
      refusals = refl;
      last = refl;
    };
    err = tt;
  };
  answer = λ told. refl;
  named = λ make told. absurd (omega arith);
  core = core;
}

-- the kind is answered
pub kind-answered : (t : Told) (b : Option Bounds) (c : Cache) (of : ℕ) (k : Kind) → SameBounds t.bounds b → Raised 0 t.bounds b → LeavesCache no_names None t.cache t.cache c → (IsTrue t.tells → answer_of t.heap t.regs (KindOf of) ≡ Some (OfKind k)) → IfBounds t.bounds (HasCore t (KindOf of))
    → Accessed {A = Kind} t (record t { bounds = b; cache = c }) (KindOf of) OfKind (Ok k)
kind-answered t b c of k same counts left answer core = record {
  called = record {
    later = record { tells = refl; speaks = refl; bounds = same; refusals = omega arith };
    ok = record { regs = refl; brings = λ told. refl; slots = refl; transcript = λ told. refl; heap = λ told. IsThinner-refl t.heap; cache = left; counts = counts; base = tt; refusals = refl; last = refl };
    err = tt;
  };
  answer = answer;
  named = λ make told. absurd (omega arith);
  core = core;
}

-- a field is stored
pub set_field-answered : (t : Told) (b : Option Bounds) (c : Cache) (h : Heap) (of i from : ℕ) → SameBounds t.bounds b → Raised 0 t.bounds b → LeavesCache (touched_by t.regs (SetField of i from)) None t.cache t.cache c → (IsTrue t.tells → h ≡ heap_after t.heap t.regs (SetField of i from)) → IfBounds t.bounds (HasCore t (SetField of i from))
    → Accessed {A = Unit {0}} t (record t { bounds = b; cache = c; heap = h }) (SetField of i from) (λ _. Nothing) (Ok tt)
set_field-answered t b c h of i from same counts left heap core = record {
  called = record {
    later = record { tells = refl; speaks = refl; bounds = same; refusals = omega arith };
    ok = record {
      regs = refl;
      brings = λ told. refl;
      slots = refl;
      transcript = λ told. refl;
      heap = λ told. subst (λ (x : Heap). IsThinner (heap_after t.heap t.regs (SetField of i from)) x) (sym (heap told)) (IsThinner-refl (heap_after t.heap t.regs (SetField of i from)));
      cache = left;
      counts = counts;
      base = tt;
      refusals = refl;
      last = refl;
    };
    err = tt;
  };
  answer = λ told. refl;
  named = λ make told. absurd (omega arith);
  core = core;
}

pub leaves : (f : MemFault) (P : Type 0) → P → LeavesAll f P
leaves (CoreFull need) P p = p
leaves (WorkFull live room) P p = p
leaves (WorkFault count) P p = tt
leaves (Damaged place name) P p = tt
leaves NamesSpent P p = p
leaves (Said count) P p = p
leaves Memory P p = p

-- marks that stayed or went leave a memory ready
pub left-ready : (t : Told) (b : Option Bounds) (c : Cache) → LeavesCache no_names None t.cache t.cache c → IsReady t → IsReady (record t { bounds = b; cache = c })
left-ready t b c left ready = record {
  whole = ready.whole;
  marked = λ told n on. ⊎_elim (λ kept. ready.marked told n (ap (λ (f : ℕ → Bool). f n) (sym kept.marks) ∙ on)) (λ emptied. absurd (let none = emptied.marks n on in cc)) left;
  cached = λ k s m on. ⊎_elim (λ kept. ap (λ (f : ℕ → Bool). f m) kept.marks ∙ ready.cached k s m (kept.rows k s m on)) (λ emptied. absurd (let no = emptied.rows k s m in let both : true ≡ false = sym on ∙ no in cc)) left;
}

pub refused-ready : (t : Told) (f : MemFault) → IsReady t → IsReady (refused t f)
refused-ready t f ready = record { whole = ready.whole; marked = ready.marked; cached = ready.cached }

-- an access that makes and says nothing is refused for its cause, and the heap stays
pub access-refused : {A : Type 0} (t : Told) (b : Option Bounds) (c : Cache) (a : Access) (spell : A → Answer) (f : MemFault) → SameBounds t.bounds b → Raised 0 t.bounds b → LeavesCache no_names None t.cache t.cache c → IsReady t → makes a ≡ 0 → t.refusals ≤ counted t.refusals → HasCause t (refused (record t { bounds = b; cache = c }) f) (Does a) f
    → SaysRefused (Does a) t (refused (record t { bounds = b; cache = c }) f) f → Accessed {A = A} t (refused (record t { bounds = b; cache = c }) f) a spell (Err f)
access-refused {A} t b c a spell f same counts left ready none later cause says = record {
  called = record {
    later = record { tells = refl; speaks = refl; bounds = same; refusals = later };
    ok = tt;
    err = record {
      rose = omega arith;
      last = refl;
      cause = cause;
      spent = λ make told past. absurd (omega arith);
      counts = counts;
      transcript = says;
      left = leaves f _ record { regs = refl; slots = refl; heap = λ told. IsThinner-refl t.heap; ready = refused-ready (record t { bounds = b; cache = c }) f (left-ready t b c left ready); cache = left };
    };
  };
  answer = tt;
  named = tt;
  core = tt;
}

-- ---- over a memory that was quiet

pub quiet-ready : (t u : Told) → IsQuiet t u → IsReady t → IsReady u
quiet-ready t u quiet ready = subst (λ (x : Told). IsReady x) (sym quiet.same) (left-ready t u.bounds u.cache quiet.cache ready)

pub kind-access : (t u : Told) (b : Bounds) (of : ℕ) (k : Kind) → IsQuiet t u → t.bounds ≡ Some b → (IsTrue t.tells → answer_of u.heap u.regs (KindOf of) ≡ Some (OfKind k)) → (IsTrue t.tells → words_alone u.heap u.regs (KindOf of) ≤ b.core)
    → Accessed {A = Kind} t u (KindOf of) OfKind (Ok k)
kind-access t u b of k quiet bound answer core = subst (λ (x : Told). Accessed {A = Kind} t x (KindOf of) OfKind (Ok k)) (sym quiet.same)
    (kind-answered t u.bounds u.cache of k quiet.bounds quiet.counts quiet.cache
    (λ told. ap (λ (x : Told). answer_of x.heap x.regs (KindOf of)) (sym quiet.same) ∙ answer told)
    (subst (λ x. IfBounds x (HasCore t (KindOf of))) (sym bound) (λ told. subst (λ (n : ℕ). n ≤ b.core) (ap (λ (x : Told). words_alone x.heap x.regs (KindOf of)) quiet.same) (core told))))

pub refused-is : {A : Type 0} (t u : Told) (a : Access) (spell : A → Answer) (f : MemFault) → IsLater t u × Refuses t u (Does a) f → Accessed {A = A} t u a spell (Err f)
refused-is {A} t u a spell f both = record { called = record { later = both.0; ok = tt; err = both.1 }; answer = tt; named = tt; core = tt }

-- ---- several steps

pub same-trans : (a b c : Option Bounds) → SameBounds a b → SameBounds b c → SameBounds a c
same-trans None None None x y = tt
same-trans None None (Some c) x y = absurd y
same-trans None (Some b) c x y = absurd x
same-trans (Some a) None c x y = absurd x
same-trans (Some a) (Some b) None x y = absurd y
same-trans (Some a) (Some b) (Some c) x y = (y.0 ∙ x.0, y.1 ∙ x.1, y.2 ∙ x.2, (let p = x.3 in let q = y.3 in omega arith), (let p = x.4 in let q = y.4 in omega arith))

pub raised-trans : (a b c : Option Bounds) → Raised 0 a b → Raised 0 b c → Raised 0 a c
raised-trans None None None x y = tt
raised-trans None None (Some c) x y = absurd y
raised-trans None (Some b) c x y = absurd x
raised-trans (Some a) None c x y = absurd x
raised-trans (Some a) (Some b) None x y = absurd y
raised-trans (Some a) (Some b) (Some c) x y = (y.0 ∙ x.0, (let p = x.1 in let q = y.1 in omega arith))

-- an object came, and its field into a register
pub field-access : (t u v : Told) (b : Bounds) (to of i : ℕ) → IsQuiet t u → IsTaken u v to of i → t.bounds ≡ Some b → (IsTrue t.tells → words_alone u.heap u.regs (Field to of i) ≤ b.core) → Accessed {A = Unit {0}} t v (Field to of i) (λ _. Nothing) (Ok tt)
field-access t u v b to of i quiet taken bound core =
    let is : v ≡ record t { bounds = v.bounds; cache = v.cache; regs = set_register t.regs to taken.value } = taken.same ∙ ap (λ (z : Told). record z { bounds = v.bounds; cache = v.cache; regs = set_register z.regs to taken.value }) quiet.same in
    let tells : u.tells ≡ t.tells = ap (λ (z : Told). z.tells) quiet.same in
    subst (λ (x : Told). Accessed {A = Unit {0}} t x (Field to of i) (λ _. Nothing) (Ok tt)) (sym is)
    (field-answered t v.bounds v.cache to of i taken.value (same-trans t.bounds u.bounds v.bounds quiet.bounds taken.bounds) (raised-trans t.bounds u.bounds v.bounds quiet.counts taken.counts) (left-trans t.cache u.cache v.cache quiet.cache taken.cache)
    (λ told. ap (λ (z : Told). brought z.heap z.regs (Field to of i)) (sym quiet.same) ∙ taken.brings (tells ∙ told))
    (subst (λ x. IfBounds x (HasCore t (Field to of i))) (sym bound) (λ told. subst (λ (n : ℕ). n ≤ b.core) (ap (λ (x : Told). words_alone x.heap x.regs (Field to of i)) quiet.same) (core told))))

-- an object came, and a field was stored
pub set_field-access : (t u v : Told) (b : Bounds) (of i from : ℕ) → IsQuiet t u → IsStoredIn u v of i from → t.bounds ≡ Some b → (IsTrue t.tells → words_alone u.heap u.regs (SetField of i from) ≤ b.core) → Accessed {A = Unit {0}} t v (SetField of i from) (λ _. Nothing) (Ok tt)
set_field-access t u v b of i from quiet stored bound core =
    let is : v ≡ record t { bounds = u.bounds; cache = v.cache; heap = stored.heap } = stored.same ∙ ap (λ (z : Told). record z { heap = stored.heap; cache = v.cache }) quiet.same in
    let tells : u.tells ≡ t.tells = ap (λ (z : Told). z.tells) quiet.same in
    subst (λ (x : Told). Accessed {A = Unit {0}} t x (SetField of i from) (λ _. Nothing) (Ok tt)) (sym is)
    (set_field-answered t u.bounds v.cache stored.heap of i from quiet.bounds quiet.counts
    (left-then (touched_by t.regs (SetField of i from)) t.cache u.cache v.cache quiet.cache (subst (λ (regs : ℕ → Value). LeavesCache (touched_by regs (SetField of i from)) None u.cache u.cache v.cache) (ap (λ (z : Told). z.regs) quiet.same) stored.cache))
    (λ told. stored.stored (tells ∙ told) ∙ ap (λ (z : Told). heap_after z.heap z.regs (SetField of i from)) quiet.same)
    (subst (λ x. IfBounds x (HasCore t (SetField of i from))) (sym bound) (λ told. subst (λ (n : ℕ). n ≤ b.core) (ap (λ (x : Told). words_alone x.heap x.regs (SetField of i from)) quiet.same) (core told))))

says : (t : Told) (a : Access) (f : MemFault) → IsSilent a → SaysRefused (Does a) t (refused t f) f
says t (Say of) f silent = absurd silent
says t (Known to name) f silent = λ told. refl
says t (Class to of) f silent = λ told. refl
says t (KindOf of) f silent = λ told. refl
says t (Length of) f silent = λ told. refl
says t (Header of) f silent = λ told. refl
says t (Field to of i) f silent = λ told. refl
says t (SetField of i from) f silent = λ told. refl
says t (Word of i) f silent = λ told. refl
says t (SetWord of i word) f silent = λ told. refl
says t (Byte of i) f silent = λ told. refl
says t (SetByte of i byte) f silent = λ told. refl
says t (ReadWords of at count) f silent = λ told. refl
says t (WriteWords of at run) f silent = λ told. refl
says t (ReadBytes of at count) f silent = λ told. refl
says t (Make to class what) f silent = λ told. refl
says t (Pin slot of) f silent = λ told. refl
says t (Mark of) f silent = λ told. refl
says t (Swap a b) f silent = λ told. refl

-- what was read doesn't stand: never where the heap is told
pub damaged-is : (t : Told) (a : Access) (place name : ℕ) → IsReady t → makes a ≡ 0 → IsSilent a → t.refusals ≤ counted t.refusals → (IsTrue t.tells → ⊥) → (bounds : (b : Bounds) × (t.bounds ≡ Some b)) → IsRefused t (refused t (Damaged place name)) a (Damaged place name)
damaged-is t a place name ready none silent later untold bounds =
    let same : SameBounds t.bounds t.bounds = subst (λ x. SameBounds x x) (sym bounds.1) (refl, refl, refl, omega arith, omega arith) in
    let counts : Raised 0 t.bounds t.bounds = subst (λ x. Raised 0 x x) (sym bounds.1) (refl, sym (add-zero bounds.0.made)) in (
      record { tells = refl; speaks = refl; bounds = same; refusals = later },
      record { rose = omega arith; last = refl; cause = untold; spent = λ make told past. absurd (omega arith); counts = counts; transcript = says t a (Damaged place name) silent; left = tt },
    )

-- ---- a refusal after quiet steps

not-saying : (a : Access) → IsSilent a → IsSaying (Does a) → ⊥
not-saying (Say of) silent says_ = silent
not-saying (Known to name) silent says_ = says_
not-saying (Class to of) silent says_ = says_
not-saying (KindOf of) silent says_ = says_
not-saying (Length of) silent says_ = says_
not-saying (Header of) silent says_ = says_
not-saying (Field to of i) silent says_ = says_
not-saying (SetField of i from) silent says_ = says_
not-saying (Word of i) silent says_ = says_
not-saying (SetWord of i word) silent says_ = says_
not-saying (Byte of i) silent says_ = says_
not-saying (SetByte of i byte) silent says_ = says_
not-saying (ReadWords of at count) silent says_ = says_
not-saying (WriteWords of at run) silent says_ = says_
not-saying (ReadBytes of at count) silent says_ = says_
not-saying (Make to class what) silent says_ = says_
not-saying (Pin slot of) silent says_ = says_
not-saying (Mark of) silent says_ = says_
not-saying (Swap a b) silent says_ = says_

says-after : (t v : Told) (b : Option Bounds) (c : Cache) (a : Access) (f : MemFault) → IsSilent a → SaysRefused (Does a) (record t { bounds = b; cache = c }) v f → SaysRefused (Does a) t v f
says-after t v b c (Say of) f silent x = absurd silent
says-after t v b c (Known to name) f silent x = x
says-after t v b c (Class to of) f silent x = x
says-after t v b c (KindOf of) f silent x = x
says-after t v b c (Length of) f silent x = x
says-after t v b c (Header of) f silent x = x
says-after t v b c (Field to of i) f silent x = x
says-after t v b c (SetField of i from) f silent x = x
says-after t v b c (Word of i) f silent x = x
says-after t v b c (SetWord of i word) f silent x = x
says-after t v b c (Byte of i) f silent x = x
says-after t v b c (SetByte of i byte) f silent x = x
says-after t v b c (ReadWords of at count) f silent x = x
says-after t v b c (WriteWords of at run) f silent x = x
says-after t v b c (ReadBytes of at count) f silent x = x
says-after t v b c (Make to class what) f silent x = x
says-after t v b c (Pin slot of) f silent x = x
says-after t v b c (Mark of) f silent x = x
says-after t v b c (Swap k l) f silent x = x

faults-below : (a b : Option Bounds) → SameBounds a b → work_faults a ≤ work_faults b
faults-below None None x = omega arith
faults-below None (Some b) x = absurd x
faults-below (Some a) None x = absurd x
faults-below (Some a) (Some b) x = x.3

cause-after : (t v : Told) (b : Option Bounds) (c : Cache) (a : Access) (f : MemFault) → IsSilent a → makes a ≡ 0 → SameBounds t.bounds b → HasCause (record t { bounds = b; cache = c }) v (Does a) f → HasCause t v (Does a) f
cause-after t v b c a (CoreFull need) silent none same x = x
cause-after t v b c a (WorkFull live room) silent none same x = (let some = x.2 in absurd (omega arith))
cause-after t v b c a (WorkFault count) silent none same x = (x.0, (let low = faults-below t.bounds b same in let rose = x.1 in omega arith))
cause-after t v b c a (Damaged place name) silent none same x = x
cause-after t v b c a NamesSpent silent none same x = (let some = x.0 in absurd (omega arith))
cause-after t v b c a (Said count) silent none same x = absurd (not-saying a silent x.2)
cause-after t v b c a Memory silent none same x = x

left-is : (t v : Told) (b : Option Bounds) (c : Cache) → LeavesCache no_names None t.cache t.cache c → IsLeft (record t { bounds = b; cache = c }) v → IsLeft t v
left-is t v b c left x = record { regs = x.regs; slots = x.slots; heap = x.heap; ready = x.ready; cache = left-trans t.cache c v.cache left x.cache }

left-after : (t v : Told) (b : Option Bounds) (c : Cache) (f : MemFault) → LeavesCache no_names None t.cache t.cache c → LeavesAll f (IsLeft (record t { bounds = b; cache = c }) v) → LeavesAll f (IsLeft t v)
left-after t v b c (CoreFull need) left x = left-is t v b c left x
left-after t v b c (WorkFull live room) left x = left-is t v b c left x
left-after t v b c (WorkFault count) left x = tt
left-after t v b c (Damaged place name) left x = tt
left-after t v b c NamesSpent left x = left-is t v b c left x
left-after t v b c (Said count) left x = left-is t v b c left x
left-after t v b c Memory left x = left-is t v b c left x

pub after-quiet : (t u v : Told) (a : Access) (f : MemFault) → IsSilent a → makes a ≡ 0 → IsQuiet t u → IsRefused u v a f → IsRefused t v a f
after-quiet t u v a f silent none quiet both =
    let r : IsRefused (record t { bounds = u.bounds; cache = u.cache }) v a f = subst (λ (x : Told). IsRefused x v a f) quiet.same both in (
      record { tells = r.0.tells; speaks = r.0.speaks; bounds = same-trans t.bounds u.bounds v.bounds quiet.bounds r.0.bounds; refusals = r.0.refusals },
      record {
        rose = r.1.rose;
        last = r.1.last;
        cause = cause-after t v u.bounds u.cache a f silent none quiet.bounds r.1.cause;
        spent = λ make told past. absurd (omega arith);
        counts = raised-trans t.bounds u.bounds v.bounds quiet.counts r.1.counts;
        transcript = says-after t v u.bounds u.cache a f silent r.1.transcript;
        left = left-after t v u.bounds u.cache f quiet.cache r.1.left;
      },
    )

-- quiet steps are one
pub quiet-trans : (t u v : Told) → IsQuiet t u → IsQuiet u v → IsQuiet t v
quiet-trans t u v x y = record {
  same = y.same ∙ ap (λ (z : Told). record z { bounds = v.bounds; cache = v.cache }) x.same;
  cache = left-trans t.cache u.cache v.cache x.cache y.cache;
  bounds = same-trans t.bounds u.bounds v.bounds x.bounds y.bounds;
  counts = raised-trans t.bounds u.bounds v.bounds x.counts y.counts;
}

says-over : (t : Told) (b : Option Bounds) (c : Cache) (a : Access) (f : MemFault) → IsSilent a → SaysRefused (Does a) t (refused (record t { bounds = b; cache = c }) f) f
says-over t b c (Say of) f silent = absurd silent
says-over t b c (Known to name) f silent = λ told. refl
says-over t b c (Class to of) f silent = λ told. refl
says-over t b c (KindOf of) f silent = λ told. refl
says-over t b c (Length of) f silent = λ told. refl
says-over t b c (Header of) f silent = λ told. refl
says-over t b c (Field to of i) f silent = λ told. refl
says-over t b c (SetField of i from) f silent = λ told. refl
says-over t b c (Word of i) f silent = λ told. refl
says-over t b c (SetWord of i word) f silent = λ told. refl
says-over t b c (Byte of i) f silent = λ told. refl
says-over t b c (SetByte of i byte) f silent = λ told. refl
says-over t b c (ReadWords of at count) f silent = λ told. refl
says-over t b c (WriteWords of at run) f silent = λ told. refl
says-over t b c (ReadBytes of at count) f silent = λ told. refl
says-over t b c (Make to class what) f silent = λ told. refl
says-over t b c (Pin slot of) f silent = λ told. refl
says-over t b c (Mark of) f silent = λ told. refl
says-over t b c (Swap k l) f silent = λ told. refl

-- Quiet steps, and then a refusal: for any cause that this access has, seen from before the steps.
pub refused-quiet : (t u w : Told) (a : Access) (f : MemFault) → IsQuiet t u → w ≡ refused u f → IsReady t → IsSilent a → makes a ≡ 0 → t.refusals ≤ counted t.refusals → HasCause t w (Does a) f → IsRefused t w a f
refused-quiet t u w a f quiet is ready silent none later cause =
    let last : w ≡ refused (record t { bounds = u.bounds; cache = u.cache }) f = is ∙ ap (λ (z : Told). refused z f) quiet.same in
    subst (λ (x : Told). IsRefused t x a f) (sym last) (
      record { tells = refl; speaks = refl; bounds = quiet.bounds; refusals = later },
      record {
        rose = omega arith;
        last = refl;
        cause = subst (λ (x : Told). HasCause t x (Does a) f) last cause;
        spent = λ make told past. absurd (omega arith);
        counts = quiet.counts;
        transcript = says-over t u.bounds u.cache a f silent;
        left = leaves f _ record { regs = refl; slots = refl; heap = λ told. IsThinner-refl t.heap; ready = refused-ready (record t { bounds = u.bounds; cache = u.cache }) f (left-ready t u.bounds u.cache quiet.cache ready); cache = quiet.cache };
      },
    )
