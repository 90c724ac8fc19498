-- Makings and settlings: dead objects go, then an object is made, or the call is refused.
use Rattle.std.proofs.Common.{◌≡◌, ℕ, ◌+◌, ◌<◌, ◌≤◌, true, false, Bool, eqb, List, Option, Some, None, Ok, Err, Result, IsTrue, is_some, refl, sym, ◌∙◌, ap, subst, arith, ⊎_elim, inl, inr}
use Rattle.std.proofs.lemmas.Grind.{common_steps}
use Rattle.std.specs.Prelude.{IfErr, OnOk}
use Rattle.long_names.specs.declared.value.Value.{Value}
use Rattle.long_names.specs.declared.value.Value.TheVariants.{Ref}
use Rattle.long_names.specs.declared.limits.TheConstants.{LAST_NAME}
use Rattle.long_names.specs.declared.object.Object.{Object}
use Rattle.long_names.specs.Counting.{Rose, counted}
use Rattle.long_names.specs.Heap.{Heap, Has, add_object}
use Rattle.long_names.specs.Objects.{Making, body_made, body_words}
use Rattle.long_names.specs.State.{name_at, set_register, IsRef}
use Rattle.long_names.specs.Access.{Make, Nothing, heap_after}
use Rattle.long_names.specs.Thin.{IsThinner, IsThinning, IsWhole}
use Rattle.long_names.proofs.AccessLaws.{entries-same, whole-after, words-same}
use Rattle.long_names.proofs.ThinLemmas.{IsThinner-add_object, IsThinner-trans, IsThinning-refl, IsThinning-trans}
use Rattle.object_memory.specs.declared.fault.MemFault.{MemFault}
use Rattle.object_memory.specs.declared.fault.MemFault.TheVariants.{CoreFull, WorkFull, WorkFault, Damaged, NamesSpent, Said, Memory}
use Rattle.object_memory.specs.Told.{Told, Bounds, Cache, IsReady}
use Rattle.object_memory.specs.Contract.{Does, Accessed, HasCause, HasCore, IfBounds, IsLeft, LeavesAll, LeavesCache, Raised, SameBounds, need_of_access, no_names, work_faults}
use Rattle.object_memory.specs.Plain.{refused}
use Rattle.loom_memory.specs.Memory.{IsRefused}
use Rattle.loom_memory.specs.Gentle.{IsQuiet}
use Rattle.loom_memory.specs.Makings.{HasMade, HasThinned, IsFullMaking, IsNotFull, IsRefusedAs, IsRefusedMaking}
use Rattle.loom_memory.proofs.AccessLaws.{leaves, left-ready, raised-trans, refused-is, refused-ready, same-trans}
use Rattle.loom_memory.proofs.CacheLaws.{left-trans}

-- ---- steps that thin the heap

pub quiet-thinned : (t u : Told) → IsQuiet t u → IsReady t → HasThinned t u
quiet-thinned t u quiet ready =
    let same : u.heap ≡ t.heap = ap (λ (z : Told). z.heap) quiet.same in
    record {
      same = quiet.same ∙ ap (λ (h : Heap). record t { heap = h; bounds = u.bounds; cache = u.cache }) (sym same);
      thinning = λ told. subst (λ (h : Heap). IsThinning t.heap h t.regs t.slots) (sym same) (IsThinning-refl t.heap t.regs t.slots (ready.whole told));
      marked = λ told n on. subst (λ (h : Heap). Has h n) (sym same) ((left-ready t u.bounds u.cache quiet.cache ready).marked told n on);
      cache = quiet.cache;
      bounds = quiet.bounds;
      counts = quiet.counts;
    }

pub thinned-tells : (t u : Told) → HasThinned t u → u.tells ≡ t.tells
thinned-tells t u x = ap (λ (z : Told). z.tells) x.same

pub thinned-trans : (t u v : Told) → HasThinned t u → HasThinned u v → HasThinned t v
thinned-trans t u v x y =
    let tells = thinned-tells t u x in
    let regs : u.regs ≡ t.regs = ap (λ (z : Told). z.regs) x.same in
    let slots : u.slots ≡ t.slots = ap (λ (z : Told). z.slots) x.same in
    record {
      same = y.same ∙ ap (λ (z : Told). record z { heap = v.heap; bounds = v.bounds; cache = v.cache }) x.same;
      thinning = λ told. IsThinning-trans t.heap u.heap v.heap t.regs t.regs t.slots t.slots (x.thinning told)
          (subst (λ (r : ℕ → Value). IsThinning u.heap v.heap r t.slots) regs (subst (λ (s : ℕ → Option ℕ). IsThinning u.heap v.heap u.regs s) slots (y.thinning (tells ∙ told))));
      marked = λ told. y.marked (tells ∙ told);
      cache = left-trans t.cache u.cache v.cache x.cache y.cache;
      bounds = same-trans t.bounds u.bounds v.bounds x.bounds y.bounds;
      counts = raised-trans t.bounds u.bounds v.bounds x.counts y.counts;
    }

thinned-at : (t : Told) (h : Heap) (b : Option Bounds) (c : Cache) → (IsTrue t.tells → IsThinning t.heap h t.regs t.slots) → (IsTrue t.tells → (n : ℕ) → c.marks n ≡ true → Has h n) → LeavesCache no_names None t.cache t.cache c → IsReady t
    → IsReady (record t { heap = h; bounds = b; cache = c })
thinned-at t h b c thin marked left ready = record { whole = λ told. (thin told).whole; marked = marked; cached = (left-ready t b c left ready).cached }

pub thinned-ready : (t u : Told) → HasThinned t u → IsReady t → IsReady u
thinned-ready t u x ready = subst (λ (z : Told). IsReady z) (sym x.same) (thinned-at t u.heap u.bounds u.cache x.thinning x.marked x.cache ready)

-- ---- an object is made

pub set_here : (regs : ℕ → Value) (to : ℕ) (v : Value) → set_register regs to v to ≡ v
set_here regs to v = grind (arith, common_steps)

raised-one : (a b c : Option Bounds) → Raised 0 a b → Raised 1 b c → Raised 1 a c
raised-one None None None x y = tt
raised-one None None (Some c) x y = absurd y
raised-one None (Some b) c x y = absurd x
raised-one (Some a) None c x y = absurd x
raised-one (Some a) (Some b) None x y = absurd y
raised-one (Some a) (Some b) (Some c) x y = (y.0 ∙ x.0, (let p = x.1 in let q = y.1 in omega arith))

made-at : (t : Told) (h : Heap) (b : Option Bounds) (c : Cache) (to class name : ℕ) (what : Making) → SameBounds t.bounds b → Raised 1 t.bounds b → LeavesCache no_names None t.cache t.cache c
    → (IsTrue t.tells → IsThinner (heap_after t.heap t.regs (Make to class what)) h) → (IsTrue t.tells → name ≡ t.heap.next) → (IsTrue t.tells → t.heap.next < LAST_NAME) → IfBounds t.bounds (HasCore t (Make to class what))
    → Accessed {A = Unit {0}} t (record t { heap = h; bounds = b; cache = c; regs = set_register t.regs to (Ref name) }) (Make to class what) (λ _. Nothing) (Ok tt)
made-at t h b c to class name what same counts left thin next low core = record {
  called = record {
    later = record { tells = refl; speaks = refl; bounds = same; refusals = omega arith };
    ok = record {
      regs = ap (λ (w : Value). set_register t.regs to w) (sym (set_here t.regs to (Ref name)));
      brings = λ told. ap (λ (n : ℕ). Some (Ref n)) (sym (next told)) ∙ ap Some (sym (set_here t.regs to (Ref name)));
      slots = refl;
      transcript = λ told. refl;
      heap = thin;
      cache = left;
      counts = counts;
      base = tt;
      refusals = refl;
      last = refl;
    };
    err = tt;
  };
  answer = λ told. refl;
  named = λ make told. low told;
  core = core;
}

made-is : (t u v : Told) (to class : ℕ) (what : Making) → HasThinned t u → (x : HasMade u v to class what) → v ≡ record t { heap = v.heap; bounds = v.bounds; cache = v.cache; regs = set_register t.regs to (Ref x.name) }
made-is t u v to class what thin x = x.same ∙ ap (λ (z : Told). record z { heap = v.heap; bounds = v.bounds; cache = v.cache; regs = set_register z.regs to (Ref x.name) }) thin.same

-- dead objects went, and an object was made
pub made-accessed : (t u v : Told) (to class : ℕ) (what : Making) → HasThinned t u → HasMade u v to class what → (IsTrue t.tells → t.heap.next < LAST_NAME) → IfBounds t.bounds (HasCore t (Make to class what))
    → Accessed {A = Unit {0}} t v (Make to class what) (λ _. Nothing) (Ok tt)
made-accessed t u v to class what thin x low core =
    let tells = thinned-tells t u thin in
    let regs : u.regs ≡ t.regs = ap (λ (z : Told). z.regs) thin.same in
    subst (λ (z : Told). Accessed {A = Unit {0}} t z (Make to class what) (λ _. Nothing) (Ok tt)) (sym (made-is t u v to class what thin x))
    (made-at t v.heap v.bounds v.cache to class x.name what (same-trans t.bounds u.bounds v.bounds thin.bounds x.bounds) (raised-one t.bounds u.bounds v.bounds thin.counts x.counts) (left-trans t.cache u.cache v.cache thin.cache x.cache)
    (λ told. subst (λ (h : Heap). IsThinner (heap_after t.heap t.regs (Make to class what)) h)
    (ap (λ (r : ℕ → Value). heap_after u.heap r (Make to class what)) (sym regs) ∙ sym (x.heap (tells ∙ told)))
    (IsThinner-add_object t.heap u.heap (record { class = name_at (t.regs class); body = body_made what }) (thin.thinning told).thinner))
    (λ told. x.next (tells ∙ told) ∙ (thin.thinning told).thinner.next)
    low core)

-- its register has a name
pub made-name : (u v : Told) (to class : ℕ) (what : Making) → HasMade u v to class what → IsRef (v.regs to)
made-name u v to class what x = subst (λ (w : Value). IsRef w) (sym (ap (λ (z : Told). z.regs to) x.same ∙ set_here u.regs to (Ref x.name))) (ref-is x.name)
  where
    ref-is : (n : ℕ) → IsRef (Ref n)
    ref-is n = tt

made-whole : (u : Told) (to class name : ℕ) (what : Making) (h : Heap) → IsWhole u.heap u.regs u.slots → h ≡ heap_after u.heap u.regs (Make to class what) → name ≡ u.heap.next → IsWhole h (set_register u.regs to (Ref name)) u.slots
made-whole u to class name what h whole is same =
    subst (λ (g : Heap). IsWhole g (set_register u.regs to (Ref name)) u.slots) (sym is)
    (subst (λ (n : ℕ). IsWhole (heap_after u.heap u.regs (Make to class what)) (set_register u.regs to (Ref n)) u.slots) (sym same)
    (whole-after u.heap u.regs u.slots whole (Make to class what) tt))

has-more : (h : Heap) (o : Object) (n : ℕ) → Has h n → Has (add_object h o) n
has-more h o n has = go (eqb n h.next) refl
  where
    go : (b : Bool) → eqb n h.next ≡ b → Has (add_object h o) n
    go true e = ap (λ (b : Bool). is_some (Rattle.std.proofs.Common.cond b (Some o) (h.at n))) e
    go false e = ap (λ (b : Bool). is_some (Rattle.std.proofs.Common.cond b (Some o) (h.at n))) e ∙ has

pub made-ready : (u v : Told) (to class : ℕ) (what : Making) → HasMade u v to class what → IsReady u → IsReady v
made-ready u v to class what x ready =
    let left = left-ready u v.bounds v.cache x.cache ready in
    subst (λ (z : Told). IsReady z) (sym x.same) (record {
      whole = λ told. made-whole u to class x.name what v.heap (ready.whole told) (x.heap told) (x.next told);
      marked = λ told n on. subst (λ (h : Heap). Has h n) (sym (x.heap told)) (has-more u.heap (record { class = name_at (u.regs class); body = body_made what }) n (left.marked told n on));
      cached = left.cached;
    })

-- ---- a refusal

-- dead objects went, and the making is refused, for whatever cause it has, seen from before
pub making-refused : (t u w : Told) (to class : ℕ) (what : Making) (f : MemFault) → HasThinned t u → w ≡ refused u f → IsReady t → t.refusals ≤ counted t.refusals → (IsTrue t.tells → LAST_NAME ≤ t.heap.next → f ≡ NamesSpent)
    → HasCause t w (Does (Make to class what)) f → IsRefused t w (Make to class what) f
making-refused t u w to class what f thin is ready later spent cause =
    let now = thinned-at t u.heap u.bounds u.cache thin.thinning thin.marked thin.cache ready in
    let last : w ≡ refused (record t { heap = u.heap; bounds = u.bounds; cache = u.cache }) f = is ∙ ap (λ (z : Told). refused z f) thin.same in
    subst (λ (z : Told). IsRefused t z (Make to class what) f) (sym last) (
      record { tells = refl; speaks = refl; bounds = thin.bounds; refusals = later },
      record {
        rose = omega arith;
        last = refl;
        cause = subst (λ (z : Told). HasCause t z (Does (Make to class what)) f) last cause;
        spent = λ make told past. spent told past;
        counts = thin.counts;
        transcript = λ told. refl;
        left = leaves f _ record { regs = refl; slots = refl; heap = λ told. (thin.thinning told).thinner; ready = refused-ready (record t { heap = u.heap; bounds = u.bounds; cache = u.cache }) f now; cache = thin.cache };
      },
    )

-- the need of a making is the same in a thinner heap
pub need-thinned : (t u : Told) (to class : ℕ) (what : Making) → HasThinned t u → IsTrue t.tells → need_of_access u (Make to class what) ≡ need_of_access t (Make to class what)
need-thinned t u to class what thin told = ap (λ (z : Told). need_of_access z (Make to class what)) thin.same ∙ go (thin.thinning told)
  where
    go : IsThinning t.heap u.heap t.regs t.slots → need_of_access (record t { heap = u.heap; bounds = u.bounds; cache = u.cache }) (Make to class what) ≡ need_of_access t (Make to class what)
    go x =
        let words = words-same t.heap u.heap t.regs t.slots x (Make to class what) tt in
        let entries = entries-same t.heap u.heap t.regs t.slots x (Make to class what) in
        let next = x.thinner.next in
        λ i. record { object = next i; words = sym words i; entries = sym entries i }

-- and so is what its object needs alone
pub core-thinned : (t u : Told) (to class : ℕ) (what : Making) → HasThinned t u → IfBounds u.bounds (HasCore u (Make to class what)) → IfBounds t.bounds (HasCore t (Make to class what))
core-thinned t u to class what thin core = go t.bounds u.bounds thin.bounds core
  where
    go : (a b : Option Bounds) → SameBounds a b → IfBounds b (HasCore u (Make to class what)) → IfBounds a (HasCore t (Make to class what))
    go None b same core = tt
    go (Some a) None same core = absurd same
    go (Some a) (Some b) same core = let most = core in let size = same.0 in omega (arith, most, size)

-- a refusal that comes after dead objects went
faults-below : (a b : Option Bounds) → SameBounds a b → work_faults a ≤ work_faults b
faults-below None None x = omega arith
faults-below None (Some b) x = absurd x
faults-below (Some a) None x = absurd x
faults-below (Some a) (Some b) x = x.3

pub left-thinned : (t u w : Told) → HasThinned t u → IsLeft u w → IsLeft t w
left-thinned t u w thin x = record {
  regs = x.regs ∙ ap (λ (z : Told). z.regs) thin.same;
  slots = x.slots ∙ ap (λ (z : Told). z.slots) thin.same;
  heap = λ told. IsThinner-trans t.heap u.heap w.heap (thin.thinning told).thinner (x.heap (thinned-tells t u thin ∙ told)) (thin.thinning told).whole.closed;
  ready = x.ready;
  cache = left-trans t.cache u.cache w.cache thin.cache x.cache;
}

pub leaves-thinned : (t u w : Told) (f : MemFault) → HasThinned t u → LeavesAll f (IsLeft u w) → LeavesAll f (IsLeft t w)
leaves-thinned t u w (CoreFull need) thin x = left-thinned t u w thin x
leaves-thinned t u w (WorkFull live room) thin x = left-thinned t u w thin x
leaves-thinned t u w (WorkFault count) thin x = tt
leaves-thinned t u w (Damaged place name) thin x = tt
leaves-thinned t u w NamesSpent thin x = left-thinned t u w thin x
leaves-thinned t u w (Said count) thin x = left-thinned t u w thin x
leaves-thinned t u w Memory thin x = left-thinned t u w thin x

cause-thinned : (t u w : Told) (to class : ℕ) (what : Making) (f : MemFault) → HasThinned t u → ((live room : ℕ) → f ≡ WorkFull live room → ⊥) → HasCause u w (Does (Make to class what)) f → HasCause t w (Does (Make to class what)) f
cause-thinned t u w to class what (CoreFull need) thin other cause = (cause.0, λ told. cause.1 (thinned-tells t u thin ∙ told) ∙ need-thinned t u to class what thin told)
cause-thinned t u w to class what (WorkFull live room) thin other cause = absurd (other live room refl)
cause-thinned t u w to class what (WorkFault count) thin other cause = (cause.0, (let rose = cause.1 in let low = faults-below t.bounds u.bounds thin.bounds in omega (arith, rose, low)))
cause-thinned t u w to class what (Damaged place name) thin other cause = λ told. cause (thinned-tells t u thin ∙ told)
cause-thinned t u w to class what NamesSpent thin other cause = (cause.0, λ told. let past = cause.1 (thinned-tells t u thin ∙ told) in let next = (thin.thinning told).thinner.next in omega (arith, past, next))
cause-thinned t u w to class what (Said count) thin other cause = absurd cause.2
cause-thinned t u w to class what Memory thin other cause = cause

pub after-thinned : (t u w : Told) (to class : ℕ) (what : Making) (f : MemFault) → HasThinned t u → ((live room : ℕ) → f ≡ WorkFull live room → ⊥) → IsRefused u w (Make to class what) f → IsRefused t w (Make to class what) f
after-thinned t u w to class what f thin other both =
    let tells = thinned-tells t u thin in
    let speaks : u.speaks ≡ t.speaks = ap (λ (z : Told). z.speaks) thin.same in
    let said : u.transcript ≡ t.transcript = ap (λ (z : Told). z.transcript) thin.same in
    let times_ : u.refusals ≡ t.refusals = ap (λ (z : Told). z.refusals) thin.same in (
      record { tells = both.0.tells ∙ tells; speaks = both.0.speaks ∙ speaks; bounds = same-trans t.bounds u.bounds w.bounds thin.bounds both.0.bounds; refusals = (let low = both.0.refusals in omega (arith, low, times_)) },
      record {
        rose = subst (λ (n : ℕ). Rose n w.refusals) times_ both.1.rose;
        last = both.1.last;
        cause = cause-thinned t u w to class what f thin other both.1.cause;
        spent = λ make told past. both.1.spent make (tells ∙ told) (let next = (thin.thinning told).thinner.next in omega (arith, past, next));
        counts = raised-trans t.bounds u.bounds w.bounds thin.counts both.1.counts;
        transcript = λ told. both.1.transcript (speaks ∙ told) ∙ said;
        left = leaves-thinned t u w f thin both.1.left;
      },
    )

-- ---- the last step

not-full : (f : MemFault) → IsNotFull f → (live room : ℕ) → f ≡ WorkFull live room → ⊥
not-full f other live room is = subst (λ (g : MemFault). IsNotFull g) is other

pub quiet-made : (t u v : Told) (to class : ℕ) (what : Making) → IsQuiet t u → HasMade u v to class what → HasMade t v to class what
quiet-made t u v to class what quiet x =
    let tells : u.tells ≡ t.tells = ap (λ (z : Told). z.tells) quiet.same in
    record {
      name = x.name;
      same = x.same ∙ ap (λ (z : Told). record z { heap = v.heap; bounds = v.bounds; cache = v.cache; regs = set_register z.regs to (Ref x.name) }) quiet.same;
      heap = λ told. x.heap (tells ∙ told) ∙ ap (λ (z : Told). heap_after z.heap z.regs (Make to class what)) quiet.same;
      next = λ told. x.next (tells ∙ told) ∙ ap (λ (z : Told). z.heap.next) quiet.same;
      cache = left-trans t.cache u.cache v.cache quiet.cache x.cache;
      bounds = same-trans t.bounds u.bounds v.bounds quiet.bounds x.bounds;
      counts = raised-one t.bounds u.bounds v.bounds quiet.counts x.counts;
    }

pub made-if : (r : Result (Unit {0}) MemFault) (t u v : Told) (to class : ℕ) (what : Making) → IsQuiet t u → OnOk r (HasMade u v to class what) → OnOk r (HasMade t v to class what)
made-if (Ok x) t u v to class what quiet made = quiet-made t u v to class what quiet made
made-if (Err f) t u v to class what quiet made = tt

pub refused-if : (r : Result (Unit {0}) MemFault) (t u v : Told) (to class : ℕ) (what : Making) → HasThinned t u → IfErr r (IsRefusedAs u v to class what) → IfErr r IsNotFull → IfErr r (IsRefusedAs t v to class what)
refused-if (Ok x) t u v to class what thin err other = tt
refused-if (Err f) t u v to class what thin err other = λ low.
    after-thinned t u v to class what f thin (not-full f other) (err (λ told. let told' : IsTrue t.tells = sym (thinned-tells t u thin) ∙ told in let less = low told' in let same = (thin.thinning told').thinner.next in omega (arith, less, same)))

pub refused-each : (r : Result (Unit {0}) MemFault) (u v : Told) (to class : ℕ) (what : Making) → IfErr r (IsRefusedMaking u v) → IfErr r (IsRefusedAs u v to class what)
refused-each (Ok x) u v to class what err = tt
refused-each (Err f) u v to class what err = λ low. err to class what low

-- the whole making
pub made-last : (r : Result (Unit {0}) MemFault) (t u v : Told) (to class : ℕ) (what : Making) → HasThinned t u → OnOk r (HasMade u v to class what) → IfErr r (IsRefusedAs u v to class what) → IfErr r IsNotFull → (IsTrue t.tells → t.heap.next < LAST_NAME)
    → OnOk r (IfBounds u.bounds (HasCore u (Make to class what))) → Accessed {A = Unit {0}} t v (Make to class what) (λ _. Nothing) r
made-last (Ok x) t u v to class what thin made err other low core = made-accessed t u v to class what thin made low (core-thinned t u to class what thin core)
made-last (Err f) t u v to class what thin made err other low core = refused-is t v (Make to class what) (λ _. Nothing) f (refused-if (Err f) t u v to class what thin err other low)

pub made-named : (r : Result (Unit {0}) MemFault) (u v : Told) (to class : ℕ) (what : Making) → OnOk r (HasMade u v to class what) → OnOk r (IsRef (v.regs to))
made-named (Ok x) u v to class what made = made-name u v to class what made
made-named (Err f) u v to class what made = tt

pub made-now : (r : Result (Unit {0}) MemFault) (u v : Told) (to class : ℕ) (what : Making) → OnOk r (HasMade u v to class what) → IsReady u → OnOk r (IsReady v)
made-now (Ok x) u v to class what made ready = made-ready u v to class what made ready
made-now (Err f) u v to class what made ready = tt

-- the register has the name of what was made
pub made-ref : (r : Result (Unit {0}) MemFault) (u v : Told) (to class : ℕ) (what : Making) → OnOk r (HasMade u v to class what) → OnOk r (IsRef (v.regs to))
made-ref (Ok x) u v to class what made = made-name u v to class what made
made-ref (Err f) u v to class what made = tt

-- a refusal for want of room in the core, for a making of so many words
pub full-as : (t u : Told) (to class : ℕ) (what : Making) (words : ℕ) (f : MemFault) → IsFullMaking t u words f → words ≡ 4 + body_words (body_made what) → IsRefusedAs t u to class what f
full-as t u to class what words f full size = λ low. full to class what size low

pub after-quiet-as : (t u v : Told) (to class : ℕ) (what : Making) (f : MemFault) → IsQuiet t u → IsReady t → IsNotFull f → IsRefusedAs u v to class what f → IsRefusedAs t v to class what f
after-quiet-as t u v to class what f quiet ready other it = refused-if (Err f) t u v to class what (quiet-thinned t u quiet ready) it other
