-- A call that is refused after reads is refused as it would have been before them, and reads of one object are one.
use Rattle.std.proofs.Common.{◌≡◌, ◌≢◌, ℕ, ◌+◌, ◌≤◌, Bool, true, ◌||◌, List, [], ◌++◌, Option, Some, None, Result, Ok, Err, IsTrue, inl, inr, refl, sym, ◌∙◌, ap, subst, arith}
use Rattle.std.specs.Result.{IsErrAnd}
use Rattle.std.proofs.lemmas.Grind.{common_steps}
use Rattle.long_names.specs.declared.value.Value.{Value}
use Rattle.long_names.specs.declared.value.Value.TheVariants.{Int, Ref}
use Rattle.long_names.specs.declared.object.Kind.{Kind}
use Rattle.long_names.specs.declared.limits.TheConstants.{LAST_NAME, REGISTERS, SLOTS}
use Rattle.long_names.specs.Counting.{Rose}
use Rattle.long_names.specs.Objects.{is_ref, kind_of}
use Rattle.long_names.specs.Heap.{Heap, Has, object_count}
use Rattle.long_names.specs.Kept.{any_below, kept}
use Rattle.long_names.specs.State.{IsRef}
use Rattle.long_names.specs.Access.{Access, KindOf, Length, Header, Word, Byte, ReadWords, ReadBytes, Say, Swap, CanDo, object_of, other_object_of, OfKind, made_by, with_made, said_by}
use Rattle.long_names.specs.Need.{words_of_row, entries_of_row, is_pinned, words_named}
use Rattle.long_names.specs.Thin.{IsThinning}
use Rattle.long_names.proofs.ThinLemmas.{IsThinner-trans, IsWhole-bounded, or_cases}
use Rattle.long_names.proofs.KeptLaws.{any_below-at, kept-thinning}
use Rattle.long_names.proofs.AccessLaws.{object_of-same, words-same, entries-same, other_object_of-same, other_words-same, other_entries-same, said-same}
use Rattle.object_memory.specs.declared.fault.Need.{Need}
use Rattle.object_memory.specs.declared.fault.MemFault.{MemFault}
use Rattle.object_memory.specs.declared.fault.MemFault.TheVariants.{CoreFull, WorkFull, WorkFault, Damaged, NamesSpent, Said, Memory}
use Rattle.object_memory.specs.Told.{Told, Bounds, IsReady, is_root}
use Rattle.object_memory.specs.Contract.{Does, ForBounds, SameBounds, Raised, Lives, HasCause, IsMaking, IsSaying, TakesMemory, work_faults, said_faults, need_of_access, need_of_other, IsNeedOf, no_names, SaysRefused, LeavesAll, IsLeft, Refuses, Follows, Called, Accessed, IfBounds, HasCore}
use Rattle.object_memory.specs.Shape.{Looks, ReadsObject}
use Rattle.object_memory.proofs.Callers.{any_there}
use Rattle.object_memory.proofs.LaterLaws.{IsLater-refl, IsLater-trans, Raised-then, store_then}
use Rattle.object_memory.proofs.LooksLaws.{Looks-refl, Looks-trans, Looks-access, Looks-read, regs_looked}

-- the register whose object it reads, where it fills no register and changes nothing
abbrev pub only_reads : Access → Option ℕ
only_reads (KindOf of) = Some of
only_reads (Length of) = Some of
only_reads (Header of) = Some of
only_reads (Word of i) = Some of
only_reads (Byte of i) = Some of
only_reads (ReadWords of at count) = Some of
only_reads (ReadBytes of at count) = Some of
only_reads _ = None

-- ---- the cause

-- what reads leave of heap, registers and slots
thin_after : (a b : Told) → IsReady b → Looks [] a b → IsTrue a.tells → IsThinning a.heap b.heap b.regs b.slots
thin_after a b ready x told = record { thinner = x.heap told; whole = ready.whole (x.later.tells ∙ told) }

-- the need of an access, by the parts of the state
abbrev pub need_at : Heap → (ℕ → Value) → (ℕ → Option ℕ) → Access → Need
need_at h regs slots x = record { object = object_of h regs x; words = words_of_row (with_made h (made_by regs x)) (record { object = object_of h regs x; slots = slots }); entries = entries_of_row (with_made h (made_by regs x)) (record { object = object_of h regs x; slots = slots }) }

need_of : ℕ → ℕ → ℕ → Need
need_of object words entries = record { object = object; words = words; entries = entries }

needs_same : (o p w v e f : ℕ) → o ≡ p → w ≡ v → e ≡ f → need_of o w e ≡ need_of p v f
needs_same o p w v e f a b c = cc

pub need_after : (a b : Told) (x : Access) → IsReady b → Looks [] a b → IsTrue a.tells → CanDo b.heap b.regs x → need_of_access b x ≡ need_of_access a x
unfolding need_of
need_after a b x ready l told can =
    let thin = thin_after a b ready l told in
    let same : need_at a.heap b.regs b.slots x ≡ need_at b.heap b.regs b.slots x = needs_same _ _ _ _ _ _ (object_of-same a.heap b.heap b.regs (l.heap told) x) (words-same a.heap b.heap b.regs b.slots thin x can) (entries-same a.heap b.heap b.regs b.slots thin x) in
    sym same ∙ ap (λ (regs : ℕ → Value). need_at a.heap regs b.slots x) (regs_looked a b l) ∙ ap (λ (slots : ℕ → Option ℕ). need_at a.heap a.regs slots x) l.slots

-- the need of its other row
other_at : Heap → (ℕ → Value) → (ℕ → Option ℕ) → Access → Need
other_at h regs slots x = record { object = other_object_of h regs x; words = words_of_row (with_made h (made_by regs x)) (record { object = other_object_of h regs x; slots = slots }); entries = entries_of_row (with_made h (made_by regs x)) (record { object = other_object_of h regs x; slots = slots }) }

other_after : (a b : Told) (x : Access) → IsReady b → Looks [] a b → IsTrue a.tells → CanDo b.heap b.regs x → need_of_other b x ≡ need_of_other a x
unfolding need_of other_at
other_after a b x ready l told can =
    let thin = thin_after a b ready l told in
    let same : other_at a.heap b.regs b.slots x ≡ other_at b.heap b.regs b.slots x = needs_same _ _ _ _ _ _ (other_object_of-same a.heap b.heap b.regs (l.heap told) x) (other_words-same a.heap b.heap b.regs b.slots thin x can) (other_entries-same a.heap b.heap b.regs b.slots thin x) in
    sym same ∙ ap (λ (regs : ℕ → Value). other_at a.heap regs b.slots x) (regs_looked a b l) ∙ ap (λ (slots : ℕ → Option ℕ). other_at a.heap a.regs slots x) l.slots

-- the need of one of its rows is as before the reads
is_need_after : (a b : Told) (x : Access) (need : Need) → IsReady b → Looks [] a b → IsTrue a.tells → CanDo b.heap b.regs x → IsNeedOf b x need → IsNeedOf a x need
is_need_after a b (Swap p q) need ready l told can (inl e) = inl (e ∙ need_after a b (Swap p q) ready l told can)
is_need_after a b (Swap p q) need ready l told can (inr e) = inr (e ∙ other_after a b (Swap p q) ready l told can)
is_need_after a b x need ready l told can e = e ∙ need_after a b x ready l told can

-- roots, by registers and slots
abbrev pub root_of : (ℕ → Value) → (ℕ → Option ℕ) → ℕ → Bool
root_of regs slots n = any_below REGISTERS (λ r. is_ref n (regs r)) || any_below SLOTS (λ i. is_pinned n (slots i))

root-there : (t : Told) → IsReady t → IsTrue t.tells → (n : ℕ) → is_root t n ≡ true → Has t.heap n
root-there t ready told n is = elim (or_cases (any_below REGISTERS (λ r. is_ref n (t.regs r))) (any_below SLOTS (λ i. is_pinned n (t.slots i))) is) [ inl e ↦ (let at = any_below-at REGISTERS (λ r. is_ref n (t.regs r)) e in (ready.whole told).rooted at.0 n (named (t.regs at.0) at.1)) | inr e ↦ (let at = any_below-at SLOTS (λ i. is_pinned n (t.slots i)) e in (ready.whole told).pinned at.0 n (pinned (t.slots at.0) at.1)) ]
  where
    named : (v : Value) → is_ref n v ≡ true → v ≡ Ref n
    named (Int z) e = cc
    named (Ref k) e = let same : k ≡ n = grind (arith, common_steps, e) in ap (λ q. Ref q) same

    pinned : (o : Option ℕ) → is_pinned n o ≡ true → o ≡ Some n
    pinned None e = cc
    pinned (Some k) e = let same : k ≡ n = grind (arith, common_steps, e) in ap (λ q. Some q) same

kept_after : (a b : Told) → IsReady a → IsReady b → Looks [] a b → IsTrue a.tells → kept b.heap (is_root b) ≡ kept a.heap (is_root a)
kept_after a b before ready l told =
    let now = l.later.tells ∙ told in
    let whole = before.whole told in
    kept-thinning a.heap b.heap b.regs b.slots (is_root b) (thin_after a b ready l told) (IsWhole-bounded a.heap a.regs a.slots whole) (root-there b ready now)
    ∙ ap (λ (regs : ℕ → Value). kept a.heap (root_of regs b.slots)) (regs_looked a b l)
    ∙ ap (λ (slots : ℕ → Option ℕ). kept a.heap (root_of a.regs slots)) l.slots

lives_after : (a b : Told) (live : ℕ) → IsReady a → IsReady b → Looks [] a b → (x y : Option Bounds) → Raised 0 x y → ForBounds y (λ k. Lives b k live) → ForBounds x (λ k. Lives a k live)
lives_after a b live before ready l None None r lives = absurd lives
lives_after a b live before ready l None (Some y) r lives = absurd r
lives_after a b live before ready l (Some x) None r lives = absurd r
lives_after a b live before ready l (Some x) (Some y) r lives = elim lives [
  | inl k ↦ inl (k.0, sym r.0 ∙ k.1, (let made : y.made ≡ x.made = omega (arith, r.1) in k.2 ∙ ap (λ n. k.0 + n + 1) made))
  | inr k ↦ inr ((let made : y.made ≡ x.made = omega (arith, r.1) in subst (λ n. 8 ≤ n) made k.0), λ told. k.1 (l.later.tells ∙ told) ∙ ap (λ h. object_count h + 1) (kept_after a b before ready l told))
]

rose_after : (g : Option Bounds → ℕ) → ((x y : Option Bounds) → SameBounds x y → g x ≤ g y) → (x y z : Option Bounds) → SameBounds x y → Rose (g y) (g z) → Rose (g x) (g z)
rose_after g up x y z same rose = let low = up x y same in omega arith

work_up : (x y : Option Bounds) → SameBounds x y → work_faults x ≤ work_faults y
work_up None None same = omega arith
work_up None (Some y) same = absurd same
work_up (Some x) None same = absurd same
work_up (Some x) (Some y) same = same.3

said_up : (x y : Option Bounds) → SameBounds x y → said_faults x ≤ said_faults y
said_up None None same = omega arith
said_up None (Some y) same = absurd same
said_up (Some x) None same = absurd same
said_up (Some x) (Some y) same = same.4

cause_after : (a b c : Told) (x : Access) (f : MemFault) → IsReady a → IsReady b → (IsTrue b.tells → CanDo b.heap b.regs x) → Looks [] a b → HasCause b c (Does x) f → HasCause a c (Does x) f
cause_after a b c x (CoreFull need) before ready can l cause = (cause.0, λ told. (let now = l.later.tells ∙ told in is_need_after a b x need ready l told (can now) (cause.1 now)))
cause_after a b c x (WorkFull live room) before ready can l cause = (cause.0, lives_after a b live before ready l a.bounds b.bounds l.counts cause.1, cause.2)
cause_after a b c x (WorkFault count) before ready can l cause = (cause.0, rose_after work_faults work_up a.bounds b.bounds c.bounds l.later.bounds cause.1)
cause_after a b c x (Damaged place name) before ready can l cause = λ told. cause (l.later.tells ∙ told)
cause_after a b c x NamesSpent before ready can l cause = (cause.0, λ told. subst (λ n. LAST_NAME ≤ n) (l.heap told).next (cause.1 (l.later.tells ∙ told)))
cause_after a b c x (Said count) before ready can l cause = (cause.0, rose_after said_faults said_up a.bounds b.bounds c.bounds l.later.bounds cause.1, cause.2)
cause_after a b c x Memory before ready can l cause = cause

-- ---- the transcript, and what is left

said_after : (a b c : Told) (of : ℕ) → (IsTrue b.tells → IsThinning a.heap b.heap b.regs b.slots) → Looks [] a b → (IsTrue b.speaks → (z rest : List ℕ) × (c.transcript ≡ b.transcript ++ z) × (IsTrue b.tells → (said_by b.heap b.regs (Say of) ≡ Some (z ++ rest)) × (z ++ rest ≢ []))) → IsTrue a.speaks → (z rest : List ℕ) × (c.transcript ≡ a.transcript ++ z) × (IsTrue a.tells → (said_by a.heap a.regs (Say of) ≡ Some (z ++ rest)) × (z ++ rest ≢ []))
said_after a b c of thin l said speaks =
    let now = said (l.later.speaks ∙ speaks) in (
      now.0,
      now.1,
      now.2 ∙ ap (λ s. s ++ now.0) (l.transcript speaks),
      λ told. (let after = l.later.tells ∙ told in let it = now.3 after in (ap (λ (regs : ℕ → Value). said_by a.heap regs (Say of)) (sym (regs_looked a b l)) ∙ said-same a.heap b.heap b.regs b.slots (thin after) (Say of) ∙ it.0, it.1)),
    )

silent_after : (a b c : Told) → Looks [] a b → (IsTrue b.speaks → c.transcript ≡ b.transcript) → IsTrue a.speaks → c.transcript ≡ a.transcript
silent_after a b c l silent speaks = silent (l.later.speaks ∙ speaks) ∙ l.transcript speaks

says_after : (a b c : Told) (x : Access) (f : MemFault) → IsReady b → Looks [] a b → SaysRefused (Does x) b c f → SaysRefused (Does x) a c f
says_after a b c (Say of) (Said count) ready l says = said_after a b c of (λ told. thin_after a b ready l (sym l.later.tells ∙ told)) l says
says_after a b c (Say of) (CoreFull need) ready l says = silent_after a b c l says
says_after a b c (Say of) (WorkFull live room) ready l says = silent_after a b c l says
says_after a b c (Say of) (WorkFault count) ready l says = silent_after a b c l says
says_after a b c (Say of) (Damaged place name) ready l says = silent_after a b c l says
says_after a b c (Say of) NamesSpent ready l says = silent_after a b c l says
says_after a b c (Say of) Memory ready l says = silent_after a b c l says
says_after a b c _ f ready l says = silent_after a b c l says

LeavesAll-map : {P Q : Type 0} (f : MemFault) → (P → Q) → LeavesAll f P → LeavesAll f Q
LeavesAll-map (WorkFault count) g p = tt
LeavesAll-map (Damaged place name) g p = tt
LeavesAll-map (CoreFull need) g p = g p
LeavesAll-map (WorkFull live room) g p = g p
LeavesAll-map NamesSpent g p = g p
LeavesAll-map (Said count) g p = g p
LeavesAll-map Memory g p = g p

left_after : (a b c : Told) → IsReady b → Looks [] a b → IsLeft b c → IsLeft a c
left_after a b c ready l left = record {
  regs = left.regs ∙ regs_looked a b l;
  slots = left.slots ∙ l.slots;
  heap = λ told. (let now = l.later.tells ∙ told in IsThinner-trans a.heap b.heap c.heap (l.heap told) (left.heap now) (ready.whole now).closed);
  ready = left.ready;
  cache = store_then no_names a.cache b.cache c.cache l.cache left.cache;
}

-- ---- the laws

-- An access that is refused after reads is refused as before them.
pub refused_after : (a b c : Told) (x : Access) (f : MemFault) → IsReady a → IsReady b → (IsTrue b.tells → CanDo b.heap b.regs x) → Looks [] a b → Refuses b c (Does x) f → Refuses a c (Does x) f
refused_after a b c x f before ready can l r = record {
  rose = subst (λ n. Rose n c.refusals) l.refusals r.rose;
  last = r.last;
  cause = cause_after a b c x f before ready can l r.cause;
  spent = λ making told past. (let now = l.later.tells ∙ told in r.spent making now (subst (λ n. LAST_NAME ≤ n) (sym (l.heap told).next) past));
  counts = Raised-then 0 0 a.bounds b.bounds c.bounds l.counts r.counts;
  transcript = says_after a b c x f ready l r.transcript;
  left = LeavesAll-map f (left_after a b c ready l) r.left;
}

-- What only reads the object of a register is answered as a call that asks for its kind,
pub answered_as_kind : (old new : Told) (of : ℕ) → Looks [] old new → Follows old new (Does (KindOf of))
answered_as_kind old new of l = record { regs = regs_looked old new l; brings = λ told. refl; slots = l.slots; transcript = l.transcript; heap = l.heap; cache = l.cache; counts = l.counts; base = tt; refusals = l.refusals; last = l.last }

-- the cause of a read, whose need is that of asking for the kind
cause_as_kind : (old new : Told) (a : Access) (of : ℕ) (f : MemFault) → ((need : Need) → IsNeedOf old a need → need ≡ need_of_access old (KindOf of)) → (IsMaking (Does a) → ⊥) → (IsSaying (Does a) → ⊥) → (TakesMemory (Does a) → ⊥) → HasCause old new (Does a) f → HasCause old new (Does (KindOf of)) f
cause_as_kind old new a of (CoreFull need) same making saying takes cause = (cause.0, λ told. same need (cause.1 told))
cause_as_kind old new a of (WorkFull live room) same making saying takes cause = absurd (making cause.2)
cause_as_kind old new a of (WorkFault count) same making saying takes cause = cause
cause_as_kind old new a of (Damaged place name) same making saying takes cause = cause
cause_as_kind old new a of NamesSpent same making saying takes cause = absurd (making cause.0)
cause_as_kind old new a of (Said count) same making saying takes cause = absurd (saying cause.2)
cause_as_kind old new a of Memory same making saying takes cause = absurd (takes cause.1)

inside : {p q : ℕ} → Some p ≡ Some q → p ≡ q
inside e = cc

none : 1 ≤ 0 → ⊥
none low = absurd (omega arith)

pub refused_as_kind : (old new : Told) (a : Access) (of : ℕ) (f : MemFault) → only_reads a ≡ Some of → Refuses old new (Does a) f → Refuses old new (Does (KindOf of)) f
refused_as_kind old new (KindOf r) of f e x = subst (λ q. Refuses old new (Does (KindOf q)) f) (inside e) (record { rose = x.rose; last = x.last; cause = cause_as_kind old new (KindOf r) r f (λ need e. e) none (λ s. s) (λ s. s) x.cause; spent = x.spent; counts = x.counts; transcript = x.transcript; left = x.left })
refused_as_kind old new (Length r) of f e x = subst (λ q. Refuses old new (Does (KindOf q)) f) (inside e) (record { rose = x.rose; last = x.last; cause = cause_as_kind old new (Length r) r f (λ need e. e) none (λ s. s) (λ s. s) x.cause; spent = x.spent; counts = x.counts; transcript = x.transcript; left = x.left })
refused_as_kind old new (Header r) of f e x = subst (λ q. Refuses old new (Does (KindOf q)) f) (inside e) (record { rose = x.rose; last = x.last; cause = cause_as_kind old new (Header r) r f (λ need e. e) none (λ s. s) (λ s. s) x.cause; spent = x.spent; counts = x.counts; transcript = x.transcript; left = x.left })
refused_as_kind old new (Word r i) of f e x = subst (λ q. Refuses old new (Does (KindOf q)) f) (inside e) (record { rose = x.rose; last = x.last; cause = cause_as_kind old new (Word r i) r f (λ need e. e) none (λ s. s) (λ s. s) x.cause; spent = x.spent; counts = x.counts; transcript = x.transcript; left = x.left })
refused_as_kind old new (Byte r i) of f e x = subst (λ q. Refuses old new (Does (KindOf q)) f) (inside e) (record { rose = x.rose; last = x.last; cause = cause_as_kind old new (Byte r i) r f (λ need e. e) none (λ s. s) (λ s. s) x.cause; spent = x.spent; counts = x.counts; transcript = x.transcript; left = x.left })
refused_as_kind old new (ReadWords r at count) of f e x = subst (λ q. Refuses old new (Does (KindOf q)) f) (inside e) (record { rose = x.rose; last = x.last; cause = cause_as_kind old new (ReadWords r at count) r f (λ need e. e) none (λ s. s) (λ s. s) x.cause; spent = x.spent; counts = x.counts; transcript = x.transcript; left = x.left })
refused_as_kind old new (ReadBytes r at count) of f e x = subst (λ q. Refuses old new (Does (KindOf q)) f) (inside e) (record { rose = x.rose; last = x.last; cause = cause_as_kind old new (ReadBytes r at count) r f (λ need e. e) none (λ s. s) (λ s. s) x.cause; spent = x.spent; counts = x.counts; transcript = x.transcript; left = x.left })
refused_as_kind old new _ of f e x = let no : ◌≡◌ {A = Option ℕ} None (Some of) = e in cc

-- a read that was answered
read_further : {Z : Type 0} {z : Z} (old new : Told) (a : Access) (of : ℕ) → only_reads a ≡ Some of → Called old new (Does a) (Ok z) → Looks [] old new
read_further old new (KindOf r) of e called = Looks-access old new (KindOf r) refl called
read_further old new (Length r) of e called = Looks-access old new (Length r) refl called
read_further old new (Header r) of e called = Looks-access old new (Header r) refl called
read_further old new (Word r i) of e called = Looks-access old new (Word r i) refl called
read_further old new (Byte r i) of e called = Looks-access old new (Byte r i) refl called
read_further old new (ReadWords r at count) of e called = Looks-access old new (ReadWords r at count) refl called
read_further old new (ReadBytes r at count) of e called = Looks-access old new (ReadBytes r at count) refl called
read_further old new _ of e called = let no : ◌≡◌ {A = Option ℕ} None (Some of) = e in cc

-- ---- reads of one object

-- a number's object has no words
core_of_number : (t : Told) (of : ℕ) → (IsRef (t.regs of) → ⊥) → IfBounds t.bounds (HasCore t (KindOf of))
core_of_number t of number = go t.bounds
  where
    few : (v : Value) (n : ℕ) → (IsRef v → ⊥) → words_named t.heap v ≤ n
    few (Int z) n number = omega arith
    few (Ref k) n number = absurd (number tt)

    go : (b : Option Bounds) → IfBounds b (HasCore t (KindOf of))
    go None = tt
    go (Some b) = λ told. few (t.regs of) b.core number

-- nothing was read, since the register holds a number
pub read_none : {A : Type 0} (t : Told) (of : ℕ) (x : A) → (IsRef (t.regs of) → ⊥) → ReadsObject t t of (Ok x)
read_none t of x number = record { called = record { later = IsLater-refl t; ok = answered_as_kind t t of (Looks-refl t); err = tt }; core = core_of_number t of number; named = tt }

-- the first read
pub read_first : {A : Type 0} (a b : Told) (of : ℕ) (k : Kind) (x : A) → Accessed a b (KindOf of) OfKind (Ok k) → ReadsObject a b of (Ok x)
read_first a b of k x access = record { called = record { later = access.called.later; ok = access.called.ok; err = tt }; core = access.core; named = tt }

pub read_first_err : {A : Type 0} (a b : Told) (of : ℕ) (f : MemFault) (r : Result A MemFault) → IsErrAnd r (λ e. e ≡ f) → IsRef (a.regs of) → Accessed a b (KindOf of) OfKind (Err f) → ReadsObject a b of r
read_first_err a b of f (Ok z) is ref access = absurd is
read_first_err a b of f (Err g) is ref access = record { called = record { later = access.called.later; ok = tt; err = subst (λ h. Refuses a b (Does (KindOf of)) h) (sym is) access.called.err }; core = tt; named = ref }

-- reads, and one more that was answered
pub read_ok : {A B C : Type 0} {first : C} {y : B} (a b c : Told) (of : ℕ) (x : Access) (z : A) → IsReady b → ReadsObject a b of (Ok first) → only_reads x ≡ Some of → Called b c (Does x) (Ok y) → ReadsObject a c of (Ok z)
read_ok a b c of x z ready before e called =
    let all = Looks-trans [] [] a b c ready (Looks-read a b of before) (read_further b c x of e called) in
    record { called = record { later = all.later; ok = answered_as_kind a c of all; err = tt }; core = before.core; named = tt }

-- reads, and one more that was refused
pub read_err : {A B C : Type 0} {first : C} (a b c : Told) (of : ℕ) (x : Access) (f : MemFault) (r : Result A MemFault) → IsErrAnd r (λ e. e ≡ f) → IsReady a → IsReady b → IsRef (a.regs of) → ReadsObject a b of (Ok first) → only_reads x ≡ Some of → Called {A = B} b c (Does x) (Err f) → ReadsObject a c of r
read_err a b c of x f (Ok z) is ra rb ref before e called = absurd is
read_err a b c of x f (Err g) is ra rb ref before e called =
    let looks = Looks-read a b of before in
    let again = refused_after a b c (KindOf of) f ra rb (λ told. (any_there b of kind_of rb (subst IsRef (sym (looks.regs of refl)) ref)).there told) looks (refused_as_kind b c x of f e called.err) in
    record { called = record { later = IsLater-trans a b c looks.later called.later; ok = tt; err = subst (λ h. Refuses a c (Does (KindOf of)) h) (sym is) again }; core = tt; named = ref }
