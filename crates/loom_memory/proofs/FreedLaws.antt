-- An access reaches no dead object: what it does after dead objects went, it does of the heap before. So a heap that is thinned, and then
-- accessed, is accessed.
use Rattle.std.proofs.Common.{◌≡◌, ℕ, ◌≤◌, ◌||◌, Bool, true, false, eqb, eqb-true, Option, Some, None, Result, Ok, Err, IsTrue, refl, sym, ◌∙◌, ap, ap₂, subst, arith, inl, inr, ⊎_elim}
use Rattle.long_names.specs.declared.value.Value.{Value}
use Rattle.long_names.specs.declared.value.Value.TheVariants.{Int, Ref}
use Rattle.long_names.specs.declared.object.Body.{Body}
use Rattle.long_names.specs.Counting.{Rose}
use Rattle.long_names.specs.Objects.{kind_of, len_of, header_of, field_of, words_of, bytes_of, text_of}
use Rattle.long_names.specs.Heap.{Heap}
use Rattle.long_names.specs.State.{name_at, part_at}
use Rattle.long_names.specs.Thin.{IsThinning}
use Rattle.long_names.specs.Need.{Row, words_named}
use Rattle.long_names.specs.Access.{Access, Known, Class, KindOf, Length, Header, Field, SetField, Word, SetWord, Byte, SetByte, ReadWords, WriteWords, ReadBytes, Make, Pin, Mark, Say, Swap, Answer, CanDo, target_of, answer_of, heap_after}
use Rattle.long_names.proofs.ThinLemmas.{IsThinner-trans, same-there}
use Rattle.long_names.proofs.AccessLaws.{answer-same, words_at-same, brought-same, class-same, entries_of_row-same, heap-thinner, named-there, part-same, said-same, whole-heap, words_of_row-same}
use Rattle.object_memory.specs.declared.fault.Need.{Need}
use Rattle.object_memory.specs.declared.fault.MemFault.{MemFault}
use Rattle.object_memory.specs.declared.fault.MemFault.TheVariants.{CoreFull, WorkFull, WorkFault, Damaged, NamesSpent, Said, Memory}
use Rattle.object_memory.specs.Told.{Told, Bounds, Cache, need_of}
use Rattle.object_memory.specs.Contract.{Accessed, Does, Follows, HasCause, HasCore, IfBounds, IsEmptied, IsKeptCache, IsNeedOf, LeavesCache, Raised, SameBounds, SaysBy, SaysRefused, marked_by, makes, no_names, said_faults, touched_by, with_mark, work_faults}
use Rattle.loom_memory.specs.Makings.{HasThinned}
use Rattle.loom_memory.specs.Memory.{IsRefused, IsRefusedAt}
use Rattle.loom_memory.proofs.AccessLaws.{raised-trans, same-trans}
use Rattle.loom_memory.proofs.CacheLaws.{left-then, off-by}
use Rattle.loom_memory.proofs.MakingLaws.{leaves-thinned, thinned-tells}

-- where both have bounds, the core has as many words
abbrev CoreSame : Option Bounds → Option Bounds → Type 0
CoreSame None y = Unit {0}
CoreSame (Some b) None = ⊥
CoreSame (Some b) (Some c) = c.core ≡ b.core

-- ---- what an access can do

can-left : (h s : Heap) (regs : ℕ → Value) (slots : ℕ → Option ℕ) → IsThinning h s regs slots → (a : Access) (of : ℕ) → target_of a ≡ Some of → CanDo h regs a → CanDo s regs a
can-left h s regs slots thin (Known to name) of target can = absurd (cc)
can-left h s regs slots thin (Class to r) of target can = (can.0, sym (class-same h s regs slots thin r) ∙ can.1)
can-left h s regs slots thin (KindOf r) of target can = (can.0, sym (part-same h s regs slots thin r (λ b. Some (kind_of b))) ∙ can.1, can.2)
can-left h s regs slots thin (Length r) of target can = (can.0, sym (part-same h s regs slots thin r (λ b. Some (len_of b))) ∙ can.1, can.2)
can-left h s regs slots thin (Header r) of target can = (can.0, sym (part-same h s regs slots thin r header_of) ∙ can.1, can.2)
can-left h s regs slots thin (Field to r i) of target can = (can.0, sym (part-same h s regs slots thin r (λ b. field_of b i)) ∙ can.1, can.2)
can-left h s regs slots thin (SetField r i from) of target can = (can.0, sym (part-same h s regs slots thin r (λ b. field_of b i)) ∙ can.1, can.2)
can-left h s regs slots thin (Word r i) of target can = (can.0, sym (part-same h s regs slots thin r words_of) ∙ can.1, can.2)
can-left h s regs slots thin (SetWord r i word) of target can = (can.0, sym (part-same h s regs slots thin r words_of) ∙ can.1, can.2)
can-left h s regs slots thin (Byte r i) of target can = (can.0, sym (part-same h s regs slots thin r bytes_of) ∙ can.1, can.2)
can-left h s regs slots thin (SetByte r i byte) of target can = (can.0, sym (part-same h s regs slots thin r bytes_of) ∙ can.1, can.2)
can-left h s regs slots thin (ReadWords r at count) of target can = (can.0, sym (part-same h s regs slots thin r words_of) ∙ can.1, can.2)
can-left h s regs slots thin (WriteWords r at run) of target can = (can.0, sym (part-same h s regs slots thin r words_of) ∙ can.1, can.2)
can-left h s regs slots thin (ReadBytes r at count) of target can = (can.0, sym (part-same h s regs slots thin r bytes_of) ∙ can.1, can.2)
can-left h s regs slots thin (Make to class what) of target can = absurd (cc)
can-left h s regs slots thin (Pin slot r) of target can = (can.0, sym (part-same h s regs slots thin r (λ b. Some (kind_of b))) ∙ can.1, can.2)
can-left h s regs slots thin (Mark r) of target can = (can.0, sym (part-same h s regs slots thin r (λ b. Some (kind_of b))) ∙ can.1, can.2)
can-left h s regs slots thin (Say r) of target can = (can.0, sym (part-same h s regs slots thin r text_of) ∙ can.1, can.2)
can-left h s regs slots thin (Swap a b) of target can = absurd (cc)

pub can-freed : (t u : Told) (a : Access) (of : ℕ) → target_of a ≡ Some of → HasThinned t u → (IsTrue t.tells → CanDo t.heap t.regs a) → IsTrue u.tells → CanDo u.heap u.regs a
can-freed t u a of target thin can told =
    let told_ : IsTrue t.tells = sym (thinned-tells t u thin) ∙ told in
    subst (λ (r : ℕ → Value). CanDo u.heap r a) (sym (ap (λ (z : Told). z.regs) thin.same)) (can-left t.heap u.heap t.regs t.slots (thin.thinning told_) a of target (can told_))

-- a part of the object of a register
pub part-freed : {A : Type 0} (t u : Told) (r : ℕ) (f : Body → Option A) → HasThinned t u → IsTrue t.tells → part_at t.heap (t.regs r) f ≡ part_at u.heap (u.regs r) f
part-freed {A} t u r f thin told = part-same t.heap u.heap t.regs t.slots (thin.thinning told) r f ∙ ap (λ (z : Told). part_at u.heap (z.regs r) f) (sym thin.same)

-- ---- what it needs

need-left : (h s : Heap) (regs : ℕ → Value) (slots : ℕ → Option ℕ) → IsThinning h s regs slots → (r : ℕ) → need_of s (record { object = name_at (regs r); slots = slots }) ≡ need_of h (record { object = name_at (regs r); slots = slots })
need-left h s regs slots thin r =
    let row : Row = record { object = name_at (regs r); slots = slots } in
    let there : h.at (name_at (regs r)) ≡ s.at (name_at (regs r)) = same-there h s (name_at (regs r)) thin.thinner (named-there s regs slots thin.whole r) in
    let pins : (i k : ℕ) → slots i ≡ Some k → h.at k ≡ s.at k = λ i k e. same-there h s k thin.thinner (thin.whole.pinned i k e) in
    ap₂ (λ (w e : ℕ). record { object = name_at (regs r); words = w; entries = e }) (sym (words_of_row-same h s row there pins)) (sym (entries_of_row-same h s row pins))

need-row : (t u : Told) → HasThinned t u → IsTrue t.tells → (r : ℕ) → need_of u.heap (record { object = name_at (u.regs r); slots = u.slots }) ≡ need_of t.heap (record { object = name_at (t.regs r); slots = t.slots })
need-row t u thin told r =
    ap (λ (z : Told). need_of u.heap (record { object = name_at (z.regs r); slots = z.slots })) thin.same
    ∙ need-left t.heap u.heap t.regs t.slots (thin.thinning told) r

pub needs-freed : (t u : Told) (a : Access) (of : ℕ) (need : Need) → target_of a ≡ Some of → HasThinned t u → IsTrue t.tells → IsNeedOf u a need → IsNeedOf t a need
needs-freed t u (Known to name) of need target thin told is = absurd (cc)
needs-freed t u (Class to r) of need target thin told is = is ∙ need-row t u thin told r
needs-freed t u (KindOf r) of need target thin told is = is ∙ need-row t u thin told r
needs-freed t u (Length r) of need target thin told is = is ∙ need-row t u thin told r
needs-freed t u (Header r) of need target thin told is = is ∙ need-row t u thin told r
needs-freed t u (Field to r i) of need target thin told is = is ∙ need-row t u thin told r
needs-freed t u (SetField r i from) of need target thin told is = is ∙ need-row t u thin told r
needs-freed t u (Word r i) of need target thin told is = is ∙ need-row t u thin told r
needs-freed t u (SetWord r i word) of need target thin told is = is ∙ need-row t u thin told r
needs-freed t u (Byte r i) of need target thin told is = is ∙ need-row t u thin told r
needs-freed t u (SetByte r i byte) of need target thin told is = is ∙ need-row t u thin told r
needs-freed t u (ReadWords r at count) of need target thin told is = is ∙ need-row t u thin told r
needs-freed t u (WriteWords r at run) of need target thin told is = is ∙ need-row t u thin told r
needs-freed t u (ReadBytes r at count) of need target thin told is = is ∙ need-row t u thin told r
needs-freed t u (Make to class what) of need target thin told is = absurd (cc)
needs-freed t u (Pin slot r) of need target thin told is = is ∙ need-row t u thin told r
needs-freed t u (Mark r) of need target thin told is = is ∙ need-row t u thin told r
needs-freed t u (Say r) of need target thin told is = is ∙ need-row t u thin told r
needs-freed t u (Swap a b) of need target thin told is = absurd (cc)

words-left : (t u : Told) → HasThinned t u → IsTrue t.tells → (r : ℕ) → words_named u.heap (u.regs r) ≡ words_named t.heap (t.regs r)
words-left t u thin told r = ap (λ (z : Told). words_named u.heap (z.regs r)) thin.same ∙ go (t.regs r) refl
  where
    go : (v : Value) → t.regs r ≡ v → words_named u.heap v ≡ words_named t.heap v
    go (Int z) e = refl
    go (Ref n) e = sym (words_at-same t.heap u.heap n (same-there t.heap u.heap n (thin.thinning told).thinner ((thin.thinning told).whole.rooted r n e)))

-- the object alone takes as many words in two heaps where that of each register does
alone-by : (t u : Told) (b c : Bounds) (a : Access) (of : ℕ) → target_of a ≡ Some of → (IsTrue t.tells → IsTrue u.tells) → (IsTrue t.tells → (r : ℕ) → words_named u.heap (u.regs r) ≡ words_named t.heap (t.regs r)) → c.core ≡ b.core → HasCore u a c → HasCore t a b
alone-by t u b c (Known to name) of target tells same size core = absurd (cc)
alone-by t u b c (Make to class what) of target tells same size core = absurd (cc)
alone-by t u b c (Swap k l) of target tells same size core = absurd (cc)
alone-by t u b c (Mark r) of target tells same size core = λ told. omega arith
alone-by t u b c (Class to r) of target tells same size core = λ told. let most = core (tells told) in let is = same told r in omega (arith, most, is, size)
alone-by t u b c (KindOf r) of target tells same size core = λ told. let most = core (tells told) in let is = same told r in omega (arith, most, is, size)
alone-by t u b c (Length r) of target tells same size core = λ told. let most = core (tells told) in let is = same told r in omega (arith, most, is, size)
alone-by t u b c (Header r) of target tells same size core = λ told. let most = core (tells told) in let is = same told r in omega (arith, most, is, size)
alone-by t u b c (Field to r i) of target tells same size core = λ told. let most = core (tells told) in let is = same told r in omega (arith, most, is, size)
alone-by t u b c (SetField r i from) of target tells same size core = λ told. let most = core (tells told) in let is = same told r in omega (arith, most, is, size)
alone-by t u b c (Word r i) of target tells same size core = λ told. let most = core (tells told) in let is = same told r in omega (arith, most, is, size)
alone-by t u b c (SetWord r i word) of target tells same size core = λ told. let most = core (tells told) in let is = same told r in omega (arith, most, is, size)
alone-by t u b c (Byte r i) of target tells same size core = λ told. let most = core (tells told) in let is = same told r in omega (arith, most, is, size)
alone-by t u b c (SetByte r i byte) of target tells same size core = λ told. let most = core (tells told) in let is = same told r in omega (arith, most, is, size)
alone-by t u b c (ReadWords r at count) of target tells same size core = λ told. let most = core (tells told) in let is = same told r in omega (arith, most, is, size)
alone-by t u b c (WriteWords r at run) of target tells same size core = λ told. let most = core (tells told) in let is = same told r in omega (arith, most, is, size)
alone-by t u b c (ReadBytes r at count) of target tells same size core = λ told. let most = core (tells told) in let is = same told r in omega (arith, most, is, size)
alone-by t u b c (Pin slot r) of target tells same size core = λ told. let most = core (tells told) in let is = same told r in omega (arith, most, is, size)
alone-by t u b c (Say r) of target tells same size core = λ told. let most = core (tells told) in let is = same told r in omega (arith, most, is, size)

core-by : (t u : Told) (a : Access) (of : ℕ) → target_of a ≡ Some of → (IsTrue t.tells → IsTrue u.tells) → (IsTrue t.tells → (r : ℕ) → words_named u.heap (u.regs r) ≡ words_named t.heap (t.regs r)) → (x y : Option Bounds) → CoreSame x y → IfBounds y (HasCore u a) → IfBounds x (HasCore t a)
core-by t u a of target tells same None y size core = tt
core-by t u a of target tells same (Some b) None size core = absurd size
core-by t u a of target tells same (Some b) (Some c) size core = alone-by t u b c a of target tells same size core

core-of : (x y : Option Bounds) → SameBounds x y → CoreSame x y
core-of None y same = tt
core-of (Some b) None same = same
core-of (Some b) (Some c) same = same.0

core-back : (x y : Option Bounds) → SameBounds x y → CoreSame y x
core-back x None same = tt
core-back None (Some c) same = same
core-back (Some b) (Some c) same = sym same.0

pub core-freed : (t u : Told) (a : Access) (of : ℕ) → target_of a ≡ Some of → HasThinned t u → IfBounds u.bounds (HasCore u a) → IfBounds t.bounds (HasCore t a)
core-freed t u a of target thin core = core-by t u a of target (λ told. thinned-tells t u thin ∙ told) (λ told r. words-left t u thin told r) t.bounds u.bounds (core-of t.bounds u.bounds thin.bounds) core

pub core-there : (t u : Told) (a : Access) (of : ℕ) → target_of a ≡ Some of → HasThinned t u → IfBounds t.bounds (HasCore t a) → IfBounds u.bounds (HasCore u a)
core-there t u a of target thin core =
    core-by u t a of target (λ told. sym (thinned-tells t u thin) ∙ told) (λ told r. sym (words-left t u thin (sym (thinned-tells t u thin) ∙ told) r)) u.bounds t.bounds (core-back t.bounds u.bounds thin.bounds) core

-- ---- why it is refused

work-below : (a b : Option Bounds) → SameBounds a b → work_faults a ≤ work_faults b
work-below None None x = omega arith
work-below None (Some b) x = absurd x
work-below (Some a) None x = absurd x
work-below (Some a) (Some b) x = x.3

said-below : (a b : Option Bounds) → SameBounds a b → said_faults a ≤ said_faults b
said-below None None x = omega arith
said-below None (Some b) x = absurd x
said-below (Some a) None x = absurd x
said-below (Some a) (Some b) x = x.4

cause-freed : (t u w : Told) (a : Access) (of : ℕ) (f : MemFault) → target_of a ≡ Some of → makes a ≡ 0 → HasThinned t u → HasCause u w (Does a) f → HasCause t w (Does a) f
cause-freed t u w a of (CoreFull need) target none thin x = (x.0, λ told. needs-freed t u a of need target thin told (x.1 (thinned-tells t u thin ∙ told)))
cause-freed t u w a of (WorkFull live room) target none thin x = (let some = x.2 in absurd (omega (arith, some, none)))
cause-freed t u w a of (WorkFault count) target none thin x = (x.0, (let low = work-below t.bounds u.bounds thin.bounds in let rose = x.1 in omega (arith, low, rose)))
cause-freed t u w a of (Damaged place name) target none thin x = λ told. x (thinned-tells t u thin ∙ told)
cause-freed t u w a of NamesSpent target none thin x = (let some = x.0 in absurd (omega (arith, some, none)))
cause-freed t u w a of (Said count) target none thin x = (x.0, (let low = said-below t.bounds u.bounds thin.bounds in let rose = x.1 in omega (arith, low, rose)), x.2)
cause-freed t u w a of Memory target none thin x = x

said-refused : (t : Told) (h : Heap) (b : Option Bounds) (c : Cache) (w : Told) (r : ℕ) (f : MemFault) → (IsTrue t.tells → IsThinning t.heap h t.regs t.slots) → SaysRefused (Does (Say r)) (record t { heap = h; bounds = b; cache = c }) w f → SaysRefused (Does (Say r)) t w f
said-refused t h b c w r (CoreFull need) thin x = x
said-refused t h b c w r (WorkFull live room) thin x = x
said-refused t h b c w r (WorkFault count) thin x = x
said-refused t h b c w r (Damaged place name) thin x = x
said-refused t h b c w r NamesSpent thin x = x
said-refused t h b c w r (Said count) thin x = λ speaks. let y = x speaks in (y.0, y.1, y.2, λ told. (said-same t.heap h t.regs t.slots (thin told) (Say r) ∙ (y.3 told).0, (y.3 told).1))
said-refused t h b c w r Memory thin x = x

says-freed : (t : Told) (h : Heap) (b : Option Bounds) (c : Cache) (w : Told) (a : Access) (f : MemFault) → (IsTrue t.tells → IsThinning t.heap h t.regs t.slots) → SaysRefused (Does a) (record t { heap = h; bounds = b; cache = c }) w f → SaysRefused (Does a) t w f
says-freed t h b c w (Say of) f thin x = said-refused t h b c w of f thin x
says-freed t h b c w (Known to name) f thin x = x
says-freed t h b c w (Class to of) f thin x = x
says-freed t h b c w (KindOf of) f thin x = x
says-freed t h b c w (Length of) f thin x = x
says-freed t h b c w (Header of) f thin x = x
says-freed t h b c w (Field to of i) f thin x = x
says-freed t h b c w (SetField of i from) f thin x = x
says-freed t h b c w (Word of i) f thin x = x
says-freed t h b c w (SetWord of i word) f thin x = x
says-freed t h b c w (Byte of i) f thin x = x
says-freed t h b c w (SetByte of i byte) f thin x = x
says-freed t h b c w (ReadWords of at count) f thin x = x
says-freed t h b c w (WriteWords of at run) f thin x = x
says-freed t h b c w (ReadBytes of at count) f thin x = x
says-freed t h b c w (Make to class what) f thin x = x
says-freed t h b c w (Pin slot of) f thin x = x
says-freed t h b c w (Mark of) f thin x = x
says-freed t h b c w (Swap k l) f thin x = x

-- a refusal after dead objects went is one of the heap before
pub refused-freed : (t u w : Told) (a : Access) (of : ℕ) (f : MemFault) → target_of a ≡ Some of → makes a ≡ 0 → HasThinned t u → IsRefused u w a f → IsRefused t w a f
refused-freed t u w a of f target none thin both =
    let tells = thinned-tells t u thin in
    let speaks : u.speaks ≡ t.speaks = ap (λ (z : Told). z.speaks) thin.same in
    let times_ : u.refusals ≡ t.refusals = ap (λ (z : Told). z.refusals) thin.same in
    let said : SaysRefused (Does a) (record t { heap = u.heap; bounds = u.bounds; cache = u.cache }) w f = subst (λ (z : Told). SaysRefused (Does a) z w f) thin.same both.1.transcript in (
      record { tells = both.0.tells ∙ tells; speaks = both.0.speaks ∙ speaks; bounds = same-trans t.bounds u.bounds w.bounds thin.bounds both.0.bounds; refusals = (let low = both.0.refusals in omega (arith, low, times_)) },
      record {
        rose = subst (λ (n : ℕ). Rose n w.refusals) times_ both.1.rose;
        last = both.1.last;
        cause = cause-freed t u w a of f target none thin both.1.cause;
        spent = λ make told past. absurd (omega (arith, make, none));
        counts = raised-trans t.bounds u.bounds w.bounds thin.counts both.1.counts;
        transcript = says-freed t u.heap u.bounds u.cache w a f thin.thinning said;
        left = leaves-thinned t u w f thin both.1.left;
      },
    )

-- and for each silent access whose register has a name
pub at-freed : (t u v : Told) (n : ℕ) (f : MemFault) → HasThinned t u → IsRefusedAt u v n f → IsRefusedAt t v n f
at-freed t u v n f thin is = λ a of target named silent none. refused-freed t u v a of f target none thin (is a of target (ap (λ (z : Told). z.regs of) thin.same ∙ named) silent none)

-- ---- what it does

left-marked : (touched : ℕ → Bool) (n : ℕ) (a b c : Cache) → LeavesCache no_names None a a b → LeavesCache touched (Some n) b (with_mark b (Some n)) c → LeavesCache touched (Some n) a (with_mark a (Some n)) c
left-marked touched n a b c x y = ⊎_elim (λ k. ⊎_elim (λ l. inl (both-kept k l)) (λ e. inr (then-emptied k e)) y) (λ e. ⊎_elim (λ l. inr (emptied-kept e l)) (λ d. inr (emptied-twice e d)) y) x
  where
    both-kept : IsKeptCache no_names a a b → IsKeptCache touched b (with_mark b (Some n)) c → IsKeptCache touched a (with_mark a (Some n)) c
    both-kept k l = record { marks = l.marks ∙ ap (λ (f : ℕ → Bool). (λ q. eqb q n || f q)) k.marks; path = l.path ∙ k.path; rows = λ u v w h. k.rows u v w (l.rows u v w h); untouched = λ q h. ap (λ (f : ℕ → Bool). f q) (sym k.marks) ∙ l.untouched q h }

    then-emptied : IsKeptCache no_names a a b → IsEmptied (Some n) b c → IsEmptied (Some n) a c
    then-emptied k e = record { rows = e.rows; marks = e.marks; path = e.path; taken = e.taken; was = ap (λ (f : ℕ → Bool). f e.taken) (sym k.marks) ∙ e.was }

    emptied-twice : IsEmptied None a b → IsEmptied (Some n) b c → IsEmptied (Some n) a c
    emptied-twice e d = record { rows = d.rows; marks = d.marks; path = d.path; taken = e.taken; was = e.was }

    marked : IsEmptied None a b → (q : ℕ) (x : Bool) → eqb q n ≡ x → x || b.marks q ≡ true → Some n ≡ Some q
    marked e q true f h = let same : q ≡ n = eqb-true q n f in ap Some (sym same)
    marked e q false f h = absurd (let none = e.marks q h in cc)

    emptied-kept : IsEmptied None a b → IsKeptCache touched b (with_mark b (Some n)) c → IsEmptied (Some n) a c
    emptied-kept e l = record {
      rows = λ u v w. off-by (c.rows u v w) (λ h. let no = e.rows u v w in let on = l.rows u v w h in let both : true ≡ false = sym on ∙ no in cc);
      marks = λ q h. marked e q (eqb q n) refl (ap (λ (f : ℕ → Bool). f q) (sym l.marks) ∙ h);
      path = l.path ∙ e.path;
      taken = e.taken;
      was = e.was;
    }

left-by : (touched : ℕ → Bool) (mark : Option ℕ) (a b c : Cache) → LeavesCache no_names None a a b → LeavesCache touched mark b (with_mark b mark) c → LeavesCache touched mark a (with_mark a mark) c
left-by touched None a b c x y = left-then touched a b c x y
left-by touched (Some n) a b c x y = left-marked touched n a b c x y

raised-by : (k : ℕ) (a b c : Option Bounds) → Raised 0 a b → Raised k b c → Raised k a c
raised-by k None None None x y = tt
raised-by k None None (Some c) x y = absurd y
raised-by k None (Some b) c x y = absurd x
raised-by k (Some a) None c x y = absurd x
raised-by k (Some a) (Some b) None x y = absurd y
raised-by k (Some a) (Some b) (Some c) x y = (y.0 ∙ x.0, (let p = x.1 in let q = y.1 in omega (arith, p, q)))

says-by : (t : Told) (h : Heap) (b : Option Bounds) (c : Cache) (v : Told) (a : Access) → (IsTrue t.tells → IsThinning t.heap h t.regs t.slots) → SaysBy (Does a) (record t { heap = h; bounds = b; cache = c }) v → SaysBy (Does a) t v
says-by t h b c v (Say of) thin x = λ speaks. let y = x speaks in (y.0, y.1, λ told. said-same t.heap h t.regs t.slots (thin told) (Say of) ∙ y.2 told)
says-by t h b c v (Known to name) thin x = x
says-by t h b c v (Class to of) thin x = x
says-by t h b c v (KindOf of) thin x = x
says-by t h b c v (Length of) thin x = x
says-by t h b c v (Header of) thin x = x
says-by t h b c v (Field to of i) thin x = x
says-by t h b c v (SetField of i from) thin x = x
says-by t h b c v (Word of i) thin x = x
says-by t h b c v (SetWord of i word) thin x = x
says-by t h b c v (Byte of i) thin x = x
says-by t h b c v (SetByte of i byte) thin x = x
says-by t h b c v (ReadWords of at count) thin x = x
says-by t h b c v (WriteWords of at run) thin x = x
says-by t h b c v (ReadBytes of at count) thin x = x
says-by t h b c v (Make to class what) thin x = x
says-by t h b c v (Pin slot of) thin x = x
says-by t h b c v (Mark of) thin x = x
says-by t h b c v (Swap k l) thin x = x

follows-at : (t : Told) (h : Heap) (b : Option Bounds) (c : Cache) (v : Told) (a : Access) → (IsTrue t.tells → IsThinning t.heap h t.regs t.slots) → LeavesCache no_names None t.cache t.cache c → Raised 0 t.bounds b
    → Follows (record t { heap = h; bounds = b; cache = c }) v (Does a) → Follows t v (Does a)
follows-at t h b c v a thin left counts x = record {
  regs = x.regs;
  brings = λ told. brought-same t.heap h t.regs t.slots (thin told) a ∙ x.brings told;
  slots = x.slots;
  transcript = says-by t h b c v a thin x.transcript;
  heap = λ told. IsThinner-trans (heap_after t.heap t.regs a) (heap_after h t.regs a) v.heap (heap-thinner t.heap h t.regs t.slots (thin told) a) (x.heap told) (whole-heap h t.regs t.slots (thin told).whole a).closed;
  cache = left-by (touched_by t.regs a) (marked_by t.regs a) t.cache c v.cache left x.cache;
  counts = raised-by (makes a) t.bounds b v.bounds counts x.counts;
  base = tt;
  refusals = x.refusals;
  last = x.last;
}

follows-freed : (t u v : Told) (a : Access) → HasThinned t u → Follows u v (Does a) → Follows t v (Does a)
follows-freed t u v a thin x = follows-at t u.heap u.bounds u.cache v a thin.thinning thin.cache thin.counts (subst (λ (z : Told). Follows z v (Does a)) thin.same x)

-- a heap that is thinned, and then accessed, is accessed
pub accessed-freed : {A : Type 0} (r : Result A MemFault) (t u v : Told) (a : Access) (of : ℕ) (spell : A → Answer) → target_of a ≡ Some of → makes a ≡ 0 → HasThinned t u → Accessed {A = A} u v a spell r → Accessed {A = A} t v a spell r
accessed-freed {A} (Ok x) t u v a of spell target none thin is = record {
  called = record {
    later = record {
      tells = is.called.later.tells ∙ thinned-tells t u thin;
      speaks = is.called.later.speaks ∙ ap (λ (z : Told). z.speaks) thin.same;
      bounds = same-trans t.bounds u.bounds v.bounds thin.bounds is.called.later.bounds;
      refusals = (let low = is.called.later.refusals in let same = ap (λ (z : Told). z.refusals) thin.same in omega (arith, low, same));
    };
    ok = follows-freed t u v a thin is.called.ok;
    err = tt;
  };
  answer = λ told. answer-same t.heap u.heap t.regs t.slots (thin.thinning told) a ∙ ap (λ (z : Told). answer_of u.heap z.regs a) (sym thin.same) ∙ is.answer (thinned-tells t u thin ∙ told);
  named = λ make told. absurd (omega (arith, make, none));
  core = core-freed t u a of target thin is.core;
}
accessed-freed {A} (Err f) t u v a of spell target none thin is =
    let both = refused-freed t u v a of f target none thin (is.called.later, is.called.err) in
    record { called = record { later = both.0; ok = tt; err = both.1 }; answer = tt; named = tt; core = tt }
