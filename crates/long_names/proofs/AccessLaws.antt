-- An access does the same to a heap and to a thinning of it.
use Rattle.std.proofs.Common.{◌≡◌, ℕ, ◌+◌, ◌||◌, Bool, true, false, cond, eqb, List, [], ◌∷◌, ◌++◌, length, replicate, Option, Some, None, is_some, IsTrue, refl, sym, ◌∙◌, ap, ap₂, subst, inl, inr}
use Rattle.std.specs.Option.{option_map_or, option_and_then}
use Rattle.long_names.specs.declared.value.Value.{Value}
use Rattle.long_names.specs.declared.value.Value.TheVariants.{Int, Ref}
use Rattle.long_names.specs.declared.object.Body.{Body}
use Rattle.long_names.specs.declared.object.Object.{Object}
use Rattle.long_names.specs.Names.{is_known, NIL, SMALL_INTEGER}
use Rattle.long_names.specs.Words.{literal_count}
use Rattle.long_names.specs.Objects.{holds, fields_of, body_words, field_of, with_field, with_words, with_bytes, Making, OfPointers, OfWords, OfBytes, OfMethod, body_made}
use Rattle.long_names.specs.Heap.{Heap, Has, IsBounded, put_object, add_object}
use Rattle.long_names.specs.Kept.{holds_at}
use Rattle.long_names.specs.Access.{is_held, Access, Known, Class, KindOf, Length, Header, Field, SetField, Word, SetWord, Byte, SetByte, ReadWords, WriteWords, ReadBytes, Make, Pin, Mark, Say, Swap, made_by, CanDo, object_of, other_object_of, brought, regs_after, slots_after, with_body, with_made, with_swapped, heap_after, said_by, answered, answer_of}
use Rattle.long_names.specs.State.{State, set_register, set_slot, object_at, name_at, part_at, class_at, HasPart}
use Rattle.long_names.specs.Need.{Row, words_at, entries_at, is_pinned, added, words_of_row, entries_of_row}
use Rattle.long_names.specs.Thin.{IsThinner, IsWhole, IsThinning, IsThinned, Agrees}
use Rattle.long_names.proofs.ThinLemmas.{below, IsThinning-refl, IsThinning-trans, IsWhole-bounded, same-there, IsThinner-put_object, IsThinner-add_object, IsThinner-swap_objects, IsBounded-put_object, IsBounded-add_object, IsBounded-swap_objects, has_put, has_here, IsWhole-add_object, IsWhole-swap_objects, IsWhole-set, IsWhole-pin, holds-class, holds-field, holds-filled, holds-plain, fields-with_words, fields-with_bytes, IsWhole-with_field, IsWhole-same_fields}
use Rattle.long_names.proofs.KeptLaws.{any_below-at, any_below-from, holder, holding}

-- ---- a heap and a whole thinning of it, with registers

-- what a register names is the same
pub object-same : (h s : Heap) (regs : ℕ → Value) (slots : ℕ → Option ℕ) → IsThinning h s regs slots → (r : ℕ) → object_at h (regs r) ≡ object_at s (regs r)
object-same h s regs slots t r = go (regs r) refl
  where
    go : (v : Value) → regs r ≡ v → object_at h v ≡ object_at s v
    go (Int z) e = refl
    go (Ref n) e = same-there h s n t.thinner (t.whole.rooted r n e)

pub part-same : {A : Type 0} (h s : Heap) (regs : ℕ → Value) (slots : ℕ → Option ℕ) → IsThinning h s regs slots → (r : ℕ) (f : Body → Option A) → part_at h (regs r) f ≡ part_at s (regs r) f
part-same h s regs slots t r f = ap (λ x. option_and_then (λ (o : Object). f o.body) x) (object-same h s regs slots t r)

pub class-same : (h s : Heap) (regs : ℕ → Value) (slots : ℕ → Option ℕ) → IsThinning h s regs slots → (r : ℕ) → class_at h (regs r) ≡ class_at s (regs r)
class-same h s regs slots t r = go (regs r) refl
  where
    go : (v : Value) → regs r ≡ v → class_at h v ≡ class_at s v
    go (Int z) e = refl
    go (Ref n) e = ap (λ x. option_and_then (λ (o : Object). Some o.class) x) (same-there h s n t.thinner (t.whole.rooted r n e))

-- the object of a register's value is there, and so is the class of SmallIntegers
pub named-there : (s : Heap) (regs : ℕ → Value) (slots : ℕ → Option ℕ) → IsWhole s regs slots → (r : ℕ) → Has s (name_at (regs r))
named-there s regs slots w r = go (regs r) refl
  where
    go : (v : Value) → regs r ≡ v → Has s (name_at v)
    go (Int z) e = w.known SMALL_INTEGER refl
    go (Ref n) e = w.rooted r n e

-- ---- what it asks

part-can : {A : Type 0} (h s : Heap) (regs : ℕ → Value) (slots : ℕ → Option ℕ) → IsThinning h s regs slots → (r : ℕ) (f : Body → Option A) (P : A → Type 0) → HasPart s (regs r) f P → HasPart h (regs r) f P
part-can h s regs slots t r f P can = (can.0, part-same h s regs slots t r f ∙ can.1, can.2)

-- what an object of the thinning holds is held in the heap
pub held-can : (h s : Heap) (n : ℕ) → IsThinner h s → IsBounded h → is_held s n ≡ true → is_held h n ≡ true
held-can h s n t b e =
    let it = any_below-at s.next (λ k. holds_at s k n) e in
    let by = holder s it.0 n it.1 in
    let there = t.same it.0 by.0 by.1 in
    any_below-from h.next (λ k. holds_at h k n) it.0 (below h it.0 by.0 b there) (holding h it.0 n by.0 there by.2)

known-can : (a b c : Bool) → (b ≡ true → c ≡ true) → IsTrue (a || b) → IsTrue (a || c)
known-can true b c f e = refl
known-can false b c f e = f e

-- the heap can do what the thinning can
pub can-same : (h s : Heap) (regs : ℕ → Value) (slots : ℕ → Option ℕ) → IsThinning h s regs slots → IsBounded h → (a : Access) → CanDo s regs a → CanDo h regs a
can-same h s regs slots t b (Known to name) can = (ap is_some (same-there h s name t.thinner can.0) ∙ can.0, known-can (is_known name) (is_held s name) (is_held h name) (held-can h s name t.thinner b) can.1)
can-same h s regs slots t b (Class to of) can = (can.0, class-same h s regs slots t of ∙ can.1)
can-same h s regs slots t b (KindOf of) can = part-can h s regs slots t of _ _ can
can-same h s regs slots t b (Length of) can = part-can h s regs slots t of _ _ can
can-same h s regs slots t b (Header of) can = part-can h s regs slots t of _ _ can
can-same h s regs slots t b (Field to of i) can = part-can h s regs slots t of _ _ can
can-same h s regs slots t b (SetField of i from) can = part-can h s regs slots t of _ _ can
can-same h s regs slots t b (Word of i) can = part-can h s regs slots t of _ _ can
can-same h s regs slots t b (SetWord of i word) can = part-can h s regs slots t of _ _ can
can-same h s regs slots t b (Byte of i) can = part-can h s regs slots t of _ _ can
can-same h s regs slots t b (SetByte of i byte) can = part-can h s regs slots t of _ _ can
can-same h s regs slots t b (ReadWords of at count) can = part-can h s regs slots t of _ _ can
can-same h s regs slots t b (WriteWords of at run) can = part-can h s regs slots t of _ _ can
can-same h s regs slots t b (ReadBytes of at count) can = part-can h s regs slots t of _ _ can
can-same h s regs slots t b (Make to class what) can = can
can-same h s regs slots t b (Pin slot of) can = part-can h s regs slots t of _ _ can
can-same h s regs slots t b (Mark of) can = part-can h s regs slots t of _ _ can
can-same h s regs slots t b (Say of) can = part-can h s regs slots t of _ _ can
can-same h s regs slots t b (Swap p q) can = (part-can h s regs slots t p _ _ can.0, part-can h s regs slots t q _ _ can.1)

-- ---- what it answers, brings and says

pub answer-same : (h s : Heap) (regs : ℕ → Value) (slots : ℕ → Option ℕ) → IsThinning h s regs slots → (a : Access) → answer_of h regs a ≡ answer_of s regs a
answer-same h s regs slots t (KindOf of) = ap (answered _) (part-same h s regs slots t of _)
answer-same h s regs slots t (Length of) = ap (answered _) (part-same h s regs slots t of _)
answer-same h s regs slots t (Header of) = ap (answered _) (part-same h s regs slots t of _)
answer-same h s regs slots t (Word of i) = ap (answered _) (part-same h s regs slots t of _)
answer-same h s regs slots t (Byte of i) = ap (answered _) (part-same h s regs slots t of _)
answer-same h s regs slots t (ReadWords of at count) = ap (answered _) (part-same h s regs slots t of _)
answer-same h s regs slots t (ReadBytes of at count) = ap (answered _) (part-same h s regs slots t of _)
answer-same h s regs slots t _ = refl

pub brought-same : (h s : Heap) (regs : ℕ → Value) (slots : ℕ → Option ℕ) → IsThinning h s regs slots → (a : Access) → brought h regs a ≡ brought s regs a
brought-same h s regs slots t (Class to of) = ap (option_and_then (λ class. Some (Ref class))) (class-same h s regs slots t of)
brought-same h s regs slots t (Field to of i) = part-same h s regs slots t of _
brought-same h s regs slots t (Make to class what) = ap (λ n. Some (Ref n)) (sym t.thinner.next)
brought-same h s regs slots t _ = refl

pub said-same : (h s : Heap) (regs : ℕ → Value) (slots : ℕ → Option ℕ) → IsThinning h s regs slots → (a : Access) → said_by h regs a ≡ said_by s regs a
said-same h s regs slots t (Say of) = part-same h s regs slots t of _
said-same h s regs slots t _ = refl

-- ---- its row

pub object_of-same : (h s : Heap) (regs : ℕ → Value) → IsThinner h s → (a : Access) → object_of h regs a ≡ object_of s regs a
object_of-same h s regs t (Make to class what) = sym t.next
object_of-same h s regs t _ = refl

pub other_object_of-same : (h s : Heap) (regs : ℕ → Value) → IsThinner h s → (a : Access) → other_object_of h regs a ≡ other_object_of s regs a
other_object_of-same h s regs t (Make to class what) = sym t.next
other_object_of-same h s regs t _ = refl

pub words_at-same : (h s : Heap) (n : ℕ) → h.at n ≡ s.at n → words_at h n ≡ words_at s n
words_at-same h s n e = ap (λ x. option_map_or (λ (o : Object). 4 + body_words o.body) x 0) e

pub entries_at-same : (h s : Heap) (n : ℕ) → h.at n ≡ s.at n → entries_at h n ≡ entries_at s n
entries_at-same h s n e = ap (λ x. option_map_or (λ (o : Object). 2 + length (fields_of o.body)) x 0) e

added-same : (f g : ℕ → ℕ) (counted : ℕ → Bool) (x : Option ℕ) → ((k : ℕ) → x ≡ Some k → f k ≡ g k) → added f counted x ≡ added g counted x
added-same f g counted None e = refl
added-same f g counted (Some k) e = ap (λ n. cond (counted k) 0 n) (e k refl)

-- heaps that have the same under the names of a row give it the same words and entries
pub words_of_row-same : (h s : Heap) (r : Row) → h.at r.object ≡ s.at r.object → ((i k : ℕ) → r.slots i ≡ Some k → h.at k ≡ s.at k) → words_of_row h r ≡ words_of_row s r
unfolding words_of_row
words_of_row-same h s r object pins =
    let first = words_at-same h s r.object object in
    let each = λ (i k : ℕ) (e : r.slots i ≡ Some k). words_at-same h s k (pins i k e) in
    let one = added-same (words_at h) (words_at s) (λ k. eqb k r.object) (r.slots 0) (each 0) in
    let two = added-same (words_at h) (words_at s) (λ k. eqb k r.object || is_pinned k (r.slots 0)) (r.slots 1) (each 1) in
    let three = added-same (words_at h) (words_at s) (λ k. eqb k r.object || (is_pinned k (r.slots 0) || is_pinned k (r.slots 1))) (r.slots 2) (each 2) in
    ap₂ (λ a b. a + b) (ap₂ (λ a b. a + b) (ap₂ (λ a b. a + b) first one) two) three

pub entries_of_row-same : (h s : Heap) (r : Row) → ((i k : ℕ) → r.slots i ≡ Some k → h.at k ≡ s.at k) → entries_of_row h r ≡ entries_of_row s r
unfolding entries_of_row
entries_of_row-same h s r pins =
    let each = λ (i k : ℕ) (e : r.slots i ≡ Some k). entries_at-same h s k (pins i k e) in
    let one = added-same (entries_at h) (entries_at s) (λ k. false) (r.slots 0) (each 0) in
    let two = added-same (entries_at h) (entries_at s) (λ k. is_pinned k (r.slots 0)) (r.slots 1) (each 1) in
    let three = added-same (entries_at h) (entries_at s) (λ k. is_pinned k (r.slots 0) || is_pinned k (r.slots 1)) (r.slots 2) (each 2) in
    ap₂ (λ a b. a + b) (ap₂ (λ a b. a + b) (ap (λ a. 51 + a) one) two) three

thinner-made : (h s : Heap) (x : Option Object) → IsThinner h s → IsThinner (with_made h x) (with_made s x)
thinner-made h s None t = t
thinner-made h s (Some o) t = IsThinner-add_object h s o t

there-made : (s : Heap) (x : Option Object) (k : ℕ) → Has s k → Has (with_made s x) k
there-made s None k there = there
there-made s (Some o) k there = has_put s s.next o (s.next + 2) k there

-- the object of its row is there
pub object-there : (s : Heap) (regs : ℕ → Value) (slots : ℕ → Option ℕ) → IsWhole s regs slots → (a : Access) → CanDo s regs a → Has (with_made s (made_by regs a)) (object_of s regs a)
object-there s regs slots w (Known to name) can = can.0
object-there s regs slots w (Class to of) can = named-there s regs slots w of
object-there s regs slots w (KindOf of) can = named-there s regs slots w of
object-there s regs slots w (Length of) can = named-there s regs slots w of
object-there s regs slots w (Header of) can = named-there s regs slots w of
object-there s regs slots w (Field to of i) can = named-there s regs slots w of
object-there s regs slots w (SetField of i from) can = named-there s regs slots w of
object-there s regs slots w (Word of i) can = named-there s regs slots w of
object-there s regs slots w (SetWord of i word) can = named-there s regs slots w of
object-there s regs slots w (Byte of i) can = named-there s regs slots w of
object-there s regs slots w (SetByte of i byte) can = named-there s regs slots w of
object-there s regs slots w (ReadWords of at count) can = named-there s regs slots w of
object-there s regs slots w (WriteWords of at run) can = named-there s regs slots w of
object-there s regs slots w (ReadBytes of at count) can = named-there s regs slots w of
object-there s regs slots w (Make to class what) can = has_here s (record { class = name_at (regs class); body = body_made what })
object-there s regs slots w (Pin slot of) can = named-there s regs slots w of
object-there s regs slots w (Mark of) can = named-there s regs slots w of
object-there s regs slots w (Say of) can = named-there s regs slots w of
object-there s regs slots w (Swap p q) can = named-there s regs slots w p

-- and so is that of its other row
pub other_object-there : (s : Heap) (regs : ℕ → Value) (slots : ℕ → Option ℕ) → IsWhole s regs slots → (a : Access) → CanDo s regs a → Has (with_made s (made_by regs a)) (other_object_of s regs a)
other_object-there s regs slots w (Swap p q) can = named-there s regs slots w q
other_object-there s regs slots w (Known to name) can = object-there s regs slots w (Known to name) can
other_object-there s regs slots w (Make to class what) can = object-there s regs slots w (Make to class what) can
other_object-there s regs slots w a can = object-there s regs slots w a can

-- a row has the same words in both, whose object the heap and the thinning name alike, and which is there
words-alike : (h s : Heap) (regs : ℕ → Value) (slots : ℕ → Option ℕ) → IsThinning h s regs slots → (a : Access) (n k : ℕ) → n ≡ k → Has (with_made s (made_by regs a)) k → words_of_row (with_made h (made_by regs a)) (record { object = n; slots = slots }) ≡ words_of_row (with_made s (made_by regs a)) (record { object = k; slots = slots })
words-alike h s regs slots t a n k e there =
    ap (λ n. words_of_row (with_made h (made_by regs a)) (record { object = n; slots = slots })) e
    ∙ words_of_row-same (with_made h (made_by regs a)) (with_made s (made_by regs a)) (record { object = k; slots = slots })
    (same-there (with_made h (made_by regs a)) (with_made s (made_by regs a)) k (thinner-made h s (made_by regs a) t.thinner) there)
    (λ i k e. same-there (with_made h (made_by regs a)) (with_made s (made_by regs a)) k (thinner-made h s (made_by regs a) t.thinner) (there-made s (made_by regs a) k (t.whole.pinned i k e)))

-- and the same entries
entries-alike : (h s : Heap) (regs : ℕ → Value) (slots : ℕ → Option ℕ) → IsThinning h s regs slots → (a : Access) (n k : ℕ) → n ≡ k → entries_of_row (with_made h (made_by regs a)) (record { object = n; slots = slots }) ≡ entries_of_row (with_made s (made_by regs a)) (record { object = k; slots = slots })
entries-alike h s regs slots t a n k e =
    ap (λ n. entries_of_row (with_made h (made_by regs a)) (record { object = n; slots = slots })) e
    ∙ entries_of_row-same (with_made h (made_by regs a)) (with_made s (made_by regs a)) (record { object = k; slots = slots })
    (λ i k e. same-there (with_made h (made_by regs a)) (with_made s (made_by regs a)) k (thinner-made h s (made_by regs a) t.thinner) (there-made s (made_by regs a) k (t.whole.pinned i k e)))

pub words-same : (h s : Heap) (regs : ℕ → Value) (slots : ℕ → Option ℕ) → IsThinning h s regs slots → (a : Access) → CanDo s regs a → words_of_row (with_made h (made_by regs a)) (record { object = object_of h regs a; slots = slots }) ≡ words_of_row (with_made s (made_by regs a)) (record { object = object_of s regs a; slots = slots })
words-same h s regs slots t a can = words-alike h s regs slots t a (object_of h regs a) (object_of s regs a) (object_of-same h s regs t.thinner a) (object-there s regs slots t.whole a can)

pub entries-same : (h s : Heap) (regs : ℕ → Value) (slots : ℕ → Option ℕ) → IsThinning h s regs slots → (a : Access) → entries_of_row (with_made h (made_by regs a)) (record { object = object_of h regs a; slots = slots }) ≡ entries_of_row (with_made s (made_by regs a)) (record { object = object_of s regs a; slots = slots })
entries-same h s regs slots t a = entries-alike h s regs slots t a (object_of h regs a) (object_of s regs a) (object_of-same h s regs t.thinner a)

-- and its other row
pub other_words-same : (h s : Heap) (regs : ℕ → Value) (slots : ℕ → Option ℕ) → IsThinning h s regs slots → (a : Access) → CanDo s regs a → words_of_row (with_made h (made_by regs a)) (record { object = other_object_of h regs a; slots = slots }) ≡ words_of_row (with_made s (made_by regs a)) (record { object = other_object_of s regs a; slots = slots })
other_words-same h s regs slots t a can = words-alike h s regs slots t a (other_object_of h regs a) (other_object_of s regs a) (other_object_of-same h s regs t.thinner a) (other_object-there s regs slots t.whole a can)

pub other_entries-same : (h s : Heap) (regs : ℕ → Value) (slots : ℕ → Option ℕ) → IsThinning h s regs slots → (a : Access) → entries_of_row (with_made h (made_by regs a)) (record { object = other_object_of h regs a; slots = slots }) ≡ entries_of_row (with_made s (made_by regs a)) (record { object = other_object_of s regs a; slots = slots })
other_entries-same h s regs slots t a = entries-alike h s regs slots t a (other_object_of h regs a) (other_object_of s regs a) (other_object_of-same h s regs t.thinner a)

-- ---- what it leaves

abbrev pub another : (Body → Body) → Object → Object
another change o = record { class = o.class; body = change o.body }

put_body : Heap → (Body → Body) → ℕ → Option Object → Heap
put_body h change n x = option_map_or (λ (o : Object). put_object h n (another change o)) x h

pub IsThinner-with_body : (h s : Heap) (v : Value) (change : Body → Body) → IsThinner h s → object_at h v ≡ object_at s v → IsThinner (with_body h v change) (with_body s v change)
unfolding put_body
IsThinner-with_body h s (Int z) change t e = t
IsThinner-with_body h s (Ref n) change t e = subst (λ x. IsThinner (put_body h change n (h.at n)) (put_body s change n x)) e (go (h.at n))
  where
    go : (x : Option Object) → IsThinner (put_body h change n x) (put_body s change n x)
    go None = t
    go (Some o) = IsThinner-put_object h s n (another change o) t

pub IsBounded-with_body : (h : Heap) (v : Value) (change : Body → Body) → IsBounded h → IsBounded (with_body h v change)
IsBounded-with_body h (Int z) change b = b
IsBounded-with_body h (Ref n) change b = go (h.at n) refl
  where
    go : (x : Option Object) → h.at n ≡ x → IsBounded (option_map_or (λ (o : Object). put_object h n (another change o)) x h)
    go None e = b
    go (Some o) e = IsBounded-put_object h n (another change o) b (ap is_some e)

pub IsWhole-with_body : (s : Heap) (regs : ℕ → Value) (slots : ℕ → Option ℕ) (v : Value) (change : Body → Body) → IsWhole s regs slots → ((n : ℕ) (o : Object) → s.at n ≡ Some o → IsWhole (put_object s n (another change o)) regs slots) → IsWhole (with_body s v change) regs slots
IsWhole-with_body s regs slots (Int z) change w each = w
IsWhole-with_body s regs slots (Ref n) change w each = go (s.at n) refl
  where
    go : (x : Option Object) → s.at n ≡ x → IsWhole (option_map_or (λ (o : Object). put_object s n (another change o)) x s) regs slots
    go None e = w
    go (Some o) e = each n o e

-- two objects that change places in both
IsThinner-with_swapped : (h s : Heap) (v w : Value) → IsThinner h s → object_at h v ≡ object_at s v → object_at h w ≡ object_at s w → IsThinner (with_swapped h v w) (with_swapped s v w)
IsThinner-with_swapped h s (Int z) w t e f = t
IsThinner-with_swapped h s (Ref n) (Int z) t e f = t
IsThinner-with_swapped h s (Ref n) (Ref k) t e f = IsThinner-swap_objects h s n k t e f

IsBounded-with_swapped : (h : Heap) (v w : Value) → IsBounded h → IsBounded (with_swapped h v w)
IsBounded-with_swapped h (Int z) w b = b
IsBounded-with_swapped h (Ref n) (Int z) b = b
IsBounded-with_swapped h (Ref n) (Ref k) b = IsBounded-swap_objects h n k b

IsWhole-with_swapped : (s : Heap) (regs : ℕ → Value) (slots : ℕ → Option ℕ) (v w : Value) → IsWhole s regs slots → IsWhole (with_swapped s v w) regs slots
IsWhole-with_swapped s regs slots (Int z) w whole = whole
IsWhole-with_swapped s regs slots (Ref n) (Int z) whole = whole
IsWhole-with_swapped s regs slots (Ref n) (Ref k) whole = IsWhole-swap_objects s regs slots n k whole

pub heap-thinner : (h s : Heap) (regs : ℕ → Value) (slots : ℕ → Option ℕ) → IsThinning h s regs slots → (a : Access) → IsThinner (heap_after h regs a) (heap_after s regs a)
heap-thinner h s regs slots t (SetField of i from) = IsThinner-with_body h s (regs of) _ t.thinner (object-same h s regs slots t of)
heap-thinner h s regs slots t (SetWord of i word) = IsThinner-with_body h s (regs of) _ t.thinner (object-same h s regs slots t of)
heap-thinner h s regs slots t (SetByte of i byte) = IsThinner-with_body h s (regs of) _ t.thinner (object-same h s regs slots t of)
heap-thinner h s regs slots t (WriteWords of at run) = IsThinner-with_body h s (regs of) _ t.thinner (object-same h s regs slots t of)
heap-thinner h s regs slots t (Make to class what) = IsThinner-add_object h s (record { class = name_at (regs class); body = body_made what }) t.thinner
heap-thinner h s regs slots t (Swap p q) = IsThinner-with_swapped h s (regs p) (regs q) t.thinner (object-same h s regs slots t p) (object-same h s regs slots t q)
heap-thinner h s regs slots t _ = t.thinner

pub heap-bounded : (h : Heap) (regs : ℕ → Value) (a : Access) → IsBounded h → IsBounded (heap_after h regs a)
heap-bounded h regs (SetField of i from) b = IsBounded-with_body h (regs of) _ b
heap-bounded h regs (SetWord of i word) b = IsBounded-with_body h (regs of) _ b
heap-bounded h regs (SetByte of i byte) b = IsBounded-with_body h (regs of) _ b
heap-bounded h regs (WriteWords of at run) b = IsBounded-with_body h (regs of) _ b
heap-bounded h regs (Make to class what) b = IsBounded-add_object h (record { class = name_at (regs class); body = body_made what }) b
heap-bounded h regs (Swap p q) b = IsBounded-with_swapped h (regs p) (regs q) b
heap-bounded h regs _ b = b

-- a new object holds its class, and nil where it has fields
filled-there : (s : Heap) (regs : ℕ → Value) (slots : ℕ → Option ℕ) → IsWhole s regs slots → (o : Object) (size : ℕ) → Has s o.class → fields_of o.body ≡ replicate size (Ref NIL) → (k : ℕ) → holds o k ≡ true → Has s k
filled-there s regs slots w o size there e k held = elim (holds-filled o size k (Ref NIL) e held) [ inl is ↦ subst (λ n. Has s n) is there | inr is ↦ let same : NIL ≡ k = cc in subst (λ n. Has s n) same (w.known NIL refl) ]

plain-there : (s : Heap) (o : Object) → Has s o.class → fields_of o.body ≡ [] → (k : ℕ) → holds o k ≡ true → Has s k
plain-there s o there e k held = subst (λ n. Has s n) (holds-plain o k e held) there

-- what a new object holds is there, where its class is
made-there : (s : Heap) (regs : ℕ → Value) (slots : ℕ → Option ℕ) → IsWhole s regs slots → (class : ℕ) (what : Making) → Has s class → (k : ℕ) → holds (record { class = class; body = body_made what }) k ≡ true → Has s k
made-there s regs slots w class (OfPointers size) there = filled-there s regs slots w (record { class = class; body = body_made (OfPointers size) }) size there refl
made-there s regs slots w class (OfWords size) there = plain-there s (record { class = class; body = body_made (OfWords size) }) there refl
made-there s regs slots w class (OfBytes size) there = plain-there s (record { class = class; body = body_made (OfBytes size) }) there refl
made-there s regs slots w class (OfMethod header code) there = filled-there s regs slots w (record { class = class; body = body_made (OfMethod header code) }) (literal_count header) there refl

pub whole-heap : (s : Heap) (regs : ℕ → Value) (slots : ℕ → Option ℕ) → IsWhole s regs slots → (a : Access) → IsWhole (heap_after s regs a) regs slots
whole-heap s regs slots w (SetField of i from) = IsWhole-with_body s regs slots (regs of) (λ b. with_field b i (regs from)) w (λ n o e. IsWhole-with_field s regs slots n o i (regs from) w e (λ k is. w.rooted from k is))
whole-heap s regs slots w (SetWord of i word) = IsWhole-with_body s regs slots (regs of) (λ b. with_words b i (word ∷ [])) w (λ n o e. IsWhole-same_fields s regs slots n o (with_words o.body i (word ∷ [])) w e (fields-with_words o.body i (word ∷ [])))
whole-heap s regs slots w (SetByte of i byte) = IsWhole-with_body s regs slots (regs of) (λ b. with_bytes b i (byte ∷ [])) w (λ n o e. IsWhole-same_fields s regs slots n o (with_bytes o.body i (byte ∷ [])) w e (fields-with_bytes o.body i (byte ∷ [])))
whole-heap s regs slots w (WriteWords of at run) = IsWhole-with_body s regs slots (regs of) (λ b. with_words b at run) w (λ n o e. IsWhole-same_fields s regs slots n o (with_words o.body at run) w e (fields-with_words o.body at run))
whole-heap s regs slots w (Make to class what) = IsWhole-add_object s regs slots (record { class = name_at (regs class); body = body_made what }) w (made-there s regs slots w (name_at (regs class)) what (named-there s regs slots w class))
whole-heap s regs slots w (Swap p q) = IsWhole-with_swapped s regs slots (regs p) (regs q) w
whole-heap s regs slots w _ = w

-- what it brings is there
brought-class : (s : Heap) (regs : ℕ → Value) (slots : ℕ → Option ℕ) → IsWhole s regs slots → (r class : ℕ) → class_at s (regs r) ≡ Some class → Has s class
brought-class s regs slots w r class e = go (regs r) e
  where
    known : (k : ℕ) → ◌≡◌ {A = Option ℕ} (Some SMALL_INTEGER) (Some k) → Has s k
    known k is = let same : SMALL_INTEGER ≡ k = cc in subst (λ n. Has s n) same (w.known SMALL_INTEGER refl)

    named : (n : ℕ) (x : Option Object) → s.at n ≡ x → option_and_then (λ (o : Object). Some o.class) x ≡ Some class → Has s class
    named n None f is = let no : ◌≡◌ {A = Option ℕ} None (Some class) = is in absurd (cc)
    named n (Some o) f is = let same : o.class ≡ class = cc in w.closed n o class f (subst (λ k. holds o k ≡ true) same (holds-class o))

    go : (v : Value) → class_at s v ≡ Some class → Has s class
    go (Int z) is = known class is
    go (Ref n) is = named n (s.at n) refl is

brought-field : (s : Heap) (regs : ℕ → Value) (slots : ℕ → Option ℕ) → IsWhole s regs slots → (r i k : ℕ) → part_at s (regs r) (λ b. field_of b i) ≡ Some (Ref k) → Has s k
brought-field s regs slots w r i k e = go (regs r) e
  where
    named : (n : ℕ) (x : Option Object) → s.at n ≡ x → option_and_then (λ (o : Object). field_of o.body i) x ≡ Some (Ref k) → Has s k
    named n None f is = let no : ◌≡◌ {A = Option Value} None (Some (Ref k)) = is in absurd (cc)
    named n (Some o) f is = w.closed n o k f (holds-field o i k is)

    go : (v : Value) → part_at s v (λ b. field_of b i) ≡ Some (Ref k) → Has s k
    go (Int z) is = let no : ◌≡◌ {A = Option Value} None (Some (Ref k)) = is in absurd (cc)
    go (Ref n) is = named n (s.at n) refl is

whole-loaded : (s : Heap) (regs : ℕ → Value) (slots : ℕ → Option ℕ) (to : ℕ) (x : Option Value) → IsWhole s regs slots → ((k : ℕ) → x ≡ Some (Ref k) → Has s k) → IsWhole s (option_map_or (λ v. set_register regs to v) x regs) slots
whole-loaded s regs slots to None w named = w
whole-loaded s regs slots to (Some v) w named = IsWhole-set s regs (set_register regs to v) slots to v w refl (λ k e. named k (ap (λ v. Some v) e))

whole-made : (s : Heap) (regs : ℕ → Value) (slots : ℕ → Option ℕ) (to : ℕ) (o : Object) → IsWhole (add_object s o) regs slots → IsWhole (add_object s o) (set_register regs to (Ref s.next)) slots
whole-made s regs slots to o w = IsWhole-set (add_object s o) regs (set_register regs to (Ref s.next)) slots to (Ref s.next) w refl (λ k e. let same : s.next ≡ k = cc in subst (λ n. Has (add_object s o) n) same (has_here s o))

abbrev pub regs_of : Heap → (ℕ → Value) → Access → ℕ → Value
regs_of s regs a = option_map_or (λ v. regs_after regs a v) (brought s regs a) regs

pub whole-after : (s : Heap) (regs : ℕ → Value) (slots : ℕ → Option ℕ) → IsWhole s regs slots → (a : Access) → CanDo s regs a → IsWhole (heap_after s regs a) (regs_of s regs a) (slots_after regs slots a)
whole-after s regs slots w (Known to name) can = whole-loaded s regs slots to (Some (Ref name)) w (λ k e. let same : name ≡ k = cc in subst (λ n. Has s n) same can.0)
whole-after s regs slots w (Class to of) can = whole-loaded s regs slots to (brought s regs (Class to of)) w (λ k e. brought-class s regs slots w of k (class_is (class_at s (regs of)) k e))
  where
    class_is : (x : Option ℕ) (k : ℕ) → option_and_then (λ class. Some (Ref class)) x ≡ Some (Ref k) → x ≡ Some k
    class_is None k e = let no : ◌≡◌ {A = Option Value} None (Some (Ref k)) = e in cc
    class_is (Some n) k e = cc
whole-after s regs slots w (Field to of i) can = whole-loaded s regs slots to (brought s regs (Field to of i)) w (λ k e. brought-field s regs slots w of i k e)
whole-after s regs slots w (Make to class what) can = whole-made s regs slots to (record { class = name_at (regs class); body = body_made what }) (whole-heap s regs slots w (Make to class what))
whole-after s regs slots w (Pin slot of) can = IsWhole-pin s regs slots (set_slot slots slot (Some (name_at (regs of)))) slot (Some (name_at (regs of))) w refl (λ k e. let same : name_at (regs of) ≡ k = cc in subst (λ n. Has s n) same (named-there s regs slots w of))
whole-after s regs slots w (SetField of i from) can = whole-heap s regs slots w (SetField of i from)
whole-after s regs slots w (SetWord of i word) can = whole-heap s regs slots w (SetWord of i word)
whole-after s regs slots w (SetByte of i byte) can = whole-heap s regs slots w (SetByte of i byte)
whole-after s regs slots w (WriteWords of at run) can = whole-heap s regs slots w (WriteWords of at run)
whole-after s regs slots w (Swap p q) can = whole-heap s regs slots w (Swap p q)
whole-after s regs slots w _ can = w

-- ---- the law

agrees-over : (h s : Heap) (regs : ℕ → Value) (slots : ℕ → Option ℕ) (transcript : List ℕ) (a : Access) → IsThinning h s regs slots → IsBounded h → CanDo s regs a → Agrees (record { heap = h; regs = regs; slots = slots; transcript = transcript }) (record { heap = s; regs = regs; slots = slots; transcript = transcript }) a
agrees-over h s regs slots transcript a t b can = record {
  can = can-same h s regs slots t b a can;
  thinned = record {
    thinning = record { thinner = heap-thinner h s regs slots t a; whole = whole-after s regs slots t.whole a can };
    bounded = heap-bounded h regs a b;
    regs = ap (λ x. option_map_or (λ v. regs_after regs a v) x regs) (sym (brought-same h s regs slots t a));
    slots = refl;
    transcript = ap (λ x. transcript ++ option_map_or (λ bytes. bytes) x []) (sym (said-same h s regs slots t a));
  };
  object = object_of-same h s regs t.thinner a;
  words = words-same h s regs slots t a can;
  entries = entries-same h s regs slots t a;
  other_object = other_object_of-same h s regs t.thinner a;
  other_words = other_words-same h s regs slots t a can;
  other_entries = other_entries-same h s regs slots t a;
  answer = answer-same h s regs slots t a;
  value = brought-same h s regs slots t a;
  bytes = said-same h s regs slots t a;
}

-- an access that a thinning can do
pub agrees : (full thin : State) (a : Access) → IsThinned full thin → CanDo thin.heap thin.regs a → Agrees full thin a
agrees full thin a t can = subst (λ f. Agrees f thin a) same (agrees-over full.heap thin.heap thin.regs thin.slots thin.transcript a t.thinning t.bounded can)
  where
    same : (let f : State = record { heap = full.heap; regs = thin.regs; slots = thin.slots; transcript = thin.transcript } in f) ≡ full
    same =
        ap (λ (x : ℕ → Value). let f : State = record { heap = full.heap; regs = x; slots = thin.slots; transcript = thin.transcript } in f) t.regs
        ∙ ap (λ (x : ℕ → Option ℕ). let f : State = record { heap = full.heap; regs = full.regs; slots = x; transcript = thin.transcript } in f) t.slots
        ∙ ap (λ (x : List ℕ). let f : State = record { heap = full.heap; regs = full.regs; slots = full.slots; transcript = x } in f) t.transcript

-- a whole state is a thinning of itself
pub IsThinned-refl : (s : State) → IsWhole s.heap s.regs s.slots → IsThinned s s
IsThinned-refl s w = record { thinning = IsThinning-refl s.heap s.regs s.slots w; bounded = IsWhole-bounded s.heap s.regs s.slots w; regs = refl; slots = refl; transcript = refl }

pub IsThinned-trans : (a b c : State) → IsThinned a b → IsThinned b c → IsThinned a c
IsThinned-trans a b c t u = record { thinning = IsThinning-trans a.heap b.heap c.heap b.regs c.regs b.slots c.slots t.thinning u.thinning; bounded = t.bounded; regs = u.regs ∙ t.regs; slots = u.slots ∙ t.slots; transcript = u.transcript ∙ t.transcript }
