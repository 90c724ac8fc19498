-- No access changes the size of an object.
-- That is `size-after`, by cases over the access; `size-later` carries it to a thinner heap. The kept sizes say the need of a
-- row by `need-with`, slot by slot (`BoundedLaws`).
use Rattle.std.proofs.Common.{zero, suc, ⊎_elim, ◌≡◌, ℕ, ◌+◌, ◌/◌, ◌<◌, ◌≤◌, Bool, true, false, cond, eqb, List, [], ◌∷◌, ◌++◌, length, take, drop, Option, Some, None, IsTrue, refl, sym, ◌∙◌, ap, subst, arith, length-append, length-drop}
use Rattle.std.proofs.lemmas.Grind.{common_steps}
use Rattle.std.proofs.lemmas.Bool.{cases_lt}
use Rattle.std.specs.List.{slice_index_or}
use Rattle.std.proofs.lemmas.List.{length-set, length-take}
use Rattle.std.specs.Option.{option_map_or, option_and_then}
use Rattle.long_names.specs.declared.value.Value.{Value}
use Rattle.long_names.specs.declared.value.Value.TheVariants.{Int, Ref}
use Rattle.long_names.specs.declared.object.Body.{Body}
use Rattle.long_names.specs.declared.object.Body.TheVariants.{Pointers, Words, Bytes, Method}
use Rattle.long_names.specs.declared.object.Object.{Object}
use Rattle.long_names.specs.Objects.{fields_of, body_words, words_of, bytes_of, put_run, with_field, with_words, with_bytes}
use Rattle.long_names.specs.Heap.{Heap, Has, put_object, add_object}
use Rattle.long_names.specs.Need.{words_at, entries_at}
use Rattle.long_names.specs.State.{name_at, part_at}
use Rattle.long_names.specs.Access.{Access, Make, SetField, SetWord, SetByte, WriteWords, Swap, CanDo, HasSlots, with_body, with_swapped, heap_after}
use Rattle.long_names.specs.Thin.{IsThinner, IsWhole}
use Rattle.long_names.proofs.ThinLemmas.{same-there, swapped_apart}
use Rattle.long_names.proofs.AccessLaws.{words_at-same, entries_at-same}
use Rattle.object_memory.specs.Told.{Told, IsReady}
use Rattle.bounded_memory.specs.declared.pins.Pin.{Pin}
use Rattle.bounded_memory.specs.declared.pins.Pins.{Pins}
use Rattle.bounded_memory.specs.Pins.{pin_at}
use Rattle.bounded_memory.specs.Bounded.{IsPinnedAs, ArePinned}
use Rattle.bounded_memory.proofs.SizeLaws.{words-at, entries-at}

-- two bodies of one size
record SameBody (a b : Body) : Type 0 where
  pub words : body_words a ≡ body_words b
  pub fields : length (fields_of a) ≡ length (fields_of b)

-- two heaps in which a name has one size
pub record SameSize (h s : Heap) (n : ℕ) : Type 0 where
  pub words : words_at h n ≡ words_at s n
  pub entries : entries_at h n ≡ entries_at s n

pub size-at : (h s : Heap) (n : ℕ) → h.at n ≡ s.at n → SameSize h s n
size-at h s n e = record { words = words_at-same h s n e; entries = entries_at-same h s n e }

same-field : (b : Body) (i : ℕ) (v : Value) → SameBody (with_field b i v) b
same-field (Pointers values) i v = record { words = length-set values i v; fields = length-set values i v }
same-field (Words words) i v = record { words = refl; fields = refl }
same-field (Bytes bytes) i v = record { words = refl; fields = refl }
same-field (Method header literals code) i v = record { words = ap (λ n. 1 + n + (length code + 1) / 2) (length-set literals i v); fields = length-set literals i v }

length-put_run : (xs : List ℕ) (at : ℕ) (run : List ℕ) → at + length run ≤ length xs → length (put_run xs at run) ≡ length xs
length-put_run xs at run low = omega (arith, length-append (take at xs ++ run) (drop (at + length run) xs), length-append (take at xs) run, length-take at xs, length-drop (at + length run) xs)

same-words : (b : Body) (at : ℕ) (run words : List ℕ) → words_of b ≡ Some words → at + length run ≤ length words → SameBody (with_words b at run) b
same-words (Pointers values) at run words is low = record { words = refl; fields = refl }
same-words (Words own) at run words is low = (let same : own ≡ words = cc in record { words = length-put_run own at run (subst (λ xs. at + length run ≤ length xs) (sym same) low); fields = refl })
same-words (Bytes bytes) at run words is low = record { words = refl; fields = refl }
same-words (Method header literals code) at run words is low = record { words = refl; fields = refl }

same-bytes : (b : Body) (at : ℕ) (run bytes : List ℕ) → bytes_of b ≡ Some bytes → at + length run ≤ length bytes → SameBody (with_bytes b at run) b
same-bytes (Pointers values) at run bytes is low = record { words = refl; fields = refl }
same-bytes (Words words) at run bytes is low = record { words = refl; fields = refl }
same-bytes (Bytes own) at run bytes is low = (let same : own ≡ bytes = cc in record { words = ap (λ n. (n + 1) / 2) (length-put_run own at run (subst (λ xs. at + length run ≤ length xs) (sym same) low)); fields = refl })
same-bytes (Method header literals own) at run bytes is low = (let same : own ≡ bytes = cc in record { words = ap (λ n. 1 + length literals + (n + 1) / 2) (length-put_run own at run (subst (λ xs. at + length run ≤ length xs) (sym same) low)); fields = refl })

size-put : (h : Heap) (n : ℕ) (o p : Object) (k : ℕ) → h.at n ≡ Some p → SameBody o.body p.body → SameSize (put_object h n o) h k
size-put h n o p k at same = go (eqb k n) refl
  where
    go : (b : Bool) → eqb k n ≡ b → SameSize (put_object h n o) h k
    go true e =
        let here : k ≡ n = grind (arith, common_steps, e) in
        let new : (put_object h n o).at k ≡ Some o = ap (λ b. cond b (Some o) (h.at k)) e in
        let old : h.at k ≡ Some p = ap h.at here ∙ at in
        record {
          words = words-at (put_object h n o) k o new ∙ ap (λ w. 4 + w) same.words ∙ sym (words-at h k p old);
          entries = entries-at (put_object h n o) k o new ∙ ap (λ w. 2 + w) same.fields ∙ sym (entries-at h k p old);
        }
    go false e = size-at (put_object h n o) h k (ap (λ b. cond b (Some o) (h.at k)) e)

size-body : (h : Heap) (v : Value) (change : Body → Body) (k : ℕ) → ((n : ℕ) (o : Object) → v ≡ Ref n → h.at n ≡ Some o → SameBody (change o.body) o.body) → SameSize (with_body h v change) h k
size-body h (Int z) change k same = record { words = refl; entries = refl }
size-body h (Ref n) change k same = go (h.at n) refl
  where
    go : (x : Option Object) → h.at n ≡ x → SameSize (option_map_or (λ (o : Object). put_object h n (record { class = o.class; body = change o.body })) x h) h k
    go None e = record { words = refl; entries = refl }
    go (Some o) e = size-put h n (record { class = o.class; body = change o.body }) o k e (same n o refl e)

pub size-add : (h : Heap) (o : Object) (k : ℕ) → k < h.next → SameSize (add_object h o) h k
size-add h o k low = (let e : eqb k h.next ≡ false = grind (arith, common_steps) in size-at (add_object h o) h k (ap (λ b. cond b (Some o) (h.at k)) e))

-- a part of the object that a register names is that of the object under its name
part-there : {A : Type 0} (h : Heap) (v : Value) (f : Body → Option A) (n : ℕ) (o : Object) (x : A) → v ≡ Ref n → h.at n ≡ Some o → part_at h v f ≡ Some x → f o.body ≡ Some x
part-there h v f n o x e at is =
    let named : part_at h (Ref n) f ≡ Some x = subst (λ v. part_at h v f ≡ Some x) e is in
    subst (λ y. option_and_then (λ (o : Object). f o.body) y ≡ Some x) at named

-- the access changes the place of no object of this name
abbrev pub StaysAt : (ℕ → Value) → Access → ℕ → Type 0
StaysAt regs (Swap p q) k = (k ≡ name_at (regs p) → ⊥) × (k ≡ name_at (regs q) → ⊥)
StaysAt regs _ k = Unit {0}

-- a pinned object stays in its place
pub pinned-stays : (regs : ℕ → Value) (slots : ℕ → Option ℕ) (a : Access) (i k : ℕ) → i < 3 → HasSlots regs slots a → slots i ≡ Some k → StaysAt regs a k
pinned-stays regs slots (Swap p q) i k low free e = (λ is. free.0 i low (e ∙ ap (λ n. Some n) is), λ is. free.1 i low (e ∙ ap (λ n. Some n) is))
pinned-stays regs slots _ i k low free e = tt

size-swapped : (h : Heap) (v w : Value) (k : ℕ) → (k ≡ name_at v → ⊥) → (k ≡ name_at w → ⊥) → SameSize (with_swapped h v w) h k
size-swapped h (Int z) w k one two = record { words = refl; entries = refl }
size-swapped h (Ref n) (Int z) k one two = record { words = refl; entries = refl }
size-swapped h (Ref n) (Ref m) k one two = size-at (with_swapped h (Ref n) (Ref m)) h k (swapped_apart h n m k one two)

pub size-after : (h : Heap) (regs : ℕ → Value) (slots : ℕ → Option ℕ) (a : Access) (k : ℕ) → IsWhole h regs slots → CanDo h regs a → StaysAt regs a k → Has h k → SameSize (heap_after h regs a) h k
size-after h regs slots (SetField of i from) k whole can stays there = size-body h (regs of) _ k (λ n o e at. same-field o.body i (regs from))
size-after h regs slots (SetWord of i word) k whole can stays there = size-body h (regs of) _ k (λ n o e at. same-words o.body i (word ∷ []) can.0 (part-there h (regs of) words_of n o can.0 e at can.1) (let low = can.2 in omega arith))
size-after h regs slots (SetByte of i byte) k whole can stays there = size-body h (regs of) _ k (λ n o e at. same-bytes o.body i (byte ∷ []) can.0 (part-there h (regs of) bytes_of n o can.0 e at can.1) (let low = can.2 in omega arith))
size-after h regs slots (WriteWords of at run) k whole can stays there = size-body h (regs of) _ k (λ n o e is. same-words o.body at run can.0 (part-there h (regs of) words_of n o can.0 e is can.1) can.2)
size-after h regs slots (Make to class what) k whole can stays there = size-add h _ k (whole.below k there)
size-after h regs slots (Swap p q) k whole can stays there = size-swapped h (regs p) (regs q) k stays.0 stays.1
size-after h regs slots _ k whole can stays there = record { words = refl; entries = refl }

-- ---- the pinned objects

pub pinned-same : (h s : Heap) (x : Option ℕ) (p : Option Pin) → ((k : ℕ) → x ≡ Some k → SameSize s h k) → IsPinnedAs h x p → IsPinnedAs s x p
pinned-same h s None None same is = tt
pinned-same h s None (Some p) same is = is
pinned-same h s (Some n) None same is = is
pinned-same h s (Some n) (Some p) same is = (let size = same n refl in (is.0, is.1 ∙ sym size.words, is.2 ∙ sym size.entries))

-- in the heap after an access, or a thinner one, each name that both have has its size
pub size-later : (h s : Heap) (regs : ℕ → Value) (slots : ℕ → Option ℕ) (a : Access) (k : ℕ) → IsWhole h regs slots → CanDo h regs a → StaysAt regs a k → IsThinner (heap_after h regs a) s → Has h k → Has s k → SameSize s h k
size-later h s regs slots a k whole can stays thinner there here =
    let after = size-after h regs slots a k whole can stays there in
    let thin = size-at (heap_after h regs a) s k (same-there (heap_after h regs a) s k thinner here) in
    record { words = sym thin.words ∙ after.words; entries = sym thin.entries ∙ after.entries }

-- there are three slots
no-pin : (pins : Pins) (i : ℕ) → 3 ≤ i → pin_at pins i ≡ None
no-pin pins i high = go pins.slots i (let three = pins.three in omega arith)
  where
    go : (xs : List (Option Pin)) (i : ℕ) → length xs ≤ i → slice_index_or xs i None ≡ None
    go [] i low = refl
    go (x ∷ xs) zero low = absurd (omega arith)
    go (x ∷ xs) (suc i) low = go xs i (omega arith)

none-pinned : (h s : Heap) (x : Option ℕ) (p : Option Pin) → p ≡ None → IsPinnedAs h x p → IsPinnedAs s x p
none-pinned h s None None e is = tt
none-pinned h s (Some n) None e is = is
none-pinned h s x (Some p) e is = absurd (cc)

-- what an access leaves, whose slots are as before
pub pinned-after : (p q : Told) (a : Access) (pins : Pins) → IsReady p → IsReady q → IsTrue p.tells → IsTrue q.tells → CanDo p.heap p.regs a → HasSlots p.regs p.slots a → q.slots ≡ p.slots → IsThinner (heap_after p.heap p.regs a) q.heap → ArePinned p pins → ArePinned q pins
pinned-after p q a pins ready later told told' can free slots thinner are i =
    subst (λ (s : ℕ → Option ℕ). IsPinnedAs q.heap (s i) (pin_at pins i)) (sym slots)
    (⊎_elim (λ (low : i < 3). pinned-same p.heap q.heap (p.slots i) (pin_at pins i)
    (λ k e. size-later p.heap q.heap p.regs p.slots a k (ready.whole told) can (pinned-stays p.regs p.slots a i k low free e) thinner ((ready.whole told).pinned i k e) ((later.whole told').pinned i k (ap (λ (s : ℕ → Option ℕ). s i) slots ∙ e)))
    (are i)) (λ (high : 3 ≤ i). none-pinned p.heap q.heap (p.slots i) (pin_at pins i) (no-pin pins i high) (are i)) (cases_lt i 3))
