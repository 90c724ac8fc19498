-- Stores into objects.
use Rattle.contexts.proofs.ServesLaws.{fits_later}
use Rattle.std.proofs.Common.{◌≡◌, ℕ, ◌<◌, Bool, true, false, List, [], ◌∷◌, length, Option, Some, None, Result, Ok, Err, IsTrue, is_some, refl, sym, ◌∙◌, ap, subst, subst₂, arith}
use Rattle.std.specs.List.{slice_get}
use Rattle.std.specs.Option.{option_map_or, option_and_then}
use Rattle.long_names.specs.declared.value.Value.{Value}
use Rattle.long_names.specs.declared.value.Value.TheVariants.{Int, Ref}
use Rattle.long_names.specs.declared.object.Body.{Body}
use Rattle.long_names.specs.declared.object.Object.{Object}
use Rattle.long_names.specs.Objects.{pointers_of, words_of, bytes_of, field_of, with_words, with_bytes}
use Rattle.long_names.specs.Heap.{Heap, put_object}
use Rattle.long_names.specs.State.{IsRef, part_at}
use Rattle.long_names.specs.Access.{Access, KindOf, SetField, SetWord, SetByte, with_body, heap_after}
use Rattle.long_names.specs.Thin.{IsThinner, IsThinning}
use Rattle.long_names.proofs.ThinLemmas.{has}
use Rattle.long_names.proofs.AccessLaws.{part-same}
use Rattle.object_memory.specs.declared.fault.MemFault.{MemFault}
use Rattle.object_memory.specs.Told.{Told, IsReady}
use Rattle.object_memory.specs.Contract.{Does, MayDo, Called, Raised}
use Rattle.object_memory.specs.Shape.{HasPartAt, Looks, ReadsObject}
use Rattle.object_memory.proofs.LaterLaws.{IsLater-refl}
use Rattle.object_memory.proofs.LeftLaws.{heap_over}
use Rattle.object_memory.proofs.LooksLaws.{regs_looked}
use Rattle.blue_model.specs.declared.cause.Cause.TheVariants.{Shape}
use Rattle.blue_model.specs.declared.cpu.Cpu.{Cpu}
use Rattle.blue_model.specs.Machine.{Machine, Rule, rows_at, log_of, is_there, store, store_word, store_byte, stored, changed}
use Rattle.blue_model.specs.Parts.{field}
use Rattle.blue_model.specs.Contexts.{store_field}
use Rattle.contexts.specs.declared.stop.Stop.{Stop}
use Rattle.contexts.specs.declared.stop.Stop.TheVariants.{Stuck, Mem}
use Rattle.contexts.specs.Serves.{Stands, IsLogged, Gives, Serves}
use Rattle.contexts.proofs.CacheLaws.{sound_follows}
use Rattle.contexts.proofs.Steps.{read_first}
use Rattle.contexts.proofs.ReadLaws.{quiet, reaches, part_first, object_refused}
use Rattle.contexts.proofs.PartLaws.{field_tested}

-- ---- what a rule writes down

-- A value that a register holds is in each machine that the memory stands for.
pub held_there : (h s : Heap) (regs : ℕ → Value) (slots : ℕ → Option ℕ) → IsThinning h s regs slots → (r : ℕ) → is_there h (regs r) ≡ true
held_there h s regs slots t r = go (regs r) refl
  where
    go : (v : Value) → regs r ≡ v → is_there h v ≡ true
    go (Int z) e = refl
    go (Ref n) e = let it = has s n (t.whole.rooted r n e) in ap is_some (t.thinner.same n it.0 it.1)

-- what a memory keeps, as a thinning of the machine's heap
pub thinned_here : (t : Told) (cpu : Cpu) (m : Machine) → IsReady t → IsTrue t.tells → Stands t cpu m → IsThinning m.heap t.heap t.regs t.slots
thinned_here t cpu m ready told st = record { thinner = st.heap; whole = ready.whole told }

next_stored : (h : Heap) (v : Value) (change : Body → Body) → (with_body h v change).next ≡ h.next
next_stored h (Int z) change = refl
next_stored h (Ref n) change = go (h.at n)
  where
    go : (x : Option Object) → (option_map_or (λ (o : Object). put_object h n (record { class = o.class; body = change o.body })) x h).next ≡ h.next
    go None = refl
    go (Some o) = refl

-- ---- stores

-- a store that was answered
pub store_serves : {Z : Type 0} {z : Z} {old new : Told} {cpu : Cpu} (of i from : ℕ) → IsReady old → IsReady new → MayDo old (SetField of i from) → Called old new (Does (SetField of i from)) (Ok z) → Serves old cpu new cpu (store (old.regs of) i (old.regs from)) (Ok tt)
unfolding store
store_serves {Z} {z} {old} {new} {cpu} of i from before ready may x = record {
  later = x.later;
  ready = ready;
  reason = tt;
  counts = (0, record { counts = x.ok.counts; next = λ told. (let same = (x.ok.heap told).next ∙ next_stored old.heap (old.regs of) _ in omega arith) });
  vault = λ may. may;
  silent = x.ok.transcript;
  model = λ told m st.
      let it = may.heap told in
      let thinning = thinned_here old cpu m before told st in
      let here : part_at m.heap (old.regs of) (λ b. field_of b i) ≡ Some it.0 = part-same m.heap old.heap old.regs old.slots thinning of (λ b. field_of b i) ∙ it.1 in
      let there : is_there m.heap (old.regs from) ≡ true = held_there m.heap old.heap old.regs old.slots thinning from in
      subst₂ (λ x b. Gives new cpu (Ok tt) (stored m (old.regs of) i (old.regs from) x b)) (sym here) (sym there) (
        refl,
        record {
          heap = heap_over m.heap old new (SetField of i from) st.heap before x.ok told;
          regs = λ r low. st.regs r low ∙ sym (ap (λ (g : ℕ → Value). g r) x.ok.regs);
          slots = st.slots ∙ sym x.ok.slots;
          numbers = st.numbers;
          fits = fits_later old.bounds new.bounds m.largest x.later.bounds st.fits;
          transcript = λ speaks. (let spoke = sym x.later.speaks ∙ speaks in x.ok.transcript spoke ∙ st.transcript spoke);
          cache = sound_follows old new (Does (SetField of i from)) before ready x.ok told (x.later.tells ∙ told) st.cache;
        },
      );
}

log_stored : (m : Machine) (v : Value) (i : ℕ) (w : Value) (x : Option Value) (b : Bool) → log_of (stored m v i w x b) ≡ rows_at m v
log_stored m v i w None b = refl
log_stored m v i w (Some old) false = refl
log_stored m v i w (Some old) true = refl

-- and one that was refused
pub store_refused : {Z : Type 0} {old new : Told} {cpu : Cpu} {f : MemFault} (of i from : ℕ) → IsReady old → IsRef (old.regs of) → Called {A = Z} old new (Does (SetField of i from)) (Err f) → Serves old cpu new cpu (store (old.regs of) i (old.regs from)) (Err (Mem f))
unfolding store
store_refused {Z} {old} {new} {cpu} {f} of i from ready named x = object_refused of (SetField of i from) refl (λ m need row. subst (IsLogged need) (sym (log_stored m (old.regs of) i (old.regs from) (part_at m.heap (old.regs of) (λ b. field_of b i)) (is_there m.heap (old.regs from)))) row) ready (λ told. named) x

-- The same, where the values were read before.
pub store_serves_at : {Z : Type 0} {z : Z} {old new : Told} {cpu : Cpu} (of i from : ℕ) (v w : Value) → old.regs of ≡ v → old.regs from ≡ w → IsReady old → IsReady new → MayDo old (SetField of i from) → Called old new (Does (SetField of i from)) (Ok z) → Serves old cpu new cpu (store v i w) (Ok tt)
store_serves_at {Z} {z} {old} {new} {cpu} of i from v w e f before ready may x = subst₂ (λ y z. Serves old cpu new cpu (store y i z) (Ok tt)) e f (store_serves of i from before ready may x)

pub store_refused_at : {Z : Type 0} {old new : Told} {cpu : Cpu} {f : MemFault} (of i from : ℕ) (v w : Value) → old.regs of ≡ v → old.regs from ≡ w → IsReady old → IsRef (old.regs of) → Called {A = Z} old new (Does (SetField of i from)) (Err f) → Serves old cpu new cpu (store v i w) (Err (Mem f))
store_refused_at {Z} {old} {new} {cpu} {f} of i from v w e g ready named x = subst₂ (λ y z. Serves old cpu new cpu (store y i z) (Err (Mem f))) e g (store_refused of i from ready named x)

-- ---- a store into a field that was tested before

-- the rule of a store, after the test
pub store_first : {old mid new : Told} {cpu : Cpu} {answer : Result (Unit {0}) Stop} (of i from : ℕ) → IsReady old → IsReady mid → Looks [] old mid → HasPartAt mid of pointers_of (λ xs. i < length xs) → Serves mid cpu new cpu (store (mid.regs of) i (mid.regs from)) answer → Serves old cpu new cpu (store_field (old.regs of) i (old.regs from)) answer
unfolding store_field
store_first {old} {mid} {new} {cpu} {answer} of i from before ready looks known s =
    let same = regs_looked old mid looks in
    read_first before (quiet [] old mid refl before ready looks)
    (subst (λ (regs : ℕ → Value). Serves mid cpu new cpu (store_field (regs of) i (regs from)) answer) same (part_first Shape (field 0 i) of (λ told. (let it = field_tested i known told in (it.0, it.1))) s))

-- ---- a store into a value or a literal, as one of both was tested before

-- reads came first, and the store may be made
pub record IsStorable (old mid : Told) (of i from : ℕ) : Type 0 where
  pub ready : IsReady mid
  pub looks : Looks [] old mid
  pub may : MayDo mid (SetField of i from)

-- the rule of a store, after reads
pub store_later : {old mid new : Told} {cpu : Cpu} {answer : Result (Unit {0}) Stop} (of i from : ℕ) → IsReady old → IsReady mid → Looks [] old mid → Serves mid cpu new cpu (store (mid.regs of) i (mid.regs from)) answer → Serves old cpu new cpu (store (old.regs of) i (old.regs from)) answer
store_later {old} {mid} {new} {cpu} {answer} of i from before ready looks s = read_first before (quiet [] old mid refl before ready looks) (subst (λ (regs : ℕ → Value). Serves mid cpu new cpu (store (regs of) i (regs from)) answer) (regs_looked old mid looks) s)

-- a read of the object was refused
pub store_unread : {Z : Type 0} {old new : Told} {cpu : Cpu} {f : MemFault} (of i from : ℕ) → IsReady old → ReadsObject {A = Z} old new of (Err f) → Serves old cpu new cpu (store (old.regs of) i (old.regs from)) (Err (Mem f))
unfolding store
store_unread {Z} {old} {new} {cpu} {f} of i from ready x = object_refused of (KindOf of) refl (λ m need row. subst (IsLogged need) (sym (log_stored m (old.regs of) i (old.regs from) (part_at m.heap (old.regs of) (λ b. field_of b i)) (is_there m.heap (old.regs from)))) row) ready (λ told. x.named) x.called

-- the object has no such value
pub store_stuck : {t : Told} {cpu : Cpu} (of i from : ℕ) → IsReady t → (IsTrue t.tells → part_at t.heap (t.regs of) (λ b. field_of b i) ≡ None) → Serves t cpu t cpu (store (t.regs of) i (t.regs from)) (Err (Stuck Shape))
unfolding store
store_stuck {t} {cpu} of i from ready none = record {
  later = IsLater-refl t;
  ready = tt;
  reason = tt;
  counts = tt;
  vault = tt;
  silent = λ speaks. refl;
  model = λ told m st.
      let lost : part_at m.heap (t.regs of) (λ b. field_of b i) ≡ None = part-same m.heap t.heap t.regs t.slots (thinned_here t cpu m ready told st) of (λ b. field_of b i) ∙ none told in
      subst (λ x. Gives {A = Unit {0}} t cpu (Err (Stuck Shape)) (stored m (t.regs of) i (t.regs from) x (is_there m.heap (t.regs from)))) (sym lost) refl;
}

-- ---- stores into words and bytes

-- a change of the body of the object that a value names, where it has this part
abbrev pub change_where : {A : Type 0} → (Body → Option A) → (Body → Body) → Value → Rule (Unit {0})
change_where f change v m = changed m v change (is_some (part_at m.heap v f))

-- a store that was answered,
change_serves : {A Z : Type 0} {z : Z} {old new : Told} {cpu : Cpu} (f : Body → Option A) (change : Body → Body) (of : ℕ) (a : Access) → ((h : Heap) → heap_after h old.regs a ≡ with_body h (old.regs of) change) → new.regs ≡ old.regs → new.slots ≡ old.slots → Raised 0 old.bounds new.bounds → (IsTrue old.speaks → new.transcript ≡ old.transcript) → IsReady old → IsReady new → (IsTrue old.tells → (x : A) × (part_at old.heap (old.regs of) f ≡ Some x)) → Called old new (Does a) (Ok z) → Serves old cpu new cpu (change_where f change (old.regs of)) (Ok tt)
change_serves {A} {Z} {z} {old} {new} {cpu} f change of a over regs slots counts silent before ready there x = record {
  later = x.later;
  ready = ready;
  reason = tt;
  counts = (0, record { counts = counts; next = λ told. (let same = (x.ok.heap told).next ∙ ap (λ (h : Heap). h.next) (over old.heap) ∙ next_stored old.heap (old.regs of) change in omega arith) });
  vault = λ may. may;
  silent = silent;
  model = λ told m st.
      let it = there told in
      let here : part_at m.heap (old.regs of) f ≡ Some it.0 = part-same m.heap old.heap old.regs old.slots (thinned_here old cpu m before told st) of f ∙ it.1 in
      subst (λ x. Gives new cpu (Ok tt) (changed m (old.regs of) change (is_some x))) (sym here) (
        refl,
        record {
          heap = subst (λ (h : Heap). IsThinner h new.heap) (over m.heap) (heap_over m.heap old new a st.heap before x.ok told);
          regs = λ r low. st.regs r low ∙ sym (ap (λ (g : ℕ → Value). g r) regs);
          slots = st.slots ∙ sym slots;
          numbers = st.numbers;
          fits = fits_later old.bounds new.bounds m.largest x.later.bounds st.fits;
          transcript = λ speaks. (let spoke = sym x.later.speaks ∙ speaks in silent spoke ∙ st.transcript spoke);
          cache = sound_follows old new (Does a) before ready x.ok told (x.later.tells ∙ told) st.cache;
        },
      );
}

log_changed : (m : Machine) (v : Value) (change : Body → Body) (b : Bool) → log_of (changed m v change b) ≡ rows_at m v
log_changed m v change true = refl
log_changed m v change false = refl

-- one that was refused, or a read of the object,
pub change_refused : {A Z : Type 0} {old new : Told} {cpu : Cpu} {e : MemFault} (f : Body → Option A) (change : Body → Body) (of : ℕ) (a : Access) → reaches a ≡ Some of → IsReady old → IsRef (old.regs of) → Called {A = Z} old new (Does a) (Err e) → Serves old cpu new cpu (change_where f change (old.regs of)) (Err (Mem e))
change_refused {A} {Z} {old} {new} {cpu} {e} f change of a is ready named x = object_refused of a is (λ m need row. subst (IsLogged need) (sym (log_changed m (old.regs of) change (is_some (part_at m.heap (old.regs of) f)))) row) ready (λ told. named) x

-- and an object that has no such part.
pub change_stuck : {A : Type 0} {t : Told} {cpu : Cpu} (f : Body → Option A) (change : Body → Body) (of : ℕ) → IsReady t → (IsTrue t.tells → part_at t.heap (t.regs of) f ≡ None) → Serves t cpu t cpu (change_where f change (t.regs of)) (Err (Stuck Shape))
change_stuck {A} {t} {cpu} f change of ready none = record {
  later = IsLater-refl t;
  ready = tt;
  reason = tt;
  counts = tt;
  vault = tt;
  silent = λ speaks. refl;
  model = λ told m st.
      let lost : part_at m.heap (t.regs of) f ≡ None = part-same m.heap t.heap t.regs t.slots (thinned_here t cpu m ready told st) of f ∙ none told in
      subst (λ x. Gives {A = Unit {0}} t cpu (Err (Stuck Shape)) (changed m (t.regs of) change (is_some x))) (sym lost) refl;
}

-- the rule after reads
pub change_later : {A : Type 0} {old mid new : Told} {cpu : Cpu} {answer : Result (Unit {0}) Stop} (f : Body → Option A) (change : Body → Body) (of : ℕ) → IsReady old → IsReady mid → Looks [] old mid → Serves mid cpu new cpu (change_where f change (mid.regs of)) answer → Serves old cpu new cpu (change_where f change (old.regs of)) answer
change_later {A} {old} {mid} {new} {cpu} {answer} f change of before ready looks s = read_first before (quiet [] old mid refl before ready looks) (subst (λ v. Serves mid cpu new cpu (change_where f change v) answer) (looks.regs of refl) s)

-- ---- the rules of words and bytes

abbrev pub word_of : ℕ → Body → Option ℕ
word_of i b = option_and_then (λ (words : List ℕ). slice_get words i) (words_of b)

abbrev pub with_word : ℕ → ℕ → Body → Body
with_word i word b = with_words b i (word ∷ [])

abbrev pub byte_of : ℕ → Body → Option ℕ
byte_of i b = option_and_then (λ (bytes : List ℕ). slice_get bytes i) (bytes_of b)

abbrev pub with_byte : ℕ → ℕ → Body → Body
with_byte i byte b = with_bytes b i (byte ∷ [])

-- a word or a byte was stored
pub word_serves : {Z : Type 0} {z : Z} {old new : Told} {cpu : Cpu} (of i word : ℕ) → IsReady old → IsReady new → (IsTrue old.tells → (x : ℕ) × (part_at old.heap (old.regs of) (word_of i) ≡ Some x)) → Called old new (Does (SetWord of i word)) (Ok z) → Serves old cpu new cpu (store_word (old.regs of) i word) (Ok tt)
unfolding store_word
word_serves of i word before ready there x = change_serves (word_of i) (with_word i word) of (SetWord of i word) (λ h. refl) x.ok.regs x.ok.slots x.ok.counts x.ok.transcript before ready there x

pub byte_serves : {Z : Type 0} {z : Z} {old new : Told} {cpu : Cpu} (of i byte : ℕ) → IsReady old → IsReady new → (IsTrue old.tells → (x : ℕ) × (part_at old.heap (old.regs of) (byte_of i) ≡ Some x)) → Called old new (Does (SetByte of i byte)) (Ok z) → Serves old cpu new cpu (store_byte (old.regs of) i byte) (Ok tt)
unfolding store_byte
byte_serves of i byte before ready there x = change_serves (byte_of i) (with_byte i byte) of (SetByte of i byte) (λ h. refl) x.ok.regs x.ok.slots x.ok.counts x.ok.transcript before ready there x
