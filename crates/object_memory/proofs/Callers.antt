-- What a caller may do, from what it knows of registers and of the objects that they name.
use Rattle.std.proofs.Common.{zero, suc, ◌≡◌, ℕ, ℤ, ◌+◌, ◌^◌, ◌<◌, ◌≤◌, true, List, [], ◌∷◌, length, All, Option, Some, None, IsTrue, is_some, refl, sym, ap, subst, arith}
use Rattle.std.specs.Option.{option_and_then}
use Rattle.std.specs.List.{slice_get}
use Rattle.long_names.specs.declared.value.Value.{Value}
use Rattle.long_names.specs.declared.value.Value.TheVariants.{Int, Ref}
use Rattle.long_names.specs.declared.object.Body.{Body}
use Rattle.long_names.specs.declared.object.Body.TheVariants.{Pointers, Words, Bytes, Method}
use Rattle.long_names.specs.declared.object.Object.{Object}
use Rattle.long_names.specs.Names.{SMALL_INTEGER, is_known}
use Rattle.long_names.specs.Objects.{kind_of, len_of, field_of, header_of, pointers_of, literals_of, words_of, bytes_of, text_of, holds, Making, CanMake}
use Rattle.long_names.specs.Kept.{holds_at}
use Rattle.long_names.specs.Thin.{IsWhole}
use Rattle.long_names.specs.State.{IsRef, name_at, object_at, class_at}
use Rattle.long_names.specs.Access.{Known, Class, KindOf, Length, Header, Field, SetField, Word, SetWord, Byte, SetByte, ReadWords, WriteWords, ReadBytes, Make, Pin, Mark, Say, Swap, IsUnpinned, is_held}
use Rattle.long_names.proofs.ThinLemmas.{has, or_first, or_second}
use Rattle.long_names.proofs.KeptLaws.{any_below-from, holding}
use Rattle.object_memory.specs.Told.{Told, IsReady}
use Rattle.object_memory.specs.Contract.{MayDo}
use Rattle.object_memory.specs.Shape.{HasPartAt}

-- ---- names

-- a register that holds a name has an object
named : (t : Told) (r : ℕ) (v : Value) → t.regs r ≡ v → IsWhole t.heap t.regs t.slots → IsRef v → (o : Object) × (object_at t.heap v ≡ Some o)
named t r (Int z) is whole ref = absurd ref
named t r (Ref n) is whole ref = has t.heap n (whole.rooted r n is)

-- and this has what every body has
pub any_there : {A : Type 0} (t : Told) (r : ℕ) (f : Body → A) → IsReady t → IsRef (t.regs r) → HasPartAt t r (λ b. Some (f b)) (λ x. Unit {0})
any_there t r f ready ref = record { name = ref; there = λ told. (let found = named t r (t.regs r) refl (ready.whole told) ref in (f found.0.body, ap (option_and_then (λ (o : Object). Some (f o.body))) found.1, tt)) }

pub may_kind : (t : Told) (of : ℕ) → IsReady t → IsRef (t.regs of) → MayDo t (KindOf of)
may_kind t of ready ref = record { heap = (any_there t of kind_of ready ref).there; names = ref; slots = tt; ranges = tt }

pub may_length : (t : Told) (of : ℕ) → IsReady t → IsRef (t.regs of) → MayDo t (Length of)
may_length t of ready ref = record { heap = (any_there t of len_of ready ref).there; names = ref; slots = tt; ranges = tt }

pub may_pin : (t : Told) (slot of : ℕ) → IsReady t → IsRef (t.regs of) → MayDo t (Pin slot of)
may_pin t slot of ready ref = record { heap = (any_there t of kind_of ready ref).there; names = ref; slots = tt; ranges = tt }

pub may_mark : (t : Told) (of : ℕ) → IsReady t → IsRef (t.regs of) → MayDo t (Mark of)
may_mark t of ready ref = record { heap = (any_there t of kind_of ready ref).there; names = ref; slots = tt; ranges = tt }

-- two objects that no slot names
pub may_swap : (t : Told) (a b : ℕ) → IsReady t → IsRef (t.regs a) → IsRef (t.regs b) → IsUnpinned t.slots (name_at (t.regs a)) → IsUnpinned t.slots (name_at (t.regs b)) → MayDo t (Swap a b)
may_swap t a b ready first second one two = record { heap = λ told. ((any_there t a kind_of ready first).there told, (any_there t b kind_of ready second).there told); names = (first, second); slots = (one, two); ranges = tt }

has_class : (t : Told) (r : ℕ) (v : Value) → t.regs r ≡ v → IsWhole t.heap t.regs t.slots → (class : ℕ) × (class_at t.heap v ≡ Some class)
has_class t r (Int z) is whole = (SMALL_INTEGER, refl)
has_class t r (Ref n) is whole = let found = has t.heap n (whole.rooted r n is) in (found.0.class, ap (option_and_then (λ (o : Object). Some o.class)) found.1)

pub may_class : (t : Told) (to of : ℕ) → IsReady t → MayDo t (Class to of)
may_class t to of ready = record { heap = λ told. has_class t of (t.regs of) refl (ready.whole told); names = tt; slots = tt; ranges = tt }

-- a known object's name,
pub may_known : (t : Told) (to name : ℕ) → IsReady t → is_known name ≡ true → MayDo t (Known to name)
may_known t to name ready known = record { heap = λ told. ((ready.whole told).known name known, or_first (is_known name) (is_held t.heap name) known); names = tt; slots = tt; ranges = tt }

-- and one that an object holds
pub may_known_held : (t : Told) (to name by : ℕ) (o : Object) → IsReady t → (IsTrue t.tells → t.heap.at by ≡ Some o) → holds o name ≡ true → MayDo t (Known to name)
may_known_held t to name by o ready at held = record {
  heap = λ told.
      let whole = ready.whole told in
      let here = at told in
      (whole.closed by o name here held, or_second (is_known name) (is_held t.heap name) (any_below-from t.heap.next (λ k. holds_at t.heap k name) by (whole.below by (ap is_some here)) (holding t.heap by name o here held)));
  names = tt;
  slots = tt;
  ranges = tt;
}

pub may_make : (t : Told) (to class : ℕ) (what : Making) → IsRef (t.regs class) → CanMake what → MayDo t (Make to class what)
may_make t to class what ref can = record { heap = λ told. tt; names = ref; slots = tt; ranges = can }

-- ---- parts

-- another part of a body that has this one
pub has_other : {A B : Type 0} (t : Told) (r : ℕ) (f : Body → Option A) (P : A → Type 0) (g : Body → Option B) (Q : B → Type 0) → ((b : Body) (x : A) → f b ≡ Some x → P x → (y : B) × (g b ≡ Some y) × Q y) → HasPartAt t r f P → HasPartAt t r g Q
has_other {A} {B} t r f P g Q each known = record { name = known.name; there = λ told. (let it = known.there told in go (object_at t.heap (t.regs r)) it.0 it.1 it.2) }
  where
    go : (o : Option Object) (x : A) → option_and_then (λ (o : Object). f o.body) o ≡ Some x → P x → (y : B) × (option_and_then (λ (o : Object). g o.body) o ≡ Some y) × Q y
    go None x e p = let no : ◌≡◌ {A = Option A} None (Some x) = e in absurd (cc)
    go (Some o) x e p = each o.body x e p

within : (xs : List Value) (i : ℕ) → i < length xs → (v : Value) × (slice_get xs i ≡ Some v) × Unit {0}
within [] i low = absurd (omega arith)
within (x ∷ xs) zero low = (x, refl, tt)
within (x ∷ xs) (suc i) low = within xs i (omega arith)

-- field i of an object of pointers,
pub field_there : (t : Told) (of i : ℕ) → HasPartAt t of pointers_of (λ xs. i < length xs) → HasPartAt t of (λ b. field_of b i) (λ v. Unit {0})
field_there t of i known = has_other t of pointers_of (λ xs. i < length xs) (λ b. field_of b i) (λ v. Unit {0}) each known
  where
    each : (b : Body) (xs : List Value) → pointers_of b ≡ Some xs → i < length xs → (v : Value) × (field_of b i ≡ Some v) × Unit {0}
    each (Pointers values) xs e low = within values i (let same : values ≡ xs = cc in subst (λ ys. i < length ys) (sym same) low)
    each (Words words) xs e low = let no : ◌≡◌ {A = Option (List Value)} None (Some xs) = e in absurd (cc)
    each (Bytes bytes) xs e low = let no : ◌≡◌ {A = Option (List Value)} None (Some xs) = e in absurd (cc)
    each (Method header literals code) xs e low = let no : ◌≡◌ {A = Option (List Value)} None (Some xs) = e in absurd (cc)

-- and literal i of a method
pub literal_there : (t : Told) (of i : ℕ) → HasPartAt t of literals_of (λ xs. i < length xs) → HasPartAt t of (λ b. field_of b i) (λ v. Unit {0})
literal_there t of i known = has_other t of literals_of (λ xs. i < length xs) (λ b. field_of b i) (λ v. Unit {0}) each known
  where
    each : (b : Body) (xs : List Value) → literals_of b ≡ Some xs → i < length xs → (v : Value) × (field_of b i ≡ Some v) × Unit {0}
    each (Pointers values) xs e low = let no : ◌≡◌ {A = Option (List Value)} None (Some xs) = e in absurd (cc)
    each (Words words) xs e low = let no : ◌≡◌ {A = Option (List Value)} None (Some xs) = e in absurd (cc)
    each (Bytes bytes) xs e low = let no : ◌≡◌ {A = Option (List Value)} None (Some xs) = e in absurd (cc)
    each (Method header literals code) xs e low = within literals i (let same : literals ≡ xs = cc in subst (λ ys. i < length ys) (sym same) low)

-- ---- accesses to parts

pub may_field : (t : Told) (to of i : ℕ) → HasPartAt t of pointers_of (λ xs. i < length xs) → MayDo t (Field to of i)
may_field t to of i known = record { heap = (field_there t of i known).there; names = known.name; slots = tt; ranges = tt }

pub may_store : (t : Told) (of i from : ℕ) → HasPartAt t of pointers_of (λ xs. i < length xs) → MayDo t (SetField of i from)
may_store t of i from known = record { heap = (field_there t of i known).there; names = known.name; slots = tt; ranges = tt }

pub may_literal : (t : Told) (to of i : ℕ) → HasPartAt t of literals_of (λ xs. i < length xs) → MayDo t (Field to of i)
may_literal t to of i known = record { heap = (literal_there t of i known).there; names = known.name; slots = tt; ranges = tt }

pub may_store_literal : (t : Told) (of i from : ℕ) → HasPartAt t of literals_of (λ xs. i < length xs) → MayDo t (SetField of i from)
may_store_literal t of i from known = record { heap = (literal_there t of i known).there; names = known.name; slots = tt; ranges = tt }

-- of a method, whose literals were found
pub may_header : (t : Told) (of : ℕ) (P : List Value → Type 0) → HasPartAt t of literals_of P → MayDo t (Header of)
may_header t of P known = record { heap = (has_other t of literals_of P header_of (λ z. Unit {0}) each known).there; names = known.name; slots = tt; ranges = tt }
  where
    each : (b : Body) (xs : List Value) → literals_of b ≡ Some xs → P xs → (z : ℤ) × (header_of b ≡ Some z) × Unit {0}
    each (Pointers values) xs e p = let no : ◌≡◌ {A = Option (List Value)} None (Some xs) = e in absurd (cc)
    each (Words words) xs e p = let no : ◌≡◌ {A = Option (List Value)} None (Some xs) = e in absurd (cc)
    each (Bytes bytes) xs e p = let no : ◌≡◌ {A = Option (List Value)} None (Some xs) = e in absurd (cc)
    each (Method header literals code) xs e p = (header, refl, tt)

pub may_word : (t : Told) (of i : ℕ) → HasPartAt t of words_of (λ xs. i < length xs) → MayDo t (Word of i)
may_word t of i known = record { heap = known.there; names = known.name; slots = tt; ranges = tt }

pub may_set_word : (t : Told) (of i word : ℕ) → HasPartAt t of words_of (λ xs. i < length xs) → word < 2 ^ 16 → MayDo t (SetWord of i word)
may_set_word t of i word known fits = record { heap = known.there; names = known.name; slots = tt; ranges = fits }

pub may_words : (t : Told) (of at count : ℕ) → HasPartAt t of words_of (λ xs. at + count ≤ length xs) → MayDo t (ReadWords of at count)
may_words t of at count known = record { heap = known.there; names = known.name; slots = tt; ranges = tt }

pub may_set_words : (t : Told) (of at : ℕ) (run : List ℕ) → HasPartAt t of words_of (λ xs. at + length run ≤ length xs) → All (λ w. w < 2 ^ 16) run → MayDo t (WriteWords of at run)
may_set_words t of at run known fits = record { heap = known.there; names = known.name; slots = tt; ranges = fits }

pub may_byte : (t : Told) (of i : ℕ) → HasPartAt t of bytes_of (λ xs. i < length xs) → MayDo t (Byte of i)
may_byte t of i known = record { heap = known.there; names = known.name; slots = tt; ranges = tt }

pub may_set_byte : (t : Told) (of i byte : ℕ) → HasPartAt t of bytes_of (λ xs. i < length xs) → byte < 2 ^ 8 → MayDo t (SetByte of i byte)
may_set_byte t of i byte known fits = record { heap = known.there; names = known.name; slots = tt; ranges = fits }

pub may_bytes : (t : Told) (of at count : ℕ) → HasPartAt t of bytes_of (λ xs. at + count ≤ length xs) → MayDo t (ReadBytes of at count)
may_bytes t of at count known = record { heap = known.there; names = known.name; slots = tt; ranges = tt }

pub may_say : (t : Told) (of : ℕ) → HasPartAt t of text_of (λ xs. Unit {0}) → MayDo t (Say of)
may_say t of known = record { heap = known.there; names = known.name; slots = tt; ranges = tt }
