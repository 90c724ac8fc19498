-- The bytes of a method's code.
use Rattle.std.proofs.Common.{◌≡◌, ℕ, ℤ, pos, negsuc, ◌+◌, ◌-◌, ◌*◌, ◌^◌, ◌<◌, Bool, true, false, ◌&&◌, cond, if◌then◌else◌, nat_le, nat_lt, List, length, Option, Some, None, Ok, Err, IsTrue, is_some, refl, sym, ◌∙◌, ap, subst, arith}
use borrow.Author.Tests.{ltb-false}
use Rattle.std.specs.List.{slice_get}
use Rattle.std.specs.Option.{option_and_then, option_map}
use Rattle.std.proofs.lemmas.Option.{slice_get_past}
use Rattle.std.proofs.lemmas.Int.{to_z-of_z}
use mir.Val.{SFits, hbits, of_z, to_z}
use mir.Syntax.{w32}
use lib.Signed.{mag}
use Rattle.long_names.specs.declared.value.Value.{Value}
use Rattle.long_names.specs.declared.object.Object.{Object}
use Rattle.long_names.specs.Heap.{Heap}
use Rattle.long_names.specs.declared.object.Body.{Body}
use Rattle.long_names.specs.declared.object.Body.TheVariants.{Pointers, Words, Bytes, Method}
use Rattle.long_names.specs.Objects.{bytes_of, literals_of, len_of}
use Rattle.long_names.specs.State.{object_at, part_at}
use Rattle.object_memory.specs.Told.{Told, IsReady}
use Rattle.object_memory.specs.Shape.{IsPartAt, byte_count, code_at, literals_count}
use Rattle.object_memory.proofs.LaterLaws.{IsLater-refl}
use Rattle.blue_model.specs.declared.cause.Cause.{Cause}
use Rattle.blue_model.specs.declared.cause.Cause.TheVariants.{Pointer, Shape}
use Rattle.blue_model.specs.declared.cpu.Cpu.{Cpu}
use Rattle.blue_model.specs.declared.limits.TheConstants.{LAST_BYTE}
use Rattle.blue_model.specs.Machine.{Rule, given}
use Rattle.blue_model.specs.Parts.{Code, code_by, code_of, byte_at}
use Rattle.blue_model.specs.Contexts.{byte_of}
use Rattle.contexts.specs.declared.stop.Stop.TheVariants.{Stuck}
use Rattle.contexts.specs.Places.{code_place, code_index}
use Rattle.contexts.specs.Serves.{Serves}
use Rattle.contexts.proofs.ServesLaws.{IsCounted-refl, serves_then, serves_stop}
use Rattle.contexts.proofs.Steps.{given_serves, given_ends}
use Rattle.contexts.proofs.ReadLaws.{part_serves, part_stuck}
use Rattle.contexts.proofs.PartLaws.{code_is, code_none}

-- ---- what was done without an access serves a rule, if it does where the heap is told

pub told_serves : {A : Type 0} {t : Told} {cpu : Cpu} {rule : Rule A} {a : A} → IsReady t → (IsTrue t.tells → Serves t cpu t cpu rule (Ok a)) → Serves t cpu t cpu rule (Ok a)
told_serves {A} {t} {cpu} {rule} {a} ready s = record { later = IsLater-refl t; ready = ready; reason = tt; counts = (0, IsCounted-refl t); vault = λ may. may; silent = λ speaks. refl; model = λ told m st. (s told).model told m st }

pub told_stuck : {A : Type 0} {t : Told} {cpu : Cpu} {rule : Rule A} {c : Cause} → (IsTrue t.tells → Serves t cpu t cpu rule (Err (Stuck c))) → Serves t cpu t cpu rule (Err (Stuck c))
told_stuck {A} {t} {cpu} {rule} {c} s = record { later = IsLater-refl t; ready = tt; reason = tt; counts = tt; vault = tt; silent = λ speaks. refl; model = λ told m st. (s told).model told m st }

-- ---- places

both_true : (a b : Bool) → (a && b) ≡ true → (a ≡ true) × (b ≡ true)
both_true true b e = (refl, e)
both_true false b e = let no : ◌≡◌ {A = Bool} false true = e in absurd (cc)

-- the byte at an index, by its number
pub byte_found : (ip : ℤ) (place : Option ℕ) (n len i byte : ℕ) (code : List ℕ) → place ≡ code_place ip → Some i ≡ code_index n len place → slice_get code i ≡ Some byte → byte_at ip (record { literals = n; bytes = code }) ≡ Some byte
byte_found (negsuc k) place n len i byte code p e f = let no : ◌≡◌ {A = Option ℕ} (Some i) None = e ∙ ap (code_index n len) p in absurd (cc)
byte_found (pos k) place n len i byte code p e f = go (nat_le k LAST_BYTE) (e ∙ ap (code_index n len) p)
  where
    here : (a b : Bool) → ◌≡◌ {A = Option ℕ} (Some i) (if a && b then Some (k - 2 * (n + 1)) else None) → cond (a && true) (slice_get code (k - 2 * (n + 1))) None ≡ Some byte
    here true true e = (let same : i ≡ k - 2 * (n + 1) = cc in ap (slice_get code) (sym same) ∙ f)
    here true false e = let no : ◌≡◌ {A = Option ℕ} (Some i) None = e in absurd (cc)
    here false b e = let no : ◌≡◌ {A = Option ℕ} (Some i) None = e in absurd (cc)

    go : (c : Bool) → ◌≡◌ {A = Option ℕ} (Some i) (code_index n len (if c then Some k else None)) → cond (nat_le (2 * (n + 1)) k && c) (slice_get code (k - 2 * (n + 1))) None ≡ Some byte
    go true e = here (nat_le (2 * (n + 1)) k) (nat_lt (k - 2 * (n + 1)) len) e
    go false e = let no : ◌≡◌ {A = Option ℕ} (Some i) None = e in absurd (cc)

-- no byte has the number
pub byte_missing : (ip : ℤ) (place : Option ℕ) (n len : ℕ) (code : List ℕ) → length code ≡ len → place ≡ code_place ip → None ≡ code_index n len place → byte_at ip (record { literals = n; bytes = code }) ≡ None
byte_missing (negsuc k) place n len code l p e = refl
byte_missing (pos k) place n len code l p e = go (nat_le k LAST_BYTE) (e ∙ ap (code_index n len) p)
  where
    past : (b : Bool) → nat_lt (k - 2 * (n + 1)) len ≡ b → ◌≡◌ {A = Option ℕ} None (if b then Some (k - 2 * (n + 1)) else None) → slice_get code (k - 2 * (n + 1)) ≡ None
    past true f e = let no : ◌≡◌ {A = Option ℕ} None (Some (k - 2 * (n + 1))) = e in absurd (cc)
    past false f e = slice_get_past code (k - 2 * (n + 1)) (let high = ltb-false (k - 2 * (n + 1)) len f in omega arith)

    here : (a : Bool) → ◌≡◌ {A = Option ℕ} None (if a && nat_lt (k - 2 * (n + 1)) len then Some (k - 2 * (n + 1)) else None) → cond (a && true) (slice_get code (k - 2 * (n + 1))) None ≡ None
    here true e = past (nat_lt (k - 2 * (n + 1)) len) refl e
    here false e = refl

    nothing : (a : Bool) → cond (a && false) (slice_get code (k - 2 * (n + 1))) None ≡ None
    nothing true = refl
    nothing false = refl

    go : (c : Bool) → ◌≡◌ {A = Option ℕ} None (code_index n len (if c then Some k else None)) → cond (nat_le (2 * (n + 1)) k && c) (slice_get code (k - 2 * (n + 1))) None ≡ None
    go true e = here (nat_le (2 * (n + 1)) k) e
    go false e = nothing (nat_le (2 * (n + 1)) k)

-- how many bytes there are
counted_bytes : (h : Heap) (v : Value) (code : List ℕ) → part_at h v bytes_of ≡ Some code → part_at h v byte_count ≡ Some (length code)
counted_bytes h v code e = go (object_at h v) e
  where
    go : (o : Option Object) → option_and_then (λ (o : Object). bytes_of o.body) o ≡ Some code → option_and_then (λ (o : Object). byte_count o.body) o ≡ Some (length code)
    go None f = let no : ◌≡◌ {A = Option (List ℕ)} None (Some code) = f in absurd (cc)
    go (Some o) f = ap (option_map length) f

-- the byte at an index of them
byte_in : (h : Heap) (v : Value) (code : List ℕ) (i byte : ℕ) → part_at h v bytes_of ≡ Some code → part_at h v (λ b. option_and_then (λ (bytes : List ℕ). slice_get bytes i) (bytes_of b)) ≡ Some byte → slice_get code i ≡ Some byte
byte_in h v code i byte e answer = go (object_at h v) e answer
  where
    go : (o : Option Object) → option_and_then (λ (o : Object). bytes_of o.body) o ≡ Some code → option_and_then (λ (o : Object). option_and_then (λ (bytes : List ℕ). slice_get bytes i) (bytes_of o.body)) o ≡ Some byte → slice_get code i ≡ Some byte
    go None f a = let no : ◌≡◌ {A = Option (List ℕ)} None (Some code) = f in absurd (cc)
    go (Some o) f a = subst (λ y. option_and_then (λ (bytes : List ℕ). slice_get bytes i) y ≡ Some byte) f a

-- the length of a method is that of its code
code_sized : (h : Heap) (v : Value) (n len : ℕ) → part_at h v literals_count ≡ Some n → part_at h v (λ b. Some (len_of b)) ≡ Some len → part_at h v byte_count ≡ Some len
code_sized h v n len e f = go (object_at h v) e f
  where
    of_body : (b : Body) → literals_count b ≡ Some n → ◌≡◌ {A = Option ℕ} (Some (len_of b)) (Some len) → byte_count b ≡ Some len
    of_body (Pointers values) x y = let no : ◌≡◌ {A = Option ℕ} None (Some n) = x in absurd (cc)
    of_body (Words words) x y = let no : ◌≡◌ {A = Option ℕ} None (Some n) = x in absurd (cc)
    of_body (Bytes bytes) x y = let no : ◌≡◌ {A = Option ℕ} None (Some n) = x in absurd (cc)
    of_body (Method header literals code) x y = y

    go : (o : Option Object) → option_and_then (λ (o : Object). literals_count o.body) o ≡ Some n → option_and_then (λ (o : Object). Some (len_of o.body)) o ≡ Some len → option_and_then (λ (o : Object). byte_count o.body) o ≡ Some len
    go None x y = let no : ◌≡◌ {A = Option ℕ} None (Some n) = x in absurd (cc)
    go (Some o) x y = of_body o.body x y

pub length_is : {t : Told} {r : ℕ} {some : Option ℕ} (n len : ℕ) → IsPartAt t r literals_count some → some ≡ Some n → (IsTrue t.tells → part_at t.heap (t.regs r) (λ b. Some (len_of b)) ≡ Some len) → IsPartAt t r byte_count (Some len)
length_is {t} {r} {some} n len literals is answer = record { name = λ found. literals.name (ap is_some is); there = λ told. code_sized t.heap (t.regs r) n len (literals.there told ∙ is) (answer told) }

-- ---- the rule of a byte, where it was found which literals and bytes the method has

pub byte_serves : {t : Told} {cpu : Cpu} {some : Option ℕ} (r : ℕ) (ip : ℤ) (place : Option ℕ) (n len i byte : ℕ) → IsReady t → IsPartAt t r literals_count some → some ≡ Some n → place ≡ code_place ip → Some i ≡ code_index n len place → (IsTrue t.tells → part_at t.heap (t.regs r) (λ b. option_and_then (λ (bytes : List ℕ). slice_get bytes i) (bytes_of b)) ≡ Some byte) → Serves t cpu t cpu (byte_of ip (t.regs r)) (Ok byte)
unfolding byte_of
byte_serves {t} {cpu} {some} r ip place n len i byte ready literals is p e answer = told_serves ready (λ told.
    let code = code_is n literals is told in
    let bytes : slice_get code.0 i ≡ Some byte = byte_in t.heap (t.regs r) code.0 i byte code.2 (answer told) in
    serves_then (λ x. given Pointer (byte_at ip x)) (part_serves Shape code_of r (record { literals = n; bytes = code.0 }) ready (λ now. code.1)) (given_serves Pointer _ byte ready (λ now. byte_found ip place n len i byte code.0 p e bytes)))

pub byte_past : {t : Told} {cpu : Cpu} {some counted : Option ℕ} (r : ℕ) (ip : ℤ) (place : Option ℕ) (n len : ℕ) → IsReady t → IsPartAt t r literals_count some → some ≡ Some n → IsPartAt t r byte_count counted → counted ≡ Some len → place ≡ code_place ip → None ≡ code_index n len place → Serves t cpu t cpu (byte_of ip (t.regs r)) (Err (Stuck Pointer))
unfolding byte_of
byte_past {t} {cpu} {some} {counted} r ip place n len ready literals is bytes counts p e = told_stuck (λ told.
    let code = code_is n literals is told in
    let long : length code.0 ≡ len = inside (length code.0) len (sym (counted_bytes t.heap (t.regs r) code.0 code.2) ∙ bytes.there told ∙ counts) in
    serves_then (λ x. given Pointer (byte_at ip x)) (part_serves Shape code_of r (record { literals = n; bytes = code.0 }) ready (λ now. code.1)) (given_ends Pointer _ (λ now. byte_missing ip place n len code.0 long p e)))
  where
    inside : (a b : ℕ) → Some a ≡ Some b → a ≡ b
    inside a b e = cc

-- no method
pub byte_none : {t : Told} {cpu : Cpu} {found : Option ℕ} (r : ℕ) (ip : ℤ) → IsReady t → IsPartAt t r literals_count found → found ≡ None → Serves t cpu t cpu (byte_of ip (t.regs r)) (Err (Stuck Shape))
unfolding byte_of
byte_none r ip ready literals none = serves_stop (λ x. given Pointer (byte_at ip x)) (part_stuck code_of r ready (code_none literals none))

-- ---- the byte of a number, which was at hand

-- the byte of a number among those of a method
abbrev numbered : ℕ → Code → Option ℕ
numbered n code = if nat_le (2 * (code.literals + 1)) n then slice_get code.bytes (n - 2 * (code.literals + 1)) else None

-- the method has code, and the byte in it
hand_code : (h : Heap) (v : Value) (n byte : ℕ) → part_at h v (code_at n) ≡ Some byte → (code : Code) × (option_and_then code_of (object_at h v) ≡ Some code) × (numbered n code ≡ Some byte)
unfolding code_of
hand_code h v n byte e = go (object_at h v) e
  where
    of_body : (b : Body) → code_at n b ≡ Some byte → (code : Code) × (option_and_then (code_by (bytes_of b)) (literals_of b) ≡ Some code) × (numbered n code ≡ Some byte)
    of_body (Pointers values) e = let no : ◌≡◌ {A = Option ℕ} None (Some byte) = e in absurd (cc)
    of_body (Words words) e = let no : ◌≡◌ {A = Option ℕ} None (Some byte) = e in absurd (cc)
    of_body (Bytes bytes) e = let no : ◌≡◌ {A = Option ℕ} None (Some byte) = e in absurd (cc)
    of_body (Method header literals code) e = (record { literals = length literals; bytes = code }, refl, e)

    go : (x : Option Object) → option_and_then (λ (o : Object). code_at n o.body) x ≡ Some byte → (code : Code) × (option_and_then (λ (o : Object). option_and_then (code_by (bytes_of o.body)) (literals_of o.body)) x ≡ Some code) × (numbered n code ≡ Some byte)
    go None e = let no : ◌≡◌ {A = Option ℕ} None (Some byte) = e in absurd (cc)
    go (Some o) e = of_body o.body e

-- its number is one that an instruction pointer may have
hand_byte : (ip : ℤ) (n byte : ℕ) (code : Code) → Some n ≡ code_place ip → numbered n code ≡ Some byte → byte_at ip code ≡ Some byte
hand_byte (negsuc k) n byte code p e = let no : ◌≡◌ {A = Option ℕ} (Some n) None = p in absurd (cc)
hand_byte (pos k) n byte code p e = go (nat_le k LAST_BYTE) p
  where
    here : (a : Bool) (x : Option ℕ) → (if a then x else None) ≡ Some byte → cond (a && true) x None ≡ Some byte
    here true x e = e
    here false x e = e

    go : (c : Bool) → ◌≡◌ {A = Option ℕ} (Some n) (if c then Some k else None) → cond (nat_le (2 * (code.literals + 1)) k && c) (slice_get code.bytes (k - 2 * (code.literals + 1))) None ≡ Some byte
    go true f = let same : n ≡ k = cc in here (nat_le (2 * (code.literals + 1)) k) (slice_get code.bytes (k - 2 * (code.literals + 1))) (ap (λ (x : ℕ). numbered x code) (sym same) ∙ e)
    go false f = let no : ◌≡◌ {A = Option ℕ} (Some n) None = f in absurd (cc)

pub hand_serves : {t : Told} {cpu : Cpu} {place : Option ℕ} (r : ℕ) (ip : ℤ) (n byte : ℕ) → IsReady t → place ≡ code_place ip → place ≡ Some n → (IsTrue t.tells → part_at t.heap (t.regs r) (code_at n) ≡ Some byte) → Serves t cpu t cpu (byte_of ip (t.regs r)) (Ok byte)
unfolding byte_of
hand_serves {t} {cpu} {place} r ip n byte ready p is answer = told_serves ready (λ told.
    let code = hand_code t.heap (t.regs r) n byte (answer told) in
    serves_then (λ x. given Pointer (byte_at ip x)) (part_serves Shape code_of r code.0 ready (λ now. code.1)) (given_serves Pointer _ byte ready (λ now. hand_byte ip n byte code.0 (sym is ∙ p) code.2)))

-- where the number of a byte comes from
pub place_is : (z : ℤ) (n : ℕ) → Some n ≡ code_place z → pos n ≡ z
place_is (negsuc k) n e = let no : ◌≡◌ {A = Option ℕ} (Some n) None = e in absurd (cc)
place_is (pos k) n e = go (nat_le k LAST_BYTE) e
  where
    go : (b : Bool) → ◌≡◌ {A = Option ℕ} (Some n) (if b then Some k else None) → pos n ≡ pos k
    go true e = let same : n ≡ k = cc in ap (λ x. pos x) same
    go false e = let no : ◌≡◌ {A = Option ℕ} (Some n) None = e in absurd (cc)

-- a number of 32 bits that was passed by value
pub kept : (z : ℤ) → mag z < 2 ^ hbits w32 → to_z w32 (of_z w32 z) ≡ z
kept z small = to_z-of_z w32 z (fits z small)
  where
    fits : (z : ℤ) → mag z < 2 ^ hbits w32 → SFits w32 z
    fits (pos n) low = omega arith
    fits (negsuc n) low = omega arith
