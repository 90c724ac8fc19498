-- How far reading goes before it breaks off: a record is within the longest, and three zeros.
use Rattle.std.proofs.Common.{◌≡◌, ℕ, ℤ, zero, suc, ◌+◌, ◌-◌, ◌*◌, ◌%◌, ◌^◌, ◌<◌, ◌≤◌, Bool, true, false, cond, eqb, ltb, List, ◌∷◌, length, take, drop, Option, Some, None, Result, Ok, Err, refl, arith, ◌&&◌}
use Rattle.std.specs.Int.{Width, w16, w32, w64, byte_len, from_be_bytes}
use Rattle.std.specs.List.{list_all}
use Rattle.std.proofs.lemmas.Bool.{ltb-false, ltb-true}
use Rattle.std.proofs.lemmas.List.{length-drop}
use Rattle.long_names.specs.Words.{value_of, literal_count}
use Rattle.long_names.specs.Record.{padding, eight_bytes}
use Rattle.long_names.specs.declared.object.Kind.{Kind}
use Rattle.long_names.specs.declared.object.Kind.TheVariants as kind
use Rattle.image_format.specs.declared.fault.Halt.{Halt}
use Rattle.image_format.specs.Reading.{◌>>=◌, broken, judged, is_size, kind_of_number, header_in, octets_at, number_at, name_at, kind_at, size_at, value_at, many_at, values_at, header_at, method_at, body_at, zeros_at, record_at}
use Rattle.image_format.proofs.Numbers.{AreBytes, wide64, number_takes}
use Rattle.image_format.proofs.Fields.{name_takes, kind_takes, header_stated}
use Rattle.image_format.proofs.Records.{size_takes}

-- of so many bytes, what was read ends at most so far from the start, and so does the field that broke a rule; the bytes themselves end before that where they were too few
abbrev pub IsIn : {X : Type 0} → ℕ → ℕ → Result (X × List ℕ) Halt → Type 0
IsIn len most (Ok x) = (length x.1 ≤ len) × (len ≤ most + length x.1)
IsIn len most (Err h) = (h.left ≤ len) × (len ≤ most + h.left) × (h.rule ≡ 9 → len < most)

pub IsIn-more : {X : Type 0} (len k most : ℕ) (r : Result (X × List ℕ) Halt) → k ≤ most → IsIn len k r → IsIn len most r
IsIn-more len k most (Ok x) le i = (i.0, omega (arith, i.1, le))
IsIn-more len k most (Err h) le i = (i.0, omega (arith, i.1, le), λ e. omega (arith, i.2 e, le))

pub bind_in : {X Y : Type 0} (len k most : ℕ) (r : Result (X × List ℕ) Halt) (f : X × List ℕ → Result (Y × List ℕ) Halt) → k ≤ most → IsIn len k r
    → ((x : X × List ℕ) → r ≡ Ok x → length x.1 ≤ len → len ≤ k + length x.1 → IsIn len most (f x)) → IsIn len most (r >>= f)
bind_in len k most (Ok x) f le i next = next x refl i.0 i.1
bind_in len k most (Err h) f le i next = (i.0, omega (arith, i.1, le), λ e. omega (arith, i.2 e, le))

-- these bytes are what is left of so many, behind at most so many
pub record Stands (len k : ℕ) (bytes : List ℕ) : Type 0 where
  pub low : length bytes ≤ len
  pub near : len ≤ k + length bytes

-- a test of what was read
tested_in : {X : Type 0} (len k most rule : ℕ) (bytes : List ℕ) (b : Bool) (x : X × List ℕ) → (rule ≡ 9 → ⊥) → k ≤ most → Stands len k bytes → length x.1 ≤ len → len ≤ most + length x.1 → IsIn len most (cond b (Ok x) (broken rule bytes))
tested_in len k most rule bytes true x other le at low near = (low, near)
tested_in len k most rule bytes false x other le at low near = (at.low, omega (arith, at.near, le), λ e. absurd (other e))

judged_in : {X Y : Type 0} (len k most rule : ℕ) (bytes : List ℕ) (o : Option X) (f : X → Y × List ℕ) → (rule ≡ 9 → ⊥) → k ≤ most → Stands len k bytes → ((x : X) → (length (f x).1 ≤ len) × (len ≤ most + length (f x).1)) → IsIn len most (judged rule bytes o >>= λ x. Ok (f x))
judged_in len k most rule bytes (Some x) f other le at h = h x
judged_in len k most rule bytes None f other le at h = (at.low, omega (arith, at.near, le), λ e. absurd (other e))

pub octets_in : (len k n : ℕ) (bytes : List ℕ) → Stands len k bytes → IsIn len (k + n) (octets_at n bytes)
unfolding octets_at
octets_in len k n bytes at = go (ltb (length bytes) n) refl
  where
    go : (b : Bool) → ltb (length bytes) n ≡ b → IsIn {X = List ℕ} len (k + n) (cond b (Err (record { rule = 9; left = 0 })) (Ok (take n bytes, drop n bytes)))
    go true e = let short : length bytes < n = ltb-true _ _ e in (omega arith, omega (arith, at.near, short), λ nine. omega (arith, at.near, short))
    go false e = (omega (arith, at.low, length-drop n bytes), omega (arith, at.near, length-drop n bytes, ltb-false _ _ e))

pub number_in : (len k : ℕ) (w : Width) (bytes : List ℕ) → Stands len k bytes → IsIn len (k + byte_len w) (number_at w bytes)
unfolding number_at
number_in len k w bytes at = bind_in len (k + byte_len w) (k + byte_len w) (octets_at (byte_len w) bytes) (λ front. Ok (from_be_bytes w front.0, front.1)) (omega arith) (octets_in len k (byte_len w) bytes at) (λ x e low near. (low, near))

pub name_in : (len k rule : ℕ) (bytes : List ℕ) → (rule ≡ 9 → ⊥) → Stands len k bytes → IsIn len (k + 4) (name_at rule bytes)
unfolding name_at
name_in len k rule bytes other at = bind_in len (k + 4) (k + 4) (number_at w32 bytes) _ (omega arith) (number_in len k w32 bytes at)
    (λ x e low near. tested_in len k (k + 4) rule bytes (eqb (x.0 % 2) 0 && ltb 0 x.0) x other (omega arith) at low near)

kind_in : (len k : ℕ) (bytes : List ℕ) → Stands len k bytes → IsIn len (k + 2) (kind_at bytes)
unfolding kind_at
kind_in len k bytes at = bind_in len (k + 2) (k + 2) (number_at w16 bytes) _ (omega arith) (number_in len k w16 bytes at)
    (λ x e low near. judged_in len k (k + 2) 5 bytes (kind_of_number x.0) (λ kind. (kind, x.1)) (λ nine. omega (arith, nine)) (omega arith) at (λ kind. (low, near)))

size_in : (len k : ℕ) (kind : Kind) (bytes : List ℕ) → Stands len k bytes → IsIn len (k + 2) (size_at kind bytes)
unfolding size_at
size_in len k kind bytes at = bind_in len (k + 2) (k + 2) (number_at w16 bytes) _ (omega arith) (number_in len k w16 bytes at)
    (λ x e low near. tested_in len k (k + 2) 7 bytes (is_size kind x.0) x (λ nine. omega (arith, nine)) (omega arith) at low near)

value_in : (len k : ℕ) (bytes : List ℕ) → Stands len k bytes → IsIn len (k + 4) (value_at bytes)
unfolding value_at
value_in len k bytes at = bind_in len (k + 4) (k + 4) (number_at w32 bytes) _ (omega arith) (number_in len k w32 bytes at)
    (λ x e low near. judged_in len k (k + 4) 6 bytes (value_of x.0) (λ v. (v, x.1)) (λ nine. omega (arith, nine)) (omega arith) at (λ v. (low, near)))

header_near : (len k count : ℕ) (bytes : List ℕ) → Stands len k bytes → IsIn len (k + 4) (header_at count bytes)
unfolding header_at
header_near len k count bytes at = bind_in len (k + 4) (k + 4) (number_at w32 bytes) _ (omega arith) (number_in len k w32 bytes at)
    (λ x e low near. judged_in len k (k + 4) 7 bytes (header_in count (value_of x.0)) (λ z. (z, x.1)) (λ nine. omega (arith, nine)) (omega arith) at (λ z. (low, near)))

many_in : {X : Type 0} (len size : ℕ) (read : List ℕ → Result (X × List ℕ) Halt) → ((k : ℕ) (bytes : List ℕ) → Stands len k bytes → IsIn len (k + size) (read bytes))
    → (n k : ℕ) (bytes : List ℕ) → Stands len k bytes → IsIn len (k + n * size) (many_at read n bytes)
unfolding many_at
many_in len size read one zero k bytes at = (at.low, omega (arith, at.near))
many_in len size read one (suc n) k bytes at = bind_in len (k + size) (k + suc n * size) (read bytes) _ (omega arith) (one k bytes at)
    (λ x e low near. bind_in len (k + suc n * size) (k + suc n * size) (many_at read n x.1) (λ others. Ok (x.0 ∷ others.0, others.1)) (omega arith)
    (IsIn-more len (k + size + n * size) (k + suc n * size) (many_at read n x.1) (omega arith) (many_in len size read one n (k + size) x.1 (record { low = low; near = near })))
    (λ y e low near. (low, near)))

zeros_in : (len k n : ℕ) (bytes : List ℕ) → Stands len k bytes → IsIn len (k + n) (zeros_at n bytes)
unfolding zeros_at
zeros_in len k n bytes at = bind_in len (k + n) (k + n) (octets_at n bytes) _ (omega arith) (octets_in len k n bytes at)
    (λ x e low near. tested_in len k (k + n) 8 bytes (list_all (λ b. eqb b 0) x.0) (tt, x.1) (λ nine. omega (arith, nine)) (omega arith) at low near)

few_literals : (z : ℤ) → literal_count z < 64
few_literals z = omega arith

method_in : (len size : ℕ) (bytes : List ℕ) → size < 65536 → Stands len 20 bytes → IsIn len 262160 (method_at size bytes)
unfolding method_at
method_in len size bytes small at = bind_in len 24 262160 (number_at w32 bytes) _ (omega arith) (number_in len 20 w32 bytes at)
    (λ count e0 l0 n0. bind_in len 28 262160 (header_at count.0 count.1) _ (omega arith) (header_near len 24 count.0 count.1 (record { low = l0; near = n0 }))
    (λ header e1 l1 n1. let few : count.0 < 64 = omega (arith, header_stated count.0 count.1 header e1, few_literals header.0) in
    bind_in len (28 + count.0 * 4) 262160 (values_at count.0 header.1) _ (omega (arith, few)) (many_in len 4 value_at (value_in len) count.0 28 header.1 (record { low = l1; near = n1 }))
    (λ literals e2 l2 n2. bind_in len (28 + count.0 * 4 + size) 262160 (octets_at size literals.1) _ (omega (arith, few, small)) (octets_in len (28 + count.0 * 4) size literals.1 (record { low = l2; near = n2 }))
    (λ code e3 l3 n3. (l3, omega (arith, n3, few, small))))))

body_in : (len size : ℕ) (kind : Kind) (bytes : List ℕ) → size < 65536 → Stands len 20 bytes → IsIn len 262160 (body_at kind size bytes)
unfolding body_at
body_in len size kind.Pointers bytes small at = bind_in len (20 + size * 4) 262160 (values_at size bytes) _ (omega (arith, small)) (many_in len 4 value_at (value_in len) size 20 bytes at) (λ x e low near. (low, omega (arith, near, small)))
body_in len size kind.Words bytes small at = bind_in len (20 + size * 2) 262160 (many_at (number_at w16) size bytes) _ (omega (arith, small)) (many_in len 2 (number_at w16) (λ k rest stands. number_in len k w16 rest stands) size 20 bytes at) (λ x e low near. (low, omega (arith, near, small)))
body_in len size kind.Bytes bytes small at = bind_in len (20 + size) 262160 (octets_at size bytes) _ (omega (arith, small)) (octets_in len 20 size bytes at) (λ x e low near. (low, omega (arith, near, small)))
body_in len size kind.Method bytes small at = method_in len size bytes small at

pub record_in : (bytes : List ℕ) → AreBytes bytes → IsIn (length bytes) 262163 (record_at bytes)
unfolding record_at
record_in bytes fits = let len = length bytes in
    bind_in len 4 262163 (name_at 4 bytes) _ (omega arith) (name_in len 0 4 bytes (λ nine. omega (arith, nine)) (record { low = omega arith; near = omega arith }))
    (λ name e0 l0 n0. let t0 = name_takes 4 bytes name.0 name.1 fits e0 in
    bind_in len 8 262163 (name_at 6 name.1) _ (omega arith) (name_in len 4 6 name.1 (λ nine. omega (arith, nine)) (record { low = l0; near = n0 }))
    (λ class e1 l1 n1. let t1 = name_takes 6 name.1 class.0 class.1 t0.0.unread e1 in
    bind_in len 16 262163 (number_at w64 class.1) _ (omega arith) (number_in len 8 w64 class.1 (record { low = l1; near = n1 }))
    (λ count e2 l2 n2. let t2 = number_takes w64 (2 ^ 64) eight_bytes wide64 class.1 count.0 count.1 t1.0.unread e2 in
    bind_in len 18 262163 (kind_at count.1) _ (omega arith) (kind_in len 16 count.1 (record { low = l2; near = n2 }))
    (λ kind e3 l3 n3. let t3 = kind_takes count.1 kind.0 kind.1 t2.0.unread e3 in
    bind_in len 20 262163 (size_at kind.0 kind.1) _ (omega arith) (size_in len 18 kind.0 kind.1 (record { low = l3; near = n3 }))
    (λ size e4 l4 n4. let t4 = size_takes kind.0 kind.1 size.0 size.1 t3.unread e4 in
    bind_in len 262160 262163 (body_at kind.0 size.0 size.1) _ (omega arith) (body_in len size.0 kind.0 size.1 t4.1 (record { low = l4; near = n4 }))
    (λ body e5 l5 n5. let pad = padding (len - length body.1) in
    bind_in len (262160 + pad) 262163 (zeros_at pad body.1) _ (omega arith) (zeros_in len 262160 pad body.1 (record { low = l5; near = n5 }))
    (λ zeros e6 l6 n6. (l6, omega (arith, n6)))))))))
