-- Reading goes by the bytes that it takes: what stands at the front of a window is what stands at the front of the whole file, unless the window ends first.
use Rattle.std.proofs.Common.{◌≡◌, ℕ, zero, suc, ◌+◌, ◌-◌, ◌%◌, ◌≤◌, Bool, true, false, cond, eqb, ltb, ◌&&◌, List, ◌++◌, length, take, drop, Option, Some, None, Result, Ok, Err, refl, sym, ap, subst, length-append, arith}
use Rattle.std.specs.Int.{Width, w16, w32, w64, byte_len}
use Rattle.std.specs.List.{list_all}
use Rattle.std.proofs.lemmas.Bool.{ltb-false, le-ltb}
use Rattle.std.proofs.lemmas.List.{take-append-le, drop-append-le}
use Rattle.long_names.specs.Words.{value_of}
use Rattle.long_names.specs.Record.{padding}
use Rattle.long_names.specs.declared.object.Kind.{Kind}
use Rattle.long_names.specs.declared.object.Kind.TheVariants as kind
use Rattle.long_names.specs.declared.object.Rec.{Rec}
use Rattle.image_format.specs.declared.fault.Halt.{Halt}
use Rattle.image_format.specs.Reading.{◌>>=◌, halt, broken, judged, is_size, kind_of_number, header_in, octets_at, number_at, name_at, kind_at, size_at, value_at, many_at, values_at, header_at, method_at, body_at, zeros_at, record_at}
use Rattle.image_format.proofs.Numbers.{AreBytes}
use Rattle.image_format.proofs.Bounds.{IsIn, record_in}

-- what was read of a window, and what is read with these bytes behind it
abbrev pub Extends : {X : Type 0} → List ℕ → Result (X × List ℕ) Halt → Result (X × List ℕ) Halt → Type 0
Extends left (Ok x) whole = whole ≡ Ok (x.0, x.1 ++ left)
Extends left (Err h) whole = (h.rule ≡ 9 → ⊥) → whole ≡ Err (halt h.rule (h.left + length left))

bind_extends : {X Y : Type 0} (left : List ℕ) (r s : Result (X × List ℕ) Halt) (f g : X × List ℕ → Result (Y × List ℕ) Halt) → Extends left r s
    → ((x : X × List ℕ) → Extends left (f x) (g (x.0, x.1 ++ left))) → Extends left (r >>= f) (s >>= g)
bind_extends {X} {Y} left (Ok x) s f g e next = subst (λ (t : Result (X × List ℕ) Halt). Extends left (f x) (t >>= g)) (sym e) (next x)
bind_extends {X} {Y} left (Err h) s f g e next = λ other. ap (λ (t : Result (X × List ℕ) Halt). t >>= g) (e other)

broken_extends : (X : Type 0) (left bytes : List ℕ) (rule : ℕ) → Extends {X = X} left (broken rule bytes) (broken rule (bytes ++ left))
broken_extends X left bytes rule = λ other. ap (λ (n : ℕ). let r : Result (X × List ℕ) Halt = Err (halt rule n) in r) (length-append bytes left)

tested_extends : {X : Type 0} (left bytes : List ℕ) (rule : ℕ) (b : Bool) (x : X × List ℕ) → Extends left (cond b (Ok x) (broken rule bytes)) (cond b (Ok (x.0, x.1 ++ left)) (broken rule (bytes ++ left)))
tested_extends left bytes rule true x = refl
tested_extends {X} left bytes rule false x = broken_extends X left bytes rule

judged_extends : {X Y : Type 0} (left bytes : List ℕ) (rule : ℕ) (o : Option X) (f : X → Y) (rest : List ℕ) → Extends {X = Y} left (judged rule bytes o >>= λ x. Ok (f x, rest)) (judged rule (bytes ++ left) o >>= λ x. Ok (f x, rest ++ left))
judged_extends left bytes rule (Some x) f rest = refl
judged_extends {X} {Y} left bytes rule None f rest = broken_extends Y left bytes rule

octets_extends : (left : List ℕ) (n : ℕ) (bytes : List ℕ) → Extends left (octets_at n bytes) (octets_at n (bytes ++ left))
unfolding octets_at
octets_extends left n bytes = go (ltb (length bytes) n) refl
  where
    go : (b : Bool) → ltb (length bytes) n ≡ b → Extends {X = List ℕ} left (cond b (Err (halt 9 0)) (Ok (take n bytes, drop n bytes))) (cond (ltb (length (bytes ++ left)) n) (Err (halt 9 0)) (Ok (take n (bytes ++ left), drop n (bytes ++ left))))
    go true e = λ other. absurd (other refl)
    go false e =
        let enough : n ≤ length bytes = ltb-false _ _ e in
        let long : ltb (length (bytes ++ left)) n ≡ false = le-ltb _ _ (omega (arith, enough, length-append bytes left)) in
        rw (long, take-append-le n bytes left enough, drop-append-le n bytes left enough) refl

number_extends : (left : List ℕ) (w : Width) (bytes : List ℕ) → Extends left (number_at w bytes) (number_at w (bytes ++ left))
unfolding number_at
number_extends left w bytes = bind_extends left (octets_at (byte_len w) bytes) (octets_at (byte_len w) (bytes ++ left)) _ _ (octets_extends left (byte_len w) bytes) (λ x. refl)

name_extends : (left : List ℕ) (rule : ℕ) (bytes : List ℕ) → Extends left (name_at rule bytes) (name_at rule (bytes ++ left))
unfolding name_at
name_extends left rule bytes = bind_extends left (number_at w32 bytes) (number_at w32 (bytes ++ left)) _ _ (number_extends left w32 bytes) (λ x. tested_extends left bytes rule (eqb (x.0 % 2) 0 && ltb 0 x.0) x)

kind_extends : (left bytes : List ℕ) → Extends left (kind_at bytes) (kind_at (bytes ++ left))
unfolding kind_at
kind_extends left bytes = bind_extends left (number_at w16 bytes) (number_at w16 (bytes ++ left)) _ _ (number_extends left w16 bytes) (λ x. judged_extends left bytes 5 (kind_of_number x.0) (λ kind. kind) x.1)

size_extends : (left : List ℕ) (kind : Kind) (bytes : List ℕ) → Extends left (size_at kind bytes) (size_at kind (bytes ++ left))
unfolding size_at
size_extends left kind bytes = bind_extends left (number_at w16 bytes) (number_at w16 (bytes ++ left)) _ _ (number_extends left w16 bytes) (λ x. tested_extends left bytes 7 (is_size kind x.0) x)

value_extends : (left bytes : List ℕ) → Extends left (value_at bytes) (value_at (bytes ++ left))
unfolding value_at
value_extends left bytes = bind_extends left (number_at w32 bytes) (number_at w32 (bytes ++ left)) _ _ (number_extends left w32 bytes) (λ x. judged_extends left bytes 6 (value_of x.0) (λ v. v) x.1)

header_extends : (left : List ℕ) (count : ℕ) (bytes : List ℕ) → Extends left (header_at count bytes) (header_at count (bytes ++ left))
unfolding header_at
header_extends left count bytes = bind_extends left (number_at w32 bytes) (number_at w32 (bytes ++ left)) _ _ (number_extends left w32 bytes) (λ x. judged_extends left bytes 7 (header_in count (value_of x.0)) (λ z. z) x.1)

many_extends : {X : Type 0} (left : List ℕ) (read : List ℕ → Result (X × List ℕ) Halt) → ((bytes : List ℕ) → Extends left (read bytes) (read (bytes ++ left))) → (n : ℕ) (bytes : List ℕ) → Extends left (many_at read n bytes) (many_at read n (bytes ++ left))
unfolding many_at
many_extends left read one zero bytes = refl
many_extends left read one (suc n) bytes = bind_extends left (read bytes) (read (bytes ++ left)) _ _ (one bytes)
    (λ x. bind_extends left (many_at read n x.1) (many_at read n (x.1 ++ left)) _ _ (many_extends left read one n x.1) (λ y. refl))

zeros_extends : (left : List ℕ) (n : ℕ) (bytes : List ℕ) → Extends left (zeros_at n bytes) (zeros_at n (bytes ++ left))
unfolding zeros_at
zeros_extends left n bytes = bind_extends left (octets_at n bytes) (octets_at n (bytes ++ left)) _ _ (octets_extends left n bytes) (λ x. tested_extends left bytes 8 (list_all (λ b. eqb b 0) x.0) (tt, x.1))

method_extends : (left : List ℕ) (size : ℕ) (bytes : List ℕ) → Extends left (method_at size bytes) (method_at size (bytes ++ left))
unfolding method_at
method_extends left size bytes = bind_extends left (number_at w32 bytes) (number_at w32 (bytes ++ left)) _ _ (number_extends left w32 bytes)
    (λ count. bind_extends left (header_at count.0 count.1) (header_at count.0 (count.1 ++ left)) _ _ (header_extends left count.0 count.1)
    (λ header. bind_extends left (values_at count.0 header.1) (values_at count.0 (header.1 ++ left)) _ _ (many_extends left value_at (value_extends left) count.0 header.1)
    (λ literals. bind_extends left (octets_at size literals.1) (octets_at size (literals.1 ++ left)) _ _ (octets_extends left size literals.1) (λ code. refl))))

body_extends : (left : List ℕ) (kind : Kind) (size : ℕ) (bytes : List ℕ) → Extends left (body_at kind size bytes) (body_at kind size (bytes ++ left))
unfolding body_at
body_extends left kind.Pointers size bytes = bind_extends left (values_at size bytes) (values_at size (bytes ++ left)) _ _ (many_extends left value_at (value_extends left) size bytes) (λ x. refl)
body_extends left kind.Words size bytes = bind_extends left (many_at (number_at w16) size bytes) (many_at (number_at w16) size (bytes ++ left)) _ _ (many_extends left (number_at w16) (number_extends left w16) size bytes) (λ x. refl)
body_extends left kind.Bytes size bytes = bind_extends left (octets_at size bytes) (octets_at size (bytes ++ left)) _ _ (octets_extends left size bytes) (λ x. refl)
body_extends left kind.Method size bytes = method_extends left size bytes

pub record_extends : (left bytes : List ℕ) → Extends left (record_at bytes) (record_at (bytes ++ left))
unfolding record_at
record_extends left bytes = bind_extends left (name_at 4 bytes) (name_at 4 (bytes ++ left)) _ _ (name_extends left 4 bytes)
    (λ name. bind_extends left (name_at 6 name.1) (name_at 6 (name.1 ++ left)) _ _ (name_extends left 6 name.1)
    (λ class. bind_extends left (number_at w64 class.1) (number_at w64 (class.1 ++ left)) _ _ (number_extends left w64 class.1)
    (λ count. bind_extends left (kind_at count.1) (kind_at (count.1 ++ left)) _ _ (kind_extends left count.1)
    (λ kind. bind_extends left (size_at kind.0 kind.1) (size_at kind.0 (kind.1 ++ left)) _ _ (size_extends left kind.0 kind.1)
    (λ size. bind_extends left (body_at kind.0 size.0 size.1) (body_at kind.0 size.0 (size.1 ++ left)) _ _ (body_extends left kind.0 size.0 size.1)
    (λ body.
    let same : length bytes - length body.1 ≡ length (bytes ++ left) - length (body.1 ++ left) = omega (arith, length-append bytes left, length-append body.1 left) in
    bind_extends left (zeros_at (padding (length bytes - length body.1)) body.1) (zeros_at (padding (length (bytes ++ left) - length (body.1 ++ left))) (body.1 ++ left)) _ _
    (subst (λ (n : ℕ). Extends left (zeros_at (padding (length bytes - length body.1)) body.1) (zeros_at (padding n) (body.1 ++ left))) same (zeros_extends left (padding (length bytes - length body.1)) body.1))
    (λ rest. refl)))))))

-- a record that was read
pub record_more : (bytes left : List ℕ) (x : Rec × List ℕ) → record_at bytes ≡ Ok x → record_at (bytes ++ left) ≡ Ok (x.0, x.1 ++ left)
record_more bytes left x e = subst (λ (r : Result (Rec × List ℕ) Halt). Extends left r (record_at (bytes ++ left))) e (record_extends left bytes)

-- and a rule that broke
pub record_broken : (bytes left : List ℕ) (h : Halt) → record_at bytes ≡ Err h → (h.rule ≡ 9 → ⊥) → record_at (bytes ++ left) ≡ Err (halt h.rule (h.left + length left))
record_broken bytes left h e other = subst (λ (r : Result (Rec × List ℕ) Halt). Extends left r (record_at (bytes ++ left))) e (record_extends left bytes) other

-- a window that is long enough doesn't end within a record
pub record_long : (bytes : List ℕ) (h : Halt) → AreBytes bytes → 262163 ≤ length bytes → record_at bytes ≡ Err h → h.rule ≡ 9 → ⊥
record_long bytes h fits long e nine =
    let near = subst (λ (r : Result (Rec × List ℕ) Halt). IsIn (length bytes) 262163 r) e (record_in bytes fits) in
    omega (arith, long, near.2 nine)
