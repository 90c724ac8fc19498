-- The elements of objects, and what follows from their kind and number.
use Rattle.std.proofs.Common.{◌≡◌, ℕ, ◌+◌, ◌-◌, ◌≤◌, nat_le, Bool, true, false, List, length, Option, Some, None, Result, Ok, Err, refl, ap, subst, arith}
use Rattle.std.proofs.Math.Path.{fun_ext}
use Rattle.std.proofs.lemmas.Grind.{common_steps}
use Rattle.std.proofs.lemmas.Bool.Decides.{nat_tests}
use Rattle.std.specs.Prelude.{if◌then◌else◌}
use Rattle.std.specs.Option.{option_and_then}
use Rattle.long_names.specs.declared.value.Value.{Value}
use Rattle.long_names.specs.declared.object.Kind.{Kind}
use Rattle.long_names.specs.declared.object.Body.{Body}
use Rattle.long_names.specs.declared.object.Body.TheVariants.{Pointers, Words, Bytes, Method}
use Rattle.long_names.specs.declared.object.Object.{Object}
use Rattle.long_names.specs.Heap.{Heap}
use Rattle.long_names.specs.Objects.{kind_of, len_of}
use Rattle.long_names.specs.State.{object_at, part_at}
use Rattle.object_memory.specs.Told.{Told, IsReady}
use Rattle.object_memory.specs.Shape.{shape_of, literals_count}
use Rattle.blue_model.specs.declared.cpu.Cpu.{Cpu}
use Rattle.blue_model.specs.Parts.{size}
use Rattle.blue_model.specs.Trials.{peek}
use Rattle.blue_model.specs.Elements.{length_of, spot_of}
use Rattle.blue_model.specs.Storage.{size_behind, is_text, is_array}
use Rattle.contexts.specs.declared.stop.Stop.{Stop}
use Rattle.contexts.specs.Serves.{Serves}
use Rattle.contexts.proofs.PeekLaws.{peek_inside, peek_stopped}
use Rattle.prims_object.specs.declared.extents.Extent.{Extent}
use Rattle.prims_object.specs.Extents.{start_by, extent_of, length_by, behind, spot_by, text_by, text_length}

-- ---- the extent that was found

-- an extent by its parts
made : (k l : Kind) (a b n m : ℕ) → k ≡ l → a ≡ b → n ≡ m → ◌≡◌ {A = Option Extent} (Some (record { kind = k; start = a; len = n })) (Some (record { kind = l; start = b; len = m }))
made k l a b n m e f g = cc

abbrev kind_in : Kind → Option (Kind × ℕ) → Kind
kind_in k None = k
kind_in k (Some p) = p.0

abbrev len_in : Option (Kind × ℕ) → ℕ
len_in None = 0
len_in (Some p) = p.1

pub extent_is : (h : Heap) (v : Value) (k : Kind) (n : ℕ) (literals : Option ℕ) → part_at h v shape_of ≡ Some (k, n) → part_at h v literals_count ≡ literals → option_and_then extent_of (object_at h v) ≡ Some (record { kind = k; start = start_by literals; len = n })
unfolding extent_of
extent_is h v k n literals shape counted = go (object_at h v) shape counted
  where
    go : (o : Option Object) → option_and_then (λ (o : Object). shape_of o.body) o ≡ Some (k, n) → option_and_then (λ (o : Object). literals_count o.body) o ≡ literals → option_and_then extent_of o ≡ Some (record { kind = k; start = start_by literals; len = n })
    go None e f = let no : ◌≡◌ {A = Option (Kind × ℕ)} None (Some (k, n)) = e in absurd (cc)
    go (Some o) e f = made (kind_of o.body) k (start_by (literals_count o.body)) (start_by literals) (len_of o.body) n (ap (kind_in k) e) (ap start_by f) (ap len_in e)

pub extent_none : (h : Heap) (v : Value) → part_at h v shape_of ≡ None → option_and_then extent_of (object_at h v) ≡ None
extent_none h v shape = go (object_at h v) shape
  where
    go : (o : Option Object) → option_and_then (λ (o : Object). shape_of o.body) o ≡ None → option_and_then extent_of o ≡ None
    go None e = refl
    go (Some o) e = let no : ◌≡◌ {A = Option (Kind × ℕ)} (Some (kind_of o.body, len_of o.body)) None = e in absurd (cc)

-- ---- what is looked for in it

-- another way to say what is looked for
peek_as : {A : Type 0} {old new : Told} {cpu now : Cpu} {answer : Result (Option A) Stop} (f g : Object → Option A) (v : Value) → ((o : Object) → f o ≡ g o) → Serves old cpu new now (peek f v) answer → Serves old cpu new now (peek g v) answer
peek_as {A} {old} {new} {cpu} {now} {answer} f g v same s = subst (λ (h : Object → Option A). Serves old cpu new now (peek h v) answer) (fun_ext same) s

-- what follows from a part that was looked for
pub part_gives : {A B : Type 0} {old new : Told} {cpu now : Cpu} (base : Object → Option B) (f : Object → Option A) (by : B → Option A) (v : Value) (x : Option B) → ((o : Object) → option_and_then by (base o) ≡ f o) → IsReady new → Serves old cpu new now (peek base v) (Ok x) → Serves old cpu new now (peek f v) (Ok (option_and_then by x))
part_gives base f by v x same ready s = peek_as (λ o. option_and_then by (base o)) f v same (peek_inside base by v x ready s)

pub part_stops : {A B : Type 0} {old new : Told} {cpu now : Cpu} {e : Stop} (base : Object → Option B) (f : Object → Option A) (by : B → Option A) (v : Value) → ((o : Object) → option_and_then by (base o) ≡ f o) → Serves old cpu new now (peek base v) (Err e) → Serves old cpu new now (peek f v) (Err e)
part_stops base f by v same s = peek_as (λ o. option_and_then by (base o)) f v same (peek_stopped base by v s)

-- ---- lengths and spots

from_zero : (n : ℕ) → 0 + n ≡ n
from_zero n = omega arith

abbrev pub some_length : Extent → Option ℕ
some_length x = Some (length_by x)

pub length_same : (o : Object) → option_and_then some_length (extent_of o) ≡ length_of o
unfolding extent_of length_of
length_same o = go o.body
  where
    go : (b : Body) → option_and_then some_length (extent_of (record { class = o.class; body = b })) ≡ length_of (record { class = o.class; body = b })
    go (Pointers values) = ap (λ n. Some n) (from_zero (length values))
    go (Words words) = ap (λ n. Some n) (from_zero (length words))
    go (Bytes bytes) = ap (λ n. Some n) (from_zero (length bytes))
    go (Method header literals code) = refl

pub behind_same : (fixed : ℕ) (o : Object) → option_and_then (behind fixed) (extent_of o) ≡ size_behind fixed o
unfolding extent_of length_of size_behind
behind_same fixed o = go o.body
  where
    go : (b : Body) → option_and_then (behind fixed) (extent_of (record { class = o.class; body = b })) ≡ size_behind fixed (record { class = o.class; body = b })
    go (Pointers values) = ap (λ n. if nat_le fixed n then Some (n - fixed) else None) (from_zero (length values))
    go (Words words) = ap (λ n. if nat_le fixed n then Some (n - fixed) else None) (from_zero (length words))
    go (Bytes bytes) = ap (λ n. if nat_le fixed n then Some (n - fixed) else None) (from_zero (length bytes))
    go (Method header literals code) = refl

pub text_same : (o : Object) → option_and_then text_by (extent_of o) ≡ text_length o
unfolding extent_of text_length
text_same o = go o.body
  where
    go : (b : Body) → option_and_then text_by (extent_of (record { class = o.class; body = b })) ≡ text_length (record { class = o.class; body = b })
    go (Pointers values) = refl
    go (Words words) = refl
    go (Bytes bytes) = refl
    go (Method header literals code) = refl

pub spot_same : (e : ℕ) → 1 ≤ e → (o : Object) → option_and_then (spot_by e) (extent_of o) ≡ spot_of e o
unfolding extent_of spot_of
spot_same e first o = go o.body
  where
    go : (b : Body) → option_and_then (spot_by e) (extent_of (record { class = o.class; body = b })) ≡ spot_of e (record { class = o.class; body = b })
    go (Pointers values) = grind (arith, common_steps, nat_tests, first)
    go (Words words) = grind (arith, common_steps, nat_tests, first)
    go (Bytes bytes) = grind (arith, common_steps, nat_tests, first)
    go (Method header literals code) = grind (arith, common_steps, nat_tests, first)

-- ---- arrays and text

abbrev pub yes : ℕ → Option Bool
yes n = Some true

abbrev pub no : ℕ → Option Bool
no n = Some false

pub is_text_same : (o : Object) → option_and_then yes (text_length o) ≡ is_text o
unfolding text_length
is_text_same o = go o.body
  where
    go : (b : Body) → option_and_then yes (text_length (record { class = o.class; body = b })) ≡ is_text (record { class = o.class; body = b })
    go (Pointers values) = refl
    go (Words words) = refl
    go (Bytes bytes) = refl
    go (Method header literals code) = refl

pub is_array_same : (o : Object) → option_and_then no (size 0 o) ≡ is_array o
unfolding size
is_array_same o = go o.body
  where
    sized : (values : List Value) → nat_le 0 (length values) ≡ true → option_and_then no (size 0 (record { class = o.class; body = Pointers values })) ≡ is_array (record { class = o.class; body = Pointers values })
    sized values e = ap (λ b. option_and_then no (option_and_then (λ (values : List Value). Some (length values)) (if b then Some values else None))) e

    go : (b : Body) → option_and_then no (size 0 (record { class = o.class; body = b })) ≡ is_array (record { class = o.class; body = b })
    go (Pointers values) = sized values (grind (arith, common_steps))
    go (Words words) = refl
    go (Bytes bytes) = refl
    go (Method header literals code) = refl
