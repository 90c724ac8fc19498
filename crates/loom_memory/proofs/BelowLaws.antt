-- Names in a record that are below the next one: the loop that tests them, and that over a told heap it never says no.
use Rattle.std.proofs.Common.{zero, suc, ◌≡◌, ◌↔◌, ℕ, ◌%◌, ◌<◌, Bool, true, false, cond, eqb, ◌||◌, List, [], ◌∷◌, length, map, refl, sym, ◌∙◌, ap, subst, arith, Option, None, Some, Result, Ok, Err, IsTrue, ⊎_elim}
use Rattle.loom_host.specs.declared.outside.Host.{Ghosts}
use Rattle.std.proofs.lemmas.Grind.{common_steps}
use Rattle.std.specs.Prelude.{nat_lt, slice_index}
use Rattle.std.specs.List.{list_any}
use Rattle.std.specs.Result.{OnOk}
use Rattle.long_names.specs.declared.value.Value.{Value}
use Rattle.long_names.specs.declared.value.Value.TheVariants.{Int, Ref}
use Rattle.long_names.specs.declared.object.Object.{Object}
use Rattle.long_names.specs.Objects.{is_ref, fields_of}
use Rattle.long_names.specs.Heap.{Heap}
use Rattle.long_names.specs.Thin.{IsWhole}
use Rattle.long_names.proofs.ThinLemmas.{or_cases, or_first, holds-cases}
use Rattle.object_memory.specs.declared.fault.MemFault.{MemFault}
use Rattle.object_record.specs.Buffer.{raw_of, HasRecord}
use Rattle.object_record.specs.Raw.{RawRecord, longs_of}
use Rattle.object_record.specs.Objects.{value_in, int_in, object_in}
use Rattle.leaf_lambda.proofs.RecordLaws.{fields-values}
use Rattle.object_table.specs.Entries.{is_used, place_of}
use Rattle.core_view.specs.Core.{Core}
use Rattle.core_view.specs.Held.{Disk, held}
use Rattle.core_view.specs.Kept.{IsCore}
use Rattle.core_view.proofs.Core.{held-leaf, held-absent}
use Rattle.loom_memory.specs.Memory.{heap_if}
use Rattle.loom_memory.specs.declared.memory.LoomMemory.{LoomMemory}
use Rattle.loom_memory.specs.Below.{IsBelow, HoldsBelow, IsTested}

-- ---- one long word

ref-name : (a b : ℕ) → Ref a ≡ Ref b → a ≡ b
ref-name a b e = cc

pub below-is : (long next : ℕ) (b : Bool) → b ≡ (eqb (long % 2) 1 || nat_lt long next) → IsTrue b ↔ IsBelow next (value_in long)
below-is long next b is = go (eqb (long % 2) 1) refl
  where
    go : (odd : Bool) → eqb (long % 2) 1 ≡ odd → IsTrue b ↔ IsBelow next (value_in long)
    go true e =
        let number : value_in long ≡ Int (int_in long) = ap (λ (x : Bool). cond x (Int (int_in long)) (Ref long)) e in (
          λ yes n same. absurd (let both : Int (int_in long) ≡ Ref n = sym number ∙ same in cc),
          λ all. is ∙ ap (λ (x : Bool). x || nat_lt long next) e,
        )
    go false e =
        let name : value_in long ≡ Ref long = ap (λ (x : Bool). cond x (Int (int_in long)) (Ref long)) e in
        let low : b ≡ nat_lt long next = is ∙ ap (λ (x : Bool). x || nat_lt long next) e in (
          λ yes n same. let here : long ≡ n = ref-name long n (sym name ∙ same) in let less : nat_lt long next ≡ true = sym low ∙ yes in grind (arith, common_steps),
          λ all. let less : long < next = all long name in low ∙ grind (arith, common_steps),
        )

-- ---- all fields

or-rest : (a b : Bool) → b ≡ true → (a || b) ≡ true
or-rest true b e = refl
or-rest false b e = e

ref-is : (k : ℕ) (v : Value) → is_ref k v ≡ true → v ≡ Ref k
ref-is k (Int z) e = cc
ref-is k (Ref n) e = grind (arith, common_steps)

is-ref : (k : ℕ) (v : Value) → v ≡ Ref k → is_ref k v ≡ true
is-ref k (Int z) e = cc
is-ref k (Ref n) e = let same : n ≡ k = ref-name n k e in grind (arith, common_steps)

-- what a field is, the fields hold
field-held : (longs : List ℕ) (i k : ℕ) → i < length longs → value_in (slice_index longs i) ≡ Ref k → list_any (is_ref k) (map value_in longs) ≡ true
field-held [] i k low e = absurd (omega arith)
field-held (x ∷ xs) zero k low e = or_first (is_ref k (value_in x)) (list_any (is_ref k) (map value_in xs)) (is-ref k (value_in x) e)
field-held (x ∷ xs) (suc i) k low e = or-rest (is_ref k (value_in x)) (list_any (is_ref k) (map value_in xs)) (field-held xs i k (omega arith) e)

-- and nothing else
fields-below : (longs : List ℕ) (next k : ℕ) → ((j : ℕ) → j < length longs → IsBelow next (value_in (slice_index longs j))) → list_any (is_ref k) (map value_in longs) ≡ true → k < next
fields-below [] next k all e = cc
fields-below (x ∷ xs) next k all e = ⊎_elim (λ (here : is_ref k (value_in x) ≡ true). all zero (omega arith) k (ref-is k (value_in x) here))
    (λ (rest : list_any (is_ref k) (map value_in xs) ≡ true). fields-below xs next k (λ j low. all (suc j) (omega arith)) rest)
    (or_cases (is_ref k (value_in x)) (list_any (is_ref k) (map value_in xs)) e)

-- ---- the object of a record

-- a field of it is below, where all that it holds is
pub field-below : (raw : RawRecord) (next i : ℕ) → i < length (longs_of raw.body) → HoldsBelow next (object_in raw) → IsBelow next (value_in (slice_index (longs_of raw.body) i))
field-below raw next i low all n is =
    all n (or-rest (eqb raw.class n) (list_any (is_ref n) (fields_of (object_in raw).body))
    (ap (list_any (is_ref n)) (fields-values raw.body) ∙ field-held (longs_of raw.body) i n low is))

-- all that it holds is below, where its class and its fields are
pub object-below : (raw : RawRecord) (next : ℕ) → raw.class < next → ((j : ℕ) → j < length (longs_of raw.body) → IsBelow next (value_in (slice_index (longs_of raw.body) j))) → HoldsBelow next (object_in raw)
object-below raw next class all n e = ⊎_elim (λ (c : raw.class ≡ n). subst (λ (k : ℕ). k < next) c class)
    (λ (f : list_any (is_ref n) (fields_of (object_in raw).body) ≡ true). fields-below (longs_of raw.body) next n all (sym (ap (list_any (is_ref n)) (fields-values raw.body)) ∙ f))
    (holds-cases (object_in raw) n e)

-- ---- a told heap

-- what an object of a whole heap holds is below the next name
pub whole-below : (h : Heap) (regs : ℕ → Value) (slots : ℕ → Option ℕ) (n : ℕ) (o : Object) → IsWhole h regs slots → h.at n ≡ Some o → HoldsBelow h.next o
whole-below h regs slots n o whole there k held = whole.below k (whole.closed n o k there held)

-- so is it of its record, where the heap has that
pub own-below : (b : Bool) (f : Disk) (next : ℕ) (regs : ℕ → Value) (slots : ℕ → Option ℕ) (n : ℕ) (o : Object) → IsTrue b → IsWhole (heap_if b f next) regs slots → (heap_if b f next).at n ≡ Some o → HoldsBelow next o
own-below false f next regs slots n o told whole there = absurd (cc)
own-below true f next regs slots n o told whole there = whole-below (record { at = f; next = next }) regs slots n o whole there

-- a leaf has its record in the held heap
pub leaf-own : (b : Bool) (c : Core) (disk : Disk) (next s : ℕ) → IsTrue b → IsCore c → is_used (c.entries s).state ≡ true → place_of (c.entries s).state ≡ None → (heap_if b (held c disk) next).at (c.entries s).name ≡ disk (c.entries s).name
leaf-own false c disk next s told core used leaf = absurd (cc)
leaf-own true c disk next s told core used leaf = held-leaf c disk (c.entries s).name s (core.found s used) leaf

-- so has a name without an entry
pub absent-own : (b : Bool) (c : Core) (disk : Disk) (next n : ℕ) → IsTrue b → c.find n ≡ None → (heap_if b (held c disk) next).at n ≡ disk n
absent-own false c disk next n told away = absurd (cc)
absent-own true c disk next n told away = held-absent c disk n away

-- ---- the record stays in the buffer

pub tested-name : {T H : Type 0} {host : Ghosts H} (r : Result T MemFault) (m : LoomMemory H host) (n k : ℕ) → n ≡ k → OnOk r (IsTested m n) → OnOk r (IsTested m k)
tested-name {T} {H} {host} (Ok x) m n k same is = subst (λ (z : ℕ). IsTested m z) same is
tested-name {T} {H} {host} (Err f) m n k same is = tt

pub tested-then : {H : Type 0} {host : Ghosts H} (m u : LoomMemory H host) (n : ℕ) → u.buf ≡ m.buf → u.ledger.next ≡ m.ledger.next → IsTested m n → IsTested u n
tested-then {H} {host} m u n same next is = record {
  record_there = subst HasRecord (sym same) is.record_there;
  named = ap (λ (bytes : List ℕ). (raw_of bytes).name) same ∙ is.named;
  below = subst (λ (k : ℕ). HoldsBelow k (object_in (raw_of u.buf))) (sym next) (subst (λ (bytes : List ℕ). HoldsBelow m.ledger.next (object_in (raw_of bytes))) (sym same) is.below);
}

-- what a call brought in was tested before
pub tested-after : {T H : Type 0} {host : Ghosts H} (P : Type 0) (r : Result T MemFault) (m u : LoomMemory H host) (n : ℕ) → u.buf ≡ m.buf → OnOk r (u.ledger.next ≡ m.ledger.next) → IsTested m n → OnOk r (P → IsTested u n)
tested-after {T} {H} {host} P (Ok x) m u n same next is = λ p. tested-then m u n same next is
tested-after {T} {H} {host} P (Err f) m u n same next is = tt

pub tested-where : {T : Type 0} (A B P : Type 0) (r : Result T MemFault) → OnOk r (A → B) → A → OnOk r (P → B)
tested-where {T} A B P (Ok x) is a = λ p. is a
tested-where {T} A B P (Err f) is a = tt
