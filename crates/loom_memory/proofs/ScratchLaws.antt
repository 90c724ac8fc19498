-- The scratch registers together, and a number of an object in the core.
use Rattle.std.proofs.Common.{◌≡◌, ◌≢◌, ◌<◌, ◌≤◌, ◌&&◌, ◌%◌, ℕ, ℤ, pos, Bool, true, false, ◌+◌, length, get_or, eqb, eqb-true, nat_le, nat_lt, cond, List, [], Option, Some, None, IsTrue, refl, sym, ◌∙◌, ap, subst, arith, slice_get}
use borrow.Author.Tests.{leb-true, ltb-true, ltb-false}
use Rattle.std.specs.Prelude.{IsSome, OnSome}
use Rattle.std.specs.Option.{option_and_then, option_map}
use Rattle.long_names.specs.declared.limits.TheConstants.{MACHINE_REGISTERS, REGISTERS}
use Rattle.long_names.specs.declared.value.Value.{Value}
use Rattle.long_names.specs.declared.value.Value.TheVariants.{Int, Ref}
use Rattle.long_names.specs.declared.object.Body.{Body}
use Rattle.long_names.specs.declared.object.Body.TheVariants.{Pointers, Words, Bytes, Method}
use Rattle.long_names.specs.declared.object.Object.{Object}
use Rattle.long_names.specs.Objects.{int_of, field_of, pointers_of}
use Rattle.long_names.specs.Heap.{Heap}
use Rattle.long_names.specs.State.{object_at, part_at, IsRef}
use Rattle.loom_host.specs.declared.outside.Host.{Ghosts}
use Rattle.object_memory.specs.Told.{scratch_cleared}
use Rattle.object_memory.specs.Shape.{field_count, number_in, IsPartAt}
use Rattle.object_table.specs.Entries.{place_of}
use Rattle.core_view.specs.Words.{meant}
use Rattle.leaf_lambda.specs.Parts.{core_of}
use Rattle.loom_memory.specs.declared.memory.LoomMemory.{LoomMemory}
use Rattle.loom_memory.specs.Bodies.{OfBody}
use Rattle.loom_memory.specs.Memory.{loom_told, word_in, IsSound}
use Rattle.loom_memory.proofs.GlanceLaws.{found-told}
use Rattle.loom_memory.proofs.RegLaws.{word-is}

both-true : (a b : Bool) → (a && b) ≡ true → (a ≡ true) × (b ≡ true)
both-true true true e = (refl, refl)
both-true true false e = let no : ◌≡◌ {A = Bool} false true = e in absurd (cc)
both-true false b e = let no : ◌≡◌ {A = Bool} false true = e in absurd (cc)

-- registers that hold 0 already are as if they were cleared
pub clear-already : {H : Type 0} (host : Ghosts H) (m : LoomMemory H host) → ((q : ℕ) → MACHINE_REGISTERS ≤ q → q < REGISTERS → word_in m.regs q ≡ 1) → (r : ℕ) → (loom_told host m).regs r ≡ scratch_cleared (loom_told host m).regs r
unfolding loom_told
clear-already {H} host m all r = go (nat_le MACHINE_REGISTERS r && nat_lt r REGISTERS) refl
  where
    go : (b : Bool) → (nat_le MACHINE_REGISTERS r && nat_lt r REGISTERS) ≡ b → (loom_told host m).regs r ≡ cond b (Int (pos 0)) ((loom_told host m).regs r)
    go true e = let both = both-true _ _ e in ap (meant (core_of m.pager.levels.parts).entries [] 0) (all r (leb-true MACHINE_REGISTERS r both.0) (ltb-true r REGISTERS both.1))
    go false e = refl

-- a field that is a number, of an object of pointers
pub number-here : (h : Heap) (v : Value) (i n : ℕ) (z : ℤ) → part_at h v field_count ≡ Some n → part_at h v (λ b. field_of b i) ≡ Some (Int z) → part_at h v (number_in i) ≡ Some z
number-here h v i n z count at = go (object_at h v) count at
  where
    of-body : (b : Body) → field_count b ≡ Some n → field_of b i ≡ Some (Int z) → number_in i b ≡ Some z
    of-body (Pointers values) e f = ap (option_and_then int_of) f
    of-body (Words words) e f = let no : ◌≡◌ {A = Option ℕ} None (Some n) = e in absurd (cc)
    of-body (Bytes bytes) e f = let no : ◌≡◌ {A = Option ℕ} None (Some n) = e in absurd (cc)
    of-body (Method header literals code) e f = let no : ◌≡◌ {A = Option ℕ} None (Some n) = e in absurd (cc)

    go : (x : Option Object) → option_and_then (λ (o : Object). field_count o.body) x ≡ Some n → option_and_then (λ (o : Object). field_of o.body i) x ≡ Some (Int z) → option_and_then (λ (o : Object). number_in i o.body) x ≡ Some z
    go None e f = let no : ◌≡◌ {A = Option ℕ} None (Some n) = e in absurd (cc)
    go (Some o) e f = of-body o.body e f

-- the number of fields that was found
pub counted-told : {H : Type 0} (host : Ghosts H) (m : LoomMemory H host) (of w : ℕ) (found : Option ℕ) (n : ℕ) → IsSound host m → w ≡ word_in m.regs of → found ≡ Some n → OfBody (core_of m.pager.levels.parts) w (λ b. found ≡ field_count b) → OnSome found (IsSome (place_of ((core_of m.pager.levels.parts).entries w).state)) → IsTrue (loom_told host m).tells → part_at (loom_told host m).heap ((loom_told host m).regs of) field_count ≡ Some n
counted-told {H} host m of w None n sound same is body there told = let no : ◌≡◌ {A = Option ℕ} None (Some n) = is in absurd (cc)
counted-told {H} host m of w (Some k) n sound same is body there told = found-told host m of w field_count (Some k) sound same there body told ∙ is

-- one scratch register more is clear
pub one-more : (regs : List ℕ) (r : ℕ) (clear : Bool) → length regs ≡ REGISTERS → r < REGISTERS → (clear ≡ true → (q : ℕ) → MACHINE_REGISTERS ≤ q → q < r → word_in regs q ≡ 1) → (clear && eqb (get_or regs r 0) 1) ≡ true → (q : ℕ) → MACHINE_REGISTERS ≤ q → q < r + 1 → word_in regs q ≡ 1
one-more regs r clear many low before e q first past = go (nat_lt q r) refl
  where
    go : (b : Bool) → nat_lt q r ≡ b → word_in regs q ≡ 1
    go true below = let both = both-true clear (eqb (get_or regs r 0) 1) e in before both.0 q first (ltb-true q r below)
    go false above =
        let both = both-true clear (eqb (get_or regs r 0) 1) e in
        let high : r ≤ q = ltb-false q r above in
        let same : q ≡ r = omega (arith, high, past) in
        let is : get_or regs r 0 ≡ 1 = eqb-true (get_or regs r 0) 1 both.1 in
        subst (λ k. word_in regs k ≡ 1) (sym same) (sym (word-is regs r r refl low many) ∙ is)
