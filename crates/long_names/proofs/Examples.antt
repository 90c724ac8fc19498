-- Worked values of the definitions.
use Rattle.std.proofs.Common.{◌≡◌, ℕ, ◌+◌, List, [], ◌∷◌, replicate, Option, Some, None, pos, refl, ap, ◌==◌, if◌then◌else◌}
use Rattle.std.proofs.lemmas.List.{length-replicate}
use Rattle.long_names.specs.declared.value.Value.{Value}
use Rattle.long_names.specs.declared.value.Value.TheVariants.{Ref}
use Rattle.long_names.specs.declared.object.Body.TheVariants.{Pointers, Method}
use Rattle.long_names.specs.declared.object.Object.{Object}
use Rattle.long_names.specs.Heap.{object_count}
use Rattle.long_names.specs.Kept.{kept, no_roots}
use Rattle.long_names.specs.Need.{Row, words_of_row, entries_of_row}

-- an Array as long as may be at 100, with a context of 18 fields at 102 and a method of 3 literals and 3 code bytes at 104
abbrev needy : List Value → ℕ → Option Object
needy values n =
    if n == 100 then Some (record { class = 16; body = Pointers values })
    else (if n == 102 then Some (record { class = 22; body = Pointers (replicate 18 (Ref 2)) })
    else (if n == 104 then Some (record { class = 34; body = Method (pos 3) (Ref 2 ∷ Ref 2 ∷ Ref 2 ∷ []) (0 ∷ 0 ∷ 0 ∷ []) })
    else None))

abbrev pinned_two : ℕ → Option ℕ
pinned_two i = if i == 0 then Some 102 else (if i == 1 then Some 104 else None)

-- the Array's row with both pinned
abbrev needed : Row
needed = record { object = 100; slots = pinned_two }

longest-words : words_of_row (record { at = needy (replicate 65535 (Ref 2)); next = 106 }) needed ≡ 65539 + 22 + 10
unfolding words_of_row
longest-words = ap (λ (n : ℕ). 4 + n + 22 + 10) (length-replicate 65535 (Ref 2))

longest-entries : (values : List Value) → entries_of_row (record { at = needy values; next = 106 }) needed ≡ 51 + 20 + 5
unfolding entries_of_row
longest-entries values = refl

-- where the slots have the row's object, it counts once
pinned-once : (values : List Value) → words_of_row (record { at = needy values; next = 106 }) (record { object = 102; slots = λ i. Some 102 }) ≡ 22
unfolding words_of_row
pinned-once values = refl

entered-once : (values : List Value) → entries_of_row (record { at = needy values; next = 106 }) (record { object = 102; slots = λ i. Some 102 }) ≡ 51 + 20
unfolding entries_of_row
entered-once values = refl

-- 10 and 18 hold each other, and 20 holds 10
abbrev tied : ℕ → Option Object
tied n =
    if n == 10 then Some (record { class = 18; body = Pointers [] })
    else (if n == 18 then Some (record { class = 18; body = Pointers (Ref 10 ∷ []) })
    else (if n == 20 then Some (record { class = 18; body = Pointers (Ref 10 ∷ []) })
    else None))

-- a cycle is kept, and what nothing holds is not
cycle-kept : (kept (record { at = tied; next = 22 }) no_roots).at 10 ≡ tied 10
unfolding kept object_count
cycle-kept = refl

loose-gone : (kept (record { at = tied; next = 22 }) no_roots).at 20 ≡ None
unfolding kept object_count
loose-gone = refl

-- unless it is a root
root-kept : (kept (record { at = tied; next = 22 }) (λ n. n == 20)).at 20 ≡ tied 20
unfolding kept object_count
root-kept = refl
