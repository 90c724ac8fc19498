-- The slots of a method dictionary, and the places of the round that goes over them.
use Rattle.std.proofs.Common.{◌≡◌, ℕ, ◌+◌, ◌-◌, ◌<◌, ◌≤◌, pos, nat_lt, Bool, true, false, cond, List, length, take, drop, get_or, Some, refl, sym, ◌∙◌, ap, arith}
use borrow.Author.Tests.{ltb-true, ltb-false}
use Rattle.std.specs.List.{slice_get}
use Rattle.std.proofs.lemmas.Option.{slice_get-get_or}
use Rattle.std.proofs.lemmas.List.{length-append, length-drop, length-take-le, get_or_append_left, get_or-append-add, get_or-drop, get_or-take}
use Rattle.long_names.specs.declared.value.Value.{Value}
use Rattle.long_names.specs.declared.value.Value.TheVariants.{Int}
use Rattle.blue_model.specs.Lookup.{turned, turned_back}

-- ---- a list that is turned

pub turned_length : (first : ℕ) (xs : List Value) → first ≤ length xs → length (turned first xs) ≡ length xs
turned_length first xs low = omega (arith, length-append (drop first xs) (take first xs), length-drop first xs, length-take-le first xs low)

-- an element of the turned list stands where its place is turned back to
pub turned_at : (first : ℕ) (xs : List Value) (i : ℕ) → first ≤ length xs → i < length xs → slice_get (turned first xs) i ≡ slice_get xs (turned_back first (length xs) i)
turned_at first xs i low within = go (nat_lt (first + i) (length xs)) refl
  where
    d : Value
    d = Int (pos 0)

    here : slice_get (turned first xs) i ≡ Some (get_or (turned first xs) i d)
    here = slice_get-get_or (turned first xs) i d (omega (arith, turned_length first xs low))

    go : (b : Bool) → nat_lt (first + i) (length xs) ≡ b → slice_get (turned first xs) i ≡ slice_get xs (cond b (first + i) (first + i - length xs))
    go true e =
        let below = ltb-true (first + i) (length xs) e in
        let kept : get_or (turned first xs) i d ≡ get_or xs (first + i) d = get_or_append_left (drop first xs) (take first xs) d i (omega (arith, length-drop first xs)) ∙ get_or-drop first xs i d in
        here ∙ ap (λ (v : Value). Some v) kept ∙ sym (slice_get-get_or xs (first + i) d below)
    go false e =
        let above = ltb-false (first + i) (length xs) e in
        let n : ℕ = first + i - length xs in
        let sum : i ≡ length (drop first xs) + (first + i - length xs) = omega (arith, length-drop first xs) in
        let moved : get_or (turned first xs) i d ≡ get_or xs n d = ap (λ k. get_or (turned first xs) k d) sum ∙ get_or-append-add (drop first xs) (take first xs) n d ∙ get_or-take first xs n d (omega arith) in
        here ∙ ap (λ (v : Value). Some v) moved ∙ sym (slice_get-get_or xs n d (omega arith))
