-- How many references the words of bodies can make.
use Rattle.std.proofs.Common.{zero, suc, ◌≡◌, ℕ, ℤ, ◌+◌, ◌-◌, ◌*◌, ◌/◌, ◌%◌, ◌<◌, ◌≤◌, Bool, true, false, List, [], ◌∷◌, length, refl, arith, Option, Some, None, count_by, pos, negsuc}
use Rattle.std.proofs.lemmas.Grind.{common_steps}
use Rattle.std.proofs.lemmas.List.Sums.{count_by-le-length}
use Rattle.std.specs.Prelude.{take}
use Rattle.long_names.specs.Words.{literal_count}
use Rattle.long_names.specs.declared.object.Kind.{Kind}
use Rattle.long_names.specs.declared.object.Kind.TheVariants as kind
use Rattle.object_table.specs.Entries.{is_short, place_of}
use Rattle.core_view.specs.Core.{Core}
use Rattle.core_view.specs.Words.{pointers, words_for, most_len, header_in, literals_in, int_of_short}
use Rattle.core_view.specs.Counts.{names, holders_in, holders, tally, uses, outside}
use Rattle.core_view.specs.Kept.{IsCore}
use Rattle.core_view.proofs.Core.{placed-used}

pub literal_count-small : (z : ℤ) → literal_count z < 64
literal_count-small (pos n) = omega arith
literal_count-small (negsuc n) = omega arith

take-small : (n : ℕ) (ws : List ℕ) → length (take n ws) ≤ n
take-small zero ws = omega arith
take-small (suc n) [] = omega arith
take-small (suc n) (w ∷ ws) = let rest = take-small n ws in omega arith

-- a method has fewer than 64 literals
pub literals-small : (ws : List ℕ) → length (literals_in ws) < 64
literals-small [] = omega arith
literals-small (h ∷ rest) = let some = take-small (literal_count (int_of_short h)) rest in let few = literal_count-small (int_of_short h) in omega arith

-- a body has at most 65,535 fields
pub pointers-small : (k : Kind) (ws : List ℕ) (len : ℕ) → length ws ≡ words_for k len (literal_count (header_in ws)) → len ≤ most_len k → length (pointers k ws) ≤ 65535
pointers-small kind.Pointers ws len long small = omega arith
pointers-small kind.Words ws len long small = omega arith
pointers-small kind.Bytes ws len long small = omega arith
pointers-small kind.Method ws len long small = let few = literals-small ws in omega arith

holders-small : (c : Core) (t q : ℕ) → IsCore c → count_by (names t) (holders c q) ≤ 65536
unfolding holders
holders-small c t q core = go (place_of (c.entries q).state) refl
  where
    go : (o : Option ℕ) → place_of (c.entries q).state ≡ o → count_by (names t) (holders_in c.chunks (c.entries q) o) ≤ 65536
    go None e = omega arith
    go (Some p) e =
        let most = count_by-le-length (names t) ((c.entries q).class.0 ∷ pointers (c.entries q).kind (c.chunks p).words) in
        let few = pointers-small (c.entries q).kind (c.chunks p).words (c.entries q).len (core.long q p e) (core.small q p e) in
        omega arith

holders-short : (c : Core) (t q : ℕ) → IsCore c → is_short q ≡ false → count_by (names t) (holders c q) ≡ 0
unfolding holders
holders-short c t q core not = go (place_of (c.entries q).state) refl
  where
    go : (o : Option ℕ) → place_of (c.entries q).state ≡ o → count_by (names t) (holders_in c.chunks (c.entries q) o) ≡ 0
    go None e = refl
    go (Some p) e = let is = core.short q (placed-used (c.entries q).state p e) in absurd (cc)

-- every second number may have a list, from 2 on
tally-few : (n t : ℕ) (f : ℕ → List ℕ) → ((q : ℕ) → count_by (names t) (f q) ≤ 65536) → ((q : ℕ) → is_short q ≡ false → count_by (names t) (f q) ≡ 0) → tally n f t ≤ (n - 1) / 2 * 65536
tally-few zero t f most none = omega arith
tally-few (suc n) t f most none = go (is_short n) refl (tally-few n t f most none)
  where
    go : (b : Bool) → is_short n ≡ b → tally n f t ≤ (n - 1) / 2 * 65536 → tally n f t + count_by (names t) (f n) ≤ (suc n - 1) / 2 * 65536
    go false e before = let zero_ = none n e in omega arith
    go true e before = let even : n % 2 ≡ 0 = grind (arith, common_steps) in let above : 0 < n = grind (arith, common_steps) in let here = most n in omega arith

-- the words of all bodies are fewer than 2 to the 31
pub uses-few : (c : Core) (t : ℕ) → IsCore c → uses c t ≤ 2147418112
unfolding uses
uses-few c t core =
    let low = core.low in
    let all : tally c.bound (holders c) t ≤ (c.bound - 1) / 2 * 65536 = tally-few c.bound t (holders c) (λ q. holders-small c t q core) (λ q not. holders-short c t q core not) in
    omega arith

-- so a reference that is counted can be one more
pub light-refs : (c : Core) (t : ℕ) → IsCore c → outside c t < 2147483648 → (c.entries t).refs < 4294967295
unfolding outside
light-refs c t core light = let few = uses-few c t core in let most = core.counted t in omega arith

-- and with few references from outside there are fewer than 2 to the 31 in all
pub refs-few : (c : Core) (t : ℕ) → IsCore c → outside c t < 65536 → (c.entries t).refs < 2147483648
unfolding outside
refs-few c t core few = let some = uses-few c t core in let most = core.counted t in omega arith
