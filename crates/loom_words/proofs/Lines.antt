-- A line of a trace is short: each of its numbers has 10 digits at most, and its byte 3.
use Rattle.std.proofs.Common.{◌≡◌, ℕ, ◌+◌, ◌<◌, ◌≤◌, ◌^◌, List, ◌++◌, length, codes, decimal, refl, arith}
use Rattle.std.proofs.lemmas.Fmt.{length-decimal-le}
use Rattle.std.proofs.lemmas.List.{length-append}
use Rattle.loom_words.specs.Trace.{trace_text}

-- a text of at most so many bytes, a space or a newline, and a number of at most so many digits
mark-short : (xs mark : List ℕ) (m : ℕ) → length mark ≡ 1 → length xs ≤ m → length (xs ++ mark) ≤ m + 1
mark-short xs mark m one few = let both = length-append xs mark in omega (arith, both, one, few)

number-short : (xs : List ℕ) (n m digits all : ℕ) → m + digits ≤ all → length (decimal n) ≤ digits → length xs ≤ m → length (xs ++ decimal n) ≤ all
number-short xs n m digits all sum low few = let both = length-append xs (decimal n) in omega (arith, both, sum, low, few)

ten-digits : (n : ℕ) → n < 2 ^ 32 → length (decimal n) ≤ 10
ten-digits n small = length-decimal-le 10 n (omega arith) (omega (arith, small)) (omega (arith, small))

three-digits : (n : ℕ) → n < 2 ^ 8 → length (decimal n) ≤ 3
three-digits n small = length-decimal-le 3 n (omega arith) (omega (arith, small)) (omega (arith, small))

pub trace-short : (k context ip byte : ℕ) → k < 2 ^ 32 → context < 2 ^ 32 → ip < 2 ^ 32 → byte < 2 ^ 8 → length (trace_text k context ip byte) ≤ 37
trace-short k context ip byte small_k small_context small_ip small_byte =
    let first = mark-short _ (codes " ") 10 refl (ten-digits k small_k) in
    let second = mark-short _ (codes " ") 21 refl (number-short _ context 11 10 21 (omega arith) (ten-digits context small_context) first) in
    let third = mark-short _ (codes " ") 32 refl (number-short _ ip 22 10 32 (omega arith) (ten-digits ip small_ip) second) in
    mark-short _ (codes "\n") 36 refl (number-short _ byte 33 3 36 (omega arith) (three-digits byte small_byte) third)
