-- Pages of which it is noted that they were written, a bit for each, and what the others hold.
use Rattle.std.proofs.Common.{◌≡◌, ◌≢◌, ◌⊎◌, inl, inr, ℕ, ◌+◌, ◌*◌, ◌/◌, ◌%◌, ◌^◌, ◌<◌, ◌≤◌, ◌==◌, ◌||◌, Bool, true, false, true≢false, List, [], length, get_or, slice_set, take, replicate, min, nat_lt, cond, Option, Some, None, Result, Ok, Err, OnOk, bit_or, refl, subst, sym, ap, ◌∙◌, ◌-◌, arith, w64}
use Rattle.std.specs.Prelude.{nat_le, not}
use Rattle.std.proofs.lemmas.Bool.Decides.{nat_tests}
use Rattle.std.proofs.lemmas.List.{get_or-set_same, get_or-set_other, get_or-replicate, length-replicate, length-take}
use Rattle.std.proofs.lemmas.Nat.Bits.{bit_at_set_same, bit_at_set_other}
use Rattle.std.specs.Int.{bit_at}
use Rattle.loom_host.specs.Bytes.{window, overwritten}
use Rattle.loom_host.proofs.Windows.{length-window, get_or-window, window-by_bytes, get_or-overwritten, byte_after_outside}
use Rattle.work_windows.proofs.WindowLaws.{same_or_not}
use Rattle.work_windows.specs.Blanks.{may_hold, AreBlank}
use Rattle.work_windows.specs.declared.blanks.Blanks.{Blanks}
use Rattle.work_windows.specs.Windows.{saved_at, saved}
use Rattle.work_windows.specs.declared.window.TheConstants.{WIDTH}
use Rattle.work_windows.specs.declared.window.Window.{Window}

abbrev marked : List ℕ → ℕ → ℕ
marked words page = bit_at (get_or words (page / 64) 0) (page % 64)

or-keeps : (a b x y : Bool) → (x ≡ true → y ≡ true) → (a || (b || x)) ≡ true → (a || (b || y)) ≡ true
or-keeps true b x y keeps is = is
or-keeps false true x y keeps is = is
or-keeps false false x y keeps is = keeps is

or-last : (a b y : Bool) → y ≡ true → (a || (b || y)) ≡ true
or-last true b y is = refl
or-last false true y is = refl
or-last false false y is = is

or-middle : (a b y : Bool) → b ≡ true → (a || (b || y)) ≡ true
or-middle true b y is = refl
or-middle false true y is = refl
or-middle false false y is = absurd (true≢false (sym is))

module _ (words : List ℕ) (page : ℕ) (within : page / 64 < length words) where
  abbrev word : ℕ
  word = bit_or (get_or words (page / 64) 0) (1 * 2 ^ (page % 64) % 2 ^ 64)

  abbrev now : List ℕ
  now = slice_set words (page / 64) word

  here : marked now page ≡ 1
  here = ap (λ k. bit_at k (page % 64)) (get_or-set_same words (page / 64) word 0 within)
      ∙ bit_at_set_same w64 (get_or words (page / 64) 0) (page % 64) (omega arith)

  there : (other : ℕ) → other ≢ page → marked now other ≡ marked words other
  there other away = by_word (same_or_not (other / 64) (page / 64)) where
    by_word : (other / 64 ≡ page / 64) ⊎ (other / 64 ≢ page / 64) → marked now other ≡ marked words other
    by_word (inl same) =
        let bits : other % 64 ≢ page % 64 = λ e. away (omega arith) in
        ap (λ k. bit_at (get_or now k 0) (other % 64)) same
        ∙ ap (λ k. bit_at k (other % 64)) (get_or-set_same words (page / 64) word 0 within)
        ∙ bit_at_set_other w64 (get_or words (page / 64) 0) (page % 64) (omega arith) (other % 64) bits
        ∙ ap (λ k. bit_at (get_or words k 0) (other % 64)) (sym same)
    by_word (inr apart) = ap (λ k. bit_at k (other % 64)) (get_or-set_other words (page / 64) (other / 64) word 0 apart)

  one_here : (marked now page == 1) ≡ true
  one_here = ap (λ k. k == 1) here

  pub note-noted : (known : Bool) → (not known || (nat_le 65536 page || (marked now page == 1))) ≡ true
  note-noted known = or-last (not known) (nat_le 65536 page) (marked now page == 1) one_here

  pub note-kept : (known : Bool) (other : ℕ) → (not known || (nat_le 65536 other || (marked words other == 1))) ≡ true → (not known || (nat_le 65536 other || (marked now other == 1))) ≡ true
  note-kept known other = or-keeps (not known) (nat_le 65536 other) (marked words other == 1) (marked now other == 1) (λ was. elim (same_or_not other page) [
    | inl e ↦ ap (λ k. marked now k == 1) e ∙ one_here
    | inr away ↦ ap (λ k. k == 1) (there other away) ∙ was
  ])

-- of pages behind the first ones nothing is known
pub far-may : (b : Blanks) (page : ℕ) → 65536 ≤ page → may_hold b page ≡ true
unfolding may_hold
far-may b page far = or-middle (not b.known) (nat_le 65536 page) (marked b.words page == 1) (let t : nat_le 65536 page ≡ true = grind (arith, nat_tests) in t)

true-false : (x : Bool) → x ≡ true → x ≡ false → ⊥
true-false x holds fails = true≢false (sym holds ∙ fails)

-- where nothing is known of any page
pub unknown-may : (b : Blanks) (page : ℕ) → b.known ≡ false → may_hold b page ≡ true
unfolding may_hold
unknown-may b page unknown = ap (λ k. not k || (nat_le 65536 page || (marked b.words page == 1))) unknown

-- of the others it is known by their bits
pub first-may : (b : Blanks) (page : ℕ) → b.known ≡ true → page < 65536 → may_hold b page ≡ (marked b.words page == 1)
unfolding may_hold
first-may b page known low =
    ap (λ k. not k || (nat_le 65536 page || (marked b.words page == 1))) known
    ∙ ap (λ f. f || (marked b.words page == 1)) (let t : nat_le 65536 page ≡ false = grind (arith, nat_tests) in t)

-- a page behind those that were noted, of which none was left out
pub note-far : (place n k sum end page : ℕ) → sum ≡ min (place + (n - 1)) (2 ^ 64 - 1) → end ≡ min 65536 (sum / 4096 + 1) → end ≤ page → page ≤ k / 4096 → k < place + n → 65536 ≤ k / 4096
note-far place n k sum end page sum_is end_is done past high = grind arith

-- where any page may hold anything
pub none-blank : (work : List ℕ) (b : Blanks) → ((page : ℕ) → may_hold b page ≡ true) → AreBlank work b
none-blank work b all = record { zeros = λ k fails. absurd (true-false _ (all (k / WIDTH)) fails) }

-- nothing was written
pub empty-blank : (b : Blanks) → AreBlank [] b
empty-blank b = record { zeros = λ k fails. nothing k } where
  nothing : (k : ℕ) → ◌≡◌ {A = ℕ} (get_or [] k 0) 0
  nothing k = refl

-- more pages may hold something
pub fewer-blank : (work : List ℕ) (b c : Blanks) → ((page : ℕ) → may_hold b page ≡ true → may_hold c page ≡ true) → AreBlank work b → AreBlank work c
fewer-blank work b c kept is = record { zeros = λ k fails. is.zeros k (was (k / WIDTH) (may_hold b (k / WIDTH)) refl fails) } where
  was : (page : ℕ) (x : Bool) → may_hold b page ≡ x → may_hold c page ≡ false → may_hold b page ≡ false
  was page true e fails = absurd (true-false (may_hold c page) (kept page e) fails)
  was page false e fails = e

-- what is written lies on pages that may hold something
pub written-blank : (work : List ℕ) (place : ℕ) (piece : List ℕ) (b c : Blanks) → ((page : ℕ) → may_hold b page ≡ true → may_hold c page ≡ true) → ((k : ℕ) → place ≤ k → k < place + length piece → may_hold c (k / WIDTH) ≡ true) → AreBlank work b → AreBlank (overwritten work place piece) c
written-blank work place piece b c kept noted is = record {
  zeros = λ k fails. get_or-overwritten work place piece k ∙ byte_after_outside work place piece k (outside k fails) ∙ (fewer-blank work b c kept is).zeros k fails;
} where
  parts : (k : ℕ) → ((place ≤ k) × (k < place + length piece)) ⊎ ((k < place) ⊎ (place + length piece ≤ k))
  parts k = grind arith

  outside : (k : ℕ) → may_hold c (k / WIDTH) ≡ false → (k < place) ⊎ (place + length piece ≤ k)
  outside k fails = elim (parts k) [
    | inl inside ↦ absurd (true-false _ (noted k inside.0 inside.1) fails)
    | inr out ↦ out
  ]

pub blank-same : (work held : List ℕ) (b : Blanks) → held ≡ work → AreBlank work b → AreBlank held b
blank-same work held b same is = subst (λ w. AreBlank w b) (sym same) is

-- a window was written to the host inside
pub saved-blank : (work : List ℕ) (limit : ℕ) (w : Window) (b c : Blanks) → ((page : ℕ) → may_hold b page ≡ true → may_hold c page ≡ true) → ((own k : ℕ) → w.place ≡ Some own → own ≤ k → k < own + WIDTH → may_hold c (k / WIDTH) ≡ true) → AreBlank work b → AreBlank (saved work limit w) c
saved-blank work limit w b c kept noted is = by_place w.place refl where
  by_place : (o : Option ℕ) → w.place ≡ o → AreBlank (saved_at work limit w.bytes o) c
  by_place None at = fewer-blank work b c kept is
  by_place (Some own) at = by_limit (nat_lt own limit) where
    piece : List ℕ
    piece = take (min (limit - own) WIDTH) w.bytes

    short : length piece ≤ WIDTH
    short = least (length piece) (limit - own) (length w.bytes) (length-take (min (limit - own) WIDTH) w.bytes) where
      least : (a b n : ℕ) → a ≡ min (min b WIDTH) n → a ≤ WIDTH
      least a b n e = grind arith

    by_limit : (t : Bool) → AreBlank (cond t (overwritten work own piece) work) c
    by_limit true = written-blank work own piece b c kept (λ k low high. noted own k at low (let s = short in omega (arith, high, s))) is
    by_limit false = fewer-blank work b c kept is

pub saved-went_blank : {T E : Type 0} (r : Result T E) (work held : List ℕ) (limit : ℕ) (w : Window) (b c : Blanks) → ((page : ℕ) → may_hold b page ≡ true → may_hold c page ≡ true) → ((own k : ℕ) → w.place ≡ Some own → own ≤ k → k < own + WIDTH → may_hold c (k / WIDTH) ≡ true) → AreBlank work b → OnOk r (held ≡ saved work limit w) → OnOk r (AreBlank held c)
saved-went_blank (Ok x) work held limit w b c kept noted is same = blank-same (saved work limit w) held c same (saved-blank work limit w b c kept noted is)
saved-went_blank (Err e) work held limit w b c kept noted is same = tt

-- a piece of a page that holds nothing
pub blank-piece : (work : List ℕ) (b : Blanks) (place n : ℕ) → AreBlank work b → not (may_hold b (place / WIDTH)) ≡ true → place % WIDTH + n ≤ WIDTH → replicate n 0 ≡ window work place n
blank-piece work b place n is blank within =
    window-by_bytes work place (replicate n 0) n (length-replicate n 0) (λ k below.
    get_or-replicate n k 0 0 below ∙ sym (is.zeros (place + k) (ap (may_hold b) (let e : (place + k) / WIDTH ≡ place / WIDTH = omega (arith, below, within) in e) ∙ none (may_hold b (place / WIDTH)) blank)))
  where
    none : (x : Bool) → not x ≡ true → x ≡ false
    none true e = sym e
    none false e = refl

-- a page that holds nothing
pub blank-page : (work : List ℕ) (b : Blanks) (place : ℕ) → AreBlank work b → not (may_hold b (place / WIDTH)) ≡ true → window [] (place - place % WIDTH) WIDTH ≡ window work (place - place % WIDTH) WIDTH
blank-page work b place is blank =
    let at : ℕ = place - place % WIDTH in
    window-by_bytes work at (window [] at WIDTH) WIDTH (length-window [] at WIDTH) (λ k below.
    get_or-window [] at WIDTH k below ∙ sym (is.zeros (at + k) (ap (may_hold b) (let e : (place - place % WIDTH + k) / WIDTH ≡ place / WIDTH = omega (arith, below) in e) ∙ none (may_hold b (place / WIDTH)) blank)))
  where
    none : (x : Bool) → not x ≡ true → x ≡ false
    none true e = sym e
    none false e = refl
