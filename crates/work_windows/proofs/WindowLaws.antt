-- What a window shows, and what a write leaves of it.
use Rattle.std.proofs.Common.{◌≡◌, ◌⊎◌, inl, inr, ℕ, ◌+◌, ◌-◌, ◌<◌, ◌≤◌, ◌%◌, ◌/◌, ◌^◌, ◌≢◌, List, ◌++◌, length, get_or, take, drop, Option, Some, sym, ap, ◌∙◌, arith}
use Rattle.std.specs.Option.{unwrap_or}
use Rattle.std.proofs.lemmas.Grind.{elements, common_steps}
use Rattle.loom_host.specs.Bytes.{window, overwritten}
use Rattle.loom_host.proofs.Windows.{below_or_past, length-window, get_or-window, window-by_bytes, get_or-overwritten, byte_after_inside, byte_after_outside, window-overwritten_apart, window-taken}
use Rattle.work_windows.specs.Windows.{IsPageOf, Shows}
use Rattle.work_windows.specs.declared.window.TheConstants.{WIDTH}
use Rattle.work_windows.specs.declared.window.Window.{Window}

pub same_or_not : (k i : ℕ) → (k ≡ i) ⊎ (k ≢ i)
same_or_not k i = elim (below_or_past k i) [
  | inl below ↦ inr (λ e. omega (arith, e, below))
  | inr past ↦ elim (below_or_past i k) [ inl above ↦ inr (λ e. omega (arith, e, above)) | inr least ↦ inl (omega arith) ]
]

-- one place is enough
pub one-place : (p : Option ℕ) (x y : ℕ) → p ≡ Some x → p ≡ Some y → x ≡ y
one-place p x y here there = ap (λ (o : Option ℕ). unwrap_or o 0) (sym here ∙ there)

-- a page that begins elsewhere ends before what is written within one, or begins behind it
pub pages-apart : (own place from n : ℕ) → own % WIDTH ≡ 0 → place % WIDTH ≡ 0 → from + n ≤ WIDTH → own ≢ place → (own + WIDTH ≤ place + from) ⊎ (place + from + n ≤ own)
pages-apart own place from n page written fits other = grind arith

-- and so does one that another window shows
pub indexes-apart : (count : ℕ) (own place n i : ℕ) → IsPageOf count i own → place % WIDTH + n ≤ WIDTH → i ≢ place / WIDTH % count → (own + WIDTH ≤ place) ⊎ (place + n ≤ own)
indexes-apart count own place n i page fits other = elim (same_or_not (own / WIDTH) (place / WIDTH)) [
  | inl e ↦ absurd (other (sym page.1 ∙ ap (λ m. m % count) e))
  | inr apart ↦ elsewhere own place n page.0 fits apart
] where
  elsewhere : (a p m : ℕ) → a % WIDTH ≡ 0 → p % WIDTH + m ≤ WIDTH → a / WIDTH ≢ p / WIDTH → (a + WIDTH ≤ p) ⊎ (p + m ≤ a)
  elsewhere a p m begins within away = grind arith

-- the page of a place
pub page-of : (count : ℕ) (place i : ℕ) → i ≡ place / WIDTH % count → place < 2 ^ 64 → IsPageOf count i (place - place % WIDTH)
page-of count place i is low = (omega arith, ap (λ m. m % count) (let e : (place - place % WIDTH) / WIDTH ≡ place / WIDTH = omega arith in e) ∙ sym is, omega (arith, low))

-- what is written apart from a page leaves it as it is
pub shows-apart : (count : ℕ) (work : List ℕ) (i : ℕ) (w : Window) (place : ℕ) (piece : List ℕ) → ((own : ℕ) → w.place ≡ Some own → (own + WIDTH ≤ place) ⊎ (place + length piece ≤ own)) → Shows count work i w → Shows count (overwritten work place piece) i w
shows-apart count work i w place piece apart shows = λ own at. ((shows own at).0, (shows own at).1 ∙ sym (window-overwritten_apart work place piece own WIDTH (apart own at)))

inside_or_out : (at b k : ℕ) → ((at ≤ k) × (k < at + b)) ⊎ ((k < at) ⊎ (at + b ≤ k))
inside_or_out at b k = grind arith

pasted_inside : (room : List ℕ) (at : ℕ) (b : List ℕ) (k : ℕ) → at + length b ≤ length room → at ≤ k → k < at + length b → get_or (take at room ++ (b ++ drop (at + length b) room)) k 0 ≡ get_or b (k - at) 0
pasted_inside room at b k fits low high = grind (arith, elements)

pasted_outside : (room : List ℕ) (at : ℕ) (b : List ℕ) (k : ℕ) → at + length b ≤ length room → (k < at) ⊎ (at + length b ≤ k) → k < length room → get_or (take at room ++ (b ++ drop (at + length b) room)) k 0 ≡ get_or room k 0
pasted_outside room at b k fits out below = grind (arith, elements)

length-pasted : (room : List ℕ) (at : ℕ) (b : List ℕ) → at + length b ≤ length room → length (take at room ++ (b ++ drop (at + length b) room)) ≡ length room
length-pasted room at b fits = grind (arith, common_steps)

-- a write inside a window, put over its bytes
pub window-pasted : (work room : List ℕ) (own at n : ℕ) (b : List ℕ) → room ≡ window work own n → at + length b ≤ n → take at room ++ (b ++ drop (at + length b) room) ≡ window (overwritten work (own + at) b) own n
window-pasted work room own at n b is fits =
    let long : length room ≡ n = ap length is ∙ length-window work own n in
    let within : at + length b ≤ length room = rw long fits in
    window-by_bytes (overwritten work (own + at) b) own (take at room ++ (b ++ drop (at + length b) room)) n (length-pasted room at b within ∙ long) (λ k below.
    elim (inside_or_out at (length b) k) [
      | inl inside ↦
          pasted_inside room at b k within inside.0 inside.1
          ∙ ap (λ j. get_or b j 0) (let e : k - at ≡ own + k - (own + at) = omega arith in e)
          ∙ sym (get_or-overwritten work (own + at) b (own + k) ∙ byte_after_inside work (own + at) b (own + k) (let l = inside.0 in omega arith) (let h = inside.1 in omega arith))
      | inr out ↦
          pasted_outside room at b k within out (rw long below)
          ∙ ap (λ (bytes : List ℕ). get_or bytes k 0) is
          ∙ get_or-window work own n k below
          ∙ sym (get_or-overwritten work (own + at) b (own + k) ∙ byte_after_outside work (own + at) b (own + k) (elim out [ inl before ↦ inl (omega arith) | inr behind ↦ inr (omega arith) ]))
    ])

rest_behind : (at : ℕ) (b room : List ℕ) → drop (at + length b - at) (drop at room) ≡ drop (at + length b) room
rest_behind at b room = grind (arith, elements)

-- a page with a piece put into it
pub put-shows : (work room new : List ℕ) (own from x : ℕ) (b : List ℕ) → room ≡ window work x WIDTH → new ≡ b → from + length b ≤ WIDTH → x ≡ own → take from room ++ (new ++ drop (from + length b - from) (drop from room)) ≡ window (overwritten work (own + from) b) x WIDTH
put-shows work room new own from x b is same fits here =
    ap (λ (ys : List ℕ). take from room ++ (ys ++ drop (from + length b - from) (drop from room))) same
    ∙ ap (λ (rest : List ℕ). take from room ++ (b ++ rest)) (rest_behind from b room)
    ∙ window-pasted work room x from WIDTH b is fits
    ∙ ap (λ (q : ℕ). window (overwritten work (q + from) b) x WIDTH) here

-- a piece that was copied out of a window
pub piece-shown : (work bytes new : List ℕ) (place from n : ℕ) → bytes ≡ window work place WIDTH → from + n ≤ WIDTH → new ≡ take (from + n - from) (drop from bytes) → new ≡ window work (place + from) n
piece-shown work bytes new place from n is fits after =
    let long : from + n - from ≡ n = omega arith in
    after
    ∙ ap (λ (k : ℕ). take k (drop from bytes)) long
    ∙ ap (λ (all : List ℕ). take n (drop from all)) is
    ∙ window-taken work place WIDTH from n fits
