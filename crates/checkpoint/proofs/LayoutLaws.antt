-- Gates among bytes, and the blocks of an image.
use Rattle.std.proofs.Common.{◌≡◌, ◌≢◌, inl, inr, ℕ, zero, suc, ◌+◌, ◌-◌, ◌*◌, ◌<◌, ◌≤◌, ◌++◌, ◌/◌, ◌%◌, min, false, cond, List, [], map, length, length-append, drop, get_or, Option, None, Some, refl, sym, ap, ◌∙◌, arith}
use Rattle.std.proofs.lemmas.List.{ext_get_or, get_or-drop, get_or_append_left, get_or-append_right}
use Rattle.std.proofs.lemmas.List.FromFn.{length-map-range_with_len, get_or-map-range_with_len}
use Rattle.std.proofs.lemmas.Nat.{div-add-mod', div-mul-add, mod-mul-add, mod_below, same_from_place}
use Rattle.std.proofs.lemmas.Bool.Decides.{nat_tests}
use Rattle.std.specs.List.{range_with_len}
use Rattle.byteorder.specs.Endian.{big_from, big_number}
use Rattle.loom_host.specs.Bytes.{window}
use Rattle.loom_host.proofs.Windows.{below_or_past, get_or-window, length-window, window-window}
use Rattle.checkpoint.specs.declared.layout.TheConstants.{AREAS_AT, BLOCK, GATE_BYTES, GATE_GAP, LENGTH_AT, SERIAL_AT}
use Rattle.checkpoint.specs.declared.layout.Gate.{Gate}
use Rattle.checkpoint.specs.declared.point.Point.{Point}
use Rattle.checkpoint.specs.Layout.{area_in, bad_place, block_place, found, gate_in, gate_of, image_place, is_bad, is_open, later_of, number_at, point_of}

-- ---- numbers

big_from-same : (n i : ℕ) (v w : List ℕ) → ((k : ℕ) → k < i + n → get_or v k 0 ≡ get_or w k 0) → big_from i n v ≡ big_from i n w
big_from-same zero i v w same = refl
big_from-same (suc n) i v w same =
    let byte = same i (omega arith) in
    let rest = big_from-same n (suc i) v w (λ k h. same k (omega arith)) in
    rw (byte, rest) refl

pub number-dropped : (bytes : List ℕ) (p : ℕ) → big_number 8 (drop p bytes) ≡ number_at bytes p
unfolding number_at
number-dropped bytes p =
    big_from-same 8 0 (drop p bytes) (window bytes p 8) (λ k h. get_or-drop p bytes k 0 ∙ sym (get_or-window bytes p 8 k (omega arith)))

pub number-same : (v w : List ℕ) (p : ℕ) → ((k : ℕ) → p ≤ k → k < p + 8 → get_or v k 0 ≡ get_or w k 0) → number_at v p ≡ number_at w p
unfolding number_at
number-same v w p same =
    big_from-same 8 0 (window v p 8) (window w p 8) (λ k h.
    get_or-window v p 8 k (omega arith) ∙ same (p + k) (omega arith) (omega arith) ∙ sym (get_or-window w p 8 k (omega arith)))

pub number-windowed : (w : List ℕ) (p n q : ℕ) → q + 8 ≤ n → number_at (window w p n) q ≡ number_at w (p + q)
unfolding number_at
number-windowed w p n q within = ap (big_number 8) (window-window w p n q 8 within)

big_from-zeros : (n i : ℕ) (v : List ℕ) → ((k : ℕ) → k < i + n → get_or v k 0 ≡ 0) → big_from i n v ≡ 0
big_from-zeros zero i v none = refl
big_from-zeros (suc n) i v none =
    let byte = none i (omega arith) in
    let rest = big_from-zeros n (suc i) v (λ k h. none k (omega arith)) in
    rw (byte, rest) (omega arith)

pub number-zeros : (v : List ℕ) (p : ℕ) → ((k : ℕ) → p ≤ k → k < p + 8 → get_or v k 0 ≡ 0) → number_at v p ≡ 0
unfolding number_at
number-zeros v p none =
    big_from-zeros 8 0 (window v p 8) (λ k h. get_or-window v p 8 k (omega arith) ∙ none (p + k) (omega arith) (omega arith))

-- ---- gates

abbrev gate_with : ℕ → ℕ → ℕ → Gate
gate_with byte serial len = record { byte = byte; serial = serial; len = len }

gate_by : (a b c d e f : ℕ) → a ≡ b → c ≡ d → e ≡ f → gate_with a c e ≡ gate_with b d f
gate_by a b c d e f p q r = cc

pub gate-read : (w bytes : List ℕ) (s : ℕ) → bytes ≡ window w (GATE_GAP * s) GATE_BYTES → gate_of bytes ≡ gate_in w s
gate-read w bytes s is = ap gate_of is ∙ go w (GATE_GAP * s) where
  go : (w : List ℕ) (p : ℕ) → gate_of (window w p GATE_BYTES) ≡ gate_with (get_or w p 0) (number_at w (p + SERIAL_AT)) (number_at w (p + LENGTH_AT))
  go w p =
      let here : p + 0 ≡ p = omega arith in
      let byte = get_or-window w p GATE_BYTES 0 (omega arith) ∙ ap (λ j. get_or w j 0) here in
      let serial = number-windowed w p GATE_BYTES SERIAL_AT (omega arith) in
      let len = number-windowed w p GATE_BYTES LENGTH_AT (omega arith) in
      gate_by _ _ _ _ _ _ byte serial len

-- a gate is what its own bytes say
pub gate-same : (v w : List ℕ) (s : ℕ) → ((k : ℕ) → GATE_GAP * s ≤ k → k < GATE_GAP * s + GATE_BYTES → get_or v k 0 ≡ get_or w k 0) → gate_in v s ≡ gate_in w s
gate-same v w s same =
    let byte = same (GATE_GAP * s) (omega arith) (omega arith) in
    let serial = number-same v w (GATE_GAP * s + SERIAL_AT) (λ k low high. same k (omega arith) (omega arith)) in
    let len = number-same v w (GATE_GAP * s + LENGTH_AT) (λ k low high. same k (omega arith) (omega arith)) in
    rw (byte, serial, len) refl

pub found-same : (v w : List ℕ) → gate_in v 0 ≡ gate_in w 0 → gate_in v 1 ≡ gate_in w 1 → found v ≡ found w
found-same v w first second = ap (λ (g : Gate). later_of (point_of g) (point_of (gate_in v 1))) first ∙ ap (λ (g : Gate). later_of (point_of (gate_in w 0)) (point_of g)) second

-- a gate is closed where its byte isn't 1, whatever else it says, and where its serial is 0
pub closed-byte : (g : Gate) → g.byte ≢ 1 → is_open g ≡ false
closed-byte g other = grind (arith, nat_tests)

pub closed-serial : (g : Gate) → g.serial ≡ 0 → is_open g ≡ false
closed-serial g none = grind (arith, nat_tests)

pub point-closed : (g : Gate) → is_open g ≡ false → point_of g ≡ None
point-closed g closed = rw closed refl

pub found-closed : (bytes : List ℕ) → is_open (gate_in bytes 0) ≡ false → is_open (gate_in bytes 1) ≡ false → found bytes ≡ None
found-closed bytes first second =
    ap (λ (p : Option Point). later_of p (point_of (gate_in bytes 1))) (point-closed (gate_in bytes 0) first)
    ∙ ap (λ (p : Option Point). later_of None p) (point-closed (gate_in bytes 1) second)

-- where nothing stands but at the gates' bytes, no gate is open
pub found-blank : (bytes : List ℕ) → ((i : ℕ) → i ≢ 0 → i ≢ GATE_GAP → get_or bytes i 0 ≡ 0) → found bytes ≡ None
found-blank bytes blank =
    let first = number-zeros bytes (GATE_GAP * 0 + SERIAL_AT) (λ k low high. blank k (λ e. omega arith) (λ e. omega arith)) in
    let second = number-zeros bytes (GATE_GAP * 1 + SERIAL_AT) (λ k low high. blank k (λ e. omega arith) (λ e. omega arith)) in
    found-closed bytes (closed-serial (gate_in bytes 0) first) (closed-serial (gate_in bytes 1) second)

-- ---- images

pub length-area_in : (w : List ℕ) (s n : ℕ) → length (area_in w s n) ≡ n
unfolding area_in
length-area_in w s n = length-map-range_with_len (λ j. get_or w (image_place s j) 0) 0 n

pub get_or-area_in : (w : List ℕ) (s n j : ℕ) → j < n → get_or (area_in w s n) j 0 ≡ get_or w (image_place s j) 0
unfolding area_in
get_or-area_in w s n j below = get_or-map-range_with_len (λ i. get_or w (image_place s i) 0) 0 n j j 0 below (omega arith)

-- an area is what its own places hold
pub area_in-same : (v w : List ℕ) (s n : ℕ) → ((j : ℕ) → j < n → get_or v (image_place s j) 0 ≡ get_or w (image_place s j) 0) → area_in v s n ≡ area_in w s n
area_in-same v w s n same =
    ext_get_or 0 _ _ (length-area_in v s n ∙ sym (length-area_in w s n)) (λ j h.
    let below : j < n = rw (length-area_in v s n) at h in
    get_or-area_in v s n j below ∙ same j below ∙ sym (get_or-area_in w s n j below))

-- byte k of block b
pub place-in_block : (s b k : ℕ) → k < BLOCK → image_place s (b * BLOCK + k) ≡ block_place s b + k
place-in_block s b k below = rw (div-mul-add b BLOCK k below, mod-mul-add b BLOCK k below) refl

-- one block more, or a part of it
pub area_in-more : (w : List ℕ) (s b n : ℕ) → n ≤ BLOCK → area_in w s (b * BLOCK + n) ≡ area_in w s (b * BLOCK) ++ window w (block_place s b) n
area_in-more w s b n most =
    ext_get_or 0 _ _ (length-area_in w s (b * BLOCK + n) ∙ sym (length-append (area_in w s (b * BLOCK)) (window w (block_place s b) n) ∙ two (length-area_in w s (b * BLOCK)) (length-window w (block_place s b) n)))
    (λ j h.
    let below : j < b * BLOCK + n = rw (length-area_in w s (b * BLOCK + n)) at h in
    get_or-area_in w s (b * BLOCK + n) j below ∙ elim (below_or_past j (b * BLOCK)) [
      | inl low ↦ sym (get_or_append_left (area_in w s (b * BLOCK)) (window w (block_place s b) n) 0 j (rw (length-area_in w s (b * BLOCK)) low) ∙ get_or-area_in w s (b * BLOCK) j low)
      | inr high ↦ let within : j - b * BLOCK < n = omega arith in
          ap (λ i. get_or w (image_place s i) 0) (split j (b * BLOCK) high) ∙ ap (λ i. get_or w i 0) (place-in_block s b (j - b * BLOCK) (omega arith))
          ∙ sym (get_or-append_right (area_in w s (b * BLOCK)) (window w (block_place s b) n) (b * BLOCK) j 0 (length-area_in w s (b * BLOCK)) high ∙ get_or-window w (block_place s b) n (j - b * BLOCK) within)
    ]) where
      two : {a b c d : ℕ} → a ≡ b → c ≡ d → a + c ≡ b + d
      two p q = omega arith

      split : (j m : ℕ) → m ≤ j → j ≡ m + (j - m)
      split j m h = omega arith

pub area_in-step : (w : List ℕ) (s len b n : ℕ) → b * BLOCK < len → n ≡ min (len - b * BLOCK) BLOCK
    → area_in w s (min len ((b + 1) * BLOCK)) ≡ area_in w s (min len (b * BLOCK)) ++ window w (block_place s b) n
area_in-step w s len b n more is =
    let last : min len ((b + 1) * BLOCK) ≡ b * BLOCK + n = omega arith in
    let first : min len (b * BLOCK) ≡ b * BLOCK = omega arith in
    ap (area_in w s) last ∙ area_in-more w s b n (omega arith) ∙ ap (λ m. area_in w s m ++ window w (block_place s b) n) (sym first)

pub area_in-start : (w : List ℕ) (s len : ℕ) → area_in w s (min len (0 * BLOCK)) ≡ []
unfolding area_in
area_in-start w s len = ap (λ n. map (λ j. get_or w (image_place s j) 0) (range_with_len 0 n)) (let e : min len (0 * BLOCK) ≡ 0 = omega arith in e)

-- the same, as it is read
pub area_in-read : (w v image new : List ℕ) (s len b n place size : ℕ) → new ≡ image ++ window v place size → v ≡ w → image ≡ area_in w s (min len (b * BLOCK)) → place ≡ block_place s b → size ≡ n
    → b * BLOCK < len → n ≡ min (len - b * BLOCK) BLOCK → new ≡ area_in w s (min len ((b + 1) * BLOCK))
area_in-read w v image new s len b n place size is same so_far at sized more most =
    is ∙ ap (λ l. l ++ window v place size) so_far ∙ ap (λ l. area_in w s (min len (b * BLOCK)) ++ window l place size) same
    ∙ ap (λ p. area_in w s (min len (b * BLOCK)) ++ window w p size) at ∙ ap (λ m. area_in w s (min len (b * BLOCK)) ++ window w (block_place s b) m) sized
    ∙ sym (area_in-step w s len b n more most)

-- what is found, and what is bad, is what the two gates say
each_gate : (v w : List ℕ) → ((s k : ℕ) → s < 2 → k < GATE_BYTES → get_or v (GATE_GAP * s + k) 0 ≡ get_or w (GATE_GAP * s + k) 0) → (s : ℕ) → s < 2 → gate_in v s ≡ gate_in w s
each_gate v w same s which =
    gate-same v w s (λ i low high.
    let split : GATE_GAP * s + (i - GATE_GAP * s) ≡ i = omega arith in
    ap (λ j. get_or v j 0) (sym split) ∙ same s (i - GATE_GAP * s) which (omega arith) ∙ ap (λ j. get_or w j 0) split)

pub found-by_gates : (v w : List ℕ) → ((s k : ℕ) → s < 2 → k < GATE_BYTES → get_or v (GATE_GAP * s + k) 0 ≡ get_or w (GATE_GAP * s + k) 0) → found v ≡ found w
found-by_gates v w same = found-same v w (each_gate v w same 0 (omega arith)) (each_gate v w same 1 (omega arith))

pub bad-by_gates : (v w : List ℕ) → ((s k : ℕ) → s < 2 → k < GATE_BYTES → get_or v (GATE_GAP * s + k) 0 ≡ get_or w (GATE_GAP * s + k) 0) → bad_place v ≡ bad_place w
bad-by_gates v w same =
    ap (λ (g : Gate). cond (is_bad 0 g) (Some 0) (cond (is_bad 1 (gate_in v 1)) (Some GATE_GAP) None)) (each_gate v w same 0 (omega arith))
    ∙ ap (λ (g : Gate). cond (is_bad 0 (gate_in w 0)) (Some 0) (cond (is_bad 1 g) (Some GATE_GAP) None)) (each_gate v w same 1 (omega arith))

pub whole-closed : (s : ℕ) (g : Gate) → is_open g ≡ false → is_bad s g ≡ false
whole-closed s g closed = rw closed refl

-- no place is one of two areas, or of two bytes
pub place-behind : (s j : ℕ) → AREAS_AT ≤ image_place s j
place-behind s j = omega arith

same-halves : (b c s t : ℕ) → s < 2 → t < 2 → 2 * b + s ≡ 2 * c + t → (b ≡ c) × (s ≡ t)
same-halves b c s t low high same = (omega arith, omega arith)

pub place-apart : (s t j k : ℕ) → s < 2 → t < 2 → image_place s j ≡ image_place t k → (s ≡ t) × (j ≡ k)
place-apart s t j k low high same =
    let halves : (2 * (j / BLOCK) + s) * BLOCK + j % BLOCK ≡ (2 * (k / BLOCK) + t) * BLOCK + k % BLOCK = omega arith in
    let place = same_from_place (2 * (j / BLOCK) + s) (j % BLOCK) (2 * (k / BLOCK) + t) (k % BLOCK) BLOCK (mod_below j BLOCK (omega arith)) (mod_below k BLOCK (omega arith)) halves in
    let two = same-halves (j / BLOCK) (k / BLOCK) s t low high place.0 in
    (two.1, sym (div-add-mod' j BLOCK) ∙ ap (λ b. b * BLOCK + j % BLOCK) two.0 ∙ ap (λ r. k / BLOCK * BLOCK + r) place.1 ∙ div-add-mod' k BLOCK)
