-- What Work holds over a host inside, and what a step leaves of it.
use Rattle.std.proofs.Common.{◌≡◌, ◌⊎◌, inl, inr, ℕ, ◌+◌, ◌-◌, ◌<◌, ◌≤◌, ◌%◌, ◌/◌, ◌&&◌, max, min, List, [], Bool, true, false, cond, length, get_or, take, set, nat_lt, Option, Some, None, Result, Ok, Err, OnOk, refl, subst, sym, ap, ◌∙◌, arith}
use Rattle.std.specs.Prelude.{nat_le}
use Rattle.std.specs.Option.{unwrap_or}
use Rattle.std.proofs.lemmas.List.{ext_get_or, get_or-take, length-take}
use Rattle.std.proofs.lemmas.List.FromFn.{length-map-range_with_len, get_or-map-range_with_len}
use Rattle.std.proofs.lemmas.Bool.Decides.{nat_tests}
use Rattle.loom_host.specs.Bytes.{window, overwritten}
use Rattle.loom_host.proofs.Windows.{below_or_past, length-window, get_or-window, window-by_bytes, length-overwritten, get_or-overwritten, byte_after_inside, byte_after_outside}
use Rattle.work_windows.proofs.KeptLaws.{kept-or, kept-unread, kept-at, kept-set_other, kept-past, element, shown-kept, away-kept}
use Rattle.work_windows.proofs.ListLaws.{none-show, unread-shows, at-shows, set-show}
use Rattle.work_windows.proofs.WindowLaws.{same_or_not, one-place}
use Rattle.work_windows.specs.Windows.{IsPageOf, IsShown, AllShow, Over, kept_in, kept_at, overlaid, saved_at, saved}
use Rattle.work_windows.specs.declared.window.TheConstants.{WIDTH}
use Rattle.work_windows.specs.declared.window.Window.{Window}
use Rattle.work_windows.specs.declared.windows.TheConstants.{WRITTEN}

-- ---- what Work holds

pub none-over : (work : List ℕ) → Over work [] 0 work
none-over work = record { shows = none-show WRITTEN work; long = grind arith; unkept = λ k none. refl; behind = λ k past. refl }

-- where there are no windows
pub empty_over : (work : List ℕ) (ws : List Window) (limit : ℕ) → ws ≡ [] → limit ≡ 0 → Over work ws limit work
empty_over work ws limit none nought = subst (λ vs. Over work vs limit work) (sym none) (subst (λ n. Over work [] n work) (sym nought) (none-over work))

-- windows that show the same, and keep back no less
pub over-kept : (work all : List ℕ) (ws vs : List Window) (limit : ℕ) → Over work ws limit all → AllShow WRITTEN all vs → ((k : ℕ) → kept_at WRITTEN vs k ≡ None → kept_at WRITTEN ws k ≡ None) → Over work vs limit all
over-kept work all ws vs limit over shows kept = record { shows = shows; long = over.long; unkept = λ k none. over.unkept k (kept k none); behind = over.behind }

-- a part of a page that isn't kept is inside as it is
pub same-inside : (work all : List ℕ) (ws : List Window) (limit at n : ℕ) → Over work ws limit all → ((j : ℕ) → j < n → kept_at WRITTEN ws (at + j) ≡ None) → window work at n ≡ window all at n
same-inside work all ws limit at n over none =
    window-by_bytes all at (window work at n) n (length-window work at n) (λ j below. get_or-window work at n j below ∙ sym (over.unkept (at + j) (none j below)))

-- a write to the host inside, which windows took over
pub straight-over : (work all : List ℕ) (ws vs : List Window) (limit place : ℕ) (piece : List ℕ) → Over work ws limit all → AllShow WRITTEN (overwritten all place piece) vs → ((k : ℕ) → kept_at WRITTEN vs k ≡ None → kept_at WRITTEN ws k ≡ None) → Over (overwritten work place piece) vs limit (overwritten all place piece)
straight-over work all ws vs limit place piece over shows kept = record {
  shows = shows;
  long = length-overwritten all place piece ∙ sizes (length all) (length work) limit (place + length piece) (length (overwritten work place piece)) over.long (length-overwritten work place piece);
  unkept = λ k none. both k (over.unkept k (kept k none));
  behind = λ k past. both k (over.behind k past);
} where
  sizes : (a w l e n : ℕ) → a ≡ max w l → n ≡ max w e → max a e ≡ max n l
  sizes a w l e n long is = grind arith

  both : (k : ℕ) → get_or all k 0 ≡ get_or work k 0 → get_or (overwritten all place piece) k 0 ≡ get_or (overwritten work place piece) k 0
  both k same = get_or-overwritten all place piece k ∙ ap (λ x. cond (inside k) (get_or piece (k - place) 0) x) same ∙ sym (get_or-overwritten work place piece k) where
    inside : ℕ → Bool
    inside k = nat_le place k && nat_lt k (place + length piece)

-- ---- a window is written to the host inside

-- the byte of a page that is shown
pub shown-byte : (all bytes : List ℕ) (own k : ℕ) → bytes ≡ window all own WIDTH → own ≤ k → k < own + WIDTH → get_or bytes (k - own) 0 ≡ get_or all k 0
shown-byte all bytes own k is low high = ap (λ (bs : List ℕ). get_or bs (k - own) 0) is ∙ get_or-window all own WIDTH (k - own) (omega (arith, low, high)) ∙ ap (λ n. get_or all n 0) (let e : own + (k - own) ≡ k = omega (arith, low) in e)

-- it shows a page before the limit
gone-over : (work all : List ℕ) (ws : List Window) (limit i own : ℕ) (w v : Window) → Over work ws limit all → i < length ws → w ≡ get_or ws i w → w.place ≡ Some own → v.place ≡ None → own < limit → Over (overwritten work own (take (min (limit - own) WIDTH) w.bytes)) (set ws i v) limit all
gone-over work all ws limit i own w v over below is at gone low = record {
  shows = set-show WRITTEN all ws i v over.shows (unread-shows WRITTEN all i v gone);
  long = over.long ∙ sizes (length work) limit own (length piece) (length (overwritten work own piece)) (length-overwritten work own piece) fits;
  unkept = λ k none. elim (inside_or_out k) [
    | inl inside ↦ sym (written k inside.0 inside.1)
    | inr out ↦ elim (same_or_not (k / WIDTH % WRITTEN) i) [
      | inr other ↦ over.unkept k (sym (kept-set_other WRITTEN ws i k v other) ∙ none) ∙ sym (outside k out)
      | inl here ↦ elim (kept-or k w) [
        | inl nothing ↦ over.unkept k (kept-at WRITTEN ws i k w below is here ∙ nothing) ∙ sym (outside k out)
        | inr kept ↦ over.behind k (past k (one-place w.place own (k - k % WIDTH) at kept.0) out) ∙ sym (outside k out)
      ]
    ]
  ];
  behind = λ k past. over.behind k past ∙ sym (outside k (inr (let f = fits in omega (arith, past, f))));
} where
  shown : IsPageOf WRITTEN i own × (w.bytes ≡ window all own WIDTH)
  shown = at-shows WRITTEN all ws i w over.shows below is own at

  piece : List ℕ
  piece = take (min (limit - own) WIDTH) w.bytes

  size : length piece ≡ min (limit - own) WIDTH
  size = length-take (min (limit - own) WIDTH) w.bytes ∙ least (min (limit - own) WIDTH) (length w.bytes) (ap length shown.1 ∙ length-window all own WIDTH) (let e : min (limit - own) WIDTH ≤ WIDTH = grind arith in e) where
    least : (a b : ℕ) → b ≡ WIDTH → a ≤ WIDTH → min a b ≡ a
    least a b e le = grind arith

  fits : own + length piece ≤ limit
  fits = let s = size in grind (arith)

  sizes : (w l o n a : ℕ) → a ≡ max w (o + n) → o + n ≤ l → max w l ≡ max a l
  sizes w l o n a is le = grind arith

  inside_or_out : (k : ℕ) → ((own ≤ k) × (k < own + length piece)) ⊎ ((k < own) ⊎ (own + length piece ≤ k))
  inside_or_out k = grind arith

  written : (k : ℕ) → own ≤ k → k < own + length piece → get_or (overwritten work own piece) k 0 ≡ get_or all k 0
  written k lo hi = get_or-overwritten work own piece k ∙ byte_after_inside work own piece k lo hi ∙ get_or-take (min (limit - own) WIDTH) w.bytes (k - own) 0 (let s = size in omega (arith, s, lo, hi)) ∙ shown-byte all w.bytes own k shown.1 lo (let s = size in in_width s hi) where
    in_width : length piece ≡ min (limit - own) WIDTH → k < own + length piece → k < own + WIDTH
    in_width s h = grind arith

  outside : (k : ℕ) → (k < own) ⊎ (own + length piece ≤ k) → get_or (overwritten work own piece) k 0 ≡ get_or work k 0
  outside k out = get_or-overwritten work own piece k ∙ byte_after_outside work own piece k out

  past : (k : ℕ) → own ≡ k - k % WIDTH → (k < own) ⊎ (own + length piece ≤ k) → limit ≤ k
  past k page out = let s = size in behind k (length piece) s page out where
    behind : (k n : ℕ) → n ≡ min (limit - own) WIDTH → own ≡ k - k % WIDTH → (k < own) ⊎ (own + n ≤ k) → limit ≤ k
    behind k n s page out = grind arith

-- it keeps nothing back before the limit
idle-over : (work all : List ℕ) (ws : List Window) (limit i : ℕ) (w v : Window) → Over work ws limit all → i < length ws → w ≡ get_or ws i w → v.place ≡ None → ((k : ℕ) → k < limit → kept_in k (Some w) ≡ None) → Over work (set ws i v) limit all
idle-over work all ws limit i w v over below is gone nothing = record {
  shows = set-show WRITTEN all ws i v over.shows (unread-shows WRITTEN all i v gone);
  long = over.long;
  unkept = λ k none. elim (below_or_past k limit) [
    | inr past ↦ over.behind k past
    | inl low ↦ elim (same_or_not (k / WIDTH % WRITTEN) i) [
      | inr other ↦ over.unkept k (sym (kept-set_other WRITTEN ws i k v other) ∙ none)
      | inl here ↦ over.unkept k (kept-at WRITTEN ws i k w below is here ∙ nothing k low)
    ]
  ];
  behind = over.behind;
}

-- whatever it was
pub saved-over : (work all : List ℕ) (ws : List Window) (limit i : ℕ) (w v : Window) → Over work ws limit all → i < length ws → w ≡ get_or ws i w → v.place ≡ None → Over (saved work limit w) (set ws i v) limit all
saved-over work all ws limit i w v over below is gone = by_place w.place refl where
  by_place : (o : Option ℕ) → w.place ≡ o → Over (saved_at work limit w.bytes o) (set ws i v) limit all
  by_place None at = idle-over work all ws limit i w v over below is gone (λ k low. kept-unread k w at)
  by_place (Some own) at = by_limit (nat_lt own limit) refl where
    by_limit : (b : Bool) → nat_lt own limit ≡ b → Over (cond b (overwritten work own (take (min (limit - own) WIDTH) w.bytes)) work) (set ws i v) limit all
    by_limit true e = gone-over work all ws limit i own w v over below is at gone (let le : own < limit = grind (arith, nat_tests) in le)
    by_limit false e = idle-over work all ws limit i w v over below is gone (λ k low. elim (kept-or k w) [
      | inl nothing ↦ nothing
      | inr kept ↦ absurd (let page = one-place w.place own (k - k % WIDTH) at kept.0 in let least : limit ≤ own = grind (arith, nat_tests) in omega (arith, page, least, low))
    ])

-- as it went
pub saved-went : {T E : Type 0} (r : Result T E) (work now all : List ℕ) (ws : List Window) (limit i : ℕ) (w v : Window) → Over work ws limit all → i < length ws → w ≡ get_or ws i w → OnOk r (v.place ≡ None) → OnOk r (now ≡ saved work limit w) → OnOk r (Over now (set ws i v) limit all)
saved-went (Ok x) work now all ws limit i w v over below is gone held = subst (λ n. Over n (set ws i v) limit all) (sym held) (saved-over work all ws limit i w v over below is gone)
saved-went (Err x) work now all ws limit i w v over below is gone held = tt

-- ---- a piece is put into a window

pub put-over : (work all : List ℕ) (ws vs : List Window) (limit place : ℕ) (piece : List ℕ) → Over work ws limit all → AllShow WRITTEN (overwritten all place piece) vs → ((k : ℕ) → kept_at WRITTEN vs k ≡ None → kept_at WRITTEN ws k ≡ None) → IsShown WRITTEN vs place → place % WIDTH + length piece ≤ WIDTH → Over work vs (max limit (place + length piece)) (overwritten all place piece)
put-over work all ws vs limit place piece over shows kept shown fits = record {
  shows = shows;
  long = length-overwritten all place piece ∙ sizes (length all) (length work) limit (place + length piece) over.long;
  unkept = λ k none. elim (inside_or_out k) [
    | inl inside ↦ absurd (shown-kept WRITTEN vs place (length piece) k shown fits inside.0 inside.1 none)
    | inr out ↦ outside k out ∙ over.unkept k (kept k none)
  ];
  behind = λ k past. outside k (inr (last limit (place + length piece) k past)) ∙ over.behind k (first limit (place + length piece) k past);
} where
  sizes : (a w l e : ℕ) → a ≡ max w l → max a e ≡ max w (max l e)
  sizes a w l e is = grind arith

  inside_or_out : (k : ℕ) → ((place ≤ k) × (k < place + length piece)) ⊎ ((k < place) ⊎ (place + length piece ≤ k))
  inside_or_out k = grind arith

  outside : (k : ℕ) → (k < place) ⊎ (place + length piece ≤ k) → get_or (overwritten all place piece) k 0 ≡ get_or all k 0
  outside k out = get_or-overwritten all place piece k ∙ byte_after_outside all place piece k out

  last : (l e k : ℕ) → max l e ≤ k → e ≤ k
  last l e k p = grind arith

  first : (l e k : ℕ) → max l e ≤ k → l ≤ k
  first l e k p = grind arith

-- ---- as one list

-- there is one list that Work can hold
pub over-is : (work all : List ℕ) (ws : List Window) (limit : ℕ) → Over work ws limit all → all ≡ overlaid work ws limit
unfolding overlaid
over-is work all ws limit over = ext_get_or 0 _ _ (over.long ∙ sym (length-map-range_with_len f 0 n)) (λ k below. byte k ∙ sym (get_or-map-range_with_len f 0 n k k 0 (rw over.long at below) (omega arith))) where
  f : ℕ → ℕ
  f k = unwrap_or (kept_at WRITTEN ws k) (get_or work k 0)

  n : ℕ
  n = max (length work) limit

  byte : (k : ℕ) → get_or all k 0 ≡ f k
  byte k = elim (below_or_past (k / WIDTH % WRITTEN) (length ws)) [
    | inr past ↦ let none = kept-past WRITTEN ws k past in over.unkept k none ∙ ap (λ o. unwrap_or o (get_or work k 0)) (sym none)
    | inl below ↦
        let w = element ws (k / WIDTH % WRITTEN) below in
        let at = kept-at WRITTEN ws (k / WIDTH % WRITTEN) k w.0 below w.1 refl in
        elim (kept-or k w.0) [
          | inl nothing ↦ let none = at ∙ nothing in over.unkept k none ∙ ap (λ o. unwrap_or o (get_or work k 0)) (sym none)
          | inr kept ↦
              let shown = at-shows WRITTEN all ws (k / WIDTH % WRITTEN) w.0 over.shows below w.1 (k - k % WIDTH) kept.0 in
              let e : k - (k - k % WIDTH) ≡ k % WIDTH = omega arith in
              sym (shown-byte all w.0.bytes (k - k % WIDTH) k shown.1 (omega arith) (omega arith)) ∙ ap (λ j. get_or w.0.bytes j 0) e ∙ ap (λ o. unwrap_or o (get_or work k 0)) (sym (at ∙ kept.1))
        ]
  ]

-- ---- bytes that aren't kept back

-- bytes of a page that isn't shown are inside as they are
pub away-inside : (work all : List ℕ) (ws : List Window) (limit place n : ℕ) → Over work ws limit all → (IsShown WRITTEN ws place → ⊥) → place % WIDTH + n ≤ WIDTH → window work place n ≡ window all place n
away-inside work all ws limit place n over away fits = same-inside work all ws limit place n over (λ j inside. away-kept WRITTEN ws place n (place + j) away fits (omega arith) (omega (arith, inside)))

-- and so is the page itself
pub page-inside : (work all : List ℕ) (ws : List Window) (limit place : ℕ) → Over work ws limit all → (IsShown WRITTEN ws place → ⊥) → window work (place - place % WIDTH) WIDTH ≡ window all (place - place % WIDTH) WIDTH
page-inside work all ws limit place over away =
    away-inside work all ws limit (place - place % WIDTH) WIDTH over (λ is. away (moved is)) (let e : (place - place % WIDTH) % WIDTH + WIDTH ≤ WIDTH = omega arith in e) where
      same : place - place % WIDTH - (place - place % WIDTH) % WIDTH ≡ place - place % WIDTH
      same = omega arith

      index : (place - place % WIDTH) / WIDTH % WRITTEN ≡ place / WIDTH % WRITTEN
      index = let e : (place - place % WIDTH) / WIDTH ≡ place / WIDTH = omega arith in ap (λ m. m % WRITTEN) e

      moved : IsShown WRITTEN ws (place - place % WIDTH) → IsShown WRITTEN ws place
      moved is = record {
        there = subst (λ i. i < length ws) index is.there;
        shown = λ d. subst (λ i. (get_or ws i d).place ≡ Some (place - place % WIDTH)) index (is.shown d ∙ ap Some same);
      }

-- the same by another name
pub over-moved : (work now all : List ℕ) (ws : List Window) (limit most : ℕ) → Over work ws limit all → now ≡ work → most ≡ limit → Over now ws most all
over-moved work now all ws limit most over same at = subst (λ w. Over w ws most all) (sym same) (subst (λ n. Over work ws n all) (sym at) over)

-- what a call left where it went through, by another name
pub ok-as : {T E : Type 0} (r : Result T E) (xs ys zs : List ℕ) → ys ≡ zs → OnOk r (xs ≡ ys) → OnOk r (xs ≡ zs)
ok-as (Ok x) xs ys zs same is = is ∙ same
ok-as (Err e) xs ys zs same is = tt
