-- What a row of windows keeps back, and what a change of one window leaves of it.
use Rattle.std.proofs.Common.{◌≡◌, ◌⊎◌, ◌≢◌, inl, inr, ℕ, ◌+◌, ◌-◌, ◌<◌, ◌≤◌, ◌%◌, ◌/◌, List, [], ◌∷◌, ◌++◌, zero, suc, Bool, true, false, cond, length, get_or, take, set, replicate, length-append, Option, Some, None, Result, Ok, Err, OnOk, refl, subst, sym, ap, ◌∙◌, arith}
use Rattle.std.specs.List.{slice_get}
use Rattle.std.specs.Option.{unwrap_or}
use Rattle.std.proofs.lemmas.List.{get_or_append_left, get_or-append_right, get_or-replicate, get_or-set_same, get_or-set_other, take_all, length-set, length-replicate}
use Rattle.std.proofs.lemmas.Option.{slice_get-get_or, slice_get_past}
use Rattle.std.proofs.lemmas.Bool.Decides.{nat_tests}
use Rattle.loom_host.proofs.Windows.{below_or_past}
use Rattle.work_windows.proofs.WindowLaws.{same_or_not}
use Rattle.work_windows.specs.Windows.{IsShown, IsUnread, is_place, kept_part, kept_in, kept_at}
use Rattle.work_windows.specs.declared.window.TheConstants.{WIDTH}
use Rattle.work_windows.specs.declared.window.Window.{Window}

-- ---- one window

is-place : (o : Option ℕ) (q : ℕ) → (is_place o q ≡ false) ⊎ ((is_place o q ≡ true) × (o ≡ Some q))
is-place None q = inl refl
is-place (Some p) q = elim (same_or_not p q) [ inl e ↦ inr (grind (arith, nat_tests), ap Some e) | inr other ↦ inl (grind (arith, nat_tests)) ]

-- a window that shows another page keeps nothing of a page back
pub kept-or : (k : ℕ) (w : Window) → (kept_in k (Some w) ≡ None) ⊎ ((w.place ≡ Some (k - k % WIDTH)) × (kept_in k (Some w) ≡ Some (get_or w.bytes (k % WIDTH) 0)))
kept-or k w = elim (is-place w.place (k - k % WIDTH)) [
  | inl away ↦ inl (ap (λ b. cond b (Some (get_or w.bytes (k % WIDTH) 0)) None) away)
  | inr here ↦ inr (here.1, ap (λ b. cond b (Some (get_or w.bytes (k % WIDTH) 0)) None) here.0)
]

pub some-none : (x : ℕ) (o : Option ℕ) → o ≡ Some x → o ≡ None → ⊥
some-none x o some none = let e = ap (λ (p : Option ℕ). unwrap_or p 0) (sym some ∙ none) in let f = ap (λ (p : Option ℕ). unwrap_or p 1) (sym some ∙ none) in let g = sym e ∙ f in omega (arith, g)

pub kept-unread : (k : ℕ) (w : Window) → w.place ≡ None → kept_in k (Some w) ≡ None
kept-unread k w none = ap (λ o. kept_part k o w.bytes) none

-- what is kept of the page that a window shows
pub kept-shown : (k p : ℕ) (w : Window) → w.place ≡ Some p → p ≡ k - k % WIDTH → kept_in k (Some w) ≡ Some (get_or w.bytes (k % WIDTH) 0)
kept-shown k p w at here = ap (λ o. kept_part k o w.bytes) at ∙ ap (λ b. cond b (Some (get_or w.bytes (k % WIDTH) 0)) None) (same p (k - k % WIDTH) here) where
  same : (a b : ℕ) → a ≡ b → is_place (Some a) b ≡ true
  same a b e = grind (arith, nat_tests)

-- ---- a list of windows

get-set_same : (ws : List Window) (i : ℕ) (v : Window) → i < length ws → slice_get (set ws i v) i ≡ Some v
get-set_same ws i v below = slice_get-get_or (set ws i v) i v (rw (length-set ws i v) below) ∙ ap Some (get_or-set_same ws i v v below)

get-set_other : (ws : List Window) (i j : ℕ) (v : Window) → j ≢ i → slice_get (set ws i v) j ≡ slice_get ws j
get-set_other ws i j v other = elim (below_or_past j (length ws)) [
  | inl below ↦ slice_get-get_or (set ws i v) j v (rw (length-set ws i v) below) ∙ ap Some (get_or-set_other ws i j v v other) ∙ sym (slice_get-get_or ws j v below)
  | inr past ↦ slice_get_past (set ws i v) j (rw (length-set ws i v) past) ∙ sym (slice_get_past ws j past)
]

pub kept-at : (count : ℕ) (ws : List Window) (i k : ℕ) (w : Window) → i < length ws → w ≡ get_or ws i w → k / WIDTH % count ≡ i → kept_at count ws k ≡ kept_in k (Some w)
unfolding kept_at
kept-at count ws i k w below is here = ap (λ n. kept_in k (slice_get ws n)) here ∙ ap (kept_in k) (slice_get-get_or ws i w below ∙ ap Some (sym is))

pub kept-set_same : (count : ℕ) (ws : List Window) (i k : ℕ) (v : Window) → i < length ws → k / WIDTH % count ≡ i → kept_at count (set ws i v) k ≡ kept_in k (Some v)
unfolding kept_at
kept-set_same count ws i k v below here = ap (λ n. kept_in k (slice_get (set ws i v) n)) here ∙ ap (kept_in k) (get-set_same ws i v below)

pub kept-set_other : (count : ℕ) (ws : List Window) (i k : ℕ) (v : Window) → k / WIDTH % count ≢ i → kept_at count (set ws i v) k ≡ kept_at count ws k
unfolding kept_at
kept-set_other count ws i k v other = ap (kept_in k) (get-set_other ws i (k / WIDTH % count) v other)

pub kept-none : (count : ℕ) (k : ℕ) → kept_at count [] k ≡ None
unfolding kept_at
kept-none count k = refl

-- past the last window nothing is kept
pub kept-past : (count : ℕ) (ws : List Window) (k : ℕ) → length ws ≤ k / WIDTH % count → kept_at count ws k ≡ None
unfolding kept_at
kept-past count ws k past = ap (kept_in k) (slice_get_past ws (k / WIDTH % count) past)

-- one window was changed, and keeps what it kept
pub set-kept : (count : ℕ) (ws : List Window) (i : ℕ) (w v : Window) → i < length ws → w ≡ get_or ws i w → ((k : ℕ) → kept_in k (Some v) ≡ kept_in k (Some w)) → (k : ℕ) → kept_at count (set ws i v) k ≡ kept_at count ws k
set-kept count ws i w v below is same k = elim (same_or_not (k / WIDTH % count) i) [
  | inl here ↦ kept-set_same count ws i k v below here ∙ same k ∙ sym (kept-at count ws i k w below is here)
  | inr other ↦ kept-set_other count ws i k v other
]

pub asked-kept : (count : ℕ) (ws : List Window) (i : ℕ) (w v : Window) → i < length ws → w ≡ get_or ws i w → v.place ≡ w.place → v.bytes ≡ w.bytes → (k : ℕ) → kept_at count (set ws i v) k ≡ kept_at count ws k
asked-kept count ws i w v below is place bytes = set-kept count ws i w v below is (λ k. ap (λ p. kept_part k p v.bytes) place ∙ ap (λ (bs : List ℕ). kept_part k w.place bs) bytes)

-- a window of nothing was changed
pub turned-kept : (count : ℕ) (ws : List Window) (i : ℕ) (w v : Window) → i < length ws → w ≡ get_or ws i w → w.place ≡ None → (k : ℕ) → kept_at count (set ws i v) k ≡ None → kept_at count ws k ≡ None
turned-kept count ws i w v below is unread k none = elim (same_or_not (k / WIDTH % count) i) [
  | inr other ↦ sym (kept-set_other count ws i k v other) ∙ none
  | inl here ↦ kept-at count ws i k w below is here ∙ kept-unread k w unread
]

-- one window was changed, and keeps what it kept, with other bytes
pub followed-kept : (count : ℕ) (ws : List Window) (i : ℕ) (w v : Window) → i < length ws → w ≡ get_or ws i w → v.place ≡ w.place → (k : ℕ) → kept_at count (set ws i v) k ≡ None → kept_at count ws k ≡ None
followed-kept count ws i w v below is place k none = elim (same_or_not (k / WIDTH % count) i) [
  | inr other ↦ sym (kept-set_other count ws i k v other) ∙ none
  | inl here ↦ elim (kept-or k w) [
    | inl nothing ↦ kept-at count ws i k w below is here ∙ nothing
    | inr kept ↦ absurd (some-none _ _ (kept-set_same count ws i k v below here ∙ kept-shown k (k - k % WIDTH) v (place ∙ kept.0) refl) none)
  ]
]

-- windows of nothing behind the others
pub grown-kept : (count : ℕ) (ws : List Window) (m : ℕ) (w : Window) → w.place ≡ None → (k : ℕ) → kept_at count (ws ++ replicate m w) k ≡ kept_at count ws k
unfolding kept_at
grown-kept count ws m w unread k =
    let i = k / WIDTH % count in
    elim (below_or_past i (length ws)) [
      | inl below ↦ ap (kept_in k) (slice_get-get_or (ws ++ replicate m w) i w (omega (arith, below, length-append ws (replicate m w))) ∙ ap Some (get_or_append_left ws (replicate m w) w i below) ∙ sym (slice_get-get_or ws i w below))
      | inr past ↦ elim (below_or_past i (length (ws ++ replicate m w))) [
        | inl below ↦
            ap (kept_in k) (slice_get-get_or (ws ++ replicate m w) i w below ∙ ap Some (get_or-append_right ws (replicate m w) (length ws) i w refl past ∙ get_or-replicate m (i - length ws) w w (omega (arith, below, past, length-append ws (replicate m w), length-replicate m w))))
            ∙ kept-unread k w unread
            ∙ sym (ap (kept_in k) (slice_get_past ws i past))
        | inr behind ↦ ap (kept_in k) (slice_get_past (ws ++ replicate m w) i behind ∙ sym (slice_get_past ws i past))
      ]
    ]

pub resized-kept : (count : ℕ) (ws new : List Window) (n m : ℕ) (w : Window) (ok : Bool) → new ≡ cond ok (take n ws ++ replicate m w) ws → length ws ≤ n → w.place ≡ None → (k : ℕ) → kept_at count new k ≡ kept_at count ws k
resized-kept count ws new n m w true is all unread k = ap (λ vs. kept_at count vs k) (is ∙ ap (λ vs. vs ++ replicate m w) (take_all n ws all)) ∙ grown-kept count ws m w unread k
resized-kept count ws new n m w false is all unread k = ap (λ vs. kept_at count vs k) is

-- ---- a page that is shown

pub same-default : (ws : List Window) (i : ℕ) (w d : Window) → i < length ws → w ≡ get_or ws i w → w ≡ get_or ws i d
same-default [] i w d below is = absurd (omega (arith, below))
same-default (v ∷ ws) zero w d below is = is
same-default (v ∷ ws) (suc i) w d below is = same-default ws i w d (omega (arith, below)) is

pub element : (ws : List Window) (i : ℕ) → i < length ws → (w : Window) × (w ≡ get_or ws i w)
element [] i below = absurd (omega (arith, below))
element (w ∷ ws) zero below = (w, refl)
element (w ∷ ws) (suc i) below = element ws i (omega (arith, below))

pub shown-place : (count : ℕ) (ws : List Window) (place : ℕ) (w : Window) → IsShown count ws place → w ≡ get_or ws (place / WIDTH % count) w → w.place ≡ Some (place - place % WIDTH)
shown-place count ws place w is at = ap (λ (v : Window). v.place) at ∙ is.shown w

pub is-shown : (count : ℕ) (ws : List Window) (place : ℕ) (w : Window) → place / WIDTH % count < length ws → w ≡ get_or ws (place / WIDTH % count) w → w.place ≡ Some (place - place % WIDTH) → IsShown count ws place
is-shown count ws place w below at is = record { there = below; shown = λ d. ap (λ (v : Window). v.place) (sym (same-default ws (place / WIDTH % count) w d below at)) ∙ is }

pub unread-place : (ws : List Window) (i : ℕ) (w : Window) → IsUnread ws i → w ≡ get_or ws i w → w.place ≡ None
unread-place ws i w is at = ap (λ (v : Window). v.place) at ∙ is w

-- it shows no page
pub unread-away : (count : ℕ) (ws : List Window) (place : ℕ) → IsUnread ws (place / WIDTH % count) → IsShown count ws place → ⊥
unread-away count ws place unread is =
    let w = element ws (place / WIDTH % count) is.there in
    some-none (place - place % WIDTH) w.0.place (shown-place count ws place w.0 is w.1) (unread-place ws (place / WIDTH % count) w.0 unread w.1)

pub set-unread : (ws : List Window) (i : ℕ) (v : Window) → i < length ws → v.place ≡ None → IsUnread (set ws i v) i
set-unread ws i v below none = λ d. ap (λ (u : Window). u.place) (get_or-set_same ws i v d below) ∙ none

pub set-shown : (count : ℕ) (ws : List Window) (i place : ℕ) (v : Window) → i < length ws → i ≡ place / WIDTH % count → v.place ≡ Some (place - place % WIDTH) → IsShown count (set ws i v) place
set-shown count ws i place v below is at = record {
  there = subst (λ n. n < length (set ws i v)) is (rw (length-set ws i v) below);
  shown = λ d. subst (λ n. (get_or (set ws i v) n d).place ≡ Some (place - place % WIDTH)) is (ap (λ (u : Window). u.place) (get_or-set_same ws i v d below) ∙ at);
}

pub fetched-shown : {T E : Type 0} (count : ℕ) (r : Result T E) (ws : List Window) (i place : ℕ) (v : Window) → place / WIDTH % count < length ws → i ≡ place / WIDTH % count → OnOk r (v.place ≡ Some (place - place % WIDTH)) → OnOk r (IsShown count (set ws i v) place)
fetched-shown count (Ok x) ws i place v below is at = set-shown count ws i place v (subst (λ n. n < length ws) (sym is) below) is at
fetched-shown count (Err x) ws i place v below is at = tt

-- each byte within it is kept back
pub shown-kept : (count : ℕ) (ws : List Window) (place n k : ℕ) → IsShown count ws place → place % WIDTH + n ≤ WIDTH → place ≤ k → k < place + n → kept_at count ws k ≡ None → ⊥
shown-kept count ws place n k is fits low high none =
    let w = element ws (place / WIDTH % count) is.there in
    let e : k / WIDTH ≡ place / WIDTH = omega (arith, fits, low, high) in
    let p : place - place % WIDTH ≡ k - k % WIDTH = omega (arith, fits, low, high) in
    some-none _ _ (kept-at count ws (place / WIDTH % count) k w.0 is.there w.1 (ap (λ m. m % count) e) ∙ kept-shown k (place - place % WIDTH) w.0 (shown-place count ws place w.0 is w.1) p) none

-- each byte within one that isn't shown isn't kept back
pub away-kept : (count : ℕ) (ws : List Window) (place n k : ℕ) → (IsShown count ws place → ⊥) → place % WIDTH + n ≤ WIDTH → place ≤ k → k < place + n → kept_at count ws k ≡ None
away-kept count ws place n k away fits low high = elim (below_or_past (place / WIDTH % count) (length ws)) [
  | inr past ↦ kept-past count ws k (subst (λ m. length ws ≤ m) (sym index) past)
  | inl below ↦
      let w = element ws (place / WIDTH % count) below in
      kept-at count ws (place / WIDTH % count) k w.0 below w.1 index ∙ elim (kept-or k w.0) [
        | inl nothing ↦ nothing
        | inr kept ↦ absurd (away (is-shown count ws place w.0 below w.1 (kept.0 ∙ ap Some page)))
      ]
] where
  index : k / WIDTH % count ≡ place / WIDTH % count
  index = let e : k / WIDTH ≡ place / WIDTH = omega (arith, fits, low, high) in ap (λ m. m % count) e

  page : k - k % WIDTH ≡ place - place % WIDTH
  page = omega (arith, fits, low, high)
