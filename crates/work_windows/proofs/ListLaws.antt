-- What a list of windows shows, and what a write within a page leaves of it.
use Rattle.std.proofs.Common.{◌≡◌, ◌⊎◌, ◌≢◌, inl, inr, ℕ, ◌+◌, ◌-◌, ◌<◌, ◌≤◌, ◌%◌, ◌/◌, max, List, [], ◌++◌, Bool, true, false, cond, length, get_or, take, drop, set, replicate, length-append, Option, Some, None, refl, subst, sym, ap, ◌∙◌, arith, ◌^◌, Result, Ok, Err, OnOk}
use Rattle.std.specs.Prelude.{OnErr}
use Rattle.std.specs.Option.{unwrap_or}
use Rattle.std.proofs.lemmas.List.{get_or_append_left, get_or-append_right, get_or-replicate, get_or-take, get_or-set_same, get_or-set_other, length-take, take_all, length-set, length-replicate}
use Rattle.std.proofs.Math.Seq.{take-add}
use Rattle.loom_host.specs.Bytes.{window, overwritten}
use Rattle.loom_host.proofs.Windows.{below_or_past, get_or-window, window-by_bytes, length-window, length-overwritten, get_or-overwritten, byte_after_inside, byte_after_outside, overwritten-by_bytes}
use Rattle.work_windows.proofs.WindowLaws.{same_or_not, one-place, indexes-apart, shows-apart}
use Rattle.work_windows.specs.Windows.{IsPageOf, Shows, AllShow}
use Rattle.work_windows.specs.declared.window.TheConstants.{WIDTH}
use Rattle.work_windows.specs.declared.window.Window.{Window}

pub none-show : (count : ℕ) (work : List ℕ) → AllShow count work []
none-show count work = record { each = λ i d below. grind arith }

pub unread-shows : (count : ℕ) (work : List ℕ) (i : ℕ) (w : Window) → w.place ≡ None → Shows count work i w
unread-shows count work i w none = λ x at. absurd (some-none x w.place at none) where
  some-none : (x : ℕ) (o : Option ℕ) → o ≡ Some x → o ≡ None → ⊥
  some-none x o some none = let e = ap (λ (p : Option ℕ). unwrap_or p 0) (sym some ∙ none) in let f = ap (λ (p : Option ℕ). unwrap_or p 1) (sym some ∙ none) in let g = sym e ∙ f in omega (arith, g)

-- windows of nothing behind the others
pub grown-show : (count : ℕ) (work : List ℕ) (ws : List Window) (n m : ℕ) (w : Window) → w.place ≡ None → AllShow count work ws → AllShow count work (take n ws ++ replicate m w)
grown-show count work ws n m w none shows = record {
  each = λ k d below. elim (below_or_past k (length (take n ws))) [
    | inl front ↦
        subst (Shows count work k) (sym (get_or_append_left (take n ws) (replicate m w) d k front ∙ get_or-take n ws k d (omega (arith, length-take n ws, front)))) (shows.each k d (omega (arith, length-take n ws, front)))
    | inr behind ↦
        subst (Shows count work k) (sym (get_or-append_right (take n ws) (replicate m w) (length (take n ws)) k d refl behind ∙ get_or-replicate m (k - length (take n ws)) w d (omega (arith, below, behind, length-append (take n ws) (replicate m w), length-replicate m w)))) (unread-shows count work k w none)
  ];
}

-- whether or not there was memory for them
pub resized-show : (count : ℕ) (work : List ℕ) (ws new : List Window) (n m : ℕ) (w : Window) (ok : Bool) → new ≡ cond ok (take n ws ++ replicate m w) ws → w.place ≡ None → AllShow count work ws → AllShow count work new
resized-show count work ws new n m w true is none shows = subst (AllShow count work) (sym is) (grown-show count work ws n m w none shows)
resized-show count work ws new n m w false is none shows = subst (AllShow count work) (sym is) shows

-- what one window shows
pub at-shows : (count : ℕ) (work : List ℕ) (ws : List Window) (i : ℕ) (w : Window) → AllShow count work ws → i < length ws → w ≡ get_or ws i w → Shows count work i w
at-shows count work ws i w shows below is = subst (Shows count work i) (sym is) (shows.each i w below)

-- a window with the same place and bytes
same-shows : (count : ℕ) (work : List ℕ) (i : ℕ) (w v : Window) → v.place ≡ w.place → v.bytes ≡ w.bytes → Shows count work i w → Shows count work i v
same-shows count work i w v place bytes shows = λ x at. let shown = shows x (sym place ∙ at) in (shown.0, bytes ∙ shown.1)

-- one window was changed
pub set-show : (count : ℕ) (work : List ℕ) (ws : List Window) (i : ℕ) (w : Window) → AllShow count work ws → Shows count work i w → AllShow count work (set ws i w)
set-show count work ws i w shows shown = record {
  each = λ k d below.
      let within : k < length ws = rw (length-set ws i w) at below in
      elim (same_or_not k i) [
        | inl e ↦ subst (Shows count work k) (sym (ap (λ n. get_or (set ws i w) n d) e ∙ get_or-set_same ws i w d (rw e at within))) (subst (λ n. Shows count work n w) (sym e) shown)
        | inr other ↦ subst (Shows count work k) (sym (get_or-set_other ws i k w d other)) (shows.each k d within)
      ];
}

-- one window was asked for a page
pub asked-show : (count : ℕ) (work : List ℕ) (ws : List Window) (i : ℕ) (w v : Window) → AllShow count work ws → i < length ws → w ≡ get_or ws i w → v.place ≡ w.place → v.bytes ≡ w.bytes → AllShow count work (set ws i v)
asked-show count work ws i w v shows below is place bytes = set-show count work ws i v shows (same-shows count work i w v place bytes (at-shows count work ws i w shows below is))

-- the window of another page shows what it showed
other-shows : (count : ℕ) (work : List ℕ) (place : ℕ) (piece : List ℕ) (k : ℕ) (w : Window) → place % WIDTH + length piece ≤ WIDTH → k ≢ place / WIDTH % count → Shows count work k w → Shows count (overwritten work place piece) k w
other-shows count work place piece k w fits other shows = shows-apart count work k w place piece (λ own at. indexes-apart count own place (length piece) k (shows own at).0 fits other) shows

-- a write within a page, which the window of that page follows
pub followed-show : (count : ℕ) (work : List ℕ) (place : ℕ) (piece : List ℕ) (ws : List Window) (i : ℕ) (w : Window) → place % WIDTH + length piece ≤ WIDTH → i ≡ place / WIDTH % count → AllShow count work ws → Shows count (overwritten work place piece) i w → AllShow count (overwritten work place piece) (set ws i w)
followed-show count work place piece ws i w fits is shows shown = record {
  each = λ k d below.
      let within : k < length ws = rw (length-set ws i w) at below in
      elim (same_or_not k i) [
        | inl e ↦ subst (Shows count (overwritten work place piece) k) (sym (ap (λ n. get_or (set ws i w) n d) e ∙ get_or-set_same ws i w d (rw e at within))) (subst (λ n. Shows count (overwritten work place piece) n w) (sym e) shown)
        | inr other ↦ subst (Shows count (overwritten work place piece) k) (sym (get_or-set_other ws i k w d other)) (other-shows count work place piece k (get_or ws k d) fits (λ e. other (e ∙ sym is)) (shows.each k d within))
      ];
}

-- a write within a page that has no window
pub unfollowed-show : (count : ℕ) (work : List ℕ) (place : ℕ) (piece : List ℕ) (ws : List Window) → place % WIDTH + length piece ≤ WIDTH → length ws ≤ place / WIDTH % count → AllShow count work ws → AllShow count (overwritten work place piece) ws
unfollowed-show count work place piece ws fits past shows = record { each = λ k d below. other-shows count work place piece k (get_or ws k d) fits (λ e. omega (arith, e, below, past)) (shows.each k d below) }

window-nothing : (work : List ℕ) (place own n : ℕ) → window (overwritten work place []) own n ≡ window work own n
window-nothing work place own n = window-by_bytes work own (window (overwritten work place []) own n) n (length-window (overwritten work place []) own n) (λ k below.
    get_or-window (overwritten work place []) own n k below
    ∙ get_or-overwritten work place [] (own + k)
    ∙ byte_after_outside work place [] (own + k) (elim (below_or_past (own + k) place) [ inl before ↦ inl before | inr behind ↦ inr (omega arith) ]))

-- a write of nothing
pub nothing-shows : (count : ℕ) (work : List ℕ) (place : ℕ) (piece : List ℕ) (ws : List Window) → AllShow count work ws → AllShow count (overwritten work place (take 0 piece)) ws
nothing-shows count work place piece ws shows = record { each = λ k d below own at. ((shows.each k d below own at).0, (shows.each k d below own at).1 ∙ sym (window-nothing work place own WIDTH)) }

pub overwritten-twice : (work : List ℕ) (place : ℕ) (a b : List ℕ) → overwritten (overwritten work place a) (place + length a) b ≡ overwritten work place (a ++ b)
overwritten-twice work place a b =
    overwritten-by_bytes work (overwritten (overwritten work place a) (place + length a) b) place (a ++ b)
    (length-overwritten (overwritten work place a) (place + length a) b ∙ ap (λ n. max n (place + length a + length b)) (length-overwritten work place a) ∙ sizes (length work) place (length a) (length b) (length (a ++ b)) (length-append a b))
    (λ k. get_or-overwritten (overwritten work place a) (place + length a) b k ∙ elim (in_second k) [
      | inl second ↦
          byte_after_inside (overwritten work place a) (place + length a) b k second.0 second.1
          ∙ ap (λ j. get_or b j 0) (let e : k - (place + length a) ≡ k - place - length a = omega arith in e)
          ∙ sym (byte_after_inside work place (a ++ b) k (let l = second.0 in omega arith) (let h = second.1 in omega (arith, length-append a b, h)) ∙ get_or-append_right a b (length a) (k - place) 0 refl (let l = second.0 in omega arith))
      | inr apart ↦ byte_after_outside (overwritten work place a) (place + length a) b k apart ∙ get_or-overwritten work place a k ∙ elim (in_first k) [
        | inl first ↦
            byte_after_inside work place a k first.0 first.1
            ∙ sym (byte_after_inside work place (a ++ b) k first.0 (let h = first.1 in omega (arith, length-append a b, h)) ∙ get_or_append_left a b 0 (k - place) (let l = first.0 in let h = first.1 in omega arith))
        | inr out ↦ byte_after_outside work place a k out ∙ sym (byte_after_outside work place (a ++ b) k (both k apart out))
      ]
    ]) where
      sizes : (w p m n both : ℕ) → both ≡ m + n → max (max w (p + m)) (p + m + n) ≡ max w (p + both)
      sizes w p m n both e = grind arith

      in_second : (k : ℕ) → ((place + length a ≤ k) × (k < place + length a + length b)) ⊎ ((k < place + length a) ⊎ (place + length a + length b ≤ k))
      in_second k = grind arith

      in_first : (k : ℕ) → ((place ≤ k) × (k < place + length a)) ⊎ ((k < place) ⊎ (place + length a ≤ k))
      in_first k = grind arith

      both : (k : ℕ) → (k < place + length a) ⊎ (place + length a + length b ≤ k) → (k < place) ⊎ (place + length a ≤ k) → (k < place) ⊎ (place + length (a ++ b) ≤ k)
      both k apart out = grind (arith, length-append a b)

-- a write of the first bytes of a piece, and then of the next m
pub next-show : (count : ℕ) (work piece : List ℕ) (ws : List Window) (place n m at : ℕ) → n ≤ length piece → at ≡ place + n → AllShow count (overwritten (overwritten work place (take n piece)) at (take (n + m - n) (drop n piece))) ws → AllShow count (overwritten work place (take (n + m) piece)) ws
next-show count work piece ws place n m at fits there shows =
    let long : length (take n piece) ≡ n = omega (arith, length-take n piece, fits) in
    let next : n + m - n ≡ m = omega arith in
    let joined : overwritten (overwritten work place (take n piece)) at (take (n + m - n) (drop n piece)) ≡ overwritten work place (take (n + m) piece) = ap (λ q. overwritten (overwritten work place (take n piece)) q (take (n + m - n) (drop n piece))) (there ∙ sym (ap (λ q. place + q) long))
    ∙ overwritten-twice work place (take n piece) (take (n + m - n) (drop n piece))
    ∙ ap (λ q. overwritten work place (take n piece ++ take q (drop n piece))) next
    ∙ ap (overwritten work place) (sym (take-add n m piece)) in
    subst (λ v. AllShow count v ws) joined shows

-- the whole piece was written
pub whole-show : (count : ℕ) (work piece : List ℕ) (ws : List Window) (place n : ℕ) → length piece ≤ n → AllShow count (overwritten work place (take n piece)) ws → AllShow count (overwritten work place piece) ws
whole-show count work piece ws place n all shows = subst (λ v. AllShow count (overwritten work place v) ws) (take_all n piece all) shows

-- bytes past the greatest place are no window's
pub beyond-show : (count : ℕ) (work piece : List ℕ) (ws : List Window) (place done : ℕ) → done ≤ length piece → 2 ^ 64 ≤ place + done → AllShow count (overwritten work place (take done piece)) ws → AllShow count (overwritten work place piece) ws
beyond-show count work piece ws place done fits high shows =
    whole-show count work piece ws place (done + (length piece - done)) (omega (arith, fits)) (next-show count work piece ws place done (length piece - done) (place + done) fits refl (record {
      each = λ k d below. shows-apart count (overwritten work place (take done piece)) k (get_or ws k d) (place + done) (take (done + (length piece - done) - done) (drop done piece)) (λ own at. inl (before own (shows.each k d below own at).0)) (shows.each k d below);
    })) where
      before : {k : ℕ} (own : ℕ) → IsPageOf count k own → own + WIDTH ≤ place + done
      before own of = let z = of.0 in let l = of.2 in last own (place + done) z l high where
        last : (o m : ℕ) → o % WIDTH ≡ 0 → o < 2 ^ 64 → 2 ^ 64 ≤ m → o + WIDTH ≤ m
        last o m z l h = omega (arith, z, l, h)

-- a window was given a page, or was left a window of nothing
pub turned-show : {T E : Type 0} (r : Result T E) (count : ℕ) (work all : List ℕ) (ws : List Window) (i page : ℕ) (v : Window) → AllShow count all ws → IsPageOf count i page → OnOk r (v.place ≡ Some page) → OnErr r (v.place ≡ None) → OnOk r (v.bytes ≡ window work page WIDTH) → window work page WIDTH ≡ window all page WIDTH → AllShow count all (set ws i v)
turned-show (Ok x) count work all ws i page v shows of at none bytes same =
    set-show count all ws i v shows (λ own here.
    let e = one-place v.place own page here at in
    (subst (IsPageOf count i) (sym e) of, bytes ∙ same ∙ ap (λ q. window all q WIDTH) (sym e)))
turned-show (Err x) count work all ws i page v shows of at none bytes same = set-show count all ws i v shows (unread-shows count all i v none)

-- it shows what a window of another row shows
pub taken-show : (count other : ℕ) (all : List ℕ) (ws vs : List Window) (i j page : ℕ) (w v : Window) → AllShow count all ws → AllShow other all vs → IsPageOf count i page → j < length vs → w ≡ get_or vs j w → w.place ≡ Some page → v.place ≡ w.place → v.bytes ≡ w.bytes → AllShow count all (set ws i v)
taken-show count other all ws vs i j page w v shows from of below is at place bytes =
    let there = at-shows other all vs j w from below is page at in
    set-show count all ws i v shows (λ own here.
    let e = one-place v.place own page here (place ∙ at) in
    (subst (IsPageOf count i) (sym e) of, bytes ∙ there.1 ∙ ap (λ q. window all q WIDTH) (sym e)))
