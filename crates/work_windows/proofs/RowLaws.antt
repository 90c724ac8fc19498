-- What both rows of windows show, and what a step leaves of it.
use Rattle.std.proofs.Common.{inl, inr, true, Result, Ok, Err, OnOk, get_or, length-append, ◌≡◌, ℕ, ◌+◌, ◌≤◌, ◌-◌, ◌++◌, List, [], length, take, drop, subst, sym, ap, ◌∙◌, arith}
use Rattle.std.proofs.lemmas.List.{length-take, length-drop, take_all, take-append-drop, get_or_append_left, get_or-append_right}
use Rattle.loom_host.proofs.Windows.{below_or_past, length-window, get_or-window, window-by_bytes}
use Rattle.loom_host.specs.Bytes.{window, overwritten}
use Rattle.work_windows.proofs.ListLaws.{none-show, overwritten-twice}
use Rattle.work_windows.proofs.OverLaws.{empty_over, over-is, over-kept}
use Rattle.work_windows.proofs.BlankLaws.{none-blank}
use Rattle.work_windows.specs.Blanks.{may_hold}
use Rattle.work_windows.specs.Rows.{Stands}
use Rattle.work_windows.specs.Windows.{AllShow, kept_at, overlaid}
use Rattle.work_windows.specs.declared.windows.TheConstants.{READ, WRITTEN}
use Rattle.work_windows.specs.declared.row.Row.{Row}
use Rattle.work_windows.specs.declared.windows.Windows.{Windows}

-- where there are no windows
pub empty_stands : (work : List ℕ) (w : Windows) → w.written.items.items ≡ [] → w.read.items.items ≡ [] → w.limit ≡ 0 → ((page : ℕ) → may_hold w.blanks page ≡ true) → Stands work w work
empty_stands work w none no_read nought any = record { over = empty_over work w.written.items.items w.limit none nought; read = subst (AllShow READ work) (sym no_read) (none-show READ work); blank = none-blank work w.blanks any }

-- the one list that Work holds
pub stands-current : (work all : List ℕ) (w : Windows) → Stands work w all → Stands work w (overlaid work w.written.items.items w.limit)
stands-current work all w st = subst (Stands work w) (over-is work all w.written.items.items w.limit st.over) st

-- the host inside holds the same
pub stands-same : (work now all : List ℕ) (w : Windows) → Stands work w all → now ≡ work → Stands now w all
stands-same work now all w st same = subst (λ n. Stands n w all) (sym same) st

-- a piece in two parts
pub two-parts : (all : List ℕ) (place room : ℕ) (piece : List ℕ) → room ≤ length piece → overwritten (overwritten all place (take room piece)) (place + room) (take (length piece - room) (drop room piece)) ≡ overwritten all place piece
two-parts all place room piece fits =
    let long : length (take room piece) ≡ room = omega (arith, length-take room piece, fits) in
    ap (overwritten (overwritten all place (take room piece)) (place + room)) (take_all (length piece - room) (drop room piece) (omega (arith, length-drop room piece)))
    ∙ ap (λ n. overwritten (overwritten all place (take room piece)) (place + n) (drop room piece)) (sym long)
    ∙ overwritten-twice all place (take room piece) (drop room piece)
    ∙ ap (overwritten all place) (take-append-drop room piece)

-- the row of written pages was asked for one
pub asked-stands : (work all : List ℕ) (w : Windows) (row : Row WRITTEN) → Stands work w all → AllShow WRITTEN all row.items.items → ((k : ℕ) → kept_at WRITTEN row.items.items k ≡ kept_at WRITTEN w.written.items.items k) → Stands work (record w { written = row }) all
asked-stands work all w row st shows kept = record { over = over-kept work all w.written.items.items row.items.items w.limit st.over shows (λ k none. sym (kept k) ∙ none); read = st.read; blank = st.blank }

-- the row of read pages as it was
pub read-as : (all : List ℕ) (now was : Row READ) → now ≡ was → AllShow READ all was.items.items → AllShow READ all now.items.items
read-as all now was same shows = subst (λ (row : Row READ). AllShow READ all row.items.items) (sym same) shows

-- ---- as calls leave it where they go through

pub ok-always : {T E P : Type 0} (r : Result T E) → P → OnOk r P
ok-always (Ok x) p = p
ok-always (Err e) p = tt

pub ok-stands : {T E : Type 0} (r : Result T E) (work : List ℕ) (w : Windows) (xs ys : List ℕ) → xs ≡ ys → OnOk r (Stands work w xs) → OnOk r (Stands work w ys)
ok-stands (Ok x) work w xs ys same st = subst (Stands work w) same st
ok-stands (Err e) work w xs ys same st = tt

window-joined : (all : List ℕ) (place room m : ℕ) → window all place room ++ window all (place + room) m ≡ window all place (room + m)
window-joined all place room m =
    window-by_bytes all place (window all place room ++ window all (place + room) m) (room + m) (length-append (window all place room) (window all (place + room) m) ∙ sums (length (window all place room)) (length (window all (place + room) m)) (length-window all place room) (length-window all (place + room) m)) (λ k below. elim (below_or_past k room) [
      | inl first ↦ get_or_append_left (window all place room) (window all (place + room) m) 0 k (rw (sym (length-window all place room)) at first) ∙ get_or-window all place room k first
      | inr later ↦ get_or-append_right (window all place room) (window all (place + room) m) room k 0 (length-window all place room) later ∙ get_or-window all (place + room) m (k - room) (omega (arith, below, later)) ∙ ap (λ n. get_or all n 0) (let e : place + room + (k - room) ≡ place + k = omega (arith, later) in e)
    ]) where
      sums : (a b : ℕ) → a ≡ room → b ≡ m → a + b ≡ room + m
      sums a b x y = omega (arith, x, y)

-- a buffer that was read in two parts
pub ok-parts : {T E : Type 0} (r : Result T E) (all : List ℕ) (place room n a b : ℕ) (xs ys : List ℕ) → xs ≡ window all place a → a ≡ room → b + room ≡ n → OnOk r (ys ≡ window all (place + room) b) → OnOk r (xs ++ ys ≡ window all place n)
ok-parts (Ok x) all place room n a b xs ys front a_is whole back =
    ap (λ (zs : List ℕ). zs ++ ys) (front ∙ ap (window all place) a_is)
    ∙ ap (λ (zs : List ℕ). window all place room ++ zs) back
    ∙ window-joined all place room b
    ∙ ap (window all place) (let e : room + b ≡ n = omega (arith, whole) in e)
ok-parts (Err e) all place room n a b xs ys front a_is whole back = tt
