-- A buffer over whose first bytes windows were put.
use Rattle.std.proofs.Common.{◌≡◌, ◌⊎◌, inl, inr, ℕ, ◌+◌, ◌-◌, ◌<◌, ◌≤◌, List, ◌++◌, length, get_or, take, drop, subst, sym, ap, ◌∙◌, arith}
use Rattle.std.proofs.lemmas.Grind.{elements, common_steps}
use Rattle.loom_host.specs.Bytes.{window}
use Rattle.loom_host.proofs.Windows.{below_or_past, length-window, get_or-window, window-by_bytes}

-- the bytes before `done` are those of all, and the others those inside
pub record Half (work all : List ℕ) (place done : ℕ) (buf : List ℕ) : Type 0 where
  pub front : (k : ℕ) → k < done → k < length buf → get_or buf k 0 ≡ get_or all (place + k) 0
  pub back : (k : ℕ) → done ≤ k → k < length buf → get_or buf k 0 ≡ get_or work (place + k) 0

pub half-none : (work all : List ℕ) (place : ℕ) (buf : List ℕ) → buf ≡ window work place (length buf) → Half work all place 0 buf
half-none work all place buf is = record {
  front = λ k low below. absurd (omega (arith, low));
  back = λ k high below. ap (λ (bs : List ℕ). get_or bs k 0) is ∙ get_or-window work place (length buf) k below;
}

-- the bytes from done on
pub half-rest : (work all : List ℕ) (place done m : ℕ) (buf : List ℕ) → done + m ≤ length buf → Half work all place done buf → take m (drop done buf) ≡ window work (place + done) m
half-rest work all place done m buf fits half =
    window-by_bytes work (place + done) (take m (drop done buf)) m (long done m buf fits) (λ k below. part done m buf k below ∙ half.back (done + k) (omega arith) (omega (arith, below, fits)) ∙ ap (λ n. get_or work n 0) (let e : place + (done + k) ≡ place + done + k = omega arith in e)) where
      long : (d n : ℕ) (b : List ℕ) → d + n ≤ length b → length (take n (drop d b)) ≡ n
      long d n b f = grind (arith, common_steps)

      part : (d n : ℕ) (b : List ℕ) (k : ℕ) → k < n → get_or (take n (drop d b)) k 0 ≡ get_or b (d + k) 0
      part d n b k below = grind (arith, elements)

-- the next m bytes were put over
pub half-next : (work all : List ℕ) (place done m : ℕ) (buf piece : List ℕ) → done + m ≤ length buf → piece ≡ window all (place + done) m → Half work all place done buf → Half work all place (done + m) (take done buf ++ (piece ++ drop (done + m) buf))
half-next work all place done m buf piece fits is half = record {
  front = λ k low below. elim (below_or_past k done) [
    | inl first ↦ outside k (inl first) (omega (arith, low, fits)) ∙ half.front k first (omega (arith, low, fits))
    | inr later ↦ inside k later low ∙ ap (λ (bs : List ℕ). get_or bs (k - done) 0) is ∙ get_or-window all (place + done) m (k - done) (omega (arith, low, later)) ∙ ap (λ n. get_or all n 0) (let e : place + done + (k - done) ≡ place + k = omega (arith, later) in e)
  ];
  back = λ k high below. let long = rw whole at below in outside k (inr high) long ∙ half.back k (omega (arith, high)) long;
} where
  size : length piece ≡ m
  size = ap length is ∙ length-window all (place + done) m

  whole : length (take done buf ++ (piece ++ drop (done + m) buf)) ≡ length buf
  whole = let s = size in grind (arith, common_steps)

  outside : (k : ℕ) → (k < done) ⊎ (done + m ≤ k) → k < length buf → get_or (take done buf ++ (piece ++ drop (done + m) buf)) k 0 ≡ get_or buf k 0
  outside k out below = let s = size in grind (arith, elements)

  inside : (k : ℕ) → done ≤ k → k < done + m → get_or (take done buf ++ (piece ++ drop (done + m) buf)) k 0 ≡ get_or piece (k - done) 0
  inside k low high = let s = size in grind (arith, elements)

-- all were put over
pub half-whole : (work all : List ℕ) (place done : ℕ) (buf : List ℕ) (n : ℕ) → length buf ≡ n → n ≤ done → Half work all place done buf → buf ≡ window all place n
half-whole work all place done buf n is past half = window-by_bytes all place buf n is (λ k below. half.front k (omega (arith, past, below)) (rw is below))

-- the others are the same in both
pub half-rest_same : (work all : List ℕ) (place done : ℕ) (buf : List ℕ) (n : ℕ) → length buf ≡ n → ((k : ℕ) → done ≤ k → get_or all (place + k) 0 ≡ get_or work (place + k) 0) → Half work all place done buf → buf ≡ window all place n
half-rest_same work all place done buf n is same half = window-by_bytes all place buf n is (λ k below. elim (below_or_past k done) [
  | inl first ↦ half.front k first (rw is below)
  | inr later ↦ half.back k later (rw is below) ∙ sym (same k later)
])

rest_behind : (done m : ℕ) (buf : List ℕ) → drop (done + m - done) (drop done buf) ≡ drop (done + m) buf
rest_behind done m buf = grind (arith, elements)

part-long : (done m : ℕ) (buf : List ℕ) → done + m ≤ length buf → length (take (done + m - done) (drop done buf)) ≡ m
part-long done m buf fits = grind (arith, common_steps)

-- what stands in a buffer after a part of it was lent
pub half-step : (work all : List ℕ) (place done m at : ℕ) (buf new : List ℕ) → done + m ≤ length buf → at ≡ place + done → Half work all place done buf → (take (done + m - done) (drop done buf) ≡ window work at (length (take (done + m - done) (drop done buf))) → new ≡ window all at (length (take (done + m - done) (drop done buf)))) → Half work all place (done + m) (take done buf ++ (new ++ drop (done + m - done) (drop done buf)))
half-step work all place done m at buf new fits at_is half f =
    let e : done + m - done ≡ m = omega arith in
    let size = part-long done m buf fits in
    let was = ap (λ n. take n (drop done buf)) e ∙ half-rest work all place done m buf fits half ∙ ap (λ p. window work p m) (sym at_is) ∙ ap (window work at) (sym size) in
    let is = f was ∙ ap (window all at) size ∙ ap (λ p. window all p m) at_is in
    subst (λ r. Half work all place (done + m) (take done buf ++ (new ++ r))) (sym (rest_behind done m buf)) (half-next work all place done m buf new fits is half)

pub long-step : (done m : ℕ) (buf new : List ℕ) → done + m ≤ length buf → length new ≡ length (take (done + m - done) (drop done buf)) → length (take done buf ++ (new ++ drop (done + m - done) (drop done buf))) ≡ length buf
long-step done m buf new fits same = let size = part-long done m buf fits in grind (arith, common_steps)
