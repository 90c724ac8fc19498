-- A ring of references stays where a heap is thinned, whether something outside names it or not.
use Rattle.std.proofs.Common.{◌≡◌, ℕ, true, false, List, [], ◌∷◌, Option, Some, None, is_some, refl, sym, ◌∙◌, ap, subst}
use Rattle.std.specs.List.{All}
use Rattle.std.proofs.lemmas.List.Elements.{All-cons, All-nil, All-head}
use Rattle.long_names.specs.declared.object.Object.{Object}
use Rattle.long_names.specs.Objects.{holds}
use Rattle.long_names.specs.Heap.{Heap, Has}
use Rattle.long_names.specs.Kept.{holds_at}
use Rattle.long_names.specs.Thin.{IsClosed, IsThinner, IsPath}
use Rattle.long_names.proofs.KeptLaws.{holder}
use Rattle.long_names.proofs.CycleLaws.{no-ring}

some-same : (o p : Object) → Some o ≡ Some p → o ≡ p
some-same o p e = cc

-- what an object that stays holds stays
pub next-stays : (h s : Heap) (k n : ℕ) → IsThinner h s → IsClosed s → holds_at h k n ≡ true → Has s k → Has s n
next-stays h s k n thin closed e there = go (s.at k) refl
  where
    go : (o : Option Object) → s.at k ≡ o → Has s n
    go None f = let z : is_some (s.at k) ≡ false = ap is_some f in let y = there in absurd (cc)
    go (Some o) f =
        let it = holder h k n e in
        let is : it.0 ≡ o = some-same it.0 o (sym it.1 ∙ thin.same k o f) in
        closed k o n f (subst (λ (x : Object). holds x n ≡ true) is it.2)

-- so what holds a lost object is lost
lost-back : (h s : Heap) (k n : ℕ) → IsThinner h s → IsClosed s → holds_at h k n ≡ true → s.at n ≡ None → s.at k ≡ None
lost-back h s k n thin closed e lost = go (s.at k) refl
  where
    go : (o : Option Object) → s.at k ≡ o → s.at k ≡ None
    go None f = f
    go (Some o) f = let there = next-stays h s k n thin closed e (ap is_some f) in let z : is_some (s.at n) ≡ false = ap is_some lost in absurd (cc)

path-lost : (h s : Heap) (from : ℕ) (rest : List ℕ) (to : ℕ) → IsThinner h s → IsClosed s → IsPath h from rest to → s.at to ≡ None → All (λ k. s.at k ≡ None) (from ∷ rest)
path-lost h s from [] to thin closed path lost = All-cons (λ k. s.at k ≡ None) from [] (lost-back h s from to thin closed path lost) (All-nil (λ k. s.at k ≡ None))
path-lost h s from (n ∷ rest) to thin closed path lost =
    let later = path-lost h s n rest to thin closed path.1 lost in
    All-cons (λ k. s.at k ≡ None) from (n ∷ rest) (lost-back h s from n thin closed path.0 (All-head (λ k. s.at k ≡ None) n rest later)) later

path-stays : (h s : Heap) (from : ℕ) (rest : List ℕ) (to : ℕ) → IsThinner h s → IsClosed s → IsPath h from rest to → Has s from → All (λ k. Has s k) (from ∷ rest)
path-stays h s from [] to thin closed path there = All-cons (λ k. Has s k) from [] there (All-nil (λ k. Has s k))
path-stays h s from (n ∷ rest) to thin closed path there = All-cons (λ k. Has s k) from (n ∷ rest) there (path-stays h s n rest to thin closed path.1 (next-stays h s from n thin closed path.0 there))

pub ring-stays : (h s : Heap) (n : ℕ) (rest : List ℕ) → IsThinner h s → IsClosed s → IsPath h n rest n → All (λ k. Has s k) (n ∷ rest)
ring-stays h s n rest thin closed ring = go (s.at n) refl
  where
    go : (o : Option Object) → s.at n ≡ o → All (λ k. Has s k) (n ∷ rest)
    go None f = absurd (no-ring h s n rest thin (record { round = ring; lost = path-lost h s n rest n thin closed ring f }))
    go (Some o) f = path-stays h s n rest n thin closed ring (ap is_some f)
