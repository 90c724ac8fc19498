-- Where no list has a chunk of so many words, no free chunk has so many.
use Rattle.std.proofs.Common.{◌≡◌, ◌≢◌, ℕ, ◌<◌, ◌≤◌, ◌==◌, max, Bool, true, false, cond, List, [], ◌∷◌, refl, sym, ◌∙◌, ap, arith, ⊎_elim}
use Rattle.std.proofs.lemmas.Bool.{cases_eq, cases_lt}
use Rattle.std.proofs.lemmas.Bool.Decides.{nat_tests}
use Rattle.core_segment.specs.Lists.{Tile, class_in, first_in, Leads, list_in, weigh, weight, weigh_free, IsListed}
use Rattle.core_segment.specs.Layout.{largest_in}

-- ---- no list has a chunk

none-leads : (region : List ℕ) (link : ℕ) (ps : List ℕ) → Leads region link ps → link ≡ 0 → weigh (λ _. 1) ps ≡ 0
none-leads region link [] l e = refl
none-leads region link (p ∷ ps) l e = absurd (let a = l.0 in omega arith)

-- no free chunk stands in a list that is empty
pub none-in : (region firsts : List ℕ) (ts : List Tile) (c : ℕ) → IsListed region firsts ts → 4 ≤ c → c ≤ 65 → first_in firsts c ≡ 0 → weigh_free c (λ _. 1) ts ≡ 0
none-in region firsts ts c is low high e = sym (is.holds c low high (λ _. 1)) ∙ none-leads region (first_in firsts c) (list_in region firsts c) (is.leads c low high) e

pub largest-below : (ts : List Tile) (words : ℕ) → 4 ≤ words → words ≤ 65 → ((c : ℕ) → words ≤ c → c ≤ 65 → weigh_free c (λ _. 1) ts ≡ 0) → largest_in ts < words
largest-below [] words some few none = omega arith
largest-below (t ∷ ts) words some few none =
    let more : largest_in ts < words = largest-below ts words some few (λ c low high. let e = none c low high in omega arith) in ⊎_elim
    (λ (e : t.owner ≡ 0). ⊎_elim
    (λ (h : t.size < words). let a = largest-free e in omega arith)
    (λ (h : words ≤ t.size).
    let zero-weight = none (class_in t.size) (omega arith) (omega arith) in
    let one = weighs e in absurd (omega arith))
    (cases_lt t.size words))
    (λ (e : t.owner ≢ 0). let a = largest-other e in omega arith)
    (cases_eq t.owner 0)
  where
    largest-free : t.owner ≡ 0 → largest_in (t ∷ ts) ≡ max t.size (largest_in ts)
    largest-free e = let test : (t.owner == 0) ≡ true = grind (arith, nat_tests) in ap (λ (b : Bool). cond b (max t.size (largest_in ts)) (largest_in ts)) test

    largest-other : t.owner ≢ 0 → largest_in (t ∷ ts) ≡ largest_in ts
    largest-other e = let test : (t.owner == 0) ≡ false = grind (arith, nat_tests) in ap (λ (b : Bool). cond b (max t.size (largest_in ts)) (largest_in ts)) test

    weighs : t.owner ≡ 0 → weight (class_in t.size) (λ _. 1) t ≡ 1
    weighs e = let own : (t.owner == 0) ≡ true = grind (arith, nat_tests) in let class : (class_in t.size == class_in t.size) ≡ true = grind (arith, nat_tests) in
        ap (λ (b : Bool). cond b (cond (class_in t.size == class_in t.size) 1 0) 0) own ∙ ap (λ (b : Bool). cond b 1 0) class
