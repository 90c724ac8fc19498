use Rattle.std.proofs.Common.{◌≡◌, ◌<◌, ◌∙◌, ℕ, List, length, get_or, replicate, ap, arith}
use Rattle.std.proofs.Math.ListN.{get_or-replicate, length-replicate}
use Rattle.image_reader.specs.Tally.{counted}
use Rattle.image_reader.proofs.TallyLaws.{beside-zeros}
use Rattle.image_reader.proofs.tally.Tally.new.Goals as goal

-- so many zeros
zeros : (items : List ℕ) (n : ℕ) → items ≡ replicate n 0 → (length items ≡ n) × ((k : ℕ) → k < length items → get_or items k 0 ≡ 0)
zeros items n all =
    let many : length items ≡ n = ap (λ (l : List ℕ). length l) all ∙ length-replicate n 0 in
    (many, λ k low. ap (λ (l : List ℕ). get_or l k 0) all ∙ get_or-replicate n k 0 0 (omega (arith, low, many)))

pub invariant_of-result : goal.invariant_of-result
invariant_of-result c =
    let items = c.in_ok-counts.counts.items in
    let none = zeros items c.len.result (c.in_ok-counts.ensures.items_if_clones_equal (λ y e. e)) in
    record { rising = c.requires; beside = none.0 ∙ c.len.ensures }

pub returns-clause-fresh : goal.returns-clause-fresh
unfolding counted
returns-clause-fresh c =
    let items = c.in_ok-counts.counts.items in
    let none = zeros items c.len.result (c.in_ok-counts.ensures.items_if_clones_equal (λ y e. e)) in
    record { zero = λ q. beside-zeros c.args.names items q (none.0 ∙ c.len.ensures) none.1 }
