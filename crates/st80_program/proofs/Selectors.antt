-- A set of selectors that grows, against the methods that have them.
use Rattle.std.proofs.Common.{◌≡◌, ◌⊎◌, ℕ, ◌<◌, Bool, true, false, cond, eqb, List, [], ◌∷◌, ◌++◌, length, get_or, All, IsTrue, inl, inr, sym, ap, ◌∙◌, eqb-true, arith}
use Rattle.std.proofs.lemmas.Grind.{common_steps}
use Rattle.std.proofs.lemmas.List.Elements.{All-get_or}
use Rattle.std.proofs.lemmas.List.Quantifiers.{all_pairs_push}
use Rattle.std.specs.BTreeMap.{is_at}
use Rattle.std.specs.BTreeSet.{BTreeSet, contains}
use Rattle.std.specs.List.{AllPairs}
use Rattle.std.specs.Ordering.{nat_cmp}
use Rattle.st80_program.specs.declared.trees.Tree.{Tree}
use Rattle.st80_program.specs.Understood.{AreApart, HasSelector}

same : (a b : ℕ) → is_at (nat_cmp a) b ≡ eqb b a
same a b = grind (arith, common_steps)

-- what a set has behind an insertion, it had before, or it is that
pub added_or : (k q : ℕ) (before after : Bool) → after ≡ cond (is_at (nat_cmp k) q) true before → after ≡ true → (q ≡ k) ⊎ (before ≡ true)
added_or k q before after e came = go (is_at (nat_cmp k) q) (same k q) e
  where
    go : (b : Bool) → b ≡ eqb q k → after ≡ cond b true before → (q ≡ k) ⊎ (before ≡ true)
    go true s e = inl (eqb-true q k (sym s))
    go false s e = inr (sym e ∙ came)

pub added_keeps : (k q : ℕ) (before after : Bool) → after ≡ cond (is_at (nat_cmp k) q) true before → before ≡ true → after ≡ true
added_keeps k q before after e had = go (is_at (nat_cmp k) q) e
  where
    go : (b : Bool) → after ≡ cond b true before → after ≡ true
    go true e = e
    go false e = e ∙ had

pub added_itself : (k : ℕ) (before after : Bool) → after ≡ cond (is_at (nat_cmp k) k) true before → after ≡ true
added_itself k before after e =
    let itself : is_at (nat_cmp k) k ≡ true = grind (arith, common_steps) in
    e ∙ ap (λ b. cond b true before) itself

-- where a set has the selectors of all methods, it has that of one of them
pub has_selector : (has : BTreeSet ℕ) (methods : List Tree) → ((k : ℕ) (d : Tree) → k < length methods → IsTrue (contains nat_cmp has (get_or methods k d).selector)) → (n : ℕ) → HasSelector methods n → IsTrue (contains nat_cmp has n)
has_selector has methods h n a = rw a.4 at (rw a.3 at (h a.0 a.1 a.2))

-- one more method, whose class has no other of its selector
pub trees_push : (methods : List Tree) (tree : Tree) → AllPairs AreApart methods → All (λ other. AreApart other tree) methods → AllPairs AreApart (methods ++ tree ∷ [])
trees_push methods tree o s = all_pairs_push AreApart methods tree o (λ k d low. All-get_or (λ other. AreApart other tree) methods k d low s)
