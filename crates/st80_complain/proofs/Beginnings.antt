-- Texts that begin with others.
use Rattle.std.proofs.Common.{ℕ, List, [], ◌++◌, ap, ◌∙◌, append_assoc, rules}
use Rattle.st80_complain.specs.Said.{Begins}

pub begins_same : (xs : List ℕ) → Begins xs xs
begins_same xs = record { rest = []; is = search rules }

-- one more piece stands behind
pub begins_more : (xs ys zs : List ℕ) → Begins xs ys → Begins xs (ys ++ zs)
begins_more xs ys zs b = record { rest = b.rest ++ zs; is = ap (λ ws. ws ++ zs) b.is ∙ append_assoc xs b.rest zs }

pub begins_then : (xs ys zs : List ℕ) → Begins xs ys → Begins ys zs → Begins xs zs
begins_then xs ys zs a b = record { rest = a.rest ++ b.rest; is = b.is ∙ ap (λ ws. ws ++ b.rest) a.is ∙ append_assoc xs a.rest b.rest }

-- less of a beginning
pub begins_less : (xs ys zs : List ℕ) → Begins (xs ++ ys) zs → Begins xs zs
begins_less xs ys zs b = record { rest = ys ++ b.rest; is = b.is ∙ append_assoc xs ys b.rest }
