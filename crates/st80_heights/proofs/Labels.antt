-- Heights at bytes, of code behind code.
use Rattle.std.proofs.Common.{◌≡◌, ℕ, zero, suc, ◌+◌, ◌-◌, ◌≤◌, Bool, true, false, List, [], ◌∷◌, ◌++◌, Some, None, refl, ap, ◌∙◌, arith, nat_lt, cond}
use Rattle.std.proofs.lemmas.Bool.{le-ltb}
use Rattle.st80_compile.specs.declared.bytes.Bytes.{Bytes}
use Rattle.st80_compile.specs.declared.bytes.Bytes.TheVariants.{One, Two, Three}
use Rattle.st80_compile.specs.declared.step.Step.{Step}
use Rattle.st80_compile.specs.declared.step.Op.{Op}
use Rattle.st80_compile.specs.Bytes.{counted, bytes_of, width}
use Rattle.st80_heights.specs.Heights.{label, size}

counted-some : (b : Bytes) → 1 ≤ counted b
counted-some (One a) = omega arith
counted-some (Two a b) = omega arith
counted-some (Three a b c) = omega arith

pub width-some : (o : Op) → 1 ≤ width o
width-some o = counted-some (bytes_of o)

pub size-append : (a b : List Step) → size (a ++ b) ≡ size a + size b
size-append [] b = omega arith
size-append (s ∷ a) b = let e : size (a ++ b) ≡ size a + size b = size-append a b in omega arith

-- behind the first instruction
past-by : (e : ℕ) (s : Step) (rest : List Step) (w q x : ℕ) → w ≡ width s.op → 1 ≤ w → x ≡ w + q → label e (s ∷ rest) x ≡ label e rest q
unfolding label
past-by e s rest w q zero is some h = absurd (omega arith)
past-by e s rest w q (suc x) is some h =
    let over : nat_lt (suc x) w ≡ false = le-ltb (suc x) w (omega arith) in
    let left : suc x - w ≡ q = omega arith in
    rw (← is, over, left) refl

pub label-past : (e : ℕ) (s : Step) (rest : List Step) (q : ℕ) → label e (s ∷ rest) (width s.op + q) ≡ label e rest q
label-past e s rest q = past-by e s rest (width s.op) q (width s.op + q) refl (width-some s.op) refl

-- behind all of a part
pub label-right : (e : ℕ) (a b : List Step) (q : ℕ) → label e (a ++ b) (size a + q) ≡ label e b q
label-right e [] b q = let z : 0 + q ≡ q = omega arith in ap (label e b) z
label-right e (s ∷ a) b q =
    let z : (width s.op + size a) + q ≡ width s.op + (size a + q) = omega arith in
    ap (label e (s ∷ (a ++ b))) z ∙ (label-past e s (a ++ b) (size a + q) ∙ label-right e a b q)

left-by : (e k : ℕ) (a b : List Step) (q m : ℕ) (t : Bool) → label e b 0 ≡ Some k → (label k a q ≡ Some m → label e (a ++ b) q ≡ Some m) → cond t None (label k a q) ≡ Some m → cond t None (label e (a ++ b) q) ≡ Some m
left-by e k a b q m true h f l = l
left-by e k a b q m false h f l = f l

-- in a part whose end has the height of what follows
pub label-left : (e k : ℕ) (a b : List Step) (q m : ℕ) → label e b 0 ≡ Some k → label k a q ≡ Some m → label e (a ++ b) q ≡ Some m
unfolding label
label-left e k [] b zero m h l = h ∙ l
label-left e k [] b (suc q) m h l = cc
label-left e k (s ∷ a) b zero m h l = l
label-left e k (s ∷ a) b (suc q) m h l =
    left-by e k a b (suc q - width s.op) m (nat_lt (suc q) (width s.op)) h (label-left e k a b (suc q - width s.op) m h) l

pub label-end : (e : ℕ) (a : List Step) → label e a (size a) ≡ Some e
unfolding label
label-end e [] = refl
label-end e (s ∷ a) = label-past e s a (size a) ∙ label-end e a
