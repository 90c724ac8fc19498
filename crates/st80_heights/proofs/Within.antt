-- What was made of a method stays within what it has.
use Rattle.std.proofs.Common.{◌≡◌, ℕ, zero, suc, ◌+◌, ◌≤◌, Bool, true, false, cond, nat_lt, max, fold, List, [], ◌∷◌, length, All, Option, Some, None, is_some, refl, sym, ◌∙◌, arith}
use Rattle.std.specs.Prelude.{find}
use Rattle.std.proofs.lemmas.Bool.{ltb-false}
use Rattle.st80_tree.specs.declared.tree.Method.{Method}
use Rattle.st80_compile.specs.declared.step.Step.{Step}
use Rattle.st80_compile.specs.declared.bytes.Refusal.{Refusal}
use Rattle.st80_compile.specs.declared.bytes.Refusal.TheVariants.{TooManyArguments, TooManyTemporaries, TooManyLiterals, StackTooDeep}
use Rattle.st80_compile.specs.declared.compiler.Compiled.{Compiled}
use Rattle.st80_compile.specs.Bytes.{op_refusal, first_of, at_step, refusal_of}
use Rattle.st80_compile.specs.Compiled.{rise, depth, more_literals, code_refusal, IsCode}
use Rattle.st80_heights.specs.Heights.{room_of, IsWithin}

all-cons : (P : Step → Type 0) (s : Step) (rest : List Step) → P s → All P rest → All P (s ∷ rest)
all-cons P s rest p r zero d h = p
all-cons P s rest p r (suc k) d h = r k d (omega arith)

all-none : (P : Step → Type 0) → All P []
all-none P k d h = absurd (omega arith)

-- ---- no instruction is refused

never : (why : Refusal) (P : Type 0) → Some why ≡ None → P
never why P e = cc

named-here : (t l : ℕ) (s : Step) (found : Option Step) (o : Option Refusal) → op_refusal t l s.op ≡ o → at_step t l (cond (is_some o) (Some s) found) ≡ None → (op_refusal t l s.op ≡ None) × (at_step t l found ≡ None)
named-here t l s found None e x = (e, x)
named-here t l s found (Some why) e x = never why _ (sym e ∙ x)

pub all-named : (t l : ℕ) (steps : List Step) → refusal_of t l steps ≡ None → All (λ s. op_refusal t l s.op ≡ None) steps
all-named t l [] x = all-none (λ s. op_refusal t l s.op ≡ None)
all-named t l (s ∷ rest) x =
    let both = named-here t l s (find (λ s. is_some (op_refusal t l s.op)) rest) (op_refusal t l s.op) refl x in
    all-cons (λ s. op_refusal t l s.op ≡ None) s rest both.0 (all-named t l rest both.1)

-- ---- no instruction is too high

left-most : (a b : ℕ) → a ≤ max a b
left-most a b = omega arith

right-most : (a b : ℕ) → b ≤ max a b
right-most a b = omega arith

grows : (d : ℕ) (steps : List Step) → d ≤ fold (λ d s. max d (s.height + rise s.op)) d steps
grows d [] = omega arith
grows d (s ∷ rest) =
    let a : d ≤ max d (s.height + rise s.op) = left-most d (s.height + rise s.op) in
    let b = grows (max d (s.height + rise s.op)) rest in
    omega arith

below : (d : ℕ) (steps : List Step) → All (λ s. s.height + rise s.op ≤ fold (λ d s. max d (s.height + rise s.op)) d steps) steps
below d [] = all-none (λ s. s.height + rise s.op ≤ d)
below d (s ∷ rest) =
    let n = s.height + rise s.op in
    let a : n ≤ max d n = right-most d n in
    let b : max d n ≤ fold (λ d s. max d (s.height + rise s.op)) (max d n) rest = grows (max d n) rest in
    all-cons (λ s. s.height + rise s.op ≤ fold (λ d s. max d (s.height + rise s.op)) (max d n) rest) s rest (omega arith) (below (max d n) rest)

room-by : (d : ℕ) (t : Bool) → nat_lt 12 d ≡ t → d ≤ 32 → d ≤ room_of t
room-by d true e le = le
room-by d false e le = ltb-false 12 d e

-- ---- nothing was refused

passed : (t : Bool) (why : Refusal) (rest : Option Refusal) → cond t (Some why) rest ≡ None → (t ≡ false) × (rest ≡ None)
passed true why rest e = never why _ e
passed false why rest e = (refl, e)

both-passed : (a b : Option Refusal) → first_of a b ≡ None → (a ≡ None) × (b ≡ None)
both-passed (Some why) b e = never why _ e
both-passed None b e = (refl, e)

below-sum : (a b c : ℕ) → a + b ≤ c → a ≤ c
below-sum a b c h = omega arith

up-to : (a b c : ℕ) → a ≤ b → b ≤ c → a ≤ c
up-to a b c h i = omega arith

pub within : (m : Method) (frame : List ℕ) (steps : List Step) (made : Compiled) → IsCode m frame steps made → IsWithin m frame steps made
unfolding code_refusal
within m frame steps made x =
    let first = passed (nat_lt 31 m.arguments) TooManyArguments _ x.accepted in
    let second = passed (nat_lt 31 m.temporaries) TooManyTemporaries _ first.1 in
    let third = passed (nat_lt 63 (length frame + more_literals m steps)) TooManyLiterals _ second.1 in
    let fourth = both-passed (refusal_of m.temporaries (length frame) steps) _ third.1 in
    let last = passed (nat_lt 32 (depth steps)) StackTooDeep None fourth.1 in
    let few : m.temporaries ≤ 31 = ltb-false 31 m.temporaries second.0 in
    let all : length frame + more_literals m steps ≤ 63 = ltb-false 63 (length frame + more_literals m steps) third.0 in
    let high : depth steps ≤ 32 = ltb-false 32 (depth steps) last.0 in
    let most : depth steps ≤ room_of made.is_large = room-by (depth steps) made.is_large (sym x.large) high in
    record {
      few_temporaries = few;
      few_literals = below-sum (length frame) (more_literals m steps) 63 all;
      named = all-named m.temporaries (length frame) steps fourth.0;
      room = λ k d h. up-to _ (depth steps) (room_of made.is_large) (below 0 steps k d h) most;
    }
