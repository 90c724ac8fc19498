-- Where the parser is refused: no tree is written as what stands before, and then a token of the kind that stands there.
use Rattle.std.proofs.Common.{◌≡◌, ◌≤◌, ◌==◌, ℕ, suc, ◌+◌, Bool, true, false, List, [], ◌∷◌, ◌++◌, length, take, drop, Option, Some, None, Result, Ok, Err, IfOk, refl, sym, ap, subst, ◌∙◌, append_assoc, append-nil, arith, length-append, true≢false, ne_eqb, if◌then◌else◌}
use Rattle.std.proofs.lemmas.List.{take-append-drop}
use Rattle.st80_syntax.specs.declared.token.Token.{Token}
use Rattle.st80_syntax.specs.declared.token.Kind.{Kind}
use Rattle.st80_syntax.specs.declared.token.Kind.TheVariants as kind
use Rattle.st80_parser.specs.declared.tree.Method.{Method}
use Rattle.st80_parser.specs.declared.tree.Pattern.{Pattern}
use Rattle.st80_parser.specs.declared.tree.Pattern.TheVariants as pattern
use Rattle.st80_parser.specs.declared.error.ParseError.{ParseError}
use Rattle.st80_parser.specs.declared.error.Expected.{Expected}
use Rattle.st80_parser.specs.declared.error.ParseError.TheVariants as error
use Rattle.std.specs.declared.alloc.AllocError.{AllocError}
use Rattle.st80_parser.specs.declared.methods.Parsed.{Parsed}
use Rattle.st80_parser.specs.declared.methods.Parsed.TheVariants as parsed
use Rattle.st80_parser.specs.Grammar.{IsMethod, IsParsed, IsTree, NothingTakes, SameNext}
use Rattle.st80_parser.specs.Stands.{Stopped, Stops, Symbol, Taken, Verdict, are_done, behind_token, go_on, run, start}
use Rattle.st80_parser.specs.Written.{method}
use Rattle.st80_parser.proofs.MethodLaws.{method_runs}

rest_of : Verdict → List Token
rest_of Taken = []
rest_of (Stopped ts) = ts

is_taken : Verdict → Bool
is_taken Taken = true
is_taken (Stopped ts) = false

stopped_one : (a b : List Token) → Stopped a ≡ Stopped b → a ≡ b
unfolding rest_of
stopped_one a b e = ap rest_of e

taken_not : (a : List Token) → Taken ≡ Stopped a → ⊥
unfolding is_taken
taken_not a e = true≢false (ap is_taken e)

-- ---- what was refused is the end of what was there

Ends : List Token → List Token → Type 0
Ends ts new = (taken : List Token) × (ts ≡ taken ++ new)

ends_done : (b : Bool) (new : List Token) → (if b then Taken else Stopped []) ≡ Stopped new → Ends [] new
unfolding Ends
ends_done true new e = absurd (taken_not new e)
ends_done false new e = ([], stopped_one [] new e)

ends_one : (t : Token) (ts new : List Token) (o : Option (List Symbol)) → ((ys : List Symbol) → run ys ts ≡ Stopped new → Ends ts new) → go_on o (λ ys. run ys ts) (Stopped (t ∷ ts)) ≡ Stopped new → Ends (t ∷ ts) new
unfolding Ends
ends_one t ts new (Some ys) next e = let more = next ys e in (t ∷ more.0, ap (λ (zs : List Token). t ∷ zs) more.1)
ends_one t ts new None next e = ([], stopped_one (t ∷ ts) new e)

run_ends : (ts : List Token) (xs : List Symbol) (new : List Token) → run xs ts ≡ Stopped new → Ends ts new
unfolding run
run_ends [] xs new e = ends_done (are_done xs) new e
run_ends (t ∷ ts) xs new e = ends_one t ts new (behind_token xs t.kind) (λ ys f. run_ends ts ys new f) e

run_shorter : (ts : List Token) (xs : List Symbol) (new : List Token) → run xs ts ≡ Stopped new → length new ≤ length ts
unfolding Ends
run_shorter ts xs new e = let is = run_ends ts xs new e in omega (arith, ap length is.1, length-append is.0 new)

-- ---- what is refused depends on the next token's kind alone

by_kind : (o : Option (List Symbol)) (t u : Token) (ts us : List Token) → go_on o (λ ys. run ys ts) (Stopped (t ∷ ts)) ≡ Stopped (t ∷ ts) → go_on o (λ ys. run ys us) (Stopped (u ∷ us)) ≡ Stopped (u ∷ us)
by_kind (Some ys) t u ts us e = let short : length (t ∷ ts) ≤ length ts = run_shorter ts ys (t ∷ ts) e in absurd (omega (arith, short))
by_kind None t u ts us e = refl

same_stop : (new r : List Token) (xs : List Symbol) → run xs new ≡ Stopped new → SameNext r new → run xs r ≡ Stopped r
unfolding run
same_stop [] [] xs e s = e
same_stop [] (u ∷ us) xs e s = absurd s
same_stop (t ∷ ts) [] xs e s = absurd s
same_stop (t ∷ ts) (u ∷ us) xs e s =
    ap (λ (k : Kind). go_on (behind_token xs k) (λ ys. run ys us) (Stopped (u ∷ us))) s ∙ by_kind (behind_token xs t.kind) t u ts us e

along : (o : Option (List Symbol)) (t : Token) (taken new r : List Token) → ((ys : List Symbol) → run ys (taken ++ new) ≡ Stopped new → run ys (taken ++ r) ≡ Stopped r)
    → go_on o (λ ys. run ys (taken ++ new)) (Stopped (t ∷ (taken ++ new))) ≡ Stopped new → go_on o (λ ys. run ys (taken ++ r)) (Stopped (t ∷ (taken ++ r))) ≡ Stopped r
along (Some ys) t taken new r next e = next ys e
along None t taken new r next e =
    let same : suc (length (taken ++ new)) ≡ length new = ap length (stopped_one (t ∷ (taken ++ new)) new e) in absurd (omega (arith, same, length-append taken new))

pub same_refusal : (taken : List Token) (xs : List Symbol) (new r : List Token) → run xs (taken ++ new) ≡ Stopped new → SameNext r new → run xs (taken ++ r) ≡ Stopped r
unfolding run
same_refusal [] xs new r e s = same_stop new r xs e s
same_refusal (t ∷ taken) xs new r e s = along (behind_token xs t.kind) t taken new r (λ ys f. same_refusal taken ys new r f s) e

-- ---- the place

take_front : (xs ys : List Token) → take (length xs) (xs ++ ys) ≡ xs
take_front [] ys = refl
take_front (x ∷ xs) ys = ap (λ (zs : List Token). x ∷ zs) (take_front xs ys)

drop_front : (xs ys : List Token) → drop (length xs) (xs ++ ys) ≡ ys
drop_front [] ys = refl
drop_front (x ∷ xs) ys = drop_front xs ys

pub nothing_takes : (b : Bool) (tokens new : List Token) (n : ℕ) → run (start b) tokens ≡ Stopped new → n + length new ≡ length tokens → NothingTakes b tokens n
unfolding Ends
nothing_takes b tokens new n e place =
    let is = run_ends tokens (start b) new e in
    let count : n ≡ length is.0 = omega (arith, place, ap length is.1, length-append is.0 new) in
    let front : take n tokens ≡ is.0 = ap (take n) is.1 ∙ ap (λ (k : ℕ). take k (is.0 ++ new)) count ∙ take_front is.0 new in
    let rest : drop n tokens ≡ new = ap (drop n) is.1 ∙ ap (λ (k : ℕ). drop k (is.0 ++ new)) count ∙ drop_front is.0 new in
    let whole : run (start b) (is.0 ++ new) ≡ Stopped new = ap (run (start b)) (sym is.1) ∙ e in
    λ m fits more written same.
    let stops : run (start b) (is.0 ++ more) ≡ Stopped more = same_refusal is.0 (start b) new more whole (subst (SameNext more) rest same) in
    taken_not more (sym (method_runs b m fits) ∙ ap (run (start b)) (written ∙ ap (λ (zs : List Token). zs ++ more) front) ∙ stops)

pub place_of : (b : Bool) (tokens new : List Token) (n : ℕ) → run (start b) tokens ≡ Stopped new → n + length new ≡ length tokens → run (start b) tokens ≡ Stopped (drop n tokens)
unfolding Ends
place_of b tokens new n e place =
    let is = run_ends tokens (start b) new e in
    let count : n ≡ length is.0 = omega (arith, place, ap length is.1, length-append is.0 new) in
    let rest : drop n tokens ≡ new = ap (drop n) is.1 ∙ ap (λ (k : ℕ). drop k (is.0 ++ new)) count ∙ drop_front is.0 new in
    e ∙ ap Stopped (sym rest)

-- a tree behind which more stands
pub more_stands : (t : Token) (ts : List Token) → run [] (t ∷ ts) ≡ Stopped (t ∷ ts)
unfolding run behind_token
more_stands t ts = refl

pub left_over : (b : Bool) (tokens new : List Token) → run (start b) tokens ≡ run [] new → (length new == 0) ≡ false → run (start b) tokens ≡ Stopped new
left_over b tokens [] e some = absurd (true≢false some)
left_over b tokens (t ∷ ts) e some = e ∙ more_stands t ts

pub all_taken : (b : Bool) (tokens new : List Token) (m : Method) → tokens ≡ method m ++ new → run (start b) tokens ≡ run [] new → (length new == 0) ≡ true → (tokens ≡ method m) × (run (start b) tokens ≡ Taken)
unfolding run are_done
all_taken b tokens [] m is e none = (is ∙ append-nil (method m), e)
all_taken b tokens (t ∷ ts) m is e none = absurd (true≢false (sym none ∙ ne_eqb (suc (length ts)) 0 (λ same. omega (arith, same))))

-- ---- what is written as a tree isn't refused

same_next : (ts : List Token) → SameNext ts ts
same_next [] = tt
same_next (t ∷ ts) = refl

never_refused : (b : Bool) (tokens : List Token) (n : ℕ) (m : Method) → IsMethod b m → tokens ≡ method m → NothingTakes b tokens n → ⊥
never_refused b tokens n m fits written nothing = nothing m fits (drop n tokens) (sym written ∙ sym (take-append-drop n tokens)) (same_next (drop n tokens))

tree_there : (b : Bool) (tokens : List Token) (found : Parsed) (m : Method) → IsMethod b m → tokens ≡ method m → IsParsed b tokens found → IsTree found
tree_there b tokens (parsed.Method x) m fits written is = tt
tree_there b tokens (parsed.Refused r) m fits written is = absurd (never_refused b tokens r.number m fits written is.2)

pub is_tree : (b : Bool) (tokens : List Token) (r : Result Parsed AllocError) → IfOk r (λ found. IsParsed b tokens found) → (m : Method) → IsMethod b m → tokens ≡ method m → IfOk r IsTree
is_tree b tokens (Ok found) is m fits written = tree_there b tokens found m fits written is
is_tree b tokens (Err e) is m fits written = tt

-- a refused rule
pub stops_as : (e : ParseError) (x : Expected) (xs : List Symbol) (old new : List Token) → e ≡ error.Refused x → Stops e xs old new → run xs old ≡ Stopped new
stops_as e x xs old new is s = subst (λ (z : ParseError). Stops z xs old new) is s
