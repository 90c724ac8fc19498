-- The patterns of code are sound.
use Rattle.std.proofs.Common.{◌≡◌, ℕ, ◌+◌, ◌≤◌, ◌⊎◌, inl, inr, Bool, true, false, cond, not, ◌&&◌, nat_lt, ◌==◌, min, fold, List, [], ◌∷◌, ◌++◌, Option, Some, refl, sym, ap, subst, ◌∙◌, arith, append_assoc}
use Rattle.std.proofs.lemmas.Bool.{ltb-false, eqb-true, and_parts}
use Rattle.st80_tree.specs.declared.tree.Constant.TheVariants as constant
use Rattle.st80_compile.specs.declared.step.Place.TheVariants.{OfFrame}
use Rattle.st80_compile.specs.declared.step.Op.{Op}
use Rattle.st80_compile.specs.declared.step.Op.TheVariants.{Push, PushConstant, PushContext, Message, Special, Jump, Over, Back, Branch}
use Rattle.st80_compile.specs.declared.step.Step.{Step}
use Rattle.st80_compile.specs.Frame.{higher, special_arguments, is_special, index_of}
use Rattle.st80_compile.specs.Bytes.{width, far}
use Rattle.st80_compile.specs.Steps.{one, message, count_op, opening, passes, passing, choice_steps, loop_steps}
use Rattle.st80_heights.specs.Heights.{label, size, IsMore, Gains, Drops, Runs, RunFrom, IsPart}
use Rattle.st80_heights.proofs.Labels.{label-left, label-right, label-past, label-end, size-append, width-some}
use Rattle.st80_heights.proofs.Carry.{Carries, part-append, part-cons, behind-one, sound-carry, run-append, left-carries}

-- ---- heights

higher-by : (h : ℕ) (t : Bool) → nat_lt h 255 ≡ t → (cond t (h + 1) h ≡ h + 1) ⊎ (255 ≤ cond t (h + 1) h)
higher-by h true e = inl refl
higher-by h false e = inr (ltb-false h 255 e)

pub higher-more : (h : ℕ) → IsMore 1 h (higher h)
higher-more h = higher-by h (nat_lt h 255) refl

some-by : (h k : ℕ) → IsMore 1 h k → 1 ≤ k
some-by h k (inl e) = omega arith
some-by h k (inr e) = omega arith

pub higher-some : (h : ℕ) → 1 ≤ higher h
higher-some h = some-by h (higher h) (higher-more h)

same : (h : ℕ) → IsMore 0 h h
same h = inl (omega arith)

-- ---- single instructions

behind : (e h : ℕ) (o : Op) → label e (one h o) (0 + width o) ≡ Some e
behind e h o =
    let z : 0 + width o ≡ width o + 0 = omega arith in
    ap (label e (one h o)) z ∙ label-end e (one h o)

single : (e h : ℕ) (o : Op) → Runs (label e (one h o)) (0 + width o) h o → IsPart e h (one h o)
unfolding label
single e h o x = record { sound = (x, tt); begins = refl }

pub part-push : (h : ℕ) (o : Op) → ((at : ℕ → Option ℕ) (q : ℕ) → Gains at q h 1 → Runs at q h o) → IsPart (higher h) h (one h o)
part-push h o f = single (higher h) h o (f (label (higher h) (one h o)) (0 + width o) (higher h, higher-more h, behind (higher h) h o))

pub part-same : (h : ℕ) (o : Op) → ((at : ℕ → Option ℕ) (q : ℕ) → Gains at q h 0 → Runs at q h o) → IsPart h h (one h o)
part-same h o f = single h h o (f (label h (one h o)) (0 + width o) (h, same h, behind h h o))

pub part-drop : (m h n : ℕ) (o : Op) → ((at : ℕ → Option ℕ) (q : ℕ) → Drops at q h n → Runs at q h o) → IsMore n m h → IsPart m h (one h o)
part-drop m h n o f more = single m h o (f (label m (one h o)) (0 + width o) (m, more, behind m h o))

pub part-return : (e h : ℕ) (o : Op) → ((at : ℕ → Option ℕ) (q : ℕ) → Runs at q h o) → IsPart e h (one h o)
part-return e h o f = single e h o (f (label e (one h o)) (0 + width o))

-- ---- sends

message-by : (frame : List ℕ) (to_super : Bool) (s n h m : ℕ) → IsMore n m h → (t : Bool) → is_special to_super s n ≡ t → IsPart m h (one h (cond t (Special s) (Message to_super (index_of frame s) n)))
message-by frame to_super s n h m more true e =
    let both = and_parts (not to_super) (nat_lt s 32 && (special_arguments s == n)) e in
    let few = and_parts (nat_lt s 32) (special_arguments s == n) both.1 in
    let is : special_arguments s ≡ n = eqb-true (special_arguments s) n few.1 in
    part-drop m h (special_arguments s) (Special s) (λ at q x. x) (subst (λ k. IsMore k m h) (sym is) more)
message-by frame to_super s n h m more false e = part-drop m h n (Message to_super (index_of frame s) n) (λ at q x. x) more

pub part-message : (frame : List ℕ) (to_super : Bool) (s n h m : ℕ) → IsMore n m h → IsPart m h (one h (message frame to_super s n))
part-message frame to_super s n h m more = message-by frame to_super s n h m more (is_special to_super s n) refl

-- ---- distances

min-of : (n w r : ℕ) → min ((min n 1025 + w) + r) 1025 ≡ min (n + (w + r)) 1025
min-of n w r = omega arith

exact-by : (x s most : ℕ) → x ≡ min (0 + s) 1025 → most ≤ 1024 → x ≤ most → x ≡ s
exact-by x s most e few le = omega arith

far-from : (n : ℕ) (l : List Step) → min (fold (λ n step. min n 1025 + width step.op) n l) 1025 ≡ min (n + size l) 1025
far-from n [] = let z : n + 0 ≡ n = omega arith in ap (λ k. min k 1025) (sym z)
far-from n (s ∷ rest) =
    far-from (min n 1025 + width s.op) rest ∙ min-of n (width s.op) (size rest)

pub far-exact : (l : List Step) (most : ℕ) → most ≤ 1024 → far l ≤ most → far l ≡ size l
far-exact l most few le = let e : far l ≡ min (0 + size l) 1025 = far-from 0 l in exact-by (far l) (size l) most e few le

zero-by : (n : ℕ) → nat_lt 0 n ≡ false → n ≡ 0
zero-by n e = let le : n ≤ 0 = ltb-false 0 n e in omega arith

some-same : (m k : ℕ) → Some m ≡ Some k → m ≡ k
some-same m k e = cc

back-first-of : (h : ℕ) (o : Op) (l : List Step) → label h (one (higher h) o ++ l) 0 ≡ Some (higher h)
unfolding label
back-first-of h o l = refl

back-first : (h n : ℕ) → label h (one h (Back n)) 0 ≡ Some h
unfolding label
back-first h n = refl

-- ---- choices

-- nothing to pass over is no code
none-by : (l : List Step) → size l ≡ 0 → l ≡ []
none-by [] e = refl
none-by (s ∷ rest) e = let w : 1 ≤ width s.op = width-some s.op in absurd (omega arith)

-- a part that a return may end, and that otherwise ends with height k
abbrev pub Ends : Bool → ℕ → ℕ → Type 0
Ends r k x = (r ≡ true) ⊎ (x ≡ k)

-- what stands behind the first part, and the height that the first part has to end with
jump-over : (k m : ℕ) (b : List Step) → IsPart k m b → IsPart k k (one k (Jump (far b)) ++ b)
jump-over k m b y =
    part-cons k k (Jump (far b)) b
    (λ le. let is : far b ≡ size b = far-exact b 1023 (omega arith) le in
    ap (λ n. label k (one k (Jump (far b)) ++ b) ((0 + width (Jump (far b))) + n)) is
    ∙ (behind-one k k (Jump (far b)) b (size b) ∙ label-end k b))
    y.sound

choice-behind : (k m : ℕ) (r : Bool) (a b : List Step) → ((x : ℕ) → Ends r k x → IsPart x m a) → IsPart k m b → (t : Bool) → passes r (far b) ≡ t → IsPart k m (a ++ (cond t (one k (Jump (far b))) [] ++ b))
choice-behind k m r a b x y true e = part-append k k m a (one k (Jump (far b)) ++ b) (x k (inr refl)) (jump-over k m b y)
choice-behind k m true a b x y false e = part-append k m m a b (x m (inl refl)) y
choice-behind k m false a b x y false e =
    let none : far b ≡ 0 = zero-by (far b) e in
    let is : far b ≡ size b = far-exact b 0 (omega arith) (omega arith) in
    let empty : b ≡ [] = none-by b (sym is ∙ none) in
    let ends : label k b 0 ≡ Some k = ap (λ l. label k l 0) empty ∙ label-end k [] in
    let mk : m ≡ k = some-same m k (sym y.begins ∙ ends) in
    part-append k m m a b (x m (inr mk)) y

pub choice-part : (on : Bool) (k m : ℕ) (r : Bool) (a b : List Step) → ((x : ℕ) → Ends r k x → IsPart x m a) → IsPart k m b → IsPart k (higher m) (choice_steps on (higher m) k r a b)
choice-part on k m r a b x y =
    let p = passing k r (far b) in
    let w : IsPart k m (a ++ (p ++ b)) = choice-behind k m r a b x y (passes r (far b)) refl in
    let flat : IsPart k m ((a ++ p) ++ b) = subst (λ l. IsPart k m l) (sym (append_assoc a p b)) w in
    let o = Branch on (far (a ++ p)) in
    let f = label k (one (higher m) o ++ ((a ++ p) ++ b)) in
    let z : (0 + width o) + 0 ≡ 0 + width o = omega arith in
    let next : f (0 + width o) ≡ Some m = ap f (sym z) ∙ (behind-one k (higher m) o ((a ++ p) ++ b) 0 ∙ flat.begins) in
    let seam : size (a ++ p) + 0 ≡ size (a ++ p) = omega arith in
    let lands : far (a ++ p) ≤ 1023 → f ((0 + width o) + far (a ++ p)) ≡ Some m =
    λ le. ap (λ n. f ((0 + width o) + n)) (far-exact (a ++ p) 1023 (omega arith) le)
    ∙ (behind-one k (higher m) o ((a ++ p) ++ b) (size (a ++ p))
    ∙ (ap (label k ((a ++ p) ++ b)) (sym seam) ∙ (label-right k (a ++ p) b 0 ∙ y.begins))) in
    part-cons k (higher m) o ((a ++ p) ++ b) (m, higher-more m, next, lands) flat.sound

-- ---- loops

pub loop-part : (on : Bool) (h : ℕ) (t b : List Step) → IsPart (higher h) h t → IsPart h h b → IsPart h h (loop_steps on h t b)
loop-part on h t b x y =
    let o = Branch on (far b + 2) in
    let n = far t + width o + far b + 2 in
    let last = one h (Back n) in
    let m = one (higher h) o ++ (b ++ last) in
    let f = label h (t ++ m) in
    let q = (0 + size t) + width o in
    let tail-begins : label h (b ++ last) 0 ≡ Some h = label-left h h b last 0 h (back-first h n) y.begins in
    let f-is : (i : ℕ) → f (q + i) ≡ label h (b ++ last) i =
    λ i. (let z : ((0 + size t) + width o) + i ≡ size t + (width o + i) = omega arith in ap f z)
    ∙ (label-right h t m (width o + i) ∙ label-past h (record { height = higher h; op = o }) (b ++ last) i) in
    let first : Carries (label (higher h) t) f 0 = left-carries h (higher h) t m (back-first-of h o (b ++ last)) in
    let next : f q ≡ Some h = (let z : q ≡ q + 0 = omega arith in ap f z) ∙ (f-is 0 ∙ tail-begins) in
    let lands : far b + 2 ≤ 1023 → f (q + (far b + 2)) ≡ Some h =
    λ le. (let is : far b ≡ size b = far-exact b 1023 (omega arith) (omega arith) in
    let whole : size (b ++ last) ≡ size b + (2 + 0) = size-append b last in
    let z : far b + 2 ≡ size (b ++ last) = omega arith in
    ap (λ i. f (q + i)) z)
    ∙ (f-is (size (b ++ last)) ∙ label-end h (b ++ last)) in
    let body : RunFrom f q b =
    (let c : Carries (label h b) f q = record { at = λ i j l. f-is i ∙ label-left h h b last i j (back-first h n) l } in
    let z : q + 0 ≡ q = omega arith in
    subst (λ i. RunFrom f i b) z (sound-carry (label h b) f q c 0 b y.sound)) in
    let goes_back : (n ≤ 1024 → (p : ℕ) × (p + n ≡ (q + size b) + 2) × (f p ≡ Some h)) =
    λ le. (let ft : far t ≡ size t = far-exact t 1024 (omega arith) (omega arith) in
    let fb : far b ≡ size b = far-exact b 1024 (omega arith) (omega arith) in
    (0, omega arith, label-left h (higher h) t m 0 h (back-first-of h o (b ++ last)) x.begins)) in
    record {
      sound = run-append f 0 t m
          (sound-carry (label (higher h) t) f 0 first 0 t x.sound)
          ((h, higher-more h, next, lands), run-append f q b last body (goes_back, tt));
      begins = label-left h (higher h) t m 0 h (back-first-of h o (b ++ last)) x.begins;
    }

-- ---- blocks

count-by : (h : ℕ) (t : Bool) (o u : Op) → IsPart (higher h) h (one h o) → IsPart (higher h) h (one h u) → IsPart (higher h) h (one h (cond t o u))
count-by h true o u x y = x
count-by h false o u x y = y

count-part : (frame : List ℕ) (h n : ℕ) → IsPart (higher h) h (one h (count_op frame n))
count-part frame h n =
    let many = Push (OfFrame (index_of frame (42 + n))) in
    let o2 = PushConstant constant.Two in
    let o1 = PushConstant constant.One in
    let o0 = PushConstant constant.Zero in
    let a = count-by h (n == 2) o2 many (part-push h o2 (λ at q x. x)) (part-push h many (λ at q x. x)) in
    let b = count-by h (n == 1) o1 (cond (n == 2) o2 many) (part-push h o1 (λ at q x. x)) a in
    count-by h (n == 0) o0 (cond (n == 1) o1 (cond (n == 2) o2 many)) (part-push h o0 (λ at q x. x)) b

pub opening-part : (frame : List ℕ) (h count k : ℕ) (body : List Step) → IsPart (higher h) k body → IsPart (higher h) h (opening frame h count (far body) ++ body)
opening-part frame h count k body x =
    let o = Over (far body) in
    let f = label (higher h) (one (higher h) o ++ body) in
    let z : (0 + width o) + 0 ≡ 0 + width o = omega arith in
    let enters : f (0 + width o) ≡ Some k = ap f (sym z) ∙ (behind-one (higher h) (higher h) o body 0 ∙ x.begins) in
    let lands : far body ≤ 1023 → f ((0 + width o) + far body) ≡ Some (higher h) =
    λ le. ap (λ n. f ((0 + width o) + n)) (far-exact body 1023 (omega arith) le)
    ∙ (behind-one (higher h) (higher h) o body (size body) ∙ label-end (higher h) body) in
    let over : IsPart (higher h) (higher h) (one (higher h) o ++ body) = part-cons (higher h) (higher h) o body ((k, enters), lands) x.sound in
    let made : IsPart (higher h) (higher (higher h)) (one (higher (higher h)) (Special 24) ++ (one (higher h) o ++ body)) =
    part-append (higher h) (higher h) (higher (higher h)) (one (higher (higher h)) (Special 24)) (one (higher h) o ++ body)
    (part-drop (higher h) (higher (higher h)) 1 (Special 24) (λ at q x. x) (higher-more (higher h))) over in
    let counted : IsPart (higher h) (higher h) (one (higher h) (count_op frame count) ++ (one (higher (higher h)) (Special 24) ++ (one (higher h) o ++ body))) =
    part-append (higher h) (higher (higher h)) (higher h) (one (higher h) (count_op frame count)) _ (count-part frame (higher h) count) made in
    part-append (higher h) (higher h) h (one h PushContext) _ (part-push h PushContext (λ at q x. x)) counted
