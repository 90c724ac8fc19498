-- Sound code stays so with other code before and behind it.
use Rattle.std.proofs.Common.{◌≡◌, ℕ, ◌+◌, ◌≤◌, List, [], ◌∷◌, ◌++◌, Option, Some, refl, ap, subst, ◌∙◌, arith}
use Rattle.st80_compile.specs.declared.step.Op.{Op}
use Rattle.st80_compile.specs.declared.step.Op.TheVariants.{Push, PushConstant, PushContext, Store, StorePop, Pop, Duplicate, Message, Special, Jump, Over, Back, Branch, ReturnConstant, ReturnTop, ReturnFromBlock}
use Rattle.st80_compile.specs.declared.step.Step.{Step}
use Rattle.st80_compile.specs.Frame.{special_arguments}
use Rattle.st80_compile.specs.Bytes.{width}
use Rattle.st80_compile.specs.Steps.{one}
use Rattle.st80_heights.specs.Heights.{label, size, Gains, Drops, Runs, RunFrom, AreSound, IsPart}
use Rattle.st80_heights.proofs.Labels.{label-left, label-right, label-past}

-- what one code has at a byte, another has d bytes further
pub record Carries (f g : ℕ → Option ℕ) (d : ℕ) : Type 0 where
  pub at : (q m : ℕ) → f q ≡ Some m → g (d + q) ≡ Some m

gains-carry : (f g : ℕ → Option ℕ) (d : ℕ) → Carries f g d → (q h n : ℕ) → Gains f q h n → Gains g (d + q) h n
gains-carry f g d c q h n x = (x.0, x.1, c.at q x.0 x.2)

drops-carry : (f g : ℕ → Option ℕ) (d : ℕ) → Carries f g d → (q h n : ℕ) → Drops f q h n → Drops g (d + q) h n
drops-carry f g d c q h n x = (x.0, x.1, c.at q x.0 x.2)

jump-carry : (f g : ℕ → Option ℕ) (d : ℕ) → Carries f g d → (q h n most : ℕ) → (n ≤ most → f (q + n) ≡ Some h) → n ≤ most → g ((d + q) + n) ≡ Some h
jump-carry f g d c q h n most x le = let e : (d + q) + n ≡ d + (q + n) = omega arith in ap g e ∙ c.at (q + n) h (x le)

back-carry : (f g : ℕ → Option ℕ) (d : ℕ) → Carries f g d → (q h n most : ℕ) → (n ≤ most → (p : ℕ) × (p + n ≡ q) × (f p ≡ Some h)) → n ≤ most → (p : ℕ) × (p + n ≡ d + q) × (g p ≡ Some h)
back-carry f g d c q h n most x le =
    let y : ((p : ℕ) × (p + n ≡ q) × (f p ≡ Some h)) = x le in
    let b : y.0 + n ≡ q = y.1 in
    let e : (d + y.0) + n ≡ d + q = omega arith in
    (d + y.0, e, c.at y.0 h y.2)

runs-carry : (f g : ℕ → Option ℕ) (d : ℕ) → Carries f g d → (q h : ℕ) (o : Op) → Runs f q h o → Runs g (d + q) h o
runs-carry f g d c q h (Push place) x = gains-carry f g d c q h 1 x
runs-carry f g d c q h (PushConstant k) x = gains-carry f g d c q h 1 x
runs-carry f g d c q h PushContext x = gains-carry f g d c q h 1 x
runs-carry f g d c q h (Store place) x = gains-carry f g d c q h 0 x
runs-carry f g d c q h (StorePop place) x = drops-carry f g d c q h 1 x
runs-carry f g d c q h Pop x = drops-carry f g d c q h 1 x
runs-carry f g d c q h Duplicate x = gains-carry f g d c q h 1 x
runs-carry f g d c q h (Message to_super i n) x = drops-carry f g d c q h n x
runs-carry f g d c q h (Special s) x = drops-carry f g d c q h (special_arguments s) x
runs-carry f g d c q h (Jump n) x = jump-carry f g d c q h n 1023 x
runs-carry f g d c q h (Over n) x = ((x.0.0, c.at q x.0.0 x.0.1), jump-carry f g d c q h n 1023 x.1)
runs-carry f g d c q h (Back n) x = back-carry f g d c q h n 1024 x
runs-carry f g d c q h (Branch on n) x = (x.0, x.1, c.at q x.0 x.2, jump-carry f g d c q x.0 n 1023 x.3)
runs-carry f g d c q h (ReturnConstant k) x = tt
runs-carry f g d c q h ReturnTop x = x
runs-carry f g d c q h ReturnFromBlock x = x

pub sound-carry : (f g : ℕ → Option ℕ) (d : ℕ) → Carries f g d → (p : ℕ) (l : List Step) → RunFrom f p l → RunFrom g (d + p) l
sound-carry f g d c p [] x = tt
sound-carry f g d c p (s ∷ rest) x =
    let e : d + (p + width s.op) ≡ (d + p) + width s.op = omega arith in (
      subst (λ q. Runs g q s.height s.op) e (runs-carry f g d c (p + width s.op) s.height s.op x.0),
      subst (λ q. RunFrom g q rest) e (sound-carry f g d c (p + width s.op) rest x.1),
    )

pub run-append : (f : ℕ → Option ℕ) (p : ℕ) (a b : List Step) → RunFrom f p a → RunFrom f (p + size a) b → RunFrom f p (a ++ b)
run-append f p [] b x y = let e : p + 0 ≡ p = omega arith in subst (λ q. RunFrom f q b) e y
run-append f p (s ∷ a) b x y =
    let e : p + (width s.op + size a) ≡ (p + width s.op) + size a = omega arith in
    (x.0, run-append f (p + width s.op) a b x.1 (subst (λ q. RunFrom f q b) e y))

pub left-carries : (e k : ℕ) (a b : List Step) → label e b 0 ≡ Some k → Carries (label k a) (label e (a ++ b)) 0
left-carries e k a b h = record {
  at = λ q m l. let z : 0 + q ≡ q = omega arith in ap (label e (a ++ b)) z ∙ label-left e k a b q m h l;
}

pub right-carries : (e : ℕ) (a b : List Step) → Carries (label e b) (label e (a ++ b)) (size a)
right-carries e a b = record { at = λ q m l. label-right e a b q ∙ l }

pub part-append : (e k h : ℕ) (a b : List Step) → IsPart k h a → IsPart e k b → IsPart e h (a ++ b)
part-append e k h a b x y = record {
  sound =
      let f = label e (a ++ b) in
      let z : size a + 0 ≡ 0 + size a = omega arith in
      run-append f 0 a b
      (sound-carry (label k a) f 0 (left-carries e k a b y.begins) 0 a x.sound)
      (subst (λ q. RunFrom f q b) z (sound-carry (label e b) f (size a) (right-carries e a b) 0 b y.sound));
  begins = label-left e k a b 0 h y.begins x.begins;
}

pub part-nil : (h : ℕ) → IsPart h h []
unfolding label
part-nil h = record { sound = tt; begins = refl }

-- an instruction before other code
pub behind-one : (e h : ℕ) (o : Op) (l : List Step) (q : ℕ) → label e (one h o ++ l) ((0 + width o) + q) ≡ label e l q
behind-one e h o l q =
    let z : (0 + width o) + q ≡ width o + q = omega arith in
    ap (label e (one h o ++ l)) z ∙ label-past e (record { height = h; op = o }) l q

pub part-cons : (e h : ℕ) (o : Op) (l : List Step) → Runs (label e (one h o ++ l)) (0 + width o) h o → AreSound e l → IsPart e h (one h o ++ l)
unfolding label
part-cons e h o l x y = record {
  sound =
      let f = label e (one h o ++ l) in
      let c : Carries (label e l) f (width o) = record { at = λ q m i. label-past e (record { height = h; op = o }) l q ∙ i } in
      let z : width o + 0 ≡ 0 + width o = omega arith in
      (x, subst (λ q. RunFrom f q l) z (sound-carry (label e l) f (width o) c 0 l y));
  begins = refl;
}
