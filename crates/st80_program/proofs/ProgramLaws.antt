-- Programs that grow: what one more class, fields of a class itself and one more method leave.
use Rattle.std.proofs.Common.{◌≡◌, ◌≢◌, ℕ, suc, ◌+◌, ◌<◌, ◌≤◌, List, [], ◌∷◌, ◌++◌, length, All, Option, IfSome, Some, None, sym, ap, ◌∙◌, arith}
use Rattle.std.specs.List.{AllPairs}
use Rattle.std.proofs.lemmas.List.{length_push, map-append, length-map}
use Rattle.std.proofs.lemmas.List.Elements.{All-get_or, All-map, All-nil, All-push, All-weaker}
use Rattle.std.proofs.lemmas.List.Quantifiers.{all_pairs_push}
use Rattle.st80_program.specs.declared.program.Class.{Class}
use Rattle.st80_program.specs.declared.program.Program.{Program}
use Rattle.st80_program.specs.declared.program.Written.{Written}
use Rattle.st80_program.specs.Programs.{AreBefore, IsHoused, IsProgram, names_of, superclasses_of}

pub below_more : (above : Option ℕ) (m n : ℕ) → m ≤ n → IfSome above (λ a. a < m) → IfSome above (λ a. a < n)
below_more None m n le s = tt
below_more (Some a) m n le s = omega (arith, le, s)

pub before_push : (n : ℕ) (xs : List (Option ℕ)) (above : Option ℕ) → AreBefore n xs → IfSome above (λ a. a < n + length xs) → AreBefore n (xs ++ above ∷ [])
unfolding AreBefore
before_push n [] above o s = (below_more above (n + 0) n (omega arith) s, tt)
before_push n (x ∷ xs) above o s = (o.0, before_push (suc n) xs above o.1 (below_more above (n + suc (length xs)) (suc n + length xs) (omega arith) s))

-- one more class, whose superclass is there
pub ordered_push : (xs : List Class) (class : Class) → AreBefore 0 (superclasses_of xs) → IfSome class.superclass (λ a. a < length xs) → AreBefore 0 (superclasses_of (xs ++ class ∷ []))
ordered_push xs class o s =
    let size : length xs ≡ length (superclasses_of xs) = sym (length-map xs (λ (c : Class). c.superclass)) in
    rw map-append (before_push 0 (superclasses_of xs) class.superclass o (below_more class.superclass (length xs) (0 + length (superclasses_of xs)) (omega (arith, size)) s))

-- one more class, whose name no other has
pub apart_push : (xs : List Class) (class : Class) → AllPairs (λ a b. a ≢ b) (names_of xs) → All (λ other. other.name.items ≢ class.name.items) xs → AllPairs (λ a b. a ≢ b) (names_of (xs ++ class ∷ []))
apart_push xs class o s =
    let each : All (λ name. name ≢ class.name.items) (names_of xs) = All-map (λ name. name ≢ class.name.items) (λ (c : Class). c.name.items) xs s in
    rw map-append (all_pairs_push (λ a b. a ≢ b) (names_of xs) class.name.items o (λ k d low. All-get_or (λ name. name ≢ class.name.items) (names_of xs) k d low each))

-- a program with one more class
pub program_with_class : (texts : ℕ) (p q : Program) (class : Class) → IsProgram texts p → q.classes.items ≡ p.classes.items ++ class ∷ [] → q.methods.items ≡ p.methods.items → q.start ≡ p.start
    → All (λ other. other.name.items ≢ class.name.items) p.classes.items → IfSome class.superclass (λ a. a < length p.classes.items) → IsProgram texts q
program_with_class texts p q class is classes methods start apart above =
    let size : length q.classes.items ≡ length p.classes.items + 1 = ap length classes ∙ length_push p.classes.items class in
    record {
      ordered = rw classes (ordered_push p.classes.items class is.ordered above);
      apart = rw classes (apart_push p.classes.items class is.apart apart);
      housed = rw methods (All-weaker (IsHoused (length p.classes.items) texts) (IsHoused (length q.classes.items) texts) (λ w h. (let low = h.0 in omega (arith, size, low), h.1)) p.methods.items is.housed);
      begins = rw start is.begins;
    }

-- a program with one more method
pub program_with_method : (texts : ℕ) (p q : Program) (written : Written) → IsProgram texts p → q.classes.items ≡ p.classes.items → q.methods.items ≡ p.methods.items ++ written ∷ [] → q.start ≡ p.start
    → written.class < length p.classes.items → written.source < texts → IsProgram texts q
program_with_method texts p q written is classes methods start low source =
    let size : length q.classes.items ≡ length p.classes.items = ap length classes in
    record {
      ordered = rw classes is.ordered;
      apart = rw classes is.apart;
      housed = rw (methods, size) (All-push (IsHoused (length p.classes.items) texts) p.methods.items written is.housed (low, source));
      begins = rw start is.begins;
    }

-- a program whose classes have the names and superclasses that they had
pub program_with_fields : (texts : ℕ) (p q : Program) → IsProgram texts p → superclasses_of q.classes.items ≡ superclasses_of p.classes.items → names_of q.classes.items ≡ names_of p.classes.items
    → length q.classes.items ≡ length p.classes.items → q.methods.items ≡ p.methods.items → q.start ≡ p.start → IsProgram texts q
program_with_fields texts p q is aboves names size methods start = record {
  ordered = rw aboves is.ordered;
  apart = rw names is.apart;
  housed = rw (methods, size) is.housed;
  begins = rw start is.begins;
}

-- a program without classes and methods
pub no_program : (texts : ℕ) (p : Program) → p.classes.items ≡ [] → p.methods.items ≡ [] → p.start ≡ None → IsProgram texts p
unfolding AreBefore
no_program texts p classes methods start = record {
  ordered = rw classes tt;
  apart = rw classes (λ i j d low high. absurd (omega (arith, low, high)));
  housed = rw methods (All-nil (IsHoused (length p.classes.items) texts));
  begins = rw start tt;
}
