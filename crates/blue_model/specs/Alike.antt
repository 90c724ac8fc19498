-- How the law of thinning is proved of rules: the names that are lost stay the same all through a rule, and a rule writes none of them.
use Rattle.std.specs.Prelude.{◌≡◌, ℕ, ◌≤◌, Bool, true, false, List, [], ◌∷◌, Option, Some, None}
use Rattle.long_names.specs.declared.value.Value.{Value}
use Rattle.long_names.specs.declared.value.Value.TheVariants.{Ref}
use Rattle.long_names.specs.declared.object.Object.{Object}
use Rattle.long_names.specs.Names.{is_known}
use Rattle.long_names.specs.Objects.{holds}
use Rattle.blue_model.specs.Machine.{Machine, Outcome, Go, Halt, Spent, Rule}
use Rattle.blue_model.specs.Bytecodes.{Range}
use Rattle.blue_model.specs.Law.{IsThinned}

-- the names of objects that were thinned away when the rule began
pub record Lost : Type 0 where
  pub lost : ℕ → Bool
  pub known : (n : ℕ) → is_known n ≡ true → lost n ≡ false

-- the heaps are the same but for what is lost
pub record IsAlike (w : Lost) (m s : Machine) : Type 0 where
  pub thinned : IsThinned m s
  pub same : (n : ℕ) → w.lost n ≡ false → s.heap.at n ≡ m.heap.at n
  pub gone : (n : ℕ) → w.lost n ≡ true → s.heap.at n ≡ None
  pub fresh : (n : ℕ) → s.heap.next ≤ n → w.lost n ≡ false

-- ---- answers

-- the value names nothing that is lost
pub record IsKept (w : Lost) (v : Value) : Type 0 where
  pub kept : (n : ℕ) → v ≡ Ref n → w.lost n ≡ false

-- a value, or none
pub record IsKeptMaybe (w : Lost) (o : Option Value) : Type 0 where
  pub kept : (v : Value) → o ≡ Some v → IsKept w v

-- the object holds nothing that is lost
pub record IsHeld (w : Lost) (o : Object) : Type 0 where
  pub held : (n : ℕ) → holds o n ≡ true → w.lost n ≡ false

-- an answer without names
pub record IsPlain {A : Type 0} (a : A) : Type 0 where

-- what f takes out of an object that holds nothing lost isn't lost
pub record IsWithin (w : Lost) (f : Object → Option Value) : Type 0 where
  pub within : (o : Object) (v : Value) → IsHeld w o → f o ≡ Some v → IsKept w v

-- ---- rules

-- as two outcomes agree, with answers that K speaks of, and the heaps still the same but for what is lost
abbrev pub Agrees : {A : Type 0} → Lost → (A → Type 0) → Outcome A → Outcome A → Type 0
Agrees w K (Go a m log) (Go b s rows) = (a ≡ b) × (log ≡ rows) × K a × IsAlike w m s
Agrees w K (Halt c log) (Halt d rows) = (c ≡ d) × (log ≡ rows)
Agrees w K (Spent log) (Spent rows) = log ≡ rows
Agrees w K _ _ = ⊥

-- the rule goes one way in a heap and in a thinner one, and answers as K says
pub record Lawful (w : Lost) {A : Type 0} (K : A → Type 0) (p : Rule A) : Type 0 where
  pub agrees : (m s : Machine) → IsAlike w m s → Agrees w K (p m) (p s)

-- each range of the list has lawful rules
abbrev pub AreLawful : Lost → List Range → Type 0
AreLawful w [] = Unit {0}
AreLawful w (r ∷ rs) = ((i : ℕ) → Lawful w IsPlain (r.rule i)) × AreLawful w rs
