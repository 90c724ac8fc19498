-- Tests that the rules of sends make.
use Rattle.std.proofs.Common.{◌≡◌, ℕ, ◌==◌, ◌||◌, ◌⊎◌, inl, inr, Bool, true, false, refl, ap, ◌∙◌, arith}
use Rattle.std.proofs.lemmas.Bool.Decides.{nat_tests}
use Rattle.std.proofs.lemmas.Grind.{common_steps}
use Rattle.long_names.specs.declared.value.Value.{Value}
use Rattle.long_names.specs.declared.value.Value.TheVariants.{Int, Ref}
use Rattle.long_names.specs.Names.{METHOD_CONTEXT, BLOCK_CONTEXT}
use Rattle.long_names.specs.Objects.{is_ref}
use Rattle.blue_model.specs.Bytecodes.{is_among, is_block_class, is_context_class}

-- a number is another, as a third says that is both
pub equal : (a b c : ℕ) → a ≡ b → a ≡ c → (b == c) ≡ true
equal a b c e f = grind (arith, common_steps, nat_tests)

pub unequal : (a b c : ℕ) → a ≡ b → (a ≡ c → ⊥) → (b == c) ≡ false
unequal a b c e f = grind (arith, common_steps, nat_tests, f)

-- the class of a block
pub is_block : (v : Value) → is_among is_block_class v ≡ is_ref BLOCK_CONTEXT v
is_block (Int z) = refl
is_block (Ref n) = refl

-- the classes of contexts
pub is_context : (v : Value) → is_among is_context_class v ≡ (is_ref METHOD_CONTEXT v || is_ref BLOCK_CONTEXT v)
is_context (Int z) = refl
is_context (Ref n) = refl

pub either : (v : Value) → (is_ref METHOD_CONTEXT v ≡ true) ⊎ (is_ref BLOCK_CONTEXT v ≡ true) → is_among is_context_class v ≡ true
either v (inl e) = is_context v ∙ ap (λ b. b || is_ref BLOCK_CONTEXT v) e
either v (inr e) = is_context v ∙ ap (λ b. is_ref METHOD_CONTEXT v || b) e ∙ or_true (is_ref METHOD_CONTEXT v)
  where
    or_true : (b : Bool) → (b || true) ≡ true
    or_true true = refl
    or_true false = refl

pub neither : (v : Value) → is_ref METHOD_CONTEXT v ≡ false → is_ref BLOCK_CONTEXT v ≡ false → is_among is_context_class v ≡ false
neither v e f = is_context v ∙ ap (λ b. b || is_ref BLOCK_CONTEXT v) e ∙ f
