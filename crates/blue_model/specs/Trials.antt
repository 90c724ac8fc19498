-- What primitives are made of (chapter 29): conditions that may not be met, and answers.
use Rattle.std.specs.Prelude.{ℕ, ◌+◌, ◌==◌, Bool, List, [], ◌∷◌, Option, Some, None}
use Rattle.long_names.specs.declared.value.Value.{Value}
use Rattle.long_names.specs.declared.value.Value.TheVariants.{Int, Ref}
use Rattle.long_names.specs.declared.object.Object.{Object}
use Rattle.long_names.specs.Names.{FALSE, TRUE}
use Rattle.blue_model.specs.declared.answer.Answer.{Answer}
use Rattle.blue_model.specs.declared.answer.Answer.TheVariants.{Done, Failed}
use Rattle.blue_model.specs.Machine.{Rule, ◌>>=◌, ◌>>◌, done, pick, numbers, look, known}
use Rattle.blue_model.specs.Contexts.{push, pop}

-- ---- conditions, read in order: the primitive fails at the first that isn't met, and what comes after it isn't read

unfoldable pub failed : Rule Answer
failed = done Failed

-- there is one, or the primitive fails
unfoldable pub where_some : {A : Type 0} → Option A → (A → Rule Answer) → Rule Answer
where_some None k = failed
where_some (Some a) k = k a

infixl 20 ◌>>?◌
-- a rule that gives one, and then the rest; or the primitive fails
unfoldable pub ◌>>?◌ : {A : Type 0} → Rule (Option A) → (A → Rule Answer) → Rule Answer
p >>? k = p >>= (λ o. where_some o k)

-- the test is met, or the primitive fails
unfoldable pub where_true : Bool → Rule Answer → Rule Answer
where_true b p = pick b p failed

-- a part of the object that a value names, where it has it. A SmallInteger has none, and isn't looked at
unfoldable pub peek : {A : Type 0} → (Object → Option A) → Value → Rule (Option A)
peek f (Int z) = done None
peek f (Ref n) = look (Ref n) >>= (λ o. done (f o))

-- ---- answers

-- arguments and receiver are popped, and the answer is pushed
unfoldable pub answer : ℕ → Value → Rule Answer
answer n v = do
  pop (n + 1)
  push v
  done Done

unfoldable pub boolean : Bool → Rule Value
boolean b = pick b (known TRUE) (known FALSE)

-- ---- tables

-- a primitive by its index, for messages of so many arguments
pub record Primitive : Type 0 where
  pub index : ℕ
  pub arguments : ℕ
  pub rule : Rule Answer

-- A primitive fails where the message has another number of arguments, and where no row has its index.
unfoldable pub with_arguments : Primitive → Rule Answer
with_arguments p = do
  cpu ← numbers
  where_true (cpu.args == p.arguments) p.rule

abbrev pub primitive_in : List Primitive → ℕ → Rule Answer
primitive_in [] index = failed
primitive_in (p ∷ ps) index = pick (p.index == index) (with_arguments p) (primitive_in ps index)
