-- What the parts keep at each moment, also behind a fault, as one fact that a type may carry.
use Rattle.std.specs.Coded.{le_prop}
use Rattle.core_view.specs.Kept.{IsTight}
use Rattle.core_view.specs.Once.{HasMarksHere, IsCore-prop, IsTight-prop, HasMarksHere-prop}
use Rattle.leaf_lambda.specs.declared.parts.Parts.{Parts}
use Rattle.leaf_lambda.specs.Parts.{core_of, IsParts}

-- The parts fit, each chunk with an owner is a body, and each marked object is here.
pub record IsWhole (p : Parts) : Type 0 where
  pub parts : IsParts p
  pub tight : IsTight (core_of p)
  pub marks : HasMarksHere (core_of p)

-- ---- it is so in one way at most

pub IsParts-prop : (p : Parts) → IsProp (IsParts p)
IsParts-prop p a b = λ i. record { core = IsCore-prop (core_of p) a.core b.core i; room = le_prop a.room b.room i }

pub IsWhole-prop : (p : Parts) → IsProp (IsWhole p)
IsWhole-prop p a b = λ i. record {
  parts = IsParts-prop p a.parts b.parts i;
  tight = IsTight-prop (core_of p) a.tight b.tight i;
  marks = HasMarksHere-prop (core_of p) a.marks b.marks i;
}
