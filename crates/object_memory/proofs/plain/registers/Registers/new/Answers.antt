use Rattle.std.proofs.Common.{◌≡◌, ℕ, zero, suc, pos, get_or, replicate, refl}
use mathlib.Core.Path.{fun_ext}
use Rattle.long_names.specs.declared.value.Value.{Value}
use Rattle.long_names.specs.declared.value.Value.TheVariants.{Int}
use Rattle.object_memory.proofs.plain.registers.Registers.new.Goals as goal

same : (n r : ℕ) (v : Value) → get_or (replicate n v) r v ≡ v
same zero r v = refl
same (suc n) zero v = refl
same (suc n) (suc r) v = same n r v

pub returns : goal.returns
returns c = fun_ext (λ r. same 24 r (Int (pos 0)))
