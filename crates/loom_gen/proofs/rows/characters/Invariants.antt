use Rattle.std.proofs.Common.{◌≡◌, map}
use Rattle.std.specs.List.{range_with_len}
use Rattle.long_names.specs.declared.value.Value.TheVariants.{Ref}
use Rattle.loom_gen.specs.Table.{character_name}
use Rattle.loom_gen.proofs.rows.characters.Given as goal

abbrev pub invariant-loop-k : goal.invariant-loop-k
invariant-loop-k l = l.characters ≡ map (λ k. Ref (character_name k)) (range_with_len 0 l.k)
