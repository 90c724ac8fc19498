use Rattle.std.proofs.Common.{◌≡◌, ℕ, List, [], ◌∷◌, ◌++◌, map, sym, ◌∙◌, ap, ap₂, arith}
use Rattle.std.specs.List.{range_with_len}
use Rattle.std.proofs.lemmas.List.FromFn.{map-range_with_len_more}
use Rattle.long_names.specs.declared.value.Value.{Value}
use Rattle.long_names.specs.declared.value.Value.TheVariants.{Ref}
use Rattle.loom_gen.specs.declared.names.TheConstants.{CHARACTERS}
use Rattle.loom_gen.specs.Table.{character_name, characters}
use Rattle.loom_gen.proofs.rows.characters.Goals as goal

pub loop-k-preserved : goal.loop-k-preserved
loop-k-preserved c =
    c.in_ok-push.ensures.ok
    ∙ ap₂ (λ (xs : List Value) (n : ℕ). xs ++ Ref n ∷ []) c.loop-k.invariant c.name.ensures
    ∙ sym (map-range_with_len_more (λ k. Ref (character_name k)) 0 c.loop-k.k c.loop-k.k (omega arith))

pub returns : goal.returns
unfolding characters
returns c =
    let all : c.loop-k.k ≡ CHARACTERS = omega arith in
    c.loop-k.invariant ∙ ap (λ (n : ℕ). map (λ k. Ref (character_name k)) (range_with_len 0 n)) all
