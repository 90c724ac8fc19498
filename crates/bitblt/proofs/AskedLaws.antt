-- The numbers of a BitBlt, in steps.
use Rattle.std.proofs.Common.{◌≡◌, ℕ, ℤ, ◌+◌, Option, Some, None, refl, ◌∙◌, ap}
use Rattle.std.specs.Option.{option_and_then}
use Rattle.long_names.specs.declared.object.Object.{Object}
use Rattle.blue_model.specs.Parts.{number}
use Rattle.blue_model.specs.BitBlt.{rule_number, blit_number, asked_of}
use Rattle.blue_model.specs.BitBlt as model
use Rattle.bitblt.specs.Asking.{both, place_at}

-- a place
pub place_makes : (i : ℕ) (o : Object) → place_at i o ≡ both (number 14 i o) (number 14 (i + 1) o)
unfolding place_at blit_number
place_makes i o = refl

pub place_lacks : (i : ℕ) (o : Object) → number 14 i o ≡ None → place_at i o ≡ None
place_lacks i o e = place_makes i o ∙ ap (λ x. both x (number 14 (i + 1) o)) e

-- the rule, and then a place after the other
unfoldable pub rule_of : Object → Option ℕ
rule_of o = option_and_then rule_number (number 14 3 o)

pub rule_makes : (o : Object) → rule_of o ≡ option_and_then rule_number (number 14 3 o)
unfolding rule_of
rule_makes o = refl

abbrev pub Steps : Type 0
Steps = ((((ℕ × (ℤ × ℤ)) × (ℤ × ℤ)) × (ℤ × ℤ)) × (ℤ × ℤ)) × (ℤ × ℤ)

abbrev pub with_dest : Object → Option (ℕ × (ℤ × ℤ))
with_dest o = both (rule_of o) (place_at 4 o)

abbrev pub with_extent : Object → Option ((ℕ × (ℤ × ℤ)) × (ℤ × ℤ))
with_extent o = both (with_dest o) (place_at 6 o)

abbrev pub with_source_place : Object → Option (((ℕ × (ℤ × ℤ)) × (ℤ × ℤ)) × (ℤ × ℤ))
with_source_place o = both (with_extent o) (place_at 8 o)

abbrev pub with_clip : Object → Option ((((ℕ × (ℤ × ℤ)) × (ℤ × ℤ)) × (ℤ × ℤ)) × (ℤ × ℤ))
with_clip o = both (with_source_place o) (place_at 10 o)

abbrev pub with_all : Object → Option Steps
with_all o = both (with_clip o) (place_at 12 o)

abbrev pub made_of : Steps → model.Asked
made_of s = record { rule = s.0.0.0.0.0; dest_x = s.0.0.0.0.1.0; dest_y = s.0.0.0.0.1.1; width = s.0.0.0.1.0; height = s.0.0.0.1.1; source_x = s.0.0.1.0; source_y = s.0.0.1.1; clip_x = s.0.1.0; clip_y = s.0.1.1; clip_width = s.1.0; clip_height = s.1.1 }

abbrev pub made_by : Option Steps → Option model.Asked
made_by x = option_and_then (λ s. Some (made_of s)) x

nested : (r : Option ℕ) (a b c d e f g h i j : Option ℤ)
    → option_and_then (λ rule. option_and_then (λ dest_x. option_and_then (λ dest_y. option_and_then (λ width. option_and_then (λ height.
    option_and_then (λ source_x. option_and_then (λ source_y. option_and_then (λ clip_x. option_and_then (λ clip_y.
    option_and_then (λ clip_width. option_and_then (λ clip_height.
    Some (let q : model.Asked = record { rule = rule; dest_x = dest_x; dest_y = dest_y; width = width; height = height; source_x = source_x; source_y = source_y; clip_x = clip_x; clip_y = clip_y; clip_width = clip_width; clip_height = clip_height } in q))
    j) i) h) g) f) e) d) c) b) a) r
    ≡ made_by (both (both (both (both (both r (both a b)) (both c d)) (both e f)) (both g h)) (both i j))
nested None a b c d e f g h i j = refl
nested (Some r) None b c d e f g h i j = refl
nested (Some r) (Some a) None c d e f g h i j = refl
nested (Some r) (Some a) (Some b) None d e f g h i j = refl
nested (Some r) (Some a) (Some b) (Some c) None e f g h i j = refl
nested (Some r) (Some a) (Some b) (Some c) (Some d) None f g h i j = refl
nested (Some r) (Some a) (Some b) (Some c) (Some d) (Some e) None g h i j = refl
nested (Some r) (Some a) (Some b) (Some c) (Some d) (Some e) (Some f) None h i j = refl
nested (Some r) (Some a) (Some b) (Some c) (Some d) (Some e) (Some f) (Some g) None i j = refl
nested (Some r) (Some a) (Some b) (Some c) (Some d) (Some e) (Some f) (Some g) (Some h) None j = refl
nested (Some r) (Some a) (Some b) (Some c) (Some d) (Some e) (Some f) (Some g) (Some h) (Some i) None = refl
nested (Some r) (Some a) (Some b) (Some c) (Some d) (Some e) (Some f) (Some g) (Some h) (Some i) (Some j) = refl

pub asked_makes : (o : Object) → asked_of o ≡ made_by (with_all o)
unfolding asked_of rule_of place_at blit_number
asked_makes o = nested (option_and_then rule_number (number 14 3 o)) (number 14 4 o) (number 14 5 o) (number 14 6 o) (number 14 7 o) (number 14 8 o) (number 14 9 o) (number 14 10 o) (number 14 11 o) (number 14 12 o) (number 14 13 o)

-- where a step has nothing, there is nothing
pub lacks_rule : (o : Object) → rule_of o ≡ None → asked_of o ≡ None
lacks_rule o e = asked_makes o ∙ ap (λ x. made_by (both (both (both (both (both x (place_at 4 o)) (place_at 6 o)) (place_at 8 o)) (place_at 10 o)) (place_at 12 o))) e

pub lacks_dest : (o : Object) → with_dest o ≡ None → asked_of o ≡ None
lacks_dest o e = asked_makes o ∙ ap (λ x. made_by (both (both (both (both x (place_at 6 o)) (place_at 8 o)) (place_at 10 o)) (place_at 12 o))) e

pub lacks_extent : (o : Object) → with_extent o ≡ None → asked_of o ≡ None
lacks_extent o e = asked_makes o ∙ ap (λ x. made_by (both (both (both x (place_at 8 o)) (place_at 10 o)) (place_at 12 o))) e

pub lacks_source_place : (o : Object) → with_source_place o ≡ None → asked_of o ≡ None
lacks_source_place o e = asked_makes o ∙ ap (λ x. made_by (both (both x (place_at 10 o)) (place_at 12 o))) e

pub lacks_clip : (o : Object) → with_clip o ≡ None → asked_of o ≡ None
lacks_clip o e = asked_makes o ∙ ap (λ x. made_by (both x (place_at 12 o))) e

pub lacks_all : (o : Object) → with_all o ≡ None → asked_of o ≡ None
lacks_all o e = asked_makes o ∙ ap made_by e
