-- What the objects of an image are called by people.
use Rattle.std.specs.Prelude.{ℕ, Bool, false, List, Option, Some, None, option_map}
use Rattle.std.specs.BTreeMap.{get}
use Rattle.std.specs.Ordering.{nat_cmp}
use Rattle.std.specs.Str.{bytes_eq}
use Rattle.st80_objects.specs.declared.labels.Labels.{Labels}

unfoldable pub label_in : Labels → ℕ → Option (List ℕ)
label_in labels n = option_map (λ label. label.items) (get nat_cmp labels.entries n)

abbrev pub is_text : Option (List ℕ) → List ℕ → Bool
is_text None text = false
is_text (Some own) text = bytes_eq own text

abbrev pub is_labelled : Labels → ℕ → List ℕ → Bool
is_labelled labels n text = is_text (label_in labels n) text
