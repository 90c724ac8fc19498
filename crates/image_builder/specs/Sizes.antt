-- What a builder keeps at every moment.
use Rattle.std.specs.Prelude.{◌≡◌, ℕ, ◌+◌, ◌<◌, length, Some}
use Rattle.std.specs.Ordering.{nat_cmp}
use Rattle.std.specs.BTreeMap.{BTreeMap, get, keys, IsOrdered}
use Rattle.std.specs.Coded.{Π_prop, Unit-prop, le_prop}
use Rattle.std.proofs.lemmas.Map.Keys.{IsStrictlySortedBy-prop}
use Rattle.long_names.specs.declared.limits.TheConstants.{MOST_FIELDS}
use Rattle.long_names.specs.declared.object.Body.{Body}
use Rattle.long_names.specs.declared.object.Body.TheVariants.{Pointers, Words, Bytes, Method}
use Rattle.long_names.specs.declared.object.Object.{Object}

-- an object of pointers, words or bytes has at most 65,535 of them; what a method has is judged
abbrev pub Fits : Body → Type 0
Fits (Pointers values) = length values < MOST_FIELDS + 1
Fits (Words words) = length words < MOST_FIELDS + 1
Fits (Bytes bytes) = length bytes < MOST_FIELDS + 1
Fits (Method header literals code) = Unit {0}

Fits-prop : (body : Body) → IsProp (Fits body)
Fits-prop (Pointers values) = le_prop
Fits-prop (Words words) = le_prop
Fits-prop (Bytes bytes) = le_prop
Fits-prop (Method header literals code) = Unit-prop

-- the objects under their names
pub record IsKept (objects : BTreeMap ℕ Object) : Type 0 where
  pub fits : (n : ℕ) (o : Object) → get nat_cmp objects n ≡ Some o → Fits o.body
  pub ordered : IsOrdered nat_cmp objects

-- it has at most one proof, so that a ghost field may keep it
pub IsKept-prop : (objects : BTreeMap ℕ Object) → IsProp (IsKept objects)
IsKept-prop objects x y i = record {
  fits = Π_prop (λ n. Π_prop (λ o. Π_prop (λ at. Fits-prop o.body))) x.fits y.fits i;
  ordered = IsStrictlySortedBy-prop nat_cmp (keys objects) x.ordered y.ordered i;
}
