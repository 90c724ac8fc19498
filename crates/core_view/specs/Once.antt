-- What a core keeps, in a form that is so in one way at most, so that a type may carry it.
use Rattle.std.specs.Prelude.{◌≡◌, ℕ, Bool, true, Option, is_some}
use Rattle.std.specs.Coded.{le_prop, Coded-set, coded_ℕ, coded_bool, coded_option}
use native.Mathlib.Nat.{ℕ_set}
use Rattle.object_table.specs.Entries.{is_used, place_of}
use Rattle.core_view.specs.Core.{Core}
use Rattle.core_view.specs.Kept.{IsCore, IsTight}

-- Each marked object is in the core: its body is there.
pub record HasMarksHere (c : Core) : Type 0 where
  pub here : (s : ℕ) → is_used (c.entries s).state ≡ true → (c.entries s).flags.marked ≡ true → is_some (place_of (c.entries s).state) ≡ true

-- ---- one proof

place_prop : (x y : Option ℕ) → IsProp (x ≡ y)
place_prop x y = Coded-set (coded_option coded_ℕ) x y

truth_prop : (x y : Bool) → IsProp (x ≡ y)
truth_prop x y = Coded-set coded_bool x y

pub IsCore-prop : (c : Core) → IsProp (IsCore c)
IsCore-prop c a b = λ i. record {
  found = λ s h. place_prop _ _ (a.found s h) (b.found s h) i;
  used = λ n s h. truth_prop _ _ (a.used n s h) (b.used n s h) i;
  named = λ n s h. ℕ_set _ _ (a.named n s h) (b.named n s h) i;
  short = λ s h. truth_prop _ _ (a.short s h) (b.short s h) i;
  within = λ s h. le_prop (a.within s h) (b.within s h) i;
  low = le_prop a.low b.low i;
  owned = λ s p h. ℕ_set _ _ (a.owned s p h) (b.owned s p h) i;
  long = λ s p h. ℕ_set _ _ (a.long s p h) (b.long s p h) i;
  small = λ s p h. le_prop (a.small s p h) (b.small s p h) i;
  classed = λ s p h. truth_prop _ _ (a.classed s p h) (b.classed s p h) i;
  counted = λ s. le_prop (a.counted s) (b.counted s) i;
  free = λ s h. ℕ_set _ _ (a.free s h) (b.free s h) i;
}

pub IsTight-prop : (c : Core) → IsProp (IsTight c)
IsTight-prop c a b = λ i. record { bodies = λ p h. place_prop _ _ (a.bodies p h) (b.bodies p h) i }

pub HasMarksHere-prop : (c : Core) → IsProp (HasMarksHere c)
HasMarksHere-prop c a b = λ i. record { here = λ s u m. truth_prop _ _ (a.here s u m) (b.here s u m) i }
