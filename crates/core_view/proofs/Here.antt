-- Marked objects that are in the core, said by a test or by their places.
use Rattle.std.proofs.Common.{◌≡◌, ℕ, true, Option, Some, None, is_some, refl, ap}
use Rattle.object_table.specs.Entries.{is_used, place_of}
use Rattle.core_view.specs.Core.{Core}
use Rattle.core_view.specs.Once.{HasMarksHere}

there : (o : Option ℕ) → is_some o ≡ true → (p : ℕ) × (o ≡ Some p)
there (Some p) is = (p, refl)
there None is = absurd (cc)

pub here-places : (c : Core) (s : ℕ) → HasMarksHere c → is_used (c.entries s).state ≡ true → (c.entries s).flags.marked ≡ true → (p : ℕ) × (place_of (c.entries s).state ≡ Some p)
here-places c s m used marked = there (place_of (c.entries s).state) (m.here s used marked)

pub places-here : (c : Core) → ((s : ℕ) → is_used (c.entries s).state ≡ true → (c.entries s).flags.marked ≡ true → (p : ℕ) × (place_of (c.entries s).state ≡ Some p)) → HasMarksHere c
places-here c here = record { here = λ s used marked. ap is_some (here s used marked).1 }
