use Rattle.std.proofs.Common.{ℕ, Option, None, sym, subst}
use Rattle.object_memory.specs.Plain.{plain_told}
use Rattle.bounded_memory.specs.declared.pins.Pin.{Pin}
use Rattle.bounded_memory.specs.Pins.{pin_at}
use Rattle.bounded_memory.specs.Bounded.{IsPinnedAs}
use Rattle.bounded_memory.proofs.bounded.BoundedMemory.new.Goals as goal

pub returns-clause-sound : goal.returns-clause-sound
returns-clause-sound c =
    let h = (plain_told c.args.memory).heap in
    record { pinned = λ i. subst (λ (s : ℕ → Option ℕ). IsPinnedAs h (s i) (pin_at c.new-2.result i)) (sym c.requires.slots) (subst (λ (p : ℕ → Option Pin). IsPinnedAs h None (p i)) (sym c.new-2.ensures) tt) }
