-- What a memory promises of its core and of Work.
use Rattle.std.proofs.Common.{◌≡◌, ◌<◌, refl, subst, arith, Option, Some, None, Result, Ok, Err}
use Rattle.std.specs.Prelude.{IsOk}
use Rattle.long_names.specs.Access.{Access, Answer}
use Rattle.long_names.specs.Need.{Fits}
use Rattle.object_memory.specs.declared.fault.MemFault.{MemFault}
use Rattle.object_memory.specs.declared.fault.MemFault.TheVariants.{CoreFull, WorkFull, WorkFault, Damaged, NamesSpent, Said, Memory}
use Rattle.object_memory.specs.Told.{Told, Bounds}
use Rattle.object_memory.specs.Contract.{Accessed, Does, ForBounds, HasCause, IsLater, Lives, NoBounds, SameBounds}
use Rattle.loom_memory.specs.Own.{IsAmple}

-- ---- an access that has all that it asks for

-- the bounds are told still, with the same limits
same-limits : (a b : Option Bounds) (x : Bounds) → a ≡ Some x → SameBounds a b → (y : Bounds) × (b ≡ Some y) × (y.core ≡ x.core) × (y.entries ≡ x.entries) × (y.room ≡ x.room)
same-limits a None x is same = absurd (subst (λ (z : Option Bounds). SameBounds z None) is same)
same-limits a (Some y) x is same = let all = subst (λ (z : Option Bounds). SameBounds z (Some y)) is same in (y, refl, all.0, all.1, all.2)

no-cause : (old new : Told) (a : Access) (f : MemFault) → IsAmple old new a → IsLater old new → HasCause old new (Does a) f → ⊥
no-cause old new a (CoreFull need) ample later cause =
    let now = same-limits old.bounds new.bounds ample.limits ample.bounds later.bounds in
    let out = subst (λ (z : Option Bounds). ForBounds z (λ b. Fits b.core b.entries need.words need.entries → ⊥)) now.1 cause.0 in
    let fits = ample.fits need (cause.1 ample.told) in
    out (record { words = (let most = fits.words in let same = now.2 in omega (arith, most, same)); leaves = (let most = fits.leaves in let same = now.3 in omega (arith, most, same)) })
no-cause old new a (WorkFull live room) ample later cause =
    let now = same-limits old.bounds new.bounds ample.limits ample.bounds later.bounds in
    let past = subst (λ (z : Option Bounds). ForBounds z (λ b. (b.room ≡ room) × (room < live))) now.1 cause.0 in
    let lives = subst (λ (z : Option Bounds). ForBounds z (λ b. Lives old b live)) ample.bounds cause.1 in
    let most = ample.room cause.2 live lives in
    let same = now.4 in
    let is = past.0 in
    let over = past.1 in
    absurd (omega (arith, most, same, is, over))
no-cause old new a (WorkFault count) ample later cause = ample.work cause.1
no-cause old new a (Damaged place name) ample later cause = cause ample.told
no-cause old new a NamesSpent ample later cause = let low = ample.name cause.0 in let high = cause.1 ample.told in absurd (omega (arith, low, high))
no-cause old new a (Said count) ample later cause = ample.said cause.1
no-cause old new a Memory ample later cause = let now = same-limits old.bounds new.bounds ample.limits ample.bounds later.bounds in subst NoBounds now.1 cause.0

pub ample-answered : {A : Type 0} (old new : Told) (a : Access) (spell : A → Answer) (r : Result A MemFault) → IsAmple old new a → Accessed old new a spell r → IsOk r
ample-answered {A} old new a spell (Ok x) ample done = refl
ample-answered {A} old new a spell (Err f) ample done = absurd (no-cause old new a f ample done.called.later done.called.err.cause)
