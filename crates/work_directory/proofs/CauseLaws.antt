-- Why calls failed, from why the calls inside them did.
use Rattle.std.proofs.Common.{◌≡◌, ℕ, ◌-◌, ◌<◌, ◌≤◌, Option, Some, None, IsTrue, IsSome, IfErr, refl, sym, subst, arith}
use Rattle.loom_host.proofs.WorkLaws.{failed-later}
use Rattle.loom_host.specs.declared.outside.Host.{Ghosts}
use Rattle.loom_host.specs.declared.outside.Role.TheVariants.{Work as OfWork}
use Rattle.loom_host.specs.declared.outside.DiskFault.{DiskFault}
use Rattle.loom_host.specs.declared.outside.DiskFault.TheVariants.{Work, Full, Damaged}
use Rattle.probing.proofs.HomeLaws.{paged_home_of-below}
use Rattle.probing.proofs.TableLaws.{turned-below}
use Rattle.probing.specs.Homes.{paged_home_of}
use Rattle.work_directory.specs.declared.directory.Found.{Found}
use Rattle.work_directory.specs.Inside.{IsLookCause, IsWriteCause, last_slot, search_end}
use Rattle.work_directory.specs.Slots.{bytes_of, slot_place, IsSpelled}
use Rattle.work_directory.specs.Work.{IsDamaged, IsCause, IsSlotCause}
use Rattle.loom_host.specs.Work.{work_of}

-- the slot that a search reads last is one of them
pub last-within : (n name : ℕ) → 0 < n → last_slot n name < n
last-within n name some = turned-below (paged_home_of name n) (n - 1) n (paged_home_of-below name n some) (omega arith)

module _ {H : Type 0} (host : Ghosts H) where
  -- damage at a slot, over a host that doesn't tell Work
  pub damaged-at : (n at place : ℕ) → place ≡ slot_place at → at < n → (IsTrue (host.tells OfWork) → ⊥) → IsDamaged host n place
  damaged-at n at place here within untold = record { untold = untold; slot = record { at = at; within = within; place_is = here } }

  pub damaged-cause : (a c : H) (n at name : ℕ) (fault : DiskFault) → fault ≡ Damaged (slot_place at) name → at < n
      → (IsTrue (host.tells OfWork) → ⊥) → IsCause host a c n name fault
  damaged-cause a c n at name fault is within untold = subst (IsCause host a c n name) (sym is)
      (damaged-at n at (slot_place at) refl within untold, refl)

  pub look-cause : (a b c : H) (n at name : ℕ) (fault : DiskFault) → at < n → host.faults a OfWork ≤ host.faults b OfWork
      → (IsTrue (host.tells OfWork) → IsSpelled (bytes_of (work_of host b) at))
      → IsLookCause host b c at (Some name) fault → IsCause host a c n name fault
  look-cause a b c n at name (Work count) within l spelled f = failed-later host a b c count l f
  look-cause a b c n at name (Full held room) within l spelled f = f
  look-cause a b c n at name (Damaged place about) within l spelled
      f = (damaged-at n at place f.1 within (λ told. f.0 told (spelled told)), f.2)

  pub write-cause : (a b c : H) (e name : ℕ) (fault : DiskFault) → host.faults a OfWork ≤ host.faults b OfWork
      → IsWriteCause host b c fault → IsCause host a c e name fault
  write-cause a b c e name (Work count) l f = failed-later host a b c count l f
  write-cause a b c e name (Full held room) l f = f
  write-cause a b c e name (Damaged place about) l f = absurd f

  -- a cause of a later call
  pub cause-later : (a b c : H) (e name : ℕ) (fault : DiskFault) → host.faults a OfWork ≤ host.faults b OfWork
      → IsCause host b c e name fault → IsCause host a c e name fault
  cause-later a b c e name (Work count) l f = failed-later host a b c count l f
  cause-later a b c e name (Full held room) l f = f
  cause-later a b c e name (Damaged place about) l f = f

  pub slot-cause : (a b : H) (i : ℕ) (fault : DiskFault) → (IsTrue (host.tells OfWork) → IsSpelled (bytes_of (work_of host a) i))
      → IsLookCause host a b i None fault → IsSlotCause host a b i fault
  slot-cause a b i (Work count) spelled f = f
  slot-cause a b i (Full held room) spelled f = f
  slot-cause a b i (Damaged place about) spelled f = ((λ told. f.0 told (spelled told)), f.1)

  -- a search that met no empty slot, over a host that doesn't tell Work
  pub end-cause : (a c : H) (n name : ℕ) (found : Option Found) → 0 < n → (IsTrue (host.tells OfWork) → IsSome found)
      → IfErr (search_end found name n) (IsCause host a c n name)
  end-cause a c n name (Some found) some is = tt
  end-cause a c n name None some is = damaged-cause a c n (last_slot n name) name _ refl (last-within n name some) (λ told. cc (is told))
