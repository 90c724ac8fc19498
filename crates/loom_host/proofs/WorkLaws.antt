-- What calls on Work one after another do with a host, and the faults that go up with them.
-- That Work is told is a premise inside a clause, so a caller owes nothing over a host that tells nothing, and calls compose by
-- `search`. A cause goes up with the call that it stopped. The crates of the work file cite these.
use Rattle.std.proofs.Common.{◌≡◌, ℕ, ◌≤◌, List, Result, Ok, Err, IfErr, sym, ap, ◌∙◌, refl, subst, arith}
use Rattle.std.specs.Result.{IsErrAnd}
use Rattle.loom_host.specs.Outside.{RoleState, holds}
use Rattle.loom_host.specs.Work.{work_of, IsWorkRead, IsWorkWritten, IsWorkOnly, HasFailed, IsWorkFault}
use Rattle.loom_host.specs.declared.outside.DiskFault.{DiskFault}
use Rattle.loom_host.specs.declared.outside.DiskFault.TheVariants as fault
use Rattle.loom_host.specs.declared.outside.Host.{Ghosts}
use Rattle.loom_host.specs.declared.outside.Role.TheVariants.{Work}

-- but for its contents it is as it was
pub holds-its : (old new : RoleState) (left : List ℕ) → new ≡ holds left old → new ≡ holds new.contents old
holds-its old new left is = is ∙ ap (λ k. holds k old) (sym (ap (λ (s : RoleState). s.contents) is))

module _ {H : Type 0} (host : Ghosts H) where
  -- ---- calls that read

  pub read-itself : (h : H) → IsWorkRead host h h
  read-itself h = record { roles = λ r. refl; other_faults = λ r other. refl; later = omega arith; writes = refl }

  pub read-again : (a b c : H) → IsWorkRead host a b → IsWorkRead host b c → IsWorkRead host a c
  read-again a b c x y = record {
    roles = λ r. y.roles r ∙ x.roles r;
    other_faults = λ r other. y.other_faults r other ∙ x.other_faults r other;
    later = let p = x.later in let q = y.later in omega arith;
    writes = y.writes ∙ x.writes;
  }

  -- what a read leaves Work holding
  pub work-same : (a b : H) → IsWorkRead host a b → work_of host b ≡ work_of host a
  work-same a b x = ap (λ (s : RoleState). s.contents) (x.roles Work)

  -- ---- calls that may write

  pub work-read : (a b : H) → IsWorkRead host a b → IsWorkOnly host a b
  work-read a b x = record {
    others = λ r other. x.roles r;
    work = λ told. x.roles Work ∙ ap (λ k. holds k (host.roles a Work)) (sym (ap (λ (s : RoleState). s.contents) (x.roles Work)));
    other_faults = x.other_faults;
    later = x.later;
    writes = let e = x.writes in omega (arith, e);
  }

  pub work-written : (a b : H) → IsWorkWritten host a b → IsWorkOnly host a b
  work-written a b x = record {
    others = x.others;
    work = λ told. let left = x.contents told in holds-its (host.roles a Work) (host.roles b Work) left.0 left.1;
    other_faults = x.other_faults;
    later = x.later;
    writes = let e = x.writes in let most = x.limit in omega (arith, e);
  }

  pub work-again : (a b c : H) → IsWorkOnly host a b → IsWorkOnly host b c → IsWorkOnly host a c
  work-again a b c x y = record {
    others = λ r other. y.others r other ∙ x.others r other;
    work = λ told. y.work told ∙ ap (holds (host.roles c Work).contents) (x.work told);
    other_faults = λ r other. y.other_faults r other ∙ x.other_faults r other;
    later = let p = x.later in let q = y.later in omega arith;
    writes = let p = x.writes in let q = y.writes in omega arith;
  }

  pub work-itself : (h : H) → IsWorkOnly host h h
  work-itself h = work-read h h (read-itself h)

  pub work-read_first : (a b c : H) → IsWorkRead host a b → IsWorkOnly host b c → IsWorkOnly host a c
  work-read_first a b c x y = work-again a b c (work-read a b x) y

  -- ---- faults

  pub failed-later : (a b c : H) (count : ℕ) → host.faults a Work ≤ host.faults b Work → HasFailed host b c count → HasFailed host a c count
  failed-later a b c count l f = record { count_is = f.count_is; rose = let r = f.rose in omega arith }

-- a fault that leaves by a `?`
pub exits : {T : Type 0} (r : Result T DiskFault) (gone : DiskFault) (P : DiskFault → Type 0) → IsErrAnd r (λ y. y ≡ gone) → P gone → IfErr r P
exits (Ok x) gone P e p = absurd e
exits (Err y) gone P e p = subst P (sym e) p

-- a fault of a later call
pub fault-later : (a b c : ℕ) (gone : DiskFault) → a ≤ b → IsWorkFault b c gone → IsWorkFault a c gone
fault-later a b c (fault.Work count) l f = (f.0, let r = f.1 in omega arith)
fault-later a b c (fault.Full held room) l f = absurd f
fault-later a b c (fault.Damaged place name) l f = absurd f
