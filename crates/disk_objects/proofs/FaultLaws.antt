-- Why calls failed, from why the steps inside them did, and the places that Damaged tells.
use Rattle.std.proofs.Common.{◌≡◌, ℕ, ◌<◌, ◌≤◌, inl, inr, cond, Bool, true, false, Option, Some, None, Ok, Err, IfOk, IfErr, IsTrue, refl, sym, ap, subst, arith}
use Rattle.std.specs.Prelude.{nat_le}
use Rattle.std.proofs.lemmas.Bool.Decides.{nat_tests}
use Rattle.loom_host.specs.declared.outside.DiskFault.{DiskFault}
use Rattle.loom_host.specs.declared.outside.DiskFault.TheVariants.{Work, Full, Damaged}
use Rattle.loom_host.specs.declared.outside.Host.{Ghosts}
use Rattle.loom_host.specs.declared.outside.Role.TheVariants.{Work as OfWork}
use Rattle.loom_host.specs.Work.{IsWorkFault}
use Rattle.object_record.specs.Raw.{RawRecord}
use Rattle.work_directory.specs.Directory.{slots_of, found_entry, IsOfName}
use Rattle.work_directory.specs.Table.{Entry, entry_of}
use Rattle.work_directory.specs.Work.{IsCause, IsSlotCause}
use Rattle.work_directory.specs.declared.directory.Found.{Found}
use Rattle.work_directory.specs.declared.directory.Found.TheVariants.{Held, Vacant}
use Rattle.work_directory.specs.Slots.{slot_place}
use Rattle.work_space.specs.Calls.{IsTakeFault}
use Rattle.work_space.specs.declared.limits.TheConstants.{LAST_END}
use Rattle.work_space.specs.declared.space.Space.{Space}
use Rattle.disk_objects.specs.declared.rest.DiskRest.{DiskRest}
use Rattle.disk_objects.specs.declared.rest.HeldSlot.{HeldSlot}
use Rattle.disk_objects.specs.Calls.{IsFault, IsEitherFault, IsSlotsFault}
use Rattle.disk_objects.specs.Disk.{IsSizeClass, record_size}
use Rattle.disk_objects.specs.Inside.{IsStepFault, IsStoreFault, IsPlaced, check_place, held_slot}
use Rattle.disk_objects.specs.Places.{IsReadPlace, IsSlotPlace}
use Rattle.disk_objects.proofs.StoredLaws.{none-is-some}

-- ---- faults that go up

pub cause-slot : {H : Type 0} (host : Ghosts H) (rest : DiskRest) (a b c : H) (name : ℕ) (fault : DiskFault) → host.faults a OfWork ≤ host.faults b OfWork
    → IsCause host b c (slots_of rest.directory) name fault → IsFault (host.tells OfWork) (host.faults a OfWork) (host.faults c OfWork) (IsSlotPlace rest) name fault
cause-slot host rest a b c name (Work count) l f = (f.count_is, let r = f.rose in omega arith)
cause-slot host rest a b c name (Full held room) l f = f
cause-slot host rest a b c name (Damaged place about) l f = (f.0.untold, f.0.slot, f.1)

pub fault-wider : (tells : Bool) (a c : ℕ) (P Q : ℕ → Type 0) (name : ℕ) (fault : DiskFault) → ((p : ℕ) → P p → Q p) → IsFault tells a c P name fault
    → IsFault tells a c Q name fault
fault-wider tells a c P Q name (Work count) wider f = f
fault-wider tells a c P Q name (Full held room) wider f = f
fault-wider tells a c P Q name (Damaged place about) wider f = (f.0, wider place f.1, f.2)

pub fault-weaker : (tells : Bool) (a b c : ℕ) (P Q : ℕ → Type 0) (name : ℕ) (fault : DiskFault) → ((p : ℕ) → P p → Q p) → a ≤ b → IsFault tells b c P name fault
    → IsFault tells a c Q name fault
fault-weaker tells a b c P Q name (Work count) wider l f = (f.0, let r = f.1 in omega arith)
fault-weaker tells a b c P Q name (Full held room) wider l f = f
fault-weaker tells a b c P Q name (Damaged place about) wider l f = (f.0, wider place f.1, f.2)

pub slot-read : (rest : DiskRest) (p : ℕ) → IsSlotPlace rest p → IsReadPlace rest p
slot-read rest p is = inl is

pub same-place : (P : ℕ → Type 0) (p : ℕ) → P p → P p
same-place P p is = is

pub work-fault : (tells : Bool) (a b c : ℕ) (P : ℕ → Type 0) (name : ℕ) (fault : DiskFault) → a ≤ b → IsWorkFault b c fault → IsFault tells a c P name fault
work-fault tells a b c P name (Work count) l f = (f.0, let r = f.1 in omega arith)
work-fault tells a b c P name (Full held room) l f = f
work-fault tells a b c P name (Damaged place about) l f = absurd f

pub damaged-fault : (tells : Bool) (a c : ℕ) (P : ℕ → Type 0) (name place : ℕ) (fault : DiskFault) → fault ≡ Damaged place name → P place → (IsTrue tells → ⊥)
    → IsFault tells a c P name fault
damaged-fault tells a c P name place fault is here untold = subst (IsFault tells a c P name) (sym is) (untold, here, refl)

-- slot `at` of the directory
pub slot-place : (rest : DiskRest) (at : ℕ) → at < slots_of rest.directory → IsSlotPlace rest (slot_place at)
slot-place rest at within = record { at = at; within = within; place_is = refl }

pub slots-fault : {H : Type 0} (host : Ghosts H) (rest : DiskRest) (a b c : H) (i : ℕ) (fault : DiskFault) → i < slots_of rest.directory
    → host.faults a OfWork ≤ host.faults b OfWork → IsSlotCause host b c i fault
    → IsSlotsFault (host.tells OfWork) (host.faults a OfWork) (host.faults c OfWork) rest fault
slots-fault host rest a b c i (Work count) within l f = (f.count_is, let r = f.rose in omega arith)
slots-fault host rest a b c i (Full held room) within l f = f
slots-fault host rest a b c i (Damaged place about) within l f = (f.0, subst (IsSlotPlace rest) (sym f.1) (slot-place rest i within))

-- ---- what a search found

either : {A : Type 0} (P : A → Type 0) (b : Bool) (x y : A) → (b ≡ true → P x) → (b ≡ false → P y) → P (cond b x y)
either P true x y t f = t refl
either P false x y t f = f refl

low : (p : ℕ) → nat_le p LAST_END ≡ true → p ≤ LAST_END
low p is = grind (arith, nat_tests)

high : (p : ℕ) → nat_le p LAST_END ≡ false → LAST_END < p
high p is = grind (arith, nat_tests)

module _ (name : ℕ) where
  -- what holds of the search's end
  pub found-end : (P : Found → Type 0) (found : Found) → P found → IfOk (check_place found name) P
  found-end P (Held at slot) is = either (λ r. IfOk r P) (nat_le slot.place LAST_END) (Ok (Held at slot)) (Err (Damaged (slot_place at) name)) (λ t. is) (λ f. tt)
  found-end P (Vacant at) is = is

  pub found-place : (found : Found) → IfOk (check_place found name) IsPlaced
  found-place (Held at slot) = either (λ r. IfOk r IsPlaced) (nat_le slot.place LAST_END) (Ok (Held at slot)) (Err (Damaged (slot_place at) name)) (λ t. low slot.place t) (λ f. tt)
  found-place (Vacant at) = tt

  pub found-fault : (rest : DiskRest) (tells : Bool) (a c : ℕ) (found : Found) → IsOfName (slots_of rest.directory) name found
      → (IsTrue tells → (e : Entry) → found_entry found ≡ Some e → e.place ≤ LAST_END)
      → IfErr (check_place found name) (IsFault tells a c (IsSlotPlace rest) name)
  found-fault rest tells a c (Held at slot) of right =
      either (λ r. IfErr r (IsFault tells a c (IsSlotPlace rest) name)) (nat_le slot.place LAST_END) (Ok (Held at slot)) (Err (Damaged (slot_place at) name)) (λ t. tt)
      (λ f. ((λ told. let x = high slot.place f in let y = right told (entry_of slot) refl in omega (arith, x, y)), slot-place rest at of.0, refl))
  found-fault rest tells a c (Vacant at) of right = tt

  pub held-entry : (found : Found) (entry : Option Entry) → found_entry found ≡ entry → IfOk (held_slot found name) (λ held. entry ≡ Some (entry_of held.slot))
  held-entry (Held at slot) entry is =
      either (λ r. IfOk r (λ (held : HeldSlot). entry ≡ Some (entry_of held.slot))) (nat_le slot.place LAST_END) (Ok (record { at = at; slot = slot })) (Err (Damaged (slot_place at) name)) (λ t. sym is) (λ f. tt)
  held-entry (Vacant at) entry is = tt

  pub held-place : (found : Found) → IfOk (held_slot found name) (λ held. held.slot.place ≤ LAST_END)
  held-place (Held at slot) =
      either (λ r. IfOk r (λ (held : HeldSlot). held.slot.place ≤ LAST_END)) (nat_le slot.place LAST_END) (Ok (record { at = at; slot = slot })) (Err (Damaged (slot_place at) name)) (λ t. low slot.place t) (λ f. tt)
  held-place (Vacant at) = tt

  pub held-at : (n : ℕ) (found : Found) → IsOfName n name found → IfOk (held_slot found name) (λ held. held.at < n)
  held-at n (Held at slot) of =
      either (λ r. IfOk r (λ (held : HeldSlot). held.at < n)) (nat_le slot.place LAST_END) (Ok (record { at = at; slot = slot })) (Err (Damaged (slot_place at) name)) (λ t. of.0) (λ f. tt)
  held-at n (Vacant at) of = tt

  pub held-end : (P : Found → Type 0) (found : Found) → P found → IfOk (held_slot found name) (λ held. P (Held held.at held.slot))
  held-end P (Held at slot) is =
      either (λ r. IfOk r (λ (held : HeldSlot). P (Held held.at held.slot))) (nat_le slot.place LAST_END) (Ok (record { at = at; slot = slot })) (Err (Damaged (slot_place at) name)) (λ t. is) (λ f. tt)
  held-end P (Vacant at) is = tt

  pub held-fault : (rest : DiskRest) (tells : Bool) (a c : ℕ) (found : Found) → IsOfName (slots_of rest.directory) name found
      → (IsTrue tells → (e : Entry) × (found_entry found ≡ Some e) × (e.place ≤ LAST_END))
      → IfErr (held_slot found name) (IsFault tells a c (IsSlotPlace rest) name)
  held-fault rest tells a c (Held at slot) of right =
      either (λ r. IfErr r (IsFault tells a c (IsSlotPlace rest) name)) (nat_le slot.place LAST_END) (Ok (record { at = at; slot = slot })) (Err (Damaged (slot_place at) name)) (λ t. tt)
      (λ f. ((λ told. let x = high slot.place f in let r = right told in let y = r.2 in let same = ap (λ (o : Option Entry). placed o) r.1 in omega (arith, x, y, same)), slot-place rest at of.0, refl))
    where
      placed : Option Entry → ℕ
      placed None = 0
      placed (Some e) = e.place
  held-fault rest tells a c (Vacant at) of right = ((λ told. let r = right told in none-is-some refl r.1), slot-place rest at of.0, refl)

-- ---- puts

pub store-take : (space : Space) (raw : RawRecord) (c a b : ℕ) (fault : DiskFault) → IsSizeClass c (record_size raw) → IsTakeFault space c a b fault
    → IsStoreFault space raw a b fault
store-take space raw c a b (Work count) is f = f
store-take space raw c a b (Full held room) is f = f
store-take space raw c a b (Damaged place about) is f = (record { class = c; is_class = is; next = f.1 }, f.0)

pub store-sound : (tells : Bool) (a c : ℕ) (rest : DiskRest) (raw : RawRecord) (fault : DiskFault) → (IsTrue tells → IsWorkFault a c fault)
    → IsStoreFault rest.space raw a c fault → IsStepFault tells a c rest raw fault
store-sound tells a c rest raw (Work count) right f = f
store-sound tells a c rest raw (Full held room) right f = f
store-sound tells a c rest raw (Damaged place about) right f = ((λ told. absurd (right told)), inr f)

pub fault-step : (tells : Bool) (a c : ℕ) (rest : DiskRest) (raw : RawRecord) (fault : DiskFault) → IsFault tells a c (IsReadPlace rest) raw.name fault
    → IsStepFault tells a c rest raw fault
fault-step tells a c rest raw (Work count) f = f
fault-step tells a c rest raw (Full held room) f = f
fault-step tells a c rest raw (Damaged place about) f = (f.0, inl (f.1, f.2))

-- ---- of two names

pub either-first : (tells : Bool) (a b c : ℕ) (P Q : ℕ → Type 0) (one two : ℕ) (fault : DiskFault) → ((p : ℕ) → P p → Q p) → a ≤ b → IsFault tells b c P one fault
    → IsEitherFault tells a c Q one two fault
either-first tells a b c P Q one two fault wider l f = inl (fault-weaker tells a b c P Q one fault wider l f)

pub either-second : (tells : Bool) (a b c : ℕ) (P Q : ℕ → Type 0) (one two : ℕ) (fault : DiskFault) → ((p : ℕ) → P p → Q p) → a ≤ b → IsFault tells b c P two fault
    → IsEitherFault tells a c Q one two fault
either-second tells a b c P Q one two fault wider l f = inr (fault-weaker tells a b c P Q two fault wider l f)

pub either-later : (tells : Bool) (a b c : ℕ) (P : ℕ → Type 0) (one two : ℕ) (fault : DiskFault) → a ≤ b → IsEitherFault tells b c P one two fault
    → IsEitherFault tells a c P one two fault
either-later tells a b c P one two fault l (inl f) = inl (fault-weaker tells a b c P P one fault (same-place P) l f)
either-later tells a b c P one two fault l (inr f) = inr (fault-weaker tells a b c P P two fault (same-place P) l f)
