-- Faults that go up, and the places that Damaged tells: those of a disk with the same room.
use Rattle.std.proofs.Common.{◌≡◌, inl, inr, ℕ, ◌*◌, ◌<◌, ◌≤◌, Bool, List, Result, Ok, Err, IfErr, sym, subst, arith}
use Rattle.long_names.specs.Counting.{Rose}
use Rattle.long_names.specs.declared.value.Value.{Value}
use Rattle.loom_host.specs.declared.outside.DiskFault.{DiskFault}
use Rattle.loom_host.specs.declared.outside.DiskFault.TheVariants as fault
use Rattle.work_space.specs.declared.limits.TheConstants.{LAST_END}
use Rattle.disk_objects.specs.declared.rest.DiskRest.{DiskRest}
use Rattle.disk_objects.specs.Calls.{IsFault, IsSlotsFault}
use Rattle.disk_objects.specs.Disk.{disk_room}
use Rattle.disk_objects.specs.Places.{IsReadPlace, IsSlotPlace}
use Rattle.core_view.specs.Counted.{words}
use Rattle.delta_counts.specs.Faults.{IsWordDamage, IsWordsFault, IsFreeFault}

pub err-map : {A E : Type 0} (r : Result A E) {P Q : E → Type 0} → ((e : E) → P e → Q e) → IfErr r P → IfErr r Q
err-map (Ok a) f x = x
err-map (Err e) f x = f e x

rose-earlier : (a b c : ℕ) → a ≤ b → Rose b c → Rose a c
rose-earlier a b c low x = omega arith

-- ---- places

slot-room : (old new : DiskRest) (at : ℕ) → disk_room new ≡ disk_room old → IsSlotPlace new at → IsSlotPlace old at
slot-room old new at room x = record { at = x.at; within = subst (λ (k : ℕ). x.at < 2 * k) room x.within; place_is = x.place_is }

read-room : (old new : DiskRest) (at : ℕ) → disk_room new ≡ disk_room old → IsReadPlace new at → IsReadPlace old at
read-room old new at room (inl x) = inl (slot-room old new at room x)
read-room old new at room (inr x) = inr x

-- ---- a later fault of one name

pub fault-again : (tells : Bool) (first before now : ℕ) (old new : DiskRest) (n m : ℕ) (f : DiskFault) → first ≤ before → disk_room new ≡ disk_room old → n ≡ m
    → IsFault tells before now (IsSlotPlace new) n f → IsFault tells first now (IsSlotPlace old) m f
fault-again tells first before now old new n m (fault.Work count) low room same x = (x.0, rose-earlier first before now low x.1)
fault-again tells first before now old new n m (fault.Full held most) low room same x = x
fault-again tells first before now old new n m (fault.Damaged at about) low room same x = (x.0, slot-room old new at room x.1, subst (λ (k : ℕ). about ≡ k) same x.2)

pub fault-slots : (tells : Bool) (first before now : ℕ) (old new : DiskRest) (n : ℕ) (f : DiskFault) → first ≤ before → disk_room new ≡ disk_room old
    → IsFault tells before now (IsSlotPlace new) n f → IsSlotsFault tells first now old f
fault-slots tells first before now old new n (fault.Work count) low room x = (x.0, rose-earlier first before now low x.1)
fault-slots tells first before now old new n (fault.Full held most) low room x = x
fault-slots tells first before now old new n (fault.Damaged at about) low room x = (x.0, slot-room old new at room x.1)

pub slots-again : (tells : Bool) (first before now : ℕ) (old new : DiskRest) (f : DiskFault) → first ≤ before → disk_room new ≡ disk_room old
    → IsSlotsFault tells before now new f → IsSlotsFault tells first now old f
slots-again tells first before now old new (fault.Work count) low room x = (x.0, rose-earlier first before now low x.1)
slots-again tells first before now old new (fault.Full held most) low room x = x
slots-again tells first before now old new (fault.Damaged at about) low room x = (x.0, slot-room old new at room x.1)

-- ---- of words

pub fault-words : (tells : Bool) (before now : ℕ) (rest : DiskRest) (vs : List Value) (place name n : ℕ) (f : DiskFault) → 0 < words vs n
    → IsFault tells before now (IsSlotPlace rest) n f → IsWordsFault tells before now rest vs place name f
fault-words tells before now rest vs place name n (fault.Work count) some x = x
fault-words tells before now rest vs place name n (fault.Full held most) some x = x
fault-words tells before now rest vs place name n (fault.Damaged at about) some x = (x.0, inl (x.1, subst (λ (k : ℕ). 0 < words vs k) (sym x.2) some))

pub words-again : (tells : Bool) (first before now : ℕ) (old new : DiskRest) (vs all : List Value) (place name : ℕ) (f : DiskFault) → first ≤ before → disk_room new ≡ disk_room old
    → ((q : ℕ) → 0 < words vs q → 0 < words all q) → IsWordsFault tells before now new vs place name f → IsWordsFault tells first now old all place name f
words-again tells first before now old new vs all place name (fault.Work count) low room more x = (x.0, rose-earlier first before now low x.1)
words-again tells first before now old new vs all place name (fault.Full held most) low room more x = x
words-again tells first before now old new vs all place name (fault.Damaged at about) low room more x = (x.0, go x.1)
  where
    go : IsWordDamage new vs place name at about → IsWordDamage old all place name at about
    go (inl d) = inl (slot-room old new at room d.0, more about d.1)
    go (inr d) = inr d

-- ---- of a freeing

pub words-free : (tells : Bool) (first before now : ℕ) (old new : DiskRest) (vs : List Value) (place name : ℕ) (f : DiskFault) → first ≤ before → disk_room new ≡ disk_room old → place ≤ LAST_END
    → IsWordsFault tells before now new vs place name f → IsFreeFault tells first now old f
words-free tells first before now old new vs place name (fault.Work count) low room below x = (x.0, rose-earlier first before now low x.1)
words-free tells first before now old new vs place name (fault.Full held most) low room below x = x
words-free tells first before now old new vs place name (fault.Damaged at about) low room below x = (x.0, go x.1)
  where
    go : IsWordDamage new vs place name at about → IsReadPlace old at
    go (inl d) = inl (slot-room old new at room d.0)
    go (inr d) = inr (subst (λ (k : ℕ). k ≤ LAST_END) (sym d.0) below)

pub fault-free : (tells : Bool) (first before now : ℕ) (old new : DiskRest) (n : ℕ) (f : DiskFault) → first ≤ before → disk_room new ≡ disk_room old
    → IsFault tells before now (IsReadPlace new) n f → IsFreeFault tells first now old f
fault-free tells first before now old new n (fault.Work count) low room x = (x.0, rose-earlier first before now low x.1)
fault-free tells first before now old new n (fault.Full held most) low room x = x
fault-free tells first before now old new n (fault.Damaged at about) low room x = (x.0, read-room old new at room x.1)

pub slots-free : (tells : Bool) (first before now : ℕ) (old new : DiskRest) (f : DiskFault) → first ≤ before → disk_room new ≡ disk_room old
    → IsSlotsFault tells before now new f → IsFreeFault tells first now old f
slots-free tells first before now old new (fault.Work count) low room x = (x.0, rose-earlier first before now low x.1)
slots-free tells first before now old new (fault.Full held most) low room x = x
slots-free tells first before now old new (fault.Damaged at about) low room x = (x.0, inl (slot-room old new at room x.1))

pub free-again : (tells : Bool) (first before now : ℕ) (old new : DiskRest) (f : DiskFault) → first ≤ before → disk_room new ≡ disk_room old
    → IsFreeFault tells before now new f → IsFreeFault tells first now old f
free-again tells first before now old new (fault.Work count) low room x = (x.0, rose-earlier first before now low x.1)
free-again tells first before now old new (fault.Full held most) low room x = x
free-again tells first before now old new (fault.Damaged at about) low room x = (x.0, read-room old new at room x.1)
