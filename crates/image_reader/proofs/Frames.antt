-- Parts of loading, one after the other.
use Rattle.std.proofs.Common.{◌≡◌, ℕ, ◌<◌, ◌≤◌, List, Result, Ok, Err, IsErrAnd, refl, sym, ap, subst, ◌∙◌, arith}
use Rattle.long_names.specs.Counting.{Rose}
use Rattle.loom_host.specs.declared.outside.DiskFault.{DiskFault}
use Rattle.loom_host.specs.declared.outside.DiskFault.TheVariants as disk
use Rattle.loom_host.specs.declared.outside.Host.{Ghosts}
use Rattle.loom_host.specs.declared.outside.Role.TheVariants.{Image, Work}
use Rattle.std.specs.Prelude.{IfErr}
use Rattle.loom_host.specs.Outside.{RoleState, holds}
use Rattle.loom_host.specs.Work.{IsWorkOnly, IsWorkRead}
use Rattle.disk_objects.specs.declared.rest.DiskRest.{DiskRest}
use Rattle.disk_objects.specs.Calls.{IsPutFault}
use Rattle.disk_objects.specs.Disk.{disk_held, disk_room}
use Rattle.object_record.specs.Raw.{RawRecord}
use Rattle.image_reader.specs.declared.fault.LoadFault.{LoadFault}
use Rattle.image_reader.specs.declared.fault.LoadFault.TheVariants.{Bad, Read, Disk, Memory}
use Rattle.image_reader.specs.Frames.{IsLoading, IsPartFault, ReadsImage}
use Rattle.image_reader.specs.Inside.{IsFillFault, IsRuleFault}
use Rattle.image_reader.specs.Window.{OnlyRead}

-- ---- one role

same_held : (s t : RoleState) → t ≡ s → t ≡ holds t.contents s
same_held s t e = subst (λ (u : RoleState). u ≡ holds u.contents s) (sym e) refl

same_read : (s t : RoleState) → t ≡ s → OnlyRead s t
same_read s t e = subst (λ (u : RoleState). OnlyRead s u) (sym e) (record { attaches = refl; name = refl; put = refl; contents = refl; whole = refl })

then_read : (s t u : RoleState) → OnlyRead s t → OnlyRead t u → OnlyRead s u
then_read s t u p q = record { attaches = q.attaches ∙ p.attaches; name = q.name ∙ p.name; put = q.put ∙ p.put; contents = q.contents ∙ p.contents; whole = q.whole ∙ p.whole }

holds_again : (s : RoleState) (a b : List ℕ) → holds b (holds a s) ≡ holds b s
holds_again s a b = refl

then_held : (s t u : RoleState) → t ≡ holds t.contents s → u ≡ holds u.contents t → u ≡ holds u.contents s
then_held s t u p q = q ∙ ap (λ (x : RoleState). holds u.contents x) p ∙ holds_again s t.contents u.contents

-- ---- parts

pub reads_none : {H : Type 0} (host : Ghosts H) (now : H) → ReadsImage host now now
reads_none host now = record {
  others = λ r other. refl;
  image = λ told. same_read (host.roles now Image) (host.roles now Image) refl;
  other_faults = λ r other. refl;
  later = omega arith;
  writes = refl;
}

pub reads_then : {H : Type 0} (host : Ghosts H) (old mid new : H) → ReadsImage host old mid → ReadsImage host mid new → ReadsImage host old new
reads_then host old mid new p q = record {
  others = λ r other. q.others r other ∙ p.others r other;
  image = λ told. then_read (host.roles old Image) (host.roles mid Image) (host.roles new Image) (p.image told) (q.image told);
  other_faults = λ r other. q.other_faults r other ∙ p.other_faults r other;
  later = omega (arith, p.later, q.later);
  writes = q.writes ∙ p.writes;
}

pub reads_loading : {H : Type 0} (host : Ghosts H) (old new : H) → ReadsImage host old new → IsLoading host old new
reads_loading host old new p =
    let work = p.others Work (λ e. cc) in
    let faults = p.other_faults Work (λ e. cc) in
    record {
      others = λ r i w. p.others r i;
      image = p.image;
      work = λ told. same_held (host.roles old Work) (host.roles new Work) work;
      other_faults = λ r i w. p.other_faults r i;
      later = p.later;
      later_work = omega (arith, faults);
      writes = omega (arith, p.writes);
    }

pub work_loading : {H : Type 0} (host : Ghosts H) (old new : H) → IsWorkOnly host old new → IsLoading host old new
work_loading host old new p =
    let image = p.others Image (λ e. cc) in
    let faults = p.other_faults Image (λ e. cc) in
    record {
      others = λ r i w. p.others r w;
      image = λ told. same_read (host.roles old Image) (host.roles new Image) image;
      work = p.work;
      other_faults = λ r i w. p.other_faults r w;
      later = omega (arith, faults);
      later_work = p.later;
      writes = p.writes;
    }

pub look_loading : {H : Type 0} (host : Ghosts H) (old new : H) → IsWorkRead host old new → IsLoading host old new
look_loading host old new p =
    let faults = p.other_faults Image (λ e. cc) in
    record {
      others = λ r i w. p.roles r;
      image = λ told. same_read (host.roles old Image) (host.roles new Image) (p.roles Image);
      work = λ told. same_held (host.roles old Work) (host.roles new Work) (p.roles Work);
      other_faults = λ r i w. p.other_faults r w;
      later = omega (arith, faults);
      later_work = p.later;
      writes = omega (arith, p.writes);
    }

pub loading_none : {H : Type 0} (host : Ghosts H) (now : H) → IsLoading host now now
loading_none host now = reads_loading host now now (reads_none host now)

pub loading_then : {H : Type 0} (host : Ghosts H) (old mid new : H) → IsLoading host old mid → IsLoading host mid new → IsLoading host old new
loading_then host old mid new p q = record {
  others = λ r i w. q.others r i w ∙ p.others r i w;
  image = λ told. then_read (host.roles old Image) (host.roles mid Image) (host.roles new Image) (p.image told) (q.image told);
  work = λ told. then_held (host.roles old Work) (host.roles mid Work) (host.roles new Work) (p.work told) (q.work told);
  other_faults = λ r i w. q.other_faults r i w ∙ p.other_faults r i w;
  later = omega (arith, p.later, q.later);
  later_work = omega (arith, p.later_work, q.later_work);
  writes = omega (arith, p.writes, q.writes);
}

-- ---- faults

rose_later : (a b c : ℕ) → a ≤ b → Rose b c → Rose a c
rose_later a b c le rose = omega (arith, le, rose)

-- a fault of a later part
pub fault_later : {H : Type 0} (host : Ghosts H) (old mid new : H) (e : LoadFault) → IsLoading host old mid → IsPartFault host mid new e → IsPartFault host old new e
fault_later host old mid new (Bad rule place) p f = tt
fault_later host old mid new (Read count) p f = (f.0, rose_later _ _ _ p.later f.1)
fault_later host old mid new (Disk (disk.Work count)) p f = (f.0, rose_later _ _ _ p.later_work f.1)
fault_later host old mid new (Disk (disk.Full held room)) p f = f
fault_later host old mid new (Disk (disk.Damaged place name)) p f = f
fault_later host old mid new Memory p f = tt

pub fill_fault : {H : Type 0} (host : Ghosts H) (old new : H) (e : LoadFault) → IsFillFault host old new e → IsPartFault host old new e
fill_fault host old new (Bad rule place) f = tt
fill_fault host old new (Read count) f = f
fill_fault host old new (Disk d) f = absurd f
fill_fault host old new Memory f = tt

pub rule_fault : {H : Type 0} (host : Ghosts H) (old new : H) (e : LoadFault) → IsRuleFault e → IsPartFault host old new e
rule_fault host old new (Bad rule place) f = tt
rule_fault host old new (Read count) f = absurd f
rule_fault host old new (Disk d) f = absurd f
rule_fault host old new Memory f = tt

-- a disk with room isn't full
pub put_fault : {H : Type 0} (host : Ghosts H) (old new : H) (rest after : DiskRest) (raw : RawRecord) (d : DiskFault) → disk_held rest < disk_room rest → IsPutFault host old new rest after raw d → IsPartFault host old new (Disk d)
put_fault host old new rest after raw (disk.Work count) room f = f
put_fault host old new rest after raw (disk.Full held most) room f = let all = f.all in absurd (let no : ⊥ = omega (arith, all, room) in no)
put_fault host old new rest after raw (disk.Damaged place about) room f = f.0

-- what leaves by `?` is the same fault
pub leaves : {T E : Type 0} (P : E → Type 0) (r : Result T E) (e : E) → IsErrAnd r (λ f. f ≡ e) → P e → IfErr r P
leaves P (Ok x) e is p = tt
leaves P (Err g) e is p = subst P (sym is) p

pub each_fault : {T : Type 0} (P Q : LoadFault → Type 0) (r : Result T LoadFault) → ((e : LoadFault) → P e → Q e) → IfErr r P → IfErr r Q
each_fault P Q (Ok x) more p = tt
each_fault P Q (Err e) more p = more e p
