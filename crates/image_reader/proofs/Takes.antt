-- One record, from the window to the disk.
use Rattle.std.proofs.Common.{subst, ◌≡◌, ℕ, ◌+◌, ◌<◌, ◌≤◌, ◌⊎◌, inl, inr, List, [], ◌++◌, length, Result, Ok, IsTrue, refl, sym, ap, ◌∙◌, length-append, arith}
use Rattle.std.specs.FinMap as map
use Rattle.long_names.specs.Objects.{IsRecord}
use Rattle.long_names.specs.declared.limits.TheConstants.{LONGEST_RECORD}
use Rattle.long_names.specs.declared.object.Rec.{Rec}
use Rattle.loom_host.specs.declared.outside.Host.{Ghosts}
use Rattle.loom_host.specs.declared.outside.Role.TheVariants.{Image, Work}
use Rattle.loom_host.specs.Outside.{RoleState}
use Rattle.loom_host.specs.Work.{IsWorkOnly, work_of}
use Rattle.object_record.specs.Buffer.{raw_of}
use Rattle.disk_objects.specs.declared.rest.DiskRest.{DiskRest}
use Rattle.disk_objects.specs.Disk.{IsDisk, Objects, disk_held, object_of}
use Rattle.disk_objects.specs.Function.{PutsObject}
use Rattle.image_format.specs.declared.fault.Halt.{Halt}
use Rattle.image_format.specs.Rules.{next_record_at}
use Rattle.image_reader.specs.Frames.{ReadsImage}
use Rattle.image_format.specs.declared.reading.RecMeasure.{RecMeasure}
use Rattle.image_reader.specs.Inside.{IsTaken, TakesRecord}
use Rattle.image_reader.specs.Window.{AreBytes, Ahead, EndsTruly, unused, file_end}
use Rattle.image_reader.proofs.ByteLaws.{bytes-before}
use Rattle.image_reader.proofs.Next.{next_more}
use Rattle.image_reader.proofs.Stored.{still_stored, stored_more}

-- Image as it was before a call on Work
pub same_left : {H : Type 0} (host : Ghosts H) (mid new : H) → IsWorkOnly host mid new → (host.roles new Image).left ≡ (host.roles mid Image).left
same_left host mid new p = ap (λ (s : RoleState). s.left) (p.others Image (λ e. cc))

pub ends_still : {H : Type 0} (host : Ghosts H) (mid new : H) (f v : Ahead) → IsWorkOnly host mid new → v.ended ≡ f.ended → EndsTruly f (host.roles mid Image) → EndsTruly v (host.roles new Image)
ends_still host mid new f v p same ends = λ e. same_left host mid new p ∙ ends (sym same ∙ e)

-- the end of the file stays where it is
end_same : (f v w : Ahead) (left after before : List ℕ) → after ≡ left → v.place + length v.bytes ≡ f.place + length f.bytes → f.place ≡ w.place → f.bytes ++ left ≡ w.bytes ++ before → file_end v after ≡ file_end w before
end_same f v w left after before same end place rest =
    let a = length-append v.bytes after in
    let b = length-append f.bytes left in
    let c = ap length rest in
    let d = ap length same in
    omega (arith, a, b, c, d, end, place)

pub takes_record : {H : Type 0} (host : Ghosts H) (old mid new : H) (rest between after : DiskRest) (w f v : Ahead) (last next : ℕ) (buf : List ℕ) (m : RecMeasure)
    → ReadsImage host old mid → between ≡ rest
    → (IsTrue (host.tells Image) → unused f (host.roles mid Image) ≡ unused w (host.roles old Image)) → f.place ≡ w.place → AreBytes f.bytes
    → IsTaken last next f.bytes v.bytes buf m
    → v.place + length v.bytes ≡ f.place + length f.bytes → v.place ≤ f.place + LONGEST_RECORD
    → IsWorkOnly host mid new
    → (IsTrue (host.tells Work) → PutsObject host mid new between after (raw_of buf) m.count)
    → (IsTrue (host.tells Work) → (objects : Objects) (pending : List ℕ) → IsDisk between (work_of host mid) objects pending → IsDisk after (work_of host new) (map.insert objects (raw_of buf).name (object_of (raw_of buf) m.count)) pending)
    → (disk_held after ≡ disk_held between) ⊎ (disk_held after ≡ disk_held between + 1)
    → TakesRecord host old new rest after w v last next m.name m.count
takes_record host old mid new rest between after w f v last next buf m reads same unread place range taken end near work puts disk held =
    let r = taken.rec in
    let raw = raw_of buf in
    record {
      rec = r;
      is = taken.is.0;
      named = taken.named;
      stated = taken.stated;
      above = taken.is.1;
      below = taken.is.2;
      read = λ told.
          ap (next_record_at last next) (sym (unread told))
          ∙ next_more last next f.bytes (host.roles mid Image).left (r, v.bytes) taken.read
          ∙ ap (λ (l : List ℕ). let x : Result (Rec × List ℕ) Halt = Ok (r, v.bytes ++ l) in x) (sym (same_left host mid new work));
      end = λ told. end_same f v w (host.roles mid Image).left (host.roles new Image).left (host.roles old Image).left (same_left host mid new work) end place (unread told);
      bytes = λ told behind. bytes-before f.bytes v.bytes (host.roles mid Image).left (unused w (host.roles old Image)) (unread told) range (subst (λ (l : List ℕ). AreBytes (v.bytes ++ l)) (same_left host mid new work) behind);
      near = omega (arith, near, place);
      stored = λ told recs none s.
          let t = still_stored host old mid rest between recs (reads.others Work (λ e. cc)) same s in
          let put : PutsObject host mid new between after raw r.count = subst (λ (c : ℕ). PutsObject host mid new between after raw c) taken.stated (puts told) in
          let on_disk : IsDisk after (work_of host new) (map.insert t.objects raw.name (object_of raw r.count)) [] = subst (λ (c : ℕ). IsDisk after (work_of host new) (map.insert t.objects raw.name (object_of raw c)) []) taken.stated (disk told t.objects [] t.is) in
          stored_more host mid new between after recs r raw t taken.is.0 taken.buffer.1 none put on_disk;
      held =
          let h : disk_held between ≡ disk_held rest = ap (λ (d : DiskRest). disk_held d) same in
          elim held [
            | inl e ↦ omega (arith, e, h)
            | inr e ↦ omega (arith, e, h)
          ];
    }
