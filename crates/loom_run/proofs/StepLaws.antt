-- What the steps that read an image and save one leave of a host, and why they are refused.
use Rattle.std.proofs.Common.{◌≡◌, ◌≢◌, ℕ, ◌<◌, ◌≤◌, Bool, true, false, List, [], ◌++◌, None, Some, Result, Ok, Err, OnOk, OnErr, IsTrue, inl, inr, refl, sym, ◌∙◌, ap, subst, length, take, drop, take-append-drop, append_assoc, arith}
use Rattle.std.specs.Prelude.{IfErr, is_ok}
use Rattle.std.proofs.Math.Seq.{take-length}
use Rattle.std.specs.Result.{IsErrAnd}
use Rattle.std.proofs.lemmas.Result.{err_from_is_err_and}
use Rattle.long_names.specs.Heap.{Heap}
use Rattle.long_names.specs.Counting.{Rose}
use Rattle.loom_host.specs.declared.outside.DiskFault.{DiskFault}
use Rattle.loom_host.specs.declared.outside.DiskFault.TheVariants as disk
use Rattle.loom_host.specs.declared.outside.Host.{Ghosts}
use Rattle.loom_host.specs.declared.outside.Role.{Role}
use Rattle.loom_host.specs.declared.outside.Role.TheVariants.{Image, Work, Saved}
use Rattle.loom_host.specs.Outside.{IsFresh, PutPrefix, RoleState, SameBut, TookSome, ends, holds, puts, takes}
use Rattle.event_file.specs.Text.{IsBadAt}
use Rattle.image_reader.specs.declared.fault.LoadFault.TheVariants as load
use Rattle.image_reader.specs.Frames.{IsLoading}
use Rattle.image_reader.specs.Loaded.{IsLoadFault, full_of}
use Rattle.image_writer.specs.Puts as writer
use Rattle.loom_run.specs.Ends.{AttachedOnce, JudgesImage, MadeBy, WasBegun, WasRefused, WasWritten, WrittenBy, bytes_of}
use Rattle.loom_run.specs.Meanings.{LeavesBut, meanings}
use Rattle.loom_run.specs.Parts.{status_by_disk}
use Rattle.loom_run.specs.Stages.{Reading, Saving, roles_at}
use Rattle.loom_run.specs.Steps.{IsRefusal, IsSameFile}
use Rattle.loom_words.specs.Words.{Row}
use Rattle.loom_words.specs.declared.status.Status.{Status}
use Rattle.loom_words.specs.declared.status.Status.TheVariants as answer
use Rattle.loom_run.proofs.Frames.{is-role}
use Rattle.loom_run.proofs.UsesLaws.{left-then, never}

rose-from : (a b c : ℕ) → b ≡ a → Rose b c → Rose a c
rose-from a b c same rose = subst (λ n. Rose n c) same rose

-- ---- an image is read: a role is attached, and then it is loaded

module _ {H : Type 0} (host : Ghosts H) (old mid new : H) (states : SameBut Image (host.roles old) (host.roles mid)) (faults : SameBut Image (host.faults old) (host.faults mid)) (later : host.faults old Image ≤ host.faults mid Image) (loading : IsLoading host mid new) where
  pub leaves-reading : LeavesBut (roles_at Reading) (meanings host old) (meanings host new)
  leaves-reading = record {
    others = λ r none. record { state = loading.others r none.0 none.1.0 ∙ states r none.0; faults = loading.other_faults r none.0 none.1.0 ∙ faults r none.0 };
    writes = λ none. absurd (none.1.0 refl);
    later = λ r. elim (is-role r Image) [
      | inl e ↦ rw e (let more = loading.later in omega (arith, later, more))
      | inr away ↦ elim (is-role r Work) [
        | inl e ↦ rw e (let same = faults Work (λ e. cc) in let more = loading.later_work in omega (arith, same, more))
        | inr apart ↦ (let same = faults r away in let more = loading.other_faults r away apart in omega (arith, same, more))
      ]
    ];
  }

  pub file-reading : IsTrue (host.tells Work) → IsSameFile (host.roles old Work) (host.roles new Work)
  file-reading told = loading.work told ∙ ap (λ (s : RoleState). holds (host.roles new Work).contents s) (states Work (λ e. cc))

  -- the bytes of Image are those that were left of it when it was attached
  pub bytes-reading : IsTrue (host.tells Image) → (host.roles mid Image).taken ≡ [] → bytes_of (host.roles new Image) ≡ (host.roles mid Image).left
  bytes-reading told fresh = (loading.image told).whole ∙ ap (λ t. t ++ (host.roles mid Image).left) fresh

  pub bad-reading : (room rule place : ℕ) → IsTrue (host.tells Image) → (host.roles mid Image).taken ≡ [] → IsLoadFault host mid new room (load.Bad rule place) → JudgesImage (host.tells Work) (answer.ImageBad rule place) room (bytes_of (host.roles new Image))
  bad-reading room rule place told fresh h = subst (JudgesImage (host.tells Work) (answer.ImageBad rule place) room) (sym (bytes-reading told fresh)) (h told)

  pub judged-disk : (room : ℕ) (f : DiskFault) → IsTrue (host.tells Image) → (host.roles mid Image).taken ≡ [] → IsLoadFault host mid new room (load.Disk f) → JudgesImage (host.tells Work) (status_by_disk f) room (bytes_of (host.roles new Image))
  judged-disk room (disk.Work count) told fresh h = tt
  judged-disk room (disk.Full held most) told fresh h = (h.0, h.1, subst (λ b. full_of room b ≡ Some held) (sym (bytes-reading told fresh)) (h.2 told))
  judged-disk room (disk.Damaged place name) told fresh h = tt

  pub refused-disk : (row : Row) (room : ℕ) (f : DiskFault) → room ≡ row.room → IsLoadFault host mid new room (load.Disk f) → IsRefusal host.tells (meanings host old) (meanings host new) row Reading (status_by_disk f)
  refused-disk row room (disk.Work count) same h = record { answer = tt; of_run = tt; ran = tt; cause = (h.0, rose-from (host.faults old Work) (host.faults mid Work) (host.faults new Work) (faults Work (λ e. cc)) h.1); whole = λ work damaged. damaged; limits = tt }
  refused-disk row room (disk.Full held most) same h = record { answer = tt; of_run = tt; ran = tt; cause = tt; whole = λ work damaged. damaged; limits = (h.0 ∙ same, subst (λ most. most < held) same h.1) }
  refused-disk row room (disk.Damaged place name) same h = record { answer = tt; of_run = tt; ran = tt; cause = tt; whole = λ work damaged. h work; limits = tt }

  pub refused-read : (row : Row) (room count : ℕ) → IsLoadFault host mid new room (load.Read count) → IsRefusal host.tells (meanings host old) (meanings host new) row Reading (answer.ReadFault Image count)
  refused-read row room count h = record { answer = tt; of_run = λ e. cc; ran = tt; cause = (h.0, (let rose = h.1 in omega (arith, later, rose))); whole = λ work damaged. damaged; limits = tt }

-- ---- an image is saved: a role is attached, and then it is put

module _ {H : Type 0} (host : Ghosts H) (old mid new : H) (states : SameBut Saved (host.roles old) (host.roles mid)) (faults : SameBut Saved (host.faults old) (host.faults mid)) (later : host.faults old Saved ≤ host.faults mid Saved)
    (others : SameBut Saved (host.roles mid) (host.roles new)) (other_faults : (r : Role) → r ≢ Saved → r ≢ Work → host.faults new r ≡ host.faults mid r) (more : host.faults mid Saved ≤ host.faults new Saved) (later_work : host.faults mid Work ≤ host.faults new Work) where
  pub leaves-saving : LeavesBut (roles_at Saving) (meanings host old) (meanings host new)
  leaves-saving = record {
    others = λ r none. record { state = others r none.0 ∙ states r none.0; faults = other_faults r none.0 none.1.0 ∙ faults r none.0 };
    writes = λ none. absurd (none.1.0 refl);
    later = λ r. elim (is-role r Saved) [
      | inl e ↦ rw e (omega (arith, later, more))
      | inr away ↦ elim (is-role r Work) [
        | inl e ↦ rw e (let same = faults Work (λ e. cc) in omega (arith, same, later_work))
        | inr apart ↦ (let same = faults r away in let then = other_faults r away apart in omega (arith, same, then))
      ]
    ];
  }

  pub file-saving : host.roles new Work ≡ host.roles old Work
  file-saving = others Work (λ e. cc) ∙ states Work (λ e. cc)

  pub refused-saving : (row : Row) (f : DiskFault) → writer.IsDiskFault host mid new f → IsRefusal host.tells (meanings host old) (meanings host new) row Saving (status_by_disk f)
  refused-saving row (disk.Work count) h = record { answer = tt; of_run = tt; ran = tt; cause = (h.0, rose-from (host.faults old Work) (host.faults mid Work) (host.faults new Work) (faults Work (λ e. cc)) h.1); whole = λ work damaged. damaged; limits = tt }
  refused-saving row (disk.Full held most) h = absurd h
  refused-saving row (disk.Damaged place name) h = record { answer = tt; of_run = tt; ran = tt; cause = tt; whole = λ work damaged. h work; limits = tt }

  pub refused-put : (row : Row) (count : ℕ) → (count ≡ host.faults new Saved) × Rose (host.faults mid Saved) (host.faults new Saved) → IsRefusal host.tells (meanings host old) (meanings host new) row Saving (answer.WriteFault Saved count)
  refused-put row count h = record { answer = tt; of_run = λ e. cc; ran = tt; cause = (h.0, (let rose = h.1 in omega (arith, later, rose))); whole = λ work damaged. damaged; limits = tt }

-- ---- and then it is ended, or that fails

module _ {H : Type 0} (host : Ghosts H) (old mid new : H) (leaves : LeavesBut (roles_at Saving) (meanings host old) (meanings host mid)) (states : SameBut Saved (host.roles mid) (host.roles new)) (faults : SameBut Saved (host.faults mid) (host.faults new)) where
  pub leaves-ended : host.faults mid Saved ≤ host.faults new Saved → LeavesBut (roles_at Saving) (meanings host old) (meanings host new)
  leaves-ended later = record {
    others = λ r none. left-then r (meanings host old) (meanings host mid) (meanings host new) (leaves.others r none) record { state = states r none.0; faults = faults r none.0 };
    writes = λ none. absurd (none.1.0 refl);
    later = λ r. elim (is-role r Saved) [
      | inl e ↦ rw e (let first = leaves.later Saved in omega (arith, first, later))
      | inr away ↦ (let first = leaves.later r in let same = faults r away in omega (arith, first, same))
    ];
  }

-- an end leaves how often a role was attached, and its name
pub attached-ended : {T E : Type 0} (text : List ℕ) (a b c : RoleState) (r : Result T E) → AttachedOnce text a b → OnOk r (c ≡ ends b) → OnErr r (c ≡ b) → AttachedOnce text a c
attached-ended text a b c (Ok x) once ended still = subst (AttachedOnce text a) (sym ended) record { attaches = once.attaches; name = once.name }
attached-ended text a b c (Err e) once ended still = subst (AttachedOnce text a) (sym still) once

-- ---- a line that is bad

-- all bytes of a role are those that were left when some were taken of it first
pub bytes_taken : (n : ℕ) (mid new : RoleState) → mid.taken ≡ [] → new ≡ takes n mid → bytes_of new ≡ mid.left
bytes_taken n mid new fresh same = ap bytes_of same ∙ append_assoc mid.taken (take n mid.left) (drop n mid.left) ∙ ap (λ t. mid.taken ++ t) (take-append-drop n mid.left) ∙ ap (λ t. t ++ mid.left) fresh

pub bad_taken : (line most : ℕ) (mid new : RoleState) → IsFresh mid → TookSome most mid new → IsBadAt line mid.left → IsBadAt line (bytes_of new)
bad_taken line most mid new fresh took bad = subst (IsBadAt line) (sym (bytes_taken took.0 mid new fresh.taken took.3)) bad

-- ---- what is written behind an attach

pub written-from : (text bytes : List ℕ) (a b c : RoleState) → WasWritten text [] a b → c ≡ puts bytes b → WasWritten text bytes a c
written-from text bytes a b c opened same = record {
  attaches = ap (λ (s : RoleState). s.attaches) same ∙ opened.attaches;
  name = ap (λ (s : RoleState). s.name) same ∙ opened.name;
  put = ap (λ (s : RoleState). s.put) same ∙ ap (λ t. t ++ bytes) opened.put;
  unended = ap (λ (s : RoleState). s.ended) same ∙ opened.unended;
}

pub begun-from : (text bytes : List ℕ) (a b c : RoleState) → WasWritten text [] a b → PutPrefix bytes b c → WasBegun text bytes a c
begun-from text bytes a b c opened part = (part.0, part.1, written-from text (take part.0 bytes) a b c opened part.2)

-- where all was put, and what was to end it failed
pub begun-whole : (text bytes : List ℕ) (a b c : RoleState) → WasWritten text bytes a b → c ≡ b → WasBegun text bytes a c
begun-whole text bytes a b c whole same = (length bytes, omega arith, rw take-length (subst (WasWritten text bytes a) (sym same) whole))

-- and where it was ended too
pub made-by : {T E : Type 0} (text bytes : List ℕ) (a b c : RoleState) (r : Result T E) → WasWritten text bytes a b → OnOk r (c ≡ ends b) → OnErr r (c ≡ b) → MadeBy (is_ok r) text bytes a c
made-by text bytes a b c (Ok x) whole ended still = (b, whole, ended)
made-by text bytes a b c (Err e) whole ended still = inr (begun-whole text bytes a b c whole still)

-- the answer of a `?` is no making
pub not-made : {T E : Type 0} (text bytes : List ℕ) (a b : RoleState) (r : Result T E) (e : E) → IsErrAnd r (λ y. y ≡ e) → WrittenBy false text bytes a b → MadeBy (is_ok r) text bytes a b
not-made text bytes a b r e is left = let q = err_from_is_err_and r is in subst (λ x. MadeBy (is_ok x) text bytes a b) (sym q.1) left

-- the answer of a `?` is no whole writing
pub not-written : {T : Type 0} (text bytes : List ℕ) (a b : RoleState) (r : Result T Status) (e : Status) → IsErrAnd r (λ y. y ≡ e) → WasRefused text a b → WrittenBy (is_ok r) text bytes a b
not-written text bytes a b r e is refused = let q = err_from_is_err_and r is in subst (λ x. WrittenBy (is_ok x) text bytes a b) (sym q.1) (inl refused)

-- the answer of a `?` is the one that was refused
pub refuses : {T : Type 0} (P : Status → Type 0) (r : Result T Status) (e : Status) → IsErrAnd r (λ y. y ≡ e) → P e → IfErr r P
refuses P (Ok x) e is h = tt
refuses P (Err y) e is h = subst P (sym is) h

-- what is so of each refusal is so of this one
pub fails-then : {T : Type 0} (r : Result T Status) (P Q : Status → Type 0) → ((e : Status) → P e → Q e) → IfErr r P → IfErr r Q
fails-then (Ok x) P Q each h = tt
fails-then (Err e) P Q each h = each e h

-- of a heap that is known where something is told
pub some-heap : (told : Bool) (P : Heap → Type 0) → (IsTrue told → (h : Heap) × P h) → (h : Heap) × (IsTrue told → P h)
some-heap true P x = let h = x refl in (h.0, λ told. h.1)
some-heap false P x = (record { at = λ n. None; next = 0 }, λ told. never told)
