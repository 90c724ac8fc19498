-- Bytes that are gathered one after the other, and put when there are enough.
use Rattle.std.proofs.Common.{◌≡◌, List, ℕ, [], ◌++◌, Result, Ok, Err, IsErrAnd, IsTrue, refl, sym, ap, subst, ◌∙◌, append_assoc}
use Rattle.std.specs.Prelude.{OnOk}
use Rattle.std.proofs.lemmas.List.{append-nil}
use Rattle.loom_host.specs.declared.outside.Host.{Ghosts}
use Rattle.loom_host.specs.declared.outside.DiskFault.{DiskFault}
use Rattle.loom_host.specs.declared.outside.DiskFault.TheVariants as disk
use Rattle.loom_host.specs.declared.outside.Role.TheVariants.{Work}
use Rattle.loom_host.specs.Work.{IsWorkRead}
use Rattle.disk_objects.specs.Calls.{IsFault}
use Rattle.image_writer.specs.declared.fault.SaveFault.{SaveFault}
use Rattle.image_writer.specs.declared.fault.SaveFault.TheVariants.{Disk}
use Rattle.image_writer.specs.Puts.{IsDiskFault, IsSaveFault, Puts}
use Rattle.image_writer.specs.Inside.{Gathers}
use Rattle.image_writer.proofs.PutsLaws.{then_puts, stop_puts, untold_puts, puts_of, read_puts, no_puts, exit_read}

-- ---- one step

-- what has room is gathered
pub push_gathers : {H T : Type 0} (host : Ghosts H) (now : H) (before after bytes : List ℕ) (x : T) → after ≡ before ++ bytes → Gathers host now now before after bytes (Ok x)
push_gathers host now before after bytes x e = record {
  done = [];
  left = before ++ bytes;
  all = λ told. refl;
  after_is = sym e;
  puts = no_puts host now x;
}

-- all that was gathered is put
pub flush_gathers : {H T : Type 0} (host : Ghosts H) (old new : H) (before after : List ℕ) (r : Result T SaveFault) → OnOk r (after ≡ []) → Puts host old new before r → Gathers host old new before after [] r
flush_gathers host old new before after r none p = record {
  done = before;
  left = [];
  all = λ told. refl;
  after_is = go r none;
  puts = p;
}
  where
    go : {T : Type 0} (r : Result T SaveFault) → OnOk r (after ≡ []) → OnOk r ([] ≡ after)
    go (Ok x) none = sym none
    go (Err e) none = tt

-- nothing is gathered, and these bytes are put
pub write_gathers : {H T : Type 0} (host : Ghosts H) (old new : H) (before after bytes : List ℕ) (r : Result T SaveFault) → before ≡ [] → after ≡ [] → Puts host old new bytes r → Gathers host old new before after bytes r
write_gathers host old new before after bytes r none empty p = record {
  done = bytes;
  left = [];
  all = λ told. ap (λ (t : List ℕ). t ++ bytes) none ∙ sym (append-nil bytes);
  after_is = go r;
  puts = p;
}
  where
    go : {T : Type 0} (r : Result T SaveFault) → OnOk r ([] ≡ after)
    go (Ok x) = sym empty
    go (Err e) = tt

-- Work is read
pub read_gathers : {H T : Type 0} (host : Ghosts H) (old new : H) (before : List ℕ) (x : T) → IsWorkRead host old new → Gathers host old new before before [] (Ok x)
read_gathers host old new before x read = record {
  done = [];
  left = before;
  all = λ told. append-nil before;
  after_is = refl;
  puts = read_puts host old new x read;
}

pub no_gathers : {H T : Type 0} (host : Ghosts H) (now : H) (before : List ℕ) (x : T) → Gathers host now now before before [] (Ok x)
no_gathers host now before x = record {
  done = [];
  left = before;
  all = λ told. append-nil before;
  after_is = refl;
  puts = no_puts host now x;
}

-- a fault in reading
pub read_stops_gathers : {H U : Type 0} (host : Ghosts H) (old new : H) (before after text : List ℕ) (e : SaveFault) (r : Result U SaveFault) → IsWorkRead host old new → IsSaveFault host old new e → IsErrAnd r (λ f. f ≡ e) → Gathers host old new before after text r
read_stops_gathers host old new before after text e (Ok y) read f is = absurd is
read_stops_gathers {U = U} host old new before after text e (Err g) read f is = record {
  done = [];
  left = before ++ text;
  all = λ told. refl;
  after_is = tt;
  puts = exit_read {U = U} host old new [] e (Err g) read f is;
}

-- a fault of the disk
is_disk_fault : {H : Type 0} (host : Ghosts H) (old new : H) (P : ℕ → Type 0) (name : ℕ) (f : DiskFault) → IsFault (host.tells Work) (host.faults old Work) (host.faults new Work) P name f → IsDiskFault host old new f
is_disk_fault host old new P name (disk.Work count) f = f
is_disk_fault host old new P name (disk.Full held room) f = f
is_disk_fault host old new P name (disk.Damaged place about) f = f.0

pub disk_stops_gathers : {H U : Type 0} (host : Ghosts H) (old new : H) (before after text : List ℕ) (P : ℕ → Type 0) (name : ℕ) (f : DiskFault) (r : Result U SaveFault)
    → IsWorkRead host old new → IsFault (host.tells Work) (host.faults old Work) (host.faults new Work) P name f → IsErrAnd r (λ e. e ≡ Disk f) → Gathers host old new before after text r
disk_stops_gathers host old new before after text P name f r read fault is = read_stops_gathers host old new before after text (Disk f) r read (is_disk_fault host old new P name f fault) is

-- ---- one after the other

pub then_gathers : {H T U : Type 0} (host : Ghosts H) (old mid new : H) (a b c x y : List ℕ) (v : T) (r : Result U SaveFault)
    → Gathers {T = T} host old mid a b x (Ok v) → Gathers host mid new b c y r → Gathers host old new a c (x ++ y) r
then_gathers host old mid new a b c x y v r p q = record {
  done = p.done ++ q.done;
  left = q.left;
  all = λ told.
      sym (append_assoc a x y)
      ∙ ap (λ (t : List ℕ). t ++ y) (p.all told ∙ ap (λ (t : List ℕ). p.done ++ t) p.after_is)
      ∙ append_assoc p.done b y
      ∙ ap (λ (t : List ℕ). p.done ++ t) (q.all told)
      ∙ sym (append_assoc p.done q.done q.left);
  after_is = q.after_is;
  puts = then_puts host old mid new p.done q.done v r p.puts q.puts;
}

-- what broke off gathers no more
pub stop_gathers : {H T U : Type 0} (host : Ghosts H) (old new : H) (a b c x y : List ℕ) (e : SaveFault) (r : Result U SaveFault)
    → Gathers {T = T} host old new a b x (Err e) → IsErrAnd r (λ f. f ≡ e) → Gathers host old new a c (x ++ y) r
stop_gathers host old new a b c x y e (Ok v) p is = absurd is
stop_gathers {U = U} host old new a b c x y e (Err f) p is = record {
  done = p.done;
  left = p.left ++ y;
  all = λ told. sym (append_assoc a x y) ∙ ap (λ (t : List ℕ). t ++ y) (p.all told) ∙ append_assoc p.done p.left y;
  after_is = tt;
  puts = puts_of {T = U} host old new (p.done ++ []) p.done (Err f) (append-nil p.done) (stop_puts host old new p.done [] e (Err f) p.puts is);
}

-- the same text in other words
pub gathers_of : {H T : Type 0} (host : Ghosts H) (old new : H) (before after a b : List ℕ) (r : Result T SaveFault) → a ≡ b → Gathers host old new before after a r → Gathers host old new before after b r
gathers_of host old new before after a b r e p = subst (λ (t : List ℕ). Gathers host old new before after t r) e p

-- where Work isn't told, any text will do
pub untold_gathers : {H T : Type 0} (host : Ghosts H) (old new : H) (before after a b : List ℕ) (r : Result T SaveFault) → (IsTrue (host.tells Work) → a ≡ b) → Gathers host old new before after a r → Gathers host old new before after b r
untold_gathers host old new before after a b r e p = record {
  done = p.done;
  left = p.left;
  all = λ told. ap (λ (t : List ℕ). before ++ t) (sym (e told)) ∙ p.all told;
  after_is = p.after_is;
  puts = p.puts;
}

-- ---- in the end

-- where nothing was gathered before and nothing is afterwards, all was put
pub gathered_puts : {H T : Type 0} (host : Ghosts H) (old new : H) (before text : List ℕ) (r : Result T SaveFault) → before ≡ [] → Gathers host old new before [] text r → Puts host old new text r
gathered_puts host old new before text (Ok x) none p = untold_puts host old new p.done text (Ok x)
    (λ told. sym (ap (λ (t : List ℕ). t ++ text) (sym none) ∙ p.all told ∙ ap (λ (t : List ℕ). p.done ++ t) p.after_is ∙ append-nil p.done)) p.puts
gathered_puts {T = T} host old new before text (Err e) none p = untold_puts host old new (p.done ++ p.left) text (Err e)
    (λ told. sym (ap (λ (t : List ℕ). t ++ text) (sym none) ∙ p.all told))
    (stop_puts {U = T} host old new p.done p.left e (Err e) p.puts refl)
