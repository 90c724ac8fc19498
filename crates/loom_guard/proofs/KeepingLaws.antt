-- What a leg left on a disk is the image that the next leg begins with, and why none was kept.
use Rattle.std.proofs.Common.{◌≡◌, ℕ, ◌≤◌, Bool, true, false, cond, List, [], Option, Some, is_some, IsTrue, inl, inr, refl, sym, ◌∙◌, ap, subst, arith}
use Rattle.std.specs.Prelude.{◌%◌, IfSome, None}
use Rattle.long_names.specs.Heap.{Heap, Has, IsBounded, count_of}
use Rattle.long_names.specs.declared.object.Object.{Object}
use Rattle.long_names.specs.Kept.{kept, no_roots}
use Rattle.loom_host.specs.declared.outside.Host.{Ghosts}
use Rattle.loom_host.specs.declared.outside.Role.{Role}
use Rattle.loom_host.specs.declared.outside.Role.TheVariants.{Image, Events, Work, Saved, Display, Transcript, Notes}
use Rattle.loom_host.specs.declared.outside.DiskFault.TheVariants as disk
use Rattle.loom_host.specs.Work.{IsWorkRead, work_of}
use Rattle.image_format.specs.declared.opening.State.{State as Words}
use Rattle.image_format.specs.Rules.{IsStateWord}
use Rattle.image_format.specs.Valid.{IsImageHeap}
use Rattle.disk_objects.specs.declared.rest.DiskRest.{DiskRest}
use Rattle.disk_objects.specs.Disk.{IsDisk, Objects}
use Rattle.disk_objects.specs.Function.{disk_of}
use Rattle.image_writer.specs.Saved.{IsExact, disk_heap, kept_state, kept_word, saved_text}
use Rattle.image_writer.proofs.DiskFacts.{same_counts, same_disk}
use Rattle.image_reader.specs.declared.loading.Loaded.{Loaded}
use Rattle.image_reader.specs.Loaded.{IsLoadedHeap, heap_on}
use Rattle.image_memory.specs.Image.{HasEnded, HasImage, IsStateOf}
use Rattle.image_memory.proofs.EndLaws.{ended-exact, ended-heap, ended-stays}
use Rattle.machine_run.specs.States.{model_state, state_left}
use Rattle.checkpoint.specs.Faults.{IsKeepFault, LeavesLast}
use Rattle.checkpoint.specs.Keeping.{HasEither, HasSame, IsLast, serial_of}
use Rattle.checkpoint.specs.Layout.{found, image_in}
use Rattle.checkpoint.specs.Vault.{Throughout, VaultState, contents_of}
use Rattle.checkpoint.specs.declared.point.Point.{Point}
use Rattle.checkpoint.proofs.MomentLaws.{throughout-still}
use Rattle.checkpoint.specs.declared.fault.VaultFault.{VaultFault as Fault}
use Rattle.checkpoint.specs.declared.fault.VaultFault.TheVariants as fault
use Rattle.loom_words.specs.declared.status.Status.{Status}
use Rattle.loom_run.specs.Meanings.{Meanings, meanings}
use Rattle.loom_run.proofs.EndsLaws.{cause-since}
use Rattle.loom_guard.specs.Turns.{IsKeepRefusal, LeavesChecked, status_by_vault}
use Rattle.loom_guard.specs.Vaults.{KeepsLast}
use Rattle.loom_guard.proofs.VaultLaws.{has-last}

-- ---- the image on the disk

module _ {H : Type 0} (host : Ghosts H) (now : H) (rest : DiskRest) (next : ℕ) (left : Heap) (ended : HasEnded host now rest next left) where
  pub left-same : heap_on host now rest next ≡ kept left no_roots
  left-same = ended-heap host now rest next left ended

  -- the state that is kept is what the kept objects leave of it
  pub left-state : (s : Words) → model_state (kept_state (disk_of host now rest) s) ≡ state_left (kept left no_roots) (model_state s)
  left-state s = ap (λ (h : Heap). state_left h (model_state s)) left-same

  module _ (is : IsImageHeap (kept left no_roots)) where
    left-image : IsImageHeap (heap_on host now rest next)
    left-image = subst IsImageHeap (sym left-same) is

    left-loaded : IsLoadedHeap host now rest next
    left-loaded = record { is = left-image; counts = (ended-exact host now rest next left ended).counts }

    word : (n : ℕ) → IsStateWord (heap_on host now rest next) (kept_word (disk_of host now rest) n)
    word n = go (is_some (disk_of host now rest n)) refl
      where
        go : (b : Bool) → is_some (disk_of host now rest n) ≡ b → IsStateWord (heap_on host now rest next) (cond b n 0)
        go true e = inr e
        go false e = inl refl

    tick : (n ticks : ℕ) → kept_word (disk_of host now rest) n ≡ 0 → cond (is_some (disk_of host now rest n)) ticks 0 ≡ 0
    tick n ticks none = go (is_some (disk_of host now rest n)) refl none
      where
        go : (b : Bool) → is_some (disk_of host now rest n) ≡ b → cond b n 0 ≡ 0 → cond b ticks 0 ≡ 0
        go false e none = refl
        go true e none = absurd (let above = (left-image.names n e).above in omega (arith, none, above))

    left-words : (s : Words) → IsStateOf (heap_on host now rest next) (kept_state (disk_of host now rest) s)
    left-words s = record { display = word s.display; input = word s.input; timer = word s.timer; tick = tick s.timer s.tick }

    pub left-idle : (objects : Objects) × IsDisk rest (work_of host now) objects []
    left-idle = (ended.left.at.objects, ended.left.at.disk)

-- a disk that was taken apart and joined again
pub ended-again : {H : Type 0} (host : Ghosts H) (old now : H) (rest again : DiskRest) (next : ℕ) (left : Heap) → now ≡ old → again ≡ rest → HasEnded host old rest next left → HasEnded host now again next left
ended-again {H} host old now rest again next left same still ended = subst (λ (h : H). HasEnded host h again next left) (sym same) (subst (λ (r : DiskRest). HasEnded host old r next left) (sym still) ended)

pub stops-again : {H : Type 0} (host : Ghosts H) (old now : H) (rest again : DiskRest) (next serial : ℕ) (state : Words) (before after : VaultState) → now ≡ old → again ≡ rest
    → Throughout before after (HasEither (contents_of before) serial (λ text. IsTrue (host.tells Work) → text ≡ saved_text (disk_heap host now again next) state))
    → Throughout before after (HasEither (contents_of before) serial (λ text. IsTrue (host.tells Work) → text ≡ saved_text (disk_heap host old rest next) state))
stops-again {H} host old now rest again next serial state before after same still stops =
    subst (λ (h : H). Throughout before after (HasEither (contents_of before) serial (λ text. IsTrue (host.tells Work) → text ≡ saved_text (disk_heap host h rest next) state))) same
    (subst (λ (r : DiskRest). Throughout before after (HasEither (contents_of before) serial (λ text. IsTrue (host.tells Work) → text ≡ saved_text (disk_heap host now r next) state))) still stops)

pub kept-image : {H : Type 0} (host : Ghosts H) (old now : H) (rest after : DiskRest) (next : ℕ) (s : Words) (x : Loaded) → next % 2 ≡ 0 → x.next ≡ next → (IsTrue (host.tells Work) → x.state ≡ kept_state (disk_of host old rest) s)
    → IsWorkRead host old now → after ≡ rest → (IsTrue (host.tells Work) → (left : Heap) × HasEnded host old rest next left × IsImageHeap (kept left no_roots)) → HasImage host now after x
kept-image host old now rest after next s x even named state read same ended = record {
  even = subst (λ n. n % 2 ≡ 0) (sym named) even;
  heap = λ work. (let e = ended work in subst (λ n. IsLoadedHeap host now after n) (sym named) (left-loaded host now after next e.0 (there work) e.2));
  idle = λ work. (let e = ended work in left-idle host now after next e.0 (there work) e.2);
  state = λ work. (let e = ended work in
      subst (λ n. IsStateOf (heap_on host now after n) x.state) (sym named)
      (subst (λ (w : Words). IsStateOf (heap_on host now after next) w) (sym (words work)) (left-words host now after next e.0 (there work) e.2 s)));
} where
  there : (work : IsTrue (host.tells Work)) → HasEnded host now after next (ended work).0
  there work = ended-stays host old now rest after next (ended work).0 (read.roles Work) same (ended work).1

  -- the disk is read alike at both moments
  words : (work : IsTrue (host.tells Work)) → x.state ≡ kept_state (disk_of host now after) s
  words work =
      let e = ended work in
      let heaps : heap_on host old rest next ≡ heap_on host now after next = left-same host old rest next e.0 e.1 ∙ sym (left-same host now after next e.0 (there work)) in
      state work ∙ ap (λ (h : Heap). kept_state h.at s) heaps

-- and as the model has it: this heap, with this state
pub kept-heap : {H : Type 0} (host : Ghosts H) (old now : H) (rest after : DiskRest) (next : ℕ) (s : Words) (x : Loaded) (left : Heap) → x.next ≡ next → x.state ≡ kept_state (disk_of host old rest) s
    → IsWorkRead host old now → after ≡ rest → HasEnded host old rest next left → (heap_on host now after x.next ≡ kept left no_roots) × (model_state x.state ≡ state_left (kept left no_roots) (model_state s))
kept-heap host old now rest after next s x left named state read same ended = (
  ap (heap_on host now after) named ∙ left-same host now after next left (ended-stays host old now rest after next left (read.roles Work) same ended),
  ap model_state state ∙ left-state host old rest next left ended s,
)

-- ---- why none was kept

pub later-read : {H : Type 0} (host : Ghosts H) (old now : H) → IsWorkRead host old now → (role : Role) → host.faults old role ≤ host.faults now role
later-read host old now read = later
  where
    stays : (role : Role) → host.faults now role ≡ host.faults old role → host.faults old role ≤ host.faults now role
    stays role e = omega (arith, e)

    later : (role : Role) → host.faults old role ≤ host.faults now role
    later Image = stays Image (read.other_faults Image (λ e. cc))
    later Events = stays Events (read.other_faults Events (λ e. cc))
    later Work = read.later
    later Saved = stays Saved (read.other_faults Saved (λ e. cc))
    later Display = stays Display (read.other_faults Display (λ e. cc))
    later Transcript = stays Transcript (read.other_faults Transcript (λ e. cc))
    later Notes = stays Notes (read.other_faults Notes (λ e. cc))

pub keep-refused : {H : Type 0} (host : Ghosts H) (old now : H) (before after : ℕ) (f : Fault) → IsKeepFault host old now before after f → IsKeepRefusal host.tells (meanings host old) (meanings host now) before after (status_by_vault f)
keep-refused host old now before after (fault.Failed count) h = record { ends = tt; cause = tt; whole = λ work damaged. damaged; caused = h }
keep-refused host old now before after (fault.Bad place) h = absurd h
keep-refused host old now before after (fault.Disk (disk.Work count)) h = record { ends = tt; cause = h.1; whole = λ work damaged. damaged; caused = h.0 }
keep-refused host old now before after (fault.Disk (disk.Full held room)) h = absurd h.1
keep-refused host old now before after (fault.Disk (disk.Damaged place name)) h = record { ends = tt; cause = tt; whole = λ work damaged. h.1 work; caused = h.0 }
keep-refused host old now before after fault.Memory h = record { ends = tt; cause = tt; whole = λ work damaged. damaged; caused = h }

-- since an earlier moment of the host
pub keep-since : (tells : Role → Bool) (a b c : Meanings) (before after : ℕ) (status : Status) → ((role : Role) → a.faults role ≤ b.faults role) → IsKeepRefusal tells b c before after status → IsKeepRefusal tells a c before after status
keep-since tells a b c before after status later r = record { ends = r.ends; cause = cause-since status a.faults b.faults c.faults later r.cause; whole = r.whole; caused = r.caused }

-- ---- a disk that was only read

pub read-then : {H : Type 0} (host : Ghosts H) (a b c : H) → IsWorkRead host a b → IsWorkRead host b c → IsWorkRead host a c
read-then host a b c p q = record {
  roles = λ r. q.roles r ∙ p.roles r;
  other_faults = λ r none. q.other_faults r none ∙ p.other_faults r none;
  later = let low = p.later in let high = q.later in omega (arith, low, high);
  writes = q.writes ∙ p.writes;
}

abbrev heap-with : ℕ → (ℕ → Option Object) → Heap
heap-with next at = record { at = at; next = next }

module _ {H : Type 0} (host : Ghosts H) (old now : H) (rest after : DiskRest) (next : ℕ) (work : host.roles now Work ≡ host.roles old Work) (same : after ≡ rest) where
  heap-read : disk_heap host now after next ≡ disk_heap host old rest next
  heap-read = ap (heap-with next) (same_disk host old now rest after work same)

  pub exact-read : IsExact host old rest next → IsExact host now after next
  exact-read e = record {
    bounded = subst IsBounded (sym heap-read) e.bounded;
    counts = λ n has.
        ap (λ (f : ℕ → Option ℕ). f n) (same_counts host old now rest after work same)
        ∙ e.counts n (subst (λ (h : Heap). Has h n) heap-read has)
        ∙ ap (λ (h : Heap). Some (count_of h n)) (sym heap-read);
  }

  pub stops-read : (state : Words) (serial : ℕ) (before later : VaultState) → Throughout before later (HasEither (contents_of before) serial (λ text. IsTrue (host.tells Work) → text ≡ saved_text (disk_heap host now after next) state))
      → Throughout before later (HasEither (contents_of before) serial (λ text. IsTrue (host.tells Work) → text ≡ saved_text (disk_heap host old rest next) state))
  stops-read state serial before later stops = subst (λ (h : Heap). Throughout before later (HasEither (contents_of before) serial (λ text. IsTrue (host.tells Work) → text ≡ saved_text h state))) heap-read stops

-- ---- the vault's last checkpoint, where none was kept

-- nothing was done with the vault
pub unkept-stops : (s : VaultState) (last : Option Point) (serial : ℕ) (IsText : List ℕ → Type 0) → IsLast s last → Throughout s s (HasEither (contents_of s) serial IsText)
unkept-stops s last serial IsText is = throughout-still s s (HasEither (contents_of s) serial IsText) refl (λ bytes may. inl ((has-last s last (serial_of last) is refl).outlives bytes may))

pub unkept-left : (s : VaultState) (last : Option Point) (status : Status) → IsLast s last → LeavesChecked s s status
unkept-left s last status is = λ no bytes may. (has-last s last (serial_of last) is refl).outlives bytes may

-- a call on it failed, or it has what it had
pub refused-left : {H : Type 0} (host : Ghosts H) (old now : H) (a b : VaultState) (before after : ℕ) (f : Fault) → IsKeepFault host old now before after f → LeavesLast a b f → LeavesChecked a b (status_by_vault f)
refused-left host old now a b before after (fault.Failed count) h left = λ no bytes may. absurd (no tt)
refused-left host old now a b before after (fault.Bad place) h left = absurd h
refused-left host old now a b before after (fault.Disk f) h left = λ no bytes may. left bytes may
refused-left host old now a b before after fault.Memory h left = λ no bytes may. left bytes may

same-then : (a b c : List ℕ) → HasSame a b → HasSame a c → HasSame b c
same-then a b c p q = record {
  whole = q.whole;
  found_is = q.found_is ∙ sym p.found_is;
  image = subst (λ (o : Option Point). IfSome o (λ x. image_in c x ≡ image_in b x)) (sym p.found_is) (go (found a) p.image q.image);
}
  where
    go : (o : Option Point) → IfSome o (λ x. image_in b x ≡ image_in a x) → IfSome o (λ x. image_in c x ≡ image_in a x) → IfSome o (λ x. image_in c x ≡ image_in b x)
    go None x y = tt
    go (Some point) x y = y ∙ sym x

-- so it is the one that it has, and a stop leaves it
pub checked-last : (a b : VaultState) (last : Option Point) (status : Status) → IsLast a last → LeavesChecked a b status → KeepsLast b (serial_of last) status
checked-last a b last status is left = λ no.
    let here = left no (contents_of b) (λ i synced. refl) in
    record { has = ap serial_of here.found_is ∙ ap serial_of is.found_is; outlives = λ bytes may. same-then (contents_of a) (contents_of b) bytes here (left no bytes may) }
