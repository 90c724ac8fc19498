-- Laws of serving: two calls in a row serve two rules in a row, and a call that stopped serves whatever was to follow.
use Rattle.std.proofs.Common.{◌≡◌, ℕ, ◌+◌, ◌≤◌, List, [], ◌∷◌, ◌++◌, append-nil, Option, Some, None, Result, Ok, Err, OnOk, IsTrue, inl, inr, refl, sym, ◌∙◌, ap, subst, arith}
use Rattle.std.specs.Result.{IsErrAnd}
use Rattle.std.proofs.lemmas.Result.{err_from_is_err_and}
use Rattle.long_names.specs.Counting.{Rose}
use Rattle.object_memory.specs.declared.fault.Need.{Need}
use Rattle.object_memory.specs.declared.fault.MemFault.{MemFault}
use Rattle.object_memory.specs.declared.fault.MemFault.TheVariants.{CoreFull, WorkFull, WorkFault, Damaged, NamesSpent, Said, Memory}
use Rattle.object_memory.specs.Told.{Told, Bounds}
use Rattle.object_memory.specs.Contract.{IfBounds, SameBounds, IsLater, work_faults, said_faults}
use Rattle.object_memory.proofs.LaterLaws.{IsLater-trans, Raised-refl, Raised-then}
use Rattle.blue_model.specs.declared.cpu.Cpu.{Cpu}
use Rattle.blue_model.specs.Machine.{Machine, LogRow, Outcome, Go, Halt, Spent, Rule, log_of, after, then_do, ◌>>=◌}
use Rattle.contexts.specs.declared.stop.Stop.{Stop}
use Rattle.contexts.specs.declared.stop.Stop.TheVariants.{Stuck, Mem}
use Rattle.contexts.specs.Serves.{Stands, IsLogged, HasMaking, IsGo, MaySay, Allows, AllowsAs, Gives, GivesAs, IsCounted, IsCaused, HasReason, SaidNothing, Says, with_before, ServesAs, Serves}

-- ---- counts

-- some number of makings came between
abbrev pub HasCounted : Told → Told → Type 0
HasCounted old new = (makings : ℕ) × IsCounted makings old new

pub IsCounted-refl : (t : Told) → IsCounted 0 t t
IsCounted-refl t = record { counts = Raised-refl t.bounds; next = λ told. omega arith }

pub IsCounted-trans : (j k : ℕ) (a b c : Told) → IsLater a b → IsCounted j a b → IsCounted k b c → IsCounted (j + k) a c
IsCounted-trans j k a b c l x y = record {
  counts = Raised-then j k a.bounds b.bounds c.bounds x.counts y.counts;
  next = λ told. (let first = x.next told in let second = y.next (l.tells ∙ told) in omega arith);
}

pub counts_trans : {A : Type 0} (a b c : Told) (r : Result A Stop) → IsLater a b → HasCounted a b → OnOk r (HasCounted b c) → OnOk r (HasCounted a c)
counts_trans a b c (Ok x) l p q = (p.0 + q.0, IsCounted-trans p.0 q.0 a b c l p.1 q.1)
counts_trans a b c (Err e) l p q = tt

-- ---- bounds

-- what fits in a core fits in it later
pub fits_later : (old new : Option Bounds) (words : ℕ) → SameBounds old new → IfBounds old (λ b. words ≤ b.core) → IfBounds new (λ b. words ≤ b.core)
fits_later None None words same fits = tt
fits_later None (Some c) words same fits = absurd same
fits_later (Some b) None words same fits = absurd same
fits_later (Some b) (Some c) words same fits = let core = same.0 in omega arith

-- ---- causes

-- counts of faults do not fall
faults_later : (a b : Option Bounds) → SameBounds a b → (work_faults a ≤ work_faults b) × (said_faults a ≤ said_faults b)
faults_later None None l = (omega arith, omega arith)
faults_later None (Some b) l = absurd l
faults_later (Some a) None l = absurd l
faults_later (Some a) (Some b) l = (l.3, l.4)

Rose-earlier : (a b c : ℕ) → a ≤ b → Rose b c → Rose a c
Rose-earlier a b c p q = omega arith

IsCaused-earlier : (a b c : Told) (f : MemFault) → IsLater a b → HasCounted a b → IsCaused b c f → IsCaused a c f
IsCaused-earlier a b c (CoreFull need) l n q = q
IsCaused-earlier a b c (WorkFull live room) l n q = (q.0, (n.0 + q.1.0, IsCounted-trans n.0 q.1.0 a b c l n.1 q.1.1))
IsCaused-earlier a b c (WorkFault count) l n q = (q.0, Rose-earlier (work_faults a.bounds) (work_faults b.bounds) (work_faults c.bounds) (faults_later a.bounds b.bounds l.bounds).0 q.1)
IsCaused-earlier a b c (Damaged place name) l n q = λ told. q (l.tells ∙ told)
IsCaused-earlier a b c NamesSpent l n q = tt
IsCaused-earlier a b c (Said count) l n q = (q.0, Rose-earlier (said_faults a.bounds) (said_faults b.bounds) (said_faults c.bounds) (faults_later a.bounds b.bounds l.bounds).1 q.1)
IsCaused-earlier a b c Memory l n q = q

pub HasReason-earlier : {A : Type 0} (a b c : Told) (r : Result A Stop) → IsLater a b → HasCounted a b → HasReason b c r → HasReason a c r
HasReason-earlier a b c (Ok x) l n q = tt
HasReason-earlier a b c (Err (Stuck d)) l n q = tt
HasReason-earlier a b c (Err (Mem f)) l n q = record { rose = Rose-earlier a.refusals b.refusals c.refusals l.refusals q.rose; last = q.last; cause = IsCaused-earlier a b c f l n q.cause }

-- ---- the vault

-- what opened it neither before nor after opened it at all
pub vault_then : {A : Type 0} (cpu between now : Cpu) (r : Result A Stop) → (IsTrue between.vault → IsTrue cpu.vault) → OnOk r (IsTrue now.vault → IsTrue between.vault) → OnOk r (IsTrue now.vault → IsTrue cpu.vault)
vault_then cpu between now (Ok x) p q = λ may. p (q may)
vault_then cpu between now (Err e) p q = tt

-- ---- what was said

-- nothing, twice
pub said_nothing : (a b c : Told) → IsLater a b → SaidNothing a b → SaidNothing b c → SaidNothing a c
said_nothing a b c l p q = λ speaks. q (l.speaks ∙ speaks) ∙ p speaks

-- nothing before
pub says_later : {A : Type 0} (w : Option A) (a b c : Told) (r : Result A Stop) → IsLater a b → SaidNothing a b → Says w b c r → Says w a c r
says_later None a b c r l p q = said_nothing a b c l p q
says_later (Some x) a b c (Ok y) l p (inl e) = inl e
says_later (Some x) a b c (Ok y) l p (inr q) = inr (said_nothing a b c l p q)
says_later (Some x) a b c (Err (Stuck d)) l p q = said_nothing a b c l p q
says_later (Some x) a b c (Err (Mem (Said count))) l p q = λ speaks. (let it = q (l.speaks ∙ speaks) in (it.0, it.1 ∙ ap (λ (t : List ℕ). t ++ it.0) (p speaks)))
says_later (Some x) a b c (Err (Mem (CoreFull need))) l p q = said_nothing a b c l p q
says_later (Some x) a b c (Err (Mem (WorkFull live room))) l p q = said_nothing a b c l p q
says_later (Some x) a b c (Err (Mem (WorkFault count))) l p q = said_nothing a b c l p q
says_later (Some x) a b c (Err (Mem (Damaged place name))) l p q = said_nothing a b c l p q
says_later (Some x) a b c (Err (Mem NamesSpent)) l p q = said_nothing a b c l p q
says_later (Some x) a b c (Err (Mem Memory)) l p q = said_nothing a b c l p q

-- what may say something may say nothing
pub says_quietly : {A : Type 0} (w : Option A) (old new : Told) (r : Result A Stop) → SaidNothing old new → Says w old new r
says_quietly None old new r h = h
says_quietly (Some x) old new (Ok y) h = inr h
says_quietly (Some x) old new (Err (Stuck c)) h = h
says_quietly (Some x) old new (Err (Mem (Said count))) h = λ speaks. ([], h speaks ∙ sym (append-nil old.transcript))
says_quietly (Some x) old new (Err (Mem (CoreFull need))) h = h
says_quietly (Some x) old new (Err (Mem (WorkFull live room))) h = h
says_quietly (Some x) old new (Err (Mem (WorkFault count))) h = h
says_quietly (Some x) old new (Err (Mem (Damaged place name))) h = h
says_quietly (Some x) old new (Err (Mem NamesSpent)) h = h
says_quietly (Some x) old new (Err (Mem Memory)) h = h

-- ---- logs

pub IsLogged-after : (need : Need) (xs ys : List LogRow) → IsLogged need ys → IsLogged need (xs ++ ys)
IsLogged-after need [] ys h = h
IsLogged-after need (x ∷ xs) ys h = inr (IsLogged-after need xs ys h)

pub IsLogged-before : (need : Need) (xs ys : List LogRow) → IsLogged need xs → IsLogged need (xs ++ ys)
IsLogged-before need [] ys h = absurd h
IsLogged-before need (x ∷ xs) ys (inl h) = inl h
IsLogged-before need (x ∷ xs) ys (inr h) = inr (IsLogged-before need xs ys h)

HasMaking-after : (n : ℕ) (xs ys : List LogRow) → HasMaking n ys → HasMaking n (xs ++ ys)
HasMaking-after n [] ys h = h
HasMaking-after n (x ∷ xs) ys h = inr (HasMaking-after n xs ys h)

HasMaking-before : (n : ℕ) (xs ys : List LogRow) → HasMaking n xs → HasMaking n (xs ++ ys)
HasMaking-before n [] ys h = absurd h
HasMaking-before n (x ∷ xs) ys (inl h) = inl h
HasMaking-before n (x ∷ xs) ys (inr h) = inr (HasMaking-before n xs ys h)

log_after : {A : Type 0} (rows : List LogRow) (o : Outcome A) → log_of (after rows o) ≡ rows ++ log_of o
log_after rows (Go a m log) = refl
log_after rows (Halt c log) = refl
log_after rows (Spent log) = refl

-- ---- rows that came before change no answer

go_after : {A : Type 0} (rows : List LogRow) (a : A) (P : Machine → Type 0) (o : Outcome A) → IsGo a P o → IsGo a P (after rows o)
go_after rows a P (Go b m log) h = h
go_after rows a P (Halt c log) h = h
go_after rows a P (Spent log) h = h

says_after : {A : Type 0} (w : Option (A × List ℕ)) (t : Told) (rows : List LogRow) (o : Outcome A) → MaySay w t o → MaySay w t (after rows o)
says_after None t rows o h = h
says_after (Some (b, before)) t rows (Go a m log) h = h
says_after (Some (b, before)) t rows (Halt c log) h = h
says_after (Some (b, before)) t rows (Spent log) h = h

allows_after : {A : Type 0} (w : Option (A × List ℕ)) (t : Told) (rows : List LogRow) (f : MemFault) (o : Outcome A) → AllowsAs w t f o → AllowsAs w t f (after rows o)
allows_after w t rows (CoreFull need) o h = subst (IsLogged need) (sym (log_after rows o)) (IsLogged-after need rows (log_of o) h)
allows_after w t rows (WorkFull live room) o h = subst (HasMaking t.heap.next) (sym (log_after rows o)) (HasMaking-after t.heap.next rows (log_of o) h)
allows_after w t rows (WorkFault count) o h = tt
allows_after w t rows (Damaged place name) o h = absurd h
allows_after w t rows NamesSpent (Go a m log) h = absurd h
allows_after w t rows NamesSpent (Halt c log) h = absurd h
allows_after w t rows NamesSpent (Spent log) h = tt
allows_after w t rows (Said count) o h = says_after w t rows o h
allows_after w t rows Memory o h = tt

pub Gives-after : {A : Type 0} (w : Option (A × List ℕ)) (t : Told) (cpu : Cpu) (rows : List LogRow) (o : Outcome A) (r : Result A Stop) → GivesAs w t cpu r o → GivesAs w t cpu r (after rows o)
Gives-after w t cpu rows o (Ok a) h = go_after rows a (Stands t cpu) o h
Gives-after w t cpu rows o (Err (Mem f)) h = allows_after w t rows f o h
Gives-after w t cpu rows (Go a m log) (Err (Stuck d)) h = absurd h
Gives-after w t cpu rows (Halt c log) (Err (Stuck d)) h = h
Gives-after w t cpu rows (Spent log) (Err (Stuck d)) h = absurd h

-- ---- a rule that may say something, and says nothing

allows_quietly : {A : Type 0} (w : Option (A × List ℕ)) (t : Told) (f : MemFault) (o : Outcome A) → Allows t f o → AllowsAs w t f o
allows_quietly w t (CoreFull need) o h = h
allows_quietly w t (WorkFull live room) o h = h
allows_quietly w t (WorkFault count) o h = tt
allows_quietly w t (Damaged place name) o h = absurd h
allows_quietly w t NamesSpent o h = h
allows_quietly w t (Said count) o h = absurd h
allows_quietly w t Memory o h = tt

gives_quietly : {A : Type 0} (w : Option (A × List ℕ)) (t : Told) (cpu : Cpu) (r : Result A Stop) (o : Outcome A) → Gives t cpu r o → GivesAs w t cpu r o
gives_quietly w t cpu (Ok a) o h = h
gives_quietly w t cpu (Err (Stuck c)) o h = h
gives_quietly w t cpu (Err (Mem f)) o h = allows_quietly w t f o h

-- ---- a rule whose transcript before was the same

may_say_earlier : {A : Type 0} (w : Option A) (before between : List ℕ) (new : Told) (o : Outcome A) → (IsTrue new.speaks → between ≡ before) → MaySay (with_before w between) new o → MaySay (with_before w before) new o
may_say_earlier None before between new o same h = absurd h
may_say_earlier (Some b) before between new (Go a m log) same h = (h.0, λ speaks. (let it = h.1 speaks in (it.0, it.1, λ none. it.2 (none ∙ sym (same speaks)))))
may_say_earlier (Some b) before between new (Halt c log) same h = absurd h
may_say_earlier (Some b) before between new (Spent log) same h = absurd h

allows_earlier : {A : Type 0} (w : Option A) (before between : List ℕ) (new : Told) (f : MemFault) (o : Outcome A) → (IsTrue new.speaks → between ≡ before) → AllowsAs (with_before w between) new f o → AllowsAs (with_before w before) new f o
allows_earlier w before between new (CoreFull need) o same h = h
allows_earlier w before between new (WorkFull live room) o same h = h
allows_earlier w before between new (WorkFault count) o same h = tt
allows_earlier w before between new (Damaged place name) o same h = absurd h
allows_earlier w before between new NamesSpent o same h = h
allows_earlier w before between new (Said count) o same h = may_say_earlier w before between new o same h
allows_earlier w before between new Memory o same h = tt

pub gives_earlier : {A : Type 0} (w : Option A) (before between : List ℕ) (new : Told) (cpu : Cpu) (r : Result A Stop) (o : Outcome A) → (IsTrue new.speaks → between ≡ before) → GivesAs (with_before w between) new cpu r o → GivesAs (with_before w before) new cpu r o
gives_earlier w before between new cpu (Ok a) o same h = h
gives_earlier w before between new cpu (Err (Stuck c)) o same h = h
gives_earlier w before between new cpu (Err (Mem f)) o same h = allows_earlier w before between new f o same h

-- nothing was said before
pub gives_later : {A : Type 0} (w : Option A) (a b c : Told) (cpu : Cpu) (r : Result A Stop) (o : Outcome A) → IsLater a b → IsLater b c → SaidNothing a b → GivesAs (with_before w b.transcript) c cpu r o → GivesAs (with_before w a.transcript) c cpu r o
gives_later w a b c cpu r o first rest silent h = gives_earlier w a.transcript b.transcript c cpu r o (λ speaks. silent (sym first.speaks ∙ sym rest.speaks ∙ speaks)) h

-- ---- a rule after another

-- one that went on, and another
pub Gives-then : {A B : Type 0} (w : Option (B × List ℕ)) (mid new : Told) (cpu now : Cpu) (o : Outcome A) (k : A → Rule B) (a : A) (r : Result B Stop) → Gives mid cpu (Ok a) o → ((m : Machine) → Stands mid cpu m → GivesAs w new now r (k a m)) → GivesAs w new now r (then_do o k)
Gives-then w mid new cpu now (Go b m log) k a r h next = Gives-after w new now log (k b m) r (subst (λ x. GivesAs w new now r (k x m)) (sym h.0) (next m h.1))
Gives-then w mid new cpu now (Halt c log) k a r h next = absurd h
Gives-then w mid new cpu now (Spent log) k a r h next = absurd h

logged_then : {A B : Type 0} (need : Need) (o : Outcome A) (k : A → Rule B) → IsLogged need (log_of o) → IsLogged need (log_of (then_do o k))
logged_then need (Go b m log) k h = subst (IsLogged need) (sym (log_after log (k b m))) (IsLogged-before need log (log_of (k b m)) h)
logged_then need (Halt c log) k h = h
logged_then need (Spent log) k h = h

making_then : {A B : Type 0} (n : ℕ) (o : Outcome A) (k : A → Rule B) → HasMaking n (log_of o) → HasMaking n (log_of (then_do o k))
making_then n (Go b m log) k h = subst (HasMaking n) (sym (log_after log (k b m))) (HasMaking-before n log (log_of (k b m)) h)
making_then n (Halt c log) k h = h
making_then n (Spent log) k h = h

allows_then : {A B : Type 0} (w : Option (B × List ℕ)) (new : Told) (o : Outcome A) (k : A → Rule B) (f : MemFault) → Allows new f o → AllowsAs w new f (then_do o k)
allows_then w new o k (CoreFull need) h = logged_then need o k h
allows_then w new o k (WorkFull live room) h = making_then new.heap.next o k h
allows_then w new o k (WorkFault count) h = tt
allows_then w new o k (Damaged place name) h = absurd h
allows_then w new (Go b m log) k NamesSpent h = absurd h
allows_then w new (Halt c log) k NamesSpent h = absurd h
allows_then w new (Spent log) k NamesSpent h = tt
allows_then w new o k (Said count) h = absurd h
allows_then w new o k Memory h = tt

-- one at which it stopped
pub Gives-stop : {A B : Type 0} (w : Option (B × List ℕ)) (new : Told) (now : Cpu) (o : Outcome A) (k : A → Rule B) (e : Stop) → Gives new now (Err e) o → GivesAs w new now (Err e) (then_do o k)
Gives-stop w new now o k (Mem f) h = allows_then w new o k f h
Gives-stop w new now (Go b m log) k (Stuck c) h = absurd h
Gives-stop w new now (Halt d log) k (Stuck c) h = h
Gives-stop w new now (Spent log) k (Stuck c) h = absurd h

-- ---- the laws

-- what says nothing serves a rule that may say something, too
pub speaks_quiet : {A : Type 0} {w : Option A} {old new : Told} {cpu now : Cpu} {rule : Rule A} {answer : Result A Stop} → Serves old cpu new now rule answer → ServesAs w old cpu new now rule answer
speaks_quiet {A} {w} {old} {new} {cpu} {now} {rule} {answer} s = record {
  later = s.later;
  ready = s.ready;
  reason = s.reason;
  counts = s.counts;
  vault = s.vault;
  silent = says_quietly w old new answer s.silent;
  model = λ told m st. gives_quietly (with_before w old.transcript) new now answer (rule m) (s.model told m st);
}

-- two calls in a row serve the two rules in a row
pub serves_then : {A B : Type 0} {w : Option B} {old mid new : Told} {cpu between now : Cpu} {p : Rule A} (k : A → Rule B) {a : A} {answer : Result B Stop} → Serves old cpu mid between p (Ok a) → ServesAs w mid between new now (k a) answer → ServesAs w old cpu new now (p >>= k) answer
unfolding ◌>>=◌
serves_then {A} {B} {w} {old} {mid} {new} {cpu} {between} {now} {p} k {a} {answer} f s = record {
  later = IsLater-trans old mid new f.later s.later;
  ready = s.ready;
  reason = HasReason-earlier old mid new answer f.later f.counts s.reason;
  counts = counts_trans old mid new answer f.later f.counts s.counts;
  vault = vault_then cpu between now answer f.vault s.vault;
  silent = says_later w old mid new answer f.later f.silent s.silent;
  model = λ told m st. Gives-then (with_before w old.transcript) mid new between now (p m) k a answer (f.model told m st) (λ n sn. gives_later w old mid new now answer (k a n) f.later s.later f.silent (s.model (f.later.tells ∙ told) n sn));
}

-- the reason of a stop names no rule
pub reason_other : (A B : Type 0) (old new : Told) (e : Stop) → HasReason {A = A} old new (Err e) → HasReason {A = B} old new (Err e)
reason_other A B old new (Stuck c) h = tt
reason_other A B old new (Mem f) h = h

-- a call that stopped serves whatever was to follow
pub serves_stop : {A B : Type 0} {w : Option B} {old new : Told} {cpu now : Cpu} {p : Rule A} (k : A → Rule B) {e : Stop} → Serves old cpu new now p (Err e) → ServesAs w old cpu new now (p >>= k) (Err e)
unfolding ◌>>=◌
serves_stop {A} {B} {w} {old} {new} {cpu} {now} {p} k {e} f = record {
  later = f.later;
  ready = tt;
  reason = reason_other A B old new e f.reason;
  counts = tt;
  vault = tt;
  silent = says_quietly w old new (Err e) f.silent;
  model = λ told m st. Gives-stop (with_before w old.transcript) new now (p m) k e (f.model told m st);
}

-- the exit of a `?`
pub serves_exit : {A B : Type 0} {w : Option B} {old new : Told} {cpu now : Cpu} {p : Rule A} (k : A → Rule B) {e : Stop} (r : Result B Stop) → Serves old cpu new now p (Err e) → IsErrAnd r (λ y. y ≡ e) → ServesAs w old cpu new now (p >>= k) r
serves_exit {A} {B} {w} {old} {new} {cpu} {now} {p} k {e} r s is =
    let q = err_from_is_err_and r is in
    subst (λ x. ServesAs w old cpu new now (p >>= k) x) (sym (q.1 ∙ ap (λ y. Err y) q.2)) (serves_stop k s)

-- the exit of a `?`, for a whole rule
pub exits : {A : Type 0} {w : Option A} {old new : Told} {cpu now : Cpu} {rule : Rule A} {e : Stop} (r : Result A Stop) → IsErrAnd r (λ y. y ≡ e) → ServesAs w old cpu new now rule (Err e) → ServesAs w old cpu new now rule r
exits {A} {w} {old} {new} {cpu} {now} {rule} {e} r is s =
    let q = err_from_is_err_and r is in
    subst (λ x. ServesAs w old cpu new now rule x) (sym (q.1 ∙ ap (λ y. Err y) q.2)) s

-- a rule that comes to the same, machine by machine
pub by_model : {A : Type 0} {old new : Told} {cpu now : Cpu} {r : Result A Stop} (p q : Rule A) → ((m : Machine) → IsTrue old.tells → Stands old cpu m → Gives new now r (p m) → Gives new now r (q m)) → Serves old cpu new now p r → Serves old cpu new now q r
by_model {A} {old} {new} {cpu} {now} {r} p q step s = record {
  later = s.later;
  ready = s.ready;
  reason = s.reason;
  counts = s.counts;
  vault = s.vault;
  silent = s.silent;
  model = λ told m st. step m told st (s.model told m st);
}
