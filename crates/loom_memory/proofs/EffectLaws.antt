-- Frames and effects of calls on a memory, one after another.
use Rattle.std.proofs.Common.{◌≡◌, ◌⊎◌, inl, inr, ℕ, ◌≤◌, IsTrue, Bool, true, false, Result, Ok, Err, refl, sym, ◌∙◌, ap, subst, arith}
use Rattle.std.specs.Result.{OnOk, IfErr, IfOk}
use Rattle.long_names.specs.Counting.{counted}
use Rattle.loom_host.specs.declared.outside.DiskFault.{DiskFault}
use Rattle.loom_host.specs.declared.outside.Host.{Ghosts}
use Rattle.loom_host.specs.declared.outside.Role.TheVariants.{Work}
use Rattle.loom_host.specs.Work.{IsWorkOnly}
use Rattle.object_memory.specs.declared.fault.MemFault.{MemFault}
use Rattle.object_memory.specs.declared.fault.MemFault.TheVariants.{CoreFull, WorkFull, NamesSpent, WorkFault, Damaged, Said, Memory}
use Rattle.object_memory.specs.Contract.{LeavesAll}
use Rattle.object_memory.specs.Plain.{refused}
use Rattle.object_memory.specs.Told.{Told, IsReady}
use Rattle.core_segment.specs.Segment.{largest_of}
use Rattle.core_view.specs.Room.{IsBare}
use Rattle.disk_objects.specs.Disk.{disk_room}
use Rattle.leaf_lambda.specs.declared.parts.Parts.{Parts}
use Rattle.leaf_lambda.specs.Parts.{core_of, spare_of}
use Rattle.purger.specs.declared.pager.Pager.{Pager}
use Rattle.purger.specs.declared.room.Pinned.{Pinned}
use Rattle.purger.specs.Pager.{Moves, Preserves, Spares}
use Rattle.purger.specs.Purge.{HasRoom, IsPurgeFault, IsShort}
use Rattle.purger.proofs.PagerLaws.{moves-preserves, moves-spares, preserves-refl, spares-refl}
use Rattle.loom_memory.specs.declared.ledger.Ledger.{Ledger}
use Rattle.loom_memory.specs.declared.memory.LoomMemory.{LoomMemory}
use Rattle.loom_memory.specs.Effects.{Asks, Comes, CountsAnew, Frees, HasEnded, IsFaulted, MayThin, Pages, Puts, Reads, Rests}
use Rattle.loom_memory.specs.Freed.{IsFreed}
use Rattle.loom_memory.specs.Gentle.{IsGentle, IsResting}
use Rattle.loom_memory.specs.Own.{IsBrought}
use Rattle.loom_memory.specs.Gentle.{KeepsCache}
use Rattle.long_names.specs.Objects.{Making}
use Rattle.long_names.specs.declared.value.Value.TheVariants.{Ref}
use Rattle.loom_memory.specs.Makings.{IsLost, IsNotFull}
use Rattle.loom_memory.specs.Memory.{loom_told, IsRefusalOf, IsSound}
use Rattle.loom_memory.specs.Residents.{fetched}
use Rattle.loom_memory.proofs.AddLaws.{fault-lost, fault-making, fault-settling}
use Rattle.loom_memory.proofs.BringLaws.{quiet-same}
use Rattle.loom_memory.proofs.CallLaws.{purge-refused}
use Rattle.loom_memory.proofs.EndLaws.{thins-refused}
use Rattle.loom_memory.proofs.LambdaLaws.{still-calm}
use Rattle.loom_memory.proofs.AskLaws.{ask-bodies, ask-held, ask-room}
use Rattle.loom_memory.proofs.GentleLaws.{fetched-same, rest-trans}
use Rattle.loom_memory.proofs.MakingLaws.{made-if, quiet-thinned, thinned-ready, thinned-trans}
use Rattle.loom_memory.proofs.MindLaws.{minds-after, minds-brought, minds-refl, minds-then, minds-told}
use Rattle.loom_memory.proofs.OverLaws.{over_pager}
use Rattle.loom_memory.proofs.PagerLaws.{moves-cache, moves-rests, pager-calm, pager-minds, pager-quiet}
use Rattle.loom_memory.proofs.SettleLaws.{bodies-same}
use Rattle.loom_memory.proofs.TimeLaws.{time-quiet, time-read, time-same}

-- ---- refused

-- a fault of the disk leaves nothing known but what is outside
pub lost-all : (f : MemFault) (P : Type 0) → IsLost f → LeavesAll f P
lost-all (WorkFault count) P is = tt
lost-all (Damaged place name) P is = tt
lost-all (CoreFull need) P is = absurd is
lost-all (WorkFull live room) P is = absurd is
lost-all NamesSpent P is = absurd is
lost-all (Said count) P is = absurd is
lost-all Memory P is = absurd is

pub lost-other : (f : MemFault) → IsLost f → IsNotFull f
lost-other (WorkFault count) is = tt
lost-other (Damaged place name) is = tt
lost-other (CoreFull need) is = absurd is
lost-other (WorkFull live room) is = absurd is
lost-other NamesSpent is = absurd is
lost-other (Said count) is = absurd is
lost-other Memory is = absurd is

pub faulted-by : {H : Type 0} (host : Ghosts H) (m n : LoomMemory H host) (w : Told) (f : DiskFault) (r x : MemFault) → n.ledger ≡ m.ledger → IsWorkOnly host m.pager.levels.disk.host.now n.pager.levels.disk.host.now → disk_room n.pager.levels.disk.rest ≡ disk_room m.pager.levels.disk.rest
    → IsPurgeFault host m.pager.levels.disk.host.now n.pager.levels.disk.host.now f → IsRefusalOf f r → w ≡ refused (loom_told host n) r → x ≡ r → (loom_told host n).refusals ≤ counted (loom_told host n).refusals → IsFaulted (loom_told host m) w x
faulted-by {H} host m n w f r x ledger work room cause why refuses same later = record {
  access = λ a silent none. purge-refused host m n w a f r x ledger work room cause why refuses same later silent none;
  making = fault-making host m n w f r x ledger work room cause why refuses same later;
  settling = fault-settling host m n w f r x ledger work room cause why refuses same later;
  purging = thins-refused host m n w f r x ledger work room cause why refuses same later;
  lost = subst (λ (y : MemFault). IsLost y) (sym same) (fault-lost f r why);
}

-- ---- objects left

pub pager-pages : {H : Type 0} (host : Ghosts H) (m : LoomMemory H host) (p : Pager H host) → IsSound host m → Spares m.pager p → Preserves m.pager p → Pages host m (over_pager m p)
pager-pages {H} host m p sound x k = record {
  quiet = pager-quiet host m p sound x k;
  calm = pager-calm m.pager p x;
  leaf = x.purged.leaves;
  minds = pager-minds host m p sound x k;
  regs = refl;
  pins = x.pinned;
  ledger = refl;
  limit = x.disk.limit;
  due = refl;
  flag = refl;
}

pub moves-pages : {H : Type 0} (host : Ghosts H) (m : LoomMemory H host) (p : Pager H host) → IsSound host m → Moves m.pager p → Pages host m (over_pager m p)
moves-pages {H} host m p sound x = pager-pages host m p sound (moves-spares m.pager p x) (moves-preserves m.pager p x)

pub pages-refl : {H : Type 0} (host : Ghosts H) (m : LoomMemory H host) → IsSound host m → Pages host m m
pages-refl {H} host m sound = pager-pages host m m.pager sound (spares-refl m.pager) (preserves-refl m.pager)

pub moves-rest : {H : Type 0} (host : Ghosts H) (m : LoomMemory H host) (p : Pager H host) → IsSound host m → Moves m.pager p → Rests host m (over_pager m p)
moves-rest {H} host m p sound x = record { resting = moves-rests host m p x; cached = moves-cache host m p sound x }

-- there are entries, or nothing has a body but what is pinned
pub spare-bare : (enough : Bool) (p : Parts) (pins : Pinned) (words entries : ℕ) → (IsTrue enough → (words ≤ largest_of p.segment) × (entries ≤ spare_of p)) → (enough ≡ false → IsShort p pins.a pins.b pins.d words entries)
    → (entries ≤ spare_of p) ⊎ IsBare pins.a pins.b pins.d (core_of p)
spare-bare true p pins words entries room short = inl (room refl).1
spare-bare false p pins words entries room short = inr (short refl).bare

-- ---- what is dead may have gone

pub thins-refl : {H : Type 0} (host : Ghosts H) (m : LoomMemory H host) → IsSound host m → IsReady (loom_told host m) → MayThin host (λ k. ⊥) m m
thins-refl {H} host m sound ready = record {
  thinned = quiet-thinned (loom_told host m) (loom_told host m) (quiet-same host m) ready;
  minds = minds-refl host m (λ k. ⊥) sound;
  regs = refl;
  pins = refl;
  next = refl;
  due = time-same host m m refl;
  flag = λ on. on;
}

pub frees-refl : {H : Type 0} (host : Ghosts H) (m : LoomMemory H host) → IsSound host m → IsReady (loom_told host m) → Frees host m m
frees-refl {H} host m sound ready = record {
  thins = thins-refl host m sound ready;
  calm = still-calm m.pager.pinned (core_of m.pager.levels.parts);
  ledger = refl;
  less = omega arith;
  limit = refl;
  bodies = λ told. bodies-same m.pager.levels.parts m.pager.levels.parts (loom_told host m).heap refl;
  entries = omega arith;
  words = omega arith;
}

-- and then objects left
pub thins-paged : {H : Type 0} (host : Ghosts H) (a b c : LoomMemory H host) → IsReady (loom_told host a) → MayThin host (λ k. ⊥) a b → Pages host b c → MayThin host (λ k. ⊥) a c
thins-paged {H} host a b c ready x y =
    let t = loom_told host a in
    let u = loom_told host b in
    let v = loom_told host c in
    record {
      thinned = thinned-trans t u v x.thinned (quiet-thinned u v y.quiet (thinned-ready t u x.thinned ready));
      minds = minds-then host a b c (λ k. ⊥) (λ k. ⊥) (λ k. ⊥) (λ k no. no) (λ k no. no) x.minds y.minds;
      regs = y.regs ∙ x.regs;
      pins = y.pins ∙ x.pins;
      next = ap (λ (k : Ledger). k.next) y.ledger ∙ x.next;
      due = time-quiet host a b c x.due y.due y.quiet;
      flag = λ on. y.flag ∙ x.flag on;
    }

-- ---- what can't be

pub ok-wanting : {T E P : Type 0} (Q : Type 0) (r : Result T E) → (P → ⊥) → OnOk r (P → Q)
ok-wanting {T} {E} {P} Q (Ok x) never = λ p. absurd (never p)
ok-wanting {T} {E} {P} Q (Err f) never = tt

pub err-wanting : {T E P : Type 0} (r : Result T E) → (P → ⊥) → IfErr r (λ f. P → ⊥)
err-wanting {T} {E} {P} (Ok x) never = tt
err-wanting {T} {E} {P} (Err f) never = never

-- a refusal after which nothing more is known
pub lost-by : (f : DiskFault) (r x : MemFault) (P : Type 0) → IsRefusalOf f r → x ≡ r → LeavesAll x P
lost-by f r x P why same = lost-all x P (subst (λ (y : MemFault). IsLost y) (sym same) (fault-lost f r why))

pub damaged-all : (x : MemFault) (place name : ℕ) (P : Type 0) → x ≡ Damaged place name → LeavesAll x P
damaged-all x place name P is = subst (λ (y : MemFault). LeavesAll y P) (sym is) tt

-- ---- a call and then another, whatever that answers

pub if-on : {A E : Type 0} (r : Result A E) {P : A → Type 0} {Q : Type 0} → ((a : A) → P a → Q) → IfOk r P → OnOk r Q
if-on {A} {E} (Ok x) {P} {Q} f y = f x y
if-on {A} {E} (Err e) {P} {Q} f y = tt

pub thins-then : {T H : Type 0} (r : Result T MemFault) (host : Ghosts H) (a b c : LoomMemory H host) → IsReady (loom_told host a) → MayThin host (λ k. ⊥) a b → OnOk r (Pages host b c) → OnOk r (MayThin host (λ k. ⊥) a c)
thins-then {T} {H} (Ok v) host a b c ready x y = thins-paged host a b c ready x y
thins-then {T} {H} (Err f) host a b c ready x y = tt

-- a record was read first
pub thins-read : {T H : Type 0} (r : Result T MemFault) (host : Ghosts H) (a b c : LoomMemory H host) (name own : ℕ) → IsSound host a → IsReady (loom_told host a) → Reads host a b → own ≡ name → OnOk r (fetched c ≡ counted (fetched b)) → OnOk r (MayThin host (λ k. k ≡ own) b c) → OnOk r (MayThin host (IsBrought a c name) a c)
thins-read {T} {H} (Ok v) host a b c name own sound ready x same one y = record {
  thinned = thinned-trans (loom_told host a) (loom_told host b) (loom_told host c) (quiet-thinned (loom_told host a) (loom_told host b) x.quiet ready) y.thinned;
  minds = minds-brought {T = T} (Ok v) host a b c name own sound x.parts x.gentle.cache same (fetched-same a b x.ledger) one y.minds;
  regs = y.regs ∙ x.regs;
  pins = y.pins ∙ x.pins;
  next = y.next ∙ ap (λ (k : Ledger). k.next) x.ledger;
  due = time-read {T = T} (Ok v) host a b c x.due y.due;
  flag = λ on. y.flag (x.flag ∙ on);
}
thins-read {T} {H} (Err f) host a b c name own sound ready x same one y = tt

pub comes-both : {T H : Type 0} (A B : Type 0) (r : Result T MemFault) (host : Ghosts H) (a c : LoomMemory H host) (words : ℕ) → OnOk r (A → B → IsFreed host a c words 27) → OnOk r (A → B → HasRoom a.pager.levels.parts words 27 → IsGentle host a c) → OnOk r (A → B → Comes host words a c)
comes-both {T} {H} A B (Ok v) host a c words x y = λ told leaf. record { gone = x told leaf; gentle = y told leaf }
comes-both {T} {H} A B (Err f) host a c words x y = tt

pub comes-gone : {T H : Type 0} (A B : Type 0) (r : Result T MemFault) (host : Ghosts H) (a c : LoomMemory H host) (words : ℕ) → OnOk r (A → B → Comes host words a c) → OnOk r (A → B → IsFreed host a c words 27)
comes-gone {T} {H} A B (Ok v) host a c words x = λ told leaf. (x told leaf).gone
comes-gone {T} {H} A B (Err f) host a c words x = tt

pub comes-gentle : {T H : Type 0} (A B : Type 0) (r : Result T MemFault) (host : Ghosts H) (a c : LoomMemory H host) (words : ℕ) → OnOk r (A → B → Comes host words a c) → OnOk r (A → B → HasRoom a.pager.levels.parts words 27 → IsGentle host a c)
comes-gentle {T} {H} A B (Ok v) host a c words x = λ told leaf. (x told leaf).gentle
comes-gentle {T} {H} A B (Err f) host a c words x = tt

pub asks-then : {H : Type 0} (r : Result (Unit {0}) MemFault) (host : Ghosts H) (a b c : LoomMemory H host) → Asks host a b → OnOk r (Frees host b c) → OnOk r (Asks host a c)
asks-then {H} (Ok v) host a b c x y = record {
  thinned = thinned-trans (loom_told host a) (loom_told host b) (loom_told host c) x.thinned y.thins.thinned;
  held = ask-held {T = Unit {0}} (Ok v) b c x.held y.less y.limit;
  next = y.thins.next ∙ x.next;
  minds = minds-told {T = Unit {0}} (Ok v) (IsTrue (host.tells Work)) host a b c (λ k. ⊥) x.minds y.thins.minds;
  bodies = ask-bodies {T = Unit {0}} (Ok v) host a b c x.thinned y.thins.thinned x.bodies y.bodies;
  room = ask-room {T = Unit {0}} (Ok v) a b c x.room y.words y.entries;
}
asks-then {H} (Err f) host a b c x y = tt

pub puts-then : {H : Type 0} (r : Result (Unit {0}) MemFault) (host : Ghosts H) (a b c : LoomMemory H host) (to class : ℕ) (what : Making) → Pages host a b → OnOk r (Puts host b c to class what) → OnOk r (Puts host a c to class what)
puts-then {H} (Ok v) host a b c to class what x y = record {
  made = made-if (Ok v) (loom_told host a) (loom_told host b) (loom_told host c) to class what x.quiet y.made;
  there = y.there;
  minds = minds-after {T = Unit {0}} (Ok v) host a b c (λ k. (loom_told host c).regs to ≡ Ref k) x.minds y.minds;
}
puts-then {H} (Err f) host a b c to class what x y = tt

pub rests-then : {H : Type 0} (P : Type 0) (r : Result (Unit {0}) MemFault) (host : Ghosts H) (a b c : LoomMemory H host) → (P → Rests host a b) → OnOk r (Rests host b c) → OnOk r (P → Rests host a c)
rests-then {H} P (Ok v) host a b c x y = λ p. record { resting = rest-trans a b c (x p).resting y.resting; cached = y.cached ∙ (x p).cached }
rests-then {H} P (Err f) host a b c x y = tt

pub ended-then : {H : Type 0} (r : Result (Unit {0}) MemFault) (host : Ghosts H) (a b c : LoomMemory H host) → CountsAnew host a b → OnOk r (Pages host b c) → OnOk r (HasEnded host a c)
ended-then {H} (Ok v) host a b c x y = record {
  none = ap (λ (k : Ledger). k.made) y.ledger ∙ x.none;
  minds = minds-told {T = Unit {0}} (Ok v) (IsTrue (host.tells Work)) host a b c (λ k. ⊥) x.minds y.minds;
  due = time-quiet host a b c x.due y.due y.quiet;
  flag = λ on. y.flag ∙ x.flag on;
}
ended-then {H} (Err f) host a b c x y = tt

-- nothing has a body but what is pinned, where more entries were asked for than there are
pub bare-in : (enough : Bool) (p : Parts) (pins : Pinned) (words entries : ℕ) → (IsTrue enough → (words ≤ largest_of p.segment) × (entries ≤ spare_of p)) → (enough ≡ false → IsShort p pins.a pins.b pins.d words entries) → ((entries ≤ spare_of p) → ⊥)
    → IsBare pins.a pins.b pins.d (core_of p)
bare-in true p pins words entries room short past = absurd (past (room refl).1)
bare-in false p pins words entries room short past = (short refl).bare

pub rests-resting : {T H : Type 0} (P : Type 0) (r : Result T MemFault) (host : Ghosts H) (a b : LoomMemory H host) → OnOk r (P → Rests host a b) → OnOk r (P → IsResting a b)
rests-resting {T} {H} P (Ok v) host a b x = λ p. (x p).resting
rests-resting {T} {H} P (Err f) host a b x = tt

pub rests-cached : {T H : Type 0} (P : Type 0) (r : Result T MemFault) (host : Ghosts H) (a b : LoomMemory H host) → OnOk r (P → Rests host a b) → OnOk r (P → KeepsCache host a b)
rests-cached {T} {H} P (Ok v) host a b x = λ p. (x p).cached
rests-cached {T} {H} P (Err f) host a b x = tt
