-- Steps by which no object leaves the core, and an object that is reached by them.
use Rattle.std.proofs.Common.{zero, suc, List, ◌∷◌, length, ◌≡◌, ◌≢◌, ℕ, ◌≤◌, Bool, true, false, [], refl, sym, ◌∙◌, ap, subst, arith, Option, Some, None, Result, Ok, Err, IsTrue, ⊎_elim}
use Rattle.std.specs.List.{slice_get}
use Rattle.std.proofs.lemmas.Bool.{cases_eq}
use Rattle.std.proofs.lemmas.Grind.{common_steps}
use Rattle.std.specs.Result.{OnOk, IfErr}
use Rattle.std.specs.Option.{is_some}
use Rattle.long_names.specs.declared.value.Value.{Value}
use Rattle.long_names.specs.declared.value.Value.TheVariants.{Ref}
use Rattle.long_names.specs.declared.object.Kind.{Kind}
use Rattle.long_names.specs.Counting.{counted}
use Rattle.long_names.specs.State.{name_at, IsRef}
use Rattle.long_names.specs.Heap.{Heap}
use Rattle.long_names.specs.Need.{words_at}
use Rattle.object_memory.specs.declared.fault.MemFault.{MemFault}
use Rattle.object_memory.specs.Told.{Told, Bounds}
use Rattle.object_memory.specs.Contract.{ForBounds, KeepsSound}
use Rattle.loom_host.specs.declared.outside.Host.{Ghosts}
use Rattle.loom_host.specs.declared.outside.Role.TheVariants.{Work}
use Rattle.loom_host.specs.Work.{IsWorkRead}
use Rattle.object_table.specs.declared.entry.Entry.{Entry}
use Rattle.object_table.specs.Entries.{put, is_short, is_used, place_of, sum_below}
use Rattle.core_segment.specs.Segment.{chunk_at, chunks_of, free_of, size_of}
use Rattle.core_segment.specs.Chunks.{Chunk, IsLaidOut}
use Rattle.disk_objects.specs.Function.{disk_of}
use Rattle.core_view.specs.Core.{Core, with_entry}
use Rattle.core_view.proofs.Lists.{put-here, put-there}
use Rattle.core_view.specs.Kept.{IsCore}
use Rattle.core_view.specs.Purge.{IsPurged}
use Rattle.core_view.specs.Room.{is_among, room_by, room_for}
use Rattle.core_view.specs.Steps.{IsAt, IsRefStep}
use Rattle.core_view.specs.Words.{pointers}
use Rattle.core_view.proofs.Sums.{sum-same}
use Rattle.core_view.proofs.Steps.{outside-used}
use Rattle.core_view.proofs.Words.{meant-short}
use Rattle.leaf_lambda.specs.declared.parts.Parts.{Parts}
use Rattle.leaf_lambda.specs.Parts.{core_of, spare_of, IsWithin}
use Rattle.purger.specs.Marks.{IsUnmarking, unmarked}
use Rattle.purger.specs.Purge.{HasRoom}
use Rattle.purger.specs.declared.room.Pinned.{Pinned}
use Rattle.purger.proofs.RoomLaws.{all-pinned, none-of, some-of}
use Rattle.loom_memory.specs.declared.ledger.Ledger.{Ledger}
use Rattle.loom_memory.specs.declared.memory.LoomMemory.{LoomMemory}
use Rattle.loom_memory.specs.Makings.{HasThinned}
use Rattle.loom_memory.specs.Memory.{loom_told, word_in, IsSized, IsSound}
use Rattle.loom_memory.specs.Gentle.{IsCalm, IsQuiet, IsStill}
use Rattle.loom_memory.specs.Stores.{IsRecount}
use Rattle.loom_memory.specs.Says.{IsSpeech}
use Rattle.loom_memory.specs.Cache.{cache_of, with_its_mark}
use Rattle.method_cache.specs.Found.{found}
use Rattle.loom_memory.specs.Residents.{has_body, is_resident, words_resident, fetched}
use Rattle.loom_memory.specs.Gentle.{Remains, IsGentle, IsGlance, IsPeek, IsResting, IsSteady}
use Rattle.loom_memory.specs.Own.{HasPlace, HasSpace, IsAtHand, IsBrought, IsHeard, IsReached, IsSearched, IsSearchedChange, IsSparing, IsSparingChange, MindsCache}
use Rattle.loom_memory.proofs.MindLaws.{minds-parts, minds-refl, minds-step, minds-wide, remains-residents}
use Rattle.loom_memory.proofs.BringLaws.{ref-short}
use Rattle.loom_memory.proofs.CallLaws.{leaf-words}
use Rattle.loom_memory.proofs.RegLaws.{kept-rooted, register-held, word-there}
use Rattle.loom_memory.proofs.ResidentLaws.{words-all}

-- ---- what remains

pub remains-refl : (c : Core) → Remains c c
remains-refl c = λ s p at. record { at = p; place = at; name = refl }

pub remains-trans : (a b c : Core) → Remains a b → Remains b c → Remains a c
remains-trans a b c x y = λ s p at. let mid = x s p at in let last = y s mid.at mid.place in record { at = last.at; place = last.place; name = last.name ∙ mid.name }

-- where all that may be pinned stays
pub purged-remains : (x y : Core) → ((a b d : ℕ) → IsPurged a b d x y) → Remains x y
purged-remains x y purged = λ s p at. let body = all-pinned x y purged s p at in record { at = body.at; place = body.place; name = body.name }

-- where a step is calm whatever is pinned
pub calm-remains : (x y : Core) → ((pins : Pinned) → IsCalm pins x y) → Remains x y
calm-remains x y calm = λ s p at. (calm (record { a = s; b = s; d = s })).pinned s p (self s) at
  where
    self : (s : ℕ) → is_among s s s s ≡ true
    self s = grind (arith, common_steps)

-- where a leaf takes a body
pub within-remains : (s : ℕ) (x y : Core) → IsWithin s x y → place_of (x.entries s).state ≡ None → Remains x y
within-remains s x y within leaf = λ t r there.
    let away : t ≢ s = (λ h. let both : None ≡ Some r = sym leaf ∙ ap (λ (k : ℕ). place_of (x.entries k).state) (sym h) ∙ there in cc) in
    let same = within.about.bodies t r away there in
    record { at = r; place = ap (λ (e : Entry). place_of e.state) same ∙ there; name = ap (λ (e : Entry). e.name) same }

-- ---- Work

pub read-refl : {H : Type 0} (host : Ghosts H) (now : H) → IsWorkRead host now now
read-refl {H} host now = record { roles = λ r. refl; other_faults = λ r away. refl; later = omega arith; writes = refl }

pub read-trans : {H : Type 0} (host : Ghosts H) (a b c : H) → IsWorkRead host a b → IsWorkRead host b c → IsWorkRead host a c
read-trans {H} host a b c x y = record {
  roles = λ r. y.roles r ∙ x.roles r;
  other_faults = λ r away. y.other_faults r away ∙ x.other_faults r away;
  later = let one = x.later in let two = y.later in omega (arith, one, two);
  writes = y.writes ∙ x.writes;
}

-- ---- both

pub gentle-refl : {H : Type 0} (host : Ghosts H) (m : LoomMemory H host) → IsGentle host m m
gentle-refl {H} host m = record { remains = remains-refl (core_of m.pager.levels.parts); read = read-refl host m.pager.levels.disk.host.now; cache = refl }

pub gentle-trans : {H : Type 0} (host : Ghosts H) (a b c : LoomMemory H host) → IsGentle host a b → IsGentle host b c → IsGentle host a c
gentle-trans {H} host a b c x y = record {
  remains = remains-trans (core_of a.pager.levels.parts) (core_of b.pager.levels.parts) (core_of c.pager.levels.parts) x.remains y.remains;
  read = read-trans host a.pager.levels.disk.host.now b.pager.levels.disk.host.now c.pager.levels.disk.host.now x.read y.read;
  cache = y.cache ∙ x.cache;
}

pub gentle-from : {H : Type 0} (host : Ghosts H) (m x n : LoomMemory H host) → x ≡ m → IsGentle host x n → IsGentle host m n
gentle-from {H} host m x n same gentle = subst (λ (z : LoomMemory H host). IsGentle host z n) same gentle

-- ---- how many came in

pub count-after : {T : Type 0} (P : Type 0) (r : Result T MemFault) (a b d : ℕ) → b ≡ a → OnOk r (d ≡ counted b) → OnOk r (P → d ≡ counted a)
count-after {T} P (Ok x) a b d same is = λ p. is ∙ ap counted same
count-after {T} P (Err f) a b d same is = tt

pub fetched-same : {H : Type 0} {host : Ghosts H} (m n : LoomMemory H host) → n.ledger ≡ m.ledger → fetched n ≡ fetched m
unfolding fetched
fetched-same {H} {host} m n same = ap (λ (k : Ledger). k.fetches) same

-- ---- the entry of a register that holds a name

pub record IsEntryAt {H : Type 0} (host : Ghosts H) (m : LoomMemory H host) (of s : ℕ) : Type 0 where
  pub used : is_used ((core_of m.pager.levels.parts).entries s).state ≡ true
  pub name : (loom_told host m).regs of ≡ Ref ((core_of m.pager.levels.parts).entries s).name

pub entry-at : {H : Type 0} (host : Ghosts H) (m : LoomMemory H host) (of s : ℕ) → IsSound host m → IsRef ((loom_told host m).regs of) → s ≡ word_in m.regs of → IsEntryAt host m of s
unfolding loom_told
entry-at {H} host m of s sound ref same =
    let short : is_short (word_in m.regs of) ≡ true = ref-short (core_of m.pager.levels.parts) (word_in m.regs of) (sound.kept.filled of) ref in
    let out = register-held (core_of m.pager.levels.parts) m.regs m.pager.pinned of (word_in m.regs of) (kept-rooted m.pager.levels.parts m.regs m.pager.pinned m.ledger m.pager.levels.whole sound.kept) (word-there m.regs of short) short in
    record {
      used = subst (λ (w : ℕ). is_used ((core_of m.pager.levels.parts).entries w).state ≡ true) (sym same) (outside-used (core_of m.pager.levels.parts) (word_in m.regs of) m.pager.levels.whole.parts.core out);
      name = meant-short (core_of m.pager.levels.parts).entries [] 0 (word_in m.regs of) short ∙ ap (λ (w : ℕ). Ref ((core_of m.pager.levels.parts).entries w).name) (sym same);
    }

-- its object is in the core where it has a body
pub resident-is : {H : Type 0} {host : Ghosts H} (m : LoomMemory H host) (s : ℕ) → IsCore (core_of m.pager.levels.parts) → is_used ((core_of m.pager.levels.parts).entries s).state ≡ true → is_resident m ((core_of m.pager.levels.parts).entries s).name ≡ is_some (place_of ((core_of m.pager.levels.parts).entries s).state)
unfolding is_resident
resident-is {H} {host} m s core used = ap (λ (x : Option ℕ). has_body (core_of m.pager.levels.parts) x) (core.found s used)

pub resident-at : {H : Type 0} (host : Ghosts H) (m : LoomMemory H host) (of s : ℕ) → IsSound host m → IsRef ((loom_told host m).regs of) → s ≡ word_in m.regs of → is_resident m (name_at ((loom_told host m).regs of)) ≡ is_some (place_of ((core_of m.pager.levels.parts).entries s).state)
resident-at {H} host m of s sound ref same = let it = entry-at host m of s sound ref same in ap (λ (v : Value). is_resident m (name_at v)) it.name ∙ resident-is m s m.pager.levels.whole.parts.core it.used

-- the object of a register is in the core after a quiet step
pub resident-then : {H : Type 0} (host : Ghosts H) (m n : LoomMemory H host) (of s p : ℕ) → IsSound host n → HasThinned (loom_told host m) (loom_told host n) → IsRef ((loom_told host m).regs of) → s ≡ word_in n.regs of → place_of ((core_of n.pager.levels.parts).entries s).state ≡ Some p → IsTrue (is_resident n (name_at ((loom_told host m).regs of)))
resident-then {H} host m n of s p sound thin ref same there =
    let same_ : (loom_told host n).regs of ≡ (loom_told host m).regs of = ap (λ (z : Told). z.regs of) thin.same in
    ap (λ (v : Value). is_resident n (name_at v)) (sym same_) ∙ resident-at host n of s sound (subst IsRef (sym same_) ref) same ∙ ap (λ (x : Option ℕ). is_some x) there

-- ---- words

pub bounded-at : {H : Type 0} (host : Ghosts H) (m : LoomMemory H host) → IsSound host m → IsLaidOut (chunks_of m.pager.levels.parts.segment) (free_of m.pager.levels.parts.segment) (size_of m.pager.levels.parts.segment) → ForBounds (loom_told host m).bounds (λ b. words_resident m ≤ b.core)
unfolding loom_told words_resident core_of chunk_at
bounded-at {H} host m sound laid =
    let all = words-all (core_of m.pager.levels.parts) (chunks_of m.pager.levels.parts.segment) (free_of m.pager.levels.parts.segment) (size_of m.pager.levels.parts.segment) m.pager.levels.whole.parts.core m.pager.levels.whole.tight refl laid in
    let size = sound.kept.size in
    omega (arith, all, size)

-- ---- an object that comes in

pub room-from : {H : Type 0} (host : Ghosts H) (m x : LoomMemory H host) (s k : ℕ) → x ≡ m → k ≡ ((core_of m.pager.levels.parts).entries s).name → HasRoom m.pager.levels.parts (words_at (loom_told host m).heap k) 27 → HasRoom x.pager.levels.parts (words_at (loom_told host x).heap ((core_of x.pager.levels.parts).entries s).name) 27
room-from {H} host m x s k same name room =
    subst (λ (z : LoomMemory H host). HasRoom z.pager.levels.parts (words_at (loom_told host z).heap ((core_of z.pager.levels.parts).entries s).name) 27) (sym same) (subst (λ (j : ℕ). HasRoom m.pager.levels.parts (words_at (loom_told host m).heap j) 27) name room)

pub place-from : {H : Type 0} {host : Ghosts H} (m x : LoomMemory H host) (s at : ℕ) → x ≡ m → place_of ((core_of m.pager.levels.parts).entries s).state ≡ Some at → place_of ((core_of x.pager.levels.parts).entries s).state ≡ Some at
place-from {H} {host} m x s at same here = subst (λ (z : LoomMemory H host). place_of ((core_of z.pager.levels.parts).entries s).state ≡ Some at) (sym same) here

-- no words are free where some are
pub room-less : (p : Parts) (words entries : ℕ) → HasRoom p words entries → HasRoom p 0 entries
room-less p words entries room = (omega arith, room.1)

-- the words of a record are those of the object that is told
pub record-words : {H : Type 0} (host : Ghosts H) (m u : LoomMemory H host) (s words : ℕ) → IsSound host u → is_used ((core_of u.pager.levels.parts).entries s).state ≡ true → u.pager.levels.parts ≡ m.pager.levels.parts → IsQuiet (loom_told host m) (loom_told host u) → IsSized (host.tells Work) (disk_of host u.pager.levels.disk.host.now u.pager.levels.disk.rest ((core_of u.pager.levels.parts).entries s).name) words
    → IsTrue (host.tells Work) → place_of ((core_of u.pager.levels.parts).entries s).state ≡ None → words_at (loom_told host m).heap ((core_of m.pager.levels.parts).entries s).name ≡ words
unfolding loom_told
record-words {H} host m u s words sound used same quiet sized told leaf =
    ap (λ (p : Parts). words_at (loom_told host m).heap ((core_of p).entries s).name) (sym same)
    ∙ ap (λ (h : Heap). words_at h ((core_of u.pager.levels.parts).entries s).name) (sym (ap (λ (z : Told). z.heap) quiet.same))
    ∙ leaf-words (host.tells Work) (core_of u.pager.levels.parts) (disk_of host u.pager.levels.disk.host.now u.pager.levels.disk.rest) u.ledger.next s words told u.pager.levels.whole.parts.core used leaf sized

pub brought-gentle : {T H : Type 0} (r : Result T MemFault) (host : Ghosts H) (m u n : LoomMemory H host) (s words : ℕ) → IsSound host u → is_used ((core_of u.pager.levels.parts).entries s).state ≡ true → u.pager.levels.parts ≡ m.pager.levels.parts → IsQuiet (loom_told host m) (loom_told host u) → IsSized (host.tells Work) (disk_of host u.pager.levels.disk.host.now u.pager.levels.disk.rest ((core_of u.pager.levels.parts).entries s).name) words
    → IsGentle host m u → OnOk r (HasRoom u.pager.levels.parts words 27 → IsGentle host u n)
    → OnOk r (IsTrue (host.tells Work) → place_of ((core_of m.pager.levels.parts).entries s).state ≡ None → HasRoom m.pager.levels.parts (words_at (loom_told host m).heap ((core_of m.pager.levels.parts).entries s).name) 27 → IsGentle host m n)
brought-gentle {T} {H} (Ok x) host m u n s words sound used same quiet sized first last = λ told leaf room.
    let away = subst (λ (p : Parts). place_of ((core_of p).entries s).state ≡ None) (sym same) leaf in
    let is = record-words host m u s words sound used same quiet sized told away in
    gentle-trans host m u n first (last (subst (λ (p : Parts). HasRoom p words 27) (sym same) (subst (λ (k : ℕ). HasRoom m.pager.levels.parts k 27) is room)))
brought-gentle {T} {H} (Err f) host m u n s words sound used same quiet sized first last = tt

-- ---- an object that is reached

here-reached : {H : Type 0} (host : Ghosts H) (m : LoomMemory H host) (n : ℕ) → IsTrue (is_resident m n) → IsReached host m m n
here-reached {H} host m n there = record {
  there = there;
  stays = λ place k here. here;
  read = λ place. read-refl host m.pager.levels.disk.host.now;
  idle = λ here. record { host = refl; rest = refl; fetches = refl };
  comes = λ away. absurd (let both : true ≡ false = sym there ∙ away in cc);
}

pub here-sparing : {A H : Type 0} (host : Ghosts H) (m : LoomMemory H host) (n : ℕ) (x : A) → IsSound host m → IsTrue (is_resident m n) → ForBounds (loom_told host m).bounds (λ b. words_resident m ≤ b.core) → IsSparing host m m n (Ok x)
here-sparing {A} {H} host m n x sound there bounded = record { reached = here-reached host m n there; sure = tt; bounded = bounded; cached = λ place. refl; minds = minds-refl host m (IsBrought m m n) sound }

by-place : {H : Type 0} (host : Ghosts H) (m u : LoomMemory H host) (n : ℕ) → is_resident m n ≡ false → (IsTrue (host.tells Work) → HasRoom m.pager.levels.parts (words_at (loom_told host m).heap n) 27 → IsGentle host m u) → HasPlace host m n → IsGentle host m u
by-place {H} host m u n away gentle place = ⊎_elim (λ (h : IsTrue (is_resident m n)). absurd (let both : true ≡ false = sym h ∙ away in cc)) (λ (h : IsTrue (host.tells Work) × HasRoom m.pager.levels.parts (words_at (loom_told host m).heap n) 27). gentle h.0 h.1) place

come-reached : {H : Type 0} (host : Ghosts H) (m u : LoomMemory H host) (n : ℕ) → IsCore (core_of m.pager.levels.parts) → IsSound host u → is_resident m n ≡ false → IsTrue (is_resident u n) → fetched u ≡ counted (fetched m) → (HasPlace host m n → IsGentle host m u) → IsReached host m u n
come-reached {H} host m u n core sound away there counts gentle = record {
  there = there;
  stays = λ place. remains-residents m u core u.pager.levels.whole.parts.core (gentle place).remains;
  read = λ place. (gentle place).read;
  idle = λ here. absurd (let both : true ≡ false = sym here ∙ away in cc);
  comes = λ gone. counts;
}

pub come-sparing : {T H P : Type 0} (r : Result T MemFault) (host : Ghosts H) (m u : LoomMemory H host) (n : ℕ) → IsCore (core_of m.pager.levels.parts) → KeepsSound r (IsSound host u) → is_resident m n ≡ false → P → OnOk r (IsTrue (is_resident u n)) → OnOk r (ForBounds (loom_told host u).bounds (λ b. words_resident u ≤ b.core)) → OnOk r (P → fetched u ≡ counted (fetched m))
    → OnOk r (IsTrue (host.tells Work) → P → HasRoom m.pager.levels.parts (words_at (loom_told host m).heap n) 27 → IsGentle host m u) → OnOk r (MindsCache host None m u (IsBrought m u n)) → IsSparing host m u n r
come-sparing {T} {H} {P} (Ok x) host m u n core sound away leaf there bounded counts gentle minds =
    let each = by-place host m u n away (λ told room. gentle told leaf room) in
    record { reached = come-reached host m u n core sound away there (counts leaf) each; sure = tt; bounded = bounded; cached = λ place. (each place).cache; minds = minds }
come-sparing {T} {H} {P} (Err f) host m u n core sound away leaf there bounded counts gentle minds = record { reached = tt; sure = λ told here. (let both : true ≡ false = sym here ∙ away in cc); bounded = tt; cached = tt; minds = tt }

-- it is the same whatever is answered
pub sparing-ok : {A B H : Type 0} (host : Ghosts H) (m u : LoomMemory H host) (n : ℕ) (x : A) (y : B) → IsSparing {A = A} host m u n (Ok x) → IsSparing {A = B} host m u n (Ok y)
sparing-ok {A} {B} {H} host m u n x y own = record { reached = own.reached; sure = tt; bounded = own.bounded; cached = own.cached; minds = own.minds }

pub sparing-err : {A B H : Type 0} (host : Ghosts H) (m u : LoomMemory H host) (n : ℕ) (f : MemFault) → IsSparing {A = A} host m u n (Err f) → IsSparing {A = B} host m u n (Err f)
sparing-err {A} {B} {H} host m u n f own = record { reached = tt; sure = own.sure; bounded = tt; cached = tt; minds = tt }

-- what an access asks for isn't there, which can't be where the heap is told
pub amiss-sparing : {A H : Type 0} (host : Ghosts H) (m u : LoomMemory H host) (n : ℕ) (f : MemFault) → (IsTrue (loom_told host m).tells → ⊥) → IsSparing {A = A} host m u n (Err f)
unfolding loom_told
amiss-sparing {A} {H} host m u n f untold = record { reached = tt; sure = λ told here. untold told; bounded = tt; cached = tt; minds = tt }

-- ---- a word that comes into a register

step-place : (x y : Core) (s : ℕ) → IsRefStep x y → place_of (y.entries s).state ≡ place_of (x.entries s).state
step-place x y s step = go (place_of (x.entries s).state) refl
  where
    go : (o : Option ℕ) → place_of (x.entries s).state ≡ o → place_of (y.entries s).state ≡ place_of (x.entries s).state
    go None e = step.leaves s e ∙ sym e
    go (Some p) e = ap (λ (z : Entry). place_of z.state) (step.bodies s p e)

step-remains : (x y : Core) → IsRefStep x y → Remains x y
step-remains x y step = λ s p at. let same = step.bodies s p at in record { at = p; place = ap (λ (z : Entry). place_of z.state) same ∙ at; name = ap (λ (z : Entry). z.name) same }

pub step-none : (x y : Core) → IsRefStep x y → Remains y x
step-none x y step = λ s p at. go s p at (place_of (x.entries s).state) refl
  where
    go : (s p : ℕ) → place_of (y.entries s).state ≡ Some p → (o : Option ℕ) → place_of (x.entries s).state ≡ o → IsStill y x s
    go s p at None e = absurd (let both : None ≡ Some p = sym (step.leaves s e) ∙ at in cc)
    go s p at (Some q) e = record { at = q; place = e; name = sym (ap (λ (z : Entry). z.name) (step.bodies s q e)) }

step-words : (x y : Core) → IsRefStep x y → sum_below y.bound (room_for y) ≡ sum_below x.bound (room_for x)
step-words x y step =
    ap (λ (n : ℕ). sum_below n (room_for y)) step.bound
    ∙ sum-same x.bound (room_for x) (room_for y) (λ q low. ap (λ (f : ℕ → Chunk). room_by f (place_of (y.entries q).state)) step.chunks ∙ ap (λ (o : Option ℕ). room_by x.chunks o) (step-place x y q step))

pub steady-is : {H : Type 0} (host : Ghosts H) (m n : LoomMemory H host) → IsRefStep (core_of m.pager.levels.parts) (core_of n.pager.levels.parts) → (loom_told host n).cache ≡ (loom_told host m).cache → n.pager.levels.disk.host.now ≡ m.pager.levels.disk.host.now → n.pager.levels.disk.rest ≡ m.pager.levels.disk.rest → n.ledger ≡ m.ledger → IsSteady host m n
unfolding words_resident
steady-is {H} host m n step cache now rest ledger = record {
  gentle = record { remains = step-remains (core_of m.pager.levels.parts) (core_of n.pager.levels.parts) step; read = subst (λ (x : H). IsWorkRead host m.pager.levels.disk.host.now x) (sym now) (read-refl host m.pager.levels.disk.host.now); cache = cache };
  words = step-words (core_of m.pager.levels.parts) (core_of n.pager.levels.parts) step;
  idle = record { host = now; rest = rest; fetches = fetched-same m n ledger };
  none = step-none (core_of m.pager.levels.parts) (core_of n.pager.levels.parts) step;
}

-- the object was reached before it came
rest-reached : {H : Type 0} (host : Ghosts H) (m u v : LoomMemory H host) (n : ℕ) → IsReached host m u n → IsResting u v → IsCore (core_of u.pager.levels.parts) → IsCore (core_of v.pager.levels.parts) → IsReached host m v n
rest-reached {H} host m u v n was rest core now =
    let keeps = remains-residents u v core now rest.remains in
    record {
      there = keeps n was.there;
      stays = λ place k here. keeps k (was.stays place k here);
      read = λ place. subst (λ (x : H). IsWorkRead host m.pager.levels.disk.host.now x) (sym rest.idle.host) (was.read place);
      idle = λ here. let before = was.idle here in record { host = rest.idle.host ∙ before.host; rest = rest.idle.rest ∙ before.rest; fetches = rest.idle.fetches ∙ before.fetches };
      comes = λ away. rest.idle.fetches ∙ was.comes away;
    }

-- no other object came
pub brought-same : {H : Type 0} {host : Ghosts H} (m u v : LoomMemory H host) (n k : ℕ) → fetched v ≡ fetched u → IsBrought m u n k → IsBrought m v n k
brought-same {H} {host} m u v n k same is = (is.0, same ∙ is.1)

pub steady-minds : {H : Type 0} (host : Ghosts H) (m u v : LoomMemory H host) (n : ℕ) → MindsCache host None m u (IsBrought m u n) → IsSteady host u v → IsCore (core_of u.pager.levels.parts) → IsCore (core_of v.pager.levels.parts) → MindsCache host None m v (IsBrought m v n)
steady-minds {H} host m u v n was steady core now = minds-wide host None m v (IsBrought m u n) (IsBrought m v n) (λ k. brought-same m u v n k steady.idle.fetches) (minds-step host m u v (IsBrought m u n) was core now steady.gentle.remains steady.none steady.gentle.cache)

pub steady-sparing : {A B H : Type 0} (host : Ghosts H) (m u v : LoomMemory H host) (n : ℕ) (x : A) (y : B) → IsSparing {A = A} host m u n (Ok x) → IsSteady host u v → IsCore (core_of u.pager.levels.parts) → IsCore (core_of v.pager.levels.parts) → (loom_told host v).bounds ≡ (loom_told host u).bounds → IsSparing {A = B} host m v n (Ok y)
steady-sparing {A} {B} {H} host m u v n x y was steady core now bounds = record {
  reached = rest-reached host m u v n was.reached (record { remains = steady.gentle.remains; idle = steady.idle }) core now;
  sure = tt;
  bounded = subst (λ (b : Option Bounds). ForBounds b (λ b. words_resident v ≤ b.core)) (sym bounds) (subst (λ (k : ℕ). ForBounds (loom_told host u).bounds (λ b. k ≤ b.core)) (sym steady.words) was.bounded);
  cached = λ place. steady.gentle.cache ∙ was.cached place;
  minds = steady-minds host m u v n was.minds steady core now;
}

-- ---- stores

pub rest-refl : {H : Type 0} {host : Ghosts H} (m n : LoomMemory H host) → Remains (core_of m.pager.levels.parts) (core_of n.pager.levels.parts) → n.pager.levels.disk.host.now ≡ m.pager.levels.disk.host.now → n.pager.levels.disk.rest ≡ m.pager.levels.disk.rest → n.ledger ≡ m.ledger → IsResting m n
rest-refl {H} {host} m n remains now rest ledger = record { remains = remains; idle = record { host = now; rest = rest; fetches = fetched-same m n ledger } }

-- marks go
pub unmark-remains : (x y : Core) → IsUnmarking x y → Remains x y
unmark-remains x y step = λ s p at. ⊎_elim
    (λ (same : y.entries s ≡ x.entries s). record { at = p; place = ap (λ (e : Entry). place_of e.state) same ∙ at; name = ap (λ (e : Entry). e.name) same })
    (λ (off : y.entries s ≡ unmarked (x.entries s)). record { at = p; place = ap (λ (e : Entry). place_of e.state) off ∙ at; name = ap (λ (e : Entry). e.name) off }) (step.entries s)

-- an object changes where it lies
pub store-remains : (s : ℕ) (x y : Core) → IsWithin s x y → place_of (y.entries s).state ≡ place_of (x.entries s).state → (y.entries s).name ≡ (x.entries s).name → Remains x y
store-remains s x y within place name = λ t r there. ⊎_elim
    (λ (h : t ≡ s). record { at = r; place = ap (λ (k : ℕ). place_of (y.entries k).state) h ∙ place ∙ ap (λ (k : ℕ). place_of (x.entries k).state) (sym h) ∙ there; name = ap (λ (k : ℕ). (y.entries k).name) h ∙ name ∙ ap (λ (k : ℕ). (x.entries k).name) (sym h) })
    (λ (h : t ≢ s). let same = within.about.bodies t r h there in record { at = r; place = ap (λ (e : Entry). place_of e.state) same ∙ there; name = ap (λ (e : Entry). e.name) same }) (cases_eq t s)

pub changed-sparing : {A B H : Type 0} (host : Ghosts H) (m u v : LoomMemory H host) (n : ℕ) (x : A) (y : B) → IsSparing {A = A} host m u n (Ok x) → IsResting u v → IsCore (core_of u.pager.levels.parts) → IsCore (core_of v.pager.levels.parts) → IsSparingChange {A = B} host m v n (Ok y)
changed-sparing {A} {B} {H} host m u v n x y was rest core now = record { reached = rest-reached host m u v n was.reached rest core now; sure = tt }

pub refused-change : {A B H : Type 0} (host : Ghosts H) (m u : LoomMemory H host) (n : ℕ) (f : MemFault) → IsSparing {A = A} host m u n (Err f) → IsSparingChange {A = B} host m u n (Err f)
refused-change {A} {B} {H} host m u n f own = record { reached = tt; sure = own.sure }

-- the store itself
pub then-store : {A B H : Type 0} (r : Result B MemFault) (host : Ghosts H) (m u v : LoomMemory H host) (n : ℕ) (x : A) → IsSparingChange {A = A} host m u n (Ok x) → OnOk r (IsResting u v) → IfErr r (λ f. IsTrue (host.tells Work) → ⊥) → IsCore (core_of u.pager.levels.parts) → KeepsSound r (IsSound host v) → IsSparingChange {A = B} host m v n r
then-store {A} {B} {H} (Ok y) host m u v n x was rest sure core now = record { reached = rest-reached host m u v n was.reached rest core v.pager.levels.whole.parts.core; sure = tt }
then-store {A} {B} {H} (Err f) host m u v n x was rest sure core now = record { reached = tt; sure = λ told here. sure told }

pub err-store : {A B H : Type 0} (host : Ghosts H) (m u : LoomMemory H host) (n : ℕ) (f : MemFault) → IsSparingChange {A = A} host m u n (Err f) → IsSparingChange {A = B} host m u n (Err f)
err-store {A} {B} {H} host m u n f own = record { reached = tt; sure = own.sure }

-- ---- a field that is at hand

pub hand-is : {H : Type 0} (host : Ghosts H) (m : LoomMemory H host) (of s i : ℕ) → IsSound host m → IsRef ((loom_told host m).regs of) → s ≡ word_in m.regs of → IsAtHand m (name_at ((loom_told host m).regs of)) i → (at : ℕ) × (w : ℕ) × IsAt (core_of m.pager.levels.parts) s at i w × (w ≢ 0)
hand-is {H} host m of s i sound ref same hand =
    let it = entry-at host m of s sound ref same in
    let found : (core_of m.pager.levels.parts).find (name_at ((loom_told host m).regs of)) ≡ Some s = ap (λ (v : Value). (core_of m.pager.levels.parts).find (name_at v)) it.name ∙ m.pager.levels.whole.parts.core.found s it.used in
    let is : hand.entry ≡ s = some-same hand.entry s (sym hand.found ∙ found) in
    (hand.at, hand.word, subst (λ (k : ℕ). IsAt (core_of m.pager.levels.parts) k hand.at i hand.word) is hand.there, hand.some)
  where
    some-same : (a b : ℕ) → Some a ≡ Some b → a ≡ b
    some-same a b e = cc

pub not-at-hand : {H : Type 0} (host : Ghosts H) (m : LoomMemory H host) (of s i : ℕ) → IsSound host m → IsRef ((loom_told host m).regs of) → s ≡ word_in m.regs of → ((at w : ℕ) → IsAt (core_of m.pager.levels.parts) s at i w → w ≡ 0) → IsAtHand m (name_at ((loom_told host m).regs of)) i → ⊥
not-at-hand {H} host m of s i sound ref same none hand = let is = hand-is host m of s i sound ref same hand in is.3 (none is.0 is.1 is.2)

pub leaf-no-hand : {H : Type 0} (host : Ghosts H) (m : LoomMemory H host) (of i : ℕ) → IsSound host m → IsRef ((loom_told host m).regs of) → place_of ((core_of m.pager.levels.parts).entries (word_in m.regs of)).state ≡ None → IsAtHand m (name_at ((loom_told host m).regs of)) i → ⊥
leaf-no-hand {H} host m of i sound ref leaf hand =
    let is = hand-is host m of (word_in m.regs of) i sound ref refl hand in
    let both : None ≡ Some is.0 = sym leaf ∙ is.2.place in
    cc

-- the field of a body is one word
pub field-word-is : (c : Core) (s p q i v w : ℕ) → IsAt c s p i v → IsAt c s q i w → w ≡ v
field-word-is c s p q i v w x y =
    let place : q ≡ p = some-same q p (sym y.place ∙ x.place) in
    some-same w v (sym y.word ∙ ap (λ (k : ℕ). slice_get (pointers (c.entries s).kind (c.chunks k).words) i) place ∙ x.word)
  where
    some-same : (a b : ℕ) → Some a ≡ Some b → a ≡ b
    some-same a b e = cc

-- and there is none past its end
pub field-word-past : (c : Core) (s p q i w : ℕ) → place_of (c.entries s).state ≡ Some p → length (pointers (c.entries s).kind (c.chunks p).words) ≤ i → IsAt c s q i w → ⊥
field-word-past c s p q i w at past is =
    let place : q ≡ p = some-same q p (sym is.place ∙ at) in
    past-none (pointers (c.entries s).kind (c.chunks p).words) i w past (ap (λ (k : ℕ). slice_get (pointers (c.entries s).kind (c.chunks k).words) i) (sym place) ∙ is.word)
  where
    some-same : (a b : ℕ) → Some a ≡ Some b → a ≡ b
    some-same a b e = cc

    past-none : (xs : List ℕ) (i w : ℕ) → length xs ≤ i → slice_get xs i ≡ Some w → ⊥
    past-none [] i w low e = cc
    past-none (x ∷ xs) zero w low e = absurd (omega arith)
    past-none (x ∷ xs) (suc i) w low e = past-none xs i w (omega arith) e

-- ---- a field that may have been left on the disk

pub steady-refl : {H : Type 0} (host : Ghosts H) (m : LoomMemory H host) → IsSteady host m m
steady-refl {H} host m = record { gentle = gentle-refl host m; words = refl; idle = record { host = refl; rest = refl; fetches = refl }; none = remains-refl (core_of m.pager.levels.parts) }

pub steady-peek : {H : Type 0} (host : Ghosts H) (m n : LoomMemory H host) → IsSteady host m n → IsPeek host m n
steady-peek {H} host m n steady = record { gentle = steady.gentle; fetches = steady.idle.fetches; none = steady.none }

pub peek-trans : {H : Type 0} (host : Ghosts H) (a b c : LoomMemory H host) → IsPeek host a b → IsPeek host b c → IsPeek host a c
peek-trans {H} host a b c x y = record { gentle = gentle-trans host a b c x.gentle y.gentle; fetches = y.fetches ∙ x.fetches; none = remains-trans (core_of c.pager.levels.parts) (core_of b.pager.levels.parts) (core_of a.pager.levels.parts) y.none x.none }

-- what holds of a body isn't said of a leaf
pub no-body : {T : Type 0} (A : Type 0) (r : Result T MemFault) (o : Option ℕ) → o ≡ None → OnOk r ((at : ℕ) → o ≡ Some at → A)
no-body {T} A (Ok x) o none = λ at some. absurd (let both : None ≡ Some at = sym none ∙ some in cc)
no-body {T} A (Err f) o none = tt

-- what was loaded, where room was asked for
pub load-searched : {H : Type 0} (host : Ghosts H) (m u : LoomMemory H host) (of : ℕ) → IsSound host m → IsSound host u → IsRef ((loom_told host m).regs of) → IsTrue (is_resident u (name_at ((loom_told host m).regs of)))
    → (place_of ((core_of m.pager.levels.parts).entries (word_in m.regs of)).state ≡ None → fetched u ≡ counted (fetched m))
    → (IsTrue (host.tells Work) → place_of ((core_of m.pager.levels.parts).entries (word_in m.regs of)).state ≡ None → HasRoom m.pager.levels.parts (words_at (loom_told host m).heap (name_at ((loom_told host m).regs of))) 27 → IsGentle host m u)
    → ((at : ℕ) → place_of ((core_of m.pager.levels.parts).entries (word_in m.regs of)).state ≡ Some at → HasRoom m.pager.levels.parts 0 27 → u ≡ m) → MindsCache host None m u (IsBrought m u (name_at ((loom_told host m).regs of))) → IsSearched host m u (name_at ((loom_told host m).regs of))
load-searched {H} host m u of sound now ref there counts gentle same minds = record {
  there = there;
  stays = λ space. remains-residents m u m.pager.levels.whole.parts.core u.pager.levels.whole.parts.core (each space).remains;
  cached = λ space. (each space).cache;
  read = λ space. (each space).read;
  comes = λ away. counts (none-of (place_of ((core_of m.pager.levels.parts).entries (word_in m.regs of)).state) (is_resident m (name_at ((loom_told host m).regs of))) is away);
  none = λ here room. ap (λ (z : LoomMemory H host). fetched z) (still here room);
  minds = minds;
}
  where
    is : is_resident m (name_at ((loom_told host m).regs of)) ≡ is_some (place_of ((core_of m.pager.levels.parts).entries (word_in m.regs of)).state)
    is = resident-at host m of (word_in m.regs of) sound ref refl

    still : IsTrue (is_resident m (name_at ((loom_told host m).regs of))) → HasRoom m.pager.levels.parts 0 27 → u ≡ m
    still here room = let at = some-of (place_of ((core_of m.pager.levels.parts).entries (word_in m.regs of)).state) (is_resident m (name_at ((loom_told host m).regs of))) (resident-at host m of (word_in m.regs of) sound ref refl) here in same at.0 at.1 room

    stands : IsTrue (is_resident m (name_at ((loom_told host m).regs of))) → HasRoom m.pager.levels.parts 0 27 → IsGentle host m u
    stands here room = let at = some-of (place_of ((core_of m.pager.levels.parts).entries (word_in m.regs of)).state) (is_resident m (name_at ((loom_told host m).regs of))) (resident-at host m of (word_in m.regs of) sound ref refl) here in subst (λ (z : LoomMemory H host). IsGentle host m z) (sym (same at.0 at.1 room)) (gentle-refl host m)

    comes-in : (b : Bool) → is_resident m (name_at ((loom_told host m).regs of)) ≡ b → IsTrue (host.tells Work) → HasRoom m.pager.levels.parts (words_at (loom_told host m).heap (name_at ((loom_told host m).regs of))) 27 → IsGentle host m u
    comes-in true e told room = stands e (room-less m.pager.levels.parts (words_at (loom_told host m).heap (name_at ((loom_told host m).regs of))) 27 room)
    comes-in false e told room = gentle told (none-of (place_of ((core_of m.pager.levels.parts).entries (word_in m.regs of)).state) (is_resident m (name_at ((loom_told host m).regs of))) (resident-at host m of (word_in m.regs of) sound ref refl) e) room

    each : HasSpace host m (name_at ((loom_told host m).regs of)) → IsGentle host m u
    each space = ⊎_elim (λ (h : IsTrue (is_resident m (name_at ((loom_told host m).regs of))) × HasRoom m.pager.levels.parts 0 27). stands h.0 h.1)
        (λ (h : IsTrue (host.tells Work) × HasRoom m.pager.levels.parts (words_at (loom_told host m).heap (name_at ((loom_told host m).regs of))) 27). comes-in (is_resident m (name_at ((loom_told host m).regs of))) refl h.0 h.1) space

pub here-searched : {H : Type 0} (host : Ghosts H) (m : LoomMemory H host) (n : ℕ) → IsSound host m → IsTrue (is_resident m n) → IsSearched host m m n
here-searched {H} host m n sound there = record {
  there = there;
  stays = λ space k here. here;
  cached = λ space. refl;
  read = λ space. read-refl host m.pager.levels.disk.host.now;
  comes = λ away. absurd (let both : true ≡ false = sym there ∙ away in cc);
  none = λ here room. refl;
  minds = minds-refl host m (IsBrought m m n) sound;
}

pub peek-searched : {H : Type 0} (host : Ghosts H) (m u v : LoomMemory H host) (n : ℕ) → IsSearched host m u n → IsPeek host u v → IsCore (core_of u.pager.levels.parts) → IsCore (core_of v.pager.levels.parts) → IsSearched host m v n
peek-searched {H} host m u v n was peek core now =
    let keeps = remains-residents u v core now peek.gentle.remains in
    record {
      there = keeps n was.there;
      stays = λ space k here. keeps k (was.stays space k here);
      cached = λ space. peek.gentle.cache ∙ was.cached space;
      read = λ space. read-trans host m.pager.levels.disk.host.now u.pager.levels.disk.host.now v.pager.levels.disk.host.now (was.read space) peek.gentle.read;
      comes = λ away. peek.fetches ∙ was.comes away;
      none = λ here room. peek.fetches ∙ was.none here room;
      minds = minds-wide host None m v (IsBrought m u n) (IsBrought m v n) (λ k. brought-same m u v n k peek.fetches) (minds-step host m u v (IsBrought m u n) was.minds core now peek.gentle.remains peek.none peek.gentle.cache);
    }

pub then-searched : {T H : Type 0} (r : Result T MemFault) (host : Ghosts H) (m u v : LoomMemory H host) (n : ℕ) → IsSearched host m u n → OnOk r (IsPeek host u v) → IsCore (core_of u.pager.levels.parts) → KeepsSound r (IsSound host v) → OnOk r (IsSearched host m v n)
then-searched {T} {H} (Ok x) host m u v n was peek core now = peek-searched host m u v n was peek core v.pager.levels.whole.parts.core
then-searched {T} {H} (Err f) host m u v n was peek core now = tt

-- ---- a store into a field that is at hand

pub rest-trans : {H : Type 0} {host : Ghosts H} (a b c : LoomMemory H host) → IsResting a b → IsResting b c → IsResting a c
rest-trans {H} {host} a b c x y = record {
  remains = remains-trans (core_of a.pager.levels.parts) (core_of b.pager.levels.parts) (core_of c.pager.levels.parts) x.remains y.remains;
  idle = record { host = y.idle.host ∙ x.idle.host; rest = y.idle.rest ∙ x.idle.rest; fetches = y.idle.fetches ∙ x.idle.fetches };
}

-- ---- a store into a field that may have been left on the disk

pub peek-glance : {H : Type 0} (host : Ghosts H) (m n : LoomMemory H host) → IsPeek host m n → IsGlance host m n
peek-glance {H} host m n peek = record { remains = peek.gentle.remains; read = peek.gentle.read; fetches = peek.fetches }

pub rest-glance : {H : Type 0} (host : Ghosts H) (m n : LoomMemory H host) → IsResting m n → IsGlance host m n
rest-glance {H} host m n rest = record { remains = rest.remains; read = subst (λ (x : H). IsWorkRead host m.pager.levels.disk.host.now x) (sym rest.idle.host) (read-refl host m.pager.levels.disk.host.now); fetches = rest.idle.fetches }

pub glance-trans : {H : Type 0} (host : Ghosts H) (a b c : LoomMemory H host) → IsGlance host a b → IsGlance host b c → IsGlance host a c
glance-trans {H} host a b c x y = record {
  remains = remains-trans (core_of a.pager.levels.parts) (core_of b.pager.levels.parts) (core_of c.pager.levels.parts) x.remains y.remains;
  read = read-trans host a.pager.levels.disk.host.now b.pager.levels.disk.host.now c.pager.levels.disk.host.now x.read y.read;
  fetches = y.fetches ∙ x.fetches;
}

glance-change : {H : Type 0} (host : Ghosts H) (m u v : LoomMemory H host) (n : ℕ) → IsSearchedChange host m u n → IsGlance host u v → IsCore (core_of u.pager.levels.parts) → IsCore (core_of v.pager.levels.parts) → IsSearchedChange host m v n
glance-change {H} host m u v n was glance core now =
    let keeps = remains-residents u v core now glance.remains in
    record {
      there = keeps n was.there;
      stays = λ space k here. keeps k (was.stays space k here);
      read = λ space. read-trans host m.pager.levels.disk.host.now u.pager.levels.disk.host.now v.pager.levels.disk.host.now (was.read space) glance.read;
      comes = λ away. glance.fetches ∙ was.comes away;
      none = λ here room. glance.fetches ∙ was.none here room;
    }

pub searched-change : {H : Type 0} (host : Ghosts H) (m u v : LoomMemory H host) (n : ℕ) → IsSearched host m u n → IsResting u v → IsCore (core_of u.pager.levels.parts) → IsCore (core_of v.pager.levels.parts) → IsSearchedChange host m v n
searched-change {H} host m u v n was rest core now =
    glance-change host m u v n (record { there = was.there; stays = was.stays; read = was.read; comes = was.comes; none = was.none }) (rest-glance host u v rest) core now

pub then-change : {T H : Type 0} (r : Result T MemFault) (host : Ghosts H) (m u v : LoomMemory H host) (n : ℕ) → IsSearchedChange host m u n → OnOk r (IsGlance host u v) → IsCore (core_of u.pager.levels.parts) → KeepsSound r (IsSound host v) → OnOk r (IsSearchedChange host m v n)
then-change {T} {H} (Ok x) host m u v n was glance core now = glance-change host m u v n was glance core v.pager.levels.whole.parts.core
then-change {T} {H} (Err f) host m u v n was glance core now = tt

-- changes of counts
pub recount-remains : (x y : Core) → IsRecount x y → Remains x y
recount-remains x y step = λ s p at. let same = step.entries s in record { at = p; place = ap (λ (e : Entry). place_of e.state) same ∙ at; name = ap (λ (e : Entry). e.name) same }

-- a field is there still where marks went
pub unmark-at : (x y : Core) (s p i w : ℕ) → IsUnmarking x y → IsAt x s p i w → IsAt y s p i w
unmark-at x y s p i w step at = record {
  place = (unmark-remains-place x y s step) ∙ at.place;
  word = ap (λ (k : Kind). slice_get (pointers k (y.chunks p).words) i) (unmark-kind x y s step) ∙ ap (λ (f : ℕ → Chunk). slice_get (pointers (x.entries s).kind (f p).words) i) step.chunks ∙ at.word;
}
  where
    unmark-remains-place : (x y : Core) (s : ℕ) → IsUnmarking x y → place_of (y.entries s).state ≡ place_of (x.entries s).state
    unmark-remains-place x y s step = ⊎_elim (λ (same : y.entries s ≡ x.entries s). ap (λ (e : Entry). place_of e.state) same) (λ (off : y.entries s ≡ unmarked (x.entries s)). ap (λ (e : Entry). place_of e.state) off) (step.entries s)

    unmark-kind : (x y : Core) (s : ℕ) → IsUnmarking x y → (y.entries s).kind ≡ (x.entries s).kind
    unmark-kind x y s step = ⊎_elim (λ (same : y.entries s ≡ x.entries s). ap (λ (e : Entry). e.kind) same) (λ (off : y.entries s ≡ unmarked (x.entries s)). ap (λ (e : Entry). e.kind) off) (step.entries s)

-- a body has one place
pub at-place-of : (c : Core) (s p q i w : ℕ) → IsAt c s p i w → place_of (c.entries s).state ≡ Some q → IsAt c s q i w
at-place-of c s p q i w at there = subst (λ (k : ℕ). IsAt c s k i w) (same p q (sym at.place ∙ there)) at
  where
    same : (a b : ℕ) → Some a ≡ Some b → a ≡ b
    same a b e = cc

-- ---- what is said

pub speech-refl : {H : Type 0} (host : Ghosts H) (m : LoomMemory H host) → IsSpeech host m m
speech-refl {H} host m = record { parts = refl; ledger = refl; due = refl; thinned = refl; work = refl; writes = refl }

pub speech-trans : {H : Type 0} (host : Ghosts H) (a b c : LoomMemory H host) → IsSpeech host a b → IsSpeech host b c → IsSpeech host a c
speech-trans {H} host a b c x y = record { parts = y.parts ∙ x.parts; ledger = y.ledger ∙ x.ledger; due = y.due ∙ x.due; thinned = y.thinned ∙ x.thinned; work = y.work ∙ x.work; writes = y.writes ∙ x.writes }

pub speech-resident : {H : Type 0} {host : Ghosts H} (u v : LoomMemory H host) (k : ℕ) → v.pager.levels.parts ≡ u.pager.levels.parts → is_resident v k ≡ is_resident u k
unfolding is_resident
speech-resident {H} {host} u v k same = ap (λ (p : Parts). has_body (core_of p) ((core_of p).find k)) same

speech-cache : {H : Type 0} (host : Ghosts H) (u v : LoomMemory H host) → v.pager.levels.parts ≡ u.pager.levels.parts → v.ledger ≡ u.ledger → (loom_told host v).cache ≡ (loom_told host u).cache
unfolding loom_told
speech-cache {H} host u v parts ledger = ap (λ (p : Parts). cache_of (core_of p) (found v.ledger.rows) v.ledger.mark v.ledger.begun) parts ∙ ap (λ (k : Ledger). cache_of (core_of u.pager.levels.parts) (found k.rows) k.mark k.begun) ledger

pub then-heard : {T A H : Type 0} (r : Result T MemFault) (host : Ghosts H) (m u v : LoomMemory H host) (n : ℕ) (x : A) → IsSparing {A = A} host m u n (Ok x) → OnOk r (IsSpeech host u v) → OnOk r (IsHeard host m v n)
then-heard {T} {A} {H} (Ok y) host m u v n x was speech = record {
  there = speech-resident u v n speech.parts ∙ was.reached.there;
  stays = λ place k here. speech-resident u v k speech.parts ∙ was.reached.stays place k here;
  cached = λ place. speech-cache host u v speech.parts speech.ledger ∙ was.cached place;
  work = λ place. speech.work ∙ (was.reached.read place).roles Work;
  writes = λ place. speech.writes ∙ (was.reached.read place).writes;
  none = λ here. fetched-same u v speech.ledger ∙ (was.reached.idle here).fetches;
  comes = λ away. fetched-same u v speech.ledger ∙ was.reached.comes away;
  minds = minds-wide host None m v (IsBrought m u n) (IsBrought m v n) (λ k. brought-same m u v n k (fetched-same u v speech.ledger)) (minds-parts host m u v (IsBrought m u n) was.minds speech.parts (speech-cache host u v speech.parts speech.ledger));
}
then-heard {T} {A} {H} (Err f) host m u v n x was speech = tt

-- ---- a name that comes into a register

pub steady-trans : {H : Type 0} (host : Ghosts H) (a b c : LoomMemory H host) → IsSteady host a b → IsSteady host b c → IsSteady host a c
steady-trans {H} host a b c x y = record {
  gentle = gentle-trans host a b c x.gentle y.gentle;
  words = y.words ∙ x.words;
  idle = record { host = y.idle.host ∙ x.idle.host; rest = y.idle.rest ∙ x.idle.rest; fetches = y.idle.fetches ∙ x.idle.fetches };
  none = remains-trans (core_of c.pager.levels.parts) (core_of b.pager.levels.parts) (core_of a.pager.levels.parts) y.none x.none;
}

-- no entry is wanting where some are free
pub none-wanting : {T : Type 0} (A : Type 0) (r : Result T MemFault) (p : Parts) (free : ℕ) → spare_of p ≡ free → free ≡ 0 → OnOk r (HasRoom p 0 27 → A)
none-wanting {T} A (Ok x) p free is none = λ room. absurd (let most = room.1 in omega (arith, most, is, none))
none-wanting {T} A (Err f) p free is none = tt

pub then-number : {T : Type 0} (P A : Type 0) (r : Result T MemFault) → OnOk r A → OnOk r (P → A)
then-number {T} P A (Ok x) a = λ p. a
then-number {T} P A (Err f) a = tt

-- ---- a mark

pub mark-remains : (x y : Core) (s : ℕ) → y ≡ with_entry x s (with_its_mark (x.entries s)) → Remains x y
mark-remains x y s is = λ t p at. ⊎_elim
    (λ (h : t ≡ s). let same : y.entries t ≡ with_its_mark (x.entries s) = ap (λ (c : Core). c.entries t) is ∙ ap (put x.entries s (with_its_mark (x.entries s))) h ∙ put-here x.entries s (with_its_mark (x.entries s)) in
    record { at = p; place = ap (λ (e : Entry). place_of e.state) same ∙ ap (λ (k : ℕ). place_of (x.entries k).state) (sym h) ∙ at; name = ap (λ (e : Entry). e.name) same ∙ ap (λ (k : ℕ). (x.entries k).name) (sym h) })
    (λ (h : t ≢ s). let same : y.entries t ≡ x.entries t = ap (λ (c : Core). c.entries t) is ∙ put-there x.entries s (with_its_mark (x.entries s)) t h in
    record { at = p; place = ap (λ (e : Entry). place_of e.state) same ∙ at; name = ap (λ (e : Entry). e.name) same }) (cases_eq t s)

-- and none comes
pub mark-none : (x y : Core) (s : ℕ) → y ≡ with_entry x s (with_its_mark (x.entries s)) → Remains y x
mark-none x y s is = λ t p at. ⊎_elim
    (λ (h : t ≡ s). let same : y.entries t ≡ with_its_mark (x.entries s) = ap (λ (c : Core). c.entries t) is ∙ ap (put x.entries s (with_its_mark (x.entries s))) h ∙ put-here x.entries s (with_its_mark (x.entries s)) in
    record { at = p; place = ap (λ (k : ℕ). place_of (x.entries k).state) h ∙ ap (λ (e : Entry). place_of e.state) (sym same) ∙ at; name = ap (λ (k : ℕ). (x.entries k).name) h ∙ ap (λ (e : Entry). e.name) (sym same) })
    (λ (h : t ≢ s). let same : y.entries t ≡ x.entries t = ap (λ (c : Core). c.entries t) is ∙ put-there x.entries s (with_its_mark (x.entries s)) t h in
    record { at = p; place = ap (λ (e : Entry). place_of e.state) (sym same) ∙ at; name = ap (λ (e : Entry). e.name) (sym same) }) (cases_eq t s)

-- and none comes where counts change
pub recount-none : (x y : Core) → IsRecount x y → Remains y x
recount-none x y step = λ s p at. let same = step.entries s in record { at = p; place = ap (λ (e : Entry). place_of e.state) (sym same) ∙ at; name = ap (λ (e : Entry). e.name) (sym same) }

-- the entry of a register, after a quiet step
pub entry-named : {H : Type 0} (host : Ghosts H) (m u : LoomMemory H host) (of s : ℕ) → IsSound host u → HasThinned (loom_told host m) (loom_told host u) → IsRef ((loom_told host m).regs of) → s ≡ word_in u.regs of → ((core_of u.pager.levels.parts).entries s).name ≡ name_at ((loom_told host m).regs of)
entry-named {H} host m u of s sound thin ref word =
    let same : (loom_told host u).regs of ≡ (loom_told host m).regs of = ap (λ (z : Told). z.regs of) thin.same in
    let it = entry-at host u of s sound (subst IsRef (sym same) ref) word in
    ap name_at (sym it.name ∙ same)
