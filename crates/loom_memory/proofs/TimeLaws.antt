-- When what is dead is looked for next, and where it is said still that nothing is.
use Rattle.std.proofs.Common.{◌≡◌, ◌≢◌, inl, inr, ⊎_elim, ℕ, ◌+◌, ◌<◌, ◌≤◌, true, Option, Some, None, List, Result, Ok, Err, IsTrue, sym, ◌∙◌, ap, subst, arith}
use Rattle.std.specs.Prelude.{OnOk, slice_get}
use Rattle.std.proofs.lemmas.Bool.{cases_lt}
use Rattle.long_names.specs.Kept.{kept}
use Rattle.long_names.specs.Access.{Make, heap_after}
use Rattle.long_names.specs.Objects.{Making, body_made, body_words}
use Rattle.long_names.specs.State.{name_at, IsRef}
use Rattle.loom_host.specs.declared.outside.Host.{Ghosts}
use Rattle.loom_host.specs.declared.outside.Role.TheVariants.{Work}
use Rattle.object_memory.specs.declared.fault.MemFault.{MemFault}
use Rattle.object_memory.specs.Told.{Told, is_root}
use Rattle.object_table.specs.Entries.{is_short, place_of}
use Rattle.core_view.specs.Words.{pointers}
use Rattle.core_view.specs.Steps.{IsAt}
use Rattle.leaf_lambda.specs.Parts.{core_of}
use Rattle.purger.specs.Purge.{HasRoom}
use Rattle.disk_objects.specs.Disk.{disk_room}
use Rattle.loom_memory.specs.declared.memory.LoomMemory.{LoomMemory}
use Rattle.loom_memory.specs.Freed.{IsAlive, IsDoneOfLiving, IsFreed, IsFreedMaking, IsOnTime}
use Rattle.loom_memory.specs.Makings.{HasBegun, HasMade, HasThinned}
use Rattle.loom_memory.specs.Memory.{loom_told, word_in, IsNamedIn, IsSound, IsThin}
use Rattle.loom_memory.specs.Gentle.{IsQuiet}
use Rattle.loom_memory.specs.Own.{IsAtHand}
use Rattle.loom_memory.specs.Says.{IsSpeech}
use Rattle.loom_memory.specs.Thinned.{KeepsThinned, StaysThinned}
use Rattle.loom_memory.proofs.FirstRoomLaws.{alive-anew, alive-quiet, alive-thinned}
use Rattle.loom_memory.proofs.DeadLaws.{nothing-kept, thin-none}
use Rattle.loom_memory.proofs.GentleLaws.{entry-at}
use Rattle.object_memory.specs.Told.{IsReady}

-- ---- when it is looked for

-- where it is said that nothing is dead, nothing is
pub alive-is : {H : Type 0} (host : Ghosts H) (m : LoomMemory H host) → IsThin host m → m.thinned ≡ true → IsAlive (loom_told host m)
alive-is {H} host m thin on = λ told. nothing-kept (loom_told host m) told (thin-none host m thin on)

pub time-same : {H : Type 0} (host : Ghosts H) (m n : LoomMemory H host) → n.due ≡ m.due → IsOnTime host m n
time-same {H} host m n same = inl (omega arith)

-- a step behind which nothing is dead where nothing was
pub time-then : {H : Type 0} (host : Ghosts H) (m u v : LoomMemory H host) → IsOnTime host m u → IsOnTime host u v → (IsAlive (loom_told host u) → IsAlive (loom_told host v)) → IsOnTime host m v
time-then {H} host m u v first last still = ⊎_elim
    (λ (low : v.due ≤ u.due). ⊎_elim (λ (low_ : u.due ≤ m.due). inl (omega arith)) (λ (alive : IsAlive (loom_told host u)). inr (still alive)) first)
    (λ (alive : IsAlive (loom_told host v)). inr alive) last

pub time-after : {T H : Type 0} (r : Result T MemFault) (host : Ghosts H) (m u v : LoomMemory H host) → IsOnTime host m u → OnOk r (IsOnTime host u v) → OnOk r (IsAlive (loom_told host u) → IsAlive (loom_told host v)) → OnOk r (IsOnTime host m v)
time-after {T} {H} (Ok x) host m u v first last still = time-then host m u v first last still
time-after {T} {H} (Err f) host m u v first last still = tt

pub time-quiet : {H : Type 0} (host : Ghosts H) (m u v : LoomMemory H host) → IsOnTime host m u → v.due ≡ u.due → IsQuiet (loom_told host u) (loom_told host v) → IsOnTime host m v
time-quiet {H} host m u v first same quiet = time-then host m u v first (time-same host u v same) (λ alive. alive-quiet (loom_told host u) (loom_told host v) quiet alive)

pub time-calm : {T H : Type 0} (r : Result T MemFault) (host : Ghosts H) (m u v : LoomMemory H host) → IsOnTime host m u → OnOk r (v.due ≡ u.due) → OnOk r (IsQuiet (loom_told host u) (loom_told host v)) → OnOk r (IsOnTime host m v)
time-calm {T} {H} (Ok x) host m u v first same quiet = time-quiet host m u v first same quiet
time-calm {T} {H} (Err f) host m u v first same quiet = tt

pub time-thinned : {H : Type 0} (host : Ghosts H) (m u v : LoomMemory H host) → IsOnTime host m u → IsOnTime host u v → HasThinned (loom_told host u) (loom_told host v) → IsReady (loom_told host u) → IsOnTime host m v
time-thinned {H} host m u v first last thin ready = time-then host m u v first last (λ alive. alive-thinned (loom_told host u) (loom_told host v) thin ready alive)

-- a record was read first
pub time-read : {T H : Type 0} (r : Result T MemFault) (host : Ghosts H) (m u v : LoomMemory H host) → u.due ≡ m.due → OnOk r (IsOnTime host u v) → OnOk r (IsOnTime host m v)
time-read {T} {H} (Ok x) host m u v same last = ⊎_elim (λ (low : v.due ≤ u.due). inl (omega arith)) (λ (alive : IsAlive (loom_told host v)). inr alive) last
time-read {T} {H} (Err f) host m u v same last = tt

pub time-alive : {T H : Type 0} (r : Result T MemFault) (host : Ghosts H) (m v : LoomMemory H host) → OnOk r (IsTrue (host.tells Work) → kept (loom_told host v).heap (is_root (loom_told host v)) ≡ (loom_told host v).heap) → OnOk r (IsOnTime host m v)
unfolding loom_told
time-alive {T} {H} (Ok x) host m v again = inr again
time-alive {T} {H} (Err f) host m v again = tt

pub still-alive : {T H : Type 0} (r : Result T MemFault) (host : Ghosts H) (u v : LoomMemory H host) → OnOk r (IsTrue (host.tells Work) → kept (loom_told host v).heap (is_root (loom_told host v)) ≡ (loom_told host v).heap) → OnOk r (IsAlive (loom_told host u) → IsAlive (loom_told host v))
unfolding loom_told
still-alive {T} {H} (Ok x) host u v again = λ was. again
still-alive {T} {H} (Err f) host u v again = tt

pub time-anew : {H : Type 0} (host : Ghosts H) (m u v : LoomMemory H host) (base : Option ℕ) → IsOnTime host m u → v.due ≡ u.due → HasBegun (loom_told host u) (loom_told host v) base → IsOnTime host m v
time-anew {H} host m u v base first same begun = time-then host m u v first (time-same host u v same) (λ alive. alive-anew (loom_told host u) (loom_told host v) base begun alive)

-- ---- that nothing is dead is said still

pub keeps-then : {T H : Type 0} {host : Ghosts H} (r : Result T MemFault) (m u v : LoomMemory H host) → KeepsThinned m u → OnOk r (v.thinned ≡ u.thinned) → OnOk r (KeepsThinned m v)
keeps-then {T} {H} {host} (Ok x) m u v first same = λ on. same ∙ first on
keeps-then {T} {H} {host} (Err f) m u v first same = tt

pub keeps-read : {T H : Type 0} {host : Ghosts H} (r : Result T MemFault) (m u v : LoomMemory H host) → u.thinned ≡ m.thinned → OnOk r (KeepsThinned u v) → OnOk r (KeepsThinned m v)
keeps-read {T} {H} {host} (Ok x) m u v same last = λ on. last (same ∙ on)
keeps-read {T} {H} {host} (Err f) m u v same last = tt

-- nothing was freed
pub keeps-last : {T H : Type 0} {host : Ghosts H} (r : Result T MemFault) (m u v : LoomMemory H host) → (m.thinned ≡ true → u ≡ m) → OnOk r (v.thinned ≡ u.thinned) → OnOk r (KeepsThinned m v)
keeps-last {T} {H} {host} (Ok x) m u v lasts same = λ on. same ∙ ap (λ (z : LoomMemory H host). z.thinned) (lasts on) ∙ on
keeps-last {T} {H} {host} (Err f) m u v lasts same = tt

pub stays-then : {T H : Type 0} {host : Ghosts H} (r : Result T MemFault) (m u v : LoomMemory H host) (w x : ℕ) → KeepsThinned m u → x ≡ w → OnOk r (StaysThinned u v x) → OnOk r (StaysThinned m v w)
stays-then {T} {H} {host} (Ok y) m u v w x first same last = λ on named. last (first on) (subst (λ (k : ℕ). is_short k ≡ true → IsNamedIn (core_of v.pager.levels.parts) k) (sym same) named)
stays-then {T} {H} {host} (Err f) m u v w x first same last = tt

pub stays-on : {H : Type 0} {host : Ghosts H} (m u v : LoomMemory H host) (w x : ℕ) → KeepsThinned m u → x ≡ w → StaysThinned u v x → StaysThinned m v w
stays-on {H} {host} m u v w x first same last = λ on named. last (first on) (subst (λ (k : ℕ). is_short k ≡ true → IsNamedIn (core_of v.pager.levels.parts) k) (sym same) named)

pub keeps-on : {H : Type 0} {host : Ghosts H} (m u v : LoomMemory H host) → KeepsThinned m u → v.thinned ≡ u.thinned → KeepsThinned m v
keeps-on {H} {host} m u v first same = λ on. same ∙ first on

pub keeps-same : {H : Type 0} {host : Ghosts H} (m u : LoomMemory H host) → u.thinned ≡ m.thinned → KeepsThinned m u
keeps-same {H} {host} m u same = λ on. same ∙ on

pub word-same : {H : Type 0} {host : Ghosts H} (m u : LoomMemory H host) (r : ℕ) → u.regs ≡ m.regs → word_in u.regs r ≡ word_in m.regs r
word-same {H} {host} m u r same = ap (λ (regs : List ℕ). word_in regs r) same

-- ---- entries were asked for

-- where 27 entries weren't free, nothing is dead
pub gone-short : {H : Type 0} (host : Ghosts H) (m u n : LoomMemory H host) → IsFreed host m u 0 27 → HasThinned (loom_told host u) (loom_told host n) → IsReady (loom_told host u) → IsFreed host m n 0 27
gone-short {H} host m u n first thin ready = λ lacks due. alive-thinned (loom_told host u) (loom_told host n) thin ready (first lacks due)

-- a field that the core has
pub at-hand : {H : Type 0} (host : Ghosts H) (m : LoomMemory H host) (of s i at w : ℕ) → IsSound host m → IsRef ((loom_told host m).regs of) → s ≡ word_in m.regs of → IsAt (core_of m.pager.levels.parts) s at i w → w ≢ 0 → IsAtHand m (name_at ((loom_told host m).regs of)) i
at-hand {H} host m of s i at w sound ref same there some =
    let it = entry-at host m of s sound ref same in
    record {
      entry = s;
      at = at;
      word = w;
      found = ap (λ (n : ℕ). (core_of m.pager.levels.parts).find n) (ap name_at it.name) ∙ m.pager.levels.whole.parts.core.found s it.used;
      there = there;
      some = some;
    }

-- ---- an object was made

-- room was asked for, and dead objects went for it
pub asked-gone : {T H : Type 0} (r : Result T MemFault) (host : Ghosts H) (m u v : LoomMemory H host) (words : ℕ) → (m.ledger.held < disk_room m.pager.levels.disk.rest → u ≡ m) → (disk_room m.pager.levels.disk.rest ≤ m.ledger.held → IsAlive (loom_told host u)) → OnOk r (IsFreed host u v words 27) → OnOk r (IsAlive (loom_told host u) → IsAlive (loom_told host v)) → OnOk r (IsFreed host m v words 27)
asked-gone {T} {H} (Ok x) host m u v words same alive last still = λ lacks due. ⊎_elim
    (λ (low : m.ledger.held < disk_room m.pager.levels.disk.rest). subst (λ (z : LoomMemory H host). IsFreed host z v words 27) (same low) last lacks due)
    (λ (high : disk_room m.pager.levels.disk.rest ≤ m.ledger.held). still (alive high)) (cases_lt m.ledger.held (disk_room m.pager.levels.disk.rest))
asked-gone {T} {H} (Err f) host m u v words same alive last still = tt

pub asked-time : {T H : Type 0} (r : Result T MemFault) (host : Ghosts H) (m u v : LoomMemory H host) → (m.ledger.held < disk_room m.pager.levels.disk.rest → u ≡ m) → (disk_room m.pager.levels.disk.rest ≤ m.ledger.held → IsAlive (loom_told host u)) → OnOk r (IsOnTime host u v) → OnOk r (IsAlive (loom_told host u) → IsAlive (loom_told host v)) → OnOk r (IsOnTime host m v)
asked-time {T} {H} (Ok x) host m u v same alive last still = ⊎_elim
    (λ (low : m.ledger.held < disk_room m.pager.levels.disk.rest). subst (λ (z : LoomMemory H host). IsOnTime host z v) (same low) last)
    (λ (high : disk_room m.pager.levels.disk.rest ≤ m.ledger.held). inr (still (alive high))) (cases_lt m.ledger.held (disk_room m.pager.levels.disk.rest))
asked-time {T} {H} (Err f) host m u v same alive last still = tt

done-made : {H : Type 0} (host : Ghosts H) (m u v : LoomMemory H host) (to class : ℕ) (what : Making) → HasThinned (loom_told host m) (loom_told host u) → HasMade (loom_told host u) (loom_told host v) to class what → IsTrue (host.tells Work) → IsAlive (loom_told host u) → IsDoneOfLiving (loom_told host m) (loom_told host v) (Make to class what)
unfolding loom_told
done-made {H} host m u v to class what thin made told alive = record {
  heap = (loom_told host u).heap;
  thinning = thin.thinning told;
  alive = ap (λ (z : Told). kept (loom_told host u).heap (is_root z)) (sym thin.same) ∙ alive told;
  left = made.heap told ∙ ap (λ (z : Told). heap_after (loom_told host u).heap z.regs (Make to class what)) thin.same;
}

pub made-gone : {H : Type 0} (r : Result (Unit {0}) MemFault) (host : Ghosts H) (m u v : LoomMemory H host) (to class : ℕ) (what : Making) (words : ℕ) → words ≡ 4 + body_words (body_made what) → HasThinned (loom_told host m) (loom_told host u) → IsFreed host m u words 27 → IsOnTime host m u → OnOk r (HasMade (loom_told host u) (loom_told host v) to class what) → OnOk r (v.due ≡ u.due) → OnOk r (IsFreedMaking host m v to class what)
made-gone {H} (Ok x) host m u v to class what words is thin gone time made same = record {
  gone = λ told lacks due. done-made host m u v to class what thin made told (gone (λ room. lacks (subst (λ (k : ℕ). HasRoom m.pager.levels.parts k 27) is room)) due);
  due = λ told. ⊎_elim (λ (low : u.due ≤ m.due). inl (omega arith)) (λ (alive : IsAlive (loom_told host u)). inr (done-made host m u v to class what thin made told alive)) time;
}
made-gone {H} (Err f) host m u v to class what words is thin gone time made same = tt

-- what is said leaves both
pub speech-due : {T H : Type 0} (r : Result T MemFault) (host : Ghosts H) (u v : LoomMemory H host) → OnOk r (IsSpeech host u v) → OnOk r (v.due ≡ u.due)
speech-due {T} {H} (Ok x) host u v speech = speech.due
speech-due {T} {H} (Err f) host u v speech = tt

pub speech-keeps : {T H : Type 0} (r : Result T MemFault) (host : Ghosts H) (m u v : LoomMemory H host) → KeepsThinned m u → OnOk r (IsSpeech host u v) → OnOk r (KeepsThinned m v)
speech-keeps {T} {H} (Ok x) host m u v first speech = λ on. speech.thinned ∙ first on
speech-keeps {T} {H} (Err f) host m u v first speech = tt

pub both-rest : {T : Type 0} (P Q : Type 0) (r : Result T MemFault) → OnOk r P → OnOk r Q → OnOk r (P × Q)
both-rest {T} P Q (Ok x) p q = (p, q)
both-rest {T} P Q (Err f) p q = tt

-- the field has one word
pub stays-at : {H : Type 0} {host : Ghosts H} (m v : LoomMemory H host) (s k i at w : ℕ) → k ≡ s → IsAt (core_of m.pager.levels.parts) k at i w → StaysThinned m v w → (p x : ℕ) → IsAt (core_of m.pager.levels.parts) s p i x → x ≢ 0 → StaysThinned m v x
stays-at {H} {host} m v s k i at w same here last p x there some = subst (λ (n : ℕ). StaysThinned m v n) (one (place at p (sym (subst (λ (n : ℕ). place_of ((core_of m.pager.levels.parts).entries n).state ≡ Some at) same here.place) ∙ there.place))) last
  where
    place : (a b : ℕ) → Some a ≡ Some b → a ≡ b
    place a b e = cc

    one : at ≡ p → w ≡ x
    one e = place w x (sym (subst (λ (n : ℕ). slice_get (pointers ((core_of m.pager.levels.parts).entries n).kind ((core_of m.pager.levels.parts).chunks p).words) i ≡ Some w) same (subst (λ (q : ℕ). slice_get (pointers ((core_of m.pager.levels.parts).entries k).kind ((core_of m.pager.levels.parts).chunks q).words) i ≡ Some w) e here.word)) ∙ there.word)

-- where no word is there, or no body
pub none-there : {T H : Type 0} {host : Ghosts H} (r : Result T MemFault) (m v : LoomMemory H host) (s k i : ℕ) → k ≡ s → ((at w : ℕ) → IsAt (core_of m.pager.levels.parts) k at i w → w ≡ 0) → OnOk r ((at w : ℕ) → IsAt (core_of m.pager.levels.parts) s at i w → w ≢ 0 → StaysThinned m v w)
none-there {T} {H} {host} (Ok y) m v s k i same none = λ at w there some. absurd (some (none at w (subst (λ (n : ℕ). IsAt (core_of m.pager.levels.parts) n at i w) (sym same) there)))
none-there {T} {H} {host} (Err f) m v s k i same none = tt

pub leaf-there : {T H : Type 0} {host : Ghosts H} (r : Result T MemFault) (m v : LoomMemory H host) (s i : ℕ) → place_of ((core_of m.pager.levels.parts).entries s).state ≡ None → OnOk r ((at w : ℕ) → IsAt (core_of m.pager.levels.parts) s at i w → w ≢ 0 → StaysThinned m v w)
leaf-there {T} {H} {host} (Ok y) m v s i leaf = λ at w there some. absurd (let both : Some at ≡ None = sym there.place ∙ leaf in cc)
leaf-there {T} {H} {host} (Err f) m v s i leaf = tt

pub each-ok : {T : Type 0} (P Q : Type 0) (r : Result T MemFault) → OnOk r Q → OnOk r (P → Q)
each-ok {T} P Q (Ok x) q = λ p. q
each-ok {T} P Q (Err f) q = tt
