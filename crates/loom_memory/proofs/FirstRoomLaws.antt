-- Room is made after dead objects went: what is known of an object that comes in then, and of its register.
use Rattle.std.proofs.Common.{◌≡◌, ℕ, ◌≤◌, Bool, true, false, List, [], Option, None, Some, is_some, IsTrue, Ok, Err, Result, refl, sym, ◌∙◌, ap, subst, arith}
use Rattle.std.specs.Prelude.{OnOk, IfErr, nat_lt}
use Rattle.std.proofs.lemmas.Grind.{common_steps}
use Rattle.long_names.specs.declared.value.Value.TheVariants.{Ref}
use Rattle.long_names.specs.Heap.{Heap, Has}
use Rattle.long_names.specs.Kept.{kept}
use Rattle.long_names.specs.State.{IsRef}
use Rattle.long_names.specs.Need.{words_at}
use Rattle.long_names.specs.Access.{Access, target_of}
use Rattle.long_names.proofs.ThinLemmas.{same-there, IsWhole-bounded}
use Rattle.long_names.proofs.KeptLaws.{kept-part, kept-thinning, parts-same, thinner-part, IsPart}
use Rattle.loom_host.specs.declared.outside.Host.{Ghosts}
use Rattle.loom_host.specs.declared.outside.Role.TheVariants.{Work}
use Rattle.object_memory.specs.declared.fault.MemFault.{MemFault}
use Rattle.object_memory.specs.Told.{Told, IsReady, is_root}
use Rattle.object_memory.specs.Contract.{KeepsSound, makes}
use Rattle.object_record.specs.Buffer.{raw_of}
use Rattle.object_record.specs.Objects.{object_in}
use Rattle.object_table.specs.Entries.{is_short, is_used, place_of}
use Rattle.disk_objects.specs.Function.{disk_of}
use Rattle.core_view.specs.Core.{Core}
use Rattle.core_view.specs.Counts.{outside}
use Rattle.core_view.specs.Held.{Disk, held}
use Rattle.core_view.specs.Kept.{IsCore}
use Rattle.core_view.specs.Words.{meant}
use Rattle.core_view.proofs.Core.{held-leaf}
use Rattle.core_view.proofs.Steps.{outside-used}
use Rattle.core_view.proofs.Words.{meant-short}
use Rattle.leaf_lambda.specs.declared.parts.Parts.{Parts}
use Rattle.leaf_lambda.specs.Parts.{core_of, spare_of}
use Rattle.purger.specs.declared.room.Pinned.{Pinned}
use Rattle.purger.specs.Purge.{HasRoom}
use Rattle.purger.proofs.SoundLaws.{core-at}
use Rattle.loom_memory.specs.declared.ledger.Ledger.{Ledger}
use Rattle.loom_memory.specs.declared.memory.LoomMemory.{LoomMemory}
use Rattle.loom_memory.specs.Freed.{IsAlive, IsFreed}
use Rattle.loom_memory.specs.Gentle.{IsGentle}
use Rattle.loom_memory.specs.Makings.{HasBegun, HasThinned}
use Rattle.loom_memory.specs.Memory.{heap_if, loom_told, word_in, IsRead, IsRefused, IsSilent, IsSized, IsSound}
use Rattle.loom_memory.specs.Gentle.{IsCalm, IsQuiet}
use Rattle.loom_memory.specs.Own.{MindsCache}
use Rattle.loom_memory.specs.Residents.{has_body, is_resident}
use Rattle.loom_memory.proofs.BringLaws.{still-read, ref-short, IsLeafStill, IsNamed}
use Rattle.loom_memory.proofs.ExactLaws.{levels-told}
use Rattle.loom_memory.proofs.FreedLaws.{refused-freed}
use Rattle.loom_memory.proofs.GentleLaws.{gentle-from, record-words}
use Rattle.loom_memory.proofs.RootLaws.{rooted-there}
use Rattle.loom_memory.proofs.MakingLaws.{quiet-thinned, thinned-ready, thinned-tells, thinned-trans}
use Rattle.loom_memory.proofs.NewLaws.{calm-trans}
use Rattle.loom_memory.proofs.RegLaws.{kept-rooted, register-held, word-there}
use Rattle.loom_memory.proofs.ThinLaws.{entry-has}

-- ---- nothing dead is left

pub freed-if : {T H : Type 0} (r : Result T MemFault) (host : Ghosts H) (m n : LoomMemory H host) (words entries : ℕ) → OnOk r (IsTrue (host.tells Work) → kept (loom_told host n).heap (is_root (loom_told host n)) ≡ (loom_told host n).heap) → OnOk r (IsFreed host m n words entries)
unfolding loom_told
freed-if {T} {H} (Ok x) host m n words entries again = λ lacks due. again
freed-if {T} {H} (Err f) host m n words entries again = tt

pub alive-quiet : (t u : Told) → IsQuiet t u → IsAlive t → IsAlive u
alive-quiet t u quiet alive = λ told. ap (λ (z : Told). kept z.heap (is_root z)) quiet.same ∙ alive (ap (λ (z : Told). z.tells) (sym quiet.same) ∙ told) ∙ sym (ap (λ (z : Told). z.heap) quiet.same)

pub alive-last : {T H : Type 0} (r : Result T MemFault) (host : Ghosts H) (u v : LoomMemory H host) → (IsTrue (host.tells Work) → kept (loom_told host u).heap (is_root (loom_told host u)) ≡ (loom_told host u).heap) → OnOk r (IsQuiet (loom_told host u) (loom_told host v)) → OnOk r (IsAlive (loom_told host v))
unfolding loom_told
alive-last {T} {H} (Ok x) host u v again quiet = alive-quiet (loom_told host u) (loom_told host v) quiet again
alive-last {T} {H} (Err f) host u v again quiet = tt

pub alive-anew : (t u : Told) (base : Option ℕ) → HasBegun t u base → IsAlive t → IsAlive u
alive-anew t u base begun alive = λ told. ap (λ (z : Told). kept z.heap (is_root z)) begun.same ∙ alive (ap (λ (z : Told). z.tells) (sym begun.same) ∙ told) ∙ sym (ap (λ (z : Told). z.heap) begun.same)

-- what is thinned then is as it was
pub alive-thinned : (t u : Told) → HasThinned t u → IsReady t → IsAlive t → IsAlive u
alive-thinned t u thin ready alive = λ told.
    let told_ : IsTrue t.tells = sym (thinned-tells t u thin) ∙ told in
    let x = thin.thinning told_ in
    let same : kept u.heap (is_root t) ≡ t.heap = kept-thinning t.heap u.heap t.regs t.slots (is_root t) x (IsWhole-bounded t.heap t.regs t.slots (ready.whole told_)) (λ n on. rooted-there u.heap t.regs t.slots n x.whole on) ∙ alive told_ in
    let part : IsPart t.heap u.heap = subst (λ (h : Heap). IsPart h u.heap) same (kept-part u.heap (is_root t)) in
    let heap : t.heap ≡ u.heap = parts-same t.heap u.heap part (thinner-part t.heap u.heap x.thinner) in
    ap (λ (z : Told). kept u.heap (is_root z)) thin.same ∙ same ∙ heap

-- the record was read before, of an object of so many words
pub gone-read : {T H : Type 0} (r : Result T MemFault) (host : Ghosts H) (m u n : LoomMemory H host) (s words : ℕ) → IsSound host u → is_used ((core_of u.pager.levels.parts).entries s).state ≡ true → u.pager.levels.parts ≡ m.pager.levels.parts → IsQuiet (loom_told host m) (loom_told host u) → IsSized (host.tells Work) (disk_of host u.pager.levels.disk.host.now u.pager.levels.disk.rest ((core_of u.pager.levels.parts).entries s).name) words
    → u.ledger ≡ m.ledger → u.due ≡ m.due → OnOk r (IsFreed host u n words 27)
    → OnOk r (IsTrue (host.tells Work) → place_of ((core_of m.pager.levels.parts).entries s).state ≡ None → IsFreed host m n (words_at (loom_told host m).heap ((core_of m.pager.levels.parts).entries s).name) 27)
gone-read {T} {H} (Ok x) host m u n s words sound used same quiet sized ledger due_ gone = λ told leaf lacks due.
    let away = subst (λ (p : Parts). place_of ((core_of p).entries s).state ≡ None) (sym same) leaf in
    let is = record-words host m u s words sound used same quiet sized told away in
    let next = ap (λ (k : Ledger). k.next) ledger in
    gone (λ room. lacks (subst (λ (k : ℕ). HasRoom m.pager.levels.parts k 27) (sym is) (subst (λ (p : Parts). HasRoom p words 27) same room))) (omega (arith, due, due_, next))
gone-read {T} {H} (Err f) host m u n s words sound used same quiet sized ledger due_ gone = tt

-- entries were asked for before, and nothing was done where they were there
pub gone-loaded : {H : Type 0} (host : Ghosts H) (m u n : LoomMemory H host) (s k : ℕ) → IsReady (loom_told host u) → HasThinned (loom_told host u) (loom_told host n) → IsFreed host m u 0 27 → (HasRoom m.pager.levels.parts 0 27 → u ≡ m) → k ≡ ((core_of m.pager.levels.parts).entries s).name
    → (IsTrue (host.tells Work) → place_of ((core_of u.pager.levels.parts).entries s).state ≡ None → IsFreed host u n (words_at (loom_told host u).heap ((core_of u.pager.levels.parts).entries s).name) 27)
    → IsTrue (host.tells Work) → place_of ((core_of m.pager.levels.parts).entries s).state ≡ None → IsFreed host m n (words_at (loom_told host m).heap k) 27
gone-loaded {H} host m u n s k ready thin first same name last told leaf lacks due = go (nat_lt (spare_of m.pager.levels.parts) 27) refl
  where
    go : (b : Bool) → nat_lt (spare_of m.pager.levels.parts) 27 ≡ b → IsAlive (loom_told host n)
    go true e = alive-thinned (loom_told host u) (loom_told host n) thin ready (first (λ room. let some = room.1 in absurd (grind (arith, common_steps))) due)
    go false e =
        let is : u ≡ m = same (omega arith, grind (arith, common_steps)) in
        let all : IsFreed host m n (words_at (loom_told host m).heap ((core_of m.pager.levels.parts).entries s).name) 27 =
        subst (λ (z : LoomMemory H host). place_of ((core_of z.pager.levels.parts).entries s).state ≡ None → IsFreed host z n (words_at (loom_told host z).heap ((core_of z.pager.levels.parts).entries s).name) 27) is (last told) leaf in
        all (λ room. lacks (subst (λ (j : ℕ). HasRoom m.pager.levels.parts (words_at (loom_told host m).heap j) 27) (sym name) room)) due

-- ---- a leaf that is named from outside

-- an object that is in the core was there before dead objects went
leaf-stays : {H : Type 0} (host : Ghosts H) (m u : LoomMemory H host) (t : ℕ) → IsSound host m → IsSound host u → IsCalm m.pager.pinned (core_of m.pager.levels.parts) (core_of u.pager.levels.parts) → MindsCache host None m u (λ k. ⊥) → 1 ≤ outside (core_of m.pager.levels.parts) t → place_of ((core_of m.pager.levels.parts).entries t).state ≡ None → place_of ((core_of u.pager.levels.parts).entries t).state ≡ None
unfolding is_resident
leaf-stays {H} host m u t sound now calm minds out leaf = go (place_of ((core_of u.pager.levels.parts).entries t).state) refl
  where
    name : ℕ
    name = ((core_of m.pager.levels.parts).entries t).name

    away : is_resident m name ≡ false
    away = ap (has_body (core_of m.pager.levels.parts)) (m.pager.levels.whole.parts.core.found t (outside-used (core_of m.pager.levels.parts) t m.pager.levels.whole.parts.core out)) ∙ ap (λ (x : Option ℕ). is_some x) leaf

    out_now : 1 ≤ outside (core_of u.pager.levels.parts) t
    out_now = subst (λ (n : ℕ). 1 ≤ n) (sym (calm.same_outside t)) out

    here : (p : ℕ) → place_of ((core_of u.pager.levels.parts).entries t).state ≡ Some p → IsTrue (is_resident u name)
    here p e = ap (λ (k : ℕ). has_body (core_of u.pager.levels.parts) ((core_of u.pager.levels.parts).find k)) (sym (calm.live t out))
        ∙ ap (has_body (core_of u.pager.levels.parts)) (u.pager.levels.whole.parts.core.found t (outside-used (core_of u.pager.levels.parts) t u.pager.levels.whole.parts.core out_now)) ∙ ap (λ (x : Option ℕ). is_some x) e

    go : (x : Option ℕ) → place_of ((core_of u.pager.levels.parts).entries t).state ≡ x → place_of ((core_of u.pager.levels.parts).entries t).state ≡ None
    go None e = e
    go (Some p) e = absurd (minds.others name away (here p e))

pub leaf-first : {T H : Type 0} (r : Result T MemFault) (host : Ghosts H) (m u v : LoomMemory H host) → IsSound host m → IsSound host u → IsCalm m.pager.pinned (core_of m.pager.levels.parts) (core_of u.pager.levels.parts) → MindsCache host None m u (λ k. ⊥)
    → OnOk r ((t : ℕ) → place_of ((core_of u.pager.levels.parts).entries t).state ≡ None → place_of ((core_of v.pager.levels.parts).entries t).state ≡ None)
    → OnOk r ((t : ℕ) → 1 ≤ outside (core_of m.pager.levels.parts) t → place_of ((core_of m.pager.levels.parts).entries t).state ≡ None → place_of ((core_of v.pager.levels.parts).entries t).state ≡ None)
leaf-first {T} {H} (Ok x) host m u v sound now calm minds leaves = λ t out leaf. leaves t (leaf-stays host m u t sound now calm minds out leaf)
leaf-first {T} {H} (Err f) host m u v sound now calm minds leaves = tt

pub leaf-then : (pins : Pinned) (x y : Core) (s : ℕ) → IsCore x → IsCore y → IsCalm pins x y → 1 ≤ outside x s → place_of (y.entries s).state ≡ None → IsLeafStill x y s
leaf-then pins x y s core now calm out leaf = record {
  was = outside-used x s core out;
  used = outside-used y s now (subst (λ (n : ℕ). 1 ≤ n) (sym (calm.same_outside s)) out);
  leaf = leaf;
  name = calm.live s out;
}

-- what an entry names is held
pub entry-held : {H : Type 0} (host : Ghosts H) (m : LoomMemory H host) (s : ℕ) → IsSound host m → IsTrue (host.tells Work) → is_used ((core_of m.pager.levels.parts).entries s).state ≡ true → Has (loom_told host m).heap ((core_of m.pager.levels.parts).entries s).name
unfolding loom_told
entry-held {H} host m s sound told used =
    let e = sound.exact told in
    let core = core-at host m.pager.levels.parts m.pager.levels.disk.host.now m.pager.levels.disk.rest e.0 e.1 in
    subst (λ (h : Heap). Has h ((core_of m.pager.levels.parts).entries s).name) (sym (levels-told host m.pager.levels.parts m.pager.levels.disk.host.now m.pager.levels.disk.rest e.0 m.ledger.next e.1 e.3 told))
    (entry-has e.0 s ((core_of m.pager.levels.parts).entries s).name e.2 (subst (λ (c : Core). is_used (c.entries s).state ≡ true) core used) (ap (λ (c : Core). (c.entries s).name) (sym core)))

-- the buffer has the record still where the heap is the same under its name
read-at : (b : Bool) (x y : Core) (d e : Disk) (m k s words : ℕ) (was now : List ℕ) → IsCore x → IsCore y → IsLeafStill x y s → place_of (x.entries s).state ≡ None
    → (IsTrue b → (heap_if b (held y e) k).at (y.entries s).name ≡ (heap_if b (held x d) m).at (y.entries s).name) → now ≡ was → IsRead b was d (x.entries s).name words → IsRead b now e (y.entries s).name words
read-at b x y d e m k s words was now core after still leaf heap same read =
    subst (λ (bytes : List ℕ). IsRead b bytes e (y.entries s).name words) (sym same) (record {
      record_there = read.record_there;
      named = read.named ∙ sym still.name;
      sized = read.sized;
      there = λ told. go b told (heap told) read.there;
    })
  where
    go : (b : Bool) → IsTrue b → (heap_if b (held y e) k).at (y.entries s).name ≡ (heap_if b (held x d) m).at (y.entries s).name → (IsTrue b → d (x.entries s).name ≡ Some (object_in (raw_of was))) → e (y.entries s).name ≡ Some (object_in (raw_of was))
    go false told at there = absurd (cc)
    go true told at there =
        sym (held-leaf y e (y.entries s).name s (after.found s still.used) still.leaf) ∙ at ∙ ap (held x d) still.name ∙ held-leaf x d (x.entries s).name s (core.found s still.was) leaf ∙ there refl

thinned-read : {H : Type 0} (host : Ghosts H) (m u : LoomMemory H host) (s words : ℕ) → IsSound host m → IsSound host u → IsCalm m.pager.pinned (core_of m.pager.levels.parts) (core_of u.pager.levels.parts) → place_of ((core_of u.pager.levels.parts).entries s).state ≡ None → HasThinned (loom_told host m) (loom_told host u) → u.buf ≡ m.buf
    → 1 ≤ outside (core_of m.pager.levels.parts) s → place_of ((core_of m.pager.levels.parts).entries s).state ≡ None → IsRead (host.tells Work) m.buf (disk_of host m.pager.levels.disk.host.now m.pager.levels.disk.rest) ((core_of m.pager.levels.parts).entries s).name words
    → IsRead (host.tells Work) u.buf (disk_of host u.pager.levels.disk.host.now u.pager.levels.disk.rest) ((core_of u.pager.levels.parts).entries s).name words
unfolding loom_told
thinned-read {H} host m u s words sound after calm leaf_now thin same out leaf read =
    let still = leaf-then m.pager.pinned (core_of m.pager.levels.parts) (core_of u.pager.levels.parts) s m.pager.levels.whole.parts.core u.pager.levels.whole.parts.core calm out leaf_now in
    read-at (host.tells Work) (core_of m.pager.levels.parts) (core_of u.pager.levels.parts) (disk_of host m.pager.levels.disk.host.now m.pager.levels.disk.rest) (disk_of host u.pager.levels.disk.host.now u.pager.levels.disk.rest) m.ledger.next u.ledger.next s words m.buf u.buf m.pager.levels.whole.parts.core u.pager.levels.whole.parts.core still leaf
    (λ told. sym (same-there (loom_told host m).heap (loom_told host u).heap ((core_of u.pager.levels.parts).entries s).name (thin.thinning told).thinner (entry-held host u s after told still.used))) same read

pub read-first : {T H : Type 0} (r : Result T MemFault) (host : Ghosts H) (m u v : LoomMemory H host) → IsSound host m → IsSound host u → KeepsSound r (IsSound host v) → IsCalm m.pager.pinned (core_of m.pager.levels.parts) (core_of u.pager.levels.parts) → MindsCache host None m u (λ k. ⊥) → HasThinned (loom_told host m) (loom_told host u) → u.buf ≡ m.buf → v.buf ≡ u.buf
    → OnOk r (IsCalm u.pager.pinned (core_of u.pager.levels.parts) (core_of v.pager.levels.parts)) → OnOk r ((t : ℕ) → place_of ((core_of u.pager.levels.parts).entries t).state ≡ None → place_of ((core_of v.pager.levels.parts).entries t).state ≡ None) → OnOk r (IsQuiet (loom_told host u) (loom_told host v))
    → OnOk r ((t k : ℕ) → 1 ≤ outside (core_of m.pager.levels.parts) t → place_of ((core_of m.pager.levels.parts).entries t).state ≡ None → IsRead (host.tells Work) m.buf (disk_of host m.pager.levels.disk.host.now m.pager.levels.disk.rest) ((core_of m.pager.levels.parts).entries t).name k → IsRead (host.tells Work) v.buf (disk_of host v.pager.levels.disk.host.now v.pager.levels.disk.rest) ((core_of v.pager.levels.parts).entries t).name k)
read-first {T} {H} (Ok x) host m u v sound now last calm minds thin first second calm_then leaves quiet = λ t k out leaf read.
    let leaf_now = leaf-stays host m u t sound now calm minds out leaf in
    still-read host u v t k now last calm_then leaves quiet second (subst (λ (n : ℕ). 1 ≤ n) (sym (calm.same_outside t)) out) leaf_now (thinned-read host m u t k sound now calm leaf_now thin first out leaf read)
read-first {T} {H} (Err f) host m u v sound now last calm minds thin first second calm_then leaves quiet = tt

-- ---- a last step after dead objects went

pub quiet-first : {T : Type 0} (r : Result T MemFault) (t u v : Told) → HasThinned t u → IsReady t → OnOk r (IsQuiet u v) → OnOk r (HasThinned t v)
quiet-first {T} (Ok x) t u v thin ready quiet = thinned-trans t u v thin (quiet-thinned u v quiet (thinned-ready t u thin ready))
quiet-first {T} (Err f) t u v thin ready quiet = tt

pub gone-first : {T H : Type 0} (r : Result T MemFault) (host : Ghosts H) (m u v : LoomMemory H host) (words entries : ℕ) → IsFreed host m u words entries → OnOk r (IsQuiet (loom_told host u) (loom_told host v)) → OnOk r (IsFreed host m v words entries)
gone-first {T} {H} (Ok x) host m u v words entries gone quiet = λ lacks due. alive-quiet (loom_told host u) (loom_told host v) quiet (gone lacks due)
gone-first {T} {H} (Err f) host m u v words entries gone quiet = tt

pub gone-settled : {T H P : Type 0} (r : Result T MemFault) (host : Ghosts H) (m u v : LoomMemory H host) (words entries : ℕ) → (P → IsFreed host m u words entries) → OnOk r (IsQuiet (loom_told host u) (loom_told host v)) → P → OnOk r (IsFreed host m v words entries)
gone-settled {T} {H} {P} r host m u v words entries gone quiet = λ p. gone-first r host m u v words entries (gone p) quiet

pub calm-first : {T H : Type 0} {host : Ghosts H} (r : Result T MemFault) (m u v : LoomMemory H host) → u.pager.pinned ≡ m.pager.pinned → IsCalm m.pager.pinned (core_of m.pager.levels.parts) (core_of u.pager.levels.parts) → OnOk r (IsCalm u.pager.pinned (core_of u.pager.levels.parts) (core_of v.pager.levels.parts)) → OnOk r (IsCalm m.pager.pinned (core_of m.pager.levels.parts) (core_of v.pager.levels.parts))
calm-first {T} {H} {host} (Ok x) m u v pins first last = calm-trans m.pager.pinned (core_of m.pager.levels.parts) (core_of u.pager.levels.parts) (core_of v.pager.levels.parts) first (subst (λ (p : Pinned). IsCalm p (core_of u.pager.levels.parts) (core_of v.pager.levels.parts)) pins last)
calm-first {T} {H} {host} (Err f) m u v pins first last = tt

pub same-first : {T A : Type 0} (r : Result T MemFault) (a b c : A) → b ≡ a → OnOk r (c ≡ b) → OnOk r (c ≡ a)
same-first {T} {A} (Ok x) a b c first last = last ∙ first
same-first {T} {A} (Err f) a b c first last = tt

pub ledger-first : {T : Type 0} (r : Result T MemFault) (a b c : Ledger) → b ≡ (record a { held = b.held }) → OnOk r (c ≡ b) → OnOk r (c ≡ (record a { held = c.held }))
ledger-first {T} (Ok x) a b c first last = last ∙ first ∙ ap (λ (n : ℕ). record a { held = n }) (ap (λ (k : Ledger). k.held) (sym last))
ledger-first {T} (Err f) a b c first last = tt

pub gentle-first : {T H : Type 0} (r : Result T MemFault) (host : Ghosts H) (m u v : LoomMemory H host) (words : ℕ) → (HasRoom m.pager.levels.parts words 27 → u ≡ m) → OnOk r (HasRoom u.pager.levels.parts words 27 → IsGentle host u v) → OnOk r (HasRoom m.pager.levels.parts words 27 → IsGentle host m v)
gentle-first {T} {H} (Ok x) host m u v words roomy last = λ room. gentle-from host m u v (roomy room) (last (subst (λ (z : LoomMemory H host). HasRoom z.pager.levels.parts words 27) (sym (roomy room)) room))
gentle-first {T} {H} (Err f) host m u v words roomy last = tt

pub idle-first : {T H : Type 0} {host : Ghosts H} (r : Result T MemFault) (m u v : LoomMemory H host) (words : ℕ) → (HasRoom m.pager.levels.parts words 27 → u ≡ m) → OnOk r (HasRoom u.pager.levels.parts words 27 → words ≡ 0 → v ≡ u) → OnOk r (HasRoom m.pager.levels.parts words 27 → words ≡ 0 → v ≡ m)
idle-first {T} {H} {host} (Ok x) m u v words roomy last = λ room none. last (subst (λ (z : LoomMemory H host). HasRoom z.pager.levels.parts words 27) (sym (roomy room)) room) none ∙ roomy room
idle-first {T} {H} {host} (Err f) m u v words roomy last = tt

pub sure-first : {T H : Type 0} {host : Ghosts H} (r : Result T MemFault) (m u : LoomMemory H host) (words : ℕ) → (HasRoom m.pager.levels.parts words 27 → u ≡ m) → IfErr r (λ f. HasRoom u.pager.levels.parts words 27 → ⊥) → IfErr r (λ f. HasRoom m.pager.levels.parts words 27 → ⊥)
sure-first {T} {H} {host} (Ok x) m u words roomy last = tt
sure-first {T} {H} {host} (Err f) m u words roomy last = λ room. last (subst (λ (z : LoomMemory H host). HasRoom z.pager.levels.parts words 27) (sym (roomy room)) room)

pub err-first : {T : Type 0} (r : Result T MemFault) (t u v : Told) → HasThinned t u → IfErr r (λ f. (a : Access) → IsSilent a → makes a ≡ 0 → IsRefused u v a f) → IfErr r (λ f. (a : Access) (of : ℕ) → target_of a ≡ Some of → IsSilent a → makes a ≡ 0 → IsRefused t v a f)
err-first {T} (Ok x) t u v thin err = tt
err-first {T} (Err f) t u v thin err = λ a of target silent none. refused-freed t u v a of f target none thin (err a silent none)

-- ---- the object of a register

-- it is named from outside
pub register-out : {H : Type 0} (host : Ghosts H) (m : LoomMemory H host) (of s : ℕ) → IsSound host m → IsRef ((loom_told host m).regs of) → s ≡ word_in m.regs of → 1 ≤ outside (core_of m.pager.levels.parts) s
unfolding loom_told
register-out {H} host m of s sound ref same =
    let short : is_short (word_in m.regs of) ≡ true = ref-short (core_of m.pager.levels.parts) (word_in m.regs of) (sound.kept.filled of) ref in
    subst (λ (w : ℕ). 1 ≤ outside (core_of m.pager.levels.parts) w) (sym same) (register-held (core_of m.pager.levels.parts) m.regs m.pager.pinned of (word_in m.regs of) (kept-rooted m.pager.levels.parts m.regs m.pager.pinned m.ledger m.pager.levels.whole sound.kept) (word-there m.regs of short) short)

-- the same object after dead objects went
pub named-first : {H : Type 0} (host : Ghosts H) (m n : LoomMemory H host) (of s : ℕ) → IsSound host m → IsSound host n → IsRef ((loom_told host m).regs of) → s ≡ word_in m.regs of → IsCalm m.pager.pinned (core_of m.pager.levels.parts) (core_of n.pager.levels.parts) → IsNamed host m n of s
unfolding loom_told
named-first {H} host m n of s sound now ref same calm =
    let short : is_short (word_in m.regs of) ≡ true = ref-short (core_of m.pager.levels.parts) (word_in m.regs of) (sound.kept.filled of) ref in
    let is : is_short s ≡ true = subst (λ (w : ℕ). is_short w ≡ true) (sym same) short in
    let held_ = register-out host m of s sound ref same in
    let out_ : 1 ≤ outside (core_of n.pager.levels.parts) s = subst (λ (k : ℕ). 1 ≤ k) (sym (calm.same_outside s)) held_ in
    let used_ = outside-used (core_of n.pager.levels.parts) s n.pager.levels.whole.parts.core out_ in
    record {
      used = used_;
      out = out_;
      has = λ told. entry-held host n s now told used_;
      name = ap (meant (core_of m.pager.levels.parts).entries [] 0) (sym same) ∙ meant-short (core_of m.pager.levels.parts).entries [] 0 s is ∙ ap Ref (sym (calm.live s held_));
    }
