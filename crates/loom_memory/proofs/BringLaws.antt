-- The object of a leaf comes in: what is known of it after room was made.
use Rattle.std.proofs.Common.{◌≡◌, ◌≢◌, ℕ, ◌+◌, ◌%◌, ◌≤◌, Bool, true, false, cond, eqb, List, [], refl, sym, ◌∙◌, ap, subst, add-zero, arith, None, Some, Result, Ok, Err, IsTrue}
use Rattle.std.proofs.lemmas.Grind.{common_steps}
use Rattle.std.specs.Prelude.{nat_lt, pos}
use Rattle.std.specs.Result.{OnOk, IfOk, IfErr}
use Rattle.long_names.specs.declared.value.Value.TheVariants.{Int, Ref}
use Rattle.long_names.specs.declared.object.Object.{Object}
use Rattle.long_names.specs.Objects.{body_words}
use Rattle.long_names.specs.Heap.{Heap, Has}
use Rattle.loom_host.specs.declared.outside.Host.{Ghosts}
use Rattle.loom_host.specs.declared.outside.Role.TheVariants.{Work}
use Rattle.core_view.specs.Counts.{outside}
use Rattle.core_view.proofs.Steps.{outside-used}
use Rattle.core_view.proofs.Words.{meant-short}
use Rattle.leaf_lambda.specs.Whole.{IsWhole}
use Rattle.loom_memory.specs.declared.memory.LoomMemory.{LoomMemory}
use Rattle.loom_memory.proofs.RegLaws.{kept-rooted, register-held, word-there}
use Rattle.long_names.specs.State.{IsRef}
use Rattle.long_names.specs.Need.{Fits}
use Rattle.object_memory.specs.declared.fault.MemFault.{MemFault}
use Rattle.object_memory.specs.declared.fault.Need.{Need}
use Rattle.object_memory.specs.Told.{Told, IsReady}
use Rattle.disk_objects.specs.Function.{disk_of}
use Rattle.object_record.specs.Buffer.{raw_of}
use Rattle.object_record.specs.Objects.{object_in}
use Rattle.object_table.specs.Entries.{is_short, is_used, place_of}
use Rattle.object_table.specs.Table.{entry_at, entries_of, bound_of, free_of}
use Rattle.core_segment.specs.Segment.{chunk_at, chunks_of, size_of, free_of as words_free}
use Rattle.core_segment.specs.Chunks.{IsLaidOut}
use Rattle.core_view.specs.Core.{Core}
use Rattle.core_view.specs.Words.{meant, int_of_short}
use Rattle.core_view.specs.Held.{Disk, held}
use Rattle.core_view.specs.Kept.{IsCore}
use Rattle.core_view.proofs.Core.{held-leaf}
use Rattle.leaf_lambda.specs.declared.parts.Parts.{Parts}
use Rattle.leaf_lambda.specs.Parts.{core_of, spare_of}
use Rattle.purger.specs.declared.room.Pinned.{Pinned}
use Rattle.loom_memory.specs.declared.ledger.Ledger.{Ledger}
use Rattle.purger.specs.Purge.{IsShort}
use Rattle.object_table.specs.Entries.{sum_below, used_by}
use Rattle.loom_memory.specs.Memory.{heap_if, word_in, loom_told, IsSound, IsKept, IsRefusedAt, IsNeed, IsRead, IsSized}
use Rattle.loom_memory.specs.Gentle.{IsCalm, IsQuiet}
use Rattle.core_view.proofs.Chunks.{words-few}
use Rattle.loom_memory.proofs.CallLaws.{unfit-entries, unfit-words, refused-at}
use Rattle.loom_memory.proofs.CacheLaws.{left-refl}

-- a register that holds a name has a short one
pub ref-short : (c : Core) (w : ℕ) → w ≢ 0 → IsRef (meant c.entries [] 0 w) → is_short w ≡ true
ref-short c w some is = go (eqb (w % 2) 1) refl
  where
    go : (b : Bool) → eqb (w % 2) 1 ≡ b → is_short w ≡ true
    go true e = absurd (subst (λ (b : Bool). IsRef (cond b (Int (int_of_short w)) (cond (eqb w 0) (Int (pos 0)) (Ref (c.entries w).name)))) e is)
    go false e = grind (arith, common_steps)

-- what was read of a record tells the size of its object
pub read-sized : (b : Bool) (bytes : List ℕ) (disk : Disk) (n words : ℕ) → IsRead b bytes disk n words → IsSized b (disk n) words
read-sized b bytes disk n words read = record { object = object_in (raw_of bytes); sized = read.sized; there = read.there }

-- the buffer has the record still after room was made
pub read-then : (b : Bool) (x y : Core) (d e : Disk) (m k s words : ℕ) (was now : List ℕ) → IsCore x → IsCore y → is_used (x.entries s).state ≡ true → place_of (x.entries s).state ≡ None → is_used (y.entries s).state ≡ true → place_of (y.entries s).state ≡ None → (y.entries s).name ≡ (x.entries s).name
    → heap_if b (held y e) k ≡ heap_if b (held x d) m → now ≡ was → IsRead b was d (x.entries s).name words → IsRead b now e (y.entries s).name words
read-then b x y d e m k s words was now core after used leaf used' leaf' name heap same read =
    subst (λ (bytes : List ℕ). IsRead b bytes e (y.entries s).name words) (sym same) (record {
      record_there = read.record_there;
      named = read.named ∙ sym name;
      sized = read.sized;
      there = λ told. go b told heap read.there;
    })
  where
    go : (b : Bool) → IsTrue b → heap_if b (held y e) k ≡ heap_if b (held x d) m → (IsTrue b → d (x.entries s).name ≡ Some (object_in (raw_of was))) → e (y.entries s).name ≡ Some (object_in (raw_of was))
    go false told heap there = absurd (cc)
    go true told heap there =
        sym (held-leaf y e (y.entries s).name s (after.found s used') leaf') ∙ ap (λ (h : Heap). h.at (y.entries s).name) heap ∙ ap (held x d) name ∙ held-leaf x d (x.entries s).name s (core.found s used) leaf ∙ there refl

-- entries or words are wanting: the row has no room
pub unfit : (p : Parts) (regs : List ℕ) (pins : Pinned) (k : Ledger) (s words : ℕ) (need : Need) (o : Object) → IsWhole p → IsKept p regs pins k → IsShort p pins.a pins.b pins.d words 27 → entries_of p.names.table ≡ free_of p.names.table + sum_below (bound_of p.names.table) (λ t. used_by (entry_at p.names.table t))
    → IsLaidOut (chunks_of p.segment) (words_free p.segment) (size_of p.segment) → is_used ((core_of p).entries s).state ≡ true → place_of ((core_of p).entries s).state ≡ None → 4 + body_words o.body ≡ words → IsNeed (core_of p) pins s words need → Fits k.core k.entries need.words need.entries → ⊥
unfolding core_of chunk_at
unfit p regs pins k s words need o whole kept short all laid used leaf sized is = go (nat_lt (spare_of p) 27) refl
  where
    go : (b : Bool) → nat_lt (spare_of p) 27 ≡ b → Fits k.core k.entries need.words need.entries → ⊥
    go true e = unfit-entries (core_of p) s words (spare_of p) k.entries k.core need regs pins whole.parts.core short.bare kept.many kept.rooted kept.pinned (sym kept.entries ∙ all) (grind (arith, common_steps)) is
    go false e = few (nat_lt (words_free p.segment) words) refl
      where
        few : (b : Bool) → nat_lt (words_free p.segment) words ≡ b → Fits k.core k.entries need.words need.entries → ⊥
        few true f =
            let most = words-few (core_of p) (chunks_of p.segment) (words_free p.segment) (size_of p.segment) pins.a pins.b pins.d whole.parts.core whole.tight short.bare refl laid in
            let size = kept.size in
            unfit-words (core_of p) s words (words_free p.segment) k.entries k.core need pins o whole.parts.core kept.pinned used leaf sized (omega (arith, most, size)) (grind (arith, common_steps)) is
        few false f = λ fits. short.wanting (grind (arith, common_steps), grind (arith, common_steps))

-- the same for want of entries alone
pub unfit-spare : (p : Parts) (regs : List ℕ) (pins : Pinned) (k : Ledger) (s words : ℕ) (need : Need) → IsWhole p → IsKept p regs pins k → IsShort p pins.a pins.b pins.d 0 27 → entries_of p.names.table ≡ free_of p.names.table + sum_below (bound_of p.names.table) (λ t. used_by (entry_at p.names.table t))
    → IsNeed (core_of p) pins s words need → Fits k.core k.entries need.words need.entries → ⊥
unfolding core_of
unfit-spare p regs pins k s words need whole kept short all is = go (nat_lt (spare_of p) 27) refl
  where
    go : (b : Bool) → nat_lt (spare_of p) 27 ≡ b → Fits k.core k.entries need.words need.entries → ⊥
    go true e = unfit-entries (core_of p) s words (spare_of p) k.entries k.core need regs pins whole.parts.core short.bare kept.many kept.rooted kept.pinned (sym kept.entries ∙ all) (grind (arith, common_steps)) is
    go false e = λ fits. short.wanting (omega arith, grind (arith, common_steps))

-- ---- a last step after quiet ones

pub err-at : {T : Type 0} (r : Result T MemFault) (t u v : Told) (n k : ℕ) → k ≡ n → IsQuiet t u → IfErr r (IsRefusedAt u v k) → IfErr r (IsRefusedAt t v n)
err-at {T} (Ok x) t u v n k same quiet is = tt
err-at {T} (Err f) t u v n k same quiet is = subst (λ (z : ℕ). IsRefusedAt t v z f) same (refused-at t u v k f quiet is)

pub short-same : (p q : Parts) (x y : Pinned) (words entries : ℕ) → q ≡ p → y ≡ x → IsShort p x.a x.b x.d words entries → IsShort q y.a y.b y.d words entries
short-same p q x y words entries same pins is = subst (λ (z : Parts). IsShort z y.a y.b y.d words entries) (sym same) (subst (λ (z : Pinned). IsShort p z.a z.b z.d words entries) (sym pins) is)

-- what was read of a name is of the entry that has it
pub sized-name : (r : Result ℕ MemFault) (told : Bool) (disk : Disk) (p q : Parts) (s n : ℕ) → n ≡ ((core_of p).entries s).name → OnOk r (q ≡ p) → IfOk r (λ words. IsSized told (disk n) words) → IfOk r (λ words. IsSized told (disk ((core_of q).entries s).name) words)
sized-name (Ok words) told disk p q s n is same sized = subst (λ (k : ℕ). IsSized told (disk k) words) (is ∙ ap (λ (z : Parts). ((core_of z).entries s).name) (sym same)) sized
sized-name (Err f) told disk p q s n is same sized = tt

pub read-name : (r : Result ℕ MemFault) (told : Bool) (bytes : List ℕ) (disk : Disk) (p q : Parts) (s n : ℕ) → n ≡ ((core_of p).entries s).name → OnOk r (q ≡ p) → IfOk r (λ words. IsRead told bytes disk n words) → IfOk r (λ words. IsRead told bytes disk ((core_of q).entries s).name words)
read-name (Ok words) told bytes disk p q s n is same read = subst (λ (k : ℕ). IsRead told bytes disk k words) (is ∙ ap (λ (z : Parts). ((core_of z).entries s).name) (sym same)) read
read-name (Err f) told bytes disk p q s n is same read = tt

-- a leaf that is held from outside is the same leaf after room was made
pub record IsLeafStill (x y : Core) (s : ℕ) : Type 0 where
  pub was : is_used (x.entries s).state ≡ true
  pub used : is_used (y.entries s).state ≡ true
  pub leaf : place_of (y.entries s).state ≡ None
  pub name : (y.entries s).name ≡ (x.entries s).name

pub leaf-still : (pins : Pinned) (x y : Core) (s : ℕ) → IsCore x → IsCore y → IsCalm pins x y → ((t : ℕ) → place_of (x.entries t).state ≡ None → place_of (y.entries t).state ≡ None) → 1 ≤ outside x s → place_of (x.entries s).state ≡ None → IsLeafStill x y s
leaf-still pins x y s core now calm leaves out leaf = record {
  was = outside-used x s core out;
  used = outside-used y s now (subst (λ (n : ℕ). 1 ≤ n) (sym (calm.same_outside s)) out);
  leaf = leaves s leaf;
  name = calm.live s out;
}

-- so the buffer has its record still
pub still-read : {H : Type 0} (host : Ghosts H) (m n : LoomMemory H host) (s words : ℕ) → IsSound host m → IsSound host n → IsCalm m.pager.pinned (core_of m.pager.levels.parts) (core_of n.pager.levels.parts) → ((t : ℕ) → place_of ((core_of m.pager.levels.parts).entries t).state ≡ None → place_of ((core_of n.pager.levels.parts).entries t).state ≡ None) → IsQuiet (loom_told host m) (loom_told host n) → n.buf ≡ m.buf
    → 1 ≤ outside (core_of m.pager.levels.parts) s → place_of ((core_of m.pager.levels.parts).entries s).state ≡ None → IsRead (host.tells Work) m.buf (disk_of host m.pager.levels.disk.host.now m.pager.levels.disk.rest) ((core_of m.pager.levels.parts).entries s).name words
    → IsRead (host.tells Work) n.buf (disk_of host n.pager.levels.disk.host.now n.pager.levels.disk.rest) ((core_of n.pager.levels.parts).entries s).name words
unfolding loom_told
still-read {H} host m n s words sound after calm leaves quiet same out leaf read =
    let still = leaf-still m.pager.pinned (core_of m.pager.levels.parts) (core_of n.pager.levels.parts) s m.pager.levels.whole.parts.core n.pager.levels.whole.parts.core calm leaves out leaf in
    read-then (host.tells Work) (core_of m.pager.levels.parts) (core_of n.pager.levels.parts) (disk_of host m.pager.levels.disk.host.now m.pager.levels.disk.rest) (disk_of host n.pager.levels.disk.host.now n.pager.levels.disk.rest) m.ledger.next n.ledger.next s words m.buf n.buf m.pager.levels.whole.parts.core n.pager.levels.whole.parts.core still.was leaf still.used still.leaf still.name
    (ap (λ (z : Told). z.heap) quiet.same) same read

pub quiet-same : {H : Type 0} (host : Ghosts H) (m : LoomMemory H host) → IsQuiet (loom_told host m) (loom_told host m)
unfolding loom_told
quiet-same {H} host m = record { same = refl; cache = left-refl (loom_told host m).cache; bounds = (refl, refl, refl, omega arith, omega arith); counts = (refl, sym (add-zero m.ledger.made)) }

-- the object of a register, before and after room was made
pub record IsNamed {H : Type 0} (host : Ghosts H) (m n : LoomMemory H host) (of s : ℕ) : Type 0 where
  pub used : is_used ((core_of n.pager.levels.parts).entries s).state ≡ true
  pub out : 1 ≤ outside (core_of n.pager.levels.parts) s
  pub has : IsTrue (host.tells Work) → Has (loom_told host n).heap ((core_of n.pager.levels.parts).entries s).name
  pub name : (loom_told host m).regs of ≡ Ref ((core_of n.pager.levels.parts).entries s).name

pub named-then : {H : Type 0} (host : Ghosts H) (m n : LoomMemory H host) (of s : ℕ) → IsSound host m → IsCore (core_of n.pager.levels.parts) → IsReady (loom_told host n) → IsRef ((loom_told host m).regs of) → s ≡ word_in m.regs of → IsCalm m.pager.pinned (core_of m.pager.levels.parts) (core_of n.pager.levels.parts) → IsQuiet (loom_told host m) (loom_told host n) → IsNamed host m n of s
unfolding loom_told
named-then {H} host m n of s sound now ready ref same calm quiet =
    let short : is_short (word_in m.regs of) ≡ true = ref-short (core_of m.pager.levels.parts) (word_in m.regs of) (sound.kept.filled of) ref in
    let is : is_short s ≡ true = subst (λ (w : ℕ). is_short w ≡ true) (sym same) short in
    let held_ : 1 ≤ outside (core_of m.pager.levels.parts) s = subst (λ (w : ℕ). 1 ≤ outside (core_of m.pager.levels.parts) w) (sym same) (register-held (core_of m.pager.levels.parts) m.regs m.pager.pinned of (word_in m.regs of) (kept-rooted m.pager.levels.parts m.regs m.pager.pinned m.ledger m.pager.levels.whole sound.kept) (word-there m.regs of short) short) in
    let out_ : 1 ≤ outside (core_of n.pager.levels.parts) s = subst (λ (k : ℕ). 1 ≤ k) (sym (calm.same_outside s)) held_ in
    let name_ : (loom_told host m).regs of ≡ Ref ((core_of n.pager.levels.parts).entries s).name = ap (meant (core_of m.pager.levels.parts).entries [] 0) (sym same) ∙ meant-short (core_of m.pager.levels.parts).entries [] 0 s is ∙ ap Ref (sym (calm.live s held_)) in
    record {
      used = outside-used (core_of n.pager.levels.parts) s now out_;
      out = out_;
      has = λ told. (ready.whole told).rooted of ((core_of n.pager.levels.parts).entries s).name (ap (λ (z : Told). z.regs of) quiet.same ∙ name_);
      name = name_;
    }
