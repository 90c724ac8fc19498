-- A word comes into a register, and the one before is let go.
use Rattle.std.proofs.Common.{zero, suc, ◌≡◌, ◌≢◌, ℕ, ◌+◌, ◌<◌, ◌≤◌, ◌++◌, Bool, true, false, cond, eqb, List, [], ◌∷◌, length, refl, sym, ◌∙◌, ap, subst, arith, Option, Some, None, IsTrue, count_by}
use Rattle.std.proofs.lemmas.Grind.{common_steps}
use Rattle.std.proofs.lemmas.List.Sums.{count_by-le-length}
use Rattle.std.proofs.Math.Path.{fun_ext}
use Rattle.std.specs.List.{slice_get, slice_set, slice_index_or}
use Rattle.std.proofs.lemmas.Option.{slice_get-get_or}
use Rattle.std.proofs.Math.ListN.{length-set}
use Rattle.core_segment.specs.Segment.{size_of}
use Rattle.long_names.specs.declared.value.Value.TheVariants.{Ref}
use Rattle.long_names.specs.Heap.{Has}
use Rattle.long_names.proofs.ThinLemmas.{IsWhole-set}
use Rattle.leaf_lambda.specs.declared.parts.Parts.{Parts}
use Rattle.leaf_lambda.specs.Parts.{core_of, IsParts}
use Rattle.long_names.specs.declared.value.Value.{Value}
use Rattle.long_names.specs.State.{set_register}
use Rattle.loom_host.specs.declared.outside.Host.{Ghosts}
use Rattle.loom_host.specs.declared.outside.Role.TheVariants.{Work}
use Rattle.object_memory.specs.Told.{Told, IsReady}
use Rattle.object_table.specs.declared.entry.Entry.{Entry}
use Rattle.object_table.specs.Entries.{is_short, is_used, place_of}
use Rattle.disk_objects.specs.declared.rest.DiskRest.{DiskRest}
use Rattle.core_view.specs.Core.{Core}
use Rattle.core_view.specs.Words.{meant}
use Rattle.core_view.specs.Held.{Disk, held}
use Rattle.core_view.specs.Counts.{names, one, outside}
use Rattle.core_view.specs.Kept.{IsCore, IsBacked, Stays}
use Rattle.core_view.specs.Steps.{IsRefStep, KeepsEntries}
use Rattle.core_view.proofs.Core.{placed-used, meant-names}
use Rattle.core_view.proofs.Lists.{count-set, count-some, count-cons, one-here}
use Rattle.core_view.proofs.Steps.{outside-used}
use Rattle.leaf_lambda.specs.Parts.{IsHolding, IsDropping}
use Rattle.method_cache.specs.Found.{found}
use Rattle.purger.specs.Marks.{AreHere, KeepsMarks}
use Rattle.purger.proofs.MarkLaws.{live-found}
use Rattle.leaf_lambda.specs.Whole.{IsWhole}
use Rattle.loom_memory.specs.Cache.{IsCached}
use Rattle.loom_memory.proofs.CacheLaws.{cache-same, cached-same}
use Rattle.core_view.proofs.Fresh.{ref-fresh}
use Rattle.loom_memory.specs.declared.ledger.Ledger.{Ledger}
use Rattle.purger.specs.declared.room.Pinned.{Pinned}
use Rattle.disk_objects.specs.Function.{disk_of}
use Rattle.loom_memory.specs.Memory.{word_in, pin_in, name_if, heap_if, told_of, IsPinned, IsKept, IsOver}
use Rattle.core_view.specs.Room.{in_hand}
use Rattle.core_view.specs.Kept.{IsValued}

-- ---- what references leave

pub ref-pinned : (c d : Core) (w : ℕ) → IsRefStep c d → IsPinned c w → IsPinned d w
ref-pinned c d w step pin = λ some. let was = pin some in (was.0, (was.1.0, ap (λ (e : Entry). place_of e.state) (step.bodies w was.1.0 was.1.1) ∙ was.1.1))

-- ---- what is in hand

pub count-append : (t : ℕ) (xs ys : List ℕ) → count_by (names t) (xs ++ ys) ≡ count_by (names t) xs + count_by (names t) ys
count-append t [] ys = let none : count_by (names t) [] ≡ 0 = refl in omega arith
count-append t (x ∷ xs) ys = let rest = count-append t xs ys in let one_ = count-cons t x xs in let both = count-cons t x (xs ++ ys) in let it : count_by (names t) ((x ∷ xs) ++ ys) ≡ count_by (names t) (x ∷ (xs ++ ys)) = refl in omega arith

-- the names of words are those of entries that stay
pub record IsRooted (c : Core) (regs : List ℕ) (pins : Pinned) : Type 0 where
  pub core : IsCore c
  pub outside : (t : ℕ) → outside c t ≡ count_by (names t) (in_hand regs pins.a pins.b pins.d)
  pub pinned : (i : ℕ) → IsPinned c (pin_in pins i)

pub register-held : (c : Core) (regs : List ℕ) (pins : Pinned) (r w : ℕ) → IsRooted c regs pins → slice_get regs r ≡ Some w → is_short w ≡ true → 1 ≤ outside c w
register-held c regs pins r w root at is =
    let out = root.outside w in
    let split = count-append w regs (pins.a ∷ (pins.b ∷ (pins.d ∷ []))) in
    let some = count-some w regs r w at in
    let here = one-here w is in
    omega arith

pub few-held : (c : Core) (regs : List ℕ) (pins : Pinned) (t : ℕ) → IsRooted c regs pins → length regs ≡ 24 → outside c t < 2147483648
few-held c regs pins t root many =
    let out = root.outside t in
    let split = count-append t regs (pins.a ∷ (pins.b ∷ (pins.d ∷ []))) in
    let few = count_by-le-length (names t) regs in
    let more = count_by-le-length (names t) (pins.a ∷ (pins.b ∷ (pins.d ∷ []))) in
    let three : length (pins.a ∷ (pins.b ∷ (pins.d ∷ []))) ≡ 3 = refl in
    omega arith

-- a word came, and another went
pub record IsSwap (a d : Core) (w old : ℕ) : Type 0 where
  pub stays : Stays a d
  pub step : IsRefStep a d
  pub swap : (t : ℕ) → outside d t + one t old ≡ outside a t + one t w
  pub live : (t : ℕ) → is_used (a.entries t).state ≡ true → (is_used (d.entries t).state ≡ true) × ((d.entries t).name ≡ (a.entries t).name)
  pub marks : KeepsMarks a d
  pub here : AreHere a → AreHere d

-- references change, and marked objects stay in the core
pub entries-here : (c d : Core) → KeepsEntries c d → AreHere c → AreHere d
entries-here c d keeps here t on marked = go (is_used (c.entries t).state) refl
  where
    go : (b : Bool) → is_used (c.entries t).state ≡ b → (p : ℕ) × (place_of (d.entries t).state ≡ Some p)
    go false e = let came = keeps.came t e on in absurd (let off : (d.entries t).flags.marked ≡ false = ap (λ (x : Entry). x.flags.marked) came in let both : true ≡ false = sym marked ∙ off in cc)
    go true e =
        let same = keeps.same t e in
        let body = here t e (ap (λ (x : Entry). x.flags.marked) (sym same) ∙ marked) in
        (body.0, ap (λ (x : Entry). place_of x.state) same ∙ body.1)

pub swapped : (a b d : Core) (w old : ℕ) → IsCore a → IsCore d → Stays a d → IsRefStep a d → IsHolding w a b → IsDropping old b d → IsSwap a d w old
swapped a b d w old core now stays step hold drop = record {
  stays = stays;
  step = step;
  swap = λ t. let more = hold.one_more t in let less = drop.one_less t in omega arith;
  live = live;
  marks = record { marks = λ n. drop.marks n ∙ hold.marks n; found = live-found a d core now live };
  here = λ h. entries-here b d drop.others (entries-here a b hold.others h);
}
  where
    live : (t : ℕ) → is_used (a.entries t).state ≡ true → (is_used (d.entries t).state ≡ true) × ((d.entries t).name ≡ (a.entries t).name)
    live t on = let first = hold.live t on in let then = drop.live t first.0 in (then.0, then.1 ∙ first.1)

pub rooted-then : (a d : Core) (regs : List ℕ) (pins : Pinned) (to w old : ℕ) → IsRooted a regs pins → IsSwap a d w old → slice_get regs to ≡ Some old → IsCore d → IsRooted d (slice_set regs to w) pins
rooted-then a d regs pins to w old root swap at core = record {
  core = core;
  outside = λ t.
      let out = root.outside t in
      let one_ = count-append t regs (pins.a ∷ (pins.b ∷ (pins.d ∷ []))) in
      let two = count-append t (slice_set regs to w) (pins.a ∷ (pins.b ∷ (pins.d ∷ []))) in
      let three = count-set t regs to w old at in
      let four = swap.swap t in
      omega arith;
  pinned = λ i. ref-pinned a d (pin_in pins i) swap.step (root.pinned i);
}

-- ---- what is told

pub heap-same : (b : Bool) (f g : Disk) (n : ℕ) → (IsTrue b → g ≡ f) → heap_if b g n ≡ heap_if b f n
heap-same true f g n same = ap (λ (h : Disk). heap_if true h n) (same refl)
heap-same false f g n same = refl

word-set : (regs : List ℕ) (to w r : ℕ) → to < length regs → word_in (slice_set regs to w) r ≡ cond (eqb r to) w (word_in regs r)
word-set [] to w r low = absurd (omega arith)
word-set (x ∷ xs) zero w zero low = refl
word-set (x ∷ xs) zero w (suc r) low = let e : eqb (suc r) 0 ≡ false = grind (arith, common_steps) in ap (λ (b : Bool). cond b w (word_in xs r)) (sym e)
word-set (x ∷ xs) (suc to) w zero low = let e : eqb 0 (suc to) ≡ false = grind (arith, common_steps) in ap (λ (b : Bool). cond b w x) (sym e)
word-set (x ∷ xs) (suc to) w (suc r) low = let e : eqb (suc r) (suc to) ≡ eqb r to = grind (arith, common_steps) in word-set xs to w r (omega arith) ∙ ap (λ (b : Bool). cond b w (word_in xs r)) (sym e)

pub word-there : (regs : List ℕ) (r : ℕ) → is_short (word_in regs r) ≡ true → slice_get regs r ≡ Some (word_in regs r)
word-there [] r is = absurd (cc)
word-there (x ∷ xs) zero is = refl
word-there (x ∷ xs) (suc r) is = word-there xs r is

pub register-means : (a d : Core) (regs : List ℕ) (pins : Pinned) (r w old : ℕ) → IsRooted a regs pins → IsSwap a d w old → meant d.entries [] 0 (word_in regs r) ≡ meant a.entries [] 0 (word_in regs r)
register-means a d regs pins r w old root swap = meant-names a.entries d.entries [] 0 (word_in regs r) (λ is. (swap.live (word_in regs r) (outside-used a (word_in regs r) root.core (register-held a regs pins r (word_in regs r) root (word-there regs r is) is))).1)

regs-then : (a d : Core) (regs : List ℕ) (pins : Pinned) (to w old : ℕ) → IsRooted a regs pins → IsSwap a d w old → to < length regs → (is_short w ≡ true → is_used (a.entries w).state ≡ true)
    → (λ r. meant d.entries [] 0 (word_in (slice_set regs to w) r)) ≡ set_register (λ r. meant a.entries [] 0 (word_in regs r)) to (meant a.entries [] 0 w)
regs-then a d regs pins to w old root swap low used = fun_ext (λ r. ap (meant d.entries [] 0) (word-set regs to w r low) ∙ go r (eqb r to))
  where
    go : (r : ℕ) (b : Bool) → meant d.entries [] 0 (cond b w (word_in regs r)) ≡ cond b (meant a.entries [] 0 w) (meant a.entries [] 0 (word_in regs r))
    go r true = meant-names a.entries d.entries [] 0 w (λ is. (swap.live w (used is)).1)
    go r false = register-means a d regs pins r w old root swap

slots-then : (a d : Core) (regs : List ℕ) (pins : Pinned) (w old : ℕ) → IsRooted a regs pins → IsSwap a d w old → ◌≡◌ {A = ℕ → Option ℕ} (λ i. name_if d.entries (pin_in pins i)) (λ i. name_if a.entries (pin_in pins i))
slots-then a d regs pins w old root swap = fun_ext (λ i. go i (eqb (pin_in pins i) 0) refl)
  where
    go : (i : ℕ) (b : Bool) → eqb (pin_in pins i) 0 ≡ b → cond b None (Some (d.entries (pin_in pins i)).name) ≡ cond b None (Some (a.entries (pin_in pins i)).name)
    go i true e = refl
    go i false e =
        let some : pin_in pins i ≢ 0 = (λ h. let there : eqb (pin_in pins i) 0 ≡ true = grind (arith, common_steps) in absurd (let no_ : true ≡ false = sym there ∙ e in cc)) in
        let at = root.pinned i some in
        ap Some (swap.live (pin_in pins i) (placed-used (a.entries (pin_in pins i)).state at.1.0 at.1.1)).1

pub told-then : {H : Type 0} (host : Ghosts H) (now : H) (rest : DiskRest) (a d : Core) (regs : List ℕ) (pins : Pinned) (k : Ledger) (to w old : ℕ) → IsRooted a regs pins → IsCore d → IsCached a (found k.rows) k.mark → IsSwap a d w old → to < length regs → (is_short w ≡ true → is_used (a.entries w).state ≡ true)
    → (IsTrue (host.tells Work) → IsBacked a (disk_of host now rest))
    → told_of host now rest d (slice_set regs to w) pins k ≡ record (told_of host now rest a regs pins k) { regs = set_register (told_of host now rest a regs pins k).regs to (meant a.entries [] 0 w) }
told-then {H} host now rest a d regs pins k to w old root core cached swap low used backed =
    let heap = heap-same (host.tells Work) (held a (disk_of host now rest)) (held d (disk_of host now rest)) k.next (λ told. (swap.stays (disk_of host now rest) (backed told)).held) in
    let regs' = regs-then a d regs pins to w old root swap low used in
    let slots' = slots-then a d regs pins w old root swap in
    let cache' = cache-same a d (found k.rows) k.mark k.begun root.core core swap.marks cached in
    λ i. record (told_of host now rest a regs pins k) { heap = heap i; regs = regs' i; slots = slots' i; cache = cache' i }

pub filled-then : (regs : List ℕ) (to w : ℕ) → to < length regs → w ≢ 0 → ((r : ℕ) → word_in regs r ≢ 0) → (r : ℕ) → word_in (slice_set regs to w) r ≢ 0
filled-then regs to w low some filled r = λ e. go (eqb r to) (sym (word-set regs to w r low) ∙ e)
  where
    go : (b : Bool) → cond b w (word_in regs r) ≡ 0 → ⊥
    go true e = some e
    go false e = filled r e

pub old-there : (regs : List ℕ) (i j to : ℕ) → i ≡ to → j ≡ to → i < 24 → length regs ≡ 24 → slice_get regs j ≡ Some (slice_index_or regs i 0)
old-there regs i j to e f low many = subst (λ (n : ℕ). slice_get regs n ≡ Some (slice_index_or regs i 0)) (e ∙ sym f) (slice_get-get_or regs i 0 (omega arith))

pub word-is : (regs : List ℕ) (i to : ℕ) → i ≡ to → i < 24 → length regs ≡ 24 → slice_index_or regs i 0 ≡ word_in regs to
word-is regs i to e low many = same regs i (omega arith) ∙ ap (word_in regs) e
  where
    same : (xs : List ℕ) (i : ℕ) → i < length xs → slice_index_or xs i 0 ≡ word_in xs i
    same [] i low = absurd (omega arith)
    same (x ∷ xs) zero low = refl
    same (x ∷ xs) (suc i) low = same xs i (omega arith)

-- ---- what is kept

pub kept-rooted : (p : Parts) (regs : List ℕ) (pins : Pinned) (k : Ledger) → IsWhole p → IsKept p regs pins k → IsRooted (core_of p) regs pins
kept-rooted p regs pins k whole kept = record { core = whole.parts.core; outside = kept.rooted; pinned = kept.pinned }

pub kept-then : (p q : Parts) (regs : List ℕ) (pins : Pinned) (k : Ledger) (to w old : ℕ) → IsWhole p → IsKept p regs pins k → IsParts q → IsSwap (core_of p) (core_of q) w old → slice_get regs to ≡ Some old → to < length regs → w ≢ 0 → q.segment ≡ p.segment → IsKept q (slice_set regs to w) pins k
unfolding core_of
kept-then p q regs pins k to w old whole kept parts swap at low some segment =
    let root = rooted-then (core_of p) (core_of q) regs pins to w old (kept-rooted p regs pins k whole kept) swap at parts.core in
    let bound = swap.step.bound in
    record {
      size = ap size_of segment ∙ kept.size;
      entries = let was = kept.entries in omega arith;
      rooted = root.outside;
      filled = filled-then regs to w low some kept.filled;
      many = length-set regs to w ∙ kept.many;
      pinned = root.pinned;
      cached = cached-same (core_of p) (core_of q) (found k.rows) k.mark whole.parts.core parts.core swap.marks kept.cached;
    }

pub over-then : {H : Type 0} (host : Ghosts H) (now : H) (rest : DiskRest) (a d : Core) (k : Ledger) → Stays a d → IsRefStep a d → IsOver host now rest a k → IsOver host now rest d k
over-then {H} host now rest a d k stays step over = record {
  stands = over.stands;
  backed = λ told. (stays (disk_of host now rest) (over.backed told)).backed;
  counted = λ told. let was = over.counted told in let same = ref-fresh a d step in omega arith;
  roomy = over.roomy;
  based = over.based;
  valued = λ told. subst (λ (d : Disk). IsValued d) (sym (stays (disk_of host now rest) (over.backed told)).held) (over.valued told);
}

-- ---- ready

pub ready-put : (t : Told) (to : ℕ) (v : Value) → ((k : ℕ) → v ≡ Ref k → IsTrue t.tells → Has t.heap k) → IsReady t → IsReady (record t { regs = set_register t.regs to v })
ready-put t to v has ready = record {
  whole = λ told. IsWhole-set t.heap t.regs (set_register t.regs to v) t.slots to v (ready.whole told) refl (λ k e. has k e told);
  marked = ready.marked;
  cached = ready.cached;
}
