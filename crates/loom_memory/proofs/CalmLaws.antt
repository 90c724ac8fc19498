-- Objects come and go, and what registers and slots hold stays: what is told stays.
use Rattle.std.proofs.Common.{◌≡◌, ◌≢◌, ℕ, ◌+◌, ◌≤◌, Bool, true, false, cond, eqb, List, [], refl, sym, ◌∙◌, ap, subst, arith, Option, Some, None, IsTrue, ⊎_elim, add-zero}
use Rattle.std.proofs.lemmas.Grind.{common_steps}
use Rattle.std.proofs.lemmas.Bool.{cases_eq}
use Rattle.std.proofs.Math.Path.{fun_ext}
use Rattle.long_names.specs.declared.value.Value.{Value}
use Rattle.loom_host.specs.declared.outside.Host.{Ghosts}
use Rattle.loom_host.specs.declared.outside.Role.{Role}
use Rattle.loom_host.specs.declared.outside.Role.TheVariants.{Image, Events, Work, Saved, Display, Transcript, Notes}
use Rattle.loom_host.specs.Outside.{RoleState, holds}
use Rattle.loom_host.specs.Work.{IsWorkOnly}
use Rattle.object_table.specs.declared.entry.Entry.{Entry}
use Rattle.object_table.specs.Entries.{is_used, place_of}
use Rattle.core_segment.specs.Segment.{size_of}
use Rattle.disk_objects.specs.declared.rest.DiskRest.{DiskRest}
use Rattle.disk_objects.specs.Disk.{disk_room, disk_held}
use Rattle.disk_objects.specs.Calls.{HoldsObjects}
use Rattle.core_view.specs.Core.{Core}
use Rattle.core_view.specs.Words.{meant}
use Rattle.core_view.specs.Held.{Disk, held}
use Rattle.core_view.specs.Kept.{IsCore, IsBacked, KeepsOver}
use Rattle.core_view.proofs.Core.{meant-names}
use Rattle.leaf_lambda.specs.declared.parts.Parts.{Parts}
use Rattle.leaf_lambda.specs.Parts.{core_of, IsParts, IsWithin}
use Rattle.core_view.proofs.Steps.{outside-used}
use Rattle.leaf_lambda.specs.Whole.{IsWhole}
use Rattle.loom_memory.specs.declared.ledger.Ledger.{Ledger}
use Rattle.purger.specs.declared.room.Pinned.{Pinned}
use Rattle.core_view.specs.Room.{is_among}
use Rattle.disk_objects.specs.Function.{disk_of}
use Rattle.core_view.specs.Purge.{IsPurged, fresh_of}
use Rattle.loom_memory.specs.Memory.{word_in, pin_in, name_if, heap_if, told_of, IsPinned, IsKept, IsOver, Others, others_of}
use Rattle.loom_memory.specs.Gentle.{IsCalm, IsQuiet}
use Rattle.loom_memory.specs.Numbers.{IsNumbered}
use Rattle.core_view.specs.Kept.{IsValued}
use Rattle.core_view.specs.Counts.{marked_of}
use Rattle.method_cache.specs.Found.{found}
use Rattle.purger.specs.Marks.{AreHere, LeavesMarks}
use Rattle.purger.proofs.MarkLaws.{marked-at, Marks-same, within-marks, within-here, within-body}
use Rattle.loom_memory.specs.Cache.{IsCached}
use Rattle.loom_memory.proofs.CacheLaws.{cached-left, cache-left}
use Rattle.loom_memory.proofs.RegLaws.{IsRooted, register-held, heap-same, word-there}

pub purged-calm : (pins : Pinned) (x y : Core) → IsPurged pins.a pins.b pins.d x y → LeavesMarks x y → (AreHere x → AreHere y) → IsCalm pins x y
purged-calm pins x y purged marks here = record { marks = marks; here = here; bound = purged.bound; same_outside = purged.same_outside; live = purged.live; pinned = λ t p among at. let body = purged.pinned t p among at in record { at = body.at; place = body.place; name = body.name } }

-- a leaf isn't marked
leaf-unmarked : (x y : Core) (s : ℕ) → IsCore x → IsCore y → IsWithin s x y → is_used (x.entries s).state ≡ true → place_of (x.entries s).state ≡ None → AreHere x → (y.entries s).flags.marked ≡ false
leaf-unmarked x y s core now within used leaf here =
    let live = within.live s used in
    sym (marked-at y s now live.0) ∙ ap (marked_of y) live.1 ∙ within.marks (x.entries s).name ∙ marked-at x s core used ∙ off (x.entries s).flags.marked refl
  where
    off : (b : Bool) → (x.entries s).flags.marked ≡ b → (x.entries s).flags.marked ≡ false
    off false e = e
    off true e = let body = here s used e in absurd (let both : None ≡ Some body.0 = sym leaf ∙ body.1 in cc)

-- a leaf that isn't pinned takes a body
pub within-calm : (pins : Pinned) (s : ℕ) (x y : Core) → IsCore x → IsCore y → IsWithin s x y → is_used (x.entries s).state ≡ true → place_of (x.entries s).state ≡ None → IsCalm pins x y
within-calm pins s x y core now within used leaf = record {
  marks = Marks-same x y (within-marks x y s core now within);
  here = λ h. within-here x y s within (leaf-unmarked x y s core now within used leaf h) h;
  bound = within.about.bound;
  same_outside = within.same_outside;
  live = λ t some. (within.live t (outside-used x t core some)).1;
  pinned = λ t r among there.
      let away : t ≢ s = (λ h. let both : None ≡ Some r = sym leaf ∙ ap (λ (k : ℕ). place_of (x.entries k).state) (sym h) ∙ there in cc) in
      let same = within.about.bodies t r away there in
      record { at = r; place = ap (λ (e : Entry). place_of e.state) same ∙ there; name = ap (λ (e : Entry). e.name) same };
}

-- an object with a body changes there
pub store-calm : (pins : Pinned) (s p : ℕ) (x y : Core) → IsCore x → IsCore y → IsWithin s x y → place_of (x.entries s).state ≡ Some p → place_of (y.entries s).state ≡ place_of (x.entries s).state → (y.entries s).name ≡ (x.entries s).name → IsCalm pins x y
store-calm pins s p x y core now within at place name = record {
  marks = Marks-same x y (within-marks x y s core now within);
  here = within-body x y s p within (place ∙ at);
  bound = within.about.bound;
  same_outside = within.same_outside;
  live = λ t some. (within.live t (outside-used x t core some)).1;
  pinned = λ t r among there. ⊎_elim
      (λ (h : t ≡ s). record { at = r; place = ap (λ (k : ℕ). place_of (y.entries k).state) h ∙ place ∙ ap (λ (k : ℕ). place_of (x.entries k).state) (sym h) ∙ there; name = ap (λ (k : ℕ). (y.entries k).name) h ∙ name ∙ ap (λ (k : ℕ). (x.entries k).name) (sym h) })
      (λ (h : t ≢ s). let same = within.about.bodies t r h there in record { at = r; place = ap (λ (e : Entry). place_of e.state) same ∙ there; name = ap (λ (e : Entry). e.name) same }) (cases_eq t s);
}

among-pin : (pins : Pinned) (i : ℕ) → pin_in pins i ≢ 0 → is_among pins.a pins.b pins.d (pin_in pins i) ≡ true
among-pin pins i some = go (eqb i 0) refl
  where
    same : (n : ℕ) → eqb n n ≡ true
    same n = grind (arith, common_steps)

    go : (b : Bool) → eqb i 0 ≡ b → is_among pins.a pins.b pins.d (pin_in pins i) ≡ true
    go true e = let is : i ≡ 0 = grind (arith, common_steps) in ap (λ (k : ℕ). is_among pins.a pins.b pins.d (pin_in pins k)) is ∙ first pins.a pins.b pins.d
      where
        first : (a b d : ℕ) → is_among a b d a ≡ true
        first a b d = grind (arith, common_steps)
    go false e = second (eqb i 1) refl
      where
        second : (b : Bool) → eqb i 1 ≡ b → is_among pins.a pins.b pins.d (pin_in pins i) ≡ true
        second true f = let is : i ≡ 1 = grind (arith, common_steps) in ap (λ (k : ℕ). is_among pins.a pins.b pins.d (pin_in pins k)) is ∙ middle pins.a pins.b pins.d
          where
            middle : (a b d : ℕ) → is_among a b d b ≡ true
            middle a b d = grind (arith, common_steps)
        second false f = third (eqb i 2) refl
          where
            third : (b : Bool) → eqb i 2 ≡ b → is_among pins.a pins.b pins.d (pin_in pins i) ≡ true
            third true g = let is : i ≡ 2 = grind (arith, common_steps) in ap (λ (k : ℕ). is_among pins.a pins.b pins.d (pin_in pins k)) is ∙ last pins.a pins.b pins.d
              where
                last : (a b d : ℕ) → is_among a b d d ≡ true
                last a b d = grind (arith, common_steps)
            third false g = absurd (some (none i e f g))
              where
                none : (i : ℕ) → eqb i 0 ≡ false → eqb i 1 ≡ false → eqb i 2 ≡ false → pin_in pins i ≡ 0
                none i e f g = ap (λ (b : Bool). cond b pins.a (cond (eqb i 1) pins.b (cond (eqb i 2) pins.d 0))) e ∙ ap (λ (b : Bool). cond b pins.b (cond (eqb i 2) pins.d 0)) f ∙ ap (λ (b : Bool). cond b pins.d 0) g

pub calm-pinned : (pins : Pinned) (x y : Core) (i : ℕ) → IsCalm pins x y → IsPinned x (pin_in pins i) → IsPinned y (pin_in pins i)
calm-pinned pins x y i calm pin = λ some. let was = pin some in let now = calm.pinned (pin_in pins i) was.1.0 (among-pin pins i some) was.1.1 in (was.0, (now.at, now.place))

pub calm-kept : (p q : Parts) (regs : List ℕ) (pins : Pinned) (k : Ledger) → IsWhole p → IsKept p regs pins k → IsCalm pins (core_of p) (core_of q) → IsParts q → size_of q.segment ≡ size_of p.segment → IsKept q regs pins k
unfolding core_of
calm-kept p q regs pins k whole kept calm parts size = record {
  size = size ∙ kept.size;
  entries = let was = kept.entries in let bound = calm.bound in omega arith;
  rooted = λ t. calm.same_outside t ∙ kept.rooted t;
  filled = kept.filled;
  many = kept.many;
  pinned = λ i. calm-pinned pins (core_of p) (core_of q) i calm (kept.pinned i);
  cached = cached-left (core_of p) (core_of q) (found k.rows) k.mark whole.parts.core parts.core calm.marks kept.cached;
}

pub calm-regs : (x y : Core) (regs : List ℕ) (pins : Pinned) → IsRooted x regs pins → IsCalm pins x y → ◌≡◌ {A = ℕ → Value} (λ r. meant y.entries [] 0 (word_in regs r)) (λ r. meant x.entries [] 0 (word_in regs r))
calm-regs x y regs pins root calm = fun_ext (λ r. meant-names x.entries y.entries [] 0 (word_in regs r) (λ is. calm.live (word_in regs r) (register-held x regs pins r (word_in regs r) root (word-there regs r is) is)))

pub calm-slots : (x y : Core) (regs : List ℕ) (pins : Pinned) → IsRooted x regs pins → IsCalm pins x y → ◌≡◌ {A = ℕ → Option ℕ} (λ i. name_if y.entries (pin_in pins i)) (λ i. name_if x.entries (pin_in pins i))
calm-slots x y regs pins root calm = fun_ext (λ i. go i (eqb (pin_in pins i) 0) refl)
  where
    go : (i : ℕ) (b : Bool) → eqb (pin_in pins i) 0 ≡ b → cond b None (Some (y.entries (pin_in pins i)).name) ≡ cond b None (Some (x.entries (pin_in pins i)).name)
    go i true e = refl
    go i false e =
        let some : pin_in pins i ≢ 0 = (λ h. let there : eqb (pin_in pins i) 0 ≡ true = grind (arith, common_steps) in absurd (let no_ : true ≡ false = sym there ∙ e in cc)) in
        let at = root.pinned i some in
        ap Some (calm.pinned (pin_in pins i) at.1.0 (among-pin pins i some) at.1.1).name

-- what is told stays, but for the bounds
pub calm-told : {H : Type 0} (host : Ghosts H) (old new : H) (rest now : DiskRest) (x y : Core) (regs : List ℕ) (pins : Pinned) (k : Ledger) → IsRooted x regs pins → IsCalm pins x y → host.roles new Transcript ≡ host.roles old Transcript
    → (IsTrue (host.tells Work) → held y (disk_of host new now) ≡ held x (disk_of host old rest))
    → told_of host new now y regs pins k ≡ record (told_of host old rest x regs pins k) { bounds = (told_of host new now y regs pins k).bounds; cache = (told_of host new now y regs pins k).cache }
calm-told {H} host old new rest now x y regs pins k root calm said same =
    let heap = heap-same (host.tells Work) (held x (disk_of host old rest)) (held y (disk_of host new now)) k.next same in
    let regs' = calm-regs x y regs pins root calm in
    let slots' = calm-slots x y regs pins root calm in
    let put_ : (host.roles new Transcript).put ≡ (host.roles old Transcript).put = ap (λ (r : RoleState). r.put) said in
    λ i. record (told_of host new now y regs pins k) { heap = heap i; regs = regs' i; slots = slots' i; transcript = put_ i }

-- what is outside stays where Work alone was touched
pub work-outside : {H : Type 0} (host : Ghosts H) (old new : H) → IsWorkOnly host old new → ◌≡◌ {A = Role → Others} (λ r. others_of (host.tells Work) r (host.roles new r) (host.faults new r)) (λ r. others_of (host.tells Work) r (host.roles old r) (host.faults old r))
work-outside {H} host old new work = fun_ext (λ r. go r)
  where
    both : (r : Role) → r ≢ Work → others_of (host.tells Work) r (host.roles new r) (host.faults new r) ≡ others_of (host.tells Work) r (host.roles old r) (host.faults old r)
    both r away = ap (λ (s : RoleState). others_of (host.tells Work) r s (host.faults new r)) (work.others r away) ∙ ap (λ (n : ℕ). others_of (host.tells Work) r (host.roles old r) n) (work.other_faults r away)

    file : (told : Bool) → (IsTrue told → host.roles new Work ≡ holds (host.roles new Work).contents (host.roles old Work)) → others_of told Work (host.roles new Work) (host.faults new Work) ≡ others_of told Work (host.roles old Work) (host.faults old Work)
    file true same = ap (λ (s : RoleState). let o : Others = record { role = holds [] s; faults = 0 } in o) (same refl)
    file false same = refl

    go : (r : Role) → others_of (host.tells Work) r (host.roles new r) (host.faults new r) ≡ others_of (host.tells Work) r (host.roles old r) (host.faults old r)
    go Work = file (host.tells Work) work.work
    go Image = both Image (λ e. cc)
    go Events = both Events (λ e. cc)
    go Saved = both Saved (λ e. cc)
    go Display = both Display (λ e. cc)
    go Transcript = refl
    go Notes = both Notes (λ e. cc)

pub transcript-away : ◌≢◌ {A = Role} Transcript Work
transcript-away = λ e. cc

pub quiet-is : {H : Type 0} (host : Ghosts H) (old new : H) (rest now : DiskRest) (x y : Core) (regs : List ℕ) (pins : Pinned) (k : Ledger) → IsRooted x regs pins → IsCore y → IsCached x (found k.rows) k.mark → IsCalm pins x y → IsWorkOnly host old new → disk_room now ≡ disk_room rest
    → (IsTrue (host.tells Work) → held y (disk_of host new now) ≡ held x (disk_of host old rest))
    → IsQuiet (told_of host old rest x regs pins k) (told_of host new now y regs pins k)
quiet-is {H} host old new rest now x y regs pins k root core cached calm work room same = record {
  same = calm-told host old new rest now x y regs pins k root calm (work.others Transcript transcript-away) same;
  cache = cache-left x y (found k.rows) k.mark k.begun root.core core calm.marks cached;
  bounds = (refl, refl, room, work.later, (let said = work.other_faults Transcript transcript-away in omega arith));
  counts = (refl, sym (add-zero k.made));
}

pub over-is : {H : Type 0} (host : Ghosts H) (old new : H) (rest now : DiskRest) (x y : Core) (k : Ledger) → IsOver host old rest x k → disk_room now ≡ disk_room rest → HoldsObjects host new now
    → (IsTrue (host.tells Work) → KeepsOver x (disk_of host old rest) y (disk_of host new now)) → (IsTrue (host.tells Work) → disk_held now + fresh_of y ≡ disk_held rest + fresh_of x) → IsOver host new now y k
over-is {H} host old new rest now x y k over room stands keeps counts = record {
  stands = stands;
  backed = λ told. (keeps told).backed;
  counted = λ told. counts told ∙ over.counted told;
  roomy = let was = over.roomy in omega arith;
  based = subst (λ (n : ℕ). IsNumbered k.base k.made k.held k.next n) (sym room) over.based;
  valued = λ told. subst (λ (d : Disk). IsValued d) (sym (keeps told).held) (over.valued told);
}

-- a disk that was only read
pub read-over : {H : Type 0} (host : Ghosts H) (old new : H) (rest now : DiskRest) (c : Core) (k : Ledger) → IsOver host old rest c k → HoldsObjects host new now → now ≡ rest → disk_of host new now ≡ disk_of host old rest → IsOver host new now c k
read-over {H} host old new rest now c k over stands is same = record {
  stands = stands;
  backed = λ told. subst (λ (d : Disk). IsBacked c d) (sym same) (over.backed told);
  counted = λ told. ap (λ (r : DiskRest). disk_held r + fresh_of c) is ∙ over.counted told;
  roomy = subst (λ (n : ℕ). k.held ≤ n) (sym (ap disk_room is)) over.roomy;
  based = subst (λ (n : ℕ). IsNumbered k.base k.made k.held k.next n) (sym (ap disk_room is)) over.based;
  valued = λ told. subst (λ (d : Disk). IsValued (held c d)) (sym same) (over.valued told);
}

-- what is told of a store: the heap changes, and all marks may go
pub store-told : {H : Type 0} (host : Ghosts H) (now : H) (rest : DiskRest) (x y : Core) (regs : List ℕ) (pins : Pinned) (k : Ledger) → IsRooted x regs pins → IsCalm pins x y
    → told_of host now rest y regs pins k ≡ record (told_of host now rest x regs pins k) { heap = heap_if (host.tells Work) (held y (disk_of host now rest)) k.next; cache = (told_of host now rest y regs pins k).cache }
store-told {H} host now rest x y regs pins k root calm =
    let regs' = calm-regs x y regs pins root calm in
    let slots' = calm-slots x y regs pins root calm in
    λ i. record (told_of host now rest y regs pins k) { regs = regs' i; slots = slots' i }
