-- A store is counted: a word more is owed, it is exchanged for the one before, and that is owed no more. And what stores of words and bytes,
-- and a swap, leave of counts.
use Rattle.std.proofs.Common.{is_some, ◌≡◌, ◌≢◌, ℕ, ℤ, pos, ◌+ℤ◌, ◌+◌, ◌≤◌, Bool, true, false, cond, eqb, List, [], ◌∷◌, Option, Some, None, IsTrue, refl, sym, ◌∙◌, ap, subst, arith}
use Rattle.std.proofs.lemmas.Grind.{common_steps}
use Rattle.std.specs.Prelude.{◌^◌, ◌||◌, negsuc}
use Rattle.std.specs.List.{list_any}
use Rattle.long_names.specs.declared.value.Value.{Value}
use Rattle.long_names.specs.declared.value.Value.TheVariants.{Int, Ref}
use Rattle.long_names.specs.declared.object.Body.{Body}
use Rattle.long_names.specs.declared.object.Object.{Object}
use Rattle.long_names.specs.Names.{is_known}
use Rattle.long_names.specs.Objects.{is_ref, fields_of, field_of, with_field, holds}
use Rattle.long_names.specs.Heap.{Heap, Has, put_object, count_of}
use Rattle.long_names.specs.Thin.{IsWhole}
use Rattle.long_names.proofs.ThinLemmas.{IsWhole-put_object}
use Rattle.long_names.proofs.CountLaws.{count-same_fields, eqb-here, eqb-other}
use Rattle.loom_host.specs.declared.outside.Host.{Ghosts}
use Rattle.loom_host.specs.declared.outside.Role.TheVariants.{Work}
use Rattle.loom_host.specs.Work.{work_of}
use Rattle.object_table.specs.declared.entry.Entry.{Entry}
use Rattle.object_table.specs.Entries.{put, is_short, is_used, place_of}
use Rattle.disk_objects.specs.declared.rest.DiskRest.{DiskRest}
use Rattle.disk_objects.specs.Calls as disk
use Rattle.disk_objects.specs.Disk.{Objects, IsDisk}
use Rattle.disk_objects.specs.Function.{disk_of}
use Rattle.core_view.specs.Core.{Core}
use Rattle.core_view.specs.Counts.{change_of}
use Rattle.core_view.specs.Words.{meant, int_of_short}
use Rattle.core_view.specs.Held.{Disk, held, object_at}
use Rattle.core_view.specs.Kept.{IsCore, IsBacked, IsValued}
use Rattle.core_view.proofs.Core.{placed-used, held-at}
use Rattle.core_view.proofs.Words.{meant-short, meant-odd}
use Rattle.leaf_lambda.specs.declared.parts.Parts.{Parts}
use Rattle.leaf_lambda.specs.Parts.{core_of}
use Rattle.core_view.specs.Levels.{Stored, Levels, record_in, count_in, records_of, heap_of, waits}
use Rattle.core_view.specs.Counted.{words, one_if, IsHeld, IsSound as AreSound}
use Rattle.core_view.specs.Dead.{IsBare, bare_by}
use Rattle.core_view.specs.LevelSteps.{swapped, changed_at, lowered_by, raised_by, with_core}
use Rattle.core_view.proofs.LevelLaws.{heap-is, by_name, counted-over, sound-as}
use Rattle.core_view.proofs.ChangeLaws.{lowered-sound}
use Rattle.core_view.proofs.CanLaws.{change-less, change-more, raise-one}
use Rattle.core_view.proofs.DeadLaws.{bounded}
use Rattle.core_view.proofs.StoreLaws.{stored-sound}
use Rattle.core_view.proofs.SwapLaws.{swapped-sound}
use Rattle.delta_counts.proofs.SwapLaws.{swap-stored}
use Rattle.delta_counts.specs.Parts.{IsChange}
use Rattle.purger.specs.Counts.{StandsFor}
use Rattle.purger.proofs.NamingLaws.{counts-free}
use Rattle.purger.proofs.SoundLaws.{core-is, core-at, disk-at}
use Rattle.loom_memory.specs.Memory.{IsExact}
use Rattle.loom_memory.proofs.WordLaws.{odd-else}
use Rattle.loom_memory.proofs.SizeLaws.{levels-counts}

-- ---- one word more, one word less

-- a word that names no entry means a number
pub number-meant : (entries : ℕ → Entry) (w : ℕ) → is_short w ≡ false → (z : ℤ) × (meant entries [] 0 w ≡ Int z)
number-meant entries w off = go (eqb w 0) refl
  where
    go : (b : Bool) → eqb w 0 ≡ b → (z : ℤ) × (meant entries [] 0 w ≡ Int z)
    go true e = let is : w ≡ 0 = grind (arith, common_steps) in (pos 0, ap (meant entries [] 0) is)
    go false e = (int_of_short w, meant-odd entries [] 0 w (odd-else w (λ is. absurd (let on : eqb w 0 ≡ true = grind (arith, common_steps) in let both : true ≡ false = sym on ∙ e in cc)) off))

number-words : (v : Value) (z : ℤ) (q : ℕ) → v ≡ Int z → words (v ∷ []) q ≡ words [] q
number-words v z q is = subst (λ (u : Value). words (u ∷ []) q ≡ words [] q) (sym is) refl

pub exact-raised : {H : Type 0} (host : Ghosts H) (p q : Parts) (now : H) (rest : DiskRest) (n w : ℕ) → IsExact host p now rest n [] → (is_short w ≡ true → is_used ((core_of p).entries w).state ≡ true)
    → (is_short w ≡ true → IsChange (((core_of p).entries w).change +ℤ pos 1) → core_of q ≡ changed_at (core_of p) w (((core_of p).entries w).change +ℤ pos 1)) → (is_short w ≡ false → q ≡ p)
    → IsExact host q now rest n (meant (core_of p).entries [] 0 w ∷ [])
exact-raised {H} host p q now rest n w x used changed same = go (is_short w) refl
  where
    go : (b : Bool) → is_short w ≡ b → IsExact host q now rest n (meant (core_of p).entries [] 0 w ∷ [])
    go false e told =
        let y = x told in
        let number = number-meant (core_of p).entries w e in
        (y.0, subst (λ (z : Parts). StandsFor host z now rest y.0) (sym (same e)) y.1, sound-as y.0 [] (meant (core_of p).entries [] 0 w ∷ []) y.2 (λ k. number-words (meant (core_of p).entries [] 0 w) number.0 k number.1), y.3)
    go true e told =
        let y = x told in
        let is = core-at host p now rest y.0 y.1 in
        let on : is_used (y.0.core.entries w).state ≡ true = subst (λ (c : Core). is_used (c.entries w).state ≡ true) is (used e) in
        let fits = change-more y.0 w 1 [] y.2 on (omega arith) in
        let few = levels-counts rest (work_of host now) y.0 (y.0.core.entries w).name y.1.disk y.2 in
        let none : words [] (y.0.core.entries w).name ≡ 0 = refl in (
          raised_by y.0 w (pos 1),
          record {
            core = core-is q ∙ changed e (subst (λ (c : Core). IsChange ((c.entries w).change +ℤ pos 1)) (sym is) fits) ∙ ap (λ (c : Core). changed_at c w ((c.entries w).change +ℤ pos 1)) is;
            disk = y.1.disk;
          },
          subst (λ (u : Value). AreSound (raised_by y.0 w (pos 1)) (u ∷ [])) (sym (meant-short (core_of p).entries [] 0 w e ∙ ap (λ (c : Core). Ref (c.entries w).name) is)) (raise-one y.0 w [] y.2 on (omega (arith, few, none))),
          y.3,
        )

pub exact-lowered : {H : Type 0} (host : Ghosts H) (p q : Parts) (now : H) (rest : DiskRest) (n w : ℕ) → IsExact host p now rest n (meant (core_of p).entries [] 0 w ∷ []) → (is_short w ≡ true → is_used ((core_of p).entries w).state ≡ true)
    → (is_short w ≡ true → IsChange (((core_of p).entries w).change +ℤ negsuc 0) → core_of q ≡ changed_at (core_of p) w (((core_of p).entries w).change +ℤ negsuc 0)) → (is_short w ≡ false → q ≡ p)
    → IsExact host q now rest n []
exact-lowered {H} host p q now rest n w x used changed same = go (is_short w) refl
  where
    go : (b : Bool) → is_short w ≡ b → IsExact host q now rest n []
    go false e told =
        let y = x told in
        let number = number-meant (core_of p).entries w e in
        (y.0, subst (λ (z : Parts). StandsFor host z now rest y.0) (sym (same e)) y.1, sound-as y.0 (meant (core_of p).entries [] 0 w ∷ []) [] y.2 (λ k. sym (number-words (meant (core_of p).entries [] 0 w) number.0 k number.1)), y.3)
    go true e told =
        let y = x told in
        let is = core-at host p now rest y.0 y.1 in
        let on : is_used (y.0.core.entries w).state ≡ true = subst (λ (c : Core). is_used (c.entries w).state ≡ true) is (used e) in
        let fits = change-less y.0 w (meant (core_of p).entries [] 0 w ∷ []) y.2 on in
        let value : meant (core_of p).entries [] 0 w ≡ Ref (y.0.core.entries w).name = meant-short (core_of p).entries [] 0 w e ∙ ap (λ (c : Core). Ref (c.entries w).name) is in (
          raised_by y.0 w (negsuc 0),
          record {
            core = core-is q ∙ changed e (subst (λ (c : Core). IsChange ((c.entries w).change +ℤ negsuc 0)) (sym is) fits) ∙ ap (λ (c : Core). changed_at c w ((c.entries w).change +ℤ negsuc 0)) is;
            disk = y.1.disk;
          },
          subst (λ (u : Levels). AreSound u []) (ap (lowered_by y.0 (y.0.core.entries w).name) (y.2.core.found w on)) (lowered-sound y.0 (y.0.core.entries w).name [] (subst (λ (u : Value). AreSound y.0 (u ∷ [])) value y.2)),
          y.3,
        )

-- ---- a field

-- the word of a field was exchanged: the value v for w
pub record IsExchange (old new : Core) (disk : Disk) (s p i : ℕ) (v w : Value) : Type 0 where
  pub core : IsCore new
  pub backed : IsBacked new disk
  pub place : place_of (old.entries s).state ≡ Some p
  pub field : field_of (object_at old disk (old.entries s) p).body i ≡ Some v
  pub stored : held new disk ≡ put (held old disk) (old.entries s).name (Some (record { class = (object_at old disk (old.entries s) p).class; body = with_field (object_at old disk (old.entries s) p).body i w }))
  pub valued : IsValued (held new disk)
  pub find : new.find ≡ old.find
  pub changes : (m : ℕ) → change_of new m ≡ change_of old m

levels-exchanged : (t : Levels) (q : Core) (s p i : ℕ) (v w : Value) → AreSound t (w ∷ []) → IsExchange t.core q (records_of t) s p i v w → AreSound (with_core t q) (v ∷ [])
levels-exchanged t q s p i v w x st = stored-sound t q (t.core.entries s).name i (object_at t.core (records_of t) (t.core.entries s) p) v w [] x st.core st.backed
    (held-at t.core (records_of t) (t.core.entries s).name s p (x.core.found s (placed-used (t.core.entries s).state p st.place)) st.place) st.field st.stored st.valued (counts-free t.core q (record { find = st.find; changes = st.changes }))

pub exact-exchanged : {H : Type 0} (host : Ghosts H) (p q : Parts) (now : H) (rest : DiskRest) (n s a i : ℕ) (v w : Value) → IsExact host p now rest n (w ∷ []) → (IsTrue (host.tells Work) → IsExchange (core_of p) (core_of q) (disk_of host now rest) s a i v w) → IsExact host q now rest n (v ∷ [])
exact-exchanged host p q now rest n s a i v w x f told =
    let y = x told in (
      with_core y.0 (core_of q),
      record { core = core-is q; disk = y.1.disk },
      levels-exchanged y.0 (core_of q) s a i v w y.2
          (subst (λ (c : Core). IsExchange c (core_of q) (records_of y.0) s a i v w) (core-at host p now rest y.0 y.1)
          (subst (λ (d : Disk). IsExchange (core_of p) (core_of q) d s a i v w) (sym (disk-at host p now rest y.0 y.1)) (f told))),
      y.3,
    )

-- ---- words and bytes

-- the words of a body changed, and no field did
pub record IsRewritten (old new : Core) (disk : Disk) (s p : ℕ) (body : Body) : Type 0 where
  pub core : IsCore new
  pub backed : IsBacked new disk
  pub place : place_of (old.entries s).state ≡ Some p
  pub fields : fields_of body ≡ fields_of (object_at old disk (old.entries s) p).body
  pub stored : held new disk ≡ put (held old disk) (old.entries s).name (Some (record { class = (object_at old disk (old.entries s) p).class; body = body }))
  pub valued : IsValued (held new disk)
  pub find : new.find ≡ old.find
  pub changes : (m : ℕ) → change_of new m ≡ change_of old m

abbrev no_regs : ℕ → Value
no_regs r = Int (pos 0)

abbrev no_slots : ℕ → Option ℕ
no_slots i = None

levels-rewritten : (t : Levels) (c : Core) (s p : ℕ) (body : Body) → AreSound t [] → IsRewritten t.core c (records_of t) s p body → AreSound (with_core t c) []
levels-rewritten t c s p body x st = record {
  core = st.core;
  backed = st.backed;
  counted = counted-over t u [] [] x.counted had
      (λ q h. ap (λ z. pos (count_in (t.stored q)) +ℤ z) (st.changes q))
      (λ q h. ap (λ k. k + words [] q) (count q))
      (λ q. x.counted.waiting q ∙ ap (λ (f : ℕ → Option ℕ). one_if (waits (f q) (t.stored q) (is_known q))) (sym st.find))
      (λ q r found. stays q (x.counted.entered q r (ap (λ (f : ℕ → Option ℕ). f q) (sym st.find) ∙ found)))
      (λ q some. stays q (x.counted.named q some));
  small = record { stored = x.small.stored; counts = λ q. subst (λ k. k + words [] q ≤ 2 ^ 62) (sym (count q)) (x.small.counts q) };
  heap = now;
}
  where
    u : Levels
    u = with_core t c

    n : ℕ
    n = (t.core.entries s).name

    o : Object
    o = object_at t.core (records_of t) (t.core.entries s) p

    new : Object
    new = record { class = o.class; body = body }

    there : (heap_of t).at n ≡ Some o
    there = held-at t.core (records_of t) n s p (x.core.found s (placed-used (t.core.entries s).state p st.place)) st.place

    is : heap_of u ≡ put_object (heap_of t) n new
    is = heap-is (held c (records_of t)) t.next (put_object (heap_of t) n new) st.stored refl

    has-n : Has (heap_of t) n
    has-n = ap is_some there

    same : (k : ℕ) → holds new k ≡ holds o k
    same k = ap (λ (vs : List Value). eqb o.class k || list_any (is_ref k) vs) st.fields

    own : (k : ℕ) → holds new k ≡ true → Has (heap_of t) k
    own k h = x.heap.closed n o k there (sym (same k) ∙ h)

    at-n : Has (heap_of u) n
    at-n = ap (λ (h : Heap). is_some (h.at n)) is ∙ ap (λ b. is_some (cond b (Some new) ((heap_of t).at n))) (eqb-here n)

    at-other : (q : ℕ) → q ≢ n → (heap_of u).at q ≡ (heap_of t).at q
    at-other q away = ap (λ (h : Heap). h.at q) is ∙ ap (λ b. cond b (Some new) ((heap_of t).at q)) (eqb-other q n away)

    had : (q : ℕ) → Has (heap_of u) q → Has (heap_of t) q
    had = by_name {P = λ q. Has (heap_of u) q → Has (heap_of t) q} n (λ h. has-n) (λ q away h. ap is_some (sym (at-other q away)) ∙ h)

    stays : (q : ℕ) → Has (heap_of t) q → Has (heap_of u) q
    stays = by_name {P = λ q. Has (heap_of t) q → Has (heap_of u) q} n (λ h. at-n) (λ q away h. ap is_some (at-other q away) ∙ h)

    count : (q : ℕ) → count_of (heap_of u) q ≡ count_of (heap_of t) q
    count q = ap (λ h. count_of h q) is ∙ count-same_fields (heap_of t) n o body q (bounded (heap_of t) x.heap) there st.fields

    whole : IsWhole (heap_of u) no_regs no_slots
    whole = subst (λ h. IsWhole h no_regs no_slots) (sym is) (IsWhole-put_object (heap_of t) no_regs no_slots n new
        (record { known = x.heap.known; below = x.heap.below; closed = x.heap.closed; rooted = λ r k e. absurd (cc); pinned = λ i k e. absurd (cc) }) has-n own)

    now : IsHeld (heap_of u)
    now = record { known = whole.known; long = λ q h. x.heap.long q (had q h); below = whole.below; closed = whole.closed; valued = st.valued }

pub exact-rewritten : {H : Type 0} (host : Ghosts H) (p q : Parts) (now : H) (rest : DiskRest) (n s a : ℕ) (body : Body) → IsExact host p now rest n [] → (IsTrue (host.tells Work) → IsRewritten (core_of p) (core_of q) (disk_of host now rest) s a body) → IsExact host q now rest n []
exact-rewritten host p q now rest n s a body x f told =
    let y = x told in (
      with_core y.0 (core_of q),
      record { core = core-is q; disk = y.1.disk },
      levels-rewritten y.0 (core_of q) s a body y.2
          (subst (λ (c : Core). IsRewritten c (core_of q) (records_of y.0) s a body) (core-at host p now rest y.0 y.1)
          (subst (λ (d : Disk). IsRewritten (core_of p) (core_of q) d s a body) (sym (disk-at host p now rest y.0 y.1)) (f told))),
      y.3,
    )

-- ---- two objects change places

stored-there : (o : Option Stored) → is_some (record_in o) ≡ true → (r : Stored) × (o ≡ Some r)
stored-there None e = absurd (cc)
stored-there (Some r) e = (r, refl)

leaf-bare : (t : Levels) (s : ℕ) → IsCore t.core → is_used (t.core.entries s).state ≡ true → place_of (t.core.entries s).state ≡ None → IsBare t (t.core.entries s).name
leaf-bare t s core used leaf = subst (λ (o : Option ℕ). bare_by t.core o) (sym (core.found s used)) leaf

pub exact-swapped : {H : Type 0} (host : Ghosts H) (p : Parts) (was now : H) (before rest : DiskRest) (n s u a b : ℕ) → IsExact host p was before n [] → is_used ((core_of p).entries s).state ≡ true → is_used ((core_of p).entries u).state ≡ true
    → place_of ((core_of p).entries s).state ≡ None → place_of ((core_of p).entries u).state ≡ None → a ≡ ((core_of p).entries s).name → b ≡ ((core_of p).entries u).name
    → (IsTrue (host.tells Work) → is_some (disk_of host was before a) ≡ true) → (IsTrue (host.tells Work) → is_some (disk_of host was before b) ≡ true)
    → (IsTrue (host.tells Work) → (objects : Objects) (pending : List ℕ) → IsDisk before (work_of host was) objects pending → IsDisk rest (work_of host now) (disk.swapped objects a b) pending) → IsExact host p now rest n []
exact-swapped host p was now before rest n s u a b x on also leaf away one two first second f told =
    let y = x told in
    let is = core-at host p was before y.0 y.1 in
    let same = disk-at host p was before y.0 y.1 in
    let r = stored-there (y.0.stored a) (ap (λ (d : Disk). is_some (d a)) same ∙ first told) in
    let k = stored-there (y.0.stored b) (ap (λ (d : Disk). is_some (d b)) same ∙ second told) in
    let bare : IsBare y.0 a = subst (λ (m : ℕ). IsBare y.0 m) (sym (one ∙ ap (λ (c : Core). (c.entries s).name) is))
    (leaf-bare y.0 s y.2.core (subst (λ (c : Core). is_used (c.entries s).state ≡ true) is on) (subst (λ (c : Core). place_of (c.entries s).state ≡ None) is leaf)) in
    let bare' : IsBare y.0 b = subst (λ (m : ℕ). IsBare y.0 m) (sym (two ∙ ap (λ (c : Core). (c.entries u).name) is))
    (leaf-bare y.0 u y.2.core (subst (λ (c : Core). is_used (c.entries u).state ≡ true) is also) (subst (λ (c : Core). place_of (c.entries u).state ≡ None) is away)) in (
      swapped y.0 a b r.0 k.0,
      record { core = y.1.core; disk = swap-stored before rest (work_of host was) (work_of host now) y.0 a b r.0 k.0 y.1.disk r.1 k.1 (λ objects. f told objects y.0.pending) },
      swapped-sound y.0 a b r.0 k.0 [] y.2 bare bare' r.1 k.1,
      y.3,
    )
