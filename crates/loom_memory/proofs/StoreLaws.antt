-- Stores into an object in the core.
use Rattle.std.proofs.Common.{◌≡◌, ◌≢◌, ℕ, ◌+◌, ◌<◌, ◌≤◌, length, take, length-take, Bool, true, false, cond, eqb, List, [], ◌∷◌, Option, Some, None, is_some, Result, Ok, Err, IsTrue, inl, refl, sym, ◌∙◌, ap, subst, add-zero, arith, ⊎_elim}
use Rattle.std.proofs.Math.Path.{fun_ext}
use Rattle.std.proofs.lemmas.Grind.{common_steps}
use Rattle.std.specs.Result.{OnOk, IfErr}
use Rattle.std.specs.Option.{option_map_or, option_and_then}
use Rattle.long_names.specs.declared.value.Value.{Value}
use Rattle.long_names.specs.declared.value.Value.TheVariants.{Int, Ref}
use Rattle.long_names.specs.declared.object.Body.{Body}
use Rattle.long_names.specs.declared.object.Body.TheVariants.{Pointers, Words, Bytes, Method}
use Rattle.long_names.specs.declared.object.Object.{Object}
use Rattle.long_names.specs.Objects.{is_ref, field_of, fields_of, words_of, bytes_of, with_field, with_words, with_bytes}
use Rattle.long_names.specs.State.{HasPart, part_at}
use Rattle.long_names.specs.Words.{literal_count}
use Rattle.long_names.specs.declared.object.Kind.{Kind}
use Rattle.long_names.specs.declared.object.Kind.TheVariants as kind
use Rattle.object_table.specs.declared.entry.Entry.{Entry}
use Rattle.long_names.specs.Heap.{Heap, Has, put_object, swap_objects}
use Rattle.long_names.specs.Thin.{IsWhole, IsThinner}
use Rattle.long_names.specs.Access.{Access, Known, Class, KindOf, Length, Header, Field, SetField, Word, SetWord, Byte, SetByte, ReadWords, WriteWords, ReadBytes, Make, Pin, Mark, Say, Swap, Nothing, CanDo, heap_after, with_body, with_swapped, target_of}
use Rattle.long_names.proofs.AccessLaws.{whole-heap}
use Rattle.long_names.proofs.ThinLemmas.{IsThinner-refl}
use Rattle.loom_host.specs.declared.outside.Host.{Ghosts}
use Rattle.loom_host.specs.declared.outside.Role.TheVariants.{Work}
use Rattle.object_memory.specs.declared.fault.MemFault.{MemFault}
use Rattle.object_memory.specs.Told.{Told, Cache, Bounds, IsReady}
use Rattle.object_memory.specs.Contract.{SameBounds, Raised, IfBounds, HasCore, Accessed, LeavesCache, touched_by, makes, stores}
use Rattle.object_table.specs.Entries.{put, place_of}
use Rattle.disk_objects.specs.declared.rest.DiskRest.{DiskRest}
use Rattle.disk_objects.specs.Function.{disk_of}
use Rattle.core_segment.specs.Segment.{size_of}
use Rattle.core_view.specs.Core.{Core}
use Rattle.core_view.specs.Counts.{marked_of, outside}
use Rattle.core_view.specs.Words.{meant, body_in, bytes_in, code_in, header_in, words_for}
use Rattle.core_view.specs.Held.{Disk, fields_there, object_at, held}
use Rattle.core_view.specs.Purge.{fresh_by}
use Rattle.core_view.specs.Kept.{IsCore, IsBacked, IsValued, Stays}
use Rattle.core_view.proofs.Fresh.{fresh-stays}
use Rattle.core_view.proofs.Core.{placed-used}
use Rattle.core_view.specs.Steps.{IsAt}
use Rattle.core_view.proofs.Words.{meant-short, set-same}
use Rattle.leaf_lambda.specs.declared.parts.Parts.{Parts}
use Rattle.leaf_lambda.specs.Whole.{IsWhole as AreWhole}
use Rattle.loom_memory.proofs.OverLaws.{over_parts}
use Rattle.leaf_lambda.specs.Parts.{core_of, IsParts, IsWithin}
use Rattle.leaf_lambda.specs.Making.{HasBytes, InBytes, InMethod}
use Rattle.method_cache.specs.Found.{found}
use Rattle.purger.specs.declared.room.Pinned.{Pinned}
use Rattle.purger.specs.Marks.{IsUnmarking, LeavesMarks}
use Rattle.purger.proofs.MarkLaws.{marked-at, within-marks, unmarked-purged, unmarked-here, unmarked-fresh}
use Rattle.purger.proofs.NamingLaws.{unmarking-counts}
use Rattle.purger.proofs.RoomLaws.{work-refl}
use Rattle.loom_memory.specs.declared.memory.LoomMemory.{LoomMemory}
use Rattle.loom_memory.specs.declared.ledger.Ledger.{Ledger}
use Rattle.loom_memory.specs.Memory.{heap_if, loom_told, told_of, word_in, IsKept, IsOver, IsRefused, IsSilent, IsSound}
use Rattle.loom_memory.specs.Gentle.{IsCalm, IsQuiet}
use Rattle.loom_memory.specs.Stores.{IsStored}
use Rattle.loom_memory.proofs.AccessLaws.{after-quiet, refused-is, same-trans, raised-trans}
use Rattle.loom_memory.proofs.CacheLaws.{cache-same, left-then}
use Rattle.loom_memory.proofs.CalmLaws.{purged-calm, store-calm, store-told, calm-kept, quiet-is, over-is}
use Rattle.loom_memory.proofs.LoadLaws.{field-told, object-told}
use Rattle.loom_memory.proofs.ExactLaws.{exact-counts}
use Rattle.loom_memory.proofs.RegLaws.{kept-rooted}
use Rattle.loom_memory.proofs.DeadLaws.{thin-quiet}

-- ---- answered

store-at : (t : Told) (b : Option Bounds) (c : Cache) (h : Heap) (a : Access) → stores a ≡ true → SameBounds t.bounds b → Raised 0 t.bounds b → LeavesCache (touched_by t.regs a) None t.cache t.cache c → (IsTrue t.tells → h ≡ heap_after t.heap t.regs a) → IfBounds t.bounds (HasCore t a)
    → Accessed {A = Unit {0}} t (record t { bounds = b; cache = c; heap = h }) a (λ _. Nothing) (Ok tt)
store-at t b c h (SetField of i from) is same counts left heap core = record {
  called = record {
    later = record { tells = refl; speaks = refl; bounds = same; refusals = omega arith };
    ok = record { regs = refl; brings = λ told. refl; slots = refl; transcript = λ told. refl; heap = λ told. subst (λ (x : Heap). IsThinner (heap_after t.heap t.regs (SetField of i from)) x) (sym (heap told)) (IsThinner-refl (heap_after t.heap t.regs (SetField of i from))); cache = left; counts = counts; base = tt; refusals = refl; last = refl };
    err = tt;
  };
  answer = λ told. refl;
  named = λ make told. absurd (omega arith);
  core = core;
}
store-at t b c h (SetWord of i word) is same counts left heap core = record {
  called = record {
    later = record { tells = refl; speaks = refl; bounds = same; refusals = omega arith };
    ok = record { regs = refl; brings = λ told. refl; slots = refl; transcript = λ told. refl; heap = λ told. subst (λ (x : Heap). IsThinner (heap_after t.heap t.regs (SetWord of i word)) x) (sym (heap told)) (IsThinner-refl (heap_after t.heap t.regs (SetWord of i word))); cache = left; counts = counts; base = tt; refusals = refl; last = refl };
    err = tt;
  };
  answer = λ told. refl;
  named = λ make told. absurd (omega arith);
  core = core;
}
store-at t b c h (SetByte of i byte) is same counts left heap core = record {
  called = record {
    later = record { tells = refl; speaks = refl; bounds = same; refusals = omega arith };
    ok = record { regs = refl; brings = λ told. refl; slots = refl; transcript = λ told. refl; heap = λ told. subst (λ (x : Heap). IsThinner (heap_after t.heap t.regs (SetByte of i byte)) x) (sym (heap told)) (IsThinner-refl (heap_after t.heap t.regs (SetByte of i byte))); cache = left; counts = counts; base = tt; refusals = refl; last = refl };
    err = tt;
  };
  answer = λ told. refl;
  named = λ make told. absurd (omega arith);
  core = core;
}
store-at t b c h (WriteWords of at run) is same counts left heap core = record {
  called = record {
    later = record { tells = refl; speaks = refl; bounds = same; refusals = omega arith };
    ok = record { regs = refl; brings = λ told. refl; slots = refl; transcript = λ told. refl; heap = λ told. subst (λ (x : Heap). IsThinner (heap_after t.heap t.regs (WriteWords of at run)) x) (sym (heap told)) (IsThinner-refl (heap_after t.heap t.regs (WriteWords of at run))); cache = left; counts = counts; base = tt; refusals = refl; last = refl };
    err = tt;
  };
  answer = λ told. refl;
  named = λ make told. absurd (omega arith);
  core = core;
}
store-at t b c h (Known to name) is same counts left heap core = absurd (cc)
store-at t b c h (Class to of) is same counts left heap core = absurd (cc)
store-at t b c h (KindOf of) is same counts left heap core = absurd (cc)
store-at t b c h (Length of) is same counts left heap core = absurd (cc)
store-at t b c h (Header of) is same counts left heap core = absurd (cc)
store-at t b c h (Field to of i) is same counts left heap core = absurd (cc)
store-at t b c h (Word of i) is same counts left heap core = absurd (cc)
store-at t b c h (Byte of i) is same counts left heap core = absurd (cc)
store-at t b c h (ReadWords of at count) is same counts left heap core = absurd (cc)
store-at t b c h (ReadBytes of at count) is same counts left heap core = absurd (cc)
store-at t b c h (Make to class what) is same counts left heap core = absurd (cc)
store-at t b c h (Pin slot of) is same counts left heap core = absurd (cc)
store-at t b c h (Mark of) is same counts left heap core = absurd (cc)
store-at t b c h (Say of) is same counts left heap core = absurd (cc)
store-at t b c h (Swap k l) is same counts left heap core = record {
  called = record {
    later = record { tells = refl; speaks = refl; bounds = same; refusals = omega arith };
    ok = record { regs = refl; brings = λ told. refl; slots = refl; transcript = λ told. refl; heap = λ told. subst (λ (x : Heap). IsThinner (heap_after t.heap t.regs (Swap k l)) x) (sym (heap told)) (IsThinner-refl (heap_after t.heap t.regs (Swap k l))); cache = left; counts = counts; base = tt; refusals = refl; last = refl };
    err = tt;
  };
  answer = λ told. refl;
  named = λ make told. absurd (omega arith);
  core = core;
}

-- an object came, and was stored into
pub store-answered : (t u v : Told) (a : Access) → stores a ≡ true → IsQuiet t u → IsStored u v a → IfBounds t.bounds (HasCore t a) → Accessed {A = Unit {0}} t v a (λ _. Nothing) (Ok tt)
store-answered t u v a is quiet stored core =
    let same : v ≡ record t { bounds = v.bounds; cache = v.cache; heap = stored.heap } = stored.same ∙ ap (λ (z : Told). record z { heap = stored.heap; bounds = v.bounds; cache = v.cache }) quiet.same in
    let tells : u.tells ≡ t.tells = ap (λ (z : Told). z.tells) quiet.same in
    subst (λ (x : Told). Accessed {A = Unit {0}} t x a (λ _. Nothing) (Ok tt)) (sym same)
    (store-at t v.bounds v.cache stored.heap a is (same-trans t.bounds u.bounds v.bounds quiet.bounds stored.bounds) (raised-trans t.bounds u.bounds v.bounds quiet.counts stored.counts)
    (left-then (touched_by t.regs a) t.cache u.cache v.cache quiet.cache (subst (λ (regs : ℕ → Value). LeavesCache (touched_by regs a) None u.cache u.cache v.cache) (ap (λ (z : Told). z.regs) quiet.same) stored.cache))
    (λ told. stored.stored (tells ∙ told) ∙ ap (λ (z : Told). heap_after z.heap z.regs a) quiet.same)
    core)

-- or it was refused
pub store-last : (r : Result (Unit {0}) MemFault) (t u v : Told) (a : Access) → stores a ≡ true → IsSilent a → makes a ≡ 0 → IsQuiet t u → OnOk r (IsStored u v a) → IfErr r (IsRefused u v a) → IfBounds t.bounds (HasCore t a) → Accessed {A = Unit {0}} t v a (λ _. Nothing) r
store-last (Ok x) t u v a is silent none quiet stored err core = store-answered t u v a is quiet stored core
store-last (Err f) t u v a is silent none quiet stored err core = refused-is t v a (λ _. Nothing) f (after-quiet t u v a f silent none quiet err)

-- ---- ready after it

has-put : (h : Heap) (n k : ℕ) (o : Object) → Has h k → Has (put_object h n o) k
has-put h n k o has = go (eqb k n)
  where
    go : (b : Bool) → is_some (cond b (Some o) (h.at k)) ≡ true
    go true = refl
    go false = has

has-body : (h : Heap) (v : Value) (change : Body → Body) (k : ℕ) → Has h k → Has (with_body h v change) k
has-body h (Int z) change k has = has
has-body h (Ref n) change k has = go (h.at n)
  where
    go : (x : Option Object) → Has (option_map_or (λ (o : Object). put_object h n (record { class = o.class; body = change o.body })) x h) k
    go None = has
    go (Some o) = has-put h n k (record { class = o.class; body = change o.body }) has

has-exchanged : (h : Heap) (n m k : ℕ) → Has h k → Has (swap_objects h n m) k
has-exchanged h n m k has = first (h.at n)
  where
    second : (o : Object) (y : Option Object) → Has (option_map_or (λ (p : Object). put_object (put_object h n p) m o) y h) k
    second o None = has
    second o (Some p) = has-put (put_object h n p) m k o (has-put h n k p has)

    first : (x : Option Object) → Has (option_map_or (λ (o : Object). option_map_or (λ (p : Object). put_object (put_object h n p) m o) (h.at m) h) x h) k
    first None = has
    first (Some o) = second o (h.at m)

has-swapped : (h : Heap) (v w : Value) (k : ℕ) → Has h k → Has (with_swapped h v w) k
has-swapped h (Int z) w k has = has
has-swapped h (Ref n) (Int z) k has = has
has-swapped h (Ref n) (Ref m) k has = has-exchanged h n m k has

has-after : (h : Heap) (regs : ℕ → Value) (a : Access) (k : ℕ) → stores a ≡ true → Has h k → Has (heap_after h regs a) k
has-after h regs (SetField of i from) k is has = has-body h (regs of) (λ b. with_field b i (regs from)) k has
has-after h regs (SetWord of i word) k is has = has-body h (regs of) (λ b. with_words b i (word ∷ [])) k has
has-after h regs (SetByte of i byte) k is has = has-body h (regs of) (λ b. with_bytes b i (byte ∷ [])) k has
has-after h regs (WriteWords of at run) k is has = has-body h (regs of) (λ b. with_words b at run) k has
has-after h regs (Known to name) k is has = absurd (cc)
has-after h regs (Class to of) k is has = absurd (cc)
has-after h regs (KindOf of) k is has = absurd (cc)
has-after h regs (Length of) k is has = absurd (cc)
has-after h regs (Header of) k is has = absurd (cc)
has-after h regs (Field to of i) k is has = absurd (cc)
has-after h regs (Word of i) k is has = absurd (cc)
has-after h regs (Byte of i) k is has = absurd (cc)
has-after h regs (ReadWords of at count) k is has = absurd (cc)
has-after h regs (ReadBytes of at count) k is has = absurd (cc)
has-after h regs (Make to class what) k is has = absurd (cc)
has-after h regs (Pin slot of) k is has = absurd (cc)
has-after h regs (Mark of) k is has = absurd (cc)
has-after h regs (Say of) k is has = absurd (cc)
has-after h regs (Swap p q) k is has = has-swapped h (regs p) (regs q) k has

-- what is marked then was marked before, and rows are of marked methods
marked-then : (touched : ℕ → Bool) (a b : Cache) → LeavesCache touched None a a b → (n : ℕ) → b.marks n ≡ true → a.marks n ≡ true
marked-then touched a b left n on = ⊎_elim (λ kept. ap (λ (f : ℕ → Bool). f n) (sym kept.marks) ∙ on) (λ emptied. absurd (let none = emptied.marks n on in cc)) left

cached-then : (touched : ℕ → Bool) (a b : Cache) → LeavesCache touched None a a b → ((c s m : ℕ) → a.rows c s m ≡ true → a.marks m ≡ true) → (c s m : ℕ) → b.rows c s m ≡ true → b.marks m ≡ true
cached-then touched a b left was c s m on = ⊎_elim (λ kept. ap (λ (f : ℕ → Bool). f m) kept.marks ∙ was c s m (kept.rows c s m on)) (λ emptied. absurd (let no = emptied.rows c s m in let both : true ≡ false = sym on ∙ no in cc)) left

stored-ready : (u v : Told) (a : Access) → stores a ≡ true → IsReady u → IsStored u v a → IsReady v
stored-ready u v a is ready stored = subst (λ (z : Told). IsReady z) (sym stored.same) (record {
  whole = λ told. subst (λ (h : Heap). IsWhole h u.regs u.slots) (sym (stored.stored told)) (whole-heap u.heap u.regs u.slots (ready.whole told) a);
  marked = λ told n on. subst (λ (h : Heap). Has h n) (sym (stored.stored told)) (has-after u.heap u.regs a n is (ready.marked told n (marked-then (touched_by u.regs a) u.cache v.cache stored.cache n on)));
  cached = cached-then (touched_by u.regs a) u.cache v.cache stored.cache ready.cached;
})

pub store-ready : (r : Result (Unit {0}) MemFault) (u v : Told) (a : Access) → stores a ≡ true → IsReady u → OnOk r (IsStored u v a) → OnOk r (IsReady v)
store-ready (Ok x) u v a is ready stored = stored-ready u v a is ready stored
store-ready (Err f) u v a is ready stored = tt

-- ---- what is told of it

-- a store touches the name of its register alone
touched-is : (regs : ℕ → Value) (a : Access) (of n : ℕ) → stores a ≡ true → target_of a ≡ Some of → touched_by regs a n ≡ is_ref n (regs of)
touched-is regs (SetField k i from) of n is target = let same : k ≡ of = (cc) in ap (λ (r : ℕ). is_ref n (regs r)) same
touched-is regs (SetWord k i word) of n is target = let same : k ≡ of = (cc) in ap (λ (r : ℕ). is_ref n (regs r)) same
touched-is regs (SetByte k i byte) of n is target = let same : k ≡ of = (cc) in ap (λ (r : ℕ). is_ref n (regs r)) same
touched-is regs (WriteWords k at run) of n is target = let same : k ≡ of = (cc) in ap (λ (r : ℕ). is_ref n (regs r)) same
touched-is regs (Known to name) of n is target = absurd (cc)
touched-is regs (Class to k) of n is target = absurd (cc)
touched-is regs (KindOf k) of n is target = absurd (cc)
touched-is regs (Length k) of n is target = absurd (cc)
touched-is regs (Header k) of n is target = absurd (cc)
touched-is regs (Field to k i) of n is target = absurd (cc)
touched-is regs (Word k i) of n is target = absurd (cc)
touched-is regs (Byte k i) of n is target = absurd (cc)
touched-is regs (ReadWords k at count) of n is target = absurd (cc)
touched-is regs (ReadBytes k at count) of n is target = absurd (cc)
touched-is regs (Make to class what) of n is target = absurd (cc)
touched-is regs (Pin slot k) of n is target = absurd (cc)
touched-is regs (Mark k) of n is target = absurd (cc)
touched-is regs (Say k) of n is target = absurd (cc)
touched-is regs (Swap p q) of n is target = absurd (cc)

pub kept-cache : (touched : ℕ → Bool) (a b : Cache) → b ≡ a → ((n : ℕ) → touched n ≡ true → a.marks n ≡ false) → LeavesCache touched None a a b
kept-cache touched a b e clear = subst (λ (c : Cache). LeavesCache touched None a a c) (sym e) (inl (record { marks = refl; path = refl; rows = λ c s m h. h; untouched = clear }))

pub ref-name : (n k : ℕ) → is_ref n (Ref k) ≡ true → n ≡ k
ref-name n k e = let on : eqb k n ≡ true = e in let it : k ≡ n = grind (arith, common_steps) in sym it

-- an object with a body, without a mark, whose words change
pub stored-is : {H : Type 0} (host : Ghosts H) (m : LoomMemory H host) (q : Parts) (a : Access) (of s p : ℕ) → IsKept m.pager.levels.parts m.regs m.pager.pinned m.ledger → IsParts q → IsWithin s (core_of m.pager.levels.parts) (core_of q) → place_of ((core_of m.pager.levels.parts).entries s).state ≡ Some p → place_of ((core_of q).entries s).state ≡ place_of ((core_of m.pager.levels.parts).entries s).state
    → ((core_of q).entries s).name ≡ ((core_of m.pager.levels.parts).entries s).name → ((core_of m.pager.levels.parts).entries s).flags.marked ≡ false → stores a ≡ true → target_of a ≡ Some of → s ≡ word_in m.regs of
    → (IsTrue (host.tells Work) → heap_if (host.tells Work) (held (core_of q) (disk_of host m.pager.levels.disk.host.now m.pager.levels.disk.rest)) m.ledger.next ≡ heap_after (heap_if (host.tells Work) (held (core_of m.pager.levels.parts) (disk_of host m.pager.levels.disk.host.now m.pager.levels.disk.rest)) m.ledger.next) (λ r. meant (core_of m.pager.levels.parts).entries [] 0 (word_in m.regs r)) a)
    → IsStored (told_of host m.pager.levels.disk.host.now m.pager.levels.disk.rest (core_of m.pager.levels.parts) m.regs m.pager.pinned m.ledger) (told_of host m.pager.levels.disk.host.now m.pager.levels.disk.rest (core_of q) m.regs m.pager.pinned m.ledger) a
stored-is {H} host m q a of s p kept parts within at place name off is target word heap =
    let core = m.pager.levels.whole.parts.core in
    let used = placed-used ((core_of m.pager.levels.parts).entries s).state p at in
    let calm = store-calm m.pager.pinned s p (core_of m.pager.levels.parts) (core_of q) core parts.core within at place name in
    let same = cache-same (core_of m.pager.levels.parts) (core_of q) (found m.ledger.rows) m.ledger.mark m.ledger.begun core parts.core (within-marks (core_of m.pager.levels.parts) (core_of q) s core parts.core within) kept.cached in
    let ref : meant (core_of m.pager.levels.parts).entries [] 0 (word_in m.regs of) ≡ Ref ((core_of m.pager.levels.parts).entries s).name = ap (meant (core_of m.pager.levels.parts).entries [] 0) (sym word) ∙ meant-short (core_of m.pager.levels.parts).entries [] 0 s (core.short s used) in
    let regs : ℕ → Value = λ r. meant (core_of m.pager.levels.parts).entries [] 0 (word_in m.regs r) in
    record {
      heap = heap_if (host.tells Work) (held (core_of q) (disk_of host m.pager.levels.disk.host.now m.pager.levels.disk.rest)) m.ledger.next;
      bounds = (refl, refl, refl, omega arith, omega arith);
      counts = (refl, sym (add-zero m.ledger.made));
      same = store-told host m.pager.levels.disk.host.now m.pager.levels.disk.rest (core_of m.pager.levels.parts) (core_of q) m.regs m.pager.pinned m.ledger (kept-rooted m.pager.levels.parts m.regs m.pager.pinned m.ledger m.pager.levels.whole kept) calm;
      cache = kept-cache (touched_by regs a) _ _ same
          (λ n touched.
          let it : n ≡ ((core_of m.pager.levels.parts).entries s).name = ref-name n ((core_of m.pager.levels.parts).entries s).name (sym (touched-is regs a of n is target ∙ ap (is_ref n) ref) ∙ touched) in
          ap (marked_of (core_of m.pager.levels.parts)) it ∙ marked-at (core_of m.pager.levels.parts) s core used ∙ off);
      stored = heap;
    }

-- ---- a store of what is there

field-own : (b : Body) (i : ℕ) (v : Value) → field_of b i ≡ Some v → with_field b i v ≡ b
field-own (Pointers values) i v is = ap Pointers (set-same values i v is)
field-own (Words words) i v is = refl
field-own (Bytes bytes) i v is = refl
field-own (Method header literals code) i v is = ap (λ (vs : List Value). Method header vs code) (set-same literals i v is)

put-own : (h : Heap) (n : ℕ) (o : Object) → h.at n ≡ Some o → put_object h n o ≡ h
put-own h n o is = ap (λ (f : ℕ → Option Object). let x : Heap = record { at = f; next = h.next } in x) (fun_ext (λ k. go k (eqb k n) refl))
  where
    go : (k : ℕ) (b : Bool) → eqb k n ≡ b → cond b (Some o) (h.at k) ≡ h.at k
    go k true e = let same : k ≡ n = grind (arith, common_steps) in sym (ap h.at same ∙ is)
    go k false e = refl

-- the heap is as it was
body-own : (h : Heap) (w : Value) (i : ℕ) (v : Value) → part_at h w (λ b. field_of b i) ≡ Some v → with_body h w (λ b. with_field b i v) ≡ h
body-own h (Int z) i v is = refl
body-own h (Ref n) i v is = go (h.at n) refl is
  where
    go : (x : Option Object) → h.at n ≡ x → option_and_then (λ (o : Object). field_of o.body i) x ≡ Some v → option_map_or (λ (o : Object). put_object h n (record { class = o.class; body = with_field o.body i v })) x h ≡ h
    go None e is = refl
    go (Some o) e is = ap (λ (b : Body). put_object h n (record { class = o.class; body = b })) (field-own o.body i v is) ∙ put-own h n o e

-- an object with a body, without a mark, has this word in a field
pub stored-own : {H : Type 0} (host : Ghosts H) (m : LoomMemory H host) (of i from s p w : ℕ) → IsSound host m → IsAt (core_of m.pager.levels.parts) s p i w → w ≢ 0 → ((core_of m.pager.levels.parts).entries s).flags.marked ≡ false → s ≡ word_in m.regs of → w ≡ word_in m.regs from
    → IsStored (loom_told host m) (loom_told host m) (SetField of i from)
unfolding loom_told
stored-own {H} host m of i from s p w sound at some off word same =
    let core = m.pager.levels.whole.parts.core in
    let used = placed-used ((core_of m.pager.levels.parts).entries s).state p at.place in
    let ref : meant (core_of m.pager.levels.parts).entries [] 0 (word_in m.regs of) ≡ Ref ((core_of m.pager.levels.parts).entries s).name = ap (meant (core_of m.pager.levels.parts).entries [] 0) (sym word) ∙ meant-short (core_of m.pager.levels.parts).entries [] 0 s (core.short s used) in
    let disk = disk_of host m.pager.levels.disk.host.now m.pager.levels.disk.rest in
    let regs : ℕ → Value = λ r. meant (core_of m.pager.levels.parts).entries [] 0 (word_in m.regs r) in
    record {
      heap = heap_if (host.tells Work) (held (core_of m.pager.levels.parts) disk) m.ledger.next;
      bounds = (refl, refl, refl, omega arith, omega arith);
      counts = (refl, sym (add-zero m.ledger.made));
      same = refl;
      cache = kept-cache (touched_by regs (SetField of i from)) _ _ refl
          (λ n touched.
          let it : n ≡ ((core_of m.pager.levels.parts).entries s).name = ref-name n ((core_of m.pager.levels.parts).entries s).name (sym (ap (is_ref n) ref) ∙ touched) in
          ap (marked_of (core_of m.pager.levels.parts)) it ∙ marked-at (core_of m.pager.levels.parts) s core used ∙ off);
      stored = λ told. sym (body-own (heap_if (host.tells Work) (held (core_of m.pager.levels.parts) disk) m.ledger.next) (regs of) i (regs from)
          (field-told (host.tells Work) (core_of m.pager.levels.parts) disk m.ledger.next s p 0 of i w regs told core at some (ap (meant (core_of m.pager.levels.parts).entries [] 0) (sym word))
          ∙ ap (λ (k : ℕ). Some (meant (core_of m.pager.levels.parts).entries [] 0 k)) same));
    }

-- another body, as the access says it
pub body-told : (b : Bool) (x y : Core) (disk now : Disk) (next n : ℕ) (v : Value) (o : Object) (change : Body → Body) → IsTrue b → v ≡ Ref n → held x disk n ≡ Some o
    → held y now ≡ put (held x disk) n (Some (record { class = o.class; body = change o.body })) → heap_if b (held y now) next ≡ with_body (heap_if b (held x disk) next) v change
body-told false x y disk now next n v o change told name there is = absurd (cc)
body-told true x y disk now next n v o change told name there is =
    let h : Heap = record { at = held x disk; next = next } in
    ap (λ (f : Disk). heap_if true f next) is
    ∙ sym (ap (λ (w : Value). with_body (record { at = held x disk; next = next }) w change) name
    ∙ ap (λ (z : Option Object). option_map_or (λ (o : Object). put_object (record { at = held x disk; next = next }) n (record { class = o.class; body = change o.body })) z (record { at = held x disk; next = next })) there)

-- ---- marks go before it

pub unmark-calm : {H : Type 0} (host : Ghosts H) (m : LoomMemory H host) (q : Parts) → IsSound host m → IsUnmarking (core_of m.pager.levels.parts) (core_of q) → ((t : ℕ) → outside (core_of q) t ≡ outside (core_of m.pager.levels.parts) t) → LeavesMarks (core_of m.pager.levels.parts) (core_of q) → IsCalm m.pager.pinned (core_of m.pager.levels.parts) (core_of q)
unmark-calm {H} host m q sound step out marks = purged-calm m.pager.pinned (core_of m.pager.levels.parts) (core_of q) (unmarked-purged m.pager.pinned.a m.pager.pinned.b m.pager.pinned.d (core_of m.pager.levels.parts) (core_of q) step out) marks (unmarked-here (core_of m.pager.levels.parts) (core_of q) step)

pub unmark-quiet : {H : Type 0} (host : Ghosts H) (m : LoomMemory H host) (q : Parts) → IsSound host m → IsParts q → Stays (core_of m.pager.levels.parts) (core_of q) → IsCalm m.pager.pinned (core_of m.pager.levels.parts) (core_of q)
    → IsQuiet (told_of host m.pager.levels.disk.host.now m.pager.levels.disk.rest (core_of m.pager.levels.parts) m.regs m.pager.pinned m.ledger) (told_of host m.pager.levels.disk.host.now m.pager.levels.disk.rest (core_of q) m.regs m.pager.pinned m.ledger)
unmark-quiet {H} host m q sound parts stays calm =
    quiet-is host m.pager.levels.disk.host.now m.pager.levels.disk.host.now m.pager.levels.disk.rest m.pager.levels.disk.rest (core_of m.pager.levels.parts) (core_of q) m.regs m.pager.pinned m.ledger (kept-rooted m.pager.levels.parts m.regs m.pager.pinned m.ledger m.pager.levels.whole sound.kept) parts.core sound.kept.cached calm (work-refl host m.pager.levels.disk.host.now) refl
    (λ told. (stays (disk_of host m.pager.levels.disk.host.now m.pager.levels.disk.rest) (sound.over.backed told)).held)

pub unmark-sound : {H : Type 0} (host : Ghosts H) (m : LoomMemory H host) (q : Parts) (whole : AreWhole q) → IsSound host m → IsParts q → Stays (core_of m.pager.levels.parts) (core_of q) → IsUnmarking (core_of m.pager.levels.parts) (core_of q) → IsCalm m.pager.pinned (core_of m.pager.levels.parts) (core_of q) → q.segment ≡ m.pager.levels.parts.segment
    → IsSound host (over_parts m q whole)
unfolding loom_told
unmark-sound {H} host m q whole sound parts stays step calm segment = record {
  kept = calm-kept m.pager.levels.parts q m.regs m.pager.pinned m.ledger m.pager.levels.whole sound.kept calm parts (ap size_of segment);
  over = over-is host m.pager.levels.disk.host.now m.pager.levels.disk.host.now m.pager.levels.disk.rest m.pager.levels.disk.rest (core_of m.pager.levels.parts) (core_of q) m.ledger sound.over refl sound.over.stands
      (λ told. let keeps = stays (disk_of host m.pager.levels.disk.host.now m.pager.levels.disk.rest) (sound.over.backed told) in record { backed = keeps.backed; held = keeps.held })
      (λ told. let same = unmarked-fresh (core_of m.pager.levels.parts) (core_of q) step in omega arith);
  soon = sound.soon;
  exact = exact-counts host m.pager.levels.parts q m.pager.levels.disk.host.now m.pager.levels.disk.rest m.ledger.next sound.exact parts stays (unmarking-counts (core_of m.pager.levels.parts) (core_of q) step);
  thin = thin-quiet host m (over_parts m q whole) sound.thin (λ on. on) (unmark-quiet host m q sound parts stays calm);
}

-- ---- stores that are refused, for whatever access

pub err-of : (r : Result (Unit {0}) MemFault) (u v : Told) (a : Access) → IsSilent a → makes a ≡ 0 → IfErr r (λ f. (b : Access) → IsSilent b → makes b ≡ 0 → IsRefused u v b f) → IfErr r (IsRefused u v a)
err-of (Ok x) u v a silent none err = tt
err-of (Err f) u v a silent none err = err a silent none

-- a word is a run of one
pub word-stored : (r : Result (Unit {0}) MemFault) (u v : Told) (of i w : ℕ) → OnOk r (IsStored u v (WriteWords of i (w ∷ []))) → OnOk r (IsStored u v (SetWord of i w))
word-stored (Ok x) u v of i w stored = record { heap = stored.heap; same = stored.same; bounds = stored.bounds; counts = stored.counts; cache = stored.cache; stored = stored.stored }
word-stored (Err f) u v of i w stored = tt

pub word-can : (h : Heap) (regs : ℕ → Value) (of i w : ℕ) → CanDo h regs (SetWord of i w) → CanDo h regs (WriteWords of i (w ∷ []))
word-can h regs of i w can = (can.0, can.1, (let low = can.2 in omega arith))

-- ---- words and bytes of a body

words-body : (entries : ℕ → Entry) (old : List Value) (ws : List ℕ) (k : Kind) (len : ℕ) (xs : List ℕ) → words_of (body_in entries old ws k len) ≡ Some xs → (k ≡ kind.Words) × (ws ≡ xs)
unfolding body_in
words-body entries old ws kind.Pointers len xs e = absurd (let no_ : None ≡ Some xs = e in cc)
words-body entries old ws kind.Words len xs e = (refl, (let both : Some ws ≡ Some xs = e in let it : ws ≡ xs = (cc) in it))
words-body entries old ws kind.Bytes len xs e = absurd (let no_ : None ≡ Some xs = e in cc)
words-body entries old ws kind.Method len xs e = absurd (let no_ : None ≡ Some xs = e in cc)

pub words-can : (b : Bool) (c : Core) (disk : Disk) (next s p at count : ℕ) (v : Value) → IsTrue b → IsCore c → place_of (c.entries s).state ≡ Some p → v ≡ meant c.entries [] 0 s → HasPart (heap_if b (held c disk) next) v words_of (λ words. at + count ≤ length words)
    → ((c.entries s).kind ≡ kind.Words) × (at + count ≤ (c.entries s).len)
words-can false c disk next s p at count v told core place is can = absurd (cc)
words-can true c disk next s p at count v told core place is can =
    let there : words_of (object_at c disk (c.entries s) p).body ≡ Some can.0 = ap (λ (o : Option Object). option_and_then (λ (o : Object). words_of o.body) o) (sym (object-told c disk next s p v core place is)) ∙ can.1 in
    let both = words-body c.entries (fields_there (disk (c.entries s).name)) (c.chunks p).words (c.entries s).kind (c.entries s).len can.0 there in
    let long = core.long s p place in
    let len : words_for (c.entries s).kind (c.entries s).len (literal_count (header_in (c.chunks p).words)) ≡ (c.entries s).len = ap (λ (k : Kind). words_for k (c.entries s).len (literal_count (header_in (c.chunks p).words))) both.0 in
    let same : length (c.chunks p).words ≡ length can.0 = ap length both.1 in
    let low = can.2 in
    (both.0, omega (arith, long, len, same, low))

within-take : (n i : ℕ) (ys xs : List ℕ) → take n ys ≡ xs → i < length xs → i < n
within-take n i ys xs e low = let most = length-take n ys in let same : length (take n ys) ≡ length xs = ap length e in omega (arith, most, same, low)

bytes-body : (entries : ℕ → Entry) (old : List Value) (ws : List ℕ) (k : Kind) (len i : ℕ) (xs : List ℕ) → bytes_of (body_in entries old ws k len) ≡ Some xs → i < length xs → HasBytes k × (i < len)
unfolding body_in
bytes-body entries old ws kind.Pointers len i xs e low = absurd (let no_ : None ≡ Some xs = e in cc)
bytes-body entries old ws kind.Words len i xs e low = absurd (let no_ : None ≡ Some xs = e in cc)
bytes-body entries old ws kind.Bytes len i xs e low = (InBytes refl, (let both : Some (take len (bytes_in ws)) ≡ Some xs = e in let it : take len (bytes_in ws) ≡ xs = (cc) in within-take len i (bytes_in ws) xs it low))
bytes-body entries old ws kind.Method len i xs e low = (InMethod refl, (let both : Some (take len (bytes_in (code_in ws))) ≡ Some xs = e in let it : take len (bytes_in (code_in ws)) ≡ xs = (cc) in within-take len i (bytes_in (code_in ws)) xs it low))

pub bytes-can : (b : Bool) (c : Core) (disk : Disk) (next s p i : ℕ) (v : Value) → IsTrue b → IsCore c → place_of (c.entries s).state ≡ Some p → v ≡ meant c.entries [] 0 s → HasPart (heap_if b (held c disk) next) v bytes_of (λ bytes. i < length bytes)
    → HasBytes (c.entries s).kind × (i < (c.entries s).len)
bytes-can false c disk next s p i v told core place is can = absurd (cc)
bytes-can true c disk next s p i v told core place is can =
    let there : bytes_of (object_at c disk (c.entries s) p).body ≡ Some can.0 = ap (λ (o : Option Object). option_and_then (λ (o : Object). bytes_of o.body) o) (sym (object-told c disk next s p v core place is)) ∙ can.1 in
    bytes-body c.entries (fields_there (disk (c.entries s).name)) (c.chunks p).words (c.entries s).kind (c.entries s).len i can.0 there can.2

pub words-fields : (b : Body) (i : ℕ) (run : List ℕ) → fields_of (with_words b i run) ≡ fields_of b
words-fields (Pointers values) i run = refl
words-fields (Words words) i run = refl
words-fields (Bytes bytes) i run = refl
words-fields (Method header literals code) i run = refl

pub bytes-fields : (b : Body) (i : ℕ) (run : List ℕ) → fields_of (with_bytes b i run) ≡ fields_of b
bytes-fields (Pointers values) i run = refl
bytes-fields (Words words) i run = refl
bytes-fields (Bytes bytes) i run = refl
bytes-fields (Method header literals code) i run = refl

-- what is kept where an object's words changed
pub stored-kept : (p q : Parts) (regs : List ℕ) (pins : Pinned) (k : Ledger) (s at : ℕ) → AreWhole p → IsKept p regs pins k → IsParts q → IsWithin s (core_of p) (core_of q) → place_of ((core_of p).entries s).state ≡ Some at → place_of ((core_of q).entries s).state ≡ place_of ((core_of p).entries s).state
    → ((core_of q).entries s).name ≡ ((core_of p).entries s).name → size_of q.segment ≡ size_of p.segment → IsKept q regs pins k
stored-kept p q regs pins k s at whole kept parts within there place name size =
    calm-kept p q regs pins k whole kept (store-calm pins s at (core_of p) (core_of q) whole.parts.core parts.core within there place name) parts size

pub stored-over : {H : Type 0} (host : Ghosts H) (now : H) (rest : DiskRest) (x y : Core) (k : Ledger) (s : ℕ) → IsOver host now rest x k → IsWithin s x y → fresh_by (y.entries s) ≡ fresh_by (x.entries s)
    → ((disk : Disk) → IsBacked x disk → IsBacked y disk) → ((disk : Disk) → IsBacked x disk → IsValued (held x disk) → IsValued (held y disk)) → IsOver host now rest y k
stored-over {H} host now rest x y k s over within fresh backed valued = record {
  stands = over.stands;
  backed = λ told. backed (disk_of host now rest) (over.backed told);
  counted = λ told. let was = over.counted told in let same = fresh-stays x y s within.about fresh in omega (arith, was, same);
  roomy = over.roomy;
  based = over.based;
  valued = λ told. valued (disk_of host now rest) (over.backed told) (over.valued told);
}

-- a step before it, and one behind, of which nothing is told
pub stored-between : (t u v w : Told) (a : Access) → u ≡ t → w ≡ v → IsStored u v a → IsStored t w a
stored-between t u v w a first last is = subst (λ (z : Told). IsStored z w a) first (subst (λ (z : Told). IsStored u z a) (sym last) is)

-- quiet steps before it
pub stored-quiet : (t u v : Told) (a : Access) → IsQuiet t u → IsStored u v a → IsStored t v a
stored-quiet t u v a quiet stored = record {
  heap = stored.heap;
  same = stored.same ∙ ap (λ (z : Told). record z { heap = stored.heap; bounds = v.bounds; cache = v.cache }) quiet.same;
  bounds = same-trans t.bounds u.bounds v.bounds quiet.bounds stored.bounds;
  counts = raised-trans t.bounds u.bounds v.bounds quiet.counts stored.counts;
  cache = left-then (touched_by t.regs a) t.cache u.cache v.cache quiet.cache (subst (λ (regs : ℕ → Value). LeavesCache (touched_by regs a) None u.cache u.cache v.cache) (ap (λ (z : Told). z.regs) quiet.same) stored.cache);
  stored = λ told. stored.stored (ap (λ (z : Told). z.tells) quiet.same ∙ told) ∙ ap (λ (z : Told). heap_after z.heap z.regs a) quiet.same;
}
