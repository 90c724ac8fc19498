-- What calls on other files leave of an unfinished one, and of what descriptors accepted.
use Rattle.std.proofs.Common.{◌≡◌, ◌≢◌, inl, inr, ⊎_elim, ℕ, List, ◌++◌, true, Option, None, Some, Result, Ok, Err, IsOk, IfOk, OnOk, OnErr, refl, sym, ap, ◌∙◌, subst, take}
use Rattle.std.proofs.lemmas.Bool.{cases_eq, false≢true}
use Rattle.std.specs.Option.{option_map}
use Rattle.file_system.specs.World.{Entry, FileState, Opening, World, Moments, put_at, put_in}
use Rattle.file_system.specs.Calls.{Appends, Changes, ChangesBy, Closes, Does, FailsToSync, Finds, Makes, MakesOpen, MakesShut, MayDo, Reads, SameNames, Settles, Spoils, Syncs, Takes, closed, is_in_order, synced, unsynced}
use Rattle.file_system.specs.declared.system.Way.{Way}
use Rattle.file_system.specs.declared.system.Way.TheVariants.{Append, Place, Read}
use Rattle.file_saving.specs.Saving.{IsUnfinished, KeepsPut, KeepsPutBut, Use, being_written, use_at, use_of}
use Rattle.file_saving.proofs.PutLaws.{opened-puts, puts-closed, puts-else, puts-found, puts-made, puts-same, puts-then}
use Rattle.file_roles.specs.Open.{HasUse, IsOpened, Leaves, Puts, Writes, not_of, not_through, use_in}
use Rattle.file_roles.specs.declared.files.Used.{Used}

-- ---- numbers and openings

or-zero : Option ℕ → ℕ
or-zero None = 0
or-zero (Some n) = n

some-same : (n m : ℕ) → Some n ≡ Some m → n ≡ m
unfolding or-zero
some-same n m same = ap or-zero same

is-none : {X : Type 0} → Option X → Type 0
is-none None = Unit {0}
is-none (Some x) = ⊥

none-some : {X : Type 0} (x : X) → None ≡ Some x → ⊥
unfolding is-none
none-some x same = subst is-none same tt

-- what is open is known where its use is
opening-of : (x : Option Opening) (u : Use) → option_map use_of x ≡ Some u → (o : Opening) × (x ≡ Some o)
opening-of None u is = absurd (none-some u is)
opening-of (Some o) u is = (o, refl)

or-use : Use → Option Use → Use
or-use u None = u
or-use u (Some v) = v

same-use : (u v : Use) → Some u ≡ Some v → u ≡ v
unfolding or-use
same-use u v is = ap (or-use u) is

use-of : (x : Option Opening) (o : Opening) (u : Use) → x ≡ Some o → option_map use_of x ≡ Some u → use_of o ≡ u
use-of x o u is used = same-use (use_of o) u (sym (ap (option_map use_of) is) ∙ used)

-- ---- an unfinished file

unfinished-over : (part : Entry) (d file : ℕ) (bytes : List ℕ) (w v : World) → v.opened d ≡ w.opened d → v.files file ≡ w.files file → ((e : Entry) → v.names e ≡ Some file → w.names e ≡ Some file)
    → IsUnfinished part d file bytes w → IsUnfinished part d file bytes v
unfinished-over part d file bytes w v opened held named u = record {
  opened = opened ∙ u.opened;
  regular = ap (λ (f : FileState). f.kind) held ∙ u.regular;
  holds = ap (λ (f : FileState). f.bytes) held ∙ u.holds;
  unspoiled = ap (λ (f : FileState). f.spoiled) held ∙ u.unspoiled;
  only = λ e other leads. u.only e other (named e leads);
}

same-named : (w v : World) (file : ℕ) → SameNames w v → (e : Entry) → v.names e ≡ Some file → w.names e ≡ Some file
same-named w v file same e leads = sym (same.names e) ∙ leads

-- its descriptor is none that is free
pub unfinished-apart : (part : Entry) (d file k : ℕ) (bytes : List ℕ) (w : World) → IsUnfinished part d file bytes w → w.opened k ≡ None → d ≢ k
unfinished-apart part d file k bytes w u free same = none-some (being_written file bytes) (sym free ∙ (ap w.opened (sym same) ∙ u.opened))

unfinished-takes : (part : Entry) (d file k i : ℕ) (way : Option Way) (bytes : List ℕ) (w v : World) → Takes k i way w v → IsUnfinished part d file bytes w → v.opened d ≡ w.opened d
unfinished-takes part d file k i way bytes w v t u = t.others d (unfinished-apart part d file k bytes w u t.free)

unfinished-makes : (part here : Entry) (d file i : ℕ) (bytes : List ℕ) (w v : World) → v.opened d ≡ w.opened d → Makes here i w v → IsUnfinished part d file bytes w → IsUnfinished part d file bytes v
unfinished-makes part here d file i bytes w v opened m u =
    let apart : file ≢ i = m.fresh.unopened d (being_written file bytes) u.opened refl in
    unfinished-over part d file bytes w v opened (m.files file apart)
    (λ e leads. sym (m.names.names e (λ (h : e ≡ here). apart (some-same file i (sym leads ∙ (ap v.names h ∙ m.name))))) ∙ leads) u

-- ---- calls

pub leaves-same : (P : ℕ → ℕ → Type 0) (old new : Moments) → new ≡ old → Leaves P old new
leaves-same P old new same = record { puts = puts-same old new same; saving = λ part d file bytes safe u. subst (λ (m : Moments). IsUnfinished part d file bytes m.now) (sym same) u }

pub leaves-then : (P : ℕ → ℕ → Type 0) (a b c : Moments) → Leaves P a b → Leaves P b c → Leaves P a c
leaves-then P a b c first second = record { puts = puts-then a b c first.puts second.puts; saving = λ part d file bytes safe u. second.saving part d file bytes safe (first.saving part d file bytes safe u) }

pub leaves-safer : (P Q : ℕ → ℕ → Type 0) (old new : Moments) → ((d file : ℕ) → Q d file → P d file) → Leaves P old new → Leaves Q old new
leaves-safer P Q old new safer leaves = record { puts = leaves.puts; saving = λ part d file bytes safe u. leaves.saving part d file bytes (safer d file safe) u }

pub leaves-found : (P : ℕ → ℕ → Type 0) (k i : ℕ) (way : Option Way) (old new : Moments) → Does (Finds k i way) old new → Leaves P old new
leaves-found P k i way old new does = record {
  puts = puts-found k i way old new does;
  saving = λ part d file bytes safe u. unfinished-over part d file bytes old.now new.now (unfinished-takes part d file k i way bytes old.now new.now does.does.takes u) (does.does.files file) (same-named old.now new.now file does.does.names) u;
}

pub leaves-made : (P : ℕ → ℕ → Type 0) (here : Entry) (k i : ℕ) (way : Option Way) (old new : Moments) → Does (MakesOpen here k i way) old new → Leaves P old new
leaves-made P here k i way old new does = record {
  puts = puts-made here k i way old new does;
  saving = λ part d file bytes safe u. unfinished-makes part here d file i bytes old.now new.now (unfinished-takes part d file k i way bytes old.now new.now does.does.takes u) does.does.makes u;
}

pub leaves-unmade : (P : ℕ → ℕ → Type 0) (here : Entry) (old new : Moments) → MayDo (MakesShut here) old new → Leaves P old new
leaves-unmade P here old new (inl same) = leaves-same P old new same
leaves-unmade P here old new (inr does) = record {
  puts = opened-puts old new does.does.opened;
  saving = λ part d file bytes safe u. unfinished-makes part here d file does.does.file bytes old.now new.now (does.does.opened d) does.does.makes u;
}

pub leaves-closed : (k : ℕ) (old new : Moments) → MayDo (Closes k) old new → Leaves (not_through k) old new
leaves-closed k old new (inl same) = leaves-same (not_through k) old new same
leaves-closed k old new (inr does) = record {
  puts = puts-closed k old new (inr does);
  saving = λ part d file bytes safe u. unfinished-over part d file bytes old.now new.now (does.does.others d safe) (does.does.files file) (same-named old.now new.now file does.does.names) u;
}

leaves-changes : (i : ℕ) (f : FileState) (old new : Moments) → Changes i f old.now new.now → Leaves (not_of i) old new
leaves-changes i f old new c = record {
  puts = opened-puts old new c.opened;
  saving = λ part d file bytes safe u. unfinished-over part d file bytes old.now new.now (c.opened d) (c.files file safe) (same-named old.now new.now file c.names) u;
}

pub leaves-spoiled : (i : ℕ) (old new : Moments) → MayDo (Spoils i) old new → Leaves (not_of i) old new
leaves-spoiled i old new (inl same) = leaves-same (not_of i) old new same
leaves-spoiled i old new (inr does) = record {
  puts = opened-puts old new does.does.opened;
  saving = λ part d file bytes safe u. unfinished-over part d file bytes old.now new.now (does.does.opened d) (does.does.files file safe) (same-named old.now new.now file does.does.names) u;
}

leaves-settles : (P : ℕ → ℕ → Type 0) (folder : ℕ) (old new : Moments) → Does (Settles folder) old new → Leaves P old new
leaves-settles P folder old new does = record {
  puts = opened-puts old new does.does.opened;
  saving = λ part d file bytes safe u. unfinished-over part d file bytes old.now new.now (does.does.opened d) (does.does.files file) (λ e leads. sym (does.does.names e) ∙ leads) u;
}

-- ---- through a descriptor whose use is known

at-use : (d : ℕ) (u : Used) (w : World) (o : Opening) → w.opened d ≡ Some o → use_at d w ≡ Some (use_in u) → use_of o ≡ use_in u
at-use d u w o is used = use-of (w.opened d) o (use_in u) is used

leaves-moved-file : (i j : ℕ) (old new : Moments) → i ≡ j → Leaves (not_of i) old new → Leaves (not_of j) old new
leaves-moved-file i j old new same leaves = subst (λ (k : ℕ). Leaves (not_of k) old new) same leaves

pub leaves-cut : {T E : Type 0} (u : Used) (change : FileState → FileState) (old new : Moments) (r : Result T E) → HasUse u old.now
    → ((o : Opening) → old.now.opened u.descriptor ≡ Some o → OnOk r (Does (ChangesBy change o) old new)) → ((o : Opening) → old.now.opened u.descriptor ≡ Some o → OnErr r (MayDo (Spoils o.file) old new)) → Leaves (not_of u.found.file) old new
leaves-cut u change old new (Ok x) used ok err =
    let found = opening-of (old.now.opened u.descriptor) (use_in u) used in
    leaves-moved-file found.0.file u.found.file old new (ap (λ (v : Use). v.file) (at-use u.descriptor u old.now found.0 found.1 used)) (leaves-changes found.0.file (change (old.now.files found.0.file)) old new (ok found.0 found.1).does)
leaves-cut u change old new (Err x) used ok err =
    let found = opening-of (old.now.opened u.descriptor) (use_in u) used in
    leaves-moved-file found.0.file u.found.file old new (ap (λ (v : Use). v.file) (at-use u.descriptor u old.now found.0 found.1 used)) (leaves-spoiled found.0.file old new (err found.0 found.1))

leaves-syncs : (way : Option Way) (o : Opening) (x : Way) (old new : Moments) → way ≡ Some x → Does (Syncs way o) old new → Leaves (not_of o.file) old new
leaves-syncs way o x old new is does = leaves-changes o.file (synced (old.now.files o.file)) old new (subst (λ (y : Option Way). Does (Syncs y o) old new) is does).does

leaves-may-change : (o : Opening) (old new : Moments) → MayDo (ChangesBy unsynced o) old new → Leaves (not_of o.file) old new
leaves-may-change o old new (inl same) = leaves-same (not_of o.file) old new same
leaves-may-change o old new (inr does) = leaves-changes o.file (unsynced (old.now.files o.file)) old new does.does

leaves-unsyncs : (way : Option Way) (o : Opening) (x : Way) (old new : Moments) → way ≡ Some x → FailsToSync way o old new → Leaves (not_of o.file) old new
leaves-unsyncs way o x old new is fails = leaves-may-change o old new (subst (λ (y : Option Way). FailsToSync y o old new) is fails)

pub leaves-synced : {T E : Type 0} (u : Used) (old new : Moments) (r : Result T E) → HasUse u old.now
    → ((o : Opening) → old.now.opened u.descriptor ≡ Some o → OnOk r (Does (Syncs o.way o) old new)) → ((o : Opening) → old.now.opened u.descriptor ≡ Some o → OnErr r (FailsToSync o.way o old new)) → Leaves (not_of u.found.file) old new
leaves-synced u old new (Ok x) used ok err =
    let found = opening-of (old.now.opened u.descriptor) (use_in u) used in
    let same = at-use u.descriptor u old.now found.0 found.1 used in
    leaves-moved-file found.0.file u.found.file old new (ap (λ (v : Use). v.file) same) (leaves-syncs found.0.way found.0 u.way old new (ap (λ (v : Use). v.way) same) (ok found.0 found.1))
leaves-synced u old new (Err x) used ok err =
    let found = opening-of (old.now.opened u.descriptor) (use_in u) used in
    let same = at-use u.descriptor u old.now found.0 found.1 used in
    leaves-moved-file found.0.file u.found.file old new (ap (λ (v : Use). v.file) same) (leaves-unsyncs found.0.way found.0 u.way old new (ap (λ (v : Use). v.way) same) (err found.0 found.1))

-- ---- what was opened

pub takes-opened : (u : Used) (old new : Moments) → Takes u.descriptor u.found.file (Some u.way) old.now new.now → IsOpened u old new
takes-opened u old new t = record { free = t.free; used = ap (option_map use_of) t.opened; empty = ap put_in t.opened }

pub opened-later : (P : ℕ → ℕ → Type 0) (u : Used) (a b c : Moments) → IsOpened u a b → Leaves P b c → IsOpened u a c
opened-later P u a b c o leaves = record { free = o.free; used = leaves.puts.uses u.descriptor (use_in u) o.used; empty = leaves.puts.is u.descriptor ∙ o.empty }

pub opened-before : (u : Used) (a b c : Moments) → b ≡ a → IsOpened u b c → IsOpened u a c
opened-before u a b c same o = record { free = ap (λ (m : Moments). m.now.opened u.descriptor) (sym same) ∙ o.free; used = o.used; empty = o.empty }

pub leaves-before : (P : ℕ → ℕ → Type 0) (a b c : Moments) → b ≡ a → Leaves P b c → Leaves P a c
leaves-before P a b c same leaves = subst (λ (m : Moments). Leaves P m c) same leaves

-- what was opened was shut
pub leaves-shut : (P : ℕ → ℕ → Type 0) (k : ℕ) (a b c : Moments) → a.now.opened k ≡ None → Leaves P a b → Leaves (not_through k) b c → Leaves P a c
leaves-shut P k a b c free first second = record {
  puts = puts-then a b c first.puts second.puts;
  saving = λ part d file bytes safe u. second.saving part d file bytes (unfinished-apart part d file k bytes a.now u free) (first.saving part d file bytes safe u);
}

leaves-folder-synced : {T E : Type 0} (P : ℕ → ℕ → Type 0) (k folder : ℕ) (a b c : Moments) (r : Result T E) → (found : Does (Finds k folder None) a b)
    → ((o : Opening) → b.now.opened k ≡ Some o → OnOk r (Does (Syncs o.way o) b c)) → ((o : Opening) → b.now.opened k ≡ Some o → OnErr r (FailsToSync o.way o b c)) → Leaves P b c
leaves-folder-synced P k folder a b c (Ok x) found ok err = leaves-settles P folder b c (ok _ found.does.takes.opened)
leaves-folder-synced P k folder a b c (Err x) found ok err = leaves-same P b c (err _ found.does.takes.opened)

pub leaves-folder : {T E : Type 0} (P : ℕ → ℕ → Type 0) (k folder : ℕ) (a b c d : Moments) (r : Result T E) → Does (Finds k folder None) a b
    → ((o : Opening) → b.now.opened k ≡ Some o → OnOk r (Does (Syncs o.way o) b c)) → ((o : Opening) → b.now.opened k ≡ Some o → OnErr r (FailsToSync o.way o b c)) → MayDo (Closes k) c d → Leaves P a d
leaves-folder P k folder a b c d r found ok err closed =
    leaves-shut P k a c d found.does.takes.free (leaves-then P a b c (leaves-found P k folder None a b found) (leaves-folder-synced P k folder a b c r found ok err)) (leaves-closed k c d closed)

-- ---- reads, and what is put

is-append : Option Way → Type 0
is-append (Some Append) = Unit {0}
is-append _ = ⊥

append-read : Some Append ≡ Some Read → ⊥
unfolding is-append
append-read same = subst is-append same tt

reads-put : (k : ℕ) (o : Opening) (n : ℕ) (w v : World) → w.opened k ≡ Some o → Reads k o n w v → (d : ℕ) → (put_at d v ≡ put_at d w) × (use_at d v ≡ use_at d w)
reads-put k o n w v is r d = ⊎_elim
    (λ (h : d ≡ k). subst (λ (x : ℕ). (put_at x v ≡ put_at x w) × (use_at x v ≡ use_at x w)) (sym h) (ap put_in r.opened ∙ sym (ap put_in is), ap (option_map use_of) r.opened ∙ sym (ap (option_map use_of) is)))
    (λ (h : d ≡ k → ⊥). (ap put_in (r.others d h), ap (option_map use_of) (r.others d h)))
    (cases_eq d k)

-- the reader's descriptor isn't that of an unfinished file, which is appended to
reader-apart : (part : Entry) (d file k : ℕ) (bytes : List ℕ) (o : Opening) (w : World) → IsUnfinished part d file bytes w → w.opened k ≡ Some o → o.way ≡ Some Read → d ≢ k
reader-apart part d file k bytes o w u is way same =
    append-read (sym (ap (λ (v : Use). v.way) (use-of (w.opened k) o (use_of (being_written file bytes)) is (ap (option_map use_of) (ap w.opened (sym same) ∙ u.opened)))) ∙ way)

leaves-reads : (P : ℕ → ℕ → Type 0) (k : ℕ) (o : Opening) (n : ℕ) (old new : Moments) → old.now.opened k ≡ Some o → o.way ≡ Some Read → Does (Reads k o n) old new → Leaves P old new
leaves-reads P k o n old new is way does = record {
  puts = record { is = λ d. (reads-put k o n old.now new.now is does.does d).0; uses = λ d u used. (reads-put k o n old.now new.now is does.does d).1 ∙ used };
  saving = λ part d file bytes safe u. unfinished-over part d file bytes old.now new.now (does.does.others d (reader-apart part d file k bytes o old.now u is way)) (does.does.files file) (same-named old.now new.now file does.does.names) u;
}

pub leaves-read : {E : Type 0} (P : ℕ → ℕ → Type 0) (u : Used) (old new : Moments) (r : Result ℕ E) → u.way ≡ Read → HasUse u old.now
    → ((o : Opening) → old.now.opened u.descriptor ≡ Some o → IfOk r (λ n. Does (Reads u.descriptor o n) old new)) → OnErr r (new ≡ old) → Leaves P old new
leaves-read P u old new (Ok n) way used ok err =
    let found = opening-of (old.now.opened u.descriptor) (use_in u) used in
    leaves-reads P u.descriptor found.0 n old new found.1 (ap (λ (v : Use). v.way) (at-use u.descriptor u old.now found.0 found.1 used) ∙ ap (λ (x : Way). Some x) way) (ok found.0 found.1)
leaves-read P u old new (Err x) way used ok err = leaves-same P old new err

-- bytes were written at a place
pub leaves-wrote : (u : Used) (f : Opening → FileState) (old new : Moments) → u.way ≡ Place → HasUse u old.now → ((o : Opening) → old.now.opened u.descriptor ≡ Some o → o.way ≡ Some Place → Changes o.file (f o) old.now new.now) → Leaves (not_of u.found.file) old new
leaves-wrote u f old new way used ok =
    let found = opening-of (old.now.opened u.descriptor) (use_in u) used in
    let same = at-use u.descriptor u old.now found.0 found.1 used in
    leaves-moved-file found.0.file u.found.file old new (ap (λ (v : Use). v.file) same)
    (leaves-changes found.0.file (f found.0) old new (ok found.0 found.1 (ap (λ (v : Use). v.way) same ∙ ap (λ (x : Way). Some x) way)))

pub leaves-unwritten : (u : Used) (old new : Moments) → u.way ≡ Place → HasUse u old.now → ((o : Opening) → old.now.opened u.descriptor ≡ Some o → o.way ≡ Some Place → MayDo (Spoils o.file) old new) → Leaves (not_of u.found.file) old new
leaves-unwritten u old new way used err =
    let found = opening-of (old.now.opened u.descriptor) (use_in u) used in
    let same = at-use u.descriptor u old.now found.0 found.1 used in
    leaves-moved-file found.0.file u.found.file old new (ap (λ (v : Use). v.file) same)
    (leaves-spoiled found.0.file old new (err found.0 found.1 (ap (λ (v : Use). v.way) same ∙ ap (λ (x : Way). Some x) way)))

pub put-puts : {E : Type 0} (u : Used) (buf : List ℕ) (old new : Moments) (r : Result ℕ E) → is_in_order (Some u.way) ≡ true → HasUse u old.now
    → ((o : Opening) → old.now.opened u.descriptor ≡ Some o → is_in_order o.way ≡ true → IfOk r (λ n. Does (Appends u.descriptor o (take n buf)) old new)) → IfOk r (λ n. Puts u.descriptor u.found.file (take n buf) old new)
put-puts u buf old new (Ok n) order used ok =
    let found = opening-of (old.now.opened u.descriptor) (use_in u) used in
    let same = at-use u.descriptor u old.now found.0 found.1 used in
    let does = ok found.0 found.1 (ap (λ (v : Use). is_in_order v.way) same ∙ order) in
    record {
      put = ap put_in does.does.opened ∙ ap (λ (bs : List ℕ). bs ++ take n buf) (sym (ap put_in found.1));
      others = puts-else u.descriptor found.0 (take n buf) old new found.1 does;
      saving = λ part k file kept apart other unfinished. unfinished-over part k file kept old.now new.now (does.does.others k apart)
          (does.does.files file (λ h. other (h ∙ ap (λ (v : Use). v.file) same))) (same-named old.now new.now file does.does.names) unfinished;
    }
put-puts u buf old new (Err x) order used ok = ok (opening-of (old.now.opened u.descriptor) (use_in u) used).0 (opening-of (old.now.opened u.descriptor) (use_in u) used).1
    (ap (λ (v : Use). is_in_order v.way) (at-use u.descriptor u old.now (opening-of (old.now.opened u.descriptor) (use_in u) used).0 (opening-of (old.now.opened u.descriptor) (use_in u) used).1 used) ∙ order)

pub put-fails : {E : Type 0} (u : Used) (old new : Moments) (r : Result ℕ E) → is_in_order (Some u.way) ≡ true → HasUse u old.now
    → ((o : Opening) → old.now.opened u.descriptor ≡ Some o → is_in_order o.way ≡ true → OnErr r (MayDo (Spoils o.file) old new)) → OnErr r (Leaves (not_of u.found.file) old new)
put-fails u old new (Ok n) order used err = err (opening-of (old.now.opened u.descriptor) (use_in u) used).0 (opening-of (old.now.opened u.descriptor) (use_in u) used).1
    (ap (λ (v : Use). is_in_order v.way) (at-use u.descriptor u old.now (opening-of (old.now.opened u.descriptor) (use_in u) used).0 (opening-of (old.now.opened u.descriptor) (use_in u) used).1 used) ∙ order)
put-fails u old new (Err x) order used err =
    let found = opening-of (old.now.opened u.descriptor) (use_in u) used in
    let same = at-use u.descriptor u old.now found.0 found.1 used in
    leaves-moved-file found.0.file u.found.file old new (ap (λ (v : Use). v.file) same) (leaves-spoiled found.0.file old new (err found.0 found.1 (ap (λ (v : Use). is_in_order v.way) same ∙ order)))

-- ---- as the functions answer

pub kept-ok : {E : Type 0} (used : Used) (a b c : Moments) (r : Result Used E) → IsOpened used a b → IfOk r (λ u. u ≡ used) → OnOk r (c ≡ b) → IfOk r (λ u. IsOpened u a c)
kept-ok used a b c (Ok u) opened same still = subst (λ (x : Used). IsOpened x a c) (sym same) (subst (λ (m : Moments). IsOpened used a m) (sym still) opened)
kept-ok used a b c (Err x) opened same still = same

pub kept-way : {E : Type 0} (used : Used) (way : Way) (r : Result Used E) → used.way ≡ way → IfOk r (λ u. u ≡ used) → IfOk r (λ u. u.way ≡ way)
kept-way used way (Ok u) is same = ap (λ (x : Used). x.way) same ∙ is
kept-way used way (Err x) is same = same

earlier-free : (x y : Option Opening) → ((u : Use) → option_map use_of x ≡ Some u → option_map use_of y ≡ Some u) → y ≡ None → x ≡ None
earlier-free None y keeps free = refl
earlier-free (Some o) y keeps free = absurd (none-some (use_of o) (sym (ap (option_map use_of) free) ∙ keeps (use_of o) refl))

opened-earlier : (u : Used) (a b c : Moments) → KeepsPut a b → IsOpened u b c → IsOpened u a c
opened-earlier u a b c keeps o = record { free = earlier-free (a.now.opened u.descriptor) (b.now.opened u.descriptor) (keeps.uses u.descriptor) o.free; used = o.used; empty = o.empty }

pub opened-earlier-ok : {E : Type 0} (a b c : Moments) (r : Result Used E) → KeepsPut a b → IfOk r (λ u. IsOpened u b c) → IfOk r (λ u. IsOpened u a c)
opened-earlier-ok a b c (Ok u) keeps opened = opened-earlier u a b c keeps opened
opened-earlier-ok a b c (Err x) keeps opened = opened

-- it is done only where both are
pub both-ok : {T E F : Type 0} (P : Used → Type 0) (used : Used) (r : Result Used E) (d : Result T F) → IfOk r (λ u. u ≡ used) → OnOk r (IsOk d) → OnOk d (P used) → IfOk r P
both-ok P used (Ok u) (Ok x) same both holds = subst P (sym same) holds
both-ok P used (Ok u) (Err x) same both holds = absurd (false≢true both)
both-ok P used (Err x) d same both holds = same

but-all : (d : ℕ) (old new : Moments) → KeepsPut old new → KeepsPutBut d old new
but-all d old new keeps = record { is = λ k not. keeps.is k; uses = keeps.uses }

but-then : (d : ℕ) (a b c : Moments) → KeepsPutBut d a b → KeepsPutBut d b c → KeepsPutBut d a c
but-then d a b c first second = record { is = λ k not. second.is k not ∙ first.is k not; uses = λ k u used. second.uses k u (first.uses k u used) }

pub writes-leaves : (d i : ℕ) (old new : Moments) → Leaves (not_of i) old new → Writes d i old new
writes-leaves d i old new leaves = record { others = but-all d old new leaves.puts; saving = λ part k file kept apart other u. leaves.saving part k file kept other u }

pub writes-then : (d i : ℕ) (a b c : Moments) → Writes d i a b → Writes d i b c → Writes d i a c
writes-then d i a b c first second = record {
  others = but-then d a b c first.others second.others;
  saving = λ part k file kept apart other u. second.saving part k file kept apart other (first.saving part k file kept apart other u);
}

pub writes-put : {E : Type 0} (d i : ℕ) (buf : List ℕ) (old new : Moments) (r : Result ℕ E) → IfOk r (λ n. Puts d i (take n buf) old new) → OnErr r (Leaves (not_of i) old new) → Writes d i old new
writes-put d i buf old new (Ok n) ok err = record { others = ok.others; saving = ok.saving }
writes-put d i buf old new (Err x) ok err = writes-leaves d i old new err
