-- A name that is left alone by calls on other files, moment by moment.
use Rattle.std.proofs.Common.{◌≡◌, ◌≢◌, inl, inr, ⊎_elim, ℕ, List, [], ◌∷◌, ◌++◌, Bool, false, Option, None, Some, Result, Ok, Err, OnOk, OnErr, IfOk, refl, sym, ap, ◌∙◌, subst, length, take, drop, is_err, ◌+◌, append_assoc}
use Rattle.std.proofs.Math.Seq.{take-add}
use Rattle.std.proofs.lemmas.List.{append-nil}
use Rattle.std.proofs.lemmas.Bool.{false≢true}
use Rattle.std.specs.Option.{option_map}
use Rattle.file_system.specs.World.{Entry, FileState, Opening, Run, World, Moments, Throughout, Here, Then, MayLeave, IsOneOf, all, content_at, part_ending}
use Rattle.file_system.specs.Calls.{Does, MayDo, SameNames, SameFilesBut, Finds, Makes, MakesOpen, MakesShut, Closes, Appends, Spoils, Changes, ChangesBy, CanRename, Settles, Renames, Removes, appended, opening, synced, unsynced}
use Rattle.file_system.specs.declared.system.Kind.TheVariants.{Regular}
use Rattle.file_system.specs.declared.system.Way.{Way}
use Rattle.file_system.specs.declared.system.Way.TheVariants.{Append}
use Rattle.file_saving.specs.Saving.{IsApart, IsStill, IsMoved, IsMovedForGood, IsStillOrMoved, IsUnfinished, IsFinished, IsOldOrNew, IsOpenFolder, IsSaved, IsSteady, IsUntouched, HoldsOldOrNew, KeepsName, LeavesName, being_written}

-- ---- what a name leads to

or-zero : Option ℕ → ℕ
or-zero None = 0
or-zero (Some n) = n

some-same : (n m : ℕ) → Some n ≡ Some m → n ≡ m
unfolding or-zero
some-same n m same = ap or-zero same

is-some : Option ℕ → Type 0
is-some None = ⊥
is-some (Some n) = Unit {0}

none-some : (n : ℕ) → None ≡ Some n → ⊥
unfolding is-some
none-some n same = subst is-some (sym same) tt

-- ---- moments

pub throughout-then : {P : World → Type 0} {a b c : List World} → Throughout P a b → Throughout P b c → Throughout P a c
throughout-then first Here = first
throughout-then first (Then rest holds) = Then (throughout-then first rest) holds

pub throughout-gives : {P Q : World → Type 0} {a b : List World} → ((w : World) → P w → Q w) → Throughout P a b → Throughout Q a b
throughout-gives gives Here = Here
throughout-gives gives (Then rest holds) = Then (throughout-gives gives rest) (gives _ holds)

-- what holds at the last moment, where it did at the first
head-or : World → List World → World
head-or w [] = w
head-or w (v ∷ vs) = v

last-of : (P : World → Type 0) (w : World) {a b : List World} → P (head-or w a) → Throughout P a b → P (head-or w b)
unfolding head-or
last-of P w first Here = first
last-of P w first (Then rest holds) = holds

pub throughout-last : (P : World → Type 0) (old new : Moments) → P old.now → Throughout P (all old) (all new) → P new.now
unfolding head-or
throughout-last P old new first goes = last-of P old.now first goes

pub throughout-same : (P : World → Type 0) (old new : Moments) → new ≡ old → Throughout P (all old) (all new)
throughout-same P old new same = subst (λ (m : Moments). Throughout P (all old) (all m)) (sym same) Here

pub throughout-does : (P : World → Type 0) (D : World → World → Type 0) (old new : Moments) → Does D old new → P new.now → Throughout P (all old) (all new)
throughout-does P D old new does holds = Then (subst (λ (ws : List World). Throughout P (all old) ws) (sym does.past) Here) holds

pub throughout-may : (P : World → Type 0) (D : World → World → Type 0) (old new : Moments) → MayDo D old new → (D old.now new.now → P new.now) → Throughout P (all old) (all new)
throughout-may P D old new (inl same) gives = throughout-same P old new same
throughout-may P D old new (inr does) gives = throughout-does P D old new does (gives does.does)

-- ---- a name that is left alone

pub still-refl : (e : Entry) (w : World) → IsStill e w w
still-refl e w = record { name = refl; earlier = refl; file = λ i is. refl }

pub still-then : (e : Entry) (a b c : World) → IsStill e a b → IsStill e b c → IsStill e a c
still-then e a b c p q = record { name = q.name ∙ p.name; earlier = q.earlier ∙ p.earlier; file = λ i is. q.file i (p.name ∙ is) ∙ p.file i is }

pub keeps-same : (e : Entry) (old new : Moments) → new ≡ old → KeepsName e old new
keeps-same e old new same = throughout-same (IsStill e old.now) old new same

pub keeps-last : (e : Entry) (old new : Moments) → KeepsName e old new → IsStill e old.now new.now
keeps-last e old new keeps = throughout-last (IsStill e old.now) old new (still-refl e old.now) keeps

pub keeps-then : (e : Entry) (a b c : Moments) → KeepsName e a b → KeepsName e b c → KeepsName e a c
keeps-then e a b c first second = throughout-then first (throughout-gives (λ w. still-then e a.now b.now w (keeps-last e a b first)) second)

-- ---- calls that leave it alone

apart : (i k : ℕ) (w : World) (e : Entry) → w.names e ≡ Some k → w.names e ≢ Some i → k ≢ i
apart i k w e leads not same = not (leads ∙ ap (λ (x : ℕ). Some x) same)

still-but : (e : Entry) (i : ℕ) (w v : World) → SameNames w v → SameFilesBut i w v → w.names e ≢ Some i → IsStill e w v
still-but e i w v names files not = record { name = names.names e; earlier = names.earlier e; file = λ k is. files k (apart i k w e is not) }

pub still-removes : (here e : Entry) (w v : World) → e ≢ here → Removes here w v → IsStill e w v
still-removes here e w v other r = record { name = r.names.names e other; earlier = r.names.earlier e other; file = λ i is. r.files i }

pub still-makes : (here e : Entry) (i : ℕ) (w v : World) → e ≢ here → Makes here i w v → IsStill e w v
still-makes here e i w v other m = record { name = m.names.names e other; earlier = m.names.earlier e other; file = λ k is. m.files k (apart i k w e is (m.fresh.unnamed e)) }

pub still-closes : (e : Entry) (d : ℕ) (w v : World) → Closes d w v → IsStill e w v
still-closes e d w v c = record { name = c.names.names e; earlier = c.names.earlier e; file = λ i is. c.files i }

pub still-appends : (e : Entry) (d : ℕ) (o : Opening) (bytes : List ℕ) (w v : World) → w.names e ≢ Some o.file → Appends d o bytes w v → IsStill e w v
still-appends e d o bytes w v not a = still-but e o.file w v a.names a.files not

pub still-changes : (e : Entry) (i : ℕ) (f : FileState) (w v : World) → w.names e ≢ Some i → Changes i f w v → IsStill e w v
still-changes e i f w v not c = still-but e i w v c.names c.files not

pub still-spoils : (e : Entry) (i : ℕ) (w v : World) → w.names e ≢ Some i → Spoils i w v → IsStill e w v
still-spoils e i w v not s = still-but e i w v s.names s.files not

-- ---- the same, of whole calls

pub keeps-removed : {T E : Type 0} (here e : Entry) (old new : Moments) (r : Result T E) → e ≢ here → OnOk r (Does (Removes here) old new) → OnErr r (MayDo (Removes here) old new) → KeepsName e old new
keeps-removed here e old new (Ok x) other ok err = throughout-does _ _ old new ok (still-removes here e _ _ other ok.does)
keeps-removed here e old new (Err x) other ok err = throughout-may _ _ old new err (still-removes here e _ _ other)

pub keeps-unmade : (here e : Entry) (old new : Moments) → e ≢ here → MayDo (MakesShut here) old new → KeepsName e old new
keeps-unmade here e old new other may = throughout-may _ _ old new may (λ m. still-makes here e m.file _ _ other m.makes)

pub keeps-made : (here e : Entry) (d i : ℕ) (way : Option Way) (old new : Moments) → e ≢ here → Does (MakesOpen here d i way) old new → KeepsName e old new
keeps-made here e d i way old new other does = throughout-does _ _ old new does (still-makes here e i _ _ other does.does.makes)

pub keeps-closed : (e : Entry) (d : ℕ) (old new : Moments) → MayDo (Closes d) old new → KeepsName e old new
keeps-closed e d old new may = throughout-may _ _ old new may (still-closes e d _ _)

-- ---- an unfinished file

pub keeps-appended : {E : Type 0} (part e : Entry) (d file : ℕ) (bytes buf : List ℕ) (old new : Moments) (r : Result ℕ E) → e ≢ part → (u : IsUnfinished part d file bytes old.now)
    → IfOk r (λ n. Does (Appends d (being_written file bytes) (take n buf)) old new) → OnErr r (MayDo (Spoils file) old new) → KeepsName e old new
keeps-appended part e d file bytes buf old new (Ok n) other u ok err = throughout-does _ _ old new ok (still-appends e d (being_written file bytes) (take n buf) _ _ (u.only e other) ok.does)
keeps-appended part e d file bytes buf old new (Err x) other u ok err = throughout-may _ _ old new err (still-spoils e file _ _ (u.only e other))

appended-to : (bytes : List ℕ) (f : FileState) → f.kind ≡ Regular → appended bytes f ≡ record f { bytes = f.bytes ++ bytes; unsure = Run (length f.bytes) (length bytes) ∷ f.unsure }
appended-to bytes f is = rw is

unfinished-appended : (part : Entry) (d file : ℕ) (bytes more : List ℕ) (w v : World) → IsUnfinished part d file bytes w → Appends d (being_written file bytes) more w v → IsUnfinished part d file (bytes ++ more) v
unfinished-appended part d file bytes more w v u a =
    let is : v.files file ≡ record (w.files file) { bytes = (w.files file).bytes ++ more; unsure = Run (length (w.files file).bytes) (length more) ∷ (w.files file).unsure } = a.file refl ∙ appended-to more (w.files file) u.regular in
    record {
      opened = a.opened;
      regular = ap (λ (f : FileState). f.kind) is ∙ u.regular;
      holds = ap (λ (f : FileState). f.bytes) is ∙ ap (λ (bs : List ℕ). bs ++ more) u.holds;
      unspoiled = ap (λ (f : FileState). f.spoiled) is ∙ u.unspoiled;
      only = λ e other leads. u.only e other (sym (a.names.names e) ∙ leads);
    }

pub unfinished-put : {E : Type 0} (part : Entry) (d file : ℕ) (bytes buf : List ℕ) (old new : Moments) (r : Result ℕ E) → IsUnfinished part d file bytes old.now
    → IfOk r (λ n. Does (Appends d (being_written file bytes) (take n buf)) old new) → IfOk r (λ n. IsUnfinished part d file (bytes ++ take n buf) new.now)
unfinished-put part d file bytes buf old new (Ok n) u ok = unfinished-appended part d file bytes (take n buf) _ _ u ok.does
unfinished-put part d file bytes buf old new (Err x) u ok = ok

pub keeps-unsynced : (part e : Entry) (d file : ℕ) (bytes : List ℕ) (old new : Moments) → e ≢ part → IsUnfinished part d file bytes old.now → MayDo (ChangesBy unsynced (being_written file bytes)) old new → KeepsName e old new
keeps-unsynced part e d file bytes old new other u may = throughout-may _ _ old new may (still-changes e file _ _ _ (u.only e other))

pub keeps-changed : (part e : Entry) (d file : ℕ) (bytes : List ℕ) (change : FileState → FileState) (old new : Moments) → e ≢ part → IsUnfinished part d file bytes old.now → Does (ChangesBy change (being_written file bytes)) old new → KeepsName e old new
keeps-changed part e d file bytes change old new other u does = throughout-does _ _ old new does (still-changes e file _ _ _ (u.only e other) does.does)

-- it was just made
pub unfinished-made : (part : Entry) (d file : ℕ) (old new : Moments) → Does (MakesOpen part d file (Some Append)) old new → IsUnfinished part d file [] new.now
unfinished-made part d file old new does =
    let m = does.does in
    record {
      opened = m.takes.opened ∙ ap (λ (coming : List ℕ). Some (opening file (Some Append) coming)) (m.takes.unread refl);
      regular = ap (λ (f : FileState). f.kind) m.makes.file;
      holds = ap (λ (f : FileState). f.bytes) m.makes.file;
      unspoiled = ap (λ (f : FileState). f.spoiled) m.makes.file;
      only = λ e other leads. m.makes.fresh.unnamed e (sym (m.makes.names.names e other) ∙ leads);
    }

-- ---- a finished one

synced-sure : (f : FileState) → f.spoiled ≡ false → (synced f).unsure ≡ []
synced-sure f is = rw is

finished-by : (part : Entry) (d file : ℕ) (bytes : List ℕ) (a b c : World) → IsUnfinished part d file bytes a → Changes file (synced (a.files file)) a b → b.names part ≡ Some file → ((e : Entry) → IsUntouched e b c) → IsFinished part file bytes c
finished-by part d file bytes a b c u s named closed =
    let is : c.files file ≡ synced (a.files file) = (closed part).files file ∙ s.file in
    record {
      named = (closed part).name ∙ named;
      regular = ap (λ (f : FileState). f.kind) is ∙ u.regular;
      holds = ap (λ (f : FileState). f.bytes) is ∙ u.holds;
      sure = ap (λ (f : FileState). f.unsure) is ∙ synced-sure (a.files file) u.unspoiled;
      only = λ e other leads. u.only e other (sym (s.names.names e) ∙ (sym (closed e).name ∙ leads));
    }

-- ---- its name

pub moved-renamed : (part e : Entry) (file : ℕ) (bytes : List ℕ) (w v : World) → IsFinished part file bytes w → Renames part e w v → IsMoved e file bytes w v
moved-renamed part e file bytes w v f r = record {
  whole = ap (λ (s : FileState). s.bytes) (r.files file) ∙ f.holds;
  sure = ap (λ (s : FileState). s.unsure) (r.files file) ∙ f.sure;
  name = r.moved ∙ f.named;
  earlier = inl r.earlier;
  old = λ i is. r.files i;
}

pub moved-settled : (e : Entry) (file : ℕ) (bytes : List ℕ) (w v u : World) → IsMoved e file bytes w v → Settles e.folder v u → IsMoved e file bytes w u
moved-settled e file bytes w v u m s = record {
  whole = ap (λ (f : FileState). f.bytes) (s.files file) ∙ m.whole;
  sure = ap (λ (f : FileState). f.unsure) (s.files file) ∙ m.sure;
  name = s.names e ∙ m.name;
  earlier = inr (s.earlier e refl);
  old = λ i is. s.files i ∙ m.old i is;
}

-- other calls before and behind
finished-found : (part : Entry) (file d folder : ℕ) (bytes : List ℕ) (w v : World) → IsFinished part file bytes w → Finds d folder None w v → IsFinished part file bytes v
finished-found part file d folder bytes w v f found = record {
  named = found.names.names part ∙ f.named;
  regular = ap (λ (s : FileState). s.kind) (found.files file) ∙ f.regular;
  holds = ap (λ (s : FileState). s.bytes) (found.files file) ∙ f.holds;
  sure = ap (λ (s : FileState). s.unsure) (found.files file) ∙ f.sure;
  only = λ e other leads. f.only e other (sym (found.names.names e) ∙ leads);
}

folder-found : (d folder : ℕ) (w v : World) → Finds d folder None w v → IsOpenFolder d folder v
folder-found d folder w v found = record { coming = found.takes.coming; opened = found.takes.opened }

pub still-found : (e : Entry) (d folder : ℕ) (w v : World) → Finds d folder None w v → IsStill e w v
still-found e d folder w v found = record { name = found.names.names e; earlier = found.names.earlier e; file = λ i is. found.files i }

pub can-rename : (part e : Entry) (file : ℕ) (bytes : List ℕ) (w : World) → e ≢ part → IsFinished part file bytes w → CanRename part e w
can-rename part e file bytes w apart f = record { file = file; named = f.named; regular = f.regular; other = f.only e apart }

pub moves-refused : (part e : Entry) (file : ℕ) (bytes : List ℕ) (old new : Moments) → IsFinished part file bytes old.now → MayDo (Renames part e) old new → Throughout (IsStillOrMoved e file bytes old.now) (all old) (all new)
moves-refused part e file bytes old new f may = throughout-may _ _ old new may (λ r. inr (moved-renamed part e file bytes _ _ f r))

pub folder-renamed : (part e : Entry) (d folder : ℕ) (w v : World) → Renames part e w v → (o : IsOpenFolder d folder w) → v.opened d ≡ Some (opening folder None o.coming)
folder-renamed part e d folder w v r o = r.opened d ∙ o.opened

pub moves-named : {T E : Type 0} (part e : Entry) (file : ℕ) (bytes : List ℕ) (a b c : Moments) (r : Result T E) → IsFinished part file bytes a.now → Does (Renames part e) a b → OnOk r (Does (Settles e.folder) b c) → OnErr r (c ≡ b)
    → Throughout (IsStillOrMoved e file bytes a.now) (all a) (all c)
moves-named part e file bytes a b c (Ok x) f renamed ok err =
    let moved = moved-renamed part e file bytes _ _ f renamed.does in
    throughout-then (throughout-does _ _ a b renamed (inr moved)) (throughout-does _ _ b c ok (inr (moved-settled e file bytes _ _ _ moved ok.does)))
moves-named part e file bytes a b c (Err x) f renamed ok err =
    throughout-then (throughout-does _ _ a b renamed (inr (moved-renamed part e file bytes _ _ f renamed.does))) (throughout-same _ b c err)

pub moved-named : {T E : Type 0} (part e : Entry) (file : ℕ) (bytes : List ℕ) (a b c : Moments) (r : Result T E) → IsFinished part file bytes a.now → Does (Renames part e) a b → OnOk r (Does (Settles e.folder) b c)
    → OnOk r (IsMovedForGood e file bytes a.now c.now)
moved-named part e file bytes a b c (Ok x) f renamed ok = record { moved = moved-settled e file bytes _ _ _ (moved-renamed part e file bytes _ _ f renamed.does) ok.does; sure = ok.does.earlier e refl }
moved-named part e file bytes a b c (Err x) f renamed ok = ok

-- ---- giving up

untouched-refl : (e : Entry) (w : World) → IsUntouched e w w
untouched-refl e w = record { name = refl; earlier = refl; files = λ i. refl }

untouched-then : (e : Entry) (a b c : World) → IsUntouched e a b → IsUntouched e b c → IsUntouched e a c
untouched-then e a b c p q = record { name = q.name ∙ p.name; earlier = q.earlier ∙ p.earlier; files = λ i. q.files i ∙ p.files i }

pub leaves-same : (e : Entry) (old new : Moments) → new ≡ old → LeavesName e old new
leaves-same e old new same = throughout-same (IsUntouched e old.now) old new same

pub leaves-then : (e : Entry) (a b c : Moments) → LeavesName e a b → LeavesName e b c → LeavesName e a c
leaves-then e a b c first second =
    let last = throughout-last (IsUntouched e a.now) a b (untouched-refl e a.now) first in
    throughout-then first (throughout-gives (λ w. untouched-then e a.now b.now w last) second)

untouched-closes : (e : Entry) (d : ℕ) (w v : World) → Closes d w v → IsUntouched e w v
untouched-closes e d w v c = record { name = c.names.names e; earlier = c.names.earlier e; files = c.files }

closed-untouched : (e : Entry) (d : ℕ) (old new : Moments) → MayDo (Closes d) old new → IsUntouched e old.now new.now
closed-untouched e d old new (inl same) = subst (λ (m : Moments). IsUntouched e old.now m.now) (sym same) (untouched-refl e old.now)
closed-untouched e d old new (inr does) = untouched-closes e d _ _ does.does

pub leaves-closed : (e : Entry) (d : ℕ) (old new : Moments) → MayDo (Closes d) old new → LeavesName e old new
leaves-closed e d old new may = throughout-may _ _ old new may (untouched-closes e d _ _)

-- what was synced and found under its own name, and closed or not
pub finished-through : (part here : Entry) (d file found : ℕ) (bytes : List ℕ) (a b l c : Moments) → IsUnfinished part d file bytes a.now → Does (ChangesBy synced (being_written file bytes)) a b → l ≡ b
    → b.now.names here ≡ Some found → here ≡ part → found ≡ file → MayDo (Closes d) l c → IsFinished part file bytes c.now
finished-through part here d file found bytes a b l c u synced same named at is closed =
    finished-by part d file bytes _ _ _ u synced.does (ap b.now.names (sym at) ∙ (named ∙ ap (λ (x : ℕ). Some x) is)) (λ e. subst (λ (m : Moments). IsUntouched e m.now c.now) same (closed-untouched e d l c closed))

untouched-removes : (here e : Entry) (w v : World) → e ≢ here → Removes here w v → IsUntouched e w v
untouched-removes here e w v other r = record { name = r.names.names e other; earlier = r.names.earlier e other; files = r.files }

pub leaves-removed : {T E : Type 0} (here e : Entry) (old new : Moments) (r : Result T E) → e ≢ here → OnOk r (Does (Removes here) old new) → OnErr r (MayDo (Removes here) old new) → LeavesName e old new
leaves-removed here e old new (Ok x) other ok err = throughout-does _ _ old new ok (untouched-removes here e _ _ other ok.does)
leaves-removed here e old new (Err x) other ok err = throughout-may _ _ old new err (untouched-removes here e _ _ other)

-- a removal of what was found, behind a look
pub leaves-found : {T E : Type 0} (part here e : Entry) (file found : ℕ) (a b c : Moments) (r : Result T E) → IsApart e part file a.now → here ≡ part → a.now.names here ≡ Some found → found ≡ file → b ≡ a
    → OnOk r (Does (Removes part) b c) → OnErr r (MayDo (Removes part) b c) → LeavesName e a c
leaves-found part here e file found a b c r apart at named is same ok err =
    let other = apart (ap a.now.names (sym at) ∙ (named ∙ ap (λ (x : ℕ). Some x) is)) in
    leaves-then e a b c (leaves-same e a b same) (leaves-removed part e b c r other ok err)

-- and behind a closing
pub apart-closed : (e part : Entry) (file d : ℕ) (old new : Moments) → MayDo (Closes d) old new → IsApart e part file old.now → IsApart e part file new.now
apart-closed e part file d old new may apart leads = apart (sym (closed-untouched part d old new may).name ∙ leads)

pub apart-same : (e part : Entry) (file : ℕ) (old new : Moments) → new ≡ old → IsApart e part file old.now → IsApart e part file new.now
apart-same e part file old new same apart = subst (λ (m : Moments). IsApart e part file m.now) (sym same) apart

-- a name that leads elsewhere
pub apart-found : (e part : Entry) (file found : ℕ) (old new : Moments) → new ≡ old → old.now.names e ≡ Some found → (found ≡ file → ⊥) → IsApart e part file new.now
apart-found e part file found old new same named not leads at =
    not (some-same found file (sym named ∙ (ap old.now.names at ∙ (sym (ap (λ (m : Moments). m.now.names part) same) ∙ leads))))

pub apart-missing : (e part : Entry) (file : ℕ) (old new : Moments) → new ≡ old → old.now.names e ≡ None → IsApart e part file new.now
apart-missing e part file old new same none leads at =
    none-some file (sym none ∙ (ap old.now.names at ∙ (sym (ap (λ (m : Moments). m.now.names part) same) ∙ leads)))

still-untouched : (e : Entry) (a b c : World) → IsStill e a b → IsUntouched e b c → IsStill e a c
still-untouched e a b c p q = record { name = q.name ∙ p.name; earlier = q.earlier ∙ p.earlier; file = λ i is. q.files i ∙ p.file i is }

moved-untouched : (e : Entry) (file : ℕ) (bytes : List ℕ) (a b c : World) → IsMoved e file bytes a b → IsUntouched e b c → IsMoved e file bytes a c
moved-untouched e file bytes a b c m q = record {
  whole = ap (λ (f : FileState). f.bytes) (q.files file) ∙ m.whole;
  sure = ap (λ (f : FileState). f.unsure) (q.files file) ∙ m.sure;
  name = q.name ∙ m.name;
  earlier = ⊎_elim (λ h. inl (q.earlier ∙ h)) (λ h. inr (q.earlier ∙ h)) m.earlier;
  old = λ i is. q.files i ∙ m.old i is;
}

either-untouched : (e : Entry) (file : ℕ) (bytes : List ℕ) (a b c : World) → IsStillOrMoved e file bytes a b → IsUntouched e b c → IsStillOrMoved e file bytes a c
either-untouched e file bytes a b c (inl p) q = inl (still-untouched e a b c p q)
either-untouched e file bytes a b c (inr m) q = inr (moved-untouched e file bytes a b c m q)

moved-before : (e : Entry) (file : ℕ) (bytes : List ℕ) (a b c : World) → IsStill e a b → IsMoved e file bytes b c → IsMoved e file bytes a c
moved-before e file bytes a b c p m = record {
  whole = m.whole;
  sure = m.sure;
  name = m.name;
  earlier = ⊎_elim (λ h. inl (h ∙ (ap (λ (o : Option ℕ). o ∷ b.earlier e) p.name ∙ ap (λ (os : List (Option ℕ)). a.names e ∷ os) p.earlier))) (λ h. inr h) m.earlier;
  old = λ i is. m.old i (p.name ∙ is) ∙ p.file i is;
}

either-before : (e : Entry) (file : ℕ) (bytes : List ℕ) (a b c : World) → IsStill e a b → IsStillOrMoved e file bytes b c → IsStillOrMoved e file bytes a c
either-before e file bytes a b c p (inl q) = inl (still-then e a b c p q)
either-before e file bytes a b c p (inr m) = inr (moved-before e file bytes a b c p m)

-- a name that was left alone, and then what may move it
pub keeps-moves : (e : Entry) (file : ℕ) (bytes : List ℕ) (a b c : Moments) → KeepsName e a b → Throughout (IsStillOrMoved e file bytes b.now) (all b) (all c) → Throughout (IsStillOrMoved e file bytes a.now) (all a) (all c)
keeps-moves e file bytes a b c keeps moves =
    throughout-then (throughout-gives (λ w q. inl q) keeps) (throughout-gives (λ w. either-before e file bytes a.now b.now w (keeps-last e a b keeps)) moves)

pub keeps-moved : (e : Entry) (file : ℕ) (bytes : List ℕ) (a b : Moments) (w : World) → KeepsName e a b → IsMoved e file bytes b.now w → IsMoved e file bytes a.now w
keeps-moved e file bytes a b w keeps m = moved-before e file bytes a.now b.now w (keeps-last e a b keeps) m

-- and then a giving up
pub moves-left : (e : Entry) (file : ℕ) (bytes : List ℕ) (a b c : Moments) → Throughout (IsStillOrMoved e file bytes a.now) (all a) (all b) → Throughout (IsUntouched e b.now) (all b) (all c) → Throughout (IsStillOrMoved e file bytes a.now) (all a) (all c)
moves-left e file bytes a b c moves left =
    throughout-then moves (throughout-gives (λ w. either-untouched e file bytes a.now b.now w (throughout-last (IsStillOrMoved e file bytes a.now) a b (inl (still-refl e a.now)) moves)) left)

pub keeps-left : (e : Entry) (file : ℕ) (bytes : List ℕ) (a b c : Moments) → KeepsName e a b → Throughout (IsUntouched e b.now) (all b) (all c) → Throughout (IsStillOrMoved e file bytes a.now) (all a) (all c)
keeps-left e file bytes a b c keeps left = moves-left e file bytes a b c (throughout-gives (λ w q. inl q) keeps) left

-- ---- in the words of files

content-by : (e : Entry) (w v : World) (o : Option ℕ) → w.names e ≡ o → v.names e ≡ o → ((i : ℕ) → o ≡ Some i → (v.files i).bytes ≡ (w.files i).bytes) → content_at e v ≡ content_at e w
content-by e w v None a b same = ap (option_map (λ i. (v.files i).bytes)) b ∙ sym (ap (option_map (λ i. (w.files i).bytes)) a)
content-by e w v (Some i) a b same = ap (option_map (λ i. (v.files i).bytes)) b ∙ (ap (λ (bs : List ℕ). Some bs) (same i refl) ∙ sym (ap (option_map (λ i. (w.files i).bytes)) a))

content-new : (e : Entry) (file : ℕ) (bytes : List ℕ) (w : World) → w.names e ≡ Some file → (w.files file).bytes ≡ bytes → content_at e w ≡ Some bytes
content-new e file bytes w named whole = ap (option_map (λ i. (w.files i).bytes)) named ∙ ap (λ (bs : List ℕ). Some bs) whole

sure-name : (e : Entry) (w left : World) → w.earlier e ≡ [] → MayLeave w left → left.names e ≡ w.names e
sure-name e w left none may = ⊎_elim (λ h. h) (λ h. absurd (subst (IsOneOf (left.names e)) none h)) (may.names e)

still-lost : (e : Entry) (before w left : World) → IsStill e before w → IsSteady e before → MayLeave w left → content_at e left ≡ content_at e before
still-lost e before w left p steady may =
    content-by e before left (before.names e) refl (sure-name e w left (p.earlier ∙ steady.name) may ∙ p.name)
    (λ i is. (may.files i).whole (ap (λ (f : FileState). f.unsure) (p.file i is) ∙ steady.file i is) ∙ ap (λ (f : FileState). f.bytes) (p.file i is))

pub still-old : (e : Entry) (before w : World) (bytes : List ℕ) → IsStill e before w → IsOldOrNew e before bytes w
still-old e before w bytes p = record {
  now = inl (content-by e before w (before.names e) refl p.name (λ i is. ap (λ (f : FileState). f.bytes) (p.file i is)));
  lost = λ steady left may. inl (still-lost e before w left p steady may);
}

moved-file : (e : Entry) (file : ℕ) (bytes : List ℕ) (before w left : World) → IsMoved e file bytes before w → MayLeave w left → (left.files file).bytes ≡ bytes
moved-file e file bytes before w left m may = (may.files file).whole m.sure ∙ m.whole

-- the old one, where a loss of power left it
moved-back : (e : Entry) (file : ℕ) (bytes : List ℕ) (before w left : World) → IsMoved e file bytes before w → IsSteady e before → MayLeave w left → left.names e ≡ before.names e → content_at e left ≡ content_at e before
moved-back e file bytes before w left m steady may back =
    content-by e before left (before.names e) refl back (λ i is. (may.files i).whole (ap (λ (f : FileState). f.unsure) (m.old i is) ∙ steady.file i is) ∙ ap (λ (f : FileState). f.bytes) (m.old i is))

one-of : (o x : Option ℕ) (xs : List (Option ℕ)) → xs ≡ [] → IsOneOf o (x ∷ xs) → o ≡ x
one-of o x xs none (inl is) = is
one-of o x xs none (inr more) = absurd (subst (IsOneOf o) none more)

lost-earlier : (e : Entry) (file : ℕ) (bytes : List ℕ) (before w left : World) → IsMoved e file bytes before w → IsSteady e before → MayLeave w left → IsOneOf (left.names e) (w.earlier e) → HoldsOldOrNew e (content_at e before) bytes left
lost-earlier e file bytes before w left m steady may one = ⊎_elim
    (λ (h : w.earlier e ≡ before.names e ∷ before.earlier e). inl (moved-back e file bytes before w left m steady may (one-of _ _ _ steady.name (subst (IsOneOf (left.names e)) h one))))
    (λ (h : w.earlier e ≡ []). absurd (subst (IsOneOf (left.names e)) h one))
    m.earlier

pub moved-new : (e : Entry) (before w : World) (file : ℕ) (bytes : List ℕ) → IsMoved e file bytes before w → IsOldOrNew e before bytes w
moved-new e before w file bytes m = record {
  now = inr (content-new e file bytes w m.name m.whole);
  lost = λ steady left may. ⊎_elim
      (λ (h : left.names e ≡ w.names e). inr (content-new e file bytes left (h ∙ m.name) (moved-file e file bytes before w left m may)))
      (lost-earlier e file bytes before w left m steady may)
      (may.names e);
}

pub either-old-or-new : (e : Entry) (before w : World) (file : ℕ) (bytes : List ℕ) → IsStillOrMoved e file bytes before w → IsOldOrNew e before bytes w
either-old-or-new e before w file bytes (inl p) = still-old e before w bytes p
either-old-or-new e before w file bytes (inr m) = moved-new e before w file bytes m

pub moved-saved : (e : Entry) (before w : World) (file : ℕ) (bytes : List ℕ) → IsMoved e file bytes before w → w.earlier e ≡ [] → IsSaved e bytes w
moved-saved e before w file bytes m none = record {
  now = content-new e file bytes w m.name m.whole;
  lost = λ left may. content-new e file bytes left (sure-name e w left none may ∙ m.name) (moved-file e file bytes before w left m may);
}

-- ---- for callers

-- the unfinished file has another name
pub entry-apart : (entry : List ℕ → Entry) → ((path : List ℕ) → entry (path ++ part_ending) ≢ entry path) → (path part : List ℕ) → part ≡ path ++ part_ending → entry path ≢ entry part
entry-apart entry beside path part is same = beside path (sym (same ∙ ap entry is))

pub from-ok : {T E : Type 0} {P : Type 0} (r : Result T E) (b : Bool) → b ≡ is_err r → b ≡ false → OnOk r P → P
from-ok (Ok x) b value not holds = holds
from-ok (Err x) b value not holds = absurd (false≢true (sym not ∙ value))

pub keeps-untouched : (e : Entry) (old new : Moments) → Throughout (IsUntouched e old.now) (all old) (all new) → KeepsName e old new
keeps-untouched e old new goes = throughout-gives (λ w. still-untouched e old.now old.now w (still-refl e old.now)) goes

pub keeps-old : (e : Entry) (bytes : List ℕ) (old new : Moments) → KeepsName e old new → Throughout (IsOldOrNew e old.now bytes) (all old) (all new)
keeps-old e bytes old new keeps = throughout-gives (λ w. still-old e old.now w bytes) keeps

pub moves-new : (e : Entry) (file : ℕ) (bytes : List ℕ) (a b c : Moments) → KeepsName e a b → Throughout (IsStillOrMoved e file bytes b.now) (all b) (all c) → Throughout (IsOldOrNew e a.now bytes) (all a) (all c)
moves-new e file bytes a b c keeps moves = throughout-gives (λ w. either-old-or-new e a.now w file bytes) (keeps-moves e file bytes a b c keeps moves)

pub unfinished-none : (part : Entry) (d file : ℕ) (bytes : List ℕ) (w : World) → IsUnfinished part d file bytes w → IsUnfinished part d file (bytes ++ []) w
unfinished-none part d file bytes w u = subst (λ (bs : List ℕ). IsUnfinished part d file bs w) (sym (append-nil bytes)) u

pub unfinished-more : (part : Entry) (d file n m : ℕ) (bytes buf rest : List ℕ) (w : World) → rest ≡ drop n buf → IsUnfinished part d file ((bytes ++ take n buf) ++ take m rest) w → IsUnfinished part d file (bytes ++ take (n + m) buf) w
unfinished-more part d file n m bytes buf rest w is u = subst (λ (bs : List ℕ). IsUnfinished part d file bs w)
    (append_assoc bytes (take n buf) (take m rest) ∙ ap (λ (l : List ℕ). bytes ++ l) (ap (λ (l : List ℕ). take n buf ++ take m l) is ∙ sym (take-add n m buf))) u

pub saved-ok : {T E : Type 0} (e : Entry) (file : ℕ) (bytes : List ℕ) (before : World) (new : Moments) (r : Result T E) → OnOk r (IsMovedForGood e file bytes before new.now) → OnOk r (IsSaved e bytes new.now)
saved-ok e file bytes before new (Ok x) m = moved-saved e before new.now file bytes m.moved m.sure
saved-ok e file bytes before new (Err x) m = m

-- a name that was left alone first
pub good-before : {T E : Type 0} (e : Entry) (file : ℕ) (bytes : List ℕ) (a b : Moments) (w : World) (r : Result T E) → KeepsName e a b → OnOk r (IsMovedForGood e file bytes b.now w) → OnOk r (IsMovedForGood e file bytes a.now w)
good-before e file bytes a b w (Ok x) keeps m = record { moved = keeps-moved e file bytes a b w keeps m.moved; sure = m.sure }
good-before e file bytes a b w (Err x) keeps m = m

-- a folder that is opened before, and closed behind
pub moves-around : (part e : Entry) (file d : ℕ) (bytes : List ℕ) (a b c f : Moments) → IsFinished part file bytes a.now → Does (Finds d e.folder None) a b
    → (IsFinished part file bytes b.now → IsOpenFolder d e.folder b.now → Throughout (IsStillOrMoved e file bytes b.now) (all b) (all c)) → MayDo (Closes d) c f
    → Throughout (IsStillOrMoved e file bytes a.now) (all a) (all f)
moves-around part e file d bytes a b c f finished found moves closed =
    let inner = moves (finished-found part file d e.folder bytes _ _ finished found.does) (folder-found d e.folder _ _ found.does) in
    let kept = throughout-does (IsStill e a.now) _ a b found (still-found e d e.folder _ _ found.does) in
    moves-left e file bytes a c f (keeps-moves e file bytes a b c kept inner) (leaves-closed e d c f closed)

good-closed : (e : Entry) (file : ℕ) (bytes : List ℕ) (a b c : World) → IsMovedForGood e file bytes a b → IsUntouched e b c → IsMovedForGood e file bytes a c
good-closed e file bytes a b c m closed = record { moved = moved-untouched e file bytes a b c m.moved closed; sure = closed.earlier ∙ m.sure }

pub good-around : {T E : Type 0} (part e : Entry) (file d : ℕ) (bytes : List ℕ) (a b c f : Moments) (r : Result T E) → IsFinished part file bytes a.now → Does (Finds d e.folder None) a b
    → (IsFinished part file bytes b.now → IsOpenFolder d e.folder b.now → OnOk r (IsMovedForGood e file bytes b.now c.now)) → MayDo (Closes d) c f
    → OnOk r (IsMovedForGood e file bytes a.now f.now)
good-around part e file d bytes a b c f (Ok x) finished found moved closed =
    let m = moved (finished-found part file d e.folder bytes _ _ finished found.does) (folder-found d e.folder _ _ found.does) in
    good-closed e file bytes _ _ _ (record { moved = moved-before e file bytes _ _ _ (still-found e d e.folder _ _ found.does) m.moved; sure = m.sure }) (closed-untouched e d c f closed)
good-around part e file d bytes a b c f (Err x) finished found moved closed =
    moved (finished-found part file d e.folder bytes _ _ finished found.does) (folder-found d e.folder _ _ found.does)

pub finished-opened : (part : Entry) (file d folder : ℕ) (bytes : List ℕ) (a b : Moments) → IsFinished part file bytes a.now → Does (Finds d folder None) a b → IsFinished part file bytes b.now
finished-opened part file d folder bytes a b f found = finished-found part file d folder bytes _ _ f found.does

pub folder-opened : (d folder : ℕ) (a b : Moments) → Does (Finds d folder None) a b → IsOpenFolder d folder b.now
folder-opened d folder a b found = folder-found d folder _ _ found.does
