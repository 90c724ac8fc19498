-- What a file holds after one more call.
use Rattle.std.proofs.Common.{◌≡◌, ◌≢◌, ℕ, List, [], ◌∷◌, ◌++◌, Bool, true, false, Option, None, Some, Result, Ok, Err, OnOk, refl, sym, ap, ◌∙◌, subst, if◌then◌else◌, nat_lt, length}
use Rattle.std.specs.Option.{option_map}
use Rattle.std.specs.Global.{Vec}
use Rattle.file_system.specs.Calls.{appended, empty_file, synced}
use Rattle.file_system.specs.World.{FileState, Opening, Run, World}
use Rattle.file_system.specs.declared.system.Kind.TheVariants.{Regular}
use Rattle.file_system.specs.declared.system.Way.{Way}
use Rattle.memory_files.specs.Memory.{ShowsFile, changed_by, changes, file_left, filled, has_whole, is_append, opens_to, plain_file, step, synced_by, syncs, view_of, where_open, with_at}
use Rattle.memory_files.specs.declared.calls.Call.{Call}
use Rattle.memory_files.specs.declared.calls.Call.TheVariants.{Opened, Made, Added, On, Synced}
use Rattle.memory_files.specs.declared.calls.Change.{Change}
use Rattle.memory_files.specs.declared.calls.FileNow.{FileNow}
use Rattle.memory_files.specs.declared.calls.View.{View}
use Rattle.memory_files.proofs.Laws.{elsewhere, here}

or-view : View → Option View → View
or-view v None = v
or-view v (Some u) = u

pub same-view : (u v : View) → Some u ≡ Some v → u ≡ v
unfolding or-view
same-view u v is = ap (or-view u) is

is-there : Option View → Type 0
is-there None = ⊥
is-there (Some v) = Unit {0}

no-view : (v : View) → None ≡ Some v → ⊥
unfolding is-there
no-view v is = subst is-there (sym is) tt

no-none : (v : View) → Some v ≡ None → ⊥
unfolding is-there
no-none v is = subst is-there is tt

-- ---- through a descriptor

on-opening : (P : FileState → Type 0) (d i : ℕ) (change : Change) (v : View) (w : World) (o : Opening) → view_of o ≡ v → v.file ≡ i → P (changed_by change v.way (w.files i)) → P ((changes d change o w).files i)
on-opening P d i change v w o is at holds =
    let same : o.file ≡ i = ap (λ (x : View). x.file) is ∙ at in
    let way : o.way ≡ v.way = ap (λ (x : View). x.way) is in
    subst (λ (k : ℕ). P ((changes d change o w).files k)) same
    (subst P (sym (here o.file (changed_by change o.way (w.files o.file)) w.files))
    (subst (λ (x : Option Way). P (changed_by change x (w.files o.file))) (sym way) (subst (λ (k : ℕ). P (changed_by change v.way (w.files k))) (sym same) holds)))

on-file-by : (P : FileState → Type 0) (d i : ℕ) (change : Change) (v : View) (w : World) (x : Option Opening) → option_map view_of x ≡ Some v → v.file ≡ i → P (changed_by change v.way (w.files i)) → P ((where_open (changes d change) x w).files i)
on-file-by P d i change v w None is at holds = absurd (no-view v is)
on-file-by P d i change v w (Some o) is at holds = on-opening P d i change v w o (same-view (view_of o) v is) at holds

pub on-file : (P : FileState → Type 0) (n d i : ℕ) (change : Change) (v : View) (w : World) → option_map view_of (w.opened d) ≡ Some v → v.file ≡ i → P (changed_by change v.way (w.files i)) → P ((step n (On d change) w).files i)
on-file P n d i change v w is at holds = on-file-by P d i change v w (w.opened d) is at holds

on-other-by : (P : FileState → Type 0) (d i : ℕ) (change : Change) (v : View) (w : World) (x : Option Opening) → option_map view_of x ≡ Some v → v.file ≢ i → P (w.files i) → P ((where_open (changes d change) x w).files i)
on-other-by P d i change v w None is not holds = holds
on-other-by P d i change v w (Some o) is not holds =
    let same : o.file ≡ v.file = ap (λ (x : View). x.file) (same-view (view_of o) v is) in
    subst P (sym (elsewhere o.file i (changed_by change o.way (w.files o.file)) w.files (λ (h : i ≡ o.file). not (sym same ∙ sym h)))) holds

pub on-other : (P : FileState → Type 0) (n d i : ℕ) (change : Change) (v : View) (w : World) → option_map view_of (w.opened d) ≡ Some v → v.file ≢ i → P (w.files i) → P ((step n (On d change) w).files i)
on-other P n d i change v w is not holds = on-other-by P d i change v w (w.opened d) is not holds

on-none-by : (P : FileState → Type 0) (d i : ℕ) (change : Change) (w : World) (x : Option Opening) → option_map view_of x ≡ None → P (w.files i) → P ((where_open (changes d change) x w).files i)
on-none-by P d i change w None is holds = holds
on-none-by P d i change w (Some o) is holds = absurd (no-none (view_of o) is)

pub on-none : (P : FileState → Type 0) (n d i : ℕ) (change : Change) (w : World) → option_map view_of (w.opened d) ≡ None → P (w.files i) → P ((step n (On d change) w).files i)
on-none P n d i change w is holds = on-none-by P d i change w (w.opened d) is holds

-- ---- a sync

sync-way : (P : FileState → Type 0) (i : ℕ) (way : Option Way) (w : World) (o : Opening) → o.file ≡ i → P (synced_by way (w.files i)) → P ((syncs way o w).files i)
sync-way P i None w o at holds = holds
sync-way P i (Some way) w o at holds = subst (λ (k : ℕ). P ((syncs (Some way) o w).files k)) at
    (subst P (sym (here o.file (synced (w.files o.file)) w.files)) (subst (λ (k : ℕ). P (synced (w.files k))) (sym at) holds))

sync-file-by : (P : FileState → Type 0) (i : ℕ) (v : View) (w : World) (x : Option Opening) → option_map view_of x ≡ Some v → v.file ≡ i → P (synced_by v.way (w.files i)) → P ((where_open (λ o. syncs o.way o) x w).files i)
sync-file-by P i v w None is at holds = absurd (no-view v is)
sync-file-by P i v w (Some o) is at holds =
    let same = same-view (view_of o) v is in
    sync-way P i o.way w o (ap (λ (x : View). x.file) same ∙ at) (subst (λ (x : Option Way). P (synced_by x (w.files i))) (sym (ap (λ (x : View). x.way) same)) holds)

pub sync-file : (P : FileState → Type 0) (n d i : ℕ) (v : View) (w : World) → option_map view_of (w.opened d) ≡ Some v → v.file ≡ i → P (synced_by v.way (w.files i)) → P ((step n (Synced d) w).files i)
sync-file P n d i v w is at holds = sync-file-by P i v w (w.opened d) is at holds

sync-else-way : (P : FileState → Type 0) (i : ℕ) (way : Option Way) (w : World) (o : Opening) → o.file ≢ i → P (w.files i) → P ((syncs way o w).files i)
sync-else-way P i None w o not holds = holds
sync-else-way P i (Some way) w o not holds = subst P (sym (elsewhere o.file i (synced (w.files o.file)) w.files (λ (h : i ≡ o.file). not (sym h)))) holds

sync-other-by : (P : FileState → Type 0) (i : ℕ) (v : View) (w : World) (x : Option Opening) → option_map view_of x ≡ Some v → v.file ≢ i → P (w.files i) → P ((where_open (λ o. syncs o.way o) x w).files i)
sync-other-by P i v w None is not holds = holds
sync-other-by P i v w (Some o) is not holds = sync-else-way P i o.way w o (λ (h : o.file ≡ i). not (sym (ap (λ (x : View). x.file) (same-view (view_of o) v is)) ∙ h)) holds

pub sync-other : (P : FileState → Type 0) (n d i : ℕ) (v : View) (w : World) → option_map view_of (w.opened d) ≡ Some v → v.file ≢ i → P (w.files i) → P ((step n (Synced d) w).files i)
sync-other P n d i v w is not holds = sync-other-by P i v w (w.opened d) is not holds

sync-none-by : (P : FileState → Type 0) (i : ℕ) (w : World) (x : Option Opening) → option_map view_of x ≡ None → P (w.files i) → P ((where_open (λ o. syncs o.way o) x w).files i)
sync-none-by P i w None is holds = holds
sync-none-by P i w (Some o) is holds = absurd (no-none (view_of o) is)

pub sync-none : (P : FileState → Type 0) (n d i : ℕ) (w : World) → option_map view_of (w.opened d) ≡ None → P (w.files i) → P ((step n (Synced d) w).files i)
sync-none P n d i w is holds = sync-none-by P i w (w.opened d) is holds

-- ---- others

opened-file-by : (P : FileState → Type 0) (n file i : ℕ) (way : Option Way) (w : World) (b : Bool) → P (w.files i) → P ((if b then opens_to n file way w else w).files i)
opened-file-by P n file i way w true holds = holds
opened-file-by P n file i way w false holds = holds

pub opened-file : (P : FileState → Type 0) (n file i : ℕ) (way : Option Way) (w : World) → P (w.files i) → P ((step n (Opened way file) w).files i)
opened-file P n file i way w holds = opened-file-by P n file i way w (nat_lt file n) holds

pub at-file : (P : FileState → Type 0) (n i : ℕ) (f : FileState) (files : ℕ → FileState) → n ≡ i → P f → P (with_at n f files i)
at-file P n i f files is holds = subst (λ (k : ℕ). P (with_at n f files k)) is (subst P (sym (here n f files)) holds)

pub off-file : (P : FileState → Type 0) (n i : ℕ) (f : FileState) (files : ℕ → FileState) → n ≢ i → P (files i) → P (with_at n f files i)
off-file P n i f files not holds = subst P (sym (elsewhere n i f files (λ (h : i ≡ n). not (sym h)))) holds

-- ---- what is shown of it

pub shows-reset : {T E : Type 0} (x : FileNow) (bytes : List ℕ) (f : FileState) (r : Result T E) → f.kind ≡ Regular → f.bytes ≡ bytes → has_whole f.unsure ≡ x.whole → f.spoiled ≡ false → OnOk r (x.bytes.items ≡ bytes) → x.spoiled ≡ false → OnOk r (ShowsFile x f)
shows-reset x bytes f (Ok y) kind is whole spoiled same still = record { regular = kind; bytes = same ∙ sym is; whole = sym whole; spoiled = still ∙ sym spoiled }
shows-reset x bytes f (Err y) kind is whole spoiled same still = same

pub on-ok : {T E : Type 0} {P Q : Type 0} (r : Result T E) → (P → Q) → OnOk r P → OnOk r Q
on-ok (Ok x) gives holds = gives holds
on-ok (Err x) gives holds = holds

appended-is : (bytes : List ℕ) (f : FileState) → f.kind ≡ Regular → appended bytes f ≡ record f { bytes = f.bytes ++ bytes; unsure = Run (length f.bytes) (length bytes) ∷ f.unsure }
appended-is bytes f is = rw is

pub shows-put : (x y : FileNow) (bytes : List ℕ) (f : FileState) → ShowsFile x f → y.bytes.items ≡ x.bytes.items ++ bytes → y.whole ≡ x.whole → y.spoiled ≡ x.spoiled → ShowsFile y (appended bytes f)
shows-put x y bytes f s is whole spoiled = subst (ShowsFile y) (sym (appended-is bytes f s.regular)) (record {
  regular = s.regular;
  bytes = is ∙ ap (λ (bs : List ℕ). bs ++ bytes) s.bytes;
  whole = whole ∙ s.whole;
  spoiled = spoiled ∙ s.spoiled;
})

pub shows-changed : (x y : FileNow) (bytes : List ℕ) (way : Option Way) (f : FileState) (b : Bool) → b ≡ is_append way → b ≡ true → ShowsFile y (appended bytes f) → ShowsFile y (if is_append way then appended bytes f else f)
shows-changed x y bytes way f b is h s = subst (λ (c : Bool). ShowsFile y (if c then appended bytes f else f)) (sym h ∙ is) s

pub shows-kept : (y : FileNow) (bytes : List ℕ) (way : Option Way) (f : FileState) (b : Bool) → b ≡ is_append way → b ≡ false → ShowsFile y f → ShowsFile y (if is_append way then appended bytes f else f)
shows-kept y bytes way f b is h s = subst (λ (c : Bool). ShowsFile y (if c then appended bytes f else f)) (sym h ∙ is) s

synced-left : (f : FileState) (b : Bool) → f.spoiled ≡ b → has_whole (synced f).unsure ≡ (if b then has_whole f.unsure else false)
synced-left f true is = ap (λ (c : Bool). has_whole (if c then f.unsure else [])) is
synced-left f false is = ap (λ (c : Bool). has_whole (if c then f.unsure else [])) is

-- a file that a failed sync spoiled stays unsure, and another is sure
pub shows-spoiled : (x : FileNow) (f : FileState) → ShowsFile x f → x.spoiled ≡ true → ShowsFile x (synced f)
shows-spoiled x f s is = record { regular = s.regular; bytes = s.bytes; whole = s.whole ∙ sym (synced-left f true (sym s.spoiled ∙ is)); spoiled = s.spoiled }

pub shows-synced : (x y : FileNow) (f : FileState) → ShowsFile x f → x.spoiled ≡ false → y.bytes.items ≡ x.bytes.items → y.whole ≡ false → y.spoiled ≡ x.spoiled → ShowsFile y (synced f)
shows-synced x y f s is bytes whole spoiled = record { regular = s.regular; bytes = bytes ∙ s.bytes; whole = whole ∙ sym (synced-left f false (sym s.spoiled ∙ is)); spoiled = spoiled ∙ s.spoiled }

-- what a loss leaves
pub shows-filled : (x y : FileNow) (fill : Option ℕ) (f : FileState) → ShowsFile x f → x.whole ≡ true → y.bytes.items ≡ filled fill x.bytes.items → y.whole ≡ false → y.spoiled ≡ false → ShowsFile y (file_left fill f)
shows-filled x y fill f s is bytes whole spoiled = record {
  regular = s.regular;
  bytes = bytes ∙ (ap (λ (bs : List ℕ). filled fill bs) s.bytes ∙ sym (ap (λ (c : Bool). if c then filled fill f.bytes else f.bytes) (sym s.whole ∙ is)));
  whole = whole;
  spoiled = spoiled;
}

pub shows-left : (x y : FileNow) (fill : Option ℕ) (f : FileState) → ShowsFile x f → x.whole ≡ false → y.bytes.items ≡ x.bytes.items → y.whole ≡ false → y.spoiled ≡ false → ShowsFile y (file_left fill f)
shows-left x y fill f s is bytes whole spoiled = record {
  regular = s.regular;
  bytes = bytes ∙ (s.bytes ∙ sym (ap (λ (c : Bool). if c then filled fill f.bytes else f.bytes) (sym s.whole ∙ is)));
  whole = whole;
  spoiled = spoiled;
}

-- ---- as the code asks

as-called : (P : FileState → Type 0) (n i : ℕ) (call c : Call) (w : World) → call ≡ c → P ((step n c w).files i) → P ((step n call w).files i)
as-called P n i call c w is holds = subst (λ (x : Call). P ((step n x w).files i)) (sym is) holds

pub made-shows : {T E : Type 0} (n i : ℕ) (call : Call) (path : Vec ℕ) (way : Way) (w : World) (x : FileNow) (r : Result T E) → call ≡ Made path way → n ≡ i → OnOk r (x.bytes.items ≡ []) → x.whole ≡ true → x.spoiled ≡ false → OnOk r (ShowsFile x ((step n call w).files i))
made-shows n i call path way w x r is at bytes whole spoiled =
    as-called (λ (f : FileState). OnOk r (ShowsFile x f)) n i call (Made path way) w is
    (at-file (λ (f : FileState). OnOk r (ShowsFile x f)) n i empty_file w.files at (shows-reset x [] empty_file r refl refl (sym whole) refl bytes spoiled))

pub made-shows-not : (n i : ℕ) (call : Call) (path : Vec ℕ) (way : Way) (w : World) (x : FileNow) → call ≡ Made path way → (n ≡ i → ⊥) → ShowsFile x (w.files i) → ShowsFile x ((step n call w).files i)
made-shows-not n i call path way w x is not shows = as-called (ShowsFile x) n i call (Made path way) w is (off-file (ShowsFile x) n i empty_file w.files not shows)

ok-then : {T E X : Type 0} (r : Result T E) (a b c : X) → OnOk r (a ≡ b) → b ≡ c → OnOk r (a ≡ c)
ok-then (Ok y) a b c first second = first ∙ second
ok-then (Err y) a b c first second = first

pub added-shows : {T E : Type 0} (n i : ℕ) (call : Call) (path bytes : Vec ℕ) (s : List ℕ) (w : World) (x : FileNow) (r : Result T E) → call ≡ Added path bytes → n ≡ i → OnOk r (x.bytes.items ≡ s) → s ≡ bytes.items → x.whole ≡ false → x.spoiled ≡ false
    → OnOk r (ShowsFile x ((step n call w).files i))
added-shows n i call path bytes s w x r is at held same whole spoiled =
    as-called (λ (f : FileState). OnOk r (ShowsFile x f)) n i call (Added path bytes) w is
    (at-file (λ (f : FileState). OnOk r (ShowsFile x f)) n i (plain_file bytes.items) w.files at
    (shows-reset x bytes.items (plain_file bytes.items) r refl refl (sym whole) refl (ok-then r x.bytes.items s bytes.items held same) spoiled))

pub added-shows-not : (n i : ℕ) (call : Call) (path bytes : Vec ℕ) (w : World) (x : FileNow) → call ≡ Added path bytes → (n ≡ i → ⊥) → ShowsFile x (w.files i) → ShowsFile x ((step n call w).files i)
added-shows-not n i call path bytes w x is not shows = as-called (ShowsFile x) n i call (Added path bytes) w is (off-file (ShowsFile x) n i (plain_file bytes.items) w.files not shows)

pub on-shows : (P : FileState → Type 0) (n d i : ℕ) (call : Call) (change : Change) (v : View) (w : World) → call ≡ On d change → option_map view_of (w.opened d) ≡ Some v → v.file ≡ i → P (changed_by change v.way (w.files i)) → P ((step n call w).files i)
on-shows P n d i call change v w is seen at holds = as-called P n i call (On d change) w is (on-file P n d i change v w seen at holds)

pub on-shows-not : (P : FileState → Type 0) (n d i : ℕ) (call : Call) (change : Change) (v : View) (w : World) → call ≡ On d change → option_map view_of (w.opened d) ≡ Some v → (v.file ≡ i → ⊥) → P (w.files i) → P ((step n call w).files i)
on-shows-not P n d i call change v w is seen not holds = as-called P n i call (On d change) w is (on-other P n d i change v w seen not holds)

pub sync-shows : (P : FileState → Type 0) (n d i : ℕ) (call : Call) (v : View) (w : World) → call ≡ Synced d → option_map view_of (w.opened d) ≡ Some v → v.file ≡ i → P (synced_by v.way (w.files i)) → P ((step n call w).files i)
sync-shows P n d i call v w is seen at holds = as-called P n i call (Synced d) w is (sync-file P n d i v w seen at holds)

pub sync-shows-not : (P : FileState → Type 0) (n d i : ℕ) (call : Call) (v : View) (w : World) → call ≡ Synced d → option_map view_of (w.opened d) ≡ Some v → (v.file ≡ i → ⊥) → P (w.files i) → P ((step n call w).files i)
sync-shows-not P n d i call v w is seen not holds = as-called P n i call (Synced d) w is (sync-other P n d i v w seen not holds)
