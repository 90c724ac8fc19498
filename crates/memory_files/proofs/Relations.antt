-- What one more call does to the world, as the trait says it.
use Rattle.std.proofs.Common.{◌≡◌, ◌≢◌, ◌⊎◌, inl, inr, ℕ, ◌+◌, ◌<◌, ◌==◌, not, List, [], ◌∷◌, Bool, true, false, Option, None, Some, Result, Ok, Err, IfOk, OnOk, OnErr, refl, sym, ap, ◌∙◌, subst, if◌then◌else◌, arith, drop, is_some, suc, zero}
use Rattle.std.proofs.lemmas.Bool.{false≢true}
use Rattle.std.specs.Global.{Vec}
use Rattle.std.specs.Option.{option_map}
use Rattle.file_system.specs.Calls.{Appends, ChangesBy, Closes, Does, Reads, FailsToOpen, FailsToSync, Finds, IsNew, MakesOpen, MayDo, Opens, Removes, Renames, CanRename, Syncs, Takes, appended, closed, emptied, opening, taken_of, unsynced, written_at}
use Rattle.file_system.specs.World.{Entry, FileState, MayHold, MayLeave, IsOneOf, Moments, Opening, Span, Run, Whole, World, is_in, is_sure}
use Rattle.file_system.specs.declared.system.Kind.TheVariants.{Regular}
use Rattle.file_system.specs.declared.system.Opened.{Opened as OpenedFile}
use Rattle.file_system.specs.declared.system.Making.{Making}
use Rattle.file_system.specs.declared.system.Making.TheVariants.{Old, May, New}
use Rattle.file_system.specs.declared.system.Way.{Way}
use Rattle.file_system.specs.declared.system.Way.TheVariants.{Append}
use Rattle.memory_files.specs.Memory.{changes, entry_of, IsThen, filled, first_of, has_whole, is_append, leads_to, loses, makes, moments_of, next_of, opens_to, past_of, removes, renames, step, syncs, view_of, where_open, with_at, world_of}
use Rattle.memory_files.specs.declared.calls.Call.{Call}
use Rattle.memory_files.specs.declared.calls.Call.TheVariants.{Opened, Made, On, Synced, Renamed, Removed, Lost}
use Rattle.memory_files.specs.declared.calls.Calls.{Calls}
use Rattle.memory_files.specs.declared.calls.Calls.TheVariants.{Start, Then'}
use Rattle.memory_files.specs.declared.calls.Change.{Change}
use Rattle.memory_files.specs.declared.calls.Change.TheVariants.{Closed, Placed, Put, Written, Cut, Unsynced}
use Rattle.memory_files.specs.declared.calls.View.{View}
use Rattle.memory_files.proofs.Files.{same-view}
use Rattle.memory_files.proofs.Laws.{HasBelow, IsBelow, IsUnread, and-second, as-it-was, below, eq-other, eq-self, elsewhere, here, kinds, name-elsewhere, name-here, opens-is, unread}

-- ---- one more call

does-by : (P : World → World → Type 0) (c d : Call) (old rest : Calls) → d ≡ c → rest ≡ old → P (world_of old) (step (next_of old) c (world_of old)) → Does P (moments_of old) (record { now = step (next_of rest) d (world_of rest); past = world_of rest ∷ past_of rest })
does-by P c d old rest call same holds = subst (λ (x : Calls). Does P (moments_of old) (record { now = step (next_of x) d (world_of x); past = world_of x ∷ past_of x })) (sym same)
    (subst (λ (x : Call). Does P (moments_of old) (record { now = step (next_of old) x (world_of old); past = world_of old ∷ past_of old })) (sym call) (record { past = refl; does = holds }))

pub noted : (P : World → World → Type 0) (c : Call) (old new : Calls) → IsThen c old new → P (world_of old) (step (next_of old) c (world_of old)) → Does P (moments_of old) (moments_of new)
noted P c old Start is holds = absurd is
noted P c old (Then' d p rest) is holds = does-by P c d old rest is.0 is.1 holds

pub unmoved : (old new : Calls) → new ≡ old → moments_of new ≡ moments_of old
unmoved old new same = ap moments_of same

-- ---- opening

none-unless : (x : Option Opening) → ((o : Opening) → x ≡ Some o → ⊥) → x ≡ None
none-unless None none = refl
none-unless (Some o) none = absurd (none o refl)

opened-below : (n d : ℕ) (x : Option Opening) (o : Opening) → HasBelow n d x → x ≡ Some o → (d < n) × (o.file < n)
opened-below n d x o h is = subst (HasBelow n d) is h

named-below : (n : ℕ) (x : Option ℕ) (i : ℕ) → IsBelow n x → x ≡ Some i → i < n
named-below n x i h is = subst (IsBelow n) is h

pub free-next : (cs : Calls) → (world_of cs).opened (next_of cs) ≡ None
free-next cs = none-unless _ (λ o is. let h = opened-below (next_of cs) (next_of cs) _ o ((below cs).opened (next_of cs)) is in omega (arith, h.0))

pub new-next : (cs : Calls) → IsNew (next_of cs) (world_of cs)
new-next cs = record {
  unnamed = λ e is. let h = named-below (next_of cs) _ (next_of cs) ((below cs).named e) is in omega (arith, h);
  unopened = λ d o is unshut same. let h = opened-below (next_of cs) d _ o ((below cs).opened d) is in omega (arith, h.1, same);
}

takes-next : (n file : ℕ) (way : Option Way) (w v : World) → w.opened n ≡ None → v.opened ≡ with_at n (Some (opening file way [])) w.opened → Takes n file way w v
takes-next n file way w v free is = record {
  free = free;
  coming = [];
  unread = λ h. refl;
  opened = ap (λ (f : ℕ → Option Opening). f n) is ∙ here n _ w.opened;
  others = λ k not. ap (λ (f : ℕ → Option Opening). f k) is ∙ elsewhere n k _ w.opened not;
}

finds-to : (n file : ℕ) (way : Option Way) (w : World) → w.opened n ≡ None → Finds n file way w (opens_to n file way w)
finds-to n file way w free = record { takes = takes-next n file way w (opens_to n file way w) free refl; names = record { names = λ e. refl; earlier = λ e. refl }; files = λ k. refl }

-- a file that is there was opened
pub finds-next : (cs : Calls) (file : ℕ) (way : Option Way) → file < next_of cs → Finds (next_of cs) file way (world_of cs) (step (next_of cs) (Opened way file) (world_of cs))
finds-next cs file way less = subst (Finds (next_of cs) file way (world_of cs)) (sym (opens-is (next_of cs) file way (world_of cs) less)) (finds-to (next_of cs) file way (world_of cs) (free-next cs))

pub file-below : (cs : Calls) (e : Entry) (i : ℕ) → (world_of cs).names e ≡ Some i → i < next_of cs
file-below cs e i is = named-below (next_of cs) _ i ((below cs).named e) is

-- a new one was made
pub makes-next : (cs : Calls) (path : List ℕ) (way : Way) → (world_of cs).names (entry_of path) ≡ None → MakesOpen (entry_of path) (next_of cs) (next_of cs) (Some way) (world_of cs) (makes (next_of cs) path way (world_of cs))
makes-next cs path way none = record {
  makes = record {
    fresh = new-next cs;
    missing = none;
    name = name-here path _ (world_of cs).names;
    earlier = name-here path _ (world_of cs).earlier;
    names = record { names = λ e not. name-elsewhere path e _ (world_of cs).names not; earlier = λ e not. name-elsewhere path e _ (world_of cs).earlier not };
    file = here (next_of cs) _ (world_of cs).files;
    files = λ k not. elsewhere (next_of cs) k _ (world_of cs).files not;
  };
  takes = takes-next (next_of cs) (next_of cs) (Some way) (world_of cs) (makes (next_of cs) path way (world_of cs)) (free-next cs) refl;
}

-- ---- through a descriptor

closes-by : (d : ℕ) (x : Option Opening) (w : World) → w.opened d ≡ x → Closes d w (where_open (changes d Closed) x w)
closes-by d None w is = record { opened = is ∙ sym (ap (option_map closed) is); others = λ k not. refl; names = record { names = λ e. refl; earlier = λ e. refl }; files = λ k. refl }
closes-by d (Some o) w is = record {
  opened = here d _ w.opened ∙ sym (ap (option_map closed) is);
  others = λ k not. elsewhere d k _ w.opened not;
  names = record { names = λ e. refl; earlier = λ e. refl };
  files = λ k. as-it-was o.file k _ w.files refl;
}

pub closes-next : (cs : Calls) (d : ℕ) → Closes d (world_of cs) (step (next_of cs) (On d Closed) (world_of cs))
closes-next cs d = closes-by d ((world_of cs).opened d) (world_of cs) refl

-- the opening is known
at-opening : (P : World → World → Type 0) (d : ℕ) (change : Change) (o : Opening) (w : World) → w.opened d ≡ Some o → P w (changes d change o w) → P w (where_open (changes d change) (w.opened d) w)
at-opening P d change o w is holds = subst (λ (x : Option Opening). P w (where_open (changes d change) x w)) (sym is) holds

appended-by : (bytes : List ℕ) (way : Option Way) (f : FileState) → way ≡ Some Append → (if is_append way then appended bytes f else f) ≡ appended bytes f
appended-by bytes way f is = ap (λ (x : Option Way). if is_append x then appended bytes f else f) is

appends-to : (d : ℕ) (v : Vec ℕ) (o : Opening) (w : World) → Appends d o v.items w (changes d (Put v) o w)
appends-to d v o w = record {
  opened = here d _ w.opened;
  others = λ k not. elsewhere d k _ w.opened not;
  file = λ is. here o.file _ w.files ∙ appended-by v.items o.way (w.files o.file) is;
  files = λ k not. elsewhere o.file k _ w.files not;
  names = record { names = λ e. refl; earlier = λ e. refl };
}

pub appends-next : (cs : Calls) (d : ℕ) (v : Vec ℕ) (bytes : List ℕ) (o : Opening) → (world_of cs).opened d ≡ Some o → v.items ≡ bytes → Appends d o bytes (world_of cs) (step (next_of cs) (On d (Put v)) (world_of cs))
appends-next cs d v bytes o is same = subst (λ (bs : List ℕ). Appends d o bs (world_of cs) (step (next_of cs) (On d (Put v)) (world_of cs))) same
    (at-opening (λ w u. Appends d o v.items w u) d (Put v) o (world_of cs) is (appends-to d v o (world_of cs)))

cuts-to : (d : ℕ) (o : Opening) (w : World) → w.opened d ≡ Some o → ChangesBy emptied o w (changes d Cut o w)
cuts-to d o w is = record { file = here o.file _ w.files; files = λ k not. elsewhere o.file k _ w.files not; opened = λ k. as-it-was d k _ w.opened is; names = record { names = λ e. refl; earlier = λ e. refl } }

pub cuts-next : (cs : Calls) (d : ℕ) (o : Opening) → (world_of cs).opened d ≡ Some o → ChangesBy emptied o (world_of cs) (step (next_of cs) (On d Cut) (world_of cs))
cuts-next cs d o is = at-opening (ChangesBy emptied o) d Cut o (world_of cs) is (cuts-to d o (world_of cs) is)

unsyncs-to : (d : ℕ) (o : Opening) (w : World) → w.opened d ≡ Some o → ChangesBy unsynced o w (changes d Unsynced o w)
unsyncs-to d o w is = record { file = here o.file _ w.files; files = λ k not. elsewhere o.file k _ w.files not; opened = λ k. as-it-was d k _ w.opened is; names = record { names = λ e. refl; earlier = λ e. refl } }

pub unsyncs-next : (cs : Calls) (d : ℕ) (o : Opening) → (world_of cs).opened d ≡ Some o → ChangesBy unsynced o (world_of cs) (step (next_of cs) (On d Unsynced) (world_of cs))
unsyncs-next cs d o is = at-opening (ChangesBy unsynced o) d Unsynced o (world_of cs) is (unsyncs-to d o (world_of cs) is)

settled-here : (folder : ℕ) (e : Entry) (x : List (Option ℕ)) → e.folder ≡ folder → (if folder == e.folder then [] else x) ≡ []
settled-here folder e x is = subst (λ (n : ℕ). (if n == e.folder then [] else x) ≡ []) is (rw (eq-self e.folder))

settled-elsewhere : (folder : ℕ) (e : Entry) (x : List (Option ℕ)) → e.folder ≢ folder → (if folder == e.folder then [] else x) ≡ x
settled-elsewhere folder e x not = rw (eq-other folder e.folder (λ (h : folder ≡ e.folder). not (sym h)))

syncs-by : (way : Option Way) (o : Opening) (w : World) → Syncs way o w (syncs way o w)
syncs-by None o w = record {
  names = λ e. refl;
  earlier = λ e is. settled-here o.file e (w.earlier e) is;
  others = λ e not. settled-elsewhere o.file e (w.earlier e) not;
  files = λ k. refl;
  opened = λ k. refl;
}
syncs-by (Some way) o w = record { file = here o.file _ w.files; files = λ k not. elsewhere o.file k _ w.files not; opened = λ k. refl; names = record { names = λ e. refl; earlier = λ e. refl } }

pub syncs-next : (cs : Calls) (d : ℕ) (o : Opening) → (world_of cs).opened d ≡ Some o → Syncs o.way o (world_of cs) (step (next_of cs) (Synced d) (world_of cs))
syncs-next cs d o is = subst (λ (x : Option Opening). Syncs o.way o (world_of cs) (where_open (λ p. syncs p.way p) x (world_of cs))) (sym is) (syncs-by o.way o (world_of cs))

-- ---- names

from-apart : (from to : Entry) (w : World) → CanRename from to w → from ≢ to
from-apart from to w can same = can.other (sym (ap w.names same) ∙ can.named)

pub renames-by : (from to : List ℕ) (w : World) → CanRename (entry_of from) (entry_of to) w → Renames (entry_of from) (entry_of to) w (renames from to w)
renames-by from to w can =
    let apart = from-apart (entry_of from) (entry_of to) w can in
    record {
      moved = name-here to _ _;
      gone = name-elsewhere to (entry_of from) _ _ apart ∙ name-here from _ w.names;
      earlier = name-here to _ _;
      earlier_from = name-elsewhere to (entry_of from) _ _ apart ∙ name-here from _ w.earlier;
      names = λ e not-from not-to. name-elsewhere to e _ _ not-to ∙ name-elsewhere from e _ w.names not-from;
      others = λ e not-from not-to. name-elsewhere to e _ _ not-to ∙ name-elsewhere from e _ w.earlier not-from;
      files = λ k. refl;
      opened = λ k. refl;
    }

pub removes-by : (path : List ℕ) (w : World) → Removes (entry_of path) w (removes path w)
removes-by path w = record {
  gone = name-here path _ w.names;
  earlier = name-here path _ w.earlier;
  names = record { names = λ e not. name-elsewhere path e _ w.names not; earlier = λ e not. name-elsewhere path e _ w.earlier not };
  files = λ k. refl;
  opened = λ k. refl;
}

-- ---- a loss of power

first-one : (x : Option ℕ) (xs : List (Option ℕ)) → (first_of x xs ≡ x) ⊎ IsOneOf (first_of x xs) xs
first-one x [] = inl refl
first-one x (y ∷ ys) = inr (first-one y ys)

leads-one : (back : Bool) (e : Entry) (w : World) → (leads_to back e w ≡ w.names e) ⊎ IsOneOf (leads_to back e w) (w.earlier e)
leads-one false e w = inl refl
leads-one true e w = first-one (w.names e) (w.earlier e)

-- a byte that is sure isn't in a span of all
whole-sure : (spans : List Span) (i : ℕ) → has_whole spans ≡ true → is_sure spans i ≡ true → ⊥
whole-sure [] i has sure = false≢true has
whole-sure (Run place len ∷ spans) i has sure = whole-sure spans i has (and-second (not (is_in i (Run place len))) (is_sure spans i) sure)
whole-sure (Whole ∷ spans) i has sure = false≢true sure

empty-whole : (spans : List Span) → spans ≡ [] → has_whole spans ≡ false
empty-whole spans is = ap has_whole is

holds-left : (fill : Option ℕ) (f : FileState) (b : Bool) → has_whole f.unsure ≡ b → MayHold f (if b then filled fill f.bytes else f.bytes)
holds-left fill f false is = record { whole = λ h. refl; sure = λ i h. refl }
holds-left fill f true is = record { whole = λ h. absurd (false≢true (sym (empty-whole f.unsure h) ∙ is)); sure = λ i h. absurd (whole-sure f.unsure i is h) }

pub may-leave : (back : Bool) (fill : Option ℕ) (w : World) → MayLeave w (loses back fill w)
may-leave back fill w = record { names = λ e. leads-one back e w; files = λ i. holds-left fill (w.files i) (has_whole (w.files i).unsure) refl }

-- in the words of the calls
pub lost-next : {T E : Type 0} (back : Bool) (fill : Option ℕ) (old new : Calls) (r : Result T E) → OnOk r (IsThen (Lost back fill) old new) → OnOk r (MayLeave (moments_of old).now (moments_of new).now)
lost-next back fill old new (Ok x) is = (noted MayLeave (Lost back fill) old new is (may-leave back fill (world_of old))).does
lost-next back fill old new (Err x) is = is

pub does-gives : (P Q : World → World → Type 0) (old new : Moments) → ((w v : World) → P w v → Q w v) → Does P old new → Does Q old new
does-gives P Q old new gives d = record { past = d.past; does = gives old.now new.now d.does }

pub behind : (e : Entry) (d i : ℕ) (way : Option Way) (w v : World) → MakesOpen e d i way w v → Opens May e d i way w v
behind e d i way w v m = inr (record { there = e; own = λ h. refl; makes = m })

-- ---- as the calls answer

pub noted-from : (P : World → World → Type 0) (c : Call) (old mid new : Calls) → mid ≡ old → IsThen c mid new → P (world_of old) (step (next_of old) c (world_of old)) → Does P (moments_of old) (moments_of new)
noted-from P c old mid new same is holds = noted P c old new (subst (λ (m : Calls). IsThen c m new) same is) holds

pub noted-ok : {T E : Type 0} (P : World → World → Type 0) (c : Call) (old mid new : Calls) (r : Result T E) → mid ≡ old → OnOk r (IsThen c mid new) → P (world_of old) (step (next_of old) c (world_of old)) → OnOk r (Does P (moments_of old) (moments_of new))
noted-ok P c old mid new (Ok x) same is holds = noted P c old new (subst (λ (m : Calls). IsThen c m new) same is) holds
noted-ok P c old mid new (Err x) same is holds = is

pub failed-err : {T E : Type 0} (P : World → World → Type 0) (old mid new : Calls) (r : Result T E) → mid ≡ old → OnErr r (new ≡ mid) → OnErr r (MayDo P (moments_of old) (moments_of new))
failed-err P old mid new (Ok x) same is = is
failed-err P old mid new (Err x) same is = inl (unmoved old new (is ∙ same))

-- a call that was noted, or was not for want of memory
pub may-noted : {T E : Type 0} (P : World → World → Type 0) (c : Call) (old mid new : Calls) (r : Result T E) → mid ≡ old → OnOk r (IsThen c mid new) → OnErr r (new ≡ mid) → P (world_of old) (step (next_of old) c (world_of old)) → MayDo P (moments_of old) (moments_of new)
may-noted P c old mid new (Ok x) same is not holds = inr (noted P c old new (subst (λ (m : Calls). IsThen c m new) same is) holds)
may-noted P c old mid new (Err x) same is not holds = inl (unmoved old new (not ∙ same))

pub fails-same : (making : Making) (e : Entry) (old new : Moments) → new ≡ old → FailsToOpen making e old new
fails-same Old e old new same = same
fails-same May e old new same = inl same
fails-same New e old new same = inl same

pub sync-same : (way : Option Way) (o : Opening) (old new : Moments) → new ≡ old → FailsToSync way o old new
sync-same None o old new same = same
sync-same (Some way) o old new same = inl same

pub sync-spoils : (way : Option Way) (x : Way) (o : Opening) (old new : Moments) → way ≡ Some x → MayDo (ChangesBy unsynced o) old new → FailsToSync way o old new
sync-spoils way x o old new is may = subst (λ (y : Option Way). FailsToSync y o old new) (sym is) may

pub renames-next : (cs : Calls) (v u : Vec ℕ) (from to : List ℕ) → v.items ≡ from → u.items ≡ to → CanRename (entry_of from) (entry_of to) (world_of cs) → Renames (entry_of from) (entry_of to) (world_of cs) (step (next_of cs) (Renamed v u) (world_of cs))
renames-next cs v u from to p q can =
    subst (λ (bs : List ℕ). Renames (entry_of from) (entry_of to) (world_of cs) (renames bs u.items (world_of cs))) (sym p) (subst (λ (bs : List ℕ). Renames (entry_of from) (entry_of to) (world_of cs) (renames from bs (world_of cs))) (sym q) (renames-by from to (world_of cs) can))

pub removes-next : (cs : Calls) (v : Vec ℕ) (path : List ℕ) → v.items ≡ path → Removes (entry_of path) (world_of cs) (step (next_of cs) (Removed v) (world_of cs))
removes-next cs v path p = subst (λ (bs : List ℕ). Removes (entry_of path) (world_of cs) (removes bs (world_of cs))) (sym p) (removes-by path (world_of cs))

pub makes-noted : (cs : Calls) (v : Vec ℕ) (path : List ℕ) (way : Way) → v.items ≡ path → (world_of cs).names (entry_of path) ≡ None → MakesOpen (entry_of path) (next_of cs) (next_of cs) (Some way) (world_of cs) (step (next_of cs) (Made v way) (world_of cs))
makes-noted cs v path way p none = subst (λ (bs : List ℕ). MakesOpen (entry_of path) (next_of cs) (next_of cs) (Some way) (world_of cs) (makes (next_of cs) bs way (world_of cs))) (sym p) (makes-next cs path way none)

pub made-noted : (old new : Calls) (v : Vec ℕ) (path : List ℕ) (way : Way) (d i : ℕ) → IsThen (Made v way) old new → v.items ≡ path → (world_of old).names (entry_of path) ≡ None → d ≡ next_of old → i ≡ d
    → Does (MakesOpen (entry_of path) d i (Some way)) (moments_of old) (moments_of new)
made-noted old new v path way d i is same none at own =
    subst (λ (x : ℕ). Does (MakesOpen (entry_of path) d x (Some way)) (moments_of old) (moments_of new)) (sym (own ∙ at))
    (subst (λ (x : ℕ). Does (MakesOpen (entry_of path) x (next_of old) (Some way)) (moments_of old) (moments_of new)) (sym at)
    (noted (MakesOpen (entry_of path) (next_of old) (next_of old) (Some way)) (Made v way) old new is (makes-noted old v path way same none)))

pub found-noted : (old new : Calls) (d file : ℕ) (way : Option Way) → IsThen (Opened way file) old new → file < next_of old → d ≡ next_of old → Does (Finds d file way) (moments_of old) (moments_of new)
found-noted old new d file way is less at = subst (λ (x : ℕ). Does (Finds x file way) (moments_of old) (moments_of new)) (sym at)
    (noted (Finds (next_of old) file way) (Opened way file) old new is (finds-next old file way less))

next-above : (cs : Calls) → 0 < next_of cs
next-above Start = omega arith
next-above (Then' c p rest) = omega arith

pub found-after : {E : Type 0} (old mid new : Calls) (r : Result ℕ E) → mid ≡ old → (0 < next_of mid → IfOk r (λ d. Does (Finds d 0 None) (moments_of mid) (moments_of new))) → IfOk r (λ d. Does (Finds d 0 None) (moments_of old) (moments_of new))
found-after old mid new r same found = subst (λ (x : Calls). IfOk r (λ d. Does (Finds d 0 None) (moments_of x) (moments_of new))) same (found (next-above mid))

pub opened-old : {E : Type 0} (old mid new : Calls) (e : Entry) (file : ℕ) (way : Way) (r : Result OpenedFile E) → mid ≡ old → Some file ≡ (world_of mid).names e
    → (file < next_of mid → IfOk r (λ o. Does (Finds o.descriptor o.found.file (Some way)) (moments_of mid) (moments_of new))) → IfOk r (λ o. Does (Finds o.descriptor o.found.file (Some way)) (moments_of old) (moments_of new))
opened-old old mid new e file way r same leads found =
    subst (λ (x : Calls). IfOk r (λ o. Does (Finds o.descriptor o.found.file (Some way)) (moments_of x) (moments_of new))) same (found (file-below mid e file (sym leads)))

-- the file was opened, however that was asked for
pub opens-old : {E : Type 0} (old mid new : Calls) (making : Making) (path s : List ℕ) (file : ℕ) (way : Way) (named : Option ℕ) (r : Result OpenedFile E) → making ≡ Old → mid ≡ old → named ≡ (world_of mid).names (entry_of s) → named ≡ Some file
    → (file < next_of mid → IfOk r (λ o. Does (Finds o.descriptor o.found.file (Some way)) (moments_of mid) (moments_of new))) → IfOk r (λ o. Does (Opens making (entry_of path) o.descriptor o.found.file (Some way)) (moments_of old) (moments_of new))
opens-old old mid new making path s file way named r is same leads at found =
    subst (λ (m : Making). IfOk r (λ o. Does (Opens m (entry_of path) o.descriptor o.found.file (Some way)) (moments_of old) (moments_of new))) (sym is)
    (opened-old old mid new (entry_of s) file way r same (sym at ∙ leads) found)

pub may-find : {E : Type 0} (old new : Moments) (e : Entry) (way : Way) (r : Result OpenedFile E) → IfOk r (λ o. Does (Finds o.descriptor o.found.file (Some way)) old new) → IfOk r (λ o. Does (Opens May e o.descriptor o.found.file (Some way)) old new)
may-find old new e way (Ok o) found = record { past = found.past; does = inl found.does }
may-find old new e way (Err x) found = found

pub may-make : {E : Type 0} (old new : Moments) (e : Entry) (way : Way) (r : Result OpenedFile E) → IfOk r (λ o. Does (MakesOpen e o.descriptor o.found.file (Some way)) old new) → IfOk r (λ o. Does (Opens May e o.descriptor o.found.file (Some way)) old new)
may-make old new e way (Ok o) made = record { past = made.past; does = behind e o.descriptor o.found.file (Some way) old.now new.now made.does }
may-make old new e way (Err x) made = made

pub kind-ok : {E : Type 0} (cs : Calls) (r : Result OpenedFile E) → IfOk r (λ o. o.found.kind ≡ Regular) → IfOk r (λ o. ((world_of cs).files o.found.file).kind ≡ o.found.kind)
kind-ok cs (Ok o) is = kinds cs o.found.file ∙ sym is
kind-ok cs (Err x) is = is

-- ---- reads and writes at a place

writes-to : (d place : ℕ) (v : Vec ℕ) (o : Opening) (w : World) → w.opened d ≡ Some o → ChangesBy (written_at place v.items) o w (changes d (Written place v) o w)
writes-to d place v o w is = record { file = here o.file _ w.files; files = λ k not. elsewhere o.file k _ w.files not; opened = λ k. as-it-was d k _ w.opened is; names = record { names = λ e. refl; earlier = λ e. refl } }

pub writes-next : (cs : Calls) (d place : ℕ) (v : Vec ℕ) (bytes : List ℕ) (o : Opening) → (world_of cs).opened d ≡ Some o → v.items ≡ bytes → ChangesBy (written_at place bytes) o (world_of cs) (step (next_of cs) (On d (Written place v)) (world_of cs))
writes-next cs d place v bytes o is same = subst (λ (bs : List ℕ). ChangesBy (written_at place bs) o (world_of cs) (step (next_of cs) (On d (Written place v)) (world_of cs))) same
    (at-opening (ChangesBy (written_at place v.items) o) d (Written place v) o (world_of cs) is (writes-to d place v o (world_of cs) is))

abbrev the-none : List ℕ
the-none = []

drop-none : (n : ℕ) → drop n the-none ≡ the-none
drop-none zero = refl
drop-none (suc n) = refl

abbrev moved : Opening → ℕ → List ℕ → Opening
moved o place coming = record o { place = place; coming = coming }

placed-is : (o : Opening) (p n : ℕ) → p ≡ o.place + n → o.coming ≡ [] → record o { place = p } ≡ taken_of n o
placed-is o p n at none = ap (λ (x : ℕ). moved o x o.coming) at ∙ ap (λ (x : List ℕ). moved o (o.place + n) x) (none ∙ (sym (drop-none n) ∙ ap (λ (x : List ℕ). drop n x) (sym none)))

reads-to : (d p n : ℕ) (o : Opening) (w : World) → p ≡ o.place + n → o.coming ≡ [] → Reads d o n w (changes d (Placed p) o w)
reads-to d p n o w at none = record {
  opened = here d _ w.opened ∙ ap (λ (x : Opening). Some x) (placed-is o p n at none);
  others = λ k not. elsewhere d k _ w.opened not;
  names = record { names = λ e. refl; earlier = λ e. refl };
  files = λ k. as-it-was o.file k _ w.files refl;
}

unread-some : (x : Option Opening) (o : Opening) → IsUnread x → x ≡ Some o → o.coming ≡ []
unread-some x o none is = subst IsUnread is none

pub reads-next : (cs : Calls) (d p n : ℕ) (o : Opening) → (world_of cs).opened d ≡ Some o → p ≡ o.place + n → Reads d o n (world_of cs) (step (next_of cs) (On d (Placed p)) (world_of cs))
reads-next cs d p n o is at = at-opening (λ w u. Reads d o n w u) d (Placed p) o (world_of cs) is (reads-to d p n o (world_of cs) at (unread-some _ o (unread cs d) is))

pub opens-may : {E : Type 0} (old mid new : Calls) (making : Making) (path s : List ℕ) (file : ℕ) (way : Way) (named : Option ℕ) (r : Result OpenedFile E) → making ≡ May → mid ≡ old → named ≡ (world_of mid).names (entry_of s) → named ≡ Some file
    → (file < next_of mid → IfOk r (λ o. Does (Finds o.descriptor o.found.file (Some way)) (moments_of mid) (moments_of new))) → IfOk r (λ o. Does (Opens making (entry_of path) o.descriptor o.found.file (Some way)) (moments_of old) (moments_of new))
opens-may old mid new making path s file way named r is same leads at found =
    subst (λ (m : Making). IfOk r (λ o. Does (Opens m (entry_of path) o.descriptor o.found.file (Some way)) (moments_of old) (moments_of new))) (sym is)
    (may-find (moments_of old) (moments_of new) (entry_of path) way r (opened-old old mid new (entry_of s) file way r same (sym at ∙ leads) found))

-- ---- a sync that failed

sync-some : (way : Option Way) (o : Opening) (old new : Moments) → is_some way ≡ true → MayDo (ChangesBy unsynced o) old new → FailsToSync way o old new
sync-some None o old new there may = absurd (false≢true there)
sync-some (Some way) o old new there may = may

pub way-of : (x : Option Opening) (o : Opening) (v : View) → option_map view_of x ≡ Some v → x ≡ Some o → view_of o ≡ v
way-of x o v seen is = same-view (view_of o) v (sym (ap (option_map view_of) is) ∙ seen)

pub sync-fails : {T E : Type 0} (old mid new : Calls) (d : ℕ) (o : Opening) (v : View) (b : Bool) (r : Result T E) → mid ≡ old → (world_of old).opened d ≡ Some o → option_map view_of ((world_of mid).opened d) ≡ Some v → b ≡ is_some v.way → b ≡ true
    → OnOk r (IsThen (On d Unsynced) mid new) → OnErr r (new ≡ mid) → FailsToSync o.way o (moments_of old) (moments_of new)
sync-fails old mid new d o v b r same is seen asked there done failed =
    let shown = way-of ((world_of mid).opened d) o v seen (ap (λ (x : Calls). (world_of x).opened d) same ∙ is) in
    sync-some o.way o (moments_of old) (moments_of new) (ap (λ (x : View). is_some x.way) shown ∙ (sym asked ∙ there))
    (may-noted (ChangesBy unsynced o) (On d Unsynced) old mid new r same done failed (unsyncs-next old d o is))
