-- Numbers, names and values at them, and what holds of every list of calls.
use Rattle.std.proofs.Common.{◌≡◌, ◌≢◌, ⊎_elim, ℕ, ◌+◌, ◌<◌, ◌==◌, ◌&&◌, List, [], ◌∷◌, Bool, true, false, Option, None, Some, refl, sym, ap, ◌∙◌, subst, if◌then◌else◌, nat_lt, arith}
use Rattle.std.proofs.lemmas.Bool.{cases_eq, false≢true}
use Rattle.std.proofs.lemmas.Bool.Decides.{Decides-eqb, Decides-ltb}
use Rattle.std.proofs.lemmas.Slice.Eq.{bytes_eq-Decides}
use Rattle.std.specs.Bool.{Decides}
use Rattle.std.specs.Option.{option_map}
use Rattle.std.specs.Str.{bytes_eq}
use Rattle.file_system.specs.Calls.{appended, closed, opening}
use Rattle.file_system.specs.World.{Entry, FileState, Opening, World, is_regular}
use Rattle.file_system.specs.declared.system.Kind.TheVariants.{Regular}
use Rattle.file_system.specs.declared.system.Way.{Way}
use Rattle.memory_files.specs.Memory.{at_start, changed_by, changes, entry_of, first_of, is_append, is_at, leads_to, next_of, opened_by, opens, opens_to, step, syncs, where_open, with_at, with_name, world_of}
use Rattle.memory_files.specs.declared.calls.Call.{Call}
use Rattle.memory_files.specs.declared.calls.Call.TheVariants.{Opened, Made, Added, On, Synced, Renamed, Removed, Lost}
use Rattle.memory_files.specs.declared.calls.Calls.{Calls}
use Rattle.memory_files.specs.declared.calls.Calls.TheVariants.{Start, Then'}
use Rattle.memory_files.specs.declared.calls.Change.{Change}
use Rattle.memory_files.specs.declared.calls.Change.TheVariants.{Closed, Placed, Put, Written, Cut, Unsynced}

-- ---- tests

pub false-unless : (b : Bool) (P : Type 0) → Decides b P → (P → ⊥) → b ≡ false
false-unless true P d not = absurd (not (d.0 refl))
false-unless false P d not = refl

pub eq-self : (n : ℕ) → (n == n) ≡ true
eq-self n = (Decides-eqb n n).1 refl

pub eq-other : (k n : ℕ) → k ≢ n → (k == n) ≡ false
eq-other k n not = false-unless (k == n) (k ≡ n) (Decides-eqb k n) not

if-both : (a b : Bool) → (if a then b else false) ≡ true → (a ≡ true) × (b ≡ true)
if-both true b h = (refl, h)
if-both false b h = absurd (false≢true h)

pub and-second : (a b : Bool) → (a && b) ≡ true → b ≡ true
and-second true b h = h
and-second false b h = absurd (false≢true h)

abbrev entry_in : ℕ → List ℕ → Entry
entry_in folder name = record { folder = folder; name = name }

at-is : (path : List ℕ) (e : Entry) → is_at path e ≡ true → e ≡ entry_of path
at-is path e h =
    let both = if-both (e.folder == 0) (bytes_eq path e.name) h in
    ap (λ (f : ℕ). entry_in f e.name) ((Decides-eqb e.folder 0).0 both.0) ∙ ap (λ (n : List ℕ). entry_in 0 n) (sym ((bytes_eq-Decides path e.name).0 both.1))

pub at-self : (path : List ℕ) → is_at path (entry_of path) ≡ true
at-self path = (bytes_eq-Decides path path).1 refl

pub at-none : (path : List ℕ) (e : Entry) → e ≢ entry_of path → is_at path e ≡ false
at-none path e not = false-unless (is_at path e) (e ≡ entry_of path) (at-is path e, λ same. ap (is_at path) same ∙ at-self path) not

-- ---- values at numbers and names

pub here : {X : Type 0} (n : ℕ) (x : X) (f : ℕ → X) → with_at n x f n ≡ x
unfolding with_at
here n x f = rw (eq-self n)

pub elsewhere : {X : Type 0} (n k : ℕ) (x : X) (f : ℕ → X) → k ≢ n → with_at n x f k ≡ f k
unfolding with_at
elsewhere n k x f not = rw (eq-other k n not)

-- the value that is there
pub as-it-was : {X : Type 0} (n k : ℕ) (x : X) (f : ℕ → X) → f n ≡ x → with_at n x f k ≡ f k
as-it-was n k x f is = ⊎_elim
    (λ (h : k ≡ n). subst (λ (j : ℕ). with_at n x f j ≡ f j) (sym h) (here n x f ∙ sym is))
    (λ (h : k ≡ n → ⊥). elsewhere n k x f h)
    (cases_eq k n)

pub name-here : {X : Type 0} (path : List ℕ) (x : X) (f : Entry → X) → with_name path x f (entry_of path) ≡ x
unfolding with_name
name-here path x f = rw (at-self path)

pub name-elsewhere : {X : Type 0} (path : List ℕ) (e : Entry) (x : X) (f : Entry → X) → e ≢ entry_of path → with_name path x f e ≡ f e
unfolding with_name
name-elsewhere path e x f not = rw (at-none path e not)

-- by the test that the code makes
pub name-by : {X : Type 0} (path target : List ℕ) (x : X) (f : Entry → X) → with_name path x f (entry_of target) ≡ (if bytes_eq path target then x else f (entry_of target))
unfolding with_name
name-by path target x f = refl

pub opens-is : (n file : ℕ) (way : Option Way) (w : World) → file < n → opens n file way w ≡ opens_to n file way w
opens-is n file way w less = rw ((Decides-ltb file n).1 less)

-- ---- P of a value at a number, from P of both

pub at-either : {X : Type 0} (P : ℕ → X → Type 0) (n k : ℕ) (x : X) (f : ℕ → X) → (k ≡ n → P k x) → P k (f k) → P k (with_at n x f k)
at-either P n k x f new old = ⊎_elim
    (λ (h : k ≡ n). subst (λ (j : ℕ). P k (with_at n x f j)) (sym h) (subst (P k) (sym (here n x f)) (new h)))
    (λ (h : k ≡ n → ⊥). subst (P k) (sym (elsewhere n k x f h)) old)
    (cases_eq k n)

pub either : {X : Type 0} (P : X → Type 0) (b : Bool) (x y : X) → P x → P y → P (if b then x else y)
either P true x y p q = p
either P false x y p q = q

pub name-either : {X : Type 0} (P : X → Type 0) (path : List ℕ) (e : Entry) (x : X) (f : Entry → X) → P x → P (f e) → P (with_name path x f e)
unfolding with_name
name-either P path e x f new old = either P (is_at path e) x (f e) new old

-- ---- every file is a regular one

abbrev IsRegular : FileState → Type 0
IsRegular f = f.kind ≡ Regular

appended-kind : (bytes : List ℕ) (f : FileState) → IsRegular f → IsRegular (appended bytes f)
appended-kind bytes f is = either IsRegular (is_regular f.kind) _ _ is is

changed-kind : (change : Change) (way : Option Way) (f : FileState) → IsRegular f → IsRegular (changed_by change way f)
changed-kind Closed way f is = is
changed-kind (Placed place) way f is = is
changed-kind (Put bytes) way f is = either IsRegular (is_append way) _ _ (appended-kind bytes.items f is) is
changed-kind (Written place bytes) way f is = either IsRegular (is_regular f.kind) _ _ is is
changed-kind Cut way f is = is
changed-kind Unsynced way f is = is

kinds-on : (d : ℕ) (change : Change) (x : Option Opening) (w : World) → ((i : ℕ) → IsRegular (w.files i)) → (i : ℕ) → IsRegular ((where_open (changes d change) x w).files i)
kinds-on d change None w all i = all i
kinds-on d change (Some o) w all i = at-either (λ k f. IsRegular f) o.file i _ w.files (λ h. changed-kind change o.way (w.files o.file) (all o.file)) (all i)

kinds-way : (way : Option Way) (o : Opening) (w : World) → ((i : ℕ) → IsRegular (w.files i)) → (i : ℕ) → IsRegular ((syncs way o w).files i)
kinds-way None o w all i = all i
kinds-way (Some way) o w all i = at-either (λ k f. IsRegular f) o.file i _ w.files (λ h. all o.file) (all i)

kinds-synced : (x : Option Opening) (w : World) → ((i : ℕ) → IsRegular (w.files i)) → (i : ℕ) → IsRegular ((where_open (λ o. syncs o.way o) x w).files i)
kinds-synced None w all i = all i
kinds-synced (Some o) w all i = kinds-way o.way o w all i

kinds-step : (c : Call) (n : ℕ) (w : World) → ((i : ℕ) → IsRegular (w.files i)) → (i : ℕ) → IsRegular ((step n c w).files i)
kinds-step (Opened way file) n w all i = either (λ (v : World). IsRegular (v.files i)) (nat_lt file n) _ _ (all i) (all i)
kinds-step (Made path way) n w all i = at-either (λ k f. IsRegular f) n i _ w.files (λ h. refl) (all i)
kinds-step (Added path bytes) n w all i = at-either (λ k f. IsRegular f) n i _ w.files (λ h. refl) (all i)
kinds-step (On d change) n w all i = kinds-on d change (w.opened d) w all i
kinds-step (Synced d) n w all i = kinds-synced (w.opened d) w all i
kinds-step (Renamed from to) n w all i = all i
kinds-step (Removed path) n w all i = all i
kinds-step (Lost back fill) n w all i = all i

pub kinds : (cs : Calls) (i : ℕ) → ((world_of cs).files i).kind ≡ Regular
kinds Start i = refl
kinds (Then' c p rest) i = kinds-step c (next_of rest) (world_of rest) (kinds rest) i

-- ---- every number is below the next one

abbrev pub IsBelow : ℕ → Option ℕ → Type 0
IsBelow n None = Unit {0}
IsBelow n (Some i) = i < n

abbrev pub AllBelow : ℕ → List (Option ℕ) → Type 0
AllBelow n [] = Unit {0}
AllBelow n (x ∷ xs) = IsBelow n x × AllBelow n xs

abbrev pub HasBelow : ℕ → ℕ → Option Opening → Type 0
HasBelow n d None = Unit {0}
HasBelow n d (Some o) = (d < n) × (o.file < n)

pub record Below (n : ℕ) (w : World) : Type 0 where
  pub named : (e : Entry) → IsBelow n (w.names e)
  pub earlier : (e : Entry) → AllBelow n (w.earlier e)
  pub opened : (d : ℕ) → HasBelow n d (w.opened d)

more : (n : ℕ) (x : Option ℕ) → IsBelow n x → IsBelow (n + 1) x
more n None h = tt
more n (Some i) h = omega (arith, h)

all-more : (n : ℕ) (xs : List (Option ℕ)) → AllBelow n xs → AllBelow (n + 1) xs
all-more n [] h = tt
all-more n (x ∷ xs) h = (more n x h.0, all-more n xs h.1)

has-more : (n d : ℕ) (x : Option Opening) → HasBelow n d x → HasBelow (n + 1) d x
has-more n d None h = tt
has-more n d (Some o) h = (omega (arith, h.0), omega (arith, h.1))

first-below : (n : ℕ) (x : Option ℕ) (xs : List (Option ℕ)) → IsBelow n x → AllBelow n xs → IsBelow n (first_of x xs)
first-below n x [] h hs = h
first-below n x (y ∷ ys) h hs = first-below n y ys hs.0 hs.1

leads-below : (n : ℕ) (back : Bool) (e : Entry) (w : World) → Below n w → IsBelow n (leads_to back e w)
leads-below n false e w b = b.named e
leads-below n true e w b = first-below n (w.names e) (w.earlier e) (b.named e) (b.earlier e)

below-more : (n : ℕ) (w : World) → Below n w → Below (n + 1) w
below-more n w b = record { named = λ e. more n _ (b.named e); earlier = λ e. all-more n _ (b.earlier e); opened = λ d. has-more n d _ (b.opened d) }

has-new : (n file d : ℕ) (way : Option Way) (coming : List ℕ) → file < n + 1 → d ≡ n → HasBelow (n + 1) d (Some (opening file way coming))
has-new n file d way coming less is = (omega (arith, is), less)

below-opens : (n file : ℕ) (way : Option Way) (w : World) (b : Bool) → nat_lt file n ≡ b → Below n w → Below (n + 1) (if b then opens_to n file way w else w)
below-opens n file way w false is b = below-more n w b
below-opens n file way w true is b =
    let less = (Decides-ltb file n).0 is in
    record {
      named = λ e. more n _ (b.named e);
      earlier = λ e. all-more n _ (b.earlier e);
      opened = λ d. at-either (λ k x. HasBelow (n + 1) k x) n d _ w.opened (λ h. has-new n file d way [] (omega (arith, less)) h) (has-more n d _ (b.opened d));
    }

below-changed : (n d k : ℕ) (change : Change) (o : Opening) → HasBelow n d (Some o) → k ≡ d → HasBelow (n + 1) k (Some (opened_by change o))
below-changed n d k Closed o h is = (omega (arith, is, h.0), omega (arith, h.1))
below-changed n d k (Placed place) o h is = (omega (arith, is, h.0), omega (arith, h.1))
below-changed n d k (Put bytes) o h is = (omega (arith, is, h.0), omega (arith, h.1))
below-changed n d k (Written place bytes) o h is = (omega (arith, is, h.0), omega (arith, h.1))
below-changed n d k Cut o h is = (omega (arith, is, h.0), omega (arith, h.1))
below-changed n d k Unsynced o h is = (omega (arith, is, h.0), omega (arith, h.1))

below-on : (n d : ℕ) (change : Change) (x : Option Opening) (w : World) → HasBelow n d x → Below n w → Below (n + 1) (where_open (changes d change) x w)
below-on n d change None w h b = below-more n w b
below-on n d change (Some o) w h b = record {
  named = λ e. more n _ (b.named e);
  earlier = λ e. all-more n _ (b.earlier e);
  opened = λ k. at-either (λ j x. HasBelow (n + 1) j x) d k _ w.opened (λ is. below-changed n d k change o h is) (has-more n k _ (b.opened k));
}

below-way : (n : ℕ) (way : Option Way) (o : Opening) (w : World) → Below n w → Below (n + 1) (syncs way o w)
below-way n None o w b = record {
  named = λ e. more n _ (b.named e);
  earlier = λ e. either (AllBelow (n + 1)) (o.file == e.folder) _ _ tt (all-more n _ (b.earlier e));
  opened = λ d. has-more n d _ (b.opened d);
}
below-way n (Some way) o w b = record { named = λ e. more n _ (b.named e); earlier = λ e. all-more n _ (b.earlier e); opened = λ d. has-more n d _ (b.opened d) }

below-synced : (n : ℕ) (x : Option Opening) (w : World) → Below n w → Below (n + 1) (where_open (λ o. syncs o.way o) x w)
below-synced n None w b = below-more n w b
below-synced n (Some o) w b = below-way n o.way o w b

shut-below : (n d : ℕ) (x : Option Opening) → HasBelow n d x → HasBelow n d (option_map closed x)
shut-below n d None h = tt
shut-below n d (Some o) h = h

below-step : (c : Call) (n : ℕ) (w : World) → Below n w → Below (n + 1) (step n c w)
below-step (Opened way file) n w b = below-opens n file way w (nat_lt file n) refl b
below-step (Made path way) n w b = record {
  named = λ e. name-either (IsBelow (n + 1)) path.items e _ w.names (omega arith) (more n _ (b.named e));
  earlier = λ e. name-either (AllBelow (n + 1)) path.items e _ w.earlier (more n _ (b.named (entry_of path.items)), all-more n _ (b.earlier (entry_of path.items))) (all-more n _ (b.earlier e));
  opened = λ d. at-either (λ k x. HasBelow (n + 1) k x) n d _ w.opened (λ h. has-new n n d (Some way) [] (omega arith) h) (has-more n d _ (b.opened d));
}
below-step (Added path bytes) n w b = record {
  named = λ e. name-either (IsBelow (n + 1)) path.items e _ w.names (omega arith) (more n _ (b.named e));
  earlier = λ e. name-either (AllBelow (n + 1)) path.items e _ w.earlier tt (all-more n _ (b.earlier e));
  opened = λ d. has-more n d _ (b.opened d);
}
below-step (On d change) n w b = below-on n d change (w.opened d) w (b.opened d) b
below-step (Synced d) n w b = below-synced n (w.opened d) w b
below-step (Renamed from to) n w b = record {
  named = λ e. name-either (IsBelow (n + 1)) to.items e _ _ (more n _ (b.named (entry_of from.items))) (name-either (IsBelow (n + 1)) from.items e _ w.names tt (more n _ (b.named e)));
  earlier = λ e. name-either (AllBelow (n + 1)) to.items e _ _ (more n _ (b.named (entry_of to.items)), all-more n _ (b.earlier (entry_of to.items)))
      (name-either (AllBelow (n + 1)) from.items e _ w.earlier (more n _ (b.named (entry_of from.items)), all-more n _ (b.earlier (entry_of from.items))) (all-more n _ (b.earlier e)));
  opened = λ d. has-more n d _ (b.opened d);
}
below-step (Removed path) n w b = record {
  named = λ e. name-either (IsBelow (n + 1)) path.items e _ w.names tt (more n _ (b.named e));
  earlier = λ e. name-either (AllBelow (n + 1)) path.items e _ w.earlier (more n _ (b.named (entry_of path.items)), all-more n _ (b.earlier (entry_of path.items))) (all-more n _ (b.earlier e));
  opened = λ d. has-more n d _ (b.opened d);
}
below-step (Lost back fill) n w b = record {
  named = λ e. more n _ (leads-below n back e w b);
  earlier = λ e. tt;
  opened = λ d. has-more n d _ (shut-below n d _ (b.opened d));
}

below-start : Below 3 at_start
below-start = record {
  named = λ e. tt;
  earlier = λ e. tt;
  opened = λ d. at-either (λ k x. HasBelow 3 k x) 1 d _ _ (λ h. (omega (arith, h), omega arith)) (at-either (λ k x. HasBelow 3 k x) 2 d _ _ (λ h. (omega (arith, h), omega arith)) tt);
}

pub below : (cs : Calls) → Below (next_of cs) (world_of cs)
below Start = below-start
below (Then' c p rest) = below-step c (next_of rest) (world_of rest) (below rest)

-- ---- nothing is still to come: what is read is in the files

abbrev pub IsUnread : Option Opening → Type 0
IsUnread None = Unit {0}
IsUnread (Some o) = o.coming ≡ []

unread-by : (change : Change) (o : Opening) → IsUnread (Some o) → IsUnread (Some (opened_by change o))
unread-by Closed o h = h
unread-by (Placed place) o h = h
unread-by (Put bytes) o h = h
unread-by (Written place bytes) o h = h
unread-by Cut o h = h
unread-by Unsynced o h = h

unread-on : (d : ℕ) (change : Change) (x : Option Opening) (w : World) → IsUnread x → ((k : ℕ) → IsUnread (w.opened k)) → (k : ℕ) → IsUnread ((where_open (changes d change) x w).opened k)
unread-on d change None w own all k = all k
unread-on d change (Some o) w own all k = at-either (λ j x. IsUnread x) d k _ w.opened (λ h. unread-by change o own) (all k)

unread-way : (way : Option Way) (o : Opening) (w : World) → ((k : ℕ) → IsUnread (w.opened k)) → (k : ℕ) → IsUnread ((syncs way o w).opened k)
unread-way None o w all k = all k
unread-way (Some way) o w all k = all k

unread-synced : (x : Option Opening) (w : World) → ((k : ℕ) → IsUnread (w.opened k)) → (k : ℕ) → IsUnread ((where_open (λ o. syncs o.way o) x w).opened k)
unread-synced None w all k = all k
unread-synced (Some o) w all k = unread-way o.way o w all k

shut-unread : (x : Option Opening) → IsUnread x → IsUnread (option_map closed x)
shut-unread None h = tt
shut-unread (Some o) h = h

unread-step : (c : Call) (n : ℕ) (w : World) → ((k : ℕ) → IsUnread (w.opened k)) → (k : ℕ) → IsUnread ((step n c w).opened k)
unread-step (Opened way file) n w all k = either (λ (v : World). IsUnread (v.opened k)) (nat_lt file n) _ _ (at-either (λ j x. IsUnread x) n k _ w.opened (λ h. refl) (all k)) (all k)
unread-step (Made path way) n w all k = at-either (λ j x. IsUnread x) n k _ w.opened (λ h. refl) (all k)
unread-step (Added path bytes) n w all k = all k
unread-step (On d change) n w all k = unread-on d change (w.opened d) w (all d) all k
unread-step (Synced d) n w all k = unread-synced (w.opened d) w all k
unread-step (Renamed from to) n w all k = all k
unread-step (Removed path) n w all k = all k
unread-step (Lost back fill) n w all k = shut-unread (w.opened k) (all k)

pub unread : (cs : Calls) (k : ℕ) → IsUnread ((world_of cs).opened k)
unread Start k = at-either (λ j x. IsUnread x) 1 k _ _ (λ h. refl) (at-either (λ j x. IsUnread x) 2 k _ _ (λ h. refl) tt)
unread (Then' c p rest) k = unread-step c (next_of rest) (world_of rest) (unread rest) k
