-- What a host keeps, over calls of its system.
use Rattle.std.proofs.Common.{◌≡◌, ◌≢◌, ℕ, List, [], ◌++◌, Bool, true, false, Option, None, Some, Result, Ok, Err, IfSome, IsErr, IsTrue, refl, sym, ap, ◌∙◌, subst, string_bytes, is_some, length}
use Rattle.std.proofs.lemmas.Bool.{false≢true}
use Rattle.std.specs.Option.{option_map}
use Rattle.file_system.specs.World.{Entry, Moments, Opening, World, put_at, put_in}
use Rattle.file_system.specs.declared.system.Way.{Way}
use Rattle.file_system.specs.declared.system.Way.TheVariants.{Append, Place, Read, Stream}
use Rattle.file_saving.specs.Saving.{IsUnfinished, KeepsPut, KeepsPutBut, KeepsUses, Use, use_at, use_of}
use Rattle.file_saving.specs.declared.saving.Saving.{Saving}
use Rattle.file_roles.specs.Open.{Each, IsElse, IsOpened, Leaves, Writes, use_in}
use Rattle.file_roles.specs.declared.files.Used.{Used}
use Rattle.file_roles.specs.declared.table.Table.{Table}
use Rattle.file_host.specs.Stands.{AreOpen, IsApartFrom, IsFor, IsWritten, Stands, was_open}
use Rattle.file_host.specs.Told.{ended_at, name_in, put_through, saved_if, saved_state, state_with}
use Rattle.loom_host.specs.Outside.{Attached, IsFresh, RoleState, ends, puts}
use Rattle.loom_host.specs.declared.outside.Failed.{Failed}
use Rattle.long_names.specs.Counting.{counted}
use Rattle.std.specs.Global.{Vec}
use Rattle.file_host.specs.declared.told.Told.{Told}

-- ---- what is open stays open

for-over : (way : Way) (u : Used) (old new : Moments) → KeepsUses old new → IsFor way old.now u → IsFor way new.now u
for-over way u old new keeps f = record { way = f.way; used = keeps u.descriptor (use_in u) f.used }

pub open-over : (t : Table) (old new : Moments) → KeepsUses old new → AreOpen t old.now → AreOpen t new.now
open-over t old new keeps are = record {
  image = λ u is. for-over Read u old new keeps (are.image u is);
  events = λ u is. for-over Read u old new keeps (are.events u is);
  work = λ u is. for-over Place u old new keeps (are.work u is);
  display = λ u is. for-over Append u old new keeps (are.display u is);
  output = for-over Stream t.output old new keeps are.output;
  errors = for-over Stream t.errors old new keeps are.errors;
}

known-by : (x y : Option Use) → ((u : Use) → x ≡ Some u → y ≡ Some u) → is_some x ≡ true → is_some y ≡ true
known-by None y keeps is = absurd (false≢true is)
known-by (Some u) y keeps is = ap is_some (keeps u refl)

pub apart-over : (t : Table) (old new : Moments) (d : ℕ) → KeepsUses old new → IsApartFrom t old.now d → IsApartFrom t new.now d
apart-over t old new d keeps a = record { known = known-by (use_at d old.now) (use_at d new.now) (keeps d) a.known; work = a.work; display = a.display; output = a.output; errors = a.errors }

-- ---- and so does Saved

pub stands-over : (entry : List ℕ → Entry) (descriptor : Option ℕ) (ended : Bool) (t : Table) (saving : Option Saving) (P : ℕ → ℕ → Type 0) (old new : Moments)
    → ((s : Saving) → saving ≡ Some s → P s.descriptor s.file) → Leaves P old new → Stands entry descriptor ended t saving old.now → Stands entry descriptor ended t saving new.now
stands-over entry descriptor ended t saving P old new safe leaves st = record {
  open_files = open-over t old new leaves.puts.uses st.open_files;
  apart = λ d is. apart-over t old new d leaves.puts.uses (st.apart d is);
  saved = λ s is. record {
    unfinished = subst (λ (bytes : List ℕ). IsUnfinished (entry (string_bytes s.part)) s.descriptor s.file bytes new.now) (sym (leaves.puts.is s.descriptor))
        (leaves.saving (entry (string_bytes s.part)) s.descriptor s.file (put_at s.descriptor old.now) (safe s is) (st.saved s is).unfinished);
    own = (st.saved s is).own;
    open_still = (st.saved s is).open_still;
    alone = (st.saved s is).alone;
  };
}

pub stands-writes : (entry : List ℕ → Entry) (descriptor : Option ℕ) (ended : Bool) (t : Table) (saving : Option Saving) (d i : ℕ) (old new : Moments)
    → ((s : Saving) → saving ≡ Some s → (s.descriptor ≢ d) × (s.file ≢ i)) → Writes d i old new → Stands entry descriptor ended t saving old.now → Stands entry descriptor ended t saving new.now
stands-writes entry descriptor ended t saving d i old new safe writes st = record {
  open_files = open-over t old new writes.others.uses st.open_files;
  apart = λ k is. apart-over t old new k writes.others.uses (st.apart k is);
  saved = λ s is. record {
    unfinished = subst (λ (kept : List ℕ). IsUnfinished (entry (string_bytes s.part)) s.descriptor s.file kept new.now) (sym (writes.others.is s.descriptor (safe s is).0))
        (writes.saving (entry (string_bytes s.part)) s.descriptor s.file (put_at s.descriptor old.now) (safe s is).0 (safe s is).1 (st.saved s is).unfinished);
    own = (st.saved s is).own;
    open_still = (st.saved s is).open_still;
    alone = (st.saved s is).alone;
  };
}

-- ---- what is told

put-over : (x : Option ℕ) (w v : World) → ((d : ℕ) → x ≡ Some d → put_at d v ≡ put_at d w) → put_through x v ≡ put_through x w
put-over None w v keeps = refl
put-over (Some d) w v keeps = keeps d refl

pub told-over : (told : Told) (old new : Moments) → KeepsPut old new → saved_state told new.now ≡ saved_state told old.now
told-over told old new keeps = ap (state_with told) (put-over told.descriptor old.now new.now (λ d is. keeps.is d))

pub told-but : (told : Told) (d : ℕ) (old new : Moments) → ((k : ℕ) → told.descriptor ≡ Some k → k ≢ d) → KeepsPutBut d old new → saved_state told new.now ≡ saved_state told old.now
told-but told d old new apart keeps = ap (state_with told) (put-over told.descriptor old.now new.now (λ k is. keeps.is k (apart k is)))

-- nothing is told over a system that tells nothing
pub if-told : (b : Bool) (t u : Told) (w v : World) → (IsTrue b → saved_state u v ≡ saved_state t w) → saved_if b u v ≡ saved_if b t w
if-told true t u w v same = same refl
if-told false t u w v same = refl

-- it was begun
pub state-begun : (t : Told) (d : ℕ) (w : World) → t.descriptor ≡ Some d → put_at d w ≡ [] → put_through t.descriptor w ≡ []
state-begun t d w is none = ap (λ (x : Option ℕ). put_through x w) is ∙ none

-- ---- a role's file is another one

is-there : {X : Type 0} → Option X → Type 0
is-there None = ⊥
is-there (Some x) = Unit {0}

pub none-some : {X : Type 0} (x : X) → None ≡ Some x → ⊥
unfolding is-there
none-some x same = subst is-there (sym same) tt

or-used : Used → Option Used → Used
or-used u None = u
or-used u (Some v) = v

pub each-some : (P : Used → Type 0) (u : Used) → P u → Each P (Some u)
unfolding or-used
each-some P u holds = λ v is. subst P (ap (or-used u) is) holds

pub each-none : (P : Used → Type 0) → Each P None
each-none P = λ u is. absurd (none-some u is)

pub stands-image : (entry : List ℕ → Entry) (d : Option ℕ) (ended : Bool) (t : Table) (saving : Option Saving) (u : Used) (w : World) → IsFor Read w u → Stands entry d ended t saving w → Stands entry d ended (record t { image = Some u }) saving w
stands-image entry d ended t saving u w f st = record {
  open_files = record { image = each-some (IsFor Read w) u f; events = st.open_files.events; work = st.open_files.work; display = st.open_files.display; output = st.open_files.output; errors = st.open_files.errors };
  apart = λ k is. record { known = (st.apart k is).known; work = (st.apart k is).work; display = (st.apart k is).display; output = (st.apart k is).output; errors = (st.apart k is).errors };
  saved = λ s is. record {
    unfinished = (st.saved s is).unfinished;
    own = (st.saved s is).own;
    open_still = (st.saved s is).open_still;
    alone = record { work = (st.saved s is).alone.work; display = (st.saved s is).alone.display; output = (st.saved s is).alone.output; errors = (st.saved s is).alone.errors };
  };
}

pub stands-events : (entry : List ℕ → Entry) (d : Option ℕ) (ended : Bool) (t : Table) (saving : Option Saving) (u : Used) (w : World) → IsFor Read w u → Stands entry d ended t saving w → Stands entry d ended (record t { events = Some u }) saving w
stands-events entry d ended t saving u w f st = record {
  open_files = record { image = st.open_files.image; events = each-some (IsFor Read w) u f; work = st.open_files.work; display = st.open_files.display; output = st.open_files.output; errors = st.open_files.errors };
  apart = λ k is. record { known = (st.apart k is).known; work = (st.apart k is).work; display = (st.apart k is).display; output = (st.apart k is).output; errors = (st.apart k is).errors };
  saved = λ s is. record {
    unfinished = (st.saved s is).unfinished;
    own = (st.saved s is).own;
    open_still = (st.saved s is).open_still;
    alone = record { work = (st.saved s is).alone.work; display = (st.saved s is).alone.display; output = (st.saved s is).alone.output; errors = (st.saved s is).alone.errors };
  };
}

pub stands-work : (entry : List ℕ → Entry) (d : Option ℕ) (ended : Bool) (t : Table) (saving : Option Saving) (u : Used) (w : World) → IsFor Place w u → ((k : ℕ) → d ≡ Some k → u.descriptor ≢ k) → ((s : Saving) → saving ≡ Some s → u.found.file ≢ s.file)
    → Stands entry d ended t saving w → Stands entry d ended (record t { work = Some u }) saving w
stands-work entry d ended t saving u w f apart else st = record {
  open_files = record { image = st.open_files.image; events = st.open_files.events; work = each-some (IsFor Place w) u f; display = st.open_files.display; output = st.open_files.output; errors = st.open_files.errors };
  apart = λ k is. record { known = (st.apart k is).known; work = each-some (λ v. v.descriptor ≢ k) u (apart k is); display = (st.apart k is).display; output = (st.apart k is).output; errors = (st.apart k is).errors };
  saved = λ s is. record {
    unfinished = (st.saved s is).unfinished;
    own = (st.saved s is).own;
    open_still = (st.saved s is).open_still;
    alone = record { work = each-some (λ v. v.found.file ≢ s.file) u (else s is); display = (st.saved s is).alone.display; output = (st.saved s is).alone.output; errors = (st.saved s is).alone.errors };
  };
}

pub stands-display : (entry : List ℕ → Entry) (d : Option ℕ) (ended : Bool) (t : Table) (saving : Option Saving) (u : Used) (w : World) → IsFor Append w u → ((k : ℕ) → d ≡ Some k → u.descriptor ≢ k) → ((s : Saving) → saving ≡ Some s → u.found.file ≢ s.file)
    → Stands entry d ended t saving w → Stands entry d ended (record t { display = Some u }) saving w
stands-display entry d ended t saving u w f apart else st = record {
  open_files = record { image = st.open_files.image; events = st.open_files.events; work = st.open_files.work; display = each-some (IsFor Append w) u f; output = st.open_files.output; errors = st.open_files.errors };
  apart = λ k is. record { known = (st.apart k is).known; work = (st.apart k is).work; display = each-some (λ v. v.descriptor ≢ k) u (apart k is); output = (st.apart k is).output; errors = (st.apart k is).errors };
  saved = λ s is. record {
    unfinished = (st.saved s is).unfinished;
    own = (st.saved s is).own;
    open_still = (st.saved s is).open_still;
    alone = record { work = (st.saved s is).alone.work; display = each-some (λ v. v.found.file ≢ s.file) u (else s is); output = (st.saved s is).alone.output; errors = (st.saved s is).alone.errors };
  };
}

known-none : (x : Option Opening) → x ≡ None → is_some (option_map use_of x) ≡ true → ⊥
known-none x none known = false≢true (sym (ap (λ (y : Option Opening). is_some (option_map use_of y)) none) ∙ known)

pub fresh-apart : (u : Used) (a b : Moments) (k : ℕ) → IsOpened u a b → was_open k a.now ≡ true → u.descriptor ≢ k
fresh-apart u a b k o known same = known-none (a.now.opened k) (ap a.now.opened (sym same) ∙ o.free) known

-- ---- Saved

saved-none : (P : Saving → Type 0) (s : Saving) → None ≡ Some s → P s
saved-none P s is = absurd (none-some s is)

-- it isn't written any more
pub stands-quiet : (entry : List ℕ → Entry) (d : Option ℕ) (ended now : Bool) (t : Table) (saving : Option Saving) (old new : Moments) → KeepsUses old new → Stands entry d ended t saving old.now → Stands entry d now t None new.now
stands-quiet entry d ended now t saving old new keeps st = record {
  open_files = open-over t old new keeps st.open_files;
  apart = λ k is. apart-over t old new k keeps (st.apart k is);
  saved = λ s is. absurd (none-some s is);
}

pub stands-ended : (entry : List ℕ → Entry) (d : Option ℕ) (now : Bool) (t : Table) (file : ℕ) (w : World) → Stands entry d now t None w → Stands entry d now (record t { saved = Some file }) None w
stands-ended entry d now t file w st = record {
  open_files = record { image = st.open_files.image; events = st.open_files.events; work = st.open_files.work; display = st.open_files.display; output = st.open_files.output; errors = st.open_files.errors };
  apart = λ k is. record { known = (st.apart k is).known; work = (st.apart k is).work; display = (st.apart k is).display; output = (st.apart k is).output; errors = (st.apart k is).errors };
  saved = λ s is. absurd (none-some s is);
}

or-number : ℕ → Option ℕ → ℕ
or-number n None = n
or-number n (Some m) = m

some-number : (n m : ℕ) → Some n ≡ Some m → n ≡ m
unfolding or-number
some-number n m is = ap (or-number n) is

or-saving : Saving → Option Saving → Saving
or-saving s None = s
or-saving s (Some x) = x

pub some-saving : (s x : Saving) → Some s ≡ Some x → s ≡ x
unfolding or-saving
some-saving s x is = ap (or-saving s) is

pub own-put : (part : Entry) (d file : ℕ) (bytes : List ℕ) (w : World) → IsUnfinished part d file bytes w → put_at d w ≡ bytes
own-put part d file bytes w u = ap put_in u.opened

own-written : (part : Entry) (d file : ℕ) (bytes : List ℕ) (w : World) → IsUnfinished part d file bytes w → IsUnfinished part d file (put_at d w) w
own-written part d file bytes w u = subst (λ (bs : List ℕ). IsUnfinished part d file bs w) (sym (own-put part d file bytes w u)) u

-- it was begun, by a descriptor that was none of those that were open
pub stands-begun : (entry : List ℕ → Entry) (d : Option ℕ) (ended : Bool) (t : Table) (s : Saving) (old new : Moments) → AreOpen t old.now → KeepsUses old new
    → ((k : ℕ) (u : Use) → use_at k old.now ≡ Some u → k ≢ s.descriptor) → IsUnfinished (entry (string_bytes s.part)) s.descriptor s.file [] new.now → IsElse t s.file → d ≡ Some s.descriptor → ended ≡ false → Stands entry d ended t (Some s) new.now
stands-begun entry d ended t s old new are keeps fresh u else own unended = record {
  open_files = open-over t old new keeps are;
  apart = λ k is. subst (IsApartFrom t new.now) (some-number s.descriptor k (sym own ∙ is)) (record {
    known = ap (λ (x : Option Opening). is_some (option_map use_of x)) u.opened;
    work = λ v at. fresh v.descriptor (use_in v) (are.work v at).used;
    display = λ v at. fresh v.descriptor (use_in v) (are.display v at).used;
    output = fresh t.output.descriptor (use_in t.output) are.output.used;
    errors = fresh t.errors.descriptor (use_in t.errors) are.errors.used;
  });
  saved = λ x is. subst (IsWritten entry d ended t new.now) (some-saving s x is) (record { unfinished = own-written (entry (string_bytes s.part)) s.descriptor s.file [] new.now u; own = own; open_still = unended; alone = else });
}

-- bytes were put to it
pub stands-wrote : (entry : List ℕ → Entry) (d : Option ℕ) (ended : Bool) (t : Table) (s : Saving) (bytes : List ℕ) (old new : Moments) → IsUnfinished (entry (string_bytes s.part)) s.descriptor s.file bytes new.now → KeepsPutBut s.descriptor old new
    → Stands entry d ended t (Some s) old.now → Stands entry d ended t (Some s) new.now
stands-wrote entry d ended t s bytes old new u keeps st = record {
  open_files = open-over t old new keeps.uses st.open_files;
  apart = λ k is. apart-over t old new k keeps.uses (st.apart k is);
  saved = λ x is. subst (IsWritten entry d ended t new.now) (some-saving s x is)
      (record { unfinished = own-written (entry (string_bytes s.part)) s.descriptor s.file bytes new.now u; own = (st.saved s refl).own; open_still = (st.saved s refl).open_still; alone = (st.saved s refl).alone });
}

-- ---- what is told of it

with-ended : Told → List ℕ → Option ℕ → RoleState
with-ended t put ended = record { attaches = t.attaches; name = name_in t.name; taken = []; left = []; put = put; ended = ended; contents = [] }

ended-same : (b : Bool) (p q : List ℕ) → b ≡ false → ended_at b p ≡ ended_at b q
ended-same false p q is = refl
ended-same true p q is = absurd (false≢true (sym is))

pub state-puts : (t : Told) (w v : World) (bytes : List ℕ) → t.ended ≡ false → put_through t.descriptor v ≡ put_through t.descriptor w ++ bytes → saved_state t v ≡ puts bytes (saved_state t w)
unfolding with-ended
state-puts t w v bytes open_still put =
    ap (state_with t) put ∙ ap (with-ended t (put_through t.descriptor w ++ bytes)) (ended-same t.ended (put_through t.descriptor w ++ bytes) (put_through t.descriptor w) open_still)

pub put-by : (x : Option ℕ) (d : ℕ) (w v : World) (bytes : List ℕ) → x ≡ Some d → put_at d v ≡ put_at d w ++ bytes → put_through x v ≡ put_through x w ++ bytes
put-by x d w v bytes is put = subst (λ (y : Option ℕ). put_through y v ≡ put_through y w ++ bytes) (sym is) put

-- after it was ended
pub state-ends : (t u : Told) (w v : World) → u.attaches ≡ t.attaches → u.name ≡ t.name → u.descriptor ≡ t.descriptor → u.ended ≡ true → ((d : ℕ) → put_at d v ≡ put_at d w) → saved_state u v ≡ ends (saved_state t w)
unfolding with-ended
state-ends t u w v attaches name descriptor ended put =
    let same : put_through u.descriptor v ≡ put_through t.descriptor w = ap (λ (x : Option ℕ). put_through x v) descriptor ∙ put-over t.descriptor w v (λ d is. put d) in
    ap (λ (b : Bool). with-ended u (put_through u.descriptor v) (ended_at b (put_through u.descriptor v))) ended
    ∙ (ap (λ (p : List ℕ). with-ended u p (Some (length p))) same
    ∙ (ap (λ (n : ℕ). record { attaches = n; name = name_in u.name; taken = []; left = []; put = put_through t.descriptor w; ended = Some (length (put_through t.descriptor w)); contents = [] }) attaches
    ∙ ap (λ (m : Option (Vec ℕ)). record { attaches = t.attaches; name = name_in m; taken = []; left = []; put = put_through t.descriptor w; ended = Some (length (put_through t.descriptor w)); contents = [] }) name))

-- an attach that failed
pub attach-failed : {T : Type 0} (text : List ℕ) (t u : Told) (w v : World) (r : Result T Failed) → u.attaches ≡ counted t.attaches → u.name ≡ None → u.descriptor ≡ t.descriptor → u.ended ≡ t.ended → ((d : ℕ) → put_at d v ≡ put_at d w) → IsErr r
    → Attached text r (saved_state t w) (saved_state u v)
attach-failed text t u w v (Ok x) attaches name descriptor ended put is = absurd (false≢true is)
attach-failed text t u w v (Err x) attaches name descriptor ended put is =
    let same : put_through u.descriptor v ≡ put_through t.descriptor w = ap (λ (y : Option ℕ). put_through y v) descriptor ∙ put-over t.descriptor w v (λ d h. put d) in
    record {
      attaches = attaches;
      named = tt;
      no_other = subst (λ (m : Option (Vec ℕ)). IfSome (name_in m) (λ n. n ≡ text)) (sym name) tt;
      still_taken = refl;
      still_left = refl;
      still_put = same;
      still_ended = ap (λ (b : Bool). ended_at b (put_through u.descriptor v)) ended ∙ ap (λ (p : List ℕ). ended_at t.ended p) same;
    }

-- and one that went through
abbrev the-ok : {T : Type 0} → T → Result T Failed
the-ok x = Ok x

pub attach-done : {T : Type 0} (text : List ℕ) (t u : Told) (w v : World) (name : Vec ℕ) (x : T) → u.attaches ≡ counted t.attaches → u.name ≡ Some name → name.items ≡ text → Attached text (the-ok x) (saved_state t w) (saved_state u v)
attach-done text t u w v name x attaches named is = record {
  attaches = attaches;
  named = ap name_in named ∙ ap (λ (bs : List ℕ). Some bs) is;
  no_other = subst (λ (m : Option (Vec ℕ)). IfSome (name_in m) (λ n. n ≡ text)) (sym named) is;
  still_taken = tt;
  still_left = tt;
  still_put = tt;
  still_ended = tt;
}

pub fresh-state : (u : Told) (v : World) (d : ℕ) → u.descriptor ≡ Some d → put_at d v ≡ [] → u.ended ≡ false → IsFresh (saved_state u v)
fresh-state u v d is none open_still = record { taken = refl; put = state-begun u d v is none; ended = ap (λ (b : Bool). ended_at b (put_through u.descriptor v)) open_still; contents = refl }
