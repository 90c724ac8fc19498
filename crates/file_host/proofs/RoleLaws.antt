-- What each call on a role leaves of what is kept.
use Rattle.std.proofs.Common.{◌≡◌, ◌≢◌, ℕ, List, ◌++◌, Bool, true, false, Option, None, Some, Result, Ok, Err, OnErr, refl, sym, ap, ◌∙◌, subst, string_bytes, take}
use Rattle.file_system.specs.World.{Entry, Moments, World, put_at}
use Rattle.file_system.specs.Calls.{is_in_order}
use Rattle.file_system.specs.declared.system.Way.{Way}
use Rattle.file_system.specs.declared.system.Way.TheVariants.{Append, Place, Read, Stream}
use Rattle.file_saving.specs.Saving.{IsUnfinished, KeepsUses, KeepsPutBut}
use Rattle.file_saving.specs.declared.saving.Saving.{Saving}
use Rattle.file_roles.specs.Open.{Each, IsOpened, Leaves, Writes, is_of, not_of, whatever}
use Rattle.file_roles.specs.declared.files.Used.{Used}
use Rattle.file_roles.specs.declared.table.Table.{Table}
use Rattle.loom_host.specs.Outside.{at_start, puts}
use Rattle.loom_host.specs.declared.outside.Role.{Role}
use Rattle.loom_host.specs.declared.outside.Role.TheVariants.{Image, Events, Work, Saved, Display, Transcript, Notes}
use Rattle.file_host.specs.Stands.{IsFor, Stands}
use Rattle.file_host.specs.Told.{role_state, saved_if, saved_state}
use Rattle.file_host.specs.declared.told.Told.{Told}
use Rattle.file_host.proofs.HostLaws.{each-none, fresh-apart, none-some, own-put, put-by, some-saving, stands-display, stands-ended, stands-events, stands-image, stands-over, stands-quiet, stands-work, stands-writes, stands-wrote, state-puts, told-but, told-over}

-- ---- the same files, and another one told

pub stands-moved : (entry : List ℕ → Entry) (d : Option ℕ) (ended : Bool) (t : Table) (saving : Option Saving) (old new : Moments) → new ≡ old → Stands entry d ended t saving old.now → Stands entry d ended t saving new.now
stands-moved entry d ended t saving old new same st = subst (λ (m : Moments). Stands entry d ended t saving m.now) (sym same) st

pub stands-told : (entry : List ℕ → Entry) (d k : Option ℕ) (ended now : Bool) (t : Table) (saving : Option Saving) (w : World) → k ≡ d → now ≡ ended → Stands entry d ended t saving w → Stands entry k now t saving w
stands-told entry d k ended now t saving w same still st =
    subst (λ (x : Option ℕ). Stands entry x now t saving w) (sym same) (subst (λ (b : Bool). Stands entry d b t saving w) (sym still) st)

-- Saved is none any more
pub stands-none : (entry : List ℕ → Entry) (d k : Option ℕ) (ended now : Bool) (t : Table) (saving after : Option Saving) (old new : Moments) → k ≡ d → after ≡ None → KeepsUses old new → Stands entry d ended t saving old.now → Stands entry k now t after new.now
stands-none entry d k ended now t saving after old new same none keeps st =
    subst (λ (s : Option Saving). Stands entry k now t s new.now) (sym none) (subst (λ (x : Option ℕ). Stands entry x now t None new.now) (sym same) (stands-quiet entry d ended now t saving old new keeps st))

pub stands-new : (entry : List ℕ → Entry) (d : Option ℕ) (ended : Bool) (t : Table) (w : World) → d ≡ None → t.image ≡ None → t.events ≡ None → t.work ≡ None → t.display ≡ None → IsFor Stream w t.output → IsFor Stream w t.errors → Stands entry d ended t None w
stands-new entry d ended t w none image events work display output errors = record {
  open_files = record {
    image = subst (Each (IsFor Read w)) (sym image) (each-none (IsFor Read w));
    events = subst (Each (IsFor Read w)) (sym events) (each-none (IsFor Read w));
    work = subst (Each (IsFor Place w)) (sym work) (each-none (IsFor Place w));
    display = subst (Each (IsFor Append w)) (sym display) (each-none (IsFor Append w));
    output = output;
    errors = errors;
  };
  apart = λ k is. absurd (none-some k (sym none ∙ is));
  saved = λ s is. absurd (none-some s is);
}

-- ---- a role was attached

pub image-opened : (entry : List ℕ → Entry) (d : Option ℕ) (ended : Bool) (t : Table) (saving : Option Saving) (u : Used) (a b : Moments) → Leaves whatever a b → IsOpened u a b → u.way ≡ Read → Stands entry d ended t saving a.now → Stands entry d ended (record t { image = Some u }) saving b.now
image-opened entry d ended t saving u a b leaves opened way st =
    stands-image entry d ended t saving u b.now (record { way = way; used = opened.used }) (stands-over entry d ended t saving whatever a b (λ s is. tt) leaves st)

pub events-opened : (entry : List ℕ → Entry) (d : Option ℕ) (ended : Bool) (t : Table) (saving : Option Saving) (u : Used) (a b : Moments) → Leaves whatever a b → IsOpened u a b → u.way ≡ Read → Stands entry d ended t saving a.now → Stands entry d ended (record t { events = Some u }) saving b.now
events-opened entry d ended t saving u a b leaves opened way st =
    stands-events entry d ended t saving u b.now (record { way = way; used = opened.used }) (stands-over entry d ended t saving whatever a b (λ s is. tt) leaves st)

-- nothing was, beside a file that is written for Saved
pub still-beside : (entry : List ℕ → Entry) (d : Option ℕ) (ended : Bool) (t : Table) (saving : Option Saving) (beside : Option ℕ) (a b c : Moments) → b ≡ a → ((s : Saving) → saving ≡ Some s → beside ≡ Some s.file) → Leaves (is_of beside) b c
    → Stands entry d ended t saving a.now → Stands entry d ended t saving c.now
still-beside entry d ended t saving beside a b c same is leaves st = stands-over entry d ended t saving (is_of beside) b c is leaves (stands-moved entry d ended t saving a b same st)

pub work-opened : (entry : List ℕ → Entry) (d : Option ℕ) (ended : Bool) (t : Table) (saving : Option Saving) (beside : Option ℕ) (u : Used) (a b c : Moments) → b ≡ a → ((s : Saving) → saving ≡ Some s → beside ≡ Some s.file) → Leaves (is_of beside) b c
    → IsOpened u b c → u.way ≡ Place → ((file : ℕ) → beside ≡ Some file → u.found.file ≢ file) → Stands entry d ended t saving a.now → Stands entry d ended (record t { work = Some u }) saving c.now
work-opened entry d ended t saving beside u a b c same is leaves opened way apart st =
    let st_b = stands-moved entry d ended t saving a b same st in
    stands-work entry d ended t saving u c.now (record { way = way; used = opened.used }) (λ k own. fresh-apart u b c k opened (st_b.apart k own).known) (λ s has. apart s.file (is s has)) (stands-over entry d ended t saving (is_of beside) b c is leaves st_b)

pub display-opened : (entry : List ℕ → Entry) (d : Option ℕ) (ended : Bool) (t : Table) (saving : Option Saving) (beside : Option ℕ) (u : Used) (a b c : Moments) → b ≡ a → ((s : Saving) → saving ≡ Some s → beside ≡ Some s.file) → Leaves (is_of beside) b c
    → IsOpened u b c → u.way ≡ Append → ((file : ℕ) → beside ≡ Some file → u.found.file ≢ file) → Stands entry d ended t saving a.now → Stands entry d ended (record t { display = Some u }) saving c.now
display-opened entry d ended t saving beside u a b c same is leaves opened way apart st =
    let st_b = stands-moved entry d ended t saving a b same st in
    stands-display entry d ended t saving u c.now (record { way = way; used = opened.used }) (λ k own. fresh-apart u b c k opened (st_b.apart k own).known) (λ s has. apart s.file (is s has)) (stands-over entry d ended t saving (is_of beside) b c is leaves st_b)

pub told-beside : (told : Told) (P : ℕ → ℕ → Type 0) (a b c : Moments) → b ≡ a → Leaves P b c → saved_state told c.now ≡ saved_state told a.now
told-beside told P a b c same leaves = told-over told b c leaves.puts ∙ ap (λ (m : Moments). saved_state told m.now) same

-- ---- a role was written

-- what one descriptor wrote, where Saved is another one's
pub still-written : (entry : List ℕ → Entry) (d : Option ℕ) (ended : Bool) (t : Table) (saving : Option Saving) (u : Used) (a b : Moments) → ((k : ℕ) → d ≡ Some k → u.descriptor ≢ k) → ((s : Saving) → saving ≡ Some s → u.found.file ≢ s.file)
    → Writes u.descriptor u.found.file a b → Stands entry d ended t saving a.now → Stands entry d ended t saving b.now
still-written entry d ended t saving u a b apart else writes st =
    stands-writes entry d ended t saving u.descriptor u.found.file a b (λ s is. (λ same. apart s.descriptor (st.saved s is).own (sym same), λ same. else s is (sym same))) writes st

pub told-written : (told : Told) (k i : ℕ) (a b : Moments) → ((d : ℕ) → told.descriptor ≡ Some d → k ≢ d) → Writes k i a b → saved_state told b.now ≡ saved_state told a.now
told-written told k i a b apart writes = told-but told k a b (λ d own same. apart d own (sym same)) writes.others

pub display-apart : (entry : List ℕ → Entry) (d : Option ℕ) (ended : Bool) (t : Table) (saving : Option Saving) (w : World) (u : Used) → Stands entry d ended t saving w → t.display ≡ Some u → (k : ℕ) → d ≡ Some k → u.descriptor ≢ k
display-apart entry d ended t saving w u st at k is = (st.apart k is).display u at

pub display-else : (entry : List ℕ → Entry) (d : Option ℕ) (ended : Bool) (t : Table) (saving : Option Saving) (w : World) (u : Used) → Stands entry d ended t saving w → t.display ≡ Some u → (s : Saving) → saving ≡ Some s → u.found.file ≢ s.file
display-else entry d ended t saving w u st at s is = (st.saved s is).alone.display u at

pub output-apart : (entry : List ℕ → Entry) (d : Option ℕ) (ended : Bool) (t : Table) (saving : Option Saving) (w : World) → Stands entry d ended t saving w → (k : ℕ) → d ≡ Some k → t.output.descriptor ≢ k
output-apart entry d ended t saving w st k is = (st.apart k is).output

pub output-else : (entry : List ℕ → Entry) (d : Option ℕ) (ended : Bool) (t : Table) (saving : Option Saving) (w : World) → Stands entry d ended t saving w → (s : Saving) → saving ≡ Some s → t.output.found.file ≢ s.file
output-else entry d ended t saving w st s is = (st.saved s is).alone.output

pub errors-apart : (entry : List ℕ → Entry) (d : Option ℕ) (ended : Bool) (t : Table) (saving : Option Saving) (w : World) → Stands entry d ended t saving w → (k : ℕ) → d ≡ Some k → t.errors.descriptor ≢ k
errors-apart entry d ended t saving w st k is = (st.apart k is).errors

pub errors-else : (entry : List ℕ → Entry) (d : Option ℕ) (ended : Bool) (t : Table) (saving : Option Saving) (w : World) → Stands entry d ended t saving w → (s : Saving) → saving ≡ Some s → t.errors.found.file ≢ s.file
errors-else entry d ended t saving w st s is = (st.saved s is).alone.errors

pub append-order : (way : Way) → way ≡ Append → is_in_order (Some way) ≡ true
append-order way is = ap (λ (x : Way). is_in_order (Some x)) is

pub stream-order : (way : Way) → way ≡ Stream → is_in_order (Some way) ≡ true
stream-order way is = ap (λ (x : Way). is_in_order (Some x)) is

-- Work was written, or read
pub work-written : (entry : List ℕ → Entry) (d : Option ℕ) (ended : Bool) (t : Table) (saving : Option Saving) (u : Used) (a b : Moments) → t.work ≡ Some u → Leaves (not_of u.found.file) a b → Stands entry d ended t saving a.now → Stands entry d ended t saving b.now
work-written entry d ended t saving u a b at leaves st = stands-over entry d ended t saving (not_of u.found.file) a b (λ s is same. (st.saved s is).alone.work u at (sym same)) leaves st

-- ---- Saved was written

pub saved-put : (entry : List ℕ → Entry) (told : Told) (t : Table) (saving : Option Saving) (s : Saving) (buf : List ℕ) (n : ℕ) (a b : Moments) → saving ≡ Some s → Stands entry told.descriptor told.ended t saving a.now
    → IsUnfinished (entry (string_bytes s.part)) s.descriptor s.file (put_at s.descriptor a.now ++ take n buf) b.now → saved_state told b.now ≡ puts (take n buf) (saved_state told a.now)
saved-put entry told t saving s buf n a b is st u =
    state-puts told a.now b.now (take n buf) (st.saved s is).open_still (put-by told.descriptor s.descriptor a.now b.now (take n buf) (st.saved s is).own (own-put (entry (string_bytes s.part)) s.descriptor s.file (put_at s.descriptor a.now ++ take n buf) b.now u))

-- what holds of the file that was taken holds of the one that there was
pub of-taken : (P : Saving → Type 0) (saving taken : Option Saving) (s x : Saving) → taken ≡ saving → taken ≡ Some s → saving ≡ Some x → P s → P x
of-taken P saving taken s x value is has holds = subst P (some-saving s x (sym is ∙ (value ∙ has))) holds

pub none-taken : (P : Saving → Type 0) (saving taken : Option Saving) (x : Saving) → taken ≡ saving → taken ≡ None → saving ≡ Some x → P x
none-taken P saving taken x value none has = absurd (none-some x (sym none ∙ (value ∙ has)))

pub on-err : {T E P : Type 0} (r : Result T E) → P → OnErr r P
on-err (Ok x) holds = tt
on-err (Err x) holds = holds

-- bytes were put to the file that there was
pub saved-wrote : (entry : List ℕ → Entry) (d : Option ℕ) (ended : Bool) (t : Table) (saving : Option Saving) (s : Saving) (bytes : List ℕ) (old new : Moments) → saving ≡ Some s → IsUnfinished (entry (string_bytes s.part)) s.descriptor s.file bytes new.now
    → KeepsPutBut s.descriptor old new → Stands entry d ended t saving old.now → Stands entry d ended t (Some s) new.now
saved-wrote entry d ended t saving s bytes old new is u keeps st = stands-wrote entry d ended t s bytes old new u keeps (subst (λ (x : Option Saving). Stands entry d ended t x old.now) is st)

pub saved-ended : (entry : List ℕ → Entry) (d : Option ℕ) (ended now : Bool) (t : Table) (saving after : Option Saving) (file : ℕ) (old new : Moments) → after ≡ None → KeepsUses old new → Stands entry d ended t saving old.now → Stands entry d now (record t { saved = Some file }) after new.now
saved-ended entry d ended now t saving after file old new none keeps st =
    subst (λ (s : Option Saving). Stands entry d now (record t { saved = Some file }) s new.now) (sym none) (stands-ended entry d now t file new.now (stands-quiet entry d ended now t saving old new keeps st))

-- it stays as it was
pub stands-back : (entry : List ℕ → Entry) (d : Option ℕ) (ended : Bool) (t : Table) (saving : Option Saving) (s : Saving) (old new : Moments) → saving ≡ Some s → new ≡ old → Stands entry d ended t saving old.now → Stands entry d ended t (Some s) new.now
stands-back entry d ended t saving s old new is same st = stands-moved entry d ended t (Some s) old new same (subst (λ (x : Option Saving). Stands entry d ended t x old.now) is st)

saved-new : (b : Bool) (t : Told) (w : World) → t.attaches ≡ 0 → t.name ≡ None → t.descriptor ≡ None → t.ended ≡ false → saved_if b t w ≡ at_start
saved-new true t w attaches name descriptor ended = rw (attaches, name, descriptor, ended)
saved-new false t w attaches name descriptor ended = refl

pub roles-new : (b : Bool) (t : Told) (w : World) → t.attaches ≡ 0 → t.name ≡ None → t.descriptor ≡ None → t.ended ≡ false → (r : Role) → role_state b t w r ≡ at_start
roles-new b t w attaches name descriptor ended Image = refl
roles-new b t w attaches name descriptor ended Events = refl
roles-new b t w attaches name descriptor ended Work = refl
roles-new b t w attaches name descriptor ended Saved = saved-new b t w attaches name descriptor ended
roles-new b t w attaches name descriptor ended Display = refl
roles-new b t w attaches name descriptor ended Transcript = refl
roles-new b t w attaches name descriptor ended Notes = refl
