-- Rows of the method cache. One that is found is a lookup in the heap now, since `Stands` says that the cache is sound; one that is put is
-- the lookup that was just made, whose objects are all marked (`Walks`), so that they are in the heap now as they were.
use Rattle.std.proofs.Common.{◌≡◌, ℕ, ◌<◌, ◌≤◌, nat_lt, Bool, true, false, cond, eqb, [], ◌∷◌, Option, Some, None, is_some, Result, Ok, OnOk, IsTrue, MatchBool, ◌⊎◌, inl, inr, refl, sym, ◌∙◌, ap, subst, subst₂, arith}
use Rattle.long_names.specs.declared.value.Value.{Value}
use Rattle.long_names.specs.declared.value.Value.TheVariants.{Int, Ref}
use Rattle.long_names.specs.Heap.{Heap, Has}
use Rattle.long_names.specs.State.{set_register, NEW_METHOD}
use Rattle.long_names.proofs.ThinLemmas.{has, IsThinner-refl}
use Rattle.object_memory.specs.Told.{Told, Cache, IsReady}
use Rattle.object_memory.specs.Contract.{row_of_values, is_marked, IsFound, IsUnknown, IsPut}
use Rattle.object_memory.proofs.LaterLaws.{SameBounds-refl, IsLater-refl, Raised-refl}
use Rattle.object_memory.proofs.LooksLaws.{Looks-put, put_value, below_among}
use Rattle.blue_model.specs.declared.cpu.Cpu.{Cpu}
use Rattle.blue_model.specs.Machine.{Machine, Outcome, Go, Halt, Spent, log_of, placed, put_register}
use Rattle.long_names.specs.declared.limits.TheConstants.{MACHINE_REGISTERS}
use Rattle.blue_model.specs.Lookup.{lookup, find, put_found}
use Rattle.contexts.specs.declared.stop.Stop.{Stop}
use Rattle.contexts.specs.Cache.{IsRead, Finds, IsLookup, IsSound}
use Rattle.contexts.specs.Serves.{Stands, IsGo, Gives, Serves}
use Rattle.contexts.proofs.CacheLaws.{lookup_same}
use Rattle.contexts.proofs.LookupLaws.{SameLook, looks_lookup}
use Rattle.contexts.proofs.ServesLaws.{IsCounted-refl, serves_then}
use Rattle.contexts.proofs.Steps.{IsQuiet, IsQuiet-trans, register_then, done_serves, read_last}
use Rattle.contexts.proofs.RegisterLaws.{put_quiet, copy_quiet}
use Rattle.send_lookup.specs.Found.{KeepsBelow, HasPair}
use Rattle.send_lookup.specs.Path.{IsOnPath, Walks}

-- ---- outcomes of a lookup

-- one that ends alike finds the method, too
Finds-same : (m s : Machine) (marks : ℕ → Bool) (method : ℕ) (a b : Outcome (Option Value)) → SameLook m s a b → Finds marks method a → Finds marks method b
Finds-same m s marks method (Go (Some v) x log) (Go (Some w) y rows) h f = (let same : v ≡ w = cc in sym same ∙ f.0, λ n r. f.1 n (h.3 n r))
Finds-same m s marks method (Go (Some v) x log) (Go None y rows) h f = let no : ◌≡◌ {A = Option Value} (Some v) None = h.0 in absurd (cc)
Finds-same m s marks method (Go (Some v) x log) _ h f = absurd h
Finds-same m s marks method _ b h f = absurd f

-- what went on to a method, and marked all that it looked at
finds_marked : (P : Machine → Type 0) (marks : ℕ → Bool) (method : ℕ) (o : Outcome (Option Value)) → IsGo (Some (Ref method)) P o → ((n : ℕ) → IsRead n (log_of o) → marks n ≡ true) → Finds marks method o
finds_marked P marks method (Go (Some v) m log) g read = (let e : ◌≡◌ {A = Option Value} (Some v) (Some (Ref method)) = g.0 in (cc), read)
finds_marked P marks method (Go None m log) g read = let no : ◌≡◌ {A = Option Value} None (Some (Ref method)) = g.0 in absurd (cc)
finds_marked P marks method (Halt c log) g read = absurd g
finds_marked P marks method (Spent log) g read = absurd g

-- a lookup leaves its machine
same_machine : (P : Machine → Type 0) (a : Option Value) (m : Machine) (o : Outcome (Option Value)) → IsGo a P o → SameLook m m o o → P m
same_machine P a m (Go b x log) g l = subst P l.1 g.1
same_machine P a m (Halt c log) g l = absurd g
same_machine P a m (Spent log) g l = absurd g

go_map : {A : Type 0} (a : A) (P Q : Machine → Type 0) (o : Outcome A) → ((m : Machine) → P m → Q m) → IsGo a P o → IsGo a Q o
go_map a P Q (Go b m log) f g = (g.0, f m g.1)
go_map a P Q (Halt c log) f g = absurd g
go_map a P Q (Spent log) f g = absurd g

-- ---- a row that is put

-- the lookup that was made is that of the heap now,
looked_up : (t : Told) (cpu : Cpu) (m : Machine) (c s d : ℕ) → IsReady t → IsTrue t.tells → IsTrue (is_marked t.cache (Ref c)) → IsTrue (is_marked t.cache (Ref s)) → IsTrue (is_marked t.cache (Ref d)) → IsGo (Some (Ref d)) (Stands t cpu) (lookup (Ref s) (Ref c) m) → ((n : ℕ) → IsRead n (log_of (lookup (Ref s) (Ref c) m)) → t.cache.marks n ≡ true) → IsLookup t.heap t.cache.marks c s d
looked_up t cpu m c s d ready told class selector method g read = record { class_marked = class; selector_marked = selector; method_marked = method; finds = λ x e. here x e }
  where
    stands : Stands t cpu m
    stands = same_machine (Stands t cpu) (Some (Ref d)) m (lookup (Ref s) (Ref c) m) g ((looks_lookup (Ref s) (Ref c)).looks m m (λ n r. refl))

    here : (x : Machine) → x.heap ≡ t.heap → Finds t.cache.marks d (lookup (Ref s) (Ref c) x)
    here x e =
        let alike : SameLook m x (lookup (Ref s) (Ref c) m) (lookup (Ref s) (Ref c) x) = (looks_lookup (Ref s) (Ref c)).looks m x (λ n r. (let it = has t.heap n (ready.marked told n (read n r)) in ap (λ (h : Heap). h.at n) e ∙ it.1 ∙ sym (stands.heap.same n it.0 it.1))) in
        Finds-same m x t.cache.marks d (lookup (Ref s) (Ref c) m) (lookup (Ref s) (Ref c) x) alike (finds_marked (Stands t cpu) t.cache.marks d (lookup (Ref s) (Ref c) m) g read)

-- also by the values that registers hold
looked_up_at : (t : Told) (cpu : Cpu) (m : Machine) (class selector method : Value) (c s d : ℕ) → class ≡ Ref c → selector ≡ Ref s → method ≡ Ref d → IsReady t → IsTrue t.tells → IsTrue (is_marked t.cache class) → IsTrue (is_marked t.cache selector) → IsTrue (is_marked t.cache method) → IsGo (Some method) (Stands t cpu) (lookup selector class m) → ((n : ℕ) → IsRead n (log_of (lookup selector class m)) → t.cache.marks n ≡ true) → IsLookup t.heap t.cache.marks c s d
looked_up_at t cpu m class selector method c s d ec es ed ready told =
    let P : Value → Value → Value → Type 0 = λ x y z. IsTrue (is_marked t.cache x) → IsTrue (is_marked t.cache y) → IsTrue (is_marked t.cache z) → IsGo (Some z) (Stands t cpu) (lookup y x m) → ((n : ℕ) → IsRead n (log_of (lookup y x m)) → t.cache.marks n ≡ true) → IsLookup t.heap t.cache.marks c s d in
    subst (λ x. P x selector method) (sym ec) (subst (λ y. P (Ref c) y method) (sym es) (subst (λ z. P (Ref c) (Ref s) z) (sym ed) (looked_up t cpu m c s d ready told)))

-- what is told with other rows
abbrev pub with_rows : Told → (ℕ → ℕ → ℕ → Bool) → Told
with_rows t rows = record t { cache = record t.cache { rows = rows } }

put_with : {old mid : Told} {cpu : Cpu} (rows : ℕ → ℕ → ℕ → Bool) (class selector method : ℕ) (c s : Value) → mid.regs class ≡ c → mid.regs selector ≡ s → IsReady mid → IsReady (with_rows mid rows) → mid.cache.path ≡ true → IsOnPath mid c → IsOnPath mid s → IsOnPath mid (mid.regs method) → ((a b d : ℕ) → rows a b d ≡ true → (mid.cache.rows a b d ≡ true) ⊎ ((mid.regs class ≡ Ref a) × (mid.regs selector ≡ Ref b) × (mid.regs method ≡ Ref d))) → Walks old cpu mid (lookup s c) (Ok (Some (mid.regs method))) → Serves old cpu (with_rows mid rows) cpu (lookup s c) (Ok (Some (mid.regs method)))
put_with {old} {mid} {cpu} rows class selector method c s ec es before ready whole class_on selector_on method_on fresh w = record {
  later = record { tells = w.serves.later.tells; speaks = w.serves.later.speaks; bounds = w.serves.later.bounds; refusals = w.serves.later.refusals };
  ready = ready;
  reason = tt;
  counts = (w.serves.counts.0, record { counts = w.serves.counts.1.counts; next = w.serves.counts.1.next });
  vault = w.serves.vault;
  silent = w.serves.silent;
  model = λ told m st. (let g = w.serves.model told m st in go_map (Some (mid.regs method)) (Stands mid cpu) (Stands (with_rows mid rows) cpu) (lookup s c m) (λ x sx. stands told m st g x sx) g);
}
  where
    sound : IsTrue old.tells → (m : Machine) → Stands old cpu m → IsGo (Some (mid.regs method)) (Stands mid cpu) (lookup s c m) → IsSound mid.heap mid.cache → (a b d : ℕ) → rows a b d ≡ true → IsLookup mid.heap mid.cache.marks a b d
    sound told m st g was a b d is = elim (fresh a b d is) [
      | inl there ↦ was.sound a b d there
      | inr this ↦ looked_up_at mid cpu m c s (mid.regs method) a b d (sym ec ∙ this.0) (sym es ∙ this.1) this.2 before (w.serves.later.tells ∙ told) (class_on whole) (selector_on whole) (method_on whole) g (λ n r. w.covers told whole m st n r)
    ]

    stands : IsTrue old.tells → (m : Machine) → Stands old cpu m → IsGo (Some (mid.regs method)) (Stands mid cpu) (lookup s c m) → (x : Machine) → Stands mid cpu x → Stands (with_rows mid rows) cpu x
    stands told m st g x sx = record { heap = sx.heap; regs = sx.regs; slots = sx.slots; numbers = sx.numbers; fits = sx.fits; transcript = sx.transcript; cache = record { sound = sound told m st g sx.cache } }

-- The row of a lookup was put, or not.
pub put_serves_lookup : {old mid new : Told} {cpu : Cpu} (put : Bool) (class selector method : ℕ) (c s : Value) → mid.regs class ≡ c → mid.regs selector ≡ s → IsReady mid → IsReady new → IsOnPath mid c → IsOnPath mid s → IsOnPath mid (mid.regs method) → MatchBool put (IsPut mid new class selector method) (new ≡ mid) → Walks old cpu mid (lookup s c) (Ok (Some (mid.regs method))) → Serves old cpu new cpu (lookup s c) (Ok (Some (new.regs method)))
put_serves_lookup {old} {mid} {new} {cpu} false class selector method c s ec es before ready class_on selector_on method_on same w = subst (λ (t : Told). Serves old cpu t cpu (lookup s c) (Ok (Some (t.regs method)))) (sym same) w.serves
put_serves_lookup {old} {mid} {new} {cpu} true class selector method c s ec es before ready class_on selector_on method_on f w =
    subst (λ (t : Told). Serves old cpu t cpu (lookup s c) (Ok (Some (t.regs method)))) (sym f.told) (put_with new.cache.rows class selector method c s ec es before (subst IsReady f.told ready) f.path class_on selector_on method_on f.rows w)

pub put_regs : (mid new : Told) (put : Bool) (class selector method r : ℕ) → MatchBool put (IsPut mid new class selector method) (new ≡ mid) → new.regs r ≡ mid.regs r
put_regs mid new true class selector method r f = ap (λ (t : Told). t.regs r) f.told
put_regs mid new false class selector method r same = ap (λ (t : Told). t.regs r) same

-- ---- the beginning of a lookup

begin_quiet : (old new : Told) → IsReady new → new ≡ (record old { cache = record old.cache { path = true } }) → IsQuiet old new
begin_quiet old new ready e = subst (λ (t : Told). IsQuiet old t) (sym e) (record {
  later = record { tells = refl; speaks = refl; bounds = SameBounds-refl old.bounds; refusals = omega arith };
  regs = λ r low. refl;
  slots = refl;
  heap = λ told. IsThinner-refl old.heap;
  ready = subst IsReady e ready;
  counts = record { counts = Raised-refl old.bounds; next = λ told. omega arith };
  silent = λ speaks. refl;
  sound = λ before told s. record { sound = s.sound };
})

-- class and selector stand in the registers of a lookup, and the path is new
pub record Begins (old new : Told) (class selector : ℕ) : Type 0 where
  pub quiet : IsQuiet old new
  pub from : new.regs 20 ≡ old.regs class
  pub sought : new.regs 23 ≡ old.regs selector
  pub first : new.regs 19 ≡ new.regs 20
  pub others : KeepsBelow 19 old new

abbrev pub copied : Told → ℕ → ℕ → Told
copied t to from = record t { regs = set_register t.regs to (t.regs from) }

pub begins : (a b c d e : Told) (class selector : ℕ) → selector < 20 → IsReady a → IsReady b → IsReady c → IsReady d → IsReady e → b ≡ copied a 20 class → c ≡ copied b 23 selector → d ≡ copied c 19 20 → e ≡ (record d { cache = record d.cache { path = true } }) → Begins a e class selector
begins a b c d e class selector low ra rb rc rd re one two three four = record {
  quiet = IsQuiet-trans a b e (copy_quiet a b 20 class (omega arith) ra rb one) (IsQuiet-trans b c e (copy_quiet b c 23 selector (omega arith) rb rc two) (IsQuiet-trans c d e (copy_quiet c d 19 20 (omega arith) rc rd three) (begin_quiet d e re four)));
  from = last 20 ∙ (Looks-put c d 19 _ three).regs 20 refl ∙ (Looks-put b c 23 _ two).regs 20 refl ∙ put_value a b 20 _ one;
  sought = last 23 ∙ (Looks-put c d 19 _ three).regs 23 refl ∙ put_value b c 23 _ two ∙ (Looks-put a b 20 _ one).regs selector (below_among 20 (20 ∷ []) selector low refl);
  first = last 19 ∙ put_value c d 19 _ three ∙ sym (last 20 ∙ (Looks-put c d 19 _ three).regs 20 refl);
  others = λ r under. last r ∙ (Looks-put c d 19 _ three).regs r (below_among 19 (19 ∷ []) r under refl) ∙ (Looks-put b c 23 _ two).regs r (below_among 19 (23 ∷ []) r under refl) ∙ (Looks-put a b 20 _ one).regs r (below_among 19 (20 ∷ []) r under refl);
}
  where
    last : (r : ℕ) → e.regs r ≡ d.regs r
    last r = ap (λ (t : Told). t.regs r) four

-- ---- a row that is found

pub when_true : (P Q : Type 0) (b : Bool) → b ≡ true → MatchBool b P Q → P
when_true P Q b e m = subst (λ x. MatchBool x P Q) e m

pub when_false : (P Q : Type 0) (b : Bool) → b ≡ false → MatchBool b P Q → Q
when_false P Q b e m = subst (λ x. MatchBool x P Q) e m

-- the names of a row
names_of_row : (cache : Cache) (v w : Value) (d : ℕ) → row_of_values cache v w d ≡ true → (c : ℕ) × (s : ℕ) × (v ≡ Ref c) × (w ≡ Ref s) × (cache.rows c s d ≡ true)
names_of_row cache (Int z) w d e = let no : ◌≡◌ {A = Bool} false true = e in absurd (cc)
names_of_row cache (Ref c) (Int z) d e = let no : ◌≡◌ {A = Bool} false true = e in absurd (cc)
names_of_row cache (Ref c) (Ref s) d e = (c, s, refl, refl, e)

-- its method has an object
method_there : (t : Told) (v w : Value) (d : ℕ) → IsReady t → IsTrue t.tells → row_of_values t.cache v w d ≡ true → Has t.heap d
method_there t v w d ready told is = let it = names_of_row t.cache v w d is in ready.marked told d (ready.cached it.0 it.1 d it.4)

-- A row is the lookup of its pair, whole.
pub cached_serves : {t : Told} {cpu : Cpu} (class selector : Value) (d : ℕ) → IsReady t → row_of_values t.cache class selector d ≡ true → Serves t cpu t cpu (lookup selector class) (Ok (Some (Ref d)))
cached_serves {t} {cpu} class selector d ready is = record {
  later = IsLater-refl t;
  ready = ready;
  reason = tt;
  counts = (0, IsCounted-refl t);
  vault = λ may. may;
  silent = λ speaks. refl;
  model = λ told m st. at_row told m st;
}
  where
    step : (m : Machine) → Stands t cpu m → (o : Outcome (Option Value)) → Finds t.cache.marks d o → SameLook m m o o → Gives t cpu (Ok (Some (Ref d))) o
    step m st (Go (Some v) x log) found same = (ap (λ w. Some w) found.0, subst (Stands t cpu) (sym same.1) st)
    step m st (Go None x log) found same = absurd found
    step m st (Halt c log) found same = absurd found
    step m st (Spent log) found same = absurd found

    at_row : IsTrue t.tells → (m : Machine) → Stands t cpu m → Gives t cpu (Ok (Some (Ref d))) (lookup selector class m)
    at_row told m st =
        let it = names_of_row t.cache class selector d is in
        let found = lookup_same t.heap t.cache.marks it.0 it.1 d (st.cache.sound it.0 it.1 d it.4) m (λ n k. (let here = has t.heap n (ready.marked told n k) in st.heap.same n here.0 here.1 ∙ sym here.1)) in
        step m st (lookup selector class m) (subst₂ (λ x y. Finds t.cache.marks d (lookup x y m)) (sym it.3) (sym it.2) found) ((looks_lookup selector class).looks m m (λ n r. refl))

-- It was found into a scratch register,
pub found_serves : {old new : Told} {cpu : Cpu} (to class selector : ℕ) → MACHINE_REGISTERS ≤ to → IsReady old → IsReady new → IsFound old new to class selector → Serves old cpu new cpu (lookup (old.regs selector) (old.regs class)) (Ok (Some (new.regs to)))
found_serves {old} {new} {cpu} to class selector above before ready f =
    subst (λ v. Serves old cpu new cpu (lookup (old.regs selector) (old.regs class)) (Ok (Some v))) (sym (put_value old new to (Ref f.method) f.told))
    (read_last (cached_serves (old.regs class) (old.regs selector) f.method before f.row) (put_quiet old new to (Ref f.method) above before ready f.told))

-- a register of the machine that took a name,
name_put : {old new : Told} {cpu : Cpu} (to d : ℕ) → nat_lt to MACHINE_REGISTERS ≡ true → (IsTrue old.tells → Has old.heap d) → IsReady new → new ≡ (record old { regs = set_register old.regs to (Ref d) }) → Serves old cpu new cpu (put_register to (Ref d)) (Ok (tt {0}))
unfolding put_register
name_put {old} {new} {cpu} to d low there ready e = subst (λ (t : Told). Serves old cpu t cpu (put_register to (Ref d)) (Ok (tt {0}))) (sym e) record {
  later = record { tells = refl; speaks = refl; bounds = SameBounds-refl old.bounds; refusals = omega arith };
  ready = subst IsReady e ready;
  reason = tt;
  counts = (0, record { counts = Raised-refl old.bounds; next = λ told. omega arith });
  vault = λ may. may;
  silent = λ speaks. refl;
  model = λ told m st.
      let it = has old.heap d (there told) in
      let known : is_some (m.heap.at d) ≡ true = ap (λ x. is_some x) (st.heap.same d it.0 it.1) in
      subst (λ b. Gives (record old { regs = set_register old.regs to (Ref d) }) cpu (Ok (tt {0})) (placed m to (Ref d) b)) (sym known) (
        refl,
        record {
          heap = st.heap;
          regs = λ r below. ap (λ b. cond b (set_register m.regs to (Ref d)) m.regs r) low ∙ ap (λ v. cond (eqb r to) (Ref d) v) (st.regs r below);
          slots = st.slots;
          numbers = st.numbers;
          fits = st.fits;
          transcript = st.transcript;
          cache = st.cache;
        },
      );
}

-- and into that of the method.
pub found_method : {old new : Told} {cpu : Cpu} (class : ℕ) → IsReady old → IsReady new → IsFound old new NEW_METHOD class 4 → Serves old cpu new cpu (find (old.regs class)) (Ok true)
unfolding find put_found
found_method {old} {new} {cpu} class before ready f =
    register_then 4 _ refl (serves_then _ (cached_serves (old.regs class) (old.regs 4) f.method before f.row) (serves_then _ (name_put NEW_METHOD f.method refl (λ told. method_there old (old.regs class) (old.regs 4) f.method before told f.row) ready f.told) (done_serves ready)))

-- ---- a pair that the cache hasn't

pub no_pair : (old new : Told) (class selector : ℕ) → IsUnknown old new class selector → HasPair old.cache (old.regs class) (old.regs selector) → ⊥
no_pair old new class selector f has = let no : ◌≡◌ {A = Bool} false true = sym (f.rows has.method) ∙ has.row in absurd (cc)

-- what was asked in vain is as before
pub asked_lookup : {old mid new : Told} {cpu : Cpu} {answer : Result (Option Value) Stop} (class selector : ℕ) → IsUnknown old mid class selector → Serves mid cpu new cpu (lookup (mid.regs selector) (mid.regs class)) answer → Serves old cpu new cpu (lookup (old.regs selector) (old.regs class)) answer
asked_lookup {old} {mid} {new} {cpu} {answer} class selector f s = subst (λ (t : Told). Serves t cpu new cpu (lookup (t.regs selector) (t.regs class)) answer) f.told s

pub asked_others : {A E : Type 0} (old mid new : Told) (class selector : ℕ) (answer : Result A E) → IsUnknown old mid class selector → OnOk answer (KeepsBelow 19 mid new) → OnOk answer (KeepsBelow 19 old new)
asked_others {A} {E} old mid new class selector answer f s = subst (λ (t : Told). OnOk answer (KeepsBelow 19 t new)) f.told s

pub below_asked : (old mid new : Told) (class selector : ℕ) → IsUnknown old mid class selector → KeepsBelow 19 mid new → KeepsBelow 19 old new
below_asked old mid new class selector f s = subst (λ (t : Told). KeepsBelow 19 t new) f.told s
