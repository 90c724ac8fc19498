-- Names that stay while others are loaded, and a name that goes into a register of the machine.
use Rattle.std.proofs.Common.{◌≡◌, ℕ, ◌<◌, ◌≤◌, nat_lt, Bool, true, false, cond, eqb, ◌++◌, [], Option, Some, None, is_some, zero, suc, Ok, Err, IsTrue, refl, sym, ◌∙◌, ap, subst, arith}
use Rattle.std.proofs.lemmas.Bool.Decides.{nat_tests}
use Rattle.long_names.specs.declared.value.Value.{Value}
use Rattle.long_names.specs.declared.value.Value.TheVariants.{Ref}
use Rattle.long_names.specs.declared.object.Object.{Object}
use Rattle.long_names.specs.Heap.{Heap, Has}
use Rattle.long_names.specs.Kept.{kept, no_roots}
use Rattle.long_names.specs.State.{set_register, INPUT_SEMAPHORE, TIMER_SEMAPHORE, DISPLAY}
use Rattle.long_names.specs.Access.{Known}
use Rattle.long_names.proofs.ThinLemmas.{has, IsWhole-bounded}
use Rattle.long_names.proofs.KeptLaws.{kept-part, kept-fixed, left-part, kept-thinner}
use Rattle.object_memory.specs.declared.fault.MemFault.{MemFault}
use Rattle.object_memory.specs.Told.{Told, IsReady}
use Rattle.object_memory.specs.Contract.{Does, MayDo, Called}
use Rattle.object_memory.proofs.LeftLaws.{heap_over}
use Rattle.blue_model.specs.declared.cpu.Cpu.{Cpu}
use Rattle.blue_model.specs.Machine.{Machine, rows_at, then_do, ◌>>=◌, done, looked, look, known, placed, put_register}
use Rattle.long_names.specs.declared.limits.TheConstants.{MACHINE_REGISTERS}
use Rattle.blue_model.specs.State.{name_in, hold}
use Rattle.blue_model.specs.Devices.{timer_at}
use Rattle.blue_model.specs.Cycle.{is_message}
use Rattle.contexts.specs.declared.stop.Stop.TheVariants.{Mem}
use Rattle.contexts.specs.Serves.{Stands, Gives, Serves, HasRest}
use Rattle.contexts.proofs.CacheLaws.{sound_follows}
use Rattle.contexts.proofs.ServesLaws.{fits_later, Gives-after, serves_stop}
use Rattle.contexts.proofs.ReadLaws.{look_refused}
use Rattle.contexts.proofs.Steps.{done_serves}
use Rattle.devices.specs.States.{word_by, StaysThere}

-- ---- what stays

-- what is kept is there,
there_now : (h : Heap) (n : ℕ) → Has (kept h no_roots) n → Has h n
there_now h n there = let it = has (kept h no_roots) n there in ap is_some ((kept-part h no_roots).same n it.0 it.1)

-- and known or held,
stays_may : (t : Told) (to n : ℕ) → IsReady t → (IsTrue t.tells → Has (kept t.heap no_roots) n) → MayDo t (Known to n)
stays_may t to n ready stays = record {
  heap = λ told.
      let bounded = IsWhole-bounded t.heap t.regs t.slots (ready.whole told) in
      (there_now t.heap n (stays told), left-part (kept t.heap no_roots) t.heap no_roots n (kept-part t.heap no_roots) bounded ((kept-fixed t.heap no_roots bounded).fixed n (stays told)));
  names = tt;
  slots = tt;
  ranges = tt;
}

-- and so it is after a call that was answered.
pub kept_after : {Z : Type 0} {z : Z} (old new : Told) (to n : ℕ) → IsReady old → IsReady new → Called old new (Does (Known to n)) (Ok z) → IsTrue old.tells → kept new.heap no_roots ≡ kept old.heap no_roots
kept_after {Z} {z} old new to n before ready x told =
    let whole = ready.whole (x.later.tells ∙ told) in
    kept-thinner old.heap new.heap no_roots (x.ok.heap told) whole.closed whole.known (λ k e. let no : ◌≡◌ {A = Bool} false true = e in absurd (cc)) (IsWhole-bounded old.heap old.regs old.slots (before.whole told))

pub stays_on : (h s : Heap) (name : Option ℕ) → kept s no_roots ≡ kept h no_roots → StaysThere h name → StaysThere s name
stays_on h s None e stays = tt
stays_on h s (Some n) e stays = subst (λ (x : Heap). Has x n) (sym e) stays

-- ---- a name in a register

is_low : (r : ℕ) → r < 10 → nat_lt r MACHINE_REGISTERS ≡ true
is_low r low = grind (arith, nat_tests)

-- the register took the name,
name_serves : {Z : Type 0} {z : Z} {old new : Told} {cpu : Cpu} (to n : ℕ) → to < 10 → IsReady old → IsReady new → (IsTrue old.tells → Has (kept old.heap no_roots) n) → new.regs to ≡ Ref n → Called old new (Does (Known to n)) (Ok z) → Serves old cpu new cpu (hold to (Some n)) (Ok tt)
unfolding ◌>>=◌ done look known put_register
name_serves {Z} {z} {old} {new} {cpu} to n low before ready stays name x = record {
  later = x.later;
  ready = ready;
  reason = tt;
  counts = (0, record { counts = x.ok.counts; next = λ told. (let same = (x.ok.heap told).next in omega arith) });
  vault = λ may. may;
  silent = x.ok.transcript;
  model = λ told m st.
      let it = has old.heap n (there_now old.heap n (stays told)) in
      let at : m.heap.at n ≡ Some it.0 = st.heap.same n it.0 it.1 in
      subst (λ (o : Option Object). Gives new cpu (Ok tt) (then_do (then_do (looked m (Ref n) o) (λ o. done (Ref n))) (put_register to))) (sym at)
      (Gives-after None new cpu (rows_at m (Ref n) ++ []) (placed m to (Ref n) (is_some (m.heap.at n))) (Ok tt)
      (subst (λ b. Gives new cpu (Ok tt) (placed m to (Ref n) b)) (sym (ap is_some at)) (refl, stands told m st)));
}
  where
    taken : (r : ℕ) (u v : Value) → u ≡ v → cond (eqb r to) (Ref n) u ≡ cond (eqb r to) (Ref n) v
    taken r u v e = ap (λ w. cond (eqb r to) (Ref n) w) e

    now : new.regs ≡ set_register old.regs to (Ref n)
    now = x.ok.regs ∙ ap (λ v. set_register old.regs to v) name

    stands : (told : IsTrue old.tells) (m : Machine) → Stands old cpu m → Stands new cpu (record m { regs = cond (nat_lt to MACHINE_REGISTERS) (set_register m.regs to (Ref n)) m.regs })
    stands told m st = record {
      heap = heap_over m.heap old new (Known to n) st.heap before x.ok told;
      regs = λ r below. ap (λ (b : Bool). let f : ℕ → Value = cond b (set_register m.regs to (Ref n)) m.regs in f r) (is_low to low) ∙ taken r (m.regs r) (old.regs r) (st.regs r below) ∙ sym (ap (λ (f : ℕ → Value). f r) now);
      slots = st.slots ∙ sym x.ok.slots;
      numbers = st.numbers;
      fits = fits_later old.bounds new.bounds m.largest x.later.bounds st.fits;
      transcript = λ speaks. (let spoke = sym x.later.speaks ∙ speaks in x.ok.transcript spoke ∙ st.transcript spoke);
      cache = sound_follows old new (Does (Known to n)) before ready x.ok told (x.later.tells ∙ told) st.cache;
    }

-- or was refused it.
name_refused : {Z : Type 0} {old new : Told} {cpu : Cpu} {f : MemFault} (to n : ℕ) → IsReady old → (IsTrue old.tells → Has (kept old.heap no_roots) n) → Called {A = Z} old new (Does (Known to n)) (Err f) → Serves old cpu new cpu (hold to (Some n)) (Err (Mem f))
unfolding known
name_refused {Z} {old} {new} {cpu} {f} to n ready stays x =
    serves_stop (put_register to) (look_refused (Ref n) (Known to n) (λ o. done (Ref n)) tt (λ low. (let no : 1 ≤ 0 = low in absurd (omega arith))) (λ says. says) refl ready (λ told. (n, refl, there_now old.heap n (stays told))) x)

-- ---- words of a state

-- the name of a word is the one that it was made of
pub named_word : (name : Option ℕ) (n : ℕ) → name ≡ Some n → 0 < n → name_in (word_by name) ≡ name
named_word name zero e above = absurd (omega arith)
named_word name (suc n) e above = subst (λ o. name_in (word_by o) ≡ o) (sym e) refl

pub unnamed_word : (name : Option ℕ) → name ≡ None → name_in (word_by name) ≡ name
unnamed_word name e = subst (λ o. name_in (word_by o) ≡ o) (sym e) refl

-- the numbers of a machine that goes on, by the names
pub restored : (cpu : Cpu) (clock : ℕ) (display input timer : Option ℕ) (tick : ℕ) (shown heard set : Bool) (at : Option ℕ) → name_in (word_by display) ≡ display → name_in (word_by input) ≡ input → name_in (word_by timer) ≡ timer → shown ≡ is_some display → heard ≡ is_some input → set ≡ is_some timer → at ≡ timer_at set tick → record cpu { base = clock; display = shown; input = heard; timer = at } ≡ record cpu { base = clock; display = is_some (name_in (word_by display)); input = is_some (name_in (word_by input)); timer = timer_at (is_some (name_in (word_by timer))) tick }
restored cpu clock display input timer tick shown heard set at d i t e f g h =
    let one : shown ≡ is_some (name_in (word_by display)) = e ∙ sym (ap is_some d) in
    let two : heard ≡ is_some (name_in (word_by input)) = f ∙ sym (ap is_some i) in
    let three : at ≡ timer_at (is_some (name_in (word_by timer))) tick = h ∙ ap (λ b. timer_at b tick) (g ∙ sym (ap is_some t)) in
    ap (λ b. record cpu { base = clock; display = b; input = heard; timer = at }) one
    ∙ ap (λ b. record cpu { base = clock; display = is_some (name_in (word_by display)); input = b; timer = at }) two
    ∙ ap (λ o. record cpu { base = clock; display = is_some (name_in (word_by display)); input = is_some (name_in (word_by input)); timer = o }) three

-- ---- where there is a name

stays_of : (h : Heap) (name : Option ℕ) (n : ℕ) → name ≡ Some n → StaysThere h name → Has (kept h no_roots) n
stays_of h name n e stays = subst (StaysThere h) e stays

pub named_may : (t : Told) (to : ℕ) (name : Option ℕ) (n : ℕ) → name ≡ Some n → IsReady t → (IsTrue t.tells → StaysThere t.heap name) → MayDo t (Known to n)
named_may t to name n e ready stays = stays_may t to n ready (λ told. stays_of t.heap name n e (stays told))

pub named_serves : {Z : Type 0} {z : Z} {old new : Told} {cpu : Cpu} (to : ℕ) (name : Option ℕ) (n : ℕ) → name ≡ Some n → 0 < n → to < 10 → IsReady old → IsReady new → (IsTrue old.tells → StaysThere old.heap name) → new.regs to ≡ Ref n → Called old new (Does (Known to n)) (Ok z) → Serves old cpu new cpu (hold to (name_in (word_by name))) (Ok tt)
named_serves {Z} {z} {old} {new} {cpu} to name n e above low before ready stays is x =
    subst (λ o. Serves old cpu new cpu (hold to o) (Ok tt)) (sym (named_word name n e above ∙ e)) (name_serves to n low before ready (λ told. stays_of old.heap name n e (stays told)) is x)

pub named_refused : {Z : Type 0} {old new : Told} {cpu : Cpu} {f : MemFault} (to : ℕ) (name : Option ℕ) (n : ℕ) → name ≡ Some n → 0 < n → IsReady old → (IsTrue old.tells → StaysThere old.heap name) → Called {A = Z} old new (Does (Known to n)) (Err f) → Serves old cpu new cpu (hold to (name_in (word_by name))) (Err (Mem f))
named_refused {Z} {old} {new} {cpu} {f} to name n e above ready stays x =
    subst (λ o. Serves old cpu new cpu (hold to o) (Err (Mem f))) (sym (named_word name n e above ∙ e)) (name_refused to n ready (λ told. stays_of old.heap name n e (stays told)) x)

pub unnamed_serves : {t : Told} {cpu : Cpu} (to : ℕ) (name : Option ℕ) → name ≡ None → IsReady t → Serves t cpu t cpu (hold to (name_in (word_by name))) (Ok tt)
unnamed_serves {t} {cpu} to name e ready = subst (λ o. Serves t cpu t cpu (hold to o) (Ok tt)) (sym (unnamed_word name e ∙ e)) (done_serves ready)

-- ---- registers that rest

pub rests : (old new : Told) → ((r : ℕ) → (r ≡ DISPLAY → ⊥) → (r ≡ INPUT_SEMAPHORE → ⊥) → (r ≡ TIMER_SEMAPHORE → ⊥) → new.regs r ≡ old.regs r) → HasRest old → HasRest new
rests old new same rest = record {
  message = λ r is. same r (λ e. other r DISPLAY is e refl) (λ e. other r INPUT_SEMAPHORE is e refl) (λ e. other r TIMER_SEMAPHORE is e refl) ∙ rest.message r is;
  scratch = λ r above below. same r (λ e. omega arith) (λ e. omega arith) (λ e. omega arith) ∙ rest.scratch r above below;
}
  where
    other : (r k : ℕ) → IsTrue (is_message r) → r ≡ k → is_message k ≡ false → ⊥
    other r k is e none = let wrong : true ≡ false = sym is ∙ ap is_message e ∙ none in absurd (cc)
