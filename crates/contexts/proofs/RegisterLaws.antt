-- Registers and slots of the machine.
use Rattle.std.proofs.Common.{◌≡◌, ℕ, ℤ, pos, ◌<◌, ◌≤◌, nat_lt, nat_le, Bool, true, false, ◌&&◌, cond, if◌then◌else◌, eqb, [], ◌∷◌, Option, Some, None, Ok, Err, IsTrue, inl, inr, refl, sym, ◌∙◌, ap, subst, arith}
use Rattle.std.proofs.lemmas.Grind.{common_steps}
use borrow.Author.Tests.{ltb-true}
use Rattle.long_names.specs.declared.value.Value.{Value}
use Rattle.long_names.specs.declared.value.Value.TheVariants.{Int, Ref}
use Rattle.long_names.specs.declared.object.Object.{Object}
use Rattle.long_names.specs.State.{ACTIVE_CONTEXT, HOME, METHOD, RECEIVER, IsRef, name_at, set_register, set_slot}
use Rattle.long_names.specs.Access.{Pin}
use Rattle.long_names.proofs.ThinLemmas.{has, IsThinner-refl}
use Rattle.object_memory.specs.declared.fault.Need.{Need}
use Rattle.object_memory.specs.declared.fault.MemFault.{MemFault}
use Rattle.object_memory.specs.Told.{Told, IsReady}
use Rattle.object_memory.specs.Contract.{Does, Called}
use Rattle.object_memory.proofs.LaterLaws.{SameBounds-refl, IsLater-refl, Raised-refl}
use Rattle.object_memory.proofs.LeftLaws.{heap_over}
use Rattle.object_memory.proofs.LooksLaws.{Looks-put, set_other}
use Rattle.blue_model.specs.declared.cause.Cause.TheVariants.{Shape}
use Rattle.blue_model.specs.declared.cpu.Cpu.{Cpu}
use Rattle.blue_model.specs.Machine.{Machine, row_of, rows_at, log_of, placed, put_register, unpinned, unpin_all, with_pin, pinned, pin}
use Rattle.long_names.specs.declared.limits.TheConstants.{MACHINE_REGISTERS}
use Rattle.blue_model.specs.Contexts.{put_context}
use Rattle.contexts.specs.declared.stop.Stop.TheVariants.{Stuck, Mem}
use Rattle.contexts.specs.Serves.{Stands, IsLogged, Gives, Serves}
use Rattle.contexts.proofs.CacheLaws.{sound_follows}
use Rattle.contexts.proofs.ServesLaws.{fits_later, IsCounted-refl, serves_then}
use Rattle.contexts.proofs.Steps.{IsQuiet}
use Rattle.contexts.proofs.ReadLaws.{scratch, quiet, object_refused}
use Rattle.contexts.proofs.StoreLaws.{held_there, thinned_here}

-- ---- pins

-- a pin that was answered
pub pin_serves : {Z : Type 0} {z : Z} {old new : Told} {cpu : Cpu} (slot of : ℕ) → IsReady old → IsReady new → IsRef (old.regs of) → Called old new (Does (Pin slot of)) (Ok z) → Serves old cpu new cpu (pin slot (old.regs of)) (Ok tt)
unfolding pin
pin_serves {Z} {z} {old} {new} {cpu} slot of before ready named x = record {
  later = x.later;
  ready = ready;
  reason = tt;
  counts = (0, record { counts = x.ok.counts; next = λ told. (let same = (x.ok.heap told).next in omega arith) });
  vault = λ may. may;
  silent = x.ok.transcript;
  model = λ told m st. go told m st (old.regs of) refl named;
}
  where
    after : (told : IsTrue old.tells) (m : Machine) → Stands old cpu m → (n : ℕ) → old.regs of ≡ Ref n → Stands new cpu (with_pin m slot n)
    after told m st n e = record {
      heap = heap_over m.heap old new (Pin slot of) st.heap before x.ok told;
      regs = λ r low. st.regs r low ∙ sym (ap (λ (g : ℕ → Value). g r) x.ok.regs);
      slots = ap (λ (s : ℕ → Option ℕ). set_slot s slot (Some n)) st.slots ∙ sym (x.ok.slots ∙ ap (λ v. set_slot old.slots slot (Some (name_at v))) e);
      numbers = st.numbers;
      fits = fits_later old.bounds new.bounds m.largest x.later.bounds st.fits;
      transcript = λ speaks. (let spoke = sym x.later.speaks ∙ speaks in x.ok.transcript spoke ∙ st.transcript spoke);
      cache = sound_follows old new (Does (Pin slot of)) before ready x.ok told (x.later.tells ∙ told) st.cache;
    }

    go : (told : IsTrue old.tells) (m : Machine) → Stands old cpu m → (v : Value) → old.regs of ≡ v → IsRef v → Gives new cpu (Ok tt) (pin slot v m)
    go told m st (Int z) e named = absurd named
    go told m st (Ref n) e named =
        let it = has old.heap n ((before.whole told).rooted of n e) in
        subst (λ (o : Option Object). Gives new cpu (Ok tt) (pinned m slot n o)) (sym (st.heap.same n it.0 it.1)) (refl, after told m st n e)

-- One that was refused. Of the two rows in the log it is that of the slots before.
pub pin_refused : {Z : Type 0} {old new : Told} {cpu : Cpu} {f : MemFault} (slot of : ℕ) → IsReady old → IsRef (old.regs of) → Called {A = Z} old new (Does (Pin slot of)) (Err f) → Serves old cpu new cpu (pin slot (old.regs of)) (Err (Mem f))
unfolding pin
pin_refused {Z} {old} {new} {cpu} {f} slot of ready named x = object_refused of (Pin slot of) refl (λ m need row. logged m (old.regs of) need named row) ready (λ told. named) x
  where
    first : (m : Machine) (n : ℕ) (o : Option Object) (need : Need) → IsLogged need (row_of m n ∷ []) → IsLogged need (log_of (pinned m slot n o))
    first m n None need row = row
    first m n (Some o) need (inl row) = inl row
    first m n (Some o) need (inr row) = absurd row

    logged : (m : Machine) (v : Value) (need : Need) → IsRef v → IsLogged need (rows_at m v) → IsLogged need (log_of (pin slot v m))
    logged m (Int z) need named row = absurd named
    logged m (Ref n) need named row = first m n (m.heap.at n) need row

-- a number is not pinned
pub pin_stuck : {t : Told} {cpu : Cpu} (slot of : ℕ) → (IsRef (t.regs of) → ⊥) → Serves t cpu t cpu (pin slot (t.regs of)) (Err (Stuck Shape))
unfolding pin
pin_stuck {t} {cpu} slot of unnamed = record { later = IsLater-refl t; ready = tt; reason = tt; counts = tt; vault = tt; silent = λ speaks. refl; model = λ told m st. go m (t.regs of) unnamed }
  where
    go : (m : Machine) (v : Value) → (IsRef v → ⊥) → Gives {A = Unit {0}} t cpu (Err (Stuck Shape)) (pin slot v m)
    go m (Int z) unnamed = refl
    go m (Ref n) unnamed = absurd (unnamed tt)

-- The three slots were emptied.
pub unpin_serves : {old new : Told} {cpu : Cpu} → IsReady new → new ≡ (record old { slots = unpinned old.slots }) → Serves old cpu new cpu unpin_all (Ok tt)
unfolding unpin_all
unpin_serves {old} {new} {cpu} ready e = subst (λ (t : Told). Serves old cpu t cpu unpin_all (Ok tt)) (sym e) record {
  later = record { tells = refl; speaks = refl; bounds = SameBounds-refl old.bounds; refusals = omega arith };
  ready = subst IsReady e ready;
  reason = tt;
  counts = (0, record { counts = Raised-refl old.bounds; next = λ told. omega arith });
  vault = λ may. may;
  silent = λ speaks. refl;
  model = λ told m st. (
    refl,
    record {
      heap = st.heap;
      regs = st.regs;
      slots = ap unpinned st.slots;
      numbers = st.numbers;
      fits = st.fits;
      transcript = st.transcript;
      cache = st.cache;
    },
  );
}

-- a slot that a memory emptied, and three of them one after another
abbrev pub without_pin : Told → ℕ → Told
without_pin t slot = record t { slots = set_slot t.slots slot None }

pub without_pins : (a b c d : Told) → b ≡ without_pin a 0 → c ≡ without_pin b 1 → d ≡ without_pin c 2 → d ≡ (record a { slots = unpinned a.slots })
without_pins a b c d e f g = g ∙ ap (λ (t : Told). without_pin t 2) (f ∙ ap (λ (t : Told). without_pin t 1) e)

-- ---- registers

-- a register after one is set, in the machine and in the memory
set_both : (m t : ℕ → Value) (to : ℕ) (v : Value) (r : ℕ) → m r ≡ t r → set_register m to v r ≡ set_register t to v r
set_both m t to v r e = ap (λ x. cond (eqb r to) v x) e

-- A register of the machine took the value of a register.
pub put_serves : {old new : Told} {cpu : Cpu} (to from : ℕ) → nat_lt to MACHINE_REGISTERS ≡ true → IsReady old → IsReady new → new ≡ (record old { regs = set_register old.regs to (old.regs from) }) → Serves old cpu new cpu (put_register to (old.regs from)) (Ok tt)
unfolding put_register
put_serves {old} {new} {cpu} to from low before ready e = subst (λ (t : Told). Serves old cpu t cpu (put_register to (old.regs from)) (Ok tt)) (sym e) record {
  later = record { tells = refl; speaks = refl; bounds = SameBounds-refl old.bounds; refusals = omega arith };
  ready = subst IsReady e ready;
  reason = tt;
  counts = (0, record { counts = Raised-refl old.bounds; next = λ told. omega arith });
  vault = λ may. may;
  silent = λ speaks. refl;
  model = λ told m st.
      let there = held_there m.heap old.heap old.regs old.slots (thinned_here old cpu m before told st) from in
      subst (λ b. Gives (record old { regs = set_register old.regs to (old.regs from) }) cpu (Ok tt) (placed m to (old.regs from) b)) (sym there) (
        refl,
        record {
          heap = st.heap;
          regs = λ r below. ap (λ b. cond b (set_register m.regs to (old.regs from)) m.regs r) low ∙ set_both m.regs old.regs to (old.regs from) r (st.regs r below);
          slots = st.slots;
          numbers = st.numbers;
          fits = st.fits;
          transcript = st.transcript;
          cache = st.cache;
        },
      );
}

-- The same, where the value was read before.
pub put_serves_at : {old new : Told} {cpu : Cpu} (to from : ℕ) (v : Value) → nat_lt to MACHINE_REGISTERS ≡ true → old.regs from ≡ v → IsReady old → IsReady new → new ≡ (record old { regs = set_register old.regs to (old.regs from) }) → Serves old cpu new cpu (put_register to v) (Ok tt)
put_serves_at {old} {new} {cpu} to from v low is before ready e = subst (λ w. Serves old cpu new cpu (put_register to w) (Ok tt)) is (put_serves to from low before ready e)

-- a register that took the value of another
abbrev pub with_copy : Told → ℕ → ℕ → Told
with_copy t to from = record t { regs = set_register t.regs to (t.regs from) }

-- The registers of a context, one after another. Its home, its method and its receiver stand in scratch registers.
pub context_serves : {a b c d e : Told} {cpu : Cpu} (context home method receiver : ℕ) → MACHINE_REGISTERS ≤ home → MACHINE_REGISTERS ≤ method → MACHINE_REGISTERS ≤ receiver → IsReady a → IsReady b → IsReady c → IsReady d → IsReady e → b ≡ with_copy a ACTIVE_CONTEXT context → c ≡ with_copy b HOME home → d ≡ with_copy c METHOD method → e ≡ with_copy d RECEIVER receiver → Serves a cpu e cpu (put_context (a.regs context) (a.regs home) (a.regs method) (a.regs receiver)) (Ok tt)
unfolding put_context
context_serves {a} {b} {c} {d} {e} {cpu} context home method receiver above high far ra rb rc rd re one two three four =
    serves_then _ (put_serves ACTIVE_CONTEXT context refl ra rb one)
    (serves_then _ (put_serves_at HOME home (a.regs home) refl (kept a b home ACTIVE_CONTEXT context above one refl) rb rc two)
    (serves_then _ (put_serves_at METHOD method (a.regs method) refl (kept b c method HOME home high two refl ∙ kept a b method ACTIVE_CONTEXT context high one refl) rc rd three)
    (put_serves_at RECEIVER receiver (a.regs receiver) refl (kept c d receiver METHOD method far three refl ∙ kept b c receiver HOME home far two refl ∙ kept a b receiver ACTIVE_CONTEXT context far one refl) rd re four)))
  where
    kept : (s t : Told) (r to from : ℕ) → MACHINE_REGISTERS ≤ r → t ≡ with_copy s to from → nat_lt to MACHINE_REGISTERS ≡ true → t.regs r ≡ s.regs r
    kept s t r to from above e low =
        let small = ltb-true to MACHINE_REGISTERS low in
        let apart : eqb r to ≡ false = grind (arith, common_steps) in
        ap (λ (x : Told). x.regs r) e ∙ set_other s.regs to (s.regs from) r apart

-- A scratch register that took a value, a number or that of a register, is quiet.
pub put_quiet : (old new : Told) (to : ℕ) (v : Value) → MACHINE_REGISTERS ≤ to → IsReady old → IsReady new → new ≡ (record old { regs = set_register old.regs to v }) → IsQuiet old new
put_quiet old new to v above before ready e = quiet (to ∷ []) old new (scratch to above) before ready (Looks-put old new to v e)

pub int_quiet : (old new : Told) (to : ℕ) (z : ℤ) → MACHINE_REGISTERS ≤ to → IsReady old → IsReady new → new ≡ (record old { regs = set_register old.regs to (Int z) }) → IsQuiet old new
int_quiet old new to z above before ready e = put_quiet old new to (Int z) above before ready e

pub copy_quiet : (old new : Told) (to from : ℕ) → MACHINE_REGISTERS ≤ to → IsReady old → IsReady new → new ≡ (record old { regs = set_register old.regs to (old.regs from) }) → IsQuiet old new
copy_quiet old new to from above before ready e = put_quiet old new to (old.regs from) above before ready e

-- registers from a scratch register on that were cleared are quiet
pub clear_quiet : (old new : Told) (from to : ℕ) → MACHINE_REGISTERS ≤ from → IsReady new → new ≡ (record old { regs = new.regs }) → ((r : ℕ) → new.regs r ≡ (if nat_le from r && nat_lt r to then Int (pos 0) else old.regs r)) → IsQuiet old new
clear_quiet old new from to above ready e regs = subst (λ (t : Told). IsQuiet old t) (sym e) (record {
  later = record { tells = refl; speaks = refl; bounds = (IsLater-refl old).bounds; refusals = omega arith };
  regs = λ r low. regs r ∙ kept r (nat_lt r to) (below r low);
  slots = refl;
  heap = λ told. IsThinner-refl old.heap;
  ready = subst IsReady e ready;
  counts = record { counts = (IsCounted-refl old).counts; next = λ told. (IsCounted-refl old).next told };
  silent = λ speaks. refl;
  sound = λ before told s. s;
})
  where
    below : (r : ℕ) → r < MACHINE_REGISTERS → nat_le from r ≡ false
    below r low = grind (arith, common_steps)

    kept : (r : ℕ) (b : Bool) → nat_le from r ≡ false → (if nat_le from r && b then Int (pos 0) else old.regs r) ≡ old.regs r
    kept r b e = ap (λ a. if a && b then Int (pos 0) else old.regs r) e
