-- Registers that are read and written as such.
use Rattle.std.proofs.Common.{◌≡◌, ℕ, ℤ, nat_lt, cond, eqb, ◌≤◌, true, Ok, refl, sym, ◌∙◌, ap, subst, arith}
use borrow.Author.Tests.{ltb-true}
use Rattle.long_names.specs.declared.value.Value.TheVariants.{Int}
use Rattle.long_names.specs.State.{set_register}
use Rattle.object_memory.specs.Told.{Told, IsReady}
use Rattle.object_memory.proofs.LaterLaws.{SameBounds-refl, IsLater-refl, Raised-refl}
use Rattle.object_memory.proofs.LooksLaws.{put_value}
use Rattle.blue_model.specs.declared.cpu.Cpu.{Cpu}
use Rattle.blue_model.specs.Machine.{register, put_register}
use Rattle.long_names.specs.declared.limits.TheConstants.{MACHINE_REGISTERS}
use Rattle.contexts.specs.Serves.{Serves}
use Rattle.contexts.proofs.ServesLaws.{IsCounted-refl}
use Rattle.contexts.proofs.Steps.{read_last}
use Rattle.contexts.proofs.RegisterLaws.{copy_quiet}

register_here : {t : Told} {cpu : Cpu} (r : ℕ) → nat_lt r MACHINE_REGISTERS ≡ true → IsReady t → Serves t cpu t cpu (register r) (Ok (t.regs r))
unfolding register
register_here {t} {cpu} r low ready = record {
  later = IsLater-refl t;
  ready = ready;
  reason = tt;
  counts = (0, IsCounted-refl t);
  vault = λ may. may;
  silent = λ speaks. refl;
  model = λ told m st. (st.regs r (ltb-true r MACHINE_REGISTERS low), st);
}

-- a register of the machine that was copied into a scratch register
pub register_copied : {old new : Told} {cpu : Cpu} (r to : ℕ) → nat_lt r MACHINE_REGISTERS ≡ true → MACHINE_REGISTERS ≤ to → IsReady old → IsReady new → new ≡ (record old { regs = set_register old.regs to (old.regs r) }) → Serves old cpu new cpu (register r) (Ok (new.regs to))
register_copied {old} {new} {cpu} r to low above before ready e = subst (λ v. Serves old cpu new cpu (register r) (Ok v)) (sym (put_value old new to (old.regs r) e)) (read_last (register_here r low before) (copy_quiet old new to r above before ready e))

-- a register of the machine took a number
pub number_put : {old new : Told} {cpu : Cpu} (to : ℕ) (z : ℤ) → nat_lt to MACHINE_REGISTERS ≡ true → IsReady new → new ≡ (record old { regs = set_register old.regs to (Int z) }) → Serves old cpu new cpu (put_register to (Int z)) (Ok tt)
unfolding put_register
number_put {old} {new} {cpu} to z low ready e = subst (λ (t : Told). Serves old cpu t cpu (put_register to (Int z)) (Ok tt)) (sym e) record {
  later = record { tells = refl; speaks = refl; bounds = SameBounds-refl old.bounds; refusals = omega arith };
  ready = subst IsReady e ready;
  reason = tt;
  counts = (0, record { counts = Raised-refl old.bounds; next = λ told. omega arith });
  vault = λ may. may;
  silent = λ speaks. refl;
  model = λ told m st. (
    refl,
    record {
      heap = st.heap;
      regs = λ r below. ap (λ b. cond b (set_register m.regs to (Int z)) m.regs r) low ∙ ap (λ x. cond (eqb r to) (Int z) x) (st.regs r below);
      slots = st.slots;
      numbers = st.numbers;
      fits = st.fits;
      transcript = st.transcript;
      cache = st.cache;
    },
  );
}
