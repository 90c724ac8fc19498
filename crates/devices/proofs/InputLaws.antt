-- Semaphores that registers of the machine take, and counts.
use Rattle.std.proofs.Common.{◌≡◌, ℕ, pos, ◌<◌, nat_lt, Bool, true, false, Ok, sym, subst, arith}
use Rattle.std.proofs.lemmas.Bool.Decides.{nat_tests}
use Rattle.long_names.specs.declared.value.Value.TheVariants.{Int}
use Rattle.long_names.specs.State.{set_register}
use Rattle.object_memory.specs.Told.{Told, IsReady}
use Rattle.blue_model.specs.declared.cpu.Cpu.{Cpu}
use Rattle.long_names.specs.declared.limits.TheConstants.{MACHINE_REGISTERS}
use Rattle.blue_model.specs.Devices.{put_semaphore}
use Rattle.contexts.specs.Serves.{Serves}
use Rattle.contexts.proofs.RegisterLaws.{put_serves}
use Rattle.process_sched.proofs.RegisterLaws.{number_put}

is_low : (r : ℕ) → r < 10 → nat_lt r MACHINE_REGISTERS ≡ true
is_low r low = grind (arith, nat_tests)

pub put_there : {old new : Told} {cpu : Cpu} (to from : ℕ) (b : Bool) → to < 10 → b ≡ true → IsReady old → IsReady new → new ≡ (record old { regs = set_register old.regs to (old.regs from) }) → Serves old cpu new cpu (put_semaphore to (old.regs from) b) (Ok tt)
unfolding put_semaphore
put_there {old} {new} {cpu} to from b low is before ready e = subst (λ (x : Bool). Serves old cpu new cpu (put_semaphore to (old.regs from) x) (Ok tt)) (sym is) (put_serves to from (is_low to low) before ready e)

pub put_none : {old new : Told} {cpu : Cpu} (to from : ℕ) (b : Bool) → to < 10 → b ≡ false → IsReady new → new ≡ (record old { regs = set_register old.regs to (Int (pos 0)) }) → Serves old cpu new cpu (put_semaphore to (old.regs from) b) (Ok tt)
unfolding put_semaphore
put_none {old} {new} {cpu} to from b low is ready e = subst (λ (x : Bool). Serves old cpu new cpu (put_semaphore to (old.regs from) x) (Ok tt)) (sym is) (number_put to (pos 0) (is_low to low) ready e)
