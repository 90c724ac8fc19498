-- The class of a value.
use Rattle.std.proofs.Common.{◌≡◌, ℕ, ◌≤◌, [], ◌∷◌, Option, Some, None, Ok, Err, IsTrue, refl, sym, ◌∙◌, ap, subst, arith}
use Rattle.std.specs.Option.{option_and_then}
use Rattle.long_names.specs.declared.value.Value.{Value}
use Rattle.long_names.specs.declared.value.Value.TheVariants.{Int, Ref}
use Rattle.long_names.specs.declared.object.Object.{Object}
use Rattle.long_names.specs.Heap.{Heap}
use Rattle.long_names.specs.State.{name_at, class_at}
use Rattle.long_names.specs.Access.{Class}
use Rattle.long_names.specs.Thin.{IsThinner}
use Rattle.long_names.proofs.AccessLaws.{named-there}
use Rattle.object_memory.specs.declared.fault.Need.{Need}
use Rattle.object_memory.specs.declared.fault.MemFault.{MemFault}
use Rattle.object_memory.specs.Told.{Told, IsReady}
use Rattle.object_memory.specs.Contract.{Does, Called}
use Rattle.object_memory.proofs.LaterLaws.{IsLater-refl}
use Rattle.object_memory.proofs.LooksLaws.{Looks-access}
use Rattle.blue_model.specs.declared.cpu.Cpu.{Cpu}
use Rattle.blue_model.specs.Machine.{Machine, rows_at, classed, class_of, log_of}
use Rattle.long_names.specs.declared.limits.TheConstants.{MACHINE_REGISTERS}
use Rattle.contexts.specs.declared.stop.Stop.TheVariants.{Mem}
use Rattle.contexts.specs.Serves.{IsLogged, Gives, Serves}
use Rattle.contexts.proofs.ServesLaws.{IsCounted-refl}
use Rattle.contexts.proofs.Steps.{read_last}
use Rattle.contexts.proofs.ReadLaws.{scratch, quiet, row_refused}

-- what a thinner heap tells of a value's class, the heap has
class_same : (h s : Heap) → IsThinner h s → (v : Value) (n : ℕ) → class_at s v ≡ Some n → class_at h v ≡ Some n
class_same h s thinner (Int z) n e = e
class_same h s thinner (Ref k) n e = go (s.at k) refl e
  where
    go : (x : Option Object) → s.at k ≡ x → option_and_then (λ (o : Object). Some o.class) x ≡ Some n → option_and_then (λ (o : Object). Some o.class) (h.at k) ≡ Some n
    go None f g = let no : ◌≡◌ {A = Option ℕ} None (Some n) = g in absurd (cc)
    go (Some o) f g = ap (option_and_then (λ (o : Object). Some o.class)) (thinner.same k o f) ∙ g

class_here : {t : Told} {cpu : Cpu} (of : ℕ) (v : Value) → IsReady t → (IsTrue t.tells → (n : ℕ) × (class_at t.heap (t.regs of) ≡ Some n) × (Ref n ≡ v)) → Serves t cpu t cpu (class_of (t.regs of)) (Ok v)
unfolding class_of
class_here {t} {cpu} of v ready is = record {
  later = IsLater-refl t;
  ready = ready;
  reason = tt;
  counts = (0, IsCounted-refl t);
  vault = λ may. may;
  silent = λ speaks. refl;
  model = λ told m st. (let it = is told in subst (λ x. Gives t cpu (Ok v) (classed m (t.regs of) x)) (sym (class_same m.heap t.heap st.heap (t.regs of) it.0 it.1)) (it.2, st));
}

-- The class was loaded into a scratch register,
pub class_serves : {Z : Type 0} {z : Z} {old new : Told} {cpu : Cpu} (to of : ℕ) → MACHINE_REGISTERS ≤ to → IsReady old → IsReady new → Called old new (Does (Class to of)) (Ok z) → Serves old cpu new cpu (class_of (old.regs of)) (Ok (new.regs to))
class_serves {Z} {z} {old} {new} {cpu} to of above before ready x =
    read_last (class_here of (new.regs to) before (λ told. go (class_at old.heap (old.regs of)) refl (x.ok.brings told))) (quiet (to ∷ []) old new (scratch to above) before ready (Looks-access old new (Class to of) refl x))
  where
    go : (c : Option ℕ) → class_at old.heap (old.regs of) ≡ c → option_and_then (λ class. Some (Ref class)) c ≡ Some (new.regs to) → (n : ℕ) × (class_at old.heap (old.regs of) ≡ Some n) × (Ref n ≡ new.regs to)
    go None e f = let no : ◌≡◌ {A = Option Value} None (Some (new.regs to)) = f in absurd (cc)
    go (Some n) e f = (n, e, cc)

-- or refused.
pub class_refused : {Z : Type 0} {old new : Told} {cpu : Cpu} {f : MemFault} (to of : ℕ) → IsReady old → Called {A = Z} old new (Does (Class to of)) (Err f) → Serves old cpu new cpu (class_of (old.regs of)) (Err (Mem f))
unfolding class_of
class_refused {Z} {old} {new} {cpu} {f} to of ready x =
    row_refused (Ref (name_at (old.regs of))) (Class to of) (λ m need logged. go m need (class_at m.heap (old.regs of)) logged) tt (λ low. (let no : 1 ≤ 0 = low in absurd (omega arith))) (λ says. says) refl ready (λ told. (name_at (old.regs of), refl, named-there old.heap old.regs old.slots (ready.whole told) of)) x
  where
    go : (m : Machine) (need : Need) (c : Option ℕ) → IsLogged need (rows_at m (Ref (name_at (old.regs of)))) → IsLogged need (log_of (classed m (old.regs of) c))
    go m need None logged = logged
    go m need (Some n) logged = logged
