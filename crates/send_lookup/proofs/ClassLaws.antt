-- Rules that come to the same, a look at a number, and registers that reads fill.
use Rattle.std.proofs.Common.{◌≡◌, ℕ, List, [], ◌∷◌, false, ◌||◌, eqb, Option, Result, Ok, Err, OnOk, refl, sym, ap, subst}
use Rattle.long_names.specs.declared.value.Value.{Value}
use Rattle.long_names.specs.declared.value.Value.TheVariants.{Int, Ref}
use Rattle.long_names.specs.declared.object.Object.{Object}
use Rattle.long_names.specs.State.{IsRef, object_at}
use Rattle.object_memory.specs.Told.{Told}
use Rattle.object_memory.specs.Shape.{Looks, is_among}
use Rattle.object_memory.proofs.LaterLaws.{IsLater-refl}
use Rattle.object_memory.proofs.LooksLaws.{neither, Looks-weaker}
use Rattle.blue_model.specs.declared.cause.Cause.TheVariants.{Shape}
use Rattle.blue_model.specs.declared.cpu.Cpu.{Cpu}
use Rattle.blue_model.specs.Machine.{Machine, Rule, looked, ◌>>=◌, look}
use Rattle.contexts.specs.declared.stop.Stop.{Stop}
use Rattle.contexts.specs.declared.stop.Stop.TheVariants.{Stuck}
use Rattle.contexts.specs.Serves.{Gives, GivesAs, with_before, ServesAs, Serves}
use Rattle.contexts.proofs.ServesLaws.{serves_stop}

-- ---- rules that come to the same

pub serves_same : {A : Type 0} {w : Option A} {old new : Told} {cpu now : Cpu} {p q : Rule A} {answer : Result A Stop} → ((m : Machine) → q m ≡ p m) → ServesAs w old cpu new now p answer → ServesAs w old cpu new now q answer
serves_same {A} {w} {old} {new} {cpu} {now} {p} {q} {answer} same s = record {
  later = s.later;
  ready = s.ready;
  reason = s.reason;
  counts = s.counts;
  vault = s.vault;
  silent = s.silent;
  model = λ told m st. subst (GivesAs (with_before w old.transcript) new now answer) (sym (same m)) (s.model told m st);
}

-- ---- a look

-- a number names no object
pub look_stuck : {B : Type 0} {t : Told} {cpu : Cpu} (r : ℕ) (v : Value) (k : Object → Rule B) → t.regs r ≡ v → (IsRef (t.regs r) → ⊥) → Serves {A = B} t cpu t cpu (look v >>= k) (Err (Stuck Shape))
unfolding look
look_stuck {B} {t} {cpu} r v k is unnamed = serves_stop k record { later = IsLater-refl t; ready = tt; reason = tt; counts = tt; vault = tt; silent = λ speaks. refl; model = λ told m st. go m v (λ ref. unnamed (subst IsRef (sym is) ref)) }
  where
    go : (m : Machine) (v : Value) → (IsRef v → ⊥) → Gives {A = Object} t cpu (Err (Stuck Shape)) (looked m v (object_at m.heap v))
    go m (Int z) unnamed = refl
    go m (Ref n) unnamed = absurd (unnamed tt)

-- ---- what reads leave

-- reads that filled none,
pub looks_none : (xs : List ℕ) (a b : Told) → Looks [] a b → Looks xs a b
looks_none xs a b x = Looks-weaker [] xs a b (λ r e. refl) x

-- or the first register,
pub looks_first : (k : ℕ) (xs : List ℕ) (a b : Told) → Looks (k ∷ []) a b → Looks (k ∷ xs) a b
looks_first k xs a b x = Looks-weaker (k ∷ []) (k ∷ xs) a b (λ r e. ap (λ b. b || false) (neither (eqb r k) (is_among xs r) e).0) x

-- or the others,
pub looks_rest : (k : ℕ) (xs : List ℕ) (a b : Told) → Looks xs a b → Looks (k ∷ xs) a b
looks_rest k xs a b x = Looks-weaker xs (k ∷ xs) a b (λ r e. (neither (eqb r k) (is_among xs r) e).1) x

pub on_ok : {A E P Q : Type 0} (r : Result A E) → (P → Q) → OnOk r P → OnOk r Q
on_ok (Ok a) f p = f p
on_ok (Err e) f p = p
