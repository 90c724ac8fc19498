-- The numbers of a BitBlt, as calls find them one after the other.
use Rattle.std.proofs.Common.{◌≡◌, ℕ, ℤ, [], ◌∷◌, Option, Some, None, Ok, Err, refl, sym, ◌∙◌, ap, subst}
use Rattle.std.specs.Option.{option_and_then, option_map}
use Rattle.long_names.specs.declared.object.Object.{Object}
use Rattle.object_memory.specs.Told.{Told, IsReady}
use Rattle.object_memory.specs.Shape.{Looks}
use Rattle.blue_model.specs.declared.cpu.Cpu.{Cpu}
use Rattle.blue_model.specs.Parts.{number}
use Rattle.blue_model.specs.Trials.{peek}
use Rattle.blue_model.specs.BitBlt.{rule_number, asked_of}
use Rattle.contexts.specs.declared.stop.Stop.{Stop}
use Rattle.contexts.specs.Serves.{Serves}
use Rattle.contexts.proofs.ReadLaws.{looks_again}
use Rattle.bitblt.specs.declared.asked.Place.{Place}
use Rattle.bitblt.specs.Asking.{both, place_at, numbers_of}
use Rattle.contexts.proofs.PeekPairs.{later_fault, peek_join, peek_none, peek_made}
use Rattle.bitblt.proofs.AskedLaws.{rule_of, rule_makes, Steps, with_all, made_of, made_by, asked_makes}

-- calls found this in the BitBlt
pub record HasFound {A : Type 0} (old now : Told) (f : Object → Option A) (a : A) : Type 0 where
  pub looks : Looks (12 ∷ []) old now
  pub ready : IsReady now
  pub serves : (cpu : Cpu) → Serves old cpu now cpu (peek f (old.regs 10)) (Ok (Some a))

-- the number of a rule
by_number : (found : Option ℤ) (z y : ℤ) (r : Option ℕ) → found ≡ Some z → r ≡ rule_number y → y ≡ z → option_and_then rule_number found ≡ r
by_number found z y r is made same = ap (option_and_then rule_number) is ∙ ap rule_number (sym same) ∙ sym made

pub found_rule : {old now : Told} {found : Option ℤ} {z y : ℤ} {r : Option ℕ} (rule : ℕ) → IsReady old → Looks (12 ∷ []) old now → IsReady now → ((cpu : Cpu) → Serves old cpu now cpu (peek (number 14 3) (old.regs 10)) (Ok found)) → found ≡ Some z → r ≡ rule_number y → y ≡ z → r ≡ Some rule → HasFound old now rule_of rule
found_rule {old} {now} {found} {z} {y} {r} rule before looks ready s is made same some = record {
  looks = looks;
  ready = ready;
  serves = λ cpu. subst (λ (x : Option ℕ). Serves old cpu now cpu (peek rule_of (old.regs 10)) (Ok x)) (by_number found z y r is made same ∙ some) (peek_made (number 14 3) rule_of (option_and_then rule_number) 10 found rule_makes refl before (s cpu));
}

pub no_rule : {old now : Told} {cpu : Cpu} {found : Option ℤ} {z y : ℤ} {r : Option ℕ} → IsReady old → Serves old cpu now cpu (peek (number 14 3) (old.regs 10)) (Ok found) → found ≡ Some z → r ≡ rule_number y → y ≡ z → r ≡ None → ((o : Object) → rule_of o ≡ None → asked_of o ≡ None) → Serves old cpu now cpu (peek asked_of (old.regs 10)) (Ok None)
no_rule {old} {now} {cpu} {found} {z} {y} {r} before s is made same none lacks =
    peek_none rule_of asked_of 10 (option_and_then rule_number found) (by_number found z y r is made same ∙ none) lacks before
    (peek_made (number 14 3) rule_of (option_and_then rule_number) 10 found rule_makes refl before s)

pub no_number : {old now : Told} {cpu : Cpu} {found : Option ℤ} → IsReady old → Serves old cpu now cpu (peek (number 14 3) (old.regs 10)) (Ok found) → found ≡ None → ((o : Object) → rule_of o ≡ None → asked_of o ≡ None) → Serves old cpu now cpu (peek asked_of (old.regs 10)) (Ok None)
no_number {old} {now} {cpu} {found} before s none lacks = peek_none (number 14 3) asked_of 10 found none (λ o e. lacks o (rule_makes o ∙ ap (option_and_then rule_number) e)) before s

-- a place besides,
pub found_place : {A : Type 0} {old mid now : Told} {f : Object → Option A} {a : A} {found : Option Place} (i : ℕ) (p : Place) → IsReady old → HasFound old mid f a → Looks (12 ∷ []) mid now → IsReady now → ((cpu : Cpu) → Serves mid cpu now cpu (peek (place_at i) (mid.regs 10)) (Ok (option_map numbers_of found))) → found ≡ Some p → HasFound old now (λ o. both (f o) (place_at i o)) (a, numbers_of p)
found_place {A} {old} {mid} {now} {f} {a} {found} i p before h looks ready s is = record {
  looks = looks_again 12 old mid now h.ready h.looks looks;
  ready = ready;
  serves = λ cpu.
      subst (λ (x : Option Place). Serves old cpu now cpu (peek (λ o. both (f o) (place_at i o)) (old.regs 10)) (Ok (both (Some a) (option_map numbers_of x)))) is
      (peek_join f (place_at i) (λ o. both (f o) (place_at i o)) both 10 (Some a) (option_map numbers_of found) (λ o. refl) refl (h.looks.regs 10 refl) before (h.serves cpu) (s cpu));
}

-- none,
pub no_place : {A : Type 0} {old mid now : Told} {cpu : Cpu} {f : Object → Option A} {a : A} {found : Option Place} (i : ℕ) → IsReady old → HasFound old mid f a → Serves mid cpu now cpu (peek (place_at i) (mid.regs 10)) (Ok (option_map numbers_of found)) → found ≡ None → ((o : Object) → both (f o) (place_at i o) ≡ None → asked_of o ≡ None) → Serves old cpu now cpu (peek asked_of (old.regs 10)) (Ok None)
no_place {A} {old} {mid} {now} {cpu} {f} {a} {found} i before h s none lacks =
    peek_none (λ o. both (f o) (place_at i o)) asked_of 10 (both (Some a) (option_map numbers_of found)) (ap (λ (x : Option Place). both (Some a) (option_map numbers_of x)) none) lacks before
    (peek_join f (place_at i) (λ o. both (f o) (place_at i o)) both 10 (Some a) (option_map numbers_of found) (λ o. refl) refl (h.looks.regs 10 refl) before (h.serves cpu) s)

-- or a call that stopped.
pub stopped_place : {A : Type 0} {old mid now : Told} {cpu : Cpu} {f : Object → Option A} {a : A} {e : Stop} (i : ℕ) → IsReady old → HasFound old mid f a → Serves mid cpu now cpu (peek (place_at i) (mid.regs 10)) (Err e) → Serves old cpu now cpu (peek asked_of (old.regs 10)) (Err e)
stopped_place {A} {old} {mid} {now} {cpu} {f} {a} {e} i before h s = later_fault (12 ∷ []) (place_at i) asked_of 10 refl refl before h.ready h.looks s

-- all of them
pub found_all : {old now : Told} {a : Steps} (cpu : Cpu) → IsReady old → HasFound old now with_all a → Serves old cpu now cpu (peek asked_of (old.regs 10)) (Ok (Some (made_of a)))
found_all {old} {now} {a} cpu before h = peek_made with_all asked_of made_by 10 (Some a) asked_makes refl before (h.serves cpu)
