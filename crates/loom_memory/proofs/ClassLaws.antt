-- The class of an object in the core comes into a register.
use Rattle.std.proofs.Common.{◌≡◌, ◌≢◌, ℕ, ◌||◌, Bool, true, refl, sym, ◌∙◌, ap, subst, arith, Option, Some, None, Ok, IsTrue}
use Rattle.std.specs.Option.{option_and_then}
use Rattle.long_names.specs.declared.value.Value.{Value}
use Rattle.long_names.specs.declared.value.Value.TheVariants.{Int, Ref}
use Rattle.long_names.specs.declared.object.Object.{Object}
use Rattle.std.specs.List.{list_any}
use Rattle.long_names.specs.Objects.{is_ref, fields_of}
use Rattle.long_names.specs.Thin.{IsClosed}
use Rattle.long_names.specs.Heap.{Heap, Has}
use Rattle.long_names.specs.State.{set_register, class_at, object_at as object_of_value}
use Rattle.long_names.specs.Access.{Class, Nothing, brought}
use Rattle.long_names.proofs.ThinLemmas.{IsThinner-refl}
use Rattle.object_memory.specs.Told.{Told, Cache, Bounds, IsReady}
use Rattle.object_memory.specs.Contract.{SameBounds, Raised, IfBounds, HasCore, Accessed, LeavesCache, no_names}
use Rattle.object_table.specs.Entries.{is_short}
use Rattle.loom_memory.specs.Gentle.{IsQuiet}
use Rattle.loom_memory.proofs.RegLaws.{ready-put}
use Rattle.loom_memory.proofs.MarkingLaws.{filled, eq-self}

pub class-answered : (t : Told) (b : Option Bounds) (c : Cache) (to of : ℕ) (v : Value) → SameBounds t.bounds b → Raised 0 t.bounds b → LeavesCache no_names None t.cache t.cache c → (IsTrue t.tells → brought t.heap t.regs (Class to of) ≡ Some v) → IfBounds t.bounds (HasCore t (Class to of))
    → Accessed {A = Unit {0}} t (record t { bounds = b; cache = c; regs = set_register t.regs to v }) (Class to of) (λ _. Nothing) (Ok tt)
class-answered t b c to of v same counts left brings core = record {
  called = record {
    later = record { tells = refl; speaks = refl; bounds = same; refusals = omega arith };
    ok = record {
      regs = ap (λ (w : Value). set_register t.regs to w) (sym (filled t.regs to v));
      brings = λ told. brings told ∙ ap Some (sym (filled t.regs to v));
      slots = refl;
      transcript = λ told. refl;
      heap = λ told. IsThinner-refl t.heap;
      cache = left;
      counts = counts;
      base = tt;
      refusals = refl;
      last = refl;
    };
    err = tt;
  };
  answer = λ told. refl;
  named = λ make told. absurd (omega arith);
  core = core;
}

-- the class of the object that a value names
pub class-there : (h : Heap) (v : Value) (o : Object) → object_of_value h v ≡ Some o → class_at h v ≡ Some o.class
class-there h (Int z) o e = cc
class-there h (Ref n) o e = ap (λ (x : Option Object). option_and_then (λ (o : Object). Some o.class) x) e

-- an object came, and its class into a register
pub class-access : (t u v : Told) (to of class : ℕ) → IsQuiet t u → v ≡ record u { regs = set_register u.regs to (Ref class) } → (IsTrue t.tells → class_at u.heap (u.regs of) ≡ Some class) → IfBounds t.bounds (HasCore t (Class to of)) → Accessed {A = Unit {0}} t v (Class to of) (λ _. Nothing) (Ok tt)
class-access t u v to of class quiet is there core =
    subst (λ (z : Told). Accessed {A = Unit {0}} t z (Class to of) (λ _. Nothing) (Ok tt)) (sym (is ∙ ap (λ (z : Told). record z { regs = set_register z.regs to (Ref class) }) quiet.same))
    (class-answered t u.bounds u.cache to of (Ref class) quiet.bounds quiet.counts quiet.cache
    (λ told. ap (λ (x : Option ℕ). option_and_then (λ class. Some (Ref class)) x) (sym (ap (λ (z : Told). class_at z.heap (z.regs of)) quiet.same) ∙ there told)) core)

-- it has an object
class-has : (h : Heap) (v : Value) (o : Object) → IsClosed h → object_of_value h v ≡ Some o → Has h o.class
class-has h (Int z) o closed e = cc
class-has h (Ref n) o closed e = closed n o o.class e (ap (λ (b : Bool). b || list_any (is_ref o.class) (fields_of o.body)) (eq-self o.class))

pub ready-class : (u : Told) (to of : ℕ) (o : Object) → IsReady u → (IsTrue u.tells → object_of_value u.heap (u.regs of) ≡ Some o) → IsReady (record u { regs = set_register u.regs to (Ref o.class) })
ready-class u to of o ready there = ready-put u to (Ref o.class) (λ k e told. let same : o.class ≡ k = cc in subst (λ (n : ℕ). Has u.heap n) same (class-has u.heap (u.regs of) o (ready.whole told).closed (there told))) ready

pub short-some : (w : ℕ) → is_short w ≡ true → w ≢ 0
short-some w is e = let none : is_short 0 ≡ true = subst (λ (k : ℕ). is_short k ≡ true) e is in cc
