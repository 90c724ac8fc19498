-- Reads of an object in the core, and what every access to it needs of the core.
use Rattle.std.proofs.Common.{◌≡◌, ℕ, ◌≤◌, true, Option, Some, None, Ok, IsTrue, refl, sym, ◌∙◌, ap, subst, arith}
use Rattle.long_names.specs.declared.value.Value.{Value}
use Rattle.long_names.specs.Heap.{Heap}
use Rattle.long_names.specs.Access.{Access, Known, Class, KindOf, Length, Header, Field, SetField, Word, SetWord, Byte, SetByte, ReadWords, WriteWords, ReadBytes, Make, Pin, Mark, Say, Swap, Answer, answer_of, target_of}
use Rattle.long_names.specs.Need.{words_alone, words_named}
use Rattle.long_names.proofs.ThinLemmas.{IsThinner-refl}
use Rattle.object_memory.specs.Told.{Told, Cache, Bounds}
use Rattle.object_memory.specs.Contract.{SameBounds, Raised, IfBounds, HasCore, Accessed, LeavesCache, no_names, makes}
use Rattle.loom_memory.specs.Gentle.{IsQuiet}
use Rattle.loom_memory.specs.Calls.{is_read}

-- the words of an access are those of the object of its register
alone : (h : Heap) (regs : ℕ → Value) (a : Access) (of : ℕ) → target_of a ≡ Some of → makes a ≡ 0 → words_alone h regs a ≤ words_named h (regs of)
alone h regs (Known to name) of e z = absurd (cc)
alone h regs (Class to k) of e z = let same : k ≡ of = (cc) in subst (λ (r : ℕ). words_named h (regs k) ≤ words_named h (regs r)) same (omega arith)
alone h regs (KindOf k) of e z = let same : k ≡ of = (cc) in subst (λ (r : ℕ). words_named h (regs k) ≤ words_named h (regs r)) same (omega arith)
alone h regs (Length k) of e z = let same : k ≡ of = (cc) in subst (λ (r : ℕ). words_named h (regs k) ≤ words_named h (regs r)) same (omega arith)
alone h regs (Header k) of e z = let same : k ≡ of = (cc) in subst (λ (r : ℕ). words_named h (regs k) ≤ words_named h (regs r)) same (omega arith)
alone h regs (Field to k i) of e z = let same : k ≡ of = (cc) in subst (λ (r : ℕ). words_named h (regs k) ≤ words_named h (regs r)) same (omega arith)
alone h regs (SetField k i from) of e z = let same : k ≡ of = (cc) in subst (λ (r : ℕ). words_named h (regs k) ≤ words_named h (regs r)) same (omega arith)
alone h regs (Word k i) of e z = let same : k ≡ of = (cc) in subst (λ (r : ℕ). words_named h (regs k) ≤ words_named h (regs r)) same (omega arith)
alone h regs (SetWord k i word) of e z = let same : k ≡ of = (cc) in subst (λ (r : ℕ). words_named h (regs k) ≤ words_named h (regs r)) same (omega arith)
alone h regs (Byte k i) of e z = let same : k ≡ of = (cc) in subst (λ (r : ℕ). words_named h (regs k) ≤ words_named h (regs r)) same (omega arith)
alone h regs (SetByte k i byte) of e z = let same : k ≡ of = (cc) in subst (λ (r : ℕ). words_named h (regs k) ≤ words_named h (regs r)) same (omega arith)
alone h regs (ReadWords k at count) of e z = let same : k ≡ of = (cc) in subst (λ (r : ℕ). words_named h (regs k) ≤ words_named h (regs r)) same (omega arith)
alone h regs (WriteWords k at run) of e z = let same : k ≡ of = (cc) in subst (λ (r : ℕ). words_named h (regs k) ≤ words_named h (regs r)) same (omega arith)
alone h regs (ReadBytes k at count) of e z = let same : k ≡ of = (cc) in subst (λ (r : ℕ). words_named h (regs k) ≤ words_named h (regs r)) same (omega arith)
alone h regs (Make to class what) of e z = absurd (cc)
alone h regs (Pin slot k) of e z = let same : k ≡ of = (cc) in subst (λ (r : ℕ). words_named h (regs k) ≤ words_named h (regs r)) same (omega arith)
alone h regs (Mark k) of e z = omega arith
alone h regs (Say k) of e z = let same : k ≡ of = (cc) in subst (λ (r : ℕ). words_named h (regs k) ≤ words_named h (regs r)) same (omega arith)
alone h regs (Swap k l) of e z = absurd (cc)

-- so each access to that object has room in the core
core-at : (t : Told) (b : Bounds) (of : ℕ) → (IsTrue t.tells → words_named t.heap (t.regs of) ≤ b.core) → (a : Access) → target_of a ≡ Some of → makes a ≡ 0 → HasCore t a b
core-at t b of most (Known to name) e z = λ told. let low = alone t.heap t.regs (Known to name) of e z in let all = most told in omega (arith, low, all)
core-at t b of most (Class to k) e z = λ told. let low = alone t.heap t.regs (Class to k) of e z in let all = most told in omega (arith, low, all)
core-at t b of most (KindOf k) e z = λ told. let low = alone t.heap t.regs (KindOf k) of e z in let all = most told in omega (arith, low, all)
core-at t b of most (Length k) e z = λ told. let low = alone t.heap t.regs (Length k) of e z in let all = most told in omega (arith, low, all)
core-at t b of most (Header k) e z = λ told. let low = alone t.heap t.regs (Header k) of e z in let all = most told in omega (arith, low, all)
core-at t b of most (Field to k i) e z = λ told. let low = alone t.heap t.regs (Field to k i) of e z in let all = most told in omega (arith, low, all)
core-at t b of most (SetField k i from) e z = λ told. let low = alone t.heap t.regs (SetField k i from) of e z in let all = most told in omega (arith, low, all)
core-at t b of most (Word k i) e z = λ told. let low = alone t.heap t.regs (Word k i) of e z in let all = most told in omega (arith, low, all)
core-at t b of most (SetWord k i word) e z = λ told. let low = alone t.heap t.regs (SetWord k i word) of e z in let all = most told in omega (arith, low, all)
core-at t b of most (Byte k i) e z = λ told. let low = alone t.heap t.regs (Byte k i) of e z in let all = most told in omega (arith, low, all)
core-at t b of most (SetByte k i byte) e z = λ told. let low = alone t.heap t.regs (SetByte k i byte) of e z in let all = most told in omega (arith, low, all)
core-at t b of most (ReadWords k at count) e z = λ told. let low = alone t.heap t.regs (ReadWords k at count) of e z in let all = most told in omega (arith, low, all)
core-at t b of most (WriteWords k at run) e z = λ told. let low = alone t.heap t.regs (WriteWords k at run) of e z in let all = most told in omega (arith, low, all)
core-at t b of most (ReadBytes k at count) e z = λ told. let low = alone t.heap t.regs (ReadBytes k at count) of e z in let all = most told in omega (arith, low, all)
core-at t b of most (Make to class what) e z = absurd (cc)
core-at t b of most (Pin slot k) e z = λ told. let low = alone t.heap t.regs (Pin slot k) of e z in let all = most told in omega (arith, low, all)
core-at t b of most (Mark k) e z = λ told. let low = alone t.heap t.regs (Mark k) of e z in let all = most told in omega (arith, low, all)
core-at t b of most (Say k) e z = λ told. let low = alone t.heap t.regs (Say k) of e z in let all = most told in omega (arith, low, all)
core-at t b of most (Swap k l) e z = λ told. let low = alone t.heap t.regs (Swap k l) of e z in let all = most told in omega (arith, low, all)

pub core-has : (t u : Told) (b : Bounds) (of : ℕ) → IsQuiet t u → t.bounds ≡ Some b → (IsTrue t.tells → words_named u.heap (u.regs of) ≤ b.core) → (a : Access) → target_of a ≡ Some of → makes a ≡ 0 → IfBounds t.bounds (HasCore t a)
core-has t u b of quiet bound most a e z = subst (λ x. IfBounds x (HasCore t a)) (sym bound)
    (core-at t b of (λ told. subst (λ (n : ℕ). n ≤ b.core) (ap (λ (x : Told). words_named x.heap (x.regs of)) quiet.same) (most told)) a e z)

-- an access that only reads is answered
read-at : {A : Type 0} (t : Told) (b : Option Bounds) (c : Cache) (a : Access) (spell : A → Answer) (x : A) → is_read a ≡ true → SameBounds t.bounds b → Raised 0 t.bounds b → LeavesCache no_names None t.cache t.cache c → (IsTrue t.tells → answer_of t.heap t.regs a ≡ Some (spell x)) → IfBounds t.bounds (HasCore t a)
    → Accessed {A = A} t (record t { bounds = b; cache = c }) a spell (Ok x)
read-at {A} t b c (Known to name) spell x is same counts left answer core = absurd (cc)
read-at {A} t b c (Class to k) spell x is same counts left answer core = absurd (cc)
read-at {A} t b c (KindOf k) spell x is same counts left answer core = record {
  called = record {
    later = record { tells = refl; speaks = refl; bounds = same; refusals = omega arith };
    ok = record { regs = refl; brings = λ told. refl; slots = refl; transcript = λ told. refl; heap = λ told. IsThinner-refl t.heap; cache = left; counts = counts; base = tt; refusals = refl; last = refl };
    err = tt;
  };
  answer = answer;
  named = λ make told. absurd (omega arith);
  core = core;
}
read-at {A} t b c (Length k) spell x is same counts left answer core = record {
  called = record {
    later = record { tells = refl; speaks = refl; bounds = same; refusals = omega arith };
    ok = record { regs = refl; brings = λ told. refl; slots = refl; transcript = λ told. refl; heap = λ told. IsThinner-refl t.heap; cache = left; counts = counts; base = tt; refusals = refl; last = refl };
    err = tt;
  };
  answer = answer;
  named = λ make told. absurd (omega arith);
  core = core;
}
read-at {A} t b c (Header k) spell x is same counts left answer core = record {
  called = record {
    later = record { tells = refl; speaks = refl; bounds = same; refusals = omega arith };
    ok = record { regs = refl; brings = λ told. refl; slots = refl; transcript = λ told. refl; heap = λ told. IsThinner-refl t.heap; cache = left; counts = counts; base = tt; refusals = refl; last = refl };
    err = tt;
  };
  answer = answer;
  named = λ make told. absurd (omega arith);
  core = core;
}
read-at {A} t b c (Field to k i) spell x is same counts left answer core = absurd (cc)
read-at {A} t b c (SetField k i from) spell x is same counts left answer core = absurd (cc)
read-at {A} t b c (Word k i) spell x is same counts left answer core = record {
  called = record {
    later = record { tells = refl; speaks = refl; bounds = same; refusals = omega arith };
    ok = record { regs = refl; brings = λ told. refl; slots = refl; transcript = λ told. refl; heap = λ told. IsThinner-refl t.heap; cache = left; counts = counts; base = tt; refusals = refl; last = refl };
    err = tt;
  };
  answer = answer;
  named = λ make told. absurd (omega arith);
  core = core;
}
read-at {A} t b c (SetWord k i word) spell x is same counts left answer core = absurd (cc)
read-at {A} t b c (Byte k i) spell x is same counts left answer core = record {
  called = record {
    later = record { tells = refl; speaks = refl; bounds = same; refusals = omega arith };
    ok = record { regs = refl; brings = λ told. refl; slots = refl; transcript = λ told. refl; heap = λ told. IsThinner-refl t.heap; cache = left; counts = counts; base = tt; refusals = refl; last = refl };
    err = tt;
  };
  answer = answer;
  named = λ make told. absurd (omega arith);
  core = core;
}
read-at {A} t b c (SetByte k i byte) spell x is same counts left answer core = absurd (cc)
read-at {A} t b c (ReadWords k at count) spell x is same counts left answer core = record {
  called = record {
    later = record { tells = refl; speaks = refl; bounds = same; refusals = omega arith };
    ok = record { regs = refl; brings = λ told. refl; slots = refl; transcript = λ told. refl; heap = λ told. IsThinner-refl t.heap; cache = left; counts = counts; base = tt; refusals = refl; last = refl };
    err = tt;
  };
  answer = answer;
  named = λ make told. absurd (omega arith);
  core = core;
}
read-at {A} t b c (WriteWords k at run) spell x is same counts left answer core = absurd (cc)
read-at {A} t b c (ReadBytes k at count) spell x is same counts left answer core = record {
  called = record {
    later = record { tells = refl; speaks = refl; bounds = same; refusals = omega arith };
    ok = record { regs = refl; brings = λ told. refl; slots = refl; transcript = λ told. refl; heap = λ told. IsThinner-refl t.heap; cache = left; counts = counts; base = tt; refusals = refl; last = refl };
    err = tt;
  };
  answer = answer;
  named = λ make told. absurd (omega arith);
  core = core;
}
read-at {A} t b c (Make to class what) spell x is same counts left answer core = absurd (cc)
read-at {A} t b c (Pin slot k) spell x is same counts left answer core = absurd (cc)
read-at {A} t b c (Mark k) spell x is same counts left answer core = absurd (cc)
read-at {A} t b c (Say k) spell x is same counts left answer core = absurd (cc)
read-at {A} t b c (Swap k l) spell x is same counts left answer core = absurd (cc)

pub read-answered : {A : Type 0} (t u : Told) (a : Access) (spell : A → Answer) (x : A) → is_read a ≡ true → IsQuiet t u → (IsTrue t.tells → answer_of u.heap u.regs a ≡ Some (spell x)) → IfBounds t.bounds (HasCore t a) → Accessed {A = A} t u a spell (Ok x)
read-answered {A} t u a spell x is quiet answer core = subst (λ (v : Told). Accessed {A = A} t v a spell (Ok x)) (sym quiet.same)
    (read-at {A = A} t u.bounds u.cache a spell x is quiet.bounds quiet.counts quiet.cache (λ told. ap (λ (v : Told). answer_of v.heap v.regs a) (sym quiet.same) ∙ answer told) core)
