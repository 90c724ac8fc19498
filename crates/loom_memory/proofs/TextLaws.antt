-- What an object in the core says: its bytes, a run of them, and all of them.
use Rattle.std.proofs.Common.{◌≡◌, ℕ, ◌+◌, ◌≤◌, Bool, true, false, List, length, take, drop, sym, ◌∙◌, ap, subst, arith, Option, Some, None, IsTrue, MatchBool, refl, Result, Ok, Err}
use Rattle.std.proofs.lemmas.List.{take_all}
use Rattle.std.specs.Result.{OnOk, IfErr}
use Rattle.long_names.specs.declared.value.Value.{Value}
use Rattle.long_names.specs.declared.object.Kind.{Kind}
use Rattle.long_names.specs.declared.object.Kind.TheVariants as kind
use Rattle.long_names.specs.Objects.{bytes_of, text_of}
use Rattle.long_names.specs.Access.{Say, Nothing, said_by}
use Rattle.object_memory.specs.declared.fault.MemFault.{MemFault}
use Rattle.object_memory.specs.declared.fault.MemFault.TheVariants.{CoreFull, WorkFull, WorkFault, Damaged, NamesSpent, Said, Memory}
use Rattle.object_memory.specs.Told.{Told, IsReady}
use Rattle.object_memory.specs.Contract.{Accessed, HasCore, IfBounds, KeepsSound, LeavesAll}
use Rattle.loom_host.specs.declared.outside.Host.{Ghosts}
use Rattle.object_table.specs.declared.entry.Entry.{Entry}
use Rattle.object_table.specs.Entries.{place_of}
use Rattle.core_view.specs.Core.{Core}
use Rattle.core_view.specs.Words.{bytes_in, body_in}
use Rattle.core_view.specs.Held.{fields_there, object_at}
use Rattle.core_view.specs.Kept.{IsCore}
use Rattle.disk_objects.specs.Function.{disk_of}
use Rattle.leaf_lambda.specs.declared.parts.Parts.{Parts}
use Rattle.leaf_lambda.specs.Parts.{core_of}
use Rattle.leaf_lambda.proofs.MergeLaws.{length-drop-of, length-take-of}
use Rattle.loom_memory.specs.declared.memory.LoomMemory.{LoomMemory}
use Rattle.loom_memory.specs.Memory.{loom_told, IsRefused}
use Rattle.loom_memory.specs.Gentle.{IsQuiet}
use Rattle.loom_memory.specs.Bodies.{OfBody, HasRun, LacksRun, bytes_from}
use Rattle.loom_memory.specs.Calls.{IsLoaded}
use Rattle.loom_memory.specs.Says.{IsSaid, IsText, text_at}
use Rattle.loom_memory.proofs.AccessLaws.{refused-is}
use Rattle.loom_memory.proofs.BodyLaws.{bytes-at, bytes-room-at, bytes-count, part-here}
use Rattle.loom_memory.proofs.SayLaws.{said-none, said-answered, said-ready}

-- ---- the body

-- a body of bytes says them
pub text-is : (entries : ℕ → Entry) (old : List Value) (ws : List ℕ) (k : Kind) (len : ℕ) → k ≡ kind.Bytes → text_of (body_in entries old ws k len) ≡ Some (take len (bytes_in ws))
unfolding body_in
text-is entries old ws kind.Pointers len is = cc
text-is entries old ws kind.Words len is = cc
text-is entries old ws kind.Bytes len is = refl
text-is entries old ws kind.Method len is = cc

-- and no other body says anything
pub text-none : (entries : ℕ → Entry) (old : List Value) (ws : List ℕ) (k : Kind) (len : ℕ) → (k ≡ kind.Bytes → ⊥) → text_of (body_in entries old ws k len) ≡ None
unfolding body_in
text-none entries old ws kind.Pointers len not = refl
text-none entries old ws kind.Words len not = refl
text-none entries old ws kind.Bytes len not = absurd (not refl)
text-none entries old ws kind.Method len not = refl

first-of : (c : Core) (s p : ℕ) → (c.entries s).kind ≡ kind.Bytes → bytes_from (c.entries s).kind (c.chunks p).words ≡ Some 0
first-of c s p is = ap (λ (k : Kind). bytes_from k (c.chunks p).words) is

pub text-long : (c : Core) (s p : ℕ) → IsCore c → place_of (c.entries s).state ≡ Some p → (c.entries s).kind ≡ kind.Bytes → length (text_at c s p) ≡ (c.entries s).len
text-long c s p core at is = bytes-count (c.chunks p).words (c.entries s).len 0 (bytes-room-at c s p 0 core at (first-of c s p is))

-- ---- a run

run-text : (b : Bool) (part : Option (List ℕ)) (all run : List ℕ) (i count : ℕ) → MatchBool b (HasRun part i count run) (LacksRun part i count) → part ≡ Some all → i + count ≤ length all → run ≡ take count (drop i all)
run-text true part all run i count has is room = has.2 ∙ ap (λ (xs : List ℕ). take count (drop i xs)) (some (sym has.1 ∙ is))
  where
    some : Some has.0 ≡ Some all → has.0 ≡ all
    some e = cc
run-text false part all run i count lacks is room = absurd (lacks all is room)

-- a run of the bytes of an object
pub record IsRunOf (all run : List ℕ) (i count : ℕ) : Type 0 where
  pub bytes : run ≡ take (length run) (drop i all)
  pub long : length run ≡ count

run-of : (all run : List ℕ) (i count : ℕ) → run ≡ take count (drop i all) → i + count ≤ length all → IsRunOf all run i count
run-of all run i count is room =
    let rest = length-drop-of i all in
    let long : length run ≡ count = ap length is ∙ length-take-of count (drop i all) (omega arith) in
    record { bytes = is ∙ ap (λ (n : ℕ). take n (drop i all)) (sym long); long = long }

pub text-run : (b : Bool) (c : Core) (s p i count : ℕ) (run : List ℕ) → IsCore c → place_of (c.entries s).state ≡ Some p → (c.entries s).kind ≡ kind.Bytes → i + count ≤ (c.entries s).len → OfBody c s (λ body. MatchBool b (HasRun (bytes_of body) i count run) (LacksRun (bytes_of body) i count)) → IsRunOf (text_at c s p) run i count
text-run b c s p i count run core at is room each =
    let long = text-long c s p core at is in
    run-of (text_at c s p) run i count (run-text b _ (text_at c s p) run i count (each (λ n. None) p at) (bytes-at c (λ n. None) s p 0 core at (first-of c s p is)) (omega arith)) (omega arith)

-- an object that was loaded and has bytes says them
pub text-loaded : {H : Type 0} (host : Ghosts H) (m : LoomMemory H host) (of s : ℕ) → IsLoaded host m of s → ((core_of m.pager.levels.parts).entries s).kind ≡ kind.Bytes → IsText host m of s
text-loaded {H} host m of s there bytes =
    let e = (core_of m.pager.levels.parts).entries s in
    record {
      at = there.at;
      place = there.place;
      kind = bytes;
      says = λ told. part-here (loom_told host m) of (object_at (core_of m.pager.levels.parts) (disk_of host m.pager.levels.disk.host.now m.pager.levels.disk.rest) e there.at) text_of (Some (text_at (core_of m.pager.levels.parts) s there.at)) (there.object told)
          (text-is (core_of m.pager.levels.parts).entries (fields_there (disk_of host m.pager.levels.disk.host.now m.pager.levels.disk.rest e.name)) ((core_of m.pager.levels.parts).chunks there.at).words e.kind e.len bytes);
    }

-- the front of a buffer is as long as is asked for
pub front-long : (n : ℕ) (buffer : List ℕ) → n ≤ 256 → length buffer ≡ 256 → length (take n buffer) ≡ n
front-long n buffer few long = length-take-of n buffer (omega arith)

-- ---- pieces

-- the bytes are there while they are said
pub text-still : {H : Type 0} (host : Ghosts H) (m n : LoomMemory H host) (of s k : ℕ) → IsText host m of s → n.pager.levels.parts ≡ m.pager.levels.parts → IsSaid (loom_told host m) (loom_told host n) of k → IsText host n of s
text-still {H} host m n of s k text parts said = record {
  at = text.at;
  place = subst (λ (p : Parts). place_of ((core_of p).entries s).state ≡ Some text.at) (sym parts) text.place;
  kind = subst (λ (p : Parts). ((core_of p).entries s).kind ≡ kind.Bytes) (sym parts) text.kind;
  says = λ told. ap (λ (z : Told). said_by z.heap z.regs (Say of)) said.same ∙ text.says told ∙ ap (λ (p : Parts). Some (text_at (core_of p) s text.at)) (sym parts);
}

pub said-from : (r : Result (Unit {0}) MemFault) (t u v : Told) (of k : ℕ) → OnOk r ((t : Told) → IsSaid t u of 0 → IsSaid t v of k) → IsQuiet t u → OnOk r (IsSaid t v of k)
said-from (Ok x) t u v of k said quiet = said t (said-none t u of quiet)
said-from (Err f) t u v of k said quiet = tt

pub failed-from : (r : Result (Unit {0}) MemFault) (t u v : Told) (of : ℕ) → IfErr r (λ f. (t : Told) → IsReady t → IsSaid t u of 0 → IsRefused t v (Say of) f) → IsReady t → IsQuiet t u → IfErr r (IsRefused t v (Say of))
failed-from (Ok x) t u v of err ready quiet = tt
failed-from (Err f) t u v of err ready quiet = err t ready (said-none t u of quiet)

-- ---- the last step

pub say-last : (r : Result (Unit {0}) MemFault) (t v : Told) (of k : ℕ) → OnOk r (IsSaid t v of k) → IfErr r (IsRefused t v (Say of)) → (IsTrue t.tells → (all : List ℕ) × (said_by t.heap t.regs (Say of) ≡ Some all) × (take k all ≡ all)) → IfBounds t.bounds (HasCore t (Say of)) → Accessed {A = Unit {0}} t v (Say of) (λ _. Nothing) r
say-last (Ok x) t v of k said err whole core = said-answered t v of k said whole core
say-last (Err f) t v of k said err whole core = refused-is t v (Say of) (λ _. Nothing) f err

pub say-ready : (r : Result (Unit {0}) MemFault) (t v : Told) (of k : ℕ) → OnOk r (IsSaid t v of k) → IsReady t → OnOk r (IsReady v)
say-ready (Ok x) t v of k said ready = said-ready t v of k said ready
say-ready (Err f) t v of k said ready = tt

pub keeps-sound : (r : Result (Unit {0}) MemFault) (P : Type 0) → P → KeepsSound r P
keeps-sound (Ok x) P p = p
keeps-sound (Err f) P p = leaves f P p
  where
    leaves : (f : MemFault) (P : Type 0) → P → LeavesAll f P
    leaves (CoreFull need) P p = p
    leaves (WorkFull live room) P p = p
    leaves (WorkFault count) P p = tt
    leaves (Damaged place name) P p = tt
    leaves NamesSpent P p = p
    leaves (Said count) P p = p
    leaves Memory P p = p

-- all bytes of an object of the heap
pub all-said : (t u : Told) (of len : ℕ) (all : List ℕ) → IsQuiet t u → said_by u.heap u.regs (Say of) ≡ Some all → length all ≡ len → (all : List ℕ) × (said_by t.heap t.regs (Say of) ≡ Some all) × (take len all ≡ all)
all-said t u of len all quiet says long = (all, sym (ap (λ (z : Told). said_by z.heap z.regs (Say of)) quiet.same) ∙ says, take_all len all (omega arith))
