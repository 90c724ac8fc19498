-- Runs of words that were read and written.
use Rattle.std.proofs.Common.{◌≡◌, ℕ, ◌+◌, ◌*◌, ◌-◌, ◌<◌, ◌≤◌, Bool, true, false, ◌&&◌, eqb, cond, List, [], length, take, drop, get_or, Option, Some, None, Result, Ok, Err, OnOk, IsTrue, is_some, refl, sym, ◌∙◌, ap, subst, arith}
use Rattle.std.proofs.lemmas.Grind.{common_steps}
use Rattle.blue_model.specs.Storage.{is_same}
use Rattle.std.proofs.lemmas.List.{get_or-take, get_or-drop}
use Rattle.std.specs.Option.{option_and_then, option_map_or}
use Rattle.long_names.specs.declared.value.Value.{Value}
use Rattle.long_names.specs.declared.value.Value.TheVariants.{Int, Ref}
use Rattle.long_names.specs.declared.object.Body.{Body}
use Rattle.long_names.specs.declared.object.Body.TheVariants.{Pointers, Words, Bytes, Method}
use Rattle.long_names.specs.declared.object.Object.{Object}
use Rattle.long_names.specs.Objects.{words_of, put_run, with_words}
use Rattle.long_names.specs.State.{IsRef, object_at, part_at}
use Rattle.long_names.specs.Access.{ReadWords, WriteWords, OfRun, Answer, answered, answer_of}
use Rattle.object_memory.specs.declared.fault.MemFault.{MemFault}
use Rattle.object_memory.specs.Told.{Told, IsReady}
use Rattle.object_memory.specs.Contract.{Does, MayDo, Called}
use Rattle.object_memory.specs.Shape.{HasPartAt, Looks}
use Rattle.object_memory.proofs.Callers.{any_there}
use Rattle.object_memory.proofs.LeftLaws.{stored_here, stored_apart, words_stored}
use Rattle.object_memory.proofs.LooksLaws.{has_looked, part_looked, regs_looked}
use Rattle.blue_model.specs.declared.cause.Cause.TheVariants.{Shape}
use Rattle.blue_model.specs.declared.cpu.Cpu.{Cpu}
use Rattle.blue_model.specs.Machine.{done, given, pick, part}
use Rattle.contexts.specs.declared.stop.Stop.{Stop}
use Rattle.contexts.specs.declared.stop.Stop.TheVariants.{Mem}
use Rattle.blue_model.specs.BitBlt.{put_words}
use Rattle.contexts.proofs.ServesLaws.{serves_then}
use Rattle.forms.specs.declared.form.Extent.{Extent}
use Rattle.bitblt.specs.Shapes.{OptionalRoom}
use Rattle.bitblt.proofs.BlitLaws.{words_served}
use Rattle.contexts.specs.Serves.{Serves}
use Rattle.contexts.proofs.Steps.{done_serves}
use Rattle.contexts.proofs.ReadLaws.{reached_one, reached_making, reached_saying, reached_need, look_refused, names_object, read_serves}
use Rattle.bitblt.specs.declared.transfer.Transfer.{Transfer}
use Rattle.bitblt.specs.Transfers.{IsShared, row_words}
use Rattle.bitblt.specs.Blits.{DEST_BITS, SOURCE_BITS, words_at, dest_words, source_words, shares, HasRooms, look_at_source, blit_words, IsWritten}

-- ---- what was read

run_of : (x : Option (List ℕ)) (at n : ℕ) (out : List ℕ) → answered (λ (words : List ℕ). OfRun (take n (drop at words))) x ≡ Some (OfRun out) → (k : ℕ) → k < n → get_or out k 0 ≡ get_or (option_map_or (λ (words : List ℕ). words) x []) (at + k) 0
run_of None at n out e k low = let no : ◌≡◌ {A = Option Answer} None (Some (OfRun out)) = e in absurd (cc)
run_of (Some words) at n out e k low =
    let same : take n (drop at words) ≡ out = cc in
    ap (λ (l : List ℕ). get_or l k 0) (sym same) ∙ get_or-take n (drop at words) k 0 low ∙ get_or-drop at words k 0

-- the words of the object that a register names, from a place on
pub run_read : (t : Told) (r at n : ℕ) (out : List ℕ) → answer_of t.heap t.regs (ReadWords r at n) ≡ Some (OfRun out) → (k : ℕ) → k < n → get_or out k 0 ≡ get_or (words_at t.heap (t.regs r)) (at + k) 0
run_read t r at n out e k low = run_of (part_at t.heap (t.regs r) words_of) at n out e k low

-- ---- the source

-- a read of it was refused,
pub source_refused : {Z : Type 0} {old new : Told} {cpu : Cpu} {e : MemFault} (has : Bool) (r at n : ℕ) → has ≡ true → IsReady old → IsRef (old.regs r) → Called {A = Z} old new (Does (ReadWords r at n)) (Err e) → Serves old cpu new cpu (look_at_source has (old.regs r)) (Err (Mem e))
unfolding look_at_source pick
source_refused {Z} {old} true r at n is ready named x = let a = ReadWords r at n in look_refused (old.regs r) a (λ o. done tt) (reached_one a r refl) (reached_making a r refl) (reached_saying a r refl) (reached_need old a r refl) ready (λ told. names_object old r ready told named) x
source_refused false r at n is ready named x = let no : ◌≡◌ {A = Bool} false true = is in absurd (cc)

-- it was read,
pub source_read : {old new : Told} {cpu : Cpu} (has : Bool) (r : ℕ) → has ≡ true → IsReady old → IsReady new → IsRef (old.regs r) → Looks [] old new → Serves old cpu new cpu (look_at_source has (old.regs r)) (Ok tt)
unfolding look_at_source pick part given
source_read {old} true r is before ready named looks = read_serves [] Shape (λ o. Some tt) r tt refl before ready looks (λ told. (let it = (any_there old r (λ b. tt) before named).there told in it.1))
source_read false r is before ready named looks = let no : ◌≡◌ {A = Bool} false true = is in absurd (cc)

-- and there is none.
pub source_none : {t : Told} {cpu : Cpu} (has : Bool) (s : Value) → has ≡ false → IsReady t → Serves t cpu t cpu (look_at_source has s) (Ok tt)
unfolding look_at_source pick
source_none true s is ready = let no : ◌≡◌ {A = Bool} true false = is in absurd (cc)
source_none false s is ready = done_serves ready

-- ---- rooms

-- a part of which something weaker holds
pub weaker : {A : Type 0} {t : Told} {r : ℕ} {f : Body → Option A} (P Q : A → Type 0) → ((x : A) → P x → Q x) → HasPartAt t r f P → HasPartAt t r f Q
weaker P Q step h = record { name = h.name; there = λ told. (let it = h.there told in (it.0, it.1, step it.0 it.2)) }

-- so many words lie in the destination
pub dest_room : (t : Transfer) (m : Told) → HasRooms t m → IsTrue m.tells → (n : ℕ) → n ≤ t.stride * t.bottom → n ≤ length (dest_words m)
dest_room t m rooms told n low =
    let it = rooms.dest.there told in
    let is : dest_words m ≡ it.0 = ap (λ (x : Option (List ℕ)). option_map_or (λ (l : List ℕ). l) x []) it.1 in
    let room = it.2 in
    subst (λ (l : List ℕ). n ≤ length l) (sym is) (omega (arith, low, room))

pub rooms_looked : (t : Transfer) (old new : Told) → IsReady new → Looks [] old new → HasRooms t old → HasRooms t new
rooms_looked t old new ready looks rooms = record {
  dest = has_looked [] old new DEST_BITS words_of _ ready looks refl rooms.dest;
  source = λ e. has_looked [] old new SOURCE_BITS words_of _ ready looks refl (rooms.source e);
}

pub rooms_written : {Z : Type 0} {z : Z} (t : Transfer) (old new : Told) (at : ℕ) (run : List ℕ) → IsReady new → MayDo old (WriteWords DEST_BITS at run) → Called old new (Does (WriteWords DEST_BITS at run)) (Ok z) → HasRooms t old → HasRooms t new
rooms_written t old new at run ready may x rooms = record {
  dest = words_stored old new (WriteWords DEST_BITS at run) DEST_BITS DEST_BITS (λ n. t.stride * t.bottom ≤ n) refl refl may ready x rooms.dest;
  source = λ e. words_stored old new (WriteWords DEST_BITS at run) DEST_BITS SOURCE_BITS (λ n. t.source_stride * (t.source_top + (t.bottom - t.top)) ≤ n) refl refl may ready x (rooms.source e);
}

-- the same words after reads
pub dest_looked : (old new : Told) → IsReady new → Looks [] old new → IsTrue old.tells → dest_words new ≡ dest_words old
dest_looked old new ready looks told = ap (λ (x : Option (List ℕ)). option_map_or (λ (l : List ℕ). l) x []) (part_looked [] old new DEST_BITS words_of ready looks refl told)

pub source_looked : (has : Bool) (old new : Told) → IsReady new → Looks [] old new → IsTrue old.tells → source_words has new ≡ source_words has old
source_looked has old new ready looks told = ap (λ (x : Option (List ℕ)). cond has (Some (option_map_or (λ (l : List ℕ). l) x [])) None) (part_looked [] old new SOURCE_BITS words_of ready looks refl told)

-- ---- what was written

words_written : (x : Option Object) (at : ℕ) (run ws : List ℕ) → option_and_then (λ (o : Object). words_of o.body) x ≡ Some ws → option_and_then (λ (o : Object). words_of (with_words o.body at run)) x ≡ Some (put_run ws at run)
words_written None at run ws e = let no : ◌≡◌ {A = Option (List ℕ)} None (Some ws) = e in absurd (cc)
words_written (Some o) at run ws e = go o.body e
  where
    go : (b : Body) → words_of b ≡ Some ws → words_of (with_words b at run) ≡ Some (put_run ws at run)
    go (Pointers values) e = let no : ◌≡◌ {A = Option (List ℕ)} None (Some ws) = e in absurd (cc)
    go (Words old) e = let same : old ≡ ws = cc in ap (λ (l : List ℕ). Some (put_run l at run)) same
    go (Bytes bytes) e = let no : ◌≡◌ {A = Option (List ℕ)} None (Some ws) = e in absurd (cc)
    go (Method header literals code) e = let no : ◌≡◌ {A = Option (List ℕ)} None (Some ws) = e in absurd (cc)

pub dest_written : {Z : Type 0} {z : Z} (t : Transfer) (old new : Told) (at : ℕ) (run : List ℕ) → IsReady new → Called old new (Does (WriteWords DEST_BITS at run)) (Ok z) → HasRooms t old → IsTrue old.tells → dest_words new ≡ put_run (dest_words old) at run
dest_written t old new at run ready x rooms told =
    let it = rooms.dest.there told in
    let was : dest_words old ≡ it.0 = ap (λ (x : Option (List ℕ)). option_map_or (λ (l : List ℕ). l) x []) it.1 in
    ap (λ (x : Option (List ℕ)). option_map_or (λ (l : List ℕ). l) x []) (stored_here old new (WriteWords DEST_BITS at run) DEST_BITS words_of refl refl ready x told ∙ words_written (object_at old.heap (old.regs DEST_BITS)) at run it.0 it.1)
    ∙ sym (ap (λ (l : List ℕ). put_run l at run) was)

-- values that are the same, and others
pub same_values : (v w : Value) → IsRef v → is_same v w ≡ true → v ≡ w
same_values (Int z) w ref e = absurd ref
same_values (Ref n) (Int z) ref e = let never : ◌≡◌ {A = Bool} false true = e in absurd (cc)
same_values (Ref n) (Ref k) ref e = let same : n ≡ k = grind (arith, common_steps, e) in ap (λ q. Ref q) same

other_values : (v w : Value) → IsRef v → is_same v w ≡ false → v ≡ w → ⊥
other_values (Int z) w ref e f = absurd ref
other_values (Ref n) (Int z) ref e f = cc
other_values (Ref n) (Ref k) ref e f = let same : n ≡ k = cc in let yes : eqb n k ≡ true = grind (arith, common_steps, same) in let clash : true ≡ false = sym yes ∙ e in cc

pub shared_written : {Z : Type 0} {z : Z} (t : Transfer) (old new : Told) (at : ℕ) (run words : List ℕ) → IsReady new → Called old new (Does (WriteWords DEST_BITS at run)) (Ok z) → HasRooms t old → IsTrue old.tells → dest_words new ≡ words
    → IsShared (shares t.has_source old) (source_words t.has_source old) (dest_words old) (source_words t.has_source new) words
shared_written t old new at run words ready x rooms told is = go t.has_source
  where
    regs : new.regs ≡ old.regs
    regs = x.ok.regs

    by_name : (b : Bool) → is_same (old.regs DEST_BITS) (old.regs SOURCE_BITS) ≡ b → IsShared b (Some (words_at old.heap (old.regs SOURCE_BITS))) (dest_words old) (Some (words_at new.heap (new.regs SOURCE_BITS))) words
    by_name true e =
        let same : old.regs DEST_BITS ≡ old.regs SOURCE_BITS = same_values (old.regs DEST_BITS) (old.regs SOURCE_BITS) rooms.dest.name e in (
          ap (λ (v : Value). Some (words_at old.heap v)) (sym same),
          ap (λ (g : ℕ → Value). Some (words_at new.heap (g SOURCE_BITS))) regs ∙ ap (λ (v : Value). Some (words_at new.heap v)) (sym same) ∙ sym (ap (λ (g : ℕ → Value). Some (words_at new.heap (g DEST_BITS))) regs) ∙ ap (λ (l : List ℕ). Some l) is,
        )
    by_name false e = ap (λ (x : Option (List ℕ)). Some (option_map_or (λ (l : List ℕ). l) x [])) (stored_apart old new (WriteWords DEST_BITS at run) DEST_BITS SOURCE_BITS words_of (other_values (old.regs DEST_BITS) (old.regs SOURCE_BITS) rooms.dest.name e) refl refl ready x told)

    go : (b : Bool) → IsShared (b && is_same (old.regs DEST_BITS) (old.regs SOURCE_BITS)) (cond b (Some (words_at old.heap (old.regs SOURCE_BITS))) None) (dest_words old) (cond b (Some (words_at new.heap (new.regs SOURCE_BITS))) None) words
    go true = by_name (is_same (old.regs DEST_BITS) (old.regs SOURCE_BITS)) refl
    go false = refl

-- the same two objects
pub shares_kept : (has : Bool) (old new : Told) → new.regs ≡ old.regs → shares has new ≡ shares has old
shares_kept has old new e = ap (λ (g : ℕ → Value). has && is_same (g DEST_BITS) (g SOURCE_BITS)) e

-- all of it, with reads before
pub is_written : {Z : Type 0} {z : Z} (t : Transfer) (old mid new : Told) (at : ℕ) (run words : List ℕ) → IsReady mid → IsReady new → Looks [] old mid → HasRooms t old → MayDo mid (WriteWords DEST_BITS at run) → Called mid new (Does (WriteWords DEST_BITS at run)) (Ok z)
    → (IsTrue old.tells → put_run (dest_words old) at run ≡ words) → IsWritten t old new words
is_written t old mid new at run words between ready looks rooms may x made = record {
  regs = (let stays : new.regs ≡ mid.regs = x.ok.regs in stays ∙ regs_looked old mid looks);
  rooms = rooms_written t mid new at run ready may x mid_rooms;
  dest = dest;
  shared = λ told.
      subst (λ b. IsShared b (source_words t.has_source old) (dest_words old) (source_words t.has_source new) words) (shares_kept t.has_source old mid (regs_looked old mid looks))
      (subst (λ (l : List ℕ). IsShared (shares t.has_source mid) (source_words t.has_source old) l (source_words t.has_source new) words) (dest_looked old mid between looks told)
      (subst (λ (s : Option (List ℕ)). IsShared (shares t.has_source mid) s (dest_words mid) (source_words t.has_source new) words) (source_looked t.has_source old mid between looks told)
      (shared_written t mid new at run words ready x mid_rooms (looks.later.tells ∙ told) (dest told))));
}
  where
    mid_rooms : HasRooms t mid
    mid_rooms = rooms_looked t old mid between looks rooms

    dest : IsTrue old.tells → dest_words new ≡ words
    dest told = dest_written t mid new at run ready x mid_rooms (looks.later.tells ∙ told) ∙ ap (λ (l : List ℕ). put_run l at run) (dest_looked old mid between looks told) ∙ made told

-- ---- after the source was read

pub row_looked : (t : Transfer) (old mid : Told) (halftone : List ℕ) (y : ℕ) → IsReady mid → Looks [] old mid → IsTrue old.tells
    → row_words t (source_words t.has_source mid) halftone (dest_words mid) y ≡ row_words t (source_words t.has_source old) halftone (dest_words old) y
row_looked t old mid halftone y ready looks told =
    ap (λ (s : Option (List ℕ)). row_words t s halftone (dest_words mid) y) (source_looked t.has_source old mid ready looks told)
    ∙ ap (λ (l : List ℕ). row_words t (source_words t.has_source old) halftone l y) (dest_looked old mid ready looks told)

pub source_then : {old mid new : Told} {cpu : Cpu} {r : Result (Unit {0}) Stop} (has : Bool) (s v : Value) (first second : List ℕ) → mid.regs DEST_BITS ≡ v → (IsTrue mid.tells → first ≡ second)
    → Serves old cpu mid cpu (look_at_source has s) (Ok tt) → Serves mid cpu new cpu (put_words (mid.regs DEST_BITS) first) r → Serves old cpu new cpu (blit_words has s v second) r
unfolding blit_words
source_then {old} {mid} {new} {cpu} {r} has s v first second is same f g =
    serves_then (λ _. put_words v second) f
    (words_served (put_words v) first second same (subst (λ w. Serves mid cpu new cpu (put_words w first) r) is g))

-- where there is no source, none is looked at first
pub none_then : {old new : Told} {cpu : Cpu} {r : Result (Unit {0}) Stop} (has : Bool) (s v : Value) (words : List ℕ) → has ≡ false → IsReady old → Serves old cpu new cpu (put_words v words) r → Serves old cpu new cpu (blit_words has s v words) r
unfolding blit_words
none_then {old} {new} {cpu} {r} has s v words lacks ready f = serves_then (λ _. put_words v words) (source_none {cpu = cpu} has s lacks ready) f

written_here : (t : Transfer) (old mid new : Told) (first second : List ℕ) → IsReady mid → Looks [] old mid → (IsTrue old.tells → first ≡ second) → IsWritten t mid new first → IsWritten t old new second
written_here t old mid new first second ready looks same w = record {
  regs = w.regs ∙ regs_looked old mid looks;
  rooms = w.rooms;
  dest = λ told. w.dest (looks.later.tells ∙ told) ∙ same told;
  shared = λ told.
      subst (λ b. IsShared b (source_words t.has_source old) (dest_words old) (source_words t.has_source new) second) (shares_kept t.has_source old mid (regs_looked old mid looks))
      (subst (λ (l : List ℕ). IsShared (shares t.has_source mid) (source_words t.has_source old) (dest_words old) (source_words t.has_source new) l) (same told)
      (subst (λ (l : List ℕ). IsShared (shares t.has_source mid) (source_words t.has_source old) l (source_words t.has_source new) first) (dest_looked old mid ready looks told)
      (subst (λ (s : Option (List ℕ)). IsShared (shares t.has_source mid) s (dest_words mid) (source_words t.has_source new) first) (source_looked t.has_source old mid ready looks told) (w.shared (looks.later.tells ∙ told)))));
}

pub written_later : (r : Result (Unit {0}) Stop) (t : Transfer) (old mid new : Told) (first second : List ℕ) → IsReady mid → Looks [] old mid → (IsTrue old.tells → first ≡ second) → OnOk r (IsWritten t mid new first) → OnOk r (IsWritten t old new second)
written_later (Ok u) t old mid new first second ready looks same w = written_here t old mid new first second ready looks same w
written_later (Err e) t old mid new first second ready looks same w = tt

-- the bits that a register names, where there is a form
pub optional_named : (t : Told) (r : ℕ) (halftone : Bool) (x : Option Extent) → is_some x ≡ true → OptionalRoom t r halftone x → IsRef (t.regs r)
optional_named t r halftone None e h = let never : ◌≡◌ {A = Bool} false true = e in absurd (cc)
optional_named t r halftone (Some x) e h = h.name
