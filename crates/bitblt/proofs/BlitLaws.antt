-- Rules of a blit: words that are put one after the other, and calls that stopped on the way.
use Rattle.std.proofs.Common.{◌≡◌, ℕ, Bool, true, false, List, [], ◌∷◌, ◌++◌, length, Option, Some, None, Result, Ok, Err, IsTrue, is_some, ◌⊎◌, inl, inr, refl, sym, ◌∙◌, ap, subst, arith}
use Rattle.std.specs.Option.{option_and_then, option_map_or}
use Rattle.long_names.specs.declared.value.Value.{Value}
use Rattle.long_names.specs.declared.object.Body.{Body}
use Rattle.long_names.specs.declared.object.Object.{Object}
use Rattle.long_names.specs.Objects.{words_of, put_run, with_words}
use Rattle.long_names.specs.Heap.{Heap}
use Rattle.long_names.specs.State.{object_at, part_at}
use Rattle.long_names.specs.Access.{with_body}
use Rattle.object_memory.specs.declared.fault.Need.{Need}
use Rattle.object_memory.specs.declared.fault.MemFault.TheVariants.{CoreFull, WorkFull, WorkFault, Damaged, NamesSpent, Said, Memory}
use Rattle.object_memory.specs.Told.{Told, IsReady}
use Rattle.object_memory.proofs.LaterLaws.{IsLater-refl}
use Rattle.long_names.proofs.AccessLaws.{part-same}
use Rattle.blue_model.specs.declared.cpu.Cpu.{Cpu}
use Rattle.blue_model.specs.Machine.{Machine, LogRow, Outcome, Go, Rule, rows_at, looked, after, then_do, ◌>>=◌, ◌>>◌, done, pick, look, changed}
use Rattle.blue_model.specs.BitBlt.{put_words}
use Rattle.contexts.specs.declared.stop.Stop.{Stop}
use Rattle.contexts.specs.declared.stop.Stop.TheVariants.{Stuck, Mem}
use Rattle.contexts.specs.Serves.{Stands, IsLogged, HasMaking, Gives, Serves}
use Rattle.contexts.proofs.ServesLaws.{fits_later, IsCounted-refl, serves_then, by_model}
use Rattle.contexts.proofs.StoreLaws.{thinned_here, change_where}
use Rattle.contexts.proofs.CacheLaws.{sound_follows}
use Rattle.object_memory.specs.Contract.{Does, Called}
use Rattle.object_memory.proofs.LeftLaws.{heap_over}
use Rattle.long_names.specs.Access.{WriteWords}
use Rattle.bitblt.specs.declared.transfer.Transfer.{Transfer}
use Rattle.bitblt.specs.Blits.{DEST_BITS, SOURCE_BITS, dest_words, HasRooms, look_at_source, blit_words}
use Rattle.bitblt.proofs.ChangeLaws.{HasWords, put_machine, put_again, put_same, run_put, rows_put, words_put, still_there, next_same}

-- ---- logs

-- each row of a log is in another
pub record HasRows (xs ys : List LogRow) : Type 0 where
  pub needs : (need : Need) → IsLogged need xs → IsLogged need ys
  pub makings : (n : ℕ) → HasMaking n xs → HasMaking n ys

needs_either : (need : Need) (xs ys : List LogRow) → IsLogged need (xs ++ ys) → IsLogged need xs ⊎ IsLogged need ys
needs_either need [] ys h = inr h
needs_either need (x ∷ xs) ys (inl h) = inl (inl h)
needs_either need (x ∷ xs) ys (inr h) = go (needs_either need xs ys h)
  where
    go : IsLogged need xs ⊎ IsLogged need ys → IsLogged need (x ∷ xs) ⊎ IsLogged need ys
    go (inl a) = inl (inr a)
    go (inr b) = inr b

makes_either : (n : ℕ) (xs ys : List LogRow) → HasMaking n (xs ++ ys) → HasMaking n xs ⊎ HasMaking n ys
makes_either n [] ys h = inr h
makes_either n (x ∷ xs) ys (inl h) = inl (inl h)
makes_either n (x ∷ xs) ys (inr h) = go (makes_either n xs ys h)
  where
    go : HasMaking n xs ⊎ HasMaking n ys → HasMaking n (x ∷ xs) ⊎ HasMaking n ys
    go (inl a) = inl (inr a)
    go (inr b) = inr b

needs_first : (need : Need) (xs ys : List LogRow) → IsLogged need xs → IsLogged need (xs ++ ys)
needs_first need [] ys h = absurd h
needs_first need (x ∷ xs) ys (inl h) = inl h
needs_first need (x ∷ xs) ys (inr h) = inr (needs_first need xs ys h)

needs_second : (need : Need) (xs ys : List LogRow) → IsLogged need ys → IsLogged need (xs ++ ys)
needs_second need [] ys h = h
needs_second need (x ∷ xs) ys h = inr (needs_second need xs ys h)

makes_first : (n : ℕ) (xs ys : List LogRow) → HasMaking n xs → HasMaking n (xs ++ ys)
makes_first n [] ys h = absurd h
makes_first n (x ∷ xs) ys (inl h) = inl h
makes_first n (x ∷ xs) ys (inr h) = inr (makes_first n xs ys h)

makes_second : (n : ℕ) (xs ys : List LogRow) → HasMaking n ys → HasMaking n (xs ++ ys)
makes_second n [] ys h = h
makes_second n (x ∷ xs) ys h = inr (makes_second n xs ys h)

pub rows_same : (xs : List LogRow) → HasRows xs xs
rows_same xs = record { needs = λ need h. h; makings = λ n h. h }

pub rows_none : (ys : List LogRow) → HasRows [] ys
rows_none ys = record { needs = λ need h. absurd h; makings = λ n h. absurd h }

pub rows_both : (xs ys zs : List LogRow) → HasRows xs zs → HasRows ys zs → HasRows (xs ++ ys) zs
rows_both xs ys zs a b = record { needs = λ need h. needs_of need (needs_either need xs ys h); makings = λ n h. makings_of n (makes_either n xs ys h) }
  where
    needs_of : (need : Need) → IsLogged need xs ⊎ IsLogged need ys → IsLogged need zs
    needs_of need (inl h) = a.needs need h
    needs_of need (inr h) = b.needs need h

    makings_of : (n : ℕ) → HasMaking n xs ⊎ HasMaking n ys → HasMaking n zs
    makings_of n (inl h) = a.makings n h
    makings_of n (inr h) = b.makings n h

pub rows_first : (xs ys zs : List LogRow) → HasRows xs ys → HasRows xs (ys ++ zs)
rows_first xs ys zs a = record { needs = λ need h. needs_first need ys zs (a.needs need h); makings = λ n h. makes_first n ys zs (a.makings n h) }

pub rows_second : (xs ys zs : List LogRow) → HasRows xs zs → HasRows xs (ys ++ zs)
rows_second xs ys zs a = record { needs = λ need h. needs_second need ys zs (a.needs need h); makings = λ n h. makes_second n ys zs (a.makings n h) }

-- ---- what serves one rule serves another

-- a fault at a rule that goes on, whose rows are those of another
pub fault_within : {A : Type 0} (new : Told) (now : Cpu) (e : Stop) (a b : A) (m n : Machine) (xs ys : List LogRow) → HasRows xs ys → Gives {A = A} new now (Err e) (Go a m xs) → Gives {A = A} new now (Err e) (Go b n ys)
fault_within new now (Stuck c) a b m n xs ys rows h = absurd h
fault_within new now (Mem (CoreFull need)) a b m n xs ys rows h = rows.needs need h
fault_within new now (Mem (WorkFull live room)) a b m n xs ys rows h = rows.makings new.heap.next h
fault_within new now (Mem (WorkFault count)) a b m n xs ys rows h = tt
fault_within new now (Mem (Damaged place name)) a b m n xs ys rows h = h
fault_within new now (Mem NamesSpent) a b m n xs ys rows h = absurd h
fault_within new now (Mem (Said count)) a b m n xs ys rows h = absurd h
fault_within new now (Mem Memory) a b m n xs ys rows h = tt

-- ---- where the bits are there

-- the destination has these words, and the source is there, if there is one
pub record HasBits (has : Bool) (s v : Value) (ws : List ℕ) (h : Heap) : Type 0 where
  pub words : HasWords h v ws
  pub source : has ≡ true → (o : Object) × (object_at h s ≡ Some o)

abbrev pub source_rows : Bool → Machine → Value → List LogRow
source_rows true m s = rows_at m s ++ []
source_rows false m s = []

-- the rule goes on
pub put_goes : (v : Value) (words : List ℕ) (m : Machine) (ws : List ℕ) → HasWords m.heap v ws → put_words v words m ≡ Go tt (put_machine m v words) (rows_at m v)
unfolding put_words
put_goes v words m ws e = ap (λ (x : Option (List ℕ)). changed m v (λ b. with_words b 0 words) (is_some x)) e

pub blit_goes : (has : Bool) (s v : Value) (words : List ℕ) (m : Machine) (ws : List ℕ) → HasBits has s v ws m.heap → blit_words has s v words m ≡ Go tt (put_machine m v words) (source_rows has m s ++ rows_at m v)
unfolding blit_words look_at_source look done pick put_words ◌>>=◌
blit_goes true s v words m ws bits =
    let it = bits.source refl in
    let unit : Unit {0} = tt in
    ap (λ (x : Option Object). then_do (then_do (looked m s x) (λ o. done tt)) (λ _. put_words v words)) it.1
    ∙ ap (λ (x : Option (List ℕ)). then_do (Go unit m (rows_at m s ++ [])) (λ _ n. changed m v (λ b. with_words b 0 words) (is_some x))) bits.words
blit_goes false s v words m ws bits = let unit : Unit {0} = tt in ap (λ (x : Option (List ℕ)). then_do (Go unit m []) (λ _ n. changed m v (λ b. with_words b 0 words) (is_some x))) bits.words

-- bits after words were put
bits_put : (has : Bool) (s v : Value) (ws words : List ℕ) (h : Heap) → HasBits has s v ws h → length words ≡ length ws → HasBits has s v words (with_body h v (λ b. with_words b 0 words))
bits_put has s v ws words h bits len = record {
  words = words_put h v ws words bits.words len;
  source = λ e. (let it = bits.source e in still_there h v s (λ b. with_words b 0 words) it.0 it.1);
}

source_rows_put : (has : Bool) (m : Machine) (s v : Value) (ws words : List ℕ) → HasWords m.heap v ws → length words ≡ length ws → source_rows has (put_machine m v words) s ≡ source_rows has m s
source_rows_put true m s v ws words e len = ap (λ (rows : List LogRow). rows ++ []) (rows_put m v ws words e len s)
source_rows_put false m s v ws words e len = refl

-- words that are put twice
twice_goes : (has : Bool) (s v : Value) (first second : List ℕ) (m : Machine) (ws : List ℕ) → HasBits has s v ws m.heap → length first ≡ length ws → length second ≡ length ws
    → (put_words v first >> blit_words has s v second) m ≡ Go tt (put_machine m v second) (rows_at m v ++ (source_rows has m s ++ rows_at m v))
unfolding ◌>>=◌
twice_goes has s v first second m ws bits one two =
    let next = put_machine m v first in
    ap (λ (o : Outcome (Unit {0})). then_do o (λ _. blit_words has s v second)) (put_goes v first m ws bits.words)
    ∙ ap (λ (o : Outcome (Unit {0})). after (rows_at m v) o) (blit_goes has s v second next first (bits_put has s v ws first m.heap bits one))
    ∙ ap (λ (h : Heap). Go tt (record m { heap = h }) (rows_at m v ++ (source_rows has next s ++ rows_at next v))) (put_again m.heap v ws first second bits.words one two)
    ∙ ap (λ (rows : List LogRow). Go tt (put_machine m v second) (rows_at m v ++ (rows ++ rows_at next v))) (source_rows_put has m s v ws first bits.words one)
    ∙ ap (λ (rows : List LogRow). Go tt (put_machine m v second) (rows_at m v ++ (source_rows has m s ++ rows))) (rows_put m v ws first bits.words one v)

-- ---- the laws

-- what is there in each machine that a memory stands for
abbrev pub AreThere : Told → Cpu → Bool → Value → Value → List ℕ → Type 0
AreThere t cpu has s v ws = (m : Machine) → IsTrue t.tells → Stands t cpu m → HasBits has s v ws m.heap

-- words that were put, and put again
pub puts_then : {old mid new : Told} {cpu : Cpu} (has : Bool) (s v : Value) (ws first second : List ℕ) → AreThere old cpu has s v ws → (IsTrue old.tells → length first ≡ length ws) → (IsTrue old.tells → length second ≡ length ws)
    → Serves old cpu mid cpu (put_words v first) (Ok tt) → Serves mid cpu new cpu (blit_words has s v second) (Ok tt) → Serves old cpu new cpu (put_words v second) (Ok tt)
puts_then {old} {mid} {new} {cpu} has s v ws first second there one two f g =
    by_model (put_words v first >> blit_words has s v second) (put_words v second)
    (λ m told st given.
    let bits = there m told st in
    let went : Gives new cpu (Ok tt) (Go tt (put_machine m v second) (rows_at m v ++ (source_rows has m s ++ rows_at m v))) = subst (Gives new cpu (Ok tt)) (twice_goes has s v first second m ws bits (one told) (two told)) given in
    subst (Gives new cpu (Ok tt)) (sym (put_goes v second m ws bits.words)) went)
    (serves_then (λ _. blit_words has s v second) f g)

-- and a call that stopped in between
pub puts_stop : {old mid new : Told} {cpu : Cpu} (has : Bool) (s v : Value) (ws first second third : List ℕ) {e : Stop} → AreThere old cpu has s v ws → (IsTrue old.tells → length first ≡ length ws) → (IsTrue old.tells → length second ≡ length ws)
    → Serves old cpu mid cpu (put_words v first) (Ok tt) → Serves mid cpu new cpu (blit_words has s v second) (Err e) → Serves old cpu new cpu (blit_words has s v third) (Err e)
puts_stop {old} {mid} {new} {cpu} has s v ws first second third {e} there one two f g =
    by_model (put_words v first >> blit_words has s v second) (blit_words has s v third)
    (λ m told st given.
    let bits = there m told st in
    let all = source_rows has m s ++ rows_at m v in
    let went : Gives {A = Unit {0}} new cpu (Err e) (Go tt (put_machine m v second) (rows_at m v ++ all)) = subst (Gives {A = Unit {0}} new cpu (Err e)) (twice_goes has s v first second m ws bits (one told) (two told)) given in
    subst (Gives {A = Unit {0}} new cpu (Err e)) (sym (blit_goes has s v third m ws bits))
    (fault_within new cpu e tt tt (put_machine m v second) (put_machine m v third) (rows_at m v ++ all) all
    (rows_both (rows_at m v) all all (rows_second (rows_at m v) (source_rows has m s) (rows_at m v) (rows_same (rows_at m v))) (rows_same all)) went))
    (serves_then (λ _. blit_words has s v second) f g)

-- the source was looked at besides
pub with_source : {old new : Told} {cpu : Cpu} (has : Bool) (s v : Value) (ws words : List ℕ) → AreThere old cpu has s v ws → Serves old cpu new cpu (put_words v words) (Ok tt) → Serves old cpu new cpu (blit_words has s v words) (Ok tt)
with_source {old} {new} {cpu} has s v ws words there f =
    by_model (put_words v words) (blit_words has s v words)
    (λ m told st given.
    let bits = there m told st in
    let went : Gives new cpu (Ok tt) (Go tt (put_machine m v words) (rows_at m v)) = subst (Gives new cpu (Ok tt)) (put_goes v words m ws bits.words) given in
    subst (Gives new cpu (Ok tt)) (sym (blit_goes has s v words m ws bits)) went)
    f

-- nothing was done, and the words are as before
pub nothing_put : {t : Told} {cpu : Cpu} (has : Bool) (s v : Value) (ws : List ℕ) → IsReady t → AreThere t cpu has s v ws → Serves t cpu t cpu (put_words v ws) (Ok tt)
nothing_put {t} {cpu} has s v ws ready there = record {
  later = IsLater-refl t;
  ready = ready;
  reason = tt;
  counts = (0, IsCounted-refl t);
  vault = λ may. may;
  silent = λ speaks. refl;
  model = λ told m st.
      let bits = there m told st in
      let same : put_machine m v ws ≡ m = ap (λ (h : Heap). (let n : Machine = record m { heap = h } in n)) (put_same m.heap v ws bits.words) in
      subst (Gives t cpu (Ok tt)) (sym (put_goes v ws m ws bits.words)) (refl, subst (Stands t cpu) (sym same) st);
}

-- a run was put
changed_same : (m : Machine) (v : Value) (f g : Body → Body) (x : Bool) → with_body m.heap v f ≡ with_body m.heap v g → changed m v f x ≡ changed m v g x
changed_same m v f g true e = ap (λ (h : Heap). Go tt (record m { heap = h }) (rows_at m v)) e
changed_same m v f g false e = refl

pub run_serves : {old new : Told} {cpu : Cpu} {r : Result (Unit {0}) Stop} (has : Bool) (s v : Value) (ws run words : List ℕ) (at : ℕ) → AreThere old cpu has s v ws → (IsTrue old.tells → (put_run ws at run ≡ words) × (length words ≡ length ws))
    → Serves old cpu new cpu (change_where words_of (λ b. with_words b at run) v) r → Serves old cpu new cpu (put_words v words) r
unfolding put_words
run_serves {old} {new} {cpu} {r} has s v ws run words at there made f =
    by_model (change_where words_of (λ b. with_words b at run) v) (put_words v words)
    (λ m told st given.
    let bits = there m told st in
    let it = made told in
    let same : with_body m.heap v (λ b. with_words b at run) ≡ with_body m.heap v (λ b. with_words b 0 words) =
    run_put m.heap v ws run at bits.words (ap (λ (l : List ℕ). length l) it.0 ∙ it.1) ∙ ap (λ (l : List ℕ). with_body m.heap v (λ b. with_words b 0 l)) it.0 in
    subst (Gives new cpu r) (changed_same m v (λ b. with_words b at run) (λ b. with_words b 0 words) (is_some (part_at m.heap v words_of)) same) given)
    f

-- a run was written
pub written_serves : {Z : Type 0} {z : Z} {old new : Told} {cpu : Cpu} (of at : ℕ) (run : List ℕ) → IsReady old → IsReady new → (IsTrue old.tells → (x : List ℕ) × (part_at old.heap (old.regs of) words_of ≡ Some x)) → Called old new (Does (WriteWords of at run)) (Ok z)
    → Serves old cpu new cpu (change_where words_of (λ b. with_words b at run) (old.regs of)) (Ok tt)
written_serves {Z} {z} {old} {new} {cpu} of at run before ready there x = record {
  later = x.later;
  ready = ready;
  reason = tt;
  counts = (0, record { counts = x.ok.counts; next = λ told. (let same = (x.ok.heap told).next ∙ next_same old.heap (old.regs of) (λ b. with_words b at run) in omega arith) });
  vault = λ may. may;
  silent = x.ok.transcript;
  model = λ told m st.
      let it = there told in
      let here : part_at m.heap (old.regs of) words_of ≡ Some it.0 = part-same m.heap old.heap old.regs old.slots (thinned_here old cpu m before told st) of words_of ∙ it.1 in
      subst (λ x. Gives new cpu (Ok tt) (changed m (old.regs of) (λ b. with_words b at run) (is_some x))) (sym here) (
        refl,
        record {
          heap = heap_over m.heap old new (WriteWords of at run) st.heap before x.ok told;
          regs = λ r low. st.regs r low ∙ sym (ap (λ (g : ℕ → Value). g r) x.ok.regs);
          slots = st.slots ∙ sym x.ok.slots;
          numbers = st.numbers;
          fits = fits_later old.bounds new.bounds m.largest x.later.bounds st.fits;
          transcript = λ speaks. (let spoke = sym x.later.speaks ∙ speaks in x.ok.transcript spoke ∙ st.transcript spoke);
          cache = sound_follows old new (Does (WriteWords of at run)) before ready x.ok told (x.later.tells ∙ told) st.cache;
        },
      );
}

-- the same words by another name
pub words_served : {old new : Told} {cpu : Cpu} {r : Result (Unit {0}) Stop} (rule : List ℕ → Rule (Unit {0})) (first second : List ℕ) → (IsTrue old.tells → first ≡ second) → Serves old cpu new cpu (rule first) r → Serves old cpu new cpu (rule second) r
words_served {old} {new} {cpu} {r} rule first second same f = by_model (rule first) (rule second) (λ m told st given. subst (λ (l : List ℕ). Gives new cpu r (rule l m)) (same told) given) f

-- ---- rooms

-- both objects are there in each machine
pub rooms_there : (t : Transfer) (old : Told) (cpu : Cpu) → IsReady old → HasRooms t old → AreThere old cpu t.has_source (old.regs SOURCE_BITS) (old.regs DEST_BITS) (dest_words old)
rooms_there t old cpu ready rooms m told st = record {
  words =
      let it = rooms.dest.there told in
      let here : part_at m.heap (old.regs DEST_BITS) words_of ≡ part_at old.heap (old.regs DEST_BITS) words_of = part-same m.heap old.heap old.regs old.slots (thinned_here old cpu m ready told st) DEST_BITS words_of in
      here ∙ it.1 ∙ ap (λ (l : List ℕ). Some l) (sym (ap (λ (x : Option (List ℕ)). option_map_or (λ (l : List ℕ). l) x []) it.1));
  source = λ e. (let it = (rooms.source e).there told in object_here (part_at m.heap (old.regs SOURCE_BITS) words_of) it.0 (part-same m.heap old.heap old.regs old.slots (thinned_here old cpu m ready told st) SOURCE_BITS words_of ∙ it.1));
}
  where
    inside : (x : Option Object) (ws : List ℕ) → option_and_then (λ (o : Object). words_of o.body) x ≡ Some ws → (o : Object) × (x ≡ Some o)
    inside None ws e = let no : ◌≡◌ {A = Option (List ℕ)} None (Some ws) = e in absurd (cc)
    inside (Some o) ws e = (o, refl)

    object_here : (x : Option (List ℕ)) (ws : List ℕ) → part_at m.heap (old.regs SOURCE_BITS) words_of ≡ Some ws → (o : Object) × (object_at m.heap (old.regs SOURCE_BITS) ≡ Some o)
    object_here x ws e = inside (object_at m.heap (old.regs SOURCE_BITS)) ws e
