-- Makings of objects.
use Rattle.contexts.proofs.ServesLaws.{fits_later}
use Rattle.std.proofs.Common.{◌≡◌, ℕ, ◌+◌, ◌<◌, ◌≤◌, ◌&&◌, nat_lt, Bool, true, false, eqb, eq-eqb, cond, Option, Some, None, Ok, Err, IsTrue, is_some, inl, refl, sym, ◌∙◌, ap, ap₂, subst, arith}
use Rattle.std.proofs.lemmas.Grind.{common_steps}
use Rattle.std.proofs.Math.Nat.{max-le}
use Rattle.std.specs.Option.{option_map_or}
use borrow.Author.Tests.{ltb-true, ltb-false}
use Rattle.long_names.specs.declared.value.Value.{Value}
use Rattle.long_names.specs.declared.value.Value.TheVariants.{Ref}
use Rattle.long_names.specs.declared.object.Object.{Object}
use Rattle.long_names.specs.Names.{NIL}
use Rattle.long_names.specs.declared.limits.TheConstants.{LAST_NAME, MACHINE_REGISTERS}
use Rattle.long_names.specs.Objects.{Making, body_words}
use Rattle.long_names.specs.Heap.{Heap, Has, add_object}
use Rattle.long_names.specs.State.{name_at}
use Rattle.long_names.specs.Access.{Make, Answer}
use Rattle.long_names.specs.Thin.{IsThinner}
use Rattle.long_names.proofs.ThinLemmas.{has, IsThinner-add_object, has_put, has_here}
use Rattle.long_names.proofs.AccessLaws.{named-there}
use Rattle.object_memory.specs.declared.fault.Need.{Need}
use Rattle.object_memory.specs.declared.fault.MemFault.{MemFault}
use Rattle.object_memory.specs.declared.fault.MemFault.TheVariants.{CoreFull, WorkFull, WorkFault, Damaged, NamesSpent, Said, Memory}
use Rattle.object_memory.specs.Told.{Told, Bounds, IsReady, need_of}
use Rattle.object_memory.specs.Contract.{IfBounds, Does, Called, Accessed, HasCause, IsLeft, LeavesAll, need_of_access}
use Rattle.object_memory.proofs.LeftLaws.{heap_over}
use Rattle.object_memory.proofs.LooksLaws.{set_other}
use Rattle.blue_model.specs.declared.cpu.Cpu.{Cpu}
use Rattle.blue_model.specs.Machine.{Machine, log_of, is_there, object_made, making_row, with_object, added, made, make}
use Rattle.contexts.specs.declared.stop.Stop.TheVariants.{Mem}
use Rattle.contexts.specs.Serves.{Stands, HasNeed, IsLogged, HasMaking, Allows, Gives, Serves}
use Rattle.contexts.proofs.CacheLaws.{sound_follows}
use Rattle.contexts.proofs.ReadLaws.{need_same, refused_reason, refused_silent}

-- An object of a memory is in each machine that the memory stands for.
named_there : (h s : Heap) (n : ℕ) → IsThinner h s → Has s n → is_there h (Ref n) ≡ true
named_there h s n thinner there = let it = has s n there in ap is_some (thinner.same n it.0 it.1)

-- its class is there, and so is nil, which its fields hold
parts_there : (t : Told) (cpu : Cpu) (m : Machine) (class : ℕ) → IsReady t → IsTrue t.tells → Stands t cpu m → (is_there m.heap (Ref (name_at (t.regs class))) && is_there m.heap (Ref NIL)) ≡ true
parts_there t cpu m class ready told st =
    let whole = ready.whole told in
    ap₂ (λ a b. a && b)
    (named_there m.heap t.heap (name_at (t.regs class)) st.heap (named-there t.heap t.regs t.slots whole class))
    (named_there m.heap t.heap NIL st.heap (whole.known NIL refl))

-- ---- a making that was answered

came_is : (n : ℕ) (v : Value) → Some (Ref n) ≡ Some v → Ref n ≡ v
came_is n v e = cc

-- a core that holds what a machine made, and a new object, holds what it has made then
fits_made : (m : Machine) (o : Object) (bounds : Option Bounds) → IfBounds bounds (λ b. m.largest ≤ b.core) → IfBounds bounds (λ b. 4 + body_words o.body ≤ b.core) → IfBounds bounds (λ b. (with_object m o).largest ≤ b.core)
fits_made m o None before own = tt
fits_made m o (Some b) before own = max-le before (subst (λ words. words ≤ b.core) (sym (ap (λ (x : Option Object). option_map_or (λ (o : Object). 4 + body_words o.body) x 0) new_there)) own)
  where
    new_there : (add_object m.heap o).at m.heap.next ≡ Some o
    new_there = ap (λ b. cond b (Some o) (m.heap.at m.heap.next)) (eq-eqb m.heap.next m.heap.next refl)

-- An object was made, and its name is in a scratch register.
pub make_serves : {Z : Type 0} {z : Z} {old new : Told} {cpu : Cpu} {spell : Z → Answer} (to class : ℕ) (what : Making) → MACHINE_REGISTERS ≤ to → IsReady old → IsReady new → Accessed old new (Make to class what) spell (Ok z) → Serves old cpu new cpu (make (old.regs class) what) (Ok (new.regs to))
unfolding make
make_serves {Z} {z} {old} {new} {cpu} {spell} to class what above before ready x = record {
  later = x.called.later;
  ready = ready;
  reason = tt;
  counts = (1, record { counts = x.called.ok.counts; next = λ told. (let same = (x.called.ok.heap told).next in omega arith) });
  vault = λ may. may;
  silent = x.called.ok.transcript;
  model = λ told m st. go told m st (nat_lt m.heap.next LAST_NAME) refl;
}
  where
    after : (told : IsTrue old.tells) (m : Machine) → Stands old cpu m → Stands new cpu (with_object m (object_made (old.regs class) what))
    after told m st = record {
      heap = heap_over m.heap old new (Make to class what) st.heap before x.called.ok told;
      regs = λ r low. (let apart : eqb r to ≡ false = grind (arith, common_steps) in st.regs r low ∙ sym (ap (λ (g : ℕ → Value). g r) x.called.ok.regs ∙ set_other old.regs to (new.regs to) r apart));
      slots = st.slots ∙ sym x.called.ok.slots;
      numbers = st.numbers;
      fits = fits_later old.bounds new.bounds (with_object m (object_made (old.regs class) what)).largest x.called.later.bounds (fits_made m (object_made (old.regs class) what) old.bounds st.fits x.core);
      transcript = λ speaks. (let spoke = sym x.called.later.speaks ∙ speaks in x.called.ok.transcript spoke ∙ st.transcript spoke);
      cache = sound_follows old new (Does (Make to class what)) before ready x.called.ok told (x.called.later.tells ∙ told) st.cache;
    }

    go : (told : IsTrue old.tells) (m : Machine) → Stands old cpu m → (b : Bool) → nat_lt m.heap.next LAST_NAME ≡ b → Gives new cpu (Ok (new.regs to)) (made m (object_made (old.regs class) what) b)
    go told m st true e = subst (λ b. Gives new cpu (Ok (new.regs to)) (added m (object_made (old.regs class) what) b)) (sym (parts_there old cpu m class before told st)) (
      ap (λ n. Ref n) (sym st.heap.next) ∙ came_is old.heap.next (new.regs to) (x.called.ok.brings told),
      after told m st,
    )
    go told m st false e =
        let past = ltb-false m.heap.next LAST_NAME e in
        let room = x.named (omega arith) told in
        let same = st.heap.next in
        absurd (omega arith)

-- ---- a making that was refused

making_has : (need : Need) (m : Machine) (o : Object) → need ≡ need_of (add_object m.heap o) (record { object = m.heap.next; slots = m.slots }) → HasNeed need (making_row m o)
making_has need m o e = record { object = sym (ap (λ (x : Need). x.object) e); words = sym (ap (λ (x : Need). x.words) e); entries = sym (ap (λ (x : Need). x.entries) e) }

-- what a making needs in a memory, it needs in each machine that the memory stands for
making_need : (t : Told) (cpu : Cpu) (m : Machine) (to class : ℕ) (what : Making) → IsReady t → IsTrue t.tells → Stands t cpu m → need_of_access t (Make to class what) ≡ need_of (add_object m.heap (object_made (t.regs class) what)) (record { object = m.heap.next; slots = m.slots })
making_need t cpu m to class what ready told st =
    let o : Object = object_made (t.regs class) what in
    let whole = ready.whole told in
    let same = need_same (add_object m.heap o) (add_object t.heap o) t.slots t.heap.next (IsThinner-add_object m.heap t.heap o st.heap) (has_here t.heap o) (λ i k e. has_put t.heap t.heap.next o (t.heap.next + 2) k (whole.pinned i k e)) in
    sym same ∙ ap₂ (λ (n : ℕ) (slots : ℕ → Option ℕ). need_of (add_object m.heap o) (record { object = n; slots = slots })) st.heap.next (sym st.slots)

logged_making : (need : Need) (m : Machine) (o : Object) (b : Bool) → HasNeed need (making_row m o) → IsLogged need (log_of (added m o b))
logged_making need m o true has = inl has
logged_making need m o false has = inl has

has_making : (n : ℕ) (m : Machine) (o : Object) (b : Bool) → m.heap.next ≡ n → HasMaking n (log_of (added m o b))
has_making n m o true is = inl (refl, is)
has_making n m o false is = inl (refl, is)

-- No name was left, or the rule's making has the need that didn't fit, or is the one for which there was no room.
pub make_refused : {Z : Type 0} {old new : Told} {cpu : Cpu} {f : MemFault} (to class : ℕ) (what : Making) → IsReady old → Called {A = Z} old new (Does (Make to class what)) (Err f) → Serves old cpu new cpu (make (old.regs class) what) (Err (Mem f))
unfolding make
make_refused {Z} {old} {new} {cpu} {f} to class what ready x = record {
  later = x.later;
  ready = tt;
  reason = refused_reason old new (Make to class what) f ready x.later x.err;
  counts = tt;
  vault = tt;
  silent = refused_silent old new (Make to class what) f (λ says. says) x.err.transcript;
  model = λ told m st. go told m st (nat_lt m.heap.next LAST_NAME) refl;
}
  where
    allows : (told : IsTrue old.tells) (m : Machine) → Stands old cpu m → (b : Bool) (f : MemFault) → m.heap.next < LAST_NAME → HasCause old new (Does (Make to class what)) f → LeavesAll f (IsLeft old new) → Allows new f (added m (object_made (old.regs class) what) b)
    allows told m st b (CoreFull need) low cause left = logged_making need m (object_made (old.regs class) what) b (making_has need m (object_made (old.regs class) what) (cause.1 told ∙ making_need old cpu m to class what ready told st))
    allows told m st b (WorkFull live room) low cause left = has_making new.heap.next m (object_made (old.regs class) what) b (sym st.heap.next ∙ sym (left.heap told).next)
    allows told m st b (WorkFault count) low cause left = tt
    allows told m st b (Damaged place name) low cause left = cause told
    allows told m st b NamesSpent low cause left =
        let past = cause.1 told in
        let same = st.heap.next in
        absurd (omega arith)
    allows told m st b (Said count) low cause left = absurd cause.2
    allows told m st b Memory low cause left = tt

    go : (told : IsTrue old.tells) (m : Machine) → Stands old cpu m → (b : Bool) → nat_lt m.heap.next LAST_NAME ≡ b → Gives new cpu (Err (Mem f)) (made m (object_made (old.regs class) what) b)
    go told m st true e = allows told m st (is_there m.heap (Ref (name_at (old.regs class))) && is_there m.heap (Ref NIL)) f (ltb-true m.heap.next LAST_NAME e) x.err.cause x.err.left
    go told m st false e =
        let past = ltb-false m.heap.next LAST_NAME e in
        let same = st.heap.next in
        let spent = x.err.spent (omega arith) told (omega arith) in
        subst (λ y. Gives new cpu (Err (Mem y)) (made m (object_made (old.regs class) what) false)) (sym spent) tt
