-- The slots pin the active context, its home and its method: a load of a context makes it so, and every other rule of a run keeps it so.
-- So no slot has another object, and what is swapped is never pinned.
use Rattle.std.specs.Prelude.{if◌then◌else◌}
use Rattle.std.proofs.Common.{◌≡◌, ◌<◌, ℕ, ℤ, pos, ◌-ℤ◌, zero, suc, ◌==◌, ◌&&◌, ◌||◌, Bool, true, false, List, [], ◌∷◌, ◌++◌, Option, Some, None, slice_get, refl, sym, ◌∙◌, ap, ap₂, subst, ne_eqb, eq-eqb, nat_lt, arith}
use Rattle.std.specs.Option.{option_and_then}
use Rattle.long_names.specs.declared.value.Value.{Value}
use Rattle.long_names.specs.declared.value.Value.TheVariants.{Int, Ref}
use Rattle.long_names.specs.declared.object.Object.{Object}
use Rattle.long_names.specs.Need.{is_pinned}
use Rattle.long_names.specs.Access.{with_swapped}
use Rattle.long_names.specs.State.{ACTIVE_CONTEXT, HOME, METHOD, set_slot}
use Rattle.long_names.specs.declared.limits.TheConstants.{SLOTS}
use Rattle.long_names.proofs.ThinLemmas.{holds-field}
use Rattle.blue_model.specs.declared.cause.Cause.TheVariants.{Stack, Shape}
use Rattle.blue_model.specs.declared.event.Line.{Line}
use Rattle.blue_model.specs.declared.indexes.TheConstants.{INSTRUCTION_POINTER_INDEX, STACK_POINTER_INDEX, METHOD_INDEX, RECEIVER_INDEX, TEMP_FRAME_START}
use Rattle.blue_model.specs.declared.step.Step.{Step}
use Rattle.blue_model.specs.declared.step.Step.TheVariants.{Next, Quit, Keep}
use Rattle.blue_model.specs.Machine.{Machine, LogRow, row_of, Outcome, Go, Halt, Spent, Rule, ◌>>=◌, rows_at, is_there, is_unpinned, swapped, swap, with_pin, pinned, pin}
use Rattle.blue_model.specs.Parts.{shaped, field, number, home_of}
use Rattle.blue_model.specs.ClassList.{part_in}
use Rattle.blue_model.specs.Contexts.{stack, stack_place, stack_pointer, load_home, load, start, park_new, park}
use Rattle.blue_model.specs.Storage.{is_same, is_another}
use Rattle.blue_model.specs.State.{State, hold, restore, state_of, begin}
use Rattle.blue_model.specs.Cycle.{Stopping, Run, Ran, Stopped, run_of, one_more, cycle, run}
use Rattle.blue_model.specs.Loaded.{start_on_kept, loaded}
use Rattle.blue_model.specs.Law.{IsWholeMachine, HasPins}
use Rattle.blue_model.specs.Alike.{IsPlain}
use Rattle.blue_model.proofs.WithinLaws.{shaped_fields}
use Rattle.blue_model.proofs.ComesLaws.{Comes, comes_then, comes_weaker, comes_set_numbers, given_then, numbers_then, answers-part}
use Rattle.blue_model.proofs.BeginLaws.{register_then, part_then, named, unpin_then, need_then, put_context_comes, with_context}
use Rattle.blue_model.proofs.KeepSteps.{Kept, Keeps, keeps_done, keeps_plain, keeps_known, keeps_put_register, keeping}
use Rattle.blue_model.proofs.KeepRules.{keeps-store_registers, keeps-scheduler, keeps-store_field}
use Rattle.blue_model.proofs.KeepLaws.{keeps-cycle}

-- ---- pins

-- the value is a name, and the slot has it
abbrev IsPin : Value → Option ℕ → Type 0
IsPin v slot = (n : ℕ) × (v ≡ Ref n) × (slot ≡ Some n)

abbrev ArePins : Value → Value → Value → (ℕ → Option ℕ) → Type 0
ArePins context home method slots = IsPin context (slots 0) × IsPin home (slots 1) × IsPin method (slots 2)

abbrev AreIn : Machine → Type 0
AreIn m = ArePins (m.regs ACTIVE_CONTEXT) (m.regs HOME) (m.regs METHOD) m.slots

pins_in : (m : Machine) → HasPins m → AreIn m
pins_in m h = (h.pins 0 (omega arith), h.pins 1 (omega arith), h.pins 2 (omega arith))

has_pins : (m : Machine) → AreIn m → HasPins m
has_pins m h = record { pins = λ i low. go i low }
  where
    go : (i : ℕ) → i < SLOTS → (n : ℕ) × (m.regs i ≡ Ref n) × (m.slots i ≡ Some n)
    go zero low = h.0
    go (suc zero) low = h.1
    go (suc (suc zero)) low = h.2
    go (suc (suc (suc i))) low = absurd (omega arith)

-- ---- a load

pin_comes : {m : Machine} (slot : ℕ) (v : Value) → Comes m (pin slot v) (λ _ s. (n : ℕ) × (v ≡ Ref n) × (s ≡ with_pin m slot n))
unfolding pin
pin_comes {m} slot (Int z) = record { to = λ a s log e. let no : ◌≡◌ {A = Outcome (Unit {0})} (Halt Shape []) (Go a s log) = e in absurd (cc) }
pin_comes {m} slot (Ref n) = record { to = λ a s log e. go (m.heap.at n) a s log e }
  where
    go : (o : Option Object) (a : Unit {0}) (s : Machine) (log : List LogRow) → pinned m slot n o ≡ Go a s log → (k : ℕ) × (Ref n ≡ Ref k) × (s ≡ with_pin m slot k)
    go None a s log e = let no : ◌≡◌ {A = Outcome (Unit {0})} (Halt Shape (row_of m n ∷ [])) (Go a s log) = e in absurd (cc)
    go (Some o) a s log e = let left : with_pin m slot n ≡ s = cc in (n, refl, sym left)

pin_then : {m : Machine} {B : Type 0} {R : B → Machine → Type 0} (k : Unit {0} → Rule B) (slot : ℕ) (v : Value) → ((n : ℕ) → v ≡ Ref n → Comes (with_pin m slot n) (k tt) R) → Comes m (pin slot v >>= k) R
pin_then {m} {B} {R} k slot v f = comes_then {Q = λ _ s. (n : ℕ) × (v ≡ Ref n) × (s ≡ with_pin m slot n)} k (pin_comes slot v) (λ a s both. subst (λ x. Comes x (k tt) R) (sym both.2) (f both.0 both.1))

load_home_pins : {m : Machine} (context home : Value) (ip depth : ℤ) → IsPin context (m.slots 0) → Comes m (load_home context home ip depth) (λ _ s. AreIn s)
unfolding load_home
load_home_pins {m} context home ip depth first =
    pin_then _ 1 home (λ n same. part_then _ (field TEMP_FRAME_START METHOD_INDEX) home (λ method _.
    pin_then _ 2 method (λ k is. need_then _ method (part_then _ (field TEMP_FRAME_START RECEIVER_INDEX) home (λ receiver _.
    given_then _ Stack (stack_pointer depth) (λ sp _.
    comes_then {Q = λ _ s. s ≡ record m { slots = set_slot (set_slot m.slots 1 (Some n)) 2 (Some k); regs = with_context m.regs context home method receiver }} _ (put_context_comes context home method receiver) (λ a s e.
    comes_weaker (numbers_then _ (comes_set_numbers _)) (λ b t left.
    subst (λ (x : Machine). AreIn x) (sym (left ∙ ap (λ (x : Machine). record x { cpu = record x.cpu { ip = ip -ℤ pos 1; sp = sp } }) e)) (first, (n, same, refl), (k, is, refl))))))))))

load_pins : {m : Machine} (context : Value) → Comes m (load context) (λ _ s. AreIn s)
unfolding load
load_pins context =
    unpin_then _ (λ y. pin_then _ 0 context (λ n same.
    part_then _ (number TEMP_FRAME_START INSTRUCTION_POINTER_INDEX) context (λ ip _. part_then _ (number TEMP_FRAME_START STACK_POINTER_INDEX) context (λ depth _. part_then _ (home_of context) context (λ home _.
    load_home_pins context home ip depth (n, same, refl))))))

-- ---- what keeps them

-- the pins, whatever the vault is
abbrev pinning : Bool → Kept
pinning vault = record { vault = vault; pins = ArePins; loads = λ context m s log e. (load_pins context).to tt s log e }

kept_pins : {A : Type 0} {Q : Bool → A → Type 0} {p : Rule A} → ((vault : Bool) → Keeps (pinning vault) (Q vault) p) → (m s : Machine) (a : A) (log : List LogRow) → HasPins m → p m ≡ Go a s log → HasPins s
kept_pins f m s a log h e = has_pins s ((f m.cpu.vault).keeps m s a log (record { vault = refl; pins = pins_in m h }) e).0.pins

keeps-park : {w : Kept} → Keeps w IsPlain park
unfolding park park_new
keeps-park {w} = search (keeping, keeps-store_registers, keeps-scheduler, keeps-store_field) depth 24 fits 5000

keeps-hold : {w : Kept} (r : ℕ) (name : Option ℕ) → nat_lt METHOD r ≡ true → Keeps w IsPlain (hold r name)
keeps-hold r None behind = keeps_done tt
keeps-hold r (Some n) behind = keeps_plain _ (keeps_known n) (λ v. keeps_put_register r v behind)

keeps-restore : {w : Kept} (state : State) → Keeps w IsPlain (restore state)
unfolding restore
keeps-restore {w} state = search (keeping, keeps-hold) depth 20

pub park_pins : (m s : Machine) (log : List LogRow) → HasPins m → park m ≡ Go tt s log → HasPins s
park_pins m s log h e = kept_pins (λ vault. keeps-park) m s tt log h e

pub cycle_pins : (events : List Line) (m s : Machine) (end : Step) (log : List LogRow) → HasPins m → cycle events m ≡ Go end s log → HasPins s
cycle_pins events m s end log h e = kept_pins (λ vault. keeps-cycle events) m s end log h e

-- ---- starts

-- a rule that ends in a load makes pins, whatever comes before
any_then : {m : Machine} {A B : Type 0} {R : B → Machine → Type 0} (p : Rule A) (k : A → Rule B) → ((a : A) (n : Machine) → Comes n (k a) R) → Comes m (p >>= k) R
any_then p k f = comes_then {Q = λ _ _. Unit {0}} k (record { to = λ a s log e. tt }) (λ a n _. f a n)

start_comes : {m : Machine} → Comes m start (λ _ s. HasPins s)
unfolding start
start_comes = any_then _ _ (λ _ _. any_then _ _ (λ _ _. any_then _ _ (λ process _. any_then _ _ (λ context n. comes_weaker (load_pins context) (λ _ s pins. has_pins s pins)))))

begin_comes : {m : Machine} (state : State) → Comes m (begin state) (λ _ s. HasPins s)
unfolding begin
begin_comes state = comes_then _ start_comes (λ a n h. record { to = λ b s log e. kept_pins (λ vault. keeps-restore state) n s b log h e })

loaded_comes : {m : Machine} → Comes m loaded (λ _ s. HasPins s)
unfolding loaded start_on_kept
loaded_comes = any_then _ _ (λ _ n. record { to = λ a s log e. (begin_comes (state_of n)).to a s log e })

pub start_pins : (m s : Machine) (log : List LogRow) → start m ≡ Go tt s log → HasPins s
start_pins m s log e = start_comes.to tt s log e

pub begin_pins : (state : State) (m s : Machine) (log : List LogRow) → begin state m ≡ Go tt s log → HasPins s
begin_pins state m s log e = (begin_comes state).to tt s log e

pub loaded_pins : (m s : Machine) (log : List LogRow) → loaded m ≡ Go tt s log → HasPins s
loaded_pins m s log e = loaded_comes.to tt s log e

-- ---- runs

abbrev RunHasPins : Run → Type 0
RunHasPins (Ran end n) = HasPins n
RunHasPins (Stopped n why log) = HasPins n

pins_more : (events : List Line) (r : Run) → RunHasPins r → RunHasPins (one_more events r)
pins_more events (Ran Next m) h = go (cycle events m) refl
  where
    go : (o : Outcome Step) → cycle events m ≡ o → RunHasPins (run_of m o)
    go (Go end next log) e = cycle_pins events m next end log h e
    go (Halt c log) e = h
    go (Spent log) e = h
pins_more events (Ran Quit m) h = h
pins_more events (Ran Keep m) h = h
pins_more events (Stopped m why log) h = h

run_pins : (events : List Line) (k : ℕ) (m : Machine) → HasPins m → RunHasPins (run events k m)
unfolding run
run_pins events zero m h = h
run_pins events (suc k) m h = pins_more events (run events k m) (run_pins events k m h)

pub ran_pins : (events : List Line) (k : ℕ) (m n : Machine) (end : Step) → HasPins m → run events k m ≡ Ran end n → HasPins n
ran_pins events k m n end h e = subst RunHasPins e (run_pins events k m h)

pub stopped_pins : (events : List Line) (k : ℕ) (m n : Machine) (why : Stopping) (log : List LogRow) → HasPins m → run events k m ≡ Stopped n why log → HasPins n
stopped_pins events k m n why log h e = subst RunHasPins e (run_pins events k m h)

-- ---- a swap

-- no slot has a name that isn't one of the three
none_of : (a b c : Bool) → a ≡ false → b ≡ false → c ≡ false → (if c || (b || (a || false)) then false else true) ≡ true
none_of true b c e f g = let no : true ≡ false = e in absurd (cc)
none_of false true c e f g = let no : true ≡ false = f in absurd (cc)
none_of false false true e f g = let no : true ≡ false = g in absurd (cc)
none_of false false false e f g = refl

-- none of three tests passed
all_false : (a b c d : Bool) → (if a || (b || c) then false else d) ≡ true → (a ≡ false) × (b ≡ false) × (c ≡ false)
all_false true b c d e = let no : false ≡ true = e in absurd (cc)
all_false false true c d e = let no : false ≡ true = e in absurd (cc)
all_false false false true d e = let no : false ≡ true = e in absurd (cc)
all_false false false false d e = (refl, refl, refl)

-- the slot has the value's name, and that isn't n
not_pinned : (n : ℕ) (v : Value) (slot : Option ℕ) → IsPin v slot → is_same (Ref n) v ≡ false → is_pinned n slot ≡ false
not_pinned n v slot (k, named, has) e =
    let apart : (n == k) ≡ false = ap (is_same (Ref n)) (sym named) ∙ e in
    ap (is_pinned n) has ∙ ne_eqb k n (λ same. let no : true ≡ false = sym (eq-eqb n k (sym same)) ∙ apart in absurd (cc))

not_in_slots : (m : Machine) (v : Value) → HasPins m → is_another (m.regs ACTIVE_CONTEXT) (m.regs HOME) (m.regs METHOD) v ≡ true → is_unpinned m.slots v ≡ true
not_in_slots m (Int z) h e = let no : false ≡ true = sym (go (is_same (Int z) (m.regs ACTIVE_CONTEXT) || (is_same (Int z) (m.regs HOME) || is_same (Int z) (m.regs METHOD)))) ∙ e in absurd (cc)
  where
    go : (b : Bool) → (if b then false else false) ≡ false
    go true = refl
    go false = refl
not_in_slots m (Ref n) h e =
    let others = all_false (is_same (Ref n) (m.regs ACTIVE_CONTEXT)) (is_same (Ref n) (m.regs HOME)) (is_same (Ref n) (m.regs METHOD)) true e in
    let pins = pins_in m h in
    none_of _ _ _ (not_pinned n (m.regs ACTIVE_CONTEXT) (m.slots 0) pins.0 others.0) (not_pinned n (m.regs HOME) (m.slots 1) pins.1 others.1) (not_pinned n (m.regs METHOD) (m.slots 2) pins.2 others.2)

-- a field of a whole heap names an object of it
field_there : (m : Machine) (n least i : ℕ) (v : Value) → IsWholeMachine m → part_in m.heap (field least i) (Ref n) ≡ Some v → is_there m.heap v ≡ true
unfolding field
field_there m n least i (Int z) whole e = refl
field_there m n least i (Ref k) whole e = go (m.heap.at n) refl e
  where
    in_object : (o : Object) → m.heap.at n ≡ Some o → (x : Option (List Value)) → shaped least o ≡ x → option_and_then (λ (values : List Value). slice_get values i) x ≡ Some (Ref k) → is_there m.heap (Ref k) ≡ true
    in_object o here None f g = let no : ◌≡◌ {A = Option Value} None (Some (Ref k)) = g in absurd (cc)
    in_object o here (Some values) f g = whole.closed n o k here (holds-field o i k (ap (λ vs. slice_get vs i) (shaped_fields least o values f) ∙ g))

    go : (x : Option Object) → m.heap.at n ≡ x → option_and_then (field least i) x ≡ Some (Ref k) → is_there m.heap (Ref k) ≡ true
    go None f g = let no : ◌≡◌ {A = Option Value} None (Some (Ref k)) = g in absurd (cc)
    go (Some o) f g = in_object o f (shaped least o) refl g

-- so does a value of the stack
stack_there : {m : Machine} (depth : ℕ) → IsWholeMachine m → Comes m (stack depth) (λ v s. is_there m.heap v ≡ true)
unfolding stack
stack_there {m} depth whole =
    numbers_then _ (register_then _ ACTIVE_CONTEXT (part_then _ _ (m.regs ACTIVE_CONTEXT) (λ len _. given_then _ Stack (stack_place (m.cpu.sp -ℤ pos depth) len) (λ place _.
    record { to = λ v s log e. (let told = (answers-part Shape (field 0 place) (m.regs ACTIVE_CONTEXT)).told v s log e in named m.heap (field 0 place) (m.regs ACTIVE_CONTEXT) v told.1 (λ n same. field_there m n 0 place v whole (subst (λ x. part_in m.heap (field 0 place) x ≡ Some v) same told.1))) }))))

pub swaps_free : (m s n : Machine) (receiver argument : Value) (rows log : List LogRow) → HasPins m → IsWholeMachine m → stack 1 m ≡ Go receiver s rows → stack 0 m ≡ Go argument n log → is_another (m.regs ACTIVE_CONTEXT) (m.regs HOME) (m.regs METHOD) receiver ≡ true → is_another (m.regs ACTIVE_CONTEXT) (m.regs HOME) (m.regs METHOD) argument ≡ true → swap receiver argument m ≡ Go tt (record m { heap = with_swapped m.heap receiver argument }) (rows_at m receiver ++ rows_at m argument)
unfolding swap
swaps_free m s n receiver argument rows log h whole e f g i =
    ap (swapped m receiver argument) (ap₂ (λ a b. a && b)
    (ap₂ (λ a b. a && b) ((stack_there 1 whole).to receiver s rows e) (not_in_slots m receiver h g))
    (ap₂ (λ a b. a && b) ((stack_there 0 whole).to argument n log f) (not_in_slots m argument h i)))
