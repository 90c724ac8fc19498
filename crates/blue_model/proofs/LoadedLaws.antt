-- Where what was saved goes on: in the context of the machine that was parked, or in that of the process that it was to switch to.
use Rattle.std.specs.Prelude.{if◌then◌else◌}
use Rattle.std.proofs.Common.{◌≡◌, ℕ, ℤ, pos, negsuc, ◌+◌, ◌==◌, ◌+ℤ◌, ◌-ℤ◌, nat_lt, Bool, true, false, List, ◌++◌, Option, Some, None, refl, sym, ◌∙◌, ap, subst, eq-eqb, eqb-true}
use Rattle.std.specs.Option.{option_and_then}
use Rattle.std.proofs.Math.IntN.{+ℤ-neg_ℤ_cancel, -ℤ-+ℤ_cancel}
use Rattle.long_names.specs.declared.limits.TheConstants.{SMALL_INTEGERS}
use Rattle.long_names.specs.declared.value.Value.{Value}
use Rattle.long_names.specs.declared.value.Value.TheVariants.{Int, Ref}
use Rattle.long_names.specs.declared.object.Object.{Object}
use Rattle.long_names.specs.Names.{SCHEDULER_ASSOCIATION}
use Rattle.long_names.specs.Heap.{Heap}
use Rattle.long_names.specs.Kept.{kept, no_roots}
use Rattle.long_names.specs.State.{ACTIVE_CONTEXT, HOME, METHOD, RECEIVER, NEW_PROCESS}
use Rattle.long_names.proofs.KeptLaws.{kept-part}
use Rattle.blue_model.specs.declared.indexes.TheConstants.{VALUE_INDEX, ASSOCIATION_SIZE, ACTIVE_PROCESS_INDEX, SCHEDULER_SIZE, SUSPENDED_CONTEXT_INDEX, PROCESS_SIZE, INSTRUCTION_POINTER_INDEX, STACK_POINTER_INDEX, METHOD_INDEX, RECEIVER_INDEX, TEMP_FRAME_START, EMPTY_STACK}
use Rattle.blue_model.specs.Machine.{Machine, LogRow, Outcome, Go, Halt, Spent, after, then_do, ◌>>=◌, at_rest}
use Rattle.blue_model.specs.ClassList.{part_in}
use Rattle.blue_model.specs.Parts.{field, number, home_of}
use Rattle.blue_model.specs.Queues.{field_at}
use Rattle.blue_model.specs.Contexts.{stack_pointer, stated, park}
use Rattle.blue_model.specs.State.{state_of, begin}
use Rattle.blue_model.specs.Loaded.{start_on_kept, loaded, scheduler_in, process_in, HasLoaded}
use Rattle.blue_model.proofs.ComesLaws.{field-is, number-is, written, written-here, written-other, written-beside, written-apart}
use Rattle.blue_model.proofs.BeginLaws.{named, Stating, told, HasParked, park_comes, Begun, started}

-- ---- the two steps of a loading

pub loaded_starts : (m p : Machine) (rows : List LogRow) → park m ≡ Go tt p rows → loaded m ≡ after rows (begin (state_of p) (at_rest (kept p.heap no_roots)))
unfolding loaded start_on_kept ◌>>=◌
loaded_starts m p rows e = ap (λ (o : Outcome (Unit {0})). then_do o (λ _. start_on_kept)) e

-- the start behind the parking
behind_park : (m s : Machine) (log : List LogRow) → loaded m ≡ Go tt s log → (p : Machine) × (rows : List LogRow) × (lines : List LogRow) × (park m ≡ Go tt p rows) × (start_on_kept p ≡ Go tt s lines)
unfolding loaded ◌>>=◌
behind_park m s log e = go (park m) refl e
  where
    go : (o : Outcome (Unit {0})) → park m ≡ o → then_do o (λ _. start_on_kept) ≡ Go tt s log → (p : Machine) × (rows : List LogRow) × (lines : List LogRow) × (park m ≡ Go tt p rows) × (start_on_kept p ≡ Go tt s lines)
    go (Go a p rows) h f = next (start_on_kept p) refl f
      where
        next : (o : Outcome (Unit {0})) → start_on_kept p ≡ o → after rows o ≡ Go tt s log → (q : Machine) × (rest : List LogRow) × (lines : List LogRow) × (park m ≡ Go tt q rest) × (start_on_kept q ≡ Go tt s lines)
        next (Go b t lines) g i = let left : t ≡ s = cc in (p, rows, lines, h, g ∙ ap (λ x. Go tt x lines) left)
        next (Halt c lines) g i = let no : ◌≡◌ {A = Outcome (Unit {0})} (Halt c (rows ++ lines)) (Go tt s log) = i in absurd (cc)
        next (Spent lines) g i = let no : ◌≡◌ {A = Outcome (Unit {0})} (Spent (rows ++ lines)) (Go tt s log) = i in absurd (cc)
    go (Halt c rows) h f = let no : ◌≡◌ {A = Outcome (Unit {0})} (Halt c rows) (Go tt s log) = f in absurd (cc)
    go (Spent rows) h f = let no : ◌≡◌ {A = Outcome (Unit {0})} (Spent rows) (Go tt s log) = f in absurd (cc)

one_machine : (m p q : Machine) (rows lines : List LogRow) → park m ≡ Go tt p rows → park m ≡ Go tt q lines → p ≡ q
one_machine m p q rows lines e f = let same : Go tt p rows ≡ Go tt q lines = sym e ∙ f in cc

pub loaded_begun : (m p s : Machine) (rows log : List LogRow) → park m ≡ Go tt p rows → loaded m ≡ Go tt s log → Begun p s
loaded_begun m p s rows log e f = let both = behind_park m s log f in subst (λ x. Begun x s) (sym (one_machine m p both.0 rows both.1 e both.3)) (started both.0 s both.2 both.4)

-- ---- what is found

begun_loaded : (p s : Machine) → Begun p s → HasLoaded p s
begun_loaded p s b =
    let k : Heap = kept p.heap no_roots in
    let at_context : b.regs ACTIVE_CONTEXT ≡ b.context = b.others ACTIVE_CONTEXT refl refl refl in
    let at_home : b.regs HOME ≡ b.load.home = b.others HOME refl refl refl in
    let at_method : b.regs METHOD ≡ b.load.method = b.others METHOD refl refl refl in
    let at_receiver : b.regs RECEIVER ≡ b.load.receiver = b.others RECEIVER refl refl refl in
    subst (λ x. HasLoaded p x) (sym b.is) (record {
      heap = refl;
      context = b.first ∙ ap (λ v. Some v) (sym at_context);
      home = ap (λ v. part_in k (home_of v) v) at_context ∙ b.load.home_is ∙ ap (λ v. Some v) (sym at_home);
      method = ap (λ v. part_in k (field TEMP_FRAME_START METHOD_INDEX) v) at_home ∙ b.load.method_is ∙ ap (λ v. Some v) (sym at_method);
      receiver = ap (λ v. part_in k (field TEMP_FRAME_START RECEIVER_INDEX) v) at_home ∙ b.load.receiver_is ∙ ap (λ v. Some v) (sym at_receiver);
      selector = b.others 4 refl refl refl;
      new_method = b.others 5 refl refl refl;
      new_process = b.others 6 refl refl refl;
      transcript = refl;
      numbers = refl;
    })

pub loaded_found : (m p s : Machine) (rows log : List LogRow) → park m ≡ Go tt p rows → loaded m ≡ Go tt s log → HasLoaded p s
loaded_found m p s rows log e f = begun_loaded p s (loaded_begun m p s rows log e f)

-- ---- in a heap and in what is kept of it

part_kept : {A : Type 0} (h : Heap) (f : Object → Option A) (v : Value) (a : A) → part_in (kept h no_roots) f v ≡ Some a → part_in h f v ≡ Some a
part_kept {A} h f (Int z) a e = let no : ◌≡◌ {A = Option A} None (Some a) = e in absurd (cc)
part_kept {A} h f (Ref n) a e = go ((kept h no_roots).at n) refl e
  where
    go : (x : Option Object) → (kept h no_roots).at n ≡ x → option_and_then f x ≡ Some a → option_and_then f (h.at n) ≡ Some a
    go None g i = let no : ◌≡◌ {A = Option A} None (Some a) = i in absurd (cc)
    go (Some o) g i = ap (option_and_then f) ((kept-part h no_roots).same n o g) ∙ i

some_one : {A : Type 0} (a b : A) → Some a ≡ Some b → a ≡ b
some_one a b e = cc

not_name : {G : Type 0} (z : ℤ) (n : ℕ) → Some (Int z) ≡ Some (Ref n) → G
not_name z n e = let no : Int z ≡ Ref n = some_one (Int z) (Ref n) e in absurd (cc)

-- ---- in its own context

-- the number that a context states is the one that it was to state
is_stated : (z ip : ℤ) → stated z ≡ Some ip → ip ≡ z
is_stated (pos n) ip e = go (nat_lt n SMALL_INTEGERS) e
  where
    go : (b : Bool) → (if b then Some (pos n) else None) ≡ Some ip → ip ≡ pos n
    go true f = sym (some_one (pos n) ip f)
    go false f = let no : ◌≡◌ {A = Option ℤ} None (Some ip) = f in absurd (cc)
is_stated (negsuc n) ip e = go (nat_lt n SMALL_INTEGERS) e
  where
    go : (b : Bool) → (if b then Some (negsuc n) else None) ≡ Some ip → ip ≡ negsuc n
    go true f = sym (some_one (negsuc n) ip f)
    go false f = let no : ◌≡◌ {A = Option ℤ} None (Some ip) = f in absurd (cc)

pointer_is : (depth sp : ℤ) → stack_pointer depth ≡ Some sp → sp ≡ depth +ℤ pos EMPTY_STACK
pointer_is (pos n) sp e = sym (some_one (pos (n + EMPTY_STACK)) sp e)
pointer_is (negsuc n) sp e = let no : ◌≡◌ {A = Option ℤ} None (Some sp) = e in absurd (cc)

-- what the context states once the numbers are told
told_ip : (m : Machine) (k : Stating m) → field_at (told m k) k.active INSTRUCTION_POINTER_INDEX ≡ Some (Int k.ip)
unfolding told
told_ip m k =
    written-beside (written m.heap k.active INSTRUCTION_POINTER_INDEX (Int k.ip)) k.active STACK_POINTER_INDEX (Int k.depth) k.active INSTRUCTION_POINTER_INDEX refl
    ∙ written-here m.heap k.active INSTRUCTION_POINTER_INDEX (Int k.ip) k.old_ip k.had_ip

told_depth : (m : Machine) (k : Stating m) → field_at (told m k) k.active STACK_POINTER_INDEX ≡ Some (Int k.depth)
unfolding told
told_depth m k = written-here (written m.heap k.active INSTRUCTION_POINTER_INDEX (Int k.ip)) k.active STACK_POINTER_INDEX (Int k.depth) k.old_depth k.had_depth

-- and still when the context is the process's
kept_ip : (m : Machine) (k : Stating m) (process : ℕ) (old : Value) (z : ℤ) → field_at (told m k) process SUSPENDED_CONTEXT_INDEX ≡ Some old → field_at (written (told m k) process SUSPENDED_CONTEXT_INDEX (m.regs ACTIVE_CONTEXT)) k.active INSTRUCTION_POINTER_INDEX ≡ Some (Int z) → z ≡ k.ip
kept_ip m k process old z had e = by (k.active == process) refl
  where
    by : (b : Bool) → (k.active == process) ≡ b → z ≡ k.ip
    by true g =
        let same : k.active ≡ process = eqb-true k.active process g in
        let holds = written-here (told m k) process SUSPENDED_CONTEXT_INDEX (m.regs ACTIVE_CONTEXT) old had in
        let here : field_at (written (told m k) process SUSPENDED_CONTEXT_INDEX (m.regs ACTIVE_CONTEXT)) process SUSPENDED_CONTEXT_INDEX ≡ Some (Int z) = subst (λ x. field_at (written (told m k) process SUSPENDED_CONTEXT_INDEX (m.regs ACTIVE_CONTEXT)) x INSTRUCTION_POINTER_INDEX ≡ Some (Int z)) same e in
        not_name z k.active (sym here ∙ holds ∙ ap (λ v. Some v) k.in_context)
    by false g =
        let other = written-other (told m k) process SUSPENDED_CONTEXT_INDEX (m.regs ACTIVE_CONTEXT) k.active INSTRUCTION_POINTER_INDEX (λ same. let no : true ≡ false = sym (eq-eqb k.active process same) ∙ g in absurd (cc)) in
        let same : Some (Int z) ≡ Some (Int k.ip) = sym e ∙ other ∙ told_ip m k in
        let ints : Int z ≡ Int k.ip = some_one (Int z) (Int k.ip) same in
        cc

kept_depth : (m : Machine) (k : Stating m) (process : ℕ) (z : ℤ) → field_at (written (told m k) process SUSPENDED_CONTEXT_INDEX (m.regs ACTIVE_CONTEXT)) k.active STACK_POINTER_INDEX ≡ Some (Int z) → z ≡ k.depth
kept_depth m k process z e =
    let same : Some (Int z) ≡ Some (Int k.depth) = sym e ∙ written-beside (told m k) process SUSPENDED_CONTEXT_INDEX (m.regs ACTIVE_CONTEXT) k.active STACK_POINTER_INDEX refl ∙ told_depth m k in
    let ints : Int z ≡ Int k.depth = some_one (Int z) (Int k.depth) same in
    cc

numbers_back : (ip sp i depth pointer : ℤ) → i ≡ ip +ℤ pos 1 → depth ≡ sp -ℤ pos EMPTY_STACK → pointer ≡ depth +ℤ pos EMPTY_STACK → ((i -ℤ pos 1) ≡ ip) × (pointer ≡ sp)
numbers_back ip sp i depth pointer e f g = (ap (λ x. x -ℤ pos 1) e ∙ +ℤ-neg_ℤ_cancel ip (pos 1), g ∙ ap (λ x. x +ℤ pos EMPTY_STACK) f ∙ -ℤ-+ℤ_cancel sp (pos EMPTY_STACK))

here_by : (m p s : Machine) → HasParked m p → Begun p s → m.cpu.waiting ≡ false → s.regs ACTIVE_CONTEXT ≡ m.regs ACTIVE_CONTEXT → (s.cpu.ip ≡ m.cpu.ip) × (s.cpu.sp ≡ m.cpu.sp)
here_by m p s k b rests same =
    let h : Heap = written (told m k.by) k.process SUSPENDED_CONTEXT_INDEX (m.regs ACTIVE_CONTEXT) in
    let heap : p.heap ≡ h = ap (λ (x : Machine). x.heap) (k.quiet rests) in
    let context : b.context ≡ Ref k.by.active = sym (b.others ACTIVE_CONTEXT refl refl refl) ∙ sym (ap (λ (x : Machine). x.regs ACTIVE_CONTEXT) b.is) ∙ same ∙ k.by.in_context in
    let ip_there : part_in h (number TEMP_FRAME_START INSTRUCTION_POINTER_INDEX) (Ref k.by.active) ≡ Some b.load.ip = subst (λ x. part_in x (number TEMP_FRAME_START INSTRUCTION_POINTER_INDEX) (Ref k.by.active) ≡ Some b.load.ip) heap (subst (λ v. part_in p.heap (number TEMP_FRAME_START INSTRUCTION_POINTER_INDEX) v ≡ Some b.load.ip) context (part_kept p.heap (number TEMP_FRAME_START INSTRUCTION_POINTER_INDEX) b.context b.load.ip b.load.ip_is)) in
    let depth_there : part_in h (number TEMP_FRAME_START STACK_POINTER_INDEX) (Ref k.by.active) ≡ Some b.load.depth = subst (λ x. part_in x (number TEMP_FRAME_START STACK_POINTER_INDEX) (Ref k.by.active) ≡ Some b.load.depth) heap (subst (λ v. part_in p.heap (number TEMP_FRAME_START STACK_POINTER_INDEX) v ≡ Some b.load.depth) context (part_kept p.heap (number TEMP_FRAME_START STACK_POINTER_INDEX) b.context b.load.depth b.load.depth_is)) in
    let ip = kept_ip m k.by k.process k.old_context b.load.ip k.had_context (number-is h k.by.active TEMP_FRAME_START INSTRUCTION_POINTER_INDEX b.load.ip ip_there) ∙ is_stated (m.cpu.ip +ℤ pos 1) k.by.ip k.by.ip_stated in
    let depth = kept_depth m k.by k.process b.load.depth (number-is h k.by.active TEMP_FRAME_START STACK_POINTER_INDEX b.load.depth depth_there) ∙ is_stated (m.cpu.sp -ℤ pos EMPTY_STACK) k.by.depth k.by.depth_stated in
    let both = numbers_back m.cpu.ip m.cpu.sp b.load.ip b.load.depth b.load.sp ip depth (pointer_is b.load.depth b.load.sp b.load.sp_is) in
    (ap (λ (x : Machine). x.cpu.ip) b.is ∙ both.0, ap (λ (x : Machine). x.cpu.sp) b.is ∙ both.1)

pub loaded_here : (m s : Machine) (log : List LogRow) → loaded m ≡ Go tt s log → m.cpu.waiting ≡ false → s.regs ACTIVE_CONTEXT ≡ m.regs ACTIVE_CONTEXT → (s.cpu.ip ≡ m.cpu.ip) × (s.cpu.sp ≡ m.cpu.sp)
loaded_here m s log e rests same = let both = behind_park m s log e in here_by m both.0 s ((park_comes {m = m}).to tt both.0 both.1 both.3) (started both.0 s both.2 both.4) rests same

-- ---- in the context of the process that it was to switch to

some_of : {A B : Type 0} (f : A → Option B) (x : Option A) (b : B) → option_and_then f x ≡ Some b → (a : A) × (x ≡ Some a) × (f a ≡ Some b)
some_of {A} {B} f None b e = let no : ◌≡◌ {A = Option B} None (Some b) = e in absurd (cc)
some_of f (Some a) b e = (a, refl, e)

-- the scheduler's association is another object than the context, in which a number stands now
apart_context : (m : Machine) (k : Stating m) (scheduler : ℕ) → part_in (told m k) (field ASSOCIATION_SIZE VALUE_INDEX) (Ref SCHEDULER_ASSOCIATION) ≡ Some (Ref scheduler) → SCHEDULER_ASSOCIATION ≡ k.active → ⊥
apart_context m k s e same =
    let there : field_at (told m k) SCHEDULER_ASSOCIATION VALUE_INDEX ≡ Some (Ref s) = field-is (told m k) SCHEDULER_ASSOCIATION ASSOCIATION_SIZE VALUE_INDEX (Ref s) e in
    let number : field_at (told m k) SCHEDULER_ASSOCIATION INSTRUCTION_POINTER_INDEX ≡ Some (Int k.ip) = subst (λ x. field_at (told m k) x INSTRUCTION_POINTER_INDEX ≡ Some (Int k.ip)) (sym same) (told_ip m k) in
    not_name k.ip s (sym number ∙ there)

-- the scheduler that parking finds is the machine's
told_scheduler : (m : Machine) (k : Stating m) (scheduler : ℕ) → part_in (told m k) (field ASSOCIATION_SIZE VALUE_INDEX) (Ref SCHEDULER_ASSOCIATION) ≡ Some (Ref scheduler) → scheduler_in m.heap ≡ Some (Ref scheduler)
unfolding told
told_scheduler m k s e =
    let apart = apart_context m k s e in
    let same = written-apart (written m.heap k.active INSTRUCTION_POINTER_INDEX (Int k.ip)) k.active STACK_POINTER_INDEX (Int k.depth) SCHEDULER_ASSOCIATION apart ∙ written-apart m.heap k.active INSTRUCTION_POINTER_INDEX (Int k.ip) SCHEDULER_ASSOCIATION apart in
    subst (λ (o : Option Object). option_and_then (field ASSOCIATION_SIZE VALUE_INDEX) o ≡ Some (Ref s)) same e

-- after the context was stored into the process, and the new process into the scheduler
abbrev with_process : Heap → ℕ → Value → Heap
with_process h process context = written h process SUSPENDED_CONTEXT_INDEX context

abbrev with_new : Heap → ℕ → Value → ℕ → Value → Heap
with_new h process context scheduler new = written (with_process h process context) scheduler ACTIVE_PROCESS_INDEX new

unequal : (a b : ℕ) → (a == b) ≡ false → a ≡ b → ⊥
unequal a b e same = let no : true ≡ false = sym (eq-eqb a b same) ∙ e in absurd (cc)

-- the active process of the scheduler is the new one
in_scheduler : (h : Heap) (process scheduler : ℕ) (context new old v : Value) → field_at (with_process h process context) scheduler ACTIVE_PROCESS_INDEX ≡ Some old → field_at (with_new h process context scheduler new) scheduler ACTIVE_PROCESS_INDEX ≡ Some v → v ≡ new
in_scheduler h process scheduler context new old v had e = some_one v new (sym e ∙ written-here (with_process h process context) scheduler ACTIVE_PROCESS_INDEX new old had)

new_process : (h : Heap) (active process scheduler : ℕ) (context new old other first second third : Value) (ip : ℤ)
    → context ≡ Ref active → (SCHEDULER_ASSOCIATION ≡ active → ⊥) → (SCHEDULER_ASSOCIATION ≡ scheduler → ⊥)
    → field_at h SCHEDULER_ASSOCIATION VALUE_INDEX ≡ Some (Ref scheduler) → field_at h active INSTRUCTION_POINTER_INDEX ≡ Some (Int ip)
    → field_at h process SUSPENDED_CONTEXT_INDEX ≡ Some old → field_at (with_process h process context) scheduler ACTIVE_PROCESS_INDEX ≡ Some other
    → part_in (with_new h process context scheduler new) (field ASSOCIATION_SIZE VALUE_INDEX) (Ref SCHEDULER_ASSOCIATION) ≡ Some first
    → part_in (with_new h process context scheduler new) (field SCHEDULER_SIZE ACTIVE_PROCESS_INDEX) first ≡ Some second
    → part_in (with_new h process context scheduler new) (field PROCESS_SIZE SUSPENDED_CONTEXT_INDEX) second ≡ Some third
    → second ≡ new
new_process h active process scheduler context new old other first second third ip is_context apart away scheduled stated_ip had had_other e f g = by (SCHEDULER_ASSOCIATION == process) refl
  where
    all : Heap
    all = with_new h process context scheduler new

    found : field_at all SCHEDULER_ASSOCIATION VALUE_INDEX ≡ Some first
    found = field-is all SCHEDULER_ASSOCIATION ASSOCIATION_SIZE VALUE_INDEX first e

    here : field_at all SCHEDULER_ASSOCIATION VALUE_INDEX ≡ field_at (with_process h process context) SCHEDULER_ASSOCIATION VALUE_INDEX
    here = written-other (with_process h process context) scheduler ACTIVE_PROCESS_INDEX new SCHEDULER_ASSOCIATION VALUE_INDEX away

    second_of : (n : ℕ) → first ≡ Ref n → field_at all n ACTIVE_PROCESS_INDEX ≡ Some second
    second_of n same = field-is all n SCHEDULER_SIZE ACTIVE_PROCESS_INDEX second (subst (λ v. part_in all (field SCHEDULER_SIZE ACTIVE_PROCESS_INDEX) v ≡ Some second) same f)

    by : (b : Bool) → (SCHEDULER_ASSOCIATION == process) ≡ b → second ≡ new
    by false q =
        let stays = written-other h process SUSPENDED_CONTEXT_INDEX context SCHEDULER_ASSOCIATION VALUE_INDEX (unequal SCHEDULER_ASSOCIATION process q) in
        let same : first ≡ Ref scheduler = some_one first (Ref scheduler) (sym found ∙ here ∙ stays ∙ scheduled) in
        in_scheduler h process scheduler context new other second had_other (second_of scheduler same)
    by true q = inside (active == scheduler) refl
      where
        is_process : SCHEDULER_ASSOCIATION ≡ process
        is_process = eqb-true SCHEDULER_ASSOCIATION process q

        holds : field_at (with_process h process context) SCHEDULER_ASSOCIATION VALUE_INDEX ≡ Some context
        holds = subst (λ n. field_at (with_process h process context) n VALUE_INDEX ≡ Some context) (sym is_process) (written-here h process SUSPENDED_CONTEXT_INDEX context old had)

        in_active : field_at all active ACTIVE_PROCESS_INDEX ≡ Some second
        in_active = second_of active (some_one first (Ref active) (sym found ∙ here ∙ holds ∙ ap (λ v. Some v) is_context))

        inside : (b : Bool) → (active == scheduler) ≡ b → second ≡ new
        inside true r = in_scheduler h process scheduler context new other second had_other (subst (λ n. field_at all n ACTIVE_PROCESS_INDEX ≡ Some second) (eqb-true active scheduler r) in_active)
        inside false r =
            let above = written-other (with_process h process context) scheduler ACTIVE_PROCESS_INDEX new active ACTIVE_PROCESS_INDEX (unequal active scheduler r) in
            let below = written-other h process SUSPENDED_CONTEXT_INDEX context active ACTIVE_PROCESS_INDEX (λ same. apart (is_process ∙ sym same)) in
            let number : second ≡ Int ip = some_one second (Int ip) (sym in_active ∙ above ∙ below ∙ stated_ip) in
            named all (field PROCESS_SIZE SUSPENDED_CONTEXT_INDEX) second third g (λ n name. let no : Int ip ≡ Ref n = sym number ∙ name in absurd (cc))

switched_by : (m p s : Machine) → HasParked m p → Begun p s → m.cpu.waiting ≡ true → (scheduler_in m.heap ≡ Some (Ref SCHEDULER_ASSOCIATION) → ⊥) → part_in p.heap (field PROCESS_SIZE SUSPENDED_CONTEXT_INDEX) (m.regs NEW_PROCESS) ≡ Some (s.regs ACTIVE_CONTEXT)
switched_by m p s k b waits apart =
    let t : Heap = told m k.by in
    let all : Heap = with_new t k.process (m.regs ACTIVE_CONTEXT) k.scheduler (m.regs NEW_PROCESS) in
    let heap : p.heap ≡ all = ap (λ (x : Machine). x.heap) (k.switched waits) in
    let last = some_of (part_in (kept p.heap no_roots) (field PROCESS_SIZE SUSPENDED_CONTEXT_INDEX)) (process_in (kept p.heap no_roots)) b.context b.first in
    let before = some_of (part_in (kept p.heap no_roots) (field SCHEDULER_SIZE ACTIVE_PROCESS_INDEX)) (scheduler_in (kept p.heap no_roots)) last.0 last.1 in
    let e = subst (λ x. part_in x (field ASSOCIATION_SIZE VALUE_INDEX) (Ref SCHEDULER_ASSOCIATION) ≡ Some before.0) heap (part_kept p.heap (field ASSOCIATION_SIZE VALUE_INDEX) (Ref SCHEDULER_ASSOCIATION) before.0 before.1) in
    let f = subst (λ x. part_in x (field SCHEDULER_SIZE ACTIVE_PROCESS_INDEX) before.0 ≡ Some last.0) heap (part_kept p.heap (field SCHEDULER_SIZE ACTIVE_PROCESS_INDEX) before.0 last.0 before.2) in
    let found = part_kept p.heap (field PROCESS_SIZE SUSPENDED_CONTEXT_INDEX) last.0 b.context last.2 in
    let g = subst (λ x. part_in x (field PROCESS_SIZE SUSPENDED_CONTEXT_INDEX) last.0 ≡ Some b.context) heap found in
    let away = λ (same : SCHEDULER_ASSOCIATION ≡ k.scheduler). apart (told_scheduler m k.by k.scheduler k.scheduled ∙ ap (λ n. Some (Ref n)) (sym same)) in
    let is_new : last.0 ≡ m.regs NEW_PROCESS = new_process t k.by.active k.process k.scheduler (m.regs ACTIVE_CONTEXT) (m.regs NEW_PROCESS) k.old_context k.old_process before.0 last.0 b.context k.by.ip
    k.by.in_context (apart_context m k.by k.scheduler k.scheduled) away
    (field-is t SCHEDULER_ASSOCIATION ASSOCIATION_SIZE VALUE_INDEX (Ref k.scheduler) k.scheduled) (told_ip m k.by) k.had_context (k.had_process waits) e f g in
    let context : b.context ≡ s.regs ACTIVE_CONTEXT = sym (ap (λ (x : Machine). x.regs ACTIVE_CONTEXT) b.is ∙ b.others ACTIVE_CONTEXT refl refl refl) in
    subst (λ v. part_in p.heap (field PROCESS_SIZE SUSPENDED_CONTEXT_INDEX) v ≡ Some (s.regs ACTIVE_CONTEXT)) is_new (found ∙ ap (λ v. Some v) context)

pub loaded_switched : (m p s : Machine) (rows log : List LogRow) → park m ≡ Go tt p rows → loaded m ≡ Go tt s log → m.cpu.waiting ≡ true → (scheduler_in m.heap ≡ Some (Ref SCHEDULER_ASSOCIATION) → ⊥) → part_in p.heap (field PROCESS_SIZE SUSPENDED_CONTEXT_INDEX) (m.regs NEW_PROCESS) ≡ Some (s.regs ACTIVE_CONTEXT)
loaded_switched m p s rows log e f waits apart = switched_by m p s ((park_comes {m = m}).to tt p rows e) (loaded_begun m p s rows log e f) waits apart
