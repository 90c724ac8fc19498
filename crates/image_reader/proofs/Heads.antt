-- The head that a window begins with is the one that the file begins with.
use Rattle.std.proofs.Common.{◌≡◌, ℕ, ◌+◌, ◌-◌, ◌<◌, ◌≤◌, Bool, true, false, cond, eqb, ltb, leb, IsTrue, List, [], ◌++◌, length, drop, Option, None, Some, Result, Ok, Err, refl, sym, ap, ap₂, subst, ◌∙◌, length-append, codes, arith}
use Rattle.std.specs.Int.{w32}
use Rattle.std.proofs.lemmas.Bool.{and_parts, leb-true, ltb-true, le-ltb, lt-ltb}
use Rattle.std.proofs.lemmas.List.{append-nil, drop_at}
use Rattle.long_names.specs.Record.{four_bytes}
use Rattle.image_format.specs.declared.fault.Break.{Break}
use Rattle.image_format.specs.declared.fault.Halt.{Halt}
use Rattle.image_format.specs.declared.opening.Opening.{Opening}
use Rattle.image_format.specs.declared.opening.State.{State}
use Rattle.image_format.specs.declared.opening.ImageHead.{ImageHead}
use Rattle.image_format.specs.Faults.{told, break_of}
use Rattle.image_format.specs.Heads.{no_state, is_loom, is_version, is_count, is_next, is_state_word, is_tick, checked_at, opening_at, state_at, version_state_at, head_at, opening_text, state_text, stated_text, version_head_text}
use Rattle.image_format.specs.Reading.{halt, broken, number_at}
use Rattle.image_format.proofs.Bounds.{IsIn, Stands, bind_in, number_in}
use Rattle.image_format.proofs.Numbers.{AreBytes, bind_ok, ok_is, wide32}
use Rattle.image_format.proofs.Openings.{head_takes}
use Rattle.image_format.proofs.Windows.{Extends}
use Rattle.image_reader.specs.declared.fault.LoadFault.{LoadFault}
use Rattle.image_reader.specs.declared.fault.LoadFault.TheVariants.{Bad, Read, Disk, Memory}
use Rattle.loom_host.specs.declared.outside.DiskFault.TheVariants as disk
use Rattle.image_reader.specs.Inside.{IsHeadFault, head_len}
use Rattle.image_reader.specs.Loaded.{full_of, too_many}
use Rattle.image_reader.proofs.Next.{bind_extends, tested_extends, number_extends}

-- ---- with bytes behind the window

checked_extends : (left : List ℕ) (rule : ℕ) (test : ℕ → Bool) (bytes : List ℕ) → Extends left (checked_at rule test bytes) (checked_at rule test (bytes ++ left))
unfolding checked_at
checked_extends left rule test bytes = bind_extends left (number_at w32 bytes) (number_at w32 (bytes ++ left)) _ _ (number_extends left w32 bytes) (λ x. tested_extends left bytes rule (test x.0) x)

opening_extends : (left bytes : List ℕ) → Extends left (opening_at bytes) (opening_at (bytes ++ left))
unfolding opening_at
opening_extends left bytes = bind_extends left (checked_at 1 is_loom bytes) (checked_at 1 is_loom (bytes ++ left)) _ _ (checked_extends left 1 is_loom bytes)
    (λ loom. bind_extends left (checked_at 2 is_version loom.1) (checked_at 2 is_version (loom.1 ++ left)) _ _ (checked_extends left 2 is_version loom.1)
    (λ version. bind_extends left (checked_at 3 is_count version.1) (checked_at 3 is_count (version.1 ++ left)) _ _ (checked_extends left 3 is_count version.1)
    (λ objects. bind_extends left (checked_at 3 is_next objects.1) (checked_at 3 is_next (objects.1 ++ left)) _ _ (checked_extends left 3 is_next objects.1)
    (λ next. refl))))

state_extends : (left : List ℕ) (next : ℕ) (bytes : List ℕ) → Extends left (state_at next bytes) (state_at next (bytes ++ left))
unfolding state_at
state_extends left next bytes = bind_extends left (number_at w32 bytes) (number_at w32 (bytes ++ left)) _ _ (number_extends left w32 bytes)
    (λ clock. bind_extends left (checked_at 13 (is_state_word next) clock.1) (checked_at 13 (is_state_word next) (clock.1 ++ left)) _ _ (checked_extends left 13 (is_state_word next) clock.1)
    (λ display. bind_extends left (checked_at 13 (is_state_word next) display.1) (checked_at 13 (is_state_word next) (display.1 ++ left)) _ _ (checked_extends left 13 (is_state_word next) display.1)
    (λ input. bind_extends left (checked_at 13 (is_state_word next) input.1) (checked_at 13 (is_state_word next) (input.1 ++ left)) _ _ (checked_extends left 13 (is_state_word next) input.1)
    (λ timer. bind_extends left (checked_at 13 (is_tick timer.0) timer.1) (checked_at 13 (is_tick timer.0) (timer.1 ++ left)) _ _ (checked_extends left 13 (is_tick timer.0) timer.1)
    (λ tick. refl)))))

version_extends : (left : List ℕ) (o : Opening) (bytes : List ℕ) → Extends left (version_state_at o bytes) (version_state_at o (bytes ++ left))
version_extends left o bytes = go (eqb o.version 2)
  where
    go : (b : Bool) → Extends {X = State} left (cond b (state_at o.next bytes) (Ok (no_state, bytes))) (cond b (state_at o.next (bytes ++ left)) (Ok (no_state, bytes ++ left)))
    go true = state_extends left o.next bytes
    go false = refl

head_extends : (left bytes : List ℕ) → Extends left (head_at bytes) (head_at (bytes ++ left))
unfolding head_at
head_extends left bytes = bind_extends left (opening_at bytes) (opening_at (bytes ++ left)) _ _ (opening_extends left bytes)
    (λ o. bind_extends left (version_state_at o.0 o.1) (version_state_at o.0 (o.1 ++ left)) _ _ (version_extends left o.0 o.1) (λ s. refl))

-- ---- how far it goes

tested_in : {X : Type 0} (len k most rule : ℕ) (bytes : List ℕ) (b : Bool) (x : X × List ℕ) → (rule ≡ 9 → ⊥) → k ≤ most → Stands len k bytes → length x.1 ≤ len → len ≤ most + length x.1 → IsIn len most (cond b (Ok x) (broken rule bytes))
tested_in len k most rule bytes true x other le at low near = (low, near)
tested_in len k most rule bytes false x other le at low near = (at.low, omega (arith, at.near, le), λ e. absurd (other e))

checked_in : (len k rule : ℕ) (test : ℕ → Bool) (bytes : List ℕ) → (rule ≡ 9 → ⊥) → Stands len k bytes → IsIn len (k + 4) (checked_at rule test bytes)
unfolding checked_at
checked_in len k rule test bytes other at = bind_in len (k + 4) (k + 4) (number_at w32 bytes) _ (omega arith) (number_in len k w32 bytes at)
    (λ x e low near. tested_in len k (k + 4) rule bytes (test x.0) x other (omega arith) at low near)

opening_in : (bytes : List ℕ) → IsIn (length bytes) 16 (opening_at bytes)
unfolding opening_at
opening_in bytes =
    let len = length bytes in
    bind_in len 4 16 (checked_at 1 is_loom bytes) _ (omega arith) (checked_in len 0 1 is_loom bytes (λ e. cc) (record { low = omega arith; near = omega arith }))
    (λ loom e low near. bind_in len 8 16 (checked_at 2 is_version loom.1) _ (omega arith) (checked_in len 4 2 is_version loom.1 (λ e. cc) (record { low = low; near = near }))
    (λ version e low near. bind_in len 12 16 (checked_at 3 is_count version.1) _ (omega arith) (checked_in len 8 3 is_count version.1 (λ e. cc) (record { low = low; near = near }))
    (λ objects e low near. bind_in len 16 16 (checked_at 3 is_next objects.1) _ (omega arith) (checked_in len 12 3 is_next objects.1 (λ e. cc) (record { low = low; near = near }))
    (λ next e low near. (low, near)))))

state_in : (len next : ℕ) (bytes : List ℕ) → Stands len 16 bytes → IsIn len 36 (state_at next bytes)
unfolding state_at
state_in len next bytes at =
    bind_in len 20 36 (number_at w32 bytes) _ (omega arith) (number_in len 16 w32 bytes at)
    (λ clock e low near. bind_in len 24 36 (checked_at 13 (is_state_word next) clock.1) _ (omega arith) (checked_in len 20 13 (is_state_word next) clock.1 (λ e. cc) (record { low = low; near = near }))
    (λ display e low near. bind_in len 28 36 (checked_at 13 (is_state_word next) display.1) _ (omega arith) (checked_in len 24 13 (is_state_word next) display.1 (λ e. cc) (record { low = low; near = near }))
    (λ input e low near. bind_in len 32 36 (checked_at 13 (is_state_word next) input.1) _ (omega arith) (checked_in len 28 13 (is_state_word next) input.1 (λ e. cc) (record { low = low; near = near }))
    (λ timer e low near. bind_in len 36 36 (checked_at 13 (is_tick timer.0) timer.1) _ (omega arith) (checked_in len 32 13 (is_tick timer.0) timer.1 (λ e. cc) (record { low = low; near = near }))
    (λ tick e low near. (low, near))))))

version_in : (len : ℕ) (o : Opening) (bytes : List ℕ) → Stands len 16 bytes → IsIn len 36 (version_state_at o bytes)
version_in len o bytes at = go (eqb o.version 2)
  where
    go : (b : Bool) → IsIn {X = State} len 36 (cond b (state_at o.next bytes) (Ok (no_state, bytes)))
    go true = state_in len o.next bytes at
    go false = (at.low, omega (arith, at.near))

head_in : (bytes : List ℕ) → IsIn (length bytes) 36 (head_at bytes)
unfolding head_at
head_in bytes = bind_in (length bytes) 16 36 (opening_at bytes) _ (omega arith) (opening_in bytes)
    (λ o e low near. bind_in (length bytes) 36 36 (version_state_at o.0 o.1) _ (omega arith) (version_in (length bytes) o.0 o.1 (record { low = low; near = near })) (λ s e low near. (low, near)))

-- ---- the length of the text

four : (n : ℕ) → length (four_bytes n) ≡ 4
four n = wide32.len n

opening_long : (o : Opening) → length (opening_text o) ≡ 16
opening_long o =
    let a = length-append (codes "LOOM") (four_bytes o.version ++ (four_bytes o.objects ++ four_bytes o.next)) in
    let b = length-append (four_bytes o.version) (four_bytes o.objects ++ four_bytes o.next) in
    let c = length-append (four_bytes o.objects) (four_bytes o.next) in
    let loom : length (codes "LOOM") ≡ 4 = refl in
    omega (arith, a, b, c, loom, four o.version, four o.objects, four o.next)

state_long : (s : State) → length (state_text s) ≡ 20
state_long s =
    let a = length-append (four_bytes s.clock) (four_bytes s.display ++ (four_bytes s.input ++ (four_bytes s.timer ++ four_bytes s.tick))) in
    let b = length-append (four_bytes s.display) (four_bytes s.input ++ (four_bytes s.timer ++ four_bytes s.tick)) in
    let c = length-append (four_bytes s.input) (four_bytes s.timer ++ four_bytes s.tick) in
    let d = length-append (four_bytes s.timer) (four_bytes s.tick) in
    omega (arith, a, b, c, d, four s.clock, four s.display, four s.input, four s.timer, four s.tick)

head_long : (h : ImageHead) → length (version_head_text h) ≡ head_len h.opening
head_long h = length-append (opening_text h.opening) (stated_text h) ∙ go (eqb h.opening.version 2)
  where
    go : (b : Bool) → length (opening_text h.opening) + length (let t : List ℕ = cond b (state_text h.state) [] in t) ≡ cond b 36 16
    go true = ap₂ (λ (m n : ℕ). m + n) (opening_long h.opening) (state_long h.state)
    go false = ap (λ (m : ℕ). m + 0) (opening_long h.opening)

-- ---- what read_opening and read_head answer

no_opening : (bytes : List ℕ) (h : Halt) → opening_at bytes ≡ Err h → head_at bytes ≡ Err h
unfolding head_at
no_opening bytes h e = rw e refl

pub opening_refused : (room : ℕ) (bytes : List ℕ) (b : Break) → told (length bytes) (opening_at bytes) ≡ Err b → IsHeadFault room bytes (Bad b.rule b.place)
opening_refused room bytes b e = go (opening_at bytes) refl (opening_in bytes)
  where
    go : (r : Result (Opening × List ℕ) Halt) → opening_at bytes ≡ r → IsIn (length bytes) 16 r → IsHeadFault room bytes (Bad b.rule b.place)
    go (Ok x) is near = let clash : ◌≡◌ {A = Result Opening Break} (Ok x.0) (Err b) = ap (told (length bytes)) (sym is) ∙ e in absurd (cc)
    go (Err h) is near =
        let same : ◌≡◌ {A = Result Opening Break} (Err (break_of (length bytes) h)) (Err b) = ap (told (length bytes)) (sym is) ∙ e in
        let broke : break_of (length bytes) h ≡ b = cc in
        let place : length bytes - h.left ≡ b.place = ap (λ (k : Break). k.place) broke in
        ((h, no_opening bytes h is, ap (λ (k : Break). k.rule) broke, omega (arith, near.0, place)), ap (too_many room) is)

opened : (bytes : List ℕ) (o : Opening) → told (length bytes) (opening_at bytes) ≡ Ok o → (rest : List ℕ) × (opening_at bytes ≡ Ok (o, rest))
opened bytes o e = go (opening_at bytes) refl
  where
    go : (r : Result (Opening × List ℕ) Halt) → opening_at bytes ≡ r → (rest : List ℕ) × (opening_at bytes ≡ Ok (o, rest))
    go (Err h) is = let clash : ◌≡◌ {A = Result Opening Break} (Err (break_of (length bytes) h)) (Ok o) = ap (told (length bytes)) (sym is) ∙ e in absurd (cc)
    go (Ok x) is =
        let same : ◌≡◌ {A = Result Opening Break} (Ok x.0) (Ok o) = ap (told (length bytes)) (sym is) ∙ e in
        let one : x.0 ≡ o = cc in
        (x.1, is ∙ ap (λ (p : Opening). let r : Result (Opening × List ℕ) Halt = Ok (p, x.1) in r) one)

pub too_full : (room : ℕ) (bytes : List ℕ) (o : Opening) → told (length bytes) (opening_at bytes) ≡ Ok o → room < o.objects → full_of room bytes ≡ Some o.objects
too_full room bytes o e above =
    let x = opened bytes o e in
    ap (too_many room) x.1 ∙ ap (λ (b : Bool). let r : Option ℕ = cond b (Some o.objects) None in r) (lt-ltb room o.objects above)

pub fits_room : (room : ℕ) (bytes : List ℕ) (o : Opening) → told (length bytes) (opening_at bytes) ≡ Ok o → o.objects ≤ room → full_of room bytes ≡ None
fits_room room bytes o e le =
    let x = opened bytes o e in
    ap (too_many room) x.1 ∙ ap (λ (b : Bool). let r : Option ℕ = cond b (Some o.objects) None in r) (le-ltb room o.objects le)

pub head_refused : (room : ℕ) (bytes : List ℕ) (b : Break) → full_of room bytes ≡ None → told (length bytes) (head_at bytes) ≡ Err b → IsHeadFault room bytes (Bad b.rule b.place)
head_refused room bytes b roomy e = go (head_at bytes) refl (head_in bytes)
  where
    go : (r : Result (ImageHead × List ℕ) Halt) → head_at bytes ≡ r → IsIn (length bytes) 36 r → IsHeadFault room bytes (Bad b.rule b.place)
    go (Ok x) is near = let clash : ◌≡◌ {A = Result ImageHead Break} (Ok x.0) (Err b) = ap (told (length bytes)) (sym is) ∙ e in absurd (cc)
    go (Err h) is near =
        let same : ◌≡◌ {A = Result ImageHead Break} (Err (break_of (length bytes) h)) (Err b) = ap (told (length bytes)) (sym is) ∙ e in
        let broke : break_of (length bytes) h ≡ b = cc in
        let place : length bytes - h.left ≡ b.place = ap (λ (k : Break). k.place) broke in
        ((h, is, ap (λ (k : Break). k.rule) broke, omega (arith, near.0, place)), roomy)

opening_same : (bytes : List ℕ) (o : Opening) (x : ImageHead × List ℕ) → told (length bytes) (opening_at bytes) ≡ Ok o → head_at bytes ≡ Ok x → x.0.opening ≡ o
unfolding head_at
opening_same bytes o x e is =
    let a = bind_ok (opening_at bytes) _ x is in
    let b = bind_ok (version_state_at a.0.0 a.0.1) _ x a.2 in
    let y = opened bytes o e in
    sym (ap (λ (p : ImageHead × List ℕ). p.0.opening) (ok_is _ x b.2)) ∙ ap (λ (p : Opening × List ℕ). p.0) (ok_is a.0 (o, y.0) (sym a.1 ∙ y.1))

-- what a head is that was read
pub record IsHeadRead (bytes : List ℕ) (h : ImageHead) (o : Opening) : Type 0 where
  pub read : head_at bytes ≡ Ok (h, drop (head_len h.opening) bytes)
  pub len : head_len h.opening ≤ length bytes
  pub same : h.opening ≡ o
  pub few : h.opening.objects ≤ 1048576

pub head_read : (bytes : List ℕ) (h : ImageHead) (o : Opening) → AreBytes bytes → told (length bytes) (opening_at bytes) ≡ Ok o → told (length bytes) (head_at bytes) ≡ Ok h → IsHeadRead bytes h o
head_read bytes h o fits e f = go (head_at bytes) refl
  where
    go : (r : Result (ImageHead × List ℕ) Halt) → head_at bytes ≡ r → IsHeadRead bytes h o
    go (Err k) is = let clash : ◌≡◌ {A = Result ImageHead Break} (Err (break_of (length bytes) k)) (Ok h) = ap (told (length bytes)) (sym is) ∙ f in absurd (cc)
    go (Ok x) is =
        let same : ◌≡◌ {A = Result ImageHead Break} (Ok x.0) (Ok h) = ap (told (length bytes)) (sym is) ∙ f in
        let one : x.0 ≡ h = cc in
        let takes = head_takes bytes x fits is in
        let long : length (version_head_text x.0) ≡ head_len h.opening = head_long x.0 ∙ ap (λ (k : ImageHead). head_len k.opening) one in
        let rest : drop (head_len h.opening) bytes ≡ x.1 = ap (λ (s : List ℕ). drop (head_len h.opening) s) takes.0.parts ∙ drop_at (version_head_text x.0) x.1 (head_len h.opening) long in
        let whole = ap length takes.0.parts ∙ length-append (version_head_text x.0) x.1 in
        let count = leb-true _ _ (and_parts (leb 22 x.0.opening.objects) (leb x.0.opening.objects 1048576) takes.1.opening.objects).1 in
        record {
          read = is ∙ ap₂ (λ (k : ImageHead) (s : List ℕ). let r : Result (ImageHead × List ℕ) Halt = Ok (k, s) in r) one (sym rest);
          len = omega (arith, whole, long);
          same = sym (ap (λ (k : ImageHead). k.opening) one) ∙ opening_same bytes o x e is;
          few = subst (λ (k : ImageHead). k.opening.objects ≤ 1048576) one count;
        }

-- ---- with what is left of the file

pub head_more : (bytes left : List ℕ) (x : ImageHead × List ℕ) → head_at bytes ≡ Ok x → head_at (bytes ++ left) ≡ Ok (x.0, x.1 ++ left)
head_more bytes left x e = subst (λ (r : Result (ImageHead × List ℕ) Halt). Extends left r (head_at (bytes ++ left))) e (head_extends left bytes)

-- a window that isn't the whole file has the opening whole
full_more : (room : ℕ) (bytes left : List ℕ) → 16 ≤ length bytes → full_of room (bytes ++ left) ≡ full_of room bytes
full_more room bytes left long = go (opening_at bytes) refl (opening_in bytes) (opening_extends left bytes)
  where
    go : (r : Result (Opening × List ℕ) Halt) → opening_at bytes ≡ r → IsIn (length bytes) 16 r → Extends left r (opening_at (bytes ++ left)) → full_of room (bytes ++ left) ≡ full_of room bytes
    go (Ok x) is near more = ap (too_many room) more ∙ sym (ap (too_many room) is)
    go (Err h) is near more = ap (too_many room) (more (λ nine. let short = near.2 nine in let no : ⊥ = omega (arith, long, short) in no)) ∙ sym (ap (too_many room) is)

-- what is too many is more than there is room for
pub full_above : (room : ℕ) (bytes : List ℕ) (held : ℕ) → full_of room bytes ≡ Some held → room < held
full_above room bytes held e = go (opening_at bytes) e
  where
    go : (r : Result (Opening × List ℕ) Halt) → too_many room r ≡ Some held → room < held
    go (Ok x) e = test (ltb room x.0.objects) refl e
      where
        test : (b : Bool) → ltb room x.0.objects ≡ b → cond b (Some x.0.objects) None ≡ Some held → room < held
        test true above e = let same : x.0.objects ≡ held = cc in let lt = ltb-true room x.0.objects above in omega (arith, lt, same)
        test false above e = let no : ◌≡◌ {A = Option ℕ} None (Some held) = e in absurd (cc)
    go (Err h) e = let no : ◌≡◌ {A = Option ℕ} None (Some held) = e in absurd (cc)

pub full_same : (room : ℕ) (bytes left : List ℕ) (ended : Bool) → (ended ≡ false → 262164 ≤ length bytes) → (IsTrue ended → left ≡ []) → full_of room (bytes ++ left) ≡ full_of room bytes
full_same room bytes left true enough ends = ap (full_of room) (ap (λ (l : List ℕ). bytes ++ l) (ends refl) ∙ append-nil bytes)
full_same room bytes left false enough ends = let long = enough refl in full_more room bytes left (omega (arith, long))

head_stops : (bytes left : List ℕ) (h : Halt) → 36 ≤ length bytes → head_at bytes ≡ Err h → head_at (bytes ++ left) ≡ Err (halt h.rule (h.left + length left))
head_stops bytes left h long e =
    let near = subst (λ (r : Result (ImageHead × List ℕ) Halt). IsIn (length bytes) 36 r) e (head_in bytes) in
    subst (λ (r : Result (ImageHead × List ℕ) Halt). Extends left r (head_at (bytes ++ left))) e (head_extends left bytes) (λ nine. let short = near.2 nine in let no : ⊥ = omega (arith, long, short) in no)

-- a head that was refused in the window is refused so in the file
pub head_fault_more : (room : ℕ) (bytes left : List ℕ) (ended : Bool) (f : LoadFault) → (ended ≡ false → 262164 ≤ length bytes) → (IsTrue ended → left ≡ []) → IsHeadFault room bytes f → IsHeadFault room (bytes ++ left) f
head_fault_more room bytes left true f enough ends h = subst (λ (b : List ℕ). IsHeadFault room b f) (sym (ap (λ (l : List ℕ). bytes ++ l) (ends refl) ∙ append-nil bytes)) h
head_fault_more room bytes left false (Bad rule place) enough ends h =
    let long = enough refl in (
      (halt h.0.0.rule (h.0.0.left + length left), head_stops bytes left h.0.0 (omega (arith, long)) h.0.1, h.0.2, omega (arith, h.0.3, length-append bytes left)),
      full_more room bytes left (omega (arith, long)) ∙ h.1,
    )
head_fault_more room bytes left false (Read count) enough ends h = h
head_fault_more room bytes left false (Disk (disk.Work count)) enough ends h = h
head_fault_more room bytes left false (Disk (disk.Full held most)) enough ends h = let long = enough refl in (h.0, full_more room bytes left (omega (arith, long)) ∙ h.1)
head_fault_more room bytes left false (Disk (disk.Damaged place name)) enough ends h = h
head_fault_more room bytes left false Memory enough ends h = h
