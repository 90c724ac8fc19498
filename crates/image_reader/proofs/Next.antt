-- The record that a window begins with is the one that the rest of the file begins with, and so is the rule that it breaks.
use Rattle.std.proofs.Common.{◌≡◌, ℕ, ◌+◌, ◌-◌, ◌<◌, ◌≤◌, ◌%◌, Bool, true, false, not, cond, eqb, ltb, ◌&&◌, IsTrue, List, [], ◌++◌, length, take, drop, Result, Ok, Err, refl, sym, ap, subst, ◌∙◌, length-append, take-append-drop, arith}
use Rattle.std.specs.Int.{Width, w32, byte_len}
use Rattle.std.proofs.lemmas.Bool.{ltb-false, ltb-true, le-ltb}
use Rattle.std.proofs.lemmas.List.{append-nil, take-append-le, drop-append-le}
use Rattle.long_names.specs.Objects.{IsRecord}
use Rattle.long_names.specs.Record.{record_text}
use Rattle.long_names.specs.declared.object.Rec.{Rec}
use Rattle.loom_host.specs.declared.outside.Host.{Ghosts}
use Rattle.image_format.specs.declared.fault.Break.{Break}
use Rattle.image_format.specs.declared.fault.Halt.{Halt}
use Rattle.image_format.specs.declared.fault.RecFault.{RecFault}
use Rattle.image_format.specs.declared.fault.RecFault.TheVariants as rec_fault
use Rattle.image_format.specs.Faults.{IsPlaced, told, break_of}
use Rattle.image_format.specs.Reading.{◌>>=◌, halt, broken, octets_at, number_at, name_at, record_at}
use Rattle.image_format.specs.Rules.{next_record_at}
use Rattle.image_format.proofs.Numbers.{AreBytes}
use Rattle.image_format.proofs.Bounds.{IsIn, record_in}
use Rattle.image_format.proofs.Records.{record_again, name_of_record}
use Rattle.image_format.proofs.Windows.{Extends, record_extends, record_long}
use Rattle.image_reader.specs.declared.fault.LoadFault.{LoadFault}
use Rattle.image_reader.specs.declared.fault.LoadFault.TheVariants.{Bad, Read, Disk, Memory}
use Rattle.image_reader.specs.Frames.{IsHalted}
use Rattle.image_reader.specs.Inside.{is_out_of_order, name_in, fault_at, IsFillFault}

-- ---- with bytes behind the window

pub bind_extends : {X Y : Type 0} (left : List ℕ) (r s : Result (X × List ℕ) Halt) (f g : X × List ℕ → Result (Y × List ℕ) Halt) → Extends left r s
    → ((x : X × List ℕ) → Extends left (f x) (g (x.0, x.1 ++ left))) → Extends left (r >>= f) (s >>= g)
bind_extends {X} {Y} left (Ok x) s f g e next = subst (λ (t : Result (X × List ℕ) Halt). Extends left (f x) (t >>= g)) (sym e) (next x)
bind_extends {X} {Y} left (Err h) s f g e next = λ other. ap (λ (t : Result (X × List ℕ) Halt). t >>= g) (e other)

pub broken_extends : (X : Type 0) (left bytes : List ℕ) (rule : ℕ) → Extends {X = X} left (broken rule bytes) (broken rule (bytes ++ left))
broken_extends X left bytes rule = λ other. ap (λ (n : ℕ). let r : Result (X × List ℕ) Halt = Err (halt rule n) in r) (length-append bytes left)

pub tested_extends : {X : Type 0} (left bytes : List ℕ) (rule : ℕ) (b : Bool) (x : X × List ℕ) → Extends left (cond b (Ok x) (broken rule bytes)) (cond b (Ok (x.0, x.1 ++ left)) (broken rule (bytes ++ left)))
tested_extends left bytes rule true x = refl
tested_extends {X} left bytes rule false x = broken_extends X left bytes rule

octets_extends : (left : List ℕ) (n : ℕ) (bytes : List ℕ) → Extends left (octets_at n bytes) (octets_at n (bytes ++ left))
unfolding octets_at
octets_extends left n bytes = go (ltb (length bytes) n) refl
  where
    go : (b : Bool) → ltb (length bytes) n ≡ b → Extends {X = List ℕ} left (cond b (Err (halt 9 0)) (Ok (take n bytes, drop n bytes))) (cond (ltb (length (bytes ++ left)) n) (Err (halt 9 0)) (Ok (take n (bytes ++ left), drop n (bytes ++ left))))
    go true e = λ other. absurd (other refl)
    go false e =
        let enough : n ≤ length bytes = ltb-false _ _ e in
        let long : ltb (length (bytes ++ left)) n ≡ false = le-ltb _ _ (omega (arith, enough, length-append bytes left)) in
        rw (long, take-append-le n bytes left enough, drop-append-le n bytes left enough) refl

pub number_extends : (left : List ℕ) (w : Width) (bytes : List ℕ) → Extends left (number_at w bytes) (number_at w (bytes ++ left))
unfolding number_at
number_extends left w bytes = bind_extends left (octets_at (byte_len w) bytes) (octets_at (byte_len w) (bytes ++ left)) _ _ (octets_extends left (byte_len w) bytes) (λ x. refl)

name_extends : (left : List ℕ) (rule : ℕ) (bytes : List ℕ) → Extends left (name_at rule bytes) (name_at rule (bytes ++ left))
unfolding name_at
name_extends left rule bytes = bind_extends left (number_at w32 bytes) (number_at w32 (bytes ++ left)) _ _ (number_extends left w32 bytes) (λ x. tested_extends left bytes rule (eqb (x.0 % 2) 0 && ltb 0 x.0) x)

next_extends : (left : List ℕ) (last next : ℕ) (bytes : List ℕ) → Extends left (next_record_at last next bytes) (next_record_at last next (bytes ++ left))
unfolding next_record_at
next_extends left last next bytes = bind_extends left (name_at 4 bytes) (name_at 4 (bytes ++ left)) _ _ (name_extends left 4 bytes) (λ x. chosen (ltb last x.0 && ltb x.0 next))
  where
    chosen : (b : Bool) → Extends {X = Rec} left (cond b (record_at bytes) (broken 4 bytes)) (cond b (record_at (bytes ++ left)) (broken 4 (bytes ++ left)))
    chosen true = record_extends left bytes
    chosen false = broken_extends Rec left bytes 4

-- ---- the name is judged before the rest

no_name : (bytes : List ℕ) (h : Halt) → name_at 4 bytes ≡ Err h → record_at bytes ≡ Err h
unfolding record_at
no_name bytes h e = rw e refl

next_choice : (r : Result (ℕ × List ℕ) Halt) (whole : Result (Rec × List ℕ) Halt) (bytes : List ℕ) (last next : ℕ) → ((h : Halt) → r ≡ Err h → whole ≡ Err h)
    → (r >>= λ (n : ℕ × List ℕ). cond (ltb last n.0 && ltb n.0 next) whole (broken 4 bytes)) ≡ cond (is_out_of_order last next (name_in r)) (broken 4 bytes) whole
next_choice (Ok n) whole bytes last next none = turned (ltb last n.0 && ltb n.0 next)
  where
    turned : (b : Bool) → cond b whole (broken 4 bytes) ≡ cond (not b) (broken 4 bytes) whole
    turned true = refl
    turned false = refl
next_choice (Err h) whole bytes last next none = sym (none h refl)

pub next_is : (last next : ℕ) (bytes : List ℕ) → next_record_at last next bytes ≡ cond (is_out_of_order last next (name_in (name_at 4 bytes))) (broken 4 bytes) (record_at bytes)
unfolding next_record_at
next_is last next bytes = next_choice (name_at 4 bytes) (record_at bytes) bytes last next (λ h e. no_name bytes h e)

pub next_out : (last next : ℕ) (bytes : List ℕ) → is_out_of_order last next (name_in (name_at 4 bytes)) ≡ true → next_record_at last next bytes ≡ Err (halt 4 (length bytes))
next_out last next bytes e = next_is last next bytes ∙ ap (λ (b : Bool). cond b (broken 4 bytes) (record_at bytes)) e

pub next_in : (last next : ℕ) (bytes : List ℕ) → is_out_of_order last next (name_in (name_at 4 bytes)) ≡ false → next_record_at last next bytes ≡ record_at bytes
next_in last next bytes e = next_is last next bytes ∙ ap (λ (b : Bool). cond b (broken 4 bytes) (record_at bytes)) e

both : (a b : Bool) → not (a && b) ≡ false → (a ≡ true) × (b ≡ true)
both true true e = (refl, refl)
both true false e = let clash : ◌≡◌ {A = Bool} true false = e in absurd (cc)
both false b e = let clash : ◌≡◌ {A = Bool} true false = e in absurd (cc)

-- a name in order
pub in_order : (last next : ℕ) (bytes : List ℕ) (x : Rec × List ℕ) → is_out_of_order last next (name_in (name_at 4 bytes)) ≡ false → record_at bytes ≡ Ok x → (last < x.0.name) × (x.0.name < next)
in_order last next bytes x out e =
    let name = name_of_record bytes x e in
    let tests = both (ltb last x.0.name) (ltb x.0.name next) (ap (λ (r : Result (ℕ × List ℕ) Halt). is_out_of_order last next (name_in r)) (sym name.1) ∙ out) in
    (ltb-true _ _ tests.0, ltb-true _ _ tests.1)

-- ---- what decode_rec answers

pub read_text : (bytes : List ℕ) (r : Rec) (len : ℕ) → IsRecord r → take len bytes ≡ record_text r → record_at bytes ≡ Ok (r, drop len bytes)
read_text bytes r len is text =
    ap (λ (b : List ℕ). record_at b) (sym (take-append-drop len bytes) ∙ ap (λ (t : List ℕ). t ++ drop len bytes) text)
    ∙ record_again r (drop len bytes) is

pub halted_at : (A : Type 0) (place : ℕ) (bytes : List ℕ) (f : RecFault) → AreBytes bytes → IsPlaced {A = A} (Err f) bytes → IsHalted (place + length bytes) (record_at bytes) (fault_at place f)
halted_at A place bytes rec_fault.Memory fits placed = tt
halted_at A place bytes (rec_fault.Bad rule at) fits placed = go (record_at bytes) refl (record_in bytes fits)
  where
    go : (r : Result (Rec × List ℕ) Halt) → record_at bytes ≡ r → IsIn (length bytes) 262163 r → IsHalted (place + length bytes) (record_at bytes) (Bad rule (place + at))
    go (Ok x) e near = let clash : ◌≡◌ {A = Result Rec Break} (Ok x.0) (Err (record { rule = rule; place = at })) = ap (told (length bytes)) (sym e) ∙ placed in absurd (cc)
    go (Err h) e near =
        let same : ◌≡◌ {A = Result Rec Break} (Err (break_of (length bytes) h)) (Err (record { rule = rule; place = at })) = ap (told (length bytes)) (sym e) ∙ placed in
        let is : break_of (length bytes) h ≡ record { rule = rule; place = at } = cc in
        let at_is : length bytes - h.left ≡ at = ap (λ (b : Break). b.place) is in
        (h, e, ap (λ (b : Break). b.rule) is, omega (arith, near.0, at_is))

-- ---- what is judged of a window

pub out_halted : (last next place : ℕ) (bytes : List ℕ) (test : Bool) → test ≡ is_out_of_order last next (name_in (name_at 4 bytes)) → test ≡ true → IsHalted (place + length bytes) (next_record_at last next bytes) (Bad 4 place)
out_halted last next place bytes test is so = (halt 4 (length bytes), next_out last next bytes (sym is ∙ so), refl, refl)

pub in_read : (last next : ℕ) (bytes : List ℕ) (test : Bool) (r : Rec) (len : ℕ) → test ≡ is_out_of_order last next (name_in (name_at 4 bytes)) → test ≡ false → IsRecord r → take len bytes ≡ record_text r
    → next_record_at last next bytes ≡ Ok (r, drop len bytes)
in_read last next bytes test r len is so record_is text = next_in last next bytes (sym is ∙ so) ∙ read_text bytes r len record_is text

pub in_place : (last next : ℕ) (bytes : List ℕ) (test : Bool) (r : Rec) (len : ℕ) → test ≡ is_out_of_order last next (name_in (name_at 4 bytes)) → test ≡ false → IsRecord r → take len bytes ≡ record_text r
    → IsRecord r × (last < r.name) × (r.name < next)
in_place last next bytes test r len is so record_is text =
    let order = in_order last next bytes (r, drop len bytes) (sym is ∙ so) (read_text bytes r len record_is text) in
    (record_is, order.0, order.1)

pub in_halted : (A : Type 0) (last next place : ℕ) (bytes : List ℕ) (test : Bool) (f : RecFault) → AreBytes bytes → test ≡ is_out_of_order last next (name_in (name_at 4 bytes)) → test ≡ false → IsPlaced {A = A} (Err f) bytes
    → IsHalted (place + length bytes) (next_record_at last next bytes) (fault_at place f)
in_halted A last next place bytes test f fits is so placed =
    subst (λ (r : Result (Rec × List ℕ) Halt). IsHalted (place + length bytes) r (fault_at place f)) (sym (next_in last next bytes (sym is ∙ so))) (halted_at A place bytes f fits placed)

-- ---- with what is left of the file

pub next_more : (last next : ℕ) (bytes left : List ℕ) (x : Rec × List ℕ) → next_record_at last next bytes ≡ Ok x → next_record_at last next (bytes ++ left) ≡ Ok (x.0, x.1 ++ left)
next_more last next bytes left x e = subst (λ (r : Result (Rec × List ℕ) Halt). Extends left r (next_record_at last next (bytes ++ left))) e (next_extends left last next bytes)

next_long : (last next : ℕ) (bytes : List ℕ) (h : Halt) → AreBytes bytes → 262163 ≤ length bytes → next_record_at last next bytes ≡ Err h → h.rule ≡ 9 → ⊥
next_long last next bytes h fits long e nine = go (is_out_of_order last next (name_in (name_at 4 bytes))) refl
  where
    go : (b : Bool) → is_out_of_order last next (name_in (name_at 4 bytes)) ≡ b → ⊥
    go true out =
        let same : ◌≡◌ {A = Result (Rec × List ℕ) Halt} (Err (halt 4 (length bytes))) (Err h) = sym (next_out last next bytes out) ∙ e in
        let is : halt 4 (length bytes) ≡ h = cc in
        let four : 4 ≡ h.rule = ap (λ (k : Halt). k.rule) is in
        omega (arith, four, nine)
    go false out = record_long bytes h fits long (sym (next_in last next bytes out) ∙ e) nine

next_stops : (last next : ℕ) (bytes left : List ℕ) (ended : Bool) (h : Halt) → AreBytes bytes → (ended ≡ false → 262164 ≤ length bytes) → (IsTrue ended → left ≡ []) → next_record_at last next bytes ≡ Err h
    → next_record_at last next (bytes ++ left) ≡ Err (halt h.rule (h.left + length left))
next_stops last next bytes left true h fits enough ends e =
    let base : next_record_at last next (bytes ++ []) ≡ Err (halt h.rule (h.left + 0)) = (
    ap (next_record_at last next) (append-nil bytes) ∙ e ∙ ap (λ (n : ℕ). let r : Result (Rec × List ℕ) Halt = Err (halt h.rule n) in r) (let z : h.left ≡ h.left + 0 = omega arith in z)
    ) in
    subst (λ (l : List ℕ). next_record_at last next (bytes ++ l) ≡ Err (halt h.rule (h.left + length l))) (sym (ends refl)) base
next_stops last next bytes left false h fits enough ends e =
    let long = enough refl in
    subst (λ (r : Result (Rec × List ℕ) Halt). Extends left r (next_record_at last next (bytes ++ left))) e (next_extends left last next bytes) (next_long last next bytes h fits (omega (arith, long)) e)

-- a rule that broke in the window breaks there in the file
pub halted_more : (last next place : ℕ) (bytes left : List ℕ) (ended : Bool) (f : LoadFault) → AreBytes bytes → (ended ≡ false → 262164 ≤ length bytes) → (IsTrue ended → left ≡ [])
    → IsHalted (place + length bytes) (next_record_at last next bytes) f → IsHalted (place + length (bytes ++ left)) (next_record_at last next (bytes ++ left)) f
halted_more last next place bytes left ended (Bad rule p) fits enough ends h =
    (halt h.0.rule (h.0.left + length left), next_stops last next bytes left ended h.0 fits enough ends h.1, h.2, omega (arith, h.3, length-append bytes left))
halted_more last next place bytes left ended (Read count) fits enough ends h = tt
halted_more last next place bytes left ended (Disk f) fits enough ends h = tt
halted_more last next place bytes left ended Memory fits enough ends h = tt

-- the same bytes at the same place
pub halted_same : {X : Type 0} (place now : ℕ) (bytes all : List ℕ) (read : List ℕ → Result (X × List ℕ) Halt) (f : LoadFault) → place ≡ now → bytes ≡ all → IsHalted (place + length bytes) (read bytes) f → IsHalted (now + length all) (read all) f
halted_same place now bytes all read f same is h =
    subst (λ (n : ℕ). IsHalted (n + length all) (read all) f) same (subst (λ (b : List ℕ). IsHalted (place + length b) (read b) f) is h)

-- no bytes came
pub fill_halted : {H X : Type 0} (host : Ghosts H) (old new : H) (len : ℕ) (read : Result (X × List ℕ) Halt) (f : LoadFault) → IsFillFault host old new f → IsHalted len read f
fill_halted host old new len read (Bad rule place) h = absurd h
fill_halted host old new len read (Read count) h = tt
fill_halted host old new len read (Disk d) h = tt
fill_halted host old new len read Memory h = tt
