-- What is read of the front of some bytes is read of the whole, and so is what is refused, where the front has more bytes than that takes.
use Rattle.std.proofs.Common.{◌≡◌, ℕ, zero, suc, ◌+◌, ◌*◌, ◌%◌, ◌≤◌, Bool, true, false, cond, eqb, ltb, ◌&&◌, List, [], ◌∷◌, ◌++◌, length, Result, Ok, Err, refl, sym, ap, subst, length-append, arith}
use Rattle.std.specs.Int.{w32}
use Rattle.std.proofs.lemmas.Bool.{le-ltb}
use Rattle.std.proofs.lemmas.List.{drop-append-le, length-drop, take-append-le}
use Rattle.long_names.specs.Record.{record_text}
use Rattle.long_names.specs.declared.object.Rec.{Rec}
use Rattle.image_format.specs.declared.fault.Halt.{Halt}
use Rattle.image_format.specs.declared.opening.Opening.{Opening}
use Rattle.image_format.specs.declared.opening.State.{State}
use Rattle.image_format.specs.Heads.{checked_at, head_at, is_count, is_loom, is_next, is_state_word, is_tick, is_version, no_state, opening_at, state_at, version_state_at}
use Rattle.image_format.specs.Reading.{◌>>=◌, broken, halt, name_at, number_at, octets_at, record_at}
use Rattle.image_format.specs.Rules.{next_record_at, records_at}
use Rattle.image_format.proofs.ImageRecs.{records_take}
use Rattle.image_format.proofs.Lengths.{longest}
use Rattle.image_format.proofs.Numbers.{AreBytes}
use Rattle.image_format.proofs.Records.{record_takes}
use Rattle.image_format.proofs.Windows.{record_broken, record_long, record_more}

-- of bytes, and of the same with these behind them: one thing is read, and at least so many of the first are left; or both are refused at one place
abbrev pub Firm : {X : Type 0} → List ℕ → ℕ → Result (X × List ℕ) Halt → Result (X × List ℕ) Halt → Type 0
Firm left n (Ok x) whole = (whole ≡ Ok (x.0, x.1 ++ left)) × (n ≤ length x.1)
Firm left n (Err h) whole = whole ≡ Err (halt h.rule (h.left + length left))

pub bind_firm : {X Y : Type 0} (left : List ℕ) (m n : ℕ) (r s : Result (X × List ℕ) Halt) (f g : X × List ℕ → Result (Y × List ℕ) Halt) → Firm left m r s
    → ((x : X × List ℕ) → r ≡ Ok x → m ≤ length x.1 → Firm left n (f x) (g (x.0, x.1 ++ left))) → Firm left n (r >>= f) (s >>= g)
bind_firm {X} {Y} left m n (Ok x) s f g e next = subst (λ (t : Result (X × List ℕ) Halt). Firm left n (f x) (t >>= g)) (sym e.0) (next x refl e.1)
bind_firm {X} {Y} left m n (Err h) s f g e next = ap (λ (t : Result (X × List ℕ) Halt). t >>= g) e

broken_firm : (X : Type 0) (left : List ℕ) (n rule : ℕ) (bytes : List ℕ) → Firm {X = X} left n (broken rule bytes) (broken rule (bytes ++ left))
broken_firm X left n rule bytes = ap (λ (k : ℕ). let r : Result (X × List ℕ) Halt = Err (halt rule k) in r) (length-append bytes left)

tested_firm : {X : Type 0} (left : List ℕ) (n rule : ℕ) (bytes : List ℕ) (b : Bool) (x : X × List ℕ) → n ≤ length x.1 → Firm left n (cond b (Ok x) (broken rule bytes)) (cond b (Ok (x.0, x.1 ++ left)) (broken rule (bytes ++ left)))
tested_firm left n rule bytes true x low = (refl, low)
tested_firm {X} left n rule bytes false x low = broken_firm X left n rule bytes

octets_firm : (left : List ℕ) (n k : ℕ) (bytes : List ℕ) → n + k ≤ length bytes → Firm left n (octets_at k bytes) (octets_at k (bytes ++ left))
unfolding octets_at
octets_firm left n k bytes long =
    let enough : k ≤ length bytes = omega (arith, long) in
    let here : ltb (length bytes) k ≡ false = le-ltb _ _ enough in
    let there : ltb (length (bytes ++ left)) k ≡ false = le-ltb _ _ (omega (arith, enough, length-append bytes left)) in
    rw (here, there, take-append-le k bytes left enough, drop-append-le k bytes left enough) (refl, omega (arith, long, length-drop k bytes))

number_firm : (left : List ℕ) (n : ℕ) (bytes : List ℕ) → n + 4 ≤ length bytes → Firm left n (number_at w32 bytes) (number_at w32 (bytes ++ left))
unfolding number_at
number_firm left n bytes long = bind_firm left n n (octets_at 4 bytes) (octets_at 4 (bytes ++ left)) _ _ (octets_firm left n 4 bytes long) (λ x e low. (refl, low))

-- ---- the head

checked_firm : (left : List ℕ) (n rule : ℕ) (test : ℕ → Bool) (bytes : List ℕ) → n + 4 ≤ length bytes → Firm left n (checked_at rule test bytes) (checked_at rule test (bytes ++ left))
unfolding checked_at
checked_firm left n rule test bytes long = bind_firm left n n (number_at w32 bytes) (number_at w32 (bytes ++ left)) _ _ (number_firm left n bytes long) (λ x e low. tested_firm left n rule bytes (test x.0) x low)

pub opening_firm : (left : List ℕ) (n : ℕ) (bytes : List ℕ) → n + 16 ≤ length bytes → Firm left n (opening_at bytes) (opening_at (bytes ++ left))
unfolding opening_at
opening_firm left n bytes long =
    bind_firm left (n + 12) n (checked_at 1 is_loom bytes) (checked_at 1 is_loom (bytes ++ left)) _ _ (checked_firm left (n + 12) 1 is_loom bytes (omega (arith, long)))
    (λ loom e low. bind_firm left (n + 8) n (checked_at 2 is_version loom.1) (checked_at 2 is_version (loom.1 ++ left)) _ _ (checked_firm left (n + 8) 2 is_version loom.1 (omega (arith, low)))
    (λ version e low. bind_firm left (n + 4) n (checked_at 3 is_count version.1) (checked_at 3 is_count (version.1 ++ left)) _ _ (checked_firm left (n + 4) 3 is_count version.1 (omega (arith, low)))
    (λ objects e low. bind_firm left n n (checked_at 3 is_next objects.1) (checked_at 3 is_next (objects.1 ++ left)) _ _ (checked_firm left n 3 is_next objects.1 low)
    (λ next e low. (refl, low)))))

state_firm : (left : List ℕ) (n next : ℕ) (bytes : List ℕ) → n + 20 ≤ length bytes → Firm left n (state_at next bytes) (state_at next (bytes ++ left))
unfolding state_at
state_firm left n next bytes long =
    bind_firm left (n + 16) n (number_at w32 bytes) (number_at w32 (bytes ++ left)) _ _ (number_firm left (n + 16) bytes (omega (arith, long)))
    (λ clock e low. bind_firm left (n + 12) n (checked_at 13 (is_state_word next) clock.1) (checked_at 13 (is_state_word next) (clock.1 ++ left)) _ _ (checked_firm left (n + 12) 13 (is_state_word next) clock.1 (omega (arith, low)))
    (λ display e low. bind_firm left (n + 8) n (checked_at 13 (is_state_word next) display.1) (checked_at 13 (is_state_word next) (display.1 ++ left)) _ _ (checked_firm left (n + 8) 13 (is_state_word next) display.1 (omega (arith, low)))
    (λ input e low. bind_firm left (n + 4) n (checked_at 13 (is_state_word next) input.1) (checked_at 13 (is_state_word next) (input.1 ++ left)) _ _ (checked_firm left (n + 4) 13 (is_state_word next) input.1 (omega (arith, low)))
    (λ timer e low. bind_firm left n n (checked_at 13 (is_tick timer.0) timer.1) (checked_at 13 (is_tick timer.0) (timer.1 ++ left)) _ _ (checked_firm left n 13 (is_tick timer.0) timer.1 low)
    (λ tick e low. (refl, low))))))

version_firm : (left : List ℕ) (n : ℕ) (o : Opening) (bytes : List ℕ) → n + 20 ≤ length bytes → Firm left n (version_state_at o bytes) (version_state_at o (bytes ++ left))
version_firm left n o bytes long = go (eqb o.version 2)
  where
    go : (b : Bool) → Firm {X = State} left n (cond b (state_at o.next bytes) (Ok (no_state, bytes))) (cond b (state_at o.next (bytes ++ left)) (Ok (no_state, bytes ++ left)))
    go true = state_firm left n o.next bytes long
    go false = (refl, omega (arith, long))

pub head_firm : (left : List ℕ) (n : ℕ) (bytes : List ℕ) → n + 36 ≤ length bytes → Firm left n (head_at bytes) (head_at (bytes ++ left))
unfolding head_at
head_firm left n bytes long =
    bind_firm left (n + 20) n (opening_at bytes) (opening_at (bytes ++ left)) _ _ (opening_firm left (n + 20) bytes (omega (arith, long)))
    (λ o e low. bind_firm left n n (version_state_at o.0 o.1) (version_state_at o.0 (o.1 ++ left)) _ _ (version_firm left n o.0 o.1 low) (λ s e low. (refl, low)))

-- ---- records: none has more bytes than the longest

record_firm : (left : List ℕ) (n : ℕ) (bytes : List ℕ) → AreBytes bytes → n + 262160 ≤ length bytes → 4 ≤ n → Firm left n (record_at bytes) (record_at (bytes ++ left))
record_firm left n bytes fits long four = go (record_at bytes) refl
  where
    go : (r : Result (Rec × List ℕ) Halt) → record_at bytes ≡ r → Firm left n r (record_at (bytes ++ left))
    go (Ok x) e =
        let takes = record_takes bytes x fits e in
        let most = longest x.0 takes.1 in
        let parts = ap length takes.0 in
        let both = length-append (record_text x.0) x.1 in
        (record_more bytes left x e, omega (arith, most, parts, both, long))
    go (Err h) e = record_broken bytes left h e (record_long bytes h fits (omega (arith, long, four)) e)

name_firm : (left : List ℕ) (n rule : ℕ) (bytes : List ℕ) → n + 4 ≤ length bytes → Firm left n (name_at rule bytes) (name_at rule (bytes ++ left))
unfolding name_at
name_firm left n rule bytes long = bind_firm left n n (number_at w32 bytes) (number_at w32 (bytes ++ left)) _ _ (number_firm left n bytes long) (λ x e low. tested_firm left n rule bytes (eqb (x.0 % 2) 0 && ltb 0 x.0) x low)

next_firm : (left : List ℕ) (n last next : ℕ) (bytes : List ℕ) → AreBytes bytes → n + 262160 ≤ length bytes → 4 ≤ n → Firm left n (next_record_at last next bytes) (next_record_at last next (bytes ++ left))
unfolding next_record_at
next_firm left n last next bytes fits long four = bind_firm left 0 n (name_at 4 bytes) (name_at 4 (bytes ++ left)) _ _ (name_firm left 0 4 bytes (omega (arith, long))) (λ x e low. chosen (ltb last x.0 && ltb x.0 next))
  where
    chosen : (b : Bool) → Firm {X = Rec} left n (cond b (record_at bytes) (broken 4 bytes)) (cond b (record_at (bytes ++ left)) (broken 4 (bytes ++ left)))
    chosen true = record_firm left n bytes fits long four
    chosen false = broken_firm Rec left n 4 bytes

one_record : (last next : ℕ) (bytes : List ℕ) (x : Rec × List ℕ) → next_record_at last next bytes ≡ Ok x → records_at 1 last next bytes ≡ Ok (x.0 ∷ [], x.1)
unfolding records_at
one_record last next bytes x e = rw e refl

unread : (last next : ℕ) (bytes : List ℕ) (x : Rec × List ℕ) → AreBytes bytes → next_record_at last next bytes ≡ Ok x → AreBytes x.1
unread last next bytes x fits e = (records_take 1 last next bytes (x.0 ∷ [], x.1) fits (one_record last next bytes x e)).0.unread

pub records_firm : (left : List ℕ) (n last next : ℕ) (bytes : List ℕ) → AreBytes bytes → n * 262160 + 4 ≤ length bytes → Firm left 4 (records_at n last next bytes) (records_at n last next (bytes ++ left))
unfolding records_at
records_firm left zero last next bytes fits long = (refl, omega (arith, long))
records_firm left (suc n) last next bytes fits long =
    bind_firm left (n * 262160 + 4) 4 (next_record_at last next bytes) (next_record_at last next (bytes ++ left)) _ _ (next_firm left (n * 262160 + 4) last next bytes fits (omega (arith, long)) (omega arith))
    (λ x e low. bind_firm left 4 4 (records_at n x.0.name next x.1) (records_at n x.0.name next (x.1 ++ left)) _ _ (records_firm left n x.0.name next x.1 (unread last next bytes x fits e) low) (λ y f low. (refl, low)))
