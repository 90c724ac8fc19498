-- An image that is read record by record is the one that its bytes spell, and the rule that stops the reading is the first that they break.
use Rattle.std.proofs.Common.{◌≡◌, ℕ, suc, ◌+◌, ◌-◌, ◌^◌, ◌<◌, ◌≤◌, Bool, true, false, not, cond, eqb, ltb, ◌&&◌, min, List, [], ◌∷◌, ◌++◌, length, take, drop, Result, Ok, Err, IfErr, IsErrAnd, refl, sym, ap, ap₂, subst, ◌∙◌, length-append, take-append-drop, append_assoc, arith}
use Rattle.std.proofs.lemmas.Bool.{eq-eqb, ltb-true, ne_eqb}
use Rattle.std.proofs.lemmas.List.{append-nil, drop_at, drop-drop, drop_all, length-drop}
use Rattle.long_names.specs.Objects.{IsRecord}
use Rattle.long_names.specs.Record.{four_bytes, record_text}
use Rattle.long_names.specs.declared.object.Rec.{Rec}
use Rattle.image_format.specs.declared.fault.Break.{Break}
use Rattle.image_format.specs.declared.fault.Halt.{Halt}
use Rattle.image_format.specs.declared.fault.RecFault.{RecFault}
use Rattle.image_format.specs.declared.fault.RecFault.TheVariants as rec_fault
use Rattle.image_format.specs.declared.opening.ImageHead.{ImageHead}
use Rattle.image_format.specs.declared.opening.Opening.{Opening}
use Rattle.image_format.specs.Faults.{IsPlaced, told, break_of}
use Rattle.image_format.specs.Heads.{head_at, version_head_text}
use Rattle.image_format.specs.Reading.{◌>>=◌, halt, broken, name_at, record_at}
use Rattle.image_format.specs.Rules as rules
use Rattle.image_format.specs.Rules.{end_at, image_at, next_record_at, records_at}
use Rattle.image_format.proofs.Numbers.{AreBytes}
use Rattle.image_format.proofs.Bounds.{IsIn, record_in}
use Rattle.image_format.proofs.Openings.{head_takes}
use Rattle.image_format.proofs.Records.{record_again, name_of_record}
use Rattle.st80_objects.specs.declared.fault.ImageFault.{ImageFault}
use Rattle.st80_objects.specs.declared.fault.ImageFault.TheVariants.{Broken, Memory}
use Rattle.st80_objects.specs.Images.{IsFaultOf, fault_from}
use Rattle.st80_objects.specs.Inside.{IsHalted, broken_at, is_out_of_order, name_in, objects_at}
use Rattle.st80_objects.specs.Rising.{last_name}
use Rattle.st80_objects.proofs.Places.{last_added}

-- ---- the name is judged before the rest

no_name : (bytes : List ℕ) (h : Halt) → name_at 4 bytes ≡ Err h → record_at bytes ≡ Err h
unfolding record_at
no_name bytes h e = rw e refl

next_choice : (r : Result (ℕ × List ℕ) Halt) (whole : Result (Rec × List ℕ) Halt) (bytes : List ℕ) (last next : ℕ) → ((h : Halt) → r ≡ Err h → whole ≡ Err h)
    → (r >>= λ (n : ℕ × List ℕ). cond (ltb last n.0 && ltb n.0 next) whole (broken 4 bytes)) ≡ cond (is_out_of_order last next (name_in r)) (broken 4 bytes) whole
next_choice (Ok n) whole bytes last next none = turned (ltb last n.0 && ltb n.0 next)
  where
    turned : (b : Bool) → cond b whole (broken 4 bytes) ≡ cond (not b) (broken 4 bytes) whole
    turned true = refl
    turned false = refl
next_choice (Err h) whole bytes last next none = sym (none h refl)

next_is : (last next : ℕ) (bytes : List ℕ) → next_record_at last next bytes ≡ cond (is_out_of_order last next (name_in (name_at 4 bytes))) (broken 4 bytes) (record_at bytes)
unfolding next_record_at
next_is last next bytes = next_choice (name_at 4 bytes) (record_at bytes) bytes last next (λ h e. no_name bytes h e)

next_out : (last next : ℕ) (bytes : List ℕ) → is_out_of_order last next (name_in (name_at 4 bytes)) ≡ true → next_record_at last next bytes ≡ Err (halt 4 (length bytes))
next_out last next bytes e = next_is last next bytes ∙ ap (λ (b : Bool). cond b (broken 4 bytes) (record_at bytes)) e

next_in : (last next : ℕ) (bytes : List ℕ) → is_out_of_order last next (name_in (name_at 4 bytes)) ≡ false → next_record_at last next bytes ≡ record_at bytes
next_in last next bytes e = next_is last next bytes ∙ ap (λ (b : Bool). cond b (broken 4 bytes) (record_at bytes)) e

both : (a b : Bool) → not (a && b) ≡ false → (a ≡ true) × (b ≡ true)
both true true e = (refl, refl)
both true false e = let clash : ◌≡◌ {A = Bool} true false = e in absurd (cc)
both false b e = let clash : ◌≡◌ {A = Bool} true false = e in absurd (cc)

-- ---- a record

-- its name is out of order
pub out : (last next start : ℕ) (bytes rest : List ℕ) (test : Bool) → start ≤ length bytes → rest ≡ drop start bytes → test ≡ is_out_of_order last next (name_in (name_at 4 rest)) → test ≡ true
    → IsHalted (length bytes) (next_record_at last next (drop start bytes)) (broken_at 4 start)
out last next start bytes rest test within is of so =
    let len : start + length rest ≡ length bytes = omega (arith, ap length is, length-drop start bytes) in
    (halt 4 (length rest), subst (λ (b : List ℕ). next_record_at last next b ≡ Err (halt 4 (length rest))) is (next_out last next rest (sym of ∙ so)), refl, len)

-- it is read
pub taken : (last next start len : ℕ) (bytes rest : List ℕ) (r : Rec) (test : Bool) → rest ≡ drop start bytes → test ≡ is_out_of_order last next (name_in (name_at 4 rest)) → test ≡ false
    → IsRecord r → take len rest ≡ record_text r → (next_record_at last next (drop start bytes) ≡ Ok (r, drop (start + len) bytes)) × (last < r.name)
taken last next start len bytes rest r test is of so record_is text =
    let reads : record_at rest ≡ Ok (r, drop len rest) = ap (λ (b : List ℕ). record_at b) (sym (take-append-drop len rest) ∙ ap (λ (t : List ℕ). t ++ drop len rest) text) ∙ record_again r (drop len rest) record_is in
    let name = name_of_record rest (r, drop len rest) reads in
    let order = both (ltb last r.name) (ltb r.name next) (ap (λ (x : Result (ℕ × List ℕ) Halt). is_out_of_order last next (name_in x)) (sym name.1) ∙ sym of ∙ so) in
    let behind : drop len rest ≡ drop (start + len) bytes = ap (drop len) is ∙ drop-drop len start bytes in
    (subst (λ (b : List ℕ). next_record_at last next b ≡ Ok (r, drop (start + len) bytes)) is (next_in last next rest (sym of ∙ so) ∙ reads ∙ ap (λ (b : List ℕ). let x : Result (Rec × List ℕ) Halt = Ok (r, b) in x) behind), ltb-true _ _ order.0)

-- it is none
halted_at : (A : Type 0) (start : ℕ) (bytes rest : List ℕ) (f : RecFault) → start ≤ length bytes → length bytes < 2 ^ 64 → rest ≡ drop start bytes → AreBytes rest → IsPlaced {A = A} (Err f) rest → IsHalted (length bytes) (record_at rest) (fault_from start f)
halted_at A start bytes rest rec_fault.Memory within fits is are placed = tt
halted_at A start bytes rest (rec_fault.Bad rule at) within fits is are placed = go (record_at rest) refl (record_in rest are)
  where
    go : (r : Result (Rec × List ℕ) Halt) → record_at rest ≡ r → IsIn (length rest) 262163 r → IsHalted (length bytes) (record_at rest) (fault_from start (rec_fault.Bad rule at))
    go (Ok x) e near = let clash : ◌≡◌ {A = Result Rec Break} (Ok x.0) (Err (record { rule = rule; place = at })) = ap (told (length rest)) (sym e) ∙ placed in absurd (cc)
    go (Err h) e near =
        let same : ◌≡◌ {A = Result Rec Break} (Err (break_of (length rest) h)) (Err (record { rule = rule; place = at })) = ap (told (length rest)) (sym e) ∙ placed in
        let is_break : break_of (length rest) h ≡ record { rule = rule; place = at } = cc in
        let at_is : length rest - h.left ≡ at = ap (λ (b : Break). b.place) is_break in
        let len : start + length rest ≡ length bytes = omega (arith, ap length is, length-drop start bytes) in
        let place : min (start + at) (2 ^ 64 - 1) + h.left ≡ length bytes = omega (arith, near.0, at_is, len, fits) in
        (h, e, ap (λ (b : Break). b.rule) is_break, place)

pub no_record : (A : Type 0) (last next start : ℕ) (bytes rest : List ℕ) (f : RecFault) (test : Bool) → start ≤ length bytes → length bytes < 2 ^ 64 → rest ≡ drop start bytes → AreBytes rest → test ≡ is_out_of_order last next (name_in (name_at 4 rest)) → test ≡ false
    → IsPlaced {A = A} (Err f) rest → IsHalted (length bytes) (next_record_at last next (drop start bytes)) (fault_from start f)
no_record A last next start bytes rest f test within fits is are of so placed =
    subst (λ (r : Result (Rec × List ℕ) Halt). IsHalted (length bytes) r (fault_from start f)) (sym (next_in last next rest (sym of ∙ so)) ∙ ap (next_record_at last next) is) (halted_at A start bytes rest f within fits is are placed)

-- ---- records, one after the other

-- what was read stands before what is read
abbrev pub behind : List Rec → Result (List Rec × List ℕ) Halt → Result (List Rec × List ℕ) Halt
behind recs (Ok x) = Ok (recs ++ x.0, x.1)
behind recs (Err h) = Err h

behind_none : (x : Result (List Rec × List ℕ) Halt) → x ≡ behind [] x
behind_none (Ok x) = refl
behind_none (Err h) = refl

behind_more : (recs : List Rec) (r : Rec) (x : Result (List Rec × List ℕ) Halt) → behind recs (x >>= λ others. Ok (r ∷ others.0, others.1)) ≡ behind (recs ++ r ∷ []) x
behind_more recs r (Ok x) = ap (λ (l : List Rec). let y : Result (List Rec × List ℕ) Halt = Ok (l, x.1) in y) (sym (append_assoc recs (r ∷ []) x.0))
behind_more recs r (Err h) = refl

-- so many records are left to read, and these were read
pub record SoFar (opening : Opening) (bytes : List ℕ) (start at i : ℕ) (recs : List Rec) : Type 0 where
  pub within : at ≤ length bytes
  pub read : records_at opening.objects 0 opening.next (drop start bytes) ≡ behind recs (records_at (opening.objects - i) (last_name recs) opening.next (drop at bytes))

pub begins : (opening : Opening) (bytes : List ℕ) (start : ℕ) (recs : List Rec) → recs ≡ [] → start ≤ length bytes → SoFar opening bytes start start 0 recs
begins opening bytes start recs none within = record {
  within = within;
  read = rw none (behind_none (records_at opening.objects 0 opening.next (drop start bytes)) ∙ ap (λ (n : ℕ). behind [] (records_at n 0 opening.next (drop start bytes))) (let whole : opening.objects ≡ opening.objects - 0 = omega arith in whole));
}

one_more : (m last next : ℕ) (bytes rest : List ℕ) (r : Rec) → next_record_at last next bytes ≡ Ok (r, rest) → records_at (suc m) last next bytes ≡ (records_at m r.name next rest >>= λ others. Ok (r ∷ others.0, others.1))
unfolding records_at
one_more m last next bytes rest r e = rw e refl

no_more : (m last next : ℕ) (bytes : List ℕ) (h : Halt) → next_record_at last next bytes ≡ Err h → records_at (suc m) last next bytes ≡ Err h
unfolding records_at
no_more m last next bytes h e = rw e refl

left_over : (n i : ℕ) → i < n → n - i ≡ suc (n - (i + 1))
left_over n i lt = omega arith

pub goes_on : (opening : Opening) (bytes : List ℕ) (start at to i last : ℕ) (recs more : List Rec) (r : Rec) → SoFar opening bytes start at i recs → i < opening.objects → last ≡ last_name recs → next_record_at last opening.next (drop at bytes) ≡ Ok (r, drop to bytes) → to ≤ length bytes
    → more ≡ recs ++ r ∷ [] → SoFar opening bytes start to (i + 1) more
goes_on opening bytes start at to i last recs more r so_far lt last_is next within is =
    let m = opening.objects - (i + 1) in
    let step = one_more m (last_name recs) opening.next (drop at bytes) (drop to bytes) r (ap (λ (l : ℕ). next_record_at l opening.next (drop at bytes)) (sym last_is) ∙ next) in
    record {
      within = within;
      read = so_far.read
          ∙ ap (λ (n : ℕ). behind recs (records_at n (last_name recs) opening.next (drop at bytes))) (left_over opening.objects i lt)
          ∙ ap (behind recs) step
          ∙ behind_more recs r (records_at m r.name opening.next (drop to bytes))
          ∙ ap (λ (n : ℕ). behind (recs ++ r ∷ []) (records_at m n opening.next (drop to bytes))) (sym (last_added recs r))
          ∙ ap (λ (l : List Rec). behind l (records_at m (last_name l) opening.next (drop to bytes))) (sym is);
    }

-- a record that isn't one ends it
pub stops : (opening : Opening) (bytes : List ℕ) (start at i last : ℕ) (recs : List Rec) (f : ImageFault) → SoFar opening bytes start at i recs → i < opening.objects → last ≡ last_name recs → IsHalted (length bytes) (next_record_at last opening.next (drop at bytes)) f
    → IsHalted (length bytes) (objects_at opening (drop start bytes)) f
stops opening bytes start at i last recs Memory so_far lt last_is halted = tt
stops opening bytes start at i last recs (Broken b) so_far lt last_is halted =
    let m = opening.objects - (i + 1) in
    let ends = no_more m (last_name recs) opening.next (drop at bytes) halted.0 (ap (λ (l : ℕ). next_record_at l opening.next (drop at bytes)) (sym last_is) ∙ halted.1) in
    let all : records_at opening.objects 0 opening.next (drop start bytes) ≡ Err halted.0 = so_far.read ∙ ap (λ (n : ℕ). behind recs (records_at n (last_name recs) opening.next (drop at bytes))) (left_over opening.objects i lt) ∙ ap (behind recs) ends in
    (halted.0, rw all refl, halted.2, halted.3)

all_read : (opening : Opening) (bytes : List ℕ) (start at i : ℕ) (recs : List Rec) → SoFar opening bytes start at i recs → opening.objects ≤ i → records_at opening.objects 0 opening.next (drop start bytes) ≡ Ok (recs, drop at bytes)
unfolding records_at
all_read opening bytes start at i recs so_far le =
    so_far.read
    ∙ ap (λ (n : ℕ). behind recs (records_at n (last_name recs) opening.next (drop at bytes))) (let none : opening.objects - i ≡ 0 = omega arith in none)
    ∙ ap (λ (l : List Rec). let y : Result (List Rec × List ℕ) Halt = Ok (l, drop at bytes) in y) (append-nil recs)

-- all are read, and nothing is behind them
pub is_whole : (opening : Opening) (bytes : List ℕ) (start at i : ℕ) (recs : List Rec) → SoFar opening bytes start at i recs → opening.objects ≤ i → length bytes ≤ at → objects_at opening (drop start bytes) ≡ Ok (recs, [])
is_whole opening bytes start at i recs so_far le end =
    let none : drop at bytes ≡ [] = drop_all at bytes end in
    rw (all_read opening bytes start at i recs so_far le, none) refl

-- all are read, and something is
ends_late : (n : ℕ) (rest : List ℕ) → n ≡ length rest → 0 < n → ◌≡◌ {A = Result (Unit {0} × List ℕ) Halt} (end_at rest) (Err (halt 9 n))
ends_late n [] is some = absurd (omega (arith, is, some))
ends_late n (b ∷ rest) is some = ap (λ (k : ℕ). let y : Result (Unit {0} × List ℕ) Halt = Err (halt 9 k) in y) (sym is)

pub is_longer : (opening : Opening) (bytes : List ℕ) (start at i : ℕ) (recs : List Rec) → SoFar opening bytes start at i recs → opening.objects ≤ i → at < length bytes → IsHalted (length bytes) (objects_at opening (drop start bytes)) (broken_at 9 at)
is_longer opening bytes start at i recs so_far le lt =
    let len : length (drop at bytes) ≡ length bytes - at = length-drop at bytes in
    let late = ends_late (length bytes - at) (drop at bytes) (sym len) (omega arith) in
    (halt 9 (length bytes - at), rw (all_read opening bytes start at i recs so_far le, late) refl, refl, omega (arith, lt))

-- ---- the whole

-- the image of a head and the objects behind it
abbrev pub with_head : ImageHead → Result (List Rec × List ℕ) Halt → Result (rules.Image × List ℕ) Halt
with_head h (Ok x) = Ok (record { head = h; recs = x.0 }, x.1)
with_head h (Err k) = Err k

headed : (h : ImageHead) (r : Result (List Rec × List ℕ) Halt) → (r >>= λ recs. (end_at recs.1 >>= λ end. let y : Result (rules.Image × List ℕ) Halt = Ok (record { head = h; recs = recs.0 }, end.1) in y)) ≡ with_head h (r >>= λ recs. (end_at recs.1 >>= λ end. let y : Result (List Rec × List ℕ) Halt = Ok (recs.0, end.1) in y))
headed h (Ok (recs, [])) = refl
headed h (Ok (recs, b ∷ rest)) = refl
headed h (Err k) = refl

image_is : (bytes rest : List ℕ) (h : ImageHead) → head_at bytes ≡ Ok (h, rest) → image_at bytes ≡ with_head h (objects_at h.opening rest)
unfolding image_at
image_is bytes rest h e = rw e (headed h (records_at h.opening.objects 0 h.opening.next rest))

pub read_whole : (bytes : List ℕ) (h : ImageHead) (start : ℕ) (recs : List Rec) → head_at bytes ≡ Ok (h, drop start bytes) → objects_at h.opening (drop start bytes) ≡ Ok (recs, []) → image_at bytes ≡ Ok (record { head = h; recs = recs }, [])
read_whole bytes h start recs e f = image_is bytes (drop start bytes) h e ∙ ap (with_head h) f

pub objects_broken : (bytes : List ℕ) (h : ImageHead) (start : ℕ) (f : ImageFault) → head_at bytes ≡ Ok (h, drop start bytes) → IsHalted (length bytes) (objects_at h.opening (drop start bytes)) f → IsFaultOf bytes f
objects_broken bytes h start Memory e halted = tt
objects_broken bytes h start (Broken b) e halted =
    let all : image_at bytes ≡ Err halted.0 = image_is bytes (drop start bytes) h e ∙ ap (with_head h) halted.1 in
    let place : length bytes - halted.0.left ≡ b.place = omega (arith, halted.3) in
    ap (told (length bytes)) all ∙ ap₂ (λ (r p : ℕ). let y : Result rules.Image Break = Err (record { rule = r; place = p }) in y) halted.2 place

no_head : (bytes : List ℕ) (k : Halt) → head_at bytes ≡ Err k → image_at bytes ≡ Err k
unfolding image_at
no_head bytes k e = rw e refl

pub head_broken : (bytes : List ℕ) (b : Break) → told (length bytes) (head_at bytes) ≡ Err b → IsFaultOf bytes (Broken b)
head_broken bytes b is = go (head_at bytes) refl is
  where
    go : (r : Result (ImageHead × List ℕ) Halt) → head_at bytes ≡ r → told (length bytes) r ≡ Err b → told (length bytes) (image_at bytes) ≡ Err b
    go (Ok x) e so = let clash : ◌≡◌ {A = Result ImageHead Break} (Ok x.0) (Err b) = so in absurd (cc)
    go (Err k) e so =
        let same : ◌≡◌ {A = Result ImageHead Break} (Err (break_of (length bytes) k)) (Err b) = so in
        let one : break_of (length bytes) k ≡ b = cc in
        ap (told (length bytes)) (no_head bytes k e) ∙ ap (λ (b : Break). let y : Result rules.Image Break = Err b in y) one

-- ---- the head

head_read : (bytes : List ℕ) (h : ImageHead) (r : Result (ImageHead × List ℕ) Halt) → AreBytes bytes → head_at bytes ≡ r → told (length bytes) r ≡ Ok h → (rest : List ℕ) × (head_at bytes ≡ Ok (h, rest)) × (bytes ≡ version_head_text h ++ rest)
head_read bytes h (Ok (g, rest)) are e is =
    let so : ◌≡◌ {A = Result ImageHead Break} (Ok g) (Ok h) = is in
    let same : g ≡ h = cc in
    let takes = head_takes bytes (g, rest) are e in
    (rest, subst (λ (g : ImageHead). head_at bytes ≡ Ok (g, rest)) same e, subst (λ (g : ImageHead). bytes ≡ version_head_text g ++ rest) same takes.0.parts)
head_read bytes h (Err k) are e is = let clash : ◌≡◌ {A = Result ImageHead Break} (Err (break_of (length bytes) k)) (Ok h) = is in absurd (cc)

-- the head has so many bytes, and the objects stand behind it
pub head_front : (bytes : List ℕ) (h : ImageHead) (start : ℕ) → AreBytes bytes → Ok h ≡ told (length bytes) (head_at bytes) → length (version_head_text h) ≡ start → (head_at bytes ≡ Ok (h, drop start bytes)) × (start ≤ length bytes)
head_front bytes h start are is len =
    let x = head_read bytes h (head_at bytes) are refl (sym is) in
    let behind : drop start bytes ≡ x.0 = ap (drop start) x.2 ∙ drop_at (version_head_text h) x.0 start len in
    (x.1 ∙ ap (λ (b : List ℕ). let y : Result (ImageHead × List ℕ) Halt = Ok (h, b) in y) (sym behind), omega (arith, ap length x.2, length-append (version_head_text h) x.0, len))

pub stated_length : (h : ImageHead) → h.opening.version ≡ 2 → length (version_head_text h) ≡ 36
unfolding four_bytes
stated_length h two = let test : eqb h.opening.version 2 ≡ true = eq-eqb h.opening.version 2 two in rw test refl

pub plain_length : (h : ImageHead) → (h.opening.version ≡ 2 → ⊥) → length (version_head_text h) ≡ 16
unfolding four_bytes
plain_length h other = let test : eqb h.opening.version 2 ≡ false = ne_eqb h.opening.version 2 other in rw test refl

-- what leaves by `?` is the same fault
pub leaves : {T E : Type 0} (P : E → Type 0) (r : Result T E) (e : E) → IsErrAnd r (λ f. f ≡ e) → P e → IfErr r P
leaves P (Ok x) e is p = tt
leaves P (Err g) e is p = subst P (sym is) p
