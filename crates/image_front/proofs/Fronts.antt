-- Which front of an image tells what the whole is.
use Rattle.std.proofs.Common.{◌≡◌, ℕ, ◌+◌, ◌-◌, ◌*◌, ◌^◌, ◌<◌, ◌≤◌, Bool, cond, leb, ltb, List, [], ◌∷◌, ◌++◌, length, take, drop, min, inl, inr, Option, None, Some, Result, Ok, Err, refl, sym, ap, subst, ◌∙◌, length-append, take-append-drop, arith}
use Rattle.std.specs.Prelude.{All}
use Rattle.std.proofs.Math.Seq.{take-take}
use Rattle.std.proofs.lemmas.Bool.{and_parts, cases_lt, le-ltb, leb-true, lt-ltb}
use Rattle.std.proofs.lemmas.List.{length-take, take_all}
use Rattle.long_names.specs.Record.{record_text}
use Rattle.long_names.specs.declared.object.Rec.{Rec}
use Rattle.image_format.specs.declared.fault.Break.{Break}
use Rattle.image_format.specs.declared.fault.Halt.{Halt}
use Rattle.image_format.specs.declared.opening.ImageHead.{ImageHead}
use Rattle.image_format.specs.declared.opening.Opening.{Opening}
use Rattle.image_format.specs.Faults.{break_of, told}
use Rattle.image_format.specs.Heads.{head_at, opening_at, version_head_text, version_state_at}
use Rattle.image_format.specs.Reading.{◌>>=◌, halt}
use Rattle.image_format.specs.Rules.{Image, break_in, end_at, first_break, image_at, records_at}
use Rattle.image_format.proofs.ImageLaws.{bytes_of_all, image_takes}
use Rattle.image_format.proofs.ImageRecs.{recs_text}
use Rattle.image_format.proofs.Lengths.{length_record}
use Rattle.image_format.proofs.Numbers.{AreBytes, bind_ok, ok_is}
use Rattle.image_format.proofs.Openings.{head_takes}
use Rattle.image_reader.specs.Loaded.{IsUnread, full_of, too_many}
use Rattle.image_front.specs.Front.{IsRefusedAs, TellsOf}
use Rattle.image_front.proofs.Firm.{Firm, head_firm, opening_firm, records_firm}

-- no image is read of either, and both are refused at one place
pub record Stops {X : Type 0} (left : List ℕ) (r s : Result (X × List ℕ) Halt) : Type 0 where
  pub at : Halt
  pub front : r ≡ Err at
  pub whole : s ≡ Err (halt at.rule (at.left + length left))

bind_stops : {X Y : Type 0} (left : List ℕ) (m : ℕ) (r s : Result (X × List ℕ) Halt) (f g : X × List ℕ → Result (Y × List ℕ) Halt) → Firm left m r s
    → ((x : X × List ℕ) → r ≡ Ok x → m ≤ length x.1 → Stops left (f x) (g (x.0, x.1 ++ left))) → Stops left (r >>= f) (s >>= g)
bind_stops {X} {Y} left m (Ok x) s f g e next = (
    let n = next x refl e.1 in
    record { at = n.at; front = n.front; whole = ap (λ (t : Result (X × List ℕ) Halt). t >>= g) e.0 ∙ n.whole }
    )
bind_stops {X} {Y} left m (Err h) s f g e next = record { at = h; front = refl; whole = ap (λ (t : Result (X × List ℕ) Halt). t >>= g) e }

then_stops : {X Y : Type 0} (left : List ℕ) (r s : Result (X × List ℕ) Halt) (f g : X × List ℕ → Result (Y × List ℕ) Halt) → Stops left r s → Stops left (r >>= f) (s >>= g)
then_stops {X} {Y} left r s f g n =
    record { at = n.at; front = ap (λ (t : Result (X × List ℕ) Halt). t >>= f) n.front; whole = ap (λ (t : Result (X × List ℕ) Halt). t >>= g) n.whole }

-- bytes behind the last record
end_stops : (left bytes : List ℕ) → 4 ≤ length bytes → Stops left (end_at bytes) (end_at (bytes ++ left))
end_stops left [] long = absurd (let no : ⊥ = omega (arith, long) in no)
end_stops left (b ∷ rest) long = record { at = halt 9 (length (b ∷ rest)); front = refl; whole = ap (λ (n : ℕ). let r : Result (Unit {0} × List ℕ) Halt = Err (halt 9 n) in r) (length-append (b ∷ rest) left) }

-- ---- a front that is long enough

long_stops : (left bytes : List ℕ) → AreBytes bytes → 36 ≤ length bytes → ((x : ImageHead × List ℕ) → head_at bytes ≡ Ok x → x.0.opening.objects * 262160 + 40 ≤ length bytes) → Stops left (image_at bytes) (image_at (bytes ++ left))
unfolding image_at
long_stops left bytes fits low long =
    bind_stops left (length bytes - 36) (head_at bytes) (head_at (bytes ++ left)) _ _ (head_firm left (length bytes - 36) bytes (omega (arith, low)))
    (λ head e behind. bind_stops left 4 (records_at head.0.opening.objects 0 head.0.opening.next head.1) (records_at head.0.opening.objects 0 head.0.opening.next (head.1 ++ left)) _ _
    (let most = long head e in records_firm left head.0.opening.objects 0 head.0.opening.next head.1 (head_takes bytes head fits e).0.unread (omega (arith, most, behind)))
    (λ recs f more. then_stops left (end_at recs.1) (end_at (recs.1 ++ left)) _ _ (end_stops left recs.1 more)))

-- ---- 36 bytes

many : (recs : List Rec) → length recs * 20 ≤ length (recs_text recs)
many [] = omega arith
many (r ∷ rs) = omega (arith, many rs, length_record r, length-append (record_text r) (recs_text rs))

unread_short : (bytes : List ℕ) → AreBytes bytes → length bytes ≤ 36 → IsUnread bytes
unread_short bytes fits short = go (image_at bytes) refl
  where
    go : (r : Result (Image × List ℕ) Halt) → image_at bytes ≡ r → IsUnread bytes
    go (Err h) e = (h, e)
    go (Ok x) e =
        let read = image_takes bytes x fits e in
        let count = leb-true _ _ (and_parts (leb 22 x.0.head.opening.objects) (leb x.0.head.opening.objects 1048576) read.head.opening.objects).0 in
        let whole = ap length read.text in
        let parts = length-append (version_head_text x.0.head) (recs_text x.0.recs) in
        let each = many x.0.recs in
        absurd (let no : ⊥ = omega (arith, count, whole, parts, each, read.count, short) in no)

-- ---- it is refused as the whole is

full_same : (room : ℕ) (left bytes : List ℕ) → 36 ≤ length bytes → full_of room bytes ≡ full_of room (bytes ++ left)
full_same room left bytes long = go (opening_at bytes) refl (opening_firm left 0 bytes (omega (arith, long)))
  where
    go : (r : Result (Opening × List ℕ) Halt) → opening_at bytes ≡ r → Firm left 0 r (opening_at (bytes ++ left)) → full_of room bytes ≡ full_of room (bytes ++ left)
    go (Ok x) e firm = ap (too_many room) e ∙ sym (ap (too_many room) firm.0)
    go (Err h) e firm = ap (too_many room) e ∙ sym (ap (too_many room) firm)

stops_break : (left bytes : List ℕ) → Stops left (image_at bytes) (image_at (bytes ++ left)) → first_break bytes ≡ first_break (bytes ++ left)
unfolding first_break
stops_break left bytes n =
    let same : length bytes - n.at.left ≡ length (bytes ++ left) - (n.at.left + length left) = omega (arith, length-append bytes left) in
    ap (break_in (length bytes)) n.front
    ∙ ap (λ (k : ℕ). let o : Option Break = Some (record { rule = n.at.rule; place = k }) in o) same
    ∙ sym (ap (break_in (length (bytes ++ left))) n.whole)

refused : (room : ℕ) (left bytes : List ℕ) → 36 ≤ length bytes → Stops left (image_at bytes) (image_at (bytes ++ left)) → IsRefusedAs room bytes (bytes ++ left)
refused room left bytes long n = record { unread = (n.at, n.front); full = full_same room left bytes long; breaks = λ roomy. stops_break left bytes n }

-- ---- by what is read of the head

-- a head that was refused, and one that was read
record IsBroken (bytes : List ℕ) : Type 0 where
  pub at : Halt
  pub is : head_at bytes ≡ Err at

broken_head : (bytes : List ℕ) (b : Break) → told (length bytes) (head_at bytes) ≡ Err b → IsBroken bytes
broken_head bytes b e = go (head_at bytes) refl
  where
    go : (r : Result (ImageHead × List ℕ) Halt) → head_at bytes ≡ r → IsBroken bytes
    go (Err h) is = record { at = h; is = is }
    go (Ok x) is = let clash : ◌≡◌ {A = Result ImageHead Break} (Ok x.0) (Err b) = ap (told (length bytes)) (sym is) ∙ e in absurd (let no : ⊥ = cc in no)

record IsHeadOf (bytes : List ℕ) (h : ImageHead) : Type 0 where
  pub rest : List ℕ
  pub is : head_at bytes ≡ Ok (h, rest)

read_head : (bytes : List ℕ) (h : ImageHead) → told (length bytes) (head_at bytes) ≡ Ok h → IsHeadOf bytes h
read_head bytes h e = go (head_at bytes) refl
  where
    go : (r : Result (ImageHead × List ℕ) Halt) → head_at bytes ≡ r → IsHeadOf bytes h
    go (Err k) is = let clash : ◌≡◌ {A = Result ImageHead Break} (Err (break_of (length bytes) k)) (Ok h) = ap (told (length bytes)) (sym is) ∙ e in absurd (let no : ⊥ = cc in no)
    go (Ok x) is =
        let same : ◌≡◌ {A = Result ImageHead Break} (Ok x.0) (Ok h) = ap (told (length bytes)) (sym is) ∙ e in
        let one : x.0 ≡ h = cc in
        record { rest = x.1; is = is ∙ ap (λ (k : ImageHead). let r : Result (ImageHead × List ℕ) Halt = Ok (k, x.1) in r) one }

-- how many objects it states
stated : (room : ℕ) (bytes : List ℕ) (h : ImageHead) → IsHeadOf bytes h → full_of room bytes ≡ cond (ltb room h.opening.objects) (Some h.opening.objects) None
unfolding head_at
stated room bytes h seen =
    let a = bind_ok (opening_at bytes) _ (h, seen.rest) seen.is in
    let b = bind_ok (version_state_at a.0.0 a.0.1) _ (h, seen.rest) a.2 in
    let same : a.0.0 ≡ h.opening = ap (λ (p : ImageHead × List ℕ). p.0.opening) (ok_is _ (h, seen.rest) b.2) in
    ap (too_many room) a.1 ∙ ap (λ (o : Opening). let r : Option ℕ = cond (ltb room o.objects) (Some o.objects) None in r) same

pub roomy_head : (room : ℕ) (bytes : List ℕ) (h : ImageHead) → told (length bytes) (head_at bytes) ≡ Ok h → h.opening.objects ≤ room → full_of room bytes ≡ None
roomy_head room bytes h e le = stated room bytes h (read_head bytes h e) ∙ ap (λ (b : Bool). let r : Option ℕ = cond b (Some h.opening.objects) None in r) (le-ltb room h.opening.objects le)

-- ---- the front tells

behind : (n : ℕ) (bytes : List ℕ) → take n bytes ++ drop n bytes ≡ bytes
behind n bytes = take-append-drop n bytes

long_front : (n : ℕ) (whole : List ℕ) → n ≤ length whole → length (take n whole) ≡ n
long_front n whole le = omega (arith, length-take n whole)

told_of : (room n : ℕ) (whole : List ℕ) → IsRefusedAs room (take n whole) (take n whole ++ drop n whole) → TellsOf room (take n whole) whole
told_of room n whole is = inr (subst (λ (w : List ℕ). IsRefusedAs room (take n whole) w) (behind n whole) is)

-- its head breaks a rule
pub broken_tells : (room : ℕ) (front whole : List ℕ) (b : Break) → told (length front) (head_at front) ≡ Err b → 36 ≤ length whole → take 36 whole ≡ front → All (λ b. b < 2 ^ 8) (take 36 whole) → TellsOf room (take 36 whole) whole
broken_tells room front whole b e low same range =
    let seen = broken_head (take 36 whole) b (subst (λ (f : List ℕ). told (length f) (head_at f) ≡ Err b) (sym same) e) in
    let long = long_front 36 whole low in
    let left = drop 36 whole in
    told_of room 36 whole (refused room left (take 36 whole) (omega (arith, long))
    (long_stops left (take 36 whole) (bytes_of_all (take 36 whole) range) (omega (arith, long))
    (λ x f. absurd (let clash : ◌≡◌ {A = Result (ImageHead × List ℕ) Halt} (Err seen.at) (Ok x) = sym seen.is ∙ f in let no : ⊥ = cc in no))))

-- there is no room for its objects
pub full_tells : (room : ℕ) (front whole : List ℕ) (h : ImageHead) → told (length front) (head_at front) ≡ Ok h → room < h.opening.objects → 36 ≤ length whole → take 36 whole ≡ front → All (λ b. b < 2 ^ 8) (take 36 whole) → TellsOf room (take 36 whole) whole
full_tells room front whole h e more low same range =
    let seen = read_head (take 36 whole) h (subst (λ (f : List ℕ). told (length f) (head_at f) ≡ Ok h) (sym same) e) in
    let full : full_of room (take 36 whole) ≡ Some h.opening.objects = stated room (take 36 whole) h seen ∙ ap (λ (b : Bool). let r : Option ℕ = cond b (Some h.opening.objects) None in r) (lt-ltb room h.opening.objects more) in
    let long = long_front 36 whole low in
    let left = drop 36 whole in
    let alike = full_same room left (take 36 whole) (omega (arith, long)) in
    told_of room 36 whole (record {
      unread = unread_short (take 36 whole) (bytes_of_all (take 36 whole) range) (omega (arith, long));
      full = alike;
      breaks = λ roomy. absurd (let clash : ◌≡◌ {A = Option ℕ} (Some h.opening.objects) None = sym full ∙ alike ∙ roomy in let no : ⊥ = cc in no);
    })

-- it has all bytes that its objects can take, and four more
pub long_tells : (room n : ℕ) (front whole : List ℕ) (h : ImageHead) → told (length front) (head_at front) ≡ Ok h → 36 ≤ length whole → take 36 whole ≡ front → n ≡ min (length whole) (262160 * h.opening.objects + 40) → All (λ b. b < 2 ^ 8) (take n whole) → TellsOf room (take n whole) whole
long_tells room n front whole h e low same is range = elim (cases_lt (262160 * h.opening.objects + 40) (length whole)) [
  | inr all ↦ inl (take_all n whole (omega (arith, is, all)))
  | inl more ↦ let count : n ≡ 262160 * h.opening.objects + 40 = omega (arith, is, more) in
      let long = long_front n whole (omega (arith, count, more)) in
      let seen = read_head (take 36 (take n whole)) h (subst (λ (f : List ℕ). told (length f) (head_at f) ≡ Ok h) (sym (take-take 36 n whole (omega (arith, count)) ∙ same)) e) in
      told_of room n whole (refused room (drop n whole) (take n whole) (omega (arith, long, count))
      (long_stops (drop n whole) (take n whole) (bytes_of_all (take n whole) range) (omega (arith, long, count))
      (λ x f. let one = stays (take n whole) h (omega (arith, long, count)) seen x f in omega (arith, one, long, count))))
]
  where
    stays : (bytes : List ℕ) (h : ImageHead) → 36 ≤ length bytes → IsHeadOf (take 36 bytes) h → (x : ImageHead × List ℕ) → head_at bytes ≡ Ok x → x.0.opening.objects ≡ h.opening.objects
    stays bytes h low seen x f =
        let left = drop 36 bytes in
        let long = long_front 36 bytes low in
        let firm = subst (λ (r : Result (ImageHead × List ℕ) Halt). Firm left 0 r (head_at (take 36 bytes ++ left))) seen.is (head_firm left 0 (take 36 bytes) (omega (arith, long))) in
        ap (λ (p : ImageHead × List ℕ). p.0.opening.objects) (ok_is x (h, seen.rest ++ left) (sym f ∙ ap head_at (sym (behind 36 bytes)) ∙ firm.0))
