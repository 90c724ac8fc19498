-- What a vault keeps over many checkpoints. A caller begins with `keeps-still` or `keeps-calls` and goes on with `keeps-more` and `keeps-refused`;
-- `keeps-settled` says what stands at the end.
use Rattle.std.proofs.Common.{◌≡◌, ◌⊎◌, inl, inr, ℕ, ◌+◌, ◌*◌, ◌<◌, ◌≤◌, cond, ltb, List, [], ◌∷◌, length, length-append, get_or, Option, None, Some, refl, sym, ap, ◌∙◌, subst, arith}
use Rattle.std.specs.Prelude.{IfSome}
use Rattle.std.proofs.lemmas.Bool.{cases_lt, cond_above, cond_below}
use Rattle.checkpoint.specs.History.{HasSerial, Keeps, serial_in}
use Rattle.checkpoint.specs.Keeping.{HasEither, HasNext, HasSame, IsLast, serial_of}
use Rattle.checkpoint.specs.Layout.{bad_place, found, image_in, image_place}
use Rattle.checkpoint.specs.Vault.{Call, VaultState, Extends, MayLeave, Throughout, behind, contents_of, moment, unsynced_of}
use Rattle.checkpoint.specs.declared.layout.TheConstants.{GATE_GAP}
use Rattle.checkpoint.specs.declared.point.Point.{Point}
use Rattle.checkpoint.proofs.LayoutLaws.{area_in-same, bad-by_gates, found-by_gates}
use Rattle.checkpoint.proofs.MomentLaws.{behind-none, extends-still, extends-then, moment-all, moment-before, throughout-still}
use Rattle.checkpoint.proofs.SureLaws.{sure-left, sure-synced_all}

-- ---- bytes that are the same at every place

abbrev AreSame : List ℕ → List ℕ → Type 0
AreSame v w = (i : ℕ) → get_or v i 0 ≡ get_or w i 0

synced-same : (s : VaultState) (bytes : List ℕ) → unsynced_of s ≡ [] → MayLeave s bytes → AreSame bytes (contents_of s)
synced-same s bytes none may i = sure-left s _ _ bytes (sure-synced_all s none) may i tt

same-found : (v w : List ℕ) → AreSame v w → found v ≡ found w
same-found v w same = found-by_gates v w (λ s k which within. same (GATE_GAP * s + k))

same-images : (v w : List ℕ) (o : Option Point) → AreSame v w → IfSome o (λ p. image_in v p ≡ image_in w p)
same-images v w None same = tt
same-images v w (Some p) same = area_in-same v w _ p.len (λ j below. same (image_place _ j))

has-same : (old bytes : List ℕ) → bad_place old ≡ None → AreSame bytes old → HasSame old bytes
has-same old bytes whole same = record {
  whole = bad-by_gates bytes old (λ s k which within. same (GATE_GAP * s + k)) ∙ whole;
  found_is = same-found bytes old same;
  image = same-images bytes old (found old) same;
}

-- ---- the checkpoint that bytes have

same-then : (a b c : List ℕ) → HasSame a b → HasSame b c → HasSame a c
same-then a b c first second = record {
  whole = second.whole;
  found_is = second.found_is ∙ first.found_is;
  image = images (found a) first.image (subst (λ (o : Option Point). IfSome o (λ p. image_in c p ≡ image_in b p)) first.found_is second.image);
} where
  images : (o : Option Point) → IfSome o (λ p. image_in b p ≡ image_in a p) → IfSome o (λ p. image_in c p ≡ image_in b p)
      → IfSome o (λ p. image_in c p ≡ image_in a p)
  images None x y = tt
  images (Some p) x y = y ∙ x

next-then : (n : ℕ) (IsText : List ℕ → Type 0) (b c : List ℕ) → HasNext n IsText b → HasSame b c → HasNext n IsText c
next-then n IsText b c next same = record {
  whole = same.whole;
  point = next.point;
  found_is = same.found_is ∙ next.found_is;
  serial_is = next.serial_is;
  text = subst IsText (sym (subst (λ (o : Option Point). IfSome o (λ p. image_in c p ≡ image_in b p)) next.found_is same.image)) next.text;
}

next-gives : (n : ℕ) (IsText IsOther : List ℕ → Type 0) (bytes : List ℕ) → ((text : List ℕ) → IsText text → IsOther text)
    → HasNext n IsText bytes → HasNext n IsOther bytes
next-gives n IsText IsOther bytes gives next = record {
  whole = next.whole;
  point = next.point;
  found_is = next.found_is;
  serial_is = next.serial_is;
  text = gives (image_in bytes next.point) next.text;
}

serial-same : (old bytes : List ℕ) → HasSame old bytes → serial_in bytes ≡ serial_in old
serial-same old bytes same = ap serial_of same.found_is

serial-next : (n : ℕ) (IsText : List ℕ → Type 0) (bytes : List ℕ) → HasNext n IsText bytes → serial_in bytes ≡ n
serial-next n IsText bytes next = ap serial_of next.found_is ∙ next.serial_is

serial-is : (old : List ℕ) (IsImage : ℕ → List ℕ → Type 0) (n : ℕ) (bytes : List ℕ) → HasSerial old IsImage n bytes → serial_in bytes ≡ n
serial-is old IsImage n bytes (inl same) = serial-same old bytes same.1 ∙ sym same.0
serial-is old IsImage n bytes (inr next) = serial-next n (IsImage n) bytes next.1

-- what bytes have against those before, they have against those before them
serial-then : (a b : List ℕ) (IsImage : ℕ → List ℕ → Type 0) (m n : ℕ) (bytes : List ℕ) → HasSerial a IsImage m b
    → HasSerial b IsImage n bytes → HasSerial a IsImage n bytes
serial-then a b IsImage m n bytes (inl first) (inl second) = inl (second.0 ∙ serial-same a b first.1, same-then a b bytes first.1 second.1)
serial-then a b IsImage m n bytes (inr first) (inl second) =
    let is : m ≡ n = sym (serial-next m (IsImage m) b first.1) ∙ sym second.0 in
    inr (subst (λ (k : ℕ). (serial_in a < k) × HasNext k (IsImage k) bytes) is (first.0, next-then m (IsImage m) b bytes first.1 second.1))
serial-then a b IsImage m n bytes (inl first) (inr second) =
    inr (subst (λ (k : ℕ). k < n) (serial-same a b first.1) second.0, second.1)
serial-then a b IsImage m n bytes (inr first) (inr second) =
    inr (let less = first.0 in let is = serial-next m (IsImage m) b first.1 in let more = second.0 in omega arith, second.1)

serial-gives : (old : List ℕ) (IsImage IsOther : ℕ → List ℕ → Type 0) (n : ℕ) (bytes : List ℕ)
    → ((serial : ℕ) (text : List ℕ) → IsImage serial text → IsOther serial text) → HasSerial old IsImage n bytes → HasSerial old IsOther n bytes
serial-gives old IsImage IsOther n bytes gives (inl same) = inl same
serial-gives old IsImage IsOther n bytes gives (inr next) = inr (next.0, next-gives n (IsImage n) (IsOther n) bytes (gives n) next.1)

-- the checkpoint of this serial or of the next one
abbrev HasOneOf : List ℕ → (ℕ → List ℕ → Type 0) → List ℕ → ℕ → Type 0
HasOneOf old IsImage bytes n = HasSerial old IsImage n bytes ⊎ HasSerial old IsImage (n + 1) bytes

one_of-then : (a b : List ℕ) (IsImage : ℕ → List ℕ → Type 0) (m n : ℕ) (bytes : List ℕ) → HasSerial a IsImage m b → HasOneOf b IsImage bytes n
    → HasOneOf a IsImage bytes n
one_of-then a b IsImage m n bytes first (inl last) = inl (serial-then a b IsImage m n bytes first last)
one_of-then a b IsImage m n bytes first (inr next) = inr (serial-then a b IsImage m (n + 1) bytes first next)

-- ---- moments

longer : (old new : VaultState) → Extends old new → length old.calls ≤ length new.calls
longer old new e =
    let long = ap (λ (s : VaultState). length s.calls) e.is ∙ length-append old.calls e.more in
    omega arith

left-behind : (k : ℕ) (s : VaultState) (bytes : List ℕ) → length s.calls ≤ k → MayLeave (moment k s) bytes → MayLeave s bytes
left-behind k s bytes late may = subst (λ (v : VaultState). MayLeave v bytes) (moment-all k s late) may

left-at_end : (s : VaultState) (bytes : List ℕ) → MayLeave s bytes → MayLeave (moment (length s.calls) s) bytes
left-at_end s bytes may = subst (λ (v : VaultState). MayLeave v bytes) (sym (moment-all (length s.calls) s (omega arith))) may

-- ---- what was kept

-- which of the two a stop at the end leaves, its serial says
left-is : (old new : VaultState) (n : ℕ) (IsImage : ℕ → List ℕ → Type 0) (bytes : List ℕ) → Keeps old new n IsImage
    → MayLeave new bytes → serial_in bytes ≡ n → HasSerial (contents_of old) IsImage n bytes
left-is old new n IsImage bytes keeps may is =
    elim (keeps.leaves (length new.calls) (longer old new keeps.extends) bytes (left-at_end new bytes may)) [
      | inl last ↦ subst (λ (k : ℕ). HasSerial (contents_of old) IsImage k bytes) keeps.ends last
      | inr next ↦ absurd (let other = serial-is (contents_of old) IsImage _ bytes next in let ends = keeps.ends in omega arith)
    ]

settled-serial : (s : VaultState) (last : Option Point) (bytes : List ℕ) → IsLast s last → MayLeave s bytes → serial_in bytes ≡ serial_of last
settled-serial s last bytes is may = ap serial_of (same-found bytes (contents_of s) (synced-same s bytes is.synced may) ∙ is.found_is)

-- Where all is synced, a stop leaves the checkpoint that was answered last.
pub keeps-settled : (old new : VaultState) (last : Option Point) (IsImage : ℕ → List ℕ → Type 0) → Keeps old new (serial_of last) IsImage
    → IsLast new last → (bytes : List ℕ) → MayLeave new bytes → HasSerial (contents_of old) IsImage (serial_of last) bytes
keeps-settled old new last IsImage keeps is bytes may =
    left-is old new (serial_of last) IsImage bytes keeps may (settled-serial new last bytes is may)

-- What holds of the images may be less.
pub keeps-gives : (old new : VaultState) (n : ℕ) (IsImage IsOther : ℕ → List ℕ → Type 0)
    → ((serial : ℕ) (text : List ℕ) → IsImage serial text → IsOther serial text) → Keeps old new n IsImage → Keeps old new n IsOther
keeps-gives old new n IsImage IsOther gives keeps = record {
  extends = keeps.extends;
  answered = keeps.answered;
  rises = keeps.rises;
  begins = keeps.begins;
  ends = keeps.ends;
  leaves = λ k late bytes may. elim (keeps.leaves k late bytes may) [
    | inl last ↦ inl (serial-gives (contents_of old) IsImage IsOther (keeps.answered k) bytes gives last)
    | inr next ↦ inr (serial-gives (contents_of old) IsImage IsOther (keeps.answered k + 1) bytes gives next)
  ];
}

-- ---- one run behind the other

abbrev joined : ℕ → (ℕ → ℕ) → (ℕ → ℕ) → ℕ → ℕ
joined m f g k = cond (ltb k m) (f k) (g k)

joined-before : (m : ℕ) (f g : ℕ → ℕ) (k : ℕ) → k < m → joined m f g k ≡ f k
joined-before m f g k before = sym (cond_below k m (f k) (g k) before)

joined-behind : (m : ℕ) (f g : ℕ → ℕ) (k : ℕ) → m ≤ k → joined m f g k ≡ g k
joined-behind m f g k late = sym (cond_above k m (f k) (g k) (g k) late refl)

abbrev Rises : (ℕ → ℕ) → Type 0
Rises f = (j k : ℕ) → j ≤ k → f j ≤ f k

joined-rises : (m : ℕ) (f g : ℕ → ℕ) → Rises f → Rises g → f m ≤ g m → Rises (joined m f g)
joined-rises m f g rises also meets j k up = elim (cases_lt j m) [
  | inl early ↦ elim (cases_lt k m) [
    | inl before ↦ let a = joined-before m f g j early in let b = joined-before m f g k before in let c = rises j k up in omega arith
    | inr late ↦ let a = joined-before m f g j early in let b = joined-behind m f g k late in
        let c = rises j m (omega arith) in let d = also m k late in
        omega arith
  ]
  | inr past ↦ let a = joined-behind m f g j past in let b = joined-behind m f g k (omega arith) in let c = also j k up in omega arith
]

pub keeps-then : (a b c : VaultState) (m n : ℕ) (IsImage : ℕ → List ℕ → Type 0) → serial_in (contents_of b) ≡ m
    → Keeps a b m IsImage → Keeps b c n IsImage → Keeps a c n IsImage
keeps-then a b c m n IsImage is first second = record {
  extends = extends-then a b c first.extends second.extends;
  answered = joined turn first.answered second.answered;
  rises = joined-rises turn first.answered second.answered first.rises second.rises (omega arith);
  begins = elim (cases_lt (length a.calls) turn) [
    | inl more ↦ joined-before turn first.answered second.answered (length a.calls) more ∙ first.begins
    | inr none ↦ let same : length a.calls ≡ turn = let long = longer a b first.extends in omega arith in
        joined-behind turn first.answered second.answered (length a.calls) none
        ∙ ap second.answered same ∙ sym meets ∙ ap first.answered (sym same) ∙ first.begins
  ];
  ends = joined-behind turn first.answered second.answered (length c.calls) (longer b c second.extends) ∙ second.ends;
  leaves = λ k late bytes may. elim (cases_lt k turn) [
    | inl before ↦ subst (HasOneOf (contents_of a) IsImage bytes) (sym (joined-before turn first.answered second.answered k before))
        (first.leaves k late bytes (subst (λ (s : VaultState). MayLeave s bytes) (moment-before k b c second.extends (omega arith)) may))
    | inr past ↦ subst (HasOneOf (contents_of a) IsImage bytes) (sym (joined-behind turn first.answered second.answered k past))
        (one_of-then (contents_of a) (contents_of b) IsImage m (second.answered k) bytes middle (second.leaves k past bytes may))
  ];
} where
  turn : ℕ
  turn = length b.calls

  meets : first.answered turn ≡ second.answered turn
  meets = first.ends ∙ sym is ∙ sym second.begins

  middle : HasSerial (contents_of a) IsImage m (contents_of b)
  middle = left-is a b m IsImage (contents_of b) first (λ i synced. refl) is

-- ---- one call more

-- Calls in which no checkpoint is answered.
steady : (old new : VaultState) (last : Option Point) (IsImage : ℕ → List ℕ → Type 0) → IsLast old last → Extends old new
    → Throughout old new (λ bytes. HasOneOf (contents_of old) IsImage bytes (serial_of last)) → Keeps old new (serial_of last) IsImage
steady old new last IsImage is extends stops = record {
  extends = extends;
  answered = λ k. serial_of last;
  rises = λ j k up. omega arith;
  begins = ap serial_of (sym is.found_is);
  ends = refl;
  leaves = stops;
}

-- Calls that leave no more to a stop than there was, as those of `recover`.
pub keeps-calls : (old new : VaultState) (last : Option Point) (IsImage : ℕ → List ℕ → Type 0) → IsLast old last → Extends old new
    → Throughout old new (MayLeave old) → Keeps old new (serial_of last) IsImage
keeps-calls old new last IsImage is extends stops =
    steady old new last IsImage is extends (λ k late bytes may.
    inl (inl (ap serial_of (sym is.found_is), has-same (contents_of old) bytes is.whole (synced-same old bytes is.synced (stops k late bytes may)))))

pub keeps-still : (s : VaultState) (last : Option Point) (IsImage : ℕ → List ℕ → Type 0) → IsLast s last → Keeps s s (serial_of last) IsImage
keeps-still s last IsImage is =
    keeps-calls s s last IsImage is (extends-still s s refl) (throughout-still s s (MayLeave s) refl (λ bytes may. may))

-- what a stop within a call of `keep` leaves
either-left : (old : VaultState) (last : Option Point) (IsImage : ℕ → List ℕ → Type 0) (IsText : List ℕ → Type 0) (bytes : List ℕ) → IsLast old last
    → ((text : List ℕ) → IsText text → IsImage (serial_of last + 1) text) → HasEither (contents_of old) (serial_of last + 1) IsText bytes
    → HasOneOf (contents_of old) IsImage bytes (serial_of last)
either-left old last IsImage IsText bytes is gives (inl same) = inl (inl (ap serial_of (sym is.found_is), same))
either-left old last IsImage IsText bytes is gives (inr next) =
    let here = ap serial_of is.found_is in
    inr (inr (omega arith, next-gives (serial_of last + 1) IsText (IsImage (serial_of last + 1)) bytes gives next))

-- where another checkpoint is there than before, calls were made
calls-made : (old new : VaultState) (last next : Option Point) → IsLast old last → IsLast new next → serial_of next ≡ serial_of last + 1
    → Extends old new → length old.calls < length new.calls
calls-made old new last next was is up e = go e.more e.is where
  go : (more : List Call) → new ≡ behind old more → length old.calls < length new.calls
  go [] same =
      let contents = ap (λ (s : VaultState). found (contents_of s)) (same ∙ behind-none old) in
      let serials = ap serial_of (sym is.found_is ∙ contents ∙ was.found_is) in
      absurd (omega arith)
  go (call ∷ more) longer =
      let long = ap (λ (s : VaultState). length s.calls) longer ∙ length-append old.calls (call ∷ more) in
      omega arith

-- The next one is answered at the last moment.
one_answered : (old new : VaultState) (last : Option Point) (point : Point) (IsImage : ℕ → List ℕ → Type 0) → IsLast old last → Extends old new
    → Throughout old new (λ bytes. HasOneOf (contents_of old) IsImage bytes (serial_of last)) → IsLast new (Some point)
    → point.serial ≡ serial_of last + 1 → Keeps old new point.serial IsImage
one_answered old new last point IsImage was extends stops is up = record {
  extends = extends;
  answered = joined turn before behind;
  rises = joined-rises turn before behind (λ j k up. omega arith) (λ j k up. omega arith) (omega arith);
  begins = joined-before turn before behind (length old.calls) (calls-made old new last (Some point) was is up extends)
      ∙ ap serial_of (sym was.found_is);
  ends = joined-behind turn before behind turn (omega arith);
  leaves = λ k late bytes may. elim (cases_lt k turn) [
    | inl early ↦ subst (HasOneOf (contents_of old) IsImage bytes) (sym (joined-before turn before behind k early)) (stops k late bytes may)
    | inr past ↦ subst (HasOneOf (contents_of old) IsImage bytes) (sym (joined-behind turn before behind k past))
        (inl (at_end bytes (left-behind k new bytes past may) (stops k late bytes may)))
  ];
} where
  turn : ℕ
  turn = length new.calls

  before : ℕ → ℕ
  before k = serial_of last

  behind : ℕ → ℕ
  behind k = point.serial

  at_end : (bytes : List ℕ) → MayLeave new bytes → HasOneOf (contents_of old) IsImage bytes (serial_of last)
      → HasSerial (contents_of old) IsImage point.serial bytes
  at_end bytes may (inl same) =
      let serial = settled-serial new (Some point) bytes is may in
      let other = serial-is (contents_of old) IsImage (serial_of last) bytes same in
      absurd (omega arith)
  at_end bytes may (inr next) = subst (λ (n : ℕ). HasSerial (contents_of old) IsImage n bytes) (sym up) next

-- A call of `keep` that answered its point.
pub keeps-more : (old mid new : VaultState) (last : Option Point) (point : Point) (IsImage : ℕ → List ℕ → Type 0) (IsText : List ℕ → Type 0)
    → Keeps old mid (serial_of last) IsImage → IsLast mid last → Extends mid new
    → Throughout mid new (HasEither (contents_of mid) (serial_of last + 1) IsText) → IsLast new (Some point) → point.serial ≡ serial_of last + 1
    → ((text : List ℕ) → IsText text → IsImage (serial_of last + 1) text) → Keeps old new point.serial IsImage
keeps-more old mid new last point IsImage IsText keeps was extends stops is up gives =
    keeps-then old mid new (serial_of last) point.serial IsImage (ap serial_of was.found_is) keeps
    (one_answered mid new last point IsImage was extends
    (λ k late bytes may. either-left mid last IsImage IsText bytes was gives (stops k late bytes may)) is up)

-- A call of `keep` that was refused.
pub keeps-refused : (old mid new : VaultState) (last : Option Point) (IsImage : ℕ → List ℕ → Type 0) (IsText : List ℕ → Type 0)
    → Keeps old mid (serial_of last) IsImage → IsLast mid last → Extends mid new
    → Throughout mid new (HasEither (contents_of mid) (serial_of last + 1) IsText)
    → ((text : List ℕ) → IsText text → IsImage (serial_of last + 1) text) → Keeps old new (serial_of last) IsImage
keeps-refused old mid new last IsImage IsText keeps was extends stops gives =
    keeps-then old mid new (serial_of last) (serial_of last) IsImage (ap serial_of was.found_is) keeps
    (steady mid new last IsImage was extends
    (λ k late bytes may. either-left mid last IsImage IsText bytes was gives (stops k late bytes may)))

-- ---- serials by moments

-- a stop leaves the serial that was answered last, or the next one
pub serial-left : (old new : VaultState) (last : ℕ) (IsImage : ℕ → List ℕ → Type 0) (keeps : Keeps old new last IsImage) (k : ℕ)
    → length old.calls ≤ k → (bytes : List ℕ) → MayLeave (moment k new) bytes
    → (serial_in bytes ≡ keeps.answered k) ⊎ (serial_in bytes ≡ keeps.answered k + 1)
serial-left old new last IsImage keeps k late bytes may = elim (keeps.leaves k late bytes may) [
  | inl same ↦ inl (serial-is (contents_of old) IsImage _ bytes same)
  | inr next ↦ inr (serial-is (contents_of old) IsImage _ bytes next)
]

pub no-earlier : (old new : VaultState) (last : ℕ) (IsImage : ℕ → List ℕ → Type 0) (keeps : Keeps old new last IsImage) (j k : ℕ)
    → length old.calls ≤ k → j ≤ k → (w : List ℕ) → MayLeave (moment k new) w → keeps.answered j ≤ serial_in w
no-earlier old new last IsImage keeps j k late up w may =
    let up = keeps.rises j k up in
    elim (serial-left old new last IsImage keeps k late w may) [ inl same ↦ omega arith | inr next ↦ omega arith ]

pub no-much_later : (old new : VaultState) (last : ℕ) (IsImage : ℕ → List ℕ → Type 0) (keeps : Keeps old new last IsImage) (k : ℕ)
    → length old.calls ≤ k → (w : List ℕ) → MayLeave (moment k new) w → serial_in w ≤ keeps.answered k + 1
no-much_later old new last IsImage keeps k late w may =
    elim (serial-left old new last IsImage keeps k late w may) [ inl same ↦ omega arith | inr next ↦ omega arith ]
