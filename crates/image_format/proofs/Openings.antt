-- Heads of both versions: what is read is spelled so, and what is spelled so is read.
use Rattle.std.proofs.Common.{◌≡◌, ℕ, ◌^◌, ◌<◌, Bool, true, false, cond, eqb, List, ◌++◌, Result, Ok, refl, sym, ap, subst, ◌∙◌, append_assoc, codes, arith, inl, inr, ◌⊎◌}
use Rattle.std.specs.Int.{w32}
use Rattle.std.proofs.lemmas.Bool.{eqb-true}
use Rattle.std.proofs.lemmas.List.{append-nil}
use Rattle.long_names.specs.Record.{four_bytes}
use Rattle.image_format.specs.declared.fault.Halt.{Halt}
use Rattle.image_format.specs.declared.opening.Opening.{Opening}
use Rattle.image_format.specs.declared.opening.State.{State}
use Rattle.image_format.specs.declared.opening.ImageHead.{ImageHead}
use Rattle.image_format.specs.Reading.{number_at}
use Rattle.image_format.specs.Heads.{no_state, state_text, opening_text, stated_text, version_head_text, is_loom, is_version, is_count, is_next, is_state_word, is_tick, checked_at, opening_at, state_at, version_state_at, head_at}
use Rattle.image_format.proofs.Numbers.{AreBytes, Takes, takes_then, bind_ok, ok_is, passed_ok, wide32, number_takes, number_again}

-- ---- a long word that passes a test

pub checked_takes : (rule : ℕ) (test : ℕ → Bool) (bytes : List ℕ) (x : ℕ × List ℕ) → AreBytes bytes → checked_at rule test bytes ≡ Ok x → Takes bytes (four_bytes x.0) x.1 × (x.0 < 2 ^ 32) × (test x.0 ≡ true)
unfolding checked_at
checked_takes rule test bytes x fits e =
    let a = bind_ok (number_at w32 bytes) _ x e in
    let t = number_takes w32 (2 ^ 32) four_bytes wide32 bytes a.0.0 a.0.1 fits a.1 in
    let g = passed_ok (test a.0.0) (Ok a.0) _ x a.2 in
    let P : ℕ × List ℕ → Type 0 = λ p. Takes bytes (four_bytes p.0) p.1 × (p.0 < 2 ^ 32) × (test p.0 ≡ true) in
    subst P (ok_is a.0 x g.1) (t.0, t.1, g.0)

pub checked_again : (rule : ℕ) (test : ℕ → Bool) (n : ℕ) (rest : List ℕ) → n < 2 ^ 32 → test n ≡ true → checked_at rule test (four_bytes n ++ rest) ≡ Ok (n, rest)
unfolding checked_at
checked_again rule test n rest lt passes = rw (number_again w32 (2 ^ 32) four_bytes wide32 n rest lt, passes) refl

-- ---- the opening

pub record IsOpening (o : Opening) : Type 0 where
  pub version : is_version o.version ≡ true
  pub version_fits : o.version < 2 ^ 32
  pub objects : is_count o.objects ≡ true
  pub objects_fit : o.objects < 2 ^ 32
  pub next : is_next o.next ≡ true
  pub next_fits : o.next < 2 ^ 32

loom_text : four_bytes 1280266061 ≡ codes "LOOM"
unfolding four_bytes
loom_text = refl

pub opening_takes : (bytes : List ℕ) (x : Opening × List ℕ) → AreBytes bytes → opening_at bytes ≡ Ok x → Takes bytes (opening_text x.0) x.1 × IsOpening x.0
unfolding opening_at
opening_takes bytes x fits e =
    let a = bind_ok (checked_at 1 is_loom bytes) _ x e in
    let b = bind_ok (checked_at 2 is_version a.0.1) _ x a.2 in
    let d = bind_ok (checked_at 3 is_count b.0.1) _ x b.2 in
    let f = bind_ok (checked_at 3 is_next d.0.1) _ x d.2 in
    let t0 = checked_takes 1 is_loom bytes a.0 fits a.1 in
    let t1 = checked_takes 2 is_version a.0.1 b.0 t0.0.unread b.1 in
    let t2 = checked_takes 3 is_count b.0.1 d.0 t1.0.unread d.1 in
    let t3 = checked_takes 3 is_next d.0.1 f.0 t2.0.unread f.1 in
    let e23 = takes_then b.0.1 (four_bytes d.0.0) d.0.1 (four_bytes f.0.0) f.0.1 t2.0 t3.0 in
    let e13 = takes_then a.0.1 (four_bytes b.0.0) b.0.1 _ f.0.1 t1.0 e23 in
    let e03 = takes_then bytes (four_bytes a.0.0) a.0.1 _ f.0.1 t0.0 e13 in
    let loom : four_bytes a.0.0 ≡ codes "LOOM" = ap four_bytes (eqb-true a.0.0 1280266061 t0.2) ∙ loom_text in
    let o : Opening = record { version = b.0.0; objects = d.0.0; next = f.0.0 } in
    let whole : Takes bytes (opening_text o) f.0.1 = subst (λ (s : List ℕ). Takes bytes (s ++ (four_bytes b.0.0 ++ (four_bytes d.0.0 ++ four_bytes f.0.0))) f.0.1) loom e03 in
    let P : Opening × List ℕ → Type 0 = λ p. Takes bytes (opening_text p.0) p.1 × IsOpening p.0 in
    subst P (ok_is (o, f.0.1) x f.2) (whole, record { version = t1.2; version_fits = t1.1; objects = t2.2; objects_fit = t2.1; next = t3.2; next_fits = t3.1 })

pub opening_again : (o : Opening) (rest : List ℕ) → IsOpening o → opening_at (opening_text o ++ rest) ≡ Ok (o, rest)
unfolding opening_at
opening_again o rest is =
    let regrouped : opening_text o ++ rest ≡ four_bytes 1280266061 ++ (four_bytes o.version ++ (four_bytes o.objects ++ (four_bytes o.next ++ rest))) = ap (λ (s : List ℕ). (s ++ (four_bytes o.version ++ (four_bytes o.objects ++ four_bytes o.next))) ++ rest) (sym loom_text) ∙ simp append_assoc in
    ap opening_at regrouped ∙ rw (checked_again 1 is_loom 1280266061 (four_bytes o.version ++ (four_bytes o.objects ++ (four_bytes o.next ++ rest))) (omega arith) refl, checked_again 2 is_version o.version (four_bytes o.objects ++ (four_bytes o.next ++ rest)) is.version_fits is.version, checked_again 3 is_count o.objects (four_bytes o.next ++ rest) is.objects_fit is.objects, checked_again 3 is_next o.next rest is.next_fits is.next) refl

-- ---- the state

pub record AreStateWords (next : ℕ) (s : State) : Type 0 where
  pub clock_fits : s.clock < 2 ^ 32
  pub display : is_state_word next s.display ≡ true
  pub display_fits : s.display < 2 ^ 32
  pub input : is_state_word next s.input ≡ true
  pub input_fits : s.input < 2 ^ 32
  pub timer : is_state_word next s.timer ≡ true
  pub timer_fits : s.timer < 2 ^ 32
  pub tick : is_tick s.timer s.tick ≡ true
  pub tick_fits : s.tick < 2 ^ 32

state_takes : (next : ℕ) (bytes : List ℕ) (x : State × List ℕ) → AreBytes bytes → state_at next bytes ≡ Ok x → Takes bytes (state_text x.0) x.1 × AreStateWords next x.0
unfolding state_at
state_takes next bytes x fits e =
    let a = bind_ok (number_at w32 bytes) _ x e in
    let b = bind_ok (checked_at 13 (is_state_word next) a.0.1) _ x a.2 in
    let d = bind_ok (checked_at 13 (is_state_word next) b.0.1) _ x b.2 in
    let f = bind_ok (checked_at 13 (is_state_word next) d.0.1) _ x d.2 in
    let g = bind_ok (checked_at 13 (is_tick f.0.0) f.0.1) _ x f.2 in
    let t0 = number_takes w32 (2 ^ 32) four_bytes wide32 bytes a.0.0 a.0.1 fits a.1 in
    let t1 = checked_takes 13 (is_state_word next) a.0.1 b.0 t0.0.unread b.1 in
    let t2 = checked_takes 13 (is_state_word next) b.0.1 d.0 t1.0.unread d.1 in
    let t3 = checked_takes 13 (is_state_word next) d.0.1 f.0 t2.0.unread f.1 in
    let t4 = checked_takes 13 (is_tick f.0.0) f.0.1 g.0 t3.0.unread g.1 in
    let e34 = takes_then d.0.1 (four_bytes f.0.0) f.0.1 (four_bytes g.0.0) g.0.1 t3.0 t4.0 in
    let e24 = takes_then b.0.1 (four_bytes d.0.0) d.0.1 _ g.0.1 t2.0 e34 in
    let e14 = takes_then a.0.1 (four_bytes b.0.0) b.0.1 _ g.0.1 t1.0 e24 in
    let e04 = takes_then bytes (four_bytes a.0.0) a.0.1 _ g.0.1 t0.0 e14 in
    let s : State = record { clock = a.0.0; display = b.0.0; input = d.0.0; timer = f.0.0; tick = g.0.0 } in
    let P : State × List ℕ → Type 0 = λ p. Takes bytes (state_text p.0) p.1 × AreStateWords next p.0 in
    subst P (ok_is (s, g.0.1) x g.2) (e04, record { clock_fits = t0.1; display = t1.2; display_fits = t1.1; input = t2.2; input_fits = t2.1; timer = t3.2; timer_fits = t3.1; tick = t4.2; tick_fits = t4.1 })

state_again : (next : ℕ) (s : State) (rest : List ℕ) → AreStateWords next s → state_at next (state_text s ++ rest) ≡ Ok (s, rest)
unfolding state_at
state_again next s rest is =
    let regrouped : state_text s ++ rest ≡ four_bytes s.clock ++ (four_bytes s.display ++ (four_bytes s.input ++ (four_bytes s.timer ++ (four_bytes s.tick ++ rest)))) = simp append_assoc in
    ap (state_at next) regrouped ∙ rw (number_again w32 (2 ^ 32) four_bytes wide32 s.clock (four_bytes s.display ++ (four_bytes s.input ++ (four_bytes s.timer ++ (four_bytes s.tick ++ rest)))) is.clock_fits, checked_again 13 (is_state_word next) s.display (four_bytes s.input ++ (four_bytes s.timer ++ (four_bytes s.tick ++ rest))) is.display_fits is.display, checked_again 13 (is_state_word next) s.input (four_bytes s.timer ++ (four_bytes s.tick ++ rest)) is.input_fits is.input, checked_again 13 (is_state_word next) s.timer (four_bytes s.tick ++ rest) is.timer_fits is.timer, checked_again 13 (is_tick s.timer) s.tick rest is.tick_fits is.tick) refl

-- ---- the head

-- what a head states that was read: in version 1 no state, in version 2 words that a state may have
pub record IsRead (h : ImageHead) : Type 0 where
  pub opening : IsOpening h.opening
  pub state : ((eqb h.opening.version 2 ≡ false) × (h.state ≡ no_state)) ⊎ ((eqb h.opening.version 2 ≡ true) × AreStateWords h.opening.next h.state)

pub head_takes : (bytes : List ℕ) (x : ImageHead × List ℕ) → AreBytes bytes → head_at bytes ≡ Ok x → Takes bytes (version_head_text x.0) x.1 × IsRead x.0
unfolding head_at
head_takes bytes x fits e =
    let a = bind_ok (opening_at bytes) _ x e in
    let t0 = opening_takes bytes a.0 fits a.1 in
    let b = bind_ok (version_state_at a.0.0 a.0.1) _ x a.2 in
    let h : ImageHead = record { opening = a.0.0; state = b.0.0 } in
    let P : ImageHead × List ℕ → Type 0 = λ p. Takes bytes (version_head_text p.0) p.1 × IsRead p.0 in
    subst P (ok_is (h, b.0.1) x b.2) (go a.0.0 a.0.1 b.0 t0.0 t0.1 (eqb a.0.0.version 2) refl b.1)
  where
    go : (o : Opening) (left : List ℕ) (y : State × List ℕ) → Takes bytes (opening_text o) left → IsOpening o → (b : Bool) → eqb o.version 2 ≡ b → cond b (state_at o.next left) (Ok (no_state, left)) ≡ Ok y
        → Takes bytes (version_head_text (record { opening = o; state = y.0 })) y.1 × IsRead (record { opening = o; state = y.0 })
    go o left y t is true v e =
        let s = state_takes o.next left y t.unread e in
        (rw v (takes_then bytes (opening_text o) left (state_text y.0) y.1 t s.0), record { opening = is; state = inr (v, s.1) })
    go o left y t is false v e =
        let P : State × List ℕ → Type 0 = λ p. Takes bytes (version_head_text (record { opening = o; state = p.0 })) p.1 × IsRead (record { opening = o; state = p.0 }) in
        subst P (ok_is (no_state, left) y e) (rw (v, append-nil (opening_text o)) t, record { opening = is; state = inl (v, refl) })

version_state_again : (h : ImageHead) (rest : List ℕ) → IsRead h → version_state_at h.opening (stated_text h ++ rest) ≡ Ok (h.state, rest)
version_state_again h rest is = elim is.state [
  | inl p ↦ rw p.0 (ap (λ (s : State). let r : Result (State × List ℕ) Halt = Ok (s, rest) in r) (sym p.1))
  | inr p ↦ rw p.0 (state_again h.opening.next h.state rest p.1)
]

pub head_again : (h : ImageHead) (rest : List ℕ) → IsRead h → head_at (version_head_text h ++ rest) ≡ Ok (h, rest)
unfolding head_at
head_again h rest is =
    let regrouped : version_head_text h ++ rest ≡ opening_text h.opening ++ (stated_text h ++ rest) = append_assoc (opening_text h.opening) (stated_text h) rest in
    ap head_at regrouped ∙ rw (opening_again h.opening (stated_text h ++ rest) is.opening, version_state_again h rest is) refl
