-- Slots in a list, and the map that they stand for.
use Rattle.std.proofs.Common.{◌≡◌, ◌≢◌, ℕ, ◌+◌, ◌<◌, ◌≤◌, ◌==◌, false, cond, List, length, get_or, replicate, Option, Some, None, refl, ap, sym, ◌∙◌, subst, arith, inl, ⊎_elim}
use Rattle.probing.specs.Homes.{home_of}
use Rattle.probing.proofs.HomeLaws.{home_of-below}
use Rattle.std.proofs.lemmas.Bool.Decides.{nat_tests}
use Rattle.std.proofs.lemmas.Bool.{cases_lt}
use Rattle.std.proofs.lemmas.List.{get_or_default, get_or-set_same, get_or-set_other, get_or-replicate, get_or_past}
use Rattle.std.proofs.Math.ListN.{length-set, length-replicate}
use Rattle.std.proofs.Math.Path.{fun_ext}
use Rattle.std.specs.List.{slice_set}
use Rattle.std.specs.Option.{IsSome}
use Rattle.object_table.specs.Entries.{put}
use Rattle.probing.specs.Search.{IsVacancy, IsClosedUp, Puts}
use Rattle.probing.specs.Table.{looked_up, IsTable}
use Rattle.probing.proofs.MapLaws.{looked_up_none, looked_up_held, looked_up_vacant, put_looked_up}
use Rattle.probing.proofs.TableLaws.{equal_or_not, put_table, puts-part}
use Rattle.resident_table.specs.declared.probe.Slot.{Slot}
use Rattle.resident_table.specs.Inside.{slot_at, name_at, short_at, no_slot, Ends}

other-zero : (n : ℕ) (a b : Option ℕ) → n ≢ 0 → cond (n == 0) a b ≡ b
other-zero n a b h = let test : (n == 0) ≡ false = grind (arith, nat_tests) in rw test refl

zero-other : (n : ℕ) (a b : Option ℕ) → n ≢ 0 → cond (0 == n) a b ≡ b
zero-other n a b h = let test : (0 == n) ≡ false = grind (arith, nat_tests) in rw test refl

-- a slot that is written stands there, and the others stay
puts : (slots : List Slot) (n at : ℕ) (slot : Slot) → at < length slots → Puts (slot_at slots) (slot_at (slice_set slots at slot)) n at slot
puts slots n at slot low = record {
  here = get_or-set_same slots at slot no_slot low;
  others = λ j l away. get_or-set_other slots at j slot no_slot away;
}

pub puts-name : (slots : List Slot) (n at : ℕ) (slot : Slot) → at < length slots
    → Puts (name_at slots) (name_at (slice_set slots at slot)) n at slot.name
puts-name slots n at slot low = puts-part (λ (s : Slot). s.name) (slot_at slots) (slot_at (slice_set slots at slot)) n at slot (puts slots n at slot low)

pub puts-short : (slots : List Slot) (n at : ℕ) (slot : Slot) → at < length slots
    → Puts (short_at slots) (short_at (slice_set slots at slot)) n at slot.short
puts-short slots n at slot low = puts-part (λ (s : Slot). s.short) (slot_at slots) (slot_at (slice_set slots at slot)) n at slot (puts slots n at slot low)

-- a slot as it is read
pub read : (slots : List Slot) (at : ℕ) (slot : Slot) → at < length slots → slot ≡ get_or slots at slot → slot ≡ slot_at slots at
read slots at slot low e = e ∙ get_or_default slots at slot no_slot low

-- ---- the map that slots stand for

abbrev pub short_in : List Slot → ℕ → Option ℕ
short_in slots name = cond (name == 0) None (looked_up (name_at slots) (short_at slots) (length slots) name)

-- a name is looked up
pub short-is : (slots : List Slot) (name : ℕ) → name ≢ 0 → short_in slots name ≡ looked_up (name_at slots) (short_at slots) (length slots) name
short-is slots name named = other-zero name None (looked_up (name_at slots) (short_at slots) (length slots) name) named

-- two maps that have the same at each name
same-shorts : (old : ℕ → Option ℕ) (slots : List Slot) (n : ℕ) (s : Option ℕ) → n ≢ 0 → old 0 ≡ None
    → ((q : ℕ) → q ≢ 0 → looked_up (name_at slots) (short_at slots) (length slots) q ≡ cond (q == n) s (old q)) → short_in slots ≡ put old n s
same-shorts old slots n s named none same = fun_ext go
  where
    go : (q : ℕ) → short_in slots q ≡ cond (q == n) s (old q)
    go q = ⊎_elim
        (λ (h : q ≡ 0). subst (λ (z : ℕ). short_in slots z ≡ cond (z == n) s (old z)) (sym h) (sym (zero-other n s (old 0) named ∙ none)))
        (λ (h : q ≢ 0). short-is slots q h ∙ same q h)
        (equal_or_not q 0)

-- a slot is filled
pub short-put : (slots : List Slot) (count at : ℕ) (slot : Slot) → IsTable home_of (name_at slots) (length slots) count → slot.name ≢ 0 → at < length slots
    → IsVacancy home_of (name_at slots) (length slots) slot.name at → short_in (slice_set slots at slot) ≡ put (short_in slots) slot.name (Some slot.short)
short-put slots count at slot t named low v =
    let new = slice_set slots at slot in
    let names = puts-name slots (length slots) at slot low in
    let shorts = puts-short slots (length slots) at slot low in
    let table = put_table home_of-below (name_at slots) (name_at new) (length slots) count at slot.name t named low v names in
    same-shorts (short_in slots) new slot.name (Some slot.short) named refl
    (λ q h. ap (λ (m : ℕ). looked_up (name_at new) (short_at new) m q) (length-set slots at slot)
    ∙ put_looked_up (name_at slots) (name_at new) (short_at slots) (short_at new) (length slots) (count + 1) at slot.name slot.short table named low
    (inl v.empty) names shorts q h
    ∙ ap (λ (o : Option ℕ). cond (q == slot.name) (Some slot.short) o) (sym (short-is slots q h)))

-- a slot is taken out
pub short-closed : (slots now : List Slot) (count at name : ℕ) → IsClosedUp home_of (name_at slots) (name_at now) (short_at slots) (short_at now) (length slots) count at → length now ≡ length slots
    → name_at slots at ≡ name → name ≢ 0 → short_in now ≡ put (short_in slots) name None
short-closed slots now count at name closed size is named = same-shorts (short_in slots) now name None named refl
    (λ q h. ap (λ (m : ℕ). looked_up (name_at now) (short_at now) m q) size ∙ closed.removed q h
    ∙ ap (λ (m : ℕ). cond (q == m) None (looked_up (name_at slots) (short_at slots) (length slots) q)) is
    ∙ ap (λ (o : Option ℕ). cond (q == name) None o) (sym (short-is slots q h)))

-- ---- where a search ended

-- at an empty slot, so the name has no short name
pub ends-empty : (slots : List Slot) (count name at : ℕ) → IsTable home_of (name_at slots) (length slots) count → name ≢ 0 → Ends (name_at slots) (length slots) name at
    → name_at slots at ≡ 0 → short_in slots name ≡ None
ends-empty slots count name at t named ends empty = short-is slots name named ∙ ⊎_elim
    (λ (e : name_at slots at ≡ name). absurd (named (sym e ∙ empty)))
    (λ (v : IsVacancy home_of (name_at slots) (length slots) name at). looked_up_vacant home_of-below (name_at slots) (short_at slots) (length slots) count name at t named v)
    ends

-- at a slot that isn't empty, so it is the name's
pub ends-held : (slots : List Slot) (count name at : ℕ) → IsTable home_of (name_at slots) (length slots) count → name ≢ 0 → at < length slots
    → Ends (name_at slots) (length slots) name at → name_at slots at ≢ 0 → short_in slots name ≡ Some (short_at slots at)
ends-held slots count name at t named low ends full = short-is slots name named ∙ ⊎_elim
    (λ (e : name_at slots at ≡ name). looked_up_held (name_at slots) (short_at slots) (length slots) count name at t named low e)
    (λ (v : IsVacancy home_of (name_at slots) (length slots) name at). absurd (full v.empty))
    ends

-- the name has none, so at an empty slot
pub ends-vacant : (slots : List Slot) (count name at : ℕ) → IsTable home_of (name_at slots) (length slots) count → name ≢ 0 → at < length slots
    → Ends (name_at slots) (length slots) name at → short_in slots name ≡ None → IsVacancy home_of (name_at slots) (length slots) name at
ends-vacant slots count name at t named low ends none = ⊎_elim
    (λ (e : name_at slots at ≡ name). absurd (some-none
    (sym (looked_up_held (name_at slots) (short_at slots) (length slots) count name at t named low e) ∙ sym (short-is slots name named) ∙ none)))
    (λ (v : IsVacancy home_of (name_at slots) (length slots) name at). v)
    ends
  where
    some-none : {s : ℕ} → Some s ≡ None → ⊥
    some-none e = cc e

-- the name has one, so at its slot
pub ends-there : (slots : List Slot) (count name at : ℕ) → IsTable home_of (name_at slots) (length slots) count → name ≢ 0
    → Ends (name_at slots) (length slots) name at → IsSome (short_in slots name) → name_at slots at ≡ name
ends-there slots count name at t named ends some = ⊎_elim
    (λ (e : name_at slots at ≡ name). e)
    (λ (v : IsVacancy home_of (name_at slots) (length slots) name at).
    absurd (none-some (subst (λ (o : Option ℕ). IsSome o) (short-is slots name named ∙ looked_up_vacant home_of-below (name_at slots) (short_at slots) (length slots) count name at t named v) some)))
    ends
  where
    none-some : IsSome {T = ℕ} None → ⊥
    none-some e = cc e

-- ---- a new table

pub slots-none : (slots : List Slot) (n : ℕ) → slots ≡ replicate n no_slot → (i : ℕ) → name_at slots i ≡ 0
slots-none slots n e i = ap (λ (l : List Slot). (get_or l i no_slot).name) e ∙ ap (λ (s : Slot). s.name) (none n i)
  where
    none : (n i : ℕ) → get_or (replicate n no_slot) i no_slot ≡ no_slot
    none n i = ⊎_elim
        (λ (h : i < n). get_or-replicate n i no_slot no_slot h)
        (λ (h : n ≤ i). get_or_past (replicate n no_slot) i no_slot (subst (λ (z : ℕ). z ≤ i) (sym (length-replicate n no_slot)) h))
        (cases_lt i n)

pub short-none : (slots : List Slot) → ((i : ℕ) → name_at slots i ≡ 0) → short_in slots ≡ (λ name. None)
short-none slots none = fun_ext (λ q. ⊎_elim
    (λ (h : q ≡ 0). subst (λ (z : ℕ). short_in slots z ≡ None) (sym h) refl)
    (λ (h : q ≢ 0). short-is slots q h ∙ looked_up_none (name_at slots) (short_at slots) (length slots) q (λ i l e. h (sym e ∙ none i)))
    (equal_or_not q 0))
