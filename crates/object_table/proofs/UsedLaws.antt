-- One field of an entry that is in use changes, in its place.
use Rattle.std.proofs.Common.{◌≡◌, ℕ, ◌+◌, ◌-◌, ◌/◌, ◌<◌, ◌≤◌, Bool, true, false, cond, List, length, get_or, refl, sym, ◌∙◌, ap, arith, count_by}
use Rattle.std.proofs.lemmas.List.{get_or_default}
use Rattle.std.proofs.Math.ListN.{length-set}
use Rattle.std.specs.List.{slice_set}
use Rattle.object_table.specs.declared.entry.Entry.{Entry}
use Rattle.object_table.specs.Entries.{put, is_short, is_used, is_free, free_entry}
use Rattle.object_table.specs.Inside.{IsNoted, IsVacant}
use Rattle.object_table.proofs.ShortLaws.{at_short, at_short-is, at_short-set}
use Rattle.object_table.proofs.VacantLaws.{known-set, used-bound, used-within, free-is}
use Rattle.object_table.proofs.NoteLaws.{noted-set}

-- what is in use has a short name
pub used-short : (entries : List Entry) (s : ℕ) → is_used (at_short free_entry entries s).state ≡ true → is_short s ≡ true
used-short entries s used = go (is_short s) refl
  where
    clash : false ≡ true → ⊥
    clash h = cc

    go : (b : Bool) → is_short s ≡ b → is_short s ≡ true
    go true short = short
    go false odd = absurd (clash (sym (ap (λ b. is_used (cond b (get_or entries (s / 2 - 1) free_entry) free_entry).state) odd) ∙ used))

-- its place is in the list
pub used-low : (entries : List Entry) (s i : ℕ) → i ≡ s / 2 - 1 → is_used (at_short free_entry entries s).state ≡ true → i < length entries
used-low entries s i at used = used-within entries s i at (used-short entries s used) used

-- the entry that is read there is that of the short name
pub used-here : (entries : List Entry) (s i : ℕ) (e : Entry) → i ≡ s / 2 - 1 → is_used (at_short free_entry entries s).state ≡ true → e ≡ get_or entries i e
    → e ≡ at_short free_entry entries s
used-here entries s i e at used is =
    is ∙ get_or_default entries i e free_entry (used-low entries s i at used) ∙ sym (at_short-is free_entry entries s i at (used-short entries s used))

-- an entry r becomes e, which is in use and marked as r is
pub field-known : (entries : List Entry) (places : List ℕ) (s i : ℕ) (r e : Entry) → IsVacant entries places → i ≡ s / 2 - 1
    → is_used (at_short free_entry entries s).state ≡ true → r ≡ get_or entries i r → is_used e.state ≡ is_used r.state → IsVacant (slice_set entries i e) places
field-known entries places s i r e v at used is stays =
    known-set entries places s i e v at (used-short entries s used) used (stays ∙ ap (λ (x : Entry). is_used x.state) (used-here entries s i r at used is) ∙ used)

pub field-noted : (entries : List Entry) (listed : List Bool) (places : List ℕ) (s i : ℕ) (r e : Entry) → IsNoted entries listed places → i ≡ s / 2 - 1
    → is_used (at_short free_entry entries s).state ≡ true → r ≡ get_or entries i r → e.flags.marked ≡ r.flags.marked → IsNoted (slice_set entries i e) listed places
field-noted entries listed places s i r e v at used is same =
    let low = used-low entries s i at used in
    noted-set entries listed places i e v low
    (λ h. v.every i (sym (ap (λ (x : Entry). x.flags.marked) (is ∙ get_or_default entries i r free_entry low)) ∙ sym same ∙ h))

pub field-entry : (f : Entry → Entry) (entries : List Entry) (s i : ℕ) (r : Entry) → i ≡ s / 2 - 1 → is_used (at_short free_entry entries s).state ≡ true
    → r ≡ get_or entries i r → at_short free_entry (slice_set entries i (f r)) ≡ put (at_short free_entry entries) s (f (at_short free_entry entries s))
field-entry f entries s i r at used is =
    let short = used-short entries s used in
    at_short-set free_entry entries s i (f r) at short (used-bound entries s short used)
    ∙ ap (λ (e : Entry). put (at_short free_entry entries) s (f e)) (used-here entries s i r at used is)

pub field-free : (entries : List Entry) (places : List ℕ) (size free s i : ℕ) (r e : Entry) → IsVacant entries places → length entries ≤ size
    → free + length entries ≡ size + length places → i ≡ s / 2 - 1 → is_used (at_short free_entry entries s).state ≡ true → r ≡ get_or entries i r
    → is_used e.state ≡ is_used r.state → size - length (slice_set entries i e) + count_by is_free (slice_set entries i e) ≡ size - length entries + count_by is_free entries
field-free entries places size free s i r e v within counted at used is stays =
    let same = length-set entries i e in
    free-is (slice_set entries i e) places size free (field-known entries places s i r e v at used is stays) (omega arith) (omega arith)
    ∙ sym (free-is entries places size free v within counted)
