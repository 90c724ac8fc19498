-- How the places of the free entries change.
use Rattle.std.proofs.Common.{zero, suc, ◌≡◌, ◌≢◌, ℕ, ◌+◌, ◌-◌, ◌*◌, ◌/◌, ◌<◌, ◌≤◌, Bool, true, false, cond, List, [], ◌∷◌, ◌++◌, length, get_or, refl, sym, ◌∙◌, ap, subst, arith, ⊎_elim, count_by}
use Rattle.std.proofs.lemmas.Grind.{common_steps}
use Rattle.std.proofs.lemmas.Bool.{cases_lt}
use Rattle.std.proofs.lemmas.List.{get_or-set_same, get_or-set_other, get_or_append_left, get_or_push, get_or_past, length_push}
use Rattle.std.proofs.lemmas.List.Sums.{count_by-le-length}
use Rattle.std.proofs.Math.ListN.{length-set}
use Rattle.std.specs.List.{slice_set}
use Rattle.object_table.specs.declared.entry.Entry.{Entry}
use Rattle.object_table.specs.Entries.{is_short, is_used, is_free, free_entry}
use Rattle.object_table.specs.Inside.{ArePlain, IsVacant}
use Rattle.object_table.proofs.ShortLaws.{at_short, at_short-is, short-even}

-- ---- counts

pub count-cons : {X : Type 0} (p : X → Bool) (x : X) (xs : List X) → count_by p (x ∷ xs) ≡ cond (p x) 1 0 + count_by p xs
count-cons {X} p x xs = go (p x) refl
  where
    go : (b : Bool) → p x ≡ b → count_by p (x ∷ xs) ≡ cond (p x) 1 0 + count_by p xs
    go true e = grind (arith, common_steps)
    go false e = grind (arith, common_steps)

pub count-set : {X : Type 0} (p : X → Bool) (xs : List X) (i : ℕ) (y d : X) → i < length xs → count_by p (slice_set xs i y) + cond (p (get_or xs i d)) 1 0 ≡ count_by p xs + cond (p y) 1 0
count-set p [] i y d low = absurd (omega arith)
count-set p (x ∷ xs) zero y d low = omega (arith, count-cons p y xs, count-cons p x xs)
count-set p (x ∷ xs) (suc i) y d low = omega (arith, count-cons p x (slice_set xs i y), count-cons p x xs, count-set p xs i y d (omega arith))

pub count-push : {X : Type 0} (p : X → Bool) (xs : List X) (y : X) → count_by p (xs ++ y ∷ []) ≡ count_by p xs + cond (p y) 1 0
count-push p [] y = omega (arith, count-cons p y [])
count-push p (x ∷ xs) y = omega (arith, count-cons p x (xs ++ y ∷ []), count-cons p x xs, count-push p xs y)

pub one-if : (b : Bool) → b ≡ true → cond {A = ℕ} b 1 0 ≡ 1
one-if b e = ap (λ b. cond {A = ℕ} b 1 0) e

pub none-if : (b : Bool) → b ≡ false → cond {A = ℕ} b 1 0 ≡ 0
none-if b e = ap (λ b. cond {A = ℕ} b 1 0) e

-- ---- free and used

pub used-free : (e : Entry) → is_used e.state ≡ true → is_free e ≡ false
used-free e used = ap (λ b. cond b false true) used

apart-free : (entries : List Entry) (p k : ℕ) → is_free (get_or entries p free_entry) ≡ true → is_free (get_or entries k free_entry) ≡ false → p ≢ k
apart-free entries p k free used same = clash (sym free ∙ ap (λ (z : ℕ). is_free (get_or entries z free_entry)) same ∙ used)
  where
    clash : true ≡ false → ⊥
    clash h = cc

-- ---- the steps of a table

-- a place of a list that got one more at its end
pub pushed : (P : ℕ → Type 0) (places : List ℕ) (k j : ℕ) → j < length (places ++ k ∷ []) → P k → (j < length places → P (get_or places j 0)) → P (get_or (places ++ k ∷ []) j 0)
pushed P places k j h here there =
    let size = length_push places k in
    ⊎_elim
    (λ (low : j < length places). subst P (sym (get_or_append_left places (k ∷ []) 0 j low)) (there low))
    (λ (past : length places ≤ j). subst P (sym (get_or_push places k 0 j (omega arith))) here)
    (cases_lt j (length places))

pub vacant-none : IsVacant [] []
vacant-none = record {
  within = λ k low. absurd (omega arith);
  free = λ k low. absurd (omega arith);
  apart = λ j k low low'. absurd (omega arith);
  counted = refl;
}

pub vacant-set : (entries : List Entry) (places : List ℕ) (k : ℕ) (e : Entry) → IsVacant entries places → k < length entries
    → is_free (get_or entries k free_entry) ≡ false → is_free e ≡ false → IsVacant (slice_set entries k e) places
vacant-set entries places k e v low was now = record {
  within = λ j h. let size = length-set entries k e in let here = v.within j h in omega arith;
  free = λ j h. ap is_free (get_or-set_other entries k (get_or places j 0) e free_entry (apart-free entries (get_or places j 0) k (v.free j h) was)) ∙ v.free j h;
  apart = v.apart;
  counted = let step = count-set is_free entries k e free_entry low in let a = none-if _ was in let b = none-if _ now in let all = v.counted in omega arith;
}

-- the last of the places
pub vacant-top : (entries : List Entry) (places : List ℕ) (place : ℕ) → IsVacant entries (places ++ place ∷ [])
    → (place < length entries) × (is_free (get_or entries place free_entry) ≡ true)
vacant-top entries places place v =
    let size = length_push places place in
    let last : get_or (places ++ place ∷ []) (length places) 0 ≡ place = get_or_push places place 0 (length places) refl in (
      subst (λ (z : ℕ). z < length entries) last (v.within (length places) (omega arith)),
      subst (λ (z : ℕ). is_free (get_or entries z free_entry) ≡ true) last (v.free (length places) (omega arith)),
    )

pub vacant-take : (entries : List Entry) (places : List ℕ) (place : ℕ) (e : Entry) → IsVacant entries (places ++ place ∷ []) → is_free e ≡ false
    → IsVacant (slice_set entries place e) places
vacant-take entries places place e v now =
    let top = vacant-top entries places place v in
    let size = length-set entries place e in
    let more = length_push places place in
    record {
      within = λ k low. let here = subst (λ (z : ℕ). z < length entries) (left k low) (v.within k (omega arith)) in omega arith;
      free = λ k low. ap is_free (get_or-set_other entries place (get_or places k 0) e free_entry (away k low))
          ∙ subst (λ (z : ℕ). is_free (get_or entries z free_entry) ≡ true) (left k low) (v.free k (omega arith));
      apart = λ j k low low' same. v.apart j k low (omega arith) (left j (omega arith) ∙ same ∙ sym (left k low'));
      counted = let step = count-set is_free entries place e free_entry top.0 in let a = one-if _ top.1 in let b = none-if _ now in let all = v.counted in omega arith;
    }
  where
    left : (k : ℕ) → k < length places → get_or (places ++ place ∷ []) k 0 ≡ get_or places k 0
    left k low = get_or_append_left places (place ∷ []) 0 k low

    away : (k : ℕ) → k < length places → get_or places k 0 ≢ place
    away k low same =
        let more = length_push places place in
        v.apart k (length places) low (omega arith) (left k low ∙ same ∙ sym (get_or_push places place 0 (length places) refl))

-- an entry behind all others
pub vacant-more : (entries : List Entry) (places : List ℕ) (e : Entry) → IsVacant entries places → is_free e ≡ false → IsVacant (entries ++ e ∷ []) places
vacant-more entries places e v now =
    let size = length_push entries e in
    record {
      within = λ k low. let here = v.within k low in omega arith;
      free = λ k low. ap is_free (get_or_append_left entries (e ∷ []) free_entry (get_or places k 0) (v.within k low)) ∙ v.free k low;
      apart = v.apart;
      counted = let step = count-push is_free entries e in let a = none-if _ now in let all = v.counted in omega arith;
    }

pub vacant-most : (entries : List Entry) (places : List ℕ) → IsVacant entries places → length places ≤ length entries
vacant-most entries places v = let most = count_by-le-length is_free entries in let all = v.counted in omega arith

pub vacant-room : (entries : List Entry) (places : List ℕ) (k : ℕ) → IsVacant entries places → k < length entries
    → is_free (get_or entries k free_entry) ≡ false → length places < length entries
vacant-room entries places k v low was =
    let step = count-set is_free entries k free_entry free_entry low in
    let a = none-if _ was in
    let most = count_by-le-length is_free (slice_set entries k free_entry) in
    let size = length-set entries k free_entry in
    let all = v.counted in
    omega arith

pub vacant-give : (entries : List Entry) (places : List ℕ) (k : ℕ) → IsVacant entries places → k < length entries
    → is_free (get_or entries k free_entry) ≡ false → IsVacant (slice_set entries k free_entry) (places ++ k ∷ [])
vacant-give entries places k v low was = record {
  within = λ j h. subst (λ (z : ℕ). get_or (places ++ k ∷ []) j 0 < z) (sym (length-set entries k free_entry))
      (pushed (λ p. p < length entries) places k j h low (λ h'. v.within j h'));
  free = λ j h. pushed (λ p. is_free (get_or (slice_set entries k free_entry) p free_entry) ≡ true) places k j h
      (ap is_free (get_or-set_same entries k free_entry free_entry low))
      (λ h'. ap is_free (get_or-set_other entries k (get_or places j 0) free_entry free_entry (apart-free entries (get_or places j 0) k (v.free j h') was)) ∙ v.free j h');
  apart = λ i j h h'. let more = length_push places k in
      subst (λ (z : ℕ). z ≢ get_or (places ++ k ∷ []) j 0) (sym (get_or_append_left places (k ∷ []) 0 i (omega arith)))
      (pushed (λ p. get_or places i 0 ≢ p) places k j h' (apart-free entries (get_or places i 0) k (v.free i (omega arith)) was) (λ h''. v.apart i j h h''));
  counted = let step = count-set is_free entries k free_entry free_entry low in let a = none-if _ was in let more = length_push places k in let all = v.counted in omega arith;
}

-- entries that are free where others are
pub count-same : (xs ys : List Entry) → length xs ≡ length ys → ((k : ℕ) → is_free (get_or xs k free_entry) ≡ is_free (get_or ys k free_entry)) → count_by is_free xs ≡ count_by is_free ys
count-same [] [] e same = refl
count-same [] (y ∷ ys) e same = absurd (omega arith)
count-same (x ∷ xs) [] e same = absurd (omega arith)
count-same (x ∷ xs) (y ∷ ys) e same =
    let first : cond {A = ℕ} (is_free x) 1 0 ≡ cond (is_free y) 1 0 = ap (λ b. cond {A = ℕ} b 1 0) (same 0) in
    omega (arith, count-cons is_free x xs, count-cons is_free y ys, count-same xs ys (omega arith) (λ k. same (suc k)))

pub vacant-plain : (old new : List Entry) (places : List ℕ) → ArePlain old new → IsVacant old places → IsVacant new places
vacant-plain old new places p v = record {
  within = λ k low. let here = v.within k low in let size = p.size in omega arith;
  free = λ k low. same (get_or places k 0) ∙ v.free k low;
  apart = v.apart;
  counted = count-same new old p.size same ∙ v.counted;
}
  where
    same : (k : ℕ) → is_free (get_or new k free_entry) ≡ is_free (get_or old k free_entry)
    same k = ap is_free (p.plain k)

-- ---- how many are free

pub free-is : (entries : List Entry) (places : List ℕ) (size free : ℕ) → IsVacant entries places → length entries ≤ size
    → free + length entries ≡ size + length places → size - length entries + count_by is_free entries ≡ free
free-is entries places size free v within counted = let all = v.counted in omega arith

-- ---- the same by short words

-- a short name that is in use names an entry of the list
pub used-within : (entries : List Entry) (s i : ℕ) → i ≡ s / 2 - 1 → is_short s ≡ true → is_used (at_short free_entry entries s).state ≡ true → i < length entries
used-within entries s i e short used = ⊎_elim
    (λ (low : i < length entries). low)
    (λ (past : length entries ≤ i). absurd (clash (sym used ∙ ap (λ (x : Entry). is_used x.state) (at_short-is free_entry entries s i e short ∙ get_or_past entries i free_entry past))))
    (cases_lt i (length entries))
  where
    clash : true ≡ false → ⊥
    clash h = cc

pub used-bound : (entries : List Entry) (s : ℕ) → is_short s ≡ true → is_used (at_short free_entry entries s).state ≡ true → s < 2 * length entries + 2
used-bound entries s short used =
    let parts = short-even s short in
    let low = used-within entries s (s / 2 - 1) refl short used in
    omega (arith, parts.0, parts.1)

-- the entry of a short name that is in use, in its list
pub used-at : (entries : List Entry) (s i : ℕ) → i ≡ s / 2 - 1 → is_short s ≡ true → is_used (at_short free_entry entries s).state ≡ true
    → is_free (get_or entries i free_entry) ≡ false
used-at entries s i e short used = ap is_free (sym (at_short-is free_entry entries s i e short)) ∙ used-free (at_short free_entry entries s) used

pub known-set : (entries : List Entry) (places : List ℕ) (s i : ℕ) (e : Entry) → IsVacant entries places → i ≡ s / 2 - 1 → is_short s ≡ true
    → is_used (at_short free_entry entries s).state ≡ true → is_used e.state ≡ true → IsVacant (slice_set entries i e) places
known-set entries places s i e v at short used stays =
    vacant-set entries places i e v (used-within entries s i at short used) (used-at entries s i at short used) (used-free e stays)

pub known-room : (entries : List Entry) (places : List ℕ) (s i : ℕ) → IsVacant entries places → i ≡ s / 2 - 1 → is_short s ≡ true
    → is_used (at_short free_entry entries s).state ≡ true → length places < length entries
known-room entries places s i v at short used = vacant-room entries places i v (used-within entries s i at short used) (used-at entries s i at short used)

pub known-give : (entries : List Entry) (places : List ℕ) (s i : ℕ) → IsVacant entries places → i ≡ s / 2 - 1 → is_short s ≡ true
    → is_used (at_short free_entry entries s).state ≡ true → IsVacant (slice_set entries i free_entry) (places ++ i ∷ [])
known-give entries places s i v at short used =
    vacant-give entries places i v (used-within entries s i at short used) (used-at entries s i at short used)
