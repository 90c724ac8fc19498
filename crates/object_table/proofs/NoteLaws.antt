-- How the places of marked entries change.
use Rattle.std.proofs.Common.{suc, ◌≡◌, ◌≢◌, ℕ, ◌+◌, ◌<◌, ◌≤◌, ◌==◌, Bool, true, false, cond, List, [], ◌∷◌, ◌++◌, length, get_or, drop, refl, sym, ◌∙◌, ap, subst, arith, ⊎_elim, count_by}
use Rattle.std.proofs.lemmas.Grind.{common_steps}
use Rattle.std.proofs.lemmas.Bool.{cases_eq, cases_lt}
use Rattle.std.proofs.lemmas.List.{get_or-set_same, get_or-set_other, get_or_append_left, get_or_default, drop_all, get_or_push, get_or_past, length_push}
use Rattle.std.proofs.lemmas.List.Sums.{count_by-le-length}
use Rattle.std.proofs.Math.ListN.{length-set}
use Rattle.std.proofs.Math.Seq.{drop-cons}
use Rattle.std.specs.List.{slice_set}
use Rattle.object_table.specs.declared.entry.Entry.{Entry}
use Rattle.object_table.specs.Entries.{free_entry, with_no_mark}
use Rattle.object_table.specs.Inside.{ArePlain, IsNoted, names, yes}
use Rattle.object_table.proofs.VacantLaws.{count-set, count-push, none-if, pushed}

clash : true ≡ false → ⊥
clash h = cc

pub noted-none : IsNoted [] [] []
noted-none = record {
  size = refl;
  every = λ k h. absurd (clash (sym h));
  named = λ k h. absurd (clash (sym h));
  within = λ j low. absurd (omega arith);
  few = refl;
}

names-cons : (p k : ℕ) (ps : List ℕ) → names ps k ≡ true → names (p ∷ ps) k ≡ true
names-cons p k ps h = grind (arith, common_steps)

names-first : (k : ℕ) (ps : List ℕ) → names (k ∷ ps) k ≡ true
names-first k ps = grind (arith, common_steps)

names-either : (q p k : ℕ) (qs ps : List ℕ) → (names qs k ≡ true → names ps k ≡ true) → names (q ∷ qs) k ≡ true → names (q ∷ ps) k ≡ true
names-either q p k qs ps rest h = go (q == k) refl
  where
    go : (b : Bool) → (q == k) ≡ b → names (q ∷ ps) k ≡ true
    go true e = ap (λ b. cond b true (names ps k)) e
    go false e = ap (λ b. cond b true (names ps k)) e ∙ rest (sym (ap (λ b. cond b true (names qs k)) e) ∙ h)

names-pushed : (ps : List ℕ) (p k : ℕ) → names ps k ≡ true → names (ps ++ p ∷ []) k ≡ true
names-pushed [] p k h = absurd (clash (sym h))
names-pushed (q ∷ qs) p k h = names-either q p k qs (qs ++ p ∷ []) (names-pushed qs p k) h

names-last : (ps : List ℕ) (k : ℕ) → names (ps ++ k ∷ []) k ≡ true
names-last [] k = names-first k []
names-last (q ∷ qs) k = names-cons q k (qs ++ k ∷ []) (names-last qs k)

-- an entry changes that is not marked then, or is listed
pub noted-set : (entries : List Entry) (listed : List Bool) (places : List ℕ) (i : ℕ) (e : Entry) → IsNoted entries listed places → i < length entries
    → (e.flags.marked ≡ true → get_or listed i false ≡ true) → IsNoted (slice_set entries i e) listed places
noted-set entries listed places i e v low is = record {
  size = v.size ∙ sym (length-set entries i e);
  every = λ k. ⊎_elim
      (λ (same : k ≡ i). subst (λ (z : ℕ). (get_or (slice_set entries i e) z free_entry).flags.marked ≡ true → get_or listed z false ≡ true) (sym same)
      (λ h. is (sym (ap (λ (x : Entry). x.flags.marked) (get_or-set_same entries i e free_entry low)) ∙ h)))
      (λ (away : k ≢ i). λ h. v.every k (sym (ap (λ (x : Entry). x.flags.marked) (get_or-set_other entries i k e free_entry away)) ∙ h))
      (cases_eq k i);
  named = v.named;
  within = λ j h. let size = length-set entries i e in let here = v.within j h in omega arith;
  few = v.few;
}

-- a place is noted
pub noted-room : (entries : List Entry) (listed : List Bool) (places : List ℕ) (i : ℕ) → IsNoted entries listed places → i < length entries
    → get_or listed i false ≡ false → length places < length entries
noted-room entries listed places i v low new =
    let size = v.size in
    let step = count-set yes listed i true false (omega arith) in
    let a = none-if _ new in
    let most = count_by-le-length yes (slice_set listed i true) in
    let all = v.few in
    let same = length-set listed i true in
    omega arith

pub noted-add : (entries : List Entry) (listed : List Bool) (places : List ℕ) (i : ℕ) → IsNoted entries listed places → i < length entries
    → get_or listed i false ≡ false → IsNoted entries (slice_set listed i true) (places ++ i ∷ [])
noted-add entries listed places i v low new = record {
  size = length-set listed i true ∙ v.size;
  every = λ k h. ⊎_elim
      (λ (same : k ≡ i). here k same)
      (λ (away : k ≢ i). get_or-set_other listed i k true false away ∙ v.every k h)
      (cases_eq k i);
  named = λ k h. ⊎_elim
      (λ (same : k ≡ i). subst (λ (z : ℕ). names (places ++ i ∷ []) z ≡ true) (sym same) (names-last places i))
      (λ (away : k ≢ i). names-pushed places i k (v.named k (sym (get_or-set_other listed i k true false away) ∙ h)))
      (cases_eq k i);
  within = λ j h. pushed (λ p. p < length entries) places i j h low (λ h'. v.within j h');
  few =
      let size = v.size in
      let step = count-set yes listed i true false (omega arith) in
      let a = none-if _ new in
      let more = length_push places i in
      let all = v.few in
      omega arith;
}
  where
    here : (k : ℕ) → k ≡ i → get_or (slice_set listed i true) k false ≡ true
    here k same = let size = v.size in
        subst (λ (z : ℕ). get_or (slice_set listed i true) z false ≡ true) (sym same) (get_or-set_same listed i true false (omega arith))

-- an entry behind all others, which isn't marked
pub noted-more : (entries : List Entry) (listed : List Bool) (places : List ℕ) (e : Entry) → IsNoted entries listed places → e.flags.marked ≡ false
    → IsNoted (entries ++ e ∷ []) (listed ++ false ∷ []) places
noted-more entries listed places e v plain = record {
  size = let a = length_push entries e in let b = length_push listed false in let size = v.size in omega arith;
  every = λ k h. more k (v.every k (fewer k h));
  named = λ k h. v.named k (less k h);
  within = λ j h. let size = length_push entries e in let here = v.within j h in omega arith;
  few = let step = count-push yes listed false in let all = v.few in omega arith;
}
  where
    -- of no entry is more known than before
    fewer : (k : ℕ) → (get_or (entries ++ e ∷ []) k free_entry).flags.marked ≡ true → (get_or entries k free_entry).flags.marked ≡ true
    fewer k h = ⊎_elim
        (λ (low : k < length entries). sym (ap (λ (x : Entry). x.flags.marked) (get_or_append_left entries (e ∷ []) free_entry k low)) ∙ h)
        (λ (past : length entries ≤ k). absurd (⊎_elim
        (λ (at : k ≡ length entries). clash (sym h ∙ ap (λ (x : Entry). x.flags.marked) (get_or_push entries e free_entry k (sym at)) ∙ plain))
        (λ (away : k ≢ length entries). clash (sym h ∙ ap (λ (x : Entry). x.flags.marked) (get_or_past (entries ++ e ∷ []) k free_entry (let a = length_push entries e in omega arith))))
        (cases_eq k (length entries))))
        (cases_lt k (length entries))

    more : (k : ℕ) → get_or listed k false ≡ true → get_or (listed ++ false ∷ []) k false ≡ true
    more k h = ⊎_elim
        (λ (low : k < length listed). get_or_append_left listed (false ∷ []) false k low ∙ h)
        (λ (past : length listed ≤ k). absurd (clash (sym h ∙ get_or_past listed k false past)))
        (cases_lt k (length listed))

    less : (k : ℕ) → get_or (listed ++ false ∷ []) k false ≡ true → get_or listed k false ≡ true
    less k h = ⊎_elim
        (λ (low : k < length listed). sym (get_or_append_left listed (false ∷ []) false k low) ∙ h)
        (λ (past : length listed ≤ k). absurd (⊎_elim
        (λ (at : k ≡ length listed). clash (sym h ∙ get_or_push listed false false k (sym at)))
        (λ (away : k ≢ length listed). clash (sym h ∙ get_or_past (listed ++ false ∷ []) k false (let a = length_push listed false in omega arith)))
        (cases_eq k (length listed))))
        (cases_lt k (length listed))

-- ---- the marks of the first places are gone

pub record IsLeft (old entries : List Entry) (listed : List Bool) (places : List ℕ) (i : ℕ) : Type 0 where
  pub size : length entries ≡ length old
  pub lists : length listed ≡ length entries
  pub plain : (k : ℕ) → with_no_mark (get_or entries k free_entry) ≡ with_no_mark (get_or old k free_entry)
  pub every : (k : ℕ) → (get_or entries k free_entry).flags.marked ≡ true → get_or listed k false ≡ true
  pub named : (k : ℕ) → get_or listed k false ≡ true → names (drop i places) k ≡ true

pub left-begin : (entries : List Entry) (listed : List Bool) (places : List ℕ) → IsNoted entries listed places → IsLeft entries entries listed places 0
left-begin entries listed places v = record { size = refl; lists = v.size; plain = λ k. refl; every = v.every; named = v.named }

names-rest : (p k : ℕ) (ps : List ℕ) → k ≢ p → names (p ∷ ps) k ≡ true → names ps k ≡ true
names-rest p k ps away h = ⊎_elim
    (λ (same : p ≡ k). absurd (away (sym same)))
    (λ (other : p ≢ k). sym (grind (arith, common_steps)) ∙ h)
    (cases_eq p k)

pub left-step : (old entries : List Entry) (listed : List Bool) (places : List ℕ) (i p : ℕ) (e : Entry) → IsLeft old entries listed places i → i < length places
    → p ≡ get_or places i p → p < length entries → e ≡ get_or entries p e → IsLeft old (slice_set entries p (with_no_mark e)) (slice_set listed p false) places (i + 1)
left-step old entries listed places i p e v more at low is = record {
  size = length-set entries p (with_no_mark e) ∙ v.size;
  lists = length-set listed p false ∙ v.lists ∙ sym (length-set entries p (with_no_mark e));
  plain = λ k. ⊎_elim
      (λ (same : k ≡ p). here k same)
      (λ (away : k ≢ p). ap with_no_mark (get_or-set_other entries p k (with_no_mark e) free_entry away) ∙ v.plain k)
      (cases_eq k p);
  every = λ k h. ⊎_elim
      (λ (same : k ≡ p). absurd (gone k same h))
      (λ (away : k ≢ p). get_or-set_other listed p k false false away ∙ v.every k (sym (ap (λ (x : Entry). x.flags.marked) (get_or-set_other entries p k (with_no_mark e) free_entry away)) ∙ h))
      (cases_eq k p);
  named = λ k h. ⊎_elim
      (λ (same : k ≡ p). absurd (unlisted k same h))
      (λ (away : k ≢ p). names-rest p k (drop (i + 1) places) away
      (sym (ap (λ (l : List ℕ). names l k) next) ∙ v.named k (sym (get_or-set_other listed p k false false away) ∙ h)))
      (cases_eq k p);
}
  where
    next : drop i places ≡ p ∷ drop (i + 1) places
    next = drop-cons places i p more ∙ ap (λ (z : ℕ). z ∷ drop (suc i) places) (sym at) ∙ ap (λ (z : ℕ). p ∷ drop z places) (let e : suc i ≡ i + 1 = omega arith in e)

    there : e ≡ get_or entries p free_entry
    there = is ∙ get_or_default entries p e free_entry low

    here : (k : ℕ) → k ≡ p → with_no_mark (get_or (slice_set entries p (with_no_mark e)) k free_entry) ≡ with_no_mark (get_or old k free_entry)
    here k same = subst (λ (z : ℕ). with_no_mark (get_or (slice_set entries p (with_no_mark e)) z free_entry) ≡ with_no_mark (get_or old z free_entry)) (sym same)
        (ap with_no_mark (get_or-set_same entries p (with_no_mark e) free_entry low) ∙ ap with_no_mark there ∙ v.plain p)

    gone : (k : ℕ) → k ≡ p → (get_or (slice_set entries p (with_no_mark e)) k free_entry).flags.marked ≡ true → ⊥
    gone k same h = clash (sym h ∙ ap (λ (z : ℕ). (get_or (slice_set entries p (with_no_mark e)) z free_entry).flags.marked) same
        ∙ ap (λ (x : Entry). x.flags.marked) (get_or-set_same entries p (with_no_mark e) free_entry low))

    unlisted : (k : ℕ) → k ≡ p → get_or (slice_set listed p false) k false ≡ true → ⊥
    unlisted k same h = let lists = v.lists in
        clash (sym h ∙ ap (λ (z : ℕ). get_or (slice_set listed p false) z false) same ∙ get_or-set_same listed p false false (omega arith))

count-none : (bs : List Bool) → ((k : ℕ) → get_or bs k false ≡ true → ⊥) → count_by yes bs ≡ 0
count-none [] none = refl
count-none (true ∷ bs) none = absurd (none 0 refl)
count-none (false ∷ bs) none = count-none bs (λ k. none (suc k))

unmarked : (e : Entry) → (e.flags.marked ≡ true → ⊥) → e ≡ with_no_mark e
unmarked e none = ap (λ (b : Bool). record e { flags = record e.flags { marked = b } }) (off e.flags.marked none)
  where
    off : (b : Bool) → (b ≡ true → ⊥) → b ≡ false
    off true h = absurd (h refl)
    off false h = refl

pub left-end : (old entries : List Entry) (listed : List Bool) (places : List ℕ) (i : ℕ) → IsLeft old entries listed places i → length places ≤ i
    → ArePlain old entries × IsNoted entries listed []
left-end old entries listed places i v all = (
  record { size = v.size; plain = λ k. unmarked (get_or entries k free_entry) (λ h. none k (v.every k h)) ∙ v.plain k },
  record {
    size = v.lists;
    every = v.every;
    named = λ k h. absurd (none k h);
    within = λ j low. absurd (omega arith);
    few = count-none listed none;
  },
)
  where
    none : (k : ℕ) → get_or listed k false ≡ true → ⊥
    none k h = clash (sym (v.named k h) ∙ ap (λ (l : List ℕ). names l k) (drop_all i places all))
