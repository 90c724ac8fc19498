use Rattle.std.proofs.Common.{◌≡◌, ◌+◌, ◌≤◌, ◌*◌, ◌<◌, ℕ, ◌-◌, List, [], ◌∷◌, ◌++◌, length, slice_set, true, false, vec_len, ⊎_elim, count_by, refl, sym, ◌∙◌, ap, subst, arith}
use Rattle.std.proofs.Math.ListN.{length-set}
use Rattle.std.proofs.lemmas.List.{get_or_past, length_push}
use Rattle.std.proofs.lemmas.Bool.{cases_lt}
use Rattle.object_table.specs.declared.entry.Entry.{Entry}
use Rattle.object_table.specs.Inside.{IsVacant}
use Rattle.object_table.specs.Entries.{put, is_free, free_entry}
use Rattle.object_table.specs.Table.{entry_at, entries_of, free_of}
use Rattle.object_table.proofs.ShortLaws.{at_short, at_short-index, at_short-push, at_short-set, short-of}
use Rattle.object_table.proofs.VacantLaws.{count-push, free-is, none-if, used-free, vacant-more, vacant-take, vacant-top}
use Rattle.object_table.proofs.NoteLaws.{noted-set, noted-more}
use Rattle.object_table.proofs.table.Table.fill.Goals as goal

pub overflow_sub-self : goal.overflow_sub-self
unfolding free_of
overflow_sub-self c =
    let t = c.args.self.now in
    let is = free-is t.entries.items t.vacant.items t.size t.free t.known t.within t.counted in
    omega (arith, c.requires.some)

-- the free ones, the last of which is taken
split : (entries : List Entry) (places rest : List ℕ) (place : ℕ) → IsVacant entries places → places ≡ rest ++ place ∷ [] → IsVacant entries (rest ++ place ∷ [])
split entries places rest place v e = subst (λ (l : List ℕ). IsVacant entries l) e v

pub invariant_of-self : goal.invariant_of-self
invariant_of-self c =
    let t = c.args.self.now in
    let p = c.in-Some.place in
    let rest = c.pop.new.self.items in
    let v = split t.entries.items t.vacant.items rest p t.known c.in-Some.ensures.items in
    let size = length-set t.entries.items p c.args.e in
    let more = ap (λ (l : List ℕ). length l) c.in-Some.ensures.items in
    let one = length_push rest p in
    record {
      small = t.small;
      within = let within = t.within in omega arith;
      known = vacant-take t.entries.items rest p c.args.e v (used-free c.args.e c.requires.used);
      counted = let counted = t.counted in let within = t.within in omega arith;
      marks = noted-set t.entries.items t.listed.items t.noted.items p c.args.e t.marks (vacant-top t.entries.items rest p v).0 (λ h. absurd (clash (sym h ∙ c.requires.plain)));
      rooms = (t.rooms.0, omega (arith, t.rooms.1, c.pop.ensures.capacity), t.rooms.2, t.rooms.3);
    }
  where
    clash : true ≡ false → ⊥
    clash h = cc

pub returns-in-Some-clause-within : goal.returns-in-Some-clause-within
unfolding entries_of
returns-in-Some-clause-within c =
    let t = c.args.self.now in
    let low = (vacant-top t.entries.items c.pop.new.self.items c.in-Some.place (split t.entries.items t.vacant.items c.pop.new.self.items c.in-Some.place t.known c.in-Some.ensures.items)).0 in
    let within = t.within in
    omega arith

pub returns-in-Some-clause-was_free : goal.returns-in-Some-clause-was_free
unfolding entry_at
returns-in-Some-clause-was_free c =
    let t = c.args.self.now in
    ap is_free (at_short-index free_entry t.entries.items c.in-Some.place)
    ∙ (vacant-top t.entries.items c.pop.new.self.items c.in-Some.place (split t.entries.items t.vacant.items c.pop.new.self.items c.in-Some.place t.known c.in-Some.ensures.items)).1

pub returns-in-Some-clause-entry : goal.returns-in-Some-clause-entry
unfolding entry_at
returns-in-Some-clause-entry c =
    let t = c.args.self.now in
    let p = c.in-Some.place in
    let low = (vacant-top t.entries.items c.pop.new.self.items p (split t.entries.items t.vacant.items c.pop.new.self.items p t.known c.in-Some.ensures.items)).0 in
    at_short-set free_entry t.entries.items (2 * (p + 1)) p c.args.e (omega arith) (short-of p) (omega arith)

pub returns-in-Some-clause-free : goal.returns-in-Some-clause-free
unfolding free_of
returns-in-Some-clause-free c =
    let t = c.args.self.now in
    let p = c.in-Some.place in
    let rest = c.pop.new.self.items in
    let v = split t.entries.items t.vacant.items rest p t.known c.in-Some.ensures.items in
    let size = length-set t.entries.items p c.args.e in
    let more = ap (λ (l : List ℕ). length l) c.in-Some.ensures.items in
    let one = length_push rest p in
    let old = free-is t.entries.items t.vacant.items t.size t.free t.known t.within t.counted in
    let within = t.within in
    let counted = t.counted in
    let new = free-is (slice_set t.entries.items p c.args.e) rest t.size (t.free - 1) (vacant-take t.entries.items rest p c.args.e v (used-free c.args.e c.requires.used)) (omega arith) (omega arith) in
    omega (arith, c.requires.some)

pub returns-in-Some-clause-entries : goal.returns-in-Some-clause-entries
unfolding entries_of
returns-in-Some-clause-entries c = refl

-- ---- where no place is free again, there is one behind those that were ever in use

empty : (n : ℕ) → (0 < n → ⊥) → n ≡ 0
empty n none = ⊎_elim (λ (some : 0 < n). absurd (none some)) (λ (low : n ≤ 0). omega arith) (cases_lt 0 n)

nil : (l : List ℕ) → length l ≡ 0 → l ≡ []
nil [] e = refl
nil (x ∷ l) e = absurd (omega arith)

same : (entries : List Entry) (old new : List ℕ) → length old ≡ 0 → length new ≡ 0 → IsVacant entries old → IsVacant entries new
same entries old new e f v = subst (λ (l : List ℕ). IsVacant entries l) (nil old e ∙ sym (nil new f)) v

behind : (free entries size vacant some : ℕ) → some ≡ free → 0 < some → free + entries ≡ size + vacant → vacant ≡ 0 → entries < size
behind free entries size vacant some e more counted none = omega arith

pub push_reserved-requires : goal.push_reserved-requires
unfolding free_of
push_reserved-requires c =
    let t = c.args.self.now in
    let none = empty (vec_len t.vacant) (λ h. c.in_default.not-Some _ (c.pop.ensures.value 0 h)) in
    let low = behind t.free (length t.entries.items) t.size (length t.vacant.items) _ (free-is t.entries.items t.vacant.items t.size t.free t.known t.within t.counted) c.requires.some t.counted (sym t.vacant.ok.0 ∙ none) in
    let size = t.entries.ok.0 in
    omega (arith, t.rooms.0)

pub push_reserved-requires-2 : goal.push_reserved-requires-2
unfolding free_of
push_reserved-requires-2 c =
    let t = c.args.self.now in
    let none = empty (vec_len t.vacant) (λ h. c.in_default.not-Some _ (c.pop.ensures.value 0 h)) in
    let low = behind t.free (length t.entries.items) t.size (length t.vacant.items) _ (free-is t.entries.items t.vacant.items t.size t.free t.known t.within t.counted) c.requires.some t.counted (sym t.vacant.ok.0 ∙ none) in
    let lists = t.marks.size in
    let size = t.listed.ok.0 in
    omega (arith, t.rooms.3)

pub invariant_of-self-2 : goal.invariant_of-self-2
unfolding free_of
invariant_of-self-2 c =
    let t = c.args.self.now in
    let e = c.args.e in
    let none = empty (vec_len t.vacant) (λ h. c.in_default.not-Some _ (c.pop.ensures.value 0 h)) in
    let was : length t.vacant.items ≡ 0 = sym t.vacant.ok.0 ∙ none in
    let left = c.pop.ensures.len in
    let now : length c.pop.new.self.items ≡ 0 = omega (arith, c.pop.new.self.ok.0) in
    let low = behind t.free (length t.entries.items) t.size (length t.vacant.items) _ (free-is t.entries.items t.vacant.items t.size t.free t.known t.within t.counted) c.requires.some t.counted was in
    let size = ap (λ (l : List Entry). length l) c.push_reserved.ensures.items ∙ length_push t.entries.items e in
    let counted = t.counted in
    record {
      small = t.small;
      within = omega arith;
      known = rw c.push_reserved.ensures.items (vacant-more t.entries.items c.pop.new.self.items e (same t.entries.items t.vacant.items c.pop.new.self.items was now t.known) (used-free e c.requires.used));
      counted = omega arith;
      marks = rw c.push_reserved.ensures.items (rw c.push_reserved-2.ensures.items (noted-more t.entries.items t.listed.items t.noted.items e t.marks c.requires.plain));
      rooms = (omega (arith, t.rooms.0, c.push_reserved.ensures.capacity), omega (arith, t.rooms.1, c.pop.ensures.capacity), t.rooms.2, omega (arith, t.rooms.3, c.push_reserved-2.ensures.capacity));
    }

pub returns-clause-within : goal.returns-clause-within
unfolding entries_of free_of
returns-clause-within c =
    let t = c.args.self.now in
    let none = empty (vec_len t.vacant) (λ h. c.in_default.not-Some _ (c.pop.ensures.value 0 h)) in
    let low = behind t.free (length t.entries.items) t.size (length t.vacant.items) _ (free-is t.entries.items t.vacant.items t.size t.free t.known t.within t.counted) c.requires.some t.counted (sym t.vacant.ok.0 ∙ none) in
    let size = t.entries.ok.0 in
    omega (arith, c.len-place.ensures)

pub returns-clause-was_free : goal.returns-clause-was_free
unfolding entry_at
returns-clause-was_free c =
    let t = c.args.self.now in
    let at : c.len-place.result ≡ length t.entries.items = c.len-place.ensures ∙ t.entries.ok.0 in
    ap is_free (at_short-index free_entry t.entries.items c.len-place.result ∙ get_or_past t.entries.items c.len-place.result free_entry (omega arith))

pub returns-clause-entry : goal.returns-clause-entry
unfolding entry_at
returns-clause-entry c =
    let t = c.args.self.now in
    let at : c.len-place.result ≡ length t.entries.items = c.len-place.ensures ∙ t.entries.ok.0 in
    ap (λ (l : List Entry). at_short free_entry l) c.push_reserved.ensures.items ∙ at_short-push free_entry t.entries.items c.args.e
    ∙ ap (λ (z : ℕ). put (at_short free_entry t.entries.items) (2 * (z + 1)) c.args.e) (sym at)

pub returns-clause-free : goal.returns-clause-free
unfolding free_of
returns-clause-free c =
    let t = c.args.self.now in
    let e = c.args.e in
    let none = empty (vec_len t.vacant) (λ h. c.in_default.not-Some _ (c.pop.ensures.value 0 h)) in
    let was : length t.vacant.items ≡ 0 = sym t.vacant.ok.0 ∙ none in
    let low = behind t.free (length t.entries.items) t.size (length t.vacant.items) _ (free-is t.entries.items t.vacant.items t.size t.free t.known t.within t.counted) c.requires.some t.counted was in
    let size = ap (λ (l : List Entry). length l) c.push_reserved.ensures.items ∙ length_push t.entries.items e in
    let count = ap (λ (l : List Entry). count_by is_free l) c.push_reserved.ensures.items ∙ count-push is_free t.entries.items e in
    let one = none-if (is_free e) (used-free e c.requires.used) in
    omega arith

pub returns-clause-entries : goal.returns-clause-entries
unfolding entries_of
returns-clause-entries c = refl
