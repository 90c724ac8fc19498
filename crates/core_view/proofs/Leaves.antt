-- Entries that are taken and freed: the held heap stays.
use Rattle.std.proofs.Common.{◌≡◌, ◌≢◌, ℕ, ◌<◌, ◌≤◌, true, false, length, refl, sym, ◌∙◌, ap, subst, arith, ⊎_elim, Some, None, count_by, zero, suc}
use Rattle.std.proofs.lemmas.Bool.{cases_eq}
use Rattle.long_names.specs.Words.{literal_count}
use Rattle.object_table.specs.declared.entry.Entry.{Entry}
use Rattle.object_table.specs.Entries.{put, is_short, is_used, place_of, free_entry, leaf_entry}
use Rattle.core_segment.specs.Chunks.{Chunk}
use Rattle.core_view.specs.Core.{Core, with_leaf, without_leaf}
use Rattle.core_view.specs.Words.{words_for, most_len, header_in}
use Rattle.core_view.specs.Held.{Disk, held}
use Rattle.core_view.specs.Counts.{names, holders_in, holders, tally, uses, outside}
use Rattle.core_view.specs.Kept.{IsCore, IsBody, IsBacked}
use Rattle.core_view.specs.Steps.{IsSpare, IsIdle}
use Rattle.core_view.proofs.Lists.{put-here, put-there, tally-same}
use Rattle.core_view.proofs.Core.{free-unplaced, other-name, used-live, held-same, held-leaf, held-absent, AreOthersSame, SameNames, object-same, body-same}
use Rattle.core_view.proofs.Entries.{at-entry}

-- ---- a new leaf

-- who is found otherwise is found as before
leaf-find : (c : Core) (s n m q : ℕ) → q ≢ s → (put c.find n (Some s)) m ≡ Some q → c.find m ≡ Some q
leaf-find c s n m q away e = ⊎_elim (λ (h : m ≡ n). absurd (away (some (sym e ∙ ap (put c.find n (Some s)) h ∙ put-here c.find n (Some s))))) (λ (h : m ≢ n). sym (put-there c.find n (Some s) m h) ∙ e) (cases_eq m n)
  where
    some : Some q ≡ Some s → q ≡ s
    some h = cc

leaf-uses : (c : Core) (s n t : ℕ) → IsCore c → IsSpare c s n → uses (with_leaf c s n) t ≡ uses c t
unfolding uses holders
leaf-uses c s n t core spare = tally-same c.bound (holders c) (holders (with_leaf c s n)) t (λ q low. ap (λ xs. count_by (names t) xs) (at-entry c.entries s (leaf_entry n) (λ q x. holders_in c.chunks x (place_of x.state) ≡ holders_in c.chunks (c.entries q) (place_of (c.entries q).state))
    (sym (ap (λ o. holders_in c.chunks (c.entries s) o) (free-unplaced (c.entries s).state spare.unused))) (λ q away. refl) q))

pub leaf-core : (c : Core) (s n : ℕ) → IsCore c → IsSpare c s n → IsCore (with_leaf c s n)
leaf-core c s n core spare = record {
  found = at-entry c.entries s (leaf_entry n) (λ q x. is_used x.state ≡ true → (put c.find n (Some s)) x.name ≡ Some q) (λ is. put-here c.find n (Some s)) (λ q away is. put-there c.find n (Some s) (c.entries q).name (λ same. other q is same) ∙ core.found q is);
  used = λ m. at-entry c.entries s (leaf_entry n) (λ q x. (put c.find n (Some s)) m ≡ Some q → is_used x.state ≡ true) (λ f. refl) (λ q away f. core.used m q (leaf-find c s n m q away f));
  named = λ m. at-entry c.entries s (leaf_entry n) (λ q x. (put c.find n (Some s)) m ≡ Some q → x.name ≡ m) (λ f. here m f) (λ q away f. core.named m q (leaf-find c s n m q away f));
  low = core.low;
  short = at-entry c.entries s (leaf_entry n) (λ q x. is_used x.state ≡ true → is_short q ≡ true) (λ is. spare.short) (λ q away. core.short q);
  within = at-entry c.entries s (leaf_entry n) (λ q x. is_used x.state ≡ true → q < c.bound) (λ is. spare.within) (λ q away. core.within q);
  owned = at-entry c.entries s (leaf_entry n) (λ q x. (p : ℕ) → place_of x.state ≡ Some p → (c.chunks p).owner ≡ q) (λ p at. cc) (λ q away. core.owned q);
  long = at-entry c.entries s (leaf_entry n) (λ q x. (p : ℕ) → place_of x.state ≡ Some p → length (c.chunks p).words ≡ words_for x.kind x.len (literal_count (header_in (c.chunks p).words))) (λ p at. cc) (λ q away. core.long q);
  small = at-entry c.entries s (leaf_entry n) (λ q x. (p : ℕ) → place_of x.state ≡ Some p → x.len ≤ most_len x.kind) (λ p at. cc) (λ q away. core.small q);
  classed = at-entry c.entries s (leaf_entry n) (λ q x. (p : ℕ) → place_of x.state ≡ Some p → is_short x.class.0 ≡ true) (λ p at. cc) (λ q away. core.classed q);
  counted = at-entry c.entries s (leaf_entry n) (λ q x. uses (with_leaf c s n) q ≤ x.refs) (let all = leaf-uses c s n s core spare in let most = core.counted s in let none = core.free s spare.unused in omega arith) (λ q away. let all = leaf-uses c s n q core spare in let most = core.counted q in omega arith);
  free = at-entry c.entries s (leaf_entry n) (λ q x. is_used x.state ≡ false → x.refs ≡ 0) (λ is. refl) (λ q away. core.free q);
}
  where
    other : (q : ℕ) → is_used (c.entries q).state ≡ true → (c.entries q).name ≡ n → ⊥
    other q is same = let e = core.found q is in let f : c.find (c.entries q).name ≡ None = ap c.find same ∙ spare.absent in absurd (cc)

    here : (m : ℕ) → (put c.find n (Some s)) m ≡ Some s → n ≡ m
    here m f = ⊎_elim (λ (h : m ≡ n). sym h) (λ (h : m ≢ n). let e : c.find m ≡ Some s = sym (put-there c.find n (Some s) m h) ∙ f in let on = core.used m s e in let off = spare.unused in absurd (cc)) (cases_eq m n)

leaf-names : (c : Core) (s n : ℕ) → IsCore c → IsSpare c s n → SameNames c (with_leaf c s n)
leaf-names c s n core spare t some = ap (λ (x : Entry). x.name) (put-there c.entries s (leaf_entry n) t (λ same. let on = used-live c core t some in let off : is_used (c.entries t).state ≡ false = subst (λ (z : ℕ). is_used (c.entries z).state ≡ false) (sym same) spare.unused in absurd (cc)))

pub leaf-held : (c : Core) (disk : Disk) (s n : ℕ) → IsCore c → IsSpare c s n → held (with_leaf c s n) disk ≡ held c disk
leaf-held c disk s n core spare = held-same c (with_leaf c s n) disk disk n others (held-leaf (with_leaf c s n) disk n s (put-here c.find n (Some s)) (ap (λ (x : Entry). place_of x.state) (put-here c.entries s (leaf_entry n))) ∙ sym (held-absent c disk n spare.absent))
  where
    others : AreOthersSame c (with_leaf c s n) disk disk n
    others = record {
      find = λ m away. put-there c.find n (Some s) m away;
      disks = λ m away. refl;
      entries = λ m q away f. put-there c.entries s (leaf_entry n) q (λ same. let on = core.used m q f in let off : is_used (c.entries q).state ≡ false = subst (λ (z : ℕ). is_used (c.entries z).state ≡ false) (sym same) spare.unused in absurd (cc));
      objects = λ m q p away f at. object-same c (with_leaf c s n) disk disk core q p at (leaf-names c s n core spare) refl refl;
    }

pub leaf-backed : (c : Core) (disk : Disk) (s n : ℕ) → IsCore c → IsBacked c disk → IsSpare c s n → IsBacked (with_leaf c s n) disk
leaf-backed c disk s n core backed spare = record {
  body = at-entry c.entries s (leaf_entry n) (λ q x. (p : ℕ) → place_of x.state ≡ Some p → IsBody (with_leaf c s n) disk x p) (λ p at. cc)
      (λ q away p at. body-same c (with_leaf c s n) disk disk (c.entries q) p (backed.body q p at) (object-same c (with_leaf c s n) disk disk core q p at (leaf-names c s n core spare) refl refl) refl refl);
}

pub leaf-outside : (c : Core) (s n t : ℕ) → IsCore c → IsSpare c s n → outside (with_leaf c s n) t ≡ outside c t
unfolding outside
leaf-outside c s n t core spare =
    let all = leaf-uses c s n t core spare in
    let refs : (put c.entries s (leaf_entry n) t).refs ≡ (c.entries t).refs = at-entry c.entries s (leaf_entry n) (λ q x. x.refs ≡ (c.entries q).refs) (sym (core.free s spare.unused)) (λ q away. refl) t in
    omega arith

-- ---- a leaf that is freed

idle-find : (c : Core) (n m q : ℕ) → (put c.find n None) m ≡ Some q → c.find m ≡ Some q × (m ≢ n)
idle-find c n m q e = ⊎_elim (λ (h : m ≡ n). let none : (put c.find n None) m ≡ None = ap (put c.find n None) h ∙ put-here c.find n None in absurd (cc)) (λ (h : m ≢ n). (sym (put-there c.find n None m h) ∙ e, h)) (cases_eq m n)

idle-uses : (c : Core) (s n t : ℕ) → IsCore c → IsIdle c s n → uses (without_leaf c s n) t ≡ uses c t
unfolding uses holders
idle-uses c s n t core idle = tally-same c.bound (holders c) (holders (without_leaf c s n)) t (λ q low. ap (λ xs. count_by (names t) xs) (at-entry c.entries s free_entry (λ q x. holders_in c.chunks x (place_of x.state) ≡ holders_in c.chunks (c.entries q) (place_of (c.entries q).state))
    (sym (ap (λ o. holders_in c.chunks (c.entries s) o) idle.leaf)) (λ q away. refl) q))

pub idle-core : (c : Core) (s n : ℕ) → IsCore c → IsIdle c s n → IsCore (without_leaf c s n)
idle-core c s n core idle = record {
  found = at-entry c.entries s free_entry (λ q x. is_used x.state ≡ true → (put c.find n None) x.name ≡ Some q) (λ is. cc) (λ q away is. put-there c.find n None (c.entries q).name (other q away is) ∙ core.found q is);
  used = λ m. at-entry c.entries s free_entry (λ q x. (put c.find n None) m ≡ Some q → is_used x.state ≡ true) (λ f. absurd (gone m f)) (λ q away f. core.used m q (idle-find c n m q f).0);
  named = λ m. at-entry c.entries s free_entry (λ q x. (put c.find n None) m ≡ Some q → x.name ≡ m) (λ f. absurd (gone m f)) (λ q away f. core.named m q (idle-find c n m q f).0);
  low = core.low;
  short = at-entry c.entries s free_entry (λ q x. is_used x.state ≡ true → is_short q ≡ true) (λ is. cc) (λ q away. core.short q);
  within = at-entry c.entries s free_entry (λ q x. is_used x.state ≡ true → q < c.bound) (λ is. cc) (λ q away. core.within q);
  owned = at-entry c.entries s free_entry (λ q x. (p : ℕ) → place_of x.state ≡ Some p → (c.chunks p).owner ≡ q) (λ p at. cc) (λ q away. core.owned q);
  long = at-entry c.entries s free_entry (λ q x. (p : ℕ) → place_of x.state ≡ Some p → length (c.chunks p).words ≡ words_for x.kind x.len (literal_count (header_in (c.chunks p).words))) (λ p at. cc) (λ q away. core.long q);
  small = at-entry c.entries s free_entry (λ q x. (p : ℕ) → place_of x.state ≡ Some p → x.len ≤ most_len x.kind) (λ p at. cc) (λ q away. core.small q);
  classed = at-entry c.entries s free_entry (λ q x. (p : ℕ) → place_of x.state ≡ Some p → is_short x.class.0 ≡ true) (λ p at. cc) (λ q away. core.classed q);
  counted = at-entry c.entries s free_entry (λ q x. uses (without_leaf c s n) q ≤ x.refs) (let all = idle-uses c s n s core idle in let most = core.counted s in let none = idle.none in omega arith) (λ q away. let all = idle-uses c s n q core idle in let most = core.counted q in omega arith);
  free = at-entry c.entries s free_entry (λ q x. is_used x.state ≡ false → x.refs ≡ 0) (λ is. refl) (λ q away. core.free q);
}
  where
    other : (q : ℕ) → q ≢ s → is_used (c.entries q).state ≡ true → (c.entries q).name ≢ n
    other q away is same = other-name c core s q (c.entries s).name (c.entries q).name (core.found s idle.used) (core.found q is) away (same ∙ sym idle.name)

    gone : (m : ℕ) → (put c.find n None) m ≡ Some s → ⊥
    gone m f = let e = idle-find c n m s f in e.1 (sym (core.named m s e.0) ∙ idle.name)

idle-names : (c : Core) (s n : ℕ) → IsCore c → IsIdle c s n → SameNames c (without_leaf c s n)
idle-names c s n core idle t some = ap (λ (x : Entry). x.name) (put-there c.entries s free_entry t (λ same. let most = core.counted t in let none : (c.entries t).refs ≡ 0 = subst (λ (z : ℕ). (c.entries z).refs ≡ 0) (sym same) idle.none in absurd (omega arith)))

pub idle-held : (c : Core) (disk : Disk) (s n : ℕ) → IsCore c → IsIdle c s n → held (without_leaf c s n) disk ≡ held c disk
idle-held c disk s n core idle = held-same c (without_leaf c s n) disk disk n others (held-absent (without_leaf c s n) disk n (put-here c.find n None) ∙ sym (held-leaf c disk n s (ap c.find (sym idle.name) ∙ core.found s idle.used) idle.leaf))
  where
    others : AreOthersSame c (without_leaf c s n) disk disk n
    others = record {
      find = λ m away. put-there c.find n None m away;
      disks = λ m away. refl;
      entries = λ m q away f. put-there c.entries s free_entry q (λ same. away (sym (core.named m q f) ∙ ap (λ (z : ℕ). (c.entries z).name) same ∙ idle.name));
      objects = λ m q p away f at. object-same c (without_leaf c s n) disk disk core q p at (idle-names c s n core idle) refl refl;
    }

pub idle-backed : (c : Core) (disk : Disk) (s n : ℕ) → IsCore c → IsBacked c disk → IsIdle c s n → IsBacked (without_leaf c s n) disk
idle-backed c disk s n core backed idle = record {
  body = at-entry c.entries s free_entry (λ q x. (p : ℕ) → place_of x.state ≡ Some p → IsBody (without_leaf c s n) disk x p) (λ p at. cc)
      (λ q away p at. body-same c (without_leaf c s n) disk disk (c.entries q) p (backed.body q p at) (object-same c (without_leaf c s n) disk disk core q p at (idle-names c s n core idle) refl refl) refl refl);
}

pub idle-outside : (c : Core) (s n t : ℕ) → IsCore c → IsIdle c s n → outside (without_leaf c s n) t ≡ outside c t
unfolding outside
idle-outside c s n t core idle =
    let all = idle-uses c s n t core idle in
    let refs : (put c.entries s free_entry t).refs ≡ (c.entries t).refs = at-entry c.entries s free_entry (λ q x. x.refs ≡ (c.entries q).refs) (sym idle.none) (λ q away. refl) t in
    omega arith

-- ---- the empty core

-- no entry in use, and any chunks
abbrev pub empty_core : (ℕ → Chunk) → ℕ → Core
empty_core chunks bound = record { entries = λ s. free_entry; find = λ n. None; chunks = chunks; bound = bound }

empty-uses : (chunks : ℕ → Chunk) (bound s n : ℕ) → tally n (holders (empty_core chunks bound)) s ≡ 0
unfolding holders
empty-uses chunks bound s zero = refl
empty-uses chunks bound s (suc n) = let rest = empty-uses chunks bound s n in omega arith

pub empty-core : (chunks : ℕ → Chunk) (bound : ℕ) → bound ≤ 65536 → IsCore (empty_core chunks bound)
unfolding uses
empty-core chunks bound low = record {
  found = λ s is. cc;
  used = λ n s is. cc;
  named = λ n s is. cc;
  low = low;
  short = λ s is. cc;
  within = λ s is. cc;
  owned = λ s p is. cc;
  long = λ s p is. cc;
  small = λ s p is. cc;
  classed = λ s p is. cc;
  counted = λ s. let none = empty-uses chunks bound s bound in omega arith;
  free = λ s is. refl;
}

pub empty-backed : (chunks : ℕ → Chunk) (bound : ℕ) (disk : Disk) → IsBacked (empty_core chunks bound) disk
empty-backed chunks bound disk = record { body = λ s p is. cc }

-- and it holds what the disk has
pub empty-held : (chunks : ℕ → Chunk) (bound : ℕ) (disk : Disk) → held (empty_core chunks bound) disk ≡ disk
unfolding held
empty-held chunks bound disk = refl

pub empty-outside : (chunks : ℕ → Chunk) (bound t : ℕ) → outside (empty_core chunks bound) t ≡ 0
unfolding outside
empty-outside chunks bound t = omega arith
