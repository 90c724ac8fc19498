-- One entry changes: what stays, and what the held heap has then.
use Rattle.std.proofs.Common.{◌≡◌, ◌≢◌, ℕ, ℤ, ◌+◌, ◌<◌, ◌≤◌, true, false, length, refl, sym, ◌∙◌, ap, subst, arith, ⊎_elim, Option, Some, None, count_by}
use Rattle.std.proofs.lemmas.Bool.{cases_eq}
use Rattle.long_names.specs.Words.{literal_count}
use Rattle.long_names.specs.declared.object.Object.{Object}
use Rattle.object_table.specs.declared.entry.Entry.{Entry}
use Rattle.object_table.specs.declared.flags.EntryFlags.{EntryFlags}
use Rattle.object_table.specs.Entries.{put, is_short, is_used, place_of}
use Rattle.core_view.specs.Core.{Core, with_entry}
use Rattle.core_view.specs.Words.{words_for, most_len, header_in}
use Rattle.core_view.specs.Held.{Disk, object_at, held_in, held_by, held}
use Rattle.core_view.specs.Counts.{names, holders_in, holders, tally, uses, outside}
use Rattle.core_view.specs.Kept.{IsCore, IsBody, IsBacked}
use Rattle.core_view.specs.Steps.{touched}
use Rattle.core_view.proofs.Lists.{put-here, put-there, tally-put}
use Rattle.core_view.proofs.Core.{placed-used, other-name, held-same, held-at, held-leaf, AreOthersSame, object-same, body-same, like-same}

-- an entry in use takes another content under its name
pub record IsStep (c : Core) (s : ℕ) (e : Entry) : Type 0 where
  pub used : is_used (c.entries s).state ≡ true
  pub still : is_used e.state ≡ true
  pub name : e.name ≡ (c.entries s).name
  pub owned : (p : ℕ) → place_of e.state ≡ Some p → (c.chunks p).owner ≡ s
  pub long : (p : ℕ) → place_of e.state ≡ Some p → length (c.chunks p).words ≡ words_for e.kind e.len (literal_count (header_in (c.chunks p).words))
  pub small : (p : ℕ) → place_of e.state ≡ Some p → e.len ≤ most_len e.kind
  pub classed : (p : ℕ) → place_of e.state ≡ Some p → is_short e.class.0 ≡ true
  pub counted : (t : ℕ) → uses c t + count_by (names t) (holders_in c.chunks e (place_of e.state)) ≤ (put c.entries s e t).refs + count_by (names t) (holders c s)

-- by cases: the entry itself, or another
pub at-entry : (f : ℕ → Entry) (s : ℕ) (e : Entry) (P : ℕ → Entry → Type 0) → P s e → ((q : ℕ) → q ≢ s → P q (f q)) → (q : ℕ) → P q (put f s e q)
at-entry f s e P here there q = ⊎_elim (λ (h : q ≡ s). subst (λ (z : ℕ). P z (put f s e z)) (sym h) (subst (λ (x : Entry). P s x) (sym (put-here f s e)) here)) (λ (h : q ≢ s). subst (λ (x : Entry). P q x) (sym (put-there f s e q h)) (there q h)) (cases_eq q s)

-- all names stay
pub step-names : (c : Core) (s : ℕ) (e : Entry) → IsStep c s e → (t : ℕ) → (put c.entries s e t).name ≡ (c.entries t).name
step-names c s e step t = at-entry c.entries s e (λ q x. x.name ≡ (c.entries q).name) step.name (λ q away. refl) t

pub step-uses : (c : Core) (s : ℕ) (e : Entry) (t : ℕ) → IsCore c → IsStep c s e → uses (with_entry c s e) t + count_by (names t) (holders c s) ≡ uses c t + count_by (names t) (holders_in c.chunks e (place_of e.state))
unfolding uses holders
step-uses c s e t core step =
    let all : tally c.bound (holders (with_entry c s e)) t + count_by (names t) (holders c s) ≡ tally c.bound (holders c) t + count_by (names t) (holders (with_entry c s e) s) = tally-put c.bound (holders c) (holders (with_entry c s e)) s t (core.within s step.used) (λ q away. ap (λ (x : Entry). holders_in c.chunks x (place_of x.state)) (put-there c.entries s e q away)) in
    all ∙ ap (λ (x : Entry). tally c.bound (holders c) t + count_by (names t) (holders_in c.chunks x (place_of x.state))) (put-here c.entries s e)

pub step-core : (c : Core) (s : ℕ) (e : Entry) → IsCore c → IsStep c s e → IsCore (with_entry c s e)
step-core c s e core step = record {
  found = at-entry c.entries s e (λ q x. is_used x.state ≡ true → c.find x.name ≡ Some q) (λ is. ap c.find step.name ∙ core.found s step.used) (λ q away. core.found q);
  used = λ n q f. at-entry c.entries s e (λ q x. c.find n ≡ Some q → is_used x.state ≡ true) (λ f. step.still) (λ q away. core.used n q) q f;
  named = λ n q f. step-names c s e step q ∙ core.named n q f;
  low = core.low;
  short = at-entry c.entries s e (λ q x. is_used x.state ≡ true → is_short q ≡ true) (λ is. core.short s step.used) (λ q away. core.short q);
  within = at-entry c.entries s e (λ q x. is_used x.state ≡ true → q < c.bound) (λ is. core.within s step.used) (λ q away. core.within q);
  owned = at-entry c.entries s e (λ q x. (p : ℕ) → place_of x.state ≡ Some p → (c.chunks p).owner ≡ q) step.owned (λ q away. core.owned q);
  long = at-entry c.entries s e (λ q x. (p : ℕ) → place_of x.state ≡ Some p → length (c.chunks p).words ≡ words_for x.kind x.len (literal_count (header_in (c.chunks p).words))) step.long (λ q away. core.long q);
  small = at-entry c.entries s e (λ q x. (p : ℕ) → place_of x.state ≡ Some p → x.len ≤ most_len x.kind) step.small (λ q away. core.small q);
  classed = at-entry c.entries s e (λ q x. (p : ℕ) → place_of x.state ≡ Some p → is_short x.class.0 ≡ true) step.classed (λ q away. core.classed q);
  counted = λ t. let all = step-uses c s e t core step in let most = step.counted t in omega arith;
  free = at-entry c.entries s e (λ q x. is_used x.state ≡ false → x.refs ≡ 0) (λ is. let on = step.still in absurd (cc)) (λ q away. core.free q);
}

pub step-outside : (c : Core) (s : ℕ) (e : Entry) (t : ℕ) → IsCore c → IsStep c s e → outside (with_entry c s e) t + count_by (names t) (holders_in c.chunks e (place_of e.state)) + (c.entries t).refs ≡ outside c t + count_by (names t) (holders c s) + (put c.entries s e t).refs
unfolding outside
step-outside c s e t core step =
    let all = step-uses c s e t core step in
    let most = step.counted t in
    let was = core.counted t in
    omega arith

pub step-others : (c : Core) (disk now : Disk) (s : ℕ) (e : Entry) → IsCore c → IsStep c s e → ((m : ℕ) → m ≢ (c.entries s).name → now m ≡ disk m) → AreOthersSame c (with_entry c s e) disk now (c.entries s).name
step-others c disk now s e core step disks = record {
  find = λ m away. refl;
  disks = disks;
  entries = λ m q away f. put-there c.entries s e q (moved m q away f);
  objects = λ m q p away f at. object-same c (with_entry c s e) disk now core q p at (λ t some. step-names c s e step t) refl (disks (c.entries q).name (λ same. away (sym (core.named m q f) ∙ same)));
}
  where
    moved : (m q : ℕ) → m ≢ (c.entries s).name → c.find m ≡ Some q → q ≢ s
    moved m q away f same = away (sym (core.named m q f) ∙ ap (λ (z : ℕ). (c.entries z).name) same)

-- what the held heap has at the name then
pub step-here : (c : Core) (now : Disk) (s : ℕ) (e : Entry) → IsCore c → IsStep c s e → held (with_entry c s e) now (c.entries s).name ≡ held_in (with_entry c s e) now (c.entries s).name e (place_of e.state)
unfolding held
step-here c now s e core step = ap (λ x. held_by (with_entry c s e) now (c.entries s).name x) (core.found s step.used) ∙ ap (λ (x : Entry). held_in (with_entry c s e) now (c.entries s).name x (place_of x.state)) (put-here c.entries s e)

pub step-backed : (c : Core) (disk now : Disk) (s : ℕ) (e : Entry) → IsCore c → IsBacked c disk → IsStep c s e → ((m : ℕ) → m ≢ (c.entries s).name → now m ≡ disk m)
    → ((p : ℕ) → place_of e.state ≡ Some p → IsBody (with_entry c s e) now e p) → IsBacked (with_entry c s e) now
step-backed c disk now s e core backed step disks here = record { body = λ q p. at-entry c.entries s e (λ q x. (p : ℕ) → place_of x.state ≡ Some p → IsBody (with_entry c s e) now x p) here other q p }
  where
    other : (q : ℕ) → q ≢ s → (p : ℕ) → place_of (c.entries q).state ≡ Some p → IsBody (with_entry c s e) now (c.entries q) p
    other q away p at =
        let there : now (c.entries q).name ≡ disk (c.entries q).name = disks (c.entries q).name (other-name c core s q (c.entries s).name (c.entries q).name (core.found s step.used) (core.found q (placed-used (c.entries q).state p at)) away) in
        body-same c (with_entry c s e) disk now (c.entries q) p (backed.body q p at) (object-same c (with_entry c s e) disk now core q p at (λ t some. step-names c s e step t) refl there) refl there

-- ---- references and the mark of a change

pub touch-step : (c : Core) (s r : ℕ) (x : ℤ) (f : EntryFlags) → IsCore c → is_used (c.entries s).state ≡ true → uses c s ≤ r → IsStep c s (touched (c.entries s) r x f)
unfolding holders
touch-step c s r x f core used most = record {
  used = used;
  still = used;
  name = refl;
  owned = core.owned s;
  long = core.long s;
  small = core.small s;
  classed = core.classed s;
  counted = at-entry c.entries s (touched (c.entries s) r x f) (λ t y. uses c t + count_by (names t) (holders_in c.chunks (c.entries s) (place_of (c.entries s).state)) ≤ y.refs + count_by (names t) (holders_in c.chunks (c.entries s) (place_of (c.entries s).state))) (omega arith) (λ q away. let m = core.counted q in omega arith);
}

pub touch-held : (c : Core) (disk : Disk) (s r : ℕ) (x : ℤ) (f : EntryFlags) → IsCore c → IsStep c s (touched (c.entries s) r x f) → held (with_entry c s (touched (c.entries s) r x f)) disk ≡ held c disk
touch-held c disk s r x f core step = held-same c (with_entry c s (touched (c.entries s) r x f)) disk disk (c.entries s).name (step-others c disk disk s (touched (c.entries s) r x f) core step (λ m away. refl)) (step-here c disk s (touched (c.entries s) r x f) core step ∙ go (place_of (c.entries s).state) refl)
  where
    go : (o : Option ℕ) → place_of (c.entries s).state ≡ o → held_in (with_entry c s (touched (c.entries s) r x f)) disk (c.entries s).name (touched (c.entries s) r x f) o ≡ held c disk (c.entries s).name
    go None at = sym (held-leaf c disk (c.entries s).name s (core.found s step.used) at)
    go (Some p) at = ap Some (object-same c (with_entry c s (touched (c.entries s) r x f)) disk disk core s p at (λ t some. step-names c s (touched (c.entries s) r x f) step t) refl refl) ∙ sym (held-at c disk (c.entries s).name s p (core.found s step.used) at)

pub touch-backed : (c : Core) (disk : Disk) (s r : ℕ) (x : ℤ) (f : EntryFlags) → IsCore c → IsBacked c disk → IsStep c s (touched (c.entries s) r x f) → (f.changed ≡ false → (c.entries s).flags.changed ≡ false) → f.fresh ≡ (c.entries s).flags.fresh → IsBacked (with_entry c s (touched (c.entries s) r x f)) disk
touch-backed c disk s r x f core backed step clean same_fresh = step-backed c disk disk s (touched (c.entries s) r x f) core backed step (λ m away. refl) here
  where
    here : (p : ℕ) → place_of (c.entries s).state ≡ Some p → IsBody (with_entry c s (touched (c.entries s) r x f)) disk (touched (c.entries s) r x f) p
    here p at =
        let b = backed.body s p at in
        let same : object_at (with_entry c s (touched (c.entries s) r x f)) disk (c.entries s) p ≡ object_at c disk (c.entries s) p = object-same c (with_entry c s (touched (c.entries s) r x f)) disk disk core s p at (λ t some. step-names c s (touched (c.entries s) r x f) step t) refl refl in
        record {
          like = λ z. like-same (disk (c.entries s).name) (disk (c.entries s).name) (object_at c disk (c.entries s) p) (object_at (with_entry c s (touched (c.entries s) r x f)) disk (c.entries s) p) refl (sym same) (b.like (sym same_fresh ∙ z));
          clean = λ z. b.clean (clean z) ∙ ap Some (sym same);
          absent = λ z. b.absent (sym same_fresh ∙ z);
          whole = λ z. b.whole (sym same_fresh ∙ z);
        }

-- ---- a body comes, where its object is the record, or goes

-- a leaf takes a body whose object is its record
pub opens : (c : Core) (disk : Disk) (s : ℕ) (e : Entry) (p : ℕ) (o : Object) → IsCore c → IsStep c s e → place_of (c.entries s).state ≡ None → place_of e.state ≡ Some p → disk (c.entries s).name ≡ Some o → object_at (with_entry c s e) disk e p ≡ o → held (with_entry c s e) disk ≡ held c disk
opens c disk s e p o core step leaf at there same =
    held-same c (with_entry c s e) disk disk (c.entries s).name (step-others c disk disk s e core step (λ m away. refl))
    (step-here c disk s e core step ∙ ap (λ x. held_in (with_entry c s e) disk (c.entries s).name e x) at ∙ ap Some same ∙ sym there ∙ sym (held-leaf c disk (c.entries s).name s (core.found s step.used) leaf))

-- a body whose object is its record goes
pub closes : (c : Core) (disk : Disk) (s : ℕ) (e : Entry) (p : ℕ) → IsCore c → IsStep c s e → place_of (c.entries s).state ≡ Some p → place_of e.state ≡ None → disk (c.entries s).name ≡ Some (object_at c disk (c.entries s) p) → held (with_entry c s e) disk ≡ held c disk
closes c disk s e p core step at leaf there =
    held-same c (with_entry c s e) disk disk (c.entries s).name (step-others c disk disk s e core step (λ m away. refl))
    (step-here c disk s e core step ∙ ap (λ x. held_in (with_entry c s e) disk (c.entries s).name e x) leaf ∙ there ∙ sym (held-at c disk (c.entries s).name s p (core.found s step.used) at))
