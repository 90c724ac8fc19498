-- What a step leaves of the entries that it isn't about, and of the marks of all.
use Rattle.std.proofs.Common.{◌≡◌, ◌≢◌, ℕ, Bool, true, false, refl, sym, ◌∙◌, ap, subst, ⊎_elim, Option, Some, None}
use Rattle.std.proofs.lemmas.Bool.{cases_eq}
use Rattle.object_table.specs.declared.entry.Entry.{Entry}
use Rattle.object_table.specs.Entries.{put, is_used, leaf_entry, with_refs}
use Rattle.core_view.specs.Core.{Core, with_entry, with_leaf}
use Rattle.core_view.specs.Counts.{marked_by, marked_of}
use Rattle.core_view.specs.Kept.{IsCore}
use Rattle.core_view.specs.Steps.{IsSpare, KeepsEntries, KeepsOthers, with_refs_of}
use Rattle.core_view.proofs.Lists.{put-here, put-there}
use Rattle.core_view.proofs.Entries.{at-entry}
use Rattle.core_view.proofs.Steps.{leaf-used}

off-on : {A : Type 0} (b : Bool) → b ≡ false → b ≡ true → A
off-on b off on = let no : false ≡ true = sym off ∙ on in absurd (cc)

-- ---- all entries

pub Entries-refl : (c : Core) → KeepsEntries c c
Entries-refl c = record { same = λ t on. refl; came = λ t off on. off-on (is_used (c.entries t).state) off on }

pub Entries-trans : (a b c : Core) → KeepsEntries a b → KeepsEntries b c → KeepsEntries a c
Entries-trans a b c x y = record { same = λ t on. still t on; came = λ t off on. new t off on (is_used (b.entries t).state) refl }
  where
    still : (t : ℕ) → is_used (a.entries t).state ≡ true → c.entries t ≡ with_refs (a.entries t) (c.entries t).refs
    still t on = let first = x.same t on in y.same t (ap (λ (e : Entry). is_used e.state) first ∙ on) ∙ ap (λ (e : Entry). with_refs e (c.entries t).refs) first

    new : (t : ℕ) → is_used (a.entries t).state ≡ false → is_used (c.entries t).state ≡ true → (u : Bool) → is_used (b.entries t).state ≡ u → c.entries t ≡ with_refs (leaf_entry (c.entries t).name) (c.entries t).refs
    new t off on false e = y.came t e on
    new t off on true e =
        let then = y.same t e in
        then ∙ ap (λ (z : Entry). with_refs z (c.entries t).refs) (x.came t off e) ∙ ap (λ (n : ℕ). with_refs (leaf_entry n) (c.entries t).refs) (sym (ap (λ (z : Entry). z.name) then))

-- the entries are the same
pub same-entries : (c d : Core) → d.entries ≡ c.entries → KeepsEntries c d
same-entries c d is = record {
  same = λ t on. subst (λ (f : ℕ → Entry). f t ≡ with_refs (c.entries t) (f t).refs) (sym is) refl;
  came = λ t off on. off-on (is_used (c.entries t).state) off (ap (λ (f : ℕ → Entry). is_used (f t).state) (sym is) ∙ on);
}

-- references of one entry change
pub refs-entries : (c d : Core) (s r : ℕ) → d ≡ with_refs_of c s r → KeepsEntries c d
refs-entries c d s r is = subst (λ (x : Core). KeepsEntries c x) (sym is) (record {
  same = λ t on. at-entry c.entries s (with_refs (c.entries s) r) (λ q e. e ≡ with_refs (c.entries q) e.refs) refl (λ q away. refl) t;
  came = λ t off on. off-on (is_used (c.entries t).state) off (sym (at-entry c.entries s (with_refs (c.entries s) r) (λ q e. is_used e.state ≡ is_used (c.entries q).state) refl (λ q away. refl) t) ∙ on);
})

-- a leaf comes
pub leaf-entries : (c : Core) (s n : ℕ) → IsSpare c s n → KeepsEntries c (with_leaf c s n)
leaf-entries c s n spare = record {
  same = λ t on. at-entry c.entries s (leaf_entry n) (λ q e. is_used (c.entries q).state ≡ true → e ≡ with_refs (c.entries q) e.refs) (λ yes_. off-on (is_used (c.entries s).state) spare.unused yes_) (λ q away yes_. refl) t on;
  came = λ t off on. at-entry c.entries s (leaf_entry n) (λ q e. is_used (c.entries q).state ≡ false → is_used e.state ≡ true → e ≡ with_refs (leaf_entry e.name) e.refs) (λ no_ yes_. refl) (λ q away no_ yes_. off-on (is_used (c.entries q).state) no_ yes_) t off on;
}

-- ---- all entries but one

pub entries-others : (s : ℕ) (a b : Core) → KeepsEntries a b → KeepsOthers s a b
entries-others s a b x = record { same = λ t away on. x.same t on; came = λ t away off on. x.came t off on }

pub Others-refl : (s : ℕ) (c : Core) → KeepsOthers s c c
Others-refl s c = entries-others s c c (Entries-refl c)

pub Others-trans : (s : ℕ) (a b c : Core) → KeepsOthers s a b → KeepsOthers s b c → KeepsOthers s a c
Others-trans s a b c x y = record { same = λ t away on. still t away on; came = λ t away off on. new t away off on (is_used (b.entries t).state) refl }
  where
    still : (t : ℕ) → t ≢ s → is_used (a.entries t).state ≡ true → c.entries t ≡ with_refs (a.entries t) (c.entries t).refs
    still t away on = let first = x.same t away on in y.same t away (ap (λ (e : Entry). is_used e.state) first ∙ on) ∙ ap (λ (e : Entry). with_refs e (c.entries t).refs) first

    new : (t : ℕ) → t ≢ s → is_used (a.entries t).state ≡ false → is_used (c.entries t).state ≡ true → (u : Bool) → is_used (b.entries t).state ≡ u → c.entries t ≡ with_refs (leaf_entry (c.entries t).name) (c.entries t).refs
    new t away off on false e = y.came t away e on
    new t away off on true e =
        let then = y.same t away e in
        then ∙ ap (λ (z : Entry). with_refs z (c.entries t).refs) (x.came t away off e) ∙ ap (λ (n : ℕ). with_refs (leaf_entry n) (c.entries t).refs) (sym (ap (λ (z : Entry). z.name) then))

-- one entry takes another content
pub entry-others : (c d : Core) (s : ℕ) (e : Entry) → d.entries ≡ put c.entries s e → KeepsOthers s c d
entry-others c d s e is = record {
  same = λ t away on. let here = there t away in here ∙ ap (λ (x : Entry). with_refs (c.entries t) x.refs) (sym here);
  came = λ t away off on. off-on (is_used (c.entries t).state) off (ap (λ (x : Entry). is_used x.state) (sym (there t away)) ∙ on);
}
  where
    there : (t : ℕ) → t ≢ s → d.entries t ≡ c.entries t
    there t away = ap (λ (f : ℕ → Entry). f t) is ∙ put-there c.entries s e t away

-- ---- marks

-- an entry that keeps its mark
pub entry-marks : (c : Core) (s : ℕ) (e : Entry) → e.flags.marked ≡ (c.entries s).flags.marked → (n : ℕ) → marked_of (with_entry c s e) n ≡ marked_of c n
entry-marks c s e same n = go (c.find n)
  where
    go : (o : Option ℕ) → marked_by (put c.entries s e) o ≡ marked_by c.entries o
    go None = refl
    go (Some q) = at-entry c.entries s e (λ t x. x.flags.marked ≡ (c.entries t).flags.marked) same (λ t away. refl) q

-- a new leaf has none
pub leaf-marks : (c : Core) (s n : ℕ) → IsCore c → IsSpare c s n → (m : ℕ) → marked_of (with_leaf c s n) m ≡ marked_of c m
leaf-marks c s n core spare m = ⊎_elim here there (cases_eq m n)
  where
    here : m ≡ n → marked_of (with_leaf c s n) m ≡ marked_of c m
    here e =
        ap (λ o. marked_by (put c.entries s (leaf_entry n)) o) (ap (put c.find n (Some s)) e ∙ put-here c.find n (Some s)) ∙ ap (λ (x : Entry). x.flags.marked) (put-here c.entries s (leaf_entry n))
        ∙ ap (λ o. marked_by c.entries o) (sym (ap c.find e ∙ spare.absent))

    there : m ≢ n → marked_of (with_leaf c s n) m ≡ marked_of c m
    there away = ap (λ o. marked_by (put c.entries s (leaf_entry n)) o) (put-there c.find n (Some s) m away) ∙ go (c.find m) refl
      where
        go : (o : Option ℕ) → c.find m ≡ o → marked_by (put c.entries s (leaf_entry n)) o ≡ marked_by c.entries o
        go None e = refl
        go (Some q) e = ap (λ (x : Entry). x.flags.marked) (leaf-used c s n spare q (core.used m q e))
