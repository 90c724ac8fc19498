-- Marks that go only where an object that was marked leaves the core.
use Rattle.std.proofs.Common.{◌≡◌, ◌≢◌, ◌⊎◌, inl, inr, ℕ, Bool, true, false, refl, sym, ◌∙◌, ap, subst, Option, Some, None, ⊎_elim}
use Rattle.std.proofs.lemmas.Bool.{cases_eq}
use Rattle.object_table.specs.declared.entry.Entry.{Entry}
use Rattle.object_table.specs.Entries.{is_used, place_of, free_entry}
use Rattle.core_view.specs.Core.{Core}
use Rattle.core_view.specs.Counts.{marked_by, marked_of}
use Rattle.core_view.specs.Kept.{IsCore}
use Rattle.core_view.specs.Purge.{IsPurged}
use Rattle.core_view.proofs.Core.{placed-used}
use Rattle.core_view.proofs.Entries.{at-entry}
use Rattle.leaf_lambda.specs.Parts.{IsWithin}
use Rattle.purger.specs.Draining.{IsForgotten}
use Rattle.purger.specs.Marks.{IsUnmarking, IsOut, KeepsMarks, HasLostMarked, LeavesMarks, MindsMarks}
use Rattle.purger.proofs.MarkLaws.{Kept-refl, Kept-trans, marked-at, state-same, unmarked-same}
use Rattle.purger.proofs.RoomLaws.{all-pinned, gone-purged}

-- ---- what has a body had one before, under its name

pub record WasThere (c : Core) (s n : ℕ) : Type 0 where
  pub at : ℕ
  pub place : place_of (c.entries s).state ≡ Some at
  pub name : n ≡ (c.entries s).name

abbrev pub NoneCame : Core → Core → Type 0
NoneCame c d = (s p : ℕ) → place_of (d.entries s).state ≡ Some p → WasThere c s (d.entries s).name

pub came-trans : (a b c : Core) → NoneCame a b → NoneCame b c → NoneCame a c
came-trans a b c x y s p at =
    let later = y s p at in
    let first = x s later.at later.place in
    record { at = first.at; place = first.place; name = later.name ∙ first.name }

pub came-out : (c d : Core) → NoneCame c d → (n : ℕ) → IsOut c n → IsOut d n
came-out c d came n out s p at e = let b = came s p at in out s b.at b.place (sym b.name ∙ e)

-- what stays whichever three are pinned
pub purged-came : (c d : Core) → ((a b k : ℕ) → IsPurged a b k c d) → NoneCame c d
purged-came c d purged s p at = go (place_of (c.entries s).state) refl
  where
    go : (o : Option ℕ) → place_of (c.entries s).state ≡ o → WasThere c s (d.entries s).name
    go None e = absurd (gone-purged s s s c d s p (purged s s s) e at)
    go (Some q) e = record { at = q; place = e; name = (all-pinned c d purged s q e).name }

pub unmarked-came : (c d : Core) → IsUnmarking c d → NoneCame c d
unmarked-came c d step s p at = record { at = p; place = ap place_of (sym (state-same c d s step)) ∙ at; name = unmarked-same c d s (λ (e : Entry). e.name) step (λ e. refl) }

-- a call on one object, at another
pub others-came : (c d : Core) (s t p : ℕ) → IsWithin s c d → t ≢ s → place_of (d.entries t).state ≡ Some p → WasThere c t (d.entries t).name
others-came c d s t p within away at = go (is_used (c.entries t).state) refl
  where
    go : (b : Bool) → is_used (c.entries t).state ≡ b → WasThere c t (d.entries t).name
    go true e = let same = within.others.same t away e in record { at = p; place = ap (λ (x : Entry). place_of x.state) (sym same) ∙ at; name = ap (λ (x : Entry). x.name) same }
    go false e =
        let leaf = within.others.came t away e (placed-used (d.entries t).state p at) in
        let both : None ≡ Some p = ap (λ (x : Entry). place_of x.state) (sym leaf) ∙ at in
        absurd (cc)

pub within-came : (c d : Core) (s : ℕ) → IsWithin s c d → place_of (d.entries s).state ≡ None → NoneCame c d
within-came c d s within gone t p at = ⊎_elim (λ (e : t ≡ s). absurd (let both : None ≡ Some p = sym gone ∙ ap (λ (k : ℕ). place_of (d.entries k).state) (sym e) ∙ at in cc)) (λ (away : t ≢ s). others-came c d s t p within away at) (cases_eq t s)

pub forgotten-came : (c d : Core) (s : ℕ) → IsForgotten s c d → NoneCame c d
forgotten-came c d s f = subst (λ (x : Core). NoneCame c x) (sym f.is)
    (λ t. at-entry f.middle.entries s free_entry (λ q e. (p : ℕ) → place_of e.state ≡ Some p → WasThere c q e.name) (λ p at. absurd (cc)) (λ q away p at. others-came c f.middle s q p f.within away at) t)

-- ---- an object that left

pub left-out : (c d : Core) (s : ℕ) → IsCore c → is_used (c.entries s).state ≡ true → NoneCame c d → place_of (d.entries s).state ≡ None → IsOut d (c.entries s).name
left-out c d s core used came gone t p at e =
    let b = came t p at in
    let both : Some t ≡ Some s = sym (core.found t (placed-used (c.entries t).state b.at b.place)) ∙ ap c.find (sym b.name ∙ e) ∙ core.found s used in
    let is : t ≡ s = cc in
    let none : None ≡ Some p = sym gone ∙ ap (λ (k : ℕ). place_of (d.entries k).state) (sym is) ∙ at in
    absurd (cc)

pub forgotten-out : (c d : Core) (s : ℕ) → IsCore c → is_used (c.entries s).state ≡ true → IsForgotten s c d → IsOut d (c.entries s).name
forgotten-out c d s core used f = left-out c d s core used (forgotten-came c d s f)
    (subst (λ (x : Core). place_of (x.entries s).state ≡ None) (sym f.is) (at-entry f.middle.entries s free_entry (λ q e. q ≡ s → place_of e.state ≡ None) (λ here. refl) (λ q away here. absurd (away here)) s refl))

-- ---- one step after another

pub minds-refl : (c : Core) → MindsMarks c c
minds-refl c = record { out = λ n out. out; marks = inl (Kept-refl c) }

pub minds-kept : (c d : Core) → NoneCame c d → KeepsMarks c d → MindsMarks c d
minds-kept c d came keeps = record { out = came-out c d came; marks = inl keeps }

-- where there is no mark none comes
pub stays-none : (b c : Core) → MindsMarks b c → ((n : ℕ) → marked_of b n ≡ false) → (n : ℕ) → marked_of c n ≡ false
stays-none b c y none n = ⊎_elim (λ (kept : KeepsMarks b c). kept.marks n ∙ none n) (λ (lost : HasLostMarked b c). lost.none n) y.marks

pub minds-trans : (a b c : Core) → MindsMarks a b → MindsMarks b c → MindsMarks a c
minds-trans a b c x y = record {
  out = λ n out. y.out n (x.out n out);
  marks = ⊎_elim (λ (same : KeepsMarks a b). ⊎_elim (λ (kept : KeepsMarks b c). inl (Kept-trans a b c same kept))
      (λ (lost : HasLostMarked b c). inr (record { name = lost.name; marked = sym (same.marks lost.name) ∙ lost.marked; out = lost.out; none = lost.none })) y.marks)
      (λ (lost : HasLostMarked a b). inr (record { name = lost.name; marked = lost.marked; out = y.out lost.name lost.out; none = stays-none b c y lost.none })) x.marks;
}

-- an object that may be marked loses its mark, and leaves
pub minds-after : (c u d : Core) (s : ℕ) → IsCore c → is_used (c.entries s).state ≡ true → IsUnmarking c u → LeavesMarks c u → (u.entries s).flags.marked ≡ false → ((c.entries s).flags.marked ≡ false → u ≡ c) → MindsMarks u d → IsOut d (c.entries s).name → MindsMarks c d
minds-after c u d s core used step left off idle then out = record {
  out = λ n away. then.out n (came-out c u (unmarked-came c u step) n away);
  marks = go (c.entries s).flags.marked refl;
}
  where
    no : KeepsMarks c u → (c.entries s).flags.marked ≡ true → ⊥
    no keeps e =
        let was = marked-at c s core used ∙ e in
        let now : marked_of u (c.entries s).name ≡ false = ap (λ (o : Option ℕ). marked_by u.entries o) (ap (λ (f : ℕ → Option ℕ). f (c.entries s).name) step.find ∙ core.found s used) ∙ off in
        let both : true ≡ false = sym was ∙ sym (keeps.marks (c.entries s).name) ∙ now in
        cc

    none : (c.entries s).flags.marked ≡ true → (n : ℕ) → marked_of u n ≡ false
    none e n = ⊎_elim (λ (keeps : KeepsMarks c u). absurd (no keeps e)) (λ gone. gone.1 n) left

    go : (b : Bool) → (c.entries s).flags.marked ≡ b → KeepsMarks c d ⊎ HasLostMarked c d
    go false e = (subst (λ (x : Core). MindsMarks x d) (idle e) then).marks
    go true e = inr (record { name = (c.entries s).name; marked = marked-at c s core used ∙ e; out = out; none = stays-none u d then (none e) })
