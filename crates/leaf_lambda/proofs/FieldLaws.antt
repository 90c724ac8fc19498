-- A store into a field: mark, hold the new word, write, let the old word go.
use Rattle.std.proofs.Common.{◌≡◌, ◌≢◌, ℕ, ◌+◌, ◌≤◌, true, [], refl, sym, ◌∙◌, ap, subst, arith, Option, Some}
use Rattle.std.specs.List.{slice_get}
use Rattle.long_names.specs.Objects.{with_field}
use Rattle.long_names.specs.declared.value.Value.{Value}
use Rattle.long_names.specs.declared.object.Object.{Object}
use Rattle.object_table.specs.declared.entry.Entry.{Entry}
use Rattle.object_table.specs.Entries.{put, is_short, is_used, place_of, with_refs}
use Rattle.core_view.specs.Core.{Core}
use Rattle.core_view.specs.Words.{meant, pointers}
use Rattle.core_view.specs.Held.{Disk, fields_there, object_at, held}
use Rattle.core_view.specs.Counts.{outside, one, change_of, marked_of}
use Rattle.core_view.specs.Kept.{IsCore, IsTight, IsBacked, Keeps, Stays}
use Rattle.core_view.specs.Steps.{IsAt, IsAbout, with_mark, marked_changed, with_field_word}
use Rattle.core_view.proofs.Lists.{put-here, one-here}
use Rattle.core_view.proofs.Core.{placed-used, held-at, meant-names}
use Rattle.core_view.proofs.Entries.{at-entry}
use Rattle.core_view.proofs.Others.{same-entries, entries-others, Others-trans, entry-others, entry-marks}
use Rattle.core_view.proofs.Tight.{ref-tight, word-tight, entry-tight}
use Rattle.core_view.proofs.Words.{word-backed, word-held, word-outside}
use Rattle.core_view.proofs.Steps.{mark-stays, mark-outside, mark-names, outside-more, outside-used, ref-about, About-trans, entry-about, entry-changes}
use Rattle.leaf_lambda.specs.Parts.{IsHolding, IsDropping, IsWithin}
use Rattle.leaf_lambda.proofs.CopyLaws.{meant-fixed}
use Rattle.leaf_lambda.proofs.TranslateLaws.{at-later, word-about}

-- what the four steps say: from a by m, h and x
pub record IsPut (a m h x : Core) (s p i w old : ℕ) : Type 0 where
  pub core : IsCore a
  pub at : IsAt a s p i old
  pub some : w ≢ 0
  pub mark : m ≡ with_mark a s
  pub core_held : IsCore h
  pub hold : IsHolding w m h
  pub loose : is_short w ≡ true → 1 ≤ outside a w
  pub write : x ≡ with_field_word h s p i w

used-there : (a : Core) (s p i old : ℕ) → IsAt a s p i old → is_used (a.entries s).state ≡ true
used-there a s p i old at = placed-used (a.entries s).state p at.place

pub at-mark : (a m : Core) (s p i old : ℕ) → m ≡ with_mark a s → IsAt a s p i old → IsAt m s p i old
at-mark a m s p i old e at = subst (λ (c : Core). IsAt c s p i old) (sym e) (record {
  place = ap (λ (x : Entry). place_of x.state) (put-here a.entries s (marked_changed (a.entries s))) ∙ at.place;
  word = ap (λ (x : Entry). slice_get (pointers x.kind (a.chunks p).words) i) (put-here a.entries s (marked_changed (a.entries s))) ∙ at.word;
})

pub mark-live : (a m : Core) (s t : ℕ) → m ≡ with_mark a s → is_used (a.entries t).state ≡ true → (is_used (m.entries t).state ≡ true) × ((m.entries t).name ≡ (a.entries t).name)
mark-live a m s t e on = (
  ap (λ (c : Core). is_used (c.entries t).state) e ∙ at-entry a.entries s (marked_changed (a.entries s)) (λ q x. is_used x.state ≡ is_used (a.entries q).state) refl (λ q away. refl) t ∙ on,
  ap (λ (c : Core). (c.entries t).name) e ∙ mark-names a s t,
)

mark-out : (a m h x : Core) (s p i w old t : ℕ) → IsPut a m h x s p i w old → outside m t ≡ outside a t
mark-out a m h x s p i w old t put_ = ap (λ (c : Core). outside c t) put_.mark ∙ mark-outside a s t put_.core (used-there a s p i old put_.at)

at-held : (a m h x : Core) (s p i w old : ℕ) → IsPut a m h x s p i w old → IsAt h s p i old
at-held a m h x s p i w old put_ = at-later m h s p i old put_.hold.step (at-mark a m s p i old put_.mark put_.at)

held-loose : (a m h x : Core) (s p i w old : ℕ) → IsPut a m h x s p i w old → is_short w ≡ true → 1 ≤ outside h w
held-loose a m h x s p i w old put_ is = let more = put_.hold.one_more w in let same = mark-out a m h x s p i w old w put_ in let some = put_.loose is in omega arith

write-out : (a m h x : Core) (s p i w old t : ℕ) → IsPut a m h x s p i w old → outside x t + one t w ≡ outside h t + one t old
write-out a m h x s p i w old t put_ = subst (λ (c : Core). outside c t + one t w ≡ outside h t + one t old) (sym put_.write)
    (word-outside h s p i w old t put_.core_held (at-held a m h x s p i w old put_) (λ is. outside-more h w put_.core_held (held-loose a m h x s p i w old put_ is)))

pub put-loose : (a m h x : Core) (s p i w old : ℕ) → IsPut a m h x s p i w old → is_short old ≡ true → 1 ≤ outside x old
put-loose a m h x s p i w old put_ is =
    let one_ = write-out a m h x s p i w old old put_ in
    let two = put_.hold.one_more old in
    let here = one-here old is in
    omega arith

pub put-within : (a m h x d : Core) (s p i w old : ℕ) → IsPut a m h x s p i w old → IsDropping old x d → IsWithin s a d
put-within a m h x d s p i w old put_ drop = record {
  same_outside = λ t.
      let one_ = write-out a m h x s p i w old t put_ in
      let two = put_.hold.one_more t in
      let three = mark-out a m h x s p i w old t put_ in
      let four = drop.one_less t in
      omega arith;
  live = λ t on.
      let first = mark-live a m s t put_.mark on in
      let then = put_.hold.live t first.0 in
      let now : (is_used (x.entries t).state ≡ true) × ((x.entries t).name ≡ (h.entries t).name) = (ap (λ (c : Core). is_used (c.entries t).state) put_.write ∙ then.0, ap (λ (c : Core). (c.entries t).name) put_.write) in
      let last = drop.live t now.0 in
      (last.0, last.1 ∙ now.1 ∙ then.1 ∙ first.1);
  about = About-trans s a m d marked (About-trans s m h d (ref-about s m h put_.hold.step) (About-trans s h x d wrote (ref-about s x d drop.step)));
  grew = λ n e. ap (λ (c : Core). c.find n) (sym put_.mark) ∙ put_.hold.grew n (ap (λ (c : Core). c.find n) (sym put_.write) ∙ drop.grew n e);
  changes = λ n. drop.changes n ∙ ap (λ (c : Core). change_of c n) put_.write ∙ put_.hold.changes n ∙ ap (λ (c : Core). change_of c n) put_.mark ∙ entry-changes a s (marked_changed (a.entries s)) refl n;
  others = Others-trans s a m d (entry-others a m s (marked_changed (a.entries s)) (ap (λ (c : Core). c.entries) put_.mark))
      (Others-trans s m h d (entries-others s m h put_.hold.others) (Others-trans s h x d (entries-others s h x (same-entries h x (ap (λ (c : Core). c.entries) put_.write))) (entries-others s x d drop.others)));
  marks = λ n. drop.marks n ∙ ap (λ (c : Core). marked_of c n) put_.write ∙ put_.hold.marks n ∙ ap (λ (c : Core). marked_of c n) put_.mark ∙ entry-marks a s (marked_changed (a.entries s)) refl n;
  tight = λ t. ref-tight x d drop.step
      (subst IsTight (sym put_.write) (word-tight h s p i w (ref-tight m h put_.hold.step (subst IsTight (sym put_.mark) (entry-tight a s (marked_changed (a.entries s)) refl t)))));
}
  where
    marked : IsAbout s a m
    marked = subst (λ (c : Core). IsAbout s a c) (sym put_.mark) (entry-about a s (marked_changed (a.entries s)))

    wrote : IsAbout s h x
    wrote = subst (λ (c : Core). IsAbout s h c) (sym put_.write) (word-about h s p i w put_.core_held (at-held a m h x s p i w old put_).place)

-- up to the write
before : (a m h x : Core) (disk : Disk) (s p i w old : ℕ) → IsPut a m h x s p i w old → IsBacked a disk → Keeps disk a h
before a m h x disk s p i w old put_ backed =
    let first : Keeps disk a m = subst (λ (c : Core). Keeps disk a c) (sym put_.mark) (mark-stays a s put_.core (used-there a s p i old put_.at) disk backed) in
    let second = put_.hold.stays disk first.backed in
    record { backed = second.backed; held = second.held ∙ first.held }

changed-there : (a m h x : Core) (s p i w old : ℕ) → IsPut a m h x s p i w old → (h.entries s).flags.changed ≡ true
changed-there a m h x s p i w old put_ =
    ap (λ (e : Entry). e.flags.changed) (put_.hold.step.bodies s p (at-mark a m s p i old put_.mark put_.at).place)
    ∙ ap (λ (c : Core). (c.entries s).flags.changed) put_.mark ∙ ap (λ (e : Entry). e.flags.changed) (put-here a.entries s (marked_changed (a.entries s)))

written-backed : (a m h x : Core) (disk : Disk) (s p i w old : ℕ) → IsPut a m h x s p i w old → IsBacked a disk → IsBacked x disk
written-backed a m h x disk s p i w old put_ backed = subst (λ (c : Core). IsBacked c disk) (sym put_.write)
    (word-backed h disk s p i w old put_.core_held (before a m h x disk s p i w old put_ backed).backed (at-held a m h x s p i w old put_) (λ f. put_.some)
    (λ f. let on = changed-there a m h x s p i w old put_ in absurd (cc)))

pub put-backed : (a m h x d : Core) (disk : Disk) (s p i w old : ℕ) → IsPut a m h x s p i w old → Stays x d → IsBacked a disk → IsBacked d disk
put-backed a m h x d disk s p i w old put_ drop backed = (drop disk (written-backed a m h x disk s p i w old put_ backed)).backed

abbrev pub with_value : Object → ℕ → Value → Object
with_value o i v = record { class = o.class; body = with_field o.body i v }

name-there : (a m h x : Core) (s p i w old t : ℕ) → IsPut a m h x s p i w old → is_used (a.entries t).state ≡ true → (h.entries t).name ≡ (a.entries t).name
name-there a m h x s p i w old t put_ on = let first = mark-live a m s t put_.mark on in (put_.hold.live t first.0).1 ∙ first.1

pub put-held : (a m h x d : Core) (disk : Disk) (s p i w old : ℕ) (o : Object) → IsPut a m h x s p i w old → Stays x d → IsBacked a disk → held a disk (a.entries s).name ≡ Some o
    → held d disk ≡ put (held a disk) (a.entries s).name (Some (with_value o i (meant a.entries [] 0 w)))
put-held a m h x d disk s p i w old o put_ drop backed there =
    let b = before a m h x disk s p i w old put_ backed in
    let at = at-held a m h x s p i w old put_ in
    let name = name-there a m h x s p i w old s put_ (used-there a s p i old put_.at) in
    let found : h.find (h.entries s).name ≡ Some s = put_.core_held.found s (placed-used (h.entries s).state p at.place) in
    let here : Some (object_at h disk (h.entries s) p) ≡ Some o = sym (held-at h disk (h.entries s).name s p found at.place) ∙ ap (λ (f : ℕ → Option Object). f (h.entries s).name) b.held ∙ ap (held a disk) name ∙ there in
    let same : object_at h disk (h.entries s) p ≡ o = some (object_at h disk (h.entries s) p) here in
    let means : meant h.entries (fields_there (disk (h.entries s).name)) i w ≡ meant a.entries [] 0 w =
    meant-fixed h.entries (fields_there (disk (h.entries s).name)) [] i 0 w put_.some
    ∙ meant-names a.entries h.entries [] 0 w (λ is. name-there a m h x s p i w old w put_ (outside-used a w put_.core (put_.loose is))) in
    (drop disk (written-backed a m h x disk s p i w old put_ backed)).held ∙ ap (λ (c : Core). held c disk) put_.write
    ∙ word-held h disk put_.core_held s p i w old at
    ∙ ap (λ (v : Value). put (held h disk) (h.entries s).name (Some (record { class = (h.entries (h.entries s).class.0).name; body = with_field (object_at h disk (h.entries s) p).body i v }))) means
    ∙ ap (λ (q : Object). put (held h disk) (h.entries s).name (Some (with_value q i (meant a.entries [] 0 w)))) same
    ∙ ap (λ (f : ℕ → Option Object). put f (h.entries s).name (Some (with_value o i (meant a.entries [] 0 w)))) b.held
    ∙ ap (λ (n : ℕ). put (held a disk) n (Some (with_value o i (meant a.entries [] 0 w)))) name
  where
    some : (q : Object) → Some q ≡ Some o → q ≡ o
    some q e = cc

pub put-entry : (a m h x d : Core) (s p i w old : ℕ) → IsPut a m h x s p i w old → IsDropping old x d → d.entries s ≡ with_refs (marked_changed (a.entries s)) (d.entries s).refs
put-entry a m h x d s p i w old put_ drop =
    let marked : m.entries s ≡ marked_changed (a.entries s) = ap (λ (c : Core). c.entries s) put_.mark ∙ put-here a.entries s (marked_changed (a.entries s)) in
    let held_ : h.entries s ≡ with_refs (marked_changed (a.entries s)) (h.entries s).refs = put_.hold.step.bodies s p (at-mark a m s p i old put_.mark put_.at).place ∙ ap (λ (e : Entry). with_refs e (h.entries s).refs) marked in
    let wrote : x.entries s ≡ h.entries s = ap (λ (c : Core). c.entries s) put_.write in
    let at : place_of (x.entries s).state ≡ Some p = ap (λ (e : Entry). place_of e.state) wrote ∙ (at-held a m h x s p i w old put_).place in
    drop.step.bodies s p at ∙ ap (λ (e : Entry). with_refs e (d.entries s).refs) (wrote ∙ held_)

-- the object of a body is held
pub held-there : (a : Core) (disk : Disk) (s p i old : ℕ) → IsCore a → IsAt a s p i old → held a disk (a.entries s).name ≡ Some (object_at a disk (a.entries s) p)
held-there a disk s p i old core at = held-at a disk (a.entries s).name s p (core.found s (used-there a s p i old at)) at.place
