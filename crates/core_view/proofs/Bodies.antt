-- Bodies that come and go.
use Rattle.std.proofs.Common.{zero, suc, ◌≡◌, ℕ, pos, ◌+◌, true, false, List, [], ◌∷◌, length, replicate, get_or, refl, sym, ◌∙◌, ap, subst, arith, Some, None, count_by}
use Rattle.std.proofs.lemmas.Option.{get_or_from_slice_get}
use Rattle.std.specs.List.{slice_get}
use Rattle.long_names.specs.Objects.{fields_of}
use Rattle.long_names.specs.Words.{literal_count}
use Rattle.long_names.specs.declared.value.Value.{Value}
use Rattle.long_names.specs.declared.value.Value.TheVariants.{Int}
use Rattle.long_names.specs.declared.object.Object.{Object}
use Rattle.object_table.specs.declared.entry.Entry.{Entry}
use Rattle.object_table.specs.Entries.{put, place_of}
use Rattle.core_view.specs.Core.{Core, with_entry}
use Rattle.core_view.specs.Words.{meant, values_by, pointers, body_in, words_for, header_in}
use Rattle.core_view.specs.Held.{Disk, fields_there, object_at, held, held_in}
use Rattle.core_view.specs.Counts.{names, holders_in, holders, outside}
use Rattle.core_view.specs.Kept.{IsCore, IsBody, IsBacked, Keeps}
use Rattle.core_view.specs.Steps.{IsAt, IsOpening, IsClosing}
use Rattle.core_view.proofs.Lists.{count-cons}
use Rattle.core_view.proofs.Core.{placed-used, held-put}
use Rattle.core_view.proofs.Entries.{IsStep, at-entry, step-names, step-others, step-here, step-backed, step-outside, opens, closes}
use Rattle.core_view.proofs.Words.{one-zero, field-meant}

some-same : {A : Type 0} (x y : A) → Some x ≡ Some y → x ≡ y
some-same x y e = cc

-- words that are all lambdas mean the record's fields
pub values-lambda : (f : ℕ → ℕ → Value) (old : List Value) (d : Value) → ((i : ℕ) → f i 0 ≡ get_or old i d) → values_by f (replicate (length old) 0) ≡ old
values-lambda f [] d h = refl
values-lambda f (v ∷ vs) d h = ap (λ x. x ∷ values_by (λ k. f (suc k)) (replicate (length vs) 0)) (h 0) ∙ ap (λ t. v ∷ t) (values-lambda (λ k. f (suc k)) vs d (λ i. h (suc i)))

-- and name nothing
pub count-lambda : (t n : ℕ) → count_by (names t) (replicate n 0) ≡ 0
count-lambda t zero = refl
count-lambda t (suc n) = omega (arith, count-cons t 0 (replicate n 0), one-zero t, count-lambda t n)

-- ---- a body comes

pub leaf-holders : (c : Core) (s t : ℕ) → place_of (c.entries s).state ≡ None → count_by (names t) (holders c s) ≡ 0
unfolding holders
leaf-holders c s t leaf = ap (λ o. count_by (names t) (holders_in c.chunks (c.entries s) o)) leaf

refs-same : (c : Core) (s : ℕ) (e : Entry) (t : ℕ) → e.refs ≡ (c.entries s).refs → (put c.entries s e t).refs ≡ (c.entries t).refs
refs-same c s e t same = at-entry c.entries s e (λ q x. x.refs ≡ (c.entries q).refs) same (λ q away. refl) t

pub opening-step : (c : Core) (s p : ℕ) (e : Entry) → IsCore c → IsOpening c s p e → IsStep c s e
unfolding outside
opening-step c s p e core o = record {
  used = o.used;
  still = o.still;
  name = o.name;
  owned = λ r at. subst (λ (z : ℕ). (c.chunks z).owner ≡ s) (some r at) o.owner;
  long = λ r at. subst (λ (z : ℕ). length (c.chunks z).words ≡ words_for e.kind e.len (literal_count (header_in (c.chunks z).words))) (some r at) o.long;
  small = λ r at. o.small;
  classed = λ r at. o.class_short;
  counted = λ t.
      let most = core.counted t in
      let given = o.given t in
      let none = leaf-holders c s t o.leaf in
      let refs = refs-same c s e t o.refs in
      let here : count_by (names t) (holders_in c.chunks e (place_of e.state)) ≡ count_by (names t) (e.class.0 ∷ pointers e.kind (c.chunks p).words) = ap (λ x. count_by (names t) (holders_in c.chunks e x)) o.place in
      omega arith;
}
  where
    some : (r : ℕ) → place_of e.state ≡ Some r → p ≡ r
    some r h = some-same p r (sym o.place ∙ h)

pub opening-outside : (c : Core) (s p : ℕ) (e : Entry) (t : ℕ) → IsCore c → IsOpening c s p e → outside (with_entry c s e) t + count_by (names t) (e.class.0 ∷ pointers e.kind (c.chunks p).words) ≡ outside c t
opening-outside c s p e t core o =
    let all = step-outside c s e t core (opening-step c s p e core o) in
    let none = leaf-holders c s t o.leaf in
    let refs = refs-same c s e t o.refs in
    let here : count_by (names t) (holders_in c.chunks e (place_of e.state)) ≡ count_by (names t) (e.class.0 ∷ pointers e.kind (c.chunks p).words) = ap (λ x. count_by (names t) (holders_in c.chunks e x)) o.place in
    omega arith

-- the object of a body that means the record's
pub opening-object : (c : Core) (disk : Disk) (s p : ℕ) (e : Entry) (o : Object) → IsCore c → IsOpening c s p e → disk (c.entries s).name ≡ Some o → (c.entries e.class.0).name ≡ o.class
    → ((entries : ℕ → Entry) → body_in entries (fields_of o.body) (c.chunks p).words e.kind e.len ≡ o.body) → object_at (with_entry c s e) disk e p ≡ o
opening-object c disk s p e o core open_ there class body_ = λ j. record {
  class = (step-names c s e (opening-step c s p e core open_) e.class.0 ∙ class) j;
  body = (ap (λ x. body_in (put c.entries s e) (fields_there x) (c.chunks p).words e.kind e.len) (ap disk open_.name ∙ there) ∙ body_ (put c.entries s e)) j;
}

pub opening-keeps : (c : Core) (disk : Disk) (s p : ℕ) (e : Entry) (o : Object) → IsCore c → IsBacked c disk → IsOpening c s p e → e.flags.fresh ≡ false → disk (c.entries s).name ≡ Some o → object_at (with_entry c s e) disk e p ≡ o → Keeps disk c (with_entry c s e)
opening-keeps c disk s p e o core backed open_ old there same = record {
  backed = step-backed c disk disk s e core backed (opening-step c s p e core open_) (λ m away. refl) (λ r at. subst (λ (z : ℕ). IsBody (with_entry c s e) disk e z) (some-same p r (sym open_.place ∙ at)) body_there);
  held = opens c disk s e p o core (opening-step c s p e core open_) open_.leaf open_.place there same;
}
  where
    there' : disk e.name ≡ Some (object_at (with_entry c s e) disk e p)
    there' = ap disk open_.name ∙ there ∙ ap Some (sym same)

    body_there : IsBody (with_entry c s e) disk e p
    body_there = record {
      like = λ f. record { object = object_at (with_entry c s e) disk e p; there = there'; same_class = refl; same_kind = refl; same_len = refl; same_fields = refl };
      clean = λ f. there';
      absent = λ f. absurd (cc);
      whole = λ f. absurd (cc);
    }

-- ---- a new object, which has no record

pub making-held : (c : Core) (disk : Disk) (s p : ℕ) (e : Entry) → IsCore c → IsOpening c s p e → held (with_entry c s e) disk ≡ put (held c disk) (c.entries s).name (Some (object_at (with_entry c s e) disk e p))
making-held c disk s p e core o =
    held-put c (with_entry c s e) disk disk (c.entries s).name (step-others c disk disk s e core (opening-step c s p e core o) (λ m away. refl))
    ∙ ap (λ x. put (held c disk) (c.entries s).name x)
    (step-here c disk s e core (opening-step c s p e core o) ∙ ap (λ x. held_in (with_entry c s e) disk (c.entries s).name e x) o.place)

pub making-backed : (c : Core) (disk : Disk) (s p : ℕ) (e : Entry) → IsCore c → IsBacked c disk → IsOpening c s p e → e.flags.fresh ≡ true → e.flags.changed ≡ true → disk (c.entries s).name ≡ None
    → ((i : ℕ) → slice_get (pointers e.kind (c.chunks p).words) i ≡ Some 0 → ⊥) → IsBacked (with_entry c s e) disk
making-backed c disk s p e core backed o fresh changed none whole =
    step-backed c disk disk s e core backed (opening-step c s p e core o) (λ m away. refl) (λ r at. subst (λ (z : ℕ). IsBody (with_entry c s e) disk e z) (some-same p r (sym o.place ∙ at)) (record {
      like = λ f. absurd (cc);
      clean = λ f. absurd (cc);
      absent = λ f. ap disk o.name ∙ none;
      whole = λ f. whole;
    }))

-- ---- a body goes

pub closing-step : (c : Core) (s p : ℕ) (e : Entry) → IsCore c → IsClosing c s p e → IsStep c s e
closing-step c s p e core o = record {
  used = placed-used (c.entries s).state p o.place;
  still = o.still;
  name = o.name;
  owned = λ r at. let no = o.gone in absurd (cc);
  long = λ r at. let no = o.gone in absurd (cc);
  small = λ r at. let no = o.gone in absurd (cc);
  classed = λ r at. let no = o.gone in absurd (cc);
  counted = λ t.
      let most = core.counted t in
      let refs = refs-same c s e t o.refs in
      let here : count_by (names t) (holders_in c.chunks e (place_of e.state)) ≡ 0 = ap (λ x. count_by (names t) (holders_in c.chunks e x)) o.gone in
      omega arith;
}

-- what its class and fields named is outside then
pub closing-outside : (c : Core) (s p : ℕ) (e : Entry) (t : ℕ) → IsCore c → IsClosing c s p e → outside (with_entry c s e) t ≡ outside c t + count_by (names t) ((c.entries s).class.0 ∷ pointers (c.entries s).kind (c.chunks p).words)
unfolding holders
closing-outside c s p e t core o =
    let all : outside (with_entry c s e) t + count_by (names t) (holders_in c.chunks e (place_of e.state)) + (c.entries t).refs ≡ outside c t + count_by (names t) (holders_in c.chunks (c.entries s) (place_of (c.entries s).state)) + (put c.entries s e t).refs =
    step-outside c s e t core (closing-step c s p e core o) in
    let refs = refs-same c s e t o.refs in
    let here : count_by (names t) (holders_in c.chunks e (place_of e.state)) ≡ 0 = ap (λ x. count_by (names t) (holders_in c.chunks e x)) o.gone in
    let was : count_by (names t) (holders_in c.chunks (c.entries s) (place_of (c.entries s).state)) ≡ count_by (names t) ((c.entries s).class.0 ∷ pointers (c.entries s).kind (c.chunks p).words) = ap (λ x. count_by (names t) (holders_in c.chunks (c.entries s) x)) o.place in
    omega arith

pub closing-keeps : (c : Core) (disk : Disk) (s p : ℕ) (e : Entry) → IsCore c → IsBacked c disk → IsClosing c s p e → (c.entries s).flags.changed ≡ false → Keeps disk c (with_entry c s e)
closing-keeps c disk s p e core backed o clean = record {
  backed = step-backed c disk disk s e core backed (closing-step c s p e core o) (λ m away. refl) (λ r at. let no = o.gone in absurd (cc));
  held = closes c disk s e p core (closing-step c s p e core o) o.place o.gone ((backed.body s p o.place).clean clean);
}

-- ---- lambdas

-- in a body that is as its record a lambda means what the word there means
pub clean-lambda : (c : Core) (disk : Disk) (s p i w : ℕ) → IsBacked c disk → IsAt c s p i w → (c.entries s).flags.changed ≡ false → meant c.entries (fields_there (disk (c.entries s).name)) i 0 ≡ meant c.entries (fields_there (disk (c.entries s).name)) i w
clean-lambda c disk s p i w backed at clean =
    let there = (backed.body s p at.place).clean clean in
    ap (λ o. get_or (fields_there o) i (Int (pos 0))) there
    ∙ get_or_from_slice_get (fields_of (object_at c disk (c.entries s) p).body) i (meant c.entries (fields_there (disk (c.entries s).name)) i w) (Int (pos 0)) (field-meant c disk s p i w at)
