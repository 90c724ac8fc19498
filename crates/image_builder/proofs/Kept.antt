-- What a builder keeps, how much its objects hold, and how their records are written.
use Rattle.std.proofs.Common.{◌≡◌, ℕ, ◌+◌, ◌*◌, ◌<◌, ◌≤◌, Bool, true, false, cond, eqb, List, ◌∷◌, ◌++◌, length, Some, Result, Ok, Err, OnOk, OnErr, lit<, sym, ◌∙◌, ap, subst, arith, append_assoc}
use Rattle.std.proofs.lemmas.Map.Views.{All-found}
use Rattle.std.proofs.lemmas.List.Concat.{flat_map-cons}
use Rattle.std.proofs.lemmas.List.Sums.{count_by-le-length, sum_by-le}
use Rattle.std.specs.Cmp.{nat_cmp_total}
use Rattle.std.specs.Ordering.{nat_cmp}
use Rattle.std.specs.List.{All, count_by, sum_by}
use Rattle.std.specs.Map.{lookup}
use Rattle.std.specs.BTreeMap.{BTreeMap, get, is_at, IsOrdered, IsUnchanged, Updates}
use Rattle.long_names.specs.Objects.{HasSize, IsBody, fields_of, holdings, is_ref}
use Rattle.long_names.specs.Record.{record_text}
use Rattle.long_names.specs.declared.object.Body.{Body}
use Rattle.long_names.specs.declared.object.Body.TheVariants.{Pointers, Words, Bytes, Method}
use Rattle.long_names.specs.declared.object.Object.{Object}
use Rattle.object_memory.proofs.MapLaws.{updated}
use Rattle.image_builder.specs.Sizes.{Fits, IsKept}
use Rattle.image_builder.specs.Parts.{words_of, rec_with, texts_with}
use Rattle.image_builder.specs.declared.builder.Builder.{Builder}

-- ---- what is kept

kept-put : (m n : BTreeMap ℕ Object) (name : ℕ) (x : Object) → ((q : ℕ) → get nat_cmp n q ≡ cond (eqb q name) (Some x) (get nat_cmp m q)) → IsOrdered nat_cmp n → IsKept m → Fits x.body → IsKept n
kept-put m n name x put ordered kept fits = record { fits = λ q o at. go q o (eqb q name) (sym (put q) ∙ at); ordered = ordered }
  where
    go : (q : ℕ) (o : Object) (b : Bool) → cond b (Some x) (get nat_cmp m q) ≡ Some o → Fits o.body
    go q o true e = let same : x ≡ o = cc in subst (λ (y : Object). Fits y.body) same fits
    go q o false e = kept.fits q o e

-- whatever an insert answered
pub kept-insert : {T E : Type 0} (r : Result T E) (m n : BTreeMap ℕ Object) (name : ℕ) (x : Object) → OnOk r (Updates nat_cmp m n name (Some x)) → OnErr r (IsUnchanged m n) → IsOrdered nat_cmp n → IsKept m → Fits x.body → IsKept n
kept-insert (Ok a) m n name x ok err ordered kept fits = kept-put m n name x (updated m n name (Some x) ok) ordered kept fits
kept-insert (Err e) m n name x ok err ordered kept fits = record { fits = λ q o at. kept.fits q o (ap (λ es. lookup (is_at (nat_cmp q)) es) (sym err) ∙ at); ordered = ordered }

pub entries-fit : (b : Builder) → All (λ (e : ℕ × Object). Fits e.1.body) b.objects.entries
entries-fit b = λ k d low. b.kept.fits _ _ (All-found nat_cmp_total b.objects b.kept.ordered k d low)

-- ---- what the objects hold

fields-few : (body : Body) → HasSize body → length (fields_of body) < 65536
fields-few (Pointers values) h = h
fields-few (Words words) h = lit< tt
fields-few (Bytes bytes) h = lit< tt
fields-few (Method header literals code) h = let stated = h.1 in omega arith

holdings-few : (name : ℕ) (o : Object) → IsBody o.body → holdings o name ≤ 65536
holdings-few name o is = go (eqb o.class name) (fields-few o.body is.size) (count_by-le-length (is_ref name) (fields_of o.body))
  where
    go : (b : Bool) → length (fields_of o.body) < 65536 → count_by (is_ref name) (fields_of o.body) ≤ length (fields_of o.body) → cond b 1 0 + count_by (is_ref name) (fields_of o.body) ≤ 65536
    go true few part = omega arith
    go false few part = omega arith

pub words-few : (es : List (ℕ × Object)) (name : ℕ) → All (λ (e : ℕ × Object). IsBody e.1.body) es → sum_by (words_of name) es ≤ 65536 * length es
words-few es name bodies = let total = sum_by-le (words_of name) 65536 es (λ k d low. holdings-few name _ (bodies k d low)) in omega arith

-- ---- how records are written

-- one record more
pub written-on : (counts : ℕ → ℕ) (out new text : List ℕ) (e : ℕ × Object) (left rest : List (ℕ × Object)) → new ≡ out ++ record_text (rec_with counts e) → left ≡ e ∷ rest → out ++ texts_with counts left ≡ text → new ++ texts_with counts rest ≡ text
written-on counts out new text e left rest more turn so_far =
    ap (λ (t : List ℕ). t ++ texts_with counts rest) more
    ∙ append_assoc out (record_text (rec_with counts e)) (texts_with counts rest)
    ∙ ap (λ (t : List ℕ). out ++ t) (sym (flat_map-cons (λ (e : ℕ × Object). record_text (rec_with counts e)) e rest))
    ∙ ap (λ (es : List (ℕ × Object)). out ++ texts_with counts es) (sym turn)
    ∙ so_far
