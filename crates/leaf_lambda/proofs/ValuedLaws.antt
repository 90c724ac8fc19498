-- Every field stays a value: after a store, and where an object is made.
use Rattle.std.proofs.Common.{zero, suc, ◌≡◌, ◌≢◌, ◌⊎◌, inl, inr, ⊎_elim, ℕ, List, [], ◌∷◌, replicate, refl, sym, ◌∙◌, ap, subst, Some}
use Rattle.std.proofs.lemmas.Bool.{cases_eq}
use Rattle.std.specs.List.{slice_get, slice_set}
use Rattle.long_names.specs.Objects.{fields_of, with_field, with_bytes, with_words}
use Rattle.long_names.specs.Words.{IsValue}
use Rattle.long_names.specs.declared.value.Value.{Value}
use Rattle.long_names.specs.declared.object.Kind.{Kind}
use Rattle.long_names.specs.declared.object.Kind.TheVariants as kind
use Rattle.long_names.specs.declared.object.Body.{Body}
use Rattle.long_names.specs.declared.object.Body.TheVariants as body
use Rattle.long_names.specs.declared.object.Object.{Object}
use Rattle.object_table.specs.Entries.{put}
use Rattle.core_view.specs.Held.{Disk}
use Rattle.core_view.specs.Kept.{IsValued}
use Rattle.core_view.proofs.Lists.{put-here, put-there}
use Rattle.leaf_lambda.specs.Making.{body_new}

-- another object of which each field is a value
pub object-valued : (at now : Disk) (n : ℕ) (o : Object) → now ≡ put at n (Some o) → ((j : ℕ) (x : Value) → slice_get (fields_of o.body) j ≡ Some x → IsValue x) → IsValued at → IsValued now
object-valued at now n o is fields valued m j p x has field = ⊎_elim here elsewhere (cases_eq m n)
  where
    there : put at n (Some o) m ≡ Some p
    there = ap (λ (f : Disk). f m) (sym is) ∙ has

    object : (q r : Object) → Some q ≡ Some r → q ≡ r
    object q r e = cc

    here : m ≡ n → IsValue x
    here e =
        let same : o ≡ p = object o p (sym (put-here at n (Some o)) ∙ ap (λ (k : ℕ). put at n (Some o) k) (sym e) ∙ there) in
        fields j x (ap (λ (q : Object). slice_get (fields_of q.body) j) same ∙ field)

    elsewhere : m ≢ n → IsValue x
    elsewhere e = valued m j p x (sym (put-there at n (Some o) m e) ∙ there) field

-- ---- a store into a field

get-other : (vs : List Value) (i j : ℕ) (v x : Value) → slice_get (slice_set vs i v) j ≡ Some x → (x ≡ v) ⊎ (slice_get vs j ≡ Some x)
get-other [] i j v x e = inr e
get-other (y ∷ ys) zero zero v x e = inl (cc)
get-other (y ∷ ys) zero (suc j) v x e = inr e
get-other (y ∷ ys) (suc i) zero v x e = inr e
get-other (y ∷ ys) (suc i) (suc j) v x e = get-other ys i j v x e

field-other : (b : Body) (i j : ℕ) (v x : Value) → slice_get (fields_of (with_field b i v)) j ≡ Some x → (x ≡ v) ⊎ (slice_get (fields_of b) j ≡ Some x)
field-other (body.Pointers values) i j v x e = get-other values i j v x e
field-other (body.Words words) i j v x e = inr e
field-other (body.Bytes bytes) i j v x e = inr e
field-other (body.Method header literals code) i j v x e = get-other literals i j v x e

pub field-valued : (at now : Disk) (n i : ℕ) (o : Object) (v : Value) → at n ≡ Some o → now ≡ put at n (Some (record { class = o.class; body = with_field o.body i v })) → IsValue v → IsValued at → IsValued now
field-valued at now n i o v there is value valued = object-valued at now n (record { class = o.class; body = with_field o.body i v }) is
    (λ j x e. ⊎_elim (λ (f : x ≡ v). subst IsValue (sym f) value) (λ (f : slice_get (fields_of o.body) j ≡ Some x). valued n j o x there f) (field-other o.body i j v x e)) valued

-- ---- stores of words and bytes, which leave the fields

words-fields : (b : Body) (i : ℕ) (run : List ℕ) → fields_of (with_words b i run) ≡ fields_of b
words-fields (body.Pointers values) i run = refl
words-fields (body.Words words) i run = refl
words-fields (body.Bytes bytes) i run = refl
words-fields (body.Method header literals code) i run = refl

bytes-fields : (b : Body) (i : ℕ) (run : List ℕ) → fields_of (with_bytes b i run) ≡ fields_of b
bytes-fields (body.Pointers values) i run = refl
bytes-fields (body.Words words) i run = refl
bytes-fields (body.Bytes bytes) i run = refl
bytes-fields (body.Method header literals code) i run = refl

pub words-valued : (at now : Disk) (n i : ℕ) (o : Object) (run : List ℕ) → at n ≡ Some o → now ≡ put at n (Some (record { class = o.class; body = with_words o.body i run })) → IsValued at → IsValued now
words-valued at now n i o run there is valued = object-valued at now n (record { class = o.class; body = with_words o.body i run }) is
    (λ j x e. valued n j o x there (ap (λ (vs : List Value). slice_get vs j) (sym (words-fields o.body i run)) ∙ e)) valued

pub bytes-valued : (at now : Disk) (n i : ℕ) (o : Object) (run : List ℕ) → at n ≡ Some o → now ≡ put at n (Some (record { class = o.class; body = with_bytes o.body i run })) → IsValued at → IsValued now
bytes-valued at now n i o run there is valued = object-valued at now n (record { class = o.class; body = with_bytes o.body i run }) is
    (λ j x e. valued n j o x there (ap (λ (vs : List Value). slice_get vs j) (sym (bytes-fields o.body i run)) ∙ e)) valued

-- ---- a new object

get-same : (n j : ℕ) (v x : Value) → slice_get (replicate n v) j ≡ Some x → x ≡ v
get-same zero j v x e = cc
get-same (suc n) zero v x e = cc
get-same (suc n) (suc j) v x e = get-same n j v x e

new-fields : (k : Kind) (len header j : ℕ) (v x : Value) → slice_get (fields_of (body_new k len header v)) j ≡ Some x → x ≡ v
new-fields kind.Pointers len header j v x e = get-same len j v x e
new-fields kind.Words len header j v x e = cc
new-fields kind.Bytes len header j v x e = cc
new-fields kind.Method len header j v x e = get-same _ j v x e

pub new-valued : (at now : Disk) (n class : ℕ) (k : Kind) (len header : ℕ) (v : Value) → now ≡ put at n (Some (record { class = class; body = body_new k len header v })) → IsValue v → IsValued at → IsValued now
new-valued at now n class k len header v is value = object-valued at now n (record { class = class; body = body_new k len header v }) is (λ j x e. subst IsValue (sym (new-fields k len header j v x e)) value)
