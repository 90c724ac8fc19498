-- What is taken out of an object that isn't lost isn't lost: fields, literals, the home of a context.
use Rattle.std.proofs.Common.{◌≡◌, ℕ, ◌-◌, Bool, true, false, cond, nat_le, List, length, Option, Some, None, refl, ◌∙◌, ap, subst}
use Rattle.std.specs.List.{slice_get}
use Rattle.std.specs.Option.{option_and_then}
use Rattle.long_names.specs.declared.value.Value.{Value}
use Rattle.long_names.specs.declared.value.Value.TheVariants.{Int, Ref}
use Rattle.long_names.specs.declared.object.Object.{Object}
use Rattle.long_names.specs.declared.object.Body.{Body}
use Rattle.long_names.specs.declared.object.Body.TheVariants.{Pointers, Words, Bytes, Method}
use Rattle.long_names.specs.Objects.{fields_of, field_of, pointers_of, literals_of}
use Rattle.long_names.proofs.ThinLemmas.{holds-field}
use Rattle.blue_model.specs.declared.indexes.TheConstants.{METHOD_INDEX, HOME_INDEX}
use Rattle.blue_model.specs.Parts.{at_least, shaped, field, home_by, home_in, home_of, literal}
use Rattle.blue_model.specs.Messages.{last_literal}
use Rattle.blue_model.specs.Alike.{Lost, IsKept, IsHeld, IsWithin}

-- the values of an object of pointers are its fields
pub shaped_fields : (least : ℕ) (o : Object) (values : List Value) → shaped least o ≡ Some values → fields_of o.body ≡ values
shaped_fields least o values e = go o.body e
  where
    long : (vs : List Value) (b : Bool) → cond b (Some vs) None ≡ Some values → vs ≡ values
    long vs true f = cc
    long vs false f = let no : ◌≡◌ {A = Option (List Value)} None (Some values) = f in absurd (cc)

    go : (b : Body) → option_and_then (at_least least) (pointers_of b) ≡ Some values → fields_of b ≡ values
    go (Pointers vs) f = long vs (nat_le least (length vs)) f
    go (Words words) f = let no : ◌≡◌ {A = Option (List Value)} None (Some values) = f in absurd (cc)
    go (Bytes bytes) f = let no : ◌≡◌ {A = Option (List Value)} None (Some values) = f in absurd (cc)
    go (Method header literals code) f = let no : ◌≡◌ {A = Option (List Value)} None (Some values) = f in absurd (cc)

field_kept : (w : Lost) (o : Object) → IsHeld w o → (i : ℕ) (v : Value) → field_of o.body i ≡ Some v → IsKept w v
field_kept w o h i v e = record { kept = λ n f. h.held n (holds-field o i n (e ∙ ap (λ x. Some x) f)) }

value_kept : (w : Lost) (o : Object) → IsHeld w o → (least : ℕ) (values : List Value) → shaped least o ≡ Some values → (i : ℕ) (v : Value) → slice_get values i ≡ Some v → IsKept w v
value_kept w o h least values e i v f = field_kept w o h i v (ap (λ vs. slice_get vs i) (shaped_fields least o values e) ∙ f)

pub within_field : {w : Lost} (least i : ℕ) → IsWithin w (field least i)
unfolding field
within_field {w} least i = record { within = λ o v h e. go o v h (shaped least o) refl e }
  where
    go : (o : Object) (v : Value) → IsHeld w o → (x : Option (List Value)) → shaped least o ≡ x → option_and_then (λ (values : List Value). slice_get values i) x ≡ Some v → IsKept w v
    go o v h None e f = let no : ◌≡◌ {A = Option Value} None (Some v) = f in absurd (cc)
    go o v h (Some values) e f = value_kept w o h least values e i v f

pub within_literal : {w : Lost} (i : ℕ) → IsWithin w (literal i)
unfolding literal
within_literal {w} i = record { within = λ o v h e. field_kept w o h i v (go o.body v e) }
  where
    go : (b : Body) (v : Value) → option_and_then (λ (literals : List Value). slice_get literals i) (literals_of b) ≡ Some v → field_of b i ≡ Some v
    go (Pointers values) v e = let no : ◌≡◌ {A = Option Value} None (Some v) = e in absurd (cc)
    go (Words words) v e = let no : ◌≡◌ {A = Option Value} None (Some v) = e in absurd (cc)
    go (Bytes bytes) v e = let no : ◌≡◌ {A = Option Value} None (Some v) = e in absurd (cc)
    go (Method header literals code) v e = e

literals_kept : (w : Lost) (o : Object) → IsHeld w o → (literals : List Value) → literals_of o.body ≡ Some literals → (i : ℕ) (v : Value) → slice_get literals i ≡ Some v → IsKept w v
literals_kept w o h literals e i v f = field_kept w o h i v (go o.body e)
  where
    go : (b : Body) → literals_of b ≡ Some literals → field_of b i ≡ Some v
    go (Pointers values) g = let no : ◌≡◌ {A = Option (List Value)} None (Some literals) = g in absurd (cc)
    go (Words words) g = let no : ◌≡◌ {A = Option (List Value)} None (Some literals) = g in absurd (cc)
    go (Bytes bytes) g = let no : ◌≡◌ {A = Option (List Value)} None (Some literals) = g in absurd (cc)
    go (Method header all code) g = let same : all ≡ literals = cc in ap (λ vs. slice_get vs i) same ∙ f

pub within_last_literal : {w : Lost} → IsWithin w last_literal
unfolding last_literal
within_last_literal {w} = record { within = λ o v h e. go o v h (literals_of o.body) refl e }
  where
    go : (o : Object) (v : Value) → IsHeld w o → (x : Option (List Value)) → literals_of o.body ≡ x → option_and_then (λ (literals : List Value). slice_get literals (length literals - 1)) x ≡ Some v → IsKept w v
    go o v h None e f = let no : ◌≡◌ {A = Option Value} None (Some v) = f in absurd (cc)
    go o v h (Some literals) e f = literals_kept w o h literals e (length literals - 1) v f

-- the home is the context itself or in a field
pub within_home_of : {w : Lost} (context : Value) → IsKept w context → IsWithin w (home_of context)
unfolding home_of
within_home_of {w} context k = record { within = λ o v h e. go o v h (shaped 6 o) refl e }
  where
    by : (third fifth : Option Value) (v : Value) → ((u : Value) → fifth ≡ Some u → IsKept w u) → home_by context third fifth ≡ Some v → IsKept w v
    by None fifth v h e = let no : ◌≡◌ {A = Option Value} None (Some v) = e in absurd (cc)
    by (Some (Int z)) fifth v h e = h v e
    by (Some (Ref n)) fifth v h e = let same : context ≡ v = cc in subst (λ u. IsKept w u) same k

    go : (o : Object) (v : Value) → IsHeld w o → (x : Option (List Value)) → shaped 6 o ≡ x → option_and_then (home_in context) x ≡ Some v → IsKept w v
    go o v h None e f = let no : ◌≡◌ {A = Option Value} None (Some v) = f in absurd (cc)
    go o v h (Some values) e f = by (slice_get values METHOD_INDEX) (slice_get values HOME_INDEX) v (λ u g. value_kept w o h 6 values e HOME_INDEX u g) f
