-- Counting the words of objects.
-- `Raises by old new` says that `by` words more hold each name that is there, for a word, a list and an object alike, and adds up
-- (`raises-then`), so each loop carries it.
use Rattle.std.specs.Prelude.{◌↔◌, ◌&&◌, ◌==◌, nat_lt}
use Rattle.std.proofs.Common.{zero, suc, ◌≡◌, ◌≢◌, ℕ, ℤ, ◌+◌, ◌-◌, ◌<◌, ◌≤◌, ◌%◌, ◌^◌, Bool, true, false, cond, eqb, ◌||◌, ◌*◌, get_or, List, [], ◌∷◌, ◌++◌, length, map, take, drop, Option, Some, None, is_some, refl, sym, ◌∙◌, ap, ap₂, subst, arith, ⊎_elim}
use Rattle.std.proofs.lemmas.Grind.{common_steps}
use Rattle.std.proofs.lemmas.Bool.{cases_lt, eq-eqb, eqb-true, ne_eqb}
use Rattle.std.proofs.lemmas.List.Sums.{count_by-le-length, count_by_more_no, count_by_more_yes}
use Rattle.std.proofs.lemmas.List.{length-map}
use Rattle.std.proofs.lemmas.Option.{get_or_from_slice_get, slice_get_read, slice_get_within}
use Rattle.std.specs.List.{count_by, list_any, slice_get, slice_set}
use Rattle.std.specs.Option.{option_map}
use Rattle.long_names.specs.declared.value.Value.{Value}
use Rattle.long_names.specs.declared.value.Value.TheVariants.{Int, Ref}
use Rattle.long_names.specs.declared.object.Object.{Object}
use Rattle.long_names.specs.Objects.{fields_of, holdings, is_ref}
use Rattle.image_format.proofs.Writing.{push_taken}
use Rattle.long_names.specs.Words.{literal_count, value_of}
use Rattle.object_record.specs.Objects.{body_of, int_in, object_in, value_in}
use Rattle.object_record.specs.Raw.{HasRawSize, RawBody, RawBytes, RawMethod, RawPointers, RawRecord, RawWords, longs_of, stated_by}
use Rattle.object_record.proofs.ObjectLaws.{fields-values}
use Rattle.long_names.specs.Names.{is_known}
use Rattle.image_reader.specs.Judged.{is_exact, missing_among}
use Rattle.image_reader.specs.declared.tally.Tally.{Tally}
use Rattle.image_reader.specs.Names.{IsRising, is_among, number_beside}
use Rattle.image_reader.specs.Tally.{counted, IsFresh, Raises, HasRoom, IsCountable}

-- ---- numbers beside names

first-below : (n : ℕ) (ns : List ℕ) (i w : ℕ) → IsRising (n ∷ ns) → slice_get ns i ≡ Some w → n < w
first-below n ns i w rising e =
    let low = slice_get_within ns i w e in
    let here : get_or ns i w ≡ w = get_or_from_slice_get ns i w w e in
    subst (λ (m : ℕ). n < m) here (rising 0 (suc i) w (omega arith) (omega (arith, low)))

pub later-rise : (n : ℕ) (ns : List ℕ) → IsRising (n ∷ ns) → IsRising ns
later-rise n ns rising = λ i j d lt within. rising (suc i) (suc j) d (omega (arith, lt)) (omega (arith, within))

nothing-at : {P : Type 0} (i w : ℕ) → slice_get [] i ≡ Some w → P
nothing-at i w e = let no : ◌≡◌ {A = Option ℕ} None (Some w) = e in absurd (cc)

-- the number beside the name at a place
pub beside-here : (ns cs : List ℕ) (i w c : ℕ) → IsRising ns → slice_get ns i ≡ Some w → slice_get cs i ≡ Some c → number_beside ns cs w ≡ Some c
beside-here [] cs i w c rising e f = nothing-at i w e
beside-here (n ∷ ns) [] i w c rising e f = nothing-at i c f
beside-here (n ∷ ns) (d ∷ cs) zero w c rising e f =
    let name : n ≡ w = cc in
    let number : d ≡ c = cc in
    ap₂ (λ (b : Bool) (k : ℕ). cond b (Some k) (number_beside ns cs w)) (eq-eqb n w name) number
beside-here (n ∷ ns) (d ∷ cs) (suc i) w c rising e f =
    let low = first-below n ns i w rising e in
    ap (λ (b : Bool). cond b (Some d) (number_beside ns cs w)) (ne_eqb n w (λ same. omega (arith, low, same)))
    ∙ beside-here ns cs i w c (later-rise n ns rising) e f

-- and once it is another number
pub beside-set : (ns cs : List ℕ) (i w c new q : ℕ) → IsRising ns → slice_get ns i ≡ Some w → slice_get cs i ≡ Some c → number_beside ns (slice_set cs i new) q ≡ cond (eqb w q) (Some new) (number_beside ns cs q)
beside-set [] cs i w c new q rising e f = nothing-at i w e
beside-set (n ∷ ns) [] i w c new q rising e f = nothing-at i c f
beside-set (n ∷ ns) (d ∷ cs) zero w c new q rising e f =
    let name : n ≡ w = cc in
    subst (λ (m : ℕ). cond (eqb n q) (Some new) (number_beside ns cs q) ≡ cond (eqb m q) (Some new) (cond (eqb n q) (Some d) (number_beside ns cs q))) name (go (eqb n q))
  where
    go : (b : Bool) → cond b (Some new) (number_beside ns cs q) ≡ cond b (Some new) (cond b (Some d) (number_beside ns cs q))
    go true = refl
    go false = refl
beside-set (n ∷ ns) (d ∷ cs) (suc i) w c new q rising e f =
    ap (λ (o : Option ℕ). cond (eqb n q) (Some d) o) (beside-set ns cs i w c new q (later-rise n ns rising) e f) ∙ go (eqb n q) (eqb w q) refl refl
  where
    go : (a b : Bool) → eqb n q ≡ a → eqb w q ≡ b → cond a (Some d) (cond b (Some new) (number_beside ns cs q)) ≡ cond b (Some new) (cond a (Some d) (number_beside ns cs q))
    go true true x y = let low = first-below n ns i w rising e in absurd (let no : ⊥ = omega (arith, low, eqb-true n q x, eqb-true w q y) in no)
    go true false x y = refl
    go false true x y = refl
    go false false x y = refl

-- none beside a name that isn't there
pub beside-none : (ns cs : List ℕ) (w : ℕ) → ((k : ℕ) → k < length ns → get_or ns k 0 ≢ w) → number_beside ns cs w ≡ None
beside-none [] cs w apart = refl
beside-none (n ∷ ns) [] w apart = refl
beside-none (n ∷ ns) (d ∷ cs) w apart =
    ap (λ (b : Bool). cond b (Some d) (number_beside ns cs w)) (ne_eqb n w (apart 0 (omega arith)))
    ∙ beside-none ns cs w (λ k low. apart (suc k) (omega (arith, low)))

-- zeros beside names
pub beside-zeros : (ns cs : List ℕ) (q : ℕ) → length cs ≡ length ns → ((k : ℕ) → k < length cs → get_or cs k 0 ≡ 0) → number_beside ns cs q ≡ cond (is_among q ns) (Some 0) None
beside-zeros [] cs q many zeros = refl
beside-zeros (n ∷ ns) [] q many zeros = absurd (let no : ⊥ = omega (arith, many) in no)
beside-zeros (n ∷ ns) (d ∷ cs) q many zeros =
    let none : d ≡ 0 = zeros 0 (omega arith) in
    ap₂ (λ (k : ℕ) (o : Option ℕ). cond (eqb n q) (Some k) o) none (beside-zeros ns cs q (omega (arith, many)) (λ k low. zeros (suc k) (omega (arith, low)))) ∙ go (eqb n q)
  where
    go : (b : Bool) → ◌≡◌ {A = Option ℕ} (cond b (Some 0) (cond (is_among q ns) (Some 0) None)) (cond (b || is_among q ns) (Some 0) None)
    go true = refl
    go false = refl

-- ---- halving

pub search-up : (ns : List ℕ) (middle name word : ℕ) → IsRising ns → slice_get ns middle ≡ Some name → name < word → (k : ℕ) → k < middle + 1 → get_or ns k 0 < word
search-up ns middle name word rising at lt k low =
    let here = get_or_from_slice_get ns middle name 0 at in
    ⊎_elim
    (λ (before : k < middle). omega (arith, rising k middle 0 before (slice_get_within ns middle name at), here, lt))
    (λ (le : middle ≤ k). let same : k ≡ middle = omega (arith, le, low) in subst (λ (j : ℕ). get_or ns j 0 < word) (sym same) (omega (arith, here, lt)))
    (cases_lt k middle)

pub search-down : (ns : List ℕ) (middle name word : ℕ) → IsRising ns → slice_get ns middle ≡ Some name → word < name → (k : ℕ) → middle ≤ k → k < length ns → word < get_or ns k 0
search-down ns middle name word rising at lt k le within =
    let here = get_or_from_slice_get ns middle name 0 at in
    ⊎_elim
    (λ (before : middle < k). omega (arith, rising middle k 0 before within, here, lt))
    (λ (low : k ≤ middle). let same : k ≡ middle = omega (arith, le, low) in subst (λ (j : ℕ). word < get_or ns j 0) (sym same) (omega (arith, here, lt)))
    (cases_lt middle k)

-- what is below here or above there isn't at all
pub search-ends : (ns : List ℕ) (low high word : ℕ) → high ≤ low → ((k : ℕ) → k < low → get_or ns k 0 < word) → ((k : ℕ) → high ≤ k → k < length ns → word < get_or ns k 0) → (k : ℕ) → k < length ns → get_or ns k 0 ≢ word
search-ends ns low high word met before behind k within e =
    ⊎_elim
    (λ (lt : k < low). omega (arith, before k lt, e))
    (λ (le : low ≤ k). omega (arith, behind k (omega (arith, met, le)) within, e))
    (cases_lt k low)

-- ---- raising

pub plus-none : (o : Option ℕ) → o ≡ option_map (λ c. c + 0) o
plus-none None = refl
plus-none (Some c) = ap (λ k. Some k) (let e : c ≡ c + 0 = omega arith in e)

plus-twice : (a b : ℕ) (o : Option ℕ) → option_map (λ c. c + b) (option_map (λ c. c + a) o) ≡ option_map (λ c. c + (a + b)) o
plus-twice a b None = refl
plus-twice a b (Some c) = ap (λ k. Some k) (let e : c + a + b ≡ c + (a + b) = omega arith in e)

pub raises-then : (f g by : ℕ → ℕ) (a b c : Tally) → Raises f a b → Raises g b c → ((q : ℕ) → by q ≡ f q + g q) → Raises by a c
raises-then f g by a b c x y sum = record {
  more = λ q.
      y.more q
      ∙ ap (λ o. option_map (λ n. n + g q) o) (x.more q)
      ∙ plus-twice (f q) (g q) (counted a q)
      ∙ ap (λ (n : ℕ). option_map (λ k. k + n) (counted a q)) (sym (sum q));
}

-- one word more
pub raised-one : (name c : ℕ) (f g : ℕ → Option ℕ) → f name ≡ Some c → ((q : ℕ) → g q ≡ cond (eqb name q) (Some (c + 1)) (f q)) → (q : ℕ) → g q ≡ option_map (λ n. n + cond (eqb name q) 1 0) (f q)
raised-one name c f g there put q = put q ∙ go (eqb name q) refl
  where
    go : (b : Bool) → eqb name q ≡ b → cond b (Some (c + 1)) (f q) ≡ option_map (λ n. n + cond b 1 0) (f q)
    go true e = sym (ap (λ (o : Option ℕ). option_map (λ n. n + 1) o) (ap f (sym (eqb-true name q e)) ∙ there))
    go false e = plus-none (f q)

map-there : (n : ℕ) (o p : Option ℕ) → p ≡ option_map (λ c. c + n) o → is_some p ≡ is_some o
map-there n None p e = ap is_some e
map-there n (Some c) p e = ap is_some e

pub names-stay : (by : ℕ → ℕ) (a b : Tally) (q : ℕ) → Raises by a b → is_some (counted b q) ≡ is_some (counted a q)
names-stay by a b q x = map-there (by q) (counted a q) (counted b q) (x.more q)

pub room-left : (all used words : ℕ) (by : ℕ → ℕ) (a b : Tally) → HasRoom all a → Raises by a b → ((q : ℕ) → by q ≤ used) → used + words ≤ all → HasRoom words b
room-left all used words by a b room x few low = record { room = λ q c e. go q c (counted a q) refl (sym (x.more q) ∙ e) }
  where
    go : (q c : ℕ) (o : Option ℕ) → counted a q ≡ o → option_map (λ n. n + by q) (counted a q) ≡ Some c → c + words < 2 ^ 64
    go q c None is e = let no : ◌≡◌ {A = Option ℕ} None (Some c) = ap (λ o. option_map (λ n. n + by q) o) (sym is) ∙ e in absurd (cc)
    go q c (Some n) is e =
        let same : ◌≡◌ {A = Option ℕ} (Some (n + by q)) (Some c) = ap (λ o. option_map (λ n. n + by q) o) (sym is) ∙ e in
        let sum : n + by q ≡ c = cc in
        let fits = room.room q n is in
        let most = few q in
        omega arith

-- and fewer
pub room-less : (words less : ℕ) (t : Tally) → less ≤ words → HasRoom words t → HasRoom less t
room-less words less t low room = record { room = λ q c e. omega (arith, room.room q c e, low) }

-- ---- values

pub few-refs : (q : ℕ) (values : List Value) (i : ℕ) → i ≤ length values → count_by (is_ref q) (take i values) ≤ i
few-refs q values i low = let few = count_by-le-length (is_ref q) (take i values) in grind (arith, common_steps)

any-at : (p : Value → Bool) (values : List Value) (i : ℕ) (v : Value) → slice_get values i ≡ Some v → p v ≡ true → list_any p values ≡ true
any-at p [] i v e is = cc
any-at p (x ∷ xs) zero v e is = let same : x ≡ v = cc in ap (λ b. b || list_any p xs) (ap p same ∙ is)
any-at p (x ∷ xs) (suc i) v e is = go (p x) (any-at p xs i v e is)
  where
    go : (b : Bool) → list_any p xs ≡ true → (b || list_any p xs) ≡ true
    go true rest = refl
    go false rest = rest

any-push : (p : Value → Bool) (values : List Value) (v : Value) → list_any p (values ++ v ∷ []) ≡ true → p v ≡ false → list_any p values ≡ true
any-push p [] v e not = let none : ◌≡◌ {A = Bool} false true = sym (ap (λ b. b || false) not) ∙ e in absurd (cc)
any-push p (x ∷ xs) v e not = go (p x) e (any-push p xs v)
  where
    go : (b : Bool) → (b || list_any p (xs ++ v ∷ [])) ≡ true → (list_any p (xs ++ v ∷ []) ≡ true → p v ≡ false → list_any p xs ≡ true) → (b || list_any p xs) ≡ true
    go true e rest = refl
    go false e rest = rest e not

pub there-more : (by : ℕ → ℕ) (a b : Tally) (values : List Value) (i : ℕ) (v : Value) → slice_get values i ≡ Some v → Raises by a b → ((q : ℕ) → list_any (is_ref q) (take i values) ≡ true → is_some (counted a q) ≡ true) → ((q : ℕ) → is_ref q v ≡ true → is_some (counted b q) ≡ true) → (q : ℕ) → list_any (is_ref q) (take (i + 1) values) ≡ true → is_some (counted a q) ≡ true
there-more by a b values i v at x old here q any = go (is_ref q v) refl
  where
    all : list_any (is_ref q) (take i values ++ v ∷ []) ≡ true
    all = sym (ap (list_any (is_ref q)) (push_taken values i v at)) ∙ any

    go : (is : Bool) → is_ref q v ≡ is → is_some (counted a q) ≡ true
    go true e = sym (names-stay by a b q x) ∙ here q e
    go false e = old q (any-push (is_ref q) (take i values) v all e)

pub value-missing : (by : ℕ → ℕ) (a b : Tally) (values : List Value) (i : ℕ) (v : Value) → slice_get values i ≡ Some v → Raises by a b → ((q : ℕ) → list_any (is_ref q) values ≡ true → is_some (counted a q) ≡ true) → (q : ℕ) → is_ref q v ≡ true → is_some (counted b q) ≡ true
value-missing by a b values i v at x all q is = names-stay by a b q x ∙ all q (any-at (is_ref q) values i v at is)

pub count_by-more : (q : ℕ) (values : List Value) (i : ℕ) (v : Value) → slice_get values i ≡ Some v → count_by (is_ref q) (take (i + 1) values) ≡ count_by (is_ref q) (take i values) + cond (is_ref q v) 1 0
count_by-more q values i v e = go (is_ref q v) refl
  where
    low : i < length values
    low = slice_get_within values i v e

    here : get_or values i v ≡ v
    here = get_or_from_slice_get values i v v e

    go : (b : Bool) → is_ref q v ≡ b → count_by (is_ref q) (take (i + 1) values) ≡ count_by (is_ref q) (take i values) + cond (is_ref q v) 1 0
    go true is = count_by_more_yes (is_ref q) values i v low (ap (is_ref q) here ∙ is) ∙ ap (λ b. count_by (is_ref q) (take i values) + cond b 1 0) (sym is)
    go false is = count_by_more_no (is_ref q) values i v low (ap (is_ref q) here ∙ is) ∙ (rw is (omega arith))

-- the field of a long word
pub field-at : (longs : List ℕ) (i : ℕ) → i < length longs → slice_get (map value_in longs) i ≡ Some (value_in (get_or longs i 0))
field-at [] i low = absurd (let no : ⊥ = omega (arith, low) in no)
field-at (x ∷ xs) zero low = refl
field-at (x ∷ xs) (suc i) low = field-at xs i (omega (arith, low))

-- as much room is left as there was beside the words
pub room-beside : (by : ℕ → ℕ) (used words : ℕ) (a b : Tally) → Raises by a b → ((q : ℕ) → by q ≤ used) → HasRoom (words + used) a → HasRoom words b
room-beside by used words a b x few room = room-left (words + used) used words by a b room x few (omega arith)

-- ---- words and fields

-- a long word that is no name
pub number-long : (long : ℕ) → long % 2 ≡ 1 → (q : ℕ) → is_ref q (value_in long) ≡ false
number-long long odd q = ap (λ (b : Bool). is_ref q (cond b (Int (int_in long)) (Ref long))) (eq-eqb (long % 2) 1 odd)

-- and one that is
pub name-long : (long : ℕ) → (long % 2 ≡ 1 → ⊥) → (q : ℕ) → is_ref q (value_in long) ≡ eqb long q
name-long long even q = ap (λ (b : Bool). is_ref q (cond b (Int (int_in long)) (Ref long))) (ne_eqb (long % 2) 1 even)

-- what an object holds is its class and its fields
pub object-there : (t : Tally) (o : Object) → is_some (counted t o.class) ≡ true → ((q : ℕ) → list_any (is_ref q) (fields_of o.body) ≡ true → is_some (counted t q) ≡ true) → IsCountable t o
object-there t o class fields = record { there = λ q held. go q (eqb o.class q) refl held }
  where
    go : (q : ℕ) (b : Bool) → eqb o.class q ≡ b → (b || list_any (is_ref q) (fields_of o.body)) ≡ true → is_some (counted t q) ≡ true
    go q true e held = subst (λ (n : ℕ). is_some (counted t n) ≡ true) (eqb-true o.class q e) class
    go q false e held = fields q held

pub class-there : (t : Tally) (o : Object) → IsCountable t o → is_some (counted t o.class) ≡ true
class-there t o is = is.there o.class (ap (λ (b : Bool). b || list_any (is_ref o.class) (fields_of o.body)) (eq-eqb o.class o.class refl))

pub fields-there : (t : Tally) (o : Object) → IsCountable t o → (q : ℕ) → list_any (is_ref q) (fields_of o.body) ≡ true → is_some (counted t q) ≡ true
fields-there t o is q any = is.there q (go (eqb o.class q))
  where
    go : (b : Bool) → (b || list_any (is_ref q) (fields_of o.body)) ≡ true
    go true = refl
    go false = any

-- the words of the class and of the fields
pub object-raised : (o : Object) (a b c : Tally) → Raises (λ q. cond (eqb o.class q) 1 0) a b → Raises (λ q. count_by (is_ref q) (fields_of o.body)) b c → Raises (holdings o) a c
object-raised o a b c x y = raises-then (λ q. cond (eqb o.class q) 1 0) (λ q. count_by (is_ref q) (fields_of o.body)) (holdings o) a b c x y (λ q. refl)

-- nothing was counted
pub raises-none : (t : Tally) → Raises (λ q. 0) t t
raises-none t = record { more = λ q. plus-none (counted t q) }

pub fresh-room : (names : List ℕ) (t : Tally) → IsFresh names t → HasRoom (65536 * (2 ^ 32 - 0)) t
fresh-room names t fresh = record { room = λ q c e. go (is_among q names) c (sym (fresh.zero q) ∙ e) }
  where
    go : (b : Bool) (c : ℕ) → cond b (Some 0) None ≡ Some c → c + 65536 * (2 ^ 32 - 0) < 2 ^ 64
    go true c e = let zero_is : 0 ≡ c = cc in omega arith
    go false c e = let no : ◌≡◌ {A = Option ℕ} None (Some c) = e in absurd (cc)

-- ---- how many fields there are

few_literals : (z : ℤ) → literal_count z < 64
few_literals z = omega arith

stated-few : (o : Option Value) (n : ℕ) → stated_by o ≡ Some n → n < 64
stated-few (Some (Int z)) n e = let same : literal_count z ≡ n = cc in omega (arith, few_literals z, same)
stated-few (Some (Ref m)) n e = let clash : ◌≡◌ {A = Option ℕ} None (Some n) = e in absurd (cc)
stated-few None n e = let clash : ◌≡◌ {A = Option ℕ} None (Some n) = e in absurd (cc)

pub longs-few : (b : RawBody) → HasRawSize b → length (longs_of b) < 65536
longs-few (RawPointers longs) size = omega (arith, size)
longs-few (RawWords words) size = omega arith
longs-few (RawBytes bytes) size = omega arith
longs-few (RawMethod header literals code) size = let few = stated-few (value_of header) (length literals) size.0 in omega (arith, few)

-- the words of a raw record's object, counted in two parts
pub raw-raised : (r : RawRecord) (word : ℕ) (a b c : Tally) → word ≡ r.class → Raises (λ q. cond (eqb word q) 1 0) a b → Raises (λ q. count_by (is_ref q) (map value_in (longs_of r.body))) b c → Raises (holdings (object_in r)) a c
raw-raised r word a b c same x y =
    object-raised (object_in r) a b c
    (subst (λ (n : ℕ). Raises (λ q. cond (eqb n q) 1 0) a b) same x)
    (subst (λ (vs : List Value). Raises (λ q. count_by (is_ref q) vs) b c) (sym (fields-values r.body)) y)

pub raw-few : (r : RawRecord) (q : ℕ) → HasRawSize r.body → holdings (object_in r) q ≤ 65536
raw-few r q size =
    let few = longs-few r.body size in
    let long : length (fields_of (body_of r.body)) ≡ length (longs_of r.body) = ap length (fields-values r.body) ∙ length-map (longs_of r.body) value_in in
    let part = count_by-le-length (is_ref q) (fields_of (body_of r.body)) in
    go (eqb r.class q) few long part
  where
    go : (b : Bool) → length (longs_of r.body) < 65536 → length (fields_of (body_of r.body)) ≡ length (longs_of r.body) → count_by (is_ref q) (fields_of (body_of r.body)) ≤ length (fields_of (body_of r.body)) → cond b 1 0 + count_by (is_ref q) (fields_of (body_of r.body)) ≤ 65536
    go true few long part = omega arith
    go false few long part = omega arith

-- what the count of the class and of the fields says
pub raw-there : (r : RawRecord) (word : ℕ) (a b : Tally) → word ≡ r.class → Raises (λ q. cond (eqb word q) 1 0) a b → is_some (counted a word) ≡ true
    → ((q : ℕ) → list_any (is_ref q) (map value_in (longs_of r.body)) ≡ true → is_some (counted b q) ≡ true) → IsCountable a (object_in r)
raw-there r word a b same x class fields =
    object-there a (object_in r) (subst (λ (n : ℕ). is_some (counted a n) ≡ true) same class)
    (λ q any. sym (names-stay (λ p. cond (eqb word p) 1 0) a b q x) ∙ fields q (subst (λ (vs : List Value). list_any (is_ref q) vs ≡ true) (fields-values r.body) any))

pub raw-class : (r : RawRecord) (word : ℕ) (a : Tally) → word ≡ r.class → IsCountable a (object_in r) → is_some (counted a word) ≡ true
raw-class r word a same is = subst (λ (n : ℕ). is_some (counted a n) ≡ true) (sym same) (class-there a (object_in r) is)

pub raw-fields : (r : RawRecord) (word : ℕ) (a b : Tally) → Raises (λ q. cond (eqb word q) 1 0) a b → IsCountable a (object_in r) → (q : ℕ) → list_any (is_ref q) (map value_in (longs_of r.body)) ≡ true → is_some (counted b q) ≡ true
raw-fields r word a b x is q any = names-stay (λ p. cond (eqb word p) 1 0) a b q x ∙ fields-there a (object_in r) is q (subst (λ (vs : List Value). list_any (is_ref q) vs ≡ true) (sym (fields-values r.body)) any)

pub one-few : (word q : ℕ) → cond (eqb word q) 1 0 ≤ 1
one-few word q = go (eqb word q)
  where
    go : (b : Bool) → cond b 1 0 ≤ 1
    go true = omega arith
    go false = omega arith

-- the first name that is missing, one by one
missing-at : (at : ℕ → Option ℕ) (ns : List ℕ) (i : ℕ) → i < length ns → missing_among at (drop i ns) ≡ cond (is_some (at (get_or ns i 0))) (missing_among at (drop (i + 1) ns)) (Some (get_or ns i 0))
missing-at at [] i low = absurd (let no : ⊥ = omega (arith, low) in no)
missing-at at (n ∷ ns) zero low = refl
missing-at at (n ∷ ns) (suc i) low =
    let e : suc (i + 1) ≡ suc i + 1 = omega arith in
    subst (λ (k : ℕ). missing_among at (drop i ns) ≡ cond (is_some (at (get_or ns i 0))) (missing_among at (drop k (n ∷ ns))) (Some (get_or ns i 0))) e (missing-at at ns i (omega (arith, low)))

pub missing-next : (at : ℕ → Option ℕ) (ns : List ℕ) (i : ℕ) → i < length ns → is_some (at (get_or ns i 0)) ≡ true → missing_among at (drop i ns) ≡ missing_among at (drop (i + 1) ns)
missing-next at ns i low there = missing-at at ns i low ∙ ap (λ (b : Bool). cond b (missing_among at (drop (i + 1) ns)) (Some (get_or ns i 0))) there

-- a long word that is a name, raised
pub long-there : (long : ℕ) (t : Tally) (result : Bool) → (long % 2 ≡ 1 → ⊥) → result ≡ is_some (counted t long) → (result ≡ true) ↔ ((q : ℕ) → is_ref q (value_in long) ≡ true → is_some (counted t q) ≡ true)
long-there long t result even is = (
  λ yes q ref. subst (λ (n : ℕ). is_some (counted t n) ≡ true) (eqb-true long q (sym (name-long long even q) ∙ ref)) (sym is ∙ yes),
  λ all. is ∙ all long (name-long long even long ∙ eq-eqb long long refl),
)

pub long-more : (long : ℕ) (a b : Tally) → (long % 2 ≡ 1 → ⊥) → Raises (λ q. cond (eqb long q) 1 0) a b → Raises (λ q. cond (is_ref q (value_in long)) 1 0) a b
long-more long a b even x = record { more = λ q. x.more q ∙ ap (λ (y : Bool). option_map (λ c. c + cond y 1 0) (counted a q)) (sym (name-long long even q)) }

-- ---- rule 11

-- the count beside the name at a place
pub counted-at : (t : Tally) (i name count : ℕ) → slice_get t.names i ≡ Some name → count ≡ get_or t.counts.items i count → counted t name ≡ Some count
unfolding counted
counted-at t i name count there value =
    let low : i < length t.counts.items = omega (arith, slice_get_within t.names i name there, t.beside) in
    beside-here t.names t.counts.items i name count t.rising there (slice_get_read t.counts.items (length t.counts.items) i count refl low value)

pub exact-of : (o : Option ℕ) (c name stated : ℕ) (same known held : Bool) → o ≡ Some c → (stated == c) ≡ same → is_known name ≡ known → nat_lt 0 stated ≡ held → is_exact o name stated ≡ (same && (known || held))
exact-of o c name stated same known held e f g h =
    ap (λ (p : Option ℕ). is_exact p name stated) e
    ∙ ap (λ (b : Bool). b && (is_known name || nat_lt 0 stated)) f
    ∙ ap₂ (λ (a b : Bool). same && (a || b)) g h

pub or-held : (known : Bool) → (known || true) ≡ true
or-held true = refl
or-held false = refl

pub or-not-held : (known : Bool) → (known || false) ≡ known
or-not-held true = refl
or-not-held false = refl

pub same-name : (o : Option ℕ) (a b : ℕ) → o ≡ Some a → o ≡ Some b → a ≡ b
same-name o a b e f = let same : ◌≡◌ {A = Option ℕ} (Some a) (Some b) = sym e ∙ f in cc
