-- The table of a number: its names, that its objects pass the test, and who holds them.
use Rattle.std.proofs.Common.{◌≡◌, ◌⊎◌, inl, inr, ℕ, ◌+◌, ◌-◌, ◌*◌, ◌/◌, ◌%◌, ◌^◌, ◌<◌, ◌≤◌, ◌==◌, nat_lt, nat_le, eqb, Bool, true, false, cond, ◌&&◌, ◌||◌, List, [], ◌∷◌, ◌++◌, length, take, drop, map, Option, Some, None, is_some, lit<, zero, suc, replicate, refl, sym, ◌∙◌, ap, subst, arith}
use Rattle.std.proofs.lemmas.Bool.{ltb-true, ltb-false, leb-true, eqb-true, lt-ltb, le-leb, eq-eqb, and_parts, and_from, or_cases, or_right}
use Rattle.std.proofs.lemmas.List.{length-replicate}
use Rattle.std.specs.List.{list_all, list_any}
use Rattle.std.specs.Map.{lookup}
use Rattle.std.specs.Option.{option_map_or}
use Rattle.long_names.specs.Names.{is_known, DISPLAY_BITMAP}
use Rattle.long_names.specs.Objects.{holds}
use Rattle.long_names.specs.declared.value.Value.TheVariants.{Ref}
use Rattle.long_names.specs.declared.object.Object.{Object}
use Rattle.loom_gen.specs.declared.names.TheConstants.{METHOD_1, CONTEXT_1, BITS, BUFFER, FIRST_CHARACTER, CHARACTERS, FIRST_NODE}
use Rattle.loom_gen.specs.Notation.{nil, int, nils, zeros, words, string}
use Rattle.loom_gen.specs.Table.{table, table_names, known_objects, processes, dictionary_objects, selectors, methods, media, context, characters, node_name}
use Rattle.loom_gen.specs.Generated.{node_count, next_name, character, node, object_named}
use Rattle.loom_gen.proofs.NameLaws.{tabled-at, character-at, node-at}
use Rattle.loom_gen.proofs.TestLaws.{name_passes, value_passes, are_below, object_passes, all-between, all-both}

-- ---- its names

pub names-are : (number : ℕ) → map (λ (e : ℕ × Object). e.0) (table number) ≡ table_names
unfolding table
names-are number = refl

pub lookup-named : (es : List (ℕ × Object)) (n : ℕ) → is_some (lookup (λ name. name == n) es) ≡ list_any (λ name. name == n) (map (λ (e : ℕ × Object). e.0) es)
lookup-named [] n = refl
lookup-named (e ∷ es) n = go (eqb e.0 n) (lookup-named es n)
  where
    go : (b : Bool) → is_some (lookup (λ name. name == n) es) ≡ list_any (λ name. name == n) (map (λ (e : ℕ × Object). e.0) es) → is_some (cond b (Some e.1) (lookup (λ name. name == n) es)) ≡ (b || list_any (λ name. name == n) (map (λ (e : ℕ × Object). e.0) es))
    go true rest = refl
    go false rest = rest

-- what all entries pass, the one that was found passes
pub lookup-passes : (p : ℕ × Object → Bool) (es : List (ℕ × Object)) (n : ℕ) (o : Object) → list_all p es ≡ true → lookup (λ name. name == n) es ≡ Some o → p (n, o) ≡ true
lookup-passes p [] n o all e = let no : ◌≡◌ {A = Option Object} None (Some o) = e in absurd (cc)
lookup-passes p (x ∷ xs) n o all e = let two = and_parts (p x) (list_all p xs) all in go (eqb x.0 n) refl e two.0 (λ rest. lookup-passes p xs n o two.1 rest)
  where
    go : (b : Bool) → eqb x.0 n ≡ b → cond b (Some x.1) (lookup (λ name. name == n) xs) ≡ Some o → p x ≡ true → (lookup (λ name. name == n) xs ≡ Some o → p (n, o) ≡ true) → p (n, o) ≡ true
    go true is e here rest =
        let object : x.1 ≡ o = cc in
        subst (λ (k : ℕ). p (k, o) ≡ true) (eqb-true x.0 n is) (subst (λ (y : Object). p (x.0, y) ≡ true) object here)
    go false is e here rest = rest e

-- what all names pass, one among them passes
pub any-passes : (p : ℕ → Bool) (ns : List ℕ) (n : ℕ) → list_all p ns ≡ true → list_any (λ name. name == n) ns ≡ true → p n ≡ true
any-passes p [] n all any = let no : ◌≡◌ {A = Bool} false true = any in absurd (cc)
any-passes p (k ∷ ks) n all any = let two = and_parts (p k) (list_all p ks) all in go (or_cases (eqb k n) (list_any (λ name. name == n) ks) any) two.0 (λ rest. any-passes p ks n two.1 rest)
  where
    go : (eqb k n ≡ true) ⊎ (list_any (λ name. name == n) ks ≡ true) → p k ≡ true → (list_any (λ name. name == n) ks ≡ true → p n ≡ true) → p n ≡ true
    go (inl same) here rest = subst (λ (x : ℕ). p x ≡ true) (eqb-true k n same) here
    go (inr other) here rest = rest other

pub among-names : (number n : ℕ) (o : Object) → lookup (λ name. name == n) (table number) ≡ Some o → list_any (λ name. name == n) table_names ≡ true
among-names number n o found =
    ap (λ (ns : List ℕ). list_any (λ name. name == n) ns) (sym (names-are number))
    ∙ sym (lookup-named (table number) n)
    ∙ ap (λ (x : Option Object). is_some x) found

-- a test of names, of an entry that was found
pub name-passes : (p : ℕ → Bool) (number n : ℕ) (o : Object) → list_all p table_names ≡ true → lookup (λ name. name == n) (table number) ≡ Some o → p n ≡ true
name-passes p number n o all found = any-passes p table_names n all (among-names number n o found)

-- ---- which names the heap has, as a test that computes

abbrev pub is_in_table : ℕ → Bool
is_in_table n = list_any (λ name. name == n) table_names

abbrev pub is_behind : ℕ → ℕ → Bool
is_behind number n = n % 2 == 0 && (nat_le FIRST_CHARACTER n && (nat_lt n FIRST_NODE || nat_lt n (next_name number)))

abbrev pub has_name : ℕ → ℕ → Bool
has_name number n = is_in_table n || is_behind number n

back-from : (n base : ℕ) → base % 2 ≡ 0 → n % 2 ≡ 0 → base ≤ n → base + 2 * ((n - base) / 2) ≡ n
back-from n base even is low = omega arith

back-low : (n base count : ℕ) → n < base + 2 * count → base ≤ n → (n - base) / 2 < count
back-low n base count high low = omega arith

there-from : (number n m : ℕ) (o : Object) → m ≡ n → object_named number m ≡ Some o → is_some (object_named number n) ≡ true
there-from number n m o e is = ap (λ (k : ℕ). is_some (object_named number k)) (sym e) ∙ ap (λ (x : Option Object). is_some x) is

pub has-there : (number n : ℕ) → has_name number n ≡ true → is_some (object_named number n) ≡ true
has-there number n has = go (or_cases (is_in_table n) (is_behind number n) has)
  where
    low : is_in_table n ≡ true → n < FIRST_CHARACTER
    low any = ltb-true n FIRST_CHARACTER (any-passes (λ k. nat_lt k FIRST_CHARACTER) table_names n refl any)

    high : n % 2 ≡ 0 → FIRST_CHARACTER ≤ n → (b : Bool) → nat_lt n FIRST_NODE ≡ b → (b || nat_lt n (next_name number)) ≡ true → is_some (object_named number n) ≡ true
    high even above true is e = there-from number n _ (character ((n - FIRST_CHARACTER) / 2)) (back-from n FIRST_CHARACTER refl even above) (character-at number ((n - FIRST_CHARACTER) / 2) (back-low n FIRST_CHARACTER CHARACTERS (ltb-true n FIRST_NODE is) above))
    high even above false is e =
        let behind : FIRST_NODE ≤ n = ltb-false n FIRST_NODE is in
        there-from number n _ (node number ((n - FIRST_NODE) / 2)) (back-from n FIRST_NODE refl even behind) (node-at number ((n - FIRST_NODE) / 2) (back-low n FIRST_NODE (node_count number) (ltb-true n (next_name number) e) behind))

    go : (is_in_table n ≡ true) ⊎ (is_behind number n ≡ true) → is_some (object_named number n) ≡ true
    go (inl any) =
        ap (λ (x : Option Object). is_some x) (tabled-at number n (low any))
        ∙ lookup-named (table number) n
        ∙ ap (λ (ns : List ℕ). list_any (λ name. name == n) ns) (names-are number)
        ∙ any
    go (inr e) =
        let parts = and_parts (eqb (n % 2) 0) _ e in
        let above = and_parts (nat_le FIRST_CHARACTER n) _ parts.1 in
        high (eqb-true (n % 2) 0 parts.0) (leb-true FIRST_CHARACTER n above.0) (nat_lt n FIRST_NODE) refl above.1

pub node-has : (number j : ℕ) → number ≤ 19 → j < node_count number → name_passes (has_name number) (node_name j) ≡ true
node-has number j small low =
    and_from _ _ (and_from _ _ even (lt-ltb 0 (node_name j) (omega arith)))
    (and_from _ _ (lt-ltb (node_name j) (2 ^ 32) (omega arith)) (or_right (is_in_table (node_name j)) (is_behind number (node_name j)) (and_from _ _ even (and_from _ _ (le-leb FIRST_CHARACTER (node_name j) (omega arith)) (or_right (nat_lt (node_name j) FIRST_NODE) _ (lt-ltb (node_name j) (next_name number) (omega arith)))))))
  where
    even : eqb (node_name j % 2) 0 ≡ true
    even = eq-eqb (node_name j % 2) 0 (omega arith)

-- ---- its objects pass the test

abbrev entry_passes : ℕ → ℕ × Object → Bool
entry_passes number e = object_passes (has_name number) e.1

known-pass : (number : ℕ) → list_all (entry_passes number) known_objects ≡ true
unfolding characters
known-pass number = refl

first-context : (number : ℕ) → number ≤ 19 → entry_passes number (CONTEXT_1, context 13 METHOD_1 (Ref (node_name number))) ≡ true
first-context number small =
    all-between (value_passes (has_name number)) (nil ∷ int 13 ∷ int 1 ∷ Ref METHOD_1 ∷ nil ∷ nil ∷ []) (Ref (node_name number)) (nils 11) refl (node-has number number small (omega arith)) refl

processes-pass : (number : ℕ) → number ≤ 19 → list_all (entry_passes number) (processes number) ≡ true
processes-pass number small =
    all-between (entry_passes number) (take 11 (processes number)) (CONTEXT_1, context 13 METHOD_1 (Ref (node_name number))) (drop 12 (processes number)) refl (first-context number small) refl

dictionary-pass : (number : ℕ) → list_all (entry_passes number) dictionary_objects ≡ true
dictionary-pass number = refl

selectors-pass : (number : ℕ) → list_all (entry_passes number) selectors ≡ true
selectors-pass number = refl

methods-pass : (number : ℕ) → list_all (entry_passes number) methods ≡ true
methods-pass number = refl

zeros-below : (n high : ℕ) → 0 < high → are_below high (zeros n) ≡ true
unfolding zeros
zeros-below n high above = go n
  where
    go : (n : ℕ) → are_below high (replicate n 0) ≡ true
    go zero = refl
    go (suc n) = and_from (nat_lt 0 high) _ (lt-ltb 0 high above) (go n)

zeros-few : (n high : ℕ) → n < high → nat_lt (length (zeros n)) high ≡ true
unfolding zeros
zeros-few n high low = lt-ltb _ high (subst (λ (k : ℕ). k < high) (sym (length-replicate n 0)) low)

bits-pass : (number : ℕ) → object_passes (has_name number) (words DISPLAY_BITMAP (zeros 19_200)) ≡ true
bits-pass number = and_from _ true (and_from _ _ (zeros-few 19_200 65_536 (lit< tt)) (zeros-below 19_200 65_536 (lit< tt))) refl

buffer-pass : (number : ℕ) → object_passes (has_name number) (string (zeros 1_000)) ≡ true
buffer-pass number = and_from _ true (and_from _ _ (zeros-few 1_000 65_536 (lit< tt)) (zeros-below 1_000 256 (lit< tt))) refl

media-pass : (number : ℕ) → list_all (entry_passes number) media ≡ true
media-pass number =
    all-between (entry_passes number) (take 1 media) (BITS, words DISPLAY_BITMAP (zeros 19_200)) (drop 2 media) refl (bits-pass number)
    (all-between (entry_passes number) (take 2 (drop 2 media)) (BUFFER, string (zeros 1_000)) (drop 5 media) refl (buffer-pass number) refl)

pub table-passes : (number : ℕ) → number ≤ 19 → list_all (λ (e : ℕ × Object). object_passes (has_name number) e.1) (table number) ≡ true
unfolding table
table-passes number small =
    all-both (entry_passes number) known_objects (processes number ++ (dictionary_objects ++ (selectors ++ (methods ++ media)))) (known-pass number)
    (all-both (entry_passes number) (processes number) (dictionary_objects ++ (selectors ++ (methods ++ media))) (processes-pass number small)
    (all-both (entry_passes number) dictionary_objects (selectors ++ (methods ++ media)) (dictionary-pass number)
    (all-both (entry_passes number) selectors (methods ++ media) (selectors-pass number)
    (all-both (entry_passes number) methods media (methods-pass number) (media-pass number)))))

-- ---- who holds them

-- an entry under a name holds another name
abbrev held_in : List (ℕ × Object) → ℕ → ℕ → Bool
held_in entries n k = option_map_or (λ (o : Object). holds o n) (lookup (λ name. name == k) entries) false

-- these hold all of the image's own objects of the table
abbrev holders : List ℕ
holders = 8 ∷ 12 ∷ 60 ∷ 62 ∷ 72 ∷ 74 ∷ 76 ∷ 78 ∷ 80 ∷ 84 ∷ 86 ∷ 88 ∷ 90 ∷ 92 ∷ 94 ∷ 96 ∷ 146 ∷ 152 ∷ 82 ∷ []

abbrev are_held : List (ℕ × Object) → List ℕ → Bool
are_held entries ns = list_all (λ n. is_known n || list_any (held_in entries n) holders) ns

names-held : (number : ℕ) → are_held (table number) table_names ≡ true
unfolding table
names-held number = refl

pub record IsHeldIn (number n : ℕ) : Type 0 where
  pub holder : ℕ
  pub object : Object
  pub found : lookup (λ name. name == holder) (table number) ≡ Some object
  pub held : holds object n ≡ true

one-held : (number n k : ℕ) → held_in (table number) n k ≡ true → IsHeldIn number n
one-held number n k e = go (lookup (λ name. name == k) (table number)) refl e
  where
    go : (x : Option Object) → lookup (λ name. name == k) (table number) ≡ x → option_map_or (λ (o : Object). holds o n) x false ≡ true → IsHeldIn number n
    go None is e = let no : ◌≡◌ {A = Bool} false true = e in absurd (cc)
    go (Some o) is e = record { holder = k; object = o; found = is; held = e }

any-held : (number n : ℕ) (ks : List ℕ) → list_any (held_in (table number) n) ks ≡ true → IsHeldIn number n
any-held number n [] any = let no : ◌≡◌ {A = Bool} false true = any in absurd (cc)
any-held number n (k ∷ ks) any = go (or_cases (held_in (table number) n k) (list_any (held_in (table number) n) ks) any) (λ rest. any-held number n ks rest)
  where
    go : (held_in (table number) n k ≡ true) ⊎ (list_any (held_in (table number) n) ks ≡ true) → (list_any (held_in (table number) n) ks ≡ true → IsHeldIn number n) → IsHeldIn number n
    go (inl here) rest = one-held number n k here
    go (inr other) rest = rest other

pub tabled-held : (number n : ℕ) (o : Object) → lookup (λ name. name == n) (table number) ≡ Some o → (is_known n ≡ true) ⊎ IsHeldIn number n
tabled-held number n o found = go (or_cases (is_known n) _ (name-passes (λ k. is_known k || list_any (held_in (table number) k) holders) number n o (names-held number) found))
  where
    go : (is_known n ≡ true) ⊎ (list_any (held_in (table number) n) holders ≡ true) → (is_known n ≡ true) ⊎ IsHeldIn number n
    go (inl known) = inl known
    go (inr any) = inr (any-held number n holders any)
