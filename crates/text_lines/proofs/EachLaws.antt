-- Parts that are read one after the other.
use Rattle.std.proofs.Common.{◌≡◌, ◌≢◌, ℕ, ◌+◌, ◌<◌, ◌≤◌, Bool, true, false, cond, List, [], ◌∷◌, ◌++◌, length, Option, Some, None, refl, sym, ap, ◌∙◌, append_assoc, length-append, arith}
use Rattle.std.specs.Prelude.{nat_le, option_map}
use Rattle.std.proofs.lemmas.Bool.{le-leb, lt-leb}
use Rattle.std.proofs.lemmas.List.{append-nil}
use Rattle.long_names.specs.declared.limits.TheConstants.{MOST_FIELDS}
use Rattle.long_names.specs.declared.value.Value.{Value}
use Rattle.text_lines.specs.Grammar.{◌>>=◌, code_of, each_of, fields_of}
use Rattle.text_lines.specs.Inside.{code_in_front, in_front, with_code}
use Rattle.text_lines.specs.Parts.{byte_of, is_code, that_is, value_of}

-- ---- in front of what is read

pub front_none : {X : Type 0} (o : Option (List X)) → in_front [] o ≡ o
front_none None = refl
front_none (Some xs) = refl

front_cons : {X : Type 0} (xs : List X) (x : X) (o : Option (List X)) → in_front xs (o >>= λ ys. Some (x ∷ ys)) ≡ in_front (xs ++ x ∷ []) o
front_cons xs x None = refl
front_cons xs x (Some ys) = ap Some (sym (append_assoc xs (x ∷ []) ys))

pub front_more : {X : Type 0} (read : List ℕ → Option X) (xs : List X) (x : X) (parts rest : List (List ℕ)) (part : List ℕ) → parts ≡ part ∷ rest → read part ≡ Some x → in_front xs (each_of read parts) ≡ in_front (xs ++ x ∷ []) (each_of read rest)
unfolding each_of
front_more read xs x parts rest part e is =
    ap (λ (ps : List (List ℕ)). in_front xs (each_of read ps)) e
    ∙ ap (λ o. in_front xs (o >>= λ y. each_of read rest >>= λ ys. Some (y ∷ ys))) is
    ∙ front_cons xs x (each_of read rest)

pub front_stop : {X : Type 0} (read : List ℕ → Option X) (xs : List X) (parts rest : List (List ℕ)) (part : List ℕ) → parts ≡ part ∷ rest → read part ≡ None → in_front xs (each_of read parts) ≡ None
unfolding each_of
front_stop read xs parts rest part e is =
    ap (λ (ps : List (List ℕ)). in_front xs (each_of read ps)) e
    ∙ ap (λ o. in_front xs (o >>= λ y. each_of read rest >>= λ ys. Some (y ∷ ys))) is

pub front_end : {X : Type 0} (read : List ℕ → Option X) (xs : List X) (parts : List (List ℕ)) → parts ≡ [] → in_front xs (each_of read parts) ≡ Some xs
unfolding each_of
front_end read xs parts e = ap (λ (ps : List (List ℕ)). in_front xs (each_of read ps)) e ∙ ap Some (append-nil xs)

-- ---- how many

cons_some : {X : Type 0} (o : Option X) (os : Option (List X)) (xs : List X) → (o >>= λ y. os >>= λ ys. Some (y ∷ ys)) ≡ Some xs → (y : X) × (ys : List X) × (o ≡ Some y) × (os ≡ Some ys) × (xs ≡ y ∷ ys)
cons_some {X = X} None os xs e = let clash : ◌≡◌ {A = Option (List X)} None (Some xs) = e in absurd (cc)
cons_some {X = X} (Some y) None xs e = let clash : ◌≡◌ {A = Option (List X)} None (Some xs) = e in absurd (cc)
cons_some (Some y) (Some ys) xs e = (y, ys, refl, refl, cc)

pub each_length : {X : Type 0} (read : List ℕ → Option X) (parts : List (List ℕ)) (xs : List X) → each_of read parts ≡ Some xs → length xs ≡ length parts
unfolding each_of
each_length {X = X} read [] xs e = let none : ◌≡◌ {A = List X} [] xs = cc in ap (λ (ys : List X). length ys) (sym none)
each_length {X = X} read (part ∷ parts) xs e =
    let s = cons_some (read part) (each_of read parts) xs e in
    let len : length xs ≡ length (s.0 ∷ s.1) = ap (λ (ys : List X). length ys) s.4 in
    let more : length s.1 ≡ length parts = each_length read parts s.1 s.3 in
    omega arith

-- as many as an object may have
pub few_fields : {X : Type 0} (read : List ℕ → Option X) (parts : List (List ℕ)) (xs : List X) → each_of read parts ≡ Some xs → length xs ≤ MOST_FIELDS → fields_of read parts ≡ Some xs
few_fields {X = X} read parts xs e few = ap (λ (o : Option (List X)). that_is (λ ys. nat_le (length ys) MOST_FIELDS) o) e ∙ ap (λ (b : Bool). cond b (Some xs) None) (le-leb (length xs) MOST_FIELDS few)

pub many_fields : {X : Type 0} (read : List ℕ → Option X) (parts : List (List ℕ)) (xs : List X) → each_of read parts ≡ Some xs → MOST_FIELDS < length xs → fields_of read parts ≡ None
many_fields {X = X} read parts xs e many = ap (λ (o : Option (List X)). that_is (λ ys. nat_le (length ys) MOST_FIELDS) o) e ∙ ap (λ (b : Bool). cond b (Some xs) None) (lt-leb (length xs) MOST_FIELDS many)

pub no_fields : {X : Type 0} (read : List ℕ → Option X) (parts : List (List ℕ)) → each_of read parts ≡ None → fields_of read parts ≡ None
no_fields {X = X} read parts e = ap (λ (o : Option (List X)). that_is (λ ys. nat_le (length ys) MOST_FIELDS) o) e

-- all were read, or not
pub not_all : {X : Type 0} (read : List ℕ → Option X) (all parts : List (List ℕ)) (xs : List X) (n : ℕ) → each_of read all ≡ in_front xs (each_of read parts) → length xs + length parts ≢ n → (ys : List X) → length ys ≡ n → each_of read all ≢ Some ys
not_all {X = X} read all parts xs n e other ys len is = go (each_of read parts) refl (sym e ∙ is)
  where
    go : (o : Option (List X)) → each_of read parts ≡ o → in_front xs o ≡ Some ys → ⊥
    go None some f = let clash : ◌≡◌ {A = Option (List X)} None (Some ys) = f in cc
    go (Some zs) some f =
        let same : xs ++ zs ≡ ys = cc in
        let sum : length (xs ++ zs) ≡ length ys = ap (λ (ts : List X). length ts) same in
        other (omega (arith, sum, len, length-append xs zs, each_length read parts zs some))

-- ---- a method's literals and its code

code_cons : (literals : List Value) (v : Value) (o : Option (List Value × List ℕ)) → code_in_front literals (o >>= λ x. Some (v ∷ x.0, x.1)) ≡ code_in_front (literals ++ v ∷ []) o
code_cons literals v None = refl
code_cons literals v (Some x) = ap (λ (t : List Value). Some (t, x.1)) (sym (append_assoc literals (v ∷ []) x.0))

pub code_none : (o : Option (List Value × List ℕ)) → code_in_front [] o ≡ o
code_none None = refl
code_none (Some x) = refl

pub code_more : (literals : List Value) (v : Value) (parts rest : List (List ℕ)) (part : List ℕ) → parts ≡ part ∷ rest → is_code part ≡ false → value_of part ≡ Some v → code_in_front literals (code_of parts) ≡ code_in_front (literals ++ v ∷ []) (code_of rest)
unfolding code_of
code_more literals v parts rest part e other is =
    ap (λ (ps : List (List ℕ)). code_in_front literals (code_of ps)) e
    ∙ ap (λ (b : Bool). code_in_front literals (cond b (option_map (λ (code : List ℕ). ([], code)) (each_of byte_of rest)) (value_of part >>= λ y. code_of rest >>= λ x. Some (y ∷ x.0, x.1)))) other
    ∙ ap (λ (o : Option Value). code_in_front literals (o >>= λ y. code_of rest >>= λ x. Some (y ∷ x.0, x.1))) is
    ∙ code_cons literals v (code_of rest)

pub code_stop : (literals : List Value) (parts rest : List (List ℕ)) (part : List ℕ) → parts ≡ part ∷ rest → is_code part ≡ false → value_of part ≡ None → code_in_front literals (code_of parts) ≡ None
unfolding code_of
code_stop literals parts rest part e other is =
    ap (λ (ps : List (List ℕ)). code_in_front literals (code_of ps)) e
    ∙ ap (λ (b : Bool). code_in_front literals (cond b (option_map (λ (code : List ℕ). ([], code)) (each_of byte_of rest)) (value_of part >>= λ y. code_of rest >>= λ x. Some (y ∷ x.0, x.1)))) other
    ∙ ap (λ (o : Option Value). code_in_front literals (o >>= λ y. code_of rest >>= λ x. Some (y ∷ x.0, x.1))) is

pub code_end : (literals : List Value) (parts : List (List ℕ)) → parts ≡ [] → code_in_front literals (code_of parts) ≡ None
unfolding code_of
code_end literals parts e = ap (λ (ps : List (List ℕ)). code_in_front literals (code_of ps)) e

code_bytes : (literals : List Value) (o : Option (List ℕ)) → code_in_front literals (option_map (λ (code : List ℕ). ([], code)) o) ≡ with_code literals o
code_bytes literals None = refl
code_bytes literals (Some bytes) = ap (λ (t : List Value). Some (t, bytes)) (append-nil literals)

pub code_here : (literals : List Value) (parts rest : List (List ℕ)) (part : List ℕ) → parts ≡ part ∷ rest → is_code part ≡ true → code_in_front literals (code_of parts) ≡ with_code literals (each_of byte_of rest)
unfolding code_of
code_here literals parts rest part e here =
    ap (λ (ps : List (List ℕ)). code_in_front literals (code_of ps)) e
    ∙ ap (λ (b : Bool). code_in_front literals (cond b (option_map (λ (code : List ℕ). ([], code)) (each_of byte_of rest)) (value_of part >>= λ y. code_of rest >>= λ x. Some (y ∷ x.0, x.1)))) here
    ∙ code_bytes literals (each_of byte_of rest)
