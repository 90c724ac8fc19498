-- What a write behind one file, and a new file, leave of the others.
use Rattle.std.proofs.Common.{◌≡◌, ◌≢◌, ◌⊎◌, inl, inr, ℕ, ◌<◌, List, [], ◌∷◌, ◌++◌, length, get_or, set, take, drop, Option, None, Some, Result, Ok, Err, OnOk, OnErr, IfSome, Bool, true, false, cond, refl, sym, ◌∙◌, ap, subst, arith}
use Rattle.std.proofs.lemmas.Bool.{cases_eq}
use Rattle.std.proofs.lemmas.List.{get_or-set_same, get_or-set_other, get_or_append_left, take-append-le, length_push, length-map, get_or_push}
use Rattle.std.proofs.lemmas.Bool.Decides.{nat_tests}
use Rattle.std.specs.Option.{option_map}
use Rattle.loom_outside.specs.Files.{name_of, names, contents, bytes_at, is_named, place_after, newest}
use Rattle.loom_outside.specs.Store.{is_place}
use Rattle.loom_outside.specs.declared.files.File.{File}
use Rattle.loom_outside.proofs.Places.{newest-push}
use Rattle.loom_host.specs.Outside.{at_start, puts}
use Rattle.loom_outside.specs.Reading.{shown, Stands, reading, writing}
use Rattle.loom_outside.specs.declared.reader.Reader.{Reader}

-- bytes behind those at a place
abbrev pub grown : List (List ℕ) → ℕ → List ℕ → List (List ℕ)
grown all place bytes = set all place (bytes_at all place ++ bytes)

pub bytes_at-grown_same : (all : List (List ℕ)) (place : ℕ) (bytes : List ℕ) → place < length all → bytes_at (grown all place bytes) place ≡ bytes_at all place ++ bytes
bytes_at-grown_same all place bytes there = get_or-set_same all place (bytes_at all place ++ bytes) [] there

pub bytes_at-grown_other : (all : List (List ℕ)) (place other : ℕ) (bytes : List ℕ) → other ≢ place → bytes_at (grown all place bytes) other ≡ bytes_at all other
bytes_at-grown_other all place other bytes apart = get_or-set_other all place other (bytes_at all place ++ bytes) [] apart

-- a reader comes to the same bytes
pub shown-grown : (all : List (List ℕ)) (place : ℕ) (bytes : List ℕ) (r : Reader) → Stands all r → shown (grown all place bytes) r ≡ shown all r
shown-grown all place bytes r stands = elim (cases_eq r.file place) [
  | inl same ↦
      let there : place < length all = rw (← same) stands.0 in
      ap (λ (i : ℕ). take r.end (bytes_at (grown all place bytes) i)) same
      ∙ ap (take r.end) (bytes_at-grown_same all place bytes there)
      ∙ take-append-le r.end (bytes_at all place) bytes (rw (← same) stands.1)
      ∙ ap (λ (i : ℕ). take r.end (bytes_at all i)) (sym same)
  | inr apart ↦ ap (take r.end) (bytes_at-grown_other all place r.file bytes apart)
]

-- after a write that may have failed
either : {T E P Q : Type 0} (r : Result T E) → OnOk r P → OnErr r Q → P ⊎ Q
either (Ok x) p q = inl p
either (Err e) p q = inr q

pub reading-put : {T E : Type 0} (r : Result T E) (own own' : List (Option (List ℕ))) (all all' : List (List ℕ)) (place : ℕ) (bytes : List ℕ) (reader : Reader) → own' ≡ own → OnOk r (all' ≡ grown all place bytes) → OnErr r (all' ≡ all) → Stands all reader
    → reading own' all' reader ≡ reading own all reader
reading-put r own own' all all' place bytes reader named ok err stands =
    let same : shown all' reader ≡ shown all reader = elim (either r ok err) [ inl is ↦ ap (λ l. shown l reader) is ∙ shown-grown all place bytes reader stands | inr is ↦ ap (λ l. shown l reader) is ] in
    ap (λ (l : List ℕ). record at_start { name = get_or own' reader.file None; taken = take reader.taken l; left = drop reader.taken l }) same
    ∙ ap (λ (o : List (Option (List ℕ))). record at_start { name = get_or o reader.file None; taken = take reader.taken (shown all reader); left = drop reader.taken (shown all reader) }) named

pub writing-put_other : {T E : Type 0} (r : Result T E) (own own' : List (Option (List ℕ))) (all all' : List (List ℕ)) (place other : ℕ) (bytes : List ℕ) → own' ≡ own → OnOk r (all' ≡ grown all place bytes) → OnErr r (all' ≡ all) → other ≢ place
    → writing own' all' other ≡ writing own all other
writing-put_other r own own' all all' place other bytes named ok err apart =
    let same : bytes_at all' other ≡ bytes_at all other = elim (either r ok err) [ inl is ↦ ap (λ l. bytes_at l other) is ∙ bytes_at-grown_other all place other bytes apart | inr is ↦ ap (λ l. bytes_at l other) is ] in
    ap (λ (o : List (Option (List ℕ))). record at_start { name = get_or o other None; put = bytes_at all' other }) named ∙ ap (λ (l : List ℕ). record at_start { name = get_or own other None; put = l }) same

pub writing-put_same : (own own' : List (Option (List ℕ))) (all all' : List (List ℕ)) (place : ℕ) (bytes : List ℕ) → own' ≡ own → place < length all → all' ≡ grown all place bytes → writing own' all' place ≡ puts bytes (writing own all place)
writing-put_same own own' all all' place bytes named there is =
    let joined : bytes_at all' place ≡ bytes_at all place ++ bytes = ap (λ l. bytes_at l place) is ∙ bytes_at-grown_same all place bytes there in
    ap (λ (o : List (Option (List ℕ))). record at_start { name = get_or o place None; put = bytes_at all' place }) named ∙ ap (λ (l : List ℕ). record at_start { name = get_or own place None; put = l }) joined

pub ruleset put_steps = (reading-put, writing-put_other, writing-put_same)

-- one more file
pub Stands-push : (all all' : List (List ℕ)) (bytes : List ℕ) (r : Reader) → all' ≡ all ++ bytes ∷ [] → Stands all r → Stands all' r
Stands-push all all' bytes r is stands = subst (λ l. Stands l r) (sym is) (omega (arith, length_push all bytes, stands.0), rw (get_or_append_left all (bytes ∷ []) [] r.file stands.0) stands.1)

pub reading-push : (fs fs' : List File) (own : Option (List ℕ)) (bytes : List ℕ) (r : Reader) → names fs' ≡ names fs ++ own ∷ [] → contents fs' ≡ contents fs ++ bytes ∷ [] → Stands (contents fs) r
    → reading (names fs') (contents fs') r ≡ reading (names fs) (contents fs) r
reading-push fs fs' own bytes r named is stands =
    let there : r.file < length (names fs) = omega (arith, length-map fs name_of, length-map fs (λ (f : File). f.bytes.items), stands.0) in
    let name : get_or (names fs') r.file None ≡ get_or (names fs) r.file None = ap (λ o. get_or o r.file None) named ∙ get_or_append_left (names fs) (own ∷ []) None r.file there in
    let same : shown (contents fs') r ≡ shown (contents fs) r = ap (λ l. shown l r) is ∙ ap (take r.end) (get_or_append_left (contents fs) (bytes ∷ []) [] r.file stands.0) in
    ap (λ (l : List ℕ). record at_start { name = get_or (names fs') r.file None; taken = take r.taken l; left = drop r.taken l }) same
    ∙ ap (λ (o : Option (List ℕ)). record at_start { name = o; taken = take r.taken (shown (contents fs) r); left = drop r.taken (shown (contents fs) r) }) name

pub writing-push : (fs fs' : List File) (own : Option (List ℕ)) (bytes : List ℕ) (place : ℕ) → names fs' ≡ names fs ++ own ∷ [] → contents fs' ≡ contents fs ++ bytes ∷ [] → place < length fs
    → writing (names fs') (contents fs') place ≡ writing (names fs) (contents fs) place
writing-push fs fs' own bytes place named is there =
    let there_named : place < length (names fs) = omega (arith, length-map fs name_of, there) in
    let there_held : place < length (contents fs) = omega (arith, length-map fs (λ (f : File). f.bytes.items), there) in
    let name : get_or (names fs') place None ≡ get_or (names fs) place None = ap (λ o. get_or o place None) named ∙ get_or_append_left (names fs) (own ∷ []) None place there_named in
    let same : bytes_at (contents fs') place ≡ bytes_at (contents fs) place = ap (λ l. bytes_at l place) is ∙ get_or_append_left (contents fs) (bytes ∷ []) [] place there_held in
    ap (λ (l : List ℕ). record at_start { name = get_or (names fs') place None; put = l }) same ∙ ap (λ (o : Option (List ℕ)). record at_start { name = o; put = bytes_at (contents fs) place }) name

-- what is found then
pub newest-bound : (all : List (Option (List ℕ))) (name : List ℕ) → IfSome (newest all name) (λ place. place < length all)
newest-bound [] name = tt
newest-bound (own ∷ rest) name = step (newest rest name) (is_named own name) (newest-bound rest name) where
  step : (later : Option ℕ) (here : Bool) → IfSome later (λ place. place < length rest) → IfSome (place_after later here) (λ place. place < length (own ∷ rest))
  step (Some place) here below = omega (arith, below)
  step None true below = omega arith
  step None false below = tt

found-push : (all : List (List ℕ)) (bytes : List ℕ) (n : ℕ) (found : Option ℕ) (here : Bool) → n ≡ length all → IfSome found (λ place. place < length all)
    → option_map (bytes_at (all ++ bytes ∷ [])) (cond here (Some n) found) ≡ cond here (Some bytes) (option_map (bytes_at all) found)
found-push all bytes n found true is below = ap Some (get_or_push all bytes [] n (sym is))
found-push all bytes n None false is below = refl
found-push all bytes n (Some place) false is below = ap Some (get_or_append_left all (bytes ∷ []) [] place below)

place-push : (n place : ℕ) (found : Option ℕ) (here : Bool) → place < n → is_place (cond here (Some n) found) place ≡ cond here false (is_place found place)
place-push n place found true below = grind (arith, nat_tests)
place-push n place found false below = refl

pub file-push : (fs fs' : List File) (own : Option (List ℕ)) (bytes : List ℕ) (name : List ℕ) → names fs' ≡ names fs ++ own ∷ [] → contents fs' ≡ contents fs ++ bytes ∷ []
    → option_map (bytes_at (contents fs')) (newest (names fs') name) ≡ cond (is_named own name) (Some bytes) (option_map (bytes_at (contents fs)) (newest (names fs) name))
file-push fs fs' own bytes name named is =
    let sized : length (names fs) ≡ length (contents fs) = length-map fs name_of ∙ sym (length-map fs (λ (f : File). f.bytes.items)) in
    ap (λ (l : List (List ℕ)). option_map (bytes_at l) (newest (names fs') name)) is
    ∙ ap (λ (o : Option ℕ). option_map (bytes_at (contents fs ++ bytes ∷ [])) o) (ap (λ o. newest o name) named ∙ newest-push own (names fs) name)
    ∙ found-push (contents fs) bytes (length (names fs)) (newest (names fs) name) (is_named own name) sized (subst (λ n. IfSome (newest (names fs) name) (λ place. place < n)) sized (newest-bound (names fs) name))

pub shows-push : (fs fs' : List File) (own : Option (List ℕ)) (name : List ℕ) (place : ℕ) → names fs' ≡ names fs ++ own ∷ [] → place < length fs → is_place (newest (names fs') name) place ≡ cond (is_named own name) false (is_place (newest (names fs) name) place)
shows-push fs fs' own name place named there =
    ap (λ (o : Option ℕ). is_place o place) (ap (λ o. newest o name) named ∙ newest-push own (names fs) name)
    ∙ place-push (length (names fs)) place (newest (names fs) name) (is_named own name) (omega (arith, there, length-map fs name_of))

place-own : (n : ℕ) (found : Option ℕ) (here : Bool) → IfSome found (λ place. place < n) → is_place (cond here (Some n) found) n ≡ here
place-own n found true below = grind (arith, nat_tests)
place-own n None false below = refl
place-own n (Some place) false below = grind (arith, nat_tests)

pub shows-own : (fs fs' : List File) (own : Option (List ℕ)) (name : List ℕ) (place : ℕ) → names fs' ≡ names fs ++ own ∷ [] → place ≡ length fs → is_place (newest (names fs') name) place ≡ is_named own name
shows-own fs fs' own name place named is =
    let last : place ≡ length (names fs) = is ∙ sym (length-map fs name_of) in
    ap (λ (o : Option ℕ). is_place o place) (ap (λ o. newest o name) named ∙ newest-push own (names fs) name)
    ∙ ap (λ (n : ℕ). is_place (cond (is_named own name) (Some (length (names fs))) (newest (names fs) name)) n) last
    ∙ place-own (length (names fs)) (newest (names fs) name) (is_named own name) (newest-bound (names fs) name)

pub ruleset push_steps = (Stands-push, reading-push, writing-push, file-push, shows-push)

pub never : (b : Bool) → false ≡ cond b false false
never true = refl
never false = refl
