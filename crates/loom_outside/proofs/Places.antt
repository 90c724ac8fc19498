-- Lists of files, after a change of one and after one more.
use Rattle.std.proofs.Common.{◌≡◌, ℕ, ◌+◌, ◌<◌, ◌≤◌, List, [], ◌∷◌, ◌++◌, length, map, take, get_or, set, Bool, true, false, cond, Option, None, Some, Result, Ok, Err, is_ok, OnOk, OnErr, IfSome, inl, inr, rules, sym, ◌∙◌, ap, refl, arith, vec_capacity}
use Rattle.std.proofs.lemmas.List.{map-set, set-get_or, get_or-map, get_or-set_same, get_or-set_other, length-map, length-take-le, map_more}
use Rattle.std.proofs.lemmas.Bool.{cases_eq}
use Rattle.std.proofs.lemmas.Slice.Eq.{bytes_eq-Decides}
use Rattle.loom_outside.specs.Files.{name_of, names, contents, rooms, bytes_at, is_named, place_after, newest}
use Rattle.loom_outside.specs.declared.files.File.{File}

-- what a change of a file leaves as it was in it
pub map-set_same : {X : Type 0} (h : File → X) (fs : List File) (i : ℕ) (f g : File) → i < length fs → f ≡ get_or fs i f → h g ≡ h f → map h (set fs i g) ≡ map h fs
map-set_same h fs i f g within read same =
    map-set h fs i g ∙ ap (λ x. set (map h fs) i x) (same ∙ ap h read ∙ sym (get_or-map h fs i f (h f) within)) ∙ set-get_or (map h fs) i (h f)

-- the bytes of the file at a place, as it is read
pub bytes_read : (fs : List File) (i : ℕ) (f : File) → i < length fs → f ≡ get_or fs i f → f.bytes.items ≡ bytes_at (contents fs) i
bytes_read fs i f within read = ap (λ (x : File). x.bytes.items) read ∙ sym (get_or-map (λ (x : File). x.bytes.items) fs i f [] within)

pub room_read : (fs : List File) (i : ℕ) (f : File) → i < length fs → f ≡ get_or fs i f → vec_capacity f.bytes ≡ get_or (rooms fs) i 0
room_read fs i f within read = ap (λ (x : File). vec_capacity x.bytes) read ∙ sym (get_or-map (λ (x : File). vec_capacity x.bytes) fs i f 0 within)

-- other bytes in a file
pub contents-set : (fs : List File) (i : ℕ) (g : File) (bytes : List ℕ) → g.bytes.items ≡ bytes → contents (set fs i g) ≡ set (contents fs) i bytes
contents-set fs i g bytes is = map-set (λ (x : File). x.bytes.items) fs i g ∙ ap (λ x. set (contents fs) i x) is

pub room-set : (fs : List File) (i : ℕ) (g : File) → i < length fs → get_or (rooms (set fs i g)) i 0 ≡ vec_capacity g.bytes
room-set fs i g within =
    let among : i < length (rooms fs) = rw (length-map fs (λ (x : File). vec_capacity x.bytes)) within in
    ap (λ l. get_or l i 0) (map-set (λ (x : File). vec_capacity x.bytes) fs i g) ∙ get_or-set_same (rooms fs) i (vec_capacity g.bytes) 0 among

-- no file has less room
pub rooms-set : (fs : List File) (i : ℕ) (f g : File) → i < length fs → f ≡ get_or fs i f → vec_capacity f.bytes ≤ vec_capacity g.bytes → (k : ℕ) → get_or (rooms fs) k 0 ≤ get_or (rooms (set fs i g)) k 0
rooms-set fs i f g within read more k = elim (cases_eq k i) [
  | inl same ↦ rw (same, room-set fs i g within, ← room_read fs i f within read) more
  | inr other ↦ rw (map-set (λ (x : File). vec_capacity x.bytes) fs i g, get_or-set_other (rooms fs) i k (vec_capacity g.bytes) 0 other) (omega arith)
]

-- bytes put behind those of a file, where there was memory for it
pub contents-put : {T E : Type 0} (r : Result T E) (fs : List File) (i : ℕ) (f g : File) (b : List ℕ) → i < length fs → f ≡ get_or fs i f → g.bytes.items ≡ cond (is_ok r) (f.bytes.items ++ b) f.bytes.items
    → OnOk r (contents (set fs i g) ≡ set (contents fs) i (bytes_at (contents fs) i ++ b))
contents-put (Ok x) fs i f g b within read is = contents-set fs i g (bytes_at (contents fs) i ++ b) (is ∙ ap (λ l. l ++ b) (bytes_read fs i f within read))
contents-put (Err e) fs i f g b within read is = tt

pub contents-not_put : {T E : Type 0} (r : Result T E) (fs : List File) (i : ℕ) (f g : File) (b : List ℕ) → i < length fs → f ≡ get_or fs i f → g.bytes.items ≡ cond (is_ok r) (f.bytes.items ++ b) f.bytes.items → OnErr r (contents (set fs i g) ≡ contents fs)
contents-not_put (Ok x) fs i f g b within read is = tt
contents-not_put (Err e) fs i f g b within read is = map-set_same (λ (x : File). x.bytes.items) fs i f g within read is

-- one more file
pub newest-push : (own : Option (List ℕ)) (all : List (Option (List ℕ))) (name : List ℕ) → newest (all ++ own ∷ []) name ≡ cond (is_named own name) (Some (length all)) (newest all name)
newest-push own [] name = grind arith
newest-push own (first ∷ rest) name = grind (arith, newest-push own rest name)

pub newest-seen : (fs : List File) (i : ℕ) (f : File) (name : List ℕ) → i < length fs → f ≡ get_or fs i f → newest (names (take (i + 1) fs)) name ≡ cond (is_named (name_of f) name) (Some i) (newest (names (take i fs)) name)
newest-seen fs i f name within read =
    let seen : length (names (take i fs)) ≡ i = length-map (take i fs) name_of ∙ length-take-le i fs (omega arith) in
    ap (λ l. newest l name) (map_more name_of fs i f within ∙ ap (λ own. names (take i fs) ++ own ∷ []) (sym (ap name_of read)))
    ∙ newest-push (name_of f) (names (take i fs)) name
    ∙ ap (λ n. cond (is_named (name_of f) name) (Some n) (newest (names (take i fs)) name)) seen

-- the file found has the name
pub newest-named : (all : List (Option (List ℕ))) (name : List ℕ) → IfSome (newest all name) (λ place. get_or all place None ≡ Some name)
newest-named [] name = tt
newest-named (own ∷ rest) name = step own name rest (newest rest name) (is_named own name) (is_it own name) (newest-named rest name) where
  is_it : (own : Option (List ℕ)) (name : List ℕ) → is_named own name ≡ true → own ≡ Some name
  is_it None name e = absurd (search (rules, e))
  is_it (Some own) name e = ap Some ((bytes_eq-Decides own name).0 e)

  step : (own : Option (List ℕ)) (name : List ℕ) (rest : List (Option (List ℕ))) (later : Option ℕ) (here : Bool) → (here ≡ true → own ≡ Some name) → IfSome later (λ place. get_or rest place None ≡ Some name)
      → IfSome (place_after later here) (λ place. get_or (own ∷ rest) place None ≡ Some name)
  step own name rest (Some place) here is there = grind (arith, there)
  step own name rest None true is there = is refl
  step own name rest None false is there = tt
