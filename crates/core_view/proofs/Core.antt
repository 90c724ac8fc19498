-- What the parts keep, and when objects and the held heap stay as they are.
use Rattle.std.proofs.Common.{◌≡◌, ◌≢◌, ℕ, pos, ◌%◌, ◌<◌, ◌≤◌, Bool, true, false, cond, eqb, List, ◌∷◌, get_or, refl, sym, ◌∙◌, ap, subst, arith, ⊎_elim, Option, Some, None, count_by}
use Rattle.std.proofs.lemmas.Grind.{common_steps}
use Rattle.std.proofs.lemmas.Bool.{cases_eq}
use Rattle.std.proofs.Math.Path.{fun_ext}
use Rattle.std.specs.List.{slice_get}
use Rattle.std.specs.Prelude.{take, length}
use Rattle.long_names.specs.declared.value.Value.{Value}
use Rattle.long_names.specs.declared.value.Value.TheVariants.{Int, Ref}
use Rattle.long_names.specs.declared.object.Object.{Object}
use Rattle.long_names.specs.Objects.{kind_of, len_of, fields_of}
use Rattle.long_names.specs.declared.object.Kind.{Kind}
use Rattle.long_names.specs.declared.object.Kind.TheVariants as kind
use Rattle.long_names.specs.declared.object.Body.TheVariants as body
use Rattle.object_table.specs.declared.entry.Entry.{Entry}
use Rattle.object_table.specs.declared.entry.EntryState.{EntryState}
use Rattle.object_table.specs.declared.entry.EntryState.TheVariants.{Free, Leaf, Resident}
use Rattle.object_table.specs.Entries.{put, is_short, is_used, place_of}
use Rattle.core_view.specs.Core.{Core}
use Rattle.core_view.specs.Words.{meant, bytes_in, header_in, literals_in, code_in, pointers, body_in}
use Rattle.core_view.specs.Held.{Disk, fields_there, object_at, held_in, held_by, held}
use Rattle.core_view.specs.Counts.{names, one, holders_in, holders, tally, uses}
use Rattle.core_view.specs.Kept.{IsCore, IsLike, IsBody}
use Rattle.core_view.proofs.Lists.{put-here, put-there, values-same, one-here, count-cons, count-some, tally-one}

-- ---- entries

-- an entry with a body is in use
pub placed-used : (state : EntryState) (p : ℕ) → place_of state ≡ Some p → is_used state ≡ true
placed-used Free p e = cc
placed-used Leaf p e = cc
placed-used (Resident q) p e = refl

pub free-unplaced : (state : EntryState) → is_used state ≡ false → place_of state ≡ None
free-unplaced Free e = refl
free-unplaced Leaf e = cc
free-unplaced (Resident q) e = cc

-- two entries with bodies have them at two places
pub apart : (c : Core) → IsCore c → (s q p r : ℕ) → place_of (c.entries s).state ≡ Some p → place_of (c.entries q).state ≡ Some r → q ≢ s → r ≢ p
apart c core s q p r at there away e = away (sym (core.owned q r there) ∙ ap (λ (z : ℕ). (c.chunks z).owner) e ∙ core.owned s p at)

-- two entries in use have two names
pub other-name : (c : Core) → IsCore c → (s q n m : ℕ) → c.find n ≡ Some s → c.find m ≡ Some q → q ≢ s → m ≢ n
other-name c core s q n m e f away same = away (some (sym f ∙ ap c.find same ∙ e))
  where
    some : Some q ≡ Some s → q ≡ s
    some h = cc

-- ---- what is named is in use

holders-placed : (c : Core) (s p : ℕ) → place_of (c.entries s).state ≡ Some p → holders c s ≡ (c.entries s).class.0 ∷ pointers (c.entries s).kind (c.chunks p).words
unfolding holders
holders-placed c s p e = ap (λ o. holders_in c.chunks (c.entries s) o) e

pub class-used : (c : Core) → IsCore c → (s p : ℕ) → place_of (c.entries s).state ≡ Some p → 1 ≤ uses c (c.entries s).class.0
unfolding uses
class-used c core s p e =
    let t = (c.entries s).class.0 in
    let low : s < c.bound = core.within s (placed-used (c.entries s).state p e) in
    let all : count_by (names t) (holders c s) ≡ count_by (names t) (t ∷ pointers (c.entries s).kind (c.chunks p).words) = ap (λ xs. count_by (names t) xs) (holders-placed c s p e) in
    let first = count-cons t t (pointers (c.entries s).kind (c.chunks p).words) in
    let here : one t t ≡ 1 = one-here t (core.classed s p e) in
    let some : count_by (names t) (holders c s) ≤ tally c.bound (holders c) t = tally-one c.bound (holders c) s t low in
    omega arith

pub word-used : (c : Core) → IsCore c → (s p i t : ℕ) → place_of (c.entries s).state ≡ Some p → slice_get (pointers (c.entries s).kind (c.chunks p).words) i ≡ Some t → is_short t ≡ true → 1 ≤ uses c t
unfolding uses
word-used c core s p i t e there is =
    let low : s < c.bound = core.within s (placed-used (c.entries s).state p e) in
    let all : count_by (names t) (holders c s) ≡ count_by (names t) ((c.entries s).class.0 ∷ pointers (c.entries s).kind (c.chunks p).words) = ap (λ xs. count_by (names t) xs) (holders-placed c s p e) in
    let first = count-cons t (c.entries s).class.0 (pointers (c.entries s).kind (c.chunks p).words) in
    let more : one t t ≤ count_by (names t) (pointers (c.entries s).kind (c.chunks p).words) = count-some t (pointers (c.entries s).kind (c.chunks p).words) i t there in
    let here : one t t ≡ 1 = one-here t is in
    let some : count_by (names t) (holders c s) ≤ tally c.bound (holders c) t = tally-one c.bound (holders c) s t low in
    omega arith

-- what a word names is in use
pub used-live : (c : Core) → IsCore c → (t : ℕ) → 1 ≤ uses c t → is_used (c.entries t).state ≡ true
used-live c core t some = go (is_used (c.entries t).state) refl
  where
    go : (b : Bool) → is_used (c.entries t).state ≡ b → is_used (c.entries t).state ≡ true
    go true e = e
    go false e = let none = core.free t e in let most = core.counted t in absurd (omega arith)

-- ---- objects that stay

-- each name that some word needs is the same
abbrev pub SameNames : Core → Core → Type 0
SameNames c d = (t : ℕ) → 1 ≤ uses c t → (d.entries t).name ≡ (c.entries t).name

pub meant-same : (c d : Core) (old new : List Value) (i w : ℕ) → SameNames c d → new ≡ old → (is_short w ≡ true → 1 ≤ uses c w) → meant d.entries new i w ≡ meant c.entries old i w
meant-same c d old new i w same e live = odd (eqb (w % 2) 1) refl
  where
    odd : (b : Bool) → eqb (w % 2) 1 ≡ b → meant d.entries new i w ≡ meant c.entries old i w
    odd true is = simp is refl
    odd false is = none (eqb w 0) refl
      where
        none : (b : Bool) → eqb w 0 ≡ b → meant d.entries new i w ≡ meant c.entries old i w
        none true nought = simp (is, nought) (ap (λ xs. get_or xs i (Int (pos 0))) e)
        none false some = simp (is, some) (ap Ref (same w (live (grind (arith, common_steps)))))

-- what a word means where the entry that it names has the same name
pub meant-names : (old_entries entries : ℕ → Entry) (old : List Value) (i w : ℕ) → (is_short w ≡ true → (entries w).name ≡ (old_entries w).name) → meant entries old i w ≡ meant old_entries old i w
meant-names old_entries entries old i w same = odd (eqb (w % 2) 1) refl
  where
    odd : (b : Bool) → eqb (w % 2) 1 ≡ b → meant entries old i w ≡ meant old_entries old i w
    odd true is = simp is refl
    odd false is = none (eqb w 0) refl
      where
        none : (b : Bool) → eqb w 0 ≡ b → meant entries old i w ≡ meant old_entries old i w
        none true nought = simp (is, nought) refl
        none false some = simp (is, some) (ap Ref (same (grind (arith, common_steps))))

-- a body of words that mean the same
pub body-means : (old_entries entries : ℕ → Entry) (was now : List Value) (ws : List ℕ) (k : Kind) (len : ℕ) → ((i w : ℕ) → slice_get (pointers k ws) i ≡ Some w → meant entries now i w ≡ meant old_entries was i w) → body_in entries now ws k len ≡ body_in old_entries was ws k len
unfolding body_in
body-means old_entries entries was now ws kind.Pointers len h = ap body.Pointers (values-same (meant entries now) (meant old_entries was) ws h)
body-means old_entries entries was now ws kind.Words len h = refl
body-means old_entries entries was now ws kind.Bytes len h = refl
body-means old_entries entries was now ws kind.Method len h = ap (λ vs. body.Method (header_in ws) vs (take len (bytes_in (code_in ws)))) (values-same (meant entries now) (meant old_entries was) (literals_in ws) h)

pub object-same : (c d : Core) (disk now : Disk) → IsCore c → (s p : ℕ) → place_of (c.entries s).state ≡ Some p → SameNames c d → (d.chunks p).words ≡ (c.chunks p).words → now (c.entries s).name ≡ disk (c.entries s).name → object_at d now (c.entries s) p ≡ object_at c disk (c.entries s) p
object-same c d disk now core s p at same words record_ = λ i. record { class = same (c.entries s).class.0 (class-used c core s p at) i; body = bodies i }
  where
    bodies : body_in d.entries (fields_there (now (c.entries s).name)) (d.chunks p).words (c.entries s).kind (c.entries s).len ≡ body_in c.entries (fields_there (disk (c.entries s).name)) (c.chunks p).words (c.entries s).kind (c.entries s).len
    bodies =
        ap (λ ws. body_in d.entries (fields_there (now (c.entries s).name)) ws (c.entries s).kind (c.entries s).len) words
        ∙ body-means c.entries d.entries (fields_there (disk (c.entries s).name)) (fields_there (now (c.entries s).name)) (c.chunks p).words (c.entries s).kind (c.entries s).len
        (λ i w there. meant-same c d (fields_there (disk (c.entries s).name)) (fields_there (now (c.entries s).name)) i w same (ap fields_there record_) (λ is. word-used c core s p i w at there is))

-- ---- the held heap where at most one object changes

-- All names but n are found as before, at entries that are as before, and their objects and records are the same.
pub record AreOthersSame (c d : Core) (disk now : Disk) (n : ℕ) : Type 0 where
  pub find : (m : ℕ) → m ≢ n → d.find m ≡ c.find m
  pub disks : (m : ℕ) → m ≢ n → now m ≡ disk m
  pub entries : (m q : ℕ) → m ≢ n → c.find m ≡ Some q → d.entries q ≡ c.entries q
  pub objects : (m q p : ℕ) → m ≢ n → c.find m ≡ Some q → place_of (c.entries q).state ≡ Some p → object_at d now (c.entries q) p ≡ object_at c disk (c.entries q) p

pub held-put : (c d : Core) (disk now : Disk) (n : ℕ) → AreOthersSame c d disk now n → held d now ≡ put (held c disk) n (held d now n)
unfolding held
held-put c d disk now n same = fun_ext go
  where
    other : (m : ℕ) → m ≢ n → (x : Option ℕ) → c.find m ≡ x → held_by d now m x ≡ held_by c disk m x
    other m away None e = same.disks m away
    other m away (Some q) e = ap (λ (x : Entry). held_in d now m x (place_of x.state)) (same.entries m q away e) ∙ inner (place_of (c.entries q).state) refl
      where
        inner : (x : Option ℕ) → place_of (c.entries q).state ≡ x → held_in d now m (c.entries q) x ≡ held_in c disk m (c.entries q) x
        inner None f = same.disks m away
        inner (Some p) f = ap Some (same.objects m q p away e f)

    go : (m : ℕ) → held_by d now m (d.find m) ≡ cond (eqb m n) (held_by d now n (d.find n)) (held_by c disk m (c.find m))
    go m = ⊎_elim here there (cases_eq m n)
      where
        here : m ≡ n → held_by d now m (d.find m) ≡ cond (eqb m n) (held_by d now n (d.find n)) (held_by c disk m (c.find m))
        here e = subst (λ (z : ℕ). held_by d now z (d.find z) ≡ cond (eqb z n) (held_by d now n (d.find n)) (held_by c disk z (c.find z))) (sym e)
            (sym (put-here (λ z. held_by c disk z (c.find z)) n (held_by d now n (d.find n))))

        there : m ≢ n → held_by d now m (d.find m) ≡ cond (eqb m n) (held_by d now n (d.find n)) (held_by c disk m (c.find m))
        there e = ap (λ x. held_by d now m x) (same.find m e) ∙ other m e (c.find m) refl ∙ sym (put-there (λ z. held_by c disk z (c.find z)) n (held_by d now n (d.find n)) m e)

-- what is put is there already
pub put-same : {A : Type 0} (f : ℕ → A) (n : ℕ) (a : A) → f n ≡ a → put f n a ≡ f
put-same {A} f n a e = fun_ext (λ m. ⊎_elim (λ (h : m ≡ n). subst (λ (z : ℕ). put f n a z ≡ f z) (sym h) (put-here f n a ∙ sym e)) (λ (h : m ≢ n). put-there f n a m h) (cases_eq m n))

-- nothing changes where the object at n is the same
pub held-same : (c d : Core) (disk now : Disk) (n : ℕ) → AreOthersSame c d disk now n → held d now n ≡ held c disk n → held d now ≡ held c disk
held-same c d disk now n same e = held-put c d disk now n same ∙ put-same (held c disk) n (held d now n) (sym e)

pub held-at : (c : Core) (disk : Disk) (n s p : ℕ) → c.find n ≡ Some s → place_of (c.entries s).state ≡ Some p → held c disk n ≡ Some (object_at c disk (c.entries s) p)
unfolding held
held-at c disk n s p e at = ap (λ x. held_by c disk n x) e ∙ ap (λ x. held_in c disk n (c.entries s) x) at

pub held-leaf : (c : Core) (disk : Disk) (n s : ℕ) → c.find n ≡ Some s → place_of (c.entries s).state ≡ None → held c disk n ≡ disk n
unfolding held
held-leaf c disk n s e at = ap (λ x. held_by c disk n x) e ∙ ap (λ x. held_in c disk n (c.entries s) x) at

pub held-absent : (c : Core) (disk : Disk) (n : ℕ) → c.find n ≡ None → held c disk n ≡ disk n
unfolding held
held-absent c disk n e = ap (λ x. held_by c disk n x) e

-- a record that is like an object is like one that is the same
pub like-same : (o was : Option Object) (old now : Object) → o ≡ was → old ≡ now → IsLike was old → IsLike o now
like-same o was old now e same like = record {
  object = like.object;
  there = e ∙ like.there;
  same_class = like.same_class ∙ ap (λ (x : Object). x.class) same;
  same_kind = like.same_kind ∙ ap (λ (x : Object). kind_of x.body) same;
  same_len = like.same_len ∙ ap (λ (x : Object). len_of x.body) same;
  same_fields = like.same_fields ∙ ap (λ (x : Object). length (fields_of x.body)) same;
}

-- a body whose object and words stay
pub body-same : (c d : Core) (disk now : Disk) (e : Entry) (p : ℕ) → IsBody c disk e p → object_at d now e p ≡ object_at c disk e p → (d.chunks p).words ≡ (c.chunks p).words → now e.name ≡ disk e.name → IsBody d now e p
body-same c d disk now e p b object words there = record {
  like = λ f. like-same (now e.name) (disk e.name) (object_at c disk e p) (object_at d now e p) there (sym object) (b.like f);
  clean = λ f. there ∙ b.clean f ∙ ap Some (sym object);
  absent = λ f. there ∙ b.absent f;
  whole = λ f i at. b.whole f i (subst (λ (ws : List ℕ). slice_get (pointers e.kind ws) i ≡ Some 0) words at);
}
