-- The rules of the whole image, by the names and the counts of a tally.
use Rattle.std.proofs.Common.{zero, suc, ◌≡◌, ℕ, ◌+◌, ◌≤◌, Bool, true, false, cond, eqb, ◌||◌, List, [], ◌∷◌, length, map, take, drop, Option, Some, None, is_some, option_map, IsTrue, get_or, refl, sym, ap, ap₂, subst, ◌∙◌, arith}
use Rattle.std.specs.Prelude.{All, IsSome}
use Rattle.std.specs.List.{slice_get}
use Rattle.std.proofs.lemmas.List.{take_all, length-map}
use Rattle.std.proofs.lemmas.Option.{get_or_from_slice_get, slice_get_within}
use Rattle.std.proofs.lemmas.List.Elements.{All-nil, All-cons, All-head, All-tail, All-weaker}
use Rattle.std.proofs.lemmas.List.Sums.{sum_by_push}
use Rattle.long_names.specs.Names.{known_names}
use Rattle.long_names.specs.Objects.{holdings}
use Rattle.long_names.specs.declared.object.Object.{Object}
use Rattle.long_names.specs.declared.object.Rec.{Rec}
use Rattle.loom_host.specs.declared.outside.Host.{Ghosts}
use Rattle.loom_host.specs.declared.outside.Role.TheVariants.{Work}
use Rattle.loom_host.specs.Work.{IsWorkRead}
use Rattle.disk_objects.specs.Calls.{HoldsObjects}
use Rattle.disk_objects.specs.declared.rest.DiskRest.{DiskRest}
use Rattle.disk_objects.specs.Function.{counts_of, disk_of}
use Rattle.image_format.specs.declared.fault.Break.{Break}
use Rattle.image_format.specs.declared.opening.State.{State}
use Rattle.image_format.specs.Rules as rules
use Rattle.image_format.specs.Rules.{◌or◌, break, object_of_rec, rec_in, object_in, words_in, has_all, is_counted, first_failing, first_missing, first_lost, lost_name}
use Rattle.image_format.proofs.Whole.{held_there, there_has}
use Rattle.image_format.proofs.Writing.{push_taken}
use Rattle.image_reader.specs.declared.tally.Tally.{Tally}
use Rattle.image_reader.specs.Inside.{AreListed}
use Rattle.image_reader.specs.Judged.{AreRead, AreStated, IsClosing, IsJudged, Unclosed, broken_in, counts_broken, fields_broken, names_missed, words_broken, is_exact, lost_in, lost_word, missing_among, names_broken}
use Rattle.image_reader.specs.Loaded.{IsStored, stated_in}
use Rattle.image_reader.specs.Names.{is_among}
use Rattle.image_reader.specs.Tally.{Counts, IsCountable, IsFresh, Raises, counted}
use Rattle.image_reader.specs.declared.fault.LoadFault.{LoadFault}
use Rattle.image_reader.specs.declared.fault.LoadFault.TheVariants.{Bad, Read, Disk, Memory}
use Rattle.image_reader.proofs.Stored.{still_stored, stored_holds}
use Rattle.image_reader.proofs.TallyLaws.{names-stay, raises-then}

-- ---- the records of the names

-- the record at a place of the list
pub record IsRecAt (recs : List Rec) (i name : ℕ) : Type 0 where
  pub rec : Rec
  pub at : slice_get recs i ≡ Some rec
  pub named : rec.name ≡ name

pub rec-at : (recs : List Rec) (i name : ℕ) → slice_get (map (λ (r : Rec). r.name) recs) i ≡ Some name → IsRecAt recs i name
rec-at [] i name e = absurd (let clash : ◌≡◌ {A = Option ℕ} None (Some name) = e in let no : ⊥ = cc in no)
rec-at (r ∷ rs) zero name e = let same : r.name ≡ name = cc in record { rec = r; at = refl; named = same }
rec-at (r ∷ rs) (suc i) name e = let x = rec-at rs i name e in record { rec = x.rec; at = x.at; named = x.named }

all-at : (P : Rec → Type 0) (recs : List Rec) (i : ℕ) (r : Rec) → slice_get recs i ≡ Some r → All P recs → P r
all-at P recs i r e all = subst P (get_or_from_slice_get recs i r r e) (all i r (slice_get_within recs i r e))

-- ---- one record after the other

pub failing-at : (rule : ℕ) (test : Rec → Bool) (recs : List Rec) (i : ℕ) (r : Rec) → slice_get recs i ≡ Some r
    → first_failing rule test (drop i recs) ≡ cond (test r) (first_failing rule test (drop (i + 1) recs)) (Some (break rule r.name))
failing-at rule test [] i r e = absurd (let clash : ◌≡◌ {A = Option Rec} None (Some r) = e in let no : ⊥ = cc in no)
failing-at rule test (x ∷ xs) zero r e =
    let same : x ≡ r = cc in
    subst (λ (y : Rec). first_failing rule test (x ∷ xs) ≡ cond (test y) (first_failing rule test xs) (Some (break rule y.name))) same refl
failing-at rule test (x ∷ xs) (suc i) r e =
    let same : suc (i + 1) ≡ suc i + 1 = omega arith in
    subst (λ (k : ℕ). first_failing rule test (drop i xs) ≡ cond (test r) (first_failing rule test (drop k (x ∷ xs))) (Some (break rule r.name))) same (failing-at rule test xs i r e)

pub failing-none : (rule : ℕ) (test : Rec → Bool) (recs : List Rec) (i : ℕ) → length recs ≤ i → first_failing rule test (drop i recs) ≡ None
failing-none rule test [] zero le = refl
failing-none rule test [] (suc i) le = refl
failing-none rule test (x ∷ xs) zero le = absurd (let no : ⊥ = omega (arith, le) in no)
failing-none rule test (x ∷ xs) (suc i) le = failing-none rule test xs i (omega (arith, le))

words-more : (recs : List Rec) (i : ℕ) (r : Rec) (q : ℕ) → slice_get recs i ≡ Some r → words_in (take (i + 1) recs) q ≡ words_in (take i recs) q + holdings (object_of_rec r) q
words-more recs i r q at = ap (λ (rs : List Rec). words_in rs q) (push_taken recs i r at) ∙ sum_by_push (λ (x : Rec). holdings (object_of_rec x) q) (take i recs) r

-- ---- what is there

among-there : (recs : List Rec) (q : ℕ) → is_among q (map (λ (r : Rec). r.name) recs) ≡ is_some (object_in recs q)
among-there [] q = refl
among-there (r ∷ rs) q = go (eqb r.name q) (among-there rs q)
  where
    go : (b : Bool) → is_among q (map (λ (x : Rec). x.name) rs) ≡ is_some (object_in rs q) → (b || is_among q (map (λ (x : Rec). x.name) rs)) ≡ is_some (option_map object_of_rec (cond b (Some r) (rec_in rs q)))
    go true e = refl
    go false e = e

fresh-there : (recs : List Rec) (t : Tally) (q : ℕ) → IsFresh (map (λ (r : Rec). r.name) recs) t → is_some (counted t q) ≡ is_some (object_in recs q)
fresh-there recs t q fresh = ap is_some (fresh.zero q) ∙ go (is_among q (map (λ (r : Rec). r.name) recs)) ∙ among-there recs q
  where
    go : (b : Bool) → is_some (let o : Option ℕ = cond b (Some 0) None in o) ≡ b
    go true = refl
    go false = refl

pub now-there : (by : ℕ → ℕ) (recs : List Rec) (old now : Tally) (q : ℕ) → IsFresh (map (λ (r : Rec). r.name) recs) old → Raises by old now → is_some (counted now q) ≡ is_some (object_in recs q)
now-there by recs old now q fresh raised = names-stay by old now q raised ∙ fresh-there recs old q fresh

closed-test : (by : ℕ → ℕ) (recs : List Rec) (old now : Tally) (r : Rec) → IsFresh (map (λ (x : Rec). x.name) recs) old → Raises by old now → IsCountable now (object_of_rec r) → has_all (object_in recs) r ≡ true
closed-test by recs old now r fresh raised is = there_has (object_in recs) r (λ q held. sym (now-there by recs old now q fresh raised) ∙ is.there q held)

open-test : (by : ℕ → ℕ) (recs : List Rec) (old now : Tally) (r : Rec) → IsFresh (map (λ (x : Rec). x.name) recs) old → Raises by old now → (IsCountable now (object_of_rec r) → ⊥) → has_all (object_in recs) r ≡ false
open-test by recs old now r fresh raised other = go (has_all (object_in recs) r) refl
  where
    go : (b : Bool) → has_all (object_in recs) r ≡ b → b ≡ false
    go false e = refl
    go true e = absurd (other (record { there = λ q held. now-there by recs old now q fresh raised ∙ held_there (object_in recs) r q e held }))

-- ---- rule 10

pub closing-none : (recs : List Rec) (old : Tally) → Raises (λ q. 0) old old → IsClosing recs old old 0
closing-none recs old none = record { raised = record { more = none.more }; left = refl }

pub closing-more : (recs : List Rec) (old now new : Tally) (i : ℕ) (r : Rec) (closed : Bool) → IsFresh (map (λ (x : Rec). x.name) recs) old → slice_get recs i ≡ Some r → IsClosing recs old now i
    → Counts (object_of_rec r) now new closed → closed ≡ true → IsClosing recs old new (i + 1)
closing-more recs old now new i r closed fresh at so_far counts so =
    let is = counts.0.0 so in
    record {
      raised = raises-then (words_in (take i recs)) (holdings (object_of_rec r)) (words_in (take (i + 1) recs)) old now new so_far.raised (counts.1 so) (λ q. words-more recs i r q at);
      left =
          so_far.left
          ∙ failing-at 10 (has_all (object_in recs)) recs i r at
          ∙ ap (λ (b : Bool). cond b (first_failing 10 (has_all (object_in recs)) (drop (i + 1) recs)) (Some (break 10 r.name))) (closed-test (words_in (take i recs)) recs old now r fresh so_far.raised is);
    }

pub closing-stops : (recs : List Rec) (old now new : Tally) (i name : ℕ) (r : Rec) (closed : Bool) → IsFresh (map (λ (x : Rec). x.name) recs) old → slice_get recs i ≡ Some r → r.name ≡ name → IsClosing recs old now i
    → Counts (object_of_rec r) now new closed → closed ≡ false → Unclosed recs old new (Some name)
closing-stops recs old now new i name r closed fresh at named so_far counts stuck = record {
  first = sym (
      so_far.left
      ∙ failing-at 10 (has_all (object_in recs)) recs i r at
      ∙ ap (λ (b : Bool). cond b (first_failing 10 (has_all (object_in recs)) (drop (i + 1) recs)) (Some (break 10 r.name)))
      (open-test (words_in (take i recs)) recs old now r fresh so_far.raised (λ is. let clash : ◌≡◌ {A = Bool} false true = sym stuck ∙ counts.0.1 is in let never : ⊥ = cc in never))
      ∙ ap (λ (n : ℕ). let o : Option Break = Some (break 10 n) in o) named
      );
  all = λ e. absurd (let clash : ◌≡◌ {A = Option ℕ} (Some name) None = e in let never : ⊥ = cc in never);
}

pub closing-done : (recs : List Rec) (old now : Tally) (i : ℕ) → length recs ≤ i → IsClosing recs old now i → Unclosed recs old now None
closing-done recs old now i le so_far = record {
  first = sym (so_far.left ∙ failing-none 10 (has_all (object_in recs)) recs i le);
  all = λ e. subst (λ (rs : List Rec). Raises (words_in rs) old now) (take_all i recs le) so_far.raised;
}

-- ---- rule 11

pub object-at : {H : Type 0} (host : Ghosts H) (now : H) (rest : DiskRest) (recs : List Rec) (last next i name : ℕ) (x : IsRecAt recs i name) → AreListed recs last next → IsStored host now rest recs → disk_of host now rest name ≡ Some (object_of_rec x.rec)
object-at host now rest recs last next i name x listed s =
    let own = all-at (λ (r : Rec). rec_in recs r.name ≡ Some r) recs i x.rec x.at listed.own in
    ap (λ (f : ℕ → Option Object). f name) s.at ∙ ap (object_in recs) (sym x.named) ∙ ap (option_map object_of_rec) own

-- what was counted of a name that is there
counted-is : (recs : List Rec) (old now : Tally) (n : ℕ) → IsFresh (map (λ (r : Rec). r.name) recs) old → Raises (words_in recs) old now → is_some (object_in recs n) ≡ true → counted now n ≡ Some (words_in recs n)
counted-is recs old now n fresh raised there =
    raised.more n
    ∙ ap (λ (o : Option ℕ). option_map (λ c. c + words_in recs n) o) (fresh.zero n ∙ ap (λ (b : Bool). let o : Option ℕ = cond b (Some 0) None in o) (among-there recs n ∙ there))
    ∙ ap (λ (k : ℕ). let o : Option ℕ = Some k in o) (let e : 0 + words_in recs n ≡ words_in recs n = omega arith in e)

pub exact-is : (recs : List Rec) (old now : Tally) (last next i name stated : ℕ) (x : IsRecAt recs i name) → AreListed recs last next → IsFresh (map (λ (r : Rec). r.name) recs) old → Raises (words_in recs) old now
    → stated ≡ x.rec.count → is_exact (counted now name) name stated ≡ is_counted (words_in recs) x.rec
exact-is recs old now last next i name stated x listed fresh raised count =
    let own = all-at (λ (r : Rec). rec_in recs r.name ≡ Some r) recs i x.rec x.at listed.own in
    let there : is_some (object_in recs x.rec.name) ≡ true = ap (λ (o : Option Rec). is_some (option_map object_of_rec o)) own in
    ap₂ (λ (n c : ℕ). is_exact (counted now n) n c) (sym x.named) count
    ∙ ap (λ (o : Option ℕ). is_exact o x.rec.name x.rec.count) (counted-is recs old now x.rec.name fresh raised there)

-- ---- rules 12 and 14

pub missing-is : (by : ℕ → ℕ) (recs : List Rec) (old now : Tally) (ns : List ℕ) → IsFresh (map (λ (r : Rec). r.name) recs) old → Raises by old now
    → option_map (break 12) (missing_among (counted now) ns) ≡ first_missing (object_in recs) ns
missing-is by recs old now [] fresh raised = refl
missing-is by recs old now (n ∷ ns) fresh raised = ap (λ (b : Bool). option_map (break 12) (cond b (missing_among (counted now) ns) (Some n))) (now-there by recs old now n fresh raised) ∙ go (is_some (object_in recs n)) (missing-is by recs old now ns fresh raised)
  where
    go : (b : Bool) → option_map (break 12) (missing_among (counted now) ns) ≡ first_missing (object_in recs) ns → option_map (break 12) (cond b (missing_among (counted now) ns) (Some n)) ≡ cond b (first_missing (object_in recs) ns) (Some (break 12 n))
    go true later = later
    go false later = refl

lost-word : (by : ℕ → ℕ) (recs : List Rec) (old now : Tally) (n : ℕ) → IsFresh (map (λ (r : Rec). r.name) recs) old → Raises by old now → lost_word (counted now) n ≡ lost_name (object_in recs) n
lost-word by recs old now n fresh raised = ap (λ (b : Bool). let o : Option ℕ = cond (eqb n 0 || b) None (Some n) in o) (now-there by recs old now n fresh raised)

pub lost-is : (by : ℕ → ℕ) (recs : List Rec) (old now : Tally) (s : State) → IsFresh (map (λ (r : Rec). r.name) recs) old → Raises by old now → option_map (break 14) (lost_in (counted now) s) ≡ first_lost (object_in recs) s
lost-is by recs old now s fresh raised =
    let d = lost-word by recs old now s.display fresh raised in
    let i = lost-word by recs old now s.input fresh raised in
    let t = lost-word by recs old now s.timer fresh raised in
    ap (λ (o : Option ℕ). option_map (break 14) o) (ap₂ (λ (a b : Option ℕ). rules.lower a b) d (ap₂ (λ (a b : Option ℕ). rules.lower a b) i t))

-- ---- over the disk

pub are_still : {H : Type 0} (host : Ghosts H) (old new : H) (rest after : DiskRest) (names : List ℕ) (recs : List Rec) (next : ℕ) → IsWorkRead host old new → after ≡ rest → AreRead host old rest names recs next → AreRead host new after names recs next
are_still host old new rest after names recs next read same are = record {
  last = are.last;
  names_are = are.names_are;
  listed = are.listed;
  stored = λ told. still_stored host old new rest after recs (read.roles Work) same (are.stored told);
}

-- under another list of the same names
pub are_of : {H : Type 0} (host : Ghosts H) (now : H) (rest : DiskRest) (names held : List ℕ) (recs : List Rec) (next : ℕ) → held ≡ names → AreRead host now rest names recs next → AreRead host now rest held recs next
are_of host now rest names held recs next same are = subst (λ (ns : List ℕ). AreRead host now rest ns recs next) (sym same) are

pub are_stored : {H : Type 0} (host : Ghosts H) (now : H) (rest : DiskRest) (names : List ℕ) (recs : List Rec) (next : ℕ) → AreRead host now rest names recs next → HoldsObjects host now rest
are_stored host now rest names recs next are = stored_holds host now rest recs are.stored

-- the record of the name at a place, and its object
pub record IsNamed {H : Type 0} (host : Ghosts H) (now : H) (rest : DiskRest) (recs : List Rec) (i name : ℕ) : Type 0 where
  pub found : IsRecAt recs i name
  pub object : disk_of host now rest name ≡ Some (object_of_rec found.rec)

pub named-at : {H : Type 0} (host : Ghosts H) (now : H) (rest : DiskRest) (names : List ℕ) (recs : List Rec) (next i name : ℕ) → IsTrue (host.tells Work) → AreRead host now rest names recs next → slice_get names i ≡ Some name → IsNamed host now rest recs i name
named-at host now rest names recs next i name told are at =
    let x = rec-at recs i name (subst (λ (ns : List ℕ). slice_get ns i ≡ Some name) are.names_are at) in
    record {
      found = x;
      object = object-at host now rest recs are.last next i name x are.listed (are.stored told);
    }

pub fresh-of : (names : List ℕ) (recs : List Rec) (t : Tally) → names ≡ map (λ (r : Rec). r.name) recs → IsFresh names t → IsFresh (map (λ (r : Rec). r.name) recs) t
fresh-of names recs t same fresh = subst (λ (ns : List ℕ). IsFresh ns t) same fresh

pub many-of : (names : List ℕ) (recs : List Rec) → names ≡ map (λ (r : Rec). r.name) recs → length recs ≡ length names
many-of names recs same = sym (ap length same ∙ length-map recs (λ (r : Rec). r.name))

pub beside-of : (names stated : List ℕ) (recs : List Rec) → names ≡ map (λ (r : Rec). r.name) recs → stated ≡ map (λ (r : Rec). r.count) recs → length stated ≡ length names
beside-of names stated recs same counts = ap length counts ∙ length-map recs (λ (r : Rec). r.count) ∙ sym (ap length same ∙ length-map recs (λ (r : Rec). r.name))

-- the count beside a record
pub stated-is : (recs : List Rec) (i : ℕ) (r : Rec) → slice_get recs i ≡ Some r → get_or (map (λ (x : Rec). x.count) recs) i 0 ≡ r.count
stated-is [] i r e = absurd (let clash : ◌≡◌ {A = Option Rec} None (Some r) = e in let no : ⊥ = cc in no)
stated-is (x ∷ xs) zero r e = let same : x ≡ r = cc in ap (λ (y : Rec). y.count) same
stated-is (x ∷ xs) (suc i) r e = stated-is xs i r e

-- whether the count beside the name at a place is exact
pub record IsTested (recs : List Rec) (i name : ℕ) (exact : Bool) : Type 0 where
  pub found : IsRecAt recs i name
  pub test : exact ≡ is_counted (words_in recs) found.rec

pub tested : (names stated : List ℕ) (recs : List Rec) (next i name : ℕ) (old now : Tally) → slice_get names i ≡ Some name → AreStated names stated recs next → IsFresh names old → Raises (words_in recs) old now → IsTested recs i name (is_exact (counted now name) name (get_or stated i 0))
tested names stated recs next i name old now at are fresh raised =
    let x = rec-at recs i name (subst (λ (ns : List ℕ). slice_get ns i ≡ Some name) are.names_are at) in
    record {
      found = x;
      test = exact-is recs old now are.last next i name (get_or stated i 0) x are.listed (fresh-of names recs old are.names_are fresh) raised (ap (λ (cs : List ℕ). get_or cs i 0) are.stated_are ∙ stated-is recs i x.rec x.at);
    }

pub miscounted-next : (recs : List Rec) (i name : ℕ) (exact : Bool) (x : IsTested recs i name exact) → exact ≡ true → first_failing 11 (is_counted (words_in recs)) (drop i recs) ≡ first_failing 11 (is_counted (words_in recs)) (drop (i + 1) recs)
miscounted-next recs i name exact x is =
    failing-at 11 (is_counted (words_in recs)) recs i x.found.rec x.found.at
    ∙ ap (λ (b : Bool). cond b (first_failing 11 (is_counted (words_in recs)) (drop (i + 1) recs)) (Some (break 11 x.found.rec.name))) (sym x.test ∙ is)

pub miscounted-here : (recs : List Rec) (i name : ℕ) (exact : Bool) (x : IsTested recs i name exact) → exact ≡ false → first_failing 11 (is_counted (words_in recs)) (drop i recs) ≡ Some (break 11 name)
miscounted-here recs i name exact x is =
    failing-at 11 (is_counted (words_in recs)) recs i x.found.rec x.found.at
    ∙ ap (λ (b : Bool). cond b (first_failing 11 (is_counted (words_in recs)) (drop (i + 1) recs)) (Some (break 11 x.found.rec.name))) (sym x.test ∙ is)
    ∙ ap (λ (n : ℕ). let o : Option Break = Some (break 11 n) in o) x.found.named

-- a name at each place is held
pub held-some : {A : Type 0} (o : Option A) (x : A) → o ≡ Some x → IsSome o
held-some (Some y) x e = refl
held-some {A} None x e = let clash : ◌≡◌ {A = Option A} None (Some x) = e in absurd (cc)

-- ---- one rule after the other

pub words-none : (recs : List Rec) → fields_broken recs ≡ None → counts_broken recs ≡ None → words_broken recs ≡ None
words-none recs e f = ap₂ (λ (x y : Option Break). x or y) e f

-- what rule 10 breaks is what both break, and where it breaks nothing, what rule 11 breaks
pub judged-fields : (recs : List Rec) (f : LoadFault) → IsJudged (fields_broken recs) f → IsJudged (words_broken recs) f
judged-fields recs (Bad rule place) h = ap (λ (x : Option Break). x or counts_broken recs) h
judged-fields recs (Read count) h = tt
judged-fields recs (Disk d) h = tt
judged-fields recs Memory h = tt

pub judged-counts : (recs : List Rec) (f : LoadFault) → fields_broken recs ≡ None → IsJudged (counts_broken recs) f → IsJudged (words_broken recs) f
judged-counts recs (Bad rule place) none h = ap₂ (λ (x y : Option Break). x or y) none h
judged-counts recs (Read count) none h = tt
judged-counts recs (Disk d) none h = tt
judged-counts recs Memory none h = tt

-- the names that are missed are those that the records don't have
pub missed-is : (by : ℕ → ℕ) (recs : List Rec) (old now : Tally) (s : State) → IsFresh (map (λ (r : Rec). r.name) recs) old → Raises by old now → names_missed (counted now) s ≡ names_broken recs s
missed-is by recs old now s fresh raised = ap₂ (λ (x y : Option Break). x or y) (missing-is by recs old now known_names fresh raised) (lost-is by recs old now s fresh raised)

or-assoc : (a b d : Option Break) → (a or b) or d ≡ a or (b or d)
or-assoc None b d = refl
or-assoc (Some x) b d = refl

pub broken-words : (recs : List Rec) (s : State) → broken_in recs s ≡ words_broken recs or names_broken recs s
broken-words recs s = sym (or-assoc (first_failing 10 (has_all (object_in recs)) recs) (first_failing 11 (is_counted (words_in recs)) recs) (names_broken recs s))

-- what the first part breaks is what the whole breaks
pub judged-first : (recs : List Rec) (s : State) (f : LoadFault) → IsJudged (words_broken recs) f → IsJudged (broken_in recs s) f
judged-first recs s (Bad rule place) h = broken-words recs s ∙ ap (λ (x : Option Break). x or names_broken recs s) h
judged-first recs s (Read count) h = tt
judged-first recs s (Disk d) h = tt
judged-first recs s Memory h = tt

-- and where that breaks nothing, what the rest breaks
pub rest-judged : (recs : List Rec) (s : State) → words_broken recs ≡ None → broken_in recs s ≡ names_broken recs s
rest-judged recs s none = broken-words recs s ∙ ap (λ (x : Option Break). x or names_broken recs s) none

pub judged-rest : (recs : List Rec) (s : State) (f : LoadFault) → words_broken recs ≡ None → IsJudged (names_broken recs s) f → IsJudged (broken_in recs s) f
judged-rest recs s (Bad rule place) none h = rest-judged recs s none ∙ h
judged-rest recs s (Read count) none h = tt
judged-rest recs s (Disk d) none h = tt
judged-rest recs s Memory none h = tt

-- ---- each name is held

pub held-all : (P : ℕ → Type 0) (recs : List Rec) → All (λ (r : Rec). P r.name) recs → All P (map (λ (r : Rec). r.name) recs)
held-all P [] all = All-nil P
held-all P (r ∷ rs) all = All-cons P r.name (map (λ (x : Rec). x.name) rs) (All-head (λ (x : Rec). P x.name) r rs all) (held-all P rs (All-tail (λ (x : Rec). P x.name) r rs all))

pub names-held : {H : Type 0} (host : Ghosts H) (now : H) (rest : DiskRest) (names : List ℕ) (recs : List Rec) (next : ℕ) → AreRead host now rest names recs next → IsTrue (host.tells Work) → All (λ (n : ℕ). IsSome (disk_of host now rest n)) names
names-held host now rest names recs next are told =
    subst (λ (ns : List ℕ). All (λ (n : ℕ). IsSome (disk_of host now rest n)) ns) (sym are.names_are)
    (held-all (λ (n : ℕ). IsSome (disk_of host now rest n)) recs
    (All-weaker (λ (r : Rec). rec_in recs r.name ≡ Some r) (λ (r : Rec). IsSome (disk_of host now rest r.name))
    (λ r own. held-some (disk_of host now rest r.name) (object_of_rec r) (ap (λ (f : ℕ → Option Object). f r.name) (are.stored told).at ∙ ap (option_map object_of_rec) own)) recs are.listed.own))
