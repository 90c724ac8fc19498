-- Laws of resolving: what a name that is looked up, a reference and a word leave as it was.
use Rattle.std.proofs.Common.{◌≡◌, ◌≢◌, ℕ, pos, ◌+◌, ◌-◌, ◌≤◌, Bool, true, false, cond, List, refl, sym, ◌∙◌, ap, subst, arith, Option, Some, None}
use Rattle.std.proofs.lemmas.Grind.{common_steps}
use Rattle.std.proofs.lemmas.Option.{get_or_from_slice_get}
use Rattle.std.specs.List.{slice_get, slice_set}
use Rattle.std.specs.Prelude.{IfSome, IfNone}
use Rattle.object_table.specs.declared.entry.Short.{Short}
use Rattle.long_names.specs.declared.value.Value.{Value}
use Rattle.long_names.specs.declared.value.Value.TheVariants.{Int, Ref}
use Rattle.object_table.specs.declared.entry.Entry.{Entry}
use Rattle.object_table.specs.Entries.{put, is_short, is_used, place_of, with_refs}
use Rattle.core_segment.specs.Chunks.{Chunk}
use Rattle.core_view.specs.Core.{Core, with_entry}
use Rattle.core_view.proofs.Entries.{at-entry}
use Rattle.core_view.specs.Words.{meant, pointers, spot}
use Rattle.core_view.specs.Held.{Disk, fields_there}
use Rattle.core_view.specs.Counts.{names, outside, one, IsLight, change_of, marked_of}
use Rattle.core_view.specs.Kept.{IsCore, IsBacked, Keeps, Stays}
use Rattle.core_view.specs.Steps.{IsAt, IsRefStep, IsAbout, with_refs_of, with_field_word}
use Rattle.core_view.proofs.Core.{apart}
use Rattle.core_view.proofs.Others.{Entries-refl, Entries-trans, same-entries, refs-entries, entries-others, Others-refl, Others-trans, entry-marks}
use Rattle.core_view.proofs.Tight.{ref-tight, word-tight}
use Rattle.core_view.proofs.Lists.{put-there, pointers-set}
use Rattle.core_view.proofs.Steps.{Keeps-trans, Stays-trans, Stays-refl, RefStep-refl, RefStep-trans, ref-about, About-trans, About-refl, outside-more, refs-entry, entry-changes}
use Rattle.core_view.proofs.Words.{word-keeps, word-outside, meant-lambda, meant-short, one-zero, set-same}
use Rattle.leaf_lambda.specs.Parts.{core_of, spare_of, leaves_for, IsLeafStep, IsNaming, IsHolding, IsDropping, IsWithin, IsSparing, Resolves}
use Rattle.leaf_lambda.specs.declared.translate.TheConstants.{RESERVE}
use Rattle.leaf_lambda.specs.Records.{MayBeLambda, word_or_lambda}
use Rattle.leaf_lambda.specs.declared.parts.Parts.{Parts}
use Rattle.leaf_lambda.proofs.FillLaws.{written-words}
use Rattle.leaf_lambda.proofs.RoomLaws.{Room-refl, Room-trans}

-- ---- naming

pub Naming-refl : (c : Core) → IsNaming c c
Naming-refl c = record { more = λ t on. (on, omega arith); came = λ t off on. absurd (cc) }

pub Naming-trans : (a b c : Core) → IsNaming a b → IsNaming b c → IsNaming a c
Naming-trans a b c x y = record {
  more = λ t on. let first = x.more t on in let then = y.more t first.0 in (then.0, (let low = first.1 in let up = then.1 in omega arith));
  came = λ t off on. go t off on (is_used (b.entries t).state) refl;
}
  where
    go : (t : ℕ) → is_used (a.entries t).state ≡ false → is_used (c.entries t).state ≡ true → (u : Bool) → is_used (b.entries t).state ≡ u → 1 ≤ (c.entries t).refs
    go t off on true e = let first = x.came t off e in let then = (y.more t e).1 in omega arith
    go t off on false e = y.came t e on

-- where the entries are the same
pub naming-entries : (a b d : Core) → IsNaming a b → d.entries ≡ b.entries → IsNaming a d
naming-entries a b d x same = record {
  more = λ t on. subst (λ (f : ℕ → Entry). (is_used (f t).state ≡ true) × ((a.entries t).refs ≤ (f t).refs)) (sym same) (x.more t on);
  came = λ t off. subst (λ (f : ℕ → Entry). is_used (f t).state ≡ true → 1 ≤ (f t).refs) (sym same) (x.came t off);
}

-- where an entry in use takes another content with the same references
pub naming-entry : (a m d : Core) (s : ℕ) (e : Entry) → IsNaming a m → is_used (m.entries s).state ≡ true → d ≡ with_entry m s e → is_used e.state ≡ true → e.refs ≡ (m.entries s).refs → IsNaming a d
naming-entry a m d s e x used is still refs = record {
  more = λ t on. subst (λ (c : Core). (is_used (c.entries t).state ≡ true) × ((a.entries t).refs ≤ (c.entries t).refs)) (sym is)
      (at-entry m.entries s e (λ q y. is_used (a.entries q).state ≡ true → (is_used y.state ≡ true) × ((a.entries q).refs ≤ y.refs)) (λ on. (still, (let up = (x.more s on).1 in let same = refs in omega arith))) (λ q away on. x.more q on) t on);
  came = λ t off. subst (λ (c : Core). is_used (c.entries t).state ≡ true → 1 ≤ (c.entries t).refs) (sym is)
      (at-entry m.entries s e (λ q y. is_used (a.entries q).state ≡ false → is_used y.state ≡ true → 1 ≤ y.refs) (λ off on. let up = x.came s off used in let same = refs in omega arith) (λ q away off. x.came q off) t off);
}

-- ---- holding

-- a number needs no entry
pub none-held : (c : Core) (w : ℕ) → ((t : ℕ) → one t w ≡ 0) → IsHolding w c c
none-held c w none = record {
  stays = Stays-refl c;
  step = RefStep-refl c;
  one_more = λ t. let no = none t in omega arith;
  live = λ t on. (on, refl);
  grew = λ m e. e;
  changes = λ m. refl;
  others = Entries-refl c;
  marks = λ m. refl;
  naming = Naming-refl c;
}

-- a leaf came, or nothing, and its name is held once more
pub leaf-held-on : (a b d : Core) (s : ℕ) → IsLeafStep a b → Stays b d → IsRefStep b d → ((t : ℕ) → outside d t ≡ outside b t + one t s) → d ≡ with_refs_of b s ((b.entries s).refs + 1)
    → ((q : ℕ) → is_used (a.entries q).state ≡ false → is_used (b.entries q).state ≡ true → q ≡ s) → IsHolding s a d
leaf-held-on a b d s leaf stays step out is only = record {
  stays = Stays-trans a b d leaf.stays stays;
  step = RefStep-trans a b d leaf.step step;
  one_more = λ t. let first = leaf.same_outside t in let then = out t in omega arith;
  live = λ t on.
      let same : d.entries t ≡ with_refs (a.entries t) (put b.entries s (with_refs (b.entries s) ((b.entries s).refs + 1)) t).refs =
      ap (λ (x : Core). x.entries t) is ∙ refs-entry b s ((b.entries s).refs + 1) t ∙ ap (λ (e : Entry). with_refs e (put b.entries s (with_refs (b.entries s) ((b.entries s).refs + 1)) t).refs) (leaf.used t on) in
      (ap (λ (e : Entry). is_used e.state) same ∙ on, ap (λ (e : Entry). e.name) same);
  grew = λ m e. leaf.grew m (ap (λ (x : Core). x.find m) (sym is) ∙ e);
  changes = λ m. ap (λ (x : Core). change_of x m) is ∙ entry-changes b s (with_refs (b.entries s) ((b.entries s).refs + 1)) refl m ∙ leaf.changes m;
  others = Entries-trans a b d leaf.others (refs-entries b d s ((b.entries s).refs + 1) is);
  marks = λ m. ap (λ (x : Core). marked_of x m) is ∙ entry-marks b s (with_refs (b.entries s) ((b.entries s).refs + 1)) refl m ∙ leaf.marks m;
  naming = record {
    more = λ t on. subst (λ (x : Core). (is_used (x.entries t).state ≡ true) × ((a.entries t).refs ≤ (x.entries t).refs)) (sym is)
        (at-entry b.entries s (with_refs (b.entries s) ((b.entries s).refs + 1)) (λ q y. is_used (a.entries q).state ≡ true → (is_used y.state ≡ true) × ((a.entries q).refs ≤ y.refs))
        (λ on. let same = leaf.used s on in (ap (λ (e : Entry). is_used e.state) same ∙ on, (let r = ap (λ (e : Entry). e.refs) same in omega arith)))
        (λ q away on. let same = leaf.used q on in (ap (λ (e : Entry). is_used e.state) same ∙ on, (let r = ap (λ (e : Entry). e.refs) same in omega arith))) t on);
    came = λ t off. subst (λ (x : Core). is_used (x.entries t).state ≡ true → 1 ≤ (x.entries t).refs) (sym is)
        (at-entry b.entries s (with_refs (b.entries s) ((b.entries s).refs + 1)) (λ q y. is_used (a.entries q).state ≡ false → is_used y.state ≡ true → 1 ≤ y.refs)
        (λ off on. omega arith) (λ q away off on. absurd (away (only q off on))) t off);
  };
}

-- what is no short name names nothing
pub one-none : (t w : ℕ) → is_short w ≡ false → one t w ≡ 0
one-none t w not = go (names t w) refl
  where
    go : (b : Bool) → names t w ≡ b → one t w ≡ 0
    go false e = ap (λ b. cond b 1 0) e
    go true e = let same : w ≡ t = grind (arith, common_steps) in let is : is_short t ≡ true = grind (arith, common_steps) in let no : is_short t ≡ false = ap (λ (z : ℕ). is_short z) (sym same) ∙ not in absurd (cc)

pub none-dropped : (c : Core) (w : ℕ) → ((t : ℕ) → one t w ≡ 0) → IsDropping w c c
none-dropped c w none = record {
  stays = Stays-refl c;
  step = RefStep-refl c;
  one_less = λ t. let no = none t in omega arith;
  live = λ t on. (on, refl);
  grew = λ m e. e;
  changes = λ m. refl;
  others = Entries-refl c;
  marks = λ m. refl;
  find = refl;
}

pub let-dropped : (c d : Core) (s : ℕ) → Stays c d → IsRefStep c d → ((t : ℕ) → outside d t + one t s ≡ outside c t) → d ≡ with_refs_of c s ((c.entries s).refs - 1) → IsDropping s c d
let-dropped c d s stays step out is = record {
  stays = stays;
  step = step;
  one_less = out;
  live = λ t on.
      let same : d.entries t ≡ with_refs (c.entries t) (put c.entries s (with_refs (c.entries s) ((c.entries s).refs - 1)) t).refs = ap (λ (x : Core). x.entries t) is ∙ refs-entry c s ((c.entries s).refs - 1) t in
      (ap (λ (e : Entry). is_used e.state) same ∙ on, ap (λ (e : Entry). e.name) same);
  grew = λ m e. ap (λ (x : Core). x.find m) (sym is) ∙ e;
  changes = λ m. ap (λ (x : Core). change_of x m) is ∙ entry-changes c s (with_refs (c.entries s) ((c.entries s).refs - 1)) refl m;
  others = refs-entries c d s ((c.entries s).refs - 1) is;
  marks = λ m. ap (λ (x : Core). marked_of x m) is ∙ entry-marks c s (with_refs (c.entries s) ((c.entries s).refs - 1)) refl m;
  find = ap (λ (x : Core). x.find) is;
}

pub may-be : (find : ℕ → Option ℕ) (free n : ℕ) (v : Value) → v ≡ Ref n → (find n ≡ None) × (free ≤ RESERVE) → MayBeLambda find free (Some v)
may-be find free n v e h = subst (λ (v : Value). MayBeLambda find free (Some v)) (sym e) h

-- what may be a lambda may be one later
pub MayBe-later : (find now : ℕ → Option ℕ) (free left : ℕ) (o : Option Value) → (free ≤ RESERVE → now ≡ find) → left ≤ free → MayBeLambda find free o → MayBeLambda now left o
MayBe-later find now free left None few less h = h
MayBe-later find now free left (Some (Int z)) few less h = h
MayBe-later find now free left (Some (Ref n)) few less h = (ap (λ f. f n) (few h.1) ∙ h.0, let low : free ≤ RESERVE = h.1 in omega arith)

-- a name costs one entry at most
pub leaves-few : (o : Option ℕ) → leaves_for o ≤ 1
leaves-few None = omega arith
leaves-few (Some s) = omega arith

-- what the word for a short name means, and when it is a lambda
pub word-means : (o : Option Short) (w n : ℕ) (v : Value) (entries : ℕ → Entry) → w ≡ word_or_lambda o → IfSome o (λ (s : Short). (is_short s.0 ≡ true) × ((entries s.0).name ≡ n)) → v ≡ Ref n
    → w ≢ 0 → (old : List Value) (i : ℕ) → meant entries old i w ≡ v
word-means None w n v entries is short ref some old i = absurd (some is)
word-means (Some s) w n v entries is short ref some old i = ap (meant entries old i) is ∙ meant-short entries old i s.0 short.0 ∙ ap Ref short.1 ∙ sym ref

pub word-lambda : {P : Type 0} (o : Option Short) (w n : ℕ) (entries : ℕ → Entry) → w ≡ word_or_lambda o → IfSome o (λ (s : Short). (is_short s.0 ≡ true) × ((entries s.0).name ≡ n)) → IfNone o P → w ≡ 0 → P
word-lambda {P} None w n entries is short none zero_ = none
word-lambda {P} (Some s) w n entries is short none zero_ = absurd (no-name (ap is_short (sym is ∙ zero_) ∙ refl) short.0)
  where
    no-name : is_short s.0 ≡ false → is_short s.0 ≡ true → ⊥
    no-name off on = let no : false ≡ true = sym off ∙ on in cc

-- ---- sparing

pub Sparing-refl : (p : Parts) → IsSparing p p
Sparing-refl p = record { few = λ low. refl; less = omega arith; least = omega arith }

-- the names stay, and so does the number of free entries
pub Sparing-same : (p q r : Parts) → IsSparing p q → (core_of r).find ≡ (core_of q).find → spare_of r ≡ spare_of q → IsSparing p r
Sparing-same p q r x find spare = record { few = λ low. find ∙ x.few low; less = let a = x.less in omega arith; least = let a = x.least in omega arith }

pub Sparing-trans : (p q r : Parts) → IsSparing p q → IsSparing q r → IsSparing p r
Sparing-trans p q r x y = record {
  few = λ low. y.few (let less = x.less in omega arith) ∙ x.few low;
  less = let a = x.less in let b = y.less in omega arith;
  least = let a = x.least in let b = y.least in omega arith;
}

-- ---- within

pub Within-refl : (s : ℕ) (c : Core) → IsWithin s c c
Within-refl s c = record { same_outside = λ t. refl; live = λ t on. (on, refl); about = About-refl s c; grew = λ m e. e; changes = λ m. refl; others = Others-refl s c; marks = λ m. refl; tight = λ t. t }

pub Within-trans : (s : ℕ) (a b c : Core) → IsWithin s a b → IsWithin s b c → IsWithin s a c
Within-trans s a b c x y = record {
  same_outside = λ t. y.same_outside t ∙ x.same_outside t;
  live = λ t on. let first = x.live t on in let then = y.live t first.0 in (then.0, then.1 ∙ first.1);
  about = About-trans s a b c x.about y.about;
  grew = λ m e. x.grew m (y.grew m e);
  changes = λ m. y.changes m ∙ x.changes m;
  others = Others-trans s a b c x.others y.others;
  marks = λ m. y.marks m ∙ x.marks m;
  tight = λ t. y.tight (x.tight t);
}

pub Light-later : (s : ℕ) (a b : Core) → IsWithin s a b → IsLight a → IsLight b
Light-later s a b x light t = let some = light t in let same = x.same_outside t in omega arith

-- ---- what a call that resolves fields leaves

pub Resolves-refl : (s : ℕ) (p : Parts) → Resolves s 0 p p
Resolves-refl s p = record { within = Within-refl s (core_of p); naming = Naming-refl (core_of p); entry = refl; sparing = Sparing-refl p; cost = omega arith; room = Room-refl p.segment }

pub Resolves-trans : (s m n : ℕ) (a b d : Parts) → Resolves s m a b → Resolves s n b d → Resolves s (m + n) a d
Resolves-trans s m n a b d x y = record {
  within = Within-trans s (core_of a) (core_of b) (core_of d) x.within y.within;
  naming = Naming-trans (core_of a) (core_of b) (core_of d) x.naming y.naming;
  entry = y.entry ∙ ap (λ (e : Entry). with_refs e ((core_of d).entries s).refs) x.entry;
  sparing = Sparing-trans a b d x.sparing y.sparing;
  cost = let first = x.cost in let then = y.cost in omega arith;
  room = Room-trans a.segment b.segment d.segment x.room y.room;
}

-- ---- resolving

pub at-later : (a b : Core) (s p i w : ℕ) → IsRefStep a b → IsAt a s p i w → IsAt b s p i w
at-later a b s p i w step at = record {
  place = ap (λ (e : Entry). place_of e.state) (step.bodies s p at.place) ∙ at.place;
  word = ap (λ (e : Entry). slice_get (pointers e.kind (b.chunks p).words) i) (step.bodies s p at.place) ∙ ap (λ (f : ℕ → Chunk). slice_get (pointers (a.entries s).kind (f p).words) i) step.chunks ∙ at.word;
}

pub resolve-keeps : (a b d : Core) (disk : Disk) (s p i w : ℕ) (v : Value) → IsCore b → IsHolding w a b → IsAt a s p i 0 → w ≢ 0
    → ((old : List Value) (k : ℕ) → meant b.entries old k w ≡ v) → d ≡ with_field_word b s p i w → IsBacked a disk → slice_get (fields_there (disk (a.entries s).name)) i ≡ Some v → Keeps disk a d
resolve-keeps a b d disk s p i w v core hold at some means e backed there =
    let first = hold.stays disk backed in
    let now = at-later a b s p i 0 hold.step at in
    let name : (b.entries s).name ≡ (a.entries s).name = ap (λ (x : Entry). x.name) (hold.step.bodies s p at.place) in
    let there' : slice_get (fields_there (disk (b.entries s).name)) i ≡ Some v = ap (λ (n : ℕ). slice_get (fields_there (disk n)) i) name ∙ there in
    let was : meant b.entries (fields_there (disk (b.entries s).name)) i 0 ≡ v = meant-lambda b.entries (fields_there (disk (b.entries s).name)) i ∙ get_or_from_slice_get (fields_there (disk (b.entries s).name)) i v (Int (pos 0)) there' in
    subst (λ (x : Core). Keeps disk a x) (sym e)
    (Keeps-trans disk a b (with_field_word b s p i w) first (word-keeps b disk s p i w 0 core first.backed now (λ f. some) (means (fields_there (disk (b.entries s).name)) i ∙ sym was)))

-- one word of the body of s is written
pub word-about : (c : Core) (s p i w : ℕ) → IsCore c → place_of (c.entries s).state ≡ Some p → IsAbout s c (with_field_word c s p i w)
word-about c s p i w core at = record {
  bound = refl;
  chunks = λ q r away there. put-there c.chunks p (record { owner = (c.chunks p).owner; words = slice_set (c.chunks p).words (spot (c.entries s).kind i) w }) r (apart c core s q p r at there away);
  bodies = λ q r away there. refl;
  leaves = λ q away e. e;
}

pub resolve-within : (a b d : Core) (s p i w : ℕ) → IsCore b → IsHolding w a b → IsAt a s p i 0 → (is_short w ≡ true → 1 ≤ outside b w) → d ≡ with_field_word b s p i w → IsWithin s a d
resolve-within a b d s p i w core hold at held_ e = subst (λ (x : Core). IsWithin s a x) (sym e) (record {
  same_outside = λ t.
      let first = hold.one_more t in
      let more = word-outside b s p i w 0 t core (at-later a b s p i 0 hold.step at) (λ is. outside-more b w core (held_ is)) in
      let none = one-zero t in
      omega arith;
  live = hold.live;
  about = About-trans s a b (with_field_word b s p i w) (ref-about s a b hold.step) (word-about b s p i w core (at-later a b s p i 0 hold.step at).place);
  grew = hold.grew;
  changes = hold.changes;
  others = entries-others s a (with_field_word b s p i w) (Entries-trans a b (with_field_word b s p i w) hold.others (same-entries b (with_field_word b s p i w) refl));
  marks = hold.marks;
  tight = λ t. word-tight b s p i w (ref-tight a b hold.step t);
})

-- nothing was written
pub unresolved-within : (a b : Core) (s : ℕ) → IsHolding 0 a b → IsWithin s a b
unresolved-within a b s hold = record {
  same_outside = λ t. let first = hold.one_more t in let none = one-zero t in omega arith;
  live = hold.live;
  about = ref-about s a b hold.step;
  grew = hold.grew;
  changes = hold.changes;
  others = entries-others s a b hold.others;
  marks = hold.marks;
  tight = ref-tight a b hold.step;
}

pub resolve-fields : (a b d : Core) (s p i w : ℕ) → IsRefStep a b → IsAt a s p i 0 → d ≡ with_field_word b s p i w → pointers (a.entries s).kind (d.chunks p).words ≡ slice_set (pointers (a.entries s).kind (a.chunks p).words) i w
resolve-fields a b d s p i w step at e =
    let kind_ : (b.entries s).kind ≡ (a.entries s).kind = ap (λ (x : Entry). x.kind) (step.bodies s p at.place) in
    ap (λ (x : Core). pointers (a.entries s).kind (x.chunks p).words) e
    ∙ ap (λ ws. pointers (a.entries s).kind ws) (written-words b.chunks p (spot (b.entries s).kind i) w)
    ∙ ap (λ k. pointers (a.entries s).kind (slice_set (b.chunks p).words (spot k i) w)) kind_
    ∙ ap (λ (f : ℕ → Chunk). pointers (a.entries s).kind (slice_set (f p).words (spot (a.entries s).kind i) w)) step.chunks
    ∙ pointers-set (a.entries s).kind (a.chunks p).words i w 0 at.word

pub unresolved-fields : (a b : Core) (s p i : ℕ) → IsRefStep a b → IsAt a s p i 0 → pointers (a.entries s).kind (b.chunks p).words ≡ slice_set (pointers (a.entries s).kind (a.chunks p).words) i 0
unresolved-fields a b s p i step at =
    ap (λ (f : ℕ → Chunk). pointers (a.entries s).kind (f p).words) step.chunks ∙ sym (set-same (pointers (a.entries s).kind (a.chunks p).words) i 0 at.word)
