-- A new object comes into a core: nil gets an entry, the counts of its words rise, and it gets its entry and its body.
use Rattle.std.proofs.Common.{◌≡◌, ◌≢◌, ℕ, ℤ, pos, ◌+ℤ◌, ◌+◌, ◌<◌, ◌≤◌, ◌++◌, Bool, true, false, cond, eqb, List, [], ◌∷◌, Option, Some, None, refl, sym, ◌∙◌, ap, subst, arith, ⊎_elim}
use Rattle.std.specs.Prelude.{◌^◌, replicate, IfSome, IfNone}
use Rattle.std.proofs.lemmas.Bool.{cases_eq}
use Rattle.long_names.specs.declared.value.Value.{Value}
use Rattle.long_names.specs.declared.value.Value.TheVariants.{Ref}
use Rattle.long_names.specs.declared.object.Kind.{Kind}
use Rattle.long_names.specs.declared.object.Kind.TheVariants as kind
use Rattle.long_names.specs.declared.object.Object.{Object}
use Rattle.long_names.specs.Names.{NIL, IsLongName}
use Rattle.long_names.specs.Heap.{Heap, count_of}
use Rattle.long_names.specs.Objects.{fields_of}
use Rattle.object_table.specs.declared.entry.Entry.{Entry}
use Rattle.object_table.specs.declared.entry.Short.{Short}
use Rattle.object_table.specs.Entries.{put, is_used, place_of, leaf_entry, sum_below}
use Rattle.object_table.specs.Table.{entry_at}
use Rattle.core_segment.specs.declared.segment.Segment.{Segment}
use Rattle.core_segment.specs.Chunks.{Chunk}
use Rattle.core_segment.specs.Segment.{chunk_at}
use Rattle.core_view.specs.Core.{Core, with_leaf}
use Rattle.core_view.specs.Words.{meant}
use Rattle.core_view.specs.Held.{Disk, held}
use Rattle.core_view.specs.Counts.{marked_by}
use Rattle.core_view.specs.Kept.{IsCore, IsBacked, IsValued, Stays}
use Rattle.core_view.specs.Purge.{fresh_by, fresh_of}
use Rattle.core_view.specs.Steps.{IsAbout, IsSpare}
use Rattle.core_view.proofs.Core.{held-absent}
use Rattle.core_view.proofs.Fresh.{fresh-unplaced, ref-fresh}
use Rattle.core_view.proofs.Lists.{put-here, put-there}
use Rattle.core_view.proofs.Sums.{sum-out, sum-same}
use Rattle.core_view.proofs.Tight.{ref-tight}
use Rattle.leaf_lambda.specs.declared.parts.Parts.{Parts}
use Rattle.leaf_lambda.specs.Making.{body_new, fields_new, IsMade}
use Rattle.leaf_lambda.specs.Parts.{core_of, IsLeafStep, IsParts, IsWithin}
use Rattle.leaf_lambda.proofs.MakeLaws.{leaf-made}
use Rattle.core_view.specs.Levels.{Levels, records_of, heap_of}
use Rattle.core_view.specs.Counted.{words, words_of, IsSound}
use Rattle.core_view.specs.LevelSteps.{changed_at, made, with_change, with_core, IsMaking}
use Rattle.core_view.proofs.CameLaws.{known-quiet, leaf-sound}
use Rattle.core_view.proofs.CanLaws.{change-more, raise-many}
use Rattle.core_view.proofs.DeadLaws.{bounded}
use Rattle.core_view.proofs.LevelLaws.{heap-same, words-cons}
use Rattle.core_view.proofs.StoreLaws.{made-sound}
use Rattle.delta_counts.specs.Parts.{core_with, IsChange, IsCounting}
use Rattle.delta_counts.proofs.DrainLaws.{counting-giving}
use Rattle.purger.specs.declared.room.Pinned.{Pinned}
use Rattle.purger.specs.Marks.{KeepsMarks}
use Rattle.purger.proofs.GivingLaws.{given-here, given-purged, given-tight, giving-parts, giving-stays, giving-up}
use Rattle.purger.proofs.MindLaws.{others-came}
use Rattle.purger.proofs.MarkLaws.{Kept-refl, Kept-trans, Marks-same, Marks-trans, within-marks}
use Rattle.loom_memory.specs.Gentle.{IsCalm}
use Rattle.loom_memory.specs.New.{HasFew, IsNew, IsReadied, object_new, words_ahead}
use Rattle.loom_memory.proofs.CalmLaws.{purged-calm, within-calm}
use Rattle.loom_memory.proofs.LambdaLaws.{leaf-calm, still-calm}
use Rattle.loom_memory.proofs.LastLaws.{leaf-keeps}
use Rattle.loom_memory.proofs.GentleLaws.{remains-refl, remains-trans, step-none}

-- ---- calm steps, one after another

pub calm-trans : (pins : Pinned) (a b c : Core) → IsCalm pins a b → IsCalm pins b c → IsCalm pins a c
calm-trans pins a b c x y = record {
  bound = y.bound ∙ x.bound;
  same_outside = λ t. y.same_outside t ∙ x.same_outside t;
  live = λ t some. y.live t (let same = x.same_outside t in omega arith) ∙ x.live t some;
  pinned = λ t p among at.
      let first = x.pinned t p among at in
      let then = y.pinned t first.at among first.place in
      record { at = then.at; place = then.place; name = then.name ∙ first.name };
  marks = Marks-trans a b c x.marks y.marks;
  here = λ h. y.here (x.here h);
}

stays-trans : (a b c : Core) → Stays a b → Stays b c → Stays a c
stays-trans a b c x y disk backed = let first = x disk backed in let then = y disk first.backed in record { backed = then.backed; held = then.held ∙ first.held }

pub readied-refl : (c : Core) → IsReadied c c
readied-refl c = record {
  calm = λ pins. still-calm pins c;
  marks = Kept-refl c;
  stays = λ disk backed. record { backed = backed; held = refl };
  tight = λ t. t;
  fresh = refl;
  live = λ t on. (on, refl);
  others = λ m away. refl;
  none = remains-refl c;
}

pub readied-trans : (a b c : Core) → IsReadied a b → IsReadied b c → IsReadied a c
readied-trans a b c x y = record {
  calm = λ pins. calm-trans pins a b c (x.calm pins) (y.calm pins);
  marks = Kept-trans a b c x.marks y.marks;
  stays = stays-trans a b c x.stays y.stays;
  tight = λ t. y.tight (x.tight t);
  fresh = y.fresh ∙ x.fresh;
  live = λ t on. let first = x.live t on in let then = y.live t first.0 in (then.0, then.1 ∙ first.1);
  others = λ m away. y.others m away ∙ x.others m away;
  none = remains-trans c b a y.none x.none;
}

-- ---- a leaf for nil

pub leaf-readied : (x y : Core) (s : ℕ) → IsCore x → IsCore y → IsLeafStep x y → y ≡ with_leaf x s NIL → IsReadied x y
leaf-readied x y s core now step is = record {
  calm = λ pins. leaf-calm pins x y core now step;
  marks = leaf-keeps x y core now step;
  stays = step.stays;
  tight = ref-tight x y step.step;
  fresh = ref-fresh x y step.step;
  live = λ t on. let same = step.used t on in (ap (λ (e : Entry). is_used e.state) same ∙ on, ap (λ (e : Entry). e.name) same);
  others = λ m away. ap (λ (c : Core). c.find m) is ∙ put-there x.find NIL (Some s) m away;
  none = step-none x y step.step;
}

pub leaf-nil : (t : Levels) (y : Core) (s : ℕ) (owed : List Value) → IsSpare t.core s NIL → y ≡ with_leaf t.core s NIL → IsSound t owed → IsSound (with_core t y) owed
leaf-nil t y s owed spare is x = subst (λ (c : Core). IsSound (with_core t c) owed) (sym is) (leaf-sound t s NIL owed x spare (x.heap.known NIL refl) (known-quiet t NIL refl))

leaf-named : (x y : Core) (s n : ℕ) → y ≡ with_leaf x s n → (is_used (y.entries s).state ≡ true) × ((y.entries s).name ≡ n)
leaf-named x y s n is =
    let here = put-here x.entries s (leaf_entry n) in
    (ap (λ (c : Core). is_used (c.entries s).state) is ∙ ap (λ (e : Entry). is_used e.state) here, ap (λ (c : Core). (c.entries s).name) is ∙ ap (λ (e : Entry). e.name) here)

pub nil-named : (x y : Core) (s : ℕ) → y ≡ with_leaf x s NIL → (is_used (y.entries s).state ≡ true) × ((y.entries s).name ≡ NIL)
nil-named x y s is = leaf-named x y s NIL is

-- ---- counts rise

counting-entry : (p q : Parts) (s : ℕ) → IsCounting p.names q.names → (core_of q).entries s ≡ with_change ((core_of p).entries s) ((core_of q).entries s).change
unfolding core_of
counting-entry p q s c = c.entries s

counting-find : (p q : Parts) → IsCounting p.names q.names → (core_of q).find ≡ (core_of p).find
unfolding core_of
counting-find p q c = ap (λ r. Rattle.resident_table.specs.Resident.short_of r) c.resident

counting-bound : (p q : Parts) → IsCounting p.names q.names → (core_of q).bound ≡ (core_of p).bound
unfolding core_of
counting-bound p q c = c.bound

counting-marks : (p q : Parts) → IsCounting p.names q.names → KeepsMarks (core_of p) (core_of q)
counting-marks p q c = record { marks = λ n. ap (λ (f : ℕ → Option ℕ). marked_by (core_of q).entries (f n)) (counting-find p q c) ∙ go ((core_of p).find n); found = λ n on. ap (λ (f : ℕ → Option ℕ). f n) (counting-find p q c) }
  where
    go : (o : Option ℕ) → marked_by (core_of q).entries o ≡ marked_by (core_of p).entries o
    go None = refl
    go (Some s) = ap (λ (e : Entry). e.flags.marked) (counting-entry p q s c)

pub counting-parts : (p q : Parts) → IsParts p → q.segment ≡ p.segment → IsCounting p.names q.names → IsParts q
counting-parts p q parts same c = giving-parts p q parts same (counting-giving p.names q.names c)

pub counting-readied : (p q : Parts) → IsParts p → q.segment ≡ p.segment → IsCounting p.names q.names → IsReadied (core_of p) (core_of q)
unfolding fresh_of
counting-readied p q parts same c =
    let give = counting-giving p.names q.names c in
    let up = giving-up p q parts same give in
    let now = (giving-parts p q parts same give).core in
    record {
      calm = λ pins. purged-calm pins (core_of p) (core_of q) (given-purged pins.a pins.b pins.d (core_of p) (core_of q) now up) (Marks-same (core_of p) (core_of q) (counting-marks p q c)) (given-here (core_of p) (core_of q) up);
      marks = counting-marks p q c;
      stays = giving-stays p q parts same give;
      tight = given-tight (core_of p) (core_of q) up;
      fresh = ap (λ (n : ℕ). sum_below n (λ s. fresh_by ((core_of q).entries s))) (counting-bound p q c)
          ∙ sum-same (core_of p).bound (λ s. fresh_by ((core_of p).entries s)) (λ s. fresh_by ((core_of q).entries s)) (λ s low. ap fresh_by (counting-entry p q s c));
      live = λ t on. let is = counting-entry p q t c in (ap (λ (e : Entry). is_used e.state) is ∙ on, ap (λ (e : Entry). e.name) is);
      others = λ m away. ap (λ (f : ℕ → Option ℕ). f m) (counting-find p q c);
      none = λ s a at. let is = counting-entry p q s c in record { at = a; place = ap (λ (e : Entry). place_of e.state) (sym is) ∙ at; name = ap (λ (e : Entry). e.name) (sym is) };
    }

-- the change of an entry rose by so many, where it stays a number
pub raised-at : (p q : Parts) (t : Levels) (s n : ℕ) (owed : List Value) → q.segment ≡ p.segment → core_of p ≡ t.core → IsSound t owed → is_used ((core_of p).entries s).state ≡ true
    → count_of (heap_of t) ((core_of p).entries s).name + words owed ((core_of p).entries s).name + n ≤ 2 ^ 62 → n < 2 ^ 62
    → (IsChange (((core_of p).entries s).change +ℤ pos n) → core_of q ≡ changed_at (core_of p) s (((core_of p).entries s).change +ℤ pos n))
    → IsSound (with_core t (core_of q)) (replicate n (Ref ((core_of p).entries s).name) ++ owed)
raised-at p q t s n owed same is x used few small f =
    let on : is_used (t.core.entries s).state ≡ true = ap (λ (c : Core). is_used (c.entries s).state) (sym is) ∙ used in
    let name : ((core_of p).entries s).name ≡ (t.core.entries s).name = ap (λ (c : Core). (c.entries s).name) is in
    let change : ((core_of p).entries s).change ≡ (t.core.entries s).change = ap (λ (c : Core). (c.entries s).change) is in
    let fits = subst (λ z. IsChange (z +ℤ pos n)) (sym change) (change-more t s n owed x on small) in
    let now : core_of q ≡ changed_at t.core s ((t.core.entries s).change +ℤ pos n) = f fits ∙ ap (λ (c : Core). changed_at c s ((c.entries s).change +ℤ pos n)) is in
    subst (λ (m : ℕ). IsSound (with_core t (core_of q)) (replicate n (Ref m) ++ owed)) (sym name)
    (subst (λ (c : Core). IsSound (with_core t c) (replicate n (Ref (t.core.entries s).name) ++ owed)) (sym now)
    (raise-many t s n owed x on (subst (λ (m : ℕ). count_of (heap_of t) m + words owed m + n ≤ 2 ^ 62) name few)))

-- the heap is the same over a core that was readied
pub readied-heap : (t : Levels) (y : Core) (owed : List Value) → IsSound t owed → IsReadied t.core y → heap_of (with_core t y) ≡ heap_of t
readied-heap t y owed x step = heap-same t (with_core t y) (step.stays (records_of t) x.backed).held refl

-- ---- the object

words-append : (xs ys : List Value) (q : ℕ) → words (xs ++ ys) q ≡ words xs q + words ys q
words-append [] ys q = let none : words ([] ++ ys) q ≡ words ys q = refl in let zero_ : words [] q ≡ 0 = refl in omega arith
words-append (x ∷ xs) ys q = let rest = words-append xs ys q in let a = words-cons x (xs ++ ys) q in let b = words-cons x xs q in omega arith

fields-new : (k : Kind) (len header : ℕ) → fields_of (body_new k len header (Ref NIL)) ≡ replicate (fields_new k len header) (Ref NIL)
fields-new kind.Pointers len header = refl
fields-new kind.Words len header = refl
fields-new kind.Bytes len header = refl
fields-new kind.Method len header = refl

-- what is ahead of a new object are its words
ahead-words : (class : ℕ) (k : Kind) (len header q : ℕ) → words (words_ahead (fields_new k len header) class) q ≡ words (words_of (object_new class k len header)) q + words [] q
ahead-words class k len header q =
    let nils : List Value = replicate (fields_new k len header) (Ref NIL) in
    let a = words-append nils (Ref class ∷ []) q in
    let b = words-cons (Ref class) [] q in
    let c = words-cons (Ref class) (fields_of (body_new k len header (Ref NIL))) q in
    let d = ap (λ (vs : List Value). words vs q) (fields-new k len header) in
    omega arith

-- one object more has no record
fresh-more : (c d : Core) (s : ℕ) → IsAbout s c d → s < c.bound → place_of (c.entries s).state ≡ None → fresh_by (d.entries s) ≡ 1 → fresh_of d ≡ fresh_of c + 1
unfolding fresh_of
fresh-more c d s about low leaf here =
    let bound = ap (λ (n : ℕ). sum_below n (λ q. fresh_by (d.entries q))) about.bound in
    let one_ = sum-out c.bound (λ q. fresh_by (d.entries q)) s low in
    let two = sum-out c.bound (λ q. fresh_by (c.entries q)) s low in
    let rest = sum-same c.bound (put (λ q. fresh_by (c.entries q)) s 0) (put (λ q. fresh_by (d.entries q)) s 0) (λ q below. each q) in
    let was = fresh-unplaced (c.entries s) leaf in
    omega arith
  where
    each : (q : ℕ) → put (λ q. fresh_by (d.entries q)) s 0 q ≡ put (λ q. fresh_by (c.entries q)) s 0 q
    each q = ⊎_elim
        (λ (h : q ≡ s). ap (put (λ q. fresh_by (d.entries q)) s 0) h ∙ put-here (λ q. fresh_by (d.entries q)) s 0 ∙ sym (ap (put (λ q. fresh_by (c.entries q)) s 0) h ∙ put-here (λ q. fresh_by (c.entries q)) s 0))
        (λ (h : q ≢ s). put-there (λ q. fresh_by (d.entries q)) s 0 q h ∙ go h (place_of (c.entries q).state) refl ∙ sym (put-there (λ q. fresh_by (c.entries q)) s 0 q h)) (cases_eq q s)
      where
        go : q ≢ s → (o : Option ℕ) → place_of (c.entries q).state ≡ o → fresh_by (d.entries q) ≡ fresh_by (c.entries q)
        go h None e = fresh-unplaced (d.entries q) (about.leaves q h e) ∙ sym (fresh-unplaced (c.entries q) e)
        go h (Some p) e = ap fresh_by (about.bodies q p h e)

-- ---- a leaf that gets a body

-- a name that has no entry gets a leaf, and the leaf a body
pub record IsOpened (a m d : Core) (name class nil : ℕ) (k : Kind) (len header s : ℕ) : Type 0 where
  pub core : IsCore a
  pub core_m : IsCore m
  pub core_d : IsCore d
  pub spare : IsSpare a s name
  pub is : m ≡ with_leaf a s name
  pub step : IsLeafStep a m
  pub class_used : is_used (a.entries class).state ≡ true
  pub nil_used : is_used (a.entries nil).state ≡ true
  pub nil_named : (a.entries nil).name ≡ NIL
  pub within : IsWithin s m d
  pub body : (at : ℕ) × IsMade s class at k len header nil m d
  pub backed : (disk : Disk) → IsBacked m disk → disk (m.entries s).name ≡ None → IsBacked d disk
  pub heap : (disk : Disk) → IsBacked m disk → held d disk ≡ put (held m disk) (m.entries s).name (Some (record { class = (m.entries class).name; body = body_new k len header (meant m.entries [] 0 nil) }))
  pub valued : (disk : Disk) → IsBacked m disk → IsValued (held m disk) → IsValued (held d disk)

leaf-place : (a m : Core) (s n : ℕ) → m ≡ with_leaf a s n → place_of (m.entries s).state ≡ None
leaf-place a m s n is = ap (λ (c : Core). place_of (c.entries s).state) is ∙ ap (λ (e : Entry). place_of e.state) (put-here a.entries s (leaf_entry n))

opened-held : (a m d : Core) (name class nil : ℕ) (k : Kind) (len header s : ℕ) → IsOpened a m d name class nil k len header s → (disk : Disk) → IsBacked a disk → held d disk ≡ put (held a disk) name (Some (object_new (a.entries class).name k len header))
opened-held a m d name class nil k len header s x = leaf-made a m d s name class nil k len header x.core x.is x.step x.class_used x.nil_used x.nil_named x.heap

opened-backed : (a m d : Core) (name class nil : ℕ) (k : Kind) (len header s : ℕ) → IsOpened a m d name class nil k len header s → (disk : Disk) → IsBacked a disk → disk name ≡ None → IsBacked d disk
opened-backed a m d name class nil k len header s x disk backed none = x.backed disk (x.step.stays disk backed).backed (ap disk (leaf-named a m s name x.is).1 ∙ none)

opened-valued : (a m d : Core) (name class nil : ℕ) (k : Kind) (len header s : ℕ) → IsOpened a m d name class nil k len header s → (disk : Disk) → IsBacked a disk → IsValued (held a disk) → IsValued (held d disk)
opened-valued a m d name class nil k len header s x disk backed valued =
    let keeps = x.step.stays disk backed in
    x.valued disk keeps.backed (subst (λ (f : Disk). IsValued f) (sym keeps.held) valued)

pub opened-new : (a m d : Core) (name class nil : ℕ) (k : Kind) (len header s : ℕ) → IsOpened a m d name class nil k len header s → IsNew a d name class k len header s
opened-new a m d name class nil k len header s x =
    let named = leaf-named a m s name x.is in
    let leaf = leaf-place a m s name x.is in
    let live = x.within.live s named.0 in
    record {
      entry = record { short = x.core_d.short s live.0; used = live.0; named = live.1 ∙ named.1 };
      calm = λ pins. calm-trans pins a m d (leaf-calm pins a m x.core x.core_m x.step) (within-calm pins s m d x.core_m x.core_d x.within named.0 leaf);
      marks = Kept-trans a m d (leaf-keeps a m x.core x.core_m x.step) (within-marks m d s x.core_m x.core_d x.within);
      tight = λ t. x.within.tight (ref-tight a m x.step.step t);
      fresh = fresh-more m d s x.within.about (x.core_m.within s named.0) leaf (new-fresh x.body.0 x.body.1) ∙ ap (λ (n : ℕ). n + 1) (ref-fresh a m x.step.step);
      backed = opened-backed a m d name class nil k len header s x;
      heap = opened-held a m d name class nil k len header s x;
      valued = opened-valued a m d name class nil k len header s x;
      others = λ t p away at. let b = others-came m d s t p x.within away at in let first = step-none a m x.step.step t b.at b.place in record { at = first.at; place = first.place; name = first.name ∙ sym b.name };
    }
  where
    new-fresh : (at : ℕ) → IsMade s class at k len header nil m d → fresh_by (d.entries s) ≡ 1
    new-fresh at y = ap fresh_by y.entry

-- ---- counts

none-stored : (t : Levels) (owed : List Value) → IsSound t owed → t.core.find t.next ≡ None → records_of t t.next ≡ None
none-stored t owed x absent = sym (held-absent t.core (records_of t) t.next absent) ∙ (bounded (heap_of t) x.heap).bounded t.next (omega arith)

pub opened-sound : (a m d : Core) (name class nil : ℕ) (k : Kind) (len header s : ℕ) (t : Levels) → IsOpened a m d name class nil k len header s → a ≡ t.core → IsLongName name → t.next ≡ name
    → IsSound t (words_ahead (fields_new k len header) (a.entries class).name) → IsSound (made t d) []
opened-sound a m d name class nil k len header s t x is long next sound =
    made-sound t d s o (words_ahead (fields_new k len header) (a.entries class).name) [] sound x.core_d
    (opened-backed a m d name class nil k len header s x (records_of t) backed (ap (records_of t) (sym next) ∙ none-stored t (words_ahead (fields_new k len header) (a.entries class).name) sound absent))
    (subst (λ (n : ℕ). IsLongName n) (sym next) long) absent
    (λ q. ahead-words (a.entries class).name k len header q)
    (opened-held a m d name class nil k len header s x (records_of t) backed
    ∙ ap (λ (n : ℕ). put (held a (records_of t)) n (Some o)) (sym next) ∙ ap (λ (c : Core). put (held c (records_of t)) t.next (Some o)) is)
    (opened-valued a m d name class nil k len header s x (records_of t) backed (subst (λ (c : Core). IsValued (held c (records_of t))) (sym is) sound.heap.valued))
    (subst (λ (n : ℕ). IsMaking t.core d n s) (sym next) (subst (λ (c : Core). IsMaking c d name s) is making))
  where
    o : Object
    o = object_new (a.entries class).name k len header

    backed : IsBacked a (records_of t)
    backed = subst (λ (c : Core). IsBacked c (records_of t)) (sym is) sound.backed

    absent : t.core.find t.next ≡ None
    absent = ap (λ (c : Core). c.find t.next) (sym is) ∙ ap a.find next ∙ x.spare.absent

    find : (n : ℕ) → d.find n ≡ put a.find name (Some s) n
    find n = ap (λ (f : ℕ → Option ℕ). f n) x.body.1.find ∙ ap (λ (c : Core). c.find n) x.is

    making : IsMaking a d name s
    making = record {
      changes = λ n. x.within.changes n ∙ x.step.changes n;
      found = find name ∙ put-here a.find name (Some s);
      others = λ n away. find n ∙ put-there a.find name (Some s) n away;
    }

-- ---- what is called for

-- a leaf is in use, and has no body
pub leaf-bare : (x y : Core) (s n : ℕ) → y ≡ with_leaf x s n → (is_used (y.entries s).state ≡ true) × (place_of (y.entries s).state ≡ None)
leaf-bare x y s n is = ((leaf-named x y s n is).0, leaf-place x y s n is)

pub raise-core : (p q : Parts) (s : ℕ) (z : ℤ) → q.segment ≡ p.segment
    → ((chunks : ℕ → Chunk) → IsChange ((entry_at p.names.table s).change +ℤ z) → core_with chunks q.names ≡ changed_at (core_with chunks p.names) s ((entry_at p.names.table s).change +ℤ z))
    → IsChange (((core_of p).entries s).change +ℤ z) → core_of q ≡ changed_at (core_of p) s (((core_of p).entries s).change +ℤ z)
unfolding core_of core_with
raise-core p q s z same f fits = f (chunk_at q.segment) fits ∙ ap (λ (g : Segment). changed_at (core_with (chunk_at g) p.names) s ((entry_at p.names.table s).change +ℤ z)) same

one-word : (a q : ℕ) → words (Ref a ∷ []) q ≤ 1
one-word a q = let split = words-cons (Ref a) [] q in go (eqb a q) split
  where
    go : (b : Bool) → words (Ref a ∷ []) q ≡ cond {A = ℕ} b 1 0 + words [] q → words (Ref a ∷ []) q ≤ 1
    go true e = omega arith
    go false e = omega arith

-- nil has an entry, and the counts of a class and of nil rose
pub ahead-sound : (t : Levels) (x y z u : Core) (class nil n : ℕ) → x ≡ t.core → IsSound t [] → HasFew t → n < 65536 → IsReadied x y → IsReadied y z → is_used (x.entries class).state ≡ true → is_used (y.entries nil).state ≡ true → (y.entries nil).name ≡ NIL
    → (count_of (heap_of (with_core t y)) (y.entries class).name + words [] (y.entries class).name + 1 ≤ 2 ^ 62 → IsSound (with_core t z) (replicate 1 (Ref (y.entries class).name) ++ []))
    → (count_of (heap_of (with_core t z)) (z.entries nil).name + words (Ref (y.entries class).name ∷ []) (z.entries nil).name + n ≤ 2 ^ 62 → IsSound (with_core t z) (Ref (y.entries class).name ∷ []) → IsSound (with_core t u) (replicate n (Ref (z.entries nil).name) ++ (Ref (y.entries class).name ∷ [])))
    → IsSound (with_core t u) (words_ahead n (x.entries class).name)
ahead-sound t x y z u class nil n is sound few small one two on there named first then =
    let few-one : count_of (heap_of (with_core t y)) (y.entries class).name ≤ 2 ^ 48 = subst (λ (h : Heap). count_of h (y.entries class).name ≤ 2 ^ 48) (sym (readied-heap t y [] sound step-y)) (few (y.entries class).name) in
    let few-two : count_of (heap_of (with_core t z)) (z.entries nil).name ≤ 2 ^ 48 = subst (λ (h : Heap). count_of h (z.entries nil).name ≤ 2 ^ 48) (sym (readied-heap t z [] sound (readied-trans t.core y z step-y two))) (few (z.entries nil).name) in
    let none : words [] (y.entries class).name ≡ 0 = refl in
    let most = one-word (y.entries class).name (z.entries nil).name in
    subst (λ (c : ℕ). IsSound (with_core t u) (words_ahead n c)) (one.live class on).1
    (subst (λ (m : ℕ). IsSound (with_core t u) (replicate n (Ref m) ++ (Ref (y.entries class).name ∷ []))) ((two.live nil there).1 ∙ named)
    (then (omega arith) (first (omega arith))))
  where
    step-y : IsReadied t.core y
    step-y = subst (λ (c : Core). IsReadied c y) is one

-- ---- both, one after the other

pub new-after : (a b d : Core) (name class : ℕ) (k : Kind) (len header s : ℕ) → is_used (a.entries class).state ≡ true → IsReadied a b → IsNew b d name class k len header s → IsNew a d name class k len header s
new-after a b d name class k len header s on x y = record {
  entry = y.entry;
  calm = λ pins. calm-trans pins a b d (x.calm pins) (y.calm pins);
  marks = Kept-trans a b d x.marks y.marks;
  tight = λ t. y.tight (x.tight t);
  fresh = y.fresh ∙ ap (λ (n : ℕ). n + 1) x.fresh;
  backed = λ disk backed none. y.backed disk (x.stays disk backed).backed none;
  heap = λ disk backed. let keeps = x.stays disk backed in
      y.heap disk keeps.backed ∙ ap (λ (f : Disk). put f name (Some (object_new (b.entries class).name k len header))) keeps.held
      ∙ ap (λ (c : ℕ). put (held a disk) name (Some (object_new c k len header))) (x.live class on).1;
  valued = λ disk backed valued. let keeps = x.stays disk backed in y.valued disk keeps.backed (subst (λ (f : Disk). IsValued f) (sym keeps.held) valued);
  others = λ t p away at. let b = y.others t p away at in let first = x.none t b.at b.place in record { at = first.at; place = first.place; name = first.name ∙ b.name };
}

pub new-if : (r : Option Short) (a b d : Core) (name class : ℕ) (k : Kind) (len header : ℕ) → is_used (a.entries class).state ≡ true → IsReadied a b → IfSome r (λ s. IsNew b d name class k len header s.0) → IfSome r (λ s. IsNew a d name class k len header s.0)
new-if None a b d name class k len header on x y = tt
new-if (Some s) a b d name class k len header on x y = new-after a b d name class k len header s.0 on x y

pub sound-if : (r : Option Short) (a b d : Core) (name class n : ℕ) (k : Kind) (len header : ℕ) → n ≡ fields_new k len header → is_used (a.entries class).state ≡ true → IsReadied a b
    → ((t : Levels) → a ≡ t.core → IsSound t [] → HasFew t → IsSound (with_core t b) (words_ahead n (a.entries class).name))
    → IfSome r (λ s. (t : Levels) → b ≡ t.core → IsSound t (words_ahead (fields_new k len header) (b.entries class).name) → t.next ≡ name → IsSound (made t d) [])
    → IfSome r (λ s. (t : Levels) → a ≡ t.core → IsSound t [] → HasFew t → t.next ≡ name → IsSound (made t d) [])
sound-if None a b d name class n k len header count on x f g = tt
sound-if (Some s) a b d name class n k len header count on x f g = λ t is sound few next.
    g (with_core t b) refl (subst (λ (m : ℕ). IsSound (with_core t b) (words_ahead m (b.entries class).name)) count
    (subst (λ (c : ℕ). IsSound (with_core t b) (words_ahead n c)) (sym (x.live class on).1) (f t is sound few))) next

pub none-if : (r : Option Short) (a b : Core) (name : ℕ) → IsReadied a b → IfNone r (b.find name ≡ None → ⊥) → IfNone r (a.find name ≡ None → name ≢ NIL → ⊥)
none-if None a b name x f = λ absent away. f (x.others name away ∙ absent)
none-if (Some s) a b name x f = tt

-- where no object was made
pub readied-if : (r : Option Short) (x : Core) (p q : Parts) → IsReadied x (core_of p) → IfNone r (q ≡ p) → IfNone r (IsReadied x (core_of q))
readied-if (Some s) x p q ready same = tt
readied-if None x p q ready same = subst (λ (k : Parts). IsReadied x (core_of k)) (sym same) ready
