-- Bodies of new objects: their words, what these mean, and what becomes of a core that gets one.
use Rattle.std.proofs.Common.{zero, suc, ◌≡◌, ◌≢◌, ℕ, ◌+◌, ◌*◌, ◌/◌, ◌<◌, ◌≤◌, true, false, List, [], ◌∷◌, ◌++◌, length, replicate, refl, sym, ◌∙◌, ap, subst, arith, ⊎_elim, ◌⊎◌, inl, inr, Option, Some, None, count_by}
use Rattle.std.proofs.Math.ListN.{length-replicate}
use Rattle.std.proofs.Math.Nat.{suc-mul}
use Rattle.std.proofs.lemmas.List.{length-append}
use Rattle.std.proofs.lemmas.Bool.{cases_eq}
use Rattle.std.specs.List.{slice_get}
use Rattle.std.specs.Prelude.{take, drop}
use Rattle.long_names.specs.Names.{NIL}
use Rattle.long_names.specs.Words.{literal_count}
use Rattle.long_names.specs.declared.value.Value.{Value}
use Rattle.long_names.specs.declared.value.Value.TheVariants.{Ref}
use Rattle.long_names.specs.declared.object.Kind.{Kind}
use Rattle.long_names.specs.declared.object.Kind.TheVariants as kind
use Rattle.long_names.specs.declared.object.Body.TheVariants as body
use Rattle.long_names.specs.declared.object.Object.{Object}
use Rattle.object_table.specs.declared.entry.Entry.{Entry}
use Rattle.object_table.specs.Entries.{put, is_short, is_used, place_of, with_refs, leaf_entry}
use Rattle.core_segment.specs.Chunks.{Chunk, with_chunk}
use Rattle.core_view.specs.Core.{Core, with_entry, with_chunk_at, with_leaf}
use Rattle.core_view.specs.Words.{meant, values_by, bytes_in, header_in, int_of_short, pointers, body_in, words_for, most_len}
use Rattle.core_view.specs.Held.{Disk, fields_there, object_at, held}
use Rattle.core_view.specs.Counts.{names, one, uses, outside, change_of, marked_by, marked_of}
use Rattle.core_view.specs.Kept.{IsCore, IsTight, IsBacked, Keeps}
use Rattle.core_view.specs.Steps.{IsOpening, IsMove, with_refs_of}
use Rattle.core_view.proofs.Lists.{put-here, put-there, count-cons, one-here, one-other}
use Rattle.core_view.proofs.Core.{meant-names}
use Rattle.core_view.proofs.Entries.{at-entry, step-names}
use Rattle.core_view.proofs.Bodies.{opening-step, opening-outside, making-held, making-backed}
use Rattle.core_view.proofs.Few.{uses-few}
use Rattle.core_view.proofs.Moves.{free-loose, chunk-move, move-outside, move-stays}
use Rattle.core_view.proofs.Steps.{refs-outside, refs-stays, refs-step, refs-entry, entry-changes, entry-about, ref-about, About-trans, Keeps-trans, Stays-refl, RefStep-refl}
use Rattle.core_view.proofs.Words.{meant-short}
use Rattle.leaf_lambda.specs.Parts.{IsWithin, IsLeafStep}
use Rattle.leaf_lambda.specs.Making.{fields_new, words_new, body_new, made, IsHoldingMany, IsMade}
use Rattle.leaf_lambda.proofs.CopyLaws.{meant-fixed}
use Rattle.leaf_lambda.proofs.OpenLaws.{move-about}
use Rattle.leaf_lambda.proofs.TranslateLaws.{one-none}

-- ---- lists of one word

pub take-many : {A : Type 0} (n : ℕ) (a : A) (xs : List A) → take n (replicate n a ++ xs) ≡ replicate n a
take-many zero a xs = refl
take-many (suc n) a xs = ap (λ t. a ∷ t) (take-many n a xs)

pub drop-many : {A : Type 0} (n : ℕ) (a : A) (xs : List A) → drop n (replicate n a ++ xs) ≡ xs
drop-many zero a xs = refl
drop-many (suc n) a xs = drop-many n a xs

pub values-many : (f : ℕ → ℕ → Value) (n w : ℕ) (v : Value) → ((i : ℕ) → f i w ≡ v) → values_by f (replicate n w) ≡ replicate n v
values-many f zero w v h = refl
values-many f (suc n) w v h = ap (λ x. x ∷ values_by (λ i. f (suc i)) (replicate n w)) (h 0) ∙ ap (λ t. v ∷ t) (values-many (λ i. f (suc i)) n w v (λ i. h (suc i)))

none-of : (x : ℕ) → 0 * x ≡ 0
none-of x = omega arith

one-more : (n x : ℕ) → x + n * x ≡ suc n * x
one-more n x = sym (suc-mul n x ∙ omega arith)

pub count-many : (t n w : ℕ) → count_by (names t) (replicate n w) ≡ n * one t w
count-many t zero w = sym (none-of (one t w))
count-many t (suc n) w = count-cons t w (replicate n w) ∙ ap (λ (k : ℕ). one t w + k) (count-many t n w) ∙ one-more n (one t w)

pub get-many : (n i w v : ℕ) → slice_get (replicate n w) i ≡ Some v → v ≡ w
get-many zero i w v e = cc
get-many (suc n) zero w v e = cc
get-many (suc n) (suc i) w v e = get-many n i w v e

pub many-get : (n i w : ℕ) → i < n → slice_get {X = ℕ} (replicate n w) i ≡ Some w
many-get zero i w low = absurd (omega arith)
many-get (suc n) zero w low = refl
many-get (suc n) (suc i) w low = many-get n i w (omega arith)

-- zeros as bytes
pub bytes-zero : (len n : ℕ) → len ≤ 2 * n → take len (bytes_in (replicate n 0)) ≡ replicate len 0
bytes-zero zero n low = refl
bytes-zero (suc len) zero low = absurd (omega arith)
bytes-zero (suc zero) (suc n) low = refl
bytes-zero (suc (suc len)) (suc n) low = ap (λ t. 0 ∷ 0 ∷ t) (bytes-zero len n (omega arith))

-- ---- the words of a new body

pub new-pointers : (k : Kind) (len header filler : ℕ) → pointers k (words_new k len header filler) ≡ replicate (fields_new k len header) filler
new-pointers kind.Pointers len header filler = refl
new-pointers kind.Words len header filler = refl
new-pointers kind.Bytes len header filler = refl
new-pointers kind.Method len header filler = take-many (literal_count (int_of_short header)) filler (replicate ((len + 1) / 2) 0)

pub new-length : (k : Kind) (len header filler : ℕ) → length (words_new k len header filler) ≡ words_for k len (literal_count (int_of_short header))
new-length kind.Pointers len header filler = length-replicate len filler
new-length kind.Words len header filler = length-replicate len 0
new-length kind.Bytes len header filler = length-replicate ((len + 1) / 2) 0
new-length kind.Method len header filler =
    ap suc (length-append (replicate (literal_count (int_of_short header)) filler) (replicate ((len + 1) / 2) 0))
    ∙ ap (λ (a : ℕ). suc (a + length (replicate {A = ℕ} ((len + 1) / 2) 0))) (length-replicate (literal_count (int_of_short header)) filler)
    ∙ ap (λ (b : ℕ). suc (literal_count (int_of_short header) + b)) (length-replicate ((len + 1) / 2) 0)
    ∙ omega arith

pub new-long : (k : Kind) (len header filler : ℕ) → length (words_new k len header filler) ≡ words_for k len (literal_count (header_in (words_new k len header filler)))
new-long kind.Pointers len header filler = length-replicate len filler
new-long kind.Words len header filler = length-replicate len 0
new-long kind.Bytes len header filler = length-replicate ((len + 1) / 2) 0
new-long kind.Method len header filler = new-length kind.Method len header filler

-- they mean the new body
pub new-body : (entries : ℕ → Entry) (old : List Value) (k : Kind) (len header filler : ℕ) (v : Value) → ((i : ℕ) → meant entries old i filler ≡ v) → body_in entries old (words_new k len header filler) k len ≡ body_new k len header v
unfolding body_in
new-body entries old kind.Pointers len header filler v h = ap body.Pointers (values-many (meant entries old) len filler v h)
new-body entries old kind.Words len header filler v h = refl
new-body entries old kind.Bytes len header filler v h = ap body.Bytes (bytes-zero len ((len + 1) / 2) (omega arith))
new-body entries old kind.Method len header filler v h =
    ap (λ ws. body.Method (int_of_short header) (values_by (meant entries old) ws) (take len (bytes_in (drop (literal_count (int_of_short header)) (replicate (literal_count (int_of_short header)) filler ++ replicate ((len + 1) / 2) 0))))) (take-many (literal_count (int_of_short header)) filler (replicate ((len + 1) / 2) 0))
    ∙ ap (λ vs. body.Method (int_of_short header) vs (take len (bytes_in (drop (literal_count (int_of_short header)) (replicate (literal_count (int_of_short header)) filler ++ replicate ((len + 1) / 2) 0))))) (values-many (meant entries old) (literal_count (int_of_short header)) filler v h)
    ∙ ap (λ ws. body.Method (int_of_short header) (replicate (literal_count (int_of_short header)) v) (take len (bytes_in ws))) (drop-many (literal_count (int_of_short header)) filler (replicate ((len + 1) / 2) 0))
    ∙ ap (λ bs. body.Method (int_of_short header) (replicate (literal_count (int_of_short header)) v) bs) (bytes-zero len ((len + 1) / 2) (omega arith))

pub fields-few : (k : Kind) (len header : ℕ) → len ≤ 65535 → fields_new k len header ≤ 65535
fields-few kind.Pointers len header low = low
fields-few kind.Words len header low = omega arith
fields-few kind.Bytes len header low = omega arith
fields-few kind.Method len header low = omega arith

-- ---- more references at once

pub many-uses : (c : Core) (s n : ℕ) → IsCore c → uses c s ≤ (c.entries s).refs + n
many-uses c s n core = let m = core.counted s in omega arith

-- so many more that no count leaves its range
pub many-refs : (c : Core) (s n : ℕ) → IsCore c → outside c s + n ≤ 2147549183 → (c.entries s).refs + n < 4294967296
unfolding outside
many-refs c s n core light = let few = uses-few c s core in let most = core.counted s in omega arith

pub many-outside : (c : Core) (s n t : ℕ) → IsCore c → is_used (c.entries s).state ≡ true → outside (with_refs_of c s ((c.entries s).refs + n)) t ≡ outside c t + n * one t s
many-outside c s n t core used =
    let all = refs-outside c s ((c.entries s).refs + n) t core used (many-uses c s n core) in
    let refs : (put c.entries s (with_refs (c.entries s) ((c.entries s).refs + n)) t).refs ≡ (c.entries t).refs + n * one t s =
    at-entry c.entries s (with_refs (c.entries s) ((c.entries s).refs + n)) (λ q e. e.refs ≡ (c.entries q).refs + n * one q s)
    (ap (λ (k : ℕ). (c.entries s).refs + k) (sym (ap (λ (k : ℕ). n * k) (one-here s (core.short s used)) ∙ omega arith)))
    (λ q away. sym (ap (λ (k : ℕ). (c.entries q).refs + n * k) (one-other q s (λ e. away (sym e))) ∙ omega arith)) t in
    omega arith

pub many-held : (c d : Core) (w n : ℕ) → IsCore c → is_used (c.entries w).state ≡ true → d ≡ with_refs_of c w ((c.entries w).refs + n) → IsHoldingMany w n c d
many-held c d w n core used is = subst (λ (x : Core). IsHoldingMany w n c x) (sym is) (record {
  stays = refs-stays c w ((c.entries w).refs + n) core used (many-uses c w n core);
  step = refs-step c w ((c.entries w).refs + n);
  more = λ t. many-outside c w n t core used;
  entries = λ t. refs-entry c w ((c.entries w).refs + n) t;
  find = refl;
  changes = λ m. entry-changes c w (with_refs (c.entries w) ((c.entries w).refs + n)) refl m;
})

pub many-none : (c : Core) (w n : ℕ) → is_short w ≡ false → IsHoldingMany w n c c
many-none c w n not = record {
  stays = Stays-refl c;
  step = RefStep-refl c;
  more = λ t. sym (ap (λ (k : ℕ). outside c t + n * k) (one-none t w not) ∙ omega arith);
  entries = λ t. refl;
  find = refl;
  changes = λ m. refl;
}

-- ---- a leaf that becomes a new object

-- From a: the class k is held once more, to b; the filler w as often as there are fields, to h; a chunk at p is filled, to m; and the
-- entry s is opened.
pub record IsMakeRun (a b h m : Core) (s k p w : ℕ) (j : Kind) (len header : ℕ) : Type 0 where
  pub core_a : IsCore a
  pub class_held : IsHoldingMany k 1 a b
  pub filler_held : IsHoldingMany w (fields_new j len header) b h
  pub core_h : IsCore h
  pub vacant : (h.chunks p).owner ≡ 0
  pub chunk : m ≡ with_chunk_at h p (record { owner = s; words = words_new j len header w })
  pub core_m : IsCore m
  pub used : is_used (a.entries s).state ≡ true
  pub leaf : place_of (a.entries s).state ≡ None
  pub class_used : is_used (a.entries k).state ≡ true
  pub filler_used : is_short w ≡ true → is_used (a.entries w).state ≡ true
  pub some : w ≢ 0
  pub small : len ≤ most_len j

abbrev pub after : Core → ℕ → ℕ → ℕ → Kind → ℕ → Entry
after m s k p j len = made (m.entries s) p k j len

make-chunk : (a b h m : Core) (s k p w : ℕ) (j : Kind) (len header : ℕ) → IsMakeRun a b h m s k p w j len header → m.chunks p ≡ record { owner = s; words = words_new j len header w }
make-chunk a b h m s k p w j len header run = ap (λ (c : Core). c.chunks p) run.chunk ∙ put-here h.chunks p (record { owner = s; words = words_new j len header w })

make-move : (a b h m : Core) (s k p w : ℕ) (j : Kind) (len header : ℕ) → IsMakeRun a b h m s k p w j len header → IsMove h m
make-move a b h m s k p w j len header run = subst (λ (c : Core). IsMove h c) (sym run.chunk) (chunk-move h p (record { owner = s; words = words_new j len header w }) (free-loose h p run.core_h run.vacant))

-- only references of entries changed up to there
make-entry : (a b h m : Core) (s k p w : ℕ) (j : Kind) (len header t : ℕ) → IsMakeRun a b h m s k p w j len header → m.entries t ≡ with_refs (a.entries t) (m.entries t).refs
make-entry a b h m s k p w j len header t run =
    let first : h.entries t ≡ with_refs (a.entries t) (h.entries t).refs = run.filler_held.entries t ∙ ap (λ (e : Entry). with_refs e (h.entries t).refs) (run.class_held.entries t) in
    let same : m.entries t ≡ h.entries t = ap (λ (c : Core). c.entries t) run.chunk in
    same ∙ first ∙ ap (λ (e : Entry). with_refs (a.entries t) e.refs) (sym same)

make-count : (a b h m : Core) (s k p w : ℕ) (j : Kind) (len header t : ℕ) → IsMakeRun a b h m s k p w j len header → count_by (names t) (k ∷ pointers j (m.chunks p).words) ≡ one t k + fields_new j len header * one t w
make-count a b h m s k p w j len header t run =
    ap (λ (x : Chunk). count_by (names t) (k ∷ pointers j x.words)) (make-chunk a b h m s k p w j len header run)
    ∙ ap (λ ws. count_by (names t) (k ∷ ws)) (new-pointers j len header w)
    ∙ count-cons t k (replicate (fields_new j len header) w)
    ∙ ap (λ (n : ℕ). one t k + n) (count-many t (fields_new j len header) w)

make-outside : (a b h m : Core) (s k p w : ℕ) (j : Kind) (len header t : ℕ) → IsMakeRun a b h m s k p w j len header → outside m t ≡ outside a t + (one t k + fields_new j len header * one t w)
make-outside a b h m s k p w j len header t run =
    let same = move-outside h m t (make-move a b h m s k p w j len header run) in
    let more = run.filler_held.more t in
    let first = run.class_held.more t in
    omega arith

pub make-opening : (a b h m : Core) (s k p w : ℕ) (j : Kind) (len header : ℕ) → IsMakeRun a b h m s k p w j len header → IsOpening m s p (after m s k p j len)
make-opening a b h m s k p w j len header run = record {
  used = ap (λ (e : Entry). is_used e.state) (make-entry a b h m s k p w j len header s run) ∙ run.used;
  leaf = ap (λ (e : Entry). place_of e.state) (make-entry a b h m s k p w j len header s run) ∙ run.leaf;
  place = refl;
  still = refl;
  name = refl;
  refs = refl;
  class_short = run.core_a.short k run.class_used;
  owner = ap (λ (x : Chunk). x.owner) (make-chunk a b h m s k p w j len header run);
  long = subst (λ (x : Chunk). length x.words ≡ words_for j len (literal_count (header_in x.words))) (sym (make-chunk a b h m s k p w j len header run)) (new-long j len header w);
  small = run.small;
  given = λ t.
      let count = make-count a b h m s k p w j len header t run in
      let all = make-outside a b h m s k p w j len header t run in
      omega arith;
}

-- what is held up to there stays
make-keeps : (a b h m : Core) (s k p w : ℕ) (j : Kind) (len header : ℕ) (disk : Disk) → IsMakeRun a b h m s k p w j len header → IsBacked a disk → Keeps disk a m
make-keeps a b h m s k p w j len header disk run backed =
    let first = run.class_held.stays disk backed in
    let then = run.filler_held.stays disk first.backed in
    let last = move-stays h m run.core_h (make-move a b h m s k p w j len header run) disk then.backed in
    Keeps-trans disk a b m first (Keeps-trans disk b h m then last)

pub make-backed : (a b h m d : Core) (s k p w : ℕ) (j : Kind) (len header : ℕ) (disk : Disk) → IsMakeRun a b h m s k p w j len header → d ≡ with_entry m s (after m s k p j len)
    → IsBacked a disk → disk (a.entries s).name ≡ None → IsBacked d disk
make-backed a b h m d s k p w j len header disk run is backed none = subst (λ (x : Core). IsBacked x disk) (sym is)
    (making-backed m disk s p (after m s k p j len) run.core_m (make-keeps a b h m s k p w j len header disk run backed).backed (make-opening a b h m s k p w j len header run) refl refl
    (ap (λ (e : Entry). disk e.name) (make-entry a b h m s k p w j len header s run) ∙ none) whole)
  where
    fields : pointers j (m.chunks p).words ≡ replicate (fields_new j len header) w
    fields = ap (λ (x : Chunk). pointers j x.words) (make-chunk a b h m s k p w j len header run) ∙ new-pointers j len header w

    whole : (i : ℕ) → slice_get (pointers j (m.chunks p).words) i ≡ Some 0 → ⊥
    whole i e = run.some (sym (get-many (fields_new j len header) i w 0 (ap (λ ws. slice_get ws i) (sym fields) ∙ e)))

pub make-held : (a b h m d : Core) (s k p w : ℕ) (j : Kind) (len header : ℕ) (disk : Disk) → IsMakeRun a b h m s k p w j len header → d ≡ with_entry m s (after m s k p j len) → IsBacked a disk
    → held d disk ≡ put (held a disk) (a.entries s).name (Some (record { class = (a.entries k).name; body = body_new j len header (meant a.entries [] 0 w) }))
make-held a b h m d s k p w j len header disk run is backed =
    ap (λ (c : Core). held c disk) is
    ∙ making-held m disk s p (after m s k p j len) run.core_m opening
    ∙ ap (λ (o : Object). put (held m disk) (m.entries s).name (Some o)) object
    ∙ ap (λ (f : ℕ → Option Object). put f (m.entries s).name (Some (record { class = (a.entries k).name; body = body_new j len header (meant a.entries [] 0 w) }))) (make-keeps a b h m s k p w j len header disk run backed).held
    ∙ ap (λ (e : Entry). put (held a disk) e.name (Some (record { class = (a.entries k).name; body = body_new j len header (meant a.entries [] 0 w) }))) (make-entry a b h m s k p w j len header s run)
  where
    opening : IsOpening m s p (after m s k p j len)
    opening = make-opening a b h m s k p w j len header run

    name : (t : ℕ) → (put m.entries s (after m s k p j len) t).name ≡ (a.entries t).name
    name t = step-names m s (after m s k p j len) (opening-step m s p (after m s k p j len) run.core_m opening) t ∙ ap (λ (e : Entry). e.name) (make-entry a b h m s k p w j len header t run)

    means : (i : ℕ) → meant (put m.entries s (after m s k p j len)) (fields_there (disk (m.entries s).name)) i w ≡ meant a.entries [] 0 w
    means i = meant-fixed (put m.entries s (after m s k p j len)) (fields_there (disk (m.entries s).name)) [] i 0 w run.some ∙ meant-names a.entries (put m.entries s (after m s k p j len)) [] 0 w (λ short. name w)

    object : object_at (with_entry m s (after m s k p j len)) disk (after m s k p j len) p ≡ record { class = (a.entries k).name; body = body_new j len header (meant a.entries [] 0 w) }
    object = λ i. record {
      class = name k i;
      body = (ap (λ (x : Chunk). body_in (put m.entries s (after m s k p j len)) (fields_there (disk (m.entries s).name)) x.words j len) (make-chunk a b h m s k p w j len header run)
          ∙ new-body (put m.entries s (after m s k p j len)) (fields_there (disk (m.entries s).name)) j len header w (meant a.entries [] 0 w) means) i;
    }

pub make-made : (a b h m d : Core) (s k p w : ℕ) (j : Kind) (len header : ℕ) → IsMakeRun a b h m s k p w j len header → d ≡ with_entry m s (after m s k p j len) → IsMade s k p j len header w a d
make-made a b h m d s k p w j len header run is = subst (λ (c : Core). IsMade s k p j len header w a c) (sym is) (record {
  find = ap (λ (c : Core). c.find) run.chunk ∙ run.filler_held.find ∙ run.class_held.find;
  bound = ap (λ (c : Core). c.bound) run.chunk ∙ run.filler_held.step.bound ∙ run.class_held.step.bound;
  entry = let here : put m.entries s (after m s k p j len) s ≡ after m s k p j len = put-here m.entries s (after m s k p j len) in
      here ∙ ap (λ (e : Entry). made e p k j len) (make-entry a b h m s k p w j len header s run) ∙ ap (λ (e : Entry). with_refs (made (a.entries s) p k j len) e.refs) (sym here);
  others = λ t away. let here : put m.entries s (after m s k p j len) t ≡ m.entries t = put-there m.entries s (after m s k p j len) t away in
      here ∙ make-entry a b h m s k p w j len header t run ∙ ap (λ (e : Entry). with_refs (a.entries t) e.refs) (sym here);
  vacant = ap (λ (f : ℕ → Chunk). (f p).owner) (sym chunks) ∙ run.vacant;
  chunks = ap (λ (c : Core). c.chunks) run.chunk ∙ ap (λ (f : ℕ → Chunk). with_chunk f p (record { owner = s; words = words_new j len header w })) chunks;
})
  where
    chunks : h.chunks ≡ a.chunks
    chunks = run.filler_held.step.chunks ∙ run.class_held.step.chunks

-- ---- what follows of a new object

made-tight : (s k p : ℕ) (j : Kind) (len header w : ℕ) (a d : Core) → IsMade s k p j len header w a d → place_of (a.entries s).state ≡ None → IsTight a → IsTight d
made-tight s k p j len header w a d is leaf tight = record {
  bodies = λ q. subst (λ (f : ℕ → Chunk). 0 < (f q).owner → place_of (d.entries (f q).owner).state ≡ Some q) (sym is.chunks)
      (at-place q (cases_eq q p));
}
  where
    chunk : Chunk
    chunk = record { owner = s; words = words_new j len header w }

    here : place_of (d.entries s).state ≡ Some p
    here = ap (λ (e : Entry). place_of e.state) is.entry

    other : (q t : ℕ) → place_of (a.entries t).state ≡ Some q → place_of (d.entries t).state ≡ Some q
    other q t at = ap (λ (e : Entry). place_of e.state) (is.others t (λ same. let no : place_of (a.entries t).state ≡ None = ap (λ (z : ℕ). place_of (a.entries z).state) same ∙ leaf in absurd (cc))) ∙ at

    at-place : (q : ℕ) → (q ≡ p) ⊎ (q ≢ p) → 0 < (with_chunk a.chunks p (record { owner = s; words = words_new j len header w }) q).owner → place_of (d.entries (with_chunk a.chunks p (record { owner = s; words = words_new j len header w }) q).owner).state ≡ Some q
    at-place q (inl same) some = subst (λ (z : ℕ). place_of (d.entries (with_chunk a.chunks p (record { owner = s; words = words_new j len header w }) z).owner).state ≡ Some z) (sym same)
        (subst (λ (x : Chunk). place_of (d.entries x.owner).state ≡ Some p) (sym (put-here a.chunks p (record { owner = s; words = words_new j len header w }))) here)
    at-place q (inr away) some =
        let same : with_chunk a.chunks p (record { owner = s; words = words_new j len header w }) q ≡ a.chunks q = put-there a.chunks p (record { owner = s; words = words_new j len header w }) q away in
        subst (λ (x : Chunk). place_of (d.entries x.owner).state ≡ Some q) (sym same) (other q (a.chunks q).owner (tight.bodies q (subst (λ (x : Chunk). 0 < x.owner) same some)))

made-marks : (s k p : ℕ) (j : Kind) (len header w : ℕ) (a d : Core) → IsMade s k p j len header w a d → (n : ℕ) → marked_of d n ≡ marked_of a n
made-marks s k p j len header w a d is n = ap (λ (f : ℕ → Option ℕ). marked_by d.entries (f n)) is.find ∙ go (a.find n)
  where
    go : (o : Option ℕ) → marked_by d.entries o ≡ marked_by a.entries o
    go None = refl
    go (Some q) = ⊎_elim (λ (same : q ≡ s). subst (λ (z : ℕ). (d.entries z).flags.marked ≡ (a.entries z).flags.marked) (sym same) (ap (λ (e : Entry). e.flags.marked) is.entry)) (λ (away : q ≢ s). ap (λ (e : Entry). e.flags.marked) (is.others q away)) (cases_eq q s)

pub make-within : (a b h m d : Core) (s k p w : ℕ) (j : Kind) (len header : ℕ) → IsMakeRun a b h m s k p w j len header → d ≡ with_entry m s (after m s k p j len) → IsWithin s a d
make-within a b h m d s k p w j len header run is = subst (λ (x : Core). IsWithin s a x) (sym is) (record {
  same_outside = λ t.
      let all = opening-outside m s p (after m s k p j len) t run.core_m (make-opening a b h m s k p w j len header run) in
      let count = make-count a b h m s k p w j len header t run in
      let more = make-outside a b h m s k p w j len header t run in
      omega arith;
  live = λ t on.
      let same = make-entry a b h m s k p w j len header t run in (
        at-entry m.entries s (after m s k p j len) (λ q e. is_used (m.entries q).state ≡ true → is_used e.state ≡ true) (λ on. refl) (λ q away on. on) t (ap (λ (e : Entry). is_used e.state) same ∙ on),
        step-names m s (after m s k p j len) (opening-step m s p (after m s k p j len) run.core_m (make-opening a b h m s k p w j len header run)) t ∙ ap (λ (e : Entry). e.name) same,
      );
  about = About-trans s a b (with_entry m s (after m s k p j len)) (ref-about s a b run.class_held.step)
      (About-trans s b h (with_entry m s (after m s k p j len)) (ref-about s b h run.filler_held.step)
      (About-trans s h m (with_entry m s (after m s k p j len)) (move-about s h m (make-move a b h m s k p w j len header run) (ap (λ (c : Core). c.entries) run.chunk)) (entry-about m s (after m s k p j len))));
  grew = λ n e. ap (λ f. f n) (sym (finds)) ∙ e;
  changes = λ n.
      entry-changes m s (after m s k p j len) refl n ∙ ap (λ (c : Core). change_of c n) run.chunk ∙ run.filler_held.changes n ∙ run.class_held.changes n;
  others = record {
    same = λ t away on. now.others t away;
    came = λ t away off on. absurd (let no : false ≡ true = sym off ∙ ap (λ (e : Entry). is_used e.state) (sym (now.others t away)) ∙ on in cc);
  };
  marks = made-marks s k p j len header w a (with_entry m s (after m s k p j len)) now;
  tight = made-tight s k p j len header w a (with_entry m s (after m s k p j len)) now run.leaf;
})
  where
    now : IsMade s k p j len header w a (with_entry m s (after m s k p j len))
    now = make-made a b h m (with_entry m s (after m s k p j len)) s k p w j len header run refl

    finds : m.find ≡ a.find
    finds = ap (λ (c : Core). c.find) run.chunk ∙ run.filler_held.find ∙ run.class_held.find

-- ---- a new object whose fields are all nil is what the model makes

-- a leaf came for a name, and was made
pub leaf-made : (a m d : Core) (s n k w : ℕ) (j : Kind) (len header : ℕ) → IsCore a → m ≡ with_leaf a s n → IsLeafStep a m → is_used (a.entries k).state ≡ true → is_used (a.entries w).state ≡ true → (a.entries w).name ≡ NIL
    → ((disk : Disk) → IsBacked m disk → held d disk ≡ put (held m disk) (m.entries s).name (Some (record { class = (m.entries k).name; body = body_new j len header (meant m.entries [] 0 w) })))
    → (disk : Disk) → IsBacked a disk → held d disk ≡ put (held a disk) n (Some (record { class = (a.entries k).name; body = body_new j len header (Ref NIL) }))
leaf-made a m d s n k w j len header core is leaf class_used nil_used nil make disk backed =
    let keeps = leaf.stays disk backed in
    let name : (m.entries s).name ≡ n = ap (λ (c : Core). (c.entries s).name) is ∙ ap (λ (e : Entry). e.name) (put-here a.entries s (leaf_entry n)) in
    let class : (m.entries k).name ≡ (a.entries k).name = ap (λ (e : Entry). e.name) (leaf.used k class_used) in
    let means : meant m.entries [] 0 w ≡ Ref NIL = meant-short m.entries [] 0 w (core.short w nil_used) ∙ ap Ref (ap (λ (e : Entry). e.name) (leaf.used w nil_used) ∙ nil) in
    make disk keeps.backed
    ∙ ap (λ (v : Value). put (held m disk) (m.entries s).name (Some (record { class = (m.entries k).name; body = body_new j len header v }))) means
    ∙ ap (λ (c : ℕ). put (held m disk) (m.entries s).name (Some (record { class = c; body = body_new j len header (Ref NIL) }))) class
    ∙ ap (λ (f : ℕ → Option Object). put f (m.entries s).name (Some (record { class = (a.entries k).name; body = body_new j len header (Ref NIL) }))) keeps.held
    ∙ ap (λ (q : ℕ). put (held a disk) q (Some (record { class = (a.entries k).name; body = body_new j len header (Ref NIL) }))) name
