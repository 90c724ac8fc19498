-- Words that are put into an object, once and again.
-- A store after a store is the last one as an equation of heaps (`put_again`), and leaves every row of a log (`rows_put`). So a
-- refusal between rows is a refusal of the whole rule (`puts_stop`). What shares is told by the registers (`shares`), not by
-- equal words: equality of contents doesn't compose.
use Rattle.std.proofs.Common.{◌≡◌, ℕ, ◌+◌, Bool, true, false, cond, eqb, ◌||◌, List, [], ◌∷◌, ◌++◌, length, Option, Some, None, refl, sym, ◌∙◌, ap, arith}
use Rattle.std.proofs.Math.Path.{fun_ext}
use Rattle.std.proofs.lemmas.Grind.{common_steps}
use Rattle.std.proofs.lemmas.List.{drop_all, append-nil}
use Rattle.std.specs.Option.{option_map_or, option_and_then}
use Rattle.long_names.specs.declared.value.Value.{Value}
use Rattle.long_names.specs.declared.value.Value.TheVariants.{Int, Ref}
use Rattle.long_names.specs.declared.object.Body.{Body}
use Rattle.long_names.specs.declared.object.Body.TheVariants.{Pointers, Words, Bytes, Method}
use Rattle.long_names.specs.declared.object.Object.{Object}
use Rattle.long_names.specs.Objects.{words_of, put_run, with_words, body_words, fields_of}
use Rattle.long_names.specs.Heap.{Heap, put_object}
use Rattle.long_names.specs.State.{object_at, part_at}
use Rattle.long_names.specs.Access.{with_body}
use Rattle.long_names.specs.Need.{Row, words_at as words_needed, entries_at, is_pinned, added, words_of_row, entries_of_row}
use Rattle.blue_model.specs.Machine.{Machine, LogRow, row_of, rows_at}

-- ---- words of a list

-- all words of a list are put
pub put_whole : (old words : List ℕ) → length words ≡ length old → put_run old 0 words ≡ words
put_whole old words len = ap (λ (rest : List ℕ). words ++ rest) (drop_all (0 + length words) old (omega arith)) ∙ append-nil words

-- ---- bodies

-- words of an object of words
pub words_inside : (x : Option Object) (ws : List ℕ) → option_and_then (λ (o : Object). words_of o.body) x ≡ Some ws → (o : Object) × (x ≡ Some o) × (words_of o.body ≡ Some ws)
words_inside None ws e = let no : ◌≡◌ {A = Option (List ℕ)} None (Some ws) = e in absurd (cc)
words_inside (Some o) ws e = (o, refl, e)

-- the same body, by two changes
pub same_change_of : (h : Heap) (v : Value) (f g : Body → Body) → ((o : Object) → object_at h v ≡ Some o → f o.body ≡ g o.body) → with_body h v f ≡ with_body h v g
same_change_of h (Int z) f g same = refl
same_change_of h (Ref n) f g same = go (h.at n) refl
  where
    go : (x : Option Object) → h.at n ≡ x → option_map_or (λ (o : Object). put_object h n (record { class = o.class; body = f o.body })) x h ≡ option_map_or (λ (o : Object). put_object h n (record { class = o.class; body = g o.body })) x h
    go None e = refl
    go (Some o) e = ap (λ (b : Body). put_object h n (record { class = o.class; body = b })) (same o e)

another : Object → (Body → Body) → Object
another o change = record { class = o.class; body = change o.body }

-- two changes in a row
pub changed_twice : (h : Heap) (v : Value) (f g : Body → Body) → with_body (with_body h v f) v g ≡ with_body h v (λ b. g (f b))
unfolding another
changed_twice h (Int z) f g = refl
changed_twice h (Ref n) f g = go (h.at n) refl
  where
    second : (a b : Object) (x : Option Object) (test : Bool) → cond test (Some b) (cond test (Some a) x) ≡ cond test (Some b) x
    second a b x true = refl
    second a b x false = refl

    go : (x : Option Object) → h.at n ≡ x → with_body (option_map_or (λ (o : Object). put_object h n (another o f)) x h) (Ref n) g ≡ option_map_or (λ (o : Object). put_object h n (another o (λ b. g (f b)))) x h
    go None e = ap (λ (x : Option Object). option_map_or (λ (o : Object). put_object h n (another o g)) x h) e
    go (Some o) e =
        let same : eqb n n ≡ true = grind (arith, common_steps) in
        ap (λ b. option_map_or (λ (p : Object). put_object (put_object h n (another o f)) n (another p g)) (cond b (Some (another o f)) (h.at n)) (put_object h n (another o f))) same
        ∙ ap (λ (at : ℕ → Option Object). (let k : Heap = record { at = at; next = h.next } in k)) (fun_ext (λ q. second (another o f) (another o (λ b. g (f b))) (h.at q) (eqb q n)))

-- no change
pub unchanged : (h : Heap) (v : Value) (f : Body → Body) → ((o : Object) → object_at h v ≡ Some o → f o.body ≡ o.body) → with_body h v f ≡ h
unchanged h (Int z) f same = refl
unchanged h (Ref n) f same = go (h.at n) refl
  where
    at : (o : Object) → h.at n ≡ Some o → (q : ℕ) (test : Bool) → eqb q n ≡ test → cond test (Some o) (h.at q) ≡ h.at q
    at o e q true is = let there : q ≡ n = grind (arith, common_steps, is) in sym (ap h.at there ∙ e)
    at o e q false is = refl

    go : (x : Option Object) → h.at n ≡ x → option_map_or (λ (o : Object). put_object h n (record { class = o.class; body = f o.body })) x h ≡ h
    go None e = refl
    go (Some o) e =
        ap (λ (b : Body). put_object h n (record { class = o.class; body = b })) (same o e)
        ∙ ap (λ (at : ℕ → Option Object). (let k : Heap = record { at = at; next = h.next } in k)) (fun_ext (λ q. at o e q (eqb q n) refl))

-- ---- words that are put

-- of an object of words, and of any other
pub put_body : (b : Body) (ws words : List ℕ) → words_of b ≡ Some ws → length words ≡ length ws → with_words b 0 words ≡ Words words
put_body (Pointers values) ws words e len = let no : ◌≡◌ {A = Option (List ℕ)} None (Some ws) = e in absurd (cc)
put_body (Words old) ws words e len = let same : old ≡ ws = cc in ap (λ (l : List ℕ). Words l) (put_whole old words (len ∙ ap (λ (l : List ℕ). length l) (sym same)))
put_body (Bytes bytes) ws words e len = let no : ◌≡◌ {A = Option (List ℕ)} None (Some ws) = e in absurd (cc)
put_body (Method header literals code) ws words e len = let no : ◌≡◌ {A = Option (List ℕ)} None (Some ws) = e in absurd (cc)

pub run_body : (b : Body) (ws run : List ℕ) (at : ℕ) → words_of b ≡ Some ws → with_words b at run ≡ Words (put_run ws at run)
run_body (Pointers values) ws run at e = let no : ◌≡◌ {A = Option (List ℕ)} None (Some ws) = e in absurd (cc)
run_body (Words old) ws run at e = let same : old ≡ ws = cc in ap (λ (l : List ℕ). Words (put_run l at run)) same
run_body (Bytes bytes) ws run at e = let no : ◌≡◌ {A = Option (List ℕ)} None (Some ws) = e in absurd (cc)
run_body (Method header literals code) ws run at e = let no : ◌≡◌ {A = Option (List ℕ)} None (Some ws) = e in absurd (cc)

same_body : (b : Body) (ws : List ℕ) → words_of b ≡ Some ws → b ≡ Words ws
same_body (Pointers values) ws e = let no : ◌≡◌ {A = Option (List ℕ)} None (Some ws) = e in absurd (cc)
same_body (Words old) ws e = let same : old ≡ ws = cc in ap (λ (l : List ℕ). Words l) same
same_body (Bytes bytes) ws e = let no : ◌≡◌ {A = Option (List ℕ)} None (Some ws) = e in absurd (cc)
same_body (Method header literals code) ws e = let no : ◌≡◌ {A = Option (List ℕ)} None (Some ws) = e in absurd (cc)

-- the words of the object that a value names are these
abbrev pub HasWords : Heap → Value → List ℕ → Type 0
HasWords h v ws = part_at h v words_of ≡ Some ws

words_here : (h : Heap) (v : Value) (ws : List ℕ) (o : Object) → HasWords h v ws → object_at h v ≡ Some o → words_of o.body ≡ Some ws
words_here h v ws o e at = sym (ap (option_and_then (λ (p : Object). words_of p.body)) at) ∙ e

-- all words are put, and put again
pub put_again : (h : Heap) (v : Value) (ws first second : List ℕ) → HasWords h v ws → length first ≡ length ws → length second ≡ length ws
    → with_body (with_body h v (λ b. with_words b 0 first)) v (λ b. with_words b 0 second) ≡ with_body h v (λ b. with_words b 0 second)
put_again h v ws first second e one two =
    changed_twice h v (λ b. with_words b 0 first) (λ b. with_words b 0 second)
    ∙ same_change_of h v (λ b. with_words (with_words b 0 first) 0 second) (λ b. with_words b 0 second)
    (λ o at.
    let here : words_of o.body ≡ Some ws = words_here h v ws o e at in
    ap (λ b. with_words b 0 second) (put_body o.body ws first here one)
    ∙ put_body (Words first) first second refl (two ∙ sym one)
    ∙ sym (put_body o.body ws second here two))

-- a run is put, or all words with it
pub run_put : (h : Heap) (v : Value) (ws run : List ℕ) (at : ℕ) → HasWords h v ws → length (put_run ws at run) ≡ length ws
    → with_body h v (λ b. with_words b at run) ≡ with_body h v (λ b. with_words b 0 (put_run ws at run))
run_put h v ws run at e len =
    same_change_of h v (λ b. with_words b at run) (λ b. with_words b 0 (put_run ws at run))
    (λ o there. (let here : words_of o.body ≡ Some ws = words_here h v ws o e there in run_body o.body ws run at here ∙ sym (put_body o.body ws (put_run ws at run) here len)))

-- the words that are there are put
pub put_same : (h : Heap) (v : Value) (ws : List ℕ) → HasWords h v ws → with_body h v (λ b. with_words b 0 ws) ≡ h
put_same h v ws e =
    unchanged h v (λ b. with_words b 0 ws)
    (λ o at. (let here : words_of o.body ≡ Some ws = words_here h v ws o e at in put_body o.body ws ws here refl ∙ sym (same_body o.body ws here)))

-- ---- rows stay

-- the words and the entries of each object
kept_words : (h : Heap) (v : Value) (f : Body → Body) → ((o : Object) → object_at h v ≡ Some o → body_words (f o.body) ≡ body_words o.body) → (k : ℕ) → words_needed (with_body h v f) k ≡ words_needed h k
kept_words h (Int z) f same k = refl
kept_words h (Ref n) f same k = go (h.at n) refl
  where
    at : (o : Object) → h.at n ≡ Some o → (test : Bool) → eqb k n ≡ test → option_map_or (λ (p : Object). 4 + body_words p.body) (cond test (Some (record { class = o.class; body = f o.body })) (h.at k)) 0 ≡ words_needed h k
    at o e true is = let there : k ≡ n = grind (arith, common_steps, is) in ap (λ w. 4 + w) (same o e) ∙ sym (ap (λ x. option_map_or (λ (p : Object). 4 + body_words p.body) x 0) (ap h.at there ∙ e))
    at o e false is = refl

    go : (x : Option Object) → h.at n ≡ x → words_needed (option_map_or (λ (o : Object). put_object h n (record { class = o.class; body = f o.body })) x h) k ≡ words_needed h k
    go None e = refl
    go (Some o) e = at o e (eqb k n) refl

kept_entries : (h : Heap) (v : Value) (f : Body → Body) → ((o : Object) → object_at h v ≡ Some o → length (fields_of (f o.body)) ≡ length (fields_of o.body)) → (k : ℕ) → entries_at (with_body h v f) k ≡ entries_at h k
kept_entries h (Int z) f same k = refl
kept_entries h (Ref n) f same k = go (h.at n) refl
  where
    at : (o : Object) → h.at n ≡ Some o → (test : Bool) → eqb k n ≡ test → option_map_or (λ (p : Object). 2 + length (fields_of p.body)) (cond test (Some (record { class = o.class; body = f o.body })) (h.at k)) 0 ≡ entries_at h k
    at o e true is = let there : k ≡ n = grind (arith, common_steps, is) in ap (λ w. 2 + w) (same o e) ∙ sym (ap (λ x. option_map_or (λ (p : Object). 2 + length (fields_of p.body)) x 0) (ap h.at there ∙ e))
    at o e false is = refl

    go : (x : Option Object) → h.at n ≡ x → entries_at (option_map_or (λ (o : Object). put_object h n (record { class = o.class; body = f o.body })) x h) k ≡ entries_at h k
    go None e = refl
    go (Some o) e = at o e (eqb k n) refl

words_of_row-kept : (h k : Heap) (r : Row) → words_needed k ≡ words_needed h → words_of_row k r ≡ words_of_row h r
unfolding words_of_row
words_of_row-kept h k r e = ap (λ (size : ℕ → ℕ). size r.object + added size (λ k. eqb k r.object) (r.slots 0) + added size (λ k. (eqb k r.object) || is_pinned k (r.slots 0)) (r.slots 1) + added size (λ k. (eqb k r.object) || (is_pinned k (r.slots 0) || is_pinned k (r.slots 1))) (r.slots 2)) e

entries_of_row-kept : (h k : Heap) (r : Row) → entries_at k ≡ entries_at h → entries_of_row k r ≡ entries_of_row h r
unfolding entries_of_row
entries_of_row-kept h k r e = ap (λ (size : ℕ → ℕ). 51 + added size (λ k. false) (r.slots 0) + added size (λ k. is_pinned k (r.slots 0)) (r.slots 1) + added size (λ k. is_pinned k (r.slots 0) || is_pinned k (r.slots 1)) (r.slots 2)) e

-- a machine whose object of words has others, as many
abbrev pub put_machine : Machine → Value → List ℕ → Machine
put_machine m v words = record m { heap = with_body m.heap v (λ b. with_words b 0 words) }

same_row : (n a b c d x y : ℕ) → a ≡ b → c ≡ d → x ≡ y → (let r : LogRow = record { object = n; words = a; entries = c; makes = false; own = x } in r) ≡ (record { object = n; words = b; entries = d; makes = false; own = y })
same_row n a b c d x y e f g = rw (e, f, g) refl

row_put : (m : Machine) (v : Value) (ws words : List ℕ) → HasWords m.heap v ws → length words ≡ length ws → (n : ℕ) → row_of (put_machine m v words) n ≡ row_of m n
row_put m v ws words e len n =
    let here = λ (o : Object) (at : object_at m.heap v ≡ Some o). words_here m.heap v ws o e at in
    let k = with_body m.heap v (λ b. with_words b 0 words) in
    let r : Row = record { object = n; slots = m.slots } in
    let words_same : words_needed k ≡ words_needed m.heap = fun_ext (kept_words m.heap v (λ b. with_words b 0 words) (λ o at. ap body_words (put_body o.body ws words (here o at) len) ∙ len ∙ sym (ap body_words (same_body o.body ws (here o at))))) in
    same_row n _ _ _ _ _ _
    (words_of_row-kept m.heap k r words_same)
    (entries_of_row-kept m.heap k r (fun_ext (kept_entries m.heap v (λ b. with_words b 0 words) (λ o at. ap (λ b. length (fields_of b)) (put_body o.body ws words (here o at) len) ∙ sym (ap (λ b. length (fields_of b)) (same_body o.body ws (here o at)))))))
    (ap (λ (size : ℕ → ℕ). size n) words_same)

pub rows_put : (m : Machine) (v : Value) (ws words : List ℕ) → HasWords m.heap v ws → length words ≡ length ws → (w : Value) → rows_at (put_machine m v words) w ≡ rows_at m w
rows_put m v ws words e len (Int z) = refl
rows_put m v ws words e len (Ref n) = ap (λ (r : LogRow). r ∷ []) (row_put m v ws words e len n)

-- what is there once words were put
pub words_put : (h : Heap) (v : Value) (ws words : List ℕ) → HasWords h v ws → length words ≡ length ws → HasWords (with_body h v (λ b. with_words b 0 words)) v words
words_put h (Int z) ws words e len = let no : ◌≡◌ {A = Option (List ℕ)} None (Some ws) = e in absurd (cc)
words_put h (Ref n) ws words e len = go (h.at n) refl (words_inside (h.at n) ws e)
  where
    go : (x : Option Object) → h.at n ≡ x → (o : Object) × (h.at n ≡ Some o) × (words_of o.body ≡ Some ws) → HasWords (option_map_or (λ (o : Object). put_object h n (record { class = o.class; body = with_words o.body 0 words })) x h) (Ref n) words
    go None none it = let no : ◌≡◌ {A = Option Object} None (Some it.0) = sym none ∙ it.1 in absurd (cc)
    go (Some o) some it =
        let same : eqb n n ≡ true = grind (arith, common_steps) in
        let here : words_of o.body ≡ Some ws = words_here h (Ref n) ws o e some in
        ap (λ b. option_and_then (λ (p : Object). words_of p.body) (cond b (Some (record { class = o.class; body = with_words o.body 0 words })) (h.at n))) same
        ∙ ap words_of (put_body o.body ws words here len)

pub still_there : (h : Heap) (v w : Value) (f : Body → Body) (o : Object) → object_at h w ≡ Some o → (p : Object) × (object_at (with_body h v f) w ≡ Some p)
still_there h (Int z) w f o e = (o, e)
still_there h (Ref n) (Int z) f o e = (o, e)
still_there h (Ref n) (Ref k) f o e = go (h.at n)
  where
    at : (q : Object) (test : Bool) → (p : Object) × (cond test (Some q) (h.at k) ≡ Some p)
    at q true = (q, refl)
    at q false = (o, e)

    go : (x : Option Object) → (p : Object) × (object_at (option_map_or (λ (o : Object). put_object h n (record { class = o.class; body = f o.body })) x h) (Ref k) ≡ Some p)
    go None = (o, e)
    go (Some q) = at (record { class = q.class; body = f q.body }) (eqb k n)

pub next_same : (h : Heap) (v : Value) (f : Body → Body) → (with_body h v f).next ≡ h.next
next_same h (Int z) f = refl
next_same h (Ref n) f = go (h.at n)
  where
    go : (x : Option Object) → (option_map_or (λ (o : Object). put_object h n (record { class = o.class; body = f o.body })) x h).next ≡ h.next
    go None = refl
    go (Some o) = refl
