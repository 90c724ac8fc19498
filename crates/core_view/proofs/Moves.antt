-- Bodies that lie elsewhere, and chunks where no body lies: the held heap stays.
use Rattle.std.proofs.Common.{◌≡◌, ℕ, ◌<◌, ◌≤◌, true, ◌∷◌, length, refl, sym, ◌∙◌, ap, subst, arith, Option, Some, None, count_by}
use Rattle.std.proofs.Math.Path.{fun_ext}
use Rattle.std.specs.List.{slice_get}
use Rattle.long_names.specs.Words.{literal_count}
use Rattle.long_names.specs.declared.object.Object.{Object}
use Rattle.object_table.specs.declared.entry.Entry.{Entry}
use Rattle.object_table.specs.declared.entry.EntryState.{EntryState}
use Rattle.object_table.specs.Entries.{is_short, is_used, place_of}
use Rattle.core_segment.specs.Chunks.{Chunk}
use Rattle.core_view.specs.Core.{Core, with_chunk_at}
use Rattle.core_view.specs.Words.{words_for, most_len, header_in, pointers}
use Rattle.core_view.specs.Held.{Disk, object_at, held_in, held_by, held}
use Rattle.core_view.specs.Counts.{names, holders_in, holders, tally, uses, outside}
use Rattle.core_view.specs.Kept.{IsCore, IsLike, IsBody, IsBacked, Stays}
use Rattle.core_view.specs.Steps.{IsMove, IsLoose}
use Rattle.core_view.proofs.Lists.{put-there, tally-same}
use Rattle.core_view.proofs.Core.{placed-used, object-same}

some-same : {A : Type 0} (x y : A) → Some x ≡ Some y → x ≡ y
some-same x y e = cc

-- an entry with its body at another place
abbrev moved : Entry → EntryState → Entry
moved e state = record e { state = state }

-- where there is a body now there was one
back : (c d : Core) → IsMove c d → (q r : ℕ) → place_of (d.entries q).state ≡ Some r → (p : ℕ) × (place_of (c.entries q).state ≡ Some p) × (d.chunks r ≡ c.chunks p)
back c d move q r at = go (place_of (c.entries q).state) refl
  where
    go : (o : Option ℕ) → place_of (c.entries q).state ≡ o → (p : ℕ) × (place_of (c.entries q).state ≡ Some p) × (d.chunks r ≡ c.chunks p)
    go None e = let same = ap place_of (move.leaves q e) in absurd (cc)
    go (Some p) e = let there = move.bodies q p e in (p, e, ap d.chunks (some-same r there.0 (sym at ∙ there.1)) ∙ there.2)

used-moved : (c d : Core) → IsMove c d → (q : ℕ) → is_used (d.entries q).state ≡ is_used (c.entries q).state
used-moved c d move q = go (place_of (c.entries q).state) refl
  where
    go : (o : Option ℕ) → place_of (c.entries q).state ≡ o → is_used (d.entries q).state ≡ is_used (c.entries q).state
    go None e = ap is_used (move.leaves q e)
    go (Some p) e = let there = move.bodies q p e in placed-used (d.entries q).state there.0 there.1 ∙ sym (placed-used (c.entries q).state p e)

holders-moved : (c d : Core) → IsMove c d → (q : ℕ) → holders d q ≡ holders c q
unfolding holders
holders-moved c d move q = go (place_of (c.entries q).state) refl
  where
    go : (o : Option ℕ) → place_of (c.entries q).state ≡ o → holders_in d.chunks (d.entries q) (place_of (d.entries q).state) ≡ holders_in c.chunks (c.entries q) o
    go None e = ap (λ o. holders_in d.chunks (d.entries q) o) (ap place_of (move.leaves q e) ∙ e)
    go (Some p) e =
        let there = move.bodies q p e in
        ap (λ o. holders_in d.chunks (d.entries q) o) there.1
        ∙ ap (λ (x : Entry). x.class.0 ∷ pointers x.kind (d.chunks there.0).words) (move.entries q)
        ∙ ap (λ (x : Chunk). (c.entries q).class.0 ∷ pointers (c.entries q).kind x.words) there.2

pub move-uses : (c d : Core) (t : ℕ) → IsMove c d → uses d t ≡ uses c t
unfolding uses
move-uses c d t move =
    ap (λ (n : ℕ). tally n (holders d) t) move.bound
    ∙ tally-same c.bound (holders c) (holders d) t (λ q low. ap (λ xs. count_by (names t) xs) (holders-moved c d move q))

pub move-outside : (c d : Core) (t : ℕ) → IsMove c d → outside d t ≡ outside c t
unfolding outside
move-outside c d t move =
    let all = move-uses c d t move in
    let refs : (d.entries t).refs ≡ (c.entries t).refs = ap (λ (x : Entry). x.refs) (move.entries t) in
    omega arith

pub move-core : (c d : Core) → IsCore c → IsMove c d → IsCore d
move-core c d core move = record {
  found = λ s is. ap (λ f. f (d.entries s).name) move.find ∙ ap c.find (ap (λ (x : Entry). x.name) (move.entries s)) ∙ core.found s (sym (used-moved c d move s) ∙ is);
  used = λ n s e. used-moved c d move s ∙ core.used n s (ap (λ f. f n) (sym move.find) ∙ e);
  named = λ n s e. ap (λ (x : Entry). x.name) (move.entries s) ∙ core.named n s (ap (λ f. f n) (sym move.find) ∙ e);
  short = λ s is. core.short s (sym (used-moved c d move s) ∙ is);
  within = λ s is. subst (λ (n : ℕ). s < n) (sym move.bound) (core.within s (sym (used-moved c d move s) ∙ is));
  low = subst (λ (n : ℕ). n ≤ 65536) (sym move.bound) core.low;
  owned = λ s p at. let b = back c d move s p at in ap (λ (x : Chunk). x.owner) b.2 ∙ core.owned s b.0 b.1;
  long = λ s p at.
      let b = back c d move s p at in
      subst (λ (x : Chunk). length x.words ≡ words_for (d.entries s).kind (d.entries s).len (literal_count (header_in x.words))) (sym b.2)
      (subst (λ (x : Entry). length (c.chunks b.0).words ≡ words_for x.kind x.len (literal_count (header_in (c.chunks b.0).words))) (sym (move.entries s)) (core.long s b.0 b.1));
  small = λ s p at. let b = back c d move s p at in subst (λ (x : Entry). x.len ≤ most_len x.kind) (sym (move.entries s)) (core.small s b.0 b.1);
  classed = λ s p at. let b = back c d move s p at in subst (λ (x : Entry). is_short x.class.0 ≡ true) (sym (move.entries s)) (core.classed s b.0 b.1);
  counted = λ s. let all = move-uses c d s move in let most = core.counted s in let refs : (d.entries s).refs ≡ (c.entries s).refs = ap (λ (x : Entry). x.refs) (move.entries s) in omega arith;
  free = λ s is. ap (λ (x : Entry). x.refs) (move.entries s) ∙ core.free s (sym (used-moved c d move s) ∙ is);
}

move-object : (c d : Core) (disk : Disk) (s p r : ℕ) → IsCore c → IsMove c d → place_of (c.entries s).state ≡ Some p → d.chunks r ≡ c.chunks p → object_at d disk (d.entries s) r ≡ object_at c disk (c.entries s) p
move-object c d disk s p r core move at same =
    ap (λ (x : Entry). object_at d disk x r) (move.entries s)
    ∙ ap (λ (x : Chunk). object_at (record d { chunks = λ q. x }) disk (c.entries s) r) same
    ∙ object-same c (record d { chunks = c.chunks }) disk disk core s p at (λ t some. ap (λ (x : Entry). x.name) (move.entries t)) refl refl

pub move-held : (c d : Core) (disk : Disk) → IsCore c → IsMove c d → held d disk ≡ held c disk
unfolding held
move-held c d disk core move = fun_ext (λ n. ap (λ f. held_by d disk n (f n)) move.find ∙ go n (c.find n) refl)
  where
    go : (n : ℕ) (o : Option ℕ) → c.find n ≡ o → held_by d disk n o ≡ held_by c disk n o
    go n None e = refl
    go n (Some q) e = inner (place_of (c.entries q).state) refl
      where
        inner : (o : Option ℕ) → place_of (c.entries q).state ≡ o → held_in d disk n (d.entries q) (place_of (d.entries q).state) ≡ held_in c disk n (c.entries q) o
        inner None f = ap (λ o. held_in d disk n (d.entries q) o) (ap place_of (move.leaves q f) ∙ f)
        inner (Some p) f =
            let there = move.bodies q p f in
            ap (λ o. held_in d disk n (d.entries q) o) there.1 ∙ ap Some (move-object c d disk q p there.0 core move f there.2)

pub move-backed : (c d : Core) (disk : Disk) → IsCore c → IsMove c d → IsBacked c disk → IsBacked d disk
move-backed c d disk core move backed = record { body = λ q r at. here q r (back c d move q r at) }
  where
    here : (q r : ℕ) → (p : ℕ) × (place_of (c.entries q).state ≡ Some p) × (d.chunks r ≡ c.chunks p) → IsBody d disk (d.entries q) r
    here q r b =
        let was = backed.body q b.0 b.1 in
        let object = move-object c d disk q b.0 r core move b.1 b.2 in
        let e = move.entries q in
        subst (λ (x : Entry). IsBody d disk x r) (sym e) (record {
          like = λ f. subst (λ (o : Object). IsLike (disk (c.entries q).name) o) (sym object ∙ ap (λ (x : Entry). object_at d disk x r) e) (was.like f);
          clean = λ f. was.clean f ∙ ap Some (sym object ∙ ap (λ (x : Entry). object_at d disk x r) e);
          absent = was.absent;
          whole = λ f. subst (λ (x : Chunk). (i : ℕ) → slice_get (pointers (c.entries q).kind x.words) i ≡ Some 0 → ⊥) (sym b.2) (was.whole f);
        })

pub move-stays : (c d : Core) → IsCore c → IsMove c d → Stays c d
move-stays c d core move disk backed = record { backed = move-backed c d disk core move backed; held = move-held c d disk core move }

-- ---- chunks where no body lies

-- chunks change, but not those where bodies lie
pub chunks-move : (c d : Core) → d.entries ≡ c.entries → d.find ≡ c.find → d.bound ≡ c.bound → ((q p : ℕ) → place_of (c.entries q).state ≡ Some p → d.chunks p ≡ c.chunks p) → IsMove c d
chunks-move c d entries find bound same = record {
  find = find;
  bound = bound;
  entries = λ q. ap (λ (f : ℕ → Entry). f q) entries ∙ ap (λ (f : ℕ → Entry). record (c.entries q) { state = (f q).state }) (sym entries);
  leaves = λ q e. ap (λ (f : ℕ → Entry). (f q).state) entries;
  bodies = λ q p at. (p, ap (λ (f : ℕ → Entry). place_of (f q).state) entries ∙ at, same q p at);
}

pub chunk-move : (c : Core) (p : ℕ) (x : Chunk) → IsLoose c p → IsMove c (with_chunk_at c p x)
chunk-move c p x loose = chunks-move c (with_chunk_at c p x) refl refl refl (λ q r at. put-there c.chunks p x r (λ same. loose q (at ∙ ap Some same)))

-- no body lies in a chunk without an owner
pub free-loose : (c : Core) (p : ℕ) → IsCore c → (c.chunks p).owner ≡ 0 → IsLoose c p
free-loose c p core none q at =
    let short : is_short q ≡ true = core.short q (placed-used (c.entries q).state p at) in
    let zero_ : 0 ≡ q = sym none ∙ core.owned q p at in
    let off : is_short 0 ≡ true = subst (λ (z : ℕ). is_short z ≡ true) (sym zero_) short in
    cc
