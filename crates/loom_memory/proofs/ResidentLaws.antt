-- The objects in the core: where they are named, and that their words are those that aren't free.
use Rattle.std.proofs.Common.{◌≡◌, ◌≢◌, ℕ, ◌+◌, ◌≤◌, Bool, true, false, cond, eqb, List, [], ◌∷◌, length, refl, sym, ◌∙◌, ap, subst, arith, Option, Some, None, IsTrue, ⊎_elim}
use Rattle.std.proofs.lemmas.Grind.{common_steps}
use Rattle.std.proofs.lemmas.Bool.{cases_eq}
use Rattle.std.proofs.lemmas.List.Sums.{sum_by-cons}
use Rattle.std.specs.Prelude.{sum_by}
use Rattle.std.specs.Option.{is_some, option_map_or}
use Rattle.object_memory.specs.Told.{has_slot}
use Rattle.loom_host.specs.declared.outside.Host.{Ghosts}
use Rattle.object_table.specs.Entries.{put, place_of, sum_below}
use Rattle.core_segment.specs.declared.segment.TheConstants.{HEADER}
use Rattle.core_segment.specs.Chunks.{Chunk, Placed, room_of, no_chunk, at_place, IsLaidOut}
use Rattle.core_view.specs.Core.{Core}
use Rattle.core_view.specs.Kept.{IsCore, IsTight}
use Rattle.core_view.specs.Room.{room_by, room_for, IsBare}
use Rattle.core_view.proofs.Core.{placed-used}
use Rattle.core_view.proofs.Lists.{put-here, put-there}
use Rattle.core_view.proofs.Sums.{sum-less, sum-none, sum-most}
use Rattle.core_view.proofs.Chunks.{words-most}
use Rattle.disk_objects.specs.declared.rest.DiskRest.{DiskRest}
use Rattle.leaf_lambda.specs.declared.parts.Parts.{Parts}
use Rattle.leaf_lambda.specs.Parts.{core_of}
use Rattle.purger.specs.declared.room.Pinned.{Pinned}
use Rattle.loom_memory.specs.declared.ledger.Ledger.{Ledger}
use Rattle.loom_memory.specs.declared.memory.LoomMemory.{LoomMemory}
use Rattle.loom_memory.specs.Memory.{loom_told, IsKept, IsOver, IsSound}
use Rattle.loom_memory.specs.Residents.{has_body, is_resident}
use Rattle.loom_memory.proofs.ClassLaws.{short-some}
use Rattle.loom_memory.proofs.WordLaws.{slots-have}

-- ---- what is left after all went that may

-- where nothing but the objects of the slots has a body, a slot names each object in the core
pub only-pinned : {H : Type 0} (host : Ghosts H) (m : LoomMemory H host) (n : ℕ) → IsSound host m → IsBare m.pager.pinned.a m.pager.pinned.b m.pager.pinned.d (core_of m.pager.levels.parts) → IsTrue (is_resident m n) → IsTrue (has_slot (loom_told host m).slots n)
unfolding is_resident loom_told
only-pinned {H} host m n sound bare = go ((core_of m.pager.levels.parts).find n) refl
  where
    go : (x : Option ℕ) → (core_of m.pager.levels.parts).find n ≡ x → has_body (core_of m.pager.levels.parts) x ≡ true → has_slot (loom_told host m).slots n ≡ true
    go None e here = absurd (cc)
    go (Some s) e here = at (place_of ((core_of m.pager.levels.parts).entries s).state) refl here
      where
        at : (x : Option ℕ) → place_of ((core_of m.pager.levels.parts).entries s).state ≡ x → is_some x ≡ true → has_slot (loom_told host m).slots n ≡ true
        at None f here = absurd (cc)
        at (Some p) f here =
            let core = m.pager.levels.whole.parts.core in
            let used = core.used n s e in
            sym (slots-have (core_of m.pager.levels.parts) m.pager.pinned s n core sound.kept.pinned used (short-some s (core.short s used)) (sym (core.named n s e))) ∙ bare.pinned s p f

-- ---- words

-- the words of a chunk for an entry: none where it is another's
abbrev share : Chunk → ℕ → ℕ
share k s = cond (eqb k.owner s) (cond (eqb s 0) 0 (HEADER + length k.words)) 0

at-most : (b d : Bool) (n : ℕ) → cond b (cond d 0 n) 0 ≤ n
at-most true true n = omega arith
at-most true false n = omega arith
at-most false d n = omega arith

none-either : (b : Bool) → cond {A = ℕ} b 0 0 ≡ 0
none-either true = refl
none-either false = refl

share-none : (s : ℕ) → share no_chunk s ≡ 0
share-none s = go (eqb s 0) refl
  where
    go : (b : Bool) → eqb s 0 ≡ b → cond {A = ℕ} (eqb 0 s) (cond b 0 (HEADER + length no_chunk.words)) 0 ≡ 0
    go true e = none-either (eqb 0 s)
    go false e = let away : eqb 0 s ≡ false = grind (arith, common_steps) in ap (λ (b : Bool). cond {A = ℕ} b (HEADER + length no_chunk.words) 0) away

share-other : (a k : Chunk) (b : Bool) (s : ℕ) → s ≢ a.owner → share (cond b a k) s ≤ share k s
share-other a k false s away = omega arith
share-other a k true s away = let other : eqb a.owner s ≡ false = grind (arith, common_steps) in subst (λ (b : Bool). cond b (cond (eqb s 0) 0 (HEADER + length a.words)) 0 ≤ share k s) (sym other) (omega arith)

share-own : (k : Chunk) (s : ℕ) → k.owner ≡ s → s ≢ 0 → HEADER + length k.words ≤ share k s
share-own k s own some =
    let its : eqb k.owner s ≡ true = grind (arith, common_steps) in
    let there : eqb s 0 ≡ false = grind (arith, common_steps) in
    subst (λ (b : Bool). HEADER + length k.words ≤ cond b (cond (eqb s 0) 0 (HEADER + length k.words)) 0) (sym its) (subst (λ (b : Bool). HEADER + length k.words ≤ cond b 0 (HEADER + length k.words)) (sym there) (omega arith))

-- one chunk more
share-more : (n : ℕ) (place : ℕ → ℕ) (x : Placed) (xs : List Placed) (f g : ℕ → Chunk) (b : Bool) → ((p : ℕ) → g p ≡ cond (eqb x.place p) x.chunk (f p)) → eqb x.place (place x.chunk.owner) ≡ b
    → sum_below n (λ s. share (f (place s)) s) ≤ sum_by room_of xs → sum_below n (λ s. share (g (place s)) s) ≤ sum_by room_of (x ∷ xs)
share-more n place x xs f g true is e more =
    let out = sum-most n (λ s. share (g (place s)) s) x.chunk.owner in
    let here : g (place x.chunk.owner) ≡ x.chunk = is (place x.chunk.owner) ∙ ap (λ (b : Bool). cond b x.chunk (f (place x.chunk.owner))) e in
    let own : share (g (place x.chunk.owner)) x.chunk.owner ≤ room_of x = subst (λ (k : Chunk). share k x.chunk.owner ≤ room_of x) (sym here) (at-most (eqb x.chunk.owner x.chunk.owner) (eqb x.chunk.owner 0) (HEADER + length x.chunk.words)) in
    let less = sum-less n (λ s. share (f (place s)) s) (put (λ s. share (g (place s)) s) x.chunk.owner 0) (λ s low. ⊎_elim (λ (same : s ≡ x.chunk.owner). rest-own s same) (λ (away : s ≢ x.chunk.owner). rest-other s away) (cases_eq s x.chunk.owner)) in
    let split = sum_by-cons room_of x xs in
    omega (arith, out, own, less, more, split)
  where
    rest-own : (s : ℕ) → s ≡ x.chunk.owner → put (λ s. share (g (place s)) s) x.chunk.owner 0 s ≤ share (f (place s)) s
    rest-own s same = let none = ap (put (λ s. share (g (place s)) s) x.chunk.owner 0) same ∙ put-here (λ s. share (g (place s)) s) x.chunk.owner 0 in omega (arith, none)

    rest-other : (s : ℕ) → s ≢ x.chunk.owner → put (λ s. share (g (place s)) s) x.chunk.owner 0 s ≤ share (f (place s)) s
    rest-other s away =
        let same = put-there (λ s. share (g (place s)) s) x.chunk.owner 0 s away in
        let less = subst (λ (k : Chunk). share k s ≤ share (f (place s)) s) (sym (is (place s))) (share-other x.chunk (f (place s)) (eqb x.place (place s)) s away) in
        omega (arith, same, less)
share-more n place x xs f g false is e more =
    let less = sum-less n (λ s. share (f (place s)) s) (λ s. share (g (place s)) s) (λ s low. ⊎_elim (λ (same : s ≡ x.chunk.owner). own s same) (λ (away : s ≢ x.chunk.owner). other s away) (cases_eq s x.chunk.owner)) in
    let split = sum_by-cons room_of x xs in
    omega (arith, less, more, split)
  where
    own : (s : ℕ) → s ≡ x.chunk.owner → share (g (place s)) s ≤ share (f (place s)) s
    own s same =
        let now : g (place s) ≡ f (place s) = is (place s) ∙ ap (λ (b : Bool). cond b x.chunk (f (place s))) (ap (λ (k : ℕ). eqb x.place (place k)) same ∙ e) in
        subst (λ (k : Chunk). share k s ≤ share (f (place s)) s) (sym now) (omega arith)

    other : (s : ℕ) → s ≢ x.chunk.owner → share (g (place s)) s ≤ share (f (place s)) s
    other s away = subst (λ (k : Chunk). share k s ≤ share (f (place s)) s) (sym (is (place s))) (share-other x.chunk (f (place s)) (eqb x.place (place s)) s away)

-- entries whose chunks are among these have no more words than these
sum-share : (n : ℕ) (place : ℕ → ℕ) (xs : List Placed) → sum_below n (λ s. share (at_place xs (place s)) s) ≤ sum_by room_of xs
sum-share n place [] = let none = sum-none n (λ s. share no_chunk s) share-none in omega (arith, none)
sum-share n place (x ∷ xs) = share-more n place x xs (at_place xs) (at_place (x ∷ xs)) (eqb x.place (place x.chunk.owner)) (λ p. refl) refl (sum-share n place xs)

-- the place of a body, 0 where it has none
abbrev place_or : Core → ℕ → ℕ
place_or c s = option_map_or (λ (p : ℕ). p) (place_of (c.entries s).state) 0

room-share : (c : Core) (xs : List Placed) (s : ℕ) → IsCore c → c.chunks ≡ at_place xs → room_for c s ≤ share (at_place xs (place_or c s)) s
room-share c xs s core is = go (place_of (c.entries s).state) refl
  where
    go : (x : Option ℕ) → place_of (c.entries s).state ≡ x → room_by c.chunks x ≤ share (at_place xs (option_map_or (λ (p : ℕ). p) x 0)) s
    go None e = omega arith
    go (Some p) e = subst (λ (f : ℕ → Chunk). HEADER + length (c.chunks p).words ≤ share (f p) s) is (share-own (c.chunks p) s (core.owned s p e) (short-some s (core.short s (placed-used (c.entries s).state p e))))

words-least : (c : Core) (xs : List Placed) (free size : ℕ) → IsCore c → c.chunks ≡ at_place xs → IsLaidOut xs free size → free + sum_below c.bound (room_for c) ≤ size
words-least c xs free size core is laid =
    let most = sum-share c.bound (place_or c) xs in
    let less = sum-less c.bound (λ s. share (at_place xs (place_or c s)) s) (room_for c) (λ s low. room-share c xs s core is) in
    let all = laid.all in
    omega (arith, most, less, all)

-- The words of a region are those that are free and those of the bodies.
pub words-all : (c : Core) (xs : List Placed) (free size : ℕ) → IsCore c → IsTight c → c.chunks ≡ at_place xs → IsLaidOut xs free size → size ≡ free + sum_below c.bound (room_for c)
words-all c xs free size core tight is laid = let most = words-most c xs free size core tight is laid in let least = words-least c xs free size core is laid in omega (arith, most, least)

-- ---- how many came in

-- nothing that is kept speaks of how many came in
pub fetched-kept : (p : Parts) (regs : List ℕ) (pins : Pinned) (k l : Ledger) (n : ℕ) → l ≡ record k { fetches = n } → IsKept p regs pins k → IsKept p regs pins l
fetched-kept p regs pins k l n is kept = subst (λ (z : Ledger). IsKept p regs pins z) (sym is) (record {
  size = kept.size;
  entries = kept.entries;
  rooted = kept.rooted;
  filled = kept.filled;
  many = kept.many;
  pinned = kept.pinned;
  cached = kept.cached;
})

pub fetched-over : {H : Type 0} (host : Ghosts H) (now : H) (rest : DiskRest) (c : Core) (k l : Ledger) (n : ℕ) → l ≡ record k { fetches = n } → IsOver host now rest c k → IsOver host now rest c l
fetched-over {H} host now rest c k l n is over = subst (λ (z : Ledger). IsOver host now rest c z) (sym is) (record { stands = over.stands; backed = over.backed; counted = over.counted; roomy = over.roomy; based = over.based; valued = over.valued })
