-- That each chunk with an owner is a body, step by step.
use Rattle.std.proofs.Common.{◌≡◌, ◌≢◌, ℕ, ◌<◌, refl, sym, ◌∙◌, ap, subst, arith, Some, None, ⊎_elim, ◌⊎◌, inl, inr}
use Rattle.std.proofs.lemmas.Bool.{cases_eq}
use Rattle.object_table.specs.declared.entry.Entry.{Entry}
use Rattle.object_table.specs.Entries.{put, place_of}
use Rattle.core_segment.specs.Chunks.{Chunk, no_chunk, with_chunk}
use Rattle.std.specs.List.{slice_set}
use Rattle.core_view.specs.Core.{Core, with_entry}
use Rattle.core_view.specs.Words.{spot}
use Rattle.core_view.specs.Steps.{IsRefStep, with_field_word}
use Rattle.core_view.proofs.Entries.{at-entry}
use Rattle.core_view.proofs.Lists.{put-here, put-there}
use Rattle.core_view.specs.Kept.{IsTight}

some-same : (x y : ℕ) → Some x ≡ Some y → x ≡ y
some-same x y e = cc

-- other words in chunks, with the same owners and entries
pub owners-tight : (c d : Core) → ((p : ℕ) → (d.chunks p).owner ≡ (c.chunks p).owner) → ((q : ℕ) → place_of (d.entries q).state ≡ place_of (c.entries q).state) → IsTight c → IsTight d
owners-tight c d owners places tight = record { bodies = λ p some. places (d.chunks p).owner ∙ ap (λ (k : ℕ). place_of (c.entries k).state) (owners p) ∙ tight.bodies p (subst (λ (k : ℕ). 0 < k) (owners p) some) }

-- references and leaves alone
pub ref-tight : (c d : Core) → IsRefStep c d → IsTight c → IsTight d
ref-tight c d step tight = record {
  bodies = λ p some.
      let same : d.chunks p ≡ c.chunks p = ap (λ (f : ℕ → Chunk). f p) step.chunks in
      let was = tight.bodies p (subst (λ (x : Chunk). 0 < x.owner) same some) in
      ap (λ (x : Chunk). place_of (d.entries x.owner).state) same ∙ ap (λ (e : Entry). place_of e.state) (step.bodies (c.chunks p).owner p was) ∙ was;
}

-- one entry takes another content, and its body stays where it is
pub entry-tight : (c : Core) (s : ℕ) (e : Entry) → place_of e.state ≡ place_of (c.entries s).state → IsTight c → IsTight (with_entry c s e)
entry-tight c s e same = owners-tight c (with_entry c s e) (λ p. refl) (λ q. at-entry c.entries s e (λ t x. place_of x.state ≡ place_of (c.entries t).state) same (λ t away. refl) q)

-- one word of a body is another
pub word-tight : (c : Core) (s p i w : ℕ) → IsTight c → IsTight (with_field_word c s p i w)
word-tight c s p i w = owners-tight c (with_field_word c s p i w) (λ q. owner q (cases_eq q p)) (λ q. refl)
  where
    chunk : Chunk
    chunk = record { owner = (c.chunks p).owner; words = slice_set (c.chunks p).words (spot (c.entries s).kind i) w }

    owner : (q : ℕ) → (q ≡ p) ⊎ (q ≢ p) → ((with_field_word c s p i w).chunks q).owner ≡ (c.chunks q).owner
    owner q (inl same) = ap (λ (z : ℕ). ((with_field_word c s p i w).chunks z).owner) same ∙ ap (λ (x : Chunk). x.owner) (put-here c.chunks p chunk) ∙ ap (λ (z : ℕ). (c.chunks z).owner) (sym same)
    owner q (inr away) = ap (λ (x : Chunk). x.owner) (put-there c.chunks p chunk q away)

-- a core without bodies and chunks
pub empty-tight : (c : Core) → ((p : ℕ) → (c.chunks p).owner ≡ 0) → IsTight c
empty-tight c none = record { bodies = λ p some. let no = none p in absurd (omega arith) }

-- a chunk is taken for s, which had no body, and s gets its body there
pub open-tight : (c d : Core) (s p : ℕ) (x : Chunk) (e : Entry) → IsTight c → place_of (c.entries s).state ≡ None → x.owner ≡ s → place_of e.state ≡ Some p → d.chunks ≡ with_chunk c.chunks p x → d.entries ≡ put c.entries s e → IsTight d
open-tight c d s p x e tight leaf owner place chunks entries = record { bodies = λ r some. ⊎_elim (λ (h : r ≡ p). here r some h) (λ (h : r ≢ p). there r some h) (cases_eq r p) }
  where
    here : (r : ℕ) → 0 < (d.chunks r).owner → r ≡ p → place_of (d.entries (d.chunks r).owner).state ≡ Some r
    here r some h =
        let own : (d.chunks r).owner ≡ s = ap (λ (k : ℕ). (d.chunks k).owner) h ∙ ap (λ (f : ℕ → Chunk). (f p).owner) chunks ∙ ap (λ (k : Chunk). k.owner) (put-here c.chunks p x) ∙ owner in
        ap (λ (k : ℕ). place_of (d.entries k).state) own ∙ ap (λ (f : ℕ → Entry). place_of (f s).state) entries ∙ ap (λ (z : Entry). place_of z.state) (put-here c.entries s e) ∙ place ∙ ap Some (sym h)

    there : (r : ℕ) → 0 < (d.chunks r).owner → r ≢ p → place_of (d.entries (d.chunks r).owner).state ≡ Some r
    there r some h =
        let same : d.chunks r ≡ c.chunks r = ap (λ (f : ℕ → Chunk). f r) chunks ∙ put-there c.chunks p x r h in
        let was : place_of (c.entries (c.chunks r).owner).state ≡ Some r = tight.bodies r (subst (λ (k : Chunk). 0 < k.owner) same some) in
        let away : (c.chunks r).owner ≢ s = (λ g. let both : None ≡ Some r = sym leaf ∙ ap (λ (k : ℕ). place_of (c.entries k).state) (sym g) ∙ was in cc) in
        ap (λ (k : Chunk). place_of (d.entries k.owner).state) same ∙ ap (λ (f : ℕ → Entry). place_of (f (c.chunks r).owner).state) entries ∙ ap (λ (z : Entry). place_of z.state) (put-there c.entries s e (c.chunks r).owner away) ∙ was

-- the body of s goes, and its chunk
pub close-tight : (c d : Core) (s p : ℕ) (e : Entry) → IsTight c → place_of (c.entries s).state ≡ Some p → d.chunks ≡ with_chunk c.chunks p no_chunk → d.entries ≡ put c.entries s e → IsTight d
close-tight c d s p e tight place chunks entries = record { bodies = λ r some. ⊎_elim (λ (h : r ≡ p). absurd (let none : (d.chunks r).owner ≡ 0 = ap (λ (k : ℕ). (d.chunks k).owner) h ∙ ap (λ (f : ℕ → Chunk). (f p).owner) chunks ∙ ap (λ (k : Chunk). k.owner) (put-here c.chunks p no_chunk) in omega arith)) (λ (h : r ≢ p). there r some h) (cases_eq r p) }
  where
    there : (r : ℕ) → 0 < (d.chunks r).owner → r ≢ p → place_of (d.entries (d.chunks r).owner).state ≡ Some r
    there r some h =
        let same : d.chunks r ≡ c.chunks r = ap (λ (f : ℕ → Chunk). f r) chunks ∙ put-there c.chunks p no_chunk r h in
        let was : place_of (c.entries (c.chunks r).owner).state ≡ Some r = tight.bodies r (subst (λ (k : Chunk). 0 < k.owner) same some) in
        let away : (c.chunks r).owner ≢ s = (λ g. h (sym (some-same p r (sym place ∙ ap (λ (k : ℕ). place_of (c.entries k).state) (sym g) ∙ was)))) in
        ap (λ (k : Chunk). place_of (d.entries k.owner).state) same ∙ ap (λ (f : ℕ → Entry). place_of (f (c.chunks r).owner).state) entries ∙ ap (λ (z : Entry). place_of z.state) (put-there c.entries s e (c.chunks r).owner away) ∙ was
