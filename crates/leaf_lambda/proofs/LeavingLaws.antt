-- Bodies that go: words become lambdas, the entry becomes a leaf, the class is let go.
use Rattle.std.proofs.Common.{◌≡◌, ℕ, ◌∷◌, ◌+◌, ◌≤◌, true, false, Some, replicate, count_by, refl, sym, ◌∙◌, ap, subst, arith}
use Rattle.std.specs.List.{slice_set}
use Rattle.object_table.specs.declared.entry.Entry.{Entry}
use Rattle.object_table.specs.Entries.{put, is_short, is_used, place_of}
use Rattle.core_segment.specs.Chunks.{Chunk, no_chunk, with_chunk}
use Rattle.core_view.specs.Core.{Core, with_entry}
use Rattle.core_view.specs.Words.{pointers, spot}
use Rattle.core_view.specs.Held.{Disk}
use Rattle.core_view.specs.Counts.{names, one, outside, change_by, change_of, marked_by, marked_of}
use Rattle.core_view.specs.Kept.{IsCore, IsTight, IsBacked, Keeps, Stays}
use Rattle.core_view.specs.Steps.{IsAt, IsLoose, IsMove, IsAbout, IsRefStep, written, closed, with_field_word}
use Rattle.core_view.proofs.Lists.{one-here, pointers-set, count-cons}
use Rattle.core_view.proofs.Entries.{at-entry}
use Rattle.core_view.proofs.Bodies.{clean-lambda, closing-outside, count-lambda}
use Rattle.core_view.proofs.Moves.{move-outside}
use Rattle.core_view.proofs.Others.{same-entries, entries-others, Others-trans, entry-others, entry-marks}
use Rattle.core_view.proofs.Tight.{ref-tight, word-tight, entry-tight, close-tight}
use Rattle.core_view.proofs.Records.{write-outside}
use Rattle.core_view.proofs.Steps.{Keeps-trans, ref-about, About-trans, entry-about, entry-changes}
use Rattle.core_view.proofs.Words.{word-keeps, word-outside, one-zero}
use Rattle.leaf_lambda.specs.Parts.{IsDropping, IsWithin}
use Rattle.leaf_lambda.proofs.FillLaws.{written-words}
use Rattle.leaf_lambda.proofs.OpenLaws.{move-about}
use Rattle.leaf_lambda.proofs.TranslateLaws.{word-about}

no-short : is_short 0 ≡ true → ⊥
no-short is = cc

zero-out : (a x : Core) (s p i w t : ℕ) → IsCore a → IsAt a s p i w → x ≡ with_field_word a s p i 0 → outside x t ≡ outside a t + one t w
zero-out a x s p i w t core at is =
    let step = word-outside a s p i 0 w t core at (λ short. absurd (no-short short)) in
    let none = one-zero t in
    let same : outside x t ≡ outside (with_field_word a s p i 0) t = ap (λ (c : Core). outside c t) is in
    omega arith

pub unresolve-loose : (a x : Core) (s p i w : ℕ) → IsCore a → IsAt a s p i w → x ≡ with_field_word a s p i 0 → is_short w ≡ true → 1 ≤ outside x w
unresolve-loose a x s p i w core at is short = let out = zero-out a x s p i w w core at is in let here = one-here w short in omega arith

pub unresolve-keeps : (a x d : Core) (disk : Disk) (s p i w : ℕ) → IsCore a → IsAt a s p i w → x ≡ with_field_word a s p i 0 → Stays x d → IsBacked a disk → (a.entries s).flags.fresh ≡ false → (a.entries s).flags.changed ≡ false → Keeps disk a d
unresolve-keeps a x d disk s p i w core at is stays backed fresh clean =
    let first : Keeps disk a x = subst (λ (c : Core). Keeps disk a c) (sym is) (word-keeps a disk s p i 0 w core backed at (λ f. absurd (cc)) (clean-lambda a disk s p i w backed at clean)) in
    Keeps-trans disk a x d first (stays disk first.backed)

pub unresolve-within : (a x d : Core) (s p i w : ℕ) → IsCore a → IsAt a s p i w → x ≡ with_field_word a s p i 0 → IsDropping w x d → IsWithin s a d
unresolve-within a x d s p i w core at is drop = record {
  same_outside = λ t. let out = zero-out a x s p i w t core at is in let less = drop.one_less t in omega arith;
  live = λ t on.
      let last = drop.live t (ap (λ (c : Core). is_used (c.entries t).state) is ∙ on) in
      (last.0, last.1 ∙ ap (λ (c : Core). (c.entries t).name) is);
  about = About-trans s a x d (subst (λ (c : Core). IsAbout s a c) (sym is) (word-about a s p i 0 core at.place)) (ref-about s x d drop.step);
  grew = λ n e. ap (λ (c : Core). c.find n) (sym is) ∙ drop.grew n e;
  changes = λ n. drop.changes n ∙ ap (λ (c : Core). change_of c n) is;
  others = Others-trans s a x d (entries-others s a x (same-entries a x (ap (λ (c : Core). c.entries) is))) (entries-others s x d drop.others);
  marks = λ n. drop.marks n ∙ ap (λ (c : Core). marked_of c n) is;
  tight = λ t. ref-tight x d drop.step (subst IsTight (sym is) (word-tight a s p i 0 t));
}

pub unresolve-fields : (a x d : Core) (s p i w : ℕ) → IsAt a s p i w → x ≡ with_field_word a s p i 0 → IsRefStep x d → pointers (a.entries s).kind (d.chunks p).words ≡ slice_set (pointers (a.entries s).kind (a.chunks p).words) i 0
unresolve-fields a x d s p i w at is step =
    ap (λ (f : ℕ → Chunk). pointers (a.entries s).kind (f p).words) step.chunks
    ∙ ap (λ (c : Core). pointers (a.entries s).kind (c.chunks p).words) is
    ∙ ap (λ ws. pointers (a.entries s).kind ws) (written-words a.chunks p (spot (a.entries s).kind i) 0)
    ∙ pointers-set (a.entries s).kind (a.chunks p).words i 0 w at.word

entry-live : (c : Core) (s : ℕ) (e : Entry) (t : ℕ) → is_used e.state ≡ true → e.name ≡ (c.entries s).name → is_used (c.entries t).state ≡ true → (is_used (put c.entries s e t).state ≡ true) × ((put c.entries s e t).name ≡ (c.entries t).name)
entry-live c s e t still name on = (at-entry c.entries s e (λ q x. is_used (c.entries q).state ≡ true → is_used x.state ≡ true) (λ on. still) (λ q away on. on) t on, at-entry c.entries s e (λ q x. x.name ≡ (c.entries q).name) name (λ q away. refl) t)

pub written-within : (c : Core) (s : ℕ) → IsCore c → is_used (c.entries s).state ≡ true → IsWithin s c (with_entry c s (written (c.entries s)))
written-within c s core used = record {
  same_outside = λ t. write-outside c s t core used;
  live = λ t on. entry-live c s (written (c.entries s)) t used refl on;
  about = entry-about c s (written (c.entries s));
  grew = λ n e. e;
  changes = entry-changes c s (written (c.entries s)) refl;
  others = entry-others c (with_entry c s (written (c.entries s))) s (written (c.entries s)) refl;
  marks = entry-marks c s (written (c.entries s)) refl;
  tight = entry-tight c s (written (c.entries s)) refl;
}

-- a chunk whose body went
pub closed-loose : (c d : Core) (s p : ℕ) → IsCore c → place_of (c.entries s).state ≡ Some p → d ≡ with_entry c s (closed (c.entries s)) → IsLoose d p
closed-loose c d s p core at is = subst (λ (x : Core). IsLoose x p) (sym is) (λ q. at-entry c.entries s (closed (c.entries s)) (λ z e. place_of e.state ≡ Some p → ⊥) (λ f. cc) (λ z away there. away (sym (core.owned z p there) ∙ core.owned s p at)) q)

-- from a body of lambdas by its leaving, and a chunk's, to its class let go
pub close-within : (u v m d : Core) (s p k n : ℕ) → IsCore u → place_of (u.entries s).state ≡ Some p → (u.entries s).class.0 ≡ k → pointers (u.entries s).kind (u.chunks p).words ≡ replicate n 0 → v ≡ with_entry u s (closed (u.entries s)) → IsMove v m → m.entries ≡ v.entries → m.chunks ≡ with_chunk v.chunks p no_chunk → IsDropping k m d → IsWithin s u d
close-within u v m d s p k n core at class lambdas is move entries chunks drop = record {
  same_outside = λ t.
      let out : outside v t ≡ outside u t + count_by (names t) ((u.entries s).class.0 ∷ pointers (u.entries s).kind (u.chunks p).words) = ap (λ (x : Core). outside x t) is ∙ closing-outside u s p (closed (u.entries s)) t core (record { place = at; gone = refl; still = refl; name = refl; refs = refl }) in
      let words = ap (λ ws. count_by (names t) ((u.entries s).class.0 ∷ ws)) lambdas in
      let first = count-cons t (u.entries s).class.0 (replicate n 0) in
      let none = count-lambda t n in
      let same = move-outside v m t move in
      let less = drop.one_less t in
      let it : one t (u.entries s).class.0 ≡ one t k = ap (one t) class in
      omega arith;
  live = λ t on.
      let first = entry-live u s (closed (u.entries s)) t refl refl on in
      let then = drop.live t (ap (λ (f : ℕ → Entry). is_used (f t).state) entries ∙ ap (λ (x : Core). is_used (x.entries t).state) is ∙ first.0) in
      (then.0, then.1 ∙ ap (λ (f : ℕ → Entry). (f t).name) entries ∙ ap (λ (x : Core). (x.entries t).name) is ∙ first.1);
  about = About-trans s u v d (subst (λ (x : Core). IsAbout s u x) (sym is) (entry-about u s (closed (u.entries s)))) (About-trans s v m d (move-about s v m move entries) (ref-about s m d drop.step));
  grew = λ q e. ap (λ (x : Core). x.find q) (sym is) ∙ ap (λ f. f q) (sym move.find) ∙ drop.grew q e;
  changes = λ q.
      drop.changes q ∙ ap (λ (f : ℕ → Entry). change_by f (m.find q)) entries ∙ ap (λ f. change_by v.entries (f q)) move.find ∙ ap (λ (x : Core). change_of x q) is ∙ entry-changes u s (closed (u.entries s)) refl q;
  others = Others-trans s u v d (entry-others u v s (closed (u.entries s)) (ap (λ (x : Core). x.entries) is)) (Others-trans s v m d (entries-others s v m (same-entries v m entries)) (entries-others s m d drop.others));
  marks = λ q.
      drop.marks q ∙ ap (λ (f : ℕ → Entry). marked_by f (m.find q)) entries ∙ ap (λ f. marked_by v.entries (f q)) move.find ∙ ap (λ (x : Core). marked_of x q) is ∙ entry-marks u s (closed (u.entries s)) refl q;
  tight = λ t. ref-tight m d drop.step
      (close-tight u m s p (closed (u.entries s)) t at (chunks ∙ ap (λ (x : Core). with_chunk x.chunks p no_chunk) is) (entries ∙ ap (λ (x : Core). x.entries) is));
}
