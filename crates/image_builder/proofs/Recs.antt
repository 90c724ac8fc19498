-- The records of a builder's objects.
-- They are those of a map of `object_memory` with the same objects, which `stored` makes, so that its law `recs-are` serves.
use Rattle.std.proofs.Common.{◌≡◌, ℕ, ◌+◌, ◌<◌, Bool, cond, eqb, List, [], ◌∷◌, map, Option, Some, is_some, refl, sym, ◌∙◌, ap, ap₂, subst, arith}
use Rattle.std.proofs.lemmas.Grind.{common_steps}
use Rattle.std.proofs.lemmas.List.Elements.{All-head, All-map, All-weaker}
use Rattle.std.proofs.lemmas.Map.Views.{All-found}
use mathlib.Core.Path.{fun_ext}
use Rattle.std.specs.Cmp.{nat_cmp_total}
use Rattle.std.specs.Ordering.{nat_cmp}
use Rattle.std.specs.BTreeMap.{is_at}
use Rattle.std.specs.List.{All}
use Rattle.long_names.specs.Objects.{IsBody}
use Rattle.long_names.specs.Heap.{Heap, Has, count_of}
use Rattle.long_names.specs.declared.object.Object.{Object}
use Rattle.long_names.specs.declared.object.Rec.{Rec}
use Rattle.long_names.proofs.ThinLemmas.{below}
use Rattle.image_format.specs.Valid.{IsImageHeap}
use Rattle.object_memory.specs.declared.plain.objects.Objects.{Objects}
use Rattle.object_memory.specs.Records.{Rise, object_in, heap_of_recs, recs_of, AreWhole}
use Rattle.object_memory.proofs.Entries.{Rises, found, map-rises}
use Rattle.object_memory.proofs.WordLaws.{recs-are}
use Rattle.image_builder.specs.Builder.{built_heap}
use Rattle.image_builder.specs.Parts.{rec_with}
use Rattle.image_builder.specs.declared.builder.Builder.{Builder}
use Rattle.image_builder.proofs.Images.{image-bodies}

-- ---- records of entries

found-in : (counts : ℕ → ℕ) (es : List (ℕ × Object)) (q : ℕ) → object_in (map (rec_with counts) es) q ≡ found es q
found-in counts [] q = refl
found-in counts (e ∷ es) q = ap₂ (λ (b : Bool) (x : Option Object). cond b (Some e.1) x) at (found-in counts es q)
  where
    at : eqb e.0 q ≡ is_at (nat_cmp q) e.0
    at = grind (arith, common_steps)

recs-rise : (counts : ℕ → ℕ) (low : ℕ) (es : List (ℕ × Object)) → Rises (low + 1) es → Rise low (map (rec_with counts) es)
recs-rise counts low [] rises = tt
recs-rise counts low (e ∷ es) rises = (let first = rises.0 in omega arith, recs-rise counts e.0 es rises.1)

rises-above : (es : List (ℕ × Object)) → Rises 0 es → All (λ (e : ℕ × Object). 0 < e.0) es → Rises (0 + 1) es
rises-above [] rises above = tt
rises-above (e ∷ es) rises above = (let first : 0 < e.0 = All-head (λ (e : ℕ × Object). 0 < e.0) e es above in omega arith, rises.1)

-- ---- the records of an image's objects

-- a memory of these objects
stored : (b : Builder) (next : ℕ) → IsImageHeap (built_heap b next) → Objects
stored b next is = record {
  objects = b.objects;
  next = next;
  stored = record {
    object = is.objects;
    named = λ n o at. let name = is.names n (ap is_some at) in let low = below (built_heap b next) n o is.bounded at in let high = is.head.high in (name, omega arith);
    below = λ n o at. below (built_heap b next) n o is.bounded at;
    even = is.head.even;
    fits = is.head.high;
    ordered = b.kept.ordered;
  };
}

pub image-recs : (b : Builder) (next : ℕ) (counts : ℕ → ℕ) (recs : List Rec) → IsImageHeap (built_heap b next) → ((q : ℕ) → counts q ≡ count_of (built_heap b next) q) → recs ≡ map (rec_with counts) b.objects.entries → recs ≡ recs_of (built_heap b next)
unfolding stored
image-recs b next counts recs is exact e = e ∙ sym (recs-are (stored b next is) counts exact)

pub image-heap : (b : Builder) (next : ℕ) (counts : ℕ → ℕ) (recs : List Rec) → recs ≡ map (rec_with counts) b.objects.entries → heap_of_recs recs next ≡ built_heap b next
image-heap b next counts recs e =
    ap (λ (rs : List Rec). heap_of_recs rs next) e
    ∙ ap (λ (f : ℕ → Option Object). let h : Heap = record { at = f; next = next } in h) (fun_ext (found-in counts b.objects.entries))

pub image-whole : (b : Builder) (next : ℕ) (counts : ℕ → ℕ) (recs : List Rec) → IsImageHeap (built_heap b next) → recs ≡ map (rec_with counts) b.objects.entries → AreWhole recs next
image-whole b next counts recs is e = record {
  even = is.head.even;
  rise = subst (λ (rs : List Rec). Rise 0 rs) (sym e) (recs-rise counts 0 es (rises-above es (map-rises b.objects b.kept.ordered) above));
  below = subst (λ (rs : List Rec). All (λ (r : Rec). r.name < next) rs) (sym e) (All-map (λ (r : Rec). r.name < next) (rec_with counts) es low);
  bodies = subst (λ (rs : List Rec). All (λ (r : Rec). IsBody r.body) rs) (sym e) (All-map (λ (r : Rec). IsBody r.body) (rec_with counts) es (image-bodies b next is));
  known = λ n known. subst (λ (x : Heap). Has x n) (sym same) (is.known n known);
  closed = λ n o k at held. subst (λ (x : Heap). Has x k) (sym same) (is.closed n k o (ap (λ (x : Heap). x.at n) (sym same) ∙ at) held);
}
  where
    h : Heap
    h = built_heap b next

    es : List (ℕ × Object)
    es = b.objects.entries

    same : heap_of_recs recs next ≡ h
    same = image-heap b next counts recs e

    at : All (λ (e : ℕ × Object). h.at e.0 ≡ Some e.1) es
    at = All-found nat_cmp_total b.objects b.kept.ordered

    above : All (λ (e : ℕ × Object). 0 < e.0) es
    above = All-weaker (λ (e : ℕ × Object). h.at e.0 ≡ Some e.1) (λ (e : ℕ × Object). 0 < e.0) (λ e at. (is.names e.0 (ap is_some at)).above) es at

    low : All (λ (e : ℕ × Object). e.0 < next) es
    low = All-weaker (λ (e : ℕ × Object). h.at e.0 ≡ Some e.1) (λ (e : ℕ × Object). e.0 < next) (λ e at. below h e.0 e.1 is.bounded at) es at
