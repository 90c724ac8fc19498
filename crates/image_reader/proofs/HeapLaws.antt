-- The heap of the records that were loaded, and what their head states.
use Rattle.std.proofs.Common.{◌≡◌, ℕ, suc, ◌<◌, Bool, true, false, cond, eqb, List, [], ◌∷◌, length, Option, Some, None, is_some, option_map, refl, sym, ap, subst, ◌∙◌, arith, inl, inr}
use Rattle.std.specs.Prelude.{All}
use Rattle.std.proofs.lemmas.Bool.{eqb-true}
use Rattle.std.proofs.lemmas.List.Elements.{All-head, All-tail, All-weaker}
use Rattle.long_names.specs.Heap.{Heap, count_of}
use Rattle.long_names.specs.Objects.{IsRecord}
use Rattle.long_names.specs.declared.object.Object.{Object}
use Rattle.long_names.specs.declared.object.Rec.{Rec}
use Rattle.loom_host.specs.declared.outside.Host.{Ghosts}
use Rattle.disk_objects.specs.declared.rest.DiskRest.{DiskRest}
use Rattle.disk_objects.specs.Function.{counts_of}
use Rattle.image_format.specs.declared.opening.ImageHead.{ImageHead}
use Rattle.image_format.specs.declared.opening.State.{State}
use Rattle.image_format.specs.Heads.{is_state_word, is_tick}
use Rattle.image_format.specs.Rules.{Image, object_of_rec, rec_in, whole_break}
use Rattle.image_format.specs.Valid.{IsImageHeap}
use Rattle.image_format.proofs.ImageLaws.{bytes_of_all, exact_counts, heap_is, unbroken}
use Rattle.image_format.proofs.ImageRecs.{InOrder, heap_of_recs}
use Rattle.image_format.proofs.Openings.{IsRead, head_takes}
use Rattle.image_reader.specs.Inside.{IsSeen}
use Rattle.image_reader.specs.Loaded.{IsLoadedHeap, IsStored, KeepsRules, heap_on, names_of}
use Rattle.image_reader.specs.Names.{IsRising}
use Rattle.image_reader.proofs.JudgeLaws.{held-all}
use Rattle.image_reader.proofs.TallyLaws.{later-rise}

-- ---- the head

pub head_read : (head : ImageHead) → IsSeen head → IsRead head
head_read head is = (head_takes is.bytes (head, is.rest) (bytes_of_all is.bytes is.range) is.read).1

pub keeps_rules : (head : ImageHead) → IsRead head → KeepsRules head
keeps_rules head is =
    let o = is.opening in
    elim is.state [
      | inl p ↦ record {
        version = o.version;
        objects = o.objects;
        next = o.next;
        display = subst (λ (s : State). is_state_word head.opening.next s.display ≡ true) (sym p.1) refl;
        input = subst (λ (s : State). is_state_word head.opening.next s.input ≡ true) (sym p.1) refl;
        timer = subst (λ (s : State). is_state_word head.opening.next s.timer ≡ true) (sym p.1) refl;
        tick = subst (λ (s : State). is_tick s.timer s.tick ≡ true) (sym p.1) refl;
      }
      | inr p ↦ record {
        version = o.version;
        objects = o.objects;
        next = o.next;
        display = p.1.display;
        input = p.1.input;
        timer = p.1.timer;
        tick = p.1.tick;
      }
    ]

-- ---- the records

in_order : (recs : List Rec) (last next : ℕ) → All IsRecord recs → All (λ (r : Rec). r.name < next) recs → All (λ (n : ℕ). last < n) (names_of recs) → IsRising (names_of recs) → InOrder last next recs
in_order [] last next is below above rising = tt
in_order (r ∷ rs) last next is below above rising = (
  All-head IsRecord r rs is,
  All-head (λ (n : ℕ). last < n) r.name (names_of rs) above,
  All-head (λ (x : Rec). x.name < next) r rs below,
  in_order rs r.name next (All-tail IsRecord r rs is) (All-tail (λ (x : Rec). x.name < next) r rs below) (λ j d low. rising 0 (suc j) d (omega arith) (omega (arith, low))) (later-rise r.name (names_of rs) rising),
)

above_zero : (recs : List Rec) → All IsRecord recs → All (λ (n : ℕ). 0 < n) (names_of recs)
above_zero recs is = held-all (λ (n : ℕ). 0 < n) recs (All-weaker IsRecord (λ (r : Rec). 0 < r.name) (λ r one. one.name.0.above) recs is)

-- what holds of each record holds of the one of a name
of_name : (P : Rec → Type 0) (recs : List Rec) (n : ℕ) (r : Rec) → All P recs → rec_in recs n ≡ Some r → P r × (r.name ≡ n)
of_name P [] n r all e = let no : ◌≡◌ {A = Option Rec} None (Some r) = e in absurd (cc)
of_name P (x ∷ xs) n r all e = go (eqb x.name n) refl e (of_name P xs n r (All-tail P x xs all))
  where
    go : (b : Bool) → eqb x.name n ≡ b → cond b (Some x) (rec_in xs n) ≡ Some r → (rec_in xs n ≡ Some r → P r × (r.name ≡ n)) → P r × (r.name ≡ n)
    go true same e later = let is : x ≡ r = cc in subst (λ (y : Rec). P y × (y.name ≡ n)) is (All-head P x xs all, eqb-true x.name n same)
    go false other e later = later e

-- ---- the heap

module _ {H : Type 0} (host : Ghosts H) (now : H) (rest : DiskRest) (x : Image) (head : IsRead x.head) (many : length x.recs ≡ x.head.opening.objects)
    (records : All IsRecord x.recs) (below : All (λ (r : Rec). r.name < x.head.opening.next) x.recs) (rising : IsRising (names_of x.recs))
    (stored : IsStored host now rest x.recs) (whole : whole_break x ≡ None) where
  order : InOrder 0 x.head.opening.next x.recs
  order = in_order x.recs 0 x.head.opening.next records below (above_zero x.recs records) rising

  same : heap_of_recs x.recs x.head.opening.next ≡ heap_on host now rest x.head.opening.next
  same = ap (λ (f : ℕ → Option Object). let h : Heap = record { at = f; next = x.head.opening.next } in h) (sym stored.at)

  stated : (n : ℕ) (o : Option Rec) → rec_in x.recs n ≡ o → is_some (option_map object_of_rec o) ≡ true → counts_of host now rest n ≡ Some (count_of (heap_of_recs x.recs x.head.opening.next) n)
  stated n None e there = let no : ◌≡◌ {A = Bool} false true = there in absurd (cc)
  stated n (Some r) e there =
      let of = of_name (λ (y : Rec). y.count ≡ count_of (heap_of_recs x.recs x.head.opening.next) y.name) x.recs n r (exact_counts x order (unbroken x whole)) e in
      ap (λ (f : ℕ → Option ℕ). f n) stored.counts
      ∙ ap (option_map (λ (y : Rec). y.count)) e
      ∙ ap (λ (k : ℕ). let c : Option ℕ = Some k in c) (of.0 ∙ ap (count_of (heap_of_recs x.recs x.head.opening.next)) of.1)

  pub loaded_heap : IsLoadedHeap host now rest x.head.opening.next
  loaded_heap = record {
    is = subst IsImageHeap same (heap_is x head many order (unbroken x whole));
    counts = λ n has.
        stated n (rec_in x.recs n) refl (ap is_some (ap (λ (f : ℕ → Option Object). f n) (sym stored.at)) ∙ has)
        ∙ ap (λ (h : Heap). let c : Option ℕ = Some (count_of h n) in c) same;
  }
