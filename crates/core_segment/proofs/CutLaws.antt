-- A free chunk comes out of its list.
use Rattle.std.proofs.Common.{◌≡◌, ◌≢◌, ℕ, ◌+◌, ◌-◌, ◌<◌, ◌≤◌, ◌⊎◌, inl, inr, List, [], ◌∷◌, ◌++◌, length, refl, sym, ◌∙◌, ap, subst, arith, ⊎_elim}
use Rattle.std.proofs.lemmas.Bool.{cases_eq, cases_lt}
use Rattle.std.proofs.lemmas.List.{get_or-set_same, get_or-set_other}
use Rattle.std.specs.List.{slice_set}
use Rattle.core_segment.specs.Heads.{pair_in, link_in, IsPaired}
use Rattle.core_segment.specs.Lists.{Tile, free_tile, class_in, first_in, Leads, list_in, weigh, weight, weigh_free, IsListed}
use Rattle.core_segment.specs.Layout.{AreTiles, Spans, tiles_of, free_in}
use Rattle.core_segment.specs.Taking.{IsWhole, IsSpot, IsUnlisted, passed_to}
use Rattle.core_segment.proofs.ListLaws.{at, at-itself, there, listed, with_list, with-same, with-other, weight-free, weight-other, weigh-split, leads-same}
use Rattle.core_segment.proofs.LayoutLaws.{SameWords, spans-order, are-cut, are-join, are-same, tile-linked}
use Rattle.core_segment.proofs.PlaceLaws.{chunk, chunk-free, IsEdit, edit-outside, edit-new, edit-old}
use Rattle.core_segment.proofs.GiveLaws.{links-same, links-join, length-split}
use Rattle.core_segment.proofs.SpotLaws.{IsFree, free-told, once, weigh-passed, leads-on, first-of, behind}

-- ---- the lists without one chunk

module _ (region region' firsts firsts' : List ℕ) (before : List Tile) (p size : ℕ) (after : List Tile) (ps : List ℕ)
    (is : IsListed region firsts (before ++ free_tile p size ∷ after))
    (leads : Leads region' (first_in firsts' (class_in size)) ps)
    (weighs : (f : ℕ → ℕ) → weigh f (list_in region firsts (class_in size)) ≡ f p + weigh f ps)
    (others : (c : ℕ) → c ≢ class_in size → first_in firsts' c ≡ first_in firsts c)
    (same : (c q : ℕ) → c ≢ class_in size → 4 ≤ c → c ≤ 65 → 0 < weigh (at q) (list_in region firsts c) → link_in region' q ≡ link_in region q)
    (few : length (before ++ after) ≤ length region') where
  pub listed-less : IsListed region' firsts' (before ++ after)
  listed-less = listed region' firsts' (before ++ after) (with_list (list_in region firsts) (class_in size) ps) (record { leads = kept; holds = holds }) few
    where
      kept : (c : ℕ) → 4 ≤ c → c ≤ 65 → Leads region' (first_in firsts' c) (with_list (list_in region firsts) (class_in size) ps c)
      kept c low high = ⊎_elim
          (λ (e : c ≡ class_in size). subst (λ (z : ℕ). Leads region' (first_in firsts' z) (with_list (list_in region firsts) (class_in size) ps z)) (sym e)
          (subst (Leads region' (first_in firsts' (class_in size))) (sym (with-same (list_in region firsts) (class_in size) ps)) leads))
          (λ (e : c ≢ class_in size). subst (Leads region' (first_in firsts' c)) (sym (with-other (list_in region firsts) (class_in size) c ps e))
          (subst (λ (z : ℕ). Leads region' z (list_in region firsts c)) (sym (others c e))
          (leads-same region region' (first_in firsts c) (list_in region firsts c) (is.leads c low high) (λ q h. same c q e low high h))))
          (cases_eq c (class_in size))

      holds : (c : ℕ) → 4 ≤ c → c ≤ 65 → (f : ℕ → ℕ) → weigh f (with_list (list_in region firsts) (class_in size) ps c) ≡ weigh_free c f (before ++ after)
      holds c low high f =
          let all = is.holds c low high f in
          let a = weigh-split c f before (free_tile p size ∷ after) in let b = weigh-split c f before after in ⊎_elim
          (λ (e : c ≡ class_in size). ap (λ (z : ℕ). weigh f (with_list (list_in region firsts) (class_in size) ps z)) e ∙ ap (weigh f) (with-same (list_in region firsts) (class_in size) ps)
          ∙ (let d = weight-free c f p size (sym e) in let g = weighs f in let h = ap (λ (z : ℕ). weigh f (list_in region firsts z)) e in omega arith))
          (λ (e : c ≢ class_in size). ap (weigh f) (with-other (list_in region firsts) (class_in size) c ps e)
          ∙ (let d = weight-other c f p size (λ h. e (sym h)) in omega arith))
          (cases_eq c (class_in size))

-- ---- another link in a free chunk

-- what stays as it was when the link in a free chunk becomes another
pub record IsLinked (region region' : List ℕ) (ts : List Tile) (c b : ℕ) : Type 0 where
  pub tiles : AreTiles region' ts
  pub chunks : (k : ℕ) → chunk region' ts k ≡ chunk region ts k
  pub links : (d q : ℕ) → 4 ≤ d → d ≤ 65 → 0 < weigh_free d (at q) ts → ((d ≡ c) → q ≢ b) → link_in region' q ≡ link_in region q

module _ (region region' : List ℕ) (before : List Tile) (b size : ℕ) (after : List Tile) (next : ℕ) (some : 4 ≤ size)
    (left : Spans 0 before b) (right : Spans (b + size) after (length region)) (are : AreTiles region (before ++ free_tile b size ∷ after))
    (paired : IsPaired region region' (b + 2) next) where
  below : SameWords region region' 0 b
  below = λ i h l. paired.below i (omega arith)

  above : SameWords region region' (b + size) (length region)
  above = λ i h l. paired.above i (omega (arith, some))

  edit : IsEdit region region' before (free_tile b size ∷ []) (free_tile b size ∷ []) after b (b + size)
  edit = record {
    left = left;
    was = (refl, omega (arith, some), refl);
    is = (refl, omega (arith, some), refl);
    right = right;
    same_size = paired.same_size;
    below = below;
    above = above;
  }

  none : (k : ℕ) → b ≤ k → k < b + size → chunk region' (before ++ free_tile b size ∷ after) k ≡ chunk region (before ++ free_tile b size ∷ after) k
  none k low high = edit-new region region' before (free_tile b size ∷ []) (free_tile b size ∷ []) after b (b + size) edit k low high
      ∙ chunk-free region' (free_tile b size) [] k refl ∙ sym (chunk-free region (free_tile b size) [] k refl)
      ∙ sym (edit-old region region' before (free_tile b size ∷ []) (free_tile b size ∷ []) after b (b + size) edit k low high)

  outside : (k : ℕ) → (k < b) ⊎ (b + size ≤ k) → chunk region' (before ++ free_tile b size ∷ after) k ≡ chunk region (before ++ free_tile b size ∷ after) k
  outside k h = edit-outside region region' before (free_tile b size ∷ []) (free_tile b size ∷ []) after b (b + size) edit k h

  links : (d q : ℕ) → 4 ≤ d → d ≤ 65 → 0 < weigh_free d (at q) (before ++ free_tile b size ∷ after) → ((d ≡ class_in size) → q ≢ b) → link_in region' q ≡ link_in region q
  links d q low high heavy apart =
      let zero-weight : weight d (at q) (free_tile b size) ≡ 0 = light in
      let split = weigh-split d (at q) before (free_tile b size ∷ after) in let split' = weigh-split d (at q) before after in
      links-join region region' before after (links-same region region' 0 b before left below) (links-same region region' (b + size) (length region) after right above)
      d q low high (omega arith)
    where
      light : weight d (at q) (free_tile b size) ≡ 0
      light = ⊎_elim
          (λ (h : 0 < weight d (at q) (free_tile b size)). let is = there d q (free_tile b size) h in absurd (apart (sym is.class) (sym is.place)))
          (λ (h : weight d (at q) (free_tile b size) ≤ 0). omega arith)
          (cases_lt 0 (weight d (at q) (free_tile b size)))

  pub linked : IsLinked region region' (before ++ free_tile b size ∷ after) (class_in size) b
  linked =
      let cut = are-cut region before (free_tile b size ∷ after) are in
      record {
        tiles = are-join region' before (free_tile b size ∷ after) (are-same region region' 0 b before left cut.0 below) (
          tile-linked region region' (free_tile b size) cut.1.0 refl (λ i h l. paired.below i l) (λ i h l. paired.above i (omega arith)),
          are-same region region' (b + size) (length region) after right cut.1.1 above,
        );
        chunks = λ k. ⊎_elim
            (λ (h : k < b). outside k (inl h))
            (λ (h : b ≤ k). ⊎_elim
            (λ (l : k < b + size). none k h l)
            (λ (l : b + size ≤ k). outside k (inr l))
            (cases_lt k (b + size)))
            (cases_lt k b);
        links = links;
      }

-- ---- a chunk comes out

-- the first of a list
pub unlisted-first : (region firsts : List ℕ) (class link p : ℕ) → IsWhole region firsts → IsSpot region firsts class link p → link ≡ 0 → length firsts ≡ 66
    → IsUnlisted region region (slice_set firsts class (link_in region p)) p
unlisted-first region firsts class link p whole spot none many =
    let list : list_in region firsts class ≡ p ∷ spot.ahead = spot.list ∙ first-of link spot.passed (p ∷ spot.ahead) spot.before none in
    let one = at-itself p in
    let weighs = λ (f : ℕ → ℕ). ap (weigh f) list in
    let is = free-told region firsts (tiles_of region) (free_in (tiles_of region)) class p whole spot.low spot.high (let e = weighs (at p) in omega arith) in
    let leads = subst (Leads region (first_in firsts class)) list (whole.listed.leads class spot.low spot.high) in
    let order = spans-order 0 (length region) (tiles_of region) whole.spans in
    let count = ap (λ (us : List Tile). length us) is.split ∙ length-split is.before (free_tile p is.size) is.after in
    record {
      before = is.before;
      tile = free_tile p is.size;
      after = is.after;
      split = is.split;
      place = refl;
      free = refl;
      same_size = refl;
      tiles = whole.tiles;
      chunks = λ k. refl;
      listed = subst (λ (z : ℕ). IsListed region (slice_set firsts z (link_in region p)) (is.before ++ is.after)) is.class
          (listed-less region region firsts (slice_set firsts (class_in is.size) (link_in region p)) is.before p is.size is.after spot.ahead
          (subst (IsListed region firsts) is.split whole.listed)
          (subst (λ (z : ℕ). Leads region z spot.ahead) (sym (get_or-set_same firsts (class_in is.size) (link_in region p) 0 (omega arith))) leads.1)
          (λ f. ap (λ (z : ℕ). weigh f (list_in region firsts z)) is.class ∙ weighs f)
          (λ c e. get_or-set_other firsts (class_in is.size) c (link_in region p) 0 e)
          (λ c q e low high h. refl)
          (omega arith));
    }

-- one behind another one
pub unlisted-later : (region region' firsts : List ℕ) (class link p : ℕ) → IsWhole region firsts → IsSpot region firsts class link p → 0 < link
    → IsPaired region region' (link - 1 + 2) (link_in region p) → IsUnlisted region region' firsts p
unlisted-later region region' firsts class link p whole spot some paired =
    let was = behind link spot.passed spot.before some in
    let b = was.last in
    let list : list_in region firsts class ≡ passed_to was.passed (b ∷ p ∷ spot.ahead) = spot.list ∙ ap (λ (bs : List ℕ). passed_to bs (p ∷ spot.ahead)) was.split in
    let weighs : (f : ℕ → ℕ) → weigh f (list_in region firsts class) ≡ weigh f was.passed + (f b + (f p + weigh f spot.ahead)) =
    λ f. ap (weigh f) list ∙ weigh-passed f was.passed (b ∷ p ∷ spot.ahead) in
    let one = at-itself p in let other = at-itself b in
    let is = free-told region firsts (tiles_of region) (free_in (tiles_of region)) class p whole spot.low spot.high (let e = weighs (at p) in omega arith) in
    let last = free-told region firsts (tiles_of region) (free_in (tiles_of region)) class b whole spot.low spot.high (let e = weighs (at b) in omega arith) in
    let class-of = last.class in
    let low = spot.low in
    let changed : IsLinked region region' (tiles_of region) (class_in last.size) b = subst (λ (us : List Tile). IsLinked region region' us (class_in last.size) b) (sym last.split)
    (linked region region' last.before b last.size last.after (link_in region p) (omega arith) last.left last.right (subst (AreTiles region) last.split whole.tiles)
    (subst (λ (z : ℕ). IsPaired region region' (z + 2) (link_in region p)) (let e = was.is in omega arith) paired)) in
    let only : weigh (at b) (list_in region firsts class) ≤ 1 =
    let a = whole.listed.holds class spot.low spot.high (at b) in let c = once class b 0 (length region) (tiles_of region) whole.spans in omega arith in
    let place : b + 2 ≡ link - 1 + 2 = (let e = was.is in omega arith) in
    let order = spans-order 0 (length region) (tiles_of region) whole.spans in
    let count = ap (λ (us : List Tile). length us) is.split ∙ length-split is.before (free_tile p is.size) is.after in
    let size = paired.same_size in
    let apart : (q : ℕ) → 0 < weigh (at q) was.passed + weigh (at q) (p ∷ spot.ahead) → q ≢ b = λ q h e.
    absurd (let a = weighs (at b) in let g = subst (λ (z : ℕ). 0 < weigh (at z) was.passed + weigh (at z) (p ∷ spot.ahead)) e h in omega arith) in
    let same : (q : ℕ) → 0 < weigh (at q) was.passed + weigh (at q) (p ∷ spot.ahead) → link_in region' q ≡ link_in region q = λ q h.
    changed.links class q spot.low spot.high (let a = whole.listed.holds class spot.low spot.high (at q) in let g = weighs (at q) in omega arith) (λ e. apart q h) in
    let linked : link_in region' b ≡ link_in region p = subst (λ (z : ℕ). pair_in region' z ≡ link_in region p) (sym place) paired.pair in
    let leads : Leads region' (first_in firsts class) (passed_to was.passed (b ∷ spot.ahead)) =
    leads-on region region' (first_in firsts class) was.passed (b ∷ p ∷ spot.ahead) (b ∷ spot.ahead)
    (λ k h. (
      h.0,
      subst (λ (z : ℕ). Leads region' z spot.ahead) (sym linked)
          (leads-same region region' (link_in region p) spot.ahead h.1.1 (λ q g. same q (omega arith))),
    ))
    (λ q h. same q (omega arith))
    (subst (Leads region (first_in firsts class)) list (whole.listed.leads class spot.low spot.high)) in
    record {
      before = is.before;
      tile = free_tile p is.size;
      after = is.after;
      split = is.split;
      place = refl;
      free = refl;
      same_size = paired.same_size;
      tiles = changed.tiles;
      chunks = changed.chunks;
      listed = listed-less region region' firsts firsts is.before p is.size is.after (passed_to was.passed (b ∷ spot.ahead))
          (subst (IsListed region firsts) is.split whole.listed)
          (subst (λ (z : ℕ). Leads region' (first_in firsts z) (passed_to was.passed (b ∷ spot.ahead))) (sym is.class) leads)
          (λ f. let a = ap (λ (z : ℕ). weigh f (list_in region firsts z)) is.class in let g = weighs f in let h = weigh-passed f was.passed (b ∷ spot.ahead) in omega arith)
          (λ c e. refl)
          (λ c q e low high h. changed.links c q low high (let a = whole.listed.holds c low high (at q) in omega arith) (λ g. absurd (e (g ∙ last.class ∙ sym is.class))))
          (omega arith);
    }

-- ---- the chunk at a spot, and the one before it

pub spot-free : (region firsts : List ℕ) (class link p : ℕ) → IsWhole region firsts → IsSpot region firsts class link p → IsFree region (tiles_of region) class p
spot-free region firsts class link p whole spot =
    let one = at-itself p in
    let list = ap (weigh (at p)) spot.list ∙ weigh-passed (at p) spot.passed (p ∷ spot.ahead) in
    free-told region firsts (tiles_of region) (free_in (tiles_of region)) class p whole spot.low spot.high (omega arith)

pub spot-within : (region firsts : List ℕ) (class link p : ℕ) → IsWhole region firsts → IsSpot region firsts class link p → p + 3 < length region
spot-within region firsts class link p whole spot = let is = spot-free region firsts class link p whole spot in
    let class-of = is.class in let low = is.low in let few = spot.low in omega arith

pub before-within : (region firsts : List ℕ) (class link p : ℕ) → IsWhole region firsts → IsSpot region firsts class link p → 0 < link → link - 1 + 3 < length region
before-within region firsts class link p whole spot some =
    let was = behind link spot.passed spot.before some in
    let one = at-itself was.last in
    let list = ap (weigh (at was.last)) (spot.list ∙ ap (λ (bs : List ℕ). passed_to bs (p ∷ spot.ahead)) was.split) ∙ weigh-passed (at was.last) was.passed (was.last ∷ p ∷ spot.ahead) in
    let is = free-told region firsts (tiles_of region) (free_in (tiles_of region)) class was.last whole spot.low spot.high (omega arith) in
    let class-of = is.class in let low = is.low in let few = spot.low in let e = was.is in omega arith
