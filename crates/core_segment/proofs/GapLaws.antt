-- The first free chunk while a compaction goes on, and free chunks behind it that are joined to it.
use Rattle.std.proofs.Common.{◌≡◌, ◌≢◌, ℕ, ◌+◌, ◌<◌, ◌≤◌, max, List, [], ◌∷◌, ◌++◌, length, Option, Some, refl, sym, ◌∙◌, ap, subst, arith, ⊎_elim}
use Rattle.std.proofs.lemmas.Bool.{cases_eq, cases_lt}
use Rattle.std.proofs.Math.ListN.{length-set}
use Rattle.core_segment.specs.Heads.{size_in, link_in, HasHead, IsClosed}
use Rattle.core_segment.specs.Lists.{Tile, free_tile, class_in, first_in, with_first}
use Rattle.core_segment.specs.Layout.{AreTiles, Spans, IsLaid, placed_in, tiles_of, free_in, largest_in}
use Rattle.core_segment.specs.Order.{AreInOrder, IsGoingOn, first_free}
use Rattle.core_segment.proofs.LayoutLaws.{IsMet, met, spans-cut, spans-join, spans-order, are-cut, are-join, are-same, has-head, free-within, free-split, free-one, largest-split, largest-one}
use Rattle.core_segment.proofs.PlaceLaws.{IsEdit}
use Rattle.core_segment.proofs.GiveLaws.{IsRenewed, renewed, links-same, tile-closed, with-first, with-none}
use Rattle.core_segment.proofs.OrderLaws.{AreUsed, used-lone, listed-in-order, order-lone, order-without, order-push, order-pop, first-here, first-next, first-of, first-at, first-none, used-free, used-largest, largest-low}
use Rattle.core_segment.proofs.PlacedLaws.{placed-free, placed-edit}
use Rattle.core_segment.proofs.RelistLaws.{tile-free}

-- ---- the first free chunk

pub record IsGap (region firsts : List ℕ) (ts : List Tile) (free to gap : ℕ) : Type 0 where
  pub before : List Tile
  pub after : List Tile
  pub split : ts ≡ before ++ free_tile to gap ∷ after
  pub used : AreUsed before
  pub left : Spans 0 before to
  pub some : 0 < gap
  pub right : Spans (to + gap) after (length region)
  pub lower : AreTiles region before
  pub upper : AreTiles region after
  pub head : HasHead region to
  pub low : to + gap ≤ length region
  pub ordered : AreInOrder region firsts (free_tile to gap ∷ after)
  pub counted : free ≡ gap + free_in after

first-within : (p end : ℕ) (ts : List Tile) → Spans p ts end → first_free ts end ≤ end
first-within p end [] s = omega arith
first-within p end (t ∷ ts) s = let place = s.0 in let order = spans-order (p + t.size) end ts s.2 in let more = first-within (p + t.size) end ts s.2 in ⊎_elim
    (λ (h : t.owner ≡ 0). let a = first-here t ts end h in omega arith)
    (λ (h : t.owner ≢ 0). let a = first-next t ts end (omega arith) in omega arith)
    (cases_eq t.owner 0)

none-used : (region firsts : List ℕ) (ts : List Tile) (free to : ℕ) → IsLaid region firsts ts free → to ≡ first_free ts (length region) → length region ≤ to → AreUsed ts
none-used region firsts ts free to laid first high = let low = first-within 0 (length region) ts laid.spans in first-none 0 (length region) ts laid.spans (omega arith)

-- there is one where something is free
pub gap-there : (region firsts : List ℕ) (ts : List Tile) (free to : ℕ) → IsLaid region firsts ts free → to ≡ first_free ts (length region) → 0 < free → to < length region
gap-there region firsts ts free to laid first some = ⊎_elim
    (λ (h : to < length region). h)
    (λ (h : length region ≤ to). let none = used-free ts (none-used region firsts ts free to laid first h) in let e = laid.counted in absurd (omega arith))
    (cases_lt to (length region))

pub gap-none : (region firsts : List ℕ) (ts : List Tile) (free to : ℕ) → IsLaid region firsts ts free → to ≡ first_free ts (length region) → to ≡ length region → largest_in ts ≡ free
gap-none region firsts ts free to laid first end =
    let used = none-used region firsts ts free to laid first (omega arith) in
    let a = used-free ts used in let b = used-largest ts used in let e = laid.counted in
    omega arith

pub gap-at : (region firsts : List ℕ) (ts : List Tile) (free to gap : ℕ) → IsLaid region firsts ts free → IsGoingOn region firsts ts (Some to) → to < length region
    → size_in region to ≡ gap → IsGap region firsts ts free to gap
gap-at region firsts ts free to gap laid going there is =
    let f = first-of to (length region) ts going.1 there in
    let cut = spans-cut 0 (length region) f.before (f.tile ∷ f.after) (subst (λ (us : List Tile). Spans 0 us (length region)) f.split laid.spans) in
    let are = are-cut region f.before (f.tile ∷ f.after) (subst (AreTiles region) f.split laid.tiles) in
    let here : cut.at ≡ to = sym cut.right.0 ∙ f.place in
    let size : f.tile.size ≡ gap = sym are.1.0.sized ∙ ap (size_in region) f.place ∙ is in
    let same : f.tile ≡ free_tile to gap = sym (tile-free f.tile f.free) ∙ ap (λ (z : ℕ). free_tile z f.tile.size) f.place ∙ ap (free_tile to) size in
    let split : ts ≡ f.before ++ free_tile to gap ∷ f.after = f.split ∙ ap (λ (t : Tile). f.before ++ t ∷ f.after) same in
    let some : 0 < gap = subst (λ (z : ℕ). 0 < z) size cut.right.1 in
    let right : Spans (to + gap) f.after (length region) =
    subst (λ (z : ℕ). Spans (to + z) f.after (length region)) size (subst (λ (z : ℕ). Spans (z + f.tile.size) f.after (length region)) here cut.right.2) in
    let order = spans-order (to + gap) (length region) f.after right in
    let fa = used-free f.before f.used in let fb = free-split f.before (free_tile to gap ∷ f.after) in let fc = free-split (free_tile to gap ∷ []) f.after in
    let fd = free-one (free_tile to gap) refl in let fe = laid.counted in let ff = ap free_in split in
    let place = f.place in
    record {
      before = f.before;
      after = f.after;
      split = split;
      used = f.used;
      left = subst (Spans 0 f.before) here cut.left;
      some = some;
      right = right;
      lower = are.0;
      upper = are.1.1;
      head = subst (HasHead region) f.place (has-head region f.tile are.1.0 cut.right.1 (omega arith));
      low = omega arith;
      ordered = order-without region firsts f.before (free_tile to gap ∷ f.after) (used-lone f.before f.used) (subst (AreInOrder region firsts) split going.0);
      counted = omega arith;
    }

pub gap-largest : (region firsts : List ℕ) (ts : List Tile) (free to gap : ℕ) → (g : IsGap region firsts ts free to gap) → largest_in ts ≡ max gap (largest_in g.after)
gap-largest region firsts ts free to gap g =
    let la = ap largest_in g.split in let lb = largest-split g.before (free_tile to gap ∷ g.after) in let lc = largest-split (free_tile to gap ∷ []) g.after in
    let ld = largest-one (free_tile to gap) refl in let le = used-largest g.before g.used in
    omega arith

-- all free words are one chunk
pub gap-whole : (region firsts : List ℕ) (ts : List Tile) (free to gap : ℕ) → IsGap region firsts ts free to gap → gap ≡ free → largest_in ts ≡ free
gap-whole region firsts ts free to gap g e = let a = gap-largest region firsts ts free to gap g in let b = largest-low g.after in let c = g.counted in omega arith

pub gap-part : (region firsts : List ℕ) (ts : List Tile) (free to gap : ℕ) → IsGap region firsts ts free to gap → gap < free → largest_in ts < free
gap-part region firsts ts free to gap g h = let a = gap-largest region firsts ts free to gap g in let b = largest-low g.after in let c = g.counted in let d = g.some in omega arith

-- the chunk behind it
pub gap-next : (region firsts : List ℕ) (ts : List Tile) (free to gap : ℕ) → (g : IsGap region firsts ts free to gap) → gap < free → IsMet region g.after (to + gap)
gap-next region firsts ts free to gap g h =
    let few = free-within (to + gap) (length region) g.after g.right in let c = g.counted in
    met region g.after (to + gap) g.upper g.right (omega arith)

-- ---- a part of the chunks becomes another

pub length-with : (firsts : List ℕ) (size link : ℕ) → length (with_first firsts size link) ≡ length firsts
length-with firsts size link = ⊎_elim
    (λ (h : size < 4). ap (λ (fs : List ℕ). length fs) (with-none firsts size link h))
    (λ (h : 4 ≤ size). ap (λ (fs : List ℕ). length fs) (with-first firsts size link h) ∙ length-set firsts (class_in size) link)
    (cases_lt size 4)

pub renewed-edit : (region region' firsts' : List ℕ) (before old new after : List Tile) (m n free : ℕ) → IsEdit region region' before old new after m n
    → AreTiles region before → AreTiles region after → AreTiles region' new → AreInOrder region' firsts' (before ++ (new ++ after)) → free ≡ free_in (before ++ (new ++ after))
    → IsRenewed region' firsts' (before ++ (new ++ after)) free
renewed-edit region region' firsts' before old new after m n free edit lower upper are ordered counted =
    let spans : Spans 0 (before ++ (new ++ after)) (length region') = subst (Spans 0 (before ++ (new ++ after))) (sym edit.same_size)
    (spans-join 0 m (length region) before (new ++ after) edit.left (spans-join m n (length region) new after edit.is edit.right)) in
    let few = spans-order 0 (length region') (before ++ (new ++ after)) spans in
    renewed region' firsts' (before ++ (new ++ after)) free spans
    (are-join region' before (new ++ after) (are-same region region' 0 m before edit.left lower edit.below)
    (are-join region' new after are (are-same region region' n (length region) after edit.right upper edit.above)))
    (listed-in-order region' firsts' (before ++ (new ++ after)) ordered (omega arith)) counted

-- ---- the chunk behind it is joined to it

pub record IsWidened (region region' firsts' : List ℕ) (ts : List Tile) (free to size : ℕ) : Type 0 where
  pub whole : IsLaid region' firsts' (tiles_of region') free
  pub going : IsGoingOn region' firsts' (tiles_of region') (Some to)
  pub placed : placed_in region' (tiles_of region') ≡ placed_in region ts
  pub largest : largest_in ts ≤ largest_in (tiles_of region')
  pub same_size : length region' ≡ length region
  pub few : size ≤ free

module _ (region region' firsts : List ℕ) (ts : List Tile) (free to gap : ℕ) (g : IsGap region firsts ts free to gap) (m : IsMet region g.after (to + gap))
    (many : length firsts ≡ 66) (none : m.tile.owner ≡ 0) where
  abbrev first : List ℕ
  first = with_first firsts gap (link_in region to)

  abbrev second : List ℕ
  second = with_first first m.tile.size (link_in region (to + gap))

  abbrev wide : Tile
  wide = free_tile to (gap + m.tile.size)

  same : m.tile ≡ free_tile (to + gap) m.tile.size
  same = sym (tile-free m.tile none) ∙ ap (λ (z : ℕ). free_tile z m.tile.size) m.place

  split : ts ≡ g.before ++ ((free_tile to gap ∷ free_tile (to + gap) m.tile.size ∷ []) ++ m.more)
  split = g.split ∙ ap (λ (us : List Tile). g.before ++ free_tile to gap ∷ us) (m.split ∙ ap (λ (t : Tile). t ∷ m.more) same)

  popped : AreInOrder region second m.more
  popped = order-pop region first m.more (to + gap) m.tile.size
      (order-pop region firsts (free_tile (to + gap) m.tile.size ∷ m.more) to gap
      (subst (λ (us : List Tile). AreInOrder region firsts (free_tile to gap ∷ us)) (m.split ∙ ap (λ (t : Tile). t ∷ m.more) same) g.ordered) many)
      (length-with firsts gap (link_in region to) ∙ many)

  counts : free ≡ free_in (g.before ++ ((wide ∷ []) ++ m.more))
  counts =
      let a = g.counted in let b = ap free_in (m.split ∙ ap (λ (t : Tile). t ∷ m.more) same) in
      let c = free-split (free_tile (to + gap) m.tile.size ∷ []) m.more in let d = free-one (free_tile (to + gap) m.tile.size) refl in
      let e = free-split g.before ((wide ∷ []) ++ m.more) in let f = free-split (wide ∷ []) m.more in let h = free-one wide refl in let i = used-free g.before g.used in
      omega arith

  larger : largest_in ts ≤ largest_in (g.before ++ ((wide ∷ []) ++ m.more))
  larger =
      let a = gap-largest region firsts ts free to gap g in let b = ap largest_in (m.split ∙ ap (λ (t : Tile). t ∷ m.more) same) in
      let c = largest-split (free_tile (to + gap) m.tile.size ∷ []) m.more in let d = largest-one (free_tile (to + gap) m.tile.size) refl in
      let e = largest-split g.before ((wide ∷ []) ++ m.more) in let f = largest-split (wide ∷ []) m.more in let h = largest-one wide refl in
      omega arith

  module _ (closed : IsClosed region region' to (gap + m.tile.size) (first_in second (class_in (gap + m.tile.size)))) where
    edit : IsEdit region region' g.before (free_tile to gap ∷ free_tile (to + gap) m.tile.size ∷ []) (wide ∷ []) m.more to (to + gap + m.tile.size)
    edit = record {
      left = g.left;
      was = (refl, g.some, (refl, m.some, refl));
      is = (refl, let a = g.some in omega arith, omega arith);
      right = m.right;
      same_size = closed.same_size;
      below = λ i h l. closed.below i l;
      above = λ i h l. closed.above i (omega arith);
    }

    ordered : AreInOrder region' (with_first second (gap + m.tile.size) (to + 1)) (g.before ++ ((wide ∷ []) ++ m.more))
    ordered = order-lone region' (with_first second (gap + m.tile.size) (to + 1)) g.before (wide ∷ m.more) (used-lone g.before g.used)
        (order-push region region' second m.more to (gap + m.tile.size) popped
        (length-with first m.tile.size (link_in region (to + gap)) ∙ length-with firsts gap (link_in region to) ∙ many)
        (links-same region region' (to + gap + m.tile.size) (length region) m.more m.right (λ i h l. closed.above i (omega arith))) (λ some. closed.linked some))

    pub widened : IsWidened region region' (with_first second (gap + m.tile.size) (to + 1)) ts free to (gap + m.tile.size)
    widened =
        let r = renewed-edit region region' (with_first second (gap + m.tile.size) (to + 1)) g.before (free_tile to gap ∷ free_tile (to + gap) m.tile.size ∷ []) (wide ∷ []) m.more
        to (to + gap + m.tile.size) free edit g.lower (are-cut region (m.tile ∷ []) m.more (subst (AreTiles region) m.split g.upper)).1
        (tile-closed region region' to (gap + m.tile.size) (first_in second (class_in (gap + m.tile.size))) closed, tt) ordered counts in
        let few = free-split (free_tile (to + gap) m.tile.size ∷ []) m.more in let one = free-one (free_tile (to + gap) m.tile.size) refl in
        let all = ap free_in (m.split ∙ ap (λ (t : Tile). t ∷ m.more) same) in let counted = g.counted in
        record {
          whole = r.whole;
          going = subst (λ (us : List Tile). IsGoingOn region' (with_first second (gap + m.tile.size) (to + 1)) us (Some to)) (sym r.is)
              (ordered, sym (first-at g.before wide m.more (length region') g.used refl));
          placed = ap (placed_in region') r.is
              ∙ placed-edit region region' g.before (free_tile to gap ∷ free_tile (to + gap) m.tile.size ∷ []) (wide ∷ []) m.more to (to + gap + m.tile.size) edit
              (placed-free region' wide [] refl)
              (placed-free region (free_tile to gap) (free_tile (to + gap) m.tile.size ∷ []) refl ∙ placed-free region (free_tile (to + gap) m.tile.size) [] refl)
              ∙ ap (placed_in region) (sym split);
          largest = subst (λ (us : List Tile). largest_in ts ≤ largest_in us) (sym r.is) larger;
          same_size = closed.same_size;
          few = omega arith;
        }

-- ---- of a segment

pub gap-in : (region firsts : List ℕ) (free to gap : ℕ) (reached : Option ℕ) → IsLaid region firsts (tiles_of region) free → IsGoingOn region firsts (tiles_of region) reached
    → reached ≡ Some to → to < length region → size_in region to ≡ gap → IsGap region firsts (tiles_of region) free to gap
gap-in region firsts free to gap reached laid going e there is = gap-at region firsts (tiles_of region) free to gap laid (subst (IsGoingOn region firsts (tiles_of region)) e going) there is

pub there-in : (region firsts : List ℕ) (free to : ℕ) (reached : Option ℕ) → IsLaid region firsts (tiles_of region) free → IsGoingOn region firsts (tiles_of region) reached
    → reached ≡ Some to → 0 < free → to < length region
there-in region firsts free to reached laid going e some =
    let at : IsGoingOn region firsts (tiles_of region) (Some to) = subst (IsGoingOn region firsts (tiles_of region)) e going in
    gap-there region firsts (tiles_of region) free to laid at.1 some

-- the first free chunk, and the one behind it
pub record IsPair (region firsts : List ℕ) (free to gap : ℕ) : Type 0 where
  pub first : IsGap region firsts (tiles_of region) free to gap
  pub next : IsMet region first.after (to + gap)

pub pair : (region firsts : List ℕ) (free to gap : ℕ) (reached : Option ℕ) → IsLaid region firsts (tiles_of region) free → IsGoingOn region firsts (tiles_of region) reached
    → reached ≡ Some to → gap < free → size_in region to ≡ gap → IsPair region firsts free to gap
pair region firsts free to gap reached laid going e h is =
    let g = gap-in region firsts free to gap reached laid going e (there-in region firsts free to reached laid going e (omega arith)) is in
    record { first = g; next = gap-next region firsts (tiles_of region) free to gap g h }

pub within-in : (region firsts : List ℕ) (free to : ℕ) (reached : Option ℕ) → IsLaid region firsts (tiles_of region) free → IsGoingOn region firsts (tiles_of region) reached
    → reached ≡ Some to → to ≤ length region
within-in region firsts free to reached laid going e =
    let at : IsGoingOn region firsts (tiles_of region) (Some to) = subst (IsGoingOn region firsts (tiles_of region)) e going in
    let low = first-within 0 (length region) (tiles_of region) laid.spans in let first = at.1 in
    omega arith

pub none-in : (region firsts : List ℕ) (free to : ℕ) (reached : Option ℕ) → IsLaid region firsts (tiles_of region) free → IsGoingOn region firsts (tiles_of region) reached
    → reached ≡ Some to → to ≡ length region → largest_in (tiles_of region) ≡ free
none-in region firsts free to reached laid going e end =
    let at : IsGoingOn region firsts (tiles_of region) (Some to) = subst (IsGoingOn region firsts (tiles_of region)) e going in
    gap-none region firsts (tiles_of region) free to laid at.1 end
