-- Lists that are made anew.
use Rattle.std.proofs.Common.{suc, ◌≡◌, ◌≢◌, ℕ, ◌+◌, ◌<◌, ◌≤◌, ◌==◌, ◌⊎◌, inl, inr, Bool, true, false, cond, List, [], ◌∷◌, ◌++◌, length, replicate, refl, sym, ◌∙◌, ap, subst, arith, ⊎_elim, append_assoc}
use Rattle.std.proofs.lemmas.Bool.{cases_eq, cases_lt}
use Rattle.std.proofs.lemmas.Bool.Decides.{nat_tests}
use Rattle.std.specs.Prelude.{nat_lt, ⊤}
use Rattle.core_segment.specs.Heads.{size_in, link_in, HasHead, IsClosed}
use Rattle.core_segment.specs.Lists.{Tile, free_tile, class_in, first_in, with_first, Leads}
use Rattle.core_segment.specs.Layout.{IsTile, AreTiles, Spans, IsLaid, placed_in, tiles_of, free_in}
use Rattle.core_segment.specs.Order.{AreInOrder, first_free, falling, IsTiled, IsRelinked}
use Rattle.core_segment.proofs.LayoutLaws.{SameWords, spans-cut, spans-join, spans-order, are-cut, are-join, are-same, has-head, tiles-are, IsMet, met}
use Rattle.core_segment.proofs.PlaceLaws.{IsEdit}
use Rattle.core_segment.proofs.GiveLaws.{links-same, tile-closed}
use Rattle.core_segment.proofs.OrderLaws.{IsLone, AreLone, AreUsed, listed-in-order, order-none, order-lone, order-push, first-here, first-past}
use Rattle.core_segment.proofs.PlacedLaws.{placed-free, placed-edit}

-- ---- the same chunks

pub tiled : (region region' : List ℕ) (ts : List Tile) → Spans 0 ts (length region) → IsRelinked region region' ts → IsTiled region' ts
tiled region region' ts spans linked = record { spans = subst (Spans 0 ts) (sym linked.same_size) spans; tiles = linked.tiles }

-- the walk finds them again
pub told-again : (region : List ℕ) (ts : List Tile) → IsTiled region ts → tiles_of region ≡ ts
unfolding tiles_of
told-again region ts is = let few = spans-order 0 (length region) ts is.spans in tiles-are region (length region) 0 ts is.spans is.tiles (omega arith)

pub relinked-none : (region : List ℕ) (ts : List Tile) → IsTiled region ts → IsRelinked region region ts
relinked-none region ts is = record { same_size = refl; tiles = is.tiles; placed = refl }

pub tile-free : (t : Tile) → t.owner ≡ 0 → free_tile t.place t.size ≡ t
tile-free t e = ap (λ (z : ℕ). record { place = t.place; size = t.size; owner = z }) (sym e)

-- the first words of a free chunk were written anew
pub relinked-more : (region region' region'' : List ℕ) (before : List Tile) (t : Tile) (after : List Tile) (link : ℕ) → Spans 0 (before ++ t ∷ after) (length region)
    → IsRelinked region region' (before ++ t ∷ after) → t.owner ≡ 0 → IsClosed region' region'' t.place t.size link → IsRelinked region region'' (before ++ t ∷ after)
relinked-more region region' region'' before t after link spans linked none closed =
    let cut = spans-cut 0 (length region) before (t ∷ after) spans in
    let left : Spans 0 before t.place = subst (Spans 0 before) (sym cut.right.0) cut.left in
    let right : Spans (t.place + t.size) after (length region') = subst (Spans (t.place + t.size) after) (sym linked.same_size) (subst (λ (z : ℕ). Spans (z + t.size) after (length region)) (sym cut.right.0) cut.right.2) in
    let are = are-cut region' before (t ∷ after) linked.tiles in
    let some : 0 < t.size = cut.right.1 in
    let edit : IsEdit region' region'' before (t ∷ []) (t ∷ []) after t.place (t.place + t.size) = record {
      left = left;
      was = (refl, some, refl);
      is = (refl, some, refl);
      right = right;
      same_size = closed.same_size;
      below = λ i h l. closed.below i l;
      above = λ i h l. closed.above i h;
    } in
    record {
      same_size = closed.same_size ∙ linked.same_size;
      tiles = are-join region'' before (t ∷ after)
          (are-same region' region'' 0 t.place before left are.0 (λ i h l. closed.below i l)) (
            subst (IsTile region'') (tile-free t none) (tile-closed region' region'' t.place t.size link closed),
            are-same region' region'' (t.place + t.size) (length region') after right are.1.1 (λ i h l. closed.above i h),
          );
      placed = placed-edit region' region'' before (t ∷ []) (t ∷ []) after t.place (t.place + t.size) edit (placed-free region'' t [] none) (placed-free region' t [] none) ∙ linked.placed;
    }

-- ---- the chunk at a place, in a walk over them

pub record IsWalked (ts : List Tile) (size place : ℕ) : Type 0 where
  pub done : List Tile
  pub rest : List Tile
  pub split : ts ≡ done ++ rest
  pub left : Spans 0 done place
  pub right : Spans place rest size

pub walk-none : (region : List ℕ) (ts : List Tile) → IsTiled region ts → IsWalked ts (length region) 0
walk-none region ts is = record { done = []; rest = ts; split = refl; left = refl; right = is.spans }

-- one step further
pub walk-more : (region : List ℕ) (ts : List Tile) (at : ℕ) (w : IsWalked ts (length region) at) (m : IsMet region w.rest at) → IsWalked ts (length region) (at + m.tile.size)
walk-more region ts at w m = record {
  done = w.done ++ m.tile ∷ [];
  rest = m.more;
  split = w.split ∙ ap (λ (us : List Tile). w.done ++ us) m.split ∙ sym (append_assoc w.done (m.tile ∷ []) m.more);
  left = spans-join 0 at (at + m.tile.size) w.done (m.tile ∷ []) w.left (m.place, m.some, refl);
  right = m.right;
}

-- ---- the first free chunk

pub used-join : (before after : List Tile) → AreUsed before → AreUsed after → AreUsed (before ++ after)
used-join [] after l r = r
used-join (t ∷ ts) after l r = (l.0, used-join ts after l.1 r)

pub record IsSought (region : List ℕ) (ts : List Tile) (at : ℕ) : Type 0 where
  pub walk : IsWalked ts (length region) at
  pub used : AreUsed walk.done

pub seek-none : (region : List ℕ) (ts : List Tile) → IsTiled region ts → IsSought region ts 0
unfolding walk-none
seek-none region ts is = record { walk = walk-none region ts is; used = tt }

pub seek-met : (region : List ℕ) (ts : List Tile) (at : ℕ) → IsTiled region ts → (s : IsSought region ts at) → at < length region → IsMet region s.walk.rest at
seek-met region ts at is s low = met region s.walk.rest at (are-cut region s.walk.done s.walk.rest (subst (AreTiles region) s.walk.split is.tiles)).1 s.walk.right low

pub seek-more : (region : List ℕ) (ts : List Tile) (at : ℕ) (s : IsSought region ts at) (m : IsMet region s.walk.rest at) → 0 < m.tile.owner → IsSought region ts (at + m.tile.size)
unfolding walk-more
seek-more region ts at s m own = record {
  walk = walk-more region ts at s.walk m;
  used = used-join s.walk.done (m.tile ∷ []) s.used (own, tt);
}

pub seek-found : (region : List ℕ) (ts : List Tile) (at : ℕ) (s : IsSought region ts at) (m : IsMet region s.walk.rest at) → m.tile.owner ≡ 0 → at ≡ first_free ts (length region)
seek-found region ts at s m none =
    sym (ap (λ (us : List Tile). first_free us (length region)) (s.walk.split ∙ ap (λ (us : List Tile). s.walk.done ++ us) m.split)
    ∙ first-past s.walk.done (m.tile ∷ m.more) (length region) s.used ∙ first-here m.tile m.more (length region) none ∙ m.place)

pub seek-end : (region : List ℕ) (ts : List Tile) (at : ℕ) (s : IsSought region ts at) → length region ≤ at → at ≡ first_free ts (length region)
seek-end region ts at s high = ends s.walk.rest s.walk.right s.walk.split
  where
    ends : (rest : List Tile) → Spans at rest (length region) → ts ≡ s.walk.done ++ rest → at ≡ first_free ts (length region)
    ends [] spans split = spans ∙ sym (ap (λ (us : List Tile). first_free us (length region)) split ∙ first-past s.walk.done [] (length region) s.used)
    ends (t ∷ more) spans split = let some = spans.1 in let order = spans-order (at + t.size) (length region) more spans.2 in absurd (omega arith)

-- ---- chunks that stand in lists, the last one first

listable : (t : Tile) → IsLone t ⊎ ((t.owner ≡ 0) × (4 ≤ t.size))
listable t = ⊎_elim
    (λ (e : t.owner ≡ 0). ⊎_elim (λ (h : t.size < 4). inl (inr h)) (λ (h : 4 ≤ t.size). inr (e, h)) (cases_lt t.size 4))
    (λ (e : t.owner ≢ 0). inl (inl (omega arith)))
    (cases_eq t.owner 0)

falling-here : (t : Tile) (ts : List Tile) (ps : List ℕ) → t.owner ≡ 0 → 4 ≤ t.size → falling (t ∷ ts) ps ≡ falling ts (t.place ∷ ps)
falling-here t ts ps e h = let a : (t.owner == 0) ≡ true = grind (arith, nat_tests) in let b : nat_lt t.size 4 ≡ false = grind (arith, nat_tests) in
    ap (λ (x : Bool). falling ts (cond x (cond (nat_lt t.size 4) ps (t.place ∷ ps)) ps)) a ∙ ap (λ (x : Bool). falling ts (cond x ps (t.place ∷ ps))) b

falling-lone : (t : Tile) (ts : List Tile) (ps : List ℕ) → IsLone t → falling (t ∷ ts) ps ≡ falling ts ps
falling-lone t ts ps h = ⊎_elim
    (λ (u : 0 < t.owner). let a : (t.owner == 0) ≡ false = grind (arith, nat_tests) in ap (λ (x : Bool). falling ts (cond x (cond (nat_lt t.size 4) ps (t.place ∷ ps)) ps)) a)
    (λ (u : t.size < 4). let b : nat_lt t.size 4 ≡ true = grind (arith, nat_tests) in
    ap (λ (x : Bool). falling ts (cond (t.owner == 0) (cond x ps (t.place ∷ ps)) ps)) b ∙ ap (falling ts) (both (t.owner == 0)))
    h
  where
    both : (x : Bool) → cond x ps ps ≡ ps
    both true = refl
    both false = refl

pub falling-split : (before after : List Tile) (ps : List ℕ) → falling (before ++ after) ps ≡ falling after (falling before ps)
falling-split [] after ps = refl
falling-split (t ∷ ts) after ps = falling-split ts after (cond (t.owner == 0) (cond (nat_lt t.size 4) ps (t.place ∷ ps)) ps)

-- the last one
pub record IsLast (ts : List Tile) (ps : List ℕ) : Type 0 where
  pub before : List Tile
  pub tile : Tile
  pub after : List Tile
  pub split : ts ≡ before ++ tile ∷ after
  pub free : tile.owner ≡ 0
  pub some : 4 ≤ tile.size
  pub lone : AreLone after
  pub falls : falling ts ps ≡ tile.place ∷ falling before ps

pub last-of : (ts : List Tile) (ps : List ℕ) → (AreLone ts × (falling ts ps ≡ ps)) ⊎ IsLast ts ps
last-of [] ps = inl (tt, refl)
last-of (t ∷ ts) ps = ⊎_elim
    (λ (h : IsLone t). ⊎_elim
    (λ (n : AreLone ts × (falling ts ps ≡ ps)). inl ((h, n.0), falling-lone t ts ps h ∙ n.1))
    (λ (l : IsLast ts ps). inr (record {
      before = t ∷ l.before;
      tile = l.tile;
      after = l.after;
      split = ap (λ (us : List Tile). t ∷ us) l.split;
      free = l.free;
      some = l.some;
      lone = l.lone;
      falls = falling-lone t ts ps h ∙ l.falls ∙ ap (λ (qs : List ℕ). l.tile.place ∷ qs) (sym (falling-lone t l.before ps h));
    }))
    (last-of ts ps))
    (λ (h : (t.owner ≡ 0) × (4 ≤ t.size)). ⊎_elim
    (λ (n : AreLone ts × (falling ts (t.place ∷ ps) ≡ t.place ∷ ps)). inr (record {
      before = [];
      tile = t;
      after = ts;
      split = refl;
      free = h.0;
      some = h.1;
      lone = n.0;
      falls = falling-here t ts ps h.0 h.1 ∙ n.1;
    }))
    (λ (l : IsLast ts (t.place ∷ ps)). inr (record {
      before = t ∷ l.before;
      tile = l.tile;
      after = l.after;
      split = ap (λ (us : List Tile). t ∷ us) l.split;
      free = l.free;
      some = l.some;
      lone = l.lone;
      falls = falling-here t ts ps h.0 h.1 ∙ l.falls ∙ ap (λ (qs : List ℕ). l.tile.place ∷ qs) (sym (falling-here t l.before ps h.0 h.1));
    }))
    (last-of ts (t.place ∷ ps)))
    (listable t)

-- chunks that end below a place
abbrev pub AreUnder : ℕ → List ℕ → Type 0
AreUnder m [] = ⊤
AreUnder m (p ∷ ps) = (p + 4 ≤ m) × AreUnder m ps

under-more : (m n : ℕ) (ps : List ℕ) → m ≤ n → AreUnder m ps → AreUnder n ps
under-more m n [] le h = tt
under-more m n (p ∷ ps) le h = let a = h.0 in (omega arith, under-more m n ps le h.1)

pub falling-under : (p q : ℕ) (ts : List Tile) (ps : List ℕ) → Spans p ts q → AreUnder p ps → AreUnder q (falling ts ps)
falling-under p q [] ps s h = subst (λ (z : ℕ). AreUnder z ps) s h
falling-under p q (t ∷ ts) ps s h = let place = s.0 in let some = s.1 in ⊎_elim
    (λ (l : IsLone t). subst (AreUnder q) (sym (falling-lone t ts ps l)) (falling-under (p + t.size) q ts ps s.2 (under-more p (p + t.size) ps (omega arith) h)))
    (λ (l : (t.owner ≡ 0) × (4 ≤ t.size)). let many = l.1 in subst (AreUnder q) (sym (falling-here t ts ps l.0 l.1))
    (falling-under (p + t.size) q ts (t.place ∷ ps) s.2 (omega arith, under-more p (p + t.size) ps (omega arith) h)))
    (listable t)

pub leads-under : (region region' : List ℕ) (m link : ℕ) (ps : List ℕ) → AreUnder m ps → SameWords region region' 0 m → Leads region link ps → Leads region' link ps
leads-under region region' m link [] under same l = l
leads-under region region' m link (p ∷ ps) under same l =
    let low = under.0 in
    let a = same (p + 2) (omega arith) (omega arith) in
    let b = same (p + 2 + 1) (omega arith) (omega arith) in
    let here : link_in region' p ≡ link_in region p = omega arith in
    (l.0, subst (λ (z : ℕ). Leads region' z ps) (sym here) (leads-under region region' m (link_in region p) ps under.1 same l.1))

-- ---- the first walk: each is linked to the one before it

pub record IsThreading (old new : List ℕ) (ts : List Tile) (at link : ℕ) : Type 0 where
  pub walk : IsWalked ts (length old) at
  pub linked : IsRelinked old new ts
  pub threads : Leads new link (falling walk.done [])

pub thread-none : (region : List ℕ) (ts : List Tile) → IsTiled region ts → IsThreading region region ts 0 0
unfolding walk-none
thread-none region ts is = record { walk = walk-none region ts is; linked = relinked-none region ts is; threads = refl }

pub thread-met : (old new : List ℕ) (ts : List Tile) (at link : ℕ) (s : IsThreading old new ts at link) → at < length old → IsMet new s.walk.rest at
thread-met old new ts at link s low =
    let size = s.linked.same_size in
    met new s.walk.rest at (are-cut new s.walk.done s.walk.rest (subst (AreTiles new) s.walk.split s.linked.tiles)).1 (subst (Spans at s.walk.rest) (sym s.linked.same_size) s.walk.right) (omega arith)

-- how the walk goes on where links were written
thread-on : (old new : List ℕ) (ts : List Tile) (at link : ℕ) (s : IsThreading old new ts at link) (m : IsMet new s.walk.rest at) → IsWalked ts (length old) (at + m.tile.size)
thread-on old new ts at link s m = record {
  done = s.walk.done ++ m.tile ∷ [];
  rest = m.more;
  split = s.walk.split ∙ ap (λ (us : List Tile). s.walk.done ++ us) m.split ∙ sym (append_assoc s.walk.done (m.tile ∷ []) m.more);
  left = spans-join 0 at (at + m.tile.size) s.walk.done (m.tile ∷ []) s.walk.left (m.place, m.some, refl);
  right = subst (Spans (at + m.tile.size) m.more) s.linked.same_size m.right;
}

pub thread-skip : (old new : List ℕ) (ts : List Tile) (at link : ℕ) (s : IsThreading old new ts at link) (m : IsMet new s.walk.rest at) → IsLone m.tile
    → IsThreading old new ts (at + m.tile.size) link
unfolding thread-on
thread-skip old new ts at link s m lone = record {
  walk = thread-on old new ts at link s m;
  linked = s.linked;
  threads = subst (Leads new link) (sym (falling-split s.walk.done (m.tile ∷ []) [] ∙ falling-lone m.tile [] (falling s.walk.done []) lone)) s.threads;
}

pub thread-more : (old new new' : List ℕ) (ts : List Tile) (at link : ℕ) (s : IsThreading old new ts at link) (m : IsMet new s.walk.rest at) → IsTiled old ts
    → m.tile.owner ≡ 0 → 4 ≤ m.tile.size → IsClosed new new' at m.tile.size link → IsThreading old new' ts (at + m.tile.size) (at + 1)
unfolding thread-on
thread-more old new new' ts at link s m is none some closed =
    let split : ts ≡ s.walk.done ++ m.tile ∷ m.more = s.walk.split ∙ ap (λ (us : List Tile). s.walk.done ++ us) m.split in
    let closed' = subst (λ (z : ℕ). IsClosed new new' z m.tile.size link) (sym m.place) closed in
    record {
      walk = thread-on old new ts at link s m;
      linked = subst (IsRelinked old new') (sym split)
          (relinked-more old new new' s.walk.done m.tile m.more link (subst (λ (us : List Tile). Spans 0 us (length old)) split is.spans) (subst (IsRelinked old new) split s.linked) none closed');
      threads = subst (Leads new' (at + 1)) (sym (falling-split s.walk.done (m.tile ∷ []) [] ∙ falling-here m.tile [] (falling s.walk.done []) none some)) (
        let place = m.place in omega arith,
        subst (λ (z : ℕ). Leads new' z (falling s.walk.done [])) (sym (ap (link_in new') m.place ∙ closed.linked some))
            (leads-under new new' at link (falling s.walk.done []) (falling-under 0 at s.walk.done [] s.walk.left tt) (λ i h l. closed.below i l) s.threads),
      );
    }

pub thread-end : (old new : List ℕ) (ts : List Tile) (at link : ℕ) (s : IsThreading old new ts at link) → length old ≤ at → Leads new link (falling ts [])
thread-end old new ts at link s high = ends s.walk.rest s.walk.right s.walk.split
  where
    ends : (rest : List Tile) → Spans at rest (length old) → ts ≡ s.walk.done ++ rest → Leads new link (falling ts [])
    ends [] spans split = subst (λ (us : List Tile). Leads new link (falling us [])) (sym split) (subst (Leads new link) (sym (falling-split s.walk.done [] [])) s.threads)
    ends (t ∷ more) spans split = let some = spans.1 in let order = spans-order (at + t.size) (length old) more spans.2 in absurd (omega arith)

-- ---- the second walk: each becomes the first of its list

pub record IsRising (old new firsts : List ℕ) (ts : List Tile) (link : ℕ) : Type 0 where
  pub before : List Tile
  pub after : List Tile
  pub split : ts ≡ before ++ after
  pub linked : IsRelinked old new ts
  pub threads : Leads new link (falling before [])
  pub ordered : AreInOrder new firsts after

pub rise-none : (region : List ℕ) (ts : List Tile) (link : ℕ) → IsTiled region ts → Leads region link (falling ts []) → IsRising region region (replicate 66 0) ts link
rise-none region ts link is threads = record {
  before = ts;
  after = [];
  split = sym (append-none ts);
  linked = relinked-none region ts is;
  threads = threads;
  ordered = order-none region;
}
  where
    append-none : (us : List Tile) → us ++ [] ≡ us
    append-none [] = refl
    append-none (u ∷ us) = ap (λ (vs : List Tile). u ∷ vs) (append-none us)

-- the chunk that is linked first, and what is linked behind it
pub record IsNext (new firsts : List ℕ) (ts : List Tile) (at : ℕ) : Type 0 where
  pub before : List Tile
  pub tile : Tile
  pub after : List Tile
  pub split : ts ≡ before ++ tile ∷ after
  pub place : tile.place ≡ at
  pub free : tile.owner ≡ 0
  pub some : 4 ≤ tile.size
  pub low : at + tile.size ≤ length new
  pub head : HasHead new at
  pub sized : size_in new at ≡ tile.size
  pub left : Spans 0 before at
  pub right : Spans (at + tile.size) after (length new)
  pub threads : Leads new (link_in new at) (falling before [])
  pub ordered : AreInOrder new firsts after

leads-one : (region : List ℕ) (link at : ℕ) (p : ℕ) (ps : List ℕ) → Leads region link (p ∷ ps) → link ≡ suc at → (p ≡ at) × Leads region (link_in region at) ps
leads-one region link at p ps l e = let same : p ≡ at = let a = l.0 in omega arith in (same, subst (λ (z : ℕ). Leads region (link_in region z) ps) same l.1)

pub rise-next : (old new firsts : List ℕ) (ts : List Tile) (link at : ℕ) → IsTiled old ts → IsRising old new firsts ts link → link ≡ suc at → IsNext new firsts ts at
rise-next old new firsts ts link at is s e = ⊎_elim
    (λ (n : AreLone s.before × (falling s.before [] ≡ [])). let none : link ≡ 0 = subst (Leads new link) n.1 s.threads in absurd (omega arith))
    (λ (l : IsLast s.before []).
    let split : ts ≡ l.before ++ l.tile ∷ (l.after ++ s.after) = s.split ∙ ap (λ (us : List Tile). us ++ s.after) l.split ∙ append_assoc l.before (l.tile ∷ l.after) s.after in
    let again = tiled old new ts is.spans s.linked in
    let spans = subst (λ (us : List Tile). Spans 0 us (length new)) split again.spans in
    let tile = (are-cut new l.before (l.tile ∷ (l.after ++ s.after)) (subst (AreTiles new) split again.tiles)).1.0 in
    let cut = spans-cut 0 (length new) l.before (l.tile ∷ (l.after ++ s.after)) spans in
    let leads = leads-one new link at l.tile.place (falling l.before []) (subst (Leads new link) l.falls s.threads) e in
    let place = leads.0 in
    let here : cut.at ≡ at = sym cut.right.0 ∙ place in
    let last = spans-order (cut.at + l.tile.size) (length new) (l.after ++ s.after) cut.right.2 in
    record {
      before = l.before;
      tile = l.tile;
      after = l.after ++ s.after;
      split = split;
      place = place;
      free = l.free;
      some = l.some;
      low = omega arith;
      head = subst (HasHead new) place (has-head new l.tile tile cut.right.1 (omega arith));
      sized = ap (size_in new) (sym place) ∙ tile.sized;
      left = subst (Spans 0 l.before) here cut.left;
      right = subst (λ (z : ℕ). Spans (z + l.tile.size) (l.after ++ s.after) (length new)) here cut.right.2;
      threads = leads.1;
      ordered = order-lone new firsts l.after s.after l.lone s.ordered;
    })
    (last-of s.before [])

pub rise-more : (old new new' firsts : List ℕ) (ts : List Tile) (at : ℕ) → IsTiled old ts → IsRelinked old new ts → (n : IsNext new firsts ts at) → length firsts ≡ 66
    → IsClosed new new' at n.tile.size (first_in firsts (class_in n.tile.size)) → IsRising old new' (with_first firsts n.tile.size (at + 1)) ts (link_in new at)
rise-more old new new' firsts ts at is linked n many closed =
    let same : n.tile ≡ free_tile at n.tile.size = sym (tile-free n.tile n.free) ∙ ap (λ (z : ℕ). free_tile z n.tile.size) n.place in
    record {
      before = n.before;
      after = n.tile ∷ n.after;
      split = n.split;
      linked = subst (IsRelinked old new') (sym n.split)
          (relinked-more old new new' n.before n.tile n.after (first_in firsts (class_in n.tile.size)) (subst (λ (us : List Tile). Spans 0 us (length old)) n.split is.spans)
          (subst (IsRelinked old new) n.split linked) n.free (subst (λ (z : ℕ). IsClosed new new' z n.tile.size (first_in firsts (class_in n.tile.size))) (sym n.place) closed));
      threads = leads-under new new' at (link_in new at) (falling n.before []) (falling-under 0 at n.before [] n.left tt) (λ i h l. closed.below i l) n.threads;
      ordered = subst (λ (t : Tile). AreInOrder new' (with_first firsts n.tile.size (at + 1)) (t ∷ n.after)) (sym same)
          (order-push new new' firsts n.after at n.tile.size n.ordered many
          (links-same new new' (at + n.tile.size) (length new) n.after n.right (λ i h l. closed.above i h)) (λ some. closed.linked some));
    }

pub rise-end : (old new firsts : List ℕ) (ts : List Tile) (link : ℕ) → IsRising old new firsts ts link → link ≡ 0 → AreInOrder new firsts ts
rise-end old new firsts ts link s e = ⊎_elim
    (λ (n : AreLone s.before × (falling s.before [] ≡ [])). subst (AreInOrder new firsts) (sym s.split) (order-lone new firsts s.before s.after n.0 s.ordered))
    (λ (l : IsLast s.before []). let a : link ≡ suc l.tile.place = (subst (Leads new link) l.falls s.threads).0 in absurd (omega arith))
    (last-of s.before [])

leads-low : (region : List ℕ) (m link : ℕ) (ps : List ℕ) → AreUnder m ps → Leads region link ps → link ≤ m
leads-low region m link [] under l = let e = l in omega arith
leads-low region m link (p ∷ ps) under l = let e = l.0 in let low = under.0 in omega arith

-- the links fall
pub rise-falls : (new firsts : List ℕ) (ts : List Tile) (at : ℕ) (n : IsNext new firsts ts at) → link_in new at ≤ at
rise-falls new firsts ts at n = leads-low new at (link_in new at) (falling n.before []) (falling-under 0 at n.before [] n.left tt) n.threads

-- ---- what a segment keeps

pub laid-tiled : (region firsts : List ℕ) (ts : List Tile) (free : ℕ) → IsLaid region firsts ts free → IsTiled region ts
laid-tiled region firsts ts free laid = record { spans = laid.spans; tiles = laid.tiles }

pub record IsRetiled (region : List ℕ) (ts : List Tile) : Type 0 where
  pub is : tiles_of region ≡ ts
  pub tiled : IsTiled region (tiles_of region)

pub retiled : (region region' : List ℕ) (ts : List Tile) → IsTiled region ts → IsRelinked region region' ts → IsRetiled region' ts
retiled region region' ts is linked =
    let again = tiled region region' ts is.spans linked in
    let e = told-again region' ts again in
    record { is = e; tiled = subst (IsTiled region') (sym e) again }

pub record IsRelaid (region region' firsts : List ℕ) (free : ℕ) : Type 0 where
  pub is : tiles_of region' ≡ tiles_of region
  pub whole : IsLaid region' firsts (tiles_of region') free
  pub ordered : AreInOrder region' firsts (tiles_of region')
  pub placed : placed_in region' (tiles_of region') ≡ placed_in region (tiles_of region)
  pub same_size : length region' ≡ length region

pub relaid : (region region' region'' firsts firsts' : List ℕ) (free : ℕ) → IsLaid region firsts (tiles_of region) free → IsRelinked region region' (tiles_of region)
    → IsRelinked region' region'' (tiles_of region') → AreInOrder region'' firsts' (tiles_of region') → IsRelaid region region'' firsts' free
relaid region region' region'' firsts firsts' free laid one two ordered =
    let first = retiled region region' (tiles_of region) (laid-tiled region firsts (tiles_of region) free laid) one in
    let second = retiled region' region'' (tiles_of region') first.tiled two in
    let is = second.is ∙ first.is in
    let order = subst (AreInOrder region'' firsts') (sym second.is) ordered in
    let few = spans-order 0 (length region'') (tiles_of region'') second.tiled.spans in
    record {
      is = is;
      whole = record {
        spans = second.tiled.spans;
        tiles = second.tiled.tiles;
        listed = listed-in-order region'' firsts' (tiles_of region'') order (omega arith);
        counted = laid.counted ∙ ap free_in (sym is);
      };
      ordered = order;
      placed = ap (placed_in region'') second.is ∙ two.placed ∙ ap (placed_in region') first.is ∙ one.placed;
      same_size = two.same_size ∙ one.same_size;
    }
