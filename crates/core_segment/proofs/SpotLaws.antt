-- Where free chunks stand in their lists.
use Rattle.std.proofs.Common.{suc, ◌≡◌, ℕ, ◌+◌, ◌<◌, ◌≤◌, ◌==◌, Bool, true, false, cond, List, [], ◌∷◌, ◌++◌, length, refl, sym, ◌∙◌, ap, subst, arith, ⊎_elim}
use Rattle.std.proofs.lemmas.Bool.{cases_lt}
use Rattle.core_segment.specs.Heads.{link_in, HasHead}
use Rattle.core_segment.specs.Lists.{Tile, free_tile, class_in, Leads, list_in, weigh, weight, weigh_free}
use Rattle.core_segment.specs.Layout.{IsTile, AreTiles, Spans, IsLaid}
use Rattle.core_segment.specs.Taking.{passed_to, link_to}
use Rattle.core_segment.proofs.ListLaws.{at, at-itself, among, there}
use Rattle.core_segment.proofs.LayoutLaws.{spans-cut, spans-order, are-cut, has-head}

-- ---- a free chunk of a list

pub record IsFree (region : List ℕ) (ts : List Tile) (c p : ℕ) : Type 0 where
  pub before : List Tile
  pub size : ℕ
  pub after : List Tile
  pub split : ts ≡ before ++ free_tile p size ∷ after
  pub class : class_in size ≡ c
  pub left : Spans 0 before p
  pub right : Spans (p + size) after (length region)
  pub low : p + size ≤ length region
  pub is : IsTile region (free_tile p size)
  pub head : HasHead region p

pub free-told : (region firsts : List ℕ) (ts : List Tile) (free c p : ℕ) → IsLaid region firsts ts free → 4 ≤ c → c ≤ 65 → 0 < weigh (at p) (list_in region firsts c)
    → IsFree region ts c p
free-told region firsts ts free c p laid low high some =
    let is = among c p ts (let e = laid.listed.holds c low high (at p) in omega arith) in
    let same : is.tile ≡ free_tile p is.tile.size = ap (λ (z : ℕ). record { place = z; size = is.tile.size; owner = is.tile.owner }) is.is.place
    ∙ ap (λ (z : ℕ). record { place = p; size = is.tile.size; owner = z }) is.is.owner in
    let split : ts ≡ is.before ++ free_tile p is.tile.size ∷ is.after = is.split ∙ ap (λ (t : Tile). is.before ++ t ∷ is.after) same in
    let cut = spans-cut 0 (length region) is.before (free_tile p is.tile.size ∷ is.after) (subst (λ (us : List Tile). Spans 0 us (length region)) split laid.spans) in
    let tile = (are-cut region is.before (free_tile p is.tile.size ∷ is.after) (subst (AreTiles region) split laid.tiles)).1.0 in
    let there = cut.right.0 in
    let last = spans-order (cut.at + is.tile.size) (length region) is.after cut.right.2 in
    record {
      before = is.before;
      size = is.tile.size;
      after = is.after;
      split = split;
      class = is.is.class;
      left = subst (Spans 0 is.before) (sym there) cut.left;
      right = subst (λ (z : ℕ). Spans (z + is.tile.size) is.after (length region)) (sym there) cut.right.2;
      low = omega arith;
      is = tile;
      head = has-head region (free_tile p is.tile.size) tile cut.right.1 (omega arith);
    }

-- no two chunks begin at one place
none-below : (c q p z : ℕ) (ts : List Tile) → Spans p ts z → q < p → weigh_free c (at q) ts ≡ 0
none-below c q p z [] spans low = refl
none-below c q p z (t ∷ ts) spans low =
    let more = none-below c q (p + t.size) z ts spans.2 (omega arith) in
    let place = spans.0 in ⊎_elim
    (λ (h : 0 < weight c (at q) t). absurd (let e = (there c q t h).place in omega arith))
    (λ (h : weight c (at q) t ≤ 0). omega arith)
    (cases_lt 0 (weight c (at q) t))

weight-once : (c q : ℕ) (t : Tile) → weight c (at q) t ≤ 1
weight-once c q t = few (t.owner == 0) (class_in t.size == c) (t.place == q)
  where
    few : (a b d : Bool) → cond a (cond b (cond d 1 0) 0) 0 ≤ 1
    few true true true = omega arith
    few true true false = omega arith
    few true false d = omega arith
    few false b d = omega arith

pub once : (c q p z : ℕ) (ts : List Tile) → Spans p ts z → weigh_free c (at q) ts ≤ 1
once c q p z [] spans = omega arith
once c q p z (t ∷ ts) spans =
    let more = once c q (p + t.size) z ts spans.2 in
    let place = spans.0 in let some = spans.1 in let few = weight-once c q t in ⊎_elim
    (λ (h : 0 < weight c (at q) t). let e = (there c q t h).place in let rest = none-below c q (p + t.size) z ts spans.2 (omega arith) in omega arith)
    (λ (h : weight c (at q) t ≤ 0). omega arith)
    (cases_lt 0 (weight c (at q) t))

-- ---- places that were passed

pub weigh-passed : (f : ℕ → ℕ) (bs zs : List ℕ) → weigh f (passed_to bs zs) ≡ weigh f bs + weigh f zs
weigh-passed f [] zs = omega arith
weigh-passed f (b ∷ bs) zs = let more = weigh-passed f bs (b ∷ zs) in omega arith

-- other places come behind those that were passed, whose links are as they were
pub leads-on : (region region' : List ℕ) (link : ℕ) (bs zs zs' : List ℕ) → ((k : ℕ) → Leads region k zs → Leads region' k zs')
    → ((q : ℕ) → 0 < weigh (at q) bs → link_in region' q ≡ link_in region q) → Leads region link (passed_to bs zs) → Leads region' link (passed_to bs zs')
leads-on region region' link [] zs zs' on same l = on link l
leads-on region region' link (b ∷ bs) zs zs' on same l = leads-on region region' link bs (b ∷ zs) (b ∷ zs')
    (λ k h. (h.0, subst (λ (z : ℕ). Leads region' z zs') (sym (same b (let one = at-itself b in omega arith))) (on (link_in region b) h.1)))
    (λ q h. same q (omega arith)) l

pub first-of : (link : ℕ) (bs zs : List ℕ) → link ≡ link_to bs → link ≡ 0 → passed_to bs zs ≡ zs
first-of link [] zs e none = refl
first-of link (b ∷ bs) zs e none = absurd (omega arith)

-- the one that was passed last
pub record IsBehind (link : ℕ) (bs : List ℕ) : Type 0 where
  pub last : ℕ
  pub passed : List ℕ
  pub split : bs ≡ last ∷ passed
  pub is : link ≡ suc last

pub behind : (link : ℕ) (bs : List ℕ) → link ≡ link_to bs → 0 < link → IsBehind link bs
behind link [] e some = absurd (omega arith)
behind link (b ∷ bs) e some = record { last = b; passed = bs; split = refl; is = e }
