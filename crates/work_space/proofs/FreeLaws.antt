-- Free blocks, and how they are linked.
-- The free lists are one equation of counts (`once`), and each step of them is a lemma by two cases.
use Rattle.std.proofs.Common.{◌≡◌, ◌≢◌, ◌⊎◌, inl, inr, ⊎_elim, ℕ, ◌+◌, ◌^◌, ◌<◌, ◌≤◌, ◌==◌, cond, List, [], ◌∷◌, length, Option, Some, None, refl, sym, ◌∙◌, ap, subst, arith}
use Rattle.std.proofs.lemmas.Grind.{common_steps}
use Rattle.std.proofs.lemmas.Bool.{cases_eq}
use Rattle.std.proofs.lemmas.List.{append-nil}
use Rattle.std.proofs.lemmas.List.Sums.{sum_by-cons}
use Rattle.std.proofs.lemmas.List.Elements.{All-cons}
use Rattle.byteorder.specs.Endian.{big_number, big_bytes}
use Rattle.byteorder.specs.Numbers.{big_number-reads_back}
use Rattle.loom_host.specs.Bytes.{overwritten}
use Rattle.loom_host.proofs.Windows.{window-overwritten_apart, window-overwritten_same, length-overwritten}
use Rattle.work_space.specs.Blocks.{block_size, put, end_behind, laid_at, times, times_free, link_at, AreApart, AreLinked, AreBlocks}
use Rattle.work_space.proofs.BlockLaws.{put-at, put-there, none-some, size-least, end-least, laid-within, laid-apart, laid-end, laid-class}

-- ---- lists

pub times-cons : (p q : ℕ) (rest : List ℕ) → times q (p ∷ rest) ≡ cond (p == q) 1 0 + times q rest
times-cons p q rest = sum_by-cons (λ (x : ℕ). cond (x == q) 1 0) p rest

pub times-at : (p q : ℕ) (rest : List ℕ) → q ≡ p → times q (p ∷ rest) ≡ 1 + times q rest
times-at p q rest same = grind (arith, common_steps)

pub times-there : (p q : ℕ) (rest : List ℕ) → q ≢ p → times q (p ∷ rest) ≡ times q rest
times-there p q rest away = grind (arith, common_steps)

pub times-more : (p q : ℕ) (rest : List ℕ) → times q rest ≤ times q (p ∷ rest)
times-more p q rest = ⊎_elim
    (λ (h : q ≡ p). let all = times-at p q rest h in omega arith)
    (λ (h : q ≢ p). let all = times-there p q rest h in omega arith)
    (cases_eq q p)

-- links that are the same at each place of the list
pub linked-same : (next next' : ℕ → ℕ) (first : ℕ) (list : List ℕ) → ((p : ℕ) → 0 < times p list → next' p ≡ next p)
    → AreLinked next first list → AreLinked next' first list
linked-same next next' first [] same l = l
linked-same next next' first (p ∷ rest) same l =
    let here : 0 < times p (p ∷ rest) = let all = times-at p p rest refl in omega arith in (
      l.0,
      linked-same next next' (next' p) rest
          (λ q h. same q (let more = times-more p q rest in omega arith))
          (subst (λ (z : ℕ). AreLinked next z rest) (sym (same p here)) l.1),
    )

-- a list that has a first place
pub linked-front : (next : ℕ → ℕ) (first : ℕ) (list : List ℕ) → AreLinked next first list → first ≢ 0
    → (rest : List ℕ) × (list ≡ first ∷ rest) × AreLinked next (next first) rest
linked-front next first [] l some = absurd (some l)
linked-front next first (p ∷ rest) l some =
    (rest, ap (λ (z : ℕ). z ∷ rest) (sym l.0), subst (λ (z : ℕ). AreLinked next (next z) rest) (sym l.0) l.1)

-- a list that has none is empty, where its places are above 0
pub linked-none : (next : ℕ → ℕ) (first : ℕ) (list : List ℕ) → AreLinked next first list → first ≡ 0
    → ((p : ℕ) → 0 < times p list → p ≢ 0) → list ≡ []
linked-none next first [] l none above = refl
linked-none next first (p ∷ rest) l none above =
    absurd (above p (let all = times-at p p rest refl in omega arith) (sym l.0 ∙ none))

-- ---- how often a block is on a list

pub free-out : (o x : Option ℕ) (c e : ℕ) → x ≡ Some e → times_free o x c ≡ 0
free-out o x c e is = subst (λ (z : Option ℕ). times_free o z c ≡ 0) (sym is) (go o)
  where
    go : (y : Option ℕ) → times_free y (Some e) c ≡ 0
    go None = refl
    go (Some d) = refl

pub free-none : (o x : Option ℕ) (c : ℕ) → o ≡ None → times_free o x c ≡ 0
free-none o x c is = subst (λ (z : Option ℕ). times_free z x c ≡ 0) (sym is) (go x)
  where
    go : (y : Option ℕ) → times_free None y c ≡ 0
    go None = refl
    go (Some d) = refl

at-class : (c d : ℕ) → d ≡ c → times_free (Some d) None c ≡ 1
at-class c d same = grind (arith, common_steps)

off-class : (c d : ℕ) → d ≢ c → times_free (Some d) None c ≡ 0
off-class c d away = grind (arith, common_steps)

pub free-here : (o x : Option ℕ) (c d : ℕ) → o ≡ Some d → x ≡ None → d ≡ c → times_free o x c ≡ 1
free-here o x c d is none same =
    subst (λ (z : Option ℕ). times_free z x c ≡ 1) (sym is)
    (subst (λ (z : Option ℕ). times_free (Some d) z c ≡ 1) (sym none) (at-class c d same))

pub free-away : (o x : Option ℕ) (c d : ℕ) → o ≡ Some d → x ≡ None → d ≢ c → times_free o x c ≡ 0
free-away o x c d is none away =
    subst (λ (z : Option ℕ). times_free z x c ≡ 0) (sym is)
    (subst (λ (z : Option ℕ). times_free (Some d) z c ≡ 0) (sym none) (off-class c d away))

-- what is on a list is of its class and isn't out, and is there once
pub free-is : (o x : Option ℕ) (c n : ℕ) → n ≡ times_free o x c → 0 < n → (o ≡ Some c) × (x ≡ None) × (n ≡ 1)
free-is None None c n e some = absurd (omega arith)
free-is None (Some y) c n e some = absurd (omega arith)
free-is (Some d) (Some y) c n e some = absurd (omega arith)
free-is (Some d) None c n e some = ⊎_elim
    (λ (h : d ≡ c). (ap (λ (z : ℕ). Some z) h, refl, e ∙ at-class c d h))
    (λ (h : d ≢ c). let none = off-class c d h in absurd (omega arith))
    (cases_eq d c)

-- ---- the steps

-- the first block of a list goes out
pub once-take : (free : ℕ → List ℕ) (at out : ℕ → Option ℕ) (c p : ℕ) (rest : List ℕ)
    → ((d q : ℕ) → times q (free d) ≡ times_free (at q) (out q) d) → free c ≡ p ∷ rest
    → (d q : ℕ) → times q (put free c rest d) ≡ times_free (at q) (put out p (Some c) q) d
once-take free at out c p rest once front d q = ⊎_elim
    (λ (h : q ≡ p).
    let gone = free-out (at q) (put out p (Some c) q) d c (put-at out p (Some c) q h) in
    let was = once c q in
    let all : times q (free c) ≡ 1 + times q rest = ap (λ (l : List ℕ). times q l) front ∙ times-at p q rest h in
    let is = free-is (at q) (out q) c (times q (free c)) was (omega arith) in
    ⊎_elim
    (λ (l : d ≡ c). let one = is.2 in let now = ap (λ (f : List ℕ). times q f) (put-at free c rest d l) in omega arith)
    (λ (l : d ≢ c).
    let none = free-away (at q) (out q) d c is.0 is.1 (λ e. l (sym e)) in
    let now = ap (λ (f : List ℕ). times q f) (put-there free c rest d l) in
    let old = once d q in omega arith)
    (cases_eq d c))
    (λ (h : q ≢ p).
    let same = ap (λ (x : Option ℕ). times_free (at q) x d) (put-there out p (Some c) q h) in
    let old = once d q in
    ⊎_elim
    (λ (l : d ≡ c).
    let now = ap (λ (f : List ℕ). times q f) (put-at free c rest d l) in
    let all : times q (free d) ≡ times q rest = ap (λ (z : ℕ). times q (free z)) l ∙ ap (λ (f : List ℕ). times q f) front
    ∙ times-there p q rest h in
    omega arith)
    (λ (l : d ≢ c). let now = ap (λ (f : List ℕ). times q f) (put-there free c rest d l) in omega arith)
    (cases_eq d c))
    (cases_eq q p)

-- a block that was out goes to the front of its list
pub once-give : (free : ℕ → List ℕ) (at out : ℕ → Option ℕ) (c p : ℕ) → ((d q : ℕ) → times q (free d) ≡ times_free (at q) (out q) d)
    → at p ≡ Some c → out p ≡ Some c
    → (d q : ℕ) → times q (put free c (p ∷ free c) d) ≡ times_free (at q) (put out p None q) d
once-give free at out c p once laid gone d q = ⊎_elim
    (λ (h : q ≡ p).
    let back = put-at out p None q h in
    let at' : at q ≡ Some c = ap at h ∙ laid in
    let out' : out q ≡ Some c = ap out h ∙ gone in
    let old = once d q in
    let none = free-out (at q) (out q) d c out' in
    ⊎_elim
    (λ (l : d ≡ c).
    let now = ap (λ (f : List ℕ). times q f) (put-at free c (p ∷ free c) d l) in
    let one = times-at p q (free c) h in
    let here = free-here (at q) (put out p None q) d c at' back (sym l) in
    let same = ap (λ (z : ℕ). times q (free z)) l in
    omega arith)
    (λ (l : d ≢ c).
    let now = ap (λ (f : List ℕ). times q f) (put-there free c (p ∷ free c) d l) in
    let away = free-away (at q) (put out p None q) d c at' back (λ e. l (sym e)) in
    omega arith)
    (cases_eq d c))
    (λ (h : q ≢ p).
    let same = ap (λ (x : Option ℕ). times_free (at q) x d) (put-there out p None q h) in
    let old = once d q in
    ⊎_elim
    (λ (l : d ≡ c).
    let now = ap (λ (f : List ℕ). times q f) (put-at free c (p ∷ free c) d l) in
    let one = times-there p q (free c) h in
    let same' = ap (λ (z : ℕ). times q (free z)) l in
    omega arith)
    (λ (l : d ≢ c). let now = ap (λ (f : List ℕ). times q f) (put-there free c (p ∷ free c) d l) in omega arith)
    (cases_eq d c))
    (cases_eq q p)

-- a block that is laid goes out at once
pub once-lay : (free : ℕ → List ℕ) (at out : ℕ → Option ℕ) (c p : ℕ) → ((d q : ℕ) → times q (free d) ≡ times_free (at q) (out q) d)
    → at p ≡ None
    → (d q : ℕ) → times q (free d) ≡ times_free (put at p (Some c) q) (put out p (Some c) q) d
once-lay free at out c p once none d q = ⊎_elim
    (λ (h : q ≡ p).
    let gone = free-out (put at p (Some c) q) (put out p (Some c) q) d c (put-at out p (Some c) q h) in
    let was = free-none (at q) (out q) d (ap at h ∙ none) in
    let old = once d q in
    omega arith)
    (λ (h : q ≢ p).
    once d q
    ∙ sym (ap (λ (x : Option ℕ). times_free x (put out p (Some c) q) d) (put-there at p (Some c) q h)
    ∙ ap (λ (x : Option ℕ). times_free (at q) x d) (put-there out p (Some c) q h)))
    (cases_eq q p)

-- ---- the blocks

module _ (from end : ℕ) (first : ℕ → ℕ) (work laid : List ℕ) (out : ℕ → Option ℕ) (b : AreBlocks from end first work laid out) where
  -- a block that is out lies between the first place and the end, and is of a class
  pub out-within : (p c : ℕ) → out p ≡ Some c → (from ≤ p) × (p + block_size c ≤ end) × (c < 15)
  out-within p c e =
      let here = laid-within from laid p c (b.out_laid p c e) in
      let all = b.tiled in
      (here.0, omega arith, laid-class from laid p c b.each_class (b.out_laid p c e))

  pub out-apart : (p c q d : ℕ) → out p ≡ Some c → out q ≡ Some d → p ≢ q → AreApart p c q d
  out-apart p c q d e e' away = laid-apart from laid p c q d (b.out_laid p c e) (b.out_laid q d e') away

  -- a block that was laid
  pub out-or-free : (p c : ℕ) → laid_at from laid p ≡ Some c → (out p ≡ Some c) ⊎ ((out p ≡ None) × (times p (b.free c) ≡ 1))
  out-or-free p c e = go (out p) refl
    where
      go : (o : Option ℕ) → out p ≡ o → (out p ≡ Some c) ⊎ ((out p ≡ None) × (times p (b.free c) ≡ 1))
      go None is = inr (is, b.once c p ∙ free-here (laid_at from laid p) (out p) c c e is refl)
      go (Some d) is = inl (is ∙ sym (b.out_laid p d is) ∙ e)

  -- a free block
  pub free-laid : (p c : ℕ) → 0 < times p (b.free c) → (laid_at from laid p ≡ Some c) × (out p ≡ None)
  free-laid p c some = let is = free-is (laid_at from laid p) (out p) c (times p (b.free c)) (b.once c p) some in (is.0, is.1)

  pub free-apart : (p c q d : ℕ) → 0 < times p (b.free c) → out q ≡ Some d → AreApart p c q d
  free-apart p c q d some e =
      let is = free-laid p c some in
      laid-apart from laid p c q d is.0 (b.out_laid q d e) (λ same. none-some (sym is.1 ∙ ap out same ∙ e))

  -- the link of a free block is a place or 0
  pub free-front : (c : ℕ) → c < 15 → first c ≢ 0 → 0 < times (first c) (b.free c)
  free-front c low some =
      let front = linked-front (link_at work) (first c) (b.free c) (b.linked c low) some in
      let all : times (first c) (b.free c) ≡ 1 + times (first c) front.0 = ap (λ (l : List ℕ). times (first c) l) front.1
      ∙ times-at (first c) (first c) front.0 refl in
      omega arith

  -- where a class has no first free block, all of its blocks are out
  pub none-free : (c p : ℕ) → c < 15 → first c ≡ 0 → laid_at from laid p ≡ Some c → out p ≢ None
  none-free c p low none here back =
      let empty = linked-none (link_at work) (first c) (b.free c) (b.linked c low) none
      (λ q some same. let is = free-laid q c some in let within = laid-within from laid q c is.0 in let above = b.above in
      (let bad : ⊥ = omega arith in bad)) in
      let one = free-here (laid_at from laid p) (out p) c c here back refl in
      let all = b.once c p in
      let nil = ap (λ (l : List ℕ). times p l) empty in
      (let bad : ⊥ = omega arith in bad)

  -- the first free block of a class goes out
  pub take-free : (first' : ℕ → ℕ) (c : ℕ) → c < 15 → first c ≢ 0 → first' c ≡ link_at work (first c)
      → ((d : ℕ) → d ≢ c → first' d ≡ first d)
      → AreBlocks from end first' work laid (put out (first c) (Some c))
  take-free first' c low some here there =
      let front = linked-front (link_at work) (first c) (b.free c) (b.linked c low) some in
      let is = free-laid (first c) c (free-front c low some) in
      record {
        above = b.above;
        each_class = b.each_class;
        tiled = b.tiled;
        within = b.within;
        out_laid = λ p d e. ⊎_elim
            (λ (h : p ≡ first c). ap (laid_at from laid) h ∙ is.0 ∙ sym (put-at out (first c) (Some c) p h) ∙ e)
            (λ (h : p ≢ first c). b.out_laid p d (sym (put-there out (first c) (Some c) p h) ∙ e))
            (cases_eq p (first c));
        free = put b.free c front.0;
        once = once-take b.free (laid_at from laid) out c (first c) front.0 b.once front.1;
        linked = λ d low'. ⊎_elim
            (λ (h : d ≡ c).
            subst (λ (l : List ℕ). AreLinked (link_at work) (first' d) l) (sym (put-at b.free c front.0 d h))
            (subst (λ (z : ℕ). AreLinked (link_at work) z front.0) (sym (ap first' h ∙ here)) front.2))
            (λ (h : d ≢ c).
            subst (λ (l : List ℕ). AreLinked (link_at work) (first' d) l) (sym (put-there b.free c front.0 d h))
            (subst (λ (z : ℕ). AreLinked (link_at work) z (b.free d)) (sym (there d h)) (b.linked d low')))
            (cases_eq d c);
      }

  -- what the link of the first free block says
  pub next-free : (c : ℕ) → c < 15 → first c ≢ 0 → link_at work (first c) ≢ 0 → 0 < times (link_at work (first c)) (b.free c)
  next-free c low some more =
      let front = linked-front (link_at work) (first c) (b.free c) (b.linked c low) some in
      let second = linked-front (link_at work) (link_at work (first c)) front.0 front.2 more in
      let one : times (link_at work (first c)) front.0 ≡ 1 + times (link_at work (first c)) second.0 =
      ap (λ (l : List ℕ). times (link_at work (first c)) l) second.1
      ∙ times-at (link_at work (first c)) (link_at work (first c)) second.0 refl in
      let all = ap (λ (l : List ℕ). times (link_at work (first c)) l) front.1 in
      let less = times-more (first c) (link_at work (first c)) front.0 in
      omega arith

  -- a new block goes out
  pub lay-block : (end' c : ℕ) → c < 15 → end' ≡ end + block_size c → AreBlocks from end' first work (c ∷ laid) (put out end (Some c))
  lay-block end' c low grown = record {
    above = b.above;
    each_class = All-cons (λ (x : ℕ). x < 15) c laid low b.each_class;
    tiled = let all = b.tiled in omega arith;
    within = let all = b.within in omega arith;
    out_laid = λ p d e. ⊎_elim
        (λ (h : p ≡ end). put-at (laid_at from laid) (end_behind from laid) (Some c) p (h ∙ b.tiled) ∙ sym (put-at out end (Some c) p h)
        ∙ e)
        (λ (h : p ≢ end).
        let away : p ≢ end_behind from laid = λ same. h (same ∙ sym b.tiled) in
        put-there (laid_at from laid) (end_behind from laid) (Some c) p away ∙ b.out_laid p d (sym (put-there out end (Some c) p h) ∙ e))
        (cases_eq p end);
    free = b.free;
    once = subst (λ (z : ℕ). (d q : ℕ)
        → times q (b.free d) ≡ times_free (put (laid_at from laid) (end_behind from laid) (Some c) q) (put out z (Some c) q) d)
        (sym b.tiled)
        (once-lay b.free (laid_at from laid) out c (end_behind from laid) b.once (laid-end from laid (end_behind from laid) (omega arith)));
    linked = b.linked;
  }

  -- nothing is out at the end
  pub end-fresh : out end ≡ None
  end-fresh = go (out end) refl
    where
      go : (o : Option ℕ) → out end ≡ o → out end ≡ None
      go None e = e
      go (Some c) e = let here = out-within end c e in let least = size-least c in absurd (omega arith)

  -- a block that was out goes to the front of its list, once its link is written
  pub give-block : (first' : ℕ → ℕ) (p c : ℕ) → out p ≡ Some c → link_at work p ≡ first c → first' c ≡ p
      → ((d : ℕ) → d ≢ c → first' d ≡ first d)
      → AreBlocks from end first' work laid (put out p None)
  give-block first' p c gone link here there = record {
    above = b.above;
    each_class = b.each_class;
    tiled = b.tiled;
    within = b.within;
    out_laid = λ q d e. ⊎_elim
        (λ (h : q ≡ p). absurd (none-some (sym (put-at out p None q h) ∙ e)))
        (λ (h : q ≢ p). b.out_laid q d (sym (put-there out p None q h) ∙ e))
        (cases_eq q p);
    free = put b.free c (p ∷ b.free c);
    once = once-give b.free (laid_at from laid) out c p b.once (b.out_laid p c gone) gone;
    linked = λ d low. ⊎_elim
        (λ (h : d ≡ c).
        subst (λ (l : List ℕ). AreLinked (link_at work) (first' d) l) (sym (put-at b.free c (p ∷ b.free c) d h)) (
          ap first' h ∙ here,
          subst (λ (z : ℕ). AreLinked (link_at work) z (b.free c)) (sym link)
              (b.linked c (subst (λ (z : ℕ). z < 15) h low)),
        ))
        (λ (h : d ≢ c).
        subst (λ (l : List ℕ). AreLinked (link_at work) (first' d) l) (sym (put-there b.free c (p ∷ b.free c) d h))
        (subst (λ (z : ℕ). AreLinked (link_at work) z (b.free d)) (sym (there d h)) (b.linked d low)))
        (cases_eq d c);
  }

  -- ---- writes

  -- a write that no link of a free block meets
  write-apart : (at : ℕ) (bytes : List ℕ) → at + length bytes ≤ end
      → ((p c : ℕ) → 0 < times p (b.free c) → (p + 8 ≤ at) ⊎ (at + length bytes ≤ p))
      → AreBlocks from end first (overwritten work at bytes) laid out
  unfolding link_at
  write-apart at bytes within away = record {
    above = b.above;
    each_class = b.each_class;
    tiled = b.tiled;
    within = let all = b.within in let size = length-overwritten work at bytes in omega arith;
    out_laid = b.out_laid;
    free = b.free;
    once = b.once;
    linked = λ c low. linked-same (link_at work) (link_at (overwritten work at bytes)) (first c) (b.free c)
        (λ p some. ap (λ (l : List ℕ). big_number 8 l) (window-overwritten_apart work at bytes p 8 (away p c some)))
        (b.linked c low);
  }

  -- a write before the first block
  pub write-before : (at : ℕ) (bytes : List ℕ) → at + length bytes ≤ from → AreBlocks from end first (overwritten work at bytes) laid out
  write-before at bytes before =
      write-apart at bytes (let all = b.tiled in let least = laid-least in omega arith)
      (λ p c some. let is = free-laid p c some in let within = laid-within from laid p c is.0 in inr (omega arith))
    where
      laid-least : from ≤ end_behind from laid
      laid-least = end-least from laid

  -- a write in a block that is out
  pub write-inside : (p c at : ℕ) (bytes : List ℕ) → out p ≡ Some c → p ≤ at → at + length bytes ≤ p + block_size c
      → AreBlocks from end first (overwritten work at bytes) laid out
  write-inside p c at bytes gone low high =
      write-apart at bytes (let here = out-within p c gone in omega arith)
      (λ q d some. let least = size-least d in ⊎_elim
      (λ (h : q + block_size d ≤ p). inl (omega arith))
      (λ (h : p + block_size c ≤ q). inr (omega arith))
      (free-apart q d p c some gone))

-- a link that was written is read again
pub link-back : (work : List ℕ) (p x : ℕ) → x < 256 ^ 8 → link_at (overwritten work p (big_bytes 8 x)) p ≡ x
unfolding link_at
link-back work p x fits =
    ap (λ (l : List ℕ). big_number 8 l) (window-overwritten_same work p (big_bytes 8 x) ∙ sym (append-nil (big_bytes 8 x)))
    ∙ big_number-reads_back 8 x [] fits

pub link-written : (work now : List ℕ) (p x : ℕ) (bytes : List ℕ) → now ≡ overwritten work p bytes → bytes ≡ big_bytes 8 x → x < 256 ^ 8
    → link_at now p ≡ x
link-written work now p x bytes is same fits =
    ap (λ (w : List ℕ). link_at w p) (is ∙ ap (λ (l : List ℕ). overwritten work p l) same) ∙ link-back work p x fits
