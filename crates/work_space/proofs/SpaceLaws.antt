-- What the calls of a space do.
use Rattle.std.proofs.Common.{◌≡◌, ◌≢◌, ◌⊎◌, inl, inr, ⊎_elim, ℕ, ◌+◌, ◌-◌, ◌*◌, ◌^◌, ◌%◌, ◌<◌, ◌≤◌, ◌==◌, cond, not, Bool, true, false, nat_lt, List, ◌∷◌, length, get_or, Option, Some, None, Result, Ok, Err, IfOk, IfErr, OnOk, MatchResult, refl, sym, ◌∙◌, ap, subst, arith}
use Rattle.std.proofs.lemmas.Grind.{common_steps}
use Rattle.std.proofs.lemmas.Bool.{cases_eq, cases_lt}
use Rattle.std.proofs.lemmas.List.{get_or_past}
use Rattle.std.proofs.lemmas.Bool.Decides.{nat_tests}
use Rattle.std.proofs.Math.Path.{fun_ext}
use Rattle.std.specs.List.{Contains}
use Rattle.loom_host.specs.declared.outside.DiskFault.{DiskFault}
use Rattle.loom_host.specs.declared.outside.DiskFault.TheVariants as fault
use Rattle.loom_host.specs.Bytes.{window, overwritten}
use Rattle.loom_host.proofs.Windows.{window-overwritten_apart}
use Rattle.work_space.specs.declared.space.Space.{Space}
use Rattle.work_space.specs.Blocks.{block_size, put, laid_at, times, link_at, AreBlocks, AreFew}
use Rattle.work_space.specs.Calls.{IsTakeFault, IsDamagedBy, IsFullAt}
use Rattle.loom_host.specs.Work.{IsWorkFault}
use Rattle.work_space.specs.Space.{from_of, end_of, first_of, IsSpace, Takes, Gives, next_place, next_end, is_link, is_broken}
use Rattle.work_space.proofs.BlockLaws.{none-some, size-least, size-most, end-least, laid-within, laid-apart, laid-step}
use Rattle.work_space.proofs.CountLaws.{end-most, blocks-among}
use Rattle.work_space.proofs.FreeLaws.{out-within, out-apart, free-laid, free-front, none-free, next-free, take-free, lay-block, end-fresh, give-block, write-inside, times-at, times-there}

-- ---- choices by the first free block

pub pick-new : {A : Type 0} (n : ℕ) (a b : A) → n ≡ 0 → cond (n == 0) a b ≡ a
pick-new n a b none = grind (arith, common_steps)

pub pick-old : {A : Type 0} (n : ℕ) (a b : A) → n ≢ 0 → cond (n == 0) a b ≡ b
pick-old n a b some = grind (arith, common_steps)

-- ---- a new block

-- no more blocks of a class than places, where all of them are out
new-few : (s : Space) (work laid : List ℕ) (out : ℕ → Option ℕ) (c : ℕ) (places : List ℕ) → IsSpace s work laid out
    → ((p : ℕ) → laid_at (from_of s) laid p ≡ Some c → out p ≢ None)
    → ((p : ℕ) → out p ≡ Some c → Contains places p) → times c laid ≤ length places
new-few s work laid out c places b gone all = blocks-among (from_of s) laid c places (λ p e. all p (go p e (out p) refl))
  where
    go : (p : ℕ) → laid_at (from_of s) laid p ≡ Some c → (o : Option ℕ) → out p ≡ o → out p ≡ Some c
    go p e None is = absurd (gone p e is)
    go p e (Some d) is = is ∙ sym (b.out_laid p d is) ∙ e

lay-takes : (old new : Space) (work laid : List ℕ) (out : ℕ → Option ℕ) (c : ℕ) → c < 15 → first_of old c ≡ 0
    → end_of new ≡ end_of old + block_size c
    → ((d : ℕ) → first_of new d ≡ first_of old d) → from_of new ≡ from_of old → IsSpace old work laid out
    → Takes old new work laid out c (end_of old)
lay-takes old new work laid out c low none grown heads first b = record {
  blocks =
      subst (λ (l : List ℕ). IsSpace new work l (put out (end_of old) (Some c))) (sym (pick-new (first_of old c) (c ∷ laid) laid none))
      (subst (λ (z : ℕ). AreBlocks z (end_of new) (first_of new) work (c ∷ laid) (put out (end_of old) (Some c))) (sym first)
      (subst (λ (f : ℕ → ℕ). AreBlocks (from_of old) (end_of new) f work (c ∷ laid) (put out (end_of old) (Some c))) (sym (fun_ext heads))
      (lay-block (from_of old) (end_of old) (first_of old) work laid out b (end_of new) c low grown)));
  fresh = end-fresh (from_of old) (end_of old) (first_of old) work laid out b;
  behind = behind;
  before = let all = grown in omega arith;
  apart = λ p d e. inl (out-within (from_of old) (end_of old) (first_of old) work laid out b p d e).1;
  reused = λ some. absurd (some none);
  needed = λ z p e. none-free (from_of old) (end_of old) (first_of old) work laid out b c p low none e;
  few = λ places all.
      let most = new-few old work laid out c places b
      (λ p e. none-free (from_of old) (end_of old) (first_of old) work laid out b c p low none e) all in
      let one = times-at c c laid refl in
      let now = ap (λ (l : List ℕ). times c l) (pick-new (first_of old c) (c ∷ laid) laid none) in
      omega arith;
  few_others = λ d away. ap (λ (l : List ℕ). times d l) (pick-new (first_of old c) (c ∷ laid) laid none) ∙ times-there c d laid away;
}
  where
    behind : from_of old ≤ end_of old
    behind = subst (λ (z : ℕ). from_of old ≤ z) (sym b.tiled) (end-least (from_of old) laid)

pub lay-taken : (old new : Space) (work laid : List ℕ) (out : ℕ → Option ℕ) (c : ℕ) (r : Result ℕ DiskFault) → c < 15 → first_of old c ≡ 0
    → IfOk r (λ p. p ≡ end_of old)
    → OnOk r (end_of new ≡ end_of old + block_size c) → ((d : ℕ) → first_of new d ≡ first_of old d) → from_of new ≡ from_of old
    → IsSpace old work laid out
    → IfOk r (Takes old new work laid out c)
lay-taken old new work laid out c (Ok p) low none place grown heads first b =
    subst (λ (z : ℕ). Takes old new work laid out c z) (sym place) (lay-takes old new work laid out c low none grown heads first b)
lay-taken old new work laid out c (Err e) low none place grown heads first b = tt

pub lay-place : (old new : Space) (c : ℕ) (r : Result ℕ DiskFault) → first_of old c ≡ 0 → IfOk r (λ p. p ≡ end_of old)
    → OnOk r (end_of new ≡ end_of old + block_size c)
    → IfOk r (λ p. (p ≡ next_place old c) × (end_of new ≡ next_end old c))
lay-place old new c (Ok p) none place grown = (
  place ∙ sym (pick-new (first_of old c) (end_of old) (first_of old c) none),
  grown
      ∙ sym (pick-new (first_of old c) (end_of old + block_size c) (end_of old) none),
)
lay-place old new c (Err e) none place grown = tt

pub lay-fault : (old : Space) (c before now : ℕ) (r : Result ℕ DiskFault) → first_of old c ≡ 0 → IfErr r (IsFullAt (end_of old) c)
    → IfErr r (IsTakeFault old c before now)
lay-fault old c before now (Ok p) none full = tt
lay-fault old c before now (Err (fault.Work count)) none full = absurd full
lay-fault old c before now (Err (fault.Full held room)) none full = absurd full
lay-fault old c before now (Err (fault.Damaged place name)) none full =
    (full.0, full.1 ∙ sym (pick-new (first_of old c) (end_of old) (first_of old c) none), λ z. full.2)

past : (a b : ℕ) → b ≤ a → nat_lt a b ≡ false
past a b h = grind (arith, nat_tests)

within : (a b : ℕ) → a < b → nat_lt a b ≡ true
within a b h = grind (arith, nat_tests)

pub lay-told : (old : Space) (work : List ℕ) (c : ℕ) (r : Result ℕ DiskFault) → first_of old c ≡ 0
    → OnOk r (end_of old + block_size c ≤ 2 ^ 62) → IfErr r (IsFullAt (end_of old) c)
    → MatchResult r (λ p. is_broken old work c ≡ false) (IsDamagedBy (is_broken old work c))
lay-told old work c (Ok p) none room full =
    pick-new (first_of old c) (nat_lt (2 ^ 62) (end_of old + block_size c)) (not (is_link old (link_at work (first_of old c)))) none
    ∙ past (2 ^ 62) (end_of old + block_size c) room
lay-told old work c (Err (fault.Work count)) none room full = tt
lay-told old work c (Err (fault.Full held room')) none room full = tt
lay-told old work c (Err (fault.Damaged place name)) none room full =
    pick-new (first_of old c) (nat_lt (2 ^ 62) (end_of old + block_size c)) (not (is_link old (link_at work (first_of old c)))) none
    ∙ within (2 ^ 62) (end_of old + block_size c) full.2

pub lay-sound : (old : Space) (work laid : List ℕ) (out : ℕ → Option ℕ) (c before now : ℕ) (r : Result ℕ DiskFault) → c < 15
    → IfErr r (IsFullAt (end_of old) c) → IsSpace old work laid out
    → AreFew laid → from_of old < 2 ^ 61 → IfErr r (IsWorkFault before now)
lay-sound old work laid out c before now (Ok p) low full b few first = tt
lay-sound old work laid out c before now (Err (fault.Work count)) low full b few first = absurd full
lay-sound old work laid out c before now (Err (fault.Full held room)) low full b few first = absurd full
lay-sound old work laid out c before now (Err (fault.Damaged place name)) low full b few first =
    let end = b.tiled in
    let most = end-most (from_of old) laid b.each_class few in
    let size = size-most c low in
    let far = full.2 in
    absurd (omega arith)

-- ---- a free block

-- the link of the first free block is right
pub link-right : (old : Space) (work laid : List ℕ) (out : ℕ → Option ℕ) (c : ℕ) → c < 15 → first_of old c ≢ 0 → IsSpace old work laid out
    → is_link old (link_at work (first_of old c)) ≡ true
link-right old work laid out c low some b = ⊎_elim
    (λ (h : link_at work (first_of old c) ≡ 0). nought (link_at work (first_of old c)) h)
    (λ (h : link_at work (first_of old c) ≢ 0).
    let listed = next-free (from_of old) (end_of old) (first_of old) work laid out b c low some h in
    let is = free-laid (from_of old) (end_of old) (first_of old) work laid out b (link_at work (first_of old c)) c listed in
    let lies = laid-within (from_of old) laid (link_at work (first_of old c)) c is.0 in
    let step = laid-step (from_of old) laid (link_at work (first_of old c)) c is.0 in
    let least = size-least c in
    let end = b.tiled in
    place (link_at work (first_of old c)) step.0 lies.0 (omega arith) step.1)
    (cases_eq (link_at work (first_of old c)) 0)
  where
    nought : (link : ℕ) → link ≡ 0 → is_link old link ≡ true
    nought link h = grind (arith, nat_tests)

    place : (link k : ℕ) → from_of old ≤ link → link < end_of old → link ≡ from_of old + 32 * k → is_link old link ≡ true
    place link k a e s = let m : (link - from_of old) % 32 ≡ 0 = omega arith in grind (arith, nat_tests)

reuse-takes : (old new : Space) (work laid : List ℕ) (out : ℕ → Option ℕ) (c : ℕ) → c < 15 → first_of old c ≢ 0
    → first_of new c ≡ link_at work (first_of old c)
    → ((d : ℕ) → d ≢ c → first_of new d ≡ first_of old d) → end_of new ≡ end_of old → from_of new ≡ from_of old → IsSpace old work laid out
    → Takes old new work laid out c (first_of old c)
reuse-takes old new work laid out c low some here there end first b =
    let is = free-laid (from_of old) (end_of old) (first_of old) work laid out b (first_of old c) c
    (free-front (from_of old) (end_of old) (first_of old) work laid out b c low some) in
    let lies = laid-within (from_of old) laid (first_of old c) c is.0 in
    record {
      blocks =
          subst (λ (l : List ℕ). IsSpace new work l (put out (first_of old c) (Some c)))
          (sym (pick-old (first_of old c) (c ∷ laid) laid some))
          (subst (λ (z : ℕ). AreBlocks z (end_of new) (first_of new) work laid (put out (first_of old c) (Some c))) (sym first)
          (subst (λ (z : ℕ). AreBlocks (from_of old) z (first_of new) work laid (put out (first_of old c) (Some c))) (sym end)
          (take-free (from_of old) (end_of old) (first_of old) work laid out b (first_of new) c low some here there)));
      fresh = is.1;
      behind = lies.0;
      before = let same = b.tiled in omega arith;
      apart = λ p d e. laid-apart (from_of old) laid p d (first_of old c) c (b.out_laid p d e) is.0
          (λ same. none-some (sym is.1 ∙ sym (ap out same) ∙ e));
      reused = λ z. is.0;
      needed = λ none. absurd (some none);
      few = λ places all. let now = ap (λ (l : List ℕ). times c l) (pick-old (first_of old c) (c ∷ laid) laid some) in omega arith;
      few_others = λ d away. ap (λ (l : List ℕ). times d l) (pick-old (first_of old c) (c ∷ laid) laid some);
    }

-- whether a link that was read is right is whether the free block is
pub broken : (old : Space) (work : List ℕ) (c link : ℕ) (right : Bool) → first_of old c ≢ 0 → link ≡ link_at work (first_of old c)
    → is_link old link ≡ right
    → is_broken old work c ≡ not right
broken old work c link right some is test =
    pick-old (first_of old c) (nat_lt (2 ^ 62) (end_of old + block_size c)) (not (is_link old (link_at work (first_of old c)))) some
    ∙ ap not (ap (is_link old) (sym is) ∙ test)

pub true-false : true ≡ false → ⊥
true-false h = cc

-- a list has no first block past its end
pub some-within : (heads : List ℕ) (c : ℕ) → get_or heads c 0 ≢ 0 → c < length heads
some-within heads c some = ⊎_elim (λ (h : c < length heads). h) (λ (h : length heads ≤ c). absurd (some (get_or_past heads c 0 h)))
    (cases_lt c (length heads))

pub reuse-taken : (old new : Space) (work now laid : List ℕ) (out : ℕ → Option ℕ) (c : ℕ) → c < 15 → now ≡ work → first_of old c ≢ 0
    → first_of new c ≡ link_at work (first_of old c) → ((d : ℕ) → d ≢ c → first_of new d ≡ first_of old d) → end_of new ≡ end_of old
    → from_of new ≡ from_of old
    → IsSpace old work laid out → Takes old new now laid out c (first_of old c)
reuse-taken old new work now laid out c low same some here there end first b =
    subst (λ (w : List ℕ). Takes old new w laid out c (first_of old c)) (sym same)
    (reuse-takes old new work laid out c low some here there end first b)

-- ---- a block that is given back

pub give-gives : (old new : Space) (work now laid : List ℕ) (out : ℕ → Option ℕ) (c place : ℕ) (bytes : List ℕ) → out place ≡ Some c
    → length bytes ≡ 8
    → now ≡ overwritten work place bytes → link_at now place ≡ first_of old c → first_of new c ≡ place
    → ((d : ℕ) → d ≢ c → first_of new d ≡ first_of old d)
    → end_of new ≡ end_of old → from_of new ≡ from_of old → IsSpace old work laid out → Gives old new work now laid out c place
give-gives old new work now laid out c place bytes gone size is link here there end first b = record {
  blocks =
      subst (λ (z : ℕ). AreBlocks z (end_of new) (first_of new) now laid (put out place None)) (sym first)
      (subst (λ (z : ℕ). AreBlocks (from_of old) z (first_of new) now laid (put out place None)) (sym end)
      (give-block (from_of old) (end_of old) (first_of old) now laid out
      (subst (λ (w : List ℕ). AreBlocks (from_of old) (end_of old) (first_of old) w laid out) (sym is)
      (write-inside (from_of old) (end_of old) (first_of old) work laid out b place c place bytes gone (omega arith)
      (let least = size-least c in omega arith)))
      (first_of new) place c gone link here there));
  front = λ at n h. rest at n (inl
      (let lies = out-within (from_of old) (end_of old) (first_of old) work laid out b place c gone in omega arith));
  others = λ p d e away. rest p (block_size d)
      (out-apart (from_of old) (end_of old) (first_of old) work laid out b p d place c e gone away);
  rest = rest;
}
  where
    rest : (at n : ℕ) → (at + n ≤ place) ⊎ (place + block_size c ≤ at) → window now at n ≡ window work at n
    rest at n h = ap (λ (w : List ℕ). window w at n) is ∙ window-overwritten_apart work place bytes at n
        (let least = size-least c in ⊎_elim (λ (l : at + n ≤ place). inl l) (λ (l : place + block_size c ≤ at). inr (omega arith)) h)
