-- What a change of some bytes of Work leaves of blocks, of the directory and of records.
-- Every change of Work that a call makes is `Touches old new place size`: windows apart from it stay.
use Rattle.std.proofs.Common.{◌≡◌, ◌≢◌, ℕ, ◌+◌, ◌^◌, ◌<◌, ◌≤◌, inl, inr, ⊎_elim, List, length, get_or, Option, Some, sym, ap, subst, ◌∙◌, arith}
use Rattle.std.proofs.lemmas.Bool.{cases_eq}
use Rattle.byteorder.specs.Endian.{big_number}
use Rattle.loom_host.specs.Bytes.{window}
use Rattle.object_record.specs.Raw.{RawRecord}
use Rattle.work_directory.specs.Directory.{end_of, entries_of, IsIn}
use Rattle.work_directory.specs.Work.{SameFrom, SameBefore}
use Rattle.work_directory.specs.declared.directory.Directory.{Directory}
use Rattle.work_directory.proofs.ContentsLaws.{window-same, window-same_from}
use Rattle.work_directory.proofs.EntryLaws.{in-kept, entries-kept}
use Rattle.work_space.specs.Blocks.{block_size, times, link_at, AreBlocks, AreFew}
use Rattle.work_space.specs.Space.{IsSpace, Takes, from_of, end_of as space_end, first_of, next_place}
use Rattle.work_space.specs.declared.space.Space.{Space}
use Rattle.work_space.proofs.BlockLaws.{size-least, end-least, laid-within}
use Rattle.work_space.proofs.CountLaws.{end-most}
use Rattle.work_space.proofs.FreeLaws.{linked-same, out-within, free-laid, free-apart}
use Rattle.work_space.proofs.SpaceLaws.{pick-new}
use Rattle.disk_objects.specs.Disk.{IsSizeClass, IsLaid, tail_text, record_size}
use Rattle.disk_objects.specs.Inside.{Touches, Writes, Stores}
use Rattle.disk_objects.proofs.WindowLaws.{window-shorter, byte-in_window}
use Rattle.disk_objects.proofs.RecordLaws.{length-tail}

-- ---- blocks

module _ (from end : ℕ) (first : ℕ → ℕ) (v w laid : List ℕ) (out : ℕ → Option ℕ) (b : AreBlocks from end first v laid out) where
  -- the links of the free blocks are all that is asked of Work
  blocks-kept : length w ≤ end → ((p c : ℕ) → 0 < times p (b.free c) → window w p 8 ≡ window v p 8) → AreBlocks from end first w laid out
  unfolding link_at
  blocks-kept short same = record {
    above = b.above;
    each_class = b.each_class;
    tiled = b.tiled;
    within = short;
    out_laid = b.out_laid;
    free = b.free;
    once = b.once;
    linked = λ c low. linked-same (link_at v) (link_at w) (first c) (b.free c)
        (λ p some. ap (λ (l : List ℕ). big_number 8 l) (same p c some)) (b.linked c low);
  }

  -- a change in a block that is out
  pub blocks-inside : (p c at n : ℕ) → out p ≡ Some c → p ≤ at → at + n ≤ p + block_size c → Touches v w at n → AreBlocks from end first w laid out
  blocks-inside p c at n gone low high t =
      let here = out-within from end first v laid out b p c gone in
      blocks-kept
      (let short = b.within in let e = t.end in let h = here.1 in omega arith)
      (λ q d some. let least = size-least d in t.rest q 8 (⊎_elim
      (λ (h : q + block_size d ≤ p). inl (omega arith))
      (λ (h : p + block_size c ≤ q). inr (omega arith))
      (free-apart from end first v laid out b q d p c some gone)))

  -- a change before the first block
  pub blocks-front : (n : ℕ) → n ≤ from → Touches v w 0 n → AreBlocks from end first w laid out
  blocks-front n low t =
      let least : from ≤ end = subst (λ (z : ℕ). from ≤ z) (sym b.tiled) (end-least from laid) in
      blocks-kept
      (let short = b.within in let e = t.end in omega arith)
      (λ p c some.
      let is = free-laid from end first v laid out b p c some in
      let within = (laid-within from laid p c is.0).0 in
      t.rest p 8 (inr (omega arith)))

-- a block that is taken over few others lies low
pub place-low : (old new : Space) (work work' laid : List ℕ) (out : ℕ → Option ℕ) (c place : ℕ) → IsSpace old work laid out → AreFew laid
    → from_of old < 2 ^ 61 → Takes old new work' laid out c place → place ≡ next_place old c → place ≤ 2 ^ 62
place-low old new work work' laid out c place b few first t is =
    let most = end-most (from_of old) laid b.each_class few in
    let tiled = b.tiled in
    ⊎_elim
    (λ (none : first_of old c ≡ 0). let at = is ∙ pick-new (first_of old c) (space_end old) (first_of old c) none in omega arith)
    (λ (some : first_of old c ≢ 0).
    let within = (laid-within (from_of old) laid place c (t.reused some)).1 in omega arith)
    (cases_eq (first_of old c) 0)

pub stored-in : (old new : Space) (u v w laid : List ℕ) (out : ℕ → Option ℕ) (raw : RawRecord) (link c place : ℕ) → IsSizeClass c (record_size raw)
    → v ≡ u → Takes old new v laid out c place → Writes v w place raw link → Stores old new u w laid out raw link place
stored-in old new u v w laid out raw link c place is same t wrote = record {
  class = c;
  is_class = is;
  takes = subst (λ (x : List ℕ). Takes old new x laid out c place) same t;
  writes = subst (λ (x : List ℕ). Writes x w place raw link) same wrote;
}

-- ---- the directory

pub front-touched : (n : ℕ) (v w : List ℕ) → SameFrom n v w → Touches v w 0 n
front-touched n v w same = record {
  rest = λ at m apart. ⊎_elim
      (λ (h : at + m ≤ 0). window-same v w at m (λ k l. absurd (omega arith)))
      (λ (h : 0 + n ≤ at). window-same_from n v w at m same (omega (arith, h)))
      apart;
  end = let e = same.end in omega arith;
}

pub before-touched : (place : ℕ) (v w : List ℕ) → ((at n : ℕ) → at + n ≤ place → window w at n ≡ window v at n) → SameBefore place v w
before-touched place v w rest = λ k l. sym (byte-in_window w k) ∙ ap (λ (t : List ℕ). get_or t 0 0) (rest k 1 (omega arith)) ∙ byte-in_window v k

pub directory-kept : (d : Directory) (v w : List ℕ) → ((at n : ℕ) → at + n ≤ end_of d → window w at n ≡ window v at n) → IsIn d v
    → IsIn d w × (entries_of d w ≡ entries_of d v)
directory-kept d v w rest is =
    let same = before-touched (end_of d) v w rest in
    (in-kept d v w same is, entries-kept d v w same)

-- ---- records

pub laid-kept : (v w : List ℕ) (place m : ℕ) (raw : RawRecord) (link : ℕ) → record_size raw ≤ m → window w place m ≡ window v place m
    → IsLaid v place raw link → IsLaid w place raw link
unfolding link_at
laid-kept v w place m raw link fits same laid =
    let size = length-tail raw in
    let at : place + 0 ≡ place = omega arith in
    record {
      names = sym (ap (λ (p : ℕ). window w p 8) at) ∙ window-shorter v w place m 0 8 (omega (arith, size, fits)) same ∙ ap (λ (p : ℕ). window v p 8) at ∙ laid.names;
      link_is = ap (λ (l : List ℕ). big_number 8 l) (window-shorter v w place m 8 8 (omega (arith, size, fits)) same) ∙ laid.link_is;
      tail = window-shorter v w place m 16 (length (tail_text raw)) (omega (arith, size, fits)) same ∙ laid.tail;
    }
