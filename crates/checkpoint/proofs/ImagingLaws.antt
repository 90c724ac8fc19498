-- The parts of an image, one after the other, and why one was not put.
use Rattle.std.proofs.Common.{◌≡◌, ℕ, ◌+◌, ◌*◌, ◌≤◌, ◌++◌, List, [], length, take, drop, Some, refl, sym, subst, ap, ap₂, ◌∙◌, append_assoc, arith}
use Rattle.std.specs.Prelude.{slice_get}
use Rattle.std.specs.List.{flat_map}
use Rattle.long_names.specs.Counting.{Rose}
use Rattle.long_names.specs.Record.{eight_bytes}
use Rattle.long_names.specs.declared.limits.TheConstants.{LONGEST_RECORD}
use Rattle.object_record.specs.Raw.{IsRawRecord, RawRecord, raw_text}
use Rattle.object_record.proofs.Records.{longest-raw}
use Rattle.disk_objects.specs.Disk.{with_count}
use Rattle.image_writer.proofs.PutsLaws.{more_text}
use Rattle.image_writer.proofs.RecordTexts.{long_text, recounted}
use Rattle.loom_host.specs.Work.{IsWorkRead}
use Rattle.loom_host.specs.declared.outside.DiskFault.TheVariants as disk
use Rattle.loom_host.specs.declared.outside.Host.{Ghosts}
use Rattle.checkpoint.specs.Area.{IsBegun, text_of}
use Rattle.checkpoint.specs.Faults.{IsKeepFault}
use Rattle.checkpoint.specs.Layout.{area_in}
use Rattle.checkpoint.specs.declared.area.Area.{Area}
use Rattle.checkpoint.specs.declared.fault.VaultFault.{VaultFault}
use Rattle.checkpoint.specs.declared.fault.VaultFault.TheVariants as fault
use Rattle.checkpoint.specs.declared.layout.TheConstants.{BLOCK}

-- ---- texts

-- of a record, with another count
pub counted-text : (r : RawRecord) (bytes front number tail a b c d : List ℕ) (count : ℕ) → bytes ≡ raw_text r → front ≡ take 8 bytes → number ≡ eight_bytes count → tail ≡ drop 16 bytes
    → b ≡ a ++ front → c ≡ b ++ number → d ≡ c ++ tail → d ≡ a ++ raw_text (with_count r count)
counted-text r bytes front number tail a b c d count is first second third p q s =
    s ∙ ap (λ (l : List ℕ). l ++ tail) (q ∙ ap (λ (l : List ℕ). l ++ number) p) ∙ append_assoc (a ++ front) number tail ∙ append_assoc a front (number ++ tail)
    ∙ ap (λ (l : List ℕ). a ++ l)
    (ap (λ (l : List ℕ). l ++ (number ++ tail)) (first ∙ ap (take 8) is) ∙ ap₂ (λ (n t : List ℕ). take 8 (raw_text r) ++ (n ++ t)) second (third ∙ ap (drop 16) is) ∙ recounted r count)

-- as long as the record
pub counted-fits : (r : RawRecord) (bytes : List ℕ) → IsRawRecord r → bytes ≡ raw_text r → (16 ≤ length bytes) × (length bytes ≤ LONGEST_RECORD)
counted-fits r bytes raw is =
    let long = long_text r in
    let most = longest-raw r raw in
    let same = ap length is in
    (omega arith, omega arith)

-- one record more
pub records-more : (f : ℕ → List ℕ) (names : List ℕ) (i x : ℕ) (old mid now : List ℕ) → slice_get names i ≡ Some x → now ≡ mid ++ f x → mid ≡ old ++ flat_map f (take i names) → now ≡ old ++ flat_map f (take (i + 1) names)
records-more f names i x old mid now at is so_far =
    is ∙ ap (λ (l : List ℕ). l ++ f x) so_far ∙ append_assoc old (flat_map f (take i names)) (f x) ∙ ap (λ (l : List ℕ). old ++ l) (more_text f names i x at)

-- nothing is put yet
begun-text : (a : Area) (w : List ℕ) → IsBegun a → text_of a w ≡ []
unfolding area_in
begun-text a w begun =
    let blocks : a.blocks * BLOCK ≡ 0 = omega arith in
    let filled : a.filled ≡ 0 = omega arith in
    ap₂ (λ m n. area_in w a.parity m ++ take n a.block.items) blocks filled

-- the head and the records, as they are read
pub image-text : (a : Area) (s t m n : ℕ) (w v last mid put head records : List ℕ) → IsBegun a → t ≡ s → m ≡ n → put ≡ head → mid ≡ text_of a w ++ put → last ≡ mid ++ records → area_in v t n ≡ last
    → area_in v s m ≡ head ++ records
image-text a s t m n w v last mid put head records begun same long is first second third =
    ap₂ (area_in v) (sym same) long ∙ third ∙ second
    ∙ ap (λ (l : List ℕ). l ++ records) (first ∙ ap₂ (λ (l k : List ℕ). l ++ k) (begun-text a w begun) is)

-- ---- Work is read, and refusals

pub read-still : {H : Type 0} (host : Ghosts H) (now : H) → IsWorkRead host now now
read-still host now = record { roles = λ r. refl; other_faults = λ r other. refl; later = omega arith; writes = refl }

later-rose : (before between now : ℕ) → before ≤ between → Rose between now → Rose before now
later-rose before between now later rose = omega arith

-- what was refused later on: until then the disk was only read, and no call on the vault failed
pub kept-later : {H : Type 0} (host : Ghosts H) (old mid new : H) (before between now : ℕ) (f : VaultFault) → IsWorkRead host old mid → between ≡ before → IsKeepFault host mid new between now f
    → IsKeepFault host old new before now f
kept-later host old mid new before between now f read calm is = subst (λ (b : ℕ). IsKeepFault host old new b now f) calm (go f is) where
  go : (f : VaultFault) → IsKeepFault host mid new between now f → IsKeepFault host old new between now f
  go (fault.Failed count) is = is
  go (fault.Bad place) is = is
  go (fault.Disk (disk.Work count)) is = (is.0, (is.1.0, later-rose _ _ _ read.later is.1.1))
  go (fault.Disk (disk.Full held room)) is = is
  go (fault.Disk (disk.Damaged place name)) is = is
  go fault.Memory is = is
