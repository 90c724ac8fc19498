-- What was read of the file, as the image that its bytes are.
use Rattle.std.proofs.Common.{◌≡◌, ℕ, ◌+◌, ◌-◌, ◌<◌, ◌≤◌, ◌^◌, inl, inr, Bool, true, false, List, [], ◌∷◌, ◌++◌, length, Option, None, Some, Result, Ok, Err, IsTrue, refl, sym, ap, ap₂, subst, ◌∙◌, length-append, arith}
use Rattle.long_names.specs.declared.object.Rec.{Rec}
use Rattle.std.specs.Prelude.{All}
use Rattle.image_format.specs.declared.fault.Break.{Break}
use Rattle.image_format.specs.declared.fault.Halt.{Halt}
use Rattle.image_format.specs.declared.opening.ImageHead.{ImageHead}
use Rattle.image_format.specs.Heads.{head_at}
use Rattle.image_format.specs.Reading.{halt}
use Rattle.image_format.specs.Rules as rules
use Rattle.image_format.specs.Rules.{Image, break, image_at, records_at, first_break, whole_break}
use Rattle.image_reader.specs.declared.fault.LoadFault.{LoadFault}
use Rattle.image_reader.specs.declared.fault.LoadFault.TheVariants.{Bad, Read, Disk, Memory}
use Rattle.image_reader.specs.Frames.{IsHalted, IsLoading, IsPartFault}
use Rattle.image_reader.specs.Inside.{IsFillFault, IsHeadFault, TakesRecords}
use Rattle.image_reader.specs.Judged.{IsJudged, IsOfWhole, IsReadFault, ReadsRecords}
use Rattle.image_reader.specs.Window.{AreBytes, Ahead, EndsTruly, file_end, unused}
use Rattle.image_reader.proofs.ByteLaws.{bytes-before, no-bytes}
use Rattle.image_reader.proofs.Heads.{full_above, full_same, head_more}
use Rattle.image_reader.proofs.Stored.{still_stored}
use Rattle.disk_objects.specs.declared.rest.DiskRest.{DiskRest}
use Rattle.image_reader.specs.Loaded.{IsBroken, IsLoadFault, full_of}
use Rattle.loom_host.specs.declared.outside.DiskFault.TheVariants as disk
use Rattle.loom_host.specs.declared.outside.Host.{Ghosts}
use Rattle.loom_host.specs.declared.outside.Role.TheVariants as Role

-- ---- an image, part by part

pub image_whole : (bytes behind : List ℕ) (h : ImageHead) (recs : List Rec) → head_at bytes ≡ Ok (h, behind) → records_at h.opening.objects 0 h.opening.next behind ≡ Ok (recs, []) → image_at bytes ≡ Ok (record { head = h; recs = recs }, [])
unfolding image_at
image_whole bytes behind h recs e f = rw (e, f) refl

no_head : (bytes : List ℕ) (k : Halt) → head_at bytes ≡ Err k → image_at bytes ≡ Err k
unfolding image_at
no_head bytes k e = rw e refl

no_records : (bytes behind : List ℕ) (h : ImageHead) (k : Halt) → head_at bytes ≡ Ok (h, behind) → records_at h.opening.objects 0 h.opening.next behind ≡ Err k → image_at bytes ≡ Err k
unfolding image_at
no_records bytes behind h k e f = rw (e, f) refl

no_end : (bytes behind : List ℕ) (h : ImageHead) (recs : List Rec) (b : ℕ) (rest : List ℕ) → head_at bytes ≡ Ok (h, behind) → records_at h.opening.objects 0 h.opening.next behind ≡ Ok (recs, b ∷ rest) → image_at bytes ≡ Err (halt 9 (length (b ∷ rest)))
unfolding image_at
no_end bytes behind h recs b rest e f = rw (e, f) refl

broke : (bytes : List ℕ) (k : Halt) (rule place : ℕ) → image_at bytes ≡ Err k → k.rule ≡ rule → place + k.left ≡ length bytes → first_break bytes ≡ Some (break rule place)
unfolding first_break
broke bytes k rule place e same at =
    let where_is : length bytes - k.left ≡ place = omega (arith, at) in
    rw e (ap₂ (λ (r p : ℕ). let o : Option Break = Some (break r p) in o) same where_is)

-- a head, and records, that break a rule
pub head_broken : (bytes : List ℕ) (len rule place : ℕ) → len ≡ length bytes → IsHalted len (head_at bytes) (Bad rule place) → first_break bytes ≡ Some (break rule place)
head_broken bytes len rule place same h = broke bytes h.0 rule place (no_head bytes h.0 h.1) h.2 (h.3 ∙ same)

pub records_broken : (bytes behind : List ℕ) (h : ImageHead) (len rule place : ℕ) → len ≡ length bytes → head_at bytes ≡ Ok (h, behind) → IsHalted len (records_at h.opening.objects 0 h.opening.next behind) (Bad rule place) → first_break bytes ≡ Some (break rule place)
records_broken bytes behind h len rule place same e halted = broke bytes halted.0 rule place (no_records bytes behind h halted.0 e halted.1) halted.2 (halted.3 ∙ same)

-- and bytes behind the last record
pub end_broken : (bytes behind rest : List ℕ) (h : ImageHead) (recs : List Rec) (place : ℕ) → head_at bytes ≡ Ok (h, behind) → records_at h.opening.objects 0 h.opening.next behind ≡ Ok (recs, rest) → 0 < length rest → place + length rest ≡ length bytes → first_break bytes ≡ Some (break 9 place)
end_broken bytes behind [] h recs place e f more at = absurd (let no : ⊥ = omega (arith, more) in no)
end_broken bytes behind (b ∷ rest) h recs place e f more at = broke bytes (halt 9 (length (b ∷ rest))) 9 place (no_end bytes behind h recs b rest e f) refl at

-- a rule of the whole image
pub whole_broken : (bytes : List ℕ) (x : Image) (b : Option Break) → image_at bytes ≡ Ok (x, []) → whole_break x ≡ b → first_break bytes ≡ b
unfolding first_break
whole_broken bytes x b e is = rw e is

-- ---- the end

-- where nothing stands in the window, the end came
pub end_came : (ended : Bool) (bytes left : List ℕ) → (ended ≡ false → 262164 ≤ length bytes) → (IsTrue ended → left ≡ []) → bytes ≡ [] → left ≡ []
end_came true bytes left enough ends none = ends refl
end_came false bytes left enough ends none = let long = enough refl in let short = ap length none in absurd (let no : ⊥ = omega (arith, long, short) in no)

pub nothing_left : (bytes left : List ℕ) → bytes ≡ [] → left ≡ [] → bytes ++ left ≡ []
nothing_left bytes left e f = ap₂ (λ (s t : List ℕ). s ++ t) e f

-- ---- why it wasn't read

pub part_read : {H : Type 0} (host : Ghosts H) (old new : H) (room : ℕ) (f : LoadFault) → IsPartFault host old new f
    → ((rule place : ℕ) → f ≡ Bad rule place → IsTrue (host.tells Role.Image) → IsBroken room (host.roles old Role.Image).left (break rule place)) → IsReadFault host old new room f
part_read host old new room (Bad rule place) part broken = broken rule place refl
part_read host old new room (Read count) part broken = part
part_read host old new room (Disk (disk.Work count)) part broken = part
part_read host old new room (Disk (disk.Full held most)) part broken = absurd part
part_read host old new room (Disk (disk.Damaged place name)) part broken = part
part_read host old new room Memory part broken = tt

pub head_unread : {H : Type 0} (host : Ghosts H) (old new : H) (room : ℕ) (bytes : List ℕ) (f : LoadFault) → IsHeadFault room bytes f → (IsTrue (host.tells Role.Image) → IsHeadFault room (host.roles old Role.Image).left f) → IsReadFault host old new room f
head_unread host old new room bytes (Bad rule place) seen h = λ told. let x = h told in (x.1, head_broken (host.roles old Role.Image).left (length (host.roles old Role.Image).left) rule place refl x.0)
head_unread host old new room bytes (Read count) seen h = absurd seen
head_unread host old new room bytes (Disk (disk.Work count)) seen h = absurd seen
head_unread host old new room bytes (Disk (disk.Full held most)) seen h = (seen.0, full_above room bytes held seen.1, λ told. (h told).1)
head_unread host old new room bytes (Disk (disk.Damaged place name)) seen h = absurd seen
head_unread host old new room bytes Memory seen h = absurd seen

-- no bytes came
pub fill_unread : {H : Type 0} (host : Ghosts H) (old new : H) (room : ℕ) (f : LoadFault) → IsLoading host old new → IsFillFault host old new f → IsReadFault host old new room f
fill_unread host old new room (Bad rule place) loading h = absurd h
fill_unread host old new room (Read count) loading h = h
fill_unread host old new room (Disk d) loading h = absurd h
fill_unread host old new room Memory loading h = tt

-- a fault of the host's calls behind other parts
pub fill_later : {H : Type 0} (host : Ghosts H) (old mid new : H) (f : LoadFault) → IsLoading host old mid → IsFillFault host mid new f → IsFillFault host old new f
fill_later host old mid new (Bad rule place) p h = absurd h
fill_later host old mid new (Read count) p h = (h.0, omega (arith, p.later, h.1))
fill_later host old mid new (Disk d) p h = absurd h
fill_later host old mid new Memory p h = tt

-- ---- the refusals of the whole image

pub read_load : {H : Type 0} (host : Ghosts H) (old mid new : H) (room : ℕ) (f : LoadFault) → mid ≡ new → IsReadFault host old mid room f → IsLoadFault host old new room f
read_load {H} host old mid new room f same h = subst (λ (n : H). IsLoadFault host old n room f) same (go f h)
  where
    go : (f : LoadFault) → IsReadFault host old mid room f → IsLoadFault host old mid room f
    go (Bad rule place) h = λ image how. h image
    go (Read count) h = h
    go (Disk (disk.Work count)) h = h
    go (Disk (disk.Full held most)) h = h
    go (Disk (disk.Damaged place name)) h = h
    go Memory h = tt

pub judged_load : {H : Type 0} (host : Ghosts H) (old new : H) (room : ℕ) (x : rules.Image) (f : LoadFault) → (IsTrue (host.tells Role.Image) → image_at (host.roles old Role.Image).left ≡ Ok (x, [])) → (IsTrue (host.tells Role.Image) → full_of room (host.roles old Role.Image).left ≡ None)
    → (IsTrue (host.tells Role.Work) → IsJudged (whole_break x) f) → IsOfWhole f → IsPartFault host old new f → IsLoadFault host old new room f
judged_load host old new room x (Bad rule place) read roomy judged of part = λ image how. elim (how of) [
  | inl work ↦ (roomy image, whole_broken (host.roles old Role.Image).left x (Some (break rule place)) (read image) (judged work))
  | inr unread ↦ let clash : ◌≡◌ {A = Result (Image × List ℕ) Halt} (Ok (x, [])) (Err unread.0) = sym (read image) ∙ unread.1 in absurd (let no : ⊥ = cc in no)
]
judged_load host old new room x (Read count) read roomy judged of part = part
judged_load host old new room x (Disk (disk.Work count)) read roomy judged of part = part
judged_load host old new room x (Disk (disk.Full held most)) read roomy judged of part = absurd part
judged_load host old new room x (Disk (disk.Damaged place name)) read roomy judged of part = part
judged_load host old new room x Memory read roomy judged of part = tt

-- ---- all parts together

module _ {H : Type 0} (host : Ghosts H) (old s1 s2 s3 : H) (w1 w2 w3 w4 : Ahead) (room : ℕ) (head : ImageHead) (names stated : List ℕ) (between rest : DiskRest)
    (begun : IsTrue (host.tells Role.Image) → unused w1 (host.roles s1 Role.Image) ≡ (host.roles old Role.Image).left)
    (enough : w1.ended ≡ false → 262164 ≤ length w1.bytes)
    (ends : IsTrue (host.tells Role.Image) → EndsTruly w1 (host.roles s1 Role.Image))
    (seen : head_at w1.bytes ≡ Ok (head, w2.bytes)) (roomy : full_of room w1.bytes ≡ None) where
  -- the head of the file
  pub file_head : IsTrue (host.tells Role.Image) → head_at (host.roles old Role.Image).left ≡ Ok (head, unused w2 (host.roles s1 Role.Image))
  file_head told = ap head_at (sym (begun told)) ∙ head_more w1.bytes (host.roles s1 Role.Image).left (head, w2.bytes) seen

  pub file_roomy : IsTrue (host.tells Role.Image) → full_of room (host.roles old Role.Image).left ≡ None
  file_roomy told = ap (full_of room) (sym (begun told)) ∙ full_same room w1.bytes (host.roles s1 Role.Image).left w1.ended enough (ends told) ∙ roomy

  -- where it ends
  pub file_ends : w2.place + length w2.bytes ≡ length w1.bytes → IsTrue (host.tells Role.Image) → file_end w2 (host.roles s1 Role.Image).left ≡ length (host.roles old Role.Image).left
  file_ends end told =
      let a = length-append w2.bytes (host.roles s1 Role.Image).left in
      let b = length-append w1.bytes (host.roles s1 Role.Image).left in
      let c = ap length (begun told) in
      omega (arith, a, b, c, end)

  module _ (takes : TakesRecords host s1 s2 between w2 w3 head.opening.objects head.opening.next names stated)
      (filled : IsTrue (host.tells Role.Image) → unused w4 (host.roles s3 Role.Image) ≡ unused w3 (host.roles s2 Role.Image)) where
    pub reads_records : All (λ (b : ℕ). b < 2 ^ 8) w1.bytes → head.opening.objects ≤ room → head.opening.objects ≤ 1048576 → host.roles s3 Role.Work ≡ host.roles s2 Role.Work → rest ≡ between → (w4.ended ≡ false → 262164 ≤ length w4.bytes) → (IsTrue (host.tells Role.Image) → EndsTruly w4 (host.roles s3 Role.Image)) → w4.bytes ≡ []
        → ReadsRecords host old s3 room rest head names stated
    reads_records range low few work same enough4 ends4 none = record {
      recs = takes.recs;
      stated_are = takes.stated_are;
      are = record { last = takes.last; names_are = takes.names_are; listed = takes.listed; stored = λ told. still_stored host s2 s3 between rest takes.recs work same (takes.stored told) };
      few = omega (arith, few, takes.many);
      many = takes.many;
      seen = record { bytes = w1.bytes; rest = w2.bytes; range = range; read = seen };
      roomy = low;
      read = λ told.
          let left = end_came w4.ended w4.bytes (host.roles s3 Role.Image).left enough4 (ends4 told) none in
          let nothing : unused w3 (host.roles s2 Role.Image) ≡ [] = sym (filled told) ∙ nothing_left w4.bytes (host.roles s3 Role.Image).left none left in
          image_whole (host.roles old Role.Image).left (unused w2 (host.roles s1 Role.Image)) head takes.recs (file_head told)
          (takes.read told ∙ ap (λ (b : List ℕ). let x : Result (List Rec × List ℕ) Halt = Ok (takes.recs, b) in x) nothing);
      fits = file_roomy;
      end = λ told. end_came w4.ended w4.bytes (host.roles s3 Role.Image).left enough4 (ends4 told) none;
      bytes = λ told.
          let left = end_came w4.ended w4.bytes (host.roles s3 Role.Image).left enough4 (ends4 told) none in
          let nothing : unused w3 (host.roles s2 Role.Image) ≡ [] = sym (filled told) ∙ nothing_left w4.bytes (host.roles s3 Role.Image).left none left in
          bytes-before w1.bytes w2.bytes (host.roles s1 Role.Image).left (host.roles old Role.Image).left (begun told) range (takes.bytes told (subst AreBytes (sym nothing) no-bytes));
    }

    -- bytes behind the last record
    pub more_bytes : w2.place + length w2.bytes ≡ length w1.bytes → w4.place ≡ w3.place → 0 < length w4.bytes → IsTrue (host.tells Role.Image) → IsBroken room (host.roles old Role.Image).left (break 9 w4.place)
    more_bytes end place more told =
        let a = length-append w4.bytes (host.roles s3 Role.Image).left in
        let b = ap length (filled told) in
        let c = takes.end told in
        let d = file_ends end told in (
          file_roomy told,
          end_broken (host.roles old Role.Image).left (unused w2 (host.roles s1 Role.Image)) (unused w3 (host.roles s2 Role.Image)) head takes.recs w4.place (file_head told) (takes.read told) (omega (arith, a, b, more)) (omega (arith, b, c, d, place)),
        )
